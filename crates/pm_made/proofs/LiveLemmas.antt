-- What is live after entries that add files, none of which was live.
use Rattle.std.proofs.Common.{◌≡◌, ◌≢◌, ◌↔◌, zero, suc, Bool, true, false, cond, not, List, [], ◌∷◌, ◌++◌, Option, None, Some, is_some, IsTrue, ◌⊎◌, inl, inr, Contains, refl, sym, ap, subst, ◌∙◌}
use Rattle.std.specs.List.{AllByRecursion}
use Rattle.pm_manifest.specs.FileId.{id_eq}
use Rattle.pm_manifest.specs.Live.{AreInOrder, CanFollow, Live, id_of, left_by, live_after, live_at}
use Rattle.pm_manifest.specs.declared.entry.Entry.{Entry}
use Rattle.pm_manifest.specs.declared.file_id.FileId.{FileId}
use Rattle.pm_model_contents.specs.Lists.{none_live}
use Rattle.pm_model_contents.specs.Runs.{IsLive}
use Rattle.pm_model_folder.specs.Entries.{AreLive}
use Rattle.pm_made.proofs.ListLemmas.{Pairs, all-of, in-either, in-head, in-left, in-or, in-right, in-tail, none-in, pairs-append, pairs-from, pairs-to}

-- what the laws of manifests say
pub record ManifestFacts : Type 0 where
  pub same_id : (a b : FileId) → IsTrue (id_eq a b) ↔ (a ≡ b)
  pub last : (before : Option Entry) (first later : List Entry) (e : Entry) → AllByRecursion (λ (other : Entry). id_of other ≢ id_of e) later
      → live_at before (id_of e) (first ++ e ∷ later) ≡ left_by e
  pub others : (before : Option Entry) (id : FileId) (entries : List Entry) → AllByRecursion (λ (other : Entry). id_of other ≢ id) entries
      → live_at before id entries ≡ before
  pub live : (before : Option Entry) (id : FileId) (entries : List Entry) (e : Entry) → live_at before id entries ≡ Some e
      → (before ≡ Some e) ⊎ ((e.add ≡ true) × (id_of e ≡ id))
  pub left : (before : Option Entry) (id : FileId) (first later : List Entry)
      → live_at before id (first ++ later) ≡ live_at (live_at before id first) id later
  pub order : (before : Live) (first later : List Entry)
      → AreInOrder before (first ++ later) ↔ (AreInOrder before first × AreInOrder (live_after before first) later)

-- entries that add files, no two of them one file
pub record AreAdds (es : List Entry) : Type 0 where
  pub add : (e : Entry) → Contains es e → e.add ≡ true
  pub apart : Pairs (λ (a b : Entry). id_of a ≢ id_of b) es

tail-adds : (e : Entry) (es : List Entry) → AreAdds (e ∷ es) → AreAdds es
tail-adds e es are = record { add = λ x h. are.add x (in-tail e es x h); apart = are.apart.1 }

-- none of them was live
abbrev pub AreNew : Live → List Entry → Type 0
AreNew live es = (e : Entry) → Contains es e → live (id_of e) ≡ None

pub some-same : (a b : Entry) → Some a ≡ Some b → a ≡ b
some-same a b e = cc

pub some-none : (a : Entry) → Some a ≡ None → ⊥
some-none a e = cc

module _ (facts : ManifestFacts) where
  -- ---- what is live of one file

  adds-left : (e : Entry) → e.add ≡ true → left_by e ≡ Some e
  adds-left e add = ap (λ (t : Bool). cond t (Some e) None) add

  -- of a file that they add
  pub added : (live : Live) (es : List Entry) (e : Entry) → AreAdds es → Contains es e → live_after live es (id_of e) ≡ Some e
  added live [] e are h = absurd (none-in e h)
  added live (x ∷ es) e are h = elim (in-or x es e h) as (λ _. live_after live (x ∷ es) (id_of e) ≡ Some e) [
    | inl is ↦ subst (λ (y : Entry). live_after live (x ∷ es) (id_of y) ≡ Some y) is
        (facts.last (live (id_of x)) [] es x (all-of (λ (other : Entry). id_of other ≢ id_of x) es (λ y there same. are.apart.0 y there (sym same)))
        ∙ adds-left x (are.add x (in-head x es)))
    | inr more ↦ facts.left (live (id_of e)) (id_of e) (x ∷ []) es ∙ added (live_after live (x ∷ [])) es e (tail-adds x es are) more
  ]

  -- of another one
  pub not-added : (live : Live) (es : List Entry) (id : FileId) → ((e : Entry) → Contains es e → id_of e ≢ id) → live_after live es id ≡ live id
  not-added live es id other = facts.others (live id) id es (all-of (λ (e : Entry). id_of e ≢ id) es other)

  -- whether they add it
  pub among : (es : List Entry) (id : FileId) → ((e : Entry) × Contains es e × (id_of e ≡ id)) ⊎ ((e : Entry) → Contains es e → id_of e ≢ id)
  among [] id = inr (λ e h is. none-in e h)
  among (x ∷ es) id = elim (among es id) as (λ _. ((e : Entry) × Contains (x ∷ es) e × (id_of e ≡ id)) ⊎ ((e : Entry) → Contains (x ∷ es) e → id_of e ≢ id)) [
    | inl found ↦ inl (found.0, in-tail x es found.0 found.1, found.2)
    | inr none ↦ at (id_eq (id_of x) id) refl none
  ]
    where
      at : (t : Bool) → id_eq (id_of x) id ≡ t → ((e : Entry) → Contains es e → id_of e ≢ id)
          → ((e : Entry) × Contains (x ∷ es) e × (id_of e ≡ id)) ⊎ ((e : Entry) → Contains (x ∷ es) e → id_of e ≢ id)
      at true is none = inl (x, in-head x es, (facts.same_id (id_of x) id).0 is)
      at false is none = inr (λ e h same. elim (in-or x es e h) as (λ _. ⊥) [
        | inl one ↦ absurd (let yes : id_eq (id_of x) id ≡ true = (facts.same_id (id_of x) id).1 (ap id_of one ∙ same) in
            let no : true ≡ false = sym yes ∙ is in cc)
        | inr more ↦ none e more same
      ])

  -- ---- what is live of all files

  -- live are those that were, and these
  pub live-or : (live after : Live) (es : List Entry) (e : Entry) → ((id : FileId) → after id ≡ live_after live es id) → AreAdds es → AreNew live es
      → IsLive after e ↔ (IsLive live e ⊎ Contains es e)
  live-or live after es e grown are new = (to, from)
    where
      to : IsLive after e → IsLive live e ⊎ Contains es e
      to is = elim (among es (id_of e)) as (λ _. IsLive live e ⊎ Contains es e) [
        | inl found ↦ inr (subst (Contains es) (some-same found.0 e
            (sym (added live es found.0 are found.1) ∙ ap (live_after live es) found.2 ∙ sym (grown (id_of e)) ∙ is)) found.1)
        | inr none ↦ inl (sym (not-added live es (id_of e) none) ∙ sym (grown (id_of e)) ∙ is)
      ]

      from : IsLive live e ⊎ Contains es e → IsLive after e
      from (inl is) = grown (id_of e) ∙ not-added live es (id_of e) (λ x h same. some-none e (sym is ∙ ap live (sym same) ∙ new x h)) ∙ is
      from (inr h) = grown (id_of e) ∙ added live es e are h

  -- so all of them are live
  pub are-live : (live after : Live) (old es : List Entry) → ((id : FileId) → after id ≡ live_after live es id) → AreAdds es → AreNew live es
      → AreLive live old → AreLive after (old ++ es)
  are-live live after old es grown are new was = record {
    exact = λ e. (
      λ h. (live-or live after es e grown are new).1 (elim (in-either old es e h) as (λ _. IsLive live e ⊎ Contains es e) [
        | inl left ↦ inl ((was.exact e).0 left)
        | inr right ↦ inr right
      ]),
      λ is. elim ((live-or live after es e grown are new).0 is) as (λ _. Contains (old ++ es) e) [
        | inl one ↦ in-left old es e ((was.exact e).1 one)
        | inr h ↦ in-right old es e h
      ],
    );
    apart = pairs-to (λ (a b : Entry). id_of a ≡ id_of b → ⊥) (old ++ es)
        (pairs-append (λ (a b : Entry). id_of a ≡ id_of b → ⊥) old es (pairs-from (λ (a b : Entry). id_of a ≡ id_of b → ⊥) old was.apart) are.apart
        (λ a b ha hb same. some-none a (sym ((was.exact a).0 ha) ∙ ap live same ∙ new b hb)));
  }

  -- ---- order

  one-follows : (before : Live) (e : Entry) → e.add ≡ true → before (id_of e) ≡ None → AreInOrder before (e ∷ [])
  one-follows before e add new zero x is =
      let same : e ≡ x = some-same e x is in
      subst (λ (y : Entry). CanFollow before y) same (ap is_some new ∙ ap not (sym add))
  one-follows before e add new (suc i) x is = absurd (some-none x (sym is))

  none-follow : (before : Live) → AreInOrder before []
  none-follow before i x is = absurd (some-none x (sym is))

  pub adds-follow : (before : Live) (es : List Entry) → AreAdds es → AreNew before es → AreInOrder before es
  adds-follow before [] are new = none-follow before
  adds-follow before (e ∷ es) are new =
      (facts.order before (e ∷ []) es).1 (
        one-follows before e (are.add e (in-head e es)) (new e (in-head e es)),
        adds-follow (live_after before (e ∷ [])) es (tail-adds e es are)
            (λ x h. not-added before (e ∷ []) (id_of x) (λ y hy same. elim (in-or e [] y hy) as (λ _. ⊥) [
              | inl is ↦ are.apart.0 x h (ap id_of is ∙ same)
              | inr none ↦ none-in y none
            ]) ∙ new x (in-tail e es x h)),
      )

  -- ---- all live entries, once more

  -- live files are adds
  pub live-adds : (entries old : List Entry) → AreLive (live_after none_live entries) old → AreAdds old
  live-adds entries old was = record {
    add = λ e h. elim (facts.live None (id_of e) entries e ((was.exact e).0 h)) as (λ _. e.add ≡ true) [
      | inl none ↦ absurd (some-none e (sym none))
      | inr is ↦ is.0
    ];
    apart = pairs-from (λ (a b : Entry). id_of a ≡ id_of b → ⊥) old was.apart;
  }

  -- a manifest of all live entries leaves what was live
  pub merged-live : (entries old : List Entry) (id : FileId) → AreLive (live_after none_live entries) old
      → live_after none_live old id ≡ live_after none_live entries id
  merged-live entries old id was = at (live_after none_live entries id) refl
    where
      at : (found : Option Entry) → live_after none_live entries id ≡ found → live_after none_live old id ≡ live_after none_live entries id
      at None is = not-added none_live old id (λ e h same. some-none e (sym ((was.exact e).0 h) ∙ ap (live_after none_live entries) same ∙ is)) ∙ sym is
      at (Some e) is =
          let own : id_of e ≡ id = elim (facts.live None id entries e is) as (λ _. id_of e ≡ id) [
            | inl none ↦ absurd (some-none e (sym none))
            | inr both ↦ both.1
          ] in
          let here : Contains old e = (was.exact e).1 (ap (live_after none_live entries) own ∙ is) in
          ap (live_after none_live old) (sym own) ∙ added none_live old e (live-adds entries old was) here ∙ sym is
