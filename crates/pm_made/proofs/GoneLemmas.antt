-- What is live after entries that take files away, all of which were live.
use Rattle.std.proofs.Common.{◌≡◌, ◌≢◌, zero, suc, Bool, true, false, true≢false, not, List, [], ◌∷◌, ◌++◌, map, None, is_some, inl, inr, Contains, refl, sym, ap, subst, ◌∙◌}
use Rattle.std.specs.List.{AllByRecursion}
use Rattle.pm_manifest.specs.FileId.{id_eq}
use Rattle.pm_manifest.specs.Live.{AreInOrder, CanFollow, Live, id_of, live_after}
use Rattle.pm_manifest.specs.declared.entry.Entry.{Entry}
use Rattle.pm_manifest.specs.declared.file_id.FileId.{FileId}
use Rattle.pm_model_contents.specs.Runs.{IsLive}
use Rattle.pm_model_folder.specs.Entries.{AreLive}
use Rattle.pm_made.specs.Delta.{deleted, is_of_any, left_of}
use Rattle.pm_made.specs.Refusals.{first_not_live}
use Rattle.pm_made.proofs.ListLemmas.{Pairs, any-in, any-not, filter-in, in-filter, in-head, in-or, in-tail, none-found, none-in, pairs-filter, pairs-from, pairs-to}
use Rattle.pm_made.proofs.LiveLemmas.{AreAdds, AreNew, ManifestFacts, adds-follow, among, are-live, some-none, some-same}

-- no two of them are of one file
abbrev pub Apart : Entry → Entry → Type 0
Apart a b = id_of a ≡ id_of b → ⊥

others : (x : Entry) (es : List Entry) → ((y : Entry) → Contains es y → Apart x y) → AllByRecursion (λ (other : Entry). id_of other ≢ id_of x) (map deleted es)
others x [] apart = tt
others x (y ∷ es) apart = (λ same. apart y (in-head y es) (sym same), others x es (λ z h. apart z (in-tail y es z h)))

of-others : (es : List Entry) (id : FileId) → ((e : Entry) → Contains es e → id_of e ≢ id) → AllByRecursion (λ (e : Entry). id_of e ≢ id) (map deleted es)
of-others [] id other = tt
of-others (y ∷ es) id other = (other y (in-head y es), of-others es id (λ z h. other z (in-tail y es z h)))

is-not : (b : Bool) → not b ≡ true → b ≡ false
is-not true is = absurd (true≢false (sym is))
is-not false is = refl

module _ (facts : ManifestFacts) where
  -- nothing is live of a file that they take away
  pub gone : (live : Live) (es : List Entry) (e : Entry) → Pairs Apart es → Contains es e → live_after live (map deleted es) (id_of e) ≡ None
  gone live [] e apart h = absurd (none-in e h)
  gone live (x ∷ es) e apart h = elim (in-or x es e h) as (λ _. live_after live (map deleted (x ∷ es)) (id_of e) ≡ None) [
    | inl is ↦ subst (λ (y : Entry). live_after live (map deleted (x ∷ es)) (id_of y) ≡ None) is
        (facts.last (live (id_of x)) [] (map deleted es) (deleted x) (others x es apart.0))
    | inr more ↦ facts.left (live (id_of e)) (id_of e) (deleted x ∷ []) (map deleted es) ∙ gone (live_after live (deleted x ∷ [])) es e apart.1 more
  ]

  -- what is live of another one stays
  pub stays : (live : Live) (es : List Entry) (id : FileId) → ((e : Entry) → Contains es e → id_of e ≢ id) → live_after live (map deleted es) id ≡ live id
  stays live es id other = facts.others (live id) id (map deleted es) (of-others es id other)

  -- ---- order

  one-goes : (before : Live) (e : Entry) → is_some (before (id_of e)) ≡ true → AreInOrder before (deleted e ∷ [])
  one-goes before e there zero x is = subst (λ (y : Entry). CanFollow before y) (some-same (deleted e) x is) there
  one-goes before e there (suc i) x is = absurd (some-none x (sym is))

  none-goes : (before : Live) → AreInOrder before []
  none-goes before i x is = absurd (some-none x (sym is))

  pub goes-follow : (before : Live) (es : List Entry) → Pairs Apart es → ((e : Entry) → Contains es e → is_some (before (id_of e)) ≡ true)
      → AreInOrder before (map deleted es)
  goes-follow before [] apart there = none-goes before
  goes-follow before (e ∷ es) apart there =
      (facts.order before (deleted e ∷ []) (map deleted es)).1 (
        one-goes before e (there e (in-head e es)),
        goes-follow (live_after before (deleted e ∷ [])) es apart.1
            (λ x h. ap is_some (stays before (e ∷ []) (id_of x) (λ y hy same. elim (in-or e [] y hy) as (λ _. ⊥) [
              | inl is ↦ apart.0 x h (ap id_of is ∙ same)
              | inr none ↦ none-in y none
            ])) ∙ there x (in-tail e es x h)),
      )

  -- ---- what is left

  same-ids : (a b : Entry) → id_eq (id_of a) (id_of b) ≡ true → id_of a ≡ id_of b
  same-ids a b is = (facts.same_id (id_of a) (id_of b)).0 is

  -- an entry of the file is among them, or the test says so
  of-any : (es : List Entry) (e r : Entry) → Contains es r → id_of r ≡ id_of e → is_of_any es e ≡ false → ⊥
  of-any es e r h same none =
      let alike : id_eq (id_of r) (id_of e) ≡ true = (facts.same_id (id_of r) (id_of e)).1 same in
      true≢false (sym alike ∙ any-not (λ (other : Entry). id_eq (id_of other) (id_of e)) es none r h)

  of-none : (es : List Entry) (e : Entry) → ((r : Entry) → Contains es r → id_of r ≢ id_of e) → not (is_of_any es e) ≡ true
  of-none es e none = at (is_of_any es e) refl
    where
      at : (t : Bool) → is_of_any es e ≡ t → not t ≡ true
      at true some = let found = any-in (λ (other : Entry). id_eq (id_of other) (id_of e)) es some in
          absurd (none found.0 found.1 (same-ids found.0 e found.2))
      at false other = refl

  -- live are those that were, without these
  pub left-live : (live : Live) (removed old : List Entry) → Pairs Apart removed → AreLive live old
      → AreLive (live_after live (map deleted removed)) (left_of removed old)
  left-live live removed old apart was = record {
    exact = λ e. (to e, from e);
    apart = pairs-to Apart (left_of removed old) (pairs-filter Apart (λ (e : Entry). not (is_of_any removed e)) old (pairs-from Apart old was.apart));
  }
    where
      to : (e : Entry) → Contains (left_of removed old) e → IsLive (live_after live (map deleted removed)) e
      to e h =
          let found = filter-in (λ (e : Entry). not (is_of_any removed e)) old e h in
          stays live removed (id_of e) (λ r hr same. of-any removed e r hr same (is-not (is_of_any removed e) found.1)) ∙ (was.exact e).0 found.0

      from : (e : Entry) → IsLive (live_after live (map deleted removed)) e → Contains (left_of removed old) e
      from e is = elim (among facts removed (id_of e)) as (λ _. Contains (left_of removed old) e) [
        | inl found ↦ absurd (some-none e (sym is ∙ ap (live_after live (map deleted removed)) (sym found.2) ∙ gone live removed found.0 apart found.1))
        | inr none ↦ in-filter (λ (e : Entry). not (is_of_any removed e)) old e
            ((was.exact e).1 (sym (stays live removed (id_of e) none) ∙ is)) (of-none removed e none)
      ]

  -- nothing is live of a file of which nothing was
  pub still-new : (live : Live) (removed added : List Entry) → Pairs Apart removed → AreNew live added
      → AreNew (live_after live (map deleted removed)) added
  still-new live removed added apart new x h = elim (among facts removed (id_of x)) as (λ _. live_after live (map deleted removed) (id_of x) ≡ None) [
    | inl found ↦ ap (live_after live (map deleted removed)) (sym found.2) ∙ gone live removed found.0 apart found.1
    | inr none ↦ stays live removed (id_of x) none ∙ new x h
  ]

  -- of each file that isn't found to be live no more one is live
  pub there-still : (live : Live) (removed old : List Entry) → AreLive live old → first_not_live old removed ≡ None
      → (e : Entry) → Contains removed e → is_some (live (id_of e)) ≡ true
  there-still live removed old was none e h =
      let some = is-kept (is_of_any old e) (none-found (λ (e : Entry). not (is_of_any old e)) removed none e h) in
      let found = any-in (λ (other : Entry). id_eq (id_of other) (id_of e)) old some in
      ap is_some (ap live (sym (same-ids found.0 e found.2)) ∙ (was.exact found.0).0 found.1)
    where
      is-kept : (b : Bool) → not b ≡ false → b ≡ true
      is-kept true is = refl
      is-kept false is = absurd (true≢false is)

  -- ---- the entries of a delta

  module _ (live after : Live) (removed added old : List Entry) (was : AreLive live old) (apart : Pairs Apart removed) (adds : AreAdds added)
      (new : AreNew live added) (there : first_not_live old removed ≡ None) where
    pub delta-order : AreInOrder live (map deleted removed ++ added)
    delta-order = (facts.order live (map deleted removed) added).1 (
      goes-follow live removed apart (there-still live removed old was there),
      adds-follow facts (live_after live (map deleted removed)) added adds (still-new live removed added apart new),
    )

    pub delta-live : ((id : FileId) → after id ≡ live_after live (map deleted removed ++ added) id) → AreLive after (left_of removed old ++ added)
    delta-live grown =
        are-live facts (live_after live (map deleted removed)) after (left_of removed old) added
        (λ id. grown id ∙ facts.left (live id) id (map deleted removed) added) adds (still-new live removed added apart new)
        (left-live live removed old apart was)
