-- The live files of a group once some have gone and some have come.
use Rattle.std.proofs.Common.{◌≡◌, ◌≢◌, ◌↔◌, ◌⊎◌, inl, inr, Bool, true, false, true≢false, not, List, ◌∷◌, ◌++◌, IsTrue, Contains, refl, sym, ap, subst, ◌∙◌}
use Rattle.std.specs.List.{remove}
use Rattle.std.specs.List.Sorted.{IsPermutation}
use Rattle.std.proofs.lemmas.Grind.{flat_map-append}
use Rattle.std.proofs.lemmas.List.Elements.{Contains-append_cases, Contains-append_left, Contains-append_right}
use Rattle.std.proofs.lemmas.List.Sorted.{IsPermutation-append, IsPermutation-append_left, IsPermutation-append_comm, IsPermutation-cons, IsPermutation-middle, IsPermutation-remove, IsPermutation-sym, IsPermutation-trans}
use Rattle.pm_values.specs.declared.file_meta.FileMeta.{FileMeta}
use Rattle.pm_values.specs.declared.group.Group.{Group}
use Rattle.pm_schema.specs.declared.schema.TableSchema.{TableSchema}
use Rattle.pm_levels.specs.Runs.{AreNamedApart, AreTwoOf, RunView, files_of}
use Rattle.pm_manifest.specs.FileId.{id_eq}
use Rattle.pm_manifest.specs.Live.{Live, id_of}
use Rattle.pm_manifest.specs.declared.entry.Entry.{Entry}
use Rattle.pm_manifest.specs.declared.file_id.FileId.{FileId}
use Rattle.pm_model_contents.specs.Runs.{AreFilesOf, AreRunsOf, IsLive}
use Rattle.pm_model_folder.specs.Entries.{AreLive}
use Rattle.pm_choice.specs.Choice.{live_entry}
use Rattle.pm_made.specs.Delta.{is_of_any, left_of}
use Rattle.pm_made.proofs.ListLemmas.{any-in, filter-in, in-filter}
use Rattle.pm_made.proofs.StandLemmas as stand
use Rattle.pm_made.proofs.StandLemmas.{two-moved}
use Rattle.pm_compaction.proofs.BaseLemmas.{file-live, live-file}
use Rattle.pm_compaction.proofs.ListLemmas.{any-of}

-- equal ids are one value
abbrev pub OneId : Type 0
OneId = (a b : FileId) → IsTrue (id_eq a b) ↔ (a ≡ b)

-- ---- the files of runs in three parts

pub files-three : (xs ys zs : List RunView) → files_of (xs ++ (ys ++ zs)) ≡ files_of xs ++ (files_of ys ++ files_of zs)
files-three xs ys zs =
    flat_map-append (λ (run : RunView). run.files) xs (ys ++ zs)
    ∙ ap (λ (fs : List FileMeta). files_of xs ++ fs) (flat_map-append (λ (run : RunView). run.files) ys zs)

module _ (xs ys zs : List RunView) (m : FileMeta) where
  in-parts : Contains (files_of xs ++ (files_of ys ++ files_of zs)) m → Contains (files_of xs) m ⊎ Contains (files_of ys) m ⊎ Contains (files_of zs) m
  in-parts h = elim (Contains-append_cases (files_of xs) (files_of ys ++ files_of zs) m h) as (λ _. Contains (files_of xs) m ⊎ Contains (files_of ys) m ⊎ Contains (files_of zs) m) [
    | inl first ↦ inl first
    | inr rest ↦ inr (Contains-append_cases (files_of ys) (files_of zs) m rest)
  ]

  pub in-three : Contains (files_of (xs ++ (ys ++ zs))) m → Contains (files_of xs) m ⊎ Contains (files_of ys) m ⊎ Contains (files_of zs) m
  in-three h = in-parts (subst (λ (fs : List FileMeta). Contains fs m) (files-three xs ys zs) h)

  back : Contains (files_of xs ++ (files_of ys ++ files_of zs)) m → Contains (files_of (xs ++ (ys ++ zs))) m
  back h = subst (λ (fs : List FileMeta). Contains fs m) (sym (files-three xs ys zs)) h

  pub first-three : Contains (files_of xs) m → Contains (files_of (xs ++ (ys ++ zs))) m
  first-three h = back (Contains-append_left (files_of xs) (files_of ys ++ files_of zs) m h)

  pub middle-three : Contains (files_of ys) m → Contains (files_of (xs ++ (ys ++ zs))) m
  middle-three h = back (Contains-append_right (files_of xs) (files_of ys ++ files_of zs) m (Contains-append_left (files_of ys) (files_of zs) m h))

  pub last-three : Contains (files_of zs) m → Contains (files_of (xs ++ (ys ++ zs))) m
  last-three h = back (Contains-append_right (files_of xs) (files_of ys ++ files_of zs) m (Contains-append_right (files_of ys) (files_of zs) m h))

-- ---- two files

pub two-of : (xs ys : List FileMeta) (a b : FileMeta) → Contains xs a → Contains ys b → AreTwoOf a b (xs ++ ys)
two-of xs ys a b (i, first, is_a) (j, second, is_b) =
    let us = remove xs i in
    let vs = remove ys j in
    let apart : IsPermutation (xs ++ ys) (a ∷ (us ++ b ∷ vs)) =
    IsPermutation-append xs (a ∷ us) ys (b ∷ vs) (IsPermutation-remove xs i a first (sym is_a)) (IsPermutation-remove ys j b second (sym is_b)) in
    let front : IsPermutation (a ∷ (us ++ b ∷ vs)) (a ∷ b ∷ (us ++ vs)) =
    IsPermutation-cons a (us ++ b ∷ vs) (b ∷ (us ++ vs)) (IsPermutation-middle us b vs) in
    (us ++ vs, IsPermutation-trans (xs ++ ys) (a ∷ (us ++ b ∷ vs)) (a ∷ b ∷ (us ++ vs)) apart front)

pub two-left : (a b : FileMeta) (xs ys : List FileMeta) → AreTwoOf a b xs → AreTwoOf a b (xs ++ ys)
two-left a b xs ys two = (two.0 ++ ys, IsPermutation-append_left ys xs (a ∷ b ∷ two.0) two.1)

pub two-right : (a b : FileMeta) (xs ys : List FileMeta) → AreTwoOf a b ys → AreTwoOf a b (xs ++ ys)
two-right a b xs ys two = two-moved a b (ys ++ xs) (xs ++ ys) (IsPermutation-append_comm ys xs) (two-left a b ys xs two)

-- ---- what is live

is-not : (b : Bool) → not b ≡ true → b ≡ false
is-not true is = absurd (true≢false (sym is))
is-not false is = refl

module _ (one : OneId) (live0 live1 : Live) (es removed added : List Entry) (were : AreLive live0 es) (now : AreLive live1 (left_of removed es ++ added)) where
  -- what is live was live and didn't go, or came
  was-or : (e : Entry) → IsLive live1 e → (IsLive live0 e × (is_of_any removed e ≡ false)) ⊎ Contains added e
  was-or e live = elim (Contains-append_cases (left_of removed es) added e ((now.exact e).1 live)) as (λ _. (IsLive live0 e × (is_of_any removed e ≡ false)) ⊎ Contains added e) [
    | inl left ↦ (let found = filter-in (λ (e : Entry). not (is_of_any removed e)) es e left in inl ((were.exact e).0 found.0, is-not (is_of_any removed e) found.1))
    | inr came ↦ inr came
  ]

  stays : (e : Entry) → IsLive live0 e → is_of_any removed e ≡ false → IsLive live1 e
  stays e live none = (now.exact e).0 (Contains-append_left (left_of removed es) added e
      (in-filter (λ (e : Entry). not (is_of_any removed e)) es e ((were.exact e).1 live) (ap not none)))

  comes : (e : Entry) → Contains added e → IsLive live1 e
  comes e h = (now.exact e).0 (Contains-append_right (left_of removed es) added e h)

  -- one that went is of the same file
  gone-as : (e : Entry) → is_of_any removed e ≡ true → (r : Entry) × Contains removed r × (id_of r ≡ id_of e)
  gone-as e is =
      let found = any-in (λ (other : Entry). id_eq (id_of other) (id_of e)) removed is in
      (found.0, found.1, (one (id_of found.0) (id_of e)).0 found.2)

  gone-by : (e r : Entry) → Contains removed r → id_of r ≡ id_of e → is_of_any removed e ≡ true
  gone-by e r h same = any-of (λ (other : Entry). id_eq (id_of other) (id_of e)) removed r h ((one (id_of r) (id_of e)).1 same)

  none-gone : (e : Entry) → ((r : Entry) → Contains removed r → id_of r ≡ id_of e → ⊥) → is_of_any removed e ≡ false
  none-gone e none = at (is_of_any removed e) refl
    where
      at : (t : Bool) → is_of_any removed e ≡ t → t ≡ false
      at true is = let found = gone-as e is in absurd (none found.0 found.1 found.2)
      at false is = refl

  -- ---- a group of which no file goes or comes

  module _ (g : Group) (none_goes : (r : Entry) → Contains removed r → r.group ≢ g) (none_comes : (a : Entry) → Contains added a → a.group ≢ g) where
    pub same-live : (e : Entry) → e.group ≡ g → IsLive live1 e ↔ IsLive live0 e
    same-live e of_g = (
      λ live. elim (was-or e live) as (λ _. IsLive live0 e) [ inl was ↦ was.0 | inr came ↦ absurd (none_comes e came of_g) ],
      λ live. stays e live (none-gone e (λ r h same. none_goes r h (ap (λ (i : FileId). i.group) same ∙ of_g))),
    )

    abbrev pub same-runs : (runs : List RunView) → AreRunsOf live0 g runs → AreRunsOf live1 g runs
    same-runs runs are = stand.same-runs live0 live1 g runs same-live are

  -- ---- a group whose runs were rewritten

  module _ (s : TableSchema) (g : Group) (later taken older made : List RunView) (own : AreRunsOf live0 g (later ++ (taken ++ older)))
      (goes : (m : FileMeta) → Contains (files_of taken) m → Contains removed (live_entry s g m))
      (went : (r : Entry) → Contains removed r → r.group ≡ g → (m : FileMeta) × Contains (files_of taken) m × (r ≡ live_entry s g m))
      (come : (m : FileMeta) → Contains (files_of made) m → Contains added (live_entry s g m))
      (came : (a : Entry) → Contains added a → a.group ≡ g → Contains (files_of made) a.file) where
    -- a file of the others isn't one of those that were taken
    no-two : (a b : FileMeta) → AreTwoOf a b (files_of later ++ (files_of taken ++ files_of older)) → a.level ≡ b.level → a.name ≡ b.name → ⊥
    no-two a b two level name = own.own.apart a b (two-moved a b (files_of (later ++ (taken ++ older))) own.files
        (IsPermutation-sym own.files (files_of (later ++ (taken ++ older))) own.made.whole)
        (subst (λ (fs : List FileMeta). AreTwoOf a b fs) (sym (files-three later taken older)) two)) level name

    other-stays : (m : FileMeta) → Contains (files_of later) m ⊎ Contains (files_of older) m → (e : Entry) → IsLive live0 e → e.group ≡ g → e.file ≡ m → IsLive live1 e
    other-stays m other e live of_g is = stays e live (none-gone e (λ r h same.
        let (n, is_taken, entry) = went r h (ap (λ (i : FileId). i.group) same ∙ of_g) in
        let level : n.level ≡ m.level = ap (λ (x : Entry). x.file.level) (sym entry) ∙ ap (λ (i : FileId). i.level) same ∙ ap (λ (f : FileMeta). f.level) is in
        let name : n.name ≡ m.name = ap (λ (x : Entry). x.file.name) (sym entry) ∙ ap (λ (i : FileId). i.name) same ∙ ap (λ (f : FileMeta). f.name) is in
        elim other as (λ _. ⊥) [
          | inl newer ↦ no-two m n (two-of (files_of later) (files_of taken ++ files_of older) m n newer (Contains-append_left (files_of taken) (files_of older) n is_taken)) (sym level) (sym name)
          | inr old ↦ no-two n m (two-right n m (files_of later) (files_of taken ++ files_of older) (two-of (files_of taken) (files_of older) n m is_taken old)) level name
        ]))

    abbrev Found : FileMeta → Type 0
    Found m = (e : Entry) × IsLive live1 e × (e.group ≡ g) × (e.file ≡ m)

    found-old : (m : FileMeta) → Contains (files_of later) m ⊎ Contains (files_of older) m → Contains (files_of (later ++ (taken ++ older))) m → Found m
    found-old m other there =
        let (e, live, of_g, is) = file-live live0 g (later ++ (taken ++ older)) m own there in
        (e, other-stays m other e live of_g is, of_g, is)

    to : (m : FileMeta) → Contains (files_of (later ++ (made ++ older))) m → Found m
    to m h = elim (in-three later made older m h) as (λ _. Found m) [
      | inl newer ↦ found-old m (inl newer) (first-three later taken older m newer)
      | inr rest ↦ elim rest as (λ _. Found m) [
        | inl new ↦ (live_entry s g m, comes (live_entry s g m) (come m new), refl, refl)
        | inr old ↦ found-old m (inr old) (last-three later taken older m old)
      ]
    ]

    from : (m : FileMeta) → Found m → Contains (files_of (later ++ (made ++ older))) m
    from m (e, live, of_g, is) = subst (Contains (files_of (later ++ (made ++ older)))) is (elim (was-or e live) as (λ _. Contains (files_of (later ++ (made ++ older))) e.file) [
      | inr new ↦ middle-three later made older e.file (came e new of_g)
      | inl was ↦ elim (in-three later taken older e.file (live-file live0 g (later ++ (taken ++ older)) e own was.0 of_g)) as (λ _. Contains (files_of (later ++ (made ++ older))) e.file) [
        | inl newer ↦ first-three later made older e.file newer
        | inr rest ↦ elim rest as (λ _. Contains (files_of (later ++ (made ++ older))) e.file) [
          | inl is_taken ↦ absurd (true≢false (sym (gone-by e (live_entry s g e.file) (goes e.file is_taken)
              (λ i. record { group = (sym of_g) i; name = e.file.name; level = e.file.level })) ∙ was.1))
          | inr old ↦ last-three later made older e.file old
        ]
      ]
    ])

    pub after-files : AreNamedApart (files_of (later ++ (made ++ older))) → AreFilesOf live1 g (files_of (later ++ (made ++ older)))
    after-files apart = record { exact = λ m. (to m, from m); apart = apart }
