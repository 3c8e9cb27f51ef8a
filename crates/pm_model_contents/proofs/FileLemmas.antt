-- Lists of files: those of a group among the entries of a map, and that the same live files are one list in some order.
use Rattle.std.proofs.Common.{◌≡◌, ◌≢◌, ℕ, zero, suc, ◌<◌, Bool, true, false, true≢false, cond, List, [], ◌∷◌, length, get_or, map, filter, remove, Some, Contains, ◌⊎◌, inl, inr, refl, sym, ap, subst, ◌∙◌, arith, IsPermutation, is_eq}
use Rattle.std.specs.BTreeMap.{is_at}
use Rattle.std.specs.Cmp.{Equal-is, tied_itself}
use Rattle.std.specs.List.{AllByRecursion, IsDistinct}
use Rattle.std.specs.Map.{keys_of, lookup, values_of}
use Rattle.std.proofs.lemmas.List.Elements.{Contains-append_right, Contains-get_or, recursion_from_All}
use Rattle.std.proofs.lemmas.List.Sorted.{Contains-permutation, IsPermutation-cons, IsPermutation-middle, IsPermutation-refl, IsPermutation-remove, IsPermutation-sym, IsPermutation-trans, length_permutation}
use Rattle.std.proofs.lemmas.Map.Keys.{IsDistinct-IsPermutation, IsDistinct-cons, IsDistinct-from_apart, IsDistinct-head, IsDistinct-tail}
use Rattle.std.proofs.lemmas.Map.Views.{lookup-from_Contains}
use Rattle.pm_values.specs.GroupOrder.{group_cmp, group_total}
use Rattle.pm_values.specs.declared.file_meta.FileMeta.{FileMeta}
use Rattle.pm_values.specs.declared.group.Group.{Group}
use Rattle.pm_values.proofs.Lemmas.{group_cmp-IsAntisymmetric}
use Rattle.pm_levels.specs.Overlap.{AreDisjoint}
use Rattle.pm_levels.specs.Runs.{AreNamedApart, AreTwoOf}
use Rattle.pm_manifest.specs.FileId.{id_eq, id_equiv}
use Rattle.pm_manifest.specs.Live.{Live, id_of}
use Rattle.pm_manifest.specs.declared.entry.Entry.{Entry}
use Rattle.pm_manifest.specs.declared.file_id.FileId.{FileId}
use Rattle.pm_model_contents.specs.Groups.{AreNamed, files_in}
use Rattle.pm_model_contents.specs.Runs.{AreFilesOf, IsLive}

-- ---- members of lists

module _ {X : Type 0} where
  pub none-in : (x : X) → Contains [] x → ⊥
  none-in x h = let w : h.0 < length {A = X} [] = h.1 in omega arith

  pub in-head : (x : X) (xs : List X) → Contains (x ∷ xs) x
  in-head x xs = (0, omega arith, refl)

  pub in-tail : (x : X) (xs : List X) (y : X) → Contains xs y → Contains (x ∷ xs) y
  in-tail x xs y h = Contains-append_right (x ∷ []) xs y h

  at-or : (x : X) (xs : List X) (y : X) (k : ℕ) → k < length (x ∷ xs) → get_or (x ∷ xs) k y ≡ y → (x ≡ y) ⊎ Contains xs y
  at-or x xs y zero within is = inl is
  at-or x xs y (suc k) within is = inr (k, omega arith, is)

  pub in-or : (x : X) (xs : List X) (y : X) → Contains (x ∷ xs) y → (x ≡ y) ⊎ Contains xs y
  in-or x xs y h = at-or x xs y h.0 h.1 h.2

  -- ---- two items of a list

  pub two-moved : (a b : X) (xs ys : List X) → IsPermutation xs ys → AreTwoOf a b xs → AreTwoOf a b ys
  two-moved a b xs ys same two = (two.0, IsPermutation-trans ys xs (a ∷ b ∷ two.0) (IsPermutation-sym xs ys same) two.1)

  two-tail : (a b x : X) (xs : List X) → AreTwoOf a b xs → AreTwoOf a b (x ∷ xs)
  two-tail a b x xs two = (
    x ∷ two.0,
    IsPermutation-trans (x ∷ xs) (x ∷ a ∷ b ∷ two.0) (a ∷ b ∷ x ∷ two.0) (IsPermutation-cons x xs (a ∷ b ∷ two.0) two.1)
        (IsPermutation-sym (a ∷ b ∷ x ∷ two.0) (x ∷ a ∷ b ∷ two.0) (IsPermutation-middle (a ∷ b ∷ []) x two.0)),
  )

  two-head : (x y : X) (xs : List X) → Contains xs y → AreTwoOf x y (x ∷ xs)
  two-head x y xs h = (remove xs h.0, IsPermutation-cons x xs (y ∷ remove xs h.0) (IsPermutation-remove xs h.0 y h.1 (sym h.2)))

  -- no item stands twice
  abbrev pub Differ : List X → Type 0
  Differ xs = (a b : X) → AreTwoOf a b xs → a ≢ b

  -- lists in which none stands twice, and which have the same items, are one list in some order
  pub permuted : (xs ys : List X) → Differ xs → Differ ys → ((x : X) → Contains xs x → Contains ys x) → ((x : X) → Contains ys x → Contains xs x) → IsPermutation xs ys
  permuted [] [] first second to from = IsPermutation-refl []
  permuted [] (y ∷ ys) first second to from = absurd (none-in y (from y (in-head y ys)))
  permuted (x ∷ xs) ys first second to from =
      let here = to x (in-head x xs) in
      let zs = remove ys here.0 in
      let split : IsPermutation ys (x ∷ zs) = IsPermutation-remove ys here.0 x here.1 (sym here.2) in
      let back = IsPermutation-sym ys (x ∷ zs) split in
      let later : (y : X) → Contains xs y → Contains zs y = λ y h.
      elim (in-or x zs y (Contains-permutation ys (x ∷ zs) y split (to y (in-tail x xs y h)))) [
        | inl is ↦ absurd (first x y (two-head x y xs h) is)
        | inr rest ↦ rest
      ] in
      let earlier : (y : X) → Contains zs y → Contains xs y = λ y h.
      elim (in-or x xs y (from y (Contains-permutation (x ∷ zs) ys y back (in-tail x zs y h)))) [
        | inl is ↦ absurd (second x y (two-moved x y (x ∷ zs) ys back (two-head x y zs h)) is)
        | inr rest ↦ rest
      ] in
      let rest = permuted xs zs (λ a b two. first a b (two-tail a b x xs two)) (λ a b two. second a b (two-moved a b (x ∷ zs) ys back (two-tail a b x zs two))) later earlier in
      IsPermutation-trans (x ∷ xs) (x ∷ zs) ys (IsPermutation-cons x xs zs rest) back

-- ---- the same live files

differ : (files : List FileMeta) → AreNamedApart files → Differ files
differ files apart a b two same = apart a b two (ap (λ (f : FileMeta). f.level) same) (ap (λ (f : FileMeta). f.name) same)

pub same-files : (live : Live) (g : Group) (files more : List FileMeta) → AreFilesOf live g files → AreFilesOf live g more → IsPermutation files more
same-files live g files more own other =
    permuted files more (differ files own.apart) (differ more other.apart)
    (λ m h. (other.exact m).1 ((own.exact m).0 h))
    (λ m h. (own.exact m).1 ((other.exact m).0 h))

pub disjoint-moved : (files more : List FileMeta) → IsPermutation files more → AreDisjoint files → AreDisjoint more
disjoint-moved files more same none = λ a b two m. none a b (two-moved a b more files (IsPermutation-sym files more same) two) m

pub disjoint-none : AreDisjoint []
disjoint-none = λ a b two m. let long = length_permutation [] (a ∷ b ∷ two.0) two.1 in omega arith

-- ---- groups

pub ties : (a b : Group) → is_at (group_cmp a) b ≡ true → a ≡ b
ties a b e = group_cmp-IsAntisymmetric a b ((Equal-is (group_cmp a b)).0 e)

pub tied : (a b : Group) → a ≡ b → is_at (group_cmp a) b ≡ true
tied a b e = subst (λ x. is_at (group_cmp a) x ≡ true) e (ap is_eq (tied_itself group_total a))

-- ---- the files of a group among entries

by_test : (e : Entry) (es : List Entry) (b : Bool) → map (λ (e : Entry). e.file) (cond b (e ∷ es) es) ≡ cond b (e.file ∷ map (λ (e : Entry). e.file) es) (map (λ (e : Entry). e.file) es)
by_test e es true = refl
by_test e es false = refl

pub files_in-cons : (g : Group) (e : Entry) (es : List Entry) → files_in g (e ∷ es) ≡ cond (is_at (group_cmp e.group) g) (e.file ∷ files_in g es) (files_in g es)
files_in-cons g e es = by_test e (filter (λ (e : Entry). is_at (group_cmp e.group) g) es) (is_at (group_cmp e.group) g)

-- an entry of the group whose file it is
abbrev Owner : Group → List Entry → FileMeta → Type 0
Owner g es m = (e : Entry) × Contains es e × (e.group ≡ g) × (e.file ≡ m)

pub owner : (g : Group) (es : List Entry) (m : FileMeta) → Contains (files_in g es) m → Owner g es m
owner g [] m h = absurd (none-in m h)
owner g (e ∷ es) m h = by (λ k. owner g es m k) (is_at (group_cmp e.group) g) refl (subst (λ fs. Contains fs m) (files_in-cons g e es) h)
  where
    more : Owner g es m → Owner g (e ∷ es) m
    more o = (o.0, in-tail e es o.0 o.1, o.2, o.3)

    by : (Contains (files_in g es) m → Owner g es m) → (b : Bool) → is_at (group_cmp e.group) g ≡ b → Contains (cond b (e.file ∷ files_in g es) (files_in g es)) m → Owner g (e ∷ es) m
    by rest true own k = elim (in-or e.file (files_in g es) m k) [
      | inl is ↦ (e, in-head e es, ties e.group g own, is)
      | inr later ↦ more (rest later)
    ]
    by rest false other k = more (rest k)

pub in-files : (g : Group) (es : List Entry) (e : Entry) → Contains es e → e.group ≡ g → Contains (files_in g es) e.file
in-files g [] e h own = absurd (none-in e h)
in-files g (x ∷ es) e h own = subst (λ fs. Contains fs e.file) (sym (files_in-cons g x es)) (by (λ k. in-files g es e k own) (is_at (group_cmp x.group) g) refl (in-or x es e h))
  where
    by : (Contains es e → Contains (files_in g es) e.file) → (b : Bool) → is_at (group_cmp x.group) g ≡ b → (x ≡ e) ⊎ Contains es e → Contains (cond b (x.file ∷ files_in g es) (files_in g es)) e.file
    by rest true t (inl is) = subst (λ (y : Entry). Contains (x.file ∷ files_in g es) y.file) is (in-head x.file (files_in g es))
    by rest true t (inr later) = in-tail x.file (files_in g es) e.file (rest later)
    by rest false t (inl is) = absurd (true≢false (sym (tied x.group g (ap (λ (y : Entry). y.group) is ∙ own)) ∙ t))
    by rest false t (inr later) = rest later

-- ---- the entries of a map

abbrev pub Pairs : Type 0
Pairs = List (FileId × Entry)

-- what a map finds
abbrev pub found : Pairs → Live
found ps id = lookup (id_eq id) ps

value-in : (test : FileId → Bool) (ps : Pairs) (e : Entry) → lookup test ps ≡ Some e → Contains (values_of ps) e
value-in test [] e is = cc
value-in test (p ∷ ps) e is = by (λ k. value-in test ps e k) (test p.0) is
  where
    by : (lookup test ps ≡ Some e → Contains (values_of ps) e) → (b : Bool) → cond b (Some p.1) (lookup test ps) ≡ Some e → Contains (values_of (p ∷ ps)) e
    by rest true here = let same : p.1 ≡ e = cc in subst (Contains (values_of (p ∷ ps))) same (in-head p.1 (values_of ps))
    by rest false later = in-tail p.1 (values_of ps) e (rest later)

value-key : (ps : Pairs) (e : Entry) → Contains (values_of ps) e → (id : FileId) × Contains ps (id, e)
value-key [] e h = absurd (none-in e h)
value-key (p ∷ ps) e h = elim (in-or p.1 (values_of ps) e h) [
  | inl is ↦ (p.0, subst (λ (y : Entry). Contains (p ∷ ps) (p.0, y)) is (in-head p ps))
  | inr later ↦ let k = value-key ps e later in (k.0, in-tail p ps (k.0, e) k.1)
]

-- each entry stands at its own id
abbrev pub Owned : Pairs → Type 0
Owned ps = AllByRecursion (λ (p : FileId × Entry). id_of p.1 ≡ p.0) ps

-- the id of a file of a group, and whether two have one
abbrev id_in : Group → FileMeta → FileId
id_in g f = record { group = g; name = f.name; level = f.level }

abbrev same_in : Group → FileMeta → FileMeta → Bool
same_in g a b = id_eq (id_in g a) (id_in g b)

id_in-own : (g : Group) (e : Entry) (k : FileId) → e.group ≡ g → id_of e ≡ k → id_in g e.file ≡ k
id_in-own g e k own is = subst (λ (h : Group). id_in h e.file ≡ k) own is

none-same : (g : Group) (f : FileMeta) (k : FileId) (ps : Pairs) → id_in g f ≡ k → Owned ps → AllByRecursion (λ (id : FileId). id_eq k id ≡ false) (keys_of ps)
    → AllByRecursion (λ (x : FileMeta). same_in g f x ≡ false) (files_in g (values_of ps))
none-same g f k [] is owned apart = tt
none-same g f k (p ∷ ps) is owned apart =
    subst (AllByRecursion (λ (x : FileMeta). same_in g f x ≡ false)) (sym (files_in-cons g p.1 (values_of ps)))
    (by (none-same g f k ps is owned.1 apart.1) (is_at (group_cmp p.1.group) g) refl)
  where
    by : AllByRecursion (λ (x : FileMeta). same_in g f x ≡ false) (files_in g (values_of ps)) → (b : Bool) → is_at (group_cmp p.1.group) g ≡ b
        → AllByRecursion (λ (x : FileMeta). same_in g f x ≡ false) (cond b (p.1.file ∷ files_in g (values_of ps)) (files_in g (values_of ps)))
    by rest true own =
        let other = id_in-own g p.1 p.0 (ties p.1.group g own) owned.0 in
        (subst (λ id. id_eq id (id_in g p.1.file) ≡ false) (sym is) (subst (λ id. id_eq k id ≡ false) (sym other) apart.0), rest)
    by rest false own = rest

distinct-files : (g : Group) (ps : Pairs) → Owned ps → IsDistinct id_eq (keys_of ps) → IsDistinct (same_in g) (files_in g (values_of ps))
distinct-files g [] owned distinct = IsDistinct-from_apart (same_in g) [] (λ i j d less within. absurd (omega arith))
distinct-files g (p ∷ ps) owned distinct =
    subst (IsDistinct (same_in g)) (sym (files_in-cons g p.1 (values_of ps)))
    (by (distinct-files g ps owned.1 (IsDistinct-tail id_eq p.0 (keys_of ps) distinct)) (is_at (group_cmp p.1.group) g) refl)
  where
    by : IsDistinct (same_in g) (files_in g (values_of ps)) → (b : Bool) → is_at (group_cmp p.1.group) g ≡ b
        → IsDistinct (same_in g) (cond b (p.1.file ∷ files_in g (values_of ps)) (files_in g (values_of ps)))
    by rest true own =
        IsDistinct-cons (same_in g) p.1.file (files_in g (values_of ps))
        (none-same g p.1.file p.0 ps (id_in-own g p.1 p.0 (ties p.1.group g own) owned.0) owned.1 (IsDistinct-head id_eq p.0 (keys_of ps) distinct)) rest
    by rest false own = rest

named-apart : (g : Group) (files : List FileMeta) → IsDistinct (same_in g) files → AreNamedApart files
named-apart g files distinct a b two level name =
    let moved = IsDistinct-IsPermutation (same_in g) (λ x y. id_equiv.symm (id_in g x) (id_in g y)) files (a ∷ b ∷ two.0) two.1 distinct in
    let unlike : same_in g a b ≡ false = (IsDistinct-head (same_in g) a (b ∷ two.0) moved).0 in
    let is : id_in g a ≡ id_in g b = λ i. record { group = g; name = name i; level = level i } in
    true≢false (sym (subst (λ id. id_eq (id_in g a) id ≡ true) is (id_equiv.refl (id_in g a))) ∙ unlike)

module _ (ps : Pairs) (distinct : IsDistinct id_eq (keys_of ps)) (named : AreNamed (found ps)) where
  found-at : (id : FileId) (e : Entry) → Contains ps (id, e) → lookup (id_eq id) ps ≡ Some e
  found-at id e h = lookup-from_Contains id_equiv id e ps distinct h

  owned : Owned ps
  owned = recursion_from_All (λ (p : FileId × Entry). id_of p.1 ≡ p.0) ps (λ k d within.
      let p = get_or ps k d in
      named p.0 p.1 (found-at p.0 p.1 (Contains-get_or ps k d within)))

  -- an entry of the map is live
  pub live-in : (e : Entry) → Contains (values_of ps) e → IsLive (found ps) e
  live-in e h =
      let k = value-key ps e h in
      let here = found-at k.0 e k.1 in
      subst (λ id. lookup (id_eq id) ps ≡ Some e) (sym (named k.0 e here)) here

  -- the files of a group
  pub are-files : (g : Group) → AreFilesOf (found ps) g (files_in g (values_of ps))
  are-files g = record {
    exact = λ m. (
      λ h. (let o = owner g (values_of ps) m h in (o.0, live-in o.0 o.1, o.2, o.3)),
      λ h. subst (Contains (files_in g (values_of ps))) h.3 (in-files g (values_of ps) h.0 (value-in (id_eq (id_of h.0)) ps h.0 h.1) h.2),
    );
    apart = named-apart g (files_in g (values_of ps)) (distinct-files g ps owned distinct);
  }
