-- The groups of a plan: each stands once, and the entry of the compaction names it.
use Rattle.std.proofs.Common.{◌≡◌, ◌≢◌, ◌↔◌, ◌⊎◌, inl, inr, ℕ, Bool, true, false, true≢false, not, ◌&&◌, ◌||◌, cond, List, [], ◌∷◌, map, Some, None, Contains, refl, sym, ap, subst, ◌∙◌}
use Rattle.std.specs.List.{list_any}
use Rattle.std.specs.List.Sorted.{IsStrictlySortedBy}
use Rattle.std.specs.Ordering.{eq_by_cmp, is_eq}
use Rattle.std.specs.declared.cmp.Ordering.{Ordering}
use Rattle.std.specs.declared.cmp.Ordering.TheVariants.{Less, Equal, Greater}
use Rattle.pm_values.specs.GroupOrder.{group_cmp}
use Rattle.pm_values.specs.declared.group.Group.{Group}
use Rattle.pm_model_history.specs.History.{Entry, compaction}
use Rattle.pm_model_following.specs.Following.{base_of, is_named}
use Rattle.pm_model_folder.specs.Folder.{GroupsRise}
use Rattle.pm_paths.proofs.ListLemmas.{cases, here, more, nowhere}
use Rattle.pm_made.proofs.ListLemmas.{each-of, in-map, map-in}
use Rattle.pm_compaction.specs.Plan.{RewrittenGroup, named_group}
use Rattle.pm_compaction.proofs.ListLemmas.{any-of}

-- only equal groups tie
abbrev pub GroupsTie : Type 0
GroupsTie = (a b : Group) → (group_cmp a b ≡ Equal) ↔ (a ≡ b)

pub less-equal : (o : Ordering) → o ≡ Less → o ≡ Equal → ⊥
less-equal o less equal = let no : Less ≡ Equal = sym less ∙ equal in cc

-- no item passes
none-any : {X : Type 0} (p : X → Bool) (xs : List X) → ((x : X) → Contains xs x → p x ≡ false) → list_any p xs ≡ false
none-any p [] none = refl
none-any p (x ∷ xs) none = rw (none x (here x xs), none-any p xs (λ y h. none y (more x xs y h))) refl

abbrev pub group_in : RewrittenGroup → Group
group_in x = x.group

names-groups : (xs : List RewrittenGroup) → map (λ (p : Group × Bool). p.0) (map named_group xs) ≡ map group_in xs
names-groups [] = refl
names-groups (x ∷ xs) = ap (λ (gs : List Group). x.group ∷ gs) (names-groups xs)

module _ (tie : GroupsTie) where
  -- a group is that of one of them, or of none
  pub which : (xs : List RewrittenGroup) (g : Group) → ((x : RewrittenGroup) × Contains xs x × (x.group ≡ g)) ⊎ ((x : RewrittenGroup) → Contains xs x → x.group ≢ g)
  which [] g = inr (λ x h is. nowhere x h)
  which (x ∷ xs) g = elim (which xs g) as (λ _. ((y : RewrittenGroup) × Contains (x ∷ xs) y × (y.group ≡ g)) ⊎ ((y : RewrittenGroup) → Contains (x ∷ xs) y → y.group ≢ g)) [
    | inl found ↦ inl (found.0, more x xs found.0 found.1, found.2)
    | inr none ↦ at (group_cmp x.group g) refl none
  ]
    where
      others : (group_cmp x.group g ≢ Equal) → ((y : RewrittenGroup) → Contains xs y → y.group ≢ g) → (y : RewrittenGroup) → Contains (x ∷ xs) y → y.group ≢ g
      others differs none y h is = elim (cases x xs y h) as (λ _. ⊥) [
        | inl same ↦ differs ((tie x.group g).1 (ap group_in same ∙ is))
        | inr later ↦ none y later is
      ]

      at : (o : Ordering) → group_cmp x.group g ≡ o → ((y : RewrittenGroup) → Contains xs y → y.group ≢ g)
          → ((y : RewrittenGroup) × Contains (x ∷ xs) y × (y.group ≡ g)) ⊎ ((y : RewrittenGroup) → Contains (x ∷ xs) y → y.group ≢ g)
      at Equal is none = inl (x, here x xs, (tie x.group g).0 is)
      at Less is none = inr (others (λ equal. less-equal (group_cmp x.group g) is equal) none)
      at Greater is none = inr (others (λ equal. (let no : Greater ≡ Equal = sym is ∙ equal in cc)) none)

  -- each of them stands once
  pub one-group : (xs : List RewrittenGroup) → IsStrictlySortedBy group_cmp (map group_in xs) → (x y : RewrittenGroup) → Contains xs x → Contains xs y
      → x.group ≡ y.group → x ≡ y
  unfolding IsStrictlySortedBy
  one-group [] rise x y hx hy same = absurd (nowhere x hx)
  one-group (z ∷ xs) rise x y hx hy same = at (cases z xs x hx) (cases z xs y hy) (λ a b. one-group xs rise.1 x y a b same)
    where
      above : (w : RewrittenGroup) → Contains xs w → z.group ≡ w.group → ⊥
      above w h is = less-equal (group_cmp z.group w.group)
          (each-of (λ (g : Group). group_cmp z.group g ≡ Less) (map group_in xs) w.group rise.0 (map-in group_in xs w h))
          ((tie z.group w.group).1 is)

      at : (z ≡ x) ⊎ Contains xs x → (z ≡ y) ⊎ Contains xs y → (Contains xs x → Contains xs y → x ≡ y) → x ≡ y
      at (inl a) (inl b) later = sym a ∙ b
      at (inl a) (inr b) later = absurd (above y b (ap group_in a ∙ same))
      at (inr a) (inl b) later = absurd (above x a (ap group_in b ∙ sym same))
      at (inr a) (inr b) later = later a b

  -- ---- what the entry names

  pub same-group : (g : Group) → eq_by_cmp group_cmp g g ≡ true
  same-group g = ap is_eq ((tie g g).1 refl)

  is-equal : (o : Ordering) → is_eq o ≡ true → o ≡ Equal
  is-equal Equal is = refl
  is-equal Less is = absurd (true≢false (sym is))
  is-equal Greater is = absurd (true≢false (sym is))

  tests-same : (a b : Group) → eq_by_cmp group_cmp a b ≡ true → a ≡ b
  tests-same a b is = (tie a b).0 (is-equal (group_cmp a b) is)

  pub other-group : (a b : Group) → a ≢ b → eq_by_cmp group_cmp a b ≡ false
  other-group a b differs = at (eq_by_cmp group_cmp a b) refl
    where
      at : (t : Bool) → eq_by_cmp group_cmp a b ≡ t → t ≡ false
      at true is = absurd (differs (tests-same a b is))
      at false is = refl

  module _ (xs : List RewrittenGroup) (base : ℕ) (rise : IsStrictlySortedBy group_cmp (map group_in xs)) where
    abbrev pub e : Entry
    e = compaction base (map named_group xs)

    by-test : (t : Bool) → t ≡ true → cond t (Some base) None ≡ Some base
    by-test t is = rw is refl

    by-none : (t : Bool) → t ≡ false → cond t (Some base) None ≡ None
    by-none t is = rw is refl

    -- a group that is rewritten, and one that isn't
    pub named-base : (x : RewrittenGroup) → Contains xs x → base_of false x.group e ≡ Some base
    named-base x h = by-test (is_named false x.group (map named_group xs))
        (any-of (λ (p : Group × Bool). eq_by_cmp group_cmp x.group p.0 && (p.1 || not false)) (map named_group xs) (named_group x) (map-in named_group xs x h)
        (rw (same-group x.group) (or-not x.whole)))
      where
        or-not : (t : Bool) → (true && (t || not false)) ≡ true
        or-not true = refl
        or-not false = refl

    pub other-base : (wholly : Bool) (g : Group) → ((x : RewrittenGroup) → Contains xs x → x.group ≢ g) → base_of wholly g e ≡ None
    other-base wholly g none = by-none (is_named wholly g (map named_group xs))
        (none-any (λ (p : Group × Bool). eq_by_cmp group_cmp g p.0 && (p.1 || not wholly)) (map named_group xs) (λ p h. at p (in-map named_group xs p h)))
      where
        at : (p : Group × Bool) → ((x : RewrittenGroup) × Contains xs x × (named_group x ≡ p)) → (eq_by_cmp group_cmp g p.0 && (p.1 || not wholly)) ≡ false
        at p (x, there, is) = rw (other-group g p.0 (λ same. none x there (ap (λ (q : Group × Bool). q.0) is ∙ sym same))) refl

    -- as whole, or not
    pub whole-base : (x : RewrittenGroup) → Contains xs x → x.whole ≡ true → base_of true x.group e ≡ Some base
    whole-base x h whole = by-test (is_named true x.group (map named_group xs))
        (any-of (λ (p : Group × Bool). eq_by_cmp group_cmp x.group p.0 && (p.1 || not true)) (map named_group xs) (named_group x) (map-in named_group xs x h)
        (rw (same-group x.group, whole) refl))

    pub part-base : (x : RewrittenGroup) → Contains xs x → x.whole ≡ false → base_of true x.group e ≡ None
    part-base x h part = by-none (is_named true x.group (map named_group xs))
        (none-any (λ (p : Group × Bool). eq_by_cmp group_cmp x.group p.0 && (p.1 || not true)) (map named_group xs) (λ p there. at p (in-map named_group xs p there)))
      where
        no-part : (t : Bool) → (t && (false || not true)) ≡ false
        no-part true = refl
        no-part false = refl

        at : (p : Group × Bool) → ((y : RewrittenGroup) × Contains xs y × (named_group y ≡ p)) → (eq_by_cmp group_cmp x.group p.0 && (p.1 || not true)) ≡ false
        at p (y, there, is) = by (eq_by_cmp group_cmp x.group p.0) refl
          where
            by : (t : Bool) → eq_by_cmp group_cmp x.group p.0 ≡ t → (t && (p.1 || not true)) ≡ false
            by false differs = refl
            by true tests =
                let same : x ≡ y = one-group xs rise x y h there (tests-same x.group p.0 tests ∙ ap (λ (q : Group × Bool). q.0) (sym is)) in
                let none : p.1 ≡ false = ap (λ (q : Group × Bool). q.1) (sym is) ∙ ap (λ (z : RewrittenGroup). z.whole) (sym same) ∙ part in
                rw none refl

-- the groups of a plan rise
pub rising : (xs : List RewrittenGroup) (groups : List (Group × Bool)) → groups ≡ map named_group xs → GroupsRise groups → IsStrictlySortedBy group_cmp (map group_in xs)
rising xs groups named rise = subst (λ (gs : List Group). IsStrictlySortedBy group_cmp gs)
    (ap (λ (ps : List (Group × Bool)). map (λ (p : Group × Bool). p.0) ps) named ∙ names-groups xs) rise
