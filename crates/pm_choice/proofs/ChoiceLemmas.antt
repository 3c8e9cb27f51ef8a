-- Which groups are chosen, and what is chosen of them.
use Rattle.std.proofs.Common.{◌≡◌, ◌↔◌, ◌⊎◌, inl, inr, ◌≤◌, ◌<◌, ◌==◌, ℕ, true, List, [], ◌∷◌, ◌++◌, length, map, Option, None, Some, Less, refl, arith}
use Rattle.std.specs.List.{AllByRecursion}
use Rattle.std.specs.List.Sorted.{IsStrictlySortedBy}
use Rattle.std.proofs.lemmas.Bool.Decides.{nat_tests}
use Rattle.pm_values.specs.GroupOrder.{group_cmp}
use Rattle.pm_values.specs.declared.group.Group.{Group}
use Rattle.pm_levels.specs.Picking.{picked, top_of, IsChoice}
use Rattle.pm_levels.specs.Runs.{LevelsRise, RunView}
use Rattle.pm_levels.specs.Sizes.{size_of}
use Rattle.pm_levels.specs.declared.choice.Asked.{Asked}
use Rattle.pm_levels.specs.declared.choice.Pick.{Pick}
use Rattle.pm_levels.specs.declared.choice.PickRule.{PickRule}
use Rattle.pm_choice.specs.Choice.{choices, group_of, of_pick, HaveLevels, IsChosen}
use Rattle.pm_choice.specs.declared.choice.ChosenGroup.{ChosenGroup}

-- ---- they rise

above-more : (rule : PickRule) (g : Group) (e : Group × List RunView) (later : List ChosenGroup) (o : Option Pick) → group_cmp g e.0 ≡ Less
    → AllByRecursion (λ (other : Group). group_cmp g other ≡ Less) (map group_of later)
    → AllByRecursion (λ (other : Group). group_cmp g other ≡ Less) (map group_of (of_pick rule e.0 e.1 o ++ later))
above-more rule g e later None less above = above
above-more rule g e later (Some p) less above = (less, above)

above-all : (asked : Asked) (rule : PickRule) (g : Group) (es : List (Group × List RunView))
    → AllByRecursion (λ (other : Group). group_cmp g other ≡ Less) (map (λ (e : Group × List RunView). e.0) es)
    → AllByRecursion (λ (other : Group). group_cmp g other ≡ Less) (map group_of (choices asked rule es))
above-all asked rule g [] all = tt
above-all asked rule g (e ∷ es) all =
    above-more rule g e (choices asked rule es) (picked (map size_of e.1) asked rule) all.0 (above-all asked rule g es all.1)

rising-more : (rule : PickRule) (e : Group × List RunView) (later : List ChosenGroup) (o : Option Pick)
    → AllByRecursion (λ (other : Group). group_cmp e.0 other ≡ Less) (map group_of later) → IsStrictlySortedBy group_cmp (map group_of later)
    → IsStrictlySortedBy group_cmp (map group_of (of_pick rule e.0 e.1 o ++ later))
unfolding IsStrictlySortedBy
rising-more rule e later None above sorted = sorted
rising-more rule e later (Some p) above sorted = (above, sorted)

pub rising : (asked : Asked) (rule : PickRule) (es : List (Group × List RunView)) → IsStrictlySortedBy group_cmp (map (λ (e : Group × List RunView). e.0) es)
    → IsStrictlySortedBy group_cmp (map group_of (choices asked rule es))
unfolding IsStrictlySortedBy
rising asked rule [] sorted = tt
rising asked rule (e ∷ es) sorted =
    rising-more rule e (choices asked rule es) (picked (map size_of e.1) asked rule) (above-all asked rule e.0 es sorted.0) (rising asked rule es sorted.1)

-- ---- what is chosen of each

abbrev pub Picks : Type 0
Picks = (rule : PickRule) (asked : Asked) (runs : List RunView) (pick : Pick) → 1 ≤ rule.trigger → 1 ≤ top_of rule → LevelsRise runs
    → AllByRecursion (λ (run : RunView). run.level ≤ top_of rule) runs → picked (map size_of runs) asked rule ≡ Some pick → IsChoice (top_of rule) runs pick

whole-is : (top : ℕ) (runs : List RunView) (p : Pick) → ((p.take ≡ length runs) × (p.out ≡ top)) ⊎ ((p.take < length runs) × (p.out < top))
    → ((p.out == top) ≡ true) ↔ (p.take ≡ length runs)
whole-is top runs p (inl both) = (λ e. both.0, λ e. let same = both.1 in grind (arith, nat_tests, same))
whole-is top runs p (inr less) =
    (λ e. let below = less.1 in grind (arith, nat_tests, below, e), λ e. let short = less.0 in absurd (let no : ⊥ = omega (arith, short, e) in no))

each-more : Picks → (asked : Asked) (rule : PickRule) (e : Group × List RunView) (later : List ChosenGroup) (o : Option Pick) → 1 ≤ rule.trigger → 1 ≤ top_of rule
    → HaveLevels (top_of rule) e.1 → picked (map size_of e.1) asked rule ≡ o → AllByRecursion (IsChosen rule) later
    → AllByRecursion (IsChosen rule) (of_pick rule e.0 e.1 o ++ later)
each-more picks asked rule e later None some top have is all = all
each-more picks asked rule e later (Some p) some top have is all =
    let choice : IsChoice (top_of rule) e.1 p = picks rule asked e.1 p some top have.rise have.within is in
    (record { choice = choice; whole = whole-is (top_of rule) e.1 p choice.whole }, all)

pub each : Picks → (asked : Asked) (rule : PickRule) (es : List (Group × List RunView)) → 1 ≤ rule.trigger → 1 ≤ top_of rule
    → AllByRecursion (λ (e : Group × List RunView). HaveLevels (top_of rule) e.1) es → AllByRecursion (IsChosen rule) (choices asked rule es)
each picks asked rule [] some top all = tt
each picks asked rule (e ∷ es) some top all =
    each-more picks asked rule e (choices asked rule es) (picked (map size_of e.1) asked rule) some top all.0 refl (each picks asked rule es some top all.1)
