-- The blocks that looking for a key passes.
use Rattle.std.proofs.Common.{◌≡◌, ◌<◌, ◌≤◌, ℕ, List, [], ◌∷◌, ◌++◌, length, true, false, not, Option, None, Some, Result, refl, sym, ap, subst, ◌∙◌}
use Rattle.std.specs.Option.{option_map_or}
use Rattle.std.specs.Ordering.{is_lt, ordering_reverse}
use Rattle.std.specs.declared.cmp.Ordering.{Ordering}
use Rattle.std.specs.declared.cmp.Ordering.TheVariants.{Less, Equal, Greater}
use Rattle.pm_values.specs.Order.{Values, key_cmp, key_total}
use Rattle.pm_values.specs.declared.record.Stamped.{Stamped}
use Rattle.pm_values.specs.declared.refusal.Refusal.{Refusal}
use Rattle.pm_record.proofs.Facts.{block_moves}
use Rattle.pm_engine.specs.Covers.{Run}
use Rattle.pm_run.specs.Order.{last_key}
use Rattle.pm_run.specs.Reader.{RunView}
use Rattle.pm_run.specs.Rows.{Opened}
use Rattle.pm_lookup.specs.Looking.{Finds, IsBlockAt, Passes, StopsFor, reaches}
use Rattle.pm_lookup.specs.File.{CameTo, ComesTo, is_below}

-- the offset after a block is greater, and within the file
pub further : (o : Opened) (offset : ℕ) (rows : Run) (next : ℕ) → IsBlockAt o offset rows next → (offset < next) × (next ≤ length o.file.bytes)
further o offset rows next b = (block_moves o.file.kind o.file.marker o.file.bytes offset b.0 next b.1, b.1.within)

-- one block more is passed
pub passes_more : (o : Opened) (key : Values) (offset : ℕ) (blocks : List Run) (mid : ℕ) (rows : Run) (next : ℕ) → Passes o key offset blocks mid
    → IsBlockAt o mid rows next → reaches key rows ≡ false → Passes o key offset (blocks ++ rows ∷ []) next
passes_more o key offset [] mid rows next same b below = (next, subst (λ n. IsBlockAt o n rows next) (sym same) b, below, refl)
passes_more o key offset (first ∷ blocks) mid rows next p b below = (p.0, p.1, p.2, passes_more o key p.0 blocks mid rows next p.3 b below)

pub comes_further : (o : Opened) (key : Values) (offset : ℕ) (rows : Run) (next : ℕ) → ComesTo o key offset → IsBlockAt o offset rows next → reaches key rows ≡ false → ComesTo o key next
comes_further o key offset rows next c b below = (c.0 ++ rows ∷ [], passes_more o key o.file.first c.0 offset rows next c.1 b below)

-- a key below one that isn't above another is below that one
below_up : (last low high : Values) → is_lt (key_cmp high low) ≡ false → key_cmp last low ≡ Less → key_cmp last high ≡ Less
below_up last low high up less = at (key_cmp high low) refl up
  where
    back : key_cmp high last ≡ Greater → key_cmp last high ≡ Less
    back greater = key_total.antisymm last high ∙ ap ordering_reverse greater

    at : (o : Ordering) → key_cmp high low ≡ o → is_lt (key_cmp high low) ≡ false → key_cmp last high ≡ Less
    at Less is not_less = absurd (let no : true ≡ false = sym (ap is_lt is) ∙ not_less in cc)
    at Equal is not_less = back (key_total.congr high low last is ∙ (key_total.antisymm low last ∙ ap ordering_reverse less))
    at Greater is not_less = key_total.trans last low high less (key_total.antisymm low high ∙ ap ordering_reverse is)

is_less : (o : Ordering) → not (is_lt o) ≡ false → o ≡ Less
is_less Less e = refl
is_less Equal e = absurd cc
is_less Greater e = absurd cc

-- a last key that doesn't reach a key doesn't reach a higher one
last_up : (low high : Values) (last : Option Values) → is_lt (key_cmp high low) ≡ false → option_map_or (λ (k : Values). not (is_lt (key_cmp k low))) last false ≡ false
    → option_map_or (λ (k : Values). not (is_lt (key_cmp k high))) last false ≡ false
last_up low high None up below = refl
last_up low high (Some last) up below = ap (λ o. not (is_lt o)) (below_up last low high up (is_less (key_cmp last low) below))

-- nor does a block
pub reaches_up : (low high : Values) (rows : Run) → is_lt (key_cmp high low) ≡ false → reaches low rows ≡ false → reaches high rows ≡ false
reaches_up low high rows up below = last_up low high (last_key None rows) up below

pub passes_up : (o : Opened) (low high : Values) (offset : ℕ) (blocks : List Run) (last : ℕ) → is_lt (key_cmp high low) ≡ false → Passes o low offset blocks last → Passes o high offset blocks last
passes_up o low high offset [] last up same = same
passes_up o low high offset (rows ∷ blocks) last up p = (p.0, p.1, reaches_up low high rows up p.2, passes_up o low high p.0 blocks last up p.3)

-- what came there for a key comes there for one that isn't below it
pub came_for : (o : Opened) (key : Values) (passed : Option Values) (begins : ℕ) → is_below key passed ≡ false → CameTo o passed begins → ComesTo o key begins
came_for o key None begins up same = ([], sym same)
came_for o key (Some low) begins up c = (c.0, passes_up o low key o.file.first c.0 begins up c.1)

-- what came somewhere in a reader came there in one that is the same
pub comes_same : (v w : RunView) (key : Values) (begins : ℕ) → v ≡ w → ComesTo v.opened key begins → ComesTo w.opened key begins
comes_same v w key begins same c = subst (λ (x : RunView). ComesTo x.opened key begins) same c

-- where looking stops something is found, or a refusal
pub finds_at : (o : Opened) (key : Values) (last : ℕ) (result : Result (Option Stamped) Refusal) → ComesTo o key last → StopsFor o key last result → Finds o key result
finds_at o key last result c stops = record { passed = c.0; last = last; passes = c.1; stops = stops }

-- so in a reader that is the same
pub finds_same : (v w : RunView) (key : Values) (last : ℕ) (result : Result (Option Stamped) Refusal) → v ≡ w → ComesTo v.opened key last → StopsFor v.opened key last result
    → Finds w.opened key result
finds_same v w key last result same c stops = subst (λ (x : RunView). Finds x.opened key result) same (finds_at v.opened key last result c stops)
