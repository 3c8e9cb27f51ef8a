use Rattle.std.proofs.Common.{rules, of_calls, is_lt, ℕ, List, map, subst}
use Rattle.std.proofs.lemmas.List.MinMax.{ranks_by}
use Rattle.std.proofs.lemmas.List.Sorted.{IsPermutation-map}
use Rattle.std.proofs.lemmas.Fn.{always_returns_same}
use Rattle.std.specs.List.Sorted.{IsPermutation, IsSortedByKey, IsStableByKey}
use Rattle.std.proofs.lemmas.Result.{on_ok_weaker}
use Rattle.pm_values.specs.Order.{key_cmp, key_total}
use Rattle.pm_values.specs.declared.record.Stamped.{Stamped}
use Rattle.pm_packed.specs.Rows.{row_at}
use Rattle.pm_packed.specs.declared.rows.Place.{Place}
use Rattle.pm_packed.proofs.RowLemmas.{on_ok_from, all_whole-sorted, sorted_rows, stable_rows}
use Rattle.pm_packed.proofs.rows.PackedRows.sort.Goals as goal

pub invariant_of-self : goal.invariant_of-self
invariant_of-self c = all_whole-sorted c.self.inside.bytes.items c.self.inside.places.items c.sort_by.new.self.items c.sort_by.ensures.permutation c.self.invariant

pub returns-clause-sorted : goal.returns-clause-sorted
returns-clause-sorted c =
    let b = c.deref-bytes.result.now in
    on_ok_weaker c.sort_by.result (λ sorts. subst (λ (x : List ℕ). IsSortedByKey (λ (s : Stamped). s.key) key_cmp (map (row_at x) c.sort_by.new.self.items)) c.deref-bytes.ensures.value (sorted_rows b c.sort_by.new.self.items (sorts (λ (p q : Place). is_lt (key_cmp (row_at b p).key (row_at b q).key)) (ranks_by key_total (λ (p : Place). (row_at b p).key)) (always_returns_same _ _ _ (λ a r g h. search (rules, of_calls)))))) c.sort_by.ensures.sorted

pub returns-clause-stable : goal.returns-clause-stable
returns-clause-stable c =
    let b : List ℕ = c.deref-bytes.result.now in
    let stable = c.sort_by.ensures.stable (λ (p q : Place). is_lt (key_cmp (row_at b p).key (row_at b q).key)) (ranks_by key_total (λ (p : Place). (row_at b p).key)) (always_returns_same _ _ _ (λ a r g h. search (rules, of_calls))) in
    on_ok_from c.sort_by.result
    (subst (λ (ss : List Stamped). IsStableByKey (λ (s : Stamped). s.key) key_cmp ss (map (row_at c.self.inside.bytes.items) c.sort_by.new.self.items)) c.self.view_is
    (subst (λ (x : List ℕ). IsStableByKey (λ (s : Stamped). s.key) key_cmp (map (row_at x) c.self.inside.places.items) (map (row_at x) c.sort_by.new.self.items)) c.deref-bytes.ensures.value (stable_rows b c.self.inside.places.items c.sort_by.new.self.items stable)))

pub returns-clause-same : goal.returns-clause-same
returns-clause-same c =
    subst (λ (ss : List Stamped). IsPermutation ss (map (row_at c.self.inside.bytes.items) c.sort_by.new.self.items)) c.self.view_is
    (IsPermutation-map (row_at c.self.inside.bytes.items) c.self.inside.places.items c.sort_by.new.self.items c.sort_by.ensures.permutation)
