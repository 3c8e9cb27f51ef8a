use Rattle.std.proofs.Common.{◌≡◌, ℕ, List, map}
use Rattle.std.specs.BTreeSet.{contains}
use Rattle.std.specs.Cmp.Lexicographic.{slice_cmp}
use Rattle.std.specs.List.{list_any}
use Rattle.std.specs.Map.Iter.{deref_pair}
use Rattle.std.specs.Ordering.{nat_cmp}
use Rattle.pm_store.specs.Names.{leads_to}
use Rattle.pm_store.proofs.names.gathered.Given as goal

abbrev pub invariant-loop-path : goal.invariant-loop-path
invariant-loop-path l = (q : List ℕ) → contains (slice_cmp nat_cmp) l.names q ≡ list_any (λ e. leads_to l.prefix q e.0) (map deref_pair l.yielded)
