use Rattle.std.proofs.Common.{◌≡◌, drop}
use Rattle.std.specs.List.{find}
use Rattle.std.specs.Str.{bytes_eq}
use Rattle.pm_cases_groups.proofs.folder.kind_of.Given as goal

-- no column so far has the name
abbrev pub invariant-loop-column : goal.invariant-loop-column
invariant-loop-column l =
    find (λ c. bytes_eq c.name l.name) (drop l.column-index l.columns) ≡ find (λ c. bytes_eq c.name l.name) l.columns
