use Rattle.std.proofs.Common.{◌≡◌, ◌<◌, length, Some, option_map, refl, sym, ◌∙◌}
use Rattle.std.specs.List.{find}
use Rattle.std.specs.Str.{bytes_eq}
use Rattle.pm_cases_groups.proofs.Columns.{found_kind, one_more}
use Rattle.pm_cases_groups.proofs.folder.partition_columns.Goals as goal

pub loop-name-preserved : goal.loop-name-preserved
loop-name-preserved c =
    let s = c.args.schema.now in
    let i = c.loop-name.name-index in
    let name = c.name-item.result in
    let within : i < length s.partition = rw c.as_slice-name-items.ensures at c.loop-name-test.true in
    let is = rw c.as_slice-name-items.ensures at c.name-item.is in
    let found = find (λ d. bytes_eq d.name name) s.columns in
    let kind : option_map (λ d. d.kind) found ≡ Some c.in-Some.kind =
    rw c.as_slice.ensures at (sym c.kind_of.ensures ∙ c.in-Some.is) in
    one_more s.columns s.partition i name c.loop-name.columns.items c.push.new.self.items _ within is
    c.in_ok-push.ensures.items c.loop-name.invariant (found_kind found c.in-Some.kind kind, refl)
