use Rattle.std.proofs.Common.{◌≡◌, ◌++◌, drop, string_bytes}
use Rattle.pm_schema.specs.Folder.{parts_text}
use Rattle.pm_schema.proofs.folder.push_parts.Given as goal

abbrev pub invariant-loop-index : goal.invariant-loop-index
invariant-loop-index l =
    string_bytes l.path ++ parts_text (drop l.index l.columns) (drop l.index l.values) ≡ string_bytes l.fn.path ++ parts_text l.columns l.values
