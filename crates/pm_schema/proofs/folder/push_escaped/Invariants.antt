use Rattle.std.proofs.Common.{◌≡◌, ◌++◌, take, string_bytes}
use Rattle.pm_schema.specs.Folder.{escaped}
use Rattle.pm_schema.proofs.folder.push_escaped.Given as goal

abbrev pub invariant-loop-b : goal.invariant-loop-b
invariant-loop-b l = string_bytes l.path ≡ string_bytes l.fn.path ++ escaped (take l.b-index l.text)
