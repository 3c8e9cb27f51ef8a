-- Calls whose bytes are lent.
use Rattle.std.specs.Option.{option_copied}
use Rattle.pm_store.specs.declared.call.Call.{Call}
use Rattle.pm_store.specs.declared.call.Call.TheVariants as calls
use Rattle.pm_store.specs.declared.lent.LentCall.{LentCall}
use Rattle.pm_store.specs.declared.lent.LentCall.TheVariants as lent

-- the call with these arguments
abbrev pub lent_call : LentCall → Call
lent_call (lent.List folder) = calls.List folder
lent_call (lent.Read path) = calls.Read path
lent_call (lent.Create path bytes) = calls.Create path bytes.now
lent_call (lent.Publish after path bytes) = calls.Publish after path bytes.now
lent_call (lent.Swap path expected bytes) = calls.Swap path (option_copied expected) bytes.now
lent_call (lent.Remove path) = calls.Remove path
