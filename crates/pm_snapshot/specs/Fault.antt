-- The one fault that a text has: it isn't what it should be.
use Rattle.std.specs.Prelude.{Option, None, Some}
use Rattle.pm_snapshot.specs.declared.fault.SnapFault.{SnapFault}
use Rattle.pm_snapshot.specs.declared.fault.SnapFault.TheVariants.{Memory, Bad}

-- the fault, which out of memory is none of
abbrev pub fault_of : SnapFault → Option SnapFault
fault_of Memory = None
fault_of Bad = Some Bad
