-- Which faults a definition can name.
use Rattle.std.specs.Prelude.{Option, None, Some}
use Rattle.pm_avro_schema.specs.declared.fault.AvroFault.{AvroFault}
use Rattle.pm_avro_schema.specs.declared.fault.AvroFault.TheVariants.{Memory}

-- the fault, which is none of a text's or of bytes' where memory ran out
abbrev pub fault_of : AvroFault → Option AvroFault
fault_of Memory = None
fault_of fault = Some fault
