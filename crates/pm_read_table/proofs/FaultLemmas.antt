-- The faults that the bytes of a list or of a manifest may have.
use Rattle.std.proofs.Common.{◌≡◌, ℕ, List, Bool, true, false, Result, Err, inl, inr, subst, sym}
use Rattle.pm_values.specs.declared.refusal.Refusal.{Refusal}
use Rattle.pm_values.specs.declared.refusal.Refusal.TheVariants as refusals
use Rattle.pm_avro_schema.specs.Avro.{Avro}
use Rattle.pm_avro_schema.specs.declared.fault.AvroFault.{AvroFault}
use Rattle.pm_avro_schema.specs.declared.fault.AvroFault.TheVariants as faults
use Rattle.pm_avro_file.specs.Reader.{Reader}
use Rattle.pm_record.specs.File.{refusal_of, Reading, FailsAt, ReadsOpened, ReadsFile}

-- out of memory, damaged or not supported
abbrev pub IsFileFault : Refusal → Type 0
IsFileFault refusals.Memory = Unit {0}
IsFileFault (refusals.Damaged path place) = Unit {0}
IsFileFault (refusals.Unsupported what text) = Unit {0}
IsFileFault other = ⊥

pub of_fault : (path : List ℕ) (fault : AvroFault) → IsFileFault (refusal_of path fault)
of_fault path faults.Memory = tt
of_fault path (faults.Unsupported what text) = tt
of_fault path (faults.Bad offset) = tt

err_same : {X : Type 0} (e other : Refusal) → ◌≡◌ {A = Result X Refusal} (Err e) (Err other) → e ≡ other
err_same e other same = cc

module _ {X : Type 0} (reads : Reading X) where
  of_block : (r : Reader) (path : List ℕ) (offset : ℕ) (e : Refusal) → FailsAt reads r path offset e → IsFileFault e
  of_block r path offset refusals.Memory fails = tt
  of_block r path offset (refusals.Damaged at place) fails = tt
  of_block r path offset (refusals.Unsupported what text) fails = tt
  of_block r path offset other fails = fails

  of_opened : (takes : Bool) (r : Reader) (path : List ℕ) (e : Refusal) → ReadsOpened takes reads r path (Err e) → IsFileFault e
  of_opened true r path e (offset, xs, has, fails) = of_block r path offset e fails
  of_opened false r path e is = subst IsFileFault (sym (err_same {X = List X} e (refusals.Damaged path 0) is)) tt

pub file_fault : {X : Type 0} (takes : Avro → Bool) (reads : Reading X) (path bytes : List ℕ) (e : Refusal) → ReadsFile takes reads path bytes (Err e) → IsFileFault e
file_fault {X} takes reads path bytes e (inl (other, (fault, opens, at), is)) =
    subst IsFileFault (sym (err_same {X = List X} e other is)) (subst IsFileFault (sym at) (of_fault path fault))
file_fault takes reads path bytes e (inr (r, opens, opened)) = of_opened reads (takes r.kind) r path e opened
