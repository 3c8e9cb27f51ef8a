-- Which records the bytes of a file are read as, or its first fault in the order of bytes.
use Rattle.std.specs.Prelude.{◌≡◌, ◌⊎◌, ℕ, ◌≤◌, List, [], ◌∷◌, ◌++◌, length, Bool, true, false, Option, Some, None}
use Rattle.std.specs.Prelude.{Result, Ok, Err}
use Rattle.std.specs.List.{flat_map, AllByRecursion}
use Rattle.pm_base.specs.Outcome.{◌>>=◌}
use Rattle.pm_values.specs.declared.refusal.Refusal.{Refusal}
use Rattle.pm_values.specs.declared.refusal.Refusal.TheVariants as refusals
use Rattle.pm_avro_schema.specs.Avro.{Avro}
use Rattle.pm_avro_schema.specs.declared.fault.AvroFault.{AvroFault}
use Rattle.pm_avro_schema.specs.declared.fault.AvroFault.TheVariants as faults
use Rattle.pm_avro_data.specs.Datum.{Data}
use Rattle.pm_avro_file.specs.Container.{IsContainer}
use Rattle.pm_avro_file.specs.Reader.{Reader, Opens, HasBlock, HasNoBlock, Leads}
use Rattle.pm_avro_file.specs.Writing.{file_bytes}
use Rattle.pm_record.specs.declared.misfit.Misfit.{Misfit}
use Rattle.pm_record.specs.declared.misfit.Misfit.TheVariants as misfits

-- ---- refusals

-- the refusal is this one, or out of memory
abbrev pub IsMemoryOr : Refusal → Refusal → Type 0
IsMemoryOr defined e = (e ≡ refusals.Memory) ⊎ (e ≡ defined)

-- the refusal of a file at the path that has a fault
abbrev pub refusal_of : List ℕ → AvroFault → Refusal
refusal_of path faults.Memory = refusals.Memory
refusal_of path (faults.Unsupported what text) = refusals.Unsupported what text
refusal_of path (faults.Bad offset) = refusals.Damaged path offset

-- Private: the refusal of a file at the path, where a datum of the block at an offset has a misfit
abbrev pub misfit_refusal : List ℕ → ℕ → Misfit → Refusal
misfit_refusal path offset misfits.Memory = refusals.Memory
misfit_refusal path offset misfits.Bad = refusals.Damaged path offset
misfit_refusal path offset (misfits.Unsupported what text) = refusals.Unsupported what text

-- ---- reading

-- what a datum of a type is read as, or why it is no record
abbrev pub Reading : Type 0 → Type 0
Reading X = Avro → Data → Result X Misfit

-- a misfit that a datum has; out of memory isn't one
abbrev pub misfit_of : Misfit → Option Misfit
misfit_of misfits.Memory = None
misfit_of misfit = Some misfit

-- what each datum is read as, or the misfit of the first that has one
abbrev pub all_read : {X : Type 0} → (Data → Result X Misfit) → List Data → Result (List X) Misfit
all_read reads [] = Ok []
all_read reads (d ∷ ds) = do
  x ← reads d
  xs ← all_read reads ds
  Ok (x ∷ xs)

-- the data of blocks, in order
abbrev pub joined : List (List Data) → List Data
joined = flat_map (λ ds. ds)

-- the blocks from the first on to an offset are read as these records
pub record HasRead {X : Type 0} (reads : Reading X) (r : Reader) (offset : ℕ) (xs : List X) : Type 0 where
  pub blocks : List (List Data)
  pub leads : Leads r r.first blocks offset
  pub each : all_read (reads r.kind) (joined blocks) ≡ Ok xs

-- a block begins at the offset, and this is its first misfit
pub record HasMisfit {X : Type 0} (reads : Reading X) (r : Reader) (offset : ℕ) (misfit : Misfit) : Type 0 where
  pub ds : List Data
  pub next : ℕ
  pub block : HasBlock r.kind r.marker r.bytes offset ds next
  pub first : all_read (reads r.kind) ds ≡ Err misfit

-- Why no records are read at an offset of the file at the path: no block begins there, or one that has a misfit.
abbrev pub FailsAt : {X : Type 0} → Reading X → Reader → List ℕ → ℕ → Refusal → Type 0
FailsAt reads r path offset refusals.Memory = Unit {0}
FailsAt reads r path offset (refusals.Damaged at place) =
    (at ≡ path) × (place ≡ offset)
    × (HasNoBlock r.kind r.marker r.bytes offset ⊎ HasMisfit reads r offset misfits.Bad)
FailsAt reads r path offset (refusals.Unsupported what text) = HasMisfit reads r offset (misfits.Unsupported what text)
FailsAt reads r path offset other = ⊥

-- what the block at an offset is read as, and the offset after it; none exactly at the end
abbrev pub ReadsBlock : {X Y : Type 0} → (Y → List X) → Reading X → Reader → List ℕ → ℕ
    → Result (Option (Y × ℕ)) Refusal → Type 0
ReadsBlock view reads r path offset (Ok None) = offset ≡ length r.bytes
ReadsBlock view reads r path offset (Ok (Some found)) = (ds : List Data)
    × HasBlock r.kind r.marker r.bytes offset ds found.1
    × (all_read (reads r.kind) ds ≡ Ok (view found.0))
ReadsBlock view reads r path offset (Err e) = FailsAt reads r path offset e

-- an answer, its value seen by view
abbrev pub seen : {X Y E : Type 0} → (X → Y) → Result X E → Result Y E
seen view (Ok x) = Ok (view x)
seen view (Err e) = Err e

-- what all blocks are read as
abbrev pub ReadsAll : {X : Type 0} → Reading X → Reader → List ℕ → Result (List X) Refusal → Type 0
ReadsAll reads r path (Ok xs) = HasRead reads r (length r.bytes) xs
ReadsAll {X = X} reads r path (Err e) =
    (offset : ℕ) × (xs : List X) × HasRead reads r offset xs × FailsAt reads r path offset e

-- what opening the file at the path answers
abbrev pub OpensFile : List ℕ → List ℕ → Result Reader Refusal → Type 0
OpensFile path bytes (Ok r) = Opens bytes (Ok r)
OpensFile path bytes (Err e) = (fault : AvroFault) × Opens bytes (Err fault) × (e ≡ refusal_of path fault)

-- what an opened file is read as; where its type is none of those that are taken, the file is damaged at 0
abbrev pub ReadsOpened : {X : Type 0} → Bool → Reading X → Reader → List ℕ → Result (List X) Refusal → Type 0
ReadsOpened true reads r path result = ReadsAll reads r path result
ReadsOpened false reads r path result = result ≡ Err (refusals.Damaged path 0)

-- What the bytes of the file at the path are read as: records of the types that `takes` tells, each read by `reads`.
-- Out of memory may come anywhere.
abbrev pub ReadsFile : {X : Type 0} → (Avro → Bool) → Reading X → List ℕ → List ℕ → Result (List X) Refusal → Type 0
ReadsFile takes reads path bytes result =
    ((e : Refusal) × OpensFile path bytes (Err e) × (result ≡ Err e))
    ⊎ ((r : Reader) × Opens bytes (Ok r) × ReadsOpened (takes r.kind) reads r path result)

-- ---- writing

-- data in blocks: so many in each but the last, which has some
abbrev pub AreBlocks : ℕ → List (List Data) → Type 0
AreBlocks most [] = Unit {0}
AreBlocks most (ds ∷ []) = (1 ≤ length ds) × (length ds ≤ most)
AreBlocks most (ds ∷ es ∷ blocks) = (length ds ≡ most) × AreBlocks most (es ∷ blocks)

-- Private: data in blocks that are full, and those of the last block, which is empty only where there are none
pub record IsSplit (most : ℕ) (blocks : List (List Data)) (last ds : List Data) : Type 0 where
  pub same : joined blocks ++ last ≡ ds
  pub full : AllByRecursion (λ block. length block ≡ most) blocks
  pub within : length last ≤ most
  pub some : last ≡ [] → blocks ≡ []

-- the bytes of a file with these data, so many in a block; without data there is no block
pub record IsFileOf (t : Avro) (most : ℕ) (ds : List Data) (marker bytes : List ℕ) : Type 0 where
  pub blocks : List (List Data)
  pub same : joined blocks ≡ ds
  pub full : AreBlocks most blocks
  pub container : IsContainer t blocks marker bytes
  pub written : bytes ≡ file_bytes t blocks marker
