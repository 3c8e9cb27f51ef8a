-- What a reader of a file is seen as, and what its calls answer.
use Rattle.std.specs.Prelude.{◌≡◌, ◌≢◌, ◌⊎◌, ℕ, ◌≤◌, List, [], ◌∷◌, length, drop, Option, Some, None, Result, Ok, Err}
use Rattle.pm_avro_schema.specs.Avro.{Avro}
use Rattle.pm_avro_schema.specs.declared.fault.AvroFault.{AvroFault}
use Rattle.pm_avro_schema.specs.declared.fault.AvroFault.TheVariants.{Memory, Unsupported, Bad}
use Rattle.pm_avro_data.specs.Datum.{Data}
use Rattle.pm_avro_file.specs.Container.{Pairs, IsPreamble, IsHeader, IsBlock}
use Rattle.pm_avro_file.specs.Header.{kind_in}
use Rattle.pm_avro_file.specs.declared.stop.Stop.{Stop}
use Rattle.pm_avro_file.specs.declared.stop.Stop.TheVariants as stops

-- a file's bytes, the type of its data, its marker, where its first block begins, where the next begins, and the
-- fault that ended the reading
pub record Reader : Type 0 where
  pub bytes : List ℕ
  pub kind : Avro
  pub marker : List ℕ
  pub first : ℕ
  pub offset : ℕ
  pub fault : Option AvroFault

-- the fault that a stop stands for
abbrev pub stop_fault : Stop → AvroFault
stop_fault stops.Memory = Memory
stop_fault (stops.Bad offset) = Bad offset

-- Private: what a call that may stop answers
abbrev pub answer_of : {X : Type 0} → Result X Stop → Result X AvroFault
answer_of (Ok x) = Ok x
answer_of (Err stop) = Err (stop_fault stop)

-- a preamble stands there, and its metadata have this fault
pub record IsRefused (bytes : List ℕ) (fault : AvroFault) : Type 0 where
  pub pairs : Pairs
  pub marker : List ℕ
  pub rest : List ℕ
  pub preamble : IsPreamble pairs marker bytes rest
  pub because : kind_in pairs ≡ Err fault

-- the bytes begin with no preamble
abbrev pub HasNoPreamble : List ℕ → Type 0
HasNoPreamble bytes = (pairs : Pairs) (marker rest : List ℕ) → IsPreamble pairs marker bytes rest → ⊥

-- the reader of a file before its first block
pub record IsOpened (bytes : List ℕ) (r : Reader) : Type 0 where
  pub same : r.bytes ≡ bytes
  pub within : r.first ≤ length bytes
  pub header : IsHeader r.kind r.marker bytes (drop r.first bytes)
  pub before : r.offset ≡ r.first
  pub reads : r.fault ≡ None

-- what opening answers
abbrev pub Opens : List ℕ → Result Reader AvroFault → Type 0
Opens bytes (Ok r) = IsOpened bytes r
Opens bytes (Err Memory) = Unit {0}
Opens bytes (Err (Unsupported what said)) = IsRefused bytes (Unsupported what said)
Opens bytes (Err (Bad offset)) = (offset ≡ 0) × (HasNoPreamble bytes ⊎ IsRefused bytes (Bad 0))

-- the block that begins at an offset, and the offset after it
pub record HasBlock (t : Avro) (marker bytes : List ℕ) (offset : ℕ) (ds : List Data) (next : ℕ) : Type 0 where
  pub within : next ≤ length bytes
  pub block : IsBlock t marker ds (drop offset bytes) (drop next bytes)

-- at an offset before the end no block begins
pub record HasNoBlock (t : Avro) (marker bytes : List ℕ) (offset : ℕ) : Type 0 where
  pub before : offset ≢ length bytes
  pub none : (ds : List Data) (rest : List ℕ) → IsBlock t marker ds (drop offset bytes) rest → ⊥

-- what is answered at an offset: none exactly at the end, a block, seen by view, and the offset after it, or a fault
abbrev pub AnswersAt : {X : Type 0} → (X → List Data) → Avro → List ℕ → List ℕ → ℕ
    → Result (Option (X × ℕ)) AvroFault → Type 0
AnswersAt view t marker bytes offset (Ok None) = offset ≡ length bytes
AnswersAt view t marker bytes offset (Ok (Some x)) = HasBlock t marker bytes offset (view x.0) x.1
AnswersAt view t marker bytes offset (Err Memory) = offset ≢ length bytes
AnswersAt view t marker bytes offset (Err (Unsupported what said)) = ⊥
AnswersAt view t marker bytes offset (Err (Bad at)) = (at ≡ offset) × HasNoBlock t marker bytes offset

-- the reader at another offset
abbrev pub moved_to : ℕ → Reader → Reader
moved_to offset r = record r { offset = offset }

-- the reader that a fault has stopped
abbrev pub stopped_by : AvroFault → Reader → Reader
stopped_by fault r = record r { fault = Some fault }

-- what is read at a reader's offset, and what it leaves: a reader after the block, one at its end, or one that has
-- stopped
abbrev pub ReadsNext : {X : Type 0} → (X → List Data) → Reader → Reader → Result (Option X) AvroFault → Type 0
ReadsNext view before after (Ok None) =
    AnswersAt view before.kind before.marker before.bytes before.offset (Ok None)
    × (after ≡ before)
ReadsNext view before after (Ok (Some x)) =
    AnswersAt view before.kind before.marker before.bytes before.offset (Ok (Some (x, after.offset)))
    × (after ≡ moved_to after.offset before)
ReadsNext view before after (Err e) =
    AnswersAt view before.kind before.marker before.bytes before.offset (Err e)
    × (after ≡ stopped_by e before)

-- so while no fault has come, and then the same fault again and the same reader
abbrev pub AdvancesFrom : {X : Type 0} → (X → List Data) → Option AvroFault → Reader → Reader
    → Result (Option X) AvroFault → Type 0
AdvancesFrom view None before after result = ReadsNext view before after result
AdvancesFrom view (Some e) before after result = (result ≡ Err e) × (after ≡ before)

-- what reading on answers, and what it leaves
abbrev pub Advances : {X : Type 0} → (X → List Data) → Reader → Reader → Result (Option X) AvroFault → Type 0
Advances view before after result = AdvancesFrom view before.fault before after result

-- the blocks that are answered from one offset on to another
abbrev pub Leads : Reader → ℕ → List (List Data) → ℕ → Type 0
Leads r offset [] last = offset ≡ last
Leads r offset (ds ∷ blocks) last = (next : ℕ)
    × AnswersAt (λ d. d) r.kind r.marker r.bytes offset (Ok (Some (ds, next)))
    × Leads r next blocks last
