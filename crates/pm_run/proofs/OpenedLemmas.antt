-- What opening a file of rows leads to, by its bytes, but that memory may run out: so it leads to one place.
use Rattle.std.proofs.Common.{◌≡◌, ◌≢◌, ◌⊎◌, inl, inr, ℕ, List, Bool, true≢false, Option, Result, Ok, Err, refl, sym, ap, subst, ◌∙◌}
use Rattle.pm_avro_schema.specs.declared.fault.AvroFault.{AvroFault}
use Rattle.pm_avro_schema.specs.declared.fault.AvroFault.TheVariants as faults
use Rattle.pm_avro_file.specs.Reader.{Reader}
use Rattle.pm_record.specs.File.{OpensFile, refusal_of}
use Rattle.pm_schema.specs.declared.schema.TableSchema.{TableSchema}
use Rattle.pm_values.specs.Order.{Values}
use Rattle.pm_values.specs.declared.record.Stamped.{Stamped}
use Rattle.pm_values.specs.declared.refusal.Refusal.{Refusal}
use Rattle.pm_values.specs.declared.refusal.Refusal.TheVariants as refusals
use Rattle.pm_run.specs.Form.{form_of}
use Rattle.pm_run.specs.Kinds.{has_row_fields}
use Rattle.pm_run.specs.Reader.{IsOfOther, LacksField, OpensRun, RefusesRun, RunView, before_first}
use Rattle.pm_run.specs.Rows.{Follow, Opened, opened_with}
use Rattle.pm_run.proofs.OneLemmas.{OneOpening, opened_same}

-- what follows from an offset on is one list, and one end
abbrev pub OneFollow : Type 0
OneFollow = (o : Opened) (offset : ℕ) (before : Option Values) (rows others : List Stamped) (end other : Option Refusal) → Follow o offset before rows end
    → Follow o offset before others other → (rows ≡ others) × (end ≡ other)

ok_or : (r : Reader) (fault : AvroFault) → ◌≢◌ {A = Result Reader AvroFault} (Ok r) (Err fault)
ok_or r fault is = cc

same_fault : (one other : AvroFault) → ◌≡◌ {A = Result Reader AvroFault} (Err one) (Err other) → one ≡ other
same_fault one other is = cc

-- a fault that is no want of memory
fault_not : (path : List ℕ) (fault : AvroFault) (e : Refusal) → e ≢ refusals.Memory → e ≡ refusal_of path fault → ◌≢◌ {A = Result Reader AvroFault} (Err fault) (Err faults.Memory)
fault_not path fault e other is same = other (is ∙ ap (refusal_of path) (same_fault fault faults.Memory same))

-- why it isn't opened, but for want of memory
abbrev pub Refused : TableSchema → ℕ → List ℕ → List ℕ → Refusal → Type 0
Refused s id path bytes e = IsOfOther s id e ⊎ ((id ≡ s.id) × (OpensFile path bytes (Err e) ⊎ LacksField s path bytes e))

pub refused_of : (s : TableSchema) (id : ℕ) (path bytes : List ℕ) (e : Refusal) → e ≢ refusals.Memory → RefusesRun s id path bytes e → Refused s id path bytes e
refused_of s id path bytes refusals.Memory other refuses = absurd (other refl)
refused_of s id path bytes e other refuses = refuses

module _ (opening : OneOpening) where
  one_reader : (s : TableSchema) (changes : Bool) (id : ℕ) (path bytes : List ℕ) (v w : RunView) → OpensRun s changes id path bytes (Ok v) → OpensRun s changes id path bytes (Ok w)
      → v ≡ w
  one_reader s changes id path bytes v w (of_it, r, opens, has, is) (also, t, opened, had, was) =
      is ∙ ap (λ (r : Reader). before_first (opened_with s changes path r)) (opened_same opening bytes r t opens opened) ∙ sym was

  pub opened_not : (s : TableSchema) (changes : Bool) (id : ℕ) (path bytes : List ℕ) (v : RunView) (e : Refusal) → e ≢ refusals.Memory → OpensRun s changes id path bytes (Ok v)
      → Refused s id path bytes e → ⊥
  opened_not s changes id path bytes v e other (of_it, r, opens, has, is) (inl (foreign, at)) = foreign of_it
  opened_not s changes id path bytes v e other (of_it, r, opens, has, is) (inr (own, inl (fault, fails, at))) =
      ok_or r fault (opening bytes (Ok r) (Err fault) opens fails (ok_or r faults.Memory) (fault_not path fault e other at))
  opened_not s changes id path bytes v e other (of_it, r, opens, has, is) (inr (own, inr (t, opened, lacks, at))) =
      true≢false (sym has ∙ ap (λ (r : Reader). has_row_fields (form_of s) r.kind) (opened_same opening bytes r t opens opened) ∙ lacks)

  pub one_unopened : (s : TableSchema) (id : ℕ) (path bytes : List ℕ) (e d : Refusal) → e ≢ refusals.Memory → d ≢ refusals.Memory → Refused s id path bytes e
      → Refused s id path bytes d → e ≡ d
  one_unopened s id path bytes e d other more (inl (foreign, is)) (inl (also, was)) = is ∙ sym was
  one_unopened s id path bytes e d other more (inl (foreign, is)) (inr (own, why)) = absurd (foreign own)
  one_unopened s id path bytes e d other more (inr (own, why)) (inl (foreign, was)) = absurd (foreign own)
  one_unopened s id path bytes e d other more (inr (own, inl (fault, fails, is))) (inr (also, inl (cause, failed, was))) =
      is ∙ ap (refusal_of path) (same_fault fault cause (opening bytes (Err fault) (Err cause) fails failed (fault_not path fault e other is) (fault_not path cause d more was))) ∙ sym was
  one_unopened s id path bytes e d other more (inr (own, inl (fault, fails, is))) (inr (also, inr (r, opens, lacks, was))) =
      absurd (ok_or r fault (opening bytes (Ok r) (Err fault) opens fails (ok_or r faults.Memory) (fault_not path fault e other is)))
  one_unopened s id path bytes e d other more (inr (own, inr (r, opens, lacks, is))) (inr (also, inl (cause, failed, was))) =
      absurd (ok_or r cause (opening bytes (Ok r) (Err cause) opens failed (ok_or r faults.Memory) (fault_not path cause d more was)))
  one_unopened s id path bytes e d other more (inr (own, inr (r, opens, lacks, is))) (inr (also, inr (t, opened, lacked, was))) = is ∙ sym was

  -- the rows of a file after a key, and its end, are one
  pub one_opened : OneFollow → (s : TableSchema) (changes : Bool) (id : ℕ) (path bytes : List ℕ) (before : Option Values) (v w : RunView) (rows others : List Stamped)
      (end other : Option Refusal) → OpensRun s changes id path bytes (Ok v) → OpensRun s changes id path bytes (Ok w) → Follow v.opened v.opened.file.first before rows end
      → Follow w.opened w.opened.file.first before others other → (rows ≡ others) × (end ≡ other)
  one_opened one s changes id path bytes before v w rows others end other opens opened follow followed =
      let same = one_reader s changes id path bytes w v opened opens in
      one v.opened v.opened.file.first before rows others end other follow
      (subst (λ (v : RunView). Follow v.opened v.opened.file.first before others other) same followed)
