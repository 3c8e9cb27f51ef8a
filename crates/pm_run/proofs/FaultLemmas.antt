-- The faults that the bytes of a file of rows may have.
use Rattle.std.proofs.Common.{◌≡◌, ◌⊎◌, ℕ, List, [], ◌∷◌, refl, Option, None, Some, Result, Ok, Err, inl, inr, subst, sym, ◌∙◌}
use Rattle.pm_values.specs.Order.{Values}
use Rattle.pm_values.specs.declared.record.Stamped.{Stamped}
use Rattle.pm_values.specs.declared.refusal.Refusal.{Refusal}
use Rattle.pm_values.specs.declared.refusal.Refusal.TheVariants as refusals
use Rattle.pm_schema.specs.declared.schema.TableSchema.{TableSchema}
use Rattle.pm_avro_data.specs.Datum.{Data}
use Rattle.pm_avro_schema.specs.declared.fault.AvroFault.{AvroFault}
use Rattle.pm_avro_schema.specs.declared.fault.AvroFault.TheVariants as faults
use Rattle.pm_record.specs.File.{misfit_refusal, refusal_of}
use Rattle.pm_record.specs.declared.misfit.Misfit.{Misfit}
use Rattle.pm_record.specs.declared.misfit.Misfit.TheVariants as misfits
use Rattle.pm_run.specs.Reader.{RefusesRun, UnlessMemory}
use Rattle.pm_run.specs.Rows.{Ends, Follow, Opened, all_placed, judged, next_row, then_judged}

-- it holds of want of memory, and of what is damaged or not supported
pub record OfFaults (P : Refusal → Type 0) : Type 0 where
  pub memory : P refusals.Memory
  pub damaged : (path : List ℕ) (place : ℕ) → P (refusals.Damaged path place)
  pub unsupported : (what text : List ℕ) → P (refusals.Unsupported what text)

some_same : (e other : Refusal) → ◌≡◌ {A = Option Refusal} (Some e) (Some other) → e ≡ other
some_same e other same = cc

-- a refusal is out of memory, or has what is said of it otherwise
pub memory_or : (e : Refusal) (P : Type 0) → UnlessMemory e P → (e ≡ refusals.Memory) ⊎ P
memory_or refusals.Memory P is = inl refl
memory_or other P is = inr is

module _ (P : Refusal → Type 0) (of : OfFaults P) where
  of_fault : (path : List ℕ) (fault : AvroFault) → P (refusal_of path fault)
  of_fault path faults.Memory = of.memory
  of_fault path (faults.Unsupported what text) = of.unsupported what text
  of_fault path (faults.Bad offset) = of.damaged path offset

  of_misfit : (path : List ℕ) (offset : ℕ) (misfit : Misfit) → P (misfit_refusal path offset misfit)
  of_misfit path offset misfits.Memory = of.memory
  of_misfit path offset misfits.Bad = of.damaged path offset
  of_misfit path offset (misfits.Unsupported what text) = of.unsupported what text

  same_fault : (e other : Refusal) → e ≡ other → P other → P e
  same_fault e other same is = subst P (sym same) is

  -- ---- opening

  pub opened_fault : (s : TableSchema) (id : ℕ) (path bytes : List ℕ) (e : Refusal) → RefusesRun s id path bytes e → P e
  opened_fault s id path bytes refusals.Memory refuses = of.memory
  opened_fault s id path bytes e (inl (other, is)) = same_fault e _ is (of.damaged _ _)
  opened_fault s id path bytes e (inr (same, inl (fault, opens, is))) = same_fault e _ is (of_fault path fault)
  opened_fault s id path bytes e (inr (same, inr (r, opens, lacks, is))) = same_fault e _ is (of.damaged _ _)

  -- ---- rows

  none_there : (e : Refusal) → ◌≡◌ {A = Option Refusal} None (Some e) → P e
  none_there e same = absurd (let clash = same in cc)

  pub judged_fault : (o : Opened) (before : Option Values) (ps : List (ℕ × Data)) (e : Refusal) → (judged o before ps).refusal ≡ Some e → P e
  judged_fault o before [] e is = none_there e is
  judged_fault o before (p ∷ ps) e is = at (λ (before : Option Values) is. judged_fault o before ps e is) (next_row o before p.1) is
    where
      at : ((before : Option Values) → (judged o before ps).refusal ≡ Some e → P e) → (r : Result Stamped Misfit)
          → (then_judged o.path p.0 r (λ (x : Stamped). judged o (Some x.key) ps)).refusal ≡ Some e → P e
      at later (Ok x) is = later (Some x.key) is
      at later (Err misfit) is = same_fault e _ (some_same e (misfit_refusal o.path p.0 misfit) (sym is)) (of_misfit o.path p.0 misfit)

  ends_fault : (o : Opened) (before : Option Values) (ps : List (ℕ × Data)) (offset : ℕ) (refusal : Option Refusal) (e : Refusal)
      → (judged o before ps).refusal ≡ refusal → Ends o offset refusal (Some e) → P e
  ends_fault o before ps offset None e is (at, none) = same_fault e _ at (of.damaged _ _)
  ends_fault o before ps offset (Some other) e is ends = judged_fault o before ps e (is ∙ sym ends)

  pub follow_fault : (o : Opened) (offset : ℕ) (before : Option Values) (rows : List Stamped) (e : Refusal) → Follow o offset before rows (Some e) → P e
  follow_fault o offset before rows e follow =
      ends_fault o before (all_placed follow.blocks) follow.last (judged o before (all_placed follow.blocks)).refusal e refl follow.ends
