-- What is made of rows that were read: they have no refusal, so the only one is that memory ran out.
use Rattle.std.proofs.Common.{◌≡◌, ◌≢◌, List, [], ◌∷◌, ◌++◌, Some, All, map, refl, ap, sym, subst, ◌∙◌, suc, Result, Ok, Err, IfErr, arith}
use Rattle.std.specs.List.{AllByRecursion}
use Rattle.pm_schema.specs.declared.schema.TableSchema.{TableSchema}
use Rattle.pm_values.specs.declared.refusal.Refusal.{Refusal}
use Rattle.pm_values.specs.declared.refusal.Refusal.TheVariants.{Memory}
use Rattle.pm_engine.specs.Covers.{IsRising, Run}
use Rattle.pm_engine.specs.Meaning.{Meaning}
use Rattle.pm_merge.specs.Merging.{GivesAll, HaveNoRefusal, first_refusal, rests_of, runs_in}
use Rattle.pm_merge.specs.Source.{Rest}
use Rattle.pm_run.specs.Form.{Form, form_of}
use Rattle.pm_compact.specs.Rewritten.{RefusesAfter}
use Rattle.pm_scan_rows.specs.Group.{reads_of, runs_read}
use Rattle.pm_scan_rows.specs.declared.read_group.ReadGroup.{ReadGroup}
use Rattle.pm_scan_rows.specs.Stored.{AreGivenFor, rest_of, run_left}
use Rattle.pm_scan_rows.specs.declared.written_rows.WrittenRows.{WrittenRows}

-- runs as rests are the rests of these runs
rests-joined : (rows : List WrittenRows) → map (λ r. rest_of r.rows) rows ≡ rests_of (map (λ r. run_left r.rows) rows)
rests-joined [] = refl
rests-joined (r ∷ rows) = ap (λ (rests : List Rest). rest_of r.rows ∷ rests) (rests-joined rows)

pub rests_are : (rows : List WrittenRows) (runs : List Run) → map (λ r. run_left r.rows) rows ≡ runs → map (λ r. rest_of r.rows) rows ≡ rests_of runs
rests_are rows runs are = rests-joined rows ∙ ap rests_of are

pub runs-again : (runs : List Run) → runs_in (rests_of runs) ≡ runs
runs-again [] = refl
runs-again (run ∷ runs) = ap (λ (rest : List Run). run ∷ rest) (runs-again runs)

pub rests_rise : (rows : List WrittenRows) (runs : List Run) → map (λ r. run_left r.rows) rows ≡ runs → All IsRising runs → All IsRising (runs_in (map (λ r. rest_of r.rows) rows))
rests_rise rows runs are rising =
    subst (All IsRising) (sym (ap runs_in (rests_are rows runs are) ∙ runs-again runs)) rising

-- where the form is that of the table, so are the rows those of its files
pub given_for : (rows : List WrittenRows) (f : Form) (s : TableSchema) → f ≡ form_of s → AllByRecursion (AreGivenFor f) rows → AllByRecursion (λ r. AreGivenFor (form_of s) r) rows
given_for rows f s same given = subst (λ (h : Form). AllByRecursion (λ r. AreGivenFor h r) rows) same given

no-refusal : (runs : List Run) → HaveNoRefusal (rests_of runs)
no-refusal [] = tt
no-refusal (run ∷ runs) = (refl, no-refusal runs)

abbrev pub OnlyMemory : Type 0
OnlyMemory = (m : Meaning) (first last : List Rest) (run : Run) (e : Refusal) → GivesAll m first run last → HaveNoRefusal first
    → (e ≢ Memory → first_refusal last ≡ Some e) → e ≡ Memory

pub only-memory : OnlyMemory → (m : Meaning) (runs : List Run) (e : Refusal) → (e ≢ Memory → RefusesAfter m (rests_of runs) e) → e ≡ Memory
only-memory law m runs e refuses =
    law m (rests_of runs) (rests_of runs) [] e refl (no-refusal runs)
    (λ no. let r = refuses no in absurd (no (law m (rests_of runs) r.1 r.0 e r.2 (no-refusal runs) (λ other. r.3))))

-- the runs of each group rise, as those of all do
first-rises : (group : ReadGroup) (groups : List ReadGroup) → All (All IsRising) (runs_read (reads_of (group ∷ groups))) → All IsRising group.runs.items
first-rises group groups all = all 0 group.runs.items (omega arith)

later-rises : (before : List ReadGroup) (rest : List ReadGroup) → All (All IsRising) (runs_read (reads_of (before ++ rest))) → All (All IsRising) (runs_read (reads_of rest))
later-rises [] rest all = all
later-rises (group ∷ before) rest all = later-rises before rest (λ k d within. all (suc k) d (omega (arith, within)))

pub group-rises : (before after : List ReadGroup) (group : ReadGroup) (groups : List ReadGroup) → before ++ group ∷ after ≡ groups
    → All (All IsRising) (runs_read (reads_of groups)) → All IsRising group.runs.items
group-rises before after group groups parts all =
    first-rises group after (later-rises before (group ∷ after) (subst (λ (gs : List ReadGroup). All (All IsRising) (runs_read (reads_of gs))) (sym parts) all))

-- what holds of each refusal holds of the one that came
pub err-only : {X E : Type 0} (r : Result X E) (P Q : E → Type 0) → ((e : E) → P e → Q e) → IfErr r P → IfErr r Q
err-only (Ok x) P Q each one = tt
err-only (Err e) P Q each one = each e one
