use Rattle.std.proofs.Common.{◌≡◌, ℕ, ◌≤◌, List, length, Result, Ok, Err, IfOk, arith}
use Rattle.pm_values.specs.declared.refusal.Refusal.{Refusal}
use Rattle.pm_schema.specs.declared.schema.TableSchema.{TableSchema}
use Rattle.pm_model_history.specs.Merge.{HistoryRow}
use Rattle.pm_input.specs.Limits.{limits}
use Rattle.pm_write.specs.Batch.{Groups, IsBatchOf, ReadsBatch}
use Rattle.pm_write.specs.Taken.{all_taken}
use Rattle.pm_commit.specs.Own.{group_limit}
use Rattle.pm_cases_rivals.proofs.writers.read_batch.Goals as goal

few_read : ((s : TableSchema) (rows : List HistoryRow) (batch : Groups) → IsBatchOf s rows batch
    → length batch ≤ length rows)
    → ((s : TableSchema) (lines : List (ℕ × List ℕ)) (rows : List HistoryRow) → all_taken s lines ≡ Ok rows
    → length rows ≤ limits.rows)
    → (s : TableSchema) (lines : List (ℕ × List ℕ)) (result : Result Groups Refusal)
    → ReadsBatch s result (all_taken s lines) → IfOk result (λ batch. length batch ≤ group_limit)
few_read few room s lines (Ok batch) (rows, taken, is) =
    let low = few s rows batch is in
    let high = room s lines rows taken in
    omega (arith, low, high)
few_read few room s lines (Err e) fails = tt

pub returns-clause-few : goal.returns-clause-few
returns-clause-few c =
    few_read c.batch_law.ensures.few c.batch_law.ensures.room c.args.schema.now c.args.lines c.read-batch.result
    c.read-batch.ensures
