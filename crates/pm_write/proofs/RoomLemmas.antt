-- A batch has no more rows than it has room for.
use Rattle.std.proofs.Common.{◌≡◌, ◌≢◌, ℕ, suc, ◌+◌, ◌-◌, ◌≤◌, ◌==◌, List, [], ◌∷◌, ◌++◌, length, Bool, true, false, cond, Result, Ok, Err, refl, sym, ap, subst, ◌∙◌, arith}
use Rattle.std.proofs.lemmas.Bool.Decides.{nat_tests}
use Rattle.std.proofs.lemmas.List.{length-append}
use Rattle.pm_base.specs.Outcome.{◌>>=◌}
use Rattle.pm_values.specs.declared.refusal.Refusal.{Refusal}
use Rattle.pm_schema.specs.declared.schema.TableSchema.{TableSchema}
use Rattle.pm_model_history.specs.Merge.{HistoryRow}
use Rattle.pm_input.specs.Limits.{limits}
use Rattle.pm_input.specs.Rows.{row_at}
use Rattle.pm_engines.specs.Verdict.{verdict_on}
use Rattle.pm_engines.specs.declared.verdict.Verdict.{Verdict}
use Rattle.pm_engines.specs.declared.verdict.Verdict.TheVariants.{Take, Ignore, Refuse}
use Rattle.pm_group_rows.specs.Limit.{exceeds_partition}
use Rattle.pm_write.specs.Taken.{all_taken, long_partition, no_room, taken_at, taken_by, taken_in, taken_of}

Rows : Type 0
Rows = Result (List HistoryRow) Refusal

-- of one line at most one row is taken
one-placed : (b : Bool) (row : HistoryRow) (rows : List HistoryRow) → cond b (Err long_partition) (Ok (row ∷ [])) ≡ Ok rows → length rows ≤ 1
one-placed true row rows is = cc
one-placed false row rows is = let same : row ∷ [] ≡ rows = cc in subst (λ (rs : List HistoryRow). length rs ≤ 1) same (omega arith)

one-by : (s : TableSchema) (v : Verdict) (number : ℕ) (row : HistoryRow) (rows : List HistoryRow) → taken_by s v number row ≡ Ok rows → length rows ≤ 1
one-by s Take number row rows is = one-placed (exceeds_partition s row.1) row rows is
one-by s Ignore number row rows is = let same : [] ≡ rows = cc in subst (λ (rs : List HistoryRow). length rs ≤ 1) same (omega arith)
one-by s (Refuse column) number row rows is = cc

one-read : (s : TableSchema) (l : ℕ × List ℕ) (read : Result HistoryRow Refusal) (rows : List HistoryRow)
    → (read >>= (λ (row : HistoryRow). taken_by s (verdict_on s row.0) l.0 row)) ≡ Ok rows → length rows ≤ 1
one-read s l (Ok row) rows is = one-by s (verdict_on s row.0) l.0 row rows is
one-read s l (Err e) rows is = cc

-- with room for none, none
at-room : (s : TableSchema) (room : ℕ) (l : ℕ × List ℕ) (rows : List HistoryRow) (b : Bool) → (room == 0) ≡ b → cond b (Err no_room) (taken_of s l) ≡ Ok rows → (length rows ≤ 1) × (1 ≤ room)
at-room s room l rows true none is = cc
at-room s room l rows false some is = (one-read s l (row_at s.columns l) rows is, grind (arith, nat_tests))

in-both : (first later : Result (List HistoryRow) Refusal) (rows : List HistoryRow) (most : ℕ)
    → (first >>= (λ (f : List HistoryRow). later >>= (λ (l : List HistoryRow). Ok (f ++ l)))) ≡ Ok rows → ((f : List HistoryRow) → first ≡ Ok f → (length f ≤ 1) × (1 ≤ most))
    → ((l : List HistoryRow) → later ≡ Ok l → length l ≤ most - 1) → length rows ≤ most
in-both (Ok f) (Ok l) rows most is one others =
    let same : f ++ l ≡ rows = cc in
    let first = one f refl in
    let rest = others l refl in
    let many = length-append f l in
    subst (λ (rs : List HistoryRow). length rs ≤ most) same (omega arith)
in-both (Ok f) (Err e) rows most is one others = cc
in-both (Err e) later rows most is one others = cc

room-for : (s : TableSchema) (room : ℕ) (lines : List (ℕ × List ℕ)) (rows : List HistoryRow) → taken_in s room lines ≡ Ok rows → length rows ≤ room
room-for s room [] rows is = let same : [] ≡ rows = cc in subst (λ (rs : List HistoryRow). length rs ≤ room) same (omega arith)
room-for s room (l ∷ lines) rows is =
    in-both (taken_at s room l) (taken_in s (room - 1) lines) rows room is (λ f at. at-room s room l f (room == 0) refl at) (λ f later. room-for s (room - 1) lines f later)

pub all_room : (s : TableSchema) (lines : List (ℕ × List ℕ)) (rows : List HistoryRow) → all_taken s lines ≡ Ok rows → length rows ≤ limits.rows
all_room s lines rows is = room-for s limits.rows lines rows is
