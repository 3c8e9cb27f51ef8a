-- Rows that are judged where they lie.
use Rattle.std.proofs.Common.{◌≡◌, ℕ, ◌<◌, ◌≤◌, List, [], ◌++◌, length, Option, None, refl, sym, ap, subst, ◌∙◌, append_assoc, append-nil}
use Rattle.pm_values.specs.Order.{Values}
use Rattle.pm_values.specs.declared.record.Stamped.{Stamped}
use Rattle.pm_values.specs.declared.refusal.Refusal.{Refusal}
use Rattle.pm_record.proofs.Facts.{block_moves}
use mathlib.Core.Logic.{∥∥₁_elim}
use Rattle.pm_run_reader.specs.Finding.{Judges}
use Rattle.pm_run_bytes.specs.Block.{JudgesBlock}
use Rattle.pm_run_bytes.specs.Direct.{IsDirect}
use Rattle.pm_run_bytes.specs.Known.{LieFrom, at_end, with_block}
use Rattle.pm_run_bytes.specs.declared.direct.Direct.{Direct}
use Rattle.pm_run_reader.specs.Judged.{HasOnly}
use Rattle.pm_run.specs.Order.{last_key}
use Rattle.pm_run.specs.Rows.{Follow, Gives, Opened}
use Rattle.pm_run_reader.proofs.AppendLemmas.{last-joined}
use Rattle.pm_run_reader.proofs.KnownLemmas.{block_content, rows_lie}
use Rattle.pm_run.proofs.FollowLemmas.{follow_block, follow_end}
use Rattle.pm_run.proofs.OneLemmas.{follow_in_order, follow_other}
use Rattle.pm_run.proofs.OrderLemmas.{from_none}

-- ---- a file

-- rows from the beginning up to an offset were judged, what follows from there on follows them, and what lies from there
-- on lies after them
pub record IsJudged (o : Opened) (offset : ℕ) (before last : Option Values) : Type 0 where
  pub rows : List Stamped
  pub last_is : last ≡ last_key before rows
  pub follow : (later : List Stamped) (end : Option Refusal) → Follow o offset last later end → Follow o o.file.first before (rows ++ later) end
  pub lie : (d : Direct) → IsDirect d o.form o.file → (later : List Stamped) → LieFrom d o.file.bytes o.form o.changes offset later
      → LieFrom d o.file.bytes o.form o.changes o.file.first (rows ++ later)

pub judged-none : (o : Opened) (before : Option Values) → IsJudged o o.file.first before before
judged-none o before = record { rows = []; last_is = refl; follow = λ later end f. f; lie = λ d direct later lies. lies }

module _ (o : Opened) (offset : ℕ) (before last : Option Values) (so_far : IsJudged o offset before last) where
  -- a block more
  pub judged-block : (new : Option Values) (next : ℕ) → JudgesBlock o offset last new next → IsJudged o next before new
  judged-block new next (ds, own, block, whole, new_is, some) = record {
    rows = so_far.rows ++ own;
    last_is = new_is ∙ ap (λ (key : Option Values). last_key key own) so_far.last_is ∙ sym (last-joined before so_far.rows own);
    follow = λ later end f. subst (λ (xs : List Stamped). Follow o o.file.first before xs end) (sym (append_assoc so_far.rows own later))
        (so_far.follow (own ++ later) end (follow_block o offset last ds next block own later end whole (subst (λ (key : Option Values). Follow o next key later end) new_is f)));
    lie = λ d direct later lies.
        let here = rows_lie o d direct offset ds block.block.content block.block.each last own whole in
        let more : LieFrom d o.file.bytes o.form o.changes offset (own ++ later) =
        with_block offset next own later block.block.content some (block_content o d direct offset ds next (length own) here.1 block) here.0 lies in
        subst (λ (xs : List Stamped). LieFrom d o.file.bytes o.form o.changes o.file.first xs) (sym (append_assoc so_far.rows own later)) (so_far.lie d direct (own ++ later) more);
  }

  -- the end of the file
  pub judged-end : offset ≡ length o.file.bytes → Judges o before last
  judged-end end = (
    so_far.rows,
    subst (λ (xs : List Stamped). Follow o o.file.first before xs None) (append-nil so_far.rows) (so_far.follow [] None (follow_end o offset last end)),
    so_far.last_is,
    λ d direct. (
      record { kind = refl; differ = direct.written.differ },
      subst (λ (xs : List Stamped). LieFrom d o.file.bytes o.form o.changes o.file.first xs) (append-nil so_far.rows) (so_far.lie d direct [] (at_end offset end)),
    ),
  )

-- ---- a block

module _ (o : Opened) (offset : ℕ) (before : Option Values) where
  -- the offset after a block is greater, and within the file
  pub judge_further : (last : Option Values) (next : ℕ) → JudgesBlock o offset before last next → (offset < next) × (next ≤ length o.file.bytes)
  judge_further last next (ds, own, block, whole, is, some) = (block_moves o.file.kind o.file.marker o.file.bytes offset ds next block, block.within)

-- ---- the rows of a judged file

-- rows that only it has are those that are known
only_known : (o : Opened) (d : Direct) (rows known : List Stamped) → Gives o rows None → ∥ HasOnly o d known ∥₁ → IsSet (List Stamped) → rows ≡ known
only_known o d rows known gives is set = ∥∥₁_elim is (set rows known) (λ h. h.only rows gives)

abbrev OneList : Opened → Type 0
OneList o = (rows others : List Stamped) → Gives o rows None → Gives o others None → rows ≡ others

module _ (o : Opened) (one : OneList o) (before last : Option Values) (judges : Judges o before last) where
  -- they are the only ones
  judged_gives : Gives o judges.0 None
  judged_gives = follow_other o o.file.first before None judges.0 judges.1 (from_none o.changes before judges.0 (follow_in_order o o.file.first before judges.0 None judges.1))

  pub judged_only : (d : Direct) → IsDirect d o.form o.file → HasOnly o d judges.0
  judged_only d direct = record { direct = direct; gives = judged_gives; only = λ others g. one others judges.0 g judged_gives; lie = judges.3 d direct }

  module _ (d : Direct) (rows : List Stamped) (has : ∥ HasOnly o d rows ∥₁) (set : IsSet (List Stamped)) where
    judged_same : judges.0 ≡ rows
    judged_same = only_known o d judges.0 rows judged_gives has set

    -- so they are those that are known
    pub judged_follow : Follow o o.file.first before rows None
    judged_follow = subst (λ (xs : List Stamped). Follow o o.file.first before xs None) judged_same judges.1

    pub judged_last : last ≡ last_key before rows
    judged_last = judges.2 ∙ ap (last_key before) judged_same
