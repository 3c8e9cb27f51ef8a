-- The text that is printed of a table, piece by piece.
use Rattle.std.proofs.Common.{◌≡◌, ℕ, zero, suc, ◌+◌, ◌-◌, ◌≤◌, Bool, true, false, List, [], ◌++◌, Option, None, Some, refl, sym, ap, ◌∙◌, append-nil, append_assoc, arith}
use Rattle.std.specs.List.{flat_map}
use Rattle.pm_base.specs.Known.{and_then}
use Rattle.pm_base.specs.Newline.{line}
use Rattle.pm_io.specs.Sink.{TookPrefix}
use Rattle.pm_schema.specs.declared.schema.TableSchema.{TableSchema}
use Rattle.pm_values.specs.Order.{Values, key_cmp}
use Rattle.std.specs.FinMap.{FinMap, values}
use Rattle.pm_values.specs.declared.kind.Kind.TheVariants.{Insert}
use Rattle.pm_rows.specs.RowText.{row_text}
use Rattle.pm_model_history.specs.History.{Entry, rows_up_to}
use Rattle.pm_model_history.specs.Merged.{scan_text}
use Rattle.pm_model_following.specs.Following.{IsFinished, frame, table_text}
use Rattle.pm_command_follow.specs.Printed.{frames_text, table_head, text_so_far}

-- ---- frames

-- so many frames, and more behind them
pub frames_split : (s : TableSchema) (es : List Entry) (start one more : ℕ)
    → frames_text s es start (one + more) ≡ frames_text s es start one ++ frames_text s es (start + one) more
frames_split s es start zero more =
    let none : 0 + more ≡ more = omega arith in
    let same : start ≡ start + 0 = omega arith in
    ap (frames_text s es start) none ∙ ap (λ (start : ℕ). frames_text s es start more) same
frames_split s es start (suc one) more =
    let first : suc one + more ≡ suc (one + more) = omega arith in
    let same : (start + 1) + one ≡ start + suc one = omega arith in
    ap (frames_text s es start) first
    ∙ ap (λ (text : List ℕ). frame s es start ++ text)
    (frames_split s es (start + 1) one more ∙ ap (λ (at : ℕ). frames_text s es (start + 1) one ++ frames_text s es at more) same)
    ∙ sym (append_assoc (frame s es start) (frames_text s es (start + 1) one) (frames_text s es (start + suc one) more))

-- one frame more
pub frames_push : (s : TableSchema) (es : List Entry) (start count : ℕ)
    → frames_text s es start (suc count) ≡ frames_text s es start count ++ frame s es (start + count)
frames_push s es start count =
    let more : suc count ≡ count + 1 = omega arith in
    ap (frames_text s es start) more ∙ frames_split s es start count 1
    ∙ ap (λ (text : List ℕ). frames_text s es start count ++ text) (append-nil (frame s es (start + count)))

-- ---- with the starting table

-- the starting table, and frames behind it
pub with_frames : (s : TableSchema) (es : List Entry) (full : Bool) (start count : ℕ)
    → text_so_far s es full start 0 ++ frames_text s es start count ≡ text_so_far s es full start count
with_frames s es false start count = refl
with_frames s es true start count =
    ap (λ (text : List ℕ). text ++ frames_text s es start count) (append-nil (table_text s es (start - 1)))

-- what was printed of some frames, and what is printed behind it
pub text_split : (s : TableSchema) (es : List Entry) (full : Bool) (start one more : ℕ)
    → text_so_far s es full start (one + more) ≡ text_so_far s es full start one ++ frames_text s es (start + one) more
text_split s es full start one more =
    sym (with_frames s es full start (one + more))
    ∙ ap (λ (text : List ℕ). text_so_far s es full start 0 ++ text) (frames_split s es start one more)
    ∙ sym (append_assoc (text_so_far s es full start 0) (frames_text s es start one) (frames_text s es (start + one) more))
    ∙ ap (λ (text : List ℕ). text ++ frames_text s es (start + one) more) (with_frames s es full start one)

-- one frame more behind what was printed
pub text_push : (s : TableSchema) (es : List Entry) (full : Bool) (start count : ℕ)
    → text_so_far s es full start (suc count) ≡ text_so_far s es full start count ++ frame s es (start + count)
text_push s es full start count =
    let more : suc count ≡ count + 1 = omega arith in
    ap (text_so_far s es full start) more ∙ text_split s es full start count 1
    ∙ ap (λ (text : List ℕ). text_so_far s es full start count ++ text) (append-nil (frame s es (start + count)))

pub frame_behind : (s : TableSchema) (es : List Entry) (full : Bool) (start count : ℕ) (text last : List ℕ) → text ≡ text_so_far s es full start count
    → last ≡ frame s es (start + count) → text ++ last ≡ text_so_far s es full start (suc count)
frame_behind s es full start count text last is last_is =
    ap (λ (text : List ℕ). text ++ last) is ∙ ap (λ (last : List ℕ). text_so_far s es full start count ++ last) last_is
    ∙ sym (text_push s es full start count)

-- what was printed is a prefix of all
pub follow_split : (s : TableSchema) (es : List Entry) (full : Bool) (start count total : ℕ) → count ≤ total
    → (rest : List ℕ) × (text_so_far s es full start total ≡ text_so_far s es full start count ++ rest)
follow_split s es full start count total within =
    let more : count + (total - count) ≡ total = omega (arith, within) in (
      frames_text s es (start + count) (total - count),
      sym (ap (text_so_far s es full start) more) ∙ text_split s es full start count (total - count),
    )

-- ---- what a sink took

pub took_longer : (before after : Option (List ℕ)) (text whole rest : List ℕ) → whole ≡ text ++ rest → TookPrefix before after text
    → TookPrefix before after whole
took_longer before after text whole rest is (prefix, left, parts, taken) =
    (prefix, left ++ rest, is ∙ ap (λ (text : List ℕ). text ++ rest) parts ∙ append_assoc prefix left rest, taken)

pub and_then_twice : (known : Option (List ℕ)) (text more : List ℕ) → and_then (and_then known text) more ≡ and_then known (text ++ more)
and_then_twice None text more = refl
and_then_twice (Some known) text more = ap Some (append_assoc known text more)

pub and_then_nothing : (known : Option (List ℕ)) → and_then known [] ≡ known
and_then_nothing None = refl
and_then_nothing (Some known) = ap Some (append-nil known)

-- a prefix of a text that comes behind another one
pub took_behind : (before after : Option (List ℕ)) (text last : List ℕ) → TookPrefix (and_then before text) after last
    → TookPrefix before after (text ++ last)
took_behind before after text last (prefix, left, parts, taken) =
    (text ++ prefix, left, ap (λ (last : List ℕ). text ++ last) parts ∙ sym (append_assoc text prefix left), taken ∙ and_then_twice before text prefix)

-- ---- the starting table

-- where all rows are passed on, it is the scan behind its head
pub table_is : (s : TableSchema) (es : List Entry) (n : ℕ) → IsFinished s es n → table_text s es n ≡ table_head n ++ scan_text s (rows_up_to es n)
table_is s es n finished =
    ap (λ (table : FinMap key_cmp Values). table_head n ++ flat_map (λ (row : Values). line (row_text Insert row)) (values table)) finished
