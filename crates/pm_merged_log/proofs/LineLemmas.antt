-- The lines of rows that are given one after another.
use Rattle.std.proofs.Common.{◌≡◌, ℕ, ◌+◌, ◌<◌, List, [], ◌∷◌, ◌++◌, get_or, take, length, true, false, refl, sym, ap, ◌∙◌, append_assoc, append-nil, arith}
use Rattle.std.proofs.lemmas.List.{take_more}
use Rattle.pm_base.specs.Newline.{line}
use Rattle.pm_values.specs.declared.kind.Kind.TheVariants.{Insert}
use Rattle.pm_values.specs.declared.record.Stamped.{Stamped}
use Rattle.pm_rows.specs.RowText.{row_text}
use Rattle.pm_merged_log.specs.Merged.{GivesLine, lines_of}

-- a line more
pub line_given : (rows left : List Stamped) (old new whole : List ℕ) → GivesLine true rows left old new → old ++ lines_of rows ≡ whole → new ++ lines_of left ≡ whole
line_given rows left old new whole (x, split, is) so =
    ap (λ (text : List ℕ). text ++ lines_of left) is ∙ append_assoc old (line (row_text x.kind x.row)) (lines_of left)
    ∙ ap (λ (rows : List Stamped). old ++ lines_of rows) (sym split) ∙ so

pub line_fewer : (rows left : List Stamped) (old new : List ℕ) → GivesLine true rows left old new → length left < length rows
line_fewer rows left old new (x, split, is) = let size = ap length split in omega (arith, size)

-- none is left
pub lines_end : (rows left : List Stamped) (old new whole : List ℕ) → GivesLine false rows left old new → old ++ lines_of rows ≡ whole → new ≡ whole
lines_end rows left old new whole (none, is) so = is ∙ sym (append-nil old) ∙ ap (λ (rows : List Stamped). old ++ lines_of rows) (sym none) ∙ so

-- ---- one row after another

-- some row, where a list has one at an index anyway
pub blank : Stamped
blank = record { key = []; seq = 0; kind = Insert; row = [] }

lines_joined : (rows more : List Stamped) → lines_of (rows ++ more) ≡ lines_of rows ++ lines_of more
lines_joined [] more = refl
lines_joined (x ∷ rows) more =
    ap (λ (text : List ℕ). line (row_text x.kind x.row) ++ text) (lines_joined rows more) ∙ sym (append_assoc (line (row_text x.kind x.row)) (lines_of rows) (lines_of more))

-- the line of the row at an index
pub line_next : (rows : List Stamped) (index : ℕ) (none : Stamped) (old : List ℕ) → index < length rows
    → (old ++ lines_of (take index rows)) ++ lines_of (get_or rows index none ∷ []) ≡ old ++ lines_of (take (index + 1) rows)
line_next rows index none old within =
    append_assoc old (lines_of (take index rows)) (lines_of (get_or rows index none ∷ []))
    ∙ ap (λ (text : List ℕ). old ++ text) (sym (lines_joined (take index rows) (get_or rows index none ∷ [])) ∙ ap lines_of (sym (take_more rows index none within)))
