-- Each input is within the limits, or exceeds exactly one of them first.
use Rattle.std.proofs.Common.{◌≡◌, ℕ, ◌<◌, ◌⊎◌, List, [], ◌∷◌, ◌++◌, length, Bool, true, false, refl, sym, ◌∙◌, subst, inl, inr, arith, append_assoc, append-nil}
use Rattle.std.proofs.lemmas.Bool.{cases_lt, cases_eq}
use Rattle.pm_io.specs.Lines.{all_lines}
use Rattle.pm_input.specs.Blank.{is_blank_byte, is_blank, row_count}
use Rattle.pm_input.specs.Limits.{open_line, ExceedsAfter, Exceeds, IsWithin, IsFirstLimit, rank}
use Rattle.pm_input.specs.declared.limits.Limits.{Limits}
use Rattle.pm_input.specs.declared.limits.LimitKind.{LimitKind}
use Rattle.pm_input.specs.declared.limits.LimitKind.TheVariants.{Line, BatchRows, BatchBytes}
use Rattle.pm_input.proofs.LimitLemmas.{IsWithin-nil, IsWithin-push, IsFirstLimit-at, exceeds_in_prefix}

-- a byte exceeds a limit or doesn't
abbrev Decision : Limits → LimitKind → List ℕ → ℕ → Type 0
Decision limits which before b = ExceedsAfter limits which before b ⊎ (ExceedsAfter limits which before b → ⊥)

decide_rows : (limits : Limits) (before : List ℕ) (b : ℕ) (blank inside : Bool) → is_blank_byte b ≡ blank → is_blank (open_line before) ≡ inside → Decision limits BatchRows before b
decide_rows limits before b true inside is at = inr (λ p. let no : true ≡ false = sym is ∙ p.1 in cc)
decide_rows limits before b false false is at = inr (λ p. let no : false ≡ true = sym at ∙ p.2 in cc)
decide_rows limits before b false true is at = elim (cases_eq b 10) [
  | inl newline ↦ inr (λ p. p.0 newline)
  | inr other ↦ elim (cases_lt (row_count (all_lines before)) limits.rows) [ inl few ↦ inr (λ p. let many = p.3 in omega arith) | inr many ↦ inl (other, is, at, many) ]
]

decide : (limits : Limits) (which : LimitKind) (before : List ℕ) (b : ℕ) → Decision limits which before b
decide limits Line before b = elim (cases_eq b 10) [
  | inl newline ↦ inr (λ p. p.0 newline)
  | inr other ↦ elim (cases_lt (length (open_line before)) limits.line) [ inl few ↦ inr (λ p. let many = p.1 in omega arith) | inr many ↦ inl (other, many) ]
]
decide limits BatchRows before b = decide_rows limits before b (is_blank_byte b) (is_blank (open_line before)) refl refl
decide limits BatchBytes before b = elim (cases_lt (length before) limits.bytes) [ inl few ↦ inr (λ p. omega arith) | inr many ↦ inl many ]

-- what a byte exceeds: nothing, or one limit first
abbrev Judged : Limits → List ℕ → ℕ → Type 0
Judged limits before b =
    ((which : LimitKind) → ExceedsAfter limits which before b → ⊥)
    ⊎ ((which : LimitKind) × ExceedsAfter limits which before b × ((other : LimitKind) → rank other < rank which → ExceedsAfter limits other before b → ⊥))

none_of : (limits : Limits) (before : List ℕ) (b : ℕ) → (ExceedsAfter limits Line before b → ⊥) → (ExceedsAfter limits BatchRows before b → ⊥) → (ExceedsAfter limits BatchBytes before b → ⊥) → (which : LimitKind) → ExceedsAfter limits which before b → ⊥
none_of limits before b line rows bytes Line = line
none_of limits before b line rows bytes BatchRows = rows
none_of limits before b line rows bytes BatchBytes = bytes

below_rows : (limits : Limits) (before : List ℕ) (b : ℕ) → (ExceedsAfter limits Line before b → ⊥) → (other : LimitKind) → rank other < 1 → ExceedsAfter limits other before b → ⊥
below_rows limits before b line Line less p = line p
below_rows limits before b line BatchRows less p = omega arith
below_rows limits before b line BatchBytes less p = omega arith

below_bytes : (limits : Limits) (before : List ℕ) (b : ℕ) → (ExceedsAfter limits Line before b → ⊥) → (ExceedsAfter limits BatchRows before b → ⊥) → (other : LimitKind) → rank other < 2 → ExceedsAfter limits other before b → ⊥
below_bytes limits before b line rows Line less p = line p
below_bytes limits before b line rows BatchRows less p = rows p
below_bytes limits before b line rows BatchBytes less p = omega arith

judge : (limits : Limits) (before : List ℕ) (b : ℕ) → Judged limits before b
judge limits before b = elim (decide limits Line before b) [
  | inl line ↦ inr (Line, line, λ other less p. omega arith)
  | inr line ↦ elim (decide limits BatchRows before b) [
    | inl rows ↦ inr (BatchRows, rows, below_rows limits before b line)
    | inr rows ↦ elim (decide limits BatchBytes before b) [
      | inl bytes ↦ inr (BatchBytes, bytes, below_bytes limits before b line rows)
      | inr bytes ↦ inl (none_of limits before b line rows bytes)
    ]
  ]
]

abbrev Verdict : Limits → List ℕ → Type 0
Verdict limits bytes = IsWithin limits bytes ⊎ ((which : LimitKind) × IsFirstLimit limits which bytes)

verdict_from : (limits : Limits) (prefix bytes : List ℕ) → IsWithin limits prefix → Verdict limits (prefix ++ bytes)
verdict_from limits prefix [] within = inl (subst (λ (l : List ℕ). IsWithin limits l) (sym (append-nil prefix)) within)
verdict_from limits prefix (b ∷ bytes) within = elim (judge limits prefix b) [
  | inl none ↦ subst (λ (l : List ℕ). Verdict limits l) (append_assoc prefix (b ∷ []) bytes) (verdict_from limits (prefix ++ b ∷ []) bytes (IsWithin-push limits prefix b within none))
  | inr some ↦ inr (some.0, IsFirstLimit-at limits some.0 prefix b bytes within some.1 some.2)
]

pub one_verdict : (limits : Limits) (bytes : List ℕ) → Verdict limits bytes
one_verdict limits bytes = verdict_from limits [] bytes (IsWithin-nil limits)

-- ---- only one

same_rank : (which other : LimitKind) → rank which ≡ rank other → which ≡ other
same_rank Line Line e = refl
same_rank Line BatchRows e = absurd (omega arith)
same_rank Line BatchBytes e = absurd (omega arith)
same_rank BatchRows Line e = absurd (omega arith)
same_rank BatchRows BatchRows e = refl
same_rank BatchRows BatchBytes e = absurd (omega arith)
same_rank BatchBytes Line e = absurd (omega arith)
same_rank BatchBytes BatchRows e = absurd (omega arith)
same_rank BatchBytes BatchBytes e = refl

not_before : (limits : Limits) (bytes : List ℕ) (which other : LimitKind) (p : IsFirstLimit limits which bytes) (q : IsFirstLimit limits other bytes) → p.0 < q.0 → ⊥
not_before limits bytes which other p q less =
    exceeds_in_prefix limits bytes q.0 q.3 p.0 which less (omega (arith, q.1)) p.2

at_one_offset : (limits : Limits) (bytes : List ℕ) (which other : LimitKind) (p : IsFirstLimit limits which bytes) (q : IsFirstLimit limits other bytes) → p.0 ≡ q.0 → which ≡ other
at_one_offset limits bytes which other p q same = elim (cases_lt (rank which) (rank other)) [
  | inl less ↦ absurd (q.4 which less (subst (λ (n : ℕ). Exceeds limits which bytes n) same p.2))
  | inr past ↦ elim (cases_lt (rank other) (rank which)) [
    | inl less ↦ absurd (p.4 other less (subst (λ (n : ℕ). Exceeds limits other bytes n) (sym same) q.2))
    | inr also ↦ same_rank which other (omega arith)
  ]
]

pub one_limit : (limits : Limits) (bytes : List ℕ) (which other : LimitKind) → IsFirstLimit limits which bytes → IsFirstLimit limits other bytes → which ≡ other
one_limit limits bytes which other p q = elim (cases_lt p.0 q.0) [
  | inl less ↦ absurd (not_before limits bytes which other p q less)
  | inr past ↦ elim (cases_lt q.0 p.0) [
    | inl less ↦ absurd (not_before limits bytes other which q p less)
    | inr also ↦ at_one_offset limits bytes which other p q (omega arith)
  ]
]
