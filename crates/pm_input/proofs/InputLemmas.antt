-- What the lines so far and what is still to come say of the whole input.
use Rattle.std.proofs.Common.{◌≡◌, ◌≢◌, ℕ, suc, ◌+◌, ◌<◌, ◌≤◌, ◌&&◌, List, [], ◌∷◌, ◌++◌, length, filter, not, Bool, true, false, if◌then◌else◌, Option, Some, None, IfSome, refl, sym, ap, ◌∙◌, subst, inl, inr, arith, append_assoc, append-nil, length-append, add-zero}
use Rattle.std.specs.List.{AllByRecursion, enumerate_from}
use Rattle.std.proofs.lemmas.List.Elements.{filter-append}
use Rattle.std.proofs.lemmas.Bool.{cases_lt}
use Rattle.pm_base.specs.Known.{with_prefix}
use Rattle.pm_io.specs.Lines.{first_line, later_lines, all_lines, Held, IsLineOf, IsOverLimit}
use Rattle.pm_base.specs.Newline.{IsUnbroken}
use Rattle.pm_io.proofs.Lemmas.{first_line-parts, later_lines-append, all_lines-last}
use Rattle.pm_io.specs.declared.lines.LineFault.{LineFault}
use Rattle.pm_io.specs.declared.lines.LineFault.TheVariants as line_faults
use Rattle.pm_input.specs.Blank.{is_blank_byte, is_blank}
use Rattle.pm_input.specs.Judge.{joined, IsRoomAfter, exceeded, exceeded_from}
use Rattle.pm_input.specs.Limits.{IsWithin, IsFirstLimit}
use Rattle.pm_input.specs.Lines.{IsRead, IsRefused, fault_of, numbered_rows}
use Rattle.pm_input.specs.declared.judge.Room.{Room}
use Rattle.pm_input.specs.declared.limits.Limits.{Limits}
use Rattle.pm_input.specs.declared.limits.LimitKind.{LimitKind}
use Rattle.pm_input.proofs.LimitLemmas.{IsWithin-nil}
use Rattle.pm_input.proofs.JudgeLemmas.{first_in_line, bytes_within, joined-push, all_lines-joined, room_at, or_none}

-- ---- a line that wasn't read

-- a line that exceeds no limit is within the limit of lines
short_from : (limits : Limits) (room : Room) (offset : ℕ) (blank : Bool) (bytes : List ℕ) → exceeded_from limits room offset blank bytes ≡ None → offset ≤ limits.line → offset + length bytes ≤ limits.line
short_from limits room offset blank [] none fits = omega arith
short_from limits room offset blank (b ∷ bytes) none fits =
    let both = or_none (exceeded limits room offset blank b) (exceeded_from limits room (suc offset) (blank && is_blank_byte b) bytes) none in
    let enough = room_at limits room offset blank b both.0 in
    let more = short_from limits room (suc offset) (blank && is_blank_byte b) bytes both.1 (omega arith) in
    omega arith

over : (max : ℕ) (before begun : List ℕ) → IsOverLimit max before begun → max < length begun
over max before begun h = elim (cases_lt max (length before)) [
  | inl many ↦ let same = ap length (h.again many) in omega arith
  | inr few ↦ let next = h.up_to few in omega arith
]

refused_at : (limits : Limits) (room : Room) (lines : List (List ℕ)) (begun ahead rest : List ℕ) (fault : LineFault) (limit : Option LimitKind) → IsRoomAfter limits room lines → IsWithin limits (joined lines) → IsUnbroken begun
    → exceeded_from limits room 0 true begun ≡ limit → (fault ≡ line_faults.Read → ahead ≡ []) → (fault ≡ line_faults.Long → limits.line < length begun)
    → IsRefused limits (fault_of fault limit) (joined lines ++ ((begun ++ ahead) ++ rest)) (Some rest)
refused_at limits room lines begun ahead rest line_faults.Memory limit is_room within whole is read long = tt
refused_at limits room lines begun ahead rest line_faults.Read None is_room within whole is read long =
    let all = ap (λ (l : List ℕ). joined lines ++ ((begun ++ l) ++ rest)) (read refl) ∙ ap (λ (l : List ℕ). joined lines ++ (l ++ rest)) (append-nil begun) ∙ sym (append_assoc (joined lines) begun rest) in
    (joined lines ++ begun, rest, all, refl, bytes_within limits room lines begun is_room within whole is)
refused_at limits room lines begun ahead rest line_faults.Read (Some which) is_room within whole is read long =
    subst (λ (l : List ℕ). IsFirstLimit limits which (joined lines ++ l)) (sym (append_assoc begun ahead rest)) (first_in_line limits room lines begun (ahead ++ rest) which is_room within whole is)
refused_at limits room lines begun ahead rest line_faults.Long None is_room within whole is read long =
    let short = short_from limits room 0 true begun is (omega arith) in
    let more = long refl in
    absurd (omega arith)
refused_at limits room lines begun ahead rest line_faults.Long (Some which) is_room within whole is read long =
    subst (λ (l : List ℕ). IsFirstLimit limits which (joined lines ++ l)) (sym (append_assoc begun ahead rest)) (first_in_line limits room lines begun (ahead ++ rest) which is_room within whole is)

refused_known : (limits : Limits) (room : Room) (lines : List (List ℕ)) (held : Held) (known : Option (List ℕ)) (fault : LineFault) (limit : Option LimitKind) → IsRoomAfter limits room lines → IsWithin limits (joined lines) → IsUnbroken held.begun
    → exceeded_from limits room 0 true held.begun ≡ limit → (fault ≡ line_faults.Read → held.ahead ≡ []) → (fault ≡ line_faults.Long → limits.line < length held.begun)
    → IfSome (with_prefix (held.begun ++ held.ahead) known) (λ bytes. IsRefused limits (fault_of fault limit) (joined lines ++ bytes) known)
refused_known limits room lines held None fault limit is_room within whole is read long = tt
refused_known limits room lines held (Some rest) fault limit is_room within whole is read long =
    refused_at limits room lines held.begun held.ahead rest fault limit is_room within whole is read long

pub line_refused : (limits : Limits) (room : Room) (before held : Held) (start known : Option (List ℕ)) (fault : LineFault) (limit : Option LimitKind) → with_prefix (held.begun ++ held.ahead) known ≡ with_prefix (before.begun ++ before.ahead) start → IsUnbroken held.begun
    → exceeded_from limits room 0 true held.begun ≡ limit → (fault ≡ line_faults.Read → held.ahead ≡ []) → (fault ≡ line_faults.Long → IsOverLimit limits.line before.begun held.begun)
    → (lines : List (List ℕ)) → IsRoomAfter limits room lines → IsWithin limits (joined lines) → IfSome (with_prefix (before.begun ++ before.ahead) start) (λ bytes. IsRefused limits (fault_of fault limit) (joined lines ++ bytes) known)
line_refused limits room before held start known fault limit kept whole is read long lines is_room within =
    subst (λ (o : Option (List ℕ)). IfSome o (λ bytes. IsRefused limits (fault_of fault limit) (joined lines ++ bytes) known)) kept
    (refused_known limits room lines held known fault limit is_room within whole is read (λ e. over limits.line before.begun held.begun (long e)))

-- ---- the whole input

-- all lines were read, blank ones too
abbrev pub ReadsAll : Limits → List (List ℕ) → List ℕ → Option (List ℕ) → Type 0
ReadsAll limits lines bytes known = IsWithin limits bytes × (lines ≡ all_lines bytes) × (known ≡ Some [])

-- the lines so far and what is to come are the whole input, where that is known
abbrev pub IsWhole : Option (List ℕ) → List (List ℕ) → Option (List ℕ) → Type 0
IsWhole start lines coming = IfSome start (λ all. with_prefix (joined lines) coming ≡ Some all)

pub IsWhole-start : (start : Option (List ℕ)) → IsWhole start [] (with_prefix [] start)
IsWhole-start None = tt
IsWhole-start (Some all) = refl

-- a fact of the lines and what is to come is one of the whole input
pub of_whole : (P : List ℕ → Type 0) (start : Option (List ℕ)) (lines : List (List ℕ)) (coming : Option (List ℕ)) → IsWhole start lines coming → IfSome coming (λ bytes. P (joined lines ++ bytes)) → IfSome start P
of_whole P None lines coming whole_is h = tt
of_whole P (Some all) lines None whole_is h = cc
of_whole P (Some all) lines (Some bytes) whole_is h = let same : joined lines ++ bytes ≡ all = cc in subst P same h

nothing_before : (xs ys : List ℕ) → xs ++ ys ≡ [] → ys ≡ []
nothing_before [] ys e = e
nothing_before (x ∷ xs) ys e = cc

nothing_left : (prefix : List ℕ) (known : Option (List ℕ)) → with_prefix prefix known ≡ Some [] → known ≡ Some []
nothing_left prefix None e = cc
nothing_left prefix (Some known) e = let none : prefix ++ known ≡ [] = cc in ap Some (nothing_before prefix known none)

at_end : (limits : Limits) (lines : List (List ℕ)) (held : Held) (known : Option (List ℕ)) (bytes : List ℕ) → IsWithin limits (joined lines) → AllByRecursion IsUnbroken lines → bytes ≡ [] → with_prefix (held.begun ++ held.ahead) known ≡ Some bytes → ReadsAll limits lines (joined lines ++ bytes) known
at_end limits lines held known bytes within whole none now =
    let all = ap (λ (l : List ℕ). joined lines ++ l) none ∙ append-nil (joined lines) in
    let seen = ap (λ (l : List ℕ). all_lines (joined lines ++ l)) none ∙ all_lines-joined lines [] whole ∙ append-nil lines in
    (subst (λ (l : List ℕ). IsWithin limits l) (sym all) within, sym seen, nothing_left (held.begun ++ held.ahead) known (now ∙ ap Some none))

pub read_at_end : (limits : Limits) (start : Option (List ℕ)) (lines : List (List ℕ)) (coming : Option (List ℕ)) (held : Held) (known : Option (List ℕ)) → IsWithin limits (joined lines) → AllByRecursion IsUnbroken lines
    → IsWhole start lines coming → IfSome coming (λ bytes. bytes ≡ []) → with_prefix (held.begun ++ held.ahead) known ≡ coming → IfSome start (λ bytes. ReadsAll limits lines bytes known)
read_at_end limits start lines None held known within whole whole_is none now = of_whole (λ bytes. ReadsAll limits lines bytes known) start lines None whole_is tt
read_at_end limits start lines (Some bytes) held known within whole whole_is none now =
    of_whole (λ bytes. ReadsAll limits lines bytes known) start lines (Some bytes) whole_is (at_end limits lines held known bytes within whole none now)

-- the bytes that begin with a line, after the lines before
line_bytes : (lines : List (List ℕ)) (line : List ℕ) (ended : Bool) (later : Option (List ℕ)) (bytes : List ℕ) → IsLineOf line ended later bytes → (joined lines ++ line) ++ (if ended then 10 ∷ later_lines bytes else []) ≡ joined lines ++ bytes
line_bytes lines line ended later bytes is =
    append_assoc (joined lines) line (if ended then 10 ∷ later_lines bytes else [])
    ∙ ap (λ (l : List ℕ). joined lines ++ (l ++ (if ended then 10 ∷ later_lines bytes else []))) is.first
    ∙ ap (λ (t : Bool). joined lines ++ (first_line bytes ++ (if t then 10 ∷ later_lines bytes else []))) is.newline
    ∙ ap (λ (l : List ℕ). joined lines ++ l) (sym (first_line-parts bytes))

limit_of : (limits : Limits) (lines : List (List ℕ)) (line : List ℕ) (ended : Bool) (which : LimitKind) (coming later : Option (List ℕ)) → ((rest : List ℕ) → IsFirstLimit limits which ((joined lines ++ line) ++ (if ended then 10 ∷ rest else [])))
    → IfSome coming (IsLineOf line ended later) → IfSome coming (λ bytes. IsFirstLimit limits which (joined lines ++ bytes))
limit_of limits lines line ended which None later first is = tt
limit_of limits lines line ended which (Some bytes) later first is =
    subst (λ (l : List ℕ). IsFirstLimit limits which l) (line_bytes lines line ended later bytes is) (first (later_lines bytes))

pub limit_in_line : (limits : Limits) (start : Option (List ℕ)) (lines : List (List ℕ)) (coming later : Option (List ℕ)) (line : List ℕ) (ended : Bool) (which : LimitKind) → IsWhole start lines coming → IfSome coming (IsLineOf line ended later)
    → ((rest : List ℕ) → IsFirstLimit limits which ((joined lines ++ line) ++ (if ended then 10 ∷ rest else []))) → IfSome start (IsFirstLimit limits which)
limit_in_line limits start lines coming later line ended which whole_is is first =
    of_whole (IsFirstLimit limits which) start lines coming whole_is (limit_of limits lines line ended which coming later first is)

next_at : (lines : List (List ℕ)) (line : List ℕ) (ended : Bool) (later : Option (List ℕ)) (bytes all : List ℕ) → ended ≡ true → IsLineOf line ended later bytes → joined lines ++ bytes ≡ all → with_prefix (joined (lines ++ line ∷ [])) later ≡ Some all
next_at lines line ended later bytes all yes_ended is same =
    let text = ap (λ (l : List ℕ). l ++ later_lines bytes) (joined-push lines line) ∙ append_assoc (joined lines ++ line) (10 ∷ []) (later_lines bytes) in
    let there = ap (λ (t : Bool). (joined lines ++ line) ++ (if t then 10 ∷ later_lines bytes else [])) (sym yes_ended) ∙ line_bytes lines line ended later bytes is in
    ap (with_prefix (joined (lines ++ line ∷ []))) is.rest ∙ ap Some (text ∙ there ∙ same)

pub IsWhole-next : (start : Option (List ℕ)) (lines : List (List ℕ)) (coming later : Option (List ℕ)) (line : List ℕ) (ended : Bool) → ended ≡ true → IsWhole start lines coming → IfSome coming (IsLineOf line ended later) → IsWhole start (lines ++ line ∷ []) later
IsWhole-next None lines coming later line ended yes_ended whole_is is = tt
IsWhole-next (Some all) lines None later line ended yes_ended whole_is is = cc
IsWhole-next (Some all) lines (Some bytes) later line ended yes_ended whole_is is = let same : joined lines ++ bytes ≡ all = cc in next_at lines line ended later bytes all yes_ended is same

last_at : (limits : Limits) (lines : List (List ℕ)) (line : List ℕ) (ended : Bool) (held : Held) (known : Option (List ℕ)) (bytes : List ℕ) → ended ≡ false → AllByRecursion IsUnbroken lines → IsUnbroken line → IsWithin limits ((joined lines ++ line) ++ (if ended then 10 ∷ [] else []))
    → IsLineOf line ended (with_prefix (held.begun ++ held.ahead) known) bytes → ReadsAll limits (lines ++ line ∷ []) (joined lines ++ bytes) known
last_at limits lines line ended held known bytes not_ended whole this within is =
    let same : (joined lines ++ line) ++ [] ≡ joined lines ++ bytes = ap (λ (t : Bool). (joined lines ++ line) ++ (if t then 10 ∷ later_lines bytes else [])) (sym not_ended) ∙ line_bytes lines line ended (with_prefix (held.begun ++ held.ahead) known) bytes is in
    let kept = subst (λ (l : List ℕ). IsWithin limits l) (ap (λ (t : Bool). (joined lines ++ line) ++ (if t then 10 ∷ [] else [])) not_ended ∙ same) within in
    let whole_bytes : line ≡ bytes = is.first ∙ sym (append-nil (first_line bytes)) ∙ ap (λ (t : Bool). first_line bytes ++ (if t then 10 ∷ later_lines bytes else [])) (sym not_ended ∙ is.newline) ∙ sym (first_line-parts bytes) in
    let some : line ≢ [] = λ e. is.nonempty (sym whole_bytes ∙ e) in
    let seen = ap all_lines (sym same ∙ append-nil (joined lines ++ line)) ∙ all_lines-joined lines line whole ∙ ap (λ (l : List (List ℕ)). lines ++ l) (all_lines-last line this some) in
    let none : later_lines bytes ≡ [] = ap later_lines (sym whole_bytes ∙ sym (append-nil line)) ∙ later_lines-append line [] this in
    (kept, sym seen, nothing_left (held.begun ++ held.ahead) known (is.rest ∙ ap Some none))

last_known : (limits : Limits) (lines : List (List ℕ)) (line : List ℕ) (ended : Bool) (held : Held) (coming known : Option (List ℕ)) → ended ≡ false → AllByRecursion IsUnbroken lines → IsUnbroken line → IsWithin limits ((joined lines ++ line) ++ (if ended then 10 ∷ [] else []))
    → IfSome coming (IsLineOf line ended (with_prefix (held.begun ++ held.ahead) known)) → IfSome coming (λ bytes. ReadsAll limits (lines ++ line ∷ []) (joined lines ++ bytes) known)
last_known limits lines line ended held None known not_ended whole this within is = tt
last_known limits lines line ended held (Some bytes) known not_ended whole this within is = last_at limits lines line ended held known bytes not_ended whole this within is

pub read_last : (limits : Limits) (start : Option (List ℕ)) (lines : List (List ℕ)) (coming : Option (List ℕ)) (line : List ℕ) (ended : Bool) (held : Held) (known : Option (List ℕ)) → ended ≡ false → AllByRecursion IsUnbroken lines → IsUnbroken line
    → IsWithin limits ((joined lines ++ line) ++ (if ended then 10 ∷ [] else [])) → IsWhole start lines coming → IfSome coming (IsLineOf line ended (with_prefix (held.begun ++ held.ahead) known)) → IfSome start (λ bytes. ReadsAll limits (lines ++ line ∷ []) bytes known)
read_last limits start lines coming line ended held known not_ended whole this within whole_is is =
    of_whole (λ bytes. ReadsAll limits (lines ++ line ∷ []) bytes known) start lines coming whole_is (last_known limits lines line ended held coming known not_ended whole this within is)

pub within_next : (limits : Limits) (lines : List (List ℕ)) (line : List ℕ) (ended : Bool) → ended ≡ true → IsWithin limits ((joined lines ++ line) ++ (if ended then 10 ∷ [] else [])) → IsWithin limits (joined (lines ++ line ∷ []))
within_next limits lines line ended is within =
    subst (λ (l : List ℕ). IsWithin limits l) (ap (λ (t : Bool). (joined lines ++ line) ++ (if t then 10 ∷ [] else [])) is ∙ sym (joined-push lines line)) within

-- ---- the lines that are kept

enumerate_from-push : (n : ℕ) (lines : List (List ℕ)) (line : List ℕ) → enumerate_from n (lines ++ line ∷ []) ≡ enumerate_from n lines ++ (n + length lines, line) ∷ []
enumerate_from-push n [] line = ap (λ (k : ℕ). (k, line) ∷ []) (omega arith)
enumerate_from-push n (first ∷ lines) line =
    let same : n + 1 + length lines ≡ n + suc (length lines) = omega arith in
    ap (λ (l : List (ℕ × List ℕ)). (n, first) ∷ l) (enumerate_from-push (n + 1) lines line ∙ ap (λ (k : ℕ). enumerate_from (n + 1) lines ++ (k, line) ∷ []) same)

numbered_rows-push : (lines : List (List ℕ)) (line : List ℕ) → numbered_rows (lines ++ line ∷ []) ≡ numbered_rows lines ++ (if not (is_blank line) then (1 + length lines, line) ∷ [] else [])
numbered_rows-push lines line =
    ap (filter (λ (l : ℕ × List ℕ). not (is_blank l.1))) (enumerate_from-push 1 lines line)
    ∙ filter-append (λ (l : ℕ × List ℕ). not (is_blank l.1)) (enumerate_from 1 lines) ((1 + length lines, line) ∷ [])

kept_push : (kept more : List (ℕ × List ℕ)) (number : ℕ) (lines : List (List ℕ)) (line : List ℕ) (is_row : Bool) → kept ≡ numbered_rows lines → number ≡ 1 + length lines → is_row ≡ not (is_blank line)
    → more ≡ kept ++ (if is_row then (number, line) ∷ [] else []) → more ≡ numbered_rows (lines ++ line ∷ [])
kept_push kept more number lines line is_row is numbered row pushed =
    pushed ∙ ap (λ (l : List (ℕ × List ℕ)). l ++ (if is_row then (number, line) ∷ [] else [])) is
    ∙ ap (λ (t : Bool). numbered_rows lines ++ (if t then (number, line) ∷ [] else [])) row
    ∙ ap (λ (n : ℕ). numbered_rows lines ++ (if not (is_blank line) then (n, line) ∷ [] else [])) numbered
    ∙ sym (numbered_rows-push lines line)

-- the lines so far, of which those that aren't blank are kept, and what is still to come
pub record IsReadSoFar (limits : Limits) (room : Room) (start : Option (List ℕ)) (kept : List (ℕ × List ℕ)) (number : ℕ) (coming : Option (List ℕ)) : Type 0 where
  pub lines : List (List ℕ)
  pub whole_is : IsWhole start lines coming
  pub is_room : IsRoomAfter limits room lines
  pub within : IsWithin limits (joined lines)
  pub kept_is : kept ≡ numbered_rows lines
  pub number_is : number ≡ 1 + length lines

pub read_start : (limits : Limits) (room : Room) (start : Option (List ℕ)) (held : Held) (known : Option (List ℕ)) → room.rows ≡ limits.rows → room.bytes ≡ limits.bytes → held.begun ≡ [] → held.ahead ≡ [] → known ≡ start → IsReadSoFar limits room start [] 1 (with_prefix (held.begun ++ held.ahead) known)
read_start limits room start held known rows bytes begun ahead same =
    rw (begun, ahead, same)
    record {
      lines = [];
      whole_is = IsWhole-start start;
      is_room = record { rows = add-zero room.rows ∙ rows; bytes = add-zero room.bytes ∙ bytes; unbroken = tt };
      within = IsWithin-nil limits;
      kept_is = refl;
      number_is = refl;
    }

pub read_next : (limits : Limits) (room after : Room) (start : Option (List ℕ)) (kept more : List (ℕ × List ℕ)) (number next : ℕ) (coming later : Option (List ℕ)) (line : List ℕ) (ended is_row : Bool) (so : IsReadSoFar limits room start kept number coming)
    → ended ≡ true → IfSome coming (IsLineOf line ended later) → IsWithin limits ((joined so.lines ++ line) ++ (if ended then 10 ∷ [] else [])) → IsRoomAfter limits after (so.lines ++ line ∷ [])
    → is_row ≡ not (is_blank line) → more ≡ kept ++ (if is_row then (number, line) ∷ [] else []) → next ≡ number + 1 → IsReadSoFar limits after start more next later
read_next limits room after start kept more number next coming later line ended is_row so yes_ended is within is_room row pushed one =
    let len : length (so.lines ++ line ∷ []) ≡ length so.lines + 1 = length-append so.lines (line ∷ []) in
    let numbered = so.number_is in
    record {
      lines = so.lines ++ line ∷ [];
      whole_is = IsWhole-next start so.lines coming later line ended yes_ended so.whole_is is;
      is_room = is_room;
      within = within_next limits so.lines line ended yes_ended within;
      kept_is = kept_push kept more number so.lines line is_row so.kept_is so.number_is row pushed;
      number_is = omega arith;
    }

rows_of_all : (limits : Limits) (start : Option (List ℕ)) (kept : List (ℕ × List ℕ)) (lines : List (List ℕ)) (known : Option (List ℕ)) → kept ≡ numbered_rows lines → IfSome start (λ bytes. ReadsAll limits lines bytes known) → IfSome start (λ bytes. IsRead limits kept bytes known)
rows_of_all limits None kept lines known is all = tt
rows_of_all limits (Some bytes) kept lines known is all = (all.0, is ∙ ap numbered_rows all.1, all.2)

pub read_end : (limits : Limits) (room : Room) (start : Option (List ℕ)) (kept : List (ℕ × List ℕ)) (number : ℕ) (coming : Option (List ℕ)) (held : Held) (known : Option (List ℕ)) (so : IsReadSoFar limits room start kept number coming)
    → IfSome coming (λ bytes. bytes ≡ []) → with_prefix (held.begun ++ held.ahead) known ≡ coming → IfSome start (λ bytes. IsRead limits kept bytes known)
read_end limits room start kept number coming held known so none now =
    rows_of_all limits start kept so.lines known so.kept_is (read_at_end limits start so.lines coming held known so.within so.is_room.unbroken so.whole_is none now)

pub read_end_line : (limits : Limits) (room : Room) (start : Option (List ℕ)) (kept more : List (ℕ × List ℕ)) (number : ℕ) (coming : Option (List ℕ)) (line : List ℕ) (ended is_row : Bool) (held : Held) (known : Option (List ℕ)) (so : IsReadSoFar limits room start kept number coming)
    → ended ≡ false → IsUnbroken line → IsWithin limits ((joined so.lines ++ line) ++ (if ended then 10 ∷ [] else [])) → IfSome coming (IsLineOf line ended (with_prefix (held.begun ++ held.ahead) known))
    → is_row ≡ not (is_blank line) → more ≡ kept ++ (if is_row then (number, line) ∷ [] else []) → IfSome start (λ bytes. IsRead limits more bytes known)
read_end_line limits room start kept more number coming line ended is_row held known so not_ended this within is row pushed =
    rows_of_all limits start more (so.lines ++ line ∷ []) known (kept_push kept more number so.lines line is_row so.kept_is so.number_is row pushed)
    (read_last limits start so.lines coming line ended held known not_ended so.is_room.unbroken this within so.whole_is is)
