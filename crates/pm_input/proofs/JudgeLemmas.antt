-- A line is judged as the limits say.
use Rattle.std.proofs.Common.{◌≡◌, ◌≢◌, ℕ, suc, ◌+◌, ◌-◌, ◌<◌, ◌≤◌, ◌==◌, ◌&&◌, ◌||◌, List, [], ◌∷◌, ◌++◌, length, filter, nat_le, Bool, true, false, not, if◌then◌else◌, Option, Some, None, refl, sym, ap, ◌∙◌, subst, arith, append_assoc, append-nil, length-append, eqb-true, le-leb, add-one}
use Rattle.std.specs.List.{AllByRecursion}
use Rattle.std.proofs.lemmas.Bool.{and_parts, false≢true, leb-true, leb-false}
use Rattle.std.proofs.lemmas.List.Elements.{filter-append, recursion_from_All, All-from_recursion}
use Rattle.std.proofs.lemmas.List.Folds.{list_all-append}
use Rattle.pm_io.specs.Lines.{has_newline, all_lines}
use Rattle.pm_base.specs.Newline.{IsUnbroken}
use Rattle.pm_io.proofs.Lemmas.{has_newline-append, all_lines-ended, all_lines-last}
use Rattle.pm_input.specs.Blank.{is_blank_byte, is_blank, row_count}
use Rattle.pm_input.specs.Judge.{joined, IsRoomAfter, exceeded, or_then, exceeded_from, exceeded_by}
use Rattle.pm_input.specs.Limits.{open_line, ExceedsAfter, IsWithin, IsFirstLimit, rank}
use Rattle.pm_input.specs.declared.judge.Room.{Room}
use Rattle.pm_input.specs.declared.limits.Limits.{Limits}
use Rattle.pm_input.specs.declared.limits.LimitKind.{LimitKind}
use Rattle.pm_input.specs.declared.limits.LimitKind.TheVariants.{Line, BatchRows, BatchBytes}
use Rattle.pm_input.proofs.LimitLemmas.{IsWithin-push, IsFirstLimit-at}

-- no newline, byte by byte
abbrev pub IsFree : List ℕ → Type 0
IsFree = AllByRecursion (λ b. b ≢ 10)

pub IsFree-unbroken : (line : List ℕ) → IsUnbroken line → IsFree line
IsFree-unbroken line h = recursion_from_All (λ b. b ≢ 10) line h

IsUnbroken-free : (line : List ℕ) → IsFree line → IsUnbroken line
IsUnbroken-free line h = All-from_recursion (λ b. b ≢ 10) line h

IsFree-push : (piece : List ℕ) (b : ℕ) → IsFree piece → b ≢ 10 → IsFree (piece ++ b ∷ [])
IsFree-push [] b h this = (this, tt)
IsFree-push (x ∷ piece) b h this = (h.0, IsFree-push piece b h.1 this)

-- ---- lines, and the piece of a line after them

or-true : (x : Bool) → (x || true) ≡ true
or-true true = refl
or-true false = refl

ends_later : (line rest : List ℕ) → has_newline (line ++ 10 ∷ rest) ≡ true
ends_later [] rest = refl
ends_later (b ∷ line) rest = ap (λ (t : Bool). (b == 10) || t) (ends_later line rest) ∙ or-true (b == 10)

open_line-past : (line rest : List ℕ) → open_line (line ++ 10 ∷ rest) ≡ open_line rest
open_line-past [] rest = refl
open_line-past (b ∷ line) rest = rw (ends_later (b ∷ line) rest) (open_line-past line rest)

open_line-free : (piece : List ℕ) → IsFree piece → open_line piece ≡ piece
open_line-free [] h = refl
open_line-free (b ∷ piece) h =
    let none : has_newline (b ∷ piece) ≡ false = ap has_newline (sym (append-nil (b ∷ piece))) ∙ has_newline-append (b ∷ piece) [] (IsUnbroken-free (b ∷ piece) h) in
    rw none refl

joined-cons : (line : List ℕ) (lines : List (List ℕ)) (rest : List ℕ) → joined (line ∷ lines) ++ rest ≡ line ++ 10 ∷ (joined lines ++ rest)
joined-cons line lines rest = append_assoc (line ++ 10 ∷ []) (joined lines) rest ∙ append_assoc line (10 ∷ []) (joined lines ++ rest)

pub joined-push : (lines : List (List ℕ)) (line : List ℕ) → joined (lines ++ line ∷ []) ≡ (joined lines ++ line) ++ 10 ∷ []
joined-push [] line = append-nil (line ++ 10 ∷ [])
joined-push (first ∷ lines) line =
    ap (λ (l : List ℕ). (first ++ 10 ∷ []) ++ l) (joined-push lines line) ∙ sym (append_assoc (first ++ 10 ∷ []) (joined lines ++ line) (10 ∷ []))
    ∙ ap (λ (l : List ℕ). l ++ 10 ∷ []) (sym (append_assoc (first ++ 10 ∷ []) (joined lines) line))

open_line-joined : (lines : List (List ℕ)) (piece : List ℕ) → IsFree piece → open_line (joined lines ++ piece) ≡ piece
open_line-joined [] piece h = open_line-free piece h
open_line-joined (line ∷ lines) piece h =
    ap open_line (joined-cons line lines piece) ∙ open_line-past line (joined lines ++ piece) ∙ open_line-joined lines piece h

pub all_lines-joined : (lines : List (List ℕ)) (rest : List ℕ) → AllByRecursion IsUnbroken lines → all_lines (joined lines ++ rest) ≡ lines ++ all_lines rest
all_lines-joined [] rest h = refl
all_lines-joined (line ∷ lines) rest h =
    ap all_lines (joined-cons line lines rest) ∙ all_lines-ended line (joined lines ++ rest) h.0 ∙ ap (λ (l : List (List ℕ)). line ∷ l) (all_lines-joined lines rest h.1)

row_count-append : (lines more : List (List ℕ)) → row_count (lines ++ more) ≡ row_count lines + row_count more
row_count-append lines more = ap length (filter-append (λ line. not (is_blank line)) lines more) ∙ length-append (filter (λ line. not (is_blank line)) lines) _

pub row_count-blank : (line : List ℕ) → is_blank line ≡ true → row_count (line ∷ []) ≡ 0
row_count-blank line is = rw is refl

row_count-row : (line : List ℕ) → is_blank line ≡ false → row_count (line ∷ []) ≡ 1
row_count-row line is = rw is refl

open_rows : (piece : List ℕ) → IsFree piece → is_blank piece ≡ true → row_count (all_lines piece) ≡ 0
open_rows [] h is = refl
open_rows (b ∷ piece) h is =
    ap row_count (all_lines-last (b ∷ piece) (IsUnbroken-free (b ∷ piece) h) (λ e. cc)) ∙ row_count-blank (b ∷ piece) is

row_count-joined : (lines : List (List ℕ)) (piece : List ℕ) → AllByRecursion IsUnbroken lines → IsFree piece → is_blank piece ≡ true → row_count (all_lines (joined lines ++ piece)) ≡ row_count lines
row_count-joined lines piece whole free is =
    let split = ap row_count (all_lines-joined lines piece whole) ∙ row_count-append lines (all_lines piece) in
    let none = open_rows piece free is in
    omega arith

-- ---- the tests of a byte

abbrev pick : Bool → Bool → Bool → LimitKind → Bool
pick line rows bytes Line = line
pick line rows bytes BatchRows = rows
pick line rows bytes BatchBytes = bytes

-- the test of each limit, at a byte after a piece
abbrev test : Limits → Room → List ℕ → ℕ → LimitKind → Bool
test limits room piece b which =
    pick (nat_le limits.line (length piece)) ((is_blank piece && not (is_blank_byte b)) && (room.rows == 0)) (nat_le room.bytes (length piece)) which

not-true : (x : Bool) → not x ≡ true → x ≡ false
not-true true e = cc
not-true false e = refl

to_test : (limits : Limits) (room : Room) (lines : List (List ℕ)) (piece : List ℕ) (b : ℕ) → IsRoomAfter limits room lines → IsFree piece
    → (which : LimitKind) → ExceedsAfter limits which (joined lines ++ piece) b → test limits room piece b which ≡ true
to_test limits room lines piece b is_room free Line exceeds =
    le-leb limits.line (length piece) (subst (λ (l : List ℕ). limits.line ≤ length l) (open_line-joined lines piece free) exceeds.1)
to_test limits room lines piece b is_room free BatchRows exceeds =
    let blank : is_blank piece ≡ true = ap is_blank (sym (open_line-joined lines piece free)) ∙ exceeds.2 in
    let count = row_count-joined lines piece is_room.unbroken free blank in
    let most = exceeds.3 in
    let rows = is_room.rows in
    let none : room.rows ≡ 0 = omega arith in
    rw (blank, exceeds.1, none) refl
to_test limits room lines piece b is_room free BatchBytes exceeds =
    let bytes = is_room.bytes in
    let len = length-append (joined lines) piece in
    le-leb room.bytes (length piece) (omega arith)

from_test : (limits : Limits) (room : Room) (lines : List (List ℕ)) (piece : List ℕ) (b : ℕ) → IsRoomAfter limits room lines → IsFree piece → b ≢ 10
    → (which : LimitKind) → test limits room piece b which ≡ true → ExceedsAfter limits which (joined lines ++ piece) b
from_test limits room lines piece b is_room free other Line is =
    (other, subst (λ (l : List ℕ). limits.line ≤ length l) (sym (open_line-joined lines piece free)) (leb-true limits.line (length piece) is))
from_test limits room lines piece b is_room free other BatchRows is =
    let parts = and_parts _ _ is in
    let both = and_parts _ _ parts.0 in
    let count = row_count-joined lines piece is_room.unbroken free both.0 in
    let rows = is_room.rows in
    let none : room.rows ≡ 0 = eqb-true room.rows 0 parts.1 in
    (other, not-true (is_blank_byte b) both.1, ap is_blank (open_line-joined lines piece free) ∙ both.0, omega arith)
from_test limits room lines piece b is_room free other BatchBytes is =
    let bytes = is_room.bytes in
    let len = length-append (joined lines) piece in
    let most = leb-true room.bytes (length piece) is in
    omega arith

false_unless : (t : Bool) → (t ≡ true → ⊥) → t ≡ false
false_unless true h = absurd (h refl)
false_unless false h = refl

-- the first of three tests that holds
abbrev first_of_three : Bool → Bool → Bool → Option LimitKind
first_of_three line rows bytes = if line then Some Line else if rows then Some BatchRows else if bytes then Some BatchBytes else None

none_holds : (line rows bytes : Bool) → first_of_three line rows bytes ≡ None → (which : LimitKind) → pick line rows bytes which ≡ true → ⊥
none_holds true rows bytes e which is = cc
none_holds false true bytes e which is = cc
none_holds false false true e which is = cc
none_holds false false false e Line is = false≢true is
none_holds false false false e BatchRows is = false≢true is
none_holds false false false e BatchBytes is = false≢true is

rows_first : (bytes : Bool) (other : LimitKind) → rank other < 1 → pick false true bytes other ≡ true → ⊥
rows_first bytes Line less is = false≢true is
rows_first bytes BatchRows less is = omega arith
rows_first bytes BatchBytes less is = omega arith

bytes_first : (other : LimitKind) → rank other < 2 → pick false false true other ≡ true → ⊥
bytes_first Line less is = false≢true is
bytes_first BatchRows less is = false≢true is
bytes_first BatchBytes less is = omega arith

first_holds : (line rows bytes : Bool) (which : LimitKind) → first_of_three line rows bytes ≡ Some which → (pick line rows bytes which ≡ true) × ((other : LimitKind) → rank other < rank which → pick line rows bytes other ≡ true → ⊥)
first_holds true rows bytes Line e = (refl, λ other less is. omega arith)
first_holds true rows bytes BatchRows e = cc
first_holds true rows bytes BatchBytes e = cc
first_holds false true bytes Line e = cc
first_holds false true bytes BatchRows e = (refl, rows_first bytes)
first_holds false true bytes BatchBytes e = cc
first_holds false false true Line e = cc
first_holds false false true BatchRows e = cc
first_holds false false true BatchBytes e = (refl, bytes_first)
first_holds false false false which e = cc

-- a byte that exceeds none keeps the input within the limits
push_exceeded : (limits : Limits) (room : Room) (lines : List (List ℕ)) (piece : List ℕ) (b : ℕ) → IsRoomAfter limits room lines → IsWithin limits (joined lines ++ piece) → IsFree piece
    → exceeded limits room (length piece) (is_blank piece) b ≡ None → IsWithin limits (joined lines ++ (piece ++ b ∷ []))
push_exceeded limits room lines piece b is_room within free none =
    subst (λ (l : List ℕ). IsWithin limits l) (append_assoc (joined lines) piece (b ∷ []))
    (IsWithin-push limits (joined lines ++ piece) b within (λ which exceeds. none_holds _ _ _ none which (to_test limits room lines piece b is_room free which exceeds)))

-- the limit that a byte exceeds is the first of the input
at_exceeded : (limits : Limits) (room : Room) (lines : List (List ℕ)) (piece : List ℕ) (b : ℕ) (rest : List ℕ) (which : LimitKind) → IsRoomAfter limits room lines → IsWithin limits (joined lines ++ piece) → IsFree piece → b ≢ 10
    → exceeded limits room (length piece) (is_blank piece) b ≡ Some which → IsFirstLimit limits which ((joined lines ++ piece) ++ b ∷ rest)
at_exceeded limits room lines piece b rest which is_room within free other is =
    let first = first_holds _ _ _ which is in
    IsFirstLimit-at limits which (joined lines ++ piece) b rest within (from_test limits room lines piece b is_room free other which first.0)
    (λ less_which less exceeds. first.1 less_which less (to_test limits room lines piece b is_room free less_which exceeds))

-- ---- the bytes of a line

and-true : (x : Bool) → (x && true) ≡ x
and-true true = refl
and-true false = refl

is_blank-push : (piece : List ℕ) (b : ℕ) → is_blank (piece ++ b ∷ []) ≡ (is_blank piece && is_blank_byte b)
is_blank-push piece b = list_all-append is_blank_byte piece (b ∷ []) ∙ ap (λ (t : Bool). is_blank piece && t) (and-true (is_blank_byte b))

length-push : (piece : List ℕ) (b : ℕ) → length (piece ++ b ∷ []) ≡ suc (length piece)
length-push piece b = length-append piece (b ∷ []) ∙ add-one (length piece)

next_offset : (limits : Limits) (room : Room) (piece : List ℕ) (b : ℕ) (bytes : List ℕ) → exceeded_from limits room (length (piece ++ b ∷ [])) (is_blank (piece ++ b ∷ [])) bytes ≡ exceeded_from limits room (suc (length piece)) (is_blank piece && is_blank_byte b) bytes
next_offset limits room piece b bytes =
    ap (λ (n : ℕ). exceeded_from limits room n (is_blank (piece ++ b ∷ [])) bytes) (length-push piece b) ∙ ap (λ (t : Bool). exceeded_from limits room (suc (length piece)) t bytes) (is_blank-push piece b)

regroup : (before piece : List ℕ) (b : ℕ) (bytes : List ℕ) → (before ++ (piece ++ b ∷ [])) ++ bytes ≡ (before ++ piece) ++ b ∷ bytes
regroup before piece b bytes = ap (λ (l : List ℕ). l ++ bytes) (sym (append_assoc before piece (b ∷ []))) ∙ append_assoc (before ++ piece) (b ∷ []) bytes

pub or_none : (o more : Option LimitKind) → or_then o more ≡ None → (o ≡ None) × (more ≡ None)
or_none None more e = (refl, e)
or_none (Some which) more e = cc

pub within_from : (limits : Limits) (room : Room) (lines : List (List ℕ)) (piece bytes : List ℕ) → IsRoomAfter limits room lines → IsWithin limits (joined lines ++ piece) → IsFree piece → IsFree bytes
    → exceeded_from limits room (length piece) (is_blank piece) bytes ≡ None → IsWithin limits ((joined lines ++ piece) ++ bytes)
within_from limits room lines piece [] is_room within free whole none = subst (λ (l : List ℕ). IsWithin limits l) (sym (append-nil (joined lines ++ piece))) within
within_from limits room lines piece (b ∷ bytes) is_room within free whole none =
    let both = or_none _ _ none in
    let here = push_exceeded limits room lines piece b is_room within free both.0 in
    let later = within_from limits room lines (piece ++ b ∷ []) bytes is_room here (IsFree-push piece b free whole.0) whole.1 (next_offset limits room piece b bytes ∙ both.1) in
    subst (λ (l : List ℕ). IsWithin limits l) (regroup (joined lines) piece b bytes) later

first_at : (limits : Limits) (room : Room) (lines : List (List ℕ)) (piece : List ℕ) (b : ℕ) (rest : List ℕ) (which : LimitKind) (here more : Option LimitKind) → IsRoomAfter limits room lines → IsWithin limits (joined lines ++ piece) → IsFree piece → b ≢ 10
    → exceeded limits room (length piece) (is_blank piece) b ≡ here → (here ≡ None → more ≡ Some which → IsFirstLimit limits which ((joined lines ++ piece) ++ b ∷ rest)) → or_then here more ≡ Some which
    → IsFirstLimit limits which ((joined lines ++ piece) ++ b ∷ rest)
first_at limits room lines piece b rest which None more is_room within free other at later is = later refl is
first_at limits room lines piece b rest which (Some found) more is_room within free other at later is =
    at_exceeded limits room lines piece b rest which is_room within free other (at ∙ is)

pub first_from : (limits : Limits) (room : Room) (lines : List (List ℕ)) (piece bytes rest : List ℕ) (which : LimitKind) → IsRoomAfter limits room lines → IsWithin limits (joined lines ++ piece) → IsFree piece → IsFree bytes
    → exceeded_from limits room (length piece) (is_blank piece) bytes ≡ Some which → IsFirstLimit limits which ((joined lines ++ piece) ++ (bytes ++ rest))
first_from limits room lines piece [] rest which is_room within free whole is = cc
first_from limits room lines piece (b ∷ bytes) rest which is_room within free whole is =
    first_at limits room lines piece b (bytes ++ rest) which (exceeded limits room (length piece) (is_blank piece) b) (exceeded_from limits room (suc (length piece)) (is_blank piece && is_blank_byte b) bytes) is_room within free whole.0 refl
    (λ none found.
    let here = push_exceeded limits room lines piece b is_room within free none in
    let later = first_from limits room lines (piece ++ b ∷ []) bytes rest which is_room here (IsFree-push piece b free whole.0) whole.1 (next_offset limits room piece b bytes ∙ found) in
    subst (λ (l : List ℕ). IsFirstLimit limits which l) (regroup (joined lines) piece b (bytes ++ rest)) later)
    is

-- a byte that exceeds none has enough in its line
pub room_at : (limits : Limits) (room : Room) (offset : ℕ) (blank : Bool) (b : ℕ) → exceeded limits room offset blank b ≡ None → offset < limits.line
room_at limits room offset blank b none =
    leb-false limits.line offset
    (false_unless (nat_le limits.line offset) (λ is. none_holds (nat_le limits.line offset) ((blank && not (is_blank_byte b)) && (room.rows == 0)) (nat_le room.bytes offset) none Line is))

blank_rest : (t : Bool) (bytes : List ℕ) → t ≡ true → (t && is_blank bytes) ≡ false → is_blank bytes ≡ false
blank_rest true bytes e is = is
blank_rest false bytes e is = cc

row_found : (limits : Limits) (room : Room) (offset b : ℕ) → exceeded limits room offset true b ≡ None → is_blank_byte b ≡ false → room.rows ≡ 0 → ⊥
row_found limits room offset b none row rows =
    none_holds (nat_le limits.line offset) (not (is_blank_byte b) && (room.rows == 0)) (nat_le room.bytes offset) none BatchRows (rw (row, rows) refl)

row_at : (limits : Limits) (room : Room) (offset b : ℕ) (bytes : List ℕ) (t : Bool) → is_blank_byte b ≡ t → exceeded limits room offset true b ≡ None → room.rows ≡ 0 → (t ≡ true → ⊥) → ⊥
row_at limits room offset b bytes true e none rows later = later refl
row_at limits room offset b bytes false e none rows later = row_found limits room offset b none e rows

-- where no row is room, a line that isn't blank exceeds a limit
pub some_row : (limits : Limits) (room : Room) (offset : ℕ) (bytes : List ℕ) → exceeded_from limits room offset true bytes ≡ None → is_blank bytes ≡ false → room.rows ≡ 0 → ⊥
some_row limits room offset [] none is rows = cc
some_row limits room offset (b ∷ bytes) none is rows =
    let both = or_none (exceeded limits room offset true b) (exceeded_from limits room (suc offset) (is_blank_byte b) bytes) none in
    row_at limits room offset b bytes (is_blank_byte b) refl both.0 rows
    (λ blank. some_row limits room (suc offset) bytes
    (subst (λ (t : Bool). exceeded_from limits room (suc offset) t bytes ≡ None) blank both.1)
    (blank_rest (is_blank_byte b) bytes blank is) rows)

-- ---- a whole line

newline_none : (limits : Limits) (room : Room) (lines : List (List ℕ)) (line : List ℕ) → IsRoomAfter limits room lines → nat_le room.bytes (length line) ≡ false → (which : LimitKind) → ExceedsAfter limits which (joined lines ++ line) 10 → ⊥
newline_none limits room lines line is_room enough Line exceeds = exceeds.0 refl
newline_none limits room lines line is_room enough BatchRows exceeds = exceeds.0 refl
newline_none limits room lines line is_room enough BatchBytes exceeds =
    let bytes = is_room.bytes in
    let len = length-append (joined lines) line in
    let more = leb-false room.bytes (length line) enough in
    omega arith

newline_first : (limits : Limits) (lines : List (List ℕ)) (line : List ℕ) (other : LimitKind) → rank other < 2 → ExceedsAfter limits other (joined lines ++ line) 10 → ⊥
newline_first limits lines line Line less exceeds = exceeds.0 refl
newline_first limits lines line BatchRows less exceeds = exceeds.0 refl
newline_first limits lines line BatchBytes less exceeds = omega arith

-- the bytes of a line without its newline
pub bytes_within : (limits : Limits) (room : Room) (lines : List (List ℕ)) (line : List ℕ) → IsRoomAfter limits room lines → IsWithin limits (joined lines) → IsUnbroken line → exceeded_from limits room 0 true line ≡ None → IsWithin limits (joined lines ++ line)
bytes_within limits room lines line is_room within whole none =
    let here = subst (λ (l : List ℕ). IsWithin limits l) (sym (append-nil (joined lines))) within in
    subst (λ (l : List ℕ). IsWithin limits (l ++ line)) (append-nil (joined lines)) (within_from limits room lines [] line is_room here tt (IsFree-unbroken line whole) none)

pub first_in_line : (limits : Limits) (room : Room) (lines : List (List ℕ)) (line rest : List ℕ) (which : LimitKind) → IsRoomAfter limits room lines → IsWithin limits (joined lines) → IsUnbroken line → exceeded_from limits room 0 true line ≡ Some which → IsFirstLimit limits which (joined lines ++ (line ++ rest))
first_in_line limits room lines line rest which is_room within whole is =
    let here = subst (λ (l : List ℕ). IsWithin limits l) (sym (append-nil (joined lines))) within in
    subst (λ (l : List ℕ). IsFirstLimit limits which (l ++ (line ++ rest))) (append-nil (joined lines)) (first_from limits room lines [] line rest which is_room here tt (IsFree-unbroken line whole) is)

ending_none : (limits : Limits) (room : Room) (lines : List (List ℕ)) (line : List ℕ) (ended full : Bool) → nat_le room.bytes (length line) ≡ full → IsRoomAfter limits room lines → IsWithin limits (joined lines ++ line)
    → (if ended && full then Some BatchBytes else None) ≡ None → IsWithin limits ((joined lines ++ line) ++ (if ended then 10 ∷ [] else []))
ending_none limits room lines line false full enough is_room within none = subst (λ (l : List ℕ). IsWithin limits l) (sym (append-nil (joined lines ++ line))) within
ending_none limits room lines line true true enough is_room within none = cc
ending_none limits room lines line true false enough is_room within none = IsWithin-push limits (joined lines ++ line) 10 within (newline_none limits room lines line is_room enough)

pub line_within : (limits : Limits) (room : Room) (lines : List (List ℕ)) (line : List ℕ) (ended : Bool) → IsRoomAfter limits room lines → IsWithin limits (joined lines) → IsUnbroken line → exceeded_by limits room line ended ≡ None
    → IsWithin limits ((joined lines ++ line) ++ (if ended then 10 ∷ [] else []))
line_within limits room lines line ended is_room within whole none =
    let both = or_none (exceeded_from limits room 0 true line) _ none in
    ending_none limits room lines line ended (nat_le room.bytes (length line)) refl is_room (bytes_within limits room lines line is_room within whole both.0) both.1

ending_first : (limits : Limits) (room : Room) (lines : List (List ℕ)) (line rest : List ℕ) (which : LimitKind) (ended full : Bool) → nat_le room.bytes (length line) ≡ full → IsRoomAfter limits room lines → IsWithin limits (joined lines ++ line)
    → (if ended && full then Some BatchBytes else None) ≡ Some which → IsFirstLimit limits which ((joined lines ++ line) ++ (if ended then 10 ∷ rest else []))
ending_first limits room lines line rest which false full enough is_room within is = cc
ending_first limits room lines line rest which true false enough is_room within is = cc
ending_first limits room lines line rest which true true enough is_room within is =
    let bytes = is_room.bytes in
    let len = length-append (joined lines) line in
    let most = leb-true room.bytes (length line) enough in
    let same : BatchBytes ≡ which = cc in
    subst (λ (w : LimitKind). IsFirstLimit limits w ((joined lines ++ line) ++ 10 ∷ rest)) same
    (IsFirstLimit-at limits BatchBytes (joined lines ++ line) 10 rest within (omega arith) (newline_first limits lines line))

line_first_at : (limits : Limits) (room : Room) (lines : List (List ℕ)) (line rest : List ℕ) (which : LimitKind) (ended : Bool) (inside : Option LimitKind) → exceeded_from limits room 0 true line ≡ inside → IsRoomAfter limits room lines → IsWithin limits (joined lines) → IsUnbroken line
    → or_then inside (if ended && nat_le room.bytes (length line) then Some BatchBytes else None) ≡ Some which → IsFirstLimit limits which ((joined lines ++ line) ++ (if ended then 10 ∷ rest else []))
line_first_at limits room lines line rest which ended None at is_room within whole is =
    ending_first limits room lines line rest which ended (nat_le room.bytes (length line)) refl is_room (bytes_within limits room lines line is_room within whole at) is
line_first_at limits room lines line rest which ended (Some found) at is_room within whole is =
    let e : exceeded_from limits room 0 true line ≡ Some which = at ∙ is in
    subst (λ (l : List ℕ). IsFirstLimit limits which l) (sym (append_assoc (joined lines) line (if ended then 10 ∷ rest else [])))
    (first_in_line limits room lines line (if ended then 10 ∷ rest else []) which is_room within whole e)

pub line_first : (limits : Limits) (room : Room) (lines : List (List ℕ)) (line rest : List ℕ) (which : LimitKind) (ended : Bool) → IsRoomAfter limits room lines → IsWithin limits (joined lines) → IsUnbroken line → exceeded_by limits room line ended ≡ Some which
    → IsFirstLimit limits which ((joined lines ++ line) ++ (if ended then 10 ∷ rest else []))
line_first limits room lines line rest which ended is_room within whole is =
    line_first_at limits room lines line rest which ended (exceeded_from limits room 0 true line) refl is_room within whole is

unbroken_push : (lines : List (List ℕ)) (line : List ℕ) → AllByRecursion IsUnbroken lines → IsUnbroken line → AllByRecursion IsUnbroken (lines ++ line ∷ [])
unbroken_push [] line h this = (this, tt)
unbroken_push (first ∷ lines) line h this = (h.0, unbroken_push lines line h.1 this)

rows_after : (limits : Limits) (room : Room) (lines : List (List ℕ)) (line : List ℕ) (blank : Bool) → is_blank line ≡ blank → IsRoomAfter limits room lines → exceeded_from limits room 0 true line ≡ None → (if blank then room.rows else room.rows - 1) + row_count (lines ++ line ∷ []) ≡ limits.rows
rows_after limits room lines line true is is_room none =
    let rows = is_room.rows in
    let count = row_count-append lines (line ∷ []) in
    let one = row_count-blank line is in
    omega arith
rows_after limits room lines line false is is_room none =
    let rows = is_room.rows in
    let count = row_count-append lines (line ∷ []) in
    let one = row_count-row line is in
    let some : room.rows ≢ 0 = some_row limits room 0 line none is in
    omega arith

room_for : (room : Room) (line : List ℕ) (full : Bool) → nat_le room.bytes (length line) ≡ full → (if full then Some BatchBytes else None) ≡ None → length line < room.bytes
room_for room line true is none = cc
room_for room line false is none = leb-false room.bytes (length line) is

pub line_room : (limits : Limits) (room after : Room) (lines : List (List ℕ)) (line : List ℕ) → IsRoomAfter limits room lines → IsUnbroken line → exceeded_by limits room line true ≡ None
    → after.rows ≡ (if is_blank line then room.rows else room.rows - 1) → after.bytes ≡ room.bytes - (length line + 1) → IsRoomAfter limits after (lines ++ line ∷ [])
line_room limits room after lines line is_room whole none rows_is bytes_is =
    let both = or_none (exceeded_from limits room 0 true line) _ none in
    let enough = room_for room line (nat_le room.bytes (length line)) refl both.1 in
    let bytes = is_room.bytes in
    let len = ap length (joined-push lines line) ∙ length-append (joined lines ++ line) (10 ∷ []) in
    let inner = length-append (joined lines) line in
    record {
      rows = ap (λ (n : ℕ). n + row_count (lines ++ line ∷ [])) rows_is ∙ rows_after limits room lines line (is_blank line) refl is_room both.0;
      bytes = omega arith;
      unbroken = unbroken_push lines line is_room.unbroken whole;
    }
