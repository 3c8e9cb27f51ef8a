-- Private: how the limits are judged line by line.
use Rattle.std.specs.Prelude.{◌≡◌, ℕ, suc, ◌+◌, ◌==◌, ◌&&◌, nat_le, nat_lt, List, [], ◌∷◌, length}
use Rattle.std.specs.Prelude.{Bool, true, not, if◌then◌else◌, Option, Some, None}
use Rattle.std.specs.List.{AllByRecursion, flat_map}
use Rattle.pm_base.specs.Newline.{IsUnbroken, line}
use Rattle.pm_input.specs.Blank.{is_blank_byte, row_count}
use Rattle.pm_input.specs.declared.judge.Room.{Room}
use Rattle.pm_input.specs.declared.limits.Limits.{Limits}
use Rattle.pm_input.specs.declared.limits.LimitKind.{LimitKind}
use Rattle.pm_input.specs.declared.limits.LimitKind.TheVariants.{Line, BatchRows, BatchBytes}

-- lines, each with its newline
abbrev pub joined : List (List ℕ) → List ℕ
joined lines = flat_map line lines

-- the room that these lines leave of the limits
pub record IsRoomAfter (limits : Limits) (room : Room) (lines : List (List ℕ)) : Type 0 where
  pub rows : room.rows + row_count lines ≡ limits.rows
  pub bytes : room.bytes + length (joined lines) ≡ limits.bytes
  pub unbroken : AllByRecursion IsUnbroken lines

-- the limit that a byte exceeds first which is no newline, at an offset of its line, after blank bytes or others
abbrev pub exceeded : Limits → Room → ℕ → Bool → ℕ → Option LimitKind
exceeded limits room offset blank b =
    if nat_le limits.line offset then Some Line
    else if blank && not (is_blank_byte b) && (room.rows == 0) then Some BatchRows
    else if nat_le room.bytes offset then Some BatchBytes
    else None

-- the first one, else the second
abbrev pub or_then : Option LimitKind → Option LimitKind → Option LimitKind
or_then None more = more
or_then (Some which) more = Some which

-- the first limit that the bytes of a line exceed, from an offset on
abbrev pub exceeded_from : Limits → Room → ℕ → Bool → List ℕ → Option LimitKind
exceeded_from limits room offset blank [] = None
exceeded_from limits room offset blank (b ∷ bytes) =
    or_then (exceeded limits room offset blank b)
    (exceeded_from limits room (suc offset) (blank && is_blank_byte b) bytes)

-- the limit of the least of three offsets in a line of that length, in their order at equal ones
abbrev pub first_of : ℕ → ℕ → ℕ → ℕ → Option LimitKind
first_of line row bytes len =
    if nat_le line row && nat_le line bytes && nat_lt line len then Some Line
    else if nat_le row bytes && nat_lt row len then Some BatchRows
    else if nat_lt bytes len then Some BatchBytes
    else None

-- the first limit that a line exceeds, with its newline where that ends it
abbrev pub exceeded_by : Limits → Room → List ℕ → Bool → Option LimitKind
exceeded_by limits room line ended =
    or_then (exceeded_from limits room 0 true line)
    (if ended && nat_le room.bytes (length line) then Some BatchBytes else None)
