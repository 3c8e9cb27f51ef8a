-- Private: what the functions make of two values of a column, where null stands for no value.
use Rattle.std.specs.Prelude.{ℕ, ◌+ℤ◌, List, ◌++◌, ◌&&◌, ◌||◌, Bool, if◌then◌else◌}
use Rattle.std.specs.Int.{Width, int_wrap}
use Rattle.std.specs.Ordering.{is_le, is_ge}
use Rattle.pm_values.specs.Order.{value_cmp}
use Rattle.pm_values.specs.declared.value.Value.{Value}
use Rattle.pm_values.specs.declared.value.Value.TheVariants.{Null, Bool as Truth, Int, Text}
use Rattle.pm_model_history.specs.ColumnValue.{is_null}

-- what a function makes of two values, where one that is null counts for nothing
abbrev pub beside : (Value → Value → Value) → Value → Value → Value
beside f a b = if is_null a then b else (if is_null b then a else f a b)

-- two integers added, as far as the sum goes into the width
abbrev pub added : Width → Value → Value → Value
added width (Int m) (Int n) = Int (int_wrap width (m +ℤ n))
added width a b = Null

-- a value is at most another, and at least another
abbrev pub not_greater : Value → Value → Bool
not_greater a b = is_le (value_cmp a b)

abbrev pub not_less : Value → Value → Bool
not_less a b = is_ge (value_cmp a b)

-- the one of two values to which the other compares so; the older one where both do
abbrev pub picked : (Value → Value → Bool) → Value → Value → Value
picked le a b = if le b a then a else b

-- two texts with a delimiter between them
abbrev pub glued : List ℕ → Value → Value → Value
glued delimiter (Text a) (Text b) = Text ((a ++ delimiter) ++ b)
glued delimiter a b = Null

abbrev pub both : Value → Value → Value
both (Truth a) (Truth b) = Truth (a && b)
both a b = Null

abbrev pub either : Value → Value → Value
either (Truth a) (Truth b) = Truth (a || b)
either a b = Null

abbrev pub earlier : Value → Value → Value
earlier a b = a

abbrev pub later : Value → Value → Value
later a b = b

-- what is left of a value that is no text, or no truth: nothing
abbrev pub text_alone : Value → Value
text_alone (Text text) = Text text
text_alone value = Null

abbrev pub truth_alone : Value → Value
truth_alone (Truth b) = Truth b
truth_alone value = Null
