-- Private: single steps of the aggregate functions.
use Rattle.std.specs.Prelude.{ℕ, ℤ, pos, ◌+ℤ◌, List, ◌++◌, Option, Some, None, unwrap_or}
use Rattle.std.specs.Int.{Width, int_wrap}

-- what a sum comes to with one integer more, as far as it goes into the width
abbrev pub added : Width → Option ℤ → Option ℤ → Option ℤ
added width sum None = sum
added width sum (Some n) = Some (int_wrap width (unwrap_or sum (pos 0) +ℤ n))

-- a text after those before it, with the delimiter between them, or alone where there is none
abbrev pub appended : Option (List ℕ) → List ℕ → List ℕ → List ℕ
appended None delimiter text = text
appended (Some before) delimiter text = (before ++ delimiter) ++ text
