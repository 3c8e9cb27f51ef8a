use Rattle.std.proofs.Common.{◌≡◌, ◌<◌, ◌^◌, ℕ, List, Result, Ok, arith, sym, ap, ◌∙◌}
use Rattle.std.specs.Fmt.{decimal}
use Rattle.std.specs.Str.Parse.{ParsesUnsigned}
use Rattle.std.proofs.lemmas.Fmt.{parse-decimal}
use Rattle.std.proofs.lemmas.Slice.Eq.{bytes_eq-Decides}
use Rattle.pm_words.specs.Reading.{IsNumberOf}
use Rattle.pm_words.proofs.values.number_in.Goals as goal

-- the text of a number is read as it
read : {E : Type 0} (text : List ℕ) (parsed : Result ℕ E) (m : ℕ) → ParsesUnsigned 64 10 text parsed → IsNumberOf text m → parsed ≡ Ok m
read text parsed m parses is =
    let small : m < 2 ^ 64 = omega (arith, is) in
    parse-decimal 64 m text parsed small small is.1 parses

pub returns-in_default : goal.returns-in_default
returns-in_default c = λ m is. c.in_default.not-Ok m (read c.args.text.now c.parse.result m c.parse.ensures.value.0 is)

pub returns-then-n-gt-GREATEST_NUMBER : goal.returns-then-n-gt-GREATEST_NUMBER
returns-then-n-gt-GREATEST_NUMBER c = λ m is.
    let is_read = read c.args.text.now c.parse.result m c.parse.ensures.value.0 is in
    let one : c.in-Ok.n ≡ m = cc in
    omega arith

pub returns-else-eq : goal.returns-else-eq
returns-else-eq c = λ m is.
    let is_read = read c.args.text.now c.parse.result m c.parse.ensures.value.0 is in
    let one : c.in-Ok.n ≡ m = cc in
    let equal = (bytes_eq-Decides c.format.result.now c.args.text.now).1 (c.format.ensures.text ∙ ap decimal one ∙ sym is.1) in
    grind (arith, equal)
