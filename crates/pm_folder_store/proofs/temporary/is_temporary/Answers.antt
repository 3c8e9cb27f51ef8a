use Rattle.std.proofs.Common.{◌≡◌, ◌<◌, ◌^◌, ℕ, List, Result, Ok, true, arith, sym, ap, ◌∙◌}
use Rattle.std.specs.Fmt.{decimal}
use Rattle.std.specs.Str.Parse.{ParsesUnsigned}
use Rattle.std.proofs.lemmas.Fmt.{parse-decimal}
use Rattle.std.proofs.lemmas.Slice.Eq.{bytes_eq-Decides}
use Rattle.pm_folder_store.specs.Temporary.{IsTemporary}
use Rattle.pm_folder_store.proofs.temporary.is_temporary.Goals as goal

-- a temporary name is read as its number
read : {E : Type 0} (name : List ℕ) (parsed : Result ℕ E) → ParsesUnsigned 32 10 name parsed → (is : IsTemporary name) → parsed ≡ Ok is.0
read name parsed parses is =
    let narrow : is.0 < 2 ^ 32 = omega (arith, is.1) in
    let small : is.0 < 2 ^ 64 = omega (arith, is.1) in
    parse-decimal 32 is.0 name parsed narrow small is.2 parses

pub returns-in_ok-printed-in-Ok : goal.returns-in_ok-printed-in-Ok
returns-in_ok-printed-in-Ok c =
    let n = c.in-Ok.n in
    let printed : c.as_str.result.now ≡ decimal n = c.as_str.ensures.value ∙ c.in_ok-printed-in-Ok.ensures in
    let equal = bytes_eq-Decides c.as_str.result.now c.args.name.now in
    let same : c.eq.result ≡ true → c.as_str.result.now ≡ c.args.name.now = λ t. equal.0 (sym c.eq.ensures ∙ t) in (
      λ t. (n, omega (arith, c.if-n-lt-TEMPORARY_NAMES.true), sym (same t) ∙ printed),
      λ is.
          let is_read = read c.args.name.now c.parse.result c.parse.ensures.value.0 is in
          let one : n ≡ is.0 = cc in
          c.eq.ensures ∙ equal.1 (printed ∙ ap decimal one ∙ sym is.2),
    )

pub returns-in_default : goal.returns-in_default
returns-in_default c = (
  λ t. cc,
  λ is.
      let is_read = read c.args.name.now c.parse.result c.parse.ensures.value.0 is in
      let one : c.in-Ok.n ≡ is.0 = cc in
      grind (arith, is.1, one, c.if-n-lt-TEMPORARY_NAMES.false),
)

pub returns-in_default-2 : goal.returns-in_default-2
returns-in_default-2 c = (λ t. cc, λ is. let is_read = read c.args.name.now c.parse.result c.parse.ensures.value.0 is in cc)
