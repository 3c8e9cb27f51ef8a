-- Names of snapshots and floors, against what is read from them.
use Rattle.std.proofs.Common.{◌≡◌, ℕ, ◌<◌, ◌≤◌, ◌^◌, Bool, true, false, cond, nat_le, List, ◌++◌, length, take, drop, Option, Some, None, option_and_then, refl, sym, ap, subst, ◌∙◌, arith}
use Rattle.std.specs.Fmt.{decimal}
use Rattle.std.specs.Str.{bytes_eq}
use Rattle.std.proofs.lemmas.Bool.Decides.{nat_tests}
use Rattle.std.proofs.lemmas.Fmt.{decimal_injective}
use Rattle.std.proofs.lemmas.List.{append_cancel_left, take_at, drop_at, take-append-drop}
use Rattle.std.proofs.lemmas.Slice.Eq.{bytes_eq-Decides}
use Rattle.pm_snapshot.proofs.Decimals.{naturals}
use Rattle.pm_snapshot.specs.Decimal.{natural_in}
use Rattle.pm_snapshot.specs.Names.{greatest, if_within, number_in, number_after}

within : (n : ℕ) → n ≤ greatest → nat_le n greatest ≡ true
within n h = grind (arith, nat_tests)

if_within-some : (b : Bool) (n m : ℕ) → cond b (Some n) None ≡ Some m → (b ≡ true) × (n ≡ m)
if_within-some true n m is = (refl, cc)
if_within-some false n m is = cc

pub number_in-found : (text : List ℕ) (n : ℕ) → n ≤ greatest → text ≡ decimal n → number_in text ≡ Some n
number_in-found text n small is = ap (option_and_then if_within) (naturals.found text n (omega arith) is)
    ∙ rw (within n small) refl

number_in-at : (o : Option ℕ) (n : ℕ) → option_and_then if_within o ≡ Some n → (o ≡ Some n) × (n ≤ greatest)
number_in-at None n is = cc
number_in-at (Some m) n is =
    let parts = if_within-some (nat_le m greatest) m n is in
    let small : m ≤ greatest = (let test = parts.0 in grind (arith, nat_tests)) in
    (ap Some parts.1, subst (λ k. k ≤ greatest) parts.1 small)

pub number_in-some : (text : List ℕ) (n : ℕ) → number_in text ≡ Some n → (n ≤ greatest) × (text ≡ decimal n)
number_in-some text n is =
    let parts = number_in-at (natural_in text) n is in
    (parts.1, (naturals.some text n parts.0).1)

either_some : (b : Bool) (o : Option ℕ) (n : ℕ) → cond b o None ≡ Some n → (b ≡ true) × (o ≡ Some n)
either_some true o n is = (refl, is)
either_some false o n is = cc

pub number_after-some : (prefix name : List ℕ) (n : ℕ) → number_after prefix name ≡ Some n
    → (n ≤ greatest) × (name ≡ prefix ++ decimal n)
number_after-some prefix name n is =
    let k = length prefix in
    let parts = either_some (bytes_eq (take k name) prefix) (number_in (drop k name)) n is in
    let start : take k name ≡ prefix = (bytes_eq-Decides (take k name) prefix).0 parts.0 in
    let number = number_in-some (drop k name) n parts.1 in
    (number.0, sym (take-append-drop k name) ∙ ap (λ xs. xs ++ drop k name) start ∙ ap (λ ys. prefix ++ ys) number.1)

pub number_after-found : (prefix name : List ℕ) (n : ℕ) → n ≤ greatest → name ≡ prefix ++ decimal n
    → number_after prefix name ≡ Some n
number_after-found prefix name n small is =
    let k = length prefix in
    let start : take k name ≡ prefix = ap (take k) is ∙ take_at prefix (decimal n) k refl in
    let back : drop k name ≡ decimal n = ap (drop k) is ∙ drop_at prefix (decimal n) k refl in
    let test : bytes_eq (take k name) prefix ≡ true = (bytes_eq-Decides (take k name) prefix).1 start in
    rw test (number_in-found (drop k name) n small back)

pub prefixed-injective : (prefix : List ℕ) (m n : ℕ) → m < 2 ^ 64 → n < 2 ^ 64
    → prefix ++ decimal m ≡ prefix ++ decimal n → m ≡ n
prefixed-injective prefix m n p q is = decimal_injective m n p q (append_cancel_left prefix (decimal m) (decimal n) is)
