-- What is known of a reader and a writer after calls that gave and took nothing.
use Rattle.std.proofs.Common.{List, [], ◌++◌, ℕ, Option, Some, None, Result, Ok, Err, refl, sym, ap, ◌∙◌, append-nil}
use Rattle.std.specs.Io.KnownBytes.{Keeps, Appends, Consumes, ReadConsumes, WriteAppends}

pub Keeps-refl : (known : Option (List ℕ)) → Keeps known known
Keeps-refl None = tt
Keeps-refl (Some bytes) = refl

pub Keeps-then : (a b c : Option (List ℕ)) → Keeps a b → Keeps b c → Keeps a c
Keeps-then None b c one two = tt
Keeps-then (Some x) None c one two = absurd one
Keeps-then (Some x) (Some y) None one two = absurd two
Keeps-then (Some x) (Some y) (Some z) one two = two ∙ one

consumes : (a b c : Option (List ℕ)) (bytes : List ℕ) → Keeps a b → Consumes b c bytes → Consumes a c bytes
consumes None b c bytes one two = tt
consumes (Some x) None c bytes one two = absurd one
consumes (Some x) (Some y) None bytes one two = absurd two
consumes (Some x) (Some y) (Some z) bytes one two = sym one ∙ two

appends : (a b c : Option (List ℕ)) (bytes : List ℕ) → Keeps a b → Appends b c bytes → Appends a c bytes
appends None b c bytes one two = tt
appends (Some x) None c bytes one two = absurd one
appends (Some x) (Some y) None bytes one two = absurd two
appends (Some x) (Some y) (Some z) bytes one two = two ∙ ap (λ (l : List ℕ). l ++ bytes) one

pub ReadConsumes-after : {E : Type 0} (a b c : Option (List ℕ)) (r : Result ℕ E) (buf : List ℕ) → Keeps a b → ReadConsumes b c r buf → ReadConsumes a c r buf
ReadConsumes-after a b c (Ok n) buf one two = (consumes a b c _ one two.0, two.1)
ReadConsumes-after a b c (Err e) buf one two = Keeps-then a b c one two

pub WriteAppends-after : {E : Type 0} (a b c : Option (List ℕ)) (r : Result ℕ E) (buf : List ℕ) → Keeps a b → WriteAppends b c r buf → WriteAppends a c r buf
WriteAppends-after a b c (Ok n) buf one two = appends a b c _ one two
WriteAppends-after a b c (Err e) buf one two = Keeps-then a b c one two

-- to take nothing changes nothing
pub Keeps-none : (a b : Option (List ℕ)) → Appends a b [] → Keeps a b
Keeps-none None b none = tt
Keeps-none (Some x) None none = absurd none
Keeps-none (Some x) (Some y) none = none ∙ append-nil x
