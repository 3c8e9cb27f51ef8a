-- What the steps of reading answer where they answer a value.
use Rattle.std.proofs.Common.{◌≡◌, ℕ, ◌≤◌, List, Bool, true, false, cond, nat_lt, codes, Result, Ok, Err, refl}
use Rattle.std.proofs.lemmas.Bool.{ltb-false}
use Rattle.pm_avro_schema.specs.Avro.{Avro, array_of}
use Rattle.pm_base.specs.Outcome.{◌>>=◌}
use Rattle.pm_base.proofs.Laws.{step_ok}
use Rattle.pm_avro_schema.specs.Readable.{max_around}
use Rattle.pm_avro_schema.specs.Reading.{bad, unsupported, nested}
use Rattle.pm_avro_schema.specs.declared.fault.AvroFault.{AvroFault}

pub refused : {A : Type 0} (P : Type 0) (e : AvroFault) (x : A) → Err e ≡ Ok x → P
refused P e x h = absurd cc

shallow_ok : {A : Type 0} (b : Bool) (inner : Result A AvroFault) (x : A) → cond b (unsupported (codes "nesting")) inner ≡ Ok x → (b ≡ false) × (inner ≡ Ok x)
shallow_ok true inner x h = refused _ _ x h
shallow_ok false inner x h = (refl, h)

pub nested_ok : {A : Type 0} (n : ℕ) (inner : Result A AvroFault) (x : A) → nested n inner ≡ Ok x → (n ≤ max_around) × (inner ≡ Ok x)
nested_ok n inner x h = let parts = shallow_ok (nat_lt max_around n) inner x h in (ltb-false max_around n parts.0, parts.1)

pub array_with_ok : (b : Bool) (s t : Avro) → cond b (unsupported (codes "empty item")) (Ok (array_of s)) ≡ Ok t → (b ≡ false) × (array_of s ≡ t)
array_with_ok true s t h = cc
array_with_ok false s t h = (refl, cc)

pub field_new : (b : Bool) (name : List ℕ) (kind : Result Avro AvroFault) (f : List ℕ × Avro) → cond b bad (kind >>= λ t. Ok (name, t)) ≡ Ok f → (b ≡ false) × (t : Avro) × (kind ≡ Ok t) × ((name, t) ≡ f)
field_new true name kind f h = refused _ _ f h
field_new false name kind f h = let found = step_ok kind (λ t. Ok (name, t)) f h in (refl, found.0, found.1, let whole = found.2 in cc)
