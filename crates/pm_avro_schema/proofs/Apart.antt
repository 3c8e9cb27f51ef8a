-- Names that none of a record's fields has.
use Rattle.std.proofs.Common.{◌≡◌, List, [], ◌∷◌, ◌++◌, ℕ, Bool, false, ◌||◌, refl}
use Rattle.std.proofs.lemmas.Bool.{or_parts}
use Rattle.std.specs.List.{list_any}
use Rattle.std.specs.Str.{bytes_eq}
use Rattle.pm_avro_schema.specs.Avro.{Avro, Fields, no_fields, field}
use Rattle.pm_avro_schema.specs.Readable.{has_name}

-- no field has one of the names
abbrev pub Apart : List (List ℕ) → Fields → Type 0
Apart [] fs = Unit {0}
Apart (name ∷ before) fs = (has_name name fs ≡ false) × Apart before fs

-- a name is none of those before
abbrev pub IsNew : List ℕ → List (List ℕ) → Type 0
IsNew name before = list_any (λ other. bytes_eq other name) before ≡ false

or_false : (a b : Bool) → a ≡ false → b ≡ false → (a || b) ≡ false
or_false a b p q = rw (p, q)

pub Apart-none : (before : List (List ℕ)) → Apart before no_fields
Apart-none [] = tt
Apart-none (name ∷ before) = (refl, Apart-none before)

pub Apart-split : (before : List (List ℕ)) (name : List ℕ) (t : Avro) (fs : Fields) → Apart before (field name t fs) → IsNew name before × Apart before fs
Apart-split [] name t fs h = (refl, tt)
Apart-split (other ∷ before) name t fs h =
    let here = or_parts (bytes_eq other name) (has_name other fs) h.0 in
    let rest = Apart-split before name t fs h.1 in
    (or_false _ _ here.0 rest.0, (here.1, rest.1))

pub Apart-join : (before : List (List ℕ)) (name : List ℕ) (t : Avro) (fs : Fields) → IsNew name before → Apart before fs → Apart before (field name t fs)
Apart-join [] name t fs new h = tt
Apart-join (other ∷ before) name t fs new h =
    let here = or_parts (bytes_eq other name) (list_any (λ o. bytes_eq o name) before) new in
    (or_false _ _ here.0 h.0, Apart-join before name t fs here.1 h.1)

pub Apart-push : (before : List (List ℕ)) (name : List ℕ) (fs : Fields) → Apart before fs → has_name name fs ≡ false → Apart (before ++ name ∷ []) fs
Apart-push [] name fs h new = (new, tt)
Apart-push (other ∷ before) name fs h new = (h.0, Apart-push before name fs h.1 new)

pub Apart-unpush : (before : List (List ℕ)) (name : List ℕ) (fs : Fields) → Apart (before ++ name ∷ []) fs → Apart before fs × (has_name name fs ≡ false)
Apart-unpush [] name fs h = (tt, h.0)
Apart-unpush (other ∷ before) name fs h = let rest = Apart-unpush before name fs h.1 in ((h.0, rest.0), rest.1)
