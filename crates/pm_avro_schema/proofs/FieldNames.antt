-- The names of fields, with one more.
use Rattle.std.proofs.Common.{◌≡◌, ℕ, List, [], ◌∷◌, ◌++◌, Bool, true, false, ◌||◌}
use Rattle.std.proofs.Common.{cond, String, Global, string_bytes, refl, sym, ap, ◌∙◌}
use Rattle.std.proofs.lemmas.List.{map-append}
use Rattle.std.specs.BTreeSet.{BTreeSet, contains_text}
use Rattle.std.specs.List.{list_any}
use Rattle.std.specs.Str.{bytes_eq}
use Rattle.pm_avro_schema.specs.FieldList.{NamedTypes, name_of, names, AreNames}
use Rattle.pm_avro_schema.specs.declared.kind.AvroType.{AvroType}

alone : (b : Bool) → (b || false) ≡ cond b true false
alone true = refl
alone false = refl

either_first : (a b rest : Bool) → (a || cond b true rest) ≡ cond b true (a || rest)
either_first true true rest = refl
either_first true false rest = refl
either_first false b rest = refl

list_any-push : (test : List ℕ → Bool) (xs : List (List ℕ)) (y : List ℕ) → list_any test (xs ++ y ∷ []) ≡ cond (test y) true (list_any test xs)
list_any-push test [] y = alone (test y)
list_any-push test (x ∷ xs) y = ap (λ b. test x || b) (list_any-push test xs y) ∙ either_first (test x) (test y) (list_any test xs)

-- a set to which the name of a field was added has the names with that field at the end
pub AreNames-push : (set new : BTreeSet (String Global)) (fs : NamedTypes) (f : List ℕ × AvroType) (key : String Global) → AreNames set fs → string_bytes key ≡ f.0
    → ((name : List ℕ) → contains_text new name ≡ cond (bytes_eq (string_bytes key) name) true (contains_text set name)) → AreNames new (fs ++ f ∷ [])
AreNames-push set new fs f key are is added = λ name.
    added name ∙ ap (λ b. cond (bytes_eq (string_bytes key) name) true b) (are name) ∙ ap (λ k. cond (bytes_eq k name) true (list_any (λ other. bytes_eq other name) (names fs))) is
    ∙ sym (list_any-push (λ other. bytes_eq other name) (names fs) f.0) ∙ ap (list_any (λ other. bytes_eq other name)) (sym (map-append name_of fs (f ∷ [])))
