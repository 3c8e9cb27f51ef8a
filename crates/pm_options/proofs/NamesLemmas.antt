-- Lists of names: written and read.
use Rattle.std.proofs.Common.{◌≡◌, ◌≢◌, ℕ, Bool, true, false, cond, ◌==◌, List, [], ◌∷◌, refl, ap, ◌∙◌}
use Rattle.std.proofs.lemmas.Bool.{or_from, or_parts}
use Rattle.std.proofs.lemmas.List.Elements.{All-from_recursion}
use Rattle.std.proofs.lemmas.List.Splits.{slice_split_at, slice_split_none}
use Rattle.std.specs.List.{All, AllByRecursion, onto_first}
use Rattle.pm_options.specs.Fields.{has_comma, names_in}
use Rattle.pm_options.specs.Written.{list_text}

-- the byte is a comma
abbrev is_comma : ℕ → Bool
is_comma b = b == 44

-- no byte of a text without commas is one
bytes_plain : (text : List ℕ) → has_comma text ≡ false → AllByRecursion (λ b. is_comma b ≡ false) text
bytes_plain [] plain = tt
bytes_plain (b ∷ bs) plain = let parts = or_parts (b == 44) (has_comma bs) plain in (parts.0, bytes_plain bs parts.1)

-- the same by index
all_plain : (text : List ℕ) → has_comma text ≡ false → All (λ b. is_comma b ≡ false) text
all_plain text plain = All-from_recursion (λ b. is_comma b ≡ false) text (bytes_plain text plain)

-- names without commas are read from their list
pub names_again : (names : List (List ℕ)) → names ≢ [] → AllByRecursion (λ name. has_comma name ≡ false) names
    → names_in (list_text names) ≡ names
names_again [] some all = absurd (some refl)
names_again (x ∷ []) some all = slice_split_none is_comma x (all_plain x all.0)
names_again (x ∷ y ∷ names) some all =
    slice_split_at is_comma x 44 (list_text (y ∷ names)) (all_plain x all.0) refl
    ∙ ap (λ more. x ∷ more) (names_again (y ∷ names) (λ is. cc) all.1)

-- a list is read as one name or more, none of which has a comma
abbrev IsList : List (List ℕ) → Type 0
IsList names = (names ≢ []) × AllByRecursion (λ name. has_comma name ≡ false) names

-- a byte before the first name
first_is : (b : ℕ) (parts : List (List ℕ)) → (b == 44) ≡ false → IsList parts → IsList (onto_first b parts)
first_is b [] plain is = (λ e. cc, (or_from (b == 44) false plain refl, tt))
first_is b (part ∷ parts) plain is = (λ e. cc, (or_from (b == 44) (has_comma part) plain is.1.0, is.1.1))

-- a comma, or a byte of the first name
split_is : (c : Bool) (b : ℕ) (parts : List (List ℕ)) → (b == 44) ≡ c → IsList parts
    → IsList (cond c ([] ∷ parts) (onto_first b parts))
split_is true b parts comma is = (λ e. cc, (refl, is.1))
split_is false b parts comma is = first_is b parts comma is

-- of a list that is read
pub names_in-is : (text : List ℕ)
    → (names_in text ≢ []) × AllByRecursion (λ name. has_comma name ≡ false) (names_in text)
names_in-is [] = (λ e. cc, (refl, tt))
names_in-is (b ∷ text) = split_is (b == 44) b (names_in text) refl (names_in-is text)
