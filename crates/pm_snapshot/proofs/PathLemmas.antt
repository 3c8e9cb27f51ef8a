-- The parts of the path of a file whose name a maker of names gives.
use Rattle.std.proofs.Common.{◌≡◌, ◌≢◌, ℕ, zero, suc, ◌<◌, ◌^◌, List, [], ◌∷◌, ◌++◌, drop, get_or, Bool, true, false, if◌then◌else◌, refl, sym, ap, subst, arith}
use Rattle.std.specs.Fmt.{decimal}
use Rattle.std.specs.List.{AllByRecursion}
use Rattle.std.specs.Str.Parse.{AllDigits}
use Rattle.std.proofs.lemmas.Bool.Decides.{nat_tests}
use Rattle.std.proofs.lemmas.Fmt.{decimal_is_IsNumeral}
use Rattle.std.proofs.lemmas.Str.Parse.{digit_from_value}
use Rattle.uuid.specs.Text.{by_index, digit_place, hex_digit, hyphen, hyphenated_text, is_hyphen_place, lower, nibble}
use Rattle.uuid.proofs.TextLemmas.{nibble_small}
use Rattle.pm_base.proofs.Laws.{AllByRecursion-append, AllByRecursion-parts}
use Rattle.pm_values.specs.Names.{Naming, name_of}
use Rattle.pm_snapshot.specs.Names.{BasedFile, manifest, manifest_list, rows_file, changelog_file, MayName, prefix_of, suffix_of}
use Rattle.pm_snapshot.proofs.BaseLemmas.{NameFacts, same_maker, same_kind}

-- ---- names have no slash

-- no byte is a slash
abbrev NoSlash : List ℕ → Type 0
NoSlash bytes = AllByRecursion (λ b. b ≢ 47) bytes

digits-plain : (bytes : List ℕ) → AllDigits 10 bytes → NoSlash bytes
digits-plain [] all = tt
digits-plain (b ∷ bytes) all = ((λ e. omega (arith, digit_from_value b all.0)), digits-plain bytes all.1)

decimal-plain : (n : ℕ) → n < 2 ^ 64 → NoSlash (decimal n)
decimal-plain n small = digits-plain (decimal n) (decimal_is_IsNumeral n small).0.1

hex-plain : (d : ℕ) → d < 16 → hex_digit lower d ≢ 47
hex-plain d small e = grind (arith, nat_tests)

if-plain : (t : Bool) (x y : ℕ) → x ≢ 47 → y ≢ 47 → (if t then x else y) ≢ 47
if-plain true x y p q = p
if-plain false x y p q = q

places-plain : (n : ℕ) (f : ℕ → ℕ) → ((k : ℕ) → f k ≢ 47) → NoSlash (by_index n f)
unfolding by_index
places-plain zero f plain = tt
places-plain (suc n) f plain = AllByRecursion-append (λ b. b ≢ 47) (by_index n f) (f n ∷ []) (places-plain n f plain) (plain n, tt)

session-plain : (session : List ℕ) → NoSlash (hyphenated_text lower session)
session-plain session =
    places-plain 36 (λ k. if is_hyphen_place k then hyphen else hex_digit lower (nibble session (digit_place k)))
    (λ k. if-plain (is_hyphen_place k) hyphen _ (λ e. omega (arith, e)) (hex-plain (nibble session (digit_place k)) (nibble_small session (digit_place k))))

file-plain : (file : BasedFile) → NoSlash (prefix_of file) × NoSlash (suffix_of file)
file-plain manifest = (grind arith, tt)
file-plain manifest_list = (grind arith, tt)
file-plain rows_file = (grind arith, grind arith)
file-plain changelog_file = (grind arith, grind arith)

name-plain : (file : BasedFile) (m : Naming) → MayName m → NoSlash (name_of (prefix_of file) (suffix_of file) m)
name-plain file m may =
    let plain : ℕ → Type 0 = λ b. b ≢ 47 in
    let is = may.is_maker in
    let sides = file-plain file in
    let ends = AllByRecursion-append plain (decimal m.count) (suffix_of file) (decimal-plain m.count is.count_bits) sides.1 in
    let based = AllByRecursion-append plain (decimal m.base) (hyphen ∷ (decimal m.count ++ suffix_of file)) (decimal-plain m.base is.base_bits) ((λ e. omega (arith, e)), ends) in
    let acted = AllByRecursion-append plain (decimal m.actor) (hyphen ∷ (decimal m.base ++ hyphen ∷ (decimal m.count ++ suffix_of file))) (decimal-plain m.actor is.actor_bits) ((λ e. omega (arith, e)), based) in
    let named = AllByRecursion-append plain (hyphenated_text lower m.session) (hyphen ∷ (decimal m.actor ++ hyphen ∷ (decimal m.base ++ hyphen ∷ (decimal m.count ++ suffix_of file)))) (session-plain m.session) ((λ e. omega (arith, e)), acted) in
    AllByRecursion-append plain (prefix_of file) _ sides.0 named

-- ---- the last slash of a path

no-slash : (x b y : List ℕ) → NoSlash x → x ≢ b ++ 47 ∷ y
no-slash x b y plain e =
    let all = AllByRecursion-parts (λ b. b ≢ 47) b (47 ∷ y) (subst NoSlash e plain) in
    all.1.0 refl

last-slash : (a b x y : List ℕ) → NoSlash x → NoSlash y → a ++ 47 ∷ x ≡ b ++ 47 ∷ y → (a ≡ b) × (x ≡ y)
last-slash [] [] x y p q e = (refl, ap (drop 1) e)
last-slash [] (c ∷ b) x y p q e = absurd (no-slash x b y p (ap (drop 1) e))
last-slash (c ∷ a) [] x y p q e = absurd (no-slash y a x q (sym (ap (drop 1) e)))
last-slash (c ∷ a) (d ∷ b) x y p q e =
    let more = last-slash a b x y p q (ap (drop 1) e) in
    let first : c ≡ d = ap (λ (l : List ℕ). get_or l 0 0) e in
    ((λ i. first i ∷ more.0 i), more.1)

pub path-parts : NameFacts → (folder other : List ℕ) (file more : BasedFile) (m n : Naming) → MayName m → MayName n
    → folder ++ 47 ∷ name_of (prefix_of file) (suffix_of file) m ≡ other ++ 47 ∷ name_of (prefix_of more) (suffix_of more) n
    → (folder ≡ other) × (file ≡ more) × (m ≡ n)
path-parts facts folder other file more m n p q e =
    let parts = last-slash folder other _ _ (name-plain file m p) (name-plain more n q) e in
    (parts.0, same_kind file more m n facts parts.1, same_maker file more m n facts p.is_maker q.is_maker parts.1)
