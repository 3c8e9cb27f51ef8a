-- Words are the options of one list at most.
use Rattle.std.proofs.Common.{◌≡◌, ◌⊎◌, inl, inr, ℕ, ◌==◌, ◌||◌, false, true≢false, List, [], ◌∷◌, ◌++◌, codes, Option, None, Some, refl, sym, ap, ap₂, subst, ◌∙◌, append-nil, arith}
use Rattle.std.specs.List.{list_any}
use Rattle.pm_words.specs.Words.{AreOptions, AreWordsOf, CommandOption, HasNoEquals, after_equals, begins_with_hyphen}

-- the first word begins with no hyphen
abbrev BeginsPlain : List (List ℕ) → Type 0
BeginsPlain [] = ⊥
BeginsPlain (word ∷ words) = begins_with_hyphen word ≡ false

-- ---- one word

-- a name and its value are told apart by the first `=`
split_once : (n m : List ℕ) (v w : Option (List ℕ)) → HasNoEquals n → HasNoEquals m → n ++ after_equals v ≡ m ++ after_equals w → (n ≡ m) × (v ≡ w)
split_once [] [] None None p q same = (refl, refl)
split_once [] [] (Some v) (Some w) p q same = (refl, cc)
split_once [] [] None (Some w) p q same = absurd cc
split_once [] [] (Some v) None p q same = absurd cc
split_once [] (y ∷ m) None w p q same = absurd cc
split_once [] (y ∷ m) (Some v) w p q same =
    let is : 61 ≡ y = cc in
    absurd (true≢false (subst (λ x. (x == 61) || list_any (λ byte. byte == 61) m ≡ false) (sym is) q))
split_once (x ∷ n) [] v None p q same = absurd cc
split_once (x ∷ n) [] v (Some w) p q same =
    let is : 61 ≡ x = cc in
    absurd (true≢false (subst (λ y. (y == 61) || list_any (λ byte. byte == 61) n ≡ false) (sym is) p))
split_once (x ∷ n) (y ∷ m) v w p q same =
    let head : x ≡ y = cc in
    let tail : n ++ after_equals v ≡ m ++ after_equals w = cc in
    let first : HasNoEquals n = grind (arith, p) in
    let second : HasNoEquals m = grind (arith, q) in
    let rest = split_once n m v w first second tail in
    (cc, rest.1)

-- ---- one option

named : (a b : CommandOption) → a.name ≡ b.name → a.value ≡ b.value → a ≡ b
named a b name value = ap₂ (λ (n : List ℕ) (v : Option (List ℕ)). record { name = n; value = v }) name value

-- a first word with this text after `--` is that of the option, and it and the words after it are followed by these
abbrev Opens : CommandOption → List ℕ → List (List ℕ) → List (List ℕ) → Type 0
Opens option text later rest = HasNoEquals option.name
    × (((text ≡ option.name ++ after_equals option.value) × (later ≡ rest))
    ⊎ ((value : List ℕ) × (option.value ≡ Some value) × (begins_with_hyphen value ≡ false) × (text ≡ option.name) × (later ≡ value ∷ rest)))

opens : (option : CommandOption) (own words rest : List (List ℕ)) → AreWordsOf option own → words ≡ own ++ rest
    → (text : List ℕ) × (later : List (List ℕ)) × (words ≡ (codes "--" ++ text) ∷ later) × Opens option text later rest
opens option own words rest are is = elim are.1 as (λ _. (text : List ℕ) × (later : List (List ℕ)) × (words ≡ (codes "--" ++ text) ∷ later) × Opens option text later rest) [
  | inl one ↦ (option.name ++ after_equals option.value, rest, is ∙ ap (λ ws. ws ++ rest) one, (are.0, inl (refl, refl)))
  | inr apart ↦ (option.name, apart.0 ∷ rest, is ∙ ap (λ ws. ws ++ rest) apart.3, (are.0, inr (apart.0, apart.1, apart.2, refl, refl)))
]

-- no plain word begins words that are options
not_plain : (options : List CommandOption) (words : List (List ℕ)) → AreOptions options words → BeginsPlain words → ⊥
not_plain [] words are plain = subst BeginsPlain are plain
not_plain (option ∷ options) words are plain =
    let open_ = opens option are.0 words are.1 are.3 are.2 in
    let is : begins_with_hyphen (codes "--" ++ open_.0) ≡ false = subst BeginsPlain open_.2 plain in
    true≢false is

-- an option's value that ends its first word, where none else may
no_value : (name other : List ℕ) (value : Option (List ℕ)) → HasNoEquals name → HasNoEquals other → other ≡ name ++ after_equals value → (other ≡ name) × (value ≡ None)
no_value name other value p q same =
    let both = split_once name other value None p q (sym same ∙ sym (append-nil other)) in
    (sym both.0, both.1)

-- the same words open one option
same_option : (a b : CommandOption) (text : List ℕ) (later rest more : List (List ℕ)) → Opens a text later rest → Opens b text later more
    → (a.value ≡ None → BeginsPlain rest → ⊥) → (b.value ≡ None → BeginsPlain more → ⊥) → (a ≡ b) × (rest ≡ more)
same_option a b text later rest more one other first second = elim one.1 as (λ _. (a ≡ b) × (rest ≡ more)) [
  | inl x ↦ elim other.1 as (λ _. (a ≡ b) × (rest ≡ more)) [
    | inl y ↦
        let both = split_once a.name b.name a.value b.value one.0 other.0 (sym x.0 ∙ y.0) in
        (named a b both.0 both.1, sym x.1 ∙ y.1)
    | inr y ↦
        let both = no_value a.name text a.value one.0 (subst HasNoEquals (sym y.3) other.0) x.0 in
        absurd (first both.1 (subst BeginsPlain (sym y.4 ∙ x.1) y.2))
  ]
  | inr x ↦ elim other.1 as (λ _. (a ≡ b) × (rest ≡ more)) [
    | inl y ↦
        let both = no_value b.name text b.value other.0 (subst HasNoEquals (sym x.3) one.0) y.0 in
        absurd (second both.1 (subst BeginsPlain (sym x.4 ∙ y.1) x.2))
    | inr y ↦
        let heads : x.0 ≡ y.0 = cc in
        let tails : rest ≡ more = cc in
        (named a b (sym x.3 ∙ y.3) (x.1 ∙ ap Some heads ∙ sym y.1), tails)
  ]
]

-- ---- all options

-- the words are the options of one list
pub one_list : (a b : List CommandOption) (words : List (List ℕ)) → AreOptions a words → AreOptions b words → a ≡ b
one_list [] [] words one other = refl
one_list [] (y ∷ b) words one other =
    let open_ = opens y other.0 words other.1 other.3 other.2 in
    absurd cc
one_list (x ∷ a) [] words one other =
    let open_ = opens x one.0 words one.1 one.3 one.2 in
    absurd cc
one_list (x ∷ a) (y ∷ b) words one other =
    let first = opens x one.0 words one.1 one.3 one.2 in
    let second = opens y other.0 words other.1 other.3 other.2 in
    let both : (codes "--" ++ first.0) ∷ first.1 ≡ (codes "--" ++ second.0) ∷ second.1 = sym first.2 ∙ second.2 in
    let texts : first.0 ≡ second.0 = cc in
    let laters : first.1 ≡ second.1 = cc in
    let moved : Opens y first.0 first.1 other.1 = subst (λ text. Opens y text first.1 other.1) (sym texts) (subst (λ later. Opens y second.0 later other.1) (sym laters) second.3) in
    let same = same_option x y first.0 first.1 one.1 other.1 first.3 moved (λ _. not_plain a one.1 one.4) (λ _. not_plain b other.1 other.4) in
    let rest : a ≡ b = one_list a b one.1 one.4 (subst (AreOptions b) (sym same.1) other.4) in
    cc
