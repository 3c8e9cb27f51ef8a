-- No name has two bases.
use Rattle.std.proofs.Common.{◌≡◌, ◌≢◌, ℕ, List, [], ◌∷◌, ◌++◌, false, codes, get_or, refl, sym, ap, ◌∙◌, arith}
use Rattle.uuid.specs.Text.{is_hex_digit}
use Rattle.pm_values.specs.Names.{Naming, IsNaming, name_of}
use Rattle.pm_snapshot.specs.Names.{HasBase, BasedFile, manifest, manifest_list, rows_file, changelog_file, prefix_of, suffix_of}

-- what holds of all names
pub record NameFacts : Type 0 where
  pub one : (prefix suffix : List ℕ) (m n : Naming) → IsNaming m → IsNaming n
      → name_of prefix suffix m ≡ name_of prefix suffix n → m ≡ n
  pub longer : (prefix more s t : List ℕ) (b : ℕ) (m n : Naming) → is_hex_digit b ≡ false
      → name_of prefix s m ≢ name_of (prefix ++ b ∷ more) t n

-- the first byte of a name
abbrev first : List ℕ → ℕ
first name = get_or name 0 0

-- equal names are those of the same kind of file
pub same_kind : (f g : BasedFile) (m n : Naming) → NameFacts → name_of (prefix_of f) (suffix_of f) m ≡ name_of (prefix_of g) (suffix_of g) n
    → f ≡ g
same_kind manifest manifest m n facts is = refl
same_kind manifest_list manifest_list m n facts is = refl
same_kind rows_file rows_file m n facts is = refl
same_kind changelog_file changelog_file m n facts is = refl
same_kind manifest manifest_list m n facts is = absurd (facts.longer (codes "manifest-") (codes "ist-") [] [] 108 m n refl is)
same_kind manifest_list manifest m n facts is = absurd (facts.longer (codes "manifest-") (codes "ist-") [] [] 108 n m refl (sym is))
same_kind manifest rows_file m n facts is = absurd (let e : 109 ≡ 100 = ap first is in omega arith)
same_kind manifest changelog_file m n facts is = absurd (let e : 109 ≡ 99 = ap first is in omega arith)
same_kind manifest_list rows_file m n facts is = absurd (let e : 109 ≡ 100 = ap first is in omega arith)
same_kind manifest_list changelog_file m n facts is = absurd (let e : 109 ≡ 99 = ap first is in omega arith)
same_kind rows_file manifest m n facts is = absurd (let e : 100 ≡ 109 = ap first is in omega arith)
same_kind rows_file manifest_list m n facts is = absurd (let e : 100 ≡ 109 = ap first is in omega arith)
same_kind rows_file changelog_file m n facts is = absurd (let e : 100 ≡ 99 = ap first is in omega arith)
same_kind changelog_file manifest m n facts is = absurd (let e : 99 ≡ 109 = ap first is in omega arith)
same_kind changelog_file manifest_list m n facts is = absurd (let e : 99 ≡ 109 = ap first is in omega arith)
same_kind changelog_file rows_file m n facts is = absurd (let e : 99 ≡ 100 = ap first is in omega arith)

-- and of the same maker, with the same count
pub same_maker : (f g : BasedFile) (m n : Naming) → NameFacts → IsNaming m → IsNaming n
    → name_of (prefix_of f) (suffix_of f) m ≡ name_of (prefix_of g) (suffix_of g) n → m ≡ n
same_maker f g m n facts p q is =
    facts.one (prefix_of g) (suffix_of g) m n p q
    (ap (λ (kind : BasedFile). name_of (prefix_of kind) (suffix_of kind) m) (sym (same_kind f g m n facts is)) ∙ is)

pub one_base : NameFacts → (name : List ℕ) (a b : ℕ) → HasBase name a → HasBase name b → a ≡ b
one_base facts name a b g h =
    let same = same_maker g.file h.file g.named.maker h.named.maker facts g.named.may.is_maker h.named.may.is_maker
    (sym g.named.is ∙ h.named.is) in
    sym g.named.bears ∙ ap (λ (m : Naming). m.base) same ∙ h.named.bears
