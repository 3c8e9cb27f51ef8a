-- The parts of a name, known from its text.
use Rattle.std.proofs.Common.{◌≡◌, true≢false, true, false, ℕ, suc, ◌+◌, ◌-◌, ◌<◌, ◌≤◌, ◌^◌, List, [], ◌∷◌, ◌++◌, length, take, drop, get_or, Option, Some, None, IfSome, IfNone, codes, refl, sym, ap, subst, ◌∙◌, arith, append_assoc, length-append}
use Rattle.std.specs.Fmt.{decimal}
use Rattle.std.proofs.lemmas.Fmt.{decimal_is_IsNumeral}
use Rattle.std.proofs.lemmas.List.{append_cancel_left, append_cancel_right, take_at, drop_at, take-append-drop}
use Rattle.std.proofs.lemmas.Slice.Eq.{bytes_eq-Decides}
use Rattle.std.proofs.lemmas.Str.Parse.{digit_at}
use Rattle.std.specs.Str.{bytes_eq}
use Rattle.std.proofs.Math.Seq.{get_or-append_seam}
use Rattle.uuid.specs.Text.{hyphenated_text, hyphen, lower}
use Rattle.uuid.proofs.TextLemmas.{by_index_length}
use Rattle.pm_values.specs.Names.{Naming, name_of}
use Rattle.pm_snapshot.proofs.Decimals.{naturals}
use Rattle.pm_snapshot.proofs.NameLemmas.{number_in-found, number_in-some}
use Rattle.pm_snapshot.specs.Decimal.{natural_in}
use Rattle.pm_snapshot.specs.Names.{number_in, MayName, IsNamed, HasBase, BasedFile, manifest, manifest_list, rows_file, changelog_file, prefix_of, suffix_of}
use Rattle.pm_snapshot.specs.Parts.{IsUncut, IsCut, IsCounted, IsMade, IsIdentifier, IsMiddle}

-- a text is cut in one way
pub cut_once : (xs ys r s : List ℕ) → IsUncut xs → IsUncut ys → xs ++ hyphen ∷ r ≡ ys ++ hyphen ∷ s
    → (xs ≡ ys) × (r ≡ s)
cut_once [] [] r s p q e = (refl, ap (drop 1) e)
cut_once [] (y ∷ ys) r s p q e = absurd (q 0 (omega arith) (sym (ap (λ (l : List ℕ). get_or l 0 0) e)))
cut_once (x ∷ xs) [] r s p q e = absurd (p 0 (omega arith) (ap (λ (l : List ℕ). get_or l 0 0) e))
cut_once (x ∷ xs) (y ∷ ys) r s p q e =
    let more = cut_once xs ys r s (λ k h. p (suc k) (omega arith)) (λ k h. q (suc k) (omega arith)) (ap (drop 1) e) in
    let first : x ≡ y = ap (λ (l : List ℕ). get_or l 0 0) e in
    (λ i. first i ∷ more.0 i, more.1)

-- a text with a hyphen can be cut
pub uncut_joined : (text before after : List ℕ) → IsUncut text → text ≡ before ++ hyphen ∷ after → ⊥
uncut_joined text before after uncut is =
    let all = subst IsUncut is uncut in
    let long = length-append before (hyphen ∷ after) in
    all (length before) (omega arith) (get_or-append_seam before hyphen after 0)

pub decimal_uncut : (n : ℕ) → n < 2 ^ 64 → IsUncut (decimal n)
decimal_uncut n small = λ k h is. let range = digit_at (decimal n) k (decimal_is_IsNumeral n small).0.1 h in omega arith

-- ---- a base and a count

counted_parts : (text before after : List ℕ) → IsCut text before after → (base : ℕ) (h : IsCounted text base)
    → (before ≡ decimal base) × (after ≡ decimal h.count)
counted_parts text before after cut base h =
    let small = h.base_within in
    cut_once before (decimal base) after (decimal h.count) cut.uncut (decimal_uncut base (omega arith))
    (sym cut.joined ∙ h.is)

pub counted_uncut : (text : List ℕ) → IsUncut text → (base : ℕ) → IsCounted text base → ⊥
counted_uncut text uncut base h = uncut_joined text (decimal base) (decimal h.count) uncut h.is

pub counted_without_count : (text before after : List ℕ) → IsCut text before after → natural_in after ≡ None
    → (base : ℕ) → IsCounted text base → ⊥
counted_without_count text before after cut none base h =
    let parts = counted_parts text before after cut base h in
    let found = naturals.found after h.count h.count_bits parts.1 in
    cc

pub counted_found : (o : Option ℕ) (text before after : List ℕ) (count : ℕ) → IsCut text before after
    → natural_in after ≡ Some count → o ≡ number_in before → IfSome o (IsCounted text)
counted_found None text before after count cut counts is = tt
counted_found (Some base) text before after count cut counts is =
    let number = number_in-some before base (sym is) in
    let natural = naturals.some after count counts in
    record {
      count = count;
      base_within = number.0;
      count_bits = natural.0;
      is = cut.joined ∙ (λ i. number.1 i ++ hyphen ∷ natural.1 i);
    }

pub counted_other : (o : Option ℕ) (text before after : List ℕ) → IsCut text before after → o ≡ number_in before
    → IfNone o ((base : ℕ) → IsCounted text base → ⊥)
counted_other None text before after cut is =
    λ base h.
    let parts = counted_parts text before after cut base h in
    let found = number_in-found before base h.base_within parts.0 in
    cc
counted_other (Some base) text before after cut is = tt

-- ---- an actor, a base and a count

made_parts : (text before after : List ℕ) → IsCut text before after → (base : ℕ) (h : IsMade text base)
    → (before ≡ decimal h.actor) × (after ≡ h.counted)
made_parts text before after cut base h =
    let small = h.actor_within in
    cut_once before (decimal h.actor) after h.counted cut.uncut (decimal_uncut h.actor (omega arith))
    (sym cut.joined ∙ h.is)

pub made_uncut : (text : List ℕ) → IsUncut text → (base : ℕ) → IsMade text base → ⊥
made_uncut text uncut base h = uncut_joined text (decimal h.actor) h.counted uncut h.is

pub made_without_actor : (text before after : List ℕ) → IsCut text before after → number_in before ≡ None
    → (base : ℕ) → IsMade text base → ⊥
made_without_actor text before after cut none base h =
    let parts = made_parts text before after cut base h in
    let found = number_in-found before h.actor h.actor_within parts.0 in
    cc

pub made_found : (o : Option ℕ) (text before after : List ℕ) (actor : ℕ) → IsCut text before after
    → number_in before ≡ Some actor → IfSome o (IsCounted after) → IfSome o (IsMade text)
made_found None text before after actor cut is counted = tt
made_found (Some base) text before after actor cut is counted =
    let number = number_in-some before actor is in
    record {
      actor = actor;
      counted = after;
      actor_within = number.0;
      is_counted = counted;
      is = cut.joined ∙ ap (λ xs. xs ++ hyphen ∷ after) number.1;
    }

pub made_other : (o : Option ℕ) (text before after : List ℕ) → IsCut text before after → IfNone o ((base : ℕ)
    → IsCounted after base → ⊥) → IfNone o ((base : ℕ) → IsMade text base → ⊥)
made_other None text before after cut other =
    λ base h. other base (subst (λ xs. IsCounted xs base) (sym
    (made_parts text before after cut base h).1) h.is_counted)
made_other (Some base) text before after cut other = tt

-- ---- a session, and what stands after it

length-identifier : (text : List ℕ) → IsIdentifier text → length text ≡ 36
length-identifier text h = ap length h.is ∙ by_index_length 36 _

pub middle_parts : (text : List ℕ) (base : ℕ) (h : IsMiddle text base)
    → (take 36 text ≡ h.identifier) × (drop 36 text ≡ hyphen ∷ h.made)
middle_parts text base h =
    let long = length-identifier h.identifier h.is_identifier in (
      ap (take 36) h.is ∙ take_at h.identifier (hyphen ∷ h.made) 36 long,
      ap (drop 36) h.is
          ∙ drop_at h.identifier (hyphen ∷ h.made) 36 long,
    )

pub middle_long : (text : List ℕ) (base : ℕ) → IsMiddle text base → 36 ≤ length text
middle_long text base h =
    let long = length-identifier h.identifier h.is_identifier in
    let whole = ap length h.is ∙ length-append h.identifier (hyphen ∷ h.made) in
    omega arith

pub middle_without_identifier : (text start : List ℕ) → start ≡ take 36 text → (IsIdentifier start → ⊥)
    → (base : ℕ) → IsMiddle text base → ⊥
middle_without_identifier text start is other base h =
    other (subst IsIdentifier (sym (is ∙ (middle_parts text base h).0)) h.is_identifier)

pub middle_without_hyphen : (text back : List ℕ) → back ≡ drop 36 text
    → bytes_eq (take 1 back) (hyphen ∷ []) ≡ false → (base : ℕ) → IsMiddle text base → ⊥
middle_without_hyphen text back is other base h =
    let begins : bytes_eq (take 1 back) (hyphen ∷ []) ≡ true = ap (λ xs. bytes_eq (take 1 xs) (hyphen ∷ [])) (is
    ∙ (middle_parts text base h).1) in
    true≢false (sym begins ∙ other)

pub middle_other : (o : Option ℕ) (text back made : List ℕ) → back ≡ drop 36 text → made ≡ drop 1 back
    → IfNone o ((base : ℕ) → IsMade made base → ⊥) → IfNone o ((base : ℕ) → IsMiddle text base → ⊥)
middle_other None text back made is made_is other =
    λ base h.
    let rest : made ≡ h.made = made_is ∙ ap (drop 1) (is ∙ (middle_parts text base h).1) in
    other base (subst (λ xs. IsMade xs base) (sym rest) h.is_made)
middle_other (Some base) text back made is made_is other = tt

-- ---- between a prefix and a suffix

regroup : (a b d e s : List ℕ)
    → (a ++ hyphen ∷ (b ++ hyphen ∷ (d ++ hyphen ∷ e))) ++ s ≡ a ++ hyphen ∷ (b ++ hyphen ∷ (d ++ hyphen ∷ (e ++ s)))
regroup a b d e s = simp append_assoc

-- what a maker of names puts between a prefix and a suffix
abbrev middle_of : Naming → List ℕ
middle_of m =
    hyphenated_text lower m.session ++ hyphen ∷ (decimal m.actor ++ hyphen ∷ (decimal m.base ++ hyphen ∷ decimal m.count))

name_of-middle : (prefix suffix : List ℕ) (m : Naming) → name_of prefix suffix m ≡ prefix ++ (middle_of m ++ suffix)
name_of-middle prefix suffix m =
    ap (λ xs. prefix ++ xs)
    (sym (regroup (hyphenated_text lower m.session) (decimal m.actor) (decimal m.base) (decimal m.count) suffix))

IsMiddle-middle_of : (m : Naming) → MayName m → IsMiddle (middle_of m) m.base
IsMiddle-middle_of m may = record {
  identifier = hyphenated_text lower m.session;
  made = decimal m.actor ++ hyphen ∷ (decimal m.base ++ hyphen ∷ decimal m.count);
  is_identifier = record { session = m.session; sixteen = may.is_maker.sixteen; bytes = may.is_maker.bytes; is = refl };
  is_made = record {
    actor = m.actor;
    counted = decimal m.base ++ hyphen ∷ decimal m.count;
    actor_within = may.actor_within;
    is_counted = record {
      count = m.count;
      base_within = may.base_within;
      count_bits = may.is_maker.count_bits;
      is = refl;
    };
    is = refl;
  };
  is = refl;
}

named_middle : (prefix suffix text : List ℕ) (base : ℕ) → IsMiddle text base
    → IsNamed prefix suffix (prefix ++ (text ++ suffix)) base
named_middle prefix suffix text base h =
    let maker : Naming = record {
      session = h.is_identifier.session;
      actor = h.is_made.actor;
      base = base;
      count = h.is_made.is_counted.count;
    } in
    let counted : h.is_made.counted ≡ decimal base ++ hyphen ∷ decimal maker.count = h.is_made.is_counted.is in
    let made : h.made ≡ decimal maker.actor ++ hyphen ∷ (decimal base ++ hyphen ∷ decimal maker.count) =
    h.is_made.is ∙ ap (λ xs. decimal maker.actor ++ hyphen ∷ xs) counted in
    let whole : text ≡ middle_of maker = h.is ∙ (λ i. h.is_identifier.is i ++ hyphen ∷ made i) in
    record {
      maker = maker;
      may = record {
        is_maker = record {
          sixteen = h.is_identifier.sixteen;
          bytes = h.is_identifier.bytes;
          actor_bits = (let small = h.is_made.actor_within in omega arith);
          base_bits = (let small = h.is_made.is_counted.base_within in omega arith);
          count_bits = h.is_made.is_counted.count_bits;
        };
        actor_within = h.is_made.actor_within;
        base_within = h.is_made.is_counted.base_within;
      };
      bears = refl;
      is = ap (λ xs. prefix ++ (xs ++ suffix)) whole ∙ sym (name_of-middle prefix suffix maker);
    }

-- a name, a prefix, what is left, a suffix, and what stands between
pub record IsBetween (prefix suffix name rest middle : List ℕ) : Type 0 where
  pub rest_is : name ≡ prefix ++ rest
  pub middle_is : rest ≡ middle ++ suffix

pub named_found : (o : Option ℕ) (prefix suffix name rest middle : List ℕ)
    → IsBetween prefix suffix name rest middle → IfSome o (IsMiddle middle) → IfSome o (IsNamed prefix suffix name)
named_found None prefix suffix name rest middle between found = tt
named_found (Some base) prefix suffix name rest middle between found =
    let whole : name ≡ prefix ++ (middle ++ suffix) = between.rest_is ∙ ap (λ xs. prefix ++ xs) between.middle_is in
    subst (λ xs. IsNamed prefix suffix xs base) (sym whole) (named_middle prefix suffix middle base found)

named_split : (prefix suffix name : List ℕ) (base : ℕ) (h : IsNamed prefix suffix name base)
    → name ≡ prefix ++ (middle_of h.maker ++ suffix)
named_split prefix suffix name base h = h.is ∙ name_of-middle prefix suffix h.maker

pub named_other : (o : Option ℕ) (prefix suffix name rest middle : List ℕ)
    → IsBetween prefix suffix name rest middle → IfNone o ((base : ℕ) → IsMiddle middle base → ⊥)
    → IfNone o ((base : ℕ) → IsNamed prefix suffix name base → ⊥)
named_other None prefix suffix name rest middle between other =
    λ base h.
    let same = append_cancel_left prefix rest (middle_of h.maker ++ suffix) (sym between.rest_is
    ∙ named_split prefix suffix name base h) in
    let middles : middle ≡ middle_of h.maker = append_cancel_right middle (middle_of h.maker) suffix
    (sym between.middle_is ∙ same) in
    let found : IsMiddle middle h.maker.base = subst (λ xs. IsMiddle xs h.maker.base) (sym middles)
    (IsMiddle-middle_of h.maker h.may) in
    other h.maker.base found
named_other (Some base) prefix suffix name rest middle between other = tt

pub prefix_ok : (prefix name rest : List ℕ) → bytes_eq (take (length prefix) name) prefix ≡ true
    → rest ≡ drop (length prefix) name → name ≡ prefix ++ rest
prefix_ok prefix name rest test is =
    let k = length prefix in
    let start : take k name ≡ prefix = (bytes_eq-Decides (take k name) prefix).0 test in
    sym (take-append-drop k name) ∙ (λ i. start i ++ sym is i)

pub suffix_ok : (suffix text start : List ℕ) → bytes_eq (drop (length text - length suffix) text) suffix ≡ true
    → start ≡ take (length text - length suffix) text → text ≡ start ++ suffix
suffix_ok suffix text start test is =
    let n = length text - length suffix in
    let back : drop n text ≡ suffix = (bytes_eq-Decides (drop n text) suffix).0 test in
    sym (take-append-drop n text) ∙ (λ i. sym is i ++ back i)

pub prefix_other : (prefix suffix name : List ℕ) → bytes_eq (take (length prefix) name) prefix ≡ false
    → (base : ℕ) → IsNamed prefix suffix name base → ⊥
prefix_other prefix suffix name test base h =
    let k = length prefix in
    let start : take k name ≡ prefix = ap (take k) (named_split prefix suffix name base h)
    ∙ take_at prefix (middle_of h.maker ++ suffix) k refl in
    true≢false (sym ((bytes_eq-Decides (take k name) prefix).1 start) ∙ test)

pub suffix_other : (prefix suffix name rest : List ℕ) → name ≡ prefix ++ rest
    → bytes_eq (drop (length rest - length suffix) rest) suffix ≡ false → (base : ℕ)
    → IsNamed prefix suffix name base → ⊥
suffix_other prefix suffix name rest is test base h =
    let n = length rest - length suffix in
    let middle = middle_of h.maker in
    let same : rest ≡ middle ++ suffix = append_cancel_left prefix rest (middle ++ suffix) (sym is
    ∙ named_split prefix suffix name base h) in
    let long : length rest ≡ length middle + length suffix = ap length same ∙ length-append middle suffix in
    let short : length middle ≡ n = omega arith in
    let back : drop n rest ≡ suffix = ap (drop n) same ∙ drop_at middle suffix n short in
    true≢false (sym ((bytes_eq-Decides (drop n rest) suffix).1 back) ∙ test)

-- ---- all files

unnamed : (file : BasedFile) (name : List ℕ) (base : ℕ)
    → (IsNamed (codes "manifest-") [] name base → ⊥) → (IsNamed (codes "manifest-list-") [] name base → ⊥)
    → (IsNamed (codes "data-") (codes ".avro") name base → ⊥)
    → (IsNamed (codes "changelog-") (codes ".avro") name base → ⊥)
    → IsNamed (prefix_of file) (suffix_of file) name base → ⊥
unnamed manifest name base p q r s = p
unnamed manifest_list name base p q r s = q
unnamed rows_file name base p q r s = r
unnamed changelog_file name base p q r s = s

-- no base between these
abbrev pub HasNone : List ℕ → List ℕ → List ℕ → Type 0
HasNone prefix suffix name = (base : ℕ) → IsNamed prefix suffix name base → ⊥

pub none_at : (o : Option ℕ) (P : Type 0) → o ≡ None → IfNone o P → P
none_at None P is h = h
none_at (Some n) P is h = cc

pub based_other : (o : Option ℕ) (name : List ℕ) → HasNone (codes "manifest-") [] name
    → HasNone (codes "manifest-list-") [] name → HasNone (codes "data-") (codes ".avro") name
    → IfNone o (HasNone (codes "changelog-") (codes ".avro") name) → IfNone o ((base : ℕ) → HasBase name base → ⊥)
based_other None name p q r s = λ base h. unnamed h.file name base (p base) (q base) (r base) (s base) h.named
based_other (Some n) name p q r s = tt
