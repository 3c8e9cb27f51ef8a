-- Files that share keys: the search for the first one, and what it says of all files.
use Rattle.std.proofs.Common.{◌≡◌, ℕ, ◌<◌, ◌≤◌, ◌+◌, List, [], ◌∷◌, length, get_or, true, false, true≢false, ◌&&◌, ◌==◌, ◌⊎◌, inl, inr, refl, sym, ap, subst, ◌∙◌, arith}
use Rattle.std.specs.Prelude.{nat_lt}
use Rattle.std.specs.List.{AllByRecursion}
use Rattle.std.specs.List.Sorted.{IsPermutation, IsSorted}
use Rattle.std.specs.Ordering.{is_le, is_lt}
use Rattle.std.specs.declared.cmp.Ordering.TheVariants.{Less}
use Rattle.std.proofs.lemmas.Bool.{and_from, and_parts, cases_lt, eq-eqb, eqb-true, lt-ltb, ltb-true}
use Rattle.std.proofs.lemmas.List.{get_or_default, get_or_read}
use Rattle.std.proofs.lemmas.List.Elements.{All-from_recursion}
use Rattle.std.proofs.lemmas.List.Sorted.{IsPermutation-sym}
use Rattle.pm_values.specs.Order.{key_cmp, key_total}
use Rattle.pm_values.specs.declared.file_meta.FileMeta.{FileMeta}
use Rattle.pm_levels.specs.Order.{file_cmp}
use Rattle.pm_levels.specs.Overlap.{AreDisjoint, IsFirstMeeting, IsFirstOverlap, IsFree, IsOverlap, IsUpTo, Meet, RangesRise, has_keys, meet}
use Rattle.pm_levels.specs.Runs.{IsRun, RunView, files_of}
use Rattle.pm_levels.proofs.OrderLemmas.{file_total, key-rises, le-from_less, le-from_sorted, le-or, le-refl, le-trans, less-not_le, level-rises, none_below, of-both, sorted-left, sorted-right}
use Rattle.pm_levels.proofs.PairLemmas.{Stand, stand, two-at, two-left, two-moved, two-right}

-- ---- the test

keyed : (file : FileMeta) → has_keys file ≡ true → (0 < file.level) × IsUpTo file.min_key file.max_key
keyed file e =
    let both = and_parts (nat_lt 0 file.level) (is_le (key_cmp file.min_key file.max_key)) e in
    (ltb-true 0 file.level both.0, both.1)

has-keys : (file : FileMeta) → 0 < file.level → IsUpTo file.min_key file.max_key → has_keys file ≡ true
has-keys file above range = and_from (nat_lt 0 file.level) (is_le (key_cmp file.min_key file.max_key)) (lt-ltb 0 file.level above) range

meet-back : (a b : FileMeta) → Meet a b → Meet b a
meet-back a b m = record { level = sym m.level; above = subst (λ n. 0 < n) m.level m.above; key = m.key; first = m.second; second = m.first }

-- the least key of the later file is the key, where the earlier file reaches so far
at-least : (a b : FileMeta) → a.level ≡ b.level → 0 < a.level → IsUpTo a.min_key b.min_key → IsUpTo b.min_key a.max_key → IsUpTo b.min_key b.max_key → Meet a b
at-least a b level above rises reaches range = record {
  level = level;
  above = above;
  key = b.min_key;
  first = (rises, reaches);
  second = (le-refl key_total b.min_key, range);
}

pub meet-true : (a b : FileMeta) → meet a b ≡ true → Meet a b
meet-true a b e =
    let ab = is_le (key_cmp a.min_key b.max_key) in
    let ba = is_le (key_cmp b.min_key a.max_key) in
    let four = and_parts ((a.level == b.level) && has_keys a && has_keys b && ab) ba e in
    let three = and_parts ((a.level == b.level) && has_keys a && has_keys b) ab four.0 in
    let two = and_parts ((a.level == b.level) && has_keys a) (has_keys b) three.0 in
    let one = and_parts (a.level == b.level) (has_keys a) two.0 in
    let level = eqb-true a.level b.level one.0 in
    let first = keyed a one.1 in
    let second = keyed b two.1 in
    elim (le-or key_total a.min_key b.min_key) [
      | inl rises ↦ at-least a b level first.0 rises four.1 second.1
      | inr falls ↦ meet-back b a (at-least b a (sym level) second.0 (le-from_less key_total b.min_key a.min_key falls) three.1 first.1)
    ]

pub meet-from : (a b : FileMeta) → Meet a b → meet a b ≡ true
meet-from a b m =
    let t = le-trans key_total in
    let ab = is_le (key_cmp a.min_key b.max_key) in
    let ba = is_le (key_cmp b.min_key a.max_key) in
    let first = has-keys a m.above (t a.min_key m.key a.max_key m.first.0 m.first.1) in
    let second = has-keys b (subst (λ n. 0 < n) m.level m.above) (t b.min_key m.key b.max_key m.second.0 m.second.1) in
    and_from ((a.level == b.level) && has_keys a && has_keys b && ab) ba
    (and_from ((a.level == b.level) && has_keys a && has_keys b) ab
    (and_from ((a.level == b.level) && has_keys a) (has_keys b)
    (and_from (a.level == b.level) (has_keys a) (eq-eqb a.level b.level m.level) first) second)
    (t a.min_key m.key b.max_key m.first.0 m.second.1))
    (t b.min_key m.key a.max_key m.second.0 m.first.1)

pub apart-from : (a b : FileMeta) → meet a b ≡ false → Meet a b → ⊥
apart-from a b e m = true≢false (sym (meet-from a b m) ∙ e)

-- ---- the search

-- the one file is of a lower level than the other, or of its level and doesn't reach further
abbrev Under : FileMeta → FileMeta → Type 0
Under a b = (has_keys b ≡ true) × ((a.level < b.level) ⊎ ((a.level ≡ b.level) × IsUpTo a.max_key b.max_key))

-- of the first n files with keys, none reaches further than the one at the index
abbrev pub Tops : List FileMeta → ℕ → ℕ → Type 0
Tops files last n = (k : ℕ) (d : FileMeta) → k < n → has_keys (get_or files k d) ≡ true → Under (get_or files k d) (get_or files last d)

module _ (files : List FileMeta) (sorted : IsSorted file_cmp files) (last i : ℕ) (before : last < i) (within : i < length files) where
  none-earlier : Tops files last i → ((d : FileMeta) → Meet (get_or files last d) (get_or files i d) → ⊥)
      → (k : ℕ) (d : FileMeta) → k < i → Meet (get_or files k d) (get_or files i d) → ⊥
  none-earlier tops none k d less m =
      let a = get_or files k d in
      let l = get_or files last d in
      let f = get_or files i d in
      let t = le-trans key_total in
      let under = tops k d less (has-keys a m.above (t a.min_key m.key a.max_key m.first.0 m.first.1)) in
      let after = none_below files sorted last i d (omega arith) within in
      let rises : l.level ≤ f.level = level-rises l f after in
      let level = m.level in
      elim under.1 [
        | inl lower ↦ absurd (omega arith)
        | inr reaches ↦
            let same : l.level ≡ f.level = sym reaches.0 ∙ level in
            let above : 0 < l.level = subst (λ n. 0 < n) reaches.0 m.above in
            none d (at-least l f same above (key-rises l f same above after)
            (t f.min_key m.key l.max_key m.second.0 (t m.key a.max_key l.max_key m.first.1 reaches.1))
            (t f.min_key m.key f.max_key m.second.0 m.second.1))
      ]

  pub free-more : IsFree files i → Tops files last i → ((d : FileMeta) → Meet (get_or files last d) (get_or files i d) → ⊥) → IsFree files (i + 1)
  free-more free tops none k j d less in' m =
      elim (cases_lt j i) [
        | inl earlier ↦ free k j d less earlier m
        | inr here ↦
            let is : j ≡ i = omega arith in
            none-earlier tops none k d (omega arith) (subst (λ n. Meet (get_or files k d) (get_or files n d)) is m)
      ]

  pub tops-kept : Tops files last i → ((d : FileMeta) → has_keys (get_or files i d) ≡ false) → Tops files last (i + 1)
  tops-kept tops none k d less keys =
      elim (cases_lt k i) [
        | inl earlier ↦ tops k d earlier keys
        | inr here ↦
            let is : k ≡ i = omega arith in
            absurd (true≢false (sym keys ∙ ap (λ n. has_keys (get_or files n d)) is ∙ none d))
      ]

  pub tops-here : IsFree files (i + 1) → ((d : FileMeta) → has_keys (get_or files i d) ≡ true) → Tops files i (i + 1)
  tops-here free here k d less keys =
      let f = get_or files i d in
      elim (cases_lt k i) [
        | inl earlier ↦ earlier_is earlier
        | inr not_earlier ↦
            let is : i ≡ k = omega arith in
            subst (λ n. Under (get_or files n d) f) is (here d, inr (refl, le-refl key_total f.max_key))
      ]
    where
      earlier_is : k < i → Under (get_or files k d) (get_or files i d)
      earlier_is earlier =
          let a = get_or files k d in
          let f = get_or files i d in
          let after = none_below files sorted k i d (omega arith) within in
          let rises : a.level ≤ f.level = level-rises a f after in
          let above = (keyed a keys).0 in
          let range = (keyed f (here d)).1 in
          elim (cases_lt a.level f.level) [
            | inl lower ↦ (here d, inl lower)
            | inr upper ↦
                let same : a.level ≡ f.level = omega arith in
                elim (le-or key_total a.max_key f.max_key) [
                  | inl reaches ↦ (here d, inr (same, reaches))
                  | inr further ↦ absurd (free k i d earlier (omega arith) (at-least a f same above (key-rises a f same above after)
                      (le-trans key_total f.min_key f.max_key a.max_key range (le-from_less key_total f.max_key a.max_key further)) range))
                ]
          ]

-- what the search knows before the file at i: the last file with keys stands at last, or there is none before i
pub record Searched (files : List FileMeta) (last i : ℕ) : Type 0 where
  pub before : last < i
  pub free : IsFree files i
  pub tops : Tops files last i

pub searched-none : (files : List FileMeta) → Searched files 0 1
searched-none files = record {
  before = omega arith;
  free = λ i j d less in' m. absurd (omega arith);
  tops = λ k d less keys.
      let is : 0 ≡ k = omega arith in
      subst (λ n. has_keys (get_or files n d) ≡ true → Under (get_or files n d) (get_or files 0 d)) is (λ own. (own, inr (refl, le-refl key_total (get_or files 0 d).max_key))) keys;
}

-- the files a and b stand at last and at i
module _ (files : List FileMeta) (sorted : IsSorted file_cmp files) (last i : ℕ) (known : Searched files last i) (within : i < length files) (a b : FileMeta) (first : a ≡ get_or files last a) (second : b ≡ get_or files i b) where
  a-at : (d : FileMeta) → a ≡ get_or files last d
  a-at d = get_or_read files last a (let l = known.before in omega arith) first d

  b-at : (d : FileMeta) → b ≡ get_or files i d
  b-at d = get_or_read files i b within second d

  none-here : meet a b ≡ false → (d : FileMeta) → Meet (get_or files last d) (get_or files i d) → ⊥
  none-here e d m = apart-from a b e (subst (λ x. Meet x b) (sym (a-at d)) (subst (Meet (get_or files last d)) (sym (b-at d)) m))

  pub searched-here : meet a b ≡ false → has_keys b ≡ true → Searched files i (i + 1)
  searched-here e keys =
      let free = free-more files sorted last i known.before within known.free known.tops (none-here e) in
      record {
        before = omega arith;
        free = free;
        tops = tops-here files sorted last i known.before within free (λ d. subst (λ f. has_keys f ≡ true) (b-at d) keys);
      }

  pub searched-kept : meet a b ≡ false → has_keys b ≡ false → Searched files last (i + 1)
  searched-kept e keys = record {
    before = let l = known.before in omega arith;
    free = free-more files sorted last i known.before within known.free known.tops (none-here e);
    tops = tops-kept files sorted last i known.before within known.tops (λ d. subst (λ f. has_keys f ≡ false) (b-at d) keys);
  }

  pub first-meeting : meet a b ≡ true → IsFirstMeeting files i
  first-meeting e = record {
    within = within;
    free = known.free;
    other = last;
    before = known.before;
    meets = λ d. subst (λ x. Meet x (get_or files i d)) (a-at d) (subst (Meet a) (b-at d) (meet-true a b e));
  }

pub free-all : (files : List FileMeta) (last i : ℕ) → Searched files last i → length files ≤ i → IsFree files (length files)
free-all files last i known over k j d less within = known.free k j d less (omega arith)

-- ---- what it says of all files

-- no two of the first n share a key range, whatever their indices
pair-free : (files : List FileMeta) (n : ℕ) → IsFree files n → (a b : FileMeta) (s : Stand files a b) → s.i < n → s.j < n → Meet a b → ⊥
pair-free files n free a b s p q m =
    let other : get_or files s.j a ≡ b = get_or_default files s.j a b s.second ∙ s.right in
    elim (cases_lt s.i s.j) [
      | inl less ↦ free s.i s.j a less q (subst (λ x. Meet x (get_or files s.j a)) (sym s.left) (subst (Meet a) (sym other) m))
      | inr more ↦
          let apart = s.apart in
          let less : s.j < s.i = omega arith in
          free s.j s.i a less p (subst (λ x. Meet x (get_or files s.i a)) (sym other) (subst (Meet b) (sym s.left) (meet-back a b m)))
    ]

pub disjoint : (files sorted : List FileMeta) → IsPermutation files sorted → IsFree sorted (length sorted) → AreDisjoint files
disjoint files sorted same free a b two m =
    let s = stand a b sorted (two-moved a b files sorted same two) in
    pair-free sorted (length sorted) free a b s s.first s.second m

module _ (files sorted : List FileMeta) (same : IsPermutation files sorted) (order : IsSorted file_cmp sorted) (n : ℕ) (found : IsFirstMeeting sorted n) (file : FileMeta) (is : file ≡ get_or sorted n file) where
  -- what stands from the file on isn't before it
  from-on : (k : ℕ) (other : FileMeta) → n ≤ k → k < length sorted → get_or sorted k other ≡ other → is_le (file_cmp file other) ≡ true
  from-on k other up within at =
      let here : get_or sorted n other ≡ file = get_or_default sorted n other file found.within ∙ sym is in
      let later = none_below sorted order n k other up within in
      le-from_sorted file_total file other (of-both (get_or sorted k other) (get_or sorted n other) other file at here later)

  overlaps : IsOverlap files file
  overlaps =
      let k = found.other in
      let in' : k < length sorted = let a = found.before in let b = found.within in omega arith in
      let other = get_or sorted k file in
      let two = two-at sorted k n other file found.before found.within (get_or_default sorted k other file in') (sym is) in
      let after = none_below sorted order k n file (let a = found.before in omega arith) found.within in (
        other,
        two-moved other file sorted files (IsPermutation-sym files sorted same) two,
        subst (Meet other) (sym is) (found.meets file),
        le-from_sorted file_total other file (subst (λ x. is_lt (file_cmp x other) ≡ false) (sym is) after),
      )

  least : (other : FileMeta) → IsOverlap files other → is_le (file_cmp file other) ≡ true
  least other over =
      elim (le-or file_total file other) [
        | inl up ↦ up
        | inr down ↦ absurd (earlier down)
      ]
    where
      earlier : file_cmp other file ≡ Less → ⊥
      earlier down =
          let s = stand over.0 other sorted (two-moved over.0 other files sorted same over.1) in
          let not_up = less-not_le file_total file other down in
          elim (cases_lt s.j n) [
            | inr far ↦ not_up (from-on s.j other far s.second s.right)
            | inl near ↦ elim (cases_lt s.i n) [
              | inr far ↦ not_up (le-trans file_total file over.0 other (from-on s.i over.0 far s.first s.left) over.3)
              | inl close ↦ pair-free sorted n found.free over.0 other s close near over.2
            ]
          ]

  pub first-overlap : IsFirstOverlap files file
  first-overlap = record { overlaps = overlaps; least = least }

-- ---- the laws

pub not-both : (files : List FileMeta) (file : FileMeta) → IsOverlap files file → AreDisjoint files → ⊥
not-both files file over none = none over.0 file over.1 over.2

over-moved : (files more : List FileMeta) (file : FileMeta) → IsPermutation files more → IsOverlap files file → IsOverlap more file
over-moved files more file same over = (over.0, two-moved over.0 file files more same over.1, over.2, over.3)

pub first-moved : (files more : List FileMeta) (file : FileMeta) → IsPermutation files more → IsFirstOverlap files file → IsFirstOverlap more file
first-moved files more file same first = record {
  overlaps = over-moved files more file same first.overlaps;
  least = λ other over. first.least other (over-moved more files other (IsPermutation-sym files more same) over);
}

pub ranges : (runs : List RunView) → AreDisjoint (files_of runs) → IsSorted file_cmp (files_of runs) → AllByRecursion IsRun runs → AllByRecursion RangesRise runs
ranges [] none order each = tt
ranges (run ∷ older) none order each =
    let files = run.files in
    let rest = files_of older in
    (one, ranges older (λ a b two. none a b (two-right a b files rest two)) (sorted-right files rest order) each.1)
  where
    one : RangesRise run
    one above i j d less within range =
        let files = run.files in
        let own = All-from_recursion (λ (f : FileMeta). f.level ≡ run.level) files each.0.own in
        let a = get_or files i d in
        let b = get_or files j d in
        let in' : i < length files = omega arith in
        let first : a.level ≡ run.level = own i d in' in
        let second : b.level ≡ run.level = own j d within in
        let level : a.level ≡ b.level = first ∙ sym second in
        let high : 0 < a.level = omega arith in
        let after = none_below files (sorted-left files (files_of older) order) i j d (omega arith) within in
        let two = two-at files i j a b less within (get_or_default files i a d in') (get_or_default files j b d within) in
        elim (le-or key_total b.min_key a.max_key) [
          | inl reaches ↦ absurd (none a b (two-left a b files (files_of older) two) (at-least a b level high (key-rises a b level high after) reaches range))
          | inr below ↦ below
        ]
