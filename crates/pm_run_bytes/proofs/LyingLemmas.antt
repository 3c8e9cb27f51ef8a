-- Rows that lie one after another in the bytes of a file are one list, and are read from its first row on.
use Rattle.std.proofs.Common.{◌≡◌, ◌≢◌, ◌<◌, ◌≤◌, ◌-◌, ℕ, zero, suc, Bool, pos, List, [], ◌∷◌, ◌++◌, drop, length, Some, Result, Ok, refl, sym, ap, subst, ◌∙◌, arith}
use Rattle.std.proofs.lemmas.List.{append_cancel_left, drop_all, drop_at, length-append, length-drop, nil_from_length}
use Rattle.std.proofs.lemmas.Option.{some_pair_parts}
use Rattle.std.proofs.Math.Seq.{take-append_seam}
use Rattle.std.specs.Prelude.{take}
use Rattle.std.specs.Coded.{Coded, Coded-set}
use mathlib.Core.Logic.{∥∥₁_elim, ∥∥₁_map}
use Rattle.pm_values.specs.declared.record.Stamped.{Stamped}
use Rattle.pm_avro_schema.specs.Avro as avro
use Rattle.pm_avro_schema.specs.Avro.{Avro}
use Rattle.pm_avro_data.specs.Datum.{Data, long}
use Rattle.pm_avro_data.specs.IsDatum.{IsDatum}
use Rattle.pm_avro_data.specs.Number.{IsLong}
use Rattle.pm_avro_data.proofs.Facts.{datum_again}
use Rattle.pm_record.specs.declared.misfit.Misfit.{Misfit}
use Rattle.pm_run.specs.Form.{Form}
use Rattle.pm_run.specs.Kinds.{run_type}
use Rattle.pm_run.specs.Row.{row_data, row_in}
use Rattle.pm_run_bytes.specs.declared.direct.Direct.{Direct}
use Rattle.pm_avro_data.specs.Writing.{encoding}
use Rattle.pm_run_bytes.specs.Direct.{HasContent, IsRow, IsWritten, IsWrittenRow}
use Rattle.pm_run_bytes.specs.Lying.{IsContentOf}
use Rattle.pm_run_bytes.specs.Known.{KnownRows, LieAt, LieFrom, LieLeft, LieRows, OnlyLie, at_end, one_known, with_block}

-- ---- what lies there is one thing

datum_one : (t : Avro) (d e : Data) (source rest other : List ℕ) → IsDatum t d source rest → IsDatum t e source other → (d ≡ e) × (rest ≡ other)
datum_one t d e source rest other p q = some_pair_parts d e rest other (sym (datum_again t d source rest p) ∙ datum_again t e source other q)

number_one : (m n : ℕ) (source rest other : List ℕ) → IsLong (pos m) source rest → IsLong (pos n) source other → (m ≡ n) × (rest ≡ other)
number_one m n source rest other p q =
    let h = datum_one avro.long (long (pos m)) (long (pos n)) source rest other p q in
    let e : long (pos m) ≡ long (pos n) = h.0 in
    (cc, h.1)

-- beginnings of one length
begin_one : (xs ys ps qs : List ℕ) → length xs ≡ length ys → xs ++ ps ≡ ys ++ qs → (xs ≡ ys) × (ps ≡ qs)
begin_one xs ys ps qs many same = (
  sym (take-append_seam xs ps) ∙ ap (take (length xs)) same ∙ ap (λ n. take n (ys ++ qs)) many ∙ take-append_seam ys qs,
  sym (drop_at xs ps (length xs) refl) ∙ ap (drop (length xs)) same ∙ drop_at ys qs (length xs) (sym many),
)

module _ (d : Direct) (bytes : List ℕ) (offset count other next last : ℕ) (content contents : List ℕ) where
  content_one : HasContent d bytes offset count content next → HasContent d bytes offset other contents last → (count ≡ other) × (content ≡ contents) × (next ≡ last)
  content_one a b =
      let p = number_one count other (drop offset bytes) a.middle b.middle a.counted b.counted in
      let q = number_one (length content) (length contents) a.middle a.left b.left a.sized (subst (λ (m : List ℕ). IsLong (pos (length contents)) m b.left) (sym p.1) b.sized) in
      let r = begin_one content contents (d.marker.items ++ drop next bytes) (d.marker.items ++ drop last bytes) q.0 (sym a.marked ∙ q.1 ∙ b.marked) in
      let after : drop next bytes ≡ drop last bytes = append_cancel_left d.marker.items (drop next bytes) (drop last bytes) r.1 in
      (p.0, r.0, omega (arith, a.within, b.within, ap length after, length-drop next bytes, length-drop last bytes))

-- at the end of the bytes no block stands
no_content : (d : Direct) (bytes : List ℕ) (offset count : ℕ) (content : List ℕ) (next : ℕ) → offset ≡ length bytes → HasContent d bytes offset count content next → ⊥
no_content d bytes offset count content next over has =
    let none : drop offset bytes ≡ [] = drop_all offset bytes (omega (arith, over)) in
    let number : IsLong (pos count) [] has.middle = subst (λ (s : List ℕ). IsLong (pos count) s has.middle) none has.counted in
    number.groups

module _ (f : Form) (changes : Bool) (written : IsWritten f (run_type f)) where
  row_one : (x y : Stamped) (source rest other : List ℕ) → IsRow f changes x source rest → IsRow f changes y source other → (x ≡ y) × (rest ≡ other)
  row_one x y source rest other a b =
      let p = a (run_type f) written in
      let q = b (run_type f) written in
      let same = datum_one (run_type f) p.0 q.0 source rest other p.1 q.1 in
      let both : ◌≡◌ {A = Result Stamped Misfit} (Ok x) (Ok y) = sym p.2 ∙ ap (row_in f changes (run_type f)) same.0 ∙ q.2 in
      (cc, same.1)

  rows_one : (xs ys : List Stamped) (source : List ℕ) → length xs ≡ length ys → LieRows f changes xs source [] → LieRows f changes ys source [] → xs ≡ ys
  rows_one [] [] source many a b = refl
  rows_one [] (y ∷ ys) source many a b = absurd (omega (arith, many))
  rows_one (x ∷ xs) [] source many a b = absurd (omega (arith, many))
  rows_one (x ∷ xs) (y ∷ ys) source many (middle, row, later) (other, another, more) =
      let first = row_one x y source middle other row another in
      let others = rows_one xs ys middle (omega (arith, many)) later (subst (λ (s : List ℕ). LieRows f changes ys s []) (sym first.1) more) in
      ap (λ (z : Stamped). z ∷ xs) first.0 ∙ ap (λ (zs : List Stamped). y ∷ zs) others

  module _ (d : Direct) (bytes : List ℕ) where
    none_from : (offset : ℕ) → offset ≡ length bytes → (rows : List Stamped) → LieFrom d bytes f changes offset rows → [] ≡ rows
    none_from offset over rows (at_end at end) = refl
    none_from offset over rows (with_block at next own more content some has here later) = absurd (no_content d bytes at (length own) content next over has)

    -- what stands at an offset where a block has this content
    record BlockAt (many after : ℕ) (content : List ℕ) (rows : List Stamped) : Type 0 where
      pub own : List Stamped
      pub more : List Stamped
      pub some : own ≢ []
      pub many_is : length own ≡ many
      pub here : LieRows f changes own content []
      pub later : LieFrom d bytes f changes after more
      pub joined : rows ≡ own ++ more

    block_from : (offset many after : ℕ) (content : List ℕ) → HasContent d bytes offset many content after → (rows : List Stamped) → LieFrom d bytes f changes offset rows → BlockAt many after content rows
    block_from offset many after content has rows (at_end at end) = absurd (no_content d bytes at many content after end has)
    block_from offset many after content has rows (with_block at next own more contents some other here later) =
        let same = content_one d bytes at (length own) many next after contents content other has in
        record {
          own = own;
          more = more;
          some = some;
          many_is = same.0;
          here = subst (λ (s : List ℕ). LieRows f changes own s []) same.1 here;
          later = subst (λ n. LieFrom d bytes f changes n more) same.2 later;
          joined = refl;
        }

    rows_from : (offset : ℕ) (rows : List Stamped) → LieFrom d bytes f changes offset rows → (others : List Stamped) → LieFrom d bytes f changes offset others → rows ≡ others
    rows_from offset rows (at_end at end) others lie = none_from at end others lie
    rows_from offset rows (with_block at next own more content some has here later) others lie =
        let b = block_from at (length own) next content has others lie in
        ap (λ (xs : List Stamped). xs ++ more) (rows_one own b.own content (sym b.many_is) here b.here)
        ∙ ap (λ (xs : List Stamped). b.own ++ xs) (rows_from next more later b.more b.later)
        ∙ sym b.joined

module _ (d : Direct) (bytes : List ℕ) (f : Form) (changes : Bool) (rest : List ℕ) (left next : ℕ) where
  left_one : (rows others : List Stamped) → LieLeft d bytes f changes rest left next rows → LieLeft d bytes f changes rest left next others → others ≡ rows
  left_one rows others a b =
      let own = rows_one f changes a.later.0 b.own a.own rest (b.many ∙ sym a.many) b.here a.here in
      let more = rows_from f changes a.later.0 d bytes next b.more b.later.1 a.more a.later.1 in
      b.joined ∙ ap (λ (xs : List Stamped). xs ++ b.more) own ∙ ap (λ (xs : List Stamped). a.own ++ xs) more ∙ sym a.joined

  -- these rows are left, and so no others
  only_lie : (rows : List Stamped) → LieLeft d bytes f changes rest left next rows → OnlyLie d bytes f changes rest left next rows
  only_lie rows lie = record { lie = lie; only = λ others other. left_one rows others lie other }

  known_same : Coded (List Stamped) → (k m : KnownRows d bytes f changes rest left next) → k.0 ≡ m.0
  known_same code k m = ap (λ (x : KnownRows d bytes f changes rest left next). x.0) (one_known code d bytes f changes rest left next k m)

-- ---- the first block

module _ (d : Direct) (bytes : List ℕ) (f : Form) (changes : Bool) (next : ℕ) where
  pub known_at : (p : (rows : List Stamped) × ∥ LieAt d bytes f changes next rows ∥₁) → KnownRows d bytes f changes [] 0 next
  known_at p =
      (p.0, ∥∥₁_map p.1 (λ lie. only_lie d bytes f changes [] 0 next p.0 (record { own = []; more = p.0; here = refl; many = refl; later = lie; joined = refl })))

  pub known_is : Coded (List Stamped) → (k : KnownRows d bytes f changes [] 0 next) (rows : List Stamped) → LieAt d bytes f changes next rows → k.0 ≡ rows
  known_is code k rows lie =
      ∥∥₁_elim k.1 (Coded-set code k.0 rows) (λ h. sym (h.only rows (record { own = []; more = rows; here = refl; many = refl; later = lie; joined = refl })))

-- ---- what one call takes

some_number : (n : ℕ) → (n ≡ 0 → ⊥) → 0 < n
some_number zero some = absurd (some refl)
some_number (suc n) some = omega arith

module _ (d : Direct) (bytes : List ℕ) (f : Form) (changes : Bool) (rest : List ℕ) (left next : ℕ) where
  -- the end of the bytes
  left_over : left ≡ 0 → next ≡ length bytes → (rows : List Stamped) → LieLeft d bytes f changes rest left next rows → rows ≡ []
  left_over none over rows lie =
      let own : lie.own ≡ [] = nil_from_length lie.own (lie.many ∙ none) in
      lie.joined ∙ ap (λ (xs : List Stamped). xs ++ lie.more) own ∙ sym (none_from f changes lie.later.0 d bytes next over lie.more lie.later.1)

  pub known_over : Coded (List Stamped) → (k : KnownRows d bytes f changes rest left next) → left ≡ 0 → next ≡ length bytes → k.0 ≡ []
  known_over code k none over = ∥∥₁_elim k.1 (Coded-set code k.0 []) (λ h. left_over none over k.0 h.lie)

  -- one block more
  module _ (many after : ℕ) (content : List ℕ) (none : left ≡ 0) (has : HasContent d bytes next many content after) where
    left_block : (rows : List Stamped) → LieLeft d bytes f changes rest left next rows → LieLeft d bytes f changes content many after rows
    left_block rows lie =
        let own : lie.own ≡ [] = nil_from_length lie.own (lie.many ∙ none) in
        let b = block_from f changes lie.later.0 d bytes next many after content has lie.more lie.later.1 in
        record {
          own = b.own;
          more = b.more;
          here = b.here;
          many = b.many_is;
          later = (lie.later.0, b.later);
          joined = lie.joined ∙ ap (λ (xs : List Stamped). xs ++ lie.more) own ∙ b.joined;
        }

    pub known_block : (k : KnownRows d bytes f changes rest left next) → KnownRows d bytes f changes content many after
    known_block k = (k.0, ∥∥₁_map k.1 (λ h. only_lie d bytes f changes content many after k.0 (left_block k.0 h.lie)))

    -- it has a row
    some_left : (rows : List Stamped) → LieLeft d bytes f changes rest left next rows → many ≡ 0 → ⊥
    some_left rows lie over =
        let b = block_from f changes lie.later.0 d bytes next many after content has lie.more lie.later.1 in
        b.some (nil_from_length b.own (b.many_is ∙ over))

    pub some_block : KnownRows d bytes f changes rest left next → 0 < many
    some_block k = some_number many (λ over. ∥∥₁_elim k.1 (λ x y. absurd x) (λ h. some_left k.0 h.lie over))

    -- the same rows are left
    pub block_given : Coded (List Stamped) → (k : KnownRows d bytes f changes rest left next) (m : KnownRows d bytes f changes content many after) → m.0 ≡ k.0
    unfolding known_block
    block_given code k m = known_same d bytes f changes content many after code m (known_block k)

  -- one row more
  module _ (x : Stamped) (middle : List ℕ) (fewer : ℕ) (more : left ≡ suc fewer) (row : IsRow f changes x rest middle) where
    record FirstLies (rows : List Stamped) : Type 0 where
      pub first : rows ≡ x ∷ drop 1 rows
      pub later : LieLeft d bytes f changes middle fewer next (drop 1 rows)

    left_row : (rows : List Stamped) → LieLeft d bytes f changes rest left next rows → FirstLies rows
    left_row rows lie = by_own lie.own lie.here lie.many lie.joined
      where
        by_own : (own : List Stamped) → LieRows f changes own rest [] → length own ≡ left → rows ≡ own ++ lie.more → FirstLies rows
        by_own [] here many joined = absurd (omega (arith, many, more))
        by_own (y ∷ own) (other, another, here) many joined =
            let same = row_one f changes lie.later.0 y x rest other middle another row in
            let others : drop 1 rows ≡ own ++ lie.more = ap (drop 1) joined in
            record {
              first = joined ∙ ap (λ (z : Stamped). z ∷ (own ++ lie.more)) same.0 ∙ ap (λ (zs : List Stamped). x ∷ zs) (sym others);
              later = record {
                own = own;
                more = lie.more;
                here = subst (λ (s : List ℕ). LieRows f changes own s []) same.1 here;
                many = omega (arith, many, more);
                later = lie.later;
                joined = others;
              };
            }

    pub known_row : (k : KnownRows d bytes f changes rest left next) → KnownRows d bytes f changes middle fewer next
    known_row k = (drop 1 k.0, ∥∥₁_map k.1 (λ h. only_lie d bytes f changes middle fewer next (drop 1 k.0) (left_row k.0 h.lie).later))

    -- it is the first, and the others are left
    pub row_given : Coded (List Stamped) → (k : KnownRows d bytes f changes rest left next) (m : KnownRows d bytes f changes middle fewer next) → k.0 ≡ x ∷ m.0
    unfolding known_row
    row_given code k m =
        let first : k.0 ≡ x ∷ drop 1 k.0 = ∥∥₁_elim k.1 (Coded-set code k.0 (x ∷ drop 1 k.0)) (λ h. (left_row k.0 h.lie).first) in
        first ∙ ap (λ (zs : List Stamped). x ∷ zs) (known_same d bytes f changes middle fewer next code (known_row k) m)

-- ---- its bytes

module _ (f : Form) (x : Stamped) (source rest : List ℕ) (row : IsWrittenRow f x source rest) where
  pub rest_shorter : length rest ≤ length source
  rest_shorter = omega (arith, ap length row.written.spelled, length-append (encoding (row_data f x)) rest)

  pub row_content : (content : List ℕ) → content ≡ take (length source - length rest) source → IsContentOf f (Some x) content
  row_content content is =
      let written = encoding (row_data f x) in
      let many : length source - length rest ≡ length written = omega (arith, ap length row.written.spelled, length-append written rest) in (
        row.writable,
        record {
          added = is ∙ ap (λ n. take n source) many ∙ ap (take (length written)) row.written.spelled ∙ take-append_seam written rest;
          fits = row.written.fits;
        },
      )
