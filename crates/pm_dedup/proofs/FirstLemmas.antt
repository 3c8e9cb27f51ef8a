-- With first rows, rows of a key are worth what the first of them is.
use Rattle.std.proofs.Common.{◌≡◌, ◌≢◌, ℕ, zero, suc, ◌+◌, arith, List, [], ◌∷◌, ◌++◌, map, Bool, true, false, not, ◌&&◌, ◌||◌, cond, Option, Some, None, is_some, IsTrue, refl, sym, ap, ◌∙◌, append_assoc, slice_get}
use Rattle.std.specs.List.{AllByRecursion, last_or, position_or_len}
use Rattle.std.specs.Option.{option_map_or}
use Rattle.std.specs.Str.{bytes_eq}
use Rattle.std.proofs.lemmas.Slice.Eq.{bytes_eq-Decides}
use Rattle.pm_options.specs.declared.kinds.EngineKind.TheVariants.{FirstRow}
use Rattle.pm_schema.specs.Rules.{differ, is_among, names_of}
use Rattle.pm_schema.specs.declared.schema.TableSchema.{TableSchema}
use Rattle.pm_values.specs.Kind.{retracts}
use Rattle.pm_values.specs.Order.{Values}
use Rattle.pm_values.specs.Fits.{Fits}
use Rattle.pm_values.specs.declared.column.Column.{Column}
use Rattle.pm_values.specs.declared.kind.Kind.{Kind}
use Rattle.pm_values.specs.declared.value.Value.{Value}
use Rattle.pm_values.specs.declared.value.Value.TheVariants.{Null}
use Rattle.pm_model_history.specs.ColumnValue as worth
use Rattle.pm_model_history.specs.ColumnValue.{column_value, first_value, index_of, last_value, value_by, value_in, values_at}
use Rattle.pm_model_history.specs.Merge.{HistoryRow, key_of, value_at}
use Rattle.pm_model_history.specs.Merged.{shows, shows_by}
use Rattle.pm_model_history.specs.Taken.{is_key, stores, stores_by, verdict, verdict_by}
use Rattle.pm_model_history.specs.declared.verdict.Verdict.TheVariants.{Take, Ignore, RefuseAll}
use Rattle.pm_engine.specs.Meaning.{AreTaken, IsTaken, SameWorth, SpeaksFor}
use Rattle.pm_engine.specs.OfSchema.{drops_by, first_kind, kind_by, meaning_of}
use Rattle.pm_engine.proofs.Facts.{AreTaken-append, SameWorth-same, SameWorth-trans, some_after, value_past}

-- ---- the columns of the key

name_eq : (a b : List ℕ) → bytes_eq a b ≡ true → a ≡ b
name_eq a b = (bytes_eq-Decides a b).0

name_same : (a b : List ℕ) → a ≡ b → bytes_eq a b ≡ true
name_same a b = (bytes_eq-Decides a b).1

and_left : (a b : Bool) → (a && b) ≡ true → a ≡ true
and_left true b e = refl
and_left false b e = e

and_right : (a b : Bool) → (a && b) ≡ true → b ≡ true
and_right true b e = e
and_right false b e = cc

-- a column's name is among those of its list
named : (columns : List Column) (i : ℕ) (c : Column) (name : List ℕ) → slice_get columns i ≡ Some c → name ≡ c.name → is_among (names_of columns) name ≡ true
named [] i c name at e = cc
named (d ∷ ds) zero c name at e =
    let same : d ≡ c = cc in
    ap (λ b. b || is_among (names_of ds) name) (name_same d.name name (ap (λ (x : Column). x.name) same ∙ sym e))
named (d ∷ ds) (suc i) c name at e =
    ap (λ b. bytes_eq d.name name || b) (named ds i c name at e) ∙ or_true (bytes_eq d.name name)
  where
    or_true : (b : Bool) → (b || true) ≡ true
    or_true true = refl
    or_true false = refl

-- a column stands at the index of its name, where no two have one name
index-at : (columns : List Column) (i : ℕ) (c : Column) → differ (names_of columns) ≡ true → slice_get columns i ≡ Some c
    → position_or_len (λ (d : Column). bytes_eq d.name c.name) columns ≡ i
index-at [] i c distinct at = cc
index-at (d ∷ ds) zero c distinct at =
    let same : d ≡ c = cc in
    ap (λ b. cond (not b) (1 + position_or_len (λ (x : Column). bytes_eq x.name c.name) ds) 0) (name_same d.name c.name (ap (λ (x : Column). x.name) same))
index-at (d ∷ ds) (suc i) c distinct at =
    ap (λ b. cond (not b) (1 + position_or_len (λ (x : Column). bytes_eq x.name c.name) ds) 0) (other (bytes_eq d.name c.name) refl)
    ∙ ap (λ n. 1 + n) (index-at ds i c (and_right (not (is_among (names_of ds) d.name)) (differ (names_of ds)) distinct) at) ∙ one_more i
  where
    one_more : (n : ℕ) → 1 + n ≡ suc n
    one_more n = omega arith

    other : (b : Bool) → bytes_eq d.name c.name ≡ b → bytes_eq d.name c.name ≡ false
    other false e = e
    other true e =
        let among = named ds i c d.name at (name_eq d.name c.name e) in
        let none = and_left (not (is_among (names_of ds) d.name)) (differ (names_of ds)) distinct in
        absurd (apart (is_among (names_of ds) d.name) among none)
      where
        apart : (t : Bool) → t ≡ true → not t ≡ true → ⊥
        apart true p q = cc
        apart false p q = cc

-- rows with one key have one value in each column of it
key-value : (s : TableSchema) (names : List (List ℕ)) (i : ℕ) (c : Column) (a b : Values) → differ (names_of s.columns) ≡ true → slice_get s.columns i ≡ Some c
    → is_among names c.name ≡ true → key_of (map (index_of s) names) a ≡ key_of (map (index_of s) names) b → value_at a i ≡ value_at b i
key-value s [] i c a b distinct at among same = cc
key-value s (name ∷ names) i c a b distinct at among same =
    elim (bytes_eq name c.name) as (λ t. bytes_eq name c.name ≡ t → (t || is_among names c.name) ≡ true → value_at a i ≡ value_at b i) [
      | true ↦ λ e _.
          let here : index_of s name ≡ i = ap (index_of s) (name_eq name c.name e) ∙ index-at s.columns i c distinct at in
          let first : value_at a (index_of s name) ≡ value_at b (index_of s name) = cc in
          ap (value_at a) (sym here) ∙ first ∙ ap (value_at b) here
      | false ↦ λ _ later.
          let rest : key_of (map (index_of s) names) a ≡ key_of (map (index_of s) names) b = cc in
          key-value s names i c a b distinct at later rest
    ] refl among

-- ---- what rows are worth

-- the first of rows
first_of : List HistoryRow → Option HistoryRow
first_of [] = None
first_of (r ∷ rows) = Some r

-- the value of a column in that row
value_of : ℕ → Option HistoryRow → Value
value_of index None = Null
value_of index (Some r) = value_at r.1 index

-- of rows with one value, the last one has it
last-same : (index : ℕ) (r : HistoryRow) (rows : List HistoryRow) (v : Value) → value_at r.1 index ≡ v
    → AllByRecursion (λ (q : HistoryRow). value_at q.1 index ≡ v) rows → last_value (values_at index (r ∷ rows)) ≡ v
last-same index r [] v is all = is
last-same index r (q ∷ rows) v is all = last-same index q rows v all.0 all.1

module _ (s : TableSchema) (key : Values) (is : s.options.engine ≡ FirstRow) (distinct : differ (names_of s.columns) ≡ true) where
  same_values : (index : ℕ) (c : Column) (r : HistoryRow) (rows : List HistoryRow) → slice_get s.columns index ≡ Some c → is_key s c ≡ true → IsTaken (meaning_of s) key r
      → AreTaken (meaning_of s) key rows → AllByRecursion (λ (q : HistoryRow). value_at q.1 index ≡ value_at r.1 index) rows
  same_values index c r [] at own taken all = tt
  same_values index c r (q ∷ rows) at own taken all =
      (key-value s s.primary index c q.1 r.1 distinct at own (all.0.of_key ∙ sym taken.of_key), same_values index c r rows at own taken all.1)

  column_value-first : (index : ℕ) (rows : List HistoryRow) → AreTaken (meaning_of s) key rows
      → column_value s index rows ≡ option_map_or (λ (c : Column). value_of index (first_of rows)) (slice_get s.columns index) Null
  unfolding worth.column_value first_of value_of
  column_value-first index [] all =
      elim (slice_get s.columns index) as (λ o. option_map_or (value_in s index []) o Null ≡ option_map_or (λ (c : Column). Null) o Null) [
        | Some c ↦ ap (λ k. cond (is_key s c) Null (value_by k s c index [])) is ∙ elim (is_key s c) as (λ b. cond b Null Null ≡ Null) [ true ↦ refl | false ↦ refl ]
        | None ↦ refl
      ]
  column_value-first index (r ∷ rows) all =
      elim (slice_get s.columns index) as (λ o. slice_get s.columns index ≡ o → option_map_or (value_in s index (r ∷ rows)) o Null ≡ option_map_or (λ (c : Column). value_at r.1 index) o Null) [
        | Some c ↦ λ at. elim (is_key s c) as (λ b. is_key s c ≡ b → cond b (last_value (values_at index (r ∷ rows))) (value_by s.options.engine s c index (r ∷ rows)) ≡ value_at r.1 index) [
          | true ↦ λ own. last-same index r rows (value_at r.1 index) refl (same_values index c r rows at own all.0 all.1)
          | false ↦ λ other. ap (λ k. value_by k s c index (r ∷ rows)) is
        ] refl
        | None ↦ λ at. refl
      ] refl

  -- taken rows with one first row are worth the same
  same_first : (xs ys : List HistoryRow) → AreTaken (meaning_of s) key xs → AreTaken (meaning_of s) key ys → first_of xs ≡ first_of ys
      → is_some (last_or None xs) ≡ is_some (last_or None ys) → SameWorth (meaning_of s) xs ys
  same_first xs ys one two e some = record {
    value = λ index. column_value-first index xs one
        ∙ ap (λ o. option_map_or (λ (c : Column). value_of index o) (slice_get s.columns index) Null) e
        ∙ sym (column_value-first index ys two);
    shows = ap (λ k. shows_by k xs) is ∙ some ∙ sym (ap (λ k. shows_by k ys) is);
  }

  -- a fitting row has what it is worth by itself
  alone : (r : HistoryRow) (index : ℕ) → IsTaken (meaning_of s) key r → column_value s index (r ∷ []) ≡ value_at r.1 index
  unfolding first_of value_of
  alone r index taken =
      column_value-first index (r ∷ []) (taken, tt)
      ∙ elim (slice_get s.columns index) as (λ o. slice_get s.columns index ≡ o → option_map_or (λ (c : Column). value_at r.1 index) o Null ≡ value_at r.1 index) [
        | Some c ↦ λ e. refl
        | None ↦ λ e. sym (value_past s.columns r.1 index taken.fits e)
      ] refl

-- ---- the laws

some_last : {A : Type 0} (o : Option A) (x : A) (xs : List A) → is_some (last_or o (x ∷ xs)) ≡ true
some_last o x [] = refl
some_last o x (y ∷ ys) = some_last (Some x) y ys

some_after-last : {A : Type 0} (o : Option A) (xs : List A) (y : A) (ys : List A) → is_some (last_or o (xs ++ y ∷ ys)) ≡ true
some_after-last o [] y ys = some_last o y ys
some_after-last o (x ∷ xs) y ys = some_after-last (Some x) xs y ys

-- rows that add alone are taken, so a taken row may be stored
pub adds : (s : TableSchema) (kind : Kind) → s.options.engine ≡ FirstRow → verdict s kind ≡ Take → retracts kind ≡ false
adds s kind is taken =
    elim (retracts kind) as (λ b. retracts kind ≡ b → cond b (cond s.options.ignore_delete Ignore (verdict_by s.options.engine s)) Take ≡ Take → b ≡ false) [
      | false ↦ λ e _. refl
      | true ↦ λ e t. absurd (never s.options.ignore_delete (ap (λ k. cond s.options.ignore_delete Ignore (verdict_by k s)) (sym is) ∙ t))
    ] refl taken
  where
    never : (b : Bool) → cond b Ignore RefuseAll ≡ Take → ⊥
    never true e = cc
    never false e = cc

stored : (s : TableSchema) (kind : Kind) → s.options.engine ≡ FirstRow → verdict s kind ≡ Take → IsTrue (stores s kind)
stored s kind is taken = ap (λ k. stores_by k kind) is ∙ ap not (adds s kind is taken)

first_kind-append : (x y : List HistoryRow) → x ≢ [] → first_kind x ≡ first_kind (x ++ y)
first_kind-append [] y some = absurd (some refl)
first_kind-append (r ∷ x) y some = refl

-- the older rows' kind is that of both
pub combines-kind : (s : TableSchema) (kind : Kind) (x y : List HistoryRow) → s.options.engine ≡ FirstRow → x ≢ [] → kind ≡ (meaning_of s).kind x → kind ≡ (meaning_of s).kind (x ++ y)
combines-kind s kind x y is some own =
    own ∙ ap (λ k. kind_by k x) is ∙ first_kind-append x y some ∙ sym (ap (λ k. kind_by k (x ++ y)) is)

-- a taken row speaks for itself
pub lifts : (s : TableSchema) (kind : Kind) (row : Values) → s.options.engine ≡ FirstRow → differ (names_of s.columns) ≡ true → verdict s kind ≡ Take → Fits s.columns row
    → SpeaksFor (meaning_of s) (key_of (meaning_of s).primary row) (kind, row) ((kind, row) ∷ [])
lifts s kind row is distinct taken fits =
    let itself : IsTaken (meaning_of s) (key_of (meaning_of s).primary row) (kind, row) = record { fits = fits; verdict = taken; of_key = refl } in
    record {
      some = λ e. cc;
      all_taken = (itself, tt);
      taken = itself;
      kind = stored s kind is taken;
      alone = λ index. alone s (key_of (meaning_of s).primary row) is distinct (kind, row) index itself;
      worth = λ before after _ _. SameWorth-same (meaning_of s) _ _ refl;
    }

first-before : (before xs ys : List HistoryRow) (r : HistoryRow) → first_of (before ++ r ∷ xs) ≡ first_of (before ++ r ∷ ys)
unfolding first_of
first-before [] xs ys r = refl
first-before (q ∷ before) xs ys r = refl

-- the older of two stored rows speaks for both
pub combines : (s : TableSchema) (key : Values) (older newer : HistoryRow) (x y : List HistoryRow) → s.options.engine ≡ FirstRow → differ (names_of s.columns) ≡ true
    → SpeaksFor (meaning_of s) key older x → SpeaksFor (meaning_of s) key newer y → SpeaksFor (meaning_of s) key older (x ++ y)
combines s key older newer x y is distinct one two = record {
  some = some_after x y two.some;
  all_taken = AreTaken-append (meaning_of s) key x y one.all_taken two.all_taken;
  taken = one.taken;
  kind = one.kind;
  alone = one.alone;
  worth = λ before after before_taken after_taken.
      let m = meaning_of s in
      let later = AreTaken-append m key y after two.all_taken after_taken in
      let joined : before ++ ((x ++ y) ++ after) ≡ before ++ (x ++ (y ++ after)) = ap (λ zs. before ++ zs) (append_assoc x y after) in
      SameWorth-trans m _ _ _ (SameWorth-same m _ _ joined)
      (SameWorth-trans m _ _ _ (one.worth before (y ++ after) before_taken later)
      (same_first s key is distinct (before ++ older ∷ (y ++ after)) (before ++ older ∷ after)
      (AreTaken-append m key before (older ∷ (y ++ after)) before_taken (one.taken, later))
      (AreTaken-append m key before (older ∷ after) before_taken (one.taken, after_taken))
      (first-before before (y ++ after) after older)
      (some_after-last None before older (y ++ after) ∙ sym (some_after-last None before older after))));
}

-- rows show
pub shows_some : (s : TableSchema) (rows : List HistoryRow) → s.options.engine ≡ FirstRow → rows ≢ [] → true ≡ shows s rows
shows_some s [] is some = absurd (some refl)
shows_some s (r ∷ rows) is some = sym (ap (λ k. shows_by k (r ∷ rows)) is ∙ some_last None r rows)

-- no stored row is left out
pub drops_none : (s : TableSchema) (r : HistoryRow) → s.options.engine ≡ FirstRow → false ≡ drops_by s.options.engine r
drops_none s r is = sym (ap (λ k. drops_by k r) is)
