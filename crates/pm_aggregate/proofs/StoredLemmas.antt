-- A stored row that was made column by column, in an engine that stores rows that insert, speaks for the rows that it
-- was made of.
use Rattle.std.proofs.Common.{◌≡◌, ℕ, zero, suc, ◌+◌, List, [], ◌∷◌, ◌++◌, map, length, Bool, true, false, not, ◌||◌, cond, Option, Some, None, IsTrue, refl, sym, ap, subst, ◌∙◌, append_assoc, slice_get, is_some, arith}
use Rattle.std.specs.List.{last_or, position_or_len}
use Rattle.std.specs.Option.{option_map_or, unwrap_or}
use Rattle.std.specs.Str.{bytes_eq}
use Rattle.std.proofs.lemmas.List.{map-append}
use Rattle.std.proofs.lemmas.Slice.Eq.{bytes_eq-Decides}
use Rattle.pm_schema.specs.Rules.{is_among}
use Rattle.pm_schema.specs.declared.schema.TableSchema.{TableSchema}
use Rattle.pm_values.specs.Fits.{Fits, FitsColumn}
use Rattle.pm_values.specs.Order.{Values}
use Rattle.pm_values.specs.declared.column.Column.{Column}
use Rattle.pm_values.specs.declared.kind.Kind.TheVariants.{Insert}
use Rattle.pm_values.specs.declared.value.Value.TheVariants.{Null}
use Rattle.pm_model_history.specs.ColumnValue as worth
use Rattle.pm_model_history.specs.ColumnValue.{column_value, index_of, last_value, value_by, value_in, values_at}
use Rattle.pm_model_history.specs.Merge.{HistoryRow, key_of, value_at}
use Rattle.pm_model_history.specs.Merged.{primary_of, shows}
use Rattle.pm_model_history.specs.Taken.{is_key, stores}
use Rattle.pm_engine.specs.Meaning.{AreTaken, IsTaken, Meaning, SpeaksFor}
use Rattle.pm_engine.specs.OfSchema.{meaning_of}
use Rattle.pm_engine.proofs.Facts.{AreTaken-append, SameWorth-same, SameWorth-trans, some_after, value_past}
use Rattle.pm_aggregate.proofs.JoinLemmas.{last_or-append}

-- ---- rows by their columns

-- a row fits where each of its values fits its column
pub Fits-from_columns : (columns : List Column) (values : Values) → length values ≡ length columns
    → ((i : ℕ) (c : Column) → slice_get columns i ≡ Some c → FitsColumn c (value_at values i)) → Fits columns values
Fits-from_columns [] [] size fits = tt
Fits-from_columns [] (v ∷ vs) size fits = cc
Fits-from_columns (c ∷ cs) [] size fits = cc
Fits-from_columns (c ∷ cs) (v ∷ vs) size fits =
    let rest : length vs ≡ length cs = omega (arith, size) in
    (fits zero c refl, Fits-from_columns cs vs rest (λ i d at. fits (suc i) d at))

-- and each value of a row that fits does
pub Fits-column : (columns : List Column) (values : Values) (i : ℕ) (c : Column) → Fits columns values → slice_get columns i ≡ Some c → FitsColumn c (value_at values i)
Fits-column [] [] i c fits at = cc
Fits-column [] (v ∷ vs) i c fits at = absurd fits
Fits-column (d ∷ ds) [] i c fits at = absurd fits
Fits-column (d ∷ ds) (v ∷ vs) zero c fits at = let same : d ≡ c = cc in subst (λ (x : Column). FitsColumn x v) same fits.0
Fits-column (d ∷ ds) (v ∷ vs) (suc i) c fits at = Fits-column ds vs i c fits.1 at

-- a row that fits has as many values as there are columns
pub Fits-length : (columns : List Column) (values : Values) → Fits columns values → length values ≡ length columns
Fits-length [] [] fits = refl
Fits-length [] (v ∷ vs) fits = absurd fits
Fits-length (d ∷ ds) [] fits = absurd fits
Fits-length (d ∷ ds) (v ∷ vs) fits = ap suc (Fits-length ds vs fits.1)

-- ---- keys

-- where a name stands among columns, if it does, a column of that name is
pub at_name : (columns : List Column) (name : List ℕ) (c : Column) → slice_get columns (position_or_len (λ (d : Column). bytes_eq d.name name) columns) ≡ Some c → bytes_eq c.name name ≡ true
at_name [] name c at = cc
at_name (d ∷ ds) name c at =
    elim (bytes_eq d.name name) as (λ t. bytes_eq d.name name ≡ t → slice_get (d ∷ ds) (cond (not t) (1 + position_or_len (λ (x : Column). bytes_eq x.name name) ds) 0) ≡ Some c → bytes_eq c.name name ≡ true) [
      | true ↦ λ e here. let same : d ≡ c = cc in ap (λ (x : Column). bytes_eq x.name name) (sym same) ∙ e
      | false ↦ λ _ later. at_name ds name c (subst (λ n. slice_get (d ∷ ds) n ≡ Some c) (one_more (position_or_len (λ (x : Column). bytes_eq x.name name) ds)) later)
    ] refl at
  where
    one_more : (n : ℕ) → 1 + n ≡ suc n
    one_more n = omega arith

among_here : (names : List (List ℕ)) (name other : List ℕ) → bytes_eq other name ≡ true → is_among (name ∷ names) other ≡ true
among_here names name other e =
    ap (λ b. b || is_among names other) ((bytes_eq-Decides name other).1 (sym ((bytes_eq-Decides other name).0 e)))

among_later : (names : List (List ℕ)) (name other : List ℕ) → is_among names other ≡ true → is_among (name ∷ names) other ≡ true
among_later names name other e = ap (λ b. bytes_eq name other || b) e ∙ or_true (bytes_eq name other)
  where
    or_true : (b : Bool) → (b || true) ≡ true
    or_true true = refl
    or_true false = refl

-- rows have one key, where they have one value in each column of the key, and past the last column
pub key-same : (s : TableSchema) (a b : Values) → ((i : ℕ) (c : Column) → slice_get s.columns i ≡ Some c → is_key s c ≡ true → value_at a i ≡ value_at b i)
    → ((i : ℕ) → slice_get s.columns i ≡ None → value_at a i ≡ value_at b i) → key_of (primary_of s) a ≡ key_of (primary_of s) b
key-same s a b own past = of s.primary (λ c e. e)
  where
    one : (name : List ℕ) → ((c : Column) → bytes_eq c.name name ≡ true → is_key s c ≡ true) → value_at a (index_of s name) ≡ value_at b (index_of s name)
    one name among =
        elim (slice_get s.columns (index_of s name)) as (λ o. slice_get s.columns (index_of s name) ≡ o → value_at a (index_of s name) ≡ value_at b (index_of s name)) [
          | Some c ↦ λ at. own (index_of s name) c at (among c (at_name s.columns name c at))
          | None ↦ λ at. past (index_of s name) at
        ] refl

    of : (names : List (List ℕ)) → ((c : Column) → is_among names c.name ≡ true → is_key s c ≡ true) → key_of (map (index_of s) names) a ≡ key_of (map (index_of s) names) b
    of [] among = refl
    of (name ∷ names) among =
        let first = one name (λ c e. among c (among_here names name c.name e)) in
        let rest = of names (λ c e. among c (among_later names name c.name e)) in
        ap (λ v. v ∷ key_of (map (index_of s) names) a) first ∙ ap (λ vs. value_at b (index_of s name) ∷ vs) rest

-- ---- the stored row

-- the values before one don't count for the last
last-past : (i : ℕ) (before after : List HistoryRow) (q : HistoryRow) → last_value (values_at i (before ++ q ∷ after)) ≡ last_value (values_at i (q ∷ after))
last-past i before after q =
    ap last_value (map-append (λ (r : HistoryRow). value_at r.1 i) before (q ∷ after))
    ∙ ap (λ o. unwrap_or o Null) (last_or-append None (values_at i before) (values_at i (q ∷ after)))

last-end : (i : ℕ) (before front after : List HistoryRow) (q : HistoryRow) → last_value (values_at i (before ++ ((front ++ q ∷ []) ++ after))) ≡ last_value (values_at i (q ∷ after))
last-end i before front after q =
    ap (λ rows. last_value (values_at i rows)) (ap (λ rows. before ++ rows) (append_assoc front (q ∷ []) after) ∙ sym (append_assoc before front (q ∷ after)))
    ∙ last-past i (before ++ front) after q

-- the last value is that of the first, where the first have one value
last-same : (i : ℕ) (q r : HistoryRow) (after : List HistoryRow) → value_at q.1 i ≡ value_at r.1 i → last_value (values_at i (q ∷ after)) ≡ last_value (values_at i (r ∷ after))
last-same i q r after same = ap (λ v. last_value (v ∷ values_at i after)) same

-- a row was made of rows of which q is the last, column by column
pub record Made (s : TableSchema) (key : Values) (mid : List HistoryRow) (q : HistoryRow) (values : Values) : Type 0 where
  pub size : length values ≡ length s.columns
  -- in a column of the key it has the value of the last of them
  pub own : (i : ℕ) (c : Column) → slice_get s.columns i ≡ Some c → is_key s c ≡ true → value_at values i ≡ value_at q.1 i
  -- in another one, what it is worth by itself, which is worth the same as they are among others
  pub fits : (i : ℕ) (c : Column) → slice_get s.columns i ≡ Some c → is_key s c ≡ false → FitsColumn c (value_at values i)
  pub alone : (i : ℕ) (c : Column) → slice_get s.columns i ≡ Some c → is_key s c ≡ false
      → value_by s.options.engine s c i ((Insert, values) ∷ []) ≡ value_at values i
  pub worth : (i : ℕ) (c : Column) → slice_get s.columns i ≡ Some c → is_key s c ≡ false → (before after : List HistoryRow)
      → AreTaken (meaning_of s) key before → AreTaken (meaning_of s) key after
      → value_by s.options.engine s c i (before ++ (mid ++ after)) ≡ value_by s.options.engine s c i (before ++ (Insert, values) ∷ after)

-- whether rows show, in an engine with which each key shows that has a row
abbrev pub ShowsEach : TableSchema → Type 0
ShowsEach s = (rows : List HistoryRow) → shows s rows ≡ is_some (last_or None rows)

pub some_last : {A : Type 0} (o : Option A) (x : A) (xs : List A) → is_some (last_or o (x ∷ xs)) ≡ true
some_last o x [] = refl
some_last o x (y ∷ ys) = some_last (Some x) y ys

pub some_past : {A : Type 0} (o : Option A) (xs : List A) (y : A) (ys : List A) → is_some (last_or o (xs ++ y ∷ ys)) ≡ true
some_past o [] y ys = some_last o y ys
some_past o (x ∷ xs) y ys = some_past (Some x) xs y ys

module _ (s : TableSchema) (key : Values) (each : ShowsEach s) (stored : IsTrue (stores s Insert)) (front : List HistoryRow) (q : HistoryRow) (values : Values)
    (taken : AreTaken (meaning_of s) key (front ++ q ∷ [])) (last_taken : IsTaken (meaning_of s) key q) (made : Made s key (front ++ q ∷ []) q values) where
  abbrev mid : List HistoryRow
  mid = front ++ q ∷ []

  abbrev row : HistoryRow
  row = (Insert, values)

  fits : Fits s.columns values
  fits = Fits-from_columns s.columns values made.size (λ i c at. column i c at (is_key s c) refl)
    where
      column : (i : ℕ) (c : Column) → slice_get s.columns i ≡ Some c → (b : Bool) → is_key s c ≡ b → FitsColumn c (value_at values i)
      column i c at true own = subst (FitsColumn c) (sym (made.own i c at own)) (Fits-column s.columns q.1 i c last_taken.fits at)
      column i c at false other = made.fits i c at other

  itself : IsTaken (meaning_of s) key row
  itself = record {
    fits = fits;
    verdict = refl;
    of_key = key-same s values q.1 made.own (λ i none. value_past s.columns values i fits none ∙ sym (value_past s.columns q.1 i last_taken.fits none)) ∙ last_taken.of_key;
  }

  alone : (i : ℕ) → column_value s i (row ∷ []) ≡ value_at values i
  unfolding worth.column_value
  alone i =
      elim (slice_get s.columns i) as (λ o. slice_get s.columns i ≡ o → option_map_or (value_in s i (row ∷ [])) o Null ≡ value_at values i) [
        | Some c ↦ λ at. elim (is_key s c) as (λ b. is_key s c ≡ b → cond b (value_at values i) (value_by s.options.engine s c i (row ∷ [])) ≡ value_at values i) [
          | true ↦ λ own. refl
          | false ↦ λ other. made.alone i c at other
        ] refl
        | None ↦ λ at. sym (value_past s.columns values i fits at)
      ] refl

  worth_among : (before after : List HistoryRow) → AreTaken (meaning_of s) key before → AreTaken (meaning_of s) key after → (i : ℕ)
      → column_value s i (before ++ (mid ++ after)) ≡ column_value s i (before ++ row ∷ after)
  unfolding worth.column_value
  worth_among before after one two i =
      elim (slice_get s.columns i) as (λ o. slice_get s.columns i ≡ o → option_map_or (value_in s i (before ++ (mid ++ after))) o Null ≡ option_map_or (value_in s i (before ++ row ∷ after)) o Null) [
        | Some c ↦ λ at. elim (is_key s c) as (λ b. is_key s c ≡ b → cond b (last_value (values_at i (before ++ (mid ++ after)))) (value_by s.options.engine s c i (before ++ (mid ++ after)))
            ≡ cond b (last_value (values_at i (before ++ row ∷ after))) (value_by s.options.engine s c i (before ++ row ∷ after))) [
              | true ↦ λ own. last-end i before front after q ∙ last-same i q row after (sym (made.own i c at own)) ∙ sym (last-past i before after row)
              | false ↦ λ other. made.worth i c at other before after one two
            ] refl
        | None ↦ λ at. refl
      ] refl

  -- it speaks for the rows that it was made of
  pub made-speaks : SpeaksFor (meaning_of s) key (Insert, values) (front ++ q ∷ [])
  made-speaks = record {
    some = some_after front (q ∷ []) (λ e. cc);
    all_taken = taken;
    taken = itself;
    kind = stored;
    alone = alone;
    worth = λ before after one two. record {
      value = worth_among before after one two;
      shows = each (before ++ (mid ++ after)) ∙ ap (λ rows. is_some (last_or None rows)) (ap (λ rows. before ++ rows) (append_assoc front (q ∷ []) after) ∙ sym (append_assoc before front (q ∷ after)))
          ∙ some_past None (before ++ front) q after ∙ sym (some_past None before row after) ∙ sym (each (before ++ row ∷ after));
    };
  }

-- a row that speaks for two stored rows speaks for what both speak for
pub speaks_both : (m : Meaning) (key : Values) (older newer stored : HistoryRow) (x y : List HistoryRow) → SpeaksFor m key older x → SpeaksFor m key newer y
    → SpeaksFor m key stored (older ∷ newer ∷ []) → SpeaksFor m key stored (x ++ y)
speaks_both m key older newer stored x y one two both = record {
  some = some_after x y two.some;
  all_taken = AreTaken-append m key x y one.all_taken two.all_taken;
  taken = both.taken;
  kind = both.kind;
  alone = both.alone;
  worth = λ before after before_taken after_taken.
      let first : before ++ ((x ++ y) ++ after) ≡ before ++ (x ++ (y ++ after)) = ap (λ zs. before ++ zs) (append_assoc x y after) in
      let second : before ++ older ∷ (y ++ after) ≡ (before ++ older ∷ []) ++ (y ++ after) = sym (append_assoc before (older ∷ []) (y ++ after)) in
      let third : (before ++ older ∷ []) ++ newer ∷ after ≡ before ++ ((older ∷ newer ∷ []) ++ after) = append_assoc before (older ∷ []) (newer ∷ after) in
      SameWorth-trans m _ _ _ (SameWorth-same m _ _ first)
      (SameWorth-trans m _ _ _ (one.worth before (y ++ after) before_taken (AreTaken-append m key y after two.all_taken after_taken))
      (SameWorth-trans m _ _ _ (SameWorth-same m _ _ second)
      (SameWorth-trans m _ _ _ (two.worth (before ++ older ∷ []) after (AreTaken-append m key before (older ∷ []) before_taken (one.taken, tt)) after_taken)
      (SameWorth-trans m _ _ _ (SameWorth-same m _ _ third) (both.worth before after before_taken after_taken)))));
}
