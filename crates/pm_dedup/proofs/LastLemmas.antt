-- With deduplication rows are worth what the last of them is.
use Rattle.std.proofs.Common.{◌≡◌, ◌≢◌, ℕ, List, [], ◌∷◌, ◌++◌, map, true, false, not, cond, Option, Some, None, IsTrue, refl, sym, ap, ◌∙◌, append_assoc, slice_get}
use Rattle.std.specs.List.{last_or}
use Rattle.std.specs.Option.{option_map, option_map_or, unwrap_or}
use Rattle.pm_options.specs.declared.kinds.EngineKind.TheVariants.{Deduplicate}
use Rattle.pm_schema.specs.declared.schema.TableSchema.{TableSchema}
use Rattle.pm_values.specs.Kind.{retracts}
use Rattle.pm_values.specs.Order.{Values}
use Rattle.pm_values.specs.Fits.{Fits}
use Rattle.pm_values.specs.declared.column.Column.{Column}
use Rattle.pm_values.specs.declared.kind.Kind.{Kind}
use Rattle.pm_values.specs.declared.kind.Kind.TheVariants.{Insert}
use Rattle.pm_values.specs.declared.value.Value.TheVariants.{Null}
use Rattle.pm_model_history.specs.ColumnValue as worth
use Rattle.pm_model_history.specs.ColumnValue.{column_value, last_value, value_by, value_in, values_at}
use Rattle.pm_model_history.specs.Merge.{HistoryRow, key_of, value_at}
use Rattle.pm_model_history.specs.Merged.{shows, shows_by}
use Rattle.pm_model_history.specs.Taken.{is_key, stores, stores_by, verdict}
use Rattle.pm_model_history.specs.declared.verdict.Verdict.TheVariants.{Take}
use Rattle.pm_engine.specs.Meaning.{HasNoEffect, IsTaken, SameWorth, SpeaksFor}
use Rattle.pm_engine.specs.OfSchema.{kind_by, meaning_of}
use Rattle.pm_engine.proofs.Facts.{AreTaken-append, SameWorth-same, SameWorth-sym, SameWorth-trans, some_after, value_past}

last_of-some : {A : Type 0} (o : Option A) (xs : List A) → xs ≢ [] → last_or o xs ≡ last_or None xs
last_of-some o [] some = absurd (some refl)
last_of-some o (x ∷ xs) some = refl

-- what stands before some rows doesn't count
last_of-append : {A : Type 0} (o : Option A) (xs ys : List A) → ys ≢ [] → last_or o (xs ++ ys) ≡ last_or None ys
last_of-append o [] ys some = last_of-some o ys some
last_of-append o (x ∷ xs) ys some = last_of-append (Some x) xs ys some

last_of-map : {A B : Type 0} (f : A → B) (o : Option A) (xs : List A) → last_or (option_map f o) (map f xs) ≡ option_map f (last_or o xs)
last_of-map f o [] = refl
last_of-map f o (x ∷ xs) = last_of-map f (Some x) xs

last_value-rows : (index : ℕ) (rows : List HistoryRow) → last_value (values_at index rows) ≡ unwrap_or (option_map (λ (r : HistoryRow). value_at r.1 index) (last_or None rows)) Null
last_value-rows index rows = ap (λ o. unwrap_or o Null) (last_of-map (λ (r : HistoryRow). value_at r.1 index) None rows)

-- each column has its value in the last row
column_value-last : (s : TableSchema) (index : ℕ) (rows : List HistoryRow) → s.options.engine ≡ Deduplicate
    → column_value s index rows ≡ option_map_or (λ (c : Column). unwrap_or (option_map (λ (r : HistoryRow). value_at r.1 index) (last_or None rows)) Null) (slice_get s.columns index) Null
unfolding worth.column_value
column_value-last s index rows is =
    elim (slice_get s.columns index) as (λ o. option_map_or (value_in s index rows) o Null ≡ option_map_or (λ (c : Column). unwrap_or (option_map (λ (r : HistoryRow). value_at r.1 index) (last_or None rows)) Null) o Null) [
      | Some c ↦ ap (λ k. cond (is_key s c) (last_value (values_at index rows)) (value_by k s c index rows)) is
          ∙ elim (is_key s c) as (λ b. cond b (last_value (values_at index rows)) (last_value (values_at index rows)) ≡ last_value (values_at index rows)) [ true ↦ refl | false ↦ refl ]
          ∙ last_value-rows index rows
      | None ↦ refl
    ]

-- rows with one last row are worth the same
same_last : (s : TableSchema) (xs ys : List HistoryRow) → s.options.engine ≡ Deduplicate → last_or None xs ≡ last_or None ys → SameWorth (meaning_of s) xs ys
same_last s xs ys is e = record {
  value = λ index. column_value-last s index xs is
      ∙ ap (λ o. option_map_or (λ (c : Column). unwrap_or (option_map (λ (r : HistoryRow). value_at r.1 index) o) Null) (slice_get s.columns index) Null) e
      ∙ sym (column_value-last s index ys is);
  shows = ap (λ k. shows_by k xs) is ∙ ap (λ o. option_map_or (λ (r : HistoryRow). not (retracts r.0)) o false) e ∙ sym (ap (λ k. shows_by k ys) is);
}

-- what stands before some rows doesn't count
same_after : (s : TableSchema) (before xs : List HistoryRow) → s.options.engine ≡ Deduplicate → xs ≢ [] → SameWorth (meaning_of s) (before ++ xs) xs
same_after s before xs is some = same_last s (before ++ xs) xs is (last_of-append None before xs some)

-- a fitting row has what it is worth by itself
pub alone : (s : TableSchema) (r : HistoryRow) (index : ℕ) → s.options.engine ≡ Deduplicate → Fits s.columns r.1 → column_value s index (r ∷ []) ≡ value_at r.1 index
alone s r index is fits =
    column_value-last s index (r ∷ []) is
    ∙ elim (slice_get s.columns index) as (λ o. slice_get s.columns index ≡ o → option_map_or (λ (c : Column). value_at r.1 index) o Null ≡ value_at r.1 index) [
      | Some c ↦ λ e. refl
      | None ↦ λ e. sym (value_past s.columns r.1 index fits e)
    ] refl

-- with deduplication a stored row may have any kind
any_kind : (s : TableSchema) (kind : Kind) → s.options.engine ≡ Deduplicate → IsTrue (stores s kind)
any_kind s kind is = ap (λ k. stores_by k kind) is

-- the newer rows' kind is that of both
pub combines-kind : (s : TableSchema) (kind : Kind) (x y : List HistoryRow) → s.options.engine ≡ Deduplicate → y ≢ [] → kind ≡ (meaning_of s).kind y → kind ≡ (meaning_of s).kind (x ++ y)
combines-kind s kind x y is some own =
    own ∙ ap (λ k. kind_by k y) is
    ∙ ap (λ o. option_map_or (λ (r : HistoryRow). r.0) o Insert) (sym (last_of-append None x y some))
    ∙ sym (ap (λ k. kind_by k (x ++ y)) is)

-- a taken row speaks for itself
pub lifts : (s : TableSchema) (kind : Kind) (row : Values) → s.options.engine ≡ Deduplicate → verdict s kind ≡ Take → Fits s.columns row
    → SpeaksFor (meaning_of s) (key_of (meaning_of s).primary row) (kind, row) ((kind, row) ∷ [])
lifts s kind row is taken fits =
    let itself : IsTaken (meaning_of s) (key_of (meaning_of s).primary row) (kind, row) = record { fits = fits; verdict = taken; of_key = refl } in
    record {
      some = λ e. cc;
      all_taken = (itself, tt);
      taken = itself;
      kind = any_kind s kind is;
      alone = λ index. alone s (kind, row) index is fits;
      worth = λ before after _ _. SameWorth-same (meaning_of s) _ _ refl;
    }

-- the newer of two stored rows speaks for both
pub combines : (s : TableSchema) (key : Values) (older newer : HistoryRow) (x y : List HistoryRow) → s.options.engine ≡ Deduplicate
    → SpeaksFor (meaning_of s) key older x → SpeaksFor (meaning_of s) key newer y → SpeaksFor (meaning_of s) key newer (x ++ y)
combines s key older newer x y is one two = record {
  some = some_after x y two.some;
  all_taken = AreTaken-append (meaning_of s) key x y one.all_taken two.all_taken;
  taken = two.taken;
  kind = two.kind;
  alone = two.alone;
  worth = λ before after before_taken after_taken.
      let m = meaning_of s in
      let joined : before ++ ((x ++ y) ++ after) ≡ (before ++ x) ++ (y ++ after) = ap (λ zs. before ++ zs) (append_assoc x y after) ∙ sym (append_assoc before x (y ++ after)) in
      let some : newer ∷ after ≢ [] = λ e. cc in
      SameWorth-trans m _ _ _ (SameWorth-same m _ _ joined)
      (SameWorth-trans m _ _ _ (two.worth (before ++ x) after (AreTaken-append m key before x before_taken one.all_taken) after_taken)
      (SameWorth-trans m _ _ _ (same_after s (before ++ x) (newer ∷ after) is some) (SameWorth-sym m _ _ (same_after s before (newer ∷ after) is some))));
}

-- a row that retracts has no effect before later rows
pub drops : (s : TableSchema) (key : Values) (r : HistoryRow) → s.options.engine ≡ Deduplicate → retracts r.0 ≡ true → HasNoEffect (meaning_of s) key (r ∷ [])
drops s key r is retracting = record {
  hidden = ap (λ k. shows_by k (r ∷ [])) is ∙ ap not retracting;
  worth = λ after some _. same_after s (r ∷ []) after is some;
}

-- a stored row shows unless it retracts
pub shows_alone : (s : TableSchema) (r : HistoryRow) → s.options.engine ≡ Deduplicate → not (retracts r.0) ≡ shows s (r ∷ [])
shows_alone s r is = sym (ap (λ k. shows_by k (r ∷ [])) is)
