-- Rows that are merged by key.
use Rattle.std.proofs.Common.{◌≡◌, ℕ, List, [], ◌∷◌, ◌++◌, length, map, true, None, IfOk, OnOk, Result, Ok, Err, refl, sym, ap, subst, ◌∙◌, append-nil, arith}
use Rattle.std.specs.List.Sorted.{IsPermutation, IsStableByKey}
use Rattle.std.proofs.lemmas.List.Elements.{All-from_recursion, recursion_from_All}
use Rattle.std.proofs.lemmas.List.Sorted.{All-permutation}
use Rattle.pm_values.specs.Order.{Values, key_cmp}
use Rattle.pm_values.specs.declared.record.Stamped.{Stamped}
use Rattle.pm_schema.specs.declared.schema.TableSchema.{TableSchema}
use Rattle.pm_model_history.specs.Merge.{HistoryRow, key_of, rows_of}
use Rattle.pm_model_history.specs.Merged.{primary_of}
use Rattle.pm_engine.specs.Covers.{row_of}
use Rattle.pm_run.specs.Order.{are_in_order}
use Rattle.pm_model_changelog.specs.Log.{AreByKey}
use Rattle.pm_model_following.specs.Following.{by_key, frame_head}
use Rattle.pm_changelog.proofs.OrderLemmas.{AreSorted, by-key, rise-sorted, same-sorted}
use Rattle.pm_merged_log.specs.Merged.{HaveOwnKeys, change_lines, lines_of, merged_frame}

-- rows by rising key that have of each key the same rows are these by key
abbrev pub OnlyByKey : Type 0
OnlyByKey = (s : TableSchema) (rows given : List HistoryRow) → AreByKey s rows
    → ((key : Values) → rows_of (primary_of s) key rows ≡ rows_of (primary_of s) key given) → rows ≡ by_key s given

-- rows in order are the same by key
in_order : OnlyByKey → (s : TableSchema) (rows : List Stamped) → are_in_order true None rows ≡ true → HaveOwnKeys s rows → map row_of rows ≡ by_key s (map row_of rows)
in_order only s rows order own = only s (map row_of rows) (map row_of rows) (by-key s None rows order own) (λ key. refl)

-- rows that are sorted are those that were, by key
pub sorted_lines : OnlyByKey → (rows sorted : List Stamped) → AreSorted sorted → IsStableByKey (λ (x : Stamped). x.key) key_cmp rows sorted → IsPermutation rows sorted
    → (s : TableSchema) → HaveOwnKeys s rows → lines_of sorted ≡ change_lines (by_key s (map row_of rows))
sorted_lines only rows sorted rises stable same s own =
    let IsOwn = λ (x : Stamped). x.key ≡ key_of (primary_of s) x.row in
    let own_sorted : HaveOwnKeys s sorted = recursion_from_All IsOwn sorted (All-permutation IsOwn rows sorted same (All-from_recursion IsOwn rows own)) in
    ap change_lines (only s (map row_of sorted) (map row_of rows) (rise-sorted s sorted rises own_sorted) (λ key. same-sorted s rows sorted key stable own own_sorted))

-- the frame of one file
pub alone_frame : OnlyByKey → (id : ℕ) (rows last : List Stamped) (head text : List ℕ) → length rows ≡ 0 → are_in_order true None last ≡ true → head ≡ frame_head id
    → text ≡ head ++ lines_of last → (s : TableSchema) → HaveOwnKeys s (rows ++ last) → text ≡ merged_frame s id (rows ++ last)
alone_frame only id [] last head text none order is printed s own =
    printed ∙ ap (λ (head : List ℕ). head ++ lines_of last) is ∙ ap (λ (rows : List HistoryRow). frame_head id ++ change_lines rows) (in_order only s last order own)
alone_frame only id (x ∷ rows) last head text none order is printed s own = absurd (omega (arith, none))

-- the frame of none
pub no_frame : OnlyByKey → (id : ℕ) (s : TableSchema) (text : List ℕ) → text ≡ frame_head id → text ≡ merged_frame s id []
no_frame only id s text is = is ∙ sym (append-nil (frame_head id)) ∙ ap (λ (rows : List HistoryRow). frame_head id ++ change_lines rows) (in_order only s [] refl tt)

pub if_ok : {A E : Type 0} (r : Result A E) (P Q : A → Type 0) → ((a : A) → P a → Q a) → IfOk r P → IfOk r Q
if_ok (Ok a) P Q then is = then a is
if_ok (Err e) P Q then is = tt

-- the lines of all rows, once they are packed and sorted
pub merged_lines : {A E : Type 0} → OnlyByKey → (r : Result A E) (rows packed sorted : List Stamped) (old new : List ℕ) → packed ≡ rows → AreSorted sorted
    → IsStableByKey (λ (x : Stamped). x.key) key_cmp packed sorted → IsPermutation packed sorted → OnOk r (new ≡ old ++ lines_of sorted)
    → OnOk r ((s : TableSchema) → HaveOwnKeys s rows → new ≡ old ++ change_lines (by_key s (map row_of rows)))
merged_lines only (Ok done) rows packed sorted old new is rises stable same printed = λ s own.
    printed ∙ ap (λ (text : List ℕ). old ++ text) (sorted_lines only packed sorted rises stable same s (subst (HaveOwnKeys s) (sym is) own))
    ∙ ap (λ (rows : List Stamped). old ++ change_lines (by_key s (map row_of rows))) is
merged_lines only (Err e) rows packed sorted old new is rises stable same printed = tt
