-- Frames that were read one after another, put together.
use Rattle.std.proofs.Common.{◌≡◌, ℕ, suc, ◌+◌, ◌-◌, ◌≤◌, List, [], ◌∷◌, ◌++◌, length, refl, sym, ap, subst, ◌∙◌, append-nil, append_assoc, length-append, arith}
use Rattle.std.specs.List.{flat_map, range_with_len}
use Rattle.pm_base.specs.Newline.{line}
use Rattle.pm_store.specs.Files.{Files}
use Rattle.pm_rows.specs.RowText.{row_text}
use Rattle.pm_schema.specs.declared.schema.TableSchema.{TableSchema}
use Rattle.pm_model_history.specs.History.{Entry, GoesOn, History, no_table, table}
use Rattle.pm_model_history.specs.Merge.{HistoryRow}
use Rattle.pm_model_following.specs.Following.{frame, frame_head}
use Rattle.pm_model_folder.specs.Folder.{Folder, HasTable}
use Rattle.pm_model_folder.specs.Ledger.{Past, Stands, count_of}
use Rattle.pm_read_frame.specs.Frames.{AreFramesFrom, IsFrameOf, joined}
use Rattle.pm_read_frame.specs.Meaning.{HasProducer, IsFrame}
use Rattle.pm_read_frame.proofs.ChangeLemmas.{ChangeKept}

-- ---- histories that go on

goes_itself : (h : History) → GoesOn h h
goes_itself no_table = tt
goes_itself (table s entries) = (refl, [], sym (append-nil entries))

goes_further : (h middle later : History) → GoesOn h middle → GoesOn middle later → GoesOn h later
goes_further no_table middle later one two = tt
goes_further (table s entries) no_table later one two = absurd one
goes_further (table s entries) (table t more) no_table one two = absurd two
goes_further (table s entries) (table t more) (table u last) (same, first, is) (again, rest, was) = (
  again ∙ same,
  first ++ rest,
  was ∙ ap (λ (es : List Entry). es ++ rest) is ∙ append_assoc entries first rest,
)

-- ---- frames of a history

pub is_known : (f : Files) (p : Past) (id : ℕ) (text : List ℕ) → Stands f p → IsFrame p id text → IsFrameOf p.history id text
is_known f p id text stands frame = record { files = f; past = p; stood = stands; frame = frame; goes_on = goes_itself p.history }

goes_on : (h later : History) (id : ℕ) (text : List ℕ) → GoesOn h later → IsFrameOf h id text → IsFrameOf later id text
goes_on h later id text goes is = record {
  files = is.files;
  past = is.past;
  stood = is.stood;
  frame = is.frame;
  goes_on = goes_further is.past.history h later is.goes_on goes;
}

pub go_on : (h later : History) (id : ℕ) (texts : List (List ℕ)) → GoesOn h later → AreFramesFrom h id texts → AreFramesFrom later id texts
go_on h later id [] goes are = tt
go_on h later id (text ∷ texts) goes (is, are) = (goes_on h later id text goes is, go_on h later (id + 1) texts goes are)

pub next_one : (h : History) (id : ℕ) (texts : List (List ℕ)) (text : List ℕ) → AreFramesFrom h id texts → IsFrameOf h (id + length texts) text
    → AreFramesFrom h id (texts ++ text ∷ [])
next_one h id [] text are is =
    let same : id + 0 ≡ id = omega arith in
    (subst (λ (id : ℕ). IsFrameOf h id text) same is, tt)
next_one h id (own ∷ texts) text (first, are) is =
    let same : id + suc (length texts) ≡ (id + 1) + length texts = omega arith in
    (first, next_one h (id + 1) texts text are (subst (λ (id : ℕ). IsFrameOf h id text) same is))

-- ---- what they are of a table

module _ (s : TableSchema) (es : List Entry) where
  of_table : (id : ℕ) (text : List ℕ) (is : IsFrameOf (table s es) id text) → GoesOn (table is.frame.schema is.frame.entries) (table s es)
  of_table id text is = subst (λ (h : History). GoesOn h (table s es)) is.frame.is_table is.goes_on

  known_to : (id : ℕ) (text : List ℕ) (is : IsFrameOf (table s es) id text) → id ≤ length is.frame.entries
  known_to id text is = subst (λ (h : History). id ≤ count_of h) is.frame.is_table is.frame.known.to

  is_within : (id : ℕ) (text : List ℕ) → IsFrameOf (table s es) id text → id ≤ length es
  is_within id text is =
      let (same, more, whole) = of_table id text is in
      let size : length es ≡ length (is.frame.entries ++ more) = ap length whole in
      let both = length-append is.frame.entries more in
      let low = known_to id text is in
      omega (arith, size, both, low)

  pub are_within : (id : ℕ) (texts : List (List ℕ)) → AreFramesFrom (table s es) id texts → length texts ≤ suc (length es) - id
  are_within id [] are = omega arith
  are_within id (text ∷ texts) (is, are) =
      let low = is_within id text is in
      let rest = are_within (id + 1) texts are in
      omega (arith, low, rest)

  module _ (kept : ChangeKept) (one : HasProducer s) where
    frame_is : (id : ℕ) (text : List ℕ) → IsFrameOf (table s es) id text → text ≡ frame s es id
    frame_is id text is =
        let (same, more, whole) = of_table id text is in
        let t = is.frame.schema in
        let own = is.frame.entries in
        let folder : HasTable is.files t own = subst (Folder is.files) is.frame.is_table is.stood.folder in
        is.frame.is_text (subst HasProducer same one)
        ∙ ap (λ (rows : List HistoryRow). frame_head id ++ flat_map (λ (r : HistoryRow). line (row_text r.0 r.1)) rows)
        (sym (kept t own more id folder.history.bases (known_to id text is)))
        ∙ sym (λ i. frame (same i) (whole i) id)

    pub frames_are_of : (id : ℕ) (texts : List (List ℕ)) → AreFramesFrom (table s es) id texts
        → joined texts ≡ flat_map (frame s es) (range_with_len id (length texts))
    frames_are_of id [] are = refl
    frames_are_of id (text ∷ texts) (is, are) =
        ap (λ (text : List ℕ). text ++ joined texts) (frame_is id text is)
        ∙ ap (λ (rest : List ℕ). frame s es id ++ rest) (frames_are_of (id + 1) texts are)

pub frames_are : ChangeKept → (s : TableSchema) (es : List Entry) (id : ℕ) (texts : List (List ℕ)) → HasProducer s → AreFramesFrom (table s es) id texts
    → joined texts ≡ flat_map (frame s es) (range_with_len id (length texts))
frames_are kept s es id texts one = frames_are_of s es kept one id texts
