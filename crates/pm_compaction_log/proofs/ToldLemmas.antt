-- What is told of a key by its stored rows is what its rows tell.
use Rattle.std.proofs.Common.{◌≡◌, ◌≢◌, ℕ, suc, ◌+◌, List, [], ◌∷◌, ◌++◌, length, map, Bool, true, false, cond, ◌&&◌, Option, None, Some, refl, sym, ap, subst, ◌∙◌, append_assoc, append-nil, length-append}
use Rattle.std.specs.List.{AllByRecursion, range_with_len}
use Rattle.std.specs.Ordering.{eq_by_cmp, ordering_reverse}
use Rattle.std.specs.declared.cmp.Ordering.TheVariants.{Less, Greater}
use Rattle.std.proofs.Math.Seq.{get_or-append_seam}
use Rattle.pm_options.specs.declared.kinds.EngineKind.{EngineKind}
use Rattle.pm_options.specs.declared.kinds.EngineKind.TheVariants.{Deduplicate, FirstRow, PartialUpdate, Aggregation}
use Rattle.pm_schema.specs.declared.schema.TableSchema.{TableSchema}
use Rattle.pm_values.specs.Fits.{Fits}
use Rattle.pm_values.specs.Order.{Values, key_cmp, key_total}
use Rattle.pm_values.specs.declared.column.Column.{Column}
use Rattle.pm_values.specs.declared.kind.Kind.TheVariants.{UpdateBefore, UpdateAfter}
use Rattle.pm_values.specs.declared.record.Change.{Change}
use Rattle.pm_values.specs.declared.value.Value.TheVariants.{Null}
use Rattle.pm_model_history.specs.Merge.{HistoryRow, key_of, value_at}
use Rattle.pm_model_history.specs.Merged.{primary_of, shows, shows_by, values_of}
use Rattle.pm_model_following.specs.Following.{told}
use Rattle.pm_model_changelog.specs.Log.{shown_of}
use Rattle.pm_engine.specs.Covers.{row_of}
use Rattle.pm_engine.specs.Meaning.{SpeaksFor}
use Rattle.pm_engine.specs.OfSchema.{meaning_of}
use Rattle.pm_engine.specs.Stored.{as_row}
use Rattle.pm_engine.specs.declared.stored.Stored.{Stored}
use Rattle.pm_engine.proofs.Facts.{shows_for, value_for}
use Rattle.pm_run.specs.Writing.{HasOwnKey}
use Rattle.pm_changelog.specs.GroupLog.{IsGroupLog, IsNext, stamped_from}
use Rattle.pm_compaction_log.specs.Told.{HasStored, IsUpon, Tells, changes_of, shown_by}

-- ---- the values of a stored row

-- the values at the indexes of a list are the list
values_at_indexes : (before after : Values) → map (λ index. value_at (before ++ after) index) (range_with_len (length before) (length after)) ≡ after
values_at_indexes before [] = refl
values_at_indexes before (v ∷ vs) =
    let here : value_at (before ++ v ∷ vs) (length before) ≡ v = get_or-append_seam before v vs Null in
    let longer : length (before ++ v ∷ []) ≡ length before + 1 = length-append before (v ∷ []) in
    let rest : map (λ index. value_at (before ++ v ∷ vs) index) (range_with_len (length before + 1) (length vs)) ≡ vs =
    subst (λ n. map (λ index. value_at (before ++ v ∷ vs) index) (range_with_len n (length vs)) ≡ vs) longer
    (subst (λ xs. map (λ index. value_at xs index) (range_with_len (length (before ++ v ∷ [])) (length vs)) ≡ vs) (append_assoc before (v ∷ []) vs) (values_at_indexes (before ++ v ∷ []) vs)) in
    λ i. here i ∷ rest i

length-fits : (columns : List Column) (values : Values) → Fits columns values → length values ≡ length columns
length-fits [] [] fits = refl
length-fits [] (v ∷ vs) fits = absurd fits
length-fits (c ∷ cs) [] fits = absurd fits
length-fits (c ∷ cs) (v ∷ vs) fits = ap suc (length-fits cs vs fits.1)

shows-nothing : (engine : EngineKind) → shows_by engine [] ≡ false
shows-nothing Deduplicate = refl
shows-nothing FirstRow = refl
shows-nothing PartialUpdate = refl
shows-nothing Aggregation = refl

module _ (s : TableSchema) where
  values-own : (key : Values) (v : Stored) (rows : List HistoryRow) → SpeaksFor (meaning_of s) key (as_row v) rows → values_of s rows ≡ v.row
  values-own key v rows speaks =
      let is : (index : ℕ) → (meaning_of s).value index rows ≡ value_at v.row index = λ index. value_for (meaning_of s) key (as_row v) rows index speaks in
      (λ i. map (λ index. is index i) (range_with_len 0 (length s.columns)))
      ∙ subst (λ n. map (λ index. value_at v.row index) (range_with_len 0 n) ≡ v.row) (length-fits s.columns v.row speaks.taken.fits) (values_at_indexes [] v.row)

  -- ---- what a key shows

  shown-stored : (key : Values) (v : Stored) (rows : List HistoryRow) → SpeaksFor (meaning_of s) key (as_row v) rows → shown_by (meaning_of s) (Some v) ≡ shown_of s rows
  shown-stored key v rows speaks =
      let shown : shows s rows ≡ shows s (as_row v ∷ []) = shows_for (meaning_of s) key (as_row v) rows speaks in
      let own = values-own key v rows speaks in
      sym (λ i. cond (shown i) (Some (own i)) None)

  shown-nothing : shown_of s [] ≡ None
  shown-nothing = ap (λ b. cond b (Some (values_of s [])) None) (shows-nothing s.options.engine)

  shown-older : (key : Values) (older : Option Stored) (rows : List HistoryRow) → HasStored (meaning_of s) key older rows → shown_by (meaning_of s) older ≡ shown_of s rows
  shown-older key None rows none = sym (ap (shown_of s) none ∙ shown-nothing)
  shown-older key (Some v) rows speaks = shown-stored key v rows speaks

  -- ---- rows that are told of a key

  abbrev IsOwn : Values → Values → Type 0
  IsOwn key row = Fits s.columns row × (key ≡ key_of (primary_of s) row)

  abbrev MayShow : Values → Option Values → Type 0
  MayShow key None = Unit {0}
  MayShow key (Some row) = IsOwn key row

  -- each fits, and has the key
  abbrev pub HaveKey : Values → List HistoryRow → Type 0
  HaveKey key rows = AllByRecursion (λ (r : HistoryRow). IsOwn key r.1) rows

  may-show : (key : Values) (v : Stored) (rows : List HistoryRow) → SpeaksFor (meaning_of s) key (as_row v) rows → MayShow key (shown_by (meaning_of s) (Some v))
  may-show key v rows speaks =
      elim (shows s (as_row v ∷ [])) as (λ b. MayShow key (cond b (Some v.row) None)) [
        | true ↦ (speaks.taken.fits, sym speaks.taken.of_key)
        | false ↦ tt
      ]

  may-show-older : (key : Values) (older : Option Stored) (rows : List HistoryRow) → HasStored (meaning_of s) key older rows → MayShow key (shown_by (meaning_of s) older)
  may-show-older key None rows none = tt
  may-show-older key (Some v) rows speaks = may-show key v rows speaks

  told-own : (key : Values) (equal_out : Bool) (old new : Option Values) → MayShow key old → MayShow key new → HaveKey key (told equal_out old new)
  told-own key equal_out None None one two = tt
  told-own key equal_out None (Some new) one two = (two, tt)
  told-own key equal_out (Some old) None one two = (one, tt)
  told-own key equal_out (Some old) (Some new) one two =
      elim (equal_out && eq_by_cmp key_cmp old new) as (λ b. HaveKey key (cond b [] ((UpdateBefore, old) ∷ (UpdateAfter, new) ∷ []))) [
        | true ↦ tt
        | false ↦ (one, (two, tt))
      ]

  -- the newer row upon the older one speaks for all rows
  speaks-upon : (key : Values) (older : Option Stored) (newer now : Stored) (before after : List HistoryRow) → IsUpon (meaning_of s) older newer now → HasStored (meaning_of s) key older before
      → SpeaksFor (meaning_of s) key (as_row newer) after → SpeaksFor (meaning_of s) key (as_row now) (before ++ after)
  speaks-upon key None newer now before after same none speaks =
      subst (λ (rows : List HistoryRow). SpeaksFor (meaning_of s) key (as_row now) (rows ++ after)) (sym none) (subst (λ (v : Stored). SpeaksFor (meaning_of s) key (as_row v) after) (sym same) speaks)
  speaks-upon key (Some older) newer now before after upon stored speaks = upon key before after stored speaks

  -- what the changes tell, and that each row has the key
  pub told-key : (equal_out : Bool) (key : Values) (older : Option Stored) (newer : Stored) (more : List Change) (before after : List HistoryRow) → Tells (meaning_of s) equal_out key older newer more
      → HasStored (meaning_of s) key older before → SpeaksFor (meaning_of s) key (as_row newer) after
      → (more ≡ changes_of key (told equal_out (shown_of s before) (shown_of s (before ++ after)))) × HaveKey key (told equal_out (shown_of s before) (shown_of s (before ++ after)))
  told-key equal_out key older newer more before after (now, upon, is) stored speaks =
      let all = speaks-upon key older newer now before after upon stored speaks in
      let old = shown-older key older before stored in
      let new = shown-stored key now (before ++ after) all in (
        is ∙ (λ i. changes_of key (told equal_out (old i) (new i))),
        subst (λ (o : Option Values). HaveKey key (told equal_out o (shown_of s (before ++ after)))) old
            (subst (λ (o : Option Values). HaveKey key (told equal_out (shown_by (meaning_of s) older) o)) new
            (told-own key equal_out (shown_by (meaning_of s) older) (shown_by (meaning_of s) (Some now)) (may-show-older key older before stored) (may-show key now (before ++ after) all))),
      )

  -- ---- a log with more

  rows-changes : (n : ℕ) (key : Values) (rows : List HistoryRow) → map row_of (stamped_from n (changes_of key rows)) ≡ rows
  rows-changes n key [] = refl
  rows-changes n key (r ∷ rows) = ap (λ rs. r ∷ rs) (rows-changes (n + 1) key rows)

  rows-more : (n : ℕ) (log : List Change) (key : Values) (rows : List HistoryRow) → map row_of (stamped_from n (log ++ changes_of key rows)) ≡ map row_of (stamped_from n log) ++ rows
  rows-more n [] key rows = rows-changes n key rows
  rows-more n (c ∷ log) key rows = ap (λ (rs : List HistoryRow). (c.kind, c.row) ∷ rs) (rows-more (n + 1) log key rows)

  own-changes : (n : ℕ) (key : Values) (rows : List HistoryRow) → HaveKey key rows → AllByRecursion (HasOwnKey s) (stamped_from n (changes_of key rows))
  own-changes n key [] own = tt
  own-changes n key (r ∷ rows) own = (record { fits = own.0.0; own = own.0.1 }, own-changes (n + 1) key rows own.1)

  own-more : (n : ℕ) (log : List Change) (key : Values) (rows : List HistoryRow) → AllByRecursion (HasOwnKey s) (stamped_from n log) → HaveKey key rows
      → AllByRecursion (HasOwnKey s) (stamped_from n (log ++ changes_of key rows))
  own-more n [] key rows own have = own-changes n key rows have
  own-more n (c ∷ log) key rows own have = (own.0, own-more (n + 1) log key rows own.1 have)

  pub log-more : (rows : List HistoryRow) (log : List Change) (key : Values) (more : List HistoryRow) → IsGroupLog s rows log → HaveKey key more → IsGroupLog s (rows ++ more) (log ++ changes_of key more)
  log-more rows log key more is have = record {
    told = rows-more 0 log key more ∙ ap (λ (rs : List HistoryRow). rs ++ more) is.told;
    own = own-more 0 log key more is.own have;
  }

-- ---- the order of keys

-- a change of the key more may be followed by another one
pub next-more : (log : List Change) (key : Values) (c : Change) → c.key ≡ key → IsNext log key → IsNext (log ++ c ∷ []) key
next-more [] key c same next = ((λ e. itself (ap (λ k. key_cmp k key) (sym same) ∙ e)), tt)
  where
    itself : key_cmp key key ≢ Greater
    itself e =
        let back : Greater ≡ Less = sym e ∙ key_total.antisymm key key ∙ ap ordering_reverse e in cc
next-more (d ∷ log) key c same next = (next.0, next-more log key c same next.1)

-- ---- a pair of rows

abbrev pair_of : Values → Values → List HistoryRow
pair_of old new = (UpdateBefore, old) ∷ (UpdateAfter, new) ∷ []

pub left-out-told : (equal_out : Bool) (old new : Values) (log : List Change) (key : Values) → (equal_out && eq_by_cmp key_cmp old new) ≡ true
    → log ≡ log ++ changes_of key (told equal_out (Some old) (Some new))
left-out-told equal_out old new log key test =
    sym (append-nil log) ∙ sym (ap (λ (b : Bool). log ++ changes_of key (cond b [] (pair_of old new))) test)

pub pair-told : (equal_out : Bool) (old new : Values) (log mid last : List Change) (key : Values) → (equal_out && eq_by_cmp key_cmp old new) ≡ false
    → mid ≡ log ++ record { key = key; kind = UpdateBefore; row = old } ∷ [] → last ≡ mid ++ record { key = key; kind = UpdateAfter; row = new } ∷ []
    → last ≡ log ++ changes_of key (told equal_out (Some old) (Some new))
pair-told equal_out old new log mid last key test one two =
    two ∙ ap (λ (cs : List Change). cs ++ record { key = key; kind = UpdateAfter; row = new } ∷ []) one
    ∙ append_assoc log (record { key = key; kind = UpdateBefore; row = old } ∷ []) (record { key = key; kind = UpdateAfter; row = new } ∷ [])
    ∙ sym (ap (λ (b : Bool). log ++ changes_of key (cond b [] (pair_of old new))) test)
