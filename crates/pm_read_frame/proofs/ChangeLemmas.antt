-- The changelog files of a table have a snapshot's change.
use Rattle.std.proofs.Common.{◌≡◌, ℕ, ◌+◌, ◌≤◌, List, [], ◌∷◌, ◌++◌, map, length, take, drop, Bool, true, false, cond, Option, None, Some, Ok, refl, sym, ap, subst, ◌∙◌, arith, append_assoc, append-nil}
use Rattle.std.specs.Cmp.{Equal-is, tied_itself}
use Rattle.std.specs.FinMap as paths
use Rattle.std.specs.List.{AllByRecursion, flat_map}
use Rattle.std.specs.Ordering.{eq_by_cmp}
use Rattle.std.proofs.lemmas.List.{length-take-le, map-append, take-append-drop}
use Rattle.std.proofs.lemmas.List.Elements.{filter-append}
use Rattle.pm_values.specs.GroupOrder.{group_cmp, group_total}
use Rattle.pm_values.specs.Order.{Values}
use Rattle.pm_values.specs.declared.group.Group.{Group}
use Rattle.pm_values.specs.declared.record.Stamped.{Stamped}
use Rattle.pm_values.specs.declared.refusal.Refusal.{Refusal}
use Rattle.pm_values.proofs.Lemmas.{group_cmp-IsAntisymmetric}
use Rattle.pm_store.specs.Files.{Files}
use Rattle.pm_schema.specs.Again.{IsDeclared}
use Rattle.pm_schema.specs.Reading.{schema_of}
use Rattle.pm_schema.specs.Rules.{partition_holds}
use Rattle.pm_schema.specs.declared.schema.TableSchema.{TableSchema}
use Rattle.pm_model_history.specs.History.{Entry, compaction, append, entry_rows, fence}
use Rattle.pm_model_history.specs.Merge.{AllFit, HistoryRow}
use Rattle.pm_model_following.specs.Following.{HaveBases, by_key, change, frame, frame_head}
use Rattle.pm_model_following.specs.Groups.{group_of, rows_in}
use Rattle.pm_engine.specs.Covers.{row_of}
use Rattle.pm_run.specs.Reader.{OpensRun, RunView, StillGives, before_first}
use Rattle.pm_run.specs.Rows.{Follow, HasRows, Opened, opened_with}
use Rattle.pm_manifest.specs.declared.entry.Entry as files
use Rattle.pm_model_folder.specs.Folder.{HasTable, IsRowOf}
use Rattle.pm_model_folder.specs.Paths.{schema_path}
use Rattle.pm_model_folder.specs.Stored.{HasFile, HoldChanges, HoldsChange, entries_in}
use Rattle.pm_merged_log.specs.Merged.{change_lines, merged_frame}
use Rattle.pm_read_frame.specs.Meaning.{HasProducer}
use Rattle.pm_read_frame.specs.Taken.{HaveTaken, IsReadAs, file_of, files_of}
use Rattle.pm_read_frame.specs.declared.file.ChangesFile.{ChangesFile}

-- ---- what the laws of the crates below say

pub record RowLaws : Type 0 where
  pub follow : (o : Opened) (offset : ℕ) (before : Option Values) (rows others : List Stamped) (end other : Option Refusal) → Follow o offset before rows end
      → Follow o offset before others other → (rows ≡ others) × (end ≡ other)
  pub gives : (s : TableSchema) (changes : Bool) (path bytes : List ℕ) (v : RunView) (rows : List Stamped) → HasRows s changes bytes rows
      → OpensRun s changes s.id path bytes (Ok v) → StillGives v rows None

abbrev pub ChangeKept : Type 0
ChangeKept = (s : TableSchema) (entries more : List Entry) (n : ℕ) → HaveBases 1 entries → n ≤ length entries → change s (entries ++ more) n ≡ change s entries n

pub record FrameLaws : Type 0 where
  pub rows : RowLaws
  pub kept : ChangeKept
  pub parts : (s : TableSchema) (entries : List Entry) (n : ℕ) (rows : List HistoryRow) → partition_holds s ≡ true → AllFit s.columns (flat_map entry_rows entries)
      → ((g : Group) → rows_in s g rows ≡ rows_in s g (change s entries n)) → by_key s rows ≡ change s entries n
  pub declared : (path bytes : List ℕ) (s : TableSchema) → schema_of path bytes ≡ Ok s → IsDeclared s

-- ---- the rows of a file

-- a file is read as the rows that it has
pub read_same : RowLaws → (s : TableSchema) (file : ChangesFile) (bytes : List ℕ) (stored rows : List Stamped) → HasRows s true bytes stored
    → IsReadAs s file bytes rows → rows ≡ stored
read_same laws s file bytes stored rows has (v, (of_it, r, opens, fields, is), follow) =
    let o : Opened = opened_with s true file.path r in
    let given : StillGives v stored None = laws.gives s true file.path bytes v stored has (refl, r, opens, fields, is) in
    let still : StillGives (before_first o) stored None = subst (λ (v : RunView). StillGives v stored None) is given in
    let own : Follow o o.file.first None rows None = subst (λ (v : RunView). Follow v.opened v.opened.file.first None rows None) is follow in
    (laws.follow o o.file.first None rows still.0 None None own still.2).0 ∙ sym still.1

-- ---- the files of the groups

-- rows of a group, of which those of another are asked for
in_group : (s : TableSchema) (h g : Group) (rows : List HistoryRow) → rows_in s g (rows_in s h rows) ≡ cond (eq_by_cmp group_cmp h g) (rows_in s g rows) []
in_group s h g [] = elim (eq_by_cmp group_cmp h g) as (λ b. none ≡ cond b none none) [ true ↦ refl | false ↦ refl ]
  where
    none : List HistoryRow
    none = []
in_group s h g (r ∷ rows) = by_own (in_group s h g rows) (eq_by_cmp group_cmp (group_of s r.1) h) refl
  where
    own : List HistoryRow
    own = rows_in s g rows

    by_own : rows_in s g (rows_in s h rows) ≡ cond (eq_by_cmp group_cmp h g) own [] → (b : Bool) → eq_by_cmp group_cmp (group_of s r.1) h ≡ b
        → rows_in s g (cond b (r ∷ rows_in s h rows) (rows_in s h rows)) ≡ cond (eq_by_cmp group_cmp h g) (rows_in s g (r ∷ rows)) []
    by_own rest true tie =
        let same : group_of s r.1 ≡ h = group_cmp-IsAntisymmetric (group_of s r.1) h ((Equal-is (group_cmp (group_of s r.1) h)).0 tie) in
        subst (λ (k : Group). cond (eq_by_cmp group_cmp k g) (r ∷ rows_in s g (rows_in s h rows)) (rows_in s g (rows_in s h rows))
        ≡ cond (eq_by_cmp group_cmp h g) (cond (eq_by_cmp group_cmp k g) (r ∷ own) own) []) (sym same)
        (ap (λ (xs : List HistoryRow). cond (eq_by_cmp group_cmp h g) (r ∷ xs) xs) rest
        ∙ elim (eq_by_cmp group_cmp h g) as (λ b. cond b (r ∷ cond b own []) (cond b own []) ≡ cond b (cond b (r ∷ own) own) []) [ true ↦ refl | false ↦ refl ])
    by_own rest false apart = rest ∙ by_other (eq_by_cmp group_cmp h g) refl
      where
        by_other : (b : Bool) → eq_by_cmp group_cmp h g ≡ b → cond b own [] ≡ cond b (rows_in s g (r ∷ rows)) []
        by_other true tie =
            let same : h ≡ g = group_cmp-IsAntisymmetric h g ((Equal-is (group_cmp h g)).0 tie) in
            let other : eq_by_cmp group_cmp (group_of s r.1) g ≡ false = subst (λ (k : Group). eq_by_cmp group_cmp (group_of s r.1) k ≡ false) same apart in
            sym (ap (λ b. cond b (r ∷ own) own) other)
        by_other false tie = refl

tied : (g : Group) → eq_by_cmp group_cmp g g ≡ true
tied g = (Equal-is (group_cmp g g)).1 (tied_itself group_total g)

pub found_same : (f : Files) (path one other : List ℕ) → paths.get f path ≡ Some one → paths.get f path ≡ Some other → one ≡ other
found_same f path one other is was = let same : Some one ≡ Some other = sym is ∙ was in cc

rows_joined : (s : TableSchema) (g : Group) (old more : List Stamped) → rows_in s g (map row_of (old ++ more)) ≡ rows_in s g (map row_of old) ++ rows_in s g (map row_of more)
rows_joined s g old more =
    ap (rows_in s g) (map-append row_of old more) ∙ filter-append (λ (r : HistoryRow). eq_by_cmp group_cmp (group_of s r.1) g) (map row_of old) (map row_of more)

-- a group has one file where it has this one
one_held : (f : Files) (s : TableSchema) (g : Group) (before after : List files.Entry) (e : files.Entry) (rows : List HistoryRow) → HoldChanges f s g (before ++ e ∷ after) rows
    → (stored : List Stamped) × HasFile f s true g e.file stored × (map row_of stored ≡ rows)
one_held f s g [] [] e rows held = held
one_held f s g [] (d ∷ after) e rows held = absurd held
one_held f s g (x ∷ []) after e rows held = absurd held
one_held f s g (x ∷ y ∷ before) after e rows held = absurd held

module _ (laws : RowLaws) (f : Files) (s : TableSchema) (changed : List HistoryRow) (es : List files.Entry)
    (held : (g : Group) → HoldChanges f s g (entries_in g es) (rows_in s g changed)) where
  its_own : (before after : List files.Entry) (e : files.Entry) → es ≡ before ++ e ∷ after → entries_in e.group es ≡ entries_in e.group before ++ e ∷ entries_in e.group after
  its_own before after e parts =
      ap (entries_in e.group) parts ∙ filter-append (λ (d : files.Entry). eq_by_cmp group_cmp d.group e.group) before (e ∷ after)
      ∙ ap (λ (b : Bool). entries_in e.group before ++ cond b (e ∷ entries_in e.group after) (entries_in e.group after)) (tied e.group)

  -- the rows of an entry's file are what is changed in its group
  file_rows : (before after : List files.Entry) (e : files.Entry) (bytes : List ℕ) (read : List Stamped) → es ≡ before ++ e ∷ after → paths.get f (file_of s e).path ≡ Some bytes
      → IsReadAs s (file_of s e) bytes read → map row_of read ≡ rows_in s e.group changed
  file_rows before after e bytes read parts there is_read =
      let (stored, file, are) = one_held f s e.group (entries_in e.group before) (entries_in e.group after) e (rows_in s e.group changed)
      (subst (λ (own : List files.Entry). HoldChanges f s e.group own (rows_in s e.group changed)) (its_own before after e parts) (held e.group)) in
      let same : file.bytes ≡ bytes = found_same f (file_of s e).path file.bytes bytes file.there there in
      let has : HasRows s true bytes stored = subst (λ (bytes : List ℕ). HasRows s true bytes stored) same file.read in
      ap (map row_of) (read_same laws s (file_of s e) bytes stored read has is_read) ∙ are

  -- what the files of entries add to a group's rows
  part_taken : (g : Group) (before left : List files.Entry) (old new : List Stamped) → es ≡ before ++ left → HaveTaken f s (files_of s left) old new
      → rows_in s g (map row_of new) ≡ rows_in s g (map row_of old) ++ flat_map (λ (e : files.Entry). rows_in s g changed) (entries_in g left)
  part_taken g before [] old new parts same = ap (λ (rows : List Stamped). rows_in s g (map row_of rows)) same ∙ sym (append-nil (rows_in s g (map row_of old)))
  part_taken g before (e ∷ left) old new parts (bytes, middle, there, (read, is_read, put), taken) =
      let own : List HistoryRow = rows_in s g changed in
      let first : List HistoryRow = rows_in s g (map row_of old) in
      let later : List HistoryRow = flat_map (λ (e : files.Entry). own) (entries_in g left) in
      let rows : rows_in s g (map row_of read) ≡ cond (eq_by_cmp group_cmp e.group g) own [] =
      ap (rows_in s g) (file_rows before left e bytes read parts there is_read) ∙ in_group s e.group g changed in
      part_taken g (before ++ e ∷ []) left middle new (parts ∙ sym (append_assoc before (e ∷ []) left)) taken
      ∙ ap (λ (xs : List HistoryRow). xs ++ later)
      (ap (λ (rows : List Stamped). rows_in s g (map row_of rows)) put ∙ rows_joined s g old read ∙ ap (λ (xs : List HistoryRow). first ++ xs) rows)
      ∙ append_assoc first (cond (eq_by_cmp group_cmp e.group g) own []) later
      ∙ ap (λ (xs : List HistoryRow). first ++ xs)
      (elim (eq_by_cmp group_cmp e.group g) as (λ b. cond b own [] ++ later ≡ flat_map (λ (e : files.Entry). own) (cond b (e ∷ entries_in g left) (entries_in g left))) [
        | true ↦ refl
        | false ↦ refl
      ])

  all_held : (g : Group) (own : List files.Entry) → HoldChanges f s g own (rows_in s g changed) → flat_map (λ (e : files.Entry). rows_in s g changed) own ≡ rows_in s g changed
  all_held g [] none = sym none
  all_held g (e ∷ []) file = append-nil (rows_in s g changed)
  all_held g (e ∷ d ∷ own) none = absurd none

  -- the rows of all files have of each group what is changed in it
  pub whole_taken : (g : Group) (rows : List Stamped) → HaveTaken f s (files_of s es) [] rows → rows_in s g (map row_of rows) ≡ rows_in s g changed
  whole_taken g rows taken = part_taken g [] es [] rows refl taken ∙ all_held g (entries_in g es) (held g)

-- ---- the change of fewer entries

bases_of : (number : ℕ) (entries more : List Entry) → HaveBases number (entries ++ more) → HaveBases number entries
bases_of number [] more bases = tt
bases_of number (append user identifier rows ∷ entries) more bases = bases_of (number + 1) entries more bases
bases_of number (compaction base groups ∷ entries) more bases = (bases.0, bases_of (number + 1) entries more bases.1)
bases_of number (fence x ∷ entries) more bases = bases_of (number + 1) entries more bases

pub change_up_to : ChangeKept → (s : TableSchema) (entries : List Entry) (id : ℕ) → HaveBases 1 entries → id ≤ length entries → change s (take id entries) id ≡ change s entries id
change_up_to kept s entries id bases within =
    let whole : take id entries ++ drop id entries ≡ entries = take-append-drop id entries in
    let long : length (take id entries) ≡ id = length-take-le id entries within in
    sym (kept s (take id entries) (drop id entries) id (bases_of 1 (take id entries) (drop id entries) (subst (HaveBases 1) (sym whole) bases)) (omega (arith, long)))
    ∙ ap (λ (entries : List Entry). change s entries id) whole

-- ---- the frame

rows_fit : (s : TableSchema) (rows : List HistoryRow) → AllByRecursion (IsRowOf s) rows → AllFit s.columns rows
rows_fit s [] all = tt
rows_fit s (r ∷ rows) (one, all) = (one.fits, rows_fit s rows all)

-- the rows of the files that hold a snapshot's change make its frame: they are of a folder that stands for a table, at
-- some moment
pub frame_is : FrameLaws → (f g : Files) (s : TableSchema) (entries : List Entry) (id : ℕ) (es : List files.Entry) (rows : List Stamped) → HasTable f s entries → id ≤ length entries
    → HoldsChange g s (take id entries) id es → HaveTaken g s (files_of s es) [] rows → HasProducer s → merged_frame s id rows ≡ frame s entries id
frame_is laws f g s entries id es rows folder within holds taken some =
    let (bytes, there, read) = folder.schema.first in
    let same = change_up_to laws.kept s entries id folder.history.bases within in
    ap (λ (rows : List HistoryRow). frame_head id ++ change_lines rows)
    (laws.parts s entries id (map row_of rows) (laws.declared (schema_path 0) bytes s read).rules.1.1.1.0 (rows_fit s (flat_map entry_rows entries) folder.history.rows)
    (λ group. whole_taken laws.rows g s (change s (take id entries) id) es (holds.change some) group rows taken ∙ ap (rows_in s group) same))
