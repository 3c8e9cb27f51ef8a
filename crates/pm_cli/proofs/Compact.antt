-- The promise of `compact`.
use Rattle.std.proofs.Common.{◌≡◌, ◌⊎◌, inl, inr, ℕ, suc, ◌+◌, ◌≤◌, List, [], ◌∷◌, ◌++◌, length, length-append, append-nil, Bool, Option, None, Some, Ok, refl, sym, ap, subst, ◌∙◌, arith}
use Rattle.std.specs.List.{flat_map}
use Rattle.std.proofs.Math.Seq.{take-length}
use Rattle.std.proofs.lemmas.Grind.{flat_map-append}
use Rattle.pm_values.specs.declared.group.Group.{Group}
use Rattle.pm_values.specs.declared.refusal.Refusal.{Refusal}
use Rattle.pm_values.specs.declared.refusal.Refusal.TheVariants as refusals
use Rattle.pm_store.specs.Files.{Files}
use Rattle.pm_store.specs.Images.{Extends}
use Rattle.pm_store.specs.Store.{StoreView}
use Rattle.pm_store.proofs.ImageLaws.{Extends-weaker}
use Rattle.pm_model_history.specs.History.{Entry, compaction, entry_rows, History, no_table, rows_up_to, table}
use Rattle.pm_model_history.specs.Merged.{scan_text}
use Rattle.pm_schema.specs.declared.schema.TableSchema.{TableSchema}
use Rattle.pm_model_folder.specs.Changes.{Actor, IsNoOrigin}
use Rattle.pm_model_folder.specs.Folder.{Folder, KeepsConsumers}
use Rattle.pm_model_folder.specs.Ledger.{count_of}
use Rattle.pm_create.specs.Creator.{own_origin}
use Rattle.pm_create.specs.Making.{LeavesFiles}
use Rattle.pm_commit.specs.AllCalls as commit
use Rattle.pm_commit.specs.Meaning.{AddsOwn, path_after}
use Rattle.pm_compactor.specs.declared.all_calls.Compacted.{Compacted}
use Rattle.pm_compactor.specs.declared.all_calls.Compacted.TheVariants as compacted
use Rattle.pm_words.specs.declared.command.Command.TheVariants as commands
use Rattle.pm_command.specs.Outside.{actor, next_path}
use Rattle.pm_command.specs.declared.start.Start.{Start}
use Rattle.pm_command_compact.specs.Compact.{AnswersHistory, Becomes, CompactsTable, HasChoice, HasCompaction, HasCompactionAs, IsImage, MayStartAfter, Spoils, StandsAfterFault, snapshot_of, text_of}
use Rattle.pm_cli.specs.InTurn.{IsExecuted}
use Rattle.pm_cli.specs.Promise.{Does, Execution, HasMade, Keeps, KeepsIt, MayBecome, MayMake, StandsForOthers, compacts, found_by, rests}
use Rattle.pm_cli.specs.Start.{IsNew, snapshot_made}
use Rattle.pm_cli.proofs.Common.{StandsForSome, StandsForSomeFreely, WasNew, any_files, extends_both, extends_each, extends_end, images_turned, leaves_both, leaves_each, leaves_some, leaves_weaker, makes_nothing, none_made, one_made, one_more, other_than, still_settled, with_command}

-- no group is chosen where there is no table
no_choice : (start : Start) (full : Bool) (groups : List (Group × Bool)) (R : Type 0) (store : StoreView)
    → LeavesFiles (HasChoice start full no_table groups) store → R
no_choice start full groups R store = any_files (HasChoice start full no_table groups) R store (λ f (v, newest, is). absurd newest.table)

module _ (full : Bool) (e : Execution) where
  abbrev it : Execution
  it = with_command (commands.Compact full) e

  abbrev found : StoreView
  found = found_by e

  abbrev Done : History → History → List ℕ → Type 0
  Done h later text = Does e.start e.input found (commands.Compact full) h later text

  -- ---- the compaction is at the end of the history

  -- so stand files for what it does
  abbrev DoneAs : (History → Files → Type 0) → History → ℕ → Files → Type 0
  DoneAs Stands h id f = (later : History) × (Done h later (text_of (Ok (compacted.Committed id))) × (Some id ≡ snapshot_made h later)) × Stands later f

  compaction_done : (Stands : History → Files → Type 0) (h : History) (id : ℕ) (f : Files) → id ≡ count_of h + 1
      → HasCompactionAs Stands e.start full h found f → DoneAs Stands h id f
  compaction_done Stands no_table id f is (groups, some, chosen, stands) = no_choice e.start full groups (DoneAs Stands no_table id f) found chosen
  compaction_done Stands (table t es) id f is (groups, some, chosen, stands) =
      let later : History = table t (es ++ compaction (length es) groups ∷ []) in
      let next : suc (length es) ≡ id = omega (arith, is) in
      let done = subst (λ (id : ℕ). Done (table t es) later (text_of (Ok (compacted.Committed id)))) next (compacts full t es groups some chosen) in
      (later, (done, one_made t es (compaction (length es) groups) id is), stands)

  may_have : (Stands : History → Files → Type 0) (h : History) (f : Files) → HasCompactionAs Stands e.start full h found f → StandsForSome Stands it h f
  may_have Stands h f has =
      let done = compaction_done Stands h (count_of h + 1) f refl has in
      (done.0, inr (text_of (Ok (compacted.Committed (count_of h + 1))), done.1.0), done.2)

  either : (Stands : History → Files → Type 0) (h : History) (f : Files) → Stands h f ⊎ HasCompactionAs Stands e.start full h found f
      → StandsForSome Stands it h f
  either Stands h f (inl stands) = (h, inl refl, stands)
  either Stands h f (inr has) = may_have Stands h f has

  none_done : (h : History) → LeavesFiles (HasChoice e.start full h []) found → Done h h (text_of (Ok compacted.Nothing))
  none_done no_table chosen = no_choice e.start full [] (Done no_table no_table (text_of (Ok compacted.Nothing))) found chosen
  none_done (table t es) chosen = rests full t es chosen

abbrev NotStore : Refusal → Type 0
NotStore (refusals.StoreFault path) = ⊥
NotStore other = Unit {0}

stays : (start : Start) (full : Bool) (h : History) (first after : StoreView) (e : Refusal) → NotStore e
    → Spoils start full h first after e → LeavesFiles (λ f. Folder f h) after
stays start full h first after refusals.Memory other spoils = spoils
stays start full h first after (refusals.StoreFault path) other spoils = absurd other
stays start full h first after refusals.NoTable other spoils = spoils.1.folder
stays start full h first after (refusals.SessionUsed path) other spoils = spoils.1
stays start full h first after (refusals.Limit which number) other spoils = spoils.1.folder
stays start full h first after e other spoils = absurd spoils

module _ (full : Bool) (e : Execution) (h : History) where
  abbrev after : StoreView
  after = e.after.store

  abbrev at_first : StoreView
  at_first = found_by e

  -- ---- what became of the table

  abbrev Did : Compacted → Type 0
  Did done = (later : History) × (Done full e h later (text_of (Ok done)) × (snapshot_of (Ok done) ≡ snapshot_made h later)) × LeavesFiles (λ f. Folder f later) after

  did : (done : Compacted) → Becomes e.start full h at_first after done → Did done
  did compacted.Nothing becomes = (h, (none_done full e h becomes.0, none_made h), becomes.1.folder)
  did (compacted.Committed id) becomes =
      leaves_some (λ later. Done full e h later (text_of (Ok (compacted.Committed id))) × (Some id ≡ snapshot_made h later)) (λ later f. Folder f later) after
      (leaves_weaker (HasCompaction e.start full h at_first) (DoneAs full e (λ h f. Folder f h) h id) after
      (λ f has. compaction_done full e (λ h f. Folder f h) h id f becomes.0 has) becomes.2)

  abbrev IsEnd : Option Refusal → Type 0
  IsEnd answer = (later : History) × (HasMade (it full e) h answer later × MayMake (it full e) h later) × LeavesFiles (λ f. Folder f later) after

  -- what it may make where a call at the path failed
  abbrev MadeAt : List ℕ → History → Type 0
  MadeAt path later = MayMake (it full e) h later × ((later ≡ h) ⊎ (path ≡ next_path h))

  after_fault : (path : List ℕ) (f : Files) → StandsAfterFault e.start full h at_first path f → (later : History) × MadeAt path later × Folder f later
  after_fault path f (inl folder) = (h, (inl refl, inl refl), folder)
  after_fault path f (inr (at, has)) =
      let made = may_have full e (λ h f. Folder f h) h f has in
      (made.0, (made.1, inr at), made.2)

  ended : (answer : Option Refusal) → AnswersHistory e.start full h at_first e.before e.after answer → IsEnd answer
  ended None (done, becomes, taken) = let all = did done becomes in (all.0, ((text_of (Ok done), all.1.0, taken), inr (text_of (Ok done), all.1.0)), all.2)
  ended (Some (refusals.SinkFault snapshot)) (done, becomes, is, failed, took) =
      let all = did done becomes in
      (all.0, ((text_of (Ok done), all.1.0, took, is ∙ all.1.1), inr (text_of (Ok done), all.1.0)), all.2)
  ended (Some (refusals.StoreFault path)) ((rose, left), out) =
      let all = leaves_some (MadeAt path) (λ later f. Folder f later) after
      (leaves_weaker (StandsAfterFault e.start full h at_first path) (λ f. (later : History) × MadeAt path later × Folder f later) after
      (λ f is. after_fault path f is) left) in
      (all.0, ((all.1.0, all.1.1, out), all.1.0), all.2)
  ended (Some refusal) answers =
      (h, (makes_nothing (it full e) h refusal tt answers.1, inl refl), stays e.start full h at_first after refusal tt answers.0)

-- ---- whoever was new is new

-- which entry comes last doesn't matter to whoever named no file
names_any : (other : Actor) (t : TableSchema) (es : List Entry) (one another : Entry) (f : Files)
    → commit.NamesNone other (table t (es ++ one ∷ [])) f → commit.NamesNone other (table t (es ++ another ∷ [])) f
names_any other t es one another f none = λ s id path is low high has by.
    let count : length (es ++ one ∷ []) ≡ length es + 1 = length-append es (one ∷ []) in
    let same : length (es ++ another ∷ []) ≡ length es + 1 = length-append es (another ∷ []) in
    none s id path is low (subst (λ (n : ℕ). id ≤ n) (same ∙ sym count) high) has by

module _ (full : Bool) (e : Execution) (other : Actor) (f : Files) where
  -- files in which the other may start on something that it may make
  abbrev MayNow : History → Type 0
  MayNow h = MayStartAfter other e.start full h (found_by e) f

  new_here : (t : TableSchema) (es : List Entry) → IsNoOrigin (table t es) (own_origin other) → Folder f (table t es) → MayNow (table t es)
      → IsNew other (table t es) f
  new_here t es origin folder (inl may) = record { folder = folder; origin = origin; names = may.1 }
  new_here t es origin folder (inr (groups, some, chosen, may)) = absurd (one_more f t es (compaction (length es) groups) folder may.0)

  new_with : (t : TableSchema) (es : List Entry) (entry : Entry) → IsNoOrigin (table t es) (own_origin other)
      → Folder f (table t (es ++ entry ∷ [])) → MayNow (table t es) → IsNew other (table t (es ++ entry ∷ [])) f
  new_with t es entry origin folder (inl may) = absurd (one_more f t es entry may.0 folder)
  new_with t es entry origin folder (inr (groups, some, chosen, may)) =
      record { folder = folder; origin = origin; names = names_any other t es (compaction (length es) groups) entry f may.1 }

  new_done : (t : TableSchema) (es : List Entry) (later : History) (text : List ℕ) → IsNoOrigin (table t es) (own_origin other)
      → Done full e (table t es) later text → Folder f later → MayNow (table t es) → IsNew other later f
  new_done t es later text origin (rests u s entries chosen) folder starts = new_here t es origin folder starts
  new_done t es later text origin (compacts u s entries groups some chosen) folder starts =
      new_with t es (compaction (length es) groups) origin folder starts

  new_at_end : (t : TableSchema) (es : List Entry) (later : History) → IsNoOrigin (table t es) (own_origin other) → MayMake (it full e) (table t es) later
      → Folder f later → MayNow (table t es) → IsNew other later f
  new_at_end t es later origin (inl same) folder starts =
      subst (λ (h : History). IsNew other h f) (sym same) (new_here t es origin (subst (λ (h : History). Folder f h) same folder) starts)
  new_at_end t es later origin (inr (text, does)) folder starts = new_done t es later text origin does folder starts

  new_end : (h later : History) → IsNoOrigin h (own_origin other) → MayMake (it full e) h later → Folder f later → MayNow h → IsNew other later f
  new_end no_table later origin make folder (inr (groups, some, chosen, may)) = no_choice e.start full groups (IsNew other later f) (found_by e) chosen
  new_end no_table later origin (inl same) folder (inl may) =
      subst (λ (h : History). IsNew other h f) (sym same) (record { folder = may.0; origin = origin; names = may.1 })
  new_end no_table later origin (inr (text, does)) folder (inl may) = elim does [ ]
  new_end (table t es) later origin make folder starts = new_at_end t es later origin make folder starts

keeps_it : (full : Bool) (e : Execution) (h : History) → LeavesFiles (λ f. Folder f h) (found_by e)
    → CompactsTable e.start full h (found_by e) e.before e.after e.refusal → KeepsIt (with_command (commands.Compact full) e) h (found_by e)
keeps_it full e h stands was =
    let first = found_by e in
    let after = e.after.store in
    let own : Execution = with_command (commands.Compact full) e in
    let end = ended full e h e.refusal was.answers in
    let known : LeavesFiles (λ f. Unit {0}) first = leaves_weaker (λ f. Folder f h) (λ f. Unit {0}) first (λ f folder. tt) stands in
    let AfterIt : Actor → Files → Type 0 = λ other. MayStartAfter other e.start full h first in
    let starts : (other : Actor) → WasNew own h first other → Extends (AfterIt other) first.ops after.ops = λ other (names, new).
    was.free other (other_than (actor e.start) other names)
    (leaves_weaker (IsNew other h) (commit.MayStart other h) first (λ f is. (is.folder, is.names)) new) in
    let Spares : Files → Type 0 = λ f. LeavesFiles (λ was. KeepsConsumers h was f) first × LeavesFiles (λ was. AddsOwn (actor e.start) (path_after h) was f) first in
    let spares : Extends Spares first.ops after.ops =
    extends_both (λ f. LeavesFiles (λ was. KeepsConsumers h was f) first) (λ f. LeavesFiles (λ was. AddsOwn (actor e.start) (path_after h) was f) first)
    first.ops after.ops (images_turned (KeepsConsumers h) first after.ops was.consumers)
    (images_turned (AddsOwn (actor e.start) (path_after h)) first after.ops was.adds) in
    let freely : (later : History) (f : Files) → MayMake own h later → Folder f later → ((other : Actor) → WasNew own h first other → AfterIt other f) → Spares f
    → StandsForOthers own h first later f = λ later f make folder others spare. record {
      folder = folder;
      changes = leaves_weaker (λ was. AddsOwn (actor e.start) (path_after h) was f) (λ was. (path : List ℕ) → MayBecome own h was f path) first
          (λ was adds path. elim (adds path) as (λ _. MayBecome own h was f path) [
            | inl same ↦ inl same
            | inr new ↦ inr (inl new)
          ]) spare.1;
      settled = λ names rests. still_settled own h first later f make spare.0 names;
      free = λ other names new.
          let origin : IsNoOrigin h (own_origin other) = any_files (IsNew other h) (IsNoOrigin h (own_origin other)) first (λ f is. is.origin) new in
          new_end full e other f h later origin make folder (others other (names, new));
    } in record {
      later = end.0;
      makes = end.1.0;
      ends = leaves_both (λ f. Folder f end.0 × ((other : Actor) → WasNew own h first other → AfterIt other f)) Spares (StandsForOthers own h first end.0) after
          (λ f both spare. freely end.0 f end.1.1 both.0 both.1 spare)
          (leaves_each (λ f. Folder f end.0) (WasNew own h first) AfterIt after end.2
          (λ other was. extends_end (AfterIt other) first after known (starts other was)))
          (extends_end Spares first after known spares);
      own = leaves_weaker (λ f. Folder f end.0) (λ f. Unit {0}) after (λ f folder. tt) end.2;
      stops = Extends-weaker Spares (λ f. Unit {0}) first.ops after.ops (λ f is. tt) spares;
      images = Extends-weaker
          (λ f. (IsImage e.start full h first f × ((other : Actor) → WasNew own h first other → AfterIt other f)) × Spares f)
          (StandsForSomeFreely own h first) first.ops after.ops
          (λ f all.
          let stands = either full e (λ h f. Folder f h) h f all.0.0.either in
          (stands.0, stands.1, freely stands.0 f stands.1 stands.2 all.0.1 all.1))
          (extends_both (λ f. IsImage e.start full h first f × ((other : Actor) → WasNew own h first other → AfterIt other f)) Spares first.ops after.ops
          (extends_each (IsImage e.start full h first) (WasNew own h first) AfterIt first.ops after.ops was.images starts) spares);
    }

pub keeps : (full : Bool) (e : Execution) → IsExecuted (with_command (commands.Compact full) e) → Keeps (with_command (commands.Compact full) e)
keeps full e is = λ alone h may input.
    keeps_it full e h (leaves_weaker (commit.MayStart (actor e.start) h) (λ f. Folder f h) (found_by e) (λ f may. may.0) may)
    (is.history alone h may)

-- ---- a scan after it

-- its entry has no rows
same_rows : (es : List Entry) (base : ℕ) (groups : List (Group × Bool))
    → rows_up_to (es ++ compaction base groups ∷ []) (length (es ++ compaction base groups ∷ [])) ≡ rows_up_to es (length es)
same_rows es base groups =
    let more : List Entry = es ++ compaction base groups ∷ [] in
    ap (flat_map entry_rows) (take-length more) ∙ flat_map-append entry_rows es (compaction base groups ∷ [])
    ∙ append-nil (flat_map entry_rows es) ∙ sym (ap (flat_map entry_rows) (take-length es))

pub same_scan : (start : Start) (bytes : List ℕ) (store : StoreView) (full : Bool) (s : TableSchema) (es : List Entry) (later : History) (text : List ℕ)
    → Does start bytes store (commands.Compact full) (table s es) later text
    → (more : List Entry) × (later ≡ table s more) × (scan_text s (rows_up_to more (length more)) ≡ scan_text s (rows_up_to es (length es)))
same_scan start bytes store full s es later text (rests u t entries chosen) = (es, refl, refl)
same_scan start bytes store full s es later text (compacts u t entries groups some chosen) =
    (es ++ compaction (length es) groups ∷ [], refl, ap (scan_text s) (same_rows es (length es) groups))
