-- The promise of `consumers --drop`.
use Rattle.std.proofs.Common.{◌≡◌, ◌≢◌, ◌⊎◌, ◌<◌, ℕ, zero, suc, List, [], ◌∷◌, Contains, Bool, true, false, Option, None, Some, IsSome, Result, Ok, Err, inl, inr, refl, sym, subst, ap, ◌∙◌, true≢false, arith}
use Rattle.std.specs.FinMap as map
use Rattle.std.specs.Result.{result_err}
use Rattle.std.specs.Str.{bytes_eq}
use Rattle.std.proofs.lemmas.Slice.Eq.{bytes_eq-Decides}
use Rattle.pm_values.specs.declared.refusal.Refusal.{Refusal}
use Rattle.pm_values.specs.declared.refusal.Refusal.TheVariants as refusals
use Rattle.pm_io.specs.Sink.{SinkView}
use Rattle.pm_store.specs.Files.{Files}
use Rattle.pm_store.specs.Images.{Extends}
use Rattle.pm_store.specs.Store.{StoreView}
use Rattle.pm_store.proofs.ImageLaws.{Extends-weaker}
use Rattle.pm_machine.specs.Trace.{Event}
use Rattle.pm_model_history.specs.History.{History, no_table, table}
use Rattle.pm_schema.specs.declared.schema.TableSchema.{TableSchema}
use Rattle.pm_model_folder.specs.Changes.{Actor}
use Rattle.pm_model_folder.specs.Commits.{Names}
use Rattle.pm_model_folder.specs.Folder.{Folder, HaveSettled, IsSettled}
use Rattle.pm_model_folder.specs.Meaning.{HasSnapshotAt}
use Rattle.pm_model_folder.specs.Paths.{consumer_path}
use Rattle.pm_model_folder.proofs.HoldLemmas.{ContentsStay, Holds, snapshot-held}
use Rattle.pm_create.specs.Making.{LeavesFiles}
use Rattle.pm_move_consumer.specs.DropperAllCalls.{ItGoes, ItRests}
use Rattle.pm_words.specs.declared.command.Command.TheVariants as commands
use Rattle.pm_command.specs.Outside.{Prints}
use Rattle.pm_command_consumers.specs.Drop.{AnswersHistory, DidRemove, Drops, DropsTable, ItEnds, StandsWithout, WasThere, text_of, told_text}
use Rattle.pm_cli.specs.InTurn.{IsExecuted}
use Rattle.pm_cli.specs.Promise.{MayBecome, Does, Execution, HasMade, Keeps, KeepsIt, StandsForOthers, drops, found_by}
use Rattle.pm_cli.specs.Start.{IsNew, MayTake}
use Rattle.pm_cli.proofs.Common.{StandsForSomeFreely, any_both, any_files, extends_each, extends_end, images_turned, leaves_both, leaves_turned, leaves_weaker, makes_nothing, none_made, sink_same, with_command}
use Rattle.pm_cli.proofs.Resting.{unprinted}

module _ (name : List ℕ) (e : Execution) where
  abbrev it : Execution
  it = with_command (commands.Consumers (Some name)) e

  -- ---- what was told

  does : (h : History) (was_there : Bool) → h ≢ no_table → LeavesFiles (WasThere name was_there) (found_by e)
      → Does e.start e.input (found_by e) (commands.Consumers (Some name)) h h (told_text was_there)
  does no_table was_there some at = absurd (some refl)
  does (table s es) was_there some at = drops name s es was_there at

  -- no calls show a fault of the sink
  not_shown : (own : List Event) (snapshot : Option ℕ) → DidRemove name (Err (refusals.SinkFault snapshot)) own → ⊥
  not_shown own snapshot (inl shows) = shows
  not_shown own snapshot (inr (s, earlier, later, declared, has, shows, at)) = shows

  none_named : (made : Result Bool Refusal) (own : List Event) (before after : SinkView) (snapshot : Option ℕ) → DidRemove name made own
      → Prints (text_of made) None (result_err made) before after (Some (refusals.SinkFault snapshot)) → snapshot ≡ None
  none_named (Ok was_there) own before after snapshot did says = sink_same snapshot None says.0
  none_named (Err e) own before after snapshot did says =
      absurd (not_shown own snapshot (subst (λ (e : Refusal). DidRemove name (Err e) own) (let same : e ≡ refusals.SinkFault snapshot = cc in same) did))

  makes : (h : History) (answer : Option Refusal) → Drops name e.before e.after answer → AnswersHistory name h (found_by e) e.before e.after answer
      → HasMade it h answer h
  makes h None acts (some, (was_there, at, taken)) = (told_text was_there, does h was_there some at, taken)
  makes h (Some (refusals.SinkFault snapshot)) (made, (own, did, traces), beside, says) (failed, some, (was_there, at, taken)) =
      let none = none_named made own e.before.out e.after.out snapshot did says in
      (told_text was_there, does h was_there some at, taken, none ∙ none_made h)
  makes h (Some refusal) (made, trace, beside, prints) may =
      makes_nothing it h refusal tt (unprinted (text_of made) (result_err made) e.before.out e.after.out refusal tt prints)

  -- ---- what stands

  none-in : (other : List ℕ) → Contains [] other → ⊥
  none-in other (k, within, at) = omega (arith, within)

  only-in : (one other : List ℕ) → Contains (one ∷ []) other → one ≡ other
  only-in one other (zero, within, at) = at
  only-in one other (suc k, within, at) = absurd (omega (arith, within))

  -- each that was settled is where its file is as it was
  still-settled : (h : History) (first : StoreView) (g : Files) (names : List (List ℕ)) → LeavesFiles (λ f. HaveSettled f h names) first
      → LeavesFiles (λ f. StandsWithout name h names f g × (ItRests name f g ⊎ ItGoes name f g)) first
      → ((other : List ℕ) → Contains names other → MayTake (commands.Consumers (Some name)) (consumer_path other) → LeavesFiles (λ f. ItRests other f g) first)
      → HaveSettled g h names
  still-settled no_table first g names was now same = any_files (λ f. HaveSettled f no_table names) (HaveSettled g no_table names) first (λ f none. none) was
  still-settled (table s es) first g names was now same = λ other there. at other there (bytes_eq other name) refl
    where
      Stands : Files → Type 0
      Stands f = StandsWithout name (table s es) names f g × (ItRests name f g ⊎ ItGoes name f g)

      Settled : List ℕ → Type 0
      Settled other = (least : ℕ) × HasSnapshotAt g s least × ((id : ℕ) → id < least → ¬ HasSnapshotAt g s id) × IsSettled g least other

      at : (other : List ℕ) → Contains names other → (t : Bool) → bytes_eq other name ≡ t → Settled other
      at other there true is =
          let own : other ≡ name = (bytes_eq-Decides other name).0 is in
          any_both Stands (λ f. ItRests other f g) (Settled other) first
          (λ f stands rests. stands.0.settled (subst (λ (name : List ℕ). ItRests name f g) own rests) other there)
          now (same other there (ap consumer_path own))
      at other there false is =
          any_files Stands (Settled other) first
          (λ f stands. stands.0.others (other ∷ [])
          (λ one here.
          let only = only-in other one here in (
            subst (Contains names) only there,
            λ own. true≢false (sym ((bytes_eq-Decides other name).1 (only ∙ own)) ∙ is),
          )) other (0, omega arith, refl)) now

  module _ (stay : ContentsStay) (h : History) (first : StoreView) where
    -- with these settled at first
    abbrev Stands : List (List ℕ) → Files → Files → Type 0
    Stands names f g = StandsWithout name h names f g × (ItRests name f g ⊎ ItGoes name f g)

    abbrev StandNow : List (List ℕ) → Files → Type 0
    StandNow names g = LeavesFiles (λ f. Stands names f g) first

    abbrev WereSettled : List (List ℕ) → Type 0
    WereSettled names = LeavesFiles (λ f. HaveSettled f h names) first

    -- what is there was there
    gone-not : (o : Option (List ℕ)) → IsSome o → o ≡ None → ⊥
    gone-not o there none = cc

    holds : (f g : Files) → Stands [] f g → Holds g f
    holds f g (stands, own) path there = at (bytes_eq path (consumer_path name)) refl
      where
        at : (t : Bool) → bytes_eq path (consumer_path name) ≡ t → map.get f path ≡ map.get g path
        at false is = sym (stands.rest path (λ same. true≢false (sym ((bytes_eq-Decides path (consumer_path name)).1 same) ∙ is)))
        at true is =
            let same : path ≡ consumer_path name = (bytes_eq-Decides path (consumer_path name)).0 is in
            elim own as (λ _. map.get f path ≡ map.get g path) [
              | inl rests ↦ ap (map.get f) same ∙ sym rests ∙ ap (map.get g) (sym same)
              | inr goes ↦ absurd (gone-not (map.get g path) there (ap (map.get g) same ∙ goes.1))
            ]

    names-were : (f g : Files) → Holds g f → (s : TableSchema) (id : ℕ) (path : List ℕ) → Names g s id path → Names f s id path
    names-were f g held s id path (x, c, (at, has), is) = (x, c, (snapshot-held g f held id x at, stay g f s x c held has), is)

    new-still : (other : Actor) (f g : Files) → Stands [] f g → IsNew other h f → IsNew other h g
    new-still other f g stands new = record {
      folder = stands.0.folder;
      origin = new.origin;
      names = λ s id path is low high names by. new.names s id path is low high (names-were f g (holds f g stands) s id path names) by;
    }

    changed : (f g : Files) → Stands [] f g → (path : List ℕ) → MayBecome it h f g path
    changed f g (stands, own) path = at (bytes_eq path (consumer_path name)) refl
      where
        at : (t : Bool) → bytes_eq path (consumer_path name) ≡ t → MayBecome it h f g path
        at false is = inl (stands.rest path (λ same. true≢false (sym ((bytes_eq-Decides path (consumer_path name)).1 same) ∙ is)))
        at true is =
            let same : path ≡ consumer_path name = (bytes_eq-Decides path (consumer_path name)).0 is in
            elim own as (λ _. MayBecome it h f g path) [
              | inl rests ↦ inl (ap (map.get g) same ∙ rests ∙ ap (map.get f) (sym same))
              | inr goes ↦ inr (inr (inl (ap (map.get g) same ∙ goes.1, same)))
            ]

    freely : (g : Files) → StandNow [] g → ((names : List (List ℕ)) → WereSettled names → StandNow names g) → StandsForOthers it h first h g
    freely g now each = record {
      folder = any_files (λ f. Stands [] f g) (Folder g h) first (λ f stands. stands.0.folder) now;
      changes = leaves_weaker (λ f. Stands [] f g) (λ f. (path : List ℕ) → MayBecome it h f g path) first (λ f stands. changed f g stands) now;
      free = λ other names new. any_both (λ f. Stands [] f g) (IsNew other h) (IsNew other h g) first (λ f stands is. new-still other f g stands is) now new;
      settled = λ names same was. still-settled h first g names was (each names was) same;
    }

    abbrev after : StoreView
    after = e.after.store

    abbrev Was : List (List ℕ) → Type 0
    Was names = DropsTable name h names first e.before e.after e.refusal

    pub dropping : HasMade it h e.refusal h → LeavesFiles (λ f. Folder f h) first → Was [] → ((names : List (List ℕ)) → WereSettled names → Was names) → KeepsIt it h first
    dropping makes stands was each =
        let known : LeavesFiles (λ f. Unit {0}) first = leaves_weaker (λ f. Folder f h) (λ f. Unit {0}) first (λ f folder. tt) stands in
        let images : (names : List (List ℕ)) → Was names → Extends (StandNow names) first.ops after.ops = λ names was. images_turned (Stands names) first after.ops was.images in
        let all : Extends (λ g. StandNow [] g × ((names : List (List ℕ)) → WereSettled names → StandNow names g)) first.ops after.ops =
        extends_each (StandNow []) WereSettled StandNow first.ops after.ops (images [] was) (λ names were. images names (each names were)) in record {
          later = h;
          makes = makes;
          ends = leaves_weaker (λ g. StandNow [] g × ((names : List (List ℕ)) → WereSettled names → StandNow names g)) (StandsForOthers it h first h) after
              (λ g is. freely g is.0 is.1)
              (extends_end (λ g. StandNow [] g × ((names : List (List ℕ)) → WereSettled names → StandNow names g)) first after known all);
          own = leaves_weaker (λ g. LeavesFiles (λ f. StandsWithout name h [] f g × ItEnds name e.refusal f g) first)
              (λ g. LeavesFiles (λ f. ItEnds name e.refusal f g) first) after
              (λ g is. leaves_weaker (λ f. StandsWithout name h [] f g × ItEnds name e.refusal f g) (λ f. ItEnds name e.refusal f g) first (λ f both. both.1) is)
              (leaves_turned (λ f g. StandsWithout name h [] f g × ItEnds name e.refusal f g) first after was.leaves);
          images = Extends-weaker (λ g. StandNow [] g × ((names : List (List ℕ)) → WereSettled names → StandNow names g)) (StandsForSomeFreely it h first)
              first.ops after.ops (λ g is. (h, inl refl, freely g is.0 is.1)) all;
          stops = Extends-weaker (StandNow []) (λ g. Unit {0}) first.ops after.ops (λ g is. tt) (images [] was);
        }

  -- none of no names is settled
  none-settled : (h : History) (f : Files) → HaveSettled f h []
  none-settled no_table f = λ other there. none-in other there
  none-settled (table s es) f = λ other there. absurd (none-in other there)

pub keeps : ContentsStay → (name : List ℕ) (e : Execution) → IsExecuted (with_command (commands.Consumers (Some name)) e)
    → Keeps (with_command (commands.Consumers (Some name)) e)
keeps stay name e is = λ alone h stands input.
    let first = found_by e in
    let were : (names : List (List ℕ)) → LeavesFiles (λ f. HaveSettled f h names) first → DropsTable name h names first e.before e.after e.refusal =
    λ names settled. is.history alone h names
    (leaves_both (λ f. Folder f h) (λ f. HaveSettled f h names) (λ f. Folder f h × HaveSettled f h names) first (λ f folder have. (folder, have)) stands settled) in
    let was = were [] (leaves_weaker (λ f. Folder f h) (λ f. HaveSettled f h []) first (λ f folder. none-settled name e h f) stands) in
    dropping name e stay h first (makes name e h e.refusal is.acts was.answers) stands was were
