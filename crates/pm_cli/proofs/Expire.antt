-- The promise of `expire`.
use Rattle.std.proofs.Common.{◌≡◌, ◌≢◌, ◌⊎◌, ℕ, List, [], ◌∷◌, length, Option, None, Some, inl, inr, refl, sym, subst, ap, ◌∙◌, arith}
use Rattle.std.specs.FinMap as map
use Rattle.pm_values.specs.declared.refusal.Refusal.{Refusal}
use Rattle.pm_values.specs.declared.refusal.Refusal.TheVariants as refusals
use Rattle.pm_store.specs.Files.{Files}
use Rattle.pm_store.specs.Images.{Extends}
use Rattle.pm_store.specs.Store.{StoreView}
use Rattle.pm_store.proofs.ImageLaws.{Extends-weaker}
use Rattle.pm_model_history.specs.History.{Entry, History, no_table, table}
use Rattle.pm_schema.specs.declared.schema.TableSchema.{TableSchema}
use Rattle.pm_model_folder.specs.Changes.{Actor, IsNoOrigin}
use Rattle.pm_model_folder.specs.Folder.{Folder, KeepsConsumers}
use Rattle.pm_create.specs.Creator.{own_origin}
use Rattle.pm_create.specs.Making.{LeavesFiles}
use Rattle.pm_commit.specs.AllCalls as commit
use Rattle.pm_expire_end.specs.declared.keep.KeepAsked.{KeepAsked}
use Rattle.pm_read_expiry.specs.declared.asking.Asking.{Asking}
use Rattle.pm_expire.specs.AllCalls.{Becomes, ChangesAt, IsEndIn, IsFirst, IsImageOf, all_stay, none_there, some_go}
use Rattle.pm_expire.specs.declared.all_calls.Kept.{Kept}
use Rattle.pm_words.specs.declared.command.Command.TheVariants as commands
use Rattle.pm_command_expire.specs.Expire.{AnswersHistory, ExpiresTable, HasKept, IsImage, IsLeftBy, asked_by, kept_text}
use Rattle.pm_cli.specs.Commands.{keep_asked}
use Rattle.pm_cli.specs.InTurn.{IsExecuted}
use Rattle.pm_cli.specs.Promise.{Does, Execution, HasMade, Keeps, KeepsIt, MayBecome, StandsForOthers, found_by, expires, expires_none}
use Rattle.pm_cli.specs.Start.{IsNew}
use Rattle.pm_cli.proofs.Common.{StandsForSomeFreely, WasNew, any_files, any_here, extends_both, extends_each, extends_end, images_turned, leaves_both, leaves_turned, leaves_weaker, makes_nothing, none_made, still_settled, with_command}

-- what the law of images says
abbrev pub ImageChanges : Type 0
ImageChanges = (a : Asking) (f g : Files) (path : List ℕ) → IsImageOf a f g → (map.get g path ≡ map.get f path) ⊎ ChangesAt a f g path

module _ (min max millis : Option ℕ) (e : Execution) where
  abbrev it : Execution
  it = with_command (commands.Expire min max millis) e

  abbrev asked : KeepAsked
  asked = keep_asked min max millis

  abbrev first : StoreView
  first = found_by e

  abbrev after : StoreView
  after = e.after.store

  -- ---- what was told

  abbrev Tells : History → Kept → Type 0
  Tells h kept = Does e.start e.input first (commands.Expire min max millis) h h (kept_text kept)

  none-of : (es : List Entry) → length es ≡ 0 → es ≡ []
  none-of [] is = refl
  none-of (entry ∷ es) is = absurd (omega (arith, is))

  abbrev kept_of : ℕ → ℕ → Kept
  kept_of a b = record { first = a; last = b }

  kept-is : (kept : Kept) (a b : ℕ) → kept.first ≡ a → kept.last ≡ b → kept ≡ kept_of a b
  kept-is kept a b is_first is_last = ap (λ (n : ℕ). kept_of n kept.last) is_first ∙ ap (kept_of a) is_last

  -- a table with a snapshot after its origin has an entry
  some-entries : (f : Files) (s : TableSchema) (es : List Entry) (least : ℕ) → Folder f (table s es) → IsFirst f s least → es ≢ []
  some-entries f s es least folder is none =
      let there = (folder.snapshots.exact least is.within).0 is.there in
      let high = there.1 in
      let low = is.after_origin in
      let empty : length es ≡ 0 = ap length none in
      omega (arith, high, low, empty)

  module _ (s : TableSchema) (es : List Entry) (kept : Kept) (f g : Files) (folder : Folder f (table s es))
      (here : (T : Files → Type 0) → T f → LeavesFiles T first) where
    told : Becomes (asked_by e.start asked s) (length es) f g kept.first kept.last → Tells (table s es) kept
    told (none_there none is_first is_last same) =
        subst (λ (es : List Entry). Tells (table s es) kept) (sym (none-of es none))
        (subst (λ (k : Kept). Tells (table s []) k) (sym (kept-is kept 0 0 is_first is_last)) (expires_none min max millis s))
    told (all_stay ends is last same) =
        subst (λ (k : Kept). Tells (table s es) k) (sym (kept-is kept kept.first (length es) refl last))
        (expires min max millis s es kept.first (some-entries f s es kept.first folder is) (here (λ f. IsEndIn (asked_by e.start asked s) f kept.first) ends))
    told (some_go least goes untagged last given) =
        subst (λ (k : Kept). Tells (table s es) k) (sym (kept-is kept kept.first (length es) refl last))
        (expires min max millis s es kept.first (some-entries f s es least folder goes.is_first) (here (λ f. IsEndIn (asked_by e.start asked s) f kept.first) goes.is_end))

  told-of : (h : History) (kept : Kept) (f g : Files) → Folder f h → ((T : Files → Type 0) → T f → LeavesFiles T first) → HasKept e.start asked h kept f g
      → Tells h kept
  told-of no_table kept f g folder here (s, is, built, becomes) = absurd is
  told-of (table t es) kept f g folder here (s, is, built, becomes) =
      told t es kept f g folder here
      (subst (λ (s : TableSchema). Becomes (asked_by e.start asked s) (length es) f g kept.first kept.last) (sym is) becomes)

  tells : (h : History) (kept : Kept) → LeavesFiles (λ f. Folder f h) first → LeavesFiles (λ f. LeavesFiles (HasKept e.start asked h kept f) after) first → Tells h kept
  tells h kept stands becomes =
      any_here (λ f. Folder f h × LeavesFiles (HasKept e.start asked h kept f) after) (Tells h kept) first
      (λ f both here. any_files (HasKept e.start asked h kept f) (Tells h kept) after (λ g has. told-of h kept f g both.0 here has) both.1)
      (leaves_both (λ f. Folder f h) (λ f. LeavesFiles (HasKept e.start asked h kept f) after)
      (λ f. Folder f h × LeavesFiles (HasKept e.start asked h kept f) after) first (λ f folder has. (folder, has)) stands becomes)

  -- none is refused by the sink but where that failed in what is kept
  makes : (h : History) (answer : Option Refusal) → LeavesFiles (λ f. Folder f h) first → AnswersHistory e.start asked h first e.before e.after answer → HasMade it h answer h
  makes h None stands (kept, becomes, taken) = (kept_text kept, tells h kept stands becomes, taken)
  makes h (Some (refusals.SinkFault snapshot)) stands (none, kept, becomes, failed, took) =
      (kept_text kept, tells h kept stands becomes, took, none ∙ none_made h)
  makes h (Some refusal) stands answers = makes_nothing it h refusal tt answers.2

  -- ---- what is left

  left : (h : History) (answer : Option Refusal) → AnswersHistory e.start asked h first e.before e.after answer
      → LeavesFiles (λ f. LeavesFiles (IsLeftBy e.start asked h answer f) after) first
  left h None (kept, becomes, taken) =
      leaves_weaker (λ f. LeavesFiles (HasKept e.start asked h kept f) after) (λ f. LeavesFiles (IsLeftBy e.start asked h None f) after) first
      (λ f. leaves_weaker (HasKept e.start asked h kept f) (IsLeftBy e.start asked h None f) after (λ g has. (kept, has))) becomes
  left h (Some (refusals.SinkFault snapshot)) (none, kept, becomes, failed, took) =
      leaves_weaker (λ f. LeavesFiles (HasKept e.start asked h kept f) after) (λ f. LeavesFiles (IsLeftBy e.start asked h (Some (refusals.SinkFault snapshot)) f) after) first
      (λ f. leaves_weaker (HasKept e.start asked h kept f) (IsLeftBy e.start asked h (Some (refusals.SinkFault snapshot)) f) after (λ g has. (kept, has))) becomes
  left h (Some refusal) answers = answers.1

  -- ---- what an image is

  module _ (law : ImageChanges) (h : History) where
    abbrev Image : Files → Files → Type 0
    Image f g = IsImage e.start asked h f g

    changed : (f g : Files) → Image f g → (path : List ℕ) → MayBecome it h f g path
    changed f g (inl same) path = inl (same path)
    changed f g (inr (s, is, built, image)) path = elim (law (asked_by e.start asked s) f g path image) as (λ _. MayBecome it h f g path) [
      | inl same ↦ inl same
      | inr changes ↦ inr (inr (inr (inr (s, is, built, changes))))
    ]

    -- an image of the files at first, and the consumers as they were
    abbrev Stands : Files → Type 0
    Stands g = LeavesFiles (λ f. Folder g h × Image f g) first × LeavesFiles (λ f. KeepsConsumers h f g) first

    -- in which others may start
    abbrev StandsFreely : Files → Type 0
    StandsFreely g = Stands g × ((other : Actor) → WasNew it h first other → commit.MayStart other h g)

    freely : (g : Files) → StandsFreely g → StandsForOthers it h first h g
    freely g ((images, consumers), starts) =
        let folder : Folder g h = any_files (λ f. Folder g h × Image f g) (Folder g h) first (λ f both. both.0) images in record {
          folder = folder;
          changes = leaves_weaker (λ f. Folder g h × Image f g) (λ f. (path : List ℕ) → MayBecome it h f g path) first (λ f both path. changed f g both.1 path) images;
          free = λ other names new. record {
            folder = folder;
            origin = any_files (IsNew other h) (IsNoOrigin h (own_origin other)) first (λ f is. is.origin) new;
            names = (starts other (names, new)).1;
          };
          settled = λ names rests. still_settled it h first h g (inl refl) consumers names;
        }

    pub expiring : LeavesFiles (λ f. Folder f h) first → ExpiresTable e.start asked h first e.before e.after e.refusal → KeepsIt it h first
    expiring stands was =
        let known : LeavesFiles (λ f. Unit {0}) first = leaves_weaker (λ f. Folder f h) (λ f. Unit {0}) first (λ f folder. tt) stands in
        let each : Extends Stands first.ops after.ops =
        extends_both (λ g. LeavesFiles (λ f. Folder g h × Image f g) first) (λ g. LeavesFiles (λ f. KeepsConsumers h f g) first) first.ops after.ops
        (images_turned (λ f g. Folder g h × Image f g) first after.ops was.images) (images_turned (KeepsConsumers h) first after.ops was.consumers) in
        let all : Extends StandsFreely first.ops after.ops =
        extends_each Stands (WasNew it h first) (λ other. commit.MayStart other h) first.ops after.ops each
        (λ other (names, new). was.free other (leaves_weaker (IsNew other h) (commit.MayStart other h) first (λ f is. (is.folder, is.names)) new)) in record {
          later = h;
          makes = makes h e.refusal stands was.answers;
          ends = leaves_weaker StandsFreely (StandsForOthers it h first h) after freely (extends_end StandsFreely first after known all);
          own = leaves_turned (IsLeftBy e.start asked h e.refusal) first after (left h e.refusal was.answers);
          images = Extends-weaker StandsFreely (StandsForSomeFreely it h first) first.ops after.ops (λ g is. (h, inl refl, freely g is)) all;
          stops = Extends-weaker StandsFreely (λ g. LeavesFiles (λ f. Image f g) first) first.ops after.ops
              (λ g is. leaves_weaker (λ f. Folder g h × Image f g) (λ f. Image f g) first (λ f both. both.1) is.0.0) all;
        }

pub keeps : ImageChanges → (min max millis : Option ℕ) (e : Execution) → IsExecuted (with_command (commands.Expire min max millis) e)
    → Keeps (with_command (commands.Expire min max millis) e)
keeps law min max millis e is = λ alone h stands input. expiring min max millis e law h stands (is.history alone h stands)
