-- A command that leaves a history as it is.
use Rattle.std.proofs.Common.{◌≡◌, ◌≢◌, ℕ, List, Option, None, Some, inl, refl, subst}
use Rattle.pm_values.specs.declared.refusal.Refusal.{Refusal}
use Rattle.pm_values.specs.declared.refusal.Refusal.TheVariants as refusals
use Rattle.pm_io.specs.Sink.{SinkView}
use Rattle.pm_store.specs.Files.{Files}
use Rattle.pm_store.specs.Images.{Extends}
use Rattle.pm_store.specs.Store.{StoreView}
use Rattle.pm_store.proofs.ImageLaws.{Extends-weaker}
use Rattle.pm_model_history.specs.History.{History}
use Rattle.pm_model_folder.specs.Changes.{Actor}
use Rattle.pm_model_folder.specs.Folder.{Folder, KeepsConsumers}
use Rattle.pm_model_folder.proofs.SettledLemmas.{same-keeps}
use Rattle.pm_create.specs.Making.{LeavesFiles}
use Rattle.pm_commit.specs.AllCalls as commit
use Rattle.pm_command.specs.Outside.{HaveSame, ImagesRest, Prints, Rests}
use Rattle.pm_cli.specs.Promise.{MayBecome, Execution, HasMade, KeepsIt, LeavesOwn, StopsOwn, StandsForOthers}
use Rattle.pm_cli.specs.Start.{IsNew}
use Rattle.pm_cli.proofs.Common.{NotSink, StandsForSomeFreely, any_both, any_here, leaves_both, leaves_turned, leaves_weaker, still_settled}

-- what the law of the next command says of files that are the same
abbrev pub SameStarts : Type 0
SameStarts = (me : Actor) (h : History) (f g : Files) → commit.MayStart me h f → HaveSame f g → Folder g h → commit.MayStart me h g

pub new_same : SameStarts → (other : Actor) (h : History) (f g : Files) → IsNew other h f → HaveSame f g → Folder g h → IsNew other h g
new_same law other h f g new same folder =
    record { folder = folder; origin = new.origin; names = (law other h f g (new.folder, new.names) same folder).1 }

module _ (law : SameStarts) (e : Execution) (h : History) (first : StoreView) where
  abbrev after : StoreView
  after = e.after.store

  freely : (g : Files) → Folder g h → LeavesFiles (λ f. HaveSame f g) first → StandsForOthers e h first h g
  freely g folder same = record {
    folder = folder;
    free = λ other names new.
        any_both (λ f. HaveSame f g) (IsNew other h) (IsNew other h g) first (λ f s is. new_same law other h f g is s folder) same new;
    changes = leaves_weaker (λ f. HaveSame f g) (λ f. (path : List ℕ) → MayBecome e h f g path) first (λ f is path. inl (is path)) same;
    settled = λ names rests. still_settled e h first h g (inl refl)
        (leaves_weaker (λ f. HaveSame f g) (λ f. KeepsConsumers h f g) first (λ f is. same-keeps f g is h) same) names;
  }

  pub resting : HasMade e h e.refusal h → Rests h first after → ImagesRest h first after → ((f : Files) → LeavesOwn e.start e.command h e.refusal first f × StopsOwn e e.command h first f)
      → KeepsIt e h first
  resting makes rests images own = record {
    later = h;
    makes = makes;
    ends = leaves_both (λ g. Folder g h) (λ g. LeavesFiles (λ f. HaveSame f g) first) (StandsForOthers e h first h) after freely rests.folder
        (leaves_turned HaveSame first after rests.same);
    own = leaves_weaker (λ g. Folder g h) (LeavesOwn e.start e.command h e.refusal first) after (λ f folder. (own f).0) rests.folder;
    stops = any_here (λ f. Extends (λ g. Folder g h × HaveSame f g) first.ops after.ops) (Extends (StopsOwn e e.command h first) first.ops after.ops) first
        (λ f images here. Extends-weaker (λ g. Folder g h × HaveSame f g) (StopsOwn e e.command h first) first.ops after.ops (λ g is. (own g).1) images)
        images;
    images = any_here (λ f. Extends (λ g. Folder g h × HaveSame f g) first.ops after.ops) (Extends (StandsForSomeFreely e h first) first.ops after.ops) first
        (λ f images here. Extends-weaker (λ g. Folder g h × HaveSame f g) (StandsForSomeFreely e h first) first.ops after.ops
        (λ g is. (h, inl refl, freely g is.0 (here (λ f. HaveSame f g) is.1))) images)
        images;
  }

-- ---- what a refusal printed

not_sink : (snapshot : Option ℕ) (e : Refusal) → NotSink e → e ≢ refusals.SinkFault snapshot
not_sink snapshot e not is = subst NotSink is not

pub unprinted : (text : List ℕ) (refused : Option Refusal) (before after : SinkView) (e : Refusal) → NotSink e
    → Prints text None refused before after (Some e) → after ≡ before
unprinted text None before later e not prints = absurd (not_sink None e not prints.0)
unprinted text (Some refusal) before later e not prints = prints.1
