-- An announcer's own calls, and what they show.
use Rattle.std.specs.Prelude.{◌≡◌, ◌⊎◌, ℕ, ◌<◌, List, [], ◌∷◌, ◌++◌, codes, Option, None, Some, Result, IfErr}
use Rattle.pm_values.specs.declared.refusal.Refusal.{Refusal}
use Rattle.pm_values.specs.declared.refusal.Refusal.TheVariants as refusals
use Rattle.pm_store.specs.Store.{StoreView}
use Rattle.pm_store.specs.declared.answer.Answer.TheVariants as answers
use Rattle.pm_store.specs.declared.answer.Made.{Made}
use Rattle.pm_machine.specs.Trace.{Acts, Event, answered, faulted}
use Rattle.pm_model_folder.specs.Paths.{floor_path}
use Rattle.pm_consumer_files.specs.declared.lines.NamedConsumer.{NamedConsumer}
use Rattle.pm_read_schema.specs.Trace.{Names}
use Rattle.pm_consumers.specs.Trace as consumers
use Rattle.pm_read_expiry.specs.Times.{IsLeastNext}
use Rattle.pm_read_expiry.specs.declared.asking.Found.{Found}
use Rattle.pm_announce.specs.Announcer.{announce_call, end_after, tags_call}
use Rattle.pm_announce.specs.Tags.{first_tag, tag_folder}
use Rattle.pm_announce.specs.declared.announcer.AnnounceStep.{AnnounceStep}
use Rattle.pm_announce.specs.declared.phase.Phase.{Phase}
use Rattle.pm_announce.specs.declared.phase.Phase.TheVariants as phases

-- the floor was created, or was there
abbrev pub announces : Found → Made → Event
announces x answer = answered (announce_call x) (answers.Made answer)

-- these files of tags were listed
abbrev pub listed_tags : Names → Event
listed_tags files = answered tags_call (answers.Listed files)

-- that came first, and then the calls of the lister of consumers, of which this holds
pub record HasFloor (x : Found) (P : List Event → Type 0) (own : List Event) : Type 0 where
  pub answer : Made
  pub rest : List Event
  pub then_consumers : P rest
  pub is : own ≡ announces x answer ∷ rest

-- all consumers were listed and read again, each by one call, and the end is lowered by what they said
abbrev pub HasRead : Found → ℕ → List Event → Type 0
HasRead x end own =
    (cs : List NamedConsumer) × (next : Option ℕ) × IsLeastNext cs next × (end ≡ end_after x next)
    × HasFloor x (consumers.HasListed cs) own

-- and a snapshot is to go still
abbrev pub IsToList : Found → ℕ → List Event → Type 0
IsToList x end own = (x.first < end) × HasRead x end own

-- then the tags were listed, and this is the first of them, if there is one
pub record HasListed (x : Found) (end : ℕ) (tag : Option (List ℕ)) (own : List Event) : Type 0 where
  pub earlier : List Event
  pub files : Names
  pub to_list : IsToList x end earlier
  pub first : first_tag files.items ≡ tag
  pub is : own ≡ earlier ++ listed_tags files ∷ []

-- the end is known: no snapshot is to go any more, or there is no tag
abbrev pub HasEnded : Found → ℕ → List Event → Type 0
HasEnded x end own = ((end ≡ x.first) × HasRead x end own) ⊎ HasListed x end None own

-- what the call that creates the floor shows: it failed, or memory ran out before it
abbrev pub ShowsOfFloor : Found → Refusal → List Event → Type 0
ShowsOfFloor x refusals.Memory own = own ≡ []
ShowsOfFloor x (refusals.StoreFault path) own = (path ≡ floor_path x.end) × (own ≡ faulted (announce_call x) ∷ [])
ShowsOfFloor x other own = ⊥

-- what the call that lists the tags shows: it failed; or memory ran out before it, or after it; or a tag is there
abbrev pub ShowsOfTags : Found → Refusal → List Event → Type 0
ShowsOfTags x refusals.Memory own =
    (end : ℕ) × (IsToList x end own ⊎ ((tag : Option (List ℕ)) × HasListed x end tag own))
ShowsOfTags x (refusals.StoreFault path) own =
    (end : ℕ) × (earlier : List Event) × IsToList x end earlier × (path ≡ tag_folder)
    × (own ≡ earlier ++ faulted tags_call ∷ [])
ShowsOfTags x (refusals.Unsupported what text) own =
    (what ≡ codes "tag") × ((end : ℕ) × HasListed x end (Some text) own)
ShowsOfTags x other own = ⊥

-- which calls show a refusal, where this was found: one of these, or those of the lister of consumers
abbrev pub Shows : Found → Refusal → List Event → Type 0
Shows x refusal own =
    ShowsOfFloor x refusal own ⊎ (HasFloor x (consumers.Shows refusal) own ⊎ ShowsOfTags x refusal own)

-- its calls so far, by its phase, where this was found: at its end they show a refusal
abbrev pub Did : Found → Phase → List Event → Type 0
Did x (phases.Announce y) own = (y ≡ x) × (own ≡ [])
Did x (phases.Consumers y c) own = (y ≡ x) × HasFloor x (consumers.Did c) own
Did x (phases.Tags a) own = (a.found ≡ x) × IsToList x a.end own
Did x (phases.Announced a) own = (a.found ≡ x) × HasEnded x a.end own
Did x phases.Over own = (refusal : Refusal) × Shows x refusal own

-- Whatever was found, its next call is the next event of its calls so far, or none was made; and a refusal is shown by
-- the calls up to it.
abbrev pub AnnouncerActed : Phase → Phase → StoreView → StoreView → Result AnnounceStep Refusal → Type 0
AnnouncerActed old new before after result = (x : Found)
    → Acts (Did x old) (λ own. Did x new own × IfErr result (λ refusal. Shows x refusal own)) before after
