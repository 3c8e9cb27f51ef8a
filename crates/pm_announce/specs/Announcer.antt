-- An announcer of an expiry: its phases, its calls, and what each answer leads to.
use Rattle.std.specs.Prelude.{◌≡◌, ◌⊎◌, ℕ, ◌+◌, ◌<◌, ◌≤◌, List, [], max, min, Option, None, Some}
use Rattle.pm_values.specs.declared.refusal.Refusal.{Refusal}
use Rattle.pm_values.specs.declared.refusal.Refusal.TheVariants as refusals
use Rattle.pm_store.specs.declared.answer.Answer.{Answer}
use Rattle.pm_store.specs.declared.answer.Answer.TheVariants as answers
use Rattle.pm_store.specs.declared.call.Call.{Call}
use Rattle.pm_store.specs.declared.call.Call.TheVariants as calls
use Rattle.pm_schema.specs.Again.{IsDeclared}
use Rattle.pm_model_folder.specs.Paths.{floor_path}
use Rattle.pm_consumers.specs.Lister as consumers
use Rattle.pm_consumers.specs.declared.phase.Phase as consuming
use Rattle.pm_consumers.specs.declared.phase.Phase.TheVariants as consumer_listers
use Rattle.pm_read_expiry.specs.Times.{IsLeastNext}
use Rattle.pm_read_expiry.specs.declared.asking.Found.{Found}
use Rattle.pm_announce.specs.Tags.{first_tag, tag_folder, unbuilt_tag}
use Rattle.pm_announce.specs.declared.announcer.AnnounceStep.{AnnounceStep}
use Rattle.pm_announce.specs.declared.announcer.AnnounceStep.TheVariants as steps
use Rattle.pm_announce.specs.declared.phase.Announced.{Announced}
use Rattle.pm_announce.specs.declared.phase.Phase.{Phase}
use Rattle.pm_announce.specs.declared.phase.Phase.TheVariants as phases

-- what is announced: that some snapshot goes, of a table that was read
pub record IsToAnnounce (x : Found) : Type 0 where
  pub declared : IsDeclared x.schema
  pub some : 1 ≤ x.first
  pub first : x.first < x.end
  pub last : x.end ≤ x.last

-- the end once the consumers were read again: lowered to the least that they read next, but not below the first
abbrev pub end_after : Found → Option ℕ → ℕ
end_after x None = x.end
end_after x (Some next) = max x.first (min x.end next)

abbrev pub announced_of : Found → ℕ → Announced
announced_of x end = record { found = x; end = end }

-- ---- its calls

-- the call that creates the floor, an empty file
abbrev pub announce_call : Found → Call
announce_call x = calls.Create (floor_path x.end) []

-- the call that lists the tags
abbrev pub tags_call : Call
tags_call = calls.List tag_folder

-- its next call, or none at its end
abbrev pub next_call : Phase → Option Call
next_call (phases.Announce x) = Some (announce_call x)
next_call (phases.Consumers x c) = consumers.next_call c
next_call (phases.Tags a) = Some tags_call
next_call (phases.Announced a) = None
next_call phases.Over = None

-- how many calls are left at most, where no refusal comes
abbrev pub calls_left : Phase → ℕ
calls_left (phases.Announce x) = consumers.calls_left consumer_listers.List + 2
calls_left (phases.Consumers x c) = consumers.calls_left c + 1
calls_left (phases.Tags a) = 1
calls_left (phases.Announced a) = 0
calls_left phases.Over = 0

-- what was announced is in order: the end is among the snapshots, and at most what was found
pub record IsAnnounced (a : Announced) : Type 0 where
  pub of : IsToAnnounce a.found
  pub first : a.found.first ≤ a.end
  pub last : a.end ≤ a.found.end

-- an announcer: its lister of consumers has a call left
abbrev pub IsAnnouncer : Phase → Type 0
IsAnnouncer (phases.Announce x) = IsToAnnounce x
IsAnnouncer (phases.Consumers x c) = IsToAnnounce x × (0 < consumers.calls_left c)
IsAnnouncer (phases.Tags a) = IsAnnounced a × (a.found.first < a.end)
IsAnnouncer (phases.Announced a) = IsAnnounced a
IsAnnouncer phases.Over = Unit {0}

-- the end is known, and nothing is left to be called
abbrev pub IsReady : Phase → Type 0
IsReady (phases.Announced a) = Unit {0}
IsReady other = ⊥

-- ---- what answers lead to

-- once the end is known: the tags are to be listed where a snapshot is to go still
pub data AfterEnd (a : Announced) (later : Phase) : Type 0 where
  none_goes : a.end ≡ a.found.first → later ≡ phases.Announced a → AfterEnd a later
  some_goes : a.found.first < a.end → later ≡ phases.Tags a → AfterEnd a later

-- once a consumer's file was read, or all were
pub data AfterConsumers (x : Found) (c : consuming.Phase) (later : Phase) : Type 0 where
  more_consumers : (consumers.IsDone c → ⊥) → later ≡ phases.Consumers x c → AfterConsumers x c later
  all_consumers : (next : Option ℕ) → consumers.IsDone c → IsLeastNext (consumers.consumers_in c) next
      → AfterEnd (announced_of x (end_after x next)) later → AfterConsumers x c later

-- the phase after an answer that it goes on with: whether the floor was created or was there; and where no tag is
abbrev pub Goes : Phase → Answer → Phase → Type 0
Goes (phases.Announce x) (answers.Made answer) later = later ≡ phases.Consumers x consumer_listers.List
Goes (phases.Consumers x c) answer later =
    (new : consuming.Phase) × consumers.Goes c answer new × AfterConsumers x new later
Goes (phases.Tags a) (answers.Listed files) later = (first_tag files.items ≡ None) × (later ≡ phases.Announced a)
Goes phase other later = ⊥

-- the refusal that an answer shows: one of the lister of consumers; or memory ran out once the tags were listed, or it
-- names the first of them
abbrev pub Shown : Phase → Answer → Refusal → Type 0
Shown (phases.Consumers x c) answer refusal = consumers.Shown c answer refusal
Shown (phases.Tags a) (answers.Listed files) refusal =
    (refusal ≡ refusals.Memory)
    ⊎ ((name : List ℕ) × (first_tag files.items ≡ Some name) × (refusal ≡ unbuilt_tag name))
Shown phase other refusal = ⊥

-- what a step that goes on has reached
abbrev pub Reaches : AnnounceStep → Phase → Type 0
Reaches steps.More new = 0 < calls_left new
Reaches steps.Ready new = IsReady new

-- Private: the answer of a step that went on, by the phase that it reached
abbrev pub reached_at : Phase → AnnounceStep
reached_at (phases.Announced a) = steps.Ready
reached_at other = steps.More
