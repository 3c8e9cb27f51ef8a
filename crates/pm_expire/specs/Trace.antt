-- An expirer's own calls, and what they show.
use Rattle.std.specs.Prelude.{◌≡◌, ◌⊎◌, ℕ, ◌+◌, ◌≤◌, List, [], ◌∷◌, ◌++◌, length, None, Result, IfErr}
use Rattle.pm_values.specs.declared.refusal.Refusal.{Refusal}
use Rattle.pm_values.specs.declared.refusal.Refusal.TheVariants as refusals
use Rattle.pm_store.specs.Store.{StoreView}
use Rattle.pm_machine.specs.Trace.{Acts, Event}
use Rattle.pm_remove.specs.Trace as removing
use Rattle.pm_expire_paths.specs.Dropping.{Adds, DroppingView}
use Rattle.pm_read_log.specs.Log.{LogAskedView, log_asked_of}
use Rattle.pm_read_whole.specs.Trace as whole
use Rattle.pm_read_whole.specs.Whole.{IsReady, paths_of}
use Rattle.pm_read_whole.specs.declared.phase.Phase as whole_phase
use Rattle.pm_read_expiry.specs.Trace as reading
use Rattle.pm_read_expiry.specs.declared.asking.Asking.{Asking}
use Rattle.pm_read_expiry.specs.declared.asking.Found.{Found}
use Rattle.pm_announce.specs.Announcer.{IsToAnnounce}
use Rattle.pm_announce.specs.Trace as announcing
use Rattle.pm_announce.specs.declared.phase.Announced.{Announced}
use Rattle.pm_expire.specs.Expirer.{AreNone, AreRemovals}
use Rattle.pm_expire.specs.declared.expirer.ExpireStep.{ExpireStep}
use Rattle.pm_expire.specs.declared.phase.Phase.{Phase}
use Rattle.pm_expire.specs.declared.phase.Phase.TheVariants as phases
use Rattle.pm_expire.specs.declared.phase.Views.{Views}

-- ---- how far the calls have come, where this was asked

-- What an expiry needs was read, by the first calls, and by that a snapshot is to go. Of the calls after them this
-- holds.
pub record HasFound (a : Asking) (x : Found) (P : List Event → Type 0) (own : List Event) : Type 0 where
  pub to_announce : IsToAnnounce x
  pub reads : List Event
  pub rest : List Event
  pub found : reading.HasFound a x reads
  pub then_rest : P rest
  pub is : own ≡ reads ++ rest

-- its end was announced, the consumers were read again, a snapshot is to go still, and no tag was listed
pub record HasAnnounced (n : Announced) (P : List Event → Type 0) (own : List Event) : Type 0 where
  pub announces : List Event
  pub rest : List Event
  pub listed : announcing.HasListed n.found n.end None announces
  pub then_rest : P rest
  pub is : own ≡ announces ++ rest

-- what is asked of the readers of the view of a snapshot
abbrev pub asked_at : Announced → ℕ → LogAskedView
asked_at n id = log_asked_of n.found.schema id

-- Whole views were read, of one snapshot after another from an id on, and added to what was seen; these are the phases
-- with which their readers ended.
abbrev pub HaveViews : Announced → ℕ → DroppingView → List whole_phase.Phase → DroppingView → List Event → Type 0
HaveViews n id d [] e own = (e ≡ d) × (own ≡ [])
HaveViews n id d (m ∷ read) e own =
    (next : DroppingView) × (first : List Event) × (rest : List Event) × IsReady m
    × whole.Did (asked_at n id) m first × Adds d (paths_of m) next
    × HaveViews n (id + 1) next read e rest × (own ≡ first ++ rest)

-- so many from the first snapshot on, before this one, were added to none; and of the calls after that this holds
pub record HasViews (n : Announced) (id : ℕ) (d : DroppingView) (P : List Event → Type 0) (own : List Event)
    : Type 0 where
  pub none : DroppingView
  pub are_none : AreNone none
  pub read : List whole_phase.Phase
  pub views : List Event
  pub rest : List Event
  pub count : n.found.first + length read ≡ id
  pub viewed : HaveViews n n.found.first none read d views
  pub then_rest : P rest
  pub is : own ≡ views ++ rest

-- all views were, that of the end too, and then come the calls of the remover of what follows from them
abbrev pub HasAll : Announced → (List (List ℕ) → List Event → Type 0) → List Event → Type 0
HasAll n P own =
    (d : DroppingView) × (paths : List (List ℕ)) × AreRemovals n d paths × HasViews n (n.end + 1) d (P paths) own

-- What was done: no snapshot was to go, or none any more once the consumers were read again; or all were removed that
-- were to be, each once and in their order.
pub data HasExpired (a : Asking) (first last : ℕ) (own : List Event) : Type 0 where
  kept_all : (x : Found) → x.end ≡ x.first → first ≡ x.end → last ≡ x.last → reading.HasFound a x own
      → HasExpired a first last own
  kept_all_then : (n : Announced) → n.end ≡ n.found.first → first ≡ n.end → last ≡ n.found.last
      → HasFound a n.found (announcing.HasRead n.found n.end) own → HasExpired a first last own
  removed : (n : Announced) → first ≡ n.end → last ≡ n.found.last
      → HasFound a n.found (HasAnnounced n (HasAll n (λ paths rest. removing.HasRemoved rest paths))) own
      → HasExpired a first last own

-- ---- what they show

-- memory ran out once the end that was announced was known, or once a view was read
pub data EndsBetween (a : Asking) (own : List Event) : Type 0 where
  announced_then : (n : Announced) → HasFound a n.found (announcing.HasEnded n.found n.end) own → EndsBetween a own
  viewed_then : (v : Views) (m : whole_phase.Phase) → IsReady m
      → HasFound a v.announced.found (HasAnnounced v.announced
      (HasViews v.announced v.id v.dropping (whole.Did (asked_at v.announced v.id) m))) own → EndsBetween a own

-- what the calls of its parts show: no view is read of a snapshot above the end
abbrev pub ShowsOfAnnouncer : Asking → Refusal → List Event → Type 0
ShowsOfAnnouncer a refusal own = (x : Found) × HasFound a x (announcing.Shows x refusal) own

abbrev pub ShowsOfView : Asking → Refusal → List Event → Type 0
ShowsOfView a refusal own =
    (v : Views) × (v.id ≤ v.announced.end) × HasFound a v.announced.found (HasAnnounced v.announced
    (HasViews v.announced v.id v.dropping (whole.Shows (asked_at v.announced v.id) refusal))) own

abbrev pub ShowsOfRemover : Asking → Refusal → List Event → Type 0
ShowsOfRemover a refusal own =
    (n : Announced) × HasFound a n.found (HasAnnounced n (HasAll n (λ paths. removing.Shows paths refusal))) own

-- which calls show a refusal: those of the part that made the last of them; or memory ran out between two parts
abbrev pub Shows : Asking → Refusal → List Event → Type 0
Shows a refusal own =
    reading.Shows a refusal own
    ⊎ (ShowsOfAnnouncer a refusal own ⊎ (ShowsOfView a refusal own
    ⊎ (ShowsOfRemover a refusal own ⊎ ((refusal ≡ refusals.Memory) × EndsBetween a own))))

-- its calls so far, by its phase, where this was asked: at its end they show a refusal
abbrev pub Did : Asking → Phase → List Event → Type 0
Did a (phases.Read m) own = reading.Did a m own
Did a (phases.Announce m) own = (x : Found) × HasFound a x (announcing.Did x m) own
Did a (phases.View v m) own =
    (v.id ≤ v.announced.end) × HasFound a v.announced.found (HasAnnounced v.announced
    (HasViews v.announced v.id v.dropping (whole.Did (asked_at v.announced v.id) m))) own
Did a (phases.Remove first last m) own =
    (n : Announced) × (first ≡ n.end) × (last ≡ n.found.last)
    × HasFound a n.found (HasAnnounced n (HasAll n (λ paths. removing.Did paths m))) own
Did a (phases.Done first last) own = HasExpired a first last own
Did a phases.Over own = (refusal : Refusal) × Shows a refusal own

-- Whatever was asked, its next call is the next event of its calls so far, or none was made; and a refusal is shown by
-- the calls up to it.
abbrev pub ExpirerActed : Phase → Phase → StoreView → StoreView → Result ExpireStep Refusal → Type 0
ExpirerActed old new before after result = (a : Asking)
    → Acts (Did a old) (λ own. Did a new own × IfErr result (λ refusal. Shows a refusal own)) before after
