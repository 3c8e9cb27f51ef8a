-- What calls of a machine that changes files do to these and to what they stand for, whatever others do before, between
-- and after them.
use Rattle.std.specs.Prelude.{◌≡◌, ◌≢◌, ℕ, List, [], ◌∷◌, ◌++◌, Bool, true, false}
use Rattle.pm_store.specs.declared.call.Op.{Op}
use Rattle.pm_store.specs.Files.{Files, files_after}
use Rattle.pm_store.specs.Store.{Came, StoreView}
use Rattle.pm_model_consumers.specs.Claims.{waits}
use Rattle.pm_model_folder.specs.Changes.{Actor}
use Rattle.pm_model_folder.specs.Consumers.{follower_of}
use Rattle.pm_model_folder.specs.Ledger.{Advances, Past, Stands}

-- Through more operations each own one is a change of the machine's own kinds, which leads on to something, and each of
-- others' may be any change of theirs. Whatever these lead to, this is so at the end.
abbrev pub Through : {H : Type 0} → (Files → H → Files → H → Type 0) → (Files → H → Files → H → Type 0) →
    (Files → H → Type 0) → List Op → List Op → H → Type 0
Through Own Others ends [] ops h = ends (files_after ops) h
Through {H} Own Others ends (op ∷ more) ops h =
    (op.is_own ≡ true → (later : H) × Own (files_after ops) h (files_after (ops ++ op ∷ [])) later
    × Through Own Others ends more (ops ++ op ∷ []) later)
    × (op.is_own ≡ false → (later : H) → Others (files_after ops) h (files_after (ops ++ op ∷ [])) later
    → Through Own Others ends more (ops ++ op ∷ []) later)

-- Of whatever the files stood for and was known with them before, each own operation since is a change of these kinds,
-- whatever others do between by theirs, and this is known at the end.
abbrev pub Brings : {H : Type 0} → (Files → H → Type 0) → (Files → H → Files → H → Type 0) →
    (Files → H → Files → H → Type 0) → (Files → H → Type 0) → (Files → H → Type 0) → StoreView → StoreView → Type 0
Brings {H} Folder Own Others knew knows before after = Came (λ ops more.
    (h : H) → Folder (files_after ops) h → knew (files_after ops) h
    → Through Own Others (λ f later. Folder f later × knows f later) more ops h) before.ops after.ops

-- ---- of a table

-- Another actor makes a change of a kind that it may make: one that registers consumers under another name than this
-- one does.
abbrev pub OthersApart : Actor → Files → Past → Files → Past → Type 0
OthersApart me f p after q = (other : Actor) × (follower_of other ≢ follower_of me) × Advances other f p after q

-- and leaves alone the consumer of this name while this actor waits there
abbrev pub OthersSpare : Actor → List ℕ → Files → Past → Files → Past → Type 0
OthersSpare me name f p after q = OthersApart me f p after q
    × ((listed : Bool) → p.claims name ≡ waits (follower_of me) listed → q.claims name ≡ p.claims name)

-- what an actor's calls bring to a table's past, whatever other actors do
abbrev pub BringsBeside : Actor → (Files → Past → Files → Past → Type 0) → (Files → Past → Type 0) →
    (Files → Past → Type 0) → StoreView → StoreView → Type 0
BringsBeside me Own knew knows before after = Brings Stands Own (OthersApart me) knew knows before after

-- the past stays
abbrev pub StaysPast : Files → Past → Files → Past → Type 0
StaysPast f p after q = q ≡ p
