-- What an expirer knows of a table's past, whoever else acts.
use Rattle.std.specs.Prelude.{◌≡◌, ◌⊎◌, ℕ, ◌<◌, ◌≤◌, List, Contains, Option, None, Some, min}
use Rattle.pm_store.specs.Files.{Files}
use Rattle.pm_schema.specs.declared.schema.TableSchema.{TableSchema}
use Rattle.pm_model_consumers.specs.Claims.{Counts, Said}
use Rattle.pm_model_folder.specs.Commits.{Names}
use Rattle.pm_model_folder.specs.Consumers.{said_at}
use Rattle.pm_model_folder.specs.Folder.{IsAnnounced}
use Rattle.pm_model_folder.specs.Ledger.{IsKnown, Past, count_of}
use Rattle.pm_model_folder.specs.Meaning.{HasSnapshotAt}

-- ---- its end

-- a floor announced the end, which is at most the newest snapshot
pub record HasAnnounced (f : Files) (p : Past) (end : ℕ) : Type 0 where
  pub within : end ≤ count_of p.history
  pub floor : IsAnnounced f end

-- And the files of these names are left to be read, which were listed since: the end is at most the number of each
-- other consumer that counts.
pub record HasLeft (f : Files) (p : Past) (end : ℕ) (names : List (List ℕ)) : Type 0 where
  pub announced : HasAnnounced f p end
  pub counted : (name : List ℕ) (said : Said) → Counts (p.claims name) → said_at f name ≡ Some said
      → (end ≤ said.next) ⊎ Contains names name

-- the end, lowered to the number of a consumer whose file was read, if it was there
abbrev pub lowered : ℕ → Option Said → ℕ
lowered end None = end
lowered end (Some said) = min end said.next

-- ---- what has gone

-- no snapshot below the id is there, the origin counted as 0
abbrev pub HaveGone : Files → TableSchema → ℕ → Type 0
HaveGone f s id = (below : ℕ) → below < id → HasSnapshotAt f s below → ⊥

-- nor is one but the origin; and all of these were committed
pub record HaveGoneBetween (f : Files) (p : Past) (s : TableSchema) (id : ℕ) : Type 0 where
  pub within : id ≤ count_of p.history
  pub gone : (below : ℕ) → 1 ≤ below → below < id → HasSnapshotAt f s below → ⊥

-- ---- what none needs any more

-- A snapshot below the end named the path when it was committed, and the one at the end didn't. So none from the end on
-- does, nor will.
pub record IsDropped (p : Past) (s : TableSchema) (end : ℕ) (path : List ℕ) : Type 0 where
  pub kept : IsKnown p end
  pub spared : Names (p.stood end) s end path → ⊥
  pub gone : ℕ
  pub below : gone < end
  pub known : IsKnown p gone
  pub named : Names (p.stood gone) s gone path
