-- Frames that were read one after another, whatever others did meanwhile.
use Rattle.std.specs.Prelude.{ℕ, ◌+◌, List, [], ◌∷◌}
use Rattle.std.specs.List.{flat_map}
use Rattle.pm_store.specs.Files.{Files}
use Rattle.pm_model_history.specs.History.{GoesOn, History}
use Rattle.pm_model_folder.specs.Ledger.{Past, Stands}
use Rattle.pm_read_frame.specs.Meaning.{IsFrame}

-- The text was known to be the frame of a snapshot while files stood, and the history that they had goes on as this
-- one.
pub record IsFrameOf (h : History) (id : ℕ) (text : List ℕ) : Type 0 where
  pub files : Files
  pub past : Past
  pub stood : Stands files past
  pub frame : IsFrame past id text
  pub goes_on : GoesOn past.history h

-- So were these, the first of them that of the snapshot with the id, and each other one that of the next snapshot.
abbrev pub AreFramesFrom : History → ℕ → List (List ℕ) → Type 0
AreFramesFrom h id [] = Unit {0}
AreFramesFrom h id (text ∷ texts) = IsFrameOf h id text × AreFramesFrom h (id + 1) texts

-- texts one after another
abbrev pub joined : List (List ℕ) → List ℕ
joined texts = flat_map (λ text. text) texts
