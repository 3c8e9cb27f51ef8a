-- What the pieces of a following are, whatever others do meanwhile.
use Rattle.std.specs.Prelude.{◌≡◌, ℕ, ◌-◌, ◌≤◌, List, [], ◌++◌, length, Bool, true, false, Some}
use Rattle.pm_store.specs.Files.{Files}
use Rattle.pm_schema.specs.declared.schema.TableSchema.{TableSchema}
use Rattle.pm_model_history.specs.History.{Entry, GoesOn, History}
use Rattle.pm_model_folder.specs.Ledger.{Past, Stands}
use Rattle.pm_scan.specs.Meaning.{IsPassed}
use Rattle.pm_read_frame.specs.Frames.{AreFramesFrom}
use Rattle.pm_command_follow.specs.Printed.{count_from, follow_text, table_head, text_so_far}

-- The rows were known to be those of the table that is passed on at the snapshot while files stood, and the history
-- that they had goes on as this one.
pub record IsPassedOf (h : History) (id : ℕ) (rows : List ℕ) : Type 0 where
  pub files : Files
  pub past : Past
  pub stood : Stands files past
  pub scan : IsPassed past id rows
  pub goes_on : GoesOn past.history h

-- the starting table, where it is asked for: behind its head the rows that are passed on at one below the start
abbrev pub IsStartOf : History → Bool → ℕ → List ℕ → Type 0
IsStartOf h false start text = text ≡ []
IsStartOf h true start text =
    (rows : List ℕ) × IsPassedOf h (start - 1) rows × (text ≡ table_head (start - 1) ++ rows)

-- The pieces of a following: the starting table, if it is asked for, and frames from the start on, each known of the
-- history as it was at some time.
pub record ArePieces (h : History) (full : Bool) (start : ℕ) (first : List ℕ) (frames : List (List ℕ)) : Type 0 where
  pub base : IsStartOf h full start first
  pub each : AreFramesFrom h start frames

-- What was printed is the starting table, if it is asked for, and so many frames from the start on, no more than there
-- are: a prefix of what is printed of the table.
pub record IsFirstOf (s : TableSchema) (entries : List Entry) (full : Bool) (start count : ℕ) (printed : List ℕ)
    : Type 0 where
  pub text : printed ≡ text_so_far s entries full start count
  pub within : count ≤ count_from start (length entries)
  pub prefix : (rest : List ℕ) × (follow_text s entries (Some start) full ≡ printed ++ rest)
