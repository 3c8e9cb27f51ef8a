-- A group's runs at the snapshot of an append are those of its files, and follow those before.
use Rattle.std.proofs.Common.{◌≡◌, ℕ, ℤ, List, ◌∷◌, map, length, refl, subst}
use Rattle.pm_store.specs.Files.{Files}
use Rattle.pm_values.specs.declared.group.Group.{Group}
use Rattle.pm_model_history.specs.History.{Entry, History, append, table}
use Rattle.pm_model_history.specs.Merge.{HistoryRow}
use Rattle.pm_schema.specs.declared.schema.TableSchema.{TableSchema}
use Rattle.pm_model_folder.specs.Changes.{Actor}
use Rattle.pm_model_folder.specs.Ledger.{HasNamedNone, KnowsPast, KnowsTable, Past, Stands}
use Rattle.pm_model_folder.specs.Meaning.{HasSnapshotAt}
use Rattle.pm_model_folder.specs.Runs.{view_of}
use Rattle.pm_model_folder.proofs.HoldLemmas.{Holds, SameContents}
use Rattle.pm_model_folder.proofs.LedgerFacts.{is-table}
use Rattle.pm_model_folder.proofs.RunFacts.{hold-held}
use Rattle.pm_runs.specs.Succession.{KnownRun, grown, unchanged}
use Rattle.pm_append.specs.Commit.{Grows, grows, stays}
use Rattle.pm_commit.proofs.AdvanceLemmas.{GoesWith}
use Rattle.pm_made.proofs.StandLemmas.{new-run, newest-runs}

module _ (same : SameContents) (me : Actor) (f after : Files) (p : Past) (s : TableSchema) (entries : List Entry) (user : List ℕ) (identifier : ℤ)
    (rows : List HistoryRow) (stands : Stands f p) (was : p.history ≡ table s entries) (none : HasNamedNone me p) (newest : HasSnapshotAt f s (length entries))
    (holds : Holds f after) where
  abbrev n : ℕ
  n = length entries

  known : KnowsTable f s entries p
  known = subst (λ (h : History). KnowsPast f h p) was stands.past

  abbrev pub new_runs : (g : Group) → Grows me f after s (length entries) g rows → List KnownRun
  new_runs g (stays none keeps) = p.runs n g
  new_runs g (grows run low last some by has any covers more) = run ∷ p.runs n g

  pub goes-with : (g : Group) → (x : Grows me f after s (length entries) g rows) → GoesWith after p s entries (append user identifier rows) g (new_runs g x)
  goes-with g (stays none keeps) =
      let old = newest-runs f p s entries known was same newest g in (
        record { are = keeps (map view_of (p.runs n g)) old.are; hold = hold-held f after holds s g (p.runs n g) old.hold },
        unchanged refl refl none,
      )
  goes-with g (grows run low last some by has any covers more) =
      let old = newest-runs f p s entries known was same newest g in (
        record { are = more (map view_of (p.runs n g)) old.are; hold = (has, hold-held f after holds s g (p.runs n g) old.hold) },
        grown run refl low last (new-run f p s entries known was me (λ id path. none s id path (is-table p s entries was)) g run some by) any covers,
      )
