use Rattle.std.proofs.Common.{◌≡◌, true, List, subst}
use Rattle.pm_engine.specs.OfSchema.{meaning_of}
use Rattle.pm_model_history.specs.History.{Entry, History, table}
use Rattle.pm_schema.specs.Rules.{partition_holds}
use Rattle.pm_schema.specs.declared.schema.TableSchema.{TableSchema}
use Rattle.pm_store.specs.Files.{Files}
use Rattle.pm_model_folder.specs.Folder.{Folder}
use Rattle.pm_model_folder.specs.Ledger.{Past, Stands}
use Rattle.pm_model_folder.specs.Paths.{schema_path}
use Rattle.pm_compaction.proofs.CompactionLemmas.{Facts, committed, entry-after, goes-with, has-compacted}
use Rattle.pm_compaction.proofs.DropLemmas.{no-effect}
use Rattle.pm_compaction.proofs.laws.compaction_law.Goals as goal

pub returns : goal.returns
returns c = λ me f after p s entries e t plan given stands was none knows put is ready absent puts.
    let (made, own, above) = c.made_law.ensures me f after s entries e t ready absent puts in (
      entry-after facts me f after p s entries e t plan given stands was none knows put is ready absent puts made above (holds f p s entries stands was),
      committed facts me f after p s entries e t plan given stands was none knows put is ready absent puts made above (holds f p s entries stands was),
      own,
      made,
      has-compacted facts me f after p s entries e t plan given stands was none knows put is ready absent puts made above (holds f p s entries stands was),
      goes-with facts me f after p s entries e t plan given stands was none knows put is ready absent puts made above (holds f p s entries stands was),
    )
  where
    facts : Facts
    facts = record {
      groups = record {
        left = c.joined_law.ensures.left;
        read = c.read_entry_law.ensures.manifest;
        stored = c.stored_law.ensures;
        one_name = c.names_law.ensures.one;
        one_id = c.id_law.ensures;
        two = c.newest_law.ensures.two;
        place = record { runs = c.replaced_law.ensures.runs; disjoint = c.replaced_law.ensures.disjoint; named = c.replaced_law.ensures.named };
        stands = c.rewritten_law.ensures.stands;
        told = λ s. c.rewritten_law.ensures.told s (meaning_of s);
        drops = no-effect c.droppable_law.ensures;
      };
      tie = c.order_law.ensures.groups;
      one_contents = c.one_contents_law.ensures;
      same_contents = c.same_law.ensures;
      one_runs = c.one_runs_law.ensures;
      still = c.still_law.ensures;
      goes_on = c.goes_on_law.ensures;
      change = record { lookup = c.lookup_log_law.ensures; full = c.full_log_law.ensures; quiet = c.quiet_law.ensures };
      log = record { none = c.group_log_law.ensures.none; holds = c.group_log_law.ensures.holds };
      commit = c.commit_law.ensures;
    }

    holds : (f : Files) (p : Past) (s : TableSchema) (entries : List Entry) → Stands f p → p.history ≡ table s entries → partition_holds s ≡ true
    holds f p s entries stands was =
        let (bytes, there, read) = (subst (λ (h : History). Folder f h) was stands.folder).schema.first in
        (c.declared_law.ensures.file (schema_path 0) bytes s ((c.schema_law.ensures.exact (schema_path 0) bytes s).0 read)).rules.1.1.1.0
