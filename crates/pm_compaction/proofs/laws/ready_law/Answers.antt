use Rattle.std.proofs.Common.{subst}
use Rattle.pm_model_history.specs.History.{History}
use Rattle.pm_model_folder.specs.Folder.{Folder}
use Rattle.pm_model_folder.specs.Ledger.{KnowsPast}
use Rattle.pm_model_folder.specs.Paths.{schema_path}
use Rattle.pm_compaction.proofs.GivenLemmas.{attempt-own, base-to, full-within, given-own}
use Rattle.pm_compaction.proofs.MayLemmas.{attempt-change}
use Rattle.pm_compaction.proofs.laws.ready_law.Goals as goal

pub returns : goal.returns
returns c = record {
  base = λ me p s entries base plan given was knows. base-to me s entries base plan given p was knows;
  own = λ me p s t plan given plain knows is. attempt-own me s t plan given p plain knows is;
  given = λ me p s base plan given plain knows. given-own me s plain base plan given p knows;
  full = λ me f p s entries newest base plan given stands was is knows.
      full-within c.appends_law.ensures c.one_contents_law.ensures c.same_law.ensures c.one_runs_law.ensures me f p s entries newest base plan given stands was is knows;
  change = λ me f p s entries base t plan given stands was knows is made.
      attempt-change c.log_law.ensures c.order_law.ensures.groups c.joined_law.ensures.left c.read_entry_law.ensures.manifest c.stored_law.ensures c.names_law.ensures.one me f p s
      (let (bytes, there, read) = (subst (λ (h : History). Folder f h) was stands.folder).schema.first in
      c.declared_law.ensures.file (schema_path 0) bytes s ((c.schema_law.ensures.exact (schema_path 0) bytes s).0 read))
      entries (subst (λ (h : History). Folder f h) was stands.folder).history.rows base t plan given (subst (λ (h : History). KnowsPast f h p) was stands.past) (base-to me s entries base plan given p was knows) knows is made;
}
