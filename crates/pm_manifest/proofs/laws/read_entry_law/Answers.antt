use Rattle.pm_manifest.specs.Entries.{IsEntry, entry_in, has_entry_fields}
use Rattle.pm_manifest.specs.Listed.{IsListed, has_meta_fields, meta_in}
use Rattle.pm_record.specs.File.{joined}
use Rattle.pm_manifest.proofs.BoundLemmas.{all_read_all, entry_read, meta_read}
use Rattle.pm_manifest.proofs.laws.read_entry_law.Goals as goal

pub returns-clause-entry : goal.returns-clause-entry
returns-clause-entry c = entry_read

pub returns-clause-meta : goal.returns-clause-meta
returns-clause-meta c = meta_read

pub returns-clause-manifest : goal.returns-clause-manifest
returns-clause-manifest c = λ s path bytes es h.
    let f = (c.records_law.ensures has_entry_fields (entry_in s) path bytes es).0 h in
    all_read_all (IsEntry s) (entry_in s f.0) (entry_read s f.0) (joined f.1) es f.5

pub returns-clause-list : goal.returns-clause-list
returns-clause-list c = λ path bytes ms h.
    let f = (c.records_law-2.ensures has_meta_fields meta_in path bytes ms).0 h in
    all_read_all IsListed (meta_in f.0) (meta_read f.0) (joined f.1) ms f.5
