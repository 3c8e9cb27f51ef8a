use Rattle.pm_made.proofs.AsMadeLemmas.{as-made}
use Rattle.pm_made.proofs.LiveLemmas.{ManifestFacts}
use Rattle.pm_made.proofs.NamedLemmas.{above, names-own}
use Rattle.pm_made.proofs.OldLemmas.{SnapshotFacts}
use Rattle.pm_made.proofs.laws.made_law.Goals as goal

pub returns : goal.returns
returns c = λ me f after s entries e t ready absent puts.
    let made = as-made facts manifests c.read_entry_law.ensures.manifest me f after s entries e t ready absent puts in
    (made, names-own facts me f after s entries e t ready made, above facts me f after s entries e t ready made)
  where
    facts : SnapshotFacts
    facts = record {
      one_contents = c.one_contents_law.ensures;
      contents_stay = c.kept_law.ensures;
      consistent = c.snapshot_law.ensures.consistent;
      bears = c.snapshot_law.ensures.id;
    }

    manifests : ManifestFacts
    manifests = record {
      same_id = c.id_law.ensures;
      last = c.last_law.ensures.last;
      others = c.last_law.ensures.others;
      live = c.live_law.ensures;
      left = c.joined_law.ensures.left;
      order = c.joined_law.ensures.order;
    }
