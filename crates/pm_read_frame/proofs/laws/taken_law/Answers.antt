use Rattle.pm_read_frame.proofs.ChangeLemmas.{FrameLaws}
use Rattle.pm_read_frame.proofs.StoodLemmas.{all_taken}
use Rattle.pm_read_frame.proofs.laws.taken_law.Goals as goal

pub returns : goal.returns
returns c =
    let laws : FrameLaws = record {
      rows = record { follow = c.one_list_law.ensures.follow; gives = c.reading_law.ensures.gives };
      kept = c.kept_law.ensures.change;
      parts = c.parts_law.ensures;
      declared = λ path bytes s read. c.declared_law.ensures.file path bytes s ((c.schema_law.ensures.exact path bytes s).0 read);
    } in
    all_taken c.one_contents_law.ensures laws
