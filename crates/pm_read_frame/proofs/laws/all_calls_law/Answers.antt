use Rattle.pm_read_frame.proofs.AllCallsLemmas.{frame_history}
use Rattle.pm_read_frame.proofs.AtLemmas.{AtLaws}
use Rattle.pm_read_frame.proofs.laws.all_calls_law.Goals as goal

pub returns : goal.returns
returns c =
    let laws : AtLaws = record {
      one = record {
        lists = c.one_reading_law.ensures;
        manifests = c.one_reading_law-2.ensures;
        opening = c.one_opening_law.ensures;
        rows = c.one_list_law.ensures.follow;
      };
      opened = c.reading_law.ensures.opens;
      frame = record {
        rows = record { follow = c.one_list_law.ensures.follow; gives = c.reading_law.ensures.gives };
        kept = c.kept_law.ensures.change;
        parts = c.parts_law.ensures;
        declared = λ path bytes s read. c.declared_law.ensures.file path bytes s ((c.schema_law.ensures.exact path bytes s).0 read);
      };
    } in
    frame_history laws
