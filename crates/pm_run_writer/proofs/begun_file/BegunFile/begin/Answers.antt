use Rattle.std.proofs.Common.{◌≡◌, [], false, refl, subst}
use Rattle.pm_avro_schema.specs.Avro.{Avro, takes_no_byte}
use Rattle.pm_avro_schema.specs.Readable.{IsReadable}
use Rattle.pm_avro_file.specs.Begun.{IsBegun}
use Rattle.pm_run.specs.Kinds.{run_type}
use Rattle.pm_run_writer.proofs.BegunLemmas.{none_encoded}
use Rattle.pm_run_writer.proofs.begun_file.BegunFile.begin.Goals as goal

pub returns-clause-begun : goal.returns-clause-begun
returns-clause-begun c = λ f kind. record {
  blocks = [];
  last = [];
  same = refl;
  full = tt;
  begun = subst (λ (t : Avro). IsBegun t c.args.marker [] c.in-Ok.out.items) kind c.in-Ok.ensures.begun;
  encoded = none_encoded (run_type f) c.new.result.items (subst IsReadable kind c.requires.readable) (subst (λ (t : Avro). takes_no_byte t ≡ false) kind c.requires.some) c.new.ensures.items;
  count = refl;
  marked = refl;
  writable = tt;
}
