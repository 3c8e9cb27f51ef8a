use Rattle.pm_avro_schema.specs.View as types
use Rattle.pm_avro_data.specs.Datum.{view}
use Rattle.pm_avro_data.proofs.Encodings.{datum_is}
use Rattle.pm_avro_data.proofs.writing.encode_to.Goals as goal

pub returns-clause-datum : goal.returns-clause-datum
returns-clause-datum c = λ rest.
    datum_is (types.view c.args.kind.now) 0 (view c.args.datum.now) rest c.requires.readable.bounds c.requires.of_type c.in_ok-push_datum.ensures.fits
