use Rattle.std.proofs.Common.{refl}
use Rattle.pm_avro_file.proofs.Meanings.{codec_named, codec_nameless}
use Rattle.pm_avro_file.proofs.header.refuse.Goals as goal

pub returns-in_ok-text-in-Ok : goal.returns-in_ok-text-in-Ok
returns-in_ok-text-in-Ok c = rw (c.in_ok-what-in-Ok.ensures, c.in_ok-text-in-Ok.ensures, c.in-Ok.ensures.cases.0, codec_named c.args.name.now c.in-Ok.ensures.cases.1) refl

pub returns-in-Err : goal.returns-in-Err
returns-in-Err c = rw (codec_nameless c.args.name.now c.in-Err.ensures.cases.0) refl
