use Rattle.pm_avro_file.proofs.LawLemmas.{answers_one}
use Rattle.pm_avro_file.proofs.laws.one_answer_law.Goals as goal

pub returns : goal.returns
returns c = answers_one
