use Rattle.pm_words.proofs.FindLemmas.{flag_is}
use Rattle.pm_words.proofs.values.flag_given.Goals as goal

pub returns : goal.returns
returns c = λ declared words found known.
    flag_is declared words c.args.matches.now found c.args.option.now c.get_flag.result known c.get_flag.ensures.value c.get_flag.ensures.other
