use Rattle.pm_run.specs.Form.{form_of}
use Rattle.pm_run_writer.proofs.run_writer.RunWriter.reserve.Goals as goal

pub returns-clause-kept : goal.returns-clause-kept
returns-clause-kept c = λ s limit level marker rows hand. record {
  writer = hand.writer;
  names = hand.names;
  limited = hand.limited;
  levelled = hand.levelled;
  begun = c.reserve.ensures.begun (form_of s) marker rows hand.begun;
  summary = hand.summary;
  within = hand.within;
  last = hand.last;
}
