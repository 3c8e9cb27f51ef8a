use Rattle.std.proofs.Common.{◌≡◌, ◌++◌, drop, map}
use Rattle.std.specs.List.{list_all}
use Rattle.pm_words.specs.Clap.{may_stand}
use Rattle.pm_words.proofs.options.texts_in.Given as goal

abbrev pub invariant-loop-word : goal.invariant-loop-word
invariant-loop-word l = (map (λ text. text.now) l.texts.items ++ drop l.word-index l.words ≡ l.words)
    × (list_all may_stand (drop l.word-index l.words) ≡ list_all may_stand l.words)
