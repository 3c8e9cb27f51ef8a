use Rattle.std.proofs.Common.{ℕ, List, [], map, codes, Bor, refl}
use Rattle.clap.specs.Words.{app_of}
use Rattle.pm_words.specs.Clap.{HasFound}
use Rattle.pm_words.proofs.CommandLemmas.{no_compact}
use Rattle.pm_words.specs.Clap.{compact_options}
use Rattle.pm_words.proofs.DeclareLemmas.{compact_has}
use Rattle.pm_words.proofs.command.compact_of.Goals as goal

abbrev words_of : Bor (List (Bor (List ℕ))) → List (List ℕ)
words_of words = map (λ (word : Bor (List ℕ)). word.now) words.now

pub returns-in_default : goal.returns-in_default
returns-in_default c =
    no_compact (words_of c.args.words) (rw c.in_default.is at (c.in_ok-matches.ensures compact_options (compact_has (app_of c.in_ok-compact_words.field-0) c.in_ok-compact_words.ensures)))

pub returns : goal.returns
returns c =
    let found : HasFound compact_options (words_of c.args.words) c.in-Some.matches =
    rw c.in-Some.is at (c.in_ok-matches.ensures compact_options (compact_has (app_of c.in_ok-compact_words.field-0) c.in_ok-compact_words.ensures)) in
    record {
      options = found.options;
      are = found.are;
      of = record { first = refl; names = found.of; values = c.flag_given-full.ensures compact_options (words_of c.args.words) found refl };
    }
