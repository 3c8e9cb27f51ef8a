use Rattle.std.proofs.Common.{ℕ, List, map, Bor, refl}
use Rattle.clap.specs.Words.{app_of}
use Rattle.pm_words.specs.Clap.{HasFound, consumers_options}
use Rattle.pm_words.proofs.CommandLemmas.{no_consumers, no_dropped}
use Rattle.pm_words.proofs.DeclareLemmas.{consumers_has}
use Rattle.pm_words.proofs.command.consumers_of.Goals as goal

abbrev words_of : Bor (List (Bor (List ℕ))) → List (List ℕ)
words_of words = map (λ (word : Bor (List ℕ)). word.now) words.now

pub returns-in_default : goal.returns-in_default
returns-in_default c =
    no_consumers (words_of c.args.words) (rw c.in_default.is at (c.in_ok-matches.ensures consumers_options (consumers_has (app_of c.in_ok-consumers_words.field-0) c.in_ok-consumers_words.ensures)))

pub returns-in_default-2 : goal.returns-in_default-2
returns-in_default-2 c =
    let found : HasFound consumers_options (words_of c.args.words) c.in-Some.matches =
    rw c.in-Some.is at (c.in_ok-matches.ensures consumers_options (consumers_has (app_of c.in_ok-consumers_words.field-0) c.in_ok-consumers_words.ensures)) in
    no_dropped (words_of c.args.words) found.options found.are (rw c.in_default-2.is at (c.in_ok-dropped.ensures consumers_options (words_of c.args.words) found refl refl))

pub returns : goal.returns
returns c =
    let found : HasFound consumers_options (words_of c.args.words) c.in-Some.matches =
    rw c.in-Some.is at (c.in_ok-matches.ensures consumers_options (consumers_has (app_of c.in_ok-consumers_words.field-0) c.in_ok-consumers_words.ensures)) in
    record {
      options = found.options;
      are = found.are;
      of = record {
        first = refl;
        names = found.of;
        values = rw c.in-Some-2.is at (c.in_ok-dropped.ensures consumers_options (words_of c.args.words) found refl refl);
      };
    }
