use Rattle.std.proofs.Common.{ℕ, List, [], map, codes, Bor, refl}
use Rattle.clap.specs.Words.{app_of}
use Rattle.pm_words.specs.Clap.{HasFound}
use Rattle.pm_words.proofs.CommandLemmas.{no_scan, no_snapshot}
use Rattle.pm_words.specs.Clap.{scan_options}
use Rattle.pm_words.proofs.DeclareLemmas.{scan_has}
use Rattle.pm_words.proofs.command.scan_of.Goals as goal

abbrev words_of : Bor (List (Bor (List ℕ))) → List (List ℕ)
words_of words = map (λ (word : Bor (List ℕ)). word.now) words.now

pub returns-in_default : goal.returns-in_default
returns-in_default c =
    no_scan (words_of c.args.words) (rw c.in_default.is at (c.in_ok-matches.ensures scan_options (scan_has (app_of c.in_ok-scan_words.field-0) c.in_ok-scan_words.ensures)))

pub returns-in_default-number_given : goal.returns-in_default-number_given
returns-in_default-number_given c =
    let found : HasFound scan_options (words_of c.args.words) c.in-Some.matches =
    rw c.in-Some.is at (c.in_ok-matches.ensures scan_options (scan_has (app_of c.in_ok-scan_words.field-0) c.in_ok-scan_words.ensures)) in
    no_snapshot (words_of c.args.words) found.options found.are (rw c.in_default-number_given.is at (c.number_given.ensures scan_options (words_of c.args.words) found refl refl))

pub returns : goal.returns
returns c =
    let found : HasFound scan_options (words_of c.args.words) c.in-Some.matches =
    rw c.in-Some.is at (c.in_ok-matches.ensures scan_options (scan_has (app_of c.in_ok-scan_words.field-0) c.in_ok-scan_words.ensures)) in
    record {
      options = found.options;
      are = found.are;
      of = record {
        first = refl;
        names = found.of;
        values = rw c.in-Some-number_given.is at (c.number_given.ensures scan_options (words_of c.args.words) found refl refl);
      };
    }
