use Rattle.std.proofs.Common.{ℕ, ◌≤◌, List, [], ◌∷◌, map, codes, IfSome, Bor, refl, arith, rules}
use Rattle.clap.specs.Words.{app_of}
use Rattle.pm_words.specs.Clap.{HasFound, value}
use Rattle.pm_words.proofs.CommandLemmas.{from_zero, no_consumer, no_follow, no_from}
use Rattle.pm_words.specs.Clap.{follow_options}
use Rattle.pm_words.proofs.DeclareLemmas.{follow_has}
use Rattle.pm_words.proofs.command.follow_of.Goals as goal

abbrev words_of : Bor (List (Bor (List ℕ))) → List (List ℕ)
words_of words = map (λ (word : Bor (List ℕ)). word.now) words.now

pub returns-in_default : goal.returns-in_default
returns-in_default c =
    no_follow (words_of c.args.words) (rw c.in_default.is at (c.in_ok-matches.ensures follow_options (follow_has (app_of c.in_ok-follow_words.field-0) c.in_ok-follow_words.ensures)))

pub returns-in_default-number_given : goal.returns-in_default-number_given
returns-in_default-number_given c =
    let found : HasFound follow_options (words_of c.args.words) c.in-Some.matches =
    rw c.in-Some.is at (c.in_ok-matches.ensures follow_options (follow_has (app_of c.in_ok-follow_words.field-0) c.in_ok-follow_words.ensures)) in
    no_from (words_of c.args.words) found.options found.are (rw c.in_default-number_given.is at (c.number_given.ensures follow_options (words_of c.args.words) found refl refl))

pub returns-in-Some-eq0 : goal.returns-in-Some-eq0
returns-in-Some-eq0 c =
    let found : HasFound follow_options (words_of c.args.words) c.in-Some.matches =
    rw c.in-Some.is at (c.in_ok-matches.ensures follow_options (follow_has (app_of c.in_ok-follow_words.field-0) c.in_ok-follow_words.ensures)) in
    from_zero (words_of c.args.words) found.options found.are c.in-Some-eq0.field-0 (let zero = c.in-Some-eq0.field-0-is in omega (arith, zero))
    (rw c.in-Some-eq0.is at (rw c.in-Some-number_given.is at (c.number_given.ensures follow_options (words_of c.args.words) found refl refl)))

pub returns-in_default-2 : goal.returns-in_default-2
returns-in_default-2 c =
    let found : HasFound follow_options (words_of c.args.words) c.in-Some.matches =
    rw c.in-Some.is at (c.in_ok-matches.ensures follow_options (follow_has (app_of c.in_ok-follow_words.field-0) c.in_ok-follow_words.ensures)) in
    no_consumer (words_of c.args.words) found.options found.are (rw c.in_default-2.is at (c.in_ok-consumer.ensures follow_options (words_of c.args.words) found refl refl))

pub returns : goal.returns
returns c =
    let found : HasFound follow_options (words_of c.args.words) c.in-Some.matches =
    rw c.in-Some.is at (c.in_ok-matches.ensures follow_options (follow_has (app_of c.in_ok-follow_words.field-0) c.in_ok-follow_words.ensures)) in
    let range : IfSome c.in-Some-number_given.from (λ id. 1 ≤ id) = search rules in
    record {
      options = found.options;
      are = found.are;
      of = record {
        first = refl;
        names = found.of;
        values = (
          rw c.in-Some-number_given.is at (c.number_given.ensures follow_options (words_of c.args.words) found refl refl),
          rw c.in-Some-2.is at (c.in_ok-consumer.ensures follow_options (words_of c.args.words) found refl refl),
          c.flag_given-full.ensures follow_options (words_of c.args.words) found refl,
          range,
        );
      };
    }
