use Rattle.std.proofs.Common.{◌≡◌, ◌∙◌, ℕ, true≢false, List, map, codes, Bor, refl, sym}
use Rattle.clap.specs.Words.{app_of}
use Rattle.pm_words.specs.Clap.{HasFound, expire_options}
use Rattle.pm_words.specs.Reading.{GiveRetained}
use Rattle.pm_words.proofs.CommandLemmas.{no_expire, no_max, no_millis, no_min, out_of_order}
use Rattle.pm_words.proofs.DeclareLemmas.{expire_has}
use Rattle.pm_words.proofs.command.expire_of.Goals as goal

abbrev words_of : Bor (List (Bor (List ℕ))) → List (List ℕ)
words_of words = map (λ (word : Bor (List ℕ)). word.now) words.now

pub returns-in_default : goal.returns-in_default
returns-in_default c =
    no_expire (words_of c.args.words) (rw c.in_default.is at (c.in_ok-matches.ensures expire_options (expire_has (app_of c.in_ok-expire_words.field-0) c.in_ok-expire_words.ensures)))

pub returns-in_default-retained_given : goal.returns-in_default-retained_given
returns-in_default-retained_given c =
    let found : HasFound expire_options (words_of c.args.words) c.in-Some.matches =
    rw c.in-Some.is at (c.in_ok-matches.ensures expire_options (expire_has (app_of c.in_ok-expire_words.field-0) c.in_ok-expire_words.ensures)) in
    no_min (words_of c.args.words) found.options found.are
    (rw c.in_default-retained_given.is at (c.retained_given.ensures expire_options (words_of c.args.words) found refl refl))

pub returns-in_default-retained_given-2 : goal.returns-in_default-retained_given-2
returns-in_default-retained_given-2 c =
    let found : HasFound expire_options (words_of c.args.words) c.in-Some.matches =
    rw c.in-Some.is at (c.in_ok-matches.ensures expire_options (expire_has (app_of c.in_ok-expire_words.field-0) c.in_ok-expire_words.ensures)) in
    no_max (words_of c.args.words) found.options found.are
    (rw c.in_default-retained_given-2.is at (c.retained_given-2.ensures expire_options (words_of c.args.words) found refl refl))

pub returns-then-not-are_in_order : goal.returns-then-not-are_in_order
returns-then-not-are_in_order c =
    let found : HasFound expire_options (words_of c.args.words) c.in-Some.matches =
    rw c.in-Some.is at (c.in_ok-matches.ensures expire_options (expire_has (app_of c.in_ok-expire_words.field-0) c.in_ok-expire_words.ensures)) in
    let least : GiveRetained found.options (codes "min") c.in-Some-retained_given.min =
    rw c.in-Some-retained_given.is at (c.retained_given.ensures expire_options (words_of c.args.words) found refl refl) in
    let most : GiveRetained found.options (codes "max") c.in-Some-retained_given-2.max =
    rw c.in-Some-retained_given-2.is at (c.retained_given-2.ensures expire_options (words_of c.args.words) found refl refl) in
    out_of_order (words_of c.args.words) found.options found.are c.in-Some-retained_given.min c.in-Some-retained_given-2.max least.0 most.0
    (λ order. true≢false (sym (c.are_in_order.ensures.1 order) ∙ c.if-not-are_in_order.true))

pub returns-in_default-number_given : goal.returns-in_default-number_given
returns-in_default-number_given c =
    let found : HasFound expire_options (words_of c.args.words) c.in-Some.matches =
    rw c.in-Some.is at (c.in_ok-matches.ensures expire_options (expire_has (app_of c.in_ok-expire_words.field-0) c.in_ok-expire_words.ensures)) in
    no_millis (words_of c.args.words) found.options found.are
    (rw c.in_default-number_given.is at (c.number_given.ensures expire_options (words_of c.args.words) found refl refl))

pub returns : goal.returns
returns c =
    let found : HasFound expire_options (words_of c.args.words) c.in-Some.matches =
    rw c.in-Some.is at (c.in_ok-matches.ensures expire_options (expire_has (app_of c.in_ok-expire_words.field-0) c.in_ok-expire_words.ensures)) in
    let least : GiveRetained found.options (codes "min") c.in-Some-retained_given.min =
    rw c.in-Some-retained_given.is at (c.retained_given.ensures expire_options (words_of c.args.words) found refl refl) in
    let most : GiveRetained found.options (codes "max") c.in-Some-retained_given-2.max =
    rw c.in-Some-retained_given-2.is at (c.retained_given-2.ensures expire_options (words_of c.args.words) found refl refl) in
    record {
      options = found.options;
      are = found.are;
      of = record {
        first = refl;
        names = found.of;
        values = (
          least.0,
          most.0,
          rw c.in-Some-number_given.is at (c.number_given.ensures expire_options (words_of c.args.words) found refl refl),
          (least.1, most.1, c.are_in_order.ensures.0 c.if-not-are_in_order.false),
        );
      };
    }
