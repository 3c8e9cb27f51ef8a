use Rattle.std.proofs.Common.{◌≡◌, ℕ, List, map, codes, Bor, refl}
use Rattle.clap.specs.Words.{app_of}
use Rattle.pm_words.specs.Clap.{HasFound, generate_options}
use Rattle.pm_words.specs.Reading.{GiveBetween}
use Rattle.pm_words.specs.Words.{greatest_number, most_batch_rows, most_batches}
use Rattle.pm_words.proofs.CommandLemmas.{no_batches, no_generate, no_rows, no_seed}
use Rattle.pm_words.proofs.DeclareLemmas.{generate_has}
use Rattle.pm_words.proofs.command.generate_of.Goals as goal

abbrev words_of : Bor (List (Bor (List ℕ))) → List (List ℕ)
words_of words = map (λ (word : Bor (List ℕ)). word.now) words.now

pub returns-in_default : goal.returns-in_default
returns-in_default c =
    no_generate (words_of c.args.words) (rw c.in_default.is at (c.in_ok-matches.ensures generate_options (generate_has (app_of c.in_ok-generate_words.field-0) c.in_ok-generate_words.ensures)))

pub returns-in_default-number_between : goal.returns-in_default-number_between
returns-in_default-number_between c =
    let found : HasFound generate_options (words_of c.args.words) c.in-Some.matches =
    rw c.in-Some.is at (c.in_ok-matches.ensures generate_options (generate_has (app_of c.in_ok-generate_words.field-0) c.in_ok-generate_words.ensures)) in
    no_batches (words_of c.args.words) found.options found.are
    (rw c.in_default-number_between.is at (c.number_between.ensures generate_options (words_of c.args.words) found refl refl))

pub returns-in_default-number_between-2 : goal.returns-in_default-number_between-2
returns-in_default-number_between-2 c =
    let found : HasFound generate_options (words_of c.args.words) c.in-Some.matches =
    rw c.in-Some.is at (c.in_ok-matches.ensures generate_options (generate_has (app_of c.in_ok-generate_words.field-0) c.in_ok-generate_words.ensures)) in
    no_rows (words_of c.args.words) found.options found.are
    (rw c.in_default-number_between-2.is at (c.number_between-2.ensures generate_options (words_of c.args.words) found refl refl))

pub returns-in_default-number_between-3 : goal.returns-in_default-number_between-3
returns-in_default-number_between-3 c =
    let found : HasFound generate_options (words_of c.args.words) c.in-Some.matches =
    rw c.in-Some.is at (c.in_ok-matches.ensures generate_options (generate_has (app_of c.in_ok-generate_words.field-0) c.in_ok-generate_words.ensures)) in
    no_seed (words_of c.args.words) found.options found.are
    (rw c.in_default-number_between-3.is at (c.number_between-3.ensures generate_options (words_of c.args.words) found refl refl))

pub returns : goal.returns
returns c =
    let found : HasFound generate_options (words_of c.args.words) c.in-Some.matches =
    rw c.in-Some.is at (c.in_ok-matches.ensures generate_options (generate_has (app_of c.in_ok-generate_words.field-0) c.in_ok-generate_words.ensures)) in
    let batches : GiveBetween found.options (codes "batches") 0 most_batches c.in-Some-number_between.batches =
    rw c.in-Some-number_between.is at (c.number_between.ensures generate_options (words_of c.args.words) found refl refl) in
    let rows : GiveBetween found.options (codes "rows") 1 most_batch_rows c.in-Some-number_between-2.rows =
    rw c.in-Some-number_between-2.is at (c.number_between-2.ensures generate_options (words_of c.args.words) found refl refl) in
    let seed : GiveBetween found.options (codes "seed") 0 greatest_number c.in-Some-number_between-3.seed =
    rw c.in-Some-number_between-3.is at (c.number_between-3.ensures generate_options (words_of c.args.words) found refl refl) in
    record {
      options = found.options;
      are = found.are;
      of = record {
        first = refl;
        names = found.of;
        values = (batches.0, rows.0, seed.0, (batches.2, rows.1, rows.2));
      };
    }
