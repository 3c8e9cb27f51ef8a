-- Words give one command at most.
use Rattle.std.proofs.Common.{◌≡◌, inl, inr, ◌<◌, ◌≤◌, ◌^◌, ℕ, Bool, true, false, true≢false, ◌&&◌, ◌||◌, List, [], ◌∷◌, ◌++◌, append-nil, codes, Option, None, Some, IfSome, IfNone, option_map, refl, sym, ap, ap₂, subst, ◌∙◌, arith}
use Rattle.std.specs.Borrow.{Bor}
use Rattle.std.specs.Fmt.{decimal}
use Rattle.std.specs.List.{list_all}
use Rattle.std.specs.Str.{bytes_eq}
use Rattle.std.proofs.lemmas.Fmt.{decimal_injective}
use Rattle.std.proofs.lemmas.Slice.Eq.{bytes_eq-Decides}
use Rattle.pm_words.specs.Clap.{HasNoOptions, IsGiven, flag, has_bytes, may_stand, value}
use Rattle.pm_words.specs.Reading.{AreOfCommand, Finds, GiveAfter, GiveBetween, GiveRetained, IsNameOf, IsNumberOf}
use Rattle.pm_words.specs.Words.{AreInOrder, AreOf, AreOptions, CommandOption, Give, GiveEach, GiveFlag, GiveName, GiveNoCommand, GiveNumber, IsRetained, after_equals, begins_with_hyphen, given, greatest_number, is_among, most_batch_rows, most_batches, names_of, word_of}
use Rattle.pm_words.specs.declared.command.Command.{Command}
use Rattle.pm_words.specs.declared.command.Command.TheVariants as commands
use Rattle.pm_words.proofs.OptionLemmas.{one_list}
use Rattle.pm_words.proofs.ReadLemmas.{both}

-- other texts are other words
apart : (a b : List ℕ) → bytes_eq a b ≡ false → a ≡ b → ⊥
apart a b differ same = true≢false (sym ((bytes_eq-Decides a b).1 same) ∙ differ)

one_flag : (options : List CommandOption) (option : List ℕ) (a b : Bool) → GiveFlag options option a → GiveFlag options option b → a ≡ b
one_flag options option true true one other = refl
one_flag options option false false one other = refl
one_flag options option true false one other = absurd cc
one_flag options option false true one other = absurd cc

one_name : (options : List CommandOption) (option : List ℕ) (a b : Option (List ℕ)) → GiveName options option a → GiveName options option b → a ≡ b
one_name options option None None one other = refl
one_name options option (Some a) (Some b) one other = cc
one_name options option None (Some b) one other = absurd cc
one_name options option (Some a) None one other = absurd cc

one_number : (options : List CommandOption) (option : List ℕ) (a b : Option ℕ) → GiveNumber options option a → GiveNumber options option b → a ≡ b
one_number options option None None one other = refl
one_number options option (Some a) (Some b) one other =
    let texts : decimal a ≡ decimal b = cc in
    let first : a < 2 ^ 64 = omega (arith, one.1) in
    let second : b < 2 ^ 64 = omega (arith, other.1) in
    ap Some (decimal_injective a b first second texts)
one_number options option None (Some b) one other = absurd cc
one_number options option (Some a) None one other = absurd cc

one_given : (options : List CommandOption) (option : List ℕ) (a b : ℕ) → GiveNumber options option (Some a) → GiveNumber options option (Some b) → a ≡ b
one_given options option a b one other = let same = one_number options option (Some a) (Some b) one other in cc

-- a word and options are those of one command
one_of : (word : List ℕ) (options : List CommandOption) (a b : Command) → AreOfCommand word options a → AreOfCommand word options b → a ≡ b
one_of word options commands.Create commands.Create one other = refl
one_of word options (commands.Compact a) (commands.Compact b) one other = ap commands.Compact (one_flag options (codes "full") a b one.values other.values)
one_of word options (commands.Consumers a) (commands.Consumers b) one other = ap commands.Consumers (one_name options (codes "drop") a b one.values other.values)
one_of word options (commands.Expire a m k) (commands.Expire b n l) one other =
    ap₂ (λ (min max : Option ℕ). commands.Expire min max k) (one_number options (codes "min") a b one.values.0 other.values.0)
    (one_number options (codes "max") m n one.values.1 other.values.1)
    ∙ ap (commands.Expire b n) (one_number options (codes "millis") k l one.values.2 other.values.2)
one_of word options (commands.Follow m c a) (commands.Follow n d b) one other =
    ap₂ (λ (from : Option ℕ) (full : Bool). commands.Follow from c full) (one_number options (codes "from") m n one.values.0 other.values.0)
    (one_flag options (codes "full") a b one.values.2 other.values.2)
    ∙ ap (λ (consumer : Option (List ℕ)). commands.Follow n consumer b) (one_name options (codes "consumer") c d one.values.1 other.values.1)
one_of word options (commands.Generate a m k) (commands.Generate b n l) one other =
    ap₂ (λ (batches rows : ℕ). commands.Generate batches rows k) (one_given options (codes "batches") a b one.values.0 other.values.0)
    (one_given options (codes "rows") m n one.values.1 other.values.1)
    ∙ ap (commands.Generate b n) (one_given options (codes "seed") k l one.values.2 other.values.2)
one_of word options (commands.Scan a) (commands.Scan b) one other = ap commands.Scan (one_number options (codes "snapshot") a b one.values other.values)
one_of word options commands.Snapshots commands.Snapshots one other = refl
one_of word options (commands.Write a m) (commands.Write b n) one other =
    ap₂ commands.Write (one_name options (codes "user") a b one.values.0 other.values.0) (one_number options (codes "ident") m n one.values.1 other.values.1)
one_of word options a b one other = absurd (apart (word_of a) (word_of b) refl (sym one.first ∙ other.first))

-- what words give is of their first word and their options
given_by : (word : List ℕ) (later words : List (List ℕ)) (options : List CommandOption) (command : Command) → words ≡ word ∷ later → AreOptions options later
    → Give words command → AreOfCommand word options command
given_by word later words options command is are give =
    let both : word ∷ later ≡ word_of command ∷ give.later = sym is ∙ give.first in
    let heads : word ≡ word_of command = cc in
    let tails : give.later ≡ later = cc in
    let lists : give.options ≡ options = one_list give.options options later (subst (AreOptions give.options) tails give.are) are in
    record {
      first = heads;
      names = subst (λ os. AreOf (names_of command) os) lists give.names;
      values = subst (λ os. GiveEach os command) lists give.values;
    }

pub one_command : (words : List (List ℕ)) (a b : Command) → Give words a → Give words b → a ≡ b
one_command words a b one other =
    let are_one : AreOfCommand (word_of a) one.options a = given_by (word_of a) one.later words one.options a one.first one.are one in
    let are_other : AreOfCommand (word_of a) one.options b = given_by (word_of a) one.later words one.options b one.first one.are other in
    one_of (word_of a) one.options a b are_one are_other

-- words give a command where the first and those after it do, and only there
pub given_after : (word : List ℕ) (later words : List (List ℕ)) (command : Command) → words ≡ word ∷ later → Give words command → GiveAfter word later command
given_after word later words command is give =
    let both : word ∷ later ≡ word_of command ∷ give.later = sym is ∙ give.first in
    let heads : word ≡ word_of command = cc in
    let tails : give.later ≡ later = cc in
    record {
      options = give.options;
      are = subst (AreOptions give.options) tails give.are;
      of = record { first = heads; names = give.names; values = give.values };
    }

pub gives : (word : List ℕ) (later words : List (List ℕ)) (command : Command) → words ≡ word ∷ later → GiveAfter word later command → Give words command
gives word later words command is after = record {
  later = later;
  options = after.options;
  first = is ∙ ap (λ w. w ∷ later) after.of.first;
  are = after.are;
  names = after.of.names;
  values = after.of.values;
}

pub found_given : (word : List ℕ) (later words : List (List ℕ)) → words ≡ word ∷ later → (found : Option Command) → Finds (GiveAfter word later) found
    → IfSome found (Give words) × IfNone found (GiveNoCommand words)
found_given word later words is None none = (tt, λ command give. none command (given_after word later words command is give))
found_given word later words is (Some command) after = (gives word later words command is after, tt)

-- ---- words after a command's own

-- where the words are no options of the command, they don't give it
module _ (words : List (List ℕ)) where
  number_is : (options : List CommandOption) (name : List ℕ) (number : Option ℕ) → GiveNumber options name number → IsGiven (value name) (given name options)
  number_is options name None gives e = absurd cc
  number_is options name (Some n) gives e = absurd cc

  name_is : (options : List CommandOption) (name : List ℕ) (text : Option (List ℕ)) → GiveName options name text → IsGiven (value name) (given name options)
  name_is options name None gives e = absurd cc
  name_is options name (Some n) gives e = absurd cc

  flag_is_given : (options : List CommandOption) (name : List ℕ) (b : Bool) → GiveFlag options name b → IsGiven (flag name) (given name options)
  flag_is_given options name true gives v e = absurd cc
  flag_is_given options name false gives v e = absurd cc

  pub no_create : HasNoOptions [] words → (command : Command) → GiveAfter (codes "create") words command → ⊥
  no_create none commands.Create after = none after.options after.are after.of.names tt
  no_create none other after = apart (codes "create") (word_of other) refl after.of.first

  pub no_snapshots : HasNoOptions [] words → (command : Command) → GiveAfter (codes "snapshots") words command → ⊥
  no_snapshots none commands.Snapshots after = none after.options after.are after.of.names tt
  no_snapshots none other after = apart (codes "snapshots") (word_of other) refl after.of.first

  pub no_consumers : HasNoOptions (value (codes "drop") ∷ []) words → (command : Command) → GiveAfter (codes "consumers") words command → ⊥
  no_consumers none (commands.Consumers dropped) after = none after.options after.are after.of.names (name_is after.options (codes "drop") dropped after.of.values, tt)
  no_consumers none other after = apart (codes "consumers") (word_of other) refl after.of.first

  pub no_compact : HasNoOptions (flag (codes "full") ∷ []) words → (command : Command) → GiveAfter (codes "compact") words command → ⊥
  no_compact none (commands.Compact full) after = none after.options after.are after.of.names (flag_is_given after.options (codes "full") full after.of.values, tt)
  no_compact none other after = apart (codes "compact") (word_of other) refl after.of.first

  pub no_expire : HasNoOptions (value (codes "min") ∷ value (codes "max") ∷ value (codes "millis") ∷ []) words → (command : Command)
      → GiveAfter (codes "expire") words command → ⊥
  no_expire none (commands.Expire min max millis) after = none after.options after.are after.of.names (
    number_is after.options (codes "min") min after.of.values.0,
    (number_is after.options (codes "max") max after.of.values.1, (number_is after.options (codes "millis") millis after.of.values.2, tt)),
  )
  no_expire none other after = apart (codes "expire") (word_of other) refl after.of.first

  pub no_follow : HasNoOptions (value (codes "from") ∷ value (codes "consumer") ∷ flag (codes "full") ∷ []) words → (command : Command)
      → GiveAfter (codes "follow") words command → ⊥
  no_follow none (commands.Follow from consumer full) after = none after.options after.are after.of.names (
    number_is after.options (codes "from") from after.of.values.0,
    (
      name_is after.options (codes "consumer") consumer after.of.values.1,
      (flag_is_given after.options (codes "full") full after.of.values.2, tt),
    ),
  )
  no_follow none other after = apart (codes "follow") (word_of other) refl after.of.first

  pub no_generate : HasNoOptions (value (codes "batches") ∷ value (codes "rows") ∷ value (codes "seed") ∷ []) words → (command : Command)
      → GiveAfter (codes "generate") words command → ⊥
  no_generate none (commands.Generate batches rows seed) after = none after.options after.are after.of.names (
    number_is after.options (codes "batches") (Some batches) after.of.values.0,
    (number_is after.options (codes "rows") (Some rows) after.of.values.1, (number_is after.options (codes "seed") (Some seed) after.of.values.2, tt)),
  )
  no_generate none other after = apart (codes "generate") (word_of other) refl after.of.first

  pub no_scan : HasNoOptions (value (codes "snapshot") ∷ []) words → (command : Command) → GiveAfter (codes "scan") words command → ⊥
  no_scan none (commands.Scan snapshot) after = none after.options after.are after.of.names (number_is after.options (codes "snapshot") snapshot after.of.values, tt)
  no_scan none other after = apart (codes "scan") (word_of other) refl after.of.first

  pub no_write : HasNoOptions (value (codes "user") ∷ value (codes "ident") ∷ []) words → (command : Command) → GiveAfter (codes "write") words command → ⊥
  no_write none (commands.Write user identifier) after = none after.options after.are after.of.names
      (name_is after.options (codes "user") user after.of.values.0, (number_is after.options (codes "ident") identifier after.of.values.1, tt))
  no_write none other after = apart (codes "write") (word_of other) refl after.of.first

  -- where they are, they give it by what was found, and no other
  same_options : (options : List CommandOption) → AreOptions options words → (word : List ℕ) (command : Command) (after : GiveAfter word words command) → after.options ≡ options
  same_options options are word command after = one_list after.options options words after.are are

  pub no_consumer : (options : List CommandOption) → AreOptions options words → Finds (GiveName options (codes "consumer")) None → (command : Command) → GiveAfter (codes "follow") words command → ⊥
  no_consumer options are none (commands.Follow from consumer full) after =
      none consumer (subst (λ os. GiveName os (codes "consumer") consumer) (same_options options are (codes "follow") (commands.Follow from consumer full) after) after.of.values.1)
  no_consumer options are none other after = apart (codes "follow") (word_of other) refl after.of.first

  pub no_dropped : (options : List CommandOption) → AreOptions options words → Finds (GiveName options (codes "drop")) None → (command : Command) → GiveAfter (codes "consumers") words command → ⊥
  no_dropped options are none (commands.Consumers dropped) after =
      none dropped (subst (λ os. GiveName os (codes "drop") dropped) (same_options options are (codes "consumers") (commands.Consumers dropped) after) after.of.values)
  no_dropped options are none other after = apart (codes "consumers") (word_of other) refl after.of.first

  pub no_min : (options : List CommandOption) → AreOptions options words → Finds (GiveRetained options (codes "min")) None → (command : Command) → GiveAfter (codes "expire") words command → ⊥
  no_min options are none (commands.Expire min max millis) after =
      none min (subst (λ os. GiveNumber os (codes "min") min) (same_options options are (codes "expire") (commands.Expire min max millis) after) after.of.values.0, after.of.values.3.0)
  no_min options are none other after = apart (codes "expire") (word_of other) refl after.of.first

  pub no_max : (options : List CommandOption) → AreOptions options words → Finds (GiveRetained options (codes "max")) None → (command : Command) → GiveAfter (codes "expire") words command → ⊥
  no_max options are none (commands.Expire min max millis) after =
      none max (subst (λ os. GiveNumber os (codes "max") max) (same_options options are (codes "expire") (commands.Expire min max millis) after) after.of.values.1, after.of.values.3.1)
  no_max options are none other after = apart (codes "expire") (word_of other) refl after.of.first

  pub out_of_order : (options : List CommandOption) → AreOptions options words → (least greatest : Option ℕ) → GiveNumber options (codes "min") least → GiveNumber options (codes "max") greatest
      → (AreInOrder least greatest → ⊥) → (command : Command) → GiveAfter (codes "expire") words command → ⊥
  out_of_order options are least greatest low high none (commands.Expire min max millis) after =
      let lists = same_options options are (codes "expire") (commands.Expire min max millis) after in
      let first : min ≡ least = one_number options (codes "min") min least (subst (λ os. GiveNumber os (codes "min") min) lists after.of.values.0) low in
      let second : max ≡ greatest = one_number options (codes "max") max greatest (subst (λ os. GiveNumber os (codes "max") max) lists after.of.values.1) high in
      none (subst (λ m. AreInOrder m greatest) first (subst (AreInOrder min) second after.of.values.3.2))
  out_of_order options are least greatest low high none other after = apart (codes "expire") (word_of other) refl after.of.first

  pub no_millis : (options : List CommandOption) → AreOptions options words → Finds (GiveNumber options (codes "millis")) None → (command : Command) → GiveAfter (codes "expire") words command → ⊥
  no_millis options are none (commands.Expire min max millis) after =
      none millis (subst (λ os. GiveNumber os (codes "millis") millis) (same_options options are (codes "expire") (commands.Expire min max millis) after) after.of.values.2)
  no_millis options are none other after = apart (codes "expire") (word_of other) refl after.of.first

  pub no_from : (options : List CommandOption) → AreOptions options words → Finds (GiveNumber options (codes "from")) None → (command : Command) → GiveAfter (codes "follow") words command → ⊥
  no_from options are none (commands.Follow from consumer full) after =
      none from (subst (λ os. GiveNumber os (codes "from") from) (same_options options are (codes "follow") (commands.Follow from consumer full) after) after.of.values.0)
  no_from options are none other after = apart (codes "follow") (word_of other) refl after.of.first

  pub from_zero : (options : List CommandOption) → AreOptions options words → (n : ℕ) → n ≡ 0 → GiveNumber options (codes "from") (Some n) → (command : Command)
      → GiveAfter (codes "follow") words command → ⊥
  from_zero options are n zero gives (commands.Follow from consumer full) after =
      let here = subst (λ os. GiveNumber os (codes "from") from) (same_options options are (codes "follow") (commands.Follow from consumer full) after) after.of.values.0 in
      let same : from ≡ Some n = one_number options (codes "from") from (Some n) here gives in
      let low : 1 ≤ n = subst (λ (from : Option ℕ). IfSome from (λ id. 1 ≤ id)) same after.of.values.3 in
      omega (arith, low, zero)
  from_zero options are n zero gives other after = apart (codes "follow") (word_of other) refl after.of.first

  pub no_batches : (options : List CommandOption) → AreOptions options words → Finds (GiveBetween options (codes "batches") 0 most_batches) None → (command : Command) → GiveAfter (codes "generate") words command → ⊥
  no_batches options are none (commands.Generate batches rows seed) after =
      none batches (
        subst (λ os. GiveNumber os (codes "batches") (Some batches)) (same_options options are (codes "generate") (commands.Generate batches rows seed) after) after.of.values.0,
        omega arith,
        after.of.values.3.0,
      )
  no_batches options are none other after = apart (codes "generate") (word_of other) refl after.of.first

  pub no_rows : (options : List CommandOption) → AreOptions options words → Finds (GiveBetween options (codes "rows") 1 most_batch_rows) None → (command : Command) → GiveAfter (codes "generate") words command → ⊥
  no_rows options are none (commands.Generate batches rows seed) after =
      none rows (subst (λ os. GiveNumber os (codes "rows") (Some rows)) (same_options options are (codes "generate") (commands.Generate batches rows seed) after) after.of.values.1, after.of.values.3.1, after.of.values.3.2)
  no_rows options are none other after = apart (codes "generate") (word_of other) refl after.of.first

  pub no_seed : (options : List CommandOption) → AreOptions options words → Finds (GiveBetween options (codes "seed") 0 greatest_number) None → (command : Command) → GiveAfter (codes "generate") words command → ⊥
  no_seed options are none (commands.Generate batches rows seed) after =
      let gives = subst (λ os. GiveNumber os (codes "seed") (Some seed)) (same_options options are (codes "generate") (commands.Generate batches rows seed) after) after.of.values.2 in
      none seed (gives, omega arith, gives.1)
  no_seed options are none other after = apart (codes "generate") (word_of other) refl after.of.first

  pub no_snapshot : (options : List CommandOption) → AreOptions options words → Finds (GiveNumber options (codes "snapshot")) None → (command : Command) → GiveAfter (codes "scan") words command → ⊥
  no_snapshot options are none (commands.Scan snapshot) after =
      none snapshot (subst (λ os. GiveNumber os (codes "snapshot") snapshot) (same_options options are (codes "scan") (commands.Scan snapshot) after) after.of.values)
  no_snapshot options are none other after = apart (codes "scan") (word_of other) refl after.of.first

  pub no_user : (options : List CommandOption) → AreOptions options words → Finds (GiveName options (codes "user")) None → (command : Command) → GiveAfter (codes "write") words command → ⊥
  no_user options are none (commands.Write user identifier) after =
      none user (subst (λ os. GiveName os (codes "user") user) (same_options options are (codes "write") (commands.Write user identifier) after) after.of.values.0)
  no_user options are none other after = apart (codes "write") (word_of other) refl after.of.first

  pub no_identifier : (options : List CommandOption) → AreOptions options words → Finds (GiveNumber options (codes "ident")) None → (command : Command) → GiveAfter (codes "write") words command → ⊥
  no_identifier options are none (commands.Write user identifier) after =
      none identifier (subst (λ os. GiveNumber os (codes "ident") identifier) (same_options options are (codes "write") (commands.Write user identifier) after) after.of.values.1)
  no_identifier options are none other after = apart (codes "write") (word_of other) refl after.of.first

-- ---- values

-- by the first value that was found, or none
pub text_given : (options : List CommandOption) (name : List ℕ) (first : Option (List ℕ)) (r : Option (Bor (List ℕ))) (text : Option (List ℕ)) → given name options ≡ option_map Some first
    → option_map (λ (s : Bor (List ℕ)). s.now) r ≡ first → option_map (λ (s : Bor (List ℕ)). s.now) r ≡ text → given name options ≡ option_map Some text
text_given options name first r text gives is has = gives ∙ ap (option_map Some) (sym is ∙ has)

pub name_found : (options : List CommandOption) (name text : List ℕ) (found : Option (List ℕ)) → given name options ≡ Some (Some text) → Finds (IsNameOf text) found
    → Finds (GiveName options name) (option_map Some found)
name_found options name text (Some t) gives (is, same) = (gives ∙ ap (λ x. Some (Some x)) same, is)
name_found options name text None gives none = go
  where
    go : (x : Option (List ℕ)) → GiveName options name x → ⊥
    go None gives_none = let bad = sym gives ∙ gives_none.0 in absurd cc
    go (Some t) gives_one =
        let both : Some (Some text) ≡ Some (Some t) = sym gives ∙ gives_one.0 in
        let same : text ≡ t = cc in
        none t (gives_one.1, same)

pub number_found : (options : List CommandOption) (name text : List ℕ) (found : Option ℕ) → given name options ≡ Some (Some text) → Finds (IsNumberOf text) found
    → Finds (GiveNumber options name) (option_map Some found)
number_found options name text (Some n) gives (within, same) = (gives ∙ ap (λ x. Some (Some x)) same, within)
number_found options name text None gives none = go
  where
    go : (x : Option ℕ) → GiveNumber options name x → ⊥
    go None gives_none = let bad = sym gives ∙ gives_none.0 in absurd cc
    go (Some n) gives_one =
        let both : Some (Some text) ≡ Some (Some (decimal n)) = sym gives ∙ gives_one.0 in
        let same : text ≡ decimal n = cc in
        none n (gives_one.1, same)

-- a number that isn't one of snapshots to be kept
pub not_retained : (options : List CommandOption) (name : List ℕ) (number : Option ℕ) → GiveNumber options name number → (IsRetained number → ⊥) → (x : Option ℕ) → GiveRetained options name x → ⊥
not_retained options name number gives none x is = none (subst IsRetained (one_number options name x number is.0 gives) is.1)

-- a number that isn't between these
pub not_between : (options : List CommandOption) (name : List ℕ) (least greatest number : ℕ) → GiveNumber options name (Some number) → ((least ≤ number) × (number ≤ greatest) → ⊥)
    → (x : ℕ) → GiveBetween options name least greatest x → ⊥
not_between options name least greatest number gives none x is =
    none (subst (λ n. (least ≤ n) × (n ≤ greatest)) (one_given options name x number is.0 gives) (is.1, is.2))

-- none is given
pub none_between : (options : List CommandOption) (name : List ℕ) (least greatest : ℕ) → GiveNumber options name None → (x : ℕ) → GiveBetween options name least greatest x → ⊥
none_between options name least greatest gives x is = let same = one_number options name None (Some x) gives is.0 in absurd cc

-- ---- words that may stand

plain_stands : (word : List ℕ) → begins_with_hyphen word ≡ false → may_stand word ≡ true
plain_stands [] plain = refl
plain_stands (b ∷ word) plain = rw plain refl

name_stands : (name rest : List ℕ) → has_bytes name ≡ true → may_stand (45 ∷ 45 ∷ (name ++ rest)) ≡ true
name_stands [] rest has = absurd (true≢false (sym has))
name_stands (b ∷ name) rest has = refl

has_name : (names : List (List ℕ)) (name : List ℕ) → list_all has_bytes names ≡ true → is_among names name ≡ true → has_bytes name ≡ true
has_name [] name all among = absurd (true≢false (sym among))
has_name (x ∷ names) name all among =
    let parts = both (has_bytes x) _ all in
    go (bytes_eq x name) refl parts.0 among (has_name names name parts.1)
  where
    go : (b : Bool) → bytes_eq x name ≡ b → has_bytes x ≡ true → (b || is_among names name) ≡ true → (is_among names name ≡ true → has_bytes name ≡ true) → has_bytes name ≡ true
    go true is has among rest = subst (λ n. has_bytes n ≡ true) ((bytes_eq-Decides x name).0 is) has
    go false is has among rest = rest among

-- each word of options that have names may
options_stand : (names : List (List ℕ)) → list_all has_bytes names ≡ true → (options : List CommandOption) (words : List (List ℕ)) → AreOptions options words
    → list_all (λ (o : CommandOption). is_among names o.name) options ≡ true → list_all may_stand words ≡ true
options_stand names named [] words are known = subst (λ ws. list_all may_stand ws ≡ true) (sym are) refl
options_stand names named (o ∷ options) words are known =
    let parts = both (is_among names o.name) _ known in
    let has = has_name names o.name named parts.0 in
    let rest = options_stand names named options are.1 are.4 parts.1 in
    elim are.3.1 as (λ _. list_all may_stand words ≡ true) [
      | inl is ↦
          subst (λ ws. list_all may_stand ws ≡ true) (sym (are.2 ∙ ap (λ own. own ++ are.1) is)) (ap₂ (λ a b. a && b) (name_stands o.name (after_equals o.value) has) rest)
      | inr (given_one, one, plain, is) ↦
          subst (λ ws. list_all may_stand ws ≡ true) (sym (are.2 ∙ ap (λ own. own ++ are.1) is))
          (ap₂ (λ a b. a && b) (ap (λ n. may_stand (45 ∷ 45 ∷ n)) (sym (append-nil o.name)) ∙ name_stands o.name [] has)
          (ap₂ (λ a b. a && b) (plain_stands given_one plain) rest))
    ]

names_have : (command : Command) → list_all has_bytes (names_of command) ≡ true
names_have commands.Create = refl
names_have (commands.Compact full) = refl
names_have (commands.Consumers dropped) = refl
names_have (commands.Expire min max millis) = refl
names_have (commands.Follow from consumer full) = refl
names_have (commands.Generate batches rows seed) = refl
names_have (commands.Scan snapshot) = refl
names_have commands.Snapshots = refl
names_have (commands.Write user identifier) = refl

pub none_stands : (word : List ℕ) (later words : List (List ℕ)) → words ≡ word ∷ later → list_all may_stand later ≡ false → GiveNoCommand words
none_stands word later words is none = λ command give.
    let after = given_after word later words command is give in
    true≢false (sym (options_stand (names_of command) (names_have command) after.options later after.are after.of.names.known) ∙ none)
