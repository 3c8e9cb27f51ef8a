-- Private: what `clap` is told of a command's options, and what it finds in their words.
use Rattle.std.specs.Prelude.{◌≡◌, ◌≢◌, ◌==◌, ◌&&◌, not, ℕ, Bool, true, false, List, [], ◌∷◌, ◌++◌, map, find, codes}
use Rattle.std.specs.Prelude.{Option, None, Some, is_some, if◌then◌else◌}
use Rattle.std.specs.List.{AllByRecursion, fold, list_all, list_any}
use Rattle.std.specs.Str.{bytes_eq}
use Rattle.clap.specs.Faults.{is_simple_and_free}
use Rattle.clap.specs.Simple.{App, Shape, built, new_rule, new_shape}
use Rattle.clap.specs.Values.{reading_of}
use Rattle.clap.specs.Matches.{found_of}
use Rattle.clap.specs.Walk.{Row, Rule, rows_of, with_default}
use Rattle.clap.specs.declared.builder.action.ArgAction.TheVariants as actions
use Rattle.clap.specs.declared.builder.value_parser.ValueParser.TheVariants as parsers
use Rattle.clap.specs.declared.parser.matches.ArgMatches.{ArgMatches}
use Rattle.clap.specs.declared.parser.matches.ValueSource.TheVariants as sources
use Rattle.pm_words.specs.Words.{AreOf, AreOptions, CommandOption, given}

-- ---- words that may stand among options

-- `-` and a text
abbrev pub is_long_rest : List ℕ → Bool
is_long_rest [] = false
is_long_rest (byte ∷ []) = false
is_long_rest (byte ∷ next ∷ text) = byte == 45

-- it begins with no hyphen, or is `--` and a text; so it is no lone `-`, no `--` alone and no flag of one letter
abbrev pub may_stand : List ℕ → Bool
may_stand [] = true
may_stand (byte ∷ rest) = if byte == 45 then is_long_rest rest else true

-- ---- options as a command has them

-- one that has a value, or a flag
pub data Declared : Type 0 where
  value : List ℕ → Declared
  flag : List ℕ → Declared

abbrev pub name_in : Declared → List ℕ
name_in (value name) = name
name_in (flag name) = name

-- the options of each command
abbrev pub compact_options : List Declared
compact_options = flag (codes "full") ∷ []

abbrev pub consumers_options : List Declared
consumers_options = value (codes "drop") ∷ []

abbrev pub expire_options : List Declared
expire_options = value (codes "min") ∷ value (codes "max") ∷ value (codes "millis") ∷ []

abbrev pub follow_options : List Declared
follow_options = value (codes "from") ∷ value (codes "consumer") ∷ flag (codes "full") ∷ []

abbrev pub generate_options : List Declared
generate_options = value (codes "batches") ∷ value (codes "rows") ∷ value (codes "seed") ∷ []

abbrev pub scan_options : List Declared
scan_options = value (codes "snapshot") ∷ []

abbrev pub write_options : List Declared
write_options = value (codes "user") ∷ value (codes "ident") ∷ []

-- the one of this name
abbrev pub declared_as : List ℕ → List Declared → Option Declared
declared_as name declared = find (λ d. bytes_eq (name_in d) name) declared

-- there is a value where one is wanted, and none at a flag
abbrev pub fits_as : Option Declared → Option (List ℕ) → Bool
fits_as None given = false
fits_as (Some (value name)) given = is_some given
fits_as (Some (flag name)) given = not (is_some given)

-- the command has the option
abbrev pub fits : List Declared → CommandOption → Bool
fits declared option = fits_as (declared_as option.name declared) option.value

-- an option of this name is among these
abbrev pub has_option : List ℕ → List CommandOption → Bool
has_option name options = list_any (λ option. bytes_eq option.name name) options

-- each of the options that follow these has another name than all before it
abbrev pub are_new : List CommandOption → List CommandOption → Bool
are_new before [] = true
are_new before (option ∷ more) = not (has_option option.name before) && are_new (before ++ option ∷ []) more

-- the words are these options of a command, each at most once
pub record AreRead (declared : List Declared) (options : List CommandOption) (words : List (List ℕ)) : Type 0 where
  pub are : AreOptions options words
  pub fit : list_all (fits declared) options ≡ true
  pub new : are_new [] options ≡ true

-- ---- the same for `clap`

-- what it is told of an option, with what building adds
abbrev pub rule_for : Declared → Rule
rule_for (value name) = record (new_rule name) {
  long = Some name;
  action = Some actions.Set;
  range = Some (record { start_inclusive = 1; end_inclusive = 1 });
  value_names = 1;
  parser = Some parsers.String;
}
rule_for (flag name) = record (new_rule name) {
  long = Some name;
  action = Some actions.SetTrue;
  range = Some (record { start_inclusive = 0; end_inclusive = 0 });
  defaults = codes "false" ∷ [];
  missing = codes "true" ∷ [];
  parser = Some parsers.Bool;
}

-- a command that has these options alone, once it is built: no program's name comes first, and none asks for help
abbrev pub shape_for : List ℕ → List Declared → Shape
shape_for name declared = record (new_shape name) {
  rules = map rule_for declared;
  no_binary_name = true;
  disable_help_flag = true;
  disable_help_subcommand = true;
  is_built = true;
}

-- what is told of an option
abbrev pub told_of : Declared → Rule
told_of (value name) = record (new_rule name) { long = Some name; action = Some actions.Set; value_names = 1 }
told_of (flag name) = record (new_rule name) { long = Some name; action = Some actions.SetTrue }

-- what is told of a command with these options
abbrev pub app_for : List ℕ → List Declared → App
app_for name declared = record {
  top = record (new_shape name) { rules = map told_of declared; no_binary_name = true; disable_help_flag = true };
  subs = [];
}

-- a text of one byte or more
abbrev pub has_bytes : List ℕ → Bool
has_bytes [] = false
has_bytes (byte ∷ text) = true

-- a command is told of as one of these options alone, which have names
pub record HasDeclared (command : App) (declared : List Declared) : Type 0 where
  pub named : list_all (λ d. has_bytes (name_in d)) declared ≡ true
  pub simple : is_simple_and_free command ≡ true
  pub name : List ℕ
  pub built : built command ≡ record { top = shape_for name declared; subs = [] }
  pub words : command.top.no_binary_name ≡ true

-- the values that it finds of an option
abbrev pub values_for : Option (List ℕ) → List (List ℕ)
values_for None = codes "true" ∷ []
values_for (Some given) = given ∷ []

-- all that it finds of it
abbrev pub row_for : CommandOption → Row
row_for option = record {
  id = option.name;
  values = values_for option.value;
  count = None;
  source = Some sources.CommandLine;
  reading = reading_of parsers.String;
}

-- a flag of this name
abbrev pub has_flag : List ℕ → Declared → Bool
has_flag name (value other) = false
has_flag name (flag other) = bytes_eq other name

-- all rows, those of flags that aren't given among them
abbrev pub rows_for : List Declared → List CommandOption → List Row
rows_for declared options = fold with_default (map row_for options) (map rule_for declared)

-- ---- what reading comes to

-- the words are these options of the command, each at most once, and this was found of them
pub record HasFound (declared : List Declared) (words : List (List ℕ)) (matches : ArgMatches) : Type 0 where
  pub options : List CommandOption
  pub are : AreOptions options words
  pub of : AreOf (map name_in declared) options
  pub fit : list_all (fits declared) options ≡ true
  pub rows : rows_of (found_of matches) ≡ rows_for declared options

-- where the option is given, it has a value; and a flag none
abbrev pub IsGiven : Declared → Option (Option (List ℕ)) → Type 0
IsGiven (value name) one = one ≢ Some None
IsGiven (flag name) one = (value : List ℕ) → one ≢ Some (Some value)

-- the words are no options of the command, each at most once
abbrev pub HasNoOptions : List Declared → List (List ℕ) → Type 0
HasNoOptions declared words = (options : List CommandOption) → AreOptions options words
    → AreOf (map name_in declared) options → AllByRecursion (λ d. IsGiven d (given (name_in d) options)) declared → ⊥

-- what was found, or that nothing was
abbrev pub Reads : List Declared → List (List ℕ) → Option ArgMatches → Type 0
Reads declared words None = HasNoOptions declared words
Reads declared words (Some matches) = HasFound declared words matches
