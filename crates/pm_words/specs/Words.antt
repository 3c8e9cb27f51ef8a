-- Which words give which command.
use Rattle.std.specs.Prelude.{◌≡◌, ◌⊎◌, ◌==◌, ◌≤◌, ◌||◌, ◌&&◌, not, ℕ, Bool, true, false, List, [], ◌∷◌, ◌++◌, length}
use Rattle.std.specs.Prelude.{codes, find, nat_le, Option, None, Some, IfSome, is_some, option_map}
use Rattle.std.specs.Fmt.{decimal}
use Rattle.std.specs.List.{list_all, list_any}
use Rattle.std.specs.Str.{bytes_eq}
use Rattle.pm_values.specs.declared.refusal.Refusal.{Refusal}
use Rattle.pm_values.specs.declared.refusal.Refusal.TheVariants as refusals
use Rattle.pm_words.specs.declared.command.Command.{Command}
use Rattle.pm_words.specs.declared.command.Command.TheVariants as commands

-- ---- options as words

-- an option: its name, and its value where it has one
pub record CommandOption : Type 0 where
  pub name : List ℕ
  pub value : Option (List ℕ)

-- no `=` stands in the text
abbrev pub HasNoEquals : List ℕ → Type 0
HasNoEquals text = list_any (λ byte. byte == 61) text ≡ false

-- a text that begins with a hyphen
abbrev pub begins_with_hyphen : List ℕ → Bool
begins_with_hyphen [] = false
begins_with_hyphen (byte ∷ bytes) = byte == 45

-- a value after `=`, where there is one
abbrev pub after_equals : Option (List ℕ) → List ℕ
after_equals None = []
after_equals (Some value) = codes "=" ++ value

-- `--` and the option's name, and then its value as a word of its own, which begins with no hyphen
abbrev pub StandsApart : CommandOption → List (List ℕ) → Type 0
StandsApart option words = (value : List ℕ) × (option.value ≡ Some value) × (begins_with_hyphen value ≡ false)
    × (words ≡ (codes "--" ++ option.name) ∷ value ∷ [])

-- the words of an option: one word, `--name` or `--name=value`, or two
abbrev pub AreWordsOf : CommandOption → List (List ℕ) → Type 0
AreWordsOf option words = HasNoEquals option.name
    × ((words ≡ (codes "--" ++ (option.name ++ after_equals option.value)) ∷ []) ⊎ StandsApart option words)

-- the words of options, one after another
abbrev pub AreOptions : List CommandOption → List (List ℕ) → Type 0
AreOptions [] words = words ≡ []
AreOptions (option ∷ options) words = (own later : List (List ℕ)) × (words ≡ own ++ later) × AreWordsOf option own
    × AreOptions options later

-- ---- what options give

-- what the option of this name has as its value, where one of the options has the name
abbrev pub given : List ℕ → List CommandOption → Option (Option (List ℕ))
given name options = option_map (λ option. option.value) (find (λ option. bytes_eq option.name name) options)

-- a letter, a digit, `.`, `_` or `-`
abbrev pub is_name_byte : ℕ → Bool
is_name_byte byte = (nat_le 65 byte && nat_le byte 90) || ((nat_le 97 byte && nat_le byte 122)
    || ((nat_le 48 byte && nat_le byte 57) || (byte == 46 || (byte == 95 || byte == 45))))

-- a name: 1 to 64 of these
abbrev pub IsName : List ℕ → Type 0
IsName text = (1 ≤ length text) × (length text ≤ 64) × (list_all is_name_byte text ≡ true)

-- the greatest number that an option takes
abbrev pub greatest_number : ℕ
greatest_number = 9223372036854775807

-- the greatest number of snapshots that can be asked to be kept
abbrev pub greatest_retained : ℕ
greatest_retained = 2147483647

-- the most batches that can be drawn, and the most rows of each
abbrev pub most_batches : ℕ
most_batches = 1000

abbrev pub most_batch_rows : ℕ
most_batch_rows = 10000

-- the option is given with this name, or it isn't given
abbrev pub GiveName : List CommandOption → List ℕ → Option (List ℕ) → Type 0
GiveName options option name = (given option options ≡ option_map Some name) × IfSome name IsName

-- the option is given with the decimal text of this number, or it isn't given
abbrev pub GiveNumber : List CommandOption → List ℕ → Option ℕ → Type 0
GiveNumber options option number = (given option options ≡ option_map (λ n. Some (decimal n)) number)
    × IfSome number (λ n. n ≤ greatest_number)

-- the flag is given, an option without a value, or it isn't
abbrev pub GiveFlag : List CommandOption → List ℕ → Bool → Type 0
GiveFlag options option true = given option options ≡ Some None
GiveFlag options option false = given option options ≡ None

-- one of the names
abbrev pub is_among : List (List ℕ) → List ℕ → Bool
is_among names name = list_any (λ other. bytes_eq other name) names

-- no two options have one name
abbrev pub differ : List CommandOption → Bool
differ [] = true
differ (option ∷ options) = not (is_some (given option.name options)) && differ options

-- options of these names alone, each at most once
pub record AreOf (names : List (List ℕ)) (options : List CommandOption) : Type 0 where
  pub known : list_all (λ option. is_among names option.name) options ≡ true
  pub once : differ options ≡ true

-- ---- commands

-- the first word of a command
abbrev pub word_of : Command → List ℕ
word_of commands.Create = codes "create"
word_of (commands.Compact full) = codes "compact"
word_of (commands.Consumers dropped) = codes "consumers"
word_of (commands.Expire min max millis) = codes "expire"
word_of (commands.Follow from consumer full) = codes "follow"
word_of (commands.Generate batches rows seed) = codes "generate"
word_of (commands.Scan snapshot) = codes "scan"
word_of commands.Snapshots = codes "snapshots"
word_of (commands.Write user identifier) = codes "write"

-- the names of its options
abbrev pub names_of : Command → List (List ℕ)
names_of commands.Create = []
names_of (commands.Compact full) = codes "full" ∷ []
names_of (commands.Consumers dropped) = codes "drop" ∷ []
names_of (commands.Expire min max millis) = codes "min" ∷ codes "max" ∷ codes "millis" ∷ []
names_of (commands.Follow from consumer full) = codes "from" ∷ codes "consumer" ∷ codes "full" ∷ []
names_of (commands.Generate batches rows seed) = codes "batches" ∷ codes "rows" ∷ codes "seed" ∷ []
names_of (commands.Scan snapshot) = codes "snapshot" ∷ []
names_of commands.Snapshots = []
names_of (commands.Write user identifier) = codes "user" ∷ codes "ident" ∷ []

-- so many snapshots can be asked to be kept
abbrev pub IsRetained : Option ℕ → Type 0
IsRetained number = IfSome number (λ n. (1 ≤ n) × (n ≤ greatest_retained))

-- the least number is at most the greatest, where both are given
abbrev pub AreInOrder : Option ℕ → Option ℕ → Type 0
AreInOrder min max = IfSome min (λ least. IfSome max (λ greatest. least ≤ greatest))

-- the least and the greatest number of snapshots to be kept
abbrev pub AreRetained : Option ℕ → Option ℕ → Type 0
AreRetained min max = IsRetained min × IsRetained max × AreInOrder min max

-- so many batches of so many rows can be drawn
abbrev pub CanDraw : ℕ → ℕ → Type 0
CanDraw batches rows = (batches ≤ most_batches) × (1 ≤ rows) × (rows ≤ most_batch_rows)

-- its names and numbers are those that it takes: a consumer's name, numbers of snapshots to be kept, a first snapshot
-- from 1 on, and batches that can be drawn
abbrev pub IsInRange : Command → Type 0
IsInRange (commands.Consumers dropped) = IfSome dropped IsName
IsInRange (commands.Expire min max millis) = AreRetained min max
IsInRange (commands.Follow from consumer full) = IfSome from (λ id. 1 ≤ id) × IfSome consumer IsName
IsInRange (commands.Generate batches rows seed) = CanDraw batches rows
IsInRange other = Unit {0}

-- what each of them gives
abbrev pub GiveEach : List CommandOption → Command → Type 0
GiveEach options commands.Create = Unit {0}
GiveEach options (commands.Compact full) = GiveFlag options (codes "full") full
GiveEach options (commands.Consumers dropped) = GiveName options (codes "drop") dropped
GiveEach options (commands.Expire min max millis) = GiveNumber options (codes "min") min
    × GiveNumber options (codes "max") max × GiveNumber options (codes "millis") millis × AreRetained min max
GiveEach options (commands.Follow from consumer full) = GiveNumber options (codes "from") from
    × GiveName options (codes "consumer") consumer × GiveFlag options (codes "full") full
    × IfSome from (λ id. 1 ≤ id)
GiveEach options (commands.Generate batches rows seed) = GiveNumber options (codes "batches") (Some batches)
    × GiveNumber options (codes "rows") (Some rows) × GiveNumber options (codes "seed") (Some seed)
    × CanDraw batches rows
GiveEach options (commands.Scan snapshot) = GiveNumber options (codes "snapshot") snapshot
GiveEach options commands.Snapshots = Unit {0}
GiveEach options (commands.Write user identifier) = GiveName options (codes "user") user
    × GiveNumber options (codes "ident") identifier

-- the words give the command: its word, and then options of its names, in any order
pub record Give (words : List (List ℕ)) (command : Command) : Type 0 where
  pub later : List (List ℕ)
  pub options : List CommandOption
  pub first : words ≡ word_of command ∷ later
  pub are : AreOptions options later
  pub names : AreOf (names_of command) options
  pub values : GiveEach options command

-- words that give none
abbrev pub GiveNoCommand : List (List ℕ) → Type 0
GiveNoCommand words = (command : Command) → Give words command → ⊥

-- the first word, or nothing
abbrev pub first_word : List (List ℕ) → List ℕ
first_word [] = []
first_word (word ∷ words) = word

-- what words that give no command are answered
abbrev pub IsNoCommand : List (List ℕ) → Option Refusal → Type 0
IsNoCommand words (Some refusals.Memory) = Unit {0}
IsNoCommand words (Some (refusals.Words command)) = command ≡ first_word words
IsNoCommand words other = ⊥
