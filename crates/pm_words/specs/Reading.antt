-- What the parts of words come to.
use Rattle.std.specs.Prelude.{◌≡◌, ◌≤◌, ℕ, List, Option, None, Some}
use Rattle.std.specs.Fmt.{decimal}
use Rattle.pm_words.specs.Words.{AreOf, AreOptions, CommandOption, GiveEach, GiveNumber, IsName, IsRetained}
use Rattle.pm_words.specs.Words.{greatest_number, names_of, word_of}
use Rattle.pm_words.specs.declared.command.Command.{Command}

-- Private: what is found is so; where nothing is found, nothing is
abbrev pub Finds : {A : Type 0} → (A → Type 0) → Option A → Type 0
Finds {A} Is None = (x : A) → Is x → ⊥
Finds Is (Some x) = Is x

-- Private: the text of a number
abbrev pub IsNumberOf : List ℕ → ℕ → Type 0
IsNumberOf text number = (number ≤ greatest_number) × (text ≡ decimal number)

-- Private: the text of a name
abbrev pub IsNameOf : List ℕ → List ℕ → Type 0
IsNameOf text name = IsName name × (text ≡ name)

-- Private: the option is given with so many snapshots to be kept, or it isn't given
abbrev pub GiveRetained : List CommandOption → List ℕ → Option ℕ → Type 0
GiveRetained options option number = GiveNumber options option number × IsRetained number

-- Private: the option is given with a number between these
abbrev pub GiveBetween : List CommandOption → List ℕ → ℕ → ℕ → ℕ → Type 0
GiveBetween options option least greatest number =
    GiveNumber options option (Some number) × (least ≤ number) × (number ≤ greatest)

-- Private: the word and the options are those of the command
pub record AreOfCommand (word : List ℕ) (options : List CommandOption) (command : Command) : Type 0 where
  pub first : word ≡ word_of command
  pub names : AreOf (names_of command) options
  pub values : GiveEach options command

-- Private: the word and the words after it give the command
pub record GiveAfter (word : List ℕ) (later : List (List ℕ)) (command : Command) : Type 0 where
  pub options : List CommandOption
  pub are : AreOptions options later
  pub of : AreOfCommand word options command
