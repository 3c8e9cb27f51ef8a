-- Consumers' files that are read one after another.
use Rattle.std.specs.Prelude.{ℕ, ◌+◌, List, [], ◌∷◌, ◌++◌, slice_get, Option, None, Some}
use Rattle.pm_snapshot.specs.declared.consumer.Consumer.{Consumer}
use Rattle.pm_consumer_files.specs.declared.lines.NamedConsumer.{NamedConsumer}

-- the names of all consumers that were listed, how many of their files were read, and the consumers of those that were
-- there
pub record ReadingView : Type 0 where
  pub names : List (List ℕ)
  pub read : ℕ
  pub consumers : List NamedConsumer

abbrev pub reading_of : List (List ℕ) → ℕ → List NamedConsumer → ReadingView
reading_of names read consumers = record { names = names; read = read; consumers = consumers }

-- the name of the next
abbrev pub next_name : ReadingView → Option (List ℕ)
next_name r = slice_get r.names r.read

-- consumers with that of a name, where its file says one
abbrev pub with_said : List NamedConsumer → List ℕ → Option Consumer → List NamedConsumer
with_said consumers name None = consumers
with_said consumers name (Some c) = consumers ++ record { name = name; consumer = c } ∷ []

-- one more was read
abbrev pub add_read : ReadingView → List ℕ → Option Consumer → ReadingView
add_read r name said = reading_of r.names (r.read + 1) (with_said r.consumers name said)
