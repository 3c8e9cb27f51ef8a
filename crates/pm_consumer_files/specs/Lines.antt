-- What is printed of consumers.
use Rattle.std.specs.Prelude.{ℕ, List, ◌++◌, codes, decimal, Bool, true, false}
use Rattle.std.specs.List.{flat_map}
use Rattle.pm_base.specs.Newline.{line}
use Rattle.pm_consumer_files.specs.declared.lines.NamedConsumer.{NamedConsumer}

-- its name and the snapshot that it reads next, and that it is new where it is
abbrev pub line_by : List ℕ → ℕ → Bool → List ℕ
line_by name next false = name ++ (codes " " ++ decimal next)
line_by name next true = name ++ (codes " " ++ (decimal next ++ codes " new"))

-- the line of a consumer, without its newline
abbrev pub consumer_line : NamedConsumer → List ℕ
consumer_line named = line_by named.name named.consumer.next named.consumer.fresh

-- the text of consumers: a line for each
abbrev pub consumers_text : List NamedConsumer → List ℕ
consumers_text consumers = flat_map (λ named. line (consumer_line named)) consumers
