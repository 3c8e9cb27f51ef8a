-- The table of options: each key, and which texts it takes.
use Rattle.std.specs.Prelude.{ℕ, List, [], ◌∷◌, codes, Bool, false, Option, Some, None, is_some}
use Rattle.std.specs.Str.{bytes_eq}
use Rattle.pm_options.specs.Entries.{Entries}
use Rattle.pm_options.specs.Kinds.{engine_in, producer_in, truth_in}
use Rattle.pm_options.specs.Numbers.{number_from, time_in}
use Rattle.pm_options.specs.declared.table.Only.{Only}
use Rattle.pm_options.specs.declared.table.Only.TheVariants as only
use Rattle.pm_options.specs.declared.table.Form.{Form}
use Rattle.pm_options.specs.declared.table.Form.TheVariants.{Format, Bucket, Engine, Producer, Truth, Number, Time}

-- an option's key and its text
abbrev pub Setting : Type 0
Setting = List ℕ × List ℕ

-- the options that have an effect, apart from those of a column
abbrev pub table : Entries Form
table =
    (codes "bucket", Bucket)
    ∷ (codes "file.format", Format)
    ∷ (codes "merge-engine", Engine)
    ∷ (codes "ignore-delete", Truth)
    ∷ (codes "changelog-producer", Producer)
    ∷ (codes "changelog-producer.row-deduplicate", Truth)
    ∷ (codes "full-compaction.delta-commits", Number 1 1000000)
    ∷ (codes "num-sorted-run.compaction-trigger", Number 1 100)
    ∷ (codes "num-levels", Number 2 101)
    ∷ (codes "compaction.max-size-amplification-percent", Number 0 1000000)
    ∷ (codes "compaction.size-ratio", Number 0 1000000)
    ∷ (codes "manifest.merge-min-count", Number 2 1000)
    ∷ (codes "snapshot.time-retained", Time)
    ∷ (codes "snapshot.num-retained.min", Number 1 2147483647)
    ∷ (codes "snapshot.num-retained.max", Number 1 2147483647)
    ∷ []

-- the options that aren't supported, and which text is taken all the same
abbrev pub unsupported : Entries Only
unsupported =
    (codes "bucket-key", only.Nothing)
    ∷ (codes "rowkind.field", only.Nothing)
    ∷ (codes "fields.default-aggregate-function", only.Nothing)
    ∷ (codes "sequence.field", only.Nothing)
    ∷ (codes "sequence.field.sort-order", only.Nothing)
    ∷ (codes "partial-update.remove-record-on-delete", only.Nothing)
    ∷ (codes "partial-update.remove-record-on-sequence-group", only.Nothing)
    ∷ (codes "aggregation.remove-record-on-delete", only.Nothing)
    ∷ (codes "deletion-vectors.enabled", only.False)
    ∷ (codes "manifest.format", only.Avro)
    ∷ (codes "changelog-file.format", only.Avro)
    ∷ []

-- the text is the one that is taken, if any is
abbrev pub is_only : Only → List ℕ → Bool
is_only only.Nothing text = false
is_only only.False text = bytes_eq text (codes "false")
is_only only.Avro text = bytes_eq text (codes "avro")

-- the greatest number of buckets
abbrev pub most_buckets : ℕ
most_buckets = 256

-- the number of a text in a range of the table
abbrev pub number_read : Option Form → List ℕ → Option ℕ
number_read (Some Bucket) text = number_from 1 most_buckets text
number_read (Some (Number low high)) text = number_from low high text
number_read form text = None

-- the form takes the text
abbrev pub takes : Form → List ℕ → Bool
takes Format text = bytes_eq text (codes "avro")
takes Bucket text = is_some (number_from 1 most_buckets text)
takes Engine text = is_some (engine_in text)
takes Producer text = is_some (producer_in text)
takes Truth text = is_some (truth_in text)
takes (Number low high) text = is_some (number_from low high text)
takes Time text = is_some (time_in text)
