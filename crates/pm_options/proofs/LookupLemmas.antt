-- What is found at the keys of the settings that options are written as.
use Rattle.std.proofs.Common.{◌≡◌, ℕ, true, false, ◌||◌, List, codes, None, is_some, ap, ◌∙◌}
use Rattle.std.proofs.lemmas.Bool.{not-true, or_parts}
use Rattle.std.specs.List.{AllByRecursion}
use Rattle.pm_base.proofs.Laws.{AllByRecursion-append}
use Rattle.pm_options.specs.Entries.{entry_at}
use Rattle.pm_options.specs.Fields.{by_name, is_of_column}
use Rattle.pm_options.specs.Options.{is_kept_key}
use Rattle.pm_options.specs.Stands.{IsKept, Stands}
use Rattle.pm_options.specs.Table.{Setting, table}
use Rattle.pm_options.specs.Written.{field_settings, settings_of}
use Rattle.pm_options.specs.declared.options.Options.{Options}
use Rattle.pm_options.proofs.ColumnListLemmas.{AllKeptKeys, fields_outside}
use Rattle.pm_options.proofs.EntryLemmas.{all_then, entry_at-apart, entry_at-by_name}
use Rattle.pm_options.proofs.SlotLemmas.{entry_at-standing, found, found-outside, rest_of, settings_of-slots, slots}

-- the settings in the order of their keys
abbrev pub written : Options → List Setting
written o = by_name (settings_of o)

-- a text is that of its slot, or stands among the rest
written_at : (o : Options) (key : List ℕ) → entry_at key (written o) ≡ found key (slots o) (entry_at key (rest_of o))
written_at o key =
    entry_at-by_name key (settings_of o) ∙ ap (entry_at key) (settings_of-slots o)
    ∙ entry_at-standing key (slots o) (rest_of o)

-- the keys of kept settings are kept
pub kept_keys : (o : Options) → Stands o → AllKeptKeys o
kept_keys o is = all_then IsKept (λ s. is_kept_key s.0 ≡ true) (λ s k. k.key) o.kept is.all_kept

-- a key that is kept isn't in the table
pub kept_outside : (key : List ℕ) → is_kept_key key ≡ true → is_some (entry_at key table) ≡ false
kept_outside key is =
    (or_parts (is_some (entry_at key table)) (is_of_column key)
    (not-true (is_some (entry_at key table) || is_of_column key) is)).0

-- no key of the rest is in the table
rest_outside : (o : Options) → Stands o → AllByRecursion (λ s. is_some (entry_at s.0 table) ≡ false) (rest_of o)
rest_outside o is =
    let P : Setting → Type 0 = λ s. is_some (entry_at s.0 table) ≡ false in
    AllByRecursion-append P (field_settings o) o.kept (fields_outside o)
    (all_then (λ s. is_kept_key s.0 ≡ true) P (λ s k. kept_outside s.0 k) o.kept (kept_keys o is))

-- the text of an option of the table is that of its slot
pub table_at : (o : Options) → Stands o → (key : List ℕ) → is_some (entry_at key table) ≡ true
    → entry_at key (written o) ≡ found key (slots o) None
table_at o is key known =
    let none = entry_at-apart (λ k. is_some (entry_at k table)) true key (rest_of o) known (rest_outside o is) in
    written_at o key ∙ ap (found key (slots o)) none

-- a key that isn't in the table stands among the rest
pub other_at : (o : Options) (key : List ℕ) → entry_at key table ≡ None
    → entry_at key (written o) ≡ entry_at key (rest_of o)
other_at o key none = written_at o key ∙ found-outside o key (entry_at key (rest_of o)) none

-- the number of buckets stands
pub bucket_stands : (o : Options) → is_some (entry_at (codes "bucket") (by_name (settings_of o))) ≡ true
bucket_stands o = ap is_some (entry_at-by_name (codes "bucket") (settings_of o))

-- so does the file format
pub format_stands : (o : Options) → is_some (entry_at (codes "file.format") (by_name (settings_of o))) ≡ true
format_stands o = ap is_some (entry_at-by_name (codes "file.format") (settings_of o))
