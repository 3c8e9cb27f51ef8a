-- What the JSON of a schema's file states, and that of a draft. An object of another form states nothing.
use Rattle.std.specs.Prelude.{ℕ, ◌^◌, ◌+◌, ◌-◌, List, [], ◌∷◌, ◌++◌, length, codes, decimal, ℤ, Option, Some, None, option_and_then, option_map, nat_lt, if◌then◌else◌}
use Rattle.std.specs.Str.{is_utf8, bytes_eq}
use Rattle.serde_json.specs.Data.{Data, null, string, object, Items, no_items, item, Members, no_members, member}
use Rattle.serde_json.specs.Find.{get, as_str, as_number, as_u64, as_i64, as_array}
use Rattle.serde_json.specs.Read.{read}
use Rattle.pm_options.specs.Settings.{filled}
use Rattle.pm_options.specs.Table.{Setting}
use Rattle.pm_schema.specs.ColumnType.{Field}

-- one reading, and then another of what it gave
infixl 10 ◌>>=◌
abbrev pub ◌>>=◌ : {A B : Type 0} → Option A → (A → Option B) → Option B
o >>= f = option_and_then f o

-- the JSON of a text, which is UTF-8 and nests at most 127 deep
abbrev pub json_of : List ℕ → Option Data
json_of text = if is_utf8 text then read text else None

pub record Stated : Type 0 where
  pub id : ℕ
  pub fields : List Field
  pub highest : ℕ
  pub partition : List (List ℕ)
  pub primary : List (List ℕ)
  pub settings : List Setting
  pub comment : Option (List ℕ)
  pub time : ℤ
  pub origin : Option (List ℕ)

-- ---- parts of JSON

-- the text at a key
abbrev pub text_at : List ℕ → Data → Option (List ℕ)
text_at key d = option_and_then as_str (get key d)

-- the number at a key, which fits 64 bits without a sign
abbrev pub whole_at : List ℕ → Data → Option ℕ
whole_at key d = option_and_then as_u64 (option_and_then as_number (get key d))

-- the number at a key, which fits 32 bits without a sign
abbrev pub short_at : List ℕ → Data → Option ℕ
short_at key d = whole_at key d >>= λ n. if nat_lt n (2 ^ 32) then Some n else None

-- the number at a key, which fits 64 bits with a sign
abbrev pub time_at : List ℕ → Data → Option ℤ
time_at key d = option_and_then as_i64 (option_and_then as_number (get key d))

-- what a reading gives of each item
abbrev pub all_in : {A : Type 0} → (Data → Option A) → Items → Option (List A)
all_in reading no_items = Some []
all_in reading (item d ds) = do
  x ← reading d
  more ← all_in reading ds
  Some (x ∷ more)

-- the list of texts that a value is
abbrev pub texts_of : Data → Option (List (List ℕ))
texts_of d = option_and_then (all_in as_str) (as_array d)

-- the list of texts at a key
abbrev pub texts_at : List ℕ → Data → Option (List (List ℕ))
texts_at key d = option_and_then texts_of (get key d)

-- an object of texts, by rising key
abbrev pub settings_in : Members → Option (List Setting)
settings_in no_members = Some []
settings_in (member key d ms) = do
  text ← as_str d
  more ← settings_in ms
  Some ((key, text) ∷ more)

-- the object of texts that a value is
abbrev pub settings_of : Data → Option (List Setting)
settings_of (object ms) = settings_in ms
settings_of d = None

-- a text, or null for none
abbrev pub text_or_null : Data → Option (Option (List ℕ))
text_or_null null = Some None
text_or_null (string text) = Some (Some text)
text_or_null d = None

-- what a reading gives of the value at a key, or the default where the key is missing
abbrev pub at_or : {A : Type 0} → A → (Data → Option A) → Option Data → Option A
at_or default reading None = Some default
at_or default reading (Some d) = reading d

-- a text, null or nothing at the key `comment`
abbrev pub comment_in : Data → Option (Option (List ℕ))
comment_in d = at_or None text_or_null (get (codes "comment") d)

-- a text or nothing at the key `origin`
abbrev pub some_text : Data → Option (Option (List ℕ))
some_text d = option_map Some (as_str d)

abbrev pub origin_in : Data → Option (Option (List ℕ))
origin_in d = at_or None some_text (get (codes "origin") d)

-- a field's name and its type's text
abbrev pub named_in : Data → Option (List ℕ × List ℕ)
named_in d = do
  name ← text_at (codes "name") d
  text ← text_at (codes "type") d
  Some (name, text)

-- a field with its id
abbrev pub field_in : Data → Option Field
field_in d = do
  id ← short_at (codes "id") d
  named ← named_in d
  Some (id, named.0, named.1)

-- fields with ids in order, from the first on
abbrev pub numbered : ℕ → List (List ℕ × List ℕ) → List Field
numbered n [] = []
numbered n (named ∷ more) = (n, named.0, named.1) ∷ numbered (n + 1) more

-- the list of fields
abbrev pub field_list : Data → Option Items
field_list d = option_and_then as_array (get (codes "fields") d)

-- ---- a schema's file

-- the options of a schema
abbrev pub settings_at : Data → Option (List Setting)
settings_at d = option_and_then settings_of (get (codes "options") d)

-- what an object states as a schema
unfoldable pub file_in : Data → Option Stated
file_in d = do
  id ← whole_at (codes "id") d
  ds ← field_list d
  fields ← all_in field_in ds
  highest ← short_at (codes "highestFieldId") d
  partition ← texts_at (codes "partitionKeys") d
  primary ← texts_at (codes "primaryKeys") d
  settings ← settings_at d
  comment ← comment_in d
  time ← time_at (codes "timeMillis") d
  origin ← origin_in d
  Some record {
    id = id;
    fields = fields;
    highest = highest;
    partition = partition;
    primary = primary;
    settings = settings;
    comment = comment;
    time = time;
    origin = origin;
  }

-- the path of the schema with an id
abbrev pub schema_path : ℕ → List ℕ
schema_path id = codes "schema/schema-" ++ decimal id

-- what is stated, if it is of the file at the path
abbrev pub at_path : List ℕ → Stated → Option Stated
at_path path stated = if bytes_eq (schema_path stated.id) path then Some stated else None

-- where an option is missing that a schema has to have, a text stands for it that isn't taken
abbrev pub with_missing : Stated → Stated
with_missing stated = record stated {
  settings = filled (codes "file.format", []) (filled (codes "bucket", codes "-1") stated.settings);
}

-- ---- a draft

pub record Draft : Type 0 where
  pub fields : List (List ℕ × List ℕ)
  pub partition : List (List ℕ)
  pub primary : List (List ℕ)
  pub settings : List Setting
  pub comment : Option (List ℕ)

-- the partition columns of a draft, none where they are missing
abbrev pub partition_or : Data → Option (List (List ℕ))
partition_or d = at_or [] texts_of (get (codes "partitionKeys") d)

-- the options of a draft, none where they are missing
abbrev pub settings_or : Data → Option (List Setting)
settings_or d = at_or [] settings_of (get (codes "options") d)

-- what an object states as a draft
unfoldable pub draft_in : Data → Option Draft
draft_in d = do
  ds ← field_list d
  fields ← all_in named_in ds
  partition ← partition_or d
  primary ← texts_at (codes "primaryKeys") d
  settings ← settings_or d
  comment ← comment_in d
  Some record { fields = fields; partition = partition; primary = primary; settings = settings; comment = comment }

-- a draft as the first schema of a table: ids from 0 in order, and two options that may be missing
abbrev pub stated_of : Draft → List ℕ → ℤ → Stated
stated_of draft origin now = record {
  id = 0;
  fields = numbered 0 draft.fields;
  highest = length draft.fields - 1;
  partition = draft.partition;
  primary = draft.primary;
  settings = filled (codes "file.format", codes "avro") (filled (codes "bucket", codes "1") draft.settings);
  comment = draft.comment;
  time = now;
  origin = Some origin;
}
