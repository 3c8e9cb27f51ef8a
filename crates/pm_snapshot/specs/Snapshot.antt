-- The file of a snapshot.
use Rattle.std.specs.Prelude.{ℕ, ◌^◌, ◌<◌, ◌≤◌, ◌==◌, ◌&&◌, ℤ, pos, negsuc, ◌≤ℤ◌, ◌<ℤ◌, int_le, int_lt, nat_lt, nat_le, List, [], ◌∷◌, codes, Bool, if◌then◌else◌, Option, None, Some, Result, Ok, Err, ok_or, IfSome, IsUtf8, FitsSigned, decimal}
use Rattle.std.specs.Fmt.{signed_decimal}
use Rattle.std.specs.Int.{w64}
use Rattle.std.specs.List.{find}
use Rattle.std.specs.Str.{bytes_eq}
use Rattle.pm_base.specs.Outcome.{◌>>=◌}
use Rattle.serde_json.specs.Data.{Data, null, number, unsigned, string, object, Members, no_members, member}
use Rattle.serde_json.specs.Find.{of_integer}
use Rattle.serde_json.specs.Written.{compact_text}
use Rattle.pm_snapshot.specs.Field.{json_in, natural_at, integer_at, text_at, maybe_integer_at, maybe_text_at}
use Rattle.pm_snapshot.specs.Properties.{properties_at}
use Rattle.pm_snapshot.specs.declared.fault.SnapFault.{SnapFault}
use Rattle.pm_snapshot.specs.declared.fault.SnapFault.TheVariants.{Bad}
use Rattle.pm_snapshot.specs.declared.commit_kind.CommitKind.{CommitKind}
use Rattle.pm_snapshot.specs.declared.commit_kind.CommitKind.TheVariants.{Append, Compact, Overwrite, Analyze}
use Rattle.pm_snapshot.specs.declared.snapshot.Snapshot.{Snapshot}

-- ---- what is read

abbrev pub kind_text : CommitKind → List ℕ
kind_text Append = codes "APPEND"
kind_text Compact = codes "COMPACT"
kind_text Overwrite = codes "OVERWRITE"
kind_text Analyze = codes "ANALYZE"

-- the kind with a name
abbrev pub kind_in : List ℕ → Option CommitKind
kind_in text = find (λ kind. bytes_eq text (kind_text kind)) (Append ∷ Compact ∷ Overwrite ∷ Analyze ∷ [])

abbrev pub kind_at : List ℕ → Data → Result CommitKind SnapFault
kind_at name d = text_at name d >>= λ text. ok_or (kind_in text) Bad

-- how the numbers of a snapshot stand to each other
pub record IsConsistent (s : Snapshot) : Type 0 where
  pub base_below : s.base < s.id
  pub fence_least : negsuc 0 ≤ℤ s.fence
  pub fence_below : s.fence <ℤ pos s.id
  pub appends_within : s.appends ≤ s.id
  pub full_within : s.full ≤ s.appends

-- what a snapshot is: its texts are UTF-8, its numbers in the ranges of their types, and consistent
pub record IsSnapshot (s : Snapshot) : Type 0 where
  pub base_list : IsUtf8 s.base_list
  pub delta_list : IsUtf8 s.delta_list
  pub changelog_list : IfSome s.changelog_list IsUtf8
  pub user : IsUtf8 s.user
  pub id_bits : s.id < 2 ^ 64
  pub schema_id_bits : s.schema_id < 2 ^ 64
  pub ident_fits : FitsSigned w64 s.ident
  pub time_fits : FitsSigned w64 s.time
  pub total_fits : FitsSigned w64 s.total
  pub delta_fits : FitsSigned w64 s.delta
  pub changelog_fits : IfSome s.changelog (FitsSigned w64)
  pub watermark_fits : IfSome s.watermark (FitsSigned w64)
  pub base_bits : s.base < 2 ^ 64
  pub fence_fits : FitsSigned w64 s.fence
  pub appends_bits : s.appends < 2 ^ 64
  pub full_bits : s.full < 2 ^ 64
  pub consistent : IsConsistent s

-- the test of consistency
abbrev pub is_consistent : Snapshot → Bool
is_consistent s =
    nat_lt s.base s.id
    && (int_le (negsuc 0) s.fence
    && (int_lt s.fence (pos s.id)
    && (nat_le s.appends s.id
    && nat_le s.full s.appends)))

-- a snapshot that bears the id and is consistent
abbrev pub checked : ℕ → Snapshot → Result Snapshot SnapFault
checked id s = if s.id == id && is_consistent s then Ok s else Err Bad

-- the snapshot that JSON says, in the file of an id
unfoldable pub snapshot_from : ℕ → Data → Result Snapshot SnapFault
snapshot_from id d = do
  own_id ← natural_at (codes "id") d
  schema_id ← natural_at (codes "schemaId") d
  base_list ← text_at (codes "baseManifestList") d
  delta_list ← text_at (codes "deltaManifestList") d
  changelog_list ← maybe_text_at (codes "changelogManifestList") d
  user ← text_at (codes "commitUser") d
  ident ← integer_at (codes "commitIdentifier") d
  kind ← kind_at (codes "commitKind") d
  time ← integer_at (codes "timeMillis") d
  total ← integer_at (codes "totalRecordCount") d
  delta ← integer_at (codes "deltaRecordCount") d
  changelog ← maybe_integer_at (codes "changelogRecordCount") d
  watermark ← maybe_integer_at (codes "watermark") d
  own ← properties_at id d
  checked id (record {
    id = own_id;
    schema_id = schema_id;
    base_list = base_list;
    delta_list = delta_list;
    changelog_list = changelog_list;
    user = user;
    ident = ident;
    kind = kind;
    time = time;
    total = total;
    delta = delta;
    changelog = changelog;
    watermark = watermark;
    base = own.base;
    fence = own.fence;
    appends = own.appends;
    full = own.full;
  })

-- the snapshot that the file of an id has
unfoldable pub snapshot_in : ℕ → List ℕ → Result Snapshot SnapFault
snapshot_in id text = json_in text >>= snapshot_from id

-- ---- what is written

abbrev pub text_or_null : Option (List ℕ) → Data
text_or_null None = null
text_or_null (Some text) = string text

abbrev pub integer_or_null : Option ℤ → Data
integer_or_null None = null
integer_or_null (Some z) = number (of_integer z)

-- the members of an object, in order
abbrev pub members : List (List ℕ × Data) → Members
members [] = no_members
members (m ∷ ms) = member m.0 m.1 (members ms)

-- the properties, and all fields, in the order of their names
abbrev pub properties_members : Snapshot → List (List ℕ × Data)
properties_members s =
    (codes "appends", string (decimal s.appends))
    ∷ (codes "base", string (decimal s.base))
    ∷ (codes "fence", string (signed_decimal s.fence))
    ∷ (codes "full", string (decimal s.full))
    ∷ []

abbrev pub properties_data : Snapshot → Data
properties_data s = object (members (properties_members s))

abbrev pub snapshot_members : Snapshot → List (List ℕ × Data)
snapshot_members s =
    (codes "baseManifestList", string s.base_list)
    ∷ (codes "changelogManifestList", text_or_null s.changelog_list)
    ∷ (codes "changelogRecordCount", integer_or_null s.changelog)
    ∷ (codes "commitIdentifier", number (of_integer s.ident))
    ∷ (codes "commitKind", string (kind_text s.kind))
    ∷ (codes "commitUser", string s.user)
    ∷ (codes "deltaManifestList", string s.delta_list)
    ∷ (codes "deltaRecordCount", number (of_integer s.delta))
    ∷ (codes "id", number (unsigned s.id))
    ∷ (codes "properties", properties_data s)
    ∷ (codes "schemaId", number (unsigned s.schema_id))
    ∷ (codes "timeMillis", number (of_integer s.time))
    ∷ (codes "totalRecordCount", number (of_integer s.total))
    ∷ (codes "version", number (unsigned 3))
    ∷ (codes "watermark", integer_or_null s.watermark)
    ∷ []

abbrev pub snapshot_data : Snapshot → Data
snapshot_data s = object (members (snapshot_members s))

-- the text of a snapshot's file: compact JSON
unfoldable pub snapshot_text : Snapshot → List ℕ
snapshot_text s = compact_text (snapshot_data s)
