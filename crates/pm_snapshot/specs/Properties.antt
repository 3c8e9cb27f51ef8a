-- The properties of a snapshot that are the program's own.
use Rattle.std.specs.Prelude.{ℕ, ◌-◌, ◌&&◌, negsuc, List, codes, Bool, true, false, if◌then◌else◌, Option, None, Some, is_some, option_and_then, unwrap_or, Result, Ok, Err, ok_or}
use Rattle.pm_base.specs.Outcome.{◌>>=◌}
use Rattle.serde_json.specs.Data.{Data, null, object, Members, no_members, member}
use Rattle.serde_json.specs.Find.{get, as_str}
use Rattle.pm_snapshot.specs.Decimal.{natural_in, integer_in}
use Rattle.pm_snapshot.specs.declared.fault.SnapFault.{SnapFault}
use Rattle.pm_snapshot.specs.declared.fault.SnapFault.TheVariants.{Bad}
use Rattle.pm_snapshot.specs.declared.properties.Properties.{Properties}

-- each member is a text
abbrev pub members_are_texts : Members → Bool
members_are_texts no_members = true
members_are_texts (member name d ms) = is_some (as_str d) && members_are_texts ms

-- an object of texts, or null
abbrev pub are_texts : Data → Bool
are_texts null = true
are_texts (object ms) = members_are_texts ms
are_texts d = false

-- what the text of a property is read as, or what stands for a property that is missing
abbrev pub or_missing : {A : Type 0} → A → (List ℕ → Option A) → Option Data → Result A SnapFault
or_missing missing read None = Ok missing
or_missing missing read (Some d) = ok_or (option_and_then read (as_str d)) Bad

-- the four of the snapshot with an id, from the object of its properties
abbrev pub properties_in : ℕ → Data → Result Properties SnapFault
properties_in id d = do
  base ← or_missing (id - 1) natural_in (get (codes "base") d)
  fence ← or_missing (negsuc 0) integer_in (get (codes "fence") d)
  appends ← or_missing 0 natural_in (get (codes "appends") d)
  full ← or_missing 0 natural_in (get (codes "full") d)
  Ok (record { base = base; fence = fence; appends = appends; full = full })

abbrev pub properties_from : ℕ → Data → Result Properties SnapFault
properties_from id d = if are_texts d then properties_in id d else Err Bad

-- the same where the properties may be missing, as null
abbrev pub properties_at : ℕ → Data → Result Properties SnapFault
properties_at id d = properties_from id (unwrap_or (get (codes "properties") d) null)
