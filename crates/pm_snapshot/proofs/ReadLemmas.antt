-- The stages of a reading, against what `serde_json` answers.
use Rattle.std.proofs.Common.{◌≡◌, ℕ, Bool, true, false, List, Some, None, Ok, Err, IsUtf8, refl}
use Rattle.std.specs.Str.{is_utf8}
use Rattle.std.proofs.lemmas.Str.{is_utf8-from_IsUtf8, IsUtf8-from_is_utf8}
use Rattle.serde_json.specs.Data.{Data}
use Rattle.serde_json.specs.Read.{read}
use Rattle.pm_snapshot.specs.Field.{json_in}
use Rattle.pm_snapshot.specs.declared.fault.SnapFault.TheVariants.{Bad}

pub json_in-ok : (text : List ℕ) (d : Data) → IsUtf8 text → read text ≡ Some d → json_in text ≡ Ok d
json_in-ok text d utf8 is = rw (is_utf8-from_IsUtf8 text utf8, is)

refused_at : (text : List ℕ) (b : Bool) → is_utf8 text ≡ b → (IsUtf8 text → read text ≡ None) → json_in text ≡ Err Bad
refused_at text true is none = rw (is, none (IsUtf8-from_is_utf8 text is))
refused_at text false is none = rw is

pub json_in-err : (text : List ℕ) → (IsUtf8 text → read text ≡ None) → json_in text ≡ Err Bad
json_in-err text none = refused_at text (is_utf8 text) refl none
