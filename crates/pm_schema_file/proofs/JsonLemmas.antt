-- JSON, against what `serde_json` answers.
use Rattle.std.proofs.Common.{◌≡◌, ℕ, List, Bool, true, false, Some, None, IsUtf8, refl}
use Rattle.std.specs.Str.{is_utf8}
use Rattle.std.proofs.lemmas.Str.{is_utf8-from_IsUtf8, IsUtf8-from_is_utf8}
use Rattle.serde_json.specs.Data.{Data}
use Rattle.serde_json.specs.Read.{read}
use Rattle.pm_schema.specs.Stated.{json_of}

pub json_of-some : (text : List ℕ) (d : Data) → IsUtf8 text → read text ≡ Some d → json_of text ≡ Some d
json_of-some text d utf8 is = rw (is_utf8-from_IsUtf8 text utf8, is) refl

refused_at : (text : List ℕ) (b : Bool) → is_utf8 text ≡ b → (IsUtf8 text → read text ≡ None) → json_of text ≡ None
refused_at text true is none = rw (is, none (IsUtf8-from_is_utf8 text is)) refl
refused_at text false is none = rw is refl

pub json_of-none : (text : List ℕ) → (IsUtf8 text → read text ≡ None) → json_of text ≡ None
json_of-none text none = refused_at text (is_utf8 text) refl none
