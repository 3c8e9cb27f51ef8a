-- Texts: reading them, and the relation.
use Rattle.std.proofs.Common.{◌≡◌, ℕ, List, Some, None, false, refl}
use Rattle.std.specs.Prelude.{IsUtf8}
use Rattle.std.specs.Str.{is_utf8}
use Rattle.std.proofs.lemmas.Str.{IsUtf8-from_is_utf8, is_utf8-from_IsUtf8}
use Rattle.std.proofs.lemmas.Bool.{false_from_ne_true}
use Rattle.pm_avro_data.specs.Reading.{bytes_at, text_at}

pub text_some : (source bs rest : List ℕ) → bytes_at source ≡ Some (bs, rest) → IsUtf8 bs → text_at source ≡ Some (bs, rest)
unfolding text_at
text_some source bs rest e utf8 = rw (e, is_utf8-from_IsUtf8 bs utf8) refl

pub text_none : (source bs rest : List ℕ) → bytes_at source ≡ Some (bs, rest) → (IsUtf8 bs → ⊥) → text_at source ≡ None
unfolding text_at
text_none source bs rest e other =
    let no : is_utf8 bs ≡ false = false_from_ne_true (is_utf8 bs) (λ yes. other (IsUtf8-from_is_utf8 bs yes)) in
    rw (e, no) refl
