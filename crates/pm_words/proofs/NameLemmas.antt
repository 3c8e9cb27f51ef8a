-- What other crates use of names.
use Rattle.std.proofs.Common.{◌≡◌, ◌≢◌, ◌∙◌, ℕ, true, true≢false, List, [], ◌∷◌, ap, sym}
use Rattle.std.specs.List.{AllByRecursion, list_all}
use Rattle.pm_words.specs.Words.{IsName, is_name_byte}
use Rattle.pm_words.proofs.ReadLemmas.{both}

no_slash : (text : List ℕ) → list_all is_name_byte text ≡ true → AllByRecursion (λ byte. byte ≢ 47) text
no_slash [] all = tt
no_slash (byte ∷ text) all =
    let parts = both (is_name_byte byte) _ all in
    (λ slash. true≢false (sym parts.0 ∙ ap is_name_byte slash), no_slash text parts.1)

-- a name is one part of a path
pub name_is_plain : (text : List ℕ) → IsName text → AllByRecursion (λ byte. byte ≢ 47) text
name_is_plain text is = no_slash text is.2
