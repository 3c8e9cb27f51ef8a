-- Which snapshot a printed text tells of.
use Rattle.std.proofs.Common.{◌≡◌, ◌≢◌, ℕ, List, [], ◌∷◌, ◌++◌, codes, Option, None, Some, inl, inr, refl, sym, ap, ◌∙◌}
use Rattle.std.specs.Fmt.{decimal}
use Rattle.std.proofs.lemmas.List.{append_cancel_right}
use Rattle.pm_base.specs.Newline.{newline}
use Rattle.pm_snapshot.specs.Names.{number_after}
use Rattle.pm_snapshot.proofs.Facts.{number_is}
use Rattle.pm_command_generate.specs.Generate.{TellsLast, committed}

same_text : (a b : List ℕ) → Some a ≡ Some b → a ≡ b
same_text a b is = cc

-- it ends with no newline
pub tells_none : (text : List ℕ) (old : Option ℕ) → ((front : List ℕ) → text ≢ front ++ newline ∷ []) → TellsLast (Some text) old old
tells_none text old none = inr (λ id small is. none (codes "snapshot " ++ decimal id) (same_text text (committed id) is), refl)

no_number : (o : Option ℕ) (id : ℕ) → o ≡ None → o ≡ Some id → ⊥
no_number o id none some = cc

-- the line has no number after that word
pub tells_other : (text told : List ℕ) (old : Option ℕ) → text ≡ told ++ newline ∷ [] → number_after (codes "snapshot ") told ≡ None
    → TellsLast (Some text) old old
tells_other text told old is none =
    inr (
      λ id small same.
          let front : told ≡ codes "snapshot " ++ decimal id =
          append_cancel_right told (codes "snapshot " ++ decimal id) (newline ∷ []) (sym is ∙ same_text text (committed id) same) in
          no_number (number_after (codes "snapshot ") told) id none ((number_is (codes "snapshot ") told id).1 (small, front)),
      refl,
    )

-- it has one
pub tells_some : (text told : List ℕ) (old : Option ℕ) (id : ℕ) → text ≡ told ++ newline ∷ [] → number_after (codes "snapshot ") told ≡ Some id
    → TellsLast (Some text) old (Some id)
tells_some text told old id is some =
    let found = (number_is (codes "snapshot ") told id).0 some in
    inl (id, found.0, ap Some (is ∙ ap (λ t. t ++ newline ∷ []) found.1), refl)
