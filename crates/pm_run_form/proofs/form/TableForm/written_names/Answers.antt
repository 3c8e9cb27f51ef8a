use Rattle.std.proofs.Common.{◌≡◌, List, ℕ, [], ◌∷◌, ◌++◌, Bor, ap, ◌∙◌, append_assoc}
use Rattle.std.proofs.lemmas.List.{map-append}
use Rattle.pm_record.specs.Record.{lent}
use Rattle.pm_run.specs.Form.{names_of, written_fields}
use Rattle.pm_run_form.proofs.form.TableForm.written_names.Goals as goal

-- names, two more, and names after them
names_between : (none first second third last : List (Bor (List ℕ))) (keys columns : List (List ℕ)) (a b : Bor (List ℕ)) → none ≡ [] → lent first ≡ lent none ++ keys → second ≡ first ++ a ∷ [] → third ≡ second ++ b ∷ []
    → lent last ≡ lent third ++ columns → lent last ≡ keys ++ a.now ∷ b.now ∷ columns
names_between none first second third last keys columns a b p q r s t =
    let name : Bor (List ℕ) → List ℕ = λ x. x.now in
    let begun : lent first ≡ keys = q ∙ ap (λ (v : List (Bor (List ℕ))). lent v ++ keys) p in
    let one : lent second ≡ keys ++ a.now ∷ [] = ap lent r ∙ map-append name first (a ∷ []) ∙ ap (λ (v : List (List ℕ)). v ++ a.now ∷ []) begun in
    let two : lent third ≡ (keys ++ a.now ∷ []) ++ b.now ∷ [] = ap lent s ∙ map-append name second (b ∷ []) ∙ ap (λ (v : List (List ℕ)). v ++ b.now ∷ []) one in
    t ∙ ap (λ (v : List (List ℕ)). v ++ columns) two
    ∙ append_assoc (keys ++ a.now ∷ []) (b.now ∷ []) columns
    ∙ append_assoc keys (a.now ∷ []) (b.now ∷ columns)

pub returns : goal.returns
returns c =
    let h = names_between c.new-names.result.items c.push_names.new.names.items c.push.new.self.items c.push-2.new.self.items c.push_names-2.new.names.items
    (names_of c.deref.result.now) (names_of c.deref-2.result.now) _ _ c.new-names.ensures.items c.in_ok-push_names.ensures c.in_ok-push.ensures.items c.in_ok-push-2.ensures.items c.in_ok-push_names-2.ensures in
    h ∙ rw (c.deref.ensures.value, c.deref-2.ensures.value) (ap written_fields c.self.view_is)
