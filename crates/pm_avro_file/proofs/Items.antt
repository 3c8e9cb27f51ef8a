-- Items, one after another, of which each that stands at the prefix is one.
use Rattle.std.proofs.Common.{◌≡◌, ℕ, ◌+◌, ◌≤◌, List, [], ◌∷◌, ◌++◌, length}
use Rattle.std.proofs.Common.{refl, sym, ap, subst, ◌∙◌, append_assoc, arith}
use Rattle.std.proofs.lemmas.List.{length-append, append-nil}
use Rattle.pm_avro_data.specs.IsDatum.{AreItems}
use Rattle.pm_avro_data.proofs.Facts.{Follows}

pub no_items_left : {X : Type 0} (more : List X) (n : ℕ) → n ≡ n + length more → more ≡ []
no_items_left [] n e = refl
no_items_left (x ∷ xs) n e = absurd (omega arith)

module _ {X : Type 0} (P : X → List ℕ → List ℕ → Type 0) where
  -- one more
  pub items_push : (xs : List X) (x : X) (source middle rest : List ℕ) → AreItems P xs source middle → P x middle rest → AreItems P (xs ++ x ∷ []) source rest
  items_push [] x source middle rest h p = (rest, subst (λ (s : List ℕ). P x s rest) (sym h) p, refl)
  items_push (y ∷ xs) x source middle rest h p = (h.0, h.1, items_push xs x h.0 middle rest h.2 p)

  -- the same, whatever follows
  pub items_written : (xs : List X) (x : X) (prefix bytes : List ℕ) → ((rest : List ℕ) → AreItems P xs (prefix ++ rest) rest) → ((rest : List ℕ) → P x (bytes ++ rest) rest)
      → (rest : List ℕ) → AreItems P (xs ++ x ∷ []) ((prefix ++ bytes) ++ rest) rest
  items_written xs x prefix bytes h p rest =
      subst (λ (s : List ℕ). AreItems P (xs ++ x ∷ []) s rest) (sym (append_assoc prefix bytes rest))
      (items_push xs x (prefix ++ (bytes ++ rest)) (bytes ++ rest) rest (h (bytes ++ rest)) (p rest))

module _ {X : Type 0} (P : X → List ℕ → List ℕ → Type 0) (one : (x y : X) (source rest other : List ℕ) → P x source rest → P y source other → (x ≡ y) × (rest ≡ other)) where
  -- where some items stand, those that are as many or more begin with them
  pub items_split : (xs ys : List X) (source middle rest : List ℕ) → AreItems P xs source middle → AreItems P ys source rest → length xs ≤ length ys
      → (more : List X) × (ys ≡ xs ++ more) × AreItems P more middle rest
  items_split [] ys source middle rest h k le = (ys, refl, subst (λ (s : List ℕ). AreItems P ys s rest) h k)
  items_split (x ∷ xs) [] source middle rest h k le = absurd (omega arith)
  items_split (x ∷ xs) (y ∷ ys) source middle rest h k le =
      let o = one x y source h.0 k.0 h.1 k.1 in
      let m = items_split xs ys h.0 middle rest h.2 (subst (λ (s : List ℕ). AreItems P ys s rest) (sym o.1) k.2) (omega arith) in
      let first = o.0 in
      let later = m.1 in
      (m.0, cc, m.2)

  -- as many items are the same
  pub items_one : (xs ys : List X) (source middle rest : List ℕ) → AreItems P xs source middle → AreItems P ys source rest → length xs ≡ length ys → (xs ≡ ys) × (middle ≡ rest)
  items_one xs ys source middle rest h k same =
      let m = items_split xs ys source middle rest h k (omega arith) in
      let none : m.0 ≡ [] = no_items_left m.0 (length xs) (same ∙ ap length m.1 ∙ length-append xs m.0) in
      let last : AreItems P [] middle rest = subst (λ (more : List X). AreItems P more middle rest) none m.2 in
      (sym (m.1 ∙ ap (λ (more : List X). xs ++ more) none ∙ append-nil xs), last)

module _ {X : Type 0} (P : X → List ℕ → List ℕ → Type 0) (each : (x : X) (source rest : List ℕ) → P x source rest → Follows source rest) where
  pub items_follow : (xs : List X) (source rest : List ℕ) → AreItems P xs source rest → Follows source rest
  items_follow [] source rest h = record { prefix = []; parts = h }
  items_follow (x ∷ xs) source rest h =
      let p = each x source h.0 h.1 in
      let q = items_follow xs h.0 rest h.2 in
      record { prefix = p.prefix ++ q.prefix; parts = p.parts ∙ ap (λ (t : List ℕ). p.prefix ++ t) q.parts ∙ sym (append_assoc p.prefix q.prefix rest) }
