-- The rest of what is read stands at the end of the text.
use Rattle.std.proofs.Common.{◌≡◌, ℕ, ◌<◌, ◌≤◌, ℤ, pos, negsuc, List, [], ◌∷◌, ◌++◌}
use Rattle.std.proofs.Common.{length, refl, sym, ap, ◌∙◌, append_assoc, inl, inr, arith}
use Rattle.std.proofs.lemmas.List.{length-append}
use Rattle.pm_avro_data.specs.Number.{AreGroups}
use Rattle.pm_avro_data.specs.IsDatum.{IsBytes, AreItems, IsBody, IsBlock}

pub record Follows (source rest : List ℕ) : Type 0 where
  pub prefix : List ℕ
  pub parts : source ≡ prefix ++ rest

pub Follows-refl : (source rest : List ℕ) → source ≡ rest → Follows source rest
Follows-refl source rest e = record { prefix = []; parts = e }

pub Follows-then : (a b c : List ℕ) → Follows a b → Follows b c → Follows a c
Follows-then a b c p q = record { prefix = p.prefix ++ q.prefix; parts = p.parts ∙ ap (λ (t : List ℕ). p.prefix ++ t) q.parts ∙ sym (append_assoc p.prefix q.prefix c) }

pub Follows-shorter : (source rest : List ℕ) → Follows source rest → length rest ≤ length source
Follows-shorter source rest f = omega (arith, ap length f.parts, length-append f.prefix rest)

pub groups_follow : (source : List ℕ) (n : ℕ) (rest : List ℕ) → AreGroups n source rest → Follows source rest
groups_follow [] n rest h = absurd h
groups_follow (b ∷ source) n rest (inl h) = record { prefix = b ∷ []; parts = ap (λ (t : List ℕ). b ∷ t) h.2 }
groups_follow (b ∷ source) n rest (inr h) =
    let f = groups_follow source h.2.0 rest h.2.2 in
    record { prefix = b ∷ f.prefix; parts = ap (λ (t : List ℕ). b ∷ t) f.parts }

-- a number takes a byte
pub groups_shorter : (source : List ℕ) (n : ℕ) (rest : List ℕ) → AreGroups n source rest → length rest < length source
groups_shorter [] n rest h = absurd h
groups_shorter (b ∷ source) n rest (inl h) = omega (arith, ap length h.2)
groups_shorter (b ∷ source) n rest (inr h) = omega (arith, groups_shorter source h.2.0 rest h.2.2)

pub bytes_follow : (bs source rest : List ℕ) → IsBytes bs source rest → Follows source rest
bytes_follow bs source rest h = Follows-then source (bs ++ rest) rest (groups_follow source _ (bs ++ rest) h.groups) (record { prefix = bs; parts = refl })

module _ {X : Type 0} (P : X → List ℕ → List ℕ → Type 0) (each : (x : X) (source rest : List ℕ) → P x source rest → Follows source rest) where
  pub items_follow : (xs : List X) (source rest : List ℕ) → AreItems P xs source rest → Follows source rest
  items_follow [] source rest h = Follows-refl source rest h
  items_follow (x ∷ xs) source rest h = Follows-then source h.0 rest (each x source h.0 h.1) (items_follow xs h.0 rest h.2)

  pub body_follows : (count : ℤ) (xs : List X) (source rest : List ℕ) → IsBody P count xs source rest → Follows source rest
  body_follows (pos n) xs source rest h = items_follow xs source rest h.1
  body_follows (negsuc n) xs source rest h = Follows-then source h.1.start rest (groups_follow source _ h.1.start h.1.number.groups) (items_follow xs h.1.start rest h.1.each)

  pub block_follows : (xs : List X) (source rest : List ℕ) → IsBlock P xs source rest → Follows source rest
  block_follows xs source rest h = Follows-then source h.left rest (groups_follow source _ h.left h.number.groups) (body_follows h.count xs h.left rest h.body)

  pub block_shorter : (xs : List X) (source rest : List ℕ) → IsBlock P xs source rest → length rest < length source
  block_shorter xs source rest h =
      omega (arith, groups_shorter source _ h.left h.number.groups, Follows-shorter h.left rest (body_follows h.count xs h.left rest h.body))
