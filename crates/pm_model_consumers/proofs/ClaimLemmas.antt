-- What a claim on one name leaves of the others, and what a moment holds of consumers that count.
use Rattle.std.proofs.Common.{◌≡◌, ◌≢◌, ◌⊎◌, inl, inr, ℕ, suc, ◌≤◌, List, [], ◌∷◌, ◌++◌, Bool, true, false, cond, Some, None, refl, sym, ap, ◌∙◌, arith, true≢false}
use Rattle.std.specs.Str.{bytes_eq}
use Rattle.std.proofs.lemmas.Slice.Eq.{bytes_eq-Decides}
use Rattle.pm_model_consumers.specs.Changes.{SameFrames}
use Rattle.pm_model_consumers.specs.Claims.{AreMoved, Claim, Counts, Holds, IsClaimed, Moment, Said, free, known_at, new_at, settled, waits, with_claim}

-- ---- names

pub same-or-other : (a b : List ℕ) → (a ≡ b) ⊎ (a ≢ b)
same-or-other a b = at (bytes_eq a b) refl
  where
    at : (t : Bool) → bytes_eq a b ≡ t → (a ≡ b) ⊎ (a ≢ b)
    at true same = inl ((bytes_eq-Decides a b).0 same)
    at false other = inr (λ e. true≢false (sym ((bytes_eq-Decides a b).1 e) ∙ other))

pub claim-here : (name other : List ℕ) (claim : Claim) (claims : List ℕ → Claim) → other ≡ name → with_claim name claim claims other ≡ claim
claim-here name other claim claims same = ap (λ t. cond t claim (claims other)) ((bytes_eq-Decides other name).1 same)

pub claim-other : (name other : List ℕ) (claim : Claim) (claims : List ℕ → Claim) → other ≢ name → with_claim name claim claims other ≡ claims other
claim-other name other claim claims apart = at (bytes_eq other name) refl
  where
    at : (t : Bool) → bytes_eq other name ≡ t → with_claim name claim claims other ≡ claims other
    at true same = absurd (apart ((bytes_eq-Decides other name).0 same))
    at false is = ap (λ t. cond t claim (claims other)) is

-- ---- files

pub next-same : (a b : Said) → Some a ≡ Some b → a.next ≡ b.next
next-same a b e = cc

pub fresh-same : (a b : Said) → Some a ≡ Some b → a.fresh ≡ b.fresh
fresh-same a b e = cc

pub none-not : (a : Said) → Some a ≡ None → ⊥
none-not a e = cc

-- ---- frames that consumers were moved past

-- they stay where frames do
pub moved-stay : (m n : Moment) → SameFrames m n → m.newest ≤ n.newest → (from : ℕ) (moved : List (List ℕ)) (next : ℕ) → AreMoved m from moved next
    → AreMoved n from moved next
moved-stay m n same more from [] next is = is
moved-stay m n same more from (text ∷ moved) next (within, frame, rest) =
    (omega (arith, within, more), frame ∙ sym (same from within), moved-stay m n same more (suc from) moved next rest)

-- and one more is that of the number
pub moved-more : (m : Moment) (from : ℕ) (moved : List (List ℕ)) (next : ℕ) (text : List ℕ) → AreMoved m from moved next → next ≤ m.newest → text ≡ m.frame next
    → AreMoved m from (moved ++ text ∷ []) (suc next)
moved-more m from [] next text is within frame = (omega (arith, is, within), frame ∙ ap m.frame (sym is), ap suc is)
moved-more m from (own ∷ moved) next text (low, is, rest) within frame = (low, is, moved-more m (suc from) moved next text rest within frame)

-- ---- who counts

-- what a claim says of the file of a name, where it counts
pub counted : (m : Moment) (name : List ℕ) (claim : Claim) → IsClaimed m name claim → Counts claim → (said : Said) × (m.file name ≡ Some said) × (m.least ≤ said.next)
counted m name free is counts = absurd counts
counted m name (waits who listed) (n, file, some, low) counts = (new_at n, file, low counts)
counted m name (settled from moved) (n, file, low, are) counts = (known_at n, file, low)

pub least : (m : Moment) (name : List ℕ) → Holds m → Counts (m.claim name) → (said : Said) × (m.file name ≡ Some said) × (m.least ≤ said.next)
least m name holds = counted m name (m.claim name) (holds.claims name)

-- a claim holds where the file and the frames are the same and the least snapshot isn't above what counts
pub claim-stays : (m n : Moment) (name : List ℕ) (claim : Claim) → n.file name ≡ m.file name → SameFrames m n → m.newest ≤ n.newest
    → ((said : Said) → Counts claim → m.file name ≡ Some said → n.least ≤ said.next) → IsClaimed m name claim → IsClaimed n name claim
claim-stays m n name free file frames more low is = tt
claim-stays m n name (waits who listed) file frames more low (k, was, some, under) = (k, file ∙ was, some, λ has. low (new_at k) has was)
claim-stays m n name (settled from moved) file frames more low (k, was, under, are) =
    (k, file ∙ was, low (known_at k) tt was, moved-stay m n frames more from moved k are)

-- so it does where the least snapshot is the same
pub claim-same : (m n : Moment) (name : List ℕ) (claim : Claim) → n.file name ≡ m.file name → SameFrames m n → m.newest ≤ n.newest → n.least ≡ m.least
    → IsClaimed m name claim → IsClaimed n name claim
claim-same m n name claim file frames more same is = claim-stays m n name claim file frames more bound is
  where
    bound : (said : Said) → Counts claim → m.file name ≡ Some said → n.least ≤ said.next
    bound said counts at =
        let (own, here, low) = counted m name claim is counts in
        let number = next-same own said (sym here ∙ at) in
        omega (arith, low, number, same)
