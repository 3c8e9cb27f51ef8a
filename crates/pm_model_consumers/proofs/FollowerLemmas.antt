-- What a follower knows is kept, and its own steps lead on.
use Rattle.std.proofs.Common.{◌≡◌, ◌≢◌, inl, inr, ℕ, suc, ◌≤◌, List, [], ◌∷◌, ◌++◌, Bool, true, false, Some, refl, sym, ap, subst, ◌∙◌, true≢false}
use Rattle.pm_model_consumers.specs.Changes.{Change, Claims, HasLost, IsUnsettled, Puts, SameConsumers, SameTable, announces, commits, expires, forgets, goes, lists, moves, registers, nothing, settles, usurps}
use Rattle.pm_model_consumers.specs.Claims.{Claim, Follower, Holds, IsClaimed, IsFloor, Moment, free, known_at, moved_past, new_at, settled, waits}
use Rattle.pm_model_consumers.specs.Known.{HasRegistered, WaitsAt}
use Rattle.pm_model_consumers.proofs.ClaimLemmas.{claim-here, claim-other, fresh-same, next-same, none-not, same-or-other}

-- ---- claims apart

who-of : Claim → Follower → Follower
who-of free other = other
who-of (waits who listed) other = who
who-of (settled from moved) other = other

has-listed : Claim → Bool
has-listed free = false
has-listed (waits who listed) = listed
has-listed (settled from moved) = false

-- nobody waits twice
waits-same : (a b : Follower) (x y : Bool) → waits a x ≡ waits b y → a ≡ b
unfolding who-of
waits-same a b x y e = ap (λ (c : Claim). who-of c a) e

listed-same : (me : Follower) (listed : Bool) → waits me listed ≡ waits me true → listed ≡ true
unfolding has-listed
listed-same me listed e = ap has-listed e

does-wait : Claim → Bool
does-wait free = false
does-wait (waits who listed) = true
does-wait (settled from moved) = false

settled-not : (me : Follower) (from : ℕ) (moved : List (List ℕ)) → HasLost me (settled from moved)
unfolding does-wait
settled-not me from moved listed e = true≢false (sym (ap does-wait e))

free-not : (me : Follower) → HasLost me free
unfolding does-wait
free-not me listed e = true≢false (sym (ap does-wait e))

other-not : (me other : Follower) (listed : Bool) → other ≢ me → HasLost me (waits other listed)
other-not me other listed apart own e = apart (waits-same other me listed own e)

past-not : (me : Follower) (text : List ℕ) (claim : Claim) → HasLost me claim → HasLost me (moved_past text claim)
past-not me text free lost = lost
past-not me text (waits who listed) lost = lost
past-not me text (settled from moved) lost = settled-not me from (moved ++ text ∷ [])

-- ---- what a follower knows, whoever else acts

module _ (me other : Follower) (m n : Moment) (name : List ℕ) (next : ℕ) (listed : Bool) (apart : other ≢ me) where
  -- where its file and the claim on it stay
  registered-same : n.claim name ≡ m.claim name → n.file name ≡ m.file name → HasRegistered me name next listed m → HasRegistered me name next listed n
  registered-same claim file (inl known) = inl (record { claim = claim ∙ known.claim; file = file ∙ known.file })
  registered-same claim file (inr lost) = inr (λ own e. lost own (sym claim ∙ e))

  -- where a name has a claim that isn't its own
  registered-put : (put : List ℕ) (claim : Claim) → ((q : List ℕ) → q ≢ put → n.file q ≡ m.file q) → Claims m put claim n
      → (name ≡ put → HasLost me claim) → HasRegistered me name next listed m → HasRegistered me name next listed n
  registered-put put claim files claims lost has = elim (same-or-other name put) as (λ _. HasRegistered me name next listed n) [
    | inl here ↦ inr (λ own e. lost here own (sym (claims name ∙ claim-here put name claim m.claim here) ∙ e))
    | inr off ↦ registered-same (claims name ∙ claim-other put name claim m.claim off) (files name off) has
  ]

  pub registered-kept : Change other m n → HasRegistered me name next listed m → HasRegistered me name next listed n
  registered-kept (nothing table consumers) = registered-same (consumers.claim name) (consumers.file name)
  registered-kept (commits consumers floors frames low high) = registered-same (consumers.claim name) (consumers.file name)
  registered-kept (announces k within consumers snapshots new others) = registered-same (consumers.claim name) (consumers.file name)
  registered-kept (forgets k above consumers snapshots there less others back) = registered-same (consumers.claim name) (consumers.file name)
  registered-kept (expires consumers floors frames low high less floor counted) = registered-same (consumers.claim name) (consumers.file name)
  registered-kept (goes put table puts claims) = registered-put put free puts.others claims (λ here. free-not me)
  registered-kept (registers put k some bound table unsettled puts claims) =
      registered-put put (waits other false) puts.others claims (λ here. other-not me other false apart)
  registered-kept (lists put k table files waiting was above claims) =
      registered-put put (waits other true) (λ q off. files q) claims (λ here. other-not me other true apart)
  registered-kept (settles put k table waiting was puts claims) = registered-put put (settled k []) puts.others claims (λ here. settled-not me k [])
  registered-kept (usurps put k table lost was puts claims) = registered-put put free puts.others claims (λ here. free-not me)
  registered-kept (moves put k text table was within frame puts claims) =
      λ has. registered-put put (moved_past text (m.claim put)) puts.others claims (λ here. past-not me text (m.claim put) (lost here has)) has
    where
      lost : name ≡ put → HasRegistered me name next listed m → HasLost me (m.claim put)
      lost here (inl known) = absurd (true≢false (fresh-same (new_at next) (known_at k) (sym known.file ∙ ap m.file here ∙ was)))
      lost here (inr gone) = λ own e. gone own (ap m.claim here ∙ e)

-- ---- its own steps

-- a file that isn't new is one that it settled
module _ (me : Follower) (m n : Moment) (name : List ℕ) (listed : Bool) (k : ℕ) (holds : Holds m) (waiting : m.claim name ≡ waits me listed)
    (now : n.file name ≡ Some (known_at k)) where
  abbrev HasSettled : Type 0
  HasSettled = (listed ≡ true) × (n.claim name ≡ settled k [])

  -- its file doesn't stay
  not-same : n.file name ≡ m.file name → HasSettled
  not-same same =
      let (j, file, some, low) = subst (IsClaimed m name) waiting (holds.claims name) in
      absurd (true≢false (fresh-same (new_at j) (known_at k) (sym (same ∙ file) ∙ now)))

  not-put : (put : List ℕ) → ((q : List ℕ) → q ≢ put → n.file q ≡ m.file q) → (name ≡ put → HasSettled) → HasSettled
  not-put put files here = elim (same-or-other name put) as (λ _. HasSettled) [ inl same ↦ here same | inr off ↦ not-same (files name off) ]

  pub own-settled : Change me m n → HasSettled
  own-settled (nothing table consumers) = not-same (consumers.file name)
  own-settled (commits consumers floors frames low high) = not-same (consumers.file name)
  own-settled (announces i within consumers snapshots new others) = not-same (consumers.file name)
  own-settled (forgets i above consumers snapshots there less others back) = not-same (consumers.file name)
  own-settled (expires consumers floors frames low high less floor counted) = not-same (consumers.file name)
  own-settled (goes put table puts claims) = not-put put puts.others
      (λ here. absurd (none-not (known_at k) (sym now ∙ ap n.file here ∙ puts.here)))
  own-settled (registers put i some bound table unsettled puts claims) = not-put put puts.others
      (λ here. absurd (true≢false (fresh-same (new_at i) (known_at k) (sym puts.here ∙ ap n.file (sym here) ∙ now))))
  own-settled (lists put i table files was at above claims) = not-same (files name)
  own-settled (settles put i table was at puts claims) = not-put put puts.others (λ here. (
      let own : waits me listed ≡ waits me true = sym waiting ∙ ap m.claim here ∙ was in
      let number : i ≡ k = next-same (known_at i) (known_at k) (sym puts.here ∙ ap n.file (sym here) ∙ now) in
      (listed-same me listed own, claims name ∙ claim-here put name (settled i []) m.claim here ∙ ap (λ (j : ℕ). settled j []) number)))
  own-settled (usurps put i table lost at puts claims) = not-put put puts.others
      (λ here. absurd (lost listed (ap m.claim (sym here) ∙ waiting)))
  own-settled (moves put i text table at within frame puts claims) = not-put put puts.others (λ here. (
      let (j, file, some, low) = subst (IsClaimed m name) waiting (holds.claims name) in
      absurd (true≢false (fresh-same (new_at j) (known_at i) (sym file ∙ ap m.file here ∙ at)))))

pub registers-file : (me : Follower) (m n : Moment) (name : List ℕ) (next : ℕ) → 1 ≤ next → next ≤ suc m.newest → SameTable m n → IsUnsettled (m.file name)
    → Puts m name (Some (new_at next)) n → Claims m name (waits me false) n → Change me m n × HasRegistered me name next false n
registers-file me m n name next some bound table unsettled puts claims = (
  registers name next some bound table unsettled puts claims,
  inl (record { claim = claims name ∙ claim-here name name (waits me false) m.claim refl; file = puts.here }),
)

pub lists-floors : (me : Follower) (m n : Moment) (name : List ℕ) (next : ℕ) → SameTable m n → ((other : List ℕ) → n.file other ≡ m.file other)
    → ((k : ℕ) → IsFloor m k → k ≤ next) → (WaitsAt me name next false m → Claims m name (waits me true) n)
    → (HasLost me (m.claim name) → SameConsumers m n) → HasRegistered me name next false m → Change me m n × HasRegistered me name next true n
lists-floors me m n name next table files above here off (inl known) = (
  lists name next table files known.claim known.file above (here known),
  inl (record { claim = here known name ∙ claim-here name name (waits me true) m.claim refl; file = files name ∙ known.file }),
)
lists-floors me m n name next table files above here off (inr lost) =
    (nothing table (off lost), inr (λ own e. lost own (sym ((off lost).claim name) ∙ e)))

pub settles-file : (me : Follower) (m n : Moment) (name : List ℕ) (next : ℕ) → SameTable m n → m.file name ≡ Some (new_at next)
    → Puts m name (Some (known_at next)) n → (WaitsAt me name next true m → Claims m name (settled next []) n)
    → (HasLost me (m.claim name) → Claims m name free n) → HasRegistered me name next true m → Change me m n
settles-file me m n name next table was puts here off (inl known) = settles name next table known.claim was puts (here known)
settles-file me m n name next table was puts here off (inr lost) = usurps name next table lost was puts (off lost)
