-- What each kind of change keeps.
use Rattle.std.proofs.Common.{◌≡◌, ◌≢◌, ◌⊎◌, inl, inr, ℕ, suc, ◌<◌, ◌≤◌, ◌==◌, List, [], ◌∷◌, ◌++◌, Bool, true, false, Some, None, refl, sym, ap, subst, ◌∙◌, arith, eqb-true, true≢false}
use Rattle.std.proofs.lemmas.Bool.{eq-eqb}
use Rattle.pm_model_consumers.specs.Changes.{Change, Claims, IsUnsettled, SameConsumers, SameFloors, SameFrames, SameSnapshots, SameTable, announces, commits, expires, forgets, goes, lists, moves, registers, nothing, settles, usurps}
use Rattle.pm_model_consumers.specs.Claims.{AreMoved, Claim, Follower, HasFloorFrom, Holds, IsClaimed, IsFloor, Moment, free, known_at, moved_past, new_at, settled, waits}
use Rattle.pm_model_consumers.proofs.ClaimLemmas.{claim-here, claim-other, claim-same, claim-stays, fresh-same, moved-more, moved-stay, next-same, same-or-other}

-- ---- floors

same-number : (a b : ℕ) → (a ≡ b) ⊎ (a ≢ b)
same-number a b = at (a == b) refl
  where
    at : (t : Bool) → (a == b) ≡ t → (a ≡ b) ⊎ (a ≢ b)
    at true is = inl (eqb-true a b is)
    at false other = inr (λ e. true≢false (sym (eq-eqb a b e) ∙ other))

floor-same : (m n : Moment) (end : ℕ) → SameFloors m n → HasFloorFrom m end → HasFloorFrom n end
floor-same m n end same (k, there, above) = (k, same k ∙ there, above)

floor-more : (m n : Moment) (end k : ℕ) → IsFloor n k → ((other : ℕ) → other ≢ k → n.floor other ≡ m.floor other) → HasFloorFrom m end → HasFloorFrom n end
floor-more m n end k new others (j, there, above) = elim (same-number j k) as (λ _. HasFloorFrom n end) [
  | inl same ↦ (k, new, omega (arith, above, same))
  | inr other ↦ (j, others j other ∙ there, above)
]

floor-less : (m n : Moment) (end k above : ℕ) → IsFloor m above → k < above → ((other : ℕ) → other ≢ k → n.floor other ≡ m.floor other)
    → HasFloorFrom m end → HasFloorFrom n end
floor-less m n end k above there less others (j, is, high) = elim (same-number j k) as (λ _. HasFloorFrom n end) [
  | inl same ↦ (above, others above (λ e. omega (arith, e, less)) ∙ there, omega (arith, high, same, less))
  | inr other ↦ (j, others j other ∙ is, high)
]

pub floor-kept : (me : Follower) (m n : Moment) (end : ℕ) → Change me m n → HasFloorFrom m end → HasFloorFrom n end
floor-kept me m n end (nothing table consumers) has = floor-same m n end table.floors has
floor-kept me m n end (commits consumers floors frames low high) has = floor-same m n end floors has
floor-kept me m n end (goes name table puts claims) has = floor-same m n end table.floors has
floor-kept me m n end (registers name next some bound table unsettled puts claims) has = floor-same m n end table.floors has
floor-kept me m n end (lists name next table files waiting was above claims) has = floor-same m n end table.floors has
floor-kept me m n end (settles name next table waiting was puts claims) has = floor-same m n end table.floors has
floor-kept me m n end (usurps name next table lost was puts claims) has = floor-same m n end table.floors has
floor-kept me m n end (moves name next text table was within frame puts claims) has = floor-same m n end table.floors has
floor-kept me m n end (announces k within consumers snapshots new others) has = floor-more m n end k new others has
floor-kept me m n end (forgets k above consumers snapshots there less others back) has = floor-less m n end k above there less others has
floor-kept me m n end (expires consumers floors frames low high less floor counted) has = floor-same m n end floors has

-- ---- what holds

-- where the least snapshot stays
low-floor : (me : Follower) (m n : Moment) → Holds m → Change me m n → n.least ≡ m.least → (n.least ≤ 1) ⊎ HasFloorFrom n n.least
low-floor me m n holds change same = elim holds.floor as (λ _. (n.least ≤ 1) ⊎ HasFloorFrom n n.least) [
  | inl low ↦ inl (omega (arith, low, same))
  | inr has ↦ inr (subst (HasFloorFrom n) (sym same) (floor-kept me m n m.least change has))
]

-- where consumers stay
claims-same : (m n : Moment) → Holds m → SameConsumers m n → SameFrames m n → m.newest ≤ n.newest → n.least ≡ m.least
    → (name : List ℕ) → IsClaimed n name (n.claim name)
claims-same m n holds consumers frames more same name =
    subst (IsClaimed n name) (sym (consumers.claim name))
    (claim-same m n name (m.claim name) (consumers.file name) frames more same (holds.claims name))

more-of : (m n : Moment) → SameSnapshots m n → m.newest ≤ n.newest
more-of m n snapshots = (let high = snapshots.newest in omega (arith, high))

-- where one name has another claim, and the files of the others stay
claims-put : (m n : Moment) (name : List ℕ) (claim : Claim) → Holds m → ((other : List ℕ) → other ≢ name → n.file other ≡ m.file other)
    → SameTable m n → Claims m name claim n → IsClaimed n name claim → (other : List ℕ) → IsClaimed n other (n.claim other)
claims-put m n name claim holds files table claims is other = elim (same-or-other other name) as (λ _. IsClaimed n other (n.claim other)) [
  | inl here ↦ subst (λ (name : List ℕ). IsClaimed n name (n.claim other)) (sym here)
      (subst (IsClaimed n name) (sym (claims other ∙ claim-here name other claim m.claim here)) is)
  | inr apart ↦ subst (IsClaimed n other) (sym (claims other ∙ claim-other name other claim m.claim apart))
      (claim-same m n other (m.claim other) (files other apart) table.snapshots.frames (more-of m n table.snapshots) table.snapshots.least (holds.claims other))
]

-- a floor that is at most a number bounds the least snapshot
least-by-floors : (m : Moment) (next : ℕ) → Holds m → 1 ≤ next → ((k : ℕ) → IsFloor m k → k ≤ next) → m.least ≤ next
least-by-floors m next holds some below = elim holds.floor as (λ _. m.least ≤ next) [
  | inl low ↦ omega (arith, low, some)
  | inr has ↦ (let high = below has.0 has.1 in let over = has.2 in omega (arith, high, over))
]

within-same : (m n : Moment) → Holds m → SameSnapshots m n → n.least ≤ n.newest
within-same m n holds snapshots = let within = holds.within in let low = snapshots.least in let high = snapshots.newest in omega (arith, within, low, high)

-- of one who waits
waits-is : (m : Moment) (name : List ℕ) (who : Follower) (listed : Bool) → Holds m → m.claim name ≡ waits who listed → IsClaimed m name (waits who listed)
waits-is m name who listed holds is = subst (IsClaimed m name) is (holds.claims name)

-- a file that isn't new is that of no one who waits
moved-claim : (m n : Moment) (name : List ℕ) (next : ℕ) (text : List ℕ) (claim : Claim) → m.file name ≡ Some (known_at next)
    → n.file name ≡ Some (known_at (suc next)) → SameSnapshots m n → next ≤ m.newest → text ≡ m.frame next
    → IsClaimed m name claim → IsClaimed n name (moved_past text claim)
moved-claim m n name next text free was now same within frame is = tt
moved-claim m n name next text (waits who listed) was now same within frame (k, at, some, low) =
    absurd (true≢false (fresh-same (new_at k) (known_at next) (sym at ∙ was)))
moved-claim m n name next text (settled from moved) was now same within frame (k, at, low, are) =
    let number : k ≡ next = next-same (known_at k) (known_at next) (sym at ∙ was) in (
      suc next,
      now,
      (let least = same.least in omega (arith, low, number, least)),
      moved-stay m n same.frames (more-of m n same) from (moved ++ text ∷ []) (suc next)
          (moved-more m from moved next text (subst (AreMoved m from moved) number are) within frame),
    )

pub kept : (me : Follower) (m n : Moment) → Holds m → Change me m n → Holds n
kept me m n holds (nothing table consumers) = record {
  within = within-same m n holds table.snapshots;
  floor = low-floor me m n holds (nothing table consumers) table.snapshots.least;
  claims = claims-same m n holds consumers table.snapshots.frames (more-of m n table.snapshots) table.snapshots.least;
}
kept me m n holds (commits consumers floors frames low high) = record {
  within = (let within = holds.within in omega (arith, within, low, high));
  floor = low-floor me m n holds (commits consumers floors frames low high) low;
  claims = claims-same m n holds consumers frames (omega (arith, high)) low;
}
kept me m n holds (goes name table puts claims) = record {
  within = within-same m n holds table.snapshots;
  floor = low-floor me m n holds (goes name table puts claims) table.snapshots.least;
  claims = claims-put m n name free holds puts.others table claims tt;
}
kept me m n holds (registers name next some bound table unsettled puts claims) = record {
  within = within-same m n holds table.snapshots;
  floor = low-floor me m n holds (registers name next some bound table unsettled puts claims) table.snapshots.least;
  claims = claims-put m n name (waits me false) holds puts.others table claims
      (next, puts.here, some, λ listed. absurd (true≢false (sym listed)));
}
kept me m n holds (lists name next table files waiting was above claims) = record {
  within = within-same m n holds table.snapshots;
  floor = low-floor me m n holds (lists name next table files waiting was above claims) table.snapshots.least;
  claims = claims-put m n name (waits me true) holds (λ other apart. files other) table claims
      (next, files name ∙ was, some, λ listed. (let low = least-by-floors m next holds some above in let same = table.snapshots.least in omega (arith, low, same)));
}
  where
    some : 1 ≤ next
    some =
        let (k, at, low, under) = waits-is m name me false holds waiting in
        let number = next-same (new_at k) (new_at next) (sym at ∙ was) in
        omega (arith, low, number)
kept me m n holds (settles name next table waiting was puts claims) = record {
  within = within-same m n holds table.snapshots;
  floor = low-floor me m n holds (settles name next table waiting was puts claims) table.snapshots.least;
  claims = claims-put m n name (settled next []) holds puts.others table claims (next, puts.here, low, refl);
}
  where
    low : n.least ≤ next
    low =
        let (k, at, some, under) = waits-is m name me true holds waiting in
        let number = next-same (new_at k) (new_at next) (sym at ∙ was) in
        let bound = under refl in
        let same = table.snapshots.least in
        omega (arith, bound, number, same)
kept me m n holds (usurps name next table lost was puts claims) = record {
  within = within-same m n holds table.snapshots;
  floor = low-floor me m n holds (usurps name next table lost was puts claims) table.snapshots.least;
  claims = claims-put m n name free holds puts.others table claims tt;
}
kept me m n holds (moves name next text table was within frame puts claims) = record {
  within = within-same m n holds table.snapshots;
  floor = low-floor me m n holds (moves name next text table was within frame puts claims) table.snapshots.least;
  claims = claims-put m n name (moved_past text (m.claim name)) holds puts.others table claims
      (moved-claim m n name next text (m.claim name) was puts.here table.snapshots within frame (holds.claims name));
}
kept me m n holds (announces k within consumers snapshots new others) = record {
  within = within-same m n holds snapshots;
  floor = low-floor me m n holds (announces k within consumers snapshots new others) snapshots.least;
  claims = claims-same m n holds consumers snapshots.frames (more-of m n snapshots) snapshots.least;
}
kept me m n holds (forgets k above consumers snapshots there less others back) = record {
  within = within-same m n holds snapshots;
  floor = low-floor me m n holds (forgets k above consumers snapshots there less others back) snapshots.least;
  claims = claims-same m n holds consumers snapshots.frames (more-of m n snapshots) snapshots.least;
}
kept me m n holds (expires consumers floors frames low high less floor counted) = record {
  within = omega (arith, low, high, less);
  floor = inr (subst (HasFloorFrom n) (sym low) (floor-same m n (suc m.least) floors floor));
  claims = λ name. subst (IsClaimed n name) (sym (consumers.claim name))
      (claim-stays m n name (m.claim name) (consumers.file name) frames (omega (arith, high))
      (λ said counts at. (let above = counted name said counts at in omega (arith, above, low))) (holds.claims name));
}

-- where nothing is known of names but that some are settled
pub begins : (m : Moment) → m.least ≤ m.newest → (m.least ≤ 1) ⊎ HasFloorFrom m m.least
    → ((name : List ℕ) → (m.claim name ≡ free) ⊎ ((n : ℕ) × (m.claim name ≡ settled n []) × (m.file name ≡ Some (known_at n)) × (m.least ≤ n)))
    → Holds m
begins m within floor claims = record {
  within = within;
  floor = floor;
  claims = λ name. elim (claims name) as (λ _. IsClaimed m name (m.claim name)) [
    | inl is ↦ subst (IsClaimed m name) (sym is) tt
    | inr has ↦ subst (IsClaimed m name) (sym has.1) (has.0, has.2, has.3, refl)
  ];
}

-- ---- a settled consumer

abbrev StaysSettled : Moment → Moment → List ℕ → ℕ → List (List ℕ) → ℕ → Type 0
StaysSettled m n name from moved next = (n.file name ≡ None) ⊎ ((n.claim name ≡ settled from moved) × (n.file name ≡ Some (known_at next)))
    ⊎ ((n.claim name ≡ settled from (moved ++ m.frame next ∷ [])) × (n.file name ≡ Some (known_at (suc next))))

module _ (me : Follower) (m n : Moment) (name : List ℕ) (from next : ℕ) (moved : List (List ℕ)) (was : m.claim name ≡ settled from moved)
    (file : m.file name ≡ Some (known_at next)) where
  -- it stays where its file and the claim on it do
  settled-same : n.claim name ≡ m.claim name → n.file name ≡ m.file name → StaysSettled m n name from moved next
  settled-same same stays = inr (inl (same ∙ was, stays ∙ file))

  -- or another name's do not
  settled-other : (other : List ℕ) (claim : Claim) → ((q : List ℕ) → q ≢ other → n.file q ≡ m.file q) → Claims m other claim n
      → (name ≡ other → StaysSettled m n name from moved next) → StaysSettled m n name from moved next
  settled-other other claim files claims here = elim (same-or-other name other) as (λ _. StaysSettled m n name from moved next) [
    | inl same ↦ here same
    | inr apart ↦ settled-same (claims name ∙ claim-other other name claim m.claim apart) (files name apart)
  ]

  -- a file that is new isn't one that is settled
  not-new : (other : List ℕ) (k : ℕ) {P : Type 0} → m.file other ≡ Some (new_at k) → name ≡ other → P
  not-new other k at same = absurd (true≢false (fresh-same (new_at k) (known_at next) (sym at ∙ ap m.file (sym same) ∙ file)))

  not-unsettled : (other : List ℕ) {P : Type 0} → IsUnsettled (m.file other) → name ≡ other → P
  not-unsettled other unsettled same = absurd (true≢false (sym (subst IsUnsettled (ap m.file (sym same) ∙ file) unsettled)))

  pub settled-on : Change me m n → StaysSettled m n name from moved next
  settled-on (nothing table consumers) = settled-same (consumers.claim name) (consumers.file name)
  settled-on (commits consumers floors frames low high) = settled-same (consumers.claim name) (consumers.file name)
  settled-on (goes other table puts claims) = settled-other other free puts.others claims (λ here. inl (ap n.file here ∙ puts.here))
  settled-on (registers other k some bound table unsettled puts claims) =
      settled-other other (waits me false) puts.others claims (not-unsettled other unsettled)
  settled-on (lists other k table files waiting at above claims) = settled-other other (waits me true) (λ q apart. files q) claims (not-new other k at)
  settled-on (settles other k table waiting at puts claims) = settled-other other (settled k []) puts.others claims (not-new other k at)
  settled-on (usurps other k table lost at puts claims) = settled-other other free puts.others claims (not-new other k at)
  settled-on (moves other k text table at within frame puts claims) =
      settled-other other (moved_past text (m.claim other)) puts.others claims
      (λ here. (
      let number : k ≡ next = next-same (known_at k) (known_at next) (sym at ∙ ap m.file (sym here) ∙ file) in
      let known : m.claim other ≡ settled from moved = ap m.claim (sym here) ∙ was in
      inr (inr (
        claims name ∙ claim-here other name (moved_past text (m.claim other)) m.claim here ∙ ap (moved_past text) known
            ∙ ap (λ (one : List ℕ). settled from (moved ++ one ∷ [])) (frame ∙ ap m.frame number),
        ap n.file here ∙ puts.here ∙ ap (λ (j : ℕ). Some (known_at (suc j))) number,
      ))))
  settled-on (announces k within consumers snapshots new others) = settled-same (consumers.claim name) (consumers.file name)
  settled-on (forgets k above consumers snapshots there less others back) = settled-same (consumers.claim name) (consumers.file name)
  settled-on (expires consumers floors frames low high less floor counted) = settled-same (consumers.claim name) (consumers.file name)

pub settled-frames : (m : Moment) (name : List ℕ) (from : ℕ) (moved : List (List ℕ)) → Holds m → m.claim name ≡ settled from moved
    → (next : ℕ) × (m.file name ≡ Some (known_at next)) × AreMoved m from moved next
settled-frames m name from moved holds is =
    let (next, file, low, are) = subst (IsClaimed m name) is (holds.claims name) in
    (next, file, are)
