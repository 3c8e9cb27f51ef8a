-- What an expirer knows is kept, and its own steps lead on.
use Rattle.std.proofs.Common.{◌≡◌, ◌≢◌, ◌⊎◌, inl, inr, ℕ, zero, suc, ◌<◌, ◌≤◌, List, [], ◌∷◌, Contains, true, false, Option, Some, None, refl, sym, ap, subst, ◌∙◌, arith, true≢false}
use Rattle.pm_model_consumers.specs.Changes.{Change, Claims, SameConsumers, SameFloors, SameFrames, SameSnapshots, announces, commits, expires, forgets, goes, lists, moves, registers, nothing, settles, usurps}
use Rattle.pm_model_consumers.specs.Claims.{Claim, Counts, Follower, Holds, IsFloor, Moment, Said, free, known_at, moved_past, new_at, settled, waits}
use Rattle.pm_model_consumers.specs.Expiry.{HasAnnounced, HasLeft}
use Rattle.pm_model_consumers.proofs.ChangeLemmas.{floor-kept}
use Rattle.pm_model_consumers.proofs.ClaimLemmas.{claim-here, claim-other, least, next-same, none-not, same-or-other}

newest-grows : (me : Follower) (m n : Moment) → Change me m n → m.newest ≤ n.newest
newest-grows me m n (nothing table consumers) = (let high = table.snapshots.newest in omega (arith, high))
newest-grows me m n (commits consumers floors frames low high) = omega (arith, high)
newest-grows me m n (goes name table puts claims) = (let high = table.snapshots.newest in omega (arith, high))
newest-grows me m n (registers name next some bound table unsettled puts claims) = (let high = table.snapshots.newest in omega (arith, high))
newest-grows me m n (lists name next table files waiting was above claims) = (let high = table.snapshots.newest in omega (arith, high))
newest-grows me m n (settles name next table waiting was puts claims) = (let high = table.snapshots.newest in omega (arith, high))
newest-grows me m n (usurps name next table lost was puts claims) = (let high = table.snapshots.newest in omega (arith, high))
newest-grows me m n (moves name next text table was within frame puts claims) = (let high = table.snapshots.newest in omega (arith, high))
newest-grows me m n (announces k within consumers snapshots new others) = (let high = snapshots.newest in omega (arith, high))
newest-grows me m n (forgets k above consumers snapshots there less others back) = (let high = snapshots.newest in omega (arith, high))
newest-grows me m n (expires consumers floors frames low high less floor counted) = omega (arith, high)

pub announced-kept : (me : Follower) (m n : Moment) (end : ℕ) → Change me m n → HasAnnounced m end → HasAnnounced n end
announced-kept me m n end change known = record {
  within = (let within = known.within in let more = newest-grows me m n change in omega (arith, within, more));
  floor = floor-kept me m n end change known.floor;
}

module _ (me : Follower) (m n : Moment) (end : ℕ) (names : List (List ℕ)) (known : HasLeft m end names) where
  abbrev IsCounted : Moment → List ℕ → Type 0
  IsCounted w name = (said : Said) → Counts (w.claim name) → w.file name ≡ Some said → (end ≤ said.next) ⊎ Contains names name

  -- where the claim and the file are as they were
  counted-same : (name : List ℕ) → n.claim name ≡ m.claim name → n.file name ≡ m.file name → IsCounted n name
  counted-same name claim file said counts at = known.counted name said (subst Counts claim counts) (sym file ∙ at)

  -- where another name's aren't
  counted-other : (other : List ℕ) (claim : Claim) → ((q : List ℕ) → q ≢ other → n.file q ≡ m.file q) → Claims m other claim n
      → ((said : Said) → Counts claim → n.file other ≡ Some said → (end ≤ said.next) ⊎ Contains names other) → (name : List ℕ) → IsCounted n name
  counted-other other claim files claims here name said counts at = elim (same-or-other name other) as (λ _. (end ≤ said.next) ⊎ Contains names name) [
    | inl is ↦ subst (λ (q : List ℕ). (end ≤ said.next) ⊎ Contains names q) (sym is)
        (here said (subst Counts (claims name ∙ claim-here other name claim m.claim is) counts) (ap n.file (sym is) ∙ at))
    | inr apart ↦ counted-same name (claims name ∙ claim-other other name claim m.claim apart) (files name apart) said counts at
  ]

  -- what counts once its file was moved on counted before
  past-counts : (text : List ℕ) (claim : Claim) → Counts (moved_past text claim) → Counts claim
  past-counts text free counts = counts
  past-counts text (waits who listed) counts = counts
  past-counts text (settled from moved) counts = counts

  counted-kept : Change me m n → (name : List ℕ) → IsCounted n name
  counted-kept (nothing table consumers) name = counted-same name (consumers.claim name) (consumers.file name)
  counted-kept (commits consumers floors frames low high) name = counted-same name (consumers.claim name) (consumers.file name)
  counted-kept (announces k within consumers snapshots new others) name = counted-same name (consumers.claim name) (consumers.file name)
  counted-kept (forgets k above consumers snapshots there less others back) name = counted-same name (consumers.claim name) (consumers.file name)
  counted-kept (expires consumers floors frames low high less floor counted) name = counted-same name (consumers.claim name) (consumers.file name)
  counted-kept (goes other table puts claims) name = counted-other other free puts.others claims (λ said counts at. absurd counts) name
  counted-kept (usurps other next table lost was puts claims) name = counted-other other free puts.others claims (λ said counts at. absurd counts) name
  counted-kept (registers other next some bound table unsettled puts claims) name =
      counted-other other (waits me false) puts.others claims (λ said counts at. absurd (true≢false (sym counts))) name
  -- the floor that announced the end was listed
  counted-kept (lists other next table files waiting was above claims) name =
      counted-other other (waits me true) (λ q apart. files q) claims
      (λ said counts at. inl (let has = known.announced.floor in let high = above has.0 has.1 in let over = has.2 in
      let number = next-same (new_at next) said (sym (files other ∙ was) ∙ at) in omega (arith, high, over, number))) name
  counted-kept (settles other next table waiting was puts claims) name =
      counted-other other (settled next []) puts.others claims
      (λ said counts at. now said at (known.counted other (new_at next) (subst Counts (sym waiting) refl) was)) name
    where
      now : (said : Said) → n.file other ≡ Some said → (end ≤ next) ⊎ Contains names other → (end ≤ said.next) ⊎ Contains names other
      now said at (inl low) = inl (let number = next-same (known_at next) said (sym puts.here ∙ at) in omega (arith, low, number))
      now said at (inr there) = inr there
  counted-kept (moves other next text table was within frame puts claims) name =
      counted-other other (moved_past text (m.claim other)) puts.others claims
      (λ said counts at. now said at (known.counted other (known_at next) (past-counts text (m.claim other) counts) was)) name
    where
      now : (said : Said) → n.file other ≡ Some said → (end ≤ next) ⊎ Contains names other → (end ≤ said.next) ⊎ Contains names other
      now said at (inl low) = inl (let number = next-same (known_at (suc next)) said (sym puts.here ∙ at) in omega (arith, low, number))
      now said at (inr there) = inr there

  pub left-kept : Change me m n → HasLeft n end names
  left-kept change = record { announced = announced-kept me m n end change known.announced; counted = counted-kept change }

-- ---- its own steps

pub announces-end : (me : Follower) (m n : Moment) (end : ℕ) → end ≤ m.newest → SameConsumers m n → SameSnapshots m n → IsFloor n end
    → ((other : ℕ) → other ≢ end → n.floor other ≡ m.floor other) → Change me m n × HasAnnounced n end
announces-end me m n end within consumers snapshots new others = (
  announces end within consumers snapshots new others,
  record {
    within = (let high = snapshots.newest in omega (arith, within, high));
    floor = (end, new, omega arith);
  },
)

absent-or : (file : Option Said) (said : Said) → file ≡ Some said → file ≢ None
absent-or file said is none = none-not said (sym is ∙ none)

pub lists-names : (m : Moment) (end : ℕ) (names : List (List ℕ)) → HasAnnounced m end → ((name : List ℕ) → m.file name ≢ None → Contains names name) → HasLeft m end names
lists-names m end names known all = record {
  announced = known;
  counted = λ name said counts at. inr (all name (absent-or (m.file name) said at));
}

in-cons : (name other : List ℕ) (names : List (List ℕ)) → Contains (name ∷ names) other → (other ≡ name) ⊎ Contains names other
in-cons name other names (zero, within, is) = inl (sym is)
in-cons name other names (suc k, within, is) = inr (k, omega (arith, within), is)

pub reads-one : (m : Moment) (end lower : ℕ) (name : List ℕ) (names : List (List ℕ)) (said : Said) → Holds m → HasLeft m end (name ∷ names)
    → m.file name ≡ Some said → lower ≤ end → (lower ≤ said.next) ⊎ (said.next < m.least) → HasLeft m lower names
reads-one m end lower name names said holds known there low under = record {
  announced = record {
    within = (let within = known.announced.within in omega (arith, within, low));
    floor = (let has = known.announced.floor in (has.0, has.1, (let over = has.2 in omega (arith, over, low))));
  };
  counted = λ other own counts at. elim (known.counted other own counts at) as (λ _. (lower ≤ own.next) ⊎ Contains names other) [
    | inl bound ↦ inl (omega (arith, bound, low))
    | inr listed ↦ elim (in-cons name other names listed) as (λ _. (lower ≤ own.next) ⊎ Contains names other) [
      | inl is ↦ (
          let number : said.next ≡ own.next = next-same said own (sym there ∙ ap m.file (sym is) ∙ at) in
          let (own', file, above) = least m other holds counts in
          let same : own'.next ≡ own.next = next-same own' own (sym file ∙ at) in
          elim under as (λ _. (lower ≤ own.next) ⊎ Contains names other) [
            | inl bound ↦ inl (omega (arith, number, bound))
            | inr gone ↦ absurd (omega (arith, number, above, same, gone))
          ])
      | inr later ↦ inr later
    ]
  ];
}

pub reads-absent : (m : Moment) (end : ℕ) (name : List ℕ) (names : List (List ℕ)) → HasLeft m end (name ∷ names) → m.file name ≡ None → HasLeft m end names
reads-absent m end name names known none = record {
  announced = known.announced;
  counted = λ other own counts at. elim (known.counted other own counts at) as (λ _. (end ≤ own.next) ⊎ Contains names other) [
    | inl bound ↦ inl bound
    | inr listed ↦ elim (in-cons name other names listed) as (λ _. (end ≤ own.next) ⊎ Contains names other) [
      | inl is ↦ absurd (none-not own (sym at ∙ ap m.file is ∙ none))
      | inr later ↦ inr later
    ]
  ];
}

no-name : (name : List ℕ) → Contains [] name → ⊥
no-name name (k, within, is) = omega (arith, within)

pub removes : (me : Follower) (m n : Moment) (end : ℕ) → HasLeft m end [] → m.least < end → SameConsumers m n → SameFloors m n → SameFrames m n
    → n.least ≡ suc m.least → n.newest ≡ m.newest → Change me m n
removes me m n end known less consumers floors frames low high =
    expires consumers floors frames low high
    (let within = known.announced.within in omega (arith, within, less))
    (let has = known.announced.floor in (has.0, has.1, (let over = has.2 in omega (arith, over, less))))
    (λ name said counts at. elim (known.counted name said counts at) as (λ _. m.least < said.next) [
      | inl bound ↦ omega (arith, bound, less)
      | inr listed ↦ absurd (no-name name listed)
    ])
