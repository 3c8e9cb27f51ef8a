-- What the end of an expiry keeps.
use Rattle.std.proofs.Common.{◌≡◌, ℕ, ◌+◌, ◌-◌, ◌<◌, ◌≤◌, max, length, true, false, inl, inr, sym, subst, ◌∙◌, true≢false, arith}
use Rattle.std.specs.Prelude.{ℤ, ◌≤ℤ◌, int_le, List, Option, Some, None}
use Rattle.std.proofs.lemmas.Bool.{cases_lt}
use Rattle.std.proofs.lemmas.Int.{ints}
use Rattle.pm_expire_end.specs.declared.keep.Keep.{Keep}
use Rattle.pm_expire_end.specs.Expiry.{AreConsecutive, IsExpireEnd, IsExpireEnd.{chosen, forced}, KeepsMore, ReadsMore, KeepsNeeded, first_id, highest, is_recent, last_id, lowest, since, time_of_id}

-- ---- numbers

highest-min : (last : ℕ) (keep : Keep) (next : Option ℕ) → highest last keep next ≤ last + 1 - keep.min
highest-min last keep None = omega arith
highest-min last keep (Some next) = omega arith

highest-next : (last : ℕ) (keep : Keep) (next : Option ℕ) (id : ℕ) → next ≡ Some id → highest last keep next ≤ id
highest-next last keep next id is =
    let less : highest last keep (Some id) ≤ id = omega arith in
    subst (λ n. highest last keep n ≤ id) (sym is) less

highest-less : (last : ℕ) (less more : Keep) (next earlier : Option ℕ) → less.min ≤ more.min → ReadsMore next earlier
    → highest last more earlier ≤ highest last less next
highest-less last less more None earlier order reads = let most = highest-min last more earlier in omega arith
highest-less last less more (Some next) earlier order reads =
    let most = highest-min last more earlier in
    let read = highest-next last more earlier reads.0 reads.1 in
    omega (arith, reads.2)

-- an earlier time is that of more
later : (early late time : ℤ) → early ≤ℤ late → int_le late time ≡ true → int_le early time ≡ true
later early late time order is = grind (arith, ints)

since-less : (less more : Keep) (now before : ℤ) → less.millis ≤ more.millis → before ≤ℤ now → since more before ≤ℤ since less now
since-less less more now before order clock = grind (arith, ints)

-- ---- what any end is

-- it lies between the first id and the greater of this and the highest end, and nothing from the lowest end on that goes is recent
record Lies (times : List (ℕ × ℤ)) (keep : Keep) (now : ℤ) (next : Option ℕ) (end : ℕ) : Type 0 where
  pub from_first : first_id times ≤ end
  pub to_high : end ≤ max (first_id times) (highest (last_id times) keep next)
  pub older : (id : ℕ) → lowest (first_id times) (last_id times) keep ≤ id → id < end → is_recent times (since keep now) id ≡ false

lies : (times : List (ℕ × ℤ)) (keep : Keep) (now : ℤ) (next : Option ℕ) (end : ℕ) → IsExpireEnd times keep now next end → Lies times keep now next end
lies times keep now next end (chosen less is) = record {
  from_first = omega (arith, is.from_low);
  to_high = omega (arith, is.to_high);
  older = is.older;
}
lies times keep now next end (forced order is) = record {
  from_first = omega arith;
  to_high = omega arith;
  older = λ id from below. absurd (omega arith);
}

last-is : (times : List (ℕ × ℤ)) → AreConsecutive times → last_id times + 1 ≡ first_id times + length times
last-is times listed =
    let some = listed.some in
    let is = listed.each (length times - 1) (omega arith) in
    omega arith

pub needed : (times : List (ℕ × ℤ)) (keep : Keep) (now : ℤ) (next : Option ℕ) (end : ℕ) → AreConsecutive times → 1 ≤ keep.min
    → IsExpireEnd times keep now next end → KeepsNeeded times keep now next end
needed times keep now next end listed some is =
    let l = lies times keep now next end is in
    let last = last-is times listed in
    let most = highest-min (last_id times) keep next in
    record {
      first = l.from_first;
      last = omega (arith, l.to_high, listed.some);
      least = omega (arith, l.to_high, listed.some);
      consumer = λ id reads. let less = highest-next (last_id times) keep next id reads in omega (arith, l.to_high);
      recent = λ id from below new.
          elim (cases_lt id (lowest (first_id times) (last_id times) keep)) as (λ _. keep.max + id ≤ last_id times) [
            | inl less ↦ omega arith
            | inr order ↦ absurd (true≢false (sym new ∙ l.older id order below))
          ];
    }

-- ---- who keeps more

pub no-later : (times : List (ℕ × ℤ)) (less more : Keep) (now before : ℤ) (next earlier : Option ℕ) (end other : ℕ)
    → KeepsMore less more → before ≤ℤ now → ReadsMore next earlier → IsExpireEnd times less now next end → IsExpireEnd times more before earlier other
    → other ≤ end
no-later times less more now before next earlier end other keeps clock reads is (forced order e) =
    let l = lies times less now next end is in
    let high = highest-less (last_id times) less more next earlier keeps.min reads in
    forced-less is
  where
    forced-less : IsExpireEnd times less now next end → other ≤ end
    forced-less (chosen below first) =
        let from = first.from_low in
        let max_less = keeps.max in
        omega arith
    forced-less (forced above f) =
        let high = highest-less (last_id times) less more next earlier keeps.min reads in
        omega arith
no-later times less more now before next earlier end other keeps clock reads is (chosen order first) =
    by is
  where
    high : highest (last_id times) more earlier ≤ highest (last_id times) less next
    high = highest-less (last_id times) less more next earlier keeps.min reads

    by : IsExpireEnd times less now next end → other ≤ end
    by (forced above f) = let h = high in omega (arith, first.to_high)
    by (chosen below f) = elim (cases_lt end other) as (λ _. other ≤ end) [
      | inl less_than ↦
          let h = high in
          let new = f.recent (omega (arith, first.to_high)) in
          let still = later (since more before) (since less now) (time_of_id times end) (since-less less more now before keeps.millis clock) new in
          let old = first.older end (omega (arith, f.from_low, keeps.max)) less_than in
          absurd (true≢false (sym still ∙ old))
      | inr order ↦ order
    ]
