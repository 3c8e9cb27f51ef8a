-- Of a group with runs that is chosen at least one run goes.
use Rattle.std.proofs.Common.{◌≡◌, ℕ, ◌+◌, ◌-◌, ◌≤◌, min, true, false, cond, ◌&&◌, ◌||◌, List, length, Option, Some, None, refl, subst, arith}
use Rattle.std.specs.Prelude.{◌==◌, nat_le, nat_lt}
use Rattle.std.specs.Option.{option_or}
use Rattle.std.proofs.lemmas.Bool.{ltb-true}
use Rattle.pm_levels.specs.declared.choice.Asked.{Asked}
use Rattle.pm_levels.specs.declared.choice.Asked.TheVariants.{Full, LevelZero, No}
use Rattle.pm_levels.specs.declared.choice.Pick.{Pick}
use Rattle.pm_levels.specs.declared.choice.PickRule.{PickRule}
use Rattle.pm_levels.specs.declared.runs.RunSize.{RunSize}
use Rattle.pm_levels.specs.Picking.{all_of, by_size, by_zeros, close, in_full, is_ample, picked, run_at, stretch, top_of, up_to_one, zeros_of}

module _ (rule : PickRule) (runs : List RunSize) (some : 1 ≤ length runs) where
  abbrev n : ℕ
  n = length runs

  up-some : 1 ≤ (up_to_one runs rule).take
  up-some =
      let count = min (zeros_of runs + 1) n in
      elim (count == n) as (λ b. 1 ≤ (cond b (all_of runs rule) (record { take = count; out = (run_at runs (count - 1)).level })).take) [
        | true ↦ some
        | false ↦ omega arith
      ]

  close-some : (t : ℕ) → 1 ≤ t → 1 ≤ (close runs rule t).take
  close-some t from =
      elim (t == n) as (λ b. 1 ≤ (cond b (all_of runs rule)
      (cond (nat_le 2 (run_at runs t).level) (record { take = t; out = (run_at runs t).level - 1 }) (up_to_one runs rule))).take) [
        | true ↦ some
        | false ↦
            elim (nat_le 2 (run_at runs t).level) as (λ b. 1 ≤ (cond b (record { take = t; out = (run_at runs t).level - 1 }) (up_to_one runs rule)).take) [
              | true ↦ from
              | false ↦ up-some
            ]
      ]

  stretch-some : (t : ℕ) → 1 ≤ t → 1 ≤ (close runs rule (stretch runs rule t)).take
  stretch-some t from = close-some (stretch runs rule t) (omega (arith, from))

  taken : (q p : Pick) → 1 ≤ q.take → Some q ≡ Some p → 1 ≤ p.take
  taken q p is same = let equal : q ≡ p = cc in subst (λ (q : Pick). 1 ≤ q.take) equal is

  zeros-some : (p : Pick) → by_zeros runs rule ≡ Some p → 1 ≤ p.take
  zeros-some p is =
      elim (nat_lt 0 (zeros_of runs)) as (λ b. nat_lt 0 (zeros_of runs) ≡ b → cond b (Some (close runs rule (zeros_of runs))) None ≡ Some p → 1 ≤ p.take) [
        | true ↦ λ b e. taken (close runs rule (zeros_of runs)) p (close-some (zeros_of runs) (ltb-true 0 (zeros_of runs) b)) e
        | false ↦ λ b e. cc
      ] refl is

  full-some : (p : Pick) → in_full runs rule ≡ Some p → 1 ≤ p.take
  full-some p is =
      let is_one = (n == 1) && ((run_at runs 0).level == top_of rule) in
      elim ((n == 0) || is_one) as (λ b. cond b None (Some (all_of runs rule)) ≡ Some p → 1 ≤ p.take) [
        | true ↦ λ e. cc
        | false ↦ λ e. taken (all_of runs rule) p some e
      ] is

  last-some : (p : Pick) → cond (nat_lt rule.trigger n) (Some (close runs rule (stretch runs rule (n - rule.trigger + 1)))) None ≡ Some p → 1 ≤ p.take
  last-some p is =
      elim (nat_lt rule.trigger n) as (λ b. cond b (Some (close runs rule (stretch runs rule (n - rule.trigger + 1)))) None ≡ Some p → 1 ≤ p.take) [
        | true ↦ λ e. taken (close runs rule (stretch runs rule (n - rule.trigger + 1))) p (stretch-some (n - rule.trigger + 1) (omega arith)) e
        | false ↦ λ e. cc
      ] is

  wide-some : (p : Pick) → cond (nat_le rule.trigger n && nat_lt 1 (stretch runs rule 1)) (Some (close runs rule (stretch runs rule 1)))
      (cond (nat_lt rule.trigger n) (Some (close runs rule (stretch runs rule (n - rule.trigger + 1)))) None) ≡ Some p → 1 ≤ p.take
  wide-some p is =
      elim (nat_le rule.trigger n && nat_lt 1 (stretch runs rule 1)) as (λ b. cond b (Some (close runs rule (stretch runs rule 1)))
      (cond (nat_lt rule.trigger n) (Some (close runs rule (stretch runs rule (n - rule.trigger + 1)))) None) ≡ Some p → 1 ≤ p.take) [
        | true ↦ λ e. taken (close runs rule (stretch runs rule 1)) p (stretch-some 1 (omega arith)) e
        | false ↦ λ e. last-some p e
      ] is

  size-some : (p : Pick) → by_size runs rule ≡ Some p → 1 ≤ p.take
  size-some p is =
      elim (nat_le rule.trigger n && is_ample runs rule) as (λ b. cond b (Some (all_of runs rule))
      (cond (nat_le rule.trigger n && nat_lt 1 (stretch runs rule 1)) (Some (close runs rule (stretch runs rule 1)))
      (cond (nat_lt rule.trigger n) (Some (close runs rule (stretch runs rule (n - rule.trigger + 1)))) None)) ≡ Some p → 1 ≤ p.take) [
        | true ↦ λ e. taken (all_of runs rule) p some e
        | false ↦ λ e. wide-some p e
      ] is

  either-some : (p : Pick) (one : Option Pick) → by_size runs rule ≡ one → option_or one (by_zeros runs rule) ≡ Some p → 1 ≤ p.take
  either-some p None is e = zeros-some p e
  either-some p (Some q) is e = let same : Some q ≡ Some p = e in taken q p (size-some q is) same

  pub some-picked : (asked : Asked) (p : Pick) → picked runs asked rule ≡ Some p → 1 ≤ p.take
  some-picked Full p is = full-some p is
  some-picked LevelZero p is = either-some p (by_size runs rule) refl is
  some-picked No p is = size-some p is
