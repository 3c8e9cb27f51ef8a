-- How many groups are left as the first ones become files.
use Rattle.std.proofs.Common.{◌≡◌, ◌≢◌, suc, ◌≤◌, List, [], ◌∷◌, length, refl, sym, ap, ◌∙◌, arith}
use Rattle.pm_scan_rows.specs.Group.{GroupRead}
use Rattle.pm_choice.specs.declared.choice.ChosenGroup.{ChosenGroup}
use Rattle.pm_plan.specs.Planned.{RewritesFirst, RewritesOf}
use Rattle.pm_plan.specs.declared.planned.Planned.{Planned}

one-less : (old new : Planned) (x : GroupRead) (cs : List ChosenGroup) → old.left.items ≡ cs → RewritesOf cs old x new → length cs ≡ suc (length new.left.items)
one-less old new x [] left rewrites = absurd rewrites
one-less old new x (c ∷ cs) left rewrites = ap (λ (ds : List ChosenGroup). length ds) (sym left ∙ rewrites.first)

-- where one more is to be made, one is left
pub some-left : {X Y : Type 0} (xs rest : List X) (x : X) (left : List Y) → xs ≡ x ∷ rest → length xs ≤ length left → left ≢ []
some-left {X} {Y} xs rest x left is few none =
    let many : length xs ≡ suc (length rest) = ap (λ (ys : List X). length ys) is in
    let zero_left : length left ≡ 0 = ap (λ (ys : List Y). length ys) none in
    absurd (omega (arith, many, zero_left, few))

pub few-left : {X : Type 0} (xs rest : List X) (x : X) (old new : Planned) (read : GroupRead) → xs ≡ x ∷ rest → RewritesFirst old read new → length xs ≤ length old.left.items
    → length rest ≤ length new.left.items
few-left {X} xs rest x old new read is rewrites few =
    let many : length xs ≡ suc (length rest) = ap (λ (ys : List X). length ys) is in
    let less = one-less old new read old.left.items refl rewrites in
    omega (arith, many, less, few)
