use Rattle.std.proofs.Common.{◌≡◌, ℕ, ◌+◌, ◌<◌, [], ◌∷◌, ◌++◌, List, take, drop, length, get_or, ap, ◌∙◌, arith}
use Rattle.std.specs.List.{slice_set}
use Rattle.std.proofs.lemmas.List.{length-set, take-set-le, take_more_set, drop-set-lt}
use Rattle.std.proofs.lemmas.Result.{on_ok_weaker}
use Rattle.pm_values.specs.declared.record.Stamped.{Stamped}
use Rattle.pm_engine.proofs.reducing.keep.Goals as goal

pub set-requires : goal.set-requires
set-requires c =
    let none = c.args.row.now in
    let as_many = ap (length {A = Stamped}) (c.copy_back.ensures none) ∙ length-set c.args.rows.now c.args.count (get_or c.args.rows.now c.args.from none) in
    omega (arith, as_many, c.requires.before, c.requires.within)

pub returns-clause-front : goal.returns-clause-front
returns-clause-front c = on_ok_weaker c.set.result (λ (same : c.set.new.self ≡ slice_set c.copy_back.new.self c.args.count c.args.row.now).
    let rows : List Stamped = c.args.rows.now in
    let n : ℕ = c.args.count in
    let none : Stamped = c.args.row.now in
    let one : Stamped = get_or rows c.args.from none in
    let copied : c.copy_back.new.self ≡ slice_set rows n one = c.copy_back.ensures none in
    let inside : n < length (slice_set rows n one) = omega (arith, length-set rows n one, c.requires.before, c.requires.within) in
    ap (take (n + 1)) (same ∙ ap (λ (ss : List Stamped). slice_set ss n none) copied)
    ∙ take_more_set (slice_set rows n one) n none inside
    ∙ ap (λ (ss : List Stamped). ss ++ none ∷ []) (take-set-le n rows n one (omega arith))) c.set.ensures.set

pub returns-clause-later : goal.returns-clause-later
returns-clause-later c = on_ok_weaker c.set.result (λ (same : c.set.new.self ≡ slice_set c.copy_back.new.self c.args.count c.args.row.now).
    let rows : List Stamped = c.args.rows.now in
    let n : ℕ = c.args.count in
    let k : ℕ = c.args.from + 1 in
    let none : Stamped = c.args.row.now in
    let one : Stamped = get_or rows c.args.from none in
    ap (drop k) (same ∙ ap (λ (ss : List Stamped). slice_set ss n none) (c.copy_back.ensures none))
    ∙ drop-set-lt k (slice_set rows n one) n none (omega (arith, c.requires.before))
    ∙ drop-set-lt k rows n one (omega (arith, c.requires.before))) c.set.ensures.set

pub returns-clause-as_many : goal.returns-clause-as_many
returns-clause-as_many c = on_ok_weaker c.set.result (λ (same : c.set.new.self ≡ slice_set c.copy_back.new.self c.args.count c.args.row.now).
    let rows : List Stamped = c.args.rows.now in
    let n : ℕ = c.args.count in
    let none : Stamped = c.args.row.now in
    let one : Stamped = get_or rows c.args.from none in
    ap (length {A = Stamped}) (same ∙ ap (λ (ss : List Stamped). slice_set ss n none) (c.copy_back.ensures none))
    ∙ length-set (slice_set rows n one) n none
    ∙ length-set rows n one) c.set.ensures.set
