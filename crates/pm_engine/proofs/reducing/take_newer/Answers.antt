use Rattle.std.proofs.Common.{List, length, get_or, ap, ◌∙◌, arith}
use Rattle.std.proofs.lemmas.List.{length-set}
use Rattle.pm_values.specs.declared.record.Stamped.{Stamped}
use Rattle.pm_engine.specs.Needed.{raised}
use Rattle.pm_engine.proofs.PickLemmas.{blank, replaced-as_many, replaced-front, replaced-later}
use Rattle.pm_engine.proofs.reducing.take_newer.Goals as goal

pub copy_back-requires-clause-within : goal.copy_back-requires-clause-within
copy_back-requires-clause-within c =
    let rows : List Stamped = c.args.rows.now in
    let as_many = ap (λ (ss : List Stamped). length ss) (c.raise.ensures blank) ∙ length-set rows c.args.newer (raised (get_or rows c.args.older blank).seq (get_or rows c.args.newer blank)) in
    omega (arith, as_many, c.requires.within)

pub returns-clause-front : goal.returns-clause-front
returns-clause-front c none =
    let rows : List Stamped = c.args.rows.now in
    replaced-front rows c.raise.new.self c.copy_back.new.self c.args.older c.args.newer _ none c.requires.before c.requires.within (c.raise.ensures none) (c.copy_back.ensures none)

pub returns-clause-later : goal.returns-clause-later
returns-clause-later c =
    let rows : List Stamped = c.args.rows.now in
    replaced-later rows c.raise.new.self c.copy_back.new.self c.args.older c.args.newer _ blank c.requires.before (c.raise.ensures blank) (c.copy_back.ensures blank)

pub returns-clause-as_many : goal.returns-clause-as_many
returns-clause-as_many c =
    let rows : List Stamped = c.args.rows.now in
    replaced-as_many rows c.raise.new.self c.copy_back.new.self c.args.older c.args.newer _ blank (c.raise.ensures blank) (c.copy_back.ensures blank)
