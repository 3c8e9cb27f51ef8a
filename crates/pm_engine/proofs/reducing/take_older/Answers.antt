use Rattle.std.proofs.Common.{◌+◌, List, take, drop, length, get_or, ap, ◌∙◌, arith}
use Rattle.std.proofs.lemmas.List.{length-set, take_more_set, drop-set-lt}
use Rattle.pm_values.specs.declared.record.Stamped.{Stamped}
use Rattle.pm_engine.specs.Needed.{raised}
use Rattle.pm_engine.proofs.PickLemmas.{blank}
use Rattle.pm_engine.proofs.reducing.take_older.Goals as goal

pub returns-clause-front : goal.returns-clause-front
returns-clause-front c none =
    let rows : List Stamped = c.args.rows.now in
    let more : Stamped = raised (get_or rows c.args.newer none).seq (get_or rows c.args.older none) in
    ap (λ (ss : List Stamped). take (c.args.older + 1) ss) (c.raise.ensures none) ∙ take_more_set rows c.args.older more (omega (arith, c.requires.before, c.requires.within))

pub returns-clause-later : goal.returns-clause-later
returns-clause-later c =
    let rows : List Stamped = c.args.rows.now in
    let none : Stamped = blank in
    let more : Stamped = raised (get_or rows c.args.newer none).seq (get_or rows c.args.older none) in
    ap (λ (ss : List Stamped). drop (c.args.newer + 1) ss) (c.raise.ensures none) ∙ drop-set-lt (c.args.newer + 1) rows c.args.older more (omega (arith, c.requires.before))

pub returns-clause-as_many : goal.returns-clause-as_many
returns-clause-as_many c =
    let rows : List Stamped = c.args.rows.now in
    let none : Stamped = blank in
    let more : Stamped = raised (get_or rows c.args.newer none).seq (get_or rows c.args.older none) in
    ap (λ (ss : List Stamped). length ss) (c.raise.ensures none) ∙ length-set rows c.args.older more
