use Rattle.std.proofs.Common.{◌≡◌, ◌++◌, ◌-◌}
use Rattle.pm_draws.specs.Draws.{drawn_text, last_draw}
use Rattle.pm_draws.proofs.draws.Draws.batch.Given as goal

-- the text has the rows up to this one, and the numbers go on from the last one
abbrev pub invariant-loop-row : goal.invariant-loop-row
invariant-loop-row l =
    (drawn_text l.initial.self-inside.last l.rows ≡ l.text.items ++ drawn_text l.self-inside.last (l.rows - l._row))
    × (last_draw l.initial.self-inside.last l.rows ≡ last_draw l.self-inside.last (l.rows - l._row))
