use Rattle.std.proofs.Common.{◌≡◌, Bool, None, sym, subst}
use Rattle.pm_input.specs.Judge.{exceeded_by}
use Rattle.pm_input.proofs.JudgeLemmas.{line_within, line_first, line_room}
use Rattle.pm_input.proofs.judge.judge_line.Goals as goal

pub returns-in-Some-clause-first : goal.returns-in-Some-clause-first
returns-in-Some-clause-first c =
    λ lines rest is_room within. line_first c.args.limits.now c.args.room.now lines c.args.line.now.bytes.items rest c.in-Some.which c.args.line.now.ended is_room within c.requires (sym c.in-Some.ensures)

pub returns-in-None-clause-within : goal.returns-in-None-clause-within
returns-in-None-clause-within c =
    λ lines is_room within. line_within c.args.limits.now c.args.room.now lines c.args.line.now.bytes.items c.args.line.now.ended is_room within c.requires (sym c.in-None.ensures)

pub returns-in-None-clause-room : goal.returns-in-None-clause-room
returns-in-None-clause-room c =
    λ lines is_room ended. line_room c.args.limits.now c.args.room.now c.room_after.result.room lines c.args.line.now.bytes.items is_room c.requires
    (subst (λ (t : Bool). exceeded_by c.args.limits.now c.args.room.now c.args.line.now.bytes.items t ≡ None) ended (sym c.in-None.ensures))
    (rw c.deref.ensures.value at c.room_after.ensures.rows) (rw c.deref.ensures.value at c.room_after.ensures.bytes)
