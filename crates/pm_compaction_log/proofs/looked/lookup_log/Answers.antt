use Rattle.std.proofs.Common.{◌≡◌, ◌∷◌, [], ◌++◌, Option, is_none, true, false, map, refl, sym, ap, ◌∙◌, arith}
use Rattle.std.proofs.lemmas.Result.{err_from_is_err_and}
use Rattle.pm_values.specs.declared.record.Stamped.{Stamped}
use Rattle.pm_model_following.specs.Following.{leaves_out_equal}
use Rattle.pm_merge.specs.Merging.{GivesLeast, runs_in}
use Rattle.pm_lookup.specs.Lookup.{looked_in}
use Rattle.pm_compaction_log.proofs.BesideLemmas.{FoundBoth, both-later, finds-both, found-looked}
use Rattle.pm_compaction_log.proofs.GivenLemmas.{are-rising, given-below}
use Rattle.pm_compaction_log.proofs.OlderLemmas.{beside-judged, beside-more, beside-none}
use Rattle.pm_compaction_log.proofs.PlaceLemmas.{none-stands, some-stands}
use Rattle.pm_compaction_log.proofs.SoFarLemmas.{so-far-all, so-far-more, so-far-next, so-far-none}
use Rattle.pm_compaction_log.proofs.looked.lookup_log.Goals as goal

pub loop-slot-init : goal.loop-slot-init
loop-slot-init g c =
    let m = g.E.MergeEngine.meaning c.args.engine.now in
    let s = c.args.schema.now in
    let first = map g.S.RowSource.rest c.args.newer.items in
    let beside = map g.S.RowSource.rest c.args.beside.items in
    record {
      so_far = (
        [],
        first,
        so-far-none m (leaves_out_equal s s.options.engine) (FoundBoth m s (looked_in c.args.under.now) beside) first c.none-log.result c.none-log.ensures,
        c.in_ok-merging.ensures.left m,
        beside,
        beside-none m beside,
        c.in_ok-nearer.ensures m,
      );
      same = refl;
      opened = c.requires.opened;
      none = c.in_ok-slot.ensures.ok ∙ c.new.ensures;
    }

-- no row is left
pub returns-then-is_none-clause-log : goal.returns-then-is_none-clause-log
returns-then-is_none-clause-log g c = λ same old with stored own.
    let m = g.E.MergeEngine.meaning c.args.engine.now in
    let s = c.args.schema.now in
    let out = leaves_out_equal s s.options.engine in
    let first = map g.S.RowSource.rest c.args.newer.items in
    let beside = map g.S.RowSource.rest c.args.beside.items in
    let files = looked_in c.args.under.now in
    let over : is_none c.fill.new.slot.value ≡ true = ap (λ (p : Option Stamped). is_none p) (sym c.deref.ensures) ∙ sym c.is_none.ensures ∙ c.if-is_none.true in
    let none = none-stands c.fill.new.slot.value over in
    let (run, left, far, has, rests, near, are) = c.loop-slot.invariant.so_far in
    let (later, gives, new) = c.in_ok-fill.ensures.gives left has in
    let ended = rw none at gives in
    so-far-all m out (FoundBoth m s files beside) first c.keys_law.ensures run left c.loop-slot.log far (c.given_law.ensures.all m first left run c.requires.rising far.gave ended.0) s (old ++ runs_in beside) same refl
    (finds-both c.old_value_law.ensures.stored m s files old beside same with stored) own

pub returns-then-is_none-clause-looks : goal.returns-then-is_none-clause-looks
returns-then-is_none-clause-looks g c =
    let m = g.E.MergeEngine.meaning c.args.engine.now in
    let s = c.args.schema.now in
    let beside = map g.S.RowSource.rest c.args.beside.items in
    let files = looked_in c.args.under.now in
    let over : is_none c.fill.new.slot.value ≡ true = ap (λ (p : Option Stamped). is_none p) (sym c.deref.ensures) ∙ sym c.is_none.ensures ∙ c.if-is_none.true in
    let none = none-stands c.fill.new.slot.value over in
    let (run, left, far, has, rests, near, are) = c.loop-slot.invariant.so_far in
    let (later, gives, new) = c.in_ok-fill.ensures.gives left has in
    let ended = rw none at gives in
    (run, left, record { gave = far.gave; found = found-looked m s files beside run far.found }, ended.0)

-- the next row isn't known
pub returns-in_err-fill-clause-refuses : goal.returns-in_err-fill-clause-refuses
returns-in_err-fill-clause-refuses g c =
    let m = g.E.MergeEngine.meaning c.args.engine.now in
    let first = map g.S.RowSource.rest c.args.newer.items in
    let p = err_from_is_err_and c.from_residual-in_err-fill.result c.from_residual-in_err-fill.ensures.1 in
    let e = c.in_err-fill.field-0.0 in
    let (run, left, far, has, rests, near, are) = c.loop-slot.invariant.so_far in
    rw (p.1, p.2) (λ other. absurd (other (c.given_law.ensures.memory m first left run e far.gave c.requires.judged (λ other. c.in_err-fill.ensures.refuses other left has))))

-- the next row's key may come next
pub tell_looked-requires : goal.tell_looked-requires
tell_looked-requires g c = λ w. (
  (refl, tt),
  (
    c.loop-slot.invariant.opened,
    λ x stands.
        let m = g.E.MergeEngine.meaning c.args.engine.now in
        let s = c.args.schema.now in
        let first = map g.S.RowSource.rest c.args.newer.items in
        let beside = map g.S.RowSource.rest c.args.beside.items in
        let (run, left, far, has, rests, near, are) = c.loop-slot.invariant.so_far in
        let (later, gives, new) = c.in_ok-fill.ensures.gives left has in
        let least : GivesLeast m left x later = rw stands at gives in
        so-far-next m (leaves_out_equal s s.options.engine) (FoundBoth m s (looked_in c.args.under.now) beside) first run left later c.loop-slot.log x c.requires.rising far least,
  ),
)

-- one row more
pub loop-slot-preserved : goal.loop-slot-preserved
loop-slot-preserved g c =
    let m = g.E.MergeEngine.meaning c.args.engine.now in
    let s = c.args.schema.now in
    let out = leaves_out_equal s s.options.engine in
    let first = map g.S.RowSource.rest c.args.newer.items in
    let beside = map g.S.RowSource.rest c.args.beside.items in
    let files = looked_in c.args.under.now in
    let some : is_none c.fill.new.slot.value ≡ false = ap (λ (p : Option Stamped). is_none p) (sym c.deref.ensures) ∙ sym c.is_none.ensures ∙ c.if-is_none.false in
    let (x, stands) = some-stands c.fill.new.slot.value some in
    let (run, left, far, has, rests, near, are) = c.loop-slot.invariant.so_far in
    let (later, gives, new) = c.in_ok-fill.ensures.gives left has in
    let least : GivesLeast m left x later = rw stands at gives in
    let (old, rest, are_now, both, adds) = c.in_ok-tell_looked.ensures.tells x rests stands are in
    let (seen_far, seen_near, looked, found, one) = rw c.loop-slot.invariant.same at both in
    let below = given-below m first left later run x (are-rising first c.requires.rising) far.gave least in
    let more = c.given_law.ensures.more m first left later run x far.gave least in
    record {
      so_far = (
        run ++ x ∷ [],
        later,
        so-far-more m out (FoundBoth m s files beside) first run left later c.loop-slot.log _ x old more far least
            (both-later m s files beside x.key run rests old rest near below (seen_far, seen_near, looked, found, one)) adds,
        new,
        rest,
        beside-more m beside run x rests seen_near rest near found,
        are_now,
      );
      same = c.in_ok-tell_looked.ensures.same ∙ c.loop-slot.invariant.same;
      opened = c.tell_looked.ensures.opened;
      none = c.in_ok-tell_looked.ensures.none;
    }

-- a file is looked in that doesn't read
pub returns-in_err-tell_looked-clause-refuses : goal.returns-in_err-tell_looked-clause-refuses
returns-in_err-tell_looked-clause-refuses g c =
    let m = g.E.MergeEngine.meaning c.args.engine.now in
    let s = c.args.schema.now in
    let beside = map g.S.RowSource.rest c.args.beside.items in
    let files = looked_in c.args.under.now in
    let p = err_from_is_err_and c.from_residual-in_err-tell_looked.result c.from_residual-in_err-tell_looked.ensures.1 in
    let some : is_none c.fill.new.slot.value ≡ false = ap (λ (p : Option Stamped). is_none p) (sym c.deref.ensures) ∙ sym c.is_none.ensures ∙ c.if-is_none.false in
    let (x, stands) = some-stands c.fill.new.slot.value some in
    let (run, left, far, has, rests, near, are) = c.loop-slot.invariant.so_far in
    let (later, gives, new) = c.in_ok-fill.ensures.gives left has in
    let least : GivesLeast m left x later = rw stands at gives in
    rw (p.1, p.2)
    (λ other. (
      run,
      left,
      record { gave = far.gave; found = found-looked m s files beside run far.found },
      x,
      later,
      least,
      rw c.loop-slot.invariant.same at (c.in_err-tell_looked.ensures.refuses other x rests stands are (beside-judged m beside run rests near c.requires.judged_beside)),
    ))

-- a row went
pub loop-slot-smaller : goal.loop-slot-smaller
loop-slot-smaller g c =
    let some : is_none c.fill.new.slot.value ≡ false = ap (λ (p : Option Stamped). is_none p) (sym c.deref.ensures) ∙ sym c.is_none.ensures ∙ c.if-is_none.false in
    let (x, stands) = some-stands c.fill.new.slot.value some in
    let fewer = rw stands at c.in_ok-fill.ensures.fewer in
    omega (arith, fewer)
