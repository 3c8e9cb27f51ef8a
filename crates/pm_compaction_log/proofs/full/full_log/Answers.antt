use Rattle.std.proofs.Common.{◌≡◌, ◌∷◌, [], ◌++◌, Option, is_none, true, false, map, refl, sym, ap, ◌∙◌, arith}
use Rattle.std.proofs.lemmas.Result.{err_from_is_err_and}
use Rattle.pm_values.specs.declared.record.Stamped.{Stamped}
use Rattle.pm_model_following.specs.Following.{leaves_out_equal}
use Rattle.pm_merge.specs.Merging.{GivesLeast, runs_in}
use Rattle.pm_compaction_log.proofs.GivenLemmas.{are-rising, given-below}
use Rattle.pm_compaction_log.proofs.OlderLemmas.{beside-finds, beside-judged, beside-more, beside-none}
use Rattle.pm_compaction_log.proofs.PlaceLemmas.{none-stands, some-stands}
use Rattle.pm_compaction_log.proofs.SoFarLemmas.{FindsIn, finds-in-stored, so-far-all, so-far-more, so-far-next, so-far-none}
use Rattle.pm_compaction_log.proofs.full.full_log.Goals as goal

pub loop-slot-init : goal.loop-slot-init
loop-slot-init g c =
    let m = g.E.MergeEngine.meaning c.args.engine.now in
    let s = c.args.schema.now in
    let first = map g.S.RowSource.rest c.args.newer.items in
    let olders = map g.S.RowSource.rest c.args.older.items in
    record {
      so_far = (
        [],
        first,
        so-far-none m (leaves_out_equal s s.options.engine) (FindsIn m olders) first c.none-log.result c.none-log.ensures,
        c.in_ok-merging.ensures.left m,
        olders,
        beside-none m olders,
        c.in_ok-olders.ensures m,
      );
      none = c.in_ok-slot.ensures.ok ∙ c.new.ensures;
    }

-- the next row isn't known
pub returns-in_err-fill-clause-memory : goal.returns-in_err-fill-clause-memory
returns-in_err-fill-clause-memory g c =
    let m = g.E.MergeEngine.meaning c.args.engine.now in
    let first = map g.S.RowSource.rest c.args.newer.items in
    let p = err_from_is_err_and c.from_residual-in_err-fill.result c.from_residual-in_err-fill.ensures.1 in
    let e = c.in_err-fill.field-0.0 in
    let (run, left, far, has, rests, beside, are) = c.loop-slot.invariant.so_far in
    rw (p.1, p.2) (c.given_law.ensures.memory m first left run e far.gave c.requires.judged (λ other. c.in_err-fill.ensures.refuses other left has))

-- no row is left
pub returns-then-is_none-clause-log : goal.returns-then-is_none-clause-log
returns-then-is_none-clause-log g c = λ same stored own.
    let m = g.E.MergeEngine.meaning c.args.engine.now in
    let s = c.args.schema.now in
    let out = leaves_out_equal s s.options.engine in
    let first = map g.S.RowSource.rest c.args.newer.items in
    let olders = map g.S.RowSource.rest c.args.older.items in
    let over : is_none c.fill.new.slot.value ≡ true = ap (λ (p : Option Stamped). is_none p) (sym c.deref.ensures) ∙ sym c.is_none.ensures ∙ c.if-is_none.true in
    let none = none-stands c.fill.new.slot.value over in
    let (run, left, far, has, rests, beside, are) = c.loop-slot.invariant.so_far in
    let (later, gives, new) = c.in_ok-fill.ensures.gives left has in
    let ended = rw none at gives in
    so-far-all m out (FindsIn m olders) first c.keys_law.ensures run left c.loop-slot.log far (c.given_law.ensures.all m first left run c.requires.rising far.gave ended.0) s (runs_in olders) same refl
    (finds-in-stored m s olders same stored) own

-- the next row's key may come next
pub tell_beside-requires : goal.tell_beside-requires
tell_beside-requires g c = λ w. (
  (refl, tt),
  λ x stands.
      let m = g.E.MergeEngine.meaning c.args.engine.now in
      let s = c.args.schema.now in
      let first = map g.S.RowSource.rest c.args.newer.items in
      let olders = map g.S.RowSource.rest c.args.older.items in
      let (run, left, far, has, rests, beside, are) = c.loop-slot.invariant.so_far in
      let (later, gives, new) = c.in_ok-fill.ensures.gives left has in
      let least : GivesLeast m left x later = rw stands at gives in
      so-far-next m (leaves_out_equal s s.options.engine) (FindsIn m olders) first run left later c.loop-slot.log x c.requires.rising far least,
)

-- one row more
pub loop-slot-preserved : goal.loop-slot-preserved
loop-slot-preserved g c =
    let m = g.E.MergeEngine.meaning c.args.engine.now in
    let s = c.args.schema.now in
    let out = leaves_out_equal s s.options.engine in
    let first = map g.S.RowSource.rest c.args.newer.items in
    let olders = map g.S.RowSource.rest c.args.older.items in
    let some : is_none c.fill.new.slot.value ≡ false = ap (λ (p : Option Stamped). is_none p) (sym c.deref.ensures) ∙ sym c.is_none.ensures ∙ c.if-is_none.false in
    let (x, stands) = some-stands c.fill.new.slot.value some in
    let (run, left, far, has, rests, beside, are) = c.loop-slot.invariant.so_far in
    let (later, gives, new) = c.in_ok-fill.ensures.gives left has in
    let least : GivesLeast m left x later = rw stands at gives in
    let (found, rest, are_now, finds, adds) = c.in_ok-tell_beside.ensures.tells x rests stands are in
    let below = given-below m first left later run x (are-rising first c.requires.rising) far.gave least in
    let more = c.given_law.ensures.more m first left later run x far.gave least in
    record {
      so_far = (
        run ++ x ∷ [],
        later,
        so-far-more m out (FindsIn m olders) first run left later c.loop-slot.log _ x found more far least (rest, beside-finds m olders x.key run rests found rest beside below finds) adds,
        new,
        rest,
        beside-more m olders run x rests found rest beside finds,
        are_now,
      );
      none = c.in_ok-tell_beside.ensures.none;
    }

-- an older row isn't known
pub returns-in_err-tell_beside-clause-memory : goal.returns-in_err-tell_beside-clause-memory
returns-in_err-tell_beside-clause-memory g c =
    let m = g.E.MergeEngine.meaning c.args.engine.now in
    let olders = map g.S.RowSource.rest c.args.older.items in
    let p = err_from_is_err_and c.from_residual-in_err-tell_beside.result c.from_residual-in_err-tell_beside.ensures.1 in
    let some : is_none c.fill.new.slot.value ≡ false = ap (λ (p : Option Stamped). is_none p) (sym c.deref.ensures) ∙ sym c.is_none.ensures ∙ c.if-is_none.false in
    let (x, stands) = some-stands c.fill.new.slot.value some in
    let (run, left, far, has, rests, beside, are) = c.loop-slot.invariant.so_far in
    rw (p.1, p.2) (c.in_err-tell_beside.ensures.memory x rests stands are (beside-judged m olders run rests beside c.requires.judged_older))

-- a row went
pub loop-slot-smaller : goal.loop-slot-smaller
loop-slot-smaller g c =
    let some : is_none c.fill.new.slot.value ≡ false = ap (λ (p : Option Stamped). is_none p) (sym c.deref.ensures) ∙ sym c.is_none.ensures ∙ c.if-is_none.false in
    let (x, stands) = some-stands c.fill.new.slot.value some in
    let fewer = rw stands at c.in_ok-fill.ensures.fewer in
    omega (arith, fewer)
