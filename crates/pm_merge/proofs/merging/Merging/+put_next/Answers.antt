use Rattle.std.proofs.Common.{◌≡◌, None, Ok, ap}
use Rattle.std.specs.Prelude.{Err}
use Rattle.std.proofs.lemmas.Result.{err_from_is_err_and}
use Rattle.pm_merge.specs.Merging.{AllFit, HasLeft}
use Rattle.pm_merge.proofs.MergingLemmas.{Knows, knows_after, knows_same, newer_refuses, none_stands, older_refuses, source_gives, source_leaves, source_refuses, two_give}
use Rattle.pm_merge.proofs.merging.Merging.+put_next.Goals as goal
use Rattle.pm_merge.proofs.merging.Merging.+put_next.Goals.{then-is_empty+in_ok-put_next-in-Two, else-is_empty, then-is_empty-2+in_ok-put_next-in-Two-2, else-is_empty-2}

-- one source
pub returns-in-Ok-clause-gives : goal.returns-in-Ok-clause-gives
returns-in-Ok-clause-gives g t c =
    rw c.in-One.is (source_gives (g.E.MergeEngine.meaning c.args.engine.now) (Ok tt) (g.S.RowSource.rest c.in-One.source) (g.S.RowSource.rest c.fill.new.self) (g.P.RowPlace.held c.fill.new.slot) (rw c.in-Ok.is at c.fill.ensures.fills))

pub returns-in-Err-clause-refuses : goal.returns-in-Err-clause-refuses
returns-in-Err-clause-refuses g t c =
    rw c.in-One.is (source_refuses (Err c.in-Err.refusal) (g.S.RowSource.rest c.in-One.source) (g.S.RowSource.rest c.fill.new.self) (g.P.RowPlace.held c.fill.new.slot) (rw c.in-Err.is at c.fill.ensures.fills))

pub returns-in-Err-clause-leaves : goal.returns-in-Err-clause-leaves
returns-in-Err-clause-leaves g t c =
    source_leaves (Err c.in-Err.refusal) (g.S.RowSource.rest c.in-One.source) (g.S.RowSource.rest c.fill.new.self) (g.P.RowPlace.held c.fill.new.slot) (rw c.in-Err.is at c.fill.ensures.fills)

-- the older side refuses
pub returns-in_err-put_next-in-Two-clause-refuses : goal.returns-in_err-put_next-in-Two-clause-refuses
returns-in_err-put_next-in-Two-clause-refuses g t c =
    let m = g.E.MergeEngine.meaning c.args.engine.now in
    let p = err_from_is_err_and c.from_residual.result c.from_residual.ensures.1 in
    let none : g.P.RowPlace.held c.in-Two.first_older.value ≡ None = none_stands (g.P.RowPlace.held c.in-Two.first_older.value) c.is_empty.result (rw c.deref.ensures at c.is_empty.ensures) c.if-is_empty.true in
    rw (p.1, c.in-Two.is)
    (λ other. older_refuses m (HasLeft m g.P.RowPlace.held g.S.RowSource.rest c.in-Two.older.value) (HasLeft m g.P.RowPlace.held g.S.RowSource.rest c.in-Two.older.value)
    (HasLeft m g.P.RowPlace.held g.S.RowSource.rest c.in-Two.newer.value) (HasLeft m g.P.RowPlace.held g.S.RowSource.rest c.in-Two.newer.value)
    (g.P.RowPlace.held c.in-Two.first_older.value) (g.P.RowPlace.held c.in-Two.first_newer.value) c.put_next.new.cause none (rw c.deref_mut.ensures.value at (c.in_err-put_next-in-Two.ensures.refuses other)))

-- the newer side refuses
pub returns-in_err-put_next-in-Two-2-clause-refuses : goal.returns-in_err-put_next-in-Two-2-clause-refuses
returns-in_err-put_next-in-Two-2-clause-refuses g t c =
    let m = g.E.MergeEngine.meaning c.args.engine.now in
    let p = err_from_is_err_and c.from_residual-in_err-put_next-in-Two-2.result c.from_residual-in_err-put_next-in-Two-2.ensures.1 in
    let none : g.P.RowPlace.held c.in-Two.first_newer.value ≡ None = none_stands (g.P.RowPlace.held c.in-Two.first_newer.value) c.is_empty-in-Two.result (rw c.deref-in-Two.ensures at c.is_empty-in-Two.ensures) c.if-is_empty-2.true in
    let knows : Knows m (g.P.RowPlace.held c.in-Two.first_older.value) (HasLeft m g.P.RowPlace.held g.S.RowSource.rest c.in-Two.older.value) (g.P.RowPlace.held c.if-is_empty.first_older.value)
    (HasLeft m g.P.RowPlace.held g.S.RowSource.rest c.if-is_empty.self.1.1.0.value) =
    elim c.if-is_empty.branch [
      | then-is_empty+in_ok-put_next-in-Two w ↦
          rw (ap (λ s. s.1.1.0) w.self-is, w.first_older-is)
          (knows_after m (g.P.RowPlace.held c.in-Two.first_older.value) (g.P.RowPlace.held w.put_next.new.slot.value) (HasLeft m g.P.RowPlace.held g.S.RowSource.rest c.in-Two.older.value)
          (HasLeft m g.P.RowPlace.held g.S.RowSource.rest w.put_next.new.self) (HasLeft m g.P.RowPlace.held g.S.RowSource.rest w.let_go.new.side.value)
          (none_stands (g.P.RowPlace.held c.in-Two.first_older.value) c.is_empty.result (rw c.deref.ensures at c.is_empty.ensures) w.if-is_empty.true) (rw w.deref_mut.ensures.value at w.in_ok-put_next-in-Two.ensures.gives) (w.let_go.ensures.left m))
      | else-is_empty w ↦
          rw (ap (λ s. s.1.1.0) w.self-is, w.first_older-is)
          (knows_same m (g.P.RowPlace.held c.in-Two.first_older.value) c.is_empty.result (HasLeft m g.P.RowPlace.held g.S.RowSource.rest c.in-Two.older.value) (rw c.deref.ensures at c.is_empty.ensures) w.if-is_empty.false)
    ] in
    rw (p.1, c.in-Two.is)
    (λ other. newer_refuses m (HasLeft m g.P.RowPlace.held g.S.RowSource.rest c.in-Two.older.value) (HasLeft m g.P.RowPlace.held g.S.RowSource.rest c.if-is_empty.self.1.1.0.value)
    (HasLeft m g.P.RowPlace.held g.S.RowSource.rest c.in-Two.newer.value) (HasLeft m g.P.RowPlace.held g.S.RowSource.rest c.in-Two.newer.value)
    (g.P.RowPlace.held c.in-Two.first_older.value) (g.P.RowPlace.held c.in-Two.first_newer.value) (g.P.RowPlace.held c.if-is_empty.first_older.value) c.put_next-then-is_empty-2.new.cause none knows
    (rw c.deref_mut-then-is_empty-2.ensures.value at (c.in_err-put_next-in-Two-2.ensures.refuses other)))

-- two sides
pub returns-in_ok-choose-in-Two-clause-gives : goal.returns-in_ok-choose-in-Two-clause-gives
returns-in_ok-choose-in-Two-clause-gives g t c =
    let m = g.E.MergeEngine.meaning c.args.engine.now in
    let knows : Knows m (g.P.RowPlace.held c.in-Two.first_older.value) (HasLeft m g.P.RowPlace.held g.S.RowSource.rest c.in-Two.older.value) (g.P.RowPlace.held c.if-is_empty.first_older.value)
    (HasLeft m g.P.RowPlace.held g.S.RowSource.rest c.if-is_empty.self.1.1.0.value) =
    elim c.if-is_empty.branch [
      | then-is_empty+in_ok-put_next-in-Two w ↦
          rw (ap (λ s. s.1.1.0) w.self-is, w.first_older-is)
          (knows_after m (g.P.RowPlace.held c.in-Two.first_older.value) (g.P.RowPlace.held w.put_next.new.slot.value) (HasLeft m g.P.RowPlace.held g.S.RowSource.rest c.in-Two.older.value)
          (HasLeft m g.P.RowPlace.held g.S.RowSource.rest w.put_next.new.self) (HasLeft m g.P.RowPlace.held g.S.RowSource.rest w.let_go.new.side.value)
          (none_stands (g.P.RowPlace.held c.in-Two.first_older.value) c.is_empty.result (rw c.deref.ensures at c.is_empty.ensures) w.if-is_empty.true) (rw w.deref_mut.ensures.value at w.in_ok-put_next-in-Two.ensures.gives) (w.let_go.ensures.left m))
      | else-is_empty w ↦
          rw (ap (λ s. s.1.1.0) w.self-is, w.first_older-is)
          (knows_same m (g.P.RowPlace.held c.in-Two.first_older.value) c.is_empty.result (HasLeft m g.P.RowPlace.held g.S.RowSource.rest c.in-Two.older.value) (rw c.deref.ensures at c.is_empty.ensures) w.if-is_empty.false)
    ] in
    let also : Knows m (g.P.RowPlace.held c.in-Two.first_newer.value) (HasLeft m g.P.RowPlace.held g.S.RowSource.rest c.in-Two.newer.value) (g.P.RowPlace.held c.if-is_empty-2.first_newer.value)
    (HasLeft m g.P.RowPlace.held g.S.RowSource.rest c.if-is_empty-2.self.1.1.1.0.value) =
    elim c.if-is_empty-2.branch [
      | then-is_empty-2+in_ok-put_next-in-Two-2 w ↦
          rw (ap (λ s. s.1.1.1.0) w.self-is, w.first_newer-is)
          (knows_after m (g.P.RowPlace.held c.in-Two.first_newer.value) (g.P.RowPlace.held w.put_next-then-is_empty-2.new.slot.value) (HasLeft m g.P.RowPlace.held g.S.RowSource.rest c.in-Two.newer.value)
          (HasLeft m g.P.RowPlace.held g.S.RowSource.rest w.put_next-then-is_empty-2.new.self) (HasLeft m g.P.RowPlace.held g.S.RowSource.rest w.let_go-then-is_empty-2.new.side.value)
          (none_stands (g.P.RowPlace.held c.in-Two.first_newer.value) c.is_empty-in-Two.result (rw c.deref-in-Two.ensures at c.is_empty-in-Two.ensures) w.if-is_empty-2.true) (rw w.deref_mut-then-is_empty-2.ensures.value at w.in_ok-put_next-in-Two-2.ensures.gives)
          (w.let_go-then-is_empty-2.ensures.left m))
      | else-is_empty-2 w ↦
          rw (ap (λ s. s.1.1.1.0) w.self-is, w.first_newer-is)
          (knows_same m (g.P.RowPlace.held c.in-Two.first_newer.value) c.is_empty-in-Two.result (HasLeft m g.P.RowPlace.held g.S.RowSource.rest c.in-Two.newer.value)
          (rw c.deref-in-Two.ensures at c.is_empty-in-Two.ensures) w.if-is_empty-2.false)
    ] in
    rw c.in-Two.is
    (two_give m (HasLeft m g.P.RowPlace.held g.S.RowSource.rest c.in-Two.older.value) (HasLeft m g.P.RowPlace.held g.S.RowSource.rest c.if-is_empty.self.1.1.0.value)
    (HasLeft m g.P.RowPlace.held g.S.RowSource.rest c.in-Two.newer.value) (HasLeft m g.P.RowPlace.held g.S.RowSource.rest c.if-is_empty-2.self.1.1.1.0.value)
    (g.P.RowPlace.held c.in-Two.first_older.value) (g.P.RowPlace.held c.in-Two.first_newer.value) (g.P.RowPlace.held c.if-is_empty.first_older.value) (g.P.RowPlace.held c.if-is_empty-2.first_newer.value)
    (g.P.RowPlace.held c.choose.new.slot.value) (g.P.RowPlace.held c.choose.new.older.value) (g.P.RowPlace.held c.choose.new.newer.value) knows also c.in_ok-choose-in-Two.ensures.chooses)

-- one source's places
pub returns-in-Ok-clause-fits : goal.returns-in-Ok-clause-fits
returns-in-Ok-clause-fits g t c =
    rw c.in-One.is (λ table place all.
    let (source, after) = (rw c.in-Ok.is at c.fill.ensures.fits) table all (rw c.as_mut.ensures.value place) in
    (after, source))

-- those of two sides
pub returns-in_ok-choose-in-Two-clause-fits : goal.returns-in_ok-choose-in-Two-clause-fits
returns-in_ok-choose-in-Two-clause-fits g t c =
    rw c.in-Two.is (λ table place all.
    let older : g.P.RowPlace.fits c.if-is_empty.first_older.value table × AllFit (λ p. g.P.RowPlace.fits p table) (λ s. g.S.RowSource.fits s table) c.if-is_empty.self.1.1.0.value =
    elim c.if-is_empty.branch [
      | then-is_empty+in_ok-put_next-in-Two w ↦
          rw (ap (λ s. s.1.1.0) w.self-is, w.first_older-is)
          (let h = (rw w.deref_mut.ensures.value at w.in_ok-put_next-in-Two.ensures.fits) table all.0.0 all.0.1 in (h.0, w.let_go.ensures.fits table h.1))
      | else-is_empty w ↦ rw (ap (λ s. s.1.1.0) w.self-is, w.first_older-is) all.0
    ] in
    let newer : g.P.RowPlace.fits c.if-is_empty-2.first_newer.value table × AllFit (λ p. g.P.RowPlace.fits p table) (λ s. g.S.RowSource.fits s table) c.if-is_empty-2.self.1.1.1.0.value =
    elim c.if-is_empty-2.branch [
      | then-is_empty-2+in_ok-put_next-in-Two-2 w ↦
          rw (ap (λ s. s.1.1.1.0) w.self-is, w.first_newer-is)
          (let h = (rw w.deref_mut-then-is_empty-2.ensures.value at w.in_ok-put_next-in-Two-2.ensures.fits) table all.1.0 all.1.1 in (h.0, w.let_go-then-is_empty-2.ensures.fits table h.1))
      | else-is_empty-2 w ↦ rw (ap (λ s. s.1.1.1.0) w.self-is, w.first_newer-is) all.1
    ] in
    let chosen = c.in_ok-choose-in-Two.ensures.fits table place older.0 newer.0 in
    (chosen.0, ((chosen.1, older.1), (chosen.2, newer.1))))
