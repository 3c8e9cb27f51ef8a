use Rattle.std.proofs.Common.{◌≡◌, None, [], map, refl, subst, sym, arith}
use Rattle.std.proofs.lemmas.List.{nil_from_length}
use Rattle.pm_merge.specs.Merging.{HaveNoRow, first_refusal}
use Rattle.pm_merge.proofs.merging.only.Goals as goal

-- there is one
pub returns-in-Some-clause-left : goal.returns-in-Some-clause-left
returns-in-Some-clause-left g c m =
    let none : c.pop.new.self.items ≡ [] = nil_from_length c.pop.new.self.items (omega (arith, c.pop.new.self.ok, c.in-Some.ensures.cases, c.requires)) in
    rw (c.in-Some.ensures.items, none) refl

-- there is none
pub returns-clause-left : goal.returns-clause-left
returns-clause-left g c m =
    let none : c.args.sources.items ≡ [] = nil_from_length c.args.sources.items (omega (arith, c.args.sources.ok, c.in-None.ensures.cases)) in
    subst (λ ss. HaveNoRow (map g.S.RowSource.rest ss) × (first_refusal (map g.S.RowSource.rest ss) ≡ None)) (sym none) (tt, refl)

pub returns-in-Some-clause-fits : goal.returns-in-Some-clause-fits
returns-in-Some-clause-fits g c table all =
    let none : c.pop.new.self.items ≡ [] = nil_from_length c.pop.new.self.items (omega (arith, c.pop.new.self.ok, c.in-Some.ensures.cases, c.requires)) in
    (rw (c.in-Some.ensures.items, none) at all).0
