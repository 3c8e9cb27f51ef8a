use Rattle.std.proofs.Common.{ℕ, [], refl, ap, inl, arith}
use Rattle.pm_compact.proofs.RewriteLemmas.{kept_none}
use Rattle.pm_compact.proofs.rewriting.Rewriting.begin.Goals as goal

pub returns-clause-none : goal.returns-clause-none
returns-clause-none g c = λ m. record {
  rising = c.requires.rising;
  run = [];
  left = _;
  gave = refl;
  has = c.in_ok-of.ensures.left m;
  written = c.in_ok-of.ensures.fits c.args.schema.now c.requires.form;
  filed = [];
  same = kept_none m c.args.drop;
  files = refl;
  full = inl tt;
  named = ap (λ (n : ℕ). record c.args.names.now { count = n }) (omega arith);
  hand = c.in_ok-begin.ensures.none;
  drops = refl;
}
