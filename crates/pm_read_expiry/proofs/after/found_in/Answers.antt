use Rattle.std.proofs.Common.{ℕ, ℤ, List, SFits, w64, refl, rules, subst, ap, ◌∙◌}
use Rattle.std.proofs.lemmas.Int.{to_z-of_z}
use Rattle.pm_expire_end.specs.Expiry.{expire_end_of}
use Rattle.pm_read_expiry.specs.Times.{IsChain}
use Rattle.pm_read_expiry.proofs.after.found_in.Goals as goal

pub returns : goal.returns
returns c =
    let chain = c.last_chain-chain.result.now in
    let now = c.args.listed.asking.now in
    let fits : SFits w64 now = search rules in
    record {
      chain = chain;
      is_chain = subst (λ (all : List (ℕ × ℤ)). IsChain all chain) c.as_slice.ensures.value c.last_chain-chain.ensures;
      schema = refl;
      first = c.first_id-first.ensures;
      last = c.last_id-last.ensures;
      end = c.expire_end-end.ensures ∙ ap (λ (z : ℤ). expire_end_of chain c.args.listed.asking.keep z c.args.next) (to_z-of_z w64 now fits);
      floors = refl;
    }
