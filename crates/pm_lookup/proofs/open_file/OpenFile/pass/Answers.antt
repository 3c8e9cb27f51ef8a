use Rattle.std.proofs.Common.{◌≡◌, Some, false, sym, ap, subst, ◌∙◌}
use Rattle.pm_lookup.specs.File.{ComesTo, HoldsAt, stops_in}
use Rattle.pm_lookup.specs.Looking.{IsBlockAt, reaches}
use Rattle.pm_lookup.proofs.LookLemmas.{comes_further, further}
use Rattle.pm_lookup.proofs.open_file.OpenFile.pass.Goals as goal

pub returns-in-Some-clause-known : goal.returns-in-Some-clause-known
returns-in-Some-clause-known c =
    let o = c.args.self.now.reader.opened in
    let h = c.in-Some.held in
    let held : c.args.self.now.held ≡ Some h = (let a = c.in-Some.ensures.value in cc) in
    let block : IsBlockAt o c.args.self.now.begins h.rows.items h.next = subst (HoldsAt o c.args.self.now.begins) held c.requires.known.holds in
    let below : reaches c.args.key.now h.rows.items ≡ false = sym (ap (stops_in c.args.key.now) held) ∙ c.requires.below in
    record {
      within = (further o c.args.self.now.begins h.rows.items h.next block).1;
      holds = subst (HoldsAt o h.next) (sym c.in-Some.ensures.after) tt;
      came = subst (λ k. ComesTo o k h.next) (sym c.in_ok-passed.ensures) (comes_further o c.args.key.now c.args.self.now.begins h.rows.items h.next c.requires.comes block below);
    }

pub returns-in-Some-clause-comes : goal.returns-in-Some-clause-comes
returns-in-Some-clause-comes c =
    let o = c.args.self.now.reader.opened in
    let h = c.in-Some.held in
    let held : c.args.self.now.held ≡ Some h = (let a = c.in-Some.ensures.value in cc) in
    let block : IsBlockAt o c.args.self.now.begins h.rows.items h.next = subst (HoldsAt o c.args.self.now.begins) held c.requires.known.holds in
    let below : reaches c.args.key.now h.rows.items ≡ false = sym (ap (stops_in c.args.key.now) held) ∙ c.requires.below in
    comes_further o c.args.key.now c.args.self.now.begins h.rows.items h.next c.requires.comes block below

pub returns-in-Some-clause-further : goal.returns-in-Some-clause-further
returns-in-Some-clause-further c =
    let o = c.args.self.now.reader.opened in
    let h = c.in-Some.held in
    let held : c.args.self.now.held ≡ Some h = (let a = c.in-Some.ensures.value in cc) in
    (further o c.args.self.now.begins h.rows.items h.next (subst (HoldsAt o c.args.self.now.begins) held c.requires.known.holds)).0
