use Rattle.std.proofs.Common.{Vec, ap, sym, subst, reverse, List, ℕ, ◌∙◌}
use Rattle.std.specs.Global.{Global}
use Rattle.std.specs.List.{All}
use Rattle.pm_engine.specs.Covers.{IsRising, Run}
use Rattle.pm_scan_rows.specs.Group.{reads_of, runs_read}
use Rattle.pm_scan_rows.specs.declared.read_group.ReadGroup.{ReadGroup}
use Rattle.pm_group_files.proofs.RowLemmas.{all_rising_push, group_put, none_rising, rising_reversed}
use Rattle.pm_group_files.proofs.collected.Collected.close_group.Goals as goal

pub invariant_of-self : goal.invariant_of-self
invariant_of-self c = record {
  groups = subst (λ (gs : List ReadGroup). All (All IsRising) (runs_read (reads_of gs))) (sym c.in_err-push.ensures.items) c.self.invariant.groups;
  runs = subst (All IsRising) (sym (ap (λ (v : Vec Run Global). v.items) c.replace-runs.ensures.after ∙ c.new.ensures.items)) none_rising;
  rows = c.self.invariant.rows;
}

pub invariant_of-self-2 : goal.invariant_of-self-2
invariant_of-self-2 c = record {
  groups = all_rising_push c.self.inside.groups.items c.push.new.self.items _ c.in_ok-push.ensures.items c.self.invariant.groups
      (subst (All IsRising) (sym c.reverse.ensures.items) (rising_reversed c.replace-runs.result.items
      (subst (λ (v : Vec Run Global). All IsRising v.items) (sym c.replace-runs.ensures.value) c.self.invariant.runs)));
  runs = subst (All IsRising) (sym (ap (λ (v : Vec Run Global). v.items) c.replace-runs.ensures.after ∙ c.new.ensures.items)) none_rising;
  rows = c.self.invariant.rows;
}

pub returns : goal.returns
returns c =
    group_put c.args.self.now c.self.inside.schema c.self.inside.groups.items c.push.new.self.items c.self.inside.runs.items
    c.replace-runs.new.dest.items c.self.inside.kept.items c.replace-kept.new.dest.items c.self.inside.run _ (sym c.self.view_is)
    (c.reverse.ensures.items ∙ ap (λ (v : Vec Run Global). reverse v.items) c.replace-runs.ensures.value)
    (ap (λ (v : Vec (List ℕ) Global). v.items) c.replace-kept.ensures.value) c.in_ok-push.ensures.items
    (ap (λ (v : Vec Run Global). v.items) c.replace-runs.ensures.after ∙ c.new.ensures.items)
    (ap (λ (v : Vec (List ℕ) Global). v.items) c.replace-kept.ensures.after ∙ c.new-2.ensures.items)
