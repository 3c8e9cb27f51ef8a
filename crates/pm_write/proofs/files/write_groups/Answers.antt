use Rattle.std.proofs.Common.{◌+◌, map, refl, ap, subst, ◌∙◌, arith}
use Rattle.std.proofs.lemmas.List.{length-map}
use Rattle.pm_write.specs.Batch.{numbered}
use Rattle.pm_write.specs.Files.{IsNewFile, next_of, next_run}
use Rattle.pm_write.specs.Held.{all_groups, group_rows}
use Rattle.pm_write.specs.declared.held.HeldRows.{HeldRows}
use Rattle.pm_write.proofs.FileLemmas.{files_all, files_more, length_after, names_more, within_at}
use Rattle.pm_write.proofs.files.write_groups.Goals as goal

pub write_group-requires-clause-within : goal.write_group-requires-clause-within
write_group-requires-clause-within c =
    let groups = c.args.groups.now in
    let i = c.loop-held.held-index in
    let held = c.held-item.result in
    let next = c.args.next.now in
    let within = within_at next groups i held c.requires.within c.loop-held-test.true in
    let same = ap (λ (h : HeldRows). next_of next h.group + h.count) c.held-item.is in
    let number = c.next_of-first.ensures in
    omega arith

-- one group more has its file
pub loop-held-preserved : goal.loop-held-preserved
loop-held-preserved c =
    let groups = c.args.groups.now in
    let i = c.loop-held.held-index in
    let old = c.args.names.now in
    let step = c.in_ok-write_group.ensures.taken in
    record {
      many = length_after c.loop-held.files.items c.push.new.self.items c.in_ok-write_group.field-0 i c.in_ok-push.ensures.items c.loop-held.invariant.many;
      named = names_more old c.loop-held.names c.write_group.new.names i c.loop-held.invariant.named step;
      files = files_more c.args.schema.now c.args.next.now old c.loop-held.names c.write_group.new.names groups (all_groups groups) i c.held-item.result c.next_of-first.result c.loop-held.files.items
          c.push.new.self.items c.in_ok-write_group.field-0 refl c.loop-held-test.true
          (c.next_of-first.ensures ∙ ap (λ (h : HeldRows). next_of c.args.next.now h.group) c.held-item.is)
          (subst (λ (h : HeldRows). IsNewFile c.args.schema.now c.loop-held.names h.group (numbered c.next_of-first.result (group_rows h).1.run) c.in_ok-write_group.field-0) c.held-item.is c.in_ok-write_group.ensures.file)
          step c.in_ok-push.ensures.items
          c.loop-held.invariant.files;
    }

pub returns-clause-files : goal.returns-clause-files
returns-clause-files c =
    let all = all_groups c.args.groups.now in
    let runs = map (next_run c.args.next.now) all in
    let seen = length-map c.args.groups.now group_rows in
    let many = length-map all (next_run c.args.next.now) in
    files_all c.args.schema.now c.args.names.now c.loop-held.names runs c.loop-held.held-index c.loop-held.files.items (omega arith) c.loop-held.invariant.files
