use Rattle.std.proofs.Common.{◌≡◌, ◌++◌, ◌∷◌, [], rules, sym, subst}
use Rattle.indexmap.specs.IndexMap.{get}
use Rattle.pm_values.specs.declared.refusal.Refusal.{Refusal}
use Rattle.pm_manifest.specs.FileId.{id_eq}
use Rattle.pm_read_table.specs.View.{HaveGroups}
use Rattle.pm_read_table.specs.Reading.{ReadingView, reading_of}
use Rattle.pm_read_table.specs.declared.phase.Phase.{Phase}
use Rattle.pm_read_table.proofs.AfterLemmas.{entries_overlap, entries_refused, entries_taken, groups_more, if_err, if_ok}
use Rattle.pm_read_table.proofs.after.after_entries.Goals as goal

pub returns-in-Err-clause-refuses : goal.returns-in-Err-clause-refuses
returns-in-Err-clause-refuses c =
    let r : ReadingView = reading_of c.reading.inside.sought c.reading.inside.snapshot c.reading.inside.done.items c.reading.inside.next
    c.reading.inside.rest.items c.reading.inside.live.entries c.reading.inside.kept.items in
    entries_refused c.args.reading r c.args.path c.args.entries.items (get id_eq c.take_in.new.live) c.in-Err.refusal
    c.reading.view_is (rw c.as_str.ensures at c.in-Err.ensures.refused)

pub go_on-requires-clause-named : goal.go_on-requires-clause-named
go_on-requires-clause-named c =
    c.live_law.ensures.named (get id_eq c.reading.inside.live) (get id_eq c.take_in.new.live) c.args.entries.items c.reading.invariant.0
    c.in_default.ensures.left

pub go_on-requires-clause-folders : goal.go_on-requires-clause-folders
go_on-requires-clause-folders c =
    c.live_law.ensures.folders c.reading.inside.sought.asked.schema (get id_eq c.reading.inside.live) (get id_eq c.take_in.new.live) c.args.entries.items
    c.reading.invariant.1
    (subst (λ (r : ReadingView). HaveGroups r.sought.asked.schema c.args.entries.items) (sym c.reading.view_is) c.requires.fit)
    c.in_default.ensures.left

pub go_on-requires-clause-groups : goal.go_on-requires-clause-groups
go_on-requires-clause-groups c =
    groups_more c.reading.inside.sought.asked.schema c.reading.inside.sought.asked.wanted c.reading.inside.kept.items c.args.entries.items
    c.take_in.new.kept.items c.reading.invariant.2
    (subst (λ (r : ReadingView). HaveGroups r.sought.asked.schema c.args.entries.items) (sym c.reading.view_is) c.requires.fit) (search rules)

pub returns-clause-goes : goal.returns-clause-goes
returns-clause-goes c =
    let r : ReadingView = reading_of c.reading.inside.sought c.reading.inside.snapshot c.reading.inside.done.items c.reading.inside.next
    c.reading.inside.rest.items c.reading.inside.live.entries c.reading.inside.kept.items in
    let more : c.push.new.self.items ≡ c.reading.inside.done.items ++ c.reading.inside.next ∷ [] = search rules in
    if_ok c.go_on.result _ _
    (λ (later : Phase) on. entries_taken c.args.reading r c.args.entries.items c.take_in.new.live.entries c.push.new.self.items c.take_in.new.kept.items later
    c.reading.view_is c.in_default.ensures.order c.in_default.ensures.left more (search rules) on)
    c.go_on.ensures.goes

pub returns-clause-refuses : goal.returns-clause-refuses
returns-clause-refuses c =
    let r : ReadingView = reading_of c.reading.inside.sought c.reading.inside.snapshot c.reading.inside.done.items c.reading.inside.next
    c.reading.inside.rest.items c.reading.inside.live.entries c.reading.inside.kept.items in
    if_err c.go_on.result _ _
    (λ (refusal : Refusal) over. entries_overlap c.args.reading r c.args.path c.args.entries.items c.take_in.new.live.entries refusal c.reading.view_is
    c.in_default.ensures.order c.in_default.ensures.left over)
    c.go_on.ensures.refuses
