use Rattle.std.proofs.Common.{List, sym, subst}
use Rattle.pm_manifest.specs.declared.entry.Entry.{Entry}
use Rattle.pm_made.specs.Files.{AreNumbered}
use Rattle.pm_made.specs.declared.intent.Intent.{Intent}
use Rattle.pm_made.proofs.DeltaLemmas.{HasNewDelta, appended, compacted}
use Rattle.pm_made.proofs.data.new_delta.Goals as goal

pub returns-in_ok-delta_of_files-in-Append-clause-delta : goal.returns-in_ok-delta_of_files-in-Append-clause-delta
returns-in_ok-delta_of_files-in-Append-clause-delta c =
    let s = c.args.schema.now in
    let newest = c.args.newest.now in
    let names = c.args.names.now in
    let left = c.number_files.new.names in
    let made = c.in_ok-delta_of_files-in-Append.field-0 in
    let own = c.in_ok-delta_of_files-in-Append.ensures in
    let batch = c.in-Append.batch in
    let xs = c.in_ok-new_files-in-Append.new_files.items in
    subst (λ (intent : Intent). HasNewDelta s newest names intent made.entries.items made.changes.items made.files.items left) (sym c.in-Append.is)
    (appended s newest names left batch xs made.entries.items made.changes.items made.files.items
    (subst (λ (live : List Entry). AreNumbered s live names batch xs) c.deref.ensures.value c.in_ok-new_files-in-Append.ensures.files)
    c.in_ok-new_files-in-Append.ensures.names own.entries own.changes own.files)

pub returns-in_ok-delta_of_plan-in-Compact-clause-delta : goal.returns-in_ok-delta_of_plan-in-Compact-clause-delta
returns-in_ok-delta_of_plan-in-Compact-clause-delta c =
    let s = c.args.schema.now in
    let newest = c.args.newest.now in
    let names = c.args.names.now in
    let made = c.in_ok-delta_of_plan-in-Compact.field-0 in
    let own = c.in_ok-delta_of_plan-in-Compact.ensures in
    subst (λ (intent : Intent). HasNewDelta s newest names intent made.entries.items made.changes.items made.files.items names) (sym c.in-Compact.is)
    (compacted s newest names c.in-Compact.plan made.entries.items made.changes.items made.files.items own.entries own.changes own.files)
