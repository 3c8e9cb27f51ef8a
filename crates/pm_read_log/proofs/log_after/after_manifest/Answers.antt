use Rattle.std.proofs.Common.{◌≡◌, rules}
use Rattle.pm_values.specs.declared.refusal.Refusal.{Refusal}
use Rattle.pm_model_contents.specs.Lists.{manifest_path}
use Rattle.pm_read_log.specs.declared.log_phase.LogPhase.{LogPhase}
use Rattle.pm_read_table.proofs.AfterLemmas.{if_err, if_ok}
use Rattle.pm_read_log.proofs.LogAfterLemmas.{file_goes, file_misread, file_shown, groups_of}
use Rattle.pm_read_log.proofs.log_after.after_manifest.Goals as goal

pub after_entries-requires : goal.after_entries-requires
after_entries-requires c =
    groups_of c.args.reading c.schema.result.now c.as_str.result.now c.in-Some.bytes c.in-Ok-read_manifest.entries.items (search rules)
    c.schema.ensures.declared c.read_entry_law.ensures.manifest c.folder_law.ensures.entries c.in-Ok-read_manifest.ensures

pub returns-in-Ok-read_manifest-clause-goes : goal.returns-in-Ok-read_manifest-clause-goes
returns-in-Ok-read_manifest-clause-goes c =
    let at : c.as_str.result.now ≡ manifest_path c.args.reading.next.name = search rules in
    let same : c.schema.result.now ≡ c.args.reading.asked.schema = search rules in
    rw c.in-Some.is
    (if_ok c.after_entries.result _ _
    (λ (later : LogPhase) takes. file_goes c.args.reading c.schema.result.now c.as_str.result.now c.in-Some.bytes c.in-Ok-read_manifest.entries.items later
    at same c.in-Ok-read_manifest.ensures takes)
    c.after_entries.ensures.goes)

pub returns-in-Ok-read_manifest-clause-refuses : goal.returns-in-Ok-read_manifest-clause-refuses
returns-in-Ok-read_manifest-clause-refuses c =
    let text : c.as_str.result.now ≡ c.in-Ok.path = search rules in
    let at : c.in-Ok.path ≡ manifest_path c.args.reading.next.name = search rules in
    let same : c.schema.result.now ≡ c.args.reading.asked.schema = search rules in
    rw c.in-Some.is
    (if_err c.after_entries.result _ _
    (λ (refusal : Refusal) refuses. file_shown c.args.reading c.schema.result.now c.as_str.result.now c.in-Ok.path c.in-Some.bytes
    c.in-Ok-read_manifest.entries.items refusal text at same c.in-Ok-read_manifest.ensures refuses)
    c.after_entries.ensures.refuses)

pub returns-in-Err-clause-refuses : goal.returns-in-Err-clause-refuses
returns-in-Err-clause-refuses c =
    let at : c.as_str.result.now ≡ manifest_path c.args.reading.next.name = search rules in
    let same : c.schema.result.now ≡ c.args.reading.asked.schema = search rules in
    rw c.in-Some.is
    (file_misread c.args.reading c.schema.result.now c.as_str.result.now c.in-Some.bytes c.in-Err.refusal at same c.in-Err.ensures)
