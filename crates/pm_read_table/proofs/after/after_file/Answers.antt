use Rattle.std.proofs.Common.{◌≡◌, ◌∙◌, rules}
use Rattle.pm_values.specs.declared.refusal.Refusal.{Refusal}
use Rattle.pm_read_table.specs.declared.phase.Phase.{Phase}
use Rattle.pm_read_table.proofs.AfterLemmas.{file_goes, file_misread, file_shown, fit_of, if_err, if_ok}
use Rattle.pm_read_table.proofs.after.after_file.Goals as goal

pub after_entries-requires : goal.after_entries-requires
after_entries-requires c = record {
  fit = fit_of c.args.reading c.schema-schema.result.now c.as_str.result.now c.args.bytes c.in-Ok.entries.items (search rules)
      c.schema-schema.ensures.declared c.read_entry_law.ensures.manifest c.folder_law.ensures.entries c.in-Ok.ensures;
}

pub returns-in-Ok-clause-goes : goal.returns-in-Ok-clause-goes
returns-in-Ok-clause-goes c =
    let at : c.as_str.result.now ≡ c.args.path = search rules in
    let same : c.schema-schema.result.now ≡ c.args.reading.sought.asked.schema = search rules in
    if_ok c.after_entries.result _ _
    (λ (later : Phase) takes. file_goes c.args.reading c.schema-schema.result.now c.as_str.result.now c.args.bytes c.in-Ok.entries.items later
    (at ∙ c.requires.path) same c.in-Ok.ensures takes)
    c.after_entries.ensures.goes

pub returns-in-Ok-clause-refuses : goal.returns-in-Ok-clause-refuses
returns-in-Ok-clause-refuses c =
    let at : c.as_str.result.now ≡ c.args.path = search rules in
    let same : c.schema-schema.result.now ≡ c.args.reading.sought.asked.schema = search rules in
    if_err c.after_entries.result _ _
    (λ (refusal : Refusal) refuses. file_shown c.args.reading c.schema-schema.result.now c.as_str.result.now c.args.path c.args.bytes c.in-Ok.entries.items
    refusal at c.requires.path same c.in-Ok.ensures refuses)
    c.after_entries.ensures.refuses

pub returns-in-Err-clause-refuses : goal.returns-in-Err-clause-refuses
returns-in-Err-clause-refuses c =
    let at : c.as_str.result.now ≡ c.args.path = search rules in
    let same : c.schema-schema.result.now ≡ c.args.reading.sought.asked.schema = search rules in
    file_misread c.args.reading c.schema-schema.result.now c.as_str.result.now c.args.bytes c.in-Err.refusal (at ∙ c.requires.path) same c.in-Err.ensures
