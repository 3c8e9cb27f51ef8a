use Rattle.std.proofs.Common.{◌≡◌, ◌<◌, ◌||◌, Bool, true, false, cond, List, length, take, refl, ap, sym, ◌∙◌, arith}
use Rattle.std.proofs.lemmas.List.{take_all}
use Rattle.std.proofs.lemmas.List.Folds.{list_any_more}
use Rattle.indexmap.specs.IndexSet.{contains}
use Rattle.pm_manifest.specs.FileId.{id_eq}
use Rattle.pm_manifest.specs.Live.{id_of}
use Rattle.pm_manifest.specs.declared.entry.Entry.{Entry}
use Rattle.pm_manifest.specs.declared.file_id.FileId.{FileId}
use Rattle.pm_made.specs.Delta.{is_of_any}
use Rattle.pm_made.proofs.removed.files_of.Goals as goal

one-more : (own before : Bool) → cond own true before ≡ (before || own)
one-more true true = refl
one-more true false = refl
one-more false true = refl
one-more false false = refl

pub loop-entry-preserved : goal.loop-entry-preserved
loop-entry-preserved c = λ (e : Entry).
    let entries = c.args.entries.now in
    let entry = c.entry-item.result in
    let so_far = take c.loop-entry.entry-index entries in
    let below : c.loop-entry.entry-index < length entries = omega arith in
    c.in_ok-insert.ensures.updates.0 (id_of e)
    ∙ ap (λ (id : FileId). cond (id_eq id (id_of e)) true (contains id_eq c.loop-entry.files (id_of e))) c.in_ok-id.ensures
    ∙ ap (λ (t : Bool). cond (id_eq (id_of entry) (id_of e)) true t) (c.loop-entry.invariant e)
    ∙ one-more (id_eq (id_of entry) (id_of e)) (is_of_any so_far e)
    ∙ ap (λ (x : Entry). is_of_any so_far e || id_eq (id_of x) (id_of e)) c.entry-item.is
    ∙ sym (list_any_more (λ (other : Entry). id_eq (id_of other) (id_of e)) entries c.loop-entry.entry-index entry below)

pub returns : goal.returns
returns c = λ (e : Entry).
    c.loop-entry.invariant e ∙ ap (λ (es : List Entry). is_of_any es e) (take_all c.loop-entry.entry-index c.args.entries.now (omega arith))
