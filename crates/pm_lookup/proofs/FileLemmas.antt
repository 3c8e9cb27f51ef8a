-- What is answered of a file that was opened, or that can't be, and of the rows of a key that were found.
use Rattle.std.proofs.Common.{◌≡◌, inl, inr, ℕ, List, [], ◌∷◌, Option, None, Some, Result, Ok, Err, refl, sym, ap, subst, ◌∙◌}
use Rattle.std.specs.Prelude.{false}
use Rattle.pm_values.specs.Order.{Values}
use Rattle.pm_values.specs.declared.record.Stamped.{Stamped}
use Rattle.pm_values.specs.declared.refusal.Refusal.{Refusal}
use Rattle.pm_values.specs.declared.refusal.Refusal.TheVariants.{Memory}
use Rattle.pm_values.specs.declared.file_meta.FileMeta.{FileMeta}
use Rattle.pm_schema.specs.declared.schema.TableSchema.{TableSchema}
use Rattle.pm_engine.specs.Covers.{Run}
use Rattle.pm_engine.specs.Meaning.{Meaning}
use Rattle.pm_engine.specs.Reducing.{IsCombined}
use Rattle.pm_merge.specs.Merging.{AreCombined, alone, joined}
use Rattle.pm_run.specs.Reader.{OpensRun, RunView, UnlessMemory}
use Rattle.pm_run.specs.Rows.{Opened}
use Rattle.pm_lookup.specs.File.{IsOpen, IsOpenedFor, LooksIn, Opens, RefusesFile, SeenFile, seen}
use Rattle.pm_lookup.specs.Looking.{Finds}
use Rattle.pm_lookup.specs.Lookup.{AreOne}
use Rattle.pm_lookup.specs.declared.file.FileBytes.TheVariants.{Open}
use Rattle.pm_lookup.specs.declared.file.LookedFile.{LookedFile}
use Rattle.pm_lookup.specs.declared.open_file.OpenFile.{OpenFile}

-- what isn't opened is refused
pub looks_refused : (s : TableSchema) (f : SeenFile) (key : Values) (e : Refusal) → UnlessMemory e (RefusesFile s f e) → LooksIn s f key (Err e)
looks_refused s f key Memory refuses = tt
looks_refused s f key e refuses = inl refuses

-- what is opened is looked in
pub looks_found : (s : TableSchema) (f : SeenFile) (key : Values) (file : OpenFile) → IsOpenedFor s f file → (result : Result (Option Stamped) Refusal) → Finds file.reader.opened key result
    → LooksIn s f key result
looks_found s f key file opened (Ok found) finds = (opened.view, opened.opens, subst (λ (o : Opened). Finds o key (Ok found)) (sym opened.same) finds)
looks_found s f key file opened (Err Memory) finds = tt
looks_found s f key file opened (Err e) finds = inr (opened.view, opened.opens, subst (λ (o : Opened). Finds o key (Err e)) (sym opened.same) finds)

-- a reader has the bytes that it was given
pub opened_bytes : (s : TableSchema) (id : ℕ) (path bytes : List ℕ) (v : RunView) → OpensRun s false id path bytes (Ok v) → v.opened.file.bytes ≡ bytes
opened_bytes s id path bytes v opens = ap (λ (w : RunView). w.opened.file.bytes) opens.4 ∙ opens.2.same

-- ---- a file that was opened, and then asked

module _ (path : List ℕ) (meta : FileMeta) (old new : OpenFile) (same : new.reader ≡ old.reader) where
  abbrev with_file : OpenFile → LookedFile
  with_file file = record { path = path; meta = meta; bytes = Open file }

  -- it is seen as before
  pub kept_seen : seen (with_file new) ≡ seen (with_file old)
  kept_seen = ap (λ (v : RunView). record { path = path; meta = meta; bytes = v.opened.file.bytes }) same

  -- and was opened with the same schema
  pub kept_open : (s : TableSchema) → IsOpenedFor s (seen (with_file old)) old → IsOpen new → IsOpenedFor s (seen (with_file new)) new
  kept_open s h known = record {
    view = h.view;
    opens = subst (λ (f : SeenFile). Opens s f h.view) (sym kept_seen) h.opens;
    same = h.same ∙ ap (λ (v : RunView). v.opened) (sym same);
    known = known;
  }

-- ---- an older row under what the newer ones are

pub upon_one : (m : Meaning) (rows : Run) (older newer s : Stamped) → AreOne m rows (Some newer) → IsCombined m older newer s → AreCombined m (older ∷ rows) s
upon_one m rows older newer s one both = joined (older ∷ rows) (older ∷ []) rows older newer s refl (alone older) one both

pub upon_none : (m : Meaning) (rows : Run) (older : Stamped) → AreOne m rows None → AreCombined m (older ∷ rows) older
upon_none m rows older none = subst (λ (rs : Run). AreCombined m (older ∷ rs) older) (sym none) (alone older)
