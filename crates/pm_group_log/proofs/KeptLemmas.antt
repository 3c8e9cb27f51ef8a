-- The files that were kept of runs that are known have their rows.
use Rattle.std.proofs.Common.{◌≡◌, ℕ, List, [], ◌∷◌, ◌++◌, false, map, Some, refl, sym, ap, subst, ◌∙◌}
use Rattle.std.specs.FinMap as paths
use Rattle.std.specs.List.{AllByRecursion, AllZip, flat_map}
use Rattle.pm_store.specs.Files.{Files}
use Rattle.pm_values.specs.declared.file_meta.FileMeta.{FileMeta}
use Rattle.pm_values.specs.declared.group.Group.{Group}
use Rattle.pm_schema.specs.declared.schema.TableSchema.{TableSchema}
use Rattle.pm_engine.specs.Covers.{Run}
use Rattle.pm_run.specs.Rows.{HasRows}
use Rattle.pm_levels.specs.Runs.{files_of}
use Rattle.pm_model_contents.specs.Runs.{data_path}
use Rattle.pm_model_folder.specs.Runs.{view_of}
use Rattle.pm_model_folder.specs.Stored.{HasFile, HasRun, HaveFileRows}
use Rattle.pm_runs.specs.Succession.{KnownRun, from_oldest, without_files}
use Rattle.pm_lookup.specs.File.{SeenFile}
use Rattle.pm_lookup.specs.Lookup.{AreRunsWith, HoldsRows, all_files}
use Rattle.pm_compaction_log.specs.Log.{AreFilesWith}
use Rattle.pm_group_log.specs.Told.{files_with}

some-same : (one other : List ℕ) → Some one ≡ Some other → one ≡ other
some-same one other e = cc

module _ (f : Files) (s : TableSchema) (g : Group) where
  -- the file is there with these bytes
  abbrev pub IsThere : FileMeta → List ℕ → Type 0
  IsThere m bytes = paths.get f (data_path s g m.name) ≡ Some bytes

  -- of a known run that is in files
  abbrev pub IsHeld : KnownRun → Type 0
  IsHeld run = HasRun f s g (view_of run) (without_files run)

  abbrev Holds : SeenFile → Run → Type 0
  Holds x own = HoldsRows s (x.meta, x.bytes) own

  abbrev file-with : FileMeta → List ℕ → SeenFile
  file-with m bytes = record { path = data_path s g m.name; meta = m; bytes = bytes }

  one-holds : (m : FileMeta) (own : Run) (bytes : List ℕ) → HasFile f s false g m own → IsThere m bytes → HoldsRows s (m, bytes) own
  one-holds m own bytes has there = record {
    schema = has.schema;
    has = subst (λ (b : List ℕ). HasRows s false b own) (some-same has.bytes bytes (sym has.there ∙ there)) has.read;
    bears = record { least = has.tells.least; greatest = has.tells.greatest };
  }

  -- the files of a run have the first of the bytes, and later ones the rest
  record SplitsAt (ms more : List FileMeta) (kept : List (List ℕ)) (rows : Run) : Type 0 where
    own : List SeenFile
    each : List Run
    rest : List (List ℕ)
    files : files_with s g (ms ++ more) kept ≡ own ++ files_with s g more rest
    holds : AllZip Holds own each
    joined : rows ≡ flat_map (λ (r : Run). r) each
    later : AllZip IsThere more rest

  splits : (ms more : List FileMeta) (kept : List (List ℕ)) (rows : Run) → HaveFileRows f s g ms rows → AllZip IsThere (ms ++ more) kept → SplitsAt ms more kept rows
  splits [] more kept rows have there = record { own = []; each = []; rest = kept; files = refl; holds = tt; joined = have; later = there }
  splits (m ∷ ms) more [] rows have there = absurd there
  splits (m ∷ ms) more (bytes ∷ kept) rows (first, last, split, has, have) there =
      let r = splits ms more kept last have there.1 in record {
        own = file-with m bytes ∷ r.own;
        each = first ∷ r.each;
        rest = r.rest;
        files = ap (λ (xs : List SeenFile). file-with m bytes ∷ xs) r.files;
        holds = (one-holds m first bytes has there.0, r.holds);
        joined = split ∙ ap (λ (rs : Run). first ++ rs) r.joined;
        later = r.later;
      }

  runs-with : (known : List KnownRun) (kept : List (List ℕ)) → AllByRecursion IsHeld known → AllZip IsThere (files_of (map view_of known)) kept
      → (runs : List (List SeenFile)) × (files_with s g (files_of (map view_of known)) kept ≡ all_files runs) × AreRunsWith s runs (map (λ (run : KnownRun). run.rows) known)
  runs-with [] kept held there = ([], refl, tt)
  runs-with (run ∷ known) kept held there =
      let r = splits run.files (files_of (map view_of known)) kept run.rows held.0.files there in
      let later = runs-with known r.rest held.1 r.later in (
        r.own ∷ later.0,
        r.files ∙ ap (λ (xs : List SeenFile). r.own ++ xs) later.1,
        (record { each = r.each; files = r.holds; joined = r.joined; rising = held.0.rising }, later.2),
      )

  pub files-known : (known : List KnownRun) (kept : List (List ℕ)) → AllByRecursion IsHeld known → AllZip IsThere (files_of (map view_of known)) kept
      → AreFilesWith s (files_with s g (files_of (map view_of known)) kept) (from_oldest known)
  files-known known kept held there =
      let r = runs-with known kept held there in
      (r.0, map (λ (run : KnownRun). run.rows) known, r.1, r.2, refl)
