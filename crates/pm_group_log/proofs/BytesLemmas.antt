-- Files with their bytes, one more at a time.
use Rattle.std.proofs.Common.{◌≡◌, ℕ, zero, suc, ◌+◌, ◌<◌, ◌≤◌, List, [], ◌∷◌, ◌++◌, drop, get_or, length, length-drop, map, refl, sym, ap, ◌∙◌, add-one, append-nil, append_assoc, drop-cons, arith}
use Rattle.std.proofs.lemmas.Grind.{flat_map-append}
use Rattle.std.proofs.lemmas.List.{drop_all, map-append}
use Rattle.pm_values.specs.declared.file_meta.FileMeta.{FileMeta}
use Rattle.pm_values.specs.declared.group.Group.{Group}
use Rattle.pm_schema.specs.Folder.{folder_text}
use Rattle.pm_schema.specs.declared.schema.TableSchema.{TableSchema}
use Rattle.pm_levels.specs.Runs as levels
use Rattle.pm_levels.specs.Runs.{run_of}
use Rattle.pm_levels.specs.declared.runs.RunFiles.{RunFiles}
use Rattle.pm_run.specs.declared.run.RunBytes.{RunBytes}
use Rattle.pm_lookup.specs.File.{SeenFile}
use Rattle.pm_lookup.specs.Lookup.{file_in, files_in, files_of}
use Rattle.pm_group_log.specs.Told.{files_with}

pub drop_next : {X : Type 0} (xs : List X) (i : ℕ) (x : X) → i < length xs → x ≡ get_or xs i x → drop i xs ≡ x ∷ drop (i + 1) xs
drop_next xs i x lt is = drop-cons xs i x lt ∙ ap (λ y. y ∷ drop (suc i) xs) (sym is) ∙ rw (← add-one) refl

-- what stands behind an item begins one later
behind : {X : Type 0} (xs : List X) (i : ℕ) (x : X) (rest : List X) → x ∷ rest ≡ drop i xs → rest ≡ drop (suc i) xs
behind {X} [] zero x rest e = absurd (let no : suc (length rest) ≡ 0 = ap (λ (ys : List X). length ys) e in omega (arith, no))
behind {X} [] (suc i) x rest e = absurd (let no : suc (length rest) ≡ 0 = ap (λ (ys : List X). length ys) e in omega (arith, no))
behind {X} (y ∷ xs) zero x rest e = ap (λ (ys : List X). drop 1 ys) e
behind (y ∷ xs) (suc i) x rest e = behind xs i x rest e

pub drop-one : {X : Type 0} (xs : List X) (i : ℕ) (x : X) (rest : List X) → x ∷ rest ≡ drop i xs → rest ≡ drop (i + 1) xs
drop-one xs i x rest e = behind xs i x rest e ∙ rw (← add-one) refl

-- once nothing is left, nothing is left later
pub drop-none : {X : Type 0} (xs : List X) (i n : ℕ) → [] ≡ drop i xs → i < n → [] ≡ drop n xs
drop-none {X} xs i n e less =
    let long : 0 ≡ length (drop i xs) = ap (λ (ys : List X). length ys) e in
    let left = length-drop i xs in
    sym (drop_all n xs (omega (arith, long, left, less)))

module _ (s : TableSchema) (g : Group) where
  abbrev file-of : FileMeta × List ℕ → SeenFile
  file-of = file_in (folder_text s g)

  pub no-bytes : (ms : List FileMeta) → files_with s g ms [] ≡ []
  no-bytes [] = refl
  no-bytes (m ∷ ms) = refl

  -- one file more
  pub with-next : (paired : List (FileMeta × List ℕ)) (files : List FileMeta) (i : ℕ) (m : FileMeta) (own : List ℕ) (rest : List (List ℕ)) (all : List SeenFile)
      → i < length files → m ≡ get_or files i m → map file-of paired ++ files_with s g (drop i files) (own ∷ rest) ≡ all
      → map file-of (paired ++ (m, own) ∷ []) ++ files_with s g (drop (i + 1) files) rest ≡ all
  with-next paired files i m own rest all less is so-far =
      ap (λ (front : List SeenFile). front ++ files_with s g (drop (i + 1) files) rest) (map-append file-of paired ((m, own) ∷ []))
      ∙ append_assoc (map file-of paired) (file-of (m, own) ∷ []) (files_with s g (drop (i + 1) files) rest)
      ∙ ap (λ (ms : List FileMeta). map file-of paired ++ files_with s g ms (own ∷ rest)) (sym (drop_next files i m less is))
      ∙ so-far

  -- none where no bytes are left
  pub with-none : (paired : List (FileMeta × List ℕ)) (files : List FileMeta) (kept : List (List ℕ)) (all : List SeenFile) → kept ≡ []
      → map file-of paired ++ files_with s g files kept ≡ all → map file-of paired ≡ all
  with-none paired files kept all none so-far =
      sym (append-nil (map file-of paired))
      ∙ ap (λ (later : List SeenFile). map file-of paired ++ later) (sym (ap (files_with s g files) none ∙ no-bytes files))
      ∙ so-far

  -- nor where no files are
  pub with-ended : (paired : List (FileMeta × List ℕ)) (files : List FileMeta) (i : ℕ) (kept : List (List ℕ)) (all : List SeenFile) → length files ≤ i
      → map file-of paired ++ files_with s g (drop i files) kept ≡ all → map file-of paired ≡ all
  with-ended paired files i kept all ended so-far =
      sym (append-nil (map file-of paired))
      ∙ ap (λ (ms : List FileMeta). map file-of paired ++ files_with s g ms kept) (sym (drop_all i files ended))
      ∙ so-far

  -- the first files have the first bytes, and later ones the others
  pub files-append : (ms more : List FileMeta) (kept : List (List ℕ))
      → files_with s g (ms ++ more) kept ≡ files_with s g ms kept ++ files_with s g more (drop (length ms) kept)
  files-append [] more kept = refl
  files-append (m ∷ ms) more [] = sym (no-bytes more)
  files-append (m ∷ ms) more (bytes ∷ kept) = ap (λ (files : List SeenFile). file-of (m, bytes) ∷ files) (files-append ms more kept)

  abbrev metas : List RunFiles → List FileMeta
  metas runs = levels.files_of (map run_of runs)

  -- one run more
  pub runs-next : (runs : List RunBytes) (own : RunBytes) (stay : List RunFiles) (i : ℕ) (run : RunFiles) (old new : List (List ℕ)) (all : List SeenFile)
      → i < length stay → run ≡ get_or stay i run → own.folder ≡ folder_text s g → map file-of own.files.items ≡ files_with s g run.files.items old
      → new ≡ drop (length run.files.items) old → files_of runs ++ files_with s g (metas (drop i stay)) old ≡ all
      → files_of (runs ++ own ∷ []) ++ files_with s g (metas (drop (i + 1) stay)) new ≡ all
  runs-next runs own stay i run old new all less is folder files left so-far =
      let later = metas (drop (i + 1) stay) in
      let own_files : files_in own ≡ files_with s g run.files.items old = ap (λ (path : List ℕ). map (file_in path) own.files.items) folder ∙ files in
      let one : files_of (runs ++ own ∷ []) ≡ files_of runs ++ files_with s g run.files.items old =
      flat_map-append files_in runs (own ∷ []) ∙ ap (λ (fs : List SeenFile). files_of runs ++ fs) (append-nil (files_in own) ∙ own_files) in
      let split : files_with s g (metas (drop i stay)) old ≡ files_with s g run.files.items old ++ files_with s g later (drop (length run.files.items) old) =
      ap (λ (rs : List RunFiles). files_with s g (metas rs) old) (drop_next stay i run less is) ∙ files-append run.files.items later old in
      ap (λ (fs : List SeenFile). fs ++ files_with s g later new) one
      ∙ ap (λ (kept : List (List ℕ)). (files_of runs ++ files_with s g run.files.items old) ++ files_with s g later kept) left
      ∙ append_assoc (files_of runs) (files_with s g run.files.items old) (files_with s g later (drop (length run.files.items) old))
      ∙ ap (λ (fs : List SeenFile). files_of runs ++ fs) (sym split)
      ∙ so-far

  pub runs-ended : (runs : List RunBytes) (stay : List RunFiles) (i : ℕ) (kept : List (List ℕ)) (all : List SeenFile) → length stay ≤ i
      → files_of runs ++ files_with s g (metas (drop i stay)) kept ≡ all → files_of runs ≡ all
  runs-ended runs stay i kept all ended so-far =
      sym (append-nil (files_of runs))
      ∙ ap (λ (rs : List RunFiles). files_of runs ++ files_with s g (metas rs) kept) (sym (drop_all i stay ended))
      ∙ so-far
