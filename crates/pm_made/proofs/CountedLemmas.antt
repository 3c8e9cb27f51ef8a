-- The files of a try stand in folders of the table and have names with successive counts, so their paths differ.
use Rattle.std.proofs.Common.{◌≡◌, ◌≢◌, ◌⊎◌, inl, inr, ℕ, suc, ◌+◌, ◌^◌, ◌<◌, ◌≤◌, List, [], ◌∷◌, ◌++◌, codes, length, map, Option, refl, sym, ap, ◌∙◌, subst, arith}
use Rattle.std.specs.BTreeMap.{BTreeMap}
use Rattle.std.specs.List.{AllByRecursion}
use Rattle.std.proofs.lemmas.List.{length-map, map-append}
use Rattle.pm_values.specs.Names.{Naming, counted, name_of}
use Rattle.pm_values.specs.declared.group.Group.{Group}
use Rattle.pm_values.specs.declared.record.Change.{Change}
use Rattle.pm_schema.specs.Folder.{folder_text}
use Rattle.pm_schema.specs.declared.schema.TableSchema.{TableSchema}
use Rattle.pm_engine.specs.Covers.{Run}
use Rattle.pm_snapshot.specs.Names.{BasedFile, MayName, changelog_file, manifest, manifest_list, prefix_of, rows_file, suffix_of}
use Rattle.pm_manifest.specs.declared.entry.Entry.{Entry}
use Rattle.pm_manifest.specs.declared.entry.ManifestMeta.{ManifestMeta}
use Rattle.pm_put.specs.declared.putting.CommitFile.{CommitFile}
use Rattle.pm_write.specs.Batch.{Groups, logs_in}
use Rattle.pm_write.specs.Files.{AreFilesOfLogs, AreFilesOfRuns, AreNewFiles, next_run}
use Rattle.pm_write.specs.declared.files.NewFile.{NewFile}
use Rattle.pm_made.specs.Delta.{Delta, entries_of}
use Rattle.pm_made.specs.Files.{AreLists, AreManifests, HasBase, HasChangesList, HasDelta, HasManifest, IsMadeOf, appends, compacts, data_file, fences, kept, merged, no_list, no_manifest, one_list, one_manifest}
use Rattle.pm_made.specs.declared.intent.Intent.{Intent}
use Rattle.pm_made.specs.declared.newest.Author.{Author}
use Rattle.pm_made.specs.declared.newest.Made.{Made}
use Rattle.pm_made.specs.declared.newest.Newest.{Newest}
use Rattle.pm_made.proofs.MadeLemmas.{PathFacts, at, may-count}

-- ---- files in turn

module _ (Q : ℕ → CommitFile → Type 0) where
  -- each file has its own number, the next one the next
  abbrev pub InTurn : ℕ → List CommitFile → Type 0
  InTurn n [] = Unit {0}
  InTurn n (file ∷ files) = Q n file × InTurn (n + 1) files

  pub turn-join : (n : ℕ) (first later : List CommitFile) → InTurn n first → InTurn (n + length first) later → InTurn n (first ++ later)
  turn-join n [] later none are = subst (λ (k : ℕ). InTurn k later) (let same : n + 0 ≡ n = omega arith in same) are
  turn-join n (file ∷ first) later (is, rest) are = (
    is,
    turn-join (n + 1) first later rest
        (subst (λ (k : ℕ). InTurn k later) (let same : n + suc (length first) ≡ n + 1 + length first = omega arith in same) are),
  )

  turn-later : (n : ℕ) (first later : List CommitFile) → InTurn n (first ++ later) → InTurn (n + length first) later
  turn-later n [] later are = subst (λ (k : ℕ). InTurn k later) (let same : n ≡ n + 0 = omega arith in same) are
  turn-later n (file ∷ first) later (is, rest) =
      subst (λ (k : ℕ). InTurn k later) (let same : n + 1 + length first ≡ n + suc (length first) = omega arith in same) (turn-later (n + 1) first later rest)

  -- what each has with a number below the bound
  pub turn-each : (P : CommitFile → Type 0) (bound : ℕ) → ((k : ℕ) (file : CommitFile) → k < bound → Q k file → P file) → (n : ℕ) (files : List CommitFile)
      → n + length files ≤ bound → InTurn n files → AllByRecursion P files
  turn-each P bound each n [] room are = tt
  turn-each P bound each n (file ∷ files) room (is, rest) = (
    each n file (let all : n + suc (length files) ≤ bound = room in omega (arith, all)) is,
    turn-each P bound each (n + 1) files (let all : n + suc (length files) ≤ bound = room in omega (arith, all)) rest,
  )

turn-weaker : (Q R : ℕ → CommitFile → Type 0) → ((k : ℕ) (file : CommitFile) → Q k file → R k file) → (n : ℕ) (files : List CommitFile) → InTurn Q n files
    → InTurn R n files
turn-weaker Q R weaker n [] are = tt
turn-weaker Q R weaker n (file ∷ files) (is, rest) = (weaker n file is, turn-weaker Q R weaker (n + 1) files rest)

module _ (t : Naming) where
  -- the path is of a file with the name of this count
  pub record IsCounted (n : ℕ) (path : List ℕ) : Type 0 where
    pub folder : List ℕ
    pub file : BasedFile
    pub is : path ≡ folder ++ 47 ∷ name_of (prefix_of file) (suffix_of file) (at t n)

  abbrev pub AreCounted : ℕ → List CommitFile → Type 0
  AreCounted n files = InTurn (λ (k : ℕ) (file : CommitFile). IsCounted k file.path) n files

  pub counted-join : (n : ℕ) (first later : List CommitFile) → AreCounted n first → AreCounted (n + length first) later → AreCounted n (first ++ later)
  counted-join n first later one other = turn-join (λ (k : ℕ) (file : CommitFile). IsCounted k file.path) n first later one other

  pub counted-later : (n : ℕ) (first later : List CommitFile) → AreCounted n (first ++ later) → AreCounted (n + length first) later
  counted-later n first later are = turn-later (λ (k : ℕ) (file : CommitFile). IsCounted k file.path) n first later are

  -- ---- the files of a try

  module _ (s : TableSchema) where
    -- and its folder is that of manifests or one of the table's buckets
    pub record IsPlaced (n : ℕ) (file : CommitFile) : Type 0 where
      pub counted : IsCounted n file.path
      pub place : (counted.folder ≡ codes "manifest") ⊎ ((g : Group) × (counted.folder ≡ folder_text s g))

    abbrev pub ArePlaced : ℕ → List CommitFile → Type 0
    ArePlaced n files = InTurn IsPlaced n files

    row-placed : (kind : BasedFile) (n : ℕ) (x : NewFile) → x.meta.name ≡ name_of (prefix_of kind) (suffix_of kind) (at t n) → IsPlaced n (data_file s x)
    row-placed kind n x named = record {
      counted = record {
        folder = folder_text s x.group;
        file = kind;
        is = ap (λ (text : List ℕ). folder_text s x.group ++ 47 ∷ text) named;
      };
      place = inr (x.group, refl);
    }

    data-placed : (n : ℕ) (runs : List (Group × Run)) (files : List NewFile) → AreFilesOfRuns s (at t n) runs files → ArePlaced n (map (data_file s) files)
    data-placed n [] [] are = tt
    data-placed n [] (x ∷ files) are = absurd are
    data-placed n (run ∷ runs) [] are = absurd are
    data-placed n (run ∷ runs) (x ∷ files) (first, rest) = (row-placed rows_file n x first.file.made.meta.named, data-placed (n + 1) runs files rest)

    logs-placed : (n : ℕ) (logs : List (Group × List Change)) (files : List NewFile) → AreFilesOfLogs s (at t n) logs files → ArePlaced n (map (data_file s) files)
    logs-placed n [] [] are = tt
    logs-placed n [] (x ∷ files) are = absurd are
    logs-placed n (log ∷ logs) [] are = absurd are
    logs-placed n (log ∷ logs) (x ∷ files) (first, rest) =
        (row-placed changelog_file n x first.file.made.meta.named, logs-placed (n + 1) logs files rest)

    files-placed : (next : BTreeMap Group ℕ) (batch : Groups) (xs : List NewFile) → AreNewFiles s next t batch xs → ArePlaced t.count (map (data_file s) xs)
    files-placed next batch xs new =
        let split : map (data_file s) xs ≡ map (data_file s) new.data_files ++ map (data_file s) new.changes =
        ap (map (data_file s)) new.both ∙ map-append (data_file s) new.data_files new.changes in
        let mapped = length-map new.data_files (data_file s) in
        subst (ArePlaced t.count) (sym split)
        (turn-join IsPlaced t.count (map (data_file s) new.data_files) (map (data_file s) new.changes)
        (data-placed t.count (map (next_run next) batch) new.data_files new.runs)
        (subst (λ (n : ℕ). ArePlaced n (map (data_file s) new.changes))
        (let same : t.count + length new.data_files ≡ t.count + length (map (data_file s) new.data_files) = omega (arith, mapped) in same)
        (logs-placed (t.count + length new.data_files) (logs_in batch) new.changes new.logs)))

    -- a manifest or a list, by its name
    manifest-placed : (n : ℕ) (kind : BasedFile) (file : CommitFile) (name : List ℕ) (names : Naming) → file.path ≡ codes "manifest" ++ 47 ∷ name
        → name ≡ name_of (prefix_of kind) (suffix_of kind) names → names ≡ at t n → IsPlaced n file
    manifest-placed n kind file name names is named same = record {
      counted = record {
        folder = codes "manifest";
        file = kind;
        is = is ∙ ap (λ (name : List ℕ). codes "manifest" ++ 47 ∷ name) (named ∙ ap (name_of (prefix_of kind) (suffix_of kind)) same);
      };
      place = inl refl;
    }

    -- such files, and the names that they leave
    abbrev Leaves : ℕ → List CommitFile → Naming → Type 0
    Leaves n files left = ArePlaced n files × (left ≡ at t (n + length files))

    none-leaves : (n : ℕ) → Leaves n [] (at t n)
    none-leaves n = (tt, ap (at t) (let same : n ≡ n + 0 = omega arith in same))

    -- the files of rows
    rows-placed : (newest : Newest) (intent : Intent) (d : Delta) (files : List CommitFile) (left : Naming) → HasDelta s newest t intent d files left
        → Leaves t.count files left
    rows-placed newest _ _ _ _ (appends batch xs numbered) = (
      files-placed numbered.next batch xs numbered.are_new,
      ap (at t) (let mapped = length-map xs (data_file s) in let same : t.count + length xs ≡ t.count + length (map (data_file s) xs) = omega (arith, mapped) in same),
    )
    rows-placed newest _ _ _ _ (compacts plan) = none-leaves t.count
    rows-placed newest _ _ _ _ (fences number) = none-leaves t.count

    -- a manifest
    manifest-at : (n : ℕ) (es : List Entry) (metas : List ManifestMeta) (files : List CommitFile) (left : Naming) → HasManifest s (at t n) es metas files left
        → Leaves n files left
    manifest-at n es _ _ _ (no_manifest none) = none-leaves n
    manifest-at n es _ _ _ (one_manifest m file some is) = ((manifest-placed n manifest file m.name (at t n) is.path is.named refl, tt), refl)

    has-placed : (n : ℕ) (names : Naming) (es : List Entry) (metas : List ManifestMeta) (files : List CommitFile) (left : Naming) → names ≡ at t n
        → HasManifest s names es metas files left → Leaves n files left
    has-placed n names es metas files left same has =
        manifest-at n es metas files left (subst (λ (names : Naming). HasManifest s names es metas files left) same has)

    -- a changelog list
    list-at : (n : ℕ) (metas : List ManifestMeta) (o : Option (List ℕ)) (files : List CommitFile) (left : Naming) → HasChangesList s (at t n) metas o files left
        → Leaves n files left
    list-at n metas _ _ _ (no_list none) = none-leaves n
    list-at n metas _ _ _ (one_list name file some is) = ((manifest-placed n manifest_list file name (at t n) is.path is.named refl, tt), refl)

    -- the manifest of a base list
    base-at : (newest : Newest) (n : ℕ) (metas : List ManifestMeta) (files : List CommitFile) (left : Naming) → HasBase s newest (at t n) metas files left
        → Leaves n files left
    base-at newest n _ _ _ (kept few) = none-leaves n
    base-at newest n _ _ _ (merged metas files left enough has) = manifest-at n newest.live.items metas files left has

    module _ (newest : Newest) (author : Author) (intent : Intent) (made : Made) (is : IsMadeOf s newest author intent t made) where
      abbrev all : AreManifests s newest is.left (entries_of is.delta) is.delta.changes is.lists is.list_files
      all = is.are_manifests

      abbrev are : AreLists s all.left (entries_of is.delta) is.delta.changes all.base is.lists all.list_files
      are = all.are_lists

      -- the manifests of the delta and of its changelog files, and the lists
      lists-placed : (n : ℕ) → all.left ≡ at t n → ArePlaced n all.list_files
      lists-placed n same =
          let delta = has-placed n all.left (entries_of is.delta) are.delta are.delta_files are.after_delta same are.has_delta in
          let second : ℕ = n + length are.delta_files in
          let changes = has-placed second are.after_delta is.delta.changes are.changes are.changes_files are.after_changes delta.1 are.has_changes in
          let third : ℕ = second + length are.changes_files in
          let list = list-at (third + 1) are.changes is.lists.changes are.changes_list are.after_list
          (subst (λ (names : Naming). HasChangesList s names are.changes is.lists.changes are.changes_list are.after_list) (ap counted changes.1) are.has_changes_list) in
          let last : ℕ = third + 1 + length are.changes_list in
          let delta_list = manifest-placed third manifest_list are.delta_list is.lists.delta are.after_changes are.is_delta_list.path are.is_delta_list.named changes.1 in
          let base_list = manifest-placed last manifest_list are.base_list is.lists.base are.after_list are.is_base_list.path are.is_base_list.named list.1 in
          subst (ArePlaced n) (sym are.are)
          (turn-join IsPlaced n are.delta_files (are.changes_files ++ (are.delta_list ∷ (are.changes_list ++ are.base_list ∷ []))) delta.0
          (turn-join IsPlaced second are.changes_files (are.delta_list ∷ (are.changes_list ++ are.base_list ∷ [])) changes.0
          (delta_list, turn-join IsPlaced (third + 1) are.changes_list (are.base_list ∷ []) list.0 (base_list, tt))))

      pub made-placed : ArePlaced t.count made.files.items
      made-placed =
          let rows = rows-placed newest intent is.delta is.row_files is.left is.has_delta in
          let after : ℕ = t.count + length is.row_files in
          let base = base-at newest after all.base all.base_files all.left
          (subst (λ (names : Naming). HasBase s newest names all.base all.base_files all.left) rows.1 all.has_base) in
          let lists = lists-placed (after + length all.base_files) base.1 in
          subst (ArePlaced t.count) (sym is.files)
          (turn-join IsPlaced t.count is.row_files is.list_files rows.0
          (subst (ArePlaced after) (sym all.are) (turn-join IsPlaced after all.base_files all.list_files base.0 lists)))

      pub made-counted : AreCounted t.count made.files.items
      made-counted = turn-weaker IsPlaced (λ (k : ℕ) (file : CommitFile). IsCounted k file.path) (λ k file placed. placed.counted) t.count made.files.items made-placed

  -- ---- so their paths differ

  one-count : PathFacts → (may : MayName t) (n m : ℕ) (path : List ℕ) → n < 2 ^ 64 → m < 2 ^ 64 → IsCounted n path → IsCounted m path → n ≡ m
  one-count parts may n m path low high one other =
      ap (λ (names : Naming). names.count)
      (parts one.folder other.folder one.file other.file (at t n) (at t m) (may-count t n may low) (may-count t m may high) (sym one.is ∙ other.is)).2

  pub counted-apart : PathFacts → (may : MayName t) (k n : ℕ) (path : List ℕ) (files : List CommitFile) → k < n → n + length files ≤ 2 ^ 64 → IsCounted k path
      → AreCounted n files → AllByRecursion (λ (file : CommitFile). file.path ≢ path) files
  counted-apart parts may k n path [] below room is are = tt
  counted-apart parts may k n path (file ∷ files) below room is (one, rest) = (
    (λ e. (let more : n + suc (length files) ≤ 2 ^ 64 = room in
        let same = one-count parts may k n path (omega (arith, below, more)) (omega (arith, more)) is (subst (IsCounted n) e one) in
        omega (arith, same, below))),
    counted-apart parts may k (n + 1) path files (omega (arith, below)) (let more : n + suc (length files) ≤ 2 ^ 64 = room in omega (arith, more)) is rest,
  )
