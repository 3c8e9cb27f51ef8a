-- The files that were made of a group's runs: they are those of a run, and the actor's.
use Rattle.std.proofs.Common.{◌≡◌, ◌≢◌, ◌⊎◌, inl, inr, ℕ, zero, suc, ◌+◌, ◌<◌, false, List, [], ◌∷◌, ◌++◌, length, map, take, drop, Option, None, Some, Contains, refl, sym, ap, subst, ◌∙◌, arith}
use Rattle.std.specs.List.{AllByRecursion}
use Rattle.std.specs.List.Sorted.{IsStrictlySortedBy}
use Rattle.std.specs.declared.cmp.Ordering.TheVariants.{Less}
use Rattle.std.proofs.lemmas.List.{take-append-drop}
use Rattle.pm_store.specs.Files.{Files}
use Rattle.pm_values.specs.Names.{IsNaming, Naming, counted, name_of}
use Rattle.pm_values.specs.Order.{Values, key_cmp}
use Rattle.pm_values.specs.declared.file_meta.FileMeta.{FileMeta}
use Rattle.pm_values.specs.declared.group.Group.{Group}
use Rattle.pm_values.specs.declared.record.Stamped.{Stamped}
use Rattle.pm_schema.specs.Folder.{folder_text}
use Rattle.pm_schema.specs.declared.schema.TableSchema.{TableSchema}
use Rattle.pm_engine.specs.Covers.{Run}
use Rattle.pm_run.specs.Order.{keys_of, last_key}
use Rattle.pm_run.specs.Writing.{AreFilesOf, AreRising, changes_prefix, data_prefix, first_key, suffix}
use Rattle.pm_run.specs.declared.run.RunFile.{RunFile}
use Rattle.pm_snapshot.specs.Names.{changelog_file, rows_file}
use Rattle.pm_model_contents.specs.Runs.{data_path}
use Rattle.pm_model_folder.specs.Changes.{Actor, HavePlainNames, IsNamedBy, IsOwnFile, bucket}
use Rattle.pm_model_folder.specs.Runs.{view_of}
use Rattle.pm_model_folder.specs.Stored.{HasFile, HasRun, HaveFileRows}
use Rattle.pm_put.specs.Meaning.{IsPut}
use Rattle.pm_compact.specs.Made.{made_run, metas_of}
use Rattle.pm_compact.specs.Rewritten.{HaveOwnRows, most_in_file}
use Rattle.pm_runs.specs.Succession.{KnownRun, without_files}
use Rattle.pm_paths.proofs.ListLemmas.{cases, here, more, nowhere}
use Rattle.pm_write.specs.Files.{after_names}
use Rattle.pm_made.proofs.ListLemmas.{Pairs, each-of, in-map}
use Rattle.pm_compaction.specs.Plan.{NamesSoMany, group_file}

-- ---- their rows

made-rows : (f : Files) (s : TableSchema) (g : Group) (level : ℕ) (names : Naming) (made : List RunFile) (rows : Run) → AreFilesOf s most_in_file level names rows made
    → HaveOwnRows s made rows → AllByRecursion (IsPut f) (map (group_file s g) made) → HaveFileRows f s g (metas_of made) rows
made-rows f s g level names [] rows are own put = are
made-rows f s g level names (file ∷ made) rows are own put = (
  take most_in_file rows,
  drop most_in_file rows,
  sym (take-append-drop most_in_file rows),
  has,
  made-rows f s g level (counted names) made (drop most_in_file rows) are.2 own.1 put.1,
)
  where
    has : HasFile f s false g file.meta (take most_in_file rows)
    has = (let meta = are.1.meta in record {
      bytes = file.bytes;
      there = put.0;
      schema = meta.schema;
      read = own.0;
      tells = record { count = meta.count; least = meta.least; greatest = meta.greatest; lowest = meta.lowest; highest = meta.highest };
    })

-- the run that they are has these rows
pub made-held : (f : Files) (s : TableSchema) (g : Group) (level newest : ℕ) (names : Naming) (made : List RunFile) (run : Run)
    → AreFilesOf s most_in_file level names run made → HaveOwnRows s made run → AreRising run → AllByRecursion (IsPut f) (map (group_file s g) made)
    → AllByRecursion (λ (r : KnownRun). HasRun f s g (view_of r) (without_files r)) (made_run level newest run made)
made-held f s g level newest names [] run are own rising put = tt
made-held f s g level newest names (file ∷ made) run are own rising put =
    (record { level = refl; files = made-rows f s g level names (file ∷ made) run are own put; rising = rising }, tt)

-- ---- their names

-- each file has one of the names
pub named-file : (s : TableSchema) (most level : ℕ) (names : Naming) (rows : List Stamped) (made : List RunFile) (file : RunFile) → AreFilesOf s most level names rows made
    → Contains made file → (k : ℕ) × (k < length made) × (file.meta.name ≡ name_of data_prefix suffix (after_names k names))
named-file s most level names rows [] file are h = absurd (nowhere file h)
named-file s most level names rows (first ∷ made) file are h = at (cases first made file h) (λ later. named-file s most level (counted names) (drop most rows) made file are.2 later)
  where
    none-more : (n : ℕ) → n ≡ n + 0
    none-more n = omega arith

    one-more : (n k : ℕ) → n + 1 + k ≡ n + suc k
    one-more n k = omega arith

    at : (first ≡ file) ⊎ Contains made file
        → (Contains made file → (k : ℕ) × (k < length made) × (file.meta.name ≡ name_of data_prefix suffix (after_names k (counted names)))) → (k : ℕ) × (k < suc (length made)) × (file.meta.name ≡ name_of data_prefix suffix (after_names k names))
    at (inl is) rest = (
      0,
      omega arith,
      ap (λ (x : RunFile). x.meta.name) (sym is) ∙ are.1.meta.named ∙ ap (λ (n : ℕ). name_of data_prefix suffix (record names { count = n })) (none-more names.count),
    )
    at (inr later) rest =
        let (k, within, is) = rest later in
        (suc k, omega (arith, within), is ∙ ap (λ (n : ℕ). name_of data_prefix suffix (record names { count = n })) (one-more names.count k))

module _ (me : Actor) (base count : ℕ) (names : Naming) (makes : NamesSoMany me base count names) where
  pub naming-at : (k : ℕ) → k < count → IsNaming (after_names k names)
  naming-at k within = (let own = makes.may.is_maker in record {
    sixteen = own.sixteen;
    bytes = own.bytes;
    actor_bits = own.actor_bits;
    base_bits = own.base_bits;
    count_bits = (let room = makes.room in omega (arith, room, within));
  })

  abbrev pub named-by : (s : TableSchema) (g : Group) (name : List ℕ) (k : ℕ) → k < count → name ≡ name_of data_prefix suffix (after_names k names) → IsNamedBy me (data_path s g name)
  named-by s g name k within is = record {
    folder = folder_text s g;
    file = rows_file;
    names = after_names k names;
    may = record { is_maker = naming-at k within; actor_within = makes.may.actor_within; base_within = makes.may.base_within };
    session = makes.session;
    actor = makes.actor;
    is = ap (λ (text : List ℕ). folder_text s g ++ 47 ∷ text) is;
  }

  -- it is the actor's, with the base
  pub own-file : (s : TableSchema) (g : Group) (name : List ℕ) (k : ℕ) → HavePlainNames s → k < count → name ≡ name_of data_prefix suffix (after_names k names)
      → IsOwnFile me base (data_path s g name)
  own-file s g name k plain within is = record { by = named-by s g name k within is; in_table = bucket s g plain; based = makes.based }

  -- so is a changelog file with the first of them
  pub own-log : (s : TableSchema) (g : Group) (name : List ℕ) → HavePlainNames s → name ≡ name_of changes_prefix suffix names → IsOwnFile me base (data_path s g name)
  own-log s g name plain is = record {
    by = record {
      folder = folder_text s g;
      file = changelog_file;
      names = names;
      may = makes.may;
      session = makes.session;
      actor = makes.actor;
      is = ap (λ (text : List ℕ). folder_text s g ++ 47 ∷ text) is;
    };
    in_table = bucket s g plain;
    based = makes.based;
  }

-- ---- their keys

-- of rows that rise the first have lower keys than the later ones
keys-right : (xs ys : List Stamped) (b : Values) → Contains (keys_of ys) b → Contains (keys_of (xs ++ ys)) b
keys-right [] ys b h = h
keys-right (x ∷ xs) ys b h = more x.key (keys_of (xs ++ ys)) b (keys-right xs ys b h)

rising-across : (xs ys : List Stamped) (a b : Values) → AreRising (xs ++ ys) → Contains (keys_of xs) a → Contains (keys_of ys) b → key_cmp a b ≡ Less
unfolding IsStrictlySortedBy
rising-across [] ys a b rise ha hb = absurd (nowhere a ha)
rising-across (x ∷ xs) ys a b rise ha hb = elim (cases x.key (keys_of xs) a ha) as (λ _. key_cmp a b ≡ Less) [
  | inl is ↦ subst (λ (k : Values). key_cmp k b ≡ Less) is
      (each-of (λ (k : Values). key_cmp x.key k ≡ Less) (keys_of (xs ++ ys)) b rise.0 (keys-right xs ys b hb))
  | inr later ↦ rising-across xs ys a b rise.1 later hb
]

rising-later : (xs ys : List Stamped) → AreRising (xs ++ ys) → AreRising ys
unfolding IsStrictlySortedBy
rising-later [] ys rise = rise
rising-later (x ∷ xs) ys rise = rising-later xs ys rise.1

some-key : (a b : Values) → Some a ≡ Some b → a ≡ b
some-key a b is = cc

none-key : (a : Values) → None ≡ Some a → ⊥
none-key a is = cc

-- the first key and the last one are keys of the rows
pub first-in : (rows : List Stamped) (k : Values) → first_key rows ≡ Some k → Contains (keys_of rows) k
first-in [] k is = absurd (none-key k is)
first-in (x ∷ rows) k is = subst (Contains (keys_of (x ∷ rows))) (some-key x.key k is) (here x.key (keys_of rows))

last-in : (before : Option Values) (rows : List Stamped) (k : Values) → last_key before rows ≡ Some k → (before ≡ Some k) ⊎ Contains (keys_of rows) k
last-in before [] k is = inl is
last-in before (x ∷ rows) k is = elim (last-in (Some x.key) rows k is) as (λ _. (before ≡ Some k) ⊎ Contains (keys_of (x ∷ rows)) k) [
  | inl own ↦ inr (subst (Contains (keys_of (x ∷ rows))) (some-key x.key k own) (here x.key (keys_of rows)))
  | inr later ↦ inr (more x.key (keys_of rows) k later)
]

taken-key : (n : ℕ) (rows : List Stamped) (k : Values) → Contains (keys_of (take n rows)) k → Contains (keys_of rows) k
taken-key zero rows k h = absurd (nowhere k h)
taken-key (suc n) [] k h = absurd (nowhere k h)
taken-key (suc n) (x ∷ rows) k h = elim (cases x.key (keys_of (take n rows)) k h) as (λ _. Contains (keys_of (x ∷ rows)) k) [
  | inl is ↦ subst (Contains (keys_of (x ∷ rows))) is (here x.key (keys_of rows))
  | inr later ↦ more x.key (keys_of rows) k (taken-key n rows k later)
]

dropped-key : (n : ℕ) (rows : List Stamped) (k : Values) → Contains (keys_of (drop n rows)) k → Contains (keys_of rows) k
dropped-key zero rows k h = h
dropped-key (suc n) [] k h = absurd (nowhere k h)
dropped-key (suc n) (x ∷ rows) k h = more x.key (keys_of rows) k (dropped-key n rows k h)

-- the least key of each file is one of the rows' keys
pub least-in : (s : TableSchema) (most level : ℕ) (names : Naming) (rows : List Stamped) (made : List RunFile) (m : FileMeta) → AreFilesOf s most level names rows made
    → Contains (metas_of made) m → Contains (keys_of rows) m.min_key
least-in s most level names rows [] m are h = absurd (nowhere m h)
least-in s most level names rows (file ∷ made) m are h = elim (cases file.meta (metas_of made) m h) as (λ _. Contains (keys_of rows) m.min_key) [
  | inl is ↦ subst (λ (m : FileMeta). Contains (keys_of rows) m.min_key) is
      (taken-key most rows file.meta.min_key (first-in (take most rows) file.meta.min_key are.1.meta.least))
  | inr later ↦ dropped-key most rows m.min_key (least-in s most level (counted names) (drop most rows) made m are.2 later)
]

-- the greatest key, too
pub last-own : (rows : List Stamped) (k : Values) → last_key None rows ≡ Some k → Contains (keys_of rows) k
last-own rows k is = elim (last-in None rows k is) as (λ _. Contains (keys_of rows) k) [
  | inl none ↦ absurd (none-key k none)
  | inr own ↦ own
]

pub greatest-in : (s : TableSchema) (most level : ℕ) (names : Naming) (rows : List Stamped) (made : List RunFile) (m : FileMeta) → AreFilesOf s most level names rows made
    → Contains (metas_of made) m → Contains (keys_of rows) m.max_key
greatest-in s most level names rows [] m are h = absurd (nowhere m h)
greatest-in s most level names rows (file ∷ made) m are h = elim (cases file.meta (metas_of made) m h) as (λ _. Contains (keys_of rows) m.max_key) [
  | inl is ↦ subst (λ (m : FileMeta). Contains (keys_of rows) m.max_key) is
      (taken-key most rows file.meta.max_key (last-own (take most rows) file.meta.max_key are.1.meta.greatest))
  | inr later ↦ dropped-key most rows m.max_key (greatest-in s most level (counted names) (drop most rows) made m are.2 later)
]

-- ---- one after another

-- a file of a run and a later one: its keys are lower, and its name is another
pub record ComesBefore (a b : FileMeta) : Type 0 where
  pub below : key_cmp a.max_key b.min_key ≡ Less
  pub lower : key_cmp a.min_key b.min_key ≡ Less
  pub apart : a.name ≢ b.name

-- equal names have the same numbers
abbrev pub OneName : Type 0
OneName = (prefix suffix : List ℕ) (m n : Naming) → IsNaming m → IsNaming n → name_of prefix suffix m ≡ name_of prefix suffix n → m ≡ n

module _ (one : OneName) (s : TableSchema) (most level : ℕ) where
  names-apart : (me : Actor) (base count : ℕ) (names : Naming) (j k : ℕ) → NamesSoMany me base count names → j < k → k < count
      → name_of data_prefix suffix (after_names j names) ≡ name_of data_prefix suffix (after_names k names) → ⊥
  names-apart me base count names j k makes less within same =
      let first = naming-at me base count names makes j (omega (arith, less, within)) in
      let second = naming-at me base count names makes k within in
      let is = ap (λ (n : Naming). n.count) (one data_prefix suffix (after_names j names) (after_names k names) first second same) in
      omega (arith, is, less)

  pub in-turn : (me : Actor) (base : ℕ) (names : Naming) (rows : List Stamped) (made : List RunFile) → NamesSoMany me base (length made) names → AreRising rows
      → AreFilesOf s most level names rows made → Pairs ComesBefore (metas_of made)
  in-turn me base names rows [] makes rising are = tt
  in-turn me base names rows (file ∷ made) makes rising are = (
    λ m h. before m h,
    in-turn me base (counted names) (drop most rows) made next (rising-later (take most rows) (drop most rows) parted) are.2,
  )
    where
      parted : AreRising (take most rows ++ drop most rows)
      parted = subst AreRising (sym (take-append-drop most rows)) rising

      next : NamesSoMany me base (length made) (counted names)
      next = record {
        may = record {
          is_maker = (let own = makes.may.is_maker in record {
            sixteen = own.sixteen;
            bytes = own.bytes;
            actor_bits = own.actor_bits;
            base_bits = own.base_bits;
            count_bits = (let room = makes.room in omega (arith, room));
          });
          actor_within = makes.may.actor_within;
          base_within = makes.may.base_within;
        };
        session = makes.session;
        actor = makes.actor;
        based = makes.based;
        room = (let room = makes.room in omega (arith, room));
      }

      before : (m : FileMeta) → Contains (metas_of made) m → ComesBefore file.meta m
      before m h =
          let later = least-in s most level (counted names) (drop most rows) made m are.2 h in
          let meta = are.1.meta in
          let (own, there, is) = in-map (λ (f : RunFile). f.meta) made m h in
          let (k, within, named) = named-file s most level (counted names) (drop most rows) made own are.2 there in
          record {
            below = rising-across (take most rows) (drop most rows) file.meta.max_key m.min_key parted
                (last-own (take most rows) file.meta.max_key meta.greatest) later;
            lower = rising-across (take most rows) (drop most rows) file.meta.min_key m.min_key parted (first-in (take most rows) file.meta.min_key meta.least) later;
            apart = λ same. names-apart me base (suc (length made)) names 0 (suc k) makes (omega arith) (omega (arith, within))
                (ap (λ (n : ℕ). name_of data_prefix suffix (record names { count = n })) (let z : names.count + 0 ≡ names.count = omega arith in z)
                ∙ sym meta.named ∙ same ∙ ap (λ (m : FileMeta). m.name) (sym is) ∙ named
                ∙ ap (λ (n : ℕ). name_of data_prefix suffix (record names { count = n })) (let z : names.count + 1 + k ≡ names.count + suc k = omega arith in z));
          }
