-- The changelog of a snapshot as it stood, and its files.
use Rattle.std.proofs.Common.{◌≡◌, ℕ, ◌≤◌, List, [], ◌∷◌, ◌++◌, true, length, take, Contains, None, Some, IsSome, refl, sym, ap, subst, ◌∙◌, arith, append_assoc, append-nil}
use Rattle.std.specs.FinMap as paths
use Rattle.std.specs.List.{AllByRecursion}
use Rattle.std.proofs.lemmas.List.Elements.{Contains-append_right}
use Rattle.pm_base.proofs.Laws.{AllByRecursion-parts}
use Rattle.pm_values.specs.declared.record.Stamped.{Stamped}
use Rattle.pm_store.specs.Files.{Files}
use Rattle.pm_schema.specs.declared.schema.TableSchema.{TableSchema}
use Rattle.pm_model_history.specs.History.{Entry, table}
use Rattle.pm_snapshot.specs.declared.snapshot.Snapshot.{Snapshot}
use Rattle.pm_manifest.specs.declared.entry.Entry as files
use Rattle.pm_model_contents.specs.Named.{Contents, HasContents, IsNamed, changes_file}
use Rattle.pm_model_folder.specs.Commits.{IsCommitted}
use Rattle.pm_model_folder.specs.Folder.{HasTable}
use Rattle.pm_model_folder.specs.Ledger.{Past, Stands}
use Rattle.pm_model_folder.specs.Stored.{HasFile, HoldsChange}
use Rattle.pm_model_folder.proofs.HoldLemmas.{OneContents, one-snapshot}
use Rattle.pm_model_folder.proofs.LedgerFacts.{at-table, count-is}
use Rattle.pm_read_table.specs.Meaning.{HasGone}
use Rattle.pm_read_table.proofs.Facts.{found_stood, gone_now, some_there}
use Rattle.pm_paths.proofs.ListLemmas.{here}
use Rattle.pm_read_log.specs.LogMeaning.{IsLogIn}
use Rattle.pm_read_log.specs.declared.log.Log.{Log}
use Rattle.pm_merged_log.specs.Merged.{merged_frame}
use Rattle.pm_read_frame.specs.Meaning.{HasTaken, IsFrame}
use Rattle.pm_read_frame.specs.Taken.{HaveTaken, Takes, file_of, files_of}
use Rattle.pm_read_frame.specs.declared.file.ChangesFile.{ChangesFile}
use Rattle.pm_read_frame.proofs.ChangeLemmas.{FrameLaws, frame_is}

-- ---- texts of files

pub taken_more : (f : Files) (s : TableSchema) (done : List ChangesFile) (file : ChangesFile) (bytes : List ℕ) (old middle new : List Stamped) → HaveTaken f s done old middle
    → paths.get f file.path ≡ Some bytes → Takes s file bytes middle new → HaveTaken f s (done ++ file ∷ []) old new
taken_more f s [] file bytes old middle new same there takes =
    (bytes, new, there, subst (λ (rows : List Stamped). Takes s file bytes rows new) same takes, refl)
taken_more f s (first ∷ done) file bytes old middle new (own, here, found, took, rest) there takes =
    (own, here, found, took, taken_more f s done file bytes here middle new rest there takes)

-- ---- a commit with this changelog

pub record LogCommit (f g : Files) (p : Past) (l : Log) : Type 0 where
  pub entries : List Entry
  pub is_table : p.history ≡ table l.schema entries
  pub folder : HasTable f l.schema entries
  pub within : l.snapshot.id ≤ length entries
  pub contents : Contents
  pub has : HasContents g l.schema l.snapshot contents
  pub changes : contents.changes ≡ l.changes.items
  pub holds : HoldsChange g l.schema (take l.snapshot.id entries) l.snapshot.id l.changes.items

pub log_commit : OneContents → (f : Files) (p : Past) (l : Log) → Stands f p → IsLogIn p l → LogCommit f (p.stood l.snapshot.id) p l
log_commit one f p l stands (stood, logged) =
    let s = l.schema in
    let id = l.snapshot.id in
    let g = p.stood id in
    let own = at-table f p s stands stood.table in
    let commit : IsCommitted g s (take id own.0) id = own.3.committed id stood.known in
    let same = one-snapshot g id commit.snapshot l.snapshot commit.there stood.was in
    let has : HasContents g s l.snapshot commit.contents = subst (λ (x : Snapshot). HasContents g s x commit.contents) same commit.has in
    let c = commit.contents in
    let other : Contents = record { base = c.base; delta = c.delta; entries = c.entries; changelog = l.manifests.items; changes = l.changes.items } in
    let had : HasContents g s l.snapshot other = record { table = has.table; changelog = logged } in
    let are : c.changes ≡ l.changes.items = ap (λ (c : Contents). c.changes) (one g s l.snapshot c other has had) in
    let many = count-is p s own.0 own.1 in
    let high = stood.known.to in
    record {
      entries = own.0;
      is_table = own.1;
      folder = own.2;
      within = omega (arith, high, many);
      contents = c;
      has = has;
      changes = are;
      holds = subst (HoldsChange g s (take id own.0) id) are commit.changes;
    }

-- ---- its files

abbrev pub IsThere : Files → TableSchema → files.Entry → Type 0
IsThere g s e = (rows : List Stamped) × HasFile g s true e.group e.file rows

-- the next of the files is an entry's
pub record NextOf (s : TableSchema) (es : List files.Entry) (file : ChangesFile) : Type 0 where
  pub entry : files.Entry
  pub before : List files.Entry
  pub after : List files.Entry
  pub parts : es ≡ before ++ entry ∷ after
  pub is : file ≡ file_of s entry

head_same : (x y : ChangesFile) (xs ys : List ChangesFile) → x ∷ xs ≡ y ∷ ys → y ≡ x
head_same x y xs ys is = cc

tail_same : (x y : ChangesFile) (xs ys : List ChangesFile) → x ∷ xs ≡ y ∷ ys → xs ≡ ys
tail_same x y xs ys is = cc

none_not : (done rest : List ChangesFile) (file : ChangesFile) → [] ≡ done ++ file ∷ rest → ⊥
none_not [] rest file is = cc
none_not (first ∷ done) rest file is = cc

pub next_of : (s : TableSchema) (es : List files.Entry) (done : List ChangesFile) (file : ChangesFile) (rest : List ChangesFile)
    → files_of s es ≡ done ++ file ∷ rest → NextOf s es file
next_of s [] done file rest parts = absurd (none_not done rest file parts)
next_of s (e ∷ es) [] file rest parts = record {
  entry = e;
  before = [];
  after = es;
  parts = refl;
  is = head_same (file_of s e) file (files_of s es) rest parts;
}
next_of s (e ∷ es) (first ∷ done) file rest parts =
    let later = next_of s es done file rest (tail_same (file_of s e) first (files_of s es) (done ++ file ∷ rest) parts) in record {
      entry = later.entry;
      before = e ∷ later.before;
      after = later.after;
      parts = ap (λ (es : List files.Entry). e ∷ es) later.parts;
      is = later.is;
    }

pub its_file : (g : Files) (s : TableSchema) (es : List files.Entry) (file : ChangesFile) → (next : NextOf s es file) → AllByRecursion (IsThere g s) es → IsThere g s next.entry
its_file g s es file next all =
    (AllByRecursion-parts (IsThere g s) next.before (next.entry ∷ next.after) (subst (AllByRecursion (IsThere g s)) next.parts all)).1.0

pub is_listed : (s : TableSchema) (es : List files.Entry) (file : ChangesFile) → (next : NextOf s es file) → Contains es next.entry
is_listed s es file next =
    subst (λ (es : List files.Entry). Contains es next.entry) (sym next.parts)
    (Contains-append_right next.before (next.entry ∷ next.after) next.entry (here next.entry next.after))

module _ (one : OneContents) (f : Files) (p : Past) (l : Log) (rows : List Stamped) (file : ChangesFile) (rest : List ChangesFile) (stands : Stands f p)
    (taken : HasTaken p l rows (file ∷ rest)) where
  pub commit : LogCommit f (p.stood l.snapshot.id) p l
  commit = log_commit one f p l stands taken.is_log

  pub next : NextOf l.schema l.changes.items file
  next = next_of l.schema l.changes.items taken.done file rest taken.parts

  next_named : IsNamed l.schema l.snapshot commit.contents file.path
  next_named =
      subst (λ (file : ChangesFile). IsNamed l.schema l.snapshot commit.contents file.path) (sym next.is)
      (changes_file next.entry (subst (λ (es : List files.Entry). Contains es next.entry) (sym commit.changes) (is_listed l.schema l.changes.items file next)))

  -- it was there
  pub next_file : IsThere (p.stood l.snapshot.id) l.schema next.entry
  next_file = its_file (p.stood l.snapshot.id) l.schema l.changes.items file next commit.holds.each

  next_there : IsSome (paths.get (p.stood l.snapshot.id) file.path)
  next_there =
      subst (λ (file : ChangesFile). IsSome (paths.get (p.stood l.snapshot.id) file.path)) (sym next.is)
      (some_there (p.stood l.snapshot.id) (file_of l.schema next.entry).path next_file.1.bytes next_file.1.there)

  -- what is found of it is what stood
  pub next_stood : (bytes : List ℕ) → Some bytes ≡ paths.get f file.path → paths.get (p.stood l.snapshot.id) file.path ≡ Some bytes
  next_stood bytes told = found_stood f p l.schema l.snapshot stands taken.is_log.0 commit.contents commit.has file.path next_named bytes told

  -- where it is absent, the snapshot has gone
  pub next_gone : None ≡ paths.get f file.path → HasGone f p l.schema l.snapshot.id
  next_gone told = gone_now f p l.schema l.snapshot stands taken.is_log.0 commit.contents commit.has file.path next_named next_there told

  -- once it is read, the files that are left are to be read
  pub next_taken : (bytes : List ℕ) (new : List Stamped) → Some bytes ≡ paths.get f file.path → Takes l.schema file bytes rows new → HasTaken p l new rest
  next_taken bytes new told takes = record {
    is_log = taken.is_log;
    done = taken.done ++ file ∷ [];
    parts = taken.parts ∙ sym (append_assoc taken.done (file ∷ []) rest);
    taken = taken_more (p.stood l.snapshot.id) l.schema taken.done file bytes [] rows new taken.taken (next_stood bytes told) takes;
  }

-- none was read yet
pub first_taken : (p : Past) (l : Log) → IsLogIn p l → HasTaken p l [] (files_of l.schema l.changes.items)
first_taken p l logged = record { is_log = logged; done = []; parts = refl; taken = refl }

-- all were read
pub all_taken : OneContents → FrameLaws → (f : Files) (p : Past) (l : Log) (rows : List Stamped) → Stands f p → HasTaken p l rows []
    → IsFrame p l.snapshot.id (merged_frame l.schema l.snapshot.id rows)
all_taken one laws f p l rows stands taken =
    let id = l.snapshot.id in
    let commit = log_commit one f p l stands taken.is_log in
    let whole : files_of l.schema l.changes.items ≡ taken.done = taken.parts ∙ append-nil taken.done in
    record {
      schema = l.schema;
      entries = commit.entries;
      is_table = commit.is_table;
      known = taken.is_log.0.known;
      is_text = frame_is laws f (p.stood id) l.schema commit.entries id l.changes.items rows commit.folder commit.within commit.holds
          (subst (λ (files : List ChangesFile). HaveTaken (p.stood id) l.schema files [] rows) (sym whole) taken.taken);
    }
