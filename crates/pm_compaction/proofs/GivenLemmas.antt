-- What a plan shows of its commit: the files that were made are the actor's, and the count that it bears is within that of the newest snapshot.
use Rattle.std.proofs.Common.{◌≡◌, ℕ, ◌≤◌, List, length, option_to_list, Contains, sym, subst, arith}
use Rattle.std.specs.List.{AllByRecursion, flat_map}
use Rattle.pm_base.proofs.Laws.{AllByRecursion-append}
use Rattle.pm_store.specs.Files.{Files}
use Rattle.pm_model_history.specs.History.{Entry, History, table}
use Rattle.pm_schema.specs.declared.schema.TableSchema.{TableSchema}
use Rattle.pm_run.specs.declared.run.RunFile.{RunFile}
use Rattle.pm_snapshot.specs.declared.snapshot.Snapshot.{Snapshot}
use Rattle.pm_manifest.specs.declared.entry.Entry as files
use Rattle.pm_model_contents.specs.Runs.{data_path}
use Rattle.pm_model_folder.specs.Changes.{Actor, HavePlainNames, IsOwnFile}
use Rattle.pm_model_folder.specs.Folder.{Folder, HasTable}
use Rattle.pm_model_folder.specs.Ledger.{Past, Stands}
use Rattle.pm_model_folder.specs.Meaning.{SnapshotAt}
use Rattle.pm_model_folder.proofs.HoldLemmas.{OneContents, SameContents}
use Rattle.pm_model_folder.proofs.LedgerFacts.{count-is}
use Rattle.pm_put.specs.declared.putting.CommitFile.{CommitFile}
use Rattle.pm_compact.specs.Rewritten.{most_in_file}
use Rattle.pm_choice.specs.Choice.{live_entry}
use Rattle.pm_made.specs.Commit.{Attempt, AreOwnFiles, IsFullWithin, IsNewestOf}
use Rattle.pm_made.specs.Intent.{given_files}
use Rattle.pm_made.specs.declared.intent.Intent.{Intent}
use Rattle.pm_made.specs.declared.intent.Intent.TheVariants as intents
use Rattle.pm_made.specs.declared.intent.Plan.{Plan}
use Rattle.pm_made.specs.declared.newest.Newest.{Newest}
use Rattle.pm_made.proofs.ListLemmas.{all-of, each-of, in-map}
use Rattle.pm_made.proofs.StandLemmas.{OneRuns}
use Rattle.pm_compaction.specs.Plan.{IsRewrittenAt, IsToldAt, KnowsPlan, ToldGroup, comes_of, group_file, made_files, tells_of, told_files}
use Rattle.pm_compaction.proofs.ListLemmas.{in-flat}
use Rattle.pm_compaction.proofs.MadeLemmas.{named-file, own-file, own-log}
use Rattle.pm_compaction.proofs.NewestLemmas.{found, found-appends, stood}
use Rattle.pm_compaction.proofs.ToldLemmas.{is-of-log}

-- ---- whose files they are

module _ (me : Actor) (s : TableSchema) (plain : HavePlainNames s) (base : ℕ) (plan : Plan) (given : List CommitFile) (p : Past) (knows : KnowsPlan me s base plan given p) where
  own-entry : (e : files.Entry) → Contains plan.added.items e → IsOwnFile me base (data_path s e.group e.file.name)
  own-entry e h =
      let (x, there, own) = in-flat (comes_of s) knows.groups e (subst (λ (es : List files.Entry). Contains es e) knows.comes h) in
      let (file, has, same) = in-map (λ (f : RunFile). live_entry s x.group f.meta) x.files e own in
      let is = each-of (IsRewrittenAt me s base p) knows.groups x knows.each there in
      let (k, within, name) = named-file s most_in_file x.taking.out x.names is.made.run x.files file is.made.files has in
      subst (λ (e : files.Entry). IsOwnFile me base (data_path s e.group e.file.name)) same
      (own-file me base (length x.files) x.names is.names s x.group file.meta.name k plain within name)

  own-told : (y : ToldGroup) → IsToldAt me s base p y → (f : RunFile) → Contains (option_to_list y.file) f → IsOwnFile me base (data_path s y.group f.meta.name)
  own-told y is f h = own-log me base (length (option_to_list y.file)) y.names is.names s y.group f.meta.name plain
      (is-of-log s y.names is.log y.file f is.written h).made.meta.named

  own-change : (e : files.Entry) → Contains plan.changes.items e → IsOwnFile me base (data_path s e.group e.file.name)
  own-change e h =
      let (y, there, own) = in-flat (tells_of s) knows.told e (subst (λ (es : List files.Entry). Contains es e) knows.tells h) in
      let (file, has, same) = in-map (λ (f : RunFile). live_entry s y.group f.meta) (option_to_list y.file) e own in
      subst (λ (e : files.Entry). IsOwnFile me base (data_path s e.group e.file.name)) same
      (own-told y (each-of (IsToldAt me s base p) knows.told y knows.each_told there) file has)

  pub own-files : AllByRecursion (λ (e : files.Entry). IsOwnFile me base (data_path s e.group e.file.name)) (given_files (intents.Compact plan))
  own-files = AllByRecursion-append (λ (e : files.Entry). IsOwnFile me base (data_path s e.group e.file.name)) plan.added.items plan.changes.items
      (all-of (λ (e : files.Entry). IsOwnFile me base (data_path s e.group e.file.name)) plan.added.items own-entry)
      (all-of (λ (e : files.Entry). IsOwnFile me base (data_path s e.group e.file.name)) plan.changes.items own-change)

  -- and so are those that were created
  log-own : (file : CommitFile) → Contains (flat_map (told_files s) knows.told) file → IsOwnFile me base file.path
  log-own file h =
      let (y, there, own) = in-flat (told_files s) knows.told file h in
      let (f, has, same) = in-map (group_file s y.group) (option_to_list y.file) file own in
      subst (λ (file : CommitFile). IsOwnFile me base file.path) same (own-told y (each-of (IsToldAt me s base p) knows.told y knows.each_told there) f has)

  made-own : (file : CommitFile) → Contains (flat_map (made_files s) knows.groups) file → IsOwnFile me base file.path
  made-own file h =
      let (x, there, own) = in-flat (made_files s) knows.groups file h in
      let (f, has, same) = in-map (group_file s x.group) x.files file own in
      let is = each-of (IsRewrittenAt me s base p) knows.groups x knows.each there in
      let (k, within, name) = named-file s most_in_file x.taking.out x.names is.made.run x.files f is.made.files has in
      subst (λ (file : CommitFile). IsOwnFile me base file.path) same
      (own-file me base (length x.files) x.names is.names s x.group f.meta.name k plain within name)

  pub given-own : AllByRecursion (λ (file : CommitFile). IsOwnFile me base file.path) given
  given-own = subst (AllByRecursion (λ (file : CommitFile). IsOwnFile me base file.path)) (sym knows.given_are)
      (AllByRecursion-append (λ (file : CommitFile). IsOwnFile me base file.path) (flat_map (made_files s) knows.groups) (flat_map (told_files s) knows.told)
      (all-of (λ (file : CommitFile). IsOwnFile me base file.path) (flat_map (made_files s) knows.groups) made-own)
      (all-of (λ (file : CommitFile). IsOwnFile me base file.path) (flat_map (told_files s) knows.told) log-own))

pub attempt-own : (me : Actor) (s : TableSchema) (t : Attempt) (plan : Plan) (given : List CommitFile) (p : Past) → HavePlainNames s
    → KnowsPlan me s t.author.base plan given p → t.intent ≡ intents.Compact plan → AreOwnFiles me s t
attempt-own me s t plan given p plain knows is =
    subst (λ (i : Intent). AllByRecursion (λ (e : files.Entry). IsOwnFile me t.author.base (data_path s e.group e.file.name)) (given_files i)) (sym is)
    (own-files me s plain t.author.base plan given p knows)

-- ---- how many appends it bears

-- the count of appends never falls
abbrev pub AppendsRise : Type 0
AppendsRise = (f : Files) (p : Past) (s : TableSchema) (entries : List Entry) (early late : ℕ) (x y : Snapshot) → Stands f p → p.history ≡ table s entries
    → p.since ≤ early → 1 ≤ early → early ≤ late → late ≤ length entries → SnapshotAt (p.stood early) early x → SnapshotAt (p.stood late) late y
    → x.appends ≤ y.appends

pub base-to : (me : Actor) (s : TableSchema) (entries : List Entry) (base : ℕ) (plan : Plan) (given : List CommitFile) (p : Past)
    → p.history ≡ table s entries → KnowsPlan me s base plan given p → base ≤ length entries
base-to me s entries base plan given p was knows = let high = knows.known.to in let many = count-is p s entries was in omega (arith, high, many)

module _ (rise : AppendsRise) (one : OneContents) (same : SameContents) (one_runs : OneRuns) (me : Actor) (f : Files) (p : Past) (s : TableSchema)
    (entries : List Entry) (newest : Newest) (base : ℕ) (plan : Plan) (given : List CommitFile) (stands : Stands f p) (was : p.history ≡ table s entries)
    (is : IsNewestOf f s entries newest) (knows : KnowsPlan me s base plan given p) where
  folder : HasTable f s entries
  folder = subst (λ (h : History). Folder f h) was stands.folder

  to : base ≤ length entries
  to = base-to me s entries base plan given p was knows

  some : 1 ≤ length entries
  some = let least = knows.known.after_origin in omega (arith, least, to)

  pub full-within : IsFullWithin newest.snapshot (intents.Compact plan)
  full-within appends asked =
      let (x, at, same_count) = knows.full appends asked in
      let there = stood one same one_runs f p s entries newest stands was folder is some in
      let less = rise f p s entries base (length entries) x (found one same one_runs f p s entries newest stands was folder is some).snapshot stands was
      knows.since knows.known.after_origin to (omega arith) at there.0 in
      let now = found-appends one same one_runs f p s entries newest stands was folder is some newest.snapshot is.found in
      omega (arith, same_count, less, now)
