-- What a commit changes, by what it is for: which entries go and come, and who named their files.
use Rattle.std.proofs.Common.{◌≡◌, ℕ, ◌+◌, ◌*◌, true, not, List, [], ◌++◌, length, map, filter, Contains, refl, sym, ap, subst, ◌∙◌, arith}
use Rattle.std.specs.List.{AllByRecursion}
use Rattle.pm_values.specs.Names.{Naming}
use Rattle.pm_schema.specs.declared.schema.TableSchema.{TableSchema}
use Rattle.pm_manifest.specs.declared.entry.Entry.{Entry}
use Rattle.pm_model_contents.specs.Runs.{data_path}
use Rattle.pm_model_folder.specs.Changes.{Actor, IsOwnFile}
use Rattle.pm_put.specs.declared.putting.CommitFile.{CommitFile}
use Rattle.pm_write.specs.Batch.{Groups, logs_in}
use Rattle.pm_write.specs.Files.{after_names}
use Rattle.pm_write.specs.declared.files.NewFile.{NewFile}
use Rattle.pm_made.specs.Delta.{Delta, added_entry, adding}
use Rattle.pm_made.specs.Files.{AreNumbered, HasDelta, appends, compacts, fences}
use Rattle.pm_made.specs.Intent.{given_files, most_files, removed_of}
use Rattle.pm_made.specs.declared.intent.Intent.{Intent}
use Rattle.pm_made.specs.declared.intent.Intent.TheVariants as intents
use Rattle.pm_made.specs.declared.newest.Newest.{Newest}
use Rattle.pm_made.proofs.ListLemmas.{each-of, filter-in, in-left, in-map, in-right, none-in}
use Rattle.pm_made.proofs.LogLemmas.{changelog-files, changelog-least, manifests_of, no-items, no-logs}
use Rattle.pm_made.proofs.MadeLemmas.{IsMade, MayGive, later-maker, made-data, made-given}
use Rattle.pm_made.proofs.NewFileLemmas.{named-file}
use Rattle.pm_made.proofs.NumberLemmas.{changes-are, files-many, logs-many}

-- how many manifests of changelog files a try makes at most
abbrev pub more_of : Intent → ℕ
more_of (intents.Append batch) = manifests_of (length (logs_in batch))
more_of other = 1

module _ (s : TableSchema) (newest : Newest) (names : Naming) where
  -- those that go are the ones that it is for
  pub removed-are : (intent : Intent) (d : Delta) (made : List CommitFile) (left : Naming) → HasDelta s newest names intent d made left
      → d.removed ≡ removed_of intent
  removed-are _ _ _ _ (appends batch xs numbered) = refl
  removed-are _ _ _ _ (compacts plan) = refl
  removed-are _ _ _ _ (fences number) = refl

  -- those that come add files
  pub delta-adds : (intent : Intent) (d : Delta) (made : List CommitFile) (left : Naming) → HasDelta s newest names intent d made left
      → (e : Entry) → Contains d.added e → e.add ≡ true
  delta-adds _ _ _ _ (appends batch xs numbered) e h = let found = in-map (added_entry s) (filter (λ (x : NewFile). not x.changelog) xs) e h in
      ap (λ (z : Entry). z.add) (sym found.2)
  delta-adds _ _ _ _ (compacts plan) e h = let found = in-map adding plan.added.items e h in ap (λ (z : Entry). z.add) (sym found.2)
  delta-adds _ _ _ _ (fences number) e h = absurd (none-in e h)

  -- where it makes none there are no changelog files
  pub none-told : (intent : Intent) (d : Delta) (made : List CommitFile) (left : Naming) → HasDelta s newest names intent d made left
      → more_of intent ≡ 0 → d.changes ≡ []
  none-told _ _ _ _ (appends batch xs numbered) none =
      let new = numbered.are_new in
      let many = logs-many s (after_names (length new.data_files) names) (logs_in batch) new.changes new.logs in
      ap (map (added_entry s)) (changes-are s numbered.next names batch xs new ∙ no-items new.changes (many ∙ no-logs (length (logs_in batch)) none))
  none-told _ _ _ _ (compacts plan) none = absurd (omega (arith, none))
  none-told _ _ _ _ (fences number) none = refl

  module _ (me : Actor) (base : ℕ) where
    -- the actor named the file of an entry, with this base
    abbrev pub NamedEntry : Entry → Type 0
    NamedEntry e = IsMade me base (data_path s e.group e.file.name)

    pub record NamesFiles (d : Delta) : Type 0 where
      pub added : (e : Entry) → Contains d.added e → NamedEntry e
      pub changes : (e : Entry) → Contains d.changes e → NamedEntry e

    named-entry : (xs : List NewFile) → ((x : NewFile) → Contains xs x → IsMade me base (data_path s x.group x.meta.name))
        → (e : Entry) → Contains (map (added_entry s) xs) e → NamedEntry e
    named-entry xs each e h =
        let found = in-map (added_entry s) xs e h in
        subst (λ (z : Entry). IsMade me base (data_path s z.group z.file.name)) found.2 (each found.0 found.1)

    named-new : (batch : Groups) (xs : List NewFile) → AreNumbered s newest.live.items names batch xs → MayGive me base (most_files (intents.Append batch)) names
        → (x : NewFile) → Contains xs x → IsMade me base (data_path s x.group x.meta.name)
    named-new batch xs numbered may x h =
        let has = named-file s numbered.next names batch xs x numbered.are_new h in
        made-data me base has.kind (after_names has.index names) s x.group x.meta.name
        (later-maker me base has.index names may.maker
        (let room = may.room in let w = has.within in let many = files-many s numbered.next names batch xs numbered.are_new in
        let logs = changelog-least (length (logs_in batch)) in omega (arith, room, many, w, logs)))
        has.name

    -- the file of an entry was given, and is the actor's
    abbrev pub OwnEntry : Entry → Type 0
    OwnEntry e = IsOwnFile me base (data_path s e.group e.file.name)

    named-given : (given es : List Entry) → AllByRecursion OwnEntry given → ((e : Entry) → Contains es e → Contains given e)
        → (e : Entry) → Contains (map adding es) e → NamedEntry e
    named-given given es own within e h =
        let found = in-map adding es e h in
        let x = found.0 in
        subst NamedEntry found.2 (made-given me base (data_path s x.group x.file.name) (each-of OwnEntry given x own (within x found.1)))

    -- all that come
    pub names-files : (intent : Intent) (d : Delta) (made : List CommitFile) (left : Naming) → HasDelta s newest names intent d made left
        → MayGive me base (most_files intent) names → AllByRecursion OwnEntry (given_files intent) → NamesFiles d
    names-files _ _ _ _ (appends batch xs numbered) may own = record {
      added = named-entry (filter (λ (x : NewFile). not x.changelog) xs)
          (λ x h. named-new batch xs numbered may x (filter-in (λ (x : NewFile). not x.changelog) xs x h).0);
      changes = named-entry (filter (λ (x : NewFile). x.changelog) xs)
          (λ x h. named-new batch xs numbered may x (filter-in (λ (x : NewFile). x.changelog) xs x h).0);
    }
    names-files _ _ _ _ (compacts plan) may own = record {
      added = named-given (plan.added.items ++ plan.changes.items) plan.added.items own (in-left plan.added.items plan.changes.items);
      changes = named-given (plan.added.items ++ plan.changes.items) plan.changes.items own (in-right plan.added.items plan.changes.items);
    }
    names-files _ _ _ _ (fences number) may own = record { added = λ e h. absurd (none-in e h); changes = λ e h. absurd (none-in e h) }

    -- four names are left for manifests and lists, and two more where it may have changelog files
    pub delta-left : (intent : Intent) (d : Delta) (made : List CommitFile) (left : Naming) → HasDelta s newest names intent d made left
        → MayGive me base (most_files intent) names → MayGive me base (4 + 2 * more_of intent) left
    delta-left _ _ _ _ (appends batch xs numbered) may = record {
      maker = later-maker me base (length xs) names may.maker
          (let room = may.room in let many = files-many s numbered.next names batch xs numbered.are_new in
          let logs = changelog-least (length (logs_in batch)) in omega (arith, room, many, logs));
      room = (let room = may.room in let many = files-many s numbered.next names batch xs numbered.are_new in
          let logs = changelog-files (length (logs_in batch)) in omega (arith, room, many, logs));
    }
    delta-left _ _ _ _ (compacts plan) may = may
    delta-left _ _ _ _ (fences number) may = may
