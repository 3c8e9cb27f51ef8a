-- The changelog files of a plan: that of each group is there, and holds what a compaction tells of it.
use Rattle.std.proofs.Common.{◌≡◌, ◌≢◌, ◌↔◌, ◌⊎◌, inl, inr, Bool, true, cond, List, [], ◌∷◌, ◌++◌, map, append-nil, Option, None, Some, option_to_list, Contains, refl, sym, ap, subst, ◌∙◌}
use Rattle.std.specs.List.{AllByRecursion, flat_map}
use Rattle.std.specs.List.Sorted.{IsStrictlySortedBy}
use Rattle.std.specs.Ordering.{eq_by_cmp}
use Rattle.std.specs.declared.cmp.Ordering.TheVariants.{Less}
use Rattle.std.proofs.lemmas.List.{map-append}
use Rattle.std.proofs.lemmas.List.Elements.{filter-append}
use Rattle.pm_store.specs.Files.{Files}
use Rattle.pm_values.specs.GroupOrder.{group_cmp}
use Rattle.pm_values.specs.Names.{Naming}
use Rattle.pm_values.specs.declared.group.Group.{Group}
use Rattle.pm_values.specs.declared.record.Change.{Change}
use Rattle.pm_values.specs.declared.record.Stamped.{Stamped}
use Rattle.pm_schema.specs.declared.schema.TableSchema.{TableSchema}
use Rattle.pm_model_history.specs.Merge.{HistoryRow}
use Rattle.pm_run.specs.declared.run.RunFile.{RunFile}
use Rattle.pm_changelog.specs.GroupLog.{IsGroupLog}
use Rattle.pm_changelog.specs.Written.{HoldsLog, IsFileOfLog, IsWrittenLog}
use Rattle.pm_manifest.specs.declared.entry.Entry as files
use Rattle.pm_model_folder.specs.Folder.{GroupsRise}
use Rattle.pm_model_folder.specs.Stored.{HasFile, HoldChanges, entries_in}
use Rattle.pm_put.specs.Meaning.{IsPut}
use Rattle.pm_choice.specs.Choice.{live_entry}
use Rattle.pm_made.specs.Delta.{adding}
use Rattle.pm_paths.proofs.ListLemmas.{cases, here, more, nowhere}
use Rattle.pm_made.proofs.ListLemmas.{each-of, in-map, map-in}
use Rattle.pm_compaction.specs.Plan.{RewrittenGroup, ToldGroup, group_file, named_group, named_told, tells_of}
use Rattle.pm_compaction.proofs.GroupLemmas.{GroupsTie, less-equal, other-group, same-group}

-- what the laws of lower crates say of logs and their files
pub record LogFacts : Type 0 where
  pub none : (s : TableSchema) (rows : List HistoryRow) (log : List Change) → IsGroupLog s rows log → (log ≡ []) ↔ (rows ≡ [])
  pub holds : (s : TableSchema) (rows : List HistoryRow) (log : List Change) (names : Naming) (f : RunFile) → IsGroupLog s rows log
      → IsFileOfLog s names log f → HoldsLog s rows f

-- ---- their groups

abbrev pub told_in : ToldGroup → Group
told_in y = y.group

told-groups : (ys : List ToldGroup) → map (λ (p : Group × Bool). p.0) (map named_told ys) ≡ map told_in ys
told-groups [] = refl
told-groups (y ∷ ys) = ap (λ (gs : List Group). y.group ∷ gs) (told-groups ys)

pub told-rising : (ys : List ToldGroup) (groups : List (Group × Bool)) → groups ≡ map named_told ys → GroupsRise groups → IsStrictlySortedBy group_cmp (map told_in ys)
told-rising ys groups named rise = subst (λ (gs : List Group). IsStrictlySortedBy group_cmp gs)
    (ap (λ (ps : List (Group × Bool)). map (λ (p : Group × Bool). p.0) ps) named ∙ told-groups ys) rise

-- what is told of a group that is rewritten, and of whose group it is told
pub told-of : (xs : List RewrittenGroup) (ys : List ToldGroup) (groups : List (Group × Bool)) → groups ≡ map named_group xs → groups ≡ map named_told ys
    → (x : RewrittenGroup) → Contains xs x → (y : ToldGroup) × Contains ys y × (named_told y ≡ named_group x)
told-of xs ys groups rewritten told x h =
    in-map named_told ys (named_group x)
    (subst (λ (ps : List (Group × Bool)). Contains ps (named_group x)) (sym rewritten ∙ told) (map-in named_group xs x h))

pub rewritten-of : (xs : List RewrittenGroup) (ys : List ToldGroup) (groups : List (Group × Bool)) → groups ≡ map named_group xs → groups ≡ map named_told ys
    → (y : ToldGroup) → Contains ys y → (x : RewrittenGroup) × Contains xs x × (named_group x ≡ named_told y)
rewritten-of xs ys groups rewritten told y h =
    in-map named_group xs (named_told y)
    (subst (λ (ps : List (Group × Bool)). Contains ps (named_told y)) (sym told ∙ rewritten) (map-in named_told ys y h))

-- ---- their entries

-- the entry of a file that a group may have
abbrev pub entries-with : TableSchema → Group → Option RunFile → List files.Entry
entries-with s g file = map (λ (f : RunFile). live_entry s g f.meta) (option_to_list file)

adding-own : (s : TableSchema) (g : Group) (file : Option RunFile) → map adding (entries-with s g file) ≡ entries-with s g file
adding-own s g None = refl
adding-own s g (Some f) = refl

pub adding-told : (s : TableSchema) (ys : List ToldGroup) → map adding (flat_map (tells_of s) ys) ≡ flat_map (tells_of s) ys
adding-told s [] = refl
adding-told s (y ∷ ys) =
    map-append adding (tells_of s y) (flat_map (tells_of s) ys)
    ∙ ap (λ (es : List files.Entry). es ++ map adding (flat_map (tells_of s) ys)) (adding-own s y.group y.file)
    ∙ ap (λ (es : List files.Entry). tells_of s y ++ es) (adding-told s ys)

module _ (tie : GroupsTie) (s : TableSchema) where
  own-in : (g : Group) (file : Option RunFile) → entries_in g (entries-with s g file) ≡ entries-with s g file
  own-in g None = refl
  own-in g (Some f) = ap (λ (t : Bool). cond t (live_entry s g f.meta ∷ []) []) (same-group tie g)

  other-in : (g h : Group) (file : Option RunFile) → h ≢ g → entries_in g (entries-with s h file) ≡ []
  other-in g h None other = refl
  other-in g h (Some f) other = ap (λ (t : Bool). cond t (live_entry s h f.meta ∷ []) []) (other-group tie h g other)

  in-parts : (g : Group) (y : ToldGroup) (ys : List ToldGroup)
      → entries_in g (flat_map (tells_of s) (y ∷ ys)) ≡ entries_in g (tells_of s y) ++ entries_in g (flat_map (tells_of s) ys)
  in-parts g y ys = filter-append (λ (e : files.Entry). eq_by_cmp group_cmp e.group g) (tells_of s y) (flat_map (tells_of s) ys)

  -- a group of which nothing is told has none
  pub none-in : (g : Group) (ys : List ToldGroup) → ((y : ToldGroup) → Contains ys y → y.group ≢ g) → entries_in g (flat_map (tells_of s) ys) ≡ []
  none-in g [] other = refl
  none-in g (y ∷ ys) other =
      in-parts g y ys
      ∙ ap (λ (es : List files.Entry). es ++ entries_in g (flat_map (tells_of s) ys)) (other-in g y.group y.file (other y (here y ys)))
      ∙ none-in g ys (λ z h. other z (more y ys z h))

  -- each group has its own
  pub told-in : (ys : List ToldGroup) → IsStrictlySortedBy group_cmp (map told_in ys) → (y : ToldGroup) → Contains ys y
      → entries_in y.group (flat_map (tells_of s) ys) ≡ tells_of s y
  unfolding IsStrictlySortedBy
  told-in [] rise y h = absurd (nowhere y h)
  told-in (z ∷ ys) rise y h = in-parts y.group z ys ∙ at (cases z ys y h) (λ later. told-in ys rise.1 y later)
    where
      above : (w : ToldGroup) → Contains ys w → z.group ≢ w.group
      above w there is = less-equal (group_cmp z.group w.group)
          (each-of (λ (g : Group). group_cmp z.group g ≡ Less) (map told_in ys) w.group rise.0 (map-in told_in ys w there))
          ((tie z.group w.group).1 is)

      first : entries_in z.group (tells_of s z) ++ entries_in z.group (flat_map (tells_of s) ys) ≡ tells_of s z
      first =
          ap (λ (es : List files.Entry). es ++ entries_in z.group (flat_map (tells_of s) ys)) (own-in z.group z.file)
          ∙ ap (λ (es : List files.Entry). tells_of s z ++ es) (none-in z.group ys (λ w there same. above w there (sym same)))
          ∙ append-nil (tells_of s z)

      at : (z ≡ y) ⊎ Contains ys y → (Contains ys y → entries_in y.group (flat_map (tells_of s) ys) ≡ tells_of s y)
          → entries_in y.group (tells_of s z) ++ entries_in y.group (flat_map (tells_of s) ys) ≡ tells_of s y
      at (inl is) rest =
          subst (λ (w : ToldGroup). entries_in w.group (tells_of s z) ++ entries_in w.group (flat_map (tells_of s) ys) ≡ tells_of s w) is first
      at (inr later) rest =
          ap (λ (es : List files.Entry). es ++ entries_in y.group (flat_map (tells_of s) ys)) (other-in y.group z.group z.file (above y later))
          ∙ rest later

-- ---- their files

-- a file that was written of a log is the one of it
pub is-of-log : (s : TableSchema) (names : Naming) (log : List Change) (file : Option RunFile) (f : RunFile) → IsWrittenLog s names log file
    → Contains (option_to_list file) f → IsFileOfLog s names log f
is-of-log s names log None f written h = absurd (nowhere f h)
is-of-log s names [] (Some x) f written h = absurd (let no : Some x ≡ None = written in cc)
is-of-log s names (c ∷ log) (Some x) f written h = elim (cases x [] f h) as (λ _. IsFileOfLog s names (c ∷ log) f) [
  | inl is ↦ subst (IsFileOfLog s names (c ∷ log)) is written
  | inr later ↦ absurd (nowhere f later)
]

module _ (facts : LogFacts) (f : Files) (s : TableSchema) (g : Group) (rows : List HistoryRow) where
  log-there : (x : RunFile) → IsPut f (group_file s g x) → (holds : HoldsLog s rows x) → HasFile f s true g x.meta holds.stored
  log-there x put holds = record {
    bytes = x.bytes;
    there = put;
    schema = holds.tells.schema;
    read = holds.read;
    tells = record {
      count = holds.tells.count;
      least = holds.tells.least;
      greatest = holds.tells.greatest;
      lowest = holds.tells.lowest;
      highest = holds.tells.highest;
    };
  }

  -- a changelog file of a group is there
  pub file-there : (log : List Change) (names : Naming) (file : Option RunFile) (x : RunFile) → IsGroupLog s rows log → IsWrittenLog s names log file
      → AllByRecursion (IsPut f) (map (group_file s g) (option_to_list file)) → Contains (option_to_list file) x
      → (stored : List Stamped) × HasFile f s true g x.meta stored
  file-there log names file x tells written put h =
      let holds = facts.holds s rows log names x tells (is-of-log s names log file x written h) in
      (holds.stored, log-there x (each-of (IsPut f) (map (group_file s g) (option_to_list file)) (group_file s g x) put (map-in (group_file s g) (option_to_list file) x h)) holds)

  -- and a group's files hold what its log tells
  pub holds-told : (log : List Change) (names : Naming) (file : Option RunFile) → IsGroupLog s rows log → IsWrittenLog s names log file
      → AllByRecursion (IsPut f) (map (group_file s g) (option_to_list file)) → HoldChanges f s g (entries-with s g file) rows
  holds-told [] names None tells written put = (facts.none s rows [] tells).0 refl
  holds-told [] names (Some x) tells written put = absurd (let no : Some x ≡ None = written in cc)
  holds-told (c ∷ log) names None tells written put = absurd written
  holds-told (c ∷ log) names (Some x) tells written put =
      let holds = facts.holds s rows (c ∷ log) names x tells written in (holds.stored, log-there x put.0 holds, holds.same)
