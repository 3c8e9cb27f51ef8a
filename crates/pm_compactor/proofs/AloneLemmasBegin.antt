-- The commit of a compaction begins where nobody else acts.
use Rattle.std.proofs.Common.{◌≡◌, ℕ, ◌+◌, ◌^◌, ◌<◌, ◌≤◌, List, [], ◌∷◌, ◌++◌, length, length-append, append-nil, false, None, refl, sym, ap, ◌∙◌, subst, arith}
use Rattle.std.specs.List.{AllZip}
use Rattle.pm_values.specs.Names.{Naming, based}
use Rattle.pm_store.specs.Files.{Files}
use Rattle.pm_model_history.specs.History.{IsTableOf, compaction}
use Rattle.pm_schema.specs.declared.schema.TableSchema.{TableSchema}
use Rattle.pm_snapshot.specs.Names.{MayName}
use Rattle.pm_scan_rows.specs.Group.{GroupRead}
use Rattle.pm_model_folder.specs.Ledger.{Past}
use Rattle.pm_put.specs.Putter as put
use Rattle.pm_put.specs.declared.putting.CommitFile.{CommitFile}
use Rattle.pm_put.specs.declared.putting.Publishing.{Publishing}
use Rattle.pm_read_table.specs.declared.view.View.{View}
use Rattle.pm_group_files.specs.Chosen.{chosen_of}
use Rattle.pm_group_files.specs.Collected.{Collected}
use Rattle.pm_group_files.specs.Jobs.{Wanted}
use Rattle.pm_group_files.specs.Meaning.{AreReadAs, HasTaken, IsReadAs}
use Rattle.pm_group_files.specs.declared.job.Job.{Job}
use Rattle.pm_group_files.specs.Chosen.{Chosen}
use Rattle.pm_made.specs.Commit.{IsFoundAs}
use Rattle.pm_made.specs.Files.{IsMadeOf}
use Rattle.pm_made.specs.Refusals.{refusal_of}
use Rattle.pm_made.specs.declared.intent.Intent.TheVariants as intents
use Rattle.pm_made.specs.declared.intent.Plan.{Plan}
use Rattle.pm_made.specs.declared.newest.Author.{Author}
use Rattle.pm_made.specs.declared.newest.Made.{Made}
use Rattle.pm_made.specs.declared.newest.Newest.{Newest}
use Rattle.pm_made.proofs.CountedLemmas.{AreCounted, counted-join, made-counted}
use Rattle.pm_made.proofs.FileCountLemmas.{made-few}
use Rattle.pm_made.proofs.MadeLemmas.{PathFacts, at, may-count}
use Rattle.pm_choice.specs.declared.choice.ChosenGroup.{ChosenGroup}
use Rattle.pm_plan.specs.Planned.{AllRewritten, HasRoom, HasTold, IsPlanFor}
use Rattle.pm_plan.specs.declared.planned.Planned.{Planned}
use Rattle.pm_commit.specs.Alone as commit
use Rattle.pm_commit.specs.Alone.{IsTryAt, left_of}
use Rattle.pm_commit.specs.Committer.{first_of_put, newest_in, publishing_of}
use Rattle.pm_commit.specs.Own.{OwnView, begun, own_for_plan, own_of, with_named}
use Rattle.pm_commit.specs.declared.found.Found.{Found}
use Rattle.pm_compactor.specs.AllCalls.{Beginning, IsFoundNewest, IsMadeIn, IsNewestView, IsOfChoice, author_in, entry_of, newest_id}
use Rattle.pm_compactor.specs.Alone.{AreApart, AreUntouched, IsCommitOf, IsPastOf, IsPutAt, IsStill, begun_in}
use Rattle.pm_compactor.specs.Compactor.{actor_of, chosen_in, wanted_groups, wanted_in, IsPlanIn}
use Rattle.pm_compactor.proofs.AloneLemmasMade.{Grows, all-grow, counted-all-apart, counted-as, grows-then, told-grows}

-- what the law of whole groups says
abbrev pub WholeGroups : Type 0
WholeGroups = (p : Past) (a : Chosen) (c : Collected) (left : List Job) → HasTaken p a c left → AreReadAs (p.stood a.id) a.schema a.groups left (a.given ++ c.groups)

-- once no file is left all groups are whole
all-read : (f : Files) (s : TableSchema) (groups : List Wanted) (runs : List GroupRead) → AreReadAs f s groups [] runs → AllZip (IsReadAs f s) groups runs
all-read f s groups runs are =
    let whole : are.whole ≡ groups = sym (append-nil are.whole) ∙ ap (λ (later : List Wanted). are.whole ++ later) (sym (are.ended refl)) ∙ sym are.parts in
    subst (λ (groups : List Wanted). AllZip (IsReadAs f s) groups runs) whole are.read

-- ---- the plan

-- what is made of a view's choice, all of it, and the plan for that
pub record IsDone (b : Beginning) (v : View) (x : Planned) (f : Files) (p : Past) : Type 0 where
  pub planned : Planned
  pub is_plan : IsPlanIn b.asking v planned
  pub groups : List GroupRead
  pub rewritten : AllRewritten planned groups x
  pub taken : (c : Collected) × (c.groups ≡ []) × HasTaken p (chosen_of planned.schema planned.newest.id (wanted_in planned) groups) c []

-- and y is the plan once what is told of them was written
module _ (law : WholeGroups) (b : Beginning) (v : View) (x y : Planned) (f : Files) (p : Past) (past : IsPastOf b p) (newest : IsNewestView b v) (done : IsDone b v x f p)
    (logged : HasTold x y) where
  abbrev start : Planned
  start = done.planned

  grown : Grows start y
  grown = grows-then start x y (all-grow start done.groups x done.rewritten) (told-grows x y logged)

  abbrev a : Chosen
  a = chosen_of start.schema start.newest.id (wanted_in start) done.groups

  id-is : start.newest.id ≡ v.id
  id-is = ap (λ (n : Newest). n.id) done.is_plan.newest_is

  stood : p.stood start.newest.id ≡ b.files
  stood = past.stood start.newest.id done.taken.2.chosen.known
      (let one = id-is in let two = newest.newest.id in omega (arith, one, two))

  read-stood : AllZip (IsReadAs (p.stood start.newest.id) start.schema) (wanted_in start) done.groups
  read-stood =
      let given : done.groups ++ done.taken.0.groups ≡ done.groups = ap (λ (more : List GroupRead). done.groups ++ more) done.taken.1 ∙ append-nil done.groups in
      all-read (p.stood start.newest.id) start.schema (wanted_in start) done.groups
      (subst (AreReadAs (p.stood start.newest.id) start.schema (wanted_in start) []) given (law p a done.taken.0 [] done.taken.2))

  read : AllZip (IsReadAs b.files v.schema) (wanted_groups v.schema (chosen_in b.asking v)) done.groups
  read =
      subst (λ (chosen : List ChosenGroup). AllZip (IsReadAs b.files v.schema) (wanted_groups v.schema chosen) done.groups) done.is_plan.left
      (subst (λ (s : TableSchema). AllZip (IsReadAs b.files s) (wanted_groups s start.left.items) done.groups) done.is_plan.schema_is
      (subst (λ (f : Files). AllZip (IsReadAs f start.schema) (wanted_in start) done.groups) stood read-stood))

  is-made : IsMadeIn b v y
  is-made = record {
    planned = start;
    is_plan = done.is_plan;
    groups = done.groups;
    read = read;
    rewritten_plan = x;
    rewritten = done.rewritten;
    told = logged;
  }

  pub of-choice : (plan : Plan) → IsPlanFor y plan → IsOfChoice b v plan
  of-choice plan is = record {
    groups = ap (λ gs. gs.items) (is.groups ∙ grown.groups) ∙ done.is_plan.groups;
    removed = ap (λ es. es.items) (is.removed ∙ grown.removed) ∙ done.is_plan.removed;
    made = y;
    is_made = is-made;
    added = is.added;
    full = is.full ∙ grown.full ∙ done.is_plan.full;
    changes = is.changes;
  }

  pub schema-is : y.schema ≡ v.schema
  schema-is = grown.schema ∙ done.is_plan.schema_is

  pub newest-is : y.newest ≡ newest_in v
  newest-is = grown.newest ∙ done.is_plan.newest_is

  pub author-is : y.author ≡ author_in b.asking v
  author-is = grown.author ∙ done.is_plan.author_is

  pub found-is : IsFoundNewest b v.schema y.newest
  found-is = subst (IsFoundNewest b v.schema) (sym newest-is) newest.newest

  -- ---- the commit

  names-are : y.names ≡ at (based v.id b.asking.names) (start.names.count + length grown.more)
  names-are = grown.names ∙ ap (λ (t : Naming). at t (start.names.count + length grown.more)) done.is_plan.names_are

  base-is : y.names.base ≡ newest_id b
  base-is = ap (λ (t : Naming). t.base) names-are ∙ newest.newest.id

  author-base : y.author.base ≡ newest_id b
  author-base = ap (λ (a : Author). a.base) author-is ∙ newest.newest.id

  module _ (plan : Plan) (is_plan : IsPlanFor y plan) where
    abbrev own : OwnView
    own = own_for_plan plan y.author y.names

    pub commit-of : IsCommitOf b v own
    commit-of = record {
      plan = plan;
      of_choice = of-choice plan is_plan;
      intent = refl;
      author = author-is;
      maker = ap (λ (t : Naming). actor_of t) names-are;
      based = base-is;
      unlost = refl;
    }

    abbrev cb : commit.Beginning
    cb = begun_in b v own

    begun-is : begun (newest_id b) own ≡ own
    begun-is =
        ap (λ (base : ℕ). own_of (intents.Compact plan) (record y.author { base = base }) false (based (newest_id b) y.names) []) (sym author-base)
        ∙ ap (λ (base : ℕ). own_of (intents.Compact plan) y.author false (based base y.names) []) (sym base-is)

    -- the entry is that of the choice
    pub entry-is : compaction y.author.base plan.groups.items ≡ entry_of b.asking v
    entry-is = ap (λ (base : ℕ). compaction base plan.groups.items) (ap (λ (a : Author). a.base) author-is)
        ∙ ap (λ gs. compaction v.id gs) (of-choice plan is_plan).groups

    module _ (made : Made) (is_made : IsMadeOf y.schema y.newest y.author (intents.Compact plan) y.names made)
        (allowed : refusal_of y.newest y.author (intents.Compact plan) ≡ None) (still : IsStill b f p) (room : HasRoom y) (may : MayName y.names) where
      abbrev found : Found
      found = record { schema = y.schema; newest = y.newest }

      sees : commit.SeesNewest cb found
      sees = record {
        is_table = subst (λ (s : TableSchema). IsTableOf s b.history) (sym schema-is) newest.table;
        id = found-is.id;
        as_is = subst (λ (s : TableSchema). IsFoundAs b.files s y.newest y.newest.snapshot) (sym schema-is) found-is.found;
      }

      try-at : IsTryAt cb (with_named (y.names.count + length made.files.items) own) made.id
      try-at = (
        (y.names.count + length made.files.items, ap (with_named (y.names.count + length made.files.items)) (sym begun-is)),
        is_made.id ∙ ap (λ (n : ℕ). n + 1) found-is.id,
        (found, sees, subst (λ (o : OwnView). refusal_of y.newest o.author o.intent ≡ None) (sym begun-is) allowed),
      )

      -- ---- the files

      files-are : y.files.items ≡ grown.more
      files-are = grown.files ∙ ap (λ (first : List CommitFile). first ++ grown.more) done.is_plan.files

      count-is : y.names.count ≡ start.names.count + length grown.more
      count-is = ap (λ (t : Naming). t.count) grown.names

      own-counted : AreCounted start.names (start.names.count + length grown.more) made.files.items
      own-counted =
          let n : ℕ = start.names.count + length grown.more in
          counted-as start.names n n made.files.items
          (subst (λ (t : Naming). AreCounted t t.count made.files.items) grown.names
          (made-counted y.names y.schema y.newest y.author (intents.Compact plan) made is_made))

      few-names : start.names.count + length (grown.more ++ made.files.items) ≤ 2 ^ 64
      few-names =
          let few = made-few y.schema y.newest y.author (intents.Compact plan) y.names made is_made in
          let named = room.named in
          let files = room.few in
          let join = length-append grown.more made.files.items in
          let count = count-is in
          omega (arith, few, named, files, join, count)

      may-start : MayName start.names
      may-start =
          let n : ℕ = start.names.count + length grown.more in
          let few = few-names in
          let join = length-append grown.more made.files.items in
          may-count (at start.names n) start.names.count (subst MayName grown.names may) (omega (arith, few, join, count-low))
        where
          count-low : start.names.count < 2 ^ 64
          count-low = let named = room.named in let files = room.few in let count = count-is in omega (arith, named, files, count)

      pub all-apart : PathFacts → AreApart (y.files.items ++ made.files.items)
      all-apart parts =
          subst (λ (first : List CommitFile). AreApart (first ++ made.files.items)) (sym files-are)
          (counted-all-apart parts start.names may-start start.names.count (grown.more ++ made.files.items) few-names
          (counted-join start.names start.names.count grown.more made.files.items grown.counted own-counted))

      untouched : (files : List CommitFile) → AreUntouched b files f
      untouched [] = tt
      untouched (file ∷ files) = (still.unchanged file.path, untouched files)

      left-first : (y : Publishing) (files : List CommitFile) → left_of (put.create_next y files) ≡ files
      left-first y [] = refl
      left-first y (file ∷ files) = refl

      pub put-at : PathFacts → IsPutAt b v own y.files.items (first_of_put own y.schema made) f
      put-at parts =
          let left = left-first (publishing_of y.schema made.id made.text) made.files.items in (
            try-at,
            subst (λ (files : List CommitFile). AreApart (y.files.items ++ files)) (sym left) (all-apart parts),
            untouched (y.files.items ++ left_of (put.create_next (publishing_of y.schema made.id made.text) made.files.items)),
          )
