-- What a compactor knows as the groups that were read whole become files: their runs are those that are known at the
-- base.
use Rattle.std.proofs.Common.{◌≡◌, ℕ, suc, ◌+◌, ◌≤◌, ◌^◌, Bool, false, List, [], ◌∷◌, ◌++◌, drop, length, length-append, map, reverse, Some, refl, sym, ap, subst, ◌∙◌, append_assoc, arith}
use Rattle.std.proofs.lemmas.List.{drop-map, length-map}
use Rattle.std.specs.List.{AllByRecursion, AllZip}
use Rattle.pm_base.proofs.Laws.{AllByRecursion-append, AllByRecursion-parts}
use Rattle.pm_store.specs.Files.{Files}
use Rattle.pm_values.specs.declared.file_meta.FileMeta.{FileMeta}
use Rattle.pm_values.specs.declared.group.Group.{Group}
use Rattle.pm_values.specs.declared.record.Change.{Change}
use Rattle.pm_values.specs.declared.record.Stamped.{Stamped}
use Rattle.pm_values.specs.declared.refusal.Refusal.{Refusal}
use Rattle.pm_values.specs.declared.refusal.Refusal.TheVariants as refusals
use Rattle.pm_schema.specs.Folder.{FitsPartition}
use Rattle.pm_schema.specs.declared.schema.TableSchema.{TableSchema}
use Rattle.pm_engine.specs.Covers.{Run}
use Rattle.pm_scan_rows.specs.Group.{GroupRead}
use Rattle.pm_engines.specs.TableEngine.{HasEngine}
use Rattle.pm_run.specs.Rows.{HasRows}
use Rattle.pm_levels.specs.Runs.{RunView, files_of}
use Rattle.pm_options.specs.declared.kinds.Producer.{Producer}
use Rattle.pm_options.specs.declared.kinds.Producer.TheVariants as producers
use Rattle.pm_model_folder.specs.Changes.{Actor}
use Rattle.pm_model_folder.specs.Ledger.{KnowsTable, Past, Stands}
use Rattle.pm_model_folder.specs.Runs.{view_of}
use Rattle.pm_model_folder.specs.Stored.{HasFile, HasRun, HaveFileRows}
use Rattle.pm_model_folder.proofs.LedgerFacts.{at-table, count-is}
use Rattle.pm_runs.specs.Stand.{StoredRun}
use Rattle.pm_runs.specs.Succession.{KnownRun, Taking, from_oldest, without_files}
use Rattle.pm_group_files.specs.Chosen.{Chosen}
use Rattle.pm_group_files.specs.Collected.{Collected}
use Rattle.pm_group_files.specs.Jobs.{Wanted}
use Rattle.pm_group_files.specs.Meaning as files
use Rattle.pm_group_files.specs.Meaning.{AreReadAs, HasTaken, HaveBytes, IsReadAs}
use Rattle.pm_group_files.specs.Reader as reader
use Rattle.pm_group_files.specs.Reader.{HandsOut}
use Rattle.pm_group_files.specs.declared.job.Job.{Job}
use Rattle.pm_group_files.specs.declared.phase.Phase as files_phase
use Rattle.pm_group_files.specs.declared.phase.Phase.TheVariants as readers
use Rattle.pm_choice.specs.Choice.{left_runs, looked_by, looked_runs, named_groups, taken_runs}
use Rattle.pm_choice.specs.declared.choice.ChosenGroup.{ChosenGroup}
use Rattle.pm_compaction_log.specs.Log.{AreFilesWith}
use Rattle.pm_group_log.specs.Told.{files_with}
use Rattle.pm_compaction.specs.Plan.{RewrittenGroup, group_file, named_group}
use Rattle.pm_plan.specs.Known.{AreTakenAt, FirstReadFor, IsReadFor, IsTakenAt, KnowsPlanned}
use Rattle.pm_plan.specs.Planned.{AllRewritten, CanMake, FitChosen, FitTold, HasRewritten, RefusesFirst, RefusesOf, RefusesSome, RewritesFirst, RewritesOf}
use Rattle.pm_plan.specs.declared.planned.Planned.{Planned}
use Rattle.pm_compactor.specs.Compactor.{wanted_groups, wanted_in, wanted_of}
use Rattle.pm_compactor.specs.Meaning.{asked_for, looked_of, made_groups, made_wanted}

-- ---- lists

tail-same : {X : Type 0} (x y : X) (xs ys : List X) → x ∷ xs ≡ y ∷ ys → xs ≡ ys
tail-same x y xs ys e = cc

head-same : {X : Type 0} (x y : X) (xs ys : List X) → x ∷ xs ≡ y ∷ ys → x ≡ y
head-same x y xs ys e = cc

pub none-mapped : {X Y : Type 0} (f : X → Y) (xs : List X) → map f xs ≡ [] → xs ≡ []
none-mapped f [] none = refl
none-mapped f (x ∷ xs) none = absurd (let clash : f x ∷ map f xs ≡ [] = none in cc)

-- ---- files have one list of rows at most

abbrev pub OneRows : Type 0
OneRows = (s : TableSchema) (bytes : List ℕ) (rows others : List Stamped) → HasRows s false bytes rows → HasRows s false bytes others → rows ≡ others

some-same : (one other : List ℕ) → Some one ≡ Some other → one ≡ other
some-same one other e = cc

module _ (one : OneRows) (f : Files) (s : TableSchema) (g : Group) where
  same-file : (m : FileMeta) (rows others : List Stamped) → HasFile f s false g m rows → HasFile f s false g m others → rows ≡ others
  same-file m rows others a b =
      one s a.bytes rows others a.read
      (subst (λ (bytes : List ℕ). HasRows s false bytes others) (some-same b.bytes a.bytes (sym b.there ∙ a.there)) b.read)

  same-rows : (ms : List FileMeta) (rows others : List Stamped) → HaveFileRows f s g ms rows → HaveFileRows f s g ms others → rows ≡ others
  same-rows [] rows others a b = a ∙ sym b
  same-rows (m ∷ ms) rows others (own, later, split, has, have) (mine, rest, parts, is, are) =
      split
      ∙ ap (λ (first : List Stamped). first ++ later) (same-file m own mine has is)
      ∙ ap (λ (last : List Stamped). mine ++ last) (same-rows ms later rest have are)
      ∙ sym parts

  -- of a known run that is in files
  abbrev IsHeld : KnownRun → Type 0
  IsHeld run = HasRun f s g (view_of run) (without_files run)

  same-runs : (taken : List KnownRun) (stored : List StoredRun) → AllByRecursion IsHeld taken → AllZip (HasRun f s g) (map view_of taken) stored
      → map (λ (r : StoredRun). r.rows) stored ≡ map (λ (run : KnownRun). run.rows) taken
  same-runs [] [] held read = refl
  same-runs [] (x ∷ stored) held read = absurd read
  same-runs (run ∷ taken) [] held read = absurd read
  same-runs (run ∷ taken) (x ∷ stored) held read =
      ap (λ (rows : Run). rows ∷ map (λ (r : StoredRun). r.rows) stored) (same-rows run.files x.rows run.rows read.0.files held.0.files)
      ∙ ap (λ (runs : List Run). run.rows ∷ runs) (same-runs taken stored held.1 read.1)

  -- the runs that were read of a group are those that were taken of it
  read-same : (taken : List KnownRun) (views kept : List RunView) (read : GroupRead) → map view_of taken ≡ views → AllByRecursion IsHeld taken
      → IsReadAs f s (record { group = g; runs = views; kept = kept }) read → read.runs ≡ from_oldest taken
  read-same taken views kept read seen held was =
      was.are
      ∙ ap (λ (rows : List Run). reverse rows)
      (same-runs taken was.stored held (subst (λ (views : List RunView). AllZip (HasRun f s g) views was.stored) (sym seen) was.read))

-- ---- a plan grows

-- what the law of a plan says of a group more
abbrev pub PlanGrows : Type 0
PlanGrows = (me : Actor) (p : Past) (x y : Planned) (done : List RewrittenGroup) (t : Taking) (takings : List Taking) (read : GroupRead) → CanMake y → KnowsPlanned me p x done (t ∷ takings)
    → FirstReadFor x.schema x.left.items t read → RewritesFirst x read y → (z : RewrittenGroup) × (z.taking ≡ t) × KnowsPlanned me p y (done ++ z ∷ []) takings

-- what the law of what is told says of files that were kept
abbrev pub KeptHave : Type 0
KeptHave = (f : Files) (s : TableSchema) (g : Group) (known : List KnownRun) (kept : List (List ℕ)) → AllByRecursion (λ (run : KnownRun). HasRun f s g (view_of run) (without_files run)) known
    → HaveBytes f s g (files_of (map view_of known)) kept → AreFilesWith s (files_with s g (files_of (map view_of known)) kept) (from_oldest known)

-- so many files there are at most
abbrev pub most_files : ℕ
most_files = 2 ^ 32

files-more : (cs : List ChosenGroup) (old new : Planned) (read : GroupRead) → RewritesOf cs old read new → length old.files.items ≤ length new.files.items
files-more [] old new read rewrites = absurd rewrites
files-more (c ∷ cs) old new read rewrites =
    let many = ap length rewrites.put.files in
    let both = length-append old.files.items (map (group_file old.schema c.group) rewrites.made) in
    omega (arith, many, both)

files-grow : (groups : List GroupRead) (old new : Planned) → AllRewritten old groups new → length old.files.items ≤ length new.files.items
files-grow [] old new is = let same = ap (λ (x : Planned). length x.files.items) is in omega (arith, same)
files-grow (read ∷ groups) old new (middle, first, rest) =
    let one = files-more old.left.items old middle read first in
    let more = files-grow groups middle new rest in
    omega (arith, one, more)

-- one group more can be made
can-one : (cs : List ChosenGroup) (old new : Planned) (read : GroupRead) → old.left.items ≡ cs → CanMake old → RewritesOf cs old read new → length new.files.items ≤ most_files
    → CanMake new
can-one [] old new read left can rewrites few = absurd rewrites
can-one (c ∷ cs) old new read left can rewrites few =
    let same = rewrites.put.same in
    let schema : new.schema ≡ old.schema = ap (λ (x : Planned). x.schema) same in
    let names = ap (λ (x : Planned). x.names.count) same in
    let many = ap length rewrites.put.files in
    let both = length-append old.files.items (map (group_file old.schema c.group) rewrites.made) in
    let made = length-map rewrites.made (group_file old.schema c.group) in
    let named = can.room.named in
    let fit : FitChosen old.schema (c ∷ new.left.items) = subst (FitChosen old.schema) rewrites.first can.fit in
    record {
      engine = subst HasEngine (sym schema) can.engine;
      fit = subst (λ (s : TableSchema). FitChosen s new.left.items) (sym schema) fit.1;
      fit_logs = subst (λ (s : TableSchema). FitTold s new.logs.items) (sym schema) (subst (FitTold old.schema) (sym rewrites.logs)
          (AllByRecursion-append (λ (told : Group × List Change). FitsPartition old.schema told.0) old.logs.items ((c.group, rewrites.log) ∷ []) can.fit_logs (fit.0, tt)));
      room = record { named = omega (arith, names, many, both, made, named); few = few };
    }

-- ---- which groups were made, and of which runs

-- a group more was made of the first of those that are left
record HasMade (me : Actor) (p : Past) (x : Planned) (done : List RewrittenGroup) (rest : List Wanted) (y : Planned) : Type 0 where
  made : RewrittenGroup
  takings : List Taking
  knows : KnowsPlanned me p y (done ++ made ∷ []) takings
  schema : y.schema ≡ x.schema
  newest : y.newest ≡ x.newest
  groups : made_groups x.schema (done ++ made ∷ []) ++ wanted_in y ≡ made_groups x.schema done ++ wanted_in x
  left : wanted_in y ≡ rest
  can : CanMake y

-- the runs in which old values are looked up are those that stay
looked-same : (p : Producer) (c : ChosenGroup) (t : Taking) → map view_of t.rest ≡ left_runs c → map view_of (looked_of p t) ≡ looked_by p c
looked-same producers.None c t same = refl
looked-same producers.Input c t same = refl
looked-same producers.Lookup c t same = same
looked-same producers.FullCompaction c t same = refl

left-seen : (s : TableSchema) (base : ℕ) (p : Past) (c : ChosenGroup) (t : Taking) → IsTakenAt s base p c t → map view_of t.rest ≡ left_runs c
left-seen s base p c t is =
    ap (map view_of) is.others ∙ sym (drop-map view_of c.take (p.runs base c.group)) ∙ ap (drop c.take) (sym is.levels)

-- what was wanted of a group that was made is what is wanted of the one that was chosen
wanted-same : (s : TableSchema) (base : ℕ) (p : Past) (c : ChosenGroup) (t : Taking) (z : RewrittenGroup) → IsTakenAt s base p c t → z.group ≡ c.group → z.taking ≡ t
    → made_wanted s z ≡ wanted_of s c
wanted-same s base p c t z is group taking =
    let kept = looked-same s.options.producer c t (left-seen s base p c t is) in
    (λ i. record { group = group i; runs = map view_of (taking i).taken; kept = map view_of (looked_of s.options.producer (taking i)) })
    ∙ λ i. record { group = c.group; runs = is.seen i; kept = kept i }

-- the group that was made last comes before those that are left
groups-pushed : (s : TableSchema) (done : List RewrittenGroup) (z : RewrittenGroup) (w : Wanted) (left : List Wanted) → made_wanted s z ≡ w
    → made_groups s (done ++ z ∷ []) ++ left ≡ made_groups s done ++ w ∷ left
groups-pushed s [] z w left is = ap (λ (w : Wanted). w ∷ left) is
groups-pushed s (x ∷ done) z w left is = ap (λ (groups : List Wanted). made_wanted s x ∷ groups) (groups-pushed s done z w left is)

-- it is the one that is named next
named-same : (done : List RewrittenGroup) (z : RewrittenGroup) (named : Group × Bool) (left : List (Group × Bool))
    → map named_group (done ++ z ∷ []) ++ left ≡ map named_group done ++ named ∷ left → named_group z ≡ named
named-same [] z named left is = head-same (named_group z) named left left is
named-same (x ∷ done) z named left is =
    named-same done z named left
    (tail-same (named_group x) (named_group x) (map named_group (done ++ z ∷ []) ++ left) (map named_group done ++ named ∷ left) is)

module _ (one : OneRows) (kept_have : KeptHave) (grows : PlanGrows) (f : Files) (p : Past) (stands : Stands f p) (me : Actor) where
  -- the runs that are known of a group at the base are in files
  known-held : (x : Planned) (done : List RewrittenGroup) (takings : List Taking) (g : Group) → KnowsPlanned me p x done takings
      → AllByRecursion (IsHeld one (p.stood x.newest.id) x.schema g) (p.runs x.newest.id g)
  known-held x done takings g knows =
      let table = at-table f p x.schema stands knows.table in
      let known : KnowsTable f x.schema table.0 p = table.3 in
      let to = knows.known.to in
      let count = count-is p x.schema table.0 table.1 in
      (known.runs.stood x.newest.id g knows.since (omega (arith, to, count))).hold

  -- what was read of a group is what its runs, as they are known, have
  read-for : (x : Planned) (done : List RewrittenGroup) (takings : List Taking) (c : ChosenGroup) (t : Taking) (read : GroupRead) → KnowsPlanned me p x done takings
      → IsTakenAt x.schema x.newest.id p c t → IsReadAs (p.stood x.newest.id) x.schema (wanted_of x.schema c) read → IsReadFor x.schema c t read
  read-for x done takings c t read knows is was =
      let s : TableSchema = x.schema in
      let base : ℕ = x.newest.id in
      let there : Files = p.stood base in
      let all : p.runs base c.group ≡ t.taken ++ t.rest = ap (λ (n : ℕ). p.runs n c.group) (sym is.based) ∙ is.took.was in
      let held = AllByRecursion-parts (IsHeld one there s c.group) t.taken t.rest
      (subst (AllByRecursion (IsHeld one there s c.group)) all (known-held x done takings c.group knows)) in
      let stay : map view_of t.rest ≡ left_runs c = left-seen s base p c t is in
      record {
        runs = read-same one there s c.group t.taken (taken_runs c) (looked_runs s c) read is.seen held.0 was;
        kept = λ lookup.
            let bytes : HaveBytes there s c.group (files_of (left_runs c)) read.kept =
            subst (λ (q : Producer). HaveBytes there s c.group (files_of (looked_by q c)) read.kept) lookup was.kept in
            subst (λ (runs : List RunView). AreFilesWith s (files_with s c.group (files_of runs) read.kept) (from_oldest t.rest)) stay
            (kept_have there s c.group t.rest read.kept held.1 (subst (λ (runs : List RunView). HaveBytes there s c.group (files_of runs) read.kept) (sym stay) bytes));
      }

  made-with : (c : ChosenGroup) (cs : List ChosenGroup) (t : Taking) (takings : List Taking) (x y : Planned) (done : List RewrittenGroup) (z : RewrittenGroup)
      (read : GroupRead) (w : Wanted) (rest : List Wanted) → x.left.items ≡ c ∷ cs → KnowsPlanned me p x done (t ∷ takings) → IsTakenAt x.schema x.newest.id p c t
      → wanted_groups x.schema (c ∷ cs) ≡ w ∷ rest → HasRewritten x c read y → CanMake y → z.taking ≡ t
      → KnowsPlanned me p y (done ++ z ∷ []) takings → HasMade me p x done rest y
  made-with c cs t takings x y done z read w rest left knows is parts rewrites can taking grown =
      let s : TableSchema = x.schema in
      let put = rewrites.put.same in
      let schema : y.schema ≡ s = ap (λ (w : Planned). w.schema) put in
      let whole : x.left.items ≡ c ∷ y.left.items = rewrites.first in
      let named : map named_group (done ++ z ∷ []) ++ named_groups y.left.items ≡ map named_group done ++ (c.group, c.whole) ∷ named_groups y.left.items =
      sym grown.named
      ∙ ap (λ (w : Planned). w.groups.items) put
      ∙ knows.named
      ∙ ap (λ (cs : List ChosenGroup). map named_group done ++ named_groups cs) whole in
      let group : z.group ≡ c.group =
      ap (λ (named : Group × Bool). named.0) (named-same done z (c.group, c.whole) (named_groups y.left.items) named) in
      let same : wanted_in y ≡ wanted_groups s y.left.items = ap (λ (t : TableSchema). wanted_groups t y.left.items) schema in
      record {
        made = z;
        takings = takings;
        knows = grown;
        schema = schema;
        newest = ap (λ (w : Planned). w.newest) put;
        groups =
            ap (λ (ws : List Wanted). made_groups s (done ++ z ∷ []) ++ ws) same
            ∙ groups-pushed s done z (wanted_of s c) (wanted_groups s y.left.items) (wanted-same s x.newest.id p c t z is group taking)
            ∙ sym (ap (λ (cs : List ChosenGroup). made_groups s done ++ wanted_groups s cs) whole);
        left = same ∙ tail-same (wanted_of s c) w (wanted_groups s y.left.items) rest
            (sym (ap (wanted_groups s) whole) ∙ ap (wanted_groups s) left ∙ parts);
        can = can;
      }

  one-made : (cs : List ChosenGroup) (takings : List Taking) (x y : Planned) (done : List RewrittenGroup) (read : GroupRead) (w : Wanted) (rest : List Wanted)
      → x.left.items ≡ cs → CanMake x → KnowsPlanned me p x done takings → AreTakenAt x.schema x.newest.id p cs takings → wanted_groups x.schema cs ≡ w ∷ rest
      → IsReadAs (p.stood x.newest.id) x.schema w read → RewritesOf cs x read y → length y.files.items ≤ most_files → HasMade me p x done rest y
  one-made [] takings x y done read w rest left can knows taken parts was rewrites few = absurd rewrites
  one-made (c ∷ cs) [] x y done read w rest left can knows taken parts was rewrites few = absurd taken
  one-made (c ∷ cs) (t ∷ takings) x y done read w rest left can knows taken parts was rewrites few =
      let s : TableSchema = x.schema in
      let is : IsTakenAt s x.newest.id p c t = taken.0 in
      let here : wanted_of s c ≡ w = head-same (wanted_of s c) w (wanted_groups s cs) rest parts in
      let for : IsReadFor s c t read =
      read-for x done (t ∷ takings) c t read knows is (subst (λ (w : Wanted). IsReadAs (p.stood x.newest.id) s w read) (sym here) was) in
      let first : RewritesFirst x read y = subst (λ (cs : List ChosenGroup). RewritesOf cs x read y) (sym left) rewrites in
      let reads : FirstReadFor s x.left.items t read = subst (λ (cs : List ChosenGroup). FirstReadFor s cs t read) (sym left) for in
      let can_y : CanMake y = can-one (c ∷ cs) x y read left can rewrites few in
      let (z, taking, grown) = grows me p x y done t takings read can_y knows reads first in
      made-with c cs t takings x y done z read w rest left knows is parts rewrites can_y taking grown

  -- so many groups more were made, and these are left
  pub record HaveMade (x : Planned) (done : List RewrittenGroup) (groups : List GroupRead) (later : List Wanted) (y : Planned) : Type 0 where
    pub all : List RewrittenGroup
    pub takings : List Taking
    pub knows : KnowsPlanned me p y all takings
    pub schema : y.schema ≡ x.schema
    pub newest : y.newest ≡ x.newest
    pub asked : made_groups x.schema all ++ wanted_in y ≡ made_groups x.schema done ++ wanted_in x
    pub many : length all ≡ length done + length groups
    pub left : wanted_in y ≡ later
    pub can : CanMake y

  pub all-made : (groups : List GroupRead) (x y : Planned) (done : List RewrittenGroup) (takings : List Taking) (first later : List Wanted) → CanMake x
      → KnowsPlanned me p x done takings → wanted_in x ≡ first ++ later → AllZip (IsReadAs (p.stood x.newest.id) x.schema) first groups
      → AllRewritten x groups y → length y.files.items ≤ most_files → HaveMade x done groups later y
  all-made [] x y done takings [] later can knows parts was is few =
      subst (HaveMade x done [] later) is (record {
        all = done;
        takings = takings;
        knows = knows;
        schema = refl;
        newest = refl;
        asked = refl;
        many = omega arith;
        left = parts;
        can = can;
      })
  all-made [] x y done takings (w ∷ first) later can knows parts was is few = absurd was
  all-made (read ∷ groups) x y done takings [] later can knows parts was rewritten few = absurd was
  all-made (read ∷ groups) x y done takings (w ∷ first) later can knows parts was (middle, rewrites, rest) few =
      let more = files-grow groups middle y rest in
      let m = one-made x.left.items takings x middle done read w (first ++ later) refl can knows knows.left parts was.0 rewrites (omega (arith, more, few)) in
      let a = all-made groups middle y (done ++ m.made ∷ []) m.takings first later m.can m.knows m.left
      (subst (λ (s : TableSchema). AllZip (IsReadAs (p.stood middle.newest.id) s) first groups) (sym m.schema)
      (subst (λ n. AllZip (IsReadAs (p.stood n.id) x.schema) first groups) (sym m.newest) was.1)) rest few in
      record {
        all = a.all;
        takings = a.takings;
        knows = a.knows;
        schema = a.schema ∙ m.schema;
        newest = a.newest ∙ m.newest;
        asked = ap (λ (s : TableSchema). made_groups s a.all ++ wanted_in y) (sym m.schema) ∙ a.asked
            ∙ ap (λ (s : TableSchema). made_groups s (done ++ m.made ∷ []) ++ wanted_in middle) m.schema ∙ m.groups;
        many = (let rest_many = a.many in let longer = length-append done (m.made ∷ []) in omega (arith, rest_many, longer));
        left = a.left;
        can = a.can;
      }

-- ---- of which groups nothing can be told

-- what the law of a plan says of that
abbrev pub OnlyMemory : Type 0
OnlyMemory = (me : Actor) (p : Past) (x : Planned) (done : List RewrittenGroup) (t : Taking) (takings : List Taking) (read : GroupRead) (refusal : Refusal)
    → KnowsPlanned me p x done (t ∷ takings) → FirstReadFor x.schema x.left.items t read → RefusesFirst x read refusal → refusal ≡ refusals.Memory

-- the first of the groups that were read, and the one after them
zip-split : {X Y : Type 0} (R : X → Y → Type 0) (xs : List X) (ys : List Y) (y : Y) (zs : List Y) → AllZip R xs (ys ++ y ∷ zs)
    → (us : List X) × (u : X) × (vs : List X) × (xs ≡ us ++ u ∷ vs) × AllZip R us ys × R u y
zip-split R [] [] y zs read = absurd read
zip-split R [] (b ∷ ys) y zs read = absurd read
zip-split R (x ∷ xs) [] y zs read = ([], x, xs, refl, tt, read.0)
zip-split {X} {Y} R (x ∷ xs) (b ∷ ys) y zs read =
    let (us, u, vs, parts, first, here) = zip-split R xs ys y zs read.1 in
    (x ∷ us, u, vs, ap (λ (xs : List X). x ∷ xs) parts, (read.0, first), here)

module _ (one : OneRows) (kept_have : KeptHave) (grows : PlanGrows) (memory : OnlyMemory) (f : Files) (p : Past) (stands : Stands f p) (me : Actor) where
  -- of the first that is left nothing can be told only where memory ran out
  untold : (cs : List ChosenGroup) (takings : List Taking) (x : Planned) (done : List RewrittenGroup) (read : GroupRead) (w : Wanted) (rest : List Wanted) (refusal : Refusal)
      → x.left.items ≡ cs → KnowsPlanned me p x done takings → AreTakenAt x.schema x.newest.id p cs takings → wanted_groups x.schema cs ≡ w ∷ rest
      → IsReadAs (p.stood x.newest.id) x.schema w read → RefusesOf cs x.schema read refusal → refusal ≡ refusals.Memory
  untold [] takings x done read w rest refusal left knows taken parts was refuses = absurd refuses
  untold (c ∷ cs) [] x done read w rest refusal left knows taken parts was refuses = absurd taken
  untold (c ∷ cs) (t ∷ takings) x done read w rest refusal left knows taken parts was refuses =
      let s : TableSchema = x.schema in
      let here : wanted_of s c ≡ w = head-same (wanted_of s c) w (wanted_groups s cs) rest parts in
      let for : IsReadFor s c t read =
      read-for one kept_have grows f p stands me x done (t ∷ takings) c t read knows taken.0 (subst (λ (w : Wanted). IsReadAs (p.stood x.newest.id) s w read) (sym here) was) in
      memory me p x done t takings read refusal knows (subst (λ (cs : List ChosenGroup). FirstReadFor s cs t read) (sym left) for)
      (subst (λ (cs : List ChosenGroup). RefusesOf cs s read refusal) (sym left) refuses)

  -- nor of one after them
  pub some-untold : (groups : List GroupRead) (x : Planned) (done : List RewrittenGroup) (takings : List Taking) (first later : List Wanted) (refusal : Refusal) → CanMake x
      → KnowsPlanned me p x done takings → wanted_in x ≡ first ++ later → AllZip (IsReadAs (p.stood x.newest.id) x.schema) first groups
      → RefusesSome x groups refusal → refusal ≡ refusals.Memory
  some-untold groups x done takings first later refusal can knows parts read fails =
      let (us, w, vs, split, before, here) = zip-split (IsReadAs (p.stood x.newest.id) x.schema) first fails.before fails.first fails.after
      (subst (λ (groups : List GroupRead). AllZip (IsReadAs (p.stood x.newest.id) x.schema) first groups) fails.parts read) in
      let left : wanted_in x ≡ us ++ w ∷ (vs ++ later) = parts ∙ ap (λ (ws : List Wanted). ws ++ later) split ∙ append_assoc us (w ∷ vs) later in
      let a = all-made one kept_have grows f p stands me fails.before x fails.made done takings us (w ∷ (vs ++ later)) can knows left before fails.rewritten fails.room.few in
      untold fails.made.left.items a.takings fails.made a.all fails.first w (vs ++ later) refusal refl a.knows a.knows.left a.left
      (subst (λ (s : TableSchema). IsReadAs (p.stood fails.made.newest.id) s w fails.first) (sym a.schema)
      (subst (λ n. IsReadAs (p.stood n.id) x.schema w fails.first) (sym a.newest) here)) fails.refuses

-- ---- which groups were handed out

-- of groups that are left the first were read with these runs, and all were where this says so
pub record AreHanded (f : Files) (s : TableSchema) (left : List Wanted) (groups : List GroupRead) (All : Type 0) : Type 0 where
  pub first : List Wanted
  pub later : List Wanted
  pub parts : left ≡ first ++ later
  pub read : AllZip (IsReadAs f s) first groups
  pub ended : All → later ≡ []

-- those after others that were made
read-on : (f : Files) (s : TableSchema) (All : Type 0) (made left whole later : List Wanted) (given groups : List GroupRead) → made ++ left ≡ whole ++ later
    → length made ≡ length given → AllZip (IsReadAs f s) whole (given ++ groups) → (All → later ≡ []) → AreHanded f s left groups All
read-on f s All [] left whole later [] groups parts size read ended =
    record { first = whole; later = later; parts = parts; read = read; ended = ended }
read-on f s All [] left whole later (runs ∷ given) groups parts size read ended = absurd (omega (arith, size))
read-on f s All (e ∷ made) left whole later [] groups parts size read ended = absurd (omega (arith, size))
read-on f s All (e ∷ made) left [] later (runs ∷ given) groups parts size read ended = absurd read
read-on f s All (e ∷ made) left (w ∷ whole) later (runs ∷ given) groups parts size read ended =
    read-on f s All made left whole later given groups (tail-same e w (made ++ left) (whole ++ later) parts) (omega (arith, size)) read.1 ended

groups-many : (s : TableSchema) (done : List RewrittenGroup) → length (made_groups s done) ≡ length done
groups-many s [] = refl
groups-many s (z ∷ done) = ap suc (groups-many s done)

-- what the law of groups that are whole says
abbrev pub WholeAre : Type 0
WholeAre = (p : Past) (a : Chosen) (c : Collected) (left : List Job) → HasTaken p a c left → AreReadAs (p.stood a.id) a.schema a.groups left (a.given ++ c.groups)

module _ (whole : WholeAre) (x : Planned) (done : List RewrittenGroup) (given : List GroupRead) (many : length given ≡ length done) (f : Files) (p : Past) where
  abbrev pub HaveHanded : List GroupRead → files_phase.Phase → Type 0
  HaveHanded groups rest = AreHanded (p.stood x.newest.id) x.schema (wanted_in x) groups (reader.IsReady rest)

  taken-handed : (c : Collected) (left : List Job) (rest : files_phase.Phase) → HasTaken p (asked_for x done given) c left → (reader.IsReady rest → left ≡ []) → HaveHanded c.groups rest
  taken-handed c left rest taken none =
      let w = whole p (asked_for x done given) c left taken in
      read-on (p.stood x.newest.id) x.schema (reader.IsReady rest) (made_groups x.schema done) (wanted_in x) w.whole w.later given c.groups w.parts
      (groups-many x.schema done ∙ sym many) w.read (λ ready. w.ended (none ready))

  none-handed : (groups : List GroupRead) (rest : files_phase.Phase) → groups ≡ [] → (reader.IsReady rest → ⊥) → HaveHanded groups rest
  none-handed groups rest none unready =
      subst (λ (groups : List GroupRead). HaveHanded groups rest) (sym none)
      (record { first = []; later = wanted_in x; parts = refl; read = tt; ended = λ ready. absurd (unready ready) })

  pub are-handed : (m : files_phase.Phase) (groups : List GroupRead) (rest : files_phase.Phase) → files.Knows (asked_for x done given) m f p → HandsOut m groups rest
      → HaveHanded groups rest
  are-handed (readers.Files r) groups rest (same, taken) (are, is) =
      subst (λ (groups : List GroupRead). HaveHanded groups rest) (sym are)
      (taken-handed r.collected (r.next ∷ r.rest) rest taken (λ ready. absurd (subst reader.IsReady is ready)))
  are-handed (readers.Ready c) groups rest taken (are, is) =
      subst (λ (groups : List GroupRead). HaveHanded groups rest) (sym are) (taken-handed c [] rest taken (λ ready. refl))
  are-handed (readers.Again id path) groups rest known (none, is) = none-handed groups rest none (λ ready. subst reader.IsReady is ready)
  are-handed readers.Over groups rest known (none, is) = none-handed groups rest none (λ ready. subst reader.IsReady is ready)
