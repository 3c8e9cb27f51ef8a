-- What is known of a plan grows with each group that is made, and in the end is what a compaction has to know.
use Rattle.std.proofs.Common.{◌≡◌, ℕ, ◌+◌, ◌<◌, ◌≤◌, ◌^◌, List, [], ◌∷◌, ◌++◌, Bool, drop, length, map, append_assoc, append-nil, option_to_list, refl, sym, ap, subst, ◌∙◌, arith}
use Rattle.std.proofs.lemmas.Grind.{flat_map-append}
use Rattle.std.proofs.lemmas.List.{map-append}
use Rattle.std.specs.List.{AllByRecursion, AllZip, FoldsTo, flat_map}
use Rattle.pm_base.proofs.Laws.{AllByRecursion-append}
use Rattle.pm_values.specs.Names.{Naming}
use Rattle.pm_values.specs.declared.group.Group.{Group}
use Rattle.pm_values.specs.declared.record.Change.{Change}
use Rattle.pm_values.specs.declared.refusal.Refusal.{Refusal}
use Rattle.pm_values.specs.declared.refusal.Refusal.TheVariants.{Memory}
use Rattle.pm_schema.specs.declared.schema.TableSchema.{TableSchema}
use Rattle.pm_engine.specs.OfSchema.{meaning_of}
use Rattle.pm_merge.specs.Merging.{rests_of}
use Rattle.pm_run.specs.declared.run.RunFile.{RunFile}
use Rattle.pm_levels.specs.Runs.{RunView}
use Rattle.pm_manifest.specs.declared.entry.Entry.{Entry}
use Rattle.pm_runs.specs.Succession.{KnownRun, Taking, from_oldest}
use Rattle.pm_scan_rows.specs.Group.{GroupRead}
use Rattle.pm_changelog.specs.GroupLog.{IsGroupLog}
use Rattle.pm_changelog.specs.Written.{IsWrittenLog}
use Rattle.pm_model_folder.specs.Changes.{Actor}
use Rattle.pm_model_folder.specs.Folder.{GroupsRise}
use Rattle.pm_model_folder.specs.Ledger.{Past}
use Rattle.pm_put.specs.declared.putting.CommitFile.{CommitFile}
use Rattle.pm_compact.specs.Rewritten.{AreRewritten}
use Rattle.pm_made.specs.declared.intent.Plan.{Plan}
use Rattle.pm_choice.specs.Choice.{live_entry, named_groups, removed_entries, run_entries}
use Rattle.pm_choice.specs.declared.choice.ChosenGroup.{ChosenGroup}
use Rattle.pm_compaction.specs.Plan.{IsRewrittenAt, IsToldAt, KnowsPlan, NamesSoMany, RewrittenGroup, ToldGroup, comes_of, goes_of, group_file, made_files, named_group, named_told, tells_of, told_files}
use Rattle.pm_model_changelog.specs.Log.{compaction_log}
use Rattle.pm_compaction_log.specs.Log.{AreFilesWith}
use Rattle.pm_group_log.specs.Told.{IsKnownAs, IsToldOf, RefusesTelling, looked_files}
use Rattle.pm_plan.specs.Known.{AreTakenAt, FirstReadFor, IsLoggedAt, IsReadFor, IsTakenAt, KnowsPlanned}
use Rattle.pm_plan.specs.Planned.{CanMake, HasRewritten, HasRoom, HasTold, IsPlanFor, RefusesFirst, RefusesOf, RewritesFirst, RewritesOf, TellsGroup}
use Rattle.pm_plan.specs.declared.planned.Planned.{Planned}
use Rattle.pm_plan.proofs.MakeLemmas.{runs-again}

-- ---- the laws of the crate below

-- what is told of a group is what a compaction tells of its runs
abbrev pub ToldLaw : Type 0
ToldLaw = (s : TableSchema) (c : ChosenGroup) (x : GroupRead) (log : List Change) (known : List KnownRun) → IsKnownAs s c x known → IsToldOf s c x log
    → IsGroupLog s (compaction_log s c.whole known) log

-- only memory may run out
abbrev pub OnlyMemory : Type 0
OnlyMemory = (s : TableSchema) (c : ChosenGroup) (x : GroupRead) (e : Refusal) (known : List KnownRun) → IsKnownAs s c x known → RefusesTelling s c x e → e ≡ Memory

-- ---- a group more

-- what comes of those done, and of one more
last-done : {X Y : Type 0} (f : X → List Y) (done : List X) (x : X) → flat_map f done ++ f x ≡ flat_map f (done ++ x ∷ [])
last-done {X} {Y} f done x =
    ap (λ (last : List Y). flat_map f done ++ last) (sym (append-nil (f x))) ∙ sym (flat_map-append f done (x ∷ []))

one-more : {X Y : Type 0} (f : X → List Y) (done : List X) (x : X) (left all : List Y) → all ≡ flat_map f done ++ (f x ++ left)
    → all ≡ flat_map f (done ++ x ∷ []) ++ left
one-more {X} {Y} f done x left all is =
    is ∙ sym (append_assoc (flat_map f done) (f x) left) ∙ ap (λ (first : List Y). first ++ left) (last-done f done x)

one-named : {X Y : Type 0} (f : X → Y) (done : List X) (x : X) (left all : List Y) → all ≡ map f done ++ f x ∷ left → all ≡ map f (done ++ x ∷ []) ++ left
one-named {X} {Y} f done x left all is =
    is ∙ sym (append_assoc (map f done) (f x ∷ []) left) ∙ ap (λ (first : List Y). first ++ left) (sym (map-append f done (x ∷ [])))

-- a group that was made, with the names from the plan's next on
abbrev group-of : Planned → Taking → ChosenGroup → List RunFile → RewrittenGroup
group-of x t c made = record { group = c.group; taking = t; whole = c.whole; names = x.names; files = made }

zip-push : {X Y : Type 0} (P : X → Y → Type 0) (xs : List X) (ys : List Y) (x : X) (y : Y) → AllZip P xs ys → P x y → AllZip P (xs ++ x ∷ []) (ys ++ y ∷ [])
zip-push P [] [] x y zip one = (one, tt)
zip-push P [] (z ∷ ys) x y zip one = absurd zip
zip-push P (z ∷ xs) [] x y zip one = absurd zip
zip-push P (z ∷ xs) (w ∷ ys) x y zip one = (zip.0, zip-push P xs ys x y zip.1 one)

-- names that are left once so many were taken
fewer-names : (me : Actor) (base n m : ℕ) (names : Naming) → NamesSoMany me base n names → names.count + n + m < 2 ^ 64
    → NamesSoMany me base m (record names { count = names.count + n })
fewer-names me base n m names are room =
    let maker = are.may in record {
      may = record {
        is_maker = record {
          sixteen = maker.is_maker.sixteen;
          bytes = maker.is_maker.bytes;
          actor_bits = maker.is_maker.actor_bits;
          base_bits = maker.is_maker.base_bits;
          count_bits = omega (arith, room);
        };
        actor_within = maker.actor_within;
        base_within = maker.base_within;
      };
      session = are.session;
      actor = are.actor;
      based = are.based;
      room = room;
    }

-- a group was read as its runs are known
known-as : (p : Past) (s : TableSchema) (base : ℕ) (c : ChosenGroup) (t : Taking) (read : GroupRead) → IsTakenAt s base p c t → IsReadFor s c t read
    → IsKnownAs s c read (p.runs base c.group)
known-as p s base c t read is was = record {
  chosen = is.chosen;
  levels = is.levels;
  within = is.runs.within;
  stored = is.runs.stored;
  read = was.runs ∙ ap from_oldest is.first;
  kept = λ lookup. subst (λ (runs : List KnownRun). AreFilesWith s (looked_files s c read) (from_oldest runs)) is.others (was.kept lookup);
}

module _ (law : ToldLaw) (me : Actor) (p : Past) (x y : Planned) (done : List RewrittenGroup) (t : Taking) (takings : List Taking) (read : GroupRead) (can : CanMake y)
    (knows : KnowsPlanned me p x done (t ∷ takings)) where
  counts : (c : ChosenGroup) (r : HasRewritten x c read y) → x.names.count + length r.made < 2 ^ 64
  counts c r =
      let named = can.room.named in
      let few = can.room.few in
      let same : y.names.count ≡ x.names.count + length r.made = ap (λ (z : Planned). z.names.count) r.put.same in
      omega (arith, named, few, same)

  group-known : (c : ChosenGroup) → IsTakenAt x.schema x.newest.id p c t → IsReadFor x.schema c t read → (r : HasRewritten x c read y)
      → IsRewrittenAt me x.schema x.newest.id p (group-of x t c r.made)
  group-known c is was r = record {
    based = is.based;
    took = is.took;
    whole = is.whole;
    rests = rests_of read.runs;
    read = runs-again read.runs ∙ was.runs;
    made = subst (λ (level : ℕ). AreRewritten x.schema (meaning_of x.schema) c.whole level x.names (rests_of read.runs) r.made) (sym is.out) r.are;
    names = record {
      may = knows.names.may;
      session = knows.names.session;
      actor = knows.names.actor;
      based = knows.names.based;
      room = counts c r;
    };
  }

  grows-with : (c : ChosenGroup) (rest : List ChosenGroup) → x.left.items ≡ c ∷ rest → IsTakenAt x.schema x.newest.id p c t → AreTakenAt x.schema x.newest.id p rest takings
      → IsReadFor x.schema c t read → (r : HasRewritten x c read y) → KnowsPlanned me p y (done ++ group-of x t c r.made ∷ []) takings
  grows-with c rest left is others was r =
      let z : RewrittenGroup = group-of x t c r.made in
      let P : RewrittenGroup → Group × List Change → Type 0 = IsLoggedAt x.schema x.newest.id p in
      let told : P z (c.group, r.log) = record { group = refl; tells = law x.schema c read r.log (p.runs x.newest.id c.group) (known-as p x.schema x.newest.id c t read is was) r.tells } in
      subst (λ (w : Planned). KnowsPlanned me p w (done ++ z ∷ []) takings) (sym r.put.same) (record {
        table = knows.table;
        known = knows.known;
        since = knows.since;
        author = knows.author;
        names = fewer-names me x.newest.id (length r.made) 0 x.names
            (record { may = knows.names.may; session = knows.names.session; actor = knows.names.actor; based = knows.names.based; room = counts c r })
            (let room = counts c r in omega (arith, room));
        made = AllByRecursion-append (IsRewrittenAt me x.schema x.newest.id p) done (z ∷ []) knows.made (group-known c is was r, tt);
        left = subst (λ (cs : List ChosenGroup). AreTakenAt x.schema x.newest.id p cs takings) (ap (λ (cs : List ChosenGroup). drop 1 cs) (sym left ∙ r.first)) others;
        some = knows.some;
        named = one-named named_group done z (named_groups y.left.items) x.groups.items
            (knows.named ∙ ap (λ (cs : List ChosenGroup). map named_group done ++ named_groups cs) r.first);
        rise = knows.rise;
        goes = one-more (goes_of x.schema) done z (removed_entries x.schema y.left.items) x.removed.items
            (knows.goes ∙ ap (λ (cs : List ChosenGroup). flat_map (goes_of x.schema) done ++ removed_entries x.schema cs) r.first
            ∙ ap (λ (runs : List RunView). flat_map (goes_of x.schema) done ++ (run_entries x.schema c.group runs ++ removed_entries x.schema y.left.items)) (sym is.seen));
        comes = r.put.added ∙ ap (λ (first : List Entry). first ++ comes_of x.schema z) knows.comes ∙ last-done (comes_of x.schema) done z;
        logs = subst (AllZip P (done ++ z ∷ [])) (sym r.logs) (zip-push P done x.logs.items z (c.group, r.log) knows.logs told);
        untold = knows.untold;
        files = r.put.files ∙ ap (λ (first : List CommitFile). first ++ made_files x.schema z) knows.files ∙ last-done (made_files x.schema) done z;
        full = knows.full;
      })

  grows-of : (cs : List ChosenGroup) → x.left.items ≡ cs → AreTakenAt x.schema x.newest.id p cs (t ∷ takings) → FirstReadFor x.schema cs t read → RewritesOf cs x read y
      → (z : RewrittenGroup) × (z.taking ≡ t) × KnowsPlanned me p y (done ++ z ∷ []) takings
  grows-of [] left taken was rewrites = absurd rewrites
  grows-of (c ∷ rest) left taken was rewrites =
      (group-of x t c rewrites.made, refl, grows-with c rest left taken.0 taken.1 was rewrites)

  pub planned-grows : FirstReadFor x.schema x.left.items t read → RewritesFirst x read y → (z : RewrittenGroup) × (z.taking ≡ t) × KnowsPlanned me p y (done ++ z ∷ []) takings
  planned-grows was rewrites = grows-of x.left.items refl knows.left was rewrites

-- nothing but memory keeps the next group from being told of
pub planned-memory : OnlyMemory → (me : Actor) (p : Past) (x : Planned) (done : List RewrittenGroup) (t : Taking) (takings : List Taking) (read : GroupRead) (refusal : Refusal)
    → KnowsPlanned me p x done (t ∷ takings) → FirstReadFor x.schema x.left.items t read → RefusesFirst x read refusal → refusal ≡ Memory
planned-memory law me p x done t takings read refusal knows was refuses = by x.left.items knows.left was refuses
  where
    by : (cs : List ChosenGroup) → AreTakenAt x.schema x.newest.id p cs (t ∷ takings) → FirstReadFor x.schema cs t read → RefusesOf cs x.schema read refusal → refusal ≡ Memory
    by [] taken was refuses = absurd refuses
    by (c ∷ rest) taken was refuses =
        law x.schema c read refusal (p.runs x.newest.id c.group) (known-as p x.schema x.newest.id c t read taken.0 was) refuses

-- ---- what is told is written

counts-up : (logs : List (Group × List Change)) (x y : Planned) → FoldsTo TellsGroup x logs y → x.names.count ≤ y.names.count
counts-up [] x y is = let same : x.names.count ≡ y.names.count = ap (λ (w : Planned). w.names.count) is in omega (arith, same)
counts-up (told ∷ logs) x y (middle, tells, rest) =
    let one : middle.names.count ≡ x.names.count + length (option_to_list tells.file) = ap (λ (w : Planned). w.names.count) tells.same in
    let more = counts-up logs middle y rest in
    omega (arith, one, more)

module _ (me : Actor) (p : Past) (s : TableSchema) (base : ℕ) where
  -- of groups that were made these changelog files were written, behind what was there
  record WroteTold (done : List RewrittenGroup) (x y : Planned) : Type 0 where
    told : List ToldGroup
    each : AllByRecursion (IsToldAt me s base p) told
    named : map named_group done ≡ map named_told told
    changes : y.changes.items ≡ x.changes.items ++ flat_map (tells_of s) told
    files : y.files.items ≡ x.files.items ++ flat_map (told_files s) told
    same : y ≡ record x { names = y.names; changes = y.changes; files = y.files }
    names : NamesSoMany me base 0 y.names

  wrote-none : (x y : Planned) → NamesSoMany me base 0 x.names → x ≡ y → WroteTold [] x y
  wrote-none x y names is = subst (WroteTold [] x) is (record {
    told = [];
    each = tt;
    named = refl;
    changes = sym (append-nil x.changes.items);
    files = sym (append-nil x.files.items);
    same = refl;
    names = names;
  })

  wrote-one : (z : RewrittenGroup) (done : List RewrittenGroup) (told : Group × List Change) (x middle y : Planned) → x.schema ≡ s → IsLoggedAt s base p z told
      → (tells : TellsGroup x told middle) → NamesSoMany me base (length (option_to_list tells.file)) x.names → WroteTold done middle y → WroteTold (z ∷ done) x y
  wrote-one z done told x middle y schema logged tells names w =
      let this : ToldGroup = record { group = z.group; whole = z.whole; names = x.names; file = tells.file } in
      let is : IsToldAt me s base p this = record {
        log = told.1;
        tells = logged.tells;
        written = subst (λ (t : TableSchema). IsWrittenLog t x.names told.1 tells.file) schema tells.written;
        names = names;
      } in
      let own_changes : middle.changes.items ≡ x.changes.items ++ tells_of s this =
      tells.changes ∙ λ i. x.changes.items ++ map (λ (f : RunFile). live_entry (schema i) (logged.group i) f.meta) (option_to_list tells.file) in
      let own_files : middle.files.items ≡ x.files.items ++ told_files s this =
      tells.files ∙ λ i. x.files.items ++ map (group_file (schema i) (logged.group i)) (option_to_list tells.file) in
      record {
        told = this ∷ w.told;
        each = (is, w.each);
        named = ap (λ (gs : List (Group × Bool)). (z.group, z.whole) ∷ gs) w.named;
        changes = w.changes ∙ ap (λ (es : List Entry). es ++ flat_map (tells_of s) w.told) own_changes ∙ append_assoc x.changes.items (tells_of s this) (flat_map (tells_of s) w.told);
        files = w.files ∙ ap (λ (fs : List CommitFile). fs ++ flat_map (told_files s) w.told) own_files ∙ append_assoc x.files.items (told_files s this) (flat_map (told_files s) w.told);
        same = w.same ∙ ap (λ (m : Planned). record m { names = y.names; changes = y.changes; files = y.files }) tells.same;
        names = w.names;
      }

  wrote-told : (done : List RewrittenGroup) (logs : List (Group × List Change)) (x y : Planned) → x.schema ≡ s → AllZip (IsLoggedAt s base p) done logs
      → NamesSoMany me base 0 x.names → y.names.count < 2 ^ 64 → FoldsTo TellsGroup x logs y → WroteTold done x y
  wrote-told [] [] x y schema zip names below is = wrote-none x y names is
  wrote-told [] (told ∷ logs) x y schema zip names below folds = absurd zip
  wrote-told (z ∷ done) [] x y schema zip names below folds = absurd zip
  wrote-told (z ∷ done) (told ∷ logs) x y schema zip names below (middle, tells, rest) =
      let n = length (option_to_list tells.file) in
      let one : middle.names.count ≡ x.names.count + n = ap (λ (w : Planned). w.names.count) tells.same in
      let more = counts-up logs middle y rest in
      let own : NamesSoMany me base n x.names = record { may = names.may; session = names.session; actor = names.actor; based = names.based; room = omega (arith, one, more, below) } in
      let after : NamesSoMany me base 0 middle.names =
      subst (NamesSoMany me base 0) (sym (ap (λ (w : Planned). w.names) tells.same)) (fewer-names me base n 0 x.names own (omega (arith, one, more, below))) in
      wrote-one z done told x middle y schema zip.0 tells own
      (wrote-told done logs middle y (ap (λ (w : Planned). w.schema) tells.same ∙ schema) zip.1 after below rest)

-- ---- all of them

none-left : (s : TableSchema) (base : ℕ) (p : Past) (cs : List ChosenGroup) → AreTakenAt s base p cs [] → cs ≡ []
none-left s base p [] taken = refl
none-left s base p (c ∷ cs) taken = absurd taken

none-named : (done : List RewrittenGroup) → done ≡ [] → map named_group done ≡ []
none-named done is = ap (λ (xs : List RewrittenGroup). map named_group xs) is

-- names are left once all was written
pub planned-named : (me : Actor) (p : Past) (x y : Planned) (done : List RewrittenGroup) → KnowsPlanned me p x done [] → HasTold x y → HasRoom y → NamesSoMany me x.newest.id 0 y.names
planned-named me p x y done knows has room =
    let named_few = room.named in
    let few = room.few in
    (wrote-told me p x.schema x.newest.id done x.logs.items (record x { logs = y.logs }) y refl knows.logs knows.names (omega (arith, named_few, few)) has.told).names

pub planned-whole : (me : Actor) (p : Past) (x y : Planned) (done : List RewrittenGroup) (plan : Plan) → KnowsPlanned me p x done [] → HasTold x y → HasRoom y → IsPlanFor y plan
    → KnowsPlan me x.schema x.newest.id plan y.files.items p
planned-whole me p x y done plan knows has room is =
    let s = x.schema in
    let begun : Planned = record x { logs = y.logs } in
    let named_few = room.named in
    let few = room.few in
    let wrote = wrote-told me p s x.newest.id done x.logs.items begun y refl knows.logs knows.names (omega (arith, named_few, few)) has.told in
    let none : x.left.items ≡ [] = none-left s x.newest.id p x.left.items knows.left in
    let named : x.groups.items ≡ map named_group done =
    knows.named ∙ ap (λ (cs : List ChosenGroup). map named_group done ++ named_groups cs) none ∙ append-nil (map named_group done) in
    let groups : plan.groups.items ≡ x.groups.items = ap (λ gs. gs.items) is.groups ∙ ap (λ (w : Planned). w.groups.items) wrote.same in
    record {
      table = knows.table;
      known = knows.known;
      since = knows.since;
      groups = done;
      some = λ empty. knows.some (named ∙ none-named done empty);
      each = knows.made;
      named = groups ∙ named;
      rise = subst (λ (gs : List (Group × Bool)). GroupsRise gs) (sym groups) knows.rise;
      goes = ap (λ es. es.items) is.removed ∙ ap (λ (w : Planned). w.removed.items) wrote.same ∙ knows.goes
          ∙ ap (λ (cs : List ChosenGroup). flat_map (goes_of s) done ++ removed_entries s cs) none ∙ append-nil (flat_map (goes_of s) done);
      comes = ap (λ es. es.items) is.added ∙ ap (λ (w : Planned). w.added.items) wrote.same ∙ knows.comes;
      told = wrote.told;
      each_told = wrote.each;
      all_told = groups ∙ named ∙ wrote.named;
      tells = ap (λ es. es.items) is.changes ∙ wrote.changes ∙ ap (λ (es : List Entry). es ++ flat_map (tells_of s) wrote.told) knows.untold;
      given_are = wrote.files ∙ ap (λ (files : List CommitFile). files ++ flat_map (told_files s) wrote.told) knows.files;
      full = λ appends asked. knows.full appends (sym (ap (λ (w : Planned). w.full) wrote.same) ∙ sym is.full ∙ asked);
    }
