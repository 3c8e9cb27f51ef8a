-- What is known of a plan stays so, whoever commits.
use Rattle.std.proofs.Common.{◌≡◌, ℕ, ◌≤◌, List, [], ◌∷◌, drop, length, length-append, map, take, sym, ap, subst, ◌∙◌, arith}
use Rattle.std.specs.List.{AllByRecursion, AllZip}
use Rattle.pm_store.specs.Files.{Files}
use Rattle.pm_values.specs.declared.group.Group.{Group}
use Rattle.pm_model_history.specs.History.{Entry, GoesOn, History, IsTableOf, no_table, table}
use Rattle.pm_schema.specs.declared.schema.TableSchema.{TableSchema}
use Rattle.pm_values.specs.declared.record.Change.{Change as ToldChange}
use Rattle.pm_runs.specs.Succession.{IsTaken, KnownRun, Taking}
use Rattle.pm_changelog.specs.GroupLog.{IsGroupLog}
use Rattle.pm_model_folder.specs.Runs.{view_of}
use Rattle.pm_model_folder.specs.Changes.{Actor, Change}
use Rattle.pm_model_folder.specs.Ledger.{Advances, Past, count_of}
use Rattle.pm_model_folder.specs.Meaning.{SnapshotAt}
use Rattle.pm_choice.specs.declared.choice.ChosenGroup.{ChosenGroup}
use Rattle.pm_compaction.specs.Plan.{IsRewrittenAt, RewrittenGroup}
use Rattle.pm_model_changelog.specs.Log.{compaction_log}
use Rattle.pm_plan.specs.Known.{AreStoredRuns, IsLoggedAt, IsTakenAt, KnowsPlanned}
use Rattle.pm_plan.specs.declared.planned.Planned.{Planned}

-- the history goes on with each change
abbrev pub HistoryGoesOn : Type 0
HistoryGoesOn = (me : Actor) (f after : Files) (h later : History) → Change me f h after later → GoesOn h later

table-stays : (s : TableSchema) (h later : History) → GoesOn h later → IsTableOf s h → IsTableOf s later
table-stays s no_table later goes is = absurd is
table-stays s (table t entries) no_table goes is = absurd goes
table-stays s (table t entries) (table u more) goes is = goes.0 ∙ is

count-grows : (h later : History) → GoesOn h later → count_of h ≤ count_of later
count-grows no_table later goes = omega arith
count-grows (table s entries) no_table goes = absurd goes
count-grows (table s entries) (table t later) goes =
    let same = ap (λ (es : List Entry). length es) goes.2 in
    let both = length-append entries goes.1 in
    omega (arith, same, both)

-- what holds of all holds of them weaker
all-weaker : {X : Type 0} (P Q : X → Type 0) → ((x : X) → P x → Q x) → (xs : List X) → AllByRecursion P xs → AllByRecursion Q xs
all-weaker P Q each [] all = tt
all-weaker P Q each (x ∷ xs) all = (each x all.0, all-weaker P Q each xs all.1)

zip-weaker : {X Y : Type 0} (P Q : X → Y → Type 0) → ((x : X) (y : Y) → P x y → Q x y) → (xs : List X) (ys : List Y) → AllZip P xs ys → AllZip Q xs ys
zip-weaker P Q each [] [] all = tt
zip-weaker P Q each [] (y ∷ ys) all = absurd all
zip-weaker P Q each (x ∷ xs) [] all = absurd all
zip-weaker P Q each (x ∷ xs) (y ∷ ys) all = (each x y all.0, zip-weaker P Q each xs ys all.1)

module _ (goes_on : HistoryGoesOn) (me other : Actor) (f after : Files) (p q : Past) (s : TableSchema) (base : ℕ) (advances : Advances other f p after q) (within : base ≤ count_of p.history)
  where
    took-stays : (g : Group) (t : Taking) → t.base ≡ base → IsTaken s p.since (λ n. p.runs n g) base t → IsTaken s q.since (λ n. q.runs n g) base t
    took-stays g t based took =
        let same = advances.runs t.base g (omega (arith, within, based)) in
        record {
          from = (let low = took.from in let since = advances.since in omega (arith, low, since));
          after_origin = took.after_origin;
          to = took.to;
          was = same ∙ took.was;
          some = took.some;
          positive = took.positive;
          within = took.within;
          low = took.low;
          high = took.high;
        }

    made-stays : (x : RewrittenGroup) → IsRewrittenAt me s base p x → IsRewrittenAt me s base q x
    made-stays x is = record {
      based = is.based;
      took = took-stays x.group x.taking is.based is.took;
      whole = is.whole;
      rests = is.rests;
      read = is.read;
      made = is.made;
      names = is.names;
    }

    taken-stays : (c : ChosenGroup) (t : Taking) → IsTakenAt s base p c t → IsTakenAt s base q c t
    taken-stays c t is =
        let same : q.runs base c.group ≡ p.runs base c.group = advances.runs base c.group within in
        record {
          chosen = is.chosen;
          levels = is.levels ∙ ap (map view_of) (sym same);
          runs = subst (AreStoredRuns s) (sym same) is.runs;
          based = is.based;
          took = took-stays c.group t is.based is.took;
          out = is.out;
          first = is.first ∙ ap (take c.take) (sym same);
          others = is.others ∙ ap (drop c.take) (sym same);
          seen = is.seen;
          whole = is.whole;
        }

    logged-stays : (z : RewrittenGroup) (told : Group × List ToldChange) → IsLoggedAt s base p z told → IsLoggedAt s base q z told
    logged-stays z told is = record {
      group = is.group;
      tells = subst (λ (runs : List KnownRun). IsGroupLog s (compaction_log s z.whole runs) told.1) (sym (advances.runs base z.group within)) is.tells;
    }

pub planned-stays : HistoryGoesOn → (me other : Actor) (f after : Files) (p q : Past) (x : Planned) (done : List RewrittenGroup) (takings : List Taking)
    → Advances other f p after q → KnowsPlanned me p x done takings → KnowsPlanned me q x done takings
planned-stays goes_on me other f after p q x done takings advances knows =
    let goes : GoesOn p.history q.history = goes_on other f after p.history q.history advances.change in
    let base = x.newest.id in
    let within = knows.known.to in
    record {
      table = table-stays x.schema p.history q.history goes knows.table;
      known = record {
        after_origin = knows.known.after_origin;
        from = (let low = knows.known.from in let first = advances.first in omega (arith, low, first));
        to = (let high = knows.known.to in let grows = count-grows p.history q.history goes in omega (arith, high, grows));
      };
      since = (let low = knows.since in let since = advances.since in omega (arith, low, since));
      author = knows.author;
      names = knows.names;
      made = all-weaker (IsRewrittenAt me x.schema base p) (IsRewrittenAt me x.schema base q) (made-stays goes_on me other f after p q x.schema base advances within) done knows.made;
      left = zip-weaker (IsTakenAt x.schema base p) (IsTakenAt x.schema base q) (taken-stays goes_on me other f after p q x.schema base advances within) x.left.items takings knows.left;
      some = knows.some;
      named = knows.named;
      rise = knows.rise;
      goes = knows.goes;
      comes = knows.comes;
      logs = zip-weaker (IsLoggedAt x.schema base p) (IsLoggedAt x.schema base q) (logged-stays goes_on me other f after p q x.schema base advances within) done x.logs.items knows.logs;
      untold = knows.untold;
      files = knows.files;
      full = λ appends asked.
          let (y, at, is) = knows.full appends asked in
          (y, subst (λ (stood : Files). SnapshotAt stood base y) (sym (advances.same base knows.known)) at, is);
    }
