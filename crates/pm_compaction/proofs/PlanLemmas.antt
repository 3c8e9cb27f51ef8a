-- What a planned compaction knows stays so.
use Rattle.std.proofs.Common.{ℕ, ◌≤◌, List, length, length-append, sym, ap, subst, ◌∙◌, arith}
use Rattle.pm_store.specs.Files.{Files}
use Rattle.pm_model_history.specs.History.{Entry, GoesOn, History, IsTableOf, no_table, table}
use Rattle.pm_schema.specs.declared.schema.TableSchema.{TableSchema}
use Rattle.pm_model_changelog.specs.Log.{compaction_log}
use Rattle.pm_model_folder.specs.Changes.{Actor, Change}
use Rattle.pm_model_folder.specs.Ledger.{Advances, Past, count_of}
use Rattle.pm_model_folder.specs.Meaning.{SnapshotAt}
use Rattle.pm_put.specs.declared.putting.CommitFile.{CommitFile}
use Rattle.pm_made.specs.declared.intent.Plan.{Plan}
use Rattle.pm_made.proofs.ListLemmas.{all-weaker}
use Rattle.pm_runs.specs.Succession.{KnownRun}
use Rattle.pm_changelog.specs.GroupLog.{IsGroupLog}
use Rattle.pm_compaction.specs.Plan.{IsRewrittenAt, IsToldAt, KnowsPlan, RewrittenGroup, ToldGroup}

-- the history goes on with each change
abbrev pub HistoryGoesOn : Type 0
HistoryGoesOn = (me : Actor) (f after : Files) (h later : History) → Change me f h after later → GoesOn h later

table-stays : (s : TableSchema) (h later : History) → GoesOn h later → IsTableOf s h → IsTableOf s later
table-stays s no_table later goes is = absurd is
table-stays s (table t entries) no_table goes is = absurd goes
table-stays s (table t entries) (table u more) goes is = goes.0 ∙ is

count-grows : (h later : History) → GoesOn h later → count_of h ≤ count_of later
count-grows no_table later goes = omega arith
count-grows (table s entries) no_table goes = absurd goes
count-grows (table s entries) (table t later) goes =
    let same = ap (λ (es : List Entry). length es) goes.2 in
    let both = length-append entries goes.1 in
    omega (arith, same, both)

module _ (goes_on : HistoryGoesOn) (me other : Actor) (f after : Files) (p q : Past) (s : TableSchema) (base : ℕ) (advances : Advances other f p after q) where
  goes : GoesOn p.history q.history
  goes = goes_on other f after p.history q.history advances.change

  group-stays : base ≤ count_of p.history → (x : RewrittenGroup) → IsRewrittenAt me s base p x → IsRewrittenAt me s base q x
  group-stays within x is =
      let t = is.took in
      let same = advances.runs x.taking.base x.group (let based = is.based in omega (arith, within, based)) in
      record {
        based = is.based;
        took = record {
          from = (let low = t.from in let since = advances.since in omega (arith, low, since));
          after_origin = t.after_origin;
          to = t.to;
          was = same ∙ t.was;
          some = t.some;
          positive = t.positive;
          within = t.within;
          low = t.low;
          high = t.high;
        };
        whole = is.whole;
        rests = is.rests;
        read = is.read;
        made = is.made;
        names = is.names;
      }

  told-stays : base ≤ count_of p.history → (y : ToldGroup) → IsToldAt me s base p y → IsToldAt me s base q y
  told-stays within y is = record {
    log = is.log;
    tells = subst (λ (runs : List KnownRun). IsGroupLog s (compaction_log s y.whole runs) is.log) (sym (advances.runs base y.group within)) is.tells;
    written = is.written;
    names = is.names;
  }

  pub plan-stays : (plan : Plan) (given : List CommitFile) → KnowsPlan me s base plan given p → KnowsPlan me s base plan given q
  plan-stays plan given knows = record {
    table = table-stays s p.history q.history goes knows.table;
    known = record {
      after_origin = knows.known.after_origin;
      from = (let low = knows.known.from in let first = advances.first in omega (arith, low, first));
      to = (let high = knows.known.to in let grows = count-grows p.history q.history goes in omega (arith, high, grows));
    };
    since = (let low = knows.since in let since = advances.since in omega (arith, low, since));
    groups = knows.groups;
    some = knows.some;
    each = all-weaker (IsRewrittenAt me s base p) (IsRewrittenAt me s base q) (group-stays knows.known.to) knows.groups knows.each;
    named = knows.named;
    rise = knows.rise;
    goes = knows.goes;
    comes = knows.comes;
    told = knows.told;
    each_told = all-weaker (IsToldAt me s base p) (IsToldAt me s base q) (told-stays knows.known.to) knows.told knows.each_told;
    all_told = knows.all_told;
    tells = knows.tells;
    given_are = knows.given_are;
    full = λ appends asked.
        let (x, at, is) = knows.full appends asked in
        (x, subst (λ (stood : Files). SnapshotAt stood base x) (sym (advances.same base knows.known)) at, is);
  }
