-- One group more that becomes files and has its log, and one log more that is written.
use Rattle.std.proofs.Common.{◌≡◌, ℕ, ◌+◌, ◌≤◌, ◌^◌, List, [], ◌∷◌, ◌++◌, length, length-append, map, None, Some, sym, ap, subst, ◌∙◌, append-nil, arith}
use Rattle.std.specs.List.{FoldsTo}
use Rattle.std.proofs.lemmas.Fn.{FoldsTo-push}
use Rattle.std.proofs.lemmas.List.{length-map, map-append}
use Rattle.pm_base.proofs.Laws.{AllByRecursion-push}
use Rattle.pm_values.specs.declared.group.Group.{Group}
use Rattle.pm_values.specs.declared.record.Change.{Change}
use Rattle.pm_values.specs.declared.refusal.Refusal.{Refusal}
use Rattle.pm_schema.specs.Folder.{FitsPartition}
use Rattle.pm_engine.specs.OfSchema.{meaning_of}
use Rattle.pm_engines.specs.TableEngine.{HasEngine}
use Rattle.pm_merge.specs.Merging.{rests_of}
use Rattle.pm_run.specs.declared.run.RunFile.{RunFile}
use Rattle.pm_scan_rows.specs.Group.{GroupRead, read_of, reads_of}
use Rattle.pm_scan_rows.specs.declared.read_group.ReadGroup.{ReadGroup}
use Rattle.pm_compact.specs.Rewritten.{AreRewritten}
use Rattle.pm_changelog.specs.Written.{IsWrittenLog}
use Rattle.pm_put.specs.declared.putting.CommitFile.{CommitFile}
use Rattle.pm_choice.specs.Choice.{live_entry}
use Rattle.pm_compaction.specs.Plan.{group_file}
use Rattle.pm_choice.specs.declared.choice.ChosenGroup.{ChosenGroup}
use Rattle.pm_group_log.specs.Told.{IsToldOf, RefusesTelling}
use Rattle.pm_plan.specs.Planned.{AddsFiles, AllRewritten, CanMake, FitChosen, FitTold, HasRoom, LogsGroup, RefusesFirst, RefusesOf, RefusesSome, RewritesFirst, RewritesOf, TellsGroup, named_by, names_after}
use Rattle.pm_plan.specs.declared.planned.Planned.{Planned}

-- the group is off the plan, its log is there, its files were made and put to the others
pub rewritten-first : (old popped logged named new : Planned) (c : ChosenGroup) (x : GroupRead) (made : List RunFile) → old.left.items ≡ c ∷ popped.left.items
    → popped ≡ record old { left = popped.left } → LogsGroup popped c x logged
    → AreRewritten logged.schema (meaning_of logged.schema) c.whole c.out logged.names (rests_of x.runs) made → named ≡ named_by made logged
    → AddsFiles named c.group made new → RewritesFirst old x new
rewritten-first old popped logged named new c x made first off l are by put =
    let logged_is : logged ≡ record old { left = popped.left; logs = logged.logs } = l.same ∙ ap (λ (w : Planned). record w { logs = logged.logs }) off in
    let named_is : named ≡ record (named_by made old) { left = popped.left; logs = logged.logs } = by ∙ ap (λ (w : Planned). named_by made w) logged_is in
    let left : new.left ≡ popped.left = ap (λ (w : Planned). w.left) (put.same ∙ ap (λ (w : Planned). record w { added = new.added; files = new.files }) named_is) in
    let logs : new.logs ≡ logged.logs = ap (λ (w : Planned). w.logs) (put.same ∙ ap (λ (w : Planned). record w { added = new.added; files = new.files }) named_is) in
    let first_is : old.left.items ≡ c ∷ new.left.items = first ∙ λ i. c ∷ (sym left i).items in
    subst (λ (cs : List ChosenGroup). RewritesOf cs old x new) (sym first_is) (record {
      made = made;
      are = subst (λ (w : Planned). AreRewritten w.schema (meaning_of w.schema) c.whole c.out w.names (rests_of x.runs) made) logged_is are;
      first = first_is;
      log = l.log;
      tells = subst (λ (w : Planned). IsToldOf w.schema c x l.log) off l.tells;
      logs = (λ i. (logs i).items) ∙ l.logs ∙ ap (λ (w : Planned). w.logs.items ++ (c.group, l.log) ∷ []) off;
      put = subst (λ (w : Planned). AddsFiles w c.group made new) (named_is ∙ λ i. record (named_by made old) { left = sym left i; logs = sym logs i }) put;
    })

-- once it is logged the table has its engine, and there is room for the group's files
pub logged-engine : (old new : Planned) (c : ChosenGroup) (x : GroupRead) → LogsGroup old c x new → HasEngine old.schema → HasEngine new.schema
logged-engine old new c x l engine = subst (λ (w : Planned). HasEngine w.schema) (sym l.same) engine

pub logged-room : (old new : Planned) (c : ChosenGroup) (x : GroupRead) → LogsGroup old c x new → HasRoom old → HasRoom new
logged-room old new c x l room = subst HasRoom (sym l.same) (record { named = room.named; few = room.few })

-- and more can be made
pub can-next : (old popped logged named new : Planned) (c : ChosenGroup) (x : GroupRead) (made : List RunFile) → CanMake old → old.left.items ≡ c ∷ popped.left.items
    → popped ≡ record old { left = popped.left } → LogsGroup popped c x logged → named ≡ named_by made logged → AddsFiles named c.group made new
    → length new.files.items ≤ 2 ^ 32 → CanMake new
can-next old popped logged named new c x made can first off l by put few =
    let logged_is : logged ≡ record old { left = popped.left; logs = logged.logs } = l.same ∙ ap (λ (w : Planned). record w { logs = logged.logs }) off in
    let new_is : new ≡ record (named_by made old) { left = popped.left; logs = logged.logs; added = new.added; files = new.files } =
    put.same ∙ ap (λ (w : Planned). record w { added = new.added; files = new.files }) (by ∙ ap (λ (w : Planned). named_by made w) logged_is) in
    let named_files : named.files.items ≡ old.files.items = ap (λ (w : Planned). w.files.items) (by ∙ ap (λ (w : Planned). named_by made w) logged_is) in
    let both : FitsPartition old.schema c.group × FitChosen old.schema popped.left.items = subst (FitChosen old.schema) first can.fit in
    let logs : logged.logs.items ≡ old.logs.items ++ (c.group, l.log) ∷ [] = l.logs ∙ ap (λ (w : Planned). w.logs.items ++ (c.group, l.log) ∷ []) off in
    let told : FitTold old.schema logged.logs.items = subst (FitTold old.schema) (sym logs)
    (AllByRecursion-push (λ (t : Group × List Change). FitsPartition old.schema t.0) old.logs.items (c.group, l.log) can.fit_logs both.0) in
    let more : length new.files.items ≡ length old.files.items + length made = ap (λ (fs : List CommitFile). length fs) put.files
    ∙ length-append named.files.items (map (group_file named.schema c.group) made) ∙ ap (λ (fs : List CommitFile). length fs + length (map (group_file named.schema c.group) made)) named_files
    ∙ ap (λ (n : ℕ). length old.files.items + n) (length-map made (group_file named.schema c.group)) in
    let count : new.names.count ≡ old.names.count + length made = ap (λ (w : Planned). w.names.count) new_is in
    let was = can.room.named in
    record {
      engine = subst (λ (w : Planned). HasEngine w.schema) (sym new_is) can.engine;
      fit = subst (λ (w : Planned). FitChosen w.schema w.left.items) (sym new_is) both.1;
      fit_logs = subst (λ (w : Planned). FitTold w.schema w.logs.items) (sym new_is) told;
      room = record { named = omega (arith, more, count, was); few = few };
    }

-- nothing can be told of the first group that is left
pub refused-first : (old popped : Planned) (c : ChosenGroup) (x : GroupRead) (e : Refusal) → old.left.items ≡ c ∷ popped.left.items → popped ≡ record old { left = popped.left }
    → RefusesTelling popped.schema c x e → RefusesFirst old x e
refused-first old popped c x e first off refuses =
    subst (λ (cs : List ChosenGroup). RefusesOf cs old.schema x e) (sym first) (subst (λ (w : Planned). RefusesTelling w.schema c x e) off refuses)

-- so far the groups were made, and of the next one nothing can be told
pub refused-some : (p made : Planned) (all before after : List ReadGroup) (first : ReadGroup) (e : Refusal) → before ++ first ∷ after ≡ all
    → AllRewritten p (reads_of before) made → HasRoom made → RefusesFirst made (read_of first) e → RefusesSome p (reads_of all) e
refused-some p made all before after first e parts rewritten room refuses = record {
  before = reads_of before;
  first = read_of first;
  after = reads_of after;
  parts = ap reads_of (sym parts) ∙ map-append read_of before (first ∷ after);
  made = made;
  rewritten = rewritten;
  room = room;
  refuses = refuses;
}

-- ---- what is told

-- one log more was written
pub told-push : (first old new : Planned) (logs : List (Group × List Change)) (log : Group × List Change) → FoldsTo TellsGroup (record first { logs = old.logs }) logs old
    → TellsGroup old log new → FoldsTo TellsGroup (record first { logs = new.logs }) (logs ++ log ∷ []) new
told-push first old new logs log so-far tells =
    subst (λ (w : Planned). FoldsTo TellsGroup (record first { logs = w.logs }) (logs ++ log ∷ []) new) (sym tells.same)
    (FoldsTo-push TellsGroup (record first { logs = old.logs }) logs old log new so-far tells)

-- no log comes by it, and the groups' folders have paths still
pub told-without : (old new : Planned) (log : Group × List Change) → TellsGroup old log new → old.logs.items ≡ [] → new.logs.items ≡ []
told-without old new log tells none = ap (λ (w : Planned). w.logs.items) tells.same ∙ none

pub told-fits : (old new : Planned) (log : Group × List Change) (logs : List (Group × List Change)) → TellsGroup old log new → FitTold old.schema logs → FitTold new.schema logs
told-fits old new log logs tells fit = subst (λ (w : Planned). FitTold w.schema logs) (sym tells.same) fit

-- names of which some were taken
abbrev Takes : Planned → Planned → ℕ → Type 0
Takes old new n = (new.names ≡ record old.names { count = new.names.count }) × (new.names.count ≡ old.names.count + n)

names-taken : (old new : Planned) (files : List RunFile) → Takes old new (length files) → new.names ≡ names_after files old.names
names-taken old new files takes = takes.0 ∙ ap (λ (n : ℕ). record old.names { count = n }) takes.1

-- nothing is told: there is no file
pub told-none : (old new : Planned) (told : Group × List Change) → IsWrittenLog old.schema old.names told.1 None
    → new ≡ record old { names = new.names; changes = new.changes; files = new.files } → Takes old new 0 → new.changes.items ≡ old.changes.items
    → new.files.items ≡ old.files.items → TellsGroup old told new
told-none old new told written same takes changes files = record {
  file = None;
  written = written;
  changes = changes ∙ sym (append-nil old.changes.items);
  files = files ∙ sym (append-nil old.files.items);
  same = same ∙ λ i. record old { names = names-taken old new [] takes i; changes = new.changes; files = new.files };
}

pub told-some : (old new : Planned) (told : Group × List Change) (file : RunFile) → IsWrittenLog old.schema old.names told.1 (Some file)
    → new ≡ record old { names = new.names; changes = new.changes; files = new.files } → Takes old new 1
    → new.changes.items ≡ old.changes.items ++ live_entry old.schema told.0 file.meta ∷ []
    → new.files.items ≡ old.files.items ++ group_file old.schema told.0 file ∷ [] → TellsGroup old told new
told-some old new told file written same takes changes files = record {
  file = Some file;
  written = written;
  changes = changes;
  files = files;
  same = same ∙ λ i. record old { names = names-taken old new (file ∷ []) takes i; changes = new.changes; files = new.files };
}
