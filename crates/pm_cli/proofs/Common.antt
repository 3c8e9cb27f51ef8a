-- Of files that a store leaves, and of what is known of an execution.
use Rattle.std.proofs.Common.{◌≡◌, ◌≢◌, ◌≤◌, ◌+◌, ℕ, suc, nat_lt, Bool, true, false, if◌then◌else◌, List, [], ◌∷◌, ◌++◌, length, Option, None, Some, IsSomeAnd, inl, inr, refl, sym, subst, ap, ◌∙◌, length-append, take_all, arith}
use Rattle.std.proofs.lemmas.Bool.Decides.{nat_tests}
use Rattle.pm_values.specs.declared.refusal.Refusal.{Refusal}
use Rattle.pm_values.specs.declared.refusal.Refusal.TheVariants as refusals
use Rattle.pm_store.specs.declared.call.Op.{Op}
use Rattle.pm_store.specs.Files.{Files, files_after}
use Rattle.pm_store.specs.Images.{AllImages, Extends}
use Rattle.pm_store.specs.Store.{StoreView}
use Rattle.pm_store.proofs.ImageLaws.{Extends-weaker}
use Rattle.pm_model_history.specs.History.{Entry, History, no_table, table}
use Rattle.pm_schema.specs.declared.schema.TableSchema.{TableSchema}
use Rattle.pm_snapshot.specs.Names.{greatest}
use Rattle.pm_model_folder.specs.Changes.{Actor, origin_name}
use Rattle.pm_model_folder.specs.Folder.{HasTable, HaveSettled, KeepsConsumers}
use Rattle.pm_create.specs.Making.{LeavesFiles}
use Rattle.pm_words.specs.declared.command.Command.{Command}
use Rattle.pm_command.specs.Outside.{actor}
use Rattle.pm_command.specs.declared.start.Start.{Start}
use Rattle.pm_cli.specs.Promise.{Does, Execution, HasMade, MayMake, StandsForOthers, commits, compacts, consumes, creates, drops, follows, found_by, has_already, expires, expires_none, lists, lists_consumers, rests, scans, takes_none}
use Rattle.pm_cli.specs.Start.{HaveOtherNames, IsNew, LeavesOut, snapshot_made}

-- the execution with this command in its place
abbrev pub with_command : Command → Execution → Execution
with_command command e = record e { command = command }

pub leaves_weaker : (P Q : Files → Type 0) (store : StoreView) → ((f : Files) → P f → Q f) → LeavesFiles P store → LeavesFiles Q store
leaves_weaker P Q store weaker = at_ops store.ops
  where
    at_ops : (ops : Option (List Op)) → IsSomeAnd ops (λ ops. P (files_after ops)) → IsSomeAnd ops (λ ops. Q (files_after ops))
    at_ops None is = is
    at_ops (Some ops) is = weaker (files_after ops) is

pub leaves_both : (P Q R : Files → Type 0) (store : StoreView) → ((f : Files) → P f → Q f → R f) → LeavesFiles P store → LeavesFiles Q store
    → LeavesFiles R store
leaves_both P Q R store join = at_ops store.ops
  where
    at_ops : (ops : Option (List Op)) → IsSomeAnd ops (λ ops. P (files_after ops)) → IsSomeAnd ops (λ ops. Q (files_after ops))
        → IsSomeAnd ops (λ ops. R (files_after ops))
    at_ops None is other = is
    at_ops (Some ops) is other = join (files_after ops) is other

-- what two sentences of these files say of anything else
pub any_both : (P Q : Files → Type 0) (R : Type 0) (store : StoreView) → ((f : Files) → P f → Q f → R) → LeavesFiles P store → LeavesFiles Q store → R
any_both P Q R store join = at_ops store.ops
  where
    at_ops : (ops : Option (List Op)) → IsSomeAnd ops (λ ops. P (files_after ops)) → IsSomeAnd ops (λ ops. Q (files_after ops)) → R
    at_ops None is other = absurd is
    at_ops (Some ops) is other = join (files_after ops) is other

pub any_files : (P : Files → Type 0) (R : Type 0) (store : StoreView) → ((f : Files) → P f → R) → LeavesFiles P store → R
any_files P R store join = at_ops store.ops
  where
    at_ops : (ops : Option (List Op)) → IsSomeAnd ops (λ ops. P (files_after ops)) → R
    at_ops None is = absurd is
    at_ops (Some ops) is = join (files_after ops) is

-- a history with something, for which these files stand, is one apart from them
pub leaves_some : (R : History → Type 0) (P : History → Files → Type 0) (store : StoreView) → LeavesFiles (λ f. (later : History) × R later × P later f) store
    → (later : History) × R later × LeavesFiles (P later) store
leaves_some R P store = at_ops store.ops
  where
    at_ops : (ops : Option (List Op)) → IsSomeAnd ops (λ ops. (later : History) × R later × P later (files_after ops))
        → (later : History) × R later × IsSomeAnd ops (λ ops. P later (files_after ops))
    at_ops None is = absurd is
    at_ops (Some ops) is = is

-- the files at the end are an image
pub extends_end : (P : Files → Type 0) (first now : StoreView) → LeavesFiles (λ f. Unit {0}) first → Extends P first.ops now.ops → LeavesFiles P now
extends_end P first now = by first.ops now.ops
  where
    by : (known after : Option (List Op)) → IsSomeAnd known (λ ops. Unit {0}) → Extends P known after → IsSomeAnd after (λ ops. P (files_after ops))
    by None after is images = absurd is
    by (Some ops) after is (more, same, images) =
        let all : List Op = ops ++ more in
        let end : P (files_after all) = images (length all) (files_after all) (longer ops more) (inl (ap files_after (sym (take_all (length all) all (omega arith))))) in
        subst (λ (known : Option (List Op)). IsSomeAnd known (λ ops. P (files_after ops))) (sym same) end
      where
        longer : (ops more : List Op) → length ops ≤ length (ops ++ more)
        longer ops more = omega (arith, length-append ops more)

same_ops : (ops others : List Op) → Some ops ≡ Some others → ops ≡ others
same_ops ops others is = cc

-- images have something, and each of many things that they have
pub extends_each : {X : Type 0} (P : Files → Type 0) (C : X → Type 0) (Q : X → Files → Type 0) (first now : Option (List Op)) → Extends P first now
    → ((x : X) → C x → Extends (Q x) first now) → Extends (λ f. P f × ((x : X) → C x → Q x f)) first now
extends_each {X} P C Q None now is each = is
extends_each {X} P C Q (Some old) now (more, is, images) each = (more, is, λ i f from image. (images i f from image, λ x c. its x c i f from image))
  where
    its : (x : X) → C x → AllImages (Q x) (length old) (old ++ more)
    its x c =
        let other = each x c in
        subst (AllImages (Q x) (length old)) (same_ops (old ++ other.0) (old ++ more) (sym other.1 ∙ is)) other.2

pub leaves_each : {X : Type 0} (P : Files → Type 0) (C : X → Type 0) (Q : X → Files → Type 0) (store : StoreView) → LeavesFiles P store
    → ((x : X) → C x → LeavesFiles (Q x) store) → LeavesFiles (λ f. P f × ((x : X) → C x → Q x f)) store
leaves_each {X} P C Q store = at_ops store.ops
  where
    at_ops : (ops : Option (List Op)) → IsSomeAnd ops (λ ops. P (files_after ops)) → ((x : X) → C x → IsSomeAnd ops (λ ops. Q x (files_after ops)))
        → IsSomeAnd ops (λ ops. P (files_after ops) × ((x : X) → C x → Q x (files_after ops)))
    at_ops None is each = is
    at_ops (Some ops) is each = (is, each)

pub extends_both : (P Q : Files → Type 0) (first now : Option (List Op)) → Extends P first now → Extends Q first now → Extends (λ f. P f × Q f) first now
extends_both P Q first now one other =
    Extends-weaker (λ f. P f × ((x : Unit {0}) → Unit {0} → Q f)) (λ f. P f × Q f) first now (λ f is. (is.0, is.1 tt tt))
    (extends_each {X = Unit {0}} P (λ x. Unit {0}) (λ x. Q) first now one (λ x c. other))

-- what is so of the files of two stores
pub leaves_turned : (R : Files → Files → Type 0) (one other : StoreView) → LeavesFiles (λ f. LeavesFiles (R f) other) one
    → LeavesFiles (λ g. LeavesFiles (λ f. R f g) one) other
leaves_turned R one other = at_ops one.ops other.ops
  where
    at_ops : (known now : Option (List Op)) → IsSomeAnd known (λ ops. IsSomeAnd now (λ more. R (files_after ops) (files_after more)))
        → IsSomeAnd now (λ more. IsSomeAnd known (λ ops. R (files_after ops) (files_after more)))
    at_ops None now is = absurd is
    at_ops (Some ops) None is = is
    at_ops (Some ops) (Some more) is = is

-- whatever is so of these files the store leaves
pub any_here : (P : Files → Type 0) (R : Type 0) (store : StoreView) → ((f : Files) → P f → ((T : Files → Type 0) → T f → LeavesFiles T store) → R)
    → LeavesFiles P store → R
any_here P R store join = by store.ops refl
  where
    by : (ops : Option (List Op)) → store.ops ≡ ops → IsSomeAnd store.ops (λ ops. P (files_after ops)) → R
    by None same is = absurd (subst (λ (ops : Option (List Op)). IsSomeAnd ops (λ ops. P (files_after ops))) same is)
    by (Some ops) same is =
        join (files_after ops) (subst (λ (ops : Option (List Op)). IsSomeAnd ops (λ ops. P (files_after ops))) same is)
        (λ T here. subst (λ (ops : Option (List Op)). IsSomeAnd ops (λ ops. T (files_after ops))) (sym same) here)

-- what each image has of the files at first
pub images_turned : (R : Files → Files → Type 0) (first : StoreView) (now : Option (List Op)) → LeavesFiles (λ f. Extends (R f) first.ops now) first
    → Extends (λ g. LeavesFiles (λ f. R f g) first) first.ops now
images_turned R first now =
    any_here (λ f. Extends (R f) first.ops now) (Extends (λ g. LeavesFiles (λ f. R f g) first) first.ops now) first
    (λ f images here. Extends-weaker (R f) (λ g. LeavesFiles (λ f. R f g) first) first.ops now (λ g is. here (λ f. R f g) is) images)

-- ---- consumers

-- a table's schema stays, and so who is settled
later_settled : (start : Start) (bytes : List ℕ) (found : StoreView) (command : Command) (h later : History) (text : List ℕ) (f : Files) (names : List (List ℕ))
    → Does start bytes found command h later text → HaveSettled f h names → HaveSettled f later names
later_settled start bytes found command h later text f names (creates s draft) have = λ name there. absurd (have name there)
later_settled start bytes found command h later text f names (scans at s es within) have = have
later_settled start bytes found command h later text f names (lists s es lines are there) have = have
later_settled start bytes found command h later text f names (lists_consumers s es consumers are) have = have
later_settled start bytes found command h later text f names (drops name s es was_there at) have = have
later_settled start bytes found command h later text f names (follows from full s es may) have = have
later_settled start bytes found command h later text f names (consumes name from known full s es at tells may) have = have
later_settled start bytes found command h later text f names (expires_none min max millis s) have = have
later_settled start bytes found command h later text f names (expires min max millis s es end some ends) have = have
later_settled start bytes found command h later text f names (rests full s es chosen) have = have
later_settled start bytes found command h later text f names (compacts full s es groups some chosen) have = have
later_settled start bytes found command h later text f names (takes_none user number s es took) have = have
later_settled start bytes found command h later text f names (has_already user number s es rows i e took some at reached there) have = have
later_settled start bytes found command h later text f names (commits user number s es rows took some) have = have

pub made_settled : (e : Execution) (h later : History) → MayMake e h later → (f : Files) (names : List (List ℕ)) → HaveSettled f h names → HaveSettled f later names
made_settled e h later (inl same) f names have = subst (λ (later : History). HaveSettled f later names) (sym same) have
made_settled e h later (inr (text, does)) f names have = later_settled e.start e.input (found_by e) e.command h later text f names does have

-- where all consumers are kept
pub still_settled : (e : Execution) (h : History) (first : StoreView) (later : History) (f : Files) → MayMake e h later → LeavesFiles (λ was. KeepsConsumers h was f) first
    → (names : List (List ℕ)) → LeavesFiles (λ was. HaveSettled was h names) first → HaveSettled f later names
still_settled e h first later f make keeps names =
    any_both (λ was. KeepsConsumers h was f) (λ was. HaveSettled was h names) (HaveSettled f later names) first
    (λ was is have. made_settled e h later make f names (is.settled names have)) keeps

-- files stand so for what it may make
abbrev pub StandsForSome : (History → Files → Type 0) → Execution → History → Files → Type 0
StandsForSome Stands e h f = (later : History) × MayMake e h later × Stands later f

-- and freely
abbrev pub StandsForSomeFreely : Execution → History → StoreView → Files → Type 0
StandsForSomeFreely e h first f = (later : History) × MayMake e h later × StandsForOthers e h first later f

-- another actor, which was new at first
abbrev pub WasNew : Execution → History → StoreView → Actor → Type 0
WasNew e h first other = HaveOtherNames (actor e.start) other × LeavesFiles (IsNew other h) first

-- ---- the snapshot that was made

-- none, where the history stays
pub none_made : (h : History) → None ≡ snapshot_made h h
none_made no_table = refl
none_made (table s es) =
    let less : nat_lt (length es) (length es) ≡ false = grind (arith, nat_tests) in
    ap (λ (b : Bool). if b then Some (length es) else None) (sym less)

-- that of one entry more
pub one_made : (s : TableSchema) (es : List Entry) (e : Entry) (id : ℕ) → id ≡ length es + 1 → Some id ≡ snapshot_made (table s es) (table s (es ++ e ∷ []))
one_made s es e id is =
    let count : length (es ++ e ∷ []) ≡ length es + 1 = length-append es (e ∷ []) in
    let more : nat_lt (length es) (length (es ++ e ∷ [])) ≡ true = grind (arith, nat_tests, count) in
    ap Some (is ∙ sym count) ∙ ap (λ (b : Bool). if b then Some (length (es ++ e ∷ [])) else None) (sym more)

pub sink_same : (one other : Option ℕ) → refusals.SinkFault one ≡ refusals.SinkFault other → one ≡ other
sink_same one other is = cc

-- ---- one history at a time

-- files that stand for a history have no snapshot more
pub one_more : (f : Files) (s : TableSchema) (es : List Entry) (e : Entry) → HasTable f s es → HasTable f s (es ++ e ∷ []) → ⊥
one_more f s es e less greater =
    let count : length (es ++ e ∷ []) ≡ length es + 1 = length-append es (e ∷ []) in
    let most = greater.snapshots.within in
    let low = greater.snapshots.some in
    let within : suc (length es) ≤ greatest = omega (arith, count, most) in
    let low_enough : greater.snapshots.least ≤ suc (length es) = omega (arith, count, low) in
    let there = (greater.snapshots.exact (suc (length es)) within).1 (low_enough, omega (arith, count)) in
    let high = ((less.snapshots.exact (suc (length es)) within).0 there).1 in
    omega (arith, high)

pub other_than : (me other : Actor) → HaveOtherNames me other → other ≢ me
other_than me other names same = names (ap origin_name same)

-- ---- refusals but that of the sink

abbrev pub NotSink : Refusal → Type 0
NotSink (refusals.SinkFault snapshot) = ⊥
NotSink other = Unit {0}

-- where it was refused, but by the sink, and this was printed, it may have made nothing
pub makes_nothing : (e : Execution) (h : History) (refusal : Refusal) → NotSink refusal → LeavesOut e.command (found_by e) h e.before.out e.after.out
    → HasMade e h (Some refusal) h
makes_nothing e h (refusals.SinkFault snapshot) not out = absurd not
makes_nothing e h (refusals.StoreFault path) not out = (inl refl, inl refl, out)
makes_nothing e h other not out = (refl, out)
