-- Laws of `consumers --drop`: what is so of its calls, and of a history.
use Rattle.std.proofs.Common.{◌≡◌, ◌≢◌, ◌⊎◌, inl, inr, ℕ, ◌≤◌, List, [], Bool, true, false, Option, None, Some, IsSomeAnd, Result, Ok, Err, refl, sym, subst, ◌∙◌, arith}
use Rattle.std.specs.FinMap as map
use Rattle.std.specs.Result.{result_err}
use Rattle.pm_values.specs.declared.refusal.Refusal.{Refusal}
use Rattle.pm_values.specs.declared.refusal.Refusal.TheVariants as refusals
use Rattle.pm_io.specs.Sink.{SinkView}
use Rattle.pm_store.specs.Files.{Files, files_after}
use Rattle.pm_store.specs.Images.{Extends}
use Rattle.pm_store.specs.Store.{StoreView, at_first_own}
use Rattle.pm_store.specs.declared.call.Op.{Op}
use Rattle.pm_store.proofs.ImageLaws.{Extends-trans, Extends-weaker}
use Rattle.pm_machine.specs.Trace.{HasTrace}
use Rattle.pm_model_history.specs.History.{Entry, History, IsTableOf, no_table, table}
use Rattle.pm_schema.specs.Again.{IsDeclared}
use Rattle.pm_schema.specs.declared.schema.TableSchema.{TableSchema}
use Rattle.pm_partitions.proofs.Plain.{plain_names}
use Rattle.pm_model_folder.specs.Changes.{Actor, HavePlainNames}
use Rattle.pm_model_folder.specs.Folder.{Folder, HaveSettled}
use Rattle.pm_model_folder.specs.Paths.{consumer_path}
use Rattle.pm_create.specs.Making.{LeavesFiles}
use Rattle.pm_read_schema.specs.AllCalls.{DidRead, HasFiles, ReadsTables, Stay}
use Rattle.pm_read_schema.specs.Beside.{AnyPast, IsTold, Learns}
use Rattle.pm_read_schema.proofs.BesideFacts.{learns-weaker}
use Rattle.pm_move_consumer.specs.DropperAllCalls as dropper
use Rattle.pm_move_consumer.specs.DropperAllCalls.{AreOthersOf, DidDrop, DropsName, DropsOn, ItGoes, ItLeaves, ItRests}
use Rattle.pm_move_consumer.specs.DropperMeaning.{drop_by}
use Rattle.pm_move_consumer.specs.MoverAllCalls.{OthersRest, StandsWith}
use Rattle.pm_move_consumer.specs.MoverMeaning.{HasPlainTable}
use Rattle.pm_command.specs.Outside.{Outside, Prints}
use Rattle.pm_command.specs.Table.{MayRefuse}
use Rattle.pm_command.proofs.TableLemmas.{trace_weaker, files_of, leaves_of, leaves_weaker, caused}
use Rattle.pm_command_consumers.specs.Consumers.{AfterSchema}
use Rattle.pm_command_consumers.specs.Drop.{AnswersHistory, DidRemove, Drops, DropsTables, EndsBy, IsRemoved, ItEnds, Keeps, KeepsHistories, MadeBeside, MakesOf, StandsWithout, WasThere, text_of}
use Rattle.pm_command_consumers.proofs.JoinLemmas.{after_schema, read_then, rose_wider}

-- ---- its calls

pub read_refused : (name : List ℕ) (e : Refusal) (before after : StoreView) → HasTrace (DidRead (Err e)) before after → HasTrace (DidRemove name (Err e)) before after
read_refused name e before after = trace_weaker (DidRead (Err e)) (DidRemove name (Err e)) (λ own shows. inl shows) before after

pub removed_trace : (name : List ℕ) (s : TableSchema) (made : Result Bool Refusal) (before middle after : StoreView) → IsDeclared s
    → HasTrace (DidRead (Ok s)) before middle → HasTrace (DidDrop name made) middle after → HasTrace (DidRemove name made) before after
removed_trace name s (Ok was_there) before middle after declared has did = after_schema s (DidDrop name (Ok was_there)) before middle after declared has did
removed_trace name s (Err e) before middle after declared has did =
    trace_weaker (AfterSchema (DidDrop name (Err e))) (DidRemove name (Err e)) (λ own shows. inr shows) before after
    (after_schema s (DidDrop name (Err e)) before middle after declared has did)

-- ---- whatever others do

pub read_beside : (name : List ℕ) (e : Refusal) (before after : StoreView) → Learns AnyPast (IsTold e) before after → MadeBeside name (Err e) before after
read_beside name e before after told = inl told

learned_plain : (s : TableSchema) (before middle : StoreView) → IsDeclared s → Learns AnyPast (λ f p. IsTableOf s p.history) before middle
    → Learns AnyPast (λ f p. HasPlainTable p.history) before middle
learned_plain s before middle declared =
    learns-weaker AnyPast AnyPast (λ f p. IsTableOf s p.history) (λ f p. HasPlainTable p.history) before middle (λ f p is. is)
    (λ f p stands is. (s, is, plain_names s declared))

pub removed_beside : (name : List ℕ) (s : TableSchema) (made : Result Bool Refusal) (before middle after : StoreView) → IsDeclared s
    → Learns AnyPast (λ f p. IsTableOf s p.history) before middle → ((me : Actor) → DropsOn (drop_by me name) made middle after) → MadeBeside name made before after
removed_beside name s (Ok was_there) before middle after declared learned drops = (middle, learned_plain s before middle declared learned, drops)
removed_beside name s (Err e) before middle after declared learned drops = inr (middle, learned_plain s before middle declared learned, drops)

-- ---- what its calls do to histories

-- some of settled names are settled
some_settled : (name : List ℕ) (h : History) (names others : List (List ℕ)) (f : Files) → HaveSettled f h names → AreOthersOf name names others → HaveSettled f h others
some_settled name no_table names others f settled are = λ other c. settled other (are other c).0
some_settled name (table s entries) names others f settled are = λ other c. settled other (are other c).0

-- files that stay
same_stands : (name : List ℕ) (h : History) (names : List (List ℕ)) (f : Files) → Folder f h → HaveSettled f h names → StandsWithout name h names f f
same_stands name h names f folder settled = record {
  rest = λ other apart. refl;
  folder = folder;
  others = λ others are. some_settled name h names others f settled are;
  settled = λ rests. settled;
}

same_leaves : (name : List ℕ) (e : Refusal) (f : Files) → EndsBy name (Err e) f f
same_leaves name (refusals.StoreFault path) f = inl refl
same_leaves name e f = refl

-- what each image of them is
abbrev ImageOf : List ℕ → History → List (List ℕ) → Files → Files → Type 0
ImageOf name h names f g = StandsWithout name h names f g × (ItRests name f g ⊎ ItGoes name f g)

stay_images : (name : List ℕ) (h : History) (names : List (List ℕ)) (f : Files) (first after : StoreView) → Folder f h → HaveSettled f h names
    → Extends (λ image. image ≡ f) first.ops after.ops → Extends (ImageOf name h names f) first.ops after.ops
stay_images name h names f first after folder settled =
    Extends-weaker (λ image. image ≡ f) (ImageOf name h names f) first.ops after.ops
    (λ image is. subst (ImageOf name h names f) (sym is) (same_stands name h names f folder settled, inl refl))

stay_keeps : (name : List ℕ) (h : History) (names : List (List ℕ)) (f : Files) (first after : StoreView) (e : Refusal) → HasFiles f first → Folder f h → HaveSettled f h names
    → Stay f first after → MayRefuse h first after e → Keeps name h names first after (Err e)
stay_keeps name h names f first after e has folder settled stay may = record {
  makes = may;
  leaves = leaves_of (λ f. LeavesFiles (λ g. StandsWithout name h names f g × EndsBy name (Err e) f g) after) f first has
      (leaves_of (λ g. StandsWithout name h names f g × EndsBy name (Err e) f g) f after stay.here (same_stands name h names f folder settled, same_leaves name e f));
  images = leaves_of (λ f. Extends (ImageOf name h names f) first.ops after.ops) f first has (stay_images name h names f first after folder settled stay.images);
}

pub read_keeps : (name : List ℕ) (e : Refusal) (before after : StoreView) → ReadsTables before after (Err e) → KeepsHistories name before after (Err e)
read_keeps name e before after reads = λ alone h names stands.
    let first = at_first_own before after in
    let at = files_of (λ f. Folder f h × HaveSettled f h names) first stands in
    let read = reads alone at.0 h at.1 at.2.0 in
    stay_keeps name h names at.0 first after e at.1 at.2.0 at.2.1 read.files (caused h first after e read.cause)

no_other : (name : List ℕ) (names : List (List ℕ)) → AreOthersOf name names []
no_other name names other c = absurd (omega (arith, c.1))

without_of : (name : List ℕ) (s : TableSchema) (entries : List Entry) (names : List (List ℕ)) (f g : Files) → OthersRest (consumer_path name) f g
    → dropper.StandsWithout name s entries names f g → StandsWithout name (table s entries) names f g
without_of name s entries names f g rest stands = record {
  rest = rest;
  folder = (stands.others [] (no_other name names)).folder;
  others = λ others are. (stands.others others are).settled;
  settled = λ rests. (stands.rests rests).settled;
}

there_of : (name : List ℕ) (was_there : Bool) (f : Files) (first after : StoreView) → dropper.IsCaused name f first after (Ok was_there) → WasThere name was_there f
there_of name true f first after is = is
there_of name false f first after is = is

cause_of : (name : List ℕ) (h : History) (f : Files) (first middle after : StoreView) (e : Refusal) → first.faults ≤ middle.faults
    → dropper.IsCaused name f middle after (Err e) → MayRefuse h first after e
cause_of name h f first middle after refusals.Memory wider is = tt
cause_of name h f first middle after (refusals.StoreFault path) wider is = rose_wider first.faults middle.faults after.faults wider is.1
cause_of name h f first middle after e wider is = absurd is

some_table : (s : TableSchema) (entries : List Entry) → table s entries ≢ no_table
some_table s entries is = cc

made_of : (name : List ℕ) (s : TableSchema) (entries : List Entry) (f : Files) (first middle after : StoreView) (made : Result Bool Refusal) → HasFiles f first
    → first.faults ≤ middle.faults → dropper.IsCaused name f middle after made → MakesOf name (table s entries) first after made
made_of name s entries f first middle after (Ok was_there) has wider is =
    (some_table s entries, leaves_of (WasThere name was_there) f first has (there_of name was_there f middle after is))
made_of name s entries f first middle after (Err e) has wider is = cause_of name (table s entries) f first middle after e wider is

-- a fault left it gone in the remove alone
ends_by : (name : List ℕ) (f : Files) (first after : StoreView) (made : Result Bool Refusal) → dropper.IsCaused name f first after made → (g : Files)
    → ItLeaves name made f g → EndsBy name made f g
ends_by name f first after (Ok was_there) cause g left = left
ends_by name f first after (Err (refusals.StoreFault path)) cause g (inl rests) = inl rests
ends_by name f first after (Err (refusals.StoreFault path)) cause g (inr goes) = inr (cause.0, goes)
ends_by name f first after (Err e) cause g left = left

drop_keeps : (name : List ℕ) (s : TableSchema) (entries : List Entry) (names : List (List ℕ)) (f : Files) (first middle after : StoreView) (made : Result Bool Refusal)
    → HasFiles f first → Folder f (table s entries) → HaveSettled f (table s entries) names → Stay f first middle → first.faults ≤ middle.faults
    → DropsName name s entries names f middle after made → Keeps name (table s entries) names first after made
drop_keeps name s entries names f first middle after made has folder settled stay wider drops = record {
  makes = made_of name s entries f first middle after made has wider drops.cause;
  leaves = leaves_of (λ f. LeavesFiles (λ g. StandsWithout name (table s entries) names f g × EndsBy name made f g) after) f first has
      (leaves_weaker (λ g. OthersRest (consumer_path name) f g × ItLeaves name made f g × dropper.StandsWithout name s entries names f g)
      (λ g. StandsWithout name (table s entries) names f g × EndsBy name made f g)
      (λ g (rest, left, stands). (without_of name s entries names f g rest stands, ends_by name f middle after made drops.cause g left)) after drops.leaves);
  images = leaves_of (λ f. Extends (ImageOf name (table s entries) names f) first.ops after.ops) f first has
      (Extends-trans (ImageOf name (table s entries) names f) first.ops middle.ops after.ops
      (stay_images name (table s entries) names f first middle folder settled stay.images)
      (Extends-weaker (λ g. OthersRest (consumer_path name) f g × (ItRests name f g ⊎ ItGoes name f g) × dropper.StandsWithout name s entries names f g)
      (ImageOf name (table s entries) names f) middle.ops after.ops (λ g (rest, left, stands). (without_of name s entries names f g rest stands, left)) drops.images));
}

-- what a drop promises of the files that stand at its call
abbrev DropsAt : List ℕ → Result Bool Refusal → StoreView → StoreView → Type 0
DropsAt name made first after = (s : TableSchema) (entries : List Entry) (names : List (List ℕ)) (f : Files) → HasFiles f first → StandsWith s entries names f
    → HavePlainNames s → DropsName name s entries names f first after made

table_keeps : (name : List ℕ) (s : TableSchema) (h : History) (names : List (List ℕ)) (f : Files) (first middle after : StoreView) (made : Result Bool Refusal) → IsDeclared s
    → IsTableOf s h → HasFiles f first → Folder f h → HaveSettled f h names → Stay f first middle → first.faults ≤ middle.faults → DropsAt name made middle after
    → Keeps name h names first after made
table_keeps name s no_table names f first middle after made declared is has folder settled stay wider drops = absurd is
table_keeps name s (table u entries) names f first middle after made declared is has folder settled stay wider drops =
    drop_keeps name u entries names f first middle after made has folder settled stay wider
    (drops u entries names f stay.here (record { folder = folder; settled = settled }) (subst HavePlainNames (sym is) (plain_names s declared)))

pub removed_keeps : (name : List ℕ) (s : TableSchema) (made : Result Bool Refusal) (before middle after : StoreView) → IsDeclared s → HasTrace (DidRead (Ok s)) before middle
    → ReadsTables before middle (Ok s) → HasTrace (DidDrop name made) middle after → dropper.DropsNames name middle after made → KeepsHistories name before after made
removed_keeps name s made before middle after declared did reads does drops = λ alone h names stands.
    let first = at_first_own before after in
    let at = files_of (λ f. Folder f h × HaveSettled f h names) first stands in
    let read = read_then (DropsAt name made) (DidDrop name made) s at.0 h before middle after alone at.1 at.2.0 did reads does drops in
    table_keeps name s h names at.0 first middle after made declared read.schema at.1 at.2.0 at.2.1 read.stay read.wider read.next

-- ---- and what was printed

pub refused_removed : (name : List ℕ) (e : Refusal) (out : SinkView) (store after : StoreView) → HasTrace (DidRemove name (Err e)) store after
    → MadeBeside name (Err e) store after → KeepsHistories name store after (Err e) → IsRemoved name out out store after (Some e)
refused_removed name e out store after trace beside kept = (Err e, trace, beside, kept, (refl, refl))

pub printed_removed : (name : List ℕ) (was_there : Bool) (text : List ℕ) (out out_after : SinkView) (store after : StoreView) (answer : Option Refusal)
    → text ≡ text_of (Ok was_there) → HasTrace (DidRemove name (Ok was_there)) store after → MadeBeside name (Ok was_there) store after
    → KeepsHistories name store after (Ok was_there) → Prints text None None out out_after answer → IsRemoved name out out_after store after answer
printed_removed name was_there text out out_after store after answer is trace beside kept prints =
    (Ok was_there, trace, beside, kept, subst (λ (text : List ℕ). Prints text None None out out_after answer) is prints)

pub removed_answers : (name : List ℕ) (before after : Outside) (answer : Option Refusal) → IsRemoved name before.out after.out before.store after.store answer
    → Drops name before after answer
removed_answers name before after answer (made, trace, beside, kept, prints) = (made, trace, beside, prints)

refusal_answers : (name : List ℕ) (h : History) (first : StoreView) (before after : Outside) (e : Refusal) → MayRefuse h first after.store e
    → AnswersHistory name h first before after (Some e)
refusal_answers name h first before after (refusals.SinkFault snapshot) may = absurd may
refusal_answers name h first before after e may = may

made_answers : (name : List ℕ) (h : History) (first : StoreView) (before after : Outside) (made : Result Bool Refusal) (answer : Option Refusal)
    → MakesOf name h first after.store made → Prints (text_of made) None (result_err made) before.out after.out answer → AnswersHistory name h first before after answer
made_answers name h first before after (Ok was_there) None (some, at) prints = (some, (was_there, at, prints))
made_answers name h first before after (Ok was_there) (Some e) (some, at) (fault, failed, prefix) =
    subst (λ (e : Refusal). AnswersHistory name h first before after (Some e)) (sym fault) (failed, some, (was_there, at, prefix))
made_answers name h first before after (Err e) answer makes (is, untaken) =
    subst (AnswersHistory name h first before after) (sym is) (refusal_answers name h first before after e makes)

-- once it was told whether a file was there, none is
told_ends : (name : List ℕ) (was_there : Bool) (f g : Files) → WasThere name was_there f → EndsBy name (Ok was_there) f g → map.get g (consumer_path name) ≡ None
told_ends name true f g there left = left.1
told_ends name false f g none left = left ∙ none

refusal_ends : (name : List ℕ) (h : History) (first after : StoreView) (e : Refusal) (f g : Files) → MayRefuse h first after e → EndsBy name (Err e) f g → ItEnds name (Some e) f g
refusal_ends name h first after (refusals.SinkFault snapshot) f g may left = absurd may
refusal_ends name h first after (refusals.StoreFault path) f g may left = left
refusal_ends name h first after e f g may left = left

leaves_both : (P Q R : Files → Type 0) (store : StoreView) → ((f : Files) → P f → Q f → R f) → LeavesFiles P store → LeavesFiles Q store → LeavesFiles R store
leaves_both P Q R store join = at_ops store.ops
  where
    at_ops : (ops : Option (List Op)) → IsSomeAnd ops (λ ops. P (files_after ops)) → IsSomeAnd ops (λ ops. Q (files_after ops))
        → IsSomeAnd ops (λ ops. R (files_after ops))
    at_ops None is other = is
    at_ops (Some ops) is other = join (files_after ops) is other

-- what it leaves, by its answer
abbrev EndsAt : List ℕ → History → List (List ℕ) → StoreView → Option Refusal → Files → Type 0
EndsAt name h names after answer f = LeavesFiles (λ g. StandsWithout name h names f g × ItEnds name answer f g) after

told_leaves : (name : List ℕ) (h : History) (names : List (List ℕ)) (first after : StoreView) (was_there : Bool) (answer : Option Refusal)
    → ((f g : Files) → map.get g (consumer_path name) ≡ None → ItEnds name answer f g) → (kept : Keeps name h names first after (Ok was_there))
    → LeavesFiles (EndsAt name h names after answer) first
told_leaves name h names first after was_there answer so kept =
    leaves_both (WasThere name was_there) (λ f. LeavesFiles (λ g. StandsWithout name h names f g × EndsBy name (Ok was_there) f g) after)
    (EndsAt name h names after answer) first
    (λ f there left. leaves_weaker (λ g. StandsWithout name h names f g × EndsBy name (Ok was_there) f g) (λ g. StandsWithout name h names f g × ItEnds name answer f g)
    (λ g (stands, leaves). (stands, so f g (told_ends name was_there f g there leaves))) after left)
    kept.makes.1 kept.leaves

made_leaves : (name : List ℕ) (h : History) (names : List (List ℕ)) (first : StoreView) (before after : Outside) (made : Result Bool Refusal) (answer : Option Refusal)
    → Keeps name h names first after.store made → Prints (text_of made) None (result_err made) before.out after.out answer
    → LeavesFiles (EndsAt name h names after.store answer) first
made_leaves name h names first before after (Ok was_there) None kept prints = told_leaves name h names first after.store was_there None (λ f g none. none) kept
made_leaves name h names first before after (Ok was_there) (Some e) kept (fault, failed, prefix) =
    subst (λ (e : Refusal). LeavesFiles (EndsAt name h names after.store (Some e)) first) (sym fault)
    (told_leaves name h names first after.store was_there (Some (refusals.SinkFault None)) (λ f g none. none) kept)
made_leaves name h names first before after (Err e) answer kept (is, untaken) =
    subst (λ (answer : Option Refusal). LeavesFiles (EndsAt name h names after.store answer) first) (sym is)
    (leaves_weaker (λ f. LeavesFiles (λ g. StandsWithout name h names f g × EndsBy name (Err e) f g) after.store) (EndsAt name h names after.store (Some e))
    (λ f left. leaves_weaker (λ g. StandsWithout name h names f g × EndsBy name (Err e) f g) (λ g. StandsWithout name h names f g × ItEnds name (Some e) f g)
    (λ g (stands, leaves). (stands, refusal_ends name h first after.store e f g kept.makes leaves)) after.store left) first kept.leaves)

pub removed_serves : (name : List ℕ) (before after : Outside) (answer : Option Refusal) → IsRemoved name before.out after.out before.store after.store answer
    → DropsTables name before after answer
removed_serves name before after answer (made, trace, beside, kept, prints) = λ alone h names stands.
    let first = at_first_own before.store after.store in
    let was = kept alone h names stands in record {
      answers = made_answers name h first before after made answer was.makes prints;
      leaves = made_leaves name h names first before after made answer was prints;
      images = was.images;
    }
