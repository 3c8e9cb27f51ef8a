-- Laws of `expire`: what is so of its calls, and of a history.
use Rattle.std.proofs.Common.{◌≡◌, ◌⊎◌, inl, inr, ℕ, ℤ, zero, suc, ◌≤◌, List, [], ◌∷◌, ◌++◌, length, Option, None, Some, Result, Ok, Err, refl, sym, ap₂, subst, ◌∙◌, append-nil, arith}
use Rattle.std.specs.FinMap as map
use Rattle.std.specs.List.{AllByRecursion}
use Rattle.std.specs.Result.{result_err}
use Rattle.pm_values.specs.declared.refusal.Refusal.{Refusal}
use Rattle.pm_values.specs.declared.refusal.Refusal.TheVariants as refusals
use Rattle.pm_io.specs.Sink.{SinkView}
use Rattle.pm_store.specs.declared.call.Op.{Op}
use Rattle.pm_store.specs.Files.{Files, files_after}
use Rattle.pm_store.specs.Images.{AllImages, Extends}
use Rattle.pm_store.specs.declared.answer.Answer.{Answer}
use Rattle.pm_store.specs.Answers.{Answers, MayHave}
use Rattle.pm_store.specs.Store.{StoreView, GoesOn, IsAlone, IsLater, at_first_own, own_op, whole}
use Rattle.pm_store.proofs.ImageLaws.{Extends-trans, Extends-weaker}
use Rattle.pm_store.proofs.StepLaws.{Came-goes_on, GoesOn-trans, alone_parts, at_first_own-same}
use Rattle.pm_machine.specs.Trace.{Ended, Event, HasTrace, Traces}
use Rattle.pm_machine.proofs.AloneLaws.{Traces-first, Traces-goes_on, Traces-later}
use Rattle.pm_model_history.specs.History as histories
use Rattle.pm_model_history.specs.History.{History, IsTableOf, no_table, table}
use Rattle.pm_schema.specs.Again.{IsDeclared}
use Rattle.pm_schema.specs.declared.schema.TableSchema.{TableSchema}
use Rattle.pm_partitions.proofs.Plain.{plain_names}
use Rattle.pm_snapshot.specs.Names.{greatest, snapshot_name}
use Rattle.pm_model_folder.specs.Changes.{Actor, HavePlainNames, IsNamedBy, IsPlain, IsSnapshotPath}
use Rattle.pm_model_folder.specs.Commits.{Names}
use Rattle.pm_model_folder.specs.Folder.{Folder, KeepsConsumers}
use Rattle.pm_model_folder.specs.Ledger.{HasConsumersOf, HasNamedNone, Past, Stands, count_of}
use Rattle.pm_model_folder.specs.Paths.{consumer_path}
use Rattle.pm_model_folder.proofs.BesideLemmas.{floor-consumer, needs-no_consumer}
use Rattle.pm_model_folder.proofs.LedgerFacts.{known-keep}
use Rattle.pm_model_folder.proofs.PathLemmas.{consumer-snapshot}
use Rattle.pm_expire_end.specs.Keep.{keep_of}
use Rattle.pm_expire_end.specs.declared.keep.Keep.{Keep}
use Rattle.pm_expire_end.specs.declared.keep.KeepAsked.{KeepAsked}
use Rattle.pm_create.specs.Making.{LeavesFiles}
use Rattle.pm_read_schema.specs.AllCalls.{DidRead, HasFiles, ReadsTables, Stay}
use Rattle.pm_read_schema.specs.Beside.{AnyPast, IsTold, Learns}
use Rattle.pm_read_schema.specs.Trace.{listed_snapshots, read_schema}
use Rattle.pm_read_schema.proofs.LeadLemmas.{none_last}
use Rattle.pm_read_expiry.specs.Found.{IsAsking}
use Rattle.pm_read_expiry.specs.declared.asking.Asking.{Asking}
use Rattle.pm_commit.specs.AllCalls.{MayStart, NamesNone}
use Rattle.pm_expire.specs.AllCalls as expiry
use Rattle.pm_expire.specs.AllCalls.{ChangesAt, ExpiresFiles, IsGivenBack, IsImageOf, IsRefusedFor, StopsAtTag, its_file, its_floor, its_snapshot}
use Rattle.pm_expire.specs.Beside.{ExpiresAlone, ExpiresBeside}
use Rattle.pm_expire.specs.declared.all_calls.Kept.{Kept}
use Rattle.pm_command.specs.Outside.{Outside, Prints}
use Rattle.pm_command.specs.Table.{MayRefuse}
use Rattle.pm_command.specs.declared.start.Start.{Start}
use Rattle.pm_command.proofs.TableLemmas.{caused, consumers_stay, files_of, files_same, images_of, leaves_of, leaves_weaker, trace_weaker}
use Rattle.pm_command_expire.specs.Expire.{AnswersExpire, AnswersHistory, DidExpire, ExpiresTables, HasKept, IsImage, IsRefused, IsSpoiled, IsTableExpired, Keeps, KeepsHistories, MadeBeside, MakesOf, asked_by, text_of}

-- ---- its calls

module _ (start : Start) (asked : KeepAsked) where
  pub read_refused : (e : Refusal) (before after : StoreView) → HasTrace (DidRead (Err e)) before after → HasTrace (DidExpire start asked (Err e)) before after
  read_refused e before after = trace_weaker (DidRead (Err e)) (DidExpire start asked (Err e)) (λ own shows. inl shows) before after

  pub expired_trace : (s : TableSchema) (made : Result Kept Refusal) (before after : StoreView) → IsDeclared s
      → HasTrace (expiry.DidExpire (asked_by start asked s) made) before after → HasTrace (DidExpire start asked made) before after
  expired_trace s (Ok kept) before after declared =
      trace_weaker (expiry.DidExpire (asked_by start asked s) (Ok kept)) (DidExpire start asked (Ok kept)) (λ own did. (s, declared, did)) before after
  expired_trace s (Err e) before after declared =
      trace_weaker (expiry.DidExpire (asked_by start asked s) (Err e)) (DidExpire start asked (Err e)) (λ own did. inr (s, declared, did)) before after

-- what is asked, with what is to be kept by the options of the table
pub asked_is : (start : Start) (asked : KeepAsked) (s : TableSchema) (keep : Keep) (now : ℤ) → keep ≡ keep_of asked s.options → now ≡ start.now_millis
    → ◌≡◌ {A = Asking} (record { schema = s; keep = keep; now = now }) (asked_by start asked s)
asked_is start asked s keep now is at = ap₂ (λ (keep : Keep) (now : ℤ). record { schema = s; keep = keep; now = now }) is at

-- ---- whatever others do

pub read_beside : (e : Refusal) (before after : StoreView) → HasTrace (DidRead (Err e)) before after → Learns AnyPast (IsTold e) before after
    → MadeBeside (Err e) before after
read_beside e before after did told = inl (did, told)

pub expired_beside : (s : TableSchema) (made : Result Kept Refusal) (before middle after : StoreView) → Learns AnyPast (λ f p. IsTableOf s p.history) before middle
    → ((me : Actor) → ExpiresBeside me s made middle after) → MadeBeside made before after
expired_beside s (Ok kept) before middle after learned expires = (s, middle, learned, expires)
expired_beside s (Err e) before middle after learned expires = inr (s, middle, learned, expires)

-- whatever came stays before it
pub expired_goes_on : (me : Actor) (s : TableSchema) (made : Result Kept Refusal) (middle after : StoreView) → ExpiresBeside me s made middle after → GoesOn middle after
expired_goes_on me s made middle after expires = Came-goes_on _ middle after expires

-- ---- what its calls do to histories

-- what the laws of an expiry say, and those of folders
pub record Laws : Type 0 where
  pub all : (a : Asking) (result : Result Kept Refusal) (own : List Event) (before after : StoreView) (f : Files) (h : History) → IsAsking a → HavePlainNames a.schema
      → expiry.DidExpire a result own → Traces own before after → IsAlone before after → HasFiles f before → Folder f h → ExpiresFiles a f h before after result
  pub causes : (a : Asking) (refusal : Refusal) (own : List Event) (before after : StoreView) (f : Files) (h : History) → IsAsking a → HavePlainNames a.schema
      → expiry.DidExpire a (Err refusal) own → Traces own before after → IsAlone before after → HasFiles f before → Folder f h
      → IsRefusedFor a f before after refusal
  pub image : (a : Asking) (f g : Files) (path : List ℕ) → IsImageOf a f g → (map.get g path ≡ map.get f path) ⊎ ChangesAt a f g path
  pub settled : (f : Files) (h : History) → Folder f h
      → (p : Past) × (p.history ≡ h) × Stands f p × ((id : ℕ) → p.stood id ≡ f) × (p.since ≡ count_of h) × HasConsumersOf h f f p
  pub unnamed : (me : Actor) (f : Files) (p : Past) (s : TableSchema) (id : ℕ) (path : List ℕ) → Stands f p → IsTableOf s p.history → id ≤ greatest
      → HasNamedNone me p → Names f s id path → IsNamedBy me path → ⊥

same_ops : (ops others : List Op) → Some ops ≡ Some others → ops ≡ others
same_ops ops others is = cc

extends_both : (P Q : Files → Type 0) (first now : Option (List Op)) → Extends P first now → Extends Q first now → Extends (λ f. P f × Q f) first now
extends_both P Q None now is other = is
extends_both P Q (Some old) now (more, is, images) (others, was, besides) = (more, is, λ i f from image. (images i f from image, again i f from image))
  where
    again : AllImages Q (length old) (old ++ more)
    again = subst (AllImages Q (length old)) (same_ops (old ++ others) (old ++ more) (sym was ∙ is)) besides

goes-itself : (h : History) → histories.GoesOn h h
goes-itself no_table = tt
goes-itself (table s entries) = (refl, [], sym (append-nil entries))

count-within : (f : Files) (h : History) → Folder f h → count_of h ≤ greatest
count-within f no_table folder = omega arith
count-within f (table s entries) folder = folder.snapshots.within

-- ---- no consumer's file goes

no_snapshot : (s : TableSchema) (id : ℕ) (name : List ℕ) → IsSnapshotPath s id (consumer_path name) → ⊥
no_snapshot s zero name (origin, is, at) = consumer-snapshot name origin at
no_snapshot s (suc id) name at = consumer-snapshot name (snapshot_name (suc id)) at

none_given : (s : TableSchema) (f : Files) (end : ℕ) (name : List ℕ) → HavePlainNames s → IsGivenBack s f end (consumer_path name) → ⊥
none_given s f end name plain (its_snapshot id below is) = no_snapshot s id name is
none_given s f end name plain (its_file id low below names spared) = needs-no_consumer f s id (consumer_path name) name plain (inr (inr names)) refl
none_given s f end name plain (its_floor n below is) = floor-consumer n name (sym is)

none_changed : (a : Asking) (f g : Files) (name : List ℕ) → HavePlainNames a.schema → ChangesAt a f g (consumer_path name) → ⊥
none_changed a f g name plain (first, end, goes, inl (gone, given)) = none_given a.schema f end name plain given
none_changed a f g name plain (first, end, goes, inr (absent, floor)) = floor-consumer end name (sym floor)

-- ---- files that stay

module _ (start : Start) (asked : KeepAsked) where
  same_spoiled : (h : History) (first after : StoreView) (e : Refusal) (f : Files) → MayRefuse h first after e → IsSpoiled start asked h e f f
  same_spoiled h first after refusals.Memory f may = inl (λ path. refl)
  same_spoiled h first after (refusals.StoreFault path) f may = inl (λ path. refl)
  same_spoiled h first after (refusals.Unsupported what text) f may = absurd may
  same_spoiled h first after e f may = λ path. refl

  may_refused : (h : History) (first after : StoreView) (e : Refusal) → MayRefuse h first after e → IsRefused h first after e
  may_refused h first after (refusals.Unsupported what text) may = tt
  may_refused h first after e may = may

  stay_keeps : (h : History) (f : Files) (first after : StoreView) (e : Refusal) → HasFiles f first → Folder f h → Stay f first after → MayRefuse h first after e
      → Keeps start asked h first after (Err e)
  stay_keeps h f first after e has folder stay may = record {
    makes = (
      may_refused h first after e may,
      leaves_of (λ f. LeavesFiles (IsSpoiled start asked h e f) after) f first has
          (leaves_of (IsSpoiled start asked h e f) f after stay.here (same_spoiled h first after e f may)),
    );
    folder = leaves_of (λ g. Folder g h) f after stay.here folder;
    images = leaves_of (λ f. Extends (λ g. Folder g h × IsImage start asked h f g) first.ops after.ops) f first has
        (images_of (λ g. Folder g h × IsImage start asked h f g) f first.ops after.ops stay.images (folder, inl (λ path. refl)));
    consumers = consumers_stay h f first after has stay.images;
    free = λ other starts.
        let at = files_of (MayStart other h) first starts in
        images_of (MayStart other h) f first.ops after.ops stay.images (subst (MayStart other h) (files_same at.0 f first at.1 has) at.2);
  }

  pub read_keeps : (e : Refusal) (before after : StoreView) → ReadsTables before after (Err e) → KeepsHistories start asked before after (Err e)
  read_keeps e before after reads = λ alone h stands.
      let first = at_first_own before after in
      let at = files_of (λ f. Folder f h) first stands in
      let read = reads alone at.0 h at.1 at.2 in
      stay_keeps h at.0 first after e at.1 at.2 read.files (caused h first after e read.cause)

-- ---- an expiry

-- the moment of the first call is the same, whatever more came
same_first : (event : Event) (own : List Event) (before middle after : StoreView) → Traces (event ∷ own) before middle → GoesOn middle after
    → at_first_own before middle ≡ at_first_own before after
same_first event own before middle after (next, ended, early, rest) goes = by event.answer ended
  where
    within : GoesOn next middle
    within = Traces-goes_on own next middle rest

    by : (answer : Option Answer) → Ended event.call answer before next → at_first_own before middle ≡ at_first_own before after
    by (Some answer) (steps, may) =
        at_first_own-same (whole event.call) (λ ops. Answers event.call answer (files_after ops)) before next middle after refl steps within
        (GoesOn-trans next middle after within goes)
    by None ((effect, steps), rose) =
        at_first_own-same (own_op event.call effect) (λ ops. MayHave event.call effect (files_after ops)) before next middle after refl steps within
        (GoesOn-trans next middle after within goes)

-- some call read the schema
some_read : (s : TableSchema) → DidRead (Ok s) [] → ⊥
some_read s (inl ((id, bytes, is, (earlier, lists, at)), some)) = none_last earlier (read_schema id (Some bytes)) at
some_read s (inr (names, there, (earlier, has, none, at))) = none_last earlier (listed_snapshots names) at

read_first : (s : TableSchema) (own : List Event) (before middle after : StoreView) → DidRead (Ok s) own → Traces own before middle → GoesOn middle after
    → at_first_own before middle ≡ at_first_own before after
read_first s [] before middle after did trace goes = absurd (some_read s did)
read_first s (event ∷ own) before middle after did trace goes = same_first event own before middle after trace goes

-- a table's schema was read where nobody else acts, nor later on
record HasRead (s : TableSchema) (f : Files) (h : History) (first middle after : StoreView) : Type 0 where
  schema : IsTableOf s h
  stay : Stay f first middle
  alone : IsAlone middle after

read_then : (s : TableSchema) (f : Files) (h : History) (before middle after : StoreView) → IsAlone (at_first_own before after) after → HasFiles f (at_first_own before after)
    → Folder f h → HasTrace (DidRead (Ok s)) before middle → ReadsTables before middle (Ok s) → GoesOn middle after → IsLater middle after
    → HasRead s f h (at_first_own before after) middle after
read_then s f h before middle after alone has folder (own, did, trace) reads goes late =
    let same = read_first s own before middle after did trace goes in
    let early : IsLater (at_first_own before after) middle =
    subst (λ (moment : StoreView). IsLater moment middle) same (Traces-later own (at_first_own before middle) middle (Traces-first own before middle trace)) in
    let parts = alone_parts (at_first_own before after) middle after early late alone in
    let read = reads (subst (λ (moment : StoreView). IsAlone moment middle) (sym same) parts.0) f h (subst (HasFiles f) (sym same) has) folder in
    record { schema = read.schema; stay = subst (λ (moment : StoreView). Stay f moment middle) same read.files; alone = parts.1 }

module _ (laws : Laws) (start : Start) (asked : KeepAsked) (s : TableSchema) (declared : IsDeclared s) (asking : IsAsking (asked_by start asked s)) where
  abbrev a : Asking
  a = asked_by start asked s

  module _ (h : History) (is : IsTableOf s h) (f : Files) (folder : Folder f h) where
    abbrev Found : Type 0
    Found = (p : Past) × (p.history ≡ h) × Stands f p × ((id : ℕ) → p.stood id ≡ f) × (p.since ≡ count_of h) × HasConsumersOf h f f p

    abbrev found : Found
    found = laws.settled f h folder

    abbrev p : Past
    p = found.0

    as_image : (g : Files) → IsImageOf a f g → IsImage start asked h f g
    as_image g image = inr (s, is, declared, image)

    keeps_consumers : (g : Files) → Stands g p → IsImageOf a f g → KeepsConsumers h f g
    keeps_consumers g stands image =
        known-keep h f g p stands (subst (histories.GoesOn h) (sym found.1) (goes-itself h)) (record {
          files = λ name. elim (laws.image a f g (consumer_path name) image) as (λ _. map.get g (consumer_path name) ≡ map.get f (consumer_path name)) [
            | inl same ↦ same
            | inr changes ↦ absurd (none_changed a f g name (plain_names s declared) changes)
          ];
          known = found.5.known;
        })

    -- no snapshot names a file of an actor, where none did
    named_none : (other : Actor) → NamesNone other h f → HasNamedNone other p
    named_none other none = λ t id path at known names by.
        none t id path (subst (IsTableOf t) found.1 at) known.after_origin (subst (λ (h : History). id ≤ count_of h) found.1 known.to)
        (subst (λ (f : Files). Names f t id path) (found.3 id) names) by

    may_start : (other : Actor) (g : Files) → NamesNone other h f → Stands g p → MayStart other h g
    may_start other g none stands = (
      subst (Folder g) found.1 stands.folder,
      λ t id path at low high names by. (
          let most = count-within f h folder in
          laws.unnamed other g p t id path stands (subst (IsTableOf t) (sym found.1) at) (omega (arith, high, most)) (named_none other none) names by
          ),
    )

    refused : (e : Refusal) (first after : StoreView) → IsRefusedFor a f first after e → IsRefused h first after e
    refused refusals.Memory first after cause = tt
    refused (refusals.StoreFault path) first after cause = cause
    refused (refusals.Unsupported what text) first after cause = tt
    refused e first after cause = absurd cause

    spoiled : (e : Refusal) (first after : StoreView) → IsRefusedFor a f first after e → LeavesFiles (IsImageOf a f) after
        → LeavesFiles (IsSpoiled start asked h e f) after
    spoiled refusals.Memory first after cause images = leaves_weaker (IsImageOf a f) (IsSpoiled start asked h refusals.Memory f) as_image after images
    spoiled (refusals.StoreFault path) first after cause images =
        leaves_weaker (IsImageOf a f) (IsSpoiled start asked h (refusals.StoreFault path) f) as_image after images
    spoiled (refusals.Unsupported what text) first after (tag, stops) images =
        leaves_weaker (StopsAtTag a f text) (IsSpoiled start asked h (refusals.Unsupported what text) f) (λ g at. (tag, (s, is, declared, at))) after stops
    spoiled e first after cause images = absurd cause

    made_of : (made : Result Kept Refusal) (own : List Event) (first after : StoreView) → HasFiles f first → Traces own first after → IsAlone first after
        → expiry.DidExpire a made own → ExpiresFiles a f h first after made → MakesOf start asked h first after made
    made_of (Ok kept) own first after has trace alone did files =
        leaves_of (λ f. LeavesFiles (HasKept start asked h kept f) after) f first has
        (leaves_weaker (expiry.Leaves a (count_of h) f (Ok kept)) (HasKept start asked h kept f) (λ g becomes. (s, is, declared, becomes)) after files.leaves)
    made_of (Err e) own first after has trace alone did files =
        let cause = laws.causes a e own first after f h asking (plain_names s declared) did trace alone has folder in (
          refused e first after cause,
          leaves_of (λ f. LeavesFiles (IsSpoiled start asked h e f) after) f first has (spoiled e first after cause files.leaves),
        )

    expire_keeps : (made : Result Kept Refusal) (first after : StoreView) → HasFiles f first → MakesOf start asked h first after made
        → LeavesFiles (λ g. Stands g p) after → Extends (λ g. Stands g p) first.ops after.ops → Extends (IsImageOf a f) first.ops after.ops
        → Keeps start asked h first after made
    expire_keeps made first after has makes here stands images =
        let both : Extends (λ g. Stands g p × IsImageOf a f g) first.ops after.ops = extends_both (λ g. Stands g p) (IsImageOf a f) first.ops after.ops stands images in record {
          makes = makes;
          folder = leaves_weaker (λ g. Stands g p) (λ g. Folder g h) (λ g stands. subst (Folder g) found.1 stands.folder) after here;
          images = leaves_of (λ f. Extends (λ g. Folder g h × IsImage start asked h f g) first.ops after.ops) f first has
              (Extends-weaker (λ g. Stands g p × IsImageOf a f g) (λ g. Folder g h × IsImage start asked h f g) first.ops after.ops
              (λ g both. (subst (Folder g) found.1 both.0.folder, as_image g both.1)) both);
          consumers = leaves_of (λ f. Extends (KeepsConsumers h f) first.ops after.ops) f first has
              (Extends-weaker (λ g. Stands g p × IsImageOf a f g) (KeepsConsumers h f) first.ops after.ops (λ g both. keeps_consumers g both.0 both.1) both);
          free = λ other starts.
              let at = files_of (MayStart other h) first starts in
              Extends-weaker (λ g. Stands g p) (MayStart other h) first.ops after.ops
              (λ g stands. may_start other g (subst (NamesNone other h) (files_same at.0 f first at.1 has) at.2.1) stands) stands;
        }

  pub expired_keeps : (made : Result Kept Refusal) (before middle after : StoreView) → HasTrace (DidRead (Ok s)) before middle → ReadsTables before middle (Ok s)
      → HasTrace (expiry.DidExpire a made) before after → GoesOn middle after → IsLater middle after → ExpiresAlone s middle after
      → KeepsHistories start asked before after made
  expired_keeps made before middle after did reads (own, does, trace) goes late expires = λ alone h stands.
      let first = at_first_own before after in
      let at = files_of (λ f. Folder f h) first stands in
      let read = read_then s at.0 h before middle after alone at.1 at.2 did reads goes late in
      let traced = Traces-first own before after trace in
      let files = laws.all a made own first after at.0 h asking (plain_names s declared) does traced alone at.1 at.2 in
      let past = laws.settled at.0 h at.2 in
      let p = past.0 in
      let left = expires read.alone p (subst (IsTableOf s) (sym past.1) read.schema) (leaves_of (λ f. Stands f p) at.0 middle read.stay.here past.2) in
      let stands_on : Extends (λ g. Stands g p) first.ops after.ops =
      Extends-trans (λ g. Stands g p) first.ops middle.ops after.ops (images_of (λ g. Stands g p) at.0 first.ops middle.ops read.stay.images past.2) left.1 in
      expire_keeps h read.schema at.0 at.2 made first after at.1 (made_of h read.schema at.0 at.2 made own first after at.1 traced alone does files) left.0 stands_on files.images

-- ---- and what was printed

module _ (start : Start) (asked : KeepAsked) where
  pub refused_expired : (e : Refusal) (out : SinkView) (store after : StoreView) → HasTrace (DidExpire start asked (Err e)) store after
      → MadeBeside (Err e) store after → KeepsHistories start asked store after (Err e) → IsTableExpired start asked out out store after (Some e)
  refused_expired e out store after trace beside kept = (Err e, trace, beside, kept, (refl, refl))

  pub printed_expired : (kept : Kept) (out out_after : SinkView) (store after : StoreView) (answer : Option Refusal) → HasTrace (DidExpire start asked (Ok kept)) store after
      → MadeBeside (Ok kept) store after → KeepsHistories start asked store after (Ok kept) → Prints (text_of (Ok kept)) None None out out_after answer
      → IsTableExpired start asked out out_after store after answer
  printed_expired kept out out_after store after answer trace beside keeps prints = (Ok kept, trace, beside, keeps, prints)

  pub expired_answers : (before after : Outside) (answer : Option Refusal) → IsTableExpired start asked before.out after.out before.store after.store answer
      → AnswersExpire start asked before after answer
  expired_answers before after answer (made, trace, beside, kept, prints) = (made, trace, beside, prints)

  refusal_answers : (h : History) (first : StoreView) (before after : Outside) (e : Refusal) → after.out ≡ before.out → MakesOf start asked h first after.store (Err e)
      → AnswersHistory start asked h first before after (Some e)
  refusal_answers h first before after (refusals.SinkFault snapshot) out (may, spoils) = absurd may
  refusal_answers h first before after e out (may, spoils) = (may, spoils, out)

  made_answers : (h : History) (first : StoreView) (before after : Outside) (made : Result Kept Refusal) (answer : Option Refusal) → MakesOf start asked h first after.store made
      → Prints (text_of made) None (result_err made) before.out after.out answer → AnswersHistory start asked h first before after answer
  made_answers h first before after (Ok kept) None makes prints = (kept, makes, prints)
  made_answers h first before after (Ok kept) (Some e) makes (fault, failed, prefix) =
      subst (λ (e : Refusal). AnswersHistory start asked h first before after (Some e)) (sym fault) (refl, kept, makes, failed, prefix)
  made_answers h first before after (Err e) answer makes (is, untaken) =
      subst (AnswersHistory start asked h first before after) (sym is) (refusal_answers h first before after e untaken makes)

  pub expired_serves : (before after : Outside) (answer : Option Refusal) → IsTableExpired start asked before.out after.out before.store after.store answer
      → ExpiresTables start asked before after answer
  expired_serves before after answer (made, trace, beside, kept, prints) = λ alone h stands.
      let first = at_first_own before.store after.store in
      let was = kept alone h stands in record {
        answers = made_answers h first before after made answer was.makes prints;
        folder = was.folder;
        images = was.images;
        consumers = was.consumers;
        free = was.free;
      }
