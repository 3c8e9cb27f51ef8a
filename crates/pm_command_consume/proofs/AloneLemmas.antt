-- What the calls of a following with a consumer say of a table that stands at the first of them, where nobody else acts.
use Rattle.std.proofs.Common.{◌≡◌, ◌⊎◌, inl, inr, ℕ, zero, suc, ◌+◌, ◌-◌, ◌<◌, ◌≤◌, Bool, true, false, List, [], ◌++◌, length, Option, None, Some, IsSome, Result, Ok, refl, sym, ap, subst, ◌∙◌, append_assoc, arith}
use Rattle.std.proofs.lemmas.Bool.{cases_lt}
use Rattle.std.specs.FinMap as map
use Rattle.pm_values.specs.declared.refusal.Refusal.{Refusal}
use Rattle.pm_store.specs.Files.{Files}
use Rattle.pm_store.specs.Store.{StoreView}
use Rattle.pm_store.proofs.ImageLaws.{Extends-weaker}
use Rattle.pm_store.proofs.StepLaws.{alone_parts}
use Rattle.pm_machine.specs.Trace.{Event, HasTrace, Traces}
use Rattle.pm_machine.proofs.AloneLaws.{Traces-later}
use Rattle.pm_snapshot.specs.Consumer.{consumer_in}
use Rattle.pm_snapshot.specs.Names.{greatest}
use Rattle.pm_snapshot.specs.declared.consumer.Consumer.{Consumer}
use Rattle.pm_schema.specs.Again.{IsDeclared}
use Rattle.pm_schema.specs.declared.schema.TableSchema.{TableSchema}
use Rattle.pm_model_consumers.specs.Claims.{known_at, new_at}
use Rattle.pm_model_history.specs.History.{Entry, History}
use Rattle.pm_model_following.specs.Following.{frame}
use Rattle.pm_model_folder.specs.Consumers.{said_at, said_in}
use Rattle.pm_model_folder.specs.Folder.{Folder, HasTable, HaveSettled}
use Rattle.pm_model_folder.specs.Paths.{consumer_path}
use Rattle.pm_partitions.proofs.Plain.{plain_names}
use Rattle.pm_command.proofs.TableLemmas.{files_of}
use Rattle.pm_scan.specs.AllCalls.{path_of}
use Rattle.pm_read_schema.specs.AllCalls.{HasFiles}
use Rattle.pm_read_consumer.specs.AllCalls.{DidFind, FindsConsumer, FindsConsumers}
use Rattle.pm_read_consumer.specs.Reader.{Says, found_as}
use Rattle.pm_read_consumer.specs.declared.phase.FoundConsumer.{FoundConsumer}
use Rattle.pm_register.specs.AllCalls.{DidRegister, IsFoundOrPut, IsLeft, LeavesAt, MayRegister, NoneExceeds, RegistersName, RegistersNames}
use Rattle.pm_register.specs.Registrar.{IsRegistering, IsUnregistered, Registering, consumer_at, known_text, new_text, registering}
use Rattle.pm_move_consumer.specs.Mover.{IsMoving, Moving}
use Rattle.pm_move_consumer.specs.MoverAllCalls.{DidMove, ItMoves, ItRests, MayMove, MovesName, MovesNames, OthersRest, StandsWith}
use Rattle.pm_read_frame.specs.AllCalls.{DidFrame}
use Rattle.pm_command_follow.specs.Follow.{HasSchema, ReadsTable, TellsChanges, Then}
use Rattle.pm_command_follow.specs.Printed.{frames_text, start_of, text_so_far}
use Rattle.pm_command_follow.proofs.HistoryLemmas as follow
use Rattle.pm_command_follow.proofs.JoinLemmas.{IsRun, Traces-split, at_first}
use Rattle.pm_command_follow.proofs.TextLemmas.{frames_push}
use Rattle.pm_command_consume.specs.Alone.{Beginning, HasJoined, IsFollowed, IsImage, IsThere, StandsAt, full_after, full_at, fresh, history_of, names_at, names_with, passed, settled_at, settled_in, start_after, start_at, untouched}
use Rattle.pm_command_consume.specs.Consume.{Finds, FindsUnsettled, HandsOut, IsConsuming, Joins, Lists, Opens, Starts, bytes_at, joined, moving_from, place_at, settled}
use Rattle.pm_command_consume.specs.declared.consuming.Consuming.{Consuming}
use Rattle.pm_command_consume.specs.declared.place.Place.{Place}
use Rattle.pm_command_consume.proofs.StageLemmas.{Came, Reads, begins, came_so, image_at, in_turns, names_same, nothing_came, reads_again, said_is, stays, there_first, unregistered_none}

-- the laws of the machines
pub record Laws : Type 0 where
  pub readers : follow.Laws
  pub found : (name : List ℕ) (result : Result FoundConsumer Refusal) (before after : StoreView) → HasTrace (DidFind name result) before after
      → FindsConsumers name before after result
  pub registers : (r : Registering) (result : Result (Unit {0}) Refusal) (before after : StoreView) → IsRegistering r → HasTrace (DidRegister r result) before after
      → RegistersNames r before after result
  pub moves : (m : Moving) (result : Result (List ℕ) Refusal) (before after : StoreView) → IsMoving m → HasTrace (DidMove m result) before after
      → MovesNames m before after result
  pub reads : Reads

-- ---- the calls begin with those of the schema

pub first_of : {A B : List Event → Type 0} (P : List Event → Type 0) (own : List Event) → Then A B own → ((earlier : List Event) → A earlier → Then P (λ later. Unit {0}) earlier)
    → Then P (λ later. Unit {0}) own
first_of P own (earlier, later, did, does, is) leads =
    let so = leads earlier did in
    (so.0, so.1 ++ later, so.2, tt, is ∙ ap (λ (earlier : List Event). earlier ++ later) so.4 ∙ append_assoc so.0 so.1 later)

finds_first : (t : TableSchema) (c : Consuming) (found : Option (List ℕ)) (said : Option Consumer) (own : List Event) → Finds t c found said own
    → Then (HasSchema t) (λ later. Unit {0}) own
finds_first t c found said own (earlier, later, did, does, is) = (earlier, later, did, tt, is)

pub unsettled_first : (t : TableSchema) (c : Consuming) (found : Option (List ℕ)) (own : List Event) → FindsUnsettled t c found own → Then (HasSchema t) (λ later. Unit {0}) own
unsettled_first t c found own (is, (said, finds)) = finds_first t c found said own finds

pub starts_first : (t : TableSchema) (c : Consuming) (found : Option (List ℕ)) (start : ℕ) (own : List Event) → Starts t c found start own
    → Then (HasSchema t) (λ later. Unit {0}) own
starts_first t c found start own (latest, calls, at, low, high) = first_of (HasSchema t) own calls (unsettled_first t c found)

pub joins_first : (t : TableSchema) (c : Consuming) (start : ℕ) (own : List Event) → Joins t c start own → Then (HasSchema t) (λ later. Unit {0}) own
joins_first t c start own (found, calls) = first_of (HasSchema t) own calls (starts_first t c found start)

pub opens_first : (t : TableSchema) (c : Consuming) (p : Place) (full : Bool) (text : List ℕ) (own : List Event) → Opens t c p full text own
    → Then (HasSchema t) (λ later. Unit {0}) own
opens_first t c p full text own (settled finds is none) = finds_first t c (Some p.bytes) (Some (consumer_at p.next false)) own finds
opens_first t c p full text own (joined calls is bytes) = first_of (HasSchema t) own calls (joins_first t c p.next)

pub lists_first : (t : TableSchema) (c : Consuming) (p : Place) (full : Bool) (text : List ℕ) (latest : ℕ) (own : List Event) → Lists t c p full text latest own
    → Then (HasSchema t) (λ later. Unit {0}) own
lists_first t c p full text latest own calls = first_of (HasSchema t) own calls (opens_first t c p full text)

-- ---- a beginning

-- what is known at first
pub record Known (c : Consuming) (b : Beginning) : Type 0 where
  pub asked : IsConsuming c
  pub folder : HasTable b.files b.schema b.entries
  pub settled : HaveSettled b.files (history_of b) b.names
  pub known : b.known ≡ settled_at b.files c.name

module _ (laws : Laws) (c : Consuming) (b : Beginning) (k : Known c b) (most : ℕ) where
  abbrev s : TableSchema
  s = b.schema

  abbrev es : List Entry
  es = b.entries

  abbrev path : List ℕ
  path = consumer_path c.name

  abbrev I : Files → Type 0
  I = IsImage c b most

  at_begin : StandsAt c b untouched b.files
  at_begin = begins c b k.folder k.settled

  -- which schema was read
  pub schema_is : (t : TableSchema) (own : List Event) (first after : StoreView) → Then (HasSchema t) (λ later. Unit {0}) own → IsRun b.files own first after
      → (s ≡ t) × TellsChanges t × IsDeclared t
  schema_is t own first after (earlier, later, did, any_so, is) run =
      let parts = Traces-split earlier later first after (subst (λ (own : List Event). Traces own first after) is run.trace) in
      let early = Traces-later earlier first parts.0 parts.1 in
      let late = Traces-later later parts.0 after parts.2 in
      let alone = alone_parts first parts.0 after early late run.alone in
      let so = follow.has_at laws.readers b.files (history_of b) k.folder t earlier first parts.0 did (record { trace = parts.1; alone = alone.0; has = run.has }) in
      (so.1.is, so.1.tells, so.1.declared)

  module _ (followed : IsFollowed b) where
    of : follow.IsOf (history_of b) s
    of = record { is = refl; tells = followed.0; declared = followed.1 }

    -- ---- the consumer's file

    record FoundHere (found : Option (List ℕ)) (said : Option Consumer) (f : Files) : Type 0 where
      first_files : f ≡ b.files
      found_is : found ≡ map.get b.files path
      says : Says found said

    image_first : I b.files
    image_first = image_at c b most untouched b.files tt at_begin

    finds_at : (found : Option (List ℕ)) (said : Option Consumer) (own : List Event) (first after : StoreView) → Finds s c found said own → IsRun b.files own first after
        → Came I (FoundHere found said) first after
    finds_at found said own first after calls run =
        in_turns I (λ f. f ≡ b.files) (FoundHere found said) b.files own first after calls run
        (λ earlier middle did run. stays I (λ f. f ≡ b.files) b.files first middle image_first refl
        (follow.has_at laws.readers b.files (history_of b) k.folder s earlier first middle did run).0)
        (λ g same later middle did wider run.
        let here = subst (λ (g : Files). IsRun g later middle after) same run in
        let so = at_first (λ first after. (f : Files) (h : History) → HasFiles f first → Folder f h → FindsConsumer c.name f first after (Ok (found_as found said))) b.files later
        middle after here (laws.found c.name (Ok (found_as found said)) middle after (later, did, here.trace)) b.files (history_of b) here.has k.folder in
        stays I (FoundHere found said) b.files middle after image_first (record { first_files = refl; found_is = so.found.0; says = so.found.1 }) so.files)

    -- ---- the start

    pub record StartsHere (found : Option (List ℕ)) (start : ℕ) : Type 0 where
      pub found_is : found ≡ map.get b.files path
      pub unregistered : IsUnregistered found
      pub none : b.known ≡ None
      pub is : start_at c b ≡ start
      pub low : 1 ≤ start
      pub high : start ≤ suc (length es)

    pub unsettled_at : (found : Option (List ℕ)) (own : List Event) (first after : StoreView) → FindsUnsettled s c found own → IsRun b.files own first after
        → Came I (λ f. (f ≡ b.files) × (found ≡ map.get b.files path) × IsUnregistered found × (b.known ≡ None)) first after
    unsettled_at found own first after (unregistered, (said, finds)) run =
        let came = finds_at found said own first after finds run in
        came_so I (FoundHere found said) (λ f. (f ≡ b.files) × (found ≡ map.get b.files path) × IsUnregistered found × (b.known ≡ None)) first after
        (λ f so. (
          so.first_files,
          so.found_is,
          unregistered,
          k.known ∙ ap (λ (content : Option (List ℕ)). settled_in (said_in content)) (sym so.found_is) ∙ unregistered_none found unregistered,
        )) came

    pub starts_at : (found : Option (List ℕ)) (start : ℕ) (own : List Event) (first after : StoreView) → Starts s c found start own → IsRun b.files own first after
        → Came I (λ f. (f ≡ b.files) × StartsHere found start) first after
    starts_at found start own first after (latest, calls, is, low, high) run =
        in_turns I (λ f. (f ≡ b.files) × (found ≡ map.get b.files path) × IsUnregistered found × (b.known ≡ None)) (λ f. (f ≡ b.files) × StartsHere found start)
        b.files own first after calls run (λ earlier middle. unsettled_at found earlier first middle)
        (λ g (same, found_is, unregistered, none) later middle did wider run.
        let here = subst (λ (g : Files). IsRun g later middle after) same run in
        let so = follow.latest_at laws.readers b.files (history_of b) k.folder (Ok latest) later middle after did here in
        let newest : latest ≡ length es = so.latest in
        stays I (λ f. (f ≡ b.files) × StartsHere found start) b.files middle after image_first (
          refl,
          record {
            found_is = found_is;
            unregistered = unregistered;
            none = none;
            is = ap (λ (known : Option ℕ). start_after known c.from (length es)) none ∙ ap (start_of c.from) (sym newest) ∙ sym is;
            low = low;
            high = subst (λ (latest : ℕ). start ≤ suc latest) newest high;
          },
        ) so.files)

    -- ---- the registering

    within_names : (start : ℕ) → start ≤ suc (length es) → start ≤ suc greatest
    within_names start high = let within = k.folder.snapshots.within in omega (arith, high, within)

    -- what files say at the stages of a registering
    module _ (found : Option (List ℕ)) (start : ℕ) (here : StartsHere found start) where
      abbrev r : Registering
      r = registering c.name found start

      pub at_new : (g : Files) → IsLeft r s es b.names b.files g → map.get g path ≡ Some (new_text start) → StandsAt c b fresh g
      at_new g left there = record {
        folder = left.folder;
        declared = followed.1;
        only = left.only;
        at = (
          here.none,
          said_is g c.name (new_text start) start true there (reads_again laws.reads start true here.low (within_names start here.high))
              ∙ ap (λ (n : ℕ). Some (new_at n)) (sym here.is),
        );
        settled = left.settled;
      }

      pub at_known : (g : Files) → IsLeft r s es b.names b.files g → map.get g path ≡ Some (known_text start) → StandsAt c b (passed 0) g
      at_known g left there =
          let number : start ≡ start_at c b + 0 = let is = here.is in omega (arith, is) in
          record {
            folder = left.folder;
            declared = followed.1;
            only = left.only;
            at = said_is g c.name (known_text start) start false there (reads_again laws.reads start false here.low (within_names start here.high))
                ∙ ap (λ (n : ℕ). Some (known_at n)) number;
            settled = subst (λ (known : Option ℕ). HaveSettled g (history_of b) (names_with (passed 0) known c.name b.names)) (sym here.none) (left.known there);
          }

      pub at_found : (g : Files) → IsLeft r s es b.names b.files g → map.get g path ≡ found → StandsAt c b untouched g
      at_found g left there = record { folder = left.folder; declared = tt; only = left.only; at = there ∙ here.found_is; settled = left.settled }

      image_put : (g : Files) → IsLeft r s es b.names b.files g → IsFoundOrPut r (map.get g path) → I g
      image_put g left (inl (inl same)) = image_at c b most untouched g tt (at_found g left same)
      image_put g left (inl (inr put)) = image_at c b most fresh g tt (at_new g left put)
      image_put g left (inr put) = image_at c b most (passed 0) g (omega arith) (at_known g left put)

      pub registers_at : (result : Result (Unit {0}) Refusal) (own : List Event) (first after : StoreView) → DidRegister r result own → IsRun b.files own first after
          → RegistersName r s es b.names b.files first after result
      registers_at result own first after did run =
          at_first (λ first after. (s : TableSchema) (es : List Entry) (names : List (List ℕ)) (f : Files) → HasFiles f first → MayRegister r s es names f
          → RegistersName r s es names f first after result) b.files own first after run
          (laws.registers r result first after (record { plain = k.asked.plain; found = here.unregistered; next = here.low }) (own, did, run.trace)) s es b.names b.files run.has
          (record { folder = k.folder; settled = k.settled; plain = plain_names s followed.1; found = sym here.found_is; next = here.high })

      -- what it leaves, and each image
      pub left_at : (A : Files → Type 0) (result : Result (Unit {0}) Refusal) (first after : StoreView) → RegistersName r s es b.names b.files first after result
          → ((g : Files) → IsLeft r s es b.names b.files g → LeavesAt r result (map.get g path) → A g) → Came I A first after
      left_at A result first after so leads =
          let files = files_of (λ g. IsLeft r s es b.names b.files g × LeavesAt r result (map.get g path)) after so.leaves in
          record {
            files = files.0;
            has = files.1;
            images = Extends-weaker (λ g. IsLeft r s es b.names b.files g × IsFoundOrPut r (map.get g path)) I first.ops after.ops
                (λ g image. image_put g image.0 image.1) so.images;
            so = leads files.0 files.2.0 files.2.1;
          }

    -- it was registered, and its file has the bytes of the start
    pub record JoinedHere (start : ℕ) (f : Files) : Type 0 where
      pub stands : StandsAt c b (passed 0) f
      pub bytes : map.get f path ≡ Some (known_text start)
      pub none : b.known ≡ None
      pub is : start_at c b ≡ start
      pub low : 1 ≤ start
      pub high : start ≤ suc (length es)
      pub floors : NoneExceeds b.files start

    pub joins_at : (start : ℕ) (own : List Event) (first after : StoreView) → Joins s c start own → IsRun b.files own first after → Came I (JoinedHere start) first after
    joins_at start own first after (found, calls) run =
        in_turns I (λ f. (f ≡ b.files) × StartsHere found start) (JoinedHere start) b.files own first after calls run
        (λ earlier middle. starts_at found start earlier first middle)
        (λ g (same, here) later middle did wider run.
        let run_here = subst (λ (g : Files). IsRun g later middle after) same run in
        let so = registers_at found start here (Ok tt) later middle after did run_here in
        left_at found start here (JoinedHere start) (Ok tt) middle after so
        (λ f left there. record {
          stands = at_known found start here f left there;
          bytes = there;
          none = here.none;
          is = here.is;
          low = here.low;
          high = here.high;
          floors = so.cause;
        }))

    -- ---- how it opens

    -- it is at this place, behind this text
    pub record OpenHere (p : Place) (full : Bool) (text : List ℕ) (f : Files) : Type 0 where
      pub stands : StandsAt c b (passed 0) f
      pub bytes : map.get f path ≡ Some p.bytes
      pub reads : consumer_in p.bytes ≡ Ok (consumer_at p.next false)
      pub is : start_at c b ≡ p.next
      pub low : 1 ≤ p.next
      pub joined : HasJoined c b
      pub full_is : full_at c b ≡ full
      pub text_is : text ≡ text_so_far s es full p.next 0
      pub base : full ≡ true → IsThere b (p.next - 1)

    settled_here : (p : Place) (f : Files) → FoundHere (Some p.bytes) (Some (consumer_at p.next false)) f → OpenHere p false [] f
    settled_here p f so =
        let said : said_at b.files c.name ≡ Some (known_at p.next) = said_is b.files c.name p.bytes p.next false (sym so.found_is) so.says in
        let known_is : b.known ≡ Some p.next = k.known ∙ ap settled_in said in
        let start_is : start_at c b ≡ p.next = ap (λ (known : Option ℕ). start_after known c.from (length es)) known_is in
        let number : p.next ≡ start_at c b + 0 = omega (arith, start_is) in
        subst (OpenHere p false []) (sym so.first_files)
        (record {
          stands = record {
            folder = k.folder;
            declared = followed.1;
            only = λ path not. refl;
            at = said ∙ ap (λ (n : ℕ). Some (known_at n)) number;
            settled = subst (λ (known : Option ℕ). HaveSettled b.files (history_of b) (names_with (passed 0) known c.name b.names)) (sym known_is) k.settled;
          };
          bytes = sym so.found_is;
          reads = so.says;
          is = start_is;
          low = laws.reads.next p.bytes (consumer_at p.next false) so.says;
          joined = (followed, λ none. absurd (not_both b.known p.next known_is none));
          full_is = ap (λ (known : Option ℕ). full_after known c.full) known_is;
          text_is = refl;
          base = λ is. absurd (false_not is);
        })
      where
        not_both : (known : Option ℕ) (n : ℕ) → known ≡ Some n → known ≡ None → ⊥
        not_both known n is none = cc

        false_not : false ≡ true → ⊥
        false_not is = cc

    -- what the starting table is, where it was read
    table_here : (p : Place) (full : Bool) (text : List ℕ) (g : Files) (own : List Event) (first after : StoreView) → JoinedHere p.next g → p.bytes ≡ known_text p.next
        → full ≡ c.full → ReadsTable s c.full p.next text own → IsRun g own first after → Came I (OpenHere p full text) first after
    table_here p full text g own first after here bytes_is asked calls run =
        by c.full refl (subst (λ (full : Bool). ReadsTable s full p.next text own) refl calls)
      where
        image_here : I g
        image_here = image_at c b most (passed 0) g (omega arith) here.stands

        open_here : (is : c.full ≡ full) (text : List ℕ) → text ≡ text_so_far s es full p.next 0 → (full ≡ true → IsThere b (p.next - 1)) → OpenHere p full text g
        open_here is text text_is base = record {
          stands = here.stands;
          bytes = here.bytes ∙ ap Some (sym bytes_is);
          reads = subst (λ (bytes : List ℕ). consumer_in bytes ≡ Ok (consumer_at p.next false)) (sym bytes_is)
              (reads_again laws.reads p.next false here.low (within_names p.next here.high));
          is = here.is;
          low = here.low;
          joined = (
            followed,
            λ none. (
              subst (λ (n : ℕ). n ≤ suc (length es)) (sym here.is) here.high,
              subst (NoneExceeds b.files) (sym here.is) here.floors,
            ),
          );
          full_is = ap (λ (known : Option ℕ). full_after known c.full) here.none ∙ is;
          text_is = text_is;
          base = base;
        }

        true_not : true ≡ false → ⊥
        true_not is = cc

        by : (asked_full : Bool) → c.full ≡ asked_full → ReadsTable s c.full p.next text own → Came I (OpenHere p full text) first after
        by false is reads =
            let calls : ReadsTable s false p.next text own = subst (λ (full : Bool). ReadsTable s full p.next text own) is reads in
            let same : full ≡ false = asked ∙ is in
            let nothing : text ≡ text_so_far s es full p.next 0 = subst (λ (full : Bool). text ≡ text_so_far s es full p.next 0) (sym same) calls.0 in
            nothing_came I (OpenHere p full text) g own first after calls.1 image_here
            (open_here (sym asked) text nothing (λ yes. absurd (true_not (sym yes ∙ same)))) run
        by true is reads =
            let calls : ReadsTable s true p.next text own = subst (λ (full : Bool). ReadsTable s full p.next text own) is reads in
            let same : full ≡ true = asked ∙ is in
            let scan = follow.scan_at laws.readers g (history_of b) here.stands.folder s (p.next - 1) (Ok calls.0) own first after of calls.1 run in
            let text_is : text ≡ text_so_far s es true p.next 0 = calls.2 ∙ follow.prints_start laws.readers g (history_of b) here.stands.folder s p.next calls.0 (history_of b) refl scan.text in
            stays I (OpenHere p full text) g first after image_here
            (open_here (sym asked) text (subst (λ (full : Bool). text ≡ text_so_far s es full p.next 0) (sym same) text_is)
            (λ yes. there_first c b (passed 0) g (p.next - 1) here.stands scan.there.1)) scan.files

    pub opens_at : (p : Place) (full : Bool) (text : List ℕ) (own : List Event) (first after : StoreView) → Opens s c p full text own → IsRun b.files own first after
        → Came I (OpenHere p full text) first after
    opens_at p full text own first after (settled finds none nothing) run =
        let came = came_so I (FoundHere (Some p.bytes) (Some (consumer_at p.next false))) (OpenHere p false []) first after (settled_here p)
        (finds_at (Some p.bytes) (Some (consumer_at p.next false)) own first after finds run) in
        subst (λ (full : Bool). Came I (OpenHere p full text) first after) (sym none)
        (subst (λ (text : List ℕ). Came I (OpenHere p false text) first after) (sym nothing) came)
    opens_at p full text own first after (joined calls asked bytes_is) run =
        in_turns I (JoinedHere p.next) (OpenHere p full text) b.files own first after calls run
        (λ earlier middle. joins_at p.next earlier first middle)
        (λ g here later middle did wider run. table_here p full text g later middle after here bytes_is asked did run)

    pub record ListedHere (p : Place) (full : Bool) (text : List ℕ) (latest : ℕ) (f : Files) : Type 0 where
      pub open_ : OpenHere p full text f
      pub newest : latest ≡ length es

    pub lists_at : (p : Place) (full : Bool) (text : List ℕ) (latest : ℕ) (own : List Event) (first after : StoreView) → Lists s c p full text latest own
        → IsRun b.files own first after → Came I (ListedHere p full text latest) first after
    lists_at p full text latest own first after calls run =
        in_turns I (OpenHere p full text) (ListedHere p full text latest) b.files own first after calls run
        (λ earlier middle. opens_at p full text earlier first middle)
        (λ g open_ later middle did wider run.
        let so = follow.latest_at laws.readers g (history_of b) open_.stands.folder (Ok latest) later middle after did run in
        stays I (ListedHere p full text latest) g middle after (image_at c b most (passed 0) g (omega arith) open_.stands)
        (record { open_ = open_; newest = so.latest }) so.files)

    -- ---- the frames

    -- so many were handed out
    pub record HandedHere (p : Place) (count : ℕ) (text : List ℕ) (f : Files) : Type 0 where
      pub stands : StandsAt c b (passed count) f
      pub bytes : map.get f path ≡ Some (bytes_at p count)
      pub reads : consumer_in (bytes_at p count) ≡ Ok (consumer_at (p.next + count) false)
      pub text_is : text ≡ frames_text s es p.next count
      pub each : (id : ℕ) → p.next ≤ id → id < p.next + count → IsThere b id

    -- and the next was read
    pub record ReadHere (p : Place) (count : ℕ) (text frame_text : List ℕ) (f : Files) : Type 0 where
      pub handed : HandedHere p count text f
      pub frame_is : frame_text ≡ frame s es (p.next + count)
      pub there : IsThere b (p.next + count)

    module _ (p : Place) (is : start_at c b ≡ p.next) (low : 1 ≤ p.next) where
      pub frame_at : (count : ℕ) (text frame_text : List ℕ) (g : Files) (own : List Event) (first after : StoreView) → HandedHere p count text g → count ≤ most
          → p.next + count ≤ length es → DidFrame s (p.next + count) (Ok frame_text) own → IsRun g own first after → Came I (ReadHere p count text frame_text) first after
      frame_at count text frame_text g own first after so within high did run =
          let at : 1 ≤ p.next + count = omega (arith, low) in
          let read = follow.frame_at laws.readers g (history_of b) so.stands.folder s (p.next + count) (Ok frame_text) own first after of at high did run in
          let there : IsSome (map.get g (path_of s (p.next + count))) =
          subst (λ (path : List ℕ). IsSome (map.get g path)) (sym (follow.path_is s (p.next + count) at)) read.there in
          stays I (ReadHere p count text frame_text) g first after (image_at c b most (passed count) g within so.stands)
          (record {
            handed = so;
            frame_is = read.text (follow.has_producer laws.readers g (history_of b) so.stands.folder s of);
            there = there_first c b (passed count) g (p.next + count) so.stands there;
          }) read.files

      -- the move past it
      abbrev move_at : ℕ → Moving
      move_at count = moving_from c (place_at p count)

      pub moves_at : (count : ℕ) (text frame_text : List ℕ) (g : Files) (result : Result (List ℕ) Refusal) (own : List Event) (first after : StoreView)
          → ReadHere p count text frame_text g → p.next + count ≤ length es → DidMove (move_at count) result own → IsRun g own first after
          → MovesName (move_at count) s es (names_at c b (passed count)) g first after result
      moves_at count text frame_text g result own first after so high did run =
          let within = k.folder.snapshots.within in
          at_first (λ first after. (s : TableSchema) (es : List Entry) (names : List (List ℕ)) (f : Files) → HasFiles f first → MayMove (move_at count) s es names f
          → MovesName (move_at count) s es names f first after result) g own first after run
          (laws.moves (move_at count) result first after (record { plain = k.asked.plain; reads = so.handed.reads; within = omega (arith, high, within) })
          (own, did, run.trace)) s es (names_at c b (passed count)) g run.has
          (record {
            stands = record { folder = so.handed.stands.folder; settled = so.handed.stands.settled };
            plain = plain_names s followed.1;
            within = high;
          })

      -- the files of which a move makes others, and the stage of these
      pub rested : (count : ℕ) (g f : Files) → StandsAt c b (passed count) g → OthersRest path g f → ItRests (move_at count) g f
          → StandsWith s es (names_at c b (passed count)) f → StandsAt c b (passed count) f
      rested count g f was others same so = record {
        folder = so.folder;
        declared = was.declared;
        only = λ other not. others other not ∙ was.only other not;
        at = ap said_in same ∙ was.at;
        settled = so.settled;
      }

      next_reads : (count : ℕ) → p.next + count ≤ length es → consumer_in (known_text (p.next + count + 1)) ≡ Ok (consumer_at (p.next + suc count) false)
      next_reads count high =
          let within = k.folder.snapshots.within in
          let number : p.next + count + 1 ≡ p.next + suc count = omega arith in
          subst (λ (n : ℕ). consumer_in (known_text (p.next + count + 1)) ≡ Ok (consumer_at n false)) number
          (reads_again laws.reads (p.next + count + 1) false (omega (arith, low)) (omega (arith, high, within)))

      pub moved : (count : ℕ) (g f : Files) → p.next + count ≤ length es → StandsAt c b (passed count) g → OthersRest path g f → ItMoves (move_at count) g f
          → StandsWith s es (names_at c b (passed count)) f → StandsAt c b (passed (suc count)) f
      moved count g f high was others (before, there) so =
          let number : p.next + suc count ≡ start_at c b + suc count = omega (arith, is) in
          record {
            folder = so.folder;
            declared = was.declared;
            only = λ other not. others other not ∙ was.only other not;
            at = said_is f c.name (known_text (p.next + count + 1)) (p.next + suc count) false there (next_reads count high) ∙ ap (λ (n : ℕ). Some (known_at n)) number;
            settled = subst (HaveSettled f (history_of b)) (names_same c b count (suc count)) so.settled;
          }

      -- each image of a move
      pub image_moved : (count : ℕ) (g f : Files) → suc count ≤ most → p.next + count ≤ length es → StandsAt c b (passed count) g
          → OthersRest path g f × (ItRests (move_at count) g f ⊎ ItMoves (move_at count) g f) × StandsWith s es (names_at c b (passed count)) f → I f
      image_moved count g f within high was (others, inl same, so) = image_at c b most (passed count) f (omega (arith, within)) (rested count g f was others same so)
      image_moved count g f within high was (others, inr moves, so) = image_at c b most (passed (suc count)) f within (moved count g f high was others moves so)

      one_more : (count : ℕ) → ((id : ℕ) → p.next ≤ id → id < p.next + count → IsThere b id) → IsThere b (p.next + count)
          → (id : ℕ) → p.next ≤ id → id < p.next + suc count → IsThere b id
      one_more count each last id from below = by (cases_lt id (p.next + count))
        where
          by : (id < p.next + count) ⊎ (p.next + count ≤ id) → IsThere b id
          by (inl less) = each id from less
          by (inr not) = let same : p.next + count ≡ id = omega (arith, not, below) in subst (IsThere b) same last

      move_came : (count : ℕ) (text frame_text : List ℕ) (g : Files) (own : List Event) (first after : StoreView) → ReadHere p count text frame_text g → suc count ≤ most
          → p.next + count ≤ length es → DidMove (move_at count) (Ok (known_text (p.next + count + 1))) own → IsRun g own first after
          → Came I (HandedHere p (suc count) (text ++ frame_text)) first after
      move_came count text frame_text g own first after so within high did run =
          let moves = moves_at count text frame_text g (Ok (known_text (p.next + count + 1))) own first after so high did run in
          let files = files_of (λ f. OthersRest path g f × ItMoves (move_at count) g f × StandsWith s es (names_at c b (passed count)) f) after moves.leaves in
          record {
            files = files.0;
            has = files.1;
            images = Extends-weaker (λ f. OthersRest path g f × (ItRests (move_at count) g f ⊎ ItMoves (move_at count) g f) × StandsWith s es (names_at c b (passed count)) f) I first.ops
                after.ops (λ f image. image_moved count g f within high so.handed.stands image) moves.images;
            so = record {
              stands = moved count g files.0 high so.handed.stands files.2.0 files.2.1 files.2.2;
              bytes = files.2.1.1;
              reads = next_reads count high;
              text_is = ap (λ (text : List ℕ). text ++ frame_text) so.handed.text_is ∙ ap (λ (text : List ℕ). frames_text s es p.next count ++ text) so.frame_is
                  ∙ sym (frames_push s es p.next count);
              each = one_more count so.handed.each so.there;
            };
          }

      pub hands_at : (count : ℕ) (text : List ℕ) (g : Files) (own : List Event) (first after : StoreView) → HandedHere p 0 [] g → count ≤ most
          → (p.next + count ≤ suc (length es)) ⊎ (count ≡ 0) → HandsOut s c p count text own → IsRun g own first after → Came I (HandedHere p count text) first after
      hands_at zero text g own first after so within high (nothing, none) run =
          nothing_came I (HandedHere p zero text) g own first after none (image_at c b most (passed 0) g (omega arith) so.stands)
          (subst (λ (text : List ℕ). HandedHere p zero text g) (sym nothing) so) run
      hands_at (suc count) text g own first after so within high (before, frame_text, calls, text_is) run =
          let far : p.next + count ≤ length es = above high in
          let came = in_turns I (HandedHere p count before) (HandedHere p (suc count) (before ++ frame_text)) g own first after calls run
          (λ earlier middle did run. hands_at count before g earlier first middle so (omega (arith, within)) (inl (omega (arith, far))) did run)
          (λ f handed later middle did wider run.
          in_turns I (ReadHere p count before frame_text) (HandedHere p (suc count) (before ++ frame_text)) f later middle after did run
          (λ earlier between does run. frame_at count before frame_text f earlier middle between handed (omega (arith, within)) far does run)
          (λ e read last between does more run. move_came count before frame_text e last between after read within far does run)) in
          subst (λ (text : List ℕ). Came I (HandedHere p (suc count) text) first after) (sym text_is) came
        where
          above : (p.next + suc count ≤ suc (length es)) ⊎ (suc count ≡ 0) → p.next + count ≤ length es
          above (inl is) = omega (arith, is)
          above (inr none) = absurd (omega (arith, none))
