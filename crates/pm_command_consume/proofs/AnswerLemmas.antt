-- What a following with a consumer answers to a table that stands at its first call, where nobody else acts.
use Rattle.std.proofs.Common.{◌≡◌, ◌⊎◌, inl, inr, ℕ, suc, ◌+◌, ◌-◌, ◌<◌, ◌≤◌, Bool, true, false, List, [], ◌∷◌, ◌++◌, length, Contains, Option, None, Some, Ok, Err, refl, sym, ap, subst, ◌∙◌, append_assoc, arith}
use Rattle.std.proofs.lemmas.Bool.{cases_lt}
use Rattle.std.specs.FinMap as map
use Rattle.pm_base.specs.Known.{and_then}
use Rattle.pm_values.specs.declared.refusal.Refusal.{Refusal}
use Rattle.pm_values.specs.declared.refusal.Refusal.TheVariants as refusals
use Rattle.pm_io.specs.Sink.{SinkView, TookPrefix}
use Rattle.pm_store.specs.Files.{Files}
use Rattle.pm_store.specs.Images.{Extends}
use Rattle.pm_store.specs.Store.{StoreView}
use Rattle.pm_store.proofs.ImageLaws.{Extends-weaker}
use Rattle.pm_machine.specs.Trace.{Event}
use Rattle.pm_options.specs.declared.kinds.Producer.TheVariants as producers
use Rattle.pm_schema.specs.Again.{IsDeclared}
use Rattle.pm_schema.specs.declared.schema.TableSchema.{TableSchema}
use Rattle.pm_model_consumers.specs.Claims.{known_at}
use Rattle.pm_model_history.specs.History.{History, no_table}
use Rattle.pm_model_following.specs.Following.{frame}
use Rattle.pm_model_folder.specs.Consumers.{said_at}
use Rattle.pm_model_folder.specs.Folder.{Folder, HaveSettled}
use Rattle.pm_model_folder.specs.Paths.{consumer_path}
use Rattle.pm_create.specs.Making.{LeavesFiles}
use Rattle.pm_command.proofs.TableLemmas.{files_of, leaves_of}
use Rattle.pm_scan.specs.AllCalls as scanner
use Rattle.pm_scan.specs.AllCalls.{path_of}
use Rattle.pm_read_schema.specs.AllCalls.{HasFiles, Stay}
use Rattle.pm_read_schema.specs.AllCalls as reader_calls
use Rattle.pm_read_schema.proofs.AllCallsLemmas.{shows_at, shows_calls}
use Rattle.pm_read_schema.proofs.StillLemmas.{stayed}
use Rattle.pm_read_latest.specs.AllCalls.{DidLatest}
use Rattle.pm_read_latest.specs.AllCalls as latest_calls
use Rattle.pm_read_consumer.specs.AllCalls.{DidFind, FindsConsumer}
use Rattle.pm_read_frame.specs.AllCalls.{DidFrame}
use Rattle.pm_read_frame.specs.AllCalls as frame_calls
use Rattle.pm_register.specs.AllCalls.{DidRegister, IsLeft, LeavesAt, NoneExceeds}
use Rattle.pm_register.specs.AllCalls as register_calls
use Rattle.pm_register.specs.Registrar.{IsUnregistered, consumer_at, registering}
use Rattle.pm_move_consumer.specs.MoverAllCalls.{DidMove, ItMoves, ItRests, OthersRest, StandsWith}
use Rattle.pm_move_consumer.specs.MoverAllCalls as move_calls
use Rattle.pm_command_follow.specs.Follow.{DidTable, HasSchema, ShowsSchema, TellsChanges, Then, Took, of_producer, of_reader}
use Rattle.pm_command_follow.specs.Printed.{count_from, frames_text, text_so_far}
use Rattle.pm_command_follow.proofs.JoinLemmas.{IsRun, at_first, rose_wider}
use Rattle.pm_command_follow.proofs.HistoryLemmas as follow
use Rattle.pm_command_follow.proofs.TextLemmas.{frames_push, with_frames}
use Rattle.pm_command_consume.specs.Alone.{AnswersTable, Beginning, BreaksOff, HasFrames, IsFollowed, IsImage, IsThere, Leaves, Refuses, StandsAt, Stops, breaks_off, frames_at, fresh, full_at, history_of, in_frame, in_table, names_at, names_with, passed, printed_at, prints, refuses, start_at, stops, untouched}
use Rattle.pm_command_consume.specs.Consume.{Ends, FindsUnsettled, GoesOn, HandsOutAll, Joins, Opens, ShowsFirst, Starts, all, fails_frame, fails_table, moving_from, of_file, of_listing, of_registering, of_schema, of_start, of_table, place_at, refused_first, refused_frame, refused_listing, refused_move}
use Rattle.pm_command_consume.specs.declared.consuming.Consuming.{Consuming}
use Rattle.pm_command_consume.specs.declared.place.Place.{Place}
use Rattle.pm_command_consume.proofs.StageLemmas.{Came, begins, contains_first, image_at, in_turns, serves, settled_with, stays, still_there}
use Rattle.pm_command_consume.proofs.AloneLemmas as alone
use Rattle.pm_command_consume.proofs.AloneLemmas.{HandedHere, JoinedHere, Known, Laws, ListedHere, OpenHere, ReadHere, StartsHere, first_of, joins_first, lists_first, opens_first, starts_first, unsettled_first}

module _ (laws : Laws) (c : Consuming) (b : Beginning) (k : Known c b) where
  abbrev s : TableSchema
  s = b.schema

  -- ---- what was printed of it

  open_text : (p : Place) (full : Bool) (count : ℕ) (head frames text : List ℕ) → head ≡ text_so_far s b.entries full p.next 0 → frames ≡ frames_text s b.entries p.next count
      → text ≡ head ++ frames → text ≡ text_so_far s b.entries full p.next count
  open_text p full count head frames text head_is frames_is is =
      is ∙ ap (λ (head : List ℕ). head ++ frames) head_is ∙ ap (λ (frames : List ℕ). text_so_far s b.entries full p.next 0 ++ frames) frames_is
      ∙ with_frames s b.entries full p.next count

  -- the place and the table's text by what they are at first
  took_at : (p : Place) (full : Bool) (count : ℕ) (text : List ℕ) (before after : SinkView) → start_at c b ≡ p.next → full_at c b ≡ full
      → text ≡ text_so_far s b.entries full p.next count → Took full count text before after → Took (full_at c b) count (printed_at c b count) before after
  took_at p full count text before after is full_is text_is took =
      subst (λ (start : ℕ). Took (full_at c b) count (text_so_far s b.entries (full_at c b) start count) before after) (sym is)
      (subst (λ (full : Bool). Took full count (text_so_far s b.entries full p.next count) before after) (sym full_is)
      (subst (λ (text : List ℕ). Took full count text before after) text_is took))

  printed_is : (p : Place) (full : Bool) (count : ℕ) (text : List ℕ) → start_at c b ≡ p.next → full_at c b ≡ full → text ≡ text_so_far s b.entries full p.next count
      → text ≡ printed_at c b count
  printed_is p full count text is full_is text_is =
      text_is ∙ ap (λ (full : Bool). text_so_far s b.entries full p.next count) (sym full_is) ∙ ap (λ (start : ℕ). text_so_far s b.entries (full_at c b) start count) (sym is)

  frames_of : (most : ℕ) (followed : IsFollowed b) (p : Place) (full : Bool) (count : ℕ) (head : List ℕ) (g : Files) → OpenHere laws c b k most followed p full head g
      → count ≤ count_from p.next (length b.entries) → ((id : ℕ) → p.next ≤ id → id < p.next + count → IsThere b id) → HasFrames c b count
  frames_of most followed p full count head g open_ few each = record {
    joined = open_.joined;
    within = subst (λ (start : ℕ). count ≤ count_from start (length b.entries)) (sym open_.is) few;
    base = λ yes. subst (λ (start : ℕ). IsThere b (start - 1)) (sym open_.is) (open_.base (sym open_.full_is ∙ yes));
    each = subst (λ (start : ℕ). (id : ℕ) → start ≤ id → id < start + count → IsThere b id) (sym open_.is) each;
  }

  -- ---- how it goes on

  -- nothing was handed out yet
  handed_none : (most : ℕ) (followed : IsFollowed b) (p : Place) (full : Bool) (head : List ℕ) (g : Files) → OpenHere laws c b k most followed p full head g
      → HandedHere laws c b k most followed p 0 [] g
  handed_none most followed p full head g open_ =
      let number : p.next ≡ p.next + 0 = omega arith in
      record {
        stands = open_.stands;
        bytes = open_.bytes;
        reads = open_.reads ∙ ap (λ (next : ℕ). Ok (consumer_at next false)) number;
        text_is = refl;
        each = λ id from below. absurd (omega (arith, from, below));
      }

  -- the calls up to so many frames, and those after them
  record GoneOn (most : ℕ) (followed : IsFollowed b) (p : Place) (full : Bool) (count : ℕ) (text : List ℕ) (B : Files → Type 0) (f : Files) : Type 0 where
    head : List ℕ
    opened : Files
    open_ : OpenHere laws c b k most followed p full head opened
    within : p.next + count ≤ length b.entries
    each : (id : ℕ) → p.next ≤ id → id < p.next + count → IsThere b id
    text_is : text ≡ text_so_far s b.entries full p.next count
    so : B f

  gone_on : (most : ℕ) (followed : IsFollowed b) (p : Place) (full : Bool) (count : ℕ) (text : List ℕ) (Next : List Event → Type 0) (B : Files → Type 0) (own : List Event)
      (first after : StoreView) → count ≤ most → GoesOn s c p full count text Next own → IsRun b.files own first after
      → ((g : Files) (frames : List ℕ) → start_at c b ≡ p.next → 1 ≤ p.next → HandedHere laws c b k most followed p count frames g → p.next + count ≤ length b.entries
      → (later : List Event) (middle : StoreView) → Next later → first.faults ≤ middle.faults → IsRun g later middle after → Came (IsImage c b most) B middle after)
      → Came (IsImage c b most) (GoneOn most followed p full count text B) first after
  gone_on most followed p full count text Next B own first after enough (latest, head, frames, few, calls, is) run next_so =
      in_turns (IsImage c b most) (ListedHere laws c b k most followed p full head latest) (GoneOn most followed p full count text B) b.files own first after calls run
      (λ earlier middle. alone.lists_at laws c b k most followed p full head latest earlier first middle)
      (λ g lists later middle did wider run.
      let newest = lists.newest in
      let open_ = lists.open_ in
      let within : p.next + count ≤ length b.entries = omega (arith, few, newest) in
      in_turns (IsImage c b most) (HandedHere laws c b k most followed p count frames) (GoneOn most followed p full count text B) g later middle after did run
      (λ earlier between does run. alone.hands_at laws c b k most followed p open_.is open_.low count frames g earlier middle between
      (handed_none most followed p full head g open_) enough (inl (omega (arith, within))) does run)
      (λ h handed last between does more run.
      let far : first.faults ≤ between.faults = omega (arith, wider, more) in
      let came = next_so h frames open_.is open_.low handed within last between does far run in
      record {
        files = came.files;
        has = came.has;
        images = came.images;
        so = record {
          head = head;
          opened = g;
          open_ = open_;
          within = within;
          each = handed.each;
          text_is = open_text p full count head frames text open_.text_is handed.text_is is;
          so = came.so;
        };
      }))

  -- ---- all of it

  record AllAt (first last : StoreView) (before after : SinkView) (count : ℕ) : Type 0 where
    frames : HasFrames c b count
    took : Took (full_at c b) count (printed_at c b count) before after
    left : Leaves c b (passed count) last
    joined : LeavesFiles (λ f. HaveSettled f (history_of b) (c.name ∷ b.names)) last
    images : Extends (IsImage c b count) first.ops last.ops

  -- the consumer is settled with the others
  joins : (count : ℕ) (f : Files) → StandsAt c b (passed count) f → length b.entries ≤ start_at c b + count → HaveSettled f (history_of b) (c.name ∷ b.names)
  joins count f stands high = by b.known refl stands.settled
    where
      by : (known : Option ℕ) → b.known ≡ known → HaveSettled f (history_of b) (names_with (passed count) known c.name b.names)
          → HaveSettled f (history_of b) (c.name ∷ b.names)
      by None is settled_so = settled_so
      by (Some next) is settled_so = settled_with f s b.entries c.name b.names (start_at c b + count) stands.folder settled_so stands.at high

  record EndsHere (followed : IsFollowed b) (p : Place) (full : Bool) (count : ℕ) (text : List ℕ) (f : Files) : Type 0 where
    head : List ℕ
    frames : List ℕ
    opened : Files
    open_ : OpenHere laws c b k count followed p full head opened
    handed : HandedHere laws c b k count followed p count frames f
    count_is : count ≡ count_from p.next (length b.entries)
    text_is : text ≡ text_so_far s b.entries full p.next count

  all_at : (followed : IsFollowed b) (p : Place) (full : Bool) (count : ℕ) (text : List ℕ) (own : List Event) (first last : StoreView) (before after : SinkView)
      → HandsOutAll s c p full count text own → Took full count text before after → IsRun b.files own first last → AnswersTable c b first last before after None
  all_at followed p full count text own first last before after (latest, head, frames, whole, calls, is) took run =
      let came = in_turns (IsImage c b count) (ListedHere laws c b k count followed p full head latest) (EndsHere followed p full count text) b.files own first last calls run
      (λ earlier middle. alone.lists_at laws c b k count followed p full head latest earlier first middle)
      (λ g lists later middle did wider run.
      let open_ = lists.open_ in
      let newest = lists.newest in
      let count_is : count ≡ count_from p.next (length b.entries) = whole ∙ ap (count_from p.next) newest in
      let handed = alone.hands_at laws c b k count followed p open_.is open_.low count frames g later middle last
      (handed_none count followed p full head g open_) (omega arith) (bound p count (length b.entries) count_is) did run in
      record {
        files = handed.files;
        has = handed.has;
        images = handed.images;
        so = record {
          head = head;
          frames = frames;
          opened = g;
          open_ = open_;
          handed = handed.so;
          count_is = count_is;
          text_is = open_text p full count head frames text open_.text_is handed.so.text_is is;
        };
      }) in
      let so = came.so in
      let open_ = so.open_ in
      let count_is = so.count_is in
      let start_is : start_at c b ≡ p.next = open_.is in
      let same : count ≡ frames_at c b = count_is ∙ ap (λ (start : ℕ). count_from start (length b.entries)) (sym start_is) in
      let at : AllAt first last before after count = record {
        frames = frames_of count followed p full count so.head so.opened open_ (omega (arith, count_is)) so.handed.each;
        took = took_at p full count text before after start_is open_.full_is so.text_is took;
        left = leaves_of (StandsAt c b (passed count)) came.files last came.has so.handed.stands;
        joined = leaves_of (λ f. HaveSettled f (history_of b) (c.name ∷ b.names)) came.files last came.has
            (joins count came.files so.handed.stands (omega (arith, count_is, start_is)));
        images = came.images;
      } in
      let all_so = subst (AllAt first last before after) same at in
      prints (all_so.frames, all_so.took) all_so.left all_so.joined all_so.images
    where
      bound : (p : Place) (count n : ℕ) → count ≡ count_from p.next n → (p.next + count ≤ suc n) ⊎ (count ≡ 0)
      bound p count n is = by (cases_lt (suc n) p.next)
        where
          by : (suc n < p.next) ⊎ (p.next ≤ suc n) → (p.next + count ≤ suc n) ⊎ (count ≡ 0)
          by (inl above) = inr (omega (arith, above, is))
          by (inr within) = inl (omega (arith, within, is))

  -- ---- where the sink failed

  table_failed : (followed : IsFollowed b) (p : Place) (text : List ℕ) (own : List Event) (first last : StoreView) (before after : SinkView) → Opens s c p true text own
      → TookPrefix before.taken after.taken text → IsRun b.files own first last → BreaksOff c b last before after 0 × Extends (IsImage c b 0) first.ops last.ops
  table_failed followed p text own first last before after opens took run =
      let came = alone.opens_at laws c b k 0 followed p true text own first last opens run in
      let open_ = came.so in (
        in_table (frames_of 0 followed p true 0 text came.files open_ (omega arith) (λ id from below. absurd (omega (arith, from, below)))) open_.full_is
            (subst (TookPrefix before.taken after.taken) (printed_is p true 0 text open_.is open_.full_is open_.text_is) took)
            (leaves_of (StandsAt c b (passed 0)) came.files last came.has open_.stands),
        came.images,
      )

  one_more : (p : Place) (count : ℕ) → ((id : ℕ) → p.next ≤ id → id < p.next + count → IsThere b id) → IsThere b (p.next + count)
      → (id : ℕ) → p.next ≤ id → id < p.next + suc count → IsThere b id
  one_more p count each last id from below = by (cases_lt id (p.next + count))
    where
      by : (id < p.next + count) ⊎ (p.next + count ≤ id) → IsThere b id
      by (inl less) = each id from less
      by (inr not) = let same : p.next + count ≡ id = omega (arith, not, below) in subst (IsThere b) same last

  frame_failed : (followed : IsFollowed b) (p : Place) (full : Bool) (count : ℕ) (text frame_text : List ℕ) (own : List Event) (first last : StoreView) (before after : SinkView)
      → GoesOn s c p full count text (DidFrame s (p.next + count) (Ok frame_text)) own → TookPrefix (and_then before.taken text) after.taken frame_text
      → IsRun b.files own first last → BreaksOff c b last before after count × Extends (IsImage c b count) first.ops last.ops
  frame_failed followed p full count text frame_text own first last before after calls took run =
      let came = gone_on count followed p full count text (DidFrame s (p.next + count) (Ok frame_text))
      (λ f. (frames : List ℕ) × ReadHere laws c b k count followed p count frames frame_text f) own first last (omega arith) calls run
      (λ g frames is low handed within later middle did wider run.
      let read = alone.frame_at laws c b k count followed p is low count frames frame_text g later middle last handed (omega arith) within did run in
      record { files = read.files; has = read.has; images = read.images; so = (frames, read.so) }) in
      let so = came.so in
      let open_ = so.open_ in
      let start_is : start_at c b ≡ p.next = open_.is in
      let read = so.so.1 in
      let within = so.within in
      let at : p.next + count ≡ start_at c b + count = omega (arith, start_is) in (
        in_frame count
            (frames_of count followed p full (suc count) so.head so.opened open_ (omega (arith, within)) (one_more p count so.each read.there))
            (subst (λ (known : List ℕ). TookPrefix (and_then before.taken known) after.taken (frame s b.entries (start_at c b + count)))
            (printed_is p full count text start_is open_.full_is so.text_is)
            (subst (TookPrefix (and_then before.taken text) after.taken) (read.frame_is ∙ ap (frame s b.entries) at) took))
            (leaves_of (StandsAt c b (passed count)) came.files last came.has read.handed.stands),
        came.images,
      )

  -- ---- where a call was refused

  -- how a listing's refusal comes
  listing_cause : (count : ℕ) (first middle last : StoreView) (e : Refusal) → first.faults ≤ middle.faults → latest_calls.IsCaused middle last e → Leaves c b (passed count) last
      → Stops c b count first last e
  listing_cause count first middle last refusals.Memory wider cause left = (count, omega arith, omega arith, left)
  listing_cause count first middle last (refusals.StoreFault path) wider cause left =
      (rose_wider first.faults middle.faults last.faults wider cause, (count, omega arith, omega arith, left))
  listing_cause count first middle last e wider cause left = absurd cause

  listing_refused : (followed : IsFollowed b) (e : Refusal) (p : Place) (full : Bool) (text : List ℕ) (own : List Event) (first last : StoreView) (before after : SinkView)
      → Then (Opens s c p full text) (DidLatest (Err e)) own → Took full 0 text before after → IsRun b.files own first last
      → AnswersTable c b first last before after (Some e)
  listing_refused followed e p full text own first last before after calls took run =
      let came = in_turns (IsImage c b 0) (OpenHere laws c b k 0 followed p full text)
      (λ f. OpenHere laws c b k 0 followed p full text f × ((middle : StoreView) × (first.faults ≤ middle.faults) × latest_calls.IsCaused middle last e)) b.files own first last calls run
      (λ earlier middle. alone.opens_at laws c b k 0 followed p full text earlier first middle)
      (λ g open_ later middle did wider run.
      let found = follow.latest_at laws.readers g (history_of b) open_.stands.folder (Err e) later middle last did run in
      stays (IsImage c b 0) (λ f. OpenHere laws c b k 0 followed p full text f × ((middle : StoreView) × (first.faults ≤ middle.faults) × latest_calls.IsCaused middle last e)) g middle last
      (image_at c b 0 (passed 0) g (omega arith) open_.stands) (open_, (middle, wider, found.cause)) found.files) in
      let open_ = came.so.0 in
      let cause = came.so.1 in
      stops e 0 (
        frames_of 0 followed p full 0 text came.files open_ (omega arith) (λ id from below. absurd (omega (arith, from, below))),
        took_at p full 0 text before after open_.is open_.full_is open_.text_is took,
      ) (listing_cause 0 first cause.0 last e cause.1 cause.2 (leaves_of (StandsAt c b (passed 0)) came.files last came.has open_.stands)) came.images

  frame_cause : (followed : IsFollowed b) (p : Place) (count : ℕ) (g : Files) (frames : List ℕ) (first middle last : StoreView) (e : Refusal)
      → HandedHere laws c b k count followed p count frames g → start_at c b ≡ p.next → 1 ≤ p.next → p.next + count ≤ length b.entries → first.faults ≤ middle.faults
      → frame_calls.IsCaused g (p.next + count) middle last e → Leaves c b (passed count) last → Stops c b count first last e
  frame_cause followed p count g frames first middle last refusals.Memory handed is low within wider cause left = (count, omega arith, omega arith, left)
  frame_cause followed p count g frames first middle last (refusals.StoreFault path) handed is low within wider cause left =
      (rose_wider first.faults middle.faults last.faults wider cause, (count, omega arith, omega arith, left))
  frame_cause followed p count g frames first middle last (refusals.Expired gone) handed is low within wider (gone_is, none) left =
      let at : p.next + count ≡ start_at c b + count = omega (arith, is) in
      let from_one : 1 ≤ p.next + count = omega (arith, low) in
      let path_none : map.get g (path_of s (p.next + count)) ≡ None = ap (map.get g) (follow.path_is s (p.next + count) from_one) ∙ none in
      let first_none : map.get b.files (path_of s (p.next + count)) ≡ None = sym (still_there c b (passed count) g (p.next + count) handed.stands) ∙ path_none in
      let said : said_at g c.name ≡ Some (known_at (p.next + count)) = handed.stands.at ∙ ap (λ (n : ℕ). Some (known_at n)) (sym at) in
      let not_served : Contains (names_with (passed count) b.known c.name b.names) c.name → ⊥ =
      λ there. serves g s b.entries c.name (names_with (passed count) b.known c.name b.names) (p.next + count) handed.stands.folder handed.stands.settled there said from_one within none in (
        gone_is ∙ at,
        subst (λ (id : ℕ). id ≤ length b.entries) (sym (gone_is ∙ refl)) within,
        subst (λ (id : ℕ). map.get b.files (path_of s id) ≡ None) (sym gone_is) first_none,
        (λ unknown. not_served (joined_name b.known unknown)),
        (λ there. not_served (other_name b.known there)),
        left,
      )
    where
      joined_name : (known : Option ℕ) → known ≡ None → Contains (names_with (passed count) known c.name b.names) c.name
      joined_name None is = contains_first c.name b.names
      joined_name (Some next) is = absurd (some_not next is)
        where
          some_not : (next : ℕ) → Some next ≡ None → ⊥
          some_not next is = cc

      other_name : (known : Option ℕ) → Contains b.names c.name → Contains (names_with (passed count) known c.name b.names) c.name
      other_name None there = contains_first c.name b.names
      other_name (Some next) there = there
  frame_cause followed p count g frames first middle last e handed is low within wider cause left = absurd cause

  frame_refused : (followed : IsFollowed b) (e : Refusal) (p : Place) (full : Bool) (count : ℕ) (text : List ℕ) (own : List Event) (first last : StoreView)
      (before after : SinkView) → GoesOn s c p full count text (DidFrame s (p.next + count) (Err e)) own → Took full count text before after
      → IsRun b.files own first last → AnswersTable c b first last before after (Some e)
  frame_refused followed e p full count text own first last before after calls took run =
      let came = gone_on count followed p full count text (DidFrame s (p.next + count) (Err e)) (λ f. Stops c b count first last e) own first last (omega arith) calls run
      (λ g frames is low handed within later middle did wider run.
      let at : 1 ≤ p.next + count = omega (arith, low) in
      let of : follow.IsOf (history_of b) s = record { is = refl; tells = followed.0; declared = followed.1 } in
      let read = follow.frame_at laws.readers g (history_of b) handed.stands.folder s (p.next + count) (Err e) later middle last of at within did run in
      let left = leaves_of (StandsAt c b (passed count)) g last read.files.here handed.stands in
      stays (IsImage c b count) (λ f. Stops c b count first last e) g middle last (image_at c b count (passed count) g (omega arith) handed.stands)
      (frame_cause followed p count g frames first middle last e handed is low within wider read.cause left) read.files) in
      let so = came.so in
      let within = so.within in
      let open_ = so.open_ in
      stops e count (
        frames_of count followed p full count so.head so.opened open_ (omega (arith, within)) so.each,
        took_at p full count text before after open_.is open_.full_is so.text_is took,
      ) so.so came.images

  -- a move was refused behind its frame
  move_stops : (followed : IsFollowed b) (p : Place) (is : start_at c b ≡ p.next) (low : 1 ≤ p.next) (count : ℕ) (frames frame_text : List ℕ) (g f : Files) (first middle last : StoreView)
      (e : Refusal) → ReadHere laws c b k (suc count) followed p count frames frame_text g → p.next + count ≤ length b.entries → first.faults ≤ middle.faults
      → HasFiles f last → move_calls.IsCaused (moving_from c (place_at p count)) g middle last (Err e)
      → OthersRest (consumer_path c.name) g f × move_calls.ItLeaves (moving_from c (place_at p count)) (Err e) g f
      × StandsWith s b.entries (names_at c b (passed count)) f → Stops c b (suc count) first last e
  move_stops followed p is low count frames frame_text g f first middle last refusals.Memory read within wider has cause (others, rests, so) = (
    count,
    omega arith,
    omega arith,
    leaves_of (StandsAt c b (passed count)) f last has
        (alone.rested laws c b k (suc count) followed p is low count g f read.handed.stands others rests so),
  )
  move_stops followed p is low count frames frame_text g f first middle last (refusals.StoreFault path) read within wider has cause (others, inl rests, so) = (
    rose_wider first.faults middle.faults last.faults wider cause.1,
    (
      count,
      omega arith,
      omega arith,
      leaves_of (StandsAt c b (passed count)) f last has
          (alone.rested laws c b k (suc count) followed p is low count g f read.handed.stands others rests so),
    ),
  )
  move_stops followed p is low count frames frame_text g f first middle last (refusals.StoreFault path) read within wider has cause (others, inr moves, so) = (
    rose_wider first.faults middle.faults last.faults wider cause.1,
    (
      suc count,
      omega arith,
      omega arith,
      leaves_of (StandsAt c b (passed (suc count))) f last has
          (alone.moved laws c b k (suc count) followed p is low count g f within read.handed.stands others moves so),
    ),
  )
  move_stops followed p is low count frames frame_text g f first middle last (refusals.ConsumerMoved found) read within wider has cause so =
      absurd (cause.1 (sym cause.0 ∙ read.handed.bytes))
  move_stops followed p is low count frames frame_text g f first middle last e read within wider has cause so = absurd cause

  move_refused : (followed : IsFollowed b) (e : Refusal) (p : Place) (full : Bool) (count : ℕ) (text frame_text : List ℕ) (own : List Event) (first last : StoreView)
      (before after : SinkView)
      → GoesOn s c p full count text (Then (DidFrame s (p.next + count) (Ok frame_text)) (DidMove (moving_from c (place_at p count)) (Err e))) own
      → Took full (suc count) (text ++ frame_text) before after → IsRun b.files own first last → AnswersTable c b first last before after (Some e)
  move_refused followed e p full count text frame_text own first last before after calls took run =
      let came = gone_on (suc count) followed p full count text (Then (DidFrame s (p.next + count) (Ok frame_text)) (DidMove (moving_from c (place_at p count)) (Err e)))
      (λ f. Stops c b (suc count) first last e × (frame_text ≡ frame s b.entries (p.next + count)) × IsThere b (p.next + count)) own first last (omega arith) calls run
      (λ g frames is low handed within later middle did wider run.
      in_turns (IsImage c b (suc count)) (ReadHere laws c b k (suc count) followed p count frames frame_text)
      (λ f. Stops c b (suc count) first last e × (frame_text ≡ frame s b.entries (p.next + count)) × IsThere b (p.next + count)) g later middle last did run
      (λ earlier between does run. alone.frame_at laws c b k (suc count) followed p is low count frames frame_text g earlier middle between handed (omega arith) within does run)
      (λ h read rest between does more run.
      let moves = alone.moves_at laws c b k (suc count) followed p is low count frames frame_text h (Err e) rest between last read within does run in
      let files = files_of (λ f. OthersRest (consumer_path c.name) h f × move_calls.ItLeaves (moving_from c (place_at p count)) (Err e) h f
      × StandsWith s b.entries (names_at c b (passed count)) f) last moves.leaves in
      let far : first.faults ≤ between.faults = omega (arith, wider, more) in
      record {
        files = files.0;
        has = files.1;
        images = Extends-weaker (λ f. OthersRest (consumer_path c.name) h f
            × (ItRests (moving_from c (place_at p count)) h f ⊎ ItMoves (moving_from c (place_at p count)) h f) × StandsWith s b.entries (names_at c b (passed count)) f)
            (IsImage c b (suc count)) between.ops last.ops
            (λ f image. alone.image_moved laws c b k (suc count) followed p is low count h f (omega arith) within read.handed.stands image) moves.images;
        so = (
          move_stops followed p is low count frames frame_text h files.0 first between last e read within far files.1 moves.cause files.2,
          read.frame_is,
          read.there,
        );
      })) in
      let so = came.so in
      let within = so.within in
      let open_ = so.open_ in
      let more : text ++ frame_text ≡ text_so_far s b.entries full p.next (suc count) =
      ap (λ (text : List ℕ). text ++ frame_text) so.text_is ∙ ap (λ (frame_text : List ℕ). text_so_far s b.entries full p.next count ++ frame_text) so.so.1
      ∙ push_frame full p.next count in
      stops e (suc count) (
        frames_of (suc count) followed p full (suc count) so.head so.opened open_ (omega (arith, within)) (one_more p count so.each so.so.2),
        took_at p full (suc count) (text ++ frame_text) before after open_.is open_.full_is more took,
      ) so.so.0 came.images
    where
      push_frame : (full : Bool) (start count : ℕ)
          → text_so_far s b.entries full start count ++ frame s b.entries (start + count) ≡ text_so_far s b.entries full start (suc count)
      push_frame full start count =
          ap (λ (text : List ℕ). text ++ frame s b.entries (start + count)) (sym (with_frames s b.entries full start count))
          ∙ append_assoc (text_so_far s b.entries full start 0) (frames_text s b.entries start count) (frame s b.entries (start + count))
          ∙ ap (λ (frames : List ℕ). text_so_far s b.entries full start 0 ++ frames) (sym (frames_push s b.entries start count))
          ∙ with_frames s b.entries full start (suc count)

  -- ---- before anything was printed

  record FirstRefused (first last : StoreView) (e : Refusal) : Type 0 where
    refuses_so : Refuses c b first last e
    images : Extends (IsImage c b 0) first.ops last.ops

  at_first_files : StandsAt c b untouched b.files
  at_first_files = begins c b k.folder k.settled

  image_begin : IsImage c b 0 b.files
  image_begin = image_at c b 0 untouched b.files tt at_first_files

  -- where the files stay as they are at first
  rest_refused : (first last : StoreView) (e : Refusal) → Stay b.files first last → (Leaves c b untouched last → Refuses c b first last e) → FirstRefused first last e
  rest_refused first last e stay leads = record {
    refuses_so = leads (leaves_of (StandsAt c b untouched) b.files last stay.here at_first_files);
    images = Extends-weaker (λ g. g ≡ b.files) (IsImage c b 0) first.ops last.ops (λ g is. subst (IsImage c b 0) (sym is) image_begin) stay.images;
  }

  -- the reading of the schema, of which each refusal has its cause
  reader_cause : (first last : StoreView) (e : Refusal) → reader_calls.IsCaused (history_of b) first last e → Leaves c b untouched last → Refuses c b first last e
  reader_cause first last refusals.Memory cause left = (untouched, tt, left)
  reader_cause first last (refusals.StoreFault path) cause left = (cause, (untouched, tt, left))
  reader_cause first last refusals.NoTable cause left = absurd (table_not cause)
    where
      table_not : history_of b ≡ no_table → ⊥
      table_not is = cc
  reader_cause first last e cause left = absurd cause

  schema_refused : (e : Refusal) (own : List Event) (first last : StoreView) → ShowsSchema e own → IsRun b.files own first last → FirstRefused first last e
  schema_refused e own first last (of_reader shows) run =
      let stay = stayed b.files own first last (shows_calls e own shows) run.trace run.alone run.has in
      rest_refused first last e stay.0
      (reader_cause first last e (shows_at b.files (history_of b) k.folder first last e own shows stay.1 run.trace))
  schema_refused e own first last (of_producer t none is did) run =
      let so = follow.schema_at laws.readers b.files (history_of b) k.folder t own first last did run in
      rest_refused first last e so.0
      (λ left. subst (Refuses c b first last) (sym is) (subst (λ (t : TableSchema). t.options.producer ≡ producers.None) (sym so.1) none, left))

  -- a call that only reads, or a refusal of it, where nobody touched the file yet
  reads_cause : (first middle last : StoreView) (e : Refusal) → first.faults ≤ middle.faults → latest_calls.IsCaused middle last e → Leaves c b untouched last
      → Refuses c b first last e
  reads_cause first middle last refusals.Memory wider cause left = (untouched, tt, left)
  reads_cause first middle last (refusals.StoreFault path) wider cause left =
      (rose_wider first.faults middle.faults last.faults wider cause, (untouched, tt, left))
  reads_cause first middle last e wider cause left = absurd cause

  came_refused : (first last : StoreView) (e : Refusal) → Came (IsImage c b 0) (λ f. Refuses c b first last e) first last → FirstRefused first last e
  came_refused first last e came = record { refuses_so = came.so; images = came.images }

  -- the files were as they are at first when a call was refused that only reads
  read_refused : (first middle last : StoreView) (e : Refusal) (g : Files) → g ≡ b.files → first.faults ≤ middle.faults → Stay g middle last
      → latest_calls.IsCaused middle last e → Came (IsImage c b 0) (λ f. Refuses c b first last e) middle last
  read_refused first middle last e g same wider stay cause =
      let here = subst (λ (g : Files). Stay g middle last) same stay in
      stays (IsImage c b 0) (λ f. Refuses c b first last e) b.files middle last image_begin
      (reads_cause first middle last e wider cause (leaves_of (StandsAt c b untouched) b.files last here.here at_first_files)) here

  file_refused : (followed : IsFollowed b) (e : Refusal) (own : List Event) (first last : StoreView) → Then (HasSchema s) (DidFind c.name (Err e)) own
      → IsRun b.files own first last → FirstRefused first last e
  file_refused followed e own first last calls run = came_refused first last e
      (in_turns (IsImage c b 0) (λ f. f ≡ b.files) (λ f. Refuses c b first last e) b.files own first last calls run
      (λ earlier middle did run. stays (IsImage c b 0) (λ f. f ≡ b.files) b.files first middle image_begin refl
      (follow.has_at laws.readers b.files (history_of b) k.folder s earlier first middle did run).0)
      (λ g same later middle did wider run.
      let here = subst (λ (g : Files). IsRun g later middle last) same run in
      let so = at_first (λ first after. (f : Files) (h : History) → HasFiles f first → Folder f h → FindsConsumer c.name f first after (Err e)) b.files later middle last here
      (laws.found c.name (Err e) middle last (later, did, here.trace)) b.files (history_of b) here.has k.folder in
      read_refused first middle last e g same wider (subst (λ (f : Files). Stay f middle last) (sym same) so.files) so.cause))

  first_listing_refused : (followed : IsFollowed b) (found : Option (List ℕ)) (e : Refusal) (own : List Event) (first last : StoreView)
      → Then (FindsUnsettled s c found) (DidLatest (Err e)) own → IsRun b.files own first last → FirstRefused first last e
  first_listing_refused followed found e own first last calls run = came_refused first last e
      (in_turns (IsImage c b 0) (λ f. (f ≡ b.files) × (found ≡ map.get b.files (consumer_path c.name)) × IsUnregistered found × (b.known ≡ None))
      (λ f. Refuses c b first last e) b.files own first last calls run
      (λ earlier middle. alone.unsettled_at laws c b k 0 followed found earlier first middle)
      (λ g (same, found_is, unregistered, none) later middle did wider run.
      let here = subst (λ (g : Files). IsRun g later middle last) same run in
      let so = follow.latest_at laws.readers b.files (history_of b) k.folder (Err e) later middle last did here in
      read_refused first middle last e g same wider (subst (λ (f : Files). Stay f middle last) (sym same) so.files) so.cause))

  start_refused : (followed : IsFollowed b) (found : Option (List ℕ)) (id latest : ℕ) (e : Refusal) (own : List Event) (first last : StoreView) → c.from ≡ Some id
      → suc latest < id → e ≡ refusals.NoSnapshot id latest → Then (FindsUnsettled s c found) (DidLatest (Ok latest)) own → IsRun b.files own first last
      → FirstRefused first last e
  start_refused followed found id latest e own first last asked above is calls run = came_refused first last e
      (in_turns (IsImage c b 0) (λ f. (f ≡ b.files) × (found ≡ map.get b.files (consumer_path c.name)) × IsUnregistered found × (b.known ≡ None))
      (λ f. Refuses c b first last e) b.files own first last calls run
      (λ earlier middle. alone.unsettled_at laws c b k 0 followed found earlier first middle)
      (λ g (same, found_is, unregistered, none) later middle did wider run.
      let here = subst (λ (g : Files). IsRun g later middle last) same run in
      let so = follow.latest_at laws.readers b.files (history_of b) k.folder (Ok latest) later middle last did here in
      stays (IsImage c b 0) (λ f. Refuses c b first last e) b.files middle last image_begin
      (subst (Refuses c b first last) (sym is)
      (followed, none, asked, so.latest, above, leaves_of (StandsAt c b untouched) b.files last so.files.here at_first_files)) so.files))

  registering_cause : (followed : IsFollowed b) (found : Option (List ℕ)) (start : ℕ) (here : StartsHere laws c b k 0 followed found start) (first middle last : StoreView)
      (e : Refusal) (f : Files) → first.faults ≤ middle.faults → HasFiles f last → register_calls.IsCaused (registering c.name found start) b.files middle last (Err e)
      → IsLeft (registering c.name found start) s b.entries b.names b.files f
      → LeavesAt (registering c.name found start) (Err e) (map.get f (consumer_path c.name)) → Refuses c b first last e
  registering_cause followed found start here first middle last refusals.Memory f wider has cause left (inl same) =
      (untouched, tt, leaves_of (StandsAt c b untouched) f last has (alone.at_found laws c b k 0 followed found start here f left same))
  registering_cause followed found start here first middle last refusals.Memory f wider has cause left (inr put) =
      (fresh, tt, leaves_of (StandsAt c b fresh) f last has (alone.at_new laws c b k 0 followed found start here f left put))
  registering_cause followed found start here first middle last (refusals.StoreFault path) f wider has cause left (inl (inl same)) = (
    rose_wider first.faults middle.faults last.faults wider cause,
    (untouched, tt, leaves_of (StandsAt c b untouched) f last has (alone.at_found laws c b k 0 followed found start here f left same)),
  )
  registering_cause followed found start here first middle last (refusals.StoreFault path) f wider has cause left (inl (inr put)) = (
    rose_wider first.faults middle.faults last.faults wider cause,
    (fresh, tt, leaves_of (StandsAt c b fresh) f last has (alone.at_new laws c b k 0 followed found start here f left put)),
  )
  registering_cause followed found start here first middle last (refusals.StoreFault path) f wider has cause left (inr put) = (
    rose_wider first.faults middle.faults last.faults wider cause,
    (passed 0, omega arith, leaves_of (StandsAt c b (passed 0)) f last has (alone.at_known laws c b k 0 followed found start here f left put)),
  )
  registering_cause followed found start here first middle last (refusals.BelowFloor next floor) f wider has (is, most) left put =
      let next_is : next ≡ start_at c b = is ∙ sym here.is in (
        followed,
        here.none,
        next_is,
        subst (λ (n : ℕ). n ≤ suc (length b.entries)) (sym is) here.high,
        most,
        leaves_of (StandsAt c b fresh) f last has (alone.at_new laws c b k 0 followed found start here f left put),
      )
  registering_cause followed found start here first middle last e f wider has cause left put = absurd put

  registering_refused : (followed : IsFollowed b) (found : Option (List ℕ)) (start : ℕ) (e : Refusal) (own : List Event) (first last : StoreView)
      → Then (Starts s c found start) (DidRegister (registering c.name found start) (Err e)) own → IsRun b.files own first last → FirstRefused first last e
  registering_refused followed found start e own first last calls run = came_refused first last e
      (in_turns (IsImage c b 0) (λ f. (f ≡ b.files) × StartsHere laws c b k 0 followed found start) (λ f. Refuses c b first last e) b.files own first last calls run
      (λ earlier middle. alone.starts_at laws c b k 0 followed found start earlier first middle)
      (λ g (same, here) later middle did wider run.
      let run_here = subst (λ (g : Files). IsRun g later middle last) same run in
      let so = alone.registers_at laws c b k 0 followed found start here (Err e) later middle last did run_here in
      let came = alone.left_at laws c b k 0 followed found start here
      (λ f. IsLeft (registering c.name found start) s b.entries b.names b.files f × LeavesAt (registering c.name found start) (Err e) (map.get f (consumer_path c.name)))
      (Err e) middle last so (λ f left put. (left, put)) in
      record {
        files = came.files;
        has = came.has;
        images = came.images;
        so = registering_cause followed found start here first middle last e came.files wider came.has so.cause came.so.0 came.so.1;
      }))

  table_cause : (followed : IsFollowed b) (start : ℕ) (g : Files) (first middle last : StoreView) (e : Refusal) → JoinedHere laws c b k 0 followed start g → c.full ≡ true
      → first.faults ≤ middle.faults → scanner.IsCaused g s (history_of b) (Some (start - 1)) middle last e → Leaves c b (passed 0) last → Refuses c b first last e
  table_cause followed start g first middle last refusals.Memory here asked wider cause left = (passed 0, omega arith, left)
  table_cause followed start g first middle last (refusals.StoreFault path) here asked wider cause left =
      (rose_wider first.faults middle.faults last.faults wider cause, (passed 0, omega arith, left))
  table_cause followed start g first middle last (refusals.NoSnapshot id latest) here asked wider (at, newest, above) left =
      let same : start - 1 ≡ id = cc in
      let high = here.high in
      absurd (omega (arith, same, newest, high, above))
  table_cause followed start g first middle last (refusals.Expired id) here asked wider (at, within, none) left =
      let same : start - 1 ≡ id = cc in (
        (
          followed,
          λ unknown. (
            subst (λ (n : ℕ). n ≤ suc (length b.entries)) (sym here.is) here.high,
            subst (NoneExceeds b.files) (sym here.is) here.floors,
          ),
        ),
        here.none,
        asked,
        sym same ∙ ap (λ (start : ℕ). start - 1) (sym here.is),
        sym (still_there c b (passed 0) g id here.stands) ∙ none,
        left,
      )
  table_cause followed start g first middle last e here asked wider cause left = absurd cause

  table_refused : (followed : IsFollowed b) (start : ℕ) (e : Refusal) (own : List Event) (first last : StoreView) → c.full ≡ true
      → Then (Joins s c start) (DidTable s start (Err e)) own → IsRun b.files own first last → FirstRefused first last e
  table_refused followed start e own first last asked calls run = came_refused first last e
      (in_turns (IsImage c b 0) (JoinedHere laws c b k 0 followed start) (λ f. Refuses c b first last e) b.files own first last calls run
      (λ earlier middle. alone.joins_at laws c b k 0 followed start earlier first middle)
      (λ g here later middle did wider run. by g here later middle wider run did))
    where
      of : follow.IsOf (history_of b) s
      of = record { is = refl; tells = followed.0; declared = followed.1 }

      by : (g : Files) → JoinedHere laws c b k 0 followed start g → (later : List Event) (middle : StoreView) → first.faults ≤ middle.faults → IsRun g later middle last
          → DidTable s start (Err e) later → Came (IsImage c b 0) (λ f. Refuses c b first last e) middle last
      by g here later middle wider run (inl ends) =
          let scan = follow.scan_at laws.readers g (history_of b) here.stands.folder s (start - 1) (Err e) later middle last of ends run in
          stays (IsImage c b 0) (λ f. Refuses c b first last e) g middle last (image_at c b 0 (passed 0) g (omega arith) here.stands)
          (table_cause followed start g first middle last e here asked wider scan.cause (leaves_of (StandsAt c b (passed 0)) g last scan.files.here here.stands)) scan.files
      by g here later middle wider run (inr (memory, rows, ends)) =
          let scan = follow.scan_at laws.readers g (history_of b) here.stands.folder s (start - 1) (Ok rows) later middle last of ends run in
          stays (IsImage c b 0) (λ f. Refuses c b first last e) g middle last (image_at c b 0 (passed 0) g (omega arith) here.stands)
          (subst (Refuses c b first last) (sym memory) (passed 0, omega arith, leaves_of (StandsAt c b (passed 0)) g last scan.files.here here.stands)) scan.files

  -- ---- with the schema that was read

  -- the schema that calls begin with is the table's
  followed_by : (t : TableSchema) (own : List Event) (first last : StoreView) → Then (HasSchema t) (λ later. Unit {0}) own → IsRun b.files own first last
      → (s ≡ t) × IsFollowed b
  followed_by t own first last calls run =
      let so = alone.schema_is laws c b k 0 t own first last calls run in
      (so.0, (subst TellsChanges (sym so.0) so.1, subst IsDeclared (sym so.0) so.2))

  refused_first_at : (e : Refusal) (own : List Event) (first last : StoreView) → ShowsFirst c e own → IsRun b.files own first last → FirstRefused first last e
  refused_first_at e own first last (of_schema shows) run = schema_refused e own first last shows run
  refused_first_at e own first last (of_file t (earlier, later, did, does, is)) run =
      let so = followed_by t own first last (earlier, later, did, tt, is) run in
      file_refused so.1 e own first last (subst (λ (t : TableSchema). Then (HasSchema t) (DidFind c.name (Err e)) own) (sym so.0) (earlier, later, did, does, is)) run
  refused_first_at e own first last (of_listing t found calls) run =
      let so = followed_by t own first last (first_of (HasSchema t) own calls (unsettled_first t c found)) run in
      first_listing_refused so.1 found e own first last (subst (λ (t : TableSchema). Then (FindsUnsettled t c found) (DidLatest (Err e)) own) (sym so.0) calls) run
  refused_first_at e own first last (of_start t found id latest asked above is calls) run =
      let so = followed_by t own first last (first_of (HasSchema t) own calls (unsettled_first t c found)) run in
      start_refused so.1 found id latest e own first last asked above is
      (subst (λ (t : TableSchema). Then (FindsUnsettled t c found) (DidLatest (Ok latest)) own) (sym so.0) calls) run
  refused_first_at e own first last (of_registering t found start calls) run =
      let so = followed_by t own first last (first_of (HasSchema t) own calls (starts_first t c found start)) run in
      registering_refused so.1 found start e own first last
      (subst (λ (t : TableSchema). Then (Starts t c found start) (DidRegister (registering c.name found start) (Err e)) own) (sym so.0) calls) run
  refused_first_at e own first last (of_table t start asked calls) run =
      let so = followed_by t own first last (first_of (HasSchema t) own calls (joins_first t c start)) run in
      table_refused so.1 start e own first last asked (subst (λ (t : TableSchema). Then (Joins t c start) (DidTable t start (Err e)) own) (sym so.0) calls) run

  pub answers : (own : List Event) (first last : StoreView) (before after : SinkView) (answer : Option Refusal) → Ends c before after own answer → IsRun b.files own first last
      → AnswersTable c b first last before after answer
  answers own first last before after answer (all t p full count text calls took) run =
      let so = followed_by t own first last (first_of (HasSchema t) own calls.4 (lists_first t c p full calls.1 calls.0)) run in
      all_at so.1 p full count text own first last before after (subst (λ (t : TableSchema). HandsOutAll t c p full count text own) (sym so.0) calls) took run
  answers own first last before after answer (fails_table t p text opens failed took) run =
      let so = followed_by t own first last (opens_first t c p true text own opens) run in
      let broke = table_failed so.1 p text own first last before after (subst (λ (t : TableSchema). Opens t c p true text own) (sym so.0) opens) took run in
      breaks_off 0 broke.0 failed broke.1
  answers own first last before after answer (fails_frame t p full count text frame_text calls failed took) run =
      let so = followed_by t own first last (first_of (HasSchema t) own calls.4 (lists_first t c p full calls.1 calls.0)) run in
      let broke = frame_failed so.1 p full count text frame_text own first last before after
      (subst (λ (t : TableSchema). GoesOn t c p full count text (DidFrame t (p.next + count) (Ok frame_text)) own) (sym so.0) calls) took run in
      breaks_off count broke.0 failed broke.1
  answers own first last before after answer (refused_first e shows same) run =
      let so = refused_first_at e own first last shows run in
      refuses e so.refuses_so same so.images
  answers own first last before after answer (refused_listing e t p full text calls took) run =
      let so = followed_by t own first last (first_of (HasSchema t) own calls (opens_first t c p full text)) run in
      listing_refused so.1 e p full text own first last before after (subst (λ (t : TableSchema). Then (Opens t c p full text) (DidLatest (Err e)) own) (sym so.0) calls) took run
  answers own first last before after answer (refused_frame e t p full count text calls took) run =
      let so = followed_by t own first last (first_of (HasSchema t) own calls.4 (lists_first t c p full calls.1 calls.0)) run in
      frame_refused so.1 e p full count text own first last before after
      (subst (λ (t : TableSchema). GoesOn t c p full count text (DidFrame t (p.next + count) (Err e)) own) (sym so.0) calls) took run
  answers own first last before after answer (refused_move e t p full count text frame_text calls took) run =
      let so = followed_by t own first last (first_of (HasSchema t) own calls.4 (lists_first t c p full calls.1 calls.0)) run in
      move_refused so.1 e p full count text frame_text own first last before after
      (subst (λ (t : TableSchema). GoesOn t c p full count text (Then (DidFrame t (p.next + count) (Ok frame_text)) (DidMove (moving_from c (place_at p count)) (Err e))) own)
      (sym so.0) calls) took run
