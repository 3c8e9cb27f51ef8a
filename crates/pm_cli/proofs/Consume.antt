-- The promise of `follow --consumer`.
use Rattle.std.proofs.Common.{◌≡◌, ◌≢◌, ◌⊎◌, ◌+◌, ◌≤◌, ℕ, suc, Bool, true, false, true≢false, List, [], ◌∷◌, ◌++◌, length, append-nil, append_assoc, Option, None, Some, inl, inr, refl, sym, subst, ap, ◌∙◌, arith}
use Rattle.std.specs.FinMap as map
use Rattle.std.specs.Str.{bytes_eq}
use Rattle.std.proofs.lemmas.Slice.Eq.{bytes_eq-Decides}
use Rattle.pm_base.specs.Known.{and_then}
use Rattle.pm_values.specs.declared.refusal.Refusal.{Refusal}
use Rattle.pm_values.specs.declared.refusal.Refusal.TheVariants as refusals
use Rattle.pm_io.specs.Sink.{SinkView}
use Rattle.pm_store.specs.Files.{Files}
use Rattle.pm_store.specs.Images.{Extends}
use Rattle.pm_store.specs.Store.{StoreView}
use Rattle.pm_store.proofs.ImageLaws.{Extends-weaker}
use Rattle.pm_schema.specs.Again.{IsDeclared}
use Rattle.pm_schema.specs.declared.schema.TableSchema.{TableSchema}
use Rattle.pm_partitions.proofs.Plain.{plain_names}
use Rattle.pm_model_consumers.specs.Claims.{Said, known_at, new_at}
use Rattle.pm_model_history.specs.History.{Entry, History, no_table, table}
use Rattle.pm_model_folder.specs.Changes.{Actor, HavePlainNames}
use Rattle.pm_model_folder.specs.Commits.{Names}
use Rattle.pm_model_folder.specs.Consumers.{said_at, said_in}
use Rattle.pm_model_folder.specs.Folder.{Folder, HaveSettled}
use Rattle.pm_model_folder.specs.Paths.{consumer_path, snapshot_path}
use Rattle.pm_model_folder.proofs.BesideLemmas.{needs-no_consumer}
use Rattle.pm_model_folder.proofs.HoldLemmas.{SameContents}
use Rattle.pm_create.specs.Making.{LeavesFiles}
use Rattle.pm_words.specs.declared.command.Command.TheVariants as commands
use Rattle.pm_command.specs.Outside.{HaveSame}
use Rattle.pm_command_consume.specs.Alone.{AnswersNone, AnswersTable, Beginning, Begins, BreaksOff, ConsumesFrom, HasJoined, IsImage, IsWithin, PrintsFrames, Refuses, RefusesNone, Stage, StandsAt, Stops, breaks_off, frames_at, fresh, in_frame, in_table, names_with, passed, printed_at, prints, refuses, settled_at, settled_in, start_after, start_at, stops, untouched}
use Rattle.pm_command_consume.specs.Consume.{consuming}
use Rattle.pm_command_consume.specs.declared.consuming.Consuming.{Consuming}
use Rattle.pm_command_follow.proofs.TextLemmas.{and_then_twice, follow_split, text_push, took_behind, took_longer}
use Rattle.pm_cli.specs.InTurn.{IsExecuted}
use Rattle.pm_cli.specs.Promise.{ArePrinted, MayBecome, Does, Execution, HasMade, Keeps, KeepsIt, LeavesOwn, StopsOwn, StandsForOthers, consumes, found_by}
use Rattle.pm_cli.specs.Start.{IsNew, PrintsPieces, consumed_text, frames_after, pieces_of}
use Rattle.pm_cli.proofs.Common.{NotSink, StandsForSomeFreely, any_both, any_here, extends_each, extends_end, leaves_both, leaves_weaker, makes_nothing, none_made, with_command}
use Rattle.pm_cli.proofs.Resting.{SameStarts, new_same, resting}

-- ---- what a file says

said-next : (a b : Said) → Some a ≡ Some b → a.next ≡ b.next
said-next a b is = cc

said-fresh : (a b : Said) → Some a ≡ Some b → a.fresh ≡ b.fresh
said-fresh a b is = cc

module _ (from : Option ℕ) (name : List ℕ) (full : Bool) (e : Execution) where
  abbrev it : Execution
  it = with_command (commands.Follow from (Some name) full) e

  abbrev c : Consuming
  c = consuming name from full

  abbrev out : SinkView
  out = e.before.out

  abbrev out_after : SinkView
  out_after = e.after.out

  abbrev after : StoreView
  after = e.after.store

  -- ---- no table

  none_not : (first : StoreView) (refusal : Refusal) → RefusesNone first after refusal → NotSink refusal
  none_not first (refusals.SinkFault snapshot) may = absurd may
  none_not first refusal may = tt

  nothing_kept : SameStarts → (first : StoreView) → found_by e ≡ first → AnswersNone first after out out_after e.refusal → KeepsIt it no_table first
  nothing_kept law first found was =
      resting law it no_table first
      (subst (λ (answer : Option Refusal). HasMade it no_table answer no_table) (sym was.is)
      (makes_nothing it no_table was.refusal (none_not first was.refusal was.cause) was.out))
      was.rests was.images
      (λ f. (subst (λ (answer : Option Refusal). LeavesOwn e.start (commands.Follow from (Some name) full) no_table answer first f) (sym was.is) tt, tt))

  -- ---- a table

  module _ (s : TableSchema) (es : List Entry) (f : Files) (folder : Folder f (table s es)) where
    abbrev h : History
    h = table s es

    abbrev first : StoreView
    first = found_by e

    -- what it begins with, where these are settled at first
    abbrev b_of : List (List ℕ) → Beginning
    b_of names = record { schema = s; entries = es; names = names; files = f; known = settled_at f name }

    abbrev b : Beginning
    b = b_of []

    abbrev Answers : List (List ℕ) → Option Refusal → Type 0
    Answers names answer = AnswersTable c (b_of names) first after out out_after answer

    abbrev whole : List ℕ
    whole = consumed_text s es (settled_at f name) from full

    -- what was printed so far is a prefix of all
    in_whole : (count : ℕ) → count ≤ frames_at c b → (rest : List ℕ) × (whole ≡ printed_at c b count ++ rest)
    in_whole count within = follow_split s es _ (start_at c b) count (frames_at c b) within

    module _ (here : (T : Files → Type 0) → T f → LeavesFiles T first) where
      -- what is so of the files at first is so of these
      back : (T : Files → Type 0) → LeavesFiles T first → T f
      back T has = any_both (λ g. g ≡ f) T (T f) first (λ g same is. subst T same is) (here (λ g. g ≡ f) refl) has

      begins : (names : List (List ℕ)) → HaveSettled f h names → LeavesFiles (Begins c (b_of names)) first
      begins names settled = here (Begins c (b_of names)) (record { files = refl; folder = folder; settled = settled; known = refl })

      -- ---- what it made

      does : HasJoined c b → Does e.start e.input (found_by e) (commands.Follow from (Some name) full) h h whole
      does joined =
          consumes name from (settled_at f name) full s es (here (λ g. settled_at g name ≡ settled_at f name) refl) joined.0.0
          (λ none. (joined.0.0, subst (λ (known : Option ℕ). start_after known from (length es) ≤ suc (length es)) none (joined.1 none).0))

      broken : (count : ℕ) → BreaksOff c b after out out_after count → HasMade it h (Some (refusals.SinkFault None)) h
      broken count (in_table has is took leaves) =
          let rest = in_whole 0 (omega arith) in
          (whole, does has.joined, took_longer out.taken out_after.taken (printed_at c b 0) whole rest.0 rest.1 took, none_made h)
      broken count (in_frame n has took leaves) =
          let rest = in_whole (suc n) has.within in
          let more : printed_at c b (suc n) ≡ printed_at c b n ++ _ = text_push s es _ (start_at c b) n in (
            whole,
            does has.joined,
            took_longer out.taken out_after.taken _ whole rest.0 (rest.1 ∙ ap (λ (text : List ℕ). text ++ rest.0) more)
                (took_behind out.taken out_after.taken (printed_at c b n) _ took),
            none_made h,
          )

      refused_not : (refusal : Refusal) → Refuses c b first after refusal → NotSink refusal
      refused_not (refusals.SinkFault snapshot) may = absurd may
      refused_not refusal may = tt

      pieces : (count : ℕ) → PrintsFrames c b count out out_after → PrintsPieces h name from full first out out_after
      pieces count (has, took) =
          inr (settled_at f name, here (λ g. settled_at g name ≡ settled_at f name) refl, (count, has.within, took.0))

      stopped : (refusal : Refusal) → PrintsPieces h name from full first out out_after → NotSink refusal → HasMade it h (Some refusal) h
      stopped refusal some not = makes_nothing it h refusal not some

      stops_not : (count : ℕ) (refusal : Refusal) → Stops c b count first after refusal → NotSink refusal
      stops_not count (refusals.SinkFault snapshot) may = absurd may
      stops_not count refusal may = tt

      makes : (answer : Option Refusal) → Answers [] answer → HasMade it h answer h
      makes answer (prints all leaves settled images) = (whole, does all.0.joined, all.1.0)
      makes answer (breaks_off count breaks failed images) = broken count breaks
      makes answer (refuses refusal may same images) = stopped refusal (inl same) (refused_not refusal may)
      makes answer (stops refusal count some may images) = stopped refusal (pieces count some) (stops_not count refusal may)

      -- ---- what stands in each image

      -- a stage, where these were settled
      abbrev Stands : List (List ℕ) → Files → Type 0
      Stands names g = (stage : Stage) × StandsAt c (b_of names) stage g

      abbrev WereSettled : List (List ℕ) → Type 0
      WereSettled names = LeavesFiles (λ was. HaveSettled was h names) first

      weaker : (names : List (List ℕ)) (most : ℕ) → Extends (IsImage c (b_of names) most) first.ops after.ops → Extends (Stands names) first.ops after.ops
      weaker names most = Extends-weaker (IsImage c (b_of names) most) (Stands names) first.ops after.ops (λ g is. (is.stage, is.stands))

      stand : (names : List (List ℕ)) (answer : Option Refusal) → Answers names answer → Extends (Stands names) first.ops after.ops
      stand names answer (prints all leaves settled images) = weaker names _ images
      stand names answer (breaks_off count breaks failed images) = weaker names _ images
      stand names answer (refuses refusal may same images) = weaker names _ images
      stand names answer (stops refusal count some may images) = weaker names _ images

      other-paths : (names : List (List ℕ)) (stage : Stage) (g : Files) → StandsAt c (b_of names) stage g → (path : List ℕ) → MayBecome it h f g path
      other-paths names stage g stands path = at (bytes_eq path (consumer_path name)) refl
        where
          at : (t : Bool) → bytes_eq path (consumer_path name) ≡ t → MayBecome it h f g path
          at true is = inr (inr (inr (inl ((bytes_eq-Decides path (consumer_path name)).0 is))))
          at false is = inl (stands.only path (λ same. true≢false (sym ((bytes_eq-Decides path (consumer_path name)).1 same) ∙ is)))

      -- where its file is as it was, all are
      all-same : (g : Files) → StandsAt c b untouched g → HaveSame f g
      all-same g stands path = at (bytes_eq path (consumer_path name)) refl
        where
          at : (t : Bool) → bytes_eq path (consumer_path name) ≡ t → map.get g path ≡ map.get f path
          at true is =
              let same : path ≡ consumer_path name = (bytes_eq-Decides path (consumer_path name)).0 is in
              ap (map.get g) same ∙ stands.at ∙ ap (map.get f) (sym same)
          at false is = stands.only path (λ same. true≢false (sym ((bytes_eq-Decides path (consumer_path name)).1 same) ∙ is))

      -- what a snapshot names then it named at first
      names-back : SameContents → (g : Files) → ((path : List ℕ) → path ≢ consumer_path name → map.get g path ≡ map.get f path) → (t : TableSchema)
          → HavePlainNames t → (id : ℕ) (path : List ℕ) → Names g t id path → Names f t id path
      names-back law g only t plain id path (x, parts, (at, has), named) =
          let needed : (other : List ℕ) → Names g t id other → other ≢ consumer_path name = λ other names. needs-no_consumer g t id other name plain (inr (inr names)) in
          let own : snapshot_path id ≢ consumer_path name = needs-no_consumer g t id (snapshot_path id) name plain (inl refl) in (
            x,
            parts,
            ((at.0, sym (only (snapshot_path id) own) ∙ at.1, at.2), law g f t x parts (λ other is. sym (only other (needed other (x, parts, (at, has), is)))) has),
            named,
          )

      written : SameContents → (other : Actor) (g : Files) → Folder g h → ((path : List ℕ) → path ≢ consumer_path name → map.get g path ≡ map.get f path)
          → IsDeclared s → IsNew other h f → IsNew other h g
      written law other g stands only declared new = record {
        folder = stands;
        origin = new.origin;
        names = λ t id path is low high named by.
            new.names t id path is low high
            (names-back law g only t (subst HavePlainNames is (plain_names s declared)) id path named) by;
      }

      new-at : SameStarts → SameContents → (other : Actor) (stage : Stage) (g : Files) → StandsAt c b stage g → IsNew other h f → IsNew other h g
      new-at starts law other untouched g stands new = new_same starts other h f g new (all-same g stands) stands.folder
      new-at starts law other fresh g stands new = written law other g stands.folder stands.only stands.declared new
      new-at starts law other (passed count) g stands new = written law other g stands.folder stands.only stands.declared new

      -- who was settled is
      of-names : (stage : Stage) (known : Option ℕ) (names : List (List ℕ)) (g : Files) → HaveSettled g h (names_with stage known name names) → HaveSettled g h names
      of-names untouched known names g have = have
      of-names fresh known names g have = have
      of-names (passed count) (Some next) names g have = have
      of-names (passed count) None names g have = λ other (k, within, at). have other (suc k, omega (arith, within), at)

      freely : SameStarts → SameContents → (g : Files) → Stands [] g → ((names : List (List ℕ)) → WereSettled names → Stands names g) → StandsForOthers it h first h g
      freely starts law g now each = record {
        folder = now.1.folder;
        changes = here (λ was. (path : List ℕ) → MayBecome it h was g path) (other-paths [] now.0 g now.1);
        free = λ other apart new. new-at starts law other now.0 g now.1 (back (IsNew other h) new);
        settled = λ names takes was.
            let stands = each names was in
            of-names stands.0 (settled_at f name) names g stands.1.settled;
      }

      -- ---- its own file

      known : LeavesFiles (λ g. Unit {0}) first
      known = here (λ g. Unit {0}) tt

      own-ends : (answer : Option Refusal) → Answers [] answer → LeavesFiles (LeavesOwn e.start (commands.Follow from (Some name) full) h answer first) after
      own-ends answer (prints all leaves settled images) =
          leaves_both (StandsAt c b (passed (frames_at c b))) (λ g. HaveSettled g h (name ∷ []))
          (LeavesOwn e.start (commands.Follow from (Some name) full) h None first) after
          (λ g stands have. (
            have,
            here (λ was. said_at g name ≡ Some (known_at (start_after (settled_at was name) from (length es) + frames_after es (settled_at was name) from)))
                stands.at,
          )) leaves settled
      own-ends answer (breaks_off count breaks failed images) = extends_end (λ g. Unit {0}) first after known (Extends-weaker (IsImage c b count) (λ g. Unit {0}) first.ops after.ops (λ g is. tt) images)
      own-ends answer (refuses refusal may same images) = extends_end (λ g. Unit {0}) first after known (Extends-weaker (IsImage c b 0) (λ g. Unit {0}) first.ops after.ops (λ g is. tt) images)
      own-ends answer (stops refusal count some may images) = extends_end (λ g. Unit {0}) first after known (Extends-weaker (IsImage c b count) (λ g. Unit {0}) first.ops after.ops (λ g is. tt) images)

      -- so many frames were printed whole, or none
      abbrev Printed : ℕ → Type 0
      Printed most = (most ≡ 0) ⊎ ((rest : List ℕ) × (out_after.taken ≡ and_then out.taken (printed_at c b most ++ rest)))

      abbrev IsBehind : ℕ → Type 0
      IsBehind count = (rest : List ℕ) × (out_after.taken ≡ and_then out.taken (printed_at c b count ++ rest))

      fewer : (most count : ℕ) → suc count ≤ most → Printed most → IsBehind (suc count)
      fewer most count within (inl none) = absurd (omega (arith, within, none))
      fewer most count within (inr (rest, took)) =
          let parts = follow_split s es _ (start_at c b) (suc count) most within in (
            parts.0 ++ rest,
            took ∙ ap (λ (text : List ℕ). and_then out.taken (text ++ rest)) parts.1
                ∙ ap (and_then out.taken) (append_assoc (printed_at c b (suc count)) parts.0 rest),
          )

      -- the consumer isn't past the start where its file is as it was
      at-first : (g : Files) (count : ℕ) → map.get g (consumer_path name) ≡ map.get f (consumer_path name)
          → said_at g name ≡ Some (known_at (start_at c b + suc count)) → ⊥
      at-first g count same is =
          let was : said_at f name ≡ Some (known_at (start_at c b + suc count)) = ap said_in (sym same) ∙ is in
          let start : start_at c b ≡ start_at c b + suc count = ap (λ (said : Option Said). start_after (settled_in said) from (length es)) was in
          omega (arith, start)

      passed-printed : (most : ℕ) → Printed most → (g : Files) (stage : Stage) → IsWithin most stage → StandsAt c b stage g → (count : ℕ)
          → said_at g name ≡ Some (known_at (start_at c b + suc count)) → IsBehind (suc count)
      passed-printed most some g untouched within stands count is = absurd (at-first g count stands.at is)
      passed-printed most some g fresh within stands count is =
          absurd (true≢false (said-fresh (new_at (start_at c b)) (known_at (start_at c b + suc count)) (sym stands.at.1 ∙ is)))
      passed-printed most some g (passed k) within stands count is =
          let next = said-next (known_at (start_at c b + k)) (known_at (start_at c b + suc count)) (sym stands.at ∙ is) in
          fewer most count (omega (arith, next, within)) some

      passes-by : (most : ℕ) → Printed most → Extends (IsImage c b most) first.ops after.ops → Extends (StopsOwn it (commands.Follow from (Some name) full) h first) first.ops after.ops
      passes-by most some =
          Extends-weaker (IsImage c b most) (ArePrinted it name from full h first) first.ops after.ops
          (λ g image. here (λ was. (count : ℕ) → said_at g name ≡ Some (known_at (start_after (settled_at was name) from (length es) + suc count))
          → (rest : List ℕ) × (out_after.taken ≡ and_then out.taken (pieces_of s es (settled_at was name) from full (suc count) ++ rest)))
          (passed-printed most some g image.stage image.within image.stands))

      printed-whole : (count : ℕ) → PrintsFrames c b count out out_after → Printed count
      printed-whole count (has, took) = inr ([], took.0 ∙ ap (and_then out.taken) (sym (append-nil (printed_at c b count))))

      in-part : (count : ℕ) → BreaksOff c b after out out_after count → Printed count
      in-part count (in_table has is took leaves) = inl refl
      in-part count (in_frame n has (prefix, rest, parts, took) leaves) = inr (prefix, took ∙ and_then_twice out.taken (printed_at c b n) prefix)

      passes : (answer : Option Refusal) → Answers [] answer → Extends (StopsOwn it (commands.Follow from (Some name) full) h first) first.ops after.ops
      passes answer (prints all leaves settled images) = passes-by (frames_at c b) (printed-whole (frames_at c b) all) images
      passes answer (breaks_off count breaks failed images) = passes-by count (in-part count breaks) images
      passes answer (refuses refusal may same images) = passes-by 0 (inl refl) images
      passes answer (stops refusal count some may images) = passes-by count (printed-whole count some) images

      -- ---- all of it

      table_kept : SameStarts → SameContents → ((b : Beginning) → LeavesFiles (Begins c b) first → AnswersTable c b first after out out_after e.refusal) → KeepsIt it h first
      table_kept starts law answers =
          let was : (names : List (List ℕ)) → HaveSettled f h names → Answers names e.refusal = λ names settled. answers (b_of names) (begins names settled) in
          let at = was [] (λ other (k, within, at). absurd (omega (arith, within))) in
          let each : (names : List (List ℕ)) → WereSettled names → Extends (Stands names) first.ops after.ops = λ names settled.
          stand names e.refusal (was names (back (λ was. HaveSettled was h names) settled)) in
          let all : Extends (λ g. Stands [] g × ((names : List (List ℕ)) → WereSettled names → Stands names g)) first.ops after.ops =
          extends_each (Stands []) WereSettled Stands first.ops after.ops (stand [] e.refusal at) each in record {
            later = h;
            makes = makes e.refusal at;
            ends = leaves_weaker (λ g. Stands [] g × ((names : List (List ℕ)) → WereSettled names → Stands names g)) (StandsForOthers it h first h) after
                (λ g is. freely starts law g is.0 is.1)
                (extends_end (λ g. Stands [] g × ((names : List (List ℕ)) → WereSettled names → Stands names g)) first after known all);
            own = own-ends e.refusal at;
            images = Extends-weaker (λ g. Stands [] g × ((names : List (List ℕ)) → WereSettled names → Stands names g)) (StandsForSomeFreely it h first)
                first.ops after.ops (λ g is. (h, inl refl, freely starts law g is.0 is.1)) all;
            stops = passes e.refusal at;
          }

pub keeps : SameStarts → SameContents → (from : Option ℕ) (name : List ℕ) (full : Bool) (e : Execution) → IsExecuted (with_command (commands.Follow from (Some name) full) e)
    → Keeps (with_command (commands.Follow from (Some name) full) e)
keeps starts law from name full e is = λ alone h stands input. by h stands (is.history alone)
  where
    by : (h : History) → LeavesFiles (λ f. Folder f h) (found_by e) → ConsumesFrom (consuming name from full) e.before.out e.after.out e.refusal (found_by e) e.after.store
        → KeepsIt (with_command (commands.Follow from (Some name) full) e) h (found_by e)
    by no_table stands was = nothing_kept from name full e starts (found_by e) refl (was.none stands)
    by (table s es) stands was =
        any_here (λ f. Folder f (table s es)) (KeepsIt (with_command (commands.Follow from (Some name) full) e) (table s es) (found_by e)) (found_by e)
        (λ f folder here. table_kept from name full e s es f folder here starts law was.table) stands
