-- What the calls of a following with a consumer say of each history that stands at the first of them, where nobody else acts.
use Rattle.std.proofs.Common.{◌≡◌, List, true, Option, Some, refl, ap, subst, ◌∙◌}
use Rattle.pm_values.specs.declared.refusal.Refusal.{Refusal}
use Rattle.pm_values.specs.declared.refusal.Refusal.TheVariants as refusals
use Rattle.pm_io.specs.Sink.{SinkView}
use Rattle.pm_store.specs.Files.{Files}
use Rattle.pm_store.specs.Store.{StoreView, at_first_own}
use Rattle.pm_store.proofs.StepLaws.{alone_parts}
use Rattle.pm_machine.specs.Trace.{Event, Traces}
use Rattle.pm_machine.proofs.AloneLaws.{Traces-first, Traces-later}
use Rattle.pm_schema.specs.declared.schema.TableSchema.{TableSchema}
use Rattle.pm_model_history.specs.History.{no_table}
use Rattle.pm_model_folder.specs.Folder.{Folder, HaveSettled}
use Rattle.pm_command.proofs.TableLemmas.{files_of, images_rest, rests_of}
use Rattle.pm_read_schema.specs.AllCalls.{HasFiles, Stay}
use Rattle.pm_read_schema.specs.AllCalls as reader_calls
use Rattle.pm_read_schema.proofs.AllCallsLemmas.{shows_at, shows_calls}
use Rattle.pm_read_schema.proofs.StillLemmas.{stayed}
use Rattle.pm_command_follow.specs.Follow.{HasSchema, ShowsSchema, Then, of_producer, of_reader}
use Rattle.pm_command_follow.proofs.JoinLemmas.{IsRun, Traces-split}
use Rattle.pm_command_follow.proofs.HistoryLemmas as follow
use Rattle.pm_command_consume.specs.Alone.{AnswersNone, Begins, ConsumesAny, RefusesNone, history_of, settled_at}
use Rattle.pm_command_consume.specs.Consume.{Ends, HasConsumed, IsConsuming, ShowsFirst, all, fails_frame, fails_table, of_file, of_listing, of_registering, of_schema, of_start, of_table, refused_first, refused_frame, refused_listing, refused_move}
use Rattle.pm_command_consume.specs.declared.consuming.Consuming.{Consuming}
use Rattle.pm_command_consume.proofs.AloneLemmas.{Laws, first_of, joins_first, lists_first, opens_first, starts_first, unsettled_first}
use Rattle.pm_command_consume.proofs.AnswerLemmas.{answers}

-- ---- where there is no table

module _ (laws : Laws) (c : Consuming) (f : Files) (folder : Folder f no_table) where
  -- no schema is read
  no_schema : (t : TableSchema) (own : List Event) (first last : StoreView) → Then (HasSchema t) (λ later. Unit {0}) own → IsRun f own first last → ⊥
  no_schema t own first last (earlier, later, did, any_so, is) run =
      let parts = Traces-split earlier later first last (subst (λ (own : List Event). Traces own first last) is run.trace) in
      let early = Traces-later earlier first parts.0 parts.1 in
      let late = Traces-later later parts.0 last parts.2 in
      let alone = alone_parts first parts.0 last early late run.alone in
      let so = follow.has_at laws.readers f no_table folder t earlier first parts.0 did (record { trace = parts.1; alone = alone.0; has = run.has }) in
      so.1.is

  rests_none : (e : Refusal) (first last : StoreView) (before after : SinkView) → HasFiles f first → Stay f first last → RefusesNone first last e → after ≡ before
      → AnswersNone first last before after (Some e)
  rests_none e first last before after has stay cause same = record {
    refusal = e;
    is = refl;
    cause = cause;
    out = same;
    rests = rests_of no_table f first last has stay.here folder;
    images = images_rest no_table f first last has folder stay.images;
  }

  reader_none : (first last : StoreView) (e : Refusal) → reader_calls.IsCaused no_table first last e → RefusesNone first last e
  reader_none first last refusals.Memory cause = tt
  reader_none first last (refusals.StoreFault path) cause = cause
  reader_none first last refusals.NoTable cause = tt
  reader_none first last e cause = absurd cause

  schema_none : (e : Refusal) (own : List Event) (first last : StoreView) (before after : SinkView) → ShowsSchema e own → after ≡ before → IsRun f own first last
      → AnswersNone first last before after (Some e)
  schema_none e own first last before after (of_reader shows) same run =
      let stay = stayed f own first last (shows_calls e own shows) run.trace run.alone run.has in
      rests_none e first last before after run.has stay.0 (reader_none first last e (shows_at f no_table folder first last e own shows stay.1 run.trace)) same
  schema_none e own first last before after (of_producer t none is did) same run =
      absurd (follow.schema_at laws.readers f no_table folder t own first last did run).1

  first_none : (e : Refusal) (own : List Event) (first last : StoreView) (before after : SinkView) → ShowsFirst c e own → after ≡ before → IsRun f own first last
      → AnswersNone first last before after (Some e)
  first_none e own first last before after (of_schema shows) same run = schema_none e own first last before after shows same run
  first_none e own first last before after (of_file t (earlier, later, did, does, is)) same run = absurd (no_schema t own first last (earlier, later, did, tt, is) run)
  first_none e own first last before after (of_listing t found calls) same run =
      absurd (no_schema t own first last (first_of (HasSchema t) own calls (unsettled_first t c found)) run)
  first_none e own first last before after (of_start t found id latest asked above is calls) same run =
      absurd (no_schema t own first last (first_of (HasSchema t) own calls (unsettled_first t c found)) run)
  first_none e own first last before after (of_registering t found start calls) same run =
      absurd (no_schema t own first last (first_of (HasSchema t) own calls (starts_first t c found start)) run)
  first_none e own first last before after (of_table t start asked calls) same run =
      absurd (no_schema t own first last (first_of (HasSchema t) own calls (joins_first t c start)) run)

  none_answers : (own : List Event) (first last : StoreView) (before after : SinkView) (answer : Option Refusal) → Ends c before after own answer → IsRun f own first last
      → AnswersNone first last before after answer
  none_answers own first last before after answer (all t p full count text calls took) run =
      absurd (no_schema t own first last (first_of (HasSchema t) own calls.4 (lists_first t c p full calls.1 calls.0)) run)
  none_answers own first last before after answer (fails_table t p text opens failed took) run =
      absurd (no_schema t own first last (opens_first t c p true text own opens) run)
  none_answers own first last before after answer (fails_frame t p full count text frame_text calls failed took) run =
      absurd (no_schema t own first last (first_of (HasSchema t) own calls.4 (lists_first t c p full calls.1 calls.0)) run)
  none_answers own first last before after answer (refused_first e shows same) run = first_none e own first last before after shows same run
  none_answers own first last before after answer (refused_listing e t p full text calls took) run =
      absurd (no_schema t own first last (first_of (HasSchema t) own calls (opens_first t c p full text)) run)
  none_answers own first last before after answer (refused_frame e t p full count text calls took) run =
      absurd (no_schema t own first last (first_of (HasSchema t) own calls.4 (lists_first t c p full calls.1 calls.0)) run)
  none_answers own first last before after answer (refused_move e t p full count text frame_text calls took) run =
      absurd (no_schema t own first last (first_of (HasSchema t) own calls.4 (lists_first t c p full calls.1 calls.0)) run)

-- ---- of each history

pub consumes : Laws → (c : Consuming) (out out_after : SinkView) (store store_after : StoreView) (answer : Option Refusal) → IsConsuming c
    → HasConsumed c out out_after store store_after answer → ConsumesAny c out out_after store store_after answer
consumes laws c out out_after store store_after answer asked (own, ends, trace) = λ alone.
    let first = at_first_own store store_after in
    let early = Traces-first own store store_after trace in
    record {
      none = λ stands.
          let files = files_of (λ f. Folder f no_table) first stands in
          none_answers laws c files.0 files.2 own first store_after out out_after answer ends (record { trace = early; alone = alone; has = files.1 });
      table = λ b stands.
          let files = files_of (Begins c b) first stands in
          let at = files.2 in
          answers laws c b
          (record {
            asked = asked;
            folder = subst (λ (f : Files). Folder f (history_of b)) at.files at.folder;
            settled = subst (λ (f : Files). HaveSettled f (history_of b) b.names) at.files at.settled;
            known = at.known ∙ ap (λ (f : Files). settled_at f c.name) at.files;
          }) own first store_after out out_after answer ends
          (record { trace = early; alone = alone; has = subst (λ (f : Files). HasFiles f first) at.files files.1 });
    }
