-- The calls of a following with a consumer show one answer: each of its machines has one end, where the next one begins.
use Rattle.std.proofs.Common.{◌≡◌, ◌⊎◌, inl, inr, ℕ, zero, suc, ◌+◌, ◌-◌, ◌<◌, ◌≤◌, Bool, true, false, List, [], ◌∷◌, ◌++◌, Option, None, Some, Result, Ok, Err, refl, sym, ap, subst, ◌∙◌, append-nil, append_assoc, arith}
use Rattle.std.specs.List.{AllByRecursion}
use Rattle.pm_values.specs.declared.refusal.Refusal.{Refusal}
use Rattle.pm_values.specs.declared.refusal.Refusal.TheVariants as refusals
use Rattle.pm_io.specs.Sink.{SinkView}
use Rattle.pm_store.specs.declared.answer.Answer.{Answer}
use Rattle.pm_store.specs.declared.answer.Answer.TheVariants as answers
use Rattle.pm_store.specs.declared.answer.Swapped.{Swapped}
use Rattle.pm_store.specs.declared.answer.Swapped.TheVariants as swaps
use Rattle.pm_store.specs.declared.call.Call.{Call}
use Rattle.pm_machine.specs.Step.{path_of}
use Rattle.pm_machine.specs.Trace.{Event, faulted}
use Rattle.pm_schema.specs.declared.schema.TableSchema.{TableSchema}
use Rattle.pm_snapshot.specs.Consumer.{consumer_in}
use Rattle.pm_snapshot.specs.declared.consumer.Consumer.{Consumer}
use Rattle.pm_snapshot.specs.declared.fault.SnapFault.{SnapFault}
use Rattle.pm_model_folder.specs.Paths.{consumer_path}
use Rattle.pm_read_schema.specs.Trace.{Names}
use Rattle.pm_read_schema.proofs.LeadLemmas.{Fails, IsAnswered, failed, failed_not, head_same, one_failed, tail_same}
use Rattle.pm_read_consumer.specs.AllCalls.{DidFind}
use Rattle.pm_read_consumer.specs.Reader.{IsDamaged, Says, found_as}
use Rattle.pm_read_consumer.specs.Reader as finder
use Rattle.pm_read_consumer.specs.Trace.{HasFound, read_consumer}
use Rattle.pm_read_consumer.specs.Trace as finds
use Rattle.pm_read_consumer.specs.declared.phase.FoundConsumer.{FoundConsumer}
use Rattle.pm_read_consumer.proofs.OneLemmas.{none_said, one_said, same_found}
use Rattle.pm_read_table.proofs.OneLemmas as view
use Rattle.pm_read_table.specs.declared.view.View.{View}
use Rattle.pm_group_files.specs.Chosen.{Chosen}
use Rattle.pm_group_files.specs.Collected.{with_groups}
use Rattle.pm_group_files.specs.Trace as files_trace
use Rattle.pm_group_files.proofs.FaultLemmas.{IsOfFiles, damaged, expired, unsupported}
use Rattle.pm_group_files.proofs.OneLemmas as group
use Rattle.pm_register.specs.AllCalls.{DidRegister}
use Rattle.pm_register.specs.Registrar.{IsUnregistered, Registering, consumer_at, floors_call, new_call, registering, registration_of, settle_call}
use Rattle.pm_register.specs.Trace.{HasSettled, Shows, listed_floors, met_first, met_later, put_known, put_new}
use Rattle.pm_move_consumer.specs.Mover.{Moving}
use Rattle.pm_move_consumer.specs.MoverAllCalls.{DidMove}
use Rattle.pm_move_consumer.specs.MoverTrace.{met, moved, swap_call}
use Rattle.pm_scan.specs.Asked.{passed_at}
use Rattle.pm_scan.specs.Meaning.{all_of}
use Rattle.pm_scan.specs.Scanner as scanner_machine
use Rattle.pm_scan.specs.Trace.{AfterView, DidSoFar, ShowsOfFiles}
use Rattle.pm_scan.specs.declared.rows.Rows.TheVariants as shown
use Rattle.pm_scan.proofs.OneLemmas.{one_view, same_asked}
use Rattle.pm_read_log.specs.Log.{log_asked_of}
use Rattle.pm_read_frame.specs.AllCalls.{DidFrame}
use Rattle.pm_command_follow.specs.Answer.{IsUnshown}
use Rattle.pm_command_follow.specs.Follow.{DidTable, ReadsTable, Then}
use Rattle.pm_command_follow.specs.Printed.{count_from, start_of}
use Rattle.pm_command_follow.proofs.OneLemmas.{FilesRefused, FrameRefused, Framed, HasRead, IsElse, Listed, NoRefusal, OneLaws, SchemaRefused, Taken, ViewRefused, Viewed, above_not, asked, fails_behind, files_stage, frame_refused, frame_stage, framed, has_read, listing_refused, listing_stage, same_id, schema_refused, schema_stage, view_stage}
use Rattle.pm_command_follow.proofs.StageLemmas.{Goes, IsOne, IsStage, one_behind}
use Rattle.pm_command_consume.specs.Consume.{Ends, Finds, FindsUnsettled, GoesOn, HandsOut, HandsOutAll, Joins, Lists, Opens, ShowsFirst, Starts, all, fails_frame, fails_table, joined, moving_from, of_file, of_listing, of_registering, of_schema, of_start, of_table, place_at, refused_first, refused_frame, refused_listing, refused_move, settled}
use Rattle.pm_command_consume.specs.declared.consuming.Consuming.{Consuming}
use Rattle.pm_command_consume.specs.declared.place.Place.{Place}
use Rattle.pm_command_consume.proofs.PieceLemmas.{place_of}

-- ---- the consumer's file

module _ (name : List ℕ) where
  abbrev FindRefused : Refusal → List Event → Type 0
  FindRefused e own = (bytes : List ℕ) × (e ≡ refusals.Damaged (consumer_path name) 0) × IsDamaged bytes × (own ≡ read_consumer name (Some bytes) ∷ [])

  -- the same bytes were read by the first call
  same_read : (one other : Option (List ℕ)) (first rest more own : List Event) → first ≡ read_consumer name one ∷ [] → rest ≡ read_consumer name other ∷ []
      → first ++ more ≡ rest ++ own → (one ≡ other) × (more ≡ own)
  same_read one other first rest more own is was together =
      let both : read_consumer name one ∷ more ≡ read_consumer name other ∷ own =
      ap (λ (first : List Event). first ++ more) (sym is) ∙ together ∙ ap (λ (rest : List Event). rest ++ own) was in (
        same_found name name one other (head_same (read_consumer name one) (read_consumer name other) more own both),
        tail_same (read_consumer name one) (read_consumer name other) more own both,
      )

  same_finds : (r t : FoundConsumer) (first other more rest : List Event) → HasFound name r first → HasFound name t other → first ++ more ≡ other ++ rest
      → (r ≡ t) × (more ≡ rest)
  same_finds r t first other more rest (says, is) (said, was) together =
      let read = same_read r.found t.found first other more rest is was together in
      let same : r.found ≡ t.found = read.0 in
      let saying : r.consumer ≡ t.consumer =
      one_said t.found r.consumer t.consumer (subst (λ (found : Option (List ℕ)). Says found r.consumer) same says) said in
      (ap (λ (found : Option (List ℕ)). found_as found r.consumer) same ∙ ap (found_as t.found) saying, read.1)

  finds_apart : (r : FoundConsumer) (first more : List Event) (e : Refusal) → HasFound name r first → FindRefused e (first ++ more) → ⊥
  finds_apart r first more e (says, is) (bytes, at, bad, was) =
      let read = same_read r.found (Some bytes) first (read_consumer name (Some bytes) ∷ []) more [] is refl was in
      none_said bytes r.consumer (subst (λ (found : Option (List ℕ)). Says found r.consumer) read.0 says) bad

  find_stage : IsStage (HasFound name) FindRefused
  find_stage = record {
    same = same_finds;
    apart = finds_apart;
    one = λ e d own refused denied. refused.1 ∙ sym denied.1;
    whole = λ r own did. subst (AllByRecursion IsAnswered) (sym did.1) (refl, tt);
    ended = λ e own refused. subst (AllByRecursion IsAnswered) (sym refused.3) (refl, tt);
  }

-- ---- the registering

abbrev Causes : Type 0
Causes = (r : Registering) (own : List Event) (one other : Refusal) → Shows r one own → Shows r other own → one ≡ other

-- what a swap was answered
abbrev swapped_in : Option Answer → Option Swapped
swapped_in (Some (answers.Swapped swapped)) = Some swapped
swapped_in other = None

-- a swap that was made isn't one that found another file
made_not : (found : Option (List ℕ)) → ◌≡◌ {A = Option Swapped} (Some swaps.Swapped) (Some (swaps.Differs found)) → ⊥
made_not found is = cc

event_not : (one other : Event) (found : Option (List ℕ)) → swapped_in one.answer ≡ Some swaps.Swapped → swapped_in other.answer ≡ Some (swaps.Differs found) → one ≡ other → ⊥
event_not one other found is was same = made_not found (sym is ∙ ap (λ (event : Event). swapped_in event.answer) same ∙ was)

none_more : (event : Event) (own : List Event) → event ∷ own ≡ [] → ⊥
none_more event own is = cc

module _ (r : Registering) where
  abbrev Registered : Unit {0} → List Event → Type 0
  Registered u own = HasSettled r own

  -- the file was another, or a floor exceeds the number
  abbrev RegisterRefused : Refusal → List Event → Type 0
  RegisterRefused (refusals.ConsumerMoved found) own = Shows r (refusals.ConsumerMoved found) own
  RegisterRefused (refusals.BelowFloor next floor) own = Shows r (refusals.BelowFloor next floor) own
  RegisterRefused e own = ⊥

  -- its three calls
  three : (own : List Event) → HasSettled r own → (names : Names) × (own ≡ put_new r ∷ (listed_floors names ∷ (put_known r ∷ [])))
  three own (earlier, (names, none, is), at) = (names, at ∙ ap (λ (earlier : List Event). earlier ++ put_known r ∷ []) is)

  same_registered : (a b : Unit {0}) (first other more rest : List Event) → Registered a first → Registered b other → first ++ more ≡ other ++ rest
      → (a ≡ b) × (more ≡ rest)
  same_registered a b first other more rest did does together =
      let one = three first did in
      let two = three other does in
      let both : put_new r ∷ (listed_floors one.0 ∷ (put_known r ∷ more)) ≡ put_new r ∷ (listed_floors two.0 ∷ (put_known r ∷ rest)) =
      ap (λ (first : List Event). first ++ more) (sym one.1) ∙ together ∙ ap (λ (other : List Event). other ++ rest) two.1 in
      let second = tail_same (put_new r) (put_new r) (listed_floors one.0 ∷ (put_known r ∷ more)) (listed_floors two.0 ∷ (put_known r ∷ rest)) both in
      let third = tail_same (listed_floors one.0) (listed_floors two.0) (put_known r ∷ more) (put_known r ∷ rest) second in
      (refl, tail_same (put_known r) (put_known r) more rest third)

  registered_not : (names : Names) (more : List Event) (e : Refusal) → RegisterRefused e (put_new r ∷ (listed_floors names ∷ (put_known r ∷ more))) → ⊥
  registered_not names more (refusals.ConsumerMoved found) (inl at) =
      event_not (put_new r) (met_first r found) found refl refl
      (head_same (put_new r) (met_first r found) (listed_floors names ∷ (put_known r ∷ more)) [] at)
  registered_not names more (refusals.ConsumerMoved found) (inr (earlier, (others, none, is), at)) =
      let both : put_new r ∷ (listed_floors names ∷ (put_known r ∷ more)) ≡ put_new r ∷ (listed_floors others ∷ (met_later r found ∷ [])) =
      at ∙ ap (λ (earlier : List Event). earlier ++ met_later r found ∷ []) is in
      let second = tail_same (put_new r) (put_new r) (listed_floors names ∷ (put_known r ∷ more)) (listed_floors others ∷ (met_later r found ∷ [])) both in
      let third = tail_same (listed_floors names) (listed_floors others) (put_known r ∷ more) (met_later r found ∷ []) second in
      event_not (put_known r) (met_later r found) found refl refl (head_same (put_known r) (met_later r found) more [] third)
  registered_not names more (refusals.BelowFloor next floor) (same, (others, exceeds, at)) =
      let second = tail_same (put_new r) (put_new r) (listed_floors names ∷ (put_known r ∷ more)) (listed_floors others ∷ []) at in
      none_more (put_known r) more (tail_same (listed_floors names) (listed_floors others) (put_known r ∷ more) [] second)
  registered_not names more e refused = absurd refused

  registered_apart : (a : Unit {0}) (first more : List Event) (e : Refusal) → Registered a first → RegisterRefused e (first ++ more) → ⊥
  registered_apart a first more e did refused =
      let one = three first did in
      registered_not one.0 more e (subst (λ (first : List Event). RegisterRefused e (first ++ more)) one.1 refused)

  shows_of : (e : Refusal) (own : List Event) → RegisterRefused e own → Shows r e own
  shows_of (refusals.ConsumerMoved found) own shows = shows
  shows_of (refusals.BelowFloor next floor) own shows = shows
  shows_of e own refused = absurd refused

  refused_answered : (e : Refusal) (own : List Event) → RegisterRefused e own → AllByRecursion IsAnswered own
  refused_answered (refusals.ConsumerMoved found) own (inl at) = subst (AllByRecursion IsAnswered) (sym at) (refl, tt)
  refused_answered (refusals.ConsumerMoved found) own (inr (earlier, (names, none, is), at)) =
      subst (AllByRecursion IsAnswered) (sym (at ∙ ap (λ (earlier : List Event). earlier ++ met_later r found ∷ []) is)) (refl, (refl, (refl, tt)))
  refused_answered (refusals.BelowFloor next floor) own (same, (names, exceeds, at)) = subst (AllByRecursion IsAnswered) (sym at) (refl, (refl, tt))
  refused_answered e own refused = absurd refused

  register_stage : Causes → IsStage Registered RegisterRefused
  register_stage causes = record {
    same = same_registered;
    apart = registered_apart;
    one = λ e d own refused denied. causes r own e d (shows_of e own refused) (shows_of d own denied);
    whole = λ a own did. let one = three own did in subst (AllByRecursion IsAnswered) (sym one.1) (refl, (refl, (refl, tt)));
    ended = refused_answered;
  }

-- ---- a move

module _ (m : Moving) where
  abbrev Moved : Unit {0} → List Event → Type 0
  Moved u own = own ≡ moved m ∷ []

  abbrev MoveRefused : Refusal → List Event → Type 0
  MoveRefused e own = (found : Option (List ℕ)) × (e ≡ refusals.ConsumerMoved found) × (own ≡ met m found ∷ [])

  same_moved : (a b : Unit {0}) (first other more rest : List Event) → Moved a first → Moved b other → first ++ more ≡ other ++ rest → (a ≡ b) × (more ≡ rest)
  same_moved a b first other more rest did does together =
      let both : moved m ∷ more ≡ moved m ∷ rest =
      ap (λ (first : List Event). first ++ more) (sym did) ∙ together ∙ ap (λ (other : List Event). other ++ rest) does in
      (refl, tail_same (moved m) (moved m) more rest both)

  moved_apart : (a : Unit {0}) (first more : List Event) (e : Refusal) → Moved a first → MoveRefused e (first ++ more) → ⊥
  moved_apart a first more e did (found, is, at) =
      let both : moved m ∷ more ≡ met m found ∷ [] = ap (λ (first : List Event). first ++ more) (sym did) ∙ at in
      event_not (moved m) (met m found) found refl refl (head_same (moved m) (met m found) more [] both)

  -- what a swap met
  met_in : Option Swapped → Option (List ℕ)
  met_in (Some (swaps.Differs found)) = found
  met_in other = None

  same_met : (one other : Option (List ℕ)) → met m one ≡ met m other → one ≡ other
  unfolding met_in
  same_met one other is = ap (λ (event : Event). met_in (swapped_in event.answer)) is

  one_met : (e d : Refusal) (own : List Event) → MoveRefused e own → MoveRefused d own → e ≡ d
  one_met e d own (found, is, at) (other, was, there) =
      is ∙ ap refusals.ConsumerMoved (same_met found other (head_same (met m found) (met m other) [] [] (sym at ∙ there))) ∙ sym was

  move_stage : IsStage Moved MoveRefused
  move_stage = record {
    same = same_moved;
    apart = moved_apart;
    one = one_met;
    whole = λ a own did. subst (AllByRecursion IsAnswered) (sym did) (refl, tt);
    ended = λ e own refused. subst (AllByRecursion IsAnswered) (sym refused.2) (refl, tt);
  }

-- ---- all of them, one after another

module _ (c : Consuming) where
  -- so many frames are left, once so many were handed out from the place on
  abbrev Frames : ℕ → ℕ → TableSchema → Place → List Event → Option Refusal → Type 0
  Frames zero passed s p own x = (own ≡ []) × (x ≡ None)
  Frames (suc left) passed s p own x =
      Goes (Framed (log_asked_of s (p.next + passed))) (FrameRefused (log_asked_of s (p.next + passed)))
      (λ text. Goes (Moved (moving_from c (place_at p passed))) (MoveRefused (moving_from c (place_at p passed))) (λ u. Frames left (suc passed) s p)) own x

  -- the snapshots are listed, and the frames up to the latest are left
  abbrev Listing : TableSchema → Place → List Event → Option Refusal → Type 0
  Listing s p own x = Goes Listed NoRefusal (λ latest. Frames (count_from p.next latest) 0 s p) own x

  -- the view of the starting table was read to here, and its files are left
  abbrev Reading : TableSchema → ℕ → view.Place → List Event → Option Refusal → Type 0
  Reading s start m own x =
      (chosen : Chosen) × ((v : View) × view.IsViewAt (asked s start) v m × (all_of shown.Passed v ≡ chosen))
      × Goes (Taken chosen) (FilesRefused chosen) (λ col. Listing s (place_of start)) own x

  -- the starting table is left where it is asked for
  abbrev Table : Bool → TableSchema → ℕ → List Event → Option Refusal → Type 0
  Table false s start own x = Listing s (place_of start) own x
  Table true s start own x = Goes (Viewed (asked s start)) (ViewRefused (asked s start)) (Reading s start) own x

  -- the start is too high for the latest that was listed, and no call follows; or the registering is left
  abbrev Begins : TableSchema → Option (List ℕ) → ℕ → List Event → Option Refusal → Type 0
  Begins s found latest own x =
      ((own ≡ []) × ((id : ℕ) × (c.from ≡ Some id) × (suc latest < id) × (x ≡ Some (refusals.NoSnapshot id latest))))
      ⊎ ((start_of c.from latest ≤ suc latest)
      × Goes (Registered (registering c.name found (start_of c.from latest))) (RegisterRefused (registering c.name found (start_of c.from latest)))
      (λ u. Table c.full s (start_of c.from latest)) own x)

  -- the consumer is settled, and the frames from its place on are left; or it isn't, and a start and the registering are
  abbrev AfterFound : TableSchema → FoundConsumer → List Event → Option Refusal → Type 0
  AfterFound s r own x =
      ((p : Place) × (r ≡ found_as (Some p.bytes) (Some (consumer_at p.next false))) × (consumer_in p.bytes ≡ Ok (consumer_at p.next false)) × Listing s p own x)
      ⊎ (IsUnregistered r.found × Goes Listed NoRefusal (Begins s r.found) own x)

  abbrev All : List Event → Option Refusal → Type 0
  All own x = Goes HasRead SchemaRefused (λ s. Goes (HasFound c.name) (FindRefused c.name) (AfterFound s)) own x

  -- ---- each has one answer

  module _ (laws : OneLaws) (causes : Causes) where
    frames_one : (left passed : ℕ) (s : TableSchema) (p : Place) → IsOne (λ own x. Frames left passed s p own x)
    frames_one zero passed s p = record {
      one = λ own x y is was. is.1 ∙ sym was.1;
      whole = λ own x is. subst (AllByRecursion IsAnswered) (sym is.0) tt;
    }
    frames_one (suc left) passed s p =
        one_behind (Framed (log_asked_of s (p.next + passed))) (FrameRefused (log_asked_of s (p.next + passed)))
        (λ text. Goes (Moved (moving_from c (place_at p passed))) (MoveRefused (moving_from c (place_at p passed))) (λ u. Frames left (suc passed) s p))
        (frame_stage (log_asked_of s (p.next + passed)) laws.frames)
        (λ text. one_behind (Moved (moving_from c (place_at p passed))) (MoveRefused (moving_from c (place_at p passed))) (λ u. Frames left (suc passed) s p)
        (move_stage (moving_from c (place_at p passed))) (λ u. frames_one left (suc passed) s p))

    listing_one : (s : TableSchema) (p : Place) → IsOne (λ own x. Listing s p own x)
    listing_one s p =
        one_behind Listed NoRefusal (λ latest. Frames (count_from p.next latest) 0 s p) listing_stage (λ latest. frames_one (count_from p.next latest) 0 s p)

    files_one : (s : TableSchema) (start : ℕ) (chosen : Chosen)
        → IsOne (λ own x. Goes (Taken chosen) (FilesRefused chosen) (λ col. Listing s (place_of start)) own x)
    files_one s start chosen =
        one_behind (Taken chosen) (FilesRefused chosen) (λ col. Listing s (place_of start)) (files_stage chosen laws.scans.read) (λ col. listing_one s (place_of start))

    one_reading : (s : TableSchema) (start : ℕ) (m : view.Place) (own : List Event) (x y : Option Refusal) → Reading s start m own x → Reading s start m own y → x ≡ y
    one_reading s start m own x y (one, (v, is, at), then) (other, (w, was, there), behind) =
        let same : one ≡ other = sym at ∙ same_asked laws.scans shown.Passed v w (one_view laws.scans (asked s start) v w m is was) ∙ there in
        (files_one s start other).one own x y
        (subst (λ (chosen : Chosen). Goes (Taken chosen) (FilesRefused chosen) (λ col. Listing s (place_of start)) own x) same then) behind

    reading_one : (s : TableSchema) (start : ℕ) (m : view.Place) → IsOne (λ own x. Reading s start m own x)
    reading_one s start m = record { one = one_reading s start m; whole = λ own x is. (files_one s start is.0).whole own x is.2 }

    table_one : (full : Bool) (s : TableSchema) (start : ℕ) → IsOne (λ own x. Table full s start own x)
    table_one false s start = listing_one s (place_of start)
    table_one true s start =
        one_behind (Viewed (asked s start)) (ViewRefused (asked s start)) (Reading s start) (view_stage (asked s start) laws.scans.reader) (reading_one s start)

    registering_one : (s : TableSchema) (found : Option (List ℕ)) (start : ℕ)
        → IsOne (λ own x. Goes (Registered (registering c.name found start)) (RegisterRefused (registering c.name found start)) (λ u. Table c.full s start) own x)
    registering_one s found start =
        one_behind (Registered (registering c.name found start)) (RegisterRefused (registering c.name found start)) (λ u. Table c.full s start)
        (register_stage (registering c.name found start) causes) (λ u. table_one c.full s start)

    one_begin : (s : TableSchema) (found : Option (List ℕ)) (latest : ℕ) (own : List Event) (x y : Option Refusal) → Begins s found latest own x
        → Begins s found latest own y → x ≡ y
    one_begin s found latest own x y (inl (none, (id, is, above, at))) (inl (also, (other, was, over, there))) =
        at ∙ ap (λ (id : ℕ). Some (refusals.NoSnapshot id latest)) (same_id id other (sym is ∙ was)) ∙ sym there
    one_begin s found latest own x y (inl (none, (id, is, above, at))) (inr (low, then)) = absurd (above_not c.from id latest is above low)
    one_begin s found latest own x y (inr (low, then)) (inl (none, (id, is, above, at))) = absurd (above_not c.from id latest is above low)
    one_begin s found latest own x y (inr (low, then)) (inr (also, behind)) = (registering_one s found (start_of c.from latest)).one own x y then behind

    whole_begin : (s : TableSchema) (found : Option (List ℕ)) (latest : ℕ) (own : List Event) (x : Option Refusal) → Begins s found latest own x
        → AllByRecursion IsAnswered own
    whole_begin s found latest own x (inl (none, above)) = subst (AllByRecursion IsAnswered) (sym none) tt
    whole_begin s found latest own x (inr (low, then)) = (registering_one s found (start_of c.from latest)).whole own x then

    unsettled_one : (s : TableSchema) (found : Option (List ℕ)) → IsOne (λ own x. Goes Listed NoRefusal (Begins s found) own x)
    unsettled_one s found =
        one_behind Listed NoRefusal (Begins s found) listing_stage (λ latest. record { one = one_begin s found latest; whole = whole_begin s found latest })

    -- one that is settled was found by its bytes and its number
    same_place : (p q : Place) → found_as (Some p.bytes) (Some (consumer_at p.next false)) ≡ found_as (Some q.bytes) (Some (consumer_at q.next false)) → p ≡ q
    same_place p q is =
        let bytes : p.bytes ≡ q.bytes = some_bytes p.bytes q.bytes (ap (λ (r : FoundConsumer). r.found) is) in
        let next : p.next ≡ q.next = some_next (consumer_at p.next false) (consumer_at q.next false) (ap (λ (r : FoundConsumer). r.consumer) is) in
        ap (λ (next : ℕ). record { next = next; bytes = p.bytes }) next ∙ ap (λ (bytes : List ℕ). record { next = q.next; bytes = bytes }) bytes
      where
        some_bytes : (one other : List ℕ) → ◌≡◌ {A = Option (List ℕ)} (Some one) (Some other) → one ≡ other
        some_bytes one other is = cc

        some_next : (one other : Consumer) → ◌≡◌ {A = Option Consumer} (Some one) (Some other) → one.next ≡ other.next
        some_next one other is = let same : one ≡ other = cc in ap (λ (x : Consumer). x.next) same

    -- a settled one isn't new
    fresh_not : (n m : ℕ) → ◌≡◌ {A = Result Consumer SnapFault} (Ok (consumer_at n false)) (Ok (consumer_at m true)) → ⊥
    fresh_not n m is = clash (some_fresh (consumer_at n false) (consumer_at m true) is)
      where
        some_fresh : (one other : Consumer) → ◌≡◌ {A = Result Consumer SnapFault} (Ok one) (Ok other) → one.fresh ≡ other.fresh
        some_fresh one other is = let same : one ≡ other = cc in ap (λ (x : Consumer). x.fresh) same

        clash : false ≡ true → ⊥
        clash is = cc

    settled_not : (r : FoundConsumer) (p : Place) → r ≡ found_as (Some p.bytes) (Some (consumer_at p.next false)) → consumer_in p.bytes ≡ Ok (consumer_at p.next false)
        → IsUnregistered r.found → ⊥
    settled_not r p is reads unregistered =
        let so : IsUnregistered (Some p.bytes) = subst IsUnregistered (ap (λ (r : FoundConsumer). r.found) is) unregistered in
        fresh_not p.next so.0 (sym reads ∙ so.1)

    one_found : (s : TableSchema) (r : FoundConsumer) (own : List Event) (x y : Option Refusal) → AfterFound s r own x → AfterFound s r own y → x ≡ y
    one_found s r own x y (inl (p, is, reads, then)) (inl (q, was, also, behind)) =
        (listing_one s q).one own x y (subst (λ (p : Place). Listing s p own x) (same_place p q (sym is ∙ was)) then) behind
    one_found s r own x y (inl (p, is, reads, then)) (inr (unregistered, behind)) = absurd (settled_not r p is reads unregistered)
    one_found s r own x y (inr (unregistered, then)) (inl (q, was, also, behind)) = absurd (settled_not r q was also unregistered)
    one_found s r own x y (inr (unregistered, then)) (inr (again, behind)) = (unsettled_one s r.found).one own x y then behind

    whole_found : (s : TableSchema) (r : FoundConsumer) (own : List Event) (x : Option Refusal) → AfterFound s r own x → AllByRecursion IsAnswered own
    whole_found s r own x (inl (p, is, reads, then)) = (listing_one s p).whole own x then
    whole_found s r own x (inr (unregistered, then)) = (unsettled_one s r.found).whole own x then

    all_one : IsOne (λ own x. All own x)
    all_one =
        one_behind HasRead SchemaRefused (λ s. Goes (HasFound c.name) (FindRefused c.name) (AfterFound s)) schema_stage
        (λ s. one_behind (HasFound c.name) (FindRefused c.name) (AfterFound s) (find_stage c.name) (λ r. record { one = one_found s r; whole = whole_found s r }))

  -- ---- how far the calls come

  -- frames that were handed out, and those that are left
  in_frames : (count left : ℕ) (s : TableSchema) (p : Place) (text : List ℕ) (own more : List Event) (x : Option Refusal) → HandsOut s c p count text own
      → Frames left count s p more x → Frames (count + left) 0 s p (own ++ more) x
  in_frames zero left s p text own more x (nothing, none) then =
      let same : left ≡ 0 + left = omega arith in
      subst (λ (left : ℕ). Frames left 0 s p (own ++ more) x) same (subst (λ (own : List Event). Frames left 0 s p (own ++ more) x) (sym none) then)
  in_frames (suc count) left s p text own more x (before, last, (earlier, later, hands, (reads, moves, did, (new, does), at), is), parts) then =
      let size : count + suc left ≡ suc count + left = omega arith in
      let next : Frames (suc left) count s p (later ++ more) x =
      inl (
        last,
        reads,
        moves ++ more,
        framed (log_asked_of s (p.next + count)) last reads did,
        ap (λ (own : List Event). own ++ more) at ∙ append_assoc reads moves more,
        inl (tt, moves, more, does, refl, then),
      ) in
      subst (λ (left : ℕ). Frames left 0 s p (own ++ more) x) size
      (subst (λ (own : List Event). Frames (count + suc left) 0 s p own x) (sym (append_assoc earlier later more) ∙ ap (λ (own : List Event). own ++ more) (sym is))
      (in_frames count (suc left) s p before earlier (later ++ more) x hands next))

  -- the starting table that was read, if it is asked for, and the listing behind it
  in_table : view.OneLaws → (full : Bool) (s : TableSchema) (start : ℕ) (text : List ℕ) (own more : List Event) (x : Option Refusal) → ReadsTable s full start text own
      → Listing s (place_of start) more x → Table full s start (own ++ more) x
  in_table laws false s start text own more x (nothing, none) then = subst (λ (own : List Event). Listing s (place_of start) (own ++ more) x) (sym none) then
  in_table laws true s start text own more x (rows, (id, scan), is) then =
      let v = scan.view in
      let after = scan.all_read in
      let viewed = view.view_lead (asked s start) laws v after.first after.viewed in
      let taken = group.part_lead (all_of shown.Passed v) scan.collected [] after.reads after.so in
      let rest : Reading s start viewed.0 (after.reads ++ more) x =
      (all_of shown.Passed v, (v, viewed.2, refl), inl (with_groups [] scan.collected, after.reads, more, taken, refl, then)) in
      inl (
        viewed.0,
        after.first,
        after.reads ++ more,
        (viewed.1, (v, viewed.2)),
        ap (λ (own : List Event). own ++ more) after.is ∙ append_assoc after.first after.reads more,
        rest,
      )

  -- the file was read, and what is left behind it
  in_finds : (s : TableSchema) (found : Option (List ℕ)) (said : Option Consumer) (own more : List Event) (x : Option Refusal) → Finds s c found said own
      → (Says found said → AfterFound s (found_as found said) more x) → All (own ++ more) x
  in_finds s found said own more x (earlier, later, has, did, is) then =
      inl (
        s,
        earlier,
        later ++ more,
        has_read s earlier has,
        ap (λ (own : List Event). own ++ more) is ∙ append_assoc earlier later more,
        inl (found_as found said, later, more, did, refl, then did.0),
      )

  in_unsettled : (s : TableSchema) (found : Option (List ℕ)) (own more : List Event) (x : Option Refusal) → FindsUnsettled s c found own
      → Goes Listed NoRefusal (Begins s found) more x → All (own ++ more) x
  in_unsettled s found own more x (unregistered, (said, finds_so)) then = in_finds s found said own more x finds_so (λ says. inr (unregistered, then))

  -- it starts there, and the registering is left
  in_start : (s : TableSchema) (found : Option (List ℕ)) (start : ℕ) (own more : List Event) (x : Option Refusal) → Starts s c found start own
      → Goes (Registered (registering c.name found start)) (RegisterRefused (registering c.name found start)) (λ u. Table c.full s start) more x → All (own ++ more) x
  in_start s found start own more x (latest, (earlier, later, finds_so, did, is), at, low, high) then =
      let begins : Begins s found latest more x =
      inr (
        subst (λ (start : ℕ). start ≤ suc latest) at high,
        subst (λ (start : ℕ). Goes (Registered (registering c.name found start)) (RegisterRefused (registering c.name found start)) (λ u. Table c.full s start) more x) at then,
      ) in
      subst (λ (own : List Event). All own x) (sym (append_assoc earlier later more) ∙ ap (λ (own : List Event). own ++ more) (sym is))
      (in_unsettled s found earlier (later ++ more) x finds_so (inl (latest, later, more, did, refl, begins)))

  in_joined : (s : TableSchema) (start : ℕ) (own more : List Event) (x : Option Refusal) → Joins s c start own → Table c.full s start more x → All (own ++ more) x
  in_joined s start own more x (found, (earlier, later, starts, did, is)) then =
      subst (λ (own : List Event). All own x) (sym (append_assoc earlier later more) ∙ ap (λ (own : List Event). own ++ more) (sym is))
      (in_start s found start earlier (later ++ more) x starts (inl (tt, later, more, did, refl, then)))

  in_opens : view.OneLaws → (s : TableSchema) (p : Place) (full : Bool) (text : List ℕ) (own more : List Event) (x : Option Refusal) → Opens s c p full text own
      → Listing s p more x → All (own ++ more) x
  in_opens laws s p full text own more x (settled finds_so without none) then =
      in_finds s (Some p.bytes) (Some (consumer_at p.next false)) own more x finds_so (λ says. inl (p, refl, says, then))
  in_opens laws s p full text own more x (joined (earlier, later, joins, reads, is) same bytes) then =
      let at : p ≡ place_of p.next = ap (λ (bytes : List ℕ). record { next = p.next; bytes = bytes }) bytes in
      subst (λ (own : List Event). All own x) (sym (append_assoc earlier later more) ∙ ap (λ (own : List Event). own ++ more) (sym is))
      (in_joined s p.next earlier (later ++ more) x joins
      (in_table laws c.full s p.next text later more x reads (subst (λ (p : Place). Listing s p more x) at then)))

  in_lists : view.OneLaws → (s : TableSchema) (p : Place) (full : Bool) (text : List ℕ) (latest : ℕ) (own more : List Event) (x : Option Refusal)
      → Lists s c p full text latest own → Frames (count_from p.next latest) 0 s p more x → All (own ++ more) x
  in_lists laws s p full text latest own more x (earlier, later, opens, did, is) then =
      subst (λ (own : List Event). All own x) (sym (append_assoc earlier later more) ∙ ap (λ (own : List Event). own ++ more) (sym is))
      (in_opens laws s p full text earlier (later ++ more) x opens (inl (latest, later, more, did, refl, then)))

  -- ---- what they show

  -- no call shows it; or the last call failed; or they show this
  data IsShown (answer : Option Refusal) (own : List Event) : Type 0 where
    of_none : IsUnshown answer → IsShown answer own
    of_failure : (e : Refusal) → answer ≡ Some e → Fails e own → IsShown answer own
    of_calls : All own answer → IsShown answer own

  -- what is shown at the end of some calls is shown by all of them
  at_last : (P : Type 0) (e : Refusal) (before own whole : List Event) → whole ≡ before ++ own → (P → All whole (Some e)) → IsElse P e own
      → IsShown (Some e) whole
  at_last P e before own whole is goes (inl memory) = of_none (inl (ap Some memory))
  at_last P e before own whole is goes (inr (inl fails)) = of_failure e refl (fails_behind e before own whole is fails)
  at_last P e before own whole is goes (inr (inr shows)) = of_calls (goes shows)

  find_refused : (e : Refusal) (own : List Event) → DidFind c.name (Err e) own → IsElse (FindRefused c.name e own) e own
  find_refused refusals.Memory own shows = inl refl
  find_refused (refusals.StoreFault path) own fails = inr (inl (failed finder.next_call (finds.DidSoFar c.name) path own fails))
  find_refused (refusals.Damaged path place) own (bytes, at, zero_is, bad, is) =
      inr (inr (bytes, ap (λ (path : List ℕ). refusals.Damaged path place) at ∙ ap (refusals.Damaged (consumer_path c.name)) zero_is, bad, is))
  find_refused e own shows = absurd shows

  register_refused : (r : Registering) (e : Refusal) (own : List Event) → DidRegister r (Err e) own → IsElse (RegisterRefused r e own) e own
  register_refused r refusals.Memory own shows = inl refl
  register_refused r (refusals.ConsumerMoved found) own shows = inr (inr shows)
  register_refused r (refusals.BelowFloor next floor) own shows = inr (inr shows)
  register_refused r (refusals.StoreFault path) own (inl (at, is)) =
      inr (inl ([], new_call (registration_of r) r.found, ap refusals.StoreFault at, is))
  register_refused r (refusals.StoreFault path) own (inr (inl (at, is))) =
      inr (inl (put_new r ∷ [], floors_call, ap refusals.StoreFault at, is))
  register_refused r (refusals.StoreFault path) own (inr (inr (at, earlier, floors, is))) =
      inr (inl (earlier, settle_call (registration_of r), ap refusals.StoreFault at, is))
  register_refused r e own shows = absurd shows

  move_refused : (m : Moving) (e : Refusal) (own : List Event) → DidMove m (Err e) own → IsElse (MoveRefused m e own) e own
  move_refused m refusals.Memory own shows = inl refl
  move_refused m (refusals.ConsumerMoved found) own is = inr (inr (found, refl, is))
  move_refused m (refusals.StoreFault path) own (at, is) = inr (inl ([], swap_call m, ap refusals.StoreFault at, is))
  move_refused m e own shows = absurd shows

  module _ (laws : view.OneLaws) (s : TableSchema) (start : ℕ) where
    -- the scan of the starting table
    abbrev Scanned : Refusal → List Event → Type 0
    Scanned e own = Table true s start own (Some e)

    files_refused : (e : Refusal) (own : List Event) → IsOfFiles e → (v : View) → AfterView (asked s start) v (files_trace.Shows (all_of shown.Passed v) e) own → Scanned e own
    files_refused e own fault v after =
        let viewed = view.view_lead (asked s start) laws v after.first after.viewed in
        let over = group.shows_lead (all_of shown.Passed v) e after.reads fault after.so in
        inl (viewed.0, after.first, after.reads, (viewed.1, (v, viewed.2)), after.is, (all_of shown.Passed v, (v, viewed.2, refl), inr (e, refl, over)))

    by_files : (e : Refusal) (own : List Event) → ShowsOfFiles (passed_at s (start - 1)) e own → IsElse (Scanned e own) e own
    by_files refusals.Memory own shows = inl refl
    by_files (refusals.StoreFault path) own fails = inr (inl (failed scanner_machine.next_call (DidSoFar (passed_at s (start - 1))) path own fails))
    by_files (refusals.Expired id) own (v, after) = inr (inr (files_refused (refusals.Expired id) own (expired id) v after))
    by_files (refusals.Damaged path place) own (v, after) = inr (inr (files_refused (refusals.Damaged path place) own (damaged path place) v after))
    by_files (refusals.Unsupported what text) own (v, after) = inr (inr (files_refused (refusals.Unsupported what text) own (unsupported what text) v after))
    by_files e own (v, after) = absurd after.so

    by_view : (e : Refusal) (own : List Event) → view.IsShown (asked s start) e own → IsElse (Scanned e own) e own
    by_view e own (view.of_memory memory) = inl memory
    by_view e own (view.of_failure fails) = inr (inl fails)
    by_view e own (view.of_place m lead refused) = inr (inr (inr (e, refl, (m, lead, refused))))

    table_refused : (e : Refusal) (own : List Event) → DidTable s start (Err e) own → IsElse (Scanned e own) e own
    table_refused e own (inl (inl shows)) = by_view e own (view.is_shown (asked s start) laws e own shows)
    table_refused e own (inl (inr shows)) = by_files e own shows
    table_refused e own (inr (memory, rows, did)) = inl memory

  module _ (laws : view.OneLaws) where
    by_first : (e : Refusal) (own : List Event) → ShowsFirst c e own → IsShown (Some e) own
    by_first e own (of_schema shows) = at_last (SchemaRefused e own) e [] own own refl (λ refused. inr (e, refl, refused)) (schema_refused e own shows)
    by_first e own (of_file s (earlier, later, has, did, is)) =
        at_last (FindRefused c.name e later) e earlier later own is (λ refused. inl (s, earlier, later, has_read s earlier has, is, inr (e, refl, refused)))
        (find_refused e later did)
    by_first e own (of_listing s found (earlier, later, finds_so, did, is)) = at_last ⊥ e earlier later own is (λ none. absurd none) (listing_refused e later did)
    by_first e own (of_start s found id latest asks above is (earlier, later, finds_so, did, at)) =
        of_calls (subst (λ (own : List Event). All own (Some e)) (sym at)
        (in_unsettled s found earlier later (Some e) finds_so
        (inl (latest, later, [], did, sym (append-nil later), inl (refl, (id, asks, above, ap Some is))))))
    by_first e own (of_registering s found start (earlier, later, starts, did, is)) =
        at_last (RegisterRefused (registering c.name found start) e later) e earlier later own is
        (λ refused. subst (λ (own : List Event). All own (Some e)) (sym is) (in_start s found start earlier later (Some e) starts (inr (e, refl, refused))))
        (register_refused (registering c.name found start) e later did)
    by_first e own (of_table s start is (earlier, later, joins, did, at)) =
        at_last (Table true s start later (Some e)) e earlier later own at
        (λ shows. subst (λ (own : List Event). All own (Some e)) (sym at)
        (in_joined s start earlier later (Some e) joins (subst (λ (full : Bool). Table full s start later (Some e)) (sym is) shows)))
        (table_refused laws s start e later did)

    by_frame : (e : Refusal) (s : TableSchema) (p : Place) (full : Bool) (count : ℕ) (text : List ℕ) (own : List Event)
        → GoesOn s c p full count text (DidFrame s (p.next + count) (Err e)) own → IsShown (Some e) own
    by_frame e s p full count text own (latest, table, frames, below, (earlier, later, lists, (read, last, hands, did, at), is), parts) =
        let left : count + suc (count_from p.next latest - suc count) ≡ count_from p.next latest = omega (arith, below) in
        let whole : own ≡ (earlier ++ read) ++ last = is ∙ ap (λ (later : List Event). earlier ++ later) at ∙ sym (append_assoc earlier read last) in
        at_last (FrameRefused (log_asked_of s (p.next + count)) e last) e (earlier ++ read) last own whole
        (λ refused. subst (λ (own : List Event). All own (Some e)) (ap (λ (later : List Event). earlier ++ later) (sym at) ∙ sym is)
        (in_lists laws s p full table latest earlier (read ++ last) (Some e) lists
        (subst (λ (count : ℕ). Frames count 0 s p (read ++ last) (Some e)) left
        (in_frames count (suc (count_from p.next latest - suc count)) s p frames read last (Some e) hands (inr (e, refl, refused))))))
        (frame_refused s (p.next + count) e last did)

    by_move : (e : Refusal) (s : TableSchema) (p : Place) (full : Bool) (count : ℕ) (text frame_text : List ℕ) (own : List Event)
        → GoesOn s c p full count text (Then (DidFrame s (p.next + count) (Ok frame_text)) (DidMove (moving_from c (place_at p count)) (Err e))) own → IsShown (Some e) own
    by_move e s p full count text frame_text own
        (latest, table, frames, below, (earlier, later, lists, (read, last, hands, (prints, moves, did, does, two), at), is), parts) =
        let left : count + suc (count_from p.next latest - suc count) ≡ count_from p.next latest = omega (arith, below) in
        let start : own ≡ earlier ++ (read ++ last) = is ∙ ap (λ (later : List Event). earlier ++ later) at in
        let whole : own ≡ ((earlier ++ read) ++ prints) ++ moves =
        start ∙ sym (append_assoc earlier read last) ∙ ap (λ (last : List Event). (earlier ++ read) ++ last) two ∙ sym (append_assoc (earlier ++ read) prints moves) in
        at_last (MoveRefused (moving_from c (place_at p count)) e moves) e ((earlier ++ read) ++ prints) moves own whole
        (λ refused. subst (λ (own : List Event). All own (Some e)) (sym start)
        (in_lists laws s p full table latest earlier (read ++ last) (Some e) lists
        (subst (λ (count : ℕ). Frames count 0 s p (read ++ last) (Some e)) left
        (in_frames count (suc (count_from p.next latest - suc count)) s p frames read last (Some e) hands
        (inl (frame_text, prints, moves, framed (log_asked_of s (p.next + count)) frame_text prints did, two, inr (e, refl, refused)))))))
        (move_refused (moving_from c (place_at p count)) e moves does)

    by_all : (s : TableSchema) (p : Place) (full : Bool) (count : ℕ) (text : List ℕ) (own : List Event) → HandsOutAll s c p full count text own → IsShown None own
    by_all s p full count text own (latest, table, frames, size, (earlier, later, lists, hands, is), parts) =
        let none : count + 0 ≡ count_from p.next latest = omega (arith, size) in
        of_calls (subst (λ (own : List Event). All own None) (sym is)
        (in_lists laws s p full table latest earlier later None lists
        (subst (λ (count : ℕ). Frames count 0 s p later None) none
        (subst (λ (later : List Event). Frames (count + 0) 0 s p later None) (append-nil later)
        (in_frames count 0 s p frames later [] None hands (refl, refl))))))

    is_shown : (answer : Option Refusal) (before after : SinkView) (own : List Event) → Ends c before after own answer → IsShown answer own
    is_shown answer before after own (all s p full count text hands took) = by_all s p full count text own hands
    is_shown answer before after own (fails_table s p text opens failed took) = of_none (inr refl)
    is_shown answer before after own (fails_frame s p full count text last goes failed took) = of_none (inr refl)
    is_shown answer before after own (refused_first e shows same) = by_first e own shows
    is_shown answer before after own (refused_listing e s p full text (earlier, later, opens, did, is) took) =
        at_last ⊥ e earlier later own is (λ none. absurd none) (listing_refused e later did)
    is_shown answer before after own (refused_frame e s p full count text goes took) = by_frame e s p full count text own goes
    is_shown answer before after own (refused_move e s p full count text last goes took) = by_move e s p full count text last own goes

  -- ---- one answer

  module _ (laws : OneLaws) (causes : Causes) where
    one_shown : (own : List Event) (one other : Option Refusal) → IsShown one own → IsShown other own → (one ≡ other) ⊎ (IsUnshown one ⊎ IsUnshown other)
    one_shown own one other (of_none none) was = inr (inl none)
    one_shown own one other is (of_none none) = inr (inr none)
    one_shown own one other (of_failure e is fails) (of_failure d was failing) = inl (is ∙ ap Some (one_failed e d own fails failing) ∙ sym was)
    one_shown own one other (of_failure e is fails) (of_calls goes) = absurd (failed_not e own fails ((all_one laws causes).whole own other goes))
    one_shown own one other (of_calls goes) (of_failure e was fails) = absurd (failed_not e own fails ((all_one laws causes).whole own one goes))
    one_shown own one other (of_calls goes) (of_calls went) = inl ((all_one laws causes).one own one other goes went)

    failed_shown : (own : List Event) (answer : Option Refusal) (e : Refusal) → Fails e own → IsShown answer own → IsUnshown answer ⊎ (answer ≡ Some e)
    failed_shown own answer e fails (of_none none) = inl none
    failed_shown own answer e fails (of_failure d is failing) = inr (is ∙ ap Some (one_failed d e own failing fails))
    failed_shown own answer e fails (of_calls goes) = absurd (failed_not e own fails ((all_one laws causes).whole own answer goes))

pub one_answer : OneLaws → Causes → (c : Consuming) (own : List Event) (before after first last : SinkView) (one other : Option Refusal) → Ends c before after own one
    → Ends c first last own other → (one ≡ other) ⊎ (IsUnshown one ⊎ IsUnshown other)
one_answer laws causes c own before after first last one other ends ended =
    one_shown c laws causes own one other (is_shown c laws.scans.reader one before after own ends) (is_shown c laws.scans.reader other first last own ended)

pub failed_answer : OneLaws → Causes → (c : Consuming) (earlier : List Event) (call : Call) (before after : SinkView) (answer : Option Refusal)
    → Ends c before after (earlier ++ faulted call ∷ []) answer → IsUnshown answer ⊎ (answer ≡ Some (refusals.StoreFault (path_of call)))
failed_answer laws causes c earlier call before after answer ends =
    failed_shown c laws causes (earlier ++ faulted call ∷ []) answer (refusals.StoreFault (path_of call)) (earlier, call, refl, refl)
    (is_shown c laws.scans.reader answer before after (earlier ++ faulted call ∷ []) ends)
