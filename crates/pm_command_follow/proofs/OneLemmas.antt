-- The calls of `follow` show one answer: each of its machines has one end, where the next one begins.
use Rattle.std.proofs.Common.{◌≡◌, ◌⊎◌, inl, inr, ℕ, zero, suc, ◌+◌, ◌-◌, ◌<◌, ◌≤◌, Bool, true, false, List, [], ◌∷◌, ◌++◌, Option, None, Some, Result, Ok, Err, refl, sym, ap, subst, ◌∙◌, append-nil, append_assoc, arith}
use Rattle.std.specs.List.{AllByRecursion}
use Rattle.pm_values.specs.declared.refusal.Refusal.{Refusal}
use Rattle.pm_values.specs.declared.refusal.Refusal.TheVariants as refusals
use Rattle.pm_store.specs.declared.answer.Answer.{Answer}
use Rattle.pm_store.specs.declared.call.Call.{Call}
use Rattle.pm_io.specs.Sink.{SinkView}
use Rattle.pm_machine.specs.Step.{path_of}
use Rattle.pm_machine.specs.Trace.{Event, faulted}
use Rattle.pm_options.specs.declared.kinds.Producer.TheVariants as producers
use Rattle.pm_schema.specs.Again.{IsDeclared}
use Rattle.pm_schema.specs.declared.schema.TableSchema.{TableSchema}
use Rattle.pm_read_schema.specs.Trace.{listed_snapshots}
use Rattle.pm_read_schema.proofs.LeadLemmas.{Fails, IsAnswered, Leads, Stays, failed, failed_not, head_same, one_end, one_failed, one_lead, tail_same}
use Rattle.pm_read_schema.proofs.OneLemmas as schema
use Rattle.pm_paths.specs.Ids.{IsLatest}
use Rattle.pm_read_latest.specs.AllCalls.{DidLatest}
use Rattle.pm_read_latest.proofs.OneLemmas as latests
use Rattle.pm_read_table.specs.Asked.{Asked}
use Rattle.pm_read_table.specs.declared.view.View.{View}
use Rattle.pm_read_table.proofs.OneLemmas as view
use Rattle.pm_group_files.specs.Chosen.{Chosen}
use Rattle.pm_group_files.specs.Collected.{Collected, with_groups}
use Rattle.pm_group_files.specs.Trace as files_trace
use Rattle.pm_group_files.proofs.FaultLemmas.{IsOfFiles, damaged, expired, unsupported}
use Rattle.pm_group_files.proofs.OneLemmas as group
use Rattle.pm_scan.specs.Asked.{passed_at}
use Rattle.pm_scan.specs.Meaning.{all_of}
use Rattle.pm_scan.specs.Scanner as scanner_machine
use Rattle.pm_scan.specs.Trace.{AfterView, DidSoFar, ShowsOfFiles}
use Rattle.pm_scan.specs.declared.rows.Rows.TheVariants as shown
use Rattle.pm_scan.proofs.OneLemmas as scans
use Rattle.pm_scan.proofs.OneLemmas.{one_view, same_asked}
use Rattle.pm_read_log.specs.Log.{LogAskedView, log_asked_of}
use Rattle.pm_values.specs.declared.record.Stamped.{Stamped}
use Rattle.pm_merged_log.specs.Merged.{merged_frame}
use Rattle.pm_read_frame.specs.AllCalls.{DidFrame}
use Rattle.pm_read_frame.specs.Trace.{HasFrame}
use Rattle.pm_read_frame.proofs.OneLemmas as frame
use Rattle.pm_command_follow.specs.Answer.{IsUnshown}
use Rattle.pm_command_follow.specs.Follow.{DidTable, Ends, GoesOn, HasSchema, Lists, ReadsAll, ReadsFrames, ReadsTable, ShowsFirst, ShowsSchema, Starts, TellsChanges, all, fails_frame, fails_table, of_listing, of_producer, of_reader, of_schema, of_start, of_table, refused_first, refused_frame, refused_listing}
use Rattle.pm_command_follow.specs.Printed.{count_from, start_of}
use Rattle.pm_command_follow.proofs.StageLemmas.{Goes, IsOne, IsStage, one_behind}

-- ---- the schema

abbrev pub HasRead : TableSchema → List Event → Type 0
HasRead s own = TellsChanges s × IsDeclared s × Leads schema.Goes own schema.listing (schema.ready s)

-- it is refused here, or its table doesn't tell its changes
abbrev IsRefusedAt : Refusal → schema.Place → Type 0
IsRefusedAt e (schema.over other) = e ≡ other
IsRefusedAt e (schema.ready s) = (s.options.producer ≡ producers.None) × (e ≡ refusals.NoChangelog)
IsRefusedAt e m = ⊥

abbrev pub SchemaRefused : Refusal → List Event → Type 0
SchemaRefused e own = (m : schema.Place) × Leads schema.Goes own schema.listing m × IsRefusedAt e m

refused_ends : (e : Refusal) (m : schema.Place) → IsRefusedAt e m → schema.IsEnd m
refused_ends e (schema.over other) is = tt
refused_ends e (schema.ready s) is = tt
refused_ends e m is = absurd is

one_refused : (e d : Refusal) (m : schema.Place) → IsRefusedAt e m → IsRefusedAt d m → e ≡ d
one_refused e d (schema.over other) is was = is ∙ sym was
one_refused e d (schema.ready s) (none, is) (also, was) = is ∙ sym was
one_refused e d m is was = absurd is

tells_not : (s : TableSchema) (e : Refusal) → TellsChanges s → IsRefusedAt e (schema.ready s) → ⊥
tells_not s e tells (none, is) = tells none

same_schema : (s t : TableSchema) (first other more rest : List Event) → HasRead s first → HasRead t other → first ++ more ≡ other ++ rest → (s ≡ t) × (more ≡ rest)
same_schema s t first other more rest (tells, declared, lead) (told, also, led) is =
    let end = one_end schema.Goes schema.IsEnd schema.are_one schema.ends_stay first other more rest schema.listing (schema.ready s) (schema.ready t) is lead tt led tt in
    (schema.one_ready s t end.1, end.2)

schema_apart : (s : TableSchema) (first more : List Event) (e : Refusal) → HasRead s first → SchemaRefused e (first ++ more) → ⊥
schema_apart s first more e (tells, declared, lead) (m, led, refused) =
    let end = one_end schema.Goes schema.IsEnd schema.are_one schema.ends_stay first (first ++ more) more [] schema.listing (schema.ready s) m (sym (append-nil (first ++ more)))
    lead tt led (refused_ends e m refused) in
    tells_not s e tells (subst (IsRefusedAt e) (sym end.1) refused)

one_schema : (e d : Refusal) (own : List Event) → SchemaRefused e own → SchemaRefused d own → e ≡ d
one_schema e d own (m, lead, refused) (n, led, denied) =
    one_refused e d n (subst (IsRefusedAt e) (one_lead schema.Goes schema.are_one own schema.listing m n lead led) refused) denied

pub schema_stage : IsStage HasRead SchemaRefused
schema_stage = record {
  same = same_schema;
  apart = schema_apart;
  one = one_schema;
  whole = λ s own has. schema.leads_answered own (schema.ready s) has.2;
  ended = λ e own refused. schema.leads_answered own refused.0 refused.1;
}

-- ---- a listing

abbrev pub Listed : ℕ → List Event → Type 0
Listed latest own = DidLatest (Ok latest) own

abbrev pub NoRefusal : Refusal → List Event → Type 0
NoRefusal e own = ⊥

one_listing : (a b : ℕ) (first other more rest : List Event) → Listed a first → Listed b other → first ++ more ≡ other ++ rest → (a ≡ b) × (more ≡ rest)
one_listing a b first other more rest (names, is, at) (others, was, there) together =
    let both : listed_snapshots names ∷ more ≡ listed_snapshots others ∷ rest =
    ap (λ (own : List Event). own ++ more) (sym at) ∙ together ∙ ap (λ (own : List Event). own ++ rest) there in
    let same = latests.same_names names others (head_same (listed_snapshots names) (listed_snapshots others) more rest both) in (
      latests.one_latest names.items a b is (subst (λ (names : List (List ℕ)). IsLatest names b) (sym same) was),
      tail_same (listed_snapshots names) (listed_snapshots others) more rest both,
    )

pub listing_stage : IsStage Listed NoRefusal
listing_stage = record {
  same = one_listing;
  apart = λ latest first more e did refused. refused;
  one = λ e d own refused denied. absurd refused;
  whole = latests.has_answered;
  ended = λ e own refused. absurd refused;
}

-- ---- the view of the starting table, and its files

module _ (a : Asked) where
  abbrev pub Viewed : view.Place → List Event → Type 0
  Viewed m own = Leads (view.Goes a) own (view.start a) m × ((v : View) × view.IsViewAt a v m)

  abbrev pub ViewRefused : Refusal → List Event → Type 0
  ViewRefused e own = (m : view.Place) × Leads (view.Goes a) own (view.start a) m × view.IsRefusedAt a e m

  module _ (laws : view.OneLaws) where
    same_view : (m n : view.Place) (first other more rest : List Event) → Viewed m first → Viewed n other → first ++ more ≡ other ++ rest → (m ≡ n) × (more ≡ rest)
    same_view m n first other more rest (lead, (v, at)) (led, (w, was)) is =
        let end = one_end (view.Goes a) (view.IsEnd a) (view.are_one a laws) (view.ends_stay a) first other more rest (view.start a) m n is
        lead (view.view_ends a v m at) led (view.view_ends a w n was) in
        (end.1, end.2)

    view_apart : (m : view.Place) (first more : List Event) (e : Refusal) → Viewed m first → ViewRefused e (first ++ more) → ⊥
    view_apart m first more e (lead, (v, at)) (n, led, refused) =
        let end = one_end (view.Goes a) (view.IsEnd a) (view.are_one a laws) (view.ends_stay a) first (first ++ more) more [] (view.start a) m n (sym (append-nil (first ++ more)))
        lead (view.view_ends a v m at) led (view.refused_ends a e n refused) in
        view.view_not_refused a laws v e m at (subst (view.IsRefusedAt a e) (sym end.1) refused)

    one_view_refused : (e d : Refusal) (own : List Event) → ViewRefused e own → ViewRefused d own → e ≡ d
    one_view_refused e d own (m, lead, refused) (n, led, denied) =
        view.one_refused a laws e d n (subst (view.IsRefusedAt a e) (one_lead (view.Goes a) (view.are_one a laws) own (view.start a) m n lead led) refused) denied

    pub view_stage : IsStage Viewed ViewRefused
    view_stage = record {
      same = same_view;
      apart = view_apart;
      one = one_view_refused;
      whole = λ m own did. view.leads_answered a own m did.0;
      ended = λ e own refused. view.leads_answered a own refused.0 refused.1;
    }

module _ (c : Chosen) where
  abbrev pub Taken : Collected → List Event → Type 0
  Taken col own = group.LeadsTo c own (group.files col [])

  abbrev pub FilesRefused : Refusal → List Event → Type 0
  FilesRefused e own = group.LeadsTo c own (group.over e)

  abbrev AreFilesEnd : group.Place → Type 0
  AreFilesEnd (group.files col []) = Unit {0}
  AreFilesEnd (group.over e) = Unit {0}
  AreFilesEnd m = ⊥

  none_given : (answer : Option Answer) (m new : group.Place) → ((answer : Answer) → group.After c.id m answer new → ⊥) → group.Given c.id m answer new → ⊥
  none_given None m new none goes = goes
  none_given (Some answer) m new none goes = none answer goes

  files_stay : Stays (group.Goes c.id) AreFilesEnd
  files_stay (group.files col []) new event ends goes = none_given event.answer (group.files col []) new (λ answer goes. goes) goes
  files_stay (group.over e) new event ends goes = none_given event.answer (group.over e) new (λ answer goes. goes) goes
  files_stay m new event ends goes = absurd ends

  same_files : (col other : Collected) → group.files col [] ≡ group.files other [] → col ≡ other
  same_files col other is = cc

  files_over : (col : Collected) (e : Refusal) → group.files col [] ≡ group.over e → ⊥
  files_over col e is = cc

  same_over : (e d : Refusal) → group.over e ≡ group.over d → e ≡ d
  same_over e d is = cc

  module _ (laws : group.FileLaws) where
    same_taken : (col others : Collected) (first other more rest : List Event) → Taken col first → Taken others other → first ++ more ≡ other ++ rest
        → (col ≡ others) × (more ≡ rest)
    same_taken col others first other more rest lead led is =
        let end = one_end (group.Goes c.id) AreFilesEnd (group.are_one laws c.id) files_stay first other more rest (group.start c) (group.files col []) (group.files others []) is
        lead tt led tt in
        (same_files col others end.1, end.2)

    taken_apart : (col : Collected) (first more : List Event) (e : Refusal) → Taken col first → FilesRefused e (first ++ more) → ⊥
    taken_apart col first more e lead led =
        let end = one_end (group.Goes c.id) AreFilesEnd (group.are_one laws c.id) files_stay first (first ++ more) more [] (group.start c) (group.files col []) (group.over e)
        (sym (append-nil (first ++ more))) lead tt led tt in
        files_over col e end.1

    pub files_stage : IsStage Taken FilesRefused
    files_stage = record {
      same = same_taken;
      apart = taken_apart;
      one = λ e d own refused denied. same_over e d (group.one_place c laws own (group.over e) (group.over d) refused denied);
      whole = λ col own did. group.lead_answered c own (group.files col []) did;
      ended = λ e own refused. group.lead_answered c own (group.over e) refused;
    }

-- ---- a frame

module _ (a : LogAskedView) where
  -- all files of the changelog were read, whose rows make this text
  abbrev pub Framed : List ℕ → List Event → Type 0
  Framed text own = (rows : List Stamped) × Leads (frame.Goes a) own frame.opening (frame.files [] rows) × (text ≡ merged_frame a.schema a.id rows)

  abbrev pub FrameRefused : Refusal → List Event → Type 0
  FrameRefused e own = Leads (frame.Goes a) own frame.opening (frame.over e)

  abbrev IsFrameEnd : frame.Place → Type 0
  IsFrameEnd (frame.files [] rows) = Unit {0}
  IsFrameEnd (frame.over e) = Unit {0}
  IsFrameEnd m = ⊥

  frame_stay : Stays (frame.Goes a) IsFrameEnd
  frame_stay (frame.files [] rows) new event ends goes = goes.0
  frame_stay (frame.over e) new event ends goes = goes.0
  frame_stay m new event ends goes = absurd ends

  same_rows : (rows other : List Stamped) → frame.files [] rows ≡ frame.files [] other → rows ≡ other
  same_rows rows other is = cc

  frame_over : (rows : List Stamped) (e : Refusal) → frame.files [] rows ≡ frame.over e → ⊥
  frame_over rows e is = cc

  one_over : (e d : Refusal) → frame.over e ≡ frame.over d → e ≡ d
  one_over e d is = cc

  pub framed : (text : List ℕ) (own : List Event) → HasFrame a text own → Framed text own
  framed text own (l, rows, part, is) =
      (rows, frame.part_lead a l rows [] own part, is ∙ ap (λ (s : TableSchema). merged_frame s a.id rows) (frame.log_schema a l part.first part.logged))

  module _ (laws : frame.OneLaws) where
    same_framed : (text others : List ℕ) (first other more rest : List Event) → Framed text first → Framed others other → first ++ more ≡ other ++ rest
        → (text ≡ others) × (more ≡ rest)
    same_framed text others first other more rest (rows, lead, made) (also, led, made_too) is =
        let end = one_end (frame.Goes a) IsFrameEnd (frame.are_one laws a) frame_stay first other more rest frame.opening (frame.files [] rows) (frame.files [] also) is
        lead tt led tt in
        (made ∙ ap (merged_frame a.schema a.id) (same_rows rows also end.1) ∙ sym made_too, end.2)

    framed_apart : (text : List ℕ) (first more : List Event) (e : Refusal) → Framed text first → FrameRefused e (first ++ more) → ⊥
    framed_apart text first more e (rows, lead, made) led =
        let end = one_end (frame.Goes a) IsFrameEnd (frame.are_one laws a) frame_stay first (first ++ more) more [] frame.opening (frame.files [] rows) (frame.over e)
        (sym (append-nil (first ++ more))) lead tt led tt in
        frame_over rows e end.1

    pub frame_stage : IsStage Framed FrameRefused
    frame_stage = record {
      same = same_framed;
      apart = framed_apart;
      one = λ e d own refused denied.
          one_over e d (one_lead (frame.Goes a) (frame.are_one laws a) own frame.opening (frame.over e) (frame.over d) refused denied);
      whole = λ text own did. frame.leads_answered a own (frame.files [] did.0) did.1;
      ended = λ e own refused. frame.leads_answered a own (frame.over e) refused;
    }

-- ---- all of them, one after another

abbrev pub asked : TableSchema → ℕ → Asked
asked s start = (passed_at s (start - 1)).table

-- so many frames are left, from this snapshot on
abbrev Frames : ℕ → TableSchema → ℕ → List Event → Option Refusal → Type 0
Frames zero s id own x = (own ≡ []) × (x ≡ None)
Frames (suc count) s id own x =
    Goes (Framed (log_asked_of s id)) (FrameRefused (log_asked_of s id)) (λ text. Frames count s (id + 1)) own x

-- the snapshots are listed, and the frames up to the latest are left
abbrev Listing : TableSchema → ℕ → List Event → Option Refusal → Type 0
Listing s start own x = Goes Listed NoRefusal (λ latest. Frames (count_from start latest) s start) own x

-- the view of the starting table was read to here, and its files are left
abbrev Reading : TableSchema → ℕ → view.Place → List Event → Option Refusal → Type 0
Reading s start m own x =
    (c : Chosen) × ((v : View) × view.IsViewAt (asked s start) v m × (all_of shown.Passed v ≡ c))
    × Goes (Taken c) (FilesRefused c) (λ col. Listing s start) own x

-- the starting table is left where it is asked for
abbrev Table : Bool → TableSchema → ℕ → List Event → Option Refusal → Type 0
Table false s start own x = Listing s start own x
Table true s start own x = Goes (Viewed (asked s start)) (ViewRefused (asked s start)) (Reading s start) own x

-- the start is too high for the latest that was listed, and no call follows; or it isn't
abbrev Begins : Option ℕ → Bool → TableSchema → ℕ → List Event → Option Refusal → Type 0
Begins from full s latest own x =
    ((own ≡ []) × ((id : ℕ) × (from ≡ Some id) × (suc latest < id) × (x ≡ Some (refusals.NoSnapshot id latest))))
    ⊎ ((start_of from latest ≤ suc latest) × Table full s (start_of from latest) own x)

abbrev All : Option ℕ → Bool → List Event → Option Refusal → Type 0
All from full own x = Goes HasRead SchemaRefused (λ s. Goes Listed NoRefusal (Begins from full s)) own x

pub above_not : (from : Option ℕ) (id latest : ℕ) → from ≡ Some id → suc latest < id → start_of from latest ≤ suc latest → ⊥
above_not from id latest is above low =
    let high : id ≤ suc latest = subst (λ (from : Option ℕ). start_of from latest ≤ suc latest) is low in
    omega (arith, high, above)

pub same_id : (id other : ℕ) → ◌≡◌ {A = Option ℕ} (Some id) (Some other) → id ≡ other
same_id id other is = cc

pub record OneLaws : Type 0 where
  pub scans : scans.OneLaws
  pub frames : frame.OneLaws

module _ (laws : OneLaws) where
  frames_one : (count : ℕ) (s : TableSchema) (id : ℕ) → IsOne (λ own x. Frames count s id own x)
  frames_one zero s id = record {
    one = λ own x y is was. is.1 ∙ sym was.1;
    whole = λ own x is. subst (AllByRecursion IsAnswered) (sym is.0) tt;
  }
  frames_one (suc count) s id =
      one_behind (Framed (log_asked_of s id)) (FrameRefused (log_asked_of s id)) (λ text. Frames count s (id + 1))
      (frame_stage (log_asked_of s id) laws.frames) (λ text. frames_one count s (id + 1))

  listing_one : (s : TableSchema) (start : ℕ) → IsOne (λ own x. Listing s start own x)
  listing_one s start =
      one_behind Listed NoRefusal (λ latest. Frames (count_from start latest) s start) listing_stage (λ latest. frames_one (count_from start latest) s start)

  files_one : (s : TableSchema) (start : ℕ) (c : Chosen) → IsOne (λ own x. Goes (Taken c) (FilesRefused c) (λ col. Listing s start) own x)
  files_one s start c =
      one_behind (Taken c) (FilesRefused c) (λ col. Listing s start) (files_stage c laws.scans.read) (λ col. listing_one s start)

  one_reading : (s : TableSchema) (start : ℕ) (m : view.Place) (own : List Event) (x y : Option Refusal) → Reading s start m own x → Reading s start m own y → x ≡ y
  one_reading s start m own x y (c, (v, is, at), then) (d, (w, was, there), behind) =
      let same : c ≡ d = sym at ∙ same_asked laws.scans shown.Passed v w (one_view laws.scans (asked s start) v w m is was) ∙ there in
      (files_one s start d).one own x y
      (subst (λ (c : Chosen). Goes (Taken c) (FilesRefused c) (λ col. Listing s start) own x) same then) behind

  reading_one : (s : TableSchema) (start : ℕ) (m : view.Place) → IsOne (λ own x. Reading s start m own x)
  reading_one s start m = record { one = one_reading s start m; whole = λ own x is. (files_one s start is.0).whole own x is.2 }

  table_one : (full : Bool) (s : TableSchema) (start : ℕ) → IsOne (λ own x. Table full s start own x)
  table_one false s start = listing_one s start
  table_one true s start =
      one_behind (Viewed (asked s start)) (ViewRefused (asked s start)) (Reading s start) (view_stage (asked s start) laws.scans.reader) (reading_one s start)

  module _ (from : Option ℕ) (full : Bool) where
    one_begin : (s : TableSchema) (latest : ℕ) (own : List Event) (x y : Option Refusal) → Begins from full s latest own x → Begins from full s latest own y → x ≡ y
    one_begin s latest own x y (inl (none, (id, is, above, at))) (inl (also, (other, was, over, there))) =
        at ∙ ap (λ (id : ℕ). Some (refusals.NoSnapshot id latest)) (same_id id other (sym is ∙ was)) ∙ sym there
    one_begin s latest own x y (inl (none, (id, is, above, at))) (inr (low, then)) = absurd (above_not from id latest is above low)
    one_begin s latest own x y (inr (low, then)) (inl (none, (id, is, above, at))) = absurd (above_not from id latest is above low)
    one_begin s latest own x y (inr (low, then)) (inr (also, behind)) = (table_one full s (start_of from latest)).one own x y then behind

    whole_begin : (s : TableSchema) (latest : ℕ) (own : List Event) (x : Option Refusal) → Begins from full s latest own x → AllByRecursion IsAnswered own
    whole_begin s latest own x (inl (none, above)) = subst (AllByRecursion IsAnswered) (sym none) tt
    whole_begin s latest own x (inr (low, then)) = (table_one full s (start_of from latest)).whole own x then

    all_one : IsOne (λ own x. All from full own x)
    all_one =
        one_behind HasRead SchemaRefused (λ s. Goes Listed NoRefusal (Begins from full s)) schema_stage
        (λ s. one_behind Listed NoRefusal (Begins from full s) listing_stage (λ latest. record { one = one_begin s latest; whole = whole_begin s latest }))

-- ---- how far the calls come

pub has_read : (s : TableSchema) (own : List Event) → HasSchema s own → HasRead s own
has_read s own (tells, declared, did) = (tells, declared, schema.ready_lead s own did)

-- frames that were read, and those that are left
in_frames : (count left : ℕ) (s : TableSchema) (start : ℕ) (text : List ℕ) (own more : List Event) (x : Option Refusal) → ReadsFrames s start count text own
    → Frames left s (start + count) more x → Frames (count + left) s start (own ++ more) x
in_frames zero left s start text own more x (nothing, none) then =
    let same : left ≡ 0 + left = omega arith in
    let at : start + 0 ≡ start = omega arith in
    subst (λ (left : ℕ). Frames left s start (own ++ more) x) same
    (subst (λ (own : List Event). Frames left s start (own ++ more) x) (sym none) (subst (λ (id : ℕ). Frames left s id more x) at then))
in_frames (suc count) left s start text own more x (before, last, (earlier, later, reads, did, is), at) then =
    let id : start + suc count ≡ (start + count) + 1 = omega arith in
    let size : count + suc left ≡ suc count + left = omega arith in
    let next : Frames (suc left) s (start + count) (later ++ more) x =
    inl (last, later, more, framed (log_asked_of s (start + count)) last later did, refl, subst (λ (id : ℕ). Frames left s id more x) id then) in
    subst (λ (left : ℕ). Frames left s start (own ++ more) x) size
    (subst (λ (own : List Event). Frames (count + suc left) s start own x) (sym (append_assoc earlier later more) ∙ ap (λ (own : List Event). own ++ more) (sym is))
    (in_frames count (suc left) s start before earlier (later ++ more) x reads next))

-- the starting table that was read, if it is asked for, and the listing behind it
in_table : view.OneLaws → (full : Bool) (s : TableSchema) (start : ℕ) (text : List ℕ) (own more : List Event) (x : Option Refusal) → ReadsTable s full start text own
    → Listing s start more x → Table full s start (own ++ more) x
in_table laws false s start text own more x (nothing, none) then = subst (λ (own : List Event). Listing s start (own ++ more) x) (sym none) then
in_table laws true s start text own more x (rows, (id, scan), is) then =
    let v = scan.view in
    let after = scan.all_read in
    let viewed = view.view_lead (asked s start) laws v after.first after.viewed in
    let taken = group.part_lead (all_of shown.Passed v) scan.collected [] after.reads after.so in
    let rest : Reading s start viewed.0 (after.reads ++ more) x =
    (all_of shown.Passed v, (v, viewed.2, refl), inl (with_groups [] scan.collected, after.reads, more, taken, refl, then)) in
    inl (
      viewed.0,
      after.first,
      after.reads ++ more,
      (viewed.1, (v, viewed.2)),
      ap (λ (own : List Event). own ++ more) after.is ∙ append_assoc after.first after.reads more,
      rest,
    )

module _ (from : Option ℕ) (full : Bool) where
  in_start : (s : TableSchema) (start : ℕ) (own more : List Event) (x : Option Refusal) → Starts s from start own → Table full s start more x → All from full (own ++ more) x
  in_start s start own more x (latest, (earlier, later, has, did, is), at, low, high) then =
      let begins : Begins from full s latest more x =
      inr (subst (λ (start : ℕ). start ≤ suc latest) at high, subst (λ (start : ℕ). Table full s start more x) at then) in
      inl (
        s,
        earlier,
        later ++ more,
        has_read s earlier has,
        ap (λ (own : List Event). own ++ more) is ∙ append_assoc earlier later more,
        inl (latest, later, more, did, refl, begins),
      )

  in_lists : view.OneLaws → (s : TableSchema) (start latest : ℕ) (text : List ℕ) (own more : List Event) (x : Option Refusal) → Lists s from full start latest text own
      → Frames (count_from start latest) s start more x → All from full (own ++ more) x
  in_lists laws s start latest text own more x (opened, listed, (began, read, starts, table, at), did, is) then =
      let behind : Listing s start (listed ++ more) x = inl (latest, listed, more, did, refl, then) in
      subst (λ (own : List Event). All from full own x)
      (sym (append_assoc began read (listed ++ more)) ∙ ap (λ (own : List Event). own ++ (listed ++ more)) (sym at)
      ∙ sym (append_assoc opened listed more) ∙ ap (λ (own : List Event). own ++ more) (sym is))
      (in_start s start began (read ++ (listed ++ more)) x starts (in_table laws full s start text read (listed ++ more) x table behind))

-- ---- what they show

-- no call shows it; or the last call failed; or they show this
data IsShown (from : Option ℕ) (full : Bool) (answer : Option Refusal) (own : List Event) : Type 0 where
  of_none : IsUnshown answer → IsShown from full answer own
  of_failure : (e : Refusal) → answer ≡ Some e → Fails e own → IsShown from full answer own
  of_calls : All from full own answer → IsShown from full answer own

pub fails_behind : (e : Refusal) (before own whole : List Event) → whole ≡ before ++ own → Fails e own → Fails e whole
fails_behind e before own whole is (earlier, call, names, at) =
    (before ++ earlier, call, names, is ∙ ap (λ (own : List Event). before ++ own) at ∙ sym (append_assoc before earlier (faulted call ∷ [])))

-- it is that memory ran out, or the last call failed, or else this
abbrev pub IsElse : Type 0 → Refusal → List Event → Type 0
IsElse P e own = (e ≡ refusals.Memory) ⊎ (Fails e own ⊎ P)

pub schema_refused : (e : Refusal) (own : List Event) → ShowsSchema e own → IsElse (SchemaRefused e own) e own
schema_refused e own (of_reader shows) = by (schema.is_shown e own shows)
  where
    by : schema.IsShown e own → IsElse (SchemaRefused e own) e own
    by (schema.of_memory memory) = inl memory
    by (schema.of_failure fails) = inr (inl fails)
    by (schema.of_place lead) = inr (inr (schema.over e, lead, refl))
schema_refused e own (of_producer s none is did) = inr (inr (schema.ready s, schema.ready_lead s own did, (none, is)))

pub listing_refused : (e : Refusal) (own : List Event) → DidLatest (Err e) own → IsElse ⊥ e own
listing_refused e own shows = by (latests.shown e own shows)
  where
    by : (e ≡ refusals.Memory) ⊎ Fails e own → IsElse ⊥ e own
    by (inl memory) = inl memory
    by (inr fails) = inr (inl fails)

module _ (laws : view.OneLaws) (s : TableSchema) (start : ℕ) where
  -- the scan of the starting table
  abbrev Scanned : Refusal → List Event → Type 0
  Scanned e own = Table true s start own (Some e)

  files_refused : (e : Refusal) (own : List Event) → IsOfFiles e → (v : View) → AfterView (asked s start) v (files_trace.Shows (all_of shown.Passed v) e) own → Scanned e own
  files_refused e own fault v after =
      let viewed = view.view_lead (asked s start) laws v after.first after.viewed in
      let over = group.shows_lead (all_of shown.Passed v) e after.reads fault after.so in
      inl (viewed.0, after.first, after.reads, (viewed.1, (v, viewed.2)), after.is, (all_of shown.Passed v, (v, viewed.2, refl), inr (e, refl, over)))

  by_files : (e : Refusal) (own : List Event) → ShowsOfFiles (passed_at s (start - 1)) e own → IsElse (Scanned e own) e own
  by_files refusals.Memory own shows = inl refl
  by_files (refusals.StoreFault path) own fails = inr (inl (failed scanner_machine.next_call (DidSoFar (passed_at s (start - 1))) path own fails))
  by_files (refusals.Expired id) own (v, after) = inr (inr (files_refused (refusals.Expired id) own (expired id) v after))
  by_files (refusals.Damaged path place) own (v, after) = inr (inr (files_refused (refusals.Damaged path place) own (damaged path place) v after))
  by_files (refusals.Unsupported what text) own (v, after) = inr (inr (files_refused (refusals.Unsupported what text) own (unsupported what text) v after))
  by_files e own (v, after) = absurd after.so

  by_view : (e : Refusal) (own : List Event) → view.IsShown (asked s start) e own → IsElse (Scanned e own) e own
  by_view e own (view.of_memory memory) = inl memory
  by_view e own (view.of_failure fails) = inr (inl fails)
  by_view e own (view.of_place m lead refused) = inr (inr (inr (e, refl, (m, lead, refused))))

  table_refused : (e : Refusal) (own : List Event) → DidTable s start (Err e) own → IsElse (Scanned e own) e own
  table_refused e own (inl (inl shows)) = by_view e own (view.is_shown (asked s start) laws e own shows)
  table_refused e own (inl (inr shows)) = by_files e own shows
  table_refused e own (inr (memory, rows, did)) = inl memory

pub frame_refused : (s : TableSchema) (id : ℕ) (e : Refusal) (own : List Event) → DidFrame s id (Err e) own → IsElse (FrameRefused (log_asked_of s id) e own) e own
frame_refused s id e own did = by (frame.is_shown (log_asked_of s id) (Err e) own did)
  where
    same_err : (e d : Refusal) → ◌≡◌ {A = Result (List ℕ) Refusal} (Err e) (Err d) → e ≡ d
    same_err e d is = cc

    no_text : (text : List ℕ) → ◌≡◌ {A = Result (List ℕ) Refusal} (Err e) (Ok text) → ⊥
    no_text text is = cc

    by : frame.IsShown (log_asked_of s id) (Err e) own → IsElse (FrameRefused (log_asked_of s id) e own) e own
    by (frame.of_memory memory) = inl (same_err e refusals.Memory memory)
    by (frame.of_failure d is fails) = inr (inl (subst (λ (e : Refusal). Fails e own) (sym (same_err e d is)) fails))
    by (frame.of_refusal d is lead) = inr (inr (subst (λ (e : Refusal). FrameRefused (log_asked_of s id) e own) (sym (same_err e d is)) lead))
    by (frame.of_frame rows is lead) = absurd (no_text (merged_frame s id rows) is)

module _ (laws : view.OneLaws) (from : Option ℕ) (full : Bool) where
  -- what is shown at the end of some calls is shown by all of them
  at_last : (P : Type 0) (e : Refusal) (before own whole : List Event) → whole ≡ before ++ own → (P → All from full whole (Some e)) → IsElse P e own
      → IsShown from full (Some e) whole
  at_last P e before own whole is goes (inl memory) = of_none (inl (ap Some memory))
  at_last P e before own whole is goes (inr (inl fails)) = of_failure e refl (fails_behind e before own whole is fails)
  at_last P e before own whole is goes (inr (inr shows)) = of_calls (goes shows)

  by_first : (e : Refusal) (own : List Event) → ShowsFirst from full e own → IsShown from full (Some e) own
  by_first e own (of_schema shows) = at_last (SchemaRefused e own) e [] own own refl (λ refused. inr (e, refl, refused)) (schema_refused e own shows)
  by_first e own (of_listing s (earlier, later, has, did, is)) = at_last ⊥ e earlier later own is (λ none. absurd none) (listing_refused e later did)
  by_first e own (of_start s id latest asks above is (earlier, later, has, did, at)) =
      of_calls (inl (s, earlier, later, has_read s earlier has, at, inl (latest, later, [], did, sym (append-nil later), inl (refl, (id, asks, above, ap Some is)))))
  by_first e own (of_table s start is (earlier, later, starts, did, at)) =
      at_last (Table true s start later (Some e)) e earlier later own at
      (λ shows. subst (λ (own : List Event). All from full own (Some e)) (sym at)
      (in_start from full s start earlier later (Some e) starts (subst (λ (full : Bool). Table full s start later (Some e)) (sym is) shows)))
      (table_refused laws s start e later did)

  by_frame : (e : Refusal) (count : ℕ) (text : List ℕ) (own : List Event) → GoesOn from full count text (λ s id. DidFrame s id (Err e)) own
      → IsShown from full (Some e) own
  by_frame e count text own (s, start, latest, table, frames, below, (earlier, later, lists, (read, last, reads, did, at), is), parts) =
      let left : count + suc (count_from start latest - suc count) ≡ count_from start latest = omega (arith, below) in
      let whole : own ≡ (earlier ++ read) ++ last = is ∙ ap (λ (later : List Event). earlier ++ later) at ∙ sym (append_assoc earlier read last) in
      at_last (FrameRefused (log_asked_of s (start + count)) e last) e (earlier ++ read) last own whole
      (λ refused. subst (λ (own : List Event). All from full own (Some e)) (ap (λ (later : List Event). earlier ++ later) (sym at) ∙ sym is)
      (in_lists from full laws s start latest table earlier (read ++ last) (Some e) lists
      (subst (λ (count : ℕ). Frames count s start (read ++ last) (Some e)) left
      (in_frames count (suc (count_from start latest - suc count)) s start frames read last (Some e) reads (inr (e, refl, refused))))))
      (frame_refused s (start + count) e last did)

  by_all : (count : ℕ) (text : List ℕ) (own : List Event) → ReadsAll from full count text own → IsShown from full None own
  by_all count text own (s, start, latest, table, frames, size, (earlier, later, lists, reads, is), parts) =
      let none : count + 0 ≡ count_from start latest = omega (arith, size) in
      of_calls (subst (λ (own : List Event). All from full own None) (sym is)
      (in_lists from full laws s start latest table earlier later None lists
      (subst (λ (count : ℕ). Frames count s start later None) none
      (subst (λ (later : List Event). Frames (count + 0) s start later None) (append-nil later)
      (in_frames count 0 s start frames later [] None reads (refl, refl))))))

  is_shown : (answer : Option Refusal) (before after : SinkView) (own : List Event) → Ends from full before after own answer → IsShown from full answer own
  is_shown answer before after own (all count text reads took) = by_all count text own reads
  is_shown answer before after own (fails_table s start text is opens failed took) = of_none (inr refl)
  is_shown answer before after own (fails_frame count text last goes failed took) = of_none (inr refl)
  is_shown answer before after own (refused_first e shows same) = by_first e own shows
  is_shown answer before after own (refused_listing e s start text (earlier, later, opens, did, is) took) =
      at_last ⊥ e earlier later own is (λ none. absurd none) (listing_refused e later did)
  is_shown answer before after own (refused_frame e count text goes took) = by_frame e count text own goes

-- ---- one answer

module _ (laws : OneLaws) (from : Option ℕ) (full : Bool) where
  one_shown : (own : List Event) (one other : Option Refusal) → IsShown from full one own → IsShown from full other own
      → (one ≡ other) ⊎ (IsUnshown one ⊎ IsUnshown other)
  one_shown own one other (of_none none) was = inr (inl none)
  one_shown own one other is (of_none none) = inr (inr none)
  one_shown own one other (of_failure e is fails) (of_failure d was failing) = inl (is ∙ ap Some (one_failed e d own fails failing) ∙ sym was)
  one_shown own one other (of_failure e is fails) (of_calls goes) = absurd (failed_not e own fails ((all_one laws from full).whole own other goes))
  one_shown own one other (of_calls goes) (of_failure e was fails) = absurd (failed_not e own fails ((all_one laws from full).whole own one goes))
  one_shown own one other (of_calls goes) (of_calls went) = inl ((all_one laws from full).one own one other goes went)

  failed_shown : (own : List Event) (answer : Option Refusal) (e : Refusal) → Fails e own → IsShown from full answer own → IsUnshown answer ⊎ (answer ≡ Some e)
  failed_shown own answer e fails (of_none none) = inl none
  failed_shown own answer e fails (of_failure d is failing) = inr (is ∙ ap Some (one_failed d e own failing fails))
  failed_shown own answer e fails (of_calls goes) = absurd (failed_not e own fails ((all_one laws from full).whole own answer goes))

pub one_answer : OneLaws → (from : Option ℕ) (full : Bool) (own : List Event) (before after first last : SinkView) (one other : Option Refusal)
    → Ends from full before after own one → Ends from full first last own other → (one ≡ other) ⊎ (IsUnshown one ⊎ IsUnshown other)
one_answer laws from full own before after first last one other ends ended =
    one_shown laws from full own one other (is_shown laws.scans.reader from full one before after own ends) (is_shown laws.scans.reader from full other first last own ended)

pub failed_answer : OneLaws → (from : Option ℕ) (full : Bool) (earlier : List Event) (call : Call) (before after : SinkView) (answer : Option Refusal)
    → Ends from full before after (earlier ++ faulted call ∷ []) answer → IsUnshown answer ⊎ (answer ≡ Some (refusals.StoreFault (path_of call)))
failed_answer laws from full earlier call before after answer ends =
    failed_shown laws from full (earlier ++ faulted call ∷ []) answer (refusals.StoreFault (path_of call)) (earlier, call, refl, refl)
    (is_shown laws.scans.reader from full answer before after (earlier ++ faulted call ∷ []) ends)
