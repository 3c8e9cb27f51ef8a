-- The whole views of snapshots, one after another: their calls lead to one place, but that memory may run out.
use Rattle.std.proofs.Common.{◌≡◌, inl, inr, ℕ, zero, suc, ◌+◌, ◌<◌, List, [], ◌∷◌, ◌++◌, length, Option, Some, refl, sym, ap, subst, ◌∙◌, append_assoc, arith}
use Rattle.pm_values.specs.declared.refusal.Refusal.{Refusal}
use Rattle.pm_store.specs.declared.answer.Answer.{Answer}
use Rattle.pm_store.specs.declared.answer.Answer.TheVariants as answers
use Rattle.pm_machine.specs.Trace.{Event}
use Rattle.pm_schema.specs.declared.schema.TableSchema.{TableSchema}
use Rattle.pm_expire_paths.specs.Dropping.{DroppingView}
use Rattle.pm_read_schema.proofs.LeadLemmas.{head_same}
use Rattle.pm_read_table.specs.Trace as reader
use Rattle.pm_read_table.specs.declared.phase.Phase.TheVariants as readers
use Rattle.pm_read_table.specs.declared.view.View.{View}
use Rattle.pm_read_table.proofs.OneLemmas as view
use Rattle.pm_read_log.specs.Log.{LogAskedView, log_asked_of}
use Rattle.pm_read_whole.specs.Trace as whole
use Rattle.pm_read_whole.specs.Trace.{read_first, view_asked}
use Rattle.pm_read_whole.specs.Whole.{IsReady}
use Rattle.pm_read_whole.specs.declared.phase.Phase as whole_phase
use Rattle.pm_read_whole.specs.declared.phase.Phase.TheVariants as wholes
use Rattle.pm_announce.specs.declared.phase.Announced.{Announced}
use Rattle.pm_expire.specs.Trace.{HaveViews}
use Rattle.pm_expire.proofs.OneLogLemmas.{EndsLog, HasAll, log_all, log_part, log_shown}
use Rattle.pm_expire.proofs.PartLemmas.{AreAnswered, EndsEither, HasBoth, HasLed, IsPart, IsShown, behind, fails_moved, lead_part, of_end, of_failure, of_memory, shown_first, shown_then, then_part}

-- ---- one view

bytes_in : Option Answer → List ℕ
bytes_in (Some (answers.Found (Some bytes))) = bytes
bytes_in other = []

same_bytes : (a : LogAskedView) (bytes other : List ℕ) → read_first a bytes ≡ read_first a other → bytes ≡ other
unfolding bytes_in
same_bytes a bytes other is = ap (λ (event : Event). bytes_in event.answer) is

module _ (a : LogAskedView) where
  abbrev IsRead : Unit {0} → view.Place → Type 0
  IsRead u m = (v : View) × view.IsViewAt (view_asked a) v m

  abbrev IsRefused : Refusal → view.Place → Type 0
  IsRefused e m = view.IsRefusedAt (view_asked a) e m

  abbrev HasRead : Unit {0} → List Event → Type 0
  HasRead u own = HasLed (view.Goes (view_asked a)) (view.start (view_asked a)) IsRead u own

  -- the view was read, and the first call found these bytes of the snapshot
  abbrev pub HasView : List ℕ → List Event → Type 0
  HasView bytes own = HasRead tt own × ((rest : List Event) × (own ≡ read_first a bytes ∷ rest))

  abbrev pub EndsView : Refusal → List Event → Type 0
  EndsView e own = HasLed (view.Goes (view_asked a)) (view.start (view_asked a)) IsRefused e own

  -- then its changelog was
  abbrev pub HasLog : List ℕ → Unit {0} → List Event → Type 0
  HasLog bytes u own = HasAll a u (read_first a bytes ∷ own)

  abbrev pub EndsLogAfter : List ℕ → Refusal → List Event → Type 0
  EndsLogAfter bytes e own = EndsLog a e (read_first a bytes ∷ own)

  abbrev pub HasWhole : Unit {0} → List Event → Type 0
  HasWhole u own = HasBoth HasView HasLog u own

  abbrev pub EndsWhole : Refusal → List Event → Type 0
  EndsWhole e own = EndsEither HasView EndsView EndsLogAfter e own

module _ (laws : view.OneLaws) (a : LogAskedView) where
  read_part : IsPart (HasRead a) (EndsView a)
  read_part = lead_part (view.Goes (view_asked a)) (view.start (view_asked a)) (IsRead a) (IsRefused a) (view.IsEnd (view_asked a)) (record {
    are_one = view.are_one (view_asked a) laws;
    stays = view.ends_stay (view_asked a);
    answered = view.leads_answered (view_asked a);
    at_ends = λ u m is. view.view_ends (view_asked a) is.0 m is.1;
    over_ends = λ e m is. view.refused_ends (view_asked a) e m is;
    one_at = λ u w m is was. refl;
    one_over = λ e d m is was. view.one_refused (view_asked a) laws e d m is was;
    not_over = λ u e m is was. view.view_not_refused (view_asked a) laws is.0 e m is.1 was;
  })

  view_part : IsPart (HasView a) (EndsView a)
  view_part = record {
    one_part = one;
    not_end = λ bytes e first more own is has ends. read_part.not_end tt e first more own is has.0 ends;
    has_answered = λ bytes own has. read_part.has_answered tt own has.0;
    tail = read_part.tail;
  }
    where
      one : (bytes other : List ℕ) (first before more rest : List Event) → first ++ more ≡ before ++ rest → HasView a bytes first → HasView a other before
          → (bytes ≡ other) × (first ≡ before) × (more ≡ rest)
      one bytes other first before more rest is (read, (later, at)) (also, (last, there)) =
          let same = read_part.one_part tt tt first before more rest is read also in (
            same_bytes a bytes other (head_same (read_first a bytes) (read_first a other) later last (sym at ∙ same.1 ∙ there)),
            same.1,
            same.2,
          )

  pub whole_part : IsPart (HasWhole a) (EndsWhole a)
  whole_part =
      then_part (HasView a) (EndsView a) (HasLog a) (EndsLogAfter a) view_part
      (λ bytes. behind (HasAll a) (EndsLog a) (read_first a bytes) (log_part laws a))

  -- ---- what its calls show

  has_view : (v : View) (bytes : List ℕ) (rest : List Event) → reader.Did (view_asked a) (readers.Ready v) (read_first a bytes ∷ rest)
      → HasView a bytes (read_first a bytes ∷ rest)
  has_view v bytes rest did =
      let led = view.view_lead (view_asked a) laws v (read_first a bytes ∷ rest) did.0 in
      ((led.0, led.1, (v, led.2)), (rest, refl))

  pub has_whole : (m : whole_phase.Phase) (own : List Event) → IsReady m → whole.Did a m own → HasWhole a tt own
  has_whole (wholes.Ready v l) own ready did =
      let view_first = has_view v did.bytes did.rest did.viewed in
      (did.bytes, read_first a did.bytes ∷ did.rest, did.later, view_first, log_all a l (read_first a did.bytes ∷ did.later) did.logged, did.is)
  has_whole m own ready did = absurd ready

  abbrev Shown : (Refusal → List Event → Type 0) → Refusal → List Event → Type 0
  Shown Ends e own = IsShown (λ (e : Refusal). e) Ends e own

  by_view : (e : Refusal) (own : List Event) → view.IsShown (view_asked a) e own → Shown (EndsView a) e own
  by_view e own (view.of_memory memory) = of_memory memory
  by_view e own (view.of_failure fails) = of_failure e refl fails
  by_view e own (view.of_place m lead refused) = of_end (m, lead, refused)

  pub whole_shown : (e : Refusal) (own : List Event) → whole.Shows a e own → Shown (EndsWhole a) e own
  whole_shown e own (inl shows) =
      shown_first (λ (e : Refusal). e) (HasView a) (EndsView a) (EndsLogAfter a) e own (by_view e own (view.is_shown (view_asked a) laws e own shows))
  whole_shown e own (inr (v, after)) =
      by_log (log_shown a e (read_first a after.bytes ∷ after.later) after.logged)
    where
      by_log : Shown (EndsLog a) e (read_first a after.bytes ∷ after.later) → Shown (EndsWhole a) e own
      by_log (of_memory memory) = of_memory memory
      by_log (of_failure d is fails) =
          of_failure d is (fails_moved d (read_first a after.bytes ∷ []) (read_first a after.bytes ∷ after.rest) after.later own after.is (refl, tt) fails)
      by_log (of_end ends) =
          of_end (inr (after.bytes, read_first a after.bytes ∷ after.rest, after.later, has_view v after.bytes after.rest after.viewed, ends, after.is))

-- ---- one after another

-- so many, of one snapshot after another from an id on
abbrev pub HasViews : TableSchema → ℕ → ℕ → Unit {0} → List Event → Type 0
HasViews s zero id u own = own ≡ []
HasViews s (suc count) id u own = HasBoth (HasWhole (log_asked_of s id)) (λ (w : Unit {0}). HasViews s count (id + 1)) u own

-- one of them is refused
abbrev pub EndsViews : TableSchema → ℕ → ℕ → Refusal → List Event → Type 0
EndsViews s zero id e own = ⊥
EndsViews s (suc count) id e own =
    EndsEither (HasWhole (log_asked_of s id)) (EndsWhole (log_asked_of s id)) (λ (w : Unit {0}). EndsViews s count (id + 1)) e own

none_part : (s : TableSchema) (id : ℕ) → IsPart (HasViews s zero id) (EndsViews s zero id)
none_part s id = record {
  one_part = λ u w first other more rest is none empty. (
    refl,
    none ∙ sym empty,
    ap (λ (own : List Event). own ++ more) (sym none) ∙ is ∙ ap (λ (own : List Event). own ++ rest) empty,
  );
  not_end = λ u e first more own is none ends. ends;
  has_answered = λ u own none. subst AreAnswered (sym none) tt;
  tail = record { one_made = λ e d own ends also. absurd ends; answered = λ e own ends. absurd ends };
}

module _ (laws : view.OneLaws) (s : TableSchema) where
  pub views_part : (count id : ℕ) → IsPart (HasViews s count id) (EndsViews s count id)
  views_part zero id = none_part s id
  views_part (suc count) id =
      then_part (HasWhole (log_asked_of s id)) (EndsWhole (log_asked_of s id)) (λ (w : Unit {0}). HasViews s count (id + 1))
      (λ (w : Unit {0}). EndsViews s count (id + 1)) (whole_part laws (log_asked_of s id)) (λ u. views_part count (id + 1))

module _ (laws : view.OneLaws) (n : Announced) where
  pub has_views : (read : List whole_phase.Phase) (id : ℕ) (d e : DroppingView) (own : List Event) → HaveViews n id d read e own
      → HasViews n.found.schema (length read) id tt own
  has_views [] id d e own (same, none) = none
  has_views (m ∷ read) id d e own (next, first, rest, ready, did, adds, more, is) =
      (tt, first, rest, has_whole laws (log_asked_of n.found.schema id) m first ready did, has_views read (id + 1) next e rest more, is)

  abbrev ShownAt : ℕ → Refusal → List Event → Type 0
  ShownAt id e own = IsShown (λ (e : Refusal). e) (EndsWhole (log_asked_of n.found.schema id)) e own

  -- so many were read, and the next shows this
  pub views_shown : (count : ℕ) (read : List whole_phase.Phase) (id at : ℕ) (d f : DroppingView) (e : Refusal) (views rest own : List Event)
      → length read < count → id + length read ≡ at → HaveViews n id d read f views → ShownAt at e rest → own ≡ views ++ rest
      → IsShown (λ (e : Refusal). e) (EndsViews n.found.schema count id) e own
  views_shown zero read id at d f e views rest own fewer here have shows is = absurd (omega (arith, fewer))
  views_shown (suc count) [] id at d f e views rest own fewer here (same, none) shows is =
      let own_id : at ≡ id = omega (arith, here) in
      let all : rest ≡ own = sym (is ∙ ap (λ (views : List Event). views ++ rest) none) in
      let there : ShownAt id e own = subst (ShownAt id e) all (subst (λ (id : ℕ). ShownAt id e rest) own_id shows) in
      shown_first (λ (e : Refusal). e) (HasWhole (log_asked_of n.found.schema id)) (EndsWhole (log_asked_of n.found.schema id))
      (λ (w : Unit {0}). EndsViews n.found.schema count (id + 1)) e own there
  views_shown (suc count) (m ∷ read) id at d f e views rest own fewer here (next, first, later, ready, did, adds, more, parts) shows is =
      let there : (id + 1) + length read ≡ at = omega (arith, here) in
      let left : length read < count = omega (arith, fewer) in
      shown_then (λ (e : Refusal). e) (HasWhole (log_asked_of n.found.schema id)) (EndsWhole (log_asked_of n.found.schema id))
      (λ (w : Unit {0}). EndsViews n.found.schema count (id + 1)) tt first (later ++ rest) own e
      (has_whole laws (log_asked_of n.found.schema id) m first ready did)
      (is ∙ ap (λ (views : List Event). views ++ rest) parts ∙ append_assoc first later rest)
      (views_shown count read (id + 1) at next f e later rest (later ++ rest) left there more shows refl)
