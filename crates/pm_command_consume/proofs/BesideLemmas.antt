-- The pieces of a following with a consumer, one behind another: what they bring to any past, and what is known of them.
use Rattle.std.proofs.Common.{◌≡◌, ◌⊎◌, inl, inr, ℕ, zero, suc, ◌+◌, ◌-◌, ◌<◌, ◌≤◌, List, [], ◌∷◌, ◌++◌, length, slice_get, Option, None, Some, Result, Ok, Err, refl, sym, ap, subst, ◌∙◌, append-nil, arith}
use Rattle.std.specs.List.{flat_map, range_with_len}
use Rattle.pm_base.specs.Known.{and_then}
use Rattle.pm_values.specs.declared.refusal.Refusal.{Refusal}
use Rattle.pm_values.specs.declared.refusal.Refusal.TheVariants as refusals
use Rattle.pm_io.specs.Sink.{SinkView, TookPrefix}
use Rattle.pm_store.specs.Files.{Files}
use Rattle.pm_store.specs.Store.{StoreView}
use Rattle.pm_machine.specs.Trace.{Event, HasTrace}
use Rattle.pm_schema.specs.declared.schema.TableSchema.{TableSchema}
use Rattle.pm_snapshot.specs.Names.{greatest}
use Rattle.pm_model_history.specs.History.{Entry, History, IsTableOf, no_table, table}
use Rattle.pm_model_following.specs.Following.{frame}
use Rattle.pm_model_folder.specs.Changes.{Actor}
use Rattle.pm_model_folder.specs.Ledger.{Past, Stands, count_of}
use Rattle.pm_beside.specs.Bringing.{BringsBeside}
use Rattle.pm_move_consumer.specs.Mover.{IsMoving, Moving}
use Rattle.pm_move_consumer.specs.MoverAllCalls.{DidMove, MovesOn}
use Rattle.pm_move_consumer.specs.MoverMeaning.{IsPrinted, move_by}
use Rattle.pm_read_frame.specs.Frames.{AreFramesFrom, IsFrameOf, joined}
use Rattle.pm_read_frame.specs.Meaning.{HasProducer, IsFrame}
use Rattle.pm_command_follow.specs.Pieces.{IsCommittedOf, LearnsFrame, PieceBeside, PrintsFrame, RefusesFrame}
use Rattle.pm_command_follow.proofs.KnownLemmas.{FrameKnown, FramesLater, FramesNext, joined_push, length_push}
use Rattle.pm_command_follow.proofs.LearnLemmas.{IsKeptOn, count_on, table_on}
use Rattle.pm_command_follow.proofs.TextLemmas.{and_then_nothing, and_then_twice}
use Rattle.pm_command_follow.proofs.WhyLemmas.{frame_told}
use Rattle.pm_command_consume.specs.Beside.{IsToldTo, MayStep, Steps, StepsOf, StepsStill}
use Rattle.pm_command_consume.specs.Consume.{moving_from}
use Rattle.pm_command_consume.specs.Pieces.{BringsFrame, BringsFrames, FramesBeside, HandsBeside, HasBrought, IsListed}
use Rattle.pm_command_consume.specs.declared.consuming.Consuming.{Consuming}
use Rattle.pm_command_consume.specs.declared.place.Place.{Place}
use Rattle.pm_command_consume.proofs.BringLemmas.{bring_known, bring_none, bring_then, bring_weaker, bring_with, learned, move_brings, step_weaker, steps_still, why_brings}

-- what the law of frames says of their text
abbrev pub FramesText : Type 0
FramesText = (s : TableSchema) (es : List Entry) (id : ℕ) (texts : List (List ℕ)) → HasProducer s → AreFramesFrom (table s es) id texts
    → joined texts ≡ flat_map (frame s es) (range_with_len id (length texts))

-- ---- what goes on as the history does

listed_on : (s : TableSchema) (latest : ℕ) → IsKeptOn (IsListed s latest)
listed_on s latest h later goes listed = record {
  is = table_on s h later goes listed.is;
  plain = listed.plain;
  within = count_on latest h later goes listed.within;
}

frame_on : FramesLater → (id : ℕ) (text : List ℕ) → IsKeptOn (λ h. IsFrameOf h id text)
frame_on law id text h later goes known = (law h later id (text ∷ []) goes (known, tt)).0

pub frames_on : FramesLater → (s : TableSchema) (start latest : ℕ) (frames : List (List ℕ)) → IsKeptOn (λ h. IsListed s latest h × AreFramesFrom h start frames)
frames_on law s start latest frames h later goes known = (listed_on s latest h later goes known.0, law h later start frames goes known.1)

-- ---- one frame

printed_frame : FramesText → (me : Actor) (s : TableSchema) (c : Consuming) (p : Place) (text : List ℕ) (h : History) → HasProducer s → IsListed s p.next h
    → IsFrameOf h p.next text → IsPrinted (move_by me (moving_from c p) text) h
printed_frame law me s c p text no_table log listed known = absurd listed.is
printed_frame law me s c p text (table t es) log listed known = record {
  table = (s, listed.is, listed.plain);
  within = listed.within;
  frame = sym (append-nil text) ∙ law t es p.next (text ∷ []) (subst HasProducer (sym listed.is) log) (known, tt) ∙ append-nil (frame t es p.next);
}

module _ (me : Actor) (s : TableSchema) (c : Consuming) where
  -- it was read
  print_brings : (Printed : ℕ → List ℕ → Type 0) → FrameKnown → (id : ℕ) (text : List ℕ) (before after : StoreView) → id ≤ greatest → LearnsFrame s id text before after
      → BringsBeside me (MayStep me c Printed) (λ f q. IsListed s id q.history) (λ f q. IsListed s id q.history × IsFrameOf q.history id text) before after
  print_brings Printed law id text before after most learns =
      bring_known me (MayStep me c Printed) (λ f q. IsListed s id q.history)
      (λ f q. IsListed s id q.history × (IsTableOf s q.history × (id ≤ greatest) × (id ≤ count_of q.history)))
      (λ f q. IsListed s id q.history × IsFrame q id text) (λ f q. IsListed s id q.history × IsFrameOf q.history id text) before after
      (λ f q listed. (listed, (listed.is, most, listed.within))) (λ f q stands known. (known.0, law f q id text stands known.1))
      (bring_with me c Printed (IsListed s id) (listed_on s id) (λ f q. IsTableOf s q.history × (id ≤ greatest) × (id ≤ count_of q.history))
      (λ f q. IsFrame q id text) before after
      (learned me c Printed (λ f q. IsTableOf s q.history × (id ≤ greatest) × (id ≤ count_of q.history)) (λ f q. IsFrame q id text) before after learns))

  -- and the consumer was moved past it, or the move was refused
  frame_brings : FrameKnown → FramesLater → FramesText → (p : Place) (text : List ℕ) (result : Result (List ℕ) Refusal) (before middle after : StoreView) → HasProducer s
      → p.next ≤ greatest → IsMoving (moving_from c p) → LearnsFrame s p.next text before middle → MovesOn (move_by me (moving_from c p) text) result middle after
      → BringsFrame me s c p.next text before after
  frame_brings known later law p text result before middle after log most is learns moves =
      bring_then me (StepsOf me c p.next text) (λ f q. IsListed s p.next q.history) (λ f q. IsListed s p.next q.history × IsFrameOf q.history p.next text)
      (λ f q. IsFrameOf q.history p.next text) before middle after
      (print_brings (λ next shown. (next ≡ p.next) × (shown ≡ text)) known p.next text before middle most learns)
      (bring_known me (StepsOf me c p.next text) (λ f q. IsListed s p.next q.history × IsFrameOf q.history p.next text)
      (λ f q. IsFrameOf q.history p.next text × IsPrinted (move_by me (moving_from c p) text) q.history)
      (λ f q. IsFrameOf q.history p.next text × IsPrinted (move_by me (moving_from c p) text) q.history) (λ f q. IsFrameOf q.history p.next text) middle after
      (λ f q so. (so.1, printed_frame law me s c p text q.history log so.0 so.1)) (λ f q stands so. so.0)
      (bring_with me c (λ next shown. (next ≡ p.next) × (shown ≡ text)) (λ h. IsFrameOf h p.next text) (frame_on later p.next text)
      (λ f q. IsPrinted (move_by me (moving_from c p) text) q.history) (λ f q. IsPrinted (move_by me (moving_from c p) text) q.history) middle after
      (move_brings me c p text is result middle after moves)))

  -- ---- a frame handed out

  pub frame_handed : FrameKnown → FramesLater → FramesText → (p later : Place) (result : Result (List ℕ) Refusal) (out out_after : SinkView) (before middle after : StoreView)
      → HasProducer s → p.next ≤ greatest → IsMoving (moving_from c p) → PieceBeside (LearnsFrame s p.next) (RefusesFrame s p.next) out out_after before middle None
      → ((text : List ℕ) → MovesOn (move_by me (moving_from c p) text) result middle after) → HandsBeside me s c p out out_after before after (Ok later)
  frame_handed known later_law law p later result out out_after before middle after log most is (text, learns, taken) moves =
      (text, taken, frame_brings known later_law law p text result before middle after log most is learns (moves text))

  -- a move that is refused tells nothing
  none_told : (m : Moving) (e : Refusal) (own : List Event) → DidMove m (Err e) own → (f : Files) (q : Past) → IsToldTo c e f q
  none_told m refusals.Memory own shows f q = tt
  none_told m (refusals.StoreFault path) own shows f q = tt
  none_told m (refusals.ConsumerMoved found) own shows f q = tt
  none_told m e own shows f q = absurd shows

  pub move_refused : FrameKnown → FramesLater → FramesText → (p : Place) (e : Refusal) (out out_after : SinkView) (before middle after : StoreView) → HasProducer s
      → p.next ≤ greatest → IsMoving (moving_from c p) → PieceBeside (LearnsFrame s p.next) (RefusesFrame s p.next) out out_after before middle None
      → ((text : List ℕ) → MovesOn (move_by me (moving_from c p) text) (Err e) middle after) → HasTrace (DidMove (moving_from c p) (Err e)) middle after
      → HandsBeside me s c p out out_after before after (Err e)
  move_refused known later law p e out out_after before middle after log most is piece moves (own, shows, trace) =
      let handed = frame_handed known later law p p (Err e) out out_after before middle after log most is piece moves in
      inl (handed.0, handed.1, handed.2, none_told (moving_from c p) e own shows)

  pub frame_refused : FrameKnown → (p : Place) (e : Refusal) (out out_after : SinkView) (before after : StoreView) → p.next ≤ greatest
      → PrintsFrame s p.next out out_after before after (Some e) → PieceBeside (LearnsFrame s p.next) (RefusesFrame s p.next) out out_after before after (Some e) → HandsBeside me s c p out out_after before after (Err e)
  frame_refused known p e out out_after before after most piece (inl (text, learns, (is, failed, took))) = inr (inl (
    text,
    is,
    took,
    bring_known me (StepsStill me c) (λ f q. IsListed s p.next q.history) (λ f q. IsListed s p.next q.history)
        (λ f q. IsListed s p.next q.history × IsFrameOf q.history p.next text) (λ f q. IsFrameOf q.history p.next text) before after (λ f q so. so)
        (λ f q stands so. so.1) (print_brings (λ next shown. ⊥) known p.next text before after most learns),
  ))
  frame_refused known p e out out_after before after most piece (inr (same, told)) = inr (inr (
    same,
    bring_known me (StepsStill me c) (λ f q. IsListed s p.next q.history) (IsCommittedOf s p.next) (IsToldTo c e) (IsToldTo c e) before after
        (λ f q listed. (listed.is, most, listed.within)) (λ f q stands known. known)
        (why_brings me c (λ next shown. ⊥) (IsCommittedOf s p.next) e before after (frame_told c.from s p.next e out out_after before after piece told)),
  ))

  -- ---- frame by frame

  kept_at : {X : Type 0} (xs ys : List X) (n : ℕ) (x : X) → slice_get xs n ≡ Some x → slice_get (xs ++ ys) n ≡ Some x
  kept_at [] ys n x is = absurd cc
  kept_at (y ∷ xs) ys zero x is = is
  kept_at (y ∷ xs) ys (suc n) x is = kept_at xs ys n x is

  last_at : {X : Type 0} (xs : List X) (x : X) → slice_get (xs ++ x ∷ []) (length xs) ≡ Some x
  last_at [] x = refl
  last_at (y ∷ xs) x = last_at xs x

  -- moves past texts are moves past these and more
  steps_more : (start : ℕ) (moved : List (List ℕ)) (text : List ℕ) (f after : Files) (p q : Past) → Steps me c start moved f p after q
      → Steps me c start (moved ++ text ∷ []) f p after q
  steps_more start moved text = step_weaker me c (λ next shown. (n : ℕ) × (next ≡ start + n) × (slice_get moved n ≡ Some shown))
      (λ next shown. (n : ℕ) × (next ≡ start + n) × (slice_get (moved ++ text ∷ []) n ≡ Some shown))
      (λ next shown so. (so.0, so.1, kept_at moved (text ∷ []) so.0 shown so.2))

  steps_last : (start id : ℕ) (moved : List (List ℕ)) (text : List ℕ) → id ≡ start + length moved → (f after : Files) (p q : Past) → StepsOf me c id text f p after q
      → Steps me c start (moved ++ text ∷ []) f p after q
  steps_last start id moved text at = step_weaker me c (λ next shown. (next ≡ id) × (shown ≡ text))
      (λ next shown. (n : ℕ) × (next ≡ start + n) × (slice_get (moved ++ text ∷ []) n ≡ Some shown))
      (λ next shown so. (length moved, so.0 ∙ at, last_at moved text ∙ ap Some (sym so.1)))

  -- one frame more
  frames_push : FramesLater → FramesNext → (start latest id : ℕ) (frames moved : List (List ℕ)) (text : List ℕ) (store now after : StoreView) → id ≤ latest
      → id ≡ start + length frames → BringsFrames me s c start latest moved frames store now
      → BringsBeside me (Steps me c start moved) (λ f q. IsListed s id q.history) (λ f q. IsFrameOf q.history id text) now after
      → BringsFrames me s c start latest moved (frames ++ text ∷ []) store after
  frames_push later next start latest id frames moved text store now after within at brings frame_comes =
      bring_then me (Steps me c start moved) (λ f q. IsListed s latest q.history) (λ f q. IsListed s latest q.history × AreFramesFrom q.history start frames)
      (λ f q. IsListed s latest q.history × AreFramesFrom q.history start (frames ++ text ∷ [])) store now after brings
      (bring_known me (Steps me c start moved) (λ f q. IsListed s latest q.history × AreFramesFrom q.history start frames)
      (λ f q. (IsListed s latest q.history × AreFramesFrom q.history start frames) × IsListed s id q.history)
      (λ f q. (IsListed s latest q.history × AreFramesFrom q.history start frames) × IsFrameOf q.history id text)
      (λ f q. IsListed s latest q.history × AreFramesFrom q.history start (frames ++ text ∷ [])) now after
      (λ f q so. (so, lower q.history so.0))
      (λ f q stands so. (
        so.0.0,
        next q.history start frames text so.0.1 (subst (λ (id : ℕ). IsFrameOf q.history id text) at so.1),
      ))
      (bring_with me c (λ next shown. (n : ℕ) × (next ≡ start + n) × (slice_get moved n ≡ Some shown))
      (λ h. IsListed s latest h × AreFramesFrom h start frames) (frames_on later s start latest frames) (λ f q. IsListed s id q.history)
      (λ f q. IsFrameOf q.history id text) now after frame_comes))
    where
      lower : (h : History) → IsListed s latest h → IsListed s id h
      lower h listed = let high = listed.within in record { is = listed.is; plain = listed.plain; within = omega (arith, within, high) }

  pub none_brought : (start latest : ℕ) (out : SinkView) (store : StoreView) → HasBrought me s c start latest (start - start) out out store store
  none_brought start latest out store = (
    [],
    omega arith,
    sym (and_then_nothing out.taken),
    bring_known me (Steps me c start []) (λ f q. IsListed s latest q.history) (λ f q. IsListed s latest q.history) (λ f q. IsListed s latest q.history)
        (λ f q. IsListed s latest q.history × AreFramesFrom q.history start []) store store (λ f q so. so) (λ f q stands so. (so, tt))
        (bring_none me (Steps me c start []) (λ f q. IsListed s latest q.history) store),
  )

  -- so many were handed out, and the consumer was moved past one more, or the move was refused
  more_brought : FramesLater → FramesNext → (start latest id : ℕ) (frames : List (List ℕ)) (text : List ℕ) (first middle last : SinkView) (store now after : StoreView)
      → id ≤ latest → id ≡ start + length frames → middle.taken ≡ and_then first.taken (joined frames) → BringsFrames me s c start latest frames frames store now
      → last.taken ≡ and_then middle.taken text → BringsFrame me s c id text now after
      → (last.taken ≡ and_then first.taken (joined (frames ++ text ∷ [])))
      × BringsFrames me s c start latest (frames ++ text ∷ []) (frames ++ text ∷ []) store after
  more_brought later next start latest id frames text first middle last store now after within at taken brings took frame_comes = (
    took ∙ ap (λ (known : Option (List ℕ)). and_then known text) taken ∙ and_then_twice first.taken (joined frames) text
        ∙ ap (and_then first.taken) (sym (joined_push frames text)),
    frames_push later next start latest id frames (frames ++ text ∷ []) text store now after within at
        (bring_weaker me (Steps me c start frames) (Steps me c start (frames ++ text ∷ [])) (λ f q. IsListed s latest q.history) (λ f q. IsListed s latest q.history)
        (λ f q. IsListed s latest q.history × AreFramesFrom q.history start frames) (λ f q. IsListed s latest q.history × AreFramesFrom q.history start frames)
        store now (steps_more start frames text) (λ f q so. so) (λ f q stands so. so) brings)
        (bring_weaker me (StepsOf me c id text) (Steps me c start (frames ++ text ∷ [])) (λ f q. IsListed s id q.history) (λ f q. IsListed s id q.history)
        (λ f q. IsFrameOf q.history id text) (λ f q. IsFrameOf q.history id text) now after (steps_last start id frames text at) (λ f q so. so)
        (λ f q stands so. so) frame_comes),
  )

  pub one_brought : FramesLater → FramesNext → (start latest : ℕ) (p later_place : Place) (first middle last : SinkView) (store now after : StoreView) → start ≤ p.next
      → p.next ≤ latest → later_place.next ≡ p.next + 1 → HasBrought me s c start latest (p.next - start) first middle store now
      → HandsBeside me s c p middle last now after (Ok later_place) → HasBrought me s c start latest (later_place.next - start) first last store after
  one_brought later next start latest p later_place first middle last store now after low within number (frames, size, taken, brings) (text, took, frame_comes) =
      let push = length_push frames text in
      let more = more_brought later next start latest p.next frames text first middle last store now after within (omega (arith, size, low)) taken brings took frame_comes in
      (frames ++ text ∷ [], omega (arith, push, size, low, number), more.0, more.1)

  pub frames_stopped : FramesLater → FramesNext → (p now_at : Place) (latest : ℕ) (e : Refusal) (first middle last : SinkView) (store now after : StoreView)
      → p.next ≤ now_at.next → now_at.next ≤ latest → HasBrought me s c p.next latest (now_at.next - p.next) first middle store now
      → HandsBeside me s c now_at middle last now after (Err e) → FramesBeside me s c p latest first last store after (Some e)
  frames_stopped later next p now_at latest e first middle last store now after low within (frames, size, taken, brings) (inl (text, took, frame_comes, none)) =
      let more = more_brought later next p.next latest now_at.next frames text first middle last store now after within (omega (arith, size, low)) taken brings took frame_comes in (
        frames ++ text ∷ [],
        inl (
          more.0,
          more.1,
          bring_known me (Steps me c p.next (frames ++ text ∷ [])) (λ f q. IsListed s latest q.history) (λ f q. IsListed s latest q.history)
              (λ f q. IsListed s latest q.history × AreFramesFrom q.history p.next (frames ++ text ∷ [])) (IsToldTo c e) store after (λ f q so. so)
              (λ f q stands so. none f q) more.1,
        ),
      )
  frames_stopped later next p now_at latest e first middle last store now after low within (frames, size, taken, brings) (inr (inl (text, is, took, frame_comes))) = (
    frames,
    inr (
      text,
      is,
      subst (λ (known : Option (List ℕ)). TookPrefix known last.taken text) taken took,
      frames_push later next p.next latest now_at.next frames frames text store now after within (omega (arith, size, low)) brings
          (bring_weaker me (StepsStill me c) (Steps me c p.next frames) (λ f q. IsListed s now_at.next q.history) (λ f q. IsListed s now_at.next q.history)
          (λ f q. IsFrameOf q.history now_at.next text) (λ f q. IsFrameOf q.history now_at.next text) now after (steps_still me c p.next frames) (λ f q so. so)
          (λ f q stands so. so) frame_comes),
    ),
  )
  frames_stopped later next p now_at latest e first middle last store now after low within (frames, size, taken, brings) (inr (inr (same, why))) = (
    frames,
    inl (
      ap (λ (out : SinkView). out.taken) same ∙ taken,
      bring_then me (Steps me c p.next frames) (λ f q. IsListed s latest q.history) (λ f q. IsListed s latest q.history × AreFramesFrom q.history p.next frames)
          (λ f q. IsListed s latest q.history × AreFramesFrom q.history p.next frames) store now after brings
          (still (λ f q. (IsListed s latest q.history × AreFramesFrom q.history p.next frames) × IsToldTo c e f q)
          (λ f q. IsListed s latest q.history × AreFramesFrom q.history p.next frames) (λ f q stands so. so.0)
          (bring_with me c (λ next shown. ⊥) (λ h. IsListed s latest h × AreFramesFrom h p.next frames) (frames_on later s p.next latest frames)
          (λ f q. IsListed s now_at.next q.history) (IsToldTo c e) now after why)),
      bring_then me (Steps me c p.next frames) (λ f q. IsListed s latest q.history) (λ f q. IsListed s latest q.history × AreFramesFrom q.history p.next frames)
          (IsToldTo c e) store now after brings
          (still (λ f q. (IsListed s latest q.history × AreFramesFrom q.history p.next frames) × IsToldTo c e f q) (IsToldTo c e) (λ f q stands so. so.1)
          (bring_with me c (λ next shown. ⊥) (λ h. IsListed s latest h × AreFramesFrom h p.next frames) (frames_on later s p.next latest frames)
          (λ f q. IsListed s now_at.next q.history) (IsToldTo c e) now after why)),
    ),
  )
    where
      lower : (h : History) → IsListed s latest h → IsListed s now_at.next h
      lower h listed = let high = listed.within in record { is = listed.is; plain = listed.plain; within = omega (arith, within, high) }

      still : (has knows : Files → Past → Type 0) → ((f : Files) (q : Past) → Stands f q → has f q → knows f q)
          → BringsBeside me (StepsStill me c) (λ f q. (IsListed s latest q.history × AreFramesFrom q.history p.next frames) × IsListed s now_at.next q.history) has now after
          → BringsBeside me (Steps me c p.next frames) (λ f q. IsListed s latest q.history × AreFramesFrom q.history p.next frames) knows now after
      still has knows leads = bring_weaker me (StepsStill me c) (Steps me c p.next frames) (λ f q. IsListed s latest q.history × AreFramesFrom q.history p.next frames)
          (λ f q. (IsListed s latest q.history × AreFramesFrom q.history p.next frames) × IsListed s now_at.next q.history) has knows now after
          (steps_still me c p.next frames) (λ f q so. (so, lower q.history so.0)) leads

  pub all_brought : (p now_at : Place) (latest : ℕ) (first last : SinkView) (store after : StoreView) → p.next ≤ now_at.next → latest < now_at.next
      → (now_at.next ≡ p.next) ⊎ (now_at.next ≤ suc latest) → HasBrought me s c p.next latest (now_at.next - p.next) first last store after
      → FramesBeside me s c p latest first last store after None
  all_brought p now_at latest first last store after low above bound brought =
      subst (λ (count : ℕ). HasBrought me s c p.next latest count first last store after) (by bound) brought
    where
      by : (now_at.next ≡ p.next) ⊎ (now_at.next ≤ suc latest) → now_at.next - p.next ≡ suc latest - p.next
      by (inl is) = omega (arith, is, above)
      by (inr high) = let same : now_at.next ≡ suc latest = omega (arith, high, above) in ap (λ (n : ℕ). n - p.next) same
