-- The machines of a following, one after another.
use Rattle.std.proofs.Common.{◌≡◌, ℕ, ◌+◌, ◌<◌, ◌≤◌, List, [], ◌∷◌, ◌++◌, length, Vec, refl, sym, ap, subst, ◌∙◌, arith}
use Rattle.std.specs.Global.{Global}
use Rattle.pm_schema.specs.declared.schema.TableSchema.{TableSchema}
use Rattle.pm_store.specs.Files.{Files}
use Rattle.pm_model_history.specs.History.{History, IsTableOf}
use Rattle.pm_model_folder.specs.Changes.{Actor, HavePlainNames}
use Rattle.pm_model_folder.specs.Consumers.{frame_in}
use Rattle.pm_model_folder.specs.Ledger.{Past, Stands}
use Rattle.pm_read_latest.specs.declared.phase.Phase.TheVariants as finders
use Rattle.pm_read_frame.specs.Frames.{AreFramesFrom, IsFrameOf}
use Rattle.pm_read_frame.specs.Meaning.{HasProducer, IsFrame}
use Rattle.pm_read_frame.specs.declared.phase.Phase.TheVariants as followers
use Rattle.pm_move_consumer.specs.Mover.{IsMoving, new_mover}
use Rattle.pm_move_consumer.specs.MoverMeaning.{Move}
use Rattle.pm_actors.specs.World.{Followed, Knows, KnowsFollowed, finds, follow_from, follows, moves, reader_at, with_frame}

pub first_knows : (me : Actor) (s : TableSchema) (start latest : ℕ) (f : Files) (p : Past) → Stands f p → Knows (finds me s (finders.Ready latest)) f p
    → 1 ≤ start → start ≤ latest → Knows (follows me (follow_from s start latest) (reader_at s start)) f p
first_knows me s start latest f p stands (is, (bound, within)) least most = (
  record { table = is; least = least; bound = bound; within = within; frames = tt },
  (is, least, omega (arith, most, bound), omega (arith, most, within)),
)

-- what the law of frames says
pub record FrameLaws : Type 0 where
  pub known : (f : Files) (p : Past) (id : ℕ) (text : List ℕ) → Stands f p → IsFrame p id text → IsFrameOf p.history id text
  pub next : (h : History) (id : ℕ) (texts : List (List ℕ)) (text : List ℕ) → AreFramesFrom h id texts → IsFrameOf h (id + length texts) text
      → AreFramesFrom h id (texts ++ text ∷ [])

module _ (laws : FrameLaws) (me : Actor) (x : Followed) (text : Vec ℕ Global) (f : Files) (p : Past) (stands : Stands f p) where
  one_more : Knows (follows me x (followers.Ready (x.start + length x.frames) text)) f p → KnowsFollowed (with_frame x text.items) p
  one_more (known, is) = record {
    table = known.table;
    least = known.least;
    bound = known.bound;
    within = known.within;
    frames = laws.next p.history x.start x.frames text.items known.frames (laws.known f p (x.start + length x.frames) text.items stands is);
  }

  pub next_knows : Knows (follows me x (followers.Ready (x.start + length x.frames) text)) f p → x.start + length x.frames < x.latest
      → Knows (follows me (with_frame x text.items) (reader_at x.schema (x.start + length x.frames + 1))) f p
  next_knows (known, is) below =
      let bound = known.bound in
      let within = known.within in
      (one_more (known, is), (known.table, omega arith, omega (arith, below, bound), omega (arith, below, within)))

  pub last_knows : Knows (follows me x (followers.Ready (x.start + length x.frames) text)) f p
      → Knows (follows me (with_frame x text.items) followers.Over) f p
  last_knows known = (one_more known, tt)

-- what was read is the frame, so a consumer that reads this snapshot next may be moved past it
pub moves_knows : (m : Move) (x : Followed) (text : Vec ℕ Global) (f : Files) (p : Past) → Knows (follows m.me x (followers.Ready m.moving.next text)) f p
    → HasProducer x.schema → HavePlainNames x.schema → IsMoving m.moving → m.text ≡ text.items → Knows (moves m (new_mover m.moving)) f p
moves_knows m x text f p (known, is) log plain moving same =
    let schema = subst (IsTableOf x.schema) is.is_table known.table in (
      moving,
      (refl, refl, refl),
      record {
        table = (x.schema, known.table, plain);
        within = is.known.to;
        frame = same ∙ is.is_text (subst HasProducer (sym schema) log) ∙ sym (ap (λ h. frame_in h m.moving.next) is.is_table);
      },
    )
