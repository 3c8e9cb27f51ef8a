-- Batches that are committed one after another, with the compactions between them.
use Rattle.std.proofs.Common.{◌≡◌, ℕ, suc, ◌+◌, ◌-◌, ◌≤◌, ◌<◌, List, ◌∷◌, ◌++◌, None, Some, sym, subst, arith}
use Rattle.pm_values.specs.declared.refusal.Refusal.{Refusal}
use Rattle.pm_values.specs.declared.refusal.Refusal.TheVariants as refusals
use Rattle.pm_draws.specs.Draws.{drawn_text, last_draw}
use Rattle.pm_store.specs.Store.{StoreView}
use Rattle.pm_words.specs.declared.command.Command.TheVariants as commands
use Rattle.pm_command.specs.declared.start.Start.{Start}
use Rattle.pm_command_generate.specs.Generate.{Asked, Goes, batches_after, compactions_after}
use Rattle.pm_command_generate.specs.declared.turn.Turn.{Turn}
use Rattle.pm_command_generate.proofs.GoneLemmas.{batch_refused, compaction_refused, goes_memory, goes_none, goes_then, one_batch}

-- no batch has gone
pub none_filled : (start : Start) (rows seed batches drawn : ℕ) (more : List Asked) (turn : Turn) (store : StoreView) → drawn ≡ seed
    → Goes start (batches_after rows seed 0 batches ++ more) (batches_after rows drawn 0 (batches - 0) ++ more) turn turn store store None
none_filled start rows seed batches drawn more turn store is =
    let asked = batches_after rows seed 0 batches ++ more in
    let all : batches ≡ batches - 0 = omega arith in
    subst (λ x. Goes start asked (batches_after rows x 0 (batches - 0) ++ more) turn turn store store None) (sym is)
    (subst (λ k. Goes start asked (batches_after rows seed 0 k ++ more) turn turn store store None) all (goes_none start asked turn store))

module _ (start : Start) (asked : List Asked) (rows last done batches : ℕ) (first turn : Turn) (found store : StoreView) where
  -- the batches that are left, and others behind them
  abbrev pub BatchesLeft : List Asked → Type 0
  BatchesLeft more = Goes start asked (batches_after rows last done (batches - done) ++ more) first turn found store None

  one_left : done < batches → batches - done ≡ suc (batches - suc done)
  one_left some = omega arith

  as_one : (more : List Asked) → done < batches → BatchesLeft more
      → Goes start asked (batches_after rows last done (suc (batches - suc done)) ++ more) first turn found store None
  as_one more some so = subst (λ k. Goes start asked (batches_after rows last done k ++ more) first turn found store None) (one_left some) so

  pub all_filled : (more : List Asked) → batches ≤ done → BatchesLeft more → Goes start asked more first turn found store None
  all_filled more none so =
      let left : batches - done ≡ 0 = omega arith in
      subst (λ k. Goes start asked (batches_after rows last done k ++ more) first turn found store None) left so

  -- memory runs out as the lines are drawn
  pub none_drawn : (more : List Asked) → BatchesLeft more → Goes start asked more first turn found store (Some refusals.Memory)
  none_drawn more so =
      let left = batches_after rows last done (batches - done) ++ more in
      goes_then start asked left more first turn turn found store store (Some refusals.Memory) so (goes_memory start left more turn turn store)

  module _ (lines : List ℕ) (drawn : lines ≡ drawn_text last rows) (some : done < batches) (written : Turn) (middle : StoreView) where
    pub not_written : (more : List Asked) (e : Refusal) → BatchesLeft more
        → ((rest : List Asked) → Goes start ((commands.Write None None, lines) ∷ rest) rest turn written store middle (Some e))
        → Goes start asked more first written found middle (Some e)
    not_written more e so writes =
        batch_refused start asked rows last done (batches - suc done) more first turn written found store middle e (as_one more some so)
        (λ rest. subst (λ l. Goes start ((commands.Write None None, l) ∷ rest) rest turn written store middle (Some e)) drawn (writes rest))

    module _ (count : ℕ) (is : count ≡ suc done) (after : Turn) (store_after : StoreView)
        (writes : (rest : List Asked) → Goes start ((commands.Write None None, lines) ∷ rest) rest turn written store middle None) where
      written_as : (rest : List Asked) → Goes start ((commands.Write None None, drawn_text last rows) ∷ rest) rest turn written store middle None
      written_as rest = subst (λ l. Goes start ((commands.Write None None, l) ∷ rest) rest turn written store middle None) drawn (writes rest)

      pub not_compacted : (more : List Asked) (e : Refusal) → BatchesLeft more
          → ((rest : List Asked) → Goes start (compactions_after count ++ rest) rest written after middle store_after (Some e))
          → Goes start asked more first after found store_after (Some e)
      not_compacted more e so compacts =
          compaction_refused start asked rows last done (batches - suc done) more first turn written after found store middle store_after e (as_one more some so) written_as
          (λ rest. subst (λ k. Goes start (compactions_after k ++ rest) rest written after middle store_after (Some e)) is (compacts rest))

      pub one_filled : (more : List Asked) (next : ℕ) → next ≡ last_draw last rows → BatchesLeft more
          → ((rest : List Asked) → Goes start (compactions_after count ++ rest) rest written after middle store_after None)
          → Goes start asked (batches_after rows next count (batches - count) ++ more) first after found store_after None
      one_filled more next drawn_last so compacts =
          rw (is, drawn_last)
          (one_batch start asked rows last done (batches - suc done) more first turn written after found store middle store_after (as_one more some so) written_as
          (λ rest. subst (λ k. Goes start (compactions_after k ++ rest) rest written after middle store_after None) is (compacts rest)))
