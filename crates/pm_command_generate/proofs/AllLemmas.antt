-- All commands in turn: what `generate` does, by how far it came.
use Rattle.std.proofs.Common.{◌≡◌, ℕ, suc, List, [], ◌∷◌, ◌++◌, Option, None, Some, Ok, inl, inr, refl, sym, subst, ap, ◌∙◌}
use Rattle.pm_values.specs.declared.refusal.Refusal.{Refusal}
use Rattle.pm_values.specs.declared.refusal.Refusal.TheVariants as refusals
use Rattle.pm_io.specs.Sink.{SinkView}
use Rattle.pm_store.specs.Store.{StoreView}
use Rattle.pm_words.specs.declared.command.Command.TheVariants as commands
use Rattle.pm_command.specs.Outside.{Prints}
use Rattle.pm_command.specs.declared.start.Start.{Start}
use Rattle.pm_command_generate.specs.Generate.{Asked, AreExecuted, Generates, Goes, GoesLast, Inner, TellLast, TellsLast, all, batches_after, commands_of, goes_on, last_text, summary}
use Rattle.pm_command_generate.specs.declared.drawing.Drawing.{Drawing}
use Rattle.pm_command_generate.specs.declared.turn.Turn.{Turn}
use Rattle.pm_command_generate.proofs.GoneLemmas.{executed, last_printed, tell_both}

-- the scan
abbrev pub last_asked : List Asked
last_asked = (commands.Scan None, []) ∷ []

-- the batches, and the scan behind them
abbrev pub later_asked : Drawing → List Asked
later_asked d = batches_after d.rows d.seed 0 d.batches ++ last_asked

module _ (d : Drawing) (start : Start) (out : SinkView) where
  -- one was refused
  pub refused_generates : (left : List Asked) (last : Option ℕ) (after : Turn) (store store_after : StoreView) (e : Refusal)
      → Goes start (commands_of d) left (record { number = 0; last = last }) after store store_after (Some e)
      → Generates d start out out store store_after (Some e)
  refused_generates left last after store store_after e (xs, are) = (xs, Some e, are, (refl, refl))

  -- all were executed, and the last one printed this text
  pub record AllGone (store store_after : StoreView) (text : List ℕ) (last : Option ℕ) : Type 0 where
    pub xs : List Inner
    pub are : AreExecuted start (commands_of d) 0 store xs store_after None
    pub shown : last_text xs ≡ Some text
    pub told : TellLast xs None last

  pub all_gone : (middle after : Turn) (store between store_after : StoreView) (text : List ℕ)
      → Goes start (commands_of d) last_asked (record { number = 0; last = None }) middle store between None
      → GoesLast start middle after between store_after (Ok text) → AllGone store store_after text after.last
  all_gone middle after store between store_after text (xs, gone, tells) (run, told) =
      let x = run.inner in
      let rest : AreExecuted start [] (suc middle.number) x.after.store [] store_after None =
      subst (λ s. AreExecuted start [] (suc middle.number) s [] store_after None) (sym run.left) (all (suc middle.number) store_after) in
      let tells_it : TellsLast x.after.out.taken middle.last after.last = subst (λ t. TellsLast t middle.last after.last) (sym run.printed) told in
      record {
        xs = xs ++ x ∷ [];
        are = executed start gone (x ∷ []) store_after None (goes_on (commands.Scan None, []) [] middle.number between x [] store_after None run.is run.refusal rest);
        shown = last_printed start xs x ∙ run.printed;
        told = tell_both start xs (x ∷ []) None middle.last after.last tells (after.last, tells_it, refl);
      }

  -- the line is printed, or memory runs out before
  pub printed_generates : (out_after : SinkView) (store store_after : StoreView) (text : List ℕ) (last : Option ℕ) (answer : Option Refusal)
      → AllGone store store_after text last → Prints (summary d text) last None out out_after answer
      → Generates d start out out_after store store_after answer
  printed_generates out_after store store_after text last answer gone prints =
      (gone.xs, None, gone.are, (text, last, gone.shown, gone.told, inl prints))

  -- likewise, where the line was made of what the scan printed
  pub line_generates : (printed made shown : List ℕ) (out_after : SinkView) (store store_after : StoreView) (text : List ℕ) (last : Option ℕ) (answer : Option Refusal)
      → printed ≡ made → made ≡ summary d shown → shown ≡ text → AllGone store store_after text last → Prints printed last None out out_after answer
      → Generates d start out out_after store store_after answer
  line_generates printed made shown out_after store store_after text last answer whole line same gone prints =
      let is : printed ≡ summary d text = whole ∙ line ∙ ap (summary d) same in
      printed_generates out_after store store_after text last answer gone (subst (λ t. Prints t last None out out_after answer) is prints)

  pub memory_generates : (store store_after : StoreView) (text : List ℕ) (last : Option ℕ)
      → AllGone store store_after text last → Generates d start out out store store_after (Some refusals.Memory)
  memory_generates store store_after text last gone = (gone.xs, None, gone.are, (text, last, gone.shown, gone.told, inr (refl, refl)))
