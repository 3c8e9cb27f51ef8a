-- Commands that were executed in turn, one more and several more.
use Rattle.std.proofs.Common.{◌≡◌, ◌≢◌, ℕ, suc, ◌+◌, ◌%◌, ◌==◌, Bool, true, false, List, [], ◌∷◌, ◌++◌, Option, None, Some, Result, Ok, Err, OnOk, refl, sym, subst, append_assoc, append-nil, arith}
use Rattle.std.specs.Bool.{Decides}
use Rattle.std.specs.Result.{result_err}
use Rattle.std.proofs.lemmas.Bool.Decides.{Decides-eqb}
use Rattle.pm_values.specs.declared.refusal.Refusal.{Refusal}
use Rattle.pm_values.specs.declared.refusal.Refusal.TheVariants as refusals
use Rattle.pm_draws.specs.Draws.{drawn_text, last_draw}
use Rattle.pm_store.specs.Store.{StoreView}
use Rattle.pm_words.specs.declared.command.Command.TheVariants as commands
use Rattle.pm_command.specs.declared.start.Start.{Start}
use Rattle.pm_command_generate.specs.Generate.{Asked, AreExecuted, Finishes, Goes, GoesLast, HaveGone, Inner, IsNext, IsRun, TellLast, TellsLast, all, batches_after, compactions_after, goes_on, last_text, none_yet, numbered, one_more, out_of_memory, refused, told}
use Rattle.pm_command_generate.specs.declared.turn.Turn.{Turn}

module _ (start : Start) where
  -- what is executed behind those that have gone
  pub executed : {asked : List Asked} {n : ℕ} {store : StoreView} {xs : List Inner} {left : List Asked} {m : ℕ} {middle : StoreView}
      → HaveGone start asked n store xs left m middle → (ys : List Inner) (last : StoreView) (answer : Option Refusal)
      → AreExecuted start left m middle ys last answer → AreExecuted start asked n store (xs ++ ys) last answer
  executed none_yet ys last answer more = more
  executed {asked} {n} {store} (one_more xs x next left m middle gone is none) ys last answer more =
      subst (λ zs. AreExecuted start asked n store zs last answer) (sym (append_assoc xs (x ∷ []) ys))
      (executed gone (x ∷ ys) last answer (goes_on next left m middle x ys last answer is none more))

  -- those that have gone behind others
  pub joined : {asked left : List Asked} {n m : ℕ} {store middle : StoreView} {xs : List Inner} {rest : List Asked} {k : ℕ} {last : StoreView} {ys : List Inner}
      → HaveGone start asked n store xs left m middle → HaveGone start left m middle ys rest k last
      → HaveGone start asked n store (xs ++ ys) rest k last
  joined {asked} {left} {n} {m} {store} {middle} {xs} gone none_yet =
      subst (λ zs. HaveGone start asked n store zs left m middle) (sym (append-nil xs)) gone
  joined {asked} {left} {n} {m} {store} {middle} {xs} gone (one_more ys y next more j between later is none) =
      subst (λ zs. HaveGone start asked n store zs more (suc j) y.after.store) (append_assoc xs ys (y ∷ []))
      (one_more (xs ++ ys) y next more j between (joined gone later) is none)

  -- what the last snapshot is, behind others
  pub tell_both : (xs ys : List Inner) (old middle new : Option ℕ) → TellLast xs old middle → TellLast ys middle new → TellLast (xs ++ ys) old new
  tell_both [] ys old middle new one other = subst (λ o. TellLast ys o new) one other
  tell_both (x ∷ xs) ys old middle new (next, tells, one) other = (next, tells, tell_both xs ys next middle new one other)

  -- ---- what goes

  pub goes_none : (asked : List Asked) (turn : Turn) (store : StoreView) → Goes start asked asked turn turn store store None
  goes_none asked turn store = ([], none_yet, refl)

  pub goes_memory : (asked left : List Asked) (turn after : Turn) (store : StoreView) → Goes start asked left turn after store store (Some refusals.Memory)
  goes_memory asked left turn after store = ([], out_of_memory asked turn.number store)

  -- one goes, and then others
  pub goes_then : (asked left rest : List Asked) (turn middle after : Turn) (store between last : StoreView) (answer : Option Refusal)
      → Goes start asked left turn middle store between None → Goes start left rest middle after between last answer
      → Goes start asked rest turn after store last answer
  goes_then asked left rest turn middle after store between last None (xs, gone, tells) (ys, later, told_later) =
      (xs ++ ys, joined gone later, tell_both xs ys turn.last middle.last after.last tells told_later)
  goes_then asked left rest turn middle after store between last (Some e) (xs, gone, tells) (ys, later) =
      (xs ++ ys, executed gone ys last (Some e) later)

  -- one command
  pub goes_one : (asked : Asked) (left : List Asked) (turn after : Turn) (store : StoreView) (x : Inner) → IsNext start turn.number asked store x
      → x.refusal ≡ None → after.number ≡ suc turn.number → TellsLast x.after.out.taken turn.last after.last
      → Goes start (asked ∷ left) left turn after store x.after.store None
  goes_one asked left turn after store x is none next tells = (
    x ∷ [],
    subst (λ n. HaveGone start (asked ∷ left) turn.number store (x ∷ []) left n x.after.store) (sym next)
        (one_more [] x asked left turn.number store none_yet is none),
    (after.last, tells, refl),
  )

  pub goes_refused : (asked : Asked) (left : List Asked) (turn after : Turn) (store : StoreView) (x : Inner) (e : Refusal) → IsNext start turn.number asked store x
      → x.refusal ≡ Some e → Goes start (asked ∷ left) left turn after store x.after.store (Some (told e))
  goes_refused asked left turn after store x e is none = (x ∷ [], refused asked left turn.number store x e is none)

  -- one that was executed, by how it ended
  pub goes_run : (asked : Asked) (left : List Asked) (turn after : Turn) (store store_after : StoreView) (taken : List ℕ) (made answer : Option Refusal)
      → IsRun (numbered start turn.number) asked store store_after taken made → Finishes taken turn after made answer
      → Goes start (asked ∷ left) left turn after store store_after answer
  goes_run asked left turn after store store_after taken None answer run (none, next, tells) =
      rw (none, sym run.left)
      (goes_one asked left turn after store run.inner run.is run.refusal next (subst (λ t. TellsLast t turn.last after.last) (sym run.printed) tells))
  goes_run asked left turn after store store_after taken (Some e) answer run is =
      rw (is, sym run.left) (goes_refused asked left turn after store run.inner e run.is run.refusal)

  -- the last one: all of its text is known
  pub last_run : (turn after : Turn) (store store_after : StoreView) (taken : List ℕ) (made : Option Refusal)
      → IsRun (numbered start turn.number) (commands.Scan None, []) store store_after taken made → Finishes taken turn after made None
      → GoesLast start turn after store store_after (Ok taken)
  last_run turn after store store_after taken None run (none, next, tells) = (run, tells)
  last_run turn after store store_after taken (Some e) run is = cc

  pub last_refused : (turn after : Turn) (store store_after : StoreView) (taken : List ℕ) (made : Option Refusal) (e : Refusal)
      → IsRun (numbered start turn.number) (commands.Scan None, []) store store_after taken made → Finishes taken turn after made (Some e)
      → GoesLast start turn after store store_after (Err e)
  last_refused turn after store store_after taken made e run finishes =
      goes_run (commands.Scan None, []) [] turn after store store_after taken made (Some e) run finishes

  -- where it goes on the next number is one more
  pub next_of : (turn after : Turn) (taken : List ℕ) (made : Option Refusal) (r : Result (Unit {0}) Refusal) → Finishes taken turn after made (result_err r)
      → OnOk r (after.number ≡ turn.number + 1)
  next_of turn after taken None (Ok done) (none, next, tells) = omega arith
  next_of turn after taken (Some e) (Ok done) is = cc
  next_of turn after taken made (Err e) finishes = tt

  -- ---- batches

  -- one batch more, with the compaction behind it, if one is
  pub one_batch : (asked : List Asked) (rows last done left : ℕ) (more : List Asked) (first turn written after : Turn) (start_store store middle store_after : StoreView)
      → Goes start asked (batches_after rows last done (suc left) ++ more) first turn start_store store None
      → ((rest : List Asked) → Goes start ((commands.Write None None, drawn_text last rows) ∷ rest) rest turn written store middle None)
      → ((rest : List Asked) → Goes start (compactions_after (suc done) ++ rest) rest written after middle store_after None)
      → Goes start asked (batches_after rows (last_draw last rows) (suc done) left ++ more) first after start_store store_after None
  one_batch asked rows last done left more first turn written after start_store store middle store_after so writes compacts =
      let next = batches_after rows (last_draw last rows) (suc done) left in
      let behind = compactions_after (suc done) ++ (next ++ more) in
      let all : Goes start asked ((commands.Write None None, drawn_text last rows) ∷ behind) first turn start_store store None =
      subst (λ rest. Goes start asked ((commands.Write None None, drawn_text last rows) ∷ rest) first turn start_store store None)
      (append_assoc (compactions_after (suc done)) next more) so in
      let two = goes_then asked ((commands.Write None None, drawn_text last rows) ∷ behind) behind first turn written start_store store middle None all (writes behind) in
      goes_then asked behind (next ++ more) first written after start_store middle store_after None two (compacts (next ++ more))

  -- its rows are refused, or its compaction is
  pub batch_refused : (asked : List Asked) (rows last done left : ℕ) (more : List Asked) (first turn written : Turn) (start_store store middle : StoreView) (e : Refusal)
      → Goes start asked (batches_after rows last done (suc left) ++ more) first turn start_store store None
      → ((rest : List Asked) → Goes start ((commands.Write None None, drawn_text last rows) ∷ rest) rest turn written store middle (Some e))
      → Goes start asked more first written start_store middle (Some e)
  batch_refused asked rows last done left more first turn written start_store store middle e so writes =
      let behind = (compactions_after (suc done) ++ batches_after rows (last_draw last rows) (suc done) left) ++ more in
      goes_then asked ((commands.Write None None, drawn_text last rows) ∷ behind) behind first turn written start_store store middle (Some e) so (writes behind)

  pub compaction_refused : (asked : List Asked) (rows last done left : ℕ) (more : List Asked) (first turn written after : Turn) (start_store store middle store_after : StoreView)
      (e : Refusal)
      → Goes start asked (batches_after rows last done (suc left) ++ more) first turn start_store store None
      → ((rest : List Asked) → Goes start ((commands.Write None None, drawn_text last rows) ∷ rest) rest turn written store middle None)
      → ((rest : List Asked) → Goes start (compactions_after (suc done) ++ rest) rest written after middle store_after (Some e))
      → Goes start asked more first after start_store store_after (Some e)
  compaction_refused asked rows last done left more first turn written after start_store store middle store_after e so writes compacts =
      let next = batches_after rows (last_draw last rows) (suc done) left in
      let behind = compactions_after (suc done) ++ (next ++ more) in
      let all : Goes start asked ((commands.Write None None, drawn_text last rows) ∷ behind) first turn start_store store None =
      subst (λ rest. Goes start asked ((commands.Write None None, drawn_text last rows) ∷ rest) first turn start_store store None)
      (append_assoc (compactions_after (suc done)) next more) so in
      let two = goes_then asked ((commands.Write None None, drawn_text last rows) ∷ behind) behind first turn written start_store store middle None all (writes behind) in
      goes_then asked behind (next ++ more) first written after start_store middle store_after (Some e) two (compacts (next ++ more))

  -- what the last one printed
  pub last_printed : (xs : List Inner) (x : Inner) → last_text (xs ++ x ∷ []) ≡ x.after.out.taken
  last_printed [] x = refl
  last_printed (y ∷ []) x = refl
  last_printed (y ∷ z ∷ xs) x = last_printed (z ∷ xs) x

not_zero : (n : ℕ) (test : Bool) → Decides test (n ≡ 0) → n ≢ 0 → test ≡ false
not_zero n true decides other = absurd (other (decides.0 refl))
not_zero n false decides other = refl

-- behind a fifth batch there is a compaction, and behind another none
pub compactions_some : (count : ℕ) → count % 5 ≡ 0 → compactions_after count ≡ (commands.Compact false, []) ∷ []
compactions_some count fifth = rw fifth

pub compactions_none : (count : ℕ) → count % 5 ≢ 0 → compactions_after count ≡ []
compactions_none count other = rw (not_zero (count % 5) (count % 5 == 0) (Decides-eqb (count % 5) 0) other)
