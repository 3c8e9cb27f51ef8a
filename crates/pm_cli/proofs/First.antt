-- Of the moment of the first call, where nobody else acts before it either.
use Rattle.std.proofs.Common.{◌≡◌, ◌+◌, ◌≤◌, List, [], ◌∷◌, ◌++◌, Bool, true, false, if◌then◌else◌, length, drop, Option, None, Some, IsSomeAnd, inl, inr, refl, sym, subst, ap, ◌∙◌, append-nil, arith}
use Rattle.pm_values.specs.declared.refusal.Refusal.{Refusal}
use Rattle.pm_store.specs.declared.call.Op.{Op}
use Rattle.pm_store.specs.Files.{Files, files_after}
use Rattle.pm_store.specs.Store.{StoreView, Came, GoesOn, IsAlone, at_first_own, ops_at_first_own, others_in, others_told, up_to_own}
use Rattle.pm_store.proofs.StepLaws.{GoesOn-refl, others_in-append}
use Rattle.pm_machine.proofs.AloneLaws.{Traces-goes_on}
use Rattle.pm_create.specs.Making.{LeavesFiles}
use Rattle.pm_words.specs.declared.command.Command.{Command}
use Rattle.pm_words.specs.declared.command.Command.TheVariants as commands
use Rattle.pm_command.specs.Outside.{Outside}
use Rattle.pm_command.specs.declared.start.Start.{Start}
use Rattle.pm_cli.specs.Commands.{Acts, IsSingle}

drop_front : (ops more : List Op) → drop (length ops) (ops ++ more) ≡ more
drop_front [] more = refl
drop_front (op ∷ ops) more = drop_front ops more

none_own : (own : Bool) (op : Op) (ops : List Op) → (if own then 0 else 1) + others_in ops ≤ 0 → (if own then [] else op ∷ up_to_own ops) ≡ []
none_own true op ops few = refl
none_own false op ops few = absurd (omega (arith, few))

none_other : (ops : List Op) → others_in ops ≤ 0 → up_to_own ops ≡ []
none_other [] few = refl
none_other (op ∷ ops) few = none_own op.is_own op ops few

first_known : (P : List Op → Type 0) (known now : Option (List Op)) → Came (λ ops more. Unit {0}) known now → others_told now ≡ others_told known
    → IsSomeAnd known P → ops_at_first_own known now ≡ known
first_known P None now came alone here = absurd here
first_known P (Some ops) now (more, is, x) alone here =
    let few : others_in more ≤ 0 = omega (arith, alone, ap others_told is, others_in-append ops more) in
    ap (ops_at_first_own (Some ops)) is
    ∙ ap (λ (more : List Op). Some (ops ++ up_to_own more)) (drop_front ops more)
    ∙ ap (λ (more : List Op). Some (ops ++ more)) (none_other more few)
    ∙ ap Some (append-nil ops)

pub first_same : (P : Files → Type 0) (before after : StoreView) → GoesOn before after → IsAlone before after → LeavesFiles P before
    → (at_first_own before after).ops ≡ before.ops
first_same P before after goes alone here = first_known (λ ops. P (files_after ops)) before.ops after.ops goes alone here

pub from_before : (P : Files → Type 0) (before after : StoreView) → GoesOn before after → IsAlone before after → LeavesFiles P before
    → LeavesFiles P (at_first_own before after) × IsAlone (at_first_own before after) after
from_before P before after goes alone here =
    let same = first_same P before after goes alone here in
    (subst (λ (ops : Option (List Op)). IsSomeAnd ops (λ ops. P (files_after ops))) (sym same) here, alone ∙ ap others_told (sym same))

-- what a command does not touch goes on as it is
untouched : (before after : StoreView) → after ≡ before → GoesOn before after
untouched before after same = subst (λ (after : StoreView). GoesOn before after) (sym same) (GoesOn-refl before)

pub acts_goes_on : (command : Command) → IsSingle command → (start : Start) (before after : Outside) (answer : Option Refusal) → Acts command start before after answer
    → GoesOn before.store after.store
acts_goes_on commands.Create single start before after answer (inl (e, is, refuses, rest)) = untouched before.store after.store rest.store
acts_goes_on commands.Create single start before after answer (inr (s, is, (made, (own, did, traces), prints))) =
    Traces-goes_on own before.store after.store traces
acts_goes_on (commands.Scan at) single start before after answer (made, (own, did, traces), beside, prints) = Traces-goes_on own before.store after.store traces
acts_goes_on (commands.Consumers None) single start before after answer (made, (own, did, traces), beside, prints) = Traces-goes_on own before.store after.store traces
acts_goes_on (commands.Consumers (Some name)) single start before after answer (made, (own, did, traces), beside, prints) =
    Traces-goes_on own before.store after.store traces
acts_goes_on commands.Snapshots single start before after answer (made, (own, did, traces), beside, prints) = Traces-goes_on own before.store after.store traces
acts_goes_on (commands.Compact full) single start before after answer (made, (own, did, traces), prints) = Traces-goes_on own before.store after.store traces
acts_goes_on (commands.Expire min max millis) single start before after answer (made, (own, did, traces), beside, prints) =
    Traces-goes_on own before.store after.store traces
acts_goes_on (commands.Follow from None full) single start before after answer ((own, ends, traces), beside) = Traces-goes_on own before.store after.store traces
acts_goes_on (commands.Follow from (Some name) full) single start before after answer ((own, ends, traces), beside) =
    Traces-goes_on own before.store after.store traces
acts_goes_on (commands.Generate batches rows seed) single start before after answer acts = absurd single
acts_goes_on (commands.Write user number) single start before after answer (inl (e, is, refuses, rest)) = untouched before.store after.store rest.store
acts_goes_on (commands.Write user number) single start before after answer (inr (lines, (made, (own, did, traces), prints))) =
    Traces-goes_on own before.store after.store traces
