use Rattle.std.proofs.Common.{◌≡◌, ◌∙◌, ◌∷◌, ℕ, List, map, Bor, ap, subst}
use Rattle.std.proofs.lemmas.Result.{IfOk-weaker}
use Rattle.pm_words.specs.Reading.{Finds, GiveAfter}
use Rattle.pm_words.proofs.CommandLemmas.{found_given, none_stands}
use Rattle.pm_words.proofs.command.command_in.Goals as goal

pub returns-in-Some-2-clause-none : goal.returns-in-Some-2-clause-none
returns-in-Some-2-clause-none c =
    let texts : map (λ (word : Bor (List ℕ)). word.now) c.as_slice.result.now ≡ c.in-Some.later.now =
    ap (map (λ (word : Bor (List ℕ)). word.now)) c.as_slice.ensures.value ∙ (rw c.in-Some-2.is at c.in_ok-texts.ensures.some) in
    let words : c.args.words.now ≡ c.as_str.result.now ∷ c.in-Some.later.now = rw c.as_str.ensures c.in-Some.ensures.cases.0 in
    IfOk-weaker c.command_of.result _ _
    (λ found finds. (found_given c.as_str.result.now c.in-Some.later.now c.args.words.now words found
    (subst (λ ws. Finds (GiveAfter c.as_str.result.now ws) found) texts finds)).1)
    c.command_of.ensures

pub returns-in-None-clause-none : goal.returns-in-None-clause-none
returns-in-None-clause-none c =
    none_stands c.in-Some.word.now c.in-Some.later.now c.args.words.now c.in-Some.ensures.cases.0 (rw c.in-None.is at c.in_ok-texts.ensures.none)
