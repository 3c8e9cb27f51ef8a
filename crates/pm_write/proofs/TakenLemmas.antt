-- The rows that are taken of lines, one line after another.
use Rattle.std.proofs.Common.{◌≡◌, ◌≢◌, ℕ, ◌+◌, ◌-◌, ◌==◌, List, [], ◌∷◌, ◌++◌, length, Bool, false, cond, Option, Some, None, Result, Ok, Err, refl, sym, ap, subst, ◌∙◌, append_assoc, append-nil, arith}
use Rattle.std.proofs.lemmas.Bool.Decides.{nat_tests}
use Rattle.pm_base.specs.Outcome.{◌>>=◌, Fails}
use Rattle.pm_values.specs.declared.record.Stamped.{Stamped}
use Rattle.pm_values.specs.declared.refusal.Refusal.{Refusal}
use Rattle.pm_model_history.specs.Merge.{HistoryRow}
use Rattle.pm_schema.specs.declared.schema.TableSchema.{TableSchema}
use Rattle.pm_input.specs.Rows.{refusal_in}
use Rattle.pm_run.specs.Writing.{CountFrom}
use Rattle.pm_write.specs.Taken.{no_room, taken_in, taken_of, with_taken}

-- what is taken of a line, and then of the later ones
abbrev and_later : Result (List HistoryRow) Refusal → Result (List HistoryRow) Refusal → Result (List HistoryRow) Refusal
and_later first later = first >>= (λ (f : List HistoryRow). later >>= (λ (l : List HistoryRow). Ok (f ++ l)))

-- a line that is refused ends the reading
refused : (fault : Option Refusal) (before : List HistoryRow) (first later all : Result (List HistoryRow) Refusal) → Fails fault (with_taken before first) → with_taken before (and_later first later) ≡ all → Fails fault all
refused None before first later all fails same = tt
refused (Some e) before (Ok f) later all fails same = cc
refused (Some e) before (Err r) later all fails same = sym same ∙ fails

-- what is taken from a line on, where there is room
taken_here : (s : TableSchema) (room : ℕ) (line : ℕ × List ℕ) (left later : List (ℕ × List ℕ)) → left ≡ line ∷ later → room ≢ 0
    → taken_in s room left ≡ and_later (taken_of s line) (taken_in s (room - 1) later)
taken_here s room line left later is some =
    let test : (room == 0) ≡ false = grind (arith, nat_tests) in
    ap (taken_in s room) is
    ∙ ap (λ (b : Bool). and_later (cond b (Err no_room) (taken_of s line)) (taken_in s (room - 1) later)) test

pub refused_here : (s : TableSchema) (room : ℕ) (line : ℕ × List ℕ) (left later : List (ℕ × List ℕ)) (before : List HistoryRow) (all : Result (List HistoryRow) Refusal) (e : Refusal)
    → left ≡ line ∷ later → room ≢ 0 → Fails (refusal_in e) (with_taken before (taken_of s line)) → with_taken before (taken_in s room left) ≡ all
    → Fails (refusal_in e) all
refused_here s room line left later before all e is some fails same =
    refused (refusal_in e) before (taken_of s line) (taken_in s (room - 1) later) all fails
    (ap (with_taken before) (sym (taken_here s room line left later is some)) ∙ same)

-- a line that isn't, and then the later ones
with_taken-step : (before now : List HistoryRow) (first later : Result (List HistoryRow) Refusal) → with_taken before first ≡ Ok now → with_taken before (and_later first later) ≡ with_taken now later
with_taken-step before now (Ok f) (Ok l) e =
    let same : before ++ f ≡ now = cc in
    ap Ok (sym (append_assoc before f l) ∙ ap (λ (xs : List HistoryRow). xs ++ l) same)
with_taken-step before now (Ok f) (Err r) e = refl
with_taken-step before now (Err r) later e = cc

pub taken_more : (s : TableSchema) (room : ℕ) (line : ℕ × List ℕ) (left later : List (ℕ × List ℕ)) (before now : List HistoryRow) (all : Result (List HistoryRow) Refusal)
    → left ≡ line ∷ later → room ≢ 0 → with_taken before (taken_of s line) ≡ Ok now → with_taken before (taken_in s room left) ≡ all
    → with_taken now (taken_in s (room - 1) later) ≡ all
taken_more s room line left later before now all is some step same =
    sym (with_taken-step before now (taken_of s line) (taken_in s (room - 1) later) step) ∙ ap (with_taken before) (sym (taken_here s room line left later is some)) ∙ same

-- no rows stand before
pub with_taken-none : (taken : Result (List HistoryRow) Refusal) → with_taken [] taken ≡ taken
with_taken-none (Ok rows) = refl
with_taken-none (Err e) = refl

-- the lines of two halves, one after the other: the first that is refused, and all rows
pub first_refused : (s : TableSchema) (n : ℕ) (lines first later : List (ℕ × List ℕ)) (before : List HistoryRow) (fault : Option Refusal) → lines ≡ first ++ later → before ≡ []
    → Fails fault (with_taken before (taken_in s n (first ++ later))) → Fails fault (taken_in s n lines)
first_refused s n lines first later before fault halves none fails =
    subst (Fails fault) (ap (λ (rows : List HistoryRow). with_taken rows (taken_in s n (first ++ later))) none ∙ with_taken-none (taken_in s n (first ++ later)) ∙ ap (taken_in s n) (sym halves)) fails

pub later_refused : (s : TableSchema) (n left : ℕ) (lines first later : List (ℕ × List ℕ)) (before now : List HistoryRow) (fault : Option Refusal) → lines ≡ first ++ later → before ≡ []
    → with_taken now (taken_in s left later) ≡ with_taken before (taken_in s n (first ++ later)) → Fails fault (with_taken now (taken_in s left (later ++ []))) → Fails fault (taken_in s n lines)
later_refused s n left lines first later before now fault halves none more fails =
    first_refused s n lines first later before fault halves none (subst (Fails fault) (ap (λ (ls : List (ℕ × List ℕ)). with_taken now (taken_in s left ls)) (append-nil later) ∙ more) fails)

pub all_halves : (s : TableSchema) (n left end : ℕ) (lines first later : List (ℕ × List ℕ)) (before now all : List HistoryRow) → lines ≡ first ++ later → before ≡ []
    → with_taken now (taken_in s left later) ≡ with_taken before (taken_in s n (first ++ later)) → with_taken all (taken_in s end []) ≡ with_taken now (taken_in s left (later ++ []))
    → taken_in s n lines ≡ Ok all
all_halves s n left end lines first later before now all halves none more last =
    ap (taken_in s n) halves
    ∙ sym (with_taken-none (taken_in s n (first ++ later)))
    ∙ ap (λ (rows : List HistoryRow). with_taken rows (taken_in s n (first ++ later))) (sym none)
    ∙ sym more
    ∙ ap (λ (ls : List (ℕ × List ℕ)). with_taken now (taken_in s left ls)) (sym (append-nil later))
    ∙ sym last
    ∙ ap Ok (append-nil all)

-- the numbers count on
pub CountFrom-push : (n : ℕ) (xs : List Stamped) (x : Stamped) → CountFrom n xs → x.seq ≡ n + length xs → CountFrom n (xs ++ x ∷ [])
CountFrom-push n [] x counts e = (omega arith, tt)
CountFrom-push n (y ∷ ys) x counts e = (counts.0, CountFrom-push (n + 1) ys x counts.1 (omega arith))
