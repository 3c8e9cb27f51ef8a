-- Writing a text in pieces.
use Rattle.std.proofs.Common.{◌≡◌, ◌≢◌, ◌⊎◌, inl, inr, List, [], ◌++◌, ℕ, ◌-◌, ◌≤◌, length, take, drop, Option, Result, refl, ap, sym, ◌∙◌, subst, arith, append_assoc, append-nil}
use Rattle.std.proofs.lemmas.List.{drop_all, take-append-drop}
use Rattle.pm_base.specs.Known.{and_then}
use Rattle.pm_base.proofs.Laws.{and_then-append, and_then-nil}
use Rattle.pm_base.specs.Faults.{one_more}
use Rattle.pm_io.specs.Memory.{Taking, IsCall}
use Rattle.pm_io.specs.Sink.{TookAllBut, TookPrefix, Offered, Begun, Took}
use Rattle.pm_io.specs.declared.source.Failed.{Failed}

pub TookAllBut-start : (known : Option (List ℕ)) (text : List ℕ) → TookAllBut text known known text
TookAllBut-start known text = ([], refl, sym (and_then-nil known))

pub TookAllBut-more : (n : ℕ) (rest : List ℕ) (before mid after : Option (List ℕ)) (text : List ℕ) → TookAllBut rest before mid text → after ≡ and_then mid (take n rest) → TookAllBut (drop n rest) before after text
TookAllBut-more n rest before mid after text (prefix, is, took) more =
    let parts : text ≡ (prefix ++ take n rest) ++ drop n rest = is ∙ ap (λ (l : List ℕ). prefix ++ l) (sym (take-append-drop n rest)) ∙ sym (append_assoc prefix (take n rest) (drop n rest)) in
    (prefix ++ take n rest, parts, more ∙ ap (λ t. and_then t (take n rest)) took ∙ and_then-append before prefix (take n rest))

pub TookAllBut-stop : (rest : List ℕ) (before mid after : Option (List ℕ)) (text : List ℕ) → TookAllBut rest before mid text → after ≡ mid → TookPrefix before after text
TookAllBut-stop rest before mid after text (prefix, is, took) same = (prefix, rest, is, same ∙ took)

pub TookAllBut-end : (rest : List ℕ) (before after : Option (List ℕ)) (text : List ℕ) → TookAllBut rest before after text → rest ≡ [] → after ≡ and_then before text
TookAllBut-end rest before after text (prefix, is, took) none =
    took ∙ ap (and_then before) (sym (is ∙ ap (λ (l : List ℕ). prefix ++ l) none ∙ append-nil prefix))

-- nothing is left
pub Offered-end : {W : Type 0} (called : W → List ℕ → Result ℕ Failed → W → Type 0) (first last : W) (text rest : List ℕ) → Offered called first text last rest → rest ≡ []
    → Offered called first text last []
Offered-end called first last text rest all none = subst (Offered called first text last) none all

-- ---- a sink in memory with room for all

-- no call was made, or one took all
Offered-room : (first : Taking) (text : List ℕ) (mid : Taking) (rest : List ℕ) → length text ≤ first.room - length first.taken → Offered IsCall first text mid rest
    → ((mid ≡ first) × (rest ≡ text)) ⊎ ((mid.calls ≡ one_more first.calls) × (rest ≡ []))
Offered-room first text _ _ room Begun = inl (refl, refl)
Offered-room first text _ _ room (Took before mid taken n early some call) =
    elim (Offered-room first text before taken room early) [
      | inl is ↦ inr (call.counted ∙ ap (λ (sink : Taking). one_more sink.calls) is.0, drop_all n taken (omega (arith, call.amount, room, ap length is.1, ap (λ (sink : Taking). sink.room - length sink.taken) is.0)))
      | inr none ↦ absurd (some none.1)
    ]

-- a text that isn't empty is taken by one call
pub one_call : (first last : Taking) (text : List ℕ) → text ≢ [] → length text ≤ first.room - length first.taken → Offered IsCall first text last []
    → last.calls ≡ one_more first.calls
one_call first last text some room all = elim (Offered-room first text last [] room all) [ inl is ↦ absurd (some (sym is.1)) | inr one ↦ one.0 ]
