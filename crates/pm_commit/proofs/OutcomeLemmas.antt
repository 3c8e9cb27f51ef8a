-- What a try leads to, case by case.
use Rattle.std.proofs.Common.{◌≡◌, ◌⊎◌, inl, inr, ℕ, ◌<◌, Bool, true, false, List, [], ◌∷◌, length, Ok, Err, IfErr, refl, sym, subst}
use Rattle.pm_values.specs.declared.refusal.Refusal.{Refusal}
use Rattle.pm_read_table.specs.Reader as reader
use Rattle.pm_read_table.specs.Reader.{most}
use Rattle.pm_read_table.specs.declared.phase.Phase as view_phase
use Rattle.pm_read_table.specs.declared.phase.Phase.TheVariants as readers
use Rattle.pm_read_table.specs.declared.view.View.{View}
use Rattle.pm_commit.specs.Committer.{AfterReader, Hears, Makes, Outcome, Tries, TriesIf, found_in}
use Rattle.pm_commit.specs.Own.{OwnView, begun}
use Rattle.pm_commit.specs.Search.{older_ids, searching_of, seen_in}
use Rattle.pm_commit.specs.declared.found.Found.{Found}
use Rattle.pm_commit.specs.declared.phase.Phase.{Phase}
use Rattle.pm_commit.specs.declared.phase.Phase.TheVariants as phases
use Rattle.pm_commit.specs.declared.search.Seen.{Seen}
use Rattle.pm_commit.specs.declared.search.Seen.TheVariants as seen

pub ok-same : (a b : Phase) → ◌≡◌ {A = Outcome} (Ok a) (Ok b) → a ≡ b
ok-same a b e = cc

pub err-ok : (a : Refusal) (b : Phase) → ◌≡◌ {A = Outcome} (Err a) (Ok b) → ⊥
err-ok a b e = cc

-- no older snapshot keeps it from its files
abbrev pub IsFree : Seen → List ℕ → Type 0
IsFree said left = ((said ≡ seen.Other) × (left ≡ [])) ⊎ (said ≡ seen.Below)

-- a snapshot said this: its files are made, or the next older snapshot is to be read, or it is done
pub heard : (P : Outcome → Type 0) (own : OwnView) (found : Found) (left : List ℕ) (said : Seen) (outcome : Outcome)
    → (IsFree said left → Makes own found outcome → P outcome)
    → ((id : ℕ) (rest : List ℕ) → said ≡ seen.Other → left ≡ id ∷ rest → length rest < most → P (Ok (phases.Search own (searching_of found id rest))))
    → (said ≡ seen.Reached → P (Ok (phases.Already own.author))) → Hears own found left said outcome → P outcome
heard P own found [] seen.Other outcome make seek done on = make (inl (refl, refl)) on
heard P own found (id ∷ rest) seen.Other outcome make seek done (few, is) = subst P (sym is) (seek id rest refl refl few)
heard P own found left seen.Below outcome make seek done on = make (inr refl) on
heard P own found left seen.Reached outcome make seek done is = subst P (sym is) (done refl)

-- an earlier commit is looked for, or isn't
pub tried : (P : Type 0) (own : OwnView) (v : View) (outcome : Outcome) → (own.check ≡ false → Makes own (found_in v) outcome → P)
    → (own.check ≡ true → Hears own (found_in v) (older_ids v.listed.items) (seen_in own.author v.snapshot) outcome → P) → Tries own v outcome → P
tried P own v outcome make hear = by_test own.check refl
  where
    by_test : (b : Bool) → own.check ≡ b → TriesIf b own v outcome → P
    by_test true asked on = hear asked on
    by_test false unasked on = make unasked on

-- the reader of its view is ready, or it goes on with it
pub read-on : (P : Outcome → Type 0) (Q : view_phase.Phase → Type 0) (own : OwnView) (outcome : Outcome)
    → ((v : View) → Q (readers.Ready v) → Tries (begun v.id own) v outcome → P outcome)
    → ((m : view_phase.Phase) → (reader.IsReady m → ⊥) → Q m → P (Ok (phases.View own m)))
    → (m : view_phase.Phase) → Q m → AfterReader own m outcome → P outcome
read-on P Q own outcome ready view (readers.Ready v) has on = ready v has on
read-on P Q own outcome ready view m has is = subst P (sym is) (view m (λ none. none) has)

-- it is refused where its files would be made, and nowhere else
abbrev pub Refused : Type 0 → Outcome → Type 0
Refused P outcome = IfErr outcome (λ (refusal : Refusal). P)

pub heard-refused : (P : Type 0) (own : OwnView) (found : Found) (left : List ℕ) (said : Seen) (refusal : Refusal)
    → (IsFree said left → Makes own found (Err refusal) → P) → Hears own found left said (Err refusal) → P
heard-refused P own found left said refusal make on = heard (Refused P) own found left said (Err refusal) make (λ id rest other is few. tt) (λ reached. tt) on

pub tried-refused : (P : Type 0) (own : OwnView) (v : View) (refusal : Refusal) → (Makes own (found_in v) (Err refusal) → P) → Tries own v (Err refusal) → P
tried-refused P own v refusal make =
    tried P own v (Err refusal) (λ unasked on. make on)
    (λ asked on. heard-refused P own (found_in v) (older_ids v.listed.items) (seen_in own.author v.snapshot) refusal (λ free on. make on) on)

pub read-refused : (P : Type 0) (Q : view_phase.Phase → Type 0) (own : OwnView) (refusal : Refusal)
    → ((v : View) → Q (readers.Ready v) → Tries (begun v.id own) v (Err refusal) → P)
    → (m : view_phase.Phase) → Q m → AfterReader own m (Err refusal) → P
read-refused P Q own refusal ready m has on = read-on (Refused P) Q own (Err refusal) ready (λ m none has. tt) m has on
