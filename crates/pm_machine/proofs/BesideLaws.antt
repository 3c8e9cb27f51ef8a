-- What is known after calls one after another, whatever others do between them.
use Rattle.std.proofs.Common.{◌≡◌, inl, inr, List, [], ◌∷◌, ◌++◌, ap, refl, sym, subst, ◌∙◌, append_assoc, append-nil}
use Rattle.pm_store.specs.declared.call.Op.{Op}
use Rattle.pm_store.specs.Files.{Files, after_op, files_after}
use Rattle.pm_store.specs.Store.{AreOthers, EndsWith, StoreView}
use Rattle.pm_store.proofs.FileLaws.{files_after-push}
use Rattle.pm_store.proofs.StepLaws.{Came-joined, Came-none, Came-weaker}
use Rattle.pm_machine.specs.Beside.{Carries, OthersLead}
use Rattle.pm_machine.specs.Moves.{IsKept, Keeps, Moves}

-- What is known of files and of what they stand for, and is known of what others' operations lead to.
module _ {H : Type 0} (Folder : Files → H → Type 0) (Others : Files → H → Files → H → Type 0) where
  -- what others' operations among some and more lead to, they do one after another
  split : (some more ops : List Op) (h later : H) → OthersLead Others (some ++ more) ops h later
      → (middle : H) × OthersLead Others some ops h middle × OthersLead Others more (ops ++ some) middle later
  split [] more ops h later leads = (h, refl, subst (λ (ops : List Op). OthersLead Others more ops h later) (sym (append-nil ops)) leads)
  split (op ∷ some) more ops h later (next, one, rest) =
      let (middle, first, last) = split some more (ops ++ op ∷ []) next later rest in (
        middle,
        (next, one, first),
        subst (λ (ops : List Op). OthersLead Others more ops middle later) (append_assoc ops (op ∷ []) some) last,
      )

  -- what some operations say of those that came before them
  abbrev Knowing : (Files → H → Type 0) → (Files → H → Type 0) → List Op → List Op → Type 0
  Knowing knew knows ops more = (h later : H) → Folder (files_after ops) h → knew (files_after ops) h → OthersLead Others more ops h later
      → Folder (files_after (ops ++ more)) later × knows (files_after (ops ++ more)) later

  -- no calls
  pub carries-none : (knows : Files → H → Type 0) (store : StoreView) → Carries Folder Others knows knows store store
  carries-none knows store = Came-none (Knowing knows knows) store.ops (λ ops h later folder known leads. (
      let same : files_after ops ≡ files_after (ops ++ []) = ap files_after (sym (append-nil ops)) in (
        subst (λ (f : Files). Folder f later) same (subst (Folder (files_after ops)) (sym leads) folder),
        subst (λ (f : Files). knows f later) same (subst (knows (files_after ops)) (sym leads) known),
      )))

  -- less is known before, or more after
  pub carries-weaker : (knew had has knows : Files → H → Type 0) (before after : StoreView) → ((f : Files) (h : H) → knew f h → had f h)
      → ((f : Files) (h : H) → Folder f h → has f h → knows f h) → Carries Folder Others had has before after
      → Carries Folder Others knew knows before after
  carries-weaker knew had has knows before after first last = Came-weaker (Knowing had has) (Knowing knew knows) before.ops after.ops (λ ops more here h later folder known leads. (
      let found = here h later folder (first (files_after ops) h known) leads in
      (found.0, last (files_after (ops ++ more)) later found.0 found.1)))

  -- calls, and then others
  pub carries-then : (knew had knows : Files → H → Type 0) (first middle after : StoreView) → Carries Folder Others knew had first middle
      → Carries Folder Others had knows middle after → Carries Folder Others knew knows first after
  carries-then knew had knows first middle after came then_came = Came-joined (Knowing knew had) (Knowing had knows) (Knowing knew knows) first.ops middle.ops
      after.ops came then_came (λ ops more rest early late h later folder known leads. (
      let (between, some, others) = split more rest ops h later leads in
      let had = early h between folder known some in
      let has = late between later had.0 had.1 others in
      let same : files_after ((ops ++ more) ++ rest) ≡ files_after (ops ++ (more ++ rest)) = ap files_after (append_assoc ops more rest) in
      (subst (λ (f : Files). Folder f later) same has.0, subst (λ (f : Files). knows f later) same has.1)))

  -- ---- one step

  module _ (knew : Files → H → Type 0)
      (keep : (f after : Files) (h later : H) → Folder f h → knew f h → Others f h after later → Folder after later × knew after later) where
    -- while others alone act
    others-keep : (others ops : List Op) (h later : H) → AreOthers others → OthersLead Others others ops h later → Folder (files_after ops) h
        → knew (files_after ops) h → Folder (files_after (ops ++ others)) later × knew (files_after (ops ++ others)) later
    others-keep [] ops h later theirs leads folder known =
        let same : files_after ops ≡ files_after (ops ++ []) = ap files_after (sym (append-nil ops)) in (
          subst (λ (f : Files). Folder f later) same (subst (Folder (files_after ops)) (sym leads) folder),
          subst (λ (f : Files). knew f later) same (subst (knew (files_after ops)) (sym leads) known),
        )
    others-keep (op ∷ others) ops h later (their, theirs) (next, one, rest) folder known =
        let now = keep (files_after ops) (files_after (ops ++ op ∷ [])) h next folder known (one.theirs their) in
        let end = others-keep others (ops ++ op ∷ []) next later theirs rest now.0 now.1 in
        let same : files_after ((ops ++ op ∷ []) ++ others) ≡ files_after (ops ++ (op ∷ others)) = ap files_after (append_assoc ops (op ∷ []) others) in
        (subst (λ (f : Files). Folder f later) same end.0, subst (λ (f : Files). knew f later) same end.1)

    -- A step of a reader, whose own operation changes nothing.
    pub carries-moves : (knows : Files → H → Type 0) (before after : StoreView)
        → ((f after : Files) (h later : H) → Folder f h → IsKept f h after later → Folder after later)
        → Moves Folder IsKept knew knows before after → Carries Folder Others knew knows before after
    carries-moves knows before after stays (inl (op, own, steps)) = Came-weaker (EndsWith op (λ ops. Keeps Folder IsKept knew knows op (files_after ops))) (Knowing knew knows) before.ops after.ops
        (λ ops more ends h later folder known leads. end-of ops more ends h later folder known leads) steps
      where
        end-of : (ops more : List Op) → EndsWith op (λ ops. Keeps Folder IsKept knew knows op (files_after ops)) ops more
            → (h later : H) → Folder (files_after ops) h → knew (files_after ops) h → OthersLead Others more ops h later
            → Folder (files_after (ops ++ more)) later × knows (files_after (ops ++ more)) later
        end-of ops more (others, is, theirs, keeps) h later folder known leads =
            let (middle, some, last) = split others (op ∷ []) ops h later (subst (λ (more : List Op). OthersLead Others more ops h later) is leads) in
            let (next, one, end) = last in
            let same : later ≡ middle = end ∙ one.own own in
            let here = others-keep others ops h middle theirs some folder known in
            let (past, kept, has) = (keeps middle here.0 here.1).1 in
            let now = stays (files_after (ops ++ others)) (after_op op (files_after (ops ++ others))) middle past here.0 kept in
            let files : after_op op (files_after (ops ++ others)) ≡ files_after (ops ++ more) =
            sym (files_after-push (ops ++ others) op) ∙ ap files_after (append_assoc ops others (op ∷ []) ∙ ap (λ (more : List Op). ops ++ more) (sym is)) in
            let at : past ≡ later = kept.past ∙ sym same in (
              subst (λ (f : Files). Folder f later) files (subst (Folder (after_op op (files_after (ops ++ others)))) at now),
              subst (λ (f : Files). knows f later) files (subst (knows (after_op op (files_after (ops ++ others)))) at has),
            )
    carries-moves knows before after stays (inr (meanwhile, same)) = Came-weaker (λ ops more. AreOthers more) (Knowing knew knows) before.ops after.ops
        (λ ops more theirs h later folder known leads. (
        let now = others-keep more ops h later theirs leads folder known in
        (now.0, same (files_after (ops ++ more)) later now.0 now.1))) meanwhile
