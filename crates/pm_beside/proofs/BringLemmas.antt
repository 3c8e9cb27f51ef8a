-- What calls bring one after another, whatever others do between them.
use Rattle.std.proofs.Common.{◌≡◌, inl, inr, List, [], ◌∷◌, ◌++◌, true, true≢false, refl, sym, subst, ◌∙◌, append_assoc, append-nil}
use Rattle.pm_store.specs.declared.call.Op.{Op}
use Rattle.pm_store.specs.Files.{Files, after_op, files_after}
use Rattle.pm_store.specs.Store.{AreOthers, EndsWith, Meanwhile, Steps, StoreView}
use Rattle.pm_store.proofs.FileLaws.{files_after-push}
use Rattle.pm_store.proofs.StepLaws.{Came-joined, Came-none, Came-weaker}
use Rattle.pm_machine.specs.Beside.{Carries, OthersLead}
use Rattle.pm_machine.specs.Moves.{Keeps, Moves}
use Rattle.pm_beside.specs.Bringing.{Brings, Through}

-- What files stand for.
module _ {H : Type 0} where
  -- ---- less is asked of own changes, more of others', and less is so at the end

  pub through-weaker : (Own More Others Fewer : Files → H → Files → H → Type 0) (ends Ends : Files → H → Type 0)
      → ((f after : Files) (h later : H) → Own f h after later → More f h after later)
      → ((f after : Files) (h later : H) → Fewer f h after later → Others f h after later)
      → ((f : Files) (h : H) → ends f h → Ends f h) → (more ops : List Op) (h : H)
      → Through Own Others ends more ops h → Through More Fewer Ends more ops h
  through-weaker Own More Others Fewer ends Ends own theirs last [] ops h through = last (files_after ops) h through
  through-weaker Own More Others Fewer ends Ends own theirs last (op ∷ more) ops h through = (
    (λ is.
        let (later, change, rest) = through.0 is in (
          later,
          own (files_after ops) (files_after (ops ++ op ∷ [])) h later change,
          through-weaker Own More Others Fewer ends Ends own theirs last more (ops ++ op ∷ []) later rest,
        )),
    (λ is later change.
        through-weaker Own More Others Fewer ends Ends own theirs last more (ops ++ op ∷ []) later
        (through.1 is later (theirs (files_after ops) (files_after (ops ++ op ∷ [])) h later change))),
  )

  -- at the same operations, spelled in another way
  through-at : (Own Others : Files → H → Files → H → Type 0) (ends : Files → H → Type 0) (more ops others : List Op) (h : H) → ops ≡ others
      → Through Own Others ends more ops h → Through Own Others ends more others h
  through-at Own Others ends more ops others h same through = subst (λ (ops : List Op). Through Own Others ends more ops h) same through

  -- some operations, and more from where these led
  pub through-then : (Own Others : Files → H → Files → H → Type 0) (ends Ends : Files → H → Type 0) (some more ops : List Op) (h : H)
      → Through Own Others ends some ops h
      → ((later : H) → ends (files_after (ops ++ some)) later → Through Own Others Ends more (ops ++ some) later)
      → Through Own Others Ends (some ++ more) ops h
  through-then Own Others ends Ends [] more ops h through then =
      let same : ops ++ [] ≡ ops = append-nil ops in
      through-at Own Others Ends more (ops ++ []) ops h same (then h (subst (λ (ops : List Op). ends (files_after ops) h) (sym same) through))
  through-then Own Others ends Ends (op ∷ some) more ops h through then =
      let same : ops ++ (op ∷ some) ≡ (ops ++ op ∷ []) ++ some = sym (append_assoc ops (op ∷ []) some) in
      let on : (later : H) → ends (files_after ((ops ++ op ∷ []) ++ some)) later → Through Own Others Ends more ((ops ++ op ∷ []) ++ some) later =
      subst (λ (ops : List Op). (later : H) → ends (files_after ops) later → Through Own Others Ends more ops later) same then in (
        (λ is.
            let (later, change, rest) = through.0 is in
            (later, change, through-then Own Others ends Ends some more (ops ++ op ∷ []) later rest on)),
        (λ is later change. through-then Own Others ends Ends some more (ops ++ op ∷ []) later (through.1 is later change) on),
      )

  module _ (Folder : Files → H → Type 0) (Own Others : Files → H → Files → H → Type 0) where
    -- what operations say of those that came before them
    abbrev Bringing : (Files → H → Type 0) → (Files → H → Type 0) → List Op → List Op → Type 0
    Bringing knew knows ops more = (h : H) → Folder (files_after ops) h → knew (files_after ops) h
        → Through Own Others (λ f later. Folder f later × knows f later) more ops h

    -- no calls
    pub brings-none : (knows : Files → H → Type 0) (store : StoreView) → Brings Folder Own Others knows knows store store
    brings-none knows store = Came-none (Bringing knows knows) store.ops (λ ops h folder known. (folder, known))

    -- calls, and then others
    pub brings-then : (knew had knows : Files → H → Type 0) (first middle after : StoreView) → Brings Folder Own Others knew had first middle
        → Brings Folder Own Others had knows middle after → Brings Folder Own Others knew knows first after
    brings-then knew had knows first middle after came then_came = Came-joined (Bringing knew had) (Bringing had knows) (Bringing knew knows) first.ops middle.ops
        after.ops came then_came (λ ops more rest early late h folder known.
        through-then Own Others (λ f later. Folder f later × had f later) (λ f later. Folder f later × knows f later) more rest ops h (early h folder known)
        (λ later both. late later both.0 both.1))

    -- ---- one step

    module _ (knew : Files → H → Type 0)
        (keep : (f after : Files) (h later : H) → Folder f h → knew f h → Others f h after later → Folder after later × knew after later) where
      -- while others alone act
      through-others : (others ops : List Op) (h : H) → AreOthers others → Folder (files_after ops) h → knew (files_after ops) h
          → Through Own Others (λ f later. Folder f later × knew f later) others ops h
      through-others [] ops h theirs folder known = (folder, known)
      through-others (op ∷ others) ops h (their, theirs) folder known = (
        (λ is. absurd (true≢false (sym is ∙ their))),
        (λ is later change.
            let now = keep (files_after ops) (files_after (ops ++ op ∷ [])) h later folder known change in
            through-others others (ops ++ op ∷ []) later theirs now.0 now.1),
      )

      pub brings-meanwhile : (before after : StoreView) → Meanwhile before after → Brings Folder Own Others knew knew before after
      brings-meanwhile before after meanwhile = Came-weaker (λ ops more. AreOthers more) (Bringing knew knew) before.ops after.ops
          (λ ops more theirs h folder known. through-others more ops h theirs folder known) meanwhile

      -- a call that came as an own operation, up to which this is so of all of them
      pub brings-steps : (knows : Files → H → Type 0) (op : Op) (P : List Op → Type 0) (before after : StoreView) → op.is_own ≡ true
          → ((ops : List Op) (h : H) → P ops → Folder (files_after ops) h → knew (files_after ops) h
          → (later : H) × Own (files_after ops) h (after_op op (files_after ops)) later
          × (Folder (after_op op (files_after ops)) later × knows (after_op op (files_after ops)) later))
          → Steps op P before after → Brings Folder Own Others knew knows before after
      brings-steps knows op P before after own does steps = Came-weaker (EndsWith op P) (Bringing knew knows) before.ops after.ops
          (λ ops more ends h folder known. ending ops more ends h folder known) steps
        where
          last : (ops : List Op) (h : H) → P ops → Folder (files_after ops) h → knew (files_after ops) h
              → Through Own Others (λ f later. Folder f later × knows f later) (op ∷ []) ops h
          last ops h here folder known =
              let (later, change, both) = does ops h here folder known in
              let files : after_op op (files_after ops) ≡ files_after (ops ++ op ∷ []) = sym (files_after-push ops op) in (
                (λ is. (
                  later,
                  subst (λ (f : Files). Own (files_after ops) h f later) files change,
                  subst (λ (f : Files). Folder f later × knows f later) files both,
                )),
                (λ is later change. absurd (true≢false (sym own ∙ is))),
              )

          ending : (ops more : List Op) → EndsWith op P ops more → (h : H) → Folder (files_after ops) h → knew (files_after ops) h
              → Through Own Others (λ f later. Folder f later × knows f later) more ops h
          ending ops more (others, is, theirs, here) h folder known =
              subst (λ (more : List Op). Through Own Others (λ f later. Folder f later × knows f later) more ops h) (sym is)
              (through-then Own Others (λ f later. Folder f later × knew f later) (λ f later. Folder f later × knows f later) others (op ∷ []) ops h
              (through-others others ops h theirs folder known)
              (λ later both. last (ops ++ others) later here both.0 both.1))

      -- a step of a machine whose changes are own ones, and leave files that stand for something
      pub brings-moves : (knows : Files → H → Type 0) (before after : StoreView)
          → ((f after : Files) (h later : H) → Folder f h → Own f h after later → Folder after later)
          → Moves Folder Own knew knows before after → Brings Folder Own Others knew knows before after
      brings-moves knows before after stays (inl (op, own, steps)) = brings-steps knows op (λ ops. Keeps Folder Own knew knows op (files_after ops)) before after own
          (λ ops h keeps folder known.
          let (later, change, has) = (keeps h folder known).1 in
          (later, change, (stays (files_after ops) (after_op op (files_after ops)) h later folder change, has))) steps
      brings-moves knows before after stays (inr (meanwhile, same)) = Came-weaker (λ ops more. AreOthers more) (Bringing knew knows) before.ops after.ops
          (λ ops more theirs h folder known.
          through-weaker Own Own Others Others (λ f later. Folder f later × knew f later) (λ f later. Folder f later × knows f later)
          (λ f changed p q change. change) (λ f changed p q change. change) (λ f later both. (both.0, same f later both.0 both.1)) more ops h
          (through-others more ops h theirs folder known)) meanwhile

  -- less is asked before, of own changes, and at the end, and more of others'
  pub brings-weaker : (Folder : Files → H → Type 0) (Own More Others Fewer : Files → H → Files → H → Type 0)
      (knew had has knows : Files → H → Type 0) (before after : StoreView)
      → ((f after : Files) (h later : H) → Own f h after later → More f h after later)
      → ((f after : Files) (h later : H) → Fewer f h after later → Others f h after later)
      → ((f : Files) (h : H) → knew f h → had f h) → ((f : Files) (h : H) → Folder f h → has f h → knows f h)
      → Brings Folder Own Others had has before after → Brings Folder More Fewer knew knows before after
  brings-weaker Folder Own More Others Fewer knew had has knows before after own theirs first last =
      Came-weaker (Bringing Folder Own Others had has) (Bringing Folder More Fewer knew knows) before.ops after.ops (λ ops more here h folder known.
      through-weaker Own More Others Fewer (λ f later. Folder f later × has f later) (λ f later. Folder f later × knows f later) own theirs
      (λ f later both. (both.0, last f later both.0 both.1)) more ops h (here h folder (first (files_after ops) h known)))

  -- ---- calls of a reader

  -- operations of others that lead on, and one operation more
  leads-push : (Others : Files → H → Files → H → Type 0) (some ops : List Op) (op : Op) (h middle later : H)
      → OthersLead Others some ops h middle → OthersLead Others (op ∷ []) (ops ++ some) middle later → OthersLead Others (some ++ op ∷ []) ops h later
  leads-push Others [] ops op h middle later leads one =
      subst (λ (h : H). OthersLead Others (op ∷ []) ops h later) leads
      (subst (λ (ops : List Op). OthersLead Others (op ∷ []) ops middle later) (append-nil ops) one)
  leads-push Others (first ∷ some) ops op h middle later (next, lead, rest) one = (
    next,
    lead,
    leads-push Others some (ops ++ first ∷ []) op next middle later rest
        (subst (λ (ops : List Op). OthersLead Others (op ∷ []) ops middle later) (sym (append_assoc ops (first ∷ []) some)) one),
  )

  -- what the operations lead to after some of them, and whatever the others lead to
  through-leads : (Others : Files → H → Files → H → Type 0) (ends : Files → H → Type 0) (more some ops : List Op) (h middle : H)
      → OthersLead Others some ops h middle
      → ((later : H) → OthersLead Others (some ++ more) ops h later → ends (files_after (ops ++ (some ++ more))) later)
      → Through (λ f h after later. later ≡ h) Others ends more (ops ++ some) middle
  through-leads Others ends [] some ops h middle leads end =
      subst (λ (all : List Op). ends (files_after (ops ++ all)) middle) (append-nil some)
      (end middle (subst (λ (all : List Op). OthersLead Others all ops h middle) (sym (append-nil some)) leads))
  through-leads Others ends (op ∷ more) some ops h middle leads end =
      let same : some ++ (op ∷ more) ≡ (some ++ op ∷ []) ++ more = sym (append_assoc some (op ∷ []) more) in
      let place : ops ++ (some ++ op ∷ []) ≡ (ops ++ some) ++ op ∷ [] = sym (append_assoc ops some (op ∷ [])) in
      let on = subst (λ (all : List Op). (later : H) → OthersLead Others all ops h later → ends (files_after (ops ++ all)) later) same end in (
        (λ is. (
          middle,
          refl,
          subst (λ (at : List Op). Through (λ f h after later. later ≡ h) Others ends more at middle) place
              (through-leads Others ends more (some ++ op ∷ []) ops h middle
              (leads-push Others some ops op h middle middle leads
              (middle, record { own = λ own. refl; theirs = λ their. absurd (true≢false (sym is ∙ their)) }, refl)) on),
        )),
        (λ is later change.
            subst (λ (at : List Op). Through (λ f h after later. later ≡ h) Others ends more at later) place
            (through-leads Others ends more (some ++ op ∷ []) ops h later
            (leads-push Others some ops op h middle later leads
            (later, record { own = λ own. absurd (true≢false (sym own ∙ is)); theirs = λ their. change }, refl)) on)),
      )

  -- What a reader's calls carry they bring, where own operations leave what the files stand for.
  pub brings-carries : (Folder : Files → H → Type 0) (Others : Files → H → Files → H → Type 0) (knew knows : Files → H → Type 0)
      (before after : StoreView) → Carries Folder Others knew knows before after
      → Brings Folder (λ f h after later. later ≡ h) Others knew knows before after
  brings-carries Folder Others knew knows before after = Came-weaker
      (λ ops more. (h later : H) → Folder (files_after ops) h → knew (files_after ops) h → OthersLead Others more ops h later
      → Folder (files_after (ops ++ more)) later × knows (files_after (ops ++ more)) later)
      (Bringing Folder (λ f h after later. later ≡ h) Others knew knows) before.ops after.ops (λ ops more carries h folder known.
      subst (λ (at : List Op). Through (λ f h after later. later ≡ h) Others (λ f later. Folder f later × knows f later) more at h) (append-nil ops)
      (through-leads Others (λ f later. Folder f later × knows f later) more [] ops h h refl (λ later leads. carries h later folder known leads)))
