-- What calls make known of a history, where something was known of it before, which stays whatever others do.
use Rattle.std.proofs.Common.{◌≡◌, inl, inr, ℕ, ◌≤◌, Bool, true, false, List, [], ◌∷◌, ◌++◌, length, Option, None, Some, refl, sym, ap, subst, ◌∙◌, append-nil, append_assoc, length-append, arith}
use Rattle.std.specs.FinMap as map
use Rattle.pm_store.specs.declared.answer.Answer.{Answer}
use Rattle.pm_store.specs.declared.call.Call.{Call}
use Rattle.pm_store.specs.declared.call.Effect.TheVariants as effects
use Rattle.pm_store.specs.declared.call.Op.{Op}
use Rattle.pm_store.specs.Answers.{Answers}
use Rattle.pm_store.specs.Files.{Files, files_after}
use Rattle.pm_store.specs.Store.{Came, Meanwhile, StoreView, whole}
use Rattle.pm_store.proofs.StepLaws.{Steps-weaker}
use Rattle.pm_machine.specs.Beside.{OneLeads, OthersLead}
use Rattle.pm_machine.specs.Moves.{IsKept, Keeps}
use Rattle.pm_machine.specs.Step.{Answered}
use Rattle.pm_schema.specs.declared.schema.TableSchema.{TableSchema}
use Rattle.pm_model_history.specs.History.{GoesOn, History, IsTableOf, no_table, table}
use Rattle.pm_model_folder.specs.Ledger.{Past, Stands, count_of}
use Rattle.pm_model_folder.proofs.Facts.{goes_on}
use Rattle.pm_read_schema.specs.Beside.{Learns, OthersAdvance}
use Rattle.pm_read_schema.proofs.BesideFacts.{IsKeptByAll, PastStays, learns-moves, learns-none}
use Rattle.pm_read_schema.proofs.StillLemmas.{IsStill}
use Rattle.pm_command_follow.specs.Beside.{IsStartOf}

-- ---- histories that go on

pub goes_itself : (h : History) → GoesOn h h
goes_itself no_table = tt
goes_itself (table s entries) = (refl, [], sym (append-nil entries))

goes_further : (h middle later : History) → GoesOn h middle → GoesOn middle later → GoesOn h later
goes_further no_table middle later one two = tt
goes_further (table s entries) no_table later one two = absurd one
goes_further (table s entries) (table t more) no_table one two = absurd two
goes_further (table s entries) (table t more) (table u last) (same, first, is) (again, rest, was) =
    (again ∙ same, first ++ rest, was ∙ ap (λ es. es ++ rest) is ∙ append_assoc entries first rest)

-- a history that goes on keeps this
abbrev pub IsKeptOn : (History → Type 0) → Type 0
IsKeptOn K = (h later : History) → GoesOn h later → K h → K later

pub table_on : (s : TableSchema) → IsKeptOn (λ h. IsTableOf s h)
table_on s no_table later goes is = absurd is
table_on s (table t es) no_table goes is = absurd goes
table_on s (table t es) (table u more) goes is = goes.0 ∙ is

pub count_on : (latest : ℕ) → IsKeptOn (λ h. latest ≤ count_of h)
count_on latest no_table later goes within = omega (arith, within)
count_on latest (table s es) no_table goes within = absurd goes
count_on latest (table s es) (table t later) (same, more, is) within =
    let size = ap length is in let both = length-append es more in omega (arith, size, both, within)

pub start_on : (full : Bool) (start : ℕ) (text : List ℕ) → IsKeptOn (λ h. IsStartOf h full start text)
start_on false start text h later goes none = none
start_on true start text h later goes (rows, scan, is) = (
  rows,
  record {
    files = scan.files;
    past = scan.past;
    stood = scan.stood;
    scan = scan.scan;
    goes_on = goes_further scan.past.history h later scan.goes_on goes;
  },
  is,
)

-- ---- what came between two moments

pub came_weaker : (P Q : List Op → List Op → Type 0) (before after : Option (List Op)) → ((ops more : List Op) → P ops more → Q ops more) → Came P before after
    → Came Q before after
came_weaker P Q None after weaker none = none
came_weaker P Q (Some ops) after weaker (more, is, here) = (more, is, weaker ops more here)

-- what some operations say of those that came before them
abbrev Knowing : (Files → Past → Type 0) → (Files → Past → Type 0) → List Op → List Op → Type 0
Knowing knew knows ops more = (h later : Past) → Stands (files_after ops) h → knew (files_after ops) h → OthersLead OthersAdvance more ops h later
    → Stands (files_after (ops ++ more)) later × knows (files_after (ops ++ more)) later

-- What is known of a history alone, and stays as it goes on.
module _ (K : History → Type 0) (keeps : IsKeptOn K) where
  -- through an operation, which is the machine's own or not
  one_led : (op : Op) (own : Bool) (ops : List Op) (h later : Past) → op.is_own ≡ own → OneLeads OthersAdvance ops op h later → K h.history → K later.history
  one_led op true ops h later is one known = subst (λ (p : Past). K p.history) (sym (one.own is)) known
  one_led op false ops h later is one known =
      let others = one.theirs is in
      keeps h.history later.history (goes_on others.0 (files_after ops) (files_after (ops ++ op ∷ [])) h.history later.history others.1.change) known

  all_led : (more ops : List Op) (h later : Past) → OthersLead OthersAdvance more ops h later → K h.history → K later.history
  all_led [] ops h later is known = subst (λ (p : Past). K p.history) (sym is) known
  all_led (op ∷ more) ops h later (next, one, rest) known =
      all_led more (ops ++ op ∷ []) next later rest (one_led op op.is_own ops h next refl one known)

  -- it is known with what the calls make known
  pub learns_with : (knew knows : Files → Past → Type 0) (before after : StoreView) → Learns knew knows before after
      → Learns (λ f p. K p.history × knew f p) (λ f p. K p.history × knows f p) before after
  learns_with knew knows before after = came_weaker (Knowing knew knows) (Knowing (λ f p. K p.history × knew f p) (λ f p. K p.history × knows f p)) before.ops after.ops
      (λ ops more here h later stands known leads. (
      let found = here h later stands known.1 leads in
      (found.0, (all_led more ops h later leads known.0, found.1))))

  -- ---- calls that change nothing

  keeps_known : IsKeptByAll (λ f p. K p.history)
  keeps_known other f after p q stands advances known = keeps p.history q.history (goes_on other f after p.history q.history advances.change) known

  -- it stays where no call is made
  pub learns_on : PastStays → (before after : StoreView) → Meanwhile before after → Learns (λ f p. K p.history) (λ f p. K p.history) before after
  learns_on past before after meanwhile =
      learns-moves past (λ f p. K p.history) (λ f p. K p.history) (λ f p. K p.history) before before after keeps_known (learns-none (λ f p. K p.history) before)
      (inr (meanwhile, λ f p stands known. known))

  -- an answer that no folder shows of which this is known never comes
  pub learns_never : PastStays → (call : Call) (answer : Answer) (before after : StoreView) → IsStill call
      → ((f : Files) (p : Past) → Stands f p → K p.history → Answers call answer f → ⊥) → Answered call answer before after
      → Learns (λ f p. K p.history) (λ f p. ⊥) before after
  learns_never past call answer before after still none (steps, may) =
      learns-moves past (λ f p. K p.history) (λ f p. K p.history) (λ f p. ⊥) before before after keeps_known (learns-none (λ f p. K p.history) before)
      (inl (
        whole call,
        refl,
        Steps-weaker (whole call) (λ ops. Answers call answer (files_after ops)) (λ ops. Keeps Stands IsKept (λ f p. K p.history) (λ f p. ⊥) (whole call) (files_after ops))
            before after (λ ops told. at (files_after ops) told) steps,
      ))
    where
      at : (f : Files) → Answers call answer f → Keeps Stands IsKept (λ f p. K p.history) (λ f p. ⊥) (whole call) f
      at f told p stands known = (
        (λ effect. (p, record { files = λ path. ap (λ (g : Files). map.get g path) (still f effect); past = refl })),
        (p, record { files = λ path. ap (λ (g : Files). map.get g path) (still f effects.Whole); past = refl }, none f p stands known told),
      )
