-- What is known of the files and of what they stand for after some calls, whatever others do before, between and after
-- these.
use Rattle.std.specs.Prelude.{◌≡◌, List, [], ◌∷◌, ◌++◌, true, false}
use Rattle.pm_store.specs.declared.call.Op.{Op}
use Rattle.pm_store.specs.Files.{Files, files_after}
use Rattle.pm_store.specs.Store.{Came, StoreView}

-- the next of some operations: an own one leaves what the files stand for, and another's leads on
pub record OneLeads {H : Type 0} (Others : Files → H → Files → H → Type 0) (ops : List Op) (op : Op) (h later : H)
    : Type 0 where
  pub own : op.is_own ≡ true → later ≡ h
  pub theirs : op.is_own ≡ false → Others (files_after ops) h (files_after (ops ++ op ∷ [])) later

-- what the files stand for after more operations, by those of others among them
abbrev pub OthersLead : {H : Type 0} → (Files → H → Files → H → Type 0) → List Op → List Op → H → H → Type 0
OthersLead Others [] ops h later = later ≡ h
OthersLead {H} Others (op ∷ more) ops h later =
    (next : H) × OneLeads Others ops op h next × OthersLead Others more (ops ++ op ∷ []) next later

-- Of whatever the files stood for and was known with them before, this is known after, whatever others did in between:
-- of what the files stand for then.
abbrev pub Carries : {H : Type 0} → (Files → H → Type 0) → (Files → H → Files → H → Type 0) → (Files → H → Type 0) →
    (Files → H → Type 0) → StoreView → StoreView → Type 0
Carries {H} Folder Others knew knows before after = Came (λ ops more.
    (h later : H) → Folder (files_after ops) h → knew (files_after ops) h → OthersLead Others more ops h later
    → Folder (files_after (ops ++ more)) later × knows (files_after (ops ++ more)) later) before.ops after.ops
