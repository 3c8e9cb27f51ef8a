-- Of known snapshots, whatever others do.
use Rattle.std.proofs.Common.{◌≡◌, ℕ, ◌≤◌, ◌++◌, length, sym, ap, ◌∙◌, length-append, arith}
use Rattle.pm_store.specs.Files.{Files}
use Rattle.pm_schema.specs.declared.schema.TableSchema.{TableSchema}
use Rattle.pm_model_history.specs.History.{GoesOn, History, IsTableOf, no_table, table}
use Rattle.pm_model_folder.specs.Changes.{Actor, Change}
use Rattle.pm_model_folder.specs.Ledger.{Advances, IsKnown, Past, count_of}

-- ---- histories that go on

abbrev pub Going : Type 0
Going = (me : Actor) (f after : Files) (h later : History) → Change me f h after later → GoesOn h later

pub table-kept : (s : TableSchema) (h later : History) → GoesOn h later → IsTableOf s h → IsTableOf s later
table-kept s no_table later goes is = absurd is
table-kept s (table t entries) no_table goes is = absurd goes
table-kept s (table t entries) (table u later) goes is = goes.0 ∙ is

pub count-kept : (h later : History) → GoesOn h later → count_of h ≤ count_of later
count-kept no_table later goes = omega arith
count-kept (table t entries) no_table goes = absurd goes
count-kept (table t entries) (table u later) goes =
    let long = length-append entries goes.1 in
    let whole : length later ≡ length (entries ++ goes.1) = ap length goes.2 in
    omega arith

module _ (going : Going) (me : Actor) (f after : Files) (p q : Past) (a : Advances me f p after q) where
  pub goes : GoesOn p.history q.history
  goes = going me f after p.history q.history a.change

  pub known-kept : (id : ℕ) → IsKnown p id → IsKnown q id
  known-kept id known =
      let first : q.first ≡ p.first = a.first in
      let from : p.first ≤ id = known.from in
      let to : id ≤ count_of p.history = known.to in
      let grows = count-kept p.history q.history goes in
      record { after_origin = known.after_origin; from = omega arith; to = omega arith }

  pub stood-kept : (id : ℕ) → IsKnown p id → p.stood id ≡ q.stood id
  stood-kept id known = sym (a.same id known)
