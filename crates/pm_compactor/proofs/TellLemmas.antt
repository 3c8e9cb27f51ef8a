-- Which refusals there are where nothing can be told of a group: memory ran out, or a file doesn't read in which an old
-- value is looked up.
use Rattle.std.proofs.Common.{◌≡◌, ◌⊎◌, inl, inr, ℕ, List, [], ◌∷◌, ◌++◌, None, Err, refl, sym, ◌∙◌, subst}
use Rattle.pm_values.specs.Order.{Values}
use Rattle.pm_values.specs.declared.refusal.Refusal.{Refusal}
use Rattle.pm_values.specs.declared.refusal.Refusal.TheVariants as refusals
use Rattle.pm_options.specs.declared.kinds.Producer.{Producer}
use Rattle.pm_options.specs.declared.kinds.Producer.TheVariants as producers
use Rattle.pm_schema.specs.declared.schema.TableSchema.{TableSchema}
use Rattle.pm_run.specs.Reader.{FailsAt, UnlessMemory}
use Rattle.pm_run.specs.Rows.{Opened, placed}
use Rattle.pm_read_table.proofs.FaultLemmas.{IsFileFault}
use Rattle.pm_scan_rows.specs.Group.{GroupRead}
use Rattle.pm_lookup.specs.File.{LooksIn, SeenFile}
use Rattle.pm_lookup.specs.Lookup.{RefusesAt, asked_for}
use Rattle.pm_group_files.proofs.FaultLemmas.{IsOfFiles, damaged, judged_fault, opened_fault, unsupported}
use Rattle.pm_choice.specs.declared.choice.ChosenGroup.{ChosenGroup}
use Rattle.pm_group_log.specs.Told.{RefusesBy, looked_files}
use Rattle.pm_plan.specs.Planned.{RefusesOf, RefusesSome}
use Rattle.pm_plan.specs.declared.planned.Planned.{Planned}

-- ---- a file in which a key is looked for

fails-fault : (o : Opened) (offset : ℕ) (e : Refusal) → FailsAt o offset e → IsFileFault e
fails-fault o offset e (inl (is, none)) = subst IsFileFault (sym is) tt
fails-fault o offset e (inr (ds, next, has, is)) = judged_fault o None (placed offset ds) e is

unless-fault : (o : Opened) (offset : ℕ) (e : Refusal) → UnlessMemory e (FailsAt o offset e) → IsFileFault e
unless-fault o offset refusals.Memory fails = tt
unless-fault o offset e fails = fails-fault o offset e fails

looks-fault : (s : TableSchema) (file : SeenFile) (key : Values) (e : Refusal) → LooksIn s file key (Err e) → IsFileFault e
looks-fault s file key refusals.Memory looks = tt
looks-fault s file key e (inl refuses) = opened_fault s file.meta.schema_id file.path file.bytes e refuses
looks-fault s file key e (inr (v, opens, finds)) = unless-fault v.opened finds.last e finds.stops

old-fault : (s : TableSchema) (key : Values) (files : List SeenFile) (e : Refusal) → UnlessMemory e (RefusesAt s key files e) → IsFileFault e
old-fault s key files refusals.Memory refuses = tt
old-fault s key files e refuses = looks-fault s refuses.file key e refuses.refuses

-- ---- what is told of a group

by-fault : (q : Producer) (s : TableSchema) (c : ChosenGroup) (x : GroupRead) (e : Refusal) → RefusesBy q s c x e → IsFileFault e
by-fault producers.None s c x e refuses = absurd refuses
by-fault producers.Input s c x e refuses = absurd refuses
by-fault producers.Lookup s c x e (run, left, looked, row, later, gives, refuses) =
    old-fault s row.key (asked_for row.key (looked_files s c x)) e refuses
by-fault producers.FullCompaction s c x e refuses = absurd refuses

of-fault : (cs : List ChosenGroup) (s : TableSchema) (x : GroupRead) (e : Refusal) → RefusesOf cs s x e → IsFileFault e
of-fault [] s x e refuses = absurd refuses
of-fault (c ∷ cs) s x e refuses = by-fault s.options.producer s c x e refuses

-- a refusal of a file that is read
fault-kind : (e : Refusal) → IsFileFault e → (e ≡ refusals.Memory) ⊎ IsOfFiles e
fault-kind refusals.Memory fault = inl refl
fault-kind (refusals.Damaged path place) fault = inr (damaged path place)
fault-kind (refusals.Unsupported what text) fault = inr (unsupported what text)
fault-kind other fault = absurd fault

pub refuses-fault : (x : Planned) (groups : List GroupRead) (e : Refusal) → RefusesSome x groups e → IsFileFault e
refuses-fault x groups e fails = of-fault fails.made.left.items fails.made.schema fails.first e fails.refuses

pub refuses-kind : (x : Planned) (groups : List GroupRead) (e : Refusal) → RefusesSome x groups e → (e ≡ refusals.Memory) ⊎ IsOfFiles e
refuses-kind x groups e fails = fault-kind e (refuses-fault x groups e fails)

-- there is a group of which that is so
nil-split : {X : Type 0} (xs : List X) (y : X) (ys : List X) → [] ≡ xs ++ y ∷ ys → ⊥
nil-split [] y ys is = cc
nil-split (x ∷ xs) y ys is = cc

pub refuses-none : (x : Planned) (groups : List GroupRead) (e : Refusal) → RefusesSome x groups e → groups ≡ [] → ⊥
refuses-none x groups e fails none = nil-split fails.before fails.first fails.after (sym none ∙ fails.parts)
