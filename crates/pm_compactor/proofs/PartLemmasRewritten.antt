-- What stays of a plan as its groups become files, and what is counted.
use Rattle.std.proofs.Common.{◌≡◌, ℕ, suc, ◌+◌, ◌≤◌, ◌^◌, List, [], ◌∷◌, ◌++◌, length, length-append, map, refl, sym, ap, ◌∙◌, subst, arith}
use Rattle.std.proofs.lemmas.List.{length-map}
use Rattle.pm_schema.specs.Again.{IsDeclared}
use Rattle.pm_schema.specs.declared.schema.TableSchema.{TableSchema}
use Rattle.std.specs.List.{FoldsTo}
use Rattle.pm_base.proofs.Laws.{AllByRecursion-append}
use Rattle.pm_values.specs.declared.group.Group.{Group}
use Rattle.pm_values.specs.declared.record.Change.{Change}
use Rattle.pm_schema.specs.Folder.{FitsPartition}
use Rattle.pm_scan_rows.specs.Group.{GroupRead}
use Rattle.pm_engines.specs.TableEngine.{HasEngine}
use Rattle.pm_made.specs.declared.newest.Author.{Author}
use Rattle.pm_made.specs.declared.newest.Newest.{Newest}
use Rattle.pm_choice.specs.declared.choice.ChosenGroup.{ChosenGroup}
use Rattle.pm_commit.specs.Committer.{AreNumbered}
use Rattle.pm_compaction.specs.Plan.{group_file}
use Rattle.pm_plan.specs.Planned.{AllRewritten, CanMake, FitChosen, FitTold, HasRewritten, HasRoom, HasTold, RewritesFirst, RewritesOf, TellsGroup}
use Rattle.pm_plan.specs.declared.planned.Planned.{Planned}
use Rattle.pm_compactor.specs.Compactor.{CanCommit}

-- so many groups became files
pub record BecameFiles (groups : ℕ) (old new : Planned) : Type 0 where
  pub schema : new.schema ≡ old.schema
  pub author : new.author ≡ old.author
  pub newest : new.newest ≡ old.newest
  pub base : new.names.base ≡ old.names.base
  pub more : ℕ
  pub names : new.names.count ≡ old.names.count + more
  pub files : length new.files.items ≡ length old.files.items + more
  pub left : length old.left.items ≡ groups + length new.left.items
  pub fit : FitChosen new.schema old.left.items → FitChosen new.schema new.left.items
  pub told : FitChosen new.schema old.left.items → FitTold new.schema old.logs.items → FitTold new.schema new.logs.items

-- ---- one group

long-more : {X Y : Type 0} (xs new : List X) (f : Y → X) (made : List Y) → new ≡ xs ++ map f made → length new ≡ length xs + length made
long-more {X} {Y} xs new f made is =
    ap length is ∙ length-append xs (map f made) ∙ ap (λ (n : ℕ). length xs + n) (length-map made f)

group-became : (c : ChosenGroup) (read : GroupRead) (old new : Planned) → HasRewritten old c read new → BecameFiles 1 old new
group-became c read old new r = record {
  schema = ap (λ (p : Planned). p.schema) r.put.same;
  author = ap (λ (p : Planned). p.author) r.put.same;
  newest = ap (λ (p : Planned). p.newest) r.put.same;
  base = ap (λ (p : Planned). p.names.base) r.put.same;
  more = length r.made;
  names = ap (λ (p : Planned). p.names.count) r.put.same;
  files = long-more old.files.items new.files.items (group_file old.schema c.group) r.made r.put.files;
  left = ap length r.first ∙ length-one new.left.items;
  fit = λ fits. (subst (FitChosen new.schema) r.first fits).1;
  told = λ fits were. subst (FitTold new.schema) (sym r.logs)
      (AllByRecursion-append (λ (told : Group × List Change). FitsPartition new.schema told.0) old.logs.items ((c.group, r.log) ∷ []) were
      ((subst (FitChosen new.schema) r.first fits).0, tt));
}
  where
    length-one : (rest : List ChosenGroup) → length (c ∷ rest) ≡ 1 + length rest
    length-one rest = omega arith

pub first-became : (read : GroupRead) (old new : Planned) → RewritesFirst old read new → BecameFiles 1 old new
first-became read old new rewrites = by_left old.left.items rewrites
  where
    by_left : (left : List ChosenGroup) → RewritesOf left old read new → BecameFiles 1 old new
    by_left [] none = absurd none
    by_left (c ∷ left) r = group-became c read old new r

-- ---- some groups

none-became : (p : Planned) → BecameFiles 0 p p
none-became p = record {
  schema = refl;
  author = refl;
  newest = refl;
  base = refl;
  more = 0;
  names = omega arith;
  files = omega arith;
  left = omega arith;
  fit = λ fits. fits;
  told = λ fits were. were;
}

both-became : (n : ℕ) (old middle new : Planned) → BecameFiles 1 old middle → BecameFiles n middle new → BecameFiles (suc n) old new
both-became n old middle new a b = record {
  schema = b.schema ∙ a.schema;
  author = b.author ∙ a.author;
  newest = b.newest ∙ a.newest;
  base = b.base ∙ a.base;
  more = a.more + b.more;
  names = let one = a.names in let two = b.names in omega (arith, one, two);
  files = let one = a.files in let two = b.files in omega (arith, one, two);
  left = let one = a.left in let two = b.left in omega (arith, one, two);
  fit = λ fits. b.fit (subst (λ (s : TableSchema). FitChosen s middle.left.items) (sym b.schema)
      (a.fit (subst (λ (s : TableSchema). FitChosen s old.left.items) b.schema fits)));
  told = λ fits were.
      let first : FitChosen middle.schema old.left.items = subst (λ (s : TableSchema). FitChosen s old.left.items) b.schema fits in
      let told : FitTold middle.schema middle.logs.items = a.told first (subst (λ (s : TableSchema). FitTold s old.logs.items) b.schema were) in
      b.told (subst (λ (s : TableSchema). FitChosen s middle.left.items) (sym b.schema) (a.fit first)) (subst (λ (s : TableSchema). FitTold s middle.logs.items) (sym b.schema) told);
}

pub all-became : (groups : List GroupRead) (old new : Planned) → AllRewritten old groups new → BecameFiles (length groups) old new
all-became [] old new same = subst (BecameFiles 0 old) same (none-became old)
all-became (read ∷ groups) old new (middle, first, rest) =
    both-became (length groups) old middle new (first-became read old middle first) (all-became groups middle new rest)

-- ---- what holds of a plan all along

-- files can be made of what is left where memory has room for those that were
pub still-makes : (n : ℕ) (old new : Planned) → BecameFiles n old new → CanMake old → HasRoom new → CanMake new
still-makes n old new became can room = record {
  engine = subst HasEngine (sym became.schema) can.engine;
  fit = became.fit (subst (λ (s : TableSchema). FitChosen s old.left.items) (sym became.schema) can.fit);
  fit_logs = became.told (subst (λ (s : TableSchema). FitChosen s old.left.items) (sym became.schema) can.fit)
      (subst (λ (s : TableSchema). FitTold s old.logs.items) (sym became.schema) can.fit_logs);
  room = room;
}

-- there is room for those before them
pub had-room : (n : ℕ) (old new : Planned) → BecameFiles n old new → HasRoom old → length new.files.items ≤ 2 ^ 32 → HasRoom new
had-room n old new became room few = record {
  named =
      (let names = became.names in
      let files = became.files in
      let named = room.named in
      omega (arith, names, files, named));
  few = few;
}

pub still-commits : (n : ℕ) (old new : Planned) → BecameFiles n old new → CanCommit old → HasRoom new → CanCommit new
still-commits n old new became can room = record {
  declared = subst IsDeclared (sym became.schema) can.declared;
  base = ap (λ (a : Author). a.base) became.author ∙ can.base ∙ sym (ap (λ (x : Newest). x.id) became.newest);
  based = became.base ∙ can.based ∙ sym (ap (λ (x : Newest). x.id) became.newest);
  numbers = subst (λ (x : Newest). AreNumbered x.live.items) (sym became.newest) can.numbers;
  room = room;
}

-- ---- what is told is written

-- this stays
pub record ToldSame (old new : Planned) : Type 0 where
  pub schema : new.schema ≡ old.schema
  pub author : new.author ≡ old.author
  pub newest : new.newest ≡ old.newest
  pub base : new.names.base ≡ old.names.base
  pub left : new.left ≡ old.left

same-itself : (p : Planned) → ToldSame p p
same-itself p = record { schema = refl; author = refl; newest = refl; base = refl; left = refl }

all-same : (logs : List (Group × List Change)) (old new : Planned) → FoldsTo TellsGroup old logs new → ToldSame old new
all-same [] old new is = subst (ToldSame old) is (same-itself old)
all-same (told ∷ logs) old new (middle, tells, rest) =
    let later = all-same logs middle new rest in record {
      schema = later.schema ∙ ap (λ (p : Planned). p.schema) tells.same;
      author = later.author ∙ ap (λ (p : Planned). p.author) tells.same;
      newest = later.newest ∙ ap (λ (p : Planned). p.newest) tells.same;
      base = later.base ∙ ap (λ (p : Planned). p.names.base) tells.same;
      left = later.left ∙ ap (λ (p : Planned). p.left) tells.same;
    }

pub told-same : (old new : Planned) → HasTold old new → ToldSame old new
told-same old new has =
    let same = all-same old.logs.items (record old { logs = new.logs }) new has.told in
    record { schema = same.schema; author = same.author; newest = same.newest; base = same.base; left = same.left }

pub told-commits : (old new : Planned) → HasTold old new → CanCommit old → HasRoom new → CanCommit new
told-commits old new has can room =
    let same = all-same old.logs.items (record old { logs = new.logs }) new has.told in record {
      declared = subst IsDeclared (sym same.schema) can.declared;
      base = ap (λ (a : Author). a.base) same.author ∙ can.base ∙ sym (ap (λ (x : Newest). x.id) same.newest);
      based = same.base ∙ can.based ∙ sym (ap (λ (x : Newest). x.id) same.newest);
      numbers = subst (λ (x : Newest). AreNumbered x.live.items) (sym same.newest) can.numbers;
      room = room;
    }

pub told-left : (old new : Planned) → HasTold old new → new.left.items ≡ old.left.items
told-left old new has = ap (λ xs. xs.items) (all-same old.logs.items (record old { logs = new.logs }) new has.told).left
