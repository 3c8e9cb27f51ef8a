-- What was made of a plan keeps what the plan is for, and its files have names with successive counts.
use Rattle.std.proofs.Common.{◌≡◌, ℕ, suc, Option, None, Some, ◌+◌, ◌^◌, ◌≤◌, List, [], ◌∷◌, ◌++◌, length, length-append, map, append_assoc, append-nil, refl, sym, ap, ◌∙◌, subst, arith}
use Rattle.std.specs.List.{FoldsTo}
use Rattle.std.specs.Prelude.{option_to_list}
use Rattle.std.proofs.lemmas.List.{length-map}
use Rattle.pm_values.specs.Names.{Naming}
use Rattle.pm_values.specs.declared.group.Group.{Group}
use Rattle.pm_values.specs.declared.record.Change.{Change}
use Rattle.pm_values.specs.declared.record.Stamped.{Stamped}
use Rattle.pm_schema.specs.Folder.{folder_text}
use Rattle.pm_schema.specs.declared.schema.TableSchema.{TableSchema}
use Rattle.pm_scan_rows.specs.Group.{GroupRead}
use Rattle.pm_compact.specs.Rewritten.{most_in_file}
use Rattle.pm_run.specs.Writing.{AreFilesOf}
use Rattle.pm_run.specs.declared.run.RunFile.{RunFile}
use Rattle.pm_snapshot.specs.Names.{MayName, changelog_file, rows_file}
use Rattle.pm_changelog.specs.Written.{IsWrittenLog}
use Rattle.pm_put.specs.declared.putting.CommitFile.{CommitFile}
use Rattle.pm_compaction.specs.Plan.{group_file}
use Rattle.pm_choice.specs.declared.choice.ChosenGroup.{ChosenGroup}
use Rattle.pm_plan.specs.Planned.{AllRewritten, HasRewritten, HasTold, RewritesOf, TellsGroup}
use Rattle.pm_plan.specs.declared.planned.Planned.{Planned}
use Rattle.pm_compactor.specs.Alone.{AreApart}
use Rattle.pm_made.proofs.CountedLemmas.{AreCounted, counted-apart, counted-join}
use Rattle.pm_made.proofs.MadeLemmas.{PathFacts, at}

-- ---- counted names

pub counted-as : (t : Naming) (k n : ℕ) (files : List CommitFile) → AreCounted (at t k) n files → AreCounted t n files
counted-as t k n [] are = tt
counted-as t k n (file ∷ files) (is, rest) = (record { folder = is.folder; file = is.file; is = is.is }, counted-as t k (n + 1) files rest)

-- so no two have one path
pub counted-all-apart : PathFacts → (t : Naming) → MayName t → (n : ℕ) (files : List CommitFile) → n + length files ≤ 2 ^ 64 → AreCounted t n files → AreApart files
counted-all-apart parts t may n [] room are = tt
counted-all-apart parts t may n (file ∷ files) room (is, rest) =
    let more : n + suc (length files) ≤ 2 ^ 64 = room in
    let room_later : n + 1 + length files ≤ 2 ^ 64 = omega (arith, more) in (
      counted-apart t parts may n (n + 1) file.path files (omega arith) room_later is rest,
      counted-all-apart parts t may (n + 1) files room_later rest,
    )

-- the files of a group's run
group-counted : (t : Naming) (s : TableSchema) (g : Group) (limit level n : ℕ) (rows : List Stamped) (made : List RunFile) → AreFilesOf s limit level (at t n) rows made
    → AreCounted t n (map (group_file s g) made)
group-counted t s g limit level n rows [] are = tt
group-counted t s g limit level n rows (f ∷ made) (some, file, rest) = (
  record { folder = folder_text s g; file = rows_file; is = ap (λ (text : List ℕ). folder_text s g ++ 47 ∷ text) file.meta.named },
  group-counted t s g limit level (n + 1) _ made rest,
)

-- ---- what stays of a plan, and what it gains

pub record Grows (old new : Planned) : Type 0 where
  pub author : new.author ≡ old.author
  pub schema : new.schema ≡ old.schema
  pub newest : new.newest ≡ old.newest
  pub groups : new.groups ≡ old.groups
  pub removed : new.removed ≡ old.removed
  pub full : new.full ≡ old.full
  pub more : List CommitFile
  pub files : new.files.items ≡ old.files.items ++ more
  pub names : new.names ≡ at old.names (old.names.count + length more)
  pub counted : AreCounted old.names old.names.count more

grows-none : (p : Planned) → Grows p p
grows-none p = record {
  author = refl;
  schema = refl;
  newest = refl;
  groups = refl;
  removed = refl;
  full = refl;
  more = [];
  files = sym (append-nil p.files.items);
  names = ap (at p.names) (let same : p.names.count ≡ p.names.count + 0 = omega arith in same);
  counted = tt;
}

grows-one : (old : Planned) (c : ChosenGroup) (read : GroupRead) (new : Planned) → HasRewritten old c read new → Grows old new
grows-one old c read new r = record {
  author = ap (λ (p : Planned). p.author) r.put.same;
  schema = ap (λ (p : Planned). p.schema) r.put.same;
  newest = ap (λ (p : Planned). p.newest) r.put.same;
  groups = ap (λ (p : Planned). p.groups) r.put.same;
  removed = ap (λ (p : Planned). p.removed) r.put.same;
  full = ap (λ (p : Planned). p.full) r.put.same;
  more = map (group_file old.schema c.group) r.made;
  files = r.put.files;
  names = ap (λ (p : Planned). p.names) r.put.same
      ∙ ap (λ (n : ℕ). at old.names (old.names.count + n)) (sym (length-map r.made (group_file old.schema c.group)));
  counted = group-counted old.names old.schema c.group most_in_file c.out old.names.count r.are.run r.made r.are.files;
}

grows-first : (left : List ChosenGroup) (old : Planned) (read : GroupRead) (new : Planned) → RewritesOf left old read new → Grows old new
grows-first [] old read new none = absurd none
grows-first (c ∷ left) old read new r = grows-one old c read new r

pub grows-then : (a b c : Planned) → Grows a b → Grows b c → Grows a c
grows-then a b c first later = record {
  author = later.author ∙ first.author;
  schema = later.schema ∙ first.schema;
  newest = later.newest ∙ first.newest;
  groups = later.groups ∙ first.groups;
  removed = later.removed ∙ first.removed;
  full = later.full ∙ first.full;
  more = first.more ++ later.more;
  files = later.files ∙ ap (λ (files : List CommitFile). files ++ later.more) first.files ∙ append_assoc a.files.items first.more later.more;
  names =
      let n : ℕ = a.names.count + length first.more in
      let join = length-append first.more later.more in
      let sum : n + length later.more ≡ a.names.count + length (first.more ++ later.more) = omega (arith, join) in
      later.names ∙ ap (λ (t : Naming). at t (t.count + length later.more)) first.names ∙ ap (at a.names) sum;
  counted =
      let n : ℕ = a.names.count + length first.more in
      counted-join a.names a.names.count first.more later.more first.counted
      (counted-as a.names n n later.more (subst (λ (t : Naming). AreCounted t t.count later.more) first.names later.counted));
}

pub all-grow : (old : Planned) (groups : List GroupRead) (new : Planned) → AllRewritten old groups new → Grows old new
all-grow old [] new same = subst (Grows old) same (grows-none old)
all-grow old (read ∷ groups) new (one, first, rest) =
    grows-then old one new (grows-first old.left.items old read one first) (all-grow one groups new rest)

-- ---- what is told of the groups

-- the changelog file of a log, if there is one
log-counted : (t : Naming) (s : TableSchema) (g : Group) (n : ℕ) (log : List Change) (file : Option RunFile) → IsWrittenLog s (at t n) log file
    → AreCounted t n (map (group_file s g) (option_to_list file))
log-counted t s g n [] file is = subst (λ (file : Option RunFile). AreCounted t n (map (group_file s g) (option_to_list file))) (sym is) tt
log-counted t s g n (c ∷ log) None none = absurd none
log-counted t s g n (c ∷ log) (Some f) is =
    (record { folder = folder_text s g; file = changelog_file; is = ap (λ (text : List ℕ). folder_text s g ++ 47 ∷ text) is.made.meta.named }, tt)

grows-told : (old : Planned) (told : Group × List Change) (new : Planned) → TellsGroup old told new → Grows old new
grows-told old told new t = record {
  author = ap (λ (p : Planned). p.author) t.same;
  schema = ap (λ (p : Planned). p.schema) t.same;
  newest = ap (λ (p : Planned). p.newest) t.same;
  groups = ap (λ (p : Planned). p.groups) t.same;
  removed = ap (λ (p : Planned). p.removed) t.same;
  full = ap (λ (p : Planned). p.full) t.same;
  more = map (group_file old.schema told.0) (option_to_list t.file);
  files = t.files;
  names = ap (λ (p : Planned). p.names) t.same
      ∙ ap (λ (n : ℕ). at old.names (old.names.count + n)) (sym (length-map (option_to_list t.file) (group_file old.schema told.0)));
  counted = log-counted old.names old.schema told.0 old.names.count told.1 t.file t.written;
}

logs-grow : (logs : List (Group × List Change)) (old new : Planned) → FoldsTo TellsGroup old logs new → Grows old new
logs-grow [] old new same = subst (Grows old) same (grows-none old)
logs-grow (told ∷ logs) old new (one, first, rest) = grows-then old one new (grows-told old told one first) (logs-grow logs one new rest)

pub told-grows : (old new : Planned) → HasTold old new → Grows old new
told-grows old new has =
    let g = logs-grow old.logs.items (record old { logs = new.logs }) new has.told in record {
      author = g.author;
      schema = g.schema;
      newest = g.newest;
      groups = g.groups;
      removed = g.removed;
      full = g.full;
      more = g.more;
      files = g.files;
      names = g.names;
      counted = g.counted;
    }

-- ---- paths that aren't touched

pub apart-split : (before later : List CommitFile) → AreApart (before ++ later) → AreApart later
apart-split [] later apart = apart
apart-split (file ∷ before) later apart = apart-split before later apart.1
