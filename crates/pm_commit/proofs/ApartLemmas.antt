-- The paths of the files of a try differ, so what is created at one of them leaves the others.
use Rattle.std.proofs.Common.{◌≡◌, ◌≢◌, ℕ, suc, ◌+◌, List, [], ◌∷◌, length, length-append, Some, ap, ◌∙◌, subst, arith}
use Rattle.std.specs.FinMap as paths
use Rattle.std.specs.List.{AllByRecursion}
use Rattle.pm_store.specs.Files.{Files, Puts}
use Rattle.pm_model_history.specs.History as history
use Rattle.pm_schema.specs.declared.schema.TableSchema.{TableSchema}
use Rattle.pm_model_folder.specs.Ledger.{Past}
use Rattle.pm_made.specs.Commit.{Attempt}
use Rattle.pm_put.specs.declared.putting.CommitFile.{CommitFile}
use Rattle.pm_made.proofs.CountedLemmas.{AreCounted, counted-apart, counted-later, made-counted}
use Rattle.pm_made.proofs.FileCountLemmas.{made-few}
use Rattle.pm_made.proofs.MadeLemmas.{PathFacts}
use Rattle.pm_commit.specs.Meaning.{KnowsTry}
use Rattle.pm_commit.specs.Own.{OwnView}
use Rattle.pm_put.specs.Making.{MakingView}
use Rattle.pm_put.specs.declared.phase.Phase.TheVariants as puts

-- the files of a try that are left have other paths than the one before them
pub rest-apart : PathFacts → (own : OwnView) (e : history.Entry) (s : TableSchema) (id : ℕ) (making : MakingView) (f : Files) (p : Past)
    → KnowsTry own e s id (puts.Create making) f p → AllByRecursion (λ (other : CommitFile). other.path ≢ making.next.path) making.rest
rest-apart parts own e s id making f p is_try =
    let t : Attempt = is_try.attempt in
    let has = is_try.put.1 in
    let few = made-few s t.newest t.author t.intent t.names t.made is_try.made in
    let room = is_try.names.room in
    let all : length t.made.files.items ≡ length has.done + suc (length making.rest) = ap length has.files ∙ length-append has.done (making.next ∷ making.rest) in
    let n : ℕ = t.names.count + length has.done in
    let are = counted-later t.names t.names.count has.done (making.next ∷ making.rest)
    (subst (AreCounted t.names t.names.count) has.files (made-counted t.names s t.newest t.author t.intent t.made is_try.made)) in
    counted-apart t.names parts is_try.names.may n (n + 1) making.next.path making.rest (omega arith) (omega (arith, few, room, all)) are.0 are.1

-- ---- a file appears

-- files at other paths have the contents that they had in others
pub untouched-puts : (f g after : Files) (path content : List ℕ) (files : List CommitFile) → Puts f path (Some content) after
    → AllByRecursion (λ (file : CommitFile). file.path ≢ path) files → AllByRecursion (λ (file : CommitFile). paths.get f file.path ≡ paths.get g file.path) files
    → AllByRecursion (λ (file : CommitFile). paths.get after file.path ≡ paths.get g file.path) files
untouched-puts f g after path content [] puts apart are = tt
untouched-puts f g after path content (file ∷ files) puts (other, rest) (is, later) =
    (puts.others file.path other ∙ is, untouched-puts f g after path content files puts rest later)
