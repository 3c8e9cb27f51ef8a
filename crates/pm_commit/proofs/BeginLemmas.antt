-- A compaction begins with its first try made, while its files of rows are yet to be created.
use Rattle.std.proofs.Common.{◌≡◌, inl, inr, ℕ, ◌+◌, ◌<◌, ◌≤◌, ◌^◌, List, [], ◌∷◌, ◌++◌, length, Option, None, Some, IfSome, refl, sym, ap, subst, arith}
use Rattle.std.specs.FinMap as map
use Rattle.std.specs.List.{AllByRecursion}
use Rattle.pm_values.specs.Names.{Naming}
use Rattle.pm_store.specs.Files.{Files, Puts}
use Rattle.pm_model_history.specs.History.{Entry, compaction}
use Rattle.pm_schema.specs.Again.{IsDeclared}
use Rattle.pm_schema.specs.declared.schema.TableSchema.{TableSchema}
use Rattle.pm_snapshot.specs.Names.{MayName}
use Rattle.pm_model_folder.specs.Changes.{Actor, IsOwnFile, IsTablePath, its_file}
use Rattle.pm_model_folder.specs.Ledger.{Advances, HasNamedNone, Past, Stands}
use Rattle.pm_model_folder.proofs.PathLemmas.{own-in_table}
use Rattle.pm_put.proofs.Facts.{next_left, put-more}
use Rattle.pm_put.specs.declared.putting.CommitFile.{CommitFile}
use Rattle.pm_made.specs.declared.intent.Intent.TheVariants as intents
use Rattle.pm_made.specs.declared.intent.Plan.{Plan}
use Rattle.pm_made.specs.declared.newest.Author.{Author}
use Rattle.pm_made.specs.declared.newest.Newest.{Newest}
use Rattle.pm_made.proofs.FileCountLemmas.{made-few}
use Rattle.pm_compaction.specs.Plan.{KnowsPlan}
use Rattle.pm_commit.specs.Committer.{Begins, IsCommitter, calls_left, first_of_put, most_calls, publishing_of}
use Rattle.pm_commit.specs.Meaning.{AreThere, IsFoundIn, KnowsBut, KnowsOwn, MakesEntry, MakesFile, MakesIn, MakesOwn, WasGiven, own_in, path_after}
use Rattle.pm_commit.specs.Own.{IsOwn, IsTried, OwnView, actor_of, own_for_plan, with_named}
use Rattle.pm_commit.specs.declared.found.Found.{Found}
use Rattle.pm_commit.specs.declared.phase.Phase.{Phase}
use Rattle.pm_commit.specs.declared.phase.Phase.TheVariants as phases
use Rattle.pm_commit.proofs.AddsLemmas.{adds-one}
use Rattle.pm_commit.proofs.AdvanceLemmas.{own-advances}
use Rattle.pm_commit.proofs.CommitterLemmas.{makes-committer}
use Rattle.pm_commit.proofs.CreateLemmas.{all-at}
use Rattle.pm_commit.proofs.KnownLemmas.{made-known}
use Rattle.pm_commit.proofs.PathLemmas.{no-origin}
use Rattle.pm_commit.proofs.PublishLemmas.{own-same}
use Rattle.pm_commit.proofs.StillLemmas.{IsHeld, IsMadeBy, OwnFiles, OwnGiven, WasGivenBy, always-if, given-own, held-in, in-still}

-- ---- it begins

pub plan-own : (s : TableSchema) (author : Author) (plan : Plan) (names : Naming) → IsDeclared s → names.base ≡ author.base → names.count ≤ 2 ^ 61
    → IsOwn s (own_for_plan plan author names)
plan-own s author plan names declared based count = record {
  declared = declared;
  made_for = tt;
  fits = tt;
  few = omega arith;
  same_base = based;
  within = omega arith;
  named = omega (arith, count);
}

-- its calls are counted
pub begun-committer : (s : TableSchema) (newest : Newest) (author : Author) (plan : Plan) (names : Naming) (m : Phase) → IsOwn s (own_for_plan plan author names)
    → Begins s newest author plan names m → IsCommitter m × (0 < calls_left m) × (calls_left m ≤ most_calls)
begun-committer s newest author plan names m own_of (made, is_made, allowed, is) =
    let own : OwnView = own_for_plan plan author names in
    let found : Found = record { schema = s; newest = newest } in
    let few = made-few s newest author (intents.Compact plan) names made is_made in
    let left = next_left (publishing_of s made.id made.text) made.files.items in (
      makes-committer own found m own_of (made, is_made, allowed, is),
      subst (λ (m : Phase). 0 < calls_left m) (sym is) (omega (arith, left)),
      subst (λ (m : Phase). calls_left m ≤ most_calls) (sym is) (omega (arith, left, few)),
    )

pub begins : (f : Files) (p : Past) (s : TableSchema) (newest : Newest) (author : Author) (plan : Plan) (names : Naming) (given : List CommitFile) (m : Phase)
    → IsFoundIn p (record { schema = s; newest = newest }) → author.base ≡ newest.id
    → KnowsPlan (record { session = names.session; number = names.actor }) s newest.id plan given p → MayName names
    → HasNamedNone (record { session = names.session; number = names.actor }) p → IsCommitter m → Begins s newest author plan names m
    → KnowsBut (compaction newest.id plan.groups.items) given [] m f p
begins f p s newest author plan names given m is_found at_newest knows may none committer (made, is_made, allowed, is) =
    let e : Entry = compaction newest.id plan.groups.items in
    let own : OwnView = own_for_plan plan author names in
    let me : Actor = actor_of own in
    let putting : IsCommitter (first_of_put own s made) = subst IsCommitter is committer in
    let tried : IsTried s (with_named (names.count + length made.files.items) own) = putting.0 in
    let named = tried.named in
    let high = knows.known.to in
    let known : KnowsOwn own e s p = record {
      is_table = knows.table;
      means = ap (λ (base : ℕ). compaction base plan.groups.items) (sym at_newest);
      may = may;
      unnamed = none;
      from = omega (arith, at_newest, high);
    } in (
      committer,
      made-known e f p own (record { schema = s; newest = newest }) made m tried.same_base (omega (arith, named)) known is_found is_made allowed is,
      subst (λ (m : Phase). WasGiven given [] m f p) (sym is) ((s, subst (λ (base : ℕ). KnowsPlan me s base plan given p) (sym at_newest) knows), inr tt),
    )

-- ---- a file of rows is created

module _ (law : OwnGiven) (own_files : OwnFiles) (e : Entry) (given done left : List CommitFile) (file : CommitFile) (f after : Files) (p : Past)
    (parts : given ≡ done ++ file ∷ left) where
  -- it makes one of the actor's own
  file-makes : (own : OwnView) → IsHeld e p own → WasGivenBy given done f p own → MakesFile file f after → MakesOwn own e f p after p
  file-makes own (s, plain, known) (planned, there) (inl same) = own-same own e f after p same
  file-makes own (s, plain, known) (planned, there) (inr (content, (absent, puts))) =
      let me : Actor = actor_of own in
      let all = given-own law own.intent me own.author.base given p s known.is_table plain planned in
      let is : IsOwnFile me own.author.base file.path = all-at (IsMadeBy me own.author.base) done left file (subst (AllByRecursion (IsMadeBy me own.author.base)) parts all) in
      let at : IsTablePath file.path = own-in_table me own.author.base file.path is in
      record {
        advances = own-advances me f after p s file.path content known.is_table known.unnamed (its_file is.by is.in_table) at is.by
            (no-origin p.history file.path at) absent puts;
        appends = inl refl;
        adds = adds-one me (path_after p.history) f after file.path content absent (inl (its_file is.by is.in_table)) puts;
        consumers = λ name. refl;
      }

  makes-in : (o : Option OwnView) → (o ≡ None → ⊥) → IfSome o (IsHeld e p) → IfSome o (WasGivenBy given done f p) → MakesFile file f after
      → MakesIn o e f p after p
  makes-in None some held was makes = absurd (some refl)
  makes-in (Some own) some held was makes = file-makes own held was makes

  -- where a call is left the commit is there
  is-own : (m : Phase) → 0 < calls_left m → own_in m ≡ None → ⊥
  is-own (phases.Names own s) left none = let clash = none in cc
  is-own (phases.View own m) left none = let clash = none in cc
  is-own (phases.Search own q) left none = let clash = none in cc
  is-own (phases.Put own s id m) left none = let clash = none in cc
  is-own (phases.Committed author id) left none = let no : 0 < 0 = left in omega (arith, no)
  is-own (phases.Already author) left none = let no : 0 < 0 = left in omega (arith, no)
  is-own phases.Over left none = let no : 0 < 0 = left in omega (arith, no)

  pub file-own : (m : Phase) → KnowsBut e given done m f p → 0 < calls_left m → MakesFile file f after → MakesEntry e m f p after p
  file-own m (is, known, was) left makes =
      makes-in (own_in m) (is-own m left) (held-in e m f p is known) was makes

  -- once it is there
  module _ (stands : Stands f p) (absent : map.get f file.path ≡ None) (puts : Puts f file.path (Some file.bytes) after) where
    there-more : (own : OwnView) → WasGivenBy given done f p own → WasGivenBy given (done ++ file ∷ []) after p own
    there-more own (planned, there) = (
      planned,
      elim there as (λ _. AreThere own after p (done ++ file ∷ [])) [
        | inl fenced ↦ inl fenced
        | inr all ↦ inr (put-more f after file absent puts done all)
      ],
    )

    advanced : (o : Option OwnView) → (o ≡ None → ⊥) → MakesIn o e f p after p → (other : Actor) × Advances other f p after p
    advanced None some makes = absurd (some refl)
    advanced (Some own) some makes = (actor_of own, makes.advances)

    more-in : (o : Option OwnView) → IfSome o (WasGivenBy given done f p) → IfSome o (WasGivenBy given (done ++ file ∷ []) after p)
    more-in None was = tt
    more-in (Some own) was = there-more own was

    pub file-created : (m : Phase) → KnowsBut e given done m f p → 0 < calls_left m → KnowsBut e given (done ++ file ∷ []) m after p
    file-created m but left =
        let makes = file-own m but left (inr (file.bytes, (absent, puts))) in
        let (other, advances) = advanced (own_in m) (is-own m left) makes in (
          but.0,
          in-still own_files e other f after p p stands advances m but.0 (always-if (own_in m) (λ own none. none)) but.1,
          more-in (own_in m) but.2,
        )
