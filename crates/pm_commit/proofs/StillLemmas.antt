-- What a committer knows stays true through the changes of others.
use Rattle.std.proofs.Common.{◌≡◌, ◌≢◌, ◌⊎◌, inl, inr, ℕ, ◌≤◌, List, [], ◌∷◌, ◌++◌, length, length-append, append-nil, Option, None, Some, IfSome, IsSome, refl, sym, ap, ◌∙◌, subst, append_assoc, arith}
use Rattle.std.specs.FinMap as map
use Rattle.std.specs.List.{AllByRecursion}
use Rattle.pm_store.specs.Files.{Files}
use Rattle.pm_model_history.specs.History.{Entry, GoesOn, History, IsTableOf, no_table, table}
use Rattle.pm_schema.specs.declared.schema.TableSchema.{TableSchema}
use Rattle.pm_partitions.proofs.Plain.{plain_names}
use Rattle.pm_model_folder.specs.Changes.{Actor, HavePlainNames, IsOwnFile}
use Rattle.pm_model_folder.specs.Entries.{IsFenced}
use Rattle.pm_model_folder.specs.Ledger.{Advances, HasNamedNone, Past, Stands, count_of}
use Rattle.pm_model_folder.specs.Meaning.{SnapshotAt}
use Rattle.pm_model_folder.proofs.Facts.{goes_on}
use Rattle.pm_model_folder.proofs.LedgerFacts.{known-still, own-stays}
use Rattle.pm_model_contents.specs.Lists.{HasEntries}
use Rattle.pm_read_table.specs.Asked.{Asked}
use Rattle.pm_read_table.specs.Meaning.{IsViewIn, view_origin, view_snapshot}
use Rattle.pm_read_table.specs.declared.view.View.{View}
use Rattle.pm_read_table.proofs.Facts as reader_facts
use Rattle.pm_made.specs.Commit.{Attempt, MakesNames}
use Rattle.pm_made.specs.Files.{IsMadeOf}
use Rattle.pm_made.specs.declared.intent.Intent.{Intent}
use Rattle.pm_made.specs.declared.intent.Intent.TheVariants as intents
use Rattle.pm_made.specs.declared.intent.Plan.{Plan}
use Rattle.pm_made.specs.declared.newest.Author.{Author}
use Rattle.pm_compaction.specs.Plan.{KnowsPlan}
use Rattle.pm_put.proofs.Facts.{at_weaker}
use Rattle.pm_put.specs.Meaning.{IsPut}
use Rattle.pm_put.specs.declared.phase.Phase as put_phase
use Rattle.pm_put.specs.declared.putting.CommitFile.{CommitFile}
use Rattle.pm_commit.specs.Meaning.{AreThere, BearsAdded, HasCommitted, HasEarlier, HasEntry, IsFoundIn, IsOtherThan, IsPlanned, Knows, KnowsBut, KnowsIn, KnowsOwn, KnowsTry, PlannedIn, own_in}
use Rattle.pm_commit.specs.Committer.{IsCommitter, newest_of, put_of}
use Rattle.pm_commit.specs.Own.{IsTried, OwnView, actor_of}
use Rattle.pm_commit.specs.declared.found.Found.{Found}
use Rattle.pm_commit.specs.declared.phase.Phase.{Phase}
use Rattle.pm_commit.specs.declared.phase.Phase.TheVariants as phases
use Rattle.pm_commit.proofs.AdvanceLemmas.{one-table}
use Rattle.pm_commit.proofs.CommitterLemmas.{asked-same}
use Rattle.pm_commit.proofs.FenceLemmas.{fenced-later}

-- what the law of others' names says
abbrev pub OthersNone : Type 0
OthersNone = (me other : Actor) (f after : Files) (p q : Past) → Stands f p → Advances other f p after q → me ≢ other → HasNamedNone me p → HasNamedNone me q

-- what the law of a commit's own files says
abbrev pub OwnFiles : Type 0
OwnFiles = (me : Actor) (s : TableSchema) (t : Attempt) → HavePlainNames s → MakesNames me t → IsMadeOf s t.newest t.author t.intent t.names t.made
    → AllByRecursion (λ (file : CommitFile). IsOwnFile me t.author.base file.path) t.made.files.items

first-of : (P : CommitFile → Type 0) (before later : List CommitFile) → AllByRecursion P (before ++ later) → AllByRecursion P before
first-of P [] later all = tt
first-of P (file ∷ before) later all = (all.0, first-of P before later all.1)

-- a file of the actor's own among those that snapshots name, with this base
abbrev pub IsMadeBy : Actor → ℕ → CommitFile → Type 0
IsMadeBy me base file = IsOwnFile me base file.path

-- so is each file of a try, with the commit's
tried-made : OwnFiles → (own : OwnView) (s : TableSchema) (t : Attempt) → t.author ≡ own.author → HavePlainNames s → MakesNames (actor_of own) t
    → IsMadeOf s t.newest t.author t.intent t.names t.made → AllByRecursion (IsMadeBy (actor_of own) own.author.base) t.made.files.items
tried-made own_files own s t same plain names made =
    subst (λ (author : Author). AllByRecursion (IsMadeBy (actor_of own) author.base) t.made.files.items) same
    (own_files (actor_of own) s t plain names made)

-- of two, each of which holds unless the same does, both do
both-unless : {A B C : Type 0} → A ⊎ B → A ⊎ C → A ⊎ (B × C)
both-unless (inl a) right = inl a
both-unless (inr b) (inl a) = inl a
both-unless (inr b) (inr c) = inr (b, c)

count-grows : (h later : History) → GoesOn h later → count_of h ≤ count_of later
count-grows no_table later goes = omega arith
count-grows (table s entries) no_table goes = absurd goes
count-grows (table s entries) (table t later) (same, more, is) = let size = ap length is in let both = length-append entries more in omega (arith, size, both)

-- what a try found stays as it was, whoever acts
module _ (actor : Actor) (f after : Files) (p q : Past) (advances : Advances actor f p after q) where
  view-still : (v : View) → IsViewIn p v → IsViewIn q v
  view-still v (view_origin is) = view_origin is
  view-still v (view_snapshot x base delta entries live stood has leaves is) =
      view_snapshot x base delta entries live (reader_facts.stood_still actor f after p q v.schema x advances stood)
      (subst (λ (g : Files). HasEntries g v.schema x base delta entries) (sym (advances.same x.id stood.known)) has) leaves is

  pub found-still : (found : Found) → IsFoundIn p found → IsFoundIn q found
  found-still found is_found = record {
    view = is_found.view;
    is = is_found.is;
    wanted = is_found.wanted;
    stood = view-still is_found.view is_found.stood;
    origin = is_found.origin;
  }

-- that no known snapshot names a file of the actor stays so
abbrev KeepsNone : Past → Past → OwnView → Type 0
KeepsNone p q own = HasNamedNone (actor_of own) p → HasNamedNone (actor_of own) q

module _ (own_files : OwnFiles) (e : Entry) (other : Actor) (f after : Files) (p q : Past) (stands : Stands f p)
    (advances : Advances other f p after q) where
  own-still : (own : OwnView) (s : TableSchema) → KeepsNone p q own → KnowsOwn own e s p → KnowsOwn own e s q
  own-still own s apart known = record {
    is_table = reader_facts.table_still other f after p q s advances known.is_table;
    means = known.means;
    may = known.may;
    unnamed = apart known.unnamed;
    from =
        (let low = known.from in
        let more = count-grows p.history q.history (goes_on other f after p.history q.history advances.change) in
        omega (arith, low, more));
  }

  -- the files that an actor made are there, or their base is fenced
  module _ (me : Actor) (base : ℕ) (none : HasNamedNone me p) where
    put-still : (file : CommitFile) → IsMadeBy me base file → IsPut f file → IsFenced base q.history ⊎ IsPut after file
    put-still file own is = at (own-stays me other base f after p q file.path stands advances own none
        (subst (λ (o : Option (List ℕ)). IsSome o) (sym is) refl))
      where
        at : IsFenced base q.history ⊎ (map.get after file.path ≡ map.get f file.path) → IsFenced base q.history ⊎ IsPut after file
        at (inl fenced) = inl fenced
        at (inr same) = inr (same ∙ is)

    puts-still : (files : List CommitFile) → AllByRecursion (IsMadeBy me base) files → AllByRecursion (IsPut f) files
        → IsFenced base q.history ⊎ AllByRecursion (IsPut after) files
    puts-still [] made all = inr tt
    puts-still (file ∷ files) (own, made) (is, rest) = both-unless (put-still file own is) (puts-still files made rest)

  pub there-still : (own : OwnView) (files : List CommitFile) → HasNamedNone (actor_of own) p → AllByRecursion (IsMadeBy (actor_of own) own.author.base) files
      → AreThere own f p files → AreThere own after q files
  there-still own files none made (inl fenced) =
      inl (fenced-later own.author.base p.history q.history (goes_on other f after p.history q.history advances.change) fenced)
  there-still own files none made (inr there) = puts-still (actor_of own) own.author.base none files made there

  try-still : (own : OwnView) (s : TableSchema) (id : ℕ) (m : put_phase.Phase) → IsTried s own → KnowsOwn own e s p → KnowsTry own e s id m f p
      → KnowsTry own e s id m after q
  try-still own s id m tried known is_try = record {
    attempt = is_try.attempt;
    same_intent = is_try.same_intent;
    same_author = is_try.same_author;
    found = found-still other f after p q advances (record { schema = s; newest = is_try.attempt.newest }) is_try.found;
    names = is_try.names;
    made = is_try.made;
    allowed = is_try.allowed;
    is = is_try.is;
    put = at_weaker (put_of s is_try.attempt.made) (AreThere own f p) (AreThere own after q) m
        (λ done left files. there-still own done known.unnamed (first-of (IsMadeBy (actor_of own) own.author.base) done left
        (subst (AllByRecursion (IsMadeBy (actor_of own) own.author.base)) files
        (tried-made own_files own s is_try.attempt is_try.same_author (plain_names s tried.declared) is_try.names is_try.made))))
        is_try.put;
  }

  entry-still : (id : ℕ) → HasEntry e id p → HasEntry e id q
  entry-still id (s, before, later, was, is) =
      at q.history refl (subst (λ (h : History). GoesOn h q.history) was (goes_on other f after p.history q.history advances.change))
    where
      at : (h : History) → q.history ≡ h → GoesOn (table s (before ++ e ∷ later)) h → HasEntry e id q
      at no_table now goes = absurd goes
      at (table t entries) now (same, more, grows) = (
        s,
        before,
        later ++ more,
        now ∙ ap (λ (t : TableSchema). table t entries) same
            ∙ ap (table s) (grows ∙ append_assoc before (e ∷ later) more),
        is,
      )

  committed-still : (author : Author) (id : ℕ) → HasCommitted author e id p → HasCommitted author e id q
  committed-still author id has = record {
    entry = entry-still id has.entry;
    known = known-still other f after p q id advances has.known;
    found = has.found;
    is_found = found-still other f after p q advances has.found has.is_found;
    is_table = reader_facts.table_still other f after p q has.found.schema advances has.is_table;
    next = has.next;
    stood = subst (λ (g : Files). BearsAdded g has.found.schema has.found.newest author e) (sym (advances.same id has.known)) has.stood;
  }

  earlier-still : (author : Author) → HasEarlier author p → HasEarlier author q
  earlier-still author has = record {
    id = has.id;
    known = known-still other f after p q has.id advances has.known;
    snapshot = has.snapshot;
    stood = subst (λ (g : Files). SnapshotAt g has.id has.snapshot) (sym (advances.same has.id has.known)) has.stood;
    reached = has.reached;
  }

  pub in-still : (m : Phase) → IsCommitter m → IfSome (own_in m) (KeepsNone p q) → KnowsIn e m f p → KnowsIn e m after q
  in-still (phases.Names own s) is apart known = own-still own s apart known
  in-still (phases.View own m) is apart (s, reads, known, reading, origin) =
      (s, reads, own-still own s apart known, reader_facts.knows_still m other f after p q stands advances reading, origin)
  in-still (phases.Search own searching) is apart (known, is_found) =
      (own-still own searching.found.schema apart known, found-still other f after p q advances searching.found is_found)
  in-still (phases.Put own s id m) is apart (known, is_try) = (own-still own s apart known, try-still own s id m is.0 known is_try)
  in-still (phases.Committed author id) is apart known = committed-still author id known
  in-still (phases.Already author) is apart known = earlier-still author known
  in-still phases.Over is apart known = tt

-- ---- the files of rows that it was given

-- what the law of a plan says: it stays so, whoever commits
abbrev pub PlanStays : Type 0
PlanStays = (me other : Actor) (f after : Files) (p q : Past) (s : TableSchema) (base : ℕ) (plan : Plan) (given : List CommitFile)
    → Advances other f p after q → KnowsPlan me s base plan given p → KnowsPlan me s base plan given q

-- and what that of its files does: they are the actor's
abbrev pub OwnGiven : Type 0
OwnGiven = (me : Actor) (p : Past) (s : TableSchema) (base : ℕ) (plan : Plan) (given : List CommitFile) → HavePlainNames s
    → KnowsPlan me s base plan given p → AllByRecursion (IsMadeBy me base) given

planned-still : PlanStays → (intent : Intent) (me other : Actor) (base : ℕ) (given : List CommitFile) (f after : Files) (p q : Past)
    → Advances other f p after q → PlannedIn intent me base given p → PlannedIn intent me base given q
planned-still law (intents.Append batch) me other base given f after p q advances none = none
planned-still law (intents.Compact plan) me other base given f after p q advances (s, knows) =
    (s, law me other f after p q s base plan given advances knows)
planned-still law (intents.Fence number) me other base given f after p q advances is = absurd is

pub given-own : OwnGiven → (intent : Intent) (me : Actor) (base : ℕ) (given : List CommitFile) (p : Past) (s : TableSchema) → IsTableOf s p.history → HavePlainNames s
    → PlannedIn intent me base given p → AllByRecursion (IsMadeBy me base) given
given-own law (intents.Append batch) me base given p s is plain none = subst (AllByRecursion (IsMadeBy me base)) (sym none) tt
given-own law (intents.Compact plan) me base given p s is plain (t, knows) =
    law me p t base plan given (subst HavePlainNames (one-table s t p.history is knows.table) plain) knows
given-own law (intents.Fence number) me base given p s is plain none = absurd none

-- a commit of a table with plain names, of which this is known
abbrev pub IsHeld : Entry → Past → OwnView → Type 0
IsHeld e p own = (s : TableSchema) × HavePlainNames s × KnowsOwn own e s p

pub held-in : (e : Entry) (m : Phase) (f : Files) (p : Past) → IsCommitter m → KnowsIn e m f p → IfSome (own_in m) (IsHeld e p)
held-in e (phases.Names own s) f p (own_of, appends) known = (s, plain_names s own_of.declared, known)
held-in e (phases.View own m) f p (left, (t, reads_t, own_of), may) (s, reads, known, reading, origin) =
    let same : t ≡ s = ap (λ (a : Asked). a.schema) (asked-same (newest_of t) (newest_of s) (sym reads_t.asked ∙ reads.asked)) in
    (s, subst HavePlainNames same (plain_names t own_of.declared), known)
held-in e (phases.Search own q) f p (may, few, ids) (known, is_found) = (q.found.schema, plain_names q.found.schema may.own_of.declared, known)
held-in e (phases.Put own s id m) f p (tried, some, few) (known, is_try) = (s, plain_names s tried.declared, known)
held-in e (phases.Committed author id) f p is known = tt
held-in e (phases.Already author) f p is known = tt
held-in e phases.Over f p is known = tt

-- of these files it was given, and those done are there
abbrev pub WasGivenBy : List CommitFile → List CommitFile → Files → Past → OwnView → Type 0
WasGivenBy given done f p own = IsPlanned own given p × AreThere own f p done

-- that stays so, whoever acts
pub was-still : PlanStays → OwnGiven → OwnFiles → (e : Entry) (o : Option OwnView) (given done left : List CommitFile) (f after : Files) (p q : Past) → Stands f p
    → given ≡ done ++ left → IfSome o (IsHeld e p) → IfSome o (λ own. (other : Actor) × Advances other f p after q) → IfSome o (WasGivenBy given done f p)
    → IfSome o (WasGivenBy given done after q)
was-still stays law own_files e None given done left f after p q stands parts held changes was = tt
was-still stays law own_files e (Some own) given done left f after p q stands parts (s, plain, known) (other, advances) (planned, there) =
    let all = given-own law own.intent (actor_of own) own.author.base given p s known.is_table plain planned in (
      planned-still stays own.intent (actor_of own) other own.author.base given f after p q advances planned,
      there-still own_files e other f after p q stands advances own done known.unnamed
          (first-of (IsMadeBy (actor_of own) own.author.base) done left (subst (AllByRecursion (IsMadeBy (actor_of own) own.author.base)) parts all)) there,
    )

-- ---- all that it knows

each-if : {A : Type 0} {P Q : A → Type 0} (o : Option A) → ((x : A) → P x → Q x) → IfSome o P → IfSome o Q
each-if None each none = tt
each-if (Some x) each is = each x is

pub always-if : {A : Type 0} {P : A → Type 0} (o : Option A) → ((x : A) → P x) → IfSome o P
always-if None each = tt
always-if (Some x) each = each x

-- what it knows, with some of the files that it was given
pub but-still : OthersNone → PlanStays → OwnGiven → OwnFiles → (e : Entry) (given done left : List CommitFile) (other : Actor) (f after : Files) (p q : Past) → Stands f p
    → given ≡ done ++ left → Advances other f p after q → (m : Phase) → IsOtherThan other m → KnowsBut e given done m f p → KnowsBut e given done m after q
but-still law stays given_law own_files e given done left other f after p q stands parts advances m apart (is, known, was) = (
  is,
  in-still own_files e other f after p q stands advances m is
      (each-if (own_in m) (λ own apart none. law (actor_of own) other f after p q stands advances apart none) apart) known,
  was-still stays given_law own_files e (own_in m) given done left f after p q stands parts (held-in e m f p is known)
      (always-if (own_in m) (λ own. (other, advances))) was,
)

pub knows-still : OthersNone → PlanStays → OwnGiven → OwnFiles → (e : Entry) (other : Actor) (f after : Files) (p q : Past) → Stands f p
    → Advances other f p after q → (m : Phase) → IsOtherThan other m → Knows e m f p → Knows e m after q
knows-still law stays given_law own_files e other f after p q stands advances m apart (is, known, (given, was)) =
    let now = but-still law stays given_law own_files e given given [] other f after p q stands (sym (append-nil given)) advances m apart (is, known, was) in
    (now.0, now.1, (given, now.2))
