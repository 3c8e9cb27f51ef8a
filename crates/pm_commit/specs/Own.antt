-- What a commit is made of, and by whom.
use Rattle.std.specs.Prelude.{◌≡◌, ℕ, ℤ, ◌+◌, ◌*◌, ◌<◌, ◌≤◌, ◌^◌, List, [], ◌∷◌, ◌++◌, length, map, Bool, false}
use Rattle.pm_values.specs.Names.{Naming, based}
use Rattle.pm_values.specs.declared.group.Group.{Group}
use Rattle.pm_schema.specs.Again.{IsDeclared}
use Rattle.pm_schema.specs.declared.schema.TableSchema.{TableSchema}
use Rattle.pm_model_folder.specs.Changes.{Actor}
use Rattle.pm_write.specs.Batch.{GroupRows, Groups}
use Rattle.pm_made.specs.Intent.{FitsGroups, IsMadeFor, most_files}
use Rattle.pm_made.specs.declared.intent.Intent.{Intent}
use Rattle.pm_made.specs.declared.intent.Intent.TheVariants as intents
use Rattle.pm_made.specs.declared.intent.Plan.{Plan}
use Rattle.pm_made.specs.declared.newest.Author.{Author}

-- what a commit is for and by whom, whether an earlier commit of the user is looked for, the maker of names, and the
-- ids that tries lost to others
pub record OwnView : Type 0 where
  pub intent : Intent
  pub author : Author
  pub check : Bool
  pub names : Naming
  pub lost : List ℕ

abbrev pub own_of : Intent → Author → Bool → Naming → List ℕ → OwnView
own_of intent author check names lost =
    record { intent = intent; author = author; check = check; names = names; lost = lost }

-- an author whose first try hasn't read a snapshot yet
abbrev pub new_author : List ℕ → ℤ → ℤ → Author
new_author user identifier time = record { user = user; identifier = identifier; base = 0; time = time }

-- a commit that appends a batch, before its first try
abbrev pub new_own : Groups → Author → Bool → Naming → OwnView
new_own batch author check names = own_of (intents.Append batch) author check (based 0 names) []

-- a commit that compacts, with its first try's view as its base
abbrev pub own_for_plan : Plan → Author → Naming → OwnView
own_for_plan plan author names = own_of (intents.Compact plan) author false names []

-- the actor that makes the names
abbrev pub actor_of : OwnView → Actor
actor_of own = record { session = own.names.session; number = own.names.actor }

-- with this as its base, where no try was lost
abbrev pub begun_after : List ℕ → ℕ → OwnView → OwnView
begun_after [] newest own =
    record own { author = record own.author { base = newest }; names = based newest own.names }
begun_after (id ∷ lost) newest own = own

-- with the newest snapshot of its first try as its base
abbrev pub begun : ℕ → OwnView → OwnView
begun newest own = begun_after own.lost newest own

-- with an id more that was lost, and with so many names given
abbrev pub with_lost : ℕ → OwnView → OwnView
with_lost id own = record own { lost = own.lost ++ id ∷ [] }

abbrev pub with_named : ℕ → OwnView → OwnView
with_named count own = record own { names = record own.names { count = count } }

-- how many rows a batch has of each of its groups
abbrev pub counts_of : Groups → List (Group × ℕ)
counts_of batch = map (λ (e : Group × GroupRows). (e.0, e.1.count)) batch

-- two appends have as many rows of each group; two others are one
abbrev pub AreAlikeFor : Intent → Intent → Type 0
AreAlikeFor (intents.Append batch) (intents.Append more) = counts_of batch ≡ counts_of more
AreAlikeFor one other = one ≡ other

-- Two commits of one author and one maker of names, after the same tries, for the same or with as many rows of each
-- group. They may differ in how the rows are stored.
pub record AreAlike (one other : OwnView) : Type 0 where
  pub author : one.author ≡ other.author
  pub check : one.check ≡ other.check
  pub names : one.names ≡ other.names
  pub lost : one.lost ≡ other.lost
  pub counts : AreAlikeFor one.intent other.intent

-- how many tries there are
abbrev pub tries : ℕ
tries = 11

-- rows are appended, or not
abbrev pub IsAppend : Intent → Type 0
IsAppend (intents.Append batch) = Unit {0}
IsAppend other = ⊥

abbrev pub IsNoAppend : Intent → Type 0
IsNoAppend intent = IsAppend intent → ⊥

-- a commit that begins by a view appends: a compaction begins with its first try made
abbrev pub MayView : OwnView → Type 0
MayView own = own.lost ≡ [] → IsAppend own.intent

-- no batch has more groups than this, and no commit makes more files a try, so that names suffice
abbrev pub group_limit : ℕ
group_limit = 2 ^ 32

abbrev pub file_limit : ℕ
file_limit = 2 ^ 40

-- A commit of a declared table, after so many tries that took names: it appends or compacts, its groups fit the table,
-- its base is that of its names, and there are names and tries enough.
pub record IsOwnAfter (tried : ℕ) (s : TableSchema) (own : OwnView) : Type 0 where
  pub declared : IsDeclared s
  pub made_for : IsMadeFor own.intent
  pub fits : FitsGroups s own.intent
  pub few : most_files own.intent ≤ file_limit
  pub same_base : own.names.base ≡ own.author.base
  pub within : length own.lost < tries
  pub named : own.names.count ≤ 2 ^ 61 + file_limit * tried

-- a commit before a try has named its files, and once it has
abbrev pub IsOwn : TableSchema → OwnView → Type 0
IsOwn s own = IsOwnAfter (length own.lost) s own

abbrev pub IsTried : TableSchema → OwnView → Type 0
IsTried s own = IsOwnAfter (length own.lost + 1) s own
