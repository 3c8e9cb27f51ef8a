-- The names of a commit's files: who made them, from which base.
use Rattle.std.proofs.Common.{◌≡◌, ℕ, ℤ, pos, suc, ◌+◌, ◌<◌, ◌^◌, int_lt, true, List, ◌∷◌, ◌++◌, codes, sym, ap, subst, ◌∙◌, arith}
use Rattle.pm_values.specs.Names.{Naming, counted, name_of}
use Rattle.pm_values.specs.declared.group.Group.{Group}
use Rattle.pm_schema.specs.Folder.{folder_text}
use Rattle.pm_schema.specs.declared.schema.TableSchema.{TableSchema}
use Rattle.pm_snapshot.specs.Names.{BasedFile, MayName, manifest, manifest_list, prefix_of, suffix_of}
use Rattle.pm_model_contents.specs.Lists.{manifest_path}
use Rattle.pm_model_contents.specs.Runs.{data_path}
use Rattle.pm_model_folder.specs.Changes.{Actor, IsNamedBy, IsOwnFile}
use Rattle.pm_model_folder.specs.Commits.{IsFresh, Maker}
use Rattle.pm_write.specs.Files.{after_names}

-- the maker of names is the actor, with this base, and may name
pub record IsMaker (me : Actor) (base : ℕ) (names : Naming) : Type 0 where
  pub may : MayName names
  pub session : names.session ≡ me.session
  pub actor : names.actor ≡ me.number
  pub based : names.base ≡ base

-- the file was named by the actor, with this base
pub record IsMade (me : Actor) (base : ℕ) (path : List ℕ) : Type 0 where
  pub by : IsNamedBy me path
  pub based : by.names.base ≡ base

-- the maker of names with another count
abbrev pub at : Naming → ℕ → Naming
at t n = record t { count = n }

pub may-count : (t : Naming) (n : ℕ) → MayName t → n < 2 ^ 64 → MayName (at t n)
may-count t n may bits = record {
  is_maker = record {
    sixteen = may.is_maker.sixteen;
    bytes = may.is_maker.bytes;
    actor_bits = may.is_maker.actor_bits;
    base_bits = may.is_maker.base_bits;
    count_bits = bits;
  };
  actor_within = may.actor_within;
  base_within = may.base_within;
}

pub later-maker : (me : Actor) (base k : ℕ) (names : Naming) → IsMaker me base names → names.count + k < 2 ^ 64 → IsMaker me base (after_names k names)
later-maker me base k names is bits = record {
  may = may-count names (names.count + k) is.may bits;
  session = is.session;
  actor = is.actor;
  based = is.based;
}

pub next-maker : (me : Actor) (base : ℕ) (names : Naming) → IsMaker me base names → names.count + 1 < 2 ^ 64 → IsMaker me base (counted names)
next-maker me base names is bits = later-maker me base 1 names is bits

-- so many more names may be given
pub record MayGive (me : Actor) (base k : ℕ) (names : Naming) : Type 0 where
  pub maker : IsMaker me base names
  pub room : names.count + k < 2 ^ 64

pub give-next : (me : Actor) (base k : ℕ) (names : Naming) → MayGive me base (suc k) names → MayGive me base k (counted names)
give-next me base k names may = record {
  maker = next-maker me base names may.maker (let room = may.room in omega (arith, room));
  room = (let room = may.room in omega (arith, room));
}

pub give-none : (me : Actor) (base k : ℕ) (names : Naming) → MayGive me base (suc k) names → MayGive me base k names
give-none me base k names may = record { maker = may.maker; room = (let room = may.room in omega (arith, room)) }

-- a file of rows that was given
pub made-given : (me : Actor) (base : ℕ) (path : List ℕ) → IsOwnFile me base path → IsMade me base path
made-given me base path own = record { by = own.by; based = own.based }

-- a file of rows, and a file in the folder of manifests
pub made-data : (me : Actor) (base : ℕ) (kind : BasedFile) (names : Naming) (s : TableSchema) (g : Group) (name : List ℕ) → IsMaker me base names
    → name ≡ name_of (prefix_of kind) (suffix_of kind) names → IsMade me base (data_path s g name)
made-data me base kind names s g name is named = record {
  by = record {
    folder = folder_text s g;
    file = kind;
    names = names;
    may = is.may;
    session = is.session;
    actor = is.actor;
    is = ap (λ (text : List ℕ). folder_text s g ++ 47 ∷ text) named;
  };
  based = is.based;
}

pub made-manifest : (me : Actor) (base : ℕ) (names : Naming) (name : List ℕ) → IsMaker me base names
    → name ≡ name_of (prefix_of manifest) (suffix_of manifest) names → IsMade me base (manifest_path name)
made-manifest me base names name is named = record {
  by = record {
    folder = codes "manifest";
    file = manifest;
    names = names;
    may = is.may;
    session = is.session;
    actor = is.actor;
    is = ap manifest_path named;
  };
  based = is.based;
}

pub made-list : (me : Actor) (base : ℕ) (names : Naming) (name : List ℕ) → IsMaker me base names
    → name ≡ name_of (prefix_of manifest_list) (suffix_of manifest_list) names → IsMade me base (manifest_path name)
made-list me base names name is named = record {
  by = record {
    folder = codes "manifest";
    file = manifest_list;
    names = names;
    may = is.may;
    session = is.session;
    actor = is.actor;
    is = ap manifest_path named;
  };
  based = is.based;
}

-- what the law of paths says
abbrev pub PathFacts : Type 0
PathFacts = (folder other : List ℕ) (file more : BasedFile) (m n : Naming) → MayName m → MayName n
    → folder ++ 47 ∷ name_of (prefix_of file) (suffix_of file) m ≡ other ++ 47 ∷ name_of (prefix_of more) (suffix_of more) n
    → (folder ≡ other) × (file ≡ more) × (m ≡ n)

abbrev pub maker_of : Actor → Maker
maker_of me = record { session = me.session; actor = me.number }

-- such a file is fresh after a fence that is below the base
pub made-fresh : PathFacts → (me : Actor) (base : ℕ) (fence : ℤ) (path : List ℕ) → IsMade me base path → int_lt fence (pos base) ≡ true
    → IsFresh (maker_of me) fence path
made-fresh parts me base fence path made above folder file n may is =
    let by = made.by in
    let same = (parts by.folder folder by.file file by.names n by.may may (sym by.is ∙ is)).2 in (
      ap (λ (m : Naming). m.session) (sym same) ∙ by.session,
      ap (λ (m : Naming). m.actor) (sym same) ∙ by.actor,
      subst (λ (b : ℕ). int_lt fence (pos b) ≡ true) (sym made.based ∙ ap (λ (m : Naming). m.base) same) above,
    )
