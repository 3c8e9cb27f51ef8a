-- The files of a commit bear the name of the actor that made it and its base, and stand in folders of the table.
use Rattle.std.proofs.Common.{inl, inr, ℕ, ◌^◌, ◌<◌, sym, subst, arith}
use Rattle.std.specs.List.{AllByRecursion}
use Rattle.pm_values.specs.Names.{Naming}
use Rattle.pm_schema.specs.declared.schema.TableSchema.{TableSchema}
use Rattle.pm_model_folder.specs.Changes.{Actor, HavePlainNames, IsOwnFile, IsTableFolder, bucket, manifests}
use Rattle.pm_put.specs.declared.putting.CommitFile.{CommitFile}
use Rattle.pm_made.specs.Commit.{Attempt, MakesNames}
use Rattle.pm_made.specs.Files.{IsMadeOf}
use Rattle.pm_made.proofs.CountedLemmas.{IsPlaced, made-placed, turn-each}
use Rattle.pm_made.proofs.FileCountLemmas.{made-few}
use Rattle.pm_made.proofs.MadeLemmas.{IsMaker, at, may-count}

own-at : (me : Actor) (base : ℕ) (t : Naming) (s : TableSchema) (n : ℕ) (file : CommitFile) → HavePlainNames s → IsMaker me base t → n < 2 ^ 64
    → IsPlaced t s n file → IsOwnFile me base file.path
own-at me base t s n file plain is bits placed = record {
  by = record {
    folder = placed.counted.folder;
    file = placed.counted.file;
    names = at t n;
    may = may-count t n is.may bits;
    session = is.session;
    actor = is.actor;
    is = placed.counted.is;
  };
  in_table = elim placed.place as (λ _. IsTableFolder placed.counted.folder) [
    | inl listed ↦ subst IsTableFolder (sym listed) manifests
    | inr kept ↦ subst IsTableFolder (sym kept.1) (bucket s kept.0 plain)
  ];
  based = is.based;
}

pub own-files : (me : Actor) (s : TableSchema) (t : Attempt) → HavePlainNames s → MakesNames me t → IsMadeOf s t.newest t.author t.intent t.names t.made
    → AllByRecursion (λ (file : CommitFile). IsOwnFile me t.author.base file.path) t.made.files.items
own-files me s t plain makes made =
    let few = made-few s t.newest t.author t.intent t.names t.made made in
    let room = makes.room in
    turn-each (IsPlaced t.names s) (λ (file : CommitFile). IsOwnFile me t.author.base file.path) (2 ^ 64)
    (λ k file bits placed. own-at me t.author.base t.names s k file plain maker bits placed)
    t.names.count t.made.files.items (omega (arith, few, room)) (made-placed t.names s t.newest t.author t.intent t.made made)
  where
    maker : IsMaker me t.author.base t.names
    maker = record { may = makes.may; session = makes.session; actor = makes.actor; based = makes.based }
