-- The create of a file of a try makes one of the actor's own.
use Rattle.std.proofs.Common.{◌≡◌, inr, inl, ℕ, List, [], ◌∷◌, ◌++◌, None, Some, refl, subst}
use Rattle.std.specs.FinMap as map
use Rattle.std.specs.List.{AllByRecursion}
use Rattle.pm_store.specs.Files.{Files, Puts}
use Rattle.pm_model_history.specs.History.{Entry}
use Rattle.pm_schema.specs.declared.schema.TableSchema.{TableSchema}
use Rattle.pm_partitions.proofs.Plain.{plain_names}
use Rattle.pm_model_folder.specs.Changes.{IsNamedBy, IsOwn, IsOwnFile, IsTablePath, its_file}
use Rattle.pm_model_folder.specs.Ledger.{Past}
use Rattle.pm_model_folder.proofs.PathLemmas.{own-in_table}
use Rattle.pm_made.specs.Commit.{Attempt}
use Rattle.pm_put.proofs.Facts.{at_next, put-more}
use Rattle.pm_put.specs.Making.{MakingView}
use Rattle.pm_put.specs.Meaning as put
use Rattle.pm_put.specs.Meaning.{HasDone}
use Rattle.pm_put.specs.Putter.{create_next as put_next}
use Rattle.pm_put.specs.declared.phase.Phase.TheVariants as puts
use Rattle.pm_put.specs.declared.putting.CommitFile.{CommitFile}
use Rattle.pm_commit.specs.Committer.{put_of}
use Rattle.pm_commit.specs.Meaning.{AreThere, KnowsOwn, KnowsTry, MakesOwn, path_after}
use Rattle.pm_commit.specs.Own.{IsTried, OwnView, actor_of}
use Rattle.pm_commit.proofs.AddsLemmas.{adds-one}
use Rattle.pm_commit.proofs.AdvanceLemmas.{own-advances}
use Rattle.pm_commit.proofs.PathLemmas.{no-origin}
use Rattle.pm_commit.proofs.PublishLemmas.{own-same}
use Rattle.pm_commit.proofs.StillLemmas.{OwnFiles}

pub all-at : (P : CommitFile → Type 0) (before after : List CommitFile) (file : CommitFile) → AllByRecursion P (before ++ file ∷ after) → P file
all-at P [] after file all = all.0
all-at P (other ∷ before) after file all = all-at P before after file all.1

module _ (own_files : OwnFiles) (own : OwnView) (e : Entry) (s : TableSchema) (id : ℕ) (making : MakingView) (f : Files) (p : Past)
    (tried : IsTried s own) (known : KnowsOwn own e s p) (is_try : KnowsTry own e s id (puts.Create making) f p) where
  abbrev t : Attempt
  t = is_try.attempt

  abbrev has : HasDone (put_of s t.made) (AreThere own f p) (making.next ∷ making.rest)
  has = is_try.put.1

  is-file : IsOwnFile (actor_of own) t.author.base making.next.path
  is-file = all-at (λ (file : CommitFile). IsOwnFile (actor_of own) t.author.base file.path) has.done making.rest making.next
      (subst (AllByRecursion (λ (file : CommitFile). IsOwnFile (actor_of own) t.author.base file.path)) has.files
      (own_files (actor_of own) s t (plain_names s tried.declared) is_try.names is_try.made))

  is-own : IsOwn (actor_of own) making.next.path
  is-own = its_file is-file.by is-file.in_table

  is-in : IsTablePath making.next.path
  is-in = own-in_table (actor_of own) t.author.base making.next.path is-file

  -- it bears the actor's name
  pub create-named : IsNamedBy (actor_of own) making.next.path
  create-named = is-file.by

  -- it appears, with some content
  put-makes : (after : Files) (content : List ℕ) → map.get f making.next.path ≡ None → Puts f making.next.path (Some content) after → MakesOwn own e f p after p
  put-makes after content absent puts = record {
    advances = own-advances (actor_of own) f after p s making.next.path content known.is_table known.unnamed is-own is-in create-named
        (no-origin p.history making.next.path is-in) absent puts;
    appends = inl refl;
    adds = adds-one (actor_of own) (path_after p.history) f after making.next.path content absent (inl is-own) puts;
    consumers = λ name. refl;
  }

  pub create-makes : (after : Files) → put.Makes (puts.Create making) f after → MakesOwn own e f p after p
  create-makes after (inl same) = own-same own e f after p same
  create-makes after (inr (content, (absent, puts))) = put-makes after content absent puts

  -- once it was created
  pub created-try : (after : Files) → map.get f making.next.path ≡ None → Puts f making.next.path (Some making.next.bytes) after
      → KnowsTry own e s id (put_next making.publishing making.rest) after p
  created-try after absent puts = record {
    attempt = t;
    same_intent = is_try.same_intent;
    same_author = is_try.same_author;
    found = is_try.found;
    names = is_try.names;
    made = is_try.made;
    allowed = is_try.allowed;
    is = is_try.is;
    put = at_next (put_of s t.made) (AreThere own f p) (AreThere own after p) making.publishing making.next making.rest is_try.put.0 has
        (λ done there. elim there as (λ _. AreThere own after p (done ++ making.next ∷ [])) [
          | inl fenced ↦ inl fenced
          | inr all ↦ inr (put-more f after making.next absent puts done all)
        ]);
  }
