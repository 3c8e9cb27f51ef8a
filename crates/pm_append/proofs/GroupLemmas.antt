-- The runs of a group once a new file of it is live.
use Rattle.std.proofs.Common.{◌≡◌, ◌≢◌, ◌↔◌, ℕ, ◌<◌, false, List, [], ◌∷◌, None, Some, ◌⊎◌, inl, inr, Contains, refl, sym, ap, subst, ◌∙◌, append-nil, arith}
use Rattle.std.specs.FinMap as finite
use Rattle.pm_store.specs.Files.{Files}
use Rattle.pm_values.specs.declared.file_meta.FileMeta.{FileMeta}
use Rattle.pm_values.specs.declared.group.Group.{Group}
use Rattle.pm_values.specs.declared.record.Stamped.{Stamped}
use Rattle.pm_schema.specs.declared.schema.TableSchema.{TableSchema}
use Rattle.pm_levels.specs.Overlap.{AreDisjoint}
use Rattle.pm_levels.specs.Runs.{AreNamedApart, AreRuns, AreTwoOf, IsNewerThan, RunView, lone}
use Rattle.pm_manifest.specs.Live.{Live, id_of}
use Rattle.pm_manifest.specs.declared.entry.Entry.{Entry}
use Rattle.pm_model_contents.specs.Runs.{AreFilesOf, AreRunsOf, IsLive, data_path}
use Rattle.pm_run.specs.Rows.{HasRows}
use Rattle.pm_run.specs.Writing.{AreRising, IsMetaOf}
use Rattle.pm_model_folder.specs.Stored.{AreNumberedApart, HasFile, HasRun}
use Rattle.pm_made.proofs.ListLemmas.{in-head, in-or, in-tail}

-- what the law of a newest run says
pub record NewestFacts : Type 0 where
  pub runs : (file : FileMeta) (files : List FileMeta) (runs : List RunView) → IsNewerThan file files → AreRuns files runs
      → AreRuns (file ∷ files) (lone file ∷ runs)
  pub named : (file : FileMeta) (files : List FileMeta) → ((other : FileMeta) → Contains files other → other.level ≡ file.level → other.name ≢ file.name)
      → AreNamedApart files → AreNamedApart (file ∷ files)
  pub two : (file : FileMeta) (files : List FileMeta) (a b : FileMeta) → AreTwoOf a b (file ∷ files)
      → ((a ≡ file) × Contains files b) ⊎ ((b ≡ file) × Contains files a) ⊎ AreTwoOf a b files
  pub disjoint : (file : FileMeta) (files : List FileMeta) → file.level ≡ 0 → AreDisjoint files → AreDisjoint (file ∷ files)

-- the new file of a group: it is at level 0, and its numbers are above those of the group's files there
pub record IsNewest (live : Live) (g : Group) (a : Entry) : Type 0 where
  pub own : a.group ≡ g
  pub low : a.file.level ≡ 0
  pub above : (e : Entry) → IsLive live e → e.group ≡ g → (e.file.max_seq < a.file.min_seq) × (e.file.max_seq < a.file.max_seq)
  pub new : live (id_of a) ≡ None

some-none : (e : Entry) → Some e ≡ None → ⊥
some-none e is = cc

module _ (facts : NewestFacts) (live after : Live) (g : Group) (a : Entry) (newest : IsNewest live g a)
    (grown : (e : Entry) → e.group ≡ g → IsLive after e ↔ (IsLive live e ⊎ (e ≡ a))) where
  -- another file has another name
  other-name : (files : List FileMeta) → AreFilesOf live g files → (other : FileMeta) → Contains files other → other.level ≡ a.file.level → other.name ≢ a.file.name
  other-name files own other there level name =
      let o = (own.exact other).0 there in
      let same : id_of o.0 ≡ id_of a = λ i. record {
        group = (o.2 ∙ sym newest.own) i;
        name = (ap (λ (m : FileMeta). m.name) o.3 ∙ name) i;
        level = (ap (λ (m : FileMeta). m.level) o.3 ∙ level) i;
      } in
      some-none o.0 (sym o.1 ∙ ap live same ∙ newest.new)

  pub more-files : (files : List FileMeta) → AreFilesOf live g files → AreFilesOf after g (a.file ∷ files)
  more-files files own = record {
    exact = λ m. (
      λ h. elim (in-or a.file files m h) as (λ _. (e : Entry) × IsLive after e × (e.group ≡ g) × (e.file ≡ m)) [
        | inl is ↦ (a, (grown a newest.own).1 (inr refl), newest.own, is)
        | inr there ↦ (let o = (own.exact m).0 there in (o.0, (grown o.0 o.2).1 (inl o.1), o.2, o.3))
      ],
      λ o. elim ((grown o.0 o.2).0 o.1) as (λ _. Contains (a.file ∷ files) m) [
        | inl was ↦ in-tail a.file files m ((own.exact m).1 (o.0, was, o.2, o.3))
        | inr is ↦ subst (Contains (a.file ∷ files)) (ap (λ (e : Entry). e.file) (sym is) ∙ o.3) (in-head a.file files)
      ],
    );
    apart = facts.named a.file files (other-name files own) own.apart;
  }

  pub newer : (files : List FileMeta) → AreFilesOf live g files → IsNewerThan a.file files
  newer files own = record {
    level = newest.low;
    above = λ other there level.
        let o = (own.exact other).0 there in
        let below = (newest.above o.0 o.1 o.2).1 in
        let same = ap (λ (m : FileMeta). m.max_seq) o.3 in
        omega (arith, below, same);
  }

  abbrev pub more-runs : (runs : List RunView) → AreRunsOf live g runs → AreRunsOf after g (lone a.file ∷ runs)
  more-runs runs are = record {
    files = a.file ∷ are.files;
    own = more-files are.files are.own;
    made = facts.runs a.file are.files runs (newer are.files are.own) are.made;
    disjoint = facts.disjoint a.file are.files newest.low are.disjoint;
  }

  pub more-numbered : (runs : List RunView) → (are : AreRunsOf live g runs) → AreNumberedApart are.files → AreNumberedApart (a.file ∷ are.files)
  more-numbered runs are numbered x y two low_x low_y = elim (facts.two a.file are.files x y two) as (λ _. (x.max_seq < y.min_seq) ⊎ (y.max_seq < x.min_seq)) [
    | inl first ↦ inr (let below = old-below y first.1 in let same = ap (λ (m : FileMeta). m.min_seq) first.0 in omega (arith, below, same))
    | inr rest ↦ elim rest as (λ _. (x.max_seq < y.min_seq) ⊎ (y.max_seq < x.min_seq)) [
      | inl second ↦ inl (let below = old-below x second.1 in let same = ap (λ (m : FileMeta). m.min_seq) second.0 in omega (arith, below, same))
      | inr others ↦ numbered x y others low_x low_y
    ]
  ]
    where
      old-below : (m : FileMeta) → Contains are.files m → m.max_seq < a.file.min_seq
      old-below m there =
          let o = (are.own.exact m).0 there in
          let below = (newest.above o.0 o.1 o.2).0 in
          let same = ap (λ (m : FileMeta). m.max_seq) o.3 in
          omega (arith, below, same)

-- ---- the rows of a new file

pub new-run : (f : Files) (s : TableSchema) (g : Group) (a : Entry) (name bytes : List ℕ) (rows : List Stamped)
    → finite.get f (data_path s g a.file.name) ≡ Some bytes → HasRows s false bytes rows → AreRising rows → IsMetaOf s 0 name rows bytes a.file
    → HasRun f s g (lone a.file) (record { level = 0; rows = rows })
new-run f s g a name bytes rows there read rising meta = record {
  level = sym meta.levelled;
  files = (rows, [], sym (append-nil rows), has, refl);
  rising = rising;
}
  where
    has : HasFile f s false g a.file rows
    has = record {
      bytes = bytes;
      there = there;
      schema = meta.schema;
      read = read;
      tells = record { count = meta.count; least = meta.least; greatest = meta.greatest; lowest = meta.lowest; highest = meta.highest };
    }
