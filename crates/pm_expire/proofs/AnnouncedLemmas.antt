-- A floor changes no other path, and so no end.
use Rattle.std.proofs.Common.{◌≡◌, ◌≢◌, ◌↔◌, ℕ, ◌≤◌, List, [], ◌∷◌, Contains, map, if◌then◌else◌, is_none, Option, None, Some, IsSome, refl, sym, ◌∙◌, subst}
use Rattle.std.specs.FinMap as finite
use Rattle.std.specs.List.{AllByRecursion}
use Rattle.pm_store.specs.Files.{Files, IsListing, name_in}
use Rattle.pm_store.proofs.ChangeLaws.{Puts-insert}
use Rattle.pm_snapshot.specs.Names.{greatest, snapshot_name}
use Rattle.pm_model_folder.specs.Meaning.{ConsumerAt}
use Rattle.pm_model_folder.specs.Paths.{consumer_path, floor_path, snapshot_path}
use Rattle.pm_model_folder.proofs.BesideLemmas.{floor-consumer, floor-snapshot}
use Rattle.pm_consumer_files.specs.declared.lines.NamedConsumer.{NamedConsumer}
use Rattle.pm_snapshots.specs.AllCalls.{AreLinesOf}
use Rattle.pm_snapshots.specs.Meaning.{IsLineAt}
use Rattle.pm_snapshots.specs.declared.line.SnapshotLine.{SnapshotLine}
use Rattle.pm_consumers.specs.AllCalls.{AreConsumersOf}
use Rattle.pm_read_expiry.specs.declared.asking.Asking.{Asking}
use Rattle.pm_announce.specs.Tags.{tag_folder}
use Rattle.pm_expire.specs.AllCalls.{announced, IsEndIn}
use Rattle.pm_expire.proofs.ChainLemmas.{ids_of}

-- ---- paths

others_at : (f : Files) (path q : List ℕ) (at : Option (List ℕ)) → finite.get f path ≡ at → q ≢ path
    → finite.get (if is_none at then finite.insert f path [] else f) q ≡ finite.get f q
others_at f path q None is apart = (Puts-insert f path []).others q apart
others_at f path q (Some found) is apart = refl

there_at : (f : Files) (path : List ℕ) (at : Option (List ℕ)) → finite.get f path ≡ at
    → IsSome (finite.get (if is_none at then finite.insert f path [] else f) path)
there_at f path None is = subst (λ (o : Option (List ℕ)). IsSome o) (sym (Puts-insert f path []).here) refl
there_at f path (Some found) is = subst (λ (o : Option (List ℕ)). IsSome o) (sym is) refl

pub others : (f : Files) (end : ℕ) (path : List ℕ) → path ≢ floor_path end → finite.get (announced f end) path ≡ finite.get f path
others f end path apart = others_at f (floor_path end) path (finite.get f (floor_path end)) refl apart

pub there : (f : Files) (end : ℕ) → IsSome (finite.get (announced f end) (floor_path end))
there f end = there_at f (floor_path end) (finite.get f (floor_path end)) refl

-- ---- the tags

no_tag : (n : ℕ) (name : List ℕ) → name_in tag_folder (floor_path n) ≡ Some name → ⊥
no_tag n name is = let clash : None ≡ Some name = is in cc

tag_same : (f : Files) (floor : ℕ) (name path : List ℕ) → name_in tag_folder path ≡ Some name → finite.get (announced f floor) path ≡ finite.get f path
tag_same f floor name path leads =
    others f floor path (λ same. no_tag floor name (subst (λ (path : List ℕ). name_in tag_folder path ≡ Some name) same leads))

pub tags_before : (f : Files) (floor : ℕ) (files : List (List ℕ)) → IsListing tag_folder files (announced f floor) → IsListing tag_folder files f
tags_before f floor files listing = record {
  rising = listing.rising;
  exact = λ name. (
    λ among.
        let (path, some, leads) = (listing.exact name).0 among in
        (path, subst (λ (o : Option (List ℕ)). IsSome o) (tag_same f floor name path leads) some, leads),
    λ there.
        let (path, some, leads) = there in
        (listing.exact name).1 (path, subst (λ (o : Option (List ℕ)). IsSome o) (sym (tag_same f floor name path leads)) some, leads),
  );
}

-- ---- the end

module _ (f : Files) (floor : ℕ) where
  abbrev g : Files
  g = announced f floor

  at_snapshots : (id : ℕ) → finite.get g (snapshot_path id) ≡ finite.get f (snapshot_path id)
  at_snapshots id = others f floor (snapshot_path id) (λ same. floor-snapshot floor (snapshot_name id) (sym same))

  at_consumers : (name : List ℕ) → finite.get g (consumer_path name) ≡ finite.get f (consumer_path name)
  at_consumers name = others f floor (consumer_path name) (λ same. floor-consumer floor name (sym same))

  lines_before : (lines : List SnapshotLine) → AllByRecursion (IsLineAt g) lines → AllByRecursion (IsLineAt f) lines
  lines_before [] all = tt
  lines_before (l ∷ lines) ((s, (bytes, at, reads), is), all) =
      ((s, (bytes, sym (at_snapshots l.id) ∙ at, reads), is), lines_before lines all)

  are_lines : (lines : List SnapshotLine) → AreLinesOf g lines → AreLinesOf f lines
  are_lines lines are = record {
    ids = record {
      rising = are.ids.rising;
      exact = λ id. subst (λ (o : Option (List ℕ)). Contains (ids_of lines) id ↔ ((1 ≤ id) × (id ≤ greatest) × IsSome o)) (at_snapshots id) (are.ids.exact id);
    };
    each = lines_before lines are.each;
  }

  each_before : (consumers : List NamedConsumer) → AllByRecursion (λ (c : NamedConsumer). ConsumerAt g c.name c.consumer) consumers
      → AllByRecursion (λ (c : NamedConsumer). ConsumerAt f c.name c.consumer) consumers
  each_before [] all = tt
  each_before (c ∷ consumers) ((bytes, at, reads), all) = ((bytes, sym (at_consumers c.name) ∙ at, reads), each_before consumers all)

  pub are_consumers : (consumers : List NamedConsumer) → AreConsumersOf g consumers → AreConsumersOf f consumers
  are_consumers consumers are = record {
    rising = are.rising;
    exact = λ name. subst (λ (o : Option (List ℕ)). Contains (map (λ (c : NamedConsumer). c.name) consumers) name ↔ IsSome o) (at_consumers name) (are.exact name);
    each = each_before consumers are.each;
  }

pub same_end : (a : Asking) (f : Files) (floor end : ℕ) → IsEndIn a (announced f floor) end → IsEndIn a f end
same_end a f floor end is = record {
  lines = is.lines;
  are_lines = are_lines f floor is.lines is.are_lines;
  consumers = is.consumers;
  are_consumers = are_consumers f floor is.consumers is.are_consumers;
  next = is.next;
  is_next = is.is_next;
  is = is.is;
}
