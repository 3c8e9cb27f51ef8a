-- What a committer knows after an answer.
use Rattle.std.proofs.Common.{◌≡◌, inr, ℕ, ◌+◌, ◌^◌, ◌<◌, ◌≤◌, List, length, None, Ok, IfOk, refl, sym, ap, ◌∙◌, subst, arith}
use Rattle.pm_store.specs.Files.{Files}
use Rattle.pm_model_history.specs.History.{Entry, History, IsTableOf, no_table, table}
use Rattle.pm_schema.specs.declared.schema.TableSchema.{TableSchema}
use Rattle.pm_snapshot.specs.Names.{greatest}
use Rattle.pm_model_folder.specs.Folder.{Folder}
use Rattle.pm_model_folder.specs.Ledger.{Past, Stands, count_of}
use Rattle.pm_read_table.specs.Meaning.{IsViewIn, view_origin, view_snapshot}
use Rattle.pm_read_table.specs.declared.view.View.{View}
use Rattle.pm_made.specs.Commit.{Attempt}
use Rattle.pm_made.specs.Files.{IsMadeOf}
use Rattle.pm_made.specs.Intent.{most_files}
use Rattle.pm_made.specs.Refusals.{refusal_of}
use Rattle.pm_made.specs.declared.newest.Author.{Author}
use Rattle.pm_made.specs.declared.newest.Made.{Made}
use Rattle.pm_made.proofs.FileCountLemmas.{made-few}
use Rattle.pm_commit.specs.Committer.{Hears, Makes, Outcome, Tries, first_of_put, found_in, put_of}
use Rattle.pm_commit.specs.Meaning.{AreThere, HasEarlier, IsFoundIn, KnowsIn, KnowsOwn}
use Rattle.pm_commit.specs.Own.{IsOwn, MayView, OwnView, begun, with_lost, with_named}
use Rattle.pm_commit.specs.Search.{older_ids, seen_in}
use Rattle.pm_commit.specs.declared.search.Seen.{Seen}
use Rattle.pm_commit.specs.declared.search.Seen.TheVariants as seen
use Rattle.pm_commit.specs.declared.found.Found.{Found}
use Rattle.pm_put.proofs.Facts.{at_first}
use Rattle.pm_commit.specs.declared.phase.Phase.{Phase}
use Rattle.pm_commit.proofs.CommitterLemmas.{begun-first}
use Rattle.pm_commit.proofs.OutcomeLemmas.{heard, tried}
use Rattle.pm_commit.proofs.OwnLemmas.{based-means}

-- ---- the history

-- a folder that stands has no more snapshots than may have names
pub count-bound : (f : Files) (p : Past) (s : TableSchema) → Stands f p → IsTableOf s p.history → count_of p.history ≤ greatest
count-bound f p s stands is = at p.history is stands.folder
  where
    at : (h : History) → IsTableOf s h → Folder f h → count_of h ≤ greatest
    at no_table is folder = absurd is
    at (table t entries) is folder = folder.snapshots.within

-- ---- what is known of a commit

module _ (e : Entry) (s : TableSchema) (p : Past) where
  pub begun-known : (own : OwnView) (n : ℕ) → n ≤ count_of p.history → n ≤ greatest → MayView own → KnowsOwn own e s p
      → KnowsOwn (begun n own) e s p
  begun-known own n within bound may known = begun-first (λ o. KnowsOwn o e s p) own n known (λ first. record {
    is_table = known.is_table;
    means = based-means s own.author n own.intent e (may first) known.means;
    may = record {
      is_maker = record {
        sixteen = known.may.is_maker.sixteen;
        bytes = known.may.is_maker.bytes;
        actor_bits = known.may.is_maker.actor_bits;
        base_bits = omega (arith, bound);
        count_bits = known.may.is_maker.count_bits;
      };
      actor_within = known.may.actor_within;
      base_within = bound;
    };
    unnamed = known.unnamed;
    from = within;
  })

  pub named-known : (own : OwnView) (count : ℕ) → count < 2 ^ 64 → KnowsOwn own e s p → KnowsOwn (with_named count own) e s p
  named-known own count bound known = record {
    is_table = known.is_table;
    means = known.means;
    may = record {
      is_maker = record {
        sixteen = known.may.is_maker.sixteen;
        bytes = known.may.is_maker.bytes;
        actor_bits = known.may.is_maker.actor_bits;
        base_bits = known.may.is_maker.base_bits;
        count_bits = bound;
      };
      actor_within = known.may.actor_within;
      base_within = known.may.base_within;
    };
    unnamed = known.unnamed;
    from = known.from;
  }

  pub lost-known : (own : OwnView) (id : ℕ) → KnowsOwn own e s p → KnowsOwn (with_lost id own) e s p
  lost-known own id known = record {
    is_table = known.is_table;
    means = known.means;
    may = known.may;
    unnamed = known.unnamed;
    from = known.from;
  }

-- ---- what a try leads to

module _ (e : Entry) (f : Files) (p : Past) where
  -- the files of a try are yet to be put
  pub made-known : (own : OwnView) (found : Found) (made : Made) (later : Phase) → own.names.base ≡ own.author.base
      → own.names.count + most_files own.intent < 2 ^ 64 → KnowsOwn own e found.schema p → IsFoundIn p found
      → IsMadeOf found.schema found.newest own.author own.intent own.names made → refusal_of found.newest own.author own.intent ≡ None
      → later ≡ first_of_put own found.schema made → KnowsIn e later f p
  made-known own found made later based room known is_found is_made allowed is =
      let few = made-few found.schema found.newest own.author own.intent own.names made is_made in
      let attempt : Attempt = record { intent = own.intent; author = own.author; newest = found.newest; names = own.names; made = made } in
      let total : ℕ = own.names.count + length made.files.items in
      let next : OwnView = with_named total own in
      subst (λ (m : Phase). KnowsIn e m f p) (sym is) (
        named-known e found.schema p own total (omega (arith, few, room)) known,
        record {
          attempt = attempt;
          same_intent = refl;
          same_author = refl;
          found = is_found;
          names = record { session = refl; actor = refl; based = based; may = known.may; room = room };
          made = is_made;
          allowed = allowed;
          is = refl;
          put = at_first (put_of found.schema made) (AreThere next f p) (inr tt);
        },
      )

  pub makes-known : (own : OwnView) (found : Found) (later : Phase) → IsOwn found.schema own → KnowsOwn own e found.schema p → IsFoundIn p found
      → Makes own found (Ok later) → KnowsIn e later f p
  makes-known own found later own_of known is_found (made, is_made, allowed, is) =
      let named = own_of.named in
      let within = own_of.within in
      let few = own_of.few in
      made-known own found made later own_of.same_base (omega (arith, named, within, few)) known is_found is_made allowed is

  -- the newest snapshot is an earlier commit of the author's
  newest-earlier : (author : Author) (v : View) → IsFoundIn p (found_in v) → seen_in author v.snapshot ≡ seen.Reached → HasEarlier author p
  newest-earlier author v is_found reached = at is_found.stood
    where
      same : v.snapshot ≡ is_found.view.snapshot
      same = ap (λ (found : Found). found.newest.snapshot) is_found.is

      other-reached : seen.Other ≡ seen.Reached → ⊥
      other-reached e = cc

      at : IsViewIn p is_found.view → HasEarlier author p
      at (view_origin is) = absurd (other-reached (sym (ap (seen_in author) (same ∙ is.snapshot)) ∙ reached))
      at (view_snapshot x base delta entries live stood has leaves is) = record {
        id = x.id;
        known = stood.known;
        snapshot = x;
        stood = stood.was;
        reached = sym (ap (seen_in author) (same ∙ is.snapshot)) ∙ reached;
      }

  pub hears-known : (own : OwnView) (found : Found) (left : List ℕ) (said : Seen) (later : Phase) → IsOwn found.schema own → KnowsOwn own e found.schema p
      → IsFoundIn p found → (said ≡ seen.Reached → HasEarlier own.author p) → Hears own found left said (Ok later) → KnowsIn e later f p
  hears-known own found left said later own_of known is_found reached on =
      heard (λ (o : Outcome). IfOk o (λ m. KnowsIn e m f p)) own found left said (Ok later)
      (λ free on. makes-known own found later own_of known is_found on) (λ id rest other is few. (known, is_found)) reached on

  pub tries-known : (own : OwnView) (v : View) (later : Phase) → IsOwn v.schema own → KnowsOwn own e v.schema p → IsFoundIn p (found_in v)
      → Tries own v (Ok later) → KnowsIn e later f p
  tries-known own v later own_of known is_found on =
      tried (KnowsIn e later f p) own v (Ok later) (λ unasked on. makes-known own (found_in v) later own_of known is_found on)
      (λ asked on. hears-known own (found_in v) (older_ids v.listed.items) (seen_in own.author v.snapshot) later own_of known is_found
      (newest-earlier own.author v is_found) on) on

-- a view's snapshot was committed
pub view-within : (p : Past) (v : View) → IsViewIn p v → v.id ≤ count_of p.history
view-within p v (view_origin is) = let first = is.id in omega (arith, first)
view-within p v (view_snapshot x base delta entries live stood has leaves is) = let same = is.id in let high = stood.known.to in omega (arith, same, high)
