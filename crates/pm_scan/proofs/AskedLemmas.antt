-- The snapshot that calls read is the one that is asked for, and so is the one that a refusal names.
use Rattle.std.proofs.Common.{◌≡◌, inl, inr, ℕ, List, Option, None, Some, IfErr, Result, Ok, Err, Vec, sym, ap, ◌∙◌}
use Rattle.std.specs.Global.{Global}
use Rattle.pm_values.specs.declared.refusal.Refusal.{Refusal}
use Rattle.pm_values.specs.declared.refusal.Refusal.TheVariants as refusals
use Rattle.pm_store.specs.Store.{StoreView}
use Rattle.pm_machine.specs.Trace.{Event, HasTrace}
use Rattle.pm_schema.specs.declared.schema.TableSchema.{TableSchema}
use Rattle.pm_snapshot.specs.declared.snapshot.Snapshot.{Snapshot}
use Rattle.pm_manifest.specs.declared.entry.ManifestMeta.{ManifestMeta}
use Rattle.pm_read_table.specs.Asked.{Asked, asked_of}
use Rattle.pm_read_table.specs.Reader.{IsAbove}
use Rattle.pm_read_table.specs.Trace as reader
use Rattle.pm_read_table.specs.Trace.{FindsBase, FindsDelta, HasView, IsGone, LacksFile, Lists, Reads, gone_again, gone_origin, gone_snapshot, lacks_base, lacks_delta, lacks_manifest, of_origin, of_snapshot}
use Rattle.pm_read_table.specs.declared.view.View.{View}
use Rattle.pm_scan.specs.AllCalls.{Ends, NamesAsked, text_in}
use Rattle.pm_scan.specs.Asked.{AskedRows, asked_for, wanted_of}
use Rattle.pm_scan.specs.Trace.{Shows, ShowsOfFiles}
use Rattle.pm_scan.specs.declared.rows.Rows.{Rows}

-- the one that is asked for, if one is
abbrev IsTheAsked : Option ℕ → ℕ → Type 0
IsTheAsked at id = (asked : ℕ) → at ≡ Some asked → id ≡ asked

same_id : (id other : ℕ) → Some id ≡ Some other → id ≡ other
same_id id other is = cc

none_asked : (asked : ℕ) → ◌≡◌ {A = Option ℕ} None (Some asked) → ⊥
none_asked asked is = cc

moved : (at : Option ℕ) (id other : ℕ) → id ≡ other → IsTheAsked at other → IsTheAsked at id
moved at id other is asked = λ n at_is. is ∙ asked n at_is

module _ (k : Rows) (s : TableSchema) (at : Option ℕ) where
  abbrev a : Asked
  a = asked_of s (wanted_of at)

  abbrev b : AskedRows
  b = asked_for k s at

  listed : (o : Option ℕ) (id : ℕ) (own : List Event) → Lists (asked_of s (wanted_of o)) id own → IsTheAsked o id
  listed None id own lists = λ asked is. absurd (none_asked asked is)
  listed (Some wanted) id own (names, latest, newest, (same, within), is) = λ asked at_is. same ∙ same_id wanted asked at_is

  read : (id : ℕ) (path : List ℕ) (found : Option (List ℕ)) (own : List Event) → Reads a id path found own → IsTheAsked at id
  read id path found own (earlier, lists, is) = listed at id earlier lists

  of_base : (x : Snapshot) (found : Option (List ℕ)) (own : List Event) → FindsBase a x found own → IsTheAsked at x.id
  of_base x found own (earlier, (bytes, least, reads, schema, did), is) = read x.id _ (Some bytes) earlier did

  of_delta : (x : Snapshot) (base : List ManifestMeta) (found : Option (List ℕ)) (own : List Event) → FindsDelta a x base found own → IsTheAsked at x.id
  of_delta x base found own (earlier, (bytes, reads, finds), is) = of_base x (Some bytes) earlier finds

  lacked : (id : ℕ) (path : List ℕ) (own : List Event) → LacksFile a id path own → IsTheAsked at id
  lacked id path own (lacks_base x same path_is finds) = moved at id x.id same (of_base x None own finds)
  lacked id path own (lacks_delta x base same path_is finds) = moved at id x.id same (of_delta x base None own finds)
  lacked id path own (lacks_manifest x done meta rest es same path_is (earlier, part, is)) =
      let (bytes, reads, finds) = part.listed in
      moved at id x.id same (of_delta x part.base (Some bytes) part.lists finds)

  gone : (id : ℕ) (own : List Event) → IsGone a id own → IsTheAsked at id
  gone id own (gone_origin first reads) = moved at id 0 first (read 0 _ None own reads)
  gone id own (gone_snapshot least reads) = read id _ None own reads
  gone id own (gone_again path (earlier, lacks, is)) = lacked id path earlier lacks

  viewed : (v : View) (own : List Event) → HasView a v own → IsTheAsked at v.id
  viewed v own (of_origin bytes view reads) = moved at v.id 0 view.id (read 0 _ (Some bytes) own reads)
  viewed v own (of_snapshot x metas es live part left view) =
      let (bytes, reads, finds) = part.listed in
      moved at v.id x.id view.id (of_delta x part.base (Some bytes) part.lists finds)

  above : (o : Option ℕ) (latest id : ℕ) → IsAbove (wanted_of o) latest id → o ≡ Some id
  above None latest id over = absurd over
  above (Some wanted) latest id (is, over) = ap Some (sym is)

  by_reader : (e : Refusal) (own : List Event) → reader.Shows a e own → NamesAsked at e
  by_reader (refusals.NoSnapshot id latest) own (names, newest, over, is) = above at latest id over
  by_reader (refusals.Expired id) own shows = gone id own shows
  by_reader e own shows = tt

  by_files : (e : Refusal) (own : List Event) → ShowsOfFiles b e own → NamesAsked at e
  by_files (refusals.NoSnapshot id latest) own (v, after) = absurd after.so
  by_files (refusals.Expired id) own (v, after) =
      let (path, (earlier, lacks, is)) = after.so in
      moved at id v.id lacks.is_id (viewed v after.first after.viewed)
  by_files e own shows = tt

  pub shows_asked : (e : Refusal) (own : List Event) → Shows b e own → NamesAsked at e
  shows_asked e own (inl shows) = by_reader e own shows
  shows_asked e own (inr shows) = by_files e own shows

  pub names-asked : (made : Result (Vec ℕ Global) Refusal) (before after : StoreView) → HasTrace (Ends b (text_in made)) before after
      → IfErr made (NamesAsked at)
  names-asked (Ok text) before after trace = tt
  names-asked (Err e) before after (own, shows, trace) = shows_asked e own shows
