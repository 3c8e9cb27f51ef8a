-- The calls of a changelog's reader change nothing.
use Rattle.std.proofs.Common.{◌≡◌, ℕ, List, [], ◌∷◌, ◌++◌, Option, None, Some, IsSome, sym, subst}
use Rattle.pm_values.specs.declared.refusal.Refusal.{Refusal}
use Rattle.pm_values.specs.declared.refusal.Refusal.TheVariants as refusals
use Rattle.pm_machine.specs.Trace.{Event}
use Rattle.pm_snapshot.specs.declared.snapshot.Snapshot.{Snapshot}
use Rattle.pm_manifest.specs.declared.entry.Entry.{Entry}
use Rattle.pm_manifest.specs.declared.entry.ManifestMeta.{ManifestMeta}
use Rattle.pm_model_contents.specs.Lists.{manifest_path}
use Rattle.pm_model_folder.specs.Paths.{snapshot_path}
use Rattle.pm_read_schema.proofs.AllCallsLemmas.{read_still}
use Rattle.pm_read_schema.proofs.StillLemmas.{AreStill, ended_still, failed_still}
use Rattle.pm_read_table.specs.Trace.{read_file}
use Rattle.pm_read_table.proofs.StillLemmas.{manifests_still, still_join, still_more}
use Rattle.pm_read_log.specs.Log.{LogAskedView}
use Rattle.pm_read_log.specs.LogReader.{next_call}
use Rattle.pm_read_log.specs.LogTrace.{DidSoFar, FindsList, FindsNext, Has, HasLog, HasPart, IsDamaged, IsGone, LacksFile, MayTakeMemory, Misreads, Reads, ReadsAgain, Shows, bad_schema, bad_snapshot, gone_again, gone_first, has_other, is_absent, is_misread, lacks_list, lacks_manifest, misreads_list, misreads_manifest, of_list, without}
use Rattle.pm_read_log.specs.declared.log.Log.{Log}
use Rattle.pm_read_log.specs.declared.log_phase.LogPhase.{LogPhase}
use Rattle.pm_read_log.specs.declared.log_phase.LogPhase.TheVariants as phases
use Rattle.pm_read_log.proofs.LogFacts.{spares}

module _ (a : LogAskedView) where
  log_reads_still : (found : Option (List ℕ)) (own : List Event) → Reads a found own → AreStill own
  log_reads_still found own is = subst AreStill (sym is) (read_still (snapshot_path a.id), tt)

  log_has_still : (x : Snapshot) (own : List Event) → Has a x own → AreStill own
  log_has_still x own (bytes, reads, schema, is) = log_reads_still (Some bytes) own is

  log_list_still : (x : Snapshot) (list : List ℕ) (found : Option (List ℕ)) (own : List Event) → FindsList a x list found own → AreStill own
  log_list_still x list found own (earlier, (has, named), is) =
      still_more earlier own (read_file (manifest_path list) found) is (log_has_still x earlier has) (read_still (manifest_path list))

  log_part_still : (x : Snapshot) (done rest : List ManifestMeta) (changes : List Entry) (own : List Event) → HasPart a x done rest changes own → AreStill own
  log_part_still x done rest changes own part =
      subst AreStill (sym part.is)
      (still_join part.lists part.reads (log_list_still x part.list (Some part.bytes) part.lists part.found) (manifests_still a.schema done changes part.reads part.read))

  log_next_still : (x : Snapshot) (done : List ManifestMeta) (meta : ManifestMeta) (rest : List ManifestMeta) (changes : List Entry) (found : Option (List ℕ)) (own : List Event)
      → FindsNext a x done meta rest changes found own → AreStill own
  log_next_still x done meta rest changes found own (earlier, part, is) =
      still_more earlier own (read_file (manifest_path meta.name) found) is (log_part_still x done (meta ∷ rest) changes earlier part) (read_still (manifest_path meta.name))

  pub log_still : (l : Log) (own : List Event) → HasLog a l own → AreStill own
  log_still l own (without x none has view) = log_has_still x own has
  log_still l own (of_list x metas changes part view) = log_part_still x metas [] changes own part

  log_lacks_still : (path : List ℕ) (own : List Event) → LacksFile a path own → AreStill own
  log_lacks_still path own (lacks_list x list at finds) = log_list_still x list None own finds
  log_lacks_still path own (lacks_manifest x done meta rest changes at finds) = log_next_still x done meta rest changes None own finds

  log_again_still : (path : List ℕ) (found : Option (List ℕ)) (own : List Event) → ReadsAgain a path found own → AreStill own
  log_again_still path found own (earlier, lacks, is) =
      still_more earlier own (read_file (snapshot_path a.id) found) is (log_lacks_still path earlier lacks) (read_still (snapshot_path a.id))

  log_misreads_still : (refusal : Refusal) (own : List Event) → Misreads a refusal own → AreStill own
  log_misreads_still refusal own (misreads_list x list bytes fault finds) = log_list_still x list (Some bytes) own finds
  log_misreads_still refusal own (misreads_manifest x done meta rest changes bytes fault finds) = log_next_still x done meta rest changes (Some bytes) own finds

  log_gone_still : (own : List Event) → IsGone a own → AreStill own
  log_gone_still own (gone_first reads) = log_reads_still None own reads
  log_gone_still own (gone_again path again) = log_again_still path None own again

  log_damaged_still : (path : List ℕ) (place : ℕ) (own : List Event) → IsDamaged a path place own → AreStill own
  log_damaged_still path place own (bad_snapshot bytes at first bad reads) = log_reads_still (Some bytes) own reads
  log_damaged_still path place own (bad_schema x bytes at first is other reads) = log_reads_still (Some bytes) own reads
  log_damaged_still path place own (is_absent bytes first again) = log_again_still path (Some bytes) own again
  log_damaged_still path place own (is_misread misreads) = log_misreads_still (refusals.Damaged path place) own misreads
  log_damaged_still path place own (has_other x done meta rest changes entries bytes at first is other finds) = log_next_still x done meta rest changes (Some bytes) own finds

log_so_far_still : (a : LogAskedView) (m : LogPhase) (own : List Event) → IsSome (next_call m) → DidSoFar a m own → AreStill own
log_so_far_still a (phases.Snapshot b) own called (same, none) = subst AreStill (sym none) tt
log_so_far_still a (phases.List b x list) own called (same, (has, named)) = log_has_still b x own has
log_so_far_still a (phases.Manifests r) own called (same, part) = log_part_still r.asked r.snapshot r.done (r.next ∷ r.rest) r.changes own part
log_so_far_still a (phases.Again b path) own called (same, lacks) = log_lacks_still b path own lacks
log_so_far_still a (phases.Ready l) own called has = log_still a l own has
log_so_far_still a phases.Over own called did = absurd did

pub log_shows_still : (a : LogAskedView) (refusal : Refusal) (own : List Event) → Shows a refusal own → AreStill own
log_shows_still a refusals.Memory own ends = ended_still next_call (DidSoFar a) MayTakeMemory spares (log_so_far_still a) own ends
log_shows_still a (refusals.StoreFault path) own failed = failed_still next_call (DidSoFar a) MayTakeMemory spares (log_so_far_still a) path own failed
log_shows_still a (refusals.Expired id) own (same, gone) = log_gone_still a own gone
log_shows_still a (refusals.Damaged path place) own shows = log_damaged_still a path place own shows
log_shows_still a (refusals.Unsupported what text) own shows = log_misreads_still a (refusals.Unsupported what text) own shows
log_shows_still a other own shows = absurd shows
