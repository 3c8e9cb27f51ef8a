-- What options are written as is read as the same options.
use Rattle.std.proofs.Common.{◌≡◌, codes, None, Ok, lit<, refl, ap, ◌∙◌}
use Rattle.pm_base.specs.Outcome.{◌>>=◌}
use Rattle.pm_options.specs.Faults.{judged}
use Rattle.pm_options.specs.Fields.{by_name}
use Rattle.pm_options.specs.Options.{options_in}
use Rattle.pm_options.specs.Pairs.{pair_fault}
use Rattle.pm_options.specs.Reading.{options_of, setting_fault}
use Rattle.pm_options.specs.Stands.{Stands}
use Rattle.pm_options.specs.Written.{settings_of}
use Rattle.pm_options.specs.declared.options.Options.{Options}
use Rattle.pm_options.proofs.EntryLemmas.{all_by_name}
use Rattle.pm_options.proofs.FaultLemmas.{settings_taken}
use Rattle.pm_options.proofs.Judging.{none_all}
use Rattle.pm_options.proofs.LookupLemmas.{written}
use Rattle.pm_options.proofs.ListAgainLemmas.{delimiters_again, functions_again, groups_again, kept_again, retracts_again}
use Rattle.pm_options.proofs.TableAgainLemmas.{bucket_again, commits_again, engine_again, levels_again, number_again, producer_again, time_again, truth_again}

-- each option is read again
options_in-written : (o : Options) → Stands o → options_in (written o) ≡ o
options_in-written o is =
    let number = number_again o is in
    let truth = truth_again o is in
    let bucket = bucket_again o is in
    let engine = engine_again o is in
    let ignore_delete = truth (codes "ignore-delete") o.ignore_delete refl refl in
    let producer = producer_again o is in
    let row_deduplicate = truth (codes "changelog-producer.row-deduplicate") o.row_deduplicate refl refl in
    let delta_commits = commits_again o is in
    let trigger = number (codes "num-sorted-run.compaction-trigger") 1 100 5 o.trigger refl refl (lit< tt) is.trigger in
    let levels = levels_again o is in
    let key = codes "compaction.max-size-amplification-percent" in
    let amplification = number key 0 1000000 200 o.amplification refl refl (lit< tt) is.amplification in
    let ratio = number (codes "compaction.size-ratio") 0 1000000 1 o.ratio refl refl (lit< tt) is.ratio in
    let merge_min = number (codes "manifest.merge-min-count") 2 1000 30 o.merge_min refl refl (lit< tt) is.merge_min in
    let retained_millis = time_again o is in
    let key = codes "snapshot.num-retained.min" in
    let retained_min = number key 1 2147483647 10 o.retained_min refl refl (lit< tt) is.retained_min in
    let key = codes "snapshot.num-retained.max" in
    let retained_max = number key 1 2147483647 2147483647 o.retained_max refl refl (lit< tt) is.retained_max in
    λ i. record {
      bucket = bucket i;
      engine = engine i;
      ignore_delete = ignore_delete i;
      producer = producer i;
      row_deduplicate = row_deduplicate i;
      delta_commits = delta_commits i;
      trigger = trigger i;
      levels = levels i;
      amplification = amplification i;
      ratio = ratio i;
      merge_min = merge_min i;
      retained_millis = retained_millis i;
      retained_min = retained_min i;
      retained_max = retained_max i;
      functions = functions_again o is i;
      delimiters = delimiters_again o is i;
      ignore_retract = retracts_again o is i;
      groups = groups_again o is i;
      kept = kept_again o is i;
    }

-- the options are read again, without a fault
pub options_of-written : (o : Options) → Stands o → options_of (by_name (settings_of o)) ≡ Ok o
unfolding options_of
options_of-written o is =
    let s = written o in
    let each = all_by_name (λ t. setting_fault t ≡ None) (settings_of o) (settings_taken o is) in
    let taken = none_all setting_fault s each in
    ap (λ f. judged f >>= λ texts. judged (pair_fault (options_in s)) >>= λ pairs. Ok (options_in s)) taken
    ∙ ap (λ p. judged (pair_fault p) >>= λ pairs. Ok p) (options_in-written o is)
    ∙ ap (λ f. judged f >>= λ pairs. Ok o) is.pairs
