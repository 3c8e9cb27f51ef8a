use Rattle.std.proofs.Common.{◌≡◌, length, map, refl, sym, subst, arith}
use Rattle.std.specs.List.{AllByRecursion}
use Rattle.pm_schema.specs.declared.schema.TableSchema.{TableSchema}
use Rattle.pm_engine.specs.Covers.{row_of}
use Rattle.pm_engine.specs.OfSchema.{meaning_of}
use Rattle.pm_engines.specs.TableEngine.{schema_of}
use Rattle.pm_run.specs.Writing.{HasOwnKey}
use Rattle.pm_write.specs.Batch.{KeepsLog}
use Rattle.pm_write.specs.Held.{IsOwn}
use Rattle.pm_write.proofs.RunLemmas.{all_keyed, all_own, rows_reduced, some_stored, within_reduced}
use Rattle.pm_write.proofs.batch.held_rows.Goals as goal

pub log_of-requires : goal.log_of-requires
log_of-requires c = record {
  own = subst (λ (s : TableSchema). AllByRecursion (HasOwnKey s) c.args.rows) (sym c.schema.ensures) (all_own (schema_of c.args.engine.now) c.args.rows c.requires.taken);
}

pub returns-clause-rows : goal.returns-clause-rows
returns-clause-rows c =
    let s = schema_of c.args.engine.now in
    let rows = c.args.rows in
    let own : IsOwn s rows = c.requires in
    let run = c.in_ok-run.run' in
    let keyed = all_keyed s rows own.taken in
    let covers = c.in_ok-run.ensures.covers keyed in
    let count : c.len-count.result ≡ length rows = omega arith in
    record {
      group = refl;
      rows = rows_reduced s run rows c.in_ok-run.ensures.rising c.in_ok-run.ensures.numbers covers own.taken own.numbers own.some
          (c.stored_law.ensures.run (meaning_of s) run rows c.in_ok-run.ensures.rising keyed covers c.in_ok-run.ensures.kinds) c.len-count.result count c.in_ok-log.log
          (subst (λ (t : TableSchema). KeepsLog t.options.producer t (map row_of rows) c.in_ok-log.log) c.schema.ensures c.in_ok-log.ensures);
    }

pub returns-clause-held : goal.returns-clause-held
returns-clause-held c =
    let s = schema_of c.args.engine.now in
    let rows = c.args.rows in
    let own : IsOwn s rows = c.requires in
    let run = c.in_ok-run.run' in
    let covers = c.in_ok-run.ensures.covers (all_keyed s rows own.taken) in
    let count : c.len-count.result ≡ length rows = omega arith in
    record {
      some = some_stored s run rows c.in_ok-run.ensures.rising c.in_ok-run.ensures.numbers covers own.taken own.numbers own.some;
      rising = c.in_ok-run.ensures.rising;
      within = within_reduced s run rows c.in_ok-run.ensures.rising c.in_ok-run.ensures.numbers covers own.taken own.numbers own.some c.len-count.result count;
    }
