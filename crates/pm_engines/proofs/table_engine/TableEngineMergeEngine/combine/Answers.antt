use Rattle.std.proofs.Common.{rules}
use Rattle.pm_engines.proofs.table_engine.TableEngineMergeEngine.combine.Goals as goal

-- the engine that it is combines them
pub returns-in-Deduplicate : goal.returns-in-Deduplicate
returns-in-Deduplicate c = record {
  kind = λ before after. search (rules, c.combine.ensures.kind before after);
  combines = λ key before after. search (rules, c.combine.ensures.combines key before after);
}

pub returns-in-PartialUpdate : goal.returns-in-PartialUpdate
returns-in-PartialUpdate c = record {
  kind = λ before after. search (rules, c.combine-in-PartialUpdate.ensures.kind before after);
  combines = λ key before after. search (rules, c.combine-in-PartialUpdate.ensures.combines key before after);
}

pub returns-in-Aggregation : goal.returns-in-Aggregation
returns-in-Aggregation c = record {
  kind = λ before after. search (rules, c.combine-in-Aggregation.ensures.kind before after);
  combines = λ key before after. search (rules, c.combine-in-Aggregation.ensures.combines key before after);
}

pub returns-in-FirstRow : goal.returns-in-FirstRow
returns-in-FirstRow c = record {
  kind = λ before after. search (rules, c.combine-in-FirstRow.ensures.kind before after);
  combines = λ key before after. search (rules, c.combine-in-FirstRow.ensures.combines key before after);
}
