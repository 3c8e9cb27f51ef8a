use Rattle.std.proofs.Common.{◌≡◌, [], ℕ, Vec}
use Rattle.std.specs.Global.{Global}
use Rattle.pm_model_following.specs.Following.{frame_head}
use Rattle.pm_schema.specs.declared.schema.TableSchema.{TableSchema}
use Rattle.pm_merged_log.specs.Merged.{merged_frame}
use Rattle.pm_merged_log.proofs.MergeLemmas.{if_ok, no_frame}
use Rattle.pm_merged_log.proofs.merge.empty_frame.Goals as goal

pub returns : goal.returns
returns c =
    if_ok c.head_of.result (λ (text : Vec ℕ Global). text.items ≡ frame_head c.args.id) (λ (text : Vec ℕ Global). (s : TableSchema) → text.items ≡ merged_frame s c.args.id [])
    (λ text is s. no_frame c.by_key_law.ensures.only c.args.id s text.items is) c.head_of.ensures
