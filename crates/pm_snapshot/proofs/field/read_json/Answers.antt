use Rattle.std.proofs.Common.{sym, ◌∙◌, true≢false}
use Rattle.pm_snapshot.proofs.ReadLemmas.{json_in-ok, json_in-err}
use Rattle.pm_snapshot.proofs.field.read_json.Goals as goal

pub returns-in-Ok : goal.returns-in-Ok
returns-in-Ok c = json_in-ok c.args.bytes.now _ c.in-Ok.ensures.ok.0 c.in-Ok.ensures.ok.1

pub returns-in-Err-2 : goal.returns-in-Err-2
returns-in-Err-2 c =
    json_in-err c.args.bytes.now (c.in-Err.ensures.err (λ memory. true≢false (sym (c.is_memory.ensures.1 memory)
    ∙ c.if-is_memory.false)))
