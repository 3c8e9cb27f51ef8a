use Rattle.std.proofs.Common.{◌≡◌, length, vec_len, arith, sym, ap, ◌∙◌}
use Rattle.pm_run.specs.Form.{form_of}
use Rattle.pm_run_writer.proofs.run_writer.file_of.Goals as goal

pub returns : goal.returns
returns c = λ s marker rows writer begun summary last.
    let many : vec_len c.in_ok-bytes.bytes ≡ length c.in_ok-bytes.bytes.items = omega (arith, c.in_ok-bytes.bytes.ok.0) in
    record {
      meta = c.in_ok-meta.ensures s rows c.new.result summary writer.id (c.len-size.ensures ∙ many ∙ ap length (sym c.new.ensures)) (sym last ∙ c.in_ok-max_key.ensures);
      bytes = rw c.new.ensures (c.in_ok-bytes.ensures (form_of s) marker rows begun);
      writable = begun.writable;
    }
