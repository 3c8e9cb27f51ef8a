use Rattle.std.proofs.Common.{◌≡◌, length, vec_len, map, arith, sym, ap, subst, ◌∙◌}
use Rattle.std.specs.List.{AllByRecursion}
use Rattle.pm_record.specs.File.{IsFileOf}
use Rattle.pm_run.specs.Form.{Form, form_of}
use Rattle.pm_run.specs.Kinds.{run_type}
use Rattle.pm_run.specs.Row.{row_data}
use Rattle.pm_run.specs.Typed.{IsWritable}
use Rattle.pm_run_writer.proofs.writer.FileWriter.write_file.Goals as goal

pub returns : goal.returns
returns c = λ s form id.
    let rows = c.args.rows.now in
    let file : IsFileOf (run_type (form_of s)) 1024 (map (row_data (form_of s)) rows) c.args.marker c.in_ok-bytes.bytes.items =
    subst (λ (f : Form). IsFileOf (run_type f) 1024 (map (row_data f) rows) c.args.marker c.in_ok-bytes.bytes.items) form c.in_ok-bytes.ensures.file in
    let many : vec_len c.in_ok-bytes.bytes ≡ length c.in_ok-bytes.bytes.items = omega (arith, c.in_ok-bytes.bytes.ok.0) in
    record {
      meta = c.in_ok-meta.ensures s c.new.result id (c.len.ensures ∙ many ∙ ap length (sym c.new.ensures));
      bytes = rw c.new.ensures file;
      writable = subst (λ (f : Form). AllByRecursion (IsWritable f) rows) form c.in_ok-bytes.ensures.writable;
    }
