use Rattle.std.proofs.Common.{◌∙◌, ap, sym, inl, inr}
use Rattle.std.specs.Result.{result_ok}
use Rattle.pm_value_text.proofs.HexLemmas.{bytes_in-decode_of}
use Rattle.pm_value_text.proofs.hexadecimal.parse_hex.Goals as goal

pub returns-in-Ok : goal.returns-in-Ok
returns-in-Ok c = sym (bytes_in-decode_of c.args.text.now ∙ ap result_ok c.in-Ok.ensures.ok)

pub returns-in_default : goal.returns-in_default
returns-in_default c =
    elim c.in-Err.ensures.err [
      | inl memory ↦ absurd (c.in_default.not-OutOfMemory memory)
      | inr e ↦ sym (bytes_in-decode_of c.args.text.now ∙ ap result_ok e)
    ]
