use Rattle.std.proofs.Common.{◌≡◌, ◌<◌, ◌+◌, ◌^◌, length, arith}
use Rattle.pm_binrow.specs.Row.{tail, text_tail}
use Rattle.pm_binrow.proofs.Sizes.{text_tail-le}
use Rattle.pm_binrow.proofs.writing.push_slot.Goals as goal

pub push_text_slot-requires-clause-text : goal.push_text_slot-requires-clause-text
unfolding tail
push_text_slot-requires-clause-text c =
    let is : c.as_bytes.result.now ≡ c.in-Text.text = c.as_bytes.ensures.value in
    let fits : c.args.offset + length (text_tail c.in-Text.text) < 2 ^ 31 = rw c.in-Text.is at c.requires in
    rw is (omega (arith, fits, text_tail-le c.in-Text.text))

pub push_text_slot-requires-in-Bytes-clause-text :
    goal.push_text_slot-requires-in-Bytes-clause-text
unfolding tail
push_text_slot-requires-in-Bytes-clause-text c =
    let is : c.as_bytes-in-Bytes.result.now ≡ c.in-Bytes.bytes = c.as_bytes-in-Bytes.ensures in
    let fits : c.args.offset + length (text_tail c.in-Bytes.bytes) < 2 ^ 31 = rw c.in-Bytes.is at c.requires in
    rw is (omega (arith, fits, text_tail-le c.in-Bytes.bytes))
