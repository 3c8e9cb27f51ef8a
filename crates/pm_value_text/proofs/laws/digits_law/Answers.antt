use Rattle.pm_value_text.proofs.HexLemmas.{IsUtf8-hex_text, bytes_in-hex_text, bytes_in-some, hex_text-digits, length-hex_text, text-bytes_in}
use Rattle.pm_value_text.proofs.laws.digits_law.Goals as goal

pub returns-clause-again : goal.returns-clause-again
returns-clause-again c = bytes_in-hex_text

pub returns-clause-one_text : goal.returns-clause-one_text
returns-clause-one_text c = text-bytes_in

pub returns-clause-bytes : goal.returns-clause-bytes
returns-clause-bytes c = bytes_in-some

pub returns-clause-length : goal.returns-clause-length
returns-clause-length c = length-hex_text

pub returns-clause-digits : goal.returns-clause-digits
returns-clause-digits c = hex_text-digits

pub returns-clause-utf8 : goal.returns-clause-utf8
returns-clause-utf8 c = IsUtf8-hex_text
