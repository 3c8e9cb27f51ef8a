-- Private: the pieces of a line.
use Rattle.std.specs.Prelude.{ℕ, List, ◌++◌, codes, decimal, flat_map}
use Rattle.std.specs.Fmt.{signed_decimal}
use Rattle.pm_report.specs.declared.reports.Piece.{Piece}
use Rattle.pm_report.specs.declared.reports.Piece.TheVariants.{Text, Bytes, Number, Signed, Numbers, Fault, Named}
use Rattle.pm_report.specs.Report.{spaced, why_text, named}

-- the bytes of a piece
abbrev pub piece_text : Piece → List ℕ
piece_text (Text text) = text.now
piece_text (Bytes bytes) = bytes.now
piece_text (Number n) = decimal n
piece_text (Signed n) = signed_decimal n
piece_text (Numbers ns) = spaced ns.now
piece_text (Fault why) = codes " " ++ why_text why
piece_text (Named name) = named name.now

-- the pieces one after the other
abbrev pub pieces_text : List Piece → List ℕ
pieces_text = flat_map piece_text
