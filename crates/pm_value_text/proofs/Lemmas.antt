-- What other crates' proofs use: the texts of bytes and of days, both ways.
pub use Rattle.pm_value_text.proofs.HexLemmas.{bytes_in-hex_text, bytes_in-some, IsUtf8-hex_text}
pub use Rattle.pm_value_text.proofs.DateLemmas.{day_in-date_text, text-day_in, IsUtf8-date_text}
