use Rattle.pm_value_text.proofs.DateLemmas.{IsUtf8-date_text, date_text-characters, length-date_text}
use Rattle.pm_value_text.proofs.laws.date_characters_law.Goals as goal

pub returns-clause-length : goal.returns-clause-length
returns-clause-length c = length-date_text

pub returns-clause-characters : goal.returns-clause-characters
returns-clause-characters c = date_text-characters

pub returns-clause-utf8 : goal.returns-clause-utf8
returns-clause-utf8 c = IsUtf8-date_text
