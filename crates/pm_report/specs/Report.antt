-- The line of a refusal, and the exit status. Texts are lists of their bytes; numbers are in decimal.
use Rattle.std.specs.Prelude.{ℕ, List, [], ◌∷◌, ◌++◌, Option, None, Some, codes, decimal, flat_map}
use Rattle.std.specs.Fmt.{signed_decimal}
use Rattle.pm_base.specs.Newline.{line}
use Rattle.pm_values.specs.declared.refusal.Why.{Why}
use Rattle.pm_values.specs.declared.refusal.Why.TheVariants.{Json, Array, Kind, Count, Null, «Type», Range}
use Rattle.pm_values.specs.declared.refusal.Why.TheVariants.{Draft, Script}
use Rattle.pm_values.specs.declared.refusal.Refusal.{Refusal}
use Rattle.pm_values.specs.declared.refusal.Refusal.TheVariants.{Memory, Words, SourceFault, SinkFault, StoreFault}
use Rattle.pm_values.specs.declared.refusal.Refusal.TheVariants.{BadLine, Retraction, TableExists, NoTable, Unsupported}
use Rattle.pm_values.specs.declared.refusal.Refusal.TheVariants.{Damaged, NoSnapshot, Expired, Contended, CompactTaken}
use Rattle.pm_values.specs.declared.refusal.Refusal.TheVariants.{Fenced, BelowFloor, ConsumerMoved, NoChangelog}
use Rattle.pm_values.specs.declared.refusal.Refusal.TheVariants.{SessionUsed, Limit, SchemaRule}
use Rattle.pm_report.specs.Escaping.{escaped}

-- the number of a refusal, which is the exit status
abbrev pub code_of : Refusal → ℕ
code_of Memory = 1
code_of (Words command) = 2
code_of SourceFault = 3
code_of (SinkFault snapshot) = 4
code_of (StoreFault path) = 5
code_of (BadLine line why column) = 6
code_of (Retraction line column) = 7
code_of TableExists = 8
code_of NoTable = 9
code_of (Unsupported what text) = 10
code_of (Damaged path place) = 11
code_of (NoSnapshot id latest) = 12
code_of (Expired id) = 13
code_of (Contended ids) = 14
code_of (CompactTaken file) = 15
code_of (Fenced base fence) = 16
code_of (BelowFloor next floor) = 17
code_of (ConsumerMoved found) = 18
code_of NoChangelog = 19
code_of (SessionUsed path) = 20
code_of (Limit which number) = 21
code_of (SchemaRule rule) = 22

-- the word for what is wrong with a line
abbrev pub why_text : Why → List ℕ
why_text Json = codes "json"
why_text Array = codes "array"
why_text Kind = codes "kind"
why_text Count = codes "count"
why_text Null = codes "null"
why_text «Type» = codes "type"
why_text Range = codes "range"
why_text Draft = codes "draft"
why_text Script = codes "script"

-- a name after a blank, or nothing where there is no name
abbrev pub named : List ℕ → List ℕ
named [] = []
named (b ∷ name) = codes " " ++ b ∷ name

-- a number after a blank
abbrev pub blank_number : ℕ → List ℕ
blank_number n = codes " " ++ decimal n

-- each of the numbers after a blank
abbrev pub spaced : List ℕ → List ℕ
spaced = flat_map blank_number

-- what is said of a sink that failed, after the commit of a snapshot where there is one
abbrev pub sink_message : Option ℕ → List ℕ
sink_message None = codes "sink"
sink_message (Some id) = codes "sink snapshot " ++ decimal id

-- what is said of the file of a consumer: the bytes that were found
abbrev pub consumer_message : Option (List ℕ) → List ℕ
consumer_message None = codes "consumer absent"
consumer_message (Some found) = codes "consumer " ++ found

-- what a refusal says after its number
abbrev pub message_of : Refusal → List ℕ
message_of Memory = codes "memory"
message_of (Words command) = codes "words " ++ command
message_of SourceFault = codes "source"
message_of (SinkFault snapshot) = sink_message snapshot
message_of (StoreFault path) = codes "store " ++ path
message_of (BadLine line why column) = codes "line " ++ decimal line ++ codes " " ++ why_text why ++ named column
message_of (Retraction line column) = codes "retraction line " ++ decimal line ++ codes " column " ++ column
message_of TableExists = codes "table exists"
message_of NoTable = codes "no table"
message_of (Unsupported what text) = codes "unsupported " ++ what ++ codes " " ++ text
message_of (Damaged path place) = codes "damaged " ++ path ++ codes " " ++ decimal place
message_of (NoSnapshot id latest) = codes "snapshot " ++ decimal id ++ codes " latest " ++ decimal latest
message_of (Expired id) = codes "expired " ++ decimal id
message_of (Contended ids) = codes "contended" ++ spaced ids
message_of (CompactTaken file) = codes "taken " ++ file
message_of (Fenced base fence) = codes "fenced base " ++ decimal base ++ codes " fence " ++ signed_decimal fence
message_of (BelowFloor next floor) = codes "below floor next " ++ decimal next ++ codes " floor " ++ decimal floor
message_of (ConsumerMoved found) = consumer_message found
message_of NoChangelog = codes "no changelog none"
message_of (SessionUsed path) = codes "session used " ++ path
message_of (Limit which number) = codes "limit " ++ which ++ codes " " ++ decimal number
message_of (SchemaRule rule) = codes "schema rule " ++ decimal rule

-- the text of a refusal: its number after an E, a blank, what it says
abbrev pub refusal_text : Refusal → List ℕ
refusal_text refusal = codes "E" ++ decimal (code_of refusal) ++ codes " " ++ message_of refusal

-- the line that is printed, with its newline
abbrev pub report_text : Refusal → List ℕ
report_text refusal = line (escaped (refusal_text refusal))
