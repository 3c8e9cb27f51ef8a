-- What `generate` does: other commands one after another, each by an actor of its own, and what it prints of the last.
use Rattle.std.specs.Prelude.{◌≡◌, ◌⊎◌, ℕ, zero, suc, ◌*◌, ◌%◌, ◌≤◌, ◌==◌, List, [], ◌∷◌, ◌++◌, length, codes, decimal}
use Rattle.std.specs.Prelude.{Option, None, Some, Result, Ok, Err, if◌then◌else◌, false}
use Rattle.std.specs.Fmt.{signed_decimal}
use Rattle.pm_base.specs.Newline.{line}
use Rattle.pm_values.specs.declared.refusal.Refusal.{Refusal}
use Rattle.pm_values.specs.declared.refusal.Refusal.TheVariants as refusals
use Rattle.pm_draws.specs.Draws.{drawn_text, last_draw}
use Rattle.pm_draws.specs.Shown.{shown_numbers, sum_of}
use Rattle.pm_snapshot.specs.Names.{greatest}
use Rattle.pm_store.specs.Store.{StoreView}
use Rattle.pm_words.specs.declared.command.Command.{Command}
use Rattle.pm_words.specs.declared.command.Command.TheVariants as commands
use Rattle.pm_io.specs.Memory.{Taking}
use Rattle.pm_io.specs.Sink.{SinkView}
use Rattle.pm_command.specs.Outside.{Outside, Prints}
use Rattle.pm_command.specs.declared.start.Start.{Start}
use Rattle.pm_command_compact.specs.Compact.{Compacts, CompactsTables}
use Rattle.pm_command_create.specs.Create.{ActsCreate, AnswersCreate, CreatesTables}
use Rattle.pm_command_scan.specs.Scan.{Scans, ScansTables}
use Rattle.pm_command_write.specs.Write.{ActsWrite, AnswersWrite, WritesTables, writer_of}
use Rattle.pm_command_generate.specs.declared.drawing.Drawing.{Drawing}
use Rattle.pm_command_generate.specs.declared.turn.Turn.{Turn}

-- ---- which commands

-- the draft of the table: a key, a number, and four buckets
abbrev pub draft : List ℕ
draft = codes "{\"fields\":[{\"name\":\"id\",\"type\":\"BIGINT NOT NULL\"},{\"name\":\"v\",\"type\":\"BIGINT\"}],"
    ++ codes "\"primaryKeys\":[\"id\"],\"options\":{\"bucket\":\"4\"}}"

-- a command with its input
abbrev pub Asked : Type 0
Asked = Command × List ℕ

-- a compaction behind each fifth batch
abbrev pub compactions_after : ℕ → List Asked
compactions_after count = if count % 5 == 0 then (commands.Compact false, []) ∷ [] else []

-- so many batches that are left, behind so many others, of so many rows each, which are drawn after this number; and
-- the compactions between them
abbrev pub batches_after : ℕ → ℕ → ℕ → ℕ → List Asked
batches_after rows last done zero = []
batches_after rows last done (suc left) = (commands.Write None None, drawn_text last rows)
    ∷ (compactions_after (suc done) ++ batches_after rows (last_draw last rows) (suc done) left)

-- all commands, in turn
abbrev pub commands_of : Drawing → List Asked
commands_of d = (commands.Create, draft) ∷ (batches_after d.rows d.seed 0 d.batches ++ (commands.Scan None, []) ∷ [])

-- ---- how they are executed

-- a command that was executed: what it was given, who executed it, what was outside before and after, and why it was
-- refused, if it was
pub record Inner : Type 0 where
  pub command : Command
  pub input : List ℕ
  pub start : Start
  pub before : Outside
  pub after : Outside
  pub refusal : Option Refusal

-- what its own clauses say of it: what it did with this input, what it does with any, and what it promises of histories
abbrev pub IsExecuted : Command → List ℕ → Start → Outside → Outside → Option Refusal → Type 0
IsExecuted commands.Create bytes start before after answer = AnswersCreate start bytes before after answer
    × ActsCreate start before after answer × CreatesTables start before after answer
IsExecuted (commands.Write user number) bytes start before after answer =
    AnswersWrite start (writer_of user number) bytes before after answer
    × ActsWrite start (writer_of user number) before after answer
    × WritesTables start (writer_of user number) before after answer
IsExecuted (commands.Compact full) bytes start before after answer =
    Compacts start full before after answer × CompactsTables start full before after answer
IsExecuted (commands.Scan at) bytes start before after answer =
    Scans at before after answer × ScansTables at before after answer
IsExecuted other bytes start before after answer = ⊥

-- the actor of this number in the session, at the same moment
abbrev pub numbered : Start → ℕ → Start
numbered start number = record start { number = number }

-- It is the command that is asked for, of this actor, on this store, with its input, and with a sink that took nothing.
pub record IsOf (own : Start) (asked : Asked) (store : StoreView) (x : Inner) : Type 0 where
  pub command : x.command ≡ asked.0
  pub input : x.input ≡ asked.1
  pub start : x.start ≡ own
  pub found : x.before.store ≡ store
  pub given : x.before.input.left ≡ Some asked.1
  pub out : x.before.out.taken ≡ Some []
  pub executed : IsExecuted x.command x.input x.start x.before x.after x.refusal

-- and the actor is the one of this number
abbrev pub IsNext : Start → ℕ → Asked → StoreView → Inner → Type 0
IsNext start number asked store x = IsOf (numbered start number) asked store x

-- What stands for the refusal of one of them: a source or a sink of its own fails for want of memory alone.
abbrev pub told : Refusal → Refusal
told (refusals.SinkFault snapshot) = refusals.Memory
told refusals.SourceFault = refusals.Memory
told other = other

-- Commands were executed on a store in turn, the first by the actor of this number: all of them; or up to one that was
-- refused; or up to where memory ran out between two.
pub data AreExecuted (start : Start)
    : List Asked → ℕ → StoreView → List Inner → StoreView → Option Refusal → Type 0 where
  all : (number : ℕ) (store : StoreView) → AreExecuted start [] number store [] store None
  out_of_memory : (asked : List Asked) (number : ℕ) (store : StoreView)
      → AreExecuted start asked number store [] store (Some refusals.Memory)
  refused : (asked : Asked) (more : List Asked) (number : ℕ) (store : StoreView) (x : Inner) (e : Refusal)
      → IsNext start number asked store x → x.refusal ≡ Some e
      → AreExecuted start (asked ∷ more) number store (x ∷ []) x.after.store (Some (told e))
  goes_on : (asked : Asked) (more : List Asked) (number : ℕ) (store : StoreView) (x : Inner) (xs : List Inner)
      (last : StoreView) (answer : Option Refusal) → IsNext start number asked store x → x.refusal ≡ None
      → AreExecuted start more (suc number) x.after.store xs last answer
      → AreExecuted start (asked ∷ more) number store (x ∷ xs) last answer

-- ---- what is printed

-- what a commit prints
abbrev pub committed : ℕ → List ℕ
committed id = line (codes "snapshot " ++ decimal id)

-- the snapshot that is known as the last one, once a command printed this text
abbrev pub TellsLast : Option (List ℕ) → Option ℕ → Option ℕ → Type 0
TellsLast text old new = ((id : ℕ) × (id ≤ greatest) × (text ≡ Some (committed id)) × (new ≡ Some id))
    ⊎ (((id : ℕ) → id ≤ greatest → text ≡ Some (committed id) → ⊥) × (new ≡ old))

-- and once these were executed
abbrev pub TellLast : List Inner → Option ℕ → Option ℕ → Type 0
TellLast [] old new = new ≡ old
TellLast (x ∷ xs) old new = (middle : Option ℕ) × TellsLast x.after.out.taken old middle × TellLast xs middle new

-- what the last of them printed
abbrev pub last_text : List Inner → Option (List ℕ)
last_text [] = None
last_text (x ∷ []) = x.after.out.taken
last_text (x ∷ y ∷ xs) = last_text (y ∷ xs)

-- the line: how many batches and rows, how many rows the scan shows, and the sum of their numbers
abbrev pub summary : Drawing → List ℕ → List ℕ
summary d text = line (codes "generated " ++ (decimal d.batches ++ (codes " rows " ++ (decimal (d.batches * d.rows)
    ++ (codes " shown " ++ (decimal (length (shown_numbers text))
    ++ (codes " sum " ++ signed_decimal (sum_of (shown_numbers text)))))))))

-- After all of them the line is printed, of what the scan printed; and a fault of the sink names the last snapshot.
-- Else nothing is printed, and the answer is what stands for the refusal.
abbrev pub SaysLine : Drawing → List Inner → SinkView → SinkView → Option Refusal → Option Refusal → Type 0
SaysLine d xs before after None answer = (text : List ℕ) × (last : Option ℕ) × (last_text xs ≡ Some text)
    × TellLast xs None last
    × (Prints (summary d text) last None before after answer ⊎ ((answer ≡ Some refusals.Memory) × (after ≡ before)))
SaysLine d xs before after (Some e) answer = (answer ≡ Some e) × (after ≡ before)

-- what `generate` does
abbrev pub Generates : Drawing → Start → SinkView → SinkView → StoreView → StoreView → Option Refusal → Type 0
Generates d start out out_after store store_after answer = (xs : List Inner) × (made : Option Refusal)
    × AreExecuted start (commands_of d) 0 store xs store_after made × SaysLine d xs out out_after made answer

-- ---- how far they are

-- Private: the first of the commands were executed with success, and those are left
pub data HaveGone (start : Start) (asked : List Asked) (number : ℕ) (store : StoreView)
    : List Inner → List Asked → ℕ → StoreView → Type 0 where
  none_yet : HaveGone start asked number store [] asked number store
  one_more : (xs : List Inner) (x : Inner) (next : Asked) (left : List Asked) (n : ℕ) (middle : StoreView)
      → HaveGone start asked number store xs (next ∷ left) n middle → IsNext start n next middle x → x.refusal ≡ None
      → HaveGone start asked number store (xs ++ x ∷ []) left (suc n) x.after.store

-- Private: of the commands these are left, and what is known of the next actor and the last snapshot is so; or one was
-- refused
abbrev pub Goes : Start → List Asked → List Asked → Turn → Turn → StoreView → StoreView → Option Refusal → Type 0
Goes start asked left turn turn_after store store_after None = (xs : List Inner)
    × HaveGone start asked turn.number store xs left turn_after.number store_after
    × TellLast xs turn.last turn_after.last
Goes start asked left turn turn_after store store_after (Some e) =
    (xs : List Inner) × AreExecuted start asked turn.number store xs store_after (Some e)

-- Private: a command that is asked for was executed by an actor, and printed this
pub record IsRun (own : Start) (asked : Asked) (store store_after : StoreView) (taken : List ℕ)
    (answer : Option Refusal) : Type 0 where
  pub inner : Inner
  pub is : IsOf own asked store inner
  pub left : inner.after.store ≡ store_after
  pub printed : inner.after.out.taken ≡ Some taken
  pub refusal : inner.refusal ≡ answer

-- Private: after a command that printed this the next actor has its turn; or it was refused
abbrev pub Finishes : List ℕ → Turn → Turn → Option Refusal → Option Refusal → Type 0
Finishes taken turn turn_after None answer = (answer ≡ None) × (turn_after.number ≡ suc turn.number)
    × TellsLast (Some taken) turn.last turn_after.last
Finishes taken turn turn_after (Some e) answer = answer ≡ Some (told e)

-- Private: the scan, which printed all of this; or it was refused, or not begun
abbrev pub GoesLast : Start → Turn → Turn → StoreView → StoreView → Result (List ℕ) Refusal → Type 0
GoesLast start turn turn_after store store_after (Ok text) =
    IsRun (numbered start turn.number) (commands.Scan None, []) store store_after text None
    × TellsLast (Some text) turn.last turn_after.last
GoesLast start turn turn_after store store_after (Err e) = (xs : List Inner)
    × AreExecuted start ((commands.Scan None, []) ∷ []) turn.number store xs store_after (Some e)

-- Private: what a sink took, or why there is none
abbrev pub taken_in : Result Taking Refusal → Result (List ℕ) Refusal
taken_in (Ok out) = Ok out.taken
taken_in (Err e) = Err e
