-- What each command answers, and what it does to what the store stands for.
use Rattle.std.specs.Prelude.{◌≡◌, ℕ, List, Bool, Option, None, Some}
use Rattle.pm_values.specs.declared.refusal.Refusal.{Refusal}
use Rattle.pm_io.specs.Sink.{SinkView}
use Rattle.pm_store.specs.Store.{StoreView}
use Rattle.pm_model_folder.specs.Changes.{Actor}
use Rattle.pm_command_create.specs.Create.{AnswersCreate, ActsCreate, CreatesTables}
use Rattle.pm_expire_end.specs.declared.keep.KeepAsked.{KeepAsked}
use Rattle.pm_command.specs.Outside.{Outside}
use Rattle.pm_command.specs.declared.start.Start.{Start}
use Rattle.pm_command_compact.specs.Compact.{Compacts, CompactsTables}
use Rattle.pm_command_consume.specs.Alone as consumes
use Rattle.pm_command_consume.specs.Beside.{ConsumesBeside}
use Rattle.pm_command_consume.specs.Consume.{consuming}
use Rattle.pm_command_consumers.specs.Consumers as consumers
use Rattle.pm_command_consumers.specs.Drop as drops
use Rattle.pm_command_expire.specs.Expire.{AnswersExpire, ExpiresTables}
use Rattle.pm_command_follow.specs.Follow.{Follows, FollowsTables}
use Rattle.pm_command_generate.specs.Generate.{Generates}
use Rattle.pm_command_generate.specs.declared.drawing.Drawing.{Drawing}
use Rattle.pm_command_scan.specs.Scan.{Scans, ScansTables}
use Rattle.pm_command_snapshots.specs.Snapshots.{ListsSnapshots, ListsTables}
use Rattle.pm_command_write.specs.Write.{AnswersWrite, ActsWrite, WritesTables, writer_of}
use Rattle.pm_words.specs.declared.command.Command.{Command}
use Rattle.pm_words.specs.declared.command.Command.TheVariants as commands

-- what `consumers` answers, where it lists consumers and where it drops one; and what it promises of histories
abbrev pub ListsOrDrops : Option (List ℕ) → Outside → Outside → Option Refusal → Type 0
ListsOrDrops None before after answer = consumers.ListsConsumers before after answer
ListsOrDrops (Some name) before after answer = drops.Drops name before after answer

abbrev pub ListsOrDropsTables : Option (List ℕ) → Outside → Outside → Option Refusal → Type 0
ListsOrDropsTables None before after answer = consumers.ListsTables before after answer
ListsOrDropsTables (Some name) before after answer = drops.DropsTables name before after answer

-- Private: its calls, what they do to histories, and what was printed
abbrev pub IsListedOrRemoved : Option (List ℕ) → SinkView → SinkView → StoreView → StoreView → Option Refusal → Type 0
IsListedOrRemoved None out out_after store store_after answer =
    consumers.IsListed out out_after store store_after answer
IsListedOrRemoved (Some name) out out_after store store_after answer =
    drops.IsRemoved name out out_after store store_after answer

-- What `follow` answers, without a consumer and with one: its calls then, and what they do whatever others do; and what
-- it promises of histories.
abbrev pub FollowsOrConsumes : Option ℕ → Option (List ℕ) → Bool → Outside → Outside → Option Refusal → Type 0
FollowsOrConsumes from None full before after answer = Follows from full before after answer
FollowsOrConsumes from (Some name) full before after answer =
    consumes.Consumes (consuming name from full) before after answer
    × ((me : Actor) → ConsumesBeside me (consuming name from full) before.out after.out before.store after.store answer)

abbrev pub FollowsOrConsumesTables : Option ℕ → Option (List ℕ) → Bool → Outside → Outside → Option Refusal → Type 0
FollowsOrConsumesTables from None full before after answer = FollowsTables from full before after answer
FollowsOrConsumesTables from (Some name) full before after answer =
    consumes.ConsumesTables (consuming name from full) before after answer

-- Private: what both ensure
abbrev pub IsFollowedOrConsumed : Option ℕ → Option (List ℕ) → Bool → Outside → Outside → Option Refusal → Type 0
IsFollowedOrConsumed from consumer full before after answer = FollowsOrConsumes from consumer full before after answer
    × FollowsOrConsumesTables from consumer full before after answer

-- what `expire` is asked to keep
abbrev pub keep_asked : Option ℕ → Option ℕ → Option ℕ → KeepAsked
keep_asked min max millis = record { min = min; max = max; millis = millis }

-- what `generate` is asked to draw
abbrev pub drawing : ℕ → ℕ → ℕ → Drawing
drawing batches rows seed = record { batches = batches; rows = rows; seed = seed }

-- a command that executes no others
abbrev pub IsSingle : Command → Type 0
IsSingle (commands.Generate batches rows seed) = ⊥
IsSingle other = Unit {0}

-- what a command answers to an input that is known
abbrev pub Answers : Command → Start → Outside → Outside → Option Refusal → Type 0
Answers commands.Create start before after answer =
    (bytes : List ℕ) → before.input.left ≡ Some bytes → AnswersCreate start bytes before after answer
Answers (commands.Scan snapshot) start before after answer =
    (after.input ≡ before.input) × Scans snapshot before after answer
Answers commands.Snapshots start before after answer =
    (after.input ≡ before.input) × ListsSnapshots before after answer
Answers (commands.Consumers dropped) start before after answer =
    (after.input ≡ before.input) × ListsOrDrops dropped before after answer
Answers (commands.Compact full) start before after answer =
    (after.input ≡ before.input) × Compacts start full before after answer
Answers (commands.Expire min max millis) start before after answer =
    (after.input ≡ before.input) × AnswersExpire start (keep_asked min max millis) before after answer
Answers (commands.Follow from consumer full) start before after answer =
    (after.input ≡ before.input) × FollowsOrConsumes from consumer full before after answer
Answers (commands.Generate batches rows seed) start before after answer = (after.input ≡ before.input)
    × Generates (drawing batches rows seed) start before.out after.out before.store after.store answer
Answers (commands.Write user identifier) start before after answer =
    (bytes : List ℕ) → before.input.left ≡ Some bytes
    → AnswersWrite start (writer_of user identifier) bytes before after answer

-- what it does, and why it refuses, whatever is known
abbrev pub Acts : Command → Start → Outside → Outside → Option Refusal → Type 0
Acts commands.Create start before after answer = ActsCreate start before after answer
Acts (commands.Scan snapshot) start before after answer = Scans snapshot before after answer
Acts commands.Snapshots start before after answer = ListsSnapshots before after answer
Acts (commands.Consumers dropped) start before after answer = ListsOrDrops dropped before after answer
Acts (commands.Compact full) start before after answer = Compacts start full before after answer
Acts (commands.Expire min max millis) start before after answer =
    AnswersExpire start (keep_asked min max millis) before after answer
Acts (commands.Follow from consumer full) start before after answer =
    FollowsOrConsumes from consumer full before after answer
Acts (commands.Generate batches rows seed) start before after answer =
    Generates (drawing batches rows seed) start before.out after.out before.store after.store answer
Acts (commands.Write user identifier) start before after answer =
    ActsWrite start (writer_of user identifier) before after answer

-- what it promises of histories; `generate` what each of the commands does that it executes
abbrev pub ServesHistories : Command → Start → Outside → Outside → Option Refusal → Type 0
ServesHistories commands.Create start before after answer = CreatesTables start before after answer
ServesHistories (commands.Scan snapshot) start before after answer = ScansTables snapshot before after answer
ServesHistories commands.Snapshots start before after answer = ListsTables before after answer
ServesHistories (commands.Consumers dropped) start before after answer =
    ListsOrDropsTables dropped before after answer
ServesHistories (commands.Compact full) start before after answer = CompactsTables start full before after answer
ServesHistories (commands.Expire min max millis) start before after answer =
    ExpiresTables start (keep_asked min max millis) before after answer
ServesHistories (commands.Follow from consumer full) start before after answer =
    FollowsOrConsumesTables from consumer full before after answer
ServesHistories (commands.Generate batches rows seed) start before after answer =
    Generates (drawing batches rows seed) start before.out after.out before.store after.store answer
ServesHistories (commands.Write user identifier) start before after answer =
    WritesTables start (writer_of user identifier) before after answer
