-- What writing to a line does that is held before it goes out.
use Rattle.std.specs.Prelude.{◌≡◌, ℕ, ◌+◌, ◌≤◌, List, [], ◌++◌, length, Result, Ok, Err}
use Rattle.pm_io.specs.Sink.{SinkView, SinkFailed, SinkLater, TookAllBut, TookPrefix}
use Rattle.pm_io.specs.declared.line_buffer.TheConstants.{LINE_ROOM}

-- what is held of a line, and the sink that it goes to
pub record LineAt (W : Type 0) : Type 0 where
  pub held : List ℕ
  pub sink : W

abbrev pub line_at : {W : Type 0} → List ℕ → W → LineAt W
line_at held sink = record { held = held; sink = sink }

-- both together are short enough to be held
abbrev pub Fit : List ℕ → List ℕ → Type 0
Fit held text = length held + length text ≤ LINE_ROOM

-- A text was written after what was held. Where there was room for it it is held, and the sink is as it was; else a
-- prefix of both went out, and the rest is held.
pub record Wrote {W : Type 0} (seen : W → SinkView) (text : List ℕ) (before after : LineAt W) : Type 0 where
  pub all : TookAllBut after.held (seen before.sink).taken (seen after.sink).taken (before.held ++ text)
  pub kept : Fit before.held text → (after.held ≡ before.held ++ text) × (after.sink ≡ before.sink)
  pub later : SinkLater (seen before.sink) (seen after.sink)

-- There was no room for it, and the sink failed: a prefix of both went out, and nothing is held.
pub record Broke {W : Type 0} (seen : W → SinkView) (text : List ℕ) (before after : LineAt W) : Type 0 where
  pub prefix : TookPrefix (seen before.sink).taken (seen after.sink).taken (before.held ++ text)
  pub full : Fit before.held text → ⊥
  pub failed : SinkFailed (seen before.sink) (seen after.sink)
  pub later : SinkLater (seen before.sink) (seen after.sink)
  pub none : after.held ≡ []

-- what came of writing a text to a line
abbrev pub Writes : {W E : Type 0} → (W → SinkView) → List ℕ → LineAt W → LineAt W → Result (Unit {0}) E → Type 0
Writes seen text before after (Ok done) = Wrote seen text before after
Writes seen text before after (Err e) = Broke seen text before after
