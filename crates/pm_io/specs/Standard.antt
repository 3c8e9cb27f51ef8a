-- What contracts see of a source over a reader, and of a sink over a writer. The bytes are what the reader or the
-- writer tells of itself, by std's contracts, which don't oblige it to tell them at all, nor to go on telling them.
use Rattle.std.specs.Prelude.{ℕ, List, Option, None}
use Rattle.pm_io.specs.Source.{SourceView}
use Rattle.pm_io.specs.Sink.{SinkView}

-- the bytes that the reader has left, and how often the source has failed
pub record ReaderView : Type 0 where
  pub left : Option (List ℕ)
  pub faults : ℕ

-- the same as any source is seen: nothing is known of what is left
abbrev pub source_view : ReaderView → SourceView
source_view source = record { left = None; faults = source.faults }

-- the bytes that the writer has, and how often the sink has failed
pub record WriterView : Type 0 where
  pub has : Option (List ℕ)
  pub faults : ℕ

-- the same as any sink is seen: nothing is known of what it took
abbrev pub sink_view : WriterView → SinkView
sink_view sink = record { taken = None; faults = sink.faults }
