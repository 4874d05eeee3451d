-- Spans and passages as the rules' values. Definitions only.
use Rattle.std.specs.Prelude as Prelude
use Rattle.std.proofs.Math.Option.{Option}
use Rattle.rules.specs.OneBeam as OneBeam
use Rattle.types.specs.Answers.{found_of}
use Rattle.clip.specs.declared.slabs.Span.{Span}

abbrev pub span_of : Span → OneBeam.Span
span_of s = record { entry = s.entry; exit = s.exit }

-- nothing where a beam passes no slab
abbrev pub passage_of : Prelude.Option Span → Option OneBeam.Span
passage_of = found_of span_of
