-- The reader's state without where its parts lie in memory. No public contract cites this.
use Rattle.std.specs.Prelude.{List, map, reverse, Option, option_map}
use Rattle.path_syntax.specs.declared.expr.Expr.{Expr}
use Rattle.path_syntax.specs.declared.state.Frame.{Frame}
use Rattle.path_syntax.specs.declared.state.ReaderMode.{ReaderMode}
use Rattle.path_syntax.specs.declared.state.ReaderMode.TheVariants as at
use Rattle.path_syntax.specs.declared.state.State.{State}
use Rattle.path_syntax.specs.declared.read.Reader.{Reader}
use Rattle.path_syntax.specs.Expression.{Expression, expression}
use Rattle.path_syntax.specs.Reading.{FrameValue, ModeValue, Operand, BareLabel, QuotedLabel}
use Rattle.path_syntax.specs.Reading.{Escape, Primary, Element, StateValue, state_with, ReaderValue}

abbrev pub before_of : Option Expr → Option Expression
before_of = option_map expression

abbrev pub frame_of : Frame → FrameValue
frame_of frame =
    record { alternatives = before_of frame.alternatives; sequence = before_of frame.sequence }

-- the innermost frame, which the code has last, first
abbrev pub frames_of : List Frame → List FrameValue
frames_of frames = map frame_of (reverse frames)

abbrev pub mode_of : ReaderMode → ModeValue
mode_of (at.Operand back) = Operand back
mode_of (at.BareLabel label) = BareLabel label.name.items label.back
mode_of (at.QuotedLabel label) = QuotedLabel label.name.items label.back
mode_of (at.Escape label) = Escape label.name.items label.back
mode_of (at.Primary e) = Primary (expression e)
mode_of (at.Element e) = Element (expression e)

abbrev pub state_of : State → StateValue
state_of state =
    state_with (frames_of state.outer.items) (frame_of state.frame) (mode_of state.mode)

abbrev pub reader_of : Reader → ReaderValue
reader_of reader =
    record {
      state = state_of reader.state;
      label_place = reader.label_place;
      signs = reader.signs;
      place = reader.place;
    }
