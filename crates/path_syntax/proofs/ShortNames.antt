-- Names that the reader has gone through stand in the expression at the end.
use Rattle.std.proofs.Common.{◌≡◌, ℕ, Bool, ◌≤◌, List, [], ◌∷◌, ◌++◌, length, Option, Some, None, option_map, refl, sym, ◌∙◌, ap, subst, arith}
use Rattle.std.proofs.lemmas.List.{length_push}
use Rattle.std.proofs.lemmas.Option.{option_and_then_some}
use Rattle.path_syntax.specs.Expression.{Expression, Atom}
use Rattle.path_syntax.specs.Grammar.{label_with, IsAlternative}
use Rattle.path_syntax.specs.Faults.{HasLongName}
use Rattle.path_syntax.specs.GrammarLaws.{HasShortNames}
use Rattle.path_syntax.specs.Reading.{FrameValue, ModeValue, Operand, BareLabel, QuotedLabel, Escape, Primary, Element, StateValue, state_with, initial, in_sequence, in_alternatives, whole_with, step, element_of, whole_in, name_length}
use Rattle.path_syntax.proofs.Steps.{Leads, OperandBlank, OperandOpen, OperandCaret, OperandQuote, OperandBare, BareMore, QuotedMore, QuotedBackslash, QuotedEnd, EscapeQuote, EscapeBackslash, PrimaryBlank, PrimaryStar, PrimaryPlus, PrimaryOpt, ElementBlank, ElementSlash, ElementBar, ElementClose, step_leads, run, run_from}
use Rattle.path_syntax.proofs.Completeness.{primary_ends, complete}
use Rattle.path_syntax.proofs.Fronts.{takes_operand_there}
use Rattle.path_syntax.proofs.Limits.{begins_run}

abbrev ShortOption : Option Expression → Type 0
ShortOption None = Unit {0}
ShortOption (Some e) = HasShortNames e

record ShortFrame (frame : FrameValue) : Type 0 where
  alternatives : ShortOption frame.alternatives
  sequence : ShortOption frame.sequence

abbrev ShortFrames : List FrameValue → Type 0
ShortFrames [] = Unit {0}
ShortFrames (frame ∷ outer) = ShortFrame frame × ShortFrames outer

abbrev ShortMode : ModeValue → Type 0
ShortMode (Operand back) = Unit {0}
ShortMode (BareLabel name back) = length name ≤ 255
ShortMode (QuotedLabel name back) = length name ≤ 255
ShortMode (Escape name back) = length name ≤ 255
ShortMode (Primary e) = HasShortNames e
ShortMode (Element e) = HasShortNames e

record ShortState (outer : List FrameValue) (frame : FrameValue) (mode : ModeValue) : Type 0 where
  outside : ShortFrames outer
  inside : ShortFrame frame
  last : ShortMode mode

short_mode : (mode : ModeValue) → ShortMode mode → name_length mode ≤ 255
short_mode (Operand back) s = omega arith
short_mode (BareLabel name back) s = s
short_mode (QuotedLabel name back) s = s
short_mode (Escape name back) s = s
short_mode (Primary e) s = omega arith
short_mode (Element e) s = omega arith

of_element : (mode : ModeValue) (e : Expression) → element_of mode ≡ Some e → HasShortNames e → ShortMode mode
of_element (Operand back) e ends s = tt
of_element (BareLabel name back) e ends s = let same : e ≡ Atom (label_with name back) = cc in subst HasShortNames same s
of_element (QuotedLabel name back) e ends s = absurd cc
of_element (Escape name back) e ends s = absurd cc
of_element (Primary f) e ends s = let same : e ≡ f = cc in subst HasShortNames same s
of_element (Element f) e ends s = let same : e ≡ f = cc in subst HasShortNames same s

before_slash : (before : Option Expression) (e : Expression) → HasShortNames (in_sequence before e) → ShortOption before × HasShortNames e
before_slash None e s = (tt, s)
before_slash (Some f) e s = s

before_bar : (before : Option Expression) (e : Expression) → HasShortNames (in_alternatives before e) → ShortOption before × HasShortNames e
before_bar None e s = (tt, s)
before_bar (Some f) e s = s

record ShortWhole (frame : FrameValue) (e : Expression) : Type 0 where
  inside : ShortFrame frame
  last : HasShortNames e

of_whole : (frame : FrameValue) (e : Expression) → HasShortNames (whole_with frame e) → ShortWhole frame e
of_whole frame e s =
    let bars = before_bar frame.alternatives (in_sequence frame.sequence e) s in
    let slashes = before_slash frame.sequence e bars.1 in
    record { inside = record { alternatives = bars.0; sequence = slashes.0 }; last = slashes.1 }

-- a name that is short with one more byte is short
less : (name : List ℕ) (byte : ℕ) → length (name ++ byte ∷ []) ≤ 255 → length name ≤ 255
less name byte s = omega (arith, length_push name byte)

-- what is short after a step was short before it
short_before : {inverses : Bool} {outer : List FrameValue} {frame : FrameValue} {mode : ModeValue} {byte : ℕ} {after : StateValue} → Leads inverses outer frame mode byte after →
    ShortState after.outer after.frame after.mode → ShortState outer frame mode
short_before (OperandBlank outer frame back byte blank) s = s
short_before (OperandOpen outer frame) s = record { outside = s.outside.1; inside = s.outside.0; last = tt }
short_before (OperandCaret outer frame taken) s = record { outside = s.outside; inside = s.inside; last = tt }
short_before (OperandQuote outer frame back) s = record { outside = s.outside; inside = s.inside; last = tt }
short_before (OperandBare outer frame back byte bare) s = record { outside = s.outside; inside = s.inside; last = tt }
short_before (BareMore outer frame name back byte bare) s = record { outside = s.outside; inside = s.inside; last = less name byte s.last }
short_before (QuotedMore outer frame name back byte named quote backslash) s = record { outside = s.outside; inside = s.inside; last = less name byte s.last }
short_before (QuotedBackslash outer frame name back) s = record { outside = s.outside; inside = s.inside; last = s.last }
short_before (QuotedEnd outer frame first name back) s = record { outside = s.outside; inside = s.inside; last = s.last }
short_before (EscapeQuote outer frame name back) s = record { outside = s.outside; inside = s.inside; last = less name 34 s.last }
short_before (EscapeBackslash outer frame name back) s = record { outside = s.outside; inside = s.inside; last = less name 92 s.last }
short_before (PrimaryBlank outer frame mode e byte is blank) s =
    record { outside = s.outside; inside = s.inside; last = of_element mode e (primary_ends mode e is) s.last }
short_before (PrimaryStar outer frame mode e is) s =
    record { outside = s.outside; inside = s.inside; last = of_element mode e (primary_ends mode e is) s.last }
short_before (PrimaryPlus outer frame mode e is) s =
    record { outside = s.outside; inside = s.inside; last = of_element mode e (primary_ends mode e is) s.last }
short_before (PrimaryOpt outer frame mode e is) s =
    record { outside = s.outside; inside = s.inside; last = of_element mode e (primary_ends mode e is) s.last }
short_before (ElementBlank outer frame e byte blank) s = s
short_before (ElementSlash outer frame mode e ends) s =
    let parts = before_slash frame.sequence e s.inside.sequence in
    record {
      outside = s.outside;
      inside = record { alternatives = s.inside.alternatives; sequence = parts.0 };
      last = of_element mode e ends parts.1;
    }
short_before (ElementBar outer frame mode e ends) s =
    let parts = of_whole frame e s.inside.alternatives in
    record { outside = s.outside; inside = parts.inside; last = of_element mode e ends parts.last }
short_before (ElementClose other outer frame mode e ends) s =
    let parts = of_whole frame e s.last in
    record { outside = (s.inside, s.outside); inside = parts.inside; last = of_element mode e ends parts.last }

back_run : (inverses : Bool) (bytes : List ℕ) (state after : StateValue) → run inverses bytes state ≡ Some after → ShortState after.outer after.frame after.mode →
    ShortState state.outer state.frame state.mode
back_run inverses [] state after e s = let same : after ≡ state = cc in subst (λ t. ShortState t.outer t.frame t.mode) same s
back_run inverses (byte ∷ bytes) state after e s =
    option_and_then_some {P = ShortState state.outer state.frame state.mode} (run inverses bytes) (step inverses state byte) after e (λ middle first rest.
    short_before (step_leads inverses state byte middle first) (back_run inverses bytes middle after rest s))

at_whole : (outer : List FrameValue) (frame : FrameValue) (mode : ModeValue) (e : Expression) → whole_in outer frame mode ≡ Some e → HasShortNames e →
    ShortState outer frame mode
at_whole (other ∷ outer) frame mode e whole s = absurd cc
at_whole [] frame mode e whole s = by (element_of mode) refl whole
  where
    by : (last : Option Expression) → element_of mode ≡ last → option_map (whole_with frame) last ≡ Some e → ShortState [] frame mode
    by None ends whole = absurd cc
    by (Some f) ends whole =
        let same : e ≡ whole_with frame f = cc in
        let parts = of_whole frame f (subst HasShortNames same s) in
        record { outside = tt; inside = parts.inside; last = of_element mode f ends parts.last }

pub short_names : (inverses : Bool) (bytes : List ℕ) (e : Expression) → IsAlternative inverses bytes e → HasShortNames e → (at : ℕ) → HasLongName inverses bytes at → ⊥
short_names inverses bytes e text short at h =
    let r = complete inverses bytes e text in
    let t = takes_operand_there inverses h.before h.stands in
    let l = begins_run inverses h.begins t.back t.outer t.frame in
    let there : run inverses (h.before ++ h.label) initial ≡ Some (state_with t.outer t.frame l.mode) = run_from inverses h.before h.label initial _ t.ran ∙ l.ran in
    let whole : run inverses (h.before ++ h.label ++ h.after) initial ≡ Some r.state = ap (λ b. run inverses b initial) (sym h.split) ∙ r.ran in
    let rest : run inverses h.after (state_with t.outer t.frame l.mode) ≡ Some r.state = sym (run_from inverses (h.before ++ h.label) h.after initial _ there) ∙ whole in
    let s = back_run inverses h.after (state_with t.outer t.frame l.mode) r.state rest (at_whole r.state.outer r.state.frame r.state.mode e r.whole short) in
    let bound : name_length l.mode ≤ 255 = short_mode l.mode s.last in
    let size : name_length l.mode ≡ length h.name = l.size in
    let long : length h.name ≡ 256 = h.long in
    absurd (omega arith)
