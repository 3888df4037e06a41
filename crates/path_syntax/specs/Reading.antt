-- How the reader goes through the bytes, one by one: a step for each. No public contract cites
-- this.
use Rattle.std.specs.Prelude.{◌≡◌, ◌≢◌, ℕ, ◌+◌, Bool, true, false, not, ◌&&◌, ◌==◌, nat_lt}
use Rattle.std.specs.Prelude.{List, [], ◌∷◌, ◌++◌, length, Option, Some, None, option_map, Result}
use Rattle.std.specs.Prelude.{Ok, Err, if◌then◌else◌}
use Rattle.rpq_base.specs.Names.{is_name_byte, IsName}
use Rattle.path_syntax.specs.declared.read.BadExpr.{BadExpr}
use Rattle.path_syntax.specs.declared.read.BadExpr.TheVariants.{Unexpected, Ended, TooLarge}
use Rattle.path_syntax.specs.declared.read.BadExpr.TheVariants.{LongName, Memory}
use Rattle.path_syntax.specs.declared.byte_kind.ByteKind.{ByteKind}
use Rattle.path_syntax.specs.declared.byte_kind.ByteKind.TheVariants.{Blank, Bare, Quote, Backslash}
use Rattle.path_syntax.specs.declared.byte_kind.ByteKind.TheVariants.{Slash, Bar, Asterisk, Close}
use Rattle.path_syntax.specs.declared.byte_kind.ByteKind.TheVariants.{PlusSign, QuestionMark, Open}
use Rattle.path_syntax.specs.declared.byte_kind.ByteKind.TheVariants.{Caret, Reserved, Strange}
use Rattle.path_syntax.specs.Expression.{Expression, Atom, Seq, Alt, Star, Plus, Opt}
use Rattle.path_syntax.specs.Grammar.{is_blank, is_bare_byte, label_with}
use Rattle.path_syntax.specs.Faults.{is_sign}

-- the kind of a byte with a meaning of its own
abbrev pub kind_of_sign : ℕ → ByteKind
kind_of_sign byte =
    if byte == 34 then Quote else if byte == 92 then Backslash else
    if byte == 47 then Slash else if byte == 124 then Bar else
    if byte == 42 then Asterisk else if byte == 43 then PlusSign else
    if byte == 63 then QuestionMark else if byte == 40 then Open else
    if byte == 41 then Close else if byte == 94 then Caret else Reserved

-- the kind of a byte
unfoldable pub kind_of : ℕ → ByteKind
kind_of byte =
    if is_bare_byte byte then Bare else if is_blank byte then Blank else
    if is_name_byte byte then kind_of_sign byte else Strange

-- what stands before an element in its parentheses: the alternatives before its sequence, and the
-- elements before it in that
pub record FrameValue : Type 0 where
  pub alternatives : Option Expression
  pub sequence : Option Expression

-- what stands directly before the next byte; of a label the name so far, and whether it is taken
-- backwards; where an operand is to come, whether a '^' stands before it, so that it is a label
pub data ModeValue : Type 0 where
  Operand : Bool → ModeValue
  BareLabel : List ℕ → Bool → ModeValue
  QuotedLabel : List ℕ → Bool → ModeValue
  Escape : List ℕ → Bool → ModeValue
  Primary : Expression → ModeValue
  Element : Expression → ModeValue

-- where the reader stands: what stands before each parenthesis that is open, the innermost first
pub record StateValue : Type 0 where
  pub outer : List FrameValue
  pub frame : FrameValue
  pub mode : ModeValue

abbrev pub state_with : List FrameValue → FrameValue → ModeValue → StateValue
state_with outer frame mode = record { outer = outer; frame = frame; mode = mode }

-- nothing stands before
abbrev pub empty_frame : FrameValue
empty_frame = record { alternatives = None; sequence = None }

abbrev pub initial : StateValue
initial = state_with [] empty_frame (Operand false)

-- the sequence of what stands before and an element
abbrev pub in_sequence : Option Expression → Expression → Expression
in_sequence None e = e
in_sequence (Some before) e = Seq before e

-- the alternative of what stands before and a sequence
abbrev pub in_alternatives : Option Expression → Expression → Expression
in_alternatives None e = e
in_alternatives (Some before) e = Alt before e

-- the expression that ends with this element
abbrev pub whole_with : FrameValue → Expression → Expression
whole_with frame e = in_alternatives frame.alternatives (in_sequence frame.sequence e)

-- a parenthesis is closed
abbrev pub closed : List FrameValue → Expression → Option StateValue
closed [] e = None
closed (frame ∷ outer) e = Some (state_with outer frame (Primary e))

-- what may stand behind an element
abbrev pub after_element : List FrameValue → FrameValue → Expression → ByteKind → Option StateValue
after_element outer frame e Blank = Some (state_with outer frame (Element e))
after_element outer frame e Slash =
    Some (state_with outer
    (record frame { sequence = Some (in_sequence frame.sequence e) }) (Operand false))
after_element outer frame e Bar =
    Some (state_with outer
    (record { alternatives = Some (whole_with frame e); sequence = None }) (Operand false))
after_element outer frame e Close = closed outer (whole_with frame e)
after_element outer frame e _ = None

-- what may stand behind a primary
abbrev pub after_primary : List FrameValue → FrameValue → Expression → ByteKind → Option StateValue
after_primary outer frame e Blank = Some (state_with outer frame (Primary e))
after_primary outer frame e Asterisk = Some (state_with outer frame (Element (Star e)))
after_primary outer frame e PlusSign = Some (state_with outer frame (Element (Plus e)))
after_primary outer frame e QuestionMark = Some (state_with outer frame (Element (Opt e)))
after_primary outer frame e kind = after_element outer frame e kind

-- what may stand where an operand is to come, behind a '^' or not
abbrev pub in_operand : Bool → List FrameValue → FrameValue → Bool → ByteKind → ℕ →
    Option StateValue
in_operand inverses outer frame back Blank byte = Some (state_with outer frame (Operand back))
in_operand inverses outer frame back Open byte =
    if back then None else Some (state_with (frame ∷ outer) empty_frame (Operand false))
in_operand inverses outer frame back Caret byte =
    if inverses && not back then Some (state_with outer frame (Operand true)) else None
in_operand inverses outer frame back Quote byte =
    Some (state_with outer frame (QuotedLabel [] back))
in_operand inverses outer frame back Bare byte =
    Some (state_with outer frame (BareLabel (byte ∷ []) back))
in_operand inverses outer frame back _ byte = None

-- what may stand within quotes: any byte of a name; a quote ends the label, if it has a name
abbrev pub ended_label : List FrameValue → FrameValue → List ℕ → Bool → Option StateValue
ended_label outer frame [] back = None
ended_label outer frame (byte ∷ name) back =
    Some (state_with outer frame (Primary (Atom (label_with (byte ∷ name) back))))

abbrev pub in_quotes : List FrameValue → FrameValue → List ℕ → Bool → ByteKind → ℕ →
    Option StateValue
in_quotes outer frame name back Blank byte = None
in_quotes outer frame name back Strange byte = None
in_quotes outer frame name back Quote byte = ended_label outer frame name back
in_quotes outer frame name back Backslash byte = Some (state_with outer frame (Escape name back))
in_quotes outer frame name back _ byte =
    Some (state_with outer frame (QuotedLabel (name ++ byte ∷ []) back))

-- what may stand behind a backslash
abbrev pub in_escape : List FrameValue → FrameValue → List ℕ → Bool → ByteKind → ℕ →
    Option StateValue
in_escape outer frame name back Quote byte =
    Some (state_with outer frame (QuotedLabel (name ++ byte ∷ []) back))
in_escape outer frame name back Backslash byte =
    Some (state_with outer frame (QuotedLabel (name ++ byte ∷ []) back))
in_escape outer frame name back _ byte = None

-- what may stand behind the byte of a bare label
abbrev pub in_bare : List FrameValue → FrameValue → List ℕ → Bool → ByteKind → ℕ → Option StateValue
in_bare outer frame name back Bare byte =
    Some (state_with outer frame (BareLabel (name ++ byte ∷ []) back))
in_bare outer frame name back kind byte =
    after_primary outer frame (Atom (label_with name back)) kind

-- In what follows `inverses` says whether a '^' before a label takes it backwards.
abbrev pub step_by : Bool → List FrameValue → FrameValue → ModeValue → ByteKind → ℕ →
    Option StateValue
step_by inverses outer frame (Operand back) kind byte =
    in_operand inverses outer frame back kind byte
step_by inverses outer frame (BareLabel name back) kind byte =
    in_bare outer frame name back kind byte
step_by inverses outer frame (QuotedLabel name back) kind byte =
    in_quotes outer frame name back kind byte
step_by inverses outer frame (Escape name back) kind byte =
    in_escape outer frame name back kind byte
step_by inverses outer frame (Primary e) kind byte = after_primary outer frame e kind
step_by inverses outer frame (Element e) kind byte = after_element outer frame e kind

-- the state after a byte, if it can go on
abbrev pub step : Bool → StateValue → ℕ → Option StateValue
step inverses state byte =
    step_by inverses state.outer state.frame state.mode (kind_of byte) byte

-- the expression that ends here, if one does
abbrev pub element_of : ModeValue → Option Expression
element_of (Operand back) = None
element_of (BareLabel name back) = Some (Atom (label_with name back))
element_of (QuotedLabel name back) = None
element_of (Escape name back) = None
element_of (Primary e) = Some e
element_of (Element e) = Some e

abbrev pub whole_in : List FrameValue → FrameValue → ModeValue → Option Expression
whole_in [] frame mode = option_map (whole_with frame) (element_of mode)
whole_in (other ∷ outer) frame mode = None

abbrev pub whole_of : StateValue → Option Expression
whole_of state = whole_in state.outer state.frame state.mode

-- how long the name is that stands directly before
abbrev pub name_length : ModeValue → ℕ
name_length (Operand back) = 0
name_length (BareLabel name back) = length name
name_length (QuotedLabel name back) = length name
name_length (Escape name back) = length name
name_length (Primary e) = 0
name_length (Element e) = 0

-- the name that stands directly before is one as far as it goes
abbrev pub IsReady : ModeValue → Type 0
IsReady (Operand back) = Unit {0}
IsReady (BareLabel name back) = IsName name
IsReady (QuotedLabel name back) = name ≢ [] → IsName name
IsReady (Escape name back) = name ≢ [] → IsName name
IsReady (Primary e) = Unit {0}
IsReady (Element e) = Unit {0}

-- an operand is to come
abbrev pub takes_operand : ModeValue → Bool
takes_operand (Operand back) = true
takes_operand _ = false

-- not within quotes
abbrev pub is_outside : ModeValue → Bool
is_outside (QuotedLabel name back) = false
is_outside (Escape name back) = false
is_outside _ = true

-- the reader with its counts: the bytes and the signs so far, and the place of the last byte at
-- which an operand was to come
pub record ReaderValue : Type 0 where
  pub state : StateValue
  pub label_place : ℕ
  pub signs : ℕ
  pub place : ℕ

abbrev pub start : ReaderValue
start = record { state = initial; label_place = 0; signs = 0; place = 0 }

-- the place of the label that may begin with the next byte
abbrev pub label_place_after : ReaderValue → ℕ
label_place_after reader =
    if takes_operand reader.state.mode then reader.place + 1 else reader.label_place

-- the signs with the next byte
abbrev pub signs_after : ReaderValue → ℕ → ℕ
signs_after reader byte =
    if is_outside reader.state.mode && is_sign byte then reader.signs + 1 else reader.signs

-- the limits, in their order
abbrev pub within_limits : StateValue → ℕ → ℕ → ℕ → Result ReaderValue BadExpr
within_limits state label_place signs place =
    if nat_lt 255 (name_length state.mode) then Err (LongName label_place) else
    if nat_lt 512 signs then Err TooLarge else
    Ok (record { state = state; label_place = label_place; signs = signs; place = place })

-- the reader after the step, or the fault
abbrev pub after_step : ReaderValue → ℕ → Option StateValue → Result ReaderValue BadExpr
after_step reader byte None = Err (Unexpected (reader.place + 1))
after_step reader byte (Some state) =
    within_limits state (label_place_after reader) (signs_after reader byte) (reader.place + 1)

-- the reader after a byte, or the fault that shows at it
unfoldable pub read_byte : Bool → ReaderValue → ℕ → Result ReaderValue BadExpr
read_byte inverses reader byte = after_step reader byte (step inverses reader.state byte)

infixl 10 ◌>>=◌
abbrev pub ◌>>=◌ : {A B : Type 0} → Result A BadExpr → (A → Result B BadExpr) → Result B BadExpr
(Ok x) >>= f = f x
(Err fault) >>= f = Err fault

-- the reader after all the bytes, or the first fault
abbrev pub read_all : Bool → List ℕ → ReaderValue → Result ReaderValue BadExpr
read_all inverses [] reader = Ok reader
read_all inverses (byte ∷ bytes) reader =
    read_byte inverses reader byte >>= read_all inverses bytes

-- the whole expression at the end of the bytes
abbrev pub ended_by : Option Expression → Result Expression BadExpr
ended_by None = Err Ended
ended_by (Some e) = Ok e

unfoldable pub reading : Bool → List ℕ → Result Expression BadExpr
reading inverses bytes =
    read_all inverses bytes start >>= λ reader. ended_by (whole_of reader.state)

-- what a function of the code returned, seen by view, is what reading gives, unless memory ran out
abbrev pub Fails : {Y : Type 0} → BadExpr → Result Y BadExpr → Type 0
Fails Memory read = Unit {0}
Fails (Unexpected at) read = read ≡ Err (Unexpected at)
Fails Ended read = read ≡ Err Ended
Fails TooLarge read = read ≡ Err TooLarge
Fails (LongName at) read = read ≡ Err (LongName at)

abbrev pub Gives : {X Y : Type 0} → (X → Y) → Result X BadExpr → Result Y BadExpr → Type 0
Gives view (Ok x) read = read ≡ Ok (view x)
Gives view (Err fault) read = Fails fault read
