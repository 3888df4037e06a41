-- The faults of a text that is read as an expression.
use Rattle.std.specs.Prelude.{◌≡◌, ℕ, ◌+◌, ◌≤◌, Bool, ◌==◌, List, [], ◌∷◌, ◌++◌, length, codes}
use Rattle.std.specs.Prelude.{Result, Ok, Err, ◌⊎◌, if◌then◌else◌}
use Rattle.std.specs.List.{count_by, list_any}
use Rattle.path_syntax.specs.declared.read.BadExpr.{BadExpr}
use Rattle.path_syntax.specs.declared.read.BadExpr.TheVariants.{Unexpected, Ended, TooLarge}
use Rattle.path_syntax.specs.declared.read.BadExpr.TheVariants.{LongName, Memory}
use Rattle.path_syntax.specs.Expression.{Expression}
use Rattle.path_syntax.specs.Grammar.{IsBare, AreNameBytes, quoted, IsLabel, IsAlternative, CanGoOn}
use Rattle.path_syntax.specs.Grammar.{one_way, two_way}

-- The bytes outside quoted labels; of those from a quote on; of those from behind a backslash
-- within quotes on.
abbrev mutual
  pub outside_quotes : List ℕ → List ℕ
  outside_quotes [] = []
  outside_quotes (byte ∷ bytes) =
      if byte == 34 then behind_quote bytes else byte ∷ outside_quotes bytes

  pub behind_quote : List ℕ → List ℕ
  behind_quote [] = []
  behind_quote (byte ∷ bytes) =
      if byte == 34 then outside_quotes bytes else if byte == 92 then behind_backslash bytes else
      behind_quote bytes

  pub behind_backslash : List ℕ → List ℕ
  behind_backslash [] = []
  behind_backslash (byte ∷ bytes) = behind_quote bytes

-- a sign that counts
abbrev pub is_sign : ℕ → Bool
is_sign byte = list_any (λ sign. byte == sign) (codes "/|*+?(")

-- the number of signs outside quoted labels
abbrev pub signs : List ℕ → ℕ
signs bytes = count_by is_sign (outside_quotes bytes)

-- how the text of a label with a name that begins so begins: bare, or in quotes
pub data BeginsLabel : List ℕ → List ℕ → Type 0 where
  BeginsBare : (name : List ℕ) → IsBare name → BeginsLabel name name
  BeginsQuoted : (name : List ℕ) → AreNameBytes name → BeginsLabel (codes "\"" ++ quoted name) name

-- a label may stand here, whichever it is
abbrev pub TakesLabel : Bool → List ℕ → Type 0
TakesLabel inverses before =
    (text name : List ℕ) → IsLabel text name → CanGoOn inverses (before ++ text)

-- the label that begins at this place, from 1, has 256 bytes and perhaps more
pub record HasLongName (inverses : Bool) (bytes : List ℕ) (at : ℕ) : Type 0 where
  pub before : List ℕ
  pub label : List ℕ
  pub after : List ℕ
  pub name : List ℕ
  pub split : bytes ≡ before ++ label ++ after
  pub place : at ≡ length before + 1
  pub stands : TakesLabel inverses before
  pub begins : BeginsLabel label name
  pub long : length name ≡ 256

-- at most 512 signs, and no label of 256 bytes or more
pub record IsWithinLimits (inverses : Bool) (bytes : List ℕ) : Type 0 where
  pub few : signs bytes ≤ 512
  pub short : (at : ℕ) → HasLongName inverses bytes at → ⊥

-- bytes that no fault shows in: some text of an expression begins with them, and they are within
-- the limits
pub record IsTaken (inverses : Bool) (front : List ℕ) : Type 0 where
  pub goes_on : CanGoOn inverses front
  pub limits : IsWithinLimits inverses front

-- the bytes up to one at which a fault shows: no fault shows before it
pub record Reaches (inverses : Bool) (bytes front : List ℕ) (byte : ℕ) : Type 0 where
  pub rest : List ℕ
  pub split : bytes ≡ front ++ byte ∷ rest
  pub taken : IsTaken inverses front

-- with the byte at this place, from 1, the bytes begin no text of an expression any more
pub record IsUnexpected (inverses : Bool) (bytes : List ℕ) (at : ℕ) : Type 0 where
  pub front : List ℕ
  pub byte : ℕ
  pub reached : Reaches inverses bytes front byte
  pub place : at ≡ length front + 1
  pub refused : CanGoOn inverses (front ++ byte ∷ []) → ⊥

-- they do, and the byte is the 256th of a label's name; the label begins at this place
pub record IsLongName (inverses : Bool) (bytes : List ℕ) (at : ℕ) : Type 0 where
  pub front : List ℕ
  pub byte : ℕ
  pub reached : Reaches inverses bytes front byte
  pub goes_on : CanGoOn inverses (front ++ byte ∷ [])
  pub long : HasLongName inverses (front ++ byte ∷ []) at

-- they do, no label is long, and the byte is the 513th sign
pub record IsTooLarge (inverses : Bool) (bytes : List ℕ) : Type 0 where
  pub front : List ℕ
  pub byte : ℕ
  pub reached : Reaches inverses bytes front byte
  pub goes_on : CanGoOn inverses (front ++ byte ∷ [])
  pub short : (at : ℕ) → HasLongName inverses (front ++ byte ∷ []) at → ⊥
  pub many : signs (front ++ byte ∷ []) ≡ 513

-- no fault shows in the bytes, and they are the text of no expression
pub record IsEnded (inverses : Bool) (bytes : List ℕ) : Type 0 where
  pub taken : IsTaken inverses bytes
  pub incomplete : (e : Expression) → IsAlternative inverses bytes e → ⊥

-- the fault is the one that shows first from the left; that memory runs out is no fault of any
-- bytes
abbrev pub IsFault : Bool → BadExpr → List ℕ → Type 0
IsFault inverses (Unexpected at) bytes = IsUnexpected inverses bytes at
IsFault inverses Ended bytes = IsEnded inverses bytes
IsFault inverses TooLarge bytes = IsTooLarge inverses bytes
IsFault inverses (LongName at) bytes = IsLongName inverses bytes at
IsFault inverses Memory bytes = ⊥

-- the outcome of the bytes: the expression that they are the text of, within the limits, or the
-- fault that shows first
pub data IsOutcomeOf (inverses : Bool) (bytes : List ℕ) : Result Expression BadExpr → Type 0 where
  Whole : (e : Expression) → IsAlternative inverses bytes e → IsWithinLimits inverses bytes →
      IsOutcomeOf inverses bytes (Ok e)
  Faulty : (fault : BadExpr) → IsFault inverses fault bytes → IsOutcomeOf inverses bytes (Err fault)

-- the outcome where no label is taken backwards
abbrev pub IsOutcome : List ℕ → Result Expression BadExpr → Type 0
IsOutcome = IsOutcomeOf one_way

-- the outcome where a '^' before a label takes it backwards
abbrev pub IsTwoWayOutcome : List ℕ → Result Expression BadExpr → Type 0
IsTwoWayOutcome = IsOutcomeOf two_way

-- the fault is answered exactly where the bytes have it, unless memory runs out
pub record Tells {T : Type 0} (result : Result T BadExpr) (fault : BadExpr)
    (has : Type 0) : Type 0 where
  pub sure : result ≡ Err fault → has
  pub told : has → (result ≡ Err fault) ⊎ (result ≡ Err Memory)
