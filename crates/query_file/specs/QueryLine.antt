-- A query line, `query NAME window SIZE slide SLIDE MODE EXPR`, and what may be wrong with it.
-- Whether a '^' before a label takes it backwards is said by `inverses`.
use Rattle.std.specs.Prelude.{◌≡◌, ℕ, ◌<◌, ◌≤◌, nat_le, ◌⊎◌, true, List, [], ◌∷◌, ◌++◌, length, map}
use Rattle.std.specs.Prelude.{Bool, Contains, Option, Some, None, Ok, Err, codes, if◌then◌else◌}
use Rattle.std.specs.Option.{option_and_then}
use Rattle.text_parts.specs.Lines.{is_blank}
use Rattle.text_parts.specs.Fields.{fields}
use Rattle.text_parts.specs.Numbers.{number_within}
use Rattle.rpq_base.specs.Names.{IsName}
use Rattle.rpq_base.specs.declared.data.TheConstants.{MAX_TIME}
use Rattle.path_syntax.specs.Expression.{Expression}
use Rattle.path_syntax.specs.Faults.{IsOutcomeOf}
use Rattle.path_syntax.specs.Language.{In}
use Rattle.path_syntax.specs.Size.{atoms}
use Rattle.dfa_build.specs.Marked.{ArePositionsOf}
use Rattle.dfa_build.specs.Positions.{PositionsValue}
use Rattle.dfa_build.specs.Subset.{HasManySets}
use Rattle.containment_test.specs.Containment.{IsLeastTriple}
use Rattle.rpq_model.specs.declared.mode.Mode.{Mode}
use Rattle.rpq_model.specs.declared.mode.Mode.TheVariants.{Arbitrary, Simple}
use Rattle.rpq_model.specs.Query.{Query}
use Rattle.query_file.specs.declared.fault.QueryKind.{QueryKind}
use Rattle.query_file.specs.declared.fault.QueryKind.TheVariants.{Shape, Number, Twice, TooMany}
use Rattle.query_file.specs.declared.fault.QueryKind.TheVariants.{NoQuery, Expr, TooManyLabels}
use Rattle.query_file.specs.declared.fault.QueryKind.TheVariants.{TooManyStates, NotContained}
use Rattle.query_file.specs.declared.fault.QueryKind.TheVariants.{Memory}

-- the word for the paths that a query takes, with its colon
abbrev pub mode_text : Mode → List ℕ
mode_text Arbitrary = codes "arbitrary:"
mode_text Simple = codes "simple:"

-- the parts of a query line as they are written
pub record LineParts : Type 0 where
  pub name : List ℕ
  pub size : List ℕ
  pub slide : List ℕ
  pub mode : Mode
  pub expr : List ℕ

-- the text ends with a space or a tab
pub record EndsWithBlank (text : List ℕ) : Type 0 where
  pub front : List ℕ
  pub blank : ℕ
  pub split : text ≡ front ++ blank ∷ []
  pub is_one : is_blank blank ≡ true

-- the line has these parts: six fields, the word for the mode, and all that follows its colon
pub record HasParts (line : List ℕ) (parts : LineParts) : Type 0 where
  pub before : List ℕ
  pub split : line ≡ before ++ (mode_text parts.mode ++ parts.expr)
  pub apart : EndsWithBlank before
  pub fields_before : fields before ≡ codes "query" ∷ parts.name ∷ codes "window" ∷ parts.size
      ∷ codes "slide" ∷ parts.slide ∷ []
  pub named : IsName parts.name

-- a length of time: a digit text from 1 to the greatest time
unfoldable pub length_of : List ℕ → Option ℕ
length_of text =
    option_and_then (λ number. if nat_le 1 number then Some number else None)
    (number_within MAX_TIME text)

-- the line has parts, of which this holds
abbrev pub ForParts : List ℕ → (LineParts → Type 0) → Type 0
ForParts line P = (parts : LineParts) × HasParts line parts × P parts

-- the line has parts, and its expression, of which this holds, has no fault
abbrev pub ForExpression : Bool → List ℕ → (Expression → Type 0) → Type 0
ForExpression inverses line P =
    ForParts line (λ parts. (e : Expression) × IsOutcomeOf inverses parts.expr (Ok e) × P e)

-- words reach too many sets of the expression's positions
abbrev pub NeedsManyStates : Expression → Type 0
NeedsManyStates e =
    (positions : PositionsValue) × ArePositionsOf e positions × HasManySets positions

-- the line, which follows these queries, has the fault of this kind
abbrev pub HasFault : Bool → List Query → List ℕ → QueryKind → Type 0
HasFault inverses before line Shape = (parts : LineParts) → HasParts line parts → ⊥
HasFault inverses before line Number = ForParts line (λ parts.
    (length_of parts.size ≡ None) ⊎ (length_of parts.slide ≡ None))
HasFault inverses before line (Twice name) = ForParts line (λ parts.
    (parts.name ≡ name) × Contains (map (λ query. query.name) before) name)
HasFault inverses before line TooMany = 64 ≤ length before
HasFault inverses before line NoQuery = ⊥
HasFault inverses before line (Expr fault) =
    ForParts line (λ parts. IsOutcomeOf inverses parts.expr (Err fault))
HasFault inverses before line (TooManyLabels count) =
    ForExpression inverses line (λ e. (atoms e ≡ count) × (64 < count))
HasFault inverses before line TooManyStates = ForExpression inverses line NeedsManyStates
HasFault inverses before line (NotContained p q w) = ForParts line (λ parts.
    (e : Expression) × (parts.mode ≡ Simple) × IsOutcomeOf inverses parts.expr (Ok e)
    × IsLeastTriple (In e) p q w)
HasFault inverses before line Memory = ⊥

-- the number of the kind: of the faults of a line the one of the least number is told
abbrev pub number_of : QueryKind → ℕ
number_of Shape = 1
number_of Number = 2
number_of (Twice name) = 3
number_of TooMany = 4
number_of NoQuery = 5
number_of (Expr fault) = 6
number_of (TooManyLabels count) = 7
number_of TooManyStates = 8
number_of (NotContained p q w) = 9
number_of Memory = 10

-- the line has the fault, and none of a lesser number
pub record IsFirstFault (inverses : Bool) (before : List Query) (line : List ℕ)
    (kind : QueryKind) : Type 0 where
  pub has : HasFault inverses before line kind
  pub least : (other : QueryKind) → HasFault inverses before line other →
      number_of kind ≤ number_of other

-- the line, which follows these queries, has no fault, and is that of this query
pub record IsLineOf (inverses : Bool) (before : List Query) (line : List ℕ)
    (query : Query) : Type 0 where
  pub no_fault : (kind : QueryKind) → HasFault inverses before line kind → ⊥
  pub parts : LineParts
  pub has : HasParts line parts
  pub name : query.name ≡ parts.name
  pub size : length_of parts.size ≡ Some query.window.size
  pub slide : length_of parts.slide ≡ Some query.window.slide
  pub mode : query.mode ≡ parts.mode
  pub expr : IsOutcomeOf inverses parts.expr (Ok query.expr)
