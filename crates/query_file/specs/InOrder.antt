-- The faults of a query line in their order: each where none stands before it. Whether a '^' before
-- a label takes it backwards is said by `inverses`.
use Rattle.std.specs.Prelude.{◌≡◌, ◌↔◌, ℕ, ◌<◌, ◌≤◌, List, length, map, Contains, Some, Ok, Err}
use Rattle.std.specs.Prelude.{Bool, IsSome}
use Rattle.path_syntax.specs.Expression.{Expression}
use Rattle.path_syntax.specs.Faults.{IsOutcomeOf}
use Rattle.path_syntax.specs.Language.{In}
use Rattle.path_syntax.specs.Size.{atoms}
use Rattle.containment_test.specs.Containment.{Contained, IsLeastTriple}
use Rattle.rpq_model.specs.declared.mode.Mode.TheVariants.{Simple}
use Rattle.rpq_model.specs.Query.{Query}
use Rattle.query_file.specs.declared.fault.QueryKind.{QueryKind}
use Rattle.query_file.specs.declared.fault.QueryKind.TheVariants.{Shape, Number, Twice, TooMany}
use Rattle.query_file.specs.declared.fault.QueryKind.TheVariants.{NoQuery, Expr, TooManyLabels}
use Rattle.query_file.specs.declared.fault.QueryKind.TheVariants.{TooManyStates, NotContained}
use Rattle.query_file.specs.declared.fault.QueryKind.TheVariants.{Memory}
use Rattle.query_file.specs.QueryLine.{LineParts, HasParts, ForParts, length_of, NeedsManyStates}
use Rattle.query_file.specs.QueryLine.{IsFirstFault, IsLineOf}

-- one of these queries has the name
abbrev pub IsTaken : List Query → List ℕ → Type 0
IsTaken before name = Contains (map (λ query. query.name) before) name

-- the size and the slide are lengths of time
pub record HasLengths (parts : LineParts) : Type 0 where
  pub size : IsSome (length_of parts.size)
  pub slide : IsSome (length_of parts.slide)

-- and no query before has the name
pub record HasNewName (before : List Query) (parts : LineParts) : Type 0 where
  pub lengths : HasLengths parts
  pub new : IsTaken before parts.name → ⊥

-- and there are fewer than 64 before
pub record HasRoom (before : List Query) (parts : LineParts) : Type 0 where
  pub name : HasNewName before parts
  pub room : length before < 64

-- and this is the expression
pub record HasExpression (inverses : Bool) (before : List Query) (parts : LineParts)
    (e : Expression) : Type 0 where
  pub room : HasRoom before parts
  pub outcome : IsOutcomeOf inverses parts.expr (Ok e)

-- and it has at most 64 labels
pub record HasFewLabels (inverses : Bool) (before : List Query) (parts : LineParts)
    (e : Expression) : Type 0 where
  pub expression : HasExpression inverses before parts e
  pub few : atoms e ≤ 64

-- and words reach few sets of its positions
pub record HasFewStates (inverses : Bool) (before : List Query) (parts : LineParts)
    (e : Expression) : Type 0 where
  pub labels : HasFewLabels inverses before parts e
  pub few : NeedsManyStates e → ⊥

-- the line, which follows these queries, has the fault of this kind, and none that comes before it
-- in the order of the kinds
abbrev pub IsFirstInOrder : Bool → List Query → List ℕ → QueryKind → Type 0
IsFirstInOrder inverses before line Shape = (parts : LineParts) → HasParts line parts → ⊥
IsFirstInOrder inverses before line Number = ForParts line (λ parts. HasLengths parts → ⊥)
IsFirstInOrder inverses before line (Twice name) = ForParts line (λ parts.
    HasLengths parts × (parts.name ≡ name) × IsTaken before name)
IsFirstInOrder inverses before line TooMany = ForParts line (λ parts.
    HasNewName before parts × (64 ≤ length before))
IsFirstInOrder inverses before line NoQuery = ⊥
IsFirstInOrder inverses before line (Expr fault) = ForParts line (λ parts.
    HasRoom before parts × IsOutcomeOf inverses parts.expr (Err fault))
IsFirstInOrder inverses before line (TooManyLabels count) = ForParts line (λ parts.
    (e : Expression) × HasExpression inverses before parts e × (atoms e ≡ count) × (64 < count))
IsFirstInOrder inverses before line TooManyStates = ForParts line (λ parts.
    (e : Expression) × HasFewLabels inverses before parts e × NeedsManyStates e)
IsFirstInOrder inverses before line (NotContained p q w) = ForParts line (λ parts.
    (e : Expression) × HasFewStates inverses before parts e × (parts.mode ≡ Simple)
    × IsLeastTriple (In e) p q w)
IsFirstInOrder inverses before line Memory = ⊥

-- the line, which follows these queries, has none of the faults, and is that of this query
pub record IsLineInOrder (inverses : Bool) (before : List Query) (line : List ℕ)
    (query : Query) : Type 0 where
  pub parts : LineParts
  pub has : HasParts line parts
  pub states : HasFewStates inverses before parts query.expr
  pub contained : parts.mode ≡ Simple → Contained (In query.expr)
  pub name : query.name ≡ parts.name
  pub size : length_of parts.size ≡ Some query.window.size
  pub slide : length_of parts.slide ≡ Some query.window.slide
  pub mode : query.mode ≡ parts.mode

-- the first fault of a line is the first in the order, and a line without a fault is one without
-- a fault in the order
pub record FaultsInOrder (inverses : Bool) : Type 0 where
  pub first : (before : List Query) (line : List ℕ) (kind : QueryKind) →
      IsFirstFault inverses before line kind ↔ IsFirstInOrder inverses before line kind
  pub none : (before : List Query) (line : List ℕ) (query : Query) →
      IsLineOf inverses before line query ↔ IsLineInOrder inverses before line query
