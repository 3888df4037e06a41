-- What the reader of a line knows before it makes the automaton. No public contract cites this
-- file.
use Rattle.std.specs.Prelude.{◌≡◌, ℕ, ◌≤◌, Bool, List, length, Some}
use Rattle.rpq_base.specs.declared.data.Label.{Label}
use Rattle.containment_test.specs.Containment.{IsLeastTriple}
use Rattle.rpq_model.specs.declared.mode.Mode.{Mode}
use Rattle.rpq_model.specs.declared.mode.Mode.TheVariants.{Simple}
use Rattle.rpq_model.specs.Query.{Query}
use Rattle.query_file.specs.declared.fault.QueryKind.{QueryKind}
use Rattle.query_file.specs.declared.fault.QueryKind.TheVariants.{Shape, Number, Twice, TooMany}
use Rattle.query_file.specs.declared.fault.QueryKind.TheVariants.{NoQuery, Expr, TooManyLabels}
use Rattle.query_file.specs.declared.fault.QueryKind.TheVariants.{TooManyStates, NotContained}
use Rattle.query_file.specs.declared.fault.QueryKind.TheVariants.{Memory}
use Rattle.query_file.specs.InOrder.{IsTaken, HasExpression}
use Rattle.query_file.specs.QueryLine.{LineParts, HasParts, length_of}

-- why no query of this name may follow: the name is taken; or it isn't, and there are 64 queries
abbrev pub HasNoPlace : List Query → List ℕ → QueryKind → Type 0
HasNoPlace before name Shape = ⊥
HasNoPlace before name Number = ⊥
HasNoPlace before name (Twice other) = (other ≡ name) × IsTaken before name
HasNoPlace before name TooMany = (IsTaken before name → ⊥) × (64 ≤ length before)
HasNoPlace before name NoQuery = ⊥
HasNoPlace before name (Expr fault) = ⊥
HasNoPlace before name (TooManyLabels count) = ⊥
HasNoPlace before name TooManyStates = ⊥
HasNoPlace before name (NotContained p q w) = ⊥
HasNoPlace before name Memory = Unit {0}

-- why a query of this mode isn't taken for its language: it takes simple paths, and these words are
-- the least that show that the language isn't contained
abbrev pub IsRefusedBy : (List Label → Type 0) → Mode → QueryKind → Type 0
IsRefusedBy language mode (NotContained p q w) = (mode ≡ Simple) × IsLeastTriple language p q w
IsRefusedBy language mode Memory = Unit {0}
IsRefusedBy language mode _ = ⊥

-- the line, which follows these queries, defines the query, whatever its mode and its automaton
pub record IsDefinitionOf (inverses : Bool) (before : List Query) (line : List ℕ)
    (query : Query) : Type 0 where
  pub parts : LineParts
  pub has : HasParts line parts
  pub expression : HasExpression inverses before parts query.expr
  pub name : query.name ≡ parts.name
  pub size : length_of parts.size ≡ Some query.window.size
  pub slide : length_of parts.slide ≡ Some query.window.slide
  pub mode : query.mode ≡ parts.mode
