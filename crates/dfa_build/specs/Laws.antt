-- What the definitions are meant to say, as laws.
use Rattle.std.specs.Prelude.{◌≡◌, ◌↔◌, List}
use Rattle.rpq_base.specs.declared.data.Label.{Label}
use Rattle.path_syntax.specs.Expression.{Expression}
use Rattle.path_syntax.specs.Language.{In}
use Rattle.dfa_table.specs.DfaValue.{DfaValue}
use Rattle.dfa_build.specs.Marked.{IsSpelledByMarked, ArePositionsOf}
use Rattle.dfa_build.specs.Positions.{PositionsValue, ArePositions, AreRising}
use Rattle.dfa_build.specs.Subset.{IsAutomatonOf}

-- the words of an expression are those that the words of its marked expression spell
abbrev pub MarkedSpellsWords : Type 0
MarkedSpellsWords = (e : Expression) (word : List Label) → In e word ↔ IsSpelledByMarked e word

-- an expression has one position automaton
abbrev pub OnePositionAutomaton : Type 0
OnePositionAutomaton = (e : Expression) (first second : PositionsValue) →
    ArePositionsOf e first → ArePositions first → AreRising first →
    ArePositionsOf e second → ArePositions second → AreRising second → first ≡ second

-- a position automaton has one automaton
abbrev pub OneAutomaton : Type 0
OneAutomaton = (positions : PositionsValue) (first second : DfaValue) →
    IsAutomatonOf positions first → IsAutomatonOf positions second → first ≡ second
