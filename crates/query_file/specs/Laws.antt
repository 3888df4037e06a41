-- What the definitions are meant to say, as laws.
use Rattle.std.specs.Prelude.{◌≡◌, ℕ, Bool, List, Result}
use Rattle.path_syntax.specs.Grammar.{one_way, two_way}
use Rattle.rpq_model.specs.Query.{Query}
use Rattle.query_file.specs.declared.fault.QueryFault.{QueryFault}
use Rattle.query_file.specs.Queries.{QueriesOf}

-- the bytes of a file give one thing; whether a '^' before a label takes it backwards is said by
-- `inverses`
abbrev pub OneOutcomeOf : Bool → Type 0
OneOutcomeOf inverses = (bytes : List ℕ) (first second : Result (List Query) QueryFault) →
    QueriesOf inverses bytes first → QueriesOf inverses bytes second → first ≡ second

abbrev pub OneOutcome : Type 0
OneOutcome = OneOutcomeOf one_way

abbrev pub OneTwoWayOutcome : Type 0
OneTwoWayOutcome = OneOutcomeOf two_way
