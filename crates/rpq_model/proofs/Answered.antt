-- The pairs that the edges of the window join are the answers of a query at a clock.
use Rattle.std.proofs.Common.{◌≡◌, ℕ, List, sym, subst}
use Rattle.std.specs.Prelude.{◌↔◌, Contains}
use Rattle.rpq_base.specs.declared.data.Edge.{Edge}
use Rattle.rpq_base.specs.declared.data.Entry.{Entry}
use Rattle.rpq_base.specs.declared.data.Pair.{Pair}
use Rattle.path_syntax.specs.Expression.{Expression}
use Rattle.path_syntax.specs.Language.{In}
use Rattle.rpq_model.specs.declared.mode.Mode.{Mode}
use Rattle.rpq_model.specs.Window.{WindowValue, edges_at}
use Rattle.rpq_model.specs.Answers.{IsJoinedBy, AreAnswersAt}
use Rattle.rpq_model.specs.Relations.{AreExactly}
use Rattle.rpq_model.specs.Query.{Query, path_query}
use Rattle.rpq_model.proofs.Composing.{exactly_same}
use Rattle.rpq_model.proofs.Paths.{more_edges}

-- the query with these fields
abbrev pub query_of : List ℕ → WindowValue → Mode → Expression → Query
query_of name window mode expr = record { name = name; window = window; mode = mode; expr = expr }

-- pairs that the edges of its window join, however often each of them is given
pub answered : (query : Query) (name : List ℕ) (window : WindowValue) (mode : Mode)
    (expr : Expression) (now : ℕ) (entries : List Entry) (edges : List Edge) (taken : Mode)
    (pairs : List Pair) →
    query_of name window mode expr ≡ query → mode ≡ taken →
    ((edge : Edge) → Contains edges edge ↔ Contains (edges_at window now entries) edge) →
    AreExactly (IsJoinedBy edges (In expr) taken) pairs → AreAnswersAt (path_query query) now entries pairs
answered query name window mode expr now entries edges taken pairs is mode_is edges_are are =
    let live = edges_at window now entries in
    let seen = exactly_same (IsJoinedBy edges (In expr) taken) (IsJoinedBy live (In expr) taken) pairs
    (λ pair. (
      more_edges edges live (In expr) taken pair (λ edge member. (edges_are edge).0 member),
      more_edges live edges (In expr) taken pair (λ edge member. (edges_are edge).1 member),
    )) are in
    let answers : AreAnswersAt (path_query (query_of name window taken expr)) now entries pairs = record { sorted = seen.sorted; exact = seen.exact } in
    subst (λ (each : Query). AreAnswersAt (path_query each) now entries pairs) is
    (subst (λ (each : Mode). AreAnswersAt (path_query (query_of name window each expr)) now entries pairs) (sym mode_is) answers)
