-- The edges in the order in which they leave a store.
use Rattle.std.specs.Prelude.{◌≡◌, ℕ, List, Some, Contains}
use Rattle.due_queue.specs.declared.due.Due.{Due}
use Rattle.due_queue.specs.Queue.{due}
use Rattle.edge_store.specs.declared.edge.EdgeId.{EdgeId}
use Rattle.edge_store.specs.declared.edge.HalfEdge.{HalfEdge}
use Rattle.edge_store.specs.Edges.{value_at, out_half}
use Rattle.edge_store.specs.Rows.{Agree}

-- each edge is noted with its value
abbrev pub IsNoted : List (List (HalfEdge × ℕ)) → List (Due EdgeId) → Type 0
IsNoted outs dues = (edge : EdgeId) (value : ℕ) →
    value_at outs edge.from (out_half edge) ≡ Some value → Contains dues (due edge value)

-- both sides of a store have the same edges, and each is noted with its value
pub record IsStore (outs ins : List (List (HalfEdge × ℕ))) (dues : List (Due EdgeId)) : Type 0 where
  pub agree : Agree outs ins
  pub noted : IsNoted outs dues
