-- Histories that queries see alike.
use Rattle.std.specs.Prelude.{◌≡◌, ℕ, ◌≤◌, ◌↔◌, List, Contains}
use Rattle.rpq_base.specs.declared.data.Edge.{Edge}
use Rattle.rpq_base.specs.declared.data.Entry.{Entry}
use Rattle.rpq_model.specs.Window.{WindowValue, clock, edges_at}
use Rattle.rpq_model.specs.Query.{Query}

-- two histories have the same clock, and from there on the same live edges in this window
pub record SeeAlike (window : WindowValue) (history other : List Entry) : Type 0 where
  pub clocks : clock history ≡ clock other
  pub edges : (now : ℕ) → clock history ≤ now → (edge : Edge) →
      Contains (edges_at window now history) edge ↔ Contains (edges_at window now other) edge

-- and so they have in the window of each of these queries
abbrev pub AllSeeAlike : List Query → List Entry → List Entry → Type 0
AllSeeAlike queries history other =
    (query : Query) → Contains queries query → SeeAlike query.window history other
