-- What the definitions are meant to say, as laws.
use Rattle.std.specs.Prelude.{◌≡◌, ℕ, ◌↔◌, List, IsTrue}
use Rattle.rpq_base.specs.Same.{same_name, same_label, same_edge, same_pair}
use Rattle.rpq_base.specs.declared.data.Label.{Label}
use Rattle.rpq_base.specs.declared.data.Edge.{Edge}
use Rattle.rpq_base.specs.declared.data.Pair.{Pair}

-- the tests find exactly the equal values
pub record SameIsEqual : Type 0 where
  pub names : (first second : List ℕ) → IsTrue (same_name first second) ↔ (first ≡ second)
  pub labels : (first second : Label) → IsTrue (same_label first second) ↔ (first ≡ second)
  pub edges : (first second : Edge) → IsTrue (same_edge first second) ↔ (first ≡ second)
  pub pairs : (first second : Pair) → IsTrue (same_pair first second) ↔ (first ≡ second)
