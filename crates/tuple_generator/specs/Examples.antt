-- Some of the tuples, written out.
use Rattle.std.specs.Prelude.{◌≡◌, ℕ, [], ◌∷◌, None, codes}
use Rattle.rpq_base.specs.declared.data.Edge.{Edge}
use Rattle.rpq_base.specs.declared.data.Act.TheVariants.{Insert, Delete}
use Rattle.rpq_base.specs.declared.data.Tuple.{Tuple}
use Rattle.tuple_generator.specs.Generator.{edge_named, tuple_at, generated_tuples}

-- an edge is inserted
abbrev pub inserted : ℕ → Edge → Tuple
inserted time edge = record { time = time; act = Insert edge None }

-- an edge is deleted
abbrev pub deleted : ℕ → Edge → Tuple
deleted time edge = record { time = time; act = Delete edge }

-- the first three tuples, the first delete, and the first label `b`
pub record WorkedTuples : Type 0 where
  pub three : generated_tuples 3
      ≡ inserted 1 (edge_named (codes "v38") (codes "a") (codes "v58"))
      ∷ inserted 2 (edge_named (codes "v15") (codes "c") (codes "v51"))
      ∷ inserted 3 (edge_named (codes "v10") (codes "a") (codes "v19")) ∷ []
  pub fourth : tuple_at 4 ≡ deleted 4 (edge_named (codes "v86") (codes "c") (codes "v49"))
  pub eleventh : tuple_at 11 ≡ inserted 11 (edge_named (codes "v24") (codes "c") (codes "v5"))
  pub fifteenth : tuple_at 15 ≡ inserted 15 (edge_named (codes "v85") (codes "b") (codes "v43"))
