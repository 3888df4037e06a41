-- Some joins files with what they give.
use Rattle.std.specs.Prelude.{◌≡◌, ℕ, List, [], ◌∷◌, ◌++◌, codes, Ok, Err}
use Rattle.rpq_model.specs.Query.{Query}
use Rattle.join_file.specs.declared.data.Term.{Term}
use Rattle.join_file.specs.declared.data.Term.TheVariants.{Variable, Vertex}
use Rattle.join_file.specs.declared.data.JoinAtom.{JoinAtom}
use Rattle.join_file.specs.declared.fault.JoinFileFaultKind.TheVariants.{Shape, Twice, UnknownQuery}
use Rattle.join_file.specs.declared.fault.JoinFileFaultKind.TheVariants.{BadName}
use Rattle.join_file.specs.Joins.{JoinValue}
use Rattle.join_file.specs.JoinsFile.{joins, fault_at}

-- an atom, and a join
abbrev pub atom : ℕ → Term → Term → JoinAtom
atom query from to = record { query = query; from = from; to = to }

abbrev pub join_of : List ℕ → ℕ → List JoinAtom → JoinValue
join_of name variables atoms = record { name = name; variables = variables; atoms = atoms }

-- files over two queries of the names p and q
pub record JoinExamples : Type 0 where
  pub empty : joins [] (codes "\n# no join\n") ≡ Ok []
  pub chain : (one two : Query) → one.name ≡ codes "p" → two.name ≡ codes "q" →
      joins (one ∷ two ∷ []) (codes "join j p ?x ?y q ?y ?z\n")
      ≡ Ok (join_of (codes "j") 3 (atom 0 (Variable 0) (Variable 1)
      ∷ atom 1 (Variable 1) (Variable 2) ∷ []) ∷ [])
  pub symmetric : (one : Query) → one.name ≡ codes "p" →
      joins (one ∷ []) (codes "join s p ?x ?y p ?y ?x")
      ≡ Ok (join_of (codes "s") 2 (atom 0 (Variable 0) (Variable 1)
      ∷ atom 0 (Variable 1) (Variable 0) ∷ []) ∷ [])
  pub two : (one : Query) → one.name ≡ codes "p" →
      joins (one ∷ []) (codes "join k p ?x ?x\r\n\n\tjoin  m p x ?y ")
      ≡ Ok (join_of (codes "k") 1 (atom 0 (Variable 0) (Variable 0) ∷ [])
      ∷ join_of (codes "m") 1 (atom 0 (Vertex (codes "x")) (Variable 0) ∷ []) ∷ [])
  pub short : (queries : List Query) →
      joins queries (codes "join j p ?x") ≡ Err (fault_at 1 Shape)
  pub bare : (queries : List Query) →
      joins queries (codes "# one\njoin j p ?x ?") ≡ Err (fault_at 2 Shape)
  pub no_variable : (queries : List Query) →
      joins queries (codes "join j p x y") ≡ Err (fault_at 1 Shape)
  pub other_word : (queries : List Query) →
      joins queries (codes "join_ j p ?x y") ≡ Err (fault_at 1 Shape)
  pub twice : (one : Query) → one.name ≡ codes "p" →
      joins (one ∷ []) (codes "join j p ?x ?y\n\njoin j r ?x ?y\n")
      ≡ Err (fault_at 3 (Twice (codes "j")))
  pub unknown : (one : Query) → one.name ≡ codes "p" →
      joins (one ∷ []) (codes "join j r ?x ?y") ≡ Err (fault_at 1 UnknownQuery)
  pub bad : (one : Query) → one.name ≡ codes "p" →
      joins (one ∷ []) (codes "join j p ?x " ++ 127 ∷ []) ≡ Err (fault_at 1 BadName)
  pub unknown_first : (one : Query) → one.name ≡ codes "p" →
      joins (one ∷ []) (codes "join j p ?x " ++ 127 ∷ codes " r ?x ?y")
      ≡ Err (fault_at 1 UnknownQuery)
