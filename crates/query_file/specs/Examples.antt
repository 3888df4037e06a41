-- Some lines and files with what they give.
use Rattle.std.specs.Prelude.{◌≡◌, ℕ, List, [], ◌∷◌, ◌++◌, length, codes, Some, None, Ok, Err}
use Rattle.rpq_base.specs.declared.data.Label.{Label}
use Rattle.path_syntax.specs.declared.read.BadExpr.TheVariants.{Unexpected, Ended}
use Rattle.path_syntax.specs.Expression.{Atom, Seq}
use Rattle.path_syntax.specs.Grammar.{one_way, label_named, inverse_named}
use Rattle.containment_laws.specs.LineExamples.{a, b}
use Rattle.rpq_model.specs.declared.mode.Mode.TheVariants.{Arbitrary, Simple}
use Rattle.rpq_model.specs.Query.{Query}
use Rattle.query_file.specs.declared.fault.QueryKind.TheVariants.{Number, Twice, TooMany, NoQuery}
use Rattle.query_file.specs.declared.fault.QueryKind.TheVariants.{Expr, NotContained}
use Rattle.query_file.specs.Queries.{fault_at, Queries, TwoWayQueries}
use Rattle.query_file.specs.QueryLine.{HasParts, length_of, HasFault, IsFirstFault}

-- a line with its parts: blanks may stand in front, and none behind the colon; lengths of time from
-- 1 to 2^62 - 1; a number that is no length; a name that is taken; a fault of the expression,
-- whose place is counted from the colon; an expression that is empty; two queries that take simple
-- paths, of which one isn't accepted; a file without a query; the 64th query and the 65th
pub record LineExamples : Type 0 where
  pub parts : HasParts (codes "  query q window 10 slide x simple:a b")
      (record {
        name = codes "q";
        size = codes "10";
        slide = codes "x";
        mode = Simple;
        expr = codes "a b";
      })
  pub greatest : length_of (codes "4611686018427387903") ≡ Some 4611686018427387903
  pub beyond : length_of (codes "4611686018427387904") ≡ None
  pub zeros : length_of (codes "0010") ≡ Some 10
  pub number : (before : List Query) →
      IsFirstFault one_way before (codes "query q window 10 slide 0 simple:") Number
  pub twice : (query : Query) → query.name ≡ codes "q" →
      IsFirstFault one_way (query ∷ []) (codes "query q window 10 slide 2 arbitrary: ||")
      (Twice (codes "q"))
  pub place : IsFirstFault one_way [] (codes "query q window 10 slide 2 arbitrary: a||b")
      (Expr (Unexpected 4))
  pub empty : IsFirstFault one_way [] (codes "query q window 10 slide 2 arbitrary:") (Expr Ended)
  pub refused : HasFault one_way [] (codes "query q window 10 slide 5 simple: a/b")
      (NotContained [] (a ∷ []) (b ∷ []))
  pub accepted : (p q w : List Label) →
      HasFault one_way [] (codes "query q window 10 slide 5 simple: a+") (NotContained p q w) → ⊥
  pub lacking : Queries (codes "\n # no query\n") (Err (fault_at 2 NoQuery))
  pub last : (before : List Query) (line : List ℕ) → length before ≡ 63 →
      HasFault one_way before line TooMany → ⊥
  pub over : (before : List Query) (line : List ℕ) → length before ≡ 64 →
      HasFault one_way before line TooMany

-- the line of a query that goes along an edge and back along one
abbrev pub inverse_line : List ℕ
inverse_line = codes "query q window 5 slide 1 arbitrary:uses/^uses"

-- its query
abbrev pub inverse_query : Query
inverse_query = record {
  name = codes "q";
  window = record { size = 5; slide = 1 };
  mode = Arbitrary;
  expr = Seq (Atom (label_named (codes "uses"))) (Atom (inverse_named (codes "uses")));
}

-- a file of that line gives the query with inverses; without them the '^' is a fault
pub record TwoWayExamples : Type 0 where
  pub given : TwoWayQueries (inverse_line ++ codes "\n") (Ok (inverse_query ∷ []))
  pub without : Queries (inverse_line ++ codes "\n") (Err (fault_at 1 (Expr (Unexpected 6))))
