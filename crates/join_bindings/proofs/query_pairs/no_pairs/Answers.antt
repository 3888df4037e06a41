use Rattle.std.proofs.Common.{List, [], ◌∷◌, ◌++◌, length, ap, arith, length-append}
use Rattle.std.specs.Prelude.{◌≡◌}
use Rattle.std.proofs.lemmas.List.Elements.{All-nil, All-cons, All-append, All-same}
use Rattle.rpq_base.specs.declared.data.Pair.{Pair}
use Rattle.join_bindings.proofs.query_pairs.no_pairs.Goals as goal

pub loop-query-preserved : goal.loop-query-preserved
loop-query-preserved c =
    let sets : List (List Pair) = c.loop-query.sets.items in
    let one : List Pair = c.new.result in
    let grown = ap length c.in_ok-push.ensures.items in
    let many = c.loop-query.invariant.0 in (
      omega (arith, grown, many, length-append sets (one ∷ [])),
      All-same (λ (pairs : List Pair). pairs ≡ []) c.push.new.self.items (sets ++ one ∷ []) c.in_ok-push.ensures.items
          (All-append (λ (pairs : List Pair). pairs ≡ []) sets (one ∷ []) c.loop-query.invariant.1
          (All-cons (λ (pairs : List Pair). pairs ≡ []) one [] c.new.ensures (All-nil (λ (pairs : List Pair). pairs ≡ [])))),
    )
