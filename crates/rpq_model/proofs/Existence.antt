-- Each history has a list of the answers of a query that takes all paths.
use Rattle.std.proofs.Common.{◌≡◌, ℕ, Bool, true, false, List, [], ◌∷◌, filter, fold, refl, ◌⊎◌}
use Rattle.std.proofs.Common.{inl, inr, ⊎_elim}
use Rattle.std.specs.Prelude.{Contains}
use Rattle.std.specs.List.Sorted.{IsStrictlySortedBy}
use Rattle.std.proofs.lemmas.Bool.{false≢true}
use Rattle.rpq_base.specs.Order.{pair_cmp}
use Rattle.rpq_base.specs.Same.{same_name, same_label}
use Rattle.rpq_base.specs.declared.data.Edge.{Edge}
use Rattle.rpq_base.specs.declared.data.Pair.{Pair}
use Rattle.rpq_base.proofs.Orders.{pair_cmp_total}
use Rattle.rpq_base.proofs.Members.{none_in, in_front}
use Rattle.rpq_base.proofs.Sorted.{sorted_nil, fold_sorted}
use Rattle.path_syntax.specs.Expression.{Expression, Atom, Seq, Alt, Star, Plus, Opt}
use Rattle.path_syntax.specs.Language.{In}
use Rattle.path_syntax.specs.Laws.{is_nullable, NullableHasEmptyWord}
use Rattle.rpq_model.specs.declared.mode.Mode.TheVariants.{Arbitrary}
use Rattle.rpq_model.specs.Window.{clock, edges_at}
use Rattle.rpq_model.specs.Answers.{IsJoinedBy}
use Rattle.rpq_model.specs.Relations.{between, targets, AreExactly, IsComposed, IsPairOver}
use Rattle.rpq_model.specs.Relations.{IsReached}
use Rattle.rpq_model.specs.AnswerLaws.{HistoriesHaveAnswers}
use Rattle.rpq_model.proofs.Composing.{with_edge, with_one, with_longer, exactly_same, all_added}
use Rattle.rpq_model.proofs.Composing.{longer_added, composed_more, first_added}
use Rattle.rpq_model.proofs.Closing.{IsReachedOver, reached_at_first, reached_more, over_composed}
use Rattle.rpq_model.proofs.Closing.{reached_at_last}
use Rattle.rpq_model.proofs.ByLabel.{edges_join}
use Rattle.rpq_model.proofs.ByCases.{sequence_joined, alternative_joined, star_joined, plus_joined}
use Rattle.rpq_model.proofs.ByCases.{optional_joined}
use Rattle.rpq_model.proofs.Answered.{answered}

-- ---- relations with a list

-- a relation that is that of a list of pairs
record IsListed (relation : Pair → Type 0) : Type 0 where
  pub pairs : List Pair
  pub are : AreExactly relation pairs

-- no pair
nothing : (relation : Pair → Type 0) → ((pair : Pair) → relation pair → ⊥) → IsListed relation
nothing relation none = record {
  pairs = [];
  are = record { sorted = sorted_nil pair_cmp; exact = λ pair. ((λ member. absurd (none_in pair member)), (λ holds. absurd (none pair holds))) };
}

-- the members of a sorted list
itself : (pairs : List Pair) → IsStrictlySortedBy pair_cmp pairs → IsListed (Contains pairs)
itself pairs sorted = record { pairs = pairs; are = record { sorted = sorted; exact = λ pair. ((λ member. member), (λ member. member)) } }

-- one relation or the other
either_listed : (relation other : Pair → Type 0) → IsListed relation → IsListed other →
    IsListed (λ pair. relation pair ⊎ other pair)
either_listed relation other first second =
    let all = fold with_one first.pairs second.pairs in
    let members = all_added second.pairs first.pairs all refl in
    record {
      pairs = all;
      are = record {
        sorted = fold_sorted pair_cmp_total second.pairs (λ pair. true) (λ pair. pair) first.pairs first.are.sorted;
        exact = λ pair. (
          (λ member. ⊎_elim (λ here. inl ((first.are.exact pair).0 here)) (λ there. inr ((second.are.exact pair).0 there)) ((members pair).0 member)),
          (λ holds. (members pair).1 (⊎_elim (λ here. inl ((first.are.exact pair).1 here)) (λ there. inr ((second.are.exact pair).1 there)) holds)),
        );
      };
    }

-- a relation where a test holds
guarded_listed : (test : Bool) (relation : Pair → Type 0) → IsListed relation →
    IsListed (λ pair. (test ≡ true) × relation pair)
guarded_listed true relation listed = record {
  pairs = listed.pairs;
  are = exactly_same relation (λ pair. (true ≡ true) × relation pair) listed.pairs (λ pair. ((λ holds. (refl, holds)), (λ both. both.1))) listed.are;
}
guarded_listed false relation listed = nothing (λ pair. (false ≡ true) × relation pair) (λ pair both. false≢true both.0)

-- compositions
composed_listed : (firsts seconds : List Pair) → IsListed (IsComposed firsts seconds)
composed_listed [] seconds = nothing (IsComposed [] seconds) (λ pair composed. none_in (between pair.from composed.0) composed.1)
composed_listed (first ∷ rest) seconds =
    let found = composed_listed rest seconds in
    let more = fold (with_longer first) found.pairs seconds in
    let members = composed_more rest first (first ∷ rest) seconds [] found.pairs more (in_front first rest)
    (λ pair. (
      (λ member. inr ((found.are.exact pair).0 member)),
      (λ either. (found.are.exact pair).1
          (⊎_elim (λ none. absurd (none_in pair none)) (λ composed. composed) either)),
    ))
    (longer_added seconds first found.pairs more refl) in
    record {
      pairs = more;
      are = record {
        sorted = fold_sorted pair_cmp_total seconds (λ (each : Pair). same_name each.from first.to)
            (λ (each : Pair). between first.from each.to) found.pairs found.are.sorted;
        exact = first_added (IsComposed (first ∷ rest) seconds) [] more refl members;
      };
    }

-- compositions over a vertex
over_listed : (pairs : List Pair) (vertex : List ℕ) → IsStrictlySortedBy pair_cmp pairs →
    IsListed (IsPairOver pairs vertex)
over_listed pairs vertex sorted =
    let firsts = filter (λ (pair : Pair). same_name pair.to vertex) pairs in
    let seconds = filter (λ (pair : Pair). same_name pair.from vertex) pairs in
    let all = either_listed (Contains pairs) (IsComposed firsts seconds) (itself pairs sorted) (composed_listed firsts seconds) in
    record { pairs = all.pairs; are = record { sorted = all.are.sorted; exact = over_composed pairs vertex firsts seconds all.pairs refl refl all.are.exact } }

-- what is reached over some vertices
reached_over_listed : (allowed : List (List ℕ)) (pairs : List Pair) →
    IsStrictlySortedBy pair_cmp pairs → IsListed (IsReachedOver pairs allowed)
reached_over_listed [] pairs sorted = record { pairs = pairs; are = record { sorted = sorted; exact = reached_at_first pairs } }
reached_over_listed (vertex ∷ allowed) pairs sorted =
    let found = reached_over_listed allowed pairs sorted in
    let more = over_listed found.pairs vertex found.are.sorted in
    record {
      pairs = more.pairs;
      are = record {
        sorted = more.are.sorted;
        exact = reached_more pairs allowed vertex (vertex ∷ allowed) found.pairs more.pairs (in_front vertex allowed) found.are.exact more.are.exact;
      };
    }

reached_listed : (pairs : List Pair) → IsStrictlySortedBy pair_cmp pairs →
    IsListed (IsReached pairs)
reached_listed pairs sorted =
    let found = reached_over_listed (targets pairs) pairs sorted in
    let last = reached_at_last pairs (targets pairs) (λ vertex. ((λ member. member), (λ member. member))) in
    record { pairs = found.pairs; are = exactly_same (IsReachedOver pairs (targets pairs)) (IsReached pairs) found.pairs last found.are }

-- ---- expressions

-- what an expression joins
joined_listed : (expr : Expression) (edges : List Edge) → NullableHasEmptyWord →
    IsListed (IsJoinedBy edges (In expr) Arbitrary)
joined_listed (Atom label) edges nullable =
    let found = fold (with_edge label) [] edges in
    record {
      pairs = found;
      are = record {
        sorted = fold_sorted pair_cmp_total edges (λ (edge : Edge). same_label edge.label label)
            (λ (edge : Edge). between edge.from edge.to) [] (sorted_nil pair_cmp);
        exact = edges_join edges label found refl;
      };
    }
joined_listed (Seq left right) edges nullable =
    let first = joined_listed left edges nullable in
    let second = joined_listed right edges nullable in
    let no_first = is_nullable left in
    let no_second = is_nullable right in
    let both = IsComposed first.pairs second.pairs in
    let alone : Pair → Type 0 = λ pair. (no_second ≡ true) × Contains first.pairs pair in
    let other : Pair → Type 0 = λ pair. (no_first ≡ true) × Contains second.pairs pair in
    let all = either_listed (λ pair. both pair ⊎ alone pair) other
    (either_listed both alone (composed_listed first.pairs second.pairs)
    (guarded_listed no_second (Contains first.pairs) (itself first.pairs first.are.sorted)))
    (guarded_listed no_first (Contains second.pairs) (itself second.pairs second.are.sorted)) in
    record {
      pairs = all.pairs;
      are = sequence_joined edges
          (Seq left right) left right first.pairs second.pairs all.pairs no_first no_second refl first.are second.are (nullable left) (nullable right) all.are;
    }
joined_listed (Alt left right) edges nullable =
    let first = joined_listed left edges nullable in
    let second = joined_listed right edges nullable in
    let all = either_listed (Contains first.pairs) (Contains second.pairs)
    (itself first.pairs first.are.sorted) (itself second.pairs second.are.sorted) in
    record {
      pairs = all.pairs;
      are = alternative_joined edges
          (Alt left right) left right first.pairs second.pairs all.pairs refl first.are second.are all.are;
    }
joined_listed (Star body) edges nullable =
    let inner = joined_listed body edges nullable in
    let all = reached_listed inner.pairs inner.are.sorted in
    record { pairs = all.pairs; are = star_joined edges (Star body) body inner.pairs all.pairs refl inner.are all.are }
joined_listed (Plus body) edges nullable =
    let inner = joined_listed body edges nullable in
    let all = reached_listed inner.pairs inner.are.sorted in
    record { pairs = all.pairs; are = plus_joined edges (Plus body) body inner.pairs all.pairs refl inner.are all.are }
joined_listed (Opt body) edges nullable =
    let inner = joined_listed body edges nullable in
    record { pairs = inner.pairs; are = optional_joined edges (Opt body) body inner.pairs refl inner.are }

-- a query that takes all paths has answers over each history
pub histories_have_answers : NullableHasEmptyWord → HistoriesHaveAnswers
histories_have_answers nullable query history is =
    let edges = edges_at query.window (clock history) history in
    let joined = joined_listed query.expr edges nullable in (
      joined.pairs,
      answered query query.name query.window query.mode query.expr (clock history) history edges Arbitrary joined.pairs refl is
          (λ edge. ((λ member. member), (λ member. member))) joined.are,
    )
