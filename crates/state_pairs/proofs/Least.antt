-- Least words, label by label.
use Rattle.std.proofs.Common.{◌≡◌, ℕ, suc, ◌<◌, List, [], ◌∷◌, length, Option, Some, refl, sym, ap, ◌∙◌, subst, ⊎_elim, arith}
use Rattle.std.specs.declared.cmp.Ordering.{Ordering}
use Rattle.std.specs.declared.cmp.Ordering.TheVariants.{Less, Equal, Greater}
use Rattle.std.specs.Ordering.{nat_cmp, ordering_then}
use Rattle.std.specs.Cmp.Lexicographic.{slice_cmp}
use Rattle.std.proofs.lemmas.Bool.{cases_lt, cases_order}
use Rattle.std.proofs.lemmas.Cmp.{ranked}
use Rattle.std.proofs.lemmas.Option.{same_Some}
use Rattle.state_pairs.specs.Goals.{GoalGraph, StaysWithin, ReachesGoal, level_at, AreLevels, numbers_cmp, IsLeastWord}
use Rattle.state_pairs.specs.Rounds.{IsNearest}

pub cmp_less : (o : Ordering) (x y : ℕ) → o ≡ nat_cmp x y → x < y → o ≡ Less
cmp_less Less x y is less = refl
cmp_less Equal x y is less = let same = ranked x y Equal is in absurd (omega (arith, less, same))
cmp_less Greater x y is less = let more = ranked x y Greater is in absurd (omega (arith, less, more))

pub cmp_equal : (o : Ordering) (x y : ℕ) → o ≡ nat_cmp x y → x ≡ y → o ≡ Equal
cmp_equal Less x y is same = let less = ranked x y Less is in absurd (omega (arith, less, same))
cmp_equal Equal x y is same = refl
cmp_equal Greater x y is same = let more = ranked x y Greater is in absurd (omega (arith, more, same))

pub cmp_more : (o : Ordering) (x y : ℕ) → o ≡ nat_cmp x y → y < x → o ≡ Greater
cmp_more Less x y is more = let less = ranked x y Less is in absurd (omega (arith, less, more))
cmp_more Equal x y is more = let same = ranked x y Equal is in absurd (omega (arith, more, same))
cmp_more Greater x y is more = refl

-- a shorter word is less
shorter : (first second : List ℕ) → length first < length second → numbers_cmp first second ≡ Less
shorter first second less = ap (λ (o : Ordering). ordering_then o (slice_cmp nat_cmp first second)) (cmp_less (nat_cmp (length first) (length second)) (length first) (length second) refl less)

-- words of one length are compared label by label
as_long : (first second : List ℕ) → length first ≡ length second → numbers_cmp first second ≡ slice_cmp nat_cmp first second
as_long first second same = ap (λ (o : Ordering). ordering_then o (slice_cmp nat_cmp first second)) (cmp_equal (nat_cmp (length first) (length second)) (length first) (length second) refl same)

less_label : (a b : ℕ) (first second : List ℕ) → a < b → slice_cmp nat_cmp (a ∷ first) (b ∷ second) ≡ Less
less_label a b first second less = ap (λ (o : Ordering). ordering_then o (slice_cmp nat_cmp first second)) (cmp_less (nat_cmp a b) a b refl less)

same_label : (a b : ℕ) (first second : List ℕ) → a ≡ b → slice_cmp nat_cmp (a ∷ first) (b ∷ second) ≡ slice_cmp nat_cmp first second
same_label a b first second same = ap (λ (o : Ordering). ordering_then o (slice_cmp nat_cmp first second)) (cmp_equal (nat_cmp a b) a b refl same)

not_greater : (o : Ordering) → o ≡ Less → o ≡ Greater → ⊥
not_greater Less is other = cc
not_greater Equal is other = cc
not_greater Greater is other = cc

-- a goal is reached by the empty word, and no word is less
pub goal_is_least : (graph : GoalGraph) (levels : List (Option ℕ)) (node : ℕ) → AreLevels graph levels → level_at levels node ≡ Some 0 → IsLeastWord graph node []
goal_is_least graph levels node are is = record {
  reaches = empty_word (are.short node 0 is).0 (are.short node 0 is).1 (are.short node 0 is).2;
  least = λ other reaches more. empty_least other more;
}
  where
    empty_word : (word : List ℕ) → length word ≡ 0 → ReachesGoal graph node word → ReachesGoal graph node []
    empty_word [] none reaches = reaches
    empty_word (label ∷ word) none reaches = absurd (omega (arith, none))

    empty_least : (other : List ℕ) → numbers_cmp [] other ≡ Greater → ⊥
    empty_least [] more = cc
    empty_least (label ∷ other) more = not_greater (numbers_cmp [] (label ∷ other)) (shorter [] (label ∷ other) (omega arith)) more

-- the level after the first label of a word that isn't longer than the level
level_after : (graph : GoalGraph) (levels : List (Option ℕ)) (node b next level : ℕ) (z : List ℕ) → AreLevels graph levels → StaysWithin graph → node < graph.node_count → level_at levels node ≡ Some (suc level) →
    b < graph.label_count → graph.leads node b ≡ Some next → ReachesGoal graph next z → length z ≡ level → level_at levels next ≡ Some level
level_after graph levels node b next level z are stays below is within leads reaches long =
    let has = are.least next z (stays node b next leads) reaches in
    let found = are.short next has.0 has.1 in
    let back = are.least node (b ∷ found.0) below (within, (next, leads, found.2)) in
    let same = same_Some (suc level) back.0 (sym is ∙ back.1) in
    let equal : has.0 ≡ level = omega (arith, has.2, long, back.2, same, found.1) in
    has.1 ∙ ap (λ (n : ℕ). Some n) equal

-- a word with another first label, or with the same one
least_of : (graph : GoalGraph) (levels : List (Option ℕ)) (node label next level b further : ℕ) (rest z : List ℕ) → AreLevels graph levels → StaysWithin graph → node < graph.node_count →
    level_at levels node ≡ Some (suc level) → IsNearest graph levels level node label next → length rest ≡ level → IsLeastWord graph next rest →
    b < graph.label_count → graph.leads node b ≡ Some further → ReachesGoal graph further z → length z ≡ level → numbers_cmp (label ∷ rest) (b ∷ z) ≡ Greater → ⊥
least_of graph levels node label next level b further rest z are stays below is nearest long least within leads reaches as_many more =
    let there = level_after graph levels node b further level z are stays below is within leads reaches as_many in
    let by_labels : numbers_cmp (label ∷ rest) (b ∷ z) ≡ slice_cmp nat_cmp (label ∷ rest) (b ∷ z) = as_long (label ∷ rest) (b ∷ z) (omega (arith, long, as_many)) in
    ⊎_elim
    (λ same.
    let one : next ≡ further = same_Some next further (sym nearest.leads ∙ (ap (graph.leads node) same ∙ leads)) in
    least.least z (subst (λ (n : ℕ). ReachesGoal graph n z) (sym one) reaches)
    (as_long rest z (omega (arith, long, as_many)) ∙ (sym (same_label label b rest z same) ∙ (sym by_labels ∙ more))))
    (λ other. ⊎_elim
    (λ before. not_greater (numbers_cmp (label ∷ rest) (b ∷ z)) (by_labels ∙ less_label label b rest z before) more)
    (λ after. nearest.least b further after leads there)
    other)
    (cases_order label b)

least_among : (other : List ℕ) (graph : GoalGraph) (levels : List (Option ℕ)) (node label next level : ℕ) (rest : List ℕ) → AreLevels graph levels → StaysWithin graph → node < graph.node_count →
    level_at levels node ≡ Some (suc level) → IsNearest graph levels level node label next → length rest ≡ level → IsLeastWord graph next rest →
    ReachesGoal graph node other → numbers_cmp (label ∷ rest) other ≡ Greater → ⊥
least_among [] graph levels node label next level rest are stays below is nearest long least reaches more =
    let has = are.least node [] below reaches in let same = same_Some (suc level) has.0 (sym is ∙ has.1) in omega (arith, has.2, same)
least_among (b ∷ z) graph levels node label next level rest are stays below is nearest long least reaches more =
    let has = are.least node (b ∷ z) below reaches in
    let same = same_Some (suc level) has.0 (sym is ∙ has.1) in
    ⊎_elim
    (λ longer. not_greater (numbers_cmp (label ∷ rest) (b ∷ z)) (shorter (label ∷ rest) (b ∷ z) (omega (arith, longer, long))) more)
    (λ at_most. least_of graph levels node label next level b reaches.1.0 rest z are stays below is nearest long least reaches.0 reaches.1.1 reaches.1.2 (omega (arith, at_most, has.2, same)) more)
    (cases_lt level (length z))

-- the nearest label and then the least word from there
pub least_step : (graph : GoalGraph) (levels : List (Option ℕ)) (node label next level : ℕ) (rest : List ℕ) → AreLevels graph levels → StaysWithin graph → node < graph.node_count →
    level_at levels node ≡ Some (suc level) → IsNearest graph levels level node label next → length rest ≡ level → IsLeastWord graph next rest → IsLeastWord graph node (label ∷ rest)
least_step graph levels node label next level rest are stays below is nearest long least = record {
  reaches = (nearest.within, (next, nearest.leads, least.reaches));
  least = λ other reaches more. least_among other graph levels node label next level rest are stays below is nearest long least reaches more;
}

-- a node with a level above 0 has a step to one of the level below
pub has_near : (graph : GoalGraph) (levels : List (Option ℕ)) (node level : ℕ) → AreLevels graph levels → StaysWithin graph → node < graph.node_count → level_at levels node ≡ Some (suc level) →
    (label : ℕ) × ((next : ℕ) × (label < graph.label_count) × (graph.leads node label ≡ Some next) × (level_at levels next ≡ Some level))
has_near graph levels node level are stays below is = by_word (are.short node (suc level) is).0 (are.short node (suc level) is).1 (are.short node (suc level) is).2
  where
    by_word : (word : List ℕ) → length word ≡ suc level → ReachesGoal graph node word →
        (label : ℕ) × ((next : ℕ) × (label < graph.label_count) × (graph.leads node label ≡ Some next) × (level_at levels next ≡ Some level))
    by_word [] long reaches = absurd (omega (arith, long))
    by_word (label ∷ word) long reaches =
        (label, (reaches.1.0, reaches.0, reaches.1.1, level_after graph levels node label reaches.1.0 level word are stays below is reaches.0 reaches.1.1 reaches.1.2 (omega (arith, long))))
