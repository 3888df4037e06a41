-- A graph has one list of levels, and two states one least word.
use Rattle.std.proofs.Common.{◌≡◌, ◌≢◌, ℕ, ◌<◌, List, length, map, Option, Some, None, refl, sym, ap, ◌∙◌, arith}
use Rattle.std.specs.declared.cmp.Ordering.{Ordering}
use Rattle.std.specs.declared.cmp.Ordering.TheVariants.{Less, Equal, Greater}
use Rattle.std.specs.Ordering.{nat_cmp, ordering_reverse}
use Rattle.std.specs.Cmp.Lexicographic.{slice_cmp}
use Rattle.std.proofs.lemmas.List.{ext_get_or}
use Rattle.std.proofs.lemmas.Map.Lookups.{exact_bytes}
use Rattle.std.proofs.lemmas.Option.{none-some, same_Some}
use Rattle.rpq_base.proofs.Orders.{both_equal, word_cmp_total}
use Rattle.rpq_base.specs.Order.{word_cmp}
use Rattle.dfa_table.specs.DfaValue.{label_at}
use Rattle.state_pairs.specs.Goals.{GoalGraph, level_at, HasLevelUpTo, AreLevels, numbers_cmp}
use Rattle.state_pairs.specs.Laws.{OneListOfLevels, OneLeastExtra}
use Rattle.state_pairs.proofs.Extra.{word_cmp_at}
use Rattle.state_pairs.proofs.Rounds.{level_within}

-- ---- levels

-- where one list has a level, the other has one that is no greater
no_greater : (graph : GoalGraph) (first second : List (Option ℕ)) (node level : ℕ) → AreLevels graph first → AreLevels graph second → level_at first node ≡ Some level →
    HasLevelUpTo second node level
no_greater graph first second node level one other is =
    let found = one.short node level is in
    let below : node < graph.node_count = omega (arith, level_within first node level is, one.as_many) in
    let has = other.least node found.0 below found.2 in
    (has.0, has.1, omega (arith, has.2, found.1))

one_level : (o other : Option ℕ) (graph : GoalGraph) (first second : List (Option ℕ)) (node : ℕ) → AreLevels graph first → AreLevels graph second →
    level_at first node ≡ o → level_at second node ≡ other → o ≡ other
one_level None None graph first second node are are2 is is2 = refl
one_level None (Some level) graph first second node are are2 is is2 =
    let has = no_greater graph second first node level are2 are is2 in absurd (none-some has.0 (sym is ∙ has.1))
one_level (Some level) None graph first second node are are2 is is2 =
    let has = no_greater graph first second node level are are2 is in absurd (none-some has.0 (sym is2 ∙ has.1))
one_level (Some level) (Some other) graph first second node are are2 is is2 =
    let has = no_greater graph first second node level are are2 is in
    let back = no_greater graph second first node other are2 are is2 in
    let same = same_Some other has.0 (sym is2 ∙ has.1) in
    let same2 = same_Some level back.0 (sym is ∙ back.1) in
    let equal : level ≡ other = omega (arith, has.2, back.2, same, same2) in
    ap (λ (n : ℕ). Some n) equal

pub one_list_of_levels : OneListOfLevels
one_list_of_levels graph first second are are2 =
    ext_get_or None first second (are.as_many ∙ sym are2.as_many)
    (λ node below. one_level (level_at first node) (level_at second node) graph first second node are are2 refl refl)

-- ---- least words

neither_greater : (o : Ordering) → o ≢ Greater → ordering_reverse o ≢ Greater → o ≡ Equal
neither_greater Less most least = absurd (least refl)
neither_greater Equal most least = refl
neither_greater Greater most least = absurd (most refl)

same_numbers : (first second : List ℕ) → numbers_cmp first second ≡ Equal → first ≡ second
same_numbers first second equal =
    exact_bytes first second (both_equal (nat_cmp (length first) (length second)) (slice_cmp nat_cmp first second) equal).1

pub one_least_extra : OneLeastExtra
one_least_extra dfa beside state first second valid least least2 =
    let one = map (label_at dfa) first in
    let other = map (label_at dfa) second in
    same_numbers first second
    (sym (word_cmp_at dfa first second valid least.within least2.within)
    ∙ neither_greater (word_cmp one other) (least.least other least2.extra)
    (λ more. least2.least one least.extra (word_cmp_total.antisymm other one ∙ more)))
