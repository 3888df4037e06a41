-- Levels from one round to the next, and at the end.
use Rattle.std.proofs.Common.{◌≡◌, ℕ, zero, suc, ◌<◌, ◌≤◌, List, [], ◌∷◌, ◌++◌, get_or, length, take, drop, Option, Some, None, refl, sym, ap, ◌∙◌, ⊎_elim, inr, arith, Contains}
use Rattle.std.proofs.lemmas.Bool.{cases_lt}
use Rattle.std.proofs.lemmas.List.{ext_get_or, append-nil, drop_all, take_all}
use Rattle.std.proofs.lemmas.List.Elements.{Contains-get_or}
use Rattle.std.proofs.lemmas.Option.{none-some, same_Some}
use Rattle.state_pairs.specs.Goals.{GoalGraph, StaysWithin, ReachesGoal, level_at, HasLevelUpTo, AreLevels}
use Rattle.state_pairs.specs.Rounds.{AreLevelsUpTo, AreOfLevel, IsNear, IsNextRound, IsRound}
use Rattle.state_pairs.specs.Sources.{AreSources}
use Rattle.state_pairs.proofs.Counts.{lacking, fewer}

-- a node with a step to one of a lower level has a level
lower : (graph : GoalGraph) (depth : ℕ) (levels : List (Option ℕ)) (node label next level : ℕ) → AreLevelsUpTo graph depth levels → node < graph.node_count →
    label < graph.label_count → graph.leads node label ≡ Some next → level_at levels next ≡ Some level → level < depth → HasLevelUpTo levels node (suc level)
lower graph depth levels node label next level are below within leads is less =
    let found = are.short next level is in
    let longer : length (label ∷ found.0) ≡ suc level = ap (λ (n : ℕ). suc n) found.1 in
    let has = are.least node (label ∷ found.0) below (within, (next, leads, found.2)) (omega (arith, longer)) in
    (has.0, has.1, omega (arith, has.2, longer))

-- a node without a level whose step leads to one with a level at most the depth: that level is the depth
last : (graph : GoalGraph) (depth : ℕ) (levels : List (Option ℕ)) (node label next level : ℕ) → AreLevelsUpTo graph depth levels → node < graph.node_count →
    label < graph.label_count → graph.leads node label ≡ Some next → level_at levels next ≡ Some level → level_at levels node ≡ None → level ≡ depth
last graph depth levels node label next level are below within leads is none = ⊎_elim
    (λ less. let has = lower graph depth levels node label next level are below within leads is less in absurd (none-some has.0 (sym none ∙ has.1)))
    (λ more. let low = are.low next level is in omega (arith, more, low))
    (cases_lt level depth)

-- ---- one more round

-- a node with a level is one of the nodes
pub level_within : (levels : List (Option ℕ)) (node level : ℕ) → level_at levels node ≡ Some level → node < length levels
level_within [] node level is = absurd (none-some level is)
level_within (first ∷ levels) zero level is = omega arith
level_within (first ∷ levels) (suc node) level is = omega (arith, level_within levels node level is)

pub kept : (graph : GoalGraph) (depth : ℕ) (before after : List (Option ℕ)) (node level : ℕ) → IsNextRound graph depth before after → level_at before node ≡ Some level → level_at after node ≡ Some level
kept graph depth before after node level round is = (round.each node (level_within before node level is)).kept level is

new : (graph : GoalGraph) (depth : ℕ) (before after : List (Option ℕ)) (node level : ℕ) → IsNextRound graph depth before after → level_at before node ≡ None → level_at after node ≡ Some level →
    (level ≡ suc depth) × IsNear graph before depth node
new graph depth before after node level round is there =
    let below = level_within after node level there in (round.each node (omega (arith, below, round.as_many))).new level is there

least_more : (o : Option ℕ) (graph : GoalGraph) (depth : ℕ) (before after : List (Option ℕ)) (node : ℕ) (word : List ℕ) → AreLevelsUpTo graph depth before → StaysWithin graph → IsNextRound graph depth before after →
    node < graph.node_count → ReachesGoal graph node word → length word ≤ suc depth → level_at before node ≡ o → HasLevelUpTo after node (length word)
least_more (Some level) graph depth before after node word are stays round below reaches short is = ⊎_elim
    (λ less. let has = are.least node word below reaches (omega (arith, less)) in (has.0, kept graph depth before after node has.0 round has.1, has.2))
    (λ more. let low = are.low node level is in (level, kept graph depth before after node level round is, omega (arith, low, more)))
    (cases_lt (length word) (suc depth))
least_more None graph depth before after node [] are stays round below reaches short is =
    let has = are.least node [] below reaches (omega arith) in absurd (none-some has.0 (sym is ∙ has.1))
least_more None graph depth before after node (label ∷ word) are stays round below reaches short is =
    let within = reaches.0 in
    let next = reaches.1.0 in
    let leads = reaches.1.1 in
    let few : length word ≤ depth = omega (arith, short) in
    let has = are.least next word (stays node label next leads) reaches.1.2 few in
    let same : has.0 ≡ depth = last graph depth before node label next has.0 are below within leads has.1 is in
    let there : level_at before next ≡ Some depth = has.1 ∙ ap (λ (n : ℕ). Some n) same in
    let fits : node < length before = omega (arith, below, are.as_many) in
    (suc depth, (round.each node fits).near is (record { label = label; next = next; within = within; leads = leads; level = there }), omega (arith, has.2, same))

low_more : (o : Option ℕ) (graph : GoalGraph) (depth : ℕ) (before after : List (Option ℕ)) (node level : ℕ) → AreLevelsUpTo graph depth before → IsNextRound graph depth before after →
    level_at before node ≡ o → level_at after node ≡ Some level → level ≤ suc depth
low_more (Some old) graph depth before after node level are round is there =
    let low = are.low node old is in let same = same_Some old level (sym (kept graph depth before after node old round is) ∙ there) in omega (arith, low, same)
low_more None graph depth before after node level are round is there = let new = new graph depth before after node level round is there in omega (arith, new.0)

short_more : (o : Option ℕ) (graph : GoalGraph) (depth : ℕ) (before after : List (Option ℕ)) (node level : ℕ) → AreLevelsUpTo graph depth before → IsNextRound graph depth before after →
    level_at before node ≡ o → level_at after node ≡ Some level → (word : List ℕ) × (length word ≡ level) × ReachesGoal graph node word
short_more (Some old) graph depth before after node level are round is there =
    let same = same_Some old level (sym (kept graph depth before after node old round is) ∙ there) in
    let found = are.short node old is in
    (found.0, found.1 ∙ same, found.2)
short_more None graph depth before after node level are round is there =
    let new = new graph depth before after node level round is there in
    let found = are.short new.1.next depth new.1.level in
    (new.1.label ∷ found.0, ap (λ (n : ℕ). suc n) found.1 ∙ sym new.0, (new.1.within, (new.1.next, new.1.leads, found.2)))

pub one_more : (graph : GoalGraph) (depth : ℕ) (before after : List (Option ℕ)) → AreLevelsUpTo graph depth before → StaysWithin graph → IsNextRound graph depth before after → AreLevelsUpTo graph (suc depth) after
one_more graph depth before after are stays round = record {
  as_many = round.as_many ∙ are.as_many;
  low = λ node level there. low_more (level_at before node) graph depth before after node level are round refl there;
  short = λ node level there. short_more (level_at before node) graph depth before after node level are round refl there;
  least = λ node word below reaches short. least_more (level_at before node) graph depth before after node word are stays round below reaches short refl;
}

-- ---- the end

least_some : (o : Option ℕ) (label : ℕ) (word : List ℕ) (graph : GoalGraph) (depth : ℕ) (levels : List (Option ℕ)) (node : ℕ) → AreLevelsUpTo graph depth levels → IsNextRound graph depth levels levels →
    node < graph.node_count → ReachesGoal graph node (label ∷ word) → (next : ℕ) → label < graph.label_count → graph.leads node label ≡ Some next → HasLevelUpTo levels next (length word) →
    level_at levels node ≡ o → HasLevelUpTo levels node (suc (length word))
least_some (Some level) label word graph depth levels node are round below reaches next within leads has is = ⊎_elim
    (λ less. are.least node (label ∷ word) below reaches (omega (arith, less)))
    (λ more. let low = are.low node level is in (level, is, omega (arith, low, more)))
    (cases_lt (length word) depth)
least_some None label word graph depth levels node are round below reaches next within leads has is =
    let same = last graph depth levels node label next has.0 are below within leads has.1 is in
    let there : level_at levels next ≡ Some depth = has.1 ∙ ap (λ (n : ℕ). Some n) same in
    let fits : node < length levels = omega (arith, below, are.as_many) in
    let now = (round.each node fits).near is (record { label = label; next = next; within = within; leads = leads; level = there }) in
    absurd (none-some (suc depth) (sym is ∙ now))

least_at_last : (word : List ℕ) (graph : GoalGraph) (depth : ℕ) (levels : List (Option ℕ)) (node : ℕ) → AreLevelsUpTo graph depth levels → StaysWithin graph → IsNextRound graph depth levels levels →
    node < graph.node_count → ReachesGoal graph node word → HasLevelUpTo levels node (length word)
least_at_last [] graph depth levels node are stays round below reaches = are.least node [] below reaches (omega arith)
least_at_last (label ∷ word) graph depth levels node are stays round below reaches =
    let next = reaches.1.0 in
    let leads = reaches.1.1 in
    let has = least_at_last word graph depth levels next are stays round (stays node label next leads) reaches.1.2 in
    least_some (level_at levels node) label word graph depth levels node are round below reaches next reaches.0 leads has refl

pub at_last : (graph : GoalGraph) (depth : ℕ) (levels : List (Option ℕ)) → AreLevelsUpTo graph depth levels → StaysWithin graph → IsNextRound graph depth levels levels → AreLevels graph levels
at_last graph depth levels are stays round = record {
  as_many = are.as_many;
  short = are.short;
  least = λ node word below reaches. least_at_last word graph depth levels node are stays round below reaches;
}

-- ---- a round, by the steps backwards

-- the nodes that get the level are near the last ones
pub round_is : (graph : GoalGraph) (lists : List (List ℕ)) (latest : List ℕ) (depth : ℕ) (before after : List (Option ℕ)) (found : List ℕ) → AreSources graph graph.node_count lists →
    AreOfLevel before depth latest → length before ≡ graph.node_count → IsRound lists latest (suc depth) before after found → IsNextRound graph depth before after
round_is graph lists latest depth before after found sources of_level as_many round = record {
  as_many = round.as_many;
  each = λ node below. record {
    kept = λ level is. round.kept node level is;
    near = λ none near.
        let fits : node < graph.node_count = omega (arith, below, as_many) in
        let listed = (sources.each near.next node).1 (fits, (near.label, near.within, near.leads)) in
        round.meant node (near.next, (of_level near.next).1 near.level, listed) none;
    new = λ level none is.
        let has = round.new node level none is in
        let step = ((sources.each has.1.0 node).0 has.1.2).1 in
        let there = (of_level has.1.0).0 has.1.1 in
        (has.0, record { label = step.0; next = has.1.0; within = step.1; leads = step.2; level = there });
  };
}

-- those found are the nodes of the next level
pub of_next_level : (graph : GoalGraph) (lists : List (List ℕ)) (latest : List ℕ) (depth : ℕ) (before after : List (Option ℕ)) (found : List ℕ) → AreLevelsUpTo graph depth before →
    IsRound lists latest (suc depth) before after found → AreOfLevel after (suc depth) found
of_next_level graph lists latest depth before after found are round node = (
  (λ there. ⊎_elim (λ old. absurd (omega (arith, old.1))) (λ both. both.1) ((round.listed node).0 there)),
  (λ is. by_cases (level_at before node) refl is),
)
  where
    by_cases : (o : Option ℕ) → level_at before node ≡ o → level_at after node ≡ Some (suc depth) → Contains found node
    by_cases None none is = (round.listed node).1 (inr (none, is))
    by_cases (Some old) there is =
        let low = are.low node old there in
        let same = same_Some (suc depth) old (sym is ∙ round.kept node old there) in
        absurd (omega (arith, low, same))

-- where none is found, nothing changed
pub unchanged : (lists : List (List ℕ)) (latest : List ℕ) (level : ℕ) (before after : List (Option ℕ)) (found : List ℕ) → IsRound lists latest level before after found → length found ≡ 0 → after ≡ before
unchanged lists latest level before after found round none = ext_get_or None after before round.as_many (λ node below. by_cases node (level_at before node) (level_at after node) refl refl)
  where
    by_cases : (node : ℕ) (old now : Option ℕ) → level_at before node ≡ old → level_at after node ≡ now → level_at after node ≡ level_at before node
    by_cases node (Some old) now is there = round.kept node old is ∙ sym is
    by_cases node None None is there = there ∙ sym is
    by_cases node None (Some now) is there =
        let new = round.new node now is there in
        let listed = (round.listed node).1 (inr (is, there ∙ ap (λ (n : ℕ). Some n) new.0)) in
        absurd (omega (arith, listed.1, none))

-- where some are found, fewer nodes lack a level
pub fewer_lack : (lists : List (List ℕ)) (latest : List ℕ) (level : ℕ) (before after : List (Option ℕ)) (found : List ℕ) → IsRound lists latest level before after found → 0 < length found → lacking after < lacking before
fewer_lack lists latest level before after found round some = ⊎_elim
    (λ less. less)
    (λ same.
    let node = get_or found 0 0 in
    ⊎_elim
    (λ old. absurd (omega (arith, old.1)))
    (λ both. absurd (none-some level (sym both.0 ∙ (sym (ap (λ (levels : List (Option ℕ)). level_at levels node) same) ∙ both.1))))
    ((round.listed node).0 (Contains-get_or found 0 0 some)))
    (fewer before after round.as_many (λ node old is. round.kept node old is))

-- ---- memory

-- a list that is lent and comes back as long as before
pub written_back : {X : Type 0} → (new old : List X) (size : ℕ) → length new ≡ length old → length old ≡ size → take size (new ++ drop (length new) old) ≡ new
written_back new old size as_many is =
    ap (λ (rest : List _). take size (new ++ rest)) (drop_all (length new) old (omega (arith, as_many)))
    ∙ (ap (take size) (append-nil new) ∙ take_all size new (omega (arith, as_many, is)))
