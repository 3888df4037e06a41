use Rattle.std.proofs.Common.{◌≡◌, ℕ, zero, suc, ◌+◌, ◌<◌, ◌≤◌, ◌==◌, false, List, Option, Contains, sym, ap, ◌∙◌, subst, arith, length}
use Rattle.std.specs.Prelude.{All}
use Rattle.std.proofs.lemmas.Bool.{eqb-true, false≢true}
use Rattle.std.proofs.lemmas.List.Elements.{All-contains_itself, All-weaker}
use Rattle.state_pairs.specs.Goals.{GoalGraph, StaysWithin, AreLevels}
use Rattle.state_pairs.specs.Rounds.{AreLevelsUpTo, AreOfLevel, IsRound, IsNextRound}
use Rattle.state_pairs.specs.Sources.{sources_at, AreSources}
use Rattle.state_pairs.proofs.Counts.{lacking, lacking-le-length}
use Rattle.state_pairs.proofs.Rounds.{level_within, one_more, at_last, round_is, of_next_level, unchanged, fewer_lack, written_back}
use Rattle.state_pairs.proofs.search.levels.Goals as goal

pub loop-last-init : goal.loop-last-init
loop-last-init g c = record {
  are = c.in_ok-levels.ensures;
  of_level = subst (λ (levels : List (Option ℕ)). AreOfLevel levels 0 c.in_ok-last.last.items) c.deref.ensures.value c.in_ok-last.ensures;
  rounds = omega (arith, lacking-le-length c.in_ok-levels.levels.items);
}

pub next_round-requires-clause-last : goal.next_round-requires-clause-last
next_round-requires-clause-last g c =
    let sources = c.in_ok-sources.sources.items in
    let last = c.loop-last.last.items in
    let levels = c.loop-last.levels.items in
    let Are : List (List ℕ) → List ℕ → Type 0 = λ lists nodes. All (λ node. node < length lists) nodes in
    let are : Are sources last =
    All-weaker (Contains last) (λ node. node < length sources)
    (λ node has.
    let below = level_within levels node c.loop-last.depth ((c.loop-last.invariant.of_level node).0 has) in
    omega (arith, below, c.loop-last.invariant.are.as_many, c.in_ok-sources.ensures.as_many))
    last (All-contains_itself last) in
    subst (Are c.deref-in-loop-last.result.now) (sym c.deref-in-loop-last-2.ensures.value)
    (subst (λ (lists : List (List ℕ)). Are lists last) (sym c.deref-in-loop-last.ensures.value) are)

pub next_round-requires-clause-within : goal.next_round-requires-clause-within
next_round-requires-clause-within g c target source has =
    let listed = subst (λ (lists : List (List ℕ)). Contains (sources_at lists target) source) c.deref-in-loop-last.ensures.value has in
    let step = (c.in_ok-sources.ensures.each target source).0 listed in
    omega (arith, step.0, ap length c.deref_mut.ensures.value, c.loop-last.invariant.are.as_many)

-- the round, in terms of the values that were lent to it
round_of : (sources lists : List (List ℕ)) (last nodes : List ℕ) (depth : ℕ) (before levels after : List (Option ℕ)) (found : List ℕ) → lists ≡ sources → nodes ≡ last → levels ≡ before →
    IsRound lists nodes (depth + 1) levels after found → IsRound sources last (suc depth) before after found
round_of sources lists last nodes depth before levels after found same_lists same_nodes same_levels round =
    let next : depth + 1 ≡ suc depth = omega arith in
    subst (λ (all : List (List ℕ)). IsRound all last (suc depth) before after found) same_lists
    (subst (λ (all : List ℕ). IsRound lists all (suc depth) before after found) same_nodes
    (subst (λ (all : List (Option ℕ)). IsRound lists nodes (suc depth) all after found) same_levels
    (subst (λ (level : ℕ). IsRound lists nodes level levels after found) next round)))

some_found : (count : ℕ) → false ≡ (count == 0) → 0 < count
some_found zero other = absurd (false≢true other)
some_found (suc count) other = omega arith

-- where none was found the levels are all there
ended : (graph : GoalGraph) (sources : List (List ℕ)) (last : List ℕ) (depth : ℕ) (before after : List (Option ℕ)) (found : List ℕ) → StaysWithin graph → AreSources graph graph.node_count sources →
    AreLevelsUpTo graph depth before → AreOfLevel before depth last → IsRound sources last (suc depth) before after found → length found ≡ 0 → AreLevels graph after
ended graph sources last depth before after found stays are_sources are of_level round none =
    let same = unchanged sources last (suc depth) before after found round none in
    let next = round_is graph sources last depth before after found are_sources of_level are.as_many round in
    subst (AreLevels graph) (sym same) (at_last graph depth before are stays (subst (IsNextRound graph depth before) same next))

pub returns-then-is_empty : goal.returns-then-is_empty
returns-then-is_empty g c =
    let graph = g.G.Graph.graph c.args.graph.now in
    let before = c.loop-last.levels.items in
    let after = c.next_round.new.levels in
    let found = c.in_ok-found.found in
    let round = round_of c.in_ok-sources.sources.items c.deref-in-loop-last.result.now c.loop-last.last.items c.deref-in-loop-last-2.result.now c.loop-last.depth before c.deref_mut.result.now after found.items
    c.deref-in-loop-last.ensures.value c.deref-in-loop-last-2.ensures.value c.deref_mut.ensures.value c.in_ok-found.ensures in
    let none : length found.items ≡ 0 = sym found.ok.0 ∙ eqb-true found.len 0 (sym c.if-is_empty.ensures) in
    subst (AreLevels graph) (sym (written_back after before c.loop-last.levels.len round.as_many (sym c.loop-last.levels.ok.0)))
    (ended graph c.in_ok-sources.sources.items c.loop-last.last.items c.loop-last.depth before after found.items c.requires.within c.in_ok-sources.ensures
    c.loop-last.invariant.are c.loop-last.invariant.of_level round none)

pub loop-last-smaller : goal.loop-last-smaller
loop-last-smaller g c =
    let before = c.loop-last.levels.items in
    let after = c.next_round.new.levels in
    let found = c.in_ok-found.found in
    let round = round_of c.in_ok-sources.sources.items c.deref-in-loop-last.result.now c.loop-last.last.items c.deref-in-loop-last-2.result.now c.loop-last.depth before c.deref_mut.result.now after found.items
    c.deref-in-loop-last.ensures.value c.deref-in-loop-last-2.ensures.value c.deref_mut.ensures.value c.in_ok-found.ensures in
    let some : 0 < length found.items = omega (arith, some_found found.len c.if-is_empty.ensures, found.ok.0) in
    subst (λ (levels : List (Option ℕ)). lacking levels < lacking before) (sym (written_back after before c.loop-last.levels.len round.as_many (sym c.loop-last.levels.ok.0)))
    (fewer_lack c.in_ok-sources.sources.items c.loop-last.last.items (suc c.loop-last.depth) before after found.items round some)

pub loop-last-preserved : goal.loop-last-preserved
loop-last-preserved g c =
    let graph = g.G.Graph.graph c.args.graph.now in
    let sources = c.in_ok-sources.sources.items in
    let last = c.loop-last.last.items in
    let depth = c.loop-last.depth in
    let before = c.loop-last.levels.items in
    let after = c.next_round.new.levels in
    let found = c.in_ok-found.found in
    let round = round_of sources c.deref-in-loop-last.result.now last c.deref-in-loop-last-2.result.now depth before c.deref_mut.result.now after found.items
    c.deref-in-loop-last.ensures.value c.deref-in-loop-last-2.ensures.value c.deref_mut.ensures.value c.in_ok-found.ensures in
    let some : 0 < length found.items = omega (arith, some_found found.len c.if-is_empty.ensures, found.ok.0) in
    let less = fewer_lack sources last (suc depth) before after found.items round some in
    let next = round_is graph sources last depth before after found.items c.in_ok-sources.ensures c.loop-last.invariant.of_level c.loop-last.invariant.are.as_many round in
    let Are : ℕ → List (Option ℕ) → Type 0 = λ level levels.
    AreLevelsUpTo graph level levels × AreOfLevel levels level found.items × (level + lacking levels ≤ length levels) in
    let more : suc depth ≡ depth + 1 = omega arith in
    let whole : Are (suc depth) after = (
      one_more graph depth before after c.loop-last.invariant.are c.requires.within next,
      of_next_level graph sources last depth before after found.items c.loop-last.invariant.are round,
      omega (arith, less, c.loop-last.invariant.rounds, round.as_many),
    ) in
    let now = subst (Are (depth + 1)) (sym (written_back after before c.loop-last.levels.len round.as_many (sym c.loop-last.levels.ok.0)))
    (subst (λ (level : ℕ). Are level after) more whole) in
    record { are = now.0; of_level = now.1; rounds = now.2 }
