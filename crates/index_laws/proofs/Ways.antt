-- Answers, by paths all of whose values are above the clock.
use Rattle.std.proofs.Common.{ℕ, ◌+◌, ◌<◌, ◌≤◌, List, Option, arith}
use Rattle.std.specs.Prelude.{Contains}
use Rattle.std.proofs.lemmas.List.Elements.{All-weaker}
use Rattle.rpq_base.specs.declared.data.Label.{Label}
use Rattle.rpq_base.specs.declared.data.Edge.{Edge}
use Rattle.rpq_base.specs.declared.data.Entry.{Entry}
use Rattle.rpq_model.specs.Window.{WindowValue, clock, edges_at}
use Rattle.tree_insert.specs.Best.{IsAtLeast}
use Rattle.tree_insert.proofs.Bests.{weaker}
use Rattle.index_laws.specs.Store.{IsStoreOf}
use Rattle.index_laws.specs.Best.{HasWay}
use Rattle.index_laws.specs.LawsOfBests.{AnswersHaveWays}
use Rattle.index_laws.proofs.Values.{live_above, value_above}

-- a path whose values reach another number
has_way_by : (store : Edge → Option ℕ) (language : List Label → Type 0) (from to : List ℕ)
    (number other : ℕ) →
    ((edge : Edge) → IsAtLeast number (store edge) → IsAtLeast other (store edge)) →
    HasWay store language from to number → HasWay store language from to other
has_way_by store language from to number other gives has =
    let path = has.0 in
    let way = has.1 in
    let reached = λ (edge : Edge). IsAtLeast number (store edge) in
    let reach = λ (edge : Edge). IsAtLeast other (store edge) in (
      path,
      record {
        some = way.some;
        leads = way.leads;
        least = All-weaker reached reach gives path way.least;
      },
      has.2,
    )

-- less is reached where more is
pub way_of_less : (store : Edge → Option ℕ) (language : List Label → Type 0) (from to : List ℕ)
    (less more : ℕ) → less ≤ more →
    HasWay store language from to more → HasWay store language from to less
way_of_less store language from to less more le has =
    has_way_by store language from to more less
    (λ edge reached. weaker (store edge) more less reached le) has

-- where there is a path at all, its values are above the clock of the history
pub way_above_clock : (store : Edge → Option ℕ) (window : WindowValue) (history : List Entry)
    (language : List Label → Type 0) (from to : List ℕ) (number : ℕ) →
    0 < window.slide → IsStoreOf window history store → HasWay store language from to number →
    HasWay store language from to (clock history + 1)
way_above_clock store window history language from to number some is has =
    has_way_by store language from to number (clock history + 1)
    (λ edge. value_above window history store some is number edge) has

pub answers_have_ways : (language : List Label → Type 0) → AnswersHaveWays language
answers_have_ways language window now history store pair some is le =
    let live = λ (edge : Edge). live_above window history store some is now edge le in
    let edges = edges_at window now history in
    let above = λ (edge : Edge). IsAtLeast (now + 1) (store edge) in (
      (λ answer.
          let path = answer.0 in
          let joins = answer.1 in (
            now + 1,
            omega arith,
            (
              path,
              record {
                some = joins.leads.some;
                leads = joins.leads.leads;
                least = All-weaker (Contains edges) above (λ edge member. (live edge).0 member) path
                    joins.leads.members;
              },
              joins.word,
            ),
          )),
      (λ found.
          let has = way_of_less store language pair.from pair.to (now + 1) found.0
          (omega (arith, found.1)) found.2 in
          let path = has.0 in
          let way = has.1 in (
            path,
            record {
              leads = record {
                some = way.some;
                members = All-weaker above (Contains edges) (λ edge reached. (live edge).1 reached)
                    path way.least;
                leads = way.leads;
              };
              word = has.2;
              taken = tt;
            },
          )),
    )
