-- Answers at later clocks, and their ends.
use Rattle.std.proofs.Common.{◌≡◌, ℕ, ◌<◌, ◌≤◌, max, List, refl, subst, ⊎_elim, arith}
use Rattle.std.specs.Prelude.{◌↔◌}
use Rattle.std.proofs.lemmas.Bool.{cases_order}
use Rattle.rpq_base.specs.Laws.{SameIsEqual}
use Rattle.rpq_base.specs.declared.data.Entry.{Entry}
use Rattle.rpq_base.specs.declared.data.Pair.{Pair}
use Rattle.rpq_model.specs.Window.{clock, edges_at}
use Rattle.rpq_model.specs.Answers.{PathQuery, IsAnswerAt, IsAnswer}
use Rattle.rpq_model.specs.Ends.{tick, IsUntil}
use Rattle.rpq_model.proofs.Paths.{more_edges}
use Rattle.rpq_model.proofs.Places.{edges_before}
use Rattle.rpq_model.proofs.Ticks.{tick_moves_the_clock}

-- a later clock answers less
pub later_answers_less : SameIsEqual → (query : PathQuery) (now later : ℕ) (entries : List Entry) (pair : Pair) → 0 < query.window.slide → now ≤ later →
    IsAnswerAt query later entries pair → IsAnswerAt query now entries pair
later_answers_less same query now later entries pair some le answer =
    more_edges (edges_at query.window later entries) (edges_at query.window now entries) query.language query.mode pair
    (λ edge member. edges_before same entries query.window now later edge some le member) answer

-- ---- ends, by clocks in place of ticks

pub ended_at : (query : PathQuery) (history : List Entry) (pair : Pair) (until : ℕ) → IsUntil query history pair until →
    IsAnswerAt query (max (clock history) until) history pair → ⊥
ended_at query history pair until is answer = is.ended ((tick_moves_the_clock query history (tick until) pair refl).1 answer)

pub lasts_at : (query : PathQuery) (history : List Entry) (pair : Pair) (until : ℕ) → IsUntil query history pair until →
    (time : ℕ) → time < until → IsAnswerAt query (max (clock history) time) history pair
lasts_at query history pair until is time less = (tick_moves_the_clock query history (tick time) pair refl).0 (is.lasts time less)

-- an answer that is none at a clock, and one at each below it, ends there
pub until_from_clocks : (query : PathQuery) (history : List Entry) (pair : Pair) (until : ℕ) → IsAnswer query history pair →
    (IsAnswerAt query (max (clock history) until) history pair → ⊥) →
    ((time : ℕ) → time < until → IsAnswerAt query (max (clock history) time) history pair) → IsUntil query history pair until
until_from_clocks query history pair until answer ended lasts = record {
  answer = answer;
  ended = λ still. ended ((tick_moves_the_clock query history (tick until) pair refl).0 still);
  lasts = λ time less. (tick_moves_the_clock query history (tick time) pair refl).1 (lasts time less);
}

-- an answer lasts exactly below its end
pub lasts_below : SameIsEqual → (query : PathQuery) (history : List Entry) (pair : Pair) (until now : ℕ) → 0 < query.window.slide → clock history ≤ now →
    IsUntil query history pair until → IsAnswerAt query now history pair ↔ (now < until)
lasts_below same query history pair until now some le is =
    let at_now : max (clock history) now ≡ now = omega (arith, le) in (
      (λ answer.
          let over : until ≤ now → ⊥ = λ past.
          let before : max (clock history) until ≤ now = omega (arith, le, past) in
          ended_at query history pair until is (later_answers_less same query (max (clock history) until) now history pair some before answer) in
          ⊎_elim (λ e. absurd (over (omega (arith, e)))) (λ differ. ⊎_elim (λ less. less) (λ more. absurd (over (omega (arith, more)))) differ)
          (cases_order now until)),
      (λ less. subst (λ (at : ℕ). IsAnswerAt query at history pair) at_now (lasts_at query history pair until is now less)),
    )
