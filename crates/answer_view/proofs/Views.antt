-- The rows of a query and the view of several queries are one, and hold the answers.
use Rattle.std.proofs.Common.{◌≡◌, ℕ, List, [], ◌∷◌, Option, Some, None, refl, sym, ap, ◌∙◌}
use Rattle.std.specs.Prelude.{◌↔◌, IsSome}
use Rattle.std.specs.List.{AllZip}
use Rattle.rpq_base.specs.declared.data.Entry.{Entry}
use Rattle.rpq_base.specs.declared.data.Pair.{Pair}
use Rattle.rpq_model.specs.Answers.{PathQuery, IsAnswer}
use Rattle.rpq_model.specs.Ends.{IsUntil}
use Rattle.rpq_model.specs.Query.{Query, path_query}
use Rattle.answer_rows.specs.Answers.{Answer, until_of}
use Rattle.answer_rows.specs.Laws.{EndsTellRows}
use Rattle.answer_view.specs.View.{ViewValue, AreRowsOf, IsViewOf}

-- options with the same values are equal
same_option : {X : Type 0} (first second : Option X) →
    ((x : X) → (first ≡ Some x) ↔ (second ≡ Some x)) → first ≡ second
same_option None None same = refl
same_option None (Some x) same = (same x).1 refl
same_option (Some x) second same = sym ((same x).0 refl)

-- rows with the ends of one query and history are equal
pub rows_are_one : EndsTellRows → (query : PathQuery) (history : List Entry)
    (rows others : List Answer) → AreRowsOf query history rows → AreRowsOf query history others →
    rows ≡ others
rows_are_one ends_tell query history rows others rows_are others_are =
    ends_tell rows others rows_are.sorted others_are.sorted (λ pair.
    same_option (until_of rows pair) (until_of others pair) (λ until. (
      (λ e. (others_are.exact pair until).1 ((rows_are.exact pair until).0 e)),
      (λ e. (rows_are.exact pair until).1 ((others_are.exact pair until).0 e)),
    )))

-- an end that is there, or none
there_or_not : (found : Option ℕ) (A : Type 0) → ((until : ℕ) → found ≡ Some until → A) →
    (A → ((until : ℕ) → found ≡ Some until → ⊥) → ⊥) → IsSome found ↔ A
there_or_not (Some until) A gives never = ((λ e. gives until refl), (λ holds. refl))
there_or_not None A gives never = (
  (λ e. cc),
  (λ holds. absurd (never holds (λ until e. cc))),
)

-- the rows hold exactly the answers, where each of them ends
pub rows_hold_answers : (query : PathQuery) (history : List Entry) (rows : List Answer)
    (pair : Pair) →
    (IsAnswer query history pair → ((until : ℕ) → IsUntil query history pair until → ⊥) → ⊥) →
    AreRowsOf query history rows → IsSome (until_of rows pair) ↔ IsAnswer query history pair
rows_hold_answers query history rows pair ends are =
    there_or_not (until_of rows pair) (IsAnswer query history pair)
    (λ until e. ((are.exact pair until).0 e).answer)
    (λ answer never. ends answer (λ until is. never until ((are.exact pair until).1 is)))

-- lists of rows of the same queries are equal
lists_are_one : EndsTellRows → (queries : List Query) (history : List Entry)
    (rows others : List (List Answer)) →
    AllZip (λ query each. AreRowsOf (path_query query) history each) queries rows →
    AllZip (λ query each. AreRowsOf (path_query query) history each) queries others →
    rows ≡ others
lists_are_one ends_tell [] history [] [] first second = refl
lists_are_one ends_tell [] history (one ∷ rows) others first second = absurd first
lists_are_one ends_tell [] history [] (other ∷ others) first second = absurd second
lists_are_one ends_tell (query ∷ queries) history [] others first second = absurd first
lists_are_one ends_tell (query ∷ queries) history (one ∷ rows) [] first second = absurd second
lists_are_one ends_tell (query ∷ queries) history (one ∷ rows) (other ∷ others) first second =
    ap (λ (each : List Answer). each ∷ rows)
    (rows_are_one ends_tell (path_query query) history one other first.0 second.0)
    ∙ ap (λ (all : List (List Answer)). other ∷ all)
    (lists_are_one ends_tell queries history rows others first.1 second.1)

pub views_are_one : EndsTellRows → (queries : List Query) (history : List Entry)
    (view other : ViewValue) → IsViewOf queries history view → IsViewOf queries history other →
    view ≡ other
views_are_one ends_tell queries history view other first second =
    let position = first.position ∙ sym second.position in
    let clock = first.clock ∙ sym second.clock in
    let rows = lists_are_one ends_tell queries history view.rows other.rows first.rows second.rows in
    λ i. record { position = position i; clock = clock i; rows = rows i }
