-- From the pairs that two lists of changes of ends give to the events: a pair that is both lost and gained is as it was.
use Rattle.std.proofs.Common.{◌≡◌, ℕ, not, List, Option, None, Some, is_some, refl, sym, ap, ap₂, ◌∙◌, ◌⊎◌, inl, inr, ⊎_elim}
use Rattle.std.specs.Prelude.{◌↔◌, Contains, IsSome}
use Rattle.std.specs.List.Sorted.{IsStrictlySortedBy}
use Rattle.std.proofs.lemmas.Bool.{both_ways}
use Rattle.std.proofs.lemmas.List.Kept.{IsStrictlySortedBy-filter}
use Rattle.std.proofs.lemmas.Option.{same_Some}
use Rattle.rpq_base.specs.Order.{pair_cmp}
use Rattle.rpq_base.specs.Laws.{SameIsEqual}
use Rattle.rpq_base.specs.declared.data.Pair.{Pair}
use Rattle.rpq_base.specs.declared.data.Event.{Event}
use Rattle.rpq_base.proofs.Equality.{names as name_test, labels as label_test, edges as edge_test, pairs as pair_test}
use Rattle.rpq_model.specs.declared.mode.Mode.{Mode}
use Rattle.rpq_model.specs.Events.{without, changes}
use Rattle.rpq_model.proofs.ByMembers.{without_members}
use Rattle.rpq_model.proofs.Pairs.{has}
use Rattle.source_tree.specs.declared.change.EndChange.{EndChange}
use Rattle.end_events.specs.Changes.{Ends, AreChangesOf, IsLoss, AreLosses, AreEventsBetween}
use Rattle.rpq_model.specs.Relations.{AreExactly}
use Rattle.source_tree.specs.declared.change.Outcome.TheVariants.{Lost, Gained}
use Rattle.end_events.specs.Pairs.{IsGiven}
use Rattle.end_events.proofs.Losses.{lost_is_loss, gained_is_loss}

-- the tests for equal values find exactly the equal ones
same_is_equal : SameIsEqual
same_is_equal = record { names = name_test; labels = label_test; edges = edge_test; pairs = pair_test }

-- an end is there or not
none_or_some : (end : Option ℕ) → (end ≡ None) ⊎ IsSome end
none_or_some None = inl refl
none_or_some (Some n) = inr refl

-- a loss between other ends, of the same pair
at_ends : (mode : Mode) (names : List (List ℕ)) (first last other final : Ends) (pair : Pair) (loss : IsLoss mode names first last pair) →
    IsSome (other loss.root loss.vertex) → final loss.root loss.vertex ≡ None → IsLoss mode names other final pair
at_ends mode names first last other final pair loss had gone = record {
  root = loss.root;
  vertex = loss.vertex;
  from = loss.from;
  to = loss.to;
  apart = loss.apart;
  had = had;
  gone = gone;
}

-- the ends of one pair are the same, whichever of its numbers are meant
same_end : (mode : Mode) (names : List (List ℕ)) (first last other final ends : Ends) (pair : Pair) →
    (loss : IsLoss mode names first last pair) (back : IsLoss mode names other final pair) →
    ends loss.root loss.vertex ≡ ends back.root back.vertex
same_end mode names first last other final ends pair loss back =
    ap₂ (λ root vertex. ends root vertex)
    (same_Some loss.root back.root (sym loss.from ∙ back.from))
    (same_Some loss.vertex back.vertex (sym loss.to ∙ back.to))

-- what is lost in one of two steps and gained in none is lost over both
joined : (mode : Mode) (names : List (List ℕ)) (a b c : Ends) (lost gained : List Pair) → IsStrictlySortedBy pair_cmp lost →
    ((pair : Pair) → Contains lost pair ↔ (IsLoss mode names a b pair ⊎ IsLoss mode names b c pair)) →
    ((pair : Pair) → Contains gained pair ↔ (IsLoss mode names b a pair ⊎ IsLoss mode names c b pair)) →
    AreLosses mode names a c (without lost gained)
joined mode names a b c lost gained sorted lost_are gained_are = record {
  sorted = IsStrictlySortedBy-filter pair_cmp (λ (pair : Pair). not (has gained pair)) lost sorted;
  exact = λ pair. (
    (λ member.
        let both = (without_members same_is_equal lost gained pair).0 member in
        ⊎_elim
        (λ loss. ⊎_elim
        (λ none. at_ends mode names a b a c pair loss loss.had none)
        (λ some. absurd (both.1 ((gained_are pair).1 (inr (at_ends mode names a b c b pair loss some loss.gone)))))
        (none_or_some (c loss.root loss.vertex)))
        (λ loss. ⊎_elim
        (λ none. absurd (both.1 ((gained_are pair).1 (inl (at_ends mode names b c b a pair loss loss.had none)))))
        (λ some. at_ends mode names b c a c pair loss some loss.gone)
        (none_or_some (a loss.root loss.vertex)))
        ((lost_are pair).0 both.0)),
    (λ loss. (without_members same_is_equal lost gained pair).1 (
      (lost_are pair).1 (⊎_elim
          (λ none. inl (at_ends mode names a c a b pair loss loss.had none))
          (λ some. inr (at_ends mode names a c b c pair loss some loss.gone))
          (none_or_some (b loss.root loss.vertex))),
      λ member. ⊎_elim
          (λ back. both_ways (is_some (a loss.root loss.vertex))
          (ap is_some (same_end mode names a c b a a pair loss back ∙ back.gone)) loss.had)
          (λ back. both_ways (is_some (c loss.root loss.vertex))
          (ap is_some loss.gone) (ap is_some (same_end mode names a c c b c pair loss back) ∙ back.had))
          ((gained_are pair).0 member),
    )),
  );
}

-- two alternatives, each by an equivalence
either_same : {A B C D E : Type 0} → A ↔ (B ⊎ C) → B ↔ D → C ↔ E → A ↔ (D ⊎ E)
either_same whole left right = (
  (λ a. ⊎_elim (λ b. inl (left.0 b)) (λ c. inr (right.0 c)) (whole.0 a)),
  (λ either. whole.1 (⊎_elim (λ d. inl (left.1 d)) (λ e. inr (right.1 e)) either)),
)

-- the same, the other one first
turned : {A B C : Type 0} → A ↔ (B ⊎ C) → A ↔ (C ⊎ B)
turned whole = (
  (λ a. ⊎_elim (λ b. inr b) (λ c. inl c) (whole.0 a)),
  (λ either. whole.1 (⊎_elim (λ c. inr c) (λ b. inl b) either)),
)

-- the changes between the pairs that are taken away and those that are brought are the events
pub events_are : (query : ℕ) (mode : Mode) (names : List (List ℕ)) (start middle last : Ends) (first second : List EndChange)
    (lost gained : List Pair) (events : List Event) →
    AreChangesOf start middle first → AreChangesOf middle last second →
    AreExactly (λ pair. IsGiven mode Lost names first pair ⊎ IsGiven mode Lost names second pair) lost →
    AreExactly (λ pair. IsGiven mode Gained names first pair ⊎ IsGiven mode Gained names second pair) gained →
    events ≡ changes query lost gained → AreEventsBetween query mode names start last events
events_are query mode names start middle last first second lost gained events firsts seconds losts gaineds is =
    let lost_are : (pair : Pair) → Contains lost pair ↔ (IsLoss mode names start middle pair ⊎ IsLoss mode names middle last pair) =
    λ pair. either_same (losts.exact pair) (lost_is_loss mode names start middle first firsts pair) (lost_is_loss mode names middle last second seconds pair) in
    let gained_are : (pair : Pair) → Contains gained pair ↔ (IsLoss mode names middle start pair ⊎ IsLoss mode names last middle pair) =
    λ pair. either_same (gaineds.exact pair) (gained_is_loss mode names start middle first firsts pair) (gained_is_loss mode names middle last second seconds pair) in
    record {
      lost = without lost gained;
      gained = without gained lost;
      losses = joined mode names start middle last lost gained losts.sorted lost_are gained_are;
      gains = joined mode names last middle start gained lost gaineds.sorted (λ pair. turned (gained_are pair)) (λ pair. turned (lost_are pair));
      are = is;
    }
