-- What changes of ends give, told by the ends: the losses from the ends before to those after, and the gains.
use Rattle.std.proofs.Common.{◌≡◌, ◌≢◌, ℕ, true, not, ◌==◌, List, None, Some, refl, sym, ap, subst, ◌∙◌}
use Rattle.std.specs.Prelude.{◌↔◌, IsSome}
use Rattle.std.proofs.lemmas.Bool.{false≢true, both_ways, not-true, and_parts, false_from_ne_true, eqb-true, eq-eqb}
use Rattle.std.proofs.lemmas.Option.{same_Some}
use Rattle.rpq_base.specs.declared.data.Pair.{Pair}
use Rattle.rpq_model.specs.declared.mode.Mode.{Mode}
use Rattle.rpq_model.specs.declared.mode.Mode.TheVariants.{Arbitrary, Simple}
use Rattle.name_table.specs.Names.{number_of}
use Rattle.source_tree.specs.declared.change.EndChange.{EndChange}
use Rattle.source_tree.specs.declared.change.Outcome.{Outcome}
use Rattle.source_tree.specs.declared.change.Outcome.TheVariants.{Lost, Gained}
use Rattle.source_tree.specs.Ends.{HasOutcome, end_change, is_gain}
use Rattle.end_events.specs.Changes.{Ends, AreChangesOf, IsLoss, counts}
use Rattle.end_events.specs.Pairs.{IsGiven}
use Rattle.end_events.proofs.Adding.{one_name}

-- ---- the test

-- numbers that count differ where they have to
pub numbers_apart : (mode : Mode) (root vertex : ℕ) → counts mode root vertex ≡ true → mode ≡ Simple → root ≢ vertex
numbers_apart Arbitrary root vertex count is same = absurd cc
numbers_apart Simple root vertex count is same = both_ways (root == vertex) (not-true (root == vertex) count) (eq-eqb root vertex same)

-- and the other way round
pub apart_counts : (mode : Mode) (root vertex : ℕ) → (mode ≡ Simple → root ≢ vertex) → counts mode root vertex ≡ true
apart_counts Arbitrary root vertex differ = refl
apart_counts Simple root vertex differ = ap not (false_from_ne_true (root == vertex) (λ e. differ refl (eqb-true root vertex e)))

-- an end that doesn't come goes
lost_from : (outcome : Outcome) → not (is_gain outcome) ≡ true → outcome ≡ Lost
lost_from Lost is = refl
lost_from Gained is = absurd (false≢true is)

gained_from : (outcome : Outcome) → is_gain outcome ≡ true → outcome ≡ Gained
gained_from Lost is = absurd (false≢true is)
gained_from Gained is = refl

-- a pair that counts is lost where its end goes
loss_from : (mode : Mode) (names : List (List ℕ)) (first last : Ends) (pair : Pair) (root vertex : ℕ) →
    number_of names pair.from ≡ Some root → number_of names pair.to ≡ Some vertex →
    counts mode root vertex ≡ true → IsSome (first root vertex) → last root vertex ≡ None →
    IsLoss mode names first last pair
loss_from mode names first last pair root vertex from to count had gone = record {
  root = root;
  vertex = vertex;
  from = from;
  to = to;
  apart = λ e same. numbers_apart mode root vertex count e (same_Some root vertex (sym from ∙ (ap (number_of names) same ∙ to)));
  had = had;
  gone = gone;
}

-- and a loss counts
loss_counts : (mode : Mode) (names : List (List ℕ)) (first last : Ends) (pair : Pair) (loss : IsLoss mode names first last pair) →
    counts mode loss.root loss.vertex ≡ true
loss_counts mode names first last pair loss =
    apart_counts mode loss.root loss.vertex (λ e same. loss.apart e
    (one_name names pair.from pair.to loss.root loss.from (loss.to ∙ ap (λ n. Some n) (sym same))))

-- ---- the lists

-- the ends that the changes take away are lost
pub lost_is_loss : (mode : Mode) (names : List (List ℕ)) (before after : Ends) (log : List EndChange) → AreChangesOf before after log →
    (pair : Pair) → IsGiven mode Lost names log pair ↔ IsLoss mode names before after pair
lost_is_loss mode names before after log are pair = (
  (λ given.
      let each = given.each in
      let had = before each.root each.vertex in
      let has = after each.root each.vertex in
      let parts = and_parts (not (is_gain each.outcome)) (counts mode each.root each.vertex) given.gives in
      let ends : HasOutcome Lost had has =
      subst (λ (outcome : Outcome). HasOutcome outcome had has) (lost_from each.outcome parts.0) ((are each).0 given.member) in
      loss_from mode names before after pair each.root each.vertex given.from given.to parts.1 ends.0 ends.1),
  (λ loss.
      let each = end_change loss.root loss.vertex Lost in
      record {
        each = each;
        member = (are each).1 (loss.had, loss.gone);
        from = loss.from;
        to = loss.to;
        gives = loss_counts mode names before after pair loss;
      }),
)

-- and those that they bring are gained, which are lost the other way round
pub gained_is_loss : (mode : Mode) (names : List (List ℕ)) (before after : Ends) (log : List EndChange) → AreChangesOf before after log →
    (pair : Pair) → IsGiven mode Gained names log pair ↔ IsLoss mode names after before pair
gained_is_loss mode names before after log are pair = (
  (λ given.
      let each = given.each in
      let had = before each.root each.vertex in
      let has = after each.root each.vertex in
      let parts = and_parts (is_gain each.outcome) (counts mode each.root each.vertex) given.gives in
      let ends : HasOutcome Gained had has =
      subst (λ (outcome : Outcome). HasOutcome outcome had has) (gained_from each.outcome parts.0) ((are each).0 given.member) in
      loss_from mode names after before pair each.root each.vertex given.from given.to parts.1 ends.1 ends.0),
  (λ loss.
      let each = end_change loss.root loss.vertex Gained in
      record {
        each = each;
        member = (are each).1 (loss.gone, loss.had);
        from = loss.from;
        to = loss.to;
        gives = loss_counts mode names after before pair loss;
      }),
)
