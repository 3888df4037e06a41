-- The orders of changes, of marks and of words, by the comparisons that the definitions name.
use Rattle.std.proofs.Common.{◌≡◌, ◌≢◌, ◌<◌, ◌≤◌, ◌⊎◌, inl, inr, Bool, true, false, List, length}
use Rattle.std.proofs.Common.{Ordering, refl, sym, ap₂, ◌∙◌, arith}
use Rattle.std.specs.declared.cmp.Ordering.TheVariants.{Less, Equal, Greater}
use Rattle.std.specs.Ordering.{nat_cmp, bool_cmp, ordering_then}
use Rattle.std.proofs.lemmas.Bool.{cases_lt}
use Rattle.std.proofs.lemmas.Cmp.{ranked}
use Rattle.std.proofs.lemmas.Map.Keys.{Less-from_sorted}
use Rattle.std.proofs.lemmas.Option.{slice_get_within, get_or_from_slice_get}
use Rattle.rpq_base.proofs.Orders.{same_direction}
use Rattle.rpq_base.specs.Order.{word_cmp}
use Rattle.rpq_base.specs.declared.data.Label.{Label}
use Rattle.containment_test.proofs.Words.{longer}
use Rattle.join_bindings.specs.declared.event.JoinEvent.{JoinEvent}
use Rattle.join_bindings.specs.Bindings.{binding_cmp}
use Rattle.join_bindings.specs.Events.{join_event_cmp}
use Rattle.path_witness.specs.declared.mark.Mark.{Mark}
use Rattle.path_witness.specs.Found.{IsAtMost}
use Rattle.rpq_text.specs.Orders.{IsBefore, ChangesAreInOrder, LatestIsFound}
use Rattle.rpq_text.specs.Orders.{LeastAreShortest, WordOrderExamples}

-- ---- changes of bindings

-- which of three comparisons, one after another, finds the first less
three_less : (one two three : Ordering) → ordering_then (ordering_then one two) three ≡ Less
    → (one ≡ Less) ⊎ ((one ≡ Equal) × ((two ≡ Less) ⊎ ((two ≡ Equal) × (three ≡ Less))))
three_less Less two three e = inl refl
three_less Equal Less three e = inr (refl, inl refl)
three_less Equal Equal three e = inr (refl, inr (refl, e))
three_less Equal Greater three e = absurd cc
three_less Greater two three e = absurd cc

lost_then_gained : (first second : Bool) → bool_cmp first second ≡ Less
    → (first ≡ false) × (second ≡ true)
lost_then_gained true true e = absurd cc
lost_then_gained true false e = absurd cc
lost_then_gained false true e = (refl, refl)
lost_then_gained false false e = absurd cc

is_before : (first second : JoinEvent) → join_event_cmp first second ≡ Less → IsBefore first second
is_before first second e =
    elim (three_less (nat_cmp first.join second.join) (bool_cmp first.added second.added)
    (binding_cmp first.binding second.binding) e) [
      | inl less ↦ inl (ranked first.join second.join Less (sym less))
      | inr same ↦ inr (
        ranked first.join second.join Equal (sym same.0),
        elim same.1 [
          | inl kind ↦ inl (lost_then_gained first.added second.added kind)
          | inr both ↦ inr (same_direction first.added second.added both.0, both.1)
        ],
      )
    ]

pub changes_are_in_order : ChangesAreInOrder
changes_are_in_order joins before after events are place later first second less here there =
    let below : later < length events = slice_get_within events later second there in
    is_before first second (
    ap₂ (λ (one two : JoinEvent). join_event_cmp one two)
    (sym (get_or_from_slice_get events place first first here))
    (sym (get_or_from_slice_get events later second first there))
    ∙ Less-from_sorted join_event_cmp events place later first are.sorted less below
    )

-- ---- marks

no_longer : (other found : Mark) → IsAtMost other found → other.deadline ≤ found.deadline
no_longer other found most = elim most [
  | inl less ↦ omega (arith, less)
  | inr both ↦ omega (arith, both.0)
]

no_later : (other found : Mark) → IsAtMost other found → other.deadline ≡ found.deadline
    → other.position ≤ found.position
no_later other found most same = elim most [
  | inl less ↦ absurd (omega (arith, less, same))
  | inr both ↦ both.1
]

pub latest_is_found : LatestIsFound
latest_is_found window history edge found is = record {
  longest = λ other live. no_longer other found (is.some.best other live);
  latest = λ other live. no_later other found (is.some.best other live);
}

-- ---- words

-- a word that isn't greater isn't longer
no_longer_word : (one other : List Label) → word_cmp one other ≢ Greater → length one ≤ length other
no_longer_word one other most = elim (cases_lt (length other) (length one)) [
  | inl less ↦ absurd (most (longer one other less))
  | inr more ↦ more
]

pub least_are_shortest : (language : List Label → Type 0) → LeastAreShortest language
least_are_shortest language p q w least = record {
  first = λ other second third shows. no_longer_word p other (least.first other second third shows);
  second = λ other third shows. no_longer_word q other (least.second other third shows);
  third = λ other shows. no_longer_word w other (least.third other shows);
}

pub word_order : WordOrderExamples
word_order = record { shorter = refl; of_one_length = refl }
