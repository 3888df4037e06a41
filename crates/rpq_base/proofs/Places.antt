-- The places of labels in a list.
use Rattle.std.proofs.Common.{◌≡◌, ℕ, ◌<◌, Bool, true, false, cond, nat_lt, List, length, get_or, Some, None, refl, sym, ap, ◌∙◌, arith}
use Rattle.std.specs.Prelude.{Contains}
use Rattle.std.specs.List.{slice_get, position, position_or_len}
use Rattle.std.proofs.lemmas.Bool.{false≢true, ltb-false}
use Rattle.std.proofs.lemmas.List.Quantifiers.{position-Some}
use Rattle.std.proofs.lemmas.List.Sums.{fails_before_first}
use Rattle.std.proofs.lemmas.Option.{slice_get-get_or}
use Rattle.rpq_base.specs.Same.{same_label}
use Rattle.rpq_base.specs.declared.data.Label.{Label}
use Rattle.rpq_base.proofs.Equality.{labels}

-- a label that has a place stands there
pub label_at_place : (list : List Label) (label : Label) (place : ℕ) →
    position (λ each. same_label each label) list ≡ Some place → (place < length list) × (get_or list place label ≡ label)
label_at_place list label place is =
    let found = position-Some (λ (each : Label). same_label each label) list place label is in
    (found.0, (labels (get_or list place label) label).0 found.1)

-- the same, of the label that is got there
pub label_got_at_place : (list : List Label) (label : Label) (place : ℕ) →
    position (λ each. same_label each label) list ≡ Some place → (place < length list) × (slice_get list place ≡ Some label)
label_got_at_place list label place is =
    let here = label_at_place list label place is in
    (here.0, slice_get-get_or list place label here.0 ∙ ap (λ (each : Label). Some each) here.1)

-- a choice that gives nothing rests on a test that failed
pub cond_none : (test : Bool) (n : ℕ) → cond test (Some n) None ≡ None → test ≡ false
cond_none true n e = cc
cond_none false n e = refl

-- a label without a place isn't there
pub no_place : (list : List Label) (label : Label) → position (λ each. same_label each label) list ≡ None → Contains list label → ⊥
no_place list label none member =
    let test : Label → Bool = λ each. same_label each label in
    let first = position_or_len test list in
    let past = ltb-false first (length list) (cond_none (nat_lt first (length list)) first none) in
    let fails = fails_before_first test list member.0 label (omega (arith, member.1)) in
    false≢true (sym fails ∙ (labels (get_or list member.0 label) label).1 member.2)
