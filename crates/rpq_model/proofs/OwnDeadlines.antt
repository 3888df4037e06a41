-- Deadlines of inserts, which may have ends of their own.
use Rattle.std.proofs.Common.{◌≡◌, ℕ, ◌<◌, ◌≤◌, Bool, true, ◌&&◌, Option, refl, sym, ap, subst, ◌∙◌, arith}
use Rattle.std.specs.Prelude.{◌↔◌}
use Rattle.std.proofs.lemmas.Bool.{and_parts}
use Rattle.rpq_base.specs.OwnEnds.{own_end, is_before_end, at_most_end}
use Rattle.rpq_base.specs.TupleValue.{TupleValue}
use Rattle.rpq_base.proofs.OwnEnds.{below_both, both_from, before_earlier, no_later}
use Rattle.rpq_model.specs.Window.{WindowValue, is_in_window, is_seen}
use Rattle.rpq_model.specs.WindowLaws.{IsDeadline, IsDeadlineOf, IsTupleDeadline, is_tuple_seen}
use Rattle.rpq_model.specs.OwnEndLaws.{InsertsHaveDeadlines}
use Rattle.rpq_model.proofs.Deadlines.{deadline_of as of_time, deadline_is as is_of_time}
use Rattle.rpq_model.proofs.Deadlines.{one_deadline as one_of_time, seen_below_deadline as in_window_below, seen_before as in_window_before}

pub both_true : (first second : Bool) → first ≡ true → second ≡ true → (first && second) ≡ true
both_true first second p q = rw (p, q) refl

-- ---- of a time and an end

-- the deadline of an insert of this time, with this end
abbrev pub own_deadline : WindowValue → ℕ → Option ℕ → ℕ
own_deadline window time until = at_most_end (of_time window time) until

pub own_deadline_is : (window : WindowValue) (time : ℕ) (until : Option ℕ) → 0 < window.slide →
    IsDeadlineOf window time until (own_deadline window time until)
own_deadline_is window time until some = (of_time window time, is_of_time window time some, refl)

pub one_own_deadline : (window : WindowValue) (time : ℕ) (until : Option ℕ) (deadline other : ℕ) →
    IsDeadlineOf window time until deadline → IsDeadlineOf window time until other → deadline ≡ other
one_own_deadline window time until deadline other first second =
    first.2
    ∙ (ap (λ (number : ℕ). at_most_end number until) (one_of_time window time first.0 second.0 first.1 second.1)
    ∙ sym second.2)

-- an edge is seen exactly below its deadline
pub seen_below_own_deadline : (window : WindowValue) (now time : ℕ) (until : Option ℕ) (deadline : ℕ) → 0 < window.slide →
    IsDeadlineOf window time until deadline →
    (is_seen window now time until ≡ true) ↔ (now < deadline)
seen_below_own_deadline window now time until deadline some is =
    let below = in_window_below window now time is.0 some is.1 in (
      (λ seen.
          let parts = and_parts (is_in_window window now time) (is_before_end now until) seen in
          omega (arith, below_both until now is.0 (below.0 parts.0) parts.1, is.2)),
      (λ less.
          let parts = both_from until now is.0 (omega (arith, less, is.2)) in
          both_true (is_in_window window now time) (is_before_end now until) (below.1 parts.0) parts.1),
    )

-- a later clock sees less
pub own_seen_before : (window : WindowValue) (now later time : ℕ) (until : Option ℕ) → 0 < window.slide → now ≤ later →
    is_seen window later time until ≡ true → is_seen window now time until ≡ true
own_seen_before window now later time until some le seen =
    let parts = and_parts (is_in_window window later time) (is_before_end later until) seen in
    both_true (is_in_window window now time) (is_before_end now until) (in_window_before window now later time some le parts.0)
    (before_earlier until now later le parts.1)

-- an end makes the deadline no later
pub own_within : (window : WindowValue) (time : ℕ) (until : Option ℕ) (deadline other : ℕ) →
    IsDeadlineOf window time until deadline → IsDeadline window time other → deadline ≤ other
own_within window time until deadline other is of =
    omega (arith, is.2, no_later until is.0, one_of_time window time is.0 other is.1 of)

pub inserts_have_deadlines : InsertsHaveDeadlines
inserts_have_deadlines window time until some =
    let is = own_deadline_is window time until some in
    (own_deadline window time until, is, λ other other_is. one_own_deadline window time until other (own_deadline window time until) other_is is)

-- the deadline of a time and an end that are told in another way
pub deadline_of_same : (window : WindowValue) (first time : ℕ) (end until : Option ℕ) (deadline : ℕ) → first ≡ time → end ≡ until →
    IsDeadlineOf window first end deadline → IsDeadlineOf window time until deadline
deadline_of_same window first time end until deadline times ends is =
    subst (λ (each : ℕ). IsDeadlineOf window each until deadline) times
    (subst (λ (each : Option ℕ). IsDeadlineOf window first each deadline) ends is)

-- ---- the same of tuples

abbrev pub deadline_of : WindowValue → TupleValue → ℕ
deadline_of window tuple = own_deadline window tuple.time (own_end tuple.act)

pub deadline_is : (window : WindowValue) (tuple : TupleValue) → 0 < window.slide → IsTupleDeadline window tuple (deadline_of window tuple)
deadline_is window tuple some = own_deadline_is window tuple.time (own_end tuple.act) some

pub one_deadline : (window : WindowValue) (tuple : TupleValue) (deadline other : ℕ) →
    IsTupleDeadline window tuple deadline → IsTupleDeadline window tuple other → deadline ≡ other
one_deadline window tuple deadline other first second = one_own_deadline window tuple.time (own_end tuple.act) deadline other first second

pub seen_below_deadline : (window : WindowValue) (now : ℕ) (tuple : TupleValue) (deadline : ℕ) → 0 < window.slide →
    IsTupleDeadline window tuple deadline → (is_tuple_seen window now tuple ≡ true) ↔ (now < deadline)
seen_below_deadline window now tuple deadline some is = seen_below_own_deadline window now tuple.time (own_end tuple.act) deadline some is

pub seen_before : (window : WindowValue) (now later : ℕ) (tuple : TupleValue) → 0 < window.slide → now ≤ later →
    is_tuple_seen window later tuple ≡ true → is_tuple_seen window now tuple ≡ true
seen_before window now later tuple some le seen = own_seen_before window now later tuple.time (own_end tuple.act) some le seen

pub within : (window : WindowValue) (tuple : TupleValue) (deadline other : ℕ) →
    IsTupleDeadline window tuple deadline → IsDeadline window tuple.time other → deadline ≤ other
within window tuple deadline other is of = own_within window tuple.time (own_end tuple.act) deadline other is of
