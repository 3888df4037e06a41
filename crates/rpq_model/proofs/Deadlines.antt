-- Deadlines, and clocks that see less.
use Rattle.std.proofs.Common.{◌≡◌, ℕ, suc, ◌+◌, ◌-◌, ◌*◌, ◌/◌, ◌%◌, ◌<◌, ◌≤◌, true, refl, ⊎_elim, arith}
use Rattle.std.specs.Prelude.{◌↔◌}
use Rattle.std.proofs.Math.Nat.{mod-lt}
use Rattle.std.proofs.lemmas.Bool.{cases_order, ltb-true, lt-ltb}
use Rattle.std.proofs.lemmas.Nat.{le-div, div-add-mod', mul-le}
use Rattle.rpq_model.specs.Window.{WindowValue, is_in_window}
use Rattle.rpq_model.specs.WindowLaws.{IsDeadline, TimesHaveDeadlines}

-- one number is below another or not
pub below_or_not : (first second : ℕ) → (first < second → ⊥) → second ≤ first
below_or_not first second over = ⊎_elim
    (λ same. omega (arith, same))
    (λ differ. ⊎_elim (λ less. absurd (over less)) (λ more. omega (arith, more)) differ)
    (cases_order first second)

floor_below : (now slide : ℕ) → now / slide * slide ≤ now
floor_below now slide = omega (arith, div-add-mod' now slide)

floor_greatest : (n now slide : ℕ) → 0 < slide → n * slide ≤ now → n * slide ≤ now / slide * slide
floor_greatest n now slide some fits = mul-le n slide (now / slide) slide (le-div n now slide some fits) (omega arith)

-- ---- seen below the deadline

pub seen_below_deadline : (window : WindowValue) (now time deadline : ℕ) → 0 < window.slide → IsDeadline window time deadline →
    (is_in_window window now time ≡ true) ↔ (now < deadline)
seen_below_deadline window now time deadline some is =
    let size = window.size in
    let slide = window.slide in (
      (λ seen.
          let below = ltb-true (now / slide * slide) (time + size) seen in
          let passed : deadline ≤ now → ⊥ = λ past.
          let n = is.multiple.0 in
          let fits : n * slide ≤ now = omega (arith, is.multiple.1, past) in
          omega (arith, below, is.reached, is.multiple.1, floor_greatest n now slide some fits) in
          ⊎_elim (λ same. absurd (passed (omega (arith, same)))) (λ differ. ⊎_elim (λ less. less) (λ more. absurd (passed (omega (arith, more)))) differ)
          (cases_order now deadline)),
      (λ less.
          let floor = now / slide * slide in
          let past : time + size ≤ floor → ⊥ = λ reached. omega (arith, is.least (now / slide) reached, floor_below now slide, less) in
          lt-ltb floor (time + size)
          (⊎_elim (λ same. absurd (past (omega (arith, same)))) (λ differ. ⊎_elim (λ below. below) (λ above. absurd (past (omega (arith, above)))) differ)
          (cases_order floor (time + size)))),
    )

-- a later clock sees less
pub seen_before : (window : WindowValue) (now later time : ℕ) → 0 < window.slide → now ≤ later → is_in_window window later time ≡ true →
    is_in_window window now time ≡ true
seen_before window now later time some le seen =
    let slide = window.slide in
    let below = ltb-true (later / slide * slide) (time + window.size) seen in
    let fits : now / slide * slide ≤ later = omega (arith, floor_below now slide, le) in
    lt-ltb (now / slide * slide) (time + window.size) (omega (arith, below, floor_greatest (now / slide) later slide some fits))

-- ---- each time has one deadline

-- the deadline of a time
abbrev pub deadline_of : WindowValue → ℕ → ℕ
deadline_of window time = (time + window.size + (window.slide - 1)) / window.slide * window.slide

pub deadline_is : (window : WindowValue) (time : ℕ) → 0 < window.slide → IsDeadline window time (deadline_of window time)
deadline_is window time some =
    let size = window.size in
    let slide = window.slide in
    let up = time + size + (slide - 1) in
    let parts = div-add-mod' up slide in
    let rest = mod-lt up some in
    record {
      multiple = (up / slide, refl);
      reached = omega (arith, parts, rest, some);
      least = λ n fits. below_or_not (n * slide) (up / slide * slide) (λ more.
          let steps : suc n * slide ≡ n * slide + slide = grind arith in
          let over : up / slide ≤ n → ⊥ = λ le. omega (arith, mul-le (up / slide) slide n slide le (omega arith), more) in
          let next : suc n ≤ up / slide = below_or_not (up / slide) (suc n) (λ less. over (omega (arith, less))) in
          omega (arith, mul-le (suc n) slide (up / slide) slide next (omega arith), steps, parts, fits, some));
    }

-- a window and a time have one deadline
pub one_deadline : (window : WindowValue) (time deadline other : ℕ) → IsDeadline window time deadline → IsDeadline window time other → deadline ≡ other
one_deadline window time deadline other first second =
    let n = first.multiple.0 in
    let m = second.multiple.0 in
    let le : deadline ≤ m * window.slide = first.least m (omega (arith, second.reached, second.multiple.1)) in
    let ge : other ≤ n * window.slide = second.least n (omega (arith, first.reached, first.multiple.1)) in
    omega (arith, le, ge, first.multiple.1, second.multiple.1)

pub times_have_deadlines : TimesHaveDeadlines
times_have_deadlines window time some =
    let is = deadline_is window time some in
    (deadline_of window time, is, λ other other_is. one_deadline window time other (deadline_of window time) other_is is)

-- a multiple of the slide that is at least the time and the size together, and by less than the
-- slide, is the deadline
pub deadline_from_bounds : (window : WindowValue) (time deadline : ℕ) → 0 < window.slide →
    time + window.size ≤ deadline → deadline < time + window.size + window.slide →
    deadline % window.slide ≡ 0 → IsDeadline window time deadline
deadline_from_bounds window time deadline some reached below even =
    let slide = window.slide in
    let parts = div-add-mod' deadline slide in
    let number = deadline / slide in
    let is : deadline ≡ number * slide = omega (arith, parts, even) in
    record {
      multiple = (number, is);
      reached = reached;
      least = λ n fits. below_or_not (n * slide) deadline (λ more.
          let steps : suc n * slide ≡ n * slide + slide = grind arith in
          let over : number ≤ n → ⊥ = λ le.
          omega (arith, mul-le number slide n slide le (omega arith), is, more) in
          let next : suc n ≤ number = below_or_not number (suc n) (λ less.
          over (omega (arith, less))) in
          let at_most = mul-le (suc n) slide number slide next (omega arith) in
          omega (arith, at_most, steps, is, fits, below));
    }
