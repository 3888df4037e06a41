-- What a source of entries gives.
use Rattle.std.specs.Prelude.{◌≡◌, ℕ, ◌+◌, ◌<◌, ◌≤◌, ◌^◌, true, List, ◌++◌, length, take, All}
use Rattle.entry_steps.specs.Evaluator.{EvaluatorValue, StandsAfter, KeepsSetup}
use Rattle.rpq_base.specs.declared.data.Entry.{Entry}
use Rattle.rpq_base.specs.Plain.{IsPlain}

-- behind the entries that were given before, these come next, some and at most as many as the
-- evaluator takes at once; their labels point forwards, and none of them is too far
pub record ComesNext (evaluator : EvaluatorValue) (before after next : List Entry) : Type 0 where
  pub all : after ≡ before ++ next
  pub some : 1 ≤ length next
  pub one : evaluator.options.paths ≡ true → length next ≤ 1
  pub plain : All IsPlain next
  pub short : length after ≤ 2 ^ 61

-- of what is kept, these entries follow so many first ones, at least one of them
pub record Repeats (kept : List Entry) (from : ℕ) (entries : List Entry) : Type 0 where
  pub follow : take (from + length entries) kept ≡ take from kept ++ entries
  pub some : 1 ≤ length entries

-- the source gave the same, and keeps the same
pub record HasTheSame {S H : Type 0} (home : S → H) (given kept front : S → List Entry)
    (old new : S) : Type 0 where
  pub same_home : home new ≡ home old
  pub same_given : given new ≡ given old
  pub same_kept : kept new ≡ kept old
  pub same_front : front new ≡ front old

-- it has the same, and feeds each evaluator that it fed
pub record StaysAs {S H : Type 0} (home : S → H) (given kept front : S → List Entry)
    (feeds : S → EvaluatorValue → Type 0) (old new : S) : Type 0 where
  pub has : HasTheSame home given kept front old new
  pub still_feeds : (evaluator : EvaluatorValue) → feeds old evaluator → feeds new evaluator

-- the evaluator answered more entries
pub record GetsOn (old new : EvaluatorValue) : Type 0 where
  pub setup : KeepsSetup old new
  pub further : old.position < new.position

-- the evaluator is where it was, and has the same setup
pub record IsAsFar (old new : EvaluatorValue) : Type 0 where
  pub setup : KeepsSetup old new
  pub place : new.position ≡ old.position

-- the evaluator, which stands after these entries, did nothing but show its answers
pub record ShowsOnly (history : List Entry) (old new : EvaluatorValue) : Type 0 where
  pub setup : KeepsSetup old new
  pub place : new.position ≡ old.position
  pub stands : StandsAfter new history
