-- What became of objects while events were told.
use Rattle.std.specs.Prelude.{◌≡◌, ◌≢◌, ℕ, true, false, ◌==◌, ◌⊎◌, nat_lt, List, [], ◌++◌, length}
use Rattle.std.specs.Prelude.{count_by, slice_get, IsSomeAnd, if◌then◌else◌}
use Rattle.std.specs.List.{AllZip}
use Rattle.std.specs.List.Sorted.{IsStrictlyIncreasing}
use Rattle.rpq_base.specs.declared.data.Event.{Event}
use Rattle.standing.specs.Objects.{ObjectValue}
use Rattle.standing.specs.Told.{HasHeard, wanted_events}

-- an object that stayed: it heard a front of the events, and all of them where `whole` holds; it
-- isn't gone, unless it is as it was
pub record HasStayed (events : List Event) (whole : Type 0) (old new : ObjectValue) : Type 0 where
  pub front : List Event
  pub rest : List Event
  pub split : events ≡ front ++ rest
  pub all : whole → rest ≡ []
  pub heard : HasHeard front old new
  pub still : (new ≡ old) ⊎ (new.gone ≡ false)

-- an object that left: it heard a front of the events in which there was one that it wants, and is
-- gone
pub record HasLeft (events : List Event) (old new : ObjectValue) : Type 0 where
  pub front : List Event
  pub rest : List Event
  pub split : events ≡ front ++ rest
  pub some : wanted_events old.wanted front ≢ []
  pub heard : HasHeard front old new
  pub gone : new.gone ≡ true

-- how often a place stands in a list
abbrev pub times : ℕ → List ℕ → ℕ
times place places = count_by (λ each. each == place) places

-- the places below the count, each once in one of the two lists; the first rises
pub record AreApart (count : ℕ) (kept gone : List ℕ) : Type 0 where
  pub rising : IsStrictlyIncreasing kept
  pub once : (place : ℕ) → times place (kept ++ gone) ≡ (if nat_lt place count then 1 else 0)

-- each object stands, as it is after the events, in exactly one of the two lists; those that stayed
-- keep their order, and have heard all of the events that they want where `whole` holds
pub record HaveStood (objects : List ObjectValue) (events : List Event) (whole : Type 0)
    (stayed left : List ObjectValue) : Type 0 where
  pub kept : List ℕ
  pub gone : List ℕ
  pub apart : AreApart (length objects) kept gone
  pub each_stayed : AllZip (λ place new.
      IsSomeAnd (slice_get objects place) (λ old. HasStayed events whole old new)) kept stayed
  pub each_left : AllZip (λ place new.
      IsSomeAnd (slice_get objects place) (λ old. HasLeft events old new)) gone left
