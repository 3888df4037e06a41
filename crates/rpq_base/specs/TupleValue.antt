-- Tuples, as contracts see them.
use Rattle.std.specs.Prelude.{◌≡◌, ℕ, ◌≤◌, Some}
use Rattle.rpq_base.specs.OwnEnds.{own_end}
use Rattle.rpq_base.specs.declared.data.TheConstants.{MAX_TIME}
use Rattle.rpq_base.specs.declared.data.Act.{Act}

-- a time and an act
pub record TupleValue : Type 0 where
  pub time : ℕ
  pub act : Act

-- a time and an own end are at most the greatest time
pub record IsInRange (time : ℕ) (act : Act) : Type 0 where
  pub time_to : time ≤ MAX_TIME
  pub end_to : (until : ℕ) → own_end act ≡ Some until → until ≤ MAX_TIME
