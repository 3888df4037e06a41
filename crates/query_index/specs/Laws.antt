-- The laws of the layers below that an answer rests on. No public contract cites this file.
use Rattle.delta_forest.specs.Laws.{EachHasAnEnd, EndsAreOne, KeptIsBest}
use Rattle.containment_laws.specs.Accepted.{AcceptedHaveAnswers}
use Rattle.index_laws.specs.LawsOfIndexes.{IndexKeepsBests, IndexTellsAnswers, StoresFollow}

-- all of them
pub record Laws : Type 0 where
  pub best : KeptIsBest
  pub one : EndsAreOne
  pub have : EachHasAnEnd
  pub follow : StoresFollow
  pub keeps : IndexKeepsBests
  pub tells : IndexTellsAnswers
  pub answers : AcceptedHaveAnswers
