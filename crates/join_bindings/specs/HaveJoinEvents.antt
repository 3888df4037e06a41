-- The events of joins from one history to another: they exist, and are one list.
use Rattle.std.specs.Prelude.{◌≡◌, List, [], length, All}
use Rattle.rpq_base.specs.declared.data.Entry.{Entry}
use Rattle.rpq_model.specs.Query.{Query}
use Rattle.containment_laws.specs.Accepted.{IsAccepted}
use Rattle.join_bindings.specs.declared.event.JoinEvent.{JoinEvent}
use Rattle.join_file.specs.Joins.{JoinValue}
use Rattle.join_bindings.specs.Histories.{AreJoinEventsFrom}
use Rattle.join_file.specs.Sound.{IsSound}

-- each step of a history of accepted queries has join events, and one list of them, which is empty
-- where there are no joins
pub record HaveJoinEvents : Type 0 where
  pub some : (queries : List Query) (joins : List JoinValue) → All IsAccepted queries →
      All (IsSound (length queries)) joins → (before after : List Entry) →
      (events : List JoinEvent) × AreJoinEventsFrom queries joins before after events
  pub one : (queries : List Query) (joins : List JoinValue) →
      All (IsSound (length queries)) joins → (before after : List Entry)
      (events others : List JoinEvent) → AreJoinEventsFrom queries joins before after events →
      AreJoinEventsFrom queries joins before after others → events ≡ others
  pub none : (queries : List Query) → All IsAccepted queries → (before after : List Entry) →
      AreJoinEventsFrom queries [] before after []
