-- The events of an entry and of its inverse, netted, are the two-way events of the entry.
use Rattle.std.proofs.Common.{◌≡◌, List, [], ◌∷◌, ◌++◌, Option, Some, None, sym, ap, subst, ◌∙◌, append_assoc, append-nil}
use Rattle.std.specs.Option.{option_to_list}
use Rattle.std.proofs.lemmas.Grind.{flat_map-append}
use Rattle.rpq_base.specs.declared.data.Entry.{Entry}
use Rattle.rpq_model.specs.QueryEvents.{AreEventsUnder}
use Rattle.two_way.specs.Doubled.{inverse_entry, doubled_by, doubled}
use Rattle.two_way.specs.Differences.{Family, AreDifference}
use Rattle.two_way.specs.Laws.{EventsAreDifferences, NetIsTwoWay, TickIsTwoWay}
use Rattle.two_way.proofs.Families.{one_family}
use Rattle.two_way.proofs.NetDifference.{net_is_difference}

-- one entry more, with its inverse if it has one
pub doubled_more : (history : List Entry) (entry : Entry) (inverse : Option Entry) → inverse_entry entry ≡ inverse →
    (doubled history ++ entry ∷ []) ++ option_to_list inverse ≡ doubled (history ++ entry ∷ [])
doubled_more history entry inverse is =
    append_assoc (doubled history) (entry ∷ []) (option_to_list inverse)
    ∙ (ap (λ (each : Option Entry). doubled history ++ (entry ∷ option_to_list each)) (sym is)
    ∙ (ap (λ (last : List Entry). doubled history ++ last) (sym (append-nil (doubled_by entry)))
    ∙ sym (flat_map-append doubled_by history (entry ∷ []))))

pub net_is_two_way : EventsAreDifferences → NetIsTwoWay
net_is_two_way differences queries history entry inverse first second events has first_are second_are net =
    let before = doubled history in
    let middle = before ++ entry ∷ [] in
    let after = middle ++ inverse ∷ [] in
    let one = (differences queries before middle first).0 first_are in
    let two = (differences queries middle after second).0 second_are in
    let from_middle = subst (λ (family : Family). AreDifference family two.1 second)
    (one_family queries middle two.0 one.1 two.2 one.3) two.4 in
    let all = net_is_difference one.0 one.1 two.1 first second events one.4 from_middle net in
    subst (λ (whole : List Entry). AreEventsUnder 0 queries before whole events) (doubled_more history entry (Some inverse) has)
    ((differences queries before after events).1 (one.0, two.1, one.2, two.3, all))

pub tick_is_two_way : TickIsTwoWay
tick_is_two_way queries history entry events has =
    let before = doubled history in
    let middle = before ++ entry ∷ [] in
    let is : middle ≡ doubled (history ++ entry ∷ []) = sym (append-nil middle) ∙ doubled_more history entry None has in (
      subst (λ (whole : List Entry). AreEventsUnder 0 queries before whole events) is,
      subst (λ (whole : List Entry). AreEventsUnder 0 queries before whole events) (sym is),
    )
