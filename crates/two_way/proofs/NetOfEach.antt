-- The net of each of some entries: one entry more, and what the nets of an engine's events are.
use Rattle.std.proofs.Common.{◌≡◌, ℕ, ◌+◌, ◌≤◌, true, Some, None, List, [], ◌∷◌, ◌++◌, length, take, drop, refl, sym, ap, subst, ◌∙◌, inl, ⊎_elim, arith, length-append, length-drop, drop-drop, append-nil, get_or, ◌<◌, map}
use Rattle.std.proofs.lemmas.Grind.{flat_map-append}
use Rattle.std.proofs.lemmas.List.{take_more, take-map, drop-map}
use Rattle.std.proofs.lemmas.List.Folds.{length-flat_map-take}
use Rattle.rpq_base.specs.declared.data.Act.{Act}
use Rattle.rpq_base.specs.declared.data.Act.TheVariants.{Insert, Delete, Tick}
use Rattle.rpq_base.specs.declared.data.Entry.{Entry}
use Rattle.rpq_base.specs.declared.data.Event.{Event}
use Rattle.rpq_base.proofs.Members.{none_in}
use Rattle.rpq_base.proofs.Sorted.{same_from_members}
use Rattle.rpq_model.specs.Query.{Query}
use Rattle.rpq_model.specs.QueryEvents.{AreEventsUnder, AreEntryEvents, AreAllEventsFrom}
use Rattle.two_way.specs.Doubled.{inverse_edge, inverse_entry, doubled_by, doubled}
use Rattle.two_way.specs.TwoWay.{AreTwoWayEvents, AreAllWalkedEventsFrom}
use Rattle.two_way.specs.Net.{AreNet, IsNetOf, AreAllNet}
use Rattle.two_way.specs.Laws.{EventsAreDifferences, AllNetAreTwoWay}
use Rattle.two_way.proofs.EventOrder.{event_cmp_total, event_cmp_exact}
use Rattle.two_way.proofs.TwoWayEvents.{doubled_more, net_is_two_way, tick_is_two_way}

-- ---- one entry more

-- the entries up to this one
front_more : (entries : List Entry) (index : ℕ) (entry : Entry) → index < length entries → entry ≡ get_or entries index entry →
    take (index + 1) entries ≡ take index entries ++ entry ∷ []
front_more entries index entry below is = take_more entries index entry below ∙ ap (λ (each : Entry). take index entries ++ each ∷ []) (sym is)

-- as many lists as doubled entries are enough for the next one
pub enough_left : {X : Type 0} (entries : List Entry) (lists : List X) (index : ℕ) (entry : Entry) →
    index < length entries → entry ≡ get_or entries index entry → length lists ≡ length (doubled entries) →
    length (doubled_by entry) ≤ length (drop (length (doubled (take index entries))) lists)
enough_left entries lists index entry below is as_many =
    let behind = length (doubled (take index entries)) in
    let all = length-flat_map-take doubled_by entries index entry below in
    let own : length (doubled_by (get_or entries index entry)) ≡ length (doubled_by entry) = ap (λ (each : Entry). length (doubled_by each)) (sym is) in
    omega (arith, all, own, as_many, length-drop behind lists)

-- and they are behind it then
pub next_left : {X : Type 0} (entries : List Entry) (lists : List X) (index : ℕ) (entry : Entry) →
    index < length entries → entry ≡ get_or entries index entry →
    drop (length (doubled_by entry)) (drop (length (doubled (take index entries))) lists) ≡ drop (length (doubled (take (index + 1) entries))) lists
next_left entries lists index entry below is =
    let front = take index entries in
    let whole : doubled (take (index + 1) entries) ≡ doubled front ++ doubled_by entry =
    ap doubled (front_more entries index entry below is)
    ∙ (flat_map-append doubled_by front (entry ∷ []) ∙ ap (λ (last : List Entry). doubled front ++ last) (append-nil (doubled_by entry))) in
    drop-drop (length (doubled_by entry)) (length (doubled front)) lists
    ∙ ap (λ (count : ℕ). drop count lists) (sym (length-append (doubled front) (doubled_by entry)) ∙ sym (ap (λ (both : List Entry). length both) whole))

-- the net of one entry more
pub all_net_more : (entries : List Entry) (lists netted : List (List Event)) (entry : Entry) (events : List Event) →
    AreAllNet entries lists netted →
    IsNetOf (take (length (doubled_by entry)) (drop (length (doubled entries)) lists)) events →
    AreAllNet (entries ++ entry ∷ []) lists (netted ++ events ∷ [])
all_net_more [] lists [] entry events so_far net = (net, refl)
all_net_more [] lists (own ∷ rest) entry events so_far net = absurd cc
all_net_more (first ∷ later) lists [] entry events so_far net = absurd so_far
all_net_more (first ∷ later) lists (own ∷ rest) entry events so_far net =
    let front = length (doubled_by first) in
    let same : drop (length (doubled (first ∷ later))) lists ≡ drop (length (doubled later)) (drop front lists) =
    ap (λ (count : ℕ). drop count lists) (length-append (doubled_by first) (doubled later))
    ∙ sym (drop-drop (length (doubled later)) front lists) in (
      so_far.0,
      all_net_more later (drop front lists) rest entry events so_far.1
          (subst (λ (left : List (List Event)). IsNetOf (take (length (doubled_by entry)) left) events) same net),
    )

-- and of lists that are shown
pub all_net_next : {X : Type 0} (show : X → List Event) (entries : List Entry) (lists : List X) (index : ℕ) (entry : Entry) (netted : List (List Event)) (events : List Event) →
    index < length entries → entry ≡ get_or entries index entry →
    AreAllNet (take index entries) (map show lists) netted →
    IsNetOf (map show (take (length (doubled_by entry)) (drop (length (doubled (take index entries))) lists))) events →
    AreAllNet (take (index + 1) entries) (map show lists) (netted ++ events ∷ [])
all_net_next show entries lists index entry netted events below is so_far net =
    let own = length (doubled_by entry) in
    let behind = length (doubled (take index entries)) in
    let shown : map show (take own (drop behind lists)) ≡ take own (drop behind (map show lists)) =
    sym (take-map show own (drop behind lists)) ∙ ap (λ (left : List (List Event)). take own left) (sym (drop-map show behind lists)) in
    subst (λ (front : List Entry). AreAllNet front (map show lists) (netted ++ events ∷ [])) (sym (front_more entries index entry below is))
    (all_net_more (take index entries) (map show lists) netted entry events so_far
    (subst (λ (left : List (List Event)). IsNetOf left events) shown net))

-- ---- what the nets of an engine's events are

-- the net of events in their order and of none are these events
net_of_one : (queries : List Query) (before after : List Entry) (only events : List Event) → EventsAreDifferences →
    AreEventsUnder 0 queries before after only → AreNet only [] events → events ≡ only
net_of_one queries before after only events differences are net =
    let difference = ((differences queries before after only).0 are).4 in
    same_from_members event_cmp_total event_cmp_exact events only net.sorted difference.sorted
    (λ each. (
      (λ member. ⊎_elim (λ stays. stays.0) (λ other. absurd (none_in each other.0)) ((net.exact each).0 member)),
      (λ member. (net.exact each).1 (inl (member, λ undone. none_in _ undone))),
    ))

-- the entry of this stream and time with this act
abbrev entry_of : ℕ → ℕ → Act → Entry
entry_of stream time act = record { stream = stream; tuple = record { time = time; act = act } }

-- the two-way events of an entry, and the engine's of what follows
record Splits (queries : List Query) (before later : List Entry) (entry : Entry) (events : List Event) (lists : List (List Event)) : Type 0 where
  pub here : AreTwoWayEvents queries before entry events
  pub rest : AreAllEventsFrom queries (doubled (before ++ entry ∷ [])) (doubled later) lists

split_insert : (queries : List Query) (before later : List Entry) (entry inverse : Entry) (lists : List (List Event)) (events : List Event) → EventsAreDifferences →
    inverse_entry entry ≡ Some inverse →
    AreAllEventsFrom queries (doubled before) (entry ∷ inverse ∷ doubled later) lists →
    IsNetOf (take 2 lists) events → Splits queries before later entry events (drop 2 lists)
split_insert queries before later entry inverse [] events differences has are net = absurd are
split_insert queries before later entry inverse (first ∷ []) events differences has are net = absurd are.1
split_insert queries before later entry inverse (first ∷ second ∷ others) events differences has are net = record {
  here = net_is_two_way differences queries before entry inverse first second events has are.0 are.1.0 net;
  rest = subst (λ (front : List Entry). AreAllEventsFrom queries front (doubled later) others) (doubled_more before entry (Some inverse) has) are.1.1;
}

split_tick : (queries : List Query) (before later : List Entry) (entry : Entry) (lists : List (List Event)) (events : List Event) → EventsAreDifferences →
    inverse_entry entry ≡ None →
    AreAllEventsFrom queries (doubled before) (entry ∷ doubled later) lists →
    IsNetOf (take 1 lists) events → Splits queries before later entry events (drop 1 lists)
split_tick queries before later entry [] events differences has are net = absurd are
split_tick queries before later entry (only ∷ others) events differences has are net =
    let middle = doubled before ++ entry ∷ [] in
    let same = net_of_one queries (doubled before) middle only events differences are.0 net in
    record {
      here = (tick_is_two_way queries before entry events has).0 (subst (AreEntryEvents queries (doubled before) entry) (sym same) are.0);
      rest = subst (λ (front : List Entry). AreAllEventsFrom queries front (doubled later) others)
          (sym (append-nil middle) ∙ doubled_more before entry None has) are.1;
    }

-- by cases on the act
split : (act : Act) (stream time : ℕ) (queries : List Query) (before later : List Entry) (lists : List (List Event)) (events : List Event) → EventsAreDifferences →
    AreAllEventsFrom queries (doubled before) (doubled (entry_of stream time act ∷ later)) lists →
    IsNetOf (take (length (doubled_by (entry_of stream time act))) lists) events →
    Splits queries before later (entry_of stream time act) events (drop (length (doubled_by (entry_of stream time act))) lists)
split (Insert edge until) stream time queries before later lists events differences are net =
    split_insert queries before later (entry_of stream time (Insert edge until)) (entry_of stream time (Insert (inverse_edge edge) until)) lists events
    differences refl are net
split (Delete edge) stream time queries before later lists events differences are net =
    split_insert queries before later (entry_of stream time (Delete edge)) (entry_of stream time (Delete (inverse_edge edge))) lists events
    differences refl are net
split Tick stream time queries before later lists events differences are net =
    split_tick queries before later (entry_of stream time Tick) lists events differences refl are net

all_net : (later before : List Entry) (queries : List Query) (lists netted : List (List Event)) → EventsAreDifferences →
    AreAllEventsFrom queries (doubled before) (doubled later) lists → AreAllNet later lists netted →
    AreAllWalkedEventsFrom true queries before later netted
all_net [] before queries lists [] differences are nets = tt
all_net [] before queries lists (own ∷ rest) differences are nets = absurd cc
all_net (entry ∷ later) before queries lists [] differences are nets = absurd nets
all_net (entry ∷ later) before queries lists (events ∷ rest) differences are nets =
    let parts = split entry.tuple.act entry.stream entry.tuple.time queries before later lists events differences are nets.0 in (
      parts.here,
      all_net later (before ++ entry ∷ []) queries (drop (length (doubled_by entry)) lists) rest differences parts.rest nets.1,
    )

pub all_net_are_two_way : EventsAreDifferences → AllNetAreTwoWay
all_net_are_two_way differences queries before later lists netted are nets = all_net later before queries lists netted differences are nets
