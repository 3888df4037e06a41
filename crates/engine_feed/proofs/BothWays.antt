-- What an engine that is fed entries and their inverses answers, netted.
use Rattle.std.proofs.Common.{ℕ, ◌*◌, ◌<◌, ◌≤◌, true, false, List, [], ◌∷◌, ◌++◌, length, map, take, drop, Vec, Global, Result, Ok, Err, sym, subst, ⊎_elim, arith, length-append}
use Rattle.std.specs.Prelude.{All, Contains, IfOk}
use Rattle.std.specs.List.Sorted.{IsStrictlySortedBy}
use Rattle.std.proofs.lemmas.Grind.{flat_map-append}
use Rattle.std.proofs.lemmas.List.Elements.{All-nil, All-cons, All-same, All-take, All-drop, All-weaker, All-contains, All-contains_itself, All-head, All-tail}
use Rattle.rpq_base.specs.declared.data.Act.{Act}
use Rattle.rpq_base.specs.declared.data.Act.TheVariants.{Insert, Delete, Tick}
use Rattle.rpq_base.specs.declared.data.Entry.{Entry}
use Rattle.rpq_base.specs.declared.data.Event.{Event}
use Rattle.rpq_model.specs.Query.{Query}
use Rattle.rpq_model.specs.QueryEvents.{AreAllEventsFrom}
use Rattle.path_engine.specs.Engine.{EngineValue, StandsFor, definitions}
use Rattle.path_engine.specs.Feeding.{FeedsFront}
use Rattle.two_way.specs.Differences.{event_cmp}
use Rattle.two_way.specs.Doubled.{doubled_by, doubled}
use Rattle.two_way.specs.Net.{AreNet, IsNetOf, AreAllNet}
use Rattle.two_way.specs.Laws.{EventsAreDifferences, AllNetAreTwoWay}
use Rattle.engine_feed.specs.Feeding.{FeedsEntries}

pub if_ok : {T E : Type 0} (P Q : T → Type 0) → ((value : T) → P value → Q value) → (result : Result T E) → IfOk result P → IfOk result Q
if_ok P Q gives (Ok value) given = gives value given
if_ok P Q gives (Err fault) given = tt

-- what is so of all that is shown is so of what shows it
pub all_shown : {X Y : Type 0} (P : Y → Type 0) (show : X → Y) (elements : List X) → All P (map show elements) → All (λ element. P (show element)) elements
all_shown P show [] all = All-nil (λ element. P (show element))
all_shown P show (element ∷ rest) all =
    All-cons (λ element. P (show element)) element rest (All-head P (show element) (map show rest) all)
    (all_shown P show rest (All-tail P (show element) (map show rest) all))

-- ---- how many doubled entries there are

at_most_two : (act : Act) (stream time : ℕ) → length (doubled_by (record { stream = stream; tuple = record { time = time; act = act } })) ≤ 2
at_most_two (Insert edge until) stream time = omega arith
at_most_two (Delete edge) stream time = omega arith
at_most_two Tick stream time = omega arith

pub at_most_twice : (entries : List Entry) → length (doubled entries) ≤ 2 * length entries
at_most_twice [] = omega arith
at_most_twice (entry ∷ later) = omega (arith, at_most_twice later, at_most_two entry.tuple.act entry.stream entry.tuple.time, length-append (doubled_by entry) (doubled later))

-- ---- lists of events

abbrev pub items_of : List (Vec Event Global) → List (List Event)
items_of lists = map (λ (own : Vec Event Global). own.items) lists

-- the events of each entry are in their order
pub all_sorted : EventsAreDifferences → (later before : List Entry) (queries : List Query) (lists : List (List Event)) →
    AreAllEventsFrom queries before later lists → All (IsStrictlySortedBy event_cmp) lists
all_sorted differences [] before queries [] are = All-nil (IsStrictlySortedBy event_cmp)
all_sorted differences [] before queries (own ∷ rest) are = absurd are
all_sorted differences (entry ∷ later) before queries [] are = absurd are
all_sorted differences (entry ∷ later) before queries (own ∷ rest) are =
    All-cons (IsStrictlySortedBy event_cmp) own rest
    ((differences queries before (before ++ entry ∷ []) own).0 are.0).4.sorted
    (all_sorted differences later (before ++ entry ∷ []) queries rest are.1)

-- what is so of the events of both lists is so of their net
net_keeps : (P : Event → Type 0) (first second events : List Event) → AreNet first second events → All P first → All P second → All P events
net_keeps P first second events net first_all second_all =
    All-weaker (Contains events) P
    (λ each member. ⊎_elim
    (λ stays. All-contains P first each first_all stays.0)
    (λ stays. All-contains P second each second_all stays.0)
    ((net.exact each).0 member))
    events (All-contains_itself events)

net_of_keeps : (P : Event → Type 0) (lists : List (List Event)) (events : List Event) → IsNetOf lists events → All (All P) lists → All P events
net_of_keeps P [] events net all = All-same P events [] net (All-nil P)
net_of_keeps P (only ∷ []) events net all = net_keeps P only [] events net (All-head (All P) only [] all) (All-nil P)
net_of_keeps P (first ∷ second ∷ others) events net all =
    net_keeps P first second events net (All-head (All P) first (second ∷ others) all)
    (All-head (All P) second others (All-tail (All P) first (second ∷ others) all))

all_net_keep : (P : Event → Type 0) (entries : List Entry) (lists netted : List (List Event)) → AreAllNet entries lists netted → All (All P) lists → All (All P) netted
all_net_keep P [] lists netted nets all = All-same (All P) netted [] nets (All-nil (All P))
all_net_keep P (entry ∷ later) lists [] nets all = absurd nets
all_net_keep P (entry ∷ later) lists (events ∷ rest) nets all =
    let own = length (doubled_by entry) in
    All-cons (All P) events rest
    (net_of_keeps P (take own lists) events nets.0 (All-take (All P) own lists all))
    (all_net_keep P later (drop own lists) rest nets.1 (All-drop (All P) own lists all))

-- ---- the engine's answers, netted

pub netted_feeds : EventsAreDifferences → AllNetAreTwoWay → (entries : List Entry) (old new : EngineValue) (lists netted : List (List Event)) →
    FeedsFront old (doubled entries) new lists → AreAllNet entries lists netted → FeedsEntries true old entries new netted
netted_feeds differences two_way entries old new lists netted feeds nets = record {
  stands = λ history stands.
      subst (StandsFor new) (sym (flat_map-append doubled_by history entries)) (feeds.stands (doubled history) stands);
  keeps = λ history stands. feeds.keeps (doubled history) stands;
  known = feeds.known;
  events = λ history stands. two_way (definitions old) history entries lists netted (feeds.events (doubled history) stands) nets;
  numbers = all_net_keep (λ (event : Event). event.query < length old.queries) entries lists netted nets feeds.numbers;
}

pub front_feeds : (entries : List Entry) (old new : EngineValue) (lists : List (List Event)) → FeedsFront old entries new lists → FeedsEntries false old entries new lists
front_feeds entries old new lists feeds = record {
  stands = λ history stands. feeds.stands history stands;
  events = λ history stands. feeds.events history stands;
  keeps = λ history stands. feeds.keeps history stands;
  known = feeds.known;
  numbers = feeds.numbers;
}
