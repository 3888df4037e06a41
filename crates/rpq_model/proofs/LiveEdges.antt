-- The live entries and their edges, entry by entry.
use Rattle.std.proofs.Common.{◌≡◌, ℕ, suc, ◌+◌, ◌<◌, Bool, true, false, cond, ◌||◌, List, [], ◌∷◌, ◌++◌, map, drop, get_or, length, Option, Some, None, refl}
use Rattle.std.proofs.Common.{sym, ap, ◌∙◌, arith}
use Rattle.std.specs.Prelude.{reverse, if◌then◌else◌}
use Rattle.std.specs.BTreeSet.{BTreeSet, contains}
use Rattle.std.specs.BTreeMap.{is_at}
use Rattle.std.specs.List.{cons_option, list_any}
use Rattle.std.specs.Option.{option_to_list}
use Rattle.std.specs.declared.cmp.Ordering.{Ordering}
use Rattle.std.specs.declared.cmp.Ordering.TheVariants.{Equal}
use Rattle.std.specs.Ordering.{ordering_then, is_eq}
use Rattle.std.specs.Cmp.{IsTotalOrder}
use Rattle.std.proofs.lemmas.Cmp.{tied_itself, then_total, on_total, nat_list_cmp_total}
use Rattle.std.proofs.lemmas.Map.Lookups.{exact_bytes}
use Rattle.std.proofs.lemmas.List.{drop_more, drop_all, reverse-append}
use Rattle.rpq_base.specs.Order.{name_cmp, label_cmp}
use Rattle.rpq_base.specs.Same.{same_edge}
use Rattle.rpq_base.proofs.Equality.{same_tests, edges}
use Rattle.rpq_base.proofs.InOrder.{is_equal}
use Rattle.rpq_base.proofs.Orders.{both_equal, label_cmp_total, label_cmp_exact}
use Rattle.rpq_base.specs.declared.data.Edge.{Edge}
use Rattle.rpq_base.specs.declared.data.Act.{Act}
use Rattle.rpq_base.specs.declared.data.Act.TheVariants.{Insert, Delete, Tick}
use Rattle.rpq_base.specs.declared.data.Entry.{Entry}
use Rattle.rpq_model.specs.declared.live.Live.{Live}
use Rattle.rpq_model.specs.Window.{WindowValue, Placed, Inserts, inserted_edge, deletes, is_deleted, is_live, live_from, inserted_edges, edges_at}
use Rattle.rpq_model.specs.Live.{placed_entry}
use Rattle.rpq_model.specs.Deleted.{EdgeKey, edge_of, key_cmp, HoldsEdges}

-- an entry and its place
abbrev pub at_place : ℕ → Entry → Placed
at_place place entry = record { place = place; entry = entry }

-- the edges that one more entry adds, live or not
choice : (live : Bool) (place : ℕ) (entry : Entry) (rest : List Placed) →
    inserted_edges (if live then at_place place entry ∷ rest else rest)
    ≡ cons_option (if live then inserted_edge entry.tuple.act else None) (inserted_edges rest)
choice true place entry rest = refl
choice false place entry rest = refl

-- the edges of live entries don't depend on the place of the first entry
any_place : (entries : List Entry) (window : WindowValue) (now first other : ℕ) →
    inserted_edges (live_from window now first entries) ≡ inserted_edges (live_from window now other entries)
unfolding live_from
any_place [] window now first other = refl
any_place (entry ∷ later) window now first other =
    choice (is_live window now entry later) first entry (live_from window now (suc first) later)
    ∙ (ap (cons_option (if is_live window now entry later then inserted_edge entry.tuple.act else None)) (any_place later window now (suc first) (suc other))
    ∙ sym (choice (is_live window now entry later) other entry (live_from window now (suc other) later)))

-- the edges of an entry and those that follow it
pub first_live : (window : WindowValue) (now : ℕ) (entry : Entry) (later : List Entry) →
    edges_at window now (entry ∷ later)
    ≡ cons_option (if is_live window now entry later then inserted_edge entry.tuple.act else None) (edges_at window now later)
unfolding live_from
first_live window now entry later =
    choice (is_live window now entry later) 0 entry (live_from window now 1 later)
    ∙ ap (cons_option (if is_live window now entry later then inserted_edge entry.tuple.act else None)) (any_place later window now 1 0)

-- no entry, no edge
pub none_live : (window : WindowValue) (now : ℕ) → edges_at window now [] ≡ []
unfolding live_from
none_live window now = refl

-- an act inserts one edge at most, and what inserts an edge deletes none and is no tick
pub one_inserted : (act : Act) (edge other : Edge) → Inserts act edge → Inserts act other → edge ≡ other
one_inserted act edge other inserts also = let both : Some edge ≡ Some other = sym inserts ∙ also in cc

pub inserts_no_delete : (act : Act) (edge other : Edge) → Inserts act edge → act ≡ Delete other → ⊥
inserts_no_delete act edge other inserts deletes = let both : None ≡ Some edge = sym (ap inserted_edge deletes) ∙ inserts in cc

pub inserts_no_tick : (act : Act) (edge : Edge) → Inserts act edge → act ≡ Tick → ⊥
inserts_no_tick act edge inserts ticks = let both : None ≡ Some edge = sym (ap inserted_edge ticks) ∙ inserts in cc

-- what is no insert inserts no edge
pub none_inserted : (act : Act) → ((edge : Edge) (until : Option ℕ) → act ≡ Insert edge until → ⊥) → inserted_edge act ≡ None
none_inserted (Insert edge until) none = absurd (none edge until refl)
none_inserted (Delete edge) none = refl
none_inserted Tick none = refl

-- the edges that one more live entry adds at the end
pub edges_push : (live : List Placed) (one : Placed) →
    inserted_edges (live ++ one ∷ []) ≡ inserted_edges live ++ option_to_list (inserted_edge one.entry.tuple.act)
edges_push [] one = cons_option_alone (inserted_edge one.entry.tuple.act)
  where
    cons_option_alone : (found : Option Edge) → cons_option found [] ≡ [] ++ option_to_list found
    cons_option_alone None = refl
    cons_option_alone (Some edge) = refl
edges_push (first ∷ live) one =
    ap (cons_option (inserted_edge first.entry.tuple.act)) (edges_push live one)
    ∙ moved (inserted_edge first.entry.tuple.act) (inserted_edges live) (option_to_list (inserted_edge one.entry.tuple.act))
  where
    moved : (found : Option Edge) (rest last : List Edge) → cons_option found (rest ++ last) ≡ cons_option found rest ++ last
    moved None rest last = refl
    moved (Some edge) rest last = refl

-- ---- the set of deleted edges

-- edges in the order of the set
abbrev edge_cmp : Edge → Edge → Ordering
edge_cmp first second =
    ordering_then (ordering_then (name_cmp first.from second.from) (label_cmp first.label second.label)) (name_cmp first.to second.to)

edge_cmp_total : IsTotalOrder edge_cmp
edge_cmp_total =
    then_total (then_total (on_total (λ (edge : Edge). edge.from) nat_list_cmp_total) (on_total (λ (edge : Edge). edge.label) label_cmp_total))
    (on_total (λ (edge : Edge). edge.to) nat_list_cmp_total)

edge_cmp_exact : (first second : Edge) → edge_cmp first second ≡ Equal → first ≡ second
edge_cmp_exact first second e =
    let outer = both_equal (ordering_then (name_cmp first.from second.from) (label_cmp first.label second.label)) (name_cmp first.to second.to) e in
    let inner = both_equal (name_cmp first.from second.from) (label_cmp first.label second.label) outer.0 in
    let from = exact_bytes first.from second.from inner.0 in
    let label = label_cmp_exact first.label second.label inner.1 in
    let to = exact_bytes first.to second.to outer.1 in
    λ i. record { from = from i; label = label i; to = to i }

-- the set finds exactly the equal edge
key_test : (key other : EdgeKey) → is_at (key_cmp key) other ≡ same_edge (edge_of other) (edge_of key)
key_test key other =
    same_tests (is_at (key_cmp key) other) (same_edge (edge_of other) (edge_of key)) (
      (λ e. (edges (edge_of other) (edge_of key)).1 (sym (edge_cmp_exact (edge_of key) (edge_of other) (is_equal (key_cmp key other) e)))),
      (λ e.
          let same : edge_of other ≡ edge_of key = (edges (edge_of other) (edge_of key)).0 e in
          ap (λ (edge : Edge). is_eq (edge_cmp (edge_of key) edge)) same ∙ ap is_eq (tied_itself edge_cmp_total (edge_of key))),
    )

cond_is_or : (test other : Bool) → cond test true other ≡ (test || other)
cond_is_or true other = refl
cond_is_or false other = refl

-- after an edge is put in, the set has it and what it had
pub one_deleted : (key other : EdgeKey) (edge : Edge) (act : Act) (had has : Bool) → edge_of key ≡ edge → act ≡ Delete edge →
    has ≡ cond (is_at (key_cmp key) other) true had → has ≡ (deletes (edge_of other) act || had)
one_deleted key other edge act had has is act_is updated =
    updated
    ∙ (cond_is_or (is_at (key_cmp key) other) had
    ∙ ap (λ (test : Bool). test || had)
    (key_test key other ∙ (ap (same_edge (edge_of other)) is ∙ ap (deletes (edge_of other)) (sym act_is))))

-- ---- from the last entry to the first

-- the entries that are live from a place on, the last first, and the edges that are deleted from there on
pub record AreFrom (window : WindowValue) (now : ℕ) (entries : List Entry) (place : ℕ) (live : List Live) (deleted : BTreeSet EdgeKey) : Type 0 where
  pub found : map placed_entry (reverse live) ≡ live_from window now place (drop place entries)
  pub deletes_held : HoldsEdges deleted (is_deleted (drop place entries))

-- at the end no entry is gone through
pub from_end : (window : WindowValue) (now : ℕ) (entries : List Entry) (deleted : BTreeSet EdgeKey) → deleted.keys ≡ [] →
    AreFrom window now entries (length entries) [] deleted
unfolding live_from
from_end window now entries deleted none =
    let rest : drop (length entries) entries ≡ [] = drop_all (length entries) entries (omega arith) in
    record {
      found = sym (ap (live_from window now (length entries)) rest);
      deletes_held = λ key. ap (list_any (is_at (key_cmp key))) none ∙ ap (λ (later : List Entry). is_deleted later (edge_of key)) (sym rest);
    }

-- one entry more is gone through
pub from_more : (window : WindowValue) (now : ℕ) (entries : List Entry) (place : ℕ) (live more : List Live) (deleted after : BTreeSet EdgeKey) (entry : Entry)
    (kept : Bool) →
    AreFrom window now entries (place + 1) live deleted → place < length entries → entry ≡ get_or entries place entry →
    kept ≡ is_live window now entry (drop (place + 1) entries) →
    map placed_entry (reverse more) ≡ (if kept then at_place place entry ∷ map placed_entry (reverse live) else map placed_entry (reverse live)) →
    ((key : EdgeKey) → contains key_cmp after key ≡ (deletes (edge_of key) entry.tuple.act || contains key_cmp deleted key)) →
    AreFrom window now entries place more after
unfolding live_from
from_more window now entries place live more deleted after entry kept so_far below is kept_is more_is deletes_more =
    let later = drop (place + 1) entries in
    let cut : drop place entries ≡ entry ∷ later = drop_more entries place entry below ∙ ap (λ (e : Entry). e ∷ later) (sym is) in
    let rest : map placed_entry (reverse live) ≡ live_from window now (suc place) later =
    so_far.found ∙ ap (λ (first : ℕ). live_from window now first later) (omega arith) in
    record {
      found =
          more_is
          ∙ (ap (λ (tail : List Placed). if kept then at_place place entry ∷ tail else tail) rest
          ∙ (ap (λ (test : Bool). if test then at_place place entry ∷ live_from window now (suc place) later else live_from window now (suc place) later) kept_is
          ∙ sym (ap (live_from window now place) cut)));
      deletes_held = λ key.
          deletes_more key
          ∙ (ap (λ (held : Bool). deletes (edge_of key) entry.tuple.act || held) (so_far.deletes_held key)
          ∙ ap (λ (all : List Entry). is_deleted all (edge_of key)) (sym cut));
    }

-- the list, the last first, with one entry more
pub one_kept : (live more : List Live) (one : Live) → more ≡ live ++ one ∷ [] →
    map placed_entry (reverse more) ≡ placed_entry one ∷ map placed_entry (reverse live)
one_kept live more one is = ap (λ (all : List Live). map placed_entry (reverse all)) is ∙ ap (map placed_entry) (reverse-append live (one ∷ []))
