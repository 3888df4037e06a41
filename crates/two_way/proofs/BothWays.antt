-- Where each entry stands with its inverse, each live edge is seen both ways.
use Rattle.std.proofs.Common.{◌≡◌, ℕ, Option, Some, List, [], ◌∷◌, ◌++◌, refl, sym, ap, subst, ◌∙◌, inl, inr, ⊎_elim, append_assoc, append-nil}
use Rattle.std.specs.Prelude.{◌↔◌, All, Contains}
use Rattle.std.specs.Option.{option_map, option_to_list}
use Rattle.std.proofs.lemmas.List.Elements.{All-head, All-tail}
use Rattle.rpq_base.specs.Plain.{IsPlainLabel, IsPlainAct, IsPlain}
use Rattle.rpq_base.specs.declared.data.Edge.{Edge}
use Rattle.rpq_base.specs.declared.data.Act.{Act}
use Rattle.rpq_base.specs.declared.data.Act.TheVariants.{Insert, Delete, Tick}
use Rattle.rpq_base.specs.declared.data.Entry.{Entry}
use Rattle.rpq_base.proofs.Members.{none_in}
use Rattle.rpq_model.specs.Window.{WindowValue, edges_at}
use Rattle.rpq_model.specs.WindowLaws.{OneEntryMore}
use Rattle.rpq_model.proofs.LiveEdges.{none_live}
use Rattle.two_way.specs.Doubled.{inverse_edge, inverse_act, with_act, doubled_by, doubled}
use Rattle.two_way.specs.Laws.{IsEitherWay, EdgesAreSeenBothWays}
use Rattle.two_way.proofs.Forwards.{no_inverse}

-- at a clock the live edges of the first history point forwards, and those of the other are they and their inverses
record AreBothWays (window : WindowValue) (now : ℕ) (history other : List Entry) : Type 0 where
  pub plain : (edge : Edge) → Contains (edges_at window now history) edge → IsPlainLabel edge.label
  pub edges : (edge : Edge) → Contains (edges_at window now other) edge ↔ IsEitherWay (edges_at window now history) edge

-- an edge that points forwards has an inverse of its own
one_inverse : (edge other : Edge) → IsPlainLabel edge.label → IsPlainLabel other.label → inverse_edge edge ≡ inverse_edge other → edge ≡ other
one_inverse edge other edge_plain other_plain same =
    let to = ap (λ (each : Edge). each.from) same in
    let name = ap (λ (each : Edge). each.label.name) same in
    let from = ap (λ (each : Edge). each.to) same in
    let back = edge_plain ∙ sym other_plain in
    λ i. record { from = from i; label = record { name = name i; back = back i }; to = to i }

-- the entry of this stream and time with this act
abbrev entry_of : ℕ → ℕ → Act → Entry
entry_of stream time act = record { stream = stream; tuple = record { time = time; act = act } }

insert_more : OneEntryMore → (window : WindowValue) (now : ℕ) (history other : List Entry) (stream time : ℕ) (edge : Edge) (until : Option ℕ) →
    IsPlainLabel edge.label → AreBothWays window now history other →
    AreBothWays window now (history ++ entry_of stream time (Insert edge until) ∷ [])
    ((other ++ entry_of stream time (Insert edge until) ∷ []) ++ entry_of stream time (Insert (inverse_edge edge) until) ∷ [])
insert_more more window now history other stream time edge until edge_plain ways =
    let entry = entry_of stream time (Insert edge until) in
    let inverse = entry_of stream time (Insert (inverse_edge edge) until) in
    let own = (more window now history entry).edges in
    let first = (more window now other entry).edges in
    let second = (more window now (other ++ entry ∷ []) inverse).edges in
    record {
      plain = λ each member. ⊎_elim
          (λ seen. let same : edge ≡ each = cc in subst (λ (one : Edge). IsPlainLabel one.label) same edge_plain)
          (λ kept. ways.plain each kept.0)
          ((own each).0 member);
      edges = λ each. (
        (λ member. ⊎_elim
            (λ seen. let same : inverse_edge edge ≡ each = cc in inr (edge, (own edge).1 (inl (refl, seen.1)), sym same))
            (λ kept. ⊎_elim
            (λ seen. inl ((own each).1 (inl seen)))
            (λ before. ⊎_elim
            (λ there. inl ((own each).1 (inr (there, λ is. cc))))
            (λ turned. inr (turned.0, (own turned.0).1 (inr (turned.1, λ is. cc)), turned.2))
            ((ways.edges each).0 before.0))
            ((first each).0 kept.0))
            ((second each).0 member)),
        (λ either. (second each).1 (⊎_elim
            (λ forward. inr (
              (first each).1 (⊎_elim
                  (λ seen. inl seen)
                  (λ kept. inr ((ways.edges each).1 (inl kept.0), λ is. cc))
                  ((own each).0 forward)),
              λ is. cc,
            ))
            (λ turned. ⊎_elim
            (λ seen. let same : edge ≡ turned.0 = cc in inl (ap Some (ap inverse_edge same ∙ sym turned.2), seen.1))
            (λ kept. inr ((first each).1 (inr ((ways.edges each).1 (inr (turned.0, kept.0, turned.2)), λ is. cc)), λ is. cc))
            ((own turned.0).0 turned.1))
            either)),
      );
    }

delete_more : OneEntryMore → (window : WindowValue) (now : ℕ) (history other : List Entry) (stream time : ℕ) (edge : Edge) →
    IsPlainLabel edge.label → AreBothWays window now history other →
    AreBothWays window now (history ++ entry_of stream time (Delete edge) ∷ [])
    ((other ++ entry_of stream time (Delete edge) ∷ []) ++ entry_of stream time (Delete (inverse_edge edge)) ∷ [])
delete_more more window now history other stream time edge edge_plain ways =
    let entry = entry_of stream time (Delete edge) in
    let inverse = entry_of stream time (Delete (inverse_edge edge)) in
    let own = (more window now history entry).edges in
    let first = (more window now other entry).edges in
    let second = (more window now (other ++ entry ∷ []) inverse).edges in
    record {
      plain = λ each member. ⊎_elim (λ seen. let none = seen.0 in cc) (λ kept. ways.plain each kept.0) ((own each).0 member);
      edges = λ each. (
        (λ member. ⊎_elim
            (λ seen. let none = seen.0 in cc)
            (λ kept. ⊎_elim
            (λ seen. let none = seen.0 in cc)
            (λ before. ⊎_elim
            (λ there. inl ((own each).1 (inr (there, before.1))))
            (λ turned. inr (
              turned.0,
              (own turned.0).1 (inr (turned.1, λ is. let same : edge ≡ turned.0 = cc in kept.1 (ap Delete (ap inverse_edge same ∙ sym turned.2)))),
              turned.2,
            ))
            ((ways.edges each).0 before.0))
            ((first each).0 kept.0))
            ((second each).0 member)),
        (λ either. (second each).1 (⊎_elim
            (λ forward. ⊎_elim
            (λ seen. let none = seen.0 in cc)
            (λ kept. inr (
              (first each).1 (inr ((ways.edges each).1 (inl kept.0), kept.1)),
              λ is. let same : inverse_edge edge ≡ each = cc in no_inverse edge each (ways.plain each kept.0) same,
            ))
            ((own each).0 forward))
            (λ turned. ⊎_elim
            (λ seen. let none = seen.0 in cc)
            (λ kept. inr (
              (first each).1 (inr (
                (ways.edges each).1 (inr (turned.0, kept.0, turned.2)),
                λ is. let same : edge ≡ each = cc in no_inverse turned.0 edge edge_plain (sym (same ∙ turned.2)),
              )),
              λ is. let same : inverse_edge edge ≡ each = cc in
                  kept.1 (ap Delete (one_inverse edge turned.0 edge_plain (ways.plain turned.0 kept.0) (same ∙ turned.2))),
            ))
            ((own turned.0).0 turned.1))
            either)),
      );
    }

tick_more : OneEntryMore → (window : WindowValue) (now : ℕ) (history other : List Entry) (stream time : ℕ) → AreBothWays window now history other →
    AreBothWays window now (history ++ entry_of stream time Tick ∷ []) (other ++ entry_of stream time Tick ∷ [])
tick_more more window now history other stream time ways =
    let entry = entry_of stream time Tick in
    let own = (more window now history entry).edges in
    let first = (more window now other entry).edges in
    record {
      plain = λ each member. ⊎_elim (λ seen. let none = seen.0 in cc) (λ kept. ways.plain each kept.0) ((own each).0 member);
      edges = λ each. (
        (λ member. ⊎_elim
            (λ seen. let none = seen.0 in cc)
            (λ before. ⊎_elim
            (λ there. inl ((own each).1 (inr (there, λ is. cc))))
            (λ turned. inr (turned.0, (own turned.0).1 (inr (turned.1, λ is. cc)), turned.2))
            ((ways.edges each).0 before.0))
            ((first each).0 member)),
        (λ either. (first each).1 (inr (
          (ways.edges each).1 (⊎_elim
              (λ forward. ⊎_elim (λ seen. let none = seen.0 in cc) (λ kept. inl kept.0) ((own each).0 forward))
              (λ turned. ⊎_elim (λ seen. let none = seen.0 in cc) (λ kept. inr (turned.0, kept.0, turned.2)) ((own turned.0).0 turned.1))
              either),
          λ is. cc,
        ))),
      );
    }

-- an entry with its inverse, by cases on its act
with_inverse_more : OneEntryMore → (act : Act) (window : WindowValue) (now : ℕ) (history other : List Entry) (stream time : ℕ) →
    IsPlainAct act → AreBothWays window now history other →
    AreBothWays window now (history ++ entry_of stream time act ∷ [])
    (other ++ entry_of stream time act ∷ option_to_list (option_map (with_act (entry_of stream time act)) (inverse_act act)))
with_inverse_more more (Insert edge until) window now history other stream time plain ways =
    let entry = entry_of stream time (Insert edge until) in
    subst (AreBothWays window now (history ++ entry ∷ []))
    (append_assoc other (entry ∷ []) (entry_of stream time (Insert (inverse_edge edge) until) ∷ []))
    (insert_more more window now history other stream time edge until plain ways)
with_inverse_more more (Delete edge) window now history other stream time plain ways =
    let entry = entry_of stream time (Delete edge) in
    subst (AreBothWays window now (history ++ entry ∷ []))
    (append_assoc other (entry ∷ []) (entry_of stream time (Delete (inverse_edge edge)) ∷ []))
    (delete_more more window now history other stream time edge plain ways)
with_inverse_more more Tick window now history other stream time plain ways = tick_more more window now history other stream time ways

all_more : OneEntryMore → (later : List Entry) (window : WindowValue) (now : ℕ) (history other : List Entry) → All IsPlain later →
    AreBothWays window now history other → AreBothWays window now (history ++ later) (other ++ doubled later)
all_more more [] window now history other plain ways =
    subst (λ (first : List Entry). AreBothWays window now first (other ++ [])) (sym (append-nil history))
    (subst (AreBothWays window now history) (sym (append-nil other)) ways)
all_more more (entry ∷ later) window now history other plain ways =
    let pair = doubled_by entry in
    let here = with_inverse_more more entry.tuple.act window now history other entry.stream entry.tuple.time (All-head IsPlain entry later plain) ways in
    let further = all_more more later window now (history ++ entry ∷ []) (other ++ pair) (All-tail IsPlain entry later plain) here in
    subst (λ (first : List Entry). AreBothWays window now first (other ++ doubled (entry ∷ later))) (append_assoc history (entry ∷ []) later)
    (subst (AreBothWays window now ((history ++ entry ∷ []) ++ later)) (append_assoc other pair (doubled later)) further)

none_at_first : (window : WindowValue) (now : ℕ) (edge : Edge) → Contains (edges_at window now []) edge → ⊥
none_at_first window now edge member = none_in edge (subst (λ (edges : List Edge). Contains edges edge) (none_live window now) member)

pub edges_are_seen_both_ways : OneEntryMore → EdgesAreSeenBothWays
edges_are_seen_both_ways more window now history edge plain =
    let start : AreBothWays window now [] [] = record {
      plain = λ each member. absurd (none_at_first window now each member);
      edges = λ each. (
        (λ member. inl member),
        (λ either. ⊎_elim (λ member. member) (λ turned. absurd (none_at_first window now turned.0 turned.1)) either),
      );
    } in
    (all_more more history window now [] [] plain start).edges edge
