-- Histories that are seen alike are so where each entry stands with its inverse.
use Rattle.std.proofs.Common.{◌≡◌, ℕ, max, true, false, List, [], ◌∷◌, ◌++◌, map, fold, refl, sym, ap, subst, ◌∙◌, inl, inr, ⊎_elim, arith}
use Rattle.std.specs.Prelude.{All, Contains}
use Rattle.std.specs.Option.{option_map, option_to_list}
use Rattle.std.proofs.lemmas.Grind.{flat_map-append}
use Rattle.rpq_base.specs.Plain.{IsPlain}
use Rattle.rpq_base.specs.declared.data.Edge.{Edge}
use Rattle.rpq_base.specs.declared.data.Act.{Act}
use Rattle.rpq_base.specs.declared.data.Act.TheVariants.{Insert, Delete, Tick}
use Rattle.rpq_base.specs.declared.data.Entry.{Entry}
use Rattle.rpq_model.specs.Window.{WindowValue, clock, edges_at}
use Rattle.rpq_model.specs.WindowLaws.{OneEntryMore}
use Rattle.two_way.specs.Doubled.{inverse_act, with_act, doubled_by, doubled}
use Rattle.two_way.specs.Laws.{IsEitherWay, EdgesAreSeenBothWays}
use Rattle.alike_histories.specs.Alike.{SeeAlike, AllSeeAlike}
use Rattle.alike_histories.specs.Laws.{AlikeBothWays, AlikeWalked, AlikeWalkedWithMore}
use Rattle.alike_histories.proofs.Alike.{alike_with_more}

-- ---- the clock

-- the greatest of these times and those of the entries
abbrev clock_from : ℕ → List Entry → ℕ
clock_from first entries = fold max first (map (λ (each : Entry). each.tuple.time) entries)

-- an inverse has the time of its entry
inverse_clock : (act : Act) (entry : Entry) (first : ℕ) (rest : List Entry) →
    clock_from (max first entry.tuple.time) (option_to_list (option_map (with_act entry) (inverse_act act)) ++ rest)
    ≡ clock_from (max first entry.tuple.time) rest
inverse_clock (Insert edge until) entry first rest =
    let is : max (max first entry.tuple.time) entry.tuple.time ≡ max first entry.tuple.time = omega arith in
    ap (λ (now : ℕ). clock_from now rest) is
inverse_clock (Delete edge) entry first rest =
    let is : max (max first entry.tuple.time) entry.tuple.time ≡ max first entry.tuple.time = omega arith in
    ap (λ (now : ℕ). clock_from now rest) is
inverse_clock Tick entry first rest = refl

doubled_clock_from : (history : List Entry) (first : ℕ) → clock_from first (doubled history) ≡ clock_from first history
doubled_clock_from [] first = refl
doubled_clock_from (entry ∷ later) first =
    inverse_clock entry.tuple.act entry first (doubled later) ∙ doubled_clock_from later (max first entry.tuple.time)

-- a doubled history has the clock of the history
pub doubled_clock : (history : List Entry) → clock (doubled history) ≡ clock history
doubled_clock history = doubled_clock_from history 0

-- ---- the edges

-- with more edges there are more both ways
either_way : (edges others : List Edge) (edge : Edge) → ((each : Edge) → Contains edges each → Contains others each) →
    IsEitherWay edges edge → IsEitherWay others edge
either_way edges others edge kept way = ⊎_elim
    (λ here. inl (kept edge here))
    (λ back. inr (back.0, kept back.0 back.1, back.2))
    way

-- histories that are seen alike are so both ways
pub both_ways_alike : EdgesAreSeenBothWays → (window : WindowValue) (history other : List Entry) → All IsPlain history → All IsPlain other →
    SeeAlike window history other → SeeAlike window (doubled history) (doubled other)
both_ways_alike ways window history other plain other_plain alike = record {
  clocks = doubled_clock history ∙ (alike.clocks ∙ sym (doubled_clock other));
  edges = λ now after edge.
      let here = ways window now history edge plain in
      let there = ways window now other edge other_plain in
      let both = alike.edges now (omega (arith, doubled_clock history, after)) in
      let first = edges_at window now history in
      let second = edges_at window now other in (
        (λ member. there.1 (either_way first second edge (λ each. (both each).0) (here.0 member))),
        (λ member. here.1 (either_way second first edge (λ each. (both each).1) (there.0 member))),
      );
}

-- ---- the laws

pub alike_both_ways : EdgesAreSeenBothWays → AlikeBothWays
alike_both_ways ways queries history other plain other_plain alike query among =
    both_ways_alike ways query.window history other plain other_plain (alike query among)

pub alike_walked : EdgesAreSeenBothWays → AlikeWalked
alike_walked ways false queries history other plain other_plain alike = alike
alike_walked ways true queries history other plain other_plain alike = alike_both_ways ways queries history other plain other_plain alike

pub alike_walked_with_more : OneEntryMore → AlikeWalkedWithMore
alike_walked_with_more more false queries history other later alike = alike_with_more more queries history other later alike
alike_walked_with_more more true queries history other later alike =
    subst (λ (first : List Entry). AllSeeAlike queries first (doubled (other ++ later))) (sym (flat_map-append doubled_by history later))
    (subst (AllSeeAlike queries (doubled history ++ doubled later)) (sym (flat_map-append doubled_by other later))
    (alike_with_more more queries (doubled history) (doubled other) (doubled later) alike))
