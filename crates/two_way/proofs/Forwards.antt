-- Without words that take edges backwards, inverses change nothing.
use Rattle.std.proofs.Common.{◌≡◌, ℕ, ◌≤◌, max, Option, List, [], ◌∷◌, ◌++◌, refl, sym, ap, subst, ◌∙◌, inl, inr, ⊎_elim, arith, append_assoc, append-nil}
use Rattle.std.specs.Prelude.{◌↔◌, All, Contains}
use Rattle.std.specs.Option.{option_map, option_to_list}
use Rattle.std.proofs.lemmas.Bool.{false≢true}
use Rattle.std.proofs.lemmas.List.Elements.{All-cons, All-nil, All-head, All-tail}
use Rattle.rpq_base.specs.Plain.{IsPlainLabel}
use Rattle.rpq_base.specs.declared.data.Label.{Label}
use Rattle.rpq_base.specs.declared.data.Edge.{Edge}
use Rattle.rpq_base.specs.declared.data.Act.{Act}
use Rattle.rpq_base.specs.declared.data.Act.TheVariants.{Insert, Delete, Tick}
use Rattle.rpq_base.specs.declared.data.Entry.{Entry}
use Rattle.rpq_base.specs.declared.data.Pair.{Pair}
use Rattle.rpq_model.specs.declared.mode.Mode.{Mode}
use Rattle.rpq_model.specs.Window.{WindowValue, Inserts, clock, edges_at}
use Rattle.rpq_model.specs.WindowLaws.{OneEntryMore}
use Rattle.rpq_model.specs.Path.{word_of}
use Rattle.rpq_model.specs.Answers.{IsJoinedBy, IsAnswerAt}
use Rattle.rpq_model.specs.AnswerLaws.{query_for}
use Rattle.two_way.specs.Doubled.{inverse_edge, inverse_act, with_act, doubled_by, doubled}
use Rattle.two_way.specs.Laws.{OneWaySame}

-- two histories have the same clock, and the same live edges that point forwards
record AreForwardAlike (window : WindowValue) (history other : List Entry) : Type 0 where
  pub clocks : clock history ≡ clock other
  pub edges : (now : ℕ) (edge : Edge) → IsPlainLabel edge.label → Contains (edges_at window now history) edge ↔ Contains (edges_at window now other) edge

-- an act does nothing to this edge
record LeavesAlone (act : Act) (edge : Edge) : Type 0 where
  pub inserts_no : Inserts act edge → ⊥
  pub deletes_no : act ≡ Delete edge → ⊥

one_more : OneEntryMore → (window : WindowValue) (history other : List Entry) (last : Entry) → AreForwardAlike window history other →
    AreForwardAlike window (history ++ last ∷ []) (other ++ last ∷ [])
one_more more window history other last alike = record {
  clocks = (more window 0 history last).clocks ∙ (ap (λ (now : ℕ). max now last.tuple.time) alike.clocks ∙ sym (more window 0 other last).clocks);
  edges = λ now edge plain.
      let both = alike.edges now edge plain in
      let here = (more window now history last).edges edge in
      let there = (more window now other last).edges edge in (
        (λ member. there.1 (⊎_elim (λ seen. inl seen) (λ kept. inr (both.0 kept.0, kept.1)) (here.0 member))),
        (λ member. here.1 (⊎_elim (λ seen. inl seen) (λ kept. inr (both.1 kept.0, kept.1)) (there.0 member))),
      );
}

-- an entry of an edge taken backwards, at a time that the clock has reached, changes nothing
backwards_more : OneEntryMore → (window : WindowValue) (history other : List Entry) (last : Entry) → AreForwardAlike window history other →
    last.tuple.time ≤ clock other → ((edge : Edge) → IsPlainLabel edge.label → LeavesAlone last.tuple.act edge) →
    AreForwardAlike window history (other ++ last ∷ [])
backwards_more more window history other last alike late alone =
    let clock_is = (more window 0 other last).clocks in
    record {
      clocks = omega (arith, alike.clocks, clock_is, late);
      edges = λ now edge plain.
          let both = alike.edges now edge plain in
          let there = (more window now other last).edges edge in (
            (λ member. there.1 (inr (both.0 member, (alone edge plain).deletes_no))),
            (λ member. ⊎_elim (λ seen. absurd ((alone edge plain).inserts_no seen.0)) (λ kept. both.1 kept.0) (there.0 member)),
          );
    }

-- an edge that points forwards is no inverse
pub no_inverse : (edge other : Edge) → IsPlainLabel other.label → inverse_edge edge ≡ other → ⊥
no_inverse edge other plain same = false≢true (sym plain ∙ ap (λ (each : Edge). each.label.back) (sym same))

insert_alone : (edge other : Edge) (until : Option ℕ) → IsPlainLabel other.label → LeavesAlone (Insert (inverse_edge edge) until) other
insert_alone edge other until plain = record {
  inserts_no = λ is. let same : inverse_edge edge ≡ other = cc in no_inverse edge other plain same;
  deletes_no = λ is. cc;
}

delete_alone : (edge other : Edge) → IsPlainLabel other.label → LeavesAlone (Delete (inverse_edge edge)) other
delete_alone edge other plain = record {
  inserts_no = λ is. cc;
  deletes_no = λ is. let same : inverse_edge edge ≡ other = cc in no_inverse edge other plain same;
}

-- an entry with its inverse, by cases on its act
with_inverse_more : OneEntryMore → (act : Act) (window : WindowValue) (history other : List Entry) (last : Entry) → AreForwardAlike window history other →
    AreForwardAlike window (history ++ last ∷ []) (other ++ last ∷ option_to_list (option_map (with_act last) (inverse_act act)))
with_inverse_more more (Insert edge until) window history other last alike =
    let inverse = with_act last (Insert (inverse_edge edge) until) in
    let clock_is = (more window 0 other last).clocks in
    subst (AreForwardAlike window (history ++ last ∷ [])) (append_assoc other (last ∷ []) (inverse ∷ []))
    (backwards_more more window (history ++ last ∷ []) (other ++ last ∷ []) inverse (one_more more window history other last alike)
    (omega (arith, clock_is)) (λ each. insert_alone edge each until))
with_inverse_more more (Delete edge) window history other last alike =
    let inverse = with_act last (Delete (inverse_edge edge)) in
    let clock_is = (more window 0 other last).clocks in
    subst (AreForwardAlike window (history ++ last ∷ [])) (append_assoc other (last ∷ []) (inverse ∷ []))
    (backwards_more more window (history ++ last ∷ []) (other ++ last ∷ []) inverse (one_more more window history other last alike)
    (omega (arith, clock_is)) (delete_alone edge))
with_inverse_more more Tick window history other last alike = one_more more window history other last alike

all_more : OneEntryMore → (later : List Entry) (window : WindowValue) (history other : List Entry) → AreForwardAlike window history other →
    AreForwardAlike window (history ++ later) (other ++ doubled later)
all_more more [] window history other alike =
    subst (λ (first : List Entry). AreForwardAlike window first (other ++ [])) (sym (append-nil history))
    (subst (AreForwardAlike window history) (sym (append-nil other)) alike)
all_more more (entry ∷ later) window history other alike =
    let pair = doubled_by entry in
    let further = all_more more later window (history ++ entry ∷ []) (other ++ pair) (with_inverse_more more entry.tuple.act window history other entry alike) in
    subst (λ (first : List Entry). AreForwardAlike window first (other ++ doubled (entry ∷ later))) (append_assoc history (entry ∷ []) later)
    (subst (AreForwardAlike window ((history ++ entry ∷ []) ++ later)) (append_assoc other pair (doubled later)) further)

-- ---- paths by edges that point forwards

forward_members : (path edges others : List Edge) → ((edge : Edge) → IsPlainLabel edge.label → Contains edges edge → Contains others edge) →
    All IsPlainLabel (word_of path) → All (Contains edges) path → All (Contains others) path
forward_members [] edges others kept plain members = All-nil (Contains others)
forward_members (edge ∷ path) edges others kept plain members =
    All-cons (Contains others) edge path
    (kept edge (All-head IsPlainLabel edge.label (word_of path) plain) (All-head (Contains edges) edge path members))
    (forward_members path edges others kept (All-tail IsPlainLabel edge.label (word_of path) plain) (All-tail (Contains edges) edge path members))

joined_forwards : (edges others : List Edge) (language : List Label → Type 0) (mode : Mode) (pair : Pair) →
    ((word : List Label) → language word → All IsPlainLabel word) → ((edge : Edge) → IsPlainLabel edge.label → Contains edges edge → Contains others edge) →
    IsJoinedBy edges language mode pair → IsJoinedBy others language mode pair
joined_forwards edges others language mode pair plain kept joined = (
  joined.0,
  record {
    leads = record {
      some = joined.1.leads.some;
      members = forward_members joined.0 edges others kept (plain (word_of joined.0) joined.1.word) joined.1.leads.members;
      leads = joined.1.leads.leads;
    };
    word = joined.1.word;
    taken = joined.1.taken;
  },
)

pub one_way_same : OneEntryMore → (language : List Label → Type 0) → OneWaySame language
one_way_same more language plain mode window history pair =
    let query = query_for language mode window in
    let start : AreForwardAlike window [] [] = record { clocks = refl; edges = λ now edge forwards. ((λ member. member), (λ member. member)) } in
    let alike : AreForwardAlike window history (doubled history) = all_more more history window [] [] start in
    let both = alike.edges (clock history) in
    let here = edges_at window (clock history) history in
    let there = edges_at window (clock history) (doubled history) in (
      (λ answer.
          joined_forwards there here language mode pair plain (λ edge forwards. (both edge forwards).1)
          (subst (λ (now : ℕ). IsAnswerAt query now (doubled history) pair) (sym alike.clocks) answer)),
      (λ answer.
          subst (λ (now : ℕ). IsAnswerAt query now (doubled history) pair) alike.clocks
          (joined_forwards here there language mode pair plain (λ edge forwards. (both edge forwards).0) answer)),
    )
