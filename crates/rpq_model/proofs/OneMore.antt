-- One entry more at the end of a history, at any clock: exactly what it changes.
use Rattle.std.proofs.Common.{◌≡◌, ℕ, Bool, true, false, ◌||◌, List, [], ◌∷◌, ◌++◌, refl, sym, ap, subst, ◌∙◌, ◌⊎◌, inl, inr, ⊎_elim, arith, None}
use Rattle.std.specs.Prelude.{Contains, if◌then◌else◌}
use Rattle.std.proofs.lemmas.Bool.{false≢true}
use Rattle.std.proofs.lemmas.List.Folds.{list_any-append}
use Rattle.rpq_base.specs.Laws.{SameIsEqual}
use Rattle.rpq_base.specs.declared.data.Edge.{Edge}
use Rattle.rpq_base.specs.declared.data.Act.{Act}
use Rattle.rpq_base.specs.declared.data.Act.TheVariants.{Insert, Delete, Tick}
use Rattle.rpq_base.specs.declared.data.Entry.{Entry}
use Rattle.rpq_model.specs.Window.{WindowValue, inserted_edge, deletes, is_deleted, is_live, live_from, edges_at}
use Rattle.rpq_model.specs.WindowLaws.{IsSeenInsert, OneEntryMore}
use Rattle.rpq_model.proofs.LiveEdges.{first_live}
use Rattle.rpq_model.proofs.Places.{live_act, act_is_live, found_or_later, from_found, from_later}
use Rattle.rpq_model.proofs.Ticks.{clock_more, last_insert_is_seen}

pub deleted_more : (later : List Entry) (last : Entry) (edge : Edge) →
    is_deleted (later ++ last ∷ []) edge ≡ (is_deleted later edge || (deletes edge last.tuple.act || false))
deleted_more later last edge = list_any-append (λ (entry : Entry). deletes edge entry.tuple.act) later (last ∷ [])

or_is_false : (first second : Bool) → (first || (second || false)) ≡ false → (first ≡ false) × (second ≡ false)
or_is_false true true e = absurd (false≢true (sym e))
or_is_false true false e = absurd (false≢true (sym e))
or_is_false false true e = absurd (false≢true (sym e))
or_is_false false false e = (refl, refl)

pub no_delete_act : SameIsEqual → (act : Act) (edge : Edge) → deletes edge act ≡ false → act ≡ Delete edge → ⊥
no_delete_act same act edge e is = false≢true (sym e ∙ (ap (deletes edge) is ∙ (same.edges edge edge).1 refl))

pub deletes_no : SameIsEqual → (act : Act) (edge : Edge) → (act ≡ Delete edge → ⊥) → deletes edge act ≡ false
deletes_no same (Insert other until) edge no_ = refl
deletes_no same (Delete other) edge no_ = tested (deletes edge (Delete other)) refl
  where
    tested : (test : Bool) → deletes edge (Delete other) ≡ test → deletes edge (Delete other) ≡ false
    tested true e = absurd (no_ (ap Delete (sym ((same.edges edge other).0 e))))
    tested false e = e
deletes_no same Tick edge no_ = refl

pub one_more_gives : (entries : List Entry) (window : WindowValue) (now : ℕ) (last : Entry) (edge : Edge) → SameIsEqual →
    Contains (edges_at window now (entries ++ last ∷ [])) edge →
    IsSeenInsert window now last edge ⊎ (Contains (edges_at window now entries) edge × (last.tuple.act ≡ Delete edge → ⊥))
unfolding live_from
one_more_gives [] window now last edge same member = ⊎_elim
    (λ here. let parts = live_act last.tuple.act window now last.tuple.time [] edge here in inl (parts.0, parts.1))
    (λ there. absurd (omega (arith, there.1)))
    (found_or_later (if is_live window now last [] then inserted_edge last.tuple.act else None) (edges_at window now []) edge
    (subst (λ (edges : List Edge). Contains edges edge) (first_live window now last []) member))
one_more_gives (entry ∷ later) window now last edge same member = ⊎_elim
    (λ here.
    let parts = live_act entry.tuple.act window now entry.tuple.time (later ++ last ∷ []) edge here in
    let kept = or_is_false (is_deleted later edge) (deletes edge last.tuple.act) (sym (deleted_more later last edge) ∙ parts.2) in
    inr (
      subst (λ (edges : List Edge). Contains edges edge) (sym (first_live window now entry later))
          (from_found (if is_live window now entry later then inserted_edge entry.tuple.act else None) (edges_at window now later) edge
          (act_is_live entry.tuple.act window now entry.tuple.time later edge parts.0 parts.1 kept.0)),
      no_delete_act same last.tuple.act edge kept.1,
    ))
    (λ there. ⊎_elim
    (λ seen. inl seen)
    (λ both. inr (
      subst (λ (edges : List Edge). Contains edges edge) (sym (first_live window now entry later))
          (from_later (if is_live window now entry later then inserted_edge entry.tuple.act else None) (edges_at window now later) edge both.0),
      both.1,
    ))
    (one_more_gives later window now last edge same there))
    (found_or_later (if is_live window now entry (later ++ last ∷ []) then inserted_edge entry.tuple.act else None)
    (edges_at window now (later ++ last ∷ [])) edge
    (subst (λ (edges : List Edge). Contains edges edge) (first_live window now entry (later ++ last ∷ [])) member))

pub one_more_keeps : (entries : List Entry) (window : WindowValue) (now : ℕ) (last : Entry) (edge : Edge) → SameIsEqual →
    Contains (edges_at window now entries) edge → (last.tuple.act ≡ Delete edge → ⊥) → Contains (edges_at window now (entries ++ last ∷ [])) edge
unfolding live_from
one_more_keeps [] window now last edge same member stays = absurd (omega (arith, member.1))
one_more_keeps (entry ∷ later) window now last edge same member stays = ⊎_elim
    (λ here.
    let parts = live_act entry.tuple.act window now entry.tuple.time later edge here in
    let kept : is_deleted (later ++ last ∷ []) edge ≡ false =
    deleted_more later last edge
    ∙ (ap (λ (test : Bool). test || (deletes edge last.tuple.act || false)) parts.2
    ∙ ap (λ (test : Bool). false || (test || false)) (deletes_no same last.tuple.act edge stays)) in
    subst (λ (edges : List Edge). Contains edges edge) (sym (first_live window now entry (later ++ last ∷ [])))
    (from_found (if is_live window now entry (later ++ last ∷ []) then inserted_edge entry.tuple.act else None) (edges_at window now (later ++ last ∷ [])) edge
    (act_is_live entry.tuple.act window now entry.tuple.time (later ++ last ∷ []) edge parts.0 parts.1 kept)))
    (λ there.
    subst (λ (edges : List Edge). Contains edges edge) (sym (first_live window now entry (later ++ last ∷ [])))
    (from_later (if is_live window now entry (later ++ last ∷ []) then inserted_edge entry.tuple.act else None) (edges_at window now (later ++ last ∷ [])) edge
    (one_more_keeps later window now last edge same there stays)))
    (found_or_later (if is_live window now entry later then inserted_edge entry.tuple.act else None) (edges_at window now later) edge
    (subst (λ (edges : List Edge). Contains edges edge) (first_live window now entry later) member))

-- that is all
pub one_entry_more : SameIsEqual → OneEntryMore
one_entry_more same window now entries last = record {
  edges = λ edge. (
    one_more_gives entries window now last edge same,
    (λ either. ⊎_elim
        (λ seen. last_insert_is_seen window now entries last edge seen)
        (λ both. one_more_keeps entries window now last edge same both.0 both.1)
        either),
  );
  clocks = clock_more entries last;
}
