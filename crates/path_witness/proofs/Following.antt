-- The entries of an edge, and what is kept of them, after one entry more.
use Rattle.std.proofs.Common.{◌≡◌, ℕ, ◌+◌, ◌<◌, ◌≤◌, Bool, true, false, nat_lt, List, [], ◌∷◌, ◌++◌, length, Option, Some, None, refl, sym, ap, subst, ◌∙◌, ◌⊎◌, inl, inr, ⊎_elim, arith, length-append}
use Rattle.std.specs.Prelude.{IfSome, if◌then◌else◌}
use Rattle.std.proofs.lemmas.Bool.{ltb-true, ltb-false}
use Rattle.std.proofs.lemmas.Option.{same_Some, slice_get_within}
use Rattle.rpq_base.specs.declared.data.Edge.{Edge}
use Rattle.rpq_base.specs.declared.data.Act.TheVariants.{Delete}
use Rattle.rpq_base.specs.declared.data.Entry.{Entry}
use Rattle.rpq_model.specs.Window.{WindowValue, Inserts}
use Rattle.rpq_model.specs.WindowLaws.{IsTupleDeadline}
use Rattle.rpq_model.proofs.LiveEdges.{inserts_no_delete}
use Rattle.rpq_model.proofs.OwnDeadlines.{one_deadline}
use Rattle.rpq_model.proofs.Ticks.{clock_more}
use Rattle.path_witness.specs.declared.mark.Mark.{Mark}
use Rattle.path_witness.specs.Found.{IsAtMost}
use Rattle.path_witness.specs.Marks.{IsMarkOf, Suffices}
use Rattle.path_witness.specs.Taking.{IsRaised}
use Rattle.path_witness.proofs.Places.{in_front, at_end, place_cases}

-- ---- the entries of an edge

-- the mark is that of the last entry
pub record IsLastMark (window : WindowValue) (history : List Entry) (last : Entry) (edge : Edge) (mark : Mark) : Type 0 where
  pub inserts : Inserts last.tuple.act edge
  pub position : mark.position ≡ length history + 1
  pub deadline : IsTupleDeadline window last.tuple mark.deadline

-- each mark is that of the last entry, or of one before that the last doesn't delete
mark_cases : (window : WindowValue) (history : List Entry) (last : Entry) (edge : Edge) (mark : Mark) → IsMarkOf window (history ++ last ∷ []) edge mark →
    IsLastMark window history last edge mark ⊎ (IsMarkOf window history edge mark × (last.tuple.act ≡ Delete edge → ⊥))
mark_cases window history last edge mark is = ⊎_elim
    (λ there.
    inr (
      record {
        place = is.place;
        entry = is.entry;
        undeleted = record {
          there = there;
          inserts = is.undeleted.inserts;
          stays = λ later other after at. is.undeleted.stays later other after (in_front history last later other at);
        };
        position = is.position;
        deadline = is.deadline;
      },
      is.undeleted.stays (length history) last (slice_get_within history is.place is.entry there) (at_end history last (length history) refl),
    ))
    (λ end.
    inl (record {
      inserts = subst (λ (each : Entry). Inserts each.tuple.act edge) (sym end.1) is.undeleted.inserts;
      position = is.position ∙ ap (λ (place : ℕ). place + 1) end.0;
      deadline = subst (λ (each : Entry). IsTupleDeadline window each.tuple mark.deadline) (sym end.1) is.deadline;
    }))
    (place_cases history last is.place is.entry is.undeleted.there)

-- a mark that the last entry doesn't delete is one still
mark_still : (window : WindowValue) (history : List Entry) (last : Entry) (edge : Edge) (mark : Mark) → (last.tuple.act ≡ Delete edge → ⊥) →
    IsMarkOf window history edge mark → IsMarkOf window (history ++ last ∷ []) edge mark
mark_still window history last edge mark stays is = record {
  place = is.place;
  entry = is.entry;
  undeleted = record {
    there = in_front history last is.place is.entry is.undeleted.there;
    inserts = is.undeleted.inserts;
    stays = λ later other after there deletes. ⊎_elim
        (λ at. is.undeleted.stays later other after at deletes)
        (λ end. stays (ap (λ (each : Entry). each.tuple.act) end.1 ∙ deletes))
        (place_cases history last later other there);
  };
  position = is.position;
  deadline = is.deadline;
}

-- the last entry has a mark, if it inserts the edge
mark_of_last : (window : WindowValue) (history : List Entry) (last : Entry) (edge : Edge) (mark : Mark) → IsLastMark window history last edge mark →
    IsMarkOf window (history ++ last ∷ []) edge mark
mark_of_last window history last edge mark is = record {
  place = length history;
  entry = last;
  undeleted = record {
    there = at_end history last (length history) refl;
    inserts = is.inserts;
    stays = λ later other after there deletes.
        absurd (omega (arith, after, slice_get_within (history ++ last ∷ []) later other there, length-append history (last ∷ [])));
  };
  position = is.position;
  deadline = is.deadline;
}

-- ---- what is kept of them

-- where the last entry neither inserts nor deletes the edge, what was kept suffices
pub suffices_still : (window : WindowValue) (history : List Entry) (last : Entry) (edge : Edge) (kept : Option Mark) →
    (Inserts last.tuple.act edge → ⊥) → (last.tuple.act ≡ Delete edge → ⊥) → Suffices window history edge kept → Suffices window (history ++ last ∷ []) edge kept
suffices_still window history last edge kept none stays was = record {
  one = still kept was.one;
  best = λ other is above. ⊎_elim
      (λ new. absurd (none new.inserts))
      (λ old. was.best other old.0 (omega (arith, above, clock_more history last)))
      (mark_cases window history last edge other is);
}
  where
    still : (some : Option Mark) → IfSome some (IsMarkOf window history edge) → IfSome some (IsMarkOf window (history ++ last ∷ []) edge)
    still None is = tt
    still (Some mark) is = mark_still window history last edge mark stays is

-- after a delete of the edge nothing has to be kept
pub suffices_none : (window : WindowValue) (history : List Entry) (last : Entry) (edge : Edge) → last.tuple.act ≡ Delete edge →
    Suffices window (history ++ last ∷ []) edge None
suffices_none window history last edge deletes = record {
  one = tt;
  best = λ other is above. ⊎_elim
      (λ new. absurd (inserts_no_delete last.tuple.act edge edge new.inserts deletes))
      (λ old. absurd (old.1 deletes))
      (mark_cases window history last edge other is);
}

-- the better one of two marks is the one or the other
better_is : (new mark : Mark) (old : Mark) (test : Bool) → nat_lt new.deadline old.deadline ≡ test → mark ≡ (if test then old else new) →
    ((mark ≡ old) × (new.deadline < old.deadline)) ⊎ ((mark ≡ new) × (old.deadline ≤ new.deadline))
better_is new mark old true less is = inl (is, ltb-true new.deadline old.deadline less)
better_is new mark old false most is = inr (is, ltb-false new.deadline old.deadline most)

-- after an insert of the edge the better one of its mark and what was kept suffices
pub suffices_raised : (window : WindowValue) (history : List Entry) (last : Entry) (edge : Edge) (position : ℕ) (before : Option Mark) (mark : Mark) →
    Inserts last.tuple.act edge → position ≡ length history + 1 → IsRaised window position last.tuple before mark → Suffices window history edge before →
    Suffices window (history ++ last ∷ []) edge (Some mark)
suffices_raised window history last edge position None mark inserts at is was =
    let new : Mark = record { position = position; deadline = is.deadline } in
    let new_is : IsLastMark window history last edge new = record { inserts = inserts; position = at; deadline = is.is } in
    record {
      one = subst (IsMarkOf window (history ++ last ∷ []) edge) (sym is.better) (mark_of_last window history last edge new new_is);
      best = λ other other_is above. ⊎_elim
          (λ end. (
            mark,
            refl,
            subst (IsAtMost other) (sym is.better)
                (inr (one_deadline window last.tuple other.deadline is.deadline end.deadline is.is, omega (arith, end.position, at))),
          ))
          (λ old.
          let found = was.best other old.0 (omega (arith, above, clock_more history last)) in
          absurd (none_some found.0 found.1))
          (mark_cases window history last edge other other_is);
    }
  where
    none_some : (some : Mark) → None ≡ Some some → ⊥
    none_some some e = cc
suffices_raised window history last edge position (Some old) mark inserts at is was =
    let new : Mark = record { position = position; deadline = is.deadline } in
    let new_is : IsLastMark window history last edge new = record { inserts = inserts; position = at; deadline = is.is } in
    let no_delete = λ (deletes : last.tuple.act ≡ Delete edge). inserts_no_delete last.tuple.act edge edge inserts deletes in
    let which = better_is new mark old (nat_lt is.deadline old.deadline) refl is.better in
    record {
      one = ⊎_elim
          (λ stays. subst (IsMarkOf window (history ++ last ∷ []) edge) (sym stays.0) (mark_still window history last edge old no_delete was.one))
          (λ goes. subst (IsMarkOf window (history ++ last ∷ []) edge) (sym goes.0) (mark_of_last window history last edge new new_is))
          which;
      best = λ other other_is above. ⊎_elim
          (λ end.
          let same = one_deadline window last.tuple other.deadline is.deadline end.deadline is.is in (
            mark,
            refl,
            ⊎_elim
                (λ stays. subst (IsAtMost other) (sym stays.0) (inl (omega (arith, same, stays.1))))
                (λ goes. subst (IsAtMost other) (sym goes.0) (inr (same, omega (arith, end.position, at))))
                which,
          ))
          (λ before.
          let found = was.best other before.0 (omega (arith, above, clock_more history last)) in
          let kept : IsAtMost other old = subst (IsAtMost other) (sym (same_Some old found.0 found.1)) found.2 in (
            mark,
            refl,
            ⊎_elim
                (λ stays. subst (IsAtMost other) (sym stays.0) kept)
                (λ goes. subst (IsAtMost other) (sym goes.0) (below_new other new kept goes.1 (position_before other before.0)))
                which,
          ))
          (mark_cases window history last edge other other_is);
    }
  where
    position_before : (other : Mark) → IsMarkOf window history edge other → other.position ≤ position
    position_before other other_is = omega (arith, at, other_is.position, slice_get_within history other_is.place other_is.entry other_is.undeleted.there)

    below_new : (other new : Mark) → IsAtMost other old → old.deadline ≤ new.deadline → other.position ≤ new.position → IsAtMost other new
    below_new other new kept more earlier = ⊎_elim
        (λ less. inl (omega (arith, less, more)))
        (λ same. equal_or_less other new (omega (arith, same.0, more)) earlier)
        kept
      where
        equal_or_less : (first second : Mark) → first.deadline ≤ second.deadline → first.position ≤ second.position → IsAtMost first second
        equal_or_less first second most before = by (nat_lt first.deadline second.deadline) refl
          where
            by : (test : Bool) → nat_lt first.deadline second.deadline ≡ test → IsAtMost first second
            by true less = inl (ltb-true first.deadline second.deadline less)
            by false over = inr (omega (arith, most, ltb-false first.deadline second.deadline over), before)
