-- What rows keep, after one entry more and where they are looked through.
use Rattle.std.proofs.Common.{◌≡◌, ℕ, ◌<◌, ◌≤◌, zero, suc, Bool, true, false, nat_lt, ◌||◌, List, [], ◌∷◌, ◌++◌, Option, Some, None, refl, sym, ap, subst, ◌∙◌, ◌⊎◌, inl, inr, ⊎_elim, arith}
use Rattle.std.specs.Prelude.{slice_get, if◌then◌else◌}
use Rattle.std.specs.Map.{lookup}
use Rattle.std.proofs.lemmas.Bool.{false≢true, ltb-false}
use Rattle.std.proofs.lemmas.Option.{same_Some}
use Rattle.rpq_base.specs.Same.{same_edge}
use Rattle.rpq_base.specs.declared.data.Edge.{Edge}
use Rattle.rpq_base.specs.declared.data.Act.TheVariants.{Delete, Tick}
use Rattle.rpq_base.specs.declared.data.Entry.{Entry}
use Rattle.rpq_base.proofs.Equality.{edges}
use Rattle.rpq_model.specs.Query.{Query}
use Rattle.rpq_model.specs.Window.{WindowValue, Inserts, clock}
use Rattle.rpq_model.proofs.LiveEdges.{one_inserted, inserts_no_delete}
use Rattle.path_witness.specs.declared.mark.Mark.{Mark}
use Rattle.path_witness.specs.Marks.{mark_at, Suffices, KeepFor, kept_mark}
use Rattle.path_witness.specs.Taking.{TakeOne, AreRaised, GivesMarks, LeavesOut, lasts, lasting}
use Rattle.path_witness.proofs.Following.{suffices_still, suffices_none, suffices_raised}

-- what the edge that changed keeps, and what another edge does
changed_or_not : (changed other : Edge) (marks : Option (List Mark)) (before after : List (Edge × List Mark)) (number : ℕ) →
    GivesMarks before after changed marks →
    ((changed ≡ other) × (kept_mark after other number ≡ mark_at number marks))
    ⊎ ((changed ≡ other → ⊥) × (kept_mark after other number ≡ kept_mark before other number))
changed_or_not changed other marks before after number gives = by (same_edge changed other) refl
  where
    now_is : (test : Bool) → same_edge changed other ≡ test →
        kept_mark after other number ≡ mark_at number (if test then marks else lookup (same_edge other) before)
    now_is test e = ap (mark_at number) (gives other ∙ ap (λ (each : Bool). if each then marks else lookup (same_edge other) before) e)

    by : (test : Bool) → same_edge changed other ≡ test →
        ((changed ≡ other) × (kept_mark after other number ≡ mark_at number marks))
        ⊎ ((changed ≡ other → ⊥) × (kept_mark after other number ≡ kept_mark before other number))
    by true same = inl ((edges changed other).0 same, now_is true same)
    by false differ = inr ((λ same. false≢true (sym differ ∙ (edges changed other).1 same)), now_is false differ)

-- ---- one entry more

-- an insert
pub takes_insert : (queries : List Query) (position : ℕ) (last : Entry) (edge : Edge) (marks : List Mark) (before after : List (Edge × List Mark)) →
    Inserts last.tuple.act edge → AreRaised queries position last.tuple (lookup (same_edge edge) before) marks → GivesMarks before after edge (Some marks) →
    TakeOne queries position last before after
takes_insert queries position last edge marks before after inserts raised gives history at kept other number query there = ⊎_elim
    (λ changed.
    let mark = raised number query there in
    subst (λ (each : Edge). Suffices query.window (history ++ last ∷ []) each (kept_mark after other number)) changed.0
    (subst (Suffices query.window (history ++ last ∷ []) edge) (sym (changed.1 ∙ mark.1))
    (suffices_raised query.window history last edge position (kept_mark before edge number) mark.0 inserts at mark.2 (kept edge number query there))))
    (λ not.
    subst (Suffices query.window (history ++ last ∷ []) other) (sym not.1)
    (suffices_still query.window history last other (kept_mark before other number)
    (λ other_too. not.0 (one_inserted last.tuple.act edge other inserts other_too))
    (inserts_no_delete last.tuple.act edge other inserts)
    (kept other number query there)))
    (changed_or_not edge other (Some marks) before after number gives)

-- a delete
pub takes_delete : (queries : List Query) (position : ℕ) (last : Entry) (edge : Edge) (before after : List (Edge × List Mark)) →
    last.tuple.act ≡ Delete edge → GivesMarks before after edge None → TakeOne queries position last before after
takes_delete queries position last edge before after deletes gives history at kept other number query there = ⊎_elim
    (λ changed.
    subst (Suffices query.window (history ++ last ∷ []) other) (sym changed.1)
    (suffices_none query.window history last other (deletes ∙ ap Delete changed.0)))
    (λ not.
    subst (Suffices query.window (history ++ last ∷ []) other) (sym not.1)
    (suffices_still query.window history last other (kept_mark before other number)
    (λ inserts. inserts_no_delete last.tuple.act other edge inserts deletes)
    (λ deletes_too. not.0 (one_deleted (sym deletes ∙ deletes_too)))
    (kept other number query there)))
    (changed_or_not edge other None before after number gives)
  where
    one_deleted : {first second : Edge} → Delete first ≡ Delete second → first ≡ second
    one_deleted e = cc

-- a tick
pub takes_tick : (queries : List Query) (position : ℕ) (last : Entry) (rows : List (Edge × List Mark)) → last.tuple.act ≡ Tick → TakeOne queries position last rows rows
takes_tick queries position last rows ticks history at kept edge number query there =
    suffices_still query.window history last edge (kept_mark rows edge number)
    (λ inserts. no_insert (subst (λ act. Inserts act edge) ticks inserts))
    (λ deletes. no_delete (sym ticks ∙ deletes))
    (kept edge number query there)
  where
    no_insert : Inserts Tick edge → ⊥
    no_insert e = cc

    no_delete : Tick ≡ Delete edge → ⊥
    no_delete e = cc

-- ---- looked through

-- where neither of two tests holds, each fails
or_parts : (first second : Bool) → (first || second) ≡ false → (first ≡ false) × (second ≡ false)
or_parts true second e = absurd (false≢true (sym e))
or_parts false second e = (refl, e)

-- where no mark lasts beyond the clock, none has a deadline above it
past : (marks : List Mark) (number : ℕ) (mark : Mark) (now : ℕ) → lasts now marks ≡ false → slice_get marks number ≡ Some mark → mark.deadline ≤ now
past [] number mark now over there = cc
past (first ∷ marks) zero mark now over there =
    let is : first ≡ mark = same_Some first mark there in
    subst (λ (each : Mark). each.deadline ≤ now) is
    (ltb-false now first.deadline (or_parts (nat_lt now first.deadline) (lasts now marks) over).0)
past (first ∷ marks) (suc number) mark now over there =
    past marks number mark now (or_parts (nat_lt now first.deadline) (lasts now marks) over).1 there

-- what is left suffices
left_suffices : (window : WindowValue) (history : List Entry) (edge : Edge) (number : ℕ) (found : Option (List Mark)) →
    Suffices window history edge (mark_at number found) → Suffices window history edge (mark_at number (lasting (clock history) found))
left_suffices window history edge number None was = was
left_suffices window history edge number (Some marks) was = by (lasts (clock history) marks) refl
  where
    by : (test : Bool) → lasts (clock history) marks ≡ test → Suffices window history edge (mark_at number (if test then Some marks else None))
    by true some = was
    by false none = record {
      one = tt;
      best = λ other is above.
          let found = was.best other is above in
          let over = past marks number found.0 (clock history) none found.1 in
          absurd (⊎_elim (λ less. too_late other found.0 above over (omega (arith, less))) (λ same. too_late other found.0 above over (omega (arith, same.0))) found.2);
    }
      where
        too_late : (other mark : Mark) → clock history < other.deadline → mark.deadline ≤ clock history → other.deadline ≤ mark.deadline → ⊥
        too_late other mark above over most = omega (arith, above, over, most)

pub keeps_left : (queries : List Query) (history : List Entry) (before after : List (Edge × List Mark)) (now : ℕ) → now ≡ clock history →
    LeavesOut now before after → KeepFor queries history before → KeepFor queries history after
keeps_left queries history before after now time leaves kept edge number query there =
    subst (Suffices query.window history edge)
    (sym (ap (mark_at number) (leaves edge ∙ ap (λ (at : ℕ). lasting at (lookup (same_edge edge) before)) time)))
    (left_suffices query.window history edge number (lookup (same_edge edge) before) (kept edge number query there))
