-- The marks of an edge after one more insert of it, query by query.
use Rattle.std.proofs.Common.{◌≡◌, ℕ, ◌+◌, ◌<◌, ◌≤◌, List, [], ◌∷◌, ◌++◌, length, get_or, Option, Some, refl, sym, ap, subst, ◌∙◌, ⊎_elim, arith, length-append}
use Rattle.std.specs.Prelude.{slice_get}
use Rattle.std.proofs.lemmas.Option.{same_Some, slice_get_within, slice_get_read}
use Rattle.rpq_base.specs.TupleValue.{TupleValue}
use Rattle.rpq_model.specs.Query.{Query}
use Rattle.path_witness.specs.declared.mark.Mark.{Mark}
use Rattle.path_witness.specs.Marks.{mark_at}
use Rattle.path_witness.specs.Taking.{AreRaised, IsRaised}
use Rattle.path_witness.proofs.Places.{below_or_at, in_front, at_end}

-- the first queries have their marks
pub record AreFirst (queries : List Query) (position : ℕ) (tuple : TupleValue) (before : Option (List Mark)) (count : ℕ) (marks : List Mark) : Type 0 where
  pub counted : length marks ≡ count
  pub each : (number : ℕ) (query : Query) → number < count → slice_get queries number ≡ Some query →
      (mark : Mark) × (slice_get marks number ≡ Some mark) × IsRaised query.window position tuple (mark_at number before) mark

-- one more query
pub one_more_first : (queries : List Query) (position : ℕ) (tuple : TupleValue) (before : Option (List Mark)) (count : ℕ) (marks more : List Mark) (one : Query) (mark : Mark) →
    AreFirst queries position tuple before count marks → count < length queries → one ≡ get_or queries count one →
    IsRaised one.window position tuple (mark_at count before) mark → more ≡ marks ++ mark ∷ [] →
    AreFirst queries position tuple before (count + 1) more
one_more_first queries position tuple before count marks more one mark first below is raised pushed =
    subst (AreFirst queries position tuple before (count + 1)) (sym pushed) (record {
      counted = omega (arith, first.counted, length-append marks (mark ∷ []));
      each = λ number query less there.
          ⊎_elim
          (λ earlier. let found = first.each number query earlier there in (found.0, in_front marks mark number found.0 found.1, found.2))
          (λ here. (mark, at_end marks mark number (omega (arith, here, first.counted)), here_raised number query here there))
          (below_or_at number count less);
    })
  where
    here_raised : (number : ℕ) (query : Query) → number ≡ count → slice_get queries number ≡ Some query →
        IsRaised query.window position tuple (mark_at number before) mark
    here_raised number query here there =
        let same : Some one ≡ Some query =
        sym (slice_get_read queries (length queries) count one refl below is) ∙ (ap (slice_get queries) (sym here) ∙ there) in
        subst (λ (each : Query). IsRaised each.window position tuple (mark_at number before) mark) (same_Some _ _ same)
        (subst (λ (at : ℕ). IsRaised one.window position tuple (mark_at at before) mark) (sym here) raised)

-- all of them
pub all_raised : (queries : List Query) (position : ℕ) (tuple : TupleValue) (before : Option (List Mark)) (count : ℕ) (marks : List Mark) →
    AreFirst queries position tuple before count marks → length queries ≤ count → AreRaised queries position tuple before marks
all_raised queries position tuple before count marks first all number query there =
    first.each number query (omega (arith, slice_get_within queries number query there, all)) there
