-- What a file gives is known by its parts.
use Rattle.std.proofs.Common.{◌≡◌, ℕ, zero, suc, ◌+◌, Bool, true, false, not, ◌||◌, cond, List, [], ◌∷◌, ◌++◌, Result, Ok, Err, Some, length, take, refl, sym, ap, subst, ◌∙◌, arith, length-append}
use Rattle.std.specs.Prelude.{slice_get, if◌then◌else◌}
use Rattle.std.proofs.lemmas.List.{append-nil}
use Rattle.std.proofs.lemmas.List.Elements.{filter-append}
use Rattle.std.proofs.lemmas.Option.{same_Some, slice_get_within}
use Rattle.text_parts.specs.Lines.{lines, is_blank_line, is_comment}
use Rattle.text_parts.specs.Fields.{fields}
use Rattle.text_parts.specs.Reading.{◌>>=◌, reached, StopsAt}
use Rattle.text_parts.proofs.LineByLine.{same_ok, ok_no_err, bind_ok, mapped_err, taken, refused, holds_at_end, stops_at}
use Rattle.rpq_model.specs.Query.{Query}
use Rattle.join_file.specs.declared.fault.JoinFileFault.{JoinFileFault}
use Rattle.join_file.specs.declared.fault.JoinFileFaultKind.{JoinFileFaultKind}
use Rattle.join_file.specs.Joins.{JoinValue}
use Rattle.join_file.specs.JoinLine.{join_of_fields}
use Rattle.join_file.specs.JoinsFile.{after_line, fault_at, line_step, joins}
use Rattle.join_file.specs.ByParts.{is_join_line, join_lines_of, AreJoinsOf, HasFaultAt}
use Rattle.join_file.specs.ByParts.{JoinsByParts}

-- ---- one element more

-- an element of the longer list is one of the list, or the last
data Pushed {X : Type 0} (xs : List X) (last x : X) (place : ℕ) : Type 0 where
  early : slice_get xs place ≡ Some x → Pushed xs last x place
  late : place ≡ length xs → last ≡ x → Pushed xs last x place

pushed : {X : Type 0} (xs : List X) (last x : X) (place : ℕ) → slice_get (xs ++ last ∷ []) place ≡ Some x → Pushed xs last x place
pushed [] last x zero e = late refl (same_Some last x e)
pushed [] last x (suc place) e = absurd cc
pushed (first ∷ xs) last x zero e = early e
pushed (first ∷ xs) last x (suc place) e = by (pushed xs last x place e)
  where
    by : Pushed xs last x place → Pushed (first ∷ xs) last x (suc place)
    by (early there) = early there
    by (late at is) = late (ap suc at) is

-- the elements up to a place of the shorter list
take_front : {X : Type 0} (xs : List X) (last x : X) (place : ℕ) → slice_get xs place ≡ Some x → take place (xs ++ last ∷ []) ≡ take place xs
take_front [] last x place e = absurd cc
take_front (first ∷ xs) last x zero e = refl
take_front (first ∷ xs) last x (suc place) e = ap (λ l. first ∷ l) (take_front xs last x place e)

take_whole : {X : Type 0} (xs : List X) (last : X) → take (length xs) (xs ++ last ∷ []) ≡ xs
take_whole [] last = refl
take_whole (first ∷ xs) last = ap (λ l. first ∷ l) (take_whole xs last)

-- ---- lines

-- a line more that gives nothing, and one that gives a join
passes : (queries : List Query) (front : List (List ℕ)) (line : List ℕ) (found : List JoinValue) → is_join_line line ≡ false →
    AreJoinsOf queries front found → AreJoinsOf queries (front ++ line ∷ []) found
passes queries front line found e are =
    let same : join_lines_of (front ++ line ∷ []) ≡ join_lines_of front =
    filter-append is_join_line front (line ∷ []) ∙ ap (λ (b : Bool). join_lines_of front ++ cond b (line ∷ []) []) e ∙ append-nil (join_lines_of front) in
    record {
      as_many = are.as_many ∙ ap length (sym same);
      each = λ place one join at there. are.each place one join (sym (ap (λ (l : List (List ℕ)). slice_get l place) same) ∙ at) there;
    }

adds : (queries : List Query) (front : List (List ℕ)) (line : List ℕ) (found : List JoinValue) (join : JoinValue) → is_join_line line ≡ true →
    join_of_fields queries found (fields line) ≡ Ok join → AreJoinsOf queries front found → AreJoinsOf queries (front ++ line ∷ []) (found ++ join ∷ [])
adds queries front line found join e gives_it are = record {
  as_many = length-append found (join ∷ []) ∙ ap (λ (n : ℕ). n + 1) are.as_many ∙ sym (length-append (join_lines_of front) (line ∷ [])) ∙ ap length (sym grown);
  each = λ place one other at there.
      by place one other (pushed (join_lines_of front) line one place (sym (ap (λ (l : List (List ℕ)). slice_get l place) grown) ∙ at))
      (pushed found join other place there);
}
  where
    grown : join_lines_of (front ++ line ∷ []) ≡ join_lines_of front ++ line ∷ []
    grown = filter-append is_join_line front (line ∷ []) ∙ ap (λ (b : Bool). join_lines_of front ++ cond b (line ∷ []) []) e

    by : (place : ℕ) (one : List ℕ) (other : JoinValue) → Pushed (join_lines_of front) line one place → Pushed found join other place →
        join_of_fields queries (take place (found ++ join ∷ [])) (fields one) ≡ Ok other
    by place one other (early at) (early there) =
        ap (λ (l : List JoinValue). join_of_fields queries l (fields one)) (take_front found join other place there) ∙ are.each place one other at there
    by place one other (early at) (late there is) =
        absurd (let below = slice_get_within (join_lines_of front) place one at in let many = are.as_many in omega (arith, below, there, many))
    by place one other (late at is) (early there) =
        absurd (let below = slice_get_within found place other there in let many = are.as_many in omega (arith, below, at, many))
    by place one other (late at same) (late there is) =
        ap (λ (l : List JoinValue). join_of_fields queries l (fields one)) (ap (λ (n : ℕ). take n (found ++ join ∷ [])) there ∙ take_whole found join)
        ∙ (ap (λ (l : List ℕ). join_of_fields queries found (fields l)) (sym same) ∙ gives_it ∙ ap (λ (j : JoinValue). Ok j) is)

-- a line without a fault keeps this
keeps : (queries : List Query) (front : List (List ℕ)) (line : List ℕ) (found next : List JoinValue) → AreJoinsOf queries front found →
    after_line queries found line ≡ Ok next → AreJoinsOf queries (front ++ line ∷ []) next
unfolding after_line
keeps queries front line found next are e = by (is_blank_line line || is_comment line) refl e
  where
    by : (nothing : Bool) → (is_blank_line line || is_comment line) ≡ nothing →
        (if nothing then Ok found else (join_of_fields queries found (fields line) >>= λ join. Ok (found ++ join ∷ []))) ≡ Ok next →
        AreJoinsOf queries (front ++ line ∷ []) next
    by true is e = subst (AreJoinsOf queries (front ++ line ∷ [])) (same_ok found next e) (passes queries front line found (ap not is) are)
    by false is e =
        let join = bind_ok (join_of_fields queries found (fields line)) (λ join. Ok (found ++ join ∷ [])) next e in
        subst (AreJoinsOf queries (front ++ line ∷ [])) (same_ok (found ++ join.0 ∷ []) next join.2)
        (adds queries front line found join.0 (ap not is) join.1 are)

-- a line with a fault
faulty : (queries : List Query) (line : List ℕ) (found : List JoinValue) (kind : JoinFileFaultKind) → after_line queries found line ≡ Err kind →
    (is_join_line line ≡ true) × (join_of_fields queries found (fields line) ≡ Err kind)
unfolding after_line
faulty queries line found kind e = by (is_blank_line line || is_comment line) refl e
  where
    by : (nothing : Bool) → (is_blank_line line || is_comment line) ≡ nothing →
        (if nothing then Ok found else (join_of_fields queries found (fields line) >>= λ join. Ok (found ++ join ∷ []))) ≡ Err kind →
        (is_join_line line ≡ true) × (join_of_fields queries found (fields line) ≡ Err kind)
    by true is e = absurd (ok_no_err found kind e)
    by false is e = (ap not is, mapped_err (join_of_fields queries found (fields line)) (λ join. found ++ join ∷ []) kind e)

at_first : (queries : List Query) → AreJoinsOf queries [] []
at_first queries = record { as_many = refl; each = λ place line join at there. absurd (nothing place join there) }
  where
    nothing : (place : ℕ) (join : JoinValue) → slice_get [] place ≡ Some join → ⊥
    nothing place join e = absurd cc

-- a file gives what its lines reach
pub whole : (queries : List Query) (bytes : List ℕ) (start : List JoinValue) (outcome : Result (List JoinValue) JoinFileFault) → start ≡ [] →
    reached (line_step queries) 0 start (lines bytes) ≡ outcome → joins queries bytes ≡ outcome
unfolding joins
whole queries bytes start outcome first e = ap (λ (begin : List JoinValue). reached (line_step queries) 0 begin (lines bytes)) (sym first) ∙ e

pub joins_by_parts : JoinsByParts
unfolding joins
joins_by_parts = record {
  ok = λ queries bytes found e.
      holds_at_end (line_step queries) (AreJoinsOf queries) (kept queries) (lines bytes) [] found (at_first queries) e;
  err = λ queries bytes fault e. stopped queries (lines bytes) fault
      (stops_at (line_step queries) (AreJoinsOf queries) (kept queries) (lines bytes) [] fault (at_first queries) e);
}
  where
    kept : (queries : List Query) (front : List (List ℕ)) (line : List ℕ) (before next : List JoinValue) → AreJoinsOf queries front before →
        line_step queries (length front + 1) before line ≡ Ok next → AreJoinsOf queries (front ++ line ∷ []) next
    kept queries front line before next are e =
        keeps queries front line before next are (taken fault_at (after_line queries) (length front + 1) before next line e)

    stopped : (queries : List Query) (all : List (List ℕ)) (fault : JoinFileFault) → StopsAt (line_step queries) (AreJoinsOf queries) all fault →
        HasFaultAt queries all fault
    stopped queries all fault at =
        let refusal = refused fault_at (after_line queries) (length at.front + 1) at.before at.line fault at.fails in
        let first = faulty queries at.line at.before refusal.0 refusal.1 in
        subst (HasFaultAt queries all) refusal.2 (record {
          front = at.front;
          line = at.line;
          rest = at.rest;
          found = at.before;
          split = at.split;
          good = at.good;
          is_one = first.0;
          number = refl;
          first = first.1;
        })
