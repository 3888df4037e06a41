-- What a line gives is known by its parts.
use Rattle.std.proofs.Common.{◌≡◌, ℕ, Bool, true, false, ◌||◌, ◌↔◌, Some, None, Result}
use Rattle.std.proofs.Common.{Ok, Err, List, refl, sym, ap, ◌∙◌, subst, inl, inr}
use Rattle.std.proofs.lemmas.Bool.{or_cases, or_right, false≢true}
use Rattle.text_parts.specs.Lines.{is_blank_line, is_comment}
use Rattle.text_parts.proofs.LineEnds.{comment_decides}
use Rattle.text_parts.specs.Fields.{fields}
use Rattle.rpq_base.specs.declared.data.Tuple.{Tuple}
use Rattle.tuple_text.specs.declared.read.BadLine.{BadLine}
use Rattle.tuple_text.specs.Reading.{◌>>=◌, tuple_of_fields, line_tuple}
use Rattle.tuple_text.specs.Parts.{IsTupleOf, IsFirstFault, GivesNothing, IsReadByParts}
use Rattle.tuple_text.proofs.Order.{faultless, same_fault}
use Rattle.tuple_text.proofs.Cases.{well, badly, ends, complete}

-- the test of a line that gives nothing
abbrev gives_nothing : List ℕ → Bool
gives_nothing line = is_blank_line line || is_comment line

-- the test finds what gives nothing
nothing_found : (line : List ℕ) → gives_nothing line ≡ true → GivesNothing line
nothing_found line e =
    elim (or_cases (is_blank_line line) (is_comment line) e) [
      | inl blank ↦ inl blank
      | inr comment ↦ inr ((comment_decides line).0 comment)
    ]

-- what gives nothing passes it
nothing_passes : (line : List ℕ) → GivesNothing line → gives_nothing line ≡ true
nothing_passes line (inl blank) = ap (λ b. b || is_comment line) blank
nothing_passes line (inr comment) =
    or_right (is_blank_line line) (is_comment line) ((comment_decides line).1 comment)

-- such a line, and another
nothing_read : (line : List ℕ) → gives_nothing line ≡ true → line_tuple line ≡ Ok None
unfolding line_tuple
nothing_read line e = rw e refl

fields_read : (line : List ℕ) → gives_nothing line ≡ false
    → line_tuple line ≡ (tuple_of_fields (fields line) >>= λ tuple. Ok (Some tuple))
unfolding line_tuple
fields_read line e = rw e refl

-- how a line ends
data LineEnds (line : List ℕ) : Type 0 where
  empty : GivesNothing line → line_tuple line ≡ Ok None → LineEnds line
  full : ¬ (GivesNothing line) → (tuple : Tuple) → IsTupleOf tuple (fields line)
      → ((fault : BadLine) → IsFirstFault fault (fields line) → ⊥)
      → line_tuple line ≡ Ok (Some tuple) → LineEnds line
  faulty : ¬ (GivesNothing line) → (fault : BadLine) → IsFirstFault fault (fields line)
      → line_tuple line ≡ Err fault → LineEnds line

line_ends : (line : List ℕ) → LineEnds line
line_ends line = by (gives_nothing line) refl
  where
    handed : gives_nothing line ≡ false → (r : Result Tuple BadLine)
        → tuple_of_fields (fields line) ≡ r → line_tuple line ≡ (r >>= λ tuple. Ok (Some tuple))
    handed e r is = fields_read line e ∙ ap (λ read. read >>= λ tuple. Ok (Some tuple)) is

    some : gives_nothing line ≡ false → GivesNothing line → ⊥
    some e h = false≢true (sym e ∙ nothing_passes line h)

    by : (nothing : Bool) → gives_nothing line ≡ nothing → LineEnds line
    by true e = empty (nothing_found line e) (nothing_read line e)
    by false e =
        elim (ends (fields line)) [
          | well tuple is passes reads ↦ full (some e) tuple is (λ fault h. faultless (fields line) passes fault h.has) (handed e (Ok tuple) reads)
          | badly fault first reads ↦ faulty (some e) fault first (handed e (Err fault) reads)
        ]

-- where a line isn't empty its fields are read
full_read : (line : List ℕ) → ¬ (GivesNothing line)
    → line_tuple line ≡ (tuple_of_fields (fields line) >>= λ tuple. Ok (Some tuple))
full_read line some = by (gives_nothing line) refl
  where
    by : (nothing : Bool) → gives_nothing line ≡ nothing
        → line_tuple line ≡ (tuple_of_fields (fields line) >>= λ tuple. Ok (Some tuple))
    by true e = absurd (some (nothing_found line e))
    by false e = fields_read line e

-- the tuple that the fields write is read
pub tuple_again : (line : List ℕ) (tuple : Tuple) → ¬ (GivesNothing line)
    → IsTupleOf tuple (fields line) → line_tuple line ≡ Ok (Some tuple)
tuple_again line tuple some (text, rest, e, is, acts) =
    full_read line some ∙ ap (λ read. read >>= λ tuple. Ok (Some tuple)) (ap tuple_of_fields e ∙ complete tuple.time tuple.act text rest is acts)

nothing_exactly : (line : List ℕ) → LineEnds line → (line_tuple line ≡ Ok None) ↔ GivesNothing line
nothing_exactly line (empty h e) = (λ _. h, λ _. e)
nothing_exactly line (full some tuple is none e) = (λ n. absurd cc, λ h. absurd (some h))
nothing_exactly line (faulty some fault first e) = (λ n. absurd cc, λ h. absurd (some h))

tuple_exactly : (line : List ℕ) → LineEnds line → (tuple : Tuple)
    → (line_tuple line ≡ Ok (Some tuple)) ↔ (¬ (GivesNothing line) × IsTupleOf tuple (fields line))
tuple_exactly line (empty h e) tuple = (λ t. absurd cc, λ w. absurd (w.0 h))
tuple_exactly line (full some found is none e) tuple =
    (λ t. let same : found ≡ tuple = cc in (some, subst (λ (other : Tuple). IsTupleOf other (fields line)) same is), λ w. tuple_again line tuple w.0 w.1)
tuple_exactly line (faulty some fault first e) tuple = (λ t. absurd cc, λ w. tuple_again line tuple w.0 w.1)

fault_exactly : (line : List ℕ) → LineEnds line → (fault : BadLine)
    → (line_tuple line ≡ Err fault) ↔ (¬ (GivesNothing line) × IsFirstFault fault (fields line))
fault_exactly line (empty h e) fault = (λ t. absurd cc, λ w. absurd (w.0 h))
fault_exactly line (full some tuple is none e) fault = (λ t. absurd cc, λ w. absurd (none fault w.1))
fault_exactly line (faulty some found first e) fault = (
  λ t. let same : found ≡ fault = cc in (some, subst (λ (other : BadLine). IsFirstFault other (fields line)) same first),
  λ w. e ∙ ap (λ other. Err other) (same_fault (fields line) found fault first w.1),
)

-- the law
pub line_by_parts : (line : List ℕ) → IsReadByParts line
line_by_parts line = let how = line_ends line in record { nothing = nothing_exactly line how; tuple = tuple_exactly line how; fault = fault_exactly line how }
