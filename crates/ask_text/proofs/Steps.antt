-- What each step of the reading gives, by what its fields are.
use Rattle.std.proofs.Common.{◌≡◌, ◌≢◌, ℕ, zero, suc, ◌+◌, ◌<◌, ◌≤◌, Bool, true, false, cond, Ok}
use Rattle.std.proofs.Common.{Err, Some, None}
use Rattle.std.proofs.Common.{List, [], ◌∷◌, length, refl, sym, ap, ◌∙◌, subst, arith, inl, inr}
use Rattle.std.proofs.Common.{⊎_elim}
use Rattle.std.specs.Prelude.{Contains, slice_get, bytes_eq}
use Rattle.std.specs.List.{position_or_len}
use Rattle.std.specs.Option.{ok_or}
use Rattle.std.specs.Cmp.Lexicographic.{same_text, other_text}
use Rattle.std.proofs.lemmas.Bool.{false≢true, lt-ltb, le-ltb, cases_lt}
use Rattle.std.proofs.lemmas.Option.{same_Some}
use Rattle.text_parts.specs.Numbers.{is_digit_text, number_of}
use Rattle.text_parts.proofs.Digits.{digit_text_passes, digit_text_found, within_fits}
use Rattle.text_parts.proofs.Digits.{within_larger, within_other}
use Rattle.rpq_base.specs.Names.{is_name, IsName}
use Rattle.rpq_base.specs.declared.data.TheConstants.{MAX_TIME}
use Rattle.rpq_base.proofs.Members.{cons_members, none_in}
use Rattle.rpq_model.specs.Query.{Query, query_named}
use Rattle.ask_text.specs.declared.fault.AskKind.TheVariants.{UnknownQuery, BadName, Number}
use Rattle.ask_text.specs.Reading.{vertex_of, position_of}
use Rattle.ask_text.specs.Parts.{names, IsFirstNamed, IsPositionText}

-- whether a word is another
pub data WordCase (word text : List ℕ) : Type 0 where
  is_it : word ≡ text → bytes_eq word text ≡ true → WordCase word text
  unlike : word ≢ text → bytes_eq word text ≡ false → WordCase word text

pub word_case : (word text : List ℕ) → WordCase word text
word_case word text = by (bytes_eq word text) refl
  where
    by : (same : Bool) → bytes_eq word text ≡ same → WordCase word text
    by true e = is_it (same_text word text (sym e)) e
    by false e = unlike (other_text word text (sym e)) e

-- the place of the first query with the name, or the number of the queries where none has it
data Found (queries : List Query) (name : List ℕ) (place : ℕ) : Type 0 where
  there : place < length queries → IsFirstNamed queries place name → Found queries name place
  nowhere : length queries ≤ place → (Contains (names queries) name → ⊥) → Found queries name place

abbrev place_of : List Query → List ℕ → ℕ
place_of queries name = position_or_len (λ (query : Query). bytes_eq query.name name) queries

found_later : (query : Query) (queries : List Query) (name : List ℕ) (place : ℕ) → query.name ≢ name
    → Found queries name place → Found (query ∷ queries) name (suc place)
found_later query queries name place differs (there below is) =
    there (omega (arith, below)) (record { has = is.has; first = first })
  where
    first : (other : ℕ) → other < suc place → slice_get (names (query ∷ queries)) other ≢ Some name
    first zero l e = differs (same_Some query.name name e)
    first (suc earlier) l e = is.first earlier (omega (arith, l)) e
found_later query queries name place differs (nowhere past none) =
    nowhere (omega (arith, past)) (λ member. ⊎_elim differs none
    ((cons_members query.name (names queries) name).0 member))

search_names : (queries : List Query) (name : List ℕ) → Found queries name (place_of queries name)
search_names [] name = nowhere (omega arith) (none_in name)
search_names (query ∷ queries) name = by (word_case query.name name) (search_names queries name)
  where
    by : WordCase query.name name → Found queries name (place_of queries name) →
        Found (query ∷ queries) name (place_of (query ∷ queries) name)
    by (is_it same e) later = rw e
        (there (omega arith) (record {
          has = ap (λ (text : List ℕ). Some text) same;
          first =
              λ earlier l at. omega (arith, l);
        }))
    by (unlike differs e) later =
        let next : suc (place_of queries name) ≡ 1 + place_of queries name = omega arith in
        rw e (subst (Found (query ∷ queries) name) next
        (found_later query queries name (place_of queries name) differs later))

-- the query of a name
pub data QueryCase (queries : List Query) (name : List ℕ) : Type 0 where
  known : (number : ℕ) → IsFirstNamed queries number name →
      query_named UnknownQuery queries name ≡ Ok number → QueryCase queries name
  unknown : (Contains (names queries) name → ⊥) →
      query_named UnknownQuery queries name ≡ Err UnknownQuery → QueryCase queries name

pub query_case : (queries : List Query) (name : List ℕ) → QueryCase queries name
unfolding query_named
query_case queries name = by (search_names queries name)
  where
    place : ℕ
    place = place_of queries name

    by : Found queries name (place_of queries name) → QueryCase queries name
    by (there below is) =
        known (place_of queries name) is
        (ap (λ within. ok_or (cond within (Some (place_of queries name)) None) UnknownQuery)
        (lt-ltb (place_of queries name) (length queries) below))
    by (nowhere past none) =
        unknown none (ap (λ within. ok_or
        (cond within (Some (place_of queries name)) None) UnknownQuery)
        (le-ltb (place_of queries name) (length queries) past))

-- a vertex
pub data VertexCase (field : List ℕ) : Type 0 where
  vertex : IsName field → vertex_of field ≡ Ok field → VertexCase field
  no_vertex : (IsName field → ⊥) → vertex_of field ≡ Err BadName → VertexCase field

pub vertex_case : (field : List ℕ) → VertexCase field
unfolding vertex_of
vertex_case field = by (is_name field) refl
  where
    by : (named : Bool) → is_name field ≡ named → VertexCase field
    by true e = vertex e (ap (λ named. cond named (Ok field) (Err BadName)) e)
    by false e = no_vertex (λ named. false≢true (sym e ∙ named))
        (ap (λ named. cond named (Ok field) (Err BadName)) e)

-- a position
pub data PositionCase (field : List ℕ) : Type 0 where
  written : IsPositionText (number_of field) field → position_of field ≡ Ok (number_of field) →
      PositionCase field
  no_position : ((number : ℕ) → IsPositionText number field → ⊥) → position_of field ≡ Err Number →
      PositionCase field

pub position_case : (field : List ℕ) → PositionCase field
unfolding position_of
position_case field = by (is_digit_text field) refl
  where
    by : (digits : Bool) → is_digit_text field ≡ digits → PositionCase field
    by false e = no_position (λ number is. false≢true (sym e ∙ digit_text_passes field is.digits))
        (ap (λ found. ok_or found Number) (within_other field MAX_TIME e))
    by true e =
        let digits = digit_text_found field e in
        elim (cases_lt MAX_TIME (number_of field)) [
          | inl above ↦
              no_position (λ number is. omega (arith, above, is.value, is.range))
              (ap (λ found. ok_or found Number) (within_larger field MAX_TIME digits above))
          | inr fits ↦
              written (record { digits = digits; value = refl; range = fits })
              (ap (λ found. ok_or found Number) (within_fits field MAX_TIME digits fits))
        ]
