-- A file with an inverse: with inverses it gives its query, without them it has a fault.
use Rattle.std.proofs.Common.{◌≡◌, ℕ, ◌<◌, ◌⊎◌, inl, inr, List, [], ◌∷◌, ◌++◌, length, codes, Ok, refl, sym, ap, subst, ◌∙◌, arith}
use Rattle.std.specs.Prelude.{Contains, slice_index_or}
use Rattle.std.proofs.lemmas.Bool.{false≢true}
use Rattle.text_parts.specs.Lines.{raw_lines, without_return}
use Rattle.text_parts.specs.Fields.{fields}
use Rattle.text_parts.specs.Numbers.{number_within}
use Rattle.rpq_base.specs.Names.{is_name}
use Rattle.rpq_base.specs.declared.data.Label.{Label}
use Rattle.path_syntax.specs.Expression.{Atom, Seq}
use Rattle.path_syntax.specs.Grammar.{one_way, two_way}
use Rattle.path_syntax.specs.Faults.{Faulty}
use Rattle.path_syntax.specs.Reading.{kind_of, read_byte, reading}
use Rattle.path_syntax.specs.declared.read.BadExpr.TheVariants.{Unexpected}
use Rattle.path_syntax.proofs.Answering.{has_fault}
use Rattle.path_syntax.proofs.Limits.{outcome}
use Rattle.dfa_build.specs.Marked.{ArePositionsOf, BeginsAWord, AreNeighbours, InMarked}
use Rattle.dfa_build.specs.Positions.{PositionsValue, GoesOn, next_of, spells}
use Rattle.dfa_build.specs.Subset.{ReachesSome, ReachSame, HasManySets}
use Rattle.rpq_model.specs.declared.mode.Mode.TheVariants.{Arbitrary}
use Rattle.query_file.specs.declared.fault.QueryKind.TheVariants.{Expr}
use Rattle.query_file.specs.Examples.{inverse_line, inverse_query, TwoWayExamples}
use Rattle.query_file.specs.InOrder.{IsLineInOrder}
use Rattle.query_file.specs.Queries.{IsQueryLine, AtEnd, OneMore}
use Rattle.query_file.specs.Queries as file
use Rattle.query_file.specs.QueryLine.{LineParts, HasParts, length_of, NeedsManyStates}
use Rattle.query_file.proofs.Examples.{first_room}
use Rattle.query_file.proofs.FirstFaults.{first_fault, line_of}

-- ---- the positions of two labels, one after the other

one_trace : (x y : Label) (trace : List ℕ) → InMarked (Seq (Atom x) (Atom y)) 0 trace → trace ≡ 0 ∷ 1 ∷ []
one_trace x y trace is =
    is.split ∙ (ap (λ (front : List ℕ). front ++ is.rest) is.left ∙ ap (λ (rest : List ℕ). 0 ∷ rest) is.right)

begins_first : (x y : Label) (p : ℕ) → BeginsAWord (Seq (Atom x) (Atom y)) p → p ≡ 0
begins_first x y p (rest, marked) = let whole : p ∷ rest ≡ 0 ∷ 1 ∷ [] = one_trace x y (p ∷ rest) marked in cc whole

beside : (p q : ℕ) (front rest : List ℕ) → front ++ p ∷ q ∷ rest ≡ 0 ∷ 1 ∷ [] → (p ≡ 0) × (q ≡ 1)
beside p q [] rest whole = (cc whole, cc whole)
beside p q (a ∷ []) rest whole = absurd (cc whole)
beside p q (a ∷ b ∷ []) rest whole = absurd (cc whole)
beside p q (a ∷ b ∷ c ∷ front) rest whole = absurd (cc whole)

neighbours : (x y : Label) (p q : ℕ) → AreNeighbours (Seq (Atom x) (Atom y)) p q → (p ≡ 0) × (q ≡ 1)
neighbours x y p q (front, rest, marked) = beside p q front rest (one_trace x y (front ++ p ∷ q ∷ rest) marked)

module _ (x y : Label) (positions : PositionsValue) (are : ArePositionsOf (Seq (Atom x) (Atom y)) positions) where
  -- a word that reaches a position is one of two
  abbrev IsOneOfTwo : List Label → Type 0
  IsOneOfTwo word = (word ≡ spells positions (0 ∷ [])) ⊎ (word ≡ spells positions (0 ∷ 1 ∷ []))

  next_is : (p q : ℕ) → Contains (next_of positions p) q → (p ≡ 0) × (q ≡ 1)
  next_is p q goes = neighbours x y p q ((are.follow p q).0 goes)

  by_trace : (word : List Label) (first : ℕ) (rest : List ℕ) → first ≡ 0 → GoesOn positions first rest → word ≡ spells positions (first ∷ rest) →
      IsOneOfTwo word
  by_trace word first [] is goes spelled = inl (spelled ∙ ap (λ n. spells positions (n ∷ [])) is)
  by_trace word first (next ∷ []) is goes spelled =
      inr (spelled ∙ ap (λ n. spells positions (n ∷ next ∷ [])) is ∙ ap (λ n. spells positions (0 ∷ n ∷ [])) (next_is first next goes.0).1)
  by_trace word first (next ∷ third ∷ rest) is goes spelled =
      let second = (next_is first next goes.0).1 in
      let also = (next_is next third goes.1.0).0 in
      absurd (omega (arith, second, also))

  one_of_two : (word : List Label) → ReachesSome positions word → IsOneOfTwo word
  one_of_two word (position, has) =
      by_trace word has.first has.rest (begins_first x y has.first ((are.first has.first).0 has.front.0)) has.front.1 has.spelled

  -- of three such words two are the same
  alike : (word other : List Label) → word ≡ other → ReachSame positions word other
  alike word other same = subst (ReachSame positions word) same (λ position. (λ h. h, λ h. h))

  two_alike : (first second third : List Label) → IsOneOfTwo first → IsOneOfTwo second → IsOneOfTwo third →
      (ReachSame positions first second → ⊥) → (ReachSame positions first third → ⊥) → (ReachSame positions second third → ⊥) → ⊥
  two_alike first second third (inl a) (inl b) c ab ac bc = ab (alike first second (a ∙ sym b))
  two_alike first second third (inr a) (inr b) c ab ac bc = ab (alike first second (a ∙ sym b))
  two_alike first second third (inl a) (inr b) (inl c) ab ac bc = ac (alike first third (a ∙ sym c))
  two_alike first second third (inl a) (inr b) (inr c) ab ac bc = bc (alike second third (b ∙ sym c))
  two_alike first second third (inr a) (inl b) (inl c) ab ac bc = bc (alike second third (b ∙ sym c))
  two_alike first second third (inr a) (inl b) (inr c) ab ac bc = ac (alike first third (a ∙ sym c))

  few_sets : HasManySets positions → ⊥
  few_sets (words, apart, many) =
      let at : ℕ → List Label = λ k. slice_index_or words k [] in
      let some : (k : ℕ) → k < length words → IsOneOfTwo (at k) = λ k below. one_of_two (at k) (apart.some k [] below) in
      two_alike (at 0) (at 1) (at 2) (some 0 (omega (arith, many))) (some 1 (omega (arith, many))) (some 2 (omega (arith, many)))
      (apart.apart 0 1 [] (omega arith) (omega (arith, many))) (apart.apart 0 2 [] (omega arith) (omega (arith, many)))
      (apart.apart 1 2 [] (omega arith) (omega (arith, many)))

few_states : (x y : Label) → NeedsManyStates (Seq (Atom x) (Atom y)) → ⊥
few_states x y (positions, are, many) = few_sets x y positions are many

-- ---- the line

abbrev inverse_parts : LineParts
inverse_parts = record { name = codes "q"; size = codes "5"; slide = codes "1"; mode = Arbitrary; expr = codes "uses/^uses" }

has_parts : HasParts inverse_line inverse_parts
unfolding fields is_name
has_parts = record {
  before = codes "query q window 5 slide 1 ";
  split = refl;
  apart = record { front = codes "query q window 5 slide 1"; blank = 32; split = refl; is_one = refl };
  fields_before = refl;
  named = refl;
}

is_line : IsQueryLine inverse_line
is_line over = elim over [
  | inl blank ↦ absurd (false≢true blank)
  | inr comment ↦ absurd (cc comment)
]

in_order : IsLineInOrder two_way [] inverse_line inverse_query
unfolding length_of number_within kind_of read_byte reading
in_order = record {
  parts = inverse_parts;
  has = has_parts;
  states = record {
    labels = record {
      expression = record { room = first_room inverse_parts (record { size = refl; slide = refl }); outcome = outcome two_way (codes "uses/^uses") };
      few = omega arith;
    };
    few = few_states _ _;
  };
  contained = λ simple. absurd (cc simple);
  name = refl;
  size = refl;
  slide = refl;
  mode = refl;
}

pub two_way_examples : TwoWayExamples
unfolding length_of number_within raw_lines without_return kind_of read_byte reading
two_way_examples = record {
  given = OneMore [] 0 inverse_line [] (Ok (inverse_query ∷ [])) inverse_query is_line (line_of two_way [] inverse_line inverse_query in_order)
      (AtEnd (inverse_query ∷ []) 1 (λ none. cc none));
  without = file.Faulty [] 0 inverse_line [] (Expr (Unexpected 6)) is_line (first_fault one_way [] inverse_line (Expr (Unexpected 6)) (
    inverse_parts,
    has_parts,
    (
      first_room inverse_parts (record { size = refl; slide = refl }),
      Faulty (Unexpected 6) (has_fault one_way (codes "uses/^uses") (Unexpected 6) refl),
    ),
  ));
}
