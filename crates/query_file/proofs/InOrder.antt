-- The first fault of a line is the first in the order of the kinds: the other way round.
use Rattle.std.proofs.Common.{Bool, ◌≡◌, ℕ, ◌<◌, ◌≤◌, inl, inr, List, length, Option, Some, None, Ok, refl, arith}
use Rattle.std.specs.Prelude.{IsSome}
use Rattle.std.proofs.lemmas.Bool.{cases_lt}
use Rattle.path_syntax.specs.Expression.{Expression}
use Rattle.path_syntax.specs.Faults.{IsOutcomeOf}
use Rattle.path_syntax.specs.Size.{atoms}
use Rattle.rpq_model.specs.Query.{Query}
use Rattle.query_file.specs.declared.fault.QueryKind.{QueryKind}
use Rattle.query_file.specs.declared.fault.QueryKind.TheVariants.{Shape, Number, Twice, TooMany, NoQuery, Expr, TooManyLabels, TooManyStates, NotContained, Memory}
use Rattle.query_file.specs.InOrder.{HasLengths, HasNewName, HasRoom, HasFewLabels, HasFewStates, IsFirstInOrder, IsLineInOrder, FaultsInOrder}
use Rattle.query_file.specs.QueryLine.{LineParts, HasParts, length_of, HasFault, number_of, IsFirstFault, IsLineOf}
use Rattle.query_file.proofs.Decided.{parts_or_none}
use Rattle.query_file.proofs.FirstFaults.{some_not_none, first_fault, line_of}
use Rattle.query_file.proofs.LeastTriples.{contained_of_none}

some_from : (found : Option ℕ) → (found ≡ None → ⊥) → IsSome found
some_from None other = absurd (other refl)
some_from (Some time) other = refl

-- what is known of a line with these parts whose faults have numbers from n on
module _ (inverses : Bool) (before : List Query) (line : List ℕ) (parts : LineParts) (n : ℕ) (has : HasParts line parts)
    (least : (other : QueryKind) → HasFault inverses before line other → n ≤ number_of other) where
  lengths_known : 2 < n → HasLengths parts
  lengths_known above = record {
    size = some_from (length_of parts.size) (λ none. let most = least Number (parts, has, inl none) in absurd (omega (arith, above, most)));
    slide = some_from (length_of parts.slide) (λ none. let most = least Number (parts, has, inr none) in absurd (omega (arith, above, most)));
  }

  name_known : 3 < n → HasNewName before parts
  name_known above = record {
    lengths = lengths_known (omega (arith, above));
    new = λ taken. let most = least (Twice parts.name) (parts, has, (refl, taken)) in absurd (omega (arith, above, most));
  }

  room_known : 4 < n → HasRoom before parts
  room_known above = record { name = name_known (omega (arith, above)); room = room }
    where
      room : length before < 64
      room = elim (cases_lt (length before) 64) [
        | inl less ↦ less
        | inr many ↦ let most = least TooMany many in absurd (omega (arith, above, most))
      ]

  labels_known : (e : Expression) → 7 < n → IsOutcomeOf inverses parts.expr (Ok e) → HasFewLabels inverses before parts e
  labels_known e above outcome = record {
    expression = record { room = room_known (omega (arith, above)); outcome = outcome };
    few = few;
  }
    where
      few : atoms e ≤ 64
      few = elim (cases_lt 64 (atoms e)) [
        | inr less ↦ less
        | inl many ↦ let most = least (TooManyLabels (atoms e)) (parts, has, (e, outcome, (refl, many))) in absurd (omega (arith, above, most))
      ]

  states_known : (e : Expression) → 8 < n → IsOutcomeOf inverses parts.expr (Ok e) → HasFewStates inverses before parts e
  states_known e above outcome = record {
    labels = labels_known e (omega (arith, above)) outcome;
    few = λ many. let most = least TooManyStates (parts, has, (e, outcome, many)) in absurd (omega (arith, above, most));
  }

-- the first fault is the first in the order
in_order : (inverses : Bool) (before : List Query) (line : List ℕ) (kind : QueryKind) → IsFirstFault inverses before line kind → IsFirstInOrder inverses before line kind
in_order inverses before line Shape first = first.has
in_order inverses before line Number first =
    let (parts, has, either) = first.has in (
      parts,
      has,
      λ lengths. elim either [
        | inl none ↦ absurd (some_not_none (length_of parts.size) lengths.size none)
        | inr none ↦ absurd (some_not_none (length_of parts.slide) lengths.slide none)
      ],
    )
in_order inverses before line (Twice name) first =
    let (parts, has, both) = first.has in
    (parts, has, (lengths_known inverses before line parts 3 has first.least (omega arith), both.0, both.1))
in_order inverses before line TooMany first = elim (parts_or_none line) [
  | inl found ↦ (found.0, found.1, (name_known inverses before line found.0 4 found.1 first.least (omega arith), first.has))
  | inr none ↦ let most = first.least Shape none in absurd (omega (arith, most))
]
in_order inverses before line NoQuery first = absurd first.has
in_order inverses before line (Expr fault) first =
    let (parts, has, outcome) = first.has in
    (parts, has, (room_known inverses before line parts 6 has first.least (omega arith), outcome))
in_order inverses before line (TooManyLabels count) first =
    let (parts, has, (e, outcome, both)) = first.has in
    (parts, has, (e, record { room = room_known inverses before line parts 7 has first.least (omega arith); outcome = outcome }, both.0, both.1))
in_order inverses before line TooManyStates first =
    let (parts, has, (e, outcome, many)) = first.has in
    (parts, has, (e, labels_known inverses before line parts 8 has first.least e (omega arith) outcome, many))
in_order inverses before line (NotContained p q w) first =
    let (parts, has, (e, simple, outcome, least)) = first.has in
    (parts, has, (e, states_known inverses before line parts 9 has first.least e (omega arith) outcome, simple, least))
in_order inverses before line Memory first = absurd first.has

-- a line without a fault has none in the order
line_in_order : (inverses : Bool) (before : List Query) (line : List ℕ) (query : Query) → IsLineOf inverses before line query → IsLineInOrder inverses before line query
line_in_order inverses before line query is = record {
  parts = is.parts;
  has = is.has;
  states = states_known inverses before line is.parts 11 is.has (λ other fault. absurd (is.no_fault other fault)) query.expr (omega arith) is.expr;
  contained = λ simple. contained_of_none query.expr
      (λ p q w least. is.no_fault (NotContained p q w) (is.parts, is.has, (query.expr, simple, is.expr, least)));
  name = is.name;
  size = is.size;
  slide = is.slide;
  mode = is.mode;
}

pub faults_in_order : (inverses : Bool) → FaultsInOrder inverses
faults_in_order inverses = record {
  first = λ before line kind. (in_order inverses before line kind, first_fault inverses before line kind);
  none = λ before line query. (line_in_order inverses before line query, line_of inverses before line query);
}
