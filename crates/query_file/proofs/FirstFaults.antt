-- The first fault of a line is the first in the order of the kinds.
use Rattle.std.proofs.Common.{Bool, ◌≡◌, ℕ, ◌<◌, ◌≤◌, ◌⊎◌, inl, inr, List, Option, Some, None, Ok, Err, refl, sym, subst, arith}
use Rattle.std.specs.Prelude.{IsSome}
use Rattle.std.proofs.lemmas.Bool.{false≢true, cases_lt}
use Rattle.path_syntax.specs.Expression.{Expression}
use Rattle.path_syntax.specs.Faults.{IsOutcomeOf}
use Rattle.path_syntax.specs.Size.{atoms}
use Rattle.path_syntax.specs.declared.read.BadExpr.{BadExpr}
use Rattle.path_syntax.proofs.Answering.{one_outcome}
use Rattle.rpq_base.specs.declared.data.Label.{Label}
use Rattle.path_syntax.specs.Language.{In}
use Rattle.containment_test.specs.Containment.{Contained, IsLeastTriple}
use Rattle.rpq_model.specs.declared.mode.Mode.TheVariants.{Simple}
use Rattle.rpq_model.specs.Query.{Query}
use Rattle.query_file.specs.declared.fault.QueryKind.{QueryKind}
use Rattle.query_file.specs.declared.fault.QueryKind.TheVariants.{Shape, Number, Twice, TooMany, NoQuery, Expr, TooManyLabels, TooManyStates, NotContained, Memory}
use Rattle.query_file.specs.InOrder.{IsTaken, HasLengths, HasNewName, HasRoom, HasExpression, HasFewLabels, HasFewStates, IsFirstInOrder, IsLineInOrder}
use Rattle.query_file.specs.QueryLine.{LineParts, HasParts, ForParts, ForExpression, length_of, NeedsManyStates, HasFault, number_of, IsFirstFault, IsLineOf}
use Rattle.query_file.proofs.OneParts.{one_parts}

-- ---- what holds of the parts of a line

-- what holds of some parts holds of those that are known
pub at_parts : (line : List ℕ) (P : LineParts → Type 0) (parts : LineParts) → HasParts line parts → ForParts line P → P parts
at_parts line P parts has (others, was, p) = subst P (one_parts line others parts was has) p

-- a text is that of one expression
pub one_expression : (inverses : Bool) (text : List ℕ) (e f : Expression) → IsOutcomeOf inverses text (Ok e) → IsOutcomeOf inverses text (Ok f) → e ≡ f
one_expression inverses text e f one other = let same = (one_outcome inverses text).one (Ok e) (Ok f) one other in cc same

-- a text with an expression has no fault
pub no_fault_of : (inverses : Bool) (text : List ℕ) (e : Expression) (fault : BadExpr) → IsOutcomeOf inverses text (Ok e) → IsOutcomeOf inverses text (Err fault) → ⊥
no_fault_of inverses text e fault one other = let same = (one_outcome inverses text).one (Ok e) (Err fault) one other in absurd (cc same)

-- what holds of some expression of the line holds of the one that is known
pub at_expression : (inverses : Bool) (line : List ℕ) (P : Expression → Type 0) (parts : LineParts) (e : Expression) → HasParts line parts → IsOutcomeOf inverses parts.expr (Ok e) →
    ForExpression inverses line P → P e
at_expression inverses line P parts e has outcome for_one =
    let found = at_parts line (λ p. (f : Expression) × IsOutcomeOf inverses p.expr (Ok f) × P f) parts has for_one in
    subst P (one_expression inverses parts.expr found.0 e found.1 outcome) found.2

none_from : (found : Option ℕ) → (IsSome found → ⊥) → found ≡ None
none_from None no_some = refl
none_from (Some time) no_some = absurd (no_some refl)

pub some_not_none : (found : Option ℕ) → IsSome found → found ≡ None → ⊥
some_not_none found some none = absurd (false≢true (subst IsSome none some))

-- a language that is contained has no words that show that it isn't
pub contained_has_none : (language : List Label → Type 0) (p q w : List Label) → Contained language → IsLeastTriple language p q w → ⊥
contained_has_none language p q w contained least =
    let shows = least.shows in shows.outside (contained p q w shows.some shows.inside)

-- ---- which faults are left

-- what is known of a line with these parts that has no fault of a number below n
record Facts (inverses : Bool) (before : List Query) (parts : LineParts) (n : ℕ) : Type 0 where
  lengths : 2 < n → HasLengths parts
  name : 3 < n → HasNewName before parts
  room : 4 < n → HasRoom before parts
  expression : 6 < n → (e : Expression) × HasExpression inverses before parts e
  labels : 7 < n → (e : Expression) × HasFewLabels inverses before parts e
  states : 8 < n → (e : Expression) × HasFewStates inverses before parts e
  accepted : 9 < n → (e : Expression) × IsOutcomeOf inverses parts.expr (Ok e) × (parts.mode ≡ Simple → Contained (In e))

-- then each of its faults has a number from n on
left : (inverses : Bool) (before : List Query) (line : List ℕ) (parts : LineParts) (n : ℕ) → HasParts line parts → Facts inverses before parts n →
    (other : QueryKind) → HasFault inverses before line other → n ≤ number_of other
left inverses before line parts n has facts Shape fault = absurd (fault parts has)
left inverses before line parts n has facts Number fault = elim (cases_lt 2 n) [
  | inr done ↦ done
  | inl less ↦
      let lengths = facts.lengths less in
      elim (at_parts line (λ p. (length_of p.size ≡ None) ⊎ (length_of p.slide ≡ None)) parts has fault) [
        | inl none ↦ absurd (some_not_none (length_of parts.size) lengths.size none)
        | inr none ↦ absurd (some_not_none (length_of parts.slide) lengths.slide none)
      ]
]
left inverses before line parts n has facts (Twice name) fault = elim (cases_lt 3 n) [
  | inr done ↦ done
  | inl less ↦
      let both = at_parts line (λ p. (p.name ≡ name) × IsTaken before name) parts has fault in
      absurd ((facts.name less).new (subst (IsTaken before) (sym both.0) both.1))
]
left inverses before line parts n has facts TooMany fault = elim (cases_lt 4 n) [
  | inr done ↦ done
  | inl less ↦ let room = (facts.room less).room in absurd (omega (arith, room, fault))
]
left inverses before line parts n has facts NoQuery fault = absurd fault
left inverses before line parts n has facts (Expr bad) fault = elim (cases_lt 6 n) [
  | inr done ↦ done
  | inl less ↦
      let known = facts.expression less in
      absurd (no_fault_of inverses parts.expr known.0 bad known.1.outcome (at_parts line (λ p. IsOutcomeOf inverses p.expr (Err bad)) parts has fault))
]
left inverses before line parts n has facts (TooManyLabels count) fault = elim (cases_lt 7 n) [
  | inr done ↦ done
  | inl less ↦
      let known = facts.labels less in
      let few = known.1.few in
      let both = at_expression inverses line (λ e. (atoms e ≡ count) × (64 < count)) parts known.0 has known.1.expression.outcome fault in
      absurd (omega (arith, few, both.0, both.1))
]
left inverses before line parts n has facts TooManyStates fault = elim (cases_lt 8 n) [
  | inr done ↦ done
  | inl less ↦
      let known = facts.states less in
      absurd (known.1.few (at_expression inverses line NeedsManyStates parts known.0 has known.1.labels.expression.outcome fault))
]
left inverses before line parts n has facts (NotContained p q w) fault = elim (cases_lt 9 n) [
  | inr done ↦ done
  | inl less ↦
      let (e, outcome, contained) = facts.accepted less in
      let (f, simple, other, least) =
      at_parts line (λ part. (f : Expression) × (part.mode ≡ Simple) × IsOutcomeOf inverses part.expr (Ok f) × IsLeastTriple (In f) p q w) parts has fault in
      absurd (contained_has_none (In e) p q w (contained simple)
      (subst (λ (g : Expression). IsLeastTriple (In g) p q w) (one_expression inverses parts.expr f e other outcome) least))
]
left inverses before line parts n has facts Memory fault = absurd fault

-- each kind has a number from 1 to 10
least_number : (kind : QueryKind) → 1 ≤ number_of kind
least_number Shape = omega arith
least_number Number = omega arith
least_number (Twice name) = omega arith
least_number TooMany = omega arith
least_number NoQuery = omega arith
least_number (Expr fault) = omega arith
least_number (TooManyLabels count) = omega arith
least_number TooManyStates = omega arith
least_number (NotContained p q w) = omega arith
least_number Memory = omega arith

greatest_number : (kind : QueryKind) → number_of kind ≤ 10
greatest_number Shape = omega arith
greatest_number Number = omega arith
greatest_number (Twice name) = omega arith
greatest_number TooMany = omega arith
greatest_number NoQuery = omega arith
greatest_number (Expr fault) = omega arith
greatest_number (TooManyLabels count) = omega arith
greatest_number TooManyStates = omega arith
greatest_number (NotContained p q w) = omega arith
greatest_number Memory = omega arith

-- ---- from the order

known_lengths : (inverses : Bool) (before : List Query) (parts : LineParts) → HasLengths parts → Facts inverses before parts 3
known_lengths inverses before parts has = record {
  lengths = λ less. has;
  name = λ less. absurd (omega (arith, less));
  room = λ less. absurd (omega (arith, less));
  expression = λ less. absurd (omega (arith, less));
  labels = λ less. absurd (omega (arith, less));
  states = λ less. absurd (omega (arith, less));
  accepted = λ less. absurd (omega (arith, less));
}

known_name : (inverses : Bool) (before : List Query) (parts : LineParts) → HasNewName before parts → Facts inverses before parts 4
known_name inverses before parts has = record {
  lengths = λ less. has.lengths;
  name = λ less. has;
  room = λ less. absurd (omega (arith, less));
  expression = λ less. absurd (omega (arith, less));
  labels = λ less. absurd (omega (arith, less));
  states = λ less. absurd (omega (arith, less));
  accepted = λ less. absurd (omega (arith, less));
}

known_room : (inverses : Bool) (before : List Query) (parts : LineParts) → HasRoom before parts → Facts inverses before parts 6
known_room inverses before parts has = record {
  lengths = λ less. has.name.lengths;
  name = λ less. has.name;
  room = λ less. has;
  expression = λ less. absurd (omega (arith, less));
  labels = λ less. absurd (omega (arith, less));
  states = λ less. absurd (omega (arith, less));
  accepted = λ less. absurd (omega (arith, less));
}

known_expression : (inverses : Bool) (before : List Query) (parts : LineParts) (e : Expression) → HasExpression inverses before parts e → Facts inverses before parts 7
known_expression inverses before parts e has = record {
  lengths = λ less. has.room.name.lengths;
  name = λ less. has.room.name;
  room = λ less. has.room;
  expression = λ less. (e, has);
  labels = λ less. absurd (omega (arith, less));
  states = λ less. absurd (omega (arith, less));
  accepted = λ less. absurd (omega (arith, less));
}

known_labels : (inverses : Bool) (before : List Query) (parts : LineParts) (e : Expression) → HasFewLabels inverses before parts e → Facts inverses before parts 8
known_labels inverses before parts e has = record {
  lengths = λ less. has.expression.room.name.lengths;
  name = λ less. has.expression.room.name;
  room = λ less. has.expression.room;
  expression = λ less. (e, has.expression);
  labels = λ less. (e, has);
  states = λ less. absurd (omega (arith, less));
  accepted = λ less. absurd (omega (arith, less));
}

known_states : (inverses : Bool) (before : List Query) (parts : LineParts) (e : Expression) (n : ℕ) → HasFewStates inverses before parts e →
    (9 < n → parts.mode ≡ Simple → Contained (In e)) → Facts inverses before parts n
known_states inverses before parts e n has contained = record {
  lengths = λ less. has.labels.expression.room.name.lengths;
  name = λ less. has.labels.expression.room.name;
  room = λ less. has.labels.expression.room;
  expression = λ less. (e, has.labels.expression);
  labels = λ less. (e, has.labels);
  states = λ less. (e, has);
  accepted = λ less. (e, has.labels.expression.outcome, contained less);
}

-- parts of which one isn't a length
no_length : (parts : LineParts) → (HasLengths parts → ⊥) → (length_of parts.size ≡ None) ⊎ (length_of parts.slide ≡ None)
no_length parts none = by (length_of parts.size) refl
  where
    by : (found : Option ℕ) → length_of parts.size ≡ found → (length_of parts.size ≡ None) ⊎ (length_of parts.slide ≡ None)
    by None is = inl is
    by (Some time) is = inr (none_from (length_of parts.slide) (λ slide. none (record { size = subst IsSome (sym is) refl; slide = slide })))

-- the first in the order is the first fault
pub first_fault : (inverses : Bool) (before : List Query) (line : List ℕ) (kind : QueryKind) → IsFirstInOrder inverses before line kind → IsFirstFault inverses before line kind
first_fault inverses before line Shape none = record { has = none; least = λ other fault. least_number other }
first_fault inverses before line Number (parts, has, none) = record {
  has = (parts, has, no_length parts none);
  least = left inverses before line parts 2 has (record {
    lengths = λ less. absurd (omega (arith, less));
    name = λ less. absurd (omega (arith, less));
    room = λ less. absurd (omega (arith, less));
    expression = λ less. absurd (omega (arith, less));
    labels = λ less. absurd (omega (arith, less));
    states = λ less. absurd (omega (arith, less));
    accepted = λ less. absurd (omega (arith, less));
  });
}
first_fault inverses before line (Twice name) (parts, has, (lengths, is, taken)) = record {
  has = (parts, has, (is, taken));
  least = left inverses before line parts 3 has (known_lengths inverses before parts lengths);
}
first_fault inverses before line TooMany (parts, has, (new, many)) = record {
  has = many;
  least = left inverses before line parts 4 has (known_name inverses before parts new);
}
first_fault inverses before line NoQuery none = absurd none
first_fault inverses before line (Expr fault) (parts, has, (room, outcome)) = record {
  has = (parts, has, outcome);
  least = left inverses before line parts 6 has (known_room inverses before parts room);
}
first_fault inverses before line (TooManyLabels count) (parts, has, (e, expression, are, many)) = record {
  has = (parts, has, (e, expression.outcome, (are, many)));
  least = left inverses before line parts 7 has (known_expression inverses before parts e expression);
}
first_fault inverses before line TooManyStates (parts, has, (e, labels, many)) = record {
  has = (parts, has, (e, labels.expression.outcome, many));
  least = left inverses before line parts 8 has (known_labels inverses before parts e labels);
}
first_fault inverses before line (NotContained p q w) (parts, has, (e, states, simple, least)) = record {
  has = (parts, has, (e, simple, states.labels.expression.outcome, least));
  least = left inverses before line parts 9 has (known_states inverses before parts e 9 states (λ less. absurd (omega (arith, less))));
}
first_fault inverses before line Memory none = absurd none

-- a line without a fault in the order has none
pub line_of : (inverses : Bool) (before : List Query) (line : List ℕ) (query : Query) → IsLineInOrder inverses before line query → IsLineOf inverses before line query
line_of inverses before line query is = record {
  no_fault = λ kind fault.
      let above = left inverses before line is.parts 11 is.has (known_states inverses before is.parts query.expr 11 is.states (λ less. is.contained)) kind fault in
      let most = greatest_number kind in
      absurd (omega (arith, above, most));
  parts = is.parts;
  has = is.has;
  name = is.name;
  size = is.size;
  slide = is.slide;
  mode = is.mode;
  expr = is.states.labels.expression.outcome;
}
