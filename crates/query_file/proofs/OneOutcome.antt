-- A file has one outcome at most.
use Rattle.std.proofs.Common.{Bool, ◌≡◌, ◌≢◌, ℕ, suc, ◌<◌, List, [], ◌∷◌, ◌++◌, Some, Result, Ok, Err, refl, sym, ap, subst, ◌∙◌, arith, ◌⊎◌, inl, inr}
use Rattle.path_syntax.specs.Faults.{IsOutcomeOf}
use Rattle.path_syntax.specs.Size.{atoms}
use Rattle.path_syntax.specs.declared.read.BadExpr.{BadExpr}
use Rattle.path_syntax.proofs.Answering as answering
use Rattle.text_parts.specs.Lines.{lines}
use Rattle.rpq_base.specs.declared.data.Label.{Label}
use Rattle.path_syntax.specs.Expression.{Expression}
use Rattle.path_syntax.specs.Language.{In}
use Rattle.containment_test.specs.Containment.{IsLeastTriple}
use Rattle.containment_test.specs.declared.verdict.Verdict.TheVariants.{No}
use Rattle.containment_test.proofs.Words.{one_verdict}
use Rattle.rpq_model.specs.declared.mode.Mode.TheVariants.{Simple}
use Rattle.rpq_model.specs.Query.{Query}
use Rattle.query_file.specs.declared.fault.QueryFault.{QueryFault}
use Rattle.query_file.specs.declared.fault.QueryKind.{QueryKind}
use Rattle.query_file.specs.declared.fault.QueryKind.TheVariants.{Shape, Number, Twice, TooMany, NoQuery, Expr, TooManyLabels, TooManyStates, NotContained, Memory}
use Rattle.query_file.specs.InOrder.{IsTaken}
use Rattle.query_file.specs.Laws.{OneOutcomeOf}
use Rattle.query_file.specs.Queries.{Gives, AtEnd, NoneAtEnd, PassedOver, OneMore, Faulty, fault_at, QueriesOf}
use Rattle.query_file.specs.QueryLine.{LineParts, length_of, HasFault, number_of, IsFirstFault, IsLineOf}
use Rattle.query_file.proofs.FirstFaults.{at_parts, at_expression, one_expression}
use Rattle.query_file.proofs.OneParts.{one_parts}

one_fault_of : (inverses : Bool) (text : List ℕ) (a b : BadExpr) → IsOutcomeOf inverses text (Err a) → IsOutcomeOf inverses text (Err b) → a ≡ b
one_fault_of inverses text a b one other = let same = (answering.one_outcome inverses text).one (Err a) (Err b) one other in cc same

-- a language has one least triple
one_triple : (language : List Label → Type 0) (p q w p2 q2 w2 : List Label) → IsLeastTriple language p q w → IsLeastTriple language p2 q2 w2 →
    NotContained p q w ≡ NotContained p2 q2 w2
one_triple language p q w p2 q2 w2 one two =
    let same = one_verdict language (No p q w) (No p2 q2 w2) one two in
    let first : p ≡ p2 = cc same in
    let second : q ≡ q2 = cc same in
    let third : w ≡ w2 = cc same in
    λ i. NotContained (first i) (second i) (third i)

-- faults of a line with the same number are the same
same_kind : (inverses : Bool) (before : List Query) (line : List ℕ) (first second : QueryKind) → number_of first ≡ number_of second →
    HasFault inverses before line first → HasFault inverses before line second → first ≡ second
same_kind inverses before line Shape Shape number is was = refl
same_kind inverses before line Shape Number number is was = absurd (omega (arith, number))
same_kind inverses before line Shape (Twice other) number is was = absurd (omega (arith, number))
same_kind inverses before line Shape TooMany number is was = absurd (omega (arith, number))
same_kind inverses before line Shape NoQuery number is was = absurd (omega (arith, number))
same_kind inverses before line Shape (Expr other) number is was = absurd (omega (arith, number))
same_kind inverses before line Shape (TooManyLabels other) number is was = absurd (omega (arith, number))
same_kind inverses before line Shape TooManyStates number is was = absurd (omega (arith, number))
same_kind inverses before line Shape (NotContained p2 q2 w2) number is was = absurd (omega (arith, number))
same_kind inverses before line Shape Memory number is was = absurd (omega (arith, number))
same_kind inverses before line Number Shape number is was = absurd (omega (arith, number))
same_kind inverses before line Number Number number is was = refl
same_kind inverses before line Number (Twice other) number is was = absurd (omega (arith, number))
same_kind inverses before line Number TooMany number is was = absurd (omega (arith, number))
same_kind inverses before line Number NoQuery number is was = absurd (omega (arith, number))
same_kind inverses before line Number (Expr other) number is was = absurd (omega (arith, number))
same_kind inverses before line Number (TooManyLabels other) number is was = absurd (omega (arith, number))
same_kind inverses before line Number TooManyStates number is was = absurd (omega (arith, number))
same_kind inverses before line Number (NotContained p2 q2 w2) number is was = absurd (omega (arith, number))
same_kind inverses before line Number Memory number is was = absurd (omega (arith, number))
same_kind inverses before line (Twice name) Shape number is was = absurd (omega (arith, number))
same_kind inverses before line (Twice name) Number number is was = absurd (omega (arith, number))
same_kind inverses before line (Twice name) (Twice other) number (parts, has, (is, taken)) was =
    let also = at_parts line (λ p. (p.name ≡ other) × IsTaken before other) parts has was in
    ap Twice (sym is ∙ also.0)
same_kind inverses before line (Twice name) TooMany number is was = absurd (omega (arith, number))
same_kind inverses before line (Twice name) NoQuery number is was = absurd (omega (arith, number))
same_kind inverses before line (Twice name) (Expr other) number is was = absurd (omega (arith, number))
same_kind inverses before line (Twice name) (TooManyLabels other) number is was = absurd (omega (arith, number))
same_kind inverses before line (Twice name) TooManyStates number is was = absurd (omega (arith, number))
same_kind inverses before line (Twice name) (NotContained p2 q2 w2) number is was = absurd (omega (arith, number))
same_kind inverses before line (Twice name) Memory number is was = absurd (omega (arith, number))
same_kind inverses before line TooMany Shape number is was = absurd (omega (arith, number))
same_kind inverses before line TooMany Number number is was = absurd (omega (arith, number))
same_kind inverses before line TooMany (Twice other) number is was = absurd (omega (arith, number))
same_kind inverses before line TooMany TooMany number is was = refl
same_kind inverses before line TooMany NoQuery number is was = absurd (omega (arith, number))
same_kind inverses before line TooMany (Expr other) number is was = absurd (omega (arith, number))
same_kind inverses before line TooMany (TooManyLabels other) number is was = absurd (omega (arith, number))
same_kind inverses before line TooMany TooManyStates number is was = absurd (omega (arith, number))
same_kind inverses before line TooMany (NotContained p2 q2 w2) number is was = absurd (omega (arith, number))
same_kind inverses before line TooMany Memory number is was = absurd (omega (arith, number))
same_kind inverses before line NoQuery Shape number is was = absurd (omega (arith, number))
same_kind inverses before line NoQuery Number number is was = absurd (omega (arith, number))
same_kind inverses before line NoQuery (Twice other) number is was = absurd (omega (arith, number))
same_kind inverses before line NoQuery TooMany number is was = absurd (omega (arith, number))
same_kind inverses before line NoQuery NoQuery number is was = refl
same_kind inverses before line NoQuery (Expr other) number is was = absurd (omega (arith, number))
same_kind inverses before line NoQuery (TooManyLabels other) number is was = absurd (omega (arith, number))
same_kind inverses before line NoQuery TooManyStates number is was = absurd (omega (arith, number))
same_kind inverses before line NoQuery (NotContained p2 q2 w2) number is was = absurd (omega (arith, number))
same_kind inverses before line NoQuery Memory number is was = absurd (omega (arith, number))
same_kind inverses before line (Expr fault) Shape number is was = absurd (omega (arith, number))
same_kind inverses before line (Expr fault) Number number is was = absurd (omega (arith, number))
same_kind inverses before line (Expr fault) (Twice other) number is was = absurd (omega (arith, number))
same_kind inverses before line (Expr fault) TooMany number is was = absurd (omega (arith, number))
same_kind inverses before line (Expr fault) NoQuery number is was = absurd (omega (arith, number))
same_kind inverses before line (Expr fault) (Expr other) number (parts, has, is) was =
    ap Expr (one_fault_of inverses parts.expr fault other is (at_parts line (λ p. IsOutcomeOf inverses p.expr (Err other)) parts has was))
same_kind inverses before line (Expr fault) (TooManyLabels other) number is was = absurd (omega (arith, number))
same_kind inverses before line (Expr fault) TooManyStates number is was = absurd (omega (arith, number))
same_kind inverses before line (Expr fault) (NotContained p2 q2 w2) number is was = absurd (omega (arith, number))
same_kind inverses before line (Expr fault) Memory number is was = absurd (omega (arith, number))
same_kind inverses before line (TooManyLabels count) Shape number is was = absurd (omega (arith, number))
same_kind inverses before line (TooManyLabels count) Number number is was = absurd (omega (arith, number))
same_kind inverses before line (TooManyLabels count) (Twice other) number is was = absurd (omega (arith, number))
same_kind inverses before line (TooManyLabels count) TooMany number is was = absurd (omega (arith, number))
same_kind inverses before line (TooManyLabels count) NoQuery number is was = absurd (omega (arith, number))
same_kind inverses before line (TooManyLabels count) (Expr other) number is was = absurd (omega (arith, number))
same_kind inverses before line (TooManyLabels count) (TooManyLabels other) number (parts, has, (e, outcome, (are, many))) was =
    let also = at_expression inverses line (λ f. (atoms f ≡ other) × (64 < other)) parts e has outcome was in
    ap TooManyLabels (sym are ∙ also.0)
same_kind inverses before line (TooManyLabels count) TooManyStates number is was = absurd (omega (arith, number))
same_kind inverses before line (TooManyLabels count) (NotContained p2 q2 w2) number is was = absurd (omega (arith, number))
same_kind inverses before line (TooManyLabels count) Memory number is was = absurd (omega (arith, number))
same_kind inverses before line TooManyStates Shape number is was = absurd (omega (arith, number))
same_kind inverses before line TooManyStates Number number is was = absurd (omega (arith, number))
same_kind inverses before line TooManyStates (Twice other) number is was = absurd (omega (arith, number))
same_kind inverses before line TooManyStates TooMany number is was = absurd (omega (arith, number))
same_kind inverses before line TooManyStates NoQuery number is was = absurd (omega (arith, number))
same_kind inverses before line TooManyStates (Expr other) number is was = absurd (omega (arith, number))
same_kind inverses before line TooManyStates (TooManyLabels other) number is was = absurd (omega (arith, number))
same_kind inverses before line TooManyStates TooManyStates number is was = refl
same_kind inverses before line TooManyStates (NotContained p2 q2 w2) number is was = absurd (omega (arith, number))
same_kind inverses before line TooManyStates Memory number is was = absurd (omega (arith, number))
same_kind inverses before line (NotContained p q w) Shape number is was = absurd (omega (arith, number))
same_kind inverses before line (NotContained p q w) Number number is was = absurd (omega (arith, number))
same_kind inverses before line (NotContained p q w) (Twice other) number is was = absurd (omega (arith, number))
same_kind inverses before line (NotContained p q w) TooMany number is was = absurd (omega (arith, number))
same_kind inverses before line (NotContained p q w) NoQuery number is was = absurd (omega (arith, number))
same_kind inverses before line (NotContained p q w) (Expr other) number is was = absurd (omega (arith, number))
same_kind inverses before line (NotContained p q w) (TooManyLabels other) number is was = absurd (omega (arith, number))
same_kind inverses before line (NotContained p q w) TooManyStates number is was = absurd (omega (arith, number))
same_kind inverses before line (NotContained p q w) (NotContained p2 q2 w2) number (parts, has, (e, simple, outcome, least)) was =
    let (f, also, other, least2) =
    at_parts line (λ part. (f : Expression) × (part.mode ≡ Simple) × IsOutcomeOf inverses part.expr (Ok f) × IsLeastTriple (In f) p2 q2 w2) parts has was in
    one_triple (In e) p q w p2 q2 w2 least
    (subst (λ (g : Expression). IsLeastTriple (In g) p2 q2 w2) (one_expression inverses parts.expr f e other outcome) least2)
same_kind inverses before line (NotContained p q w) Memory number is was = absurd (omega (arith, number))
same_kind inverses before line Memory Shape number is was = absurd (omega (arith, number))
same_kind inverses before line Memory Number number is was = absurd (omega (arith, number))
same_kind inverses before line Memory (Twice other) number is was = absurd (omega (arith, number))
same_kind inverses before line Memory TooMany number is was = absurd (omega (arith, number))
same_kind inverses before line Memory NoQuery number is was = absurd (omega (arith, number))
same_kind inverses before line Memory (Expr other) number is was = absurd (omega (arith, number))
same_kind inverses before line Memory (TooManyLabels other) number is was = absurd (omega (arith, number))
same_kind inverses before line Memory TooManyStates number is was = absurd (omega (arith, number))
same_kind inverses before line Memory (NotContained p2 q2 w2) number is was = absurd (omega (arith, number))
same_kind inverses before line Memory Memory number is was = refl

-- a line has one first fault
pub one_first_fault : (inverses : Bool) (before : List Query) (line : List ℕ) (first second : QueryKind) → IsFirstFault inverses before line first → IsFirstFault inverses before line second →
    first ≡ second
one_first_fault inverses before line first second one other =
    let least = one.least second other.has in
    let most = other.least first one.has in
    same_kind inverses before line first second (omega (arith, least, most)) one.has other.has

some_is : (a b : ℕ) → Some a ≡ Some b → a ≡ b
some_is a b same = cc same

-- and is that of one query
pub one_query : (inverses : Bool) (before : List Query) (line : List ℕ) (first second : Query) → IsLineOf inverses before line first → IsLineOf inverses before line second → first ≡ second
one_query inverses before line first second one other =
    let same = one_parts line one.parts other.parts one.has other.has in
    let name : first.name ≡ second.name = one.name ∙ ap (λ (p : LineParts). p.name) same ∙ sym other.name in
    let mode : first.mode ≡ second.mode = one.mode ∙ ap (λ (p : LineParts). p.mode) same ∙ sym other.mode in
    let size = some_is first.window.size second.window.size (sym one.size ∙ ap (λ (p : LineParts). length_of p.size) same ∙ other.size) in
    let slide = some_is first.window.slide second.window.slide (sym one.slide ∙ ap (λ (p : LineParts). length_of p.slide) same ∙ other.slide) in
    let expr = one_expression inverses one.parts.expr first.expr second.expr one.expr (subst (λ (p : LineParts). IsOutcomeOf inverses p.expr (Ok second.expr)) (sym same) other.expr) in
    λ i. record { name = name i; window = record { size = size i; slide = slide i }; mode = mode i; expr = expr i }

-- what lines give is one
one_gives : (inverses : Bool) (rest : List (List ℕ)) (queries : List Query) (count : ℕ) (first second : Result (List Query) QueryFault) →
    Gives inverses queries count rest first → Gives inverses queries count rest second → first ≡ second
one_gives inverses [] queries count _ _ (AtEnd _ _ some) (AtEnd _ _ also) = refl
one_gives inverses [] _ count _ _ (AtEnd _ _ some) (NoneAtEnd _) = absurd (some refl)
one_gives inverses [] _ count _ _ (NoneAtEnd _) (AtEnd _ _ some) = absurd (some refl)
one_gives inverses [] _ count _ _ (NoneAtEnd _) (NoneAtEnd _) = refl
one_gives inverses (line ∷ rest) queries count first second (PassedOver _ _ _ _ _ over gives) (PassedOver _ _ _ _ _ also other) =
    one_gives inverses rest queries (suc count) first second gives other
one_gives inverses (line ∷ rest) queries count first second (PassedOver _ _ _ _ _ over gives) (OneMore _ _ _ _ _ query is line_of other) = absurd (is over)
one_gives inverses (line ∷ rest) queries count first _ (PassedOver _ _ _ _ _ over gives) (Faulty _ _ _ _ kind is fault) = absurd (is over)
one_gives inverses (line ∷ rest) queries count first second (OneMore _ _ _ _ _ query is line_of gives) (PassedOver _ _ _ _ _ over other) = absurd (is over)
one_gives inverses (line ∷ rest) queries count first second (OneMore _ _ _ _ _ query is line_of gives) (OneMore _ _ _ _ _ another also was other) =
    let same = one_query inverses queries line query another line_of was in
    one_gives inverses rest (queries ++ query ∷ []) (suc count) first second gives
    (subst (λ (q : Query). Gives inverses (queries ++ q ∷ []) (suc count) rest second) (sym same) other)
one_gives inverses (line ∷ rest) queries count first _ (OneMore _ _ _ _ _ query is line_of gives) (Faulty _ _ _ _ kind also fault) =
    absurd (line_of.no_fault kind fault.has)
one_gives inverses (line ∷ rest) queries count _ second (Faulty _ _ _ _ kind is fault) (PassedOver _ _ _ _ _ over other) = absurd (is over)
one_gives inverses (line ∷ rest) queries count _ second (Faulty _ _ _ _ kind is fault) (OneMore _ _ _ _ _ query also line_of other) =
    absurd (line_of.no_fault kind fault.has)
one_gives inverses (line ∷ rest) queries count _ _ (Faulty _ _ _ _ kind is fault) (Faulty _ _ _ _ another also was) =
    ap (λ (k : QueryKind). Err (fault_at (suc count) k)) (one_first_fault inverses queries line kind another fault was)

-- a file has one outcome
pub one_outcome : (inverses : Bool) → OneOutcomeOf inverses
one_outcome inverses bytes first second one other = one_gives inverses (lines bytes) [] 0 first second one other

is_memory : (kind : QueryKind) → (kind ≡ Memory) ⊎ (kind ≢ Memory)
is_memory Memory = inl refl
is_memory Shape = inr (λ e. absurd cc)
is_memory Number = inr (λ e. absurd cc)
is_memory (Twice name) = inr (λ e. absurd cc)
is_memory TooMany = inr (λ e. absurd cc)
is_memory NoQuery = inr (λ e. absurd cc)
is_memory (Expr bad) = inr (λ e. absurd cc)
is_memory (TooManyLabels count) = inr (λ e. absurd cc)
is_memory TooManyStates = inr (λ e. absurd cc)
is_memory (NotContained p q w) = inr (λ e. absurd cc)

-- what a file gives is what is answered, unless memory ran out
pub answered : (inverses : Bool) (bytes : List ℕ) (fault : QueryFault) → (fault.kind ≢ Memory → QueriesOf inverses bytes (Err fault)) → (outcome : Result (List Query) QueryFault) →
    QueriesOf inverses bytes outcome → (fault.kind ≡ Memory) ⊎ (outcome ≡ Err fault)
answered inverses bytes fault told outcome is = elim (is_memory fault.kind) [
  | inl memory ↦ inl memory
  | inr other ↦ inr (one_outcome inverses bytes outcome (Err fault) is (told other))
]
