-- The faults with which the reader of a line ends.
use Rattle.std.proofs.Common.{Bool, ◌≡◌, ◌≢◌, ℕ, ◌<◌, ◌≤◌, ◌⊎◌, inl, inr, List, Option, Some, None, Result, Ok, Err, refl, sym, subst, ◌∙◌}
use Rattle.std.specs.Prelude.{IfErr, IsNone, IsSome}
use Rattle.std.specs.Result.{IsErrAnd}
use Rattle.std.proofs.lemmas.Bool.{false≢true}
use Rattle.path_syntax.specs.Expression.{Expression}
use Rattle.path_syntax.specs.Faults.{IsOutcomeOf}
use Rattle.path_syntax.specs.Size.{atoms}
use Rattle.path_syntax.specs.declared.read.BadExpr.{BadExpr}
use Rattle.path_syntax.specs.declared.read.BadExpr.TheVariants as bad
use Rattle.dfa_build.specs.declared.fault.BuildFault.{BuildFault}
use Rattle.dfa_build.specs.declared.fault.BuildFault.TheVariants as build
use Rattle.dfa_table.specs.DfaValue.{DfaValue}
use Rattle.dfa_table.specs.Runs.{Accepts}
use Rattle.containment_test.specs.declared.verdict.Verdict.TheVariants.{No}
use Rattle.rpq_model.specs.Query.{Query}
use Rattle.query_file.specs.Compiled.{IsAutomatonOf}
use Rattle.query_file.specs.declared.fault.QueryKind.{QueryKind}
use Rattle.query_file.specs.declared.fault.QueryKind.TheVariants.{Shape, Number, Twice, TooMany, NoQuery, Expr, TooManyLabels, TooManyStates, NotContained, Memory}
use Rattle.query_file.specs.InOrder.{IsTaken, HasLengths, HasRoom, HasExpression, HasFewStates, IsFirstInOrder}
use Rattle.query_file.specs.Kinds.{kind_of_expr, kind_of_build}
use Rattle.query_file.specs.Places.{HasNoPlace, IsRefusedBy}
use Rattle.query_file.specs.QueryLine.{LineParts, HasParts, length_of, NeedsManyStates}
use Rattle.query_file.proofs.Verdicts.{verdict_on_query}

-- what holds of an error that is handed on
pub err_out : {T E : Type 0} (result : Result T E) (fault : E) (P : E → Type 0) → IsErrAnd result (λ handed. handed ≡ fault) → P fault → IfErr result P
err_out (Ok x) fault P hands p = tt
err_out (Err e) fault P hands p = subst P (sym hands) p

some_length : (text : List ℕ) (time : ℕ) → length_of text ≡ Some time → IsSome (length_of text)
some_length text time is = subst IsSome (sym is) refl

-- two lengths of time
pub lengths : (parts : LineParts) (size slide : ℕ) → length_of parts.size ≡ Some size → length_of parts.slide ≡ Some slide → HasLengths parts
lengths parts size slide first second =
    record { size = some_length parts.size size first; slide = some_length parts.slide slide second }

none_or_some : {X : Type 0} (found : Option X) → IsNone found → IsSome found → ⊥
none_or_some None none some = absurd (false≢true some)
none_or_some (Some x) none some = absurd (false≢true (sym none))

-- one of two isn't one
pub no_lengths : (parts : LineParts) → IsNone (length_of parts.size) ⊎ IsNone (length_of parts.slide) → HasLengths parts → ⊥
no_lengths parts (inl none) has = none_or_some (length_of parts.size) none has.size
no_lengths parts (inr none) has = none_or_some (length_of parts.slide) none has.slide

-- no place for a query of the name
pub no_place : (inverses : Bool) (before : List Query) (line : List ℕ) (parts : LineParts) → HasParts line parts → HasLengths parts → (kind : QueryKind) →
    HasNoPlace before parts.name kind → kind ≢ Memory → IsFirstInOrder inverses before line kind
no_place inverses before line parts has long Shape none other = absurd none
no_place inverses before line parts has long Number none other = absurd none
no_place inverses before line parts has long (Twice name) none other =
    (parts, has, (long, sym none.0, subst (IsTaken before) (sym none.0) none.1))
no_place inverses before line parts has long TooMany none other = (parts, has, (record { lengths = long; new = none.0 }, none.1))
no_place inverses before line parts has long NoQuery none other = absurd none
no_place inverses before line parts has long (Expr fault) none other = absurd none
no_place inverses before line parts has long (TooManyLabels count) none other = absurd none
no_place inverses before line parts has long TooManyStates none other = absurd none
no_place inverses before line parts has long (NotContained p q w) none other = absurd none
no_place inverses before line parts has long Memory none other = absurd (other refl)

-- a fault of the expression
pub no_expression : (inverses : Bool) (before : List Query) (line : List ℕ) (parts : LineParts) → HasParts line parts → HasRoom before parts → (fault : BadExpr) →
    (fault ≢ bad.Memory → IsOutcomeOf inverses parts.expr (Err fault)) → kind_of_expr fault ≢ Memory → IsFirstInOrder inverses before line (kind_of_expr fault)
no_expression inverses before line parts has room (bad.Unexpected at) outcome other = (parts, has, (room, outcome (λ e. absurd cc)))
no_expression inverses before line parts has room bad.Ended outcome other = (parts, has, (room, outcome (λ e. absurd cc)))
no_expression inverses before line parts has room bad.TooLarge outcome other = (parts, has, (room, outcome (λ e. absurd cc)))
no_expression inverses before line parts has room (bad.LongName at) outcome other = (parts, has, (room, outcome (λ e. absurd cc)))
no_expression inverses before line parts has room bad.Memory outcome other = absurd (other refl)

-- no automaton
pub no_automaton : (inverses : Bool) {T : Type 0} (before : List Query) (line : List ℕ) (parts : LineParts) (e : Expression) → HasParts line parts → HasExpression inverses before parts e →
    (result : Result T BuildFault) (fault : BuildFault) → result ≡ Err fault →
    ((n : ℕ) → result ≡ Err (build.TooManyLabels n) → (atoms e ≡ n) × (64 < n)) →
    (result ≡ Err build.TooManyStates → (atoms e ≤ 64) × NeedsManyStates e) →
    kind_of_build fault ≢ Memory → IsFirstInOrder inverses before line (kind_of_build fault)
no_automaton inverses before line parts e has expression result (build.TooManyLabels n) is labels states other =
    let both = labels n is in (parts, has, (e, expression, both.0, both.1))
no_automaton inverses before line parts e has expression result build.TooManyStates is labels states other =
    let both = states is in (parts, has, (e, record { expression = expression; few = both.0 }, both.1))
no_automaton inverses before line parts e has expression result build.Memory is labels states other = absurd (other refl)

-- a language that isn't contained
pub not_contained : (inverses : Bool) (before : List Query) (line : List ℕ) (parts : LineParts) (query : Query) (dfa : DfaValue) → HasParts line parts →
    HasFewStates inverses before parts query.expr → query.mode ≡ parts.mode → IsAutomatonOf query dfa → (kind : QueryKind) →
    IsRefusedBy (Accepts dfa) query.mode kind → kind ≢ Memory → IsFirstInOrder inverses before line kind
not_contained inverses before line parts query dfa has states mode is Shape refused other = absurd refused
not_contained inverses before line parts query dfa has states mode is Number refused other = absurd refused
not_contained inverses before line parts query dfa has states mode is (Twice name) refused other = absurd refused
not_contained inverses before line parts query dfa has states mode is TooMany refused other = absurd refused
not_contained inverses before line parts query dfa has states mode is NoQuery refused other = absurd refused
not_contained inverses before line parts query dfa has states mode is (Expr fault) refused other = absurd refused
not_contained inverses before line parts query dfa has states mode is (TooManyLabels count) refused other = absurd refused
not_contained inverses before line parts query dfa has states mode is TooManyStates refused other = absurd refused
not_contained inverses before line parts query dfa has states mode is (NotContained p q w) refused other =
    (parts, has, (query.expr, states, sym mode ∙ refused.0, verdict_on_query query dfa (No p q w) is refused.1))
not_contained inverses before line parts query dfa has states mode is Memory refused other = absurd (other refl)
