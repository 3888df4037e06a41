use Rattle.std.proofs.Common.{Bool, ◌≡◌, ◌↔◌, ◌≤◌, List, sym, ap, subst, ◌∙◌}
use Rattle.std.specs.Prelude.{Contains}
use Rattle.rpq_base.specs.declared.data.Label.{Label}
use Rattle.path_syntax.specs.Expression.{Expression, expression}
use Rattle.path_syntax.specs.Size.{atoms}
use Rattle.rpq_model.specs.declared.mode.Mode.{Mode}
use Rattle.rpq_model.specs.Query.{Query}
use Rattle.dfa_table.specs.DfaValue.{DfaValue}
use Rattle.minimal_dfa.specs.Least.{IsLeast}
use Rattle.containment_test.specs.Verdict.{IsVerdict}
use Rattle.containment_test.specs.declared.verdict.Verdict.TheVariants.{Yes}
use Rattle.query_file.specs.Compiled.{IsAutomatonOf}
use Rattle.query_file.specs.Takes.{defs}
use Rattle.query_file.specs.InOrder.{HasExpression, HasFewStates}
use Rattle.query_file.specs.Places.{IsRefusedBy}
use Rattle.query_file.specs.QueryLine.{LineParts, NeedsManyStates}
use Rattle.dfa_table.specs.Runs.{Accepts}
use Rattle.path_syntax.specs.Language.{In}
use Rattle.path_syntax.specs.Laws.{nonempty}
use Rattle.dfa_build.specs.Marked.{labels_of}
use Rattle.query_file.specs.Kinds.{kind_of_build}
use Rattle.query_file.proofs.Exits.{err_out, no_automaton, not_contained}
use Rattle.query_file.proofs.Verdicts.{verdict_on_query}
use Rattle.query_file.proofs.query.read_query.Goals as goal

-- an automaton of an expression is one of a query with that expression
of_query : (query : Query) (e : Expression) (dfa : DfaValue) → e ≡ query.expr → ((word : List Label) → Accepts dfa word ↔ nonempty (In e) word) →
    ((label : Label) → Contains dfa.labels label ↔ Contains (labels_of e) label) → IsLeast dfa → IsAutomatonOf query dfa
of_query query e dfa same accepts labels least = record {
  accepts = subst (λ (f : Expression). (word : List Label) → Accepts dfa word ↔ nonempty (In f) word) same accepts;
  labels = subst (λ (f : Expression). (label : Label) → Contains dfa.labels label ↔ Contains (labels_of f) label) same labels;
  least = least;
}

-- its few labels and states are those of the query
few_of_query : (inverses : Bool) (before : List Query) (parts : LineParts) (query : Query) (e : Expression) → e ≡ query.expr → HasExpression inverses before parts query.expr →
    atoms e ≤ 64 → (NeedsManyStates e → ⊥) → HasFewStates inverses before parts query.expr
few_of_query inverses before parts query e same has labels states = record {
  labels = record { expression = has; few = subst (λ (f : Expression). atoms f ≤ 64) same labels };
  few = λ many. states (subst NeedsManyStates (sym same) many);
}

pub returns-in_err-dfa-clause-err : goal.returns-in_err-dfa-clause-err
returns-in_err-dfa-clause-err c =
    let is = c.in_ok-def.ensures.ok in
    let fault = c.in_err-dfa.field-0.0 in
    let same = sym (ap (λ (q : Query). q.expr) c.def.view_is) in
    err_out c.from_residual-in_err-dfa.result (kind_of_build fault) _ c.from_residual-in_err-dfa.ensures.1
    (no_automaton c.args.inverses (defs c.args.before.now) c.args.line.now is.parts (expression c.def.inside.expr) is.has
    (subst (HasExpression c.args.inverses (defs c.args.before.now) is.parts) same is.expression)
    c.automaton_of.result fault c.in_err-dfa.was c.automaton_of.ensures.labels_fault c.automaton_of.ensures.states_fault)

pub returns-in_err-verdict-clause-err : goal.returns-in_err-verdict-clause-err
returns-in_err-verdict-clause-err c =
    let before = defs c.args.before.now in
    let query : Query = c.in_ok-def.def in
    let is = c.in_ok-def.ensures.ok in
    let ok = c.in_ok-dfa.ensures in
    let kind = c.in_err-verdict.field-0.0 in
    let e = expression c.def.inside.expr in
    let same = ap (λ (q : Query). q.expr) c.def.view_is in
    err_out c.from_residual-in_err-verdict.result kind _ c.from_residual-in_err-verdict.ensures.1 (λ other.
    not_contained c.args.inverses before c.args.line.now is.parts query c.in_ok-dfa.dfa is.has (few_of_query c.args.inverses before is.parts query e same is.expression ok.few_labels ok.few_states) is.mode
    (of_query query e c.in_ok-dfa.dfa same ok.accepts ok.labels ok.least) kind
    (subst (λ (mode : Mode). IsRefusedBy (Accepts c.in_ok-dfa.dfa) mode kind) (ap (λ (q : Query). q.mode) c.def.view_is) (c.in_err-verdict.ensures.refused other)) other)

pub invariant_of-result : goal.invariant_of-result
invariant_of-result c =
    let is = c.in_ok-dfa.ensures in
    let verdict = c.in_ok-verdict.ensures in
    record {
      automaton = of_query c.in_ok-def.def (expression c.def.inside.expr) c.in_ok-dfa.dfa (ap (λ (q : Query). q.expr) c.def.view_is) is.accepts is.labels is.least;
      verdict = verdict.verdict;
      accepted = λ simple. verdict.accepted (ap (λ (q : Query). q.mode) c.def.view_is ∙ simple);
    }

pub returns-clause-compiled : goal.returns-clause-compiled
returns-clause-compiled c =
    let is = c.in_ok-dfa.ensures in
    let verdict = c.in_ok-verdict.ensures in
    record {
      automaton = of_query c.in_ok-def.def (expression c.def.inside.expr) c.in_ok-dfa.dfa (ap (λ (q : Query). q.expr) c.def.view_is) is.accepts is.labels is.least;
      verdict = verdict.verdict;
      accepted = λ simple. verdict.accepted (ap (λ (q : Query). q.mode) c.def.view_is ∙ simple);
    }

pub returns-clause-ok : goal.returns-clause-ok
returns-clause-ok c =
    let before = defs c.args.before.now in
    let query : Query = c.in_ok-def.def in
    let is = c.in_ok-def.ensures.ok in
    let ok = c.in_ok-dfa.ensures in
    let verdict = c.in_ok-verdict.ensures in
    let dfa : DfaValue = c.in_ok-dfa.dfa in
    let e = expression c.def.inside.expr in
    let same = ap (λ (q : Query). q.expr) c.def.view_is in
    record {
      parts = is.parts;
      has = is.has;
      states = few_of_query c.args.inverses before is.parts query e same is.expression ok.few_labels ok.few_states;
      contained = λ simple. verdict_on_query query dfa Yes (of_query query e dfa same ok.accepts ok.labels ok.least)
          (subst (IsVerdict (Accepts dfa)) (verdict.accepted (ap (λ (q : Query). q.mode) c.def.view_is ∙ (is.mode ∙ simple))) verdict.verdict);
      name = is.name;
      size = is.size;
      slide = is.slide;
      mode = is.mode;
    }
