use Rattle.std.proofs.Common.{◌≡◌, ◌↔◌, ℕ, ◌<◌, ◌≤◌, inl, inr, List, Result, Ok, Err, refl, sym, ap, subst, ◌∙◌}
use Rattle.std.specs.Prelude.{Contains}
use Rattle.std.proofs.lemmas.Bool.{cases_lt}
use Rattle.rpq_base.specs.declared.data.Label.{Label}
use Rattle.rpq_base.proofs.Outcomes.{handed_on}
use Rattle.path_syntax.specs.Expression.{expression}
use Rattle.path_syntax.specs.Size.{atoms}
use Rattle.dfa_build.specs.declared.fault.BuildFault.{BuildFault}
use Rattle.dfa_build.specs.declared.fault.BuildFault.TheVariants.{TooManyLabels, TooManyStates}
use Rattle.query_file.proofs.ManySets.{needs_many}
use Rattle.query_file.proofs.automaton.automaton_of.Goals as goal

few_from : {T : Type 0} (result : Result T BuildFault) (answer : T) (number : ℕ) → result ≡ Ok answer → ((n : ℕ) → (result ≡ Err (TooManyLabels n)) ↔ ((n ≡ number) × (64 < n))) → number ≤ 64
few_from result answer number ok many = elim (cases_lt 64 number) [
  | inl more ↦ let e = (many number).1 (refl, more) in let both = sym ok ∙ e in absurd (cc both)
  | inr few ↦ few
]

pub returns-in_err-positions-clause-labels_fault : goal.returns-in_err-positions-clause-labels_fault
returns-in_err-positions-clause-labels_fault c = λ n is.
    let same = handed_on c.from_residual.result c.in_err-positions.field-0.0 (TooManyLabels n) c.from_residual.ensures.1 is in
    let both = (c.in_err-positions.ensures.too_many n).0 (ap (λ (f : BuildFault). Err f) same) in
    (sym both.0, both.1)

pub returns-in_err-dfa-clause-states_fault : goal.returns-in_err-dfa-clause-states_fault
returns-in_err-dfa-clause-states_fault c = λ is.
    let same = handed_on c.from_residual-in_err-dfa.result c.in_err-dfa.field-0.0 TooManyStates c.from_residual-in_err-dfa.ensures.1 is in (
      few_from c.positions.result c.in_ok-positions.positions (atoms (expression c.args.expr.now)) c.in_ok-positions.was c.positions.ensures.too_many,
      (
        c.in_ok-positions.positions,
        c.in_ok-positions.ensures.automaton,
        c.in_err-dfa.ensures.many (ap (λ (f : BuildFault). Err f) same),
      ),
    )

pub minimize-requires : goal.minimize-requires
minimize-requires c =
    let has = c.each_has_a_word.ensures (expression c.args.expr.now) in
    (has.0, (c.in_ok-dfa.ensures.automaton.accepts has.0).1 ((c.in_ok-positions.ensures.accepts has.0).1 has.1))

pub returns-clause-accepts : goal.returns-clause-accepts
returns-clause-accepts c = λ word. (
  λ accepts. (c.in_ok-positions.ensures.accepts word).0
      ((c.in_ok-dfa.ensures.automaton.accepts word).0 ((c.in_ok-minimize.ensures.words word).0 accepts)),
  λ is. (c.in_ok-minimize.ensures.words word).1
      ((c.in_ok-dfa.ensures.automaton.accepts word).1 ((c.in_ok-positions.ensures.accepts word).1 is)),
)

pub returns-clause-labels : goal.returns-clause-labels
returns-clause-labels c = λ label.
    let of_table = c.in_ok-dfa.ensures.automaton.labels label in
    let same = c.in_ok-minimize.ensures.labels in
    let atoms = c.in_ok-positions.ensures.automaton.labels in (
      λ has. subst (λ (ls : List Label). Contains ls label) atoms (of_table.0 (subst (λ (ls : List Label). Contains ls label) same has)),
      λ has. subst (λ (ls : List Label). Contains ls label) (sym same) (of_table.1 (subst (λ (ls : List Label). Contains ls label) (sym atoms) has)),
    )

pub returns-clause-few_labels : goal.returns-clause-few_labels
returns-clause-few_labels c = few_from c.positions.result c.in_ok-positions.positions (atoms (expression c.args.expr.now)) c.in_ok-positions.was c.positions.ensures.too_many

pub returns-clause-few_states : goal.returns-clause-few_states
returns-clause-few_states c =
    needs_many (expression c.args.expr.now) c.in_ok-positions.positions c.in_ok-positions.ensures.automaton c.in_ok-dfa.ensures.few
