use Rattle.std.proofs.Common.{refl}
use Rattle.std.proofs.lemmas.Bool.{false≢true}
use Rattle.rpq_base.specs.declared.data.Act.TheVariants.{Insert, Delete, Tick}
use Rattle.rpq_base.proofs.Derived.{labels, edges, inserts, deletes, tuples, entries, events}
use Rattle.rpq_base.proofs.laws.equality_is_exact.Goals as goal

pub returns-clause-labels : goal.returns-clause-labels
returns-clause-labels c = labels

pub returns-clause-edges : goal.returns-clause-edges
returns-clause-edges c = edges

pub returns-clause-acts : goal.returns-clause-acts
returns-clause-acts c = elim [
  | Insert edge until ↦ elim [
    | Insert other end ↦ inserts edge other until end _ (edges edge other)
    | Delete other ↦ (λ e. absurd (false≢true e), λ e. cc)
    | Tick ↦ (λ e. absurd (false≢true e), λ e. cc)
  ]
  | Delete edge ↦ elim [
    | Insert other end ↦ (λ e. absurd (false≢true e), λ e. cc)
    | Delete other ↦ deletes edge other _ (edges edge other)
    | Tick ↦ (λ e. absurd (false≢true e), λ e. cc)
  ]
  | Tick ↦ elim [
    | Insert other end ↦ (λ e. absurd (false≢true e), λ e. cc)
    | Delete other ↦ (λ e. absurd (false≢true e), λ e. cc)
    | Tick ↦ (λ e. refl, λ e. refl)
  ]
]

pub returns-clause-tuples : goal.returns-clause-tuples
returns-clause-tuples c first second = tuples first second _ (returns-clause-acts c first.act second.act)

pub returns-clause-entries : goal.returns-clause-entries
returns-clause-entries c first second = entries first second _ (returns-clause-tuples c first.tuple second.tuple)

pub returns-clause-events : goal.returns-clause-events
returns-clause-events c = events
