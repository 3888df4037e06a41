-- Answers by simple paths and by all paths.
use Rattle.std.proofs.Common.{List}
use Rattle.rpq_base.specs.declared.data.Label.{Label}
use Rattle.rpq_base.specs.declared.data.Edge.{Edge}
use Rattle.rpq_base.specs.declared.data.Pair.{Pair}
use Rattle.rpq_model.specs.declared.mode.Mode.TheVariants.{Arbitrary, Simple}
use Rattle.rpq_model.specs.Window.{edges_at}
use Rattle.rpq_model.specs.Answers.{IsJoinedBy}
use Rattle.containment_laws.specs.SimplePaths.{ContainedAnswersAgree}
use Rattle.containment_laws.proofs.Shortened.{contained_suffices}

-- a simple path is a path
joined_anyhow : (edges : List Edge) (language : List Label → Type 0) (pair : Pair) →
    IsJoinedBy edges language Simple pair → IsJoinedBy edges language Arbitrary pair
joined_anyhow edges language pair joined =
    (joined.0, record { leads = joined.1.leads; word = joined.1.word; taken = record {} })

pub answers_agree : (language : List Label → Type 0) → ContainedAnswersAgree language
answers_agree language contained window now entries pair apart =
    let edges = edges_at window now entries in (
      joined_anyhow edges language pair,
      (λ joined. contained_suffices language contained edges pair apart joined),
    )
