-- A run, step by step.
use Rattle.std.proofs.Common.{List, [], ◌∷◌, ◌++◌, refl, arith}
use Rattle.history_model.specs.declared.line.Why.TheVariants.{Write}
use Rattle.history_model.specs.declared.line.Line.{Line}
use Rattle.history_model.specs.Lines.{append_line, end_line, publish_line, shut_line}
use Rattle.history_model.specs.Examples.{tick}
use Rattle.history_model.specs.RunExample.{RunExample}
use Rattle.history_model.proofs.Examples.{is_going, legal_from_test}

abbrev appended : List Line
appended = append_line 2 (tick 8) ∷ append_line 1 (tick 7) ∷ []

abbrev published_once : List Line
published_once = appended ++ publish_line 1 ∷ []

abbrev published_twice : List Line
published_twice = published_once ++ publish_line 2 ∷ []

pub run_example : RunExample
run_example queries events others brings next_brings = record {
  allowed = (
    legal_from_test 2 2 (append_line 2 (tick 8) ∷ []) refl,
    (
      legal_from_test 2 2 appended refl,
      (
        (is_going appended refl, record { entry = refl; events = brings }),
        (
          (is_going appended refl, omega arith),
          (
            tt,
            (
              (is_going published_once refl, record { entry = refl; events = next_brings }),
              (
                (is_going published_once refl, omega arith),
                (
                  tt,
                  (
                    legal_from_test 2 2 (published_twice ++ end_line 2 ∷ []) refl,
                    (
                      legal_from_test 2 2 (published_twice ++ end_line 2 ∷ shut_line Write ∷ []) refl,
                      (legal_from_test 2 2 (published_twice ++ end_line 2 ∷ shut_line Write ∷ end_line 1 ∷ []) refl, tt),
                    ),
                  ),
                ),
              ),
            ),
          ),
        ),
      ),
    ),
  );
  world = record { lines = refl; fed = refl; kept = refl; shown = refl; early = refl; late = refl; never = refl; blocks = refl };
}
