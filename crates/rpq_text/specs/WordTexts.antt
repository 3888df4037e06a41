-- The parts of lines with verdicts and words in them, as they are written one after another.
use Rattle.std.specs.Prelude.{ℕ, List, [], ◌∷◌, ◌++◌, codes, decimal}
use Rattle.std.specs.List.{flat_map}
use Rattle.rpq_base.specs.declared.data.Label.{Label}
use Rattle.path_syntax.specs.Written.{written_label, written_word}
use Rattle.containment_test.specs.declared.verdict.Verdict.{Verdict}
use Rattle.containment_test.specs.declared.verdict.Verdict.TheVariants.{Yes, No}
use Rattle.rpq_model.specs.declared.mode.Mode.{Mode}
use Rattle.rpq_text.specs.Verdicts.{mode_word}

-- a label behind a slash
abbrev pub slashed_label : Label → List ℕ
slashed_label label = codes "/" ++ written_label label

-- a word behind a space
abbrev pub spaced_word : List Label → List ℕ
spaced_word word = codes " " ++ written_word word

-- words, each behind a space, and the line's end
abbrev pub words_at_end : List (List Label) → List ℕ
words_at_end words = flat_map spaced_word words ++ codes "\n"

-- a verdict behind a space, and the line's end
abbrev pub verdict_at_end : Verdict → List ℕ
verdict_at_end Yes = codes " yes\n"
verdict_at_end (No p q w) = codes " no" ++ words_at_end (p ∷ q ∷ w ∷ [])

-- what stands in a query's line between its name and the verdict
abbrev pub verdict_front : Mode → ℕ → List ℕ
verdict_front mode count = codes " " ++ (mode_word mode ++ (codes " states " ++ decimal count))

-- the line on a query whose language isn't contained, up to the words that show it
abbrev pub not_contained_front : ℕ → List ℕ
not_contained_front line = codes "rpq: queries line " ++ (decimal line ++ codes ": not contained")
