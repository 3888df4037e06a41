-- The files of readers, two texts for each.
use Rattle.std.proofs.Common.{arith, ◌≡◌, ◌<◌, false, refl, List, [], ◌∷◌, ◌++◌, length, map, Bor}
use Rattle.std.proofs.Common.{None, ap, ◌∙◌}
use Rattle.std.specs.Prelude.{◌==◌, option_map}
use Rattle.clap.specs.Walk.{Text}
use Rattle.rpq_words.specs.declared.reader_names.ReaderFiles.{ReaderFiles}
use Rattle.rpq_words.specs.Found.{paired}

one_alone : (rest : List (Bor Text)) → length rest < 2 → (length rest == 0) ≡ false
    → paired (map (λ text. text.now) rest) ≡ None
unfolding paired
one_alone [] few some = absurd cc
one_alone (asks ∷ []) few some = refl
one_alone (asks ∷ replies ∷ rest) few some = absurd (omega (arith, few))

-- where one text is left there are no readers
pub one_left : (texts rest : List (Bor Text)) (readers : List ReaderFiles)
    → paired (map (λ text. text.now) texts)
    ≡ option_map (λ more. readers ++ more) (paired (map (λ text. text.now) rest))
    → length rest < 2 → (length rest == 0) ≡ false → paired (map (λ text. text.now) texts) ≡ None
one_left texts rest readers is few some =
    is ∙ ap (option_map (λ more. readers ++ more)) (one_alone rest few some)
