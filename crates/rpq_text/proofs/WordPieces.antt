-- Lines that are written in pieces, as their definitions have them.
use Rattle.std.proofs.Common.{◌≡◌, ℕ, List, [], ◌∷◌, ◌++◌, refl, ap, sym, ◌∙◌, append_assoc}
use Rattle.std.specs.Prelude.{codes, decimal}
use Rattle.rpq_base.specs.declared.data.Label.{Label}
use Rattle.path_syntax.specs.Written.{written_word}
use Rattle.containment_test.specs.declared.verdict.Verdict.{Verdict}
use Rattle.containment_test.specs.declared.verdict.Verdict.TheVariants.{Yes, No}
use Rattle.query_file.specs.FaultTexts.{query_kind_text}
use Rattle.query_file.specs.declared.fault.QueryKind.TheVariants.{NotContained}
use Rattle.rpq_model.specs.Query.{Query}
use Rattle.rpq_text.specs.ErrorLines.{query_text}
use Rattle.rpq_text.specs.Verdicts.{mode_word, verdict_text, verdict_line}
use Rattle.rpq_text.specs.WordTexts.{words_at_end, verdict_at_end, verdict_front}
use Rattle.rpq_text.specs.WordTexts.{not_contained_front}

-- three texts with a space before the second and the third, one after another
spread : (a b c end : List ℕ) → (a ++ (32 ∷ (b ++ (32 ∷ (c ++ []))))) ++ end ≡ a ++ (32 ∷ (b ++ (32 ∷ (c ++ end))))
spread a b c end =
    append_assoc a (32 ∷ (b ++ (32 ∷ (c ++ [])))) end
    ∙ ap (λ (t : List ℕ). a ++ (32 ∷ t)) (append_assoc b (32 ∷ (c ++ [])) end
    ∙ ap (λ (t : List ℕ). b ++ (32 ∷ t)) (append_assoc c [] end))

gather : (a b c end : List ℕ) → ((((a ++ codes " ") ++ b) ++ codes " ") ++ c) ++ end
    ≡ a ++ (32 ∷ (b ++ (32 ∷ (c ++ end))))
gather a b c end =
    append_assoc (((a ++ codes " ") ++ b) ++ codes " ") c end
    ∙ (append_assoc ((a ++ codes " ") ++ b) (codes " ") (c ++ end)
    ∙ (append_assoc (a ++ codes " ") b (32 ∷ (c ++ end))
    ∙ append_assoc a (codes " ") (b ++ (32 ∷ (c ++ end)))))

-- the line on a query whose language isn't contained
pub not_contained_line : (line : ℕ) (p q w : List Label)
    → not_contained_front line ++ words_at_end (p ∷ q ∷ w ∷ []) ≡ query_text line (query_kind_text (NotContained p q w))
unfolding query_text
not_contained_line line p q w =
    let first = written_word p in
    let second = written_word q in
    let third = written_word w in
    ap (λ (t : List ℕ). codes "rpq: queries line " ++ t)
    (append_assoc (decimal line) (codes ": not contained") (words_at_end (p ∷ q ∷ w ∷ []))
    ∙ ap (λ (t : List ℕ). decimal line ++ t)
    (ap (λ (t : List ℕ). codes ": not contained " ++ t) (spread first second third (codes "\n"))
    ∙ sym (ap (λ (t : List ℕ). codes ": " ++ t)
    (gather (codes "not contained " ++ first) second third (codes "\n")))))

-- eight texts, one after another
eight : (a b c d e f g h : List ℕ) → ((((((a ++ b) ++ c) ++ d) ++ e) ++ f) ++ g) ++ h
    ≡ a ++ ((b ++ (c ++ (d ++ e))) ++ (f ++ (g ++ h)))
eight a b c d e f g h = simp append_assoc

-- a verdict and the line's end
at_end : (verdict : Verdict) → codes " " ++ (verdict_text verdict ++ codes "\n") ≡ verdict_at_end verdict
at_end Yes = refl
at_end (No p q w) =
    ap (λ (t : List ℕ). codes " " ++ t)
    (gather (codes "no " ++ written_word p) (written_word q) (written_word w) (codes "\n"))
    ∙ sym (ap (λ (t : List ℕ). codes " no " ++ t)
    (spread (written_word p) (written_word q) (written_word w) (codes "\n")))

-- the line of a query
pub verdict_in_parts : (query : Query) (count : ℕ) (verdict : Verdict)
    → query.name ++ (verdict_front query.mode count ++ verdict_at_end verdict) ≡ verdict_line query count verdict
verdict_in_parts query count verdict =
    ap (λ (t : List ℕ). query.name ++ (verdict_front query.mode count ++ t)) (sym (at_end verdict))
    ∙ sym (eight query.name (codes " ") (mode_word query.mode) (codes " states ") (decimal count) (codes " ")
    (verdict_text verdict) (codes "\n"))
