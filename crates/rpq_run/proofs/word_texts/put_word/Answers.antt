use Rattle.std.proofs.Common.{◌≡◌, ℕ, ◌-◌, ◌≤◌, List, ◌∷◌, ◌++◌, length, get_or, take, drop, ap}
use Rattle.std.proofs.Common.{sym, ◌∙◌, rules, arith}
use Rattle.std.specs.List.{flat_map}
use Rattle.std.proofs.lemmas.List.{take_all, length-drop}
use Rattle.rpq_base.specs.declared.data.Label.{Label}
use Rattle.path_syntax.specs.Written.{written_label}
use Rattle.path_syntax.proofs.Words.{written_parts}
use Rattle.rpq_text.specs.WordTexts.{slashed_label, spaced_word}
use Rattle.rpq_run.proofs.ErrorTexts.{tells_as, tells_failed, tells_then}
use Rattle.rpq_run.proofs.word_texts.put_word.Goals as goal

-- a word behind a space, by its first label and the others
in_parts : (word : List Label) (first : Label) → 1 ≤ length word → first ≡ get_or word 0 first
    → (32 ∷ written_label first) ++ flat_map slashed_label (take (length word - 1) (drop 1 word)) ≡ spaced_word word
in_parts word first some is =
    ap (λ (labels : List Label). (32 ∷ written_label first) ++ flat_map slashed_label labels)
    (take_all (length word - 1) (drop 1 word) (omega (arith, length-drop 1 word)))
    ∙ ap (λ (text : List ℕ). 32 ∷ text) (sym (written_parts word first some is))

pub returns-in_err-put_label : goal.returns-in_err-put_label
returns-in_err-put_label g c =
    let word = c.args.word.now in
    tells_as (in_parts word c.first-item.result c.in-len1-up.len_at_least c.first-item.is)
    (tells_failed (flat_map slashed_label (take (length word - 1) (drop 1 word))) (search rules)
    c.in_err-put_label.ensures)

pub returns : goal.returns
returns g c =
    tells_as (in_parts c.args.word.now c.first-item.result c.in-len1-up.len_at_least c.first-item.is)
    (tells_then c.in_ok-put_label.ensures c.put_slashed.ensures)
