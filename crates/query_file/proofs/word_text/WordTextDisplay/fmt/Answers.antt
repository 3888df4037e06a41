use Rattle.std.proofs.Common.{◌∷◌, ◌++◌, ◌-◌, List, length, drop, refl, sym, ap, subst, ◌∙◌, arith}
use Rattle.std.specs.Prelude.{IsOk}
use Rattle.std.specs.List.{flat_map}
use Rattle.std.proofs.Output.{has_written_append, has_written_of_eq}
use Rattle.std.proofs.lemmas.List.{take_all, length-drop}
use Rattle.rpq_base.specs.declared.data.Label.{Label}
use Rattle.path_syntax.specs.Written.{written_label, written_word}
use Rattle.path_syntax.proofs.Words.{written_parts}
use Rattle.query_file.proofs.word_text.WordTextDisplay.fmt.Goals as goal

pub returns-clause-writes : goal.returns-clause-writes
returns-clause-writes g c = λ plain ok.
    let word : List Label = c.as_slice.result.now in
    let first : Label = c.first-item.result in
    let whole = c.as_slice.ensures.value ∙ c.word.view_is in
    let begun = c.write_label.ensures plain (subst IsOk (sym c.in_ok-write_label.was) refl) in
    let rest = take_all (length word - 1) (drop 1 word) (omega (arith, length-drop 1 word)) in
    let same =
    ap (λ (labels : List Label). written_label first ++ flat_map (λ label. 47 ∷ written_label label) labels) rest
    ∙ (sym (written_parts word first c.in-len1-up.len_at_least c.first-item.is) ∙ ap written_word whole) in
    has_written_of_eq _ _ _ _ _ same (has_written_append _ _ _ _ _ _ begun (c.write_rest.ensures begun.plain ok))
