use Rattle.std.proofs.Common.{◌≡◌, ◌++◌, List, ℕ, ap, ◌∙◌, sym, drop, take, length, ◌-◌}
use Rattle.std.specs.List.{flat_map}
use Rattle.path_syntax.specs.Written.{written_label}
use Rattle.path_syntax.proofs.Words.{behind_slash, written_parts, all_but_first}
use Rattle.path_syntax.proofs.label_text.write_word.Goals as goal

pub returns : goal.returns
returns c =
    let word = c.args.word.now in
    let first : List ℕ = written_label c.first-item.result in
    let parts = written_parts word c.first-item.result c.in-len1-up.len_at_least c.first-item.is in
    let begun : c.push_label.new.text.items ≡ first = c.in_ok-push_label.ensures.text ∙ ap (λ (text : List ℕ). text ++ first) c.new-text.ensures.items in
    let rest = all_but_first word c.loop-label.label-index c.loop-label-test.false in
    c.loop-label.invariant ∙ ap (λ (text : List ℕ). text ++ flat_map behind_slash (take c.loop-label.label-index (take (length word - 1) (drop 1 word)))) begun
    ∙ ap (λ labels. first ++ flat_map behind_slash labels) rest ∙ sym parts
