use Rattle.std.proofs.Common.{◌∙◌, ◌≡◌, ap, map, option_map, rules, List, [], Bor}
use Rattle.std.specs.Prelude.{unwrap_or, Option, Some, None, refl}
use Rattle.clap.specs.Walk.{Text}
use Rattle.clap.specs.Matches.{found_of}
use Rattle.clap.proofs.WalkLemmas.{raw_values-rows}
use Rattle.rpq_words.proofs.matches.all_of.Goals as goal

abbrev values : List (Bor Text) → List Text
values = map (λ text. text.now)

values_or_none : (found : Option (Bor (List (Bor Text)))) (none : Bor (List (Bor Text))) →
    none.now ≡ [] → values (unwrap_or found none).now
    ≡ unwrap_or (option_map (λ list. values list.now) found) []
values_or_none (Some list) none empty = refl
values_or_none None none empty = ap values empty

pub returns : goal.returns
returns c =
    ap (λ list. values list.now) c.unwrap_or.ensures
    ∙ values_or_none c.get_strs.result _ (search rules)
    ∙ ap (λ list. unwrap_or list [])
    (c.get_strs.ensures ∙ raw_values-rows (found_of c.args.matches.now) c.args.name.now)
