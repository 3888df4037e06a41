use Rattle.std.proofs.Common.{◌≡◌, ℕ, length, map, sym, ap, subst, ◌∙◌, rules}
use Rattle.std.specs.List.{All}
use Rattle.std.proofs.lemmas.List.{length-map}
use Rattle.join_file.specs.Sound.{IsSound}
use Rattle.query_file.specs.Compiled.{CompiledValue}
use Rattle.entry_steps.proofs.evaluator.Evaluator.new.Goals as goal

pub joins_of-requires-clause-sound : goal.joins_of-requires-clause-sound
joins_of-requires-clause-sound g c =
    let def = λ (each : CompiledValue). each.def in
    let slice : c.deref-2.result.now ≡ map def c.args.queries.items = search rules in
    subst (λ (n : ℕ). All (IsSound n) c.args.options.joins)
    (sym (ap length slice ∙ length-map c.args.queries.items def)) c.requires.sound
