use Rattle.std.proofs.Common.{ℕ, List, max, fold, ap, sym, ◌∙◌}
use Rattle.std.proofs.lemmas.List.{take_all}
use Rattle.std.proofs.lemmas.List.Folds.{fold-map}
use Rattle.rpq_base.specs.declared.data.Entry.{Entry}
use Rattle.rpq_model.proofs.window.clock.Goals as goal

pub returns : goal.returns
returns c =
    let history = c.args.history.now in
    let later : ℕ → Entry → ℕ = λ latest entry. max latest entry.tuple.time in
    record {
      clock = c.loop-entry.invariant.0
          ∙ ap (λ (all : List Entry). fold later 0 all)
          (take_all c.loop-entry.entry-index history c.loop-entry-test.false)
          ∙ sym (fold-map max (λ (entry : Entry). entry.tuple.time) 0 history);
      to = c.loop-entry.invariant.1;
    }
