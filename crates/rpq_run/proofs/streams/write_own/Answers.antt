use Rattle.std.proofs.Common.{◌∙◌, List, sym, subst}
use Rattle.std.specs.Prelude.{All}
use Rattle.rpq_base.specs.Plain.{IsPlain}
use Rattle.rpq_base.specs.declared.data.Entry.{Entry}
use Rattle.rpq_run.proofs.Windows.{wanted_quiet}
use Rattle.rpq_run.proofs.streams.write_own.Goals as goal

pub save_window-saved-requires : goal.save_window-saved-requires
save_window-saved-requires g c = λ wanted.
    let threads = c.args.outcome.now in
    subst (λ (left : List Entry). All IsPlain left) (sym c.entries_left.ensures)
    (c.requires.plain (wanted_quiet threads.why threads.short_of_memory c.deref-2.result.now
    c.write_replies-replied.result (sym c.can_save-wanted.ensures ∙ wanted)))
