use Rattle.std.proofs.Common.{rules, tests}
use Rattle.indexmap.proofs.CallerLemmas.{filter-RetainsPairs}
use Rattle.path_witness.proofs.Forgetting.{row_lasts, past_forgotten}
use Rattle.path_witness.proofs.edge_marks.forget_past.Goals as goal

pub returns-then-len-gt0 : goal.returns-then-len-gt0
returns-then-len-gt0 c =
    past_forgotten c.args.now c.args.rows.now.entries c.retain.new.self.entries c.len.ensures.unique
    (filter-RetainsPairs _ (row_lasts c.args.now) _ (λ k v b x f call. search (rules, tests)) _ _ c.retain.ensures.filtered)
