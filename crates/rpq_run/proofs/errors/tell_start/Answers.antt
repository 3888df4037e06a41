use Rattle.std.proofs.Common.{List, ℕ, ◌++◌, ap, sym, ◌∙◌}
use Rattle.std.specs.Prelude.{codes}
use Rattle.rpq_text.specs.ErrorLines.{start_line}
use Rattle.rpq_run.proofs.ErrorTexts.{tells_as}
use Rattle.rpq_run.proofs.errors.tell_start.Goals as goal

pub returns-in-Words : goal.returns-in-Words
returns-in-Words g c =
    tells_as (c.line_of.ensures
    ∙ (ap (λ (t : List ℕ). codes "rpq: words\n" ++ (t ++ codes "\n")) c.usage_line.ensures
    ∙ ap start_line (sym c.in-Words.is))) c.put_line.ensures

pub returns-in-Open : goal.returns-in-Open
returns-in-Open g c =
    tells_as (c.opening_line.ensures ∙ ap start_line (sym c.in-Open.is)) c.put_line-in-Open.ensures

pub returns-in-Read : goal.returns-in-Read
returns-in-Read g c =
    tells_as (c.read_line.ensures ∙ ap start_line (sym c.in-Read.is)) c.put_line-in-Read.ensures

pub returns-in-Long : goal.returns-in-Long
returns-in-Long g c =
    tells_as (c.file_line.ensures ∙ ap start_line (sym c.in-Long.is)) c.put_line-in-Long.ensures

pub returns-in-Memory : goal.returns-in-Memory
returns-in-Memory g c =
    tells_as (c.line_of-in-Memory.ensures ∙ ap start_line (sym c.in-Memory.is))
    c.put_line-in-Memory.ensures
