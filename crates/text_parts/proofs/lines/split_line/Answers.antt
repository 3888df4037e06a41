use Rattle.std.proofs.Common.{refl, ◌∷◌, sym, ap, ◌∙◌, inl, inr, arith}
use Rattle.std.proofs.lemmas.Bool.Decides.{nat_tests}
use Rattle.std.proofs.lemmas.List.{nil_from_length}
use Rattle.text_parts.specs.Lines.{raw_lines}
use Rattle.text_parts.proofs.Cuts.{raw_lines_nil, raw_lines_at, raw_lines_only, cut_at, line_at, none_past}
use Rattle.text_parts.proofs.lines.split_line.Goals as goal

pub returns-then-is_empty-clause-end : goal.returns-then-is_empty-clause-end
returns-then-is_empty-clause-end c = ap raw_lines (nil_from_length c.args.text.now (grind (arith, nat_tests))) ∙ raw_lines_nil

pub returns-in-Some-clause-cut : goal.returns-in-Some-clause-cut
returns-in-Some-clause-cut c =
    let place = sym c.in-Some.ensures.first in
    record { whole = line_at c.args.text.now c.in-Some.end place; joined = inl (cut_at c.args.text.now c.in-Some.end place) }

pub returns-in-None-clause-cut : goal.returns-in-None-clause-cut
returns-in-None-clause-cut c = record { whole = c.in-None.ensures.none; joined = inr (refl, none_past c.args.text.now) }

pub returns-in-Some-clause-first : goal.returns-in-Some-clause-first
returns-in-Some-clause-first c = raw_lines_at c.args.text.now c.in-Some.end (sym c.in-Some.ensures.first)

pub returns-in-None-clause-first : goal.returns-in-None-clause-first
returns-in-None-clause-first c =
    let text = c.args.text.now in
    raw_lines_only text c.in-None.ensures.none (grind (arith, nat_tests))
    ∙ ap (λ lines. text ∷ lines) (sym (ap raw_lines (none_past text) ∙ raw_lines_nil))
