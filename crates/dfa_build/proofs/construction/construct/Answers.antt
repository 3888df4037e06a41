-- The lists are those of the sets that the construction leaves.
use Rattle.std.proofs.Common.{◌≡◌, ◌<◌, ◌||◌, ℕ, ◌++◌, map, take, ap, ◌∙◌, zero-add, arith}
use Rattle.path_syntax.specs.Expression.{expression}
use Rattle.path_syntax.specs.Size.{atoms}
use Rattle.dfa_build.specs.Construction.{is_first, is_last, is_next}
use Rattle.dfa_build.specs.Marked.{labels_of}
use Rattle.dfa_build.specs.PositionSet.{has, row_has, numbers}
use Rattle.dfa_build.proofs.Rows.{row_has-empty, numbers_agree, rows_are}
use Rattle.dfa_build.proofs.construction.construct.Goals as goal

pub returns : goal.returns
returns c =
    let e = expression c.args.expr.now in
    let ends = c.connect-ends.ensures.ends in
    let rows = c.connect-ends.new.follow in
    let each : (p q : ℕ) → p < atoms e → row_has rows p q ≡ is_next e 0 p q = λ p q h.
    c.connect-ends.ensures.follow p q (omega arith) ∙ ap (λ b. b || is_next e 0 p q) (row_has-empty 64 p q c.empty-follow.result c.empty-follow.ensures (omega arith)) in
    let listed = rows_are e rows (atoms e) (omega arith) each in
    record {
      labels = c.in_ok-push_labels.ensures ∙ ap (λ before. before ++ labels_of e) c.new-atoms.ensures.items;
      first = c.in_ok-list.ensures ∙ numbers_agree (has c.connect-ends.result.first) (is_first e 0) ends.first;
      last = c.in_ok-list-2.ensures ∙ numbers_agree (has c.connect-ends.result.last) (is_last e 0) ends.last;
      follow = c.in_ok-rows.ensures ∙ ap (λ n. map (λ set. numbers (has set)) (take n rows)) (ends.next ∙ zero-add (atoms e)) ∙ listed;
    }
