use Rattle.std.proofs.Common.{◌≡◌, ℕ, List, [], length, sym, ap, subst, ◌∙◌, arith}
use Rattle.std.specs.Prelude.{insert}
use Rattle.source_index.specs.Roots.{AddsRoot}
use Rattle.source_index.specs.VertexStorage.{many_of, states_of}
use Rattle.source_index.proofs.Keeping.{bare_of, none_of, put_first}
use Rattle.source_index.proofs.vertex.insert_at.Goals as goal

pub returns-then-is_empty-clause-inserted : goal.returns-then-is_empty-clause-inserted
returns-then-is_empty-clause-inserted c =
    let kept = c.args.kept.now in
    let bare : states_of kept ≡ [] =
    sym c.states_of.ensures
    ∙ bare_of c.states_of.result.now (sym c.is_empty.ensures ∙ c.if-is_empty.true) in
    let first : c.args.place ≡ 0 = omega (arith, c.requires.within, ap length bare) in
    record {
      roots = c.add.new.self;
      single = subst (λ (old : List ℕ). AddsRoot old c.add.new.self c.args.root)
          c.new-roots.ensures c.in_ok-add.ensures.added;
      states = put_first (states_of kept) c.args.place c.args.state bare first;
      many = put_first (many_of kept) c.args.place c.add.new.self
          (none_of (states_of kept) (many_of kept) c.requires.paired bare) first;
    }

pub returns-in_ok-put-clause-inserted : goal.returns-in_ok-put-clause-inserted
returns-in_ok-put-clause-inserted c =
    record {
      roots = c.add.new.self;
      single = subst (λ (old : List ℕ). AddsRoot old c.add.new.self c.args.root)
          c.new-roots.ensures c.in_ok-add.ensures.added;
      states = c.in_ok-put.ensures.states
          ∙ ap (λ (all : List ℕ). insert all c.args.place c.args.state)
          (sym (ap states_of c.in-Several.is) ∙ c.in_ok-spread.ensures.states);
      many = c.in_ok-put.ensures.many
          ∙ ap (λ (all : List (List ℕ)). insert all c.args.place c.add.new.self)
          (sym (ap many_of c.in-Several.is) ∙ c.in_ok-spread.ensures.many);
    }
