use Rattle.std.proofs.Common.{◌≡◌, ◌<◌, ◌+◌, ℕ, List, length, get_or, slice_range, ap, ap₂, ◌∙◌, rules, arith}
use Rattle.dfa_table.specs.Befores.{list_at}
use Rattle.dfa_table.proofs.Joined.{ends_are, part_found, part_missing}
use Rattle.dfa_table.proofs.befores.Befores.list.Goals as goal

pub returns-then-place-len : goal.returns-then-place-len
returns-then-place-len c =
    let starts : List ℕ = c.self.inside.starts.items in
    let size : c.len.result ≡ length starts = search rules in
    part_missing starts c.self.inside.states.items c.args.state
    (omega (arith, size, c.if-place-len.true))
    ∙ ap (λ (lists : List (List ℕ)). list_at lists c.args.state) c.self.view_is

pub offset_bounds-deref-start : goal.offset_bounds-deref-start
offset_bounds-deref-start c =
    let starts : List ℕ = c.self.inside.starts.items in
    let size : c.len.result ≡ length starts = search rules in
    let low : c.args.state + 1 < length starts = omega (arith, size, c.if-place-len.false) in
    let ends = ends_are starts c.self.inside.states.items c.args.state c.index-start.result.now
    c.index-end.result.now low c.self.invariant c.index-start.ensures c.index-end.ensures in
    omega (arith, ends, ap length c.deref.ensures.value, c.deref.type_inv)

pub slice_bounds-result-count : goal.slice_bounds-result-count
slice_bounds-result-count c =
    let starts : List ℕ = c.self.inside.starts.items in
    let size : c.len.result ≡ length starts = search rules in
    let low : c.args.state + 1 < length starts = omega (arith, size, c.if-place-len.false) in
    let ends = ends_are starts c.self.inside.states.items c.args.state c.index-start.result.now
    c.index-end.result.now low c.self.invariant c.index-start.ensures c.index-end.ensures in
    ends.rises

pub returns : goal.returns
returns c =
    let starts : List ℕ = c.self.inside.starts.items in
    let states : List ℕ = c.self.inside.states.items in
    let size : c.len.result ≡ length starts = search rules in
    let low : c.args.state + 1 < length starts = omega (arith, size, c.if-place-len.false) in
    let ends = ends_are starts states c.args.state c.index-start.result.now c.index-end.result.now
    low c.self.invariant c.index-start.ensures c.index-end.ensures in
    ap₂ (λ (from to : ℕ). slice_range c.deref.result.now from to) ends.from_is ends.to_is
    ∙ (ap (λ (list : List ℕ). slice_range list (get_or starts c.args.state 0)
    (get_or starts (c.args.state + 1) 0)) c.deref.ensures.value
    ∙ (part_found starts states c.args.state low
    ∙ ap (λ (lists : List (List ℕ)). list_at lists c.args.state) c.self.view_is))
