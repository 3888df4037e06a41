use Rattle.std.proofs.Common.{◌≡◌, ℕ, List, [], ◌∷◌, ◌++◌, length, ap, ◌∙◌, rules, arith}
use Rattle.std.proofs.lemmas.List.{get_or_default}
use Rattle.dfa_table.specs.Befores.{list_at}
use Rattle.dfa_table.proofs.Joined.{joined_first, joined_more, joined_all}
use Rattle.dfa_table.proofs.befores.join_lists.Goals as goal

pub loop-list-init : goal.loop-list-init
loop-list-init c =
    let first : c.push.new.self.items ≡ 0 ∷ [] = search rules in
    let states : List ℕ = c.new-states.result.items in
    let none : states ≡ [] = search rules in
    record {
      few = omega arith;
      joined = joined_first c.args.lists.now c.push.new.self.items states first none;
    }

pub loop-list-preserved : goal.loop-list-preserved
loop-list-preserved c =
    let lists : List (List ℕ) = c.args.lists.now in
    let place = c.loop-list.list-index in
    let starts : List ℕ = c.loop-list.starts.items in
    let states : List ℕ = c.loop-list.states.items in
    let all : List ℕ = c.extend_from_slice.new.self.items in
    let longer : List ℕ = c.push-in-loop-list.new.self.items in
    let list : c.states.result.now ≡ list_at lists place =
    c.states.ensures ∙ (c.list-item.is
    ∙ get_or_default lists place c.list-item.result [] (omega (arith, c.loop-list-test.true))) in
    let joined : all ≡ states ++ list_at lists place =
    c.in_ok-extend_from_slice.ensures.items ∙ ap (λ (more : List ℕ). states ++ more) list in
    let size : c.len.result ≡ length all = search rules in
    let pushed : longer ≡ starts ++ length all ∷ [] =
    c.in_ok-push-2.ensures.items ∙ ap (λ (n : ℕ). starts ++ n ∷ []) size in
    record {
      few = omega (arith, c.loop-list-test.true);
      joined = joined_more lists place starts states longer all c.loop-list.invariant.joined joined
          pushed;
    }

pub returns : goal.returns
returns c =
    joined_all c.args.lists.now c.loop-list.list-index c.loop-list.starts.items
    c.loop-list.states.items c.loop-list.invariant.joined c.loop-list.invariant.few
    c.loop-list-test.false
