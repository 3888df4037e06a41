use Rattle.std.proofs.Common.{◌≡◌, ℕ, suc, ◌+◌, ◌<◌, List, [], ◌∷◌, ◌++◌, length, map, Option, Vec, Global, Err, ap, subst, sym, ◌∙◌, rules, arith}
use Rattle.std.proofs.lemmas.List.{map_push}
use Rattle.dfa_table.specs.declared.discovery.DiscoveryFault.{DiscoveryFault}
use Rattle.dfa_table.specs.declared.discovery.DiscoveryFault.TheVariants.{Full}
use Rattle.dfa_table.specs.Order.{IsInOrder, greatest_of}
use Rattle.dfa_table.specs.Discovery.{node_at, Grows, FromFirst, AreRows}
use Rattle.rpq_base.proofs.Outcomes.{handed_on}
use Rattle.dfa_table.proofs.Walk.{reached_first, reached_more, too_many, first_row, all_there, not_too_many, reaches_from, next_row, read_opens}
use Rattle.dfa_table.proofs.discovery.discover.Goals as goal

pub returns-in_err-row-clause-full : goal.returns-in_err-row-clause-full
returns-in_err-row-clause-full g c = λ is.
    let graph = g.G.Walk.graph c.args.graph.now in
    let limit = c.args.limit in
    let first = c.args.first in
    let nodes = c.row.new.nodes.items in
    let fault = handed_on c.from_residual.result c.in_err-row.field-0.0 Full c.from_residual.ensures.1 is in
    let full = c.in_err-row.ensures.full (ap (λ (e : DiscoveryFault). Err e) fault) in
    let grows = subst (λ (none : List ℕ). Grows graph limit first none nodes) c.new-nodes.ensures.items c.row.ensures.nodes in
    too_many graph limit first first nodes (reached_first graph limit first nodes grows) grows.apart (λ node next. FromFirst node next) full

pub nodes-init : goal.nodes-init
nodes-init g c =
    let items : Vec (Option ℕ) Global → List (Option ℕ) = λ row. row.items in
    let graph = g.G.Walk.graph c.args.graph.now in
    let limit = c.args.limit in
    let first = c.args.first in
    let nodes = c.row.new.nodes.items in
    let row = c.in_ok-row.field-0 in
    let one : c.push.new.self.items ≡ row ∷ [] =
    c.in_ok-push.ensures.items ∙ ap (λ (rows : List (Vec (Option ℕ) Global)). rows ++ row ∷ []) c.new-rows.ensures.items in
    let grows = subst (λ (none : List ℕ). Grows graph limit first none nodes) c.new-nodes.ensures.items c.row.ensures.nodes in
    let ordered = subst (λ (none : List ℕ). IsInOrder (length none) (items row)) c.new-nodes.ensures.items c.in_ok-row.ensures.order in
    let greatest = subst (λ (none : List ℕ). greatest_of (length none) (items row) ≡ length nodes) c.new-nodes.ensures.items c.in_ok-row.ensures.greatest in
    subst (λ (rows : List (Vec (Option ℕ) Global)). AreRows graph limit first nodes (map items rows) 0) (sym one)
    (first_row graph limit first nodes (items row) grows c.in_ok-row.ensures.row ordered greatest)

pub returns-in_err-row-2-clause-full : goal.returns-in_err-row-2-clause-full
returns-in_err-row-2-clause-full g c = λ is.
    let graph = g.G.Walk.graph c.args.graph.now in
    let limit = c.args.limit in
    let first = c.args.first in
    let before = c.nodes.nodes.items in
    let nodes = c.row-in-nodes.new.nodes.items in
    let place = c.nodes.done in
    let front = c.open-front.result in
    let fault = handed_on c.from_residual-in_err-row-2.result c.in_err-row-2.field-0.0 Full c.from_residual-in_err-row-2.ensures.1 is in
    let full = c.in_err-row-2.ensures.full (ap (λ (e : DiscoveryFault). Err e) fault) in
    let below : place < length before = search rules in
    let opens : graph.opens (node_at before place) front = read_opens graph before front c.index.result.now place below c.index.ensures c.open-front.ensures in
    let reaches = reaches_from graph first front before place c.nodes.invariant.reached below opens in
    too_many graph limit first front nodes
    (reached_more graph limit first front before nodes c.nodes.invariant.reached c.row-in-nodes.ensures.nodes reaches)
    c.row-in-nodes.ensures.nodes.apart reaches full

pub nodes-preserved : goal.nodes-preserved
nodes-preserved g c =
    let items : Vec (Option ℕ) Global → List (Option ℕ) = λ row. row.items in
    let graph = g.G.Walk.graph c.args.graph.now in
    let limit = c.args.limit in
    let first = c.args.first in
    let before = c.nodes.nodes.items in
    let nodes = c.row-in-nodes.new.nodes.items in
    let place = c.nodes.done in
    let front = c.open-front.result in
    let row = c.in_ok-row-2.field-0 in
    let below : place < length before = search rules in
    let opens : graph.opens (node_at before place) front = read_opens graph before front c.index.result.now place below c.index.ensures c.open-front.ensures in
    let old = c.nodes.rows.items in
    let more : map items (old ++ row ∷ []) ≡ map items old ++ items row ∷ [] = map_push items old row in
    let next : suc place ≡ place + 1 = omega arith in
    subst (λ (rows : List (Vec (Option ℕ) Global)). AreRows graph limit first nodes (map items rows) (place + 1)) (sym c.in_ok-push-2.ensures.items)
    (subst (λ (n : ℕ). AreRows graph limit first nodes (map items (old ++ row ∷ [])) n) next
    (subst (λ (rows : List (List (Option ℕ))). AreRows graph limit first nodes rows (suc place)) (sym more)
    (next_row graph limit first front before nodes (map items old) (items row) place c.nodes.invariant below opens c.row-in-nodes.ensures.nodes
    c.in_ok-row-2.ensures.row c.in_ok-row-2.ensures.order c.in_ok-row-2.ensures.greatest)))

pub returns : goal.returns
returns g c =
    let items : Vec (Option ℕ) Global → List (Option ℕ) = λ row. row.items in
    let graph = g.G.Walk.graph c.args.graph.now in
    let limit = c.args.limit in
    let first = c.args.first in
    let nodes = c.nodes.nodes.items in
    let rows = map items c.nodes.rows.items in
    let count : c.len.result ≡ length nodes = search rules in
    let whole : c.nodes.done ≡ length nodes = omega (arith, count, c.nodes.invariant.within, c.nodes-test.false) in
    let are = subst (AreRows graph limit first nodes rows) whole c.nodes.invariant in
    record {
      rows = are;
      all = λ one. all_there graph limit first nodes rows one are;
      full = λ e. cc;
      few = λ one. not_too_many graph limit first nodes rows one are;
    }
