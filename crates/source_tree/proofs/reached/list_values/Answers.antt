use Rattle.std.proofs.Common.{List, [], ◌∷◌, ◌++◌, Vec, Global, take, sym, subst, ◌∙◌, true≢false, arith}
use Rattle.std.proofs.lemmas.List.{take_all}
use Rattle.std.proofs.lemmas.Map.Entries.{length-keys_of}
use Rattle.delta_tree.specs.declared.node.NodeId.{NodeId}
use Rattle.delta_tree.specs.Nodes.{ids_of}
use Rattle.source_tree.specs.declared.change.Reached.{Reached}
use Rattle.source_tree.proofs.Listing.{IsListing, listing_ends, listing_more, listing_other, walked_more}
use Rattle.source_tree.proofs.reached.list_values.Goals.{then-is_among+in_ok-add_value, else-is_among}
use Rattle.source_tree.proofs.reached.list_values.Goals as goal

pub loop-k-preserved : goal.loop-k-preserved
loop-k-preserved c =
    let finals = c.args.finals.now in
    let tree = c.args.tree.now in
    let k = c.loop-k.k in
    let id = c.node_at-id.result in
    let walked = take k (ids_of tree) in
    let old = c.loop-k.reached.items in
    let among = c.is_among.ensures in
    subst (λ (all : List NodeId). IsListing finals tree all c.if-is_among.reached.items)
    (sym (walked_more (ids_of tree) k id c.node_at-id.ensures))
    (elim c.if-is_among.branch [
      | then-is_among+in_ok-add_value w ↦
          subst (λ (now : Vec Reached Global). IsListing finals tree (walked ++ id ∷ []) now.items)
          (sym w.reached-is)
          (listing_more finals tree walked id old c.loop-k.invariant
          w.add_value.new.reached.items (among.0 w.if-is_among.true) w.in_ok-add_value.ensures)
      | else-is_among w ↦
          subst (λ (now : Vec Reached Global). IsListing finals tree (walked ++ id ∷ []) now.items)
          (sym w.reached-is)
          (listing_other finals tree walked id old c.loop-k.invariant
          (λ there. true≢false (sym (among.1 there) ∙ w.if-is_among.false)))
    ])

pub returns : goal.returns
returns c =
    let finals = c.args.finals.now in
    let tree = c.args.tree.now in
    let reached = c.loop-k.reached.items in
    listing_ends finals tree reached c.len-k-end.ensures.walk
    (subst (λ (walked : List NodeId). IsListing finals tree walked reached)
    (take_all c.loop-k.k (ids_of tree)
    (omega (arith, length-keys_of tree.nodes, c.len-k-end.ensures.count, c.loop-k-test.false)))
    c.loop-k.invariant)
