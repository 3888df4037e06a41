-- What an entry leaves in the trees of a forest.
use Rattle.std.proofs.Common.{◌≡◌, ℕ, ◌+◌, ◌<◌, ◌≤◌, Bool, true, false, cond, nat_lt, List, [], ◌∷◌}
use Rattle.std.proofs.Common.{Option, Some, None, refl, sym, ap, subst, ◌∙◌, arith}
use Rattle.std.specs.Prelude.{◌==◌, option_map}
use Rattle.std.specs.List.{find}
use Rattle.std.specs.Option.{option_and_then}
use Rattle.std.proofs.lemmas.Bool.{lt-ltb, ltb-true, eqb-true}
use Rattle.std.proofs.lemmas.List.Elements.{All-weaker}
use Rattle.std.proofs.lemmas.Option.{same_Some}
use Rattle.rpq_base.specs.declared.data.Act.{Act}
use Rattle.rpq_base.specs.declared.data.Act.TheVariants.{Insert, Delete, Tick}
use Rattle.dfa_table.specs.DfaValue.{DfaValue, step_of}
use Rattle.window_clock.specs.Clock.{ClockValue}
use Rattle.edge_store.specs.declared.edge.EdgeId.{EdgeId}
use Rattle.edge_store.specs.Edges.{Edges, Updates, above, raised, same_edge, value_of as value_in}
use Rattle.delta_tree.specs.declared.node.NodeId.{NodeId}
use Rattle.delta_tree.specs.declared.node.Node.{Node}
use Rattle.delta_tree.specs.Nodes.{TreeValue, node_id, node_of, value_of}
use Rattle.delta_tree.specs.Paths.{LeadsUp}
use Rattle.tree_insert.specs.Best.{IsAtLeast, IsBest, IsWay}
use Rattle.tree_insert.proofs.Bests.{greatest_one}
use Rattle.source_tree.specs.declared.change.Change.{Change}
use Rattle.source_tree.specs.declared.change.Change.TheVariants.{Raise, Remove, Expire}
use Rattle.source_tree.specs.declared.change.EndChange.{EndChange}
use Rattle.delta_forest.specs.Forest.{ForestValue, IsIndexed, kept, tree_of}
use Rattle.delta_forest.specs.Laws.{KeptIsBest}
use Rattle.index_laws.specs.Numbered.{HasNumbers}
use Rattle.query_index.specs.Stepping.{HasApplied, MayHaveApplied, Suits}
use Rattle.query_index.specs.Keeping.{IsCutOff, KeepsForest}

-- ---- trees and their nodes

found_root : (trees : List TreeValue) (root : ℕ) (tree : TreeValue) →
    find (λ (each : TreeValue). each.root == root) trees ≡ Some tree → tree.root ≡ root
found_root [] root tree is = absurd cc
found_root (first ∷ rest) root tree is =
    by (first.root == root) refl (found_root rest root tree) is
  where
    by : (b : Bool) → (first.root == root) ≡ b →
        (find (λ (each : TreeValue). each.root == root) rest ≡ Some tree → tree.root ≡ root) →
        cond b (Some first) (find (λ (each : TreeValue). each.root == root) rest) ≡ Some tree →
        tree.root ≡ root
    by true passes further found =
        ap (λ (each : TreeValue). each.root) (sym (same_Some first tree found))
        ∙ eqb-true first.root root passes
    by false fails further found = further found

tree_root : (forest : ForestValue) (root : ℕ) (tree : TreeValue) →
    tree_of forest root ≡ Some tree → tree.root ≡ root
tree_root forest root tree is = found_root forest.trees root tree is

-- the value of a node is what is kept
kept_at : (forest : ForestValue) (root : ℕ) (tree : TreeValue) (id : NodeId) (node : Node) →
    tree_of forest root ≡ Some tree → node_of tree id ≡ Some node →
    kept forest root id.vertex id.state ≡ Some node.value
kept_at forest root tree id node tree_is node_is =
    ap (λ (each : Option TreeValue).
    option_and_then (λ (t : TreeValue). value_of t (node_id id.vertex id.state)) each) tree_is
    ∙ ap (λ (each : Option Node). option_map (λ (n : Node). n.value) each) node_is

-- what is kept is the value of a node
pub record IsFound (forest : ForestValue) (root : ℕ) (id : NodeId) (value : ℕ) : Type 0 where
  pub tree : TreeValue
  pub node : Node
  pub tree_is : tree_of forest root ≡ Some tree
  pub node_is : node_of tree id ≡ Some node
  pub value_is : node.value ≡ value

in_tree : (forest : ForestValue) (root : ℕ) (id : NodeId) (value : ℕ) (tree : TreeValue) →
    tree_of forest root ≡ Some tree → (found : Option Node) → node_of tree id ≡ found →
    option_map (λ (n : Node). n.value) found ≡ Some value → IsFound forest root id value
in_tree forest root id value tree tree_is None node_is is = absurd cc
in_tree forest root id value tree tree_is (Some node) node_is is = record {
  tree = tree;
  node = node;
  tree_is = tree_is;
  node_is = node_is;
  value_is = same_Some node.value value is;
}

in_forest : (forest : ForestValue) (root : ℕ) (id : NodeId) (value : ℕ)
    (found : Option TreeValue) → tree_of forest root ≡ found →
    option_and_then (λ (t : TreeValue). value_of t (node_id id.vertex id.state)) found
    ≡ Some value → IsFound forest root id value
in_forest forest root id value None tree_is is = absurd cc
in_forest forest root id value (Some tree) tree_is is =
    in_tree forest root id value tree tree_is (node_of tree id) refl is

pub find_node : (forest : ForestValue) (root : ℕ) (id : NodeId) (value : ℕ) →
    kept forest root id.vertex id.state ≡ Some value → IsFound forest root id value
find_node forest root id value is =
    in_forest forest root id value (tree_of forest root) refl is

-- ---- values above a clock

above_clock : (value : Option ℕ) (number now : ℕ) →
    ((there : ℕ) → value ≡ Some there → now < there) → IsAtLeast number value →
    IsAtLeast (now + 1) value
above_clock None number now all reached = reached
above_clock (Some there) number now all reached = omega (arith, all there refl)

stays_above : (value : Option ℕ) (number now : ℕ) → now < number → IsAtLeast number value →
    IsAtLeast number (above now value)
stays_above None number now less reached = reached
stays_above (Some there) number now less reached =
    subst (λ (b : Bool). IsAtLeast number (cond b (Some there) None))
    (sym (lt-ltb now there (omega (arith, less, reached)))) reached

was_there : (value : Option ℕ) (number now : ℕ) → IsAtLeast number (above now value) →
    IsAtLeast number value
was_there None number now reached = reached
was_there (Some there) number now reached = by (nat_lt now there) reached
  where
    by : (b : Bool) → IsAtLeast number (cond b (Some there) None) → number ≤ there
    by true is = is
    by false is = absurd is

is_above : (value : Option ℕ) (there now : ℕ) → above now value ≡ Some there → now < there
is_above None there now is = absurd cc
is_above (Some value) there now is = by (nat_lt now value) refl is
  where
    by : (b : Bool) → nat_lt now value ≡ b → cond b (Some value) None ≡ Some there → now < there
    by true less found = omega (arith, ltb-true now value less, same_Some value there found)
    by false past found = absurd cc

-- ---- bests of edges that expire

module _ (values lasting : EdgeId → Option ℕ) (now : ℕ)
    (expires : (edge : EdgeId) → lasting edge ≡ above now (values edge))
    (step : ℕ → ℕ → Option ℕ) (root vertex state : ℕ) where
  way_lasts : (number : ℕ) (path : List EdgeId) → now < number →
      IsWay values step root vertex state number path →
      IsWay lasting step root vertex state number path
  way_lasts number path less way = record {
    some = way.some;
    leads = way.leads;
    least = All-weaker (λ (edge : EdgeId). IsAtLeast number (values edge))
        (λ (edge : EdgeId). IsAtLeast number (lasting edge))
        (λ edge reached. subst (IsAtLeast number) (sym (expires edge))
        (stays_above (values edge) number now less reached)) path way.least;
  }

  way_was : (number : ℕ) (path : List EdgeId) →
      IsWay lasting step root vertex state number path →
      IsWay values step root vertex state number path
  way_was number path way = record {
    some = way.some;
    leads = way.leads;
    least = All-weaker (λ (edge : EdgeId). IsAtLeast number (lasting edge))
        (λ (edge : EdgeId). IsAtLeast number (values edge))
        (λ edge reached. was_there (values edge) number now
        (subst (IsAtLeast number) (expires edge) reached)) path way.least;
  }

  -- a best above the clock stays
  best_lasts : (number : ℕ) → now < number →
      IsBest values step root vertex state (Some number) →
      IsBest lasting step root vertex state (Some number)
  best_lasts number less best = record {
    is = (best.is.0, way_lasts number best.is.0 less best.is.1);
    most = λ other found. best.most other (found.0, way_was other found.0 found.1);
  }

-- a best of edges above the clock is above it
best_above : (values : EdgeId → Option ℕ) (now : ℕ) →
    ((edge : EdgeId) (value : ℕ) → values edge ≡ Some value → now < value) →
    (step : ℕ → ℕ → Option ℕ) (root vertex state number : ℕ) →
    IsBest values step root vertex state (Some number) → now < number
best_above values now all step root vertex state number best =
    let path = best.is.0 in
    let way = best.is.1 in
    let higher : IsWay values step root vertex state (now + 1) path = record {
      some = way.some;
      leads = way.leads;
      least = All-weaker (λ (edge : EdgeId). IsAtLeast number (values edge))
          (λ (edge : EdgeId). IsAtLeast (now + 1) (values edge))
          (λ edge reached. above_clock (values edge) number now (all edge) reached) path way.least;
    } in
    omega (arith, best.most (now + 1) (path, higher))

-- ---- a forest that expires

module _ (law : KeptIsBest) (old middle : ForestValue) (now : ℕ) (first : List EndChange)
    (was : IsIndexed old) (expired : HasApplied (Expire now) old middle first) where
  abbrev steps : ℕ → ℕ → Option ℕ
  steps = step_of old.dfa

  best_old : (root vertex state : ℕ) →
      IsBest (value_in old.store) steps root vertex state (kept old root vertex state)
  best_old root vertex state = law old was root vertex state

  best_middle : (root vertex state : ℕ) →
      IsBest (value_in middle.store) steps root vertex state (kept middle root vertex state)
  best_middle root vertex state =
      subst (λ (dfa : DfaValue).
      IsBest (value_in middle.store) (step_of dfa) root vertex state
      (kept middle root vertex state)) expired.dfa
      (law middle expired.indexed root vertex state)

  middle_above : (edge : EdgeId) (value : ℕ) → value_in middle.store edge ≡ Some value →
      now < value
  middle_above edge value is =
      is_above (value_in old.store edge) value now (sym (expired.store edge) ∙ is)

  lasts : (root : ℕ) (id : NodeId) (value : ℕ) → now < value →
      kept old root id.vertex id.state ≡ Some value →
      kept middle root id.vertex id.state ≡ Some value
  lasts root id value less is =
      greatest_one (kept middle root id.vertex id.state) (Some value)
      (λ (number : ℕ). (path : List EdgeId)
      × IsWay (value_in middle.store) steps root id.vertex id.state number path)
      (best_middle root id.vertex id.state)
      (best_lasts (value_in old.store) (value_in middle.store) now expired.store steps root
      id.vertex id.state value less
      (subst (IsBest (value_in old.store) steps root id.vertex id.state) is
      (best_old root id.vertex id.state)))

  -- what stands afterwards stood before
  stood_by : (root : ℕ) (id : NodeId) (value : ℕ) →
      kept middle root id.vertex id.state ≡ Some value →
      IsBest (value_in middle.store) steps root id.vertex id.state (Some value) →
      (before : Option ℕ) → kept old root id.vertex id.state ≡ before →
      IsBest (value_in old.store) steps root id.vertex id.state before →
      kept old root id.vertex id.state ≡ Some value
  stood_by root id value is best None before_is none =
      let way = way_was (value_in old.store) (value_in middle.store) now expired.store steps root
      id.vertex id.state value best.is.0 best.is.1 in
      absurd (none value (best.is.0, way))
  stood_by root id value is best (Some before) before_is best_before =
      let less = best_above (value_in middle.store) now middle_above steps root id.vertex id.state
      value best in
      let way = way_was (value_in old.store) (value_in middle.store) now expired.store steps root
      id.vertex id.state value best.is.0 best.is.1 in
      let most = best_before.most value (best.is.0, way) in
      let stays = lasts root id before (omega (arith, less, most)) before_is in
      let same : before ≡ value = same_Some before value (sym stays ∙ is) in
      before_is ∙ ap Some same

  stood : (root : ℕ) (id : NodeId) (value : ℕ) →
      kept middle root id.vertex id.state ≡ Some value →
      kept old root id.vertex id.state ≡ Some value
  stood root id value is =
      stood_by root id value is
      (subst (IsBest (value_in middle.store) steps root id.vertex id.state) is
      (best_middle root id.vertex id.state))
      (kept old root id.vertex id.state) refl (best_old root id.vertex id.state)

  -- the node itself
  node_stood : (root : ℕ) (before after : TreeValue) → tree_of old root ≡ Some before →
      tree_of middle root ≡ Some after → (id : NodeId) (node : Node) →
      node_of after id ≡ Some node → node_of before id ≡ Some node
  node_stood root before after before_is after_is id node node_is =
      let found = find_node old root id node.value
      (stood root id node.value (kept_at middle root after id node after_is node_is)) in
      let tree : found.tree ≡ before = same_Some found.tree before (sym found.tree_is ∙ before_is) in
      let there : node_of before id ≡ Some found.node =
      subst (λ (each : TreeValue). node_of each id ≡ Some found.node) tree found.node_is in
      let same : node ≡ found.node =
      (expired.keeps.nodes root before after before_is after_is).same id found.node node there
      node_is found.value_is in
      there ∙ ap Some (sym same)

  -- and so its path
  led : (root : ℕ) (before after : TreeValue) → tree_of old root ≡ Some before →
      tree_of middle root ≡ Some after → (up : List EdgeId) (id : NodeId) →
      LeadsUp after id up → LeadsUp before id up
  led root before after before_is after_is [] id leads =
      leads
      ∙ ap (λ (vertex : ℕ). node_id vertex 0)
      (tree_root middle root after after_is ∙ sym (tree_root old root before before_is))
  led root before after before_is after_is (edge ∷ up) id leads = (
    leads.0,
    node_stood root before after before_is after_is id leads.0 leads.1,
    leads.2,
    led root before after before_is after_is up leads.0.parent leads.3,
  )

-- ---- one entry

-- the edges with values after the change are above the clock
raised_above : (value : Option ℕ) (number now : ℕ) → now < number → now < raised value number
raised_above None number now less = less
raised_above (Some value) number now less = omega (arith, less)

updated_above : (old new : Edges) (id : EdgeId) (value : Option ℕ) (now : ℕ) →
    ((edge : EdgeId) (there : ℕ) → value_in old edge ≡ Some there → now < there) →
    ((there : ℕ) → value ≡ Some there → now < there) → Updates old new id value →
    (edge : EdgeId) (there : ℕ) → value_in new edge ≡ Some there → now < there
updated_above old new id value now all one updates edge there is =
    by (same_edge id edge) (sym (updates edge) ∙ is)
  where
    by : (b : Bool) → cond b value (value_in old edge) ≡ Some there → now < there
    by true found = one there found
    by false found = all edge there found

module _ (law : KeptIsBest) (names : List (List ℕ)) (clock : ClockValue) (time : ℕ)
    (old middle new : ForestValue) (first second : List EndChange) (was : IsIndexed old)
    (is : IsIndexed new) (expired : HasApplied (Expire clock.clock) old middle first) where
  abbrev now : ℕ
  now = clock.clock

  all_middle : (edge : EdgeId) (value : ℕ) → value_in middle.store edge ≡ Some value → now < value
  all_middle = middle_above law old middle now first was expired

  all_above : (act : Act) (change : Option Change) → Suits names middle.dfa clock time act change →
      MayHaveApplied change middle new second → (edge : EdgeId) (value : ℕ) →
      value_in new.store edge ≡ Some value → now < value
  all_above act None suits same = λ edge value there.
      all_middle edge value
      (subst (λ (forest : ForestValue). value_in forest.store edge ≡ Some value) same.0 there)
  all_above (Insert inserted until) (Some (Raise id value)) suits applied = λ edge there found.
      updated_above middle.store new.store id (Some (raised (value_in middle.store id) value)) now
      all_middle
      (λ each same.
      let greater = raised_above (value_in middle.store id) value now suits.above in
      omega (arith, greater, same_Some (raised (value_in middle.store id) value) each same))
      applied.store edge there found
  all_above (Delete deleted) (Some (Remove id)) suits applied = λ edge there found.
      updated_above middle.store new.store id None now all_middle (λ each none. absurd cc)
      applied.store edge there found
  all_above (Insert inserted until) (Some (Remove id)) suits applied = absurd suits
  all_above (Insert inserted until) (Some (Expire other)) suits applied = absurd suits
  all_above (Delete deleted) (Some (Raise id value)) suits applied = absurd suits
  all_above (Delete deleted) (Some (Expire other)) suits applied = absurd suits
  all_above Tick (Some change) suits applied = absurd suits

  module _ (root : ℕ) (before after : TreeValue) (before_is : tree_of old root ≡ Some before)
      (after_is : tree_of new root ≡ Some after) (id : NodeId) (left right : Node)
      (left_is : node_of before id ≡ Some left) (right_is : node_of after id ≡ Some right)
      (same : left.value ≡ right.value) where
    -- the node between both changes
    standing : now < left.value → IsFound middle root id left.value
    standing less =
        find_node middle root id left.value
        (lasts law old middle now first was expired root id left.value less
        (kept_at old root before id left before_is left_is))

    node_in_middle : (less : now < left.value) →
        node_of (standing less).tree id ≡ Some left
    node_in_middle less =
        let found = standing less in
        found.node_is
        ∙ ap Some ((expired.keeps.nodes root before found.tree before_is found.tree_is).same id left
        found.node left_is found.node_is (sym found.value_is))

    is_less : ((edge : EdgeId) (value : ℕ) → value_in new.store edge ≡ Some value → now < value) →
        now < left.value
    is_less all =
        let best = subst (IsBest (value_in new.store) (step_of new.dfa) root id.vertex id.state)
        (kept_at new root after id right after_is right_is)
        (law new is root id.vertex id.state) in
        let less = best_above (value_in new.store) now all (step_of new.dfa) root id.vertex id.state
        right.value best in
        omega (arith, less, same)

    by_change : (act : Act) (change : Option Change) (less : now < left.value) →
        Suits names middle.dfa clock time act change →
        MayHaveApplied change middle new second →
        (IsCutOff act names old.dfa before id → ⊥) → right ≡ left
    by_change act None less suits unchanged never =
        let found = standing less in
        let there = subst (λ (forest : ForestValue). tree_of forest root ≡ Some after) unchanged.0
        after_is in
        let tree : found.tree ≡ after = same_Some found.tree after (sym found.tree_is ∙ there) in
        let node = subst (λ (each : TreeValue). node_of each id ≡ Some left) tree
        (node_in_middle less) in
        same_Some right left (sym right_is ∙ node)
    by_change (Insert inserted until) (Some (Raise raise value)) less suits applied never =
        let found = standing less in
        (applied.keeps.nodes root found.tree after found.tree_is after_is).same id left right
        (node_in_middle less) right_is same
    by_change (Delete deleted) (Some (Remove removed)) less suits applied never =
        let found = standing less in
        let node = (applied.keeps.nodes root found.tree after found.tree_is after_is).same id left
        (node_in_middle less)
        (λ below. never (record {
          edge = deleted;
          number = removed;
          deletes = refl;
          numbers = subst (λ (dfa : DfaValue). HasNumbers names dfa deleted removed) expired.dfa
              suits;
          below = (
            below.0,
            led law old middle now first was expired root before found.tree before_is found.tree_is
                below.0 id below.1,
            below.2,
          );
        })) in
        same_Some right left (sym right_is ∙ node)
    by_change (Insert inserted until) (Some (Remove removed)) less suits applied never = absurd suits
    by_change (Insert inserted until) (Some (Expire other)) less suits applied never = absurd suits
    by_change (Delete deleted) (Some (Raise raise value)) less suits applied never = absurd suits
    by_change (Delete deleted) (Some (Expire other)) less suits applied never = absurd suits
    by_change Tick (Some change) less suits applied never = absurd suits

  pub keeps_forest : (act : Act) (change : Option Change) →
      Suits names middle.dfa clock time act change → MayHaveApplied change middle new second →
      KeepsForest act names old new
  keeps_forest act change suits changed = record {
    trees = λ root before after before_is after_is. record {
      nodes = λ id left right left_is right_is same never.
          let less = is_less root before after before_is after_is id left right left_is right_is
          same (all_above act change suits changed) in
          by_change root before after before_is after_is id left right left_is right_is same act
          change less suits changed never;
    };
  }
