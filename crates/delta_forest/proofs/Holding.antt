-- Roots that are held anew, and numbers that are noted.
use Rattle.std.proofs.Common.{◌≡◌, ℕ, ◌≤◌, Bool, true, false, cond, List, [], ◌∷◌, Option, Some, None, refl, sym, ap, subst, ◌∙◌, inl, inr, ⊎_elim, Contains, arith}
use Rattle.std.specs.Prelude.{◌↔◌, is_some}
use Rattle.std.proofs.lemmas.Bool.{eq-eqb, false≢true}
use Rattle.rpq_base.proofs.Members.{HasOneMore, cons_members, none_in}
use Rattle.delta_tree.specs.declared.node.NodeId.{NodeId}
use Rattle.delta_tree.specs.declared.node.Node.{Node}
use Rattle.delta_tree.specs.Nodes.{TreeValue, node_of, value_of}
use Rattle.delta_tree.specs.Changes.{IsFloor}
use Rattle.tree_insert.proofs.Nodes.{node_is, value_is}
use Rattle.source_index.specs.Dues.{DuesValue, GivesDue, due_of, lowered}
use Rattle.source_index.specs.Holders.{AddsHolder, DropsHolder, HoldersValue}
use Rattle.delta_forest.specs.Keeping.{IsDueFor}
use Rattle.delta_forest.specs.Settling.{HoldsAnew}
use Rattle.delta_forest.proofs.Sources.{same_or_not, some_found}

-- a list of one
pub one_member : {X : Type 0} (one x : X) → Contains (one ∷ []) x → one ≡ x
one_member one x member =
    ⊎_elim (λ here. here) (λ further. absurd (none_in x further)) ((cons_members one [] x).0 member)

pub member_one : {X : Type 0} (one x : X) → one ≡ x → Contains (one ∷ []) x
member_one one x is = (cons_members one [] x).1 (inl is)

-- a node stands there
abbrev pub Stands : TreeValue → NodeId → Type 0
Stands tree id = (node : Node) × (node_of tree id ≡ Some node)

-- a node stands exactly where there is a value
pub stands_or_not : (tree : TreeValue) (id : NodeId) →
    is_some (value_of tree id) ≡ true ↔ Stands tree id
stands_or_not tree id = (
  (λ some.
      let value = some_found (value_of tree id) some in
      let node = node_is tree id value.0 value.1 in
      (node.0, node.1)),
  (λ stands. ap is_some (value_is tree id stands.0 stands.1)),
)

pub held_added : (old new : HoldersValue) (id : NodeId) (root : ℕ) →
    AddsHolder old new id root → HoldsAnew old new root true (id ∷ [])
held_added old new id root adds = record {
  listed = λ at member. (
    (λ holds. refl),
    (λ held. (adds at root).1 (inr (sym (one_member id at member), refl))),
  );
  unlisted = λ at none. (
    (λ holds. ⊎_elim (λ was. was)
        (λ (both : (at ≡ id) × (root ≡ root)). absurd (none (member_one id at (sym both.0))))
        ((adds at root).0 holds)),
    (λ holds. (adds at root).1 (inl holds)),
  );
  others = λ at each differ. (
    (λ holds. ⊎_elim (λ was. was)
        (λ (both : (at ≡ id) × (each ≡ root)). absurd (differ both.1))
        ((adds at each).0 holds)),
    (λ holds. (adds at each).1 (inl holds)),
  );
}

pub held_dropped : (old new : HoldersValue) (id : NodeId) (root : ℕ) →
    DropsHolder old new id root → HoldsAnew old new root false (id ∷ [])
held_dropped old new id root drops = record {
  listed = λ at member. (
    (λ holds. absurd (((drops at root).0 holds).1 (sym (one_member id at member), refl))),
    (λ held. absurd (false≢true held)),
  );
  unlisted = λ at apart. (
    (λ holds. ((drops at root).0 holds).0),
    (λ holds. (drops at root).1 (holds, λ both. apart (member_one id at (sym both.0)))),
  );
  others = λ at each differ. (
    (λ holds. ((drops at each).0 holds).0),
    (λ holds. (drops at each).1 (holds, λ both. differ both.1)),
  );
}

pub holds_more : (old now new : HoldersValue) (root : ℕ) (held : Bool)
    (done more : List NodeId) (id : NodeId) → HoldsAnew old now root held done →
    HoldsAnew now new root held (id ∷ []) → HasOneMore done id more →
    HoldsAnew old new root held more
holds_more old now new root held done more id first second one = record {
  listed = λ at member. ⊎_elim
      (λ (here : id ≡ at). second.listed at (member_one id at here))
      (λ differ.
      let was = first.listed at (⊎_elim (λ there. there)
      (λ here. absurd (differ here)) (one.cases at member)) in
      let is = second.unlisted at (λ member. differ (one_member id at member)) in
      ((λ holds. was.0 (is.0 holds)), (λ so. is.1 (was.1 so))))
      (same_or_not id at);
  unlisted = λ at none.
      let was = first.unlisted at (λ member. none (one.still at member)) in
      let is = second.unlisted at (λ member.
      none (subst (Contains more) (one_member id at member) one.here)) in
      ((λ holds. was.0 (is.0 holds)), (λ holds. is.1 (was.1 holds)));
  others = λ at each differ.
      let was = first.others at each differ in
      let is = second.others at each differ in
      ((λ holds. was.0 (is.0 holds)), (λ holds. is.1 (was.1 holds)));
}

-- a number that is noted is at most the values of the nodes
pub due_noted : (old new : DuesValue) (root least : ℕ) (tree : TreeValue) →
    GivesDue old new root (Some (lowered (due_of old root) least)) → IsFloor tree least →
    IsDueFor new root tree
due_noted old new root least tree gives floor = λ id node is. (
  lowered (due_of old root) least,
  gives root ∙ ap (λ (b : Bool).
      cond b (Some (lowered (due_of old root) least)) (due_of old root)) (eq-eqb root root refl),
  low (due_of old root) node.value (floor id node is),
)
  where
    low : (was : Option ℕ) (value : ℕ) → least ≤ value → lowered was least ≤ value
    low None value below = below
    low (Some before) value below = omega (arith, below)
