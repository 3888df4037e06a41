-- The roots that a change may touch, gathered place by place.
use Rattle.std.proofs.Common.{◌≡◌, ◌≢◌, ℕ, ◌+◌, ◌<◌, ◌≤◌, Bool, false, cond, ◌==◌, ◌||◌, List, [], ◌∷◌, ◌++◌, length, Option, Some, None, refl, sym, ap, subst, ◌∙◌, ◌⊎◌, inl, inr, ⊎_elim, Contains, arith}
use Rattle.std.specs.Prelude.{◌↔◌, IsSome, is_some, option_map}
use Rattle.std.specs.Option.{option_or}
use Rattle.std.specs.List.{IsDistinct, list_any}
use Rattle.std.proofs.lemmas.Bool.{cases_eq, eq-eqb, ne_eqb, true≢false}
use Rattle.std.proofs.lemmas.Cmp.{nat_eq_equiv}
use Rattle.std.proofs.lemmas.Option.{none-some, same_Some}
use Rattle.std.proofs.lemmas.List.{map-append}
use Rattle.std.proofs.lemmas.List.Folds.{find-append}
use Rattle.std.proofs.lemmas.Map.Keys.{IsDistinct-push, sorted_from_strictly_increasing}
use Rattle.rpq_base.proofs.Members.{HasOneMore, none_in}
use Rattle.edge_store.specs.declared.edge.EdgeId.{EdgeId}
use Rattle.edge_store.specs.Edges.{Edges}
use Rattle.dfa_table.specs.DfaValue.{DfaValue, step_of}
use Rattle.delta_tree.specs.declared.node.NodeId.{NodeId}
use Rattle.delta_tree.specs.Nodes.{node_id, node_of, root_id}
use Rattle.source_tree.specs.declared.change.Change.TheVariants.{Raise, Expire}
use Rattle.source_tree.specs.Ends.{SourceValue}
use Rattle.source_index.specs.Dues.{DuesValue}
use Rattle.source_index.specs.Holders.{HoldersValue, Holds, roots_at}
use Rattle.source_table.specs.Sources.{AreApart, roots_of, source_in}
use Rattle.delta_forest.specs.Keeping.{IsKept}
use Rattle.delta_forest.specs.Candidates.{Adds, AddsSource, AreCandidates, AreInOrder, AreRaised, AreTaken, IsBareAt, IsHeldBySome, IsRaisedAt}
use Rattle.delta_forest.specs.declared.index.Index.{Index}
use Rattle.delta_forest.proofs.Sources.{found_or_not, found_root, some_found}

-- ---- lists that gain roots

pub adds_both : (old now new : List ℕ) (first second kind : ℕ → Type 0) → Adds old now first →
    Adds now new second → ((root : ℕ) → (first root ⊎ second root) ↔ kind root) →
    Adds old new kind
adds_both old now new first second kind one other alike = λ root. (
  (λ member. ⊎_elim
      (λ before. ⊎_elim (λ was. inl was) (λ here. inr ((alike root).0 (inl here)))
      ((one root).0 before))
      (λ here. inr ((alike root).0 (inr here)))
      ((other root).0 member)),
  (λ either. ⊎_elim
      (λ was. (other root).1 (inl ((one root).1 (inl was))))
      (λ is. ⊎_elim (λ here. (other root).1 (inl ((one root).1 (inr here))))
      (λ here. (other root).1 (inr here)) ((alike root).1 is))
      either),
)

pub adds_like : (old new : List ℕ) (kind other : ℕ → Type 0) → Adds old new kind →
    ((root : ℕ) → kind root ↔ other root) → Adds old new other
adds_like old new kind other adds alike = λ root. (
  (λ member. ⊎_elim (λ was. inl was) (λ is. inr ((alike root).0 is)) ((adds root).0 member)),
  (λ either. (adds root).1 (⊎_elim (λ was. inl was) (λ is. inr ((alike root).1 is)) either)),
)

-- one root more of those at a place
pub next_hung : (done more : List ℕ) (one : ℕ) (kind : ℕ → Type 0) → HasOneMore done one more →
    (root : ℕ) → ((Contains done root × kind root) ⊎ ((root ≡ one) × kind root))
    ↔ (Contains more root × kind root)
next_hung done more one kind has root = (
  (λ either. ⊎_elim (λ (both : Contains done root × kind root). (has.still root both.0, both.1))
      (λ (both : (root ≡ one) × kind root).
      (subst (Contains more) (sym both.0) has.here, both.1)) either),
  (λ both. ⊎_elim (λ before. inl (before, both.1)) (λ (here : one ≡ root). inr (sym here, both.1))
      (has.cases root both.0)),
)

-- one state more
pub next_state : (done more : List ℕ) (one : ℕ) (kind : ℕ → ℕ → Type 0) →
    HasOneMore done one more → (root : ℕ) →
    (((state : ℕ) × Contains done state × kind state root) ⊎ kind one root)
    ↔ ((state : ℕ) × Contains more state × kind state root)
next_state done more one kind has root = (
  (λ either. ⊎_elim
      (λ (before : (state : ℕ) × Contains done state × kind state root).
      (before.0, has.still before.0 before.1, before.2))
      (λ here. (one, has.here, here)) either),
  (λ there. ⊎_elim (λ before. inl (there.0, before, there.2))
      (λ (here : one ≡ there.0). inr (subst (λ (state : ℕ). kind state root) (sym here) there.2))
      (has.cases there.0 there.1)),
)

-- a root is held at a vertex with one of the states that stand there
pub at_some_state : (holders : HoldersValue) (vertex : ℕ) (states : List ℕ)
    (kind : ℕ → ℕ → Type 0) →
    ((state : ℕ) → Contains states state ↔ (roots_at holders (node_id vertex state) ≢ [])) →
    ((state root : ℕ) → kind state root → Holds holders (node_id vertex state) root) →
    (root : ℕ) → ((state : ℕ) × Contains states state × kind state root)
    ↔ ((state : ℕ) × kind state root)
at_some_state holders vertex states kind stand held root = (
  (λ there. (there.0, there.2)),
  (λ there. (
    there.0,
    (stand there.0).1 (λ none.
        none_in root (subst (λ (roots : List ℕ). Contains roots root) none
        (held there.0 root there.1))),
    there.1,
  )),
)

-- ---- a new source

find_new : (old : List SourceValue) (source : SourceValue) (each : ℕ) →
    source_in (old ++ source ∷ []) each
    ≡ option_or (source_in old each) (cond (source.tree.root == each) (Some source) None)
find_new old source each =
    find-append (λ (one : SourceValue). one.tree.root == each) old (source ∷ [])

none_any : (sources : List SourceValue) (root : ℕ) → source_in sources root ≡ None →
    list_any (λ (each : ℕ). root == each) (roots_of sources) ≡ false
none_any [] root none = refl
none_any (first ∷ rest) root none = ⊎_elim
    (λ (here : first.tree.root ≡ root).
    absurd (none-some first (sym none
    ∙ ap (λ (b : Bool). cond b (Some first) (source_in rest root))
    (eq-eqb first.tree.root root here))))
    (λ differ.
    let none_rest : source_in rest root ≡ None =
    ap (λ (b : Bool). cond b (Some first) (source_in rest root))
    (sym (ne_eqb first.tree.root root differ)) ∙ none in
    ap (λ (b : Bool). b || list_any (λ (each : ℕ). root == each) (roots_of rest))
    (ne_eqb root first.tree.root (λ is. differ (sym is)))
    ∙ none_any rest root none_rest)
    (cases_eq first.tree.root root)

pub none_unless_some : {A B : Type 0} (view : A → B) (found : Option A) (other : Option B) →
    is_some found ≡ false → option_map view found ≡ other → other ≡ None
none_unless_some view None other is same = sym same
none_unless_some view (Some x) other is same = absurd (true≢false is)

pub source_added : (old new : List SourceValue) (root : ℕ) (source : SourceValue) →
    AreApart old → source_in old root ≡ None → new ≡ old ++ source ∷ [] → IsBareAt root source →
    AddsSource old new root
source_added old new root source apart none is bare = record {
  apart = subst AreApart (sym is)
      (subst (λ (roots : List ℕ). IsDistinct (λ (one other : ℕ). one == other) roots)
      (sym (map-append (λ (each : SourceValue). each.tree.root) old (source ∷ [])))
      (IsDistinct-push nat_eq_equiv (roots_of old) source.tree.root apart
      (ap (λ (at : ℕ). list_any (λ (each : ℕ). at == each) (roots_of old)) bare.root_is
      ∙ none_any old root none)));
  stays = λ each other found.
      in_new each ∙ ap (λ (one : Option SourceValue).
      option_or one (cond (source.tree.root == each) (Some source) None)) found;
  only = λ each other found. ⊎_elim
      (λ (was : (one : SourceValue) × (source_in old each ≡ Some one)).
      inl (was.1 ∙ (sym (in_new each ∙ ap (λ (one : Option SourceValue).
      option_or one (cond (source.tree.root == each) (Some source) None)) was.1) ∙ found)))
      (λ (gone : source_in old each ≡ None). ⊎_elim
      (λ (here : source.tree.root ≡ each).
      let same = same_Some source other (sym (at_end each gone
      ∙ ap (λ (b : Bool). cond b (Some source) None) (eq-eqb source.tree.root each here)) ∙ found)
      in
      inr (sym (sym bare.root_is ∙ here), none, subst (IsBareAt root) same bare))
      (λ differ.
      absurd (none-some other (sym (at_end each gone
      ∙ ap (λ (b : Bool). cond b (Some source) None) (ne_eqb source.tree.root each differ))
      ∙ found)))
      (cases_eq source.tree.root each))
      (found_or_not (source_in old each));
  there = ap is_some (at_end root none
      ∙ ap (λ (b : Bool). cond b (Some source) None) (eq-eqb source.tree.root root bare.root_is));
}
  where
    in_new : (each : ℕ) → source_in new each
        ≡ option_or (source_in old each) (cond (source.tree.root == each) (Some source) None)
    in_new each =
        ap (λ (sources : List SourceValue). source_in sources each) is ∙ find_new old source each

    at_end : (each : ℕ) → source_in old each ≡ None →
        source_in new each ≡ cond (source.tree.root == each) (Some source) None
    at_end each gone = in_new each ∙ ap (λ (one : Option SourceValue).
        option_or one (cond (source.tree.root == each) (Some source) None)) gone

-- ---- candidates

pub ordered_like : (roots before : List ℕ) (kind : ℕ → Type 0) →
    AreInOrder (Contains before) roots → Adds [] before kind → AreInOrder kind roots
ordered_like roots before kind order adds = record {
  sorted = order.sorted;
  exact = λ root. (
    (λ member. ⊎_elim (λ was. absurd (none_in root was)) (λ is. is)
        ((adds root).0 ((order.exact root).0 member))),
    (λ is. (order.exact root).1 ((adds root).1 (inr is))),
  );
}

-- fewer than two are in order
pub few_in_order : (roots : List ℕ) → length roots ≤ 1 → AreInOrder (Contains roots) roots
few_in_order roots few = record {
  sorted = sorted_from_strictly_increasing roots (λ k within. absurd (omega (arith, few, within)));
  exact = λ root. ((λ member. member), (λ member. member));
}

pub raised_adds : (holders : HoldersValue) (step : ℕ → ℕ → Option ℕ) (edge : EdgeId)
    (start roots : List ℕ) →
    Adds [] start (λ root. IsSome (step 0 edge.label) × (root ≡ edge.from)) →
    Adds start roots (IsHeldBySome holders step edge) →
    Adds [] roots (IsRaisedAt holders step edge)
raised_adds holders step edge start roots first second =
    adds_both [] start roots (λ root. IsSome (step 0 edge.label) × (root ≡ edge.from))
    (IsHeldBySome holders step edge) (IsRaisedAt holders step edge)
    first second (λ root. ((λ either. either), (λ either. either)))

module _ (dfa : DfaValue) (store : Edges) (calls : ℕ) (index : Index)
    (kept : IsKept dfa store calls index) where
  pub raise_candidates : (edge : EdgeId) (value : ℕ) (sources : List SourceValue)
      (roots : List ℕ) →
      AreRaised index.sources sources index.holders (step_of dfa) edge roots →
      AreCandidates (Raise edge value) (step_of dfa) index
      (record { sources = sources; holders = index.holders; dues = index.dues }) roots
  raise_candidates edge value sources roots are =
      let starts = are.starts.1 in
      let exact = are.order.exact in
      record {
        sorted = are.order.sorted;
        apart = starts.apart kept.apart;
        stays = starts.stays;
        only = λ root source found. ⊎_elim
            (λ (was : source_in index.sources root ≡ Some source). inl was)
            (λ (new_one : (root ≡ edge.from) × (source_in index.sources edge.from ≡ None)
            × IsBareAt edge.from source × IsSome (step_of dfa 0 edge.label)).
            inr (record {
              none = ap (λ (at : ℕ). source_in index.sources at) new_one.0 ∙ new_one.1;
              root_is = new_one.2.root_is ∙ sym new_one.0;
              bare = new_one.2.bare;
              puts = new_one.2.puts;
              listed = (exact root).1 (inl (new_one.3, new_one.0));
            }))
            (starts.only root source found);
        starts = λ state leads. starts.there (ap is_some leads);
        elsewhere = λ root source found unlisted goes. unlisted (⊎_elim
            (λ (is : goes.id ≡ root_id source.tree).
            let here : root ≡ edge.from =
            sym (found_root index.sources root source found)
            ∙ (sym (ap (λ (id : NodeId). id.vertex) is) ∙ goes.leaves) in
            let leads : step_of dfa 0 edge.label ≡ Some goes.state =
            ap (λ (id : NodeId). step_of dfa id.state edge.label) (sym is) ∙ goes.leads in
            (exact root).1 (inl (ap is_some leads, here)))
            (λ (some : IsSome (node_of source.tree goes.id)).
            let node = some_found (node_of source.tree goes.id) some in
            let holds = (kept.held root goes.id).1
            (record { source = source; node = node.0; found = found; there = node.1 }) in
            (exact root).1 (inr (
              goes.id.state,
              (
                ap is_some goes.leads,
                subst (λ (vertex : ℕ). Holds index.holders (node_id vertex goes.id.state) root)
                    goes.leaves holds,
              ),
            )))
            goes.place);
        reason = λ root member. ⊎_elim
            (λ (both : IsSome (step_of dfa 0 edge.label) × (root ≡ edge.from)). inl both.1)
            (λ (has : IsHeldBySome index.holders (step_of dfa) edge root).
            inr (has.0, (kept.held root (node_id edge.from has.0)).0 has.1.1))
            ((exact root).0 member);
        holders = refl;
        dues = λ root unlisted. refl;
        still = refl;
      }

  pub expire_candidates : (now : ℕ) (dues : DuesValue) (roots : List ℕ) →
      AreTaken index.dues dues now roots →
      AreCandidates (Expire now) (step_of dfa) index
      (record { sources = index.sources; holders = index.holders; dues = dues }) roots
  expire_candidates now dues roots are = record {
    sorted = are.sorted;
    apart = kept.apart;
    stays = λ root source found. found;
    only = λ root source found. inl found;
    starts = tt;
    elsewhere = λ root source found unlisted id node is.
        let due = kept.due root source found id node is in
        let later = are.later root due.0 (are.others root unlisted ∙ due.1) in
        omega (arith, later, due.2);
    reason = λ root member. tt;
    holders = refl;
    dues = are.others;
    still = tt;
  }

-- ---- final states

-- those of a kind below a state more
pub next_final : (kind : ℕ → Type 0) (bound : ℕ) (old new : List ℕ) →
    ((state : ℕ) → Contains old state ↔ ((state < bound) × kind state)) →
    Adds old new (λ each. (each ≡ bound) × kind each) → (state : ℕ) →
    Contains new state ↔ ((state < bound + 1) × kind state)
next_final kind bound old new before adds state = (
  (λ member. ⊎_elim
      (λ was. let both = (before state).0 was in (omega (arith, both.0), both.1))
      (λ (both : (state ≡ bound) × kind state). (omega (arith, both.0), both.1))
      ((adds state).0 member)),
  (λ both. (adds state).1 (⊎_elim
      (λ (here : state ≡ bound). inr (here, both.1))
      (λ differ. inl ((before state).1 (below both.0 differ, both.1)))
      (cases_eq state bound))),
)
  where
    below : state < bound + 1 → (state ≡ bound → ⊥) → state < bound
    below less differ = grind (arith, less, differ)
