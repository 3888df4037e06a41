-- The roots of a place, and of all places, after a change.
use Rattle.std.proofs.Common.{◌≡◌, ◌⊎◌, inl, inr, ◌↔◌, ◌==◌, ℕ, eq-eqb, ne_eqb, eqb-true, Bool, true, false, cond, List, [], Option, None, Some, Result, Ok, Err, Contains, nat_eq, refl, sym, ap, subst, ◌∙◌, true≢false}
use Rattle.std.specs.Cmp.{nat_eq_equiv}
use Rattle.std.specs.Prelude.{OnOk, OnErr}
use Rattle.std.specs.List.{list_any}
use Rattle.std.specs.Map.{lookup}
use Rattle.std.specs.Option.{UnwrapsOrElse, unwrap_or}
use Rattle.std.proofs.lemmas.Map.Views.{Contains-from_any, list_any-from_Contains, exact_unsigned_eq}
use Rattle.delta_tree.specs.declared.node.NodeId.{NodeId}
use Rattle.source_index.specs.Holders.{HoldersValue, AddsHolder, DropsHolder, HoldsSame, Holds, roots_at, vertex_at}
use Rattle.source_index.specs.Roots.{AddsRoot, DropsRoot}
use Rattle.source_index.specs.Vertex.{RootsByState, AddsAt, DropsAt, roots_in}

-- what follows from an outcome
pub on_ok : {X E : Type 0} {P Q : Type 0} (result : Result X E) → (P → Q) → OnOk result P →
    OnOk result Q
on_ok (Ok x) then so = then so
on_ok (Err e) then so = tt

pub on_err : {X E : Type 0} {P Q : Type 0} (result : Result X E) → (P → Q) → OnErr result P →
    OnErr result Q
on_err (Ok x) then so = tt
on_err (Err e) then so = then so

-- ---- the roots of one place

-- a root that a set has is in its list
is_there : (keys : List ℕ) (each : ℕ) → list_any (nat_eq each) keys ≡ true → Contains keys each
is_there keys each = Contains-from_any exact_unsigned_eq each keys

has : (keys : List ℕ) (each : ℕ) → Contains keys each → list_any (nat_eq each) keys ≡ true
has keys each = list_any-from_Contains nat_eq_equiv each keys

-- a set in which a root was put
pub adds_root : (old new : List ℕ) (root : ℕ) →
    ((each : ℕ) → list_any (nat_eq each) new
    ≡ cond (nat_eq root each) true (list_any (nat_eq each) old)) →
    AddsRoot old new root
adds_root old new root update each = (now (nat_eq root each) refl, before)
  where
    now : (b : Bool) → nat_eq root each ≡ b → Contains new each →
        Contains old each ⊎ (each ≡ root)
    now true same there = inr (sym (exact_unsigned_eq root each same))
    now false apart there = inl (is_there old each
        (sym (ap (λ b. cond b true (list_any (nat_eq each) old)) apart) ∙ sym (update each)
        ∙ has new each there))

    either : (b : Bool) → cond b true true ≡ true
    either true = refl
    either false = refl

    before : Contains old each ⊎ (each ≡ root) → Contains new each
    before (inl was) = is_there new each (update each
        ∙ ap (cond (nat_eq root each) true) (has old each was) ∙ either (nat_eq root each))
    before (inr is) = is_there new each (update each
        ∙ ap (λ b. cond b true (list_any (nat_eq each) old))
        (ap (nat_eq root) is ∙ nat_eq_equiv.refl root))

-- a set from which a root was taken
pub drops_root : (old new : List ℕ) (root : ℕ) →
    ((each : ℕ) → list_any (nat_eq each) new
    ≡ cond (nat_eq root each) false (list_any (nat_eq each) old)) →
    DropsRoot old new root
drops_root old new root update each = (now (nat_eq root each) refl, before)
  where
    now : (b : Bool) → nat_eq root each ≡ b → Contains new each →
        Contains old each × (each ≡ root → ⊥)
    now true same there = absurd (true≢false (sym (has new each there) ∙ update each
        ∙ ap (λ b. cond b false (list_any (nat_eq each) old)) same))
    now false apart there = (
      is_there old each
          (sym (ap (λ b. cond b false (list_any (nat_eq each) old)) apart) ∙ sym (update each)
          ∙ has new each there),
      (λ is. true≢false (sym (ap (nat_eq root) is ∙ nat_eq_equiv.refl root) ∙ apart)),
    )

    by : (b : Bool) → nat_eq root each ≡ b → Contains old each → (each ≡ root → ⊥) →
        Contains new each
    by true same was other = absurd (other (sym (exact_unsigned_eq root each same)))
    by false apart was other = is_there new each (update each
        ∙ ap (λ b. cond b false (list_any (nat_eq each) old)) apart ∙ has old each was)

    before : Contains old each × (each ≡ root → ⊥) → Contains new each
    before (was, other) = by (nat_eq root each) refl was other

-- ---- the roots of all places

-- the vertex has these roots now, or none, and each other vertex those that it had
abbrev pub SetsAt : HoldersValue → HoldersValue → ℕ → Option RootsByState → Type 0
SetsAt old new vertex places = (each : ℕ) → lookup (λ other. each == other) new
    ≡ cond (vertex == each) places (lookup (λ other. each == other) old)

-- what is read at a vertex
pub read_at : (old new : HoldersValue) (vertex : ℕ) (places : Option RootsByState) →
    SetsAt old new vertex places → (each : ℕ) →
    vertex_at new each ≡ cond (vertex == each) (unwrap_or places []) (vertex_at old each)
read_at old new vertex places sets each =
    ap (λ found. unwrap_or found []) (sets each) ∙ by (vertex == each)
  where
    by : (b : Bool) → unwrap_or (cond b places (lookup (λ other. each == other) old)) []
        ≡ cond b (unwrap_or places []) (vertex_at old each)
    by true = refl
    by false = refl

-- the vertex itself
here : (old new : HoldersValue) (vertex : ℕ) (places : Option RootsByState) →
    SetsAt old new vertex places → (each : ℕ) → each ≡ vertex →
    vertex_at new each ≡ unwrap_or places []
here old new vertex places sets each is =
    read_at old new vertex places sets each
    ∙ ap (λ b. cond b (unwrap_or places []) (vertex_at old each)) (eq-eqb vertex each (sym is))

-- and another
there : (old new : HoldersValue) (vertex : ℕ) (places : Option RootsByState) →
    SetsAt old new vertex places → (each : ℕ) → (vertex ≡ each → ⊥) →
    vertex_at new each ≡ vertex_at old each
there old new vertex places sets each apart =
    read_at old new vertex places sets each
    ∙ ap (λ b. cond b (unwrap_or places []) (vertex_at old each)) (ne_eqb vertex each apart)

-- the place with this vertex and this state
place_is : (place id : NodeId) → place.vertex ≡ id.vertex → place.state ≡ id.state → place ≡ id
place_is place id vertex state = λ i. record { vertex = vertex i; state = state i }

-- a root was put into the set of the place
pub adds_holder : (old new : HoldersValue) (id : NodeId) (root : ℕ) (places : RootsByState) →
    SetsAt old new id.vertex (Some places) →
    AddsAt (vertex_at old id.vertex) places id.state root → AddsHolder old new id root
adds_holder old new id root places sets adds place each = by (id.vertex == place.vertex) refl
  where
    by : (b : Bool) → (id.vertex == place.vertex) ≡ b →
        Holds new place each ↔ (Holds old place each ⊎ ((place ≡ id) × (each ≡ root)))
    by true same =
        let at : place.vertex ≡ id.vertex = sym (eqb-true id.vertex place.vertex same) in
        let now : roots_at new place ≡ roots_in places place.state =
        ap (λ v. roots_in v place.state)
        (here old new id.vertex (Some places) sets place.vertex at) in
        let was : roots_in (vertex_at old id.vertex) place.state ≡ roots_at old place =
        ap (λ v. roots_in (vertex_at old v) place.state) (sym at) in (
          (λ held. elim ((adds place.state each).0 (subst (λ l. Contains l each) now held)) [
            | inl before ↦ inl (subst (λ l. Contains l each) was before)
            | inr both ↦ inr (place_is place id at both.0, both.1)
          ]),
          (λ which. subst (λ l. Contains l each) (sym now) ((adds place.state each).1 (elim which [
            | inl before ↦ inl (subst (λ l. Contains l each) (sym was) before)
            | inr both ↦ inr (ap (λ (p : NodeId). p.state) both.0, both.1)
          ]))),
        )
    by false apart =
        let now : roots_at new place ≡ roots_at old place =
        ap (λ v. roots_in v place.state)
        (there old new id.vertex (Some places) sets place.vertex
        (λ is. true≢false (sym (eq-eqb id.vertex place.vertex is) ∙ apart))) in (
          (λ held. inl (subst (λ l. Contains l each) now held)),
          (λ which. elim which [
            | inl before ↦ subst (λ l. Contains l each) (sym now) before
            | inr both ↦ absurd (true≢false
                (sym (eq-eqb id.vertex place.vertex (sym (ap (λ (p : NodeId). p.vertex) both.0)))
                ∙ apart))
          ]),
        )

-- a root was taken out of the set of the place
pub drops_holder : (old new : HoldersValue) (id : NodeId) (root : ℕ) (places : RootsByState) →
    SetsAt old new id.vertex (Some places) →
    DropsAt (vertex_at old id.vertex) places id.state root → DropsHolder old new id root
drops_holder old new id root places sets drops place each = by (id.vertex == place.vertex) refl
  where
    by : (b : Bool) → (id.vertex == place.vertex) ≡ b →
        Holds new place each ↔ (Holds old place each × ((place ≡ id) × (each ≡ root) → ⊥))
    by true same =
        let at : place.vertex ≡ id.vertex = sym (eqb-true id.vertex place.vertex same) in
        let now : roots_at new place ≡ roots_in places place.state =
        ap (λ v. roots_in v place.state)
        (here old new id.vertex (Some places) sets place.vertex at) in
        let was : roots_in (vertex_at old id.vertex) place.state ≡ roots_at old place =
        ap (λ v. roots_in (vertex_at old v) place.state) (sym at) in (
          (λ held.
              let both = (drops place.state each).0 (subst (λ l. Contains l each) now held) in (
                subst (λ l. Contains l each) was both.0,
                (λ gone. both.1 (ap (λ (p : NodeId). p.state) gone.0, gone.1)),
              )),
          (λ both. subst (λ l. Contains l each) (sym now) ((drops place.state each).1 (
            subst (λ l. Contains l each) (sym was) both.0,
            (λ gone. both.1 (place_is place id at gone.0, gone.1)),
          ))),
        )
    by false apart =
        let now : roots_at new place ≡ roots_at old place =
        ap (λ v. roots_in v place.state)
        (there old new id.vertex (Some places) sets place.vertex
        (λ is. true≢false (sym (eq-eqb id.vertex place.vertex is) ∙ apart))) in (
          (λ held. (
            subst (λ l. Contains l each) now held,
            (λ gone. true≢false
                (sym (eq-eqb id.vertex place.vertex (sym (ap (λ (p : NodeId). p.vertex) gone.0)))
                ∙ apart)),
          )),
          (λ both. subst (λ l. Contains l each) (sym now) both.0),
        )

-- the vertex has the roots that it had
pub same_at : (old new : HoldersValue) (vertex : ℕ) (places : Option RootsByState) →
    SetsAt old new vertex places → unwrap_or places [] ≡ vertex_at old vertex → (each : ℕ) →
    vertex_at new each ≡ vertex_at old each
same_at old new vertex places sets same each =
    read_at old new vertex places sets each ∙ by (vertex == each) refl
  where
    by : (b : Bool) → (vertex == each) ≡ b →
        cond b (unwrap_or places []) (vertex_at old each) ≡ vertex_at old each
    by true at = same ∙ ap (vertex_at old) (eqb-true vertex each at)
    by false apart = refl

pub holds_same : (old new : HoldersValue) →
    ((vertex : ℕ) → vertex_at new vertex ≡ vertex_at old vertex) → HoldsSame old new
holds_same old new same place each = (
  (λ held. subst (λ l. Contains (roots_in l place.state) each) (same place.vertex) held),
  (λ held. subst (λ l. Contains (roots_in l place.state) each) (sym (same place.vertex)) held),
)

-- a vertex without places was taken out afterwards
pub drops_then : (old kept new : HoldersValue) (id : NodeId) (root : ℕ) →
    DropsHolder old kept id root → vertex_at kept id.vertex ≡ [] →
    SetsAt kept new id.vertex None → DropsHolder old new id root
drops_then old kept new id root drops bare sets place each =
    let same : roots_at new place ≡ roots_at kept place =
    ap (λ v. roots_in v place.state)
    (same_at kept new id.vertex None sets (sym bare) place.vertex) in (
      (λ held. (drops place each).0 (subst (λ l. Contains l each) same held)),
      (λ both. subst (λ l. Contains l each) (sym same) ((drops place each).1 both)),
    )

-- what was found, or no roots
pub found_or_bare : (found : Option RootsByState) (bare : RootsByState → Type 0)
    (places : RootsByState) → UnwrapsOrElse found bare places →
    ((each : RootsByState) → bare each → each ≡ []) → places ≡ unwrap_or found []
found_or_bare None bare places is told = told places is
found_or_bare (Some x) bare places is told = is
