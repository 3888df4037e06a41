-- Rows of vertices, changed, and the pairs that they are.
use Rattle.std.proofs.Common.{◌≡◌, ℕ, zero, suc, ◌+◌, Bool, true, false, List, [], ◌∷◌, ◌++◌, take}
use Rattle.std.proofs.Common.{Option, Some, cond, refl, sym, ap, subst, ◌∙◌, ◌⊎◌, inl, inr, ⊎_elim}
use Rattle.std.proofs.Common.{arith}
use Rattle.std.specs.Prelude.{◌↔◌, Contains, slice_get, if◌then◌else◌}
use Rattle.std.specs.Cmp.Lexicographic.{nat_list_eq_equiv}
use Rattle.std.specs.List.{IsDistinct}
use Rattle.std.specs.Map.{keys_of, lookup}
use Rattle.std.specs.Option.{unwrap_or}
use Rattle.std.proofs.lemmas.Bool.{false≢true}
use Rattle.std.proofs.lemmas.Map.{lookup-none}
use Rattle.std.proofs.lemmas.Map.Entries.{none_past_head}
use Rattle.std.proofs.lemmas.List.Elements.{Contains-append_left, Contains-append_right, Contains-append_cases, Contains-push, Contains-push_cases}
use Rattle.rpq_base.specs.Same.{same_name}
use Rattle.rpq_base.specs.declared.data.Pair.{Pair}
use Rattle.rpq_base.proofs.Members.{none_in, HasOneMore}
use Rattle.join_bindings.specs.Pairs.{Rows, row_of, AddsTo, TakesFrom, Sets, pair, pairs_from}
use Rattle.join_bindings.specs.Pairs.{pairs_of, AreSides}
use Rattle.join_bindings.proofs.Vertices.{Compared, equal, differ, compared}
use Rattle.join_file.proofs.Mapping.{mapped}

-- the row of one vertex is replaced
abbrev pub Replaces : Rows → Rows → List ℕ → List (List ℕ) → Type 0
Replaces before after vertex row =
    (other : List ℕ) → row_of after other ≡ cond (same_name vertex other) row (row_of before other)

-- it is taken out, and another put in
pub replaced : (first before after : Rows) (vertex key : List ℕ) (row : List (List ℕ)) → key ≡ vertex →
    Replaces first before vertex [] → Replaces before after key row → Replaces first after vertex row
replaced first before after vertex key row is taken put other = by (compared vertex other)
  where
    now : row_of after other ≡ cond (same_name vertex other) row (row_of before other)
    now = put other ∙ ap (λ (name : List ℕ). cond (same_name name other) row (row_of before other)) is

    by : Compared vertex other → row_of after other ≡ cond (same_name vertex other) row (row_of first other)
    by (equal same e) = now ∙ ap (λ test. cond test row (row_of before other)) e ∙ sym (ap (λ test. cond test row (row_of first other)) e)
    by (differ apart e) =
        now ∙ ap (λ test. cond test row (row_of before other)) e
        ∙ (taken other ∙ ap (λ test. cond test [] (row_of first other)) e)
        ∙ sym (ap (λ test. cond test row (row_of first other)) e)

pub adds_to : (before after : Rows) (vertex other : List ℕ) (row : List (List ℕ)) → Replaces before after vertex row →
    ((each : List ℕ) → Contains row each ↔ (Contains (row_of before vertex) each ⊎ (other ≡ each))) →
    AddsTo before after vertex other
adds_to before after vertex other row replaces added from to = by (compared vertex from)
  where
    by : Compared vertex from → Contains (row_of after from) to ↔ (Contains (row_of before from) to ⊎ ((vertex ≡ from) × (other ≡ to)))
    by (equal same e) =
        let is : row_of after from ≡ row = replaces from ∙ ap (λ test. cond test row (row_of before from)) e in
        subst (λ (list : List (List ℕ)). Contains list to ↔ (Contains (row_of before from) to ⊎ ((vertex ≡ from) × (other ≡ to)))) (sym is) (
          (λ member. ⊎_elim
              (λ there. inl (subst (λ (name : List ℕ). Contains (row_of before name) to) same there))
              (λ here. inr (same, here))
              ((added to).0 member)),
          (λ either. (added to).1 (⊎_elim
              (λ there. inl (subst (λ (name : List ℕ). Contains (row_of before name) to) (sym same) there))
              (λ here. inr here.1)
              either)),
        )
    by (differ apart e) =
        let is : row_of after from ≡ row_of before from = replaces from ∙ ap (λ test. cond test row (row_of before from)) e in
        subst (λ (list : List (List ℕ)). Contains list to ↔ (Contains (row_of before from) to ⊎ ((vertex ≡ from) × (other ≡ to)))) (sym is) (
          (λ member. inl member),
          (λ either. ⊎_elim (λ there. there) (λ here. absurd (apart here.0)) either),
        )

pub takes_from : (before after : Rows) (vertex other : List ℕ) (row : List (List ℕ)) → Replaces before after vertex row →
    ((each : List ℕ) → Contains row each ↔ (Contains (row_of before vertex) each × (other ≡ each → ⊥))) →
    TakesFrom before after vertex other
takes_from before after vertex other row replaces left from to = by (compared vertex from)
  where
    by : Compared vertex from → Contains (row_of after from) to ↔ (Contains (row_of before from) to × ((vertex ≡ from) × (other ≡ to) → ⊥))
    by (equal same e) =
        let is : row_of after from ≡ row = replaces from ∙ ap (λ test. cond test row (row_of before from)) e in
        subst (λ (list : List (List ℕ)). Contains list to ↔ (Contains (row_of before from) to × ((vertex ≡ from) × (other ≡ to) → ⊥))) (sym is) (
          (λ member.
              let both = (left to).0 member in
              (subst (λ (name : List ℕ). Contains (row_of before name) to) same both.0, λ here. both.1 here.1)),
          (λ both. (left to).1 (
            subst (λ (name : List ℕ). Contains (row_of before name) to) (sym same) both.0,
            λ here. both.1 (same, here),
          )),
        )
    by (differ apart e) =
        let is : row_of after from ≡ row_of before from = replaces from ∙ ap (λ test. cond test row (row_of before from)) e in
        subst (λ (list : List (List ℕ)). Contains list to ↔ (Contains (row_of before from) to × ((vertex ≡ from) × (other ≡ to) → ⊥))) (sym is) (
          (λ member. (member, λ here. apart here.0)),
          (λ both. both.0),
        )

-- both as one
pub set_by_adding : (before after : Rows) (vertex other : List ℕ) → IsDistinct same_name (keys_of after) →
    AddsTo before after vertex other → Sets before after vertex other true
set_by_adding before after vertex other distinct adds = record {
  apart = distinct;
  own = ((λ is. (adds vertex other).1 (inr (refl, refl))), (λ member. refl));
  others = λ from to apart. (
    (λ member. ⊎_elim (λ there. there) (λ here. absurd (apart here)) ((adds from to).0 member)),
    (λ member. (adds from to).1 (inl member)),
  );
}

pub set_by_taking : (before after : Rows) (vertex other : List ℕ) → IsDistinct same_name (keys_of after) →
    TakesFrom before after vertex other → Sets before after vertex other false
set_by_taking before after vertex other distinct takes = record {
  apart = distinct;
  own = ((λ is. absurd (false≢true is)), (λ member. absurd (((takes vertex other).0 member).1 (refl, refl))));
  others = λ from to apart. (
    (λ member. ((takes from to).0 member).0),
    (λ member. (takes from to).1 (member, apart)),
  );
}

-- ---- both sides

pub sides_set : (sources targets new_sources new_targets : Rows) (from to : List ℕ) (added : Bool) → AreSides sources targets →
    Sets sources new_sources from to added → Sets targets new_targets to from added → AreSides new_sources new_targets
sides_set sources targets new_sources new_targets from to added sides here there = record {
  apart = here.apart;
  turned = λ source target. by source target (compared from source) (compared to target);
}
  where
    apart : (source target : List ℕ) → ((from ≡ source) × (to ≡ target) → ⊥) →
        Contains (row_of new_targets target) source ↔ Contains (row_of new_sources source) target
    apart source target differs =
        let turned = sides.turned source target in
        let now = here.others source target differs in
        let also = there.others target source (λ both. differs (both.1, both.0)) in (
          (λ member. now.1 (turned.0 (also.0 member))),
          (λ member. also.1 (turned.1 (now.0 member))),
        )

    by : (source target : List ℕ) → Compared from source → Compared to target →
        Contains (row_of new_targets target) source ↔ Contains (row_of new_sources source) target
    by source target (equal one e) (equal two f) =
        subst (λ (name : List ℕ). Contains (row_of new_targets target) name ↔ Contains (row_of new_sources name) target) one
        (subst (λ (name : List ℕ). Contains (row_of new_targets name) from ↔ Contains (row_of new_sources from) name) two (
          (λ member. here.own.0 (there.own.1 member)),
          (λ member. there.own.0 (here.own.1 member)),
        ))
    by source target (equal one e) (differ two f) = apart source target (λ both. two both.1)
    by source target (differ one e) two = apart source target (λ both. one both.0)

-- ---- the pairs of rows

-- the pairs of a source with its targets
from_one : (source : List ℕ) (targets : List (List ℕ)) (one : Pair) →
    Contains (pairs_from (source, targets)) one ↔ ((source ≡ one.from) × Contains targets one.to)
from_one source targets one =
    let is = mapped (λ (to : List ℕ). pair source to) targets one in (
      (λ member.
          let from = is.0 member in (
            ap (λ (each : Pair). each.from) from.2,
            subst (Contains targets) (ap (λ (each : Pair). each.to) from.2) from.1,
          )),
      (λ both. is.1 (one.to, both.1, ap (λ (from : List ℕ). pair from one.to) both.0)),
    )

pub pairs_are : (rows : Rows) → IsDistinct same_name (keys_of rows) → (one : Pair) →
    Contains (pairs_of rows) one ↔ Contains (row_of rows one.from) one.to
unfolding IsDistinct
pairs_are [] distinct one = (
  (λ member. absurd (none_in one member)),
  (λ member. absurd (none_in one.to member)),
)
pairs_are ((source, targets) ∷ rows) distinct one = by (compared one.from source) (pairs_are rows distinct.1 one)
  where
    here : Contains (pairs_from (source, targets)) one ↔ ((source ≡ one.from) × Contains targets one.to)
    here = from_one source targets one

    by : Compared one.from source → Contains (pairs_of rows) one ↔ Contains (row_of rows one.from) one.to →
        Contains (pairs_from (source, targets) ++ pairs_of rows) one ↔ Contains (row_of ((source, targets) ∷ rows) one.from) one.to
    by (equal same e) later =
        let is : row_of ((source, targets) ∷ rows) one.from ≡ targets =
        ap (λ test. unwrap_or (cond test (Some targets) (lookup (same_name one.from) rows)) []) e in
        let none : row_of rows one.from ≡ [] =
        ap (λ found. unwrap_or found [])
        (lookup-none (same_name one.from) rows (none_past_head nat_list_eq_equiv one.from (source, targets) rows distinct e)) in
        subst (λ (list : List (List ℕ)). Contains (pairs_from (source, targets) ++ pairs_of rows) one ↔ Contains list one.to) (sym is) (
          (λ member. ⊎_elim
              (λ first. (here.0 first).1)
              (λ more. absurd (none_in one.to (subst (λ (list : List (List ℕ)). Contains list one.to) none (later.0 more))))
              (Contains-append_cases (pairs_from (source, targets)) (pairs_of rows) one member)),
          (λ member. Contains-append_left (pairs_from (source, targets)) (pairs_of rows) one (here.1 (sym same, member))),
        )
    by (differ apart e) later =
        let is : row_of ((source, targets) ∷ rows) one.from ≡ row_of rows one.from =
        ap (λ test. unwrap_or (cond test (Some targets) (lookup (same_name one.from) rows)) []) e in
        subst (λ (list : List (List ℕ)). Contains (pairs_from (source, targets) ++ pairs_of rows) one ↔ Contains list one.to) (sym is) (
          (λ member. ⊎_elim
              (λ first. absurd (apart (sym (here.0 first).0)))
              (λ more. later.0 more)
              (Contains-append_cases (pairs_from (source, targets)) (pairs_of rows) one member)),
          (λ member. Contains-append_right (pairs_from (source, targets)) (pairs_of rows) one (later.1 member)),
        )

-- the pairs of one row more
pub rows_more : (rows : Rows) (place : ℕ) (source : List ℕ) (targets : List (List ℕ)) →
    slice_get rows place ≡ Some (source, targets) → (one : Pair) →
    Contains (pairs_of (take (suc place) rows)) one
    ↔ (Contains (pairs_of (take place rows)) one ⊎ ((source ≡ one.from) × Contains targets one.to))
rows_more [] place source targets is one = absurd cc
rows_more (first ∷ rows) zero source targets is one =
    subst (λ (entry : List ℕ × List (List ℕ)). Contains (pairs_from entry ++ []) one
    ↔ (Contains {X = Pair} [] one ⊎ ((source ≡ one.from) × Contains targets one.to))) (sym (same_entry first (source, targets) is)) (
      (λ member. ⊎_elim (λ here. inr ((from_one source targets one).0 here)) (λ none. absurd (none_in one none))
          (Contains-append_cases (pairs_from (source, targets)) [] one member)),
      (λ either. ⊎_elim (λ none. absurd (none_in one none))
          (λ both. Contains-append_left (pairs_from (source, targets)) [] one ((from_one source targets one).1 both)) either),
    )
  where
    same_entry : (a b : List ℕ × List (List ℕ)) → ◌≡◌ {A = Option (List ℕ × List (List ℕ))} (Some a) (Some b) → a ≡ b
    same_entry a b e = cc
rows_more (first ∷ rows) (suc place) source targets is one =
    let later = rows_more rows place source targets is one in
    let front = pairs_from first in
    let before = pairs_of (take place rows) in
    let after = pairs_of (take (suc place) rows) in (
      (λ member. ⊎_elim
          (λ here. inl (Contains-append_left front before one here))
          (λ there. ⊎_elim (λ old. inl (Contains-append_right front before one old)) (λ new. inr new) (later.0 there))
          (Contains-append_cases front after one member)),
      (λ either. ⊎_elim
          (λ old. ⊎_elim
          (λ here. Contains-append_left front after one here)
          (λ there. Contains-append_right front after one (later.1 (inl there)))
          (Contains-append_cases front before one old))
          (λ new. Contains-append_right front after one (later.1 (inr new)))
          either),
    )

-- what is found once the pairs of one row more are
pub row_found : (rows : Rows) (place : ℕ) (source : List ℕ) (targets : List (List ℕ)) (found more : List Pair) →
    slice_get rows place ≡ Some (source, targets) → (one : Pair) →
    Contains found one ↔ Contains (pairs_of (take place rows)) one →
    Contains more one ↔ (Contains found one ⊎ ((source ≡ one.from) × Contains targets one.to)) →
    Contains more one ↔ Contains (pairs_of (take (place + 1) rows)) one
row_found rows place source targets found more is one so_far now =
    let counted : suc place ≡ place + 1 = omega arith in
    let step = subst (λ (count : ℕ). Contains (pairs_of (take count rows)) one
    ↔ (Contains (pairs_of (take place rows)) one ⊎ ((source ≡ one.from) × Contains targets one.to))) counted
    (rows_more rows place source targets is one) in (
      (λ member. step.1 (⊎_elim (λ old. inl (so_far.0 old)) (λ new. inr new) (now.0 member))),
      (λ member. now.1 (⊎_elim (λ old. inl (so_far.1 old)) (λ new. inr new) (step.0 member))),
    )

-- ---- what is known of a pair

-- the pairs with this source are those with the targets of its row
pub of_source : (set : List Pair) (sources targets : Rows) (from : List ℕ) (found : List Pair) → AreSides sources targets → pairs_of sources ≡ set →
    (one : Pair) → Contains found one ↔ (Contains {X = Pair} [] one ⊎ ((from ≡ one.from) × Contains (row_of sources from) one.to)) →
    Contains found one ↔ (Contains set one × (from ≡ one.from))
of_source set sources targets from found sides is one now =
    let are = pairs_are sources sides.apart one in (
      (λ member. ⊎_elim
          (λ none. absurd (none_in one none))
          (λ both. (
            subst (λ (list : List Pair). Contains list one) is
                (are.1 (subst (λ (name : List ℕ). Contains (row_of sources name) one.to) both.0 both.1)),
            both.0,
          ))
          (now.0 member)),
      (λ both. now.1 (inr (
        both.1,
        subst (λ (name : List ℕ). Contains (row_of sources name) one.to) (sym both.1)
            (are.0 (subst (λ (list : List Pair). Contains list one) (sym is) both.0)),
      ))),
    )

-- and those with this target are those with the sources of its row
pub of_target : (set : List Pair) (sources targets : Rows) (to : List ℕ) (found : List Pair) → AreSides sources targets → pairs_of sources ≡ set →
    (one : Pair) → Contains found one ↔ (Contains {X = Pair} [] one ⊎ ((to ≡ one.to) × Contains (row_of targets to) one.from)) →
    Contains found one ↔ (Contains set one × (to ≡ one.to))
of_target set sources targets to found sides is one now =
    let are = pairs_are sources sides.apart one in
    let turned = sides.turned one.from one.to in (
      (λ member. ⊎_elim
          (λ none. absurd (none_in one none))
          (λ both. (
            subst (λ (list : List Pair). Contains list one) is
                (are.1 (turned.0 (subst (λ (name : List ℕ). Contains (row_of targets name) one.from) both.0 both.1))),
            both.0,
          ))
          (now.0 member)),
      (λ both. now.1 (inr (
        both.1,
        subst (λ (name : List ℕ). Contains (row_of targets name) one.from) (sym both.1)
            (turned.1 (are.0 (subst (λ (list : List Pair). Contains list one) (sym is) both.0))),
      ))),
    )

-- a pair is there where the row of its source has its target
pub is_there : (set : List Pair) (sources targets : Rows) (from to : List ℕ) → AreSides sources targets → pairs_of sources ≡ set →
    Contains (row_of sources from) to ↔ Contains set (pair from to)
is_there set sources targets from to sides is =
    let are = pairs_are sources sides.apart (pair from to) in (
      (λ member. subst (λ (list : List Pair). Contains list (pair from to)) is (are.1 member)),
      (λ member. are.0 (subst (λ (list : List Pair). Contains list (pair from to)) (sym is) member)),
    )

-- the pair is there after where it is added, and the others as they were
pub own_pair : (sources targets : Rows) (one : Pair) (added : Bool) → AreSides sources targets →
    (added ≡ true) ↔ Contains (row_of sources one.from) one.to → (added ≡ true) ↔ Contains (pairs_of sources) one
own_pair sources targets one added sides own =
    let are = pairs_are sources sides.apart one in (
      (λ e. are.1 (own.0 e)),
      (λ member. own.1 (are.0 member)),
    )

pub other_pairs : (sources targets new_sources new_targets : Rows) (one other : Pair) (added : Bool) → AreSides sources targets →
    AreSides new_sources new_targets → Sets sources new_sources one.from one.to added → (one ≡ other → ⊥) →
    Contains (pairs_of new_sources) other ↔ Contains (pairs_of sources) other
other_pairs sources targets new_sources new_targets one other added sides new_sides sets differs =
    let before = pairs_are sources sides.apart other in
    let after = pairs_are new_sources new_sides.apart other in
    let same = sets.others other.from other.to
    (λ both. differs (λ i. record { from = both.0 i; to = both.1 i })) in (
      (λ member. before.1 (same.0 (after.0 member))),
      (λ member. after.1 (same.1 (before.0 member))),
    )

-- ---- one pair more

-- what is pushed is found
pushed : (found more : List Pair) (new : Pair) → more ≡ found ++ new ∷ [] → (one : Pair) →
    Contains more one ↔ (Contains found one ⊎ (new ≡ one))
pushed found more new is one = subst (λ (list : List Pair). Contains list one ↔ (Contains found one ⊎ (new ≡ one))) (sym is) (
  Contains-push_cases found new one,
  (λ either. ⊎_elim
      (λ there. Contains-append_left found (new ∷ []) one there)
      (λ here. subst (λ (each : Pair). Contains (found ++ new ∷ []) each) here (Contains-push found new))
      either),
)

-- one target more
pub target_more : (from : List ℕ) (before after : List (List ℕ)) (target : List ℕ) (found more : List Pair) (Old : Type 0) (one : Pair) →
    HasOneMore before target after → more ≡ found ++ pair from target ∷ [] →
    Contains found one ↔ (Old ⊎ ((from ≡ one.from) × Contains before one.to)) →
    Contains more one ↔ (Old ⊎ ((from ≡ one.from) × Contains after one.to))
target_more from before after target found more Old one step is so_far =
    let now = pushed found more (pair from target) is one in (
      (λ member. ⊎_elim
          (λ there. ⊎_elim (λ old. inl old) (λ both. inr (both.0, step.still one.to both.1)) (so_far.0 there))
          (λ here. inr (
            ap (λ (each : Pair). each.from) here,
            subst (Contains after) (ap (λ (each : Pair). each.to) here) step.here,
          ))
          (now.0 member)),
      (λ either. now.1 (⊎_elim
          (λ old. inl (so_far.1 (inl old)))
          (λ both. ⊎_elim
          (λ there. inl (so_far.1 (inr (both.0, there))))
          (λ here. inr (ap (λ (source : List ℕ). pair source target) both.0 ∙ ap (pair one.from) here))
          (step.cases one.to both.1))
          either)),
    )

-- one source more
pub source_more : (to : List ℕ) (before after : List (List ℕ)) (source : List ℕ) (found more : List Pair) (Old : Type 0) (one : Pair) →
    HasOneMore before source after → more ≡ found ++ pair source to ∷ [] →
    Contains found one ↔ (Old ⊎ ((to ≡ one.to) × Contains before one.from)) →
    Contains more one ↔ (Old ⊎ ((to ≡ one.to) × Contains after one.from))
source_more to before after source found more Old one step is so_far =
    let now = pushed found more (pair source to) is one in (
      (λ member. ⊎_elim
          (λ there. ⊎_elim (λ old. inl old) (λ both. inr (both.0, step.still one.from both.1)) (so_far.0 there))
          (λ here. inr (
            ap (λ (each : Pair). each.to) here,
            subst (Contains after) (ap (λ (each : Pair). each.from) here) step.here,
          ))
          (now.0 member)),
      (λ either. now.1 (⊎_elim
          (λ old. inl (so_far.1 (inl old)))
          (λ both. ⊎_elim
          (λ there. inl (so_far.1 (inr (both.0, there))))
          (λ here. inr (ap (pair source) both.0 ∙ ap (λ (from : List ℕ). pair from one.to) here))
          (step.cases one.from both.1))
          either)),
    )

-- one pair more, if it is there
pub one_there : (set : List Pair) (from to : List ℕ) (there : Bool) → (there ≡ true) ↔ Contains set (pair from to) → (old found : List Pair) →
    found ≡ (if there then old ++ pair from to ∷ [] else old) →
    (one : Pair) → Contains found one ↔ (Contains old one ⊎ (Contains set one × ((from ≡ one.from) × (to ≡ one.to))))
one_there set from to true has old found is one =
    let now = pushed old found (pair from to) is one in (
      (λ member. ⊎_elim
          (λ there. inl there)
          (λ here. inr (
            subst (Contains set) here (has.0 refl),
            (ap (λ (each : Pair). each.from) here, ap (λ (each : Pair). each.to) here),
          ))
          (now.0 member)),
      (λ either. now.1 (⊎_elim
          (λ there. inl there)
          (λ both. inr (ap (λ (source : List ℕ). pair source to) both.1.0 ∙ ap (pair one.from) both.1.1))
          either)),
    )
one_there set from to false has old found is one =
    subst (λ (list : List Pair). Contains list one ↔ (Contains old one ⊎ (Contains set one × ((from ≡ one.from) × (to ≡ one.to))))) (sym is) (
      (λ member. inl member),
      (λ either. ⊎_elim
          (λ there. there)
          (λ both. absurd (false≢true (has.1 (subst (Contains set)
          (sym (ap (λ (source : List ℕ). pair source to) both.1.0 ∙ ap (pair one.from) both.1.1)) both.0))))
          either),
    )

-- where there were none before
pub only_new : (old found : List Pair) (one : Pair) (New : Type 0) → old ≡ [] → Contains found one ↔ (Contains old one ⊎ New) → Contains found one ↔ New
only_new old found one New none now = (
  (λ member. ⊎_elim
      (λ there. absurd (none_in one (subst (λ (list : List Pair). Contains list one) none there)))
      (λ new. new)
      (now.0 member)),
  (λ new. now.1 (inr new)),
)

-- one vertex more of those among which the other end is
pub among_more : (before after : List (List ℕ)) (vertex other : List ℕ) (Is Fit Found More : Type 0) → HasOneMore before vertex after →
    More ↔ (Found ⊎ (Is × (Fit × (vertex ≡ other)))) → Found ↔ (Is × (Fit × Contains before other)) → More ↔ (Is × (Fit × Contains after other))
among_more before after vertex other Is Fit Found More step now so_far = (
  (λ more. ⊎_elim
      (λ found. let all = so_far.0 found in (all.0, (all.1.0, step.still other all.1.1)))
      (λ new. (new.0, (new.1.0, subst (Contains after) new.1.1 step.here)))
      (now.0 more)),
  (λ all. now.1 (⊎_elim
      (λ there. inl (so_far.1 (all.0, (all.1.0, there))))
      (λ here. inr (all.0, (all.1.0, here)))
      (step.cases other all.1.1))),
)

-- the same in the other order
pub both_turned : (Is First Second Found More : Type 0) → More ↔ (Found ⊎ (Is × (First × Second))) → More ↔ (Found ⊎ (Is × (Second × First)))
both_turned Is First Second Found More now = (
  (λ more. ⊎_elim (λ found. inl found) (λ new. inr (new.0, (new.1.1, new.1.0))) (now.0 more)),
  (λ either. now.1 (⊎_elim (λ found. inl found) (λ new. inr (new.0, (new.1.1, new.1.0))) either)),
)
