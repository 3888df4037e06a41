-- The row of a root, of the vertices that it reaches.
use Rattle.std.proofs.Common.{◌≡◌, ◌≢◌, ℕ, ◌+◌, ◌<◌, ◌==◌, Bool, true, false, not, List, [], ◌∷◌, length, map, filter, get_or, Ordering}
use Rattle.std.proofs.Common.{Some, refl, sym, ap, subst, ◌∙◌, ◌⊎◌, inl, inr, ⊎_elim, arith}
use Rattle.std.specs.Prelude.{Contains, OnOk, Result, Ok, Err}
use Rattle.std.specs.List.{All, IsDistinct}
use Rattle.std.specs.List.Sorted.{IsPermutation, IsSorted, IsStrictlySortedBy}
use Rattle.std.specs.Cmp.{IsTotalOrder}
use Rattle.std.specs.Ordering.{eq_by_cmp, is_eq, is_lt, nat_cmp, ordering_reverse}
use Rattle.std.specs.declared.cmp.Ordering.TheVariants.{Less, Equal, Greater}
use Rattle.std.proofs.lemmas.Bool.{both_ways, eq-eqb, eqb-true, false_from_ne_true, not-true}
use Rattle.std.proofs.lemmas.Cmp.{nat_cmp_total, nat_list_cmp_total, on_total, tied_itself}
use Rattle.std.proofs.lemmas.List.{get_or-map, length-map}
use Rattle.std.proofs.lemmas.List.Elements.{All-contains, All-contains_itself, All-map, All-weaker}
use Rattle.std.proofs.lemmas.List.Kept.{IsStrictlySortedBy-filter}
use Rattle.std.proofs.lemmas.List.Sorted.{All-permutation, Contains-permutation, IsPermutation-map, IsPermutation-sym}
use Rattle.std.proofs.lemmas.Map.Keys.{IsDistinct-from_sorted, IsDistinct-IsPermutation, apart_from_distinct, sorted_from_all_adjacent, sorted_tail}
use Rattle.std.proofs.lemmas.Map.Lookups.{exact_bytes}
use Rattle.std.proofs.lemmas.Map.Views.{All-after_first}
use Rattle.std.proofs.lemmas.Option.{none-some, same_Some}
use Rattle.rpq_base.specs.Order.{name_cmp}
use Rattle.rpq_base.specs.Same.{same_name}
use Rattle.rpq_base.specs.declared.data.Pair.{Pair}
use Rattle.rpq_base.proofs.Equality.{names as name_test}
use Rattle.rpq_base.proofs.Members.{cons_members, kept_members, none_in}
use Rattle.rpq_base.proofs.Sorted.{sorted_cons, sorted_nil}
use Rattle.rpq_model.specs.declared.mode.Mode.{Mode}
use Rattle.rpq_model.specs.declared.mode.Mode.TheVariants.{Arbitrary, Simple}
use Rattle.name_table.specs.Names.{name_at, number_of}
use Rattle.source_tree.specs.declared.change.Reached.{Reached}
use Rattle.delta_forest.specs.Forest.{ForestValue}
use Rattle.delta_forest.specs.Changes.{AreReachedFrom}
use Rattle.end_events.specs.Changes.{counts}
use Rattle.answer_rows.specs.Answers.{Answer, AreTargets, KeepsOtherRows, end_of, row_of, until_of}
use Rattle.answer_rows.specs.Laws.{EndsAreInRows}
use Rattle.answer_rows.specs.declared.target.Target.{Target}
use Rattle.query_index.specs.Shown.{HaveNames, Shows}
use Rattle.query_index.specs.Showing.{Renews, reached_cmp, target_at, targets_among}
use Rattle.query_index.proofs.Telling.{below, name_there, one_name}

-- what follows from a success by two of its clauses
pub both_ok : {X E P Q G : Type 0} (result : Result X E) → OnOk result P → OnOk result Q →
    (P → Q → G) → OnOk result G
both_ok (Ok x) one other gives = gives one other
both_ok (Err e) one other gives = tt

-- ---- the end of a target

-- by whether the first target has the name
first_or_later : (test : Bool) (first : Target) (rest : List Target) (to : List ℕ) (until : ℕ) →
    same_name first.to to ≡ test → end_of (first ∷ rest) to ≡ Some until →
    (first ≡ record { to = to; until = until }) ⊎ (end_of rest to ≡ Some until)
first_or_later true first rest to until is there =
    let name = (name_test first.to to).0 is in
    let end : Some first.until ≡ Some until = rw is at there in
    let value = same_Some first.until until end in
    inl (λ i. record { to = name i; until = value i })
first_or_later false first rest to until is there = inr (rw is at there)

-- a target with an end is one of the row
end_is_member : (targets : List Target) (to : List ℕ) (until : ℕ) →
    end_of targets to ≡ Some until → Contains targets (record { to = to; until = until })
end_is_member [] to until there = absurd (none-some until there)
end_is_member (first ∷ rest) to until there =
    (cons_members first rest (record { to = to; until = until })).1 (⊎_elim
    (λ here. inl here)
    (λ later. inr (end_is_member rest to until later))
    (first_or_later (same_name first.to to) first rest to until refl there))

-- the names of a row
abbrev to_of : Target → List ℕ
to_of target = target.to

-- what holds of all names in a list holds at each element
all_read : {X Y : Type 0} (P : Y → Type 0) (read : X → Y) (xs : List X) → All P (map read xs) →
    All (λ (x : X). P (read x)) xs
all_read P read xs all = λ k d within.
    subst P (get_or-map read xs k d (read d) within)
    (all k (read d) (omega (arith, within, length-map xs read)))

-- the first of a row is before the others
all_after : (first : Target) (rest : List Target) → AreTargets (first ∷ rest) →
    All (λ (each : Target). name_cmp first.to each.to ≡ Less) rest
all_after first rest sorted =
    all_read (λ (name : List ℕ). name_cmp first.to name ≡ Less) to_of rest
    (All-after_first name_cmp first.to (map to_of rest) sorted)

-- one of a row in order has its own end
member_is_end : (targets : List Target) (to : List ℕ) (until : ℕ) → AreTargets targets →
    Contains targets (record { to = to; until = until }) → end_of targets to ≡ Some until
member_is_end [] to until sorted member =
    absurd (none_in (record { to = to; until = until }) member)
member_is_end (first ∷ rest) to until sorted member =
    by (same_name first.to to) refl
    ((cons_members first rest (record { to = to; until = until })).0 member)
    (member_is_end rest to until (sorted_tail name_cmp first.to (map to_of rest) sorted))
  where
    by : (test : Bool) → same_name first.to to ≡ test →
        (first ≡ record { to = to; until = until })
        ⊎ Contains rest (record { to = to; until = until }) →
        (Contains rest (record { to = to; until = until }) → end_of rest to ≡ Some until) →
        end_of (first ∷ rest) to ≡ Some until
    by true is either further = ⊎_elim
        (λ here. rw is (ap (λ (target : Target). Some target.until) here))
        (λ later.
        let less : name_cmp first.to to ≡ Less =
        All-contains (λ (each : Target). name_cmp first.to each.to ≡ Less) rest
        (record { to = to; until = until }) (all_after first rest sorted) later in
        let tied = ap (λ (name : List ℕ). name_cmp name to) ((name_test first.to to).0 is)
        ∙ tied_itself nat_list_cmp_total to in
        let both : Less ≡ Equal = sym less ∙ tied in
        absurd cc)
        either
    by false is either further = ⊎_elim
        (λ here. absurd (both_ways (same_name first.to to) is
        ((name_test first.to to).1 (ap to_of here))))
        (λ later. rw is (further later))
        either

-- ---- vertices by their names

-- each number is that of the name at its place
abbrev pub AreApart : List (List ℕ) → Type 0
AreApart names = (number : ℕ) → number < length names →
    number_of names (name_at names number) ≡ Some number

abbrev vertex_of : Reached → ℕ
vertex_of each = each.vertex

-- all vertices are those of names
abbrev pub AreNamed : List (List ℕ) → List Reached → Type 0
AreNamed names reached = All (λ (each : Reached). each.vertex < length names) reached

-- names are in a total order
reached_total : (names : List (List ℕ)) → IsTotalOrder (reached_cmp names)
reached_total names =
    on_total (λ (each : Reached). name_at names each.vertex) nat_list_cmp_total

-- a tie is one from both sides
tie_turns : (first second : ℕ) →
    eq_by_cmp nat_cmp first second ≡ eq_by_cmp nat_cmp second first
tie_turns first second =
    ap is_eq (nat_cmp_total.antisymm first second) ∙ by (nat_cmp second first)
  where
    by : (order : Ordering) → is_eq (ordering_reverse order) ≡ is_eq order
    by Less = refl
    by Equal = refl
    by Greater = refl

module _ (names : List (List ℕ)) (apart : AreApart names) (reached : List Reached)
    (named : AreNamed names reached)
    (once : IsDistinct (eq_by_cmp nat_cmp) (map vertex_of reached))
    (in_order : IsSorted (reached_cmp names) reached) where
  -- of two neighbours the first has the name that is before the other
  neighbours : (d : Reached) (k : ℕ) → k + 1 < length reached →
      reached_cmp names (get_or reached k d) (get_or reached (k + 1) d) ≡ Less
  neighbours d k inside =
      by (reached_cmp names (get_or reached k d) (get_or reached (k + 1) d)) refl
    where
      one_number : name_at names (get_or reached k d).vertex
          ≡ name_at names (get_or reached (k + 1) d).vertex →
          (get_or reached k d).vertex ≡ (get_or reached (k + 1) d).vertex
      one_number same = same_Some (get_or reached k d).vertex (get_or reached (k + 1) d).vertex
          (sym (apart (get_or reached k d).vertex (named k d (omega (arith, inside))))
          ∙ (ap (number_of names) same
          ∙ apart (get_or reached (k + 1) d).vertex (named (k + 1) d inside)))

      numbers_differ : (get_or reached k d).vertex ≢ (get_or reached (k + 1) d).vertex
      numbers_differ same =
          let below : k < length reached = omega (arith, inside) in
          let differ = apart_from_distinct (eq_by_cmp nat_cmp) (map vertex_of reached) k (k + 1)
          (vertex_of d) once (omega arith)
          (omega (arith, inside, length-map reached vertex_of)) in
          let here = get_or-map vertex_of reached k d (vertex_of d) below in
          let next = get_or-map vertex_of reached (k + 1) d (vertex_of d) inside in
          both_ways
          (eq_by_cmp nat_cmp (get_or (map vertex_of reached) k (vertex_of d))
          (get_or (map vertex_of reached) (k + 1) (vertex_of d))) differ
          (ap (λ (number : ℕ). eq_by_cmp nat_cmp number
          (get_or (map vertex_of reached) (k + 1) (vertex_of d))) (here ∙ (same ∙ sym next))
          ∙ ap is_eq (tied_itself nat_cmp_total
          (get_or (map vertex_of reached) (k + 1) (vertex_of d))))

      by : (order : Ordering) →
          reached_cmp names (get_or reached k d) (get_or reached (k + 1) d) ≡ order →
          reached_cmp names (get_or reached k d) (get_or reached (k + 1) d) ≡ Less
      by Less is = is
      by Equal is = absurd (numbers_differ (one_number
          (exact_bytes (name_at names (get_or reached k d).vertex)
          (name_at names (get_or reached (k + 1) d).vertex) is)))
      by Greater is = absurd (both_ways
          (is_lt (reached_cmp names (get_or reached (k + 1) d) (get_or reached k d)))
          (in_order k d (omega arith) inside)
          (ap is_lt ((reached_total names).antisymm (get_or reached (k + 1) d) (get_or reached k d)
          ∙ ap ordering_reverse is)))

  strictly : IsStrictlySortedBy (reached_cmp names) reached
  strictly =
      sorted_from_all_adjacent (reached_total names) reached (record { vertex = 0; value = 0 })
      (neighbours (record { vertex = 0; value = 0 }))

-- the targets of vertices in order are in order
targets_by_order : (names : List (List ℕ)) (reached : List Reached) →
    IsStrictlySortedBy (reached_cmp names) reached → AreTargets (map (target_at names) reached)
targets_by_order names [] sorted = sorted_nil name_cmp
targets_by_order names (first ∷ rest) sorted =
    sorted_cons name_cmp (name_at names first.vertex) (map to_of (map (target_at names) rest))
    (All-map (λ (name : List ℕ). name_cmp (name_at names first.vertex) name ≡ Less) to_of
    (map (target_at names) rest)
    (All-map (λ (target : Target). name_cmp (name_at names first.vertex) target.to ≡ Less)
    (target_at names) rest
    (All-after_first (reached_cmp names) first rest sorted)))
    (targets_by_order names rest (sorted_tail (reached_cmp names) first rest sorted))

-- ---- the targets that count

mapped : {X Y : Type 0} (give : X → Y) (xs : List X) (x : X) → Contains xs x →
    Contains (map give xs) (give x)
mapped give [] x member = absurd (none_in x member)
mapped give (first ∷ rest) x member =
    (cons_members (give first) (map give rest) (give x)).1 (⊎_elim
    (λ here. inl (ap give here))
    (λ later. inr (mapped give rest x later))
    ((cons_members first rest x).0 member))

from_mapped : {X Y : Type 0} (give : X → Y) (xs : List X) (y : Y) → Contains (map give xs) y →
    (x : X) × Contains xs x × (give x ≡ y)
from_mapped give [] y member = absurd (none_in y member)
from_mapped give (first ∷ rest) y member = ⊎_elim
    (λ here. (first, (cons_members first rest first).1 (inl refl), here))
    (λ later.
    let found = from_mapped give rest y later in
    (found.0, (cons_members first rest found.0).1 (inr found.1), found.2))
    ((cons_members (give first) (map give rest) y).0 member)

-- the target is that of a vertex whose pair with the root counts
pub record IsTargetOf (mode : Mode) (names : List (List ℕ)) (root : ℕ) (reached : List Reached)
    (to : List ℕ) (until : ℕ) : Type 0 where
  pub vertex : ℕ
  pub is : number_of names to ≡ Some vertex
  pub counted : counts mode root vertex ≡ true
  pub member : Contains reached (record { vertex = vertex; value = until })

module _ (mode : Mode) (names : List (List ℕ)) (apart : AreApart names) (root : ℕ)
    (reached : List Reached) (named : AreNamed names reached) (to : List ℕ) (until : ℕ) where
  target_from : Contains (targets_among mode names root reached)
      (record { to = to; until = until }) → IsTargetOf mode names root reached to until
  target_from member =
      let found = from_mapped (target_at names)
      (filter (λ (each : Reached). counts mode root each.vertex) reached)
      (record { to = to; until = until }) member in
      let each = found.0 in
      let both = (kept_members reached (λ (each : Reached). counts mode root each.vertex) each).0
      found.1 in
      record {
        vertex = each.vertex;
        is = ap (λ (target : Target). number_of names target.to) (sym found.2)
            ∙ apart each.vertex
            (All-contains (λ (one : Reached). one.vertex < length names) reached each named both.0);
        counted = both.1;
        member = subst (λ (value : ℕ).
            Contains reached (record { vertex = each.vertex; value = value }))
            (ap (λ (target : Target). target.until) found.2) both.0;
      }

  target_into : IsTargetOf mode names root reached to until →
      Contains (targets_among mode names root reached) (record { to = to; until = until })
  target_into target =
      let each : Reached = record { vertex = target.vertex; value = until } in
      let here = mapped (target_at names)
      (filter (λ (each : Reached). counts mode root each.vertex) reached) each
      ((kept_members reached (λ (each : Reached). counts mode root each.vertex) each).1
      (target.member, target.counted)) in
      subst (λ (name : List ℕ).
      Contains (targets_among mode names root reached) (record { to = name; until = until }))
      (sym {A = List ℕ} (name_there names to target.vertex target.is)) here

-- ---- the row

-- numbers that count differ where they have to
pub numbers_apart : (mode : Mode) (root vertex : ℕ) → counts mode root vertex ≡ true →
    mode ≡ Simple → root ≢ vertex
numbers_apart Arbitrary root vertex count is same = absurd cc
numbers_apart Simple root vertex count is same =
    both_ways (root == vertex) (not-true (root == vertex) count) (eq-eqb root vertex same)

-- and the other way round
apart_counts : (mode : Mode) (root vertex : ℕ) → (mode ≡ Simple → root ≢ vertex) →
    counts mode root vertex ≡ true
apart_counts Arbitrary root vertex differ = refl
apart_counts Simple root vertex differ =
    ap not (false_from_ne_true (root == vertex) (λ e. differ refl (eqb-true root vertex e)))

-- the vertices that a root reaches are those of names
reached_named : (names : List (List ℕ)) (forest : ForestValue) (root : ℕ)
    (reached : List Reached) → HaveNames names forest → AreReachedFrom forest root reached →
    AreNamed names reached
reached_named names forest root reached named are =
    All-weaker (Contains reached) (λ (each : Reached). each.vertex < length names)
    (λ each member.
    let final = ((are.exact each.vertex each.value).0 member).is in
    let vertex = (named root each.vertex final.0 each.value final.2).1 in
    below names vertex.0 each.vertex vertex.1)
    reached (All-contains_itself reached)

module _ (mode : Mode) (names : List (List ℕ)) (forest : ForestValue) (root : ℕ)
    (reached sorted : List Reached) (apart : AreApart names) (named : HaveNames names forest)
    (are : AreReachedFrom forest root reached) (moved : IsPermutation reached sorted) where
  pub sorted_named : AreNamed names sorted
  sorted_named =
      All-permutation (λ (each : Reached). each.vertex < length names) reached sorted moved
      (reached_named names forest root reached named are)

  sorted_once : IsDistinct (eq_by_cmp nat_cmp) (map vertex_of sorted)
  sorted_once =
      IsDistinct-IsPermutation (eq_by_cmp nat_cmp) tie_turns (map vertex_of reached)
      (map vertex_of sorted) (IsPermutation-map vertex_of reached sorted moved)
      (IsDistinct-from_sorted nat_cmp (map vertex_of reached) are.sorted)

  pub row_in_order : IsSorted (reached_cmp names) sorted →
      AreTargets (targets_among mode names root sorted)
  row_in_order in_order =
      targets_by_order names (filter (λ (each : Reached). counts mode root each.vertex) sorted)
      (IsStrictlySortedBy-filter (reached_cmp names)
      (λ (each : Reached). counts mode root each.vertex) sorted
      (strictly names apart sorted sorted_named sorted_once in_order))

  -- a target of the row is what is shown from the root
  shown_from : (pair : Pair) (until : ℕ) → number_of names pair.from ≡ Some root →
      IsTargetOf mode names root sorted pair.to until → Shows mode names forest root pair until
  shown_from pair until from target = record {
    vertex = target.vertex;
    from = from;
    to = target.is;
    apart = λ simple same. numbers_apart mode root target.vertex target.counted simple
        (same_Some root target.vertex (sym from ∙ (ap (number_of names) same ∙ target.is)));
    end = (are.exact target.vertex until).0
        (Contains-permutation sorted reached (record { vertex = target.vertex; value = until })
        (IsPermutation-sym reached sorted moved) target.member);
  }

  shown_into : (pair : Pair) (until : ℕ) → Shows mode names forest root pair until →
      IsTargetOf mode names root sorted pair.to until
  shown_into pair until shows = record {
    vertex = shows.vertex;
    is = shows.to;
    counted = apart_counts mode root shows.vertex (λ simple same. shows.apart simple
        (one_name names pair.from pair.to root shows.from (shows.to ∙ ap Some (sym same))));
    member = Contains-permutation reached sorted (record { vertex = shows.vertex; value = until })
        moved ((are.exact shows.vertex until).1 shows.end);
  }

  -- the rows, where that of the root has these targets now
  pub renewed : EndsAreInRows → IsSorted (reached_cmp names) sorted → (from : List ℕ) →
      (old new : List Answer) → number_of names from ≡ Some root →
      row_of new from ≡ targets_among mode names root sorted → KeepsOtherRows from old new →
      Renews mode names forest root old new
  renewed ends in_order from old new from_is row others = record {
    here = λ pair until source.
        let same : pair.from ≡ from = one_name names pair.from from root source from_is in
        let end : until_of new pair ≡ end_of (targets_among mode names root sorted) pair.to =
        ends new pair ∙ (ap (λ (name : List ℕ). end_of (row_of new name) pair.to) same
        ∙ ap (λ (targets : List Target). end_of targets pair.to) row) in (
          (λ there. shown_from pair until source
              (target_from mode names apart root sorted sorted_named pair.to until
              (end_is_member (targets_among mode names root sorted) pair.to until
              (sym end ∙ there)))),
          (λ shows. end ∙ member_is_end (targets_among mode names root sorted) pair.to until
              (row_in_order in_order)
              (target_into mode names apart root sorted sorted_named pair.to until
              (shown_into pair until shows))),
        );
    others = λ pair apart_from.
        let differ : pair.from ≢ from = λ same. apart_from (ap (number_of names) same ∙ from_is) in
        ends new pair
        ∙ (ap (λ (targets : List Target). end_of targets pair.to) (others pair.from differ)
        ∙ sym (ends old pair));
  }
