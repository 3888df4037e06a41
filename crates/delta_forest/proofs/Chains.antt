-- Roots that are settled one after another.
use Rattle.std.proofs.Common.{◌≡◌, ◌≢◌, ℕ, ◌+◌, ◌<◌, Bool, true, false, cond, List, [], ◌∷◌, ◌++◌, length, take, drop, get_or, filter, Option, Some, None, sym, ap, subst, ◌∙◌, inl, ⊎_elim, Contains, arith}
use Rattle.std.specs.Prelude.{AllPairs, flat_map, option_map}
use Rattle.std.specs.Option.{unwrap_or}
use Rattle.std.specs.Ordering.{nat_cmp}
use Rattle.std.specs.List.Sorted.{IsStrictlySortedBy}
use Rattle.std.proofs.lemmas.Bool.{cases_eq, eq-eqb, ne_eqb}
use Rattle.std.proofs.lemmas.Option.{none-some, same_Some}
use Rattle.std.proofs.lemmas.List.{drop_more, flat_map_more, take-append-drop, take_more}
use Rattle.std.proofs.lemmas.List.Elements.{All-contains, Contains-append_right, filter_more}
use Rattle.std.proofs.lemmas.List.Kept.{AllPairs-from_increasing}
use Rattle.std.proofs.lemmas.Map.Keys.{IsStrictlyIncreasing-from_sorted}
use Rattle.rpq_base.proofs.Members.{HasOneMore, cons_members, none_in}
use Rattle.delta_tree.specs.Nodes.{IsTree}
use Rattle.source_tree.specs.declared.change.Change.{Change}
use Rattle.source_tree.specs.declared.change.EndChange.{EndChange}
use Rattle.source_tree.specs.Ends.{SourceValue}
use Rattle.source_tree.specs.Taking.{is_raise}
use Rattle.source_index.specs.Dues.{due_of}
use Rattle.source_table.specs.Sources.{AreApart, GivesSource, source_in}
use Rattle.delta_forest.specs.Keeping.{IsDueFor}
use Rattle.delta_forest.specs.Settling.{AreFound, AreSettled, FindsAt, FindsMore, HoldsAnew, IsFollowed, IsLeft, is_sooner, log_at, log_of, moved_of, touched_at}
use Rattle.delta_forest.specs.declared.index.Index.{Index}
use Rattle.delta_forest.specs.declared.index.Findings.{Findings}
use Rattle.delta_forest.proofs.Logs.{pairs_head, pairs_tail}
use Rattle.delta_forest.proofs.Sources.{found_or_not}
use Rattle.delta_forest.proofs.Holding.{member_one, one_member}

-- ---- what stays

left_on : (old now new : Index) (root : ℕ) → IsLeft old now root → IsLeft now new root →
    IsLeft old new root
left_on old now new root first second = record {
  held = λ id. (
    (λ holds. (first.held id).0 ((second.held id).0 holds)),
    (λ holds. (second.held id).1 ((first.held id).1 holds)),
  );
  due = second.due ∙ first.due;
}

-- ---- one root

module _ (change : Change) (old new : Index) (root : ℕ) (source : SourceValue)
    (found : source_in old.sources root ≡ Some source) (tree : IsTree source.tree)
    (held : HoldsAnew old.holders new.holders root (is_raise change) (moved_of source))
    (due : is_sooner change source ≡ true → IsDueFor new.dues root source.tree)
    (same_due : is_sooner change source ≡ false → due_of new.dues root ≡ due_of old.dues root)
    (others : (each : ℕ) → each ≢ root → due_of new.dues each ≡ due_of old.dues each) where
  followed_here : (each : ℕ) (other : SourceValue) → Contains (root ∷ []) each →
      source_in old.sources each ≡ Some other → IsFollowed change old new each other
  followed_here each other listed there =
      let here = one_member root each listed in
      let same = same_Some source other
      (sym found ∙ (ap (λ (at : ℕ). source_in old.sources at) here ∙ there)) in
      subst (λ (at : ℕ). IsFollowed change old new at other) here
      (subst (IsFollowed change old new root) same (record {
        tree = tree;
        listed = held.listed;
        unlisted = held.unlisted;
        due = due;
        same = same_due;
      }))

  left_there : (each : ℕ) → each ≢ root → IsLeft old new each
  left_there each differ = record {
    held = λ id. held.others id each differ;
    due = others each differ;
  }

  none_apart : (each : ℕ) → source_in old.sources each ≡ None → each ≢ root
  none_apart each none here = none-some source
      (sym none ∙ (ap (λ (at : ℕ). source_in old.sources at) here ∙ found))

  pub settled_kept : AreApart old.sources → new.sources ≡ old.sources → source.tree.nodes ≢ [] →
      AreSettled change old new (root ∷ [])
  settled_kept apart same some = record {
    apart = subst AreApart (sym same) apart;
    kept = λ each other there nodes.
        ap (λ (sources : List SourceValue). source_in sources each) same ∙ there;
    only = λ each other there.
        ap (λ (sources : List SourceValue). source_in sources each) (sym same) ∙ there;
    some = λ each other listed there.
        let is = ap (λ (sources : List SourceValue). source_in sources each) (sym same) ∙ there in
        let here = same_Some source other (sym found
        ∙ (ap (λ (at : ℕ). source_in old.sources at) (one_member root each listed) ∙ is)) in
        subst (λ (one : SourceValue). one.tree.nodes ≢ []) here some;
    same = λ each unlisted. ap (λ (sources : List SourceValue). source_in sources each) same;
    followed = followed_here;
    absent = λ each none. left_there each (none_apart each none);
    left = λ each unlisted. left_there each (λ here. unlisted (member_one root each (sym here)));
  }

  pub settled_gone : AreApart new.sources → GivesSource old.sources new.sources root None →
      source.tree.nodes ≡ [] → AreSettled change old new (root ∷ [])
  settled_gone apart gives bare = record {
    apart = apart;
    kept = λ each other there nodes. ⊎_elim
        (λ (here : root ≡ each).
        let same = same_Some source other
        (sym found ∙ (ap (λ (at : ℕ). source_in old.sources at) here ∙ there)) in
        absurd (nodes (subst (λ (one : SourceValue). one.tree.nodes ≡ []) same bare)))
        (λ differ. elsewhere each differ ∙ there)
        (cases_eq root each);
    only = λ each other there. ⊎_elim
        (λ (here : root ≡ each). absurd (none-some other (sym (gone each here) ∙ there)))
        (λ differ. sym (elsewhere each differ) ∙ there)
        (cases_eq root each);
    some = λ each other listed there.
        absurd (none-some other (sym (gone each (one_member root each listed)) ∙ there));
    same = λ each unlisted. elsewhere each (λ here. unlisted (member_one root each here));
    followed = followed_here;
    absent = λ each none. left_there each (none_apart each none);
    left = λ each unlisted. left_there each (λ here. unlisted (member_one root each (sym here)));
  }
    where
      gone : (each : ℕ) → root ≡ each → source_in new.sources each ≡ None
      gone each here = gives each
          ∙ ap (λ (b : Bool). cond b None (source_in old.sources each)) (eq-eqb root each here)

      elsewhere : (each : ℕ) → (root ≡ each → ⊥) →
          source_in new.sources each ≡ source_in old.sources each
      elsewhere each differ = gives each
          ∙ ap (λ (b : Bool). cond b None (source_in old.sources each)) (ne_eqb root each differ)

-- ---- one root more

pub settled_more : (change : Change) (old now new : Index) (done more : List ℕ) (root : ℕ) →
    AreSettled change old now done → AreSettled change now new (root ∷ []) →
    (Contains done root → ⊥) → HasOneMore done root more → AreSettled change old new more
settled_more change old now new done more root first second apart one = record {
  apart = second.apart;
  kept = λ each source found some. second.kept each source (first.kept each source found some) some;
  only = λ each source found. first.only each source (second.only each source found);
  some = λ each source listed found. ⊎_elim
      (λ (before : Contains done each).
      first.some each source before (second.only each source found))
      (λ (here : root ≡ each). second.some each source (member_one root each here) found)
      (one.cases each listed);
  same = λ each unlisted.
      second.same each (λ member.
      unlisted (subst (Contains more) (one_member root each member) one.here))
      ∙ first.same each (λ before. unlisted (one.still each before));
  followed = λ each source listed found. ⊎_elim
      (λ (before : Contains done each).
      let was = first.followed each source before found in
      let left = second.left each (λ member.
      apart (subst (Contains done) (sym (one_member root each member)) before)) in
      record {
        tree = was.tree;
        listed = λ id member. (
          (λ holds. (was.listed id member).0 ((left.held id).0 holds)),
          (λ stands. (left.held id).1 ((was.listed id member).1 stands)),
        );
        unlisted = λ id none. (
          (λ holds. (was.unlisted id none).0 ((left.held id).0 holds)),
          (λ holds. (left.held id).1 ((was.unlisted id none).1 holds)),
        );
        due = λ sooner id node is.
            let number = was.due sooner id node is in (number.0, left.due ∙ number.1, number.2);
        same = λ late. left.due ∙ was.same late;
      })
      (λ (here : root ≡ each).
      let fresh : Contains done each → ⊥ = λ before.
      apart (subst (Contains done) (sym here) before) in
      let is = second.followed each source (member_one root each here)
      (first.same each fresh ∙ found) in
      let left = first.left each fresh in
      record {
        tree = is.tree;
        listed = is.listed;
        unlisted = λ id none. (
          (λ holds. (left.held id).0 ((is.unlisted id none).0 holds)),
          (λ holds. (is.unlisted id none).1 ((left.held id).1 holds)),
        );
        due = is.due;
        same = λ late. is.same late ∙ left.due;
      })
      (one.cases each listed);
  absent = λ each none.
      left_on old now new each (first.absent each none) (second.absent each (still each none));
  left = λ each unlisted. left_on old now new each
      (first.left each (λ before. unlisted (one.still each before)))
      (second.left each (λ member.
      unlisted (subst (Contains more) (one_member root each member) one.here)));
}
  where
    still : (each : ℕ) → source_in old.sources each ≡ None → source_in now.sources each ≡ None
    still each none = ⊎_elim
        (λ (there : (source : SourceValue) × (source_in now.sources each ≡ Some source)).
        absurd (none-some there.0 (sym none ∙ first.only each there.0 there.1)))
        (λ (is : source_in now.sources each ≡ None). is)
        (found_or_not (source_in now.sources each))

-- ---- the next root is none of those before

across : (R : ℕ → ℕ → Type 0) (xs ys : List ℕ) (x y : ℕ) → AllPairs R (xs ++ ys) →
    Contains xs x → Contains ys y → R x y
across R [] ys x y pairs first second = absurd (none_in x first)
across R (head ∷ xs) ys x y pairs first second = ⊎_elim
    (λ (here : head ≡ x). subst (λ (one : ℕ). R one y) here
    (All-contains (R head) (xs ++ ys) y (pairs_head R head (xs ++ ys) pairs)
    (Contains-append_right xs ys y second)))
    (λ further. across R xs ys x y (pairs_tail R head (xs ++ ys) pairs) further second)
    ((cons_members head xs x).0 first)

pub next_apart : (roots : List ℕ) (place root : ℕ) → IsStrictlySortedBy nat_cmp roots →
    place < length roots → root ≡ get_or roots place root → Contains (take place roots) root → ⊥
next_apart roots place root sorted within is member =
    let rises = AllPairs-from_increasing roots (IsStrictlyIncreasing-from_sorted roots sorted) in
    let parts : AllPairs (λ (one other : ℕ). one < other) (take place roots ++ drop place roots) =
    subst (AllPairs (λ (one other : ℕ). one < other)) (sym (take-append-drop place roots)) rises in
    let here : Contains (drop place roots) root =
    subst (λ (rest : List ℕ). Contains rest root) (sym (drop_more roots place root within))
    ((cons_members (get_or roots place root) (drop (place + 1) roots) root).1 (inl (sym is))) in
    let less : root < root = across (λ (one other : ℕ). one < other) (take place roots)
    (drop place roots) root root parts member here in
    omega (arith, less)

-- ---- what was found

pub found_more : (sources now : List SourceValue) (roots : List ℕ) (place root : ℕ)
    (old new : Findings) → AreFound sources (take place roots) old → FindsAt now old new root →
    source_in now root ≡ source_in sources root → place < length roots →
    root ≡ get_or roots place root → AreFound sources (take (place + 1) roots) new
found_more sources now roots place root old new was finds same within is = record {
  touched = finds.touched
      ∙ (ap (λ (before : List ℕ). before ++ cond (touched_at now root) (root ∷ []) []) was.touched
      ∙ (ap (λ (b : Bool). filter (touched_at sources) (take place roots) ++ cond b (root ∷ []) [])
      (ap (λ (found : Option SourceValue).
      unwrap_or (option_map (λ (each : SourceValue). each.touched) found) false) same)
      ∙ (ap (λ (one : ℕ). filter (touched_at sources) (take place roots)
      ++ cond (touched_at sources one) (one ∷ []) []) is
      ∙ sym (filter_more (touched_at sources) roots place root within))));
  log = finds.log
      ∙ (ap (λ (before : List EndChange). before ++ log_at now root) was.log
      ∙ (ap (λ (more : List EndChange). flat_map (log_at sources) (take place roots) ++ more)
      (ap (λ (found : Option SourceValue).
      unwrap_or (option_map log_of found) []) same)
      ∙ (flat_map_more (log_at sources) [] (take place roots) root
      ∙ ap (flat_map (log_at sources)) (ap (λ (one : ℕ). take place roots ++ one ∷ []) is
      ∙ sym (take_more roots place root within)))));
}

pub finds_at_source : (sources : List SourceValue) (old new : Findings) (source : SourceValue)
    (root : ℕ) → source_in sources root ≡ Some source → FindsMore old new source root →
    FindsAt sources old new root
finds_at_source sources old new source root found more = record {
  touched = more.touched ∙ ap (λ (one : Option SourceValue).
      old.touched.items ++ cond (unwrap_or (option_map (λ (each : SourceValue). each.touched) one)
      false) (root ∷ []) [])
      (sym found);
  log = more.log ∙ ap (λ (one : Option SourceValue).
      old.log.items ++ unwrap_or (option_map log_of one) [])
      (sym found);
}
