-- Marks, one after another.
use Rattle.std.proofs.Common.{◌≡◌, ℕ, ◌+◌, ◌<◌, List, [], ◌∷◌, ◌++◌, get_or, length, take, Option, Some, None, refl, sym, ap, ◌∙◌, subst, ⊎_elim, inl, inr, ◌⊎◌, Contains}
use Rattle.std.specs.Prelude.{◌↔◌}
use Rattle.std.proofs.lemmas.List.{take_more}
use Rattle.std.proofs.lemmas.List.Elements.{Contains-append_left, Contains-push, Contains-push_cases}
use Rattle.std.proofs.lemmas.Option.{none-some, same_Some}
use Rattle.state_pairs.specs.Goals.{level_at}
use Rattle.state_pairs.specs.Rounds.{Marks, LeadsToOne}
use Rattle.state_pairs.specs.Sources.{sources_at}

-- a level is there or not
abbrev Either : Option ℕ → Type 0
Either o = (o ≡ None) ⊎ ((level : ℕ) × (o ≡ Some level))

either : (o : Option ℕ) → Either o
either None = inl refl
either (Some level) = inr (level, refl)

-- what is meant, in other words
pub marked_as : (P Q : ℕ → Type 0) (level : ℕ) (before after : List (Option ℕ)) (found more : List ℕ) → ((node : ℕ) → P node ↔ Q node) → Marks P level before after found more → Marks Q level before after found more
marked_as P Q level before after found more same marks = record {
  as_many = marks.as_many;
  kept = marks.kept;
  meant = λ node q is. marks.meant node ((same node).1 q) is;
  new = λ node now is there. let has = marks.new node now is there in (has.0, (same node).0 has.1);
  listed = marks.listed;
}

-- first these, then those
pub marked_then : (P Q : ℕ → Type 0) (level : ℕ) (first second third : List (Option ℕ)) (found more most : List ℕ) →
    Marks P level first second found more → Marks Q level second third more most → Marks (λ node. P node ⊎ Q node) level first third found most
marked_then P Q level first second third found more most one two = record {
  as_many = two.as_many ∙ one.as_many;
  kept = λ node old is. two.kept node old (one.kept node old is);
  meant = λ node which is. ⊎_elim
      (λ p. two.kept node level (one.meant node p is))
      (λ q. ⊎_elim
      (λ none. two.meant node q none)
      (λ has. two.kept node level (has.1 ∙ ap (λ (n : ℕ). Some n) (one.new node has.0 is has.1).0))
      (either (level_at second node)))
      which;
  new = λ node now is there. ⊎_elim
      (λ none. let has = two.new node now none there in (has.0, inr has.1))
      (λ has.
      let is_new = one.new node has.0 is has.1 in
      (same_Some now has.0 (sym there ∙ two.kept node has.0 has.1) ∙ is_new.0, inl is_new.1))
      (either (level_at second node));
  listed = λ node. (
    (λ there. ⊎_elim
        (λ before. ⊎_elim (λ old. inl old) (λ both. inr (both.0, two.kept node level both.1)) ((one.listed node).0 before))
        (λ both. inr (still_none node both.0, both.1))
        ((two.listed node).0 there)),
    (λ which. ⊎_elim
        (λ old. (two.listed node).1 (inl ((one.listed node).1 (inl old))))
        (λ both. ⊎_elim
        (λ none. (two.listed node).1 (inr (none, both.1)))
        (λ has. (two.listed node).1 (inl ((one.listed node).1 (inr (both.0, has.1 ∙ ap (λ (n : ℕ). Some n) (one.new node has.0 both.0 has.1).0)))))
        (either (level_at second node)))
        which),
  );
}
  where
    still_none : (node : ℕ) → level_at second node ≡ None → level_at first node ≡ None
    still_none node none = ⊎_elim
        (λ is. is)
        (λ has. absurd (none-some has.0 (sym none ∙ one.kept node has.0 has.1)))
        (either (level_at first node))

-- ---- node by node

-- what a list with one node more has
pub contains_more : (nodes : List ℕ) (last node : ℕ) → (Contains nodes node ⊎ (node ≡ last)) ↔ Contains (nodes ++ last ∷ []) node
contains_more nodes last node = (
  (λ which. ⊎_elim
      (λ there. Contains-append_left nodes (last ∷ []) node there)
      (λ is. subst (Contains (nodes ++ last ∷ [])) (sym is) (Contains-push nodes last))
      which),
  (λ there. ⊎_elim (λ old. inl old) (λ is. inr (sym is)) (Contains-push_cases nodes last node there)),
)

contains_taken : (nodes : List ℕ) (index d node : ℕ) → index < length nodes → (Contains (take index nodes) node ⊎ (node ≡ get_or nodes index d)) ↔ Contains (take (index + 1) nodes) node
contains_taken nodes index d node below =
    subst (λ (all : List ℕ). (Contains (take index nodes) node ⊎ (node ≡ get_or nodes index d)) ↔ Contains all node)
    (sym (take_more nodes index d below))
    (contains_more (take index nodes) (get_or nodes index d) node)

-- one more of the nodes that are to be marked
pub one_marked : (nodes : List ℕ) (index d level : ℕ) (first second third : List (Option ℕ)) (found more most : List ℕ) → index < length nodes →
    Marks (Contains (take index nodes)) level first second found more → Marks (λ node. node ≡ get_or nodes index d) level second third more most →
    Marks (Contains (take (index + 1) nodes)) level first third found most
one_marked nodes index d level first second third found more most below one two =
    marked_as (λ node. Contains (take index nodes) node ⊎ (node ≡ get_or nodes index d)) (Contains (take (index + 1) nodes)) level first third found most
    (λ node. contains_taken nodes index d node below)
    (marked_then (Contains (take index nodes)) (λ node. node ≡ get_or nodes index d) level first second third found more most one two)

-- the sources of one more of the targets
pub sources_marked : (lists : List (List ℕ)) (last : List ℕ) (index d level : ℕ) (first second third : List (Option ℕ)) (found more most : List ℕ) → index < length last →
    Marks (LeadsToOne lists (take index last)) level first second found more → Marks (Contains (sources_at lists (get_or last index d))) level second third more most →
    Marks (LeadsToOne lists (take (index + 1) last)) level first third found most
sources_marked lists last index d level first second third found more most below one two =
    marked_as (λ node. LeadsToOne lists (take index last) node ⊎ Contains (sources_at lists (get_or last index d)) node) (LeadsToOne lists (take (index + 1) last)) level first third found most
    (λ node. (
      (λ which. ⊎_elim
          (λ old. (old.0, (contains_taken last index d old.0 below).0 (inl old.1), old.2))
          (λ there. (get_or last index d, (contains_taken last index d (get_or last index d) below).0 (inr refl), there))
          which),
      (λ leads. ⊎_elim
          (λ old. inl (leads.0, old, leads.2))
          (λ is. inr (subst (λ (target : ℕ). Contains (sources_at lists target) node) is leads.2))
          ((contains_taken last index d leads.0 below).1 leads.1)),
    ))
    (marked_then (LeadsToOne lists (take index last)) (Contains (sources_at lists (get_or last index d))) level first second third found more most one two)
