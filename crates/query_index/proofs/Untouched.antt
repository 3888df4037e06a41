-- The rows that an index has: at first, once more names have numbers, and after changes.
use Rattle.std.proofs.Common.{◌≡◌, ℕ, List, [], Some, None, sym, ap, subst, ◌∙◌}
use Rattle.std.specs.Prelude.{IsTrue}
use Rattle.std.specs.Option.{option_and_then}
use Rattle.std.proofs.lemmas.Option.{none-some}
use Rattle.rpq_base.specs.declared.data.Pair.{Pair}
use Rattle.rpq_model.specs.declared.mode.Mode.{Mode}
use Rattle.dfa_table.specs.DfaValue.{DfaValue, is_final}
use Rattle.name_table.specs.Names.{KeepsNumbers, number_of}
use Rattle.delta_tree.specs.Nodes.{TreeValue, node_id, value_of}
use Rattle.delta_forest.specs.Forest.{ForestValue, IsEnd, IsFinalValue, kept, tree_in}
use Rattle.answer_rows.specs.Answers.{Answer, until_of}
use Rattle.query_index.specs.declared.stale.StaleRoots.{StaleRoots}
use Rattle.query_index.specs.declared.stale.StaleRoots.TheVariants.{Every}
use Rattle.query_index.specs.IndexValue.{IndexValue}
use Rattle.query_index.specs.Shown.{HasRows, HaveNames, IsStale, IsTaken, ShowAllBut, Shows}
use Rattle.query_index.specs.Showing.{LeavesFresh}
use Rattle.query_index.proofs.Telling.{one_name}

-- ---- at first

-- a forest without trees keeps nothing
pub bare_named : (names : List (List ℕ)) (forest : ForestValue) → forest.trees ≡ [] →
    HaveNames names forest
bare_named names forest bare = λ root vertex state value there.
    let none : kept forest root vertex state ≡ None =
    ap (λ (trees : List TreeValue).
    option_and_then (λ (tree : TreeValue). value_of tree (node_id vertex state))
    (tree_in trees root)) bare in
    absurd (none-some value (sym none ∙ there))

-- where all roots are stale, there may be no row
all_stale : (mode : Mode) (names : List (List ℕ)) (forest : ForestValue) →
    ShowAllBut (IsStale Every) mode names forest []
all_stale mode names forest = λ pair until fresh. (
  (λ there. absurd (none-some until there)),
  (λ shown. absurd (fresh (shown.0, shown.1.from, tt))),
)

pub no_rows : (mode : Mode) (names : List (List ℕ)) (index : IndexValue) →
    HaveNames names index.forest → index.shown ≡ [] → index.stale ≡ Every →
    HasRows mode names index
no_rows mode names index named none every = record {
  named = named;
  fresh = subst (λ (rows : List Answer).
      ShowAllBut (IsStale index.stale) mode names index.forest rows) (sym {A = List Answer} none)
      (subst (λ (stale : StaleRoots). ShowAllBut (IsStale stale) mode names index.forest [])
      (sym {A = StaleRoots} every) (all_stale mode names index.forest));
}

-- ---- more names

shown_by_more : (mode : Mode) (names more : List (List ℕ)) (forest : ForestValue) (root : ℕ)
    (pair : Pair) (until : ℕ) → KeepsNumbers names more →
    Shows mode names forest root pair until → Shows mode more forest root pair until
shown_by_more mode names more forest root pair until keeps shows = record {
  vertex = shows.vertex;
  from = keeps pair.from root shows.from;
  to = keeps pair.to shows.vertex shows.to;
  apart = λ holds. shows.apart holds;
  end = shows.end;
}

-- a number that some name had is still that of this name
had_before : (names more : List (List ℕ)) (name : List ℕ) (number : ℕ) →
    KeepsNumbers names more → IsTaken names number → number_of more name ≡ Some number →
    number_of names name ≡ Some number
had_before names more name number keeps taken is =
    ap (number_of names)
    (one_name more name taken.0 number is (keeps taken.0 number taken.1)) ∙ taken.1

shown_by_fewer : (mode : Mode) (names more : List (List ℕ)) (forest : ForestValue) (root : ℕ)
    (pair : Pair) (until : ℕ) → KeepsNumbers names more → HaveNames names forest →
    Shows mode more forest root pair until → Shows mode names forest root pair until
shown_by_fewer mode names more forest root pair until keeps named shows =
    let final = shows.end.is in
    let both = named root shows.vertex final.0 until final.2 in
    record {
      vertex = shows.vertex;
      from = had_before names more pair.from root keeps both.0 shows.from;
      to = had_before names more pair.to shows.vertex keeps both.1 shows.to;
      apart = λ holds. shows.apart holds;
      end = shows.end;
    }

pub rows_by_more : (mode : Mode) (names more : List (List ℕ)) (index : IndexValue) →
    KeepsNumbers names more → HasRows mode names index → HasRows mode more index
rows_by_more mode names more index keeps has = record {
  named = λ root vertex state value there.
      let both = has.named root vertex state value there in (
        (both.0.0, keeps both.0.0 root both.0.1),
        (both.1.0, keeps both.1.0 vertex both.1.1),
      );
  fresh = λ pair until fresh.
      let was = has.fresh pair until
      (λ stale. fresh (stale.0, keeps pair.from stale.0 stale.1, stale.2)) in (
        (λ there.
            let found = was.0 there in
            (found.0, shown_by_more mode names more index.forest found.0 pair until keeps found.1)),
        (λ found. was.1 (
          found.0,
          shown_by_fewer mode names more index.forest found.0 pair until keeps has.named found.1,
        )),
      );
}

-- ---- changes

-- one change after another
pub leaves_both : (first second third : StaleRoots) (old middle new : ForestValue) →
    LeavesFresh first old second middle → LeavesFresh second middle third new →
    LeavesFresh first old third new
leaves_both first second third old middle new one other = λ root fresh.
    let later = other root fresh in
    let before = one root later.0 in
    (before.0, λ vertex state. later.1 vertex state ∙ before.1 vertex state)

-- ends are those of what is kept
final_like : (old new : ForestValue) (root vertex number : ℕ) → new.dfa ≡ old.dfa →
    ((state : ℕ) → kept new root vertex state ≡ kept old root vertex state) →
    IsFinalValue old root vertex number → IsFinalValue new root vertex number
final_like old new root vertex number dfa same final = (
  final.0,
  subst (λ (each : DfaValue). IsTrue (is_final each final.0)) (sym dfa) final.1,
  same final.0 ∙ final.2,
)

end_like : (old new : ForestValue) (root vertex until : ℕ) → new.dfa ≡ old.dfa →
    ((state : ℕ) → kept new root vertex state ≡ kept old root vertex state) →
    IsEnd old root vertex (Some until) → IsEnd new root vertex (Some until)
end_like old new root vertex until dfa same end = record {
  is = final_like old new root vertex until dfa same end.is;
  most = λ other final. end.most other
      (final_like new old root vertex other (sym dfa) (λ state. sym (same state)) final);
}

shown_like : (mode : Mode) (names : List (List ℕ)) (old new : ForestValue) (root : ℕ)
    (pair : Pair) (until : ℕ) → new.dfa ≡ old.dfa →
    ((vertex state : ℕ) → kept new root vertex state ≡ kept old root vertex state) →
    Shows mode names old root pair until → Shows mode names new root pair until
shown_like mode names old new root pair until dfa same shows = record {
  vertex = shows.vertex;
  from = shows.from;
  to = shows.to;
  apart = λ holds. shows.apart holds;
  end = end_like old new root shows.vertex until dfa (same shows.vertex) shows.end;
}

pub rows_after : (mode : Mode) (names : List (List ℕ)) (old new : IndexValue) →
    new.forest.dfa ≡ old.forest.dfa → HaveNames names new.forest → new.shown ≡ old.shown →
    LeavesFresh old.stale old.forest new.stale new.forest → HasRows mode names old →
    HasRows mode names new
rows_after mode names old new dfa named shown leaves has = record {
  named = named;
  fresh = λ pair until fresh.
      let rows : until_of new.shown pair ≡ until_of old.shown pair =
      ap (λ (rows : List Answer). until_of rows pair) shown in
      let left : (root : ℕ) → number_of names pair.from ≡ Some root →
      (IsStale old.stale root → ⊥)
      × ((vertex state : ℕ) →
      kept new.forest root vertex state ≡ kept old.forest root vertex state) =
      λ root is. leaves root (λ stale. fresh (root, is, stale)) in
      let was = has.fresh pair until (λ stale. (left stale.0 stale.1).0 stale.2) in (
        (λ there.
            let found = was.0 (sym rows ∙ there) in (
              found.0,
              shown_like mode names old.forest new.forest found.0 pair until dfa
                  (left found.0 found.1.from).1 found.1,
            )),
        (λ found. rows ∙ was.1 (
          found.0,
          shown_like mode names new.forest old.forest found.0 pair until (sym dfa)
              (λ vertex state. sym ((left found.0 found.1.from).1 vertex state)) found.1,
        )),
      );
}
