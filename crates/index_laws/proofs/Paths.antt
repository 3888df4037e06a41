-- Paths by numbers, and the edges that have these numbers.
use Rattle.std.proofs.Common.{◌≡◌, ◌≢◌, ℕ, List, [], ◌∷◌, Option, Some, None, refl, sym, ap, subst, ◌∙◌, inl, inr, ⊎_elim, Contains}
use Rattle.std.specs.Prelude.{All}
use Rattle.std.specs.Option.{option_and_then}
use Rattle.std.proofs.lemmas.List.Elements.{All-nil, All-cons, All-head, All-tail, All-weaker}
use Rattle.rpq_base.specs.declared.data.Edge.{Edge}
use Rattle.rpq_base.proofs.Members.{cons_members, none_in}
use Rattle.dfa_table.specs.DfaValue.{DfaValue, step_of}
use Rattle.dfa_table.specs.Runs.{run_from, walk}
use Rattle.rpq_model.specs.Path.{Leads, word_of}
use Rattle.rpq_model.specs.Window.{clock, edges_at}
use Rattle.name_table.specs.Names.{number_of}
use Rattle.edge_store.specs.declared.edge.EdgeId.{EdgeId}
use Rattle.edge_store.specs.Edges.{value_of}
use Rattle.tree_insert.specs.Best.{IsAtLeast, IsLeast}
use Rattle.index_laws.specs.Numbered.{HasNumbers, IsByNumbers}
use Rattle.index_laws.specs.LawsOfPaths.{HaveNumbers, IsLeastIn, LeadsBy, labels_of}
use Rattle.index_laws.specs.LawsOfPaths.{PathsByNumbers, PathsShowAnswers}
use Rattle.index_laws.proofs.Index.{any_store}
use Rattle.index_laws.proofs.Numbers.{one_name}
use Rattle.index_laws.proofs.Values.{live_now}

and_then_same : (first second : ℕ → Option ℕ) (found : Option ℕ) →
    ((each : ℕ) → first each ≡ second each) →
    option_and_then first found ≡ option_and_then second found
and_then_same first second None same = refl
and_then_same first second (Some found) same = same found

module _ (names : List (List ℕ)) (dfa : DfaValue) where
  some_by : (path : List Edge) (ids : List EdgeId) → HaveNumbers names dfa path ids → ids ≢ [] →
      path ≢ []
  some_by [] [] have some = absurd (some refl)
  some_by [] (id ∷ ids) have some = absurd have
  some_by (edge ∷ path) ids have some = λ e. cc

  leads_by : (path : List Edge) (ids : List EdgeId) (from to : List ℕ) (root vertex : ℕ) →
      HaveNumbers names dfa path ids →
      number_of names from ≡ Some root → number_of names to ≡ Some vertex →
      LeadsBy root ids vertex → Leads from path to
  leads_by [] [] from to root vertex have root_is vertex_is leads =
      one_name names from to root root_is (vertex_is ∙ ap (λ (at : ℕ). Some at) (sym leads))
  leads_by [] (id ∷ ids) from to root vertex have root_is vertex_is leads = absurd have
  leads_by (edge ∷ path) [] from to root vertex have root_is vertex_is leads = absurd have
  leads_by (edge ∷ path) (id ∷ ids) from to root vertex have root_is vertex_is leads = (
    one_name names edge.from from root
        (have.0.from ∙ ap (λ (at : ℕ). Some at) leads.0) root_is,
    leads_by path ids edge.to to id.to vertex have.1 have.0.to vertex_is leads.1,
  )

  runs_by : (path : List Edge) (ids : List EdgeId) (now : ℕ) → HaveNumbers names dfa path ids →
      run_from dfa now (word_of path) ≡ walk dfa now (labels_of ids)
  runs_by [] [] now have = refl
  runs_by [] (id ∷ ids) now have = absurd have
  runs_by (edge ∷ path) [] now have = absurd have
  runs_by (edge ∷ path) (id ∷ ids) now have =
      ap (λ (place : Option ℕ). option_and_then (λ next. run_from dfa next (word_of path))
      (option_and_then (λ label. step_of dfa now label) place)) have.0.label
      ∙ and_then_same (λ next. run_from dfa next (word_of path))
      (λ next. walk dfa next (labels_of ids)) (step_of dfa now id.label)
      (λ next. runs_by path ids next have.1)

  -- numbers on the path are those of an edge on it
  member_by : (path : List Edge) (ids : List EdgeId) (id : EdgeId) →
      HaveNumbers names dfa path ids → Contains ids id →
      (edge : Edge) × Contains path edge × HasNumbers names dfa edge id
  member_by [] [] id have member = absurd (none_in id member)
  member_by [] (first ∷ ids) id have member = absurd have
  member_by (edge ∷ path) [] id have member = absurd have
  member_by (edge ∷ path) (first ∷ ids) id have member = ⊎_elim
      (λ (here : first ≡ id). (
        edge,
        (cons_members edge path edge).1 (inl refl),
        subst (HasNumbers names dfa edge) here have.0,
      ))
      (λ further.
      let there = member_by path ids id have.1 further in (
        there.0,
        (cons_members edge path there.0).1 (inr there.1),
        there.2,
      ))
      ((cons_members first ids id).0 member)

  module _ (store : Edge → Option ℕ) (values : EdgeId → Option ℕ)
      (are : IsByNumbers names dfa store values) (number : ℕ) where
    abbrev IsReached : Edge → Type 0
    IsReached edge = IsAtLeast number (store edge)

    abbrev IsReachedId : EdgeId → Type 0
    IsReachedId id = IsAtLeast number (values id)

    reached_by : (path : List Edge) (ids : List EdgeId) → HaveNumbers names dfa path ids →
        All IsReachedId ids → All IsReached path
    reached_by [] [] have reached = All-nil IsReached
    reached_by [] (id ∷ ids) have reached = absurd have
    reached_by (edge ∷ path) [] have reached = absurd have
    reached_by (edge ∷ path) (id ∷ ids) have reached =
        All-cons IsReached edge path
        (subst (IsAtLeast number) (are.same edge id have.0) (All-head IsReachedId id ids reached))
        (reached_by path ids have.1 (All-tail IsReachedId id ids reached))

    least_by : (path : List Edge) (ids : List EdgeId) → HaveNumbers names dfa path ids →
        IsLeast values ids number → IsLeastIn store path number
    least_by path ids have least =
        let met = least.met in
        let there = member_by path ids met.1 have (met.0, met.2, met.3) in
        let at = there.1 in
        record {
          met = (at.0, there.0, at.1, at.2, sym (are.same there.0 met.1 there.2) ∙ met.4);
          least = reached_by path ids have least.least;
        }

pub paths_by_numbers : PathsByNumbers
paths_by_numbers names dfa store values from to root vertex state number path ids are numbers have
    is =
    record {
      some = some_by names dfa path ids have is.some;
      leads = leads_by names dfa path ids from to root vertex have numbers.0 numbers.1 is.leads;
      runs = runs_by names dfa path ids 0 have ∙ is.runs;
      least = least_by names dfa store values are number path ids have is.least;
    }

pub paths_show_answers : PathsShowAnswers
paths_show_answers query history names dfa edges pair root vertex state until path ids some words
    holds numbers have by final ends =
    let store = holds.store in
    let window = query.window in
    let live = edges_at window (clock history) history in
    let named = paths_by_numbers names dfa store (value_of edges) pair.from pair.to root vertex
    state until path ids holds.numbers numbers have by in
    record {
      joins = record {
        leads = record {
          some = named.some;
          members = All-weaker (λ (edge : Edge). IsAtLeast until (store edge)) (Contains live)
              (λ edge reached. live_now window history store some holds.is until edge reached)
              path named.least.least;
          leads = named.leads;
        };
        word = ((words (word_of path)).0 (state, named.runs, final)).1;
        taken = tt;
      };
      until = until;
      is_until = ends;
      least = λ other other_is. least_by names dfa other (value_of edges)
          (any_store window history names dfa edges other holds other_is) until path ids have
          by.least;
    }
