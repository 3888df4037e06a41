-- Paths, cut and joined.
use Rattle.std.proofs.Common.{◌≡◌, ◌≢◌, ℕ, List, [], ◌∷◌, ◌++◌, refl, sym, ap, subst, ◌∙◌}
use Rattle.std.specs.Prelude.{All, Contains}
use Rattle.std.proofs.lemmas.List.Elements.{All-cons, All-nil, All-head, All-tail, All-append, All-weaker}
use Rattle.rpq_base.specs.declared.data.Label.{Label}
use Rattle.rpq_base.specs.declared.data.Edge.{Edge}
use Rattle.rpq_base.specs.declared.data.Pair.{Pair}
use Rattle.rpq_model.specs.declared.mode.Mode.{Mode}
use Rattle.rpq_model.specs.declared.mode.Mode.TheVariants.{Arbitrary}
use Rattle.rpq_model.specs.Path.{Leads, IsPath, word_of}
use Rattle.rpq_model.specs.Answers.{Joins, IsJoinedBy}
use Rattle.rpq_model.specs.Relations.{between}

-- ---- one edge

-- a path whose word is one label is an edge
one_edge : (path : List Edge) (edges : List Edge) (label : Label) (pair : Pair) → Joins edges (λ word. word ≡ label ∷ []) Arbitrary pair path →
    (edge : Edge) × Contains edges edge × (edge.label ≡ label) × (between edge.from edge.to ≡ pair)
one_edge [] edges label pair joins = absurd (joins.leads.some refl)
one_edge (edge ∷ []) edges label pair joins =
    let word : edge.label ∷ [] ≡ label ∷ [] = joins.word in
    let leads = joins.leads.leads in
    (edge, All-head (Contains edges) edge [] joins.leads.members, cc, λ i. record { from = leads.0 i; to = leads.1 i })
one_edge (edge ∷ second ∷ path) edges label pair joins =
    let word : edge.label ∷ second.label ∷ word_of path ≡ label ∷ [] = joins.word in
    absurd (cc)

-- one label joins the ends of the edges that have it
pub one_label_joins : (edges : List Edge) (label : Label) (pair : Pair) → IsJoinedBy edges (λ word. word ≡ label ∷ []) Arbitrary pair →
    (edge : Edge) × Contains edges edge × (edge.label ≡ label) × (between edge.from edge.to ≡ pair)
one_label_joins edges label pair joined = one_edge joined.0 edges label pair joined.1

-- and the other way round
pub joined_by_edge : (edges : List Edge) (label : Label) (pair : Pair) (edge : Edge) → Contains edges edge → edge.label ≡ label →
    between edge.from edge.to ≡ pair →
    IsJoinedBy edges (λ word. word ≡ label ∷ []) Arbitrary pair
joined_by_edge edges label pair edge member has_label is = (
  edge ∷ [],
  record {
    leads = record {
      some = λ e. cc;
      members = All-cons (Contains edges) edge [] member (All-nil (Contains edges));
      leads = (ap (λ (each : Pair). each.from) is, ap (λ (each : Pair). each.to) is);
    };
    word = ap (λ (each : Label). each ∷ []) has_label;
    taken = tt;
  },
)

-- ---- two paths, one after another

-- edges that lead on
pub leads_on : (path : List Edge) (more : List Edge) (from middle to : List ℕ) → Leads from path middle → Leads middle more to → Leads from (path ++ more) to
leads_on [] more from middle to first second = subst (λ (start : List ℕ). Leads start more to) (sym first) second
leads_on (edge ∷ path) more from middle to first second = (first.0, leads_on path more edge.to middle to first.1 second)

-- the word of two paths
pub word_on : (path more : List Edge) → word_of (path ++ more) ≡ word_of path ++ word_of more
word_on [] more = refl
word_on (edge ∷ path) more = ap (λ (word : List Label). edge.label ∷ word) (word_on path more)

some_on : (path more : List Edge) → path ≢ [] → path ++ more ≢ []
some_on [] more some = absurd (some refl)
some_on (edge ∷ path) more some = λ e. cc

-- two paths, one after another, are a path
pub path_on : (edges : List Edge) (from middle to : List ℕ) (path more : List Edge) → IsPath edges from path middle → IsPath edges middle more to →
    IsPath edges from (path ++ more) to
path_on edges from middle to path more first second = record {
  some = some_on path more first.some;
  members = All-append (Contains edges) path more first.members second.members;
  leads = leads_on path more from middle to first.leads second.leads;
}

-- ---- a path, cut in two

-- a front and a rest, with a vertex between them, where the word of the front is this
pub record IsCut (edges : List Edge) (from to : List ℕ) (first second : List Label) : Type 0 where
  pub front : List Edge
  pub rest : List Edge
  pub middle : List ℕ
  pub front_members : All (Contains edges) front
  pub rest_members : All (Contains edges) rest
  pub front_leads : Leads from front middle
  pub rest_leads : Leads middle rest to
  pub front_word : word_of front ≡ first
  pub rest_word : word_of rest ≡ second

-- edges are cut where their word is
pub cut : (first : List Label) (second : List Label) (path : List Edge) (edges : List Edge) (from to : List ℕ) →
    All (Contains edges) path → Leads from path to → word_of path ≡ first ++ second → IsCut edges from to first second
cut [] second path edges from to members leads word = record {
  front = [];
  rest = path;
  middle = from;
  front_members = All-nil (Contains edges);
  rest_members = members;
  front_leads = refl;
  rest_leads = leads;
  front_word = refl;
  rest_word = word;
}
cut (label ∷ first) second [] edges from to members leads word = cc
cut (label ∷ first) second (edge ∷ path) edges from to members leads word =
    let word_is : edge.label ∷ word_of path ≡ label ∷ (first ++ second) = word in
    let rest_is : word_of path ≡ first ++ second = cc in
    let label_is : edge.label ≡ label = cc in
    let later = cut first second path edges edge.to to (All-tail (Contains edges) edge path members) leads.1 rest_is in
    record {
      front = edge ∷ later.front;
      rest = later.rest;
      middle = later.middle;
      front_members = All-cons (Contains edges) edge later.front (All-head (Contains edges) edge path members) later.front_members;
      rest_members = later.rest_members;
      front_leads = (leads.0, later.front_leads);
      rest_leads = later.rest_leads;
      front_word = ap (λ (one : Label). one ∷ word_of later.front) label_is ∙ ap (λ (word : List Label). label ∷ word) later.front_word;
      rest_word = later.rest_word;
    }

-- no word, no edges
pub no_word : (path : List Edge) → word_of path ≡ [] → path ≡ []
no_word [] word = refl
no_word (edge ∷ path) word = let word_is : edge.label ∷ word_of path ≡ [] = word in cc

-- the word of a path isn't empty
pub some_word : (path : List Edge) → path ≢ [] → word_of path ≢ []
some_word path some empty = some (no_word path empty)

-- a cut with a word in front is a path there
pub front_path : (edges : List Edge) (from to : List ℕ) (first second : List Label) (parts : IsCut edges from to first second) → first ≢ [] →
    IsPath edges from parts.front parts.middle
front_path edges from to first second parts some = record {
  some = λ empty. some (sym parts.front_word ∙ ap word_of empty);
  members = parts.front_members;
  leads = parts.front_leads;
}

pub rest_path : (edges : List Edge) (from to : List ℕ) (first second : List Label) (parts : IsCut edges from to first second) → second ≢ [] →
    IsPath edges parts.middle parts.rest to
rest_path edges from to first second parts some = record {
  some = λ empty. some (sym parts.rest_word ∙ ap word_of empty);
  members = parts.rest_members;
  leads = parts.rest_leads;
}

-- a path is joined by a language that has its word
pub joined_by : (edges : List Edge) (language : List Label → Type 0) (from to : List ℕ) (path : List Edge) (word : List Label) →
    IsPath edges from path to → word_of path ≡ word → language word → IsJoinedBy edges language Arbitrary (between from to)
joined_by edges language from to path word leads is within = (path, record { leads = leads; word = subst language (sym is) within; taken = tt })

-- the paths whose words are in the one language, where their words are in the other
pub joined_same : (edges : List Edge) (mode : Mode) (language other : List Label → Type 0) → ((word : List Label) → word ≢ [] → language word → other word) →
    (pair : Pair) → IsJoinedBy edges language mode pair → IsJoinedBy edges other mode pair
joined_same edges mode language other gives pair joined =
    let joins = joined.1 in
    (joined.0, record { leads = joins.leads; word = gives (word_of joined.0) (some_word joined.0 joins.leads.some) joins.word; taken = joins.taken })

-- more edges join more
pub more_edges : (edges others : List Edge) (language : List Label → Type 0) (mode : Mode) (pair : Pair) →
    ((edge : Edge) → Contains edges edge → Contains others edge) →
    IsJoinedBy edges language mode pair → IsJoinedBy others language mode pair
more_edges edges others language mode pair are joined =
    let joins = joined.1 in (
      joined.0,
      record {
        leads = record {
          some = joins.leads.some;
          members = All-weaker (Contains edges) (Contains others) are joined.0 joins.leads.members;
          leads = joins.leads.leads;
        };
        word = joins.word;
        taken = joins.taken;
      },
    )
