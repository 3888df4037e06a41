-- A chain of edges that spells a word, with one edge that leads back to where it begins: only the chain is a simple path.
use Rattle.std.proofs.Common.{◌≡◌, ◌≢◌, ℕ, suc, ◌<◌, ◌≤◌, List, [], ◌∷◌, ◌++◌, length, get_or, refl, sym, ap, subst, ◌∙◌, ⊎_elim, inl, inr, ◌⊎◌, arith}
use Rattle.std.specs.Prelude.{All, Contains}
use Rattle.std.proofs.lemmas.List.Elements.{All-cons, All-nil, All-head, All-tail}
use Rattle.rpq_base.proofs.Members.{cons_members, none_in}
use Rattle.rpq_base.specs.declared.data.Label.{Label}
use Rattle.rpq_base.specs.declared.data.Edge.{Edge}
use Rattle.rpq_base.specs.declared.data.Pair.{Pair}
use Rattle.rpq_model.specs.declared.mode.Mode.TheVariants.{Arbitrary}
use Rattle.rpq_model.specs.Path.{Leads, word_of, IsSimple}
use Rattle.rpq_model.specs.Answers.{IsJoinedBy}
use Rattle.containment_test.specs.Containment.{Contained}
use Rattle.containment_test.proofs.Words.{not_empty}
use Rattle.containment_laws.specs.SimplePaths.{SimplePathsSuffice}

-- the vertex from which so many edges of the chain are left
abbrev vertex : ℕ → List ℕ
vertex count = count ∷ []

same_vertex : (one other : ℕ) → vertex one ≡ vertex other → one ≡ other
same_vertex one other same = ap (λ (name : List ℕ). get_or name 0 0) same

-- the edge of the label before the rest of a word
abbrev step_edge : Label → List Label → Edge
step_edge label rest = record { from = vertex (suc (length rest)); label = label; to = vertex (length rest) }

-- and the one that leads back
abbrev loop_edge : Label → List Label → Edge
loop_edge label rest = record { from = vertex (length rest); label = label; to = vertex (length rest) }

abbrev chain : List Label → List Edge
chain [] = []
chain (label ∷ word) = step_edge label word ∷ chain word

-- the chain of p and w, with the edge that leads back between them
abbrev looped : List Label → Label → List Label → List Edge
looped [] label w = loop_edge label w ∷ chain w
looped (first ∷ p) label w = step_edge first (p ++ w) ∷ looped p label w

-- ---- the way with that edge

chain_leads : (w : List Label) → Leads (vertex (length w)) (chain w) (vertex 0)
chain_leads [] = refl
chain_leads (label ∷ w) = (refl, chain_leads w)

looped_leads : (p : List Label) (label : Label) (w : List Label) → Leads (vertex (length (p ++ w))) (looped p label w) (vertex 0)
looped_leads [] label w = (refl, chain_leads w)
looped_leads (first ∷ p) label w = (refl, looped_leads p label w)

chain_word : (w : List Label) → word_of (chain w) ≡ w
chain_word [] = refl
chain_word (label ∷ w) = ap (λ (rest : List Label). label ∷ rest) (chain_word w)

looped_word : (p : List Label) (label : Label) (w : List Label) → word_of (looped p label w) ≡ p ++ (label ∷ w)
looped_word [] label w = ap (λ (rest : List Label). label ∷ rest) (chain_word w)
looped_word (first ∷ p) label w = ap (λ (rest : List Label). first ∷ rest) (looped_word p label w)

-- the edges have those of the list
abbrev Have : List Edge → List Edge → Type 0
Have edges list = (edge : Edge) → Contains list edge → Contains edges edge

have_first : (edges : List Edge) (edge : Edge) (list : List Edge) → Have edges (edge ∷ list) → Contains edges edge
have_first edges edge list have = have edge ((cons_members edge list edge).1 (inl refl))

have_rest : (edges : List Edge) (edge : Edge) (list : List Edge) → Have edges (edge ∷ list) → Have edges list
have_rest edges edge list have = λ each member. have each ((cons_members edge list each).1 (inr member))

chain_members : (w : List Label) (edges : List Edge) → Have edges (chain w) → All (Contains edges) (chain w)
chain_members [] edges have = All-nil (Contains edges)
chain_members (label ∷ w) edges have =
    All-cons (Contains edges) (step_edge label w) (chain w) (have_first edges (step_edge label w) (chain w) have)
    (chain_members w edges (have_rest edges (step_edge label w) (chain w) have))

looped_members : (p : List Label) (label : Label) (w : List Label) (edges : List Edge) → Contains edges (loop_edge label w) → Have edges (chain (p ++ w)) →
    All (Contains edges) (looped p label w)
looped_members [] label w edges back have = All-cons (Contains edges) (loop_edge label w) (chain w) back (chain_members w edges have)
looped_members (first ∷ p) label w edges back have =
    All-cons (Contains edges) (step_edge first (p ++ w)) (looped p label w) (have_first edges (step_edge first (p ++ w)) (chain (p ++ w)) have)
    (looped_members p label w edges back (have_rest edges (step_edge first (p ++ w)) (chain (p ++ w)) have))

looped_some : (p : List Label) (label : Label) (w : List Label) → looped p label w ≢ []
looped_some [] label w none = cc
looped_some (first ∷ p) label w none = cc

-- ---- the simple way

-- an edge of the chain begins at one of its vertices
chain_low : (word : List Label) (edge : Edge) → Contains (chain word) edge → (count : ℕ) × (edge.from ≡ vertex count) × (count ≤ length word)
chain_low [] edge member = absurd (none_in edge member)
chain_low (label ∷ word) edge member = ⊎_elim
    (λ same. (suc (length word), sym (ap (λ (e : Edge). e.from) same), omega arith))
    (λ later. let low = chain_low word edge later in (low.0, low.1, omega (arith, low.2)))
    ((cons_members (step_edge label word) (chain word) edge).0 member)

-- each edge leads back to where it begins, is one of the chain, or begins before it
abbrev Fits : List Label → List Edge → Type 0
Fits word edges = (edge : Edge) → Contains edges edge →
    (edge.from ≡ edge.to) ⊎ (Contains (chain word) edge ⊎ ((count : ℕ) × (edge.from ≡ vertex count) × (length word < count)))

fits_rest : (label : Label) (word : List Label) (edges : List Edge) → Fits (label ∷ word) edges → Fits word edges
fits_rest label word edges fits = λ edge member. ⊎_elim
    (λ back. inl back)
    (λ others. ⊎_elim
    (λ on. ⊎_elim
    (λ same. inr (inr (suc (length word), sym (ap (λ (e : Edge). e.from) same), omega arith)))
    (λ later. inr (inl later))
    ((cons_members (step_edge label word) (chain word) edge).0 on))
    (λ above. inr (inr (above.0, above.1, omega (arith, above.2))))
    others)
    (fits edge member)

empty_word : (word : List Label) → length word ≡ 0 → [] ≡ word
empty_word [] none = refl
empty_word (label ∷ word) none = absurd (omega (arith, none))

-- the rest of a simple path spells the rest of the word
abbrev SpellsRest : List Edge → List Edge → Type 0
SpellsRest edges path = (word : List Label) → Fits word edges → Leads (vertex (length word)) path (vertex 0) → IsSimple (vertex (length word)) path → word_of path ≡ word

on_chain : (word : List Label) (edge : Edge) (edges path : List Edge) → SpellsRest edges path → Contains (chain word) edge → edge.from ≡ vertex (length word) → Fits word edges →
    Leads edge.to path (vertex 0) → IsSimple edge.to path → edge.label ∷ word_of path ≡ word
on_chain [] edge edges path further member begins fits leads simple = absurd (none_in edge member)
on_chain (label ∷ word) edge edges path further member begins fits leads simple = ⊎_elim
    (λ same.
    let to : edge.to ≡ vertex (length word) = sym (ap (λ (e : Edge). e.to) same) in
    let is : edge.label ≡ label = sym (ap (λ (e : Edge). e.label) same) in
    let rest = further word (fits_rest label word edges fits) (subst (λ (from : List ℕ). Leads from path (vertex 0)) to leads)
    (subst (λ (from : List ℕ). IsSimple from path) to simple) in
    ap (λ (first : Label). first ∷ word_of path) is ∙ ap (λ (more : List Label). label ∷ more) rest)
    (λ later.
    let low = chain_low word edge later in
    let equal = same_vertex low.0 (suc (length word)) (sym low.1 ∙ begins) in
    absurd (omega (arith, low.2, equal)))
    ((cons_members (step_edge label word) (chain word) edge).0 member)

spells : (path edges : List Edge) → All (Contains edges) path → SpellsRest edges path
spells [] edges members word fits leads simple = empty_word word (same_vertex (length word) 0 leads)
spells (edge ∷ path) edges members word fits leads simple = ⊎_elim
    (λ back. absurd (simple 0 1 [] (omega arith) (omega arith) (sym leads.0 ∙ back)))
    (λ others. ⊎_elim
    (λ on. on_chain word edge edges path (spells path edges (All-tail (Contains edges) edge path members)) on leads.0 fits leads.1
    (λ i j d before within. simple (suc i) (suc j) d (omega (arith, before)) (omega (arith, within))))
    (λ above. let equal = same_vertex above.0 (length word) (sym above.1 ∙ leads.0) in absurd (omega (arith, above.2, equal)))
    others)
    (fits edge (All-head (Contains edges) edge path members))

-- ---- one label, and then any part

first_vertex : (word : List Label) → word ≢ [] → vertex (length word) ≢ vertex 0
first_vertex [] some same = some refl
first_vertex (label ∷ word) some same = let equal = same_vertex (suc (length word)) 0 same in omega (arith, equal)

one_label : (language : List Label → Type 0) → SimplePathsSuffice language → (p w : List Label) (label : Label) → p ++ w ≢ [] → language (p ++ (label ∷ w)) → language (p ++ w)
one_label language suffice p w label some inside =
    let word = p ++ w in
    let back = loop_edge label w in
    let edges = back ∷ chain word in
    let pair : Pair = record { from = vertex (length word); to = vertex 0 } in
    let joined : IsJoinedBy edges language Arbitrary pair = (
      looped p label w,
      record {
        leads = record {
          some = looped_some p label w;
          members = looped_members p label w edges ((cons_members back (chain word) back).1 (inl refl)) (λ edge member. (cons_members back (chain word) edge).1 (inr member));
          leads = looped_leads p label w;
        };
        word = subst language (sym (looped_word p label w)) inside;
        taken = tt;
      },
    ) in
    let simple = suffice edges pair (first_vertex word some) joined in
    let fits : Fits word edges = λ edge member. ⊎_elim
    (λ same. inl (sym (ap (λ (e : Edge). e.from) same) ∙ ap (λ (e : Edge). e.to) same))
    (λ on. inr (inl on))
    ((cons_members back (chain word) edge).0 member) in
    subst language (spells simple.0 edges simple.1.leads.members word fits simple.1.leads.leads simple.1.taken) simple.1.word

pub suffices_contained : (language : List Label → Type 0) → SimplePathsSuffice language → Contained language
suffices_contained language suffice p [] w some inside = inside
suffices_contained language suffice p (label ∷ q) w some inside =
    suffices_contained language suffice p q w some (one_label language suffice p (q ++ w) label (not_empty p q w some) inside)
