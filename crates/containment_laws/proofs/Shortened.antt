-- A path that comes back to a vertex can do without the way between.
use Rattle.std.proofs.Common.{◌≡◌, ◌≢◌, ℕ, zero, suc, ◌+◌, ◌<◌, ◌≤◌, Bool, true, false, List, [], ◌∷◌, ◌++◌, length, refl, sym, ap, subst, ◌∙◌, ⊎_elim, inl, inr, ◌⊎◌, arith}
use Rattle.std.specs.Prelude.{All, Contains}
use Rattle.std.proofs.lemmas.Bool.{false≢true}
use Rattle.std.proofs.lemmas.List.{length-append}
use Rattle.std.proofs.lemmas.List.Elements.{All-cons, All-nil, All-head, All-tail, All-append}
use Rattle.std.proofs.lemmas.List.Kept.{AllPairs-cons}
use Rattle.rpq_base.proofs.Equality.{names}
use Rattle.rpq_base.specs.Same.{same_name}
use Rattle.rpq_base.specs.declared.data.Label.{Label}
use Rattle.rpq_base.specs.declared.data.Edge.{Edge}
use Rattle.rpq_base.specs.declared.data.Pair.{Pair}
use Rattle.rpq_model.specs.declared.mode.Mode.TheVariants.{Arbitrary, Simple}
use Rattle.rpq_model.specs.Path.{Leads, word_of, vertices, IsSimple}
use Rattle.rpq_model.specs.Answers.{Joins, IsJoinedBy}
use Rattle.rpq_model.proofs.Paths.{leads_on, word_on}
use Rattle.containment_test.specs.Containment.{Contained}
use Rattle.containment_laws.specs.SimplePaths.{SimplePathsSuffice}

-- whether two names are one
one_or_other : (first second : List ℕ) → (first ≡ second) ⊎ (first ≢ second)
one_or_other first second = by_test (same_name first second) refl
  where
    by_test : (b : Bool) → same_name first second ≡ b → (first ≡ second) ⊎ (first ≢ second)
    by_test true is = inl ((names first second).0 is)
    by_test false is = inr (λ same. false≢true (sym is ∙ (names first second).1 same))

-- edges, cut where they come to a vertex
record IsCutAt (from vertex to : List ℕ) (path : List Edge) : Type 0 where
  pub front : List Edge
  pub rest : List Edge
  pub is : path ≡ front ++ rest
  pub there : Leads from front vertex
  pub on : Leads vertex rest to

visits : (path : List Edge) (from vertex to : List ℕ) → Leads from path to → IsCutAt from vertex to path ⊎ All (λ each. vertex ≢ each) (vertices from path)
visits [] from vertex to leads = ⊎_elim
    (λ same. inl (record { front = []; rest = []; is = refl; there = sym same; on = same ∙ leads }))
    (λ other. inr (All-cons (λ (each : List ℕ). vertex ≢ each) from [] other (All-nil (λ (each : List ℕ). vertex ≢ each))))
    (one_or_other vertex from)
visits (edge ∷ path) from vertex to leads = ⊎_elim
    (λ same. inl (record { front = []; rest = edge ∷ path; is = refl; there = sym same; on = (leads.0 ∙ sym same, leads.1) }))
    (λ other. ⊎_elim
    (λ later. inl (record {
      front = edge ∷ later.front;
      rest = later.rest;
      is = ap (λ (rest : List Edge). edge ∷ rest) later.is;
      there = (leads.0, later.there);
      on = later.on;
    }))
    (λ apart. inr (All-cons (λ (each : List ℕ). vertex ≢ each) from (vertices edge.to path) other apart))
    (visits path edge.to vertex to leads.1))
    (one_or_other vertex from)

-- edges with a part that leads back to where it begins
record HasLoop (from to : List ℕ) (path : List Edge) : Type 0 where
  pub front : List Edge
  pub loop : List Edge
  pub rest : List Edge
  pub vertex : List ℕ
  pub is : path ≡ front ++ (loop ++ rest)
  pub some : 0 < length loop
  pub there : Leads from front vertex
  pub on : Leads vertex rest to

loop_or_simple : (path : List Edge) (from to : List ℕ) → Leads from path to → HasLoop from to path ⊎ IsSimple from path
loop_or_simple [] from to leads = inr (AllPairs-cons (λ vertex later. vertex ≢ later) from [] (All-nil (λ (each : List ℕ). from ≢ each)) (λ i j d before below. absurd (omega (arith, below))))
loop_or_simple (edge ∷ path) from to leads = ⊎_elim
    (λ later. inl (record {
      front = edge ∷ later.front;
      loop = later.loop;
      rest = later.rest;
      vertex = later.vertex;
      is = ap (λ (rest : List Edge). edge ∷ rest) later.is;
      some = later.some;
      there = (leads.0, later.there);
      on = later.on;
    }))
    (λ simple. ⊎_elim
    (λ back. inl (record {
      front = [];
      loop = edge ∷ back.front;
      rest = back.rest;
      vertex = from;
      is = ap (λ (rest : List Edge). edge ∷ rest) back.is;
      some = omega arith;
      there = refl;
      on = back.on;
    }))
    (λ apart. inr (AllPairs-cons (λ vertex later. vertex ≢ later) from (vertices edge.to path) apart simple))
    (visits path edge.to from to leads.1))
    (loop_or_simple path edge.to to leads.1)

All-front : (P : Edge → Type 0) (front rest : List Edge) → All P (front ++ rest) → All P front
All-front P [] rest all = All-nil P
All-front P (edge ∷ front) rest all = All-cons P edge front (All-head P edge (front ++ rest) all) (All-front P front rest (All-tail P edge (front ++ rest) all))

All-rest : (P : Edge → Type 0) (front rest : List Edge) → All P (front ++ rest) → All P rest
All-rest P [] rest all = all
All-rest P (edge ∷ front) rest all = All-rest P front rest (All-tail P edge (front ++ rest) all)

-- edges that lead elsewhere are some
some_edges : (path : List Edge) (from to : List ℕ) → from ≢ to → Leads from path to → path ≢ []
some_edges [] from to apart leads none = apart leads
some_edges (edge ∷ path) from to apart leads none = cc

some_word : (path : List Edge) → path ≢ [] → word_of path ≢ []
some_word [] some none = some refl
some_word (edge ∷ path) some none = cc

-- a path without a part that leads back joins the pair too
without_loop : (language : List Label → Type 0) (edges path : List Edge) (pair : Pair) → Contained language → pair.from ≢ pair.to → Joins edges language Arbitrary pair path →
    (has : HasLoop pair.from pair.to path) → Joins edges language Arbitrary pair (has.front ++ has.rest)
without_loop language edges path pair contained apart joins has =
    let members = subst (All (Contains edges)) has.is joins.leads.members in
    let leads = leads_on has.front has.rest pair.from has.vertex pair.to has.there has.on in
    let some = some_edges (has.front ++ has.rest) pair.from pair.to apart leads in
    let whole : word_of path ≡ word_of has.front ++ (word_of has.loop ++ word_of has.rest) =
    ap word_of has.is ∙ (word_on has.front (has.loop ++ has.rest) ∙ ap (λ (word : List Label). word_of has.front ++ word) (word_on has.loop has.rest)) in
    let joined = word_on has.front has.rest in
    record {
      leads = record {
        some = some;
        members = All-append (Contains edges) has.front has.rest (All-front (Contains edges) has.front (has.loop ++ has.rest) members)
            (All-rest (Contains edges) has.loop has.rest (All-rest (Contains edges) has.front (has.loop ++ has.rest) members));
        leads = leads;
      };
      word = subst language (sym joined) (contained (word_of has.front) (word_of has.loop) (word_of has.rest)
          (λ none. some_word (has.front ++ has.rest) some (joined ∙ none)) (subst language whole joins.word));
      taken = tt;
    }

shorter : (from to : List ℕ) (path : List Edge) (count : ℕ) → (has : HasLoop from to path) → length path ≤ suc count → length (has.front ++ has.rest) ≤ count
shorter from to path count has few =
    let whole : length path ≡ length has.front + (length has.loop + length has.rest) =
    ap length has.is ∙ (length-append has.front (has.loop ++ has.rest) ∙ ap (λ (n : ℕ). length has.front + n) (length-append has.loop has.rest)) in
    omega (arith, whole, few, has.some, length-append has.front has.rest)

shortened : (count : ℕ) (language : List Label → Type 0) (edges path : List Edge) (pair : Pair) → Contained language → pair.from ≢ pair.to → length path ≤ count →
    Joins edges language Arbitrary pair path → IsJoinedBy edges language Simple pair
shortened zero language edges [] pair contained apart few joins = absurd (joins.leads.some refl)
shortened zero language edges (edge ∷ path) pair contained apart few joins = absurd (omega (arith, few))
shortened (suc count) language edges path pair contained apart few joins = ⊎_elim
    (λ has. shortened count language edges (has.front ++ has.rest) pair contained apart (shorter pair.from pair.to path count has few)
    (without_loop language edges path pair contained apart joins has))
    (λ simple. (path, record { leads = joins.leads; word = joins.word; taken = simple }))
    (loop_or_simple path pair.from pair.to joins.leads.leads)

pub contained_suffices : (language : List Label → Type 0) → Contained language → SimplePathsSuffice language
contained_suffices language contained edges pair apart joined =
    shortened (length joined.0) language edges joined.0 pair contained apart (omega arith) joined.1
