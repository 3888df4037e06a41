-- What the tests of paths decide.
use Rattle.std.proofs.Common.{◌≡◌, ◌≢◌, ℕ, suc, Bool, true, false, not, ◌&&◌, ◌==◌, Bor, List, [], ◌∷◌, length, map, refl, sym, ap, ◌∙◌, arith}
use Rattle.std.specs.Prelude.{◌↔◌, All, AllPairs, IsTrue}
use Rattle.std.proofs.lemmas.Bool.{false≢true, and_parts, not-true}
use Rattle.std.proofs.lemmas.Bool.Decides.{Decides-eqb}
use Rattle.std.proofs.lemmas.List.Elements.{All-cons, All-nil, All-head, All-tail}
use Rattle.std.proofs.lemmas.List.Kept.{AllPairs-cons}
use Rattle.rpq_base.specs.Same.{same_name}
use Rattle.rpq_base.specs.declared.data.Edge.{Edge}
use Rattle.rpq_base.specs.declared.data.Pair.{Pair}
use Rattle.rpq_base.proofs.Equality.{names}
use Rattle.rpq_model.specs.declared.mode.Mode.{Mode}
use Rattle.rpq_model.specs.declared.mode.Mode.TheVariants.{Arbitrary, Simple}
use Rattle.rpq_model.specs.Path.{Leads, word_of}
use Rattle.rpq_model.specs.Answers.{Takes}
use Rattle.rpq_model.specs.Query.{Query, language_of}
use Rattle.plain_checks.specs.PathTests.{edges_of, leads_to, avoids, are_apart, takes_path, Fits}

-- ---- two tests together

both_true : (first second : Bool) → first ≡ true → second ≡ true → (first && second) ≡ true
both_true first second p q = rw (p, q) refl

both_decide : {P Q : Type 0} (first second : Bool) → IsTrue first ↔ P → IsTrue second ↔ Q → IsTrue (first && second) ↔ (P × Q)
both_decide first second p q = (
  λ both. let parts = and_parts first second both in (p.0 parts.0, q.0 parts.1),
  λ both. both_true first second (p.1 both.0) (q.1 both.1),
)

-- ---- the edges lead from one vertex to another

pub leads_decides : (edges : List Edge) (from to : List ℕ) → IsTrue (leads_to from edges to) ↔ Leads from edges to
leads_decides [] from to = names from to
leads_decides (edge ∷ edges) from to =
    both_decide (same_name edge.from from) (leads_to edge.to edges to) (names edge.from from) (leads_decides edges edge.to to)

-- ---- they are simple

-- the targets of edges
abbrev targets : List Edge → List (List ℕ)
targets edges = map (λ edge. edge.to) edges

differs_decides : (first second : List ℕ) → IsTrue (not (same_name first second)) ↔ (second ≢ first)
differs_decides first second = (
  λ not_same same. false≢true (sym (not-true (same_name first second) not_same) ∙ (names first second).1 (sym same)),
  λ differ. by (same_name first second) refl differ,
)
  where
    by : (test : Bool) → same_name first second ≡ test → (second ≢ first) → not test ≡ true
    by true same differ = absurd (differ (sym ((names first second).0 same)))
    by false e differ = refl

avoids_decides : (edges : List Edge) (vertex : List ℕ) → IsTrue (avoids vertex edges) ↔ All (λ to. vertex ≢ to) (targets edges)
avoids_decides [] vertex = (λ e. All-nil (λ (to : List ℕ). vertex ≢ to), λ all. refl)
avoids_decides (edge ∷ edges) vertex =
    let both = both_decide (not (same_name edge.to vertex)) (avoids vertex edges) (differs_decides edge.to vertex) (avoids_decides edges vertex) in (
      (λ e. let parts = both.0 e in All-cons (λ (to : List ℕ). vertex ≢ to) edge.to (targets edges) parts.0 parts.1),
      (λ all. both.1 (All-head (λ (to : List ℕ). vertex ≢ to) edge.to (targets edges) all, All-tail (λ (to : List ℕ). vertex ≢ to) edge.to (targets edges) all)),
    )

-- the first vertex differs from those behind it
apart_first : (first : List ℕ) (rest : List (List ℕ)) → AllPairs (λ vertex later. vertex ≢ later) (first ∷ rest) → All (λ later. first ≢ later) rest
apart_first first rest apart = λ i d below. apart 0 (suc i) d (omega arith) (omega (arith, below))

-- the vertices behind the first differ from one another
apart_rest : (first : List ℕ) (rest : List (List ℕ)) → AllPairs (λ vertex later. vertex ≢ later) (first ∷ rest) → AllPairs (λ vertex later. vertex ≢ later) rest
apart_rest first rest apart = λ i j d before below. apart (suc i) (suc j) d (omega (arith, before)) (omega (arith, below))

apart_decides : (edges : List Edge) → IsTrue (are_apart edges) ↔ AllPairs (λ vertex later. vertex ≢ later) (targets edges)
apart_decides [] = (λ e i j d before below. absurd (omega (arith, below)), λ apart. refl)
apart_decides (edge ∷ edges) =
    let both = both_decide (avoids edge.to edges) (are_apart edges) (avoids_decides edges edge.to) (apart_decides edges) in (
      (λ e. let parts = both.0 e in AllPairs-cons (λ (vertex later : List ℕ). vertex ≢ later) edge.to (targets edges) parts.0 parts.1),
      (λ apart. both.1 (apart_first edge.to (targets edges) apart, apart_rest edge.to (targets edges) apart)),
    )

takes_decides : (mode : Mode) (edges : List Edge) (from : List ℕ) → IsTrue (takes_path mode from edges) ↔ Takes mode from edges
takes_decides Arbitrary edges from = (λ e. tt, λ any. refl)
takes_decides Simple edges from =
    let both = both_decide (avoids from edges) (are_apart edges) (avoids_decides edges from) (apart_decides edges) in (
      (λ e. let parts = both.0 e in AllPairs-cons (λ (vertex later : List ℕ). vertex ≢ later) from (targets edges) parts.0 parts.1),
      (λ apart. both.1 (apart_first from (targets edges) apart, apart_rest from (targets edges) apart)),
    )

-- ---- they fit

-- there are some
pub some_decides : (edges : List (Bor Edge)) (none : Bool) → none ≡ (length edges == 0) → IsTrue (not none) ↔ (edges_of edges ≢ [])
some_decides [] none is = (
  (λ some. absurd (false≢true (sym (ap not is) ∙ some))),
  (λ some. absurd (some refl)),
)
some_decides (edge ∷ edges) none is = (
  (λ some e. cons_is_some edge.now (edges_of edges) e),
  (λ some. by none refl),
)
  where
    by : (test : Bool) → none ≡ test → not none ≡ true
    by true e = absurd (omega (arith, (Decides-eqb (length (edge ∷ edges)) 0).0 (sym is ∙ e)))
    by false e = ap not e

    cons_is_some : (first : Edge) (rest : List Edge) → first ∷ rest ≡ [] → ⊥
    cons_is_some first rest e = cc

pub fits_decides : (query : Query) (pair : Pair) (edges : List Edge) (some is_word leads takes : Bool) →
    IsTrue some ↔ (edges ≢ []) → IsTrue is_word ↔ language_of query (word_of edges) → leads ≡ leads_to pair.from edges pair.to →
    takes ≡ takes_path query.mode pair.from edges →
    IsTrue (((some && is_word) && leads) && takes) ↔ Fits query pair edges
fits_decides query pair edges some is_word leads takes some_is word_is leads_is takes_is =
    let leads_too : IsTrue leads ↔ Leads pair.from edges pair.to =
    let decides = leads_decides edges pair.from pair.to in (λ e. decides.0 (sym leads_is ∙ e), λ is. leads_is ∙ decides.1 is) in
    let takes_too : IsTrue takes ↔ Takes query.mode pair.from edges =
    let decides = takes_decides query.mode edges pair.from in (λ e. decides.0 (sym takes_is ∙ e), λ is. takes_is ∙ decides.1 is) in
    let all =
    both_decide ((some && is_word) && leads) takes (both_decide (some && is_word) leads (both_decide some is_word some_is word_is) leads_too) takes_too in (
      (λ e. let parts = all.0 e in record { some = parts.0.0.0; leads = parts.0.1; word = parts.0.0.1; taken = parts.1 }),
      (λ fits. all.1 (((fits.some, fits.word), fits.leads), fits.taken)),
    )
