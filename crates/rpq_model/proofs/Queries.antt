-- The laws over queries.
use Rattle.std.proofs.Common.{◌≡◌, ◌≢◌, ℕ, suc, List, [], ◌∷◌, map, refl, sym, subst, ◌∙◌}
use Rattle.std.proofs.Common.{⊎_elim, arith}
use Rattle.std.specs.Prelude.{All, AllPairs}
use Rattle.std.proofs.lemmas.Bool.{cases_order}
use Rattle.std.proofs.lemmas.List.Elements.{All-head, All-tail}
use Rattle.rpq_base.specs.declared.data.Label.{Label}
use Rattle.rpq_base.specs.declared.data.Edge.{Edge}
use Rattle.rpq_base.specs.declared.data.Entry.{Entry}
use Rattle.rpq_base.specs.declared.data.Pair.{Pair}
use Rattle.rpq_model.specs.declared.mode.Mode.{Mode}
use Rattle.rpq_model.specs.declared.mode.Mode.TheVariants.{Simple}
use Rattle.rpq_model.specs.Path.{Leads}
use Rattle.rpq_model.specs.Window.{edges_at}
use Rattle.rpq_model.specs.Answers.{PathQuery, Joins}
use Rattle.rpq_model.specs.Ends.{IsUntil}
use Rattle.rpq_model.specs.AnswerLaws.{EmptyWordBringsNoPair, SimpleAnswersAreApart}
use Rattle.rpq_model.proofs.Paths.{joined_same}

pub until_is_one : (query : PathQuery) (history : List Entry) (pair : Pair) (until other : ℕ) →
    IsUntil query history pair until → IsUntil query history pair other → until ≡ other
until_is_one query history pair until other first second = ⊎_elim
    (λ same. same)
    (λ differ. absurd (⊎_elim
    (λ below. first.ended (second.lasts until below))
    (λ above. second.ended (first.lasts other above))
    differ))
    (cases_order until other)

pub empty_word_brings_no_pair : (language other : List Label → Type 0) → EmptyWordBringsNoPair language other
empty_word_brings_no_pair language other same mode window now entries pair = (
  joined_same (edges_at window now entries) mode language other (λ word some. (same word some).0) pair,
  joined_same (edges_at window now entries) mode other language (λ word some. (same word some).1) pair,
)

-- ---- the targets of a path's edges

abbrev pub targets_of : List Edge → List (List ℕ)
targets_of path = map (λ edge. edge.to) path

-- those after the first differ from it
pub apart_first : (first : List ℕ) (rest : List (List ℕ)) →
    AllPairs (λ vertex later. vertex ≢ later) (first ∷ rest) → All (λ later. first ≢ later) rest
apart_first first rest apart = λ k d below. apart 0 (suc k) d (omega arith) (omega (arith, below))

-- what differs from all targets of a path differs from its end
end_differs : (path : List Edge) (vertex from to : List ℕ) → path ≢ [] → Leads from path to → All (λ later. vertex ≢ later) (targets_of path) → vertex ≢ to
end_differs [] vertex from to some leads differ = absurd (some refl)
end_differs (edge ∷ []) vertex from to some leads differ = λ is. All-head (λ later. vertex ≢ later) edge.to [] differ (is ∙ sym leads.1)
end_differs (edge ∷ next ∷ path) vertex from to some leads differ =
    end_differs (next ∷ path) vertex edge.to to (λ e. cc) leads.1 (All-tail (λ later. vertex ≢ later) edge.to (targets_of (next ∷ path)) differ)

-- a simple path has two ends
ends_differ : (path : List Edge) (edges : List Edge) (language : List Label → Type 0) (mode : Mode) (pair : Pair) → mode ≡ Simple →
    Joins edges language mode pair path → pair.from ≢ pair.to
ends_differ path edges language mode pair is joins =
    let simple = subst (λ (each : Mode). Joins edges language each pair path) is joins in
    end_differs path pair.from pair.from pair.to simple.leads.some simple.leads.leads (apart_first pair.from (targets_of path) simple.taken)

pub simple_answers_are_apart : (language : List Label → Type 0) → SimpleAnswersAreApart language
simple_answers_are_apart language window now entries pair answer =
    ends_differ answer.0 (edges_at window now entries) language Simple pair refl answer.1
