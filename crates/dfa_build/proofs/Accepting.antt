-- The position automaton accepts the nonempty words of the language.
use Rattle.std.proofs.Common.{◌≡◌, ◌≢◌, ℕ, ◌<◌, ◌≤◌, Bool, true, ◌↔◌, inl, inr, List, [], ◌∷◌, length, get_or, map, All, Contains, refl, sym, ap, subst, ◌∙◌, arith}
use Rattle.std.specs.List.{range_with_len}
use Rattle.std.proofs.lemmas.Bool.{cases_lt}
use Rattle.std.proofs.lemmas.List.{get_or_past}
use Rattle.std.proofs.lemmas.List.Elements.{All-from_get_or}
use Rattle.std.proofs.lemmas.List.FromFn.{length-map-range_with_len, get_or-map-range_with_len}
use Rattle.rpq_base.specs.declared.data.Label.{Label}
use Rattle.path_syntax.specs.Expression.{Expression}
use Rattle.path_syntax.specs.Language.{In}
use Rattle.path_syntax.specs.Size.{atoms}
use Rattle.dfa_build.specs.Construction.{is_first, is_last, is_next, IsConstructed}
use Rattle.dfa_build.specs.Marked.{labels_of, BeginsAWord, EndsAWord, AreNeighbours}
use Rattle.dfa_build.specs.PositionSet.{numbers}
use Rattle.dfa_build.specs.Positions.{PositionsValue, next_of, GoesOn, end_of, IsTrace, spelled, spells, AcceptsByPositions, ArePlaces, ArePositions, IsRising, AreRising}
use Rattle.dfa_build.proofs.Local.{IsLocal, RunsIn, marked_is_local, local_is_marked}
use Rattle.dfa_build.proofs.Meanings.{first_means, last_means, next_means}
use Rattle.dfa_build.proofs.Members.{numbers_pass, numbers_contain, numbers_within, numbers_rise}
use Rattle.dfa_build.proofs.Ranges.{first_range, last_range, next_range}
use Rattle.dfa_build.proofs.Words.{spelled-nonempty, length-labels_of, are_labelled_all, marked_spells_word, word_is_spelled}

-- the row of a position
row_of : (e : Expression) (positions : PositionsValue) → IsConstructed e positions → (p : ℕ) → p < atoms e → next_of positions p ≡ numbers (is_next e 0 p)
row_of e positions built p small =
    ap (λ (rows : List (List ℕ)). get_or rows p []) built.follow
    ∙ get_or-map-range_with_len (λ k. numbers (is_next e 0 k)) 0 (atoms e) p p [] small (omega arith)

no_row : (e : Expression) (positions : PositionsValue) → IsConstructed e positions → (p : ℕ) → atoms e ≤ p → next_of positions p ≡ []
no_row e positions built p large =
    ap (λ (rows : List (List ℕ)). get_or rows p []) built.follow
    ∙ get_or_past (map (λ k. numbers (is_next e 0 k)) (range_with_len 0 (atoms e))) p [] (omega (arith, length-map-range_with_len (λ k. numbers (is_next e 0 k)) 0 (atoms e)))

-- the lists have the members that pass the tests
pub record Tells (e : Expression) (positions : PositionsValue) : Type 0 where
  pub first : (p : ℕ) → Contains positions.first p ↔ (is_first e 0 p ≡ true)
  pub last : (p : ℕ) → Contains positions.last p ↔ (is_last e 0 p ≡ true)
  pub next : (p q : ℕ) → Contains (next_of positions p) q ↔ (is_next e 0 p q ≡ true)

same_members : (test : ℕ → Bool) (list : List ℕ) → list ≡ numbers test → ((p : ℕ) → test p ≡ true → p < 64) → (p : ℕ) → Contains list p ↔ (test p ≡ true)
same_members test list same small p = (
  λ h. numbers_pass test p (subst (λ (l : List ℕ). Contains l p) same h),
  λ h. subst (λ (l : List ℕ). Contains l p) (sym same) (numbers_contain test p (small p h) h),
)

next_members : (e : Expression) (positions : PositionsValue) → IsConstructed e positions → atoms e ≤ 64 → (p q : ℕ) →
    Contains (next_of positions p) q ↔ (is_next e 0 p q ≡ true)
next_members e positions built few p q =
    elim (cases_lt p (atoms e)) [
      | inl small ↦ same_members (is_next e 0 p) (next_of positions p) (row_of e positions built p small) (λ r h. let range = (next_range e 0 p r h).after in omega arith) q
      | inr large ↦ (
        λ h. let within = subst (λ (l : List ℕ). Contains l q) (no_row e positions built p large) h in absurd (omega (arith, within.1)),
        λ h. let range = (next_range e 0 p q h).before in absurd (omega arith),
      )
    ]

pub tells : (e : Expression) (positions : PositionsValue) → IsConstructed e positions → atoms e ≤ 64 → Tells e positions
tells e positions built few =
    record {
      first = same_members (is_first e 0) positions.first built.first (λ p h. let range = first_range e 0 p h in omega arith);
      last = same_members (is_last e 0) positions.last built.last (λ p h. let range = last_range e 0 p h in omega arith);
      next = next_members e positions built few;
    }

-- the traces of the position automaton are the paths
to_run : (e : Expression) (positions : PositionsValue) → Tells e positions → (trace : List ℕ) (p : ℕ) → GoesOn positions p trace →
    Contains positions.last (end_of p trace) → RunsIn e 0 p trace
to_run e positions told [] p goes ends = (told.last p).0 ends
to_run e positions told (q ∷ trace) p goes ends = ((told.next p q).0 goes.0, to_run e positions told trace q goes.1 ends)

goes_on : (e : Expression) (positions : PositionsValue) → Tells e positions → (trace : List ℕ) (p : ℕ) → RunsIn e 0 p trace → GoesOn positions p trace
goes_on e positions told [] p run = tt
goes_on e positions told (q ∷ trace) p run = ((told.next p q).1 run.0, goes_on e positions told trace q run.1)

ends_in_last : (e : Expression) (positions : PositionsValue) → Tells e positions → (trace : List ℕ) (p : ℕ) → RunsIn e 0 p trace →
    Contains positions.last (end_of p trace)
ends_in_last e positions told [] p run = (told.last p).1 run
ends_in_last e positions told (q ∷ trace) p run = ends_in_last e positions told trace q run.1

trace_of_path : (e : Expression) (positions : PositionsValue) → Tells e positions → (trace : List ℕ) → trace ≢ [] → IsLocal e 0 trace →
    IsTrace positions trace
trace_of_path e positions told [] some path = absurd (some refl)
trace_of_path e positions told (p ∷ trace) some path =
    (((told.first p).1 path.0, goes_on e positions told trace p path.1), ends_in_last e positions told trace p path.1)

-- a nonempty trace of the automaton spells a nonempty word of the language
accepted_is_word : (e : Expression) (positions : PositionsValue) → IsConstructed e positions → Tells e positions →
    (word : List Label) (trace : List ℕ) → IsTrace positions trace → word ≡ spells positions trace → (word ≢ []) × In e word
accepted_is_word e positions built told word [] accepts same = absurd accepts
accepted_is_word e positions built told word (p ∷ trace) accepts same =
    let path : IsLocal e 0 (p ∷ trace) = ((told.first p).0 accepts.0.0, to_run e positions told trace p accepts.0.1 accepts.1) in
    let marked = local_is_marked e 0 (p ∷ trace) path in
    let shown = same ∙ ap (λ (labels : List Label). spelled labels (p ∷ trace)) built.labels in
    let labelled = are_labelled_all e in (
      λ none. spelled-nonempty e (labels_of e) 0 labelled (p ∷ trace) marked (λ none'. cc) (sym shown ∙ none),
      subst (λ (w : List Label). In e w) (sym shown) (marked_spells_word e (labels_of e) 0 labelled (p ∷ trace) marked),
    )

word_is_accepted : (e : Expression) (positions : PositionsValue) → IsConstructed e positions → Tells e positions → (word : List Label) →
    word ≢ [] → In e word → AcceptsByPositions positions word
word_is_accepted e positions built told word some h =
    let found = word_is_spelled e (labels_of e) 0 (are_labelled_all e) word h in (
      found.trace,
      trace_of_path e positions told found.trace (λ none. some (found.spells ∙ ap (spelled (labels_of e)) none)) (marked_is_local e 0 found.trace found.marked),
      found.spells ∙ ap (λ (labels : List Label). spelled labels found.trace) (sym built.labels),
    )

pub accepts : (e : Expression) (positions : PositionsValue) → IsConstructed e positions → atoms e ≤ 64 → (word : List Label) →
    AcceptsByPositions positions word ↔ ((word ≢ []) × In e word)
accepts e positions built few word =
    let told = tells e positions built few in
    (λ h. accepted_is_word e positions built told word h.0 h.1 h.2, λ h. word_is_accepted e positions built told word h.0 h.1)

-- what the members of the lists mean
pub first_is : (e : Expression) (positions : PositionsValue) → IsConstructed e positions → atoms e ≤ 64 → (p : ℕ) →
    Contains positions.first p ↔ BeginsAWord e p
first_is e positions built few p =
    let told = (tells e positions built few).first p in
    let means = first_means e p in
    (λ h. means.0 (told.0 h), λ h. told.1 (means.1 h))

pub last_is : (e : Expression) (positions : PositionsValue) → IsConstructed e positions → atoms e ≤ 64 → (p : ℕ) → Contains positions.last p ↔ EndsAWord e p
last_is e positions built few p =
    let told = (tells e positions built few).last p in
    let means = last_means e p in
    (λ h. means.0 (told.0 h), λ h. told.1 (means.1 h))

pub next_is : (e : Expression) (positions : PositionsValue) → IsConstructed e positions → atoms e ≤ 64 → (p q : ℕ) →
    Contains (next_of positions p) q ↔ AreNeighbours e p q
next_is e positions built few p q =
    let told = (tells e positions built few).next p q in
    let means = next_means e p q in
    (λ h. means.0 (told.0 h), λ h. told.1 (means.1 h))

-- the form of the lists
length-follow : (e : Expression) (positions : PositionsValue) → IsConstructed e positions → length positions.follow ≡ atoms e
length-follow e positions built = ap (λ (rows : List (List ℕ)). length rows) built.follow ∙ length-map-range_with_len (λ k. numbers (is_next e 0 k)) 0 (atoms e)

size_of : (e : Expression) (positions : PositionsValue) → IsConstructed e positions → length positions.atoms ≡ atoms e
size_of e positions built = ap (λ (labels : List Label). length labels) built.labels ∙ length-labels_of e

each_row : (e : Expression) (positions : PositionsValue) → IsConstructed e positions → (P : List ℕ → Type 0) →
    ((p : ℕ) → P (numbers (is_next e 0 p))) → All P positions.follow
each_row e positions built P each =
    All-from_get_or P positions.follow [] (λ p h. subst P (sym (row_of e positions built p (omega (arith, length-follow e positions built)))) (each p))

pub have_form : (e : Expression) (positions : PositionsValue) → IsConstructed e positions → atoms e ≤ 64 → ArePositions positions
have_form e positions built few =
    let size = size_of e positions built in
    let rows = length-follow e positions built in
    record {
      few = omega arith;
      rows = rows ∙ sym size;
      first = subst (λ (l : List ℕ). ArePlaces positions l) (sym built.first) (numbers_within (is_first e 0) (length positions.atoms) (λ p h. let range = first_range e 0 p h in omega arith));
      last = subst (λ (l : List ℕ). ArePlaces positions l) (sym built.last) (numbers_within (is_last e 0) (length positions.atoms) (λ p h. let range = last_range e 0 p h in omega arith));
      follow = each_row e positions built (ArePlaces positions) (λ p. numbers_within (is_next e 0 p) (length positions.atoms) (λ q h. let range = (next_range e 0 p q h).after in omega arith));
    }

pub rise : (e : Expression) (positions : PositionsValue) → IsConstructed e positions → AreRising positions
rise e positions built =
    record {
      first = subst IsRising (sym built.first) (numbers_rise (is_first e 0));
      last = subst IsRising (sym built.last) (numbers_rise (is_last e 0));
      follow = each_row e positions built IsRising (λ p. numbers_rise (is_next e 0 p));
    }
