-- What a query's index tells: the events of an entry, and names for its numbers.
use Rattle.std.proofs.Common.{◌≡◌, ◌≢◌, ℕ, ◌<◌, true, false, not, List, [], ◌++◌, length, map}
use Rattle.std.proofs.Common.{get_or, Option, Some, None, refl, sym, ap, ap₂, subst, ◌∙◌, inl, inr, ⊎_elim, true≢false}
use Rattle.std.specs.Prelude.{◌↔◌, Contains, IsSome}
use Rattle.std.specs.List.{list_any}
use Rattle.std.specs.List.Sorted.{IsStrictlySortedBy}
use Rattle.std.proofs.lemmas.Bool.{cases_eq}
use Rattle.std.proofs.lemmas.List.Elements.{All-contains_itself, All-weaker}
use Rattle.std.proofs.lemmas.List.Kept.{IsStrictlySortedBy-filter}
use Rattle.std.proofs.lemmas.List.Quantifiers.{position-Some}
use Rattle.std.proofs.lemmas.Option.{none-some, same_Some}
use Rattle.rpq_base.specs.Laws.{SameIsEqual}
use Rattle.rpq_base.specs.Order.{pair_cmp}
use Rattle.rpq_base.specs.Same.{same_name, same_pair}
use Rattle.rpq_base.specs.declared.data.Entry.{Entry}
use Rattle.rpq_base.specs.declared.data.Event.{Event}
use Rattle.rpq_base.specs.declared.data.Pair.{Pair}
use Rattle.rpq_base.proofs.Equality.{names as name_test, labels, edges as edge_test, pairs}
use Rattle.rpq_base.proofs.Members.{none_in}
use Rattle.rpq_base.proofs.Orders.{pair_cmp_total, pair_cmp_exact}
use Rattle.rpq_base.proofs.Sorted.{same_from_members}
use Rattle.rpq_model.specs.Answers.{IsAnswer}
use Rattle.rpq_model.specs.Events.{event, without, AreEvents}
use Rattle.rpq_model.specs.Query.{Query, path_query}
use Rattle.rpq_model.proofs.ByMembers.{without_members}
use Rattle.name_table.specs.Names.{number_of}
use Rattle.source_tree.specs.declared.change.EndChange.{EndChange}
use Rattle.source_tree.proofs.Outcomes.{none_kept}
use Rattle.delta_forest.specs.Forest.{ForestValue, IsEnd, IsIndexed, kept}
use Rattle.delta_forest.specs.Changes.{AreEndChangesOf}
use Rattle.delta_forest.specs.Laws.{EachHasAnEnd, EndsAreOne}
use Rattle.end_events.specs.Changes.{Ends, AreChangesOf, AreNamed, AreEventsBetween, AreLosses, IsLoss}
use Rattle.containment_laws.specs.Accepted.{IsAccepted, AcceptedHaveAnswers}
use Rattle.index_laws.specs.Numbered.{AreNumbersOf, IsFree}
use Rattle.index_laws.specs.Index.{IsIndexOf, IsFinalBest, MayAnswer}
use Rattle.index_laws.specs.LawsOfIndexes.{IndexKeepsBests, TellsAnswers}
use Rattle.query_index.specs.Shown.{HaveNames, IsTaken}

-- equal names, labels, edges and pairs are told by their tests
pub same : SameIsEqual
same = record { names = name_test; labels = labels; edges = edge_test; pairs = pairs }

-- ---- numbers and names

pub below : (names : List (List ℕ)) (name : List ℕ) (number : ℕ) →
    number_of names name ≡ Some number → number < length names
below names name number is = (position-Some (same_name name) names number [] is).0

pub one_name : (names : List (List ℕ)) (first second : List ℕ) (number : ℕ) →
    number_of names first ≡ Some number → number_of names second ≡ Some number → first ≡ second
one_name names first second number first_is second_is =
    let one = (position-Some (same_name first) names number [] first_is).1 in
    let other = (position-Some (same_name second) names number [] second_is).1 in
    (name_test first (get_or names number [])).0 one
    ∙ sym ((name_test second (get_or names number [])).0 other)

-- the name at the place of a number that a name has is this name
pub name_there : (names : List (List ℕ)) (name : List ℕ) (number : ℕ) →
    number_of names name ≡ Some number → name ≡ get_or names number []
name_there names name number is =
    (name_test name (get_or names number [])).0
    (position-Some (same_name name) names number [] is).1

-- a number that some name may have is that of the name at its place
taken : (names : List (List ℕ)) (number : ℕ) → (IsFree names number → ⊥) → IsTaken names number
taken names number some = by (number_of names (get_or names number [])) refl
  where
    here : (name : List ℕ) → number_of names name ≡ Some number →
        number_of names (get_or names number []) ≡ Some number
    here name is = ap (number_of names) (sym (name_there names name number is)) ∙ is

    by : (found : Option ℕ) → number_of names (get_or names number []) ≡ found →
        IsTaken names number
    by None is = absurd (some (λ name has. none-some number (sym is ∙ here name has)))
    by (Some other) is = ⊎_elim
        (λ (same : other ≡ number). (get_or names number [], is ∙ ap Some same))
        (λ differ. absurd (some (λ name has.
        differ (same_Some other number (sym is ∙ here name has)))))
        (cases_eq other number)

pub have_names : IndexKeepsBests → (query : Query) (history : List Entry)
    (names : List (List ℕ)) (forest : ForestValue) →
    IsIndexOf query history names forest.dfa (kept forest) → HaveNames names forest
have_names keeps query history names forest is = λ root vertex state value there.
    let bests = keeps query history names forest.dfa (kept forest) is.holds.store is is.holds.is in
    let never : kept forest root vertex state ≡ None → ⊥ =
    λ none. let both : Some value ≡ None = sym there ∙ none in absurd cc in (
      taken names root (λ free. never (bests.free root vertex state (inl free))),
      taken names vertex (λ free. never (bests.free root vertex state (inr free))),
    )

-- the ends that come or go are those of named vertices
end_named : (names : List (List ℕ)) (forest : ForestValue) (root vertex end : ℕ) →
    HaveNames names forest → IsEnd forest root vertex (Some end) →
    (root < length names) × (vertex < length names)
end_named names forest root vertex end named is =
    let final = is.is in
    let both = named root vertex final.0 end final.2 in
    (below names both.0.0 root both.0.1, below names both.1.0 vertex both.1.1)

one_named : (names : List (List ℕ)) (old new : ForestValue) (root vertex : ℕ) →
    HaveNames names old → HaveNames names new → (before after : Option ℕ) →
    IsEnd old root vertex before → IsEnd new root vertex after → before ≢ after →
    (root < length names) × (vertex < length names)
one_named names old new root vertex first second (Some end) after before_is after_is differ =
    end_named names old root vertex end first before_is
one_named names old new root vertex first second None (Some end) before_is after_is differ =
    end_named names new root vertex end second after_is
one_named names old new root vertex first second None None before_is after_is differ =
    absurd (differ refl)

pub log_named : EachHasAnEnd → (names : List (List ℕ)) (old new : ForestValue)
    (log : List EndChange) → HaveNames names old → HaveNames names new →
    AreEndChangesOf old new log → AreNamed names log
log_named have names old new log first second are =
    All-weaker (Contains log)
    (λ (each : EndChange). (each.root < length names) × (each.vertex < length names))
    (λ each member.
    let before = have old each.root each.vertex in
    let after = have new each.root each.vertex in
    let has = (are.exact each before.0 after.0 before.1 after.1).0 member in
    one_named names old new each.root each.vertex first second before.0 after.0 before.1 after.1
    (λ same. none_kept each.outcome before.0 after.0 same has))
    log (All-contains_itself log)

-- ---- ends

-- each root and vertex has an end, or none
abbrev pub HaveEnds : Type 0
HaveEnds = (forest : ForestValue) → IsIndexed forest → (root vertex : ℕ) →
    (end : Option ℕ) × IsEnd forest root vertex end

module _ (one : EndsAreOne) (have : HaveEnds) where
  abbrev pub ends_of : (forest : ForestValue) → IsIndexed forest → Ends
  ends_of forest indexed root vertex = (have forest indexed root vertex).0

  pub are_changes : (old new : ForestValue) (before : IsIndexed old) (after : IsIndexed new)
      (log : List EndChange) → AreEndChangesOf old new log →
      AreChangesOf (ends_of old before) (ends_of new after) log
  are_changes old new before after log are = λ each.
      let first = have old before each.root each.vertex in
      let last = have new after each.root each.vertex in
      are.exact each first.0 last.0 first.1 last.1

  -- where nothing changed
  pub no_changes : (old new : ForestValue) (before : IsIndexed old) (after : IsIndexed new) →
      new ≡ old → AreChangesOf (ends_of old before) (ends_of new after) []
  no_changes old new before after unchanged = λ each.
      let first = have old before each.root each.vertex in
      let last = have new after each.root each.vertex in
      let moved = subst (λ (forest : ForestValue). IsEnd forest each.root each.vertex last.0)
      unchanged last.1 in (
        (λ member. absurd (none_in each member)),
        (λ has. absurd (none_kept each.outcome first.0 last.0
            (one old each.root each.vertex first.0 last.0 first.1 moved) has)),
      )

-- ---- events

some_end : (forest : ForestValue) (root vertex : ℕ) (end : Option ℕ) →
    IsEnd forest root vertex end →
    ((number : ℕ) × IsFinalBest forest.dfa (kept forest root vertex) number) ↔ IsSome end
some_end forest root vertex None is = (
  (λ found. absurd (is found.0 found.1)),
  (λ some. absurd (true≢false (sym some))),
)
some_end forest root vertex (Some end) is = ((λ found. refl), (λ some. (end, is.is)))

some_or_none : (end : Option ℕ) → (IsSome end → ⊥) → end ≡ None
some_or_none None never = refl
some_or_none (Some end) never = absurd (never refl)

-- a query over two histories, by the indexes that tell its answers over the one and the other
pub losses : (query : Query) (names : List (List ℕ)) (before after : List Entry)
    (old new : ForestValue) (first last : Ends) →
    TellsAnswers query before names old.dfa (kept old) →
    TellsAnswers query after names new.dfa (kept new) →
    ((root vertex : ℕ) → IsEnd old root vertex (first root vertex)) →
    ((root vertex : ℕ) → IsEnd new root vertex (last root vertex)) →
    (pair : Pair) → IsLoss query.mode names first last pair
    ↔ (IsAnswer (path_query query) before pair × (IsAnswer (path_query query) after pair → ⊥))
losses query names before after old new first last tells_old tells_new first_is last_is pair = (
  (λ loss.
      let numbers : AreNumbersOf names pair.from pair.to loss.root loss.vertex =
      (loss.from, loss.to) in
      let may : MayAnswer query pair = λ mode. loss.apart mode in
      let was = (some_end old loss.root loss.vertex (first loss.root loss.vertex)
      (first_is loss.root loss.vertex)).1 loss.had in (
        ((tells_old.pairs pair loss.root loss.vertex numbers).answer).1 (may, was),
        (λ answer.
            let still = ((tells_new.pairs pair loss.root loss.vertex numbers).answer).0 answer in
            let some = (some_end new loss.root loss.vertex (last loss.root loss.vertex)
            (last_is loss.root loss.vertex)).0 still.1 in
            absurd (true≢false (sym (subst IsSome loss.gone some)))),
      )),
  (λ both.
      let found = tells_old.numbered pair both.0 in
      let root = found.0 in
      let vertex = found.1 in
      let numbers = found.2 in
      let was = ((tells_old.pairs pair root vertex numbers).answer).0 both.0 in
      record {
        root = root;
        vertex = vertex;
        from = numbers.0;
        to = numbers.1;
        apart = λ is. was.0 is;
        had = (some_end old root vertex (first root vertex) (first_is root vertex)).0 was.1;
        gone = some_or_none (last root vertex) (λ some.
            both.1 (((tells_new.pairs pair root vertex numbers).answer).1 (
              was.0,
              (some_end new root vertex (last root vertex) (last_is root vertex)).1 some,
            )));
      }),
)

-- the sorted pairs that are lost are those of the first list that the second lacks
lost_pairs : (query : Query) (names : List (List ℕ)) (before after : List Entry)
    (first last : Ends) (olds news lost : List Pair) →
    ((pair : Pair) → IsLoss query.mode names first last pair
    ↔ (IsAnswer (path_query query) before pair × (IsAnswer (path_query query) after pair → ⊥))) →
    ((pair : Pair) → Contains olds pair ↔ IsAnswer (path_query query) before pair) →
    ((pair : Pair) → Contains news pair ↔ IsAnswer (path_query query) after pair) →
    IsStrictlySortedBy pair_cmp olds →
    AreLosses query.mode names first last lost → lost ≡ without olds news
lost_pairs query names before after first last olds news lost exact old new sorted are =
    same_from_members pair_cmp_total pair_cmp_exact lost (without olds news) are.sorted
    (IsStrictlySortedBy-filter pair_cmp
    (λ (pair : Pair). not (list_any (same_pair pair) news)) olds sorted)
    (λ pair.
    let members = without_members same olds news pair in (
      (λ member.
          let loss = (exact pair).0 ((are.exact pair).0 member) in
          members.1 ((old pair).1 loss.0, λ other. loss.1 ((new pair).0 other))),
      (λ member.
          let both = members.0 member in
          (are.exact pair).1 ((exact pair).1 (
            (old pair).0 both.0,
            λ answer. both.1 ((new pair).1 answer),
          ))),
    ))

pub are_events : AcceptedHaveAnswers → (query : Query) → IsAccepted query →
    (names : List (List ℕ)) (before after : List Entry) (old new : ForestValue)
    (first last : Ends) (number : ℕ) (events : List Event) →
    TellsAnswers query before names old.dfa (kept old) →
    TellsAnswers query after names new.dfa (kept new) →
    ((root vertex : ℕ) → IsEnd old root vertex (first root vertex)) →
    ((root vertex : ℕ) → IsEnd new root vertex (last root vertex)) →
    AreEventsBetween number query.mode names first last events →
    AreEvents (path_query query) number before after events
are_events law query accepted names before after old new first last number events tells_old
    tells_new first_is last_is between =
    let olds = law query accepted before in
    let news = law query accepted after in
    let lost = lost_pairs query names before after first last olds.0 news.0 between.lost
    (losses query names before after old new first last tells_old tells_new first_is last_is) olds.1.exact news.1.exact olds.1.sorted between.losses in
    let gained = lost_pairs query names after before last first news.0 olds.0 between.gained
    (losses query names after before new old last first tells_new tells_old last_is first_is) news.1.exact olds.1.exact news.1.sorted between.gains in (
      olds.0,
      news.0,
      olds.1,
      news.1,
      between.are
          ∙ ap₂ (λ (losses gains : List Pair).
          map (event number false) losses ++ map (event number true) gains) lost gained,
    )
