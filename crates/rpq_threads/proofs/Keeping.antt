-- What stands in the place of the entries that were given: more of them, and what is left of them.
use Rattle.std.proofs.Common.{◌≡◌, ℕ, ◌+◌, ◌-◌, ◌<◌, ◌≤◌, List, [], ◌++◌, length, take, drop}
use Rattle.std.proofs.Common.{append_assoc, length-drop, refl, sym, ap, subst, ◌∙◌, ⊎_elim, arith}
use Rattle.std.specs.Prelude.{All}
use Rattle.std.proofs.lemmas.List.{append-nil, take-take, take-append-drop, drop_at, drop-take}
use Rattle.std.proofs.lemmas.List.Elements.{All-append, All-take, All-drop, All-nil, All-same}
use Rattle.alike_histories.specs.Alike.{AllSeeAlike}
use Rattle.alike_histories.proofs.Alike.{turned}
use Rattle.entry_steps.specs.Evaluator.{EvaluatorValue, StandsInFor, queries_of}
use Rattle.entry_steps.specs.Laws.{EntriesStandIn}
use Rattle.engine_loop.specs.Loop.{IsRunnable}
use Rattle.engine_loop.specs.Sources.{IsAsFar}
use Rattle.engine_loop.specs.declared.source.AfterShrink.{AfterShrink}
use Rattle.engine_loop.specs.declared.source.AfterShrink.TheVariants.{GoOn, Rebuild}
use Rattle.history_model.specs.Lines.{entries}
use Rattle.history_model.specs.World.{Terms}
use Rattle.rpq_base.specs.Plain.{IsPlain}
use Rattle.rpq_base.specs.TupleValue.{TupleValue}
use Rattle.rpq_base.specs.declared.data.Entry.{Entry}
use Rattle.rpq_model.specs.Query.{Query}
use Rattle.saved_window.specs.Alike.{SavedKeepsTheStore, SavedOfMore}
use Rattle.saved_window.specs.Saved.{saved, first_stream}
use Rattle.saved_window.proofs.Plain.{saved_entries_plain}
use Rattle.stream_history.specs.History.{HistoryValue, HasSeen}
use Rattle.stream_threads.proofs.Numbering.{Each}
use Rattle.rpq_threads.specs.Entries.{FeedsFrom, FeedsOn}
use Rattle.rpq_threads.specs.Past.{PastIsNew, PastTakes, PastShrinks, IsPastOf, kept_in}
use Rattle.rpq_threads.specs.Past.{DropsFirst, ShrinksTo}
use Rattle.rpq_threads.specs.Window.{ServesAs}
use Rattle.rpq_threads.specs.declared.past.Past.{Past}
use Rattle.rpq_threads.specs.declared.past.Past.TheVariants.{InHistory, Kept}
use Rattle.rpq_threads.proofs.ComingNext.{given_stays, feeds_still, feeds_seen, feeds_given}
use Rattle.rpq_threads.proofs.ComingNext.{feeds_as_far, more_comes}
use Rattle.rpq_threads.proofs.ComingNext.{drop_twice, more_given}

-- ---- serving as a history does

-- the query's window slides
abbrev pub Slides : Query → Type 0
Slides query = 0 < query.window.slide

-- with the same entries behind both
serves_more : (queries : List Query) (history own more : List Entry) →
    ServesAs queries history own → All IsPlain more →
    ServesAs queries (history ++ more) (own ++ more)
serves_more queries history own more serves plain = record {
  saves = λ later.
      ap (saved queries) (append_assoc own more later)
      ∙ (serves.saves (more ++ later)
      ∙ ap (saved queries) (sym (append_assoc history more later)));
  plain = All-append IsPlain own more serves.plain plain;
}

-- what is saved of entries that serve serves, too
serves_left : SavedOfMore → (queries : List Query) → All Slides queries →
    (history own : List Entry) → ServesAs queries history own →
    ServesAs queries history (first_stream (saved queries own))
serves_left law queries slide history own serves = record {
  saves = λ later. law queries slide own later ∙ serves.saves later;
  plain = saved_entries_plain own queries serves.plain;
}

-- ---- a past

-- of a new one nothing is kept, and it is that of no entries
pub new_past : (terms : Terms) (queries : List Query) (past : Past) → queries ≡ terms.queries →
    PastIsNew terms queries past → IsPastOf terms past [] []
new_past terms queries InHistory same is = is
new_past terms queries (Kept window) same is = (
  is.0,
  is.1 ∙ same,
  subst (λ (own : List Entry). ServesAs terms.queries [] (own ++ [])) (sym is.2)
      (record { saves = λ later. refl; plain = All-nil IsPlain }),
)

pub new_keeps_none : (terms : Terms) (queries : List Query) (past : Past) →
    PastIsNew terms queries past → kept_in past [] [] ≡ []
new_keeps_none terms queries InHistory is = refl
new_keeps_none terms queries (Kept window) is = ap (λ (own : List Entry). own ++ []) is.2

-- with more of what the history gave last
kept_more : (past : Past) (first more before given : List Entry) → given ≡ before ++ more →
    kept_in past (first ++ more) given ≡ kept_in past first before ++ more
kept_more InHistory first more before given is = is
kept_more (Kept window) first more before given is =
    sym (append_assoc window.entries.items first more)

past_more : (terms : Terms) (past : Past) (first more before given : List Entry) →
    given ≡ before ++ more → All IsPlain more → IsPastOf terms past first before →
    IsPastOf terms past (first ++ more) given
past_more terms InHistory first more before given is plain was = was
past_more terms (Kept window) first more before given is plain was = (
  was.0,
  was.1,
  subst (ServesAs terms.queries given) (append_assoc window.entries.items first more)
      (subst (λ (h : List Entry). ServesAs terms.queries h
      ((window.entries.items ++ first) ++ more)) (sym is)
      (serves_more terms.queries before (window.entries.items ++ first) more was.2 plain)),
)

-- the parts of what the history gave, up to the end of the last front
parts : (from to : ℕ) (buffer : List Entry) → from ≤ to →
    take to buffer ≡ take from buffer ++ drop from (take to buffer)
parts from to buffer order =
    sym (take-append-drop from (take to buffer))
    ∙ ap (λ (first : List Entry). first ++ drop from (take to buffer))
    (take-take from to buffer order)

-- nothing is left behind the last front
whole : (to : ℕ) (buffer : List Entry) → ◌≡◌ {A = List Entry} (drop to buffer) [] →
    take to buffer ≡ buffer
whole to buffer none =
    sym (append-nil (take to buffer))
    ∙ (ap (λ (rest : List Entry). take to buffer ++ rest) (sym none) ∙ take-append-drop to buffer)

-- what is behind other entries is plain where all are
plain_behind : (before front : List Entry) → All IsPlain (before ++ front) → All IsPlain front
plain_behind before front both =
    All-same IsPlain front (drop (length before) (before ++ front))
    (sym (drop_at before front (length before) refl))
    (All-drop IsPlain (length before) (before ++ front) both)

-- a past that took all that the history gave
taken_is : (past new : Past) (from to : ℕ) (buffer before given : List Entry) →
    PastTakes past buffer new → from ≤ to → ◌≡◌ {A = List Entry} (drop to buffer) [] →
    given ≡ before ++ drop from (take to buffer) →
    kept_in new [] given ≡ kept_in past (take from buffer) before ++ drop from (take to buffer)
taken_is InHistory InHistory from to buffer before given takes order none is = is
taken_is InHistory (Kept new) from to buffer before given takes order none is = absurd takes
taken_is (Kept old) InHistory from to buffer before given takes order none is = absurd takes
taken_is (Kept old) (Kept new) from to buffer before given takes order none is =
    append-nil new.entries.items
    ∙ (takes.1
    ∙ (ap (λ (all : List Entry). old.entries.items ++ all)
    (sym (whole to buffer none) ∙ parts from to buffer order)
    ∙ sym (append_assoc old.entries.items (take from buffer) (drop from (take to buffer)))))

past_taken : (terms : Terms) (past new : Past) (from to : ℕ) (buffer before given : List Entry) →
    PastTakes past buffer new → from ≤ to → ◌≡◌ {A = List Entry} (drop to buffer) [] →
    given ≡ before ++ drop from (take to buffer) → All IsPlain given →
    IsPastOf terms past (take from buffer) before → IsPastOf terms new [] given
past_taken terms InHistory InHistory from to buffer before given takes order none is plain was = was
past_taken terms InHistory (Kept new) from to buffer before given takes order none is plain was =
    absurd takes
past_taken terms (Kept old) InHistory from to buffer before given takes order none is plain was =
    absurd takes
past_taken terms (Kept old) (Kept new) from to buffer before given takes order none is plain was =
    let front = drop from (take to buffer) in
    let own = old.entries.items ++ take from buffer in
    let both : All IsPlain (before ++ front) =
    subst (λ (h : List Entry). All IsPlain h) is plain in (
      was.0,
      takes.0 ∙ was.1,
      subst (ServesAs terms.queries given)
          (sym (taken_is (Kept old) (Kept new) from to buffer before given takes order none is))
          (subst (λ (h : List Entry). ServesAs terms.queries h (own ++ front)) (sym is)
          (serves_more terms.queries before own front was.2
          (plain_behind before front both))),
    )

-- ---- what is kept is shrunk

-- with no entries behind
with_none : (own first : List Entry) → first ≡ [] → own ++ first ≡ own
with_none own first none = ap (λ (each : List Entry). own ++ each) none ∙ append-nil own

-- without its first entries a plain list is plain
drops_plain : (queries : List Query) (own left : List Entry) → DropsFirst queries own left →
    All IsPlain own → All IsPlain left
drops_plain queries own left drops plain =
    All-same IsPlain left (drop drops.0 own) drops.1 (All-drop IsPlain drops.0 own plain)

-- with what stays of them the entries still stand in
module _ (stand : EntriesStandIn) (store : SavedKeepsTheStore) (more : SavedOfMore)
    (evaluator : EvaluatorValue) (runs : IsRunnable evaluator) (terms : Terms)
    (same : queries_of evaluator ≡ terms.queries) where
  slide : All Slides (queries_of evaluator)
  slide = runs.can_run.evaluable.move

  -- what is left of entries
  left_in : (queries : List Query) (own left : List Entry) → queries ≡ terms.queries →
      All IsPlain own → left ≡ first_stream (saved queries own) → (history : List Entry) →
      StandsInFor evaluator own history → StandsInFor evaluator left history
  left_in queries own left is plain left_is history stands =
      let qs = queries_of evaluator in
      let all = first_stream (saved qs own) in
      let left_all : left ≡ all = left_is
      ∙ ap (λ (each : List Query). first_stream (saved each own)) (is ∙ sym same) in
      subst (λ (each : List Entry). StandsInFor evaluator each history) (sym left_all)
      (stand.joined evaluator all own history
      (stand.plain evaluator all own (saved_entries_plain own qs plain) plain
      (λ query member. turned query.window own all (store qs slide own query member))) stands)

  -- and so with the others, where first ones are dropped of which nothing is saved
  dropped_in : (queries : List Query) (own left : List Entry) → queries ≡ terms.queries →
      All IsPlain own → DropsFirst queries own left → (history : List Entry) →
      StandsInFor evaluator own history → StandsInFor evaluator left history
  dropped_in queries own left is plain drops history stands =
      let qs = queries_of evaluator in
      let all = first_stream (saved queries own) in
      let all_is : first_stream (saved qs left) ≡ all =
      ap (λ (each : List Query). first_stream (saved each left)) (same ∙ sym is)
      ∙ ap first_stream drops.2 in
      stand.joined evaluator left all history
      (stand.plain evaluator left all (drops_plain queries own left drops plain)
      (saved_entries_plain own queries plain)
      (subst (λ (other : List Entry). AllSeeAlike qs left other) all_is (store qs slide left)))
      (left_in queries own all is plain refl history stands)

  shrunk_in : (then : AfterShrink) (queries : List Query) (own left : List Entry) →
      queries ≡ terms.queries → All IsPlain own → ShrinksTo queries own then left →
      (history : List Entry) → StandsInFor evaluator own history →
      StandsInFor evaluator left history
  shrunk_in GoOn queries own left is plain drops history stands =
      dropped_in queries own left is plain drops history stands
  shrunk_in Rebuild queries own left is plain shrinks history stands = ⊎_elim
      (λ drops. dropped_in queries own left is plain drops history stands)
      (λ left_is. left_in queries own left is plain left_is history stands)
      shrinks

  left_serves : (queries : List Query) (history own left : List Entry) → queries ≡ terms.queries →
      left ≡ first_stream (saved queries own) → ServesAs terms.queries history own →
      ServesAs terms.queries history left
  left_serves queries history own left is left_is serves =
      subst (λ (each : List Entry). ServesAs terms.queries history each)
      (sym (left_is ∙ ap (λ (each : List Query). first_stream (saved each own)) is))
      (serves_left more terms.queries (subst (All Slides) same slide) history own serves)

  dropped_serves : (queries : List Query) (history own left : List Entry) →
      queries ≡ terms.queries → DropsFirst queries own left →
      ServesAs terms.queries history own → ServesAs terms.queries history left
  dropped_serves queries history own left is drops serves =
      let slides = subst (All Slides) same slide in
      let saved_is : saved terms.queries left ≡ saved terms.queries own =
      subst (λ (each : List Query). saved each left ≡ saved each own) is drops.2 in
      record {
        saves = λ later.
            sym (more terms.queries slides left later)
            ∙ (ap (λ (tuples : List TupleValue).
            saved terms.queries (first_stream tuples ++ later)) saved_is
            ∙ (more terms.queries slides own later ∙ serves.saves later));
        plain = drops_plain queries own left drops serves.plain;
      }

  shrunk_serves : (then : AfterShrink) (queries : List Query) (history own left : List Entry) →
      queries ≡ terms.queries → ShrinksTo queries own then left →
      ServesAs terms.queries history own → ServesAs terms.queries history left
  shrunk_serves GoOn queries history own left is drops serves =
      dropped_serves queries history own left is drops serves
  shrunk_serves Rebuild queries history own left is shrinks serves = ⊎_elim
      (λ drops. dropped_serves queries history own left is drops serves)
      (λ left_is. left_serves queries history own left is left_is serves)
      shrinks

  pub shrunk_stands : (past new : Past) (then : AfterShrink) (first given : List Entry) →
      first ≡ [] → PastShrinks past then new → IsPastOf terms past first given →
      (history : List Entry) → StandsInFor evaluator (kept_in past first given) history →
      StandsInFor evaluator (kept_in new first given) history
  shrunk_stands InHistory InHistory then first given none shrinks was history stands = stands
  shrunk_stands InHistory (Kept new) then first given none shrinks was history stands =
      absurd shrinks
  shrunk_stands (Kept old) InHistory then first given none shrinks was history stands =
      absurd shrinks
  shrunk_stands (Kept old) (Kept new) then first given none shrinks was history stands =
      let own = old.entries.items in
      let own_is : own ++ first ≡ own = with_none own first none in
      subst (λ (each : List Entry). StandsInFor evaluator each history)
      (sym (with_none new.entries.items first none))
      (shrunk_in then old.queries.now own new.entries.items was.1
      (subst (All IsPlain) own_is was.2.plain) shrinks.1 history
      (subst (λ (each : List Entry). StandsInFor evaluator each history) own_is stands))

  pub shrunk_past : (past new : Past) (then : AfterShrink) (first given : List Entry) →
      first ≡ [] → PastShrinks past then new → IsPastOf terms past first given →
      IsPastOf terms new first given
  shrunk_past InHistory InHistory then first given none shrinks was = was
  shrunk_past InHistory (Kept new) then first given none shrinks was = absurd shrinks
  shrunk_past (Kept old) InHistory then first given none shrinks was = absurd shrinks
  shrunk_past (Kept old) (Kept new) then first given none shrinks was =
      let own = old.entries.items in (
        was.0,
        shrinks.0 ∙ was.1,
        subst (λ (each : List Entry). ServesAs terms.queries given each)
            (sym (with_none new.entries.items first none))
            (shrunk_serves then old.queries.now given own new.entries.items was.1 shrinks.1
            (subst (λ (each : List Entry). ServesAs terms.queries given each)
            (with_none own first none) was.2)),
      )

-- ---- the source

-- what was given before the last front stays where all that was given stays
before_stays : (count before : ℕ) (seen new : List Entry) → before ≤ count →
    take count new ≡ take count seen → take before new ≡ take before seen
before_stays count before seen new within same =
    sym (take-take before count new within)
    ∙ (ap (λ (all : List Entry). take before all) same ∙ take-take before count seen within)

-- nothing stands in front of the first place, and nothing up to it
pub first_none : (from : ℕ) (buffer : List Entry) → from ≡ 0 →
    ◌≡◌ {A = List Entry} (take from buffer) []
first_none from buffer is = ap (λ (n : ℕ). take n buffer) is

pub front_none : (from to : ℕ) (buffer : List Entry) → from ≡ 0 → to ≡ 0 →
    ◌≡◌ {A = List Entry} (drop from (take to buffer)) []
front_none from to buffer from_is to_is =
    ap (λ (n : ℕ). drop n (take to buffer)) from_is ∙ ap (λ (n : ℕ). take n buffer) to_is

-- of a source that is new nothing was given
pub feeds_at_first : (history : HistoryValue) (pass : Each) (queries : List Query) (past : Past)
    (buffer : List Entry) (from to count : ℕ) (evaluator : EvaluatorValue) →
    PastIsNew history.terms queries past → queries ≡ history.terms.queries → buffer ≡ [] →
    from ≡ 0 → to ≡ 0 → count ≡ 0 → FeedsFrom history pass 0 [] evaluator →
    FeedsOn history pass past buffer from to count evaluator
feeds_at_first history pass queries past buffer from to count evaluator new same none from_is to_is
    count_is feeds =
    subst (λ (buffer : List Entry). FeedsOn history pass past buffer from to count evaluator)
    (sym none)
    (subst (λ (from : ℕ). FeedsOn history pass past [] from to count evaluator) (sym from_is)
    (subst (λ (to : ℕ). FeedsOn history pass past [] 0 to count evaluator) (sym to_is)
    (subst (λ (count : ℕ). FeedsOn history pass past [] 0 0 count evaluator) (sym count_is)
    (record {
      within = omega arith;
      order = omega arith;
      counted = omega arith;
      front_is = refl;
      past_is = new_past history.terms queries past same new;
      behind = omega arith;
      feeds_from = feeds;
    }))))

-- and it keeps nothing
pub keeps_at_first : (terms : Terms) (queries : List Query) (past : Past) (seen buffer : List Entry)
    (from to count : ℕ) → PastIsNew terms queries past → buffer ≡ [] → from ≡ 0 → to ≡ 0 →
    count ≡ 0 →
    (kept_in past (take from buffer) (take (count - (to - from)) seen) ≡ [])
    × (◌≡◌ {A = List Entry} (drop from (take to buffer)) []) × (take count seen ≡ [])
keeps_at_first terms queries past seen buffer from to count new none from_is to_is count_is = (
  ap (λ (first : List Entry). kept_in past first (take (count - (to - from)) seen))
      (first_none from buffer from_is)
      ∙ (ap (λ (n : ℕ). kept_in past [] (take n seen))
      {x = count - (to - from)} {y = 0} (omega (arith, from_is, to_is, count_is))
      ∙ new_keeps_none terms queries past new),
  front_none from to buffer from_is to_is,
  ap (λ (n : ℕ). take n seen) count_is,
)

-- it feeds another evaluator, by a pass that has seen more
pub feeds_with : (history : HistoryValue) (pass new : Each) (past : Past) (buffer : List Entry)
    (from to count : ℕ) (evaluator other : EvaluatorValue) →
    FeedsOn history pass past buffer from to count evaluator →
    take count (entries new.seen) ≡ take count (entries pass.seen) →
    count - (to - from) ≤ other.position → FeedsFrom history new count (drop to buffer) other →
    FeedsOn history new past buffer from to count other
feeds_with history pass new past buffer from to count evaluator other was same behind feeds =
    let seen = entries pass.seen in
    let before : ℕ = count - (to - from) in
    let stays : take before (entries new.seen) ≡ take before seen =
    before_stays count before seen (entries new.seen) (omega arith) same in
    record {
      within = was.within;
      order = was.order;
      counted = was.counted;
      front_is = same ∙ (was.front_is
          ∙ ap (λ (first : List Entry). first ++ drop from (take to buffer)) (sym stays));
      past_is = subst (λ (given : List Entry). IsPastOf history.terms past (take from buffer) given)
          (sym stays) was.past_is;
      behind = behind;
      feeds_from = feeds;
    }

-- where no line was added
pub feeds_still_on : (history : HistoryValue) (pass new : Each) (past : Past) (buffer : List Entry)
    (from to count : ℕ) (evaluator : EvaluatorValue) →
    FeedsOn history pass past buffer from to count evaluator → HasSeen history pass new →
    FeedsOn history new past buffer from to count evaluator
feeds_still_on history pass new past buffer from to count evaluator was seen =
    let rest = drop to buffer in
    feeds_with history pass new past buffer from to count evaluator evaluator was
    (given_stays pass new seen.seen count rest was.feeds_from.rest_comes) was.behind
    (feeds_still history pass new seen count rest evaluator was.feeds_from)

-- what is kept stays so
pub kept_with : (past : Past) (first seen new : List Entry) (from to count : ℕ) →
    take count new ≡ take count seen →
    kept_in past first (take (count - (to - from)) new)
    ≡ kept_in past first (take (count - (to - from)) seen)
kept_with past first seen new from to count same =
    ap (λ (given : List Entry). kept_in past first given)
    (before_stays count (count - (to - from)) seen new (omega arith) same)

-- the front is kept behind what was kept
pub begun_is : (history : HistoryValue) (pass : Each) (past : Past) (buffer : List Entry)
    (from to count : ℕ) (evaluator : EvaluatorValue) →
    FeedsOn history pass past buffer from to count evaluator →
    kept_in past (take to buffer) (take count (entries pass.seen))
    ≡ kept_in past (take from buffer) (take (count - (to - from)) (entries pass.seen))
    ++ drop from (take to buffer)
begun_is history pass past buffer from to count evaluator was =
    ap (λ (first : List Entry). kept_in past first (take count (entries pass.seen)))
    (parts from to buffer was.order)
    ∙ kept_more past (take from buffer) (drop from (take to buffer))
    (take (count - (to - from)) (entries pass.seen)) (take count (entries pass.seen)) was.front_is

-- the past took what the history gave
pub feeds_settled : (history : HistoryValue) (pass new : Each) (past taken : Past)
    (buffer : List Entry) (from to count : ℕ) (evaluator : EvaluatorValue) →
    FeedsOn history pass past buffer from to count evaluator →
    ◌≡◌ {A = List Entry} (drop to buffer) [] → PastTakes past buffer taken →
    take count (entries new.seen) ≡ take count (entries pass.seen) → evaluator.position ≡ count →
    FeedsFrom history new count (drop to buffer) evaluator →
    FeedsOn history new taken [] 0 0 count evaluator
feeds_settled history pass new past taken buffer from to count evaluator was none takes same place
    feeds =
    let given = take count (entries new.seen) in
    let none_off : count - (0 - 0) ≡ count = omega arith in
    let given_is : take (count - (0 - 0)) (entries new.seen) ≡ given =
    ap (λ (n : ℕ). take n (entries new.seen)) none_off in
    record {
      within = omega arith;
      order = omega arith;
      counted = omega arith;
      front_is = sym given_is ∙ sym (append-nil (take (count - (0 - 0)) (entries new.seen)));
      past_is = subst (λ (h : List Entry). IsPastOf history.terms taken [] h) (sym given_is)
          (past_taken history.terms past taken from to buffer
          (take (count - (to - from)) (entries pass.seen)) given takes was.order none
          (same ∙ was.front_is)
          (All-take IsPlain count (entries new.seen) feeds.plain) was.past_is);
      behind = omega (arith, place);
      feeds_from = subst (λ (rest : List Entry). FeedsFrom history new count rest evaluator) none
          feeds;
    }

-- more comes, where nothing was left
pub feeds_filled : (history : HistoryValue) (pass new : Each) (past : Past)
    (buffer more : List Entry) (from to count : ℕ) (evaluator : EvaluatorValue) →
    from ≡ 0 → to ≡ 0 → FeedsOn history pass past buffer from to count evaluator →
    HasSeen history pass new → more ≡ take 256 (drop count (entries new.seen)) →
    FeedsOn history new past more from to count evaluator
feeds_filled history pass new past buffer more from to count evaluator from_is to_is was seen is =
    let rest = drop to buffer in
    let come = was.feeds_from.rest_comes in
    let fed = feeds_seen history pass new seen count rest evaluator was.feeds_from more
    (more_comes history pass new count come.there was.feeds_from.few seen more is) in
    let old = feeds_still_on history pass new past buffer from to count evaluator was seen in
    let same_first : take from buffer ≡ take from more =
    first_none from buffer from_is ∙ sym (first_none from more from_is) in
    record {
      within = omega (arith, to_is);
      order = was.order;
      counted = was.counted;
      front_is = old.front_is ∙ ap (λ (front : List Entry).
          take (count - (to - from)) (entries new.seen) ++ front)
          (front_none from to buffer from_is to_is ∙ sym (front_none from to more from_is to_is));
      past_is = subst (λ (first : List Entry). IsPastOf history.terms past first
          (take (count - (to - from)) (entries new.seen))) same_first old.past_is;
      behind = was.behind;
      feeds_from = subst (λ (rest : List Entry). FeedsFrom history new count rest evaluator)
          (sym (ap (λ (n : ℕ). drop n more) to_is)) fed;
    }

-- the next front is given, of so many entries
pub feeds_next : (history : HistoryValue) (pass : Each) (past : Past) (buffer : List Entry)
    (from to count n : ℕ) (evaluator : EvaluatorValue) → n ≤ length (drop to buffer) →
    evaluator.position ≡ count → FeedsOn history pass past buffer from to count evaluator →
    FeedsOn history pass past buffer to (to + n) (count + n) evaluator
feeds_next history pass past buffer from to count n evaluator within place was =
    let seen = entries pass.seen in
    let off : (count + n) - ((to + n) - to) ≡ count = omega arith in
    let given_is : take ((count + n) - ((to + n) - to)) seen ≡ take count seen =
    ap (λ (m : ℕ). take m seen) off in
    let fed = feeds_given history pass count n (drop to buffer) evaluator within was.feeds_from in
    let plain : All IsPlain (take count seen) = All-take IsPlain count seen was.feeds_from.plain in
    record {
      within = omega (arith, within, was.within, length-drop to buffer);
      order = omega arith;
      counted = omega arith;
      front_is = more_given seen count (drop to buffer) was.feeds_from.rest_comes n within
          ∙ (ap (λ (first : List Entry). first ++ take n (drop to buffer)) (sym given_is)
          ∙ ap (λ (front : List Entry). take ((count + n) - ((to + n) - to)) seen ++ front)
          (sym (drop-take to n buffer)));
      past_is = subst (λ (given : List Entry). IsPastOf history.terms past (take to buffer) given)
          (sym given_is)
          (subst (λ (first : List Entry). IsPastOf history.terms past first (take count seen))
          (sym (parts from to buffer was.order))
          (past_more history.terms past (take from buffer) (drop from (take to buffer))
          (take (count - (to - from)) seen) (take count seen) was.front_is
          (plain_behind (take (count - (to - from)) seen) (drop from (take to buffer))
          (subst (λ (h : List Entry). All IsPlain h) was.front_is plain)) was.past_is));
      behind = omega (arith, place);
      feeds_from = subst (λ (later : List Entry). FeedsFrom history pass (count + n) later
          evaluator) (sym (drop_twice to n buffer)) fed;
    }

-- what is kept then is what had begun
pub kept_next : (past : Past) (first seen : List Entry) (to count n : ℕ) →
    kept_in past first (take ((count + n) - ((to + n) - to)) seen)
    ≡ kept_in past first (take count seen)
kept_next past first seen to count n =
    ap (λ (m : ℕ). kept_in past first (take m seen))
    {x = (count + n) - ((to + n) - to)} {y = count} (omega arith)

-- what is kept was shrunk, where nothing was left of what the history gave
module _ (stand : EntriesStandIn) (store : SavedKeepsTheStore) (more : SavedOfMore)
    (evaluator : EvaluatorValue) (runs : IsRunnable evaluator) (history : HistoryValue)
    (pass : Each) (past new : Past) (then : AfterShrink) (buffer : List Entry)
    (from to count : ℕ) (from_is : from ≡ 0)
    (was : FeedsOn history pass past buffer from to count evaluator)
    (shrinks : PastShrinks past then new) where
  abbrev first : List Entry
  first = take from buffer

  abbrev given_first : List Entry
  given_first = take (count - (to - from)) (entries pass.seen)

  pub feeds_shrunk : (other : EvaluatorValue) → IsAsFar evaluator other →
      FeedsOn history pass new buffer from to count other
  feeds_shrunk other far = record {
    within = was.within;
    order = was.order;
    counted = was.counted;
    front_is = was.front_is;
    past_is = shrunk_past stand store more evaluator runs history.terms was.feeds_from.queries past
        new then first given_first (first_none from buffer from_is) shrinks was.past_is;
    behind = omega (arith, far.place, was.behind);
    feeds_from = feeds_as_far history pass count (drop to buffer) evaluator other far
        was.feeds_from;
  }

  pub stands_shrunk : to ≡ 0 → (all : List Entry) → kept_in past first given_first ≡ all →
      (history : List Entry) → StandsInFor evaluator all history →
      StandsInFor evaluator (kept_in new first given_first ++ drop from (take to buffer)) history
  stands_shrunk to_is all all_is others stands =
      let kept = kept_in new first given_first in
      let none : kept ++ drop from (take to buffer) ≡ kept =
      ap (λ (front : List Entry). kept ++ front) (front_none from to buffer from_is to_is)
      ∙ append-nil kept in
      subst (λ (each : List Entry). StandsInFor evaluator each others) (sym none)
      (shrunk_stands stand store more evaluator runs history.terms was.feeds_from.queries past new
      then first given_first (first_none from buffer from_is) shrinks was.past_is others
      (subst (λ (each : List Entry). StandsInFor evaluator each others) (sym all_is) stands))

-- of what the history gave then nothing has begun
pub kept_filled : (past : Past) (buffer more seen new : List Entry) (from to count : ℕ) →
    from ≡ 0 → to ≡ 0 → take count new ≡ take count seen →
    kept_in past (take to more) (take count new)
    ≡ kept_in past (take from buffer) (take (count - (to - from)) seen)
kept_filled past buffer more seen new from to count from_is to_is same =
    ap (λ (first : List Entry). kept_in past first (take count new))
    (first_none to more to_is ∙ sym (first_none from buffer from_is))
    ∙ ap (λ (given : List Entry). kept_in past (take from buffer) given)
    (same ∙ ap (λ (n : ℕ). take n seen) {x = count} {y = count - (to - from)}
    (omega (arith, to_is)))
