-- The entries of a history that come next, and what the calls of its pass make of them.
use Rattle.std.proofs.Common.{◌≡◌, ℕ, zero, suc, ◌+◌, ◌-◌, ◌<◌, ◌≤◌, ◌^◌, min, Bool, true, false}
use Rattle.std.proofs.Common.{List}
use Rattle.std.proofs.Common.{[], ◌∷◌, ◌++◌}
use Rattle.std.proofs.Common.{length, map, take, drop, length-append, length-drop, append_assoc}
use Rattle.std.proofs.Common.{refl, sym, ap, subst, ◌∙◌, inl, inr, ⊎_elim, arith}
use Rattle.std.proofs.lemmas.List.{length-take, length-take-le, take-append-le, take-append-drop}
use Rattle.std.proofs.lemmas.List.{drop_at, take-take}
use Rattle.std.proofs.lemmas.List.Elements.{All-take, All-drop, All-same}
use Rattle.std.proofs.Math.Seq.{take-add}
use Rattle.std.specs.List.{AllZip}
use Rattle.std.specs.Prelude.{Option, Some, IfSome}
use Rattle.answer_rows.specs.Answers.{Answer}
use Rattle.answer_view.specs.View.{ViewValue, IsViewOf, AreRowsOf}
use Rattle.engine_loop.specs.Sources.{ComesNext, GetsOn, IsAsFar, ShowsOnly, Repeats}
use Rattle.entry_steps.specs.Evaluator.{EvaluatorValue, StandsAfter, KeepsSetup, IsViewAfter}
use Rattle.entry_steps.specs.Evaluator.{queries_of}
use Rattle.entry_steps.specs.Steps.{OptionsValue}
use Rattle.history_model.specs.Lines.{entries, published, publish_line, IsShut}
use Rattle.history_model.specs.declared.line.Line.{Line}
use Rattle.query_file.specs.Compiled.{CompiledValue}
use Rattle.rpq_base.specs.Plain.{IsPlain}
use Rattle.rpq_base.specs.declared.data.Entry.{Entry}
use Rattle.rpq_model.specs.Query.{Query, path_query}
use Rattle.rpq_model.specs.Window.{clock}
use Rattle.stream_threads.proofs.Numbering.{Each}
use Rattle.stream_threads.proofs.Seen.{entries_grow, same_front, take_part, part_fits, none_after}
use Rattle.stream_threads.proofs.Seen.{starts_then, added_starts}
use Rattle.stream_history.proofs.Pushes.{published_push}
use Rattle.stream_history.proofs.Steps.{still_feeds, going_after}
use Rattle.stream_history.proofs.Turns.{first_entries}
use Rattle.stream_history.specs.History.{HistoryValue, IsPassOf, IsFeedingPass, HasSeen, HasAdded}
use Rattle.stream_history.specs.Journal.{ShowsFront}
use Rattle.turn_lock.specs.Lines.{StartsWith}
use Rattle.two_way.specs.TwoWay.{walked}
use Rattle.rpq_threads.specs.Entries.{ComeBehind, IsToldOf, IsNoted, FeedsFrom}

-- the first entries of a list begin it
taken_starts : (n : ℕ) (all : List Entry) → StartsWith all (take n all)
taken_starts n all = (drop n all, sym (take-append-drop n all))

-- what is behind some entries, and behind those that follow them
pub drop_twice : {A : Type 0} (n m : ℕ) (xs : List A) → drop (n + m) xs ≡ drop m (drop n xs)
drop_twice {A} zero m xs = ap (λ (k : ℕ). drop k xs) {x = zero + m} {y = m} (omega arith)
drop_twice {A} (suc n) m [] = ap (λ (k : ℕ). drop k []) {x = suc n + m} {y = suc (n + m)}
    (omega arith) ∙ nothing_left m
  where
    nothing_left : (k : ℕ) → ◌≡◌ {A = List A} [] (drop k [])
    nothing_left zero = refl
    nothing_left (suc k) = refl
drop_twice {A} (suc n) m (x ∷ xs) =
    ap (λ (k : ℕ). drop k (x ∷ xs)) {x = suc n + m} {y = suc (n + m)} (omega arith)
    ∙ drop_twice n m xs

-- what is so of what was found
pub of_found : {A : Type 0} (found : Option A) (one : A) (P : A → Type 0) → found ≡ Some one →
    IfSome found P → P one
of_found {A} found one P is so = subst (λ (each : Option A). IfSome each P) is so

-- ---- some of what comes next

module _ (seen : List Entry) (count : ℕ) (rest : List Entry) (come : ComeBehind seen count rest)
    (n : ℕ) (within : n ≤ length rest) where
  -- behind the first entries stand these and what follows them
  behind : drop count seen ≡ rest ++ come.begins.0
  behind =
      ap (drop count) (come.begins.1 ∙ append_assoc (take count seen) rest come.begins.0)
      ∙ drop_at (take count seen) (rest ++ come.begins.0) count
      (length-take-le count seen come.there)

  pub more_given : take (count + n) seen ≡ take count seen ++ take n rest
  more_given =
      take-add count n seen
      ∙ ap (λ (more : List Entry). take count seen ++ more)
      (ap (take n) behind ∙ take-append-le n rest come.begins.0 within)

  many : length (take n rest) ≡ n
  many = length-take-le n rest within

  fits : count + length rest ≤ length seen
  fits = omega (
    arith,
    ap length come.begins.1,
    length-append (take count seen ++ rest) come.begins.0,
    length-append (take count seen) rest,
    length-take-le count seen come.there,
  )

  -- the others come behind them
  pub others_come : ComeBehind seen (count + n) (drop n rest)
  others_come = record {
    there = omega (arith, fits, within);
    begins = subst (StartsWith seen)
        (sym (ap (λ (first : List Entry). first ++ drop n rest) more_given
        ∙ (append_assoc (take count seen) (take n rest) (drop n rest)
        ∙ ap (λ (both : List Entry). take count seen ++ both) (take-append-drop n rest))))
        come.begins;
    plain = All-drop IsPlain n rest come.plain;
    short = omega (arith, come.short, length-drop n rest, within);
  }

  -- and these come next
  pub these_come_next : (evaluator : EvaluatorValue) → 1 ≤ n →
      (evaluator.options.paths ≡ true → n ≤ 1) →
      ComesNext evaluator (take count seen) (take (count + n) seen) (take n rest)
  these_come_next evaluator some one = record {
    all = more_given;
    some = omega (arith, many, some);
    one = λ told. omega (arith, many, one told);
    plain = All-take IsPlain n rest come.plain;
    short = omega (
      arith,
      length-take (count + n) seen,
      come.short,
      within,
    );
  }

-- what the history gave behind so many entries comes behind them
module _ (history : HistoryValue) (before after : Each) (count : ℕ)
    (there : count ≤ length (entries before.seen)) (few : history.terms.cap ≤ 2 ^ 61)
    (seen : HasSeen history before after) (more : List Entry)
    (is : more ≡ take 256 (drop count (entries after.seen))) where
  still_there : count ≤ length (entries after.seen)
  still_there = omega (arith, there, entries_grow after.seen before.seen seen.seen)

  pub more_comes : ComeBehind (entries after.seen) count more
  more_comes = record {
    there = still_there;
    begins = subst (StartsWith (entries after.seen))
        (take_part count 256 (entries after.seen) more is)
        (taken_starts (count + length more) (entries after.seen));
    plain = All-same IsPlain more (take 256 (drop count (entries after.seen))) is
        (All-take IsPlain 256 (drop count (entries after.seen))
        (All-drop IsPlain count (entries after.seen) seen.plain));
    short = omega (
      arith,
      part_fits count 256 (entries after.seen) more is still_there,
      seen.legal.capped,
      few,
    );
  }

  pub none_comes : more ≡ [] → count ≡ length (entries after.seen)
  none_comes none =
      none_after count 256 (entries after.seen) more is (omega arith) (ap length none) still_there

-- nothing comes
pub none_comes_then : (history : HistoryValue) (before after : Each) (count : ℕ) →
    count ≤ length (entries before.seen) → HasSeen history before after → (more : List Entry) →
    more ≡ take 256 (drop count (entries after.seen)) → length more ≡ 0 →
    count ≡ length (entries after.seen)
none_comes_then history before after count there seen more is none =
    none_after count 256 (entries after.seen) more is (omega arith) none
    (omega (arith, there, entries_grow after.seen before.seen seen.seen))

-- ---- the pass has seen more

module _ (before after : Each) (starts : StartsWith after.seen before.seen) (count : ℕ)
    (rest : List Entry) (come : ComeBehind (entries before.seen) count rest) where
  -- the first entries stay
  pub given_stays : take count (entries after.seen) ≡ take count (entries before.seen)
  given_stays = same_front after.seen before.seen starts count come.there

  pub still_come : ComeBehind (entries after.seen) count rest
  still_come = record {
    there = omega (arith, come.there, entries_grow after.seen before.seen starts);
    begins = subst (λ (first : List Entry). StartsWith (entries after.seen) (first ++ rest))
        (sym given_stays)
        (starts_then (entries after.seen) (entries before.seen)
        (take count (entries before.seen) ++ rest)
        (first_entries after.seen before.seen starts) come.begins);
    plain = come.plain;
    short = come.short;
  }

-- ---- what is published

-- what was told stays so, after a call that added no line
pub told_still : (history : HistoryValue) (before after : Each) → HasSeen history before after →
    (count : ℕ) → IsToldOf history before count → IsToldOf history after count
told_still history before after seen count was =
    let same : published after.mine ≡ published before.mine = ap published seen.mine in
    record {
      within = omega (arith, same, was.within);
      near = omega (arith, same, was.near);
      goes_on = ⊎_elim (λ is. inl (same ∙ is))
          (λ more. inr (omega (arith, more, entries_grow after.seen before.seen seen.seen)))
          was.goes_on;
    }

-- and so of as many entries
pub told_at : (history : HistoryValue) (pass : Each) (count other : ℕ) → other ≡ count →
    IsToldOf history pass count → IsToldOf history pass other
told_at history pass count other is was = subst (IsToldOf history pass) (sym is) was

-- all are published where no more entries are there
pub all_told : (history : HistoryValue) (pass : Each) (count : ℕ) →
    count ≡ length (entries pass.seen) → IsToldOf history pass count →
    published pass.mine ≡ count
all_told history pass count all was =
    ⊎_elim (λ is. is) (λ more. absurd (omega (arith, all, more))) was.goes_on

-- what was noted stays so, after a call that added no line
pub noted_still : (history : HistoryValue) (before after : Each) → HasSeen history before after →
    (shown known : ℕ) → IsNoted history before shown known → IsNoted history after shown known
noted_still history before after seen shown known was = record {
  is_published = λ some. ap published seen.mine ∙ was.is_published some;
  shown_there = omega (
    arith,
    was.shown_there,
    entries_grow after.seen before.seen seen.seen,
  );
  known_there = omega (
    arith,
    was.known_there,
    entries_grow after.seen before.seen seen.seen,
  );
}

-- and how many entries there are then is noted
pub noted_heard : (history : HistoryValue) (before after : Each) → HasSeen history before after →
    (shown known heard : ℕ) → heard ≡ length (entries after.seen) →
    IsNoted history before shown known → IsNoted history after shown heard
noted_heard history before after seen shown known heard is was =
    let still = noted_still history before after seen shown known was in
    record {
      is_published = still.is_published;
      shown_there = still.shown_there;
      known_there = omega (arith, is);
    }

-- nothing was put off where, later on, no more entries are there
pub none_put_off : (history : HistoryValue) (first before after : Each) (count : ℕ) →
    StartsWith before.seen first.seen → HasSeen history before after →
    count ≡ length (entries after.seen) → IsToldOf history first count →
    published first.mine ≡ count
none_put_off history first before after count starts seen all was =
    ⊎_elim (λ is. is) (λ more. absurd (omega (
      arith,
      all,
      more,
      entries_grow before.seen first.seen starts,
      entries_grow after.seen before.seen seen.seen,
    ))) was.goes_on

-- after a call that added no line the pass feeds whom it fed, with what came anew or with the same
module _ (history : HistoryValue) (before after : Each) (seen : HasSeen history before after)
    (count : ℕ) (rest : List Entry) (evaluator : EvaluatorValue)
    (was : FeedsFrom history before count rest evaluator) where
  pub feeds_seen : (more : List Entry) → ComeBehind (entries after.seen) count more →
      FeedsFrom history after count more evaluator
  feeds_seen more come = record {
    feeds = still_feeds history before after was.feeds seen;
    queries = was.queries;
    unread = was.unread;
    few = was.few;
    place = was.place;
    told = λ some.
        told_still history before after seen evaluator.position (was.told some);
    plain = seen.plain;
    rest_comes = come;
  }

  pub feeds_still : FeedsFrom history after count rest evaluator
  feeds_still = feeds_seen rest (still_come before after seen.seen count rest was.rest_comes)

-- a pass with the same lines of its own feeds, too
pub feeds_as : (history : HistoryValue) (first pass : Each) → IsFeedingPass history first →
    IsPassOf history pass → pass.number ≡ first.number → pass.mine ≡ first.mine →
    IsFeedingPass history pass
feeds_as history first pass was is number mine = record {
  is = record { is = is; number = number ∙ was.is.number };
  goes_on = λ shut. was.goes_on (subst (λ (lines : List Line). IsShut lines) mine shut);
}

-- more was given
pub feeds_given : (history : HistoryValue) (pass : Each) (count n : ℕ) (rest : List Entry)
    (evaluator : EvaluatorValue) → n ≤ length rest →
    FeedsFrom history pass count rest evaluator →
    FeedsFrom history pass (count + n) (drop n rest) evaluator
feeds_given history pass count n rest evaluator within was = record {
  feeds = was.feeds;
  queries = was.queries;
  unread = was.unread;
  few = was.few;
  place = omega (arith, was.place);
  told = was.told;
  plain = was.plain;
  rest_comes = others_come (entries pass.seen) count rest was.rest_comes n within;
}

-- an evaluator of the same setup and position is fed as well
pub feeds_as_far : (history : HistoryValue) (pass : Each) (count : ℕ) (rest : List Entry)
    (evaluator other : EvaluatorValue) → IsAsFar evaluator other →
    FeedsFrom history pass count rest evaluator → FeedsFrom history pass count rest other
feeds_as_far history pass count rest evaluator other far was = record {
  feeds = was.feeds;
  queries = ap (map (λ (each : CompiledValue). each.def)) far.setup.queries ∙ was.queries;
  unread = λ is. was.unread
      (sym (ap (λ (options : OptionsValue). options.two_way) far.setup.options) ∙ is);
  few = was.few;
  place = omega (arith, far.place, was.place);
  told = λ some. told_at history pass evaluator.position other.position far.place (was.told some);
  plain = was.plain;
  rest_comes = was.rest_comes;
}

-- ---- entries are given once more

-- a part of a list's front begins the list
own_front : {A : Type 0} (k m : ℕ) (xs : List A) →
    take k (take m xs) ≡ take (length (take k (take m xs))) xs
own_front zero m xs = refl
own_front (suc k) zero xs = refl
own_front (suc k) (suc m) [] = refl
own_front (suc k) (suc m) (x ∷ xs) = ap (λ l. x ∷ l) (own_front k m xs)

module _ (history : HistoryValue) (before after : Each) (seen : HasSeen history before after)
    (count from : ℕ) (there : count ≤ length (entries before.seen)) (some : from < count)
    (front more : List Entry) (is : front ≡ take 256 (drop from (entries after.seen)))
    (cut : more ≡ take (count - from) front) where
  abbrev all : List Entry
  all = entries after.seen

  is_cut : more ≡ take (count - from) (take 256 (drop from all))
  is_cut = ◌∙◌ {A = List Entry} cut (ap (take (count - from)) is)

  part : more ≡ take (length more) (drop from all)
  part = subst (λ (l : List Entry). l ≡ take (length l) (drop from all)) (sym is_cut)
      (own_front (count - from) 256 (drop from all))

  as_many : length more ≡ min (count - from) (min 256 (length all - from))
  as_many =
      ap length is_cut
      ∙ (length-take (count - from) (take 256 (drop from all))
      ∙ ap (λ (n : ℕ). min (count - from) n)
      (length-take 256 (drop from all) ∙ ap (λ (n : ℕ). min 256 n) (length-drop from all)))

  grown : count ≤ length all
  grown = omega (arith, there, entries_grow after.seen before.seen seen.seen)

  same_given : take count all ≡ take count (entries before.seen)
  same_given = same_front after.seen before.seen seen.seen count there

  pub they_repeat : Repeats (take count (entries before.seen)) from more
  they_repeat =
      subst (λ (first : List Entry). Repeats first from more) same_given
      (record {
        follow = take-take (from + length more) count all (omega (arith, as_many, some))
            ∙ (take_part from (length more) all more part
            ∙ ap (λ (begin : List Entry). begin ++ more)
            (sym (take-take from count all (omega (arith, some)))));
        some = omega (arith, as_many, grown, some);
      })

-- ---- the answers are published

-- what isn't so where some read isn't so
not_where_some : (two_way : Bool) (readers : ℕ) → (two_way ≡ true → readers ≡ 0) →
    0 < readers → two_way ≡ false
not_where_some false readers none some = refl
not_where_some true readers none some = absurd (omega (arith, none refl, some))

module _ (history : HistoryValue) (pass : Each) (count : ℕ) (rest : List Entry)
    (before now : EvaluatorValue) (was : FeedsFrom history pass count rest before)
    (on : GetsOn before now) (stands : StandsAfter now (take count (entries pass.seen))) where
  pub place_now : now.position ≡ count
  place_now = stands.fed.counted ∙ length-take-le count (entries pass.seen) was.rest_comes.there

  queries_now : queries_of now ≡ history.terms.queries
  queries_now = ap (map (λ (each : CompiledValue). each.def)) on.setup.queries ∙ was.queries

  -- what was published last is behind it
  pub is_ahead : 0 < history.readers → published pass.mine < now.position
  is_ahead some = omega (arith, (was.told some).within, on.further)

  -- its view is one of the history
  module _ (some : 0 < history.readers) (view : ViewValue)
      (sees : IsViewAfter now (take count (entries pass.seen)) view) where
    shows : IsViewOf (queries_of now) (take count (entries pass.seen)) view
    shows =
        let forwards : now.options.two_way ≡ false =
        ap (λ (options : OptionsValue). options.two_way) on.setup.options
        ∙ not_where_some before.options.two_way history.readers was.unread some in
        record {
          position = sees.says;
          clock = sees.clock ∙ ap (λ (two_way : Bool).
              clock (walked two_way (take count (entries pass.seen)))) forwards;
          rows = subst (λ (two_way : Bool). AllZip (λ (query : Query) (rows : List Answer).
              AreRowsOf (path_query query) (walked two_way (take count (entries pass.seen))) rows)
              (queries_of now) view.rows) forwards sees.rows;
        }

    pub view_place : view.position ≡ count
    view_place =
        shows.position ∙ length-take-le count (entries pass.seen) was.rest_comes.there

    pub view_there : view.position ≤ length (entries pass.seen)
    view_there = omega (arith, view_place, was.rest_comes.there)

    pub view_shows : ShowsFront history.terms.queries (entries pass.seen) view
    view_shows =
        subst (λ (n : ℕ). IsViewOf history.terms.queries (take n (entries pass.seen)) view)
        (sym view_place)
        (subst (λ (qs : List Query). IsViewOf qs (take count (entries pass.seen)) view)
        queries_now shows)

  -- an evaluator of the same setup and position
  module _ (new : EvaluatorValue) (keeps : KeepsSetup now new)
      (place : new.position ≡ now.position) where
    same_options : new.options ≡ before.options
    same_options = keeps.options ∙ on.setup.options

    unread_new : new.options.two_way ≡ true → history.readers ≡ 0
    unread_new is =
        was.unread (sym (ap (λ (options : OptionsValue). options.two_way) same_options) ∙ is)

    queries_new : queries_of new ≡ history.terms.queries
    queries_new = ap (map (λ (each : CompiledValue). each.def)) keeps.queries ∙ queries_now

    -- no view was published
    feeds_untold : (0 < history.readers → IsToldOf history pass new.position) →
        FeedsFrom history pass count rest new
    feeds_untold told = record {
      feeds = was.feeds;
      queries = queries_new;
      unread = unread_new;
      few = was.few;
      place = omega (arith, place, place_now);
      told = told;
      plain = was.plain;
      rest_comes = was.rest_comes;
    }

    -- nobody reads
    pub feeds_unread : history.readers ≡ 0 → FeedsFrom history pass count rest new
    feeds_unread none = feeds_untold (λ some. absurd (omega (arith, none, some)))

    -- the view was put off
    pub feeds_put_off : (shown known : ℕ) → IsNoted history pass shown known → count < known →
        count ≤ shown + history.lag → FeedsFrom history pass count rest new
    feeds_put_off shown known noted more near = feeds_untold (λ some. record {
      within = omega (arith, (was.told some).within, on.further, place);
      near = omega (arith, near, noted.is_published some, place, place_now);
      goes_on = inr (omega (arith, more, noted.known_there, place, place_now));
    })

    -- a view was published
    module _ (after : Each) (number : ℕ) (is : number ≡ count)
        (added : HasAdded history pass (publish_line number) after) where
      is_told : published after.mine ≡ count
      is_told = ap published added.mine ∙ (published_push pass.mine (publish_line number) ∙ is)

      pub noted_published : (shown known : ℕ) → IsNoted history pass shown known →
          IsNoted history after count known
      noted_published shown known noted =
          let more = entries_grow after.seen pass.seen
          (added_starts history pass after (publish_line number) added) in
          record {
            is_published = λ some. is_told;
            shown_there = omega (arith, more, was.rest_comes.there);
            known_there = omega (arith, more, noted.known_there);
          }

      pub feeds_published : FeedsFrom history after count rest new
      feeds_published =
          let starts = added_starts history pass after (publish_line number) added in
          record {
            feeds = record {
              is = record { is = added.is; number = added.number ∙ was.feeds.is.number };
              goes_on = λ shut. going_after pass.mine (publish_line number) (λ why same. cc)
                  was.feeds.goes_on (subst (λ (lines : List Line). IsShut lines) added.mine shut);
            };
            queries = queries_new;
            unread = unread_new;
            few = was.few;
            place = omega (arith, place, place_now);
            told = λ some.
                let all : published after.mine ≡ new.position =
                is_told ∙ (sym place_now ∙ sym place) in
                record {
                  within = omega (arith, all);
                  near = omega (arith, all);
                  goes_on = inl all;
                };
            plain = added.plain;
            rest_comes = still_come pass after starts count rest was.rest_comes;
          }

      pub given_published : take count (entries after.seen) ≡ take count (entries pass.seen)
      given_published = given_stays pass after
          (added_starts history pass after (publish_line number) added) count rest
          was.rest_comes

-- a view is shown, or none
pub shows_only : (now new : EvaluatorValue) (history : List Entry) → KeepsSetup now new →
    new.position ≡ now.position → StandsAfter new history → ShowsOnly history now new
shows_only now new history keeps place stands =
    record { setup = keeps; place = place; stands = stands }
