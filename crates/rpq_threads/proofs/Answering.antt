-- From what the passes of sessions and readers knew to what is so of the whole history.
use Rattle.std.proofs.Common.{◌≡◌, ℕ, ◌+◌, ◌≤◌, List, [], ◌∷◌, length, map, Option, ap, subst}
use Rattle.std.proofs.Common.{⊎_elim, arith}
use Rattle.std.specs.Prelude.{IfSome}
use Rattle.std.specs.List.{All, AllZip}
use Rattle.std.proofs.lemmas.List.Elements.{All-nil, All-cons, All-head, All-tail}
use Rattle.rpq_base.specs.declared.data.Entry.{Entry}
use Rattle.turn_lock.specs.Lines.{StartsWith}
use Rattle.turn_lock.specs.Passes.{Knows}
use Rattle.history_model.specs.declared.line.Line.{Line}
use Rattle.history_model.specs.Lines.{entries, published}
use Rattle.history_model.specs.Legal.{IsLegal}
use Rattle.history_model.specs.LegalLaws.{LegalIsSound, FrontsAreLegal, IsFront}
use Rattle.history_model.specs.World.{Terms}
use Rattle.stream_history.specs.History.{HistoryValue, author}
use Rattle.ask_text.specs.declared.ask.Ask.{Ask}
use Rattle.ask_text.specs.Answered.{AnsweredValue}
use Rattle.ask_text.specs.Ranges.{ended_at}
use Rattle.ask_text.specs.Reply.{IsReply}
use Rattle.live_asks.specs.declared.reader.AskReader.{AskReader}
use Rattle.live_asks.specs.Answers.{answers_told, item_answered}
use Rattle.live_asks.specs.Ends.{AreItemsOfEnd}
use Rattle.stream_threads.specs.declared.reader_work.ReaderWork.{ReaderWork}
use Rattle.stream_threads.specs.declared.session_work.SessionWork.{SessionWork}
use Rattle.stream_threads.specs.Live.{HasServed, HaveServed}
use Rattle.stream_threads.specs.Readers.{HaveReplied}
use Rattle.stream_threads.specs.Sessions.{HadEnded, AreReplies, RisesTo}
use Rattle.stream_threads.proofs.Numbering.{Each}
use Rattle.stream_threads.proofs.Replying.{replies_grow}
use Rattle.stream_threads.proofs.Seen.{is_front}
use Rattle.rpq_threads.specs.Runs.{IsAnsweredOf, Rises, AreSessionsOf, IsLiveOf}
use Rattle.rpq_threads.specs.Served.{outcome_of}

-- what holds where nothing is asked holds of any relation
pub none_asked : {X Y : Type 0} (P Q : X → Y → Type 0) (asked : List X) (answers : List Y) →
    [] ≡ asked → AllZip P [] answers → AllZip Q asked answers
none_asked P Q [] [] none are = tt
none_asked P Q [] (one ∷ more) none are = absurd are
none_asked P Q (ask ∷ asks) answers none are = absurd cc

-- no position is below the one before it, and none is above the last one
rises_below : (answers : List AnsweredValue) (from to : ℕ) → RisesTo from answers to → from ≤ to
rises_below [] from to was = was
rises_below (one ∷ more) from to was =
    omega (arith, was.0, rises_below more one.position to was.1)

do_rise : (answers : List AnsweredValue) (from to : ℕ) → RisesTo from answers to →
    Rises from answers
do_rise [] from to was = tt
do_rise (one ∷ more) from to was = (was.0, do_rise more one.position to was.1)

module _ (law : LegalIsSound) (fronts : FrontsAreLegal) (terms : Terms) (lines : List Line)
    (legal : IsLegal terms.streams terms.cap lines) where
  pub front_is : (seen : List Line) → StartsWith lines seen →
      IsFront terms.streams terms.cap seen lines
  front_is seen starts = is_front lines seen starts fronts terms.streams terms.cap legal

  -- where no further position was to come the last one was published
  last_is : (position : ℕ) → HadEnded terms.streams lines position → position ≡ published lines
  last_is position had =
      let front = front_is had.front had.begins in
      let sound = law terms.streams terms.cap lines legal in
      ⊎_elim
      (λ both. omega (
        arith,
        had.at,
        both.1,
        front.rises,
        sound.behind,
        ap (λ (all : List Entry). length all) (front.ended both.0),
      ))
      (λ shut. let both = front.shut shut in omega (arith, had.at, both.1))
      had.over

  module _ (history : HistoryValue) (same : history.terms ≡ terms) where
    are_answers : (answers : List AnsweredValue) (from to : ℕ) → RisesTo from answers to →
        to ≤ published lines → AreReplies history lines answers →
        All (IsAnsweredOf terms.queries (entries lines) (published lines)) answers
    are_answers [] from to rises within was =
        All-nil (IsAnsweredOf terms.queries (entries lines) (published lines))
    are_answers (one ∷ more) from to rises within was =
        All-cons (IsAnsweredOf terms.queries (entries lines) (published lines)) one more
        (record {
          within = omega (arith, rises_below more one.position to rises.1, within);
          text = subst (λ (t : Terms). IsReply t.queries (entries lines) one.position one.ask
              (ended_at one.ask one.position) one.text) same was.0.text;
          ended = λ is. last_is one.position (subst (λ (t : Terms). HadEnded t.streams lines
              one.position) same (was.0.over is));
        })
        (are_answers more one.position to rises.1 within was.1)

    -- the sessions were answered over the history
    pub sessions_are : (from : ℕ) (sessions : List (List Ask)) (replied : List SessionWork) →
        HaveReplied history from sessions replied →
        All (Knows author terms lines) (map (λ (r : SessionWork). r.pass) replied) →
        AreSessionsOf terms.queries (entries lines) (published lines) sessions
        (map (λ (r : SessionWork). r.answers.items) replied)
    sessions_are from [] [] did knew = tt
    sessions_are from [] (r ∷ rs) did knew = absurd did
    sessions_are from (x ∷ xs) [] did knew = absurd did
    sessions_are from (x ∷ xs) (r ∷ rs) did knew =
        let Known = Knows author terms lines in
        let rest = map (λ (each : SessionWork). each.pass) rs in
        let own_is = All-head Known r.pass rest knew in
        let front = front_is r.pass.seen own_is.seen_begins in (
          record {
            first_asks = did.0.asked;
            each = are_answers r.answers.items 0 (published r.pass.seen) did.0.rises front.rises
                (replies_grow r.answers.items history lines r.pass.seen own_is.seen_begins
                did.0.replies);
            rises = do_rise r.answers.items 0 (published r.pass.seen) did.0.rises;
          },
          sessions_are (from + 1) xs rs did.1 (All-tail Known r.pass rest knew),
        )

    module _ {A K : Type 0} (left : A → Option (List ℕ)) (faults : A → ℕ)
        (written : K → Option (List ℕ)) (failures : K → ℕ) where
      -- a reader was answered over the history
      live_of : (source : A) (given : Each) (work : ReaderWork A K) →
          HasServed left faults written failures history source given work →
          StartsWith lines work.pass.seen →
          IsLiveOf left faults written failures terms.queries (entries lines) (published lines)
          (left source) (outcome_of work)
      live_of source given work did starts =
          let told = answers_told did.answers in
          let front = front_is work.pass.seen starts in
          record {
            answers = did.answers;
            tied = subst (λ (t : Terms). IfSome (left source) (λ text.
                AreItemsOfEnd t.queries text (left work.reader.source)
                (map item_answered did.answers) work.end)) same did.tied;
            each = are_answers told 0 (published work.pass.seen) did.rises front.rises
                (replies_grow told history lines work.pass.seen starts did.replies);
            rises = do_rise told 0 (published work.pass.seen) did.rises;
            text = did.text;
            read = did.read;
            write = did.write;
          }

      pub readers_are : (from : ℕ) (readers : List (AskReader A K))
          (served : List (ReaderWork A K)) →
          HaveServed left faults written failures history from
          (map (λ (one : AskReader A K). one.reader.source) readers) served →
          All (Knows author terms lines) (map (λ (r : ReaderWork A K). r.pass) served) →
          AllZip (IsLiveOf left faults written failures terms.queries (entries lines)
          (published lines)) (map (λ (one : AskReader A K). left one.reader.source) readers)
          (map outcome_of served)
      readers_are from [] [] did knew = tt
      readers_are from [] (r ∷ rs) did knew = absurd did
      readers_are from (x ∷ xs) [] did knew = absurd did
      readers_are from (x ∷ xs) (r ∷ rs) did knew =
          let Known = Knows author terms lines in
          let rest = map (λ (each : ReaderWork A K). each.pass) rs in
          let own_is = All-head Known r.pass rest knew in (
            live_of x.reader.source _ r did.0 own_is.seen_begins,
            readers_are (from + 1) xs rs did.1 (All-tail Known r.pass rest knew),
          )
