-- How the entries of a history are given to the engine. Only private contracts cite this file.
use Rattle.std.specs.Prelude.{◌≡◌, ℕ, ◌+◌, ◌-◌, ◌<◌, ◌≤◌, ◌^◌, ◌⊎◌, true, List, ◌++◌, [], length}
use Rattle.std.specs.Prelude.{take, drop, All}
use Rattle.entry_steps.specs.Evaluator.{EvaluatorValue, queries_of}
use Rattle.history_model.specs.Lines.{entries, published}
use Rattle.history_model.specs.World.{Terms}
use Rattle.history_model.specs.declared.line.Line.{Line}
use Rattle.rpq_base.specs.Plain.{IsPlain}
use Rattle.rpq_base.specs.declared.data.Entry.{Entry}
use Rattle.stream_history.specs.History.{HistoryValue, IsFeedingPass}
use Rattle.turn_lock.specs.Lines.{StartsWith}
use Rattle.turn_lock.specs.Passes.{PassValue}
use Rattle.rpq_threads.specs.declared.entries.HistoryEntries.{HistoryEntries}
use Rattle.engine_loop.specs.Sources.{StaysAs}
use Rattle.rpq_threads.specs.Past.{kept_in, IsPastOf}
use Rattle.rpq_threads.specs.declared.past.Past.{Past}

-- of what was seen these entries follow the first ones, so many, and none of them is too far
pub record ComeBehind (seen : List Entry) (count : ℕ) (rest : List Entry) : Type 0 where
  pub there : count ≤ length seen
  pub begins : StartsWith seen (take count seen ++ rest)
  pub plain : All IsPlain rest
  pub short : count + length rest ≤ 2 ^ 61

-- so many first entries are published, but for the last ones of them, as many as the lag of the
-- history says at most; and for these only while more entries are seen
pub record IsToldOf (history : HistoryValue) (pass : PassValue Line Terms) (count : ℕ) : Type 0
  where
    pub within : published pass.mine ≤ count
    pub near : count ≤ published pass.mine + history.lag
    pub goes_on : (published pass.mine ≡ count) ⊎ (count < length (entries pass.seen))

-- the pass is the engine's, and may give the evaluator, which has the queries of the history, what
-- comes behind so many entries; the answers that the evaluator has are published, or may be put
-- off, if the history has readers, and then no edge is taken backwards
pub record FeedsFrom (history : HistoryValue) (pass : PassValue Line Terms) (count : ℕ)
    (rest : List Entry) (evaluator : EvaluatorValue) : Type 0 where
  pub feeds : IsFeedingPass history pass
  pub queries : queries_of evaluator ≡ history.terms.queries
  pub unread : evaluator.options.two_way ≡ true → history.readers ≡ 0
  pub few : history.terms.cap ≤ 2 ^ 61
  pub place : evaluator.position ≤ count
  pub told : 0 < history.readers → IsToldOf history pass evaluator.position
  pub plain : All IsPlain (entries pass.seen)
  pub rest_comes : ComeBehind (entries pass.seen) count rest

-- the entries that the pass has seen
abbrev pub entries_seen : {R : Type 0} → HistoryEntries R → List Entry
entries_seen source = entries source.pass.seen

-- how many entries were given before the last front
abbrev pub count_before : {R : Type 0} → HistoryEntries R → ℕ
count_before source = source.count - (source.to - source.from)

-- the entries that were given, and of them those before the last front
abbrev pub given_by : {R : Type 0} → HistoryEntries R → List Entry
given_by source = take source.count (entries_seen source)

abbrev pub given_before : {R : Type 0} → HistoryEntries R → List Entry
given_before source = take (count_before source) (entries_seen source)

-- the last front
abbrev pub front_of : {R : Type 0} → HistoryEntries R → List Entry
front_of source = drop source.from (take source.to source.buffer.items)

-- what is kept in the place of the entries that were given before the last front
abbrev pub kept_by : {R : Type 0} → HistoryEntries R → List Entry
kept_by source =
    kept_in source.past (take source.from source.buffer.items) (given_before source)

-- what is kept in the place of all entries that were given
abbrev pub begun_by : {R : Type 0} → HistoryEntries R → List Entry
begun_by source = kept_in source.past (take source.to source.buffer.items) (given_by source)

-- nothing is left of what the history gave last, and there is no front
pub record IsEmptied {R : Type 0} (source : HistoryEntries R) : Type 0 where
  pub none : source.buffer.items ≡ []
  pub from_first : source.from ≡ 0
  pub to_first : source.to ≡ 0

-- a source with these may give the evaluator what is left of what the history gave last, and what
-- comes then. From one place to the other stands the last front in it, which ends what was given,
-- so many entries; the past serves as what was given before it, which the evaluator answered
pub record FeedsOn (history : HistoryValue) (pass : PassValue Line Terms) (past : Past)
    (buffer : List Entry) (from to count : ℕ) (evaluator : EvaluatorValue) : Type 0 where
  pub within : to ≤ length buffer
  pub order : from ≤ to
  pub counted : to - from ≤ count
  pub front_is : take count (entries pass.seen)
      ≡ take (count - (to - from)) (entries pass.seen) ++ drop from (take to buffer)
  pub past_is : IsPastOf history.terms past (take from buffer)
      (take (count - (to - from)) (entries pass.seen))
  pub behind : count - (to - from) ≤ evaluator.position
  pub feeds_from : FeedsFrom history pass count (drop to buffer) evaluator

-- so many first entries are published, if the history has readers, and so many are known of those
-- that were seen
pub record IsNoted (history : HistoryValue) (pass : PassValue Line Terms) (shown known : ℕ) : Type 0
  where
    pub is_published : 0 < history.readers → published pass.mine ≡ shown
    pub shown_there : shown ≤ length (entries pass.seen)
    pub known_there : known ≤ length (entries pass.seen)

-- the source may, and has noted how far it is
pub record MayFeed {R : Type 0} (source : HistoryEntries R) (evaluator : EvaluatorValue) : Type 0
  where
    pub on : FeedsOn source.history.now source.pass source.past source.buffer.items source.from
        source.to source.count evaluator
    pub noted : IsNoted source.history.now source.pass source.shown source.known

-- the source is as it was, but that its pass may have seen more
abbrev pub StaysSo : {R : Type 0} → HistoryEntries R → HistoryEntries R → Type 0
StaysSo {R} old new =
    StaysAs (λ (source : HistoryEntries R). source.history.now) given_by kept_by front_of MayFeed
    old new
