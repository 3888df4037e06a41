-- All threads have ended, and their passes are back.
use Rattle.std.proofs.Common.{◌≡◌, ℕ, ◌+◌, List, [], ◌∷◌, ◌++◌, length, map, Option, sym, ap, subst}
use Rattle.std.proofs.Common.{◌∙◌, arith, length-append}
use Rattle.std.proofs.Common.{get_or}
use Rattle.std.specs.List.{All, range_with_len}
use Rattle.std.proofs.lemmas.List.{length-map}
use Rattle.std.proofs.lemmas.List.Elements.{All-nil, All-cons, All-append, All-map, All-same}
use Rattle.turn_lock.specs.Passes.{AreAll}
use Rattle.stream_history.specs.History.{HistoryValue, IsPassOf}
use Rattle.ask_text.specs.declared.ask.Ask.{Ask}
use Rattle.live_asks.specs.declared.reader.AskReader.{AskReader}
use Rattle.stream_threads.specs.declared.reader_work.ReaderWork.{ReaderWork}
use Rattle.stream_threads.specs.declared.session_work.SessionWork.{SessionWork}
use Rattle.stream_threads.specs.declared.stream_input.StreamInput.{StreamInput}
use Rattle.stream_threads.specs.declared.stream_worker.StreamResult.{StreamResult}
use Rattle.stream_threads.specs.Live.{HasServed}
use Rattle.stream_threads.specs.Numbered.{AllNumbered}
use Rattle.stream_threads.specs.Sessions.{HasReplied}
use Rattle.stream_threads.specs.Started.{new_pass, new_passes}
use Rattle.stream_threads.specs.Streams.{HasStreamed}
use Rattle.stream_threads.proofs.Numbering.{Each, numbered_length, AreInOrder, order_append}
use Rattle.stream_threads.proofs.Numbering.{all_in_order, new_is}
use Rattle.rpq_threads.specs.Served.{Given, Gave, IsServed}

module _ {X Y : Type 0} (R : ℕ → X → Y → Type 0) (pass_of : Y → Each) where
  numbered_order : ((number : ℕ) (x : X) (y : Y) → R number x y → (pass_of y).number ≡ number) →
      (from : ℕ) (xs : List X) (ys : List Y) → AllNumbered R from xs ys →
      AreInOrder from (map pass_of ys)
  numbered_order own from [] [] did = tt
  numbered_order own from [] (y ∷ ys) did = absurd did
  numbered_order own from (x ∷ xs) [] did = absurd did
  numbered_order own from (x ∷ xs) (y ∷ ys) did =
      (own from x y did.0, numbered_order own (from + 1) xs ys did.1)

  numbered_are : (history : HistoryValue) →
      ((number : ℕ) (x : X) (y : Y) → R number x y → IsPassOf history (pass_of y)) →
      (from : ℕ) (xs : List X) (ys : List Y) → AllNumbered R from xs ys →
      All (IsPassOf history) (map pass_of ys)
  numbered_are history own from [] [] did = All-nil (IsPassOf history)
  numbered_are history own from [] (y ∷ ys) did = absurd did
  numbered_are history own from (x ∷ xs) [] did = absurd did
  numbered_are history own from (x ∷ xs) (y ∷ ys) did =
      All-cons (IsPassOf history) (pass_of y) (map pass_of ys) (own from x y did.0)
      (numbered_are history own (from + 1) xs ys did.1)

  numbered_many : (from : ℕ) (xs : List X) (ys : List Y) → AllNumbered R from xs ys →
      length (map pass_of ys) ≡ length xs
  numbered_many from xs ys did = length-map ys pass_of ∙ sym (numbered_length R from xs ys did)

-- new passes are passes of the history
pub new_are : (history : HistoryValue) (from count : ℕ) (passes : List Each) →
    passes ≡ new_passes history from count → All (IsPassOf history) passes
new_are history from count passes are =
    let numbers = range_with_len from count in
    All-same (IsPassOf history) passes (new_passes history from count) are
    (All-map (IsPassOf history) (new_pass history) numbers
    (λ k number below. new_is history (get_or numbers k number)))

-- the pass of a worker
abbrev stream_pass : {S K : Type 0} → StreamResult S K → Each
stream_pass done = done.pass

abbrev session_pass : SessionWork → Each
session_pass work = work.pass

abbrev reader_pass : {A K : Type 0} → ReaderWork A K → Each
reader_pass work = work.pass

module _ {S A K : Type 0} (left : S → Option (List ℕ)) (faults : S → ℕ)
    (asks_left : A → Option (List ℕ)) (asks_faults : A → ℕ) (written : K → Option (List ℕ))
    (failures : K → ℕ) (history : HistoryValue) (given : Given S A K) (gave : Gave S A K)
    (passes : List Each)
    (did : IsServed left faults asks_left asks_faults written failures history given gave passes)
    (streams : length given.inputs ≡ history.terms.streams)
    (asking : length given.sessions + length given.ask_readers ≡ history.readers) where
  abbrev StreamDid : ℕ → StreamInput S K → StreamResult S K → Type 0
  StreamDid number input one = HasStreamed left faults written failures history
      input.reader.source input.faults (new_pass history number) one.source one.faults one.pass
      one.end

  abbrev SessionDid : ℕ → List Ask → SessionWork → Type 0
  SessionDid number session work = HasReplied history (new_pass history number) session work

  abbrev ReaderDid : ℕ → A → ReaderWork A K → Type 0
  ReaderDid number before work = HasServed asks_left asks_faults written failures history before
      (new_pass history number) work

  abbrev sources : List A
  sources = map (λ (one : AskReader A K). one.reader.source) given.ask_readers

  abbrev first_session : ℕ
  first_session = 1 + history.terms.streams

  abbrev first_reader : ℕ
  first_reader = 1 + history.terms.streams + length given.sessions

  abbrev streamed_passes : List Each
  streamed_passes = map (λ (d : StreamResult S K). d.pass) did.streamed

  abbrev replied_passes : List Each
  replied_passes = map (λ (r : SessionWork). r.pass) did.replied

  abbrev served_passes : List Each
  served_passes = map (λ (r : ReaderWork A K). r.pass) did.served

  many_streamed : length streamed_passes ≡ history.terms.streams
  many_streamed = numbered_many StreamDid stream_pass 1 given.inputs did.streamed did.did ∙ streams

  many_replied : length replied_passes ≡ length given.sessions
  many_replied =
      numbered_many SessionDid session_pass first_session given.sessions did.replied
      did.answered_all

  many_served : length served_passes ≡ length given.ask_readers
  many_served =
      numbered_many ReaderDid reader_pass first_reader sources did.served did.served_all
      ∙ length-map given.ask_readers (λ (one : AskReader A K). one.reader.source)

  pub all_are_back : history.turns.passes ≡ 1 + history.terms.streams + history.readers →
      AreAll history.turns.passes passes
  all_are_back count =
      all_in_order history.turns.passes passes
      (omega (
        arith,
        count,
        asking,
        ap length did.passes_are,
        length-append streamed_passes (replied_passes ++ served_passes),
        length-append replied_passes served_passes,
        many_streamed,
        many_replied,
        many_served,
      ))
      (subst (AreInOrder 0) (sym did.passes_are) (
        did.fed.number,
        order_append 1 streamed_passes (replied_passes ++ served_passes)
            (numbered_order StreamDid stream_pass (λ n x y own. own.number) 1 given.inputs
            did.streamed did.did)
            (subst (λ n. AreInOrder (1 + n) (replied_passes ++ served_passes))
            (sym many_streamed)
            (order_append first_session replied_passes served_passes
            (numbered_order SessionDid session_pass (λ n x y own. own.number) first_session
            given.sessions did.replied did.answered_all)
            (subst (λ n. AreInOrder (first_session + n) served_passes) (sym many_replied)
            (numbered_order ReaderDid reader_pass (λ n x y own. own.number) first_reader sources
            did.served did.served_all)))),
      ))

  pub all_are_passes : All (IsPassOf history) passes
  all_are_passes =
      let asked = replied_passes ++ served_passes in
      All-same (IsPassOf history) passes (did.engine ∷ (streamed_passes ++ asked)) did.passes_are
      (All-cons (IsPassOf history) did.engine (streamed_passes ++ asked) did.fed.is
      (All-append (IsPassOf history) streamed_passes asked
      (numbered_are StreamDid stream_pass history (λ n x y own. own.is) 1 given.inputs did.streamed
      did.did)
      (All-append (IsPassOf history) replied_passes served_passes
      (numbered_are SessionDid session_pass history (λ n x y own. own.is) first_session
      given.sessions did.replied did.answered_all)
      (numbered_are ReaderDid reader_pass history (λ n x y own. own.is) first_reader sources
      did.served did.served_all))))
