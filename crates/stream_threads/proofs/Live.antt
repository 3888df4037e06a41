-- What the answers of a reader and their text become, item after item.
use Rattle.std.proofs.Common.{◌≡◌, ◌≢◌, ℕ, ◌≤◌, List, [], ◌∷◌, ◌++◌, map, refl, sym, ap, subst}
use Rattle.std.proofs.Common.{◌∙◌, arith, rules, append_assoc, append-nil, inl, inr, Option, Some, None}
use Rattle.std.proofs.Common.{Result, Ok, Err}
use Rattle.std.specs.Prelude.{IfSome, IfErr, OnOk}
use Rattle.std.specs.Io.KnownBytes.{append_known}
use Rattle.std.proofs.lemmas.List.{map-append}
use Rattle.std.proofs.lemmas.List.Concat.{flat_map-append}
use Rattle.std.proofs.lemmas.List.Elements.{filter_map-append}
use Rattle.std.proofs.lemmas.Option.{IfSome_then}
use Rattle.rpq_io.specs.Writes.{WritesProperPrefix}
use Rattle.turn_lock.specs.Passes.{PassValue}
use Rattle.history_model.specs.declared.line.Line.{Line}
use Rattle.history_model.specs.declared.line.Why.{Why}
use Rattle.history_model.specs.Lines.{published, IsShutFor}
use Rattle.history_model.specs.LegalLaws.{FrontsAreLegal}
use Rattle.history_model.specs.World.{Terms}
use Rattle.rpq_model.specs.Query.{Query}
use Rattle.stream_history.specs.History.{HistoryValue, HasSeen, IsPassOf}
use Rattle.text_items.specs.Limits.{most_bytes}
use Rattle.text_items.specs.Items.{text_items, TextItems}
use Rattle.text_items.specs.Taken.{IsPrefix, IsProperPrefix}
use Rattle.text_items.specs.Progress.{HasRead, ReadsOn}
use Rattle.text_items.proofs.Reading.{front_of}
use Rattle.ask_text.specs.Answered.{AnsweredValue}
use Rattle.live_asks.specs.declared.ends.ReaderEnd.{ReaderEnd}
use Rattle.live_asks.specs.declared.ends.ReaderEnd.TheVariants.{Whole, Left, LongText, Read, Write}
use Rattle.live_asks.specs.declared.ends.ReaderEnd.TheVariants.{Closed, Memory}
use Rattle.live_asks.specs.declared.item.ReaderItem.{ReaderItem}
use Rattle.live_asks.specs.Items.{asking, asked_items}
use Rattle.live_asks.specs.Answers.{LiveAnswer, Told, Refused, TooLong, item_answered, answer_text}
use Rattle.live_asks.specs.Answers.{answers_text, answers_told, told_of, end_answer}
use Rattle.live_asks.specs.Ends.{AreItemsOfEnd, HasText}
use Rattle.live_asks.specs.Progress.{EndsAsks, IsAskEnd}
use Rattle.live_asks.specs.Readers.{IsNewAskReader}
use Rattle.stream_threads.specs.declared.reader_work.ReaderWork.{ReaderWork}
use Rattle.stream_threads.specs.Sessions.{HasReply, AreReplies, RisesTo}
use Rattle.stream_threads.specs.Serving.{AnswersSoFar, AnswersByEnd, IsAnsweredBy, PutsAnswer}
use Rattle.stream_threads.specs.Serving.{EndsAtItem, IsLastEnd, ServesOne, EndsServing}
use Rattle.stream_threads.proofs.Seen.{is_front}
use Rattle.stream_threads.proofs.Replying.{replies_grow, replies_push, rises_push, rises_more}

-- ---- the text of the answers

not_none : {A : Type 0} (xs ys : List A) → xs ≢ [] → xs ++ ys ≢ []
not_none [] ys some none = some refl
not_none (x ∷ xs) ys some none = absurd cc

-- the text of one answer more
text_push : (answers : List LiveAnswer) (one : LiveAnswer) →
    answers_text (answers ++ one ∷ []) ≡ answers_text answers ++ answer_text one
text_push answers one =
    flat_map-append answer_text answers (one ∷ [])
    ∙ ap (λ (l : List ℕ). answers_text answers ++ l) (append-nil (answer_text one))

-- the items of one answer more
items_push : (answers : List LiveAnswer) (one : LiveAnswer) (item : ReaderItem) →
    item_answered one ≡ item →
    map item_answered (answers ++ one ∷ []) ≡ map item_answered answers ++ item ∷ []
items_push answers one item is =
    map-append item_answered answers (one ∷ [])
    ∙ ap (λ (i : ReaderItem). map item_answered answers ++ i ∷ []) is

-- what is known grows by more
known_more : (old new : Option (List ℕ)) (had more all : List ℕ) → new ≡ append_known old more →
    IfSome old (λ bytes. bytes ≡ had) → had ++ more ≡ all → IfSome new (λ bytes. bytes ≡ all)
known_more None new had more all grew is same =
    subst (λ (n : Option (List ℕ)). IfSome n (λ bytes. bytes ≡ all)) (sym grew) tt
known_more (Some bytes) new had more all grew is same =
    subst (λ (n : Option (List ℕ)). IfSome n (λ bytes. bytes ≡ all)) (sym grew)
    (ap (λ (l : List ℕ). l ++ more) is ∙ same)

-- what is known grows by a part of more, and not all
known_part : (old new : Option (List ℕ)) (had more behind all : List ℕ) →
    WritesProperPrefix more old new → IfSome old (λ bytes. bytes ≡ had) →
    had ++ (more ++ behind) ≡ all → IfSome new (λ bytes. IsProperPrefix bytes all)
known_part None new had more behind all part is same =
    subst (λ (n : Option (List ℕ)). IfSome n (λ bytes. IsProperPrefix bytes all))
    (sym part.written) tt
known_part (Some bytes) new had more behind all part is same =
    subst (λ (n : Option (List ℕ)). IfSome n (λ bytes. IsProperPrefix bytes all))
    (sym part.written) (record {
      rest = part.rest ++ behind;
      cut = sym same
          ∙ (ap (λ (l : List ℕ). had ++ (l ++ behind)) part.cut
          ∙ (ap (λ (l : List ℕ). had ++ l) (append_assoc part.front part.rest behind)
          ∙ (sym (append_assoc had part.front (part.rest ++ behind))
          ∙ ap (λ (l : List ℕ). (l ++ part.front) ++ (part.rest ++ behind)) (sym is))));
      proper = not_none part.rest behind part.proper;
    })

-- ---- the replies among the answers

told_push : (answers : List LiveAnswer) (one : LiveAnswer) →
    answers_told (answers ++ one ∷ []) ≡ answers_told answers ++ answers_told (one ∷ [])
told_push answers one = filter_map-append told_of answers (one ∷ [])

module _ (history : HistoryValue) (before after : PassValue Line Terms)
    (seen : HasSeen history before after) (law : FrontsAreLegal) (answers : List LiveAnswer)
    (replies : AreReplies history before.seen (answers_told answers))
    (rises : RisesTo 0 (answers_told answers) (published before.seen)) where
  pub still_replies : AreReplies history after.seen (answers_told answers)
  still_replies =
      replies_grow (answers_told answers) history after.seen before.seen seen.seen replies

  risen : published before.seen ≤ published after.seen
  risen =
      (is_front after.seen before.seen seen.seen law history.terms.streams history.terms.cap
      seen.legal).rises

  pub still_rises : RisesTo 0 (answers_told answers) (published after.seen)
  still_rises =
      rises_more (answers_told answers) 0 (published before.seen) (published after.seen) rises risen

  more_replies : (one : LiveAnswer) → IfSome (told_of one) (λ a. HasReply history after.seen a) →
      AreReplies history after.seen (answers_told answers ++ answers_told (one ∷ []))
  more_replies (Told one) reply =
      replies_push (answers_told answers) history after.seen before.seen one seen.seen replies reply
  more_replies (Refused fault) reply =
      subst (AreReplies history after.seen) (sym (append-nil (answers_told answers))) still_replies
  more_replies (TooLong line) reply =
      subst (AreReplies history after.seen) (sym (append-nil (answers_told answers))) still_replies

  more_rises : (one : LiveAnswer) →
      IfSome (told_of one) (λ a. a.position ≡ published after.seen) →
      RisesTo 0 (answers_told answers ++ answers_told (one ∷ [])) (published after.seen)
  more_rises (Told one) at =
      rises_push (answers_told answers) 0 (published before.seen) (published after.seen) one rises
      (omega (arith, risen, at)) (omega (arith, at))
  more_rises (Refused fault) at =
      subst (λ (l : List AnsweredValue). RisesTo 0 l (published after.seen))
      (sym (append-nil (answers_told answers))) still_rises
  more_rises (TooLong line) at =
      subst (λ (l : List AnsweredValue). RisesTo 0 l (published after.seen))
      (sym (append-nil (answers_told answers))) still_rises

  module _ (item : ReaderItem) (one : LiveAnswer)
      (answered : IsAnsweredBy history after.seen item one) where
    pub replies_one : AreReplies history after.seen (answers_told (answers ++ one ∷ []))
    replies_one =
        subst (AreReplies history after.seen) (sym (told_push answers one))
        (more_replies one answered.reply)

    pub rises_one : RisesTo 0 (answers_told (answers ++ one ∷ [])) (published after.seen)
    rises_one =
        subst (λ (l : List AnsweredValue). RisesTo 0 l (published after.seen))
        (sym (told_push answers one)) (more_rises one answered.at)

-- ---- prefixes

proper_one : {A : Type 0} (items : List A) (item : A) (all : List A) →
    IsPrefix (items ++ item ∷ []) all → IsProperPrefix items all
proper_one items item all front = record {
  rest = item ∷ front.rest;
  cut = front.cut ∙ append_assoc items (item ∷ []) front.rest;
  proper = λ none. absurd cc;
}

prefix_one : {A : Type 0} (items : List A) (item : A) (all : List A) →
    IsPrefix (items ++ item ∷ []) all → IsPrefix items all
prefix_one items item all front = record {
  rest = item ∷ front.rest;
  cut = front.cut ∙ append_assoc items (item ∷ []) front.rest;
}

prefix_all : {A : Type 0} (items all : List A) → all ≡ items → IsPrefix items all
prefix_all items all is = record { rest = []; cut = is ∙ sym (append-nil items) }

-- ---- a reader that is served

module _ {S K : Type 0} (left : S → Option (List ℕ)) (faults : S → ℕ)
    (written : K → Option (List ℕ)) (failures : K → ℕ) (history : HistoryValue) where
  -- nothing was answered yet
  pub none_answered : (work : ReaderWork S K) →
      IsNewAskReader left faults written failures
      (record { reader = work.reader; replies = work.replies }) →
      AnswersSoFar left written history (left work.reader.source) work
  none_answered work new = record {
    answers = [];
    read = search (rules, new.fresh.no_bytes, new.fresh.none_taken, new.fresh.no_line);
    replies = tt;
    rises = omega arith;
    text = new.replies.empty;
  }

module _ {S K : Type 0} (left : S → Option (List ℕ)) (written : K → Option (List ℕ))
    (history : HistoryValue) (old new : ReaderWork S K) (law : FrontsAreLegal) where
  abbrev queries : List Query
  queries = history.terms.queries

  -- the reading met this end, behind which the reader ended so
  module _ (end last : ReaderEnd) (ends : EndsAsks queries left old.reader new.reader end)
      (same : new.pass ≡ old.pass)
      (is_last : IsLastEnd (written old.replies) (written new.replies) end last) where
    by_end : (end last : ReaderEnd) → IsAskEnd end → (answers : List LiveAnswer) →
        (bytes : List ℕ) → (rest : Option (List ℕ)) →
        AreItemsOfEnd queries bytes rest (map item_answered answers) end →
        IsLastEnd (written old.replies) (written new.replies) end last →
        AreItemsOfEnd queries bytes rest (map item_answered answers) last
    by_end Whole last meets answers bytes rest are is =
        subst (AreItemsOfEnd queries bytes rest (map item_answered answers)) (sym is.0) are
    by_end LongText last meets answers bytes rest are is =
        subst (AreItemsOfEnd queries bytes rest (map item_answered answers)) (sym is.0) are
    by_end Read last meets answers bytes rest are is =
        subst (AreItemsOfEnd queries bytes rest (map item_answered answers)) (sym is.0) are
    by_end Memory last meets answers bytes rest are is =
        subst (AreItemsOfEnd queries bytes rest (map item_answered answers)) (sym is.0) are
    by_end Write last meets answers bytes rest are is = absurd meets
    by_end (Closed why) last meets answers bytes rest are is = absurd meets
    by_end (Left line) last meets answers bytes rest are is = elim is [
      | inl whole ↦
          subst (AreItemsOfEnd queries bytes rest (map item_answered answers)) (sym whole.0) are
      | inr part ↦
          subst (AreItemsOfEnd queries bytes rest (map item_answered answers)) (sym part.0)
          (prefix_all (map item_answered answers) (asked_items queries bytes).items
          (ap (λ (t : TextItems ReaderItem ℕ). t.items) are))
    ]

    text_by_end : (end last : ReaderEnd) → IsAskEnd end → (answers : List LiveAnswer) →
        IfSome (written old.replies) (λ bytes. bytes ≡ answers_text answers) →
        IsLastEnd (written old.replies) (written new.replies) end last →
        HasText (written new.replies) answers last
    text_by_end Whole last meets answers was is =
        subst (HasText (written new.replies) answers) (sym is.0)
        (subst (λ (o : Option (List ℕ)). IfSome o (λ bytes. bytes ≡ answers_text answers)) (sym is.1)
        was)
    text_by_end LongText last meets answers was is =
        subst (HasText (written new.replies) answers) (sym is.0)
        (subst (λ (o : Option (List ℕ)). IfSome o (λ bytes. bytes ≡ answers_text answers)) (sym is.1)
        was)
    text_by_end Read last meets answers was is =
        subst (HasText (written new.replies) answers) (sym is.0)
        (subst (λ (o : Option (List ℕ)). IfSome o (λ bytes. bytes ≡ answers_text answers)) (sym is.1)
        was)
    text_by_end Memory last meets answers was is =
        subst (HasText (written new.replies) answers) (sym is.0)
        (subst (λ (o : Option (List ℕ)). IfSome o (λ bytes. bytes ≡ answers_text answers)) (sym is.1)
        was)
    text_by_end Write last meets answers was is = absurd meets
    text_by_end (Closed why) last meets answers was is = absurd meets
    text_by_end (Left line) last meets answers was is = elim is [
      | inl whole ↦
          subst (HasText (written new.replies) answers) (sym whole.0)
          (known_more (written old.replies) (written new.replies) (answers_text answers) end_answer
          (answers_text answers ++ end_answer) whole.1 was refl)
      | inr part ↦
          subst (HasText (written new.replies) answers) (sym part.0)
          (known_part (written old.replies) (written new.replies) (answers_text answers) end_answer
          [] (answers_text answers ++ end_answer) part.1 was
          (ap (λ (l : List ℕ). answers_text answers ++ l) (append-nil end_answer)))
    ]

    ended_so : (file : Option (List ℕ)) → AnswersSoFar left written history file old →
        AnswersByEnd left written history file new last
    ended_so file was = record {
      answers = was.answers;
      tied = IfSome_then file (ends.tied file (map item_answered was.answers) was.read)
          (λ bytes are. by_end end last ends.met was.answers bytes (left new.reader.source) are
          is_last);
      replies = subst
          (λ (p : PassValue Line Terms). AreReplies history p.seen (answers_told was.answers))
          (sym same) was.replies;
      rises = subst
          (λ (p : PassValue Line Terms). RisesTo 0 (answers_told was.answers) (published p.seen))
          (sym same) was.rises;
      text = text_by_end end last ends.met was.answers was.text is_last;
    }

    -- it isn't that of a history that takes no more
    not_closed : (end last : ReaderEnd) (why : Why) → IsAskEnd end →
        IsLastEnd (written old.replies) (written new.replies) end last → last ≡ Closed why → ⊥
    not_closed Whole last why meets is closed = absurd (cc (is.0, closed))
    not_closed LongText last why meets is closed = absurd (cc (is.0, closed))
    not_closed Read last why meets is closed = absurd (cc (is.0, closed))
    not_closed Memory last why meets is closed = absurd (cc (is.0, closed))
    not_closed Write last why meets is closed = meets
    not_closed (Closed other) last why meets is closed = meets
    not_closed (Left line) last why meets is closed = elim is [
      | inl whole ↦ absurd (cc (whole.0, closed))
      | inr part ↦ absurd (cc (part.0, closed))
    ]

    pub ends_so : IsPassOf history old.pass → EndsServing left written history old new last
    ends_so is = record {
      is = subst (IsPassOf history) (sym same) is;
      ended = ended_so;
      closed = λ why closed. absurd (not_closed end last why ends.met is_last closed);
    }

  -- an item was read, and answered or not
  module _ (item : ReaderItem) (reads : ReadsOn (asking queries) left old.reader new.reader (item ∷ []))
      (seen : HasSeen history old.pass new.pass) where
    answered_one : PutsAnswer history new.pass.seen item (written old.replies)
        (written new.replies) → (file : Option (List ℕ)) →
        AnswersSoFar left written history file old → AnswersSoFar left written history file new
    answered_one did file was =
        let answers = was.answers in
        let one = did.answer in
        record {
          answers = answers ++ one ∷ [];
          read = subst (λ (items : List ReaderItem). HasRead (asking queries) left file items new.reader)
              (sym (items_push answers one item did.answered.is))
              (reads.read file (map item_answered answers) was.read);
          replies = replies_one history old.pass new.pass seen law answers was.replies was.rises item
              one did.answered;
          rises = rises_one history old.pass new.pass seen law answers was.replies was.rises item one
              did.answered;
          text = known_more (written old.replies) (written new.replies) (answers_text answers)
              (answer_text one) (answers_text (answers ++ one ∷ [])) did.written was.text
              (sym (text_push answers one));
        }

    module _ (limit : new.reader.byte_limit ≡ most_bytes) (file : Option (List ℕ))
        (was : AnswersSoFar left written history file old) where
      -- the item is one of those of the asks
      is_there : IfSome file (λ bytes.
          IsPrefix (map item_answered was.answers ++ item ∷ []) (asked_items queries bytes).items)
      is_there =
          let front = front_of (asking queries) left file
          (map item_answered was.answers ++ item ∷ []) new.reader reads.sound
          (reads.read file (map item_answered was.answers) was.read) in
          subst (λ (most : ℕ). IfSome file (λ bytes.
          IsPrefix (map item_answered was.answers ++ item ∷ [])
          (text_items (asking queries) most bytes).items)) limit front

      -- the text of the answers stays, where nothing was written
      still_text : written new.replies ≡ written old.replies →
          IfSome (written new.replies) (λ bytes. bytes ≡ answers_text was.answers)
      still_text same =
          subst (λ (o : Option (List ℕ)). IfSome o (λ bytes. bytes ≡ answers_text was.answers))
          (sym same) was.text

      stopped : (end : ReaderEnd) → EndsAtItem history new.pass.seen item (written old.replies)
          (written new.replies) end → AnswersByEnd left written history file new end
      stopped Write cut =
          let answers = was.answers in
          let one = cut.answer in
          record {
            answers = answers ++ one ∷ [];
            tied = IfSome_then file is_there (λ bytes front.
                subst (λ (items : List ReaderItem).
                IsPrefix items (asked_items queries bytes).items)
                (sym (items_push answers one item cut.answered.is)) front);
            replies = replies_one history old.pass new.pass seen law answers was.replies was.rises
                item one cut.answered;
            rises = rises_one history old.pass new.pass seen law answers was.replies was.rises item
                one cut.answered;
            text = known_part (written old.replies) (written new.replies) (answers_text answers)
                (answer_text one) end_answer (answers_text (answers ++ one ∷ []) ++ end_answer)
                cut.written was.text
                (sym (append_assoc (answers_text answers) (answer_text one) end_answer)
                ∙ ap (λ (l : List ℕ). l ++ end_answer) (sym (text_push answers one)));
          }
      stopped Whole ends = absurd ends
      stopped (Left line) ends = absurd ends
      stopped LongText ends = absurd ends
      stopped Read ends = absurd ends
      stopped (Closed why) ends = record {
        answers = was.answers;
        tied = IfSome_then file is_there (λ bytes front.
            proper_one (map item_answered was.answers) item (asked_items queries bytes).items front);
        replies = still_replies history old.pass new.pass seen law was.answers was.replies was.rises;
        rises = still_rises history old.pass new.pass seen law was.answers was.replies was.rises;
        text = still_text ends.0;
      }
      stopped Memory same = record {
        answers = was.answers;
        tied = IfSome_then file is_there (λ bytes front.
            prefix_one (map item_answered was.answers) item (asked_items queries bytes).items front);
        replies = still_replies history old.pass new.pass seen law was.answers was.replies was.rises;
        rises = still_rises history old.pass new.pass seen law was.answers was.replies was.rises;
        text = still_text same;
      }

    closes : (end : ReaderEnd) → EndsAtItem history new.pass.seen item (written old.replies)
        (written new.replies) end → (why : Why) → end ≡ Closed why → IsShutFor new.pass.seen why
    closes Whole ends why is = absurd ends
    closes (Left line) ends why is = absurd ends
    closes LongText ends why is = absurd ends
    closes Read ends why is = absurd ends
    closes Write ends why is = absurd (cc is)
    closes Memory ends why is = absurd (cc is)
    closes (Closed other) ends why is =
        let same : other ≡ why = cc is in
        subst (IsShutFor new.pass.seen) same ends.1

    module _ (limit : new.reader.byte_limit ≡ most_bytes) where
      pub serves_one : (result : Result (Unit {0}) ReaderEnd) →
          OnOk result (PutsAnswer history new.pass.seen item (written old.replies)
          (written new.replies)) → OnOk result (ServesOne left written history old new)
      serves_one (Ok done) did = record {
        serving = record { is = seen.is; sound = reads.sound; limit = limit };
        forward = reads.forward;
        answered = answered_one did;
      }
      serves_one (Err end) did = tt

      pub stops_at_item : (result : Result (Unit {0}) ReaderEnd) →
          IfErr result (EndsAtItem history new.pass.seen item (written old.replies)
          (written new.replies)) → IfErr result (EndsServing left written history old new)
      stops_at_item (Ok done) ends = tt
      stops_at_item (Err end) ends = record {
        is = seen.is;
        ended = λ file was. stopped limit file was end ends;
        closed = closes end ends;
      }
