-- Replies over histories that grow.
use Rattle.std.proofs.Common.{◌≡◌, ℕ, ◌≤◌, Bool, true, List, [], ◌∷◌, ◌++◌, length, map, take}
use Rattle.std.proofs.Common.{refl, sym, ap, subst, ◌∙◌, arith, append-nil}
use Rattle.std.proofs.lemmas.List.{length-take, map-append}
use Rattle.std.proofs.lemmas.Slice.Zip.{AllZip-long}
use Rattle.rpq_base.specs.declared.data.Entry.{Entry}
use Rattle.rpq_model.specs.Query.{Query, path_query}
use Rattle.answer_view.specs.View.{ViewValue, IsViewOf, AreRowsOf}
use Rattle.turn_lock.specs.Lines.{StartsWith}
use Rattle.history_model.specs.declared.line.Line.{Line}
use Rattle.history_model.specs.Lines.{entries, published}
use Rattle.stream_history.specs.Journal.{ShowsFront}
use Rattle.stream_history.specs.History.{HistoryValue, IsOver}
use Rattle.ask_text.specs.declared.ask.Ask.{Ask}
use Rattle.ask_text.specs.Answered.{AnsweredValue}
use Rattle.ask_text.specs.Ranges.{ended_at}
use Rattle.ask_text.specs.Reply.{IsReply}
use Rattle.stream_threads.specs.Sessions.{HasReply, AreReplies, RisesTo}
use Rattle.stream_threads.proofs.Numbering.{yields_more}
use Rattle.stream_threads.proofs.Seen.{starts_then, entries_grow, same_front}

-- a reply stays so with more lines
pub reply_grows : (history : HistoryValue) (lines seen : List Line) (one : AnsweredValue) →
    StartsWith lines seen → HasReply history seen one → HasReply history lines one
reply_grows history lines seen one starts was = record {
  within = let grown = entries_grow lines seen starts in omega (arith, grown, was.within);
  text = record {
    view = was.text.view;
    is_view = subst (λ (front : List Entry). IsViewOf history.terms.queries front was.text.view)
        (sym (same_front lines seen starts one.position was.within)) was.text.is_view;
    is_text = was.text.is_text;
  };
  over = λ is. let had = was.over is in record {
    front = had.front;
    begins = starts_then lines seen had.front starts had.begins;
    at = had.at;
    over = had.over;
  };
}

pub replies_grow : (answers : List AnsweredValue) (history : HistoryValue)
    (lines seen : List Line) → StartsWith lines seen → AreReplies history seen answers →
    AreReplies history lines answers
replies_grow [] history lines seen starts was = tt
replies_grow (one ∷ more) history lines seen starts was = (
  reply_grows history lines seen one starts was.0,
  replies_grow more history lines seen starts was.1,
)

pub replies_push : (answers : List AnsweredValue) (history : HistoryValue) (lines seen : List Line)
    (one : AnsweredValue) → StartsWith lines seen → AreReplies history seen answers →
    HasReply history lines one → AreReplies history lines (answers ++ one ∷ [])
replies_push [] history lines seen one starts was is = (is, tt)
replies_push (first ∷ more) history lines seen one starts was is = (
  reply_grows history lines seen first starts was.0,
  replies_push more history lines seen one starts was.1 is,
)

pub rises_push : (answers : List AnsweredValue) (from to end : ℕ) (one : AnsweredValue) →
    RisesTo from answers to → to ≤ one.position → one.position ≤ end →
    RisesTo from (answers ++ one ∷ []) end
rises_push [] from to end one was below above = (omega (arith, was, below), above)
rises_push (first ∷ more) from to end one was below above =
    (was.0, rises_push more first.position to end one was.1 below above)

pub rises_more : (answers : List AnsweredValue) (from to end : ℕ) → RisesTo from answers to →
    to ≤ end → RisesTo from answers end
rises_more [] from to end was more = omega (arith, was, more)
rises_more (first ∷ rest) from to end was more =
    (was.0, rises_more rest first.position to end was.1 more)

pub asks_push : (answers : List AnsweredValue) (one : AnsweredValue) →
    map (λ (each : AnsweredValue). each.ask) (answers ++ one ∷ [])
    ≡ map (λ (each : AnsweredValue). each.ask) answers ++ one.ask ∷ []
asks_push [] one = refl
asks_push (first ∷ more) one = ap (λ (l : List Ask). first.ask ∷ l) (asks_push more one)

-- an ask more is answered
pub asked_more : (answers : List AnsweredValue) (one : AnsweredValue) (ask : Ask)
    (rest after whole : List Ask) →
    map (λ (each : AnsweredValue). each.ask) answers ++ rest ≡ whole → rest ≡ ask ∷ after →
    one.ask ≡ ask → map (λ (each : AnsweredValue). each.ask) (answers ++ one ∷ []) ++ after ≡ whole
asked_more answers one ask rest after whole was step same =
    let before = map (λ (each : AnsweredValue). each.ask) answers in
    ap (λ (l : List Ask). l ++ after) (asks_push answers one
    ∙ ap (λ (a : Ask). before ++ a ∷ []) same) ∙ yields_more before rest after whole ask was step

-- the gate was told of one reply more
pub told_more : (answers : List AnsweredValue) (one : AnsweredValue) (after : List AnsweredValue)
    (told new : List ℕ) → told ≡ map (λ (each : AnsweredValue). each.position) answers →
    after ≡ answers ++ one ∷ [] → new ≡ told ++ one.position ∷ [] →
    new ≡ map (λ (each : AnsweredValue). each.position) after
told_more answers one after told new was ends more =
    let position : AnsweredValue → ℕ = λ each. each.position in
    more
    ∙ (ap (λ (l : List ℕ). l ++ position one ∷ []) was
    ∙ (sym (map-append position answers (one ∷ [])) ∙ ap (map position) (sym ends)))

-- a view has a row for each query
pub as_many_rows : (history : HistoryValue) (lines : List Line) (view : ViewValue) →
    ShowsFront history.terms.queries (entries lines) view →
    length view.rows ≡ length history.terms.queries
as_many_rows history lines view shows =
    AllZip-long (λ query rows.
    AreRowsOf (path_query query) (take view.position (entries lines)) rows) history.terms.queries
    view.rows shows.rows

-- the reply by the view that a look found
pub reply_is : (history : HistoryValue) (queries : List Query) (lines : List Line)
    (view : ViewValue) (ask : Ask) (position : ℕ) (ended : Bool) (text : List ℕ) →
    queries ≡ history.terms.queries → position ≡ view.position → ended ≡ ended_at ask position →
    view.position ≡ published lines → ShowsFront history.terms.queries (entries lines) view →
    ((whole : List Entry) → IsViewOf queries (take view.position whole) view →
    IsReply queries whole view.position ask ended text) →
    (ended_at ask view.position ≡ true →
    IsOver history.terms.streams lines view.position) →
    HasReply history lines (record { ask = ask; position = position; text = text })
reply_is history queries lines view ask position ended text same at ended_is told shows reads over =
    let whole = entries lines in
    let reply : IsReply queries whole view.position ask ended text = reads whole
    (subst (λ (qs : List Query). IsViewOf qs (take view.position whole) view) (sym same) shows) in
    record {
      within = omega (arith, shows.position, length-take view.position whole, at);
      text = subst (λ (e : Bool). IsReply history.terms.queries whole position ask e text) ended_is
          (subst (λ (n : ℕ). IsReply history.terms.queries whole n ask ended text) (sym at)
          (subst (λ (qs : List Query). IsReply qs whole view.position ask ended text) same reply));
      over = λ is. record {
        front = lines;
        begins = ([], sym (append-nil lines));
        at = at ∙ told;
        over = subst (λ (n : ℕ). IsOver history.terms.streams lines n) (sym at)
            (over (subst (λ (n : ℕ). ended_at ask n ≡ true) at is));
      };
    }
