-- The replies tell the answers.
use Rattle.std.proofs.Common.{◌≡◌, ℕ, zero, suc, Bool, true, false, List, [], ◌∷◌, ◌++◌, length}
use Rattle.std.proofs.Common.{map}
use Rattle.std.proofs.Common.{drop, take, get_or, Option, Some, None, codes, refl, sym, ap, ap₂}
use Rattle.std.proofs.Common.{subst, ◌∙◌}
use Rattle.std.proofs.Common.{arith, inl, inr, ⊎_elim, length-append, append_assoc}
use Rattle.std.specs.Prelude.{◌↔◌, IsSome, is_some, Contains, decimal, flat_map, slice_get}
use Rattle.std.specs.Prelude.{slice_index_or, zip}
use Rattle.std.specs.List.{AllZip}
use Rattle.std.proofs.Math.Seq.{drop-append_seam}
use Rattle.std.proofs.lemmas.Bool.{false≢true}
use Rattle.std.proofs.lemmas.List.{length-map}
use Rattle.std.proofs.lemmas.Option.{none-some, same_Some}
use Rattle.rpq_base.specs.Same.{same_name, same_pair}
use Rattle.rpq_base.specs.declared.data.Entry.{Entry}
use Rattle.rpq_base.specs.declared.data.Pair.{Pair as PairOf}
use Rattle.rpq_base.proofs.Equality.{pairs as pair_test}
use Rattle.rpq_base.proofs.Members.{cons_members, none_in}
use Rattle.rpq_base.proofs.Orders.{pair_cmp_total, pair_cmp_exact}
use Rattle.rpq_base.proofs.Sorted.{same_from_members}
use Rattle.rpq_model.specs.Answers.{IsAnswer, AreAnswers}
use Rattle.rpq_model.specs.Query.{Query, path_query}
use Rattle.rpq_model.specs.Window.{clock as clock_of}
use Rattle.answer_rows.specs.Answers.{Answer, pair, pair_of, pairs, until_of, end_of, row_of}
use Rattle.answer_rows.specs.Answers.{sources_of}
use Rattle.answer_rows.proofs.Ends.{ends_in_rows, rows_in_order, targets_tell}
use Rattle.answer_rows.specs.declared.target.Target.{Target}
use Rattle.answer_view.specs.View.{ViewValue, AreRowsOf, rows_at}
use Rattle.ask_text.specs.declared.ask.Ask.{Ask}
use Rattle.ask_text.specs.declared.ask.Ask.TheVariants.{Answers, From, Pair, Count, Until}
use Rattle.ask_text.specs.declared.ask.Ask.TheVariants.{Stats, Clock, Ends, To}
use Rattle.ask_text.specs.Reply.{name_at, pair_line, target_line, end_line, count_line}
use Rattle.ask_text.specs.Reply.{query_front, answers_text, from_text, ends_text, to_text}
use Rattle.ask_text.specs.Reply.{pair_text, yes_or_no, end_text, count_text, stats_text}
use Rattle.ask_text.specs.Reply.{clock_text, told, reply, IsReply}
use Rattle.ask_text.specs.Laws.{EndsWith, IsTold, targets, sources, TellsPair}
use Rattle.ask_text.specs.Laws.{TellsPairs, AreEndsFrom, RepliesTellAnswers}

-- ---- the query of a number, and its rows

rows_there : (queries : List Query) (rows : List (List Answer)) (history : List Entry) (number : ℕ)
    (query : Query) → slice_get queries number ≡ Some query →
    AllZip (λ each list. AreRowsOf (path_query each) history list) queries rows →
    AreRowsOf (path_query query) history (slice_index_or rows number [])
rows_there [] rows history number query e all = absurd (none-some query e)
rows_there (first ∷ queries) [] history number query e all = absurd all
rows_there (first ∷ queries) (row ∷ rows) history zero query e all =
    subst (λ (each : Query). AreRowsOf (path_query each) history row)
    (same_Some first query e) all.0
rows_there (first ∷ queries) (row ∷ rows) history (suc number) query e all =
    rows_there queries rows history number query e all.1

name_there : (queries : List Query) (number : ℕ) (query : Query) →
    slice_get queries number ≡ Some query → name_at queries number ≡ query.name
name_there [] number query e = absurd (none-some query e)
name_there (first ∷ queries) zero query e =
    ap (λ (each : Query). each.name) (same_Some first query e)
name_there (first ∷ queries) (suc number) query e = name_there queries number query e

-- ---- the rows hold the answers

-- a pair is among the rows where it has an end
pair_there : (rows : List Answer) (each : PairOf) →
    IsSome (until_of rows each) ↔ Contains (pairs rows) each
pair_there [] each = ((λ e. absurd (false≢true e)), (λ member. absurd (none_in each member)))
pair_there (first ∷ rows) each = by (same_pair (pair_of first) each) refl (pair_there rows each)
  where
    ends : same_pair (pair_of first) each ≡ false →
        is_some (until_of (first ∷ rows) each) ≡ is_some (until_of rows each)
    ends e = rw e refl

    by : (same : Bool) → same_pair (pair_of first) each ≡ same →
        IsSome (until_of rows each) ↔ Contains (pairs rows) each →
        IsSome (until_of (first ∷ rows) each) ↔ Contains (pairs (first ∷ rows)) each
    by true e later = (
      (λ some. (cons_members (pair_of first) (pairs rows) each).1
          (inl ((pair_test (pair_of first) each).0 e))),
      (λ member. rw e refl),
    )
    by false e later =
        let members = cons_members (pair_of first) (pairs rows) each in (
          (λ some. members.1 (inr (later.0 (sym (ends e) ∙ some)))),
          (λ member. ⊎_elim
              (λ same. absurd (false≢true (sym e ∙ (pair_test (pair_of first) each).1 same)))
              (λ there. ends e ∙ later.1 there) (members.0 member)),
        )

-- the rows hold exactly the answers of the query
abbrev HoldAnswers : Query → List Entry → List Answer → Type 0
HoldAnswers query history rows =
    (each : PairOf) → IsSome (until_of rows each) ↔ IsAnswer (path_query query) history each

answers_are_pairs : (query : Query) (history : List Entry) (rows : List Answer)
    (answers : List PairOf) → AreRowsOf (path_query query) history rows →
    HoldAnswers query history rows → AreAnswers (path_query query) history answers →
    pairs rows ≡ answers
answers_are_pairs query history rows answers are hold given =
    same_from_members pair_cmp_total pair_cmp_exact (pairs rows) answers are.sorted given.sorted
    (λ each. (
      (λ member. (given.exact each).1 ((hold each).0 ((pair_there rows each).1 member))),
      (λ member. (pair_there rows each).0 ((hold each).1 ((given.exact each).0 member))),
    ))

-- the row of a vertex, told by the pairs
row_is_targets : (rows : List Answer) (from : List ℕ) →
    map (λ (each : Target). each.to) (row_of rows from) ≡ targets from (pairs rows)
row_is_targets [] from = refl
row_is_targets (first ∷ rows) from = by (same_name first.from from) refl (row_is_targets rows from)
  where
    by : (same : Bool) → same_name first.from from ≡ same →
        map (λ (each : Target). each.to) (row_of rows from) ≡ targets from (pairs rows) →
        map (λ (each : Target). each.to) (row_of (first ∷ rows) from) ≡ targets from
        (pairs (first ∷ rows))
    by true e later = rw e (ap (λ (list : List (List ℕ)). first.to ∷ list) later)
    by false e later = rw e later

lines_of_targets : (row : List Target) →
    flat_map target_line row ≡ flat_map (λ (to : List ℕ). to ++ codes "\n")
    (map (λ (each : Target). each.to) row)
lines_of_targets [] = refl
lines_of_targets (first ∷ row) =
    ap (λ (text : List ℕ). target_line first ++ text) (lines_of_targets row)

-- ---- the ends of texts

-- texts that end with as many bytes end with the same
same_ends : (front last other more : List ℕ) → length last ≡ length more →
    front ++ last ≡ other ++ more → last ≡ more
same_ends front last other more same e =
    let fronts : length front ≡ length other =
    omega (arith, same, ap length e, length-append front last, length-append other more) in
    sym (drop-append_seam front last) ∙ ap (drop (length front)) e
    ∙ ap (λ n. drop n (other ++ more)) fronts ∙ drop-append_seam other more

no_is_no_yes : (front other : List ℕ) → front ++ codes " no\n" ≡ other ++ codes " yes\n" → ⊥
no_is_no_yes front other e =
    let last = same_ends front (codes " no\n") (other ++ codes " ") (codes "yes\n") refl
    (e ∙ sym (append_assoc other (codes " ") (codes "yes\n"))) in
    omega (arith, ap (λ (text : List ℕ). get_or text 0 0) last)

yes_is_no_no : (front other : List ℕ) → front ++ codes " yes\n" ≡ other ++ codes " no\n" → ⊥
yes_is_no_no front other e = no_is_no_yes other front (sym e)

-- how a text ends that says yes or no
says_yes : (holds : Bool) (text front : List ℕ) →
    text ≡ front ++ (codes " " ++ yes_or_no holds ++ codes "\n") →
    EndsWith text (codes " yes\n") ↔ (holds ≡ true)
says_yes true text front e = ((λ ends. refl), (λ is. (front, e)))
says_yes false text front e = (
  (λ ends. absurd (no_is_no_yes front ends.0 (sym e ∙ ends.1))),
  (λ is. absurd (false≢true is)),
)

says_no : (holds : Bool) (text front : List ℕ) →
    text ≡ front ++ (codes " " ++ yes_or_no holds ++ codes "\n") →
    EndsWith text (codes " no\n") ↔ (holds ≡ true → ⊥)
says_no true text front e = (
  (λ ends. absurd (yes_is_no_no front ends.0 (sym e ∙ ends.1))),
  (λ is. absurd (is refl)),
)
says_no false text front e = ((λ ends is. false≢true is), (λ is. (front, e)))

-- a reply, by what is told behind the position
told_last : (queries : List Query) (view : ViewValue) (ask : Ask) (ended : Bool) →
    reply queries view ask ended ≡ (codes "@" ++ decimal view.position) ++ (codes " " ++ told
    queries view ask ended)
unfolding reply
told_last queries view ask ended =
    append_assoc (codes "@" ++ decimal view.position) (codes " ") (told queries view ask ended)

-- a text about a pair, by what is said of it
said_last : (front word name from to said : List ℕ) →
    front ++ (codes " " ++ pair_text word name from to said)
    ≡ (front ++ (codes " " ++ (query_front word name ++ from ++ codes " " ++ to))) ++ (codes
    " " ++ said ++ codes "\n")
unfolding pair_text
said_last front word name from to said =
    let pair_front : List ℕ = query_front word name ++ from ++ codes " " ++ to in
    ap (λ (text : List ℕ). front ++ (codes " " ++ text))
    (ap (λ (text : List ℕ). text ++ codes "\n") (append_assoc pair_front (codes " ") said)
    ∙ append_assoc pair_front (codes " " ++ said) (codes "\n"))
    ∙ sym (append_assoc front (codes " " ++ pair_front) (codes " " ++ said ++ codes "\n"))

-- ---- what is told of a pair

-- the reply about a pair, by what is said of it
pair_front : List Query → ViewValue → List ℕ → ℕ → List ℕ → List ℕ → List ℕ
pair_front queries view word number from to =
    (codes "@" ++ decimal view.position)
    ++ (codes " " ++ (query_front word (name_at queries number) ++ from ++ codes " " ++ to))

told_pair : (queries : List Query) (view : ViewValue) (number : ℕ) (from to : List ℕ)
    (ended : Bool) →
    reply queries view (Pair number from to) ended
    ≡ pair_front queries view (codes "pair") number from to
    ++ (codes " " ++ yes_or_no (is_some (until_of (rows_at view number) (pair from to))) ++ codes
    "\n")
unfolding told pair_front
told_pair queries view number from to ended =
    told_last queries view (Pair number from to) ended
    ∙ said_last (codes "@" ++ decimal view.position) (codes "pair") (name_at queries number) from to
    (yes_or_no (is_some (until_of (rows_at view number) (pair from to))))

told_until : (queries : List Query) (view : ViewValue) (number : ℕ) (from to : List ℕ)
    (ended : Bool) →
    reply queries view (Until number from to) ended
    ≡ pair_front queries view (codes "until") number from to
    ++ (codes " " ++ end_text (until_of (rows_at view number) (pair from to)) ++ codes "\n")
unfolding told pair_front
told_until queries view number from to ended =
    told_last queries view (Until number from to) ended
    ∙ said_last (codes "@" ++ decimal view.position) (codes "until")
    (name_at queries number) from to
    (end_text (until_of (rows_at view number) (pair from to)))

-- the rows of the query in the view of a reply
rows_told : (queries : List Query) (history : List Entry) (position number : ℕ) (query : Query)
    (ask : Ask)
    (ended : Bool) (text : List ℕ) → slice_get queries number ≡ Some query →
    (is : IsReply queries history position ask ended text) →
    AreRowsOf (path_query query) (take position history) (rows_at is.view number)
rows_told queries history position number query ask ended text there is =
    rows_there queries is.view.rows (take position history) number query there is.is_view.rows

-- each list of rows of the query holds its answers
abbrev Held : Query → Type 0
Held query = (history : List Entry) (rows : List Answer) →
    AreRowsOf (path_query query) history rows → HoldAnswers query history rows

none_there : (found : Option ℕ) → (IsSome found → ⊥) → found ≡ None
none_there None never = refl
none_there (Some until) never = absurd (never refl)

tells_pair : (query : Query) → Held query → (queries : List Query) (history : List Entry)
    (position number : ℕ) (from to : List ℕ) → slice_get queries number ≡ Some query →
    TellsPair queries history position number query from to
tells_pair query held queries history position number from to there = record {
  yes = λ ended text is.
      let view = is.view in
      let holds = held (take position history) (rows_at view number)
      (rows_told queries history position number query (Pair number from to) ended text there is)
      (pair from to) in
      let says = says_yes (is_some (until_of (rows_at view number) (pair from to))) text
      (pair_front queries view (codes "pair") number from to)
      (is.is_text ∙ told_pair queries view number from to ended) in
      ((λ ends. holds.0 (says.0 ends)), (λ answer. says.1 (holds.1 answer)));
  no = λ ended text is.
      let view = is.view in
      let holds = held (take position history) (rows_at view number)
      (rows_told queries history position number query (Pair number from to) ended text there is)
      (pair from to) in
      let says = says_no (is_some (until_of (rows_at view number) (pair from to))) text
      (pair_front queries view (codes "pair") number from to)
      (is.is_text ∙ told_pair queries view number from to ended) in (
        (λ ends answer. says.0 ends (holds.1 answer)),
        (λ never. says.1 (λ some. never (holds.0 some))),
      );
  until = λ until lasts ended text is.
      let view = is.view in
      let are = rows_told queries history position number query
      (Until number from to) ended text there is in (
        pair_front queries view (codes "until") number from to,
        is.is_text ∙ told_until queries view number from to ended
            ∙ ap (λ (found : Option ℕ). pair_front queries view (codes "until") number from to
            ++ (codes " " ++ end_text found ++ codes "\n"))
            ((are.exact (pair from to) until).1 lasts),
      );
  none = λ never ended text is.
      let view = is.view in
      let holds = held (take position history) (rows_at view number)
      (rows_told queries history position number query (Until number from to) ended text there is)
      (pair from to) in (
        pair_front queries view (codes "until") number from to,
        is.is_text ∙ told_until queries view number from to ended
            ∙ ap (λ (found : Option ℕ). pair_front queries view (codes "until") number from to
            ++ (codes " " ++ end_text found ++ codes "\n"))
            (none_there (until_of (rows_at view number) (pair from to))
            (λ some. never (holds.0 some))),
      );
}

-- ---- what is told of all pairs

all_said : (name : List ℕ) (rows : List Answer) → codes " " ++ answers_text name rows
    ≡ query_front (codes " answers") name ++ decimal
    (length (pairs rows)) ++ codes "\n" ++ flat_map pair_line (pairs rows)
unfolding answers_text
all_said name rows =
    ap (λ (count : ℕ). query_front
    (codes " answers") name ++ decimal count ++ codes "\n" ++ flat_map pair_line (pairs rows))
    (sym (length-map rows pair_of))

count_said : (name : List ℕ) (rows : List Answer) → codes " " ++ count_text name (length rows)
    ≡ query_front (codes " count") name ++ decimal (length (pairs rows)) ++ codes "\n"
unfolding count_text
count_said name rows =
    ap (λ (count : ℕ). query_front (codes " count") name ++ decimal count ++ codes "\n")
    (sym (length-map rows pair_of))

row_said : (name from : List ℕ) (rows : List Answer) →
    codes " " ++ from_text name from (row_of rows from)
    ≡ query_front (codes " from") name ++ from ++ codes " " ++ decimal
    (length (targets from (pairs rows))) ++ codes "\n"
    ++ flat_map (λ (to : List ℕ). to ++ codes "\n") (targets from (pairs rows))
unfolding from_text
row_said name from rows =
    let row = row_of rows from in
    let reached = row_is_targets rows from in
    ap₂ (λ (count : ℕ) (lines : List ℕ). query_front
    (codes " from") name ++ from ++ codes " " ++ decimal count ++ codes "\n" ++ lines)
    (sym (length-map row (λ (each : Target). each.to))
    ∙ ap (λ (list : List (List ℕ)). length list) reached)
    (lines_of_targets row ∙ ap (λ (list : List (List ℕ)). flat_map
    (λ (to : List ℕ). to ++ codes "\n") list) reached)

column_is_sources : (rows : List Answer) (to : List ℕ) → sources_of rows to ≡ sources to (pairs rows)
column_is_sources [] to = refl
column_is_sources (first ∷ rows) to = by (same_name first.to to) refl (column_is_sources rows to)
  where
    by : (same : Bool) → same_name first.to to ≡ same → sources_of rows to ≡ sources to (pairs rows) →
        sources_of (first ∷ rows) to ≡ sources to (pairs (first ∷ rows))
    by true e later = rw e (ap (λ (list : List (List ℕ)). first.from ∷ list) later)
    by false e later = rw e later

column_said : (name to : List ℕ) (rows : List Answer) →
    codes " " ++ to_text name to (sources_of rows to)
    ≡ query_front (codes " to") name ++ to ++ codes " " ++ decimal
    (length (sources to (pairs rows))) ++ codes "\n"
    ++ flat_map (λ (from : List ℕ). from ++ codes "\n") (sources to (pairs rows))
unfolding to_text
column_said name to rows =
    ap (λ (list : List (List ℕ)). query_front (codes " to") name ++ to ++ codes " " ++ decimal
    (length list) ++ codes "\n" ++ flat_map (λ (from : List ℕ). from ++ codes "\n") list)
    (column_is_sources rows to)

-- the lines of the numbers of all queries
abbrev count_of : Query × List Answer → List ℕ
count_of each = count_line each.0.name (length each.1)

count_lines : List Query → List (List Answer) → List (List ℕ)
count_lines queries all = map count_of (zip queries all)

lines_joined : (lists : List (Query × List Answer)) →
    flat_map count_of lists ≡ flat_map (λ (line : List ℕ). line) (map count_of lists)
lines_joined [] = refl
lines_joined (first ∷ rest) = ap (λ (text : List ℕ). count_of first ++ text) (lines_joined rest)

lines_counted : (queries : List Query) (history : List Entry) (all : List (List Answer)) →
    AllZip (λ each list. AreRowsOf (path_query each) history list) queries all →
    length (count_lines queries all) ≡ length queries
unfolding count_lines
lines_counted [] history all are = refl
lines_counted (first ∷ queries) history [] are = absurd are
lines_counted (first ∷ queries) history (rows ∷ all) are =
    omega (arith, lines_counted queries history all are.1)

line_there : (queries : List Query) (history : List Entry) (all : List (List Answer)) (number : ℕ)
    (query : Query) → slice_get queries number ≡ Some query →
    AllZip (λ each list. AreRowsOf (path_query each) history list) queries all →
    slice_get (count_lines queries all) number
    ≡ Some (count_line query.name (length (slice_index_or all number [])))
unfolding count_lines
line_there [] history all number query e are = absurd (none-some query e)
line_there (first ∷ queries) history [] number query e are = absurd are
line_there (first ∷ queries) history (rows ∷ all) zero query e are =
    ap (λ (each : Query). Some (count_line each.name (length rows))) (same_Some first query e)
line_there (first ∷ queries) history (rows ∷ all) (suc number) query e are =
    line_there queries history all number query e are.1

-- the reply about the numbers of all queries
told_stats : (queries : List Query) (view : ViewValue) (ended : Bool) →
    reply queries view Stats ended
    ≡ (codes "@" ++ decimal view.position) ++ (codes " stats " ++ decimal (length queries)
    ++ codes "\n" ++ flat_map (λ (line : List ℕ). line) (count_lines queries view.rows))
unfolding told stats_text count_lines
told_stats queries view ended =
    told_last queries view Stats ended
    ∙ ap (λ (lines : List ℕ). (codes "@" ++ decimal view.position)
    ++ (codes " stats " ++ decimal (length queries) ++ codes "\n" ++ lines))
    (lines_joined (zip queries view.rows))

tells_pairs : (query : Query) → Held query → (queries : List Query) (history : List Entry)
    (position number : ℕ) (answers : List PairOf) → slice_get queries number ≡ Some query →
    AreAnswers (path_query query) (take position history) answers →
    TellsPairs queries history position number query answers
unfolding told
tells_pairs query held queries history position number answers there given = record {
  all = λ ended text is.
      by (Answers number) ended text is
      (λ name list. query_front (codes " answers") name ++ decimal
      (length list) ++ codes "\n" ++ flat_map pair_line list)
      (all_said (name_at queries number) (rows_at is.view number));
  count = λ ended text is.
      by (Count number) ended text is
      (λ name list. query_front (codes " count") name ++ decimal (length list) ++ codes "\n")
      (count_said (name_at queries number) (rows_at is.view number));
  stats = λ ended text is.
      let rows = rows_at is.view number in
      let are = rows_told queries history position number query Stats ended text there is in
      let count : length rows ≡ length answers =
      sym (length-map rows pair_of) ∙ ap (λ (list : List PairOf). length list)
      (answers_are_pairs query (take position history) rows answers are
      (held (take position history) rows are) given) in record {
        lines = count_lines queries is.view.rows;
        ends = (
          codes "@" ++ decimal is.view.position,
          is.is_text ∙ told_stats queries is.view ended,
        );
        each = lines_counted queries (take position history) is.view.rows is.is_view.rows;
        own = line_there queries (take position history) is.view.rows number query there
            is.is_view.rows
            ∙ ap (λ (n : ℕ). Some (count_line query.name n)) count;
      };
  row = λ from ended text is.
      by (From number from) ended text is
      (λ name list. query_front (codes " from") name ++ from ++ codes " " ++ decimal
      (length (targets from list))
      ++ codes "\n" ++ flat_map (λ (to : List ℕ). to ++ codes "\n") (targets from list))
      (row_said (name_at queries number) from (rows_at is.view number));
  column = λ to ended text is.
      by (To number to) ended text is
      (λ name list. query_front (codes " to") name ++ to ++ codes " " ++ decimal
      (length (sources to list))
      ++ codes "\n" ++ flat_map (λ (from : List ℕ). from ++ codes "\n") (sources to list))
      (column_said (name_at queries number) to (rows_at is.view number));
}
  where
    by : (ask : Ask) (ended : Bool) (text : List ℕ)
        (is : IsReply queries history position ask ended text)
        (say : List ℕ → List PairOf → List ℕ) →
        codes " " ++ told queries is.view ask ended ≡ say (name_at queries number)
        (pairs (rows_at is.view number)) →
        EndsWith text (say query.name answers)
    by ask ended text is say said =
        let are = rows_told queries history position number query ask ended text there is in
        let rows = rows_at is.view number in (
          codes "@" ++ decimal is.view.position,
          is.is_text ∙ told_last queries is.view ask ended
              ∙ ap (λ (last : List ℕ). (codes "@" ++ decimal is.view.position) ++ last)
              (said ∙ ap₂ say (name_there queries number query there)
              (answers_are_pairs query (take position history) rows answers are
              (held (take position history) rows are) given)),
        )

-- ---- what is told of the targets with their ends

-- options with the same values are equal
same_option : (first second : Option ℕ) →
    ((n : ℕ) → (first ≡ Some n) ↔ (second ≡ Some n)) → first ≡ second
same_option None None same = refl
same_option None (Some n) same = (same n).1 refl
same_option (Some n) second same = sym ((same n).0 refl)

-- targets with their ends are the row of their source
ends_are_row : (query : Query) (history : List Entry) (from : List ℕ) (row : List Target)
    (rows : List Answer) → AreEndsFrom (path_query query) history from row →
    AreRowsOf (path_query query) history rows → row_of rows from ≡ row
ends_are_row query history from row rows given are =
    targets_tell (row_of rows from) row (rows_in_order rows from are.sorted) given.sorted (λ to.
    sym (ends_in_rows rows (pair from to))
    ∙ same_option (until_of rows (pair from to)) (end_of row to) (λ until. (
      (λ e. (given.exact to until).1 ((are.exact (pair from to) until).0 e)),
      (λ e. (are.exact (pair from to) until).1 ((given.exact to until).0 e)),
    )))

ends_said : (name from : List ℕ) (row : List Target) → codes " " ++ ends_text name from row
    ≡ query_front (codes " ends") name ++ from ++ codes " " ++ decimal (length row)
    ++ codes "\n" ++ flat_map end_line row
unfolding ends_text
ends_said name from row = refl

tells_ends : (query : Query) (queries : List Query) (history : List Entry) (position number : ℕ)
    (from : List ℕ) (row : List Target) → slice_get queries number ≡ Some query →
    AreEndsFrom (path_query query) (take position history) from row →
    IsTold queries history position (Ends number from)
    (query_front (codes " ends") query.name ++ from ++ codes " " ++ decimal (length row)
    ++ codes "\n" ++ flat_map end_line row)
unfolding told
tells_ends query queries history position number from row there given ended text is =
    let are = rows_told queries history position number query (Ends number from) ended text there is in
    let rows = rows_at is.view number in (
      codes "@" ++ decimal is.view.position,
      is.is_text ∙ told_last queries is.view (Ends number from) ended
          ∙ ap (λ (last : List ℕ). (codes "@" ++ decimal is.view.position) ++ last)
          (ends_said (name_at queries number) from (row_of rows from)
          ∙ ap₂ (λ (name : List ℕ) (list : List Target). query_front (codes " ends") name ++ from
          ++ codes " " ++ decimal (length list) ++ codes "\n" ++ flat_map end_line list)
          (name_there queries number query there)
          (ends_are_row query (take position history) from row rows given are)),
    )

-- ---- what is told of the clock

tells_clock : (queries : List Query) (history : List Entry) (position : ℕ) →
    IsTold queries history position Clock
    (codes " clock " ++ decimal (clock_of (take position history)) ++ codes "\n")
unfolding told clock_text
tells_clock queries history position ended text is = (
  codes "@" ++ decimal is.view.position,
  is.is_text ∙ told_last queries is.view Clock ended
      ∙ ap (λ (clock : ℕ). (codes "@" ++ decimal is.view.position)
      ++ (codes " clock " ++ decimal clock ++ codes "\n")) is.is_view.clock,
)

pub replies_tell_answers : (query : Query) → Held query → RepliesTellAnswers query
replies_tell_answers query held = record {
  one = tells_pair query held;
  all = tells_pairs query held;
  ends = tells_ends query;
  clock = tells_clock;
}
