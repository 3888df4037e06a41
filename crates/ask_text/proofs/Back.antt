-- A file with the parts of sessions gives them.
use Rattle.std.proofs.Common.{◌≡◌, ℕ, ◌+◌, ◌<◌, ◌≤◌, Bool, true, false, not, ◌||◌, cond, Option}
use Rattle.std.proofs.Common.{Some, None, Ok, Err, List, [], ◌∷◌, ◌++◌, length, map}
use Rattle.std.proofs.Common.{filter, refl, sym, ap, ap₂, subst, ◌∙◌, arith, inl, inr}
use Rattle.std.proofs.Common.{length-append, append_assoc, append-nil}
use Rattle.std.specs.Prelude.{All, bytes_eq, codes}
use Rattle.std.specs.List.{AllZip}
use Rattle.std.specs.Result.{result_map_both}
use Rattle.std.proofs.lemmas.Bool.{cases_order, false≢true}
use Rattle.std.proofs.lemmas.List.Elements.{All-head, All-tail}
use Rattle.std.proofs.lemmas.Bool.{lt-leb}
use Rattle.std.proofs.lemmas.Slice.Eq.{bytes_eq-Decides}
use Rattle.text_parts.specs.Lines.{is_blank_line, is_comment, lines}
use Rattle.text_parts.specs.Fields.{fields}
use Rattle.text_parts.specs.Reading.{◌>>=◌}
use Rattle.text_parts.proofs.LineByLine.{from_first, from_none}
use Rattle.rpq_base.specs.Names.{IsName}
use Rattle.rpq_model.specs.Query.{Query, query_named}
use Rattle.ask_text.specs.declared.ask.Ask.{Ask}
use Rattle.ask_text.specs.declared.fault.AskFault.{AskFault}
use Rattle.ask_text.specs.declared.fault.AskKind.{AskKind}
use Rattle.ask_text.specs.declared.fault.AskKind.TheVariants.{UnknownQuery}
use Rattle.ask_text.specs.declared.ask.Ask.TheVariants.{Answers, From, Pair, Count, Wait, Until}
use Rattle.ask_text.specs.declared.ask.Ask.TheVariants.{Stats, Clock, Ends, To}
use Rattle.ask_text.specs.Reading.{vertex_of, position_of, ask_of_one, ask_of_two, vertex_at}
use Rattle.ask_text.specs.Reading.{ask_of_three, pair_of, ask_of_four, ask_of_fields}
use Rattle.ask_text.specs.Asks.{Sessions, all, with_current, none_yet, begun, grown, begins_session}
use Rattle.ask_text.specs.Asks.{after_fields, after_line, fault_at, line_step, gives, asks}
use Rattle.ask_text.specs.Parts.{names, IsFirstNamed, IsPositionText, IsAskOf, session_fields}
use Rattle.ask_text.specs.Ranges.{IsSession}
use Rattle.ask_text.specs.ByParts.{is_ask_line, Item, Begin, One, items, IsItemOf, AreSessionsOf}
use Rattle.ask_text.specs.ByParts.{HasFirstFault, AsksByParts}
use Rattle.ask_text.proofs.Steps.{QueryCase, known, unknown, query_case, VertexCase, vertex}
use Rattle.ask_text.proofs.Steps.{no_vertex, vertex_case, PositionCase, written, no_position}
use Rattle.ask_text.proofs.Steps.{position_case}
use Rattle.ask_text.proofs.AskCases.{contains_at}
use Rattle.ask_text.proofs.LineCases.{line_by_parts, BeginCase, begins, goes_on, begin_case}
use Rattle.ask_text.proofs.LineCases.{asked_so, asked_grown, goes_on_so}
use Rattle.ask_text.proofs.ByParts.{items_push, items_grow, parts_told, whole, whole_fault}

-- ---- an ask is read from its fields

-- a name is first at one place
first_once : (queries : List Query) (one two : ℕ) (name : List ℕ) → IsFirstNamed queries one name →
    IsFirstNamed queries two name → one ≡ two
first_once queries one two name a b = elim (cases_order one two) [
  | inl same ↦ same
  | inr differ ↦ elim differ [
    | inl less ↦ absurd (b.first one less a.has)
    | inr greater ↦ absurd
        (a.first two greater b.has)
  ]
]

query_read : (queries : List Query) (q : ℕ) (name : List ℕ) → IsFirstNamed queries q name →
    query_named UnknownQuery queries name ≡ Ok q
query_read queries q name is = by (query_case queries name)
  where
    by : QueryCase queries name → query_named UnknownQuery queries name ≡ Ok q
    by (known other first e) = e ∙ ap (λ n. Ok n) (first_once queries other q name first is)
    by (unknown none e) = absurd (none (contains_at (names queries) q name is.has))

vertex_read : (field : List ℕ) → IsName field → vertex_of field ≡ Ok field
vertex_read field is = by (vertex_case field)
  where
    by : VertexCase field → vertex_of field ≡ Ok field
    by (vertex named e) = e
    by (no_vertex none e) = absurd (none is)

position_read : (field : List ℕ) (number : ℕ) → IsPositionText number field →
    position_of field ≡ Ok number
position_read field number is = by (position_case field)
  where
    by : PositionCase field → position_of field ≡ Ok number
    by (written w e) = e ∙ ap (λ n. Ok n) is.value
    by (no_position none e) = absurd (none number is)

ask_read : (queries : List Query) (ask : Ask) (list : List (List ℕ)) → IsAskOf queries ask list →
    ask_of_fields queries list ≡ Ok ask
unfolding ask_of_fields ask_of_one ask_of_two ask_of_three ask_of_four vertex_at pair_of
ask_read queries (Answers q) list (name, is, first) = ap (ask_of_fields queries) is
    ∙ rw (query_read queries q name first) refl
ask_read queries (Count q) list (name, is, first) = ap (ask_of_fields queries) is
    ∙ rw (query_read queries q name first) refl
ask_read queries (Wait n) list (text, is, at) = ap (ask_of_fields queries) is
    ∙ rw (position_read text n at) refl
ask_read queries (From q from) list (name, is, first, named) = ap (ask_of_fields queries) is
    ∙ rw (query_read queries q name first, vertex_read from named) refl
ask_read queries (Ends q from) list (name, is, first, named) = ap (ask_of_fields queries) is
    ∙ rw (query_read queries q name first, vertex_read from named) refl
ask_read queries (To q to) list (name, is, first, named) = ap (ask_of_fields queries) is
    ∙ rw (query_read queries q name first, vertex_read to named) refl
ask_read queries Stats list is = ap (ask_of_fields queries) is
ask_read queries Clock list is = ap (ask_of_fields queries) is
ask_read queries (Pair q from to) list (name, is, first, named, also) =
    ap (ask_of_fields queries) is ∙ rw (
      query_read queries q name first,
      vertex_read from named,
      vertex_read to also,
    ) refl
ask_read queries (Until q from to) list (name, is, first, named, also) =
    ap (ask_of_fields queries) is ∙ rw (
      query_read queries q name first,
      vertex_read from named,
      vertex_read to also,
    ) refl

-- a word alone that isn't `session`
other_word : (word : List ℕ) (list : List (List ℕ)) → list ≡ word ∷ [] → bytes_eq word (codes "session") ≡ false →
    list ≡ session_fields → ⊥
other_word word list is differs e =
    let same : word ∷ [] ≡ session_fields = sym is ∙ e in
    false≢true (sym differs ∙ (bytes_eq-Decides word (codes "session")).1 cc)

-- an ask doesn't begin a session
ask_goes_on : (queries : List Query) (ask : Ask) (list : List (List ℕ)) → IsAskOf queries ask list →
    list ≡ session_fields → ⊥
ask_goes_on queries (Answers q) list (name, is, first) e = omega (arith, ap length (sym is ∙ e))
ask_goes_on queries (Count q) list (name, is, first) e = omega (arith, ap length (sym is ∙ e))
ask_goes_on queries (Wait n) list (text, is, at) e = omega (arith, ap length (sym is ∙ e))
ask_goes_on queries Stats list is e = other_word (codes "stats") list is refl e
ask_goes_on queries Clock list is e = other_word (codes "clock") list is refl e
ask_goes_on queries (Ends q from) list (name, is, first, named) e =
    omega (arith, ap length (sym is ∙ e))
ask_goes_on queries (To q to) list (name, is, first, named) e =
    omega (arith, ap length (sym is ∙ e))
ask_goes_on queries (From q from) list (name, is, first, named) e =
    omega (arith, ap length (sym is ∙ e))
ask_goes_on queries (Pair q from to) list (name, is, first, named, also) e =
    omega (arith, ap length (sym is ∙ e))
ask_goes_on queries (Until q from to) list (name, is, first, named, also) e =
    omega (arith, ap length (sym is ∙ e))

-- ---- sessions are known by their items

-- how many sessions begin
begun_in : List Item → ℕ
begun_in [] = 0
begun_in (Begin ∷ rest) = 1 + begun_in rest
begun_in (One ask ∷ rest) = begun_in rest

begun_append : (front rest : List Item) → begun_in (front ++ rest) ≡ begun_in front + begun_in rest
unfolding begun_in
begun_append [] rest = omega arith
begun_append (Begin ∷ front) rest = omega (arith, begun_append front rest)
begun_append (One ask ∷ front) rest = begun_append front rest

none_begun : (asks : List Ask) → begun_in (map (λ ask. One ask) asks) ≡ 0
unfolding begun_in
none_begun [] = refl
none_begun (ask ∷ asks) = none_begun asks

begun_items : (sessions : List (List Ask)) → begun_in (items sessions) ≡ length sessions
unfolding begun_in
begun_items [] = refl
begun_items (asks ∷ sessions) =
    let split = begun_append (map (λ ask. One ask) asks) (items sessions) in
    let none = none_begun asks in
    let later = begun_items sessions in
    omega (arith, split, none, later)

-- items that don't go on with an ask
abbrev StartsAnew : List Item → Type 0
StartsAnew list = (ask : Ask) (rest : List Item) → list ≡ One ask ∷ rest → ⊥

items_start : (sessions : List (List Ask)) → StartsAnew (items sessions)
items_start [] ask rest e = absurd cc
items_start (asks ∷ sessions) ask rest e = absurd cc

-- two lists of asks before such items are the same
same_asks : (one two : List Ask) (a b : List Item) → StartsAnew a → StartsAnew b →
    map (λ ask. One ask) one ++ a ≡ map (λ ask. One ask) two ++ b →
    (one ≡ two) × (a ≡ b)
same_asks [] [] a b na nb e = (refl, e)
same_asks [] (y ∷ two) a b na nb e = absurd (na y (map (λ ask. One ask) two ++ b) e)
same_asks (x ∷ one) [] a b na nb e = absurd (nb x (map (λ ask. One ask) one ++ a) (sym e))
same_asks (x ∷ one) (y ∷ two) a b na nb e =
    let (head, tail) = cons_same (One x) (One y) (map (λ ask. One ask) one ++ a)
    (map (λ ask. One ask) two ++ b) e in
    let (asks, rest) = same_asks one two a b na nb tail in
    (ap₂ (λ first more. first ∷ more) (one_same x y head) asks, rest)
  where
    one_same : (p q : Ask) → ◌≡◌ {A = Item} (One p) (One q) → p ≡ q
    one_same p q e = cc

    cons_same : (p q : Item) (ps qs : List Item) → p ∷ ps ≡ q ∷ qs → (p ≡ q) × (ps ≡ qs)
    cons_same p q ps qs e = (cc, cc)

-- the first item less
tail_same : (ps qs : List Item) → ◌≡◌ {A = List Item} (Begin ∷ ps) (Begin ∷ qs) → ps ≡ qs
tail_same ps qs e = cc

items_same : (one two : List (List Ask)) → items one ≡ items two → one ≡ two
items_same [] [] e = refl
items_same [] (y ∷ two) e = absurd cc
items_same (x ∷ one) [] e = absurd cc
items_same (x ∷ one) (y ∷ two) e =
    let (first, rest) = same_asks x y (items one) (items two) (items_start one) (items_start two)
    (tail_same (map (λ ask. One ask) x ++ items one) (map (λ ask. One ask) y ++ items two) e) in
    ap₂ (λ a b. a ∷ b) first (items_same one two rest)

-- asks that go on further are more
longer_asks : (asks more : List Ask) (ask : Ask) (rest a : List Item) → StartsAnew a →
    map (λ each. One each) more ++ a ≡ map (λ each. One each) asks ++ One ask ∷ rest →
    length asks < length more
longer_asks [] [] ask rest a na e = absurd (na ask rest e)
longer_asks [] (y ∷ more) ask rest a na e = omega arith
longer_asks (x ∷ asks) [] ask rest a na e =
    absurd (na x (map (λ each. One each) asks ++ One ask ∷ rest) e)
longer_asks (x ∷ asks) (y ∷ more) ask rest a na e =
    omega (arith, longer_asks asks more ask rest a na (cut e))
  where
    cut : ◌≡◌ {A = List Item} (One y ∷ map (λ each. One each) more ++ a)
        (One x ∷ map (λ each. One each) asks ++ One ask ∷ rest) →
        map (λ each. One each) more ++ a ≡ map (λ each. One each) asks ++ One ask ∷ rest
    cut e = cc

-- a session that gets one more ask is among the sessions, and longer
room_for : (over sessions : List (List Ask)) (asks : List Ask) (ask : Ask) (rest : List Item)
    (queries : ℕ) → All (IsSession queries) sessions →
    items sessions ≡ items over ++ (Begin ∷ (map (λ each. One each) asks ++ One ask ∷ rest)) →
    length asks < 1024
room_for [] [] asks ask rest queries few e = absurd cc
room_for [] (first ∷ sessions) asks ask rest queries few e =
    let longer = longer_asks asks first ask rest (items sessions) (items_start sessions)
    (tail_same (map (λ each. One each) first ++ items sessions)
    (map (λ each. One each) asks ++ One ask ∷ rest) e) in
    let bound = (All-head (IsSession queries) first sessions few).few in
    omega (arith, longer, bound)
room_for (o ∷ over) [] asks ask rest queries few e = absurd cc
room_for (o ∷ over) (first ∷ sessions) asks ask rest queries few e =
    let (same, later) = same_asks first o (items sessions)
    (items over ++ (Begin ∷ (map (λ each. One each) asks ++ One ask ∷ rest)))
    (items_start sessions) (anew over)
    (tail_same (map (λ each. One each) first ++ items sessions)
    (map (λ each. One each) o ++ (items
    over ++ (Begin ∷ (map (λ each. One each) asks ++ One ask ∷ rest))))
    (e ∙ append_assoc (Begin ∷ map (λ each. One each) o) (items over)
    (Begin ∷ (map (λ each. One each) asks ++ One ask ∷ rest)))) in
    room_for over sessions asks ask rest queries
    (All-tail (IsSession queries) first sessions few) later
  where
    anew : (list : List (List Ask)) →
        StartsAnew (items list ++ (Begin ∷ (map (λ each. One each) asks ++ One ask ∷ rest)))
    anew [] x more e = absurd cc
    anew (y ∷ list) x more e = absurd cc

head_same : (a b : List Ask) (ps qs : List (List Ask)) →
    ◌≡◌ {A = List (List Ask)} (a ∷ ps) (b ∷ qs) → a ≡ b
head_same a b ps qs e = cc

rest_same : (a b : List Ask) (ps qs : List (List Ask)) →
    ◌≡◌ {A = List (List Ask)} (a ∷ ps) (b ∷ qs) → ps ≡ qs
rest_same a b ps qs e = cc

begun_room : (before : List (List Ask)) (more : List Item) (found : List (List Ask)) →
    length found ≤ 64 → items found ≡ items before ++ Begin ∷ more → length before < 64
unfolding begun_in
begun_room before more found few is =
    let all_begun = sym (begun_items found) ∙ ap begun_in is
    ∙ begun_append (items before) (Begin ∷ more) in
    let before_begun = begun_items before in
    omega (arith, few, all_begun, before_begun)

-- ---- lines

-- a session that goes on, or none at all
abbrev IsReached : Sessions → Type 0
IsReached sessions = sessions.current ≡ None → sessions.over ≡ []

begun_so : (queries : List Query) (sessions : Sessions) (list : List (List ℕ)) →
    list ≡ session_fields → length (all sessions) < 64 →
    after_fields queries sessions list ≡ Ok (record { over = all sessions; current = Some [] })
unfolding after_fields begins_session begun
begun_so queries sessions list e room = ap (after_fields queries sessions) e
    ∙ rw (lt-leb 64 (length (all sessions)) room) refl

grown_so : (queries : List Query) (sessions : Sessions) (list : List (List ℕ)) (asks : List Ask)
    (ask : Ask) → sessions.current ≡ Some asks →
    IsAskOf queries ask list → length asks < 1024 →
    after_fields queries sessions
    list ≡ Ok (record { over = sessions.over; current = Some (asks ++ ask ∷ []) })
grown_so queries sessions list asks ask is of room = by (begin_case list)
  where
    by : BeginCase list → after_fields queries sessions
        list ≡ Ok (record { over = sessions.over; current = Some (asks ++ ask ∷ []) })
    by (begins e) = absurd (ask_goes_on queries ask list of e)
    by (goes_on differs e) =
        goes_on_so queries sessions list (Some asks) e is ∙ asked_so queries sessions.over asks list
        ∙ ap (λ r. r >>= grown sessions.over asks) (ask_read queries ask list of)
        ∙ asked_grown sessions.over asks ask room

line_passed : (queries : List Query) (sessions : Sessions) (line : List ℕ) →
    (is_blank_line line || is_comment line) ≡ true → after_line queries sessions line ≡ Ok sessions
unfolding after_line
line_passed queries sessions line e =
    ap (λ b. cond b (Ok sessions) (after_fields queries sessions (fields line))) e

line_read : (queries : List Query) (sessions : Sessions) (line : List ℕ) →
    (is_blank_line line || is_comment line) ≡ false →
    after_line queries sessions line ≡ after_fields queries sessions (fields line)
unfolding after_line
line_read queries sessions line e =
    ap (λ b. cond b (Ok sessions) (after_fields queries sessions (fields line))) e

one_line : (queries : List Query) (sessions next : Sessions) (count : ℕ) (line : List ℕ)
    (rest : List (List ℕ)) → after_line queries sessions line ≡ Ok next →
    gives queries sessions count (line ∷ rest) ≡ gives queries next (count + 1) rest
one_line queries sessions next count line rest e =
    from_first (line_step queries) count sessions line rest (Ok next)
    (ap (result_map_both (λ (n : Sessions). n) (fault_at (count + 1))) e)

-- the lines that are left give the sessions whose items they are
abbrev Remain : List Query → Sessions → List (List ℕ) → List (List Ask) → Type 0
Remain queries sessions rest found =
    (more : List Item) × AllZip (IsItemOf queries)
    (filter is_ask_line rest) more × (items found ≡ items (all sessions) ++ more)

all_is : (sessions : Sessions) (asks : List Ask) → sessions.current ≡ Some asks →
    all sessions ≡ sessions.over ++ asks ∷ []
all_is sessions asks is = ap (with_current sessions.over) is

none_is : (sessions : Sessions) → IsReached sessions → sessions.current ≡ None → all sessions ≡ []
none_is sessions reached is = ap (with_current sessions.over) is ∙ reached is

no_first_ask : (found : List (List Ask)) (ask : Ask) (more : List Item) →
    items found ≡ [] ++ One ask ∷ more → ⊥
no_first_ask found ask more e = items_start found ask more e

-- the sessions that stand after some lines, whatever follows
record LeadsTo (queries : List Query) (sessions : Sessions) (count : ℕ) (front : List (List ℕ))
    (found : List (List Ask)) : Type 0 where
  last : Sessions
  reached : IsReached last
  all_found : all last ≡ found
  gives_so : (rest : List (List ℕ)) →
      gives queries sessions count (front ++ rest) ≡ gives queries last (count + length front) rest

leads_on : (queries : List Query) (sessions next : Sessions) (count : ℕ) (line : List ℕ)
    (front : List (List ℕ)) (found : List (List Ask)) → after_line queries sessions line ≡ Ok next →
    LeadsTo queries next (count + 1) front found →
    LeadsTo queries sessions count (line ∷ front) found
leads_on queries sessions next count line front found e later = record {
  last = later.last;
  reached = later.reached;
  all_found = later.all_found;
  gives_so = λ rest.
      let counted : count + 1 + length front ≡ count + length (line ∷ front) = omega arith in
      one_line queries sessions next count line (front ++ rest) e ∙ later.gives_so rest
      ∙ ap (λ n. gives queries later.last n rest) counted;
}

reads_on : (front : List (List ℕ)) (queries : List Query) (sessions : Sessions) (count : ℕ)
    (found : List (List Ask)) → IsReached sessions →
    length found ≤ 64 → All (IsSession (length queries)) found →
    Remain queries sessions front found → LeadsTo queries sessions count front found
reads_on [] queries sessions count found reached few each ([], zip, is) = record {
  last = sessions;
  reached = reached;
  all_found = sym (items_same found (all sessions) (is ∙ append-nil (items (all sessions))));
  gives_so = λ rest. let counted : count ≡ count + 0 = omega arith in
      ap (λ n. gives queries sessions n rest) counted;
}
reads_on [] queries sessions count found reached few each (one ∷ more, zip, is) = absurd zip
reads_on (line ∷ front) queries sessions count found reached few each left =
    by (is_blank_line line || is_comment line) refl left
    (λ next ready still. reads_on front queries next (count + 1) found ready few each still)
  where
    Later : Type 0
    Later = (next : Sessions) → IsReached next → Remain queries next front found →
        LeadsTo queries next (count + 1) front found

    never : (asks : List Ask) → ◌≡◌ {A = Option (List Ask)} (Some asks) None → ⊥
    never asks e = absurd cc

    with_ask : (ask : Ask) (more : List Item) → (is_blank_line line || is_comment line) ≡ false →
        IsAskOf queries ask (fields line) →
        AllZip (IsItemOf queries) (filter is_ask_line front) more →
        items found ≡ items (all sessions) ++ One ask ∷ more → Later →
        (current : Option (List Ask)) → sessions.current ≡ current →
        LeadsTo queries sessions count (line ∷ front) found
    with_ask ask more e of zip is later None none =
        absurd (no_first_ask found ask more
        (is ∙ ap (λ (l : List (List Ask)). items l ++ One ask ∷ more)
        (none_is sessions reached none)))
    with_ask ask more e of zip is later (Some asks) some =
        let before : items (all sessions) ≡ items (sessions.over ++ asks ∷ []) =
        ap (λ (l : List (List Ask)). items l) (all_is sessions asks some) in
        let split : items found ≡ items
        sessions.over ++ (Begin ∷ (map (λ each. One each) asks ++ One ask ∷ more)) = is
        ∙ ap (λ l. l ++ One ask ∷ more) (before ∙ items_push sessions.over asks)
        ∙ append_assoc (items sessions.over) (Begin ∷ map (λ each. One each) asks)
        (One ask ∷ more) in
        let room = room_for sessions.over found asks ask more (length queries) each split in
        let next : Sessions = record { over = sessions.over; current = Some (asks ++ ask ∷ []) } in
        leads_on queries sessions next count line front found
        (line_read queries sessions line e
        ∙ grown_so queries sessions (fields line) asks ask some of room)
        (later next (λ none. absurd (never (asks ++ ask ∷ []) none)) (
          more,
          zip,
          is ∙ ap (λ l. l ++ One ask ∷ more) before
              ∙ sym (append_assoc (items (sessions.over ++ asks ∷ [])) (One ask ∷ []) more)
              ∙ ap (λ l. l ++ more) (sym (items_grow sessions.over asks ask)),
        ))

    taken : (more : List Item) → (is_blank_line line || is_comment line) ≡ false →
        AllZip (IsItemOf queries) (line ∷ filter is_ask_line front) more →
        items found ≡ items (all sessions) ++ more → Later →
        LeadsTo queries sessions count (line ∷ front) found
    taken [] e zip is later = absurd zip
    taken (Begin ∷ more) e zip is later =
        let room : length (all sessions) < 64 = begun_room (all sessions) more found few is in
        let next : Sessions = record { over = all sessions; current = Some [] } in
        leads_on queries sessions next count line front found
        (line_read queries sessions line e ∙ begun_so queries sessions (fields line) zip.0 room)
        (later next (λ none. absurd (never [] none)) (
          more,
          zip.1,
          is ∙ sym (append_assoc (items (all sessions)) (Begin ∷ []) more)
              ∙ ap (λ l. l ++ more) (sym (items_push (all sessions) [])),
        ))
    taken (One ask ∷ more) e zip is later =
        with_ask ask more e zip.0 zip.1 is later sessions.current refl

    by : (nothing : Bool) → (is_blank_line line || is_comment line) ≡ nothing →
        Remain queries sessions (line ∷ front) found → Later →
        LeadsTo queries sessions count (line ∷ front) found
    by true e (more, zip, is) later =
        leads_on queries sessions sessions count line front found
        (line_passed queries sessions line e)
        (later sessions reached (
          more,
          subst (λ l. AllZip (IsItemOf queries) l more)
              (ap (λ b. cond (not b) (line ∷ filter is_ask_line front) (filter is_ask_line front))
              e)
              zip,
          is,
        ))
    by false e (more, zip, is) later =
        taken more e (subst (λ l. AllZip (IsItemOf queries) l more)
        (ap (λ b. cond (not b) (line ∷ filter is_ask_line front) (filter is_ask_line front)) e)
        zip) is later

-- the sessions of a front
front_leads : (queries : List Query) (front : List (List ℕ)) (found : List (List Ask)) →
    AreSessionsOf queries front found → LeadsTo queries none_yet 0 front found
front_leads queries front found are =
    reads_on front queries none_yet 0 found (λ none. refl) are.few are.each_few
    (items found, are.each, refl)

sessions_are_read : (queries : List Query) (bytes : List ℕ) (sessions : List (List Ask)) →
    AreSessionsOf queries (lines bytes) sessions →
    asks queries bytes ≡ Ok sessions
sessions_are_read queries bytes sessions are =
    let leads = front_leads queries (lines bytes) sessions are in
    let reached_all : gives queries none_yet 0 (lines bytes) ≡ Ok leads.last =
    ap (gives queries none_yet 0) (sym (append-nil (lines bytes))) ∙ leads.gives_so []
    ∙ from_none (line_step queries) (0 + length (lines bytes)) leads.last in
    whole queries bytes none_yet leads.last refl reached_all
    ∙ ap (λ list. Ok list) leads.all_found

-- sessions that are reached are known by all of them
push_same : (one two : List (List Ask)) (x y : List Ask) → one ++ x ∷ [] ≡ two ++ y ∷ [] →
    (one ≡ two) × (x ≡ y)
push_same [] [] x y e = (refl, head_same x y [] [] e)
push_same [] (b ∷ two) x y e = absurd (omega (arith, ap length e, length-append two (y ∷ [])))
push_same (a ∷ one) [] x y e = absurd (omega (arith, ap length e, length-append one (x ∷ [])))
push_same (a ∷ one) (b ∷ two) x y e =
    let both = push_same one two x y (rest_same a b (one ++ x ∷ []) (two ++ y ∷ []) e) in (
      ap₂ (λ first more. first ∷ more)
          (head_same a b (one ++ x ∷ []) (two ++ y ∷ []) e) both.0,
      both.1,
    )

reached_same : (one two : Sessions) → IsReached one → IsReached two → all one ≡ all two → one ≡ two
reached_same one two r s e = by one.current two.current refl refl
  where
    longer : (over : List (List Ask)) (asks : List Ask) → over ++ asks ∷ [] ≡ [] → ⊥
    longer over asks e = omega (arith, ap length e, length-append over (asks ∷ []))

    made : one.over ≡ two.over → one.current ≡ two.current → one ≡ two
    made o c = ap₂ (λ (over : List (List Ask)) (current : Option (List Ask)).
        record { over = over; current = current }) o c

    by : (a b : Option (List Ask)) → one.current ≡ a → two.current ≡ b → one ≡ two
    by None None p q = made (r p ∙ sym (s q)) (p ∙ sym q)
    by None (Some y) p q = absurd (longer two.over y
        (sym (all_is two y q) ∙ sym e ∙ none_is one r p))
    by (Some x) None p q = absurd (longer one.over x (sym (all_is one x p) ∙ e ∙ none_is two s q))
    by (Some x) (Some y) p q =
        let both = push_same one.over two.over x y (sym (all_is one x p) ∙ e ∙ all_is two y q) in
        made both.0 (p ∙ ap (λ (l : List Ask). Some l) both.1 ∙ sym q)

-- a line with a first fault refuses the file
faulty_line : (queries : List Query) (sessions : Sessions) (count : ℕ) (line : List ℕ)
    (rest : List (List ℕ)) (kind : AskKind) → after_line queries sessions line ≡ Err kind →
    gives queries sessions count (line ∷ rest) ≡ Err (fault_at (count + 1) kind)
faulty_line queries sessions count line rest kind e =
    from_first (line_step queries) count sessions line rest (Err (fault_at (count + 1) kind))
    (ap (result_map_both (λ (n : Sessions). n) (fault_at (count + 1))) e)

ask_line_reads : (line : List ℕ) → is_ask_line line ≡ true →
    (is_blank_line line || is_comment line) ≡ false
ask_line_reads line e = by (is_blank_line line || is_comment line) refl
  where
    by : (nothing : Bool) → (is_blank_line line || is_comment line) ≡ nothing →
        (is_blank_line line || is_comment line) ≡ false
    by true n = absurd (false≢true (ap not (sym n) ∙ e))
    by false n = n

fault_is_told : (queries : List Query) (bytes : List ℕ) (fault : AskFault) →
    HasFirstFault queries (lines bytes) fault → asks queries bytes ≡ Err fault
fault_is_told queries bytes fault has =
    let leads = front_leads queries has.front (all has.sessions) has.good in
    let same : leads.last ≡ has.sessions =
    reached_same leads.last has.sessions leads.reached has.reached leads.all_found in
    let refused : after_line queries has.sessions has.line ≡ Err fault.kind =
    line_read queries has.sessions has.line (ask_line_reads has.line has.is_one)
    ∙ ((line_by_parts queries has.sessions (fields has.line)).fault fault.kind).1 has.first in
    let number : 0 + length has.front + 1 ≡ fault.line = omega (arith, has.number) in
    let refuses : gives queries none_yet 0 (lines bytes) ≡ Err fault =
    ap (gives queries none_yet 0) has.split ∙ leads.gives_so (has.line ∷ has.rest)
    ∙ ap (λ (s : Sessions). gives queries s (0 + length has.front) (has.line ∷ has.rest)) same
    ∙ faulty_line queries has.sessions (0 + length has.front) has.line has.rest fault.kind refused
    ∙ ap (λ (n : ℕ). Err (fault_at n fault.kind)) number in
    whole_fault queries bytes none_yet fault refl refuses

pub asks_by_parts : AsksByParts
asks_by_parts = record {
  ok = λ queries bytes sessions.
      (parts_told.ok queries bytes sessions, sessions_are_read queries bytes sessions);
  err = λ queries bytes fault. (
    parts_told.err queries bytes fault,
    fault_is_told queries bytes
        fault,
  );
}
