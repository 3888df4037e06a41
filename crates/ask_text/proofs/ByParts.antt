-- What a file gives is known by its parts.
use Rattle.std.proofs.Common.{◌≡◌, ℕ, ◌+◌, Bool, true, false, not, ◌||◌, cond, Option, Some, None}
use Rattle.std.proofs.Common.{Result, Ok, Err, List, [], ◌∷◌, ◌++◌, length, map}
use Rattle.std.proofs.Common.{filter, refl, sym, ap, subst, ◌∙◌, arith, inl, inr}
use Rattle.std.proofs.Common.{append_assoc, append-nil}
use Rattle.std.specs.List.{AllZip}
use Rattle.std.proofs.lemmas.List.Elements.{All-nil, filter-append}
use Rattle.text_parts.specs.Lines.{is_blank_line, is_comment, lines}
use Rattle.text_parts.specs.Fields.{fields}
use Rattle.text_parts.specs.Reading.{◌>>=◌, StopsAt}
use Rattle.text_parts.proofs.LineByLine.{same_ok, ok_no_err, bind_ok, mapped_err, taken, refused}
use Rattle.text_parts.proofs.LineByLine.{holds_at_end, stops_at}
use Rattle.rpq_model.specs.Query.{Query}
use Rattle.ask_text.specs.declared.ask.Ask.{Ask}
use Rattle.ask_text.specs.declared.fault.AskFault.{AskFault}
use Rattle.ask_text.specs.declared.fault.AskKind.{AskKind}
use Rattle.ask_text.specs.Asks.{Sessions, all, with_current, none_yet, after_fields, after_line}
use Rattle.ask_text.specs.Asks.{fault_at, line_step, gives, asks}
use Rattle.ask_text.specs.Parts.{IsFirstFault, IsAfter}
use Rattle.ask_text.specs.Ranges.{IsSession}
use Rattle.ask_text.specs.ByParts.{is_ask_line, Begin, One, items, IsItemOf, AreSessionsOf}
use Rattle.ask_text.specs.ByParts.{HasFirstFault}
use Rattle.ask_text.specs.Laws.{SessionsAreFew}
use Rattle.ask_text.proofs.LineCases.{line_by_parts}
use Rattle.ask_text.proofs.Ranged.{Ranged, all_ranged, ranged_next}

-- one element more
zip_push : {A B : Type 0} (R : A → B → Type 0) (xs : List A) (ys : List B) (x : A) (y : B) →
    AllZip R xs ys → R x y → AllZip R (xs ++ x ∷ []) (ys ++ y ∷ [])
zip_push R [] [] x y all one = (one, tt)
zip_push R [] (b ∷ ys) x y all one = absurd all
zip_push R (a ∷ xs) [] x y all one = absurd all
zip_push R (a ∷ xs) (b ∷ ys) x y all one = (all.0, zip_push R xs ys x y all.1 one)

-- the items of one session more, and of one ask more
pub items_push : (over : List (List Ask)) (asks : List Ask) →
    items (over ++ asks ∷ []) ≡ items over ++ Begin ∷ map (λ ask. One ask) asks
items_push [] asks = append-nil (Begin ∷ map (λ ask. One ask) asks)
items_push (first ∷ over) asks =
    ap (λ l. (Begin ∷ map (λ ask. One ask) first) ++ l) (items_push over asks)
    ∙ sym (append_assoc (Begin ∷ map (λ ask. One ask) first) (items over)
    (Begin ∷ map (λ ask. One ask) asks))

map_push : (asks : List Ask) (ask : Ask) →
    map (λ each. One each) (asks ++ ask ∷ []) ≡ map (λ each. One each) asks ++ One ask ∷ []
map_push [] ask = refl
map_push (first ∷ asks) ask = ap (λ l. One first ∷ l) (map_push asks ask)

pub items_grow : (over : List (List Ask)) (asks : List Ask) (ask : Ask) →
    items (over ++ (asks ++ ask ∷ []) ∷ []) ≡ items (over ++ asks ∷ []) ++ One ask ∷ []
items_grow over asks ask =
    items_push over (asks ++ ask ∷ []) ∙ ap (λ l. items over ++ Begin ∷ l) (map_push asks ask)
    ∙ sym (append_assoc (items over) (Begin ∷ map (λ each. One each) asks) (One ask ∷ []))
    ∙ ap (λ l. l ++ One ask ∷ []) (sym (items_push over asks))

-- the sessions so far are those of the lines so far
record Stands (queries : List Query) (front : List (List ℕ)) (sessions : Sessions) : Type 0 where
  reached : sessions.current ≡ None → sessions.over ≡ []
  ranged : Ranged (length queries) sessions
  each : AllZip (IsItemOf queries) (filter is_ask_line front) (items (all sessions))

stands_for : (queries : List Query) (front : List (List ℕ)) (sessions : Sessions) →
    Stands queries front sessions → AreSessionsOf queries front (all sessions)
stands_for queries front sessions s = record {
  few = s.ranged.few;
  each_few = all_ranged (length queries) sessions.over sessions.current s.ranged.over
      s.ranged.current;
  each = s.each;
}

-- what a line with fields adds
adds : (queries : List Query) (front : List (List ℕ)) (line : List ℕ) (sessions next : Sessions) →
    is_ask_line line ≡ true → Stands queries front sessions →
    IsAfter queries sessions (fields line) next → Stands queries (front ++ line ∷ []) next
adds queries front line sessions next e s after = record {
  reached = still after;
  ranged = ranged_next queries sessions next (fields line) s.ranged after;
  each = subst (λ l. AllZip (IsItemOf queries) l (items (all next)))
      (sym (filter-append is_ask_line front (line ∷ [])
      ∙ ap (λ b. filter is_ask_line front ++ cond b (line ∷ []) []) e)) (by after);
}
  where
    some_none : (asks : List Ask) → ◌≡◌ {A = Option (List Ask)} (Some asks) None → ⊥
    some_none asks e = absurd cc

    still : IsAfter queries sessions (fields line) next → next.current ≡ None → next.over ≡ []
    still (inl (is, room, same)) none =
        absurd (some_none [] (sym (ap (λ (n : Sessions). n.current) same) ∙ none))
    still (inr (ask, asks, of, is, room, same)) none =
        absurd (some_none (asks ++ ask ∷ []) (sym (ap (λ (n : Sessions). n.current) same) ∙ none))

    by : IsAfter queries sessions (fields line) next →
        AllZip (IsItemOf queries) (filter is_ask_line front ++ line ∷ []) (items (all next))
    by (inl (is, room, same)) =
        subst (λ (n : Sessions). AllZip (IsItemOf queries) (filter is_ask_line front ++ line ∷ [])
        (items (all n))) (sym same)
        (subst (AllZip (IsItemOf queries) (filter is_ask_line front ++ line ∷ []))
        (sym (items_push (all sessions) []))
        (zip_push (IsItemOf queries) (filter is_ask_line front)
        (items (all sessions)) line Begin s.each is))
    by (inr (ask, asks, of, is, room, same)) =
        let before : items (all sessions) ≡ items (sessions.over ++ asks ∷ []) =
        ap (λ (c : Option (List Ask)). items (with_current sessions.over c)) is in
        subst (λ (n : Sessions). AllZip (IsItemOf queries) (filter is_ask_line front ++ line ∷ [])
        (items (all n))) (sym same)
        (subst (AllZip (IsItemOf queries) (filter is_ask_line front ++ line ∷ []))
        (sym (items_grow sessions.over asks ask))
        (zip_push (IsItemOf queries) (filter is_ask_line front)
        (items (sessions.over ++ asks ∷ [])) line (One ask)
        (subst (AllZip (IsItemOf queries) (filter is_ask_line front)) before s.each) of))

-- a line that is passed over
passes : (queries : List Query) (front : List (List ℕ)) (line : List ℕ) (sessions : Sessions) →
    is_ask_line line ≡ false → Stands queries front sessions →
    Stands queries (front ++ line ∷ []) sessions
passes queries front line sessions e s = record {
  reached = s.reached;
  ranged = s.ranged;
  each = subst (λ l. AllZip (IsItemOf queries) l (items (all sessions)))
      (sym (filter-append is_ask_line front (line ∷ [])
      ∙ ap (λ b. filter is_ask_line front ++ cond b (line ∷ []) []) e
      ∙ append-nil (filter is_ask_line front))) s.each;
}

-- a line without a fault keeps this
keeps : (queries : List Query) (front : List (List ℕ)) (line : List ℕ)
    (sessions next : Sessions) → Stands queries front sessions →
    after_line queries sessions line ≡ Ok next → Stands queries (front ++ line ∷ []) next
unfolding after_line
keeps queries front line sessions next s e = by (is_blank_line line || is_comment line) refl e
  where
    by : (nothing : Bool) → (is_blank_line line || is_comment line) ≡ nothing →
        cond nothing (Ok sessions) (after_fields queries sessions (fields line)) ≡ Ok next →
        Stands queries (front ++ line ∷ []) next
    by true is e = subst (Stands queries (front ++ line ∷ [])) (same_ok sessions next e)
        (passes queries front line sessions (ap not is) s)
    by false is e = adds queries front line sessions next (ap not is) s
        ((line_by_parts queries sessions (fields line)).good next e)

-- a line with a fault
faulty : (queries : List Query) (line : List ℕ) (sessions : Sessions) (kind : AskKind) →
    after_line queries sessions line ≡ Err kind →
    (is_ask_line line ≡ true) × IsFirstFault queries sessions (fields line) kind
unfolding after_line
faulty queries line sessions kind e = by (is_blank_line line || is_comment line) refl e
  where
    by : (nothing : Bool) → (is_blank_line line || is_comment line) ≡ nothing →
        cond nothing (Ok sessions) (after_fields queries sessions (fields line)) ≡ Err kind →
        (is_ask_line line ≡ true) × IsFirstFault queries sessions (fields line) kind
    by true is e = absurd (ok_no_err sessions kind e)
    by false is e = (ap not is, ((line_by_parts queries sessions (fields line)).fault kind).0 e)

at_first : (queries : List Query) → Stands queries [] none_yet
at_first queries = record {
  reached = λ none. refl;
  ranged = record {
    few = omega arith;
    over = All-nil (IsSession (length queries));
    current =
        λ found none. absurd (nothing found none);
  };
  each = tt;
}
  where
    nothing : (found : List Ask) → ◌≡◌ {A = Option (List Ask)} None (Some found) → ⊥
    nothing found e = absurd cc

-- one way of the law
pub record Tells : Type 0 where
  pub ok : (queries : List Query) (bytes : List ℕ) (sessions : List (List Ask)) →
      asks queries bytes ≡ Ok sessions → AreSessionsOf queries (lines bytes) sessions
  pub err : (queries : List Query) (bytes : List ℕ) (fault : AskFault) →
      asks queries bytes ≡ Err fault → HasFirstFault queries (lines bytes) fault

pub parts_told : Tells
unfolding asks
parts_told = record {
  ok = λ queries bytes sessions e.
      let read = bind_ok (gives queries none_yet 0 (lines bytes)) (λ found. Ok (all found)) sessions
      e in
      subst (AreSessionsOf queries (lines bytes)) (same_ok (all read.0) sessions read.2)
      (stands_for queries (lines bytes) read.0
      (holds_at_end (line_step queries) (Stands queries) (kept queries) (lines bytes) none_yet read.0
      (at_first queries) read.1));
  err = λ queries bytes fault e. stopped queries (lines bytes) fault
      (stops_at (line_step queries) (Stands queries) (kept queries) (lines bytes) none_yet fault
      (at_first queries)
      (mapped_err (gives queries none_yet 0 (lines bytes)) (λ found. all found) fault e));
}
  where
    kept : (queries : List Query) (front : List (List ℕ)) (line : List ℕ)
        (before next : Sessions) → Stands queries front before →
        line_step queries (length front + 1) before line ≡ Ok next →
        Stands queries (front ++ line ∷ []) next
    kept queries front line before next s e =
        keeps queries front line before next s
        (taken fault_at (after_line queries) (length front + 1) before next line e)

    stopped : (queries : List Query) (all_lines : List (List ℕ)) (fault : AskFault) →
        StopsAt (line_step queries) (Stands queries) all_lines fault →
        HasFirstFault queries all_lines fault
    stopped queries all_lines fault at =
        let refusal = refused fault_at (after_line queries) (length at.front + 1) at.before at.line
        fault at.fails in
        let first = faulty queries at.line at.before refusal.0 refusal.1 in
        subst (HasFirstFault queries all_lines) refusal.2 (record {
          front = at.front;
          line = at.line;
          rest = at.rest;
          sessions = at.before;
          split = at.split;
          reached = at.good.reached;
          good = stands_for queries at.front at.before at.good;
          is_one = first.0;
          number = refl;
          first = first.1;
        })

-- a file whose lines reach sessions gives them
pub whole : (queries : List Query) (bytes : List ℕ) (start sessions : Sessions) →
    start ≡ none_yet → gives queries start 0 (lines bytes) ≡ Ok sessions →
    asks queries bytes ≡ Ok (all sessions)
unfolding asks
whole queries bytes start sessions first e =
    ap (λ (r : Result Sessions AskFault). r >>= λ found. Ok (all found))
    (ap (λ (begin : Sessions). gives queries begin 0 (lines bytes)) (sym first) ∙ e)

-- and one whose lines reach a fault has it
pub whole_fault : (queries : List Query) (bytes : List ℕ) (start : Sessions) (fault : AskFault) →
    start ≡ none_yet → gives queries start 0 (lines bytes) ≡ Err fault →
    asks queries bytes ≡ Err fault
unfolding asks
whole_fault queries bytes start fault first e =
    ap (λ (r : Result Sessions AskFault). r >>= λ found. Ok (all found))
    (ap (λ (begin : Sessions). gives queries begin 0 (lines bytes)) (sym first) ∙ e)

-- the sessions of a file are few
pub sessions_are_few : SessionsAreFew
sessions_are_few queries bytes sessions e =
    let are = parts_told.ok queries bytes sessions e in
    (are.few, are.each_few)
