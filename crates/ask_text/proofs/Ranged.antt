-- The sessions so far are few, and about the queries.
use Rattle.std.proofs.Common.{◌≡◌, ℕ, ◌+◌, ◌<◌, ◌≤◌}
use Rattle.std.proofs.Common.{Option, Some, None, List, [], ◌∷◌, ◌++◌, length}
use Rattle.std.proofs.Common.{refl, sym, ap, subst, ◌∙◌, arith, inl, inr, length-append}
use Rattle.std.specs.Prelude.{All}
use Rattle.std.proofs.lemmas.List.{length-map}
use Rattle.std.proofs.lemmas.List.Elements.{All-nil, All-cons, All-append}
use Rattle.std.proofs.lemmas.Option.{slice_get_within}
use Rattle.rpq_model.specs.Query.{Query}
use Rattle.ask_text.specs.declared.ask.Ask.{Ask}
use Rattle.ask_text.specs.declared.ask.Ask.TheVariants.{Answers, From, Pair, Count, Wait, Until}
use Rattle.ask_text.specs.declared.ask.Ask.TheVariants.{Stats, Clock, Ends, To}
use Rattle.ask_text.specs.Asks.{Sessions, all, with_current}
use Rattle.ask_text.specs.Parts.{names, IsFirstNamed, IsAskOf, IsAfter}
use Rattle.ask_text.specs.Ranges.{IsInRange, IsSession}

known_below : (queries : List Query) (number : ℕ) (name : List ℕ) →
    IsFirstNamed queries number name → number < length queries
known_below queries number name is =
    omega (
      arith,
      slice_get_within (names queries) number name is.has,
      length-map queries
          (λ (query : Query). query.name),
    )

ask_in_range : (queries : List Query) (ask : Ask) (list : List (List ℕ)) →
    IsAskOf queries ask list → IsInRange (length queries) ask
ask_in_range queries (Answers q) list (name, is, known) = known_below queries q name known
ask_in_range queries (Count q) list (name, is, known) = known_below queries q name known
ask_in_range queries (From q from) list (name, is, known, named) = known_below queries q name known
ask_in_range queries (Pair q from to) list (name, is, known, named, also) =
    known_below queries q name known
ask_in_range queries (Until q from to) list (name, is, known, named, also) =
    known_below queries q name known
ask_in_range queries (Ends q from) list (name, is, known, named) = known_below queries q name known
ask_in_range queries (To q to) list (name, is, known, named) = known_below queries q name known
ask_in_range queries (Wait number) list is = tt
ask_in_range queries Stats list is = tt
ask_in_range queries Clock list is = tt

longer : (over : List (List Ask)) (asks : List Ask) → length (over ++ asks ∷ []) ≡ length over + 1
longer over asks = length-append over (asks ∷ [])

-- sessions so far that are few
pub record Ranged (queries : ℕ) (sessions : Sessions) : Type 0 where
  pub few : length (all sessions) ≤ 64
  pub over : All (IsSession queries) sessions.over
  pub current : (asks : List Ask) → sessions.current ≡ Some asks → IsSession queries asks

pub all_ranged : (queries : ℕ) (over : List (List Ask)) (current : Option (List Ask)) →
    All (IsSession queries) over →
    ((asks : List Ask) → current ≡ Some asks → IsSession queries asks) →
    All (IsSession queries) (with_current over current)
all_ranged queries over None done going = done
all_ranged queries over (Some asks) done going =
    All-append (IsSession queries) over (asks ∷ []) done
    (All-cons (IsSession queries) asks [] (going asks refl) (All-nil (IsSession queries)))

same_some : (one two : List Ask) → ◌≡◌ {A = Option (List Ask)} (Some one) (Some two) → one ≡ two
same_some one two e = cc

pub ranged_next : (queries : List Query) (sessions next : Sessions) (list : List (List ℕ)) →
    Ranged (length queries) sessions →
    IsAfter queries sessions list next → Ranged (length queries) next
ranged_next queries sessions next list r (inl (is, room, after)) =
    subst (Ranged (length queries)) (sym after) (record {
      few = omega (arith, room, longer (all sessions) []);
      over = all_ranged (length queries) sessions.over sessions.current r.over r.current;
      current = λ asks e. subst (IsSession (length queries)) (same_some [] asks e)
          (record { few = omega arith; ranges = All-nil (IsInRange (length queries)) });
    })
ranged_next queries sessions next list r (inr (ask, asks, of, is, room, after)) =
    let n : ℕ = length queries in
    let before = r.current asks is in
    let more : List Ask = asks ++ ask ∷ [] in
    let grown : IsSession n more = record {
      few = omega (arith, room, length-append asks (ask ∷ []));
      ranges = All-append (IsInRange n) asks (ask ∷ []) before.ranges
          (All-cons (IsInRange n) ask [] (ask_in_range queries ask list of)
          (All-nil (IsInRange n)));
    } in
    let counted : length (all sessions) ≡ length sessions.over + 1 =
    ap (λ (c : Option (List Ask)). length (with_current sessions.over c)) is
    ∙ longer sessions.over asks in
    subst (Ranged n) (sym after) (record {
      few = omega (arith, r.few, counted, longer sessions.over more);
      over = r.over;
      current = λ found e. subst (IsSession n) (same_some more found e) grown;
    })
