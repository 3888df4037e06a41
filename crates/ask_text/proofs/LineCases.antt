-- The fields of a line give something behind the sessions before it, or have a first fault.
use Rattle.std.proofs.Common.{◌≡◌, ◌≢◌, ℕ, ◌<◌, ◌≤◌, false, cond, Option, Some, None, Ok, Err, List}
use Rattle.std.proofs.Common.{[], ◌∷◌, ◌++◌, length, codes, refl, sym, ap, subst, ◌∙◌, Result, ◌==◌}
use Rattle.std.proofs.Common.{arith, inl, inr}
use Rattle.std.proofs.lemmas.Bool.{cases_lt, le-leb, lt-leb}
use Rattle.text_parts.specs.Reading.{◌>>=◌}
use Rattle.rpq_model.specs.Query.{Query}
use Rattle.ask_text.specs.declared.ask.Ask.{Ask}
use Rattle.ask_text.specs.declared.fault.AskKind.{AskKind}
use Rattle.ask_text.specs.declared.fault.AskKind.TheVariants.{Shape, UnknownQuery, BadName, Number}
use Rattle.ask_text.specs.declared.fault.AskKind.TheVariants.{TooMany, Memory}
use Rattle.ask_text.specs.Reading.{ask_of_fields}
use Rattle.ask_text.specs.Asks.{Sessions, all, begun, grown, begins_session, asked, after_fields}
use Rattle.ask_text.specs.Parts.{session_fields, HasAskFault, HasFault, number_of_kind}
use Rattle.ask_text.specs.Parts.{IsFirstFault, IsAfter, IsReadByParts, LineByParts}
use Rattle.ask_text.proofs.Steps.{WordCase, is_it, unlike, word_case}
use Rattle.ask_text.proofs.AskCases.{AskEnds, gives_ask, has_fault, ask_ends}

-- whether the fields begin a session
pub data BeginCase (fields : List (List ℕ)) : Type 0 where
  begins : fields ≡ session_fields → BeginCase fields
  goes_on : fields ≢ session_fields → begins_session fields ≡ false → BeginCase fields

pub begin_case : (fields : List (List ℕ)) → BeginCase fields
unfolding begins_session
begin_case [] = goes_on (λ e. absurd cc) refl
begin_case (word ∷ []) = by (word_case word (codes "session"))
  where
    by : WordCase word (codes "session") → BeginCase (word ∷ [])
    by (is_it same e) = begins (ap (λ (first : List ℕ). first ∷ []) same)
    by (unlike differs e) = goes_on (λ (same : word ∷ [] ≡ session_fields). differs cc) e
begin_case (a ∷ b ∷ more) = goes_on (λ e. omega (arith, ap length e)) refl

-- how a line ends
data LineEnds (queries : List Query) (sessions : Sessions) (fields : List (List ℕ)) : Type 0 where
  well : (next : Sessions) → IsAfter queries sessions fields next →
      ((kind : AskKind) → HasFault queries sessions fields kind → ⊥) →
      after_fields queries sessions fields ≡ Ok next → LineEnds queries sessions fields
  badly : (kind : AskKind) → IsFirstFault queries sessions fields kind →
      after_fields queries sessions fields ≡ Err kind → LineEnds queries sessions fields

-- a line that begins a session
session_ends : (queries : List Query) (sessions : Sessions) →
    LineEnds queries sessions session_fields
unfolding after_fields begins_session begun
session_ends queries sessions = elim (cases_lt (length (all sessions)) 64) [
  | inl room ↦ well (record { over = all sessions; current = Some [] }) (inl (refl, room, refl))
      (no_fault room) (rw (lt-leb 64 (length (all sessions)) room) refl)
  | inr full ↦ badly TooMany (record { has = inl (refl, full); least = least })
      (rw (le-leb 64 (length (all sessions)) full) refl)
]
  where
    no_fault : length (all sessions) < 64 → (kind : AskKind) →
        HasFault queries sessions session_fields kind → ⊥
    no_fault room Shape f = f.0 refl
    no_fault room UnknownQuery f = f.1
    no_fault room BadName f = f.1
    no_fault room Number f = f.1
    no_fault room TooMany (inl f) = omega (arith, room, f.1)
    no_fault room TooMany (inr f) = f.0 refl
    no_fault room Memory f = f

    least : (less : AskKind) → HasFault queries sessions session_fields less →
        5 ≤ number_of_kind less
    least Shape f = absurd (f.0 refl)
    least UnknownQuery f = absurd f.1
    least BadName f = absurd f.1
    least Number f = absurd f.1
    least TooMany f = omega arith
    least Memory f = omega arith

-- any other line
pub goes_on_so : (queries : List Query) (sessions : Sessions) (fields : List (List ℕ))
    (current : Option (List Ask)) → begins_session fields ≡ false →
    sessions.current ≡ current →
    after_fields queries sessions fields ≡ asked queries sessions.over current fields
unfolding after_fields
goes_on_so queries sessions fields current e is = rw (e, is) refl

before_any : (queries : List Query) (sessions : Sessions) (fields : List (List ℕ)) →
    fields ≢ session_fields → begins_session fields ≡ false →
    sessions.current ≡ None → LineEnds queries sessions fields
unfolding asked
before_any queries sessions fields differs e is =
    badly Shape (record { has = (differs, inl is); least = least })
    (goes_on_so queries sessions fields None e is)
  where
    least : (less : AskKind) → HasFault queries sessions fields less → 1 ≤ number_of_kind less
    least Shape f = omega arith
    least UnknownQuery f = omega arith
    least BadName f = omega arith
    least Number f = omega arith
    least TooMany f = omega arith
    least Memory f = omega arith

-- an ask of a session
pub asked_so : (queries : List Query) (over : List (List Ask)) (asks : List Ask)
    (fields : List (List ℕ)) →
    asked queries over (Some asks) fields ≡ (ask_of_fields queries fields >>= grown over asks)
unfolding asked
asked_so queries over asks fields = refl

pub asked_grown : (over : List (List Ask)) (asks : List Ask) (ask : Ask) → length asks < 1024 →
    grown over asks ask ≡ Ok (record { over = over; current = Some (asks ++ ask ∷ []) })
unfolding grown
asked_grown over asks ask room = rw (lt-leb 1024 (length asks) room) refl

asked_full : (over : List (List Ask)) (asks : List Ask) (ask : Ask) → 1024 ≤ length asks →
    grown over asks ask ≡ Err TooMany
unfolding grown
asked_full over asks ask full = rw (le-leb 1024 (length asks) full) refl

in_session : (queries : List Query) (sessions : Sessions) (fields : List (List ℕ))
    (asks : List Ask) → fields ≢ session_fields →
    begins_session fields ≡ false → sessions.current ≡ Some asks → AskEnds queries fields →
    LineEnds queries sessions fields
in_session queries sessions fields asks differs e is (has_fault kind first read) =
    badly kind (record { has = lifted kind first.has; least = least })
    (goes_on_so queries sessions fields (Some asks) e is
    ∙ asked_so queries sessions.over asks fields
    ∙ ap (λ r. r >>= grown sessions.over asks) read)
  where
    lifted : (k : AskKind) → HasAskFault queries fields k → HasFault queries sessions fields k
    lifted Shape f = (differs, inr f)
    lifted UnknownQuery f = f
    lifted BadName f = f
    lifted Number f = f
    lifted TooMany f = absurd f
    lifted Memory f = absurd f

    small : (k : AskKind) → HasAskFault queries fields k → number_of_kind k ≤ 5
    small Shape f = omega arith
    small UnknownQuery f = omega arith
    small BadName f = omega arith
    small Number f = omega arith
    small TooMany f = omega arith
    small Memory f = absurd f

    none_here : sessions.current ≡ None → ⊥
    none_here none = let same : ◌≡◌ {A = Option (List Ask)} (Some asks) None = sym is ∙ none in
        absurd cc

    least : (less : AskKind) → HasFault queries sessions fields less →
        number_of_kind kind ≤ number_of_kind less
    least Shape (other, inl none) = absurd (none_here none)
    least Shape (other, inr f) = first.least Shape f
    least UnknownQuery f = first.least UnknownQuery f
    least BadName f = first.least BadName f
    least Number f = first.least Number f
    least TooMany f = small kind first.has
    least Memory f = absurd f
in_session queries sessions fields asks differs e is (gives_ask ask of none read) =
    elim (cases_lt (length asks) 1024) [
      | inl room ↦
          well (record { over = sessions.over; current = Some (asks ++ ask ∷ []) })
          (inr (ask, asks, of, is, room, refl)) (no_fault room)
          (up_to ∙ asked_grown sessions.over asks ask room)
      | inr full ↦ badly TooMany (record { has = inr (differs, (asks, is, full)); least = least })
          (up_to ∙ asked_full sessions.over asks ask full)
    ]
  where
    up_to : after_fields queries sessions fields ≡ grown sessions.over asks ask
    up_to = goes_on_so queries sessions fields (Some asks) e is
        ∙ asked_so queries sessions.over asks fields ∙ ap (λ r. r >>= grown sessions.over asks) read

    none_here : sessions.current ≡ None → ⊥
    none_here empty = let same : ◌≡◌ {A = Option (List Ask)} (Some asks) None = sym is ∙ empty in
        absurd cc

    same_asks : (found : List Ask) → sessions.current ≡ Some found → asks ≡ found
    same_asks found there = let same : ◌≡◌ {A = Option (List Ask)} (Some asks) (Some found) = sym is
        ∙ there in cc

    no_fault : length asks < 1024 → (kind : AskKind) → HasFault queries sessions fields kind → ⊥
    no_fault room Shape (other, inl empty) = none_here empty
    no_fault room Shape (other, inr f) = none Shape f
    no_fault room UnknownQuery f = none UnknownQuery f
    no_fault room BadName f = none BadName f
    no_fault room Number f = none Number f
    no_fault room TooMany (inl f) = differs f.0
    no_fault room TooMany (inr (other, (found, there, full))) =
        omega (arith, room, full, ap length (same_asks found there))
    no_fault room Memory f = f

    least : (less : AskKind) → HasFault queries sessions fields less → 5 ≤ number_of_kind less
    least Shape (other, inl empty) = absurd (none_here empty)
    least Shape (other, inr f) = absurd (none Shape f)
    least UnknownQuery f = absurd (none UnknownQuery f)
    least BadName f = absurd (none BadName f)
    least Number f = absurd (none Number f)
    least TooMany f = omega arith
    least Memory f = omega arith

line_ends : (queries : List Query) (sessions : Sessions) (fields : List (List ℕ)) →
    LineEnds queries sessions fields
line_ends queries sessions fields = by (begin_case fields)
  where
    by_current : fields ≢ session_fields → begins_session fields ≡ false →
        (current : Option (List Ask)) → sessions.current ≡ current →
        LineEnds queries sessions fields
    by_current differs e None is = before_any queries sessions fields differs e is
    by_current differs e (Some asks) is =
        in_session queries sessions fields asks differs e is (ask_ends queries fields)

    by : BeginCase fields → LineEnds queries sessions fields
    by (begins same) = subst (LineEnds queries sessions) (sym same) (session_ends queries sessions)
    by (goes_on differs e) = by_current differs e sessions.current refl

-- kinds of one number are the same
same_kind : (queries : List Query) (sessions : Sessions) (fields : List (List ℕ))
    (one two : AskKind) → number_of_kind one ≡ number_of_kind two → one ≡ two
same_kind queries sessions fields one two e = apart_kinds one two e
  where
    kind_at : ℕ → AskKind
    kind_at n = cond (n == 1) Shape
        (cond (n == 2) UnknownQuery (cond (n == 3) BadName
        (cond (n == 4) Number (cond (n == 5) TooMany Memory))))

    kind_back : (kind : AskKind) → kind_at (number_of_kind kind) ≡ kind
    kind_back Shape = refl
    kind_back UnknownQuery = refl
    kind_back BadName = refl
    kind_back Number = refl
    kind_back TooMany = refl
    kind_back Memory = refl

    apart_kinds : (a b : AskKind) → number_of_kind a ≡ number_of_kind b → a ≡ b
    apart_kinds a b same = sym (kind_back a) ∙ ap kind_at same ∙ kind_back b

-- a line has one first fault
same_fault : (queries : List Query) (sessions : Sessions) (fields : List (List ℕ))
    (one two : AskKind) → IsFirstFault queries sessions fields one →
    IsFirstFault queries sessions fields two → one ≡ two
same_fault queries sessions fields one two first second =
    same_kind queries sessions fields one two
    (omega (arith, first.least two second.has, second.least one first.has))

pub line_by_parts : LineByParts
line_by_parts queries sessions fields = by (line_ends queries sessions fields)
  where
    by : LineEnds queries sessions fields → IsReadByParts queries sessions fields
    by (well next is none e) = record {
      good = λ other f. let same : ◌≡◌ {A = Sessions} next other = ok_same next other (sym e ∙ f) in
          subst (IsAfter queries sessions fields) same is;
      fault = λ kind. (
        λ f. absurd (ok_no_err next kind (sym e ∙ f)),
        λ f. absurd
            (none kind f.has),
      );
    }
      where
        ok_same : (a b : Sessions) → ◌≡◌ {A = Result Sessions AskKind} (Ok a) (Ok b) → a ≡ b
        ok_same a b e = cc

        ok_no_err : (a : Sessions) (k : AskKind) →
            ◌≡◌ {A = Result Sessions AskKind} (Ok a) (Err k) → ⊥
        ok_no_err a k e = absurd cc
    by (badly kind first e) = record {
      good = λ next f. absurd (err_no_ok kind next (sym e ∙ f));
      fault = λ other. (
        λ f. subst (IsFirstFault queries sessions fields) (err_same kind other (sym e ∙ f)) first,
        λ f. e ∙ ap (λ k. Err k) (same_fault queries sessions fields kind other first f),
      );
    }
      where
        err_same : (a b : AskKind) → ◌≡◌ {A = Result Sessions AskKind} (Err a) (Err b) → a ≡ b
        err_same a b e = cc

        err_no_ok : (k : AskKind) (a : Sessions) →
            ◌≡◌ {A = Result Sessions AskKind} (Err k) (Ok a) → ⊥
        err_no_ok k a e = absurd cc
