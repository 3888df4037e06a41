-- What the opening of the sinks does to the files.
use Rattle.std.proofs.Common.{◌≡◌, inl, inr, ◌⊎◌, ℕ, List, [], ◌∷◌, ◌++◌, Option, Some, None}
use Rattle.std.proofs.Common.{refl, ap, sym, subst, ◌∙◌, append-nil, append_assoc, arith, suc, take}
use Rattle.std.proofs.Common.{drop, ◌+◌, ◌<◌, length, get_or}
use Rattle.std.specs.Prelude.{IfSome, IsSomeAnd, Contains, option_to_list, slice_get}
use Rattle.std.proofs.lemmas.List.{append_cancel_left, take-append-drop}
use Rattle.std.proofs.lemmas.Option.{slice_get_read}
use Rattle.std.proofs.lemmas.List.Elements.{Contains-append_left, Contains-append_right}
use Rattle.rpq_io.specs.Counts.{CountsFault}
use Rattle.rpq_io.proofs.Counting.{counts_as}
use Rattle.rpq_words.specs.declared.settings.Settings.{Settings}
use Rattle.rpq_words.specs.Views.{faults_of, replies_of, save_of}
use Rattle.rpq_text.specs.declared.ends.Which.{Which}
use Rattle.rpq_text.specs.declared.ends.Which.TheVariants.{Replies, Save, FaultsOf, RepliesOf}
use Rattle.rpq_text.specs.declared.ends.StartFault.{StartFault}
use Rattle.rpq_text.specs.declared.ends.StartFault.TheVariants.{Open, Memory}
use Rattle.run_start.specs.Given.{file_names, own_sink_names, replies_names, sink_names}
use Rattle.run_start.specs.Given.{sinks_with_faults}
use Rattle.run_start.proofs.Opening.{up_to_one_more}
use Rattle.stream_tuples.specs.History.{IsPrefix}
use Rattle.run_start.specs.Start.{AreMade, AreOpened, IsMakingOf, IsOpeningOf, sinks_before}
use Rattle.run_start.specs.Steps.{AreMadeThen, AreNamesOfSink, AreOpenedBehind, OpensSink, UsesMore}

-- why a sink isn't opened: its opening failed, or memory ran out
abbrev pub IsSinkCause : Which → StartFault → Type 0
IsSinkCause which fault = (fault ≡ Open which) ⊎ (fault ≡ Memory)

-- the sink that is opened as this one has this name, if there is one, and follows these
pub record IsSink (given : Settings) (which : Which) (before : List (List ℕ)) (name : Option (List ℕ))
    : Type 0 where
  pub behind : sinks_before given which ≡ before
  pub front : (rest : List (List ℕ)) × (sink_names given ≡ before ++ (option_to_list name ++ rest))
  pub making : (any : List ℕ) → name ≡ Some any → IsMakingOf given any (Open which)
  pub named : (any : List ℕ) → IsMakingOf given any (Open which) → name ≡ Some any
  pub none_read : (any : List ℕ) → IsOpeningOf given any (Open which) → ⊥
  pub opened : AreOpened given (Some (Open which)) (file_names given)

pub replies_sink : (given : Settings) → IsSink given Replies [] (replies_of given)
replies_sink given = record {
  behind = refl;
  front = (
    (option_to_list (save_of given) ++ faults_of given) ++ replies_names given,
    ap (λ (ns : List (List ℕ)). ns ++ replies_names given)
        (append_assoc (option_to_list (replies_of given)) (option_to_list (save_of given))
        (faults_of given))
        ∙ append_assoc (option_to_list (replies_of given))
        (option_to_list (save_of given) ++ faults_of given) (replies_names given),
  );
  making = λ any is. is;
  named = λ any is. is;
  none_read = λ any opening. opening;
  opened = refl;
}

pub save_sink : (given : Settings) → IsSink given Save (option_to_list (replies_of given)) (save_of given)
save_sink given = record {
  behind = refl;
  front = (
    faults_of given ++ replies_names given,
    append_assoc (own_sink_names given) (faults_of given) (replies_names given)
        ∙ append_assoc (option_to_list (replies_of given)) (option_to_list (save_of given))
        (faults_of given ++ replies_names given),
  );
  making = λ any is. is;
  named = λ any is. is;
  none_read = λ any opening. opening;
  opened = refl;
}

-- the sinks that are numbered from 1 and opened as these have these names, behind those in front and
-- before the rest
pub record AreSinks (given : Settings) (which : ℕ → Which) (front names rest : List (List ℕ))
    : Type 0 where
  pub all : sink_names given ≡ (front ++ names) ++ rest
  pub behind : (place : ℕ) → sinks_before given (which (suc place)) ≡ front ++ take place names
  pub making : (place : ℕ) (any : List ℕ) → slice_get names place ≡ Some any
      → IsMakingOf given any (Open (which (suc place)))
  pub named : (place : ℕ) (any : List ℕ) → IsMakingOf given any (Open (which (suc place)))
      → slice_get names place ≡ Some any
  pub none_read : (place : ℕ) (any : List ℕ) → IsOpeningOf given any (Open (which (suc place))) → ⊥
  pub opened : (place : ℕ) → AreOpened given (Some (Open (which (suc place)))) (file_names given)

-- those of the faulty lines of the streams
pub fault_sinks : (given : Settings)
    → AreSinks given (λ number. FaultsOf number) (own_sink_names given) (faults_of given)
    (replies_names given)
fault_sinks given = record {
  all = refl;
  behind = λ place. refl;
  making = λ place any is. is;
  named = λ place any making. making;
  none_read = λ place any opening. opening;
  opened = λ place. refl;
}

-- and those of the replies to the readers
pub reader_sinks : (given : Settings)
    → AreSinks given (λ number. RepliesOf number) (sinks_with_faults given) (replies_names given) []
reader_sinks given = record {
  all = sym (append-nil (sink_names given));
  behind = λ place. refl;
  making = λ place any is. is;
  named = λ place any making. making;
  none_read = λ place any opening. opening;
  opened = λ place. refl;
}

-- the sinks of the first of these names stand in front of the rest
front_and_rest : (front names rest : List (List ℕ)) (place : ℕ)
    → (front ++ names) ++ rest ≡ (front ++ take place names) ++ (drop place names ++ rest)
front_and_rest front names rest place =
    ap (λ (ns : List (List ℕ)). (front ++ ns) ++ rest) (sym (take-append-drop place names))
    ∙ (ap (λ (ns : List (List ℕ)). ns ++ rest)
    (sym (append_assoc front (take place names) (drop place names)))
    ∙ append_assoc (front ++ take place names) (drop place names) rest)

-- one of them
one_sink : (given : Settings) (which : ℕ → Which) (first names rest : List (List ℕ)) (place : ℕ)
    (name : List ℕ) → AreSinks given which first names rest → slice_get names place ≡ Some name
    → IsSink given (which (suc place)) (first ++ take place names) (Some name)
one_sink given which first names rest place name are is = record {
  behind = are.behind place;
  front = (drop (suc place) names ++ rest, front_is);
  making = λ any same. are.making place any (is ∙ same);
  named = λ any making. sym is ∙ are.named place any making;
  none_read = are.none_read place;
  opened = are.opened place;
}
  where
    later : List (List ℕ)
    later = drop (suc place) names ++ rest

    front_is : sink_names given ≡ (first ++ take place names) ++ name ∷ later
    front_is = are.all ∙ (front_and_rest first names rest (suc place)
        ∙ (ap (λ (ns : List (List ℕ)). ns ++ later) (up_to_one_more first names place name is)
        ∙ append_assoc (first ++ take place names) (name ∷ []) later))

-- the names that were opened to read are all
opened_all : (given : Settings) (which : Which) (before : List (List ℕ)) (name : Option (List ℕ))
    (start : Option StartFault) → IsSink given which before name → IfSome start (IsSinkCause which)
    → AreOpenedBehind given (file_names given) [] start []
opened_all given which before name None at cause = refl
opened_all given which before name (Some fault) at (inl opening) =
    subst (λ (f : StartFault). AreOpened given (Some f) (file_names given ++ [])) (sym opening)
    (subst (λ (ns : List (List ℕ)). AreOpened given (Some (Open which)) ns) (sym (append-nil (file_names given)))
    at.opened)
opened_all given which before name (Some fault) at (inr memory) =
    subst (λ (f : StartFault). AreOpened given (Some f) (file_names given ++ [])) (sym memory)
    (record { rest = []; cut = sym (append-nil (file_names given)) ∙ sym (append-nil (file_names given ++ [])) })

-- those that were opened to write are those of a run that doesn't begin for this
made_before : (given : Settings) (which : Which) (before : List (List ℕ)) (name : Option (List ℕ))
    (fault : StartFault) → IsSink given which before name → IsSinkCause which fault
    → AreMade given (Some fault) before
made_before given which before name fault at (inl opening) =
    subst (λ (f : StartFault). AreMade given (Some f) before) (sym opening) (sym at.behind)
made_before given which before name fault at (inr memory) =
    subst (λ (f : StartFault). AreMade given (Some f) before) (sym memory)
    (record { rest = option_to_list name ++ at.front.0; cut = at.front.1 })

-- no opening to read failed
none_opened : (given : Settings) (which : Which) (before : List (List ℕ)) (name : Option (List ℕ))
    (fault : StartFault) → IsSink given which before name → IsSinkCause which fault → (any : List ℕ)
    → IsOpeningOf given any fault → ⊥
none_opened given which before name fault at (inl opening) any is =
    at.none_read any (subst (λ (f : StartFault). IsOpeningOf given any f) opening is)
none_opened given which before name fault at (inr memory) any is =
    subst (λ (f : StartFault). IsOpeningOf given any f) memory is

-- whose opening to write failed
is_making : (given : Settings) (which : Which) (before : List (List ℕ)) (name : Option (List ℕ))
    (fault : StartFault) (any : List ℕ) → IsSink given which before name → (fault ≡ Open which) × (name ≡ Some any)
    → IsMakingOf given any fault
is_making given which before name fault any at (opening, is) =
    subst (λ (f : StartFault). IsMakingOf given any f) (sym opening) (at.making any is)

making_is : (given : Settings) (which : Which) (before : List (List ℕ)) (name : Option (List ℕ))
    (fault : StartFault) (any : List ℕ) → IsSink given which before name → IsSinkCause which fault
    → IsMakingOf given any fault → (fault ≡ Open which) × (name ≡ Some any)
making_is given which before name fault any at (inl opening) is =
    (opening, at.named any (subst (λ (f : StartFault). IsMakingOf given any f) opening is))
making_is given which before name fault any at (inr memory) is =
    absurd (subst (λ (f : StartFault). IsMakingOf given any f) memory is)

-- of lists that have nothing together each has nothing
both_none : (first second : List (List ℕ)) → first ++ second ≡ [] → (first ≡ []) × (second ≡ [])
both_none [] second is = (refl, is)
both_none (name ∷ first) second is = absurd (cc is)

-- a list that stays with something behind it has nothing there
nothing_more : (list more : List (List ℕ)) → list ++ more ≡ list → more ≡ []
nothing_more list more is = append_cancel_left list more [] (is ∙ sym (append-nil list))

-- the name of the sink is one of those of the settings
sink_in : (given : Settings) (which : Which) (before : List (List ℕ)) (name : Option (List ℕ)) (any : List ℕ)
    → IsSink given which before name → name ≡ Some any → Contains (sink_names given) any
sink_in given which before name any at is =
    subst (λ (ns : List (List ℕ)). Contains ns any) (sym at.front.1)
    (Contains-append_right before (option_to_list name ++ at.front.0) any
    (Contains-append_left (option_to_list name) at.front.0 any
    (subst (λ (o : Option (List ℕ)). Contains (option_to_list o) any) (sym is) (0, omega arith, refl))))

-- nothing was opened
pub no_step : {F : Type 0} {holds : F → List ℕ → Option (List ℕ)} {opened made : F → List (List ℕ)}
    {unread unmade : F → List ℕ → ℕ} (given : Settings) (before : List (List ℕ)) (files : F)
    → UsesMore holds opened made unread unmade given before [] [] None files files
no_step {F} {holds} {opened} {made} {unread} {unmade} given before files = record {
  opens = record { names = []; of_kind = refl; more = sym (append-nil (opened files)) };
  makes = record { names = []; of_kind = refl; more = sym (append-nil (made files)) };
  kept = λ name cause. refl;
  openings = λ name. record { never_falls = omega arith; rose = λ is. absurd is; quiet = λ none. refl };
  makings = λ name. record { never_falls = omega arith; rose = λ is. absurd is; quiet = λ none. refl };
}

-- one sink more was opened, or not, behind those before it
pub uses_sink : {F : Type 0} {holds : F → List ℕ → Option (List ℕ)} {opened made : F → List (List ℕ)}
    {unread unmade : F → List ℕ → ℕ} (given : Settings) (which : Which) (before : List (List ℕ))
    (name : Option (List ℕ)) (start : Option StartFault) (old between new : F)
    → IsSink given which before name → IfSome start (IsSinkCause which)
    → UsesMore holds opened made unread unmade given (file_names given) [] before None old between
    → OpensSink holds opened made unread unmade which name start between new
    → UsesMore holds opened made unread unmade given (file_names given) [] (before ++ option_to_list name) start old new
uses_sink {F} {holds} {opened} {made} {unread} {unmade} given which before name start old between new at cause first
    second =
    let grew : made between ≡ made old ++ before =
    first.makes.more ∙ ap (λ (ns : List (List ℕ)). made old ++ ns) first.makes.of_kind in
    record {
      opens = record {
        names = [];
        of_kind = opened_all given which before name start at cause;
        more = second.opened_stays
            ∙ (first.opens.more ∙ ap (λ (ns : List (List ℕ)). opened old ++ ns) first.opens.of_kind);
      };
      makes = record {
        names = before ++ second.makes.names;
        of_kind = by start cause second.makes.names second.makes.of_kind;
        more = second.makes.more ∙ (ap (λ (ns : List (List ℕ)). ns ++ second.makes.names) grew
            ∙ append_assoc (made old) before second.makes.names);
      };
      kept = λ any stays. kept any grew stays;
      openings = λ any. record {
        never_falls = omega (arith, second.unread_stays any, (first.openings any).never_falls);
        rose = λ is. absurd (no_opening start cause any is);
        quiet = λ none. second.unread_stays any ∙ (first.openings any).quiet (λ none. none);
      };
      makings = λ any. subst (λ (count : ℕ). CountsFault (IsSomeAnd start (λ fault. IsMakingOf given any fault))
          count (unmade new any)) ((first.makings any).quiet (λ none. none)) (making start cause any (second.makings any));
    }
  where
    by : (s : Option StartFault) → IfSome s (IsSinkCause which) → (names : List (List ℕ))
        → AreNamesOfSink name s names → AreMadeThen given (before ++ option_to_list name) s (before ++ names)
    by None is names are = ap (λ (ns : List (List ℕ)). before ++ ns) are
    by (Some fault) is names are = subst (λ (ns : List (List ℕ)). AreMade given (Some fault) ns)
        (sym (ap (λ (ns : List (List ℕ)). before ++ ns) are ∙ append-nil before))
        (made_before given which before name fault at is)

    kept : (any : List ℕ) → made between ≡ made old ++ before
        → (made new ≡ made old) ⊎ (Contains (sink_names given) any → ⊥) → holds new any ≡ holds old any
    kept any grew (inl same) =
        let none = both_none before second.makes.names (nothing_more (made old) (before ++ second.makes.names)
        (sym (append_assoc (made old) before second.makes.names)
        ∙ (ap (λ (ns : List (List ℕ)). ns ++ second.makes.names) (sym grew) ∙ (sym second.makes.more ∙ same)))) in
        second.kept any (inl (second.makes.more ∙ (ap (λ (ns : List (List ℕ)). made between ++ ns) none.1
        ∙ append-nil (made between))))
        ∙ first.kept any (inl (grew ∙ (ap (λ (ns : List (List ℕ)). made old ++ ns) none.0 ∙ append-nil (made old))))
    kept any grew (inr none) =
        second.kept any (inr (λ is. none (sink_in given which before name any at is))) ∙ first.kept any (inr none)

    no_opening : (s : Option StartFault) → IfSome s (IsSinkCause which) → (any : List ℕ)
        → IsSomeAnd s (λ fault. IsOpeningOf given any fault) → ⊥
    no_opening None is any opening = opening
    no_opening (Some fault) is any opening = none_opened given which before name fault at is any opening

    making : (s : Option StartFault) → IfSome s (IsSinkCause which) → (any : List ℕ)
        → CountsFault (IsSomeAnd s (λ fault. (fault ≡ Open which) × (name ≡ Some any))) (unmade between any)
        (unmade new any)
        → CountsFault (IsSomeAnd s (λ fault. IsMakingOf given any fault)) (unmade between any) (unmade new any)
    making None is any counts = counts
    making (Some fault) is any counts = counts_as ((fault ≡ Open which) × (name ≡ Some any))
        (IsMakingOf given any fault) (unmade between any) (unmade new any)
        (is_making given which before name fault any at) (making_is given which before name fault any at is) counts

-- the sink of one name more was opened, or not
pub uses_one : {F : Type 0} {holds : F → List ℕ → Option (List ℕ)}
    {opened made : F → List (List ℕ)} {unread unmade : F → List ℕ → ℕ} (given : Settings)
    (which : ℕ → Which) (front names rest : List (List ℕ)) (place many : ℕ) (name : List ℕ)
    (start : Option StartFault) (old between new : F)
    → AreSinks given which front names rest → place ≡ many → slice_get names place ≡ Some name
    → IfSome start (IsSinkCause (which (place + 1)))
    → UsesMore holds opened made unread unmade given (file_names given) []
    (front ++ take many names) None old between
    → OpensSink holds opened made unread unmade (which (place + 1)) (Some name) start between new
    → UsesMore holds opened made unread unmade given (file_names given) []
    (front ++ take (place + 1) names) start old new
uses_one {F} {holds} {opened} {made} {unread} {unmade} given which front names rest place many name
    start old between new are at is cause first second =
    let next : place + 1 ≡ suc place = omega arith in
    let before = front ++ take place names in
    let sink : IsSink given (which (place + 1)) before (Some name) =
    subst (λ (n : ℕ). IsSink given (which n) before (Some name)) (sym next)
    (one_sink given which front names rest place name are is) in
    let all : before ++ name ∷ [] ≡ front ++ take (place + 1) names =
    sym (up_to_one_more front names place name is)
    ∙ ap (λ (n : ℕ). front ++ take n names) (sym next) in
    subst (λ (ns : List (List ℕ)). UsesMore holds opened made unread unmade given (file_names given)
    [] ns start old new) all
    (uses_sink given (which (place + 1)) before (Some name) start old between new sink cause
    (subst (λ (n : ℕ). UsesMore holds opened made unread unmade given (file_names given) []
    (front ++ take n names) None old between) (sym at) first)
    second)

-- memory ran out behind some sinks
pub memory_behind : {F : Type 0} {holds : F → List ℕ → Option (List ℕ)}
    {opened made : F → List (List ℕ)} {unread unmade : F → List ℕ → ℕ} (given : Settings)
    (own more : List (List ℕ)) (old new : F) → IsPrefix own (sink_names given)
    → UsesMore holds opened made unread unmade given (file_names given) [] own None old new
    → UsesMore holds opened made unread unmade given (file_names given) [] more (Some Memory) old new
memory_behind given own more old new front uses = record {
  opens = record {
    names = uses.opens.names;
    of_kind = record {
      rest = [];
      cut = sym (append-nil (file_names given))
          ∙ (ap (λ (ns : List (List ℕ)). file_names given ++ ns) (sym uses.opens.of_kind)
          ∙ sym (append-nil (file_names given ++ uses.opens.names)));
    };
    more = uses.opens.more;
  };
  makes = record {
    names = uses.makes.names;
    of_kind = subst (λ (ns : List (List ℕ)). AreMade given (Some Memory) ns) (sym uses.makes.of_kind)
        front;
    more = uses.makes.more;
  };
  kept = uses.kept;
  openings = λ any. record {
    never_falls = (uses.openings any).never_falls;
    rose = λ is. absurd is;
    quiet = λ _. (uses.openings any).quiet (λ none. none);
  };
  makings = λ any. record {
    never_falls = (uses.makings any).never_falls;
    rose = λ is. absurd is;
    quiet = λ _. (uses.makings any).quiet (λ none. none);
  };
}

-- the file of faulty lines of the stream at this place
pub fault_at : (given : Settings) (all : List (List ℕ)) (place : ℕ) (name : List ℕ)
    → all ≡ faults_of given → place < length all → name ≡ get_or all place name
    → slice_get (faults_of given) place ≡ Some name
fault_at given all place name are below read =
    ap (λ (ns : List (List ℕ)). slice_get ns place) (sym are)
    ∙ slice_get_read all (length all) place name refl below read

-- the replies to the sessions and the saved window stand in front of the other sinks
pub none_behind_own : (given : Settings) → IsPrefix (own_sink_names given) (sink_names given)
none_behind_own given = record {
  rest = faults_of given ++ replies_names given;
  cut = append_assoc (own_sink_names given) (faults_of given) (replies_names given);
}

-- some of these names stand in front of all the others
pub front_of_names : (given : Settings) (which : ℕ → Which) (front names rest : List (List ℕ))
    (place : ℕ) → AreSinks given which front names rest
    → IsPrefix (front ++ take place names) (sink_names given)
front_of_names given which front names rest place are = record {
  rest = drop place names ++ rest;
  cut = are.all ∙ front_and_rest front names rest place;
}
