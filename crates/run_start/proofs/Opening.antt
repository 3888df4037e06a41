-- What the opening of one file to read does to the files.
use Rattle.std.proofs.Common.{◌≡◌, ◌≢◌, inl, inr, ℕ, List, [], ◌∷◌, ◌++◌, take}
use Rattle.std.proofs.Common.{drop, Option, Some, None, refl, ap, sym, subst, ◌∙◌, append-nil, map}
use Rattle.std.proofs.Common.{append_assoc, suc, ap₂}
use Rattle.std.specs.Prelude.{IfSome, IsSomeAnd, option_to_list, option_map, unwrap_or, slice_get}
use Rattle.std.proofs.lemmas.List.{map-append, take-append-drop}
use Rattle.std.proofs.lemmas.Option.{get_or_from_slice_get, slice_get_within}
use Rattle.std.proofs.Math.Seq.{take-suc}
use Rattle.rpq_io.specs.Counts.{CountsFault, CountsOpening, Rose}
use Rattle.rpq_io.specs.Reader.{ReaderState}
use Rattle.rpq_model.specs.Query.{Query}
use Rattle.rpq_words.specs.declared.settings.Settings.{Settings}
use Rattle.rpq_words.specs.Views.{asks_of, from_of, joins_of, streams_of}
use Rattle.stream_tuples.specs.History.{IsPrefix}
use Rattle.rpq_text.specs.declared.ends.Which.{Which}
use Rattle.rpq_text.specs.declared.ends.Which.TheVariants.{Queries, Joins, Asks, From}
use Rattle.rpq_text.specs.declared.ends.Which.TheVariants.{Stream, Replies, Save, FaultsOf}
use Rattle.rpq_text.specs.declared.ends.Which.TheVariants.{AsksOf, RepliesOf}
use Rattle.rpq_text.specs.declared.ends.StartFault.{StartFault}
use Rattle.rpq_text.specs.declared.ends.StartFault.TheVariants.{Words, Queries as QueriesFault}
use Rattle.rpq_text.specs.declared.ends.StartFault.TheVariants.{Joins as JoinsFaulty}
use Rattle.rpq_text.specs.declared.ends.StartFault.TheVariants.{Asks as AsksFault, Open, Read, Long}
use Rattle.rpq_text.specs.declared.ends.StartFault.TheVariants.{Memory}
use Rattle.saved_window.specs.Then.{join_known}
use Rattle.run_start.specs.Files.{stream_contents, with_first}
use Rattle.run_start.specs.Given.{asks_names, file_names, first_names, names_before, names_up_to}
use Rattle.run_start.specs.Given.{names_with_streams}
use Rattle.run_start.specs.Given.{understood_names, whole_names}
use Rattle.run_start.specs.Start.{AreOpened, IsOpeningOf}
use Rattle.run_start.specs.Steps.{AreNamesOfFile, AreOpenedBehind, IsFaultOfFile, OpensFile, UsesMore}
use Rattle.run_start.specs.Steps.{IsFaultOfAsks, IsRefusalOfOpening}
use Rattle.run_start.specs.declared.refusal.Refusal.{Refusal}
use Rattle.run_start.proofs.Using.{IsToRead, one_by_one, only_reads, then_refused}

-- the file of this name is opened as this one, behind these
pub record IsPlace (given : Settings) (which : Which) (before : List (List ℕ)) (name : List ℕ) : Type 0 where
  pub behind : names_before given which ≡ before
  pub up_to : names_up_to given which ≡ before ++ name ∷ []
  pub front : IsPrefix (before ++ name ∷ []) (file_names given)
  pub named : (any : List ℕ) → IsOpeningOf given any (Open which) → any ≡ name
  pub names : IsOpeningOf given name (Open which)
  pub no_replies : which ≢ Replies
  pub no_save : which ≢ Save
  pub no_faults_of : (number : ℕ) → which ≢ FaultsOf number
  pub no_replies_of : (number : ℕ) → which ≢ RepliesOf number

-- the names of all files that are read behind that of the queries
abbrev behind_queries : Settings → List (List ℕ)
behind_queries given = (((option_to_list (joins_of given) ++ option_to_list (asks_of given))
    ++ option_to_list (from_of given)) ++ streams_of given) ++ asks_names given

-- the queries file
pub queries_place : (given : Settings) (name : List ℕ) → name ≡ given.queries
    → IsPlace given Queries [] name
queries_place given name is = record {
  behind = refl;
  up_to = ap (λ (n : List ℕ). n ∷ []) (sym is);
  front = record {
    rest = behind_queries given;
    cut = ap (λ (n : List ℕ). n ∷ behind_queries given) (sym is);
  };
  named = λ any opening. opening ∙ sym is;
  names = is;
  no_replies = λ other. cc other;
  no_save = λ other. cc other;
  no_faults_of = λ number other. cc other;
  no_replies_of = λ number other. cc other;
}

-- the joins file
pub joins_place : (given : Settings) (name : List ℕ) → joins_of given ≡ Some name
    → IsPlace given Joins (given.queries ∷ []) name
joins_place given name is =
    let only = ap (λ (a : Option (List ℕ)). option_to_list a) is in
    record {
      behind = refl;
      up_to = ap (λ (ns : List (List ℕ)). given.queries ∷ ns) only;
      front = record {
        rest = ((option_to_list (asks_of given) ++ option_to_list (from_of given)) ++ streams_of given)
            ++ asks_names given;
        cut = ap (λ (ns : List (List ℕ)). given.queries ∷ ((((ns ++ option_to_list (asks_of given))
            ++ option_to_list (from_of given)) ++ streams_of given) ++ asks_names given)) only;
      };
      named = λ any opening.
          let found : ◌≡◌ {A = Option (List ℕ)} (Some any) (Some name) = sym opening ∙ is in
          cc found;
      names = is;
      no_replies = λ other. cc other;
      no_save = λ other. cc other;
      no_faults_of = λ number other. cc other;
      no_replies_of = λ number other. cc other;
    }

-- the asks file
pub asks_place : (given : Settings) (name : List ℕ) → asks_of given ≡ Some name
    → IsPlace given Asks (understood_names given) name
asks_place given name is =
    let only = ap (λ (a : Option (List ℕ)). option_to_list a) is in
    let front = option_to_list (joins_of given) ++ name ∷ [] in
    record {
      behind = refl;
      up_to = ap (λ (ns : List (List ℕ)). understood_names given ++ ns) only;
      front = record {
        rest = (option_to_list (from_of given) ++ streams_of given) ++ asks_names given;
        cut = ap (λ (ns : List (List ℕ)). given.queries ∷ ((((option_to_list (joins_of given) ++ ns)
            ++ option_to_list (from_of given)) ++ streams_of given) ++ asks_names given)) only
            ∙ ap (λ (ns : List (List ℕ)). given.queries ∷ ns)
            (ap (λ (ns : List (List ℕ)). ns ++ asks_names given)
            (append_assoc front (option_to_list (from_of given)) (streams_of given))
            ∙ append_assoc front (option_to_list (from_of given) ++ streams_of given) (asks_names given));
      };
      named = λ any opening.
          let found : ◌≡◌ {A = Option (List ℕ)} (Some any) (Some name) = sym opening ∙ is in
          cc found;
      names = is;
      no_replies = λ other. cc other;
      no_save = λ other. cc other;
      no_faults_of = λ number other. cc other;
      no_replies_of = λ number other. cc other;
    }

-- the saved window
pub from_place : (given : Settings) (name : List ℕ) → from_of given ≡ Some name
    → IsPlace given From (whole_names given) name
from_place given name is =
    let only = ap (λ (a : Option (List ℕ)). option_to_list a) is in
    record {
      behind = refl;
      up_to = ap (λ (ns : List (List ℕ)). whole_names given ++ ns) only;
      front = record {
        rest = streams_of given ++ asks_names given;
        cut = ap (λ (ns : List (List ℕ)). ((whole_names given ++ ns) ++ streams_of given)
            ++ asks_names given) only
            ∙ append_assoc (whole_names given ++ name ∷ []) (streams_of given) (asks_names given);
      };
      named = λ any opening.
          let found : ◌≡◌ {A = Option (List ℕ)} (Some any) (Some name) = sym opening ∙ is in
          cc found;
      names = is;
      no_replies = λ other. cc other;
      no_save = λ other. cc other;
      no_faults_of = λ number other. cc other;
      no_replies_of = λ number other. cc other;
    }

-- one name more
pub one_more : (names : List (List ℕ)) (place : ℕ) (name : List ℕ)
    → slice_get names place ≡ Some name → take (suc place) names ≡ take place names ++ name ∷ []
one_more names place name is =
    take-suc names place name (slice_get_within names place name is)
    ∙ ap (λ (n : List ℕ). take place names ++ n ∷ []) (get_or_from_slice_get names place name name is)

-- the names of a list stand at the front of some with the same in front, and one more does
front_with : (front names rest : List (List ℕ)) (place : ℕ)
    → (front ++ names) ++ rest ≡ (front ++ take place names) ++ (drop place names ++ rest)
front_with front names rest place =
    ap (λ (ns : List (List ℕ)). (front ++ ns) ++ rest) (sym (take-append-drop place names))
    ∙ (ap (λ (ns : List (List ℕ)). ns ++ rest)
    (sym (append_assoc front (take place names) (drop place names)))
    ∙ append_assoc (front ++ take place names) (drop place names) rest)

pub up_to_one_more : (front names : List (List ℕ)) (place : ℕ) (name : List ℕ)
    → slice_get names place ≡ Some name
    → front ++ take (suc place) names ≡ (front ++ take place names) ++ name ∷ []
up_to_one_more front names place name is =
    ap (λ (ns : List (List ℕ)). front ++ ns) (one_more names place name is)
    ∙ sym (append_assoc front (take place names) (name ∷ []))

-- a stream
pub stream_place : (given : Settings) (place : ℕ) (name : List ℕ) → slice_get (streams_of given) place ≡ Some name
    → IsPlace given (Stream (suc place)) (first_names given ++ take place (streams_of given)) name
stream_place given place name is =
    let up_to = up_to_one_more (first_names given) (streams_of given) place name is in
    record {
      behind = refl;
      up_to = up_to;
      front = record {
        rest = drop (suc place) (streams_of given) ++ asks_names given;
        cut = front_with (first_names given) (streams_of given) (asks_names given) (suc place)
            ∙ ap (λ (ns : List (List ℕ)). ns ++ (drop (suc place) (streams_of given) ++ asks_names given))
            up_to;
      };
      named = λ any opening.
          let found : ◌≡◌ {A = Option (List ℕ)} (Some any) (Some name) = sym opening ∙ is in
          cc found;
      names = is;
      no_replies = λ other. cc other;
      no_save = λ other. cc other;
      no_faults_of = λ number other. cc other;
      no_replies_of = λ number other. cc other;
    }

-- the names of what some readers ask stand behind those of the streams
front_of_all : (given : Settings) (place : ℕ) → file_names given
    ≡ (names_with_streams given ++ take place (asks_names given)) ++ drop place (asks_names given)
front_of_all given place =
    ap (λ (ns : List (List ℕ)). names_with_streams given ++ ns)
    (sym (take-append-drop place (asks_names given)))
    ∙ sym (append_assoc (names_with_streams given) (take place (asks_names given))
    (drop place (asks_names given)))

-- what a reader beside the run asks
pub asks_of_place : (given : Settings) (place : ℕ) (name : List ℕ)
    → slice_get (asks_names given) place ≡ Some name
    → IsPlace given (AsksOf (suc place)) (names_with_streams given ++ take place (asks_names given)) name
asks_of_place given place name is =
    let up_to = up_to_one_more (names_with_streams given) (asks_names given) place name is in
    record {
      behind = refl;
      up_to = up_to;
      front = record {
        rest = drop (suc place) (asks_names given);
        cut = front_of_all given (suc place)
            ∙ ap (λ (ns : List (List ℕ)). ns ++ drop (suc place) (asks_names given)) up_to;
      };
      named = λ any opening.
          let found : ◌≡◌ {A = Option (List ℕ)} (Some any) (Some name) = sym opening ∙ is in
          cc found;
      names = is;
      no_replies = λ other. cc other;
      no_save = λ other. cc other;
      no_faults_of = λ number other. cc other;
      no_replies_of = λ number other. cc other;
    }

-- a fault of the reading of a file is none of the opening to write
other_than : (which other : Which) (file : Option (List ℕ)) (fault : StartFault) → which ≢ other
    → IsFaultOfFile which file fault → fault ≢ Open other
other_than which other file Words apart is opens = is
other_than which other file (QueriesFault fault) apart is opens = is
other_than which other file (JoinsFaulty fault) apart is opens = is
other_than which other file (AsksFault fault) apart is opens = is
other_than which other file (Open one) apart is opens =
    let same : one ≡ other = cc opens in
    apart (sym is ∙ same)
other_than which other file (Read one) apart is opens = absurd (cc opens)
other_than which other file (Long one) apart is opens = absurd (cc opens)
other_than which other file Memory apart is opens = absurd (cc opens)

-- the name of the file that couldn't be opened
is_opening : (given : Settings) (which : Which) (before : List (List ℕ)) (name : List ℕ)
    (file : Option (List ℕ)) (fault : StartFault) → IsPlace given which before name
    → IsFaultOfFile which file fault → (any : List ℕ) → IsOpeningOf given any fault
    → (fault ≡ Open which) × (any ≡ name)
is_opening given which before name file Words at is any opening = absurd opening
is_opening given which before name file (QueriesFault fault) at is any opening = absurd opening
is_opening given which before name file (JoinsFaulty fault) at is any opening = absurd opening
is_opening given which before name file (AsksFault fault) at is any opening = absurd opening
is_opening given which before name file (Open one) at is any opening =
    let same : Open one ≡ Open which = ap (λ w. Open w) is in
    (same, at.named any (subst (λ (f : StartFault). IsOpeningOf given any f) same opening))
is_opening given which before name file (Read one) at is any opening = absurd opening
is_opening given which before name file (Long one) at is any opening = absurd opening
is_opening given which before name file Memory at is any opening = absurd opening

-- the names that were opened are those of a run that doesn't begin for this
opened_to : (given : Settings) (which : Which) (before : List (List ℕ)) (name : List ℕ)
    (file : Option (List ℕ)) (fault : StartFault) (names : List (List ℕ)) → IsPlace given which before name
    → IsFaultOfFile which file fault → AreNamesOfFile name (Some fault) names
    → AreOpened given (Some fault) (before ++ names)
opened_to given which before name file Words names at is are = absurd is
opened_to given which before name file (QueriesFault fault) names at is are = absurd is
opened_to given which before name file (JoinsFaulty fault) names at is are = absurd is
opened_to given which before name file (AsksFault fault) names at is are = absurd is
opened_to given which before name file (Open one) names at is are =
    ap (λ (ns : List (List ℕ)). before ++ ns) are ∙ (append-nil before
    ∙ (sym at.behind ∙ ap (λ w. names_before given w) (sym is)))
opened_to given which before name file (Read one) names at is are =
    ap (λ (ns : List (List ℕ)). before ++ ns) are ∙ (sym at.up_to ∙ ap (λ w. names_up_to given w) (sym is))
opened_to given which before name file (Long one) names at is are =
    ap (λ (ns : List (List ℕ)). before ++ ns) are ∙ (sym at.up_to ∙ ap (λ w. names_up_to given w) (sym is.0))
opened_to given which before name file Memory names at is are = record {
  rest = are.rest ++ at.front.rest;
  cut = at.front.cut ∙ (ap (λ (ns : List (List ℕ)). (before ++ ns) ++ at.front.rest) are.cut
      ∙ (append_assoc before (names ++ are.rest) at.front.rest
      ∙ (ap (λ (ns : List (List ℕ)). before ++ ns) (append_assoc names are.rest at.front.rest)
      ∙ sym (append_assoc before names (are.rest ++ at.front.rest)))));
}

-- a name of which no opening failed
quietly : (given : Settings) (which : Which) (before : List (List ℕ)) (name : List ℕ)
    (file : Option (List ℕ)) (fault : StartFault) (old new : List ℕ → ℕ) → IsPlace given which before name
    → IsFaultOfFile which file fault → CountsOpening (fault ≡ Open which) name old new
    → (any : List ℕ) → (IsOpeningOf given any fault → ⊥) → new any ≡ old any
quietly given which before name file Words old new at is counts any none = absurd is
quietly given which before name file (QueriesFault fault) old new at is counts any none = absurd is
quietly given which before name file (JoinsFaulty fault) old new at is counts any none = absurd is
quietly given which before name file (AsksFault fault) old new at is counts any none = absurd is
quietly given which before name file (Open one) old new at is counts any none =
    let opening : IsOpeningOf given name (Open one) =
    subst (λ (w : Which). IsOpeningOf given name (Open w)) (sym is) at.names in
    counts.others any (λ same. none (subst (λ (n : List ℕ). IsOpeningOf given n (Open one)) (sym same) opening))
quietly given which before name file (Read one) old new at is counts any none =
    counts.quiet (λ opens. absurd (cc opens)) any
quietly given which before name file (Long one) old new at is counts any none =
    counts.quiet (λ opens. absurd (cc opens)) any
quietly given which before name file Memory old new at is counts any none =
    counts.quiet (λ opens. absurd (cc opens)) any

-- a file was opened and read, or not
pub uses_file : {F : Type 0} {holds : F → List ℕ → Option (List ℕ)} {opened made : F → List (List ℕ)}
    {unread unmade : F → List ℕ → ℕ} (given : Settings) (which : Which) (before : List (List ℕ))
    (name : List ℕ) (file : Option (List ℕ)) (start : Option StartFault) (old new : F)
    → IsPlace given which before name → IfSome start (IsFaultOfFile which file)
    → OpensFile holds opened made unread unmade which name start old new
    → UsesMore holds opened made unread unmade given before (name ∷ []) [] start old new
uses_file {F} {holds} {opened} {made} {unread} {unmade} given which before name file start old new at is opens =
    only_reads given before (name ∷ []) start old new (reads start is) opens.kept opens.unmade_stays
    (record {
      names = opens.opens.names;
      of_kind = kind start is opens.opens.names opens.opens.of_kind;
      more = opens.opens.more;
    })
    (λ any. opening start is opens.openings any)
  where
    reads : (s : Option StartFault) → IfSome s (IsFaultOfFile which file) → IfSome s IsToRead
    reads None is = tt
    reads (Some fault) is = record {
      no_replies = other_than which Replies file fault at.no_replies is;
      no_save = other_than which Save file fault at.no_save is;
      no_faults_of = λ number.
          other_than which (FaultsOf number) file fault (at.no_faults_of number) is;
      no_replies_of = λ number.
          other_than which (RepliesOf number) file fault (at.no_replies_of number) is;
    }

    kind : (s : Option StartFault) → IfSome s (IsFaultOfFile which file) → (names : List (List ℕ))
        → AreNamesOfFile name s names → AreOpenedBehind given before (name ∷ []) s names
    kind None is names are = are
    kind (Some fault) is names are = opened_to given which before name file fault names at is are

    opening : (s : Option StartFault) → IfSome s (IsFaultOfFile which file)
        → CountsOpening (IsSomeAnd s (λ fault. fault ≡ Open which)) name (unread old) (unread new)
        → (any : List ℕ) → CountsFault (IsSomeAnd s (λ fault. IsOpeningOf given any fault))
        (unread old any) (unread new any)
    opening None is counts any = record {
      never_falls = counts.never_fall any;
      rose = λ opening. absurd opening;
      quiet = λ none. counts.quiet none any;
    }
    opening (Some fault) is counts any = record {
      never_falls = counts.never_fall any;
      rose = λ opening.
          let found = is_opening given which before name file fault at is any opening in
          subst (λ (n : List ℕ). Rose (unread old n) (unread new n)) (sym found.1) (counts.rose found.0);
      quiet = quietly given which before name file fault (unread old) (unread new) at is counts any;
    }

-- a file that isn't opened
pub opening_refusal : {S : Type 0} (which : Which) (refusal : Refusal S) → IsRefusalOfOpening which refusal
    → IsFaultOfFile which None refusal.fault
opening_refusal {S} which refusal is = elim is.cause [
  | inl opening ↦ subst (λ (f : StartFault). IsFaultOfFile which None f) (sym opening) refl
  | inr memory ↦ subst (λ (f : StartFault). IsFaultOfFile which None f) (sym memory) tt
]

-- the saved window was opened, or not
pub from_opened : {F : Type 0} {holds : F → List ℕ → Option (List ℕ)} {opened made : F → List (List ℕ)}
    {unread unmade : F → List ℕ → ℕ} (given : Settings) (name : List ℕ) (start : Option StartFault) (old new : F)
    → from_of given ≡ Some name → IfSome start (IsFaultOfFile From None)
    → OpensFile holds opened made unread unmade From name start old new
    → UsesMore holds opened made unread unmade given (whole_names given) (option_to_list (from_of given)) [] start old new
from_opened {F} {holds} {opened} {made} {unread} {unmade} given name start old new named cause opens =
    subst (λ (ns : List (List ℕ)). UsesMore holds opened made unread unmade given (whole_names given) ns [] start old new)
    (sym (ap (λ (o : Option (List ℕ)). option_to_list o) named))
    (uses_file given From (whole_names given) name None start old new (from_place given name named) cause opens)

-- the asks file was read whole and taken, or not for a fault of its bytes
pub uses_asks : {F : Type 0} {holds : F → List ℕ → Option (List ℕ)}
    {opened made : F → List (List ℕ)} {unread unmade : F → List ℕ → ℕ} (given : Settings)
    (name : List ℕ) (queries : List Query) (bytes : List ℕ) (start : Option StartFault) (old new : F)
    → asks_of given ≡ Some name
    → IfSome start (IsFaultOfAsks queries bytes)
    → OpensFile holds opened made unread unmade Asks name None old new
    → UsesMore holds opened made unread unmade given (understood_names given)
    (option_to_list (asks_of given)) [] start old new
uses_asks {F} {holds} {opened} {made} {unread} {unmade} given name queries bytes start old new is
    cause opens =
    by start cause
  where
    taken : UsesMore holds opened made unread unmade given (understood_names given) (name ∷ []) []
        None old new
    taken = uses_file given Asks (understood_names given) name None None old new
        (asks_place given name is) tt opens

    only : name ∷ [] ≡ option_to_list (asks_of given)
    only = ap (λ (a : Option (List ℕ)). option_to_list a) (sym is)

    by : (s : Option StartFault) → IfSome s (IsFaultOfAsks queries bytes)
        → UsesMore holds opened made unread unmade given (understood_names given)
        (option_to_list (asks_of given)) [] s old new
    by None cause = subst (λ (ns : List (List ℕ)). UsesMore holds opened made unread unmade given
        (understood_names given) ns [] None old new) only taken
    by (Some Words) cause = absurd cause
    by (Some (QueriesFault fault)) cause = absurd cause
    by (Some (JoinsFaulty fault)) cause = absurd cause
    by (Some (AsksFault fault)) cause = then_refused (option_to_list (asks_of given)) (AsksFault fault)
        tt (ap (λ (ns : List (List ℕ)). understood_names given ++ ns) only) taken
    by (Some (Open which)) cause = absurd cause
    by (Some (Read which)) cause = absurd cause
    by (Some (Long which)) cause = absurd cause
    by (Some Memory) cause = then_refused (option_to_list (asks_of given)) Memory tt
        (asks_place given name is).front taken

-- one stream more was opened, or not, behind those before it
pub uses_stream : {F : Type 0} {holds : F → List ℕ → Option (List ℕ)} {opened made : F → List (List ℕ)}
    {unread unmade : F → List ℕ → ℕ} (given : Settings) (place number : ℕ) (name : List ℕ)
    (start : Option StartFault) (old between new : F) → number ≡ suc place
    → slice_get (streams_of given) place ≡ Some name
    → UsesMore holds opened made unread unmade given (first_names given) (take place (streams_of given)) [] None old between
    → IfSome start (IsFaultOfFile (Stream number) None)
    → OpensFile holds opened made unread unmade (Stream number) name start between new
    → UsesMore holds opened made unread unmade given (first_names given) (take number (streams_of given)) [] start old new
uses_stream {F} {holds} {opened} {made} {unread} {unmade} given place number name start old between new next is
    before cause opens =
    let at : IsPlace given (Stream number) (first_names given ++ take place (streams_of given)) name =
    subst (λ (n : ℕ). IsPlace given (Stream n) (first_names given ++ take place (streams_of given)) name) (sym next)
    (stream_place given place name is) in
    let names : take place (streams_of given) ++ name ∷ [] ≡ take number (streams_of given) =
    sym (one_more (streams_of given) place name is) ∙ ap (λ (n : ℕ). take n (streams_of given)) (sym next) in
    subst (λ (ns : List (List ℕ)). UsesMore holds opened made unread unmade given (first_names given) ns [] start old new)
    names (one_by_one before (uses_file given (Stream number) (first_names given ++ take place (streams_of given)) name
    None start between new at cause opens))

-- where memory ran out behind some streams, their names stand at the front of all
pub front_of_streams : (given : Settings) (place : ℕ)
    → AreOpened given (Some Memory) (first_names given ++ take place (streams_of given))
front_of_streams given place = record {
  rest = drop place (streams_of given) ++ asks_names given;
  cut = front_with (first_names given) (streams_of given) (asks_names given) place;
}

-- what one reader more asks was opened, or not, behind what those before it do
pub uses_asks_of : {F : Type 0} {holds : F → List ℕ → Option (List ℕ)}
    {opened made : F → List (List ℕ)} {unread unmade : F → List ℕ → ℕ} (given : Settings)
    (place number : ℕ) (name : List ℕ) (start : Option StartFault) (old between new : F)
    → number ≡ suc place → slice_get (asks_names given) place ≡ Some name
    → UsesMore holds opened made unread unmade given (names_with_streams given)
    (take place (asks_names given)) [] None old between
    → IfSome start (IsFaultOfFile (AsksOf number) None)
    → OpensFile holds opened made unread unmade (AsksOf number) name start between new
    → UsesMore holds opened made unread unmade given (names_with_streams given)
    (take number (asks_names given)) [] start old new
uses_asks_of {F} {holds} {opened} {made} {unread} {unmade} given place number name start old between
    new next is before cause opens =
    let behind = names_with_streams given ++ take place (asks_names given) in
    let at : IsPlace given (AsksOf number) behind name =
    subst (λ (n : ℕ). IsPlace given (AsksOf n) behind name) (sym next)
    (asks_of_place given place name is) in
    let names : take place (asks_names given) ++ name ∷ [] ≡ take number (asks_names given) =
    sym (one_more (asks_names given) place name is)
    ∙ ap (λ (n : ℕ). take n (asks_names given)) (sym next) in
    subst (λ (ns : List (List ℕ)). UsesMore holds opened made unread unmade given
    (names_with_streams given) ns [] start old new)
    names (one_by_one before (uses_file given (AsksOf number) behind name None start between new at
    cause opens))

-- where memory ran out behind what some readers ask, their names stand at the front of all
pub front_of_asks : (given : Settings) (place : ℕ)
    → AreOpened given (Some Memory) (names_with_streams given ++ take place (asks_names given))
front_of_asks given place =
    record { rest = drop place (asks_names given); cut = front_of_all given place }

-- behind no byte stands all that a file holds
pub join_nothing : (file : Option (List ℕ)) → join_known (Some []) file ≡ file
join_nothing None = refl
join_nothing (Some bytes) = refl

-- what the one stream is that reads a saved window before its file
pub behind_contents : {S : Type 0} (left : S → Option (List ℕ)) (holds now : List ℕ → Option (List ℕ))
    (given : Settings) (name stream : List ℕ) (first : Option (List ℕ)) (reader : ReaderState S)
    (readers : List (ReaderState S)) → from_of given ≡ Some name → streams_of given ≡ stream ∷ [] → now ≡ holds
    → first ≡ holds name → left reader.source ≡ join_known first (now stream) → readers ≡ reader ∷ []
    → stream_contents given holds ≡ map (λ (r : ReaderState S). left r.source) readers
behind_contents {S} left holds now given name stream first reader readers named one same content read all =
    ap₂ (λ (f : Option (List ℕ)) (ns : List (List ℕ)).
    with_first (unwrap_or (option_map holds f) (Some [])) (map holds ns)) named one
    ∙ (ap (λ (c : Option (List ℕ)). c ∷ []) (sym (read ∙ (ap₂ (λ (f : Option (List ℕ)) (h : List ℕ → Option (List ℕ)).
    join_known f (h stream)) content same)))
    ∙ ap (λ (rs : List (ReaderState S)). map (λ (r : ReaderState S). left r.source) rs) (sym all))

-- what the streams hold, with one stream more
pub one_content_more : {S : Type 0} (left : S → Option (List ℕ)) (holds now : List ℕ → Option (List ℕ))
    (given : Settings) (place number : ℕ) (name : List ℕ) (readers more : List (ReaderState S))
    (reader : ReaderState S) → number ≡ suc place → slice_get (streams_of given) place ≡ Some name → now ≡ holds
    → map holds (take place (streams_of given)) ≡ map (λ (r : ReaderState S). left r.source) readers
    → left reader.source ≡ now name → more ≡ readers ++ reader ∷ []
    → map holds (take number (streams_of given)) ≡ map (λ (r : ReaderState S). left r.source) more
one_content_more {S} left holds now given place number name readers more reader next is same before content
    pushed =
    ap (λ (n : ℕ). map holds (take n (streams_of given))) next
    ∙ (ap (λ (ns : List (List ℕ)). map holds ns) (one_more (streams_of given) place name is)
    ∙ (map-append holds (take place (streams_of given)) (name ∷ [])
    ∙ (ap (λ (fs : List (Option (List ℕ))). fs ++ holds name ∷ []) before
    ∙ (ap (λ (f : Option (List ℕ)). map (λ (r : ReaderState S). left r.source) readers ++ f ∷ [])
    (ap (λ (h : List ℕ → Option (List ℕ)). h name) (sym same) ∙ sym content)
    ∙ (sym (map-append (λ (r : ReaderState S). left r.source) readers (reader ∷ []))
    ∙ ap (λ (rs : List (ReaderState S)). map (λ (r : ReaderState S). left r.source) rs) (sym pushed))))))
