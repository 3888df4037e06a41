-- The fields of a line give an ask, or have a first fault.
use Rattle.std.proofs.Common.{◌≡◌, ℕ, zero, suc, ◌≤◌, false, Some, Ok, Err, List, [], ◌∷◌, codes}
use Rattle.std.proofs.Common.{refl, sym, ap, subst, ◌∙◌, arith, inl, inr, ⊎_elim, ◌⊎◌}
use Rattle.std.specs.Prelude.{Contains, slice_get, bytes_eq}
use Rattle.std.proofs.lemmas.Bool.{false≢true}
use Rattle.std.proofs.lemmas.Option.{same_Some}
use Rattle.std.proofs.lemmas.Slice.Eq.{bytes_eq-Decides}
use Rattle.text_parts.specs.Numbers.{number_of}
use Rattle.text_parts.specs.Reading.{◌>>=◌}
use Rattle.rpq_base.specs.Names.{IsName}
use Rattle.rpq_base.proofs.Members.{cons_members}
use Rattle.rpq_model.specs.Query.{Query, query_named}
use Rattle.answer_rows.specs.Answers.{pair}
use Rattle.ask_text.specs.declared.ask.Ask.{Ask}
use Rattle.ask_text.specs.declared.ask.Ask.TheVariants.{Answers, From, Pair, Count, Wait, Until}
use Rattle.ask_text.specs.declared.ask.Ask.TheVariants.{Stats, Clock, Ends, To}
use Rattle.ask_text.specs.declared.fault.AskKind.{AskKind}
use Rattle.ask_text.specs.declared.fault.AskKind.TheVariants.{Shape, UnknownQuery, BadName, Number}
use Rattle.ask_text.specs.declared.fault.AskKind.TheVariants.{TooMany, Memory}
use Rattle.ask_text.specs.Reading.{position_of, ask_of_one, ask_of_two, vertex_at, ask_of_three}
use Rattle.ask_text.specs.Reading.{pair_of, ask_of_four, ask_of_fields}
use Rattle.ask_text.specs.Parts.{names, IsPositionText, IsLoneWord, IsQueryWord, IsVertexWord}
use Rattle.ask_text.specs.Parts.{IsPairWord, IsAskOf, IsForm}
use Rattle.ask_text.specs.Parts.{HasAskFault, IsFirstNamed, number_of_kind}
use Rattle.ask_text.proofs.Steps.{WordCase, is_it, unlike, word_case, QueryCase, known, unknown}
use Rattle.ask_text.proofs.Steps.{query_case, VertexCase, vertex, no_vertex, vertex_case}
use Rattle.ask_text.proofs.Steps.{PositionCase, written, no_position, position_case}

-- the fields have the fault, and none of a lesser number
pub record IsFirstOf (queries : List Query) (fields : List (List ℕ)) (kind : AskKind) : Type 0 where
  pub has : HasAskFault queries fields kind
  pub least : (less : AskKind) → HasAskFault queries fields less →
      number_of_kind kind ≤ number_of_kind less

-- how the fields end
pub data AskEnds (queries : List Query) (fields : List (List ℕ)) : Type 0 where
  gives_ask : (ask : Ask) → IsAskOf queries ask fields →
      ((kind : AskKind) → HasAskFault queries fields kind → ⊥) →
      ask_of_fields queries fields ≡ Ok ask → AskEnds queries fields
  has_fault : (kind : AskKind) → IsFirstOf queries fields kind →
      ask_of_fields queries fields ≡ Err kind → AskEnds queries fields

-- fields without the form of an ask
no_form : (queries : List Query) (fields : List (List ℕ)) → (IsForm fields → ⊥) →
    ask_of_fields queries fields ≡ Err Shape → AskEnds queries fields
no_form queries fields none e = has_fault Shape (record { has = none; least = least }) e
  where
    least : (less : AskKind) → HasAskFault queries fields less → 1 ≤ number_of_kind less
    least Shape f = omega arith
    least UnknownQuery f = omega arith
    least BadName f = omega arith
    least Number f = omega arith
    least TooMany f = omega arith
    least Memory f = omega arith

-- an unknown query is the first fault of fields with the form of an ask
unknown_first : (queries : List Query) (fields : List (List ℕ)) → IsForm fields →
    HasAskFault queries fields UnknownQuery → ask_of_fields queries fields ≡ Err UnknownQuery →
    AskEnds queries fields
unknown_first queries fields form has e =
    has_fault UnknownQuery (record { has = has; least = least }) e
  where
    least : (less : AskKind) → HasAskFault queries fields less → 2 ≤ number_of_kind less
    least Shape f = absurd (f form)
    least UnknownQuery f = omega arith
    least BadName f = omega arith
    least Number f = omega arith
    least TooMany f = omega arith
    least Memory f = omega arith

-- a bad name is where the query is known
bad_name_first : (queries : List Query) (fields : List (List ℕ)) → IsForm fields →
    (HasAskFault queries fields UnknownQuery → ⊥) →
    HasAskFault queries fields BadName → ask_of_fields queries fields ≡ Err BadName →
    AskEnds queries fields
bad_name_first queries fields form named has e =
    has_fault BadName (record { has = has; least = least }) e
  where
    least : (less : AskKind) → HasAskFault queries fields less → 3 ≤ number_of_kind less
    least Shape f = absurd (f form)
    least UnknownQuery f = absurd (named f)
    least BadName f = omega arith
    least Number f = omega arith
    least TooMany f = omega arith
    least Memory f = omega arith

-- two words that differ
apart : (one two : List ℕ) → bytes_eq one two ≡ false → one ≡ two → ⊥
apart one two e same = false≢true (sym e ∙ (bytes_eq-Decides one two).1 same)

query_word_apart : (word : List ℕ) → IsQueryWord word → word ≡ codes "wait" → ⊥
query_word_apart word (inl answers) wait =
    apart (codes "answers") (codes "wait") refl (sym answers ∙ wait)
query_word_apart word (inr count) wait =
    apart (codes "count") (codes "wait") refl (sym count ∙ wait)

-- what stands at a place is a member
pub contains_at : (list : List (List ℕ)) (place : ℕ) (x : List ℕ) → slice_get list place ≡ Some x →
    Contains list x
contains_at [] place x e = absurd cc
contains_at (first ∷ list) zero x e = (cons_members first list x).1 (inl (same_Some first x e))
contains_at (first ∷ list) (suc place) x e =
    (cons_members first list x).1 (inr (contains_at list place x e))

-- a query that is known isn't unknown
is_known : (queries : List Query) (number : ℕ) (name field : List ℕ) →
    IsFirstNamed queries number name →
    field ≡ name → (Contains (names queries) field → ⊥) → ⊥
is_known queries number name field is same none =
    none (subst (Contains (names queries)) (sym same)
    (contains_at (names queries) number name is.has))

-- two fields, of which the first is the word of an ask about a query
of_query : (queries : List Query) (word name : List ℕ) (make : ℕ → Ask) → IsQueryWord word →
    ((q : ℕ) → IsFirstNamed queries q name → IsAskOf queries (make q) (word ∷ name ∷ [])) →
    ask_of_fields queries (word ∷ name ∷ []) ≡ (query_named UnknownQuery queries name >>= λ q. Ok (make q)) →
    QueryCase queries name → AskEnds queries (word ∷ name ∷ [])
of_query queries word name make w asks e (unknown none found) =
    unknown_first queries (word ∷ name ∷ []) (inl w) (name, (w, refl), none)
    (e ∙ ap (λ r. r >>= λ q. Ok (make q)) found)
of_query queries word name make w asks e (known q is found) =
    gives_ask (make q) (asks q is) no_fault (e ∙ ap (λ r. r >>= λ q. Ok (make q)) found)
  where
    no_fault : (kind : AskKind) → HasAskFault queries (word ∷ name ∷ []) kind → ⊥
    no_fault Shape f = f (inl w)
    no_fault UnknownQuery (field, (same_word, same), none) =
        is_known queries q name field is same none
    no_fault BadName (field, has, bad) = has
    no_fault Number (field, (wait, same), bad) = query_word_apart word w wait
    no_fault TooMany f = f
    no_fault Memory f = f

-- two fields, of which the first is `wait`
of_wait : (queries : List Query) (word text : List ℕ) → word ≡ codes "wait" →
    ask_of_fields queries (word ∷ text ∷ []) ≡ (position_of text >>= λ n. Ok (Wait n)) →
    PositionCase text → AskEnds queries (word ∷ text ∷ [])
of_wait queries word text w e (written is found) =
    gives_ask (Wait (number_of text))
    (text, ap (λ (first : List ℕ). first ∷ text ∷ []) w, is) no_fault
    (e ∙ ap (λ r. r >>= λ n. Ok (Wait n)) found)
  where
    no_fault : (kind : AskKind) → HasAskFault queries (word ∷ text ∷ []) kind → ⊥
    no_fault Shape f = f (inr w)
    no_fault UnknownQuery (field, (same_word, same), none) = query_word_apart word same_word w
    no_fault BadName (field, has, bad) = has
    no_fault Number (field, (wait, same), bad) =
        bad (number_of text) (subst (λ (t : List ℕ). IsPositionText (number_of text) t)
        (sym same) is)
    no_fault TooMany f = f
    no_fault Memory f = f
of_wait queries word text w e (no_position none found) =
    has_fault Number (record { has = (text, (w, refl), none); least = least })
    (e ∙ ap (λ r. r >>= λ n. Ok (Wait n)) found)
  where
    least : (less : AskKind) → HasAskFault queries (word ∷ text ∷ []) less → 4 ≤ number_of_kind less
    least Shape f = absurd (f (inr w))
    least UnknownQuery (field, (same_word, same), none) = absurd (query_word_apart word same_word w)
    least BadName (field, has, bad) = absurd has
    least Number f = omega arith
    least TooMany f = omega arith
    least Memory f = omega arith

-- two fields
two_ends : (queries : List Query) (word field : List ℕ) → AskEnds queries (word ∷ field ∷ [])
unfolding ask_of_fields ask_of_two
two_ends queries word field = by (word_case word (codes "answers")) (word_case word (codes "count"))
    (word_case word (codes "wait"))
  where
    by : WordCase word (codes "answers") → WordCase word (codes "count") →
        WordCase word (codes "wait") → AskEnds queries (word ∷ field ∷ [])
    by (is_it same e) count wait =
        of_query queries word field (λ q. Answers q) (inl same)
        (λ q is. (field, ap (λ (first : List ℕ). first ∷ field ∷ []) same, is)) (rw e refl)
        (query_case queries field)
    by (unlike no_answers e) (is_it same f) wait =
        of_query queries word field (λ q. Count q) (inr same)
        (λ q is. (field, ap (λ (first : List ℕ). first ∷ field ∷ []) same, is)) (rw (e, f) refl)
        (query_case queries field)
    by (unlike no_answers e) (unlike no_count f) (is_it same g) =
        of_wait queries word field same (rw (e, f, g) refl) (position_case field)
    by (unlike no_answers e) (unlike no_count f) (unlike no_wait g) =
        no_form queries (word ∷ field ∷ [])
        (λ form. ⊎_elim (λ query. ⊎_elim no_answers no_count query) no_wait form)
        (rw (e, f, g) refl)

-- one field, which is the word of an ask
of_lone : (queries : List Query) (word : List ℕ) (ask : Ask) → IsLoneWord word →
    IsAskOf queries ask (word ∷ []) → ask_of_fields queries (word ∷ []) ≡ Ok ask →
    AskEnds queries (word ∷ [])
of_lone queries word ask w is e = gives_ask ask is no_fault e
  where
    no_fault : (kind : AskKind) → HasAskFault queries (word ∷ []) kind → ⊥
    no_fault Shape f = f w
    no_fault UnknownQuery (field, has, none) = has
    no_fault BadName (field, has, bad) = has
    no_fault Number (field, has, bad) = has
    no_fault TooMany f = f
    no_fault Memory f = f

-- one field
one_ends : (queries : List Query) (word : List ℕ) → AskEnds queries (word ∷ [])
unfolding ask_of_fields ask_of_one
one_ends queries word = by (word_case word (codes "stats")) (word_case word (codes "clock"))
  where
    by : WordCase word (codes "stats") → WordCase word (codes "clock") → AskEnds queries (word ∷ [])
    by (is_it same e) clock =
        of_lone queries word Stats (inl same) (ap (λ (first : List ℕ). first ∷ []) same) (rw e refl)
    by (unlike no_stats e) (is_it same f) =
        of_lone queries word Clock (inr same) (ap (λ (first : List ℕ). first ∷ []) same)
        (rw (e, f) refl)
    by (unlike no_stats e) (unlike no_clock f) =
        no_form queries (word ∷ []) (λ form. ⊎_elim no_stats no_clock form) (rw (e, f) refl)

-- how a query and a vertex end
data VertexEnds (queries : List Query) (name field : List ℕ) : Type 0 where
  both_named : (q : ℕ) → IsFirstNamed queries q name → IsName field →
      vertex_at queries name field ≡ Ok (q, field) → VertexEnds queries name field
  no_such_query : (Contains (names queries) name → ⊥) →
      vertex_at queries name field ≡ Err UnknownQuery → VertexEnds queries name field
  bad_vertex : (q : ℕ) → IsFirstNamed queries q name → (IsName field → ⊥) →
      vertex_at queries name field ≡ Err BadName → VertexEnds queries name field

vertex_ends : (queries : List Query) (name field : List ℕ) → VertexEnds queries name field
unfolding vertex_at
vertex_ends queries name field = by (query_case queries name) (vertex_case field)
  where
    by : QueryCase queries name → VertexCase field → VertexEnds queries name field
    by (unknown none found) v = no_such_query none (rw found refl)
    by (known q is found) (no_vertex bad read) = bad_vertex q is bad (rw (found, read) refl)
    by (known q is found) (vertex named read) = both_named q is named (rw (found, read) refl)

-- three fields, of which the first is the word of an ask about a vertex
of_vertex : (queries : List Query) (word name field : List ℕ) (make : ℕ → List ℕ → Ask) →
    IsVertexWord word →
    ((q : ℕ) → IsFirstNamed queries q name → IsName field →
    IsAskOf queries (make q field) (word ∷ name ∷ field ∷ [])) →
    ask_of_fields queries (word ∷ name ∷ field ∷ []) ≡ (vertex_at queries name field >>=
    λ p. Ok (make p.0 p.1)) →
    VertexEnds queries name field → AskEnds queries (word ∷ name ∷ field ∷ [])
of_vertex queries word name field make w asks e (no_such_query none found) =
    unknown_first queries (word ∷ name ∷ field ∷ []) w (name, (w, refl), none)
    (e ∙ ap (λ r. r >>= λ p. Ok (make p.0 p.1)) found)
of_vertex queries word name field make w asks e (bad_vertex q is bad found) =
    bad_name_first queries (word ∷ name ∷ field ∷ []) w
    (λ f. is_known queries q name f.0 is f.1.1 f.2) (field, (w, refl), bad)
    (e ∙ ap (λ r. r >>= λ p. Ok (make p.0 p.1)) found)
of_vertex queries word name field make w asks e (both_named q is named found) =
    gives_ask (make q field) (asks q is named) no_fault
    (e ∙ ap (λ r. r >>= λ p. Ok (make p.0 p.1)) found)
  where
    no_fault : (kind : AskKind) → HasAskFault queries (word ∷ name ∷ field ∷ []) kind → ⊥
    no_fault Shape f = f w
    no_fault UnknownQuery (other, (same_word, same), none) =
        is_known queries q name other is same none
    no_fault BadName (other, (same_word, same), bad) = bad (subst IsName (sym same) named)
    no_fault Number (other, has, bad) = has
    no_fault TooMany f = f
    no_fault Memory f = f

-- three fields
three_ends : (queries : List Query) (word name field : List ℕ) →
    AskEnds queries (word ∷ name ∷ field ∷ [])
unfolding ask_of_fields ask_of_three
three_ends queries word name field =
    by (word_case word (codes "from")) (word_case word (codes "ends")) (word_case word (codes "to"))
  where
    same_fields : (text : List ℕ) → word ≡ text → word ∷ name ∷ field ∷ [] ≡ text ∷ name ∷ field ∷ []
    same_fields text same = ap (λ (first : List ℕ). first ∷ name ∷ field ∷ []) same

    by : WordCase word (codes "from") → WordCase word (codes "ends") → WordCase word (codes "to") →
        AskEnds queries (word ∷ name ∷ field ∷ [])
    by (is_it same e) ends to =
        of_vertex queries word name field (λ q x. From q x) (inl same)
        (λ q is named. (name, same_fields (codes "from") same, is, named)) (rw e refl)
        (vertex_ends queries name field)
    by (unlike no_from e) (is_it same f) to =
        of_vertex queries word name field (λ q x. Ends q x) (inr (inl same))
        (λ q is named. (name, same_fields (codes "ends") same, is, named)) (rw (e, f) refl)
        (vertex_ends queries name field)
    by (unlike no_from e) (unlike no_ends f) (is_it same g) =
        of_vertex queries word name field (λ q x. To q x) (inr (inr same))
        (λ q is named. (name, same_fields (codes "to") same, is, named)) (rw (e, f, g) refl)
        (vertex_ends queries name field)
    by (unlike no_from e) (unlike no_ends f) (unlike no_to g) =
        no_form queries (word ∷ name ∷ field ∷ [])
        (λ form. ⊎_elim no_from (λ other. ⊎_elim no_ends no_to other) form) (rw (e, f, g) refl)

-- how a query and two vertices end
data PairCase (queries : List Query) (name from to : List ℕ) : Type 0 where
  all_named : (q : ℕ) → IsFirstNamed queries q name → IsName from → IsName to →
      pair_of queries name from to ≡ Ok (q, pair from to) → PairCase queries name from to
  no_query : (Contains (names queries) name → ⊥) → pair_of queries name from to ≡ Err UnknownQuery →
      PairCase queries name from to
  bad_one : (q : ℕ) → IsFirstNamed queries q name → (field : List ℕ) →
      (field ≡ from) ⊎ (field ≡ to) → (IsName field → ⊥) →
      pair_of queries name from to ≡ Err BadName →
      PairCase queries name from to

pair_case : (queries : List Query) (name from to : List ℕ) → PairCase queries name from to
unfolding pair_of
pair_case queries name from to = by (query_case queries name) (vertex_case from) (vertex_case to)
  where
    by : QueryCase queries name → VertexCase from → VertexCase to → PairCase queries name from to
    by (unknown none found) v w = no_query none (rw found refl)
    by (known q is found) (no_vertex bad read) w =
        bad_one q is from (inl refl) bad (rw (found, read) refl)
    by (known q is found) (vertex named read) (no_vertex bad also_read) =
        bad_one q is to (inr refl) bad (rw (found, read, also_read) refl)
    by (known q is found) (vertex named read) (vertex also also_read) =
        all_named q is named also (rw (found, read, also_read) refl)

-- four fields, of which the first is the word of an ask about a pair
of_pair : (queries : List Query) (word name from to : List ℕ) (make : ℕ → List ℕ → List ℕ → Ask) →
    IsPairWord word →
    ((q : ℕ) → IsFirstNamed queries q name → IsName from → IsName to →
    IsAskOf queries (make q from to) (word ∷ name ∷ from ∷ to ∷ [])) →
    ask_of_fields queries (word ∷ name ∷ from ∷ to ∷ []) ≡ (pair_of queries name from to >>=
    λ p. Ok (make p.0 p.1.from p.1.to)) →
    PairCase queries name from to → AskEnds queries (word ∷ name ∷ from ∷ to ∷ [])
of_pair queries word name from to make w asks e (no_query none found) =
    unknown_first queries (word ∷ name ∷ from ∷ to ∷ []) w (name, (w, refl), none)
    (e ∙ ap (λ r. r >>= λ p. Ok (make p.0 p.1.from p.1.to)) found)
of_pair queries word name from to make w asks e (bad_one q is field which bad found) =
    bad_name_first queries (word ∷ name ∷ from ∷ to ∷ []) w
    (λ f. is_known queries q name f.0 is f.1.1 f.2) (field, (w, which), bad)
    (e ∙ ap (λ r. r >>= λ p. Ok (make p.0 p.1.from p.1.to)) found)
of_pair queries word name from to make w asks e (all_named q is named also found) =
    gives_ask (make q from to) (asks q is named also) no_fault
    (e ∙ ap (λ r. r >>= λ p. Ok (make p.0 p.1.from p.1.to)) found)
  where
    no_fault : (kind : AskKind) → HasAskFault queries (word ∷ name ∷ from ∷ to ∷ []) kind → ⊥
    no_fault Shape f = f w
    no_fault UnknownQuery (field, (same_word, same), none) =
        is_known queries q name field is same none
    no_fault BadName (field, (same_word, inl same), bad) = bad (subst IsName (sym same) named)
    no_fault BadName (field, (same_word, inr same), bad) = bad (subst IsName (sym same) also)
    no_fault Number (field, has, bad) = has
    no_fault TooMany f = f
    no_fault Memory f = f

-- four fields
four_ends : (queries : List Query) (word name from to : List ℕ) →
    AskEnds queries (word ∷ name ∷ from ∷ to ∷ [])
unfolding ask_of_fields ask_of_four
four_ends queries word name from to =
    by (word_case word (codes "pair")) (word_case word (codes "until"))
  where
    by : WordCase word (codes "pair") → WordCase word (codes "until") →
        AskEnds queries (word ∷ name ∷ from ∷ to ∷ [])
    by (is_it same e) until =
        of_pair queries word name from to (λ q x y. Pair q x y) (inl same)
        (λ q is named also. (
          name,
          ap (λ (first : List ℕ). first ∷ name ∷ from ∷ to ∷ []) same,
          is,
          named,
          also,
        )) (rw e refl) (pair_case queries name from to)
    by (unlike no_pair e) (is_it same f) =
        of_pair queries word name from to (λ q x y. Until q x y) (inr same)
        (λ q is named also. (
          name,
          ap (λ (first : List ℕ). first ∷ name ∷ from ∷ to ∷ []) same,
          is,
          named,
          also,
        )) (rw (e, f) refl) (pair_case queries name from to)
    by (unlike no_pair e) (unlike no_until f) =
        no_form queries (word ∷ name ∷ from ∷ to ∷ []) (λ form. ⊎_elim no_pair no_until form)
        (rw (e, f) refl)

-- all fields
pub ask_ends : (queries : List Query) (fields : List (List ℕ)) → AskEnds queries fields
unfolding ask_of_fields
ask_ends queries [] = no_form queries [] (λ form. form) refl
ask_ends queries (word ∷ []) = one_ends queries word
ask_ends queries (word ∷ field ∷ []) = two_ends queries word field
ask_ends queries (word ∷ name ∷ field ∷ []) = three_ends queries word name field
ask_ends queries (word ∷ name ∷ from ∷ to ∷ []) = four_ends queries word name from to
ask_ends queries (a ∷ b ∷ c ∷ d ∷ e ∷ more) =
    no_form queries (a ∷ b ∷ c ∷ d ∷ e ∷ more) (λ form. form) refl
