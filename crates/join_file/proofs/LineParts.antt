-- What a line gives is known by its parts.
use Rattle.std.proofs.Common.{◌≡◌, ℕ, zero, suc, ◌<◌, ◌≤◌, Bool, true, false, List, [], ◌∷◌, ◌++◌, Result, Ok, Err, Option, Some, None, length, refl, sym, ap, subst, ◌∙◌, ◌⊎◌, inl, inr, ⊎_elim, arith}
use Rattle.std.specs.Prelude.{Contains, slice_get, bytes_eq, is_some, nat_le, if◌then◌else◌}
use Rattle.std.specs.List.{position, list_any, AllZip}
use Rattle.std.specs.Option.{unwrap_or}
use Rattle.std.specs.Cmp.Lexicographic.{same_text}
use Rattle.std.proofs.lemmas.Bool.{false≢true, cases_lt, lt-leb, le-leb}
use Rattle.std.proofs.lemmas.List.{append_assoc, append-nil}
use Rattle.std.proofs.lemmas.Option.{same_Some}
use Rattle.std.proofs.lemmas.Slice.Eq.{bytes_eq-Decides}
use Rattle.std.specs.Option.{ok_or}
use Rattle.text_parts.specs.Reading.{◌>>=◌}
use Rattle.text_parts.proofs.LineByLine.{same_ok, ok_no_err}
use Rattle.rpq_base.specs.Names.{is_name, IsName}
use Rattle.rpq_base.specs.Same.{same_name}
use Rattle.rpq_base.proofs.Equality.{names as name_test}
use Rattle.rpq_base.proofs.Members.{cons_members, none_in}
use Rattle.rpq_model.specs.Query.{Query, query_named}
use Rattle.join_file.specs.declared.data.Term.{Term}
use Rattle.join_file.specs.declared.data.Term.TheVariants.{Variable, Vertex}
use Rattle.join_file.specs.declared.data.JoinAtom.{JoinAtom}
use Rattle.join_file.specs.declared.fault.JoinFileFaultKind.{JoinFileFaultKind}
use Rattle.join_file.specs.declared.fault.JoinFileFaultKind.TheVariants.{Shape, Twice, TooMany}
use Rattle.join_file.specs.declared.fault.JoinFileFaultKind.TheVariants.{UnknownQuery, BadName}
use Rattle.join_file.specs.declared.fault.JoinFileFaultKind.TheVariants.{Memory}
use Rattle.join_file.specs.Joins.{JoinValue}
use Rattle.join_file.specs.JoinLine.{Read, AtomText, LineText, AtomsRead, none_read, variable_sign}
use Rattle.join_file.specs.JoinLine.{variable_name, is_known_query, named}
use Rattle.join_file.specs.JoinLine.{number_at, numbered, variable_of, term_by, term_of, atom_of}
use Rattle.join_file.specs.JoinLine.{with_atom, with_atoms, atoms_of, join_with, placed}
use Rattle.join_file.specs.JoinLine.{text_of_fields, join_of_fields}
use Rattle.join_file.specs.Parts.{query_names, join_names, IsVariable, HasParts, name_in, HasFault}
use Rattle.join_file.specs.Parts.{number_of_kind, IsFirstFault, IsTermOf, IsAtomOf, IsLineOf}
use Rattle.join_file.specs.Parts.{IsReadByParts, LineByParts}
use Rattle.join_file.proofs.Mapping.{mapped}
use Rattle.join_file.proofs.LineShape.{some_passes, AllCase, all_pass, one_fails, all_case}
use Rattle.join_file.proofs.LineShape.{PlaceCase, at, no_place, place_case, given_at, FieldCase}
use Rattle.join_file.proofs.LineShape.{variable, other, field_case}
use Rattle.join_file.proofs.LineShape.{TextCase, formed, unformed, text_case, parts_given}

-- ---- queries and names

data QueryCase (queries : List Query) (name : List ℕ) : Type 0 where
  known : (number : ℕ) → slice_get (query_names queries) number ≡ Some name → query_named UnknownQuery queries name ≡ Ok number →
      is_some (position (λ (query : Query). bytes_eq query.name name) queries) ≡ true → QueryCase queries name
  unknown : (Contains (query_names queries) name → ⊥) →
      is_some (position (λ (query : Query). bytes_eq query.name name) queries) ≡ false → QueryCase queries name

query_case : (queries : List Query) (name : List ℕ) → QueryCase queries name
unfolding query_named
query_case queries name = by (place_case test queries)
  where
    test : Query → Bool
    test query = bytes_eq query.name name

    by : PlaceCase test queries → QueryCase queries name
    by (at place query found there passes) =
        known place (given_at (λ (each : Query). each.name) queries place query there ∙ ap (λ (text : List ℕ). Some text) (same_text query.name name (sym passes)))
        (ap (λ (place : Option ℕ). ok_or place UnknownQuery) found) (ap (λ (place : Option ℕ). is_some place) found)
    by (no_place found none) = unknown
        (λ member.
        let from = (mapped (λ (each : Query). each.name) queries name).0 member in
        none from.0 from.1 ((bytes_eq-Decides from.0.name name).1 from.2))
        (ap (λ (place : Option ℕ). is_some place) found)

data NamedCase (field : List ℕ) : Type 0 where
  fine : IsName field → named field ≡ Ok field → NamedCase field
  bad_name : (IsName field → ⊥) → named field ≡ Err BadName → NamedCase field

named_case : (field : List ℕ) → NamedCase field
unfolding named
named_case field = by (is_name field) refl
  where
    by : (is : Bool) → is_name field ≡ is → NamedCase field
    by true e = fine e (ap (λ (b : Bool). if b then Ok field else Err BadName) e)
    by false e = bad_name (λ is. false≢true (sym e ∙ is)) (ap (λ (b : Bool). if b then Ok field else Err BadName) e)

-- ---- places in lists that grow

contains_at : (list : List (List ℕ)) (place : ℕ) (x : List ℕ) → slice_get list place ≡ Some x → Contains list x
contains_at [] place x e = absurd cc
contains_at (first ∷ list) zero x e = (cons_members first list x).1 (inl (same_Some first x e))
contains_at (first ∷ list) (suc place) x e = (cons_members first list x).1 (inr (contains_at list place x e))

at_front : (seen more : List (List ℕ)) (number : ℕ) (name : List ℕ) → slice_get seen number ≡ Some name → slice_get (seen ++ more) number ≡ Some name
at_front [] more number name e = absurd cc
at_front (first ∷ seen) more zero name e = e
at_front (first ∷ seen) more (suc number) name e = at_front seen more number name e

at_end : (seen : List (List ℕ)) (name : List ℕ) → slice_get (seen ++ name ∷ []) (length seen) ≡ Some name
at_end [] name = refl
at_end (first ∷ seen) name = at_end seen name

term_later : (seen more : List (List ℕ)) (field : List ℕ) (term : Term) → IsTermOf seen field term → IsTermOf (seen ++ more) field term
term_later seen more field (Variable number) is = (is.0, is.1, at_front seen more number is.0 is.2)
term_later seen more field (Vertex name) is = is

atom_later : (queries : List Query) (seen more after : List (List ℕ)) (text : AtomText) (atom : JoinAtom) → after ≡ seen ++ more →
    IsAtomOf queries seen text atom → IsAtomOf queries after text atom
atom_later queries seen more after text atom e is = subst (λ (list : List (List ℕ)). IsAtomOf queries list text atom) (sym e) (record {
  query = is.query;
  from = term_later seen more text.from atom.from is.from;
  to = term_later seen more text.to atom.to is.to;
})

-- ---- a term

data TermCase (seen : List (List ℕ)) (field : List ℕ) : Type 0 where
  term_good : (term : Term) (after more : List (List ℕ)) → after ≡ seen ++ more → term_of seen field ≡ Ok (term, after) → IsName (name_in field) →
      IsTermOf after field term → TermCase seen field
  term_bad : (IsName (name_in field) → ⊥) → term_of seen field ≡ Err BadName → TermCase seen field

term_case : (seen : List (List ℕ)) (field : List ℕ) → TermCase seen field
unfolding term_of
term_case seen field = by (field_case field)
  where
    in_variable : (name : List ℕ) → variable_name field ≡ Some name → name_in field ≡ name
    in_variable name e = ap (λ (found : Option (List ℕ)). unwrap_or found field) e

    of_variable : (name : List ℕ) → field ≡ variable_sign ∷ name → variable_name field ≡ Some name → IsName name → named name ≡ Ok name →
        PlaceCase (λ other. same_name other name) seen → TermCase seen field
    of_variable name is e good read (at place one found there passes) =
        let one_is : one ≡ name = (name_test one name).0 passes in
        term_good (Variable place) seen [] (sym (append-nil seen))
        (ap (term_by seen field) e ∙ ap (λ r. r >>= λ n. Ok (variable_of (numbered seen n))) read
        ∙ ap (λ (p : Option ℕ). Ok (variable_of (number_at seen name p))) found)
        (subst IsName (sym (in_variable name e)) good) (name, is, there ∙ ap (λ (each : List ℕ). Some each) one_is)
    of_variable name is e good read (no_place found none) =
        term_good (Variable (length seen)) (seen ++ name ∷ []) (name ∷ []) refl
        (ap (term_by seen field) e ∙ ap (λ r. r >>= λ n. Ok (variable_of (numbered seen n))) read
        ∙ ap (λ (p : Option ℕ). Ok (variable_of (number_at seen name p))) found)
        (subst IsName (sym (in_variable name e)) good) (name, is, at_end seen name)

    named_variable : (name : List ℕ) → field ≡ variable_sign ∷ name → variable_name field ≡ Some name → NamedCase name → TermCase seen field
    named_variable name is e (fine good read) = of_variable name is e good read (place_case (λ other. same_name other name) seen)
    named_variable name is e (bad_name bad read) = term_bad (λ good. bad (subst IsName (in_variable name e) good))
        (ap (term_by seen field) e ∙ ap (λ r. r >>= λ n. Ok (variable_of (numbered seen n))) read)

    in_vertex : variable_name field ≡ None → name_in field ≡ field
    in_vertex e = ap (λ (found : Option (List ℕ)). unwrap_or found field) e

    named_vertex : (IsVariable field → ⊥) → variable_name field ≡ None → NamedCase field → TermCase seen field
    named_vertex none e (fine good read) = term_good (Vertex field) seen [] (sym (append-nil seen))
        (ap (term_by seen field) e ∙ ap (λ r. r >>= λ n. Ok (Vertex n, seen)) read) (subst IsName (sym (in_vertex e)) good) (none, refl)
    named_vertex none e (bad_name bad read) = term_bad (λ good. bad (subst IsName (in_vertex e) good))
        (ap (term_by seen field) e ∙ ap (λ r. r >>= λ n. Ok (Vertex n, seen)) read)

    by : FieldCase field → TermCase seen field
    by (variable name is e) = named_variable name is e (named_case name)
    by (other none e) = named_vertex none e (named_case field)

-- ---- an atom

abbrev IsBad : AtomText → Type 0
IsBad text = (IsName (name_in text.from) → ⊥) ⊎ (IsName (name_in text.to) → ⊥)

data AtomCase (queries : List Query) (seen : List (List ℕ)) (text : AtomText) : Type 0 where
  atom_good : (atom : JoinAtom) (after more : List (List ℕ)) → after ≡ seen ++ more → atom_of queries seen text ≡ Ok (atom, after) →
      IsName (name_in text.from) × IsName (name_in text.to) → IsAtomOf queries after text atom → AtomCase queries seen text
  atom_bad : IsBad text → atom_of queries seen text ≡ Err BadName → AtomCase queries seen text

atom_case : (queries : List Query) (seen : List (List ℕ)) (text : AtomText) → is_known_query queries text ≡ true → AtomCase queries seen text
unfolding atom_of
atom_case queries seen text knows_it = by (query_case queries text.query) (term_case seen text.from)
  where
    by : QueryCase queries text.query → TermCase seen text.from → AtomCase queries seen text
    by (unknown none no_one) first = absurd (false≢true (sym no_one ∙ knows_it))
    by (known number has read is) (term_bad bad e) = atom_bad (inl bad) (rw (read, e) refl)
    by (known number has read is) (term_good from middle more grown e good of) = further (term_case middle text.to)
      where
        further : TermCase middle text.to → AtomCase queries seen text
        further (term_bad bad f) = atom_bad (inr bad) (rw (read, e, f) refl)
        further (term_good to after last ended f fine_too also) =
            atom_good (record { query = number; from = from; to = to }) after (more ++ last)
            (ended ∙ ap (λ (list : List (List ℕ)). list ++ last) grown ∙ append_assoc seen more last)
            (rw (read, e, f) refl) (good, fine_too) (record {
              query = has;
              from = subst (λ (list : List (List ℕ)). IsTermOf list text.from from) (sym ended) (term_later middle last text.from from of);
              to = also;
            })

-- ---- all atoms

data AtomsCase (queries : List Query) (read : AtomsRead) (texts : List AtomText) : Type 0 where
  atoms_good : (found : AtomsRead) (added : List JoinAtom) (more : List (List ℕ)) → found.seen ≡ read.seen ++ more → found.atoms ≡ read.atoms ++ added →
      with_atoms queries read texts ≡ Ok found →
      ((text : AtomText) → Contains texts text → IsName (name_in text.from) × IsName (name_in text.to)) →
      AllZip (IsAtomOf queries found.seen) texts added → AtomsCase queries read texts
  atoms_bad : (text : AtomText) → Contains texts text → IsBad text → with_atoms queries read texts ≡ Err BadName → AtomsCase queries read texts

atoms_case : (texts : List AtomText) (queries : List Query) (read : AtomsRead) →
    ((text : AtomText) → Contains texts text → is_known_query queries text ≡ true) → AtomsCase queries read texts
unfolding with_atoms
atoms_case [] queries read knows =
    atoms_good read [] [] (sym (append-nil read.seen)) (sym (append-nil read.atoms)) refl (λ text member. absurd (none_in text member)) tt
atoms_case (text ∷ texts) queries read knows =
    by (atom_case queries read.seen text (knows text ((cons_members text texts text).1 (inl refl))))
    (λ next. atoms_case texts queries next (λ each member. knows each ((cons_members text texts each).1 (inr member))))
  where
    onward : Result (Read JoinAtom) JoinFileFaultKind → Result AtomsRead JoinFileFaultKind
    onward outcome = outcome >>= λ one. with_atoms queries (with_atom read one) texts

    by : AtomCase queries read.seen text → ((next : AtomsRead) → AtomsCase queries next texts) → AtomsCase queries read (text ∷ texts)
    by (atom_bad bad e) later = atoms_bad text ((cons_members text texts text).1 (inl refl)) bad (ap onward e)
    by (atom_good atom after more grown e good of) later = further (later (with_atom read (atom, after)))
      where
        further : AtomsCase queries (with_atom read (atom, after)) texts → AtomsCase queries read (text ∷ texts)
        further (atoms_bad one member bad f) = atoms_bad one ((cons_members text texts one).1 (inr member)) bad (ap onward e ∙ f)
        further (atoms_good found added last ended atoms_are f all_good zip) =
            atoms_good found (atom ∷ added) (more ++ last)
            (ended ∙ ap (λ (list : List (List ℕ)). list ++ last) grown ∙ append_assoc read.seen more last)
            (atoms_are ∙ append_assoc read.atoms (atom ∷ []) added)
            (ap onward e ∙ f)
            (λ one member. ⊎_elim
            (λ here. subst (λ (each : AtomText). IsName (name_in each.from) × IsName (name_in each.to)) here good)
            (λ there. all_good one there)
            ((cons_members text texts one).0 member))
            (atom_later queries after last found.seen text atom ended of, zip)

-- ---- the place of a name among the joins

data TakenCase (before : List JoinValue) (name : List ℕ) : Type 0 where
  is_taken : Contains (join_names before) name → list_any (λ (join : JoinValue). same_name join.name name) before ≡ true → TakenCase before name
  is_free : (Contains (join_names before) name → ⊥) → list_any (λ (join : JoinValue). same_name join.name name) before ≡ false → TakenCase before name

taken_case : (before : List JoinValue) (name : List ℕ) → TakenCase before name
taken_case before name = by (list_any test before) refl
  where
    test : JoinValue → Bool
    test join = same_name join.name name

    by : (is : Bool) → list_any test before ≡ is → TakenCase before name
    by true e =
        let some = (some_passes test before).0 e in
        is_taken ((mapped (λ (join : JoinValue). join.name) before name).1 (some.0, some.1, (name_test some.0.name name).0 some.2)) e
    by false e = is_free (λ member.
        let from = (mapped (λ (join : JoinValue). join.name) before name).0 member in
        false≢true (sym e ∙ (some_passes test before).1 (from.0, from.1, (name_test from.0.name name).1 from.2))) e

-- ---- how a line ends

data LineEnds (queries : List Query) (before : List JoinValue) (fields : List (List ℕ)) : Type 0 where
  well : (join : JoinValue) → IsLineOf queries before fields join → join_of_fields queries before fields ≡ Ok join → LineEnds queries before fields
  badly : (kind : JoinFileFaultKind) → IsFirstFault queries before fields kind → join_of_fields queries before fields ≡ Err kind → LineEnds queries before fields

-- a line has one text
one_text : (fields : List (List ℕ)) (first second : LineText) → HasParts fields first → HasParts fields second → first ≡ second
one_text fields first second one two = same_ok first second (sym (parts_given fields first one) ∙ parts_given fields second two)

unformed_ends : (queries : List Query) (before : List JoinValue) (fields : List (List ℕ)) → ((text : LineText) → HasParts fields text → ⊥) →
    text_of_fields fields ≡ Err Shape → LineEnds queries before fields
unfolding join_of_fields
unformed_ends queries before fields none e = badly Shape (record { has = none; least = least })
    (ap (λ r. r >>= λ text. placed before text.name >>= λ name. atoms_of queries text.atoms >>= λ read. Ok (join_with name read)) e)
  where
    least : (less : JoinFileFaultKind) → HasFault queries before fields less → 1 ≤ number_of_kind less
    least Shape f = omega arith
    least (Twice name) f = omega arith
    least TooMany f = omega arith
    least UnknownQuery f = omega arith
    least BadName f = omega arith
    least Memory f = omega arith

-- a line with its parts, up to its place
up_to : (queries : List Query) (before : List JoinValue) (fields : List (List ℕ)) (text : LineText) (outcome : Result (List ℕ) JoinFileFaultKind) →
    text_of_fields fields ≡ Ok text → placed before text.name ≡ outcome →
    join_of_fields queries before fields ≡ (outcome >>= λ name. atoms_of queries text.atoms >>= λ read. Ok (join_with name read))
unfolding join_of_fields
up_to queries before fields text outcome e f =
    ap (λ r. r >>= λ text. placed before text.name >>= λ name. atoms_of queries text.atoms >>= λ read. Ok (join_with name read)) e
    ∙ ap (λ (r : Result (List ℕ) JoinFileFaultKind). r >>= λ name. atoms_of queries text.atoms >>= λ read. Ok (join_with name read)) f

placed_by : (before : List JoinValue) (name : List ℕ) (taken full : Bool) → list_any (λ (join : JoinValue). same_name join.name name) before ≡ taken →
    nat_le 32 (length before) ≡ full → placed before name ≡ (if taken then Err (Twice name) else if full then Err TooMany else Ok name)
unfolding placed
placed_by before name taken full e f = rw (e, f) refl

-- a join that may stand there
in_place : (queries : List Query) (before : List JoinValue) (fields : List (List ℕ)) (text : LineText) → HasParts fields text →
    text_of_fields fields ≡ Ok text → (Contains (join_names before) text.name → ⊥) → length before < 32 → placed before text.name ≡ Ok text.name →
    AllCase (is_known_query queries) text.atoms → LineEnds queries before fields
unfolding atoms_of
in_place queries before fields text parts e new room ok (one_fails atom member fails is) =
    badly UnknownQuery (record { has = (text, parts, (atom, member, lacks (query_case queries atom.query))); least = least })
    (up_to queries before fields text (Ok text.name) e ok
    ∙ ap (λ (b : Bool). (if b then with_atoms queries none_read text.atoms else Err UnknownQuery) >>= λ read. Ok (join_with text.name read)) is)
  where
    lacks : QueryCase queries atom.query → Contains (query_names queries) atom.query → ⊥
    lacks (known number has read knows_it) member = absurd (false≢true (sym fails ∙ knows_it))
    lacks (unknown none no_one) member = none member

    least : (less : JoinFileFaultKind) → HasFault queries before fields less → 4 ≤ number_of_kind less
    least Shape f = absurd (f text parts)
    least (Twice name) f = absurd (new (subst (Contains (join_names before)) (sym (ap (λ (t : LineText). t.name) (one_text fields text f.0 parts f.1) ∙ f.2)) f.3))
    least TooMany f = absurd (omega (arith, room, f))
    least UnknownQuery f = omega arith
    least BadName f = omega arith
    least Memory f = omega arith
in_place queries before fields text parts e new room ok (all_pass pass is) = by (atoms_case text.atoms queries none_read pass)
  where
    here : (outcome : Result AtomsRead JoinFileFaultKind) → with_atoms queries none_read text.atoms ≡ outcome →
        join_of_fields queries before fields ≡ (outcome >>= λ read. Ok (join_with text.name read))
    here outcome f =
        up_to queries before fields text (Ok text.name) e ok
        ∙ ap (λ (b : Bool). (if b then with_atoms queries none_read text.atoms else Err UnknownQuery) >>= λ read. Ok (join_with text.name read)) is
        ∙ ap (λ (r : Result AtomsRead JoinFileFaultKind). r >>= λ read. Ok (join_with text.name read)) f

    knows : (atom : AtomText) → Contains text.atoms atom → Contains (query_names queries) atom.query
    knows atom member = found (query_case queries atom.query)
      where
        found : QueryCase queries atom.query → Contains (query_names queries) atom.query
        found (known number has read knows_it) = contains_at (query_names queries) number atom.query has
        found (unknown none no_one) = absurd (false≢true (sym no_one ∙ pass atom member))

    not_twice : (name : List ℕ) → HasFault queries before fields (Twice name) → ⊥
    not_twice name f = new (subst (Contains (join_names before)) (sym (ap (λ (t : LineText). t.name) (one_text fields text f.0 parts f.1) ∙ f.2)) f.3)

    not_unknown : HasFault queries before fields UnknownQuery → ⊥
    not_unknown f = f.2.2 (knows f.2.0 (subst (λ (t : LineText). Contains t.atoms f.2.0) (sym (one_text fields text f.0 parts f.1)) f.2.1))

    by : AtomsCase queries none_read text.atoms → LineEnds queries before fields
    by (atoms_bad atom member bad f) = badly BadName (record { has = (text, parts, (atom, member, bad)); least = least }) (here (Err BadName) f)
      where
        least : (less : JoinFileFaultKind) → HasFault queries before fields less → 5 ≤ number_of_kind less
        least Shape g = absurd (g text parts)
        least (Twice name) g = absurd (not_twice name g)
        least TooMany g = absurd (omega (arith, room, g))
        least UnknownQuery g = absurd (not_unknown g)
        least BadName g = omega arith
        least Memory g = omega arith
    by (atoms_good found added more grown atoms_are f good zip) = well (join_with text.name found) (record {
      no_fault = no_fault;
      text = text;
      parts = parts;
      name = refl;
      seen = found.seen;
      variables = refl;
      atoms = subst (AllZip (IsAtomOf queries found.seen) text.atoms) (sym atoms_are) zip;
    }) (here (Ok found) f)
      where
        no_fault : (kind : JoinFileFaultKind) → HasFault queries before fields kind → ⊥
        no_fault Shape g = g text parts
        no_fault (Twice name) g = not_twice name g
        no_fault TooMany g = omega (arith, room, g)
        no_fault UnknownQuery g = not_unknown g
        no_fault BadName g =
            let both = good g.2.0 (subst (λ (t : LineText). Contains t.atoms g.2.0) (sym (one_text fields text g.0 parts g.1)) g.2.1) in
            ⊎_elim (λ bad. bad both.0) (λ bad. bad both.1) g.2.2
        no_fault Memory g = g

formed_ends : (queries : List Query) (before : List JoinValue) (fields : List (List ℕ)) (text : LineText) → HasParts fields text →
    text_of_fields fields ≡ Ok text → TakenCase before text.name → LineEnds queries before fields
formed_ends queries before fields text parts e (is_taken member is) =
    badly (Twice text.name) (record { has = (text, parts, refl, member); least = least })
    (up_to queries before fields text (Err (Twice text.name)) e (placed_by before text.name true (nat_le 32 (length before)) is refl))
  where
    least : (less : JoinFileFaultKind) → HasFault queries before fields less → 2 ≤ number_of_kind less
    least Shape f = absurd (f text parts)
    least (Twice name) f = omega arith
    least TooMany f = omega arith
    least UnknownQuery f = omega arith
    least BadName f = omega arith
    least Memory f = omega arith
formed_ends queries before fields text parts e (is_free new is) = ⊎_elim
    (λ room. in_place queries before fields text parts e new room
    (placed_by before text.name false false is (lt-leb 32 (length before) room)) (all_case (is_known_query queries) text.atoms))
    (λ full. badly TooMany (record { has = full; least = least })
    (up_to queries before fields text (Err TooMany) e (placed_by before text.name false true is (le-leb 32 (length before) full))))
    (cases_lt (length before) 32)
  where
    least : (less : JoinFileFaultKind) → HasFault queries before fields less → 3 ≤ number_of_kind less
    least Shape f = absurd (f text parts)
    least (Twice name) f = absurd (new (subst (Contains (join_names before)) (sym (ap (λ (t : LineText). t.name) (one_text fields text f.0 parts f.1) ∙ f.2)) f.3))
    least TooMany f = omega arith
    least UnknownQuery f = omega arith
    least BadName f = omega arith
    least Memory f = omega arith

line_ends : (queries : List Query) (before : List JoinValue) (fields : List (List ℕ)) → LineEnds queries before fields
line_ends queries before fields = by (text_case fields)
  where
    by : TextCase fields → LineEnds queries before fields
    by (formed text parts e) = formed_ends queries before fields text parts e (taken_case before text.name)
    by (unformed none e) = unformed_ends queries before fields none e

-- ---- one first fault

-- kinds of one number are the same, where a name that is taken is that of the line
same_kind : (queries : List Query) (before : List JoinValue) (fields : List (List ℕ)) (one two : JoinFileFaultKind) → HasFault queries before fields one →
    HasFault queries before fields two → number_of_kind one ≡ number_of_kind two → one ≡ two
same_kind queries before fields (Twice first) (Twice second) f g e =
    ap (λ (name : List ℕ). Twice name) (sym f.2 ∙ (ap (λ (t : LineText). t.name) (one_text fields f.0 g.0 f.1 g.1) ∙ g.2))
same_kind queries before fields (Twice first) Shape f g e = absurd (omega (arith, e))
same_kind queries before fields (Twice first) TooMany f g e = absurd (omega (arith, e))
same_kind queries before fields (Twice first) UnknownQuery f g e = absurd (omega (arith, e))
same_kind queries before fields (Twice first) BadName f g e = absurd (omega (arith, e))
same_kind queries before fields (Twice first) Memory f g e = absurd (omega (arith, e))
same_kind queries before fields Shape Shape f g e = refl
same_kind queries before fields Shape (Twice name) f g e = absurd (omega (arith, e))
same_kind queries before fields Shape TooMany f g e = absurd (omega (arith, e))
same_kind queries before fields Shape UnknownQuery f g e = absurd (omega (arith, e))
same_kind queries before fields Shape BadName f g e = absurd (omega (arith, e))
same_kind queries before fields Shape Memory f g e = absurd (omega (arith, e))
same_kind queries before fields TooMany TooMany f g e = refl
same_kind queries before fields TooMany (Twice name) f g e = absurd (omega (arith, e))
same_kind queries before fields TooMany Shape f g e = absurd (omega (arith, e))
same_kind queries before fields TooMany UnknownQuery f g e = absurd (omega (arith, e))
same_kind queries before fields TooMany BadName f g e = absurd (omega (arith, e))
same_kind queries before fields TooMany Memory f g e = absurd (omega (arith, e))
same_kind queries before fields UnknownQuery UnknownQuery f g e = refl
same_kind queries before fields UnknownQuery (Twice name) f g e = absurd (omega (arith, e))
same_kind queries before fields UnknownQuery Shape f g e = absurd (omega (arith, e))
same_kind queries before fields UnknownQuery TooMany f g e = absurd (omega (arith, e))
same_kind queries before fields UnknownQuery BadName f g e = absurd (omega (arith, e))
same_kind queries before fields UnknownQuery Memory f g e = absurd (omega (arith, e))
same_kind queries before fields BadName BadName f g e = refl
same_kind queries before fields BadName (Twice name) f g e = absurd (omega (arith, e))
same_kind queries before fields BadName Shape f g e = absurd (omega (arith, e))
same_kind queries before fields BadName TooMany f g e = absurd (omega (arith, e))
same_kind queries before fields BadName UnknownQuery f g e = absurd (omega (arith, e))
same_kind queries before fields BadName Memory f g e = absurd (omega (arith, e))
same_kind queries before fields Memory two f g e = absurd f

same_fault : (queries : List Query) (before : List JoinValue) (fields : List (List ℕ)) (one two : JoinFileFaultKind) → IsFirstFault queries before fields one →
    IsFirstFault queries before fields two → one ≡ two
same_fault queries before fields one two first second =
    let a = first.least two second.has in
    let b = second.least one first.has in
    same_kind queries before fields one two first.has second.has (omega (arith, a, b))

pub line_by_parts : LineByParts
line_by_parts queries before fields = by (line_ends queries before fields)
  where
    by : LineEnds queries before fields → IsReadByParts queries before fields
    by (well join is e) = record {
      good = λ other f. subst (IsLineOf queries before fields) (same_ok join other (sym e ∙ f)) is;
      fault = λ kind. (
        λ f. absurd (ok_no_err join kind (sym e ∙ f)),
        λ first. absurd (is.no_fault kind first.has),
      );
    }
    by (badly kind first e) = record {
      good = λ join f. absurd (ok_no_err join kind (sym f ∙ e));
      fault = λ other. (
        λ f. subst (IsFirstFault queries before fields) (err_same kind other (sym e ∙ f)) first,
        λ others. e ∙ ap (λ (k : JoinFileFaultKind). Err k) (same_fault queries before fields kind other first others),
      );
    }
      where
        err_same : (a b : JoinFileFaultKind) → ◌≡◌ {A = Result JoinValue JoinFileFaultKind} (Err a) (Err b) → a ≡ b
        err_same a b e = cc
