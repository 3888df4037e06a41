-- What a line of a joins file gives is a sound join.
use Rattle.std.proofs.Common.{◌≡◌, ℕ, ◌+◌, ◌<◌, ◌≤◌, nat_lt, Bool, true, false, cond, List, [], ◌∷◌, ◌++◌, Result, Ok, Err, Option, Some, None, length, refl, sym, ap, subst, ◌∙◌, inl, inr, ⊎_elim, arith, length-append}
use Rattle.std.specs.Prelude.{Contains, All, bytes_eq, nat_le, if◌then◌else◌}
use Rattle.std.specs.List.{position, position_or_len, list_any, list_all}
use Rattle.std.proofs.lemmas.Bool.{cases_lt}
use Rattle.std.proofs.lemmas.Bool.Decides.{nat_tests}
use Rattle.std.proofs.lemmas.List.Elements.{Contains-get_or}
use Rattle.std.specs.Option.{ok_or}
use Rattle.text_parts.specs.Reading.{◌>>=◌}
use Rattle.text_parts.proofs.LineByLine.{bind_ok, same_ok, ok_no_err}
use Rattle.rpq_base.specs.Same.{same_name}
use Rattle.rpq_base.proofs.Members.{none_in, one_more}
use Rattle.rpq_model.specs.Query.{Query, query_named}
use Rattle.join_file.specs.declared.data.Term.{Term}
use Rattle.join_file.specs.declared.data.Term.TheVariants.{Variable, Vertex}
use Rattle.join_file.specs.declared.data.JoinAtom.{JoinAtom}
use Rattle.join_file.specs.declared.fault.JoinFileFaultKind.{JoinFileFaultKind}
use Rattle.join_file.specs.declared.fault.JoinFileFaultKind.TheVariants.{UnknownQuery, TooMany}
use Rattle.join_file.specs.declared.fault.JoinFileFaultKind.TheVariants.{Twice}
use Rattle.join_file.specs.Joins.{JoinValue}
use Rattle.join_file.specs.Sound.{IsWithin, IsAtomWithin, Mentions, IsSound}
use Rattle.join_file.specs.JoinLine.{Read, AtomText, AtomsRead, named, number_at, numbered}
use Rattle.join_file.specs.JoinLine.{variable_of, variable_name, term_by, term_of}
use Rattle.join_file.specs.JoinLine.{atom_of, with_atom, with_atoms, none_read, is_known_query}
use Rattle.join_file.specs.JoinLine.{atoms_of, join_with, placed, text_of_fields, join_of_fields}

-- the place of the first that passes is within
pub position_within : {X : Type 0} (test : X → Bool) (xs : List X) (place : ℕ) → position test xs ≡ Some place → place < length xs
position_within test xs place e = by (nat_lt (position_or_len test xs) (length xs)) refl
  where
    by : (within : Bool) → nat_lt (position_or_len test xs) (length xs) ≡ within → place < length xs
    by true w =
        let found : Some (position_or_len test xs) ≡ Some place = sym (ap (λ (b : Bool). cond b (Some (position_or_len test xs)) None) w) ∙ e in
        let same : position_or_len test xs ≡ place = cc in
        subst (λ (n : ℕ). n < length xs) same (grind (arith, nat_tests, w))
    by false w = absurd (none_some (sym (ap (λ (b : Bool). cond b (Some (position_or_len test xs)) None) w) ∙ e))
      where
        none_some : ◌≡◌ {A = Option ℕ} None (Some place) → ⊥
        none_some f = absurd cc

-- the query of an atom is one of those given
query_below : (queries : List Query) (name : List ℕ) (number : ℕ) → query_named UnknownQuery queries name ≡ Ok number → number < length queries
unfolding query_named
query_below queries name number e = by (position (λ query. bytes_eq query.name name) queries) refl
  where
    by : (found : Option ℕ) → position (λ query. bytes_eq query.name name) queries ≡ found → number < length queries
    by None f = absurd (ok_no_err number UnknownQuery (sym e ∙ ap (λ (place : Option ℕ). ok_or place UnknownQuery) f))
    by (Some place) f =
        let same = same_ok place number (sym (ap (λ (place : Option ℕ). ok_or place UnknownQuery) f) ∙ e) in
        subst (λ (n : ℕ). n < length queries) same (position_within (λ query. bytes_eq query.name name) queries place f)

-- what one more term brings
record Brings (seen : List (List ℕ)) (term : Term) (more : List (List ℕ)) : Type 0 where
  within : IsWithin (length more) term
  grows : length seen ≤ length more
  new : (number : ℕ) → length seen ≤ number → number < length more → term ≡ Variable number

brings_none : (seen : List (List ℕ)) (name : List ℕ) → Brings seen (Vertex name) seen
brings_none seen name = record {
  within = tt;
  grows = omega arith;
  new = λ number from below. absurd (omega (arith, from, below));
}

brings_number : (seen : List (List ℕ)) (name : List ℕ) → Brings seen (variable_of (numbered seen name)).0 (variable_of (numbered seen name)).1
brings_number seen name = by (position (λ other. same_name other name) seen) refl
  where
    by : (found : Option ℕ) → position (λ other. same_name other name) seen ≡ found →
        Brings seen (variable_of (number_at seen name found)).0 (variable_of (number_at seen name found)).1
    by None f =
        let grown : length (seen ++ name ∷ []) ≡ length seen + 1 = length-append seen (name ∷ []) in
        record {
          within = omega (arith, grown);
          grows = omega (arith, grown);
          new = λ number from below. ap (λ (n : ℕ). Variable n) (let same : length seen ≡ number = omega (arith, from, below, grown) in same);
        }
    by (Some place) f = record {
      within = position_within (λ other. same_name other name) seen place f;
      grows = omega arith;
      new = λ number from below. absurd (omega (arith, from, below));
    }

term_brings : (seen more : List (List ℕ)) (field : List ℕ) (term : Term) → term_of seen field ≡ Ok (term, more) → Brings seen term more
unfolding term_of
term_brings seen more field term e = by (variable_name field) e
  where
    at : (one two : Read Term) → ◌≡◌ {A = Result (Read Term) JoinFileFaultKind} (Ok one) (Ok two) → Brings seen one.0 one.1 → Brings seen two.0 two.1
    at one two same brings = subst (λ (read : Read Term). Brings seen read.0 read.1) (same_ok one two same) brings

    by : (variable : Option (List ℕ)) → term_by seen field variable ≡ Ok (term, more) → Brings seen term more
    by None f =
        let step = bind_ok (named field) (λ name. Ok (Vertex name, seen)) (term, more) f in
        at (Vertex step.0, seen) (term, more) step.2 (brings_none seen step.0)
    by (Some variable) f =
        let step = bind_ok (named variable) (λ name. Ok (variable_of (numbered seen name))) (term, more) f in
        at (variable_of (numbered seen step.0)) (term, more) step.2 (brings_number seen step.0)

-- and one more atom
record BringsAtom (queries : List Query) (seen : List (List ℕ)) (atom : JoinAtom) (more : List (List ℕ)) : Type 0 where
  within : IsAtomWithin (length more) atom
  below : atom.query < length queries
  grows : length seen ≤ length more
  new : (number : ℕ) → length seen ≤ number → number < length more → Mentions atom number

still_within : (count more : ℕ) (term : Term) → count ≤ more → IsWithin count term → IsWithin more term
still_within count more (Variable number) grows within = omega (arith, grows, within)
still_within count more (Vertex name) grows within = tt

atom_brings : (queries : List Query) (seen more : List (List ℕ)) (text : AtomText) (atom : JoinAtom) → atom_of queries seen text ≡ Ok (atom, more) →
    BringsAtom queries seen atom more
unfolding atom_of
atom_brings queries seen more text atom e =
    let query = bind_ok (query_named UnknownQuery queries text.query) (λ q. term_of seen text.from >>= λ from. term_of from.1 text.to >>= λ to.
    Ok (record { query = q; from = from.0; to = to.0 }, to.1)) (atom, more) e in
    let from = bind_ok (term_of seen text.from) (λ from. term_of from.1 text.to >>= λ to.
    Ok (record { query = query.0; from = from.0; to = to.0 }, to.1)) (atom, more) query.2 in
    let to = bind_ok (term_of from.0.1 text.to) (λ to. Ok (record { query = query.0; from = from.0.0; to = to.0 }, to.1)) (atom, more) from.2 in
    let first = term_brings seen from.0.1 text.from from.0.0 from.1 in
    let second = term_brings from.0.1 to.0.1 text.to to.0.0 to.1 in
    subst (λ (read : Read JoinAtom). BringsAtom queries seen read.0 read.1)
    (same_ok (record { query = query.0; from = from.0.0; to = to.0.0 }, to.0.1) (atom, more) to.2) (record {
      within = record { from = still_within (length from.0.1) (length to.0.1) from.0.0 second.grows first.within; to = second.within };
      below = query_below queries text.query query.0 query.1;
      grows = (let one = first.grows in let two = second.grows in omega (arith, one, two));
      new = λ number above within. ⊎_elim
          (λ early. inl (first.new number above early))
          (λ late. inr (second.new number late within))
          (cases_lt number (length from.0.1));
    })

-- the atoms so far are sound
record AreSoundSo (queries : ℕ) (read : AtomsRead) : Type 0 where
  within : (atom : JoinAtom) → Contains read.atoms atom → IsAtomWithin (length read.seen) atom
  below : (atom : JoinAtom) → Contains read.atoms atom → atom.query < queries
  all : (number : ℕ) → number < length read.seen → (each : JoinAtom) × Contains read.atoms each × Mentions each number

none_sound : (queries : ℕ) → AreSoundSo queries none_read
none_sound queries = record {
  within = λ atom member. absurd (none_in atom member);
  below = λ atom member. absurd (none_in atom member);
  all = λ number below. absurd (omega (arith, below));
}

atom_within : (count more : ℕ) (atom : JoinAtom) → count ≤ more → IsAtomWithin count atom → IsAtomWithin more atom
atom_within count more atom grows within = record {
  from = still_within count more atom.from grows within.from;
  to = still_within count more atom.to grows within.to;
}

one_sound : (queries : List Query) (read : AtomsRead) (one : Read JoinAtom) → AreSoundSo (length queries) read →
    BringsAtom queries read.seen one.0 one.1 → AreSoundSo (length queries) (with_atom read one)
one_sound queries read one so_far brings =
    let step = one_more read.atoms one.0 in
    record {
      within = λ atom member. ⊎_elim
          (λ there. atom_within (length read.seen) (length one.1) atom brings.grows (so_far.within atom there))
          (λ here. subst (IsAtomWithin (length one.1)) here brings.within)
          (step.cases atom member);
      below = λ atom member. ⊎_elim
          (λ there. so_far.below atom there)
          (λ here. subst (λ (each : JoinAtom). each.query < length queries) here brings.below)
          (step.cases atom member);
      all = λ number below. ⊎_elim
          (λ early. let old = so_far.all number early in (old.0, step.still old.0 old.1, old.2))
          (λ late. (one.0, step.here, brings.new number late below))
          (cases_lt number (length read.seen));
    }

all_sound : (texts : List AtomText) (queries : List Query) (read found : AtomsRead) → AreSoundSo (length queries) read →
    with_atoms queries read texts ≡ Ok found → AreSoundSo (length queries) found
unfolding with_atoms
all_sound [] queries read found so_far e = subst (AreSoundSo (length queries)) (same_ok read found e) so_far
all_sound (text ∷ texts) queries read found so_far e =
    let one = bind_ok (atom_of queries read.seen text) (λ one. with_atoms queries (with_atom read one) texts) found e in
    all_sound texts queries (with_atom read one.0) found
    (one_sound queries read one.0 so_far (atom_brings queries read.seen one.0.1 text one.0.0 one.1)) one.2

cond_ok : {A : Type 0} (test : Bool) (outcome : Result A JoinFileFaultKind) (kind : JoinFileFaultKind) (found : A) → (if test then outcome else Err kind) ≡ Ok found → outcome ≡ Ok found
cond_ok true outcome kind found e = e
cond_ok false outcome kind found e = absurd (ok_no_err found kind (sym e))

atoms_sound : (queries : List Query) (texts : List AtomText) (found : AtomsRead) → atoms_of queries texts ≡ Ok found → AreSoundSo (length queries) found
unfolding atoms_of
atoms_sound queries texts found e =
    all_sound texts queries none_read found (none_sound (length queries))
    (cond_ok (list_all (is_known_query queries) texts) (with_atoms queries none_read texts) UnknownQuery found e)

from_members : {X : Type 0} (P : X → Type 0) (xs : List X) → ((x : X) → Contains xs x → P x) → All P xs
from_members P xs holds place d below = holds _ (Contains-get_or xs place d below)

pub join_sound : (queries : List Query) (before : List JoinValue) (list : List (List ℕ)) (join : JoinValue) → join_of_fields queries before list ≡ Ok join →
    (length before < 32) × IsSound (length queries) join
unfolding join_of_fields placed
join_sound queries before list join e =
    let text = bind_ok (text_of_fields list) (λ text. placed before text.name >>= λ name. atoms_of queries text.atoms >>= λ read. Ok (join_with name read)) join e in
    let name = bind_ok (placed before text.0.name) (λ name. atoms_of queries text.0.atoms >>= λ read. Ok (join_with name read)) join text.2 in
    let read = bind_ok (atoms_of queries text.0.atoms) (λ read. Ok (join_with name.0 read)) join name.2 in
    let sound = atoms_sound queries text.0.atoms read.0 read.1 in (
      room (list_any (λ (each : JoinValue). same_name each.name text.0.name) before) (nat_le 32 (length before)) refl text.0.name name.0 name.1,
      subst (IsSound (length queries)) (same_ok (join_with name.0 read.0) join read.2) (record {
        within = from_members (IsAtomWithin (length read.0.seen)) read.0.atoms sound.within;
        below = from_members (λ (atom : JoinAtom). atom.query < length queries) read.0.atoms sound.below;
        all = sound.all;
      }),
    )
  where
    room : (taken full : Bool) → nat_le 32 (length before) ≡ full → (name found : List ℕ) →
        (if taken then Err (Twice name) else if full then Err TooMany else Ok name) ≡ Ok found → length before < 32
    room true full f name found e = absurd (ok_no_err found (Twice name) (sym e))
    room false true f name found e = absurd (ok_no_err found TooMany (sym e))
    room false false f name found e = grind (arith, nat_tests, f)
