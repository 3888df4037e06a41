-- What a line of a joins file gives, by its parts: which fields are a join, and which faults they
-- have.
use Rattle.std.specs.Prelude.{◌≡◌, ◌≢◌, ℕ, ◌≤◌, ◌⊎◌, ◌↔◌, List, [], ◌∷◌, length, map, flat_map}
use Rattle.std.specs.Prelude.{Some, Ok, Err, Contains, codes, slice_get}
use Rattle.std.specs.List.{AllZip}
use Rattle.std.specs.Option.{unwrap_or}
use Rattle.rpq_base.specs.Names.{IsName}
use Rattle.rpq_model.specs.Query.{Query}
use Rattle.join_file.specs.declared.data.Term.{Term}
use Rattle.join_file.specs.declared.data.Term.TheVariants.{Variable, Vertex}
use Rattle.join_file.specs.declared.data.JoinAtom.{JoinAtom}
use Rattle.join_file.specs.declared.fault.JoinFileFaultKind.{JoinFileFaultKind}
use Rattle.join_file.specs.declared.fault.JoinFileFaultKind.TheVariants.{Shape, Twice, TooMany}
use Rattle.join_file.specs.declared.fault.JoinFileFaultKind.TheVariants.{UnknownQuery, BadName}
use Rattle.join_file.specs.declared.fault.JoinFileFaultKind.TheVariants.{Memory}
use Rattle.join_file.specs.Joins.{JoinValue}
use Rattle.join_file.specs.JoinLine.{AtomText, LineText, variable_sign, variable_name}
use Rattle.join_file.specs.JoinLine.{join_of_fields}

-- the names of the queries, and of the joins
abbrev pub query_names : List Query → List (List ℕ)
query_names queries = map (λ query. query.name) queries

abbrev pub join_names : List JoinValue → List (List ℕ)
join_names joins = map (λ join. join.name) joins

-- the three fields of an atom
abbrev pub atom_fields : AtomText → List (List ℕ)
atom_fields atom = atom.query ∷ atom.from ∷ atom.to ∷ []

-- the field is a variable: it begins with its sign
abbrev pub IsVariable : List ℕ → Type 0
IsVariable field = (name : List ℕ) × (field ≡ variable_sign ∷ name)

-- the fields have the form of a line with these parts: the word, the name, and one to four atoms;
-- no sign of a variable stands alone, and there is a variable
pub record HasParts (fields : List (List ℕ)) (text : LineText) : Type 0 where
  pub split : fields ≡ codes "join" ∷ text.name ∷ flat_map atom_fields text.atoms
  pub named : IsName text.name
  pub some : 1 ≤ length text.atoms
  pub few : length text.atoms ≤ 4
  pub full : (atom : AtomText) → Contains text.atoms atom →
      (atom.from ≢ codes "?") × (atom.to ≢ codes "?")
  pub variable : (atom : AtomText) × Contains text.atoms atom
      × (IsVariable atom.from ⊎ IsVariable atom.to)

-- the name that a field holds: what stands behind the sign of a variable, or the whole field
abbrev pub name_in : List ℕ → List ℕ
name_in field = unwrap_or (variable_name field) field

-- the fields have parts, and one of their atoms is so
abbrev pub ForAtom : List (List ℕ) → (AtomText → Type 0) → Type 0
ForAtom fields P =
    (text : LineText) × HasParts fields text
    × ((atom : AtomText) × Contains text.atoms atom × P atom)

-- the fields of a line behind these joins have the fault of this kind, whichever others they have
abbrev pub HasFault : List Query → List JoinValue → List (List ℕ) → JoinFileFaultKind → Type 0
HasFault queries before fields Shape = (text : LineText) → HasParts fields text → ⊥
HasFault queries before fields (Twice name) =
    (text : LineText) × HasParts fields text × (text.name ≡ name)
    × Contains (join_names before) name
HasFault queries before fields TooMany = 32 ≤ length before
HasFault queries before fields UnknownQuery =
    ForAtom fields (λ atom. Contains (query_names queries) atom.query → ⊥)
HasFault queries before fields BadName = ForAtom fields (λ atom.
    (IsName (name_in atom.from) → ⊥) ⊎ (IsName (name_in atom.to) → ⊥))
HasFault queries before fields Memory = ⊥

-- the number of the kind: of the faults of a line the one of the least number is told
abbrev pub number_of_kind : JoinFileFaultKind → ℕ
number_of_kind Shape = 1
number_of_kind (Twice name) = 2
number_of_kind TooMany = 3
number_of_kind UnknownQuery = 4
number_of_kind BadName = 5
number_of_kind Memory = 6

-- the fields have the fault, and none of a lesser number
pub record IsFirstFault (queries : List Query) (before : List JoinValue)
    (fields : List (List ℕ)) (kind : JoinFileFaultKind) : Type 0 where
  pub has : HasFault queries before fields kind
  pub least : (other : JoinFileFaultKind) → HasFault queries before fields other →
      number_of_kind kind ≤ number_of_kind other

-- the term of a field, where the variables have these names
abbrev pub IsTermOf : List (List ℕ) → List ℕ → Term → Type 0
IsTermOf seen field (Variable number) =
    (name : List ℕ) × (field ≡ variable_sign ∷ name) × (slice_get seen number ≡ Some name)
IsTermOf seen field (Vertex name) = (IsVariable field → ⊥) × (field ≡ name)

-- the atom of its fields
pub record IsAtomOf (queries : List Query) (seen : List (List ℕ)) (text : AtomText)
    (atom : JoinAtom) : Type 0 where
  pub query : slice_get (query_names queries) atom.query ≡ Some text.query
  pub from : IsTermOf seen text.from atom.from
  pub to : IsTermOf seen text.to atom.to

-- the fields have no fault, and are those of this join: its name, and its atoms in order, in which
-- each variable has one number
pub record IsLineOf (queries : List Query) (before : List JoinValue) (fields : List (List ℕ))
    (join : JoinValue) : Type 0 where
  pub no_fault : (kind : JoinFileFaultKind) → HasFault queries before fields kind → ⊥
  pub text : LineText
  pub parts : HasParts fields text
  pub name : join.name ≡ text.name
  pub seen : List (List ℕ)
  pub variables : join.variables ≡ length seen
  pub atoms : AllZip (IsAtomOf queries seen) text.atoms join.atoms

-- what a line with these fields gives behind these joins
pub record IsReadByParts (queries : List Query) (before : List JoinValue)
    (fields : List (List ℕ)) : Type 0 where
  pub good : (join : JoinValue) → join_of_fields queries before fields ≡ Ok join →
      IsLineOf queries before fields join
  pub fault : (kind : JoinFileFaultKind) → (join_of_fields queries before fields ≡ Err kind)
      ↔ IsFirstFault queries before fields kind

abbrev pub LineByParts : Type 0
LineByParts = (queries : List Query) (before : List JoinValue) (fields : List (List ℕ)) →
    IsReadByParts queries before fields
