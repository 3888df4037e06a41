-- What a line of a joins file gives: a join, or its first fault.
use Rattle.std.specs.Prelude.{ℕ, Bool, false, ◌==◌, ◌||◌, ◌&&◌, not, nat_le, List, [], ◌∷◌, ◌++◌}
use Rattle.std.specs.Prelude.{length, Option, Some, None, Result, Ok, Err, bytes_eq, codes, is_some}
use Rattle.std.specs.Prelude.{if◌then◌else◌}
use Rattle.std.specs.List.{position, list_any, list_all}
use Rattle.text_parts.specs.Reading.{◌>>=◌}
use Rattle.rpq_base.specs.Names.{is_name}
use Rattle.rpq_base.specs.Same.{same_name}
use Rattle.rpq_model.specs.Query.{Query, place_named, query_named}
use Rattle.join_file.specs.declared.data.Term.{Term}
use Rattle.join_file.specs.declared.data.Term.TheVariants.{Variable, Vertex}
use Rattle.join_file.specs.declared.data.JoinAtom.{JoinAtom}
use Rattle.join_file.specs.declared.fault.JoinFileFaultKind.{JoinFileFaultKind}
use Rattle.join_file.specs.declared.fault.JoinFileFaultKind.TheVariants.{Shape, Twice, TooMany}
use Rattle.join_file.specs.declared.fault.JoinFileFaultKind.TheVariants.{UnknownQuery, BadName}
use Rattle.join_file.specs.Joins.{JoinValue}

-- the fields of an atom
pub record AtomText : Type 0 where
  pub query : List ℕ
  pub from : List ℕ
  pub to : List ℕ

-- the parts of a line: the name, and the atoms
pub record LineText : Type 0 where
  pub name : List ℕ
  pub atoms : List AtomText

-- the sign before the name of a variable: '?'
abbrev pub variable_sign : ℕ
variable_sign = 63

-- what stands behind the sign of a variable; none where the field doesn't begin with it
unfoldable pub variable_name : List ℕ → Option (List ℕ)
variable_name [] = None
variable_name (first ∷ name) = if first == variable_sign then Some name else None

-- the field is a variable, and whether it has no name
abbrev pub is_some_variable : List ℕ → Bool
is_some_variable field = is_some (variable_name field)

abbrev pub is_bare_of : Option (List ℕ) → Bool
is_bare_of None = false
is_bare_of (Some name) = length name == 0

abbrev pub is_bare : List ℕ → Bool
is_bare field = is_bare_of (variable_name field)

-- the atoms that fields are, three for each
unfoldable pub atom_texts : List (List ℕ) → List AtomText
atom_texts [] = []
atom_texts (one ∷ []) = []
atom_texts (one ∷ two ∷ []) = []
atom_texts (query ∷ from ∷ to ∷ rest) =
    record { query = query; from = from; to = to } ∷ atom_texts rest

-- so many fields are one to four atoms
unfoldable pub is_count : ℕ → Bool
is_count count = count == 3 || count == 6 || count == 9 || count == 12

-- no variable of the atoms is without a name, and there is a variable
abbrev pub has_bare : AtomText → Bool
has_bare atom = is_bare atom.from || is_bare atom.to

abbrev pub has_variable : AtomText → Bool
has_variable atom = is_some_variable atom.from || is_some_variable atom.to

unfoldable pub are_sound : List AtomText → Bool
are_sound atoms = not (list_any has_bare atoms) && list_any has_variable atoms

-- the parts of a line of the right form
unfoldable pub checked_text : List ℕ → List AtomText → Result LineText JoinFileFaultKind
checked_text name atoms =
    if are_sound atoms then Ok (record { name = name; atoms = atoms }) else Err Shape

unfoldable pub text_of_fields : List (List ℕ) → Result LineText JoinFileFaultKind
text_of_fields (word ∷ name ∷ rest) =
    if bytes_eq word (codes "join") && is_count (length rest) && is_name name
    then checked_text name (atom_texts rest) else Err Shape
text_of_fields others = Err Shape

-- one more join may have the name
unfoldable pub placed : List JoinValue → List ℕ → Result (List ℕ) JoinFileFaultKind
placed before name =
    if list_any (λ join. same_name join.name name) before then Err (Twice name)
    else if nat_le 32 (length before) then Err TooMany
    else Ok name

-- the query of the atom is known
abbrev pub is_known_query : List Query → AtomText → Bool
is_known_query queries atom = is_some (place_named queries atom.query)

-- the field is a name
unfoldable pub named : List ℕ → Result (List ℕ) JoinFileFaultKind
named field = if is_name field then Ok field else Err BadName

-- what is read, and the variables seen with it
abbrev pub Read : Type 0 → Type 0
Read A = A × List (List ℕ)

-- the number of a variable, where these were seen before: its place among them, or the next one
abbrev pub number_at : List (List ℕ) → List ℕ → Option ℕ → Read ℕ
number_at seen name None = (length seen, seen ++ name ∷ [])
number_at seen name (Some place) = (place, seen)

abbrev pub numbered : List (List ℕ) → List ℕ → Read ℕ
numbered seen name = number_at seen name (position (λ other. same_name other name) seen)

-- a term, where these variables were seen before
abbrev pub variable_of : Read ℕ → Read Term
variable_of read = (Variable read.0, read.1)

abbrev pub term_by : List (List ℕ) → List ℕ → Option (List ℕ) → Result (Read Term) JoinFileFaultKind
term_by seen field None = named field >>= λ name. Ok (Vertex name, seen)
term_by seen field (Some variable) =
    named variable >>= λ name. Ok (variable_of (numbered seen name))

unfoldable pub term_of : List (List ℕ) → List ℕ → Result (Read Term) JoinFileFaultKind
term_of seen field = term_by seen field (variable_name field)

-- an atom, and the variables seen with it
unfoldable pub atom_of : List Query → List (List ℕ) → AtomText →
    Result (Read JoinAtom) JoinFileFaultKind
atom_of queries seen text = do
  query ← query_named UnknownQuery queries text.query
  from ← term_of seen text.from
  to ← term_of from.1 text.to
  Ok (record { query = query; from = from.0; to = to.0 }, to.1)

-- the atoms so far, and the variables seen in them
pub record AtomsRead : Type 0 where
  pub atoms : List JoinAtom
  pub seen : List (List ℕ)

-- with one atom more
abbrev pub with_atom : AtomsRead → Read JoinAtom → AtomsRead
with_atom read one = record { atoms = read.atoms ++ one.0 ∷ []; seen = one.1 }

-- with all these
unfoldable pub with_atoms : List Query → AtomsRead → List AtomText →
    Result AtomsRead JoinFileFaultKind
with_atoms queries read [] = Ok read
with_atoms queries read (text ∷ texts) =
    atom_of queries read.seen text >>= λ one. with_atoms queries (with_atom read one) texts

-- none
abbrev pub none_read : AtomsRead
none_read = record { atoms = []; seen = [] }

-- the atoms, where all their queries are known
unfoldable pub atoms_of : List Query → List AtomText → Result AtomsRead JoinFileFaultKind
atoms_of queries texts =
    if list_all (is_known_query queries) texts then with_atoms queries none_read texts
    else Err UnknownQuery

-- a join of this name with these atoms
abbrev pub join_with : List ℕ → AtomsRead → JoinValue
join_with name read =
    record { name = name; variables = length read.seen; atoms = read.atoms }

-- the join of a line with these fields, which follows these
unfoldable pub join_of_fields : List Query → List JoinValue → List (List ℕ) →
    Result JoinValue JoinFileFaultKind
join_of_fields queries before fields = do
  text ← text_of_fields fields
  name ← placed before text.name
  read ← atoms_of queries text.atoms
  Ok (join_with name read)
