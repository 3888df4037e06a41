-- Each join of a joins file is sound, and has a variable.
use Rattle.std.proofs.Common.{◌≡◌, ℕ, ◌<◌, ◌≤◌, List, [], ◌∷◌, Ok, length, take, get_or}
use Rattle.std.proofs.Common.{sym, subst, inl, inr, ⊎_elim, arith}
use Rattle.std.specs.Prelude.{Contains}
use Rattle.std.specs.List.{AllZip}
use Rattle.std.proofs.lemmas.Bool.{cases_lt}
use Rattle.std.proofs.lemmas.List.{length-take-le}
use Rattle.std.proofs.lemmas.Option.{slice_get_within, slice_get-get_or}
use Rattle.rpq_base.proofs.Members.{cons_members, none_in}
use Rattle.rpq_model.specs.Query.{Query}
use Rattle.text_parts.specs.Lines.{lines}
use Rattle.text_parts.specs.Fields.{fields}
use Rattle.join_file.specs.declared.data.Term.{Term}
use Rattle.join_file.specs.declared.data.Term.TheVariants.{Variable, Vertex}
use Rattle.join_file.specs.Joins.{JoinValue}
use Rattle.join_file.specs.JoinLine.{join_of_fields}
use Rattle.join_file.specs.JoinsFile.{joins}
use Rattle.join_file.specs.Parts.{IsVariable, IsTermOf, IsAtomOf, IsLineOf}
use Rattle.join_file.specs.ByParts.{join_lines_of}
use Rattle.join_file.proofs.LineParts.{line_by_parts}
use Rattle.join_file.specs.FileLaws.{JoinsAreSound}
use Rattle.join_file.proofs.ByParts.{joins_by_parts}
use Rattle.join_file.proofs.ReadSound.{join_sound}

-- what stands in the other list at an element's place
beside : {A B : Type 0} (R : A → B → Type 0) (firsts : List A) (seconds : List B) (first : A) →
    AllZip R firsts seconds → Contains firsts first → (second : B) × R first second
beside R [] seconds first all member = absurd (none_in first member)
beside R (head ∷ firsts) [] first all member = absurd all
beside R (head ∷ firsts) (second ∷ seconds) first all member = ⊎_elim
    (λ here. (second, subst (λ each. R each second) here all.0))
    (λ later. beside R firsts seconds first all.1 later)
    ((cons_members head firsts first).0 member)

-- a variable has a place among those seen
seen_some : (seen : List (List ℕ)) (field : List ℕ) (term : Term) → IsVariable field →
    IsTermOf seen field term → 0 < length seen
seen_some seen field (Variable number) variable is =
    let below = slice_get_within seen number is.0 is.2 in omega (arith, below)
seen_some seen field (Vertex name) variable is = absurd (is.0 variable)

line_some : (queries : List Query) (before : List JoinValue) (list : List (List ℕ))
    (join : JoinValue) → IsLineOf queries before list join → 0 < join.variables
line_some queries before list join line =
    let variable = line.parts.variable in
    let text = variable.0 in
    let atom = beside (IsAtomOf queries line.seen) line.text.atoms join.atoms text line.atoms
    variable.1 in
    subst (λ (count : ℕ). 0 < count) (sym line.variables) (⊎_elim
    (λ from. seen_some line.seen text.from atom.0.from from atom.1.from)
    (λ to. seen_some line.seen text.to atom.0.to to atom.1.to)
    variable.2)

-- what stands at a place of a file's joins is that of a line behind those before it
given_by : (queries : List Query) (bytes : List ℕ) (found : List JoinValue) →
    joins queries bytes ≡ Ok found → (place : ℕ) (default : JoinValue) → place < length found →
    (line : List (List ℕ))
    × (join_of_fields queries (take place found) line ≡ Ok (get_or found place default))
given_by queries bytes found e place default below =
    let are = joins_by_parts.ok queries bytes found e in
    let many = are.as_many in
    let given = join_lines_of (lines bytes) in
    let within : place < length given = omega (arith, below, many) in
    let line = get_or given place [] in (
      fields line,
      are.each place line (get_or found place default) (slice_get-get_or given place [] within)
          (slice_get-get_or found place default below),
    )

-- there is no place behind the thirty-second
few : (queries : List Query) (bytes : List ℕ) (found : List JoinValue) →
    joins queries bytes ≡ Ok found → length found ≤ 32
few queries bytes found e = elim (cases_lt 32 (length found)) [
  | inl many ↦
      let none : JoinValue = record { name = []; variables = 0; atoms = [] } in
      let line = given_by queries bytes found e 32 none many in
      let room = (join_sound queries (take 32 found) line.0 (get_or found 32 none) line.1).0 in
      omega (arith, room, many, length-take-le 32 found (omega (arith, many)))
  | inr fits ↦ fits
]

pub joins_are_sound : JoinsAreSound
joins_are_sound queries bytes found e = (
  few queries bytes found e,
  (λ place default below.
      let line = given_by queries bytes found e place default below in
      (join_sound queries (take place found) line.0 (get_or found place default) line.1).1),
  (λ place default below.
      let line = given_by queries bytes found e place default below in
      line_some queries (take place found) line.0 (get_or found place default)
      ((line_by_parts queries (take place found) line.0).good (get_or found place default)
      line.1)),
)
