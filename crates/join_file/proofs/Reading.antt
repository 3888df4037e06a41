-- Reading the atoms of a line, one by one.
use Rattle.std.proofs.Common.{◌≡◌, ℕ, ◌+◌, ◌<◌, ◌≤◌, List, [], ◌∷◌, ◌++◌, Result, Ok, Err, length, get_or, drop, refl, sym, ap, ◌∙◌}
use Rattle.std.proofs.lemmas.List.{drop_more, drop_all}
use Rattle.text_parts.specs.Reading.{◌>>=◌}
use Rattle.rpq_model.specs.Query.{Query}
use Rattle.join_file.specs.declared.data.JoinAtom.{JoinAtom}
use Rattle.join_file.specs.declared.fault.JoinFileFaultKind.{JoinFileFaultKind}
use Rattle.join_file.specs.JoinLine.{Read, AtomText, AtomsRead, atom_of, with_atom, with_atoms}

with_next : (queries : List Query) (read : AtomsRead) (text : AtomText) (texts : List AtomText) (outcome : Result (Read JoinAtom) JoinFileFaultKind) →
    atom_of queries read.seen text ≡ outcome →
    with_atoms queries read (text ∷ texts) ≡ (outcome >>= λ one. with_atoms queries (with_atom read one) texts)
unfolding with_atoms
with_next queries read text texts outcome e = ap (λ (r : Result (Read JoinAtom) JoinFileFaultKind). r >>= λ one. with_atoms queries (with_atom read one) texts) e

pub with_none : (queries : List Query) (read : AtomsRead) → with_atoms queries read [] ≡ Ok read
unfolding with_atoms
with_none queries read = refl

at_text : (texts : List AtomText) (index : ℕ) (text : AtomText) → index < length texts → text ≡ get_or texts index text →
    drop index texts ≡ text ∷ drop (index + 1) texts
at_text texts index text below is = drop_more texts index text below ∙ ap (λ (each : AtomText). each ∷ drop (index + 1) texts) (sym is)

-- one atom more
pub atom_taken : (queries : List Query) (read : AtomsRead) (more : List JoinAtom) (seen : List (List ℕ)) (texts : List AtomText) (index : ℕ) (text : AtomText)
    (atom : JoinAtom) (outcome : Result AtomsRead JoinFileFaultKind) →
    index < length texts → text ≡ get_or texts index text → atom_of queries read.seen text ≡ Ok (atom, seen) → more ≡ read.atoms ++ atom ∷ [] →
    with_atoms queries read (drop index texts) ≡ outcome →
    with_atoms queries (record { atoms = more; seen = seen }) (drop (index + 1) texts) ≡ outcome
atom_taken queries read more seen texts index text atom outcome below is taken more_is so_far =
    ap (λ (atoms : List JoinAtom). with_atoms queries (record { atoms = atoms; seen = seen }) (drop (index + 1) texts)) more_is
    ∙ (sym (ap (with_atoms queries read) (at_text texts index text below is) ∙ with_next queries read text (drop (index + 1) texts) (Ok (atom, seen)) taken) ∙ so_far)

-- an atom with a fault
pub atom_refused : (queries : List Query) (read : AtomsRead) (texts : List AtomText) (index : ℕ) (text : AtomText) (kind : JoinFileFaultKind)
    (outcome : Result AtomsRead JoinFileFaultKind) → index < length texts → text ≡ get_or texts index text → atom_of queries read.seen text ≡ Err kind →
    with_atoms queries read (drop index texts) ≡ outcome → outcome ≡ Err kind
atom_refused queries read texts index text kind outcome below is refused so_far =
    sym so_far ∙ (ap (with_atoms queries read) (at_text texts index text below is) ∙ with_next queries read text (drop (index + 1) texts) (Err kind) refused)

-- all atoms
pub atoms_end : (queries : List Query) (read : AtomsRead) (texts : List AtomText) (index : ℕ) (outcome : Result AtomsRead JoinFileFaultKind) →
    length texts ≤ index → with_atoms queries read (drop index texts) ≡ outcome → outcome ≡ Ok read
atoms_end queries read texts index outcome all so_far =
    sym so_far ∙ (ap (with_atoms queries read) (drop_all index texts all) ∙ with_none queries read)
