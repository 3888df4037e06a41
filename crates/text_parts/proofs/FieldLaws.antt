-- The fields of a line, and lines that are made of fields.
use Rattle.std.proofs.Common.{◌≡◌, ℕ, zero, suc, ◌+◌, ◌≤◌, Bool, true, false, cond, not, eqb, List, [], ◌∷◌, ◌++◌, length, filter}
use Rattle.std.proofs.Common.{map, refl, sym, ap, ◌∙◌, arith, ne_eqb}
use Rattle.std.specs.List.{All, slice_split, join_with_byte}
use Rattle.std.proofs.lemmas.List.{append-nil}
use Rattle.std.proofs.lemmas.List.Elements.{All-nil, All-cons, All-head, All-tail, All-same, All-filter, filter_passes}
use Rattle.std.proofs.lemmas.List.Splits.{slice_split-cons_yes, slice_split-cons_no, slice_split_none, slice_split_at, length-slice_split}
use Rattle.std.proofs.lemmas.List.Sums.{length-filter, count_by-le-length}
use Rattle.std.proofs.lemmas.Bool.{false≢true}
use Rattle.text_parts.proofs.FirstPart.{all_onto_first}
use Rattle.text_parts.specs.Lines.{is_blank}
use Rattle.text_parts.specs.Fields.{fields, IsField, AreBlanks, JoinedFieldsAreRead, FieldsByRuns}

-- the runs that aren't empty
abbrev solid_runs : List (List ℕ) → List (List ℕ)
solid_runs runs = filter (λ run. not (eqb (length run) 0)) runs

-- no byte of it is blank
abbrev IsSolid : List ℕ → Type 0
IsSolid run = All (λ byte. is_blank byte ≡ false) run

-- a line that is cut at each blank has no blank in a part
parts_solid : (line : List ℕ) → All IsSolid (slice_split is_blank line)
parts_solid [] = All-cons IsSolid [] [] (All-nil (λ byte. is_blank byte ≡ false)) (All-nil IsSolid)
parts_solid (byte ∷ line) = by (is_blank byte) refl (parts_solid line)
  where
    by : (blank : Bool) → is_blank byte ≡ blank → All IsSolid (slice_split is_blank line) → All IsSolid (slice_split is_blank (byte ∷ line))
    by true e rest = All-same IsSolid _ _ (slice_split-cons_yes is_blank byte line e) (All-cons IsSolid [] (slice_split is_blank line)
        (All-nil (λ b. is_blank b ≡ false)) rest)
    by false e rest = All-same IsSolid _ _ (slice_split-cons_no is_blank byte line e)
        (all_onto_first (λ b. is_blank b ≡ false) byte (slice_split is_blank line) e rest)

-- the fields of a line are fields
pub fields_are_fields : (line : List ℕ) → All IsField (fields line)
unfolding fields
fields_are_fields line k d l =
    let full : List ℕ → Bool = λ run. not (eqb (length run) 0) in
    let parts = slice_split is_blank line in
    record {
      some = λ e. false≢true (sym (ap full e) ∙ filter_passes full parts k d l);
      solid = All-filter full IsSolid parts (parts_solid line) k d l;
    }

-- what holds of each image holds so of each element
pub all_from_map : {X Y : Type 0} (P : Y → Type 0) (f : X → Y) (list : List X) → All P (map f list) → All (λ x. P (f x)) list
all_from_map P f [] h k d l = absurd (omega arith)
all_from_map P f (x ∷ list) h zero d l = h 0 (f d) (omega arith)
all_from_map P f (x ∷ list) h (suc k) d l = all_from_map P f list (All-tail P (f x) (map f list) h) k d (omega arith)

-- a field is kept
solid_runs_cons : (field : List ℕ) (runs : List (List ℕ)) → IsField field → solid_runs (field ∷ runs) ≡ field ∷ solid_runs runs
solid_runs_cons [] runs h = absurd (h.some refl)
solid_runs_cons (byte ∷ field) runs h = ap (λ none. cond (not none) ((byte ∷ field) ∷ solid_runs runs) (solid_runs runs))
    (ne_eqb (length (byte ∷ field)) 0 (λ z. omega arith))

-- fields with one space between each two are read as these fields
pub joined_fields_are_read : JoinedFieldsAreRead
unfolding fields
joined_fields_are_read [] h = refl
joined_fields_are_read (field ∷ []) h =
    let first = All-head IsField field [] h in
    ap solid_runs (slice_split_none is_blank field first.solid) ∙ solid_runs_cons field [] first
joined_fields_are_read (field ∷ next ∷ more) h =
    let first = All-head IsField field (next ∷ more) h in
    ap solid_runs (slice_split_at is_blank field 32 (join_with_byte 32 (next ∷ more)) first.solid refl)
    ∙ solid_runs_cons field (slice_split is_blank (join_with_byte 32 (next ∷ more))) first
    ∙ ap (λ read. field ∷ read) (joined_fields_are_read (next ∷ more) (All-tail IsField field (next ∷ more) h))

-- a line has at most one field more than bytes
pub fields_few : (line : List ℕ) → length (fields line) ≤ length line + 1
unfolding fields
fields_few line =
    let parts = slice_split is_blank line in
    omega (
      arith,
      length-filter (λ run. not (eqb (length run) 0)) parts,
      count_by-le-length (λ run. not (eqb (length run) 0)) parts,
      length-slice_split is_blank line,
      count_by-le-length is_blank line,
    )

-- ---- fields by runs

-- a blank in front is no part of a field
blank_dropped : (blank : ℕ) (line : List ℕ) → is_blank blank ≡ true → fields (blank ∷ line) ≡ fields line
unfolding fields
blank_dropped blank line is = ap solid_runs (slice_split-cons_yes is_blank blank line is)

-- nor are several
blanks_dropped : (blanks line : List ℕ) → AreBlanks blanks → fields (blanks ++ line) ≡ fields line
blanks_dropped [] line are = refl
blanks_dropped (blank ∷ blanks) line are =
    blank_dropped blank (blanks ++ line) (All-head (λ byte. is_blank byte ≡ true) blank blanks are)
    ∙ blanks_dropped blanks line (All-tail (λ byte. is_blank byte ≡ true) blank blanks are)

-- no byte has no field
no_fields : fields [] ≡ []
unfolding fields
no_fields = refl

-- a field alone
one_field : (field : List ℕ) → IsField field → fields field ≡ field ∷ []
unfolding fields
one_field field is = ap solid_runs (slice_split_none is_blank field is.solid) ∙ solid_runs_cons field [] is

-- a field and a blank in front of others
field_first : (field : List ℕ) (blank : ℕ) (rest : List ℕ) → IsField field → is_blank blank ≡ true → fields (field ++ blank ∷ rest) ≡ field ∷ fields rest
unfolding fields
field_first field blank rest is ends =
    ap solid_runs (slice_split_at is_blank field blank rest is.solid ends) ∙ solid_runs_cons field (slice_split is_blank rest) is

-- the fields of a line by its runs
pub fields_by_runs : FieldsByRuns
fields_by_runs = record {
  none = λ blanks are. ap fields (sym (append-nil blanks)) ∙ blanks_dropped blanks [] are ∙ no_fields;
  last = λ blanks field are is. blanks_dropped blanks field are ∙ one_field field is;
  more = λ blanks field blank rest are is ends. blanks_dropped blanks (field ++ blank ∷ rest) are ∙ field_first field blank rest is ends;
}
