-- The first field of a line.
use Rattle.std.proofs.Common.{◌≡◌, ◌≢◌, ℕ, suc, ◌+◌, ◌-◌, Bool, true, false, cond, not, ltb, List, [], ◌∷◌, ◌++◌, ◌⊎◌, inl, inr, length, take, drop, filter, Some, None, unwrap_or, position, eqb, refl, sym, ap, ap₂, subst, ◌∙◌, arith, length-drop}
use Rattle.std.specs.List.{All, prefix_len, position_or_len}
use Rattle.std.proofs.lemmas.Bool.{false≢true, ltb-false}
use Rattle.std.proofs.lemmas.List.{append-nil, take_all, take-append-drop}
use Rattle.std.proofs.lemmas.List.Elements.{All-nil, All-cons, All-head, All-tail, All-weaker}
use Rattle.std.proofs.lemmas.List.Splits.{slice_split-cons_yes}
use Rattle.std.proofs.lemmas.List.Sums.{prefix_len-le-length}
use Rattle.text_parts.specs.Lines.{is_blank}
use Rattle.text_parts.specs.Fields.{fields, IsField, AreBlanks}
use Rattle.text_parts.proofs.FieldLaws.{fields_by_runs}
use Rattle.query_file.specs.FirstField.{EndsRun, IsBehindBlanks, IsFirstField, OneFirstField}

-- ---- runs

-- a run with one byte more in front
longer_run : (test : ℕ → Bool) (byte : ℕ) (text : List ℕ) → test byte ≡ true → prefix_len test (byte ∷ text) ≡ suc (prefix_len test text)
longer_run test byte text passes =
    let e : cond (test byte) (1 + prefix_len test text) 0 ≡ 1 + prefix_len test text = ap (λ t. cond t (1 + prefix_len test text) 0) passes in
    omega (arith, e)

-- no run
no_run : (test : ℕ → Bool) (byte : ℕ) (text : List ℕ) → test byte ≡ false → prefix_len test (byte ∷ text) ≡ 0
no_run test byte text fails = ap (λ t. cond t (1 + prefix_len test text) 0) fails

-- the bytes of a run pass the test
run_passes : (test : ℕ → Bool) (text : List ℕ) → All (λ byte. test byte ≡ true) (take (prefix_len test text) text)
run_passes test [] = All-nil (λ byte. test byte ≡ true)
run_passes test (byte ∷ text) = by (test byte) refl (run_passes test text)
  where
    by : (passes : Bool) → test byte ≡ passes → All (λ b. test b ≡ true) (take (prefix_len test text) text) →
        All (λ b. test b ≡ true) (take (prefix_len test (byte ∷ text)) (byte ∷ text))
    by true is rest = subst (λ n. All (λ b. test b ≡ true) (take n (byte ∷ text))) (sym (longer_run test byte text is))
        (All-cons (λ b. test b ≡ true) byte (take (prefix_len test text) text) is rest)
    by false is rest = subst (λ n. All (λ b. test b ≡ true) (take n (byte ∷ text))) (sym (no_run test byte text is))
        (All-nil (λ b. test b ≡ true))

-- what stands behind it ends it
run_ends : (test : ℕ → Bool) (text : List ℕ) → EndsRun test (drop (prefix_len test text) text)
run_ends test [] = tt
run_ends test (byte ∷ text) = by (test byte) refl (run_ends test text)
  where
    by : (passes : Bool) → test byte ≡ passes → EndsRun test (drop (prefix_len test text) text) →
        EndsRun test (drop (prefix_len test (byte ∷ text)) (byte ∷ text))
    by true is rest = subst (λ n. EndsRun test (drop n (byte ∷ text))) (sym (longer_run test byte text is)) rest
    by false is rest = subst (λ n. EndsRun test (drop n (byte ∷ text))) (sym (no_run test byte text is)) is

-- a text has one run in front
pub one_run : (test : ℕ → Bool) (run rest other left : List ℕ) → All (λ b. test b ≡ true) run → EndsRun test rest → All (λ b. test b ≡ true) other → EndsRun test left →
    run ++ rest ≡ other ++ left → (run ≡ other) × (rest ≡ left)
one_run test [] rest [] left passes ends pass end e = (refl, e)
one_run test [] rest (byte ∷ other) left passes ends pass end e =
    let stops : test byte ≡ false = subst (EndsRun test) e ends in
    absurd (false≢true (sym stops ∙ All-head (λ b. test b ≡ true) byte other pass))
one_run test (byte ∷ run) rest [] left passes ends pass end e =
    let stops : test byte ≡ false = subst (EndsRun test) (sym e) end in
    absurd (false≢true (sym stops ∙ All-head (λ b. test b ≡ true) byte run passes))
one_run test (byte ∷ run) rest (next ∷ other) left passes ends pass end e =
    let same : byte ≡ next = cc in
    let tails : run ++ rest ≡ other ++ left = cc in
    let both = one_run test run rest other left (All-tail (λ b. test b ≡ true) byte run passes) ends (All-tail (λ b. test b ≡ true) next other pass) end tails in
    (ap₂ (λ (b : ℕ) (l : List ℕ). b ∷ l) same both.0, both.1)

not_not : (b : Bool) → not (not b) ≡ b
not_not true = refl
not_not false = refl

passes_not : (b : Bool) → b ≡ false → not b ≡ true
passes_not b is = ap not is

fails_not : (b : Bool) → not b ≡ false → b ≡ true
fails_not b is = sym (not_not b) ∙ ap not is

-- ---- blanks

blanks_end : (text : List ℕ) → EndsRun (λ byte. not (not (is_blank byte))) text → EndsRun is_blank text
blanks_end [] ends = tt
blanks_end (byte ∷ text) ends = sym (not_not (is_blank byte)) ∙ ends

-- what stands behind the blanks in front of a line
pub behind_blanks : (line : List ℕ) → IsBehindBlanks line (drop (position_or_len (λ byte. not (is_blank byte)) line) line)
behind_blanks line =
    let test : ℕ → Bool = λ byte. not (not (is_blank byte)) in
    let place = prefix_len test line in
    record {
      blanks = take place line;
      are = All-weaker (λ byte. test byte ≡ true) (λ byte. is_blank byte ≡ true)
          (λ byte passes. sym (not_not (is_blank byte)) ∙ passes) (take place line) (run_passes test line);
      split = sym (take-append-drop place line);
      ends = blanks_end (drop place line) (run_ends test line);
    }

-- the part of a text from a place on
pub rest_at : (text : List ℕ) (place : ℕ) → take (length text - place) (drop place text) ≡ drop place text
rest_at text place = take_all (length text - place) (drop place text) (omega (arith, length-drop place text))

-- a place by position is one by the number of bytes in front
pub place_of : (test : ℕ → Bool) (text : List ℕ) → unwrap_or (position test text) (length text) ≡ position_or_len test text
place_of test text = by (ltb (position_or_len test text) (length text)) refl
  where
    by : (found : Bool) → ltb (position_or_len test text) (length text) ≡ found → unwrap_or (position test text) (length text) ≡ position_or_len test text
    by true e = ap (λ t. unwrap_or (cond t (Some (position_or_len test text)) None) (length text)) e
    by false e =
        ap (λ t. unwrap_or (cond t (Some (position_or_len test text)) None) (length text)) e
        ∙ omega (arith, ltb-false (position_or_len test text) (length text) e, prefix_len-le-length (λ byte. not (test byte)) text)

-- ---- the first field

-- bytes that aren't blank begin with none
field_ends_blanks : (field rest : List ℕ) → IsField field → EndsRun is_blank (field ++ rest)
field_ends_blanks [] rest is = absurd (is.some refl)
field_ends_blanks (byte ∷ field) rest is = All-head (λ b. is_blank b ≡ false) byte field is.solid

solid_passes : (field : List ℕ) → All (λ b. is_blank b ≡ false) field → All (λ b. not (is_blank b) ≡ true) field
solid_passes field solid = All-weaker (λ b. is_blank b ≡ false) (λ b. not (is_blank b) ≡ true) (λ b is. passes_not (is_blank b) is) field solid

-- the first field of a line is one, and the rest too
pub one_first : OneFirstField
one_first line first rest second other is was =
    let whole = one_run is_blank is.blanks (first ++ rest) was.blanks (second ++ other) is.are (field_ends_blanks first rest is.solid)
    was.are (field_ends_blanks second other was.solid) (sym is.split ∙ was.split) in
    one_run (λ b. not (is_blank b)) first rest second other (solid_passes first is.solid.solid) is.ends
    (solid_passes second was.solid.solid) was.ends whole.1

-- blanks have no first field
pub blanks_none : (line field rest : List ℕ) → AreBlanks line → IsFirstField line field rest → ⊥
blanks_none line field rest blank is =
    let both = one_run is_blank line [] is.blanks (field ++ rest) blank tt is.are (field_ends_blanks field rest is.solid) (append-nil line ∙ is.split) in
    by field is.solid both.1
  where
    by : (f : List ℕ) → IsField f → [] ≡ f ++ rest → ⊥
    by [] solid e = solid.some refl
    by (byte ∷ f) solid e = absurd cc

-- a text that begins with no blank begins with a field
field_at : (text : List ℕ) → text ≢ [] → EndsRun is_blank text → IsField (take (position_or_len is_blank text) text)
field_at [] some ends = absurd (some refl)
field_at (byte ∷ text) some ends =
    let test : ℕ → Bool = λ b. not (is_blank b) in
    let longer : prefix_len test (byte ∷ text) ≡ suc (prefix_len test text) = longer_run test byte text (passes_not (is_blank byte) ends) in
    let long : take (prefix_len test (byte ∷ text)) (byte ∷ text) ≡ byte ∷ take (prefix_len test text) text = ap (λ n. take n (byte ∷ text)) longer in
    record {
      some = λ none. absurd (cc (sym long ∙ none));
      solid = All-weaker (λ b. test b ≡ true) (λ b. is_blank b ≡ false)
          (λ b passes. sym (not_not (is_blank b)) ∙ ap not passes) (take (prefix_len test (byte ∷ text)) (byte ∷ text)) (run_passes test (byte ∷ text));
    }

-- where a text behind blanks isn't empty, a field stands there
pub first_at : (line text : List ℕ) → IsBehindBlanks line text → text ≢ [] →
    IsFirstField line (take (position_or_len is_blank text) text) (drop (position_or_len is_blank text) text)
first_at line text behind some =
    let place = position_or_len is_blank text in
    record {
      blanks = behind.blanks;
      are = behind.are;
      split = behind.split ∙ ap (λ (t : List ℕ). behind.blanks ++ t) (sym (take-append-drop place text));
      solid = field_at text some behind.ends;
      ends = run_ends (λ b. not (is_blank b)) text;
    }

-- where it is empty, the line is blank
pub none_at : (line : List ℕ) → IsBehindBlanks line [] → AreBlanks line
none_at line behind = subst AreBlanks (sym (behind.split ∙ append-nil behind.blanks)) behind.are

-- a first field and what stands behind it
pub record HasFirst (line : List ℕ) : Type 0 where
  pub field : List ℕ
  pub rest : List ℕ
  pub first : IsFirstField line field rest

-- a line is blank or has a first field
pub first_of : (line : List ℕ) → AreBlanks line ⊎ HasFirst line
first_of line = by (drop (position_or_len (λ byte. not (is_blank byte)) line) line) (behind_blanks line)
  where
    by : (text : List ℕ) → IsBehindBlanks line text → AreBlanks line ⊎ HasFirst line
    by [] behind = inl (none_at line behind)
    by (byte ∷ text) behind =
        inr (record { field = _; rest = _; first = first_at line (byte ∷ text) behind (λ e. absurd cc) })

-- ---- and all fields

-- a blank in front is no part of a field
blank_dropped : (blank : ℕ) (line : List ℕ) → is_blank blank ≡ true → fields (blank ∷ line) ≡ fields line
unfolding fields
blank_dropped blank line is = ap (λ (runs : List (List ℕ)). filter (λ run. not (eqb (length run) 0)) runs) (slice_split-cons_yes is_blank blank line is)

pub blanks_no_fields : (line : List ℕ) → AreBlanks line → fields line ≡ []
blanks_no_fields line are = fields_by_runs.none line are

-- the first field is the first of all fields, and the rest has the others
pub first_of_fields : (line field rest : List ℕ) → IsFirstField line field rest → fields line ≡ field ∷ fields rest
first_of_fields line field [] is =
    ap fields (is.split ∙ ap (λ (t : List ℕ). is.blanks ++ t) (append-nil field))
    ∙ (fields_by_runs.last is.blanks field is.are is.solid
    ∙ ap (λ (fs : List (List ℕ)). field ∷ fs) (sym (blanks_no_fields [] (All-nil (λ b. is_blank b ≡ true)))))
first_of_fields line field (blank ∷ rest) is =
    let one = fails_not (is_blank blank) is.ends in
    ap fields is.split ∙ (fields_by_runs.more is.blanks field blank rest is.are is.solid one
    ∙ ap (λ (fs : List (List ℕ)). field ∷ fs) (sym (blank_dropped blank rest one)))

-- a line without a field is blank
pub no_fields_blanks : (line : List ℕ) → fields line ≡ [] → AreBlanks line
no_fields_blanks line none = elim (first_of line) [
  | inl are ↦ are
  | inr has ↦ absurd (cc (sym (first_of_fields line has.field has.rest has.first) ∙ none))
]
