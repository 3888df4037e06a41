-- What is written is read.
use Rattle.std.proofs.Common.{◌≡◌, ◌≢◌, ℕ, ◌+◌, ◌-◌, ◌*◌, ◌≤◌, true, false, ne_eqb, List, [], ◌∷◌}
use Rattle.std.proofs.Common.{Option, Some, None, ◌++◌, length, get_or, map, codes, refl, sym, ap, ap₂, ◌∙◌, arith, inl}
use Rattle.std.proofs.Common.{inr, append_assoc, length-append}
use Rattle.std.specs.Char.{IsAsciiDigit}
use Rattle.std.specs.Fmt.{decimal}
use Rattle.std.specs.List.{All, join_with_byte}
use Rattle.std.proofs.lemmas.Bool.{and_parts, leb-true, false≢true}
use Rattle.std.proofs.lemmas.Fmt.{length-decimal-le}
use Rattle.std.proofs.lemmas.List.{append-nil}
use Rattle.std.proofs.lemmas.List.Elements.{All-nil, All-cons, All-head, All-tail, All-append}
use Rattle.std.proofs.lemmas.List.Elements.{All-weaker}
use Rattle.std.proofs.lemmas.List.Sums.{AllPass-from_list_all}
use Rattle.std.proofs.lemmas.Option.{same_Some}
use Rattle.text_parts.specs.Lines.{IsLine, raw_lines, without_return, text_of, is_blank}
use Rattle.text_parts.proofs.Cuts.{raw_lines_first}
use Rattle.text_parts.specs.Fields.{fields, IsField, JoinedFieldsAreRead}
use Rattle.text_parts.specs.Numbers.{IsDigitText, DecimalIsRead}
use Rattle.rpq_base.specs.Names.{is_name_byte, is_name, IsName}
use Rattle.rpq_base.specs.OwnEnds.{own_end}
use Rattle.rpq_base.specs.declared.data.TheConstants.{MAX_TIME}
use Rattle.rpq_base.specs.declared.data.Edge.{Edge}
use Rattle.rpq_base.specs.declared.data.Act.{Act}
use Rattle.rpq_base.specs.declared.data.Act.TheVariants.{Insert, Delete, Tick}
use Rattle.rpq_base.specs.declared.data.Tuple.{Tuple}
use Rattle.tuple_text.specs.Reading.{line_tuple}
use Rattle.tuple_text.specs.Parts.{IsStreamEdge, edge_fields, IsTimeText, IsActOf, GivesNothing}
use Rattle.tuple_text.specs.Written.{written_edge, written_until, written_act, written, IsStreamAct}
use Rattle.tuple_text.specs.Written.{IsStreamTuple}
use Rattle.tuple_text.specs.Written.{WrittenIsRead, WrittenIsShort, WrittenLinesAreRead}
use Rattle.tuple_text.proofs.Lines.{tuple_again}

-- no digit is blank
digit_solid : (byte : ℕ) → IsAsciiDigit byte → is_blank byte ≡ false
digit_solid byte h = rw (ne_eqb byte 32 (λ e. omega (arith, e, h)), ne_eqb byte 9 (λ e. omega (arith, e, h))) refl

-- a byte of a name is no byte that may not stand in one
name_byte_other : (byte bad : ℕ) → is_name_byte byte ≡ true → is_name_byte bad ≡ false → byte ≢ bad
name_byte_other byte bad good e same = false≢true (sym e ∙ ap is_name_byte (sym same) ∙ good)

name_byte_solid : (byte : ℕ) → is_name_byte byte ≡ true → is_blank byte ≡ false
name_byte_solid byte good = rw (ne_eqb byte 32 (name_byte_other byte 32 good refl), ne_eqb byte 9 (name_byte_other byte 9 good refl)) refl

-- the bytes of a name may stand in one
name_bytes : (name : List ℕ) → IsName name → All (λ byte. is_name_byte byte ≡ true) name
unfolding is_name
name_bytes name h = AllPass-from_list_all is_name_byte name (and_parts _ _ h).1

name_short : (name : List ℕ) → IsName name → length name ≤ 255
unfolding is_name
name_short name h = leb-true (length name) 255 (and_parts _ _ (and_parts _ _ h).0).1

name_some : (name : List ℕ) → IsName name → name ≢ []
unfolding is_name
name_some name h e = false≢true (sym (ap is_name e) ∙ h)

-- names, digit texts and signs are fields
name_field : (name : List ℕ) → IsName name → IsField name
name_field name h = record {
  some = name_some name h;
  solid = All-weaker (λ byte. is_name_byte byte ≡ true) (λ byte. is_blank byte ≡ false) name_byte_solid name
      (name_bytes name h);
}

digit_field : (text : List ℕ) → IsDigitText text → IsField text
digit_field text h = record { some = h.some; solid = All-weaker IsAsciiDigit (λ byte. is_blank byte ≡ false) digit_solid text h.digits }

sign_field : (byte : ℕ) → is_blank byte ≡ false → IsField (byte ∷ [])
sign_field byte e = record { some = λ none. cc; solid = All-cons (λ b. is_blank b ≡ false) byte [] e (All-nil (λ b. is_blank b ≡ false)) }

-- the fields of an own end and of an act as they are written
until_fields : Option ℕ → List (List ℕ)
until_fields None = []
until_fields (Some end) = codes "until" ∷ decimal end ∷ []

act_fields : Act → List (List ℕ)
act_fields (Insert edge until) = edge_fields edge ++ codes "+" ∷ until_fields until
act_fields (Delete edge) = edge_fields edge ++ codes "-" ∷ []
act_fields Tick = []

edge_are_fields : (edge : Edge) (sign : ℕ) (more : List (List ℕ)) → IsStreamEdge edge → is_blank sign ≡ false
    → All IsField more → All IsField (edge.from ∷ edge.label.name ∷ edge.to ∷ (sign ∷ []) ∷ more)
edge_are_fields edge sign more h e are =
    All-cons IsField edge.from (edge.label.name ∷ edge.to ∷ (sign ∷ []) ∷ more) (name_field edge.from h.from)
    (All-cons IsField edge.label.name (edge.to ∷ (sign ∷ []) ∷ more) (name_field edge.label.name h.label)
    (All-cons IsField edge.to ((sign ∷ []) ∷ more) (name_field edge.to h.to) (All-cons IsField (sign ∷ []) more (sign_field sign e) are)))

-- the digits of an end
end_digits : DecimalIsRead → (end : ℕ) → end ≤ MAX_TIME → IsTimeText end (decimal end)
end_digits decimals end h =
    let text = decimals end (omega (arith, h)) in
    record { digits = text.digits; value = text.value; range = h }

-- an end that an insert may have
abbrev IsEndOf : Option ℕ → Type 0
IsEndOf until = (end : ℕ) → until ≡ Some end → end ≤ MAX_TIME

word_field : IsField (codes "until")
unfolding is_name
word_field = name_field (codes "until") refl

until_are_fields : DecimalIsRead → (until : Option ℕ) → IsEndOf until → All IsField (until_fields until)
unfolding until_fields
until_are_fields decimals None h = All-nil IsField
until_are_fields decimals (Some end) h =
    All-cons IsField (codes "until") (decimal end ∷ []) word_field
    (All-cons IsField (decimal end) [] (digit_field (decimal end) (end_digits decimals end (h end refl)).digits) (All-nil IsField))

act_are_fields : DecimalIsRead → (act : Act) → IsStreamAct act → IsEndOf (own_end act) → All IsField (act_fields act)
unfolding act_fields
act_are_fields decimals (Insert edge until) h within =
    edge_are_fields edge 43 (until_fields until) h refl (until_are_fields decimals until within)
act_are_fields decimals (Delete edge) h within = edge_are_fields edge 45 [] h refl (All-nil IsField)
act_are_fields decimals Tick h within = All-nil IsField

act_is_written : DecimalIsRead → (act : Act) → IsStreamAct act → IsEndOf (own_end act) → IsActOf act (act_fields act)
unfolding act_fields until_fields
act_is_written decimals (Insert edge None) h within = (h, inr refl)
act_is_written decimals (Insert edge (Some end)) h within = (h, (decimal end, end_digits decimals end (within end refl), inr refl))
act_is_written decimals (Delete edge) h within = (h, refl)
act_is_written decimals Tick h within = refl

-- what is written is these fields with one space between each two
joined : (text : List ℕ) (act : Act)
    → text ++ written_act act ≡ join_with_byte 32 (text ∷ act_fields act)
unfolding act_fields until_fields
joined text (Insert edge None) = simp append_assoc
joined text (Insert edge (Some end)) = simp append_assoc
joined text (Delete edge) = simp append_assoc
joined text Tick = append-nil text

-- a line that begins with a digit gives something
some_line : (text more : List ℕ) → IsDigitText text → ¬ (GivesNothing (text ++ more))
some_line [] more h nothing = h.some refl
some_line (digit ∷ text) more h (inl blank) = false≢true (sym (digit_solid digit (All-head IsAsciiDigit digit text h.digits)) ∙ (and_parts _ _ blank).0)
some_line (digit ∷ text) more h (inr comment) =
    let first = All-head IsAsciiDigit digit text h.digits in
    let solid = digit_solid digit first in
    let byte : digit ≡ 35 = same_Some digit 35 (rw solid at comment) in
    omega (arith, byte, first)

pub written_is_read : JoinedFieldsAreRead → DecimalIsRead → WrittenIsRead
written_is_read joins decimals tuple h =
    let time = end_digits decimals tuple.time h.range.time_to in
    let text = decimal tuple.time in
    let rest = act_fields tuple.act in
    let solid : All IsField (text ∷ rest) =
    All-cons IsField text rest (digit_field text time.digits) (act_are_fields decimals tuple.act h.act h.range.end_to) in
    let split : fields (written tuple) ≡ text ∷ rest =
    ap fields (joined text tuple.act) ∙ joins (text ∷ rest) solid in
    tuple_again (written tuple) tuple (some_line text (written_act tuple.act) time.digits)
    (text, rest, split, time, act_is_written decimals tuple.act h.act h.range.end_to)

-- how long an edge is
edge_short : (edge : Edge) (sign : ℕ) → IsStreamEdge edge
    → length (written_edge edge ++ 32 ∷ sign ∷ []) ≤ 3 * (1 + 255) + 2
edge_short edge sign h =
    let from = name_short edge.from h.from in
    let label = name_short edge.label.name h.label in
    let to = name_short edge.to h.to in
    simp length-append (omega arith)

-- and a number in range
number_short : (number : ℕ) → number ≤ MAX_TIME → length (decimal number) ≤ 19
number_short number h = length-decimal-le 19 number (omega arith) (omega (arith, h)) (omega (arith, h))

until_short : (until : Option ℕ) → IsEndOf until → length (written_until until) ≤ 7 + 19
until_short None h = omega arith
until_short (Some end) h = omega (arith, length-append (codes " until ") (decimal end), number_short end (h end refl))

act_short : (act : Act) → IsStreamAct act → IsEndOf (own_end act) → length (written_act act) ≤ 3 * (1 + 255) + 2 + 7 + 19
act_short (Insert edge until) h within =
    omega (arith, length-append (written_edge edge ++ codes " +") (written_until until), edge_short edge 43 h, until_short until within)
act_short (Delete edge) h within = omega (arith, edge_short edge 45 h)
act_short Tick h within = omega arith

pub written_is_short : WrittenIsShort
written_is_short tuple h =
    omega (arith, length-append (decimal tuple.time) (written_act tuple.act), number_short tuple.time h.range.time_to, act_short tuple.act h.act h.range.end_to)

-- a byte that is neither a line feed nor a carriage return
abbrev Stays : ℕ → Type 0
Stays byte = (byte ≢ 10) × (byte ≢ 13)

name_stays : (name : List ℕ) → IsName name → All Stays name
name_stays name h =
    All-weaker (λ byte. is_name_byte byte ≡ true) Stays
    (λ byte good. (name_byte_other byte 10 good refl, name_byte_other byte 13 good refl)) name
    (name_bytes name h)

digits_stay : (text : List ℕ) → IsDigitText text → All Stays text
digits_stay text h = All-weaker IsAsciiDigit Stays (λ byte digit. (λ e. omega (arith, e, digit), λ e. omega (arith, e, digit))) text h.digits

byte_stays : (byte : ℕ) → Stays byte → All Stays (byte ∷ [])
byte_stays byte h = All-cons Stays byte [] h (All-nil Stays)

edge_stays : (edge : Edge) (sign : ℕ) → IsStreamEdge edge → Stays sign
    → All Stays (written_edge edge ++ 32 ∷ sign ∷ [])
edge_stays edge sign h s =
    let space : Stays 32 = (λ e. omega (arith, e), λ e. omega (arith, e)) in
    All-append Stays (written_edge edge) (32 ∷ sign ∷ [])
    (All-append Stays (codes " " ++ edge.from ++ codes " " ++ edge.label.name ++ codes " ") edge.to
    (All-append Stays (codes " " ++ edge.from ++ codes " " ++ edge.label.name) (codes " ")
    (All-append Stays (codes " " ++ edge.from ++ codes " ") edge.label.name
    (All-append Stays (codes " " ++ edge.from) (codes " ")
    (All-append Stays (codes " ") edge.from (byte_stays 32 space) (name_stays edge.from h.from))
    (byte_stays 32 space))
    (name_stays edge.label.name h.label))
    (byte_stays 32 space))
    (name_stays edge.to h.to))
    (All-cons Stays 32 (sign ∷ []) space (byte_stays sign s))

until_stays : DecimalIsRead → (until : Option ℕ) → IsEndOf until → All Stays (written_until until)
unfolding is_name
until_stays decimals None h = All-nil Stays
until_stays decimals (Some end) h =
    let space : All Stays (codes " ") = byte_stays 32 (λ e. omega (arith, e), λ e. omega (arith, e)) in
    All-append Stays (codes " " ++ codes "until" ++ codes " ") (decimal end)
    (All-append Stays (codes " " ++ codes "until") (codes " ")
    (All-append Stays (codes " ") (codes "until") space (name_stays (codes "until") refl)) space)
    (digits_stay (decimal end) (end_digits decimals end (h end refl)).digits)

act_stays : DecimalIsRead → (act : Act) → IsStreamAct act → IsEndOf (own_end act) → All Stays (written_act act)
act_stays decimals (Insert edge until) h within =
    All-append Stays (written_edge edge ++ codes " +") (written_until until)
    (edge_stays edge 43 h (λ e. omega (arith, e), λ e. omega (arith, e))) (until_stays decimals until within)
act_stays decimals (Delete edge) h within = edge_stays edge 45 h (λ e. omega (arith, e), λ e. omega (arith, e))
act_stays decimals Tick h within = All-nil Stays

written_stays : DecimalIsRead → (tuple : Tuple) → IsStreamTuple tuple → All Stays (written tuple)
written_stays decimals tuple h =
    All-append Stays (decimal tuple.time) (written_act tuple.act)
    (digits_stay (decimal tuple.time) (end_digits decimals tuple.time h.range.time_to).digits)
    (act_stays decimals tuple.act h.act h.range.end_to)

-- such a line loses no byte at its end
kept_whole : (line : List ℕ) → All Stays line → without_return line ≡ line
unfolding without_return
kept_whole [] h = refl
kept_whole (byte ∷ line) h = rw (ne_eqb (get_or (byte ∷ line) (length (byte ∷ line) - 1) 0) 13 (h (length (byte ∷ line) - 1) 0 (omega arith)).1) refl

pub written_lines_are_read : DecimalIsRead → WrittenIsRead → WrittenLinesAreRead
unfolding raw_lines
written_lines_are_read decimals reads [] h = refl
written_lines_are_read decimals reads (tuple ∷ tuples) h =
    let first = All-head IsStreamTuple tuple tuples h in
    let stays = written_stays decimals tuple first in
    let after = text_of (map written tuples) in
    let whole : IsLine (written tuple) = All-weaker Stays (λ byte. byte ≢ 10) (λ byte both. both.0) (written tuple) stays in
    let cut : raw_lines (text_of (map written (tuple ∷ tuples))) ≡ written tuple ∷ raw_lines after =
    ap raw_lines (append_assoc (written tuple) (10 ∷ []) after) ∙ raw_lines_first (written tuple) after whole in
    ap (λ (raw : List (List ℕ)). map line_tuple (map without_return raw)) cut
    ∙ ap₂ (λ read more. read ∷ more)
    (ap line_tuple (kept_whole (written tuple) stays) ∙ reads tuple first)
    (written_lines_are_read decimals reads tuples (All-tail IsStreamTuple tuple tuples h))
