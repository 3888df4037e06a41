-- The signs and the length of a written form.
use Rattle.std.proofs.Common.{◌≡◌, ℕ, ◌+◌, ◌*◌, ◌≤◌, ◌||◌, ◌==◌, not, Bool, true, false, cond, List, [], ◌∷◌, ◌++◌, length, codes, refl, sym, ◌∙◌, ap, append_assoc, add_assoc, zero-add, arith, leb}
use Rattle.std.specs.List.{list_all, list_any, count_by}
use Rattle.std.proofs.lemmas.Bool.{ne_eqb, and_parts, or_parts, leb-true}
use Rattle.std.proofs.lemmas.List.{append-nil, length-append}
use Rattle.std.proofs.lemmas.List.Sums.{sum_by-cons}
use Rattle.rpq_base.specs.Names.{is_name_byte, has_name_length, is_name, IsName}
use Rattle.rpq_base.specs.declared.data.Label.{Label}
use Rattle.path_syntax.specs.Expression.{Expression, Atom, Seq, Alt, Star, Plus, Opt}
use Rattle.path_syntax.specs.Size.{atoms}
use Rattle.path_syntax.specs.Grammar.{is_bare_byte, IsBare, escaped, quoted}
use Rattle.path_syntax.specs.Faults.{outside_quotes, behind_quote, is_sign, signs}
use Rattle.path_syntax.specs.Written.{written_name, caret, written_label, is_atom, is_seq, is_alt, grouped, written_expression, IsNamed}
use Rattle.path_syntax.specs.WrittenLaws.{grouped_signs, written_signs}
use Rattle.path_syntax.proofs.Steps.{bare_no_quote}

-- the text has these signs, and what follows it stands outside quotes
record HasSigns (text : List ℕ) (count : ℕ) : Type 0 where
  counted : (more : List ℕ) → signs (text ++ more) ≡ count + signs more

joined : (first second : List ℕ) (m n : ℕ) → HasSigns first m → HasSigns second n → HasSigns (first ++ second) (m + n)
joined first second m n a b = record {
  counted = λ more. ap signs (append_assoc first second more) ∙ a.counted (second ++ more) ∙ ap (λ k. m + k) (b.counted more) ∙ sym (add_assoc m n (signs more));
}

outside : (byte : ℕ) (bytes : List ℕ) → (byte ≡ 34 → ⊥) → signs (byte ∷ bytes) ≡ cond (is_sign byte) 1 0 + signs bytes
outside byte bytes no_quote = rw (ne_eqb byte 34 no_quote) (sum_by-cons (λ x. cond (is_sign x) 1 0) byte (outside_quotes bytes))

sign : (byte : ℕ) → is_sign byte ≡ true → (byte ≡ 34 → ⊥) → HasSigns (byte ∷ []) 1
sign byte is no_quote = record { counted = λ more. outside byte more no_quote ∙ ap (λ b. cond b 1 0 + signs more) is }

no_sign : (byte : ℕ) → is_sign byte ≡ false → (byte ≡ 34 → ⊥) → HasSigns (byte ∷ []) 0
no_sign byte is no_quote = record { counted = λ more. outside byte more no_quote ∙ ap (λ b. cond b 1 0 + signs more) is }

-- a byte that may stand bare is no sign
not_true : (b : Bool) → not b ≡ true → b ≡ false
not_true true e = sym e
not_true false e = refl

fewer : (test : ℕ → Bool) (xs ys : List ℕ) → list_any test (xs ++ ys) ≡ false → list_any test xs ≡ false
fewer test [] ys e = refl
fewer test (x ∷ xs) ys e = let parts = or_parts (test x) (list_any test (xs ++ ys)) e in rw (parts.0) (fewer test xs ys parts.1)

bare_no_sign : (byte : ℕ) → is_bare_byte byte ≡ true → is_sign byte ≡ false
bare_no_sign byte bare =
    let parts = and_parts (is_name_byte byte) (not (list_any (λ sign. byte == sign) (codes "/|*+?()^!\"\\"))) bare in
    fewer (λ sign. byte == sign) (codes "/|*+?(") (codes ")^!\"\\") (not_true (list_any (λ sign. byte == sign) (codes "/|*+?()^!\"\\")) parts.1)

bare_signs : (name : List ℕ) → IsBare name → (more : List ℕ) → signs (name ++ more) ≡ signs more
bare_signs [] bare more = refl
bare_signs (byte ∷ name) bare more =
    let parts = and_parts (is_bare_byte byte) (list_all is_bare_byte name) bare in
    outside byte (name ++ more) (bare_no_quote byte 34 refl parts.0) ∙ ap (λ b. cond b 1 0 + signs (name ++ more)) (bare_no_sign byte parts.0) ∙
    zero-add (signs (name ++ more)) ∙ bare_signs name parts.1 more

-- within quotes nothing counts
by_tests : (byte : ℕ) (rest : List ℕ) (quote backslash : Bool) → (byte == 34) ≡ quote → (byte == 92) ≡ backslash →
    behind_quote (cond (quote || backslash) (92 ∷ byte ∷ []) (byte ∷ []) ++ rest) ≡ behind_quote rest
by_tests byte rest true backslash q b = refl
by_tests byte rest false true q b = refl
by_tests byte rest false false q b = rw (q, b) refl

quoted_behind : (name more : List ℕ) → behind_quote (quoted name ++ 34 ∷ more) ≡ outside_quotes more
quoted_behind [] more = refl
quoted_behind (byte ∷ name) more =
    ap behind_quote (append_assoc (escaped byte) (quoted name) (34 ∷ more)) ∙ by_tests byte (quoted name ++ 34 ∷ more) (byte == 34) (byte == 92) refl refl ∙
    quoted_behind name more

label_by : (bare : Bool) (name : List ℕ) → list_all is_bare_byte name ≡ bare → HasSigns (cond bare name (codes "\"" ++ quoted name ++ codes "\"")) 0
label_by true name is = record { counted = λ more. bare_signs name is more ∙ sym (zero-add (signs more)) }
label_by false name is = record {
  counted = λ more. ap (λ (t : List ℕ). count_by is_sign (behind_quote t)) (append_assoc (quoted name) (34 ∷ []) more) ∙
      ap (λ (t : List ℕ). count_by is_sign t) (quoted_behind name more) ∙ sym (zero-add (signs more));
}

behind_caret : (back : Bool) (text : List ℕ) → HasSigns text 0 → HasSigns (caret back ++ text) 0
behind_caret true text h = joined (codes "^") text 0 0 (no_sign 94 refl (λ e. omega arith)) h
behind_caret false text h = h

label_signs : (label : Label) → HasSigns (written_label label) 0
label_signs label = behind_caret label.back (written_name label.name) (label_by (list_all is_bare_byte label.name) label.name refl)

slash : HasSigns (codes "/") 1
slash = sign 47 refl (λ h. omega arith)

bar : HasSigns (codes "|") 1
bar = sign 124 refl (λ h. omega arith)

grouped_has : (wanted : Bool) (text : List ℕ) (count : ℕ) → HasSigns text count → HasSigns (grouped wanted text) (grouped_signs wanted count)
grouped_has false text count h = h
grouped_has true text count h =
    let whole = joined (codes "(" ++ text) (codes ")") (1 + count) 0 (joined (codes "(") text 1 count (sign 40 refl (λ e. omega arith)) h) (no_sign 41 refl (λ e. omega arith)) in
    record { counted = λ more. whole.counted more ∙ ap (λ n. n + signs more) (let same : 1 + count + 0 ≡ count + 1 = omega arith in same) }

written_has : (e : Expression) → HasSigns (written_expression e) (written_signs e)
written_has (Atom label) = label_signs label
written_has (Seq left right) =
    let first = grouped_has (is_alt left) (written_expression left) (written_signs left) (written_has left) in
    let second = grouped_has (is_alt right || is_seq right) (written_expression right) (written_signs right) (written_has right) in
    joined (grouped (is_alt left) (written_expression left) ++ codes "/") (grouped (is_alt right || is_seq right) (written_expression right)) (grouped_signs (is_alt left) (written_signs left) + 1) (grouped_signs (is_alt right || is_seq right) (written_signs right))
    (joined (grouped (is_alt left) (written_expression left)) (codes "/") (grouped_signs (is_alt left) (written_signs left)) 1 first slash) second
written_has (Alt left right) =
    let second = grouped_has (is_alt right) (written_expression right) (written_signs right) (written_has right) in
    joined (written_expression left ++ codes "|") (grouped (is_alt right) (written_expression right)) (written_signs left + 1) (grouped_signs (is_alt right) (written_signs right))
    (joined (written_expression left) (codes "|") (written_signs left) 1 (written_has left) bar) second
written_has (Star body) =
    joined (grouped (not (is_atom body)) (written_expression body)) (codes "*") (grouped_signs (not (is_atom body)) (written_signs body)) 1
    (grouped_has (not (is_atom body)) (written_expression body) (written_signs body) (written_has body)) (sign 42 refl (λ h. omega arith))
written_has (Plus body) =
    joined (grouped (not (is_atom body)) (written_expression body)) (codes "+") (grouped_signs (not (is_atom body)) (written_signs body)) 1
    (grouped_has (not (is_atom body)) (written_expression body) (written_signs body) (written_has body)) (sign 43 refl (λ h. omega arith))
written_has (Opt body) =
    joined (grouped (not (is_atom body)) (written_expression body)) (codes "?") (grouped_signs (not (is_atom body)) (written_signs body)) 1
    (grouped_has (not (is_atom body)) (written_expression body) (written_signs body) (written_has body)) (sign 63 refl (λ h. omega arith))

pub signs_of_written : (e : Expression) → signs (written_expression e) ≡ written_signs e
signs_of_written e =
    ap signs (sym (append-nil (written_expression e))) ∙ (written_has e).counted [] ∙ (let none : written_signs e + signs [] ≡ written_signs e = omega arith in none)

-- how long it is
pub short_name : (name : List ℕ) → IsName name → length name ≤ 255
unfolding is_name
short_name name valid =
    leb-true (length name) 255 (and_parts (leb 1 (length name)) (leb (length name) 255) (and_parts (has_name_length name) (list_all is_name_byte name) valid).0).1

escaped_length : (quote : Bool) (byte : ℕ) → length (cond quote (92 ∷ byte ∷ []) (byte ∷ [])) ≤ 2
escaped_length true byte = omega arith
escaped_length false byte = omega arith

quoted_length : (name : List ℕ) → length (quoted name) ≤ 2 * length name
quoted_length [] = omega arith
quoted_length (byte ∷ name) =
    omega (arith, length-append (escaped byte) (quoted name), escaped_length (byte == 34 || byte == 92) byte, quoted_length name)

label_length : (bare : Bool) (name : List ℕ) → length name ≤ 255 → length (cond bare name (codes "\"" ++ quoted name ++ codes "\"")) ≤ 512
label_length true name short = omega arith
label_length false name short = omega (arith, length-append (codes "\"" ++ quoted name) (codes "\""), quoted_length name)

caret_length : (back : Bool) (text : List ℕ) → length text ≤ 512 → length (caret back ++ text) ≤ 513
caret_length true text short = omega arith
caret_length false text short = omega arith

grouped_length : (wanted : Bool) (text : List ℕ) (labels count : ℕ) → length text ≤ labels + 2 * count → length (grouped wanted text) ≤ labels + 2 * grouped_signs wanted count
grouped_length false text labels count h = h
grouped_length true text labels count h = omega (arith, length-append (codes "(" ++ text) (codes ")"))

grouped_more : (wanted : Bool) (count : ℕ) → count ≤ grouped_signs wanted count
grouped_more false count = omega arith
grouped_more true count = omega arith

pub atoms_within_signs : (e : Expression) → atoms e ≤ written_signs e + 1
atoms_within_signs (Atom label) = omega arith
atoms_within_signs (Seq left right) =
    omega (arith, atoms_within_signs left, atoms_within_signs right, grouped_more (is_alt left) (written_signs left), grouped_more (is_alt right || is_seq right) (written_signs right))
atoms_within_signs (Alt left right) =
    omega (arith, atoms_within_signs left, atoms_within_signs right, grouped_more (is_alt right) (written_signs right))
atoms_within_signs (Star body) = omega (arith, atoms_within_signs body, grouped_more (not (is_atom body)) (written_signs body))
atoms_within_signs (Plus body) = omega (arith, atoms_within_signs body, grouped_more (not (is_atom body)) (written_signs body))
atoms_within_signs (Opt body) = omega (arith, atoms_within_signs body, grouped_more (not (is_atom body)) (written_signs body))

repeated_length : (byte : ℕ) (bare : Bool) (text : List ℕ) (labels count : ℕ) → length text ≤ labels + 2 * count → length (grouped (not bare) text ++ byte ∷ []) ≤ labels + 2 * (grouped_signs (not bare) count + 1)
repeated_length byte bare text labels count h =
    omega (arith, length-append (grouped (not bare) text) (byte ∷ []), grouped_length (not bare) text labels count h)

pub written_length : (e : Expression) → IsNamed e → length (written_expression e) ≤ 513 * atoms e + 2 * written_signs e
written_length (Atom label) named =
    omega (
      arith,
      caret_length label.back (written_name label.name)
          (label_length (list_all is_bare_byte label.name) label.name (short_name label.name named)),
    )
written_length (Seq left right) named =
    let first = grouped_length (is_alt left) (written_expression left) (513 * atoms left) (written_signs left) (written_length left named.0) in
    let second = grouped_length (is_alt right || is_seq right) (written_expression right) (513 * atoms right) (written_signs right) (written_length right named.1) in
    omega (arith, length-append (grouped (is_alt left) (written_expression left) ++ codes "/") (grouped (is_alt right || is_seq right) (written_expression right)), length-append (grouped (is_alt left) (written_expression left)) (codes "/"), first, second)
written_length (Alt left right) named =
    let first = written_length left named.0 in
    let second = grouped_length (is_alt right) (written_expression right) (513 * atoms right) (written_signs right) (written_length right named.1) in
    omega (arith, length-append (written_expression left ++ codes "|") (grouped (is_alt right) (written_expression right)), length-append (written_expression left) (codes "|"), first, second)
written_length (Star body) named = repeated_length 42 (is_atom body) (written_expression body) (513 * atoms body) (written_signs body) (written_length body named)
written_length (Plus body) named = repeated_length 43 (is_atom body) (written_expression body) (513 * atoms body) (written_signs body) (written_length body named)
written_length (Opt body) named = repeated_length 63 (is_atom body) (written_expression body) (513 * atoms body) (written_signs body) (written_length body named)
