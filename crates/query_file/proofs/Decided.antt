-- A line has parts or has none.
use Rattle.std.proofs.Common.{◌≡◌, ℕ, Bool, true, false, List, [], ◌∷◌, ◌++◌, ◌⊎◌, inl, inr, codes, not, drop, refl, sym, ap, subst, ◌∙◌}
use Rattle.std.proofs.lemmas.Bool.{false≢true}
use Rattle.std.proofs.lemmas.Slice.Eq.{bytes_eq-Decides}
use Rattle.std.specs.Str.{bytes_eq}
use Rattle.std.specs.List.{position_or_len}
use Rattle.text_parts.specs.Lines.{is_blank}
use Rattle.rpq_base.specs.Names.{IsName, is_name}
use Rattle.rpq_model.specs.declared.mode.Mode.{Mode}
use Rattle.rpq_model.specs.declared.mode.Mode.TheVariants.{Arbitrary, Simple}
use Rattle.query_file.specs.FirstField.{EndsField, IsBehindBlanks, IsFirstField}
use Rattle.query_file.specs.LineTexts.{IsModeCut, AreTexts}
use Rattle.query_file.specs.QueryLine.{mode_text, LineParts, HasParts}
use Rattle.query_file.proofs.FirstFields.{one_first, first_of, blanks_none, behind_blanks}
use Rattle.query_file.proofs.OneParts.{no_name}
use Rattle.query_file.proofs.Texts.{mode_cut, no_mode, parts_from_texts, texts_of_parts}

-- it holds or it doesn't
abbrev Decided : Type 0 → Type 0
Decided P = P ⊎ (P → ⊥)

both : {P Q : Type 0} → Decided P → (P → Decided Q) → Decided (P × Q)
both (inr no_first) second = inr (λ held. no_first held.0)
both (inl first) second = elim (second first) [
  | inl also ↦ inl (first, also)
  | inr no_second ↦ inr (λ held. no_second held.1)
]

equal : (first second : List ℕ) → Decided (first ≡ second)
equal first second = by (bytes_eq first second) refl
  where
    by : (test : Bool) → bytes_eq first second ≡ test → Decided (first ≡ second)
    by true is = inl ((bytes_eq-Decides first second).0 is)
    by false is = inr (λ same. false≢true (sym is ∙ (bytes_eq-Decides first second).1 same))

-- the first field and what stands behind it, of which this holds
abbrev ForFirst : List ℕ → (List ℕ → List ℕ → Type 0) → Type 0
ForFirst line P = (field : List ℕ) × (rest : List ℕ) × IsFirstField line field rest × P field rest

for_first : (P : List ℕ → List ℕ → Type 0) (line : List ℕ) → ((field rest : List ℕ) → IsFirstField line field rest → Decided (P field rest)) → Decided (ForFirst line P)
for_first P line decide = elim (first_of line) [
  | inl blank ↦ inr (λ (field, rest, is, p). blanks_none line field rest blank is)
  | inr has ↦ elim (decide has.field has.rest has.first) [
    | inl p ↦ inl (has.field, has.rest, has.first, p)
    | inr none ↦ inr (λ (field, rest, is, p).
        let same = one_first line field rest has.field has.rest is has.first in
        none (subst (λ (f : List ℕ). P f has.rest) same.0 (subst (λ (r : List ℕ). P field r) same.1 p)))
  ]
]

-- whether the text begins with the prefix
begins : (prefix text : List ℕ) → Decided ((rest : List ℕ) × (text ≡ prefix ++ rest))
begins [] text = inl (text, refl)
begins (byte ∷ prefix) [] = inr (λ (rest, is). absurd cc)
begins (byte ∷ prefix) (other ∷ text) = by (equal (byte ∷ []) (other ∷ [])) (begins prefix text)
  where
    by : Decided (byte ∷ [] ≡ other ∷ []) → Decided ((rest : List ℕ) × (text ≡ prefix ++ rest)) → Decided ((rest : List ℕ) × (other ∷ text ≡ byte ∷ (prefix ++ rest)))
    by (inr apart) later = inr (λ (rest, is). let same : other ≡ byte = cc in apart (ap (λ b. b ∷ []) (sym same)))
    by (inl same) (inl (rest, is)) = inl (rest, let heads : byte ≡ other = cc in ap (λ (t : List ℕ). other ∷ t) is ∙ ap (λ b. b ∷ (prefix ++ rest)) (sym heads))
    by (inl same) (inr none) = inr (λ (rest, is). let tails : text ≡ prefix ++ rest = cc in none (rest, tails))

abbrev ForMode : List ℕ → Type 0
ForMode rest = (mode : Mode) × (expr : List ℕ) × IsModeCut rest mode expr

for_mode_behind : (rest text : List ℕ) → EndsField rest → IsBehindBlanks rest text → Decided (ForMode rest)
for_mode_behind rest text ends behind = elim (begins (mode_text Arbitrary) text) [
  | inl found ↦ inl (Arbitrary, found.0, mode_cut rest text Arbitrary found.0 ends behind found.1)
  | inr none ↦ elim (begins (mode_text Simple) text) [
    | inl found ↦ inl (Simple, found.0, mode_cut rest text Simple found.0 ends behind found.1)
    | inr also ↦ inr (λ (mode, expr, cut). no_mode rest text behind (λ more is. none (more, is)) (λ more is. also (more, is)) mode expr cut)
  ]
]

for_mode : (rest : List ℕ) → EndsField rest → Decided (ForMode rest)
for_mode rest ends = for_mode_behind rest (drop (position_or_len (λ byte. not (is_blank byte)) rest) rest) ends (behind_blanks rest)

-- ---- the parts

abbrev BehindSlide : List ℕ → Type 0
BehindSlide line = ForFirst line (λ slide rest. ForMode rest)

abbrev BehindSize : List ℕ → Type 0
BehindSize line = ForFirst line (λ size rest. ForFirst rest (λ word next. (word ≡ codes "slide") × BehindSlide next))

abbrev BehindName : List ℕ → Type 0
BehindName line = ForFirst line (λ name rest. ForFirst rest (λ word next. (word ≡ codes "window") × BehindSize next))

abbrev WholeLine : List ℕ → Type 0
WholeLine line = ForFirst line (λ word rest. (word ≡ codes "query") × BehindName rest)

whole : (line : List ℕ) → Decided (WholeLine line)
whole line = for_first _ line (λ word rest is. both (equal word (codes "query")) (λ _.
    for_first _ rest (λ name r1 i1. for_first _ r1 (λ w1 r2 i2. both (equal w1 (codes "window")) (λ _.
    for_first _ r2 (λ size r3 i3. for_first _ r3 (λ w2 r4 i4. both (equal w2 (codes "slide")) (λ _.
    for_first _ r4 (λ slide r5 i5. for_mode r5 i5.ends)))))))))

whole_parts : (line : List ℕ) → WholeLine line → (parts : LineParts) × AreTexts line parts.name parts.size parts.slide parts.mode parts.expr
whole_parts line (w0, r0, i0, (e0, (name, r1, i1, (w1, r2, i2, (e1, (size, r3, i3, (w2, r4, i4, (e2, (slide, r5, i5, (mode, expr, cut)))))))))) = (
  record { name = name; size = size; slide = slide; mode = mode; expr = expr },
  record {
    rest = r5;
    behind = (
      r0,
      subst (λ (w : List ℕ). IsFirstField line w r0) e0 i0,
      (
        r1,
        i1,
        (
          r2,
          subst (λ (w : List ℕ). IsFirstField r1 w r2) e1 i2,
          (r3, i3, (r4, subst (λ (w : List ℕ). IsFirstField r3 w r4) e2 i4, (r5, i5, refl))),
        ),
      ),
    );
    cut = cut;
  },
)

parts_whole : (line : List ℕ) (parts : LineParts) → HasParts line parts → WholeLine line
parts_whole line parts has =
    let texts = texts_of_parts line parts has in
    let b1 = texts.behind in let b2 = b1.2 in let b3 = b2.2 in let b4 = b3.2 in let b5 = b4.2 in let b6 = b5.2 in (
      codes "query",
      b1.0,
      b1.1,
      (
        refl,
        (
          parts.name,
          b2.0,
          b2.1,
          (
            codes "window",
            b3.0,
            b3.1,
            (
              refl,
              (
                parts.size,
                b4.0,
                b4.1,
                (
                  codes "slide",
                  b5.0,
                  b5.1,
                  (refl, (parts.slide, b6.0, b6.1, (parts.mode, parts.expr, subst (λ (r : List ℕ). IsModeCut r parts.mode parts.expr) (sym b6.2) texts.cut))),
                ),
              ),
            ),
          ),
        ),
      ),
    )

named : (name : List ℕ) → Decided (IsName name)
named name = by (is_name name) refl
  where
    by : (test : Bool) → is_name name ≡ test → Decided (IsName name)
    by true is = inl is
    by false is = inr (λ name_is. absurd (false≢true (sym is ∙ name_is)))

-- a line has parts, or has none
pub parts_or_none : (line : List ℕ) → ((parts : LineParts) × HasParts line parts) ⊎ ((parts : LineParts) → HasParts line parts → ⊥)
parts_or_none line = elim (whole line) [
  | inr none ↦ inr (λ parts has. none (parts_whole line parts has))
  | inl found ↦
      let texts = whole_parts line found in
      elim (named texts.0.name) [
        | inl is ↦ inl (texts.0, parts_from_texts line texts.0 texts.1 is)
        | inr no_name_is ↦ inr (no_name line texts.0 texts.1 no_name_is)
      ]
]
