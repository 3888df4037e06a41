-- A query line has one list of parts.
use Rattle.std.proofs.Common.{◌≡◌, ℕ, List, [], ◌∷◌, ◌++◌, codes, refl, sym, subst, ◌∙◌, arith}
use Rattle.text_parts.specs.Lines.{is_blank}
use Rattle.rpq_base.specs.Names.{IsName}
use Rattle.rpq_model.specs.declared.mode.Mode.{Mode}
use Rattle.rpq_model.specs.declared.mode.Mode.TheVariants.{Arbitrary, Simple}
use Rattle.query_file.specs.LineTexts.{AreTexts, HasTexts}
use Rattle.query_file.specs.QueryLine.{mode_text, HasParts, LineParts}
use Rattle.query_file.proofs.FirstFields.{one_run}
use Rattle.query_file.proofs.Texts.{next_behind, mode_ends, texts_of_parts}

one_mode : (mode other : Mode) (expr more : List ℕ) → mode_text mode ++ expr ≡ mode_text other ++ more → (mode ≡ other) × (expr ≡ more)
one_mode Arbitrary Arbitrary expr more same = (refl, cc)
one_mode Simple Simple expr more same = (refl, cc)
one_mode Arbitrary Simple expr more same = let heads : ◌≡◌ {A = ℕ} 97 115 = cc in absurd (omega (arith, heads))
one_mode Simple Arbitrary expr more same = let heads : ◌≡◌ {A = ℕ} 115 97 = cc in absurd (omega (arith, heads))

-- the texts of a line are one
pub one_text : (line : List ℕ) (p q : LineParts) → AreTexts line p.name p.size p.slide p.mode p.expr → AreTexts line q.name q.size q.slide q.mode q.expr → p ≡ q
one_text line p q one other =
    let b1 = one.behind in let b2 = b1.2 in let b3 = b2.2 in let b4 = b3.2 in let b5 = b4.2 in let b6 = b5.2 in
    let h1 = next_behind (codes "query") (q.name ∷ codes "window" ∷ q.size ∷ codes "slide" ∷ q.slide ∷ []) line other.rest (codes "query") b1.0 b1.1 other.behind in
    let h2 = next_behind q.name (codes "window" ∷ q.size ∷ codes "slide" ∷ q.slide ∷ []) b1.0 other.rest p.name b2.0 b2.1 h1.1 in
    let h3 = next_behind (codes "window") (q.size ∷ codes "slide" ∷ q.slide ∷ []) b2.0 other.rest (codes "window") b3.0 b3.1 h2.1 in
    let h4 = next_behind q.size (codes "slide" ∷ q.slide ∷ []) b3.0 other.rest p.size b4.0 b4.1 h3.1 in
    let h5 = next_behind (codes "slide") (q.slide ∷ []) b4.0 other.rest (codes "slide") b5.0 b5.1 h4.1 in
    let h6 = next_behind q.slide [] b5.0 other.rest p.slide b6.0 b6.1 h5.1 in
    let rest : one.rest ≡ other.rest = sym b6.2 ∙ h6.1 in
    let cut = one.cut in
    let also = other.cut in
    let tails = one_run is_blank cut.blanks (mode_text p.mode ++ p.expr) also.blanks (mode_text q.mode ++ q.expr) cut.are (mode_ends p.mode p.expr)
    also.are (mode_ends q.mode q.expr) (sym cut.split ∙ rest ∙ also.split) in
    let both = one_mode p.mode q.mode p.expr q.expr tails.1 in
    let name : p.name ≡ q.name = sym h2.0 in
    let size : p.size ≡ q.size = sym h4.0 in
    let slide : p.slide ≡ q.slide = sym h6.0 in
    λ i. record { name = name i; size = size i; slide = slide i; mode = both.0 i; expr = both.1 i }

-- the parts of a line are one
pub one_parts : (line : List ℕ) (p q : LineParts) → HasParts line p → HasParts line q → p ≡ q
one_parts line p q one other = one_text line p q (texts_of_parts line p one) (texts_of_parts line q other)

-- a line without texts has no parts
pub no_texts : (line : List ℕ) → (HasTexts line → ⊥) → (parts : LineParts) → HasParts line parts → ⊥
no_texts line none parts has =
    none (record { name = parts.name; size = parts.size; slide = parts.slide; mode = parts.mode; expr = parts.expr; are = texts_of_parts line parts has })

-- nor has one whose second field is no name
pub no_name : (line : List ℕ) (texts : LineParts) → AreTexts line texts.name texts.size texts.slide texts.mode texts.expr → (IsName texts.name → ⊥) →
    (parts : LineParts) → HasParts line parts → ⊥
no_name line texts are none parts has =
    let same = one_text line parts texts (texts_of_parts line parts has) are in
    none (subst (λ (p : LineParts). IsName p.name) same has.named)
