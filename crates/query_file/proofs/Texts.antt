-- The parts of a query line.
use Rattle.std.proofs.Common.{◌≡◌, ◌≢◌, ℕ, true, false, not, List, [], ◌∷◌, ◌++◌, ◌⊎◌, inl, inr, codes, refl, sym, ap, subst, ◌∙◌, append_assoc}
use Rattle.std.specs.Prelude.{Option, Some, None, IfNone}
use Rattle.std.specs.List.{All}
use Rattle.std.proofs.lemmas.Bool.{false≢true}
use Rattle.std.proofs.lemmas.List.Elements.{All-head, All-tail}
use Rattle.text_parts.specs.Lines.{is_blank}
use Rattle.text_parts.specs.Fields.{fields, IsField, AreBlanks}
use Rattle.rpq_model.specs.declared.mode.Mode.{Mode}
use Rattle.rpq_model.specs.declared.mode.Mode.TheVariants.{Arbitrary, Simple}
use Rattle.rpq_base.specs.Names.{IsName}
use Rattle.query_file.specs.FirstField.{EndsRun, EndsField, IsBehindBlanks, IsFirstField}
use Rattle.query_file.specs.LineTexts.{IsModeCut, IsBehind, AreTexts}
use Rattle.query_file.specs.QueryLine.{mode_text, EndsWithBlank, HasParts, LineParts}
use Rattle.query_file.proofs.FirstFields.{one_run, one_first, first_of, first_of_fields, blanks_no_fields, no_fields_blanks}

-- what holds, holds where there is none
pub if_none : {X P : Type 0} (found : Option X) → P → IfNone found P
if_none None p = p
if_none (Some x) p = tt

-- ---- texts that end with a blank

one_more : (byte : ℕ) (text : List ℕ) → EndsWithBlank text → EndsWithBlank (byte ∷ text)
one_more byte text ends = record {
  front = byte ∷ ends.front;
  blank = ends.blank;
  split = ap (λ (t : List ℕ). byte ∷ t) ends.split;
  is_one = ends.is_one;
}

-- text in front of one that ends with a blank
more_in_front : (front text : List ℕ) → EndsWithBlank text → EndsWithBlank (front ++ text)
more_in_front [] text ends = ends
more_in_front (byte ∷ front) text ends = one_more byte (front ++ text) (more_in_front front text ends)

-- what ends with a blank does so in its second part, or the second is empty
in_second : (first second : List ℕ) → EndsWithBlank (first ++ second) → EndsWithBlank second ⊎ ((second ≡ []) × EndsWithBlank first)
in_second [] second ends = inl ends
in_second (byte ∷ first) second ends = by ends.front ends.split (in_second first second)
  where
    nothing : (a b : List ℕ) → a ++ b ≡ [] → (a ≡ []) × (b ≡ [])
    nothing [] b e = (refl, e)
    nothing (x ∷ a) b e = absurd cc

    by : (front : List ℕ) → byte ∷ (first ++ second) ≡ front ++ ends.blank ∷ [] →
        (EndsWithBlank (first ++ second) → EndsWithBlank second ⊎ ((second ≡ []) × EndsWithBlank first)) →
        EndsWithBlank second ⊎ ((second ≡ []) × EndsWithBlank (byte ∷ first))
    by [] e later =
        let tails : first ++ second ≡ [] = cc in
        let same : byte ≡ ends.blank = cc in
        let both = nothing first second tails in
        inr (both.1, record { front = []; blank = byte; split = ap (λ (t : List ℕ). byte ∷ t) both.0; is_one = ap is_blank same ∙ ends.is_one })
    by (next ∷ front) e later =
        let tails : first ++ second ≡ front ++ ends.blank ∷ [] = cc in
        elim (later (record { front = front; blank = ends.blank; split = tails; is_one = ends.is_one })) [
          | inl there ↦ inl there
          | inr here ↦ inr (here.0, one_more byte first here.1)
        ]

at_end : (P : ℕ → Type 0) (front : List ℕ) (byte : ℕ) → All P (front ++ byte ∷ []) → P byte
at_end P [] byte all = All-head P byte [] all
at_end P (first ∷ front) byte all = at_end P front byte (All-tail P first (front ++ byte ∷ []) all)

-- a field doesn't end with a blank
field_no_end : (field : List ℕ) → IsField field → EndsWithBlank field → ⊥
field_no_end field is ends =
    let solid : is_blank ends.blank ≡ false = at_end (λ b. is_blank b ≡ false) ends.front ends.blank (subst (All (λ b. is_blank b ≡ false)) ends.split is.solid) in
    absurd (false≢true (sym solid ∙ ends.is_one))

not_nil : (text : List ℕ) → EndsWithBlank text → text ≢ []
not_nil text ends none = by ends.front (sym ends.split ∙ none)
  where
    by : (front : List ℕ) → front ++ ends.blank ∷ [] ≡ [] → ⊥
    by [] e = absurd cc
    by (x ∷ front) e = absurd cc

-- what begins with a blank does so without what stands behind
begins : (text tail : List ℕ) → text ≢ [] → EndsField (text ++ tail) → EndsField text
begins [] tail some ends = absurd (some refl)
begins (byte ∷ text) tail some ends = ends

begins_more : (text tail : List ℕ) → text ≢ [] → EndsField text → EndsField (text ++ tail)
begins_more [] tail some ends = absurd (some refl)
begins_more (byte ∷ text) tail some ends = ends

-- a field behind blanks, and the text behind it
behind_field : (blanks field rest : List ℕ) → EndsWithBlank (blanks ++ (field ++ rest)) → IsField field → EndsWithBlank rest
behind_field blanks field rest ends is = elim (in_second blanks (field ++ rest) ends) [
  | inr none ↦ absurd (is.some (nothing field rest none.0))
  | inl there ↦ elim (in_second field rest there) [
    | inl here ↦ here
    | inr wrong ↦ absurd (field_no_end field is wrong.1)
  ]
]
  where
    nothing : (a b : List ℕ) → a ++ b ≡ [] → a ≡ []
    nothing [] b e = refl
    nothing (x ∷ a) b e = absurd cc

-- ---- lines by their fronts

-- the line is a front with these fields, which ends with a blank, and the tail
record HasFront (line : List ℕ) (fs : List (List ℕ)) (tail : List ℕ) : Type 0 where
  before : List ℕ
  split : line ≡ before ++ tail
  apart : EndsWithBlank before
  are : fields before ≡ fs

-- the rest is blanks, of which there is one at least, and the tail
record IsTail (rest tail : List ℕ) : Type 0 where
  blanks : List ℕ
  are : AreBlanks blanks
  apart : EndsWithBlank blanks
  split : rest ≡ blanks ++ tail

to_front : (fs : List (List ℕ)) (line rest tail : List ℕ) → IsBehind fs line rest → IsTail rest tail → HasFront line fs tail
to_front [] line rest tail behind ends = record {
  before = ends.blanks;
  split = behind ∙ ends.split;
  apart = ends.apart;
  are = blanks_no_fields ends.blanks ends.are;
}
to_front (field ∷ fs) line rest tail (next, first, behind) ends =
    let later = to_front fs next rest tail behind ends in
    let before = first.blanks ++ (field ++ later.before) in
    let is : IsFirstField before field later.before = record {
      blanks = first.blanks;
      are = first.are;
      split = refl;
      solid = first.solid;
      ends = begins later.before tail (not_nil later.before later.apart) (subst EndsField later.split first.ends);
    } in
    record {
      before = before;
      split = first.split ∙ (ap (λ (t : List ℕ). first.blanks ++ (field ++ t)) later.split
          ∙ (ap (λ (t : List ℕ). first.blanks ++ t) (sym (append_assoc field later.before tail))
          ∙ sym (append_assoc first.blanks (field ++ later.before) tail)));
      apart = more_in_front first.blanks (field ++ later.before) (more_in_front field later.before later.apart);
      are = first_of_fields before field later.before is ∙ ap (λ (l : List (List ℕ)). field ∷ l) later.are;
    }

record FromFront (fs : List (List ℕ)) (line tail : List ℕ) : Type 0 where
  rest : List ℕ
  behind : IsBehind fs line rest
  ends : IsTail rest tail

from_front : (fs : List (List ℕ)) (line tail : List ℕ) → HasFront line fs tail → FromFront fs line tail
from_front [] line tail has = record {
  rest = line;
  behind = refl;
  ends = record { blanks = has.before; are = no_fields_blanks has.before has.are; apart = has.apart; split = has.split };
}
from_front (field ∷ fs) line tail has = elim (first_of has.before) [
  | inl blank ↦ absurd (cc (sym (blanks_no_fields has.before blank) ∙ has.are))
  | inr found ↦
      let first = found.first in
      let both : found.field ∷ fields found.rest ≡ field ∷ fs = sym (first_of_fields has.before found.field found.rest first) ∙ has.are in
      let same : found.field ≡ field = cc both in
      let others : fields found.rest ≡ fs = cc both in
      let apart = behind_field first.blanks found.field found.rest (subst EndsWithBlank first.split has.apart) first.solid in
      let later = from_front fs (found.rest ++ tail) tail (record { before = found.rest; split = refl; apart = apart; are = others }) in
      let is : IsFirstField line found.field (found.rest ++ tail) = record {
        blanks = first.blanks;
        are = first.are;
        split = has.split ∙ (ap (λ (t : List ℕ). t ++ tail) first.split
            ∙ (append_assoc first.blanks (found.field ++ found.rest) tail
            ∙ ap (λ (t : List ℕ). first.blanks ++ t) (append_assoc found.field found.rest tail)));
        solid = first.solid;
        ends = begins_more found.rest tail (not_nil found.rest apart) first.ends;
      } in
      record {
        rest = later.rest;
        behind = (found.rest ++ tail, subst (λ (f : List ℕ). IsFirstField line f (found.rest ++ tail)) same is, later.behind);
        ends = later.ends;
      }
]

-- ---- the parts of a query line

-- a line whose texts are these has these parts, where its name is one
pub parts_from_texts : (line : List ℕ) (parts : LineParts) → AreTexts line parts.name parts.size parts.slide parts.mode parts.expr →
    IsName parts.name → HasParts line parts
parts_from_texts line parts texts named =
    let cut = texts.cut in
    let front = to_front _ line texts.rest (mode_text parts.mode ++ parts.expr) texts.behind
    (record { blanks = cut.blanks; are = cut.are; apart = cut.apart; split = cut.split }) in
    record { before = front.before; split = front.split; apart = front.apart; fields_before = front.are; named = named }

-- a line with these parts has these texts
pub texts_of_parts : (line : List ℕ) (parts : LineParts) → HasParts line parts →
    AreTexts line parts.name parts.size parts.slide parts.mode parts.expr
texts_of_parts line parts has =
    let from = from_front (codes "query" ∷ parts.name ∷ codes "window" ∷ parts.size ∷ codes "slide" ∷ parts.slide ∷ []) line
    (mode_text parts.mode ++ parts.expr)
    (record { before = has.before; split = has.split; apart = has.apart; are = has.fields_before }) in
    let ends = from.ends in
    record {
      rest = from.rest;
      behind = from.behind;
      cut = record { blanks = ends.blanks; are = ends.are; apart = ends.apart; split = ends.split };
    }

-- ---- what stands behind the fields is one

-- the fields behind a first one
pub next_behind : (field : List ℕ) (fs : List (List ℕ)) (line rest first next : List ℕ) → IsFirstField line first next →
    IsBehind (field ∷ fs) line rest → (field ≡ first) × IsBehind fs next rest
next_behind field fs line rest first next is (other, was, behind) =
    let both = one_first line field other first next was is in
    (both.0, subst (λ (l : List ℕ). IsBehind fs l rest) both.1 behind)

-- ---- the mode

-- the text that begins with the word for a mode begins with no blank
pub mode_ends : (mode : Mode) (expr : List ℕ) → EndsRun is_blank (mode_text mode ++ expr)
mode_ends Arbitrary expr = refl
mode_ends Simple expr = refl

-- blanks behind a field, and text behind them
blanks_apart : (blanks text : List ℕ) → AreBlanks blanks → EndsField (blanks ++ text) → EndsRun is_blank text → text ≢ [] → EndsWithBlank blanks
blanks_apart [] [] are ends solid some = absurd (some refl)
blanks_apart [] (byte ∷ text) are ends solid some = absurd (false≢true (sym ends ∙ ap not solid))
blanks_apart (blank ∷ []) text are ends solid some = record {
  front = [];
  blank = blank;
  split = refl;
  is_one = All-head (λ b. is_blank b ≡ true) blank [] are;
}
blanks_apart (blank ∷ next ∷ blanks) text are ends solid some =
    let is : is_blank next ≡ true = All-head (λ b. is_blank b ≡ true) next blanks (All-tail (λ b. is_blank b ≡ true) blank (next ∷ blanks) are) in
    one_more blank (next ∷ blanks)
    (blanks_apart (next ∷ blanks) text (All-tail (λ b. is_blank b ≡ true) blank (next ∷ blanks) are) (ap not is) solid some)

mode_some : (mode : Mode) (expr : List ℕ) → mode_text mode ++ expr ≢ []
mode_some Arbitrary expr e = absurd cc
mode_some Simple expr e = absurd cc

-- a mode behind blanks
pub mode_cut : (rest text : List ℕ) (mode : Mode) (expr : List ℕ) → EndsField rest → IsBehindBlanks rest text → text ≡ mode_text mode ++ expr → IsModeCut rest mode expr
mode_cut rest text mode expr ends behind is =
    let split : rest ≡ behind.blanks ++ (mode_text mode ++ expr) = behind.split ∙ ap (λ (t : List ℕ). behind.blanks ++ t) is in
    record {
      blanks = behind.blanks;
      are = behind.are;
      apart = blanks_apart behind.blanks (mode_text mode ++ expr) behind.are (subst EndsField split ends) (mode_ends mode expr) (mode_some mode expr);
      split = split;
    }

-- what stands behind blanks before a mode begins with the word for it
pub mode_behind : (rest text : List ℕ) (mode : Mode) (expr : List ℕ) → IsBehindBlanks rest text → IsModeCut rest mode expr → text ≡ mode_text mode ++ expr
mode_behind rest text mode expr behind cut =
    (one_run is_blank behind.blanks text cut.blanks (mode_text mode ++ expr) behind.are behind.ends cut.are (mode_ends mode expr) (sym behind.split ∙ cut.split)).1

-- neither word stands there
pub no_mode : (rest text : List ℕ) → IsBehindBlanks rest text → ((expr : List ℕ) → text ≢ mode_text Arbitrary ++ expr) →
    ((expr : List ℕ) → text ≢ mode_text Simple ++ expr) → (mode : Mode) (expr : List ℕ) → IsModeCut rest mode expr → ⊥
no_mode rest text behind first second Arbitrary expr cut = first expr (mode_behind rest text Arbitrary expr behind cut)
no_mode rest text behind first second Simple expr cut = second expr (mode_behind rest text Simple expr behind cut)
