-- What the reader has gone through is the text that its state says.
use Rattle.std.proofs.Common.{◌≡◌, ◌≢◌, ℕ, Bool, true, false, List, [], ◌∷◌, ◌++◌, Option, Some, None, option_map, codes, refl, sym, ◌∙◌, ap, subst, append_assoc}
use Rattle.std.proofs.lemmas.List.{append-nil}
use Rattle.std.proofs.lemmas.List.Concat.{flat_map-append}
use Rattle.std.proofs.lemmas.List.Folds.{list_all-append}
use Rattle.std.proofs.lemmas.Bool.{and_from, ne_eqb}
use Rattle.std.specs.List.{list_all}
use Rattle.std.proofs.lemmas.Option.{option_and_then_some}
use Rattle.rpq_base.specs.Names.{is_name_byte}
use Rattle.path_syntax.specs.Expression.{Expression, Atom, Seq, Alt, Star, Plus, Opt}
use Rattle.path_syntax.specs.Grammar.{is_blank, AreBlanks, is_bare_byte, IsBare, AreNameBytes, escaped, quoted, label_with, label_named, inverse_named, IsLabel, Bare, Quoted, IsAlternative, OneSequence, Either, IsSequence, OneElement, Then, IsElement, Once, Starred, Plussed, Optional, IsPrimary, Named, Inverse, InParentheses}
use Rattle.path_syntax.specs.Reading.{FrameValue, ModeValue, Operand, BareLabel, QuotedLabel, Escape, Primary, Element, StateValue, state_with, empty_frame, initial, in_sequence, in_alternatives, whole_with, step, element_of, whole_in, whole_of}
use Rattle.path_syntax.proofs.Steps.{primary_of, behind_slash, behind_bar, Leads, OperandBlank, OperandOpen, OperandCaret, OperandQuote, OperandBare, BareMore, QuotedMore, QuotedBackslash, QuotedEnd, EscapeQuote, EscapeBackslash, PrimaryBlank, PrimaryStar, PrimaryPlus, PrimaryOpt, ElementBlank, ElementSlash, ElementBar, ElementClose, step_leads, run}

-- the text of the alternatives that stand before, each with its sign behind it
abbrev IsBeforeBar : Bool → List ℕ → Option Expression → Type 0
IsBeforeBar inverses text None = text ≡ []
IsBeforeBar inverses text (Some e) = (left : List ℕ) × (text ≡ left ++ codes "|") × IsAlternative inverses left e

abbrev IsBeforeSlash : Bool → List ℕ → Option Expression → Type 0
IsBeforeSlash inverses text None = text ≡ []
IsBeforeSlash inverses text (Some e) = (left : List ℕ) × (text ≡ left ++ codes "/") × IsSequence inverses left e

pub record IsFrame (inverses : Bool) (text : List ℕ) (frame : FrameValue) : Type 0 where
  pub bars : List ℕ
  pub slashes : List ℕ
  pub split : text ≡ bars ++ slashes
  pub alternatives : IsBeforeBar inverses bars frame.alternatives
  pub sequence : IsBeforeSlash inverses slashes frame.sequence

-- the text before the innermost open parenthesis, and that parenthesis
abbrev IsOuter : Bool → List ℕ → List FrameValue → Type 0
IsOuter inverses text [] = text ≡ []
IsOuter inverses text (frame ∷ outer) = (before : List ℕ) × (inside : List ℕ) × (blanks : List ℕ) ×
    (text ≡ before ++ inside ++ (blanks ++ codes "(")) × IsOuter inverses before outer × IsFrame inverses inside frame × AreBlanks blanks

-- a '^' with blanks before and behind it
pub record HasCaret (inverses : Bool) (text : List ℕ) : Type 0 where
  pub before : List ℕ
  pub between : List ℕ
  pub taken : inverses ≡ true
  pub split : text ≡ before ++ codes "^" ++ between
  pub are_before : AreBlanks before
  pub are_between : AreBlanks between

-- what may stand before a label that is taken backwards, or isn't
abbrev pub StandsBefore : Bool → Bool → List ℕ → Type 0
StandsBefore inverses false text = AreBlanks text
StandsBefore inverses true text = HasCaret inverses text

pub record BeginsBareAt (inverses : Bool) (text name : List ℕ) (back : Bool) : Type 0 where
  pub before : List ℕ
  pub split : text ≡ before ++ name
  pub stands : StandsBefore inverses back before
  pub some : name ≢ []
  pub bare : IsBare name

pub record BeginsQuotedAt (inverses : Bool) (text behind name : List ℕ) (back : Bool) : Type 0 where
  pub before : List ℕ
  pub split : text ≡ before ++ (codes "\"" ++ quoted name ++ behind)
  pub stands : StandsBefore inverses back before
  pub named : AreNameBytes name

abbrev IsMode : Bool → List ℕ → ModeValue → Type 0
IsMode inverses text (Operand back) = StandsBefore inverses back text
IsMode inverses text (BareLabel name back) = BeginsBareAt inverses text name back
IsMode inverses text (QuotedLabel name back) = BeginsQuotedAt inverses text [] name back
IsMode inverses text (Escape name back) = BeginsQuotedAt inverses text (codes "\\") name back
IsMode inverses text (Primary e) = IsPrimary inverses text e
IsMode inverses text (Element e) = IsElement inverses text e

pub record IsState (inverses : Bool) (text : List ℕ) (state : StateValue) : Type 0 where
  pub before : List ℕ
  pub inside : List ℕ
  pub last : List ℕ
  pub split : text ≡ before ++ inside ++ last
  pub outer : IsOuter inverses before state.outer
  pub frame : IsFrame inverses inside state.frame
  pub mode : IsMode inverses last state.mode

pub all_push : (p : ℕ → Bool) (xs : List ℕ) (x : ℕ) → list_all p xs ≡ true → p x ≡ true → list_all p (xs ++ x ∷ []) ≡ true
all_push p xs x a b = list_all-append p xs (x ∷ []) ∙ and_from _ _ a (and_from _ _ b refl)

pub push_some : (xs : List ℕ) (x : ℕ) → xs ++ x ∷ [] ≢ []
push_some [] x e = cc
push_some (y ∷ xs) x e = cc

-- a label with what may stand before it is a primary
primary_behind : (inverses back : Bool) (before text after name : List ℕ) → StandsBefore inverses back before → IsLabel text name → AreBlanks after →
    IsPrimary inverses (before ++ text ++ after) (Atom (label_with name back))
primary_behind inverses false before text after name stands label blanks = Named before text after stands label blanks
primary_behind inverses true before text after name stands label blanks =
    subst (λ t. IsPrimary inverses (t ++ text ++ after) (Atom (inverse_named name))) (sym stands.split)
    (Inverse stands.before stands.between text after stands.taken stands.are_before stands.are_between label blanks)

-- blanks behind what may stand before a label
stands_push : (inverses back : Bool) (text : List ℕ) (byte : ℕ) → StandsBefore inverses back text → is_blank byte ≡ true →
    StandsBefore inverses back (text ++ byte ∷ [])
stands_push inverses false text byte stands blank = all_push is_blank text byte stands blank
stands_push inverses true text byte stands blank = record {
  before = stands.before;
  between = stands.between ++ byte ∷ [];
  taken = stands.taken;
  split = ap (λ t. t ++ byte ∷ []) stands.split ∙ append_assoc (stands.before ++ codes "^") stands.between (byte ∷ []);
  are_before = stands.are_before;
  are_between = all_push is_blank stands.between byte stands.are_between blank;
}

-- a '^' behind blanks
stands_caret : (inverses : Bool) (text : List ℕ) → AreBlanks text → inverses ≡ true → StandsBefore inverses true (text ++ 94 ∷ [])
stands_caret inverses text blanks taken = record {
  before = text;
  between = [];
  taken = taken;
  split = sym (append-nil (text ++ codes "^"));
  are_before = blanks;
  are_between = refl;
}

-- a primary behind blanks, and an element, from what the mode says
primary_text : (inverses : Bool) (text : List ℕ) (mode : ModeValue) (e : Expression) → primary_of mode ≡ Some e → IsMode inverses text mode → IsPrimary inverses text e
primary_text inverses text (Operand back) e is m = let h : None ≡ Some e = is in absurd cc
primary_text inverses text (BareLabel name back) e is m =
    let same : Atom (label_with name back) ≡ e = cc in
    let named : IsPrimary inverses (m.before ++ name ++ []) (Atom (label_with name back)) = primary_behind inverses back m.before name [] name m.stands (Bare name m.some m.bare) refl in
    let there : m.before ++ name ++ [] ≡ text = append-nil (m.before ++ name) ∙ sym m.split in
    subst (IsPrimary inverses text) same (subst (λ t. IsPrimary inverses t (Atom (label_with name back))) there named)
primary_text inverses text (QuotedLabel name back) e is m = absurd cc
primary_text inverses text (Escape name back) e is m = absurd cc
primary_text inverses text (Primary f) e is m = let same : f ≡ e = cc in subst (IsPrimary inverses text) same m
primary_text inverses text (Element f) e is m = absurd cc

element_text : (inverses : Bool) (text : List ℕ) (mode : ModeValue) (e : Expression) → element_of mode ≡ Some e → IsMode inverses text mode → IsElement inverses text e
element_text inverses text (Operand back) e is m = absurd cc
element_text inverses text (BareLabel name back) e is m = Once (primary_text inverses text (BareLabel name back) e is m)
element_text inverses text (QuotedLabel name back) e is m = absurd cc
element_text inverses text (Escape name back) e is m = absurd cc
element_text inverses text (Primary f) e is m = Once (primary_text inverses text (Primary f) e is m)
element_text inverses text (Element f) e is m = let same : f ≡ e = cc in subst (IsElement inverses text) same m

primary_push : {inverses : Bool} {text : List ℕ} {e : Expression} → IsPrimary inverses text e → (byte : ℕ) → is_blank byte ≡ true → IsPrimary inverses (text ++ byte ∷ []) e
primary_push {inverses} (Named before text after {name} b l a) byte blank =
    subst (λ t. IsPrimary inverses t (Atom (label_named name))) (sym (append_assoc (before ++ text) after (byte ∷ [])))
    (Named before text (after ++ byte ∷ []) b l (all_push is_blank after byte a blank))
primary_push {inverses} (Inverse before between text after {name} taken b w l a) byte blank =
    subst (λ t. IsPrimary inverses t (Atom (inverse_named name))) (sym (append_assoc (before ++ codes "^" ++ between ++ text) after (byte ∷ [])))
    (Inverse before between text (after ++ byte ∷ []) taken b w l (all_push is_blank after byte a blank))
primary_push {inverses} (InParentheses before inside after {e} b i a) byte blank =
    subst (λ t. IsPrimary inverses t e) (sym (append_assoc (before ++ codes "(" ++ inside ++ codes ")") after (byte ∷ [])))
    (InParentheses before inside (after ++ byte ∷ []) b i (all_push is_blank after byte a blank))

element_push : {inverses : Bool} {text : List ℕ} {e : Expression} → IsElement inverses text e → (byte : ℕ) → is_blank byte ≡ true → IsElement inverses (text ++ byte ∷ []) e
element_push {inverses} (Once p) byte blank = Once (primary_push p byte blank)
element_push {inverses} (Starred text after {e} p a) byte blank =
    subst (λ t. IsElement inverses t (Star e)) (sym (append_assoc (text ++ codes "*") after (byte ∷ [])))
    (Starred text (after ++ byte ∷ []) p (all_push is_blank after byte a blank))
element_push {inverses} (Plussed text after {e} p a) byte blank =
    subst (λ t. IsElement inverses t (Plus e)) (sym (append_assoc (text ++ codes "+") after (byte ∷ [])))
    (Plussed text (after ++ byte ∷ []) p (all_push is_blank after byte a blank))
element_push {inverses} (Optional text after {e} p a) byte blank =
    subst (λ t. IsElement inverses t (Opt e)) (sym (append_assoc (text ++ codes "?") after (byte ∷ [])))
    (Optional text (after ++ byte ∷ []) p (all_push is_blank after byte a blank))

sequence_text : (inverses : Bool) (slashes last : List ℕ) (sequence : Option Expression) (e : Expression) → IsBeforeSlash inverses slashes sequence → IsElement inverses last e →
    IsSequence inverses (slashes ++ last) (in_sequence sequence e)
sequence_text inverses slashes last None e b l = subst (λ t. IsSequence inverses (t ++ last) e) (sym b) (OneElement l)
sequence_text inverses slashes last (Some before) e b l =
    subst (λ t. IsSequence inverses (t ++ last) (Seq before e)) (sym b.1) (Then b.0 last b.2 l)

alternative_text : (inverses : Bool) (inside last : List ℕ) (frame : FrameValue) (e : Expression) → IsFrame inverses inside frame → IsElement inverses last e →
    IsAlternative inverses (inside ++ last) (whole_with frame e)
alternative_text inverses inside last frame e f l =
    let sequence : IsSequence inverses (f.slashes ++ last) (in_sequence frame.sequence e) = sequence_text inverses f.slashes last frame.sequence e f.sequence l in
    let whole : IsAlternative inverses (f.bars ++ (f.slashes ++ last)) (whole_with frame e) = behind f.bars (f.slashes ++ last) frame.alternatives _ f.alternatives sequence in
    let there : f.bars ++ (f.slashes ++ last) ≡ inside ++ last = sym (append_assoc f.bars f.slashes last) ∙ ap (λ t. t ++ last) (sym f.split) in
    subst (λ t. IsAlternative inverses t (whole_with frame e)) there whole
  where
    behind : (bars text : List ℕ) (alternatives : Option Expression) (s : Expression) → IsBeforeBar inverses bars alternatives → IsSequence inverses text s →
        IsAlternative inverses (bars ++ text) (in_alternatives alternatives s)
    behind bars text None s b q = subst (λ t. IsAlternative inverses (t ++ text) s) (sym b) (OneSequence q)
    behind bars text (Some before) s b q = subst (λ t. IsAlternative inverses (t ++ text) (Alt before s)) (sym b.1) (Either b.0 text b.2 q)

pub quoted_push : (name : List ℕ) (byte : ℕ) → quoted (name ++ byte ∷ []) ≡ quoted name ++ escaped byte
quoted_push name byte = flat_map-append escaped name (byte ∷ []) ∙ ap (λ t. quoted name ++ t) (append-nil (escaped byte))

pub escaped_plain : (byte : ℕ) → (byte ≡ 34 → ⊥) → (byte ≡ 92 → ⊥) → escaped byte ≡ byte ∷ []
escaped_plain byte quote backslash = rw (ne_eqb byte 34 quote, ne_eqb byte 92 backslash) refl

-- one more byte of a quoted name, of which behind stands already
more_quoted : (inverses : Bool) (last behind name : List ℕ) (back : Bool) (byte : ℕ) → BeginsQuotedAt inverses last behind name back → behind ++ byte ∷ [] ≡ escaped byte →
    is_name_byte byte ≡ true → BeginsQuotedAt inverses (last ++ byte ∷ []) [] (name ++ byte ∷ []) back
more_quoted inverses last behind name back byte m e named = record {
  before = m.before;
  split = ap (λ t. t ++ byte ∷ []) m.split ∙ append_assoc m.before (codes "\"" ++ quoted name ++ behind) (byte ∷ []) ∙
      ap (λ t. m.before ++ t) (append_assoc (codes "\"" ++ quoted name) behind (byte ∷ []) ∙ ap (λ t. codes "\"" ++ quoted name ++ t) e ∙
      ap (λ t. codes "\"" ++ t) (sym (quoted_push name byte)) ∙ sym (append-nil (codes "\"" ++ quoted (name ++ byte ∷ []))));
  stands = m.stands;
  named = all_push is_name_byte name byte m.named named;
}

-- the step leaves all but the last part as it is
in_place : (inverses : Bool) (before inside last : List ℕ) (byte : ℕ) (outer : List FrameValue) (frame : FrameValue) (mode : ModeValue) →
    IsOuter inverses before outer → IsFrame inverses inside frame → IsMode inverses (last ++ byte ∷ []) mode →
    IsState inverses (before ++ inside ++ last ++ byte ∷ []) (state_with outer frame mode)
in_place inverses before inside last byte outer frame mode o f m = record {
  before = before;
  inside = inside;
  last = last ++ byte ∷ [];
  split = append_assoc (before ++ inside) last (byte ∷ []);
  outer = o;
  frame = f;
  mode = m;
}

opened : (inverses : Bool) (before inside last : List ℕ) (outer : List FrameValue) (frame : FrameValue) → IsOuter inverses before outer → IsFrame inverses inside frame → AreBlanks last →
    IsState inverses (before ++ inside ++ last ++ 40 ∷ []) (state_with (frame ∷ outer) empty_frame (Operand false))
opened inverses before inside last outer frame o f m = record {
  before = before ++ inside ++ (last ++ codes "(");
  inside = [];
  last = [];
  split = append_assoc (before ++ inside) last (codes "(") ∙ sym (append-nil _ ∙ append-nil _);
  outer = (before, inside, last, refl, o, f, m);
  frame = record { bars = []; slashes = []; split = refl; alternatives = refl; sequence = refl };
  mode = refl;
}

ended_quotes : (inverses : Bool) (last : List ℕ) (name : List ℕ) (back : Bool) → name ≢ [] → BeginsQuotedAt inverses last [] name back → IsPrimary inverses (last ++ 34 ∷ []) (Atom (label_with name back))
ended_quotes inverses last name back some m =
    let named : IsPrimary inverses (m.before ++ (codes "\"" ++ quoted name ++ codes "\"") ++ []) (Atom (label_with name back)) =
    primary_behind inverses back m.before (codes "\"" ++ quoted name ++ codes "\"") [] name m.stands (Quoted name some m.named) refl in
    let there : m.before ++ (codes "\"" ++ quoted name ++ codes "\"") ++ [] ≡ last ++ 34 ∷ [] =
    append-nil _ ∙ sym (ap (λ t. t ++ 34 ∷ []) (m.split ∙ ap (λ t. m.before ++ t) (append-nil (codes "\"" ++ quoted name))) ∙
    append_assoc m.before (codes "\"" ++ quoted name) (34 ∷ [])) in
    subst (λ t. IsPrimary inverses t (Atom (label_with name back))) there named

behind_backslash : (inverses : Bool) (last name : List ℕ) (back : Bool) → BeginsQuotedAt inverses last [] name back → BeginsQuotedAt inverses (last ++ 92 ∷ []) (codes "\\") name back
behind_backslash inverses last name back m = record {
  before = m.before;
  split = ap (λ t. t ++ 92 ∷ []) (m.split ∙ ap (λ t. m.before ++ t) (append-nil (codes "\"" ++ quoted name))) ∙
      append_assoc m.before (codes "\"" ++ quoted name) (92 ∷ []);
  stands = m.stands;
  named = m.named;
}

slashed : (inverses : Bool) (before inside last : List ℕ) (outer : List FrameValue) (frame : FrameValue) (e : Expression) → IsOuter inverses before outer → IsFrame inverses inside frame →
    IsElement inverses last e → IsState inverses (before ++ inside ++ last ++ 47 ∷ []) (state_with outer (behind_slash frame e) (Operand false))
slashed inverses before inside last outer frame e o f l = record {
  before = before;
  inside = inside ++ (last ++ codes "/");
  last = [];
  split = append_assoc (before ++ inside) last (codes "/") ∙ append_assoc before inside (last ++ codes "/") ∙ sym (append-nil _);
  outer = o;
  frame = record {
    bars = f.bars;
    slashes = f.slashes ++ (last ++ codes "/");
    split = ap (λ t. t ++ (last ++ codes "/")) f.split ∙ append_assoc f.bars f.slashes (last ++ codes "/");
    alternatives = f.alternatives;
    sequence = (f.slashes ++ last, sym (append_assoc f.slashes last (codes "/")), sequence_text inverses f.slashes last frame.sequence e f.sequence l);
  };
  mode = refl;
}

barred : (inverses : Bool) (before inside last : List ℕ) (outer : List FrameValue) (frame : FrameValue) (e : Expression) → IsOuter inverses before outer → IsFrame inverses inside frame →
    IsElement inverses last e → IsState inverses (before ++ inside ++ last ++ 124 ∷ []) (state_with outer (behind_bar frame e) (Operand false))
barred inverses before inside last outer frame e o f l = record {
  before = before;
  inside = inside ++ last ++ codes "|";
  last = [];
  split = ap (λ t. t ++ codes "|") (append_assoc before inside last) ∙ append_assoc before (inside ++ last) (codes "|") ∙ sym (append-nil _);
  outer = o;
  frame = record {
    bars = inside ++ last ++ codes "|";
    slashes = [];
    split = sym (append-nil _);
    alternatives = (inside ++ last, refl, alternative_text inverses inside last frame e f l);
    sequence = refl;
  };
  mode = refl;
}

closed_text : (inverses : Bool) (before inside last : List ℕ) (other : FrameValue) (outer : List FrameValue) (frame : FrameValue) (e : Expression) →
    IsOuter inverses before (other ∷ outer) → IsFrame inverses inside frame → IsElement inverses last e →
    IsState inverses (before ++ inside ++ last ++ 41 ∷ []) (state_with outer other (Primary (whole_with frame e)))
closed_text inverses before inside last other outer frame e (front, between, blanks, split, o, g, are_blanks) f l = record {
  before = front;
  inside = between;
  last = blanks ++ codes "(" ++ (inside ++ last) ++ codes ")" ++ [];
  split = ap (λ t. t ++ inside ++ last ++ 41 ∷ []) split ∙ regrouped;
  outer = o;
  frame = g;
  mode = InParentheses blanks (inside ++ last) [] are_blanks (alternative_text inverses inside last frame e f l) refl;
}
  where
    regrouped : front ++ between ++ (blanks ++ codes "(") ++ inside ++ last ++ 41 ∷ [] ≡
        front ++ between ++ (blanks ++ codes "(" ++ (inside ++ last) ++ codes ")" ++ [])
    regrouped = simp (append_assoc, append-nil)

leads_sound : (inverses : Bool) {outer : List FrameValue} {frame : FrameValue} {mode : ModeValue} {byte : ℕ} {after : StateValue} → Leads inverses outer frame mode byte after →
    (before inside last : List ℕ) → IsOuter inverses before outer → IsFrame inverses inside frame → IsMode inverses last mode →
    IsState inverses (before ++ inside ++ last ++ byte ∷ []) after
leads_sound inverses (OperandBlank outer frame back byte blank) before inside last o f m =
    in_place inverses before inside last byte outer frame (Operand back) o f (stands_push inverses back last byte m blank)
leads_sound inverses (OperandOpen outer frame) before inside last o f m = opened inverses before inside last outer frame o f m
leads_sound inverses (OperandCaret outer frame taken) before inside last o f m =
    in_place inverses before inside last 94 outer frame (Operand true) o f (stands_caret inverses last m taken)
leads_sound inverses (OperandQuote outer frame back) before inside last o f m =
    in_place inverses before inside last 34 outer frame (QuotedLabel [] back) o f
    (record { before = last; split = refl; stands = m; named = refl })
leads_sound inverses (OperandBare outer frame back byte bare) before inside last o f m =
    in_place inverses before inside last byte outer frame (BareLabel (byte ∷ []) back) o f
    (record { before = last; split = refl; stands = m; some = push_some [] byte; bare = and_from _ _ bare refl })
leads_sound inverses (BareMore outer frame name back byte bare) before inside last o f m =
    in_place inverses before inside last byte outer frame (BareLabel (name ++ byte ∷ []) back) o f
    (record {
      before = m.before;
      split = ap (λ t. t ++ byte ∷ []) m.split ∙ append_assoc m.before name (byte ∷ []);
      stands = m.stands;
      some = push_some name byte;
      bare = all_push is_bare_byte name byte m.bare bare;
    })
leads_sound inverses (QuotedMore outer frame name back byte named quote backslash) before inside last o f m =
    in_place inverses before inside last byte outer frame (QuotedLabel (name ++ byte ∷ []) back) o f
    (more_quoted inverses last [] name back byte m (sym (escaped_plain byte quote backslash)) named)
leads_sound inverses (QuotedBackslash outer frame name back) before inside last o f m =
    in_place inverses before inside last 92 outer frame (Escape name back) o f (behind_backslash inverses last name back m)
leads_sound inverses (QuotedEnd outer frame first name back) before inside last o f m =
    in_place inverses before inside last 34 outer frame (Primary (Atom (label_with (first ∷ name) back))) o f (ended_quotes inverses last (first ∷ name) back (λ h. cc) m)
leads_sound inverses (EscapeQuote outer frame name back) before inside last o f m =
    in_place inverses before inside last 34 outer frame (QuotedLabel (name ++ 34 ∷ []) back) o f (more_quoted inverses last (codes "\\") name back 34 m refl refl)
leads_sound inverses (EscapeBackslash outer frame name back) before inside last o f m =
    in_place inverses before inside last 92 outer frame (QuotedLabel (name ++ 92 ∷ []) back) o f (more_quoted inverses last (codes "\\") name back 92 m refl refl)
leads_sound inverses (PrimaryBlank outer frame mode e byte is blank) before inside last o f m =
    in_place inverses before inside last byte outer frame (Primary e) o f (primary_push (primary_text inverses last mode e is m) byte blank)
leads_sound inverses (PrimaryStar outer frame mode e is) before inside last o f m =
    in_place inverses before inside last 42 outer frame (Element (Star e)) o f
    (subst (λ t. IsElement inverses t (Star e)) (append-nil (last ++ codes "*")) (Starred last [] (primary_text inverses last mode e is m) refl))
leads_sound inverses (PrimaryPlus outer frame mode e is) before inside last o f m =
    in_place inverses before inside last 43 outer frame (Element (Plus e)) o f
    (subst (λ t. IsElement inverses t (Plus e)) (append-nil (last ++ codes "+")) (Plussed last [] (primary_text inverses last mode e is m) refl))
leads_sound inverses (PrimaryOpt outer frame mode e is) before inside last o f m =
    in_place inverses before inside last 63 outer frame (Element (Opt e)) o f
    (subst (λ t. IsElement inverses t (Opt e)) (append-nil (last ++ codes "?")) (Optional last [] (primary_text inverses last mode e is m) refl))
leads_sound inverses (ElementBlank outer frame e byte blank) before inside last o f m =
    in_place inverses before inside last byte outer frame (Element e) o f (element_push m byte blank)
leads_sound inverses (ElementSlash outer frame mode e ends) before inside last o f m =
    slashed inverses before inside last outer frame e o f (element_text inverses last mode e ends m)
leads_sound inverses (ElementBar outer frame mode e ends) before inside last o f m =
    barred inverses before inside last outer frame e o f (element_text inverses last mode e ends m)
leads_sound inverses (ElementClose other outer frame mode e ends) before inside last o f m =
    closed_text inverses before inside last other outer frame e o f (element_text inverses last mode e ends m)

step_sound : (inverses : Bool) (front : List ℕ) (state : StateValue) (byte : ℕ) (after : StateValue) → IsState inverses front state → step inverses state byte ≡ Some after →
    IsState inverses (front ++ byte ∷ []) after
step_sound inverses front state byte after s e =
    subst (λ t. IsState inverses (t ++ byte ∷ []) after) (sym s.split)
    (leads_sound inverses (step_leads inverses state byte after e) s.before s.inside s.last s.outer s.frame s.mode)

-- from a state that says its text to the next
pub run_sound : (inverses : Bool) (bytes front : List ℕ) (state after : StateValue) → IsState inverses front state → run inverses bytes state ≡ Some after → IsState inverses (front ++ bytes) after
run_sound inverses [] front state after s e =
    let same : state ≡ after = cc in subst (IsState inverses (front ++ [])) same (subst (λ t. IsState inverses t state) (sym (append-nil front)) s)
run_sound inverses (byte ∷ bytes) front state after s e =
    option_and_then_some {P = IsState inverses (front ++ byte ∷ bytes) after} (run inverses bytes) (step inverses state byte) after e (λ middle first rest.
    subst (λ t. IsState inverses t after) (append_assoc front (byte ∷ []) bytes)
    (run_sound inverses bytes (front ++ byte ∷ []) middle after (step_sound inverses front state byte middle s first) rest))

initial_text : (inverses : Bool) → IsState inverses [] initial
initial_text inverses = record {
  before = [];
  inside = [];
  last = [];
  split = refl;
  outer = refl;
  frame = record { bars = []; slashes = []; split = refl; alternatives = refl; sequence = refl };
  mode = refl;
}

whole_text : (inverses : Bool) (text : List ℕ) (outer : List FrameValue) (frame : FrameValue) (mode : ModeValue) (e : Expression) →
    whole_in outer frame mode ≡ Some e → IsState inverses text (state_with outer frame mode) → IsAlternative inverses text e
whole_text inverses text (other ∷ outer) frame mode e whole s = absurd cc
whole_text inverses text [] frame mode e whole s =
    ended (element_of mode) refl whole
  where
    ended : (o : Option Expression) → element_of mode ≡ o → option_map (whole_with frame) o ≡ Some e → IsAlternative inverses text e
    ended None ends whole = absurd cc
    ended (Some f) ends whole =
        let there : s.inside ++ s.last ≡ text = ap (λ t. t ++ s.inside ++ s.last) (sym s.outer) ∙ sym s.split in
        let same : whole_with frame f ≡ e = cc in
        subst (IsAlternative inverses text) same (subst (λ t. IsAlternative inverses t (whole_with frame f)) there
        (alternative_text inverses s.inside s.last frame f s.frame (element_text inverses s.last mode f ends s.mode)))

-- what is read whole is the text of what was read
pub sound : (inverses : Bool) (bytes : List ℕ) (state : StateValue) (e : Expression) → run inverses bytes initial ≡ Some state → whole_of state ≡ Some e → IsAlternative inverses bytes e
sound inverses bytes state e ran whole =
    whole_text inverses bytes state.outer state.frame state.mode e whole (run_sound inverses bytes [] initial state (initial_text inverses) ran)
