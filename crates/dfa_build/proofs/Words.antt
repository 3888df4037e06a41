-- The words of an expression are those that the words of its marked expression spell.
use Rattle.std.proofs.Common.{◌≡◌, ◌≢◌, ℕ, ◌+◌, inl, inr, Option, Some, List, [], ◌∷◌, ◌++◌, length, slice_get, option_to_list, All, flat_map, refl, sym, ap, subst, ◌∙◌, append_assoc, arith}
use Rattle.std.proofs.lemmas.Bool.{cases_lt}
use Rattle.std.proofs.lemmas.List.{append-nil, length-append}
use Rattle.std.proofs.lemmas.List.Concat.{flat_map-append}
use Rattle.std.proofs.lemmas.List.Elements.{All-nil, All-cons, All-head, All-tail}
use Rattle.rpq_base.specs.declared.data.Label.{Label}
use Rattle.path_syntax.specs.Expression.{Expression, Atom, Seq, Alt, Star, Plus, Opt}
use Rattle.path_syntax.specs.Language.{IsRepeated, In}
use Rattle.path_syntax.specs.Size.{atoms}
use Rattle.dfa_build.specs.Laws.{MarkedSpellsWords}
use Rattle.dfa_build.specs.Marked.{labels_of, IsRepeatedTrace, InMarked}
use Rattle.dfa_build.specs.Positions.{spelled}
use Rattle.dfa_build.proofs.Ranges.{InRange, first_range}
use Rattle.dfa_build.proofs.Local.{marked_is_local}

-- the labels of the expression's atoms stand in the list from `from` on
abbrev pub AreLabelled : List Label → Expression → ℕ → Type 0
AreLabelled labels (Atom label) from = slice_get labels from ≡ Some label
AreLabelled labels (Seq left right) from = AreLabelled labels left from × AreLabelled labels right (from + atoms left)
AreLabelled labels (Alt left right) from = AreLabelled labels left from × AreLabelled labels right (from + atoms left)
AreLabelled labels (Star body) from = AreLabelled labels body from
AreLabelled labels (Plus body) from = AreLabelled labels body from
AreLabelled labels (Opt body) from = AreLabelled labels body from

pub length-labels_of : (e : Expression) → length (labels_of e) ≡ atoms e
length-labels_of (Atom label) = refl
length-labels_of (Seq left right) = omega (arith, length-append (labels_of left) (labels_of right), length-labels_of left, length-labels_of right)
length-labels_of (Alt left right) = omega (arith, length-append (labels_of left) (labels_of right), length-labels_of left, length-labels_of right)
length-labels_of (Star body) = length-labels_of body
length-labels_of (Plus body) = length-labels_of body
length-labels_of (Opt body) = length-labels_of body

slice_get-middle : (before after : List Label) (label : Label) → slice_get (before ++ label ∷ after) (length before) ≡ Some label
slice_get-middle [] after label = refl
slice_get-middle (first ∷ before) after label = slice_get-middle before after label

on_left : (before left right after : List Label) → before ++ (left ++ (right ++ after)) ≡ before ++ ((left ++ right) ++ after)
on_left before left right after = simp append_assoc

on_right : (before left right after : List Label) → (before ++ left) ++ (right ++ after) ≡ before ++ ((left ++ right) ++ after)
on_right before left right after = simp append_assoc

-- the labels of an expression in the midst of others
pub are_labelled : (e : Expression) (before after : List Label) (from : ℕ) → from ≡ length before → AreLabelled (before ++ (labels_of e ++ after)) e from
are_labelled (Atom label) before after from at = ap (λ (n : ℕ). slice_get (before ++ label ∷ after) n) at ∙ slice_get-middle before after label
are_labelled (Seq left right) before after from at = (
  subst (λ (labels : List Label). AreLabelled labels left from) (on_left before (labels_of left) (labels_of right) after) (are_labelled left before (labels_of right ++ after) from at),
  subst (λ (labels : List Label). AreLabelled labels right (from + atoms left)) (on_right before (labels_of left) (labels_of right) after)
      (are_labelled right (before ++ labels_of left) after (from + atoms left) (omega (arith, length-append before (labels_of left), length-labels_of left))),
)
are_labelled (Alt left right) before after from at = (
  subst (λ (labels : List Label). AreLabelled labels left from) (on_left before (labels_of left) (labels_of right) after) (are_labelled left before (labels_of right ++ after) from at),
  subst (λ (labels : List Label). AreLabelled labels right (from + atoms left)) (on_right before (labels_of left) (labels_of right) after)
      (are_labelled right (before ++ labels_of left) after (from + atoms left) (omega (arith, length-append before (labels_of left), length-labels_of left))),
)
are_labelled (Star body) before after from at = are_labelled body before after from at
are_labelled (Plus body) before after from at = are_labelled body before after from at
are_labelled (Opt body) before after from at = are_labelled body before after from at

pub are_labelled_all : (e : Expression) → AreLabelled (labels_of e) e 0
are_labelled_all e = subst (λ (labels : List Label). AreLabelled labels e 0) (append-nil (labels_of e)) (are_labelled e [] [] 0 refl)

-- a position of the expression has a label
has_label : (e : Expression) (labels : List Label) (from p : ℕ) → AreLabelled labels e from → InRange e from p →
    (label : Label) × (slice_get labels p ≡ Some label)
has_label (Atom label) labels from p labelled range =
    let same : p ≡ from = omega arith in
    (label, ap (λ (n : ℕ). slice_get labels n) same ∙ labelled)
has_label (Seq left right) labels from p labelled range =
    elim (cases_lt p (from + atoms left)) [
      | inl l ↦ has_label left labels from p labelled.0 (record { low = range.low; high = l })
      | inr r ↦ has_label right labels (from + atoms left) p labelled.1 (record { low = r; high = omega arith })
    ]
has_label (Alt left right) labels from p labelled range =
    elim (cases_lt p (from + atoms left)) [
      | inl l ↦ has_label left labels from p labelled.0 (record { low = range.low; high = l })
      | inr r ↦ has_label right labels (from + atoms left) p labelled.1 (record { low = r; high = omega arith })
    ]
has_label (Star body) labels from p labelled range = has_label body labels from p labelled (record { low = range.low; high = range.high })
has_label (Plus body) labels from p labelled range = has_label body labels from p labelled (record { low = range.low; high = range.high })
has_label (Opt body) labels from p labelled range = has_label body labels from p labelled (record { low = range.low; high = range.high })

-- a nonempty trace spells a nonempty word
pub spelled-nonempty : (e : Expression) (labels : List Label) (from : ℕ) → AreLabelled labels e from → (trace : List ℕ) →
    InMarked e from trace → trace ≢ [] → spelled labels trace ≢ []
spelled-nonempty e labels from labelled [] marked some none = some refl
spelled-nonempty e labels from labelled (p ∷ trace) marked some none =
    let range = first_range e from p (marked_is_local e from (p ∷ trace) marked).0 in
    let known = has_label e labels from p labelled range in
    let shown : spelled labels (p ∷ trace) ≡ known.0 ∷ spelled labels trace = ap (λ (found : Option Label). option_to_list found ++ spelled labels trace) known.1 in
    let nothing = sym shown ∙ none in
    cc

-- what the parts of a repetition spell
record SpellsParts (body : Expression) (labels : List Label) (parts : List (List ℕ)) : Type 0 where
  words : List (List Label)
  joined : spelled labels (flat_map (λ part. part) parts) ≡ flat_map (λ part. part) words
  nonempty : All (λ part. part ≢ []) words
  within : All (In body) words

spells_parts : (body : Expression) (labels : List Label) (from : ℕ) → AreLabelled labels body from →
    ((trace : List ℕ) → InMarked body from trace → In body (spelled labels trace)) → (parts : List (List ℕ)) →
    All (λ part. part ≢ []) parts → All (InMarked body from) parts → SpellsParts body labels parts
spells_parts body labels from labelled spells [] nonempty within =
    record { words = []; joined = refl; nonempty = All-nil (λ (word : List Label). word ≢ []); within = All-nil (In body) }
spells_parts body labels from labelled spells (part ∷ parts) nonempty within =
    let rest = spells_parts body labels from labelled spells parts (All-tail (λ (t : List ℕ). t ≢ []) part parts nonempty) (All-tail (InMarked body from) part parts within) in
    let marked = All-head (InMarked body from) part parts within in
    let some = All-head (λ (t : List ℕ). t ≢ []) part parts nonempty in
    record {
      words = spelled labels part ∷ rest.words;
      joined = flat_map-append (λ position. option_to_list (slice_get labels position)) part (flat_map (λ (t : List ℕ). t) parts) ∙ ap (λ (w : List Label). spelled labels part ++ w) rest.joined;
      nonempty = All-cons (λ (word : List Label). word ≢ []) (spelled labels part) rest.words (spelled-nonempty body labels from labelled part marked some) rest.nonempty;
      within = All-cons (In body) (spelled labels part) rest.words (spells part marked) rest.within;
    }

spells_repeated : (body : Expression) (labels : List Label) (from : ℕ) → AreLabelled labels body from →
    ((trace : List ℕ) → InMarked body from trace → In body (spelled labels trace)) → (trace : List ℕ) →
    IsRepeatedTrace (InMarked body from) trace → IsRepeated (In body) (spelled labels trace)
spells_repeated body labels from labelled spells trace h =
    let parts = spells_parts body labels from labelled spells h.parts h.nonempty h.within in
    record { parts = parts.words; joined = ap (spelled labels) h.joined ∙ parts.joined; nonempty = parts.nonempty; within = parts.within }

-- a word of the marked expression spells a word of the expression
pub marked_spells_word : (e : Expression) (labels : List Label) (from : ℕ) → AreLabelled labels e from → (trace : List ℕ) →
    InMarked e from trace → In e (spelled labels trace)
marked_spells_word (Atom label) labels from labelled trace h =
    ap (spelled labels) h ∙ ap (λ (found : Option Label). option_to_list found ++ []) labelled
marked_spells_word (Seq left right) labels from labelled trace h =
    record {
      front = spelled labels h.front;
      rest = spelled labels h.rest;
      split = ap (spelled labels) h.split ∙ flat_map-append (λ position. option_to_list (slice_get labels position)) h.front h.rest;
      left = marked_spells_word left labels from labelled.0 h.front h.left;
      right = marked_spells_word right labels (from + atoms left) labelled.1 h.rest h.right;
    }
marked_spells_word (Alt left right) labels from labelled trace h =
    elim h [
      | inl a ↦ inl (marked_spells_word left labels from labelled.0 trace a)
      | inr b ↦ inr (marked_spells_word right labels (from + atoms left) labelled.1 trace b)
    ]
marked_spells_word (Star body) labels from labelled trace h =
    spells_repeated body labels from labelled (marked_spells_word body labels from labelled) trace h
marked_spells_word (Plus body) labels from labelled trace h =
    record {
      front = spelled labels h.front;
      rest = spelled labels h.rest;
      split = ap (spelled labels) h.split ∙ flat_map-append (λ position. option_to_list (slice_get labels position)) h.front h.rest;
      left = marked_spells_word body labels from labelled h.front h.left;
      right = spells_repeated body labels from labelled (marked_spells_word body labels from labelled) h.rest h.right;
    }
marked_spells_word (Opt body) labels from labelled trace h =
    elim h [
      | inl e ↦ inl (ap (spelled labels) e)
      | inr b ↦ inr (marked_spells_word body labels from labelled trace b)
    ]

-- a trace of the marked expression that spells the word
pub record IsSpelled (e : Expression) (labels : List Label) (from : ℕ) (word : List Label) : Type 0 where
  pub trace : List ℕ
  pub marked : InMarked e from trace
  pub spells : word ≡ spelled labels trace

-- the same of the parts of a repetition
record ArePartsSpelled (body : Expression) (labels : List Label) (from : ℕ) (words : List (List Label)) : Type 0 where
  parts : List (List ℕ)
  nonempty : All (λ part. part ≢ []) parts
  within : All (InMarked body from) parts
  joined : flat_map (λ part. part) words ≡ spelled labels (flat_map (λ part. part) parts)

parts_spelled : (body : Expression) (labels : List Label) (from : ℕ) →
    ((word : List Label) → In body word → IsSpelled body labels from word) → (words : List (List Label)) → All (λ word. word ≢ []) words →
    All (In body) words → ArePartsSpelled body labels from words
parts_spelled body labels from spells [] nonempty within =
    record { parts = []; nonempty = All-nil (λ (t : List ℕ). t ≢ []); within = All-nil (InMarked body from); joined = refl }
parts_spelled body labels from spells (word ∷ words) nonempty within =
    let rest = parts_spelled body labels from spells words (All-tail (λ (w : List Label). w ≢ []) word words nonempty) (All-tail (In body) word words within) in
    let one = spells word (All-head (In body) word words within) in
    let some = All-head (λ (w : List Label). w ≢ []) word words nonempty in
    record {
      parts = one.trace ∷ rest.parts;
      nonempty = All-cons (λ (t : List ℕ). t ≢ []) one.trace rest.parts (λ none. some (one.spells ∙ ap (spelled labels) none)) rest.nonempty;
      within = All-cons (InMarked body from) one.trace rest.parts one.marked rest.within;
      joined = ap (λ (w : List Label). w ++ flat_map (λ part. part) words) one.spells
          ∙ ap (λ (w : List Label). spelled labels one.trace ++ w) rest.joined
          ∙ sym (flat_map-append (λ position. option_to_list (slice_get labels position)) one.trace (flat_map (λ (t : List ℕ). t) rest.parts));
    }

-- the trace of a repetition
record IsRepetitionSpelled (body : Expression) (labels : List Label) (from : ℕ) (word : List Label) : Type 0 where
  trace : List ℕ
  marked : IsRepeatedTrace (InMarked body from) trace
  spells : word ≡ spelled labels trace

repetition_spelled : (body : Expression) (labels : List Label) (from : ℕ) →
    ((word : List Label) → In body word → IsSpelled body labels from word) → (word : List Label) → IsRepeated (In body) word →
    IsRepetitionSpelled body labels from word
repetition_spelled body labels from spells word h =
    let parts = parts_spelled body labels from spells h.parts h.nonempty h.within in
    record {
      trace = flat_map (λ part. part) parts.parts;
      marked = record { parts = parts.parts; joined = refl; nonempty = parts.nonempty; within = parts.within };
      spells = h.joined ∙ parts.joined;
    }

-- every word of the expression is spelled by a word of the marked expression
pub word_is_spelled : (e : Expression) (labels : List Label) (from : ℕ) → AreLabelled labels e from → (word : List Label) → In e word →
    IsSpelled e labels from word
word_is_spelled (Atom label) labels from labelled word h =
    record {
      trace = from ∷ [];
      marked = refl;
      spells = h ∙ sym (ap (λ (found : Option Label). option_to_list found ++ []) labelled);
    }
word_is_spelled (Seq left right) labels from labelled word h =
    let a = word_is_spelled left labels from labelled.0 h.front h.left in
    let b = word_is_spelled right labels (from + atoms left) labelled.1 h.rest h.right in
    record {
      trace = a.trace ++ b.trace;
      marked = record { front = a.trace; rest = b.trace; split = refl; left = a.marked; right = b.marked };
      spells = h.split ∙ ap (λ (w : List Label). w ++ h.rest) a.spells ∙ ap (λ (w : List Label). spelled labels a.trace ++ w) b.spells
          ∙ sym (flat_map-append (λ position. option_to_list (slice_get labels position)) a.trace b.trace);
    }
word_is_spelled (Alt left right) labels from labelled word h =
    elim h [
      | inl l ↦ (let a = word_is_spelled left labels from labelled.0 word l in record { trace = a.trace; marked = inl a.marked; spells = a.spells })
      | inr r ↦ (let b = word_is_spelled right labels (from + atoms left) labelled.1 word r in record { trace = b.trace; marked = inr b.marked; spells = b.spells })
    ]
word_is_spelled (Star body) labels from labelled word h =
    let a = repetition_spelled body labels from (word_is_spelled body labels from labelled) word h in
    record { trace = a.trace; marked = a.marked; spells = a.spells }
word_is_spelled (Plus body) labels from labelled word h =
    let a = word_is_spelled body labels from labelled h.front h.left in
    let b = repetition_spelled body labels from (word_is_spelled body labels from labelled) h.rest h.right in
    record {
      trace = a.trace ++ b.trace;
      marked = record { front = a.trace; rest = b.trace; split = refl; left = a.marked; right = b.marked };
      spells = h.split ∙ ap (λ (w : List Label). w ++ h.rest) a.spells ∙ ap (λ (w : List Label). spelled labels a.trace ++ w) b.spells
          ∙ sym (flat_map-append (λ position. option_to_list (slice_get labels position)) a.trace b.trace);
    }
word_is_spelled (Opt body) labels from labelled word h =
    elim h [
      | inl e ↦ record { trace = []; marked = inl refl; spells = e }
      | inr b ↦ (let a = word_is_spelled body labels from labelled word b in record { trace = a.trace; marked = inr a.marked; spells = a.spells })
    ]

pub marked_spells_words : MarkedSpellsWords
marked_spells_words e word =
    let labelled = are_labelled_all e in (
      λ h. let found = word_is_spelled e (labels_of e) 0 labelled word h in (found.trace, found.marked, found.spells),
      λ h. subst (λ (w : List Label). In e w) (sym h.2) (marked_spells_word e (labels_of e) 0 labelled h.0 h.1),
    )
