-- The words of an expression without an inverse label.
use Rattle.std.proofs.Common.{List, [], ◌∷◌, ⊎_elim, All, sym, subst}
use Rattle.std.specs.List.{flat_map}
use Rattle.std.proofs.lemmas.List.Elements.{All-nil, All-cons, All-head, All-tail, All-append}
use Rattle.rpq_base.specs.Plain.{IsPlainLabel}
use Rattle.rpq_base.specs.declared.data.Label.{Label}
use Rattle.path_syntax.specs.Expression.{Atom, Seq, Alt, Star, Plus, Opt}
use Rattle.path_syntax.specs.Language.{Language, IsJoined, IsRepeated, In}
use Rattle.two_way.specs.Laws.{PlainExpressionsHavePlainWords}

-- all labels of each word of the language point forwards
abbrev pub HasPlainWords : Language → Type 0
HasPlainWords language = (word : List Label) → language word → All IsPlainLabel word

joined_plain : (first second : Language) → HasPlainWords first → HasPlainWords second → HasPlainWords (IsJoined first second)
joined_plain first second first_plain second_plain word joined =
    subst (All IsPlainLabel) (sym joined.split)
    (All-append IsPlainLabel joined.front joined.rest (first_plain joined.front joined.left) (second_plain joined.rest joined.right))

parts_plain : (parts : List (List Label)) (language : Language) → HasPlainWords language → All language parts →
    All IsPlainLabel (flat_map (λ part. part) parts)
parts_plain [] language plain within = All-nil IsPlainLabel
parts_plain (part ∷ parts) language plain within =
    All-append IsPlainLabel part (flat_map (λ part. part) parts)
    (plain part (All-head language part parts within))
    (parts_plain parts language plain (All-tail language part parts within))

repeated_plain : (language : Language) → HasPlainWords language → HasPlainWords (IsRepeated language)
repeated_plain language plain word repeated =
    subst (All IsPlainLabel) (sym repeated.joined) (parts_plain repeated.parts language plain repeated.within)

pub plain_words : PlainExpressionsHavePlainWords
plain_words (Atom label) plain word is =
    subst (All IsPlainLabel) (sym is) (All-cons IsPlainLabel label [] plain (All-nil IsPlainLabel))
plain_words (Seq left right) plain word joined =
    joined_plain (In left) (In right) (plain_words left plain.0) (plain_words right plain.1) word joined
plain_words (Alt left right) plain word either =
    ⊎_elim (plain_words left plain.0 word) (plain_words right plain.1 word) either
plain_words (Star body) plain word repeated = repeated_plain (In body) (plain_words body plain) word repeated
plain_words (Plus body) plain word joined =
    joined_plain (In body) (IsRepeated (In body)) (plain_words body plain) (repeated_plain (In body) (plain_words body plain)) word joined
plain_words (Opt body) plain word either =
    ⊎_elim (λ none. subst (All IsPlainLabel) (sym none) (All-nil IsPlainLabel)) (plain_words body plain word) either
