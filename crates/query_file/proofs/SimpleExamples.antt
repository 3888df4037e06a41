-- Two expressions: the language of a/b isn't contained, that of a+ is.
use Rattle.std.proofs.Common.{◌≡◌, ◌≢◌, ◌<◌, List, [], ◌∷◌, ◌++◌, inl, inr, length, refl, sym, ap, subst, ◌∙◌, arith}
use Rattle.std.specs.Prelude.{Contains}
use Rattle.std.specs.declared.cmp.Ordering.TheVariants.{Greater}
use Rattle.std.proofs.lemmas.List.Elements.{All-append, All-head, All-tail}
use Rattle.rpq_base.specs.declared.data.Label.{Label}
use Rattle.rpq_base.specs.Order.{word_cmp}
use Rattle.rpq_base.proofs.Members.{cons_members, none_in}
use Rattle.path_syntax.specs.Expression.{Expression, Atom, Seq, Star, Plus}
use Rattle.path_syntax.specs.Language.{In}
use Rattle.path_syntax.proofs.Stars.{repeated_none, repeated_more}
use Rattle.containment_test.specs.Containment.{Contained, Shows, IsLeastTriple}
use Rattle.containment_test.proofs.Words.{longer}
use Rattle.containment_laws.specs.LineExamples.{a, b}
use Rattle.query_file.proofs.LeastTriples.{IsOver, over_labels, front_over, rest_over, not_itself, not_both}

abbrev pub a_then_b : Expression
a_then_b = Seq (Atom a) (Atom b)

abbrev pub some_a : Expression
some_a = Plus (Atom a)

-- ---- a/b

-- its word is a b
only_word : (word : List Label) → In a_then_b word → word ≡ a ∷ b ∷ []
only_word word is = is.split ∙ (ap (λ (front : List Label). front ++ is.rest) is.left ∙ ap (λ (rest : List Label). a ∷ rest) is.right)

has_word : In a_then_b (a ∷ b ∷ [])
has_word = record { front = a ∷ []; rest = b ∷ []; split = refl; left = refl; right = refl }

not_longer : (one other : List Label) → length one < length other → word_cmp one other ≢ Greater
not_longer one other less greater = not_both one other greater (longer other one less)

-- no word is less than the empty one
empty_least : (other : List Label) → word_cmp [] other ≢ Greater
empty_least [] = not_itself []
empty_least (label ∷ other) = not_longer [] (label ∷ other) (omega arith)

a_least : (other third : List Label) → Shows (In a_then_b) [] other third → word_cmp (a ∷ []) other ≢ Greater
a_least [] third shows = absurd (shows.outside shows.inside)
a_least (label ∷ []) third shows =
    let whole : label ∷ third ≡ a ∷ b ∷ [] = only_word (label ∷ third) shows.inside in
    let same : label ≡ a = cc whole in
    subst (λ (one : Label). word_cmp (a ∷ []) (one ∷ []) ≢ Greater) (sym same) (not_itself (a ∷ []))
a_least (label ∷ label2 ∷ other) third shows = not_longer (a ∷ []) (label ∷ label2 ∷ other) (omega arith)

b_least : (other : List Label) → Shows (In a_then_b) [] (a ∷ []) other → word_cmp (b ∷ []) other ≢ Greater
b_least other shows =
    let whole : a ∷ other ≡ a ∷ b ∷ [] = only_word (a ∷ other) shows.inside in
    let same : other ≡ b ∷ [] = cc whole in
    subst (λ (word : List Label). word_cmp (b ∷ []) word ≢ Greater) (sym same) (not_itself (b ∷ []))

-- the three words
pub least_of_two : IsLeastTriple (In a_then_b) [] (a ∷ []) (b ∷ [])
least_of_two = record {
  shows = record {
    some = λ none. absurd (cc none);
    inside = has_word;
    outside = λ is. let whole = only_word (b ∷ []) is in absurd (cc whole);
  };
  first = λ other second third shows. empty_least other;
  second = a_least;
  third = b_least;
}

-- ---- a+

is_a : (label : Label) → Contains (a ∷ []) label → label ∷ [] ≡ a ∷ []
is_a label has = elim ((cons_members a [] label).0 has) [
  | inl same ↦ ap (λ (one : Label). one ∷ []) (sym same)
  | inr none ↦ absurd (none_in label none)
]

any_a : (word : List Label) → IsOver (a ∷ []) word → In (Star (Atom a)) word
any_a [] over = repeated_none (In (Atom a))
any_a (label ∷ word) over = repeated_more (In (Atom a)) (label ∷ word) (record {
  front = label ∷ [];
  rest = word;
  split = refl;
  left = (λ none. absurd (cc none), is_a label (All-head (Contains (a ∷ [])) label word over));
  right = any_a word (All-tail (Contains (a ∷ [])) label word over);
})

-- its words are the nonempty ones over a
some_a_of : (word : List Label) → word ≢ [] → IsOver (a ∷ []) word → In some_a word
some_a_of [] some over = absurd (some refl)
some_a_of (label ∷ word) some over = record {
  front = label ∷ [];
  rest = word;
  split = refl;
  left = is_a label (All-head (Contains (a ∷ [])) label word over);
  right = any_a word (All-tail (Contains (a ∷ [])) label word over);
}

pub some_a_contained : Contained (In some_a)
some_a_contained p q w some inside =
    let over = over_labels some_a (a ∷ []) (λ label has. has) (p ++ (q ++ w)) inside in
    some_a_of (p ++ w) some (All-append (Contains (a ∷ [])) p w (front_over (a ∷ []) p (q ++ w) over)
    (rest_over (a ∷ []) q w (rest_over (a ∷ []) p (q ++ w) over)))
