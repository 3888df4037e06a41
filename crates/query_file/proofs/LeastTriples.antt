-- Where no words are the least that show that the language of an expression isn't contained, it is.
use Rattle.std.proofs.Common.{◌≡◌, ◌≢◌, ◌↔◌, ℕ, zero, suc, ◌≤◌, Bool, true, false, IsTrue, List, [], ◌∷◌, ◌++◌, ◌⊎◌, inl, inr, All, length, map, refl, sym, ap, subst, ◌∙◌, arith}
use Rattle.std.specs.Prelude.{Contains}
use Rattle.std.specs.List.{flat_map}
use Rattle.std.specs.declared.cmp.Ordering.TheVariants.{Less, Greater}
use Rattle.std.specs.Ordering.{ordering_reverse}
use Rattle.std.proofs.lemmas.Bool.{false≢true, cases_lt}
use Rattle.std.proofs.lemmas.List.Elements.{All-nil, All-cons, All-head, All-tail, All-append, Contains-append_left, Contains-append_right}
use Rattle.rpq_base.specs.declared.data.Label.{Label}
use Rattle.rpq_base.specs.Order.{word_cmp}
use Rattle.rpq_base.proofs.Members.{cons_members, none_in}
use Rattle.rpq_base.proofs.Orders.{word_cmp_total}
use Rattle.path_syntax.specs.Expression.{Expression, Atom, Seq, Alt, Star, Plus, Opt}
use Rattle.path_syntax.specs.Language.{In}
use Rattle.path_syntax.specs.Laws.{is_nullable}
use Rattle.path_syntax.specs.Marks.{marks_after, may_end}
use Rattle.path_syntax.proofs.MarkedWords.{Stands, first_label, next_label, may_end_is}
use Rattle.path_syntax.proofs.Nullable.{nullable_is}
use Rattle.dfa_build.specs.Marked.{labels_of}
use Rattle.containment_test.specs.Containment.{Contained, Shows, IsLeastTriple}
use Rattle.containment_test.proofs.Words.{longer}

-- ---- a word is in the language of an expression, or it isn't

by_test : {P : Type 0} (test : Bool) → IsTrue test ↔ P → P ⊎ (P → ⊥)
by_test true is = inl (is.0 refl)
by_test false is = inr (λ holds. false≢true (is.1 holds))

behind : (rest : List Label) (e : Expression) (marks : List Bool) (word : List Label) → Stands e marks rest word → In e word ⊎ (In e word → ⊥)
behind [] e marks word stands =
    by_test (may_end e marks) (λ test. stands.forth ((may_end_is e marks).0 test), λ is. (may_end_is e marks).1 (stands.back is))
behind (label ∷ rest) e marks word stands = behind rest e (marks_after e marks false label) word (next_label e marks label rest word stands)

in_or_not : (e : Expression) (word : List Label) → In e word ⊎ (In e word → ⊥)
in_or_not e [] = by_test (is_nullable e) (nullable_is e)
in_or_not e (label ∷ rest) = behind rest e (marks_after e [] true label) (label ∷ rest) (first_label e label rest)

-- ---- its words are words over its labels

abbrev pub IsOver : List Label → List Label → Type 0
IsOver labels word = All (Contains labels) word

over_parts : (labels : List Label) (language : List Label → Type 0) → ((word : List Label) → language word → IsOver labels word) →
    (parts : List (List Label)) → All language parts → IsOver labels (flat_map (λ part. part) parts)
over_parts labels language over [] within = All-nil (Contains labels)
over_parts labels language over (part ∷ parts) within =
    All-append (Contains labels) part (flat_map (λ part. part) parts) (over part (All-head language part parts within))
    (over_parts labels language over parts (All-tail language part parts within))

-- the labels have those of the expression
abbrev pub HasLabels : List Label → Expression → Type 0
HasLabels labels e = (label : Label) → Contains (labels_of e) label → Contains labels label

pub over_labels : (e : Expression) (labels : List Label) → HasLabels labels e → (word : List Label) → In e word → IsOver labels word
over_labels (Atom own) labels has word is =
    subst (IsOver labels) (sym is) (All-cons (Contains labels) own [] (has own ((cons_members own [] own).1 (inl refl))) (All-nil (Contains labels)))
over_labels (Seq left right) labels has word is =
    subst (IsOver labels) (sym is.split) (All-append (Contains labels) is.front is.rest
    (over_labels left labels (λ label in_left. has label (Contains-append_left (labels_of left) (labels_of right) label in_left)) is.front is.left)
    (over_labels right labels (λ label in_right. has label (Contains-append_right (labels_of left) (labels_of right) label in_right)) is.rest is.right))
over_labels (Alt left right) labels has word (inl is) =
    over_labels left labels (λ label in_left. has label (Contains-append_left (labels_of left) (labels_of right) label in_left)) word is
over_labels (Alt left right) labels has word (inr is) =
    over_labels right labels (λ label in_right. has label (Contains-append_right (labels_of left) (labels_of right) label in_right)) word is
over_labels (Star body) labels has word is =
    subst (IsOver labels) (sym is.joined) (over_parts labels (In body) (over_labels body labels has) is.parts is.within)
over_labels (Plus body) labels has word is =
    subst (IsOver labels) (sym is.split) (All-append (Contains labels) is.front is.rest (over_labels body labels has is.front is.left)
    (subst (IsOver labels) (sym is.right.joined) (over_parts labels (In body) (over_labels body labels has) is.right.parts is.right.within)))
over_labels (Opt body) labels has word (inl none) = subst (IsOver labels) (sym none) (All-nil (Contains labels))
over_labels (Opt body) labels has word (inr is) = over_labels body labels has word is

-- ---- the words over some labels up to a length

abbrev each_behind : List Label → List (List Label) → List (List Label)
each_behind [] words = []
each_behind (label ∷ labels) words = map (λ word. label ∷ word) words ++ each_behind labels words

abbrev words_up_to : List Label → ℕ → List (List Label)
words_up_to labels zero = [] ∷ []
words_up_to labels (suc most) = [] ∷ each_behind labels (words_up_to labels most)

has_longer : (label : Label) (words : List (List Label)) (word : List Label) → Contains words word → Contains (map (λ each. label ∷ each) words) (label ∷ word)
has_longer label [] word has = absurd (none_in word has)
has_longer label (first ∷ words) word has =
    let members = cons_members (label ∷ first) (map (λ each. label ∷ each) words) (label ∷ word) in
    elim ((cons_members first words word).0 has) [
      | inl is ↦ members.1 (inl (ap (λ (each : List Label). label ∷ each) is))
      | inr later ↦ members.1 (inr (has_longer label words word later))
    ]

has_behind : (labels : List Label) (words : List (List Label)) (label : Label) (word : List Label) → Contains labels label → Contains words word →
    Contains (each_behind labels words) (label ∷ word)
has_behind [] words label word has within = absurd (none_in label has)
has_behind (first ∷ labels) words label word has within = elim ((cons_members first labels label).0 has) [
  | inl is ↦ Contains-append_left (map (λ each. first ∷ each) words) (each_behind labels words) (label ∷ word)
      (subst (λ (one : Label). Contains (map (λ each. first ∷ each) words) (one ∷ word)) is (has_longer first words word within))
  | inr later ↦ Contains-append_right (map (λ each. first ∷ each) words) (each_behind labels words) (label ∷ word) (has_behind labels words label word later within)
]

has_words : (labels : List Label) (most : ℕ) (word : List Label) → IsOver labels word → length word ≤ most → Contains (words_up_to labels most) word
has_words labels zero [] over short = (cons_members [] [] []).1 (inl refl)
has_words labels zero (label ∷ word) over short = absurd (omega (arith, short))
has_words labels (suc most) [] over short = (cons_members [] (each_behind labels (words_up_to labels most)) []).1 (inl refl)
has_words labels (suc most) (label ∷ word) over short =
    (cons_members [] (each_behind labels (words_up_to labels most)) (label ∷ word)).1
    (inr (has_behind labels (words_up_to labels most) label word (All-head (Contains labels) label word over)
    (has_words labels most word (All-tail (Contains labels) label word over) (omega (arith, short)))))

-- ---- the least word of which something holds

pub not_itself : (word : List Label) → word_cmp word word ≢ Greater
not_itself word greater = let turned : Greater ≡ Less = sym greater ∙ word_cmp_total.antisymm word word ∙ ap ordering_reverse greater in absurd (cc turned)

pub not_both : (one other : List Label) → word_cmp one other ≡ Greater → word_cmp other one ≢ Greater
not_both one other greater also = let turned : Greater ≡ Less = sym greater ∙ word_cmp_total.antisymm one other ∙ ap ordering_reverse also in absurd (cc turned)

greater_than : (one other third : List Label) → word_cmp one other ≡ Greater → word_cmp other third ≡ Greater → word_cmp one third ≡ Greater
greater_than one other third greater further =
    word_cmp_total.antisymm one third ∙ ap ordering_reverse (word_cmp_total.trans third other one
    (word_cmp_total.antisymm third other ∙ ap ordering_reverse further) (word_cmp_total.antisymm other one ∙ ap ordering_reverse greater))

-- it holds of the word, and of none of these that is less
record IsLeastOf (P : List Label → Type 0) (words : List (List Label)) (word : List Label) : Type 0 where
  holds : P word
  least : (other : List Label) → Contains words other → P other → word_cmp word other ≢ Greater

-- it holds of none of these, or of a least one: at least that can't be refuted
none_or_least : (P : List Label → Type 0) (words : List (List Label)) →
    ((((other : List Label) → Contains words other → P other → ⊥) ⊎ ((word : List Label) × IsLeastOf P words word)) → ⊥) → ⊥
none_or_least P [] neither = neither (inl (λ other has holds. none_in other has))
none_or_least P (first ∷ words) neither = none_or_least P words (λ found. by found)
  where
    -- where it holds of the first, that isn't less than any
    first_is : P first → ((other : List Label) → Contains words other → P other → word_cmp first other ≢ Greater) → ⊥
    first_is holds least = neither (inr (
      first,
      record {
        holds = holds;
        least = λ other has also greater. elim ((cons_members first words other).0 has) [
          | inl is ↦ not_itself first (subst (λ (word : List Label). word_cmp first word ≡ Greater) (sym is) greater)
          | inr later ↦ least other later also greater
        ];
      },
    ))

    by : (((other : List Label) → Contains words other → P other → ⊥) ⊎ ((word : List Label) × IsLeastOf P words word)) → ⊥
    by (inl none) = neither (inl (λ other has holds. elim ((cons_members first words other).0 has) [
      | inl is ↦ first_is (subst P (sym is) holds) (λ third later also greater. none third later also)
      | inr later ↦ none other later holds
    ]))
    by (inr (word, is_least)) = neither (inr (
      word,
      record {
        holds = is_least.holds;
        least = λ other has also greater. elim ((cons_members first words other).0 has) [
          | inl is ↦ first_is (subst P (sym is) also) (λ third later further more. is_least.least third later further
              (greater_than word first third (subst (λ (one : List Label). word_cmp word one ≡ Greater) (sym is) greater) more))
          | inr later ↦ is_least.least other later also greater
        ];
      },
    ))

abbrev WithinLength : ℕ → (List Label → Type 0) → List Label → Type 0
WithinLength most P word = (length word ≤ most) × P word

-- what holds of some word over some labels, and of such words alone, doesn't lack a least one
least_word : (labels : List Label) (P : List Label → Type 0) → ((word : List Label) → P word → IsOver labels word) → (some : List Label) → P some →
    ((word : List Label) → P word → ((other : List Label) → P other → word_cmp word other ≢ Greater) → ⊥) → ⊥
least_word labels P over some holds none = none_or_least (WithinLength (length some) P) (words_up_to labels (length some)) (λ found. by found)
  where
    by : (((other : List Label) → Contains (words_up_to labels (length some)) other → WithinLength (length some) P other → ⊥)
        ⊎ ((word : List Label) × IsLeastOf (WithinLength (length some) P) (words_up_to labels (length some)) word)) → ⊥
    by (inl nothing) = nothing some (has_words labels (length some) some (over some holds) (omega arith)) (omega arith, holds)
    by (inr (word, is_least)) = none word is_least.holds.1 (λ other also greater. elim (cases_lt (length some) (length other)) [
      | inl long ↦ let short = is_least.holds.0 in not_both word other greater (longer other word (omega (arith, short, long)))
      | inr fits ↦ is_least.least other (has_words labels (length some) other (over other also) fits) (fits, also) greater
    ])

-- ---- the least triple

pub front_over : (labels front rest : List Label) → IsOver labels (front ++ rest) → IsOver labels front
front_over labels [] rest over = All-nil (Contains labels)
front_over labels (label ∷ front) rest over =
    All-cons (Contains labels) label front (All-head (Contains labels) label (front ++ rest) over)
    (front_over labels front rest (All-tail (Contains labels) label (front ++ rest) over))

pub rest_over : (labels front rest : List Label) → IsOver labels (front ++ rest) → IsOver labels rest
rest_over labels [] rest over = over
rest_over labels (label ∷ front) rest over = rest_over labels front rest (All-tail (Contains labels) label (front ++ rest) over)

-- words that show it don't lack the least ones that do
no_least : (labels : List Label) (language : List Label → Type 0) → ((word : List Label) → language word → IsOver labels word) →
    ((p q w : List Label) → IsLeastTriple language p q w → ⊥) → (p q w : List Label) → Shows language p q w → ⊥
no_least labels language over none p q w shows =
    least_word labels (λ first. (second third : List Label) × Shows language first second third)
    (λ first has. front_over labels first (has.0 ++ has.1) (over (first ++ (has.0 ++ has.1)) has.2.inside)) p (q, w, shows)
    (λ first has first_least. least_word labels (λ second. (third : List Label) × Shows language first second third)
    (λ second has. front_over labels second has.0 (rest_over labels first (second ++ has.0) (over (first ++ (second ++ has.0)) has.1.inside))) has.0 (has.1, has.2)
    (λ second has second_least. least_word labels (λ third. Shows language first second third)
    (λ third is. rest_over labels second third (rest_over labels first (second ++ third) (over (first ++ (second ++ third)) is.inside))) has.0 has.1
    (λ third is third_least. none first second third (record {
      shows = is;
      first = λ other one two also. first_least other (one, two, also);
      second = λ other one also. second_least other (one, also);
      third = λ other also. third_least other also;
    }))))

pub contained_of_none : (e : Expression) → ((p q w : List Label) → IsLeastTriple (In e) p q w → ⊥) → Contained (In e)
contained_of_none e none p q w some inside = elim (in_or_not e (p ++ w)) [
  | inl is ↦ is
  | inr outside ↦ absurd (no_least (labels_of e) (In e) (over_labels e (labels_of e) (λ label has. has)) none p q w
      (record { some = some; inside = inside; outside = outside }))
]
