-- Words alone: parts that can be left out, for any language.
use Rattle.std.proofs.Common.{◌≡◌, ◌≢◌, ◌<◌, List, [], ◌∷◌, ◌++◌, length, refl, sym, ap, ◌∙◌, subst, arith}
use Rattle.std.specs.Prelude.{◌↔◌}
use Rattle.std.specs.declared.cmp.Ordering.{Ordering}
use Rattle.std.specs.declared.cmp.Ordering.TheVariants.{Less, Equal, Greater}
use Rattle.std.specs.Ordering.{nat_cmp, ordering_then, ordering_reverse}
use Rattle.std.specs.Cmp.Lexicographic.{slice_cmp}
use Rattle.rpq_base.proofs.Orders.{word_cmp_exact, word_cmp_total}
use Rattle.rpq_base.specs.Order.{label_cmp, word_cmp}
use Rattle.rpq_base.specs.declared.data.Label.{Label}
use Rattle.state_pairs.proofs.Least.{cmp_more}
use Rattle.containment_test.specs.Containment.{Shows, IsLeastTriple}
use Rattle.containment_test.specs.Laws.{OneVerdict, EmptyWordIsNoMatter, SecondIsOneLabel}
use Rattle.containment_test.specs.Verdict.{IsVerdict}
use Rattle.containment_test.specs.declared.verdict.Verdict.{Verdict}
use Rattle.containment_test.specs.declared.verdict.Verdict.TheVariants.{Yes, No}

-- what is put between keeps a word nonempty
pub not_empty : (p q w : List Label) → p ++ w ≢ [] → p ++ (q ++ w) ≢ []
not_empty [] [] w some none = some none
not_empty [] (label ∷ q) w some none = cc
not_empty (label ∷ p) q w some none = cc

-- where any one label may be left out after a word, any part may
pub none_inside : (q : List Label) (language : List Label → Type 0) (p w : List Label) → ((label : Label) (rest : List Label) → Shows language p (label ∷ []) rest → ⊥) →
    p ++ w ≢ [] → (language (p ++ w) → ⊥) → language (p ++ (q ++ w)) → ⊥
none_inside [] language p w none some outside inside = outside inside
none_inside (label ∷ q) language p w none some outside inside = none label (q ++ w) (record {
  some = not_empty p q w some;
  inside = inside;
  outside = λ further. none_inside q language p w none some outside further;
})

-- ---- orders

neither_greater : (o : Ordering) → o ≢ Greater → ordering_reverse o ≢ Greater → o ≡ Equal
neither_greater Less most least = absurd (least refl)
neither_greater Equal most least = refl
neither_greater Greater most least = absurd (most refl)

-- words of which neither is greater are one
pub same_word : (one other : List Label) → word_cmp one other ≢ Greater → word_cmp other one ≢ Greater → one ≡ other
same_word one other most least =
    word_cmp_exact one other (neither_greater (word_cmp one other) most (λ more. least (word_cmp_total.antisymm other one ∙ more)))

-- a longer word is greater
pub longer : (one other : List Label) → length other < length one → word_cmp one other ≡ Greater
longer one other more =
    ap (λ (o : Ordering). ordering_then o (slice_cmp label_cmp one other))
    (cmp_more (nat_cmp (length one) (length other)) (length one) (length other) refl more)

-- ---- laws

one_triple : (language : List Label → Type 0) (p q w p2 q2 w2 : List Label) → IsLeastTriple language p q w → IsLeastTriple language p2 q2 w2 → No p q w ≡ No p2 q2 w2
one_triple language p q w p2 q2 w2 one two =
    let first = same_word p p2 (one.first p2 q2 w2 two.shows) (two.first p q w one.shows) in
    let here : Shows language p q2 w2 = subst (λ (front : List Label). Shows language front q2 w2) (sym first) two.shows in
    let there : Shows language p2 q w = subst (λ (front : List Label). Shows language front q w) first one.shows in
    let second = same_word q q2 (one.second q2 w2 here) (two.second q w there) in
    let here2 : Shows language p q w2 = subst (λ (part : List Label). Shows language p part w2) (sym second) here in
    let there2 : Shows language p2 q2 w = subst (λ (part : List Label). Shows language p2 part w) second there in
    let third = same_word w w2 (one.third w2 here2) (two.third w there2) in
    λ i. No (first i) (second i) (third i)

pub one_verdict : (language : List Label → Type 0) → OneVerdict language
one_verdict language Yes Yes is is2 = refl
one_verdict language Yes (No p q w) is is2 = absurd (is2.shows.outside (is p q w is2.shows.some is2.shows.inside))
one_verdict language (No p q w) Yes is is2 = absurd (is.shows.outside (is2 p q w is.shows.some is.shows.inside))
one_verdict language (No p q w) (No p2 q2 w2) is is2 = one_triple language p q w p2 q2 w2 is is2

-- the languages have the same nonempty words
abbrev HaveSame : (language other : List Label → Type 0) → Type 0
HaveSame language other = (word : List Label) → word ≢ [] → language word ↔ other word

mirrored : (language other : List Label → Type 0) → HaveSame language other → HaveSame other language
mirrored language other same = λ word some. ((same word some).1, (same word some).0)

shows_too : (language other : List Label → Type 0) (p q w : List Label) → HaveSame language other → Shows language p q w → Shows other p q w
shows_too language other p q w same shows = record {
  some = shows.some;
  inside = (same (p ++ (q ++ w)) (not_empty p q w shows.some)).0 shows.inside;
  outside = λ inside. shows.outside ((same (p ++ w) shows.some).1 inside);
}

verdict_too : (verdict : Verdict) (language other : List Label → Type 0) → HaveSame language other → IsVerdict language verdict → IsVerdict other verdict
verdict_too Yes language other same is =
    λ p q w some inside. (same (p ++ w) some).0 (is p q w some ((same (p ++ (q ++ w)) (not_empty p q w some)).1 inside))
verdict_too (No p q w) language other same is =
    let back = mirrored language other same in record {
      shows = shows_too language other p q w same is.shows;
      first = λ one second third shows. is.first one second third (shows_too other language one second third back shows);
      second = λ one third shows. is.second one third (shows_too other language p one third back shows);
      third = λ one shows. is.third one (shows_too other language p q one back shows);
    }

pub empty_word_is_no_matter : (language other : List Label → Type 0) → EmptyWordIsNoMatter language other
empty_word_is_no_matter language other same verdict = (
  (λ is. verdict_too verdict language other same is),
  (λ is. verdict_too verdict other language (mirrored language other same) is),
)

pub second_is_one_label : (language : List Label → Type 0) → SecondIsOneLabel language
second_is_one_label language p [] w is = absurd (is.shows.outside is.shows.inside)
second_is_one_label language p (label ∷ []) w is = refl
second_is_one_label language p (label ∷ label2 ∷ q) w is =
    absurd (none_inside (label ∷ label2 ∷ q) language p w
    (λ one rest shows. is.second (one ∷ []) rest shows (longer (label ∷ label2 ∷ q) (one ∷ []) (omega arith)))
    is.shows.some is.shows.outside is.shows.inside)
