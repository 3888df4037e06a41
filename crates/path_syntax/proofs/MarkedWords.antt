-- What the marks of the matcher say of words.
use Rattle.std.proofs.Common.{◌≡◌, Bool, true, false, ◌&&◌, ◌||◌, IsTrue, ◌↔◌, List, [], ◌∷◌, ◌++◌, ◌⊎◌, inl, inr, ℕ, ◌+◌, ◌-◌, ◌<◌, ◌≤◌, length, get_or, take, drop, refl, sym, ◌∙◌, ap, subst, append_assoc, add-one, suc, arith}
use Rattle.std.proofs.lemmas.Bool.{false≢true, or_cases, and_parts, and_from, or_left, or_right}
use Rattle.std.proofs.lemmas.List.{append-nil, take_all, drop_all}
use Rattle.std.proofs.Math.Seq.{drop-cons}
use Rattle.rpq_base.specs.declared.data.Label.{Label}
use Rattle.rpq_base.specs.Same.{same_label}
use Rattle.rpq_base.proofs.Equality.{labels}
use Rattle.path_syntax.specs.Expression.{Expression, Atom, Seq, Alt, Star, Plus, Opt}
use Rattle.path_syntax.specs.Language.{Language, IsJoined, IsRepeated, In}
use Rattle.path_syntax.specs.Laws.{is_nullable, nonempty}
use Rattle.path_syntax.specs.Marks.{first_mark, marks_behind, may_end, marks_after}
use Rattle.path_syntax.proofs.Nullable.{empty_joined, empty_sides, nullable_is}
use Rattle.path_syntax.proofs.Stars.{repeated_none, repeated_more, repeated_cases}

-- the words that end a word of the expression which has begun before and stands at these marks
abbrev pub GoesOn : Expression → List Bool → List Label → Type 0
GoesOn (Atom label) marks word = IsTrue (first_mark marks) × (word ≡ [])
GoesOn (Seq left right) marks word = IsJoined (GoesOn left marks) (In right) word ⊎ GoesOn right (marks_behind left marks) word
GoesOn (Alt left right) marks word = GoesOn left marks word ⊎ GoesOn right (marks_behind left marks) word
GoesOn (Star body) marks word = IsJoined (GoesOn body marks) (IsRepeated (In body)) word
GoesOn (Plus body) marks word = IsJoined (GoesOn body marks) (IsRepeated (In body)) word
GoesOn (Opt body) marks word = GoesOn body marks word

-- a joined word that begins with a label: its front is empty, or begins with the label
data Cut (first second : Language) (label : Label) (word : List Label) : Type 0 where
  AtFront : first [] → second (label ∷ word) → Cut first second label word
  Within : IsJoined (λ w. first (label ∷ w)) second word → Cut first second label word

cut_at : (first second : Language) (label : Label) (word front rest : List Label) → label ∷ word ≡ front ++ rest → first front → second rest →
    Cut first second label word
cut_at first second label word [] rest split left right = AtFront left (subst second (sym split) right)
cut_at first second label word (own ∷ front) rest split left right =
    let head : own ≡ label = cc in
    let tail : word ≡ front ++ rest = cc in
    Within (record { front = front; rest = rest; split = tail; left = subst (λ (l : Label). first (l ∷ front)) head left; right = right })

cut : (first second : Language) (label : Label) (word : List Label) → IsJoined first second (label ∷ word) → Cut first second label word
cut first second label word j = cut_at first second label word j.front j.rest j.split j.left j.right

-- and back
at_front : (first second : Language) (word : List Label) → first [] → second word → IsJoined first second word
at_front first second word left right = record { front = []; rest = word; split = refl; left = left; right = right }

-- where the words may end
pub may_end_is : (e : Expression) (marks : List Bool) → IsTrue (may_end e marks) ↔ GoesOn e marks []
may_end_is (Atom label) marks = (λ test. (test, refl), λ h. h.0)
may_end_is (Seq left right) marks =
    let others = marks_behind left marks in (
      λ test. elim (or_cases (is_nullable right && may_end left marks) (may_end right others) test) [
        | inl both ↦ (let parts = and_parts (is_nullable right) (may_end left marks) both in
            inl (empty_joined (GoesOn left marks) (In right) ((may_end_is left marks).0 parts.1) ((nullable_is right).0 parts.0)))
        | inr b ↦ inr ((may_end_is right others).0 b)
      ],
      λ word. elim word [
        | inl joined ↦ (let sides = empty_sides (GoesOn left marks) (In right) joined in
            or_left (is_nullable right && may_end left marks) (may_end right others)
            (and_from (is_nullable right) (may_end left marks) ((nullable_is right).1 sides.1) ((may_end_is left marks).1 sides.0)))
        | inr rest ↦ or_right (is_nullable right && may_end left marks) (may_end right others) ((may_end_is right others).1 rest)
      ],
    )
may_end_is (Alt left right) marks =
    let others = marks_behind left marks in (
      λ test. elim (or_cases (may_end left marks) (may_end right others) test) [
        | inl a ↦ inl ((may_end_is left marks).0 a)
        | inr b ↦ inr ((may_end_is right others).0 b)
      ],
      λ word. elim word [
        | inl a ↦ or_left (may_end left marks) (may_end right others) ((may_end_is left marks).1 a)
        | inr b ↦ or_right (may_end left marks) (may_end right others) ((may_end_is right others).1 b)
      ],
    )
may_end_is (Star body) marks = (
  λ test. empty_joined (GoesOn body marks) (IsRepeated (In body)) ((may_end_is body marks).0 test) (repeated_none (In body)),
  λ word. (may_end_is body marks).1 (empty_sides (GoesOn body marks) (IsRepeated (In body)) word).0,
)
may_end_is (Plus body) marks = (
  λ test. empty_joined (GoesOn body marks) (IsRepeated (In body)) ((may_end_is body marks).0 test) (repeated_none (In body)),
  λ word. (may_end_is body marks).1 (empty_sides (GoesOn body marks) (IsRepeated (In body)) word).0,
)
may_end_is (Opt body) marks = may_end_is body marks

behind_both : (left right : Expression) (firsts seconds more : List Bool) → marks_behind left (firsts ++ (seconds ++ more)) ≡ seconds ++ more →
    marks_behind right (seconds ++ more) ≡ more → marks_behind right (marks_behind left ((firsts ++ seconds) ++ more)) ≡ more
behind_both left right firsts seconds more a b =
    ap (λ (ms : List Bool). marks_behind right (marks_behind left ms)) (append_assoc firsts seconds more) ∙ ap (marks_behind right) a ∙ b

-- the marks after a label are those of the expression alone
behind_after : (e : Expression) (marks : List Bool) (begins : Bool) (label : Label) (more : List Bool) →
    marks_behind e (marks_after e marks begins label ++ more) ≡ more
behind_after (Atom own) marks begins label more = refl
behind_after (Seq left right) marks begins label more =
    let next = may_end left marks || (begins && is_nullable left) in
    let seconds = marks_after right (marks_behind left marks) next label in
    behind_both left right (marks_after left marks begins label) seconds more
    (behind_after left marks begins label (seconds ++ more)) (behind_after right (marks_behind left marks) next label more)
behind_after (Alt left right) marks begins label more =
    let seconds = marks_after right (marks_behind left marks) begins label in
    behind_both left right (marks_after left marks begins label) seconds more
    (behind_after left marks begins label (seconds ++ more)) (behind_after right (marks_behind left marks) begins label more)
behind_after (Star body) marks begins label more = behind_after body marks (begins || may_end body marks) label more
behind_after (Plus body) marks begins label more = behind_after body marks (begins || may_end body marks) label more
behind_after (Opt body) marks begins label more = behind_after body marks begins label more

-- a word with the label in front begins at the label, where one may, or has begun before
abbrev Begins : Expression → List Bool → Bool → Label → List Label → Type 0
Begins e marks begins label word = (IsTrue begins × In e (label ∷ word)) ⊎ GoesOn e marks (label ∷ word)

forth_atom : (own label : Label) (marks : List Bool) (begins : Bool) (word : List Label) →
    IsTrue (begins && same_label own label) × (word ≡ []) → Begins (Atom own) marks begins label word
forth_atom own label marks begins word (test, none) =
    let parts = and_parts begins (same_label own label) test in
    let same : own ≡ label = (labels own label).0 parts.1 in
    inl (parts.0, ap (λ (w : List Label). label ∷ w) none ∙ ap (λ (l : Label). l ∷ []) (sym same))

back_atom : (own label : Label) (marks : List Bool) (begins : Bool) (word : List Label) →
    Begins (Atom own) marks begins label word → IsTrue (begins && same_label own label) × (word ≡ [])
back_atom own label marks begins word (inl (may, is)) =
    let same : own ≡ label = cc in
    (and_from begins (same_label own label) may ((labels own label).1 same), cc)
back_atom own label marks begins word (inr (mark, none)) = absurd cc

-- a word of a body that is repeated begins where one may begin or end
star_begins : (body : Expression) (marks : List Bool) (begins : Bool) (label : Label) (front rest : List Label) →
    Begins body marks (begins || may_end body marks) label front → IsRepeated (In body) rest → (P : Type 0) →
    (IsTrue begins → In body (label ∷ front) → P) → (IsJoined (GoesOn body marks) (IsRepeated (In body)) (label ∷ front ++ rest) → P) → P
star_begins body marks begins label front rest (inl (may, is)) right P first later =
    elim (or_cases begins (may_end body marks) may) [
      | inl started ↦ first started is
      | inr ends ↦ later (at_front (GoesOn body marks) (IsRepeated (In body)) (label ∷ front ++ rest) ((may_end_is body marks).0 ends)
          (repeated_more (In body) (label ∷ front ++ rest) (record { front = label ∷ front; rest = rest; split = refl; left = ((λ h. cc), is); right = right })))
    ]
star_begins body marks begins label front rest (inr on) right P first later =
    later (record { front = label ∷ front; rest = rest; split = refl; left = on; right = right })

-- and back: a repeated word with the label in front begins with a word of the body
star_more : (body : Expression) (marks : List Bool) (begins : Bool) (label : Label) (word : List Label) (after : List Bool) →
    ((front : List Label) → Begins body marks (begins || may_end body marks) label front → GoesOn body after front) →
    IsTrue (begins || may_end body marks) → IsRepeated (In body) (label ∷ word) → IsJoined (GoesOn body after) (IsRepeated (In body)) word
star_more body marks begins label word after again may repeated =
    elim (repeated_cases (In body) (label ∷ word) repeated) [
      | inl none ↦ absurd cc
      | inr joined ↦ by (cut (nonempty (In body)) (IsRepeated (In body)) label word joined)
    ]
  where
    by : Cut (nonempty (In body)) (IsRepeated (In body)) label word → IsJoined (GoesOn body after) (IsRepeated (In body)) word
    by (AtFront left right) = absurd (left.0 refl)
    by (Within j) = record { front = j.front; rest = j.rest; split = j.split; left = again j.front (inl (may, j.left.1)); right = j.right }

star_on : (body : Expression) (marks : List Bool) (begins : Bool) (label : Label) (word : List Label) (after : List Bool) →
    ((front : List Label) → Begins body marks (begins || may_end body marks) label front → GoesOn body after front) →
    IsJoined (GoesOn body marks) (IsRepeated (In body)) (label ∷ word) → IsJoined (GoesOn body after) (IsRepeated (In body)) word
star_on body marks begins label word after again joined = by (cut (GoesOn body marks) (IsRepeated (In body)) label word joined)
  where
    by : Cut (GoesOn body marks) (IsRepeated (In body)) label word → IsJoined (GoesOn body after) (IsRepeated (In body)) word
    by (AtFront left right) =
        star_more body marks begins label word after again (or_right begins (may_end body marks) ((may_end_is body marks).1 left)) right
    by (Within j) = record { front = j.front; rest = j.rest; split = j.split; left = again j.front (inr j.left); right = j.right }

plus_more : (body : Expression) (marks : List Bool) (begins : Bool) (label : Label) (word : List Label) (after : List Bool) →
    ((front : List Label) → Begins body marks (begins || may_end body marks) label front → GoesOn body after front) →
    IsTrue (begins || may_end body marks) → In (Plus body) (label ∷ word) → IsJoined (GoesOn body after) (IsRepeated (In body)) word
plus_more body marks begins label word after again may joined = by (cut (In body) (IsRepeated (In body)) label word joined)
  where
    by : Cut (In body) (IsRepeated (In body)) label word → IsJoined (GoesOn body after) (IsRepeated (In body)) word
    by (AtFront left right) = star_more body marks begins label word after again may right
    by (Within j) = record { front = j.front; rest = j.rest; split = j.split; left = again j.front (inl (may, j.left)); right = j.right }

-- the words that go on after a label are those that went on with it, and those that may begin with it
mutual
  forth : (e : Expression) (marks : List Bool) (begins : Bool) (label : Label) (more : List Bool) (word : List Label) →
      GoesOn e (marks_after e marks begins label ++ more) word → Begins e marks begins label word
  forth (Atom own) marks begins label more word on = forth_atom own label marks begins word on
  forth (Seq left right) marks begins label more word on =
      let others = marks_behind left marks in
      let next = may_end left marks || (begins && is_nullable left) in
      let firsts = marks_after left marks begins label in
      let seconds = marks_after right others next label in
      elim on [
        | inl j ↦ (elim (forth left marks begins label (seconds ++ more) j.front (subst (λ (ms : List Bool). GoesOn left ms j.front) (append_assoc firsts seconds more) j.left)) [
          | inl a ↦ inl (a.0, record { front = label ∷ j.front; rest = j.rest; split = ap (λ (w : List Label). label ∷ w) j.split; left = a.1; right = j.right })
          | inr g ↦ inr (inl (record { front = label ∷ j.front; rest = j.rest; split = ap (λ (w : List Label). label ∷ w) j.split; left = g; right = j.right }))
        ])
        | inr g ↦ (elim (forth right others next label more word
            (subst (λ (ms : List Bool). GoesOn right ms word) (ap (marks_behind left) (append_assoc firsts seconds more) ∙ behind_after left marks begins label (seconds ++ more)) g)) [
              | inl b ↦ (elim (or_cases (may_end left marks) (begins && is_nullable left) b.0) [
                | inl ends ↦ inr (inl (at_front (GoesOn left marks) (In right) (label ∷ word) ((may_end_is left marks).0 ends) b.1))
                | inr both ↦ (let parts = and_parts begins (is_nullable left) both in
                    inl (parts.0, at_front (In left) (In right) (label ∷ word) ((nullable_is left).0 parts.1) b.1))
              ])
              | inr h ↦ inr (inr h)
            ])
      ]
  forth (Alt left right) marks begins label more word on =
      let others = marks_behind left marks in
      let firsts = marks_after left marks begins label in
      let seconds = marks_after right others begins label in
      elim on [
        | inl g ↦ (elim (forth left marks begins label (seconds ++ more) word (subst (λ (ms : List Bool). GoesOn left ms word) (append_assoc firsts seconds more) g)) [
          | inl a ↦ inl (a.0, inl a.1)
          | inr h ↦ inr (inl h)
        ])
        | inr g ↦ (elim (forth right others begins label more word
            (subst (λ (ms : List Bool). GoesOn right ms word) (ap (marks_behind left) (append_assoc firsts seconds more) ∙ behind_after left marks begins label (seconds ++ more)) g)) [
              | inl b ↦ inl (b.0, inr b.1)
              | inr h ↦ inr (inr h)
            ])
      ]
  forth (Star body) marks begins label more word on =
      subst (λ (w : List Label). Begins (Star body) marks begins label w) (sym on.split)
      (star_begins body marks begins label on.front on.rest (forth body marks (begins || may_end body marks) label more on.front on.left) on.right
      (Begins (Star body) marks begins label (on.front ++ on.rest))
      (λ started is. inl (
        started,
        repeated_more (In body) (label ∷ on.front ++ on.rest)
            (record { front = label ∷ on.front; rest = on.rest; split = refl; left = ((λ h. cc), is); right = on.right }),
      ))
      (λ later. inr later))
  forth (Plus body) marks begins label more word on =
      subst (λ (w : List Label). Begins (Plus body) marks begins label w) (sym on.split)
      (star_begins body marks begins label on.front on.rest (forth body marks (begins || may_end body marks) label more on.front on.left) on.right
      (Begins (Plus body) marks begins label (on.front ++ on.rest))
      (λ started is. inl (started, record { front = label ∷ on.front; rest = on.rest; split = refl; left = is; right = on.right }))
      (λ later. inr later))
  forth (Opt body) marks begins label more word on = elim (forth body marks begins label more word on) [
    | inl a ↦ inl (a.0, inr a.1)
    | inr g ↦ inr g
  ]

  back : (e : Expression) (marks : List Bool) (begins : Bool) (label : Label) (more : List Bool) (word : List Label) →
      Begins e marks begins label word → GoesOn e (marks_after e marks begins label ++ more) word
  back (Atom own) marks begins label more word is = back_atom own label marks begins word is
  back (Seq left right) marks begins label more word is =
      let others = marks_behind left marks in
      let next = may_end left marks || (begins && is_nullable left) in
      let firsts = marks_after left marks begins label in
      let seconds = marks_after right others next label in
      let in_left : (front : List Label) → Begins left marks begins label front → GoesOn left ((firsts ++ seconds) ++ more) front =
      λ front b. subst (λ (ms : List Bool). GoesOn left ms front) (sym (append_assoc firsts seconds more)) (back left marks begins label (seconds ++ more) front b) in
      let in_right : Begins right others next label word → GoesOn right (marks_behind left ((firsts ++ seconds) ++ more)) word =
      λ b. subst (λ (ms : List Bool). GoesOn right ms word)
      (sym (ap (marks_behind left) (append_assoc firsts seconds more) ∙ behind_after left marks begins label (seconds ++ more)))
      (back right others next label more word b) in
      elim is [
        | inl a ↦ (elim (cut (In left) (In right) label word a.1) [
          | AtFront none rest ↦ inr (in_right (inl (or_right (may_end left marks) (begins && is_nullable left) (and_from begins (is_nullable left) a.0 ((nullable_is left).1 none)), rest)))
          | Within j ↦ inl (record { front = j.front; rest = j.rest; split = j.split; left = in_left j.front (inl (a.0, j.left)); right = j.right })
        ])
        | inr on ↦ (elim on [
          | inl joined ↦ (elim (cut (GoesOn left marks) (In right) label word joined) [
            | AtFront none rest ↦ inr (in_right (inl (or_left (may_end left marks) (begins && is_nullable left) ((may_end_is left marks).1 none), rest)))
            | Within j ↦ inl (record { front = j.front; rest = j.rest; split = j.split; left = in_left j.front (inr j.left); right = j.right })
          ])
          | inr h ↦ inr (in_right (inr h))
        ])
      ]
  back (Alt left right) marks begins label more word is =
      let others = marks_behind left marks in
      let firsts = marks_after left marks begins label in
      let seconds = marks_after right others begins label in
      let in_left : Begins left marks begins label word → GoesOn left ((firsts ++ seconds) ++ more) word =
      λ b. subst (λ (ms : List Bool). GoesOn left ms word) (sym (append_assoc firsts seconds more)) (back left marks begins label (seconds ++ more) word b) in
      let in_right : Begins right others begins label word → GoesOn right (marks_behind left ((firsts ++ seconds) ++ more)) word =
      λ b. subst (λ (ms : List Bool). GoesOn right ms word)
      (sym (ap (marks_behind left) (append_assoc firsts seconds more) ∙ behind_after left marks begins label (seconds ++ more)))
      (back right others begins label more word b) in
      elim is [
        | inl a ↦ (elim a.1 [ inl first ↦ inl (in_left (inl (a.0, first))) | inr second ↦ inr (in_right (inl (a.0, second))) ])
        | inr on ↦ (elim on [ inl g ↦ inl (in_left (inr g)) | inr h ↦ inr (in_right (inr h)) ])
      ]
  back (Star body) marks begins label more word is =
      let after = marks_after body marks (begins || may_end body marks) label ++ more in
      let again : (front : List Label) → Begins body marks (begins || may_end body marks) label front → GoesOn body after front =
      back body marks (begins || may_end body marks) label more in
      elim is [
        | inl a ↦ star_more body marks begins label word after again (or_left begins (may_end body marks) a.0) a.1
        | inr on ↦ star_on body marks begins label word after again on
      ]
  back (Plus body) marks begins label more word is =
      let after = marks_after body marks (begins || may_end body marks) label ++ more in
      let again : (front : List Label) → Begins body marks (begins || may_end body marks) label front → GoesOn body after front =
      back body marks (begins || may_end body marks) label more in
      elim is [
        | inl a ↦ plus_more body marks begins label word after again (or_left begins (may_end body marks) a.0) a.1
        | inr on ↦ star_on body marks begins label word after again on
      ]
  back (Opt body) marks begins label more word is = elim is [
    | inl a ↦ (elim a.1 [ inl none ↦ absurd cc | inr first ↦ back body marks begins label more word (inl (a.0, first)) ])
    | inr on ↦ back body marks begins label more word (inr on)
  ]

-- no word has begun before where there are no marks
none_behind : (e : Expression) → marks_behind e [] ≡ []
none_behind (Atom own) = refl
none_behind (Seq left right) = ap (marks_behind right) (none_behind left) ∙ none_behind right
none_behind (Alt left right) = ap (marks_behind right) (none_behind left) ∙ none_behind right
none_behind (Star body) = none_behind body
none_behind (Plus body) = none_behind body
none_behind (Opt body) = none_behind body

none_begun : (e : Expression) (word : List Label) → GoesOn e [] word → ⊥
none_begun (Atom own) word on = false≢true on.0
none_begun (Seq left right) word (inl j) = none_begun left j.front j.left
none_begun (Seq left right) word (inr g) = none_begun right word (subst (λ (ms : List Bool). GoesOn right ms word) (none_behind left) g)
none_begun (Alt left right) word (inl g) = none_begun left word g
none_begun (Alt left right) word (inr g) = none_begun right word (subst (λ (ms : List Bool). GoesOn right ms word) (none_behind left) g)
none_begun (Star body) word j = none_begun body j.front j.left
none_begun (Plus body) word j = none_begun body j.front j.left
none_begun (Opt body) word on = none_begun body word on

-- the rest completes the word so far to a word of the expression just where the whole word is one
pub record Stands (e : Expression) (marks : List Bool) (rest word : List Label) : Type 0 where
  pub forth : GoesOn e marks rest → In e word
  pub back : In e word → GoesOn e marks rest

pub first_label : (e : Expression) (label : Label) (rest : List Label) → Stands e (marks_after e [] true label) rest (label ∷ rest)
first_label e label rest = record {
  forth = λ on. elim (forth e [] true label [] rest (subst (λ (ms : List Bool). GoesOn e ms rest) (sym (append-nil (marks_after e [] true label))) on)) [
    | inl a ↦ a.1
    | inr g ↦ absurd (none_begun e (label ∷ rest) g)
  ];
  back = λ is. subst (λ (ms : List Bool). GoesOn e ms rest) (append-nil (marks_after e [] true label)) (back e [] true label [] rest (inl (refl, is)));
}

pub next_label : (e : Expression) (marks : List Bool) (label : Label) (rest word : List Label) → Stands e marks (label ∷ rest) word →
    Stands e (marks_after e marks false label) rest word
next_label e marks label rest word s = record {
  forth = λ on. elim (forth e marks false label [] rest (subst (λ (ms : List Bool). GoesOn e ms rest) (sym (append-nil (marks_after e marks false label))) on)) [
    | inl a ↦ absurd (false≢true a.0)
    | inr g ↦ s.forth g
  ];
  back = λ is. subst (λ (ms : List Bool). GoesOn e ms rest) (append-nil (marks_after e marks false label)) (back e marks false label [] rest (inr (s.back is)));
}

at_end : (e : Expression) (marks : List Bool) (word : List Label) → Stands e marks [] word → IsTrue (may_end e marks) ↔ In e word
at_end e marks word s = (λ test. s.forth ((may_end_is e marks).0 test), λ is. (may_end_is e marks).1 (s.back is))

-- the first label of a word, and those behind it
pub begun : (e : Expression) (word : List Label) (first : Label) (marks : List Bool) → 1 ≤ length word → first ≡ get_or word 0 first →
    marks ≡ marks_after e [] true first → Stands e marks (take (length word - 1) (drop 1 word)) word
begun e [] first marks some is after = absurd (omega arith)
begun e (label ∷ word) first marks some is after =
    let all : take (length (label ∷ word) - 1) word ≡ word = take_all (length (label ∷ word) - 1) word (omega arith) in
    subst (λ (ms : List Bool). Stands e ms (take (length (label ∷ word) - 1) word) (label ∷ word)) (sym after)
    (subst (λ (rest : List Label). Stands e (marks_after e [] true first) rest (label ∷ word)) (sym all)
    (subst (λ (l : Label). Stands e (marks_after e [] true first) word (l ∷ word)) is (first_label e first word)))

-- one more label
pub moved : (e : Expression) (marks slice after : List Bool) (rest word : List Label) (i : ℕ) (label : Label) → i < length rest →
    label ≡ get_or rest i label → slice ≡ marks → after ≡ marks_after e slice false label → Stands e marks (drop i rest) word →
    Stands e after (drop (i + 1) rest) word
moved e marks slice after rest word i label below is same then stands =
    let split : drop i rest ≡ label ∷ drop (i + 1) rest = rw (add-one, drop-cons rest i label) (ap (λ (l : Label). l ∷ drop (suc i) rest) (sym is)) in
    subst (λ (ms : List Bool). Stands e ms (drop (i + 1) rest) word) (sym (then ∙ ap (λ (ms : List Bool). marks_after e ms false label) same))
    (next_label e marks label (drop (i + 1) rest) word (subst (λ (left : List Label). Stands e marks left word) split stands))

-- no more label
pub ended : (e : Expression) (marks slice : List Bool) (rest word : List Label) (i : ℕ) (test : Bool) → length rest ≤ i → slice ≡ marks →
    test ≡ may_end e slice → Stands e marks (drop i rest) word → IsTrue test ↔ In e word
ended e marks slice rest word i test over same is stands =
    subst (λ (t : Bool). IsTrue t ↔ In e word) (sym (is ∙ ap (may_end e) same))
    (at_end e marks word (subst (λ (left : List Label). Stands e marks left word) (drop_all i rest over) stands))
