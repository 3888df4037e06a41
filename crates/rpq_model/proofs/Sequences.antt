-- What a sequence, a repetition and an optional join.
use Rattle.std.proofs.Common.{◌≡◌, ◌≢◌, ℕ, List, [], ◌∷◌, ◌++◌, refl, sym, ap, subst, ◌∙◌, ◌⊎◌, inl, inr, ⊎_elim}
use Rattle.std.specs.Prelude.{◌↔◌, All, Contains}
use Rattle.std.specs.List.{flat_map}
use Rattle.std.proofs.lemmas.List.{append-nil}
use Rattle.std.proofs.lemmas.List.Elements.{All-cons, All-nil, All-head, All-tail}
use Rattle.rpq_base.specs.declared.data.Label.{Label}
use Rattle.rpq_base.specs.declared.data.Edge.{Edge}
use Rattle.rpq_base.specs.declared.data.Pair.{Pair}
use Rattle.path_syntax.specs.Language.{IsRepeated, IsJoined as IsOneThenOther}
use Rattle.rpq_model.specs.declared.mode.Mode.TheVariants.{Arbitrary}
use Rattle.rpq_model.specs.Path.{IsPath, word_of}
use Rattle.rpq_model.specs.Answers.{IsJoinedBy}
use Rattle.rpq_model.specs.Relations.{between, LeadsOver, IsReached}
use Rattle.rpq_model.proofs.Paths.{word_on, path_on, cut, some_word, front_path, rest_path, joined_by, joined_same}

-- ---- empty words

-- a list is empty or not
empty_or_some : (word : List Label) → (word ≡ []) ⊎ (word ≢ [])
empty_or_some [] = inl refl
empty_or_some (label ∷ word) = inr (λ e. cc)

-- the empty word is repeated
pub empty_repeated : (language : List Label → Type 0) → IsRepeated language []
empty_repeated language = record { parts = []; joined = refl; nonempty = All-nil (λ part. part ≢ []); within = All-nil language }

-- ---- one path and then another

-- two paths join what their vertices do
pub joined_on : (edges : List Edge) (left right : List Label → Type 0) (from middle to : List ℕ) →
    IsJoinedBy edges left Arbitrary (between from middle) → IsJoinedBy edges right Arbitrary (between middle to) → IsJoinedBy edges
    (IsOneThenOther left right) Arbitrary (between from to)
joined_on edges left right from middle to first second =
    let path = first.0 in
    let more = second.0 in (
      path ++ more,
      record {
        leads = path_on edges from middle to path more first.1.leads second.1.leads;
        word = record { front = word_of path; rest = word_of more; split = word_on path more; left = first.1.word; right = second.1.word };
        taken = tt;
      },
    )

-- the pair is joined by a path of each side, or by a path of one where the other may be left out
abbrev pub IsInSequence : List Edge → (List Label → Type 0) → (List Label → Type 0) → List ℕ → List ℕ → Type 0
IsInSequence edges left right from to =
    (((middle : List ℕ) × IsJoinedBy edges left Arbitrary (between from middle) × IsJoinedBy edges right Arbitrary (between middle to))
    ⊎ (right [] × IsJoinedBy edges left Arbitrary (between from to)))
    ⊎ (left [] × IsJoinedBy edges right Arbitrary (between from to))

-- a path whose word is cut
cut_cases : (edges : List Edge) (left right : List Label → Type 0) (from to : List ℕ) (path : List Edge) (leads : IsPath edges from path to)
    (joined : IsOneThenOther left right (word_of path)) → IsInSequence edges left right from to
cut_cases edges left right from to path leads joined =
    let front = joined.front in
    let rest = joined.rest in
    let parts = cut front rest path edges from to leads.members leads.leads joined.split in
    ⊎_elim
    (λ no_front. inr (
      subst left no_front joined.left,
      joined_by edges right from to path rest leads (joined.split ∙ ap (λ (word : List Label). word ++ rest) no_front) joined.right,
    ))
    (λ some_front. ⊎_elim
    (λ no_rest. inl (inr (
      subst right no_rest joined.right,
      joined_by edges left from to path front leads (joined.split ∙ (ap (λ (word : List Label). front ++ word) no_rest ∙ append-nil front)) joined.left,
    )))
    (λ some_rest. inl (inl (
      parts.middle,
      joined_by edges left from parts.middle parts.front front (front_path edges from to front rest parts some_front) parts.front_word joined.left,
      joined_by edges right parts.middle to parts.rest rest (rest_path edges from to front rest parts some_rest) parts.rest_word joined.right,
    )))
    (empty_or_some rest))
    (empty_or_some front)

-- what a sequence joins
pub sequence_joins : (edges : List Edge) (left right : List Label → Type 0) (pair : Pair) →
    IsJoinedBy edges (IsOneThenOther left right) Arbitrary pair ↔ IsInSequence edges left right pair.from pair.to
sequence_joins edges left right pair = (
  (λ joined. cut_cases edges left right pair.from pair.to joined.0 joined.1.leads joined.1.word),
  (λ either. ⊎_elim
      (λ first. ⊎_elim
      (λ both. joined_on edges left right pair.from both.0 pair.to both.1 both.2)
      (λ alone. joined_same edges Arbitrary left (IsOneThenOther left right)
      (λ word some within. record { front = word; rest = []; split = sym (append-nil word); left = within; right = alone.0 }) pair alone.1)
      first)
      (λ alone. joined_same edges Arbitrary right (IsOneThenOther left right)
      (λ word some within. record { front = []; rest = word; split = refl; left = alone.0; right = within }) pair alone.1)
      either),
)

-- ---- one or more paths

-- one word more in front of a repetition
pub one_more_part : (language : List Label → Type 0) (first rest : List Label) → first ≢ [] → language first → IsRepeated language rest →
    IsRepeated language (first ++ rest)
one_more_part language first rest some within repeated = record {
  parts = first ∷ repeated.parts;
  joined = ap (λ (word : List Label). first ++ word) repeated.joined;
  nonempty = All-cons (λ part. part ≢ []) first repeated.parts some repeated.nonempty;
  within = All-cons language first repeated.parts within repeated.within;
}

-- a word alone is repeated
one_part : (language : List Label → Type 0) (word : List Label) → word ≢ [] → language word → IsRepeated language word
one_part language word some within = subst (IsRepeated language) (append-nil word) (one_more_part language word [] some within (empty_repeated language))

-- a chain of pairs that the language joins is joined by a repetition
repeated_from_chain : (vertices : List (List ℕ)) (edges : List Edge) (language : List Label → Type 0) (pairs : List Pair) (from to : List ℕ) →
    ((pair : Pair) → Contains pairs pair → IsJoinedBy edges language Arbitrary pair) → LeadsOver pairs from vertices to → IsJoinedBy edges
    (IsRepeated language) Arbitrary (between from to)
repeated_from_chain [] edges language pairs from to joins leads =
    joined_same edges Arbitrary language (IsRepeated language) (one_part language) (between from to) (joins (between from to) leads)
repeated_from_chain (vertex ∷ vertices) edges language pairs from to joins leads =
    let first = joins (between from vertex) leads.0 in
    let further = repeated_from_chain vertices edges language pairs vertex to joins leads.1 in
    let path = first.0 in
    let more = further.0 in (
      path ++ more,
      record {
        leads = path_on edges from vertex to path more first.1.leads further.1.leads;
        word = subst (IsRepeated language) (sym (word_on path more))
            (one_more_part language (word_of path) (word_of more) (some_word path first.1.leads.some) first.1.word further.1.word);
        taken = tt;
      },
    )

-- a path whose word is a repetition goes along a chain
chain_from_parts : (parts : List (List Label)) (edges : List Edge) (language : List Label → Type 0) (pairs : List Pair) (from to : List ℕ) (path : List Edge) →
    ((pair : Pair) → IsJoinedBy edges language Arbitrary pair → Contains pairs pair) → IsPath edges from path to → word_of path ≡ flat_map
    (λ part. part) parts →
    All (λ part. part ≢ []) parts → All language parts → (vertices : List (List ℕ)) × LeadsOver pairs from vertices to
chain_from_parts [] edges language pairs from to path among leads word some within = absurd (some_word path leads.some word)
chain_from_parts (first ∷ parts) edges language pairs from to path among leads word some within =
    let rest = flat_map (λ (part : List Label). part) parts in
    let some_first = All-head (λ (part : List Label). part ≢ []) first parts some in
    let in_first = All-head language first parts within in
    ⊎_elim
    (λ no_rest. (
      [],
      among (between from to)
          (joined_by edges language from to path first leads (word ∙ (ap (λ (later : List Label). first ++ later) no_rest ∙ append-nil first)) in_first),
    ))
    (λ some_rest.
    let two = cut first rest path edges from to leads.members leads.leads word in
    let further = chain_from_parts parts edges language pairs two.middle to two.rest among (rest_path edges from to first rest two some_rest) two.rest_word
    (All-tail (λ (part : List Label). part ≢ []) first parts some) (All-tail language first parts within) in (
      two.middle ∷ further.0,
      (
        among (between from two.middle)
            (joined_by edges language from two.middle two.front first (front_path edges from to first rest two some_first) two.front_word in_first),
        further.1,
      ),
    ))
    (empty_or_some rest)

-- what a star joins is what is reached
pub star_joins : (edges : List Edge) (language : List Label → Type 0) (pairs : List Pair) →
    ((pair : Pair) → Contains pairs pair ↔ IsJoinedBy edges language Arbitrary pair) →
    (pair : Pair) → IsReached pairs pair ↔ IsJoinedBy edges (IsRepeated language) Arbitrary pair
star_joins edges language pairs exact pair = (
  (λ reached. repeated_from_chain reached.0 edges language pairs pair.from pair.to (λ each. (exact each).0) reached.1),
  (λ joined.
      let repeated = joined.1.word in
      chain_from_parts repeated.parts edges language pairs pair.from pair.to joined.0
      (λ each. (exact each).1) joined.1.leads repeated.joined repeated.nonempty repeated.within),
)

-- a nonempty word of a star begins with a word of the body
first_part : (parts : List (List Label)) (language : List Label → Type 0) (word : List Label) → word ≢ [] → word ≡ flat_map (λ part. part) parts →
    All (λ part. part ≢ []) parts → All language parts → IsOneThenOther language (IsRepeated language) word
first_part [] language word some joined nonempty within = absurd (some joined)
first_part (first ∷ parts) language word some joined nonempty within = record {
  front = first;
  rest = flat_map (λ part. part) parts;
  split = joined;
  left = All-head language first parts within;
  right = record {
    parts = parts;
    joined = refl;
    nonempty = All-tail (λ part. part ≢ []) first parts nonempty;
    within = All-tail language first parts within;
  };
}

-- a word of a plus is one of the star
plus_in_star : (language : List Label → Type 0) (word : List Label) → IsOneThenOther language (IsRepeated language) word → IsRepeated language word
plus_in_star language word joined = subst (IsRepeated language) (sym joined.split) (⊎_elim
    (λ no_front. subst (λ (front : List Label). IsRepeated language (front ++ joined.rest)) (sym no_front) joined.right)
    (λ some_front. one_more_part language joined.front joined.rest some_front joined.left joined.right)
    (empty_or_some joined.front))

-- so a plus joins what the star does
pub plus_joins : (edges : List Edge) (language : List Label → Type 0) (pair : Pair) →
    IsJoinedBy edges (IsRepeated language) Arbitrary pair ↔ IsJoinedBy edges (IsOneThenOther language (IsRepeated language)) Arbitrary pair
plus_joins edges language pair = (
  joined_same edges Arbitrary (IsRepeated language) (IsOneThenOther language (IsRepeated language))
      (λ word some repeated. first_part repeated.parts language word some repeated.joined repeated.nonempty repeated.within) pair,
  joined_same edges Arbitrary (IsOneThenOther language (IsRepeated language)) (IsRepeated language)
      (λ word some joined. plus_in_star language word joined) pair,
)

-- an optional joins what its body does
pub optional_joins : (edges : List Edge) (language : List Label → Type 0) (pair : Pair) →
    IsJoinedBy edges language Arbitrary pair ↔ IsJoinedBy edges (λ word. (word ≡ []) ⊎ language word) Arbitrary pair
optional_joins edges language pair = (
  joined_same edges Arbitrary language (λ word. (word ≡ []) ⊎ language word) (λ word some within. inr within) pair,
  joined_same edges Arbitrary (λ word. (word ≡ []) ⊎ language word) language (λ word some either. ⊎_elim (λ e. absurd (some e)) (λ within. within) either) pair,
)

-- an alternative joins what its sides do
pub alternative_joins : (edges : List Edge) (left right : List Label → Type 0) (pair : Pair) →
    (IsJoinedBy edges left Arbitrary pair ⊎ IsJoinedBy edges right Arbitrary pair) ↔ IsJoinedBy edges (λ word. left word ⊎ right word) Arbitrary pair
alternative_joins edges left right pair = (
  ⊎_elim
      (joined_same edges Arbitrary left (λ word. left word ⊎ right word) (λ word some within. inl within) pair)
      (joined_same edges Arbitrary right (λ word. left word ⊎ right word) (λ word some within. inr within) pair),
  (λ joined.
      let joins = joined.1 in
      ⊎_elim
      (λ within. inl (joined.0, record { leads = joins.leads; word = within; taken = tt }))
      (λ within. inr (joined.0, record { leads = joins.leads; word = within; taken = tt }))
      joins.word),
)
