-- Lines and loops that spell words, over distinct names.
use Rattle.std.proofs.Common.{◌≡◌, ◌≢◌, ℕ, suc, ◌+◌, ◌-◌, ◌≤◌, List, [], ◌∷◌, ◌++◌, take, drop}
use Rattle.std.proofs.Common.{length, refl, sym, ap, subst, ◌∙◌, arith}
use Rattle.std.specs.Prelude.{Contains}
use Rattle.std.proofs.lemmas.List.{length-append, length-take, length-drop, length_push}
use Rattle.std.proofs.lemmas.List.{append_assoc, take-append-drop, take_all, same_from_push}
use Rattle.std.proofs.lemmas.List.Elements.{All-nil, All-contains_itself}
use Rattle.rpq_base.specs.declared.data.Label.{Label}
use Rattle.rpq_base.specs.declared.data.Edge.{Edge}
use Rattle.rpq_model.specs.declared.mode.Mode.TheVariants.{Arbitrary, Simple}
use Rattle.rpq_model.specs.Path.{Leads, word_of}
use Rattle.rpq_model.specs.Answers.{IsJoinedBy}
use Rattle.rpq_model.proofs.Paths.{leads_on, word_on}
use Rattle.containment_test.specs.Containment.{Shows}
use Rattle.containment_test.proofs.Words.{not_empty}
use Rattle.containment_laws.specs.Lines.{AreDistinct, line_of, end_of, loop_of, line_loop_line}
use Rattle.containment_laws.proofs.Distinct.{targets_of, front_distinct, sources_of, vertices_are}
use Rattle.containment_laws.proofs.Turning.{AreShaped, only_path}

-- ---- lines that spell words

-- a line leads to its end
line_leads : (word : List Label) (names : List (List ℕ)) (from : List ℕ) →
    Leads from (line_of from word names) (end_of from (line_of from word names))
line_leads [] names from = refl
line_leads (label ∷ word) [] from = refl
line_leads (label ∷ word) (name ∷ names) from = (refl, line_leads word names name)

-- its word is the given one, if the names are enough
line_word : (word : List Label) (names : List (List ℕ)) (from : List ℕ) →
    length word ≤ length names → word_of (line_of from word names) ≡ word
line_word [] names from enough = refl
line_word (label ∷ word) [] from enough = absurd (omega (arith, enough))
line_word (label ∷ word) (name ∷ names) from enough =
    ap (λ (rest : List Label). label ∷ rest) (line_word word names name (omega (arith, enough)))

-- its edges lead to the names, one after another
line_targets : (word : List Label) (names : List (List ℕ)) (from : List ℕ) →
    targets_of (line_of from word names) ≡ take (length word) names
line_targets [] names from = refl
line_targets (label ∷ word) [] from = refl
line_targets (label ∷ word) (name ∷ names) from =
    ap (λ (rest : List (List ℕ)). name ∷ rest) (line_targets word names name)

-- its vertices are the first one and the names
line_vertices : (word : List Label) (names : List (List ℕ)) (from : List ℕ) →
    sources_of (line_of from word names) ++ end_of from (line_of from word names) ∷ []
    ≡ from ∷ take (length word) names
line_vertices word names from =
    let line = line_of from word names in
    sym (vertices_are line from (end_of from line) (line_leads word names from))
    ∙ ap (λ (rest : List (List ℕ)). from ∷ rest) (line_targets word names from)

-- some labels are at least one
some_length : (word : List Label) → word ≢ [] → 1 ≤ length word
some_length [] some = absurd (some refl)
some_length (label ∷ word) some = omega arith

-- a loop comes back, over as many other vertices as it has labels but one
loop_length : (word : List Label) (names : List (List ℕ)) (vertex : List ℕ) → word ≢ [] →
    length word - 1 ≤ length names →
    length (take (length word - 1) names ++ vertex ∷ []) ≡ length word
loop_length word names vertex some enough =
    let one_more = length_push (take (length word - 1) names) vertex in
    omega (arith, some_length word some, enough, one_more, length-take (length word - 1) names)

-- its edges lead from its vertex and the names, and its end is its vertex
loop_vertices : (word : List Label) (names : List (List ℕ)) (vertex : List ℕ) → word ≢ [] →
    length word - 1 ≤ length names →
    (sources_of (loop_of vertex word names) ≡ vertex ∷ take (length word - 1) names)
    × (end_of vertex (loop_of vertex word names) ≡ vertex)
loop_vertices word names vertex some enough =
    let around = take (length word - 1) names in
    let loop = loop_of vertex word names in
    let all : take (length word) (around ++ vertex ∷ []) ≡ around ++ vertex ∷ [] =
    take_all (length word) (around ++ vertex ∷ [])
    (omega (arith, loop_length word names vertex some enough)) in
    same_from_push (sources_of loop) (vertex ∷ around) (end_of vertex loop) vertex
    (line_vertices word (around ++ vertex ∷ []) vertex
    ∙ ap (λ (rest : List (List ℕ)). vertex ∷ rest) all)

-- ---- the words of a triple, over distinct names

-- the names are enough for the three words, and the second isn't empty
pub record IsEnough (p q w : List Label) (names : List (List ℕ)) : Type 0 where
  pub some : q ≢ []
  pub for_p : length p ≤ length names
  pub for_q : length q - 1 ≤ length (drop (length p) names)
  pub for_w : length w ≤ length (drop (length q - 1) (drop (length p) names))

-- so they are where there are as many vertices as labels
pub is_enough : (p q w : List Label) (names : List (List ℕ)) → q ≢ [] →
    length (p ++ (q ++ w)) ≤ suc (length names) → IsEnough p q w names
is_enough p q w names some long =
    let all : length p + (length q + length w) ≤ suc (length names) =
    omega (arith, long, length-append p (q ++ w), length-append q w) in
    let label = some_length q some in
    let left = length-drop (length p) names in
    record {
      some = some;
      for_p = omega (arith, all, label);
      for_q = omega (arith, all, label, left);
      for_w = omega (arith, all, label, left, length-drop (length q - 1) (drop (length p) names));
    }

-- edges that lead to a vertex end there
led_to : (path : List Edge) (from to : List ℕ) → Leads from path to → end_of from path ≡ to
led_to [] from to leads = leads
led_to (edge ∷ path) from to leads = led_to path edge.to to leads.1

-- the two lines, the loop between them, and the names that each takes
module _ (p q w : List Label) (first : List ℕ) (names : List (List ℕ))
    (enough : IsEnough p q w names) where
  abbrev before : List Edge
  before = line_of first p names

  abbrev turn : List ℕ
  turn = end_of first before

  abbrev left : List (List ℕ)
  left = drop (length p) names

  abbrev loop : List Edge
  loop = loop_of turn q left

  abbrev left_then : List (List ℕ)
  left_then = drop (length q - 1) left

  abbrev after : List Edge
  after = line_of turn w left_then

  abbrev pub last : List ℕ
  last = end_of turn after

  abbrev around : List (List ℕ)
  around = take (length q - 1) left

  abbrev along : List (List ℕ)
  along = take (length w) left_then

  -- the loop spells q, and so has an edge
  loop_word : word_of loop ≡ q
  loop_word = line_word q (around ++ turn ∷ []) turn
      (omega (arith, loop_length q left turn enough.some enough.for_q))

  some_loop_edge : loop ≢ []
  some_loop_edge none = enough.some (sym loop_word ∙ ap word_of none)

  -- the vertices are the first names, in order
  all_names : (take (length p) names ++ (around ++ along)) ++ drop (length w) left_then ≡ names
  all_names =
      append_assoc (take (length p) names) (around ++ along) (drop (length w) left_then)
      ∙ (ap (λ (rest : List (List ℕ)). take (length p) names ++ rest)
      (append_assoc around along (drop (length w) left_then)
      ∙ (ap (λ (rest : List (List ℕ)). around ++ rest) (take-append-drop (length w) left_then)
      ∙ take-append-drop (length q - 1) left))
      ∙ take-append-drop (length p) names)

  shape_names : sources_of before ++ (sources_of loop ++ targets_of after)
      ≡ (first ∷ take (length p) names) ++ (around ++ along)
  shape_names =
      ap (λ (sources : List (List ℕ)). sources_of before ++ (sources ++ targets_of after))
      (loop_vertices q left turn enough.some enough.for_q).0
      ∙ (ap (λ (targets : List (List ℕ)). sources_of before ++ ((turn ∷ around) ++ targets))
      (line_targets w left_then turn)
      ∙ (sym (append_assoc (sources_of before) (turn ∷ []) (around ++ along))
      ∙ ap (λ (front : List (List ℕ)). front ++ (around ++ along)) (line_vertices p names first)))

  -- so they differ
  names_shaped : AreDistinct (first ∷ names) → AreShaped before loop after first turn last
  names_shaped distinct = record {
    before_leads = line_leads p names first;
    loop_leads = subst (λ (end : List ℕ). Leads turn loop end)
        (loop_vertices q left turn enough.some enough.for_q).1
        (line_leads q (around ++ turn ∷ []) turn);
    after_leads = line_leads w left_then turn;
    distinct = subst AreDistinct (sym shape_names)
        (front_distinct ((first ∷ take (length p) names) ++ (around ++ along))
        (drop (length w) left_then)
        (subst AreDistinct (ap (λ (rest : List (List ℕ)). first ∷ rest) (sym all_names)) distinct));
  }

  -- the word with the loop, and without
  whole_word : word_of (before ++ (loop ++ after)) ≡ p ++ (q ++ w)
  whole_word =
      word_on before (loop ++ after)
      ∙ (ap (λ (rest : List Label). word_of before ++ rest) (word_on loop after)
      ∙ λ i.
      line_word p names first enough.for_p i
      ++ (loop_word i ++ line_word w left_then turn enough.for_w i))

  short_word : word_of (before ++ after) ≡ p ++ w
  short_word = word_on before after
      ∙ λ i. line_word p names first enough.for_p i ++ line_word w left_then turn enough.for_w i

  -- the edges lead from the first vertex to the last, one after another
  all_lead : AreDistinct (first ∷ names) → Leads first (before ++ (loop ++ after)) last
  all_lead distinct =
      let shaped = names_shaped distinct in
      leads_on before (loop ++ after) first turn last shaped.before_leads
      (leads_on loop after turn turn last shaped.loop_leads shaped.after_leads)

  -- so the last is their end
  pub end_is_last : AreDistinct (first ∷ names) →
      end_of first (line_loop_line first names p q w) ≡ last
  end_is_last distinct = led_to (before ++ (loop ++ after)) first last (all_lead distinct)

  -- the whole list of edges is a path, with the loop
  pub all_join : (language : List Label → Type 0) → Shows language p q w →
      AreDistinct (first ∷ names) →
      IsJoinedBy (line_loop_line first names p q w) language Arbitrary
      (record { from = first; to = last })
  all_join language shows distinct = (
    before ++ (loop ++ after),
    record {
      leads = record {
        some = λ none. not_empty p q w shows.some (sym whole_word ∙ ap word_of none);
        members = All-contains_itself (before ++ (loop ++ after));
        leads = all_lead distinct;
      };
      word = subst language (sym whole_word) shows.inside;
      taken = tt;
    },
  )

  -- no simple path has a word of the language
  pub none_simple : (language : List Label → Type 0) → Shows language p q w →
      AreDistinct (first ∷ names) →
      IsJoinedBy (line_loop_line first names p q w) language Simple
      (record { from = first; to = last }) → ⊥
  none_simple language shows distinct joined =
      let joins = joined.1 in
      let is = only_path before loop after joined.0 first turn last (names_shaped distinct)
      some_loop_edge joins.leads.members joins.leads.leads joins.taken in
      shows.outside (subst language (ap word_of is ∙ short_word) joins.word)

  -- the two vertices differ: else no edge at all would lead from one to the other
  pub ends_differ : p ++ w ≢ [] → AreDistinct (first ∷ names) → first ≢ last
  ends_differ some distinct same =
      let is = only_path before loop after [] first turn last (names_shaped distinct) some_loop_edge
      (All-nil (Contains (before ++ (loop ++ after)))) same
      (λ i j d below within. absurd (omega (arith, below, within))) in
      some (sym short_word ∙ ap word_of (sym is))
