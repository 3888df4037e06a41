-- The sets that the construction finds are those that nonempty words reach.
use Rattle.std.proofs.Common.{◌≡◌, ℕ, ◌<◌, List, [], ◌∷◌, ◌++◌, length, Some, sym, ◌∙◌, ⊎_elim, arith}
use Rattle.std.specs.Prelude.{◌↔◌, IsTrue}
use Rattle.std.specs.List.{slice_get}
use Rattle.std.proofs.lemmas.Bool.{and_parts, and_from}
use Rattle.std.proofs.lemmas.Option.{slice_get_cases}
use Rattle.rpq_base.specs.declared.data.Label.{Label}
use Rattle.dfa_build.specs.declared.position_set.PositionSet.{PositionSet}
use Rattle.dfa_build.specs.PositionSet.{has}
use Rattle.dfa_build.specs.Positions.{PositionsValue, ArePositions}
use Rattle.dfa_build.specs.StateSets.{set_at, HasSome, AreSetsOf, IsCut, IsAfter, IsFound, FromStart, FromSet}
use Rattle.dfa_build.specs.Subset.{Reaches}
use Rattle.dfa_build.proofs.ReachedWords.{Enters, one_label_more, reached_is_place}

-- what the construction works with
pub record AreMoves (positions : PositionsValue) (labels : List Label) (first last : PositionSet) (follow masks : List PositionSet) : Type 0 where
  pub are : ArePositions positions
  pub sets : AreSetsOf positions labels first last follow masks

-- the set has the positions that the word reaches
abbrev pub IsSetOf : PositionsValue → List Label → PositionSet → Type 0
IsSetOf positions word set = (position : ℕ) → IsTrue (has set position) ↔ Reaches positions word position

-- the set has the positions that may stand after the word
abbrev pub IsEntry : PositionsValue → List Label → PositionSet → Type 0
IsEntry positions word reach = (position : ℕ) → IsTrue (has reach position) ↔ Enters positions word position

-- a cut of what may stand after a word has what the word with one label more reaches
pub cut_is_set : (positions : PositionsValue) (labels : List Label) (first last : PositionSet) (follow masks : List PositionSet) →
    AreMoves positions labels first last follow masks →
    (word : List Label) (label : Label) (place : ℕ) (reach set : PositionSet) → place < length labels → slice_get labels place ≡ Some label →
    IsEntry positions word reach → IsCut reach (set_at masks place) set → IsSetOf positions (word ++ label ∷ []) set
cut_is_set positions labels first last follow masks moves word label place reach set below is entry cut position =
    let more = one_label_more positions word label position moves.are in
    let mask = moves.sets.mask place position below in (
      (λ member.
          let parts = and_parts (has reach position) (has (set_at masks place) position) (sym (cut position) ∙ member) in
          more.1 (mask.0 parts.1 ∙ is, (entry position).0 parts.0)),
      (λ reaches.
          let both = more.0 reaches in
          cut position ∙ and_from (has reach position) (has (set_at masks place) position) ((entry position).1 both.1) (mask.1 (both.0 ∙ sym is))),
    )

-- what a set leads to may stand after its words
pub after_is_entry : (positions : PositionsValue) (labels : List Label) (first last : PositionSet) (follow masks : List PositionSet) →
    AreMoves positions labels first last follow masks →
    (label : Label) (word : List Label) (set reach : PositionSet) → IsSetOf positions (label ∷ word) set → IsAfter follow set reach →
    IsEntry positions (label ∷ word) reach
after_is_entry positions labels first last follow masks moves label word set reach is leads next = (
  (λ member.
      let from = (leads next).0 member in
      (from.0, (is from.0).0 from.2, (moves.sets.follows from.0 next (omega (arith, from.1, moves.sets.as_many_rows))).0 from.3)),
  (λ enters.
      let within = reached_is_place positions (label ∷ word) enters.0 moves.are enters.1 in
      let below : enters.0 < length follow = omega (arith, within, moves.sets.as_many_rows, moves.are.rows) in
      (leads next).1 (enters.0, below, (is enters.0).1 enters.1, (moves.sets.follows enters.0 next (omega (arith, below, moves.sets.as_many_rows))).1 enters.2)),
)

-- a nonempty word that reaches the set, which has a member
pub record HasWord (positions : PositionsValue) (set : PositionSet) : Type 0 where
  pub label : Label
  pub word : List Label
  pub is : IsSetOf positions (label ∷ word) set
  pub some : HasSome set

-- the label at a place
pub label_at : (labels : List Label) (place : ℕ) → place < length labels → (label : Label) × (slice_get labels place ≡ Some label)
label_at labels place below = ⊎_elim
    (λ found. (found.0, found.2))
    (λ past. absurd (omega (arith, past.0)))
    (slice_get_cases labels place).1

-- a found set has a word
pub found_has_word : (positions : PositionsValue) (labels : List Label) (first last : PositionSet) (follow masks : List PositionSet) →
    AreMoves positions labels first last follow masks →
    (set : PositionSet) → IsFound follow masks first set → HasWord positions set
found_has_word positions labels first last follow masks moves _ (FromStart set cut) =
    let below : cut.place < length labels = omega (arith, cut.within, moves.sets.as_many_masks) in
    let here = label_at labels cut.place below in record {
      label = here.0;
      word = [];
      is = cut_is_set positions labels first last follow masks moves [] here.0 cut.place first set below here.1 moves.sets.starts cut.cut;
      some = cut.some;
    }
found_has_word positions labels first last follow masks moves _ (FromSet before reach set found leads cut) =
    let below : cut.place < length labels = omega (arith, cut.within, moves.sets.as_many_masks) in
    let here = label_at labels cut.place below in
    let earlier = found_has_word positions labels first last follow masks moves before found in
    let entry = after_is_entry positions labels first last follow masks moves earlier.label earlier.word before reach earlier.is leads in record {
      label = earlier.label;
      word = earlier.word ++ here.0 ∷ [];
      is = cut_is_set positions labels first last follow masks moves (earlier.label ∷ earlier.word) here.0 cut.place reach set below here.1 entry cut.cut;
      some = cut.some;
    }
