-- The blocks of several entries: of the first of them, and of the others.
use Rattle.std.proofs.Common.{◌≡◌, ℕ, ◌+◌, ◌<◌, ◌≤◌, List, [], ◌∷◌, ◌++◌, length, take, drop}
use Rattle.std.proofs.Common.{get_or, Some, slice_get, refl, ap, sym, ◌∙◌, append_assoc, arith}
use Rattle.std.proofs.lemmas.List.{append-nil, take-append-drop, length-take-le, take_more}
use Rattle.std.proofs.lemmas.Option.{slice_get_within, slice_get_read, get_or_from_slice_get}
use Rattle.rpq_base.specs.declared.data.Entry.{Entry}
use Rattle.rpq_model.specs.Query.{Query}
use Rattle.entry_steps.specs.Steps.{StepValue}
use Rattle.rpq_text.specs.Text.{block, blocks_from}

-- the blocks of some entries, and then those of the entries that follow them
pub blocks_append : (first : List Entry) (steps : List StepValue) (queries : List Query)
    (position : ℕ) (later : List Entry) (more : List StepValue) → length first ≡ length steps →
    blocks_from queries position (first ++ later) (steps ++ more)
    ≡ blocks_from queries position first steps
    ++ blocks_from queries (position + length first) later more
blocks_append [] [] queries position later more as_many =
    let here : position ≡ position + 0 = omega arith in
    ap (λ (n : ℕ). blocks_from queries n later more) here
blocks_append [] (one ∷ rest) queries position later more as_many = absurd cc
blocks_append (next ∷ first) [] queries position later more as_many = absurd cc
blocks_append (next ∷ first) (one ∷ rest) queries position later more as_many =
    let fewer : length first ≡ length rest = omega (arith, as_many) in
    let there : (position + 1) + length first ≡ position + length (next ∷ first) = omega arith in
    let here = block queries position next one in
    ap (λ (t : List ℕ). here ++ t)
    (blocks_append first rest queries (position + 1) later more fewer)
    ∙ (sym (append_assoc here (blocks_from queries (position + 1) first rest)
    (blocks_from queries ((position + 1) + length first) later more))
    ∙ ap (λ (n : ℕ). (here ++ blocks_from queries (position + 1) first rest)
    ++ blocks_from queries n later more) there)

-- what is read at a place stands there
pub read_at : {X : Type 0} (all : List X) (i : ℕ) (one : X) → i < length all →
    one ≡ get_or all i one → slice_get all i ≡ Some one
read_at all i one below is = slice_get_read all (length all) i one refl below is

-- the first elements, and the one behind them
pub take_with : {X : Type 0} (all : List X) (i : ℕ) (one : X) → slice_get all i ≡ Some one →
    take (i + 1) all ≡ take i all ++ one ∷ []
take_with {X} all i one is =
    take_more all i one (slice_get_within all i one is)
    ∙ ap (λ (x : X). take i all ++ x ∷ []) (get_or_from_slice_get all i one one is)

-- the blocks of the first entries, and those of the others
pub blocks_cut : (entries : List Entry) (steps : List StepValue) (i : ℕ) (queries : List Query)
    (position : ℕ) → length steps ≡ length entries → i ≤ length entries →
    blocks_from queries position entries steps
    ≡ blocks_from queries position (take i entries) (take i steps)
    ++ blocks_from queries (position + i) (drop i entries) (drop i steps)
blocks_cut entries steps i queries position many within =
    let first = length-take-le i entries within in
    let second = length-take-le i steps (omega (arith, many, within)) in
    ap (λ (es : List Entry). blocks_from queries position es steps)
    (sym (take-append-drop i entries))
    ∙ (ap (λ (ss : List StepValue). blocks_from queries position
    (take i entries ++ drop i entries) ss) (sym (take-append-drop i steps))
    ∙ (blocks_append (take i entries) (take i steps) queries position (drop i entries)
    (drop i steps) (first ∙ sym second)
    ∙ ap (λ (n : ℕ). blocks_from queries position (take i entries) (take i steps)
    ++ blocks_from queries (position + n) (drop i entries) (drop i steps)) first))

-- the entry at a place with its step, of a list with as many steps
module _ (entries : List Entry) (steps : List StepValue) (i : ℕ) (entry : Entry)
    (step : StepValue) (there : slice_get entries i ≡ Some entry)
    (are : slice_get steps i ≡ Some step) (many : length steps ≡ length entries)
    (queries : List Query) (position : ℕ) where
  within : i < length entries
  within = slice_get_within entries i entry there

  -- the blocks of the first entries, and the one behind them
  pub blocks_with : blocks_from queries position (take (i + 1) entries) (take (i + 1) steps)
      ≡ blocks_from queries position (take i entries) (take i steps)
      ++ block queries (position + i) entry step
  blocks_with =
      let first = length-take-le i entries (omega (arith, within)) in
      let second = length-take-le i steps (omega (arith, many, within)) in
      ap (λ (es : List Entry). blocks_from queries position es (take (i + 1) steps))
      (take_with entries i entry there)
      ∙ (ap (λ (ss : List StepValue). blocks_from queries position (take i entries ++ entry ∷ [])
      ss) (take_with steps i step are)
      ∙ (blocks_append (take i entries) (take i steps) queries position (entry ∷ []) (step ∷ [])
      (first ∙ sym second)
      ∙ (ap (λ (n : ℕ). blocks_from queries position (take i entries) (take i steps)
      ++ (block queries (position + n) entry step ++ [])) first
      ∙ ap (λ (b : List ℕ). blocks_from queries position (take i entries) (take i steps) ++ b)
      (append-nil (block queries (position + i) entry step)))))
