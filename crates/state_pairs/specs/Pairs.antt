-- The words that one state accepts beside another.
use Rattle.std.specs.declared.cmp.Ordering.TheVariants.{Greater}
use Rattle.std.specs.Prelude.{◌≡◌, ◌≢◌, ℕ, ◌<◌, Bool, false, List, [], length, map, All, Option, Some, IsTrue, unwrap_or, option_map}
use Rattle.std.specs.Option.{option_and_then}
use Rattle.rpq_base.specs.declared.data.Label.{Label}
use Rattle.rpq_base.specs.Order.{word_cmp}
use Rattle.dfa_table.specs.DfaValue.{DfaValue, label_at, is_final}
use Rattle.dfa_table.specs.Runs.{run_from, accepts_from}

-- whether the word leads from the state, if there is one, to a final one
abbrev pub accepts_at : DfaValue → Option ℕ → List Label → Bool
accepts_at dfa state word =
    unwrap_or (option_map (is_final dfa)
    (option_and_then (λ from. run_from dfa from word) state)) false

-- the word is accepted from the second state and not from the first, if there is one; the empty
-- word doesn't count where the first is the start
pub record IsExtraWord (dfa : DfaValue) (first : Option ℕ) (second : ℕ) (word : List Label)
    : Type 0 where
  pub inside : IsTrue (accepts_from dfa second word)
  pub outside : accepts_at dfa first word ≡ false
  pub counts : first ≡ Some 0 → word ≢ []

-- the second state accepts such a word
abbrev pub HasExtraWord : DfaValue → Option ℕ → ℕ → Type 0
HasExtraWord dfa first second = (word : List Label) × IsExtraWord dfa first second word

-- the numbers are those of the labels of such a word, and none is less
pub record IsLeastExtra (dfa : DfaValue) (first : Option ℕ) (second : ℕ) (numbers : List ℕ)
    : Type 0 where
  pub within : All (λ number. number < length dfa.labels) numbers
  pub extra : IsExtraWord dfa first second (map (label_at dfa) numbers)
  pub least : (other : List Label) → IsExtraWord dfa first second other →
      word_cmp (map (label_at dfa) numbers) other ≢ Greater
