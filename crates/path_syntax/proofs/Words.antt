-- The text of a word, from its front on.
use Rattle.std.proofs.Common.{◌≡◌, ℕ, ◌-◌, ◌≤◌, List, [], ◌∷◌, ◌++◌, map, length, get_or, take, drop, sym, ◌∙◌, ap, arith}
use Rattle.std.specs.List.{flat_map, join_with_byte}
use Rattle.std.proofs.lemmas.List.{append-nil, take_all, length-drop}
use Rattle.rpq_base.specs.declared.data.Label.{Label}
use Rattle.path_syntax.specs.Written.{written_label, written_word}

-- a label behind a '/'
abbrev pub behind_slash : Label → List ℕ
behind_slash label = 47 ∷ written_label label

joined : (first : Label) (rest : List Label) → join_with_byte 47 (map written_label (first ∷ rest)) ≡ written_label first ++ flat_map behind_slash rest
joined first [] = sym (append-nil (written_label first))
joined first (next ∷ rest) = ap (λ (text : List ℕ). written_label first ++ 47 ∷ text) (joined next rest)

-- the text of a word is that of its first label, and then each other one behind a '/'
pub written_parts : (word : List Label) (first : Label) → 1 ≤ length word → first ≡ get_or word 0 first → written_word word ≡ written_label first ++ flat_map behind_slash (drop 1 word)
written_parts [] first some is = absurd (omega arith)
written_parts (label ∷ word) first some is = rw is (joined label word)

-- all labels but the first, as they are gone through
pub all_but_first : (word : List Label) (i : ℕ) → length (take (length word - 1) (drop 1 word)) ≤ i → take i (take (length word - 1) (drop 1 word)) ≡ drop 1 word
all_but_first word i over =
    take_all i (take (length word - 1) (drop 1 word)) over ∙ take_all (length word - 1) (drop 1 word) (omega (arith, length-drop 1 word))
