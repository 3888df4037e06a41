-- The property of containment, of a language as a predicate on words.
use Rattle.std.specs.Prelude.{◌≢◌, List, [], ◌++◌}
use Rattle.std.specs.declared.cmp.Ordering.TheVariants.{Greater}
use Rattle.rpq_base.specs.declared.data.Label.{Label}
use Rattle.rpq_base.specs.Order.{word_cmp}

-- from each word of the language a part may be left out, if what stays isn't empty
abbrev pub Contained : (List Label → Type 0) → Type 0
Contained language = (p q w : List Label) →
    p ++ w ≢ [] → language (p ++ (q ++ w)) → language (p ++ w)

-- the words show that it isn't so: q can't be left out between p and w
pub record Shows (language : List Label → Type 0) (p q w : List Label) : Type 0 where
  pub some : p ++ w ≢ []
  pub inside : language (p ++ (q ++ w))
  pub outside : language (p ++ w) → ⊥

-- they show it; no first word of those that do is less than p, no second word with p before it is
-- less than q, and no third word with both before it is less than w
pub record IsLeastTriple (language : List Label → Type 0) (p q w : List Label) : Type 0 where
  pub shows : Shows language p q w
  pub first : (other second third : List Label) →
      Shows language other second third → word_cmp p other ≢ Greater
  pub second : (other third : List Label) →
      Shows language p other third → word_cmp q other ≢ Greater
  pub third : (other : List Label) → Shows language p q other → word_cmp w other ≢ Greater
