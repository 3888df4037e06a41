-- Words that are repeated, by cases.
use Rattle.std.proofs.Common.{◌≡◌, ◌≢◌, List, [], ◌∷◌, ◌++◌, ◌⊎◌, inl, inr, All, ap, ◌∙◌, refl, subst, sym}
use Rattle.std.specs.List.{flat_map}
use Rattle.std.proofs.lemmas.List.Elements.{All-nil, All-cons, All-head, All-tail}
use Rattle.rpq_base.specs.declared.data.Label.{Label}
use Rattle.path_syntax.specs.Language.{Language, IsJoined, IsRepeated}
use Rattle.path_syntax.specs.Laws.{nonempty}

-- the empty word
pub repeated_none : (language : Language) → IsRepeated language []
repeated_none language = record {
  parts = [];
  joined = refl;
  nonempty = All-nil (λ part. part ≢ []);
  within = All-nil language;
}

-- a nonempty word of the language in front of a repeated one
pub repeated_more : (language : Language) (word : List Label) → IsJoined (nonempty language) (IsRepeated language) word → IsRepeated language word
repeated_more language word j = record {
  parts = j.front ∷ j.right.parts;
  joined = j.split ∙ ap (λ rest. j.front ++ rest) j.right.joined;
  nonempty = All-cons (λ part. part ≢ []) j.front j.right.parts j.left.0 j.right.nonempty;
  within = All-cons language j.front j.right.parts j.left.1 j.right.within;
}

by_parts : (language : Language) (word : List Label) (parts : List (List Label)) → word ≡ flat_map (λ part. part) parts → All (λ part. part ≢ []) parts → All language parts → (word ≡ []) ⊎ IsJoined (nonempty language) (IsRepeated language) word
by_parts language word [] joined solid within = inl joined
by_parts language word (part ∷ parts) joined solid within = inr (record {
  front = part;
  rest = flat_map (λ part. part) parts;
  split = joined;
  left = (All-head (λ part. part ≢ []) part parts solid, All-head language part parts within);
  right = record {
    parts = parts;
    joined = refl;
    nonempty = All-tail (λ part. part ≢ []) part parts solid;
    within = All-tail language part parts within;
  };
})

-- a repeated word is empty, or has such a front
pub repeated_cases : (language : Language) (word : List Label) → IsRepeated language word → (word ≡ []) ⊎ IsJoined (nonempty language) (IsRepeated language) word
repeated_cases language word r = by_parts language word r.parts r.joined r.nonempty r.within

pub repeated_from_cases : (language : Language) (word : List Label) → (word ≡ []) ⊎ IsJoined (nonempty language) (IsRepeated language) word → IsRepeated language word
repeated_from_cases language word (inl none) = subst (IsRepeated language) (sym none) (repeated_none language)
repeated_from_cases language word (inr more) = repeated_more language word more
