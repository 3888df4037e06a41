-- Each expression has a nonempty word.
use Rattle.std.proofs.Common.{◌≢◌, List, [], ◌∷◌, ◌++◌, refl, sym, inl, inr}
use Rattle.std.proofs.lemmas.List.{append-nil}
use Rattle.std.proofs.lemmas.List.Elements.{All-cons, All-nil}
use Rattle.rpq_base.specs.declared.data.Label.{Label}
use Rattle.path_syntax.specs.Expression.{Expression, Atom, Seq, Alt, Star, Plus, Opt}
use Rattle.path_syntax.specs.Language.{In, IsRepeated}
use Rattle.path_syntax.specs.Laws.{nonempty}

some_front : (front rest : List Label) → front ≢ [] → front ++ rest ≢ []
some_front [] rest some none = some refl
some_front (label ∷ front) rest some none = cc

once : (body : Expression) (word : List Label) → word ≢ [] → In body word → IsRepeated (In body) word
once body word some within = record {
  parts = word ∷ [];
  joined = sym (append-nil word);
  nonempty = All-cons (λ (part : List Label). part ≢ []) word [] some
      (All-nil (λ (part : List Label). part ≢ []));
  within = All-cons (In body) word [] within (All-nil (In body));
}

never : (body : Expression) → IsRepeated (In body) []
never body = record {
  parts = [];
  joined = refl;
  nonempty = All-nil (λ (part : List Label). part ≢ []);
  within = All-nil (In body);
}

pub has_a_word : (e : Expression) → (word : List Label) × nonempty (In e) word
has_a_word (Atom label) = (label ∷ [], ((λ none. cc), refl))
has_a_word (Seq left right) =
    let first = has_a_word left in
    let second = has_a_word right in (
      first.0 ++ second.0,
      (
        some_front first.0 second.0 first.1.0,
        record {
          front = first.0;
          rest = second.0;
          split = refl;
          left = first.1.1;
          right = second.1.1;
        },
      ),
    )
has_a_word (Alt left right) =
    let first = has_a_word left in (first.0, (first.1.0, inl first.1.1))
has_a_word (Star body) =
    let one = has_a_word body in (one.0, (one.1.0, once body one.0 one.1.0 one.1.1))
has_a_word (Plus body) =
    let one = has_a_word body in (
      one.0,
      (
        one.1.0,
        record {
          front = one.0;
          rest = [];
          split = sym (append-nil one.0);
          left = one.1.1;
          right = never body;
        },
      ),
    )
has_a_word (Opt body) = let one = has_a_word body in (one.0, (one.1.0, inr one.1.1))
