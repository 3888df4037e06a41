-- Of what is kept, some entries behind the first ones.
use Rattle.std.proofs.Common.{◌≡◌, ℕ, zero, suc, ◌+◌, ◌-◌, ◌<◌, ◌≤◌, min, List, [], ◌∷◌, ◌++◌}
use Rattle.std.proofs.Common.{length, take, drop, length-drop, refl, sym, ap}
use Rattle.std.proofs.Common.{◌∙◌, arith}
use Rattle.std.proofs.lemmas.List.{length-take, take-append-le, take_all, drop_at}
use Rattle.engine_loop.specs.Sources.{Repeats}
use Rattle.rpq_base.specs.declared.data.Entry.{Entry}
use Rattle.stream_threads.proofs.Seen.{take_part, part_fits}
use Rattle.rpq_threads.proofs.ComingNext.{drop_twice}

-- as many of the first entries as there are
take_own : {A : Type 0} (m : ℕ) (xs : List A) → take (length (take m xs)) xs ≡ take m xs
take_own zero xs = refl
take_own (suc m) [] = refl
take_own (suc m) (x ∷ xs) = ap (λ l. x ∷ l) (take_own m xs)

pub take_least : (n m : ℕ) (xs : List Entry) → n ≡ min m (length xs) → take n xs ≡ take m xs
take_least n m xs is =
    ap (λ (k : ℕ). take k xs) {x = n} {y = length (take m xs)} (is ∙ sym (length-take m xs))
    ∙ take_own m xs

-- what is behind a place, to the end
pub to_the_end : (n : ℕ) (xs : List Entry) → take (length xs - n) (drop n xs) ≡ drop n xs
to_the_end n xs = take_all (length xs - n) (drop n xs) (omega (arith, length-drop n xs))

-- they stand among the first of two lists
pub repeats_first : (first behind more : List Entry) (from : ℕ) → from < length first →
    more ≡ take 256 (drop from first) → Repeats (first ++ behind) from more
repeats_first first behind more from some is =
    let fits = part_fits from 256 first more is (omega (arith, some)) in
    record {
      follow = take-append-le (from + length more) first behind fits
          ∙ (take_part from 256 first more is
          ∙ ap (λ (begin : List Entry). begin ++ more)
          (sym (take-append-le from first behind (omega (arith, some)))));
      some = omega (
        arith,
        some,
        ap length is ∙ length-take 256 (drop from first),
        length-drop from first,
      );
    }

-- or among those of the second
pub repeats_behind : (first behind more : List Entry) (from : ℕ) → length first ≤ from →
    from < length (first ++ behind) → more ≡ take 256 (drop (from - length first) behind) →
    Repeats (first ++ behind) from more
repeats_behind first behind more from beyond some is =
    let all = first ++ behind in
    let there : drop from all ≡ drop (from - length first) behind =
    ap (λ (n : ℕ). drop n all) {x = from} {y = length first + (from - length first)}
    (omega (arith, beyond))
    ∙ (drop_twice (length first) (from - length first) all
    ∙ ap (λ (rest : List Entry). drop (from - length first) rest)
    (drop_at first behind (length first) refl)) in
    let is_all : more ≡ take 256 (drop from all) =
    is ∙ ap (λ (rest : List Entry). take 256 rest) (sym there) in
    record {
      follow = take_part from 256 all more is_all;
      some = omega (
        arith,
        some,
        ap length is_all ∙ length-take 256 (drop from all),
        length-drop from all,
      );
    }
