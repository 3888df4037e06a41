-- Bytes given and written piece by piece.
use Rattle.std.proofs.Common.{◌≡◌, ◌≢◌, ℕ, ◌+◌, ◌<◌, ◌≤◌, ◌-◌, List, [], ◌++◌, length, take, drop}
use Rattle.std.proofs.Common.{Option, Some, None, refl, sym, ap, ◌∙◌, append_assoc, take_all}
use Rattle.std.proofs.Common.{length-append, length-drop}
use Rattle.std.proofs.Common.{arith, IfSome, append-nil, subst}
use Rattle.std.proofs.Math.Seq.{take-add}
use Rattle.std.specs.Io.KnownBytes.{prepend_known, append_known}
use Rattle.rpq_io.specs.Takes.{TakesAtMost}

-- bytes written after others are written after both
pub append_known-append : (known : Option (List ℕ)) (front next : List ℕ)
    → append_known (append_known known front) next ≡ append_known known (front ++ next)
append_known-append None front next = refl
append_known-append (Some bytes) front next = ap (λ all. Some all) (append_assoc bytes front next)

-- bytes given before others are given before both
pub prepend_known-prepend : (known : Option (List ℕ)) (front next : List ℕ)
    → prepend_known front (prepend_known next known) ≡ prepend_known (front ++ next) known
prepend_known-prepend None front next = refl
prepend_known-prepend (Some bytes) front next =
    ap (λ all. Some all) (sym (append_assoc front next bytes))

-- no bytes written change nothing
pub append_known-nil : (known : Option (List ℕ)) → append_known known [] ≡ known
append_known-nil None = refl
append_known-nil (Some bytes) = ap (λ (all : List ℕ). Some all) (append-nil bytes)

-- no bytes given change nothing
pub prepend_known-nil : (known : Option (List ℕ)) → prepend_known [] known ≡ known
prepend_known-nil None = refl
prepend_known-nil (Some bytes) = refl

-- what holds of some bytes and all that may come after them holds of the known bytes that these
-- make
pub of_known : (known left : Option (List ℕ)) (bytes : List ℕ) (P : List ℕ → Type 0)
    → known ≡ prepend_known bytes left
    → ((rest : List ℕ) → left ≡ Some rest → P (bytes ++ rest)) → IfSome known P
of_known None left bytes P came all = tt
of_known (Some text) None bytes P came all = absurd cc
of_known (Some text) (Some rest) bytes P came all =
    let same : bytes ++ rest ≡ text = cc in
    subst P same (all rest refl)

-- what holds of some bytes holds of the known bytes where nothing is left
pub of_all : (known left : Option (List ℕ)) (bytes : List ℕ) (P : List ℕ → Type 0)
    → known ≡ prepend_known bytes left
    → IfSome left (λ rest. rest ≡ []) → P bytes → IfSome known P
of_all None left bytes P came none all = tt
of_all (Some text) None bytes P came none all = absurd cc
of_all (Some text) (Some rest) bytes P came none all =
    let same : bytes ≡ text = sym (append-nil bytes) ∙ (ap (λ r. bytes ++ r) (sym none) ∙ cc) in
    subst P same all

-- the rest of some bytes, from a place to their end
pub slice_to_end : (done : ℕ) (bytes : List ℕ)
    → take (length bytes - done) (drop done bytes) ≡ drop done bytes
slice_to_end done bytes =
    take_all (length bytes - done) (drop done bytes) (omega (arith, length-drop done bytes))

-- what is written after one more piece of the bytes
pub append_known_more : (before now after : Option (List ℕ)) (done count : ℕ) (bytes : List ℕ)
    → now ≡ append_known before (take done bytes)
    → after ≡ append_known now (take count (take (length bytes - done) (drop done bytes)))
    → after ≡ append_known before (take (done + count) bytes)
append_known_more before now after done count bytes so_far piece =
    piece ∙ ap (λ part. append_known now (take count part)) (slice_to_end done bytes)
    ∙ ap (λ known. append_known known (take count (drop done bytes))) so_far
    ∙ append_known-append before (take done bytes) (take count (drop done bytes))
    ∙ ap (append_known before) (sym (take-add done count bytes))

-- something is left of bytes that are cut before their end
pub drop-nonempty : (done : ℕ) (bytes : List ℕ) → done < length bytes → drop done bytes ≢ []
drop-nonempty done bytes within empty = omega (arith, length-drop done bytes, ap length empty)

-- taking one more piece after some bytes takes both
pub takes_more : (limit : ℕ) (before now after : Option (List ℕ)) (so_far piece : List ℕ)
    → before ≡ prepend_known so_far now → now ≡ prepend_known piece after
    → length so_far + length piece ≤ limit
    → TakesAtMost limit before after
takes_more limit before now after so_far piece first second few = (
  length (so_far ++ piece),
  simp length-append few,
  record {
    bytes = so_far ++ piece;
    counted = refl;
    taken = first ∙ ap (prepend_known so_far) second ∙ prepend_known-prepend after so_far piece;
  },
)
