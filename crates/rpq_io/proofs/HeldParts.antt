-- Bytes from one place to another in a list.
use Rattle.std.proofs.Common.{◌≡◌, ℕ, ◌+◌, ◌-◌, ◌<◌, ◌≤◌, ◌⊎◌, inl, inr, min, List, [], ◌++◌, length}
use Rattle.std.proofs.Common.{take, drop, sym, ap, ap₂, ◌∙◌, arith, length-take-le, drop-drop, take-take}
use Rattle.std.specs.List.{slice_range}
use Rattle.std.proofs.lemmas.Bool.{cases_lt}
use Rattle.std.proofs.lemmas.List.{take_at, drop-append-le, drop_all}
use Rattle.std.proofs.lemmas.List.Edits.{length-between}
use Rattle.std.proofs.lemmas.Slice.{between_is}
use Rattle.std.proofs.Math.Seq.{take-add}

-- a part up to a place where nothing changed
pub part_kept : (new old : List ℕ) (start end : ℕ) → take end new ≡ take end old
    → slice_range new start end ≡ slice_range old start end
part_kept new old start end same =
    between_is new start end ∙ ap (drop start) same ∙ sym (between_is old start end)

-- a part that goes on behind such a place
pub part_grown : (new old : List ℕ) (start end count : ℕ) → start ≤ end → end + count ≤ length new
    → take end new ≡ take end old
    → slice_range new start (end + count) ≡ slice_range old start end ++ slice_range new end (end + count)
part_grown new old start end count order within same =
    let front : length (take end new) ≡ end = length-take-le end new (omega arith) in
    between_is new start (end + count)
    ∙ ap (drop start) (take-add end count new)
    ∙ drop-append-le start (take end new) (take count (drop end new)) (omega arith)
    ∙ ap₂ (λ part more. part ++ take more (drop end new))
    (sym (between_is new start end) ∙ part_kept new old start end same) (omega arith)

-- a part without some bytes at its front
pub part_without : (bytes : List ℕ) (start end count : ℕ)
    → slice_range bytes (start + count) end ≡ drop count (slice_range bytes start end)
part_without bytes start end count =
    between_is bytes (start + count) end ∙ sym (drop-drop count start (take end bytes)) ∙ ap (drop count) (sym (between_is bytes start end))

-- no bytes from a place to itself
pub part_nil : (bytes : List ℕ) (place : ℕ) → place ≤ length bytes → slice_range bytes place place ≡ []
part_nil bytes place within =
    between_is bytes place place
    ∙ drop_all place (take place bytes) (omega (arith, length-take-le place bytes within))

-- the same, where the part may have fewer bytes
pub part_behind : (bytes : List ℕ) (start end count next : ℕ) → end ≤ length bytes
    → next ≡ min end (start + count)
    → slice_range bytes next end ≡ drop count (slice_range bytes start end)
part_behind bytes start end count next within is = by (cases_lt end (start + count))
  where
    by : (end < start + count) ⊎ (start + count ≤ end)
        → slice_range bytes next end ≡ drop count (slice_range bytes start end)
    by (inl few) =
        let last : next ≡ end = omega arith in
        let short : length (slice_range bytes start end) ≤ count =
        omega (arith, length-between bytes start end within) in
        ap (λ place. slice_range bytes place end) last ∙ part_nil bytes end within
        ∙ sym (drop_all count (slice_range bytes start end) short)
    by (inr more) =
        let later : next ≡ start + count = omega arith in
        ap (λ place. slice_range bytes place end) later ∙ part_without bytes start end count

-- the first bytes of a part
pub part_front : (bytes : List ℕ) (start end count : ℕ) → start + count ≤ end
    → slice_range bytes start (start + count) ≡ take count (slice_range bytes start end)
part_front bytes start end count within =
    let same : start + count - start ≡ count = omega arith in
    ap (λ many. take many (drop start bytes)) same
    ∙ sym (take-take count (end - start) (drop start bytes) (omega arith))

-- a part that is cut out has as many bytes as it says
pub part_length : (bytes : List ℕ) (start count : ℕ) → start + count ≤ length bytes
    → length (slice_range bytes start (start + count)) ≡ count
part_length bytes start count within =
    length-between bytes start (start + count) within ∙ omega arith

-- the bytes held, after a vector's slice was written to behind them
pub held_kept : (new old held : List ℕ) (size start end : ℕ) → length new ≡ size
    → slice_range old start end ≡ held → take end new ≡ take end old
    → slice_range (take size (new ++ drop (length new) old)) start end ≡ held
held_kept new old held size start end same was kept =
    ap (λ bytes. slice_range bytes start end) (take_at new (drop (length new) old) size same)
    ∙ part_kept new old start end kept ∙ was

-- the same, with the bytes that were written there
pub held_grown : (new old held : List ℕ) (size start end count : ℕ) → length new ≡ size
    → slice_range old start end ≡ held → take end new ≡ take end old
    → start ≤ end → end + count ≤ length new
    → slice_range (take size (new ++ drop (length new) old)) start (end + count) ≡ held ++ slice_range new end (end + count)
held_grown new old held size start end count same was kept order within =
    ap (λ bytes. slice_range bytes start (end + count))
    (take_at new (drop (length new) old) size same)
    ∙ part_grown new old start end count order within kept
    ∙ ap (λ front. front ++ slice_range new end (end + count)) was
