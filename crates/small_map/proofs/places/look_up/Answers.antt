use Rattle.std.proofs.Common.{refl, sym, ap, subst, ◌∙◌, true≢false, arith}
use Rattle.std.proofs.lemmas.Option.{slice_get_read, slice_get_within, get_or_from_slice_get}
use Rattle.small_map.specs.Places.{IsPlace}
use Rattle.small_map.proofs.Placed.{unplaced, misplaced}
use Rattle.small_map.proofs.places.look_up.Goals as goal

pub returns-in_err-place : goal.returns-in_err-place
returns-in_err-place g c =
    subst (IsPlace g.K.PartialEq.eq c.args.entries.now c.args.key.now) (sym c.from_residual.ensures)
    (unplaced g.met.K.Eq.laws c.args.entries.now c.args.places.now.entries c.args.key.now
    c.requires (sym c.in_err-place.ensures.value))

pub returns-then-place-entries : goal.returns-then-place-entries
returns-then-place-entries g c =
    misplaced g.met.K.Eq.laws c.args.entries.now c.args.places.now.entries c.args.key.now
    c.in_ok-place.field-0.now c.requires (sym c.in_ok-place.ensures.value)
    (λ entry at same. omega (
      arith,
      slice_get_within c.args.entries.now c.in_ok-place.field-0.now entry at,
      c.if-place-entries.true,
    ))

pub returns-then-eq : goal.returns-then-eq
returns-then-eq g c = (
  c.index-entries-place.result,
  slice_get_read c.args.entries.now _ c.in_ok-place.field-0.now c.index-entries-place.result refl
      c.if-place-entries.false c.index-entries-place.is,
  ap (λ entry. g.K.PartialEq.eq c.args.key.now entry.0) c.index-entries-place.is
      ∙ sym c.if-eq.ensures,
)

pub returns-else-eq : goal.returns-else-eq
returns-else-eq g c =
    misplaced g.met.K.Eq.laws c.args.entries.now c.args.places.now.entries c.args.key.now
    c.in_ok-place.field-0.now c.requires (sym c.in_ok-place.ensures.value)
    (λ entry at same. true≢false (sym same
    ∙ ap (λ found. g.K.PartialEq.eq c.args.key.now found.0)
    (sym (get_or_from_slice_get c.args.entries.now c.in_ok-place.field-0.now entry
    c.index-entries-place.result at)) ∙ sym c.if-eq.ensures))
