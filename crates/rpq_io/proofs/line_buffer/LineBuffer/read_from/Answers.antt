use Rattle.std.proofs.Common.{◌≡◌, ◌≤◌, ◌+◌, ◌++◌, length, take, rules, arith, refl, ap, ◌∙◌}
use Rattle.std.specs.List.{slice_range}
use Rattle.text_parts.specs.Lines.{line_length}
use Rattle.rpq_io.proofs.HeldParts.{held_kept, held_grown, part_length}
use Rattle.text_parts.proofs.LineLengths.{line_length_grows}
use Rattle.rpq_io.proofs.line_buffer.LineBuffer.read_from.Goals as goal

pub returns-in_err-count-clause-kept : goal.returns-in_err-count-clause-kept
returns-in_err-count-clause-kept g c =
    let kept = held_kept c.read_behind.new.bytes c.self.inside.bytes.items c.args.self.now.bytes c.self.inside.bytes.len
    c.self.inside.start c.self.inside.end (omega arith) (ap (λ held. held.bytes) c.self.view_is)
    (c.in_err-count.ensures.before ∙ ap (take c.self.inside.end) c.as_mut_slice.ensures.value) in
    search (rules, kept)

pub line_length_from-self-inside-requires : goal.line_length_from-self-inside-requires
line_length_from-self-inside-requires g c =
    let old = slice_range c.self.inside.bytes.items c.self.inside.start c.self.inside.end in
    let more = slice_range c.read_behind.new.bytes c.self.inside.end (c.self.inside.end + c.in_ok-count.count) in
    let grown : slice_range c.as_slice.result.now c.self.inside.start (c.self.inside.end + c.in_ok-count.count) ≡ old ++ more =
    ap (λ bytes. slice_range bytes c.self.inside.start (c.self.inside.end + c.in_ok-count.count)) c.as_slice.ensures.value
    ∙ held_grown c.read_behind.new.bytes c.self.inside.bytes.items old c.self.inside.bytes.len
    c.self.inside.start c.self.inside.end c.in_ok-count.count
    (omega arith) refl (c.in_ok-count.ensures.before ∙ ap (take c.self.inside.end) c.as_mut_slice.ensures.value)
    c.self.invariant.order (omega (arith, c.in_ok-count.ensures.within)) in
    omega (arith, c.self.invariant.line, line_length_grows old more, ap line_length grown)

pub returns-clause-grown : goal.returns-clause-grown
returns-clause-grown g c =
    let same : length c.read_behind.new.bytes ≡ c.self.inside.bytes.len = omega arith in
    let within : c.self.inside.end + c.in_ok-count.count ≤ length c.read_behind.new.bytes =
    omega (arith, c.in_ok-count.ensures.within) in
    record {
      more = slice_range c.read_behind.new.bytes c.self.inside.end (c.self.inside.end + c.in_ok-count.count);
      counted = part_length c.read_behind.new.bytes c.self.inside.end c.in_ok-count.count within;
      joined = held_grown c.read_behind.new.bytes c.self.inside.bytes.items c.args.self.now.bytes c.self.inside.bytes.len
          c.self.inside.start c.self.inside.end c.in_ok-count.count same (ap (λ held. held.bytes) c.self.view_is)
          (c.in_ok-count.ensures.before ∙ ap (take c.self.inside.end) c.as_mut_slice.ensures.value) c.self.invariant.order within;
      moved = c.in_ok-count.ensures.taken;
    }
