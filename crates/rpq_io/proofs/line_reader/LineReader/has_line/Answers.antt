use Rattle.std.proofs.Common.{length, sym, ap, ◌∙◌, subst, arith, inl, inr}
use Rattle.rpq_io.specs.Reader.{HoldsNoAnswer, IsLongStream}
use Rattle.text_parts.specs.Lines.{line_length}
use Rattle.rpq_io.proofs.ReaderSteps.{long_stream}
use Rattle.rpq_io.proofs.line_reader.LineReader.has_line.Goals as goal

pub returns-then-line-held-clause-line : goal.returns-then-line-held-clause-line
returns-then-line-held-clause-line g c = λ _. record {
  fits = omega (arith, ap (λ reader. line_length reader.held_bytes) c.self.view_is, ap (λ reader. reader.line_limit) c.self.view_is);
  whole = inl (omega (arith, ap (λ reader. line_length reader.held_bytes) c.self.view_is, ap (λ reader. length reader.held_bytes) c.self.view_is));
}

pub returns-then-not-self-clause-cause : goal.returns-then-not-self-clause-cause
returns-then-not-self-clause-cause g c = record {
  read = λ met. cc met;
  memory = λ met. cc met;
  long_line = λ met. absurd (cc met);
  long_stream = λ _. subst IsLongStream c.self.view_is
      (long_stream _ (λ none. c.requires (subst HoldsNoAnswer c.self.view_is none)) c.if-not-self.true (omega arith) (omega arith) c.self.invariant.0.within);
}

pub returns-else-line-eq0-clause-line : goal.returns-else-line-eq0-clause-line
returns-else-line-eq0-clause-line g c = λ _. record {
  fits = omega (arith, ap (λ reader. line_length reader.held_bytes) c.self.view_is, ap (λ reader. reader.line_limit) c.self.view_is);
  whole = inr (
    sym (ap (λ reader. reader.is_at_end) c.self.view_is) ∙ c.if-not-self.false,
    λ none. omega (arith, ap length none, ap (λ reader. length reader.held_bytes) c.self.view_is),
  );
}
