-- A line is cut only where one can be given.
use Rattle.std.proofs.Common.{◌≡◌, ◌≢◌, suc, ◌+◌, ◌⊎◌, inl, inr, true, [], ◌∷◌, ◌++◌, length, sym}
use Rattle.std.proofs.Common.{ap, ◌∙◌, arith, length-append}
use Rattle.text_parts.specs.Lines.{line_length}
use Rattle.text_parts.proofs.LineLengths.{line_length-line, line_length-ended}
use Rattle.rpq_io.specs.Outcomes.{AllowsLine, CutsOnlyLines}

-- a line is cut only where the first line is no longer than may be, and is whole or the rest before
-- the end
pub cuts_only_lines : CutsOnlyLines
cuts_only_lines line_limit is_at_end bytes rest line cuts = by cuts.cut
  where
    by : (bytes ≡ cuts.raw ++ 10 ∷ rest)
        ⊎ ((is_at_end ≡ true) × (cuts.raw ≢ []) × (bytes ≡ cuts.raw) × (rest ≡ []))
        → AllowsLine line_limit is_at_end bytes
    by (inl cut) =
        let first : line_length bytes ≡ length cuts.raw =
        ap line_length cut ∙ line_length-ended cuts.raw rest cuts.whole in
        let long : length bytes ≡ length cuts.raw + suc (length rest) =
        ap length cut ∙ length-append cuts.raw (10 ∷ rest) in
        record { fits = omega (arith, cuts.fits); whole = inl (omega arith) }
    by (inr cut) =
        let first : line_length bytes ≡ length cuts.raw =
        ap line_length cut.2 ∙ line_length-line cuts.raw cuts.whole in
        record {
          fits = omega (arith, cuts.fits);
          whole =
              inr (cut.0, (λ none. cut.1 (sym cut.2 ∙ none)));
        }
