-- The parts of the blocks of some entries.
use Rattle.std.proofs.Common.{◌≡◌, ◌≢◌, ℕ, zero, suc, ◌+◌, ◌≤◌, ◌⊎◌, inl, inr, ⊎_elim, List, []}
use Rattle.std.proofs.Common.{◌∷◌, ◌++◌, length, take, Option, refl, ap, sym, ◌∙◌}
use Rattle.std.proofs.Common.{append_assoc, arith}
use Rattle.std.specs.Io.KnownBytes.{append_known}
use Rattle.entry_steps.specs.Steps.{StepValue}
use Rattle.rpq_base.specs.declared.data.Entry.{Entry}
use Rattle.rpq_io.proofs.Bytes.{append_known-append}
use Rattle.rpq_model.specs.Query.{Query}
use Rattle.rpq_text.specs.Text.{block, blocks_from}
use Rattle.rpq_threads.specs.Blocks.{BeginsNext}

-- bytes are written behind those that were written
pub written_more : (done next : List ℕ) (before between after : Option (List ℕ)) →
    between ≡ append_known before done → after ≡ append_known between next →
    after ≡ append_known before (done ++ next)
written_more done next before between after so_far written =
    written ∙ (ap (λ (w : Option (List ℕ)). append_known w next) so_far
    ∙ append_known-append before done next)

-- two cuts of the same bytes: the first part of the one is the beginning of that of the other
cut_twice : (first later front rest : List ℕ) → first ++ later ≡ front ++ rest →
    ((more : List ℕ) × (front ≡ first ++ more) × (later ≡ more ++ rest))
    ⊎ ((more : List ℕ) × (first ≡ front ++ more) × (more ≢ []))
cut_twice [] later front rest same = inl (front, refl, same)
cut_twice (byte ∷ first) later [] rest same = inr (byte ∷ first, refl, (λ is. cc))
cut_twice (byte ∷ first) later (other ∷ front) rest same =
    let head : byte ≡ other = cc in
    let tail : first ++ later ≡ front ++ rest = cc in
    ⊎_elim (λ is. inl (is.0, with_first other byte front (first ++ is.0) (sym head) is.1, is.2))
    (λ is. inr (is.0, with_first byte other first (front ++ is.0) head is.1, is.2))
    (cut_twice first later front rest tail)
  where
    with_first : (one other : ℕ) (some more : List ℕ) → one ≡ other → some ≡ more →
        one ∷ some ≡ other ∷ more
    with_first one other some more same are = cc

nothing_cut : (front rest : List ℕ) → [] ≡ front ++ rest → rest ≡ []
nothing_cut [] rest is = sym is
nothing_cut (byte ∷ front) rest is = absurd cc

-- these bytes are the blocks of the first entries, so many, and a part of the next one
pub record AreBlocks (queries : List Query) (position : ℕ) (entries : List Entry)
    (steps : List StepValue) (bytes : List ℕ) : Type 0 where
  pub count : ℕ
  pub within : count ≤ length entries
  pub rest : List ℕ
  pub begins : BeginsNext queries position entries steps count rest
  pub are : bytes ≡ blocks_from queries position (take count entries) (take count steps) ++ rest

-- one block more before them
next_block : (queries : List Query) (position : ℕ) (entry : Entry) (entries : List Entry)
    (step : StepValue) (steps : List StepValue) (front more : List ℕ) →
    front ≡ block queries position entry step ++ more →
    AreBlocks queries (position + 1) entries steps more →
    AreBlocks queries position (entry ∷ entries) (step ∷ steps) front
next_block queries position entry entries step steps front more is later = record {
  count = suc later.count;
  within = omega (arith, later.within);
  rest = later.rest;
  begins = record {
    entry = later.begins.entry;
    step = later.begins.step;
    more = later.begins.more;
    there = later.begins.there;
    is_step = later.begins.is_step;
    cut = ap (λ (n : ℕ). block queries n later.begins.entry later.begins.step)
        {x = position + suc later.count} {y = (position + 1) + later.count} (omega arith)
        ∙ later.begins.cut;
    proper = later.begins.proper;
  };
  are = is ∙ (ap (λ (bytes : List ℕ). block queries position entry step ++ bytes) later.are
      ∙ sym (append_assoc (block queries position entry step)
      (blocks_from queries (position + 1) (take later.count entries) (take later.count steps))
      later.rest));
}

-- a proper prefix of some blocks has so many of them whole, and a part of the next one
pub blocks_of_prefix : (entries : List Entry) (steps : List StepValue) (queries : List Query)
    (position : ℕ) (front rest : List ℕ) → length steps ≡ length entries →
    blocks_from queries position entries steps ≡ front ++ rest → rest ≢ [] →
    AreBlocks queries position entries steps front
blocks_of_prefix [] steps queries position front rest many cut proper =
    absurd (proper (nothing_cut front rest cut))
blocks_of_prefix (entry ∷ entries) [] queries position front rest many cut proper = absurd cc
blocks_of_prefix (entry ∷ entries) (step ∷ steps) queries position front rest many cut proper =
    let here = block queries position entry step in
    let fewer : length steps ≡ length entries = omega (arith, many) in
    ⊎_elim (λ is. next_block queries position entry entries step steps front is.0 is.1
    (blocks_of_prefix entries steps queries (position + 1) is.0 rest fewer is.2 proper))
    (λ is. record {
      count = zero;
      within = omega arith;
      rest = front;
      begins = record {
        entry = entry;
        step = step;
        more = is.0;
        there = refl;
        is_step = refl;
        cut = ap (λ (n : ℕ). block queries n entry step) {x = position + zero} {y = position}
            (omega arith) ∙ is.1;
        proper = is.2;
      };
      are = refl;
    })
    (cut_twice here (blocks_from queries (position + 1) entries steps) front rest cut)
