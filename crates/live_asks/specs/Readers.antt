-- Readers that are still to be served.
use Rattle.std.specs.Prelude.{◌≡◌, ℕ, List, Option}
use Rattle.rpq_io.specs.Files.{IsNewSink}
use Rattle.text_items.specs.Limits.{most_bytes}
use Rattle.text_items.specs.Progress.{IsTextReader, IsNew}
use Rattle.live_asks.specs.declared.reader.AskReader.{AskReader}

-- nothing of its asks was taken, which may have fewer than 2^62 bytes, in lines of at most 1,024;
-- no read of them failed; nothing is written on its replies, and no write failed
pub record IsNewAskReader {S K : Type 0} (left : S → Option (List ℕ)) (faults : S → ℕ)
    (written : K → Option (List ℕ)) (failures : K → ℕ) (one : AskReader S K) : Type 0 where
  pub sound : IsTextReader left one.reader
  pub fresh : IsNew one.reader
  pub limit : one.reader.byte_limit ≡ most_bytes
  pub no_fault : faults one.reader.source ≡ 0
  pub replies : IsNewSink written failures one.replies
