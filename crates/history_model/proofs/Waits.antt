-- No position is published once no one waits any more.
use Rattle.std.proofs.Common.{◌++◌, length, ap, arith}
use Rattle.history_model.specs.LegalLaws.{WaitsEnd}
use Rattle.history_model.proofs.Fronts.{legal_is_sound, fronts_are_legal}

pub waits_end : WaitsEnd
waits_end streams cap front rest legal =
    let begins = fronts_are_legal streams cap front rest legal in
    let behind = (legal_is_sound streams cap (front ++ rest) legal).behind in
    let rises = begins.rises in
    record {
      whole = λ ended all.
          let same = ap length (begins.ended ended) in
          (omega (arith, same, all), omega (arith, same, all, behind, rises));
      shut = λ shut. (begins.shut shut).1;
    }
