-- What is so of a fault that is handed on.
use Rattle.std.proofs.Common.{◌≡◌, ℕ, Option, Some, None, Result, Ok, Err, sym, subst}
use Rattle.std.specs.Result.{result_err, IsErrAnd}
use Rattle.history_model.specs.declared.line.Why.{Why}
use Rattle.history_model.specs.declared.line.Why.TheVariants.{Write}
use Rattle.rpq_io.specs.Counts.{CountsFault}

-- what is so of a fault is so of the answer that hands it on
pub handed_fault : {T E : Type 0} (result : Result T E) (fault : E) (P : Option E → Type 0) →
    IsErrAnd result (λ handed. handed ≡ fault) → P (Some fault) → P (result_err result)
handed_fault (Ok x) fault P hands p = absurd hands
handed_fault {E = E} (Err other) fault P hands p = subst (λ (each : E). P (Some each)) (sym hands) p

-- a fault that is counted by an answer is counted by its error
pub counts_by_error : {T : Type 0} (result : Result T Why) (before after : ℕ) →
    CountsFault (result ≡ Err Write) before after →
    CountsFault (result_err result ≡ Some Write) before after
counts_by_error (Ok x) before after counted = record {
  never_falls = counted.never_falls;
  rose = λ is. absurd cc;
  quiet = λ _. counted.quiet (λ is. cc);
}
counts_by_error (Err why) before after counted = record {
  never_falls = counted.never_falls;
  rose = λ is. let same : why ≡ Write = cc in
      counted.rose (Rattle.std.proofs.Common.ap (λ (w : Why). Err w) same);
  quiet = λ never. counted.quiet (λ is. let same : why ≡ Write = cc in
      never (Rattle.std.proofs.Common.ap (λ (w : Why). Some w) same));
}
