-- What a call does that found a line, or none, or a fault.
use Rattle.std.proofs.Common.{◌≡◌, ℕ, ◌+◌, Bool, true, List, [], length, take, Option, Some}
use Rattle.std.proofs.Common.{None, Result, Ok, Err, IfSome, sym, ap, ◌∙◌, subst, arith, Bor}
use Rattle.std.proofs.Common.{◌≤◌, length-drop, length-take-le}
use Rattle.std.specs.Prelude.{IfOk, IfNone, OnErr}
use Rattle.std.specs.Result.{IsErrAnd}
use Rattle.std.proofs.lemmas.Result.{err_from_is_err_and}
use Rattle.text_parts.specs.Lines.{line_length, without_return}
use Rattle.text_parts.proofs.LineEnds.{without_return_shorter}
use Rattle.text_parts.proofs.LineLengths.{line_length_within}
use Rattle.rpq_io.specs.Counts.{CountsFault}
use Rattle.rpq_io.specs.Held.{RemovesLine}
use Rattle.rpq_io.specs.Outcomes.{AllowsLine}
use Rattle.rpq_io.specs.Reader.{ReaderState, CutsLine, HoldsNoAnswer, GivesLine, IsAtEnd, LosesNothing}
use Rattle.rpq_io.specs.Reader.{ShowsCause, TakesNothing, StaysSound, HasLent}
use Rattle.rpq_io.specs.declared.fault.LineFault.{LineFault}
use Rattle.rpq_io.specs.declared.fault.LineFault.TheVariants.{Read, LongLine, LongStream}
use Rattle.rpq_io.proofs.Counting.{counts_none, counts_as}
use Rattle.rpq_io.proofs.ReaderSteps.{cut_allowed, allowed_some}
use Rattle.rpq_io.proofs.TextAhead.{cut_line}

-- ---- faults that are handed on

-- an answer that hands a fault on is that fault
pub handed : {A : Type 0} (result : Result A LineFault) (fault : LineFault)
    → IsErrAnd result (λ other. other ≡ fault) → result ≡ Err fault
handed result fault hands =
    let found = err_from_is_err_and result hands in
    found.1 ∙ ap (λ (other : LineFault). Err other) found.2

-- of two answers with one fault, what the one is the other is
pub same_fault : {A B : Type 0} (first : Result A LineFault) (second : Result B LineFault)
    (fault other : LineFault)
    → first ≡ Err fault → second ≡ Err fault → first ≡ Err other → second ≡ Err other
same_fault first second fault other is was met =
    let both = sym is ∙ met in
    let same : fault ≡ other = cc in
    was ∙ ap (λ (each : LineFault). Err each) same

module _ {A B : Type 0} (found : Result A LineFault) (result : Result B LineFault)
    (fault : LineFault) (was : found ≡ Err fault) (is : result ≡ Err fault) where
  -- the count of failed reads is that of the call whose fault is handed on
  pub counts_handed : (before after : ℕ) → CountsFault (found ≡ Err Read) before after
      → CountsFault (result ≡ Err Read) before after
  counts_handed before after counts =
      counts_as (found ≡ Err Read) (result ≡ Err Read) before after
      (λ met. same_fault found result fault Read was is met)
      (λ met. same_fault result found fault Read is was met) counts

  -- and so is the cause
  pub cause_handed : {S : Type 0} (left : S → Option (List ℕ)) (old new : ReaderState S)
      → ShowsCause left old new found → ShowsCause left old new result
  cause_handed left old new shows = record {
    read = λ met. shows.read (same_fault result found fault Read is was met);
    long_line = λ met. shows.long_line (same_fault result found fault LongLine is was met);
    long_stream = λ met. shows.long_stream (same_fault result found fault LongStream is was met);
  }

-- ---- what is lent

module _ {S : Type 0} (left : S → Option (List ℕ)) (has_told_end : S → Bool) (faults : S → ℕ)
    (old new : ReaderState S) (unread : ¬ HoldsNoAnswer old → TakesNothing old new)
    (sound : StaysSound left has_told_end old new) where
  -- a line
  pub lent_line : (line : Bor (List ℕ)) → GivesLine left old new line.now
      → faults new.source ≡ faults old.source
      → HasLent left has_told_end faults old (Ok (Some line)) new
  lent_line line gives quiet = record {
    line = gives;
    none = tt;
    err = tt;
    faults_counted = counts_none _ (faults old.source) (faults new.source) (λ met. cc) quiet;
    cause = record {
      read = λ met. absurd (cc met);
      long_line = λ met. absurd (cc met);
      long_stream = λ met. absurd (cc met);
    };
    unread = unread;
    sound = sound;
  }

  -- the end
  pub lent_none : IsAtEnd left old new → faults new.source ≡ faults old.source
      → HasLent left has_told_end faults old (Ok None) new
  lent_none ends quiet = record {
    line = tt;
    none = ends;
    err = tt;
    faults_counted = counts_none _ (faults old.source) (faults new.source) (λ met. cc) quiet;
    cause = record {
      read = λ met. absurd (cc met);
      long_line = λ met. absurd (cc met);
      long_stream = λ met. absurd (cc met);
    };
    unread = unread;
    sound = sound;
  }

  -- a fault that is handed on
  pub lent_fault : (found : Result Bool LineFault)
      (result : Result (Option (Bor (List ℕ))) LineFault) (fault : LineFault)
      → found ≡ Err fault → result ≡ Err fault
      → LosesNothing left old new
      → CountsFault (found ≡ Err Read) (faults old.source) (faults new.source)
      → ShowsCause left old new found
      → HasLent left has_told_end faults old result new
  lent_fault found result fault was is kept counts shows = record {
    line = subst (λ (r : Result (Option (Bor (List ℕ))) LineFault).
        IfOk r (λ answer. IfSome answer (λ lent. GivesLine left old new lent.now))) (sym is) tt;
    none = subst (λ (r : Result (Option (Bor (List ℕ))) LineFault).
        IfOk r (λ answer. IfNone answer (IsAtEnd left old new))) (sym is) tt;
    err = subst (λ (r : Result (Option (Bor (List ℕ))) LineFault).
        OnErr r (LosesNothing left old new)) (sym is) kept;
    faults_counted = counts_handed found result fault was is (faults old.source) (faults new.source)
        counts;
    cause = cause_handed found result fault was is left old new shows;
    unread = unread;
    sound = sound;
  }

-- ---- lines

module _ {S : Type 0} (left : S → Option (List ℕ)) (has_told_end : S → Bool)
    (old middle new : ReaderState S) (kept : LosesNothing left old middle)
    (sound : StaysSound left has_told_end old middle)
    (allows : AllowsLine middle.line_limit middle.is_at_end middle.held_bytes)
    (removes : RemovesLine middle new) where
  -- a reader whose first line was removed stays sound
  pub stays_sound : StaysSound left has_told_end old new
  stays_sound = record {
    line_limit = removes.line_limit ∙ sound.line_limit;
    byte_limit = removes.byte_limit ∙ sound.byte_limit;
    within = omega (arith, sound.within, removes.taken.count, removes.byte_limit);
    fewer = omega (
      arith,
      sound.fewer,
      removes.counted,
      removes.taken.count,
      ap length removes.held,
      length-drop (line_length middle.held_bytes + 1) middle.held_bytes,
      allowed_some middle.line_limit middle.is_at_end middle.held_bytes allows,
    );
    told = ap has_told_end removes.taken.source ∙ sound.told ∙ sym removes.taken.end;
    over = over;
    before_limit = λ told.
        let before = sound.before_limit (sym removes.taken.end ∙ told) in
        omega (arith, before, removes.taken.count, removes.byte_limit);
  }
    where
      over : new.is_at_end ≡ true → IfSome (left new.source) (λ rest. rest ≡ [])
      over told = subst (λ source. IfSome (left source) (λ rest. rest ≡ []))
          (sym removes.taken.source) (sound.over (sym removes.taken.end ∙ told))

  -- the line that was removed is given
  pub gives_line : (line : List ℕ)
      → line ≡ without_return (take (line_length middle.held_bytes) middle.held_bytes)
      → GivesLine left old new line
  gives_line line dropped =
      cut_line left old middle new line kept.had sound.line_limit removes.taken stays_sound.over
      (subst (λ given. CutsLine middle.line_limit middle.is_at_end middle.held_bytes new.held_bytes given)
      (sym dropped)
      (subst (λ rest. CutsLine middle.line_limit middle.is_at_end middle.held_bytes rest
      (without_return (take (line_length middle.held_bytes) middle.held_bytes)))
      (sym removes.held)
      (cut_allowed middle.line_limit middle.is_at_end middle.held_bytes allows)))
      (omega (arith, removes.counted, kept.counted))

  -- the line that was removed is lent
  pub lent_found : (faults : S → ℕ) → (¬ HoldsNoAnswer old → TakesNothing old middle)
      → faults middle.source ≡ faults old.source
      → (line : Bor (List ℕ))
      → line.now ≡ without_return (take (line_length middle.held_bytes) middle.held_bytes)
      → HasLent left has_told_end faults old (Ok (Some line)) new
  lent_found faults unread quiet line dropped =
      lent_line left has_told_end faults old new
      (λ answered. record {
        source = removes.taken.source ∙ (unread answered).source;
        count = removes.taken.count ∙ (unread answered).count;
        end = removes.taken.end ∙ (unread answered).end;
      })
      stays_sound line (gives_line line.now dropped)
      (ap faults removes.taken.source ∙ quiet)

-- the first line of some bytes, where it can be given, is no longer than may be
pub short_line : (line_limit : ℕ) (is_at_end : Bool) (bytes line : List ℕ)
    → AllowsLine line_limit is_at_end bytes
    → line ≡ without_return (take (line_length bytes) bytes) → length line ≤ line_limit
short_line line_limit is_at_end bytes line allows dropped = omega (
  arith,
  ap length dropped,
  without_return_shorter (take (line_length bytes) bytes),
  length-take-le (line_length bytes) bytes (line_length_within bytes),
  allows.fits,
)
