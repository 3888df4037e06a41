-- What a call makes of one line.
use Rattle.std.proofs.Common.{◌≡◌, ℕ, ◌+◌, ◌<◌, List, take, Option, None, Result, Ok, Err, ap, sym, []}
use Rattle.std.proofs.Common.{subst, ◌∙◌, arith, inl, inr, Bool}
use Rattle.std.specs.Prelude.{option_to_list, IfSome}
use Rattle.text_parts.specs.Lines.{line_length}
use Rattle.rpq_io.specs.Reader.{ReaderState, HoldsNoAnswer, GivesLine, LosesNothing, TakesNothing}
use Rattle.rpq_io.specs.Reader.{StaysSound, PassesLine, StaysInLine}
use Rattle.text_items.specs.declared.ends.TextEnd.{TextEnd}
use Rattle.text_items.specs.declared.ends.TextEnd.TheVariants.{Read, LongText, Line}
use Rattle.text_items.specs.Limits.{line_limit}
use Rattle.text_items.specs.Reading.{Reading, EndsLine, IsMet}
use Rattle.text_items.specs.Taken.{AreItemsByEnd}
use Rattle.text_items.specs.Progress.{IsTextReader, HasRead, ReadsOn, EndsReading}
use Rattle.text_items.proofs.Reading.{still_sound, goes_forward, gives_good, gives_end, ends_front}
use Rattle.text_items.proofs.Reading.{keeps_read, stays_behind, front_of, long_ends, new_sound}
use Rattle.text_items.proofs.Reading.{passes_forward, passes_good, pass_read, pass_long_text}

-- what a reading makes of an end that is that of a line, or want of memory
met_end : {A E : Type 0} (reading : Reading A E) (gives : Result (Option A) E) (end : TextEnd E)
    → ((fault : E) → gives ≡ Err fault → IsMet reading (Line fault)) → EndsLine gives end
    → IsMet reading end
met_end reading gives end line (inl none) = subst (λ e. IsMet reading e) (sym none) tt
met_end reading gives end line (inr fault) =
    subst (λ e. IsMet reading e) (sym fault.1) (line fault.0 fault.2)

-- a call that lent a line
module _ {S A E : Type 0} (reading : Reading A E) (left : S → Option (List ℕ))
    (has_told_end : S → Bool) (old new : ReaderState S) (sound : IsTextReader left old)
    (kept : StaysSound left has_told_end old new)
    (unread : (HoldsNoAnswer old → ⊥) → TakesNothing old new) (number : ℕ)
    (numbered : number ≡ old.line_count + 1) (line : List ℕ) (gives : GivesLine left old new line) where
  abbrev given : Result (Option A) E
  given = reading.line number line

  of_number : (found : Result (Option A) E) → given ≡ found → reading.line new.line_count line ≡ found
  of_number found is = ap (λ n. reading.line n line) (gives.counted ∙ sym numbered) ∙ is

  pub line_read : (found : Option A) → given ≡ Ok found
      → ReadsOn reading left old new (option_to_list found)
  line_read found good = record {
    sound = still_sound reading left has_told_end old new sound kept unread;
    forward = goes_forward reading left has_told_end old new sound kept unread line gives;
    read = gives_good reading left has_told_end old new sound kept unread line gives found
        (of_number (Ok found) good);
  }

  pub line_ends : (end : TextEnd E) → EndsLine given end → EndsReading reading left old new end
  line_ends end which = record {
    tied = λ file items read. tied which file items read;
    met = met_end reading given end (λ fault is. (number, line, inl is)) which;
  }
    where
      tied : EndsLine given end → (file : Option (List ℕ)) (items : List A)
          → HasRead reading left file items old
          → IfSome file (λ text. AreItemsByEnd reading new.byte_limit text (left new.source) items end)
      tied (inl none) file items read =
          subst (λ e. IfSome file (λ text. AreItemsByEnd reading new.byte_limit text (left new.source) items e))
          (sym none) (ends_front reading left has_told_end old new sound kept unread file items
          gives.bytes gives.had read)
      tied (inr fault) file items read =
          subst (λ e. IfSome file (λ text. AreItemsByEnd reading new.byte_limit text (left new.source) items e))
          (sym fault.1) (gives_end reading left has_told_end old new sound kept unread line gives
          fault.0 (of_number (Err fault.0) fault.2) file items read)

-- a call that read on after one that lost nothing
module _ {S A E : Type 0} (reading : Reading A E) (left : S → Option (List ℕ))
    (has_told_end : S → Bool) (old middle new : ReaderState S) (sound : IsTextReader left old)
    (kept : StaysSound left has_told_end old middle)
    (unread : (HoldsNoAnswer old → ⊥) → TakesNothing old middle) (loses : LosesNothing left old middle) where
  pub then_reads : (found : List A) → ReadsOn reading left middle new found
      → ReadsOn reading left old new found
  then_reads found reads = record {
    sound = reads.sound;
    forward = omega (
      arith,
      reads.forward,
      stays_behind reading left has_told_end old middle sound kept unread none no_items loses,
    );
    read = λ file items read. reads.read file items
        (keeps_read reading left has_told_end old middle sound kept unread file items loses read);
  }
    where
      none : Option (List ℕ)
      none = None

      no_items : List A
      no_items = []

  pub then_ends : (end : TextEnd E) → EndsReading reading left middle new end
      → EndsReading reading left old new end
  then_ends end ends = record {
    tied = λ file items read. ends.tied file items
        (keeps_read reading left has_told_end old middle sound kept unread file items loses read);
    met = ends.met;
  }

-- a line that is too long
module _ {S A E : Type 0} (reading : Reading A E) (left : S → Option (List ℕ))
    (old : ReaderState S) (sound : IsTextReader left old) (number : ℕ)
    (numbered : number ≡ old.line_count + 1) (long : line_limit < line_length old.held_bytes)
    (front : List ℕ) (is_front : front ≡ take old.line_limit old.held_bytes) where
  abbrev given_long : Result (Option A) E
  given_long = reading.long number front

  of_front : (found : Result (Option A) E) → given_long ≡ found
      → reading.long (old.line_count + 1) (take line_limit old.held_bytes) ≡ found
  of_front found is =
      ap (λ n. reading.long n (take line_limit old.held_bytes)) (sym numbered)
      ∙ (ap (reading.long number)
      (ap (λ n. take n old.held_bytes) (sym sound.lines) ∙ sym is_front) ∙ is)

  pub long_line_ends : (end : TextEnd E) → EndsLine given_long end → EndsReading reading left old old end
  long_line_ends end which = record {
    tied = λ file items read. tied which file items read;
    met = met_end reading given_long end (λ fault is. (number, front, inr is)) which;
  }
    where
      tied : EndsLine given_long end → (file : Option (List ℕ)) (items : List A)
          → HasRead reading left file items old
          → IfSome file (λ text. AreItemsByEnd reading old.byte_limit text (left old.source) items end)
      tied (inl none) file items read =
          subst (λ e. IfSome file (λ text. AreItemsByEnd reading old.byte_limit text (left old.source) items e))
          (sym none) (front_of reading left file items old sound read)
      tied (inr fault) file items read =
          subst (λ e. IfSome file (λ text. AreItemsByEnd reading old.byte_limit text (left old.source) items e))
          (sym fault.1) (long_ends reading left old sound long fault.0
          (of_front (Err fault.0) fault.2) file items read)

  module _ (has_told_end : S → Bool) (new : ReaderState S)
      (kept : StaysSound left has_told_end old new) (found : Option A) (is : given_long ≡ Ok found) where
    pub long_line_read : PassesLine left old new → ReadsOn reading left old new (option_to_list found)
    long_line_read passes = record {
      sound = new_sound reading left has_told_end old new sound kept long found (of_front (Ok found) is);
      forward = passes_forward reading left has_told_end old new sound kept long found
          (of_front (Ok found) is) passes;
      read = passes_good reading left has_told_end old new sound kept long found
          (of_front (Ok found) is) passes;
    }

    pub long_line_unread : StaysInLine left old new → EndsReading reading left old new Read
    long_line_unread within = record {
      tied = pass_read reading left has_told_end old new sound kept long found
          (of_front (Ok found) is) within;
      met = tt;
    }

    pub long_line_cut : StaysInLine left old new → new.taken_count ≡ new.byte_limit
        → EndsReading reading left old new LongText
    long_line_cut within full = record {
      tied = pass_long_text reading left has_told_end old new sound kept long found
          (of_front (Ok found) is) within full;
      met = tt;
    }
