-- Lines that are written one after another.
use Rattle.std.proofs.Common.{◌≡◌, ℕ, ◌+◌, ◌<◌, List, [], ◌∷◌, ◌++◌, length}
use Rattle.std.proofs.Common.{Result, Ok, Err, take, drop, get_or, Option, refl, ap, sym, subst}
use Rattle.std.proofs.Common.{◌∙◌, append_assoc, arith}
use Rattle.std.specs.List.{flat_map}
use Rattle.std.specs.Prelude.{IsErr}
use Rattle.std.specs.Io.KnownBytes.{append_known}
use Rattle.std.proofs.lemmas.List.{append-nil, take-append-drop, take_more, drop_more}
use Rattle.std.proofs.lemmas.List.Concat.{flat_map-append}
use Rattle.rpq_io.specs.Counts.{Rose, CountsFault}
use Rattle.live_asks.specs.declared.ends.ReaderEnd.{ReaderEnd}
use Rattle.stream_tuples.specs.declared.ends.StreamEnd.{StreamEnd}
use Rattle.rpq_text.specs.ErrorLines.{end_line, end_lines, reader_line, reader_lines}
use Rattle.rpq_threads.specs.Written.{GrewByPrefix}
use Rattle.rpq_run.specs.Written.{Tells, TellsLines}
use Rattle.rpq_io.proofs.Bytes.{append_known-append}

abbrev pub Is : List ℕ → List ℕ → Type 0
Is text all = all ≡ text

module _ {Sink T E : Type 0} (written : Sink → Option (List ℕ)) (faults : Sink → ℕ) where
  -- what was written, whether a write failed or not
  pub told_prefix : (text : List ℕ) (old new : Sink) (result : Result T E)
      → Tells written faults text old new result → GrewByPrefix (Is text) (written old) (written new)
  told_prefix text old new (Ok x) told = record
      { front = text; rest = []; of_kind = append-nil text; written = told.whole refl }
  told_prefix text old new (Err e) told =
      let part = told.part refl in
      record { front = part.front; rest = part.rest; of_kind = sym part.cut; written = part.written }

  told_whole : (text : List ℕ) (old new : Sink) (result : Result T E)
      → Tells written faults text old new result → ¬ Rose (faults old) (faults new)
      → written new ≡ append_known (written old) text
  told_whole text old new (Ok x) told not = told.whole refl
  told_whole text old new (Err e) told not = absurd (not (told.counted.rose refl))

  pub told_lines : (text : List ℕ) (old new : Sink) (result : Result T E)
      → Tells written faults text old new result → TellsLines written faults text old new
  told_lines text old new result told = record {
    prefix = told_prefix text old new result told;
    whole = told_whole text old new result told;
  }

-- a count that stayed, and then counts a fault
pub counted_after : (fault : Type 0) (before between after : ℕ) → between ≡ before
    → CountsFault fault between after → CountsFault fault before after
counted_after fault before between after same counts = subst (λ n. CountsFault fault n after) same counts

-- of two texts that are nothing together the first is nothing
pub nil_front : (front more : List ℕ) → front ++ more ≡ [] → front ≡ []
nil_front [] more none = refl
nil_front (byte ∷ front) more none = absurd cc

-- an equal text
pub tells_as : {Sink T E : Type 0} {written : Sink → Option (List ℕ)} {faults : Sink → ℕ}
    {text other : List ℕ} {old new : Sink} {result : Result T E} → text ≡ other
    → Tells written faults text old new result → Tells written faults other old new result
tells_as {written = written} {faults = faults} {old = old} {new = new} {result = result} same told =
    subst (λ t. Tells written faults t old new result) same told

-- the first of two texts fails
pub tells_failed : {Sink T E U F : Type 0} {written : Sink → Option (List ℕ)} {faults : Sink → ℕ}
    {text : List ℕ} {old new : Sink} {error : E} {result : Result U F} (more : List ℕ) → IsErr result
    → Tells {T = T} written faults text old new (Err error) → Tells written faults (text ++ more) old new result
tells_failed {result = Ok x} more fails told = absurd (cc fails)
tells_failed {result = Err f} more fails told =
    let part = told.part refl in
    record {
      whole = λ ok. absurd (cc ok);
      part = λ _. record {
        front = part.front;
        rest = part.rest ++ more;
        cut = ap (λ t. t ++ more) part.cut ∙ append_assoc part.front part.rest more;
        proper = λ none. part.proper (nil_front part.rest more none);
        written = part.written;
      };
      counted = record {
        never_falls = told.counted.never_falls;
        rose = λ _. told.counted.rose refl;
        quiet = λ fine. absurd (fine refl);
      };
    }

-- a text, and then another
pub tells_then : {Sink T E U F : Type 0} {written : Sink → Option (List ℕ)} {faults : Sink → ℕ}
    {text more : List ℕ} {old between new : Sink} {done : T} {result : Result U F}
    → Tells {E = E} written faults text old between (Ok done) → Tells written faults more between new result
    → Tells written faults (text ++ more) old new result
tells_then {written = written} {faults = faults} {text = text} {more = more} {old = old} {between = between}
    {new = new} {result = result} told later =
    let whole = told.whole refl in
    let same = told.counted.quiet (λ err. cc err) in
    record {
      whole = λ ok. later.whole ok ∙ (ap (λ (w : Option (List ℕ)). append_known w more) whole
          ∙ append_known-append (written old) text more);
      part = λ err.
          let part = later.part err in
          record {
            front = text ++ part.front;
            rest = part.rest;
            cut = ap (λ t. text ++ t) part.cut ∙ sym (append_assoc text part.front part.rest);
            proper = part.proper;
            written = part.written ∙ (ap (λ (w : Option (List ℕ)). append_known w part.front) whole
                ∙ append_known-append (written old) text part.front);
          };
      counted = counted_after (IsErr result) (faults old) (faults between) (faults new) same later.counted;
    }

-- one of some texts fails, after those before it
pub tells_in_turn : {Sink T E U F : Type 0} {written : Sink → Option (List ℕ)} {faults : Sink → ℕ}
    {text : List ℕ} {old between new : Sink} {error : E} {result : Result U F}
    (done more all : List ℕ) → done ++ (text ++ more) ≡ all
    → written between ≡ append_known (written old) done → faults between ≡ faults old → IsErr result
    → Tells {T = T} written faults text between new (Err error) → Tells written faults all old new result
tells_in_turn {Sink} {T} {E} {written = written} {faults = faults} {old = old} {between = between} done more all is
    so_far quiet fails told =
    let fine : Result (Unit {0}) E = Ok tt in
    let before : Tells written faults done old between fine = record {
      whole = λ _. so_far;
      part = λ err. absurd (cc err);
      counted = record { never_falls = omega (arith, quiet); rose = λ err. absurd (cc err); quiet = λ _. quiet };
    } in
    tells_as is (tells_then before (tells_failed more fails told))

-- lines so far, and those of the ends that are left
pub record HasToldEnds (ends : List StreamEnd) (place : ℕ) (before now : Option (List ℕ)) : Type 0 where
  pub done : List ℕ
  pub cut : done ++ end_lines (place + 1) (drop place ends) ≡ end_lines 1 ends
  pub written : now ≡ append_known before done

-- the lines from one end on
pub ends_from : (ends : List StreamEnd) (place : ℕ) (end : StreamEnd) → place < length ends
    → end ≡ get_or ends place end
    → end_lines (place + 1) (drop place ends)
    ≡ end_line (place + 1) end ++ end_lines ((place + 1) + 1) (drop (place + 1) ends)
ends_from ends place end inside is =
    ap (end_lines (place + 1)) (drop_more ends place end inside
    ∙ ap (λ (e : StreamEnd). e ∷ drop (place + 1) ends) (sym is))

pub ends_more : (ends : List StreamEnd) (place : ℕ) (end : StreamEnd) (before now next : Option (List ℕ))
    → place < length ends → end ≡ get_or ends place end → HasToldEnds ends place before now
    → next ≡ append_known now (end_line (place + 1) end) → HasToldEnds ends (place + 1) before next
ends_more ends place end before now next inside is told written = record {
  done = told.done ++ end_line (place + 1) end;
  cut = append_assoc told.done (end_line (place + 1) end) (end_lines ((place + 1) + 1) (drop (place + 1) ends))
      ∙ (ap (λ (t : List ℕ). told.done ++ t) (sym (ends_from ends place end inside is)) ∙ told.cut);
  written = written ∙ (ap (λ (w : Option (List ℕ)). append_known w (end_line (place + 1) end)) told.written
      ∙ append_known-append before told.done (end_line (place + 1) end));
}

-- the same of the readers
pub record HasToldReaders (ends : List ReaderEnd) (place : ℕ) (before now : Option (List ℕ)) : Type 0 where
  pub done : List ℕ
  pub cut : done ++ reader_lines (place + 1) (drop place ends) ≡ reader_lines 1 ends
  pub written : now ≡ append_known before done

pub readers_from : (ends : List ReaderEnd) (place : ℕ) (end : ReaderEnd) → place < length ends
    → end ≡ get_or ends place end
    → reader_lines (place + 1) (drop place ends)
    ≡ reader_line (place + 1) end ++ reader_lines ((place + 1) + 1) (drop (place + 1) ends)
readers_from ends place end inside is =
    ap (reader_lines (place + 1)) (drop_more ends place end inside
    ∙ ap (λ (e : ReaderEnd). e ∷ drop (place + 1) ends) (sym is))

pub readers_more : (ends : List ReaderEnd) (place : ℕ) (end : ReaderEnd) (before now next : Option (List ℕ))
    → place < length ends → end ≡ get_or ends place end → HasToldReaders ends place before now
    → next ≡ append_known now (reader_line (place + 1) end) → HasToldReaders ends (place + 1) before next
readers_more ends place end before now next inside is told written = record {
  done = told.done ++ reader_line (place + 1) end;
  cut = append_assoc told.done (reader_line (place + 1) end) (reader_lines ((place + 1) + 1) (drop (place + 1) ends))
      ∙ (ap (λ (t : List ℕ). told.done ++ t) (sym (readers_from ends place end inside is)) ∙ told.cut);
  written = written ∙ (ap (λ (w : Option (List ℕ)). append_known w (reader_line (place + 1) end)) told.written
      ∙ append_known-append before told.done (reader_line (place + 1) end));
}

-- one of the pieces
pub split_at : {X : Type 0} (f : X → List ℕ) (xs : List X) (i : ℕ) (d : X) → i < length xs
    → d ≡ get_or xs i d
    → flat_map f (take i xs) ++ (f d ++ flat_map f (drop (i + 1) xs)) ≡ flat_map f xs
split_at {X} f xs i d inside is =
    ap (λ (x : X). flat_map f (take i xs) ++ (f x ++ flat_map f (drop (i + 1) xs))) is
    ∙ sym (ap (flat_map f) (sym (take-append-drop i xs))
    ∙ (flat_map-append f (take i xs) (drop i xs)
    ∙ ap (λ t. flat_map f (take i xs) ++ flat_map f t) (drop_more xs i d inside)))

-- one of some texts of a list fails
pub tells_element : {Sink T E U F X : Type 0} {written : Sink → Option (List ℕ)} {faults : Sink → ℕ}
    {old between new : Sink} {error : E} {result : Result U F}
    (f : X → List ℕ) (xs : List X) (i : ℕ) (d : X) → i < length xs → d ≡ get_or xs i d
    → written between ≡ append_known (written old) (flat_map f (take i xs)) → faults between ≡ faults old
    → IsErr result → Tells {T = T} written faults (f d) between new (Err error)
    → Tells written faults (flat_map f xs) old new result
tells_element f xs i d inside is so_far quiet fails told =
    tells_in_turn (flat_map f (take i xs)) (flat_map f (drop (i + 1) xs)) (flat_map f xs) (split_at f xs i d inside is)
    so_far quiet fails told

-- one text more of a list is written
pub elements_more : {X : Type 0} (f : X → List ℕ) (xs : List X) (i : ℕ) (d : X)
    (before now next : Option (List ℕ)) → i < length xs → d ≡ get_or xs i d
    → now ≡ append_known before (flat_map f (take i xs)) → next ≡ append_known now (f d)
    → next ≡ append_known before (flat_map f (take (i + 1) xs))
elements_more {X} f xs i d before now next inside is so_far written =
    let more : take (i + 1) xs ≡ take i xs ++ d ∷ [] =
    take_more xs i d inside ∙ ap (λ (x : X). take i xs ++ x ∷ []) (sym is) in
    let all : flat_map f (take (i + 1) xs) ≡ flat_map f (take i xs) ++ f d =
    ap (flat_map f) more ∙ (flat_map-append f (take i xs) (d ∷ [])
    ∙ ap (λ (t : List ℕ). flat_map f (take i xs) ++ t) (append-nil (f d))) in
    written ∙ (ap (λ (w : Option (List ℕ)). append_known w (f d)) so_far
    ∙ (append_known-append before (flat_map f (take i xs)) (f d) ∙ ap (append_known before) (sym all)))
