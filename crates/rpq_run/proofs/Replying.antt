-- Sessions that are written one after another.
use Rattle.std.proofs.Common.{◌≡◌, ℕ, zero, suc, ◌+◌, ◌<◌, List, [], ◌∷◌, ◌++◌, length, drop, get_or, Option}
use Rattle.std.proofs.Common.{Result, Err, refl, ap, sym, ◌∙◌, append_assoc, arith}
use Rattle.std.specs.Prelude.{map}
use Rattle.std.specs.Io.KnownBytes.{append_known}
use Rattle.std.proofs.lemmas.List.{drop_more, length-map}
use Rattle.ask_text.specs.Answered.{AnsweredValue}
use Rattle.ask_text.specs.Replies.{session_text, sessions_text, replies}
use Rattle.rpq_io.proofs.Bytes.{append_known-append}
use Rattle.rpq_run.specs.declared.fault.TextFault.{TextFault}
use Rattle.rpq_run.specs.declared.fault.TextFault.TheVariants.{Write}
use Rattle.rpq_run.specs.Parts.{WritesPart}
use Rattle.rpq_run.specs.Replies.{texts_of}
use Rattle.rpq_run.proofs.ErrorTexts.{counted_after, nil_front}

-- the sessions before this place are written
pub record HasReplied (told : List (List (List ℕ))) (place : ℕ) (before now : Option (List ℕ)) : Type 0 where
  pub done : List ℕ
  pub cut : done ++ sessions_text (place + 1) (drop place told) ≡ replies told
  pub written : now ≡ append_known before done

-- the replies of the session at a place
pub told_at : {X : Type 0} (own : X → List AnsweredValue) (sessions : List X) (place : ℕ) (session : X)
    → place < length sessions → session ≡ get_or sessions place session
    → drop place (texts_of (map own sessions))
    ≡ map (λ one. one.text) (own session) ∷ drop (place + 1) (texts_of (map own sessions))
told_at {X} own sessions place session inside is =
    let told : X → List (List ℕ) = λ s. map (λ one. one.text) (own s) in
    let within : place < length (texts_of (map own sessions)) = omega (
      arith,
      inside,
      length-map sessions own,
      length-map (map own sessions) (λ (o : List AnsweredValue). map (λ one. one.text) o),
    ) in
    drop_more (texts_of (map own sessions)) place (told session) within
    ∙ ap (λ (texts : List (List ℕ)). texts ∷ drop (place + 1) (texts_of (map own sessions)))
    (at sessions place inside ∙ ap told (sym is))
  where
    at : (xs : List X) (k : ℕ) → k < length xs
        → get_or (texts_of (map own xs)) k (map (λ one. one.text) (own session))
        ≡ map (λ one. one.text) (own (get_or xs k session))
    at [] k below = absurd (omega (arith, below))
    at (x ∷ xs) zero below = refl
    at (x ∷ xs) (suc k) below = at xs k (omega (arith, below))

-- one session more
pub replied_more : (told : List (List (List ℕ))) (texts : List (List ℕ)) (place : ℕ)
    (before now next : Option (List ℕ)) → drop place told ≡ texts ∷ drop (place + 1) told
    → HasReplied told place before now → next ≡ append_known now (session_text (place + 1) texts)
    → HasReplied told (place + 1) before next
replied_more told texts place before now next here has written = record {
  done = has.done ++ session_text (place + 1) texts;
  cut = append_assoc has.done (session_text (place + 1) texts) (sessions_text ((place + 1) + 1) (drop (place + 1) told))
      ∙ (ap (λ (t : List ℕ). has.done ++ t) (sym (ap (sessions_text (place + 1)) here)) ∙ has.cut);
  written = written ∙ (ap (λ (w : Option (List ℕ)). append_known w (session_text (place + 1) texts)) has.written
      ∙ append_known-append before has.done (session_text (place + 1) texts));
}

module _ {Sink : Type 0} {written : Sink → Option (List ℕ)} {faults : Sink → ℕ} {old between new : Sink} where
  -- one of some texts fails, after those before it
  pub part_in_turn : {text : List ℕ} {fault : TextFault} (done more all : List ℕ)
      → done ++ (text ++ more) ≡ all → written between ≡ append_known (written old) done
      → faults between ≡ faults old → WritesPart written faults text between new (Err fault)
      → WritesPart written faults all old new (Err fault)
  part_in_turn {text} {fault} done more all is so_far quiet part = record {
    whole = λ ok. absurd (cc ok);
    write = λ failed.
        let front = part.write failed in
        record {
          front = done ++ front.front;
          rest = front.rest ++ more;
          cut = sym is ∙ (ap (λ (t : List ℕ). done ++ (t ++ more)) front.cut ∙ regrouped front.front front.rest);
          proper = λ none. front.proper (nil_front front.rest more none);
          written = onward front.front front.written;
        };
    memory = λ short.
        let front = part.memory short in
        record {
          front = done ++ front.front;
          rest = front.rest ++ more;
          of_kind = sym (regrouped front.front front.rest)
              ∙ (ap (λ (t : List ℕ). done ++ (t ++ more)) front.of_kind ∙ is);
          written = onward front.front front.written;
        };
    counted = counted_after (◌≡◌ {A = Result (Unit {0}) TextFault} (Err fault) (Err Write)) (faults old)
        (faults between) (faults new) quiet part.counted;
  }
    where
      regrouped : (front rest : List ℕ) → done ++ ((front ++ rest) ++ more) ≡ (done ++ front) ++ (rest ++ more)
      regrouped front rest = ap (λ (t : List ℕ). done ++ t) (append_assoc front rest more)
          ∙ sym (append_assoc done front (rest ++ more))

      onward : (front : List ℕ) → written new ≡ append_known (written between) front
          → written new ≡ append_known (written old) (done ++ front)
      onward front grew = grew ∙ (ap (λ (w : Option (List ℕ)). append_known w front) so_far
          ∙ append_known-append (written old) done front)
