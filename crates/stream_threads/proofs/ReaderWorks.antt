-- Readers with their passes, and what their workers gave.
use Rattle.std.proofs.Common.{◌≡◌, ℕ, ◌+◌, ◌<◌, List, [], ◌∷◌, ◌++◌, length, map, get_or, refl, sym, ap}
use Rattle.std.proofs.Common.{subst, ◌∙◌, arith, Option, take, drop, append-nil}
use Rattle.std.proofs.lemmas.List.{map-append, get_or_default, get_or-map, take_all, drop_all}
use Rattle.std.proofs.lemmas.List.FromFn.{get_or-map-range_with_len}
use Rattle.std.proofs.lemmas.List.Elements.{All-push, All-same}
use Rattle.turn_lock.specs.Passes.{PassValue}
use Rattle.history_model.specs.declared.line.Line.{Line}
use Rattle.history_model.specs.World.{Terms}
use Rattle.stream_history.specs.History.{HistoryValue, IsPassOf}
use Rattle.live_asks.specs.declared.reader.AskReader.{AskReader}
use Rattle.live_asks.specs.Readers.{IsNewAskReader}
use Rattle.stream_threads.specs.declared.reader_work.ReaderWork.{ReaderWork}
use Rattle.stream_threads.specs.Started.{new_pass}
use Rattle.stream_threads.specs.Live.{IsNewReaderWork, AreNewReaderWorks, HaveNewPasses, HasServed}
use Rattle.stream_threads.specs.Live.{HaveServed}
use Rattle.stream_threads.proofs.Numbering.{Each, yields_more}
use Rattle.stream_threads.proofs.Serving.{by_place, of_map}

-- ---- readers that begin

module _ {S K : Type 0} (left : S → Option (List ℕ)) (faults : S → ℕ)
    (written : K → Option (List ℕ)) (failures : K → ℕ) (history : HistoryValue) where
  -- one reader more
  pub all_new : (works after : List (ReaderWork S K)) (one : ReaderWork S K) (pass : Each)
      (asker : AskReader S K) → AreNewReaderWorks left faults written failures history works →
      after ≡ works ++ one ∷ [] → IsPassOf history pass →
      IsNewAskReader left faults written failures asker → one.pass ≡ pass →
      one.reader ≡ asker.reader → one.replies ≡ asker.replies →
      AreNewReaderWorks left faults written failures history after
  all_new works after one pass asker were ends is new same reads answers =
      let Is = IsNewReaderWork left faults written failures history in
      All-same Is _ _ ends (All-push Is works one were (record {
        is = subst (IsPassOf history) (sym same) is;
        new = subst (λ replies. IsNewAskReader left faults written failures
            (record { reader = one.reader; replies = replies })) (sym answers)
            (subst (λ reader. IsNewAskReader left faults written failures
            (record { reader = reader; replies = asker.replies })) (sym reads) new);
      }))

module _ {S K : Type 0} (works after : List (ReaderWork S K)) (one : ReaderWork S K)
    (ends : after ≡ works ++ one ∷ []) where
  -- its pass comes before those that are left
  pub passes_more : (passes rest all : List Each) (pass : Each) →
      map (λ (work : ReaderWork S K). work.pass) works ++ passes ≡ all → passes ≡ pass ∷ rest →
      one.pass ≡ pass → map (λ (work : ReaderWork S K). work.pass) after ++ rest ≡ all
  passes_more passes rest all pass was step same =
      let pass_of : ReaderWork S K → Each = λ work. work.pass in
      ap (λ (l : List (ReaderWork S K)). map pass_of l ++ rest) ends
      ∙ (ap (λ (l : List Each). l ++ rest) (map-append pass_of works (one ∷ []))
      ∙ (ap (λ (p : Each). (map pass_of works ++ p ∷ []) ++ rest) same
      ∙ yields_more (map pass_of works) passes rest all pass was step))

  -- and what it asks
  pub sources_more : (yielded : List (AskReader S K)) (asker : AskReader S K) →
      map (λ (work : ReaderWork S K). work.reader.source) works
      ≡ map (λ (each : AskReader S K). each.reader.source) yielded → one.reader ≡ asker.reader →
      map (λ (work : ReaderWork S K). work.reader.source) after
      ≡ map (λ (each : AskReader S K). each.reader.source) (yielded ++ asker ∷ [])
  sources_more yielded asker were same =
      let source_of : ReaderWork S K → S = λ work. work.reader.source in
      let asked : AskReader S K → S = λ each. each.reader.source in
      ap (map source_of) ends
      ∙ (map-append source_of works (one ∷ [])
      ∙ (ap (λ (l : List S). l ++ source_of one ∷ []) were
      ∙ (ap (λ r. map asked yielded ++ r.source ∷ []) same
      ∙ sym (map-append asked yielded (asker ∷ [])))))

-- nothing is left
pub all_done : {A : Type 0} (done rest all : List A) → done ++ rest ≡ all → length rest ≡ 0 →
    done ≡ all
all_done done [] all was none = sym (append-nil done) ∙ was
all_done done (x ∷ rest) all was none = absurd (let no : ⊥ = omega (arith, none) in no)

-- ---- what the workers gave, by places and side by side

-- a list that was lent as a slice comes back as the slice was left
pub given_back : {A : Type 0} (old new : List A) (len : ℕ) → length new ≡ length old →
    len ≡ length old → take len (new ++ drop (length new) old) ≡ new
given_back {A} old new len many is =
    ap (λ (rest : List A). take len (new ++ rest)) (drop_all (length new) old (omega (arith, many)))
    ∙ (ap (take len) (append-nil new) ∙ take_all len new (omega (arith, many, is)))

module _ {S K : Type 0} (left : S → Option (List ℕ)) (faults : S → ℕ)
    (written : K → Option (List ℕ)) (failures : K → ℕ) (history : HistoryValue) where
  -- what was said of a reader before and after is said of what they are
  pub served_so : (was before is after : ReaderWork S K) → was ≡ before → is ≡ after →
      HasServed left faults written failures history was.reader.source was.pass is →
      HasServed left faults written failures history before.reader.source before.pass after
  served_so was before is after same left_so served =
      subst (λ (one : ReaderWork S K).
      HasServed left faults written failures history before.reader.source before.pass one) left_so
      (subst (λ (one : ReaderWork S K).
      HasServed left faults written failures history one.reader.source one.pass is) same served)

-- the pass at a place of those that are in order
pass_at : {S K : Type 0} (history : HistoryValue) (works : List (ReaderWork S K)) (from : ℕ) →
    HaveNewPasses history from works → (i : ℕ) (d : ReaderWork S K) → i < length works →
    (get_or works i d).pass ≡ new_pass history (from + i)
pass_at {S} {K} history works from passes i d below =
    let pass_of : ReaderWork S K → Each = λ work. work.pass in
    sym (get_or-map pass_of works i d (pass_of d) below)
    ∙ (ap (λ (l : List Each). get_or l i (pass_of d)) passes
    ∙ get_or-map-range_with_len (new_pass history) from (length works) i (from + i) (pass_of d) below
    refl)

module _ {S K : Type 0} (left : S → Option (List ℕ)) (faults : S → ℕ)
    (written : K → Option (List ℕ)) (failures : K → ℕ) (history : HistoryValue)
    (works after : List (ReaderWork S K)) (many : length after ≡ length works)
    (each : (i : ℕ) (d : ReaderWork S K) → i < length works →
    HasServed left faults written failures history (get_or works i d).reader.source
    (get_or works i d).pass (get_or after i d)) (from : ℕ)
    (passes : HaveNewPasses history from works) where
  abbrev Has : ℕ → ReaderWork S K → ReaderWork S K → Type 0
  Has number work one =
      HasServed left faults written failures history work.reader.source (new_pass history number) one

  has : (i : ℕ) (d : ReaderWork S K) → i < length works →
      Has (from + i) (get_or works i d) (get_or after i d)
  has i d below =
      subst (λ (pass : PassValue Line Terms). HasServed left faults written failures history
      (get_or works i d).reader.source pass (get_or after i d))
      (pass_at history works from passes i d below) (each i d below)

  at_each : (i : ℕ) (a b : ReaderWork S K) → i < length works →
      Has (from + i) (get_or works i a) (get_or after i b)
  at_each i a b below =
      let within : i < length after = omega (arith, below, many) in
      subst (λ (one : ReaderWork S K). Has (from + i) (get_or works i a) one)
      (get_or_default after i a b within) (has i a below)

  pub have_served : HaveServed left faults written failures history from
      (map (λ (work : ReaderWork S K). work.reader.source) works) after
  have_served =
      of_map (λ (work : ReaderWork S K). work.reader.source)
      (λ number (before : S) (one : ReaderWork S K).
      HasServed left faults written failures history before (new_pass history number) one) from
      works after (by_place Has from works after many at_each)
