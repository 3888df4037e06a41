-- What all windows have passed isn't saved.
use Rattle.std.proofs.Common.{◌≡◌, ℕ, suc, ◌+◌, ◌<◌, ◌≤◌, max, Bool, true, false, not, List, [], ◌∷◌, length, map, drop, fold}
use Rattle.std.proofs.Common.{refl, sym, ap, ◌∙◌, ◌⊎◌, inl, inr, ⊎_elim, arith, length-drop}
use Rattle.std.specs.Prelude.{nat_le, nat_lt, cond, if◌then◌else◌, Option, Some, None}
use Rattle.std.specs.List.{position, position_or_len}
use Rattle.std.specs.Option.{unwrap_or}
use Rattle.std.proofs.lemmas.Bool.{false≢true, and_parts, false_from_ne_true}
use Rattle.std.proofs.lemmas.Bool.Decides.{nat_tests}
use Rattle.rpq_base.specs.OwnEnds.{is_before_end}
use Rattle.rpq_base.specs.TupleValue.{TupleValue}
use Rattle.rpq_base.specs.declared.data.Act.{Act}
use Rattle.rpq_base.specs.declared.data.Act.TheVariants.{Insert, Delete, Tick}
use Rattle.rpq_base.specs.declared.data.Entry.{Entry}
use Rattle.rpq_model.specs.Window.{WindowValue, clock, is_in_window, is_seen, is_deleted, is_live_act, is_live}
use Rattle.rpq_model.specs.Query.{Query}
use Rattle.saved_window.specs.Reach.{one_reaches}
use Rattle.saved_window.specs.Saved.{is_kept, kept_tuples, with_clock, saved}
use Rattle.saved_window.proofs.Kept.{passes_any, any_passes}
use Rattle.saved_window.proofs.More.{saved_some}

-- a live act is in the window
in_window : (act : Act) (window : WindowValue) (now time : ℕ) (later : List Entry) →
    is_live_act window now time act later ≡ true → is_in_window window now time ≡ true
in_window (Insert edge until) window now time later live =
    let seen = (and_parts (is_seen window now time until) (not (is_deleted later edge)) live).0 in
    (and_parts (is_in_window window now time) (is_before_end now until) seen).0
in_window (Delete edge) window now time later live = absurd (false≢true live)
in_window Tick window now time later live = absurd (false≢true live)

-- an entry that the window of no query reaches isn't kept
unreached : (queries : List Query) (now : ℕ) (entry : Entry) (later : List Entry) → one_reaches queries now entry.tuple.time ≡ false →
    is_kept queries now entry later ≡ false
unreached queries now entry later none = false_from_ne_true (is_kept queries now entry later) (λ kept.
    let found = passes_any (λ (query : Query). is_live query.window now entry later) queries kept in
    let reached = in_window entry.tuple.act found.0.window now entry.tuple.time later found.2 in
    false≢true (sym none ∙ any_passes (λ (query : Query). is_in_window query.window now entry.tuple.time) queries found.0 found.1 reached))

-- whether an entry has at least this time
abbrev pub is_from : ℕ → Entry → Bool
is_from first entry = nat_le first entry.tuple.time

-- how many entries stand before the first one that has
abbrev pub count_before : ℕ → List Entry → ℕ
count_before first entries = position_or_len (is_from first) entries

-- one more in front of those that are left out
behind_first : (n : ℕ) (entry : Entry) (later : List Entry) → drop (1 + n) (entry ∷ later) ≡ drop n later
behind_first n entry later = ap (λ (k : ℕ). drop k (entry ∷ later)) {x = 1 + n} {y = suc n} (omega arith)

-- ---- the clock

-- the greatest of the times of entries and another number
abbrev pub greatest : ℕ → List Entry → ℕ
greatest least entries = fold max least (map (λ (entry : Entry). entry.tuple.time) entries)

-- an entry that has it ends them
greatest_first : (entry : Entry) (later : List Entry) (first a b : ℕ) → a ≤ first → b ≤ first → is_from first entry ≡ true →
    greatest a (entry ∷ later) ≡ greatest b (entry ∷ later)
greatest_first entry later first a b a_less b_less is =
    let least : first ≤ entry.tuple.time = grind (arith, nat_tests, is) in
    ap (λ (most : ℕ). greatest most later) {x = max a entry.tuple.time} {y = max b entry.tuple.time} (omega (arith, a_less, b_less, least))

either : (test : Bool) → (test ≡ false) ⊎ (test ≡ true)
either false = inl refl
either true = inr refl

-- it stays where such entries are left out as have less than this time, if one has it
greatest_behind : (entries : List Entry) (first a b : ℕ) → a ≤ first → b ≤ first → count_before first entries < length entries →
    greatest a (drop (count_before first entries) entries) ≡ greatest b entries
greatest_behind [] first a b a_less b_less there = absurd (omega (arith, there))
greatest_behind (entry ∷ later) first a b a_less b_less there = ⊎_elim
    (λ is.
    let less : entry.tuple.time < first = grind (arith, nat_tests, is) in
    let count_is : count_before first (entry ∷ later) ≡ 1 + count_before first later =
    ap (λ (test : Bool). cond (not test) (1 + count_before first later) 0) is in
    ap (λ (n : ℕ). greatest a (drop n (entry ∷ later))) count_is
    ∙ (ap (greatest a) (behind_first (count_before first later) entry later)
    ∙ greatest_behind later first a (max b entry.tuple.time) a_less (omega (arith, b_less, less)) (omega (arith, there, count_is))))
    (λ is.
    let count_is : count_before first (entry ∷ later) ≡ 0 =
    ap (λ (test : Bool). cond (not test) (1 + count_before first later) 0) is in
    ap (λ (n : ℕ). greatest a (drop n (entry ∷ later))) count_is ∙ greatest_first entry later first a b a_less b_less is)
    (either (is_from first entry))

clock_behind : (entries : List Entry) (first : ℕ) → count_before first entries < length entries →
    clock (drop (count_before first entries) entries) ≡ clock entries
clock_behind entries first there = greatest_behind entries first 0 0 (omega arith) (omega arith) there

-- ---- what is kept

-- first entries that no window reaches are left out
kept_behind : (entries : List Entry) (queries : List Query) (now first : ℕ) → ((time : ℕ) → one_reaches queries now time ≡ nat_le first time) →
    kept_tuples queries now (drop (count_before first entries) entries) ≡ kept_tuples queries now entries
unfolding kept_tuples
kept_behind [] queries now first reach = refl
kept_behind (entry ∷ later) queries now first reach = by_test (is_from first entry) refl (kept_behind later queries now first reach)
  where
    by_test : (test : Bool) → is_from first entry ≡ test →
        kept_tuples queries now (drop (count_before first later) later) ≡ kept_tuples queries now later →
        kept_tuples queries now (drop (cond (not test) (1 + count_before first later) 0) (entry ∷ later))
        ≡ kept_tuples queries now (entry ∷ later)
    by_test true is further = refl
    by_test false is further =
        ap (kept_tuples queries now) (behind_first (count_before first later) entry later)
        ∙ (further
        ∙ ap (λ (test : Bool). if test then entry.tuple ∷ kept_tuples queries now later else kept_tuples queries now later)
        (sym (unreached queries now entry later (reach entry.tuple.time ∙ is))))

-- ---- what is saved

passed_save_none : (entries : List Entry) (queries : List Query) (first : ℕ) →
    ((time : ℕ) → one_reaches queries (clock entries) time ≡ nat_le first time) → count_before first entries < length entries →
    saved queries (drop (count_before first entries) entries) ≡ saved queries entries
passed_save_none entries queries first reach there =
    let behind = drop (count_before first entries) entries in
    saved_some behind queries (omega (arith, there, length-drop (count_before first entries) entries))
    ∙ (ap (λ (now : ℕ). with_clock now (kept_tuples queries now behind)) (clock_behind entries first there)
    ∙ (ap (with_clock (clock entries)) (kept_behind entries queries (clock entries) first reach)
    ∙ sym (saved_some entries queries (omega (arith, there)))))

pub passed_saves : (entries : List Entry) (queries : List Query) (first : ℕ) (found : Option ℕ) →
    ((time : ℕ) → one_reaches queries (clock entries) time ≡ nat_le first time) → found ≡ position (is_from first) entries →
    saved queries (drop (unwrap_or found 0) entries) ≡ saved queries entries
passed_saves entries queries first found reach is = by_test (nat_lt count (length entries)) refl
  where
    count : ℕ
    count = count_before first entries

    without : ℕ → List TupleValue
    without n = saved queries (drop n entries)

    by_test : (test : Bool) → nat_lt count (length entries) ≡ test → without (unwrap_or found 0) ≡ saved queries entries
    by_test true some =
        let there : count < length entries = grind (arith, nat_tests, some) in
        ap without (ap (λ (each : Option ℕ). unwrap_or each 0) (is ∙ ap (λ (test : Bool). cond test (Some count) None) some))
        ∙ passed_save_none entries queries first reach there
    by_test false none = ap without (ap (λ (each : Option ℕ). unwrap_or each 0) (is ∙ ap (λ (test : Bool). cond test (Some count) None) none))
