-- What each step of the reading gives, by what its fields are.
use Rattle.std.proofs.Common.{◌≡◌, ◌≢◌, ℕ, ◌<◌, ◌≤◌, Bool, true, false, Some, None, Result, Ok, Err}
use Rattle.std.proofs.Common.{List, codes, refl, sym, ap, ◌∙◌}
use Rattle.std.proofs.Common.{arith, inl, inr}
use Rattle.std.specs.Str.{bytes_eq}
use Rattle.std.specs.Cmp.Lexicographic.{same_text, other_text}
use Rattle.std.proofs.lemmas.Bool.{le-leb, lt-leb, cases_lt}
use Rattle.std.proofs.lemmas.Bool.{false≢true}
use Rattle.text_parts.proofs.Digits.{digit_text_passes, digit_text_found, no_digit_text}
use Rattle.text_parts.specs.Numbers.{number_of, IsDigitText, is_digit_text}
use Rattle.rpq_base.specs.declared.data.TheConstants.{MAX_TIME}
use Rattle.rpq_base.specs.Names.{is_name, IsName}
use Rattle.rpq_base.specs.declared.data.Edge.{Edge}
use Rattle.rpq_base.specs.declared.data.Act.{Act}
use Rattle.rpq_base.specs.declared.data.Act.TheVariants.{Insert, Delete, Tick}
use Rattle.tuple_text.specs.declared.read.BadLine.{BadLine}
use Rattle.tuple_text.specs.declared.read.BadLine.TheVariants.{Time, TimeRange, BadName, Op}
use Rattle.tuple_text.specs.declared.read.BadLine.TheVariants.{Until}
use Rattle.tuple_text.specs.Reading.{◌>>=◌, time_of, name_of, edge_of, edge_named, act_of, end_of}
use Rattle.tuple_text.specs.Reading.{ending_of, tick_of, done_at, tuple_at}
use Rattle.tuple_text.specs.Parts.{IsTimeText, GivesNoEnd}

-- no time
pub time_not_digits : (text : List ℕ) → ¬ (IsDigitText text) → time_of text ≡ Err Time
unfolding time_of
time_not_digits text h = rw (no_digit_text text h) refl

-- a time out of range
pub time_too_large : (text : List ℕ) → IsDigitText text → MAX_TIME < number_of text
    → time_of text ≡ Err TimeRange
unfolding time_of
time_too_large text h l = rw (digit_text_passes text h, lt-leb (number_of text) MAX_TIME l) refl

-- a time
pub time_read : (text : List ℕ) → IsDigitText text → number_of text ≤ MAX_TIME
    → time_of text ≡ Ok (number_of text)
unfolding time_of
time_read text h l = rw (digit_text_passes text h, le-leb (number_of text) MAX_TIME l) refl

-- a field that writes a time is read as it
pub time_text_read : (time : ℕ) (text : List ℕ) → IsTimeText time text → time_of text ≡ Ok time
time_text_read time text h = time_read text h.digits (omega (arith, h.value, h.range)) ∙ ap (λ number. Ok number) h.value

-- how a field ends as a time
pub data TimeCase (text : List ℕ) : Type 0 where
  not_digits : ¬ (IsDigitText text) → TimeCase text
  too_large : IsDigitText text → MAX_TIME < number_of text → TimeCase text
  written : IsTimeText (number_of text) text → TimeCase text

pub time_cases : (text : List ℕ) → TimeCase text
time_cases text = by (is_digit_text text) refl
  where
    by : (passes : Bool) → is_digit_text text ≡ passes → TimeCase text
    by false e = not_digits (λ h. false≢true (sym e ∙ digit_text_passes text h))
    by true e =
        let digits = digit_text_found text e in
        elim (cases_lt MAX_TIME (number_of text)) [
          | inl l ↦ too_large digits l
          | inr g ↦ written (record { digits = digits; value = refl; range = g })
        ]

-- a name is read, and what is none is a fault
pub name_read : (place : ℕ) (field : List ℕ) → IsName field → name_of place field ≡ Ok field
unfolding name_of
name_read place field h = rw h refl

pub no_name : (place : ℕ) (field : List ℕ) → is_name field ≡ false
    → name_of place field ≡ Err (BadName place)
unfolding name_of
no_name place field h = rw h refl

-- the first field of an edge that is no name
pub edge_bad_source : (source label target : List ℕ) → is_name source ≡ false
    → edge_of source label target ≡ Err (BadName 2)
unfolding edge_of
edge_bad_source source label target h = rw (no_name 2 source h) refl

pub edge_bad_label : (source label target : List ℕ) → IsName source → is_name label ≡ false
    → edge_of source label target ≡ Err (BadName 3)
unfolding edge_of
edge_bad_label source label target s h = rw (name_read 2 source s, no_name 3 label h) refl

pub edge_bad_target : (source label target : List ℕ) → IsName source → IsName label
    → is_name target ≡ false → edge_of source label target ≡ Err (BadName 4)
unfolding edge_of
edge_bad_target source label target s l h = rw (name_read 2 source s, name_read 3 label l, no_name 4 target h) refl

-- three names are an edge
pub edge_read : (source label target : List ℕ) → IsName source → IsName label → IsName target
    → edge_of source label target ≡ Ok (edge_named source label target)
unfolding edge_of
edge_read source label target s l t = rw (name_read 2 source s, name_read 3 label l, name_read 4 target t) refl

-- how a field ends as a sign
pub data SignCase (edge : Edge) (sign : List ℕ) : Type 0 where
  plus : sign ≡ codes "+" → act_of edge sign ≡ Ok (Insert edge None) → SignCase edge sign
  minus : sign ≡ codes "-" → act_of edge sign ≡ Ok (Delete edge) → SignCase edge sign
  neither : sign ≢ codes "+" → sign ≢ codes "-" → act_of edge sign ≡ Err Op → SignCase edge sign

pub sign_cases : (edge : Edge) (sign : List ℕ) → SignCase edge sign
unfolding act_of
sign_cases edge sign = by (bytes_eq sign (codes "+")) (bytes_eq sign (codes "-")) refl refl
  where
    by : (is_plus is_minus : Bool)
        → bytes_eq sign (codes "+") ≡ is_plus → bytes_eq sign (codes "-") ≡ is_minus
        → SignCase edge sign
    by true is_minus p m = plus (same_text sign (codes "+") (sym p)) (rw p refl)
    by false true p m = minus (same_text sign (codes "-") (sym m)) (rw (p, m) refl)
    by false false p m =
        neither (other_text sign (codes "+") (sym p)) (other_text sign (codes "-") (sym m))
        (rw (p, m) refl)

-- how two fields end as an end
pub data EndCase (word field : List ℕ) : Type 0 where
  some_end : word ≡ codes "until" → IsTimeText (number_of field) field → end_of word field ≡ Ok (number_of field)
      → EndCase word field
  no_end : GivesNoEnd word field → end_of word field ≡ Err Until → EndCase word field

-- a word and a time are an end
pub end_found : (word field : List ℕ) (end : ℕ) → bytes_eq word (codes "until") ≡ true → IsTimeText end field
    → end_of word field ≡ Ok end
unfolding end_of
end_found word field end same is =
    rw (same, digit_text_passes field is.digits, le-leb (number_of field) MAX_TIME (omega (arith, is.value, is.range))) (ap (λ number. Ok number) is.value)

pub end_read : (word field : List ℕ) (end : ℕ) → word ≡ codes "until" → IsTimeText end field
    → end_of word field ≡ Ok end
end_read word field end same is = end_found word field end (ap (λ w. bytes_eq w (codes "until")) same) is

pub end_cases : (word field : List ℕ) → EndCase word field
unfolding end_of
end_cases word field = by (bytes_eq word (codes "until")) refl (time_cases field)
  where
    by : (is_word : Bool) → bytes_eq word (codes "until") ≡ is_word → TimeCase field → EndCase word field
    by false e how = no_end (inl (other_text word (codes "until") (sym e))) (rw e refl)
    by true e (written is) = let same = same_text word (codes "until") (sym e) in some_end same is (end_read word field (number_of field) same is)
    by true e (not_digits bad) = no_end (inr (λ h. bad h.1.digits)) (rw (e, no_digit_text field bad) refl)
    by true e (too_large digits above) =
        no_end (inr (λ h. omega (arith, above, h.1.value, h.1.range)))
        (rw (e, digit_text_passes field digits, lt-leb (number_of field) MAX_TIME above) refl)

-- how a sign and an end of fields come out
pub data UntilCase (edge : Edge) (sign word field : List ℕ) : Type 0 where
  right_end : sign ≡ codes "+" → word ≡ codes "until" → IsTimeText (number_of field) field
      → ending_of edge sign (end_of word field) ≡ Ok (Insert edge (Some (number_of field)))
      → UntilCase edge sign word field
  wrong_sign : sign ≢ codes "+" → ending_of edge sign (end_of word field) ≡ Err Op → UntilCase edge sign word field
  wrong_end : sign ≡ codes "+" → GivesNoEnd word field → ending_of edge sign (end_of word field) ≡ Err Until
      → UntilCase edge sign word field

-- an edge with the sign of an insert and an end
pub ending_read : (edge : Edge) (sign : List ℕ) (until : Result ℕ BadLine) → bytes_eq sign (codes "+") ≡ true
    → ending_of edge sign until ≡ (until >>= λ end. Ok (Insert edge (Some end)))
unfolding ending_of
ending_read edge sign until e = rw e refl

other_sign : (edge : Edge) (sign : List ℕ) (until : Result ℕ BadLine) → bytes_eq sign (codes "+") ≡ false
    → ending_of edge sign until ≡ Err Op
unfolding ending_of
other_sign edge sign until e = rw e refl

pub until_cases : (edge : Edge) (sign word field : List ℕ) → UntilCase edge sign word field
until_cases edge sign word field = by (bytes_eq sign (codes "+")) refl (end_cases word field)
  where
    by : (is_plus : Bool) → bytes_eq sign (codes "+") ≡ is_plus → EndCase word field → UntilCase edge sign word field
    by false e how = wrong_sign (other_text sign (codes "+") (sym e)) (other_sign edge sign (end_of word field) e)
    by true e (some_end same is reads) =
        right_end (same_text sign (codes "+") (sym e)) same is
        (ending_read edge sign (end_of word field) e ∙ ap (λ (until : Result ℕ BadLine). until >>= λ end. Ok (Insert edge (Some end))) reads)
    by true e (no_end none reads) =
        wrong_end (same_text sign (codes "+") (sym e)) none
        (ending_read edge sign (end_of word field) e ∙ ap (λ (until : Result ℕ BadLine). until >>= λ end. Ok (Insert edge (Some end))) reads)

-- a change with a bad time, with a bad edge, and with neither
pub change_bad_time : (field source label target : List ℕ) (acts : Edge → Result Act BadLine) (fault : BadLine)
    → time_of field ≡ Err fault → done_at field source label target acts ≡ Err fault
change_bad_time field source label target acts fault e = rw e refl

pub change_bad_edge : (field source label target : List ℕ) (acts : Edge → Result Act BadLine) (time : ℕ) (fault : BadLine)
    → time_of field ≡ Ok time → edge_of source label target ≡ Err fault
    → done_at field source label target acts ≡ Err fault
change_bad_edge field source label target acts time fault t e = rw (t, e) refl

pub change_read : (field source label target : List ℕ) (acts : Edge → Result Act BadLine) (time : ℕ) (edge : Edge)
    → time_of field ≡ Ok time → edge_of source label target ≡ Ok edge
    → done_at field source label target acts ≡ (acts edge >>= λ act. Ok (tuple_at time act))
change_read field source label target acts time edge t e = rw (t, e) refl

-- a tick with a bad time, and with a good one
pub tick_bad_time : (field : List ℕ) (fault : BadLine) → time_of field ≡ Err fault
    → tick_of field ≡ Err fault
unfolding tick_of
tick_bad_time field fault e = rw e refl

pub tick_read : (field : List ℕ) (time : ℕ) → time_of field ≡ Ok time
    → tick_of field ≡ Ok (tuple_at time Tick)
unfolding tick_of
tick_read field time e = rw e refl
