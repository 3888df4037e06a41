-- The lines of one caller, and lines from their calls and entries.
use Rattle.std.proofs.Common.{◌≡◌, ◌≢◌, ℕ, ◌==◌, Bool, true, false, List, [], ◌∷◌, Option, Some, None, fold, refl, sym, ap, ◌∙◌, unwrap_or}
use Rattle.std.specs.Prelude.{All, filter, if◌then◌else◌}
use Rattle.std.proofs.lemmas.Bool.{false≢true, eq-eqb}
use Rattle.std.proofs.lemmas.List.Elements.{All-head, All-tail}
use Rattle.rpq_base.specs.declared.data.Tuple.{Tuple}
use Rattle.rpq_base.specs.declared.data.Entry.{Entry}
use Rattle.history_model.specs.declared.line.CallAct.{CallAct}
use Rattle.history_model.specs.declared.line.CallAct.TheVariants.{Append, EndStream, Publish, Shut}
use Rattle.history_model.specs.declared.line.Call.{Call}
use Rattle.history_model.specs.declared.line.Line.{Line}
use Rattle.history_model.specs.Lines.{calls, lines_by, entries, number_of, published}
use Rattle.history_model.specs.Legal.{HasItsTuple, IsCaller}
use Rattle.history_model.specs.Joined.{entries_after, lines_of}
use Rattle.history_model.specs.LegalLaws.{LinesAreJoined}

-- ---- the lines of one caller

-- a line without a tuple has no entry, kept or not
none_kept : (mine : Bool) (call : Call) (own : List Line) →
    entries (if mine then record { call = call; tuple = None } ∷ own else own) ≡ entries own
none_kept true call own = refl
none_kept false call own = refl

-- and one with a tuple has its entry where it is kept
one_kept : (mine : Bool) (call : Call) (tuple : Tuple) (own : List Line) →
    entries (if mine then record { call = call; tuple = Some tuple } ∷ own else own)
    ≡ (if mine then record { stream = call.by; tuple = tuple } ∷ entries own else entries own)
one_kept true call tuple own = refl
one_kept false call tuple own = refl

next_kept : (tuple : Option Tuple) (call : Call) (lines : List Line) (stream : ℕ) →
    entries (lines_by stream lines) ≡ filter (λ entry. entry.stream == stream) (entries lines) →
    entries (lines_by stream (record { call = call; tuple = tuple } ∷ lines))
    ≡ filter (λ entry. entry.stream == stream) (entries (record { call = call; tuple = tuple } ∷ lines))
next_kept None call lines stream so_far = none_kept (call.by == stream) call (lines_by stream lines) ∙ so_far
next_kept (Some tuple) call lines stream so_far =
    one_kept (call.by == stream) call tuple (lines_by stream lines)
    ∙ ap (λ (later : List Entry). if call.by == stream then record { stream = call.by; tuple = tuple } ∷ later else later) so_far

pub own_entries : (lines : List Line) (stream : ℕ) →
    entries (lines_by stream lines) ≡ filter (λ entry. entry.stream == stream) (entries lines)
own_entries [] stream = refl
own_entries (line ∷ lines) stream = next_kept line.tuple line.call lines stream (own_entries lines stream)

-- what is published after these lines, where this was before
abbrev published_after : List Line → ℕ → ℕ
published_after lines before = fold (λ (number : ℕ) (line : Line). unwrap_or (number_of line.call.act) number) before lines

-- only the engine publishes
none_published : (streams by : ℕ) (act : CallAct) → IsCaller streams by act → by ≢ 0 → number_of act ≡ None
none_published streams by Append caller other = refl
none_published streams by EndStream caller other = refl
none_published streams by (Publish number) caller other = absurd (other caller)
none_published streams by (Shut why) caller other = refl

next_published : (mine : Bool) (streams before : ℕ) (line : Line) (own : List Line) → (line.call.by == 0) ≡ mine → IsCaller streams line.call.by line.call.act →
    published_after (if mine then line ∷ own else own) before ≡ published_after own (unwrap_or (number_of line.call.act) before)
next_published true streams before line own is caller = refl
next_published false streams before line own is caller =
    ap (λ (number : Option ℕ). published_after own (unwrap_or number before))
    (sym (none_published streams line.call.by line.call.act caller (λ same. false≢true (sym is ∙ eq-eqb line.call.by 0 same))))

own_publishes_from : (lines : List Line) (streams before : ℕ) → All (λ call. IsCaller streams call.by call.act) (calls lines) →
    published_after (lines_by 0 lines) before ≡ published_after lines before
own_publishes_from [] streams before callers = refl
own_publishes_from (line ∷ lines) streams before callers =
    next_published (line.call.by == 0) streams before line (lines_by 0 lines) refl
    (All-head (λ call. IsCaller streams call.by call.act) line.call (calls lines) callers)
    ∙ own_publishes_from lines streams (unwrap_or (number_of line.call.act) before)
    (All-tail (λ call. IsCaller streams call.by call.act) line.call (calls lines) callers)

pub own_publishes : (lines : List Line) (streams : ℕ) → All (λ call. IsCaller streams call.by call.act) (calls lines) →
    published (lines_by 0 lines) ≡ published lines
own_publishes lines streams callers = own_publishes_from lines streams 0 callers

-- ---- lines from their calls and entries

-- one line and those after it
next_joined : (act : CallAct) (tuple : Option Tuple) (by : ℕ) (lines : List Line) →
    HasItsTuple (record { call = record { by = by; act = act }; tuple = tuple }) → lines_of (calls lines) (entries lines) ≡ lines →
    lines_of (calls (record { call = record { by = by; act = act }; tuple = tuple } ∷ lines))
    (entries (record { call = record { by = by; act = act }; tuple = tuple } ∷ lines))
    ≡ record { call = record { by = by; act = act }; tuple = tuple } ∷ lines
next_joined Append None by lines has so_far = absurd (false≢true (has.1 refl))
next_joined Append (Some tuple) by lines has so_far = ap (λ (later : List Line). record { call = record { by = by; act = Append }; tuple = Some tuple } ∷ later) so_far
next_joined EndStream None by lines has so_far = ap (λ (later : List Line). record { call = record { by = by; act = EndStream }; tuple = None } ∷ later) so_far
next_joined EndStream (Some tuple) by lines has so_far = let is = has.0 refl in cc
next_joined (Publish number) None by lines has so_far = ap (λ (later : List Line). record { call = record { by = by; act = Publish number }; tuple = None } ∷ later) so_far
next_joined (Publish number) (Some tuple) by lines has so_far = let is = has.0 refl in cc
next_joined (Shut why) None by lines has so_far = ap (λ (later : List Line). record { call = record { by = by; act = Shut why }; tuple = None } ∷ later) so_far
next_joined (Shut why) (Some tuple) by lines has so_far = let is = has.0 refl in cc

whole : (lines : List Line) → All HasItsTuple lines → lines_of (calls lines) (entries lines) ≡ lines
whole [] all = refl
whole (line ∷ lines) all =
    next_joined line.call.act line.tuple line.call.by lines (All-head HasItsTuple line lines all) (whole lines (All-tail HasItsTuple line lines all))

heads : (given : List Call) (told : List Entry) → calls (lines_of given told) ≡ given
heads [] told = refl
heads (call ∷ given) told = ap (λ (later : List Call). call ∷ later) (heads given (entries_after call.act told))

pub lines_are_joined : LinesAreJoined
lines_are_joined = record { whole = whole; heads = heads }
