-- Edges gone through from the last to the first, and from the first to the last.
use Rattle.std.proofs.Common.{◌≡◌, ℕ, zero, suc, ◌+◌, ◌<◌, Bool, true, false, not, ◌&&◌, ◌||◌, cond, List, [], ◌∷◌, ◌++◌, length, get_or, drop, refl, sym, ap, ◌∙◌, append_assoc, arith}
use Rattle.std.specs.Prelude.{reverse, if◌then◌else◌}
use Rattle.std.specs.Borrow.{Bor}
use Rattle.std.specs.BTreeSet.{BTreeSet, contains}
use Rattle.std.specs.BTreeMap.{is_at}
use Rattle.std.specs.List.{list_any}
use Rattle.std.proofs.lemmas.List.{drop_more, drop_all, reverse-append}
use Rattle.std.specs.Ordering.{is_eq}
use Rattle.std.proofs.lemmas.Cmp.{tied_itself, nat_list_cmp_total}
use Rattle.std.proofs.lemmas.Map.Lookups.{exact_bytes}
use Rattle.rpq_base.proofs.Equality.{same_tests, names}
use Rattle.rpq_base.specs.Order.{name_cmp}
use Rattle.rpq_base.proofs.InOrder.{is_equal}
use Rattle.rpq_base.specs.Same.{same_name}
use Rattle.rpq_base.specs.declared.data.Edge.{Edge}
use Rattle.path_witness.specs.LastVisits.{is_left, are_last, is_taken, cut_from, by_name, HasSources}

-- what is known of the edges from a place on
pub record AreLastFrom (path : List Edge) (place : ℕ) (lasts : List Bool) (left : BTreeSet (Bor (List ℕ))) : Type 0 where
  pub flags : reverse lasts ≡ are_last (drop place path)
  pub sources : HasSources left (drop place path)

pub last_at_end : (path : List Edge) (lasts : List Bool) (left : BTreeSet (Bor (List ℕ))) → lasts ≡ [] → left.keys ≡ [] → AreLastFrom path (length path) lasts left
last_at_end path lasts left none empty =
    let rest : drop (length path) path ≡ [] = drop_all (length path) path (omega arith) in
    record {
      flags = ap reverse none ∙ sym (ap are_last rest);
      sources = λ name. ap (list_any (is_at (by_name name))) empty ∙ ap (is_left name.now) (sym rest);
    }

-- each edge has its flag
pub as_many_flags : (path : List Edge) → length (are_last path) ≡ length path
as_many_flags [] = refl
as_many_flags (edge ∷ later) = let more = as_many_flags later in omega (arith, more)

-- ---- one edge more, from the last to the first

-- the set finds exactly the equal name
name_at : (key other : Bor (List ℕ)) → is_at (by_name key) other ≡ same_name key.now other.now
name_at key other = same_tests (is_at (by_name key) other) (same_name key.now other.now) (
  (λ e. (names key.now other.now).1 (exact_bytes key.now other.now (is_equal (by_name key other) e))),
  (λ e.
      let same : key.now ≡ other.now = (names key.now other.now).0 e in
      ap (λ (each : List ℕ). is_eq (name_cmp key.now each)) (sym same) ∙ ap is_eq (tied_itself nat_list_cmp_total key.now)),
)

cond_is_or : (test other : Bool) → cond test true other ≡ (test || other)
cond_is_or true other = refl
cond_is_or false other = refl

pub last_more : (path : List Edge) (place : ℕ) (edge : Edge) (key : Bor (List ℕ)) (added : Bool) (lasts more : List Bool) (left after : BTreeSet (Bor (List ℕ))) →
    AreLastFrom path (place + 1) lasts left → place < length path → edge ≡ get_or path place edge → key.now ≡ edge.from →
    added ≡ not (contains by_name left key) →
    ((name : Bor (List ℕ)) → contains by_name after name ≡ cond (is_at (by_name key) name) true (contains by_name left name)) →
    more ≡ lasts ++ added ∷ [] → AreLastFrom path place more after
last_more path place edge key added lasts more left after so_far below is key_is added_is updated more_is =
    let later = drop (place + 1) path in
    let cut : drop place path ≡ edge ∷ later = drop_more path place edge below ∙ ap (λ (first : Edge). first ∷ later) (sym is) in
    let flag : added ≡ not (is_left edge.from later) =
    added_is ∙ (ap not (so_far.sources key) ∙ ap (λ (vertex : List ℕ). not (is_left vertex later)) key_is) in
    record {
      flags =
          ap reverse more_is
          ∙ (reverse-append lasts (added ∷ [])
          ∙ (ap (λ (flags : List Bool). added ∷ flags) so_far.flags
          ∙ (ap (λ (first : Bool). first ∷ are_last later) flag
          ∙ sym (ap are_last cut))));
      sources = λ name.
          updated name
          ∙ (ap (λ (held : Bool). cond (is_at (by_name key) name) true held) (so_far.sources name)
          ∙ (cond_is_or (is_at (by_name key) name) (is_left name.now later)
          ∙ (ap (λ (test : Bool). test || is_left name.now later) (name_at key name ∙ ap (λ (vertex : List ℕ). same_name vertex name.now) key_is)
          ∙ sym (ap (is_left name.now) cut))));
    }

-- ---- one edge more, from the first to the last

-- the flag of the edge at a place
flag_at : (path : List Edge) (place : ℕ) (edge : Edge) (flag : Bool) → place < length path → edge ≡ get_or path place edge →
    flag ≡ get_or (are_last path) place false → flag ≡ not (is_left edge.from (drop (place + 1) path))
flag_at path place edge flag below is flag_is = flag_is ∙ by_place path place edge below is
  where
    by_place : (path : List Edge) (place : ℕ) (edge : Edge) → place < length path → edge ≡ get_or path place edge →
        get_or (are_last path) place false ≡ not (is_left edge.from (drop (place + 1) path))
    by_place [] place edge below is = absurd (omega (arith, below))
    by_place (first ∷ later) zero edge below is = ap (λ (each : Edge). not (is_left each.from later)) (sym is)
    by_place (first ∷ later) (suc place) edge below is =
        let count : suc (place + 1) ≡ suc place + 1 = omega arith in
        by_place later place edge (omega (arith, below)) is
        ∙ ap (λ (count : ℕ). not (is_left edge.from (drop count (first ∷ later)))) count

-- an edge that is taken, and one that isn't
pub taken_more : (path : List Edge) (place : ℕ) (edge : Edge) (flag : Bool) (vertex end : List ℕ) (done : List Edge) → place < length path →
    edge ≡ get_or path place edge → flag ≡ get_or (are_last path) place false → (not (same_name vertex end) && (same_name edge.from vertex && flag)) ≡ true →
    (done ++ edge ∷ []) ++ cut_from edge.to end (drop (place + 1) path) ≡ done ++ cut_from vertex end (drop place path)
taken_more path place edge flag vertex end done below is flag_is takes =
    let later = drop (place + 1) path in
    let cut : drop place path ≡ edge ∷ later = drop_more path place edge below ∙ ap (λ (first : Edge). first ∷ later) (sym is) in
    let taken : is_taken vertex end edge later ≡ true =
    ap (λ (last : Bool). not (same_name vertex end) && (same_name edge.from vertex && last)) (sym (flag_at path place edge flag below is flag_is)) ∙ takes in
    append_assoc done (edge ∷ []) (cut_from edge.to end later)
    ∙ ap (λ (rest : List Edge). done ++ rest)
    (sym (ap (cut_from vertex end) cut ∙ ap (λ (test : Bool). if test then edge ∷ cut_from edge.to end later else cut_from vertex end later) taken))

pub skipped_more : (path : List Edge) (place : ℕ) (edge : Edge) (flag : Bool) (vertex end : List ℕ) (done : List Edge) → place < length path →
    edge ≡ get_or path place edge → flag ≡ get_or (are_last path) place false → (not (same_name vertex end) && (same_name edge.from vertex && flag)) ≡ false →
    done ++ cut_from vertex end (drop (place + 1) path) ≡ done ++ cut_from vertex end (drop place path)
skipped_more path place edge flag vertex end done below is flag_is takes =
    let later = drop (place + 1) path in
    let cut : drop place path ≡ edge ∷ later = drop_more path place edge below ∙ ap (λ (first : Edge). first ∷ later) (sym is) in
    let taken : is_taken vertex end edge later ≡ false =
    ap (λ (last : Bool). not (same_name vertex end) && (same_name edge.from vertex && last)) (sym (flag_at path place edge flag below is flag_is)) ∙ takes in
    ap (λ (rest : List Edge). done ++ rest)
    (sym (ap (cut_from vertex end) cut ∙ ap (λ (test : Bool). if test then edge ∷ cut_from edge.to end later else cut_from vertex end later) taken))
