-- The tuples that are kept are those of live entries.
use Rattle.std.proofs.Common.{◌≡◌, ℕ, suc, Bool, true, false, List, [], ◌∷◌, map, refl, ap, ◌∙◌, ◌⊎◌, inl, inr, ⊎_elim}
use Rattle.std.specs.Prelude.{◌↔◌, Contains, if◌then◌else◌}
use Rattle.std.specs.List.{list_any}
use Rattle.std.proofs.lemmas.Bool.{false≢true, or_cases}
use Rattle.std.proofs.lemmas.List.Folds.{list_any_at}
use Rattle.rpq_base.proofs.Members.{cons_members, none_in}
use Rattle.rpq_base.specs.TupleValue.{TupleValue}
use Rattle.rpq_base.specs.declared.data.Entry.{Entry}
use Rattle.rpq_model.specs.Window.{Placed, is_live, live_from}
use Rattle.rpq_model.specs.Query.{Query}
use Rattle.saved_window.specs.Saved.{is_kept, kept_tuples}

-- ---- tests and choices

-- some member passes
pub passes_any : {X : Type 0} (test : X → Bool) (xs : List X) → list_any test xs ≡ true → (x : X) × Contains xs x × (test x ≡ true)
passes_any test [] e = absurd (false≢true e)
passes_any test (x ∷ xs) e = ⊎_elim
    (λ here. (x, (cons_members x xs x).1 (inl refl), here))
    (λ there. let further = passes_any test xs there in (further.0, (cons_members x xs further.0).1 (inr further.1), further.2))
    (or_cases (test x) (list_any test xs) e)

pub any_passes : {X : Type 0} (test : X → Bool) (xs : List X) (x : X) → Contains xs x → test x ≡ true → list_any test xs ≡ true
any_passes test xs x member passes = list_any_at test xs member.0 x member.1 (ap test member.2 ∙ passes)

-- what a list with a first element that may be left out has
pub choice_members : {X : Type 0} (test : Bool) (first : X) (rest : List X) (x : X) →
    Contains (if test then first ∷ rest else rest) x ↔ (((test ≡ true) × (first ≡ x)) ⊎ Contains rest x)
choice_members true first rest x = (
  (λ member. ⊎_elim (λ here. inl (refl, here)) (λ later. inr later) ((cons_members first rest x).0 member)),
  (λ either. (cons_members first rest x).1 (⊎_elim (λ here. inl here.1) (λ later. inr later) either)),
)
choice_members false first rest x = (
  (λ member. inr member),
  (λ either. ⊎_elim (λ here. absurd (false≢true here.0)) (λ later. later) either),
)

-- ---- members of mapped lists

pub map_members : {A B : Type 0} (f : A → B) (xs : List A) (y : B) → Contains (map f xs) y → (x : A) × Contains xs x × (f x ≡ y)
map_members f [] y member = absurd (none_in y member)
map_members f (x ∷ xs) y member = ⊎_elim
    (λ here. (x, (cons_members x xs x).1 (inl refl), here))
    (λ later. let further = map_members f xs y later in (further.0, (cons_members x xs further.0).1 (inr further.1), further.2))
    ((cons_members (f x) (map f xs) y).0 member)

pub mapped_member : {A B : Type 0} (f : A → B) (xs : List A) (x : A) → Contains xs x → Contains (map f xs) (f x)
mapped_member f [] x member = absurd (none_in x member)
mapped_member f (first ∷ xs) x member = (cons_members (f first) (map f xs) (f x)).1 (⊎_elim
    (λ here. inl (ap f here))
    (λ later. inr (mapped_member f xs x later))
    ((cons_members first xs x).0 member))

-- ---- the kept tuples

-- a tuple is that of an entry that is live for a query
pub record IsOfLive (queries : List Query) (now first : ℕ) (entries : List Entry) (tuple : TupleValue) : Type 0 where
  pub query : Query
  pub among : Contains queries query
  pub live : Placed
  pub member : Contains (live_from query.window now first entries) live
  pub is : live.entry.tuple ≡ tuple

pub kept_is_live : (entries : List Entry) (queries : List Query) (now first : ℕ) (tuple : TupleValue) →
    Contains (kept_tuples queries now entries) tuple → IsOfLive queries now first entries tuple
unfolding kept_tuples live_from
kept_is_live [] queries now first tuple member = absurd (none_in tuple member)
kept_is_live (entry ∷ later) queries now first tuple member = ⊎_elim
    (λ here.
    let seen = passes_any (λ (query : Query). is_live query.window now entry later) queries here.0 in
    let placed : Placed = record { place = first; entry = entry } in
    record {
      query = seen.0;
      among = seen.1;
      live = placed;
      member = (choice_members (is_live seen.0.window now entry later) placed (live_from seen.0.window now (suc first) later) placed).1
          (inl (seen.2, refl));
      is = here.1;
    })
    (λ there.
    let further = kept_is_live later queries now (suc first) tuple there in
    let window = further.query.window in
    record {
      query = further.query;
      among = further.among;
      live = further.live;
      member = (choice_members (is_live window now entry later) (record { place = first; entry = entry }) (live_from window now (suc first) later)
          further.live).1 (inr further.member);
      is = further.is;
    })
    ((choice_members (is_kept queries now entry later) entry.tuple (kept_tuples queries now later) tuple).0 member)

pub live_is_kept : (entries : List Entry) (queries : List Query) (now first : ℕ) (query : Query) (live : Placed) →
    Contains queries query → Contains (live_from query.window now first entries) live → Contains (kept_tuples queries now entries) live.entry.tuple
unfolding kept_tuples live_from
live_is_kept [] queries now first query live among member = absurd (none_in live member)
live_is_kept (entry ∷ later) queries now first query live among member =
    (choice_members (is_kept queries now entry later) entry.tuple (kept_tuples queries now later) live.entry.tuple).1 (⊎_elim
    (λ here. inl (
      any_passes (λ (each : Query). is_live each.window now entry later) queries query among here.0,
      ap (λ (each : Placed). each.entry.tuple) here.1,
    ))
    (λ there. inr (live_is_kept later queries now (suc first) query live among there))
    ((choice_members (is_live query.window now entry later) (record { place = first; entry = entry }) (live_from query.window now (suc first) later)
    live).0 member))
