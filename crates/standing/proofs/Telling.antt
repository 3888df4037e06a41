-- A circle while it is told of an event, member by member.
use Rattle.std.proofs.Common.{◌≡◌, ℕ, suc, ◌+◌, ◌<◌, Bool, true, false, not, List, [], ◌∷◌, ◌++◌, length, get_or, set, take, drop, map, remove, filter, refl, sym, ap, ap₂, subst, subst₂, ◌∙◌, append_assoc, append-nil, arith}
use Rattle.std.specs.List.{AllZip}
use Rattle.std.proofs.lemmas.List.{set_at, get_or_at, take_at, drop_at, map-set, get_or-map, length_push, length-append, length-map, set-get_or, get_or-set_same, map-append, map_push, take-map, drop-map, take-set, drop-set-lt}
use Rattle.std.proofs.lemmas.List.Elements.{filter-append}
use Rattle.rpq_base.specs.declared.data.Event.{Event}
use Rattle.standing.specs.Objects.{ObjectValue}
use Rattle.standing.specs.Told.{HasHeard}
use Rattle.standing.proofs.Zips.{zip-append}
use Rattle.standing.specs.Circles.{CircleValue, circle_value, leaves, stays, Tells, TellsSome, TellsEach}

-- the members before this place have heard the event, and no other has
pub record SoFar (event : Event) (old now : CircleValue) (place : ℕ) : Type 0 where
  pub first : List ObjectValue
  pub told : List ObjectValue
  pub untold : List ObjectValue
  pub split : old.members ≡ first ++ untold
  pub heard : AllZip (HasHeard (event ∷ [])) first told
  pub stayed : now.members ≡ filter (stays event) told ++ untold
  pub reached : length (filter (stays event) told) ≡ place
  pub gone : now.left ≡ old.left ++ filter (leaves event) told

-- ---- the beginning and the end

pub none_told_yet : (event : Event) (circle : CircleValue) → SoFar event circle circle 0
none_told_yet event circle = record {
  first = [];
  told = [];
  untold = circle.members;
  split = refl;
  heard = tt;
  stayed = refl;
  reached = refl;
  gone = sym (append-nil circle.left);
}

pub some_told : (event : Event) (old now : CircleValue) (place : ℕ) → SoFar event old now place → TellsSome event old now
some_told event old now place far = (
  far.untold,
  record {
    first = far.first;
    told = far.told;
    split = far.split;
    heard = far.heard;
    stayed = far.stayed;
    gone = far.gone;
  },
)

-- ---- several events

-- all events, and then one more
pub each_more : (events : List Event) (event : Event) (old between new : CircleValue) → TellsEach events old between → Tells event between new →
    TellsEach (events ++ event ∷ []) old new
each_more [] event old between new each tells = (new, subst (λ (circle : CircleValue). Tells event circle new) each tells, refl)
each_more (first ∷ rest) event old between new each tells = (each.0, each.1, each_more rest event each.0 between new each.2 tells)

-- ---- one member more

-- the member at the place, and those behind it
record HasNext (front rest : List ObjectValue) (next : ObjectValue) : Type 0 where
  behind : List ObjectValue
  is : rest ≡ next ∷ behind

next_of : (front rest : List ObjectValue) (place : ℕ) (next : ObjectValue) → length front ≡ place → place < length (front ++ rest) →
    next ≡ get_or (front ++ rest) place next → HasNext front rest next
next_of front [] place next reached below is = absurd (omega (arith, below, reached, length-append front []))
next_of front (x ∷ rest) place next reached below is =
    record { behind = rest; is = ap (λ (each : ObjectValue). each ∷ rest) (sym (is ∙ get_or_at front x rest next place reached)) }

kept_one : (test : ObjectValue → Bool) (objects : List ObjectValue) (one : ObjectValue) → test one ≡ true →
    filter test (objects ++ one ∷ []) ≡ filter test objects ++ one ∷ []
kept_one test objects one is = filter-append test objects (one ∷ []) ∙ rw is refl

dropped_one : (test : ObjectValue → Bool) (objects : List ObjectValue) (one : ObjectValue) → test one ≡ false →
    filter test (objects ++ one ∷ []) ≡ filter test objects
dropped_one test objects one is = filter-append test objects (one ∷ []) ∙ rw is (append-nil (filter test objects))

-- a member that stays
pub one_stays : (event : Event) (old now : CircleValue) (place : ℕ) (before after : ObjectValue) → SoFar event old now place →
    place < length now.members → before ≡ get_or now.members place before → HasHeard (event ∷ []) before after → leaves event after ≡ false →
    SoFar event old (circle_value (set now.members place after) now.left) (place + 1)
one_stays event old now place before after far below is heard stay =
    let front = filter (stays event) far.told in
    let next = next_of front far.untold place before far.reached
    (subst (λ (members : List ObjectValue). place < length members) far.stayed below)
    (is ∙ ap (λ (members : List ObjectValue). get_or members place before) far.stayed) in
    let kept : filter (stays event) (far.told ++ after ∷ []) ≡ front ++ after ∷ [] = kept_one (stays event) far.told after (ap not stay) in
    record {
      first = far.first ++ before ∷ [];
      told = far.told ++ after ∷ [];
      untold = next.behind;
      split = far.split ∙ ap (λ (rest : List ObjectValue). far.first ++ rest) next.is ∙ sym (append_assoc far.first (before ∷ []) next.behind);
      heard = zip-append (HasHeard (event ∷ [])) far.first (before ∷ []) far.told (after ∷ []) far.heard (heard, tt);
      stayed = ap (λ (members : List ObjectValue). set members place after) (far.stayed ∙ ap (λ (rest : List ObjectValue). front ++ rest) next.is)
          ∙ set_at front before next.behind after place far.reached
          ∙ sym (append_assoc front (after ∷ []) next.behind)
          ∙ ap (λ (list : List ObjectValue). list ++ next.behind) (sym kept);
      reached = ap length kept ∙ length_push front after ∙ ap (λ (count : ℕ). count + 1) far.reached;
      gone = far.gone ∙ ap (λ (list : List ObjectValue). old.left ++ list) (sym (dropped_one (leaves event) far.told after stay));
    }

-- a member that leaves
pub one_leaves : (event : Event) (old now : CircleValue) (place : ℕ) (before after : ObjectValue) → SoFar event old now place →
    place < length now.members → before ≡ get_or now.members place before → HasHeard (event ∷ []) before after → leaves event after ≡ true →
    SoFar event old (circle_value (remove now.members place) (now.left ++ after ∷ [])) place
one_leaves event old now place before after far below is heard leave =
    let front = filter (stays event) far.told in
    let next = next_of front far.untold place before far.reached
    (subst (λ (members : List ObjectValue). place < length members) far.stayed below)
    (is ∙ ap (λ (members : List ObjectValue). get_or members place before) far.stayed) in
    let dropped : filter (stays event) (far.told ++ after ∷ []) ≡ front = dropped_one (stays event) far.told after (ap not leave) in
    let whole : now.members ≡ front ++ before ∷ next.behind = far.stayed ∙ ap (λ (rest : List ObjectValue). front ++ rest) next.is in
    record {
      first = far.first ++ before ∷ [];
      told = far.told ++ after ∷ [];
      untold = next.behind;
      split = far.split ∙ ap (λ (rest : List ObjectValue). far.first ++ rest) next.is ∙ sym (append_assoc far.first (before ∷ []) next.behind);
      heard = zip-append (HasHeard (event ∷ [])) far.first (before ∷ []) far.told (after ∷ []) far.heard (heard, tt);
      stayed = ap (λ (members : List ObjectValue). remove members place) whole
          ∙ ap₂ (λ (list more : List ObjectValue). list ++ more) (take_at front (before ∷ next.behind) place far.reached)
          (ap (λ (members : List ObjectValue). drop (suc place) members) (sym (append_assoc front (before ∷ []) next.behind))
          ∙ drop_at (front ++ before ∷ []) next.behind (suc place) (length_push front before ∙ omega (arith, far.reached)))
          ∙ ap (λ (list : List ObjectValue). list ++ next.behind) (sym dropped);
      reached = ap length dropped ∙ far.reached;
      gone = ap (λ (list : List ObjectValue). list ++ after ∷ []) far.gone
          ∙ append_assoc old.left (filter (leaves event) far.told) (after ∷ [])
          ∙ ap (λ (list : List ObjectValue). old.left ++ list) (sym (kept_one (leaves event) far.told after leave));
    }

-- ---- the same in a list of objects

-- an object that is put back as it was
pub same_members : {S : Type 0} (seen : S → ObjectValue) (members : List S) (place : ℕ) (before after : S) →
    place < length members → before ≡ get_or members place before → seen after ≡ seen before →
    map seen (set members place after) ≡ map seen members
same_members {S} seen members place before after below is same =
    map-set seen members place after
    ∙ ap (λ (each : ObjectValue). set (map seen members) place each)
    (same ∙ ap seen is ∙ sym (get_or-map seen members place before (seen before) below))
    ∙ set-get_or (map seen members) place (seen before)

at_member : {S : Type 0} (seen : S → ObjectValue) (members : List S) (place : ℕ) (member : S) →
    place < length members → member ≡ get_or members place member → seen member ≡ get_or (map seen members) place (seen member)
at_member seen members place member below is = ap seen is ∙ sym (get_or-map seen members place member (seen member) below)

pub member_stays : {S : Type 0} (seen : S → ObjectValue) (event : Event) (old : CircleValue) (members left : List S) (place : ℕ) (before after : S) →
    SoFar event old (circle_value (map seen members) (map seen left)) place →
    place < length members → before ≡ get_or members place before →
    HasHeard (event ∷ []) (seen before) (seen after) → leaves event (seen after) ≡ false →
    SoFar event old (circle_value (map seen (set members place after)) (map seen left)) (place + 1)
member_stays seen event old members left place before after far below is heard stay =
    subst (λ (list : List ObjectValue). SoFar event old (circle_value list (map seen left)) (place + 1)) (sym (map-set seen members place after))
    (one_stays event old (circle_value (map seen members) (map seen left)) place (seen before) (seen after) far
    (omega (arith, below, length-map members seen)) (at_member seen members place before below is) heard stay)

pub member_leaves : {S : Type 0} (seen : S → ObjectValue) (event : Event) (old : CircleValue) (members left : List S) (place : ℕ) (before after taken : S) →
    SoFar event old (circle_value (map seen members) (map seen left)) place →
    place < length members → before ≡ get_or members place before →
    HasHeard (event ∷ []) (seen before) (seen after) → leaves event (seen after) ≡ true →
    taken ≡ get_or (set members place after) place taken →
    SoFar event old (circle_value (map seen (remove (set members place after) place)) (map seen (left ++ taken ∷ []))) place
member_leaves {S} seen event old members left place before after taken far below is heard leave took =
    let far_now = one_leaves event old (circle_value (map seen members) (map seen left)) place (seen before) (seen after) far
    (omega (arith, below, length-map members seen)) (at_member seen members place before below is) heard leave in
    let rest : remove (set members place after) place ≡ remove members place =
    ap₂ (λ (front behind : List S). front ++ behind) (take-set members place after) (drop-set-lt (suc place) members place after (omega arith)) in
    let removed : map seen (remove (set members place after) place) ≡ remove (map seen members) place =
    ap (map seen) rest ∙ map-append seen (take place members) (drop (suc place) members)
    ∙ ap₂ (λ (front behind : List ObjectValue). front ++ behind) (sym (take-map seen place members)) (sym (drop-map seen (suc place) members)) in
    let pushed : map seen (left ++ taken ∷ []) ≡ map seen left ++ seen after ∷ [] =
    map_push seen left taken
    ∙ ap (λ (each : S). map seen left ++ seen each ∷ []) (took ∙ get_or-set_same members place after taken below) in
    subst₂ (λ (list gone : List ObjectValue). SoFar event old (circle_value list gone) place) (sym removed) (sym pushed) far_now
