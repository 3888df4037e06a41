-- Histories that are seen alike stay so, whatever follows.
use Rattle.std.proofs.Common.{ℕ, max, List, [], ◌∷◌, ◌++◌, refl, sym, ap, subst, ◌∙◌, inl, inr, ⊎_elim, arith, append_assoc, append-nil}
use Rattle.rpq_base.specs.declared.data.Entry.{Entry}
use Rattle.rpq_model.specs.Window.{WindowValue}
use Rattle.rpq_model.specs.WindowLaws.{OneEntryMore}
use Rattle.alike_histories.specs.Alike.{SeeAlike}
use Rattle.alike_histories.specs.Laws.{AlikeToItself, AlikeInEitherOrder, AlikeByTheMiddle, AlikeWithMore}

-- ---- in one window

-- a history is seen alike with itself
pub itself : (window : WindowValue) (history : List Entry) → SeeAlike window history history
itself window history = record {
  clocks = refl;
  edges = λ now after edge. ((λ member. member), (λ member. member));
}

-- two histories see alike the other way round too
pub turned : (window : WindowValue) (history other : List Entry) → SeeAlike window history other → SeeAlike window other history
turned window history other alike = record {
  clocks = sym alike.clocks;
  edges = λ now after edge.
      let both = alike.edges now (omega (arith, alike.clocks, after)) edge in
      (both.1, both.0);
}

-- and where two are seen alike with one between them
pub joined : (window : WindowValue) (history middle other : List Entry) → SeeAlike window history middle → SeeAlike window middle other →
    SeeAlike window history other
joined window history middle other first second = record {
  clocks = first.clocks ∙ second.clocks;
  edges = λ now after edge.
      let here = first.edges now after edge in
      let there = second.edges now (omega (arith, first.clocks, after)) edge in (
        (λ member. there.0 (here.0 member)),
        (λ member. here.1 (there.1 member)),
      );
}

-- with one entry more they do again
pub one_more_alike : OneEntryMore → (window : WindowValue) (history other : List Entry) (last : Entry) → SeeAlike window history other →
    SeeAlike window (history ++ last ∷ []) (other ++ last ∷ [])
one_more_alike more window history other last alike =
    let clock_is = (more window 0 history last).clocks in
    record {
      clocks = clock_is ∙ (ap (λ (now : ℕ). max now last.tuple.time) alike.clocks ∙ sym (more window 0 other last).clocks);
      edges = λ now after edge.
          let both = alike.edges now (omega (arith, clock_is, after)) edge in
          let here = (more window now history last).edges edge in
          let there = (more window now other last).edges edge in (
            (λ member. there.1 (⊎_elim (λ seen. inl seen) (λ kept. inr (both.0 kept.0, kept.1)) (here.0 member))),
            (λ member. here.1 (⊎_elim (λ seen. inl seen) (λ kept. inr (both.1 kept.0, kept.1)) (there.0 member))),
          );
    }

-- and whatever follows
pub all_more_alike : OneEntryMore → (later : List Entry) (window : WindowValue) (history other : List Entry) → SeeAlike window history other →
    SeeAlike window (history ++ later) (other ++ later)
all_more_alike more [] window history other alike =
    subst (λ (first : List Entry). SeeAlike window first (other ++ [])) (sym (append-nil history))
    (subst (SeeAlike window history) (sym (append-nil other)) alike)
all_more_alike more (entry ∷ later) window history other alike =
    let further = all_more_alike more later window (history ++ entry ∷ []) (other ++ entry ∷ []) (one_more_alike more window history other entry alike) in
    subst (λ (first : List Entry). SeeAlike window first (other ++ entry ∷ later)) (append_assoc history (entry ∷ []) later)
    (subst (SeeAlike window ((history ++ entry ∷ []) ++ later)) (append_assoc other (entry ∷ []) later) further)

-- ---- in the windows of all queries

pub alike_to_itself : AlikeToItself
alike_to_itself queries history query among = itself query.window history

pub alike_in_either_order : AlikeInEitherOrder
alike_in_either_order queries history other alike query among = turned query.window history other (alike query among)

pub alike_by_the_middle : AlikeByTheMiddle
alike_by_the_middle queries history middle other first second query among =
    joined query.window history middle other (first query among) (second query among)

pub alike_with_more : OneEntryMore → AlikeWithMore
alike_with_more more queries history other later alike query among = all_more_alike more later query.window history other (alike query among)
