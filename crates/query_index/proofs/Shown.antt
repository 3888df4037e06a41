-- The answers that a forest shows: rows of roots that are made anew, and the rows of a query.
use Rattle.std.proofs.Common.{◌≡◌, ℕ, ◌+◌, ◌<◌, ◌≤◌, List, [], length, drop, get_or}
use Rattle.std.proofs.Common.{Option, Some, None, sym, ap, subst, ◌∙◌, ◌⊎◌, inl, inr, ⊎_elim, arith}
use Rattle.std.specs.Prelude.{Contains}
use Rattle.std.proofs.lemmas.Bool.{cases_eq}
use Rattle.std.proofs.lemmas.List.{drop_more}
use Rattle.std.proofs.lemmas.Option.{none-some, same_Some}
use Rattle.rpq_base.specs.declared.data.Entry.{Entry}
use Rattle.rpq_base.proofs.Members.{cons_members, none_in}
use Rattle.rpq_model.specs.declared.mode.Mode.{Mode}
use Rattle.rpq_model.specs.Query.{Query, path_query}
use Rattle.name_table.specs.Names.{number_of}
use Rattle.delta_forest.specs.Forest.{ForestValue, kept}
use Rattle.answer_rows.specs.Answers.{Answer, AreRows}
use Rattle.answer_view.specs.View.{AreRowsOf}
use Rattle.index_laws.specs.LawsOfIndexes.{TellsAnswers}
use Rattle.query_index.specs.Shown.{ShowAllBut, Shows}
use Rattle.query_index.specs.Showing.{HaveShown, Renews}
use Rattle.query_index.proofs.Telling.{below}

-- ---- rows of a query

pub rows_of_query : (query : Query) (history : List Entry) (names : List (List ℕ))
    (forest : ForestValue) (rows : List Answer) →
    TellsAnswers query history names forest.dfa (kept forest) → AreRows rows →
    HaveShown query.mode names forest rows → AreRowsOf (path_query query) history rows
rows_of_query query history names forest rows tells sorted shown = record {
  sorted = sorted;
  exact = λ pair until. (
    (λ there.
        let found = (shown pair until).0 there in
        let shows = found.1 in
        ((tells.pairs pair found.0 shows.vertex (shows.from, shows.to)).until until).1
        ((λ mode. shows.apart mode), shows.end)),
    (λ is.
        let found = tells.numbered pair is.answer in
        let both = ((tells.pairs pair found.0 found.1 found.2).until until).0 is in
        (shown pair until).1 (
          found.0,
          record {
            vertex = found.1;
            from = found.2.0;
            to = found.2.1;
            apart = λ holds. both.0 holds;
            end = both.1;
          },
        )),
  );
}

-- ---- rows that are made anew, one after another

module _ (mode : Mode) (names : List (List ℕ)) (forest : ForestValue) where
  -- without a name nothing is shown
  pub nothing_shown : length names ≡ 0 → HaveShown mode names forest []
  nothing_shown none = λ pair until. (
    (λ there. absurd (none-some until there)),
    (λ shown. absurd (omega (arith, none, below names pair.from shown.0 shown.1.from))),
  )

  -- more rows may differ from what is shown
  pub show_all_but : (kind other : ℕ → Type 0) (rows : List Answer) →
      ((root : ℕ) → root < length names → kind root → other root) →
      ShowAllBut kind mode names forest rows → ShowAllBut other mode names forest rows
  show_all_but kind other rows gives shown = λ pair until fresh.
      shown pair until (λ stale. fresh (
        stale.0,
        stale.1,
        gives stale.0 (below names pair.from stale.0 stale.1) stale.2,
      ))

  -- no row does
  pub have_shown : (kind : ℕ → Type 0) (rows : List Answer) →
      ((root : ℕ) → root < length names → kind root → ⊥) →
      ShowAllBut kind mode names forest rows → HaveShown mode names forest rows
  have_shown kind rows none shown = λ pair until.
      shown pair until (λ stale.
      none stale.0 (below names pair.from stale.0 stale.1) stale.2)

  -- a number is this one or not
  is_or_not : (found : Option ℕ) (number : ℕ) →
      (found ≡ Some number) ⊎ (found ≡ Some number → ⊥)
  is_or_not None number = inr (λ is. none-some number is)
  is_or_not (Some other) number = ⊎_elim
      (λ (same : other ≡ number). inl (ap Some same))
      (λ differ. inr (λ is. differ (same_Some other number is)))
      (cases_eq other number)

  -- a row is made anew, and there are fewer others that may differ
  pub renewed_more : (kind other : ℕ → Type 0) (root : ℕ) (old new : List Answer) →
      ((each : ℕ) → kind each → (each ≡ root) ⊎ other each) →
      ShowAllBut kind mode names forest old → Renews mode names forest root old new →
      ShowAllBut other mode names forest new
  renewed_more kind other root old new left shown renews = λ pair until fresh.
      ⊎_elim
      (λ (here : number_of names pair.from ≡ Some root).
      let row = renews.here pair until here in (
        (λ there. (root, row.0 there)),
        (λ found. row.1 (subst (λ (each : ℕ). Shows mode names forest each pair until)
            (same_Some found.0 root (sym found.1.from ∙ here)) found.1)),
      ))
      (λ (apart : number_of names pair.from ≡ Some root → ⊥).
      let same = renews.others pair apart in
      let was = shown pair until (λ stale. ⊎_elim
      (λ is. apart (stale.1 ∙ ap Some is))
      (λ further. fresh (stale.0, stale.1, further))
      (left stale.0 stale.2)) in (
        (λ there. was.0 (sym same ∙ there)),
        (λ found. same ∙ was.1 found),
      ))
      (is_or_not (number_of names pair.from) root)

  -- one of the roots from here on is this one or a later one
  this_or_later : (roots : List ℕ) (index d each : ℕ) → index < length roots →
      Contains (drop index roots) each →
      (each ≡ get_or roots index d) ⊎ Contains (drop (index + 1) roots) each
  this_or_later roots index d each inside member = ⊎_elim
      (λ here. inl (sym {A = ℕ} here))
      (λ later. inr later)
      ((cons_members (get_or roots index d) (drop (index + 1) roots) each).0
      (subst (λ (left : List ℕ). Contains left each) (drop_more roots index d inside) member))

  -- the row of this root is made anew, and those of later ones are left
  pub renewed_at : (roots : List ℕ) (index d : ℕ) (old new : List Answer) →
      index < length roots → ShowAllBut (Contains (drop index roots)) mode names forest old →
      Renews mode names forest (get_or roots index d) old new →
      ShowAllBut (Contains (drop (index + 1) roots)) mode names forest new
  renewed_at roots index d old new inside shown renews =
      renewed_more (Contains (drop index roots)) (Contains (drop (index + 1) roots))
      (get_or roots index d) old new
      (λ each member. this_or_later roots index d each inside member) shown renews

  -- this root has no name
  pub skipped_at : (roots : List ℕ) (index d named : ℕ) (rows : List Answer) →
      index < length roots → named ≡ length names → named ≤ get_or roots index d →
      ShowAllBut (Contains (drop index roots)) mode names forest rows →
      ShowAllBut (Contains (drop (index + 1) roots)) mode names forest rows
  skipped_at roots index d named rows inside count past shown =
      show_all_but (Contains (drop index roots)) (Contains (drop (index + 1) roots)) rows
      (λ each within member. ⊎_elim
      (λ (here : each ≡ get_or roots index d). absurd (omega (arith, past, count, within, here)))
      (λ later. later)
      (this_or_later roots index d each inside member))
      shown

  -- no root is left
  pub none_left : (left : List ℕ) (rows : List Answer) → left ≡ [] →
      ShowAllBut (Contains left) mode names forest rows → HaveShown mode names forest rows
  none_left left rows none shown =
      have_shown (Contains left) rows
      (λ root within member. none_in root
      (subst (λ (roots : List ℕ). Contains roots root) none member))
      shown
