-- Some small histories that are seen alike, and some that aren't.
use Rattle.std.proofs.Common.{◌≡◌, ℕ, ◌≤◌, false, refl, arith}
use Rattle.std.proofs.lemmas.Bool.{false≢true, false_from_ne_true}
use Rattle.rpq_base.proofs.Members.{none_in}
use Rattle.rpq_model.specs.Window.{is_in_window, live_from}
use Rattle.rpq_model.proofs.Deadlines.{seen_before}
use Rattle.alike_histories.specs.Examples.{one_edge, ten_by_five, AlikeExamples}

-- a time that is out of the window at 20 stays out of it
gone : (now : ℕ) → 20 ≤ now → is_in_window ten_by_five now 3 ≡ false
gone now after =
    false_from_ne_true (is_in_window ten_by_five now 3) (λ seen. false≢true (seen_before ten_by_five 20 now 3 (omega arith) after seen))

pub alike_examples : AlikeExamples
unfolding live_from
alike_examples = record {
  lost = record {
    clocks = refl;
    edges = λ now after edge. rw (gone now after) ((λ member. member), (λ member. member));
  };
  there = λ alike. none_in one_edge ((alike.edges 20 (omega arith) one_edge).0 (0, omega arith, refl));
  sooner = λ alike. none_in one_edge ((alike.edges 25 (omega arith) one_edge).0 (0, omega arith, refl));
  clocks = λ alike. let is = alike.clocks in cc;
}
