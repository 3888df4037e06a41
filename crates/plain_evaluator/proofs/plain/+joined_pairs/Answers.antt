use Rattle.std.proofs.Common.{◌≡◌, List, [], ◌∷◌, Vec, Global, sym, ap, subst, ◌⊎◌}
use Rattle.std.specs.Prelude.{Contains}
use Rattle.std.proofs.lemmas.Result.{IfOk-weaker}
use Rattle.rpq_base.specs.declared.data.Pair.{Pair}
use Rattle.path_syntax.specs.Expression.{expression}
use Rattle.path_syntax.specs.declared.expr.Expr.{Expr}
use Rattle.rpq_model.specs.declared.mode.Mode.TheVariants.{Arbitrary}
use Rattle.rpq_model.specs.Answers.{IsJoinedBy}
use Rattle.rpq_model.specs.Relations.{values, AreExactly, IsReached}
use Rattle.rpq_model.proofs.ByCases.{AreJoined, TellsEmpty, InSequence, atom_joined}
use Rattle.rpq_model.proofs.ByCases.{sequence_joined, alternative_joined, star_joined, plus_joined}
use Rattle.rpq_model.proofs.ByCases.{optional_joined}
use Rattle.plain_evaluator.proofs.plain.+joined_pairs.Goals as goal

pub returns-in-Atom : goal.returns-in-Atom
returns-in-Atom t c =
    let edges = values c.args.edges.now in
    let expr = expression c.args.expr.now in
    let label = c.in-Atom.label in
    IfOk-weaker c.joined_by_label.result
    (λ (pairs : Vec Pair Global). AreExactly (IsJoinedBy edges (λ word. word ≡ label ∷ []) Arbitrary) pairs.items)
    (λ (pairs : Vec Pair Global). AreJoined edges expr pairs.items)
    (λ pairs are. atom_joined edges expr label pairs.items (ap expression c.in-Atom.is) are)
    c.joined_by_label.ensures

pub returns-in_ok-seconds-in-Seq : goal.returns-in_ok-seconds-in-Seq
returns-in_ok-seconds-in-Seq t c =
    let edges = values c.args.edges.now in
    let expr = expression c.args.expr.now in
    let left = c.in-Seq.left.value in
    let right = c.in-Seq.right.value in
    let firsts = c.in_ok-firsts-in-Seq.firsts.items in
    let seconds = c.in_ok-seconds-in-Seq.seconds.items in
    let no_first = c.has_empty_word-no_first.result in
    let no_second = c.has_empty_word-no_second.result in
    let firsts_are : AreJoined edges (expression left) c.deref-in-Seq-4.result.now =
    subst (λ (pairs : List Pair). AreJoined edges (expression left) pairs) (sym c.deref-in-Seq-4.ensures.value)
    (subst (λ (each : Expr). AreJoined edges (expression each) firsts) c.deref.ensures c.in_ok-firsts-in-Seq.ensures) in
    let seconds_are : AreJoined edges (expression right) c.deref-in-Seq-5.result.now =
    subst (λ (pairs : List Pair). AreJoined edges (expression right) pairs) (sym c.deref-in-Seq-5.ensures.value)
    (subst (λ (each : Expr). AreJoined edges (expression each) seconds) c.deref-in-Seq.ensures c.in_ok-seconds-in-Seq.ensures) in
    let first_tells : TellsEmpty no_first (expression left) =
    subst (λ (each : Expr). TellsEmpty no_first (expression each)) c.deref-in-Seq-2.ensures c.has_empty_word-no_first.ensures.meaning in
    let second_tells : TellsEmpty no_second (expression right) =
    subst (λ (each : Expr). TellsEmpty no_second (expression each)) c.deref-in-Seq-3.ensures c.has_empty_word-no_second.ensures.meaning in
    IfOk-weaker c.composition.result
    (λ (all : Vec Pair Global). AreExactly (InSequence c.deref-in-Seq-4.result.now c.deref-in-Seq-5.result.now no_first no_second) all.items)
    (λ (all : Vec Pair Global). AreJoined edges expr all.items)
    (λ all are. sequence_joined edges expr (expression left)
    (expression right) c.deref-in-Seq-4.result.now c.deref-in-Seq-5.result.now all.items no_first no_second
    (ap expression c.in-Seq.is) firsts_are seconds_are first_tells second_tells are)
    c.composition.ensures

pub returns-in_ok-others-in-Alt : goal.returns-in_ok-others-in-Alt
returns-in_ok-others-in-Alt t c =
    let edges = values c.args.edges.now in
    let expr = expression c.args.expr.now in
    let left = c.in-Alt.left.value in
    let right = c.in-Alt.right.value in
    let pairs = c.in_ok-pairs-in-Alt.pairs.items in
    let others = c.in_ok-others-in-Alt.others.items in
    let pairs_are : AreJoined edges (expression left) c.deref-in-Alt-3.result.now =
    subst (λ (all : List Pair). AreJoined edges (expression left) all) (sym c.deref-in-Alt-3.ensures.value)
    (subst (λ (each : Expr). AreJoined edges (expression each) pairs) c.deref-in-Alt.ensures c.in_ok-pairs-in-Alt.ensures) in
    let others_are : AreJoined edges (expression right) c.deref-in-Alt-4.result.now =
    subst (λ (all : List Pair). AreJoined edges (expression right) all) (sym c.deref-in-Alt-4.ensures.value)
    (subst (λ (each : Expr). AreJoined edges (expression each) others) c.deref-in-Alt-2.ensures c.in_ok-others-in-Alt.ensures) in
    IfOk-weaker c.union.result
    (λ (all : Vec Pair Global). AreExactly (λ pair. Contains c.deref-in-Alt-3.result.now pair ⊎ Contains c.deref-in-Alt-4.result.now pair) all.items)
    (λ (all : Vec Pair Global). AreJoined edges expr all.items)
    (λ all are. alternative_joined edges expr (expression left)
    (expression right) c.deref-in-Alt-3.result.now c.deref-in-Alt-4.result.now all.items
    (ap expression c.in-Alt.is) pairs_are others_are are)
    c.union.ensures

pub returns-in-Opt : goal.returns-in-Opt
returns-in-Opt t c =
    let edges = values c.args.edges.now in
    let expr = expression c.args.expr.now in
    let body = c.in-Opt.body.value in
    IfOk-weaker c.joined_pairs-in-Opt.result
    (λ (pairs : Vec Pair Global). AreJoined edges (expression c.deref-in-Opt.result.now) pairs.items)
    (λ (pairs : Vec Pair Global). AreJoined edges expr pairs.items)
    (λ pairs are. optional_joined edges expr (expression body) pairs.items (ap expression c.in-Opt.is)
    (subst (λ (each : Expr). AreJoined edges (expression each) pairs.items) c.deref-in-Opt.ensures are))
    c.joined_pairs-in-Opt.ensures

pub returns-in_ok-joined_pairs-in-Star : goal.returns-in_ok-joined_pairs-in-Star
returns-in_ok-joined_pairs-in-Star t c =
    let edges = values c.args.edges.now in
    let expr = expression c.args.expr.now in
    let body = c.in-Star.body.value in
    let pairs = c.deref-in-Star-2.result.now in
    let pairs_are : AreJoined edges (expression body) pairs =
    subst (λ (all : List Pair). AreJoined edges (expression body) all) (sym c.deref-in-Star-2.ensures.value)
    (subst (λ (each : Expr). AreJoined edges
    (expression each) c.in_ok-joined_pairs-in-Star.field-0.items) c.deref-in-Star.ensures c.in_ok-joined_pairs-in-Star.ensures) in
    IfOk-weaker c.closure.result
    (λ (all : Vec Pair Global). AreExactly (IsReached pairs) all.items)
    (λ (all : Vec Pair Global). AreJoined edges expr all.items)
    (λ all are. star_joined edges expr (expression body) pairs all.items (ap expression c.in-Star.is) pairs_are are)
    c.closure.ensures

pub returns-in_ok-joined_pairs-in-Plus : goal.returns-in_ok-joined_pairs-in-Plus
returns-in_ok-joined_pairs-in-Plus t c =
    let edges = values c.args.edges.now in
    let expr = expression c.args.expr.now in
    let body = c.in-Plus.body.value in
    let pairs = c.deref-in-Plus-2.result.now in
    let pairs_are : AreJoined edges (expression body) pairs =
    subst (λ (all : List Pair). AreJoined edges (expression body) all) (sym c.deref-in-Plus-2.ensures.value)
    (subst (λ (each : Expr). AreJoined edges
    (expression each) c.in_ok-joined_pairs-in-Plus.field-0.items) c.deref-in-Plus.ensures c.in_ok-joined_pairs-in-Plus.ensures) in
    IfOk-weaker c.closure-in-Plus.result
    (λ (all : Vec Pair Global). AreExactly (IsReached pairs) all.items)
    (λ (all : Vec Pair Global). AreJoined edges expr all.items)
    (λ all are. plus_joined edges expr (expression body) pairs all.items (ap expression c.in-Plus.is) pairs_are are)
    c.closure-in-Plus.ensures
