use Rattle.std.proofs.Common.{List}
use Rattle.std.proofs.lemmas.Option.{slice_get_within}
use Rattle.std.proofs.lemmas.Result.{IfOk-weaker}
use Rattle.rpq_base.specs.declared.data.Entry.{Entry}
use Rattle.rpq_base.specs.declared.data.Pair.{Pair}
use Rattle.rpq_model.specs.Query.{Query}
use Rattle.path_witness.specs.BestPaths.{IsBestFor}
use Rattle.path_witness.specs.Shows.{Shown, Shows}
use Rattle.path_witness.specs.Told.{IsBestOf, IsTold}
use Rattle.path_witness.proofs.Telling.{lasts_by_mode, cut_lasts, all_seen, shows_told}
use Rattle.path_witness.proofs.marks.Marks.show.Goals as goal

pub mode_of-requires : goal.mode_of-requires
mode_of-requires c =
    slice_get_within c.args.self.now.queries c.args.query c.requires.1 c.requires.3.there

pub entries_of-requires-in-Simple : goal.entries_of-requires-in-Simple
entries_of-requires-in-Simple c =
    let marks = c.args.self.now in
    let history = c.requires.0 in
    let def = c.requires.1 in
    let pair = c.requires.2 in
    let best = c.requires.3 in
    let edges = c.deref.result.now in
    all_seen marks c.args.query def history pair edges (c.mode_of.ensures.slide def best.there)
    best.stands best.there
    (cut_lasts marks c.args.query c.args.path.now c.in_ok-cut-in-Simple.cut.items edges history
    def pair c.mode_of.result (c.mode_of.ensures.mode def best.there) c.in-Simple.is
    c.deref.ensures.value c.in_ok-cut-in-Simple.ensures best)

pub returns-in-Arbitrary : goal.returns-in-Arbitrary
returns-in-Arbitrary c =
    let marks = c.args.self.now in
    let path = c.args.path.now in
    IfOk-weaker c.entries_of.result
    (λ (shown : Shown). IsTold (IsBestOf marks c.args.query) path shown)
    (λ (shown : Shown). (history : List Entry) (def : Query) (pair : Pair) →
    IsBestFor marks c.args.query path history def pair → Shows def history pair shown)
    (λ shown told history def pair best.
    shows_told marks c.args.query def history pair path (c.mode_of.ensures.slide def best.there)
    best.stands best.there
    (lasts_by_mode marks c.args.query path history def pair c.mode_of.result
    (c.mode_of.ensures.mode def best.there) c.in-Arbitrary.is best)
    c.histories_have_stores.ensures shown told)
    c.entries_of.ensures

pub returns-in_ok-cut-in-Simple : goal.returns-in_ok-cut-in-Simple
returns-in_ok-cut-in-Simple c =
    let marks = c.args.self.now in
    let path = c.args.path.now in
    let edges = c.deref.result.now in
    IfOk-weaker c.entries_of-in-Simple.result
    (λ (shown : Shown). IsTold (IsBestOf marks c.args.query) edges shown)
    (λ (shown : Shown). (history : List Entry) (def : Query) (pair : Pair) →
    IsBestFor marks c.args.query path history def pair → Shows def history pair shown)
    (λ shown told history def pair best.
    shows_told marks c.args.query def history pair edges (c.mode_of.ensures.slide def best.there)
    best.stands best.there
    (cut_lasts marks c.args.query path c.in_ok-cut-in-Simple.cut.items edges history def pair
    c.mode_of.result (c.mode_of.ensures.mode def best.there) c.in-Simple.is
    c.deref.ensures.value c.in_ok-cut-in-Simple.ensures best)
    c.histories_have_stores.ensures shown told)
    c.entries_of-in-Simple.ensures
