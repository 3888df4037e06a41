use Rattle.containment_laws.proofs.Chains.{suffices_contained}
use Rattle.containment_laws.proofs.Shortened.{contained_suffices}
use Rattle.containment_laws.proofs.laws.contained_is_simple.Goals as goal

pub returns : goal.returns
returns g c =
    let language = g.L.Language.contains c.args.language.now in
    (contained_suffices language, suffices_contained language)
