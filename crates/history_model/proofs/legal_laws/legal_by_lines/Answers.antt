use Rattle.history_model.proofs.ByLines.{legal_by_lines}
use Rattle.history_model.proofs.legal_laws.legal_by_lines.Goals as goal

pub returns : goal.returns
returns c = legal_by_lines
