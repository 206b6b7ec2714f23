use Rattle.scasp_syntax.proofs.ValueLemmas.{under-under, is_ground-under}
use Rattle.scasp_syntax.proofs.laws.substitutions_compose.Goals as goal

pub returns-clause-composed : goal.returns-clause-composed
returns-clause-composed c = under-under

pub returns-clause-ground : goal.returns-clause-ground
returns-clause-ground c = is_ground-under
