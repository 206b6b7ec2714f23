use Rattle.scasp_project.proofs.RowLaw.{denied, extends, lacks}
use Rattle.scasp_project.proofs.laws.rows_are_projected.Goals as goal

pub returns-clause-lacks : goal.returns-clause-lacks
returns-clause-lacks c = lacks

pub returns-clause-extends : goal.returns-clause-extends
returns-clause-extends c = extends

pub returns-clause-denied : goal.returns-clause-denied
returns-clause-denied c = denied
