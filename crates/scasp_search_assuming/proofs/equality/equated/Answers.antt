use Rattle.std.proofs.Common.{refl}
use Rattle.scasp_search_assuming.proofs.GoingLemmas.{goes_same}
use Rattle.scasp_search_assuming.proofs.equality.equated.Goals as goal

pub returns-in-Var-App-clause-now : goal.returns-in-Var-App-clause-now
returns-in-Var-App-clause-now g c = goes_same _ _ _ _ c.variable_app.ensures.now (rw (c.in-Var-App.is-0, c.in-Var-App.is-1) refl)

pub returns-in-App-Var-clause-now : goal.returns-in-App-Var-clause-now
returns-in-App-Var-clause-now g c = goes_same _ _ _ _ c.variable_app-in-App-Var.ensures.now (rw (c.in-App-Var.is-0, c.in-App-Var.is-1) refl)
