use Rattle.scasp_constraint_store.proofs.BindingLemmas.{resolved-with}
use Rattle.scasp_constraint_store.proofs.laws.bindings_resolve.Goals as goal

pub returns : goal.returns
returns c = resolved-with
