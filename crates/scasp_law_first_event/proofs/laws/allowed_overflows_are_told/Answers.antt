use Rattle.scasp_law_first_event.proofs.Allowing.{allowed-solved, allowed-told, told-allowed}
use Rattle.scasp_law_first_event.proofs.Following.{allowed-replaces}
use Rattle.scasp_law_first_event.proofs.laws.allowed_overflows_are_told.Goals as goal

pub returns-clause-told : goal.returns-clause-told
returns-clause-told c = allowed-told

pub returns-clause-solved : goal.returns-clause-solved
returns-clause-solved c = allowed-solved

pub returns-clause-reached : goal.returns-clause-reached
returns-clause-reached c = allowed-replaces

pub returns-clause-allowed : goal.returns-clause-allowed
returns-clause-allowed c = told-allowed
