use Rattle.scasp_num.proofs.Integers.{*ℤ_assoc, *ℤ-+ℤ, +ℤ-*ℤ, *ℤ-cancel}
use Rattle.scasp_num.proofs.Numbers.{times-pos}
use Rattle.scasp_num.proofs.laws.whole_numbers.Goals as goal

pub returns-clause-associative : goal.returns-clause-associative
returns-clause-associative c = *ℤ_assoc

pub returns-clause-left_distributive : goal.returns-clause-left_distributive
returns-clause-left_distributive c = *ℤ-+ℤ

pub returns-clause-right_distributive : goal.returns-clause-right_distributive
returns-clause-right_distributive c = +ℤ-*ℤ

pub returns-clause-cancels : goal.returns-clause-cancels
returns-clause-cancels c = *ℤ-cancel

pub returns-clause-above : goal.returns-clause-above
returns-clause-above c = times-pos
