use Rattle.scasp_num.proofs.Fits.{addition_fits, normal_fits, put_fits, join_fits}
use Rattle.scasp_num.proofs.laws.rows_fit.Goals as goal

pub returns-clause-addition : goal.returns-clause-addition
returns-clause-addition c = addition_fits

pub returns-clause-pairs : goal.returns-clause-pairs
returns-clause-pairs c = normal_fits

pub returns-clause-put : goal.returns-clause-put
returns-clause-put c = put_fits

pub returns-clause-join : goal.returns-clause-join
returns-clause-join c = join_fits
