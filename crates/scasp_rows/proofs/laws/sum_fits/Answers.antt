use Rattle.scasp_rows.proofs.Fitting.{sum_fits}
use Rattle.scasp_rows.proofs.laws.sum_fits.Goals as goal

pub returns : goal.returns
returns c = sum_fits
