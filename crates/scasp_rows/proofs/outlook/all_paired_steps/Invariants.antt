use Rattle.std.proofs.Common.{◌≡◌, drop}
use Rattle.scasp_rows.specs.Inside.Outlooks.{all_paired_steps}
use Rattle.scasp_rows.proofs.outlook.all_paired_steps.Given as goal

abbrev pub invariant-loop-l : goal.invariant-loop-l
invariant-loop-l l = all_paired_steps l.x (drop l.l-index l.lowers) l.uppers l.state ≡ all_paired_steps l.x l.lowers l.uppers l.initial.state
