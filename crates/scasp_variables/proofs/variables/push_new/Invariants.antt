use Rattle.std.proofs.Common.{◌≡◌, ◌++◌, replicate}
use Rattle.scasp_variables.proofs.variables.push_new.Given as goal

abbrev pub invariant-loop : goal.invariant-loop
invariant-loop l = record {
  now : l.made.now ≡ l.fn.made.now ++ replicate l.counter l.new;
  before : l.made.before ≡ l.fn.made.before;
}
