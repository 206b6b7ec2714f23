use Rattle.std.proofs.Common.{◌≡◌, ◌++◌, drop}
use Rattle.scasp_store.proofs.behind.push_all.Given as goal

abbrev pub invariant-loop-binding : goal.invariant-loop-binding
invariant-loop-binding l = record {
  now : l.reading.now ++ drop l.binding-index l.bindings ≡ l.fn.reading.now ++ l.bindings;
  before : l.reading.before ≡ l.fn.reading.before;
}
