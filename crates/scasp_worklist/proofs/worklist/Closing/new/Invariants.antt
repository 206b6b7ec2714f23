use Rattle.std.proofs.Common.{◌≡◌, [], map}
use Rattle.std.specs.Prelude.{false, replicate}
use Rattle.scasp_worklist.specs.Inside.Closing.{entry_of}
use Rattle.scasp_worklist.proofs.worklist.Closing.new.Given as goal

abbrev pub invariant-loop-number : goal.invariant-loop-number
invariant-loop-number l = record {
  known : l.known.items ≡ replicate l._number false;
  waiting : map (map entry_of) l.waiting.items ≡ replicate l._number [];
}
