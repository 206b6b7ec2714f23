use Rattle.std.proofs.Common.{◌≡◌, ◌++◌, vec_len}
use Rattle.scasp_frames.specs.Inside.Kept.{work_of}
use Rattle.scasp_frames.proofs.work.put_all.Given as goal

abbrev pub invariant-tasks : goal.invariant-tasks
invariant-tasks l = record {
  now : l.left.items ++ work_of l.frames.now ≡ l.fn.tasks ++ work_of l.fn.frames.now;
  before : l.frames.before ≡ l.fn.frames.before;
}

abbrev pub decreases-tasks : goal.decreases-tasks
decreases-tasks l = vec_len l.left
