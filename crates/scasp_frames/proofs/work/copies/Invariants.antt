use Rattle.std.proofs.Common.{◌≡◌, ◌++◌, length}
use Rattle.scasp_frames.specs.Inside.Kept.{work_of}
use Rattle.scasp_frames.proofs.work.copies.Given as goal

abbrev pub invariant-frames : goal.invariant-frames
invariant-frames l = l.made ++ work_of l.rest ≡ work_of l.frames

abbrev pub decreases-frames : goal.decreases-frames
decreases-frames l = length l.rest
