use Rattle.std.proofs.Common.{length}
use Rattle.scasp_command_recheck.proofs.course.Course.+go_on.Given as goal

abbrev pub decreases-go_on : goal.decreases-go_on
decreases-go_on g l = length l.files.now
