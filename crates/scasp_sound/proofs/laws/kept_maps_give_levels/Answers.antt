use Rattle.scasp_sound.proofs.MapKeeping.{left-keeps}
use Rattle.scasp_sound.proofs.laws.kept_maps_give_levels.Goals as goal

pub returns : goal.returns
returns c = left-keeps
