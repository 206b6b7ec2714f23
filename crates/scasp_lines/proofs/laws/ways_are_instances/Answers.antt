use Rattle.scasp_lines.proofs.WaysLemmas.{way-is_instance, instance-has_way, instance-before, ways-ground, context-exact}
use Rattle.scasp_lines.proofs.laws.ways_are_instances.Goals as goal

pub returns : goal.returns
returns c = record { met = way-is_instance; listed = instance-has_way; ground = ways-ground; context = context-exact; before = instance-before }
