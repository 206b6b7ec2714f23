use Rattle.std.proofs.Common.{◌≡◌, ◌++◌, ◌-◌, length, map}
use Rattle.scasp_frames.specs.Inside.Kept.{items_from, left_of}
use Rattle.scasp_search_rules.specs.Successors.Items.{item_raised}
use Rattle.scasp_search_rules.specs.declared.states.tasks.Task.TheVariants as task
use Rattle.scasp_frames.proofs.rest.Rest.push_shows.Given as goal

abbrev pub invariant-items : goal.invariant-items
invariant-items l =
    l.made ++ map task.Show (map (item_raised l.self.first) (items_from l.place l.self.body.value))
    ≡ l.fn.made ++ map task.Show (left_of l.self)

abbrev pub decreases-items : goal.decreases-items
decreases-items l = length l.self.body.value.before.items - l.place
