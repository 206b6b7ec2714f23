-- Work kept in frames, of which the next one is the last.
use Rattle.std.specs.Prelude.{ℕ, List, [], ◌∷◌, ◌++◌, Option, None, Some, drop, map, reverse}
use Rattle.std.specs.List.{flat_map}
use Rattle.scasp_frames.specs.declared.frame.Frame.{Frame}
use Rattle.scasp_frames.specs.declared.frame.Frame.TheVariants as frame
use Rattle.scasp_frames.specs.declared.rest.Body.{Body}
use Rattle.scasp_frames.specs.declared.rest.Rest.{Rest}
use Rattle.scasp_search_rules.specs.Successors.Items.{item_raised}
use Rattle.scasp_search_rules.specs.declared.states.tasks.Task.{Task}
use Rattle.scasp_search_rules.specs.declared.states.tasks.Task.TheVariants as task
use Rattle.scasp_syntax.specs.declared.clause.FlatItem.{FlatItem}
use Rattle.scasp_trail.specs.Past.{Past}

-- the items of a body from this place on, and the last one in any case
abbrev pub items_from : ℕ → Body → List FlatItem
items_from place b = drop place b.before.items ++ b.last ∷ []

-- the items of a body behind the one at this place
abbrev pub items_behind : ℕ → Body → List FlatItem
items_behind place b = drop 1 (items_from place b)

-- the items that are left, with their variables raised
abbrev pub left_of : Rest → List FlatItem
left_of r = map (item_raised r.first) (items_from r.place r.body.value)

abbrev pub rest_left : Option Rest → List FlatItem
rest_left None = []
rest_left (Some r) = left_of r

abbrev pub tasks_of : Frame → List Task
tasks_of (frame.Task t) = t ∷ []
tasks_of (frame.Rest r) = map task.Show (left_of r)

-- the tasks of the frames, the next one first
abbrev pub work_of : List Frame → List Task
work_of fs = flat_map tasks_of (reverse fs)

abbrev pub past_work : Past Frame → Past Task
past_work p = record { now = work_of p.now; before = map work_of p.before }
