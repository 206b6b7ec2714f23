-- The first task of a frame.
use Rattle.std.proofs.Common.{◌≡◌, ℕ, List, [], ◌∷◌, ◌++◌, map, false, refl, ap, subst, sym, ◌∙◌, drop}
use Rattle.scasp_frames.specs.Inside.Kept.{items_from, left_of, tasks_of}
use Rattle.scasp_frames.specs.declared.frame.Frame.{Frame}
use Rattle.scasp_frames.specs.declared.frame.Frame.TheVariants as frame
use Rattle.scasp_frames.specs.declared.rest.Rest.{Rest}
use Rattle.scasp_search_rules.specs.Successors.Items.{item_raised}
use Rattle.scasp_search_rules.specs.Successors.Replacing.{closes}
use Rattle.scasp_search_rules.specs.Successors.Search.{is_call, pays_for}
use Rattle.scasp_search_rules.specs.declared.states.state.State.{State}
use Rattle.scasp_search_rules.specs.declared.states.tasks.Task.{Task}
use Rattle.scasp_search_rules.specs.declared.states.tasks.Task.TheVariants as task
use Rattle.scasp_syntax.specs.declared.clause.FlatItem.{FlatItem}
use Rattle.scasp_syntax.specs.declared.clause.FlatItem.TheVariants as flat

raised_call : (by : ℕ) (i : FlatItem) → is_call i ≡ is_call (item_raised by i)
raised_call by (flat.Call l) = refl
raised_call by (flat.Test c) = refl

pub first_costs : (s : State) (r : Rest) (i : FlatItem) (is : List FlatItem) → items_from r.place r.body.value ≡ i ∷ is
    → is_call i ≡ pays_for s (map task.Show (left_of r))
first_costs s r i is h = raised_call r.first i ∙ ap (λ js. pays_for s (map task.Show (map (item_raised r.first) js))) (sym h)

some_item : (xs : List FlatItem) (l : FlatItem) → (i : FlatItem) × (is : List FlatItem) × xs ++ l ∷ [] ≡ i ∷ is
some_item [] l = (l, [], refl)
some_item (x ∷ xs) l = (x, xs ++ l ∷ [], refl)

pub shows_close_nothing : (r : Rest) → false ≡ closes (map task.Show (left_of r))
shows_close_nothing r =
    let some = some_item (drop r.place r.body.value.before.items) r.body.value.last in
    ap (λ js. closes (map task.Show (map (item_raised r.first) js))) (sym some.2)

pub first_shown : (r : Rest) (i : FlatItem) (is js : List FlatItem) → left_of r ≡ i ∷ is → js ≡ is
    → map task.Show (left_of r) ≡ task.Show i ∷ map task.Show js
first_shown r i is js h e = ap (map task.Show) h ∙ ap (λ ks. task.Show i ∷ map task.Show ks) (sym e)

-- a frame has a task
pub some_task : (f : Frame) → (t : Task) × (ts : List Task) × tasks_of f ≡ t ∷ ts
some_task (frame.Task t) = (t, [], refl)
some_task (frame.Rest r) =
    let some = some_item (drop r.place r.body.value.before.items) r.body.value.last in (
      task.Show (item_raised r.first some.0),
      map task.Show (map (item_raised r.first) some.1),
      ap (λ js. map task.Show (map (item_raised r.first) js)) some.2,
    )
