use Rattle.std.proofs.Common.{◌≡◌, ◌∙◌, ◌++◌, ◌∷◌, [], ap, sym}
use Rattle.std.specs.Prelude.{◌==◌, if◌then◌else◌}
use Rattle.scasp_print_shared.specs.Inside.Places.{listed}
use Rattle.scasp_print_shared.proofs.PlaceLemmas.{listed-at, listed-set}
use Rattle.scasp_print_shared.proofs.places.add_place.Goals as goal

pub returns : goal.returns
returns c =
    λ other.
    let lists = c.make_room.new.lists.items in
    let class = c.args.class in
    let line = c.args.line in
    let room = c.in_ok-make_room.ensures.room in
    let pushed : c.push.new.self.items ≡ listed lists class ++ line ∷ [] =
    c.in_ok-push.ensures.ok ∙ ap (λ ns. ns ++ line ∷ []) (sym (listed-at lists class c.index_mut.result.now room c.index_mut.ensures.value)) in
    listed-set lists c.push.new.self class other line room pushed
    ∙ ap (λ ns. ns ++ (if class == other then line ∷ [] else [])) (c.in_ok-make_room.ensures.same other)
