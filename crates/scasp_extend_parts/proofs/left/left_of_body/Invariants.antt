use Rattle.std.proofs.Common.{◌≡◌, ◌++◌, not}
use Rattle.std.specs.List.{filter, list_any}
use Rattle.std.specs.Vec.Iter.{into_iter_items}
use Rattle.scasp_model.specs.Residual.{is_known_false, is_known_true}
use Rattle.scasp_extend_parts.proofs.left.left_of_body.Given as goal

abbrev pub invariant-loop-literal : goal.invariant-loop-literal
invariant-loop-literal l =
    record {
      kept : l.kept ++ filter (λ k. not (is_known_true l.told.trues l.told.falses k)) (into_iter_items l.literal-iterator)
          ≡ filter (λ k. not (is_known_true l.told.trues l.told.falses k)) l.fn.body;
      wrong : list_any (is_known_false l.told.trues l.told.falses) (into_iter_items l.literal-iterator)
          ≡ list_any (is_known_false l.told.trues l.told.falses) l.fn.body;
    }
