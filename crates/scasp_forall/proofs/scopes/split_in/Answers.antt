use Rattle.std.proofs.Common.{◌-◌, List, arith, ap, slice_get, sym, ◌∙◌}
use Rattle.scasp_forall.proofs.CoverLemmas.{changed_at}
use Rattle.scasp_forall.specs.Covers.{parted_alone}
use Rattle.scasp_forall.specs.Inside.Kept.{covers_from}
use Rattle.scasp_forall.specs.declared.scope.Scope.{Scope}
use Rattle.scasp_forall.proofs.scopes.split_in.Goals as goal

pub returns-clause-now : goal.returns-clause-now
returns-clause-now c =
    let ss = c.args.scopes.now.now in
    ap (covers_from 1) c.in_ok-set.ensures.now
    ∙ changed_at c.args.depth (parted_alone c.args.parting.now c.args.bound.now.now) ss c.scope_at.result.now c.in_ok-made.made (omega arith)
    (ap (λ (xs : List Scope). slice_get xs (c.args.depth - 1)) (sym c.as_slice.ensures) ∙ c.scope_at.ensures) c.in_ok-made.ensures
