use Rattle.scasp_model.proofs.AtomLemmas.{SameAtoms-tested, SameAtoms-refused}
use Rattle.scasp_model.proofs.stable.have_same_atoms.Goals as goal

pub returns-in_ok-has_all-2 : goal.returns-in_ok-has_all-2
returns-in_ok-has_all-2 c =
    SameAtoms-tested c.args.m.now c.args.n.now c.in_ok-has_all.field-0 c.in_ok-has_all-2.field-0 c.in_ok-has_all.ensures c.if-branch.true c.in_ok-has_all-2.ensures

pub returns-else-branch : goal.returns-else-branch
returns-else-branch c =
    SameAtoms-refused c.args.m.now c.args.n.now c.in_ok-has_all.field-0 c.in_ok-has_all.ensures c.if-branch.false
