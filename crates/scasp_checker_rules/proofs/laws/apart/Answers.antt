use Rattle.std.proofs.lemmas.Bool.{ltb-true}
use Rattle.scasp_checker_rules.proofs.ApartLemmas.{shown-apart}
use Rattle.scasp_checker_rules.proofs.laws.apart.Goals as goal

pub returns : goal.returns
returns c free given a b h na nb shown v w same mv mw e =
    shown-apart free given a b h na nb shown v.of w.of v.ground w.ground (λ x l. same x (ltb-true x free l)) mv mw e
