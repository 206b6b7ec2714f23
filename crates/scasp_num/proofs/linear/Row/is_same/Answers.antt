use Rattle.std.proofs.Common.{rules, ◌≡◌, ◌↔◌, IsTrue, Bool, sym, subst}
use Rattle.scasp_num.specs.SameRow.{same_row}
use Rattle.scasp_num.proofs.SameRows.{row-decided}
use Rattle.scasp_num.proofs.linear.Row.is_same.Goals as goal

pub returns-then-constant-clause-exact : goal.returns-then-constant-clause-exact
returns-then-constant-clause-exact c =
    let p = c.args.self.now in
    let q = c.args.other.now in
    let value : c.same_terms.result ≡ same_row p q = search rules in
    subst (λ (b : Bool). IsTrue b ↔ (p ≡ q)) (sym value) (row-decided p q)
