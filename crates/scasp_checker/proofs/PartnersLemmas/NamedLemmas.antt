-- Literals that differ by a name or a number are shown apart by their terms.
use Rattle.std.proofs.Common.{◌≡◌, ℕ, true, nat_eq, length, None, List}
use Rattle.std.proofs.lemmas.Bool.{and_parts}
use Rattle.std.proofs.lemmas.Bool.Decides.{Decides-eqb}
use Rattle.scasp_checker_rules.specs.PairLists.{pair_list}
use Rattle.scasp_checker_rules.specs.Told.{Told}
use Rattle.scasp_checker_answer.proofs.NameClashLemmas.{shown-by_names}
use Rattle.scasp_checker_answer.specs.NameClashes.{clash_among}
use Rattle.scasp_hint.specs.Showing.{fault_of}
use Rattle.scasp_checker.specs.Partners.Named.{differ_by_names}
use Rattle.scasp_syntax.specs.Tm.{items}
use Rattle.scasp_syntax.specs.declared.con.Con.{Con}
use Rattle.scasp_syntax.specs.declared.hint.Hint.TheVariants as hint

pub named-apart : (free : ℕ) (given : List Con) (a b : Told) → differ_by_names a b ≡ true → fault_of (pair_list free given a b) hint.Terms ≡ None
named-apart free given a b e =
    let n = length (items a.atom.args) in
    let m = length (items b.atom.args) in
    let k = and_parts (nat_eq n m) (clash_among a.atom.args b.atom.args) e in
    shown-by_names free given a b ((Decides-eqb n m).0 k.0) k.1
