-- A line of a positive literal: its tests, and then that it has a node for each item of the rule.
use Rattle.std.proofs.Common.{◌≡◌, ℕ, true, nat_eq, [], ◌++◌, length, refl, subst}
use Rattle.scasp_syntax.specs.Programs.{numbered}
use Rattle.scasp_syntax.specs.Tm.{Tms}
use Rattle.scasp_syntax.specs.declared.atom.Atom.{Atom}
use Rattle.scasp_syntax.specs.declared.program.Program.{Program}
use Rattle.scasp_cert.specs.Certificate.{Certificate}
use Rattle.scasp_cert.specs.Trees.{Trees, pos_tree}
use Rattle.scasp_lines.specs.Below.{count}
use Rattle.scasp_lines.specs.Dues.{Due, goal, fact, nothing}
use Rattle.scasp_lines.specs.Places.{Place}
use Rattle.scasp_checker_rules.specs.LineFaults.{items_of, node_faults}
use Rattle.scasp_checker_rules.specs.Refusals.{wants}
use Rattle.scasp_checker_rules.specs.Wholes.{Whole, whole_of}
use Rattle.scasp_checker_rules.specs.declared.refusal.Reason.TheVariants as reason
use Rattle.scasp_checker_answer.specs.Judged.{IsFirst}
use Rattle.scasp_checker_answer.specs.declared.judged.CheckErr.{CheckErr}
use Rattle.scasp_checker_answer.proofs.Judging.{first_here, first_behind}
use Rattle.scasp_checker_lines.specs.NodeFaults.Nodes.{pos_tests}

module _ (p : Program) (c : Certificate) (at : ℕ) (here : Place) (a : Atom) (k : ℕ) (ts : Tms) (children : Trees) where
  abbrev w : Whole
  w = whole_of true p c

  tests-are : (due : Due) → pos_tests w at here due a k ts ++ wants at reason.WrongChildren (nat_eq (count children) (length (items_of (numbered p.clauses k))))
      ≡ node_faults w at here due (pos_tree a k ts children)
  tests-are (goal l) = refl
  tests-are (fact o) = refl
  tests-are nothing = refl

  pub tests-first : (e : CheckErr) (due : Due) → IsFirst e (pos_tests w at here due a k ts) → IsFirst e (node_faults w at here due (pos_tree a k ts children))
  tests-first e due h = subst (IsFirst e) (tests-are due) (first_here e _ _ h)

  pub count-first : (e : CheckErr) (due : Due) (n : ℕ) → n ≡ length (items_of (numbered p.clauses k)) → pos_tests w at here due a k ts ≡ []
      → IsFirst e (wants at reason.WrongChildren (nat_eq (count children) n)) → IsFirst e (node_faults w at here due (pos_tree a k ts children))
  count-first e due n is none h =
      subst (IsFirst e) (tests-are due)
      (first_behind e _ _ none (subst (λ m. IsFirst e (wants at reason.WrongChildren (nat_eq (count children) m))) is h))
