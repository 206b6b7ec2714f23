-- The tests of lines, without what stands below them.
use Rattle.std.specs.Prelude.{ℕ, Bool, true, ◌&&◌, List, ◌++◌}
use Rattle.scasp_syntax.specs.Programs.{is_rule_of, numbered, pred_of}
use Rattle.scasp_syntax.specs.Tm.{Tms, nil}
use Rattle.scasp_syntax.specs.declared.atom.Atom.{Atom}
use Rattle.scasp_syntax.specs.declared.atom.Lit.{Lit}
use Rattle.scasp_cert.specs.Trees.{no_tree, pos_tree, seen_tree}
use Rattle.scasp_lines.specs.Dues.{Due}
use Rattle.scasp_lines.specs.Known.{are_known}
use Rattle.scasp_lines.specs.Places.{Place}
use Rattle.scasp_checker_rules.specs.LineFaults.{is_due, is_instance, is_kind}
use Rattle.scasp_checker_rules.specs.Refusals.{of_some, wants}
use Rattle.scasp_checker_rules.specs.Wholes.{Whole, scope}
use Rattle.scasp_checker_rules.specs.declared.refusal.Refusal.{Refusal}
use Rattle.scasp_checker_rules.specs.declared.refusal.Reason.TheVariants as reason

-- of a literal, which is of a kind that is due, or is not
abbrev pub literal_tests : Whole → ℕ → Place → Due → Bool → Bool → Atom → Tms → List Refusal
literal_tests w at here due kind positive a ts =
    wants at reason.WrongVariable (are_known (scope w here) a.args && are_known (scope w here) ts)
    ++ wants at reason.WrongNode kind ++ wants at reason.WrongLiteral (is_due due positive a)

-- of a positive literal, but for the number of its children
abbrev pub pos_tests : Whole → ℕ → Place → Due → Atom → ℕ → Tms → List Refusal
pos_tests w at here due a k ts =
    literal_tests w at here due (is_kind true due (pos_tree a k ts no_tree)) true a ts
    ++ wants at reason.WrongRule (of_some (numbered w.setting.clauses k) (is_rule_of (pred_of a)))
    ++ wants at reason.WrongInstance (of_some (numbered w.setting.clauses k) (is_instance ts a))

-- of a literal that was seen before, where it was shown there, or was not
abbrev pub seen_tests : Whole → ℕ → Place → Due → Lit → Bool → List Refusal
seen_tests w at here due lit shown =
    literal_tests w at here due (is_kind true due (seen_tree lit 0)) lit.positive lit.atom nil ++ wants at reason.NotInScope shown
