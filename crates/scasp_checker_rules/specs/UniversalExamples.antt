-- A worked case of a universal variable that is split at two values. p :- q(X), not r(X). q(a). q(b). r(a). r(b). ?- not p.
use Rattle.std.specs.Prelude.{◌≡◌, ℕ, [], ◌∷◌}
use Rattle.std.proofs.Common.{refl}
use Rattle.scasp_syntax.specs.Tm.{Tm, var, nil}
use Rattle.scasp_syntax.specs.declared.atom.Atom.{Atom}
use Rattle.scasp_syntax.specs.declared.clause.Item.TheVariants.{Call}
use Rattle.scasp_syntax.specs.declared.con.Con.{Con}
use Rattle.scasp_syntax.specs.declared.con.Con.TheVariants as con
use Rattle.scasp_syntax.specs.declared.hint.Hint.TheVariants as hint
use Rattle.scasp_syntax.specs.declared.program.Program.{Program}
use Rattle.scasp_cert.specs.Certificate.{Certificate}
use Rattle.scasp_cert.specs.Trees.{Branch, Branches, neg_tree, split, void, leaf, listed, covering}
use Rattle.scasp_unify.specs.Unification.{unifier}
use Rattle.scasp_lines.specs.Samples.{atom, one, constant, is_true, is_not, rule, ask, answer, by_fact}
use Rattle.scasp_checker_rules.specs.ExampleWords.{program, refused_at}
use Rattle.scasp_checker_rules.specs.Faults.{faults}
use Rattle.scasp_checker_rules.specs.Refusals.{first}
use Rattle.scasp_checker_rules.specs.declared.refusal.Reason.TheVariants as reason

abbrev p : Atom
p = atom 2 nil

abbrev q : Tm → Atom
q t = atom 3 (one t)

abbrev r : Tm → Atom
r t = atom 4 (one t)

abbrev a : Tm
a = constant 5

abbrev b : Tm
b = constant 6

abbrev not_a : Con
not_a = con.NotShape 0 5 0

abbrev not_b : Con
not_b = con.NotShape 0 6 0

abbrev facts : Program
facts =
    program
    (rule 1 p (Call (is_true (q (var 0))) ∷ Call (is_not (r (var 0))) ∷ []) ∷ rule 0 (q a) [] ∷ rule 0 (q b) [] ∷ rule 0 (r a) [] ∷ rule 0 (r b) [] ∷ [])
    (ask (Call (is_not p)) ∷ []) refl

-- where X is one of the two
abbrev both_hold : Tm → ℕ → ℕ → Branch
both_hold t i j = leaf 2 (listed (by_fact (q t) i ∷ by_fact (r t) j ∷ []))

-- the whole, where q(X) is shown false of all other values by these rules
abbrev whole : Branches → Certificate
whole covers =
    answer
    (neg_tree p (covering ((1, split not_a (split not_b (leaf 1 (listed (neg_tree (q (var 0)) covers ∷ []))) (both_hold b 3 5)) (both_hold a 2 4)) ∷ []))
    ∷ []) []

accepted : faults facts (whole (covering ((2, void hint.Terms) ∷ (3, void hint.Terms) ∷ []))) ≡ []
unfolding unifier
accepted = refl

uncovered : first (faults facts (whole (covering ((2, void hint.Terms) ∷ [])))) ≡ refused_at 6 reason.UncoveredCase
uncovered = refl

another_order : first (faults facts (whole (covering ((3, void hint.Terms) ∷ (2, void hint.Terms) ∷ [])))) ≡ refused_at 6 reason.UncoveredCase
another_order = refl

-- without a split no value is excluded
not_split : first (faults facts (answer (neg_tree p (covering ((1, leaf 1 (listed (neg_tree (q (var 0)) (covering ((2, void hint.Terms) ∷ (3, void hint.Terms) ∷ [])) ∷ []))) ∷ [])) ∷ []) [])) ≡ refused_at 6 reason.HintNotReached
unfolding unifier
not_split = refl
