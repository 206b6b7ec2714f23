use Rattle.std.proofs.Common.{◌≡◌, ◌==◌, ℕ, suc, ◌+◌, ◌-◌, ◌<◌, false, List, ◌++◌, codes, ◌∙◌, append_assoc, arith}
use Rattle.std.proofs.lemmas.Bool.Decides.{nat_tests}
use Rattle.scasp_cert.specs.Text.Separators.{separator_text}
use Rattle.scasp_cert.specs.Text.Terms.{var_text}
use Rattle.scasp_print_program.specs.Abducibles.{variables_text}
use Rattle.scasp_print_program.proofs.abducibles.put_variables.Goals as goal

later : (x : ℕ) → (x + 1 == 0) ≡ false
later x = grind (arith, nat_tests)

regroup : (out a b c : List ℕ) → ((out ++ a) ++ b) ++ c ≡ out ++ ((a ++ b) ++ c)
regroup out a b c = simp append_assoc

next : (out : List ℕ) (x n : ℕ) → x < n
    → ((out ++ separator_text (x == 0) (codes ",")) ++ var_text x) ++ variables_text (x + 1 == 0) (x + 1) (n - (x + 1)) ≡ out ++ variables_text (x == 0) x (n - x)
next out x n lt =
    let e : n - x ≡ suc (n - (x + 1)) = omega (arith, lt) in
    rw (e, later x) (regroup out (separator_text (x == 0) (codes ",")) (var_text x) (variables_text false (x + 1) (n - (x + 1))))

pub loop-var-preserved : goal.loop-var-preserved
loop-var-preserved c =
    rw (c.in_ok-put_rule_variable.ensures, c.in_ok-put_separator.ensures) (next c.loop-var.out.items c.loop-var.var c.args.count c.loop-var-test.true ∙ c.loop-var.invariant)
