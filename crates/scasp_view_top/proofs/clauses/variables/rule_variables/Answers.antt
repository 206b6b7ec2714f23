use Rattle.std.proofs.Common.{◌≡◌, ℕ, suc, ◌+◌, ◌-◌, ◌<◌, List, [], ◌∷◌, ◌++◌, ◌∙◌, append_assoc, arith}
use Rattle.scasp_cert.specs.Text.Terms.{var_text}
use Rattle.scasp_print_program.specs.Programs as spec
use Rattle.scasp_view_top.proofs.clauses.variables.rule_variables.Goals as goal

next : (texts : List (List ℕ)) → (x n : ℕ) → x < n →
    (texts ++ var_text x ∷ []) ++ spec.rule_variables (x + 1) (n - (x + 1)) ≡ texts ++ spec.rule_variables x (n - x)
next texts x n lt =
    let e : n - x ≡ suc (n - (x + 1)) = omega (arith, lt) in
    rw e (append_assoc texts (var_text x ∷ []) (spec.rule_variables (x + 1) (n - (x + 1))))

pub loop-var-preserved : goal.loop-var-preserved
loop-var-preserved c =
    rw (c.in_ok-push.ensures.ok, c.in_ok-rule_variable.ensures) (next c.loop-var.texts c.loop-var.var c.args.count c.loop-var-test.true ∙ c.loop-var.invariant)
