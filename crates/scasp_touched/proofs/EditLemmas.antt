-- Predicates by their places.
use Rattle.std.proofs.Common.{◌≡◌, ◌∙◌, ℕ, suc, ◌+◌, Bool, true, false, ◌||◌, nat_lt, List, [], ◌∷◌, length, refl, ap, sym, arith}
use Rattle.std.specs.List.{list_any}
use Rattle.std.proofs.lemmas.Bool.{cond-true, cond-false, lt-ltb}
use Rattle.std.proofs.lemmas.Bool.Decides.{nat_tests}
use Rattle.scasp_syntax.specs.Same.{same_pred}
use Rattle.scasp_syntax.specs.declared.atom.Pred.{Pred}
use Rattle.scasp_graph.specs.Numbering.{place_in}
use Rattle.scasp_cert.specs.Certificate.{Certificate}
use Rattle.scasp_syntax.specs.declared.program.Program.{Program}
use Rattle.scasp_touched.specs.Inside.{among}
use Rattle.scasp_touched.specs.Named.{line_predicates, named_clauses}
use Rattle.scasp_touched.specs.Once.{IsNamed}
use Rattle.scasp_touched.specs.Touched.{are_lines_touched, clause_differs, rules_differ}
use Rattle.scasp_touched.specs.declared.named.Named.{Named}
use Rattle.scasp_touched.proofs.NamedLemmas.{any-clause, any-pred}

place-next : (a b : ℕ) → nat_lt (a + 1) (suc b) ≡ nat_lt a b
place-next a b = grind (arith, nat_tests)

-- a predicate has a place exactly where it is in the list
pub place-among : (ps : List Pred) (p : Pred) → nat_lt (place_in ps p) (length ps) ≡ among ps p
place-among [] p = refl
place-among (x ∷ xs) p = by (same_pred p x) refl (place-among xs p)
  where
    by : (b : Bool) → same_pred p x ≡ b → nat_lt (place_in xs p) (length xs) ≡ among xs p → nat_lt (place_in (x ∷ xs) p) (length (x ∷ xs)) ≡ among (x ∷ xs) p
    by true e r =
        ap (λ n. nat_lt n (suc (length xs))) (cond-true (same_pred p x) 0 (place_in xs p + 1) e) ∙ lt-ltb 0 (suc (length xs)) (omega arith)
        ∙ sym (ap (λ z. z || among xs p) e)
    by false e r =
        ap (λ n. nat_lt n (suc (length xs))) (cond-false (same_pred p x) 0 (place_in xs p + 1) e) ∙ place-next (place_in xs p) (length xs) ∙ r
        ∙ sym (ap (λ z. z || among xs p) e)

-- what lines name may be looked for where each is named once
pub lines-are : (p q : Program) (n : Named) (c : Certificate) → IsNamed n c
    → (list_any (clause_differs p q) n.clauses || list_any (rules_differ p q) n.preds) ≡ are_lines_touched p q c
lines-are p q n c h =
    (λ i. list_any (clause_differs p q) (h.clauses i) || list_any (rules_differ p q) (h.preds i))
    ∙ (λ i. any-clause (clause_differs p q) (named_clauses c) i || any-pred (rules_differ p q) (line_predicates c) i)
