-- A worked certificate of a default over a variable, whole. p(X) :- not q(X). q(a). ?- p(X). The answer: each X but a.
use Rattle.std.specs.Prelude.{◌≡◌, [], ◌∷◌, None}
use Rattle.std.proofs.Common.{refl}
use Rattle.scasp_syntax.specs.Tm.{Tm, var, app, nil}
use Rattle.scasp_syntax.specs.declared.atom.Atom.{Atom}
use Rattle.scasp_syntax.specs.declared.clause.Item.TheVariants.{Call}
use Rattle.scasp_syntax.specs.declared.con.Con.{Con}
use Rattle.scasp_syntax.specs.declared.con.Con.TheVariants as con
use Rattle.scasp_syntax.specs.declared.hint.Hint.TheVariants as hint
use Rattle.scasp_syntax.specs.declared.program.Program.{Program}
use Rattle.scasp_syntax.specs.declared.term.Term.TheVariants.{Var, App}
use Rattle.scasp_cert.specs.Certificate.{Certificate}
use Rattle.scasp_cert.specs.Trees.{pos_tree, neg_tree, void, listed, covering}
use Rattle.scasp_lines.specs.Dues.{goal, nothing}
use Rattle.scasp_lines.specs.Lines.{lines}
use Rattle.scasp_lines.specs.Samples.{atom, one, constant, is_true, is_not, rule, numbers, contexts, dues}
use Rattle.scasp_unify.specs.Unification.{unifier}
use Rattle.scasp_checker_rules.specs.Faults.{faults}

abbrev p : Tm → Atom
p t = atom 2 (one t)

abbrev q : Tm → Atom
q t = atom 3 (one t)

abbrev a : Tm
a = constant 4

abbrev program : Program
program = record {
  clauses = rule 1 (p (var 0)) (Call (is_not (q (var 0))) ∷ []) ∷ rule 0 (q a) [] ∷ [];
  queries = record { body = Call (is_true (p (var 0))) ∷ []; names = None ∷ [] } ∷ [];
  abducibles = [];
  well_formed = refl;
  choices = refl;
}

abbrev certificate : Certificate
certificate = record {
  query = 1;
  terms = one (var 0);
  given = con.NotShape 0 4 0 ∷ [];
  sample = one (constant 5);
  trees = pos_tree (p (var 0)) 1 (one (var 0)) (listed (neg_tree (q (var 0)) (covering ((2, void hint.Terms) ∷ [])) ∷ [])) ∷ [];
  checks = [];
  clashes = [];
  map = [];
}

four_lines : numbers (lines program certificate) ≡ 1 ∷ 2 ∷ 3 ∷ 4 ∷ []
four_lines = refl

-- beside what is given: in the void case, which is the head q(a), X is a
their_contexts : contexts (lines program certificate) ≡ [] ∷ [] ∷ [] ∷ (con.Eq (Var 0) (App 4 nil) ∷ []) ∷ []
their_contexts = refl

their_dues :
    dues (lines program certificate) ≡ goal (is_true (p (var 0))) ∷ goal (is_not (q (var 0))) ∷ nothing ∷ nothing ∷ []
their_dues = refl

-- it is accepted
no_fault : faults program certificate ≡ []
unfolding unifier
no_fault = refl
