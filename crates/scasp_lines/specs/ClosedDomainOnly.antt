-- A worked case: a listed term with a universal variable below a name. p :- not r(X). r(X) :- s(f(X)). s(Y). ?- not p.
use Rattle.std.specs.Prelude.{◌≡◌, false, [], ◌∷◌, map}
use Rattle.std.proofs.Common.{refl}
use Rattle.scasp_syntax.specs.Tm.{Tm, var, app, nil}
use Rattle.scasp_syntax.specs.Values.{Sub}
use Rattle.scasp_syntax.specs.declared.atom.Atom.{Atom}
use Rattle.scasp_syntax.specs.declared.clause.Item.TheVariants.{Call}
use Rattle.scasp_syntax.specs.declared.program.Program.{Program}
use Rattle.scasp_cert.specs.Certificate.{Certificate}
use Rattle.scasp_cert.specs.Trees.{neg_tree, pos_tree, leaf, listed, covering}
use Rattle.scasp_lines.specs.Dues.{goal, nothing}
use Rattle.scasp_lines.specs.Lines.{lines}
use Rattle.scasp_lines.specs.Opened.{ranges}
use Rattle.scasp_lines.specs.Said.{true_atoms, false_atoms, is_closed_over}
use Rattle.scasp_lines.specs.Samples.{atom, one, constant, is_true, is_not, rule, ask, answer, numbers, dues}
use Rattle.scasp_lines.specs.Walk.{Line}

abbrev pub p : Atom
p = atom 2 nil

abbrev pub r : Tm → Atom
r t = atom 3 (one t)

abbrev pub s : Tm → Atom
s t = atom 4 (one t)

abbrev pub f : Tm → Tm
f t = app 5 (one t)

abbrev pub a : Tm
a = constant 6

abbrev b : Tm
b = constant 7

abbrev pub program : Program
program =
    record {
      clauses = rule 1 p (Call (is_not (r (var 0))) ∷ []) ∷ rule 1 (r (var 0)) (Call (is_true (s (f (var 0)))) ∷ [])
          ∷ rule 1 (s (var 0)) [] ∷ [];
      queries = ask (Call (is_not p)) ∷ [];
      abducibles = [];
      well_formed = refl;
      choices = refl;
    }

abbrev pub certificate : Certificate
certificate =
    answer
    (neg_tree p
    (covering
    ((
      1,
      leaf 1 (listed
          (pos_tree (r (var 0)) 2 (one (var 0)) (listed (pos_tree (s (f (var 0))) 3 (one (f (var 0))) (listed []) ∷ [])) ∷ [])),
    ) ∷ [])) ∷ []) []

five_lines : numbers (lines program certificate) ≡ 1 ∷ 2 ∷ 3 ∷ 4 ∷ 5 ∷ []
five_lines = refl

-- from the case on X has any value
what_opened :
    map (λ (l : Line). l.here.opened) (lines program certificate)
    ≡ [] ∷ [] ∷ (ranges 0 ∷ []) ∷ (ranges 0 ∷ []) ∷ (ranges 0 ∷ []) ∷ []
what_opened = refl

their_dues :
    dues (lines program certificate)
    ≡ goal (is_not p) ∷ nothing ∷ nothing ∷ goal (is_true (r (var 0))) ∷ goal (is_true (s (f (var 0)))) ∷ []
their_dues = refl

abbrev pub free : Sub
free x = constant 0

-- each line below the case has an instance for each value
said_true : true_atoms program certificate free (a ∷ b ∷ []) ≡ r a ∷ r b ∷ s (f a) ∷ s (f b) ∷ []
said_true = refl

said_false : false_atoms program certificate free (a ∷ b ∷ []) ≡ p ∷ []
said_false = refl

not_closed : is_closed_over program certificate free (a ∷ b ∷ []) ≡ false
not_closed = refl
