-- A worked case: a literal that repeats an ancestor, with what stands above and around it.
-- p :- not q, x. q :- not x. x :- p. ?- not p.
use Rattle.std.specs.Prelude.{◌≡◌, ℕ, true, false, List, [], ◌∷◌, map}
use Rattle.std.proofs.Common.{refl}
use Rattle.scasp_syntax.specs.Tm.{nil}
use Rattle.scasp_syntax.specs.declared.atom.Atom.{Atom}
use Rattle.scasp_syntax.specs.declared.clause.Item.TheVariants.{Call}
use Rattle.scasp_cert.specs.Trees.{pos_tree, neg_tree, loop_tree, leaf, listed, covering}
use Rattle.scasp_lines.specs.Dues.{goal, nothing}
use Rattle.scasp_lines.specs.Lines.{certificate_walk}
use Rattle.scasp_lines.specs.Places.{Above, Around}
use Rattle.scasp_lines.specs.Samples.{atom, is_true, is_not, rule, ask, answer, dues}
use Rattle.scasp_lines.specs.Walk.{Line}

abbrev p : Atom
p = atom 2 nil

abbrev q : Atom
q = atom 3 nil

abbrev x : Atom
x = atom 4 nil

abbrev all : List Line
all =
    (certificate_walk
    (rule 0 p (Call (is_not q) ∷ Call (is_true x) ∷ []) ∷ rule 0 q (Call (is_not x) ∷ []) ∷ rule 0 x (Call (is_true p) ∷ []) ∷ [])
    (ask (Call (is_not p)) ∷ [])
    (answer
    (neg_tree p (covering
    ((
      1,
      leaf 1 (listed
          (pos_tree q 2 nil (listed
          (neg_tree x (covering ((3, leaf 1 (listed (loop_tree (is_not p) 1 ∷ []))) ∷ [])) ∷ [])) ∷ [])),
    ) ∷ [])) ∷ []) [])).lines

-- the item of a leaf that is to be false is due for its other sign
their_dues :
    dues all
    ≡ goal (is_not p) ∷ nothing ∷ nothing ∷ goal (is_true q) ∷ goal (is_not x) ∷ nothing ∷ nothing ∷ goal (is_not p) ∷ []
their_dues = refl

abbrev not_p : Above
not_p = record { at = 1; positive = false; atom = p }

abbrev by_q : Above
by_q = record { at = 4; positive = true; atom = q }

abbrev not_x : Above
not_x = record { at = 5; positive = false; atom = x }

literals_above :
    map (λ (l : Line). l.here.above) all
    ≡ [] ∷ (not_p ∷ []) ∷ (not_p ∷ []) ∷ (not_p ∷ []) ∷ (by_q ∷ not_p ∷ [])
    ∷ (not_x ∷ by_q ∷ not_p ∷ []) ∷ (not_x ∷ by_q ∷ not_p ∷ []) ∷ (not_x ∷ by_q ∷ not_p ∷ []) ∷ []
literals_above = refl

-- no clause has a variable, so each case is plain
abbrev third : Around
third = record { at = 3; plain = true }

abbrev seventh : Around
seventh = record { at = 7; plain = true }

cases_around :
    map (λ (l : Line). l.here.around) all
    ≡ [] ∷ [] ∷ [] ∷ (third ∷ []) ∷ (third ∷ []) ∷ (third ∷ []) ∷ (third ∷ []) ∷ (seventh ∷ third ∷ []) ∷ []
cases_around = refl
