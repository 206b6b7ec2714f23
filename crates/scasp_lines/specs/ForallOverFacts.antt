-- A worked case: a universal variable that is split at two values. p :- q(X), not r(X). q(a). q(b). r(a). r(b). ?- not p.
use Rattle.std.specs.Prelude.{◌≡◌, ℕ, true, false, List, [], ◌∷◌, map}
use Rattle.std.proofs.Common.{refl}
use Rattle.scasp_syntax.specs.Tm.{Tm, var, app, nil}
use Rattle.scasp_syntax.specs.Values.{Sub}
use Rattle.scasp_syntax.specs.declared.atom.Atom.{Atom}
use Rattle.scasp_syntax.specs.declared.clause.Item.TheVariants.{Call}
use Rattle.scasp_syntax.specs.declared.con.Con.{Con}
use Rattle.scasp_syntax.specs.declared.con.Con.TheVariants as con
use Rattle.scasp_syntax.specs.declared.hint.Hint.TheVariants as hint
use Rattle.scasp_syntax.specs.declared.term.Term.TheVariants.{Var, App}
use Rattle.scasp_cert.specs.Trees.{neg_tree, split, void, leaf, listed, covering}
use Rattle.scasp_lines.specs.Dues.{goal, nothing}
use Rattle.scasp_lines.specs.Lines.{certificate_walk}
use Rattle.scasp_lines.specs.Places.{Around}
use Rattle.scasp_lines.specs.Said.{atoms_of, are_terms_in, said_by_lines}
use Rattle.scasp_lines.specs.Samples.{atom, one, constant, is_true, is_not, rule, ask, answer, by_fact, numbers, contexts, dues}
use Rattle.scasp_lines.specs.Walk.{Line}

abbrev p : Atom
p = atom 2 nil

abbrev q : Tm → Atom
q t = atom 3 (one t)

abbrev r : Tm → Atom
r t = atom 4 (one t)

abbrev a : Tm
a = constant 5

abbrev b : Tm
b = constant 6

abbrev f : Tm → Tm
f t = app 7 (one t)

abbrev pub not_a : Con
not_a = con.NotShape 0 5 0

abbrev pub not_b : Con
not_b = con.NotShape 0 6 0

abbrev all : List Line
all =
    (certificate_walk
    (rule 1 p (Call (is_true (q (var 0))) ∷ Call (is_not (r (var 0))) ∷ [])
    ∷ rule 0 (q a) [] ∷ rule 0 (q b) [] ∷ rule 0 (r a) [] ∷ rule 0 (r b) [] ∷ [])
    (ask (Call (is_not p)) ∷ [])
    (answer
    (neg_tree p
    (covering
    ((
      1,
      split not_a
          (split not_b
          (leaf 1 (listed (neg_tree (q (var 0)) (covering ((2, void hint.Terms) ∷ (3, void hint.Terms) ∷ [])) ∷ [])))
          (leaf 2 (listed (by_fact (q b) 3 ∷ by_fact (r b) 5 ∷ []))))
          (leaf 2 (listed (by_fact (q a) 2 ∷ by_fact (r a) 4 ∷ []))),
    ) ∷ [])) ∷ []) [])).lines

abbrev around : ℕ → Around
around at = record { at = at; plain = false }

sixteen_lines : numbers all ≡ 1 ∷ 2 ∷ 3 ∷ 4 ∷ 5 ∷ 6 ∷ 7 ∷ 8 ∷ 9 ∷ 10 ∷ 11 ∷ 12 ∷ 13 ∷ 14 ∷ 15 ∷ 16 ∷ []
sixteen_lines = refl

abbrev is_a : Con
is_a = con.Eq (Var 0) (App 5 nil)

abbrev is_b : Con
is_b = con.Eq (Var 0) (App 6 nil)

-- on the sides of each split its constraint and then the negation; at the rules of q(X) their openings
their_contexts :
    contexts all
    ≡ [] ∷ [] ∷ [] ∷ (not_a ∷ [])
    ∷ (not_a ∷ not_b ∷ []) ∷ (not_a ∷ not_b ∷ []) ∷ (not_a ∷ not_b ∷ []) ∷ (not_a ∷ not_b ∷ is_a ∷ [])
    ∷ (not_a ∷ not_b ∷ []) ∷ (not_a ∷ not_b ∷ is_b ∷ [])
    ∷ (not_a ∷ is_b ∷ []) ∷ (not_a ∷ is_b ∷ []) ∷ (not_a ∷ is_b ∷ [])
    ∷ (is_a ∷ []) ∷ (is_a ∷ []) ∷ (is_a ∷ []) ∷ []
their_contexts = refl

-- cases below a split are not plain
not_plain : map (λ (l : Line). l.here.around) all
    ≡ [] ∷ [] ∷ [] ∷ [] ∷ [] ∷ (around 5 ∷ []) ∷ (around 5 ∷ []) ∷ (around 5 ∷ []) ∷ (around 5 ∷ []) ∷ (around 5 ∷ [])
    ∷ [] ∷ (around 11 ∷ []) ∷ (around 11 ∷ []) ∷ [] ∷ (around 14 ∷ []) ∷ (around 14 ∷ []) ∷ []
not_plain = refl

-- below the sides on which X equals a value, the value stands for X
their_dues :
    dues all
    ≡ goal (is_not p) ∷ nothing ∷ nothing ∷ nothing
    ∷ nothing ∷ goal (is_not (q (var 0))) ∷ nothing ∷ nothing ∷ nothing ∷ nothing
    ∷ nothing ∷ goal (is_true (q b)) ∷ goal (is_true (r b))
    ∷ nothing ∷ goal (is_true (q a)) ∷ goal (is_true (r a)) ∷ []
their_dues = refl

abbrev free : Sub
free x = constant 0

abbrev domain : List Tm
domain = a ∷ b ∷ f a ∷ []

-- each value is on one side of each split, and q(X) is said to be false of the third value alone
said_false : atoms_of false (said_by_lines all free domain) ≡ p ∷ q (f a) ∷ []
said_false = refl

said_true : atoms_of true (said_by_lines all free domain) ≡ q b ∷ r b ∷ q a ∷ r a ∷ []
said_true = refl

is_closed : are_terms_in domain (said_by_lines all free domain) ≡ true
is_closed = refl
