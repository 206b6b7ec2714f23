-- Words for worked cases: atoms, rules and answers, and what is read off their lines.
use Rattle.std.specs.Prelude.{ℕ, true, false, List, [], ◌∷◌, map, Some}
use Rattle.scasp_syntax.specs.Tm.{Tm, Tms, app, nil, cons}
use Rattle.scasp_syntax.specs.declared.atom.Atom.{Atom}
use Rattle.scasp_syntax.specs.declared.atom.Lit.{Lit}
use Rattle.scasp_syntax.specs.declared.clause.Clause.{Clause}
use Rattle.scasp_syntax.specs.declared.clause.Item.{Item}
use Rattle.scasp_syntax.specs.declared.clause.Query.{Query}
use Rattle.scasp_syntax.specs.declared.con.Con.{Con}
use Rattle.scasp_cert.specs.Certificate.{Certificate}
use Rattle.scasp_cert.specs.Trees.{Tree, Branch, pos_tree, listed}
use Rattle.scasp_lines.specs.Contexts.{context}
use Rattle.scasp_lines.specs.Dues.{Due, nothing}
use Rattle.scasp_lines.specs.Walk.{Part, of_node, of_rule, of_check, of_case, Line}

abbrev pub atom : ℕ → Tms → Atom
atom name ts = record { minus = false; name = name; args = ts }

abbrev pub one : Tm → Tms
one t = cons t nil

abbrev pub constant : ℕ → Tm
constant name = app name nil

abbrev pub is_true : Atom → Lit
is_true a = record { positive = true; atom = a }

abbrev pub is_not : Atom → Lit
is_not a = record { positive = false; atom = a }

abbrev pub rule : ℕ → Atom → List Item → Clause
rule vars h body = record { head = Some h; body = body; vars = vars }

abbrev pub ask : Item → Query
ask i = record { body = i ∷ []; names = [] }

abbrev pub by_fact : Atom → ℕ → Tree
by_fact h k = pos_tree h k nil (listed [])

abbrev pub answer : List Tree → List (ℕ × Branch) → Certificate
answer trees checks =
    record { query = 1; terms = nil; given = []; sample = nil; trees = trees; checks = checks; clashes = []; map = [] }

abbrev pub numbers : List Line → List ℕ
numbers ls = map (λ (l : Line). l.at) ls

abbrev pub contexts : List Line → List (List Con)
contexts ls = map (λ (l : Line). context [] l.here.opened) ls

abbrev pub due_at : Part → Due
due_at (of_node due t) = due
due_at (of_rule k a b) = nothing
due_at (of_check k b) = nothing
due_at (of_case body b) = nothing

abbrev pub dues : List Line → List Due
dues ls = map (λ (l : Line). due_at l.part) ls
