-- What holds at each line of a certificate, where it holds at the start and is kept from each line to those below it.
use Rattle.std.specs.Prelude.{ℕ, ◌+◌, ◌≤◌, false, true}
use Rattle.scasp_syntax.specs.Programs.{numbered}
use Rattle.scasp_syntax.specs.Tm.{Tms}
use Rattle.scasp_syntax.specs.declared.atom.Atom.{Atom}
use Rattle.scasp_syntax.specs.declared.con.Con.{Con}
use Rattle.scasp_cert.specs.Trees.{Trees, Branch, Branches, pos_tree, neg_tree, split, leaf, head}
use Rattle.scasp_lines.specs.Places.{Place, below_literal, within_case}
use Rattle.scasp_lines.specs.Bodies.{Body, split_body, inside_rule, inside_check}
use Rattle.scasp_lines.specs.Dues.{Due}
use Rattle.scasp_lines.specs.Walk.{Part, of_node, of_rule, of_check, of_case, Line, Setting, line}
use Rattle.scasp_lines.specs.Sides.{sides}
use Rattle.scasp_lines.specs.Rooms.{room_of_clause}

-- What is claimed of nodes and checks, of the rules under a literal, by its atom, and of the cases of a body; each by what holds there and
-- the number of the next universal variable.
pub record Claim : Type 1 where
  pub nodes : Place → ℕ → Type 0
  pub rules : Atom → Place → ℕ → Type 0
  pub cases : Body → Place → ℕ → Type 0

-- the claim holds at the line
abbrev pub HoldsFor : Claim → Place → ℕ → Part → Type 0
HoldsFor k here next (of_node due t) = k.nodes here next
HoldsFor k here next (of_rule r a b) = k.rules a here next
HoldsFor k here next (of_check r b) = k.nodes here next
HoldsFor k here next (of_case body b) = k.cases body here next

abbrev pub HoldsAt : Claim → Line → Type 0
HoldsAt k l = HoldsFor k l.here l.next l.part

-- The claim is kept: where more universals began before, and from each line, of which F is known, to those below it.
pub record Passes (s : Setting) (F : Line → Type 0) (k : Claim) : Type 0 where
  pub later_nodes : (here : Place) (n m : ℕ) → n ≤ m → m ≤ s.top → k.nodes here n → k.nodes here m
  pub later_rules : (a : Atom) (here : Place) (n m : ℕ) → n ≤ m → m ≤ s.top → k.rules a here n → k.rules a here m
  pub later_cases : (body : Body) (here : Place) (n m : ℕ) → n ≤ m → m ≤ s.top → k.cases body here n → k.cases body here m
  pub into_positive : (at next : ℕ) (here : Place) (due : Due) (a : Atom) (r : ℕ) (ts : Tms) (children : Trees) → F (line at next here (of_node due (pos_tree a r ts children)))
      → k.nodes here next → k.nodes (below_literal at true a here) next
  pub into_negative : (at next : ℕ) (here : Place) (due : Due) (a : Atom) (covers : Branches) → F (line at next here (of_node due (neg_tree a covers)))
      → k.nodes here next → k.rules a (below_literal at false a here) next
  pub into_rule : (at next : ℕ) (here : Place) (r : ℕ) (a : Atom) (b : Branch) → F (line at next here (of_rule r a b))
      → (next + room_of_clause (numbered s.clauses r)) ≤ s.top
      → k.rules a here next → k.cases (inside_rule (numbered s.clauses r) a next here).body (inside_rule (numbered s.clauses r) a next here).here (inside_rule (numbered s.clauses r) a next here).next
  pub into_check : (at next : ℕ) (here : Place) (r : ℕ) (b : Branch) → F (line at next here (of_check r b))
      → (next + room_of_clause (numbered s.clauses r)) ≤ s.top
      → k.nodes here next → k.cases (inside_check (numbered s.clauses r) next here).body (inside_check (numbered s.clauses r) next here).here (inside_check (numbered s.clauses r) next here).next
  pub into_first : (at next : ℕ) (here : Place) (body : Body) (c : Con) (f g : Branch) → F (line at next here (of_case body (split c f g)))
      → (sides s.free s.top c here next).next ≤ s.top
      → k.cases body here next → k.cases (split_body body) (sides s.free s.top c here next).first (sides s.free s.top c here next).next
  pub into_second : (at next : ℕ) (here : Place) (body : Body) (c : Con) (f g : Branch) → F (line at next here (of_case body (split c f g)))
      → (sides s.free s.top c here next).next ≤ s.top
      → k.cases body here next → k.cases (split_body body) (sides s.free s.top c here next).second (sides s.free s.top c here next).next
  pub into_leaf : (at next : ℕ) (here : Place) (body : Body) (r : ℕ) (children : Trees) → F (line at next here (of_case body (leaf r children)))
      → k.cases body here next → k.nodes (within_case at body.bare here) next
  pub into_head : (at next : ℕ) (here : Place) (body : Body) (children : Trees) → F (line at next here (of_case body (head children)))
      → k.cases body here next → k.nodes (within_case at body.bare here) next
