-- What the lines of a certificate say at their instances over a domain.
use Rattle.std.specs.Prelude.{ℕ, Bool, true, false, ◌&&◌, not, List, [], ◌∷◌, map, filter}
use Rattle.std.specs.List.{list_all, list_any, Contains, flat_map}
use Rattle.scasp_syntax.specs.Instances.{atom_under}
use Rattle.scasp_syntax.specs.Same.{same_tm}
use Rattle.scasp_syntax.specs.Tm.{Tm, items}
use Rattle.scasp_syntax.specs.Values.{Sub, under}
use Rattle.scasp_syntax.specs.declared.atom.Atom.{Atom}
use Rattle.scasp_syntax.specs.declared.program.Program.{Program}
use Rattle.scasp_cert.specs.Certificate.{Certificate}
use Rattle.scasp_cert.specs.Trees.{Tree, pos_tree, neg_tree, loop_tree, seen_tree, test_tree}
use Rattle.scasp_lines.specs.Known.{are_known}
use Rattle.scasp_lines.specs.Lines.{free_of, lines}
use Rattle.scasp_lines.specs.Opened.{knows, well, IsInstance}
use Rattle.scasp_lines.specs.Walk.{Part, of_node, of_rule, of_check, of_case, Line}
use Rattle.scasp_lines.specs.Ways.{ways}

-- An instance of a line for a positive or a negated literal: its sign, its atom, and the terms that it lists for the variables of
-- its rule.
pub record Said : Type 0 where
  pub positive : Bool
  pub atom : Atom
  pub terms : List Tm

-- what a node says by itself where the variables have these values
abbrev pub said_by_node : Sub → Tree → List Said
said_by_node v (pos_tree a rule ts children) = record { positive = true; atom = atom_under v a; terms = map (under v) (items ts) } ∷ []
said_by_node v (neg_tree a covers) = record { positive = false; atom = atom_under v a; terms = [] } ∷ []
said_by_node v (loop_tree lit at) = []
said_by_node v (seen_tree lit at) = []
said_by_node v (test_tree con hint) = []

abbrev pub said_by_part : Sub → Part → List Said
said_by_part v (of_node due t) = said_by_node v t
said_by_part v (of_rule k a b) = []
said_by_part v (of_check k b) = []
said_by_part v (of_case body b) = []

-- what a line says at its instances
abbrev pub said_by_line : Sub → List Tm → Line → List Said
said_by_line free d l = flat_map (λ v. said_by_part v l.part) (ways d l.here.opened free)

-- what lines say
abbrev pub said_by_lines : List Line → Sub → List Tm → List Said
said_by_lines ls free d = flat_map (said_by_line free d) ls

-- what all lines of a certificate say
abbrev pub said : Program → Certificate → Sub → List Tm → List Said
said p c free d = said_by_lines (lines p c) free d

abbrev pub atoms_of : Bool → List Said → List Atom
atoms_of true ss = map (λ s. s.atom) (filter (λ s. s.positive) ss)
atoms_of false ss = map (λ s. s.atom) (filter (λ s. not s.positive) ss)

-- the atoms that the certificate says are true
abbrev pub true_atoms : Program → Certificate → Sub → List Tm → List Atom
true_atoms p c free d = atoms_of true (said p c free d)

-- the atoms that it says are false
abbrev pub false_atoms : Program → Certificate → Sub → List Tm → List Atom
false_atoms p c free d = atoms_of false (said p c free d)

-- the domain has each of the terms
abbrev pub are_in : List Tm → List Tm → Bool
are_in d ts = list_all (λ t. list_any (same_tm t) d) ts

-- each term that is listed for a variable of a rule has its value in d
abbrev pub are_terms_in : List Tm → List Said → Bool
are_terms_in d ss = list_all (λ s. are_in d s.terms) ss

abbrev pub is_closed_over : Program → Certificate → Sub → List Tm → Bool
is_closed_over p c free d = are_terms_in d (said p c free d)

abbrev pub is_node_known : (ℕ → Bool) → Tree → Bool
is_node_known known (pos_tree a rule ts children) = are_known known a.args && are_known known ts
is_node_known known (neg_tree a covers) = are_known known a.args
is_node_known known (loop_tree lit at) = true
is_node_known known (seen_tree lit at) = true
is_node_known known (test_tree con hint) = true

abbrev pub is_part_known : (ℕ → Bool) → Part → Bool
is_part_known known (of_node due t) = is_node_known known t
is_part_known known (of_rule k a b) = true
is_part_known known (of_check k b) = true
is_part_known known (of_case body b) = true

-- what opened at the line is well, and what it says has known variables
abbrev pub is_line_known : ℕ → Line → Bool
is_line_known n l = well n l.here.opened && is_part_known (knows n l.here.opened) l.part

abbrev pub are_lines_known : Program → Certificate → Bool
are_lines_known p c = list_all (is_line_known (free_of c)) (lines p c)

-- A line of the certificate says it at an instance of the line.
pub record SaysAt (p : Program) (c : Certificate) (free : Sub) (d : List Tm) (s : Said) : Type 0 where
  pub line : Line
  pub listed : Contains (lines p c) line
  pub by : Sub
  pub instance : IsInstance (free_of c) d free line.here.opened by
  pub says : Contains (said_by_part by line.part) s
