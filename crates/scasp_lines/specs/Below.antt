-- The lines right below a line.
use Rattle.std.specs.Prelude.{◌≡◌, ℕ, suc, true, false, List, [], ◌∷◌, ◌+◌, Some, length}
use Rattle.std.specs.List.{Contains}
use Rattle.scasp_syntax.specs.Flat.{flat_body}
use Rattle.scasp_syntax.specs.Instances.{atom_under}
use Rattle.scasp_syntax.specs.Programs.{numbered}
use Rattle.scasp_syntax.specs.Tm.{Tms, items}
use Rattle.scasp_syntax.specs.Values.{giving}
use Rattle.scasp_syntax.specs.declared.atom.Atom.{Atom}
use Rattle.scasp_syntax.specs.declared.clause.Clause.{Clause}
use Rattle.scasp_syntax.specs.declared.clause.FlatItem.{FlatItem}
use Rattle.scasp_syntax.specs.declared.clause.Query.{Query}
use Rattle.scasp_syntax.specs.declared.con.Con.{Con}
use Rattle.scasp_syntax.specs.declared.program.Program.{Program}
use Rattle.scasp_cert.specs.Certificate.{Certificate}
use Rattle.scasp_cert.specs.Trees.{Tree, pos_tree, neg_tree, Branch, split, leaf, Trees, Branches, no_tree, tree, head, no_branch, branch, listed}
use Rattle.scasp_lines.specs.Bodies.{Body, split_body, inside_rule, inside_check}
use Rattle.scasp_lines.specs.Dues.{Due, goal, due_of, values_here}
use Rattle.scasp_lines.specs.Lines.{lines, setting, walk_of}
use Rattle.scasp_lines.specs.Places.{Place, below_literal, within_case, start}
use Rattle.scasp_lines.specs.Sides.{sides}
use Rattle.scasp_lines.specs.Walk.{of_node, of_rule, of_check, of_case, Line, Setting}

-- how many trees a list has
abbrev pub count : Trees → ℕ
count no_tree = 0
count (tree t ts) = suc (count ts)

-- the numbers of the rules under a negated literal
abbrev pub rule_numbers : Branches → List ℕ
rule_numbers no_branch = []
rule_numbers (branch k b bs) = k ∷ rule_numbers bs

-- One of the lines is a node that is due for this, where this holds.
pub record HasNode (ls : List Line) (here : Place) (due : Due) : Type 0 where
  pub line : Line
  pub listed : Contains ls line
  pub there : line.here ≡ here
  pub tree : Tree
  pub is : line.part ≡ of_node due tree

-- One of the lines is this rule under the literal's line.
pub record HasRule (ls : List Line) (here : Place) (k : ℕ) (a : Atom) : Type 0 where
  pub line : Line
  pub listed : Contains ls line
  pub there : line.here ≡ here
  pub case : Branch
  pub is : line.part ≡ of_rule k a case

-- One of the lines is this case of the body.
pub record HasCase (ls : List Line) (here : Place) (body : Body) (b : Branch) : Type 0 where
  pub line : Line
  pub listed : Contains ls line
  pub there : line.here ≡ here
  pub is : line.part ≡ of_case body b

-- each item of a rule under these terms has its node
abbrev pub HasItems : Setting → Line → Type 0
HasItems s l =
    (due : Due) (a : Atom) (k : ℕ) (ts : Tms) (children : Trees) → l.part ≡ of_node due (pos_tree a k ts children) → (c : Clause) → numbered s.clauses k ≡ Some c
    → count children ≡ length (flat_body c.body) → (i : FlatItem) → Contains (flat_body c.body) i
    → HasNode (walk_of s l) (below_literal l.at true a l.here) (due_of (values_here l.here (giving (items ts))) true i)

-- each rule that is named under a negated literal has its line
abbrev pub HasRules : Setting → Line → Type 0
HasRules s l =
    (due : Due) (a : Atom) (covers : Branches) → l.part ≡ of_node due (neg_tree a covers) → (k : ℕ) → Contains (rule_numbers covers) k
    → HasRule (walk_of s l) (below_literal l.at false a l.here) k a

-- a rule and a check have their case
abbrev pub HasRuleCase : Setting → Line → Type 0
HasRuleCase s l =
    (k : ℕ) (a : Atom) (b : Branch) → l.part ≡ of_rule k a b
    → HasCase (walk_of s l) (inside_rule (numbered s.clauses k) a l.next l.here).here (inside_rule (numbered s.clauses k) a l.next l.here).body b

abbrev pub HasCheckCase : Setting → Line → Type 0
HasCheckCase s l =
    (k : ℕ) (b : Branch) → l.part ≡ of_check k b
    → HasCase (walk_of s l) (inside_check (numbered s.clauses k) l.next l.here).here (inside_check (numbered s.clauses k) l.next l.here).body b

-- a split has both sides
abbrev pub HasSides : Setting → Line → Type 0
HasSides s l =
    (body : Body) (c : Con) (first second : Branch) → l.part ≡ of_case body (split c first second)
    → HasCase (walk_of s l) (sides s.free s.top c l.here l.next).first (split_body body) first
    × HasCase (walk_of s l) (sides s.free s.top c l.here l.next).second (split_body body) second

-- a leaf has the node that shows its item false
abbrev pub HasFalseItem : Setting → Line → Type 0
HasFalseItem s l =
    (body : Body) (k : ℕ) (children : Trees) → l.part ≡ of_case body (leaf k children) → count children ≡ k → (i : FlatItem) → numbered body.items k ≡ Some i
    → HasNode (walk_of s l) (within_case l.at body.bare l.here) (due_of (values_here l.here body.values) false i)

-- a case in which the head holds has the node that shows it
abbrev pub HasHead : Setting → Line → Type 0
HasHead s l =
    (body : Body) (children : Trees) → l.part ≡ of_case body (head children) → count children ≡ length body.items + 1 → (h : Atom) → body.head ≡ Some h
    → HasNode (walk_of s l) (within_case l.at body.bare l.here) (goal (record { positive = true; atom = atom_under (values_here l.here body.values) h }))

-- what stands right below a line
pub record HasBelow (s : Setting) (l : Line) : Type 0 where
  pub items_of : HasItems s l
  pub rules_of : HasRules s l
  pub rule_case : HasRuleCase s l
  pub check_case : HasCheckCase s l
  pub sides_of : HasSides s l
  pub false_item : HasFalseItem s l
  pub head_of : HasHead s l

-- each item of the query has its node
abbrev pub HasQueryItems : Program → Certificate → Type 0
HasQueryItems p c =
    (q : Query) → numbered p.queries c.query ≡ Some q → count (listed c.trees) ≡ length (flat_body q.body)
    → (i : FlatItem) → Contains (flat_body q.body) i
    → HasNode (lines p c) (start (setting p.clauses c).top) (due_of (giving (items c.terms)) true i)
