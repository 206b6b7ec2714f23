-- Trees as the lines of the search make them, as they read in the certificate.
use Rattle.std.specs.Prelude.{◌≡◌, ⊤, ℕ, suc, pred, ◌+◌, ◌<◌, ◌≤◌, Bool, true, false, not, Option, Some, None, List, [], ◌∷◌, ◌++◌, drop, length, map}
use Rattle.std.specs.List.{filter, list_all}
use Rattle.scasp_checker_rules.specs.Ancestors.{entry_at, is_negated_before}
use Rattle.scasp_cert.specs.Lines.{lines_of, lines_at}
use Rattle.scasp_checker_rules.specs.Accepted.{IsTreeOf}
use Rattle.scasp_cert.specs.Trees.{Tree, Trees, Branch, Branches, pos_tree, neg_tree, loop_tree, seen_tree, test_tree, no_tree, tree, split, void, leaf, head, no_branch, branch}
use Rattle.scasp_lines.specs.Below.{rule_numbers}
use Rattle.scasp_lines.specs.Dues.{Due, goal, fact, nothing}
use Rattle.scasp_lines.specs.Places.{Above, Around}
use Rattle.scasp_search_rules.specs.Successors.Calls.{vars_of_clause}
use Rattle.scasp_search_rules.specs.Successors.Cases.{failing_at, head_call}
use Rattle.scasp_search_rules.specs.Successors.Items.{body_of}
use Rattle.scasp_search_rules.specs.Successors.Reading.{among}
use Rattle.scasp_search_rules.specs.Successors.Trees.{built, is_literal, line_of, literal_lines}
use Rattle.scasp_search_rules.specs.declared.states.lines.Line.{Line}
use Rattle.scasp_search_rules.specs.declared.states.lines.Line.TheVariants as line
use Rattle.scasp_search_rules.specs.declared.states.state.State.{State}
use Rattle.scasp_syntax.specs.Instances.{atom_under}
use Rattle.scasp_syntax.specs.Programs.{is_rule_of, numbered, pred_of, rules_of}
use Rattle.scasp_syntax.specs.Tm.{Tms}
use Rattle.scasp_syntax.specs.Values.{Sub, all_under}
use Rattle.scasp_syntax.specs.declared.atom.Atom.{Atom}
use Rattle.scasp_syntax.specs.declared.atom.Lit.{Lit}
use Rattle.scasp_syntax.specs.declared.clause.Clause.{Clause}
use Rattle.scasp_syntax.specs.declared.clause.FlatItem.TheVariants as flat
use Rattle.scasp_syntax.specs.declared.con.Con.TheVariants as con
use Rattle.scasp_syntax.specs.declared.hint.Hint.TheVariants as hint
use Rattle.scasp_syntax.specs.declared.program.Program.{Program}
use Rattle.scasp_unify.specs.Negations.{new_parts}
use Rattle.scasp_law_headed.specs.Reading.{Misses, Reads, body_dues, case_lines, cases_of, dues_read, is_plain_rule, reading}

-- ---- lines by number

abbrev pub first_tree : List Tree → Tree
first_tree [] = test_tree (con.NotShape 0 0 0) hint.Terms
first_tree (t ∷ ts) = t

abbrev pub is_literal_line : Option Line → Bool
is_literal_line None = false
is_literal_line (Some l) = is_literal l

abbrev pub above : ℕ → Bool → Atom → Above
above at positive a = record { at = at; positive = positive; atom = a }

abbrev pub around : ℕ → Bool → Around
around at plain = record { at = at; plain = plain }

-- the lines of the cases that are not plain
abbrev pub apart_lines : List Around → List ℕ
apart_lines rs = map (λ c. c.at) (filter (λ c. not c.plain) rs)

-- The line that a loop names is one of the literal above it.
pub record LoopsBack (above : List Above) (lit : Lit) (to : ℕ) : Type 0 where
  pub entry : Above
  pub found : entry_at to above ≡ Some entry
  pub sign : entry.positive ≡ lit.positive
  pub same : entry.atom ≡ lit.atom
  pub crosses : lit.positive ≡ true → is_negated_before to above ≡ true

-- By the program and the finished state, under the places of its variables and the lines of the whole search.
module _ (p : Program) (f : State) (v : Sub) (ls : List Line) where
  -- the line numbers of literals, and of cases
  abbrev pub ats : List ℕ
  ats = literal_lines 1 ls

  abbrev pub cats : List ℕ
  cats = case_lines 1 ls

  -- the line of this number, and the node that stands there
  abbrev pub line_at : ℕ → Option Line
  line_at at = numbered ls at

  abbrev pub node_at : ℕ → Tree
  node_at at = first_tree (built ats (drop (pred at) ls)).nodes

  -- no literal stands on the line
  abbrev pub IsNoLiteral : ℕ → Type 0
  IsNoLiteral at = is_literal_line (line_at at) ≡ false

  -- A literal stands on the line, and the cases around it that are not plain are those of the search.
  abbrev pub Enters : ℕ → List Around → Type 0
  Enters at rs = (n : ℕ) × (line_of ats n ≡ at) × (n < length ats) × (apart_lines rs ≡ map (line_of cats) (cases_of p f v n))

  -- The line names a literal by its number, and each case around that literal, which is not plain, is around here.
  pub record SeesLine (at : ℕ) (rs : List Around) (lit : Lit) (to : ℕ) : Type 0 where
    pub number : ℕ
    pub line : line_at at ≡ Some (line.Seen lit number)
    pub to_is : to ≡ line_of ats number
    pub scope : list_all (λ k. among (line_of cats k) (map (λ c. c.at) rs)) (cases_of p f v number) ≡ true

  -- The tree on line `to` is of the literal, no loop leads out of it, and it ends before the other line.
  pub record SeenRight (at : ℕ) (l : Lit) (to : ℕ) : Type 0 where
    pub literal : is_literal_line (line_at to) ≡ true
    pub node : IsTreeOf l (node_at to)
    pub ended : to + lines_of (node_at to) ≤ at

  abbrev pub ChecksLine : ℕ → ℕ → Type 0
  ChecksLine at k = (first : ℕ) × (line_at at ≡ Some (line.Check k first))

  pub record IsPositive (at : ℕ) (rs : List Around) (l : Lit) (a : Atom) (k : ℕ) (ts : Tms) (first : ℕ) : Type 0 where
    pub positive : l.positive ≡ true
    pub atom : a ≡ l.atom
    pub clause : Clause
    pub named : numbered p.clauses k ≡ Some clause
    pub is_rule : is_rule_of (pred_of a) clause ≡ true
    pub terms : ts ≡ all_under (reading f v) (new_parts first (vars_of_clause p k))
    pub reads : Reads p f v k first a
    pub children : ℕ
    pub line : line_at at ≡ Some (line.Pos a k ts children)
    pub enters : Enters at rs

  pub record IsNegated (at : ℕ) (rs : List Around) (l : Lit) (a : Atom) (covers : Branches) : Type 0 where
    pub negative : l.positive ≡ false
    pub atom : a ≡ l.atom
    pub rules : rule_numbers covers ≡ rules_of p (pred_of a)
    pub children : ℕ
    pub line : line_at at ≡ Some (line.Neg a children)
    pub enters : Enters at rs

  -- what is known of a cover's case: of a rule under the atom, or of a clause that is checked
  abbrev pub ReadsFor : Option Atom → ℕ → ℕ → Type 0
  ReadsFor (Some a) k first = Reads p f v k first a
  ReadsFor None k first = ⊤

  abbrev pub MissesFor : Option Atom → ℕ → Type 0
  MissesFor (Some a) k = Misses p f v k a
  MissesFor None k = ⊥

  -- The tree on this line, below these literals and in these cases, is due.
  abbrev mutual
    pub Good : ℕ → List Above → List Around → Due → Tree → Type 0
    Good at abv rs (fact o) (pos_tree a k ts children) = ⊥
    Good at abv rs (fact o) (neg_tree a covers) = ⊥
    Good at abv rs (fact o) (loop_tree lit to) = ⊥
    Good at abv rs (fact o) (seen_tree lit to) = ⊥
    Good at abv rs (fact o) (test_tree c h) = (o ≡ Some c) × (line_at at ≡ Some (line.Test c))
    Good at abv rs nothing t = ⊥
    Good at abv rs (goal l) (pos_tree a k ts children) =
        (first : ℕ) × IsPositive at rs l a k ts first × GoodTrees (suc at) (above at true a ∷ abv) rs (body_dues p f v k first) children
    Good at abv rs (goal l) (neg_tree a covers) = IsNegated at rs l a covers × GoodCovers (suc at) (above at false a ∷ abv) rs a covers
    Good at abv rs (goal l) (loop_tree lit to) = (lit ≡ l) × ((n : ℕ) × (line_at at ≡ Some (line.Loop lit n))) × LoopsBack abv l to
    Good at abv rs (goal l) (seen_tree lit to) = (lit ≡ l) × SeesLine at rs l to
    Good at abv rs (goal l) (test_tree c h) = ⊥

    pub GoodTrees : ℕ → List Above → List Around → List Due → Trees → Type 0
    GoodTrees at abv rs [] no_tree = ⊤
    GoodTrees at abv rs [] (tree t ts) = ⊥
    GoodTrees at abv rs (d ∷ ds) no_tree = ⊥
    GoodTrees at abv rs (d ∷ ds) (tree t ts) = (node_at at ≡ t) × Good at abv rs d t × GoodTrees (at + lines_of t) abv rs ds ts

    pub GoodCase : Option Atom → ℕ → List Above → List Around → ℕ → Branch → Type 0
    GoodCase o at abv rs k (split c first second) = ⊥
    GoodCase o at abv rs k (void h) = IsNoLiteral at × MissesFor o k
    GoodCase o at abv rs k (leaf n children) =
        IsNoLiteral at × (first : ℕ) × ReadsFor o k first × (j : ℕ) × (n ≡ suc j) × (j < length (body_of p k first))
        × GoodTrees (suc at) abv (around at (is_plain_rule p f v k) ∷ rs) (dues_read (reading f v) (failing_at j (body_of p k first))) children
    GoodCase o at abv rs k (head children) =
        IsNoLiteral at × (o ≡ None) × (first : ℕ) × (h : Atom) × (head_call (numbered p.clauses k) first ≡ flat.Call (record { positive = true; atom = h }) ∷ [])
        × GoodTrees (suc at) abv (around at (is_plain_rule p f v k) ∷ rs) (body_dues p f v k first ++ goal (record { positive = true; atom = atom_under (reading f v) h }) ∷ []) children

    pub GoodCovers : ℕ → List Above → List Around → Atom → Branches → Type 0
    GoodCovers at abv rs a no_branch = ⊤
    GoodCovers at abv rs a (branch k b bs) =
        (IsNoLiteral at × GoodCase (Some a) (suc at) abv rs k b) × GoodCovers (at + (1 + lines_at b)) abv rs a bs

  abbrev pub GoodRule : ℕ → List Above → List Around → Atom → ℕ → Branch → Type 0
  GoodRule at abv rs a k b = IsNoLiteral at × GoodCase (Some a) (suc at) abv rs k b

  abbrev pub GoodCheck : ℕ → List Above → List Around → ℕ → Branch → Type 0
  GoodCheck at abv rs k b = ChecksLine at k × GoodCase None (suc at) abv rs k b

  abbrev pub GoodChecks : ℕ → List Above → List Around → List (ℕ × Branch) → Type 0
  GoodChecks at abv rs [] = ⊤
  GoodChecks at abv rs (c ∷ cs) = GoodCheck at abv rs c.0 c.1 × GoodChecks (at + (1 + lines_at c.1)) abv rs cs
