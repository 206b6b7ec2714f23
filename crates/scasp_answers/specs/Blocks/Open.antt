-- Lines that are open, as others may stand below them, and what they become with those.
use Rattle.std.specs.Prelude.{ℕ, ◌+◌, ◌==◌, nat_lt, Bool, true, false, ◌&&◌, if◌then◌else◌, List, [], ◌∷◌, ◌++◌, length, map, flat_map, Option, None, Some}
use Rattle.scasp_cert.specs.Trees.{Tree, Branch, pos_tree, neg_tree, loop_tree, seen_tree, test_tree, split, void, leaf, head, listed, covering}
use Rattle.scasp_cert.specs.Certificate.{Certificate}
use Rattle.scasp_answers_terms.specs.Tokens.Lines.{Line, tree_line, check_line, pos_line, neg_line, loop_line, seen_line, test_line, rule_line, split_line, void_line, leaf_line, head_line}

-- a node; a rule under a negated literal with its case; a case
pub data Part : Type 0 where
  node_part : Tree → Part
  cover_part : ℕ → Branch → Part
  case_part : Branch → Part

-- what may stand right below a line: any nodes, any rules, exactly so many cases, nothing
pub data Room : Type 0 where
  nodes : Room
  covers : Room
  cases : ℕ → Room
  nothing : Room

abbrev pub room_below : Line → Room
room_below tree_line = nodes
room_below (pos_line a rule ts) = nodes
room_below (leaf_line k) = nodes
room_below head_line = nodes
room_below (neg_line a) = covers
room_below (check_line k) = cases 1
room_below (rule_line k) = cases 1
room_below (split_line c) = cases 2
room_below _ = nothing

abbrev pub is_node : Line → Bool
is_node (pos_line a rule ts) = true
is_node (neg_line a) = true
is_node (loop_line l at) = true
is_node (seen_line l at) = true
is_node (test_line c h) = true
is_node _ = false

abbrev pub is_cover : Line → Bool
is_cover (rule_line k) = true
is_cover _ = false

abbrev pub is_case : Line → Bool
is_case (split_line c) = true
is_case (void_line h) = true
is_case (leaf_line k) = true
is_case head_line = true
is_case _ = false

-- the line may stand there, behind so many parts
abbrev pub may_stand : Room → ℕ → Line → Bool
may_stand nodes n l = is_node l
may_stand covers n l = is_cover l
may_stand (cases k) n l = is_case l && nat_lt n k
may_stand nothing n l = false

-- nothing more has to stand there
abbrev pub has_all : Room → ℕ → Bool
has_all (cases k) n = n == k
has_all _ n = true

-- a line that is open, with the parts right below it so far
pub record Open : Type 0 where
  pub line : Line
  pub parts : List Part

abbrev pub is_whole : Open → Bool
is_whole o = has_all (room_below o.line) (length o.parts)

abbrev pub trees_among : List Part → List Tree
trees_among ps = flat_map only_tree ps
  where
    only_tree : Part → List Tree
    only_tree (node_part t) = t ∷ []
    only_tree (cover_part k b) = []
    only_tree (case_part b) = []

abbrev pub covers_among : List Part → List (ℕ × Branch)
covers_among ps = flat_map only_cover ps
  where
    only_cover : Part → List (ℕ × Branch)
    only_cover (node_part t) = []
    only_cover (cover_part k b) = (k, b) ∷ []
    only_cover (case_part b) = []

abbrev pub cases_among : List Part → List Branch
cases_among ps = flat_map only_case ps
  where
    only_case : Part → List Branch
    only_case (node_part t) = []
    only_case (cover_part k b) = []
    only_case (case_part b) = b ∷ []

-- both sides of a split
abbrev pub split_part : Line → List Branch → List Part
split_part (split_line c) (first ∷ second ∷ []) = case_part (split c first second) ∷ []
split_part _ _ = []

-- the part that a line is with the parts below it, if it is one
abbrev pub parts_of : Line → List Part → List Part
parts_of (pos_line a rule ts) ps = node_part (pos_tree a rule ts (listed (trees_among ps))) ∷ []
parts_of (neg_line a) ps = node_part (neg_tree a (covering (covers_among ps))) ∷ []
parts_of (loop_line l at) ps = node_part (loop_tree l at) ∷ []
parts_of (seen_line l at) ps = node_part (seen_tree l at) ∷ []
parts_of (test_line c h) ps = node_part (test_tree c h) ∷ []
parts_of (rule_line k) ps = map (cover_part k) (cases_among ps)
parts_of (split_line c) ps = split_part (split_line c) (cases_among ps)
parts_of (void_line h) ps = case_part (void h) ∷ []
parts_of (leaf_line k) ps = case_part (leaf k (listed (trees_among ps))) ∷ []
parts_of head_line ps = case_part (head (listed (trees_among ps))) ∷ []
parts_of _ ps = []

abbrev pub with_parts : Open → List Part → Open
with_parts o ps = record o { parts = o.parts ++ ps }

-- the block with the query items or the check
abbrev pub with_top : Open → Certificate → Certificate
with_top o c = top_of o.line
  where
    top_of : Line → Certificate
    top_of tree_line = record c { trees = trees_among o.parts }
    top_of (check_line k) = record c { checks = c.checks ++ map (λ b. (k, b)) (cases_among o.parts) }
    top_of _ = c

-- the lines that are still open, and the block
pub record Closed : Type 0 where
  pub opens : List Open
  pub block : Certificate

-- Lines that stand as deep as `depth` or deeper are closed; the open ones stand at the depths from 0 on. A line that lacks a case
-- can't be closed.
abbrev pub closed_from : ℕ → Open → List Open → Certificate → Option Closed
closed_from depth top [] c =
    if depth == 1 then Some (record { opens = top ∷ []; block = c })
    else (if (depth == 0) && is_whole top then Some (record { opens = []; block = with_top top c }) else None)
closed_from depth top (o ∷ opens) c =
    if depth == length opens + 2 then Some (record { opens = top ∷ o ∷ opens; block = c })
    else (if is_whole top then closed_from depth (with_parts o (parts_of top.line top.parts)) opens c else None)

abbrev pub closed_to : ℕ → List Open → Certificate → Option Closed
closed_to depth [] c = if depth == 0 then Some (record { opens = []; block = c }) else None
closed_to depth (o ∷ opens) c = closed_from depth o opens c
