-- Where the rows that stand in a certificate are in normal form, all are that its acceptance speaks of.
use Rattle.std.proofs.Common.{◌≡◌, ℕ, true, List, [], ◌∷◌, ◌++◌, map}
use Rattle.std.specs.List.{Contains, flat_map}
use Rattle.std.proofs.lemmas.List.Elements.{Contains-append_left, Contains-append_right}
use Rattle.scasp_list.specs.Each.{Each}
use Rattle.scasp_list.proofs.EachLemmas.{Each-map, Each-append}
use Rattle.scasp_list.proofs.MemberLemmas.{Contains-none, Contains-here, Contains-there, list_all-member}
use Rattle.scasp_num.proofs.NormalTests.{normal-decided}
use Rattle.scasp_syntax.specs.Flat.{flat_after, number_test, unseen}
use Rattle.scasp_syntax.specs.WellFormed.{HasNormalRow}
use Rattle.scasp_syntax.specs.declared.clause.Item.{Item}
use Rattle.scasp_syntax.specs.declared.clause.Item.TheVariants as item
use Rattle.scasp_syntax.specs.declared.con.Con.{Con}
use Rattle.scasp_syntax.specs.declared.con.Con.TheVariants as con
use Rattle.scasp_syntax.specs.declared.program.Program.{Program}
use Rattle.scasp_syntax.proofs.ProgramLemmas.{clause-rows, query-rows}
use Rattle.scasp_cert.specs.Certificate.{Certificate}
use Rattle.scasp_cert.specs.Trees.{Tree, Branch, pos_tree, neg_tree, loop_tree, seen_tree, test_tree, split, void, leaf, head, listed}
use Rattle.scasp_hint.specs.AskedRows.{RowsNormal}
use Rattle.scasp_lines.specs.Lines.{lines}
use Rattle.scasp_checker_rules.specs.Normality.{AreRowsNormal, ItemNormal, LineNormal, on_node, on_case, on_part}
use Rattle.scasp_law_promise.specs.OwnRows.{constraints_by, constraints_below, constraints_at, constraints_in, is_con_normal, has_normal_rows}
use Rattle.scasp_law_promise.proofs.GatherLemmas.{Gathers, lines-passed}
use Rattle.scasp_unify.proofs.Members.{Each-from}

-- ---- lists of constraints

-- the row of a constraint, if it is one
abbrev ConNormal : Con → Type 0
ConNormal c = RowsNormal (c ∷ [])

con-normal : (c : Con) → is_con_normal c ≡ true → ConNormal c
con-normal (con.Row r) h = ((normal-decided r).0 h, tt)
con-normal (con.Eq t u) h = tt
con-normal (con.Neq t u) h = tt
con-normal (con.NotShape x f n) h = tt
con-normal (con.Num t) h = tt
con-normal (con.NotNum t) h = tt

cons-normal : (c : Con) (cs : List Con) → ConNormal c → RowsNormal cs → RowsNormal (c ∷ cs)
cons-normal (con.Row r) cs h k = (h.0, k)
cons-normal (con.Eq t u) cs h k = k
cons-normal (con.Neq t u) cs h k = k
cons-normal (con.NotShape x f n) cs h k = k
cons-normal (con.Num t) cs h k = k
cons-normal (con.NotNum t) cs h k = k

from-members : (cs : List Con) → ((c : Con) → Contains cs c → ConNormal c) → RowsNormal cs
from-members [] f = tt
from-members (c ∷ cs) f = cons-normal c cs (f c (Contains-here c cs)) (from-members cs (λ k i. f k (Contains-there c cs k i)))

-- ---- bodies

tests-normal : (xs : List ℕ) → Each ItemNormal (map number_test xs)
tests-normal [] = tt
tests-normal (x ∷ xs) = (tt, tests-normal xs)

body-normal : (seen : List ℕ) (body : List Item) → Each HasNormalRow body → Each ItemNormal (flat_after seen body)
body-normal seen [] h = tt
body-normal seen (item.Call l ∷ body) h = (tt, body-normal seen body h.1)
body-normal seen (item.Equal t u ∷ body) h = (tt, body-normal seen body h.1)
body-normal seen (item.Differ t u ∷ body) h = (tt, body-normal seen body h.1)
body-normal seen (item.Linear l ∷ body) h =
    Each-append ItemNormal (map number_test (unseen seen l.vars)) _ (tests-normal (unseen seen l.vars)) ((h.0, tt), body-normal (seen ++ l.vars) body h.1)

-- ---- lines

own-node : (t : Tree) (c : Con) → Contains (on_node t) c → Contains (constraints_by t) c
own-node (pos_tree a k ts us) c i = absurd (Contains-none c i)
own-node (neg_tree a bs) c i = absurd (Contains-none c i)
own-node (loop_tree lit to) c i = i
own-node (seen_tree lit to) c i = i
own-node (test_tree k hint) c i = i

own-case : (b : Branch) (c : Con) → Contains (on_case b) c → Contains (constraints_at b) c
own-case (split k f g) c i = Contains-append_left (k ∷ []) (constraints_at f ++ constraints_at g) c i
own-case (void hint) c i = i
own-case (leaf k ts) c i = absurd (Contains-none c i)
own-case (head ts) c i = absurd (Contains-none c i)

constraints-gather : Gathers on_part constraints_by constraints_below constraints_at constraints_in
constraints-gather =
    record {
      node = λ due t c i. own-node t c i;
      case = λ body b c i. own-case b c i;
      rule = λ k a b c i. absurd (Contains-none c i);
      check = λ k b c i. absurd (Contains-none c i);
      children = λ a k ts us c i. i;
      covers = λ a bs c i. i;
      first_tree = λ t ts c i. Contains-append_left (constraints_by t) (constraints_below ts) c i;
      other_trees = λ t ts c i. Contains-append_right (constraints_by t) (constraints_below ts) c i;
      first_side = λ k f g c i. Contains-there k _ c (Contains-append_left (constraints_at f) (constraints_at g) c i);
      second_side = λ k f g c i. Contains-there k _ c (Contains-append_right (constraints_at f) (constraints_at g) c i);
      of_leaf = λ k ts c i. i;
      of_head = λ ts c i. i;
      first_cover = λ k b bs c i. Contains-append_left (constraints_at b) (constraints_in bs) c i;
      other_covers = λ k b bs c i. Contains-append_right (constraints_at b) (constraints_in bs) c i;
    }

pub rows-normal : (p : Program) (c : Certificate) → has_normal_rows c ≡ true → AreRowsNormal p c
rows-normal p c h =
    let within : List Con = constraints_below (listed c.trees) ++ flat_map (λ k. constraints_at k.1) c.checks in
    let each : (k : Con) → Contains (c.given ++ within) k → ConNormal k = λ k i. con-normal k (list_all-member is_con_normal (c.given ++ within) k h i) in
    let passed = lines-passed on_part constraints_by constraints_below constraints_at constraints_in constraints-gather ConNormal p c
    (λ k i. each k (Contains-append_right c.given within k i)) in
    record {
      clauses = Each-map (λ k. Each HasNormalRow k.body) _ (λ k n. body-normal [] k.body n) p.clauses (clause-rows p);
      queries = Each-map (λ q. Each HasNormalRow q.body) _ (λ q n. body-normal [] q.body n) p.queries (query-rows p);
      given = from-members c.given (λ k i. each k (Contains-append_left c.given within k i));
      lines_normal = Each-from LineNormal (lines p c) (λ l i. from-members (on_part l.part) (passed.at l i));
    }
