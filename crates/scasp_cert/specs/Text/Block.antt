-- How a certificate is written: the lines from `answer` to `end`.
use Rattle.std.specs.Prelude.{ℕ, List, ◌++◌, if◌then◌else◌, flat_map, codes, decimal}
use Rattle.scasp_syntax.specs.declared.con.Con.{Con}
use Rattle.scasp_syntax.specs.declared.atom.Pred.{Pred}
use Rattle.scasp_syntax.specs.declared.predicate_map.PredMap.{PredMap}
use Rattle.scasp_cert.specs.Trees.{Branch, listed}
use Rattle.scasp_cert.specs.Certificate.{Certificate}
use Rattle.scasp_cert.specs.declared.certificate.Clash.{Clash}
use Rattle.scasp_cert.specs.Text.Names.{name_text}
use Rattle.scasp_cert.specs.Text.Terms.{list_text, minus_text}
use Rattle.scasp_cert.specs.Text.Constraints.{con_text}
use Rattle.scasp_cert.specs.Text.Hints.{hint_text}
use Rattle.scasp_cert.specs.Text.Trees.{trees_text, branch_text}

-- `answer Q.N TERMS`, the first line of answer N to query Q
unfoldable pub answer_line : List (List ℕ) → Certificate → ℕ → List ℕ
answer_line names c answer =
    codes "answer " ++ decimal c.query ++ codes "." ++ decimal answer ++ codes " " ++ list_text names c.terms ++ codes "\n"

-- `given CON`
unfoldable pub given_line : List (List ℕ) → Con → List ℕ
given_line names con = codes "given " ++ con_text names con ++ codes "\n"

-- `check K`, and the case of clause K below it
unfoldable pub check_text : List (List ℕ) → ℕ × Branch → List ℕ
check_text names c = codes "check " ++ decimal c.0 ++ codes "\n" ++ branch_text names 1 c.1

-- `clash N N HINT`
unfoldable pub clash_line : Clash → List ℕ
clash_line c =
    codes "clash " ++ decimal c.first ++ codes " " ++ decimal c.second ++ codes " " ++ hint_text c.hint ++ codes "\n"

-- `p/1`, `-p/1`
unfoldable pub pred_text : List (List ℕ) → Pred → List ℕ
pred_text names p = minus_text p.minus ++ name_text names p.name ++ codes "/" ++ decimal p.arity

-- `map P/A LEVEL SIGN`
unfoldable pub map_line : List (List ℕ) → PredMap → List ℕ
map_line names m =
    codes "map " ++ pred_text names m.pred ++ codes " " ++ decimal m.level ++ (if m.plus then codes " +\n" else codes " -\n")

-- the whole block
abbrev pub block_text : List (List ℕ) → Certificate → ℕ → List ℕ
block_text names c answer =
    answer_line names c answer
    ++ flat_map (given_line names) c.given
    ++ codes "sample " ++ list_text names c.sample ++ codes "\ntree\n"
    ++ trees_text names 1 (listed c.trees)
    ++ flat_map (check_text names) c.checks
    ++ flat_map clash_line c.clashes
    ++ flat_map (map_line names) c.map
    ++ codes "end\n"
