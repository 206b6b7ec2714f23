-- The lines of an answer file as values, and how each is written.
use Rattle.std.specs.Prelude.{ℕ, List, ◌++◌, if◌then◌else◌, codes, decimal}
use Rattle.scasp_syntax.specs.Tm.{Tms}
use Rattle.scasp_syntax.specs.declared.atom.Atom.{Atom}
use Rattle.scasp_syntax.specs.declared.atom.Lit.{Lit}
use Rattle.scasp_syntax.specs.declared.con.Con.{Con}
use Rattle.scasp_syntax.specs.declared.hint.Hint.{Hint}
use Rattle.scasp_syntax.specs.declared.predicate_map.PredMap.{PredMap}
use Rattle.scasp_cert.specs.declared.certificate.Clash.{Clash}
use Rattle.scasp_cert.specs.Text.Terms.{list_text, atom_text, lit_text}
use Rattle.scasp_cert.specs.Text.Constraints.{con_text}
use Rattle.scasp_cert.specs.Text.Hints.{hint_text}
use Rattle.scasp_cert.specs.Text.Block.{pred_text}

-- how the answers to a query end
pub data End : Type 0 where
  ended : End
  stopped : End
  spent : End
  overflow : End

-- A line behind its indent. Its numbers have no bound here.
pub data Line : Type 0 where
  header_line : ℕ → Line  -- the version of the text
  ending_line : End → ℕ → Line  -- of this query
  rejected_line : ℕ → ℕ → ℕ → List ℕ → Line  -- query and answer, the line at fault, the reason in words
  answer_line : ℕ → ℕ → Tms → Line  -- query, answer, what the query's variables stand for
  given_line : Con → Line
  sample_line : Tms → Line
  tree_line : Line
  check_line : ℕ → Line  -- the clause
  clash_line : Clash → Line
  map_line : PredMap → Line
  end_line : Line
  pos_line : Atom → ℕ → Tms → Line
  neg_line : Atom → Line
  loop_line : Lit → ℕ → Line
  seen_line : Lit → ℕ → Line
  test_line : Con → Hint → Line
  rule_line : ℕ → Line
  split_line : Con → Line
  void_line : Hint → Line
  leaf_line : ℕ → Line
  head_line : Line

abbrev pub end_text : End → List ℕ
end_text ended = codes "ended "
end_text stopped = codes "stopped "
end_text spent = codes "spent "
end_text overflow = codes "overflow "

-- `Q.N`: answer N to query Q
abbrev pub place_text : ℕ → ℕ → List ℕ
place_text q n = decimal q ++ codes "." ++ decimal n

-- a line without its blanks and its line feed
unfoldable pub words_of : List (List ℕ) → Line → List ℕ
words_of names (header_line v) = codes "scasp " ++ decimal v
words_of names (ending_line e q) = end_text e ++ decimal q
words_of names (rejected_line q n at reason) = codes "rejected " ++ place_text q n ++ codes " " ++ decimal at ++ codes " " ++ reason
words_of names (answer_line q n ts) = codes "answer " ++ place_text q n ++ codes " " ++ list_text names ts
words_of names (given_line c) = codes "given " ++ con_text names c
words_of names (sample_line ts) = codes "sample " ++ list_text names ts
words_of names tree_line = codes "tree"
words_of names (check_line k) = codes "check " ++ decimal k
words_of names (clash_line c) = codes "clash " ++ decimal c.first ++ codes " " ++ decimal c.second ++ codes " " ++ hint_text c.hint
words_of names (map_line m) =
    codes "map " ++ pred_text names m.pred ++ codes " " ++ decimal m.level ++ (if m.plus then codes " +" else codes " -")
words_of names end_line = codes "end"
words_of names (pos_line a rule ts) = codes "pos " ++ atom_text names a ++ codes " rule " ++ decimal rule ++ codes " " ++ list_text names ts
words_of names (neg_line a) = codes "neg " ++ atom_text names a
words_of names (loop_line l at) = codes "loop " ++ lit_text names l ++ codes " at " ++ decimal at
words_of names (seen_line l at) = codes "seen " ++ lit_text names l ++ codes " at " ++ decimal at
words_of names (test_line c h) = codes "test " ++ con_text names c ++ codes " " ++ hint_text h
words_of names (rule_line k) = codes "rule " ++ decimal k
words_of names (split_line c) = codes "split " ++ con_text names c
words_of names (void_line h) = codes "void " ++ hint_text h
words_of names (leaf_line k) = codes "leaf " ++ decimal k
words_of names head_line = codes "head"
