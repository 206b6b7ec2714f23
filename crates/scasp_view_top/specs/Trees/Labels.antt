-- What is said on each line of a tree: that of the block, without hints, and with the clause, the body or the item in words that the block names by number.
use Rattle.std.specs.Prelude.{ℕ, List, [], ◌++◌, Option, None, Some, codes, decimal}
use Rattle.scasp_syntax.specs.Programs.{numbered}
use Rattle.scasp_syntax.specs.declared.atom.Atom.{Atom}
use Rattle.scasp_syntax.specs.declared.atom.Lit.{Lit}
use Rattle.scasp_syntax.specs.declared.con.Con.{Con}
use Rattle.scasp_cert.specs.Text.Constraints.{con_text}
use Rattle.scasp_cert.specs.Text.Terms.{atom_text, lit_text}
use Rattle.scasp_view_top.specs.Trees.Settings.{Setting}
use Rattle.scasp_view_top.specs.declared.trees.wording.Wording.{Wording}

-- ---- what the program says under a number; nothing where it lacks that

-- the clause of this number, with the end of its line
abbrev pub clause_words : Option Wording → List ℕ
clause_words None = codes "\n"
clause_words (Some w) = codes " " ++ w.whole

-- its body, behind `:-`; a fact has none
abbrev pub body_words : Option Wording → List ℕ
body_words None = []
body_words (Some w) = w.body

abbrev pub item_words : Option (List ℕ) → List ℕ
item_words None = []
item_words (Some text) = codes " " ++ text

-- the item of this number of its flat body
abbrev pub item_of : Option Wording → ℕ → List ℕ
item_of None i = []
item_of (Some w) i = item_words (numbered w.items i)

-- ---- lines

-- `pos hardship(ben) rule 5 :- income(V0,V1), rent(V0,V2), V1-2*V2 #< 0`
unfoldable pub pos_label : Setting → Atom → ℕ → List ℕ
pos_label s a k = codes "pos " ++ atom_text s.names a ++ codes " rule " ++ decimal k ++ body_words (numbered s.clauses k) ++ codes "\n"

-- `neg excluded(ben)`
unfoldable pub neg_label : Setting → Atom → List ℕ
neg_label s a = codes "neg " ++ atom_text s.names a ++ codes "\n"

-- `rule 3 excluded(V0) :- grant(V0), not hardship(V0).`
unfoldable pub rule_label : Setting → ℕ → List ℕ
rule_label s k = codes "rule " ++ decimal k ++ clause_words (numbered s.clauses k)

-- `check 7 :- risk, not alarm.`
unfoldable pub check_label : Setting → ℕ → List ℕ
check_label s k = codes "check " ++ decimal k ++ clause_words (numbered s.clauses k)

-- `leaf 2 not hardship(V0)`, of clause k
unfoldable pub leaf_label : Setting → ℕ → ℕ → List ℕ
leaf_label s k i = codes "leaf " ++ decimal i ++ item_of (numbered s.clauses k) i ++ codes "\n"

-- `loop works(battery) at 11`
unfoldable pub loop_label : Setting → Lit → ℕ → List ℕ
loop_label s l at = codes "loop " ++ lit_text s.names l ++ codes " at " ++ decimal at ++ codes "\n"

-- `seen not part(fuse) at 2`
unfoldable pub seen_label : Setting → Lit → ℕ → List ℕ
seen_label s l at = codes "seen " ++ lit_text s.names l ++ codes " at " ++ decimal at ++ codes "\n"

-- `test -1 #< 0`
unfoldable pub test_label : Setting → Con → List ℕ
test_label s c = codes "test " ++ con_text s.names c ++ codes "\n"

-- `split V0 \= 1500`
unfoldable pub split_label : Setting → Con → List ℕ
split_label s c = codes "split " ++ con_text s.names c ++ codes "\n"

abbrev pub void_label : List ℕ
void_label = codes "void\n"

abbrev pub head_label : List ℕ
head_label = codes "head\n"
