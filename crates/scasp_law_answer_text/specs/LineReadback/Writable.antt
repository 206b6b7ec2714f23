-- Which lines have a text that is theirs alone.
use Rattle.std.specs.Prelude.{ℕ, Bool, true, false, not, ◌&&◌, ◌==◌, nat_lt, List, [], ◌∷◌, length, bytes_eq, IsTrue}
use Rattle.std.specs.List.{list_all, list_any}
use Rattle.std.specs.Str.{IsUtf8}
use Rattle.scasp_list.specs.Each.{Each}
use Rattle.scasp_name.specs.Texts.{AreDistinct}
use Rattle.scasp_num.specs.Linear.{is_normal}
use Rattle.scasp_num.specs.declared.hints.Step.{Step}
use Rattle.scasp_syntax.specs.Tm.{Tm, Tms, var, num, app, nil, cons}
use Rattle.scasp_syntax.specs.View.{tm_of}
use Rattle.scasp_syntax.specs.declared.con.Con.{Con}
use Rattle.scasp_syntax.specs.declared.con.Con.TheVariants as con
use Rattle.scasp_syntax.specs.declared.hint.Hint.{Hint}
use Rattle.scasp_syntax.specs.declared.hint.Hint.TheVariants as hint
use Rattle.scasp_answers_terms.specs.Tokens.Reasons.{reasons}
use Rattle.scasp_answers_terms.specs.Tokens.Bounds.{line_fits}
use Rattle.scasp_answers_terms.specs.Tokens.Lines.{Line, header_line, ending_line, rejected_line, answer_line, given_line, sample_line, tree_line, check_line, clash_line, map_line, end_line, pos_line, neg_line, loop_line, seen_line, test_line, rule_line, split_line, void_line, leaf_line, head_line}

-- a table of names: texts in UTF-8, of which none stands twice
pub record IsTable (names : List (List ℕ)) : Type 0 where
  pub utf8 : Each IsUtf8 names
  pub distinct : AreDistinct names

-- all names of the term are among the first `count` of the table
abbrev mutual
  pub is_named : ℕ → Tm → Bool
  is_named count (var x) = true
  is_named count (num q) = true
  is_named count (app f ts) = nat_lt f count && are_named count ts

  pub are_named : ℕ → Tms → Bool
  are_named count nil = true
  are_named count (cons t ts) = is_named count t && are_named count ts

-- the disequation of a variable and a constant is written as a shape
abbrev pub is_shape : Tm → Tm → Bool
is_shape (var x) (app f nil) = true
is_shape (var x) (app f (cons t ts)) = false
is_shape (var x) (var y) = false
is_shape (var x) (num q) = false
is_shape (num q) s = false
is_shape (app f ts) s = false

-- a constraint that is not written as another one; a row is in normal form
abbrev pub is_spelled : ℕ → Con → Bool
is_spelled count (con.Eq t s) = is_named count (tm_of t) && is_named count (tm_of s)
is_spelled count (con.Neq t s) = is_named count (tm_of t) && is_named count (tm_of s) && not (is_shape (tm_of t) (tm_of s))
is_spelled count (con.NotShape x f n) = nat_lt f count
is_spelled count (con.Num t) = is_named count (tm_of t)
is_spelled count (con.NotNum t) = is_named count (tm_of t)
is_spelled count (con.Row r) = is_normal r

abbrev pub is_some : {A : Type 0} → List A → Bool
is_some [] = false
is_some (x ∷ xs) = true

-- no list of steps is empty, and no list of such lists
abbrev pub is_hint : Hint → Bool
is_hint hint.Terms = true
is_hint (hint.Rows steps) = is_some steps
is_hint (hint.Same n lists) = is_some lists && list_all is_some lists

-- the line has a text of its own, with the first `count` names of a table
unfoldable pub is_written : ℕ → Line → Bool
is_written count (header_line v) = v == 1
is_written count (ending_line e q) = true
is_written count (rejected_line q n at reason) = list_any (bytes_eq reason) reasons
is_written count (answer_line q n ts) = are_named count ts
is_written count (given_line c) = is_spelled count c
is_written count (sample_line ts) = are_named count ts
is_written count tree_line = true
is_written count (check_line k) = true
is_written count (clash_line c) = is_hint c.hint
is_written count (map_line m) = nat_lt m.pred.name count
is_written count end_line = true
is_written count (pos_line a rule ts) = nat_lt a.name count && are_named count a.args && are_named count ts
is_written count (neg_line a) = nat_lt a.name count && are_named count a.args
is_written count (loop_line l at) = nat_lt l.atom.name count && are_named count l.atom.args
is_written count (seen_line l at) = nat_lt l.atom.name count && are_named count l.atom.args
is_written count (test_line c h) = is_spelled count c && is_hint h
is_written count (rule_line k) = true
is_written count (split_line c) = is_spelled count c
is_written count (void_line h) = is_hint h
is_written count (leaf_line k) = true
is_written count head_line = true

-- the line has a text of its own, with the names of this table, and its numbers fit
pub record Writable (names : List (List ℕ)) (l : Line) : Type 0 where
  pub table : IsTable names
  pub written : IsTrue (is_written (length names) l)
  pub fits : IsTrue (line_fits l)
