-- The greatest numbers of answer files.
use Rattle.std.specs.Prelude.{ℕ, ◌-◌, ◌^◌, nat_lt, Bool, true, ◌&&◌, if◌then◌else◌, ℤ, negsuc}
use Rattle.std.specs.List.{list_all}
use Rattle.scasp_num.specs.Arithmetic.{in_range}
use Rattle.scasp_num.specs.Linear.{Linear}
use Rattle.scasp_num.specs.declared.hints.Step.{Step}
use Rattle.scasp_syntax.specs.Tm.{Tm, Tms, var, num, app, nil, cons}
use Rattle.scasp_syntax.specs.View.{tm_of}
use Rattle.scasp_syntax.specs.declared.con.Con.{Con}
use Rattle.scasp_syntax.specs.declared.con.Con.TheVariants as con
use Rattle.scasp_syntax.specs.declared.hint.Hint.{Hint}
use Rattle.scasp_syntax.specs.declared.hint.Hint.TheVariants as hint
use Rattle.scasp_answers_terms.specs.Tokens.Lines.{Line, header_line, ending_line, rejected_line, answer_line, given_line, sample_line, tree_line, check_line, clash_line, map_line, end_line, pos_line, neg_line, loop_line, seen_line, test_line, rule_line, split_line, void_line, leaf_line, head_line}

-- a number of a line, a rule, a level or a variable
abbrev pub is_place : ℕ → Bool
is_place n = nat_lt n (2 ^ 63)

-- any other number that is no integer of arithmetic
abbrev pub is_count : ℕ → Bool
is_count n = nat_lt n (2 ^ 64)

-- What is too large is read as one value that is too large, so that what is read has a bound: a variable, a level and a line so, and an
-- integer of arithmetic as the one below -M.
abbrev pub bounded_place : ℕ → ℕ
bounded_place n = if is_place n then n else 2 ^ 64 - 1

abbrev pub bounded_integer : ℤ → ℤ
bounded_integer z = if in_range z then z else negsuc (2 ^ 127 - 1)

abbrev mutual
  pub term_fits : Tm → Bool
  term_fits (var x) = is_place x
  term_fits (num q) = in_range q.num && in_range q.den
  term_fits (app f ts) = terms_fit ts

  pub terms_fit : Tms → Bool
  terms_fit nil = true
  terms_fit (cons t ts) = term_fits t && terms_fit ts

abbrev pub row_fits : Linear → Bool
row_fits r = list_all (λ k. is_place k.x && in_range k.c) r.coeffs && in_range r.constant

abbrev pub con_fits : Con → Bool
con_fits (con.Eq t s) = term_fits (tm_of t) && term_fits (tm_of s)
con_fits (con.Neq t s) = term_fits (tm_of t) && term_fits (tm_of s)
con_fits (con.NotShape x f n) = is_place x && is_count n
con_fits (con.Num t) = term_fits (tm_of t)
con_fits (con.NotNum t) = term_fits (tm_of t)
con_fits (con.Row r) = row_fits r

abbrev pub step_fits : Step → Bool
step_fits s = in_range s.a && is_count s.p && in_range s.b && is_count s.q

abbrev pub hint_fits : Hint → Bool
hint_fits hint.Terms = true
hint_fits (hint.Rows steps) = list_all step_fits steps
hint_fits (hint.Same n lists) = is_count n && list_all (list_all step_fits) lists

unfoldable pub line_fits : Line → Bool
line_fits (header_line v) = is_count v
line_fits (ending_line e q) = is_count q
line_fits (rejected_line q n at reason) = is_count q && is_count n && is_place at
line_fits (answer_line q n ts) = is_count q && is_count n && terms_fit ts
line_fits (given_line c) = con_fits c
line_fits (sample_line ts) = terms_fit ts
line_fits tree_line = true
line_fits (check_line k) = is_count k
line_fits (clash_line c) = is_place c.first && is_place c.second && hint_fits c.hint
line_fits (map_line m) = is_count m.pred.arity && is_place m.level
line_fits end_line = true
line_fits (pos_line a rule ts) = terms_fit a.args && is_place rule && terms_fit ts
line_fits (neg_line a) = terms_fit a.args
line_fits (loop_line l at) = terms_fit l.atom.args && is_place at
line_fits (seen_line l at) = terms_fit l.atom.args && is_place at
line_fits (test_line c h) = con_fits c && hint_fits h
line_fits (rule_line k) = is_place k
line_fits (split_line c) = con_fits c
line_fits (void_line h) = hint_fits h
line_fits (leaf_line k) = is_count k
line_fits head_line = true
