-- What is written with the first names of a table is written with more of them.
use Rattle.std.specs.Prelude.{◌≡◌, ℕ, ◌≤◌, nat_lt, true, not, ◌&&◌}
use Rattle.std.proofs.Common.{arith}
use Rattle.std.proofs.lemmas.Bool.{and_from, and_parts, ltb-true}
use Rattle.scasp_answers_terms.specs.Tokens.Lines.{Line, header_line, ending_line, rejected_line, answer_line, given_line, sample_line, tree_line, check_line, clash_line, map_line, end_line, pos_line, neg_line, loop_line, seen_line, test_line, rule_line, split_line, void_line, leaf_line, head_line}
use Rattle.scasp_law_answer_text.specs.LineReadback.Writable.{are_named, is_hint, is_named, is_shape, is_spelled, is_written}
use Rattle.scasp_num.proofs.Numbers.{lt_ltb}
use Rattle.scasp_syntax.specs.Tm.{Tm, Tms, var, num, app, nil, cons}
use Rattle.scasp_syntax.specs.View.{tm_of}
use Rattle.scasp_syntax.specs.declared.atom.Atom.{Atom}
use Rattle.scasp_syntax.specs.declared.con.Con.{Con}
use Rattle.scasp_syntax.specs.declared.con.Con.TheVariants as con

module _ (n m : ℕ) (l : n ≤ m) where
  name-larger : (f : ℕ) → nat_lt f n ≡ true → nat_lt f m ≡ true
  name-larger f e = let k = ltb-true f n e in lt_ltb (omega (arith, l, k))

  mutual
    term-larger : (t : Tm) → is_named n t ≡ true → is_named m t ≡ true
    term-larger (var x) e = e
    term-larger (num q) e = e
    term-larger (app f ts) e = let h = and_parts (nat_lt f n) (are_named n ts) e in and_from (nat_lt f m) (are_named m ts) (name-larger f h.0) (terms-larger ts h.1)

    terms-larger : (ts : Tms) → are_named n ts ≡ true → are_named m ts ≡ true
    terms-larger nil e = e
    terms-larger (cons t ts) e = let h = and_parts (is_named n t) (are_named n ts) e in and_from (is_named m t) (are_named m ts) (term-larger t h.0) (terms-larger ts h.1)

  atom-larger : (a : Atom) → (nat_lt a.name n && are_named n a.args) ≡ true → (nat_lt a.name m && are_named m a.args) ≡ true
  atom-larger a e = let h = and_parts (nat_lt a.name n) (are_named n a.args) e in and_from (nat_lt a.name m) (are_named m a.args) (name-larger a.name h.0) (terms-larger a.args h.1)

  both-larger : (t u : Tm) → (is_named n t && is_named n u) ≡ true → (is_named m t && is_named m u) ≡ true
  both-larger t u e = let h = and_parts (is_named n t) (is_named n u) e in and_from (is_named m t) (is_named m u) (term-larger t h.0) (term-larger u h.1)

  con-larger : (c : Con) → is_spelled n c ≡ true → is_spelled m c ≡ true
  con-larger (con.Eq t u) e = both-larger (tm_of t) (tm_of u) e
  con-larger (con.Neq t u) e =
      let h = and_parts (is_named n (tm_of t) && is_named n (tm_of u)) (not (is_shape (tm_of t) (tm_of u))) e in
      and_from (is_named m (tm_of t) && is_named m (tm_of u)) (not (is_shape (tm_of t) (tm_of u))) (both-larger (tm_of t) (tm_of u) h.0) h.1
  con-larger (con.NotShape x f k) e = name-larger f e
  con-larger (con.Num t) e = term-larger (tm_of t) e
  con-larger (con.NotNum t) e = term-larger (tm_of t) e
  con-larger (con.Row r) e = e

  pub line-larger : (k : Line) → is_written n k ≡ true → is_written m k ≡ true
  unfolding is_written
  line-larger (header_line v) e = e
  line-larger (ending_line end q) e = e
  line-larger (rejected_line q k at reason) e = e
  line-larger (answer_line q k ts) e = terms-larger ts e
  line-larger (given_line c) e = con-larger c e
  line-larger (sample_line ts) e = terms-larger ts e
  line-larger tree_line e = e
  line-larger (check_line k) e = e
  line-larger (clash_line c) e = e
  line-larger (map_line k) e = name-larger k.pred.name e
  line-larger end_line e = e
  line-larger (pos_line a rule ts) e =
      let h = and_parts (nat_lt a.name n && are_named n a.args) (are_named n ts) e in
      and_from (nat_lt a.name m && are_named m a.args) (are_named m ts) (atom-larger a h.0) (terms-larger ts h.1)
  line-larger (neg_line a) e = atom-larger a e
  line-larger (loop_line k at) e = atom-larger k.atom e
  line-larger (seen_line k at) e = atom-larger k.atom e
  line-larger (test_line c h) e = let k = and_parts (is_spelled n c) (is_hint h) e in and_from (is_spelled m c) (is_hint h) (con-larger c k.0) k.1
  line-larger (rule_line k) e = e
  line-larger (split_line c) e = con-larger c e
  line-larger (void_line h) e = e
  line-larger (leaf_line k) e = e
  line-larger head_line e = e
