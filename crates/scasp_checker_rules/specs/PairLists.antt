-- The list of constraints that two literals meet where they have one atom, each at an instance of its own line.
use Rattle.std.specs.Prelude.{ℕ, suc, ◌+◌, nat_lt, max, if◌then◌else◌, List, [], ◌∷◌, ◌++◌, map}
use Rattle.scasp_num.specs.Linear.{Linear}
use Rattle.scasp_num.specs.declared.linear.Coeff.{Coeff}
use Rattle.scasp_syntax.specs.Tm.{Tm, Tms, var, num, app, nil, cons}
use Rattle.scasp_syntax.specs.Values.{Sub, under, all_under}
use Rattle.scasp_syntax.specs.View.{tm_of}
use Rattle.scasp_syntax.specs.declared.con.Con.{Con}
use Rattle.scasp_syntax.specs.declared.con.Con.TheVariants as con
use Rattle.scasp_syntax.specs.declared.term.Term.{Term}
use Rattle.scasp_lines.specs.Contexts.{context}
use Rattle.scasp_lines.specs.Openings.{equal}
use Rattle.scasp_unify.specs.SimpleForm.{term_with}
use Rattle.scasp_checker_rules.specs.Told.{Told}

-- ---- above each variable

abbrev mutual
  pub above : Tm → ℕ
  above (var x) = suc x
  above (num q) = 0
  above (app f ts) = above_all ts

  pub above_all : Tms → ℕ
  above_all nil = 0
  above_all (cons t ts) = max (above t) (above_all ts)

abbrev pub above_terms : List Coeff → ℕ
above_terms [] = 0
above_terms (k ∷ ks) = max (suc k.x) (above_terms ks)

abbrev pub above_con : Con → ℕ
above_con (con.Eq t u) = max (above (tm_of t)) (above (tm_of u))
above_con (con.Neq t u) = max (above (tm_of t)) (above (tm_of u))
above_con (con.NotShape x f n) = suc x
above_con (con.Num t) = above (tm_of t)
above_con (con.NotNum t) = above (tm_of t)
above_con (con.Row r) = above_terms r.coeffs

abbrev pub above_cons : List Con → ℕ
above_cons [] = 0
above_cons (c ∷ cs) = max (above_con c) (above_cons cs)

-- ---- each variable that is not free, raised

abbrev pub raised_from : ℕ → ℕ → ℕ → ℕ
raised_from free by x = if nat_lt x free then x else x + by

abbrev pub raising : ℕ → ℕ → Sub
raising free by x = var (raised_from free by x)

abbrev pub term_raised : ℕ → ℕ → Term → Term
term_raised free by t = term_with (under (raising free by) (tm_of t))

-- the variables of a row keep their order
abbrev pub row_raised : ℕ → ℕ → Linear → Linear
row_raised free by r =
    record { coeffs = map (λ k. record { x = raised_from free by k.x; c = k.c }) r.coeffs; constant = r.constant; op = r.op }

abbrev pub con_raised : ℕ → ℕ → Con → Con
con_raised free by (con.Eq t u) = con.Eq (term_raised free by t) (term_raised free by u)
con_raised free by (con.Neq t u) = con.Neq (term_raised free by t) (term_raised free by u)
con_raised free by (con.NotShape x f n) = con.NotShape (raised_from free by x) f n
con_raised free by (con.Num t) = con.Num (term_raised free by t)
con_raised free by (con.NotNum t) = con.NotNum (term_raised free by t)
con_raised free by (con.Row r) = con.Row (row_raised free by r)

-- ---- pairs

abbrev pub equal_args : Tms → Tms → List Con
equal_args nil us = []
equal_args (cons t ts) nil = []
equal_args (cons t ts) (cons u us) = equal t u ∷ equal_args ts us

-- the context of the first, that of the second raised above it, and that the two atoms are one
abbrev pub pair_list : ℕ → List Con → Told → Told → List Con
pair_list free given a b =
    let first = context given a.opened in
    let by = max (above_cons first) (above_all a.atom.args) in
    first ++ map (con_raised free by) (context [] b.opened) ++ equal_args a.atom.args (all_under (raising free by) b.atom.args)
