-- Terms, constraints, programs and queries that have their names among the first of a table, and numbers that have a text.
use Rattle.std.specs.Prelude.{◌≡◌, ℕ, ◌<◌, ◌^◌, true, Option, None, Some, length, ⊤}
use Rattle.scasp_law_program_text.specs.CompoundReadback.Fitting.{number_fits}
use Rattle.scasp_list.specs.Each.{Each}
use Rattle.scasp_num.specs.Linear.{IsNormal}
use Rattle.scasp_syntax.specs.Tm.{Tm, Tms, var, num, app, nil, cons, items}
use Rattle.scasp_syntax.specs.View.{tm_of}
use Rattle.scasp_syntax.specs.declared.atom.Atom.{Atom}
use Rattle.scasp_syntax.specs.declared.clause.Clause.{Clause}
use Rattle.scasp_syntax.specs.declared.clause.Item.{Item}
use Rattle.scasp_syntax.specs.declared.clause.Item.TheVariants.{Call, Equal, Differ, Linear}
use Rattle.scasp_syntax.specs.declared.clause.Query.{Query}
use Rattle.scasp_syntax.specs.declared.con.Con.{Con}
use Rattle.scasp_syntax.specs.declared.con.Con.TheVariants as con
use Rattle.scasp_syntax.specs.declared.program.Program.{Program}

-- Each name is among the first `count` of the table, and has less than 2^64 arguments. Each number is of integers from -M to M.
abbrev mutual
  pub Within : ℕ → Tm → Type 0
  Within count (var x) = ⊤
  Within count (num q) = number_fits q ≡ true
  Within count (app f ts) = (f < count) × (length (items ts) < 2 ^ 64) × AllWithin count ts

  pub AllWithin : ℕ → Tms → Type 0
  AllWithin count nil = ⊤
  AllWithin count (cons t ts) = Within count t × AllWithin count ts

abbrev pub AtomWithin : ℕ → Atom → Type 0
AtomWithin count a = Within count (app a.name a.args)

-- the same of a constraint, whose row is in normal form
abbrev pub ConWithin : ℕ → Con → Type 0
ConWithin count (con.Eq t u) = Within count (tm_of t) × Within count (tm_of u)
ConWithin count (con.Neq t u) = Within count (tm_of t) × Within count (tm_of u)
ConWithin count (con.NotShape x f n) = (f < count) × (n < 2 ^ 64)
ConWithin count (con.Num t) = Within count (tm_of t)
ConWithin count (con.NotNum t) = Within count (tm_of t)
ConWithin count (con.Row r) = IsNormal r

abbrev pub ItemWithin : ℕ → Item → Type 0
ItemWithin count (Call l) = AtomWithin count l.atom
ItemWithin count (Equal t u) = Within count (tm_of t) × Within count (tm_of u)
ItemWithin count (Differ t u) = Within count (tm_of t) × Within count (tm_of u)
ItemWithin count (Linear l) = IsNormal l.row

abbrev pub HeadWithin : ℕ → Option Atom → Type 0
HeadWithin count None = ⊤
HeadWithin count (Some a) = AtomWithin count a

abbrev pub ClauseWithin : ℕ → Clause → Type 0
ClauseWithin count c = HeadWithin count c.head × Each (ItemWithin count) c.body

abbrev pub QueryWithin : ℕ → Query → Type 0
QueryWithin count q = Each (ItemWithin count) q.body

pub record ProgramWithin (count : ℕ) (p : Program) : Type 0 where
  pub clauses : Each (ClauseWithin count) p.clauses
  pub queries : Each (QueryWithin count) p.queries
