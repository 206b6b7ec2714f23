-- The clause whose cases are looked at, under a negated literal or as a check.
use Rattle.std.specs.Prelude.{ℕ, Bool, true, false, ◌&&◌, nat_eq, List, [], Option, None, Some, length}
use Rattle.scasp_syntax.specs.Flat.{flat_body}
use Rattle.scasp_syntax.specs.Tm.{var, items}
use Rattle.scasp_syntax.specs.Values.{Sub}
use Rattle.scasp_syntax.specs.declared.atom.Atom.{Atom}
use Rattle.scasp_syntax.specs.declared.clause.Clause.{Clause}
use Rattle.scasp_syntax.specs.declared.clause.FlatItem.{FlatItem}
use Rattle.scasp_lines.specs.Covers.{value_of, covering}
use Rattle.scasp_lines.specs.Openings.{Opening, open_terms, unopened}
use Rattle.scasp_lines.specs.Places.{Place, with_opened}

-- The clause whose cases are looked at: its flat items, its head, whether it is checked beside the query, whether its cases are plain, and
-- what its variables stand for, which are numbered below `vars`.
pub record Body : Type 0 where
  pub items : List FlatItem
  pub head : Option Atom
  pub is_check : Bool
  pub bare : Bool
  pub vars : ℕ
  pub values : Sub

-- no split is plain
abbrev pub split_body : Body → Body
split_body b = record { items = b.items; head = b.head; is_check = b.is_check; bare = false; vars = b.vars; values = b.values }

-- What holds inside a cover, with its body.
pub record Inside : Type 0 where
  pub here : Place
  pub next : ℕ
  pub body : Body

-- no variable, and no argument in the head
abbrev pub is_head_bare : Option Atom → Bool
is_head_bare None = true
is_head_bare (Some a) = nat_eq (length (items a.args)) 0

abbrev pub is_bare : Clause → Bool
is_bare c = nat_eq c.vars 0 && is_head_bare c.head

abbrev pub no_body : Body
no_body = record { items = []; head = None; is_check = false; bare = false; vars = 0; values = var }

-- a clause behind what its head opened
abbrev pub inside : Bool → Clause → Opening → ℕ → Place → Inside
inside is_check c o next here =
    let cover = covering c.vars next o in
    record {
      here = with_opened cover.opened o.hidden here;
      next = cover.next;
      body = record { items = flat_body c.body; head = c.head; is_check = is_check; bare = is_bare c; vars = c.vars; values = value_of cover.bound };
    }

abbrev pub open_head : Option Atom → Atom → Opening → Opening
open_head None a o = o
open_head (Some h) a o = open_terms h.args a.args o

-- inside a rule under a negated literal
abbrev pub inside_rule : Option Clause → Atom → ℕ → Place → Inside
inside_rule None a next here = record { here = here; next = next; body = no_body }
inside_rule (Some c) a next here = inside false c (open_head c.head a (unopened here.opened here.hidden)) next here

-- inside a check
abbrev pub inside_check : Option Clause → ℕ → Place → Inside
inside_check None next here = record { here = here; next = next; body = no_body }
inside_check (Some c) next here = inside true c (unopened here.opened here.hidden) next here
