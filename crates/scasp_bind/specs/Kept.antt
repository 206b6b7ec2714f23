-- What a store of bindings keeps, and what it kept before its latest changes.
use Rattle.std.specs.Prelude.{◌≡◌, ℕ, ◌-◌, ◌≤◌, List, [], ◌∷◌, length, take, drop, slice_get, slice_set, Option, None, Some}
use Rattle.scasp_syntax.specs.declared.term.Term.{Term}
use Rattle.scasp_bind.specs.declared.variable.Change.{Change}
use Rattle.scasp_bind.specs.declared.variable.Change.TheVariants as change
use Rattle.scasp_bind.specs.declared.variable.Variable.{Variable}

-- the variables by number, and what each change of them has overwritten, the latest last
pub record Kept : Type 0 where
  pub variables : List Variable
  pub changes : List Change

abbrev pub with_term : Option Term → Variable → Variable
with_term t v = record { sort = v.sort; depth = v.depth; term = t }

abbrev pub with_depth : ℕ → Variable → Variable
with_depth d v = record { sort = v.sort; depth = d; term = v.term }

abbrev pub put_at : List Variable → ℕ → (Variable → Variable) → Option Variable → List Variable
put_at vs x f None = vs
put_at vs x f (Some v) = slice_set vs x (f v)

-- the variables with f of the one of this number
abbrev pub updated : ℕ → (Variable → Variable) → List Variable → List Variable
updated x f vs = put_at vs x f (slice_get vs x)

-- the variables without the change
abbrev pub taken_back : Change → List Variable → List Variable
taken_back change.Made vs = take (length vs - 1) vs
taken_back (change.Depth x before) vs = updated x (with_depth before) vs
taken_back (change.Term x before) vs = updated x (with_term before) vs

-- the variables without the changes, of which the latest is taken back first
abbrev pub all_taken_back : List Change → List Variable → List Variable
all_taken_back [] vs = vs
all_taken_back (c ∷ cs) vs = taken_back c (all_taken_back cs vs)

-- the variables as they were after so many changes
abbrev pub variables_at : ℕ → Kept → List Variable
variables_at k s = all_taken_back (drop k s.changes) s.variables

-- the later store has come from the earlier one by changes alone: what was kept at each time until then is still to be had
pub record Continues (earlier later : Kept) : Type 0 where
  pub changes : take (length earlier.changes) later.changes ≡ earlier.changes
  pub past : (k : ℕ) → k ≤ length earlier.changes → variables_at k later ≡ variables_at k earlier
