-- What the nodes below a line are due for: the literal or the constraint that an item determines.
use Rattle.std.specs.Prelude.{ℕ, zero, suc, Bool, true, false, List, [], ◌∷◌, ◌++◌, map, Option, None, Some, if◌then◌else◌}
use Rattle.scasp_syntax.specs.Flat.{flat_body}
use Rattle.scasp_syntax.specs.Instances.{atom_under}
use Rattle.scasp_syntax.specs.Same.{same_bool}
use Rattle.scasp_syntax.specs.Tm.{Tms, items}
use Rattle.scasp_syntax.specs.Values.{Sub, under, giving}
use Rattle.scasp_syntax.specs.declared.atom.Atom.{Atom}
use Rattle.scasp_syntax.specs.declared.atom.Lit.{Lit}
use Rattle.scasp_syntax.specs.declared.clause.Clause.{Clause}
use Rattle.scasp_syntax.specs.declared.clause.FlatItem.{FlatItem}
use Rattle.scasp_syntax.specs.declared.clause.Query.{Query}
use Rattle.scasp_syntax.specs.declared.con.Con.{Con}
use Rattle.scasp_lines.specs.Bodies.{Body}
use Rattle.scasp_lines.specs.Determined.{determined}
use Rattle.scasp_unify.specs.Negations.{negated}
use Rattle.scasp_lines.specs.Places.{Place}
use Rattle.scasp_syntax.specs.declared.clause.FlatItem.TheVariants as flat

-- What a node has to show: a literal, a constraint where one is determined, or nothing where there is no item for it.
pub data Due : Type 0 where
  goal : Lit → Due
  fact : Option Con → Due
  nothing : Due

-- what an item is due for where it is to be true or false
abbrev pub due_of : Sub → Bool → FlatItem → Due
due_of m truth (flat.Call l) = goal (record { positive = same_bool l.positive truth; atom = atom_under m l.atom })
due_of m truth (flat.Test c) = fact (determined m (if truth then c else negated 0 c))

-- what the first so many items are due for where the last of them is to be false
abbrev pub dues_until : Sub → ℕ → List FlatItem → List Due
dues_until m zero items = []
dues_until m (suc k) [] = []
dues_until m (suc zero) (i ∷ items) = due_of m false i ∷ []
dues_until m (suc (suc k)) (i ∷ items) = due_of m true i ∷ dues_until m (suc k) items

-- what the head is due for
abbrev pub head_due : Sub → Option Atom → List Due
head_due m None = []
head_due m (Some a) = goal (record { positive = true; atom = atom_under m a }) ∷ []

abbrev pub first_due : List Due → Due
first_due [] = nothing
first_due (d ∷ ds) = d

abbrev pub other_dues : List Due → List Due
other_dues [] = []
other_dues (d ∷ ds) = ds

-- what the clause's variables stand for here
abbrev pub values_here : Place → Sub → Sub
values_here here m x = under here.replaced (m x)

-- the items of the query under the answer's terms
abbrev pub query_dues : Option Query → Tms → List Due
query_dues None ts = []
query_dues (Some q) ts = map (due_of (giving (items ts)) true) (flat_body q.body)

-- the items of a rule under these terms
abbrev pub rule_dues : Option Clause → Place → Tms → List Due
rule_dues None here ts = []
rule_dues (Some c) here ts = map (due_of (values_here here (giving (items ts))) true) (flat_body c.body)

abbrev pub leaf_dues : Place → Body → ℕ → List Due
leaf_dues here b k = dues_until (values_here here b.values) k b.items

abbrev pub head_dues : Place → Body → List Due
head_dues here b = map (due_of (values_here here b.values) true) b.items ++ head_due (values_here here b.values) b.head
