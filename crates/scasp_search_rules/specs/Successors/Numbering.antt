-- The numbers of variables in a certificate: the free ones in the order of its text, and then the universal ones in the order of the
-- lines at which they begin.
use Rattle.std.specs.Prelude.{ℕ, suc, ◌&&◌, not, nat_eq, if◌then◌else◌, Option, None, Some, List, [], ◌∷◌, ◌++◌, filter, length}
use Rattle.std.specs.List.{flat_map}
use Rattle.scasp_lines.specs.Determined.{determined}
use Rattle.scasp_search_rules.specs.declared.states.lines.Line.{Line}
use Rattle.scasp_search_rules.specs.declared.states.lines.Line.TheVariants as line
use Rattle.scasp_search_rules.specs.declared.states.state.State.{State}
use Rattle.scasp_syntax.specs.Instances.{atom_under}
use Rattle.scasp_syntax.specs.Tm.{Tm, Tms, var, num, app, nil, cons, items}
use Rattle.scasp_syntax.specs.Values.{Sub, all_under}
use Rattle.scasp_syntax.specs.declared.atom.Lit.{Lit}
use Rattle.scasp_syntax.specs.declared.con.Con.{Con}
use Rattle.scasp_syntax.specs.declared.program.Program.{Program}
use Rattle.scasp_unify.specs.Unification.{terms_vars}
use Rattle.scasp_search_rules.specs.Successors.Calls.{vars_of_clause, head_args}
use Rattle.scasp_search_rules.specs.Successors.Reading.{among, con_vars, count_from}
use Rattle.scasp_search_rules.specs.Successors.Variables.{is_existential}

-- the variables of a line, in the order of its text
abbrev pub line_vars : Line → List ℕ
line_vars (line.Pos a k ts n) = terms_vars a.args ++ terms_vars ts
line_vars (line.Neg a n) = terms_vars a.args
line_vars (line.Loop l at) = terms_vars l.atom.args
line_vars (line.Seen l at) = terms_vars l.atom.args
line_vars (line.Test c) = []
line_vars (line.Rule a k first) = []
line_vars (line.Check k first) = []
line_vars (line.Split c parts) = con_vars var c
line_vars line.Void = []
line_vars (line.Leaf k) = []
line_vars (line.Head n) = []

-- the head variables that the arguments of a literal give a meaning to; a clash within an argument gives none
abbrev mutual
  pub met : Tm → Tm → List ℕ
  met (var x) t = x ∷ []
  met (num q) t = []
  met (app f ts) (var y) = terms_vars ts
  met (app f ts) (num q) = []
  met (app f ts) (app g us) = if nat_eq f g && nat_eq (length (items ts)) (length (items us)) then all_met ts us else []

  pub all_met : Tms → Tms → List ℕ
  all_met nil us = []
  all_met (cons t ts) nil = []
  all_met (cons t ts) (cons u us) = met t u ++ all_met ts us

-- the universal variables that begin at a line
abbrev pub line_universals : Program → Line → List ℕ
line_universals p (line.Rule a k first) =
    filter (λ x. not (among x (all_met (head_args p k first) a.args))) (count_from first (vars_of_clause p k))
line_universals p (line.Check k first) = count_from first (vars_of_clause p k)
line_universals p (line.Split c parts) = parts
line_universals p (line.Pos a k ts n) = []
line_universals p (line.Neg a n) = []
line_universals p (line.Loop l at) = []
line_universals p (line.Seen l at) = []
line_universals p (line.Test c) = []
line_universals p line.Void = []
line_universals p (line.Leaf k) = []
line_universals p (line.Head n) = []

-- each number at its first place alone
abbrev pub firsts : List ℕ → List ℕ
firsts [] = []
firsts (x ∷ xs) = x ∷ filter (λ y. not (nat_eq x y)) (firsts xs)

abbrev pub free_variables : State → Tms → List Con → List Line → List ℕ
free_variables s terms given ls =
    firsts (filter (is_existential s) (terms_vars terms ++ flat_map (con_vars var) given ++ flat_map line_vars ls))

abbrev pub universal_variables : Program → List Line → List ℕ
universal_variables p ls = flat_map (line_universals p) ls

-- ---- renaming

abbrev pub place_of : ℕ → List ℕ → ℕ
place_of x [] = 0
place_of x (y ∷ ys) = if nat_eq x y then 0 else suc (place_of x ys)

-- each variable by its place
abbrev pub placing : List ℕ → Sub
placing all x = var (place_of x all)

abbrev pub con_or : Con → Option Con → Con
con_or c None = c
con_or c (Some d) = d

-- in simple form
abbrev pub con_renamed : Sub → Con → Con
con_renamed v c = con_or c (determined v c)

abbrev pub lit_renamed : Sub → Lit → Lit
lit_renamed v l = record { positive = l.positive; atom = atom_under v l.atom }

abbrev pub line_renamed : Sub → Line → Line
line_renamed v (line.Pos a k ts n) = line.Pos (atom_under v a) k (all_under v ts) n
line_renamed v (line.Neg a n) = line.Neg (atom_under v a) n
line_renamed v (line.Loop l at) = line.Loop (lit_renamed v l) at
line_renamed v (line.Seen l at) = line.Seen (lit_renamed v l) at
line_renamed v (line.Test c) = line.Test (con_renamed v c)
line_renamed v (line.Rule a k first) = line.Rule a k first
line_renamed v (line.Check k first) = line.Check k first
line_renamed v (line.Split c parts) = line.Split (con_renamed v c) parts
line_renamed v line.Void = line.Void
line_renamed v (line.Leaf k) = line.Leaf k
line_renamed v (line.Head n) = line.Head n
