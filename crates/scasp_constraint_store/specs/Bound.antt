-- The bindings that an equation makes behind a list, and the depths that they lower.
use Rattle.std.specs.Prelude.{ℕ, zero, suc, if◌then◌else◌, List, [], ◌∷◌, ◌++◌, length, slice_get, Option, None, Some}
use Rattle.scasp_bind.specs.Depths.{is_existential, lowest}
use Rattle.scasp_bind.specs.Kept.{updated}
use Rattle.scasp_bind.specs.declared.variable.Variable.{Variable}
use Rattle.scasp_num.specs.Arithmetic.{◌>>=◌}
use Rattle.scasp_syntax.specs.Tm.{Tm}
use Rattle.scasp_syntax.specs.Values.{under}
use Rattle.scasp_syntax.specs.View.{tm_of}
use Rattle.scasp_syntax.specs.declared.con.Con.{Con}
use Rattle.scasp_syntax.specs.declared.con.Con.TheVariants as con
use Rattle.scasp_unify.specs.Parts.{Part, parts}
use Rattle.scasp_unify.specs.Resolver.{resolver}
use Rattle.scasp_unify.specs.SimpleForm.{term_with}
use Rattle.scasp_unify.specs.Solving.{sub_of}
use Rattle.scasp_unify.specs.Unification.{parts_under, term_vars}
use Rattle.scasp_unify.specs.declared.bindings.Binding.{Binding}

-- ---- bindings

abbrev pub binding_of : Part → Binding
binding_of p = record { x = p.at; term = term_with p.term }

-- the first part binds its variable, in all the others too; n is at least the number of variables
abbrev pub bound_by : ℕ → List Part → Option (List Binding)
bound_by n [] = Some []
bound_by zero (p ∷ ps) = None
bound_by (suc n) (p ∷ ps) =
    parts_under (sub_of (binding_of p ∷ [])) ps >>= (λ qs. bound_by n qs >>= (λ bs. Some (binding_of p ∷ bs)))

-- the bindings that make two terms equal, in order; none where they do not unify
abbrev pub bindings_by : Tm → Tm → Option (List Binding)
bindings_by t u = parts t u >>= bound_by (length (term_vars t ++ term_vars u))

abbrev pub listed : Option (List Binding) → List Binding
listed None = []
listed (Some bs) = bs

-- the bindings that the constraint makes behind the list, whose equations resolve its sides
abbrev pub bindings_of : List Con → Con → List Binding
bindings_of cs (con.Eq t u) = listed (bindings_by (under (resolver cs) (tm_of t)) (under (resolver cs) (tm_of u)))
bindings_of cs (con.Neq t u) = []
bindings_of cs (con.NotShape x f n) = []
bindings_of cs (con.Num t) = []
bindings_of cs (con.NotNum t) = []
bindings_of cs (con.Row r) = []

-- ---- depths

abbrev pub depth_at : Option Variable → ℕ
depth_at None = 0
depth_at (Some v) = v.depth

abbrev pub lowered_one : ℕ → ℕ → Option Variable → List Variable → List Variable
lowered_one d x None vs = vs
lowered_one d x (Some v) vs = if is_existential v.sort then updated x (lowest d) vs else vs

-- the variable, where it is an existential, has this depth at most
abbrev pub lowered_at : ℕ → ℕ → List Variable → List Variable
lowered_at d x vs = lowered_one d x (slice_get vs x) vs

abbrev pub lowered_each : ℕ → List ℕ → List Variable → List Variable
lowered_each d [] vs = vs
lowered_each d (x ∷ xs) vs = lowered_each d xs (lowered_at d x vs)

-- the existentials in the term of each binding get the depth of its variable at most, binding by binding
abbrev pub lowered_by : List Binding → List Variable → List Variable
lowered_by [] vs = vs
lowered_by (b ∷ bs) vs = lowered_by bs (lowered_each (depth_at (slice_get vs b.x)) (term_vars (tm_of b.term)) vs)
