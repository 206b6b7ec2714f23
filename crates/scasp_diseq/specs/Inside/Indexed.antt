-- That mentions tell of each variable in which constraints it stands.
use Rattle.std.specs.Prelude.{◌≡◌, ℕ, suc, ◌≤◌, ◌<◌, Bool, true, false, ◌&&◌, ◌||◌, nat_eq, if◌then◌else◌, List, [], ◌∷◌, length, map, take, slice_get, Some, ⊤}
use Rattle.scasp_syntax.specs.View.{tm_of}
use Rattle.scasp_syntax.specs.declared.con.Con.{Con}
use Rattle.scasp_syntax.specs.declared.con.Con.TheVariants as con
use Rattle.scasp_unify.specs.Parts.{occurs}
use Rattle.scasp_diseq.specs.Inside.Chains.{places_of}
use Rattle.scasp_diseq.specs.declared.mentions.Mention.{Mention}
use Rattle.scasp_diseq.specs.declared.posted.Posted.{Posted}

abbrev pub is_disequation : Con → Bool
is_disequation (con.Neq t s) = true
is_disequation (con.NotShape y f n) = false
is_disequation (con.Eq t s) = false
is_disequation (con.Num t) = false
is_disequation (con.NotNum t) = false
is_disequation (con.Row r) = false

abbrev pub is_shape : ℕ → ℕ → ℕ → Con → Bool
is_shape x f n (con.NotShape y g m) = nat_eq y x && nat_eq g f && nat_eq m n
is_shape x f n (con.Neq t s) = false
is_shape x f n (con.Eq t s) = false
is_shape x f n (con.Num t) = false
is_shape x f n (con.NotNum t) = false
is_shape x f n (con.Row r) = false

-- the shape is one of the variable, or the disequation has it in a term
abbrev pub stands_in : ℕ → Con → Bool
stands_in x (con.NotShape y f n) = nat_eq x y
stands_in x (con.Neq t s) = occurs x (tm_of t) || occurs x (tm_of s)
stands_in x (con.Eq t s) = false
stands_in x (con.Num t) = false
stands_in x (con.NotNum t) = false
stands_in x (con.Row r) = false

-- the places of the items that pass
abbrev pub places_where : {A : Type 0} → (A → Bool) → List A → List ℕ
places_where q [] = []
places_where q (x ∷ xs) = if q x then 0 ∷ map suc (places_where q xs) else map suc (places_where q xs)

-- all places are below n
abbrev pub AreBelow : ℕ → List ℕ → Type 0
AreBelow n [] = ⊤
AreBelow n (p ∷ ps) = (p < n) × AreBelow n ps

abbrev pub cons_of : List Posted → List Con
cons_of ps = map (λ p. p.con) ps

-- the mentions of each variable lead to the constraints in which it stands
abbrev pub Tells : List Mention → List Con → Type 0
Tells ms cs = (x : ℕ) → places_of x ms ≡ places_where (stands_in x) cs

-- the mentions before its own tell of the constraints before it
pub record Began (ps : List Posted) (ms : List Mention) (n : ℕ) (p : Posted) : Type 0 where
  pub within : p.before ≤ length ms
  pub tells : Tells (take p.before ms) (cons_of (take n ps))

-- the mentions tell of all constraints, and did so before each of them
pub record IsIndexed (ps : List Posted) (ms : List Mention) : Type 0 where
  pub now : Tells ms (cons_of ps)
  pub past : (n : ℕ) (p : Posted) → slice_get ps n ≡ Some p → Began ps ms n p
  pub ordered : (m n : ℕ) (p q : Posted) → m ≤ n → slice_get ps m ≡ Some p → slice_get ps n ≡ Some q → p.before ≤ q.before
