-- Given constraints that need not be asked any more, and which of them are still open.
use Rattle.std.specs.Prelude.{◌≡◌, Bool, true, false, ◌&&◌, not, nat_eq, ℕ, List, [], ◌∷◌, Option, None, Some, slice_get, ⊤}
use Rattle.std.specs.List.{flat_map, list_all}
use Rattle.scasp_bound.specs.Bounds.{among, is_bound_in}
use Rattle.scasp_law_parts.specs.Bound.{IsFree, Triangular, equations}
use Rattle.scasp_list.specs.Each.{Each}
use Rattle.scasp_syntax.specs.Constraints.{holds, is_number}
use Rattle.scasp_syntax.specs.Values.{Sub}
use Rattle.scasp_syntax.specs.View.{tm_of}
use Rattle.scasp_syntax.specs.declared.con.Con.{Con}
use Rattle.scasp_syntax.specs.declared.con.Con.TheVariants as con
use Rattle.scasp_trail.specs.Past.{Past}
use Rattle.scasp_unify.specs.Parts.{occurs}
use Rattle.scasp_unify.specs.Resolver.{Equal}
use Rattle.scasp_unify.specs.Solving.{sub_of}
use Rattle.scasp_unify.specs.Unification.{then_by}
use Rattle.scasp_unify.specs.declared.bindings.Binding.{Binding}
use Rattle.scasp_store.specs.Inside.Reads.{AreAlike, Reads}
use Rattle.scasp_store.specs.declared.rest.Known.{Known}
use Rattle.scasp_store.specs.declared.rest.Known.TheVariants as known
use Rattle.scasp_store.specs.declared.rest.Rest.{Rest}

-- it is no equation, and a row whose variables all stand for numbers
abbrev pub has_values : Sub → Con → Bool
has_values s (con.Row r) = list_all (λ k. is_number (s k.x)) r.coeffs
has_values s (con.Eq t u) = false
has_values s (con.Neq t u) = true
has_values s (con.NotShape x f n) = true
has_values s (con.Num t) = true
has_values s (con.NotNum t) = true

-- the constraint holds as s reads it, whatever its variables stand for
pub record IsSettled (s : Sub) (c : Con) : Type 0 where
  pub always : (v : Sub) → holds (then_by s v) c ≡ true
  pub values : has_values s c ≡ true

-- what is there, by itself
abbrev pub one_of : Option Con → List Con
one_of None = []
one_of (Some c) = c ∷ []

-- the constraints at these places
abbrev pub opened : List Con → List ℕ → List Con
opened cs ps = flat_map (λ p. one_of (slice_get cs p)) ps

-- each constraint is at one of the places, or settled
pub record AreOpen (s : Sub) (cs : List Con) (ps : List ℕ) : Type 0 where
  pub settled : (i : ℕ) (c : Con) → Some c ≡ slice_get cs i → among i ps ≡ false → IsSettled s c

-- the variable is bound, and not in the list
abbrev pub is_taken : List Binding → List ℕ → ℕ → Bool
is_taken bs but x = is_bound_in bs x && not (among x but)

-- The bindings may leave the lists that are asked, and so may what is not open. Where no number is left to a variable, the bindings alone
-- read the constraints.
pub record IsGood (bs : List Binding) (cs : List Con) (ds : List Binding) (fs ps : List ℕ) : Type 0 where
  pub triangular : Triangular bs
  pub reads : Reads bs ds cs
  pub places : AreOpen (sub_of ds) cs ps
  pub plain : fs ≡ [] → ds ≡ bs

-- nothing meets the bindings and the constraints
pub record IsContrary (bs : List Binding) (cs : List Con) (ds : List Binding) (ps : List ℕ) : Type 0 where
  pub triangular : Triangular bs
  pub never : (v : Sub) → Each (Equal v) (equations bs) → list_all (holds v) cs ≡ true → ⊥
  pub alike : AreAlike bs ds cs
  pub places : AreOpen (sub_of ds) cs ps

-- what is known of them
abbrev pub IsKnown : Bool → Known → List Binding → List Con → List Binding → List ℕ → List ℕ → Type 0
IsKnown false k bs cs ds fs ps = ⊤
IsKnown true known.Nothing bs cs ds fs ps = ⊤
IsKnown true known.Read bs cs ds fs ps = IsGood bs cs ds fs ps
IsKnown true known.Contrary bs cs ds fs ps = IsContrary bs cs ds ps

abbrev pub AreGood : List (List Binding) → List (List Con) → List (List Binding) → List (List ℕ) → List (List ℕ) → Type 0
AreGood [] [] [] [] [] = ⊤
AreGood [] [] [] [] (ps ∷ pss) = ⊥
AreGood [] [] [] (fs ∷ fss) pss = ⊥
AreGood [] [] (ds ∷ dss) fss pss = ⊥
AreGood [] (cs ∷ css) dss fss pss = ⊥
AreGood (bs ∷ bss) [] dss fss pss = ⊥
AreGood (bs ∷ bss) (cs ∷ css) [] fss pss = ⊥
AreGood (bs ∷ bss) (cs ∷ css) (ds ∷ dss) [] pss = ⊥
AreGood (bs ∷ bss) (cs ∷ css) (ds ∷ dss) (fs ∷ fss) [] = ⊥
AreGood (bs ∷ bss) (cs ∷ css) (ds ∷ dss) (fs ∷ fss) (ps ∷ pss) = IsGood bs cs ds fs ps × AreGood bss css dss fss pss

abbrev pub AreGoodIf : Bool → List (List Binding) → List (List Con) → List (List Binding) → List (List ℕ) → List (List ℕ) → Type 0
AreGoodIf false bss css dss fss pss = ⊤
AreGoodIf true bss css dss fss pss = AreGood bss css dss fss pss

-- the same of the parts
abbrev pub GoodOf : List Binding → List Con → Rest → Type 0
GoodOf bs cs r = IsGood bs cs r.reading.now r.fixed.now r.places.now

abbrev pub KnownOf : Bool → Known → List Binding → List Con → Rest → Type 0
KnownOf solved k bs cs r = IsKnown solved k bs cs r.reading.now r.fixed.now r.places.now

-- so it is at each mark, and now where no change has failed since
pub record IsKept (is_solved : Bool) (k : Known) (bound : Past Binding) (given : Past Con) (rest : Rest) : Type 0 where
  pub now : KnownOf is_solved k bound.now given.now rest
  pub before : AreGoodIf is_solved bound.before given.before rest.reading.before rest.fixed.before rest.places.before

-- the marks are the same
pub record SameMarks (old new : Rest) : Type 0 where
  pub reading : new.reading.before ≡ old.reading.before
  pub fixed : new.fixed.before ≡ old.fixed.before
  pub places : new.places.before ≡ old.places.before

-- y is another variable than x, and unbound
abbrev pub is_unbound : List Binding → ℕ → ℕ → Bool
is_unbound bs x y = not (nat_eq x y) && not (is_bound_in bs y)

-- neither the binding's variable nor one of its term is bound, and the variable does not stand inside the term
abbrev pub IsNew : List Binding → Binding → Type 0
IsNew bs b = (occurs b.x (tm_of b.term) ≡ false) × Each (λ a. IsFree a.x b) bs
