-- What the work still says: each variable of a row that is to be shown is a number by what stands where the row is shown, or a number test of it
-- is to be shown before.
use Rattle.std.specs.Prelude.{◌≡◌, ◌⊎◌, ℕ, nat_eq, Bool, true, false, if◌then◌else◌, List, [], ◌∷◌, ◌++◌, map, drop, ⊤}
use Rattle.std.specs.List.{Contains}
use Rattle.std.proofs.Common.{ap, sym, subst, ◌∙◌, inl, inr}
use Rattle.std.proofs.lemmas.Bool.{true≢false}
use Rattle.scasp_list.specs.Each.{Each}
use Rattle.scasp_search_rules.specs.declared.states.covers.Cover.{Cover}
use Rattle.scasp_search_rules.specs.declared.states.outcomes.Parting.{Parting}
use Rattle.scasp_search_rules.specs.declared.states.tasks.Task.{Task}
use Rattle.scasp_search_rules.specs.declared.states.tasks.Task.TheVariants as task
use Rattle.scasp_search_rules.specs.Successors.Cases.{unbound}
use Rattle.scasp_search_rules.specs.Successors.Reading.{among}
use Rattle.scasp_search_rules.specs.Successors.Regions.{equation}
use Rattle.scasp_search_rules.specs.Successors.Replacing.{is_close}
use Rattle.scasp_search_rules.specs.Successors.Splits.{at_depth, cover_parted}
use Rattle.scasp_syntax.specs.declared.clause.FlatItem.{FlatItem}
use Rattle.scasp_syntax.specs.declared.clause.FlatItem.TheVariants as flat
use Rattle.scasp_syntax.specs.declared.con.Con.{Con}
use Rattle.scasp_syntax.specs.declared.con.Con.TheVariants as con
use Rattle.scasp_syntax.specs.declared.term.Term.{Term}
use Rattle.scasp_syntax.specs.declared.term.Term.TheVariants.{Var, Num, App}
use Rattle.scasp_unify.specs.declared.bindings.Binding.{Binding}
use Rattle.scasp_law_no_circle.proofs.Splitting.{among-left, among-right, among-either}
use Rattle.scasp_law_sorted.proofs.Lists.{entails-more, list-within}
use Rattle.scasp_law_sorted.proofs.Numbers.{IsNumberBy}
use Rattle.scasp_law_sorted.proofs.Standing.{stands, stands-more, stands-parted, off}
use Rattle.scasp_law_sorted.proofs.Tested.{stays, stayed, unbound-more}

-- ---- tests and rows

-- the variable of a number test
abbrev pub tests_term : Term → List ℕ
tests_term (Var y) = y ∷ []
tests_term (Num q) = []
tests_term (App f ts) = []

abbrev pub tests_con : Con → List ℕ
tests_con (con.Num t) = tests_term t
tests_con (con.Eq t u) = []
tests_con (con.Neq t u) = []
tests_con (con.NotShape x f n) = []
tests_con (con.NotNum t) = []
tests_con (con.Row r) = []

-- the variables of a row
abbrev pub needs_con : Con → List ℕ
needs_con (con.Row r) = map (λ k. k.x) r.coeffs
needs_con (con.Num t) = []
needs_con (con.Eq t u) = []
needs_con (con.Neq t u) = []
needs_con (con.NotShape x f n) = []
needs_con (con.NotNum t) = []

abbrev pub of_item : (Con → List ℕ) → FlatItem → List ℕ
of_item f (flat.Call l) = []
of_item f (flat.Test c) = f c

abbrev pub of_task : (Con → List ℕ) → Task → List ℕ
of_task f (task.Show i) = of_item f i
of_task f (task.Equate t u) = []
of_task f (task.Assume c) = []
of_task f (task.Differ ps aim) = []
of_task f (task.Become x t ps aim) = []
of_task f (task.Avoid x q ps aim) = []
of_task f (task.Shape x g ts ps aim) = []
of_task f (task.Cover a k) = []
of_task f (task.Check k checks_head) = []
of_task f (task.Begin k first checks_head) = []
of_task f task.Void = []
of_task f task.Leave = []
of_task f task.Close = []

-- ---- work

-- the bindings that are left where the innermost cover ends
abbrev pub lower : List Cover → List Binding → List Binding
lower [] bs = bs
lower (c ∷ cs) bs = unbound c.universals [] bs

-- x is to be a number by the tests that come first, or is one by what stands
abbrev pub Known : List Binding → List Con → List Cover → List ℕ → ℕ → Type 0
Known bs gs cs ps x = (among x ps ≡ true) ⊎ IsNumberBy bs (stands gs cs) x

abbrev pub Works : List Binding → List Con → List Cover → List ℕ → List Task → Type 0
Works bs gs cs ps [] = ⊤
Works bs gs cs ps (t ∷ ts) =
    ((x : ℕ) → among x (of_task needs_con t) ≡ true → Known bs gs cs ps x)
    × Works (if is_close t then lower cs bs else bs) gs (if is_close t then drop 1 cs else cs) (if is_close t then [] else of_task tests_con t ++ ps) ts

-- ---- more that stands

abbrev pub Grows : List Binding → List Con → List Cover → List Binding → List Con → List Cover → Type 0
Grows bs gs [] es hs [] = ((b : Binding) → Contains bs b → Contains es b) × ((c : Con) → Contains gs c → Contains hs c)
Grows bs gs [] es hs (d ∷ ds) = ⊥
Grows bs gs (c ∷ cs) es hs [] = ⊥
Grows bs gs (c ∷ cs) es hs (d ∷ ds) =
    ((b : Binding) → Contains bs b → Contains es b) × ((o : Con) → Contains (stands gs (c ∷ cs)) o → Contains (stands hs (d ∷ ds)) o)
    × Grows (unbound c.universals [] bs) gs cs (unbound d.universals [] es) hs ds

pub grows-here : (bs es : List Binding) (gs hs : List Con) (cs ds : List Cover) → Grows bs gs cs es hs ds → ((b : Binding) → Contains bs b → Contains es b) × ((o : Con) → Contains (stands gs cs) o → Contains (stands hs ds) o)
grows-here bs es gs hs [] [] g = g
grows-here bs es gs hs [] (d ∷ ds) g = absurd g
grows-here bs es gs hs (c ∷ cs) [] g = absurd g
grows-here bs es gs hs (c ∷ cs) (d ∷ ds) g = (g.0, g.1)

grows-lower : (bs es : List Binding) (gs hs : List Con) (cs ds : List Cover) → Grows bs gs cs es hs ds → Grows (lower cs bs) gs (drop 1 cs) (lower ds es) hs (drop 1 ds)
grows-lower bs es gs hs [] [] g = g
grows-lower bs es gs hs [] (d ∷ ds) g = absurd g
grows-lower bs es gs hs (c ∷ cs) [] g = absurd g
grows-lower bs es gs hs (c ∷ cs) (d ∷ ds) g = g.2

pub number-more : (bs es : List Binding) (gs hs : List Con) → ((b : Binding) → Contains bs b → Contains es b) → ((c : Con) → Contains gs c → Contains hs c) → (x : ℕ) → IsNumberBy bs gs x → IsNumberBy es hs x
number-more bs es gs hs f g x h = entails-more (map equation bs ++ gs) (map equation es ++ hs) (con.Num (Var x)) (list-within bs es gs hs f g) h

known-more : (bs es : List Binding) (gs hs : List Con) (cs ds : List Cover) (ps : List ℕ) → Grows bs gs cs es hs ds → (x : ℕ) → Known bs gs cs ps x → Known es hs ds ps x
known-more bs es gs hs cs ds ps g x (inl i) = inl i
known-more bs es gs hs cs ds ps g x (inr h) = let q = grows-here bs es gs hs cs ds g in inr (number-more bs es (stands gs cs) (stands hs ds) q.0 q.1 x h)

pub works-grow : (bs es : List Binding) (gs hs : List Con) (cs ds : List Cover) (ps : List ℕ) (ts : List Task) → Grows bs gs cs es hs ds → Works bs gs cs ps ts → Works es hs ds ps ts
works-grow bs es gs hs cs ds ps [] g w = tt
works-grow bs es gs hs cs ds ps (t ∷ ts) g w =
    ((λ x i. known-more bs es gs hs cs ds ps g x (w.0 x i)), by (is_close t) w.1 (λ fs bs cs ds qs g w. works-grow fs bs gs hs cs ds qs ts g w))
  where
    by : (c : Bool) → Works (if c then lower cs bs else bs) gs (if c then drop 1 cs else cs) (if c then [] else of_task tests_con t ++ ps) ts
        → ((fs bs : List Binding) (cs ds : List Cover) (qs : List ℕ) → Grows fs gs cs bs hs ds → Works fs gs cs qs ts → Works bs hs ds qs ts)
        → Works (if c then lower ds es else es) hs (if c then drop 1 ds else ds) (if c then [] else of_task tests_con t ++ ps) ts
    by true v rec = rec (lower cs bs) (lower ds es) (drop 1 cs) (drop 1 ds) [] (grows-lower bs es gs hs cs ds g) v
    by false v rec = rec bs es cs ds (of_task tests_con t ++ ps) g v

-- ---- how it grows

pub grows-more : (bs es : List Binding) (gs hs : List Con) (cs : List Cover) → ((b : Binding) → Contains bs b → Contains es b) → ((c : Con) → Contains gs c → Contains hs c) → Grows bs gs cs es hs cs
grows-more bs es gs hs [] f g = (f, g)
grows-more bs es gs hs (c ∷ cs) f g = (f, stands-more gs hs (c ∷ cs) g, grows-more (unbound c.universals [] bs) (unbound c.universals [] es) gs hs cs (unbound-more c.universals [] bs es f) g)

pub grows-then : (bs es fs : List Binding) (gs hs is : List Con) (cs ds os : List Cover) → Grows bs gs cs es hs ds → Grows es hs ds fs is os → Grows bs gs cs fs is os
grows-then bs es fs gs hs is [] [] [] a b = ((λ o i. b.0 o (a.0 o i)), (λ o i. b.1 o (a.1 o i)))
grows-then bs es fs gs hs is [] [] (o ∷ os) a b = absurd b
grows-then bs es fs gs hs is [] (d ∷ ds) os a b = absurd a
grows-then bs es fs gs hs is (c ∷ cs) [] os a b = absurd a
grows-then bs es fs gs hs is (c ∷ cs) (d ∷ ds) [] a b = absurd b
grows-then bs es fs gs hs is (c ∷ cs) (d ∷ ds) (o ∷ os) a b =
    ((λ e i. b.0 e (a.0 e i)), (λ e i. b.1 e (a.1 e i)), grows-then (unbound c.universals [] bs) (unbound d.universals [] es) (unbound o.universals [] fs) gs hs is cs ds os a.2 b.2)

-- a case is parted; no new variable is bound
pub grows-parted : (d : ℕ) (q : Parting) (fs bs es : List Binding) (gs : List Con) (cs : List Cover) → ((b : Binding) → Contains bs b → Contains es b) → ((b : Binding) → Contains bs b → among b.x q.parts_here ≡ false)
    → Grows bs gs cs es gs (at_depth d (cover_parted q fs) cs)
grows-parted d q fs bs es gs [] f fresh = (f, λ c i. i)
grows-parted d q fs bs es gs (c ∷ cs) f fresh = (f, stands-parted d q fs gs (c ∷ cs), by (nat_eq c.depth d) (λ bs es f fresh. grows-parted d q fs bs es gs cs f fresh))
  where
    kept : (b : Binding) → Contains (unbound c.universals [] bs) b → Contains (unbound (c.universals ++ q.parts_here) [] es) b
    kept b i = let o = stayed c.universals [] bs b i in one o.0 o.1
      where
        one : Contains bs b → (among b.x c.universals ≡ false) ⊎ (among b.x [] ≡ true) → Contains (unbound (c.universals ++ q.parts_here) [] es) b
        one j (inl e) = stays (c.universals ++ q.parts_here) [] es b (f b j) (inl (off d q bs gs fresh c.universals b j e))
        one j (inr e) = absurd (true≢false (sym e))

    less : (b : Binding) → Contains (unbound c.universals [] bs) b → among b.x q.parts_here ≡ false
    less b i = fresh b (stayed c.universals [] bs b i).0

    by : (e : Bool) → ((bs es : List Binding) → ((b : Binding) → Contains bs b → Contains es b) → ((b : Binding) → Contains bs b → among b.x q.parts_here ≡ false) → Grows bs gs cs es gs (at_depth d (cover_parted q fs) cs))
        → Grows (unbound c.universals [] bs) gs cs (unbound (if e then cover_parted q fs c else c).universals [] es) gs (at_depth d (cover_parted q fs) cs)
    by true rec = rec (unbound c.universals [] bs) (unbound (c.universals ++ q.parts_here) [] es) kept less
    by false rec = rec (unbound c.universals [] bs) (unbound c.universals [] es) (unbound-more c.universals [] bs es f) less

-- ---- tests that come first

-- those that are to come first may change where what they said is known
pub works-known : (bs : List Binding) (gs : List Con) (cs : List Cover) (ps qs : List ℕ) → ((x : ℕ) → among x ps ≡ true → Known bs gs cs qs x) → (ts : List Task) → Works bs gs cs ps ts → Works bs gs cs qs ts
works-known bs gs cs ps qs f [] w = tt
works-known bs gs cs ps qs f (t ∷ ts) w = ((λ x i. one x (w.0 x i)), by (is_close t) w.1 (λ v. works-known bs gs cs (of_task tests_con t ++ ps) (of_task tests_con t ++ qs) behind ts v))
  where
    one : (x : ℕ) → Known bs gs cs ps x → Known bs gs cs qs x
    one x (inl i) = f x i
    one x (inr h) = inr h

    later : (x : ℕ) → Known bs gs cs qs x → Known bs gs cs (of_task tests_con t ++ qs) x
    later x (inl i) = inl (among-right x (of_task tests_con t) qs i)
    later x (inr h) = inr h

    behind : (x : ℕ) → among x (of_task tests_con t ++ ps) ≡ true → Known bs gs cs (of_task tests_con t ++ qs) x
    behind x i = at (among-either x (of_task tests_con t) ps i)
      where
        at : (among x (of_task tests_con t) ≡ true) ⊎ (among x ps ≡ true) → Known bs gs cs (of_task tests_con t ++ qs) x
        at (inl j) = inl (among-left x (of_task tests_con t) qs j)
        at (inr j) = later x (f x j)

    by : (c : Bool) → Works (if c then lower cs bs else bs) gs (if c then drop 1 cs else cs) (if c then [] else of_task tests_con t ++ ps) ts
        → (Works bs gs cs (of_task tests_con t ++ ps) ts → Works bs gs cs (of_task tests_con t ++ qs) ts)
        → Works (if c then lower cs bs else bs) gs (if c then drop 1 cs else cs) (if c then [] else of_task tests_con t ++ qs) ts
    by true v rec = v
    by false v rec = rec v

-- tasks that show no row and end no case
abbrev pub Quiet : Task → Type 0
Quiet t = (of_task needs_con t ≡ []) × (is_close t ≡ false)

pub works-before : (bs : List Binding) (gs : List Con) (cs : List Cover) (ps : List ℕ) (ts us : List Task) → Each Quiet ts → Works bs gs cs ps us → Works bs gs cs ps (ts ++ us)
works-before bs gs cs ps [] us h w = w
works-before bs gs cs ps (t ∷ ts) us h w = (
  (λ x i. absurd (true≢false (sym i ∙ ap (among x) h.0.0))),
  subst (λ (c : Bool). Works (if c then lower cs bs else bs) gs (if c then drop 1 cs else cs) (if c then [] else of_task tests_con t ++ ps) (ts ++ us)) (sym h.0.1)
      (works-known bs gs cs ps (of_task tests_con t ++ ps) (λ x i. inl (among-right x (of_task tests_con t) ps i)) (ts ++ us) (works-before bs gs cs ps ts us h.1 w)),
)

-- ---- bodies

-- the tests of each row's variables stand before the row
abbrev pub Orderly : List ℕ → List FlatItem → Type 0
Orderly ps [] = ⊤
Orderly ps (i ∷ is) = ((x : ℕ) → among x (of_item needs_con i) ≡ true → among x ps ≡ true) × Orderly (of_item tests_con i ++ ps) is

pub works-shows : (bs : List Binding) (gs : List Con) (cs : List Cover) (ps : List ℕ) (is : List FlatItem) (us : List Task) → Orderly ps is → Works bs gs cs ps us → Works bs gs cs ps (map task.Show is ++ us)
works-shows bs gs cs ps [] us o w = w
works-shows bs gs cs ps (i ∷ is) us o w = (
  (λ x j. inl (o.0 x j)),
  works-shows bs gs cs (of_item tests_con i ++ ps) is us o.1 (works-known bs gs cs ps (of_item tests_con i ++ ps) (λ x j. inl (among-right x (of_item tests_con i) ps j)) us w),
)
