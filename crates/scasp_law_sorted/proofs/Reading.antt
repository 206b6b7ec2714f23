-- What solved bindings, none of a variable that is bound already, make of a list's number tests.
use Rattle.std.specs.Prelude.{◌≡◌, ◌≢◌, ◌⊎◌, ℕ, nat_eq, Bool, true, false, if◌then◌else◌, List, [], ◌∷◌, ◌++◌, map}
use Rattle.std.specs.List.{Contains, list_any}
use Rattle.std.proofs.Common.{refl, ap, sym, subst, ◌∙◌, inl, inr}
use Rattle.std.proofs.lemmas.Bool.{true≢false, or_cases, eqb-true, eq-eqb}
use Rattle.std.proofs.lemmas.List.Elements.{Contains-append_cases}
use Rattle.scasp_list.specs.Each.{Each}
use Rattle.scasp_list.proofs.EachLemmas.{Each-append}
use Rattle.scasp_list.proofs.MemberLemmas.{Contains-none, Contains-cases, Contains-here, Contains-there, Contains-from_map, list_any-member}
use Rattle.scasp_project.specs.Meaning.{IsNoEquation}
use Rattle.scasp_search_rules.specs.Successors.Regions.{equation}
use Rattle.scasp_syntax.specs.Constraints.{is_number}
use Rattle.scasp_syntax.specs.Tm.{Tm, var, num, app}
use Rattle.scasp_syntax.specs.Values.{under}
use Rattle.scasp_syntax.specs.View.{tm_of}
use Rattle.scasp_syntax.specs.declared.con.Con.{Con}
use Rattle.scasp_syntax.specs.declared.con.Con.TheVariants as con
use Rattle.scasp_syntax.specs.declared.term.Term.{Term}
use Rattle.scasp_syntax.specs.declared.term.Term.TheVariants.{Var, Num, App}
use Rattle.scasp_syntax.proofs.SameLemmas.{tm_decided}
use Rattle.scasp_syntax.proofs.ValueLemmas.{under-under}
use Rattle.scasp_unify.specs.Numbers.{counts, is_num_of}
use Rattle.scasp_unify.specs.Resolver.{resolver, Equal}
use Rattle.scasp_unify.specs.Solving.{sub_of}
use Rattle.scasp_unify.specs.Unification.{single}
use Rattle.scasp_unify.specs.declared.bindings.Binding.{Binding}
use Rattle.scasp_unify.proofs.Members.{Each-from, Each-member}
use Rattle.scasp_unify.proofs.ResolverLemmas.{complete-list}
use Rattle.scasp_law_first_event.proofs.Bindings.{Solved}
use Rattle.scasp_law_first_event.proofs.Terms.{EachVar, single-self, single-other}
use Rattle.scasp_law_no_circle.proofs.Meeting.{bound-there}
use Rattle.scasp_law_sorted.proofs.Standing.{Once}
use Rattle.scasp_law_sorted.proofs.Tested.{Tested, said, onward, Reads}

first-self : (x : ℕ) (t : Tm) → single x t x ≡ t
first-self x t = by (nat_eq x x) (eq-eqb x x refl)
  where
    by : (b : Bool) → b ≡ true → (if b then t else var x) ≡ t
    by true e = refl
    by false e = absurd (true≢false (sym e))

-- each binding's sides read to one term
pub reads-solved : (n : ℕ) (bs : List Binding) → Solved n bs → Once bs → Reads bs
reads-solved n [] h o c i = absurd (Contains-none c i)
reads-solved n (b ∷ bs) h o c i = by (Contains-cases b bs c i) (λ j. reads-solved n bs h.3 o.1 c j)
  where
    right : (t : Tm) → EachVar (λ y. y ≢ b.x) t → under (sub_of bs) t ≡ under (sub_of (b ∷ bs)) t
    right t a = ap (under (sub_of bs)) (sym (single-self b.x (tm_of b.term) t a)) ∙ under-under (sub_of bs) (single b.x (tm_of b.term)) t

    by : (b ≡ c) ⊎ Contains bs c → (Contains bs c → sub_of bs c.x ≡ under (sub_of bs) (tm_of c.term)) → sub_of (b ∷ bs) c.x ≡ under (sub_of (b ∷ bs)) (tm_of c.term)
    by (inl same) rest =
        subst (λ (d : Binding). sub_of (b ∷ bs) d.x ≡ under (sub_of (b ∷ bs)) (tm_of d.term)) same
        (ap (under (sub_of bs)) (first-self b.x (tm_of b.term)) ∙ right (tm_of b.term) h.2.0)
    by (inr j) rest =
        let apart : c.x ≢ b.x = λ e. true≢false (sym (bound-there bs c b.x j e) ∙ o.0) in
        ap (under (sub_of bs)) (single-other b.x (tm_of b.term) c.x apart) ∙ rest j ∙ right (tm_of c.term) (Each-member (λ (d : Binding). EachVar (λ y. y ≢ b.x) (tm_of d.term)) bs c h.2.1 j)

-- what reads to a variable is bound to it step by step
chained : (all : List Binding) (cs : List Con) (bs : List Binding) → ((b : Binding) → Contains bs b → Contains all b) → (z x : ℕ) → sub_of bs z ≡ var x → Tested all cs z → Tested all cs x
chained all cs [] f z x e t = let same : z ≡ x = cc e in subst (Tested all cs) same t
chained all cs (b ∷ bs) f z x e t = by (nat_eq z b.x) refl e (λ y g u. chained all cs bs (λ c j. f c (Contains-there b bs c j)) y x g u)
  where
    on : z ≡ b.x → (u : Term) → b.term ≡ u → under (sub_of bs) (tm_of u) ≡ var x → ((y : ℕ) → sub_of bs y ≡ var x → Tested all cs y → Tested all cs x) → Tested all cs x
    on same (Var y) i g rest = rest y g (onward b (f b (Contains-here b bs)) y i (subst (Tested all cs) same t))
    on same (Num q) i g rest = absurd (cc g)
    on same (App h ts) i g rest = absurd (cc g)

    by : (c : Bool) → nat_eq z b.x ≡ c → under (sub_of bs) (if c then tm_of b.term else var z) ≡ var x → ((y : ℕ) → sub_of bs y ≡ var x → Tested all cs y → Tested all cs x) → Tested all cs x
    by true same g rest = on (eqb-true z b.x same) b.term refl g rest
    by false same g rest = rest z g t

pub tested-read : (bs : List Binding) (cs : List Con) (z x : ℕ) → Contains cs (con.Num (Var z)) → sub_of bs z ≡ var x → Tested bs cs x
tested-read bs cs z x i e = chained bs cs bs (λ b j. j) z x e (said z i)

-- a test that reads to a variable is of a variable
pub tested-term : (bs : List Binding) (cs : List Con) (t : Term) (x : ℕ) → Contains cs (con.Num t) → under (sub_of bs) (tm_of t) ≡ var x → Tested bs cs x
tested-term bs cs (Var z) x i e = tested-read bs cs z x i e
tested-term bs cs (Num q) x i e = absurd (cc e)
tested-term bs cs (App f ts) x i e = absurd (cc e)

module _ (bs : List Binding) (gs : List Con) (reads : Reads bs) (plain : Each IsNoEquation gs) where
  abbrev all : List Con
  all = map equation bs ++ gs

  equal : Each (Equal (sub_of bs)) (map equation bs ++ gs)
  equal = Each-append (Equal (sub_of bs)) (map equation bs) gs (Each-from (Equal (sub_of bs)) (map equation bs) bound) (Each-from (Equal (sub_of bs)) gs (λ c i. none c (Each-member IsNoEquation gs c plain i)))
    where
      bound : (c : Con) → Contains (map equation bs) c → Equal (sub_of bs) c
      bound c i = let o = Contains-from_map equation bs c i in subst (Equal (sub_of bs)) o.2 (reads o.0 o.1)

      none : (c : Con) → IsNoEquation c → Equal (sub_of bs) c
      none (con.Eq t u) n = absurd n
      none (con.Neq t u) n = tt
      none (con.NotShape x f k) n = tt
      none (con.Num t) n = tt
      none (con.NotNum t) n = tt
      none (con.Row r) n = tt

  -- the bindings go on from the equations
  further : (y : ℕ) → under (sub_of bs) (resolver (map equation bs ++ gs) y) ≡ sub_of bs y
  further y = (complete-list (sub_of bs) (map equation bs ++ gs) equal).1 y

  -- a variable that counts as a number, and reads to a variable, is tested
  pub counts-tested : (x y : ℕ) → counts (map equation bs ++ gs) x ≡ true → sub_of bs x ≡ var y → Tested bs gs y
  counts-tested x y c e = by (or_cases (is_number (resolver all x)) (list_any (is_num_of (resolver all) (resolver all x)) all) c)
    where
      number : (t : Tm) → is_number t ≡ true → under (sub_of bs) t ≡ var y → Tested bs gs y
      number (var z) f g = absurd (true≢false (sym f))
      number (num q) f g = absurd (cc g)
      number (app h ts) f g = absurd (true≢false (sym f))

      one : (d : Con) → is_num_of (resolver (map equation bs ++ gs)) (resolver (map equation bs ++ gs) x) d ≡ true → Contains gs d → Tested bs gs y
      one (con.Num t) f i = tested-term bs gs t y i (same ∙ e)
        where
          first : under (resolver (map equation bs ++ gs)) (tm_of t) ≡ resolver (map equation bs ++ gs) x
          first = (tm_decided (under (resolver all) (tm_of t)) (resolver all x)).0 f

          twice : under (sub_of bs) (under (resolver (map equation bs ++ gs)) (tm_of t)) ≡ under (sub_of bs) (tm_of t)
          twice = under-under (sub_of bs) (resolver all) (tm_of t) ∙ ap (λ (v : ℕ → Tm). under v (tm_of t)) (λ i y. further y i)

          same : under (sub_of bs) (tm_of t) ≡ sub_of bs x
          same = sym twice ∙ ap (under (sub_of bs)) first ∙ further x
      one (con.Eq t u) f i = absurd (true≢false (sym f))
      one (con.Neq t u) f i = absurd (true≢false (sym f))
      one (con.NotShape z g k) f i = absurd (true≢false (sym f))
      one (con.NotNum t) f i = absurd (true≢false (sym f))
      one (con.Row r) f i = absurd (true≢false (sym f))

      -- no binding is a test
      bound : (d : Con) → is_num_of (resolver (map equation bs ++ gs)) (resolver (map equation bs ++ gs) x) d ≡ true → Contains (map equation bs) d ⊎ Contains gs d → Tested bs gs y
      bound d f (inr i) = one d f i
      bound d f (inl i) = let o = Contains-from_map equation bs d i in absurd (true≢false (sym f ∙ ap (is_num_of (resolver all) (resolver all x)) (sym o.2)))

      by : (is_number (resolver (map equation bs ++ gs) x) ≡ true) ⊎ (list_any (is_num_of (resolver (map equation bs ++ gs)) (resolver (map equation bs ++ gs) x)) (map equation bs ++ gs) ≡ true) → Tested bs gs y
      by (inl f) = number (resolver all x) f (further x ∙ e)
      by (inr f) = let m = list_any-member (is_num_of (resolver all) (resolver all x)) all f in bound m.0 m.2 (Contains-append_cases (map equation bs) gs m.0 m.1)
