-- Triangular bindings make their own equations true, and stay triangular where one is added or some are taken out.
use Rattle.std.proofs.Common.{◌≡◌, ℕ, Bool, true, false, not, nat_eq, if◌then◌else◌, List, [], ◌∷◌, ◌++◌, refl, sym, ap, subst, ◌∙◌}
use Rattle.std.specs.List.{list_all, filter}
use Rattle.std.proofs.lemmas.Bool.Decides.{Decides-eqb}
use Rattle.std.proofs.lemmas.List.Folds.{list_all-map}
use Rattle.scasp_list.specs.Each.{Each}
use Rattle.scasp_list.proofs.EachLemmas.{Each-append, Each-filter}
use Rattle.scasp_search_rules.specs.Successors.Regions.{equation}
use Rattle.scasp_syntax.specs.Constraints.{holds}
use Rattle.scasp_syntax.specs.Tm.{Tm, var}
use Rattle.scasp_syntax.specs.Values.{Sub, under}
use Rattle.scasp_syntax.specs.View.{tm_of}
use Rattle.scasp_syntax.specs.declared.con.Con.{Con}
use Rattle.scasp_syntax.proofs.ValueLemmas.{under-under}
use Rattle.scasp_unify.specs.Parts.{occurs}
use Rattle.scasp_unify.specs.Resolver.{Equal}
use Rattle.scasp_unify.specs.Solving.{sub_of}
use Rattle.scasp_unify.specs.Unification.{single, then_by}
use Rattle.scasp_unify.specs.declared.bindings.Binding.{Binding}
use Rattle.scasp_unify.proofs.SolvingLemmas.{sub-push, then-assoc}
use Rattle.scasp_unify.proofs.UnificationLemmas.{single-absent}
use Rattle.scasp_law_parts.specs.Bound.{equations, AreSolved, IsFree, Triangular}
use Rattle.scasp_law_parts.specs.Parts.{SatUnder, lies_within}
use Rattle.scasp_law_parts.proofs.AgreeLemmas.{Agree, meets-within, split-all, join-all}
use Rattle.scasp_law_parts.proofs.BoundLemmas.{bound-read}
use Rattle.scasp_law_parts.proofs.PartLemmas.{some-pass}

-- a variable that the first binding does not bind stands for itself first
passed : (b : Binding) (y : ℕ) → nat_eq y b.x ≡ false → single b.x (tm_of b.term) y ≡ var y
passed b y e = rw e refl

first : (b : Binding) → single b.x (tm_of b.term) b.x ≡ tm_of b.term
first b = let same : nat_eq b.x b.x ≡ true = (Decides-eqb b.x b.x).1 refl in rw same refl

later-solved : (b : Binding) (bs cs : List Binding) → Each (IsFree b.x) cs → Each (Equal (sub_of bs)) (equations cs) → Each (Equal (sub_of (b ∷ bs))) (equations cs)
later-solved b bs [] h e = tt
later-solved b bs (c ∷ cs) h e = (
  ap (under (sub_of bs)) (passed b c.x h.0.0) ∙ e.0 ∙ ap (under (sub_of bs)) (sym (single-absent b.x (tm_of b.term) (tm_of c.term) h.0.1)) ∙ under-under (sub_of bs) (single b.x (tm_of b.term)) (tm_of c.term),
  later-solved b bs cs h.1 e.1,
)

pub solved-self : (bs : List Binding) → Triangular bs → AreSolved bs
solved-self [] h = tt
solved-self (b ∷ bs) h = (
  ap (under (sub_of bs)) (first b) ∙ ap (under (sub_of bs)) (sym (single-absent b.x (tm_of b.term) (tm_of b.term) h.0)) ∙ under-under (sub_of bs) (single b.x (tm_of b.term)) (tm_of b.term),
  later-solved b bs bs h.1 (solved-self bs h.2),
)

-- ---- some fewer

pub fewer-triangular : (f : Binding → Bool) (bs : List Binding) → Triangular bs → Triangular (filter f bs)
fewer-triangular f [] h = tt
fewer-triangular f (b ∷ bs) h = by (f b) (fewer-triangular f bs h.2)
  where
    by : (c : Bool) → Triangular (filter f bs) → Triangular (if c then b ∷ filter f bs else filter f bs)
    by true rest = (h.0, Each-filter (IsFree b.x) f bs h.1, rest)
    by false rest = rest

fewer-equations : (g : Con → Bool) (f : Binding → Bool) (bs : List Binding) → list_all g (equations bs) ≡ true → list_all g (equations (filter f bs)) ≡ true
fewer-equations g f bs e = list_all-map g equation (filter f bs) ∙ some-pass f (λ b. g (equation b)) bs (sym (list_all-map g equation bs) ∙ e)

pub fewer-met : (f : Binding → Bool) (bs : List Binding) (cs : List Con) → Triangular bs → SatUnder (sub_of bs) cs → SatUnder (sub_of (filter f bs)) cs
fewer-met f bs cs h a =
    let all = (bound-read bs cs (solved-self bs h)).1 a in
    let g : Con → Bool = holds all.by.of in
    let k = split-all g (equations bs) cs all.meets in
    (bound-read (filter f bs) cs (solved-self (filter f bs) (fewer-triangular f bs h))).0
    record { by = all.by; meets = join-all g (equations (filter f bs)) cs (fewer-equations g f bs k.0) k.1 }

-- ---- one more

pub more-triangular : (bs : List Binding) (b : Binding) → Triangular bs → occurs b.x (tm_of b.term) ≡ false → Each (λ a. IsFree a.x b) bs → Triangular (bs ++ b ∷ [])
more-triangular [] b h e k = (e, tt, tt)
more-triangular (c ∷ cs) b h e k = (h.0, Each-append (IsFree c.x) cs (b ∷ []) h.1 (k.0, tt), more-triangular cs b h.2 e k.1)

-- a variable that is bound changes no other
others-agree : (x : ℕ) (t : Tm) (v : Sub) → Agree (λ y. not (nat_eq y x)) (then_by (single x t) v) v
others-agree x t v y e = by (nat_eq y x) e
  where
    by : (b : Bool) → not b ≡ true → under v (if b then t else var y) ≡ v y
    by true f = cc
    by false f = refl

pub more-met : (bs : List Binding) (b : Binding) (cs : List Con) → list_all (lies_within (sub_of bs) (λ y. not (nat_eq y b.x))) cs ≡ true → SatUnder (sub_of bs) cs → SatUnder (sub_of (bs ++ b ∷ [])) cs
more-met bs b cs e a =
    let s : Sub = sub_of bs in
    let g : Sub = single b.x (tm_of b.term) in
    let same : then_by s (then_by g a.by.of) ≡ then_by (sub_of (bs ++ b ∷ [])) a.by.of = sym (then-assoc s g a.by.of) ∙ ap (λ (r : Sub). then_by r a.by.of) (sym (sub-push bs b)) in
    record {
      by = a.by;
      meets = subst (λ (v : Sub). list_all (holds v) cs ≡ true) same (meets-within s (λ y. not (nat_eq y b.x)) (then_by g a.by.of) a.by.of cs (others-agree b.x (tm_of b.term) a.by.of) e a.meets);
    }
