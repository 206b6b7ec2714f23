-- Variables to which one number is left part a list as if they were numbers.
use Rattle.std.proofs.Common.{◌≡◌, ◌↔◌, ℕ, Bool, true, false, ◌&&◌, ◌||◌, not, nat_eq, if◌then◌else◌, List, [], ◌∷◌, ◌++◌, refl, sym, ap, subst, ◌∙◌}
use Rattle.std.specs.List.{list_all}
use Rattle.std.proofs.lemmas.Bool.{and_parts}
use Rattle.std.proofs.lemmas.Bool.Decides.{Decides-eqb}
use Rattle.scasp_num.specs.Linear.{Linear}
use Rattle.scasp_num.specs.Number.{Number}
use Rattle.scasp_num.specs.Values.{Holds}
use Rattle.scasp_syntax.specs.Constraints.{holds, is_number, Meets}
use Rattle.scasp_syntax.specs.RowTruth.{row_holds, number_of, point}
use Rattle.scasp_syntax.specs.Tm.{Tm, var, num}
use Rattle.scasp_syntax.specs.Values.{Sub, Valuation, under}
use Rattle.scasp_syntax.specs.declared.con.Con.{Con}
use Rattle.scasp_syntax.specs.declared.con.Con.TheVariants as con
use Rattle.scasp_syntax.specs.declared.term.Term.TheVariants.{Var}
use Rattle.scasp_syntax.proofs.ConstraintLemmas.{number-decided}
use Rattle.scasp_unify.specs.Unification.{single, then_by}
use Rattle.scasp_unify.proofs.PointLemmas.{bridge}
use Rattle.scasp_unify.proofs.SolvingLemmas.{then-assoc}
use Rattle.scasp_unify.proofs.ValuationLemmas.{ground-under}
use Rattle.scasp_law_parts.specs.Fixed.{Makes, either, cut_with, IsCut}
use Rattle.scasp_law_parts.specs.Parts.{SatUnder, lies_within, inside, outside}
use Rattle.scasp_law_parts.proofs.AgreeLemmas.{Agree, split-all, join-all, meets-within}
use Rattle.scasp_law_parts.proofs.PartLemmas.{picked, picked-there, glued, some-pass, whole, all-inside, all-outside}

-- a number test and a row that leaves its variable one value
pub number-made : (s : Sub) (x : ℕ) (q : Number) (r : Linear) → s x ≡ var x → ((p : ℕ → Number) → Holds p r → p x ≡ q) → Makes s (con.Num (Var x) ∷ con.Row r ∷ []) x q
number-made s x q r free one w m =
    let a = and_parts (is_number (under w.of (s x))) (row_holds (then_by s w.of) r && true) m in
    let value : under w.of (s x) ≡ w.of x = ap (under w.of) free in
    let number = (number-decided (w.of x)).0 (sym (ap is_number value) ∙ a.0) in
    let at : number_of (w.of x) ≡ q = sym (ap number_of value) ∙ one (point (then_by s w.of)) ((bridge (then_by s w.of) r).0 (and_parts (row_holds (then_by s w.of) r) true a.1).0) in
    number.1 ∙ ap num (sym (ap number_of number.1) ∙ at)

pub cut-decides : (s : Sub) (p f : ℕ → Bool) (value : ℕ → Number) (cs facts asked : List Con) → IsCut s p f value cs facts asked → SatUnder s (cs ++ asked) ↔ SatUnder s (cut_with s p f cs facts asked)
cut-decides s p f value cs facts asked h = (to, from)
  where
    to : SatUnder s (cs ++ asked) → SatUnder s (cut_with s p f cs facts asked)
    to a =
        let g : Con → Bool = holds (then_by s a.by.of) in
        let k = split-all g cs asked a.meets in
        record { by = a.by; meets = join-all g (inside s (either p f) cs) (facts ++ asked) (some-pass (lies_within s (either p f)) g cs k.0) (join-all g facts asked (h.known a.by k.0) k.1) }

    -- both valuations make the shared variables the same numbers
    agrees : (w v : Valuation) → Meets (then_by s w.of) facts → Meets (then_by s v.of) facts → Agree (either p f) (picked p w.of v.of) w.of
    agrees w v m n y e = by (p y) e
      where
        by : (b : Bool) → (b || f y) ≡ true → (if b then w.of y else v.of y) ≡ w.of y
        by true e = refl
        by false e = h.made y e v n ∙ sym (h.made y e w m)

    from : SatUnder s (cut_with s p f cs facts asked) → SatUnder s (cs ++ asked)
    from a =
        let k = split-all (holds (then_by s a.by.of)) (inside s (either p f) cs) (facts ++ asked) a.meets in
        let l = split-all (holds (then_by s a.by.of)) facts asked k.1 in
        let m = split-all (holds (then_by s h.met.by.of)) facts (outside s (either p f) cs) h.met.meets in
        let u : Sub = picked p a.by.of h.met.by.of in
        let here : Agree (either p f) (picked p a.by.of h.met.by.of) a.by.of = agrees a.by h.met.by l.0 m.0 in
        record {
          by = glued p a.by h.met.by;
          meets = join-all (holds (then_by s u)) cs asked
              (whole (lies_within s (either p f)) (holds (then_by s u)) cs
              (meets-within s (either p f) u a.by.of (inside s (either p f) cs) here (all-inside s (either p f) cs) k.0)
              (meets-within s (λ x. not (p x)) u h.met.by.of (outside s (either p f) cs) (picked-there p a.by.of h.met.by.of) (all-outside s (either p f) (λ x. not (p x)) cs h.cut) m.1))
              (meets-within s (either p f) u a.by.of asked here h.within l.1);
        }

-- a variable that is made a number is bound to nothing else
pub number-refuses : (s : Sub) (cs : List Con) (x : ℕ) (q : Number) (t : Tm) → Makes s cs x q → ((w : Sub) → under w t ≡ num q → ⊥) → SatUnder (then_by s (single x t)) cs → ⊥
number-refuses s cs x q t made other a =
    let v : Valuation = record { of = then_by (single x t) a.by.of; ground = λ y. ground-under a.by.of (single x t y) a.by.ground } in
    let at : under a.by.of (single x t x) ≡ num q = made v (subst (λ (u : Sub). list_all (holds u) cs ≡ true) (then-assoc s (single x t) a.by.of) a.meets) in
    other a.by.of (sym (ap (under a.by.of) bound-itself) ∙ at)
  where
    bound-itself : single x t x ≡ t
    bound-itself = let e : nat_eq x x ≡ true = (Decides-eqb x x).1 refl in rw e refl
