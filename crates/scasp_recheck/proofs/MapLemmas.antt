-- Certificates whose maps are asked alike.
use Rattle.std.proofs.Common.{◌≡◌, ◌∙◌, Bool, true, false, ◌&&◌, nat_eq, List, [], ◌∷◌, refl, sym}
use Rattle.std.specs.Cmp.Lexicographic.{pointwise}
use Rattle.std.proofs.lemmas.Bool.{and_parts}
use Rattle.std.proofs.lemmas.Bool.Decides.{Decides-eqb}
use mathlib.Core.Bool.{beq}
use Rattle.scasp_graph.specs.Judged.{judged}
use Rattle.scasp_graph.specs.Map.{map_faults}
use Rattle.scasp_graph.proofs.PlaceLemmas.{eq-is}
use Rattle.scasp_graph.proofs.PredLemmas.{pred_is}
use Rattle.scasp_sound.specs.MapLevels.{covered}
use Rattle.scasp_syntax.specs.contracts.atom.PredPartialEq.TheImpl as pred
use Rattle.scasp_syntax.specs.contracts.predicate_map.PredMapPartialEq.TheImpl as entry
use Rattle.scasp_syntax.specs.declared.predicate_map.PredMap.{PredMap}
use Rattle.scasp_syntax.specs.declared.program.Program.{Program}
use Rattle.scasp_recheck.specs.Checks.{verdict_of, verdict_on}
use Rattle.scasp_recheck.specs.Views.{filed_cert}
use Rattle.scasp_recheck.specs.declared.certs.Filed.{Filed}

beq-is : (a b : Bool) → beq a b ≡ true → a ≡ b
beq-is true true e = refl
beq-is true false e = cc
beq-is false true e = cc
beq-is false false e = refl

-- entries that `==` finds equal are one
pub entry-is : (a b : PredMap) → entry.eq-value.it a b ≡ true → a ≡ b
entry-is a b e =
    let h = and_parts (pred.eq-value.it a.pred b.pred) (nat_eq a.level b.level && beq a.plus b.plus) e in
    let k = and_parts (nat_eq a.level b.level) (beq a.plus b.plus) h.1 in
    let pred-same = pred_is a.pred b.pred (sym (eq-is a.pred b.pred) ∙ h.0) in
    let level-same = (Decides-eqb a.level b.level).0 k.0 in
    let plus-same = beq-is a.plus b.plus k.1 in
    λ i. record { pred = pred-same i; level = level-same i; plus = plus-same i }

-- so are lists of such items
pub pointwise-is : {A : Type 0} (E : A → A → Bool) → ((a b : A) → E a b ≡ true → a ≡ b) → (xs ys : List A) → pointwise E xs ys ≡ true → xs ≡ ys
pointwise-is E h [] [] e = refl
pointwise-is E h [] (y ∷ ys) e = cc
pointwise-is E h (x ∷ xs) [] e = cc
pointwise-is E h (x ∷ xs) (y ∷ ys) e =
    let k = and_parts (E x y) (pointwise E xs ys) e in
    let head = h x y k.0 in
    let tail = pointwise-is E h xs ys k.1 in
    λ i. head i ∷ tail i

-- certificates of one map, with checks of the same clauses, are worth the same by it
pub alike : (f g : Filed) → f.covered ≡ g.covered → f.cert.map ≡ g.cert.map → (p : Program) → verdict_on p (filed_cert f) ≡ verdict_on p (filed_cert g)
alike f g rules entries p =
    let covers : covered (filed_cert f) ≡ covered (filed_cert g) = sym f.covers ∙ rules ∙ g.covers in
    λ i. verdict_of (judged (map_faults p (covers i) (entries i)))
