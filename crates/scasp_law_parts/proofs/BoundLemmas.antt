-- Bindings as equations.
use Rattle.std.proofs.Common.{◌≡◌, ◌↔◌, true, List, [], ◌∷◌, ◌++◌, refl, sym, ap, subst, ◌∙◌}
use Rattle.std.specs.List.{list_all}
use Rattle.std.proofs.lemmas.Bool.{and_from, and_parts}
use Rattle.scasp_list.specs.Each.{Each}
use Rattle.scasp_syntax.specs.Constraints.{holds, Sat}
use Rattle.scasp_syntax.specs.Same.{same_tm}
use Rattle.scasp_syntax.specs.Tm.{var}
use Rattle.scasp_syntax.specs.Values.{Sub, under}
use Rattle.scasp_syntax.specs.View.{tm_of}
use Rattle.scasp_syntax.specs.declared.con.Con.{Con}
use Rattle.scasp_syntax.proofs.SameLemmas.{tm_decided}
use Rattle.scasp_syntax.proofs.ValueLemmas.{under-under}
use Rattle.scasp_unify.specs.Resolver.{Equal}
use Rattle.scasp_unify.specs.Solving.{sub_of}
use Rattle.scasp_unify.specs.Unification.{single, then_by, Absorbs}
use Rattle.scasp_unify.specs.declared.bindings.Binding.{Binding}
use Rattle.scasp_unify.proofs.UnificationLemmas.{absorbs-one, resolved-twice}
use Rattle.scasp_unify.proofs.ValuationLemmas.{ground-under}
use Rattle.scasp_law_parts.specs.Bound.{equations, AreSolved}
use Rattle.scasp_law_parts.specs.Parts.{SatUnder}
use Rattle.scasp_law_parts.proofs.AgreeLemmas.{split-all, join-all}

-- what makes the equations true goes on from the bindings
pub absorbed : (v : Sub) (bs : List Binding) → Each (Equal v) (equations bs) → Absorbs v (sub_of bs)
absorbed v [] h y = refl
absorbed v (b ∷ bs) h y = resolved-twice v (sub_of bs) (single b.x (tm_of b.term) y) (absorbed v bs h.1) ∙ absorbs-one v b.x (tm_of b.term) (var y) h.0

met-equal : (v : Sub) (bs : List Binding) → list_all (holds v) (equations bs) ≡ true → Each (Equal v) (equations bs)
met-equal v [] e = tt
met-equal v (b ∷ bs) e =
    let a = and_parts (same_tm (v b.x) (under v (tm_of b.term))) (list_all (holds v) (equations bs)) e in
    ((tm_decided (v b.x) (under v (tm_of b.term))).0 a.0, met-equal v bs a.1)

equal-met : (s w : Sub) (bs : List Binding) → Each (Equal s) (equations bs) → list_all (holds (then_by s w)) (equations bs) ≡ true
equal-met s w [] h = refl
equal-met s w (b ∷ bs) h =
    let same : under w (s b.x) ≡ under (then_by s w) (tm_of b.term) = ap (under w) h.0 ∙ under-under w s (tm_of b.term) in
    and_from (same_tm (under w (s b.x)) (under (then_by s w) (tm_of b.term))) (list_all (holds (then_by s w)) (equations bs)) ((tm_decided (under w (s b.x)) (under (then_by s w) (tm_of b.term))).1 same) (equal-met s w bs h.1)

pub bound-read : (bs : List Binding) (cs : List Con) → AreSolved bs → Sat (equations bs ++ cs) ↔ SatUnder (sub_of bs) cs
bound-read bs cs solved = (to, from)
  where
    to : Sat (equations bs ++ cs) → SatUnder (sub_of bs) cs
    to a =
        let k = split-all (holds a.by.of) (equations bs) cs a.meets in
        let h = absorbed a.by.of bs (met-equal a.by.of bs k.0) in
        let same : a.by.of ≡ then_by (sub_of bs) a.by.of = λ i y. sym (h y) i in
        record { by = a.by; meets = subst (λ (v : Sub). list_all (holds v) cs ≡ true) same k.1 }

    from : SatUnder (sub_of bs) cs → Sat (equations bs ++ cs)
    from a = record {
      by = record { of = then_by (sub_of bs) a.by.of; ground = λ x. ground-under a.by.of (sub_of bs x) a.by.ground };
      meets = join-all (holds (then_by (sub_of bs) a.by.of)) (equations bs) cs (equal-met (sub_of bs) a.by.of bs solved) a.meets;
    }
