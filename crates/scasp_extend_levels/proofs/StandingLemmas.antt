-- Rules over numbers that stand for ground rules, in a table that grows.
use Rattle.std.proofs.Common.{◌≡◌, ◌∷◌, ◌++◌, ◌∙◌, ℕ, ◌+◌, ◌<◌, Bool, List, [], length, take, get_or, slice_get, Option, None, Some, refl, sym, ap, subst}
use Rattle.scasp_closure.specs.Reading.{Extends}
use Rattle.scasp_closure.proofs.ReadingLemmas.{Extends-trans, Extends-with_atom, take-pushed}
use Rattle.scasp_model.specs.declared.program.GroundClause.{GroundClause}
use Rattle.scasp_syntax.specs.declared.atom.Atom.{Atom}
use Rattle.scasp_syntax.specs.declared.atom.Lit.{Lit}
use Rattle.scasp_tables.specs.Tables.{with_atom}
use Rattle.scasp_extend_levels.specs.Numbered.{StandAll, StandBody, StandsHead}
use Rattle.scasp_extend_levels.specs.declared.numbered.NumberedClause.{NumberedClause}
use Rattle.scasp_extend_levels.specs.declared.numbered.NumberedLit.{NumberedLit}

pub body-extended : (t u : List Atom) (ns : List NumberedLit) (ls : List Lit) → Extends t u → StandBody t ns ls → StandBody u ns ls
body-extended t u [] [] e s = s
body-extended t u [] (l ∷ ls) e s = s
body-extended t u (n ∷ ns) [] e s = s
body-extended t u (n ∷ ns) (l ∷ ls) e s = (s.0, e n.atom l.atom s.1, body-extended t u ns ls e s.2)

body-pushed : (t : List Atom) (ns : List NumberedLit) (ls : List Lit) (n : NumberedLit) (l : Lit) → StandBody t ns ls → n.positive ≡ l.positive
    → slice_get t n.atom ≡ Some l.atom → StandBody t (ns ++ n ∷ []) (ls ++ l ∷ [])
body-pushed t [] [] n l s p h = (p, h, tt)
body-pushed t [] (k ∷ ls) n l s p h = absurd s
body-pushed t (m ∷ ns) [] n l s p h = absurd s
body-pushed t (m ∷ ns) (k ∷ ls) n l s p h = (s.0, s.1, body-pushed t ns ls n l s.2 p h)

-- one literal more of a body
pub body-more : (t u v : List Atom) (ns new : List NumberedLit) (body : List Lit) (i a : ℕ) (x : Lit)
    → i < length body → x ≡ get_or body i x → Extends t u → StandBody u ns (take i body) → v ≡ with_atom u x.atom → slice_get v a ≡ Some x.atom
    → new ≡ ns ++ record { positive = x.positive; atom = a } ∷ []
    → (Extends t v) × StandBody v new (take (i + 1) body)
body-more t u v ns new body i a x h e g s w at p =
    let up : Extends u v = Extends-with_atom u v x.atom w in
    let n : NumberedLit = record { positive = x.positive; atom = a } in
    let stand : StandBody v (ns ++ n ∷ []) (take i body ++ x ∷ []) = body-pushed v ns (take i body) n x (body-extended u v ns (take i body) up s) refl at in (
      Extends-trans t u v g up,
      subst (λ (z : List Lit). StandBody v new z) (sym (take-pushed body i x h e)) (subst (λ (z : List NumberedLit). StandBody v z (take i body ++ x ∷ [])) (sym p) stand),
    )

head-extended : (t u : List Atom) (n : ℕ) (o : Option Atom) → Extends t u → StandsHead t n o → StandsHead u n o
head-extended t u n None e s = s
head-extended t u n (Some a) e s = e n a s

all-extended : (t u : List Atom) (ns : List NumberedClause) (cs : List GroundClause) → Extends t u → StandAll t ns cs → StandAll u ns cs
all-extended t u [] [] e s = s
all-extended t u [] (c ∷ cs) e s = s
all-extended t u (n ∷ ns) [] e s = s
all-extended t u (n ∷ ns) (c ∷ cs) e s =
    (head-extended t u n.head c.head e s.0, body-extended t u n.body c.body e s.1, all-extended t u ns cs e s.2)

all-pushed : (t : List Atom) (ns : List NumberedClause) (cs : List GroundClause) (n : NumberedClause) (a : Atom) (body : List Lit) → StandAll t ns cs
    → slice_get t n.head ≡ Some a → StandBody t n.body body → StandAll t (ns ++ n ∷ []) (cs ++ record { head = Some a; body = body } ∷ [])
all-pushed t [] [] n a body s h b = (h, b, tt)
all-pushed t [] (c ∷ cs) n a body s h b = absurd s
all-pushed t (m ∷ ns) [] n a body s h b = absurd s
all-pushed t (m ∷ ns) (c ∷ cs) n a body s h b = (s.0, s.1, all-pushed t ns cs n a body s.2 h b)

-- one rule more
pub rule-more : (t u v : List Atom) (ns new : List NumberedClause) (head : ℕ) (a : Atom) (numbered : List NumberedLit) (body : List Lit)
    → u ≡ with_atom t a → slice_get u head ≡ Some a → Extends u v → StandBody v numbered body → new ≡ ns ++ record { head = head; body = numbered } ∷ []
    → (cs : List GroundClause) → StandAll t ns cs → StandAll v new (cs ++ record { head = Some a; body = body } ∷ [])
rule-more t u v ns new head a numbered body w at up b p cs s =
    let n : NumberedClause = record { head = head; body = numbered } in
    let all : StandAll v ns cs = all-extended t v ns cs (Extends-trans t u v (Extends-with_atom t u a w) up) s in
    subst (λ (z : List NumberedClause). StandAll v z (cs ++ record { head = Some a; body = body } ∷ [])) (sym p)
    (all-pushed v ns cs n a body all (up head a at) b)
