-- What a certificate promises, by what its lines say.
use Rattle.std.specs.Prelude.{◌≡◌, Bool, ◌&&◌, not, IsTrue, List, Some}
use Rattle.std.specs.List.{list_all, list_any}
use Rattle.scasp_syntax.specs.Constraints.{Meets}
use Rattle.scasp_syntax.specs.Programs.{numbered}
use Rattle.scasp_syntax.specs.Same.{same_tm}
use Rattle.scasp_syntax.specs.Tm.{Tm, items}
use Rattle.scasp_syntax.specs.Values.{Sub, Valuation, under, giving}
use Rattle.scasp_syntax.specs.declared.atom.Atom.{Atom}
use Rattle.scasp_syntax.specs.declared.clause.Item.{Item}
use Rattle.scasp_syntax.specs.declared.clause.Query.{Query}
use Rattle.scasp_syntax.specs.declared.program.Program.{Program}
use Rattle.scasp_model.specs.Atoms.{among}
use Rattle.scasp_model.specs.Grounding.{is_domain, is_test_true, literal_under, ground_program}
use Rattle.scasp_model.specs.Residual.{is_known_true, residual}
use Rattle.scasp_model.specs.declared.program.GroundClause.{GroundClause}
use Rattle.scasp_cert.specs.Certificate.{Certificate}
use Rattle.scasp_sound.specs.Existence.{HasStable}
use Rattle.scasp_sound.specs.Support.{Joins}
use Rattle.scasp_lines.specs.Said.{true_atoms, false_atoms, is_closed_over}

-- what the variables of the query stand for: the terms of the answer, under the values v
abbrev pub query_values : Certificate → Sub → Sub
query_values c v x = under v (giving (items c.terms) x)

-- a test is true, a literal is true by the atoms t and the false atoms f
abbrev pub holds_by : List Atom → List Atom → Sub → Item → Bool
holds_by t f s item = is_test_true s item && list_all (is_known_true t f) (literal_under s item)

-- what is left of the program over the domain by what the certificate says
abbrev pub residual_over : Program → Certificate → Sub → List Tm → List GroundClause
residual_over p c v d = residual (true_atoms p c v d) (false_atoms p c v d) (ground_program d p)

-- The promise for one valuation and one domain: no atom is true and false; the query holds; and each stable model of what is left,
-- joined with the true atoms, is a stable model of the program over the domain.
pub record GoodAt (p : Program) (c : Certificate) (v : Sub) (d : List Tm) : Type 0 where
  pub apart : (a : Atom) → IsTrue (among (true_atoms p c v d) a) → IsTrue (not (among (false_atoms p c v d) a))
  pub query : Query
  pub asked : numbered p.queries c.query ≡ Some query
  pub holds : IsTrue (list_all (holds_by (true_atoms p c v d) (false_atoms p c v d) (query_values c v)) query.body)
  pub joins : Joins (ground_program d p) (true_atoms p c v d) (false_atoms p c v d)

-- for each valuation that meets what is given, and each domain that is closed for it
abbrev pub Over : (Sub → List Tm → Type 0) → Program → Certificate → Type 0
Over P p c =
    (v : Valuation) → Meets v.of c.given → (d : List Tm) → IsTrue (is_domain d) → IsTrue (is_closed_over p c v.of d) → P v.of d

abbrev pub Good : Program → Certificate → Type 0
Good p c = Over (GoodAt p c) p c

-- what is left has a stable model each time
abbrev pub Extendable : Program → Certificate → Type 0
Extendable p c = Over (λ v d. HasStable (residual_over p c v d)) p c

-- the promise with existence
abbrev pub GoodRight : Program → Certificate → Type 0
GoodRight p c = Good p c × Extendable p c

-- a domain that has all of the given one and is closed
pub record ClosedAbove (p : Program) (c : Certificate) (v : Sub) (given : List Tm) : Type 0 where
  pub domain : List Tm
  pub is : IsTrue (is_domain domain)
  pub has : (t : Tm) → IsTrue (list_any (same_tm t) given) → IsTrue (list_any (same_tm t) domain)
  pub closed : IsTrue (is_closed_over p c v domain)

-- above each domain there is a closed one, so the promise is not empty
abbrev pub HasClosedDomains : Program → Certificate → Type 0
HasClosedDomains p c =
    (v : Valuation) → Meets v.of c.given → (given : List Tm) → IsTrue (is_domain given) → ClosedAbove p c v.of given
