-- The tests of equality decide equality.
use Rattle.std.proofs.Common.{◌≡◌, Bool, true, false, ◌&&◌, nat_eq, int_eq, refl, ap, sym}
use Rattle.std.specs.Bool.{Decides}
use Rattle.std.proofs.lemmas.Bool.{and_from, and_parts}
use Rattle.std.proofs.lemmas.Bool.Decides.{Decides-eqb, Decides-int_eq}
use Rattle.scasp_num.specs.Number.{Number, number_code}
use Rattle.scasp_syntax.specs.Same.{same_bool, same_number, same_tm, same_tms, same_atom, same_lit}
use Rattle.scasp_syntax.specs.Tm.{Tm, Tms, var, num, app, nil, cons}
use Rattle.scasp_syntax.specs.declared.atom.Atom.{Atom}
use Rattle.scasp_syntax.specs.declared.atom.Lit.{Lit}

number_is : (q r : Number) → same_number q r ≡ true → q ≡ r
number_is q r e =
    let p = and_parts (int_eq q.num r.num) (int_eq q.den r.den) e in
    let n = (Decides-int_eq q.num r.num).0 p.0 in
    let d = (Decides-int_eq q.den r.den).0 p.1 in
    number_code.inj q r (rw (n, d) refl)

number_same : (q : Number) → same_number q q ≡ true
number_same q = and_from (int_eq q.num q.num) (int_eq q.den q.den) ((Decides-int_eq q.num q.num).1 refl) ((Decides-int_eq q.den q.den).1 refl)

mutual
  tm_is : (t u : Tm) → same_tm t u ≡ true → t ≡ u
  tm_is (var x) (var y) e = ap var ((Decides-eqb x y).0 e)
  tm_is (var x) (num r) e = cc
  tm_is (var x) (app g us) e = cc
  tm_is (num q) (var y) e = cc
  tm_is (num q) (num r) e = ap num (number_is q r e)
  tm_is (num q) (app g us) e = cc
  tm_is (app f ts) (var y) e = cc
  tm_is (app f ts) (num r) e = cc
  tm_is (app f ts) (app g us) e =
      let p = and_parts (nat_eq f g) (same_tms ts us) e in
      let n = (Decides-eqb f g).0 p.0 in
      let s = tms_is ts us p.1 in cc

  tms_is : (ts us : Tms) → same_tms ts us ≡ true → ts ≡ us
  tms_is nil nil e = refl
  tms_is nil (cons u us) e = cc
  tms_is (cons t ts) nil e = cc
  tms_is (cons t ts) (cons u us) e =
      let p = and_parts (same_tm t u) (same_tms ts us) e in
      let n = tm_is t u p.0 in
      let s = tms_is ts us p.1 in cc

mutual
  tm_same : (t : Tm) → same_tm t t ≡ true
  tm_same (var x) = (Decides-eqb x x).1 refl
  tm_same (num q) = number_same q
  tm_same (app f ts) = and_from (nat_eq f f) (same_tms ts ts) ((Decides-eqb f f).1 refl) (tms_same ts)

  tms_same : (ts : Tms) → same_tms ts ts ≡ true
  tms_same nil = refl
  tms_same (cons t ts) = and_from (same_tm t t) (same_tms ts ts) (tm_same t) (tms_same ts)

pub tm_decided : (t u : Tm) → Decides (same_tm t u) (t ≡ u)
tm_decided t u = (tm_is t u, λ e. rw e (tm_same u))

pub tms_decided : (ts us : Tms) → Decides (same_tms ts us) (ts ≡ us)
tms_decided ts us = (tms_is ts us, λ e. rw e (tms_same us))

bool_is : (a b : Bool) → same_bool a b ≡ true → a ≡ b
bool_is true b e = sym e
bool_is false true e = cc
bool_is false false e = refl

bool_same : (a : Bool) → same_bool a a ≡ true
bool_same true = refl
bool_same false = refl

atom_is : (a b : Atom) → same_atom a b ≡ true → a ≡ b
atom_is a b e =
    let p = and_parts (same_bool a.minus b.minus && nat_eq a.name b.name) (same_tms a.args b.args) e in
    let q = and_parts (same_bool a.minus b.minus) (nat_eq a.name b.name) p.0 in
    let m = bool_is a.minus b.minus q.0 in
    let n = (Decides-eqb a.name b.name).0 q.1 in
    let s = tms_is a.args b.args p.1 in
    λ i. record { minus = m i; name = n i; args = s i }

atom_same : (a : Atom) → same_atom a a ≡ true
atom_same a =
    and_from (same_bool a.minus a.minus && nat_eq a.name a.name) (same_tms a.args a.args)
    (and_from (same_bool a.minus a.minus) (nat_eq a.name a.name) (bool_same a.minus) ((Decides-eqb a.name a.name).1 refl))
    (tms_same a.args)

pub atom_decided : (a b : Atom) → Decides (same_atom a b) (a ≡ b)
atom_decided a b = (atom_is a b, λ e. rw e (atom_same b))

lit_is : (l k : Lit) → same_lit l k ≡ true → l ≡ k
lit_is l k e =
    let p = and_parts (same_bool l.positive k.positive) (same_atom l.atom k.atom) e in
    let m = bool_is l.positive k.positive p.0 in
    let a = atom_is l.atom k.atom p.1 in
    λ i. record { positive = m i; atom = a i }

lit_same : (l : Lit) → same_lit l l ≡ true
lit_same l = and_from (same_bool l.positive l.positive) (same_atom l.atom l.atom) (bool_same l.positive) (atom_same l.atom)

pub lit_decided : (l k : Lit) → Decides (same_lit l k) (l ≡ k)
lit_decided l k = (lit_is l k, λ e. rw e (lit_same k))
