-- A rule for an atom that is said to be false has a case that its instance reaches.
use Rattle.std.proofs.Common.{◌≡◌, ◌∙◌, ℕ, zero, suc, ◌+◌, ◌<◌, ◌≤◌, Bool, true, false, nat_lt, List, [], ◌∷◌, length, map, slice_get, Option, Some, refl, ap, sym, subst, inl, inr, arith}
use Rattle.std.specs.List.{Contains, list_all, list_any, filter}
use Rattle.std.proofs.lemmas.Bool.{cond_both, or_right}
use Rattle.scasp_list.proofs.MemberLemmas.{Contains-none, Contains-here, Contains-there, Contains-cases, Contains-single, Contains-from_map, Contains-from_flat_map, Contains-from_filter, list_all-member, list_any-from}
use Rattle.scasp_syntax.specs.Flat.{flat_body}
use Rattle.scasp_syntax.specs.Programs.{numbered, pred_of, is_rule_of, rules_from}
use Rattle.scasp_syntax.specs.Same.{same_pred, same_tm}
use Rattle.scasp_syntax.specs.Tm.{Tm, items}
use Rattle.scasp_syntax.specs.Values.{Sub, giving, under, all_under}
use Rattle.scasp_syntax.specs.declared.atom.Atom.{Atom}
use Rattle.scasp_syntax.specs.declared.atom.Pred.{Pred}
use Rattle.scasp_syntax.specs.declared.clause.Clause.{Clause}
use Rattle.scasp_syntax.specs.declared.program.Program.{Program}
use Rattle.scasp_syntax.proofs.SameLemmas.{tm_decided}
use Rattle.scasp_model.specs.Grounding.{choices, ground_program, instance_of, instances, is_test_true}
use Rattle.scasp_model.specs.declared.program.GroundClause.{GroundClause}
use Rattle.scasp_cert.specs.Certificate.{Certificate}
use Rattle.scasp_cert.specs.Trees.{Branch, Branches, neg_tree}
use Rattle.scasp_lines.specs.Bodies.{Body, Inside, inside, inside_rule, open_head}
use Rattle.scasp_lines.specs.Covers.{covering}
use Rattle.scasp_lines.specs.Descent.{Ends, is_end}
use Rattle.scasp_lines.specs.Dues.{Due}
use Rattle.scasp_lines.specs.Known.{are_known}
use Rattle.scasp_lines.specs.Lines.{free_of, lines, setting}
use Rattle.scasp_lines.specs.Opened.{Opened, is_met, knows, sets}
use Rattle.scasp_lines.specs.OpeningLaws.{OpeningFits, OpeningSays}
use Rattle.scasp_lines.specs.Openings.{unopened, open_terms}
use Rattle.scasp_lines.specs.Places.{Place}
use Rattle.scasp_lines.specs.Rooms.{room_of_clause, room_of_part}
use Rattle.scasp_lines.specs.Scopes.{PlaceFits, BodyFits, PartFits, are_lines_scoped, is_line_scoped, is_part_scoped}
use Rattle.scasp_lines.specs.Walk.{Part, of_node, of_rule, of_case, Line}
use Rattle.scasp_lines.proofs.BelowLemmas.{has-below}
use Rattle.scasp_lines.proofs.DescentLemmas.{descends}
use Rattle.scasp_lines.proofs.FitLemmas.{lines-fit}
use Rattle.scasp_lines.proofs.KnownLemmas.{agree-tm}
use Rattle.scasp_lines.proofs.SubWalkLemmas.{certificate-whole}
use Rattle.scasp_lines.proofs.UniversalLemmas.{covering-met}
use Rattle.scasp_checker_rules.proofs.NodeLemmas.{same-pred}
use Rattle.scasp_checker_rules.proofs.ScopeLemmas.{scoped}
use Rattle.scasp_law_promise.specs.Premises.{Premises, IsAt}
use Rattle.scasp_law_promise.proofs.InstanceLemmas.{part-holds}
use Rattle.scasp_law_promise.proofs.RoomLemmas.{lines-roomy}
use Rattle.scasp_law_promise.proofs.SayingLemmas.{domain-ground}

-- ---- the rules of a predicate, by number

rule-found : (n : ℕ) (cs : List Clause) (p : Pred) (c : Clause) → Contains cs c → is_rule_of p c ≡ true → (i : ℕ) × (slice_get cs i ≡ Some c) × Contains (rules_from n cs p) (n + i)
rule-found n [] p c j r = absurd (Contains-none c j)
rule-found n (k ∷ cs) p c j r = elim (Contains-cases k cs c j) [
  | inl e ↦ (
    0,
    ap (λ (z : Clause). Some z) e,
    cond_both (is_rule_of p k) (n ∷ rules_from (n + 1) cs p) (rules_from (n + 1) cs p) (λ ns. Contains ns (n + 0))
        (λ _. (let z : n + 0 ≡ n = omega arith in subst (λ (x : ℕ). Contains (n ∷ rules_from (n + 1) cs p) x) (sym z) (Contains-here n (rules_from (n + 1) cs p))))
        (λ no. (let yes : is_rule_of p k ≡ true = ap (is_rule_of p) e ∙ r in cc)),
  )
  | inr i ↦
      (let q = rule-found (n + 1) cs p c i r in
      let z : (n + 1) + q.0 ≡ n + suc q.0 = omega arith in
      let there : Contains (rules_from (n + 1) cs p) (n + suc q.0) = subst (λ (x : ℕ). Contains (rules_from (n + 1) cs p) x) z q.2 in
      (suc q.0, q.1, cond_both (is_rule_of p k) (n ∷ rules_from (n + 1) cs p) (rules_from (n + 1) cs p) (λ ns. Contains ns (n + suc q.0)) (λ _. Contains-there n (rules_from (n + 1) cs p) (n + suc q.0) there) (λ _. there)))
]

rule-numbered : (cs : List Clause) (p : Pred) (c : Clause) → Contains cs c → is_rule_of p c ≡ true → (k : ℕ) × (numbered cs k ≡ Some c) × Contains (rules_from 1 cs p) k
rule-numbered cs p c i r =
    let q = rule-found 1 cs p c i r in
    let z : 1 + q.0 ≡ suc q.0 = omega arith in (suc q.0, q.1, subst (λ (x : ℕ). Contains (rules_from 1 cs p) x) z q.2)

rule-of_head : (p : Pred) (c : Clause) (h : Atom) → c.head ≡ Some h → p ≡ pred_of h → is_rule_of p c ≡ true
rule-of_head p c h e f =
    subst (λ (o : Option Atom). is_rule_of p (record { head = o; body = c.body; vars = c.vars }) ≡ true) (sym e)
    (subst (λ (q : Pred). same_pred q (pred_of h) ≡ true) (sym f) (same-pred (pred_of h)))

-- ---- choices

pub record Chosen (d : List Tm) (n : ℕ) (ts : List Tm) : Type 0 where
  pub long : length ts ≡ n
  pub from : (x : ℕ) → x < n → list_any (same_tm (giving ts x)) d ≡ true

within-from : (d : List Tm) (t : Tm) → Contains d t → list_any (same_tm t) d ≡ true
within-from d t i = list_any-from (same_tm t) d t i ((tm_decided t t).1 refl)

pub choices-from : (d : List Tm) (n : ℕ) (ts : List Tm) → Contains (choices d n) ts → Chosen d n ts
choices-from d zero ts i =
    let e : [] ≡ ts = Contains-single [] ts i in
    record { long = ap length (sym e); from = λ x l. absurd (omega (arith, l)) }
choices-from d (suc n) ts i =
    let q = Contains-from_flat_map (λ t. map (λ ts. t ∷ ts) (choices d n)) d ts i in
    let k = Contains-from_map (λ ts. q.0 ∷ ts) (choices d n) ts q.2 in
    let rest = choices-from d n k.0 k.1 in
    subst (Chosen d (suc n)) k.2 (record { long = ap suc rest.long; from = by q.0 k.0 q.1 rest.from })
  where
    by : (t : Tm) (us : List Tm) → Contains d t → ((x : ℕ) → x < n → list_any (same_tm (giving us x)) d ≡ true) → (x : ℕ) → x < suc n → list_any (same_tm (giving (t ∷ us) x)) d ≡ true
    by t us j f zero l = within-from d t j
    by t us j f (suc x) l = f x (omega (arith, l))

-- A ground rule as an instance of a clause.
pub record Grounded (p : Program) (d : List Tm) (g : GroundClause) : Type 0 where
  pub clause : Clause
  pub listed : Contains p.clauses clause
  pub terms : List Tm
  pub chosen : Chosen d clause.vars terms
  pub tests : list_all (is_test_true (giving terms)) clause.body ≡ true
  pub is : instance_of clause (giving terms) ≡ g

pub grounded : (p : Program) (d : List Tm) (g : GroundClause) → Contains (ground_program d p) g → Grounded p d g
grounded p d g i =
    let q = Contains-from_flat_map (instances d) p.clauses g i in
    let k = Contains-from_map (λ ts. instance_of q.0 (giving ts)) (filter (λ ts. list_all (is_test_true (giving ts)) q.0.body) (choices d q.0.vars)) g q.2 in
    let f = Contains-from_filter (λ ts. list_all (is_test_true (giving ts)) q.0.body) (choices d q.0.vars) k.0 k.1 in
    record { clause = q.0; listed = q.1; terms = k.0; chosen = choices-from d q.0.vars k.0 f.0; tests = f.1; is = k.2 }

-- ---- the cover

-- A case of the clause that is not split, at values that give its variables these terms.
pub record Reached (b : Bool) (p : Program) (c : Certificate) (m : Premises b p c) (clause : Clause) (check : Bool) (s : Sub) : Type 0 where
  pub line : Line
  pub by : Sub
  pub at : IsAt b p c m line by
  pub body : Body
  pub last : Branch
  pub is : line.part ≡ of_case body last
  pub ends : is_end last ≡ true
  pub items_are : body.items ≡ flat_body clause.body
  pub head_is : body.head ≡ clause.head
  pub check_is : body.is_check ≡ check
  pub values : (x : ℕ) → x < clause.vars → under by (body.values x) ≡ s x

-- what is free is known
pub free-known : (n : ℕ) (os : List Opened) (x : ℕ) → nat_lt x n ≡ true → knows n os x ≡ true
free-known n [] x h = h
free-known n (o ∷ os) x h = or_right (sets o x) (knows n os x) (free-known n os x h)

-- a rule inside, with its clause and its head
inside-is : (o : Option Clause) (c : Clause) (h a : Atom) (next : ℕ) (here : Place) → o ≡ Some c → c.head ≡ Some h
    → inside_rule o a next here ≡ inside false c (open_terms h.args a.args (unopened here.opened here.hidden)) next here
inside-is o c h a next here e f =
    ap (λ (z : Option Clause). inside_rule z a next here) e ∙ ap (λ (z : Option Atom). inside false c (open_head z a (unopened here.opened here.hidden)) next here) f

module _ (b : Bool) (p : Program) (c : Certificate) (m : Premises b p c) where
  pub lines-scoped : are_lines_scoped p c ≡ true
  lines-scoped = scoped b p c m.accepted

  literal-known : (l : Line) (due : Due) (a : Atom) (covers : Branches) → Contains (lines p c) l → l.part ≡ of_node due (neg_tree a covers)
      → are_known (knows (free_of c) l.here.opened) a.args ≡ true
  literal-known l due a covers i e =
      subst (λ (x : Part). is_part_scoped (knows (free_of c) l.here.opened) l.next x ≡ true) e (list_all-member (is_line_scoped (free_of c)) (lines p c) l lines-scoped i)

  rule-fits : (l : Line) (k : ℕ) (a : Atom) (case : Branch) → Contains (lines p c) l → l.part ≡ of_rule k a case → PlaceFits (setting p.clauses c) l.here l.next
  rule-fits l k a case i e = subst (PartFits (setting p.clauses c) l.here l.next) e (lines-fit p c lines-scoped l i)

  case-fits : (l : Line) (body : Body) (case : Branch) → Contains (lines p c) l → l.part ≡ of_case body case → BodyFits (setting p.clauses c) body l.here l.next
  case-fits l body case i e = subst (PartFits (setting p.clauses c) l.here l.next) e (lines-fit p c lines-scoped l i)

  -- from a case down to one that is not split
  pub down : (clause : Clause) (check : Bool) (s : Sub) (z : Line) (w : Sub) → IsAt b p c m z w → (body : Body) (case : Branch) → z.part ≡ of_case body case
      → body.items ≡ flat_body clause.body → body.head ≡ clause.head → body.is_check ≡ check → body.vars ≡ clause.vars
      → ((x : ℕ) → x < clause.vars → under w (body.values x) ≡ s x) → Reached b p c m clause check s
  down clause check s z w at body case e items head is_check vars values =
      let instance = at.instance in
      let k : Ends (setting p.clauses c) m.domain z body w = descends p c lines-scoped m.domain case z body w at.listed e instance.met in
      let fits = case-fits z body case at.listed e in
      let alike = k.alike in
      record {
        line = k.line;
        by = k.by;
        at = record {
          listed = (certificate-whole p.clauses p.queries c).has z k.line at.listed k.listed;
          instance = record {
            free_values = λ x l. k.same x (free-known (free_of c) z.here.opened x l) ∙ instance.free_values x l;
            met = k.met;
          };
          ground = k.ground at.ground;
        };
        body = k.own;
        last = k.last;
        is = k.is;
        ends = k.ends;
        items_are = alike.items ∙ items;
        head_is = alike.head ∙ head;
        check_is = alike.is_check ∙ is_check;
        values = λ x l.
            ap (λ (v : Sub). under k.by (v x)) alike.values
            ∙ agree-tm (knows (free_of c) z.here.opened) k.by w k.same (body.values x) (fits.values x (omega (arith, l, vars))) ∙ values x l;
      }

  -- An instance of a rule for the atom of a negated literal reaches a case below it.
  pub reached : (l : Line) (v : Sub) → IsAt b p c m l v → (due : Due) (a : Atom) (covers : Branches) → l.part ≡ of_node due (neg_tree a covers)
      → (clause : Clause) (h : Atom) (s : Sub) → Contains p.clauses clause → clause.head ≡ Some h → pred_of a ≡ pred_of h → all_under v a.args ≡ all_under s h.args
      → ((x : ℕ) → x < clause.vars → list_any (same_tm (s x)) m.domain ≡ true) → Reached b p c m clause false s
  reached l v at due a covers e clause h s i head pred args range =
      let n = free_of c in
      let set = setting p.clauses c in
      let r = rule-numbered p.clauses (pred_of a) clause i (rule-of_head (pred_of a) clause h head pred) in
      let holds = part-holds b p c m l (of_node due (neg_tree a covers)) at.listed e in
      let rule = (has-below set l).rules_of due a covers e r.0 (subst (λ (ks : List ℕ). Contains ks r.0) (sym holds.1) r.2) in
      let y = rule.line in
      let yi : Contains (lines p c) y = (certificate-whole p.clauses p.queries c).has l y at.listed rule.listed in
      let here_same : y.here.opened ≡ l.here.opened = ap (λ (z : Place). z.opened) rule.there in
      let instance = at.instance in
      let case = (has-below set y).rule_case r.0 a rule.case rule.is in
      let z = case.line in
      let zi : Contains (lines p c) z = (certificate-whole p.clauses p.queries c).has y z yi case.listed in
      let inner = inside-is (numbered p.clauses r.0) clause h a y.next y.here r.1 head in
      let fits = rule-fits y r.0 a rule.case yi rule.is in
      let unopened_fits : OpeningFits n (unopened y.here.opened y.here.hidden) = record { well = fits.well; unseen = fits.unseen; known = λ x t f. cc } in
      let y_met : list_all (is_met m.domain v) y.here.opened ≡ true = subst (λ (os : List Opened). list_all (is_met m.domain v) os ≡ true) (sym here_same) instance.met in
      let says : OpeningSays m.domain s (unopened y.here.opened y.here.hidden) v = record { met = y_met; says = λ x t f. cc } in
      let known : are_known (knows n y.here.opened) a.args ≡ true = subst (λ (os : List Opened). are_known (knows n os) a.args ≡ true) (sym here_same) (literal-known l due a covers at.listed e) in
      let all_room : (y.next + room_of_part p.clauses (of_rule r.0 a rule.case)) ≤ set.top = subst (λ (x : Part). (y.next + room_of_part p.clauses x) ≤ set.top) rule.is (lines-roomy p c y yi) in
      let clause_room : room_of_clause (numbered p.clauses r.0) ≡ clause.vars = ap room_of_clause r.1 in
      let room : (y.next + clause.vars) ≤ set.top = omega (arith, all_room, clause_room) in
      let cover = covering-met n set.top m.domain s clause.vars y.next h.args a.args (unopened y.here.opened y.here.hidden) v unopened_fits says known args fits.above fits.to_come room range in
      let opened_same : z.here.opened ≡ (covering clause.vars y.next (open_terms h.args a.args (unopened y.here.opened y.here.hidden))).opened =
      ap (λ (x : Place). x.opened) case.there ∙ ap (λ (x : Inside). x.here.opened) inner in
      let z_at : IsAt b p c m z cover.by =
      record {
        listed = zi;
        instance = record {
          free_values = λ x k. cover.same x (free-known n y.here.opened x k) ∙ instance.free_values x k;
          met = subst (λ (os : List Opened). list_all (is_met m.domain cover.by) os ≡ true) (sym opened_same) cover.met;
        };
        ground = cover.ground (domain-ground m.domain m.distinct) at.ground;
      } in
      let body_same = ap (λ (x : Inside). x.body) inner in
      down clause false s z cover.by z_at (inside_rule (numbered p.clauses r.0) a y.next y.here).body rule.case case.is
      (ap (λ (x : Body). x.items) body_same) (ap (λ (x : Body). x.head) body_same) (ap (λ (x : Body). x.is_check) body_same) (ap (λ (x : Body). x.vars) body_same)
      (λ x k. ap (λ (o : Body). under cover.by (o.values x)) body_same ∙ cover.values x k)
