-- Nothing is left of a clause that is checked.
use Rattle.std.proofs.Common.{◌≡◌, ◌∙◌, ℕ, suc, ◌+◌, ◌<◌, ◌≤◌, Bool, true, ◌||◌, List, [], ◌∷◌, ◌++◌, map, Option, Some, refl, ap, sym, subst, inl, inr, arith}
use Rattle.std.specs.List.{Contains, list_all, list_any, filter}
use Rattle.std.proofs.lemmas.Bool.{and_parts, cond-true, or_left, or_right}
use Rattle.std.proofs.lemmas.List.Elements.{Contains-append_left, Contains-append_right}
use Rattle.scasp_list.proofs.MemberLemmas.{Contains-none, Contains-here, Contains-there, Contains-cases, Contains-from_map, Contains-from_filter, list_any-from}
use Rattle.scasp_syntax.specs.Constraints.{holds}
use Rattle.scasp_syntax.specs.Flat.{flat_body}
use Rattle.scasp_syntax.specs.Instances.{atom_under, head_under}
use Rattle.scasp_syntax.specs.Programs.{numbered}
use Rattle.scasp_syntax.specs.Same.{same_tm}
use Rattle.scasp_syntax.specs.Tm.{nil}
use Rattle.scasp_syntax.specs.Values.{Sub, giving, under}
use Rattle.scasp_syntax.specs.WellFormed.{is_head_below}
use Rattle.scasp_syntax.specs.declared.atom.Atom.{Atom}
use Rattle.scasp_syntax.specs.declared.clause.Clause.{Clause}
use Rattle.scasp_syntax.specs.declared.clause.FlatItem.TheVariants as flat
use Rattle.scasp_syntax.specs.declared.con.Con.{Con}
use Rattle.scasp_syntax.specs.declared.program.Program.{Program}
use Rattle.scasp_model.specs.Atoms.{among}
use Rattle.scasp_model.specs.Grounding.{choices, instance_of, instances, is_test_true}
use Rattle.scasp_model.specs.Residual.{is_known, is_known_false, residual, residual_of}
use Rattle.scasp_model.specs.declared.program.GroundClause.{GroundClause}
use Rattle.scasp_cert.specs.Certificate.{Certificate}
use Rattle.scasp_cert.specs.Lines.{lines_at, lines_below}
use Rattle.scasp_cert.specs.Trees.{Branch, Trees, split, void, leaf, head, listed}
use Rattle.scasp_lines.specs.Bodies.{Body, Inside, inside, inside_check}
use Rattle.scasp_lines.specs.Covers.{covering}
use Rattle.scasp_lines.specs.Descent.{is_end}
use Rattle.scasp_lines.specs.Dues.{values_here}
use Rattle.scasp_lines.specs.Lines.{free_of, lines, setting, query_walk}
use Rattle.scasp_lines.specs.Opened.{Opened, IsInstance, is_met}
use Rattle.scasp_lines.specs.OpeningLaws.{OpeningFits, OpeningSays}
use Rattle.scasp_lines.specs.Openings.{unopened}
use Rattle.scasp_lines.specs.Places.{Place, start}
use Rattle.scasp_lines.specs.Rooms.{room_of_clause, room_of_part}
use Rattle.scasp_lines.specs.Said.{false_atoms, true_atoms}
use Rattle.scasp_lines.specs.Scopes.{PlaceFits, PartFits}
use Rattle.scasp_lines.specs.Walk.{Part, of_case, of_check, Line, Setting, Walked, line, branch_walk, checks_walk}
use Rattle.scasp_lines.proofs.BelowLemmas.{has-below}
use Rattle.scasp_lines.proofs.FitLemmas.{lines-fit}
use Rattle.scasp_lines.proofs.SubWalkLemmas.{certificate-whole}
use Rattle.scasp_lines.proofs.UniversalLemmas.{covering-met}
use Rattle.scasp_checker_rules.proofs.ListLemmas.{numbered-contains}
use Rattle.scasp_law_promise.specs.Premises.{Premises, IsAt}
use Rattle.scasp_law_promise.proofs.BodyLemmas.{lit_under, call-from_flat, flat-holds, literal-in}
use Rattle.scasp_law_promise.proofs.ClauseLemmas.{atom-same}
use Rattle.scasp_law_promise.proofs.CoverLemmas.{choices-from, Reached, down, free-known, lines-scoped}
use Rattle.scasp_law_promise.proofs.FoundedLemmas.{atom-under-atom}
use Rattle.scasp_law_promise.proofs.InstanceLemmas.{part-holds, void-never}
use Rattle.scasp_law_promise.proofs.RefutedLemmas.{agree, leaf-false, well}
use Rattle.scasp_law_promise.proofs.RoomLemmas.{lines-roomy}
use Rattle.scasp_law_promise.proofs.SayingLemmas.{domain-ground, due-said}

-- ---- the lines of checks

pub record HasCheck (ls : List Line) (here : Place) (k : ℕ) : Type 0 where
  pub line : Line
  pub listed : Contains ls line
  pub there : line.here ≡ here
  pub case : Branch
  pub is : line.part ≡ of_check k case

checks-have : (s : Setting) (here : Place) (at next : ℕ) (cs : List (ℕ × Branch)) (k : ℕ) → Contains (map (λ (x : ℕ × Branch). x.0) cs) k → HasCheck (checks_walk s here at next cs).lines here k
checks-have s here at next [] k i = absurd (Contains-none k i)
checks-have s here at next (c ∷ cs) k i =
    let n = inside_check (numbered s.clauses c.0) next here in
    let one : Walked = branch_walk s n.here (suc at) n.next n.body c.1 in
    let own : Line = line at next here (of_check c.0 c.1) in
    elim (Contains-cases c.0 (map (λ (x : ℕ × Branch). x.0) cs) k i) [
      | inl same ↦ record {
        line = own;
        listed = Contains-append_left (own ∷ one.lines) _ own (Contains-here own one.lines);
        there = refl;
        case = c.1;
        is = ap (λ (x : ℕ). of_check x c.1) same;
      }
      | inr later ↦
          (let rest = checks-have s here (at + (1 + lines_at c.1)) one.next cs k later in
          record { line = rest.line; listed = Contains-append_right (own ∷ one.lines) _ _ rest.listed; there = rest.there; case = rest.case; is = rest.is })
    ]

check-line : (p : Program) (c : Certificate) (k : ℕ) → Contains (map (λ (x : ℕ × Branch). x.0) c.checks) k → HasCheck (lines p c) (start (setting p.clauses c).top) k
check-line p c k i =
    let s : Setting = setting p.clauses c in
    let first = query_walk p.clauses p.queries c in
    let h = checks-have s (start s.top) (1 + lines_below (listed c.trees)) first.next c.checks k i in
    record { line = h.line; listed = Contains-append_right first.lines _ _ h.listed; there = h.there; case = h.case; is = h.is }

module _ (b : Bool) (p : Program) (c : Certificate) (m : Premises b p c) where
  -- an instance of a checked clause reaches a case of its check
  checked : (k : ℕ) → Contains (map (λ (x : ℕ × Branch). x.0) c.checks) k → (clause : Clause) → numbered p.clauses k ≡ Some clause → (s : Sub)
      → ((x : ℕ) → x < clause.vars → list_any (same_tm (s x)) m.domain ≡ true) → Reached b p c m clause true s
  checked k i clause named s range =
      let n = free_of c in
      let set = setting p.clauses c in
      let h = check-line p c k i in
      let y = h.line in
      let v = m.free.of in
      let none : y.here.opened ≡ [] = ap (λ (z : Place). z.opened) h.there in
      let case = (has-below set y).check_case k h.case h.is in
      let z = case.line in
      let zi : Contains (lines p c) z = (certificate-whole p.clauses p.queries c).has y z h.listed case.listed in
      let inner : inside_check (numbered p.clauses k) y.next y.here ≡ inside true clause (unopened y.here.opened y.here.hidden) y.next y.here =
      ap (λ (o : Option Clause). inside_check o y.next y.here) named in
      let fits : PlaceFits set y.here y.next = subst (PartFits set y.here y.next) h.is (lines-fit p c (lines-scoped b p c m) y h.listed) in
      let unopened_fits : OpeningFits n (unopened y.here.opened y.here.hidden) = record { well = fits.well; unseen = fits.unseen; known = λ x t f. cc } in
      let y_met : list_all (is_met m.domain v) y.here.opened ≡ true = subst (λ (os : List Opened). list_all (is_met m.domain v) os ≡ true) (sym none) refl in
      let says : OpeningSays m.domain s (unopened y.here.opened y.here.hidden) v = record { met = y_met; says = λ x t f. cc } in
      let all_room : (y.next + room_of_part p.clauses (of_check k h.case)) ≤ set.top = subst (λ (x : Part). (y.next + room_of_part p.clauses x) ≤ set.top) h.is (lines-roomy p c y h.listed) in
      let clause_room : room_of_clause (numbered p.clauses k) ≡ clause.vars = ap room_of_clause named in
      let room : (y.next + clause.vars) ≤ set.top = omega (arith, all_room, clause_room) in
      let cover = covering-met n set.top m.domain s clause.vars y.next nil nil (unopened y.here.opened y.here.hidden) v unopened_fits says refl refl fits.above fits.to_come room range in
      let opened_same : z.here.opened ≡ (covering clause.vars y.next (unopened y.here.opened y.here.hidden)).opened =
      ap (λ (x : Place). x.opened) case.there ∙ ap (λ (x : Inside). x.here.opened) inner in
      let z_at : IsAt b p c m z cover.by =
      record {
        listed = zi;
        instance = record {
          free_values = λ x l. cover.same x (free-known n y.here.opened x l);
          met = subst (λ (os : List Opened). list_all (is_met m.domain cover.by) os ≡ true) (sym opened_same) cover.met;
        };
        ground = cover.ground (domain-ground m.domain m.distinct) m.free.ground;
      } in
      let body_same = ap (λ (x : Inside). x.body) inner in
      down b p c m clause true s z cover.by z_at (inside_check (numbered p.clauses k) y.next y.here).body h.case case.is
      (ap (λ (x : Body). x.items) body_same) (ap (λ (x : Body). x.head) body_same) (ap (λ (x : Body). x.is_check) body_same) (ap (λ (x : Body). x.vars) body_same)
      (λ x l. ap (λ (o : Body). under cover.by (o.values x)) body_same ∙ cover.values x l)

  abbrev true_said : List Atom
  true_said = true_atoms p c m.free.of m.domain

  abbrev false_said : List Atom
  false_said = false_atoms p c m.free.of m.domain

  gone : (g : GroundClause) → (is_known true_said false_said g.head || list_any (is_known_false true_said false_said) g.body) ≡ true → residual_of true_said false_said g ≡ []
  gone g e = cond-true (is_known true_said false_said g.head || list_any (is_known_false true_said false_said) g.body) [] _ e

  head-known : (s : Sub) (o : Option Atom) (h : Atom) → o ≡ Some h → among true_said (atom_under s h) ≡ true → is_known true_said false_said (head_under s o) ≡ true
  head-known s o h e t =
      subst (λ (z : Option Atom). is_known true_said false_said (head_under s z) ≡ true) (sym e)
      (or_left (among true_said (atom_under s h)) (among false_said (atom_under s h)) t)

  module _ (clause : Clause) (i : Contains p.clauses clause) (s : Sub) (tests : (k : Con) → Contains (flat_body clause.body) (flat.Test k) → holds s k ≡ true)
      (r : Reached b p c m clause true s) where
    -- the head that a case shows is said to be true
    head-true : (children : Trees) → r.last ≡ head children → is_known true_said false_said (head_under s clause.head) ≡ true
    head-true children e =
        let is = r.is ∙ ap (of_case r.body) e in
        let at = r.at in
        let h = part-holds b p c m r.line (of_case r.body (head children)) at.listed is in
        let n = (has-below (setting p.clauses c) r.line).head_of r.body children is h.0 h.2 h.3 in
        let instance = at.instance in
        let yat : IsAt b p c m n.line r.by =
        record {
          listed = (certificate-whole p.clauses p.queries c).has r.line n.line at.listed n.listed;
          instance = subst (λ (os : List Opened). IsInstance (free_of c) m.domain m.free.of os r.by) (sym (ap (λ (z : Place). z.opened) n.there)) instance;
          ground = at.ground;
        } in
        let place = values_here r.line.here r.body.values in
        let said = due-said b p c m n.line r.by yat (record { positive = true; atom = atom_under place h.2 }) n.tree n.is in
        let named : clause.head ≡ Some h.2 = sym r.head_is ∙ h.3 in
        let whole : is_head_below clause.vars clause.head ≡ true = (and_parts (is_head_below clause.vars clause.head) _ (well b p c m clause i)).0 in
        let below : is_head_below clause.vars (Some h.2) ≡ true = subst (λ (o : Option Atom). is_head_below clause.vars o ≡ true) named whole in
        let atom : atom_under r.by (atom_under place h.2) ≡ atom_under s h.2 =
        atom-under-atom r.by place h.2
        ∙ atom-same clause.vars (λ z. under r.by (place z)) s (agree b p c m clause i s tests r.line r.by at r.body r.items_are r.values) h.2 below in
        head-known s clause.head h.2 named (subst (λ (z : Atom). among true_said z ≡ true) atom said)

    ends-gone : (last : Branch) → r.last ≡ last → residual_of true_said false_said (instance_of clause s) ≡ []
    ends-gone (split k first second) e = (let f = r.ends in let g = ap is_end e in cc)
    ends-gone (void hint) e = absurd (void-never b p c m r.line r.by r.at r.body hint (r.is ∙ ap (of_case r.body) e))
    ends-gone (leaf k children) e =
        let q = leaf-false b p c m clause i s tests r.line r.by r.at r.body r.items_are r.values k children (r.is ∙ ap (of_case r.body) e) in
        gone (instance_of clause s)
        (or_right (is_known true_said false_said (head_under s clause.head)) (list_any (is_known_false true_said false_said) (instance_of clause s).body)
        (list_any-from (is_known_false true_said false_said) (instance_of clause s).body (lit_under s q.0) (literal-in s clause.body q.0 (call-from_flat [] clause.body q.0 q.1)) q.2))
    ends-gone (head children) e =
        gone (instance_of clause s) (or_left (is_known true_said false_said (head_under s clause.head)) (list_any (is_known_false true_said false_said) (instance_of clause s).body) (head-true children e))

  none-left : (gs : List GroundClause) → ((g : GroundClause) → Contains gs g → residual_of true_said false_said g ≡ []) → residual true_said false_said gs ≡ []
  none-left [] f = refl
  none-left (g ∷ gs) f =
      ap (λ (xs : List GroundClause). xs ++ residual true_said false_said gs) (f g (Contains-here g gs)) ∙ none-left gs (λ x i. f x (Contains-there g gs x i))

  -- nothing is left of the instances of a checked clause
  pub covered-gone : (k : ℕ) → Contains (map (λ (x : ℕ × Branch). x.0) c.checks) k → (clause : Clause) → numbered p.clauses k ≡ Some clause
      → residual true_said false_said (instances m.domain clause) ≡ []
  covered-gone k i clause named =
      none-left (instances m.domain clause)
      (λ g j.
      (let q = Contains-from_map (λ ts. instance_of clause (giving ts)) (filter (λ ts. list_all (is_test_true (giving ts)) clause.body) (choices m.domain clause.vars)) g j in
      let f = Contains-from_filter (λ ts. list_all (is_test_true (giving ts)) clause.body) (choices m.domain clause.vars) q.0 q.1 in
      let chosen = choices-from m.domain clause.vars q.0 f.0 in
      let r = checked k i clause named (giving q.0) chosen.from in
      subst (λ (x : GroundClause). residual_of true_said false_said x ≡ []) q.2
      (ends-gone clause (numbered-contains p.clauses k clause named) (giving q.0) (flat-holds (giving q.0) [] clause.body f.1) r r.last refl)))
