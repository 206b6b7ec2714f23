-- What holds of a line of an accepted certificate at its instances.
use Rattle.std.proofs.Common.{◌≡◌, ◌∙◌, ℕ, Bool, true, nat_lt, List, [], ◌∷◌, refl, subst}
use Rattle.std.specs.List.{Contains, list_all}
use Rattle.std.proofs.lemmas.Bool.{and_parts, and_from}
use Rattle.scasp_syntax.specs.Constraints.{holds}
use Rattle.scasp_syntax.specs.Values.{Sub, under}
use Rattle.scasp_syntax.specs.declared.con.Con.{Con}
use Rattle.scasp_syntax.specs.declared.hint.Hint.{Hint}
use Rattle.scasp_syntax.specs.declared.program.Program.{Program}
use Rattle.scasp_cert.specs.Certificate.{Certificate}
use Rattle.scasp_cert.specs.Trees.{Tree, test_tree, void}
use Rattle.scasp_lines.specs.Bodies.{Body}
use Rattle.scasp_lines.specs.Dues.{Due}
use Rattle.scasp_lines.specs.Known.{is_con_known}
use Rattle.scasp_lines.specs.Lines.{free_of, lines}
use Rattle.scasp_lines.specs.Opened.{Opened, IsInstance}
use Rattle.scasp_lines.specs.Places.{Place}
use Rattle.scasp_lines.specs.Said.{are_lines_known}
use Rattle.scasp_lines.specs.Scopes.{excludes_no_parts}
use Rattle.scasp_lines.specs.Surroundings.{Extends, Surrounded, NodeSurrounded, PartSurrounded}
use Rattle.scasp_lines.specs.Walk.{Part, of_node, of_rule, of_check, of_case, Line}
use Rattle.scasp_lines.proofs.FitLemmas.{lines-known}
use Rattle.scasp_lines.proofs.KnownLemmas.{agree-con}
use Rattle.scasp_lines.proofs.SurroundedLemmas.{lines-surrounded}
use Rattle.scasp_lines.proofs.WaysLemmas.{instance-before}
use Rattle.scasp_checker_rules.specs.Accepted.{LineHolds, PartHolds}
use Rattle.scasp_checker_rules.specs.Faults.{is_free}
use Rattle.scasp_checker_rules.specs.Normality.{LineNormal, on_part}
use Rattle.scasp_checker_rules.specs.Wholes.{whole_of}
use Rattle.scasp_checker_rules.proofs.HintLemmas.{no-instance, test-holds}
use Rattle.scasp_checker_rules.proofs.NormalityLemmas.{opened-normal}
use Rattle.scasp_checker_rules.proofs.ScopeLemmas.{scoped}
use Rattle.scasp_hint.specs.AskedRows.{RowsNormal}
use Rattle.scasp_law_promise.specs.Premises.{Premises, IsAt}
use Rattle.scasp_unify.proofs.Members.{Each-member}

-- where two tests agree on what passes a third, what passes all passes all
all-agree : {A : Type 0} → (test f g : A → Bool) → ((x : A) → test x ≡ true → g x ≡ f x) → (xs : List A) → list_all test xs ≡ true → list_all f xs ≡ true → list_all g xs ≡ true
all-agree test f g a [] h k = refl
all-agree test f g a (x ∷ xs) h k =
    let p = and_parts (test x) (list_all test xs) h in
    let q = and_parts (f x) (list_all f xs) k in
    and_from (g x) (list_all g xs) (a x p.0 ∙ q.0) (all-agree test f g a xs p.1 q.1)

abbrev pub surrounded-by : (ls : List Line) (here : Place) (part : Part) → PartSurrounded ls here part → Surrounded ls here
surrounded-by ls here (of_node due t) s = s.surrounded
surrounded-by ls here (of_rule k a b) s = s.surrounded
surrounded-by ls here (of_check k b) s = s.surrounded
surrounded-by ls here (of_case body b) s = s.surrounded

module _ (b : Bool) (p : Program) (c : Certificate) (m : Premises b p c) where
  pub known : are_lines_known p c ≡ true
  known = lines-known p c (scoped b p c m.accepted)

  pub holds-at : (l : Line) → Contains (lines p c) l → LineHolds (whole_of b p c) l
  holds-at l i = Each-member (LineHolds (whole_of b p c)) (lines p c) l m.accepted.lines_hold i

  pub part-holds : (l : Line) (part : Part) → Contains (lines p c) l → l.part ≡ part → PartHolds (whole_of b p c) l part
  part-holds l part i e = subst (λ (x : Part). PartHolds (whole_of b p c) l x) e (holds-at l i)

  pub normal-at : (l : Line) → Contains (lines p c) l → LineNormal l
  normal-at l i = Each-member LineNormal (lines p c) l m.normal.lines_normal i

  pub node-surrounded : (l : Line) (due : Due) (t : Tree) → Contains (lines p c) l → l.part ≡ of_node due t → NodeSurrounded (lines p c) l.here
  node-surrounded l due t i e = subst (λ (x : Part). PartSurrounded (lines p c) l.here x) e (lines-surrounded p c l i)

  -- what is given holds
  pub given-holds : (v : Sub) → ((x : ℕ) → nat_lt x (free_of c) ≡ true → v x ≡ m.free.of x) → list_all (holds v) c.given ≡ true
  given-holds v same =
      all-agree (is_con_known (is_free c)) (holds m.free.of) (holds v) (λ x k. agree-con (is_free c) v m.free.of same x k) c.given
      m.accepted.given_known m.meets

  module _ (l : Line) (v : Sub) (at : IsAt b p c m l v) where
    -- a variable has the value of what it is replaced by
    pub replaced : (x : ℕ) → v x ≡ under v (l.here.replaced x)
    replaced = (surrounded-by (lines p c) l.here l.part (lines-surrounded p c l at.listed)).replaced m.domain v at.instance.met

    -- an instance of a line is one where less had opened
    pub at-before : (k : Line) → Contains (lines p c) k → Extends l.here.opened k.here.opened → IsAt b p c m k v
    at-before k i e =
        record {
          listed = i;
          instance = instance-before (free_of c) m.domain m.free.of e.more k.here.opened v
              (subst (λ (os : List Opened). IsInstance (free_of c) m.domain m.free.of os v) e.is at.instance);
          ground = at.ground;
        }

    -- the constraint of a test holds
    pub test-true : (due : Due) (k : Con) (h : Hint) → l.part ≡ of_node due (test_tree k h) → excludes_no_parts k ≡ true → holds v k ≡ true
    test-true due k h e x =
        let t = part-holds l (of_node due (test_tree k h)) at.listed e in
        test-holds c.given l.here.opened m.normal.given (opened-normal p c normal-at l at.listed) m.domain v at.ground (given-holds v at.instance.free_values) at.instance.met
        l.here.hidden k h (subst (λ (y : Part). RowsNormal (on_part y)) e (normal-at l at.listed)) x t.shown

    -- a case that is void has no instance
    pub void-never : (body : Body) (h : Hint) → l.part ≡ of_case body (void h) → ⊥
    void-never body h e =
        let t = part-holds l (of_case body (void h)) at.listed e in
        no-instance c.given l.here.opened m.normal.given (opened-normal p c normal-at l at.listed) m.domain v at.ground (given-holds v at.instance.free_values) at.instance.met h t
