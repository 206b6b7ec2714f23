-- The map of an analysis holds where denials and odd rules are covered.
use Rattle.std.proofs.Common.{◌≡◌, ◌∙◌, ◌∷◌, ◌⊎◌, ℕ, zero, suc, ◌+◌, Bool, true, false, ◌&&◌, ◌||◌, not, nat_eq, nat_lt, is_none, List, [], Option, Some, None, slice_get, refl, ap, sym, inl, inr, arith}
use Rattle.std.specs.List.{Contains, list_any, list_all}
use Rattle.std.proofs.lemmas.Bool.{cases_Bool, true≢false, false≢true, and_from, or_left, or_right, cond-true, cond-false}
use Rattle.std.proofs.lemmas.Bool.Decides.{Decides-eqb, Decides-ltb}
use Rattle.scasp_list.proofs.MemberLemmas.{Contains-cases, Contains-flat_map, Contains-here, Contains-none, Contains-there}
use Rattle.scasp_syntax.specs.Programs.{pred_of, body_preds}
use Rattle.scasp_syntax.specs.Same.{same_pred, same_bool}
use Rattle.scasp_syntax.specs.declared.atom.Atom.{Atom}
use Rattle.scasp_syntax.specs.declared.atom.Lit.{Lit}
use Rattle.scasp_syntax.specs.declared.atom.Pred.{Pred}
use Rattle.scasp_syntax.specs.declared.clause.Clause.{Clause}
use Rattle.scasp_syntax.specs.declared.clause.Item.{Item}
use Rattle.scasp_syntax.specs.declared.clause.Item.TheVariants.{Call, Equal, Differ, Linear}
use Rattle.scasp_syntax.specs.declared.predicate_map.PredMap.{PredMap}
use Rattle.scasp_syntax.specs.declared.program.Program.{Program}
use Rattle.scasp_graph.specs.Analyses.{IsAnalysis, is_checked, checked_from, checked}
use Rattle.scasp_graph.specs.Map.{entry_of, keeps_entry, keeps_item, keeps_below, keeps, faults_from, MapHolds}
use Rattle.scasp_graph.specs.OddRules.{IsOddRule}
use Rattle.scasp_graph.specs.Walks.{Walk, Dependency, item_dependencies, Depends}
use Rattle.scasp_graph.specs.declared.analysis.Analysis.{Analysis}
use Rattle.scasp_graph.proofs.MapLemmas.{faults-cons}
use Rattle.scasp_graph.proofs.NumberingLemmas.{Contains-from_get, among, clause-depends}
use Rattle.scasp_graph.proofs.PredLemmas.{pred_same}

-- signs that follow a literal keep the map
kept-sign : (positive p q : Bool) → q ≡ not (same_bool (not positive) p) → same_bool positive (same_bool p q) ≡ true
kept-sign true true q e = e
kept-sign true false q e = ap not e
kept-sign false true q e = ap not e
kept-sign false false q e = ap (λ z. not (not z)) e

call-among : (body : List Item) (l : Lit) → Contains body (Call l) → among (body_preds body) (pred_of l.atom) ≡ true
call-among [] l h = absurd (Contains-none (Call l) h)
call-among (item ∷ items) l h = by item (Contains-cases item items (Call l) h) (λ i. call-among items l i)
  where
    by : (first : Item) → (first ≡ Call l) ⊎ Contains items (Call l) → (Contains items (Call l) → among (body_preds items) (pred_of l.atom) ≡ true) → among (body_preds (first ∷ items)) (pred_of l.atom) ≡ true
    by (Call k) (inl e) rest =
        let s : k ≡ l = cc in
        ap (λ (z : Lit). among (pred_of z.atom ∷ body_preds items) (pred_of l.atom)) s ∙ or_left (same_pred (pred_of l.atom) (pred_of l.atom)) (among (body_preds items) (pred_of l.atom)) (pred_same (pred_of l.atom))
    by (Call k) (inr i) rest = or_right (same_pred (pred_of l.atom) (pred_of k.atom)) (among (body_preds items) (pred_of l.atom)) (rest i)
    by (Equal t s) (inl e) rest = cc
    by (Equal t s) (inr i) rest = rest i
    by (Differ t s) (inl e) rest = cc
    by (Differ t s) (inr i) rest = rest i
    by (Linear k) (inl e) rest = cc
    by (Linear k) (inr i) rest = rest i

-- a body keeps the map where each literal does
body-keeps : (entries : List PredMap) (p : Pred) (body : List Item) → ((l : Lit) → Contains body (Call l) → keeps_entry (entry_of entries p) l.positive (entry_of entries (pred_of l.atom)) ≡ true) → list_all (keeps_item entries p) body ≡ true
body-keeps entries p [] h = refl
body-keeps entries p (Call l ∷ items) h =
    and_from (keeps_item entries p (Call l)) (list_all (keeps_item entries p) items) (h l (Contains-here (Call l) items))
    (body-keeps entries p items (λ k i. h k (Contains-there (Call l) items (Call k) i)))
body-keeps entries p (Equal t s ∷ items) h = body-keeps entries p items (λ k i. h k (Contains-there (Equal t s) items (Call k) i))
body-keeps entries p (Differ t s ∷ items) h = body-keeps entries p items (λ k i. h k (Contains-there (Differ t s) items (Call k) i))
body-keeps entries p (Linear l ∷ items) h = body-keeps entries p items (λ k i. h k (Contains-there (Linear l) items (Call k) i))

-- a rule that is not odd keeps the map
rule-keeps : (program : Program) (a : Analysis) → IsAnalysis program a → (i : ℕ) (c : Clause) (head : Atom) → slice_get program.clauses i ≡ Some c → c.head ≡ Some head → list_any (nat_eq (suc i)) a.odd_rules ≡ false → list_all (keeps_item a.map (pred_of head)) c.body ≡ true
rule-keeps program a is i c head s e even = body-keeps a.map (pred_of head) c.body literal
  where
    p : Pred
    p = pred_of head

    literal : (l : Lit) → Contains c.body (Call l) → keeps_entry (entry_of a.map (pred_of head)) l.positive (entry_of a.map (pred_of l.atom)) ≡ true
    literal l h =
        let d : Dependency = record { from = pred_of head; to = pred_of l.atom; negated = not l.positive } in
        let edge : Depends program (pred_of head) (not l.positive) (pred_of l.atom) =
        clause-depends program c head d (Contains-from_get program.clauses i c s) e (Contains-flat_map (item_dependencies (pred_of head)) c.body (Call l) d h (Contains-here d [])) in
        let head-entry : PredMap = entry_of a.map (pred_of head) in
        let body-entry : PredMap = entry_of a.map (pred_of l.atom) in
        elim (is.right.falls (pred_of head) (pred_of l.atom) (not l.positive) edge) [
          | inr lower ↦
              or_left (nat_lt (entry_of a.map (pred_of l.atom)).level (entry_of a.map (pred_of head)).level)
              (nat_eq (entry_of a.map (pred_of l.atom)).level (entry_of a.map (pred_of head)).level && same_bool l.positive (same_bool (entry_of a.map (pred_of head)).plus (entry_of a.map (pred_of l.atom)).plus))
              ((Decides-ltb (entry_of a.map (pred_of l.atom)).level (entry_of a.map (pred_of head)).level).1 lower)
          | inl same ↦
              (let never = λ (w : Walk (Depends program) (pred_of head) (pred_of head) true).
              (let odd : IsOddRule program (suc i) = record {
                rule = c;
                stands = s;
                head = head;
                head_is = e;
                below = pred_of l.atom;
                in_body = call-among c.body l h;
                back = same.0;
                odd = w;
              } in
              false≢true (sym even ∙ (is.odd.exactly (suc i)).1 odd)) in
              let sign = is.right.signs (pred_of head) (pred_of l.atom) (not l.positive) edge same.0 never in
              or_right (nat_lt (entry_of a.map (pred_of l.atom)).level (entry_of a.map (pred_of head)).level)
              (nat_eq (entry_of a.map (pred_of l.atom)).level (entry_of a.map (pred_of head)).level && same_bool l.positive (same_bool (entry_of a.map (pred_of head)).plus (entry_of a.map (pred_of l.atom)).plus))
              (and_from (nat_eq (entry_of a.map (pred_of l.atom)).level (entry_of a.map (pred_of head)).level)
              (same_bool l.positive (same_bool (entry_of a.map (pred_of head)).plus (entry_of a.map (pred_of l.atom)).plus))
              ((Decides-eqb (entry_of a.map (pred_of l.atom)).level (entry_of a.map (pred_of head)).level).1 same.1)
              (kept-sign l.positive (entry_of a.map (pred_of head)).plus (entry_of a.map (pred_of l.atom)).plus sign)))
        ]

-- a clause that is to be checked is in the list of those
checked-listed : (odd : List ℕ) (n i : ℕ) (c : Clause) (cs : List Clause) → slice_get cs i ≡ Some c → is_checked odd (n + i) c ≡ true → list_any (nat_eq (n + i)) (checked_from odd n cs) ≡ true
checked-listed odd n i c [] s o = cc
checked-listed odd n zero c (x ∷ cs) s o =
    let e : x ≡ c = cc in
    let z : n + 0 ≡ n = omega arith in
    let t : is_checked odd n x ≡ true = ap (is_checked odd n) e ∙ ap (λ k. is_checked odd k c) (sym z) ∙ o in
    ap (list_any (nat_eq (n + 0))) (cond-true (is_checked odd n x) (n ∷ checked_from odd (n + 1) cs) (checked_from odd (n + 1) cs) t)
    ∙ or_left (nat_eq (n + 0) n) (list_any (nat_eq (n + 0)) (checked_from odd (n + 1) cs)) ((Decides-eqb (n + 0) n).1 z)
checked-listed odd n (suc i) c (x ∷ cs) s o =
    let z : (n + 1) + i ≡ n + suc i = omega arith in
    let r : list_any (nat_eq (n + suc i)) (checked_from odd (n + 1) cs) ≡ true =
    ap (λ k. list_any (nat_eq k) (checked_from odd (n + 1) cs)) (sym z)
    ∙ checked-listed odd (n + 1) i c cs s (ap (λ k. is_checked odd k c) z ∙ o) in
    by (is_checked odd n x) refl r
  where
    by : (b : Bool) → is_checked odd n x ≡ b → list_any (nat_eq (n + suc i)) (checked_from odd (n + 1) cs) ≡ true → list_any (nat_eq (n + suc i)) (checked_from odd n (x ∷ cs)) ≡ true
    by true e r =
        ap (list_any (nat_eq (n + suc i))) (cond-true (is_checked odd n x) (n ∷ checked_from odd (n + 1) cs) (checked_from odd (n + 1) cs) e)
        ∙ or_right (nat_eq (n + suc i) n) (list_any (nat_eq (n + suc i)) (checked_from odd (n + 1) cs)) r
    by false e r =
        ap (list_any (nat_eq (n + suc i))) (cond-false (is_checked odd n x) (n ∷ checked_from odd (n + 1) cs) (checked_from odd (n + 1) cs) e) ∙ r

clause-keeps : (program : Program) (a : Analysis) → IsAnalysis program a → (i : ℕ) (c : Clause) → slice_get program.clauses i ≡ Some c → keeps (checked program a.odd_rules) a.map (1 + i) c ≡ true
clause-keeps program a is i c s =
    elim (cases_Bool (is_checked a.odd_rules (1 + i) c)) [
      | inl t ↦ or_left (list_any (nat_eq (1 + i)) (checked program a.odd_rules)) (keeps_below a.map c.head c.body) (checked-listed a.odd_rules 1 i c program.clauses s t)
      | inr f ↦ or_right (list_any (nat_eq (1 + i)) (checked program a.odd_rules)) (keeps_below a.map c.head c.body) (by c.head refl f)
    ]
  where
    by : (h : Option Atom) → c.head ≡ h → (is_none h || list_any (nat_eq (1 + i)) a.odd_rules) ≡ false → keeps_below a.map h c.body ≡ true
    by None e f = absurd (true≢false f)
    by (Some head) e f =
        let z : 1 + i ≡ suc i = omega arith in
        rule-keeps program a is i c head s e (ap (λ k. list_any (nat_eq k) a.odd_rules) (sym z) ∙ f)

-- no clause breaks the map where each keeps it
no-faults : (covered : List ℕ) (entries : List PredMap) (n : ℕ) (cs : List Clause) → ((i : ℕ) (c : Clause) → slice_get cs i ≡ Some c → keeps covered entries (n + i) c ≡ true) → faults_from covered entries n cs ≡ []
no-faults covered entries n [] h = refl
no-faults covered entries n (c ∷ cs) h =
    let z : n + 0 ≡ n = omega arith in
    (faults-cons covered entries n c cs).1 (
      ap (λ k. keeps covered entries k c) (sym z) ∙ h 0 c refl,
      no-faults covered entries (n + 1) cs (λ i d s. let y : (n + 1) + i ≡ n + suc i = omega arith in ap (λ k. keeps covered entries k d) y ∙ h (suc i) d s),
    )

pub analysed-holds : (program : Program) (a : Analysis) → IsAnalysis program a → MapHolds program (checked program a.odd_rules) a.map
analysed-holds program a is = no-faults (checked program a.odd_rules) a.map 1 program.clauses (clause-keeps program a is)
