-- Rules by the levels of their heads, with one rule more.
use Rattle.std.proofs.Common.{◌≡◌, ◌∙◌, ◌∷◌, ◌++◌, ℕ, nat_eq, Bool, true, false, cond, List, [], Option, None, Some, refl, ap, sym, subst, append-nil, arith}
use Rattle.std.specs.Ordering.{is_eq, nat_cmp}
use Rattle.std.proofs.lemmas.Bool.{cond-true, cond-false}
use Rattle.std.proofs.lemmas.Bool.Decides.{Decides-eqb, nat_tests}
use Rattle.std.proofs.lemmas.List.Elements.{filter-append}
use Rattle.scasp_graph.specs.Map.{entry_of}
use Rattle.scasp_model.specs.Programs.{head_is, rules_for}
use Rattle.scasp_model.specs.declared.program.GroundClause.{GroundClause}
use Rattle.scasp_sound.specs.MapLevels.{level_of}
use Rattle.scasp_syntax.specs.Programs.{pred_of}
use Rattle.scasp_syntax.specs.declared.atom.Atom.{Atom}
use Rattle.scasp_syntax.specs.declared.atom.Lit.{Lit}
use Rattle.scasp_syntax.specs.declared.atom.Pred.{Pred}
use Rattle.scasp_syntax.specs.declared.predicate_map.PredMap.{PredMap}
use Rattle.scasp_extend_levels.specs.Numbered.{StandAll}
use Rattle.scasp_extend_levels.specs.Sorted.{StandIn}
use Rattle.scasp_extend_levels.specs.declared.numbered.Level.{Level}
use Rattle.scasp_extend_levels.specs.declared.numbered.NumberedClause.{NumberedClause}

pub is_eq-nat : (x y : ℕ) → is_eq (nat_cmp x y) ≡ nat_eq x y
is_eq-nat x y = grind (arith, nat_tests)

rules_for-append : (test : Atom → Bool) (g h : List GroundClause) → rules_for test (g ++ h) ≡ rules_for test g ++ rules_for test h
rules_for-append test g h = filter-append (λ (c : GroundClause). head_is test c.head) g h

-- a level that is not there has no rules
pub in-none : (o : Option Level) (cs : List GroundClause) → o ≡ None → StandIn o cs → cs ≡ []
in-none None cs e s = s
in-none (Some l) cs e s = cc

pub in-some : (o : Option Level) (l : Level) (cs : List GroundClause) → o ≡ Some l → StandIn o cs → StandAll l.table l.rules cs
in-some None l cs e s = cc
in-some (Some k) l cs e s = let same : k ≡ l = cc in subst (λ (z : Level). StandAll z.table z.rules cs) same s

-- a level without rules
pub new-stands : (l : Level) (cs : List GroundClause) → l.rules ≡ [] → cs ≡ [] → StandAll l.table l.rules cs
new-stands l cs r e =
    subst (λ (z : List GroundClause). StandAll l.table l.rules z) (sym e) (subst (λ (z : List NumberedClause). StandAll l.table z []) (sym r) tt)

cond-append : (b : Bool) (xs ys : List GroundClause) → cond b (xs ++ ys) xs ≡ xs ++ cond b ys []
cond-append true xs ys = refl
cond-append false xs ys = sym (append-nil xs)

-- a rule more is put at one level
pub put-stands : (level : ℕ) (old mid new : ℕ → Option Level) (taken pushed : Level) (r : GroundClause)
    → ((cs : List GroundClause) → StandIn (old level) cs → StandAll taken.table taken.rules cs)
    → ((k : ℕ) → nat_eq level k ≡ false → mid k ≡ old k)
    → ((cs : List GroundClause) → StandAll taken.table taken.rules cs → StandAll pushed.table pushed.rules (cs ++ r ∷ []))
    → ((k : ℕ) → new k ≡ cond (is_eq (nat_cmp level k)) (Some pushed) (mid k))
    → (k : ℕ) (cs : List GroundClause) → StandIn (old k) cs → StandIn (new k) (cond (nat_eq level k) (cs ++ r ∷ []) cs)
put-stands level old mid new taken pushed r take others push puts k cs s = by (nat_eq level k) refl
  where
    by : (b : Bool) → nat_eq level k ≡ b → StandIn (new k) (cond (nat_eq level k) (cs ++ r ∷ []) cs)
    by true e =
        let same : level ≡ k = (Decides-eqb level k).0 e in
        let at : new k ≡ Some pushed = puts k ∙ cond-true (is_eq (nat_cmp level k)) (Some pushed) (mid k) (is_eq-nat level k ∙ e) in
        let here : StandAll pushed.table pushed.rules (cs ++ r ∷ []) = push cs (take cs (subst (λ n. StandIn (old n) cs) (sym same) s)) in
        subst (λ (z : Option Level). StandIn z (cond (nat_eq level k) (cs ++ r ∷ []) cs)) (sym at)
        (subst (λ (z : List GroundClause). StandAll pushed.table pushed.rules z) (sym (cond-true (nat_eq level k) (cs ++ r ∷ []) cs e)) here)
    by false e =
        let at : new k ≡ old k = puts k ∙ cond-false (is_eq (nat_cmp level k)) (Some pushed) (mid k) (is_eq-nat level k ∙ e) ∙ others k e in
        subst (λ (z : Option Level). StandIn z (cond (nat_eq level k) (cs ++ r ∷ []) cs)) (sym at)
        (subst (λ (z : List GroundClause). StandIn (old k) z) (sym (cond-false (nat_eq level k) (cs ++ r ∷ []) cs e)) s)

-- a rule more at the level of its head
pub sorted-more : (map : List PredMap) (entry : Pred → PredMap) (old new : ℕ → Option Level) (c : GroundClause) (a : Atom) (body : List Lit) (level : ℕ) (g : List GroundClause)
    → c ≡ record { head = Some a; body = body } → level ≡ (entry (pred_of a)).level → ((p : Pred) → entry p ≡ entry_of map p)
    → ((k : ℕ) (cs : List GroundClause) → StandIn (old k) cs → StandIn (new k) (cond (nat_eq level k) (cs ++ record { head = Some a; body = body } ∷ []) cs))
    → ((k : ℕ) → StandIn (old k) (rules_for (λ b. nat_eq (level_of map b) k) g))
    → (k : ℕ) → StandIn (new k) (rules_for (λ b. nat_eq (level_of map b) k) (g ++ c ∷ []))
sorted-more map entry old new c a body level g is l e put sorted k =
    let before : List GroundClause = rules_for (λ b. nat_eq (level_of map b) k) g in
    let r : GroundClause = record { head = Some a; body = body } in
    let at : level ≡ level_of map a = l ∙ ap (λ (m : PredMap). m.level) (e (pred_of a)) in
    subst (λ (z : List GroundClause). StandIn (new k) z)
    (ap (λ b. cond b (before ++ r ∷ []) before) (ap (λ n. nat_eq n k) at)
    ∙ cond-append (nat_eq (level_of map a) k) before (r ∷ [])
    ∙ sym (rules_for-append (λ b. nat_eq (level_of map b) k) g (r ∷ []))
    ∙ ap (λ (x : GroundClause). rules_for (λ b. nat_eq (level_of map b) k) (g ++ x ∷ [])) (sym is))
    (put k before (sorted k))

-- a denial is no rule
pub sorted-same : (test : Atom → Bool) (o : Option Level) (c : GroundClause) (g : List GroundClause) → c.head ≡ None
    → StandIn o (rules_for test g) → StandIn o (rules_for test (g ++ c ∷ []))
sorted-same test o c g e s =
    subst (λ (z : List GroundClause). StandIn o z)
    (sym (rules_for-append test g (c ∷ []) ∙ ap (λ b. rules_for test g ++ cond b (c ∷ []) []) (ap (head_is test) e) ∙ append-nil (rules_for test g))) s
