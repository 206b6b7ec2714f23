-- The reduct over numbers stands for the reduct of the rules that the numbered ones stand for.
use Rattle.std.proofs.Common.{◌≡◌, ◌∷◌, ◌++◌, ◌∙◌, ℕ, zero, suc, Bool, true, false, ◌&&◌, ◌||◌, not, nat_lt, cond, List, [], map, slice_get, Option, None, Some, refl, sym, ap, subst}
use Rattle.std.specs.Prelude.{is_none}
use Rattle.std.specs.List.{filter, list_any, flat_map}
use Rattle.std.proofs.lemmas.Grind.{flat_map-append}
use Rattle.std.proofs.lemmas.List.Elements.{filter-append}
use Rattle.scasp_closure.specs.Reading.{Stand, StandFor, atoms_in}
use Rattle.std.proofs.lemmas.Bool.{true≢false, and_parts, cond-true, cond-false, cond_both, false_from_ne_true, not-true, or_from, or_left, or_parts, or_right}
use Rattle.scasp_syntax.proofs.SameLemmas.{atom_decided}
use Rattle.scasp_model.specs.Atoms.{among, are_distinct}
use Rattle.scasp_model.specs.Levelled.{is_lower, read_lower}
use Rattle.scasp_model.specs.Programs.{head_is, is_blocked, positive_atoms, rules_for}
use Rattle.scasp_model.specs.Reduct.{reduced as ground_reduced, reduct as ground_reduct, rule_of}
use Rattle.scasp_model.specs.Stable.{is_true_in}
use Rattle.scasp_model.specs.declared.program.DefiniteRule.{DefiniteRule}
use Rattle.scasp_model.specs.declared.program.GroundClause.{GroundClause}
use Rattle.scasp_syntax.specs.Same.{same_atom, same_bool}
use Rattle.scasp_syntax.specs.declared.atom.Atom.{Atom}
use Rattle.scasp_syntax.specs.declared.atom.Lit.{Lit}
use Rattle.scasp_worklist.specs.declared.numbered.NumberedRule.{NumberedRule}
use Rattle.scasp_extend_levels.specs.Numbered.{StandAll, StandBody, StandsHead, standing_of, standing_at, fails_by, fails, stays, numbers_left, body_left, rule_left, reduced, reduct}
use Rattle.scasp_extend_levels.specs.Scenes.{Scene, read}
use Rattle.scasp_extend_levels.specs.declared.numbered.NumberedClause.{NumberedClause}
use Rattle.scasp_extend_levels.specs.declared.numbered.NumberedLit.{NumberedLit}
use Rattle.scasp_extend_levels.specs.declared.standings.Standing.{Standing}

not-inside : (set : ℕ → Bool) (table : List Atom) (a : Atom) → among table a ≡ false → among (atoms_in set table) a ≡ false
not-inside set [] a n = refl
not-inside set (b ∷ table) a n =
    let rest : List Atom = atoms_in (λ k. set (suc k)) table in
    let p = or_parts (same_atom a b) (among table a) n in
    let none : among rest a ≡ false = not-inside (λ k. set (suc k)) table a p.1 in
    cond_both (set 0) (b ∷ rest) rest (λ z. among z a ≡ false) (λ i. or_from (same_atom a b) (among rest a) p.0 none) (λ i. none)

placed : (table : List Atom) (n : ℕ) (a : Atom) → slice_get table n ≡ Some a → among table a ≡ true
placed [] n a e = cc
placed (b ∷ table) zero a e = let same : b ≡ a = cc in or_left (same_atom a b) (among table a) ((atom_decided a b).1 (sym same))
placed (b ∷ table) (suc n) a e = or_right (same_atom a b) (among table a) (placed table n a e)

-- whether an atom is in a set is whether its number is
pub inside-is : (table : List Atom) (set : ℕ → Bool) (n : ℕ) (a : Atom) → are_distinct table ≡ true → slice_get table n ≡ Some a → among (atoms_in set table) a ≡ set n
inside-is [] set n a d e = cc
inside-is (b ∷ table) set zero a d e = by (set 0) refl
  where
    rest : List Atom
    rest = atoms_in (λ k. set (suc k)) table

    same : b ≡ a
    same = cc

    by : (i : Bool) → set 0 ≡ i → among (atoms_in set (b ∷ table)) a ≡ set 0
    by true i =
        ap (λ z. among z a) (cond-true (set 0) (b ∷ rest) rest i) ∙ or_left (same_atom a b) (among rest a) ((atom_decided a b).1 (sym same)) ∙ sym i
    by false i =
        let p = and_parts (not (among table b)) (are_distinct table) d in
        ap (λ z. among z a) (cond-false (set 0) (b ∷ rest) rest i)
        ∙ not-inside (λ k. set (suc k)) table a (ap (among table) (sym same) ∙ not-true (among table b) p.0) ∙ sym i
inside-is (b ∷ table) set (suc n) a d e =
    let rest : List Atom = atoms_in (λ k. set (suc k)) table in
    let p = and_parts (not (among table b)) (are_distinct table) d in
    let there : among table a ≡ true = placed table n a e in
    let apart : same_atom a b ≡ false =
    false_from_ne_true (same_atom a b) (λ h. true≢false (sym there ∙ ap (among table) ((atom_decided a b).0 h) ∙ not-true (among table b) p.0)) in
    let later : among rest a ≡ set (suc n) = inside-is table (λ k. set (suc k)) n a p.1 e in
    cond_both (set 0) (b ∷ rest) rest (λ z. among z a ≡ set (suc n)) (λ i. ap (λ z. z || among rest a) apart ∙ later) (λ i. later)

standing-is : (f : Atom → Standing) (table : List Atom) (n : ℕ) (a : Atom) → slice_get table n ≡ Some a → standing_at (map f table) n ≡ f a
standing-is f [] n a e = cc
standing-is f (b ∷ table) zero a e = let same : b ≡ a = cc in ap f same
standing-is f (b ∷ table) (suc n) a e = standing-is f table n a e

-- ---- one literal, by what is known

known-fails : (b p : Bool) → not (same_bool b p) ≡ not (cond p b (not b))
known-fails true true = refl
known-fails true false = refl
known-fails false true = refl
known-fails false false = refl

or-assoc : (a b c : Bool) → (a || (b || c)) ≡ ((a || b) || c)
or-assoc true b c = refl
or-assoc false b c = refl

or-swap : (a b c : Bool) → (a || (b || c)) ≡ (b || (a || c))
or-swap true true c = refl
or-swap true false c = refl
or-swap false b c = refl

StandFor-append : (t : List Atom) (ms ns : List NumberedRule) (rs qs : List DefiniteRule) → StandFor t ms rs → StandFor t ns qs → StandFor t (ms ++ ns) (rs ++ qs)
StandFor-append t [] ns [] qs s r = r
StandFor-append t [] ns (x ∷ rs) qs s r = absurd s
StandFor-append t (m ∷ ms) ns [] qs s r = absurd s
StandFor-append t (m ∷ ms) ns (x ∷ rs) qs s r = (s.0, s.1, StandFor-append t ms ns rs qs s.2 r)

module _ {st : List Standing} {rules : List NumberedClause} (w : Scene st rules) (set : ℕ → Bool) where
  abbrev lower : Lit → Bool
  lower l = is_lower w.level w.at l

  abbrev wrong : Lit → Bool
  wrong l = lower l && not (is_true_in w.below l)

  abbrev kept : List Lit → List Lit
  kept ls = filter (λ l. not (lower l)) ls

  abbrev here : List Atom
  here = atoms_in set w.table

  known-is : (n : ℕ) (a : Atom) → slice_get w.table n ≡ Some a → standing_at st n ≡ standing_of w.level w.plus w.at w.below a
  known-is n a e = ap (λ z. standing_at z n) w.standings ∙ standing-is (standing_of w.level w.plus w.at w.below) w.table n a e

  fails-one : (n : NumberedLit) (l : Lit) → n.positive ≡ l.positive → slice_get w.table n.atom ≡ Some l.atom
      → fails st set n ≡ fails_by (cond (nat_lt (w.level l.atom) w.at) (Some (among w.below l.atom)) None) l.positive (among here l.atom)
  fails-one n l p e =
      ap (λ (z : Standing). fails_by z.known n.positive (set n.atom)) (known-is n.atom l.atom e)
      ∙ (λ j. fails_by (cond (nat_lt (w.level l.atom) w.at) (Some (among w.below l.atom)) None) (p j) (sym (inside-is w.table set n.atom l.atom w.distinct e) j))

  fails-all : (ns : List NumberedLit) (ls : List Lit) → StandBody w.table ns ls → list_any (fails st set) ns ≡ (list_any wrong ls || is_blocked here (kept ls))
  fails-all [] [] s = refl
  fails-all [] (l ∷ ls) s = absurd s
  fails-all (n ∷ ns) [] s = absurd s
  fails-all (n ∷ ns) (l ∷ ls) s =
      ap (λ z. z || list_any (fails st set) ns) (fails-one n l s.0 s.1)
      ∙ ap (λ z. fails_by (cond (nat_lt (w.level l.atom) w.at) (Some (among w.below l.atom)) None) l.positive (among here l.atom) || z) (fails-all ns ls s.2)
      ∙ by (nat_lt (w.level l.atom) w.at)
    where
      by : (b : Bool)
          → (fails_by (cond b (Some (among w.below l.atom)) None) l.positive (among here l.atom) || (list_any wrong ls || is_blocked here (kept ls)))
          ≡ (((b && not (is_true_in w.below l)) || list_any wrong ls) || is_blocked here (cond (not b) (l ∷ kept ls) (kept ls)))
      by true =
          ap (λ z. z || (list_any wrong ls || is_blocked here (kept ls))) (known-fails (among w.below l.atom) l.positive)
          ∙ or-assoc (not (is_true_in w.below l)) (list_any wrong ls) (is_blocked here (kept ls))
      by false = or-swap (not l.positive && among here l.atom) (list_any wrong ls) (is_blocked here (kept ls))

  none-known : (b t : Bool) → is_none (cond b (Some t) None) ≡ not b
  none-known true t = refl
  none-known false t = refl

  stays-one : (n : NumberedLit) (l : Lit) → n.positive ≡ l.positive → slice_get w.table n.atom ≡ Some l.atom → stays st n ≡ (not (lower l) && l.positive)
  stays-one n l p e =
      ap (λ (z : Standing). is_none z.known && n.positive) (known-is n.atom l.atom e)
      ∙ (λ j. none-known (lower l) (among w.below l.atom) j && p j)

  left-all : (ns : List NumberedLit) (ls : List Lit) → StandBody w.table ns ls → Stand w.table (numbers_left st ns) (positive_atoms (kept ls))
  left-all [] [] s = tt
  left-all [] (l ∷ ls) s = absurd s
  left-all (n ∷ ns) [] s = absurd s
  left-all (n ∷ ns) (l ∷ ls) s =
      subst (λ (z : Bool). Stand w.table (cond z (n.atom ∷ []) [] ++ numbers_left st ns) (positive_atoms (kept (l ∷ ls))))
      (sym (stays-one n l s.0 s.1)) (by (lower l) l.positive refl (left-all ns ls s.2))
    where
      by : (b p : Bool) → l.positive ≡ p → Stand w.table (numbers_left st ns) (positive_atoms (kept ls))
          → Stand w.table (cond (not b && p) (n.atom ∷ []) [] ++ numbers_left st ns) (positive_atoms (cond (not b) (l ∷ kept ls) (kept ls)))
      by true p e r = r
      by false true e r =
          subst (λ (z : Bool). Stand w.table (n.atom ∷ numbers_left st ns) (map (λ (k : Lit). k.atom) (cond z (l ∷ filter (λ k. k.positive) (kept ls)) (filter (λ k. k.positive) (kept ls)))))
          (sym e) (s.1, r)
      by false false e r =
          subst (λ (z : Bool). Stand w.table (numbers_left st ns) (map (λ (k : Lit). k.atom) (cond z (l ∷ filter (λ k. k.positive) (kept ls)) (filter (λ k. k.positive) (kept ls)))))
          (sym e) r

  abbrev of_sign : Bool → Atom → Bool
  of_sign sign a = same_bool sign (w.plus a)

  -- one rule, whose head stands for this one
  reduced-read : (sign : Bool) (n : NumberedClause) (body : List Lit) (o : Option Atom) → StandsHead w.table n.head o → StandBody w.table n.body body
      → StandFor w.table (reduced st sign set n)
      (ground_reduct here (rules_for (of_sign sign) (cond (list_any wrong body) [] (record { head = o; body = kept body } ∷ []))))
  reduced-read sign n body None h s = absurd h
  reduced-read sign n body (Some a) h s =
      subst (λ (z : List NumberedRule). StandFor w.table z (ground_reduct here (rules_for (of_sign sign) (cond (list_any wrong body) [] (r ∷ [])))))
      (sym numbered)
      (three (of_sign sign a) (list_any wrong body) (is_blocked here (kept body)) refl refl)
    where
      r : GroundClause
      r = record { head = Some a; body = kept body }

      nums : List ℕ
      nums = numbers_left st n.body

      numbered : reduced st sign set n ≡ cond (of_sign sign a) (rule_left n.head (cond (list_any wrong body || is_blocked here (kept body)) None (Some nums))) []
      numbered =
          ap (λ (z : Standing). cond (same_bool sign z.plus) (rule_left n.head (body_left st set n.body)) []) (known-is n.head a h)
          ∙ ap (λ z. cond (of_sign sign a) (rule_left n.head (cond z None (Some nums))) []) (fails-all n.body body s)

      three : (t b k : Bool) → of_sign sign a ≡ t → is_blocked here (kept body) ≡ k
          → StandFor w.table (cond t (rule_left n.head (cond (b || k) None (Some nums))) []) (ground_reduct here (rules_for (of_sign sign) (cond b [] (r ∷ []))))
      three true true k e f = tt
      three false true k e f = tt
      three false false k e f = subst (λ (z : Bool). StandFor w.table [] (ground_reduct here (cond z (r ∷ []) []))) (sym e) tt
      three true false true e f =
          subst (λ (z : Bool). StandFor w.table [] (ground_reduct here (cond z (r ∷ []) []))) (sym e)
          (subst (λ (z : Bool). StandFor w.table [] (cond z [] (rule_of (Some a) (kept body)) ++ [])) (sym f) tt)
      three true false false e f =
          subst (λ (z : Bool). StandFor w.table (record { head = n.head; body = nums } ∷ []) (ground_reduct here (cond z (r ∷ []) []))) (sym e)
          (subst (λ (z : Bool). StandFor w.table (record { head = n.head; body = nums } ∷ []) (cond z [] (rule_of (Some a) (kept body)) ++ [])) (sym f)
          (h, left-all n.body body s, tt))

  all-read : (sign : Bool) (ns : List NumberedClause) (cs : List GroundClause) → StandAll w.table ns cs
      → StandFor w.table (reduct st sign set ns) (ground_reduct here (rules_for (of_sign sign) (flat_map (read_lower w.level w.at w.below) cs)))
  all-read sign [] [] s = tt
  all-read sign [] (c ∷ cs) s = absurd s
  all-read sign (n ∷ ns) [] s = absurd s
  all-read sign (n ∷ ns) (c ∷ cs) s =
      let one : List GroundClause = read_lower w.level w.at w.below c in
      let more : List GroundClause = flat_map (read_lower w.level w.at w.below) cs in
      let parts : ground_reduct here (rules_for (of_sign sign) (one ++ more)) ≡ ground_reduct here (rules_for (of_sign sign) one) ++ ground_reduct here (rules_for (of_sign sign) more) =
      ap (ground_reduct here) (filter-append (λ (k : GroundClause). head_is (of_sign sign) k.head) one more)
      ∙ flat_map-append (ground_reduced here) (rules_for (of_sign sign) one) (rules_for (of_sign sign) more) in
      subst (λ (z : List DefiniteRule). StandFor w.table (reduct st sign set (n ∷ ns)) z) (sym parts)
      (StandFor-append w.table (reduced st sign set n) (reduct st sign set ns) (ground_reduct here (rules_for (of_sign sign) one))
      (ground_reduct here (rules_for (of_sign sign) more)) (reduced-read sign n c.body c.head s.0 s.1) (all-read sign ns cs s.2))

  -- the reduct over numbers of the rules for atoms of a sign
  pub reduct-read : (sign : Bool) → StandFor w.table (reduct st sign set rules) (ground_reduct here (rules_for (of_sign sign) (read w)))
  reduct-read sign = all-read sign rules w.clauses w.stand
