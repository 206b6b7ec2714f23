-- Reducts by sets with the same atoms, and steps that end.
use Rattle.std.proofs.Common.{◌≡◌, ◌∙◌, ◌∷◌, ◌++◌, ℕ, zero, suc, ◌+◌, ◌-◌, ◌<◌, ◌≤◌, Bool, true, false, ◌&&◌, ◌||◌, not, nat_lt, cond, List, [], length, map, refl, ap, sym, arith, add-zero, add-suc, add-one, append_assoc}
use Rattle.std.specs.List.{filter, flat_map, list_any}
use Rattle.std.specs.Bool.{beq}
use Rattle.std.proofs.lemmas.Bool.{ltb-true, ltb-false}
use Rattle.scasp_closure.specs.Reading.{atoms_in}
use Rattle.scasp_closure.proofs.ReadingLemmas.{least-read}
use Rattle.scasp_syntax.specs.declared.atom.Atom.{Atom}
use Rattle.scasp_syntax.specs.declared.atom.Lit.{Lit}
use Rattle.scasp_model.specs.Atoms.{among, SameAtoms}
use Rattle.scasp_model.specs.Least.{least_model}
use Rattle.scasp_model.specs.Levelled.{is_lower, minus_by, next_plus, plus_steps, plus_model, read_lower, signed_model}
use Rattle.scasp_model.specs.Programs.{is_blocked, rules_for}
use Rattle.scasp_model.specs.Reduct.{reduced, reduct, rule_of}
use Rattle.scasp_model.specs.Stable.{is_true_in}
use Rattle.scasp_model.specs.declared.program.DefiniteRule.{DefiniteRule}
use Rattle.scasp_model.specs.declared.program.GroundClause.{GroundClause}
use Rattle.scasp_sound.proofs.StepLemmas.{steps-enough}
use Rattle.scasp_worklist.specs.Numbered.{IsLeast}
use Rattle.scasp_extend_levels.specs.Numbered.{StandAll, standing_of, reduct as numbered_reduct}
use Rattle.scasp_extend_levels.specs.Scenes.{Means, Scene, inside, read}
use Rattle.scasp_extend_levels.specs.Sets.{with_atoms}
use Rattle.scasp_extend_levels.specs.declared.numbered.NumberedClause.{NumberedClause}
use Rattle.scasp_extend_levels.specs.declared.standings.Standing.{Standing}
use Rattle.scasp_extend_levels.proofs.ReductLemmas.{reduct-read}
use Rattle.scasp_extend_levels.proofs.SetLemmas.{append-same, with_atoms-same}

blocked-same : (s t : List Atom) → SameAtoms s t → (body : List Lit) → is_blocked s body ≡ is_blocked t body
blocked-same s t e [] = refl
blocked-same s t e (l ∷ body) =
    ap (λ z. (not l.positive && z) || is_blocked s body) (e l.atom) ∙ ap (λ z. (not l.positive && among t l.atom) || z) (blocked-same s t e body)

-- the reduct asks only which atoms are in the set
pub reduct-same : (s t : List Atom) → SameAtoms s t → (g : List GroundClause) → reduct s g ≡ reduct t g
reduct-same s t e [] = refl
reduct-same s t e (c ∷ g) =
    ap (λ b. cond b [] (rule_of c.head c.body) ++ reduct s g) (blocked-same s t e c.body) ∙ ap (λ rs. reduced t c ++ rs) (reduct-same s t e g)

module _ (plus : Atom → Bool) (g : List GroundClause) where
  pub minus-same : (s t : List Atom) → SameAtoms s t → minus_by plus g s ≡ minus_by plus g t
  minus-same s t e = ap least_model (reduct-same s t e (rules_for (λ a. not (plus a)) g))

  pub next-same : (s t : List Atom) → SameAtoms s t → next_plus plus g s ≡ next_plus plus g t
  next-same s t e = ap (λ m. least_model (reduct m (rules_for plus g))) (minus-same s t e)

  -- where a step gives the same atoms, each later one does
  stays : (k : ℕ) → SameAtoms (plus_steps plus g k) (plus_steps plus g (suc k)) → (j : ℕ) → SameAtoms (plus_steps plus g k) (plus_steps plus g (k + j))
  stays k e zero a = ap (λ n. among (plus_steps plus g n) a) (sym (add-zero k))
  stays k e (suc j) a =
      e a ∙ ap (λ xs. among xs a) (next-same (plus_steps plus g k) (plus_steps plus g (k + j)) (stays k e j))
      ∙ ap (λ n. among (plus_steps plus g n) a) (sym (add-suc k j))

  -- the atoms so far are those of the model where the next ones are the same
  pub ended : (k : ℕ) (s next : List Atom) → SameAtoms s (plus_steps plus g k) → SameAtoms next (next_plus plus g s)
      → SameAtoms s next → SameAtoms s (plus_model plus g)
  ended k s next here step same a =
      let after : SameAtoms (plus_steps plus g k) (plus_steps plus g (suc k)) =
      λ b. sym (here b) ∙ same b ∙ step b ∙ ap (λ xs. among xs b) (next-same s (plus_steps plus g k) here) in
      let swapped : k + length g ≡ length g + k = omega arith in
      here a ∙ stays k after (length g) a ∙ ap (λ n. among (plus_steps plus g n) a) swapped ∙ steps-enough plus g k a

  pub goes-on : (k : ℕ) (s next : List Atom) → SameAtoms s (plus_steps plus g k) → SameAtoms next (next_plus plus g s)
      → SameAtoms next (plus_steps plus g (k + 1))
  goes-on k s next here step a =
      step a ∙ ap (λ xs. among xs a) (next-same s (plus_steps plus g k) here) ∙ ap (λ n. among (plus_steps plus g n) a) (sym (add-one k))

  -- after as many steps as rules all is there
  pub enough : (k : ℕ) (s : List Atom) → length g ≤ k → SameAtoms s (plus_steps plus g k) → SameAtoms s (plus_model plus g)
  enough k s h here a =
      let all : length g + (k - length g) ≡ k = omega (arith, h) in
      here a ∙ ap (λ n. among (plus_steps plus g n) a) (sym all) ∙ steps-enough plus g (k - length g) a

  -- the atoms of both signs behind those of lower levels
  pub both-signs : (m x y all : List Atom) → SameAtoms x (plus_model plus g) → SameAtoms y (minus_by plus g x)
      → all ≡ with_atoms (with_atoms m x) y → SameAtoms all (m ++ signed_model plus g)
  both-signs m x y all p q e a =
      let last : SameAtoms y (minus_by plus g (plus_model plus g)) = λ b. q b ∙ ap (λ xs. among xs b) (minus-same x (plus_model plus g) p) in
      ap (λ xs. among xs a) e
      ∙ with_atoms-same (with_atoms m x) y a
      ∙ append-same (with_atoms m x) y (m ++ x) y (with_atoms-same m x) (λ b. refl) a
      ∙ ap (λ xs. among xs a) (append_assoc m x y)
      ∙ append-same m (x ++ y) m (signed_model plus g) (λ b. refl) (append-same x y (plus_model plus g) (minus_by plus g (plus_model plus g)) p last) a

-- ---- rules over numbers

-- the sets are the same as far as the table goes
atoms-same : (f g : ℕ → Bool) (table : List Atom) → ((n : ℕ) → n < length table → f n ≡ g n) → atoms_in f table ≡ atoms_in g table
atoms-same f g [] e = refl
atoms-same f g (a ∷ table) e =
    let rest : atoms_in (λ n. f (suc n)) table ≡ atoms_in (λ n. g (suc n)) table =
    atoms-same (λ n. f (suc n)) (λ n. g (suc n)) table (λ n h. e (suc n) (omega (arith, h))) in
    λ j. cond (e 0 (omega arith) j) (a ∷ rest j) (rest j)

length-map : {A B : Type 0} (f : A → B) (xs : List A) → length (map f xs) ≡ length xs
length-map f [] = refl
length-map f (x ∷ xs) = ap suc (length-map f xs)

stand-length : (t : List Atom) (ns : List NumberedClause) (cs : List GroundClause) → StandAll t ns cs → length cs ≡ length ns
stand-length t [] [] s = refl
stand-length t [] (c ∷ cs) s = absurd s
stand-length t (n ∷ ns) [] s = absurd s
stand-length t (n ∷ ns) (c ∷ cs) s = ap suc (stand-length t ns cs s.2)

read-length : (level : Atom → ℕ) (n : ℕ) (m : List Atom) (cs : List GroundClause) → length (flat_map (read_lower level n m) cs) ≤ length cs
read-length level n m [] = omega arith
read-length level n m (c ∷ cs) = by (list_any (λ l. is_lower level n l && not (is_true_in m l)) c.body) (read-length level n m cs)
  where
    by : (b : Bool) → length (flat_map (read_lower level n m) cs) ≤ length cs
        → length (cond b [] (record { head = c.head; body = filter (λ l. not (is_lower level n l)) c.body } ∷ []) ++ flat_map (read_lower level n m) cs) ≤ suc (length cs)
    by true h = omega (arith, h)
    by false h = omega (arith, h)

pub not-apart : (b c : Bool) → not (beq b c) ≡ false → b ≡ c
not-apart true true e = refl
not-apart true false e = e
not-apart false true e = sym e
not-apart false false e = refl

-- one number more is the same in both sets
pub below-more : (f g : ℕ → Bool) (k : ℕ) → ((n : ℕ) → n < k → f n ≡ g n) → f k ≡ g k → (n : ℕ) → n < k + 1 → f n ≡ g n
below-more f g k e here n h = by (nat_lt n k) refl
  where
    by : (b : Bool) → nat_lt n k ≡ b → f n ≡ g n
    by true less = e n (ltb-true n k less)
    by false more = let same : n ≡ k = (let least = ltb-false n k more in omega (arith, h, least)) in ap f same ∙ here ∙ ap g (sym same)

module _ {st : List Standing} {rules : List NumberedClause} (w : Scene st rules) where
  pub minus-read : (set made : ℕ → Bool) → IsLeast (numbered_reduct st false set rules) made → Means w made (minus_by w.plus (read w) (inside w set))
  minus-read set made l =
      least-read w.table (numbered_reduct st false set rules) (reduct (inside w set) (rules_for (λ a. not (w.plus a)) (read w))) made w.distinct
      (reduct-read w set false) l

  pub next-read : (set minus made : ℕ → Bool) → Means w minus (minus_by w.plus (read w) (inside w set)) → IsLeast (numbered_reduct st true minus rules) made
      → Means w made (next_plus w.plus (read w) (inside w set))
  next-read set minus made m l a =
      least-read w.table (numbered_reduct st true minus rules) (reduct (inside w minus) (rules_for w.plus (read w))) made w.distinct (reduct-read w minus true) l a
      ∙ ap (λ (rs : List DefiniteRule). among (least_model rs) a) (reduct-same (inside w minus) (minus_by w.plus (read w) (inside w set)) m (rules_for w.plus (read w)))

  pub begins-empty : (made : ℕ → Bool) → IsLeast [] made → Means w made []
  begins-empty made l = least-read w.table [] [] made w.distinct tt l

  pub same-inside : (f g : ℕ → Bool) (count : ℕ) → count ≡ length st → ((n : ℕ) → n < count → f n ≡ g n) → SameAtoms (inside w f) (inside w g)
  same-inside f g count c e a =
      let long : length st ≡ length w.table = ap length w.standings ∙ length-map (standing_of w.level w.plus w.at w.below) w.table in
      ap (λ xs. among xs a) (atoms-same f g w.table (λ n h. e n (omega (arith, h, c, long))))

  pub few-read : length (read w) ≤ length rules
  few-read =
      let h = read-length w.level w.at w.below w.clauses in
      let e = stand-length w.table rules w.clauses w.stand in
      omega (arith, h, e)
