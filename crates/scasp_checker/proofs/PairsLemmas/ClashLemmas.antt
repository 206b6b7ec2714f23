-- Clash lines by the smaller and the greater of their two lines.
use Rattle.std.proofs.Common.{◌≡◌, ◌∙◌, Bool, true, false, ◌&&◌, ◌||◌, ℕ, nat_eq, min, max, cond, if◌then◌else◌, Option, Some, refl, ap, arith}
use Rattle.std.specs.Borrow.{Bor}
use Rattle.std.specs.HashMap.{HashMap, get}
use Rattle.std.specs.Prelude.{option_copied}
use Rattle.std.proofs.lemmas.Bool.Decides.{nat_tests}
use Rattle.scasp_checker_rules.specs.Pairs.{is_clash_at}
use Rattle.scasp_cert.specs.declared.certificate.Clash.{Clash}
use Rattle.scasp_checker.specs.Pairs.Inside.Clashes.{clash_in, same_lines, with_clash}

two-lines : (a b i j : ℕ) → (nat_eq (min a b) (min i j) && nat_eq (max a b) (max i j)) ≡ ((nat_eq a i && nat_eq b j) || (nat_eq a j && nat_eq b i))
two-lines a b i j = grind (arith, nat_tests)

-- the keys of two lines are equal where the clash line is of these lines
pub key-clash : (k : Clash) (i j : ℕ) → same_lines (min k.first k.second, max k.first k.second) (min i j, max i j) ≡ is_clash_at i j k
key-clash k i j = two-lines k.first k.second i j

copied-cond : (b : Bool) (k : Bor Clash) (o : Option (Bor Clash)) → option_copied (cond b (Some k) o) ≡ (if b then Some k.now else option_copied o)
copied-cond true k o = refl
copied-cond false k o = refl

module _ {S : Type 0} where
  -- the map where the clash line was put in
  pub put-tells : (m n : HashMap (ℕ × ℕ) (Bor Clash) S) (k : Bor Clash) (smaller greater i j : ℕ)
      → smaller ≡ min k.now.first k.now.second → greater ≡ max k.now.first k.now.second
      → get same_lines n (min i j, max i j) ≡ cond (same_lines (smaller, greater) (min i j, max i j)) (Some k) (get same_lines m (min i j, max i j))
      → clash_in n i j ≡ with_clash k.now i j (clash_in m i j)
  put-tells m n k smaller greater i j s g e =
      ap option_copied e
      ∙ copied-cond (same_lines (smaller, greater) (min i j, max i j)) k (get same_lines m (min i j, max i j))
      ∙ ap (λ (b : Bool). if b then Some k.now else clash_in m i j) ((λ x. same_lines (s x, g x) (min i j, max i j)) ∙ key-clash k.now i j)
