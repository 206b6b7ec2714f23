-- Parts of a text: the end, one more, or a stop.
use Rattle.std.proofs.Common.{◌≡◌, ℕ, zero, suc, ◌+◌, ◌-◌, ◌<◌, ◌≤◌, true, false, [], ◌∷◌, length, length-append, Ok, Err, refl, sym, ap, arith}
use Rattle.scasp_reader_terms.specs.declared.fault.Fault.{Fault}
use Rattle.scasp_reader_terms.specs.Steps.{State}
use Rattle.scasp_reader.specs.declared.texts.clauses.Part.{Part}
use Rattle.scasp_reader.specs.declared.texts.clauses.Part.TheVariants as part
use Rattle.scasp_reader.specs.declared.texts.texts.Parts.{Parts}
use Rattle.scasp_reader.specs.Texts.Texts.{next_part, no_parts, part_count, with_part, is_end, parts_within, parts}

-- one part adds at most one
pub part_count-more : (p : Parts) (q : Part) → part_count (with_part p q) ≤ part_count p + 1
part_count-more p (part.Clause c) = omega (arith, length-append p.clauses (c ∷ []))
part_count-more p (part.Query q) = omega (arith, length-append p.queries (q ∷ []))
part_count-more p (part.Abducible a) = omega (arith, length-append p.abducibles (a ∷ []))
part_count-more p part.Directive = omega arith
part_count-more p part.End = omega arith

module _ (n : ℕ) (some : 0 < n) (p : Parts) (s : State) where
  pub parts_last : (q : Part) (t : State) → next_part (part_count p) s ≡ Ok (q, t) → is_end q ≡ true → parts_within n p s ≡ Ok (p, t)
  parts_last q t h e = by n some
    where
      by : (m : ℕ) → 0 < m → parts_within m p s ≡ Ok (p, t)
      by zero k = absurd (omega arith)
      by (suc m) k = rw h (rw e refl)

  pub parts_more : (q : Part) (t : State) → next_part (part_count p) s ≡ Ok (q, t) → is_end q ≡ false → parts_within n p s ≡ parts_within (n - 1) (with_part p q) t
  parts_more q t h e = by n some
    where
      by : (m : ℕ) → 0 < m → parts_within m p s ≡ parts_within (m - 1) (with_part p q) t
      by zero k = absurd (omega arith)
      by (suc m) k = let i : suc m - 1 ≡ m = omega arith in rw h (rw e (ap (λ j. parts_within j (with_part p q) t) (sym i)))

  pub parts_stops : (fault : Fault) → next_part (part_count p) s ≡ Err fault → parts_within n p s ≡ Err fault
  parts_stops fault h = by n some
    where
      by : (m : ℕ) → 0 < m → parts_within m p s ≡ Err fault
      by zero k = absurd (omega arith)
      by (suc m) k = rw h refl

pub parts-is : (s : State) → parts s ≡ parts_within (length s.tokens) no_parts s
unfolding parts
parts-is s = refl
