-- The cover of a depth, with its lines.
use Rattle.std.specs.Prelude.{◌≡◌, ◌≢◌, ◌<◌, ◌≤◌, ◌+◌, ◌-◌, ℕ, zero, suc, nat_eq, Bool, true, false, if◌then◌else◌, ⊤, List, [], ◌∷◌, ◌++◌, length, map, reverse, refl}
use Rattle.std.proofs.Common.{arith, ap, sym, subst, ◌∙◌}
use Rattle.std.proofs.lemmas.Bool.Decides.{Decides-eqb}
use Rattle.std.proofs.lemmas.List.{length-reverse, reverse-reverse}
use Rattle.scasp_forall.proofs.ListLemmas.{map_reverse}
use Rattle.scasp_forall.specs.Covers.{AreNumbered, parted_alone}
use Rattle.scasp_search_rules.specs.declared.states.covers.Cover.{Cover}
use Rattle.scasp_search_rules.specs.declared.states.lines.Line.{Line}
use Rattle.scasp_search_rules.specs.declared.states.lines.Line.TheVariants as line
use Rattle.scasp_search_rules.specs.declared.states.outcomes.Parting.{Parting}
use Rattle.scasp_search_rules.specs.Successors.Splits.{at_depth, cover_parted}
use Rattle.scasp_search_trail.proofs.CoverLemmas.{lined_length}
use Rattle.scasp_search_trail.proofs.LineLemmas.{grown_others, others_length, turned_cons}
use Rattle.scasp_search_trail.specs.States.{lined, others}
use Rattle.scasp_told.specs.Pieces.{grown_at}
use Rattle.scasp_unify.specs.declared.bindings.Binding.{Binding}

-- ---- depths, the innermost first

abbrev AreDown : List Cover → Type 0
AreDown [] = ⊤
AreDown (c ∷ cs) = (c.depth ≡ suc (length cs)) × AreDown cs

numbered_last : (n : ℕ) (cs : List Cover) (c : Cover) → AreNumbered n (cs ++ c ∷ []) → AreNumbered n cs × (c.depth ≡ n + length cs)
numbered_last n [] c h = let e = h.0 in (tt, omega (arith, e))
numbered_last n (b ∷ cs) c h = let p = numbered_last (suc n) cs c h.1 in let e = p.1 in ((h.0, p.0), omega (arith, e))

down : (cs : List Cover) → AreNumbered 1 (reverse cs) → AreDown cs
down [] h = tt
down (c ∷ cs) h =
    let p = numbered_last 1 (reverse cs) c (subst (λ (xs : List Cover). AreNumbered 1 xs) (turned_cons c cs) h) in
    let e = p.1 in
    (omega (arith, e, length-reverse cs), down cs p.0)

are_down : (cs : List Cover) → AreNumbered 1 cs → AreDown (reverse cs)
are_down cs h = down (reverse cs) (subst (λ (xs : List Cover). AreNumbered 1 xs) (sym (reverse-reverse cs)) h)

down_lined : (cs : List Cover) (ps : List (List Line)) → AreDown cs → AreDown (lined cs ps)
down_lined [] ps h = tt
down_lined (c ∷ cs) ps h = (h.0 ∙ ap suc (sym (lined_length cs (others ps))), down_lined cs (others ps) h.1)

-- ---- no cover of the depth

not_same : (a b : ℕ) → (a ≡ b → ⊥) → nat_eq a b ≡ false
not_same a b n = by (nat_eq a b) refl
  where
    by : (t : Bool) → nat_eq a b ≡ t → t ≡ false
    by true e = absurd (n ((Decides-eqb a b).0 e))
    by false e = refl

outside : (d : ℕ) (f : Cover → Cover) (cs : List Cover) → AreDown cs → (0 < d → length cs < d) → at_depth d f cs ≡ cs
outside d f [] h o = refl
outside d f (c ∷ cs) h o =
    let differs : nat_eq c.depth d ≡ false = not_same c.depth d (λ e. let q = h.0 in let l = o (omega (arith, e, q)) in absurd (omega (arith, e, q, l))) in
    λ i. (if differs i then f c else c) ∷ outside d f cs h.1 (λ p. let l = o p in omega (arith, l)) i

-- ---- turned

depth_map : (d : ℕ) (f : Cover → Cover) (cs : List Cover) → at_depth d f cs ≡ map (λ (c : Cover). if nat_eq c.depth d then f c else c) cs
depth_map d f [] = refl
depth_map d f (c ∷ cs) = ap (λ (xs : List Cover). (if nat_eq c.depth d then f c else c) ∷ xs) (depth_map d f cs)

turned_depth : (d : ℕ) (f : Cover → Cover) (cs : List Cover) → reverse (at_depth d f cs) ≡ at_depth d f (reverse cs)
turned_depth d f cs =
    let g : Cover → Cover = λ c. if nat_eq c.depth d then f c else c in
    ap reverse (depth_map d f cs) ∙ sym (map_reverse g cs) ∙ sym (depth_map d f (reverse cs))

-- ---- no cover is parted

pub none_parted : (d : ℕ) (f g : Cover → Cover) (cs news : List Cover) (ps : List (List Line)) → AreNumbered 1 cs → (0 < d → length cs < d) → news ≡ at_depth d f cs
    → lined (reverse news) ps ≡ at_depth d g (lined (reverse cs) ps)
none_parted d f g cs news ps h o e =
    let down : AreDown (reverse cs) = are_down cs h in
    let stays : reverse news ≡ reverse cs = ap reverse e ∙ turned_depth d f cs ∙ outside d f (reverse cs) down (λ p. let l = o p in omega (arith, l, length-reverse cs)) in
    ap (λ (xs : List Cover). lined xs ps) stays
    ∙ sym (outside d g (lined (reverse cs) ps) (down_lined (reverse cs) ps down) (λ p. let l = o p in omega (arith, l, lined_length (reverse cs) ps, length-reverse cs)))

-- ---- one is

abbrev told_by : Parting → Line
told_by p = line.Split p.line (p.parts_here ++ p.parts_there)

parted_among : (p : Parting) (b : List Binding) (d : ℕ) (cs : List Cover) (ps : List (List Line)) → AreDown cs → 0 < d → d ≤ length cs → length cs ≡ length ps
    → lined (at_depth d (parted_alone p b) cs) (grown_at (length cs - d) (told_by p) ps) ≡ at_depth d (cover_parted p b) (lined cs ps)
parted_among p b d [] ps h z l q = absurd (omega (arith, z, l))
parted_among p b d (c ∷ cs) [] h z l q = absurd (omega (arith, q))
parted_among p b d (c ∷ cs) (x ∷ ps) h z l q = by (nat_eq c.depth d) refl (λ m. parted_among p b d cs ps h.1 z m (omega (arith, q)))
  where
    f : Cover → Cover
    f a = parted_alone p b a

    g : Cover → Cover
    g a = cover_parted p b a

    a : Cover
    a = record c { before = x }

    by : (t : Bool) → nat_eq c.depth d ≡ t
        → (d ≤ length cs → lined (at_depth d (parted_alone p b) cs) (grown_at (length cs - d) (told_by p) ps) ≡ at_depth d (cover_parted p b) (lined cs ps))
        → lined ((if t then f c else c) ∷ at_depth d f cs) (grown_at (length (c ∷ cs) - d) (told_by p) (x ∷ ps)) ≡ (if t then g a else a) ∷ at_depth d g (lined cs ps)
    by true e r =
        let same : c.depth ≡ d = (Decides-eqb c.depth d).0 e in
        let top = h.0 in
        let n : length (c ∷ cs) - d ≡ zero = omega (arith, same, top) in
        ap (λ (k : ℕ). lined (f c ∷ at_depth d f cs) (grown_at k (told_by p) (x ∷ ps))) n
        ∙ ap (λ (xs : List Cover). g a ∷ lined xs ps) (outside d f cs h.1 (λ m. omega (arith, same, top)))
        ∙ ap (λ (xs : List Cover). g a ∷ xs) (sym (outside d g (lined cs ps) (down_lined cs ps h.1) (λ m. omega (arith, same, top, lined_length cs ps))))
    by false e r =
        let top = h.0 in
        let differs : d ≢ suc (length cs) = λ u. absurd (cc ((Decides-eqb c.depth d).1 (omega (arith, u, top)), e)) in
        let m : d ≤ length cs = omega (arith, l, differs) in
        let n : length (c ∷ cs) - d ≡ suc (length cs - d) = omega (arith, m) in
        ap (λ (k : ℕ). lined (c ∷ at_depth d f cs) (grown_at k (told_by p) (x ∷ ps))) n ∙ ap (λ (xs : List Cover). a ∷ xs) (r m)

pub one_parted : (p : Parting) (b : List Binding) (d : ℕ) (cs news : List Cover) (ps pieces : List (List Line)) → AreNumbered 1 cs → 0 < d → d ≤ length cs → length ps ≡ length cs + 1
    → news ≡ at_depth d (parted_alone p b) cs → pieces ≡ grown_at (d - 1) (told_by p) ps
    → lined (reverse news) (others (reverse pieces)) ≡ at_depth d (cover_parted p b) (lined (reverse cs) (others (reverse ps)))
one_parted p b d cs news ps pieces h z l q e t =
    let j : ℕ = length cs - d in
    let n : suc (suc (d - 1)) + j ≡ length ps = omega (arith, z, l, q) in
    let grown : others (reverse pieces) ≡ grown_at j (told_by p) (others (reverse ps)) = ap (λ (xs : List (List Line)). others (reverse xs)) t ∙ grown_others (d - 1) j (told_by p) ps n in
    let covers : reverse news ≡ at_depth d (parted_alone p b) (reverse cs) = ap reverse e ∙ turned_depth d (parted_alone p b) cs in
    let same : j ≡ length (reverse cs) - d = omega (arith, length-reverse cs) in
    (λ i. lined (covers i) (grown i)) ∙ ap (λ (k : ℕ). lined (at_depth d (parted_alone p b) (reverse cs)) (grown_at k (told_by p) (others (reverse ps)))) same
    ∙ parted_among p b d (reverse cs) (others (reverse ps)) (are_down cs h) z (omega (arith, l, length-reverse cs)) (omega (arith, q, length-reverse cs, others_length ps))
