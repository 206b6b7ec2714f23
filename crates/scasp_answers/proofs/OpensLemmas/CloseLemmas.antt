-- Open lines are closed one by one.
use Rattle.std.proofs.Common.{◌≡◌, ◌≢◌, ◌∙◌, ℕ, ◌+◌, ◌<◌, ◌≤◌, Bool, true, false, List, [], ◌∷◌, ◌++◌, length, Option, None, Some, refl, sym, ap, arith, append-nil}
use Rattle.std.specs.Prelude.{◌==◌, ◌&&◌, if◌then◌else◌}
use Rattle.std.proofs.lemmas.Bool.{eq-eqb, ne_eqb}
use Rattle.scasp_cert.specs.Certificate.{Certificate}
use Rattle.scasp_answers.specs.Blocks.Open.{Open, Part, Closed, is_whole, with_top, parts_of, closed_from, closed_to}
use Rattle.scasp_answers.specs.Opens.View.{filled}

pub closes_here : (depth : ℕ) (opens : List Open) (c : Certificate) → length opens ≡ depth → closed_to depth opens c ≡ Some (record { opens = opens; block = c })
closes_here depth [] c h = rw (sym h) refl
closes_here depth (o ∷ []) c h = rw (sym h) refl
closes_here depth (o ∷ p ∷ opens) c h =
    let t : (depth == length opens + 2) ≡ true = eq-eqb depth (length opens + 2) (omega (arith, h)) in rw t refl

pub closes_none : (depth : ℕ) (opens : List Open) (c : Certificate) → opens ≡ [] → length opens ≢ depth → closed_to depth opens c ≡ None
closes_none depth opens c e n =
    let t : (depth == 0) ≡ false = ne_eqb depth 0 (λ z. n (ap length e ∙ sym z)) in
    ap (λ o. closed_to depth o c) e ∙ (rw t refl)

-- where the innermost line is left of those that are to be closed
pub closes_first : (depth : ℕ) (top : Open) (old new : List Open) (c : Certificate) → old ≡ top ∷ new → closed_to depth old c ≡ closed_from depth top new c
closes_first depth top old new c e = ap (λ o. closed_to depth o c) e

not-whole : (depth : ℕ) (top : Open) (opens : List Open) (c : Certificate) → depth ≢ length opens + 1 → is_whole top ≡ false → closed_from depth top opens c ≡ None
not-whole depth top [] c n w =
    let t : (depth == 1) ≡ false = ne_eqb depth 1 n in rw (t, w) (by (depth == 0) (Some (record { opens = []; block = with_top top c })))
  where
    by : (b : Bool) (x : Option Closed) → (if b && false then x else None) ≡ None
    by true x = refl
    by false x = refl
not-whole depth top (o ∷ opens) c n w =
    let t : (depth == length opens + 2) ≡ false = ne_eqb depth (length opens + 2) (λ e. n (omega (arith, e))) in rw (t, w) refl

pub not_whole : (depth : ℕ) (top : Open) (opens : List Open) (c : Certificate) → is_whole top ≡ false → depth ≢ length opens + 1 → closed_from depth top opens c ≡ None
not_whole depth top opens c w n = not-whole depth top opens c n w

-- the last line is closed
pub closes_last : (depth : ℕ) (top : Open) (opens : List Open) (c : Certificate) → is_whole top ≡ true → length opens ≡ 0 → depth ≡ 0
    → closed_from depth top opens c ≡ closed_to depth opens (with_top top c)
closes_last depth top [] c w e z = rw (z, w) refl
closes_last depth top (o ∷ opens) c w e z = absurd (omega (arith, e))

-- no line is open around it
pub closes_edge : (depth : ℕ) (top : Open) (opens : List Open) (c : Certificate) → length opens ≡ 0 → depth ≢ 0 → depth ≢ length opens + 1 → closed_from depth top opens c ≡ None
closes_edge depth top [] c e n m =
    let t : (depth == 0) ≡ false = ne_eqb depth 0 n in
    let u : (depth == 1) ≡ false = ne_eqb depth 1 m in
    rw (u, t) refl
closes_edge depth top (o ∷ opens) c e n m = absurd (omega (arith, e))

-- it becomes a part of the line around it
pub closes_into : (depth : ℕ) (top : Open) (old new : List Open) (c : Certificate) → is_whole top ≡ true → depth ≢ length old + 1 → 0 < length old
    → new ≡ filled old (parts_of top.line top.parts) → closed_from depth top old c ≡ closed_to depth new c
closes_into depth top [] new c w n h e = absurd (omega (arith, h))
closes_into depth top (o ∷ around) new c w n h e =
    let t : (depth == length around + 2) ≡ false = ne_eqb depth (length around + 2) (λ z. n (omega (arith, z))) in
    let into : closed_from depth top (o ∷ around) c ≡ closed_to depth (filled (o ∷ around) (parts_of top.line top.parts)) c = rw (t, w) refl in
    into ∙ ap (λ l. closed_to depth l c) (sym e)

pub filled_none : (opens : List Open) (ps : List Part) → [] ≡ ps → opens ≡ filled opens ps
filled_none [] ps e = refl
filled_none (o ∷ opens) ps e = ap (λ l. record { line = o.line; parts = l } ∷ opens) (sym (append-nil o.parts) ∙ ap (λ l. o.parts ++ l) e)

pub no_more : (old new : List Open) (ps : List Part) → new ≡ filled old ps → length new ≤ length old
no_more [] new ps e = omega (arith, ap length e)
no_more (o ∷ old) new ps e = omega (arith, ap length e)
