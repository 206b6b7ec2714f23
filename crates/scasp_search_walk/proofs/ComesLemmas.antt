-- The answers of one slice after the other.
use Rattle.std.specs.Prelude.{◌≡◌, ℕ, ◌+◌, ◌<◌, ◌≤◌, Option, None, Some, IsSome, List, [], ◌∷◌, ◌++◌, refl}
use Rattle.std.proofs.Common.{◌∙◌, ap, append_assoc, arith, sym}
use Rattle.scasp_search_constraints.specs.declared.assuming.step.SearchErr.{SearchErr}
use Rattle.scasp_search_rules.specs.Successors.Machine.{Machine, Outcome, answered, ended, spent}
use Rattle.scasp_search_walk.proofs.LaterLemmas.{allows-later, found-later, tells-later}
use Rattle.scasp_search_walk.proofs.ReachedLemmas.{reached-both, reached-none}
use Rattle.scasp_search_walk.specs.Slices.{Comes, Gives, Keeps, NeedsMore, stop_of}
use Rattle.scasp_search_walk.specs.Walks.{Reached, Tells}
use Rattle.scasp_search_walk.specs.declared.events.Advance.{Advance}
use Rattle.scasp_search_walk.specs.declared.events.Advance.TheVariants as advance

-- what needs more than a slice behind pauses needs more than they have together
needs-later : {S V : Type 0} (m : Machine S V) (budget calls middle held n : ℕ) (old between : List S) → Reached m budget old calls between middle → middle ≡ calls + held
    → NeedsMore m budget between middle n → NeedsMore m budget old calls (held + n)
needs-later m budget calls middle held n old between r e h found f =
    let g = found-later m budget calls middle old between found r f in
    let more : middle + n < g.0.calls = h g.0 g.1 in
    let same : g.0.calls ≡ found.calls = g.2 in
    by middle calls held n g.0.calls found.calls more e same
  where
    by : (middle calls held n a b : ℕ) → middle + n < a → middle ≡ calls + held → a ≡ b → calls + (held + n) < b
    by middle calls held n a b h e f = omega (arith, h, e, f)

in-slice : (after middle calls held n : ℕ) → after ≤ middle + n → middle ≡ calls + held → after ≤ calls + (held + n)
in-slice after middle calls held n h e = omega (arith, h, e)

-- an event, and nothing behind it yet
abbrev Told : {S V : Type 0} → Machine S V → ℕ → List S → ℕ → ℕ → Outcome V → List S → ℕ → Type 0
Told {S} m budget states calls most outcome new after =
    (k : ℕ) × (rest : List S) × Tells m budget states calls outcome k rest × (k ≤ calls + most) × (Reached m budget rest k new after × (after ≡ k + 0))

told : {S V : Type 0} (m : Machine S V) (budget calls middle held n after : ℕ) (old between new : List S) (outcome : Outcome V) → Reached m budget old calls between middle
    → middle ≡ calls + held → Tells m budget between middle outcome after new → after ≤ middle + n → Told m budget old calls (held + n) outcome new after
told m budget calls middle held n after old between new outcome r e g k =
    (after, new, tells-later m budget calls middle after old between new outcome r g, in-slice after middle calls held n k e, (reached-none m budget after new, omega arith))

one : {S A V : Type 0} (value : A → V) (m : Machine S V) (budget calls middle held n after : ℕ) (old between new : List S) (e : Advance A) → Reached m budget old calls between middle
    → middle ≡ calls + held → Gives value m budget between middle e new after → Keeps m budget between middle n e after → Comes value m budget old calls held (n ∷ []) (e ∷ []) new after
one value m budget calls middle held n after old between new (advance.Answer a) r e g k = told m budget calls middle held n after old between new (answered (value a)) r e g k
one value m budget calls middle held n after old between new advance.Paused r e g k =
    (needs-later m budget calls middle held n old between r e k.1, (reached-both m budget calls middle after old between new r g, omega (arith, e, k.0)))
one value m budget calls middle held n after old between new advance.Ended r e g k = told m budget calls middle held n after old between new ended r e g k
one value m budget calls middle held n after old between new advance.Spent r e g k = told m budget calls middle held n after old between new spent r e g k
one value m budget calls middle held n after old between new advance.Overflow r e g k = allows-later m budget calls middle old between r g
one value m budget calls middle held n after old between new advance.Memory r e g k = tt

-- the answer of one slice more
pub comes-more : {S A V : Type 0} (value : A → V) (m : Machine S V) (budget calls middle held n after : ℕ) (old between new : List S) (ns : List ℕ) (es : List (Advance A)) (e : Advance A)
    → Comes value m budget old calls held ns es between middle → Gives value m budget between middle e new after → Keeps m budget between middle n e after
    → Comes value m budget old calls held (ns ++ n ∷ []) (es ++ e ∷ []) new after
comes-more value m budget calls middle held n after old between new [] [] e h g k = one value m budget calls middle held n after old between new e h.0 h.1 g k
comes-more value m budget calls middle held n after old between new [] (f ∷ es) e h g k = absurd h
comes-more value m budget calls middle held n after old between new (i ∷ ns) [] e h g k = absurd h
comes-more value m budget calls middle held n after old between new (i ∷ ns) (advance.Answer a ∷ es) e h g k =
    (h.0, h.1, h.2, h.3, comes-more value m budget h.0 middle 0 n after h.1 between new ns es e h.4 g k)
comes-more value m budget calls middle held n after old between new (i ∷ ns) (advance.Paused ∷ es) e h g k =
    (h.0, comes-more value m budget calls middle (held + i) n after old between new ns es e h.1 g k)
comes-more value m budget calls middle held n after old between new (i ∷ ns) (advance.Ended ∷ es) e h g k =
    (h.0, h.1, h.2, h.3, comes-more value m budget h.0 middle 0 n after h.1 between new ns es e h.4 g k)
comes-more value m budget calls middle held n after old between new (i ∷ ns) (advance.Spent ∷ es) e h g k =
    (h.0, h.1, h.2, h.3, comes-more value m budget h.0 middle 0 n after h.1 between new ns es e h.4 g k)
comes-more value m budget calls middle held n after old between new (i ∷ ns) (advance.Overflow ∷ es) e h g k = h
comes-more value m budget calls middle held n after old between new (i ∷ ns) (advance.Memory ∷ es) e h g k = tt

-- an overflow, or want of memory, and whatever is answered behind it
cut : {S A V : Type 0} (value : A → V) (m : Machine S V) (budget calls middle held n after last : ℕ) (old between new end : List S) (e : Advance A) (ms : List ℕ) (fs : List (Advance A)) (x : SearchErr)
    → Reached m budget old calls between middle → Gives value m budget between middle e new after → stop_of e ≡ Some x → Comes value m budget old calls held (n ∷ ms) (e ∷ fs) end last
cut value m budget calls middle held n after last old between new end (advance.Answer a) ms fs x r g s = absurd (cc s)
cut value m budget calls middle held n after last old between new end advance.Paused ms fs x r g s = absurd (cc s)
cut value m budget calls middle held n after last old between new end advance.Ended ms fs x r g s = absurd (cc s)
cut value m budget calls middle held n after last old between new end advance.Spent ms fs x r g s = absurd (cc s)
cut value m budget calls middle held n after last old between new end advance.Overflow ms fs x r g s = allows-later m budget calls middle old between r g
cut value m budget calls middle held n after last old between new end advance.Memory ms fs x r g s = tt

pub comes-cut : {S A V : Type 0} (value : A → V) (m : Machine S V) (budget calls middle held n after last : ℕ) (old between new end : List S) (ns ms : List ℕ) (es fs : List (Advance A)) (e : Advance A) (x : SearchErr)
    → Comes value m budget old calls held ns es between middle → Gives value m budget between middle e new after → stop_of e ≡ Some x
    → Comes value m budget old calls held (ns ++ n ∷ ms) (es ++ e ∷ fs) end last
comes-cut value m budget calls middle held n after last old between new end [] ms [] fs e x h g s = cut value m budget calls middle held n after last old between new end e ms fs x h.0 g s
comes-cut value m budget calls middle held n after last old between new end [] ms (f ∷ es) fs e x h g s = absurd h
comes-cut value m budget calls middle held n after last old between new end (i ∷ ns) ms [] fs e x h g s = absurd h
comes-cut value m budget calls middle held n after last old between new end (i ∷ ns) ms (advance.Answer a ∷ es) fs e x h g s =
    (h.0, h.1, h.2, h.3, comes-cut value m budget h.0 middle 0 n after last h.1 between new end ns ms es fs e x h.4 g s)
comes-cut value m budget calls middle held n after last old between new end (i ∷ ns) ms (advance.Paused ∷ es) fs e x h g s =
    (h.0, comes-cut value m budget calls middle (held + i) n after last old between new end ns ms es fs e x h.1 g s)
comes-cut value m budget calls middle held n after last old between new end (i ∷ ns) ms (advance.Ended ∷ es) fs e x h g s =
    (h.0, h.1, h.2, h.3, comes-cut value m budget h.0 middle 0 n after last h.1 between new end ns ms es fs e x h.4 g s)
comes-cut value m budget calls middle held n after last old between new end (i ∷ ns) ms (advance.Spent ∷ es) fs e x h g s =
    (h.0, h.1, h.2, h.3, comes-cut value m budget h.0 middle 0 n after last h.1 between new end ns ms es fs e x h.4 g s)
comes-cut value m budget calls middle held n after last old between new end (i ∷ ns) ms (advance.Overflow ∷ es) fs e x h g s = h
comes-cut value m budget calls middle held n after last old between new end (i ∷ ns) ms (advance.Memory ∷ es) fs e x h g s = tt

-- ---- going on, or stopped

-- a search that goes on has gone on before
pub still-open : (old new : Option SearchErr) → (IsSome old → new ≡ old) → new ≡ None → old ≡ None
still-open None new h e = refl
still-open (Some x) new h e = sym (h refl) ∙ e

pub stop-in : (o : Option SearchErr) → IsSome o → (x : SearchErr) × (o ≡ Some x)
stop-in None h = absurd (cc h)
stop-in (Some x) h = (x, refl)

pub not-both : (o : Option SearchErr) → o ≡ None → IsSome o → ⊥
not-both None e s = absurd (cc s)
not-both (Some x) e s = absurd (cc e)

pub by-stop : (P : Type 0) (o : Option SearchErr) → (o ≡ None → P) → (IsSome o → P) → P
by-stop P None goes-on over = goes-on refl
by-stop P (Some x) goes-on over = over refl

pub one-more : {X : Type 0} (xs ys zs : List X) (x : X) → ys ≡ xs ++ x ∷ [] → xs ++ x ∷ zs ≡ ys ++ zs
one-more xs ys zs x e = sym (ap (λ l. l ++ zs) e ∙ append_assoc xs (x ∷ []) zs)
