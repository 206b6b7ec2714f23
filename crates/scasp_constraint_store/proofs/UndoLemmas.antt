-- Changes that are taken back.
use Rattle.std.proofs.Common.{◌≡◌, ℕ, suc, ◌<◌, ◌≤◌, ◌-◌, ◌+◌, List, [], ◌∷◌, ◌++◌, length, reverse, take, drop, subst, refl, sym, ap, ◌∙◌, arith}
use Rattle.std.proofs.Math.Seq.{drop-append_seam}
use Rattle.std.proofs.lemmas.List.{drop_all, length-append, length-reverse, length-take, length-take-le, reverse-append}
use Rattle.scasp_list.specs.Each.{Each}
use Rattle.scasp_bind.specs.Kept.{Kept, Continues, all_taken_back, variables_at}
use Rattle.scasp_bind.specs.declared.variable.Variable.{Variable}
use Rattle.scasp_syntax.specs.declared.con.Con.{Con}
use Rattle.scasp_constraint_store.specs.Held.{Content, Held, after, times, times_at}
use Rattle.scasp_constraint_store.specs.Inside.Undoing.{CanUndo, IsKept, IsKnown, befores, held, list_without}
use Rattle.scasp_constraint_store.specs.declared.change.Change.{Change}
use Rattle.scasp_constraint_store.specs.declared.change.ListChange.{ListChange}

-- ---- times

now : (s : Kept) → variables_at (length s.changes) s ≡ s.variables
now s = ap (λ cs. all_taken_back cs s.variables) (drop_all (length s.changes) s.changes (omega arith))

longer : (k j : Kept) → Continues k j → length k.changes ≤ length j.changes
longer k j f = omega (arith, ap length f.changes, length-take (length k.changes) j.changes)

befores-same : (k j : Kept) (n : ℕ) (hs : List Change) (cs : List Con) → CanUndo n hs → ((t : ℕ) → t ≤ n → variables_at t j ≡ variables_at t k) → befores j cs hs ≡ befores k cs hs
befores-same k j n [] cs u f = refl
befores-same k j n (c ∷ hs) cs u f =
    let rest = befores-same k j c.before hs (list_without c.list cs) u.1 (λ t h. f t (omega (arith, h, u.0))) in
    rw (f c.before u.0, rest) refl

noted : (changes : List Change) (c : Change) → reverse (changes ++ c ∷ []) ≡ c ∷ reverse changes
noted changes c = reverse-append changes (c ∷ [])

pub count : (k : Kept) (cs : List Con) (hs : List Change) → length (befores k cs hs) ≡ length hs
count k cs [] = refl
count k cs (c ∷ hs) = ap suc (count k (list_without c.list cs) hs)

pub changed-count : (k : Kept) (cs : List Con) (changes : List Change) → length (befores k cs (reverse changes)) ≡ length changes
changed-count k cs changes = count k cs (reverse changes) ∙ length-reverse changes

-- ---- one more change

abbrev pub change_at : Kept → ListChange → Change
change_at k l = record { list = l; before = length k.changes }

abbrev pub content : Kept → List Con → Content
content k cs = record { variables = k.variables; list = cs }

after-change : (k j : Kept) (cs ds : List Con) (changes : List Change) (l : ListChange) → CanUndo (length k.changes) (reverse changes) → Continues k j → list_without l ds ≡ cs
    → held j ds (changes ++ change_at k l ∷ []) ≡ after (held k cs changes) (content j ds)
after-change k j cs ds changes l u f e =
    let same = befores-same k j (length k.changes) (reverse changes) cs u (λ t h. f.past t h) in
    let first : variables_at (length k.changes) j ≡ k.variables = f.past (length k.changes) (omega arith) ∙ now k in
    rw (noted changes (change_at k l), e, first, same) refl

pub pushed : (changes reserved items : List Change) (l : ListChange) (n m : ℕ) → items ≡ reserved ++ record { list = l; before = n } ∷ [] → reserved ≡ changes → n ≡ m
    → items ≡ changes ++ record { list = l; before = m } ∷ []
pushed changes reserved items l n m e f g =
    e ∙ ap (λ (cs : List Change). cs ++ record { list = l; before = n } ∷ []) f ∙ ap (λ (t : ℕ). changes ++ record { list = l; before = t } ∷ []) g

pub shown : (k j : Kept) (cs ds : List Con) (changes items : List Change) (l : ListChange) (s : Held) (new : Content) → items ≡ changes ++ change_at k l ∷ [] → held k cs changes ≡ s
    → IsKept k cs changes → Continues k j → list_without l ds ≡ cs → content j ds ≡ new → held j ds items ≡ after s new
shown k j cs ds changes items l s new e w h f g n =
    ap (held j ds) e ∙ after-change k j cs ds changes l h.can f g ∙ ap (λ (t : Held). after t (content j ds)) w ∙ ap (after s) n

pub kept : (k j : Kept) (cs ds : List Con) (changes items : List Change) (l : ListChange) → items ≡ changes ++ change_at k l ∷ [] → IsKept k cs changes → Continues k j → list_without l ds ≡ cs
    → IsKnown (content j ds) → IsKept j ds items
kept k j cs ds changes items l e h f g known = subst (IsKept j ds) (sym e) (record {
  can = rw (noted changes (change_at k l)) (longer k j f, h.can);
  known = subst (λ s. Each IsKnown (times s)) (sym (after-change k j cs ds changes l h.can f g)) (known, h.known);
})

-- ---- the latest change taken back

pub back : (k j : Kept) (cs ds : List Con) (changes rest : List Change) (c : Change) → changes ≡ rest ++ c ∷ [] → IsKept k cs changes
    → j.variables ≡ variables_at c.before k → j.changes ≡ take c.before k.changes → Continues j k → ds ≡ list_without c.list cs
    → ((held k cs changes).before ≡ times (held j ds rest)) × IsKept j ds rest
back k j cs ds changes rest c e h v w f l = (seen, record { can = subst (λ n. CanUndo n (reverse rest)) (sym size) can.1; known = subst (λ ts. Each IsKnown ts) seen h.known.1 })
  where
    order : reverse changes ≡ c ∷ reverse rest
    order = ap reverse e ∙ noted rest c

    can : CanUndo (length k.changes) (c ∷ reverse rest)
    can = subst (λ hs. CanUndo (length k.changes) hs) order h.can

    size : length j.changes ≡ c.before
    size = ap length w ∙ length-take-le c.before k.changes can.0

    same : (t : ℕ) → t ≤ c.before → variables_at t k ≡ variables_at t j
    same t m = f.past t (omega (arith, m, size))

    seen : (held k cs changes).before ≡ times (held j ds rest)
    seen =
        ap (befores k cs) order
        ∙ ap (λ (us : List Con). record { variables = variables_at c.before k; list = us } ∷ befores k us (reverse rest)) (sym l)
        ∙ ap (λ (vs : List Variable). record { variables = vs; list = ds } ∷ befores k ds (reverse rest)) (sym v)
        ∙ ap (λ (cs : List Content). content j ds ∷ cs) (befores-same j k c.before (reverse rest) ds can.1 same)

-- ---- going back to a mark

pub one_back : (m : ℕ) (s r : Held) → s.before ≡ times r → m < length s.before → times_at m s ≡ times_at m r
one_back m s r e h =
    let size : length s.before ≡ suc (length r.before) = ap length e in
    let more : length s.before - m ≡ suc (length r.before - m) = omega (arith, size, h) in
    rw (more, e) refl

pub at_now : (m : ℕ) (s : Held) → length s.before ≤ m → times_at m s ≡ times s
at_now m s h = let none : length s.before - m ≡ 0 = omega (arith, h) in rw none refl

pub given_back : (later : List Content) (s : Held) → drop (length (later ++ s.before) - length s.before) (later ++ times s) ≡ times s
given_back later s =
    let size : length (later ++ s.before) - length s.before ≡ length later = omega (arith, length-append later s.before) in
    rw size (drop-append_seam later (times s))
