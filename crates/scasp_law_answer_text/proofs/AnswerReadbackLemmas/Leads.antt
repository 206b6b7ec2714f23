-- Where reading lines leads to.
use Rattle.std.proofs.Common.{◌≡◌, ◌∙◌, ℕ, ◌+◌, ◌≤◌, true, false, List, [], ◌∷◌, ◌++◌, length, Option, None, Some, refl, sym, ap, arith, append-nil, eq-eqb}
use Rattle.std.specs.Prelude.{◌==◌}
use Rattle.std.proofs.lemmas.Bool.{ne_eqb}
use Rattle.scasp_num.specs.Arithmetic.{◌>>=◌}
use Rattle.scasp_cert.specs.Certificate.{Certificate}
use Rattle.scasp_answers_terms.specs.Tokens.Lines.{Line}
use Rattle.scasp_answers.specs.Blocks.Blocks.{Placed, at}
use Rattle.scasp_answers.specs.Blocks.Open.{Part, Open, Closed, room_below, may_stand, is_whole, with_parts, parts_of, closed_to}
use Rattle.scasp_answers.specs.Blocks.States.{State, with_opens, opened, at_level, next_state}
use Rattle.scasp_law_answer_text.specs.AnswerReadback.Reading.{read_placed}

-- ---- lines one after the other

pub read-append : (s t : State) (ps qs : List Placed) → read_placed s ps ≡ Some t → read_placed s (ps ++ qs) ≡ read_placed t qs
read-append s t [] qs e = let same : s ≡ t = cc in ap (λ u. read_placed u qs) same
read-append s t (p ∷ ps) qs e = by (next_state s p) e (λ u h. read-append u t ps qs h)
  where
    by : (o : Option State) → (o >>= (λ u. read_placed u ps)) ≡ Some t → ((u : State) → read_placed u ps ≡ Some t → read_placed u (ps ++ qs) ≡ read_placed t qs)
        → (o >>= (λ u. read_placed u (ps ++ qs))) ≡ read_placed t qs
    by None h f = cc
    by (Some u) h f = f u h

pub read-cons : (s t : State) (p : Placed) (ps : List Placed) → next_state s p ≡ Some t → read_placed s (p ∷ ps) ≡ read_placed t ps
read-cons s t p ps e = ap (λ o. o >>= (λ u. read_placed u ps)) e

-- ---- open lines

-- Down to this depth the state's lines close as these do.
abbrev pub Like : ℕ → State → List Open → Certificate → Type 0
Like d s os c = (e : ℕ) → e ≤ d → closed_to e s.opens s.cert ≡ closed_to e os c

abbrev pub Leads : State → List Placed → ℕ → List Open → Certificate → Type 0
Leads s ps d os c = (t : State) × (read_placed s ps ≡ Some t) × Like d t os c × (t ≡ with_opens s t.opens t.cert)

pub closes-here : (depth : ℕ) (opens : List Open) (c : Certificate) → length opens ≡ depth → closed_to depth opens c ≡ Some (record { opens = opens; block = c })
closes-here depth [] c h = rw (sym h) refl
closes-here depth (o ∷ []) c h = rw (sym h) refl
closes-here depth (o ∷ p ∷ opens) c h =
    let e : depth ≡ length opens + 2 = omega (arith, h) in
    let t : (depth == length opens + 2) ≡ true = eq-eqb depth (length opens + 2) e in rw t refl

-- one line is closed
pub closed : (d : ℕ) (t : State) (x o : Open) (os : List Open) (c : Certificate) → length os + 1 ≡ d → is_whole x ≡ true → Like (d + 1) t (x ∷ o ∷ os) c
    → Like d t (with_parts o (parts_of x.line x.parts) ∷ os) c
closed d t x o os c h w l e k =
    let n : (e == length os + 2) ≡ false = ne_eqb e (length os + 2) (λ q. omega (arith, q, h, k)) in
    l e (omega (arith, k)) ∙ rw (n, w) refl

-- what becomes of the line, where the open lines close so
abbrev pub by_closed : State → Line → Option Closed → Option State
by_closed s l k = elim k [ None ↦ None | Some c ↦ at_level (with_opens s c.opens c.block) c.opens l ]

pub next-closed : (s : State) (d : ℕ) (l : Line) (k : Option Closed) → closed_to d s.opens s.cert ≡ k → next_state s (at d l) ≡ by_closed s l k
unfolding next_state
next-closed s d l k e = ap (by_closed s l) e

-- a line is opened below another one
pub opens : (d : ℕ) (s : State) (o : Open) (os : List Open) (c : Certificate) (l : Line) → length os + 1 ≡ d → may_stand (room_below o.line) (length o.parts) l ≡ true → Like d s (o ∷ os) c
    → next_state s (at d l) ≡ Some (with_opens s (opened l ∷ o ∷ os) c)
opens d s o os c l h m like =
    next-closed s d l (Some (record { opens = o ∷ os; block = c })) (like d (omega arith) ∙ closes-here d (o ∷ os) c (omega (arith, h))) ∙ rw m refl

-- ---- putting together

pub goes-on : (s : State) (ps qs : List Placed) (d e : ℕ) (os us : List Open) (c b : Certificate) → Leads s ps d os c → ((t : State) → Like d t os c → Leads t qs e us b) → Leads s (ps ++ qs) e us b
goes-on s ps qs d e os us c b m f =
    let n = f m.0 m.2 in
    (n.0, read-append s m.0 ps qs m.1 ∙ n.1, n.2, n.3 ∙ ap (λ t. with_opens t n.0.opens n.0.cert) m.3)

-- a line that is opened, and what stands below it
pub line-leads : (d : ℕ) (s : State) (o : Open) (os : List Open) (c : Certificate) (l : Line) (ps : List Placed) (parts : List Part) → length os + 1 ≡ d
    → may_stand (room_below o.line) (length o.parts) l ≡ true → is_whole (with_parts (opened l) parts) ≡ true → Like d s (o ∷ os) c
    → ((t : State) → Like (d + 1) t (opened l ∷ o ∷ os) c → Leads t ps (d + 1) (with_parts (opened l) parts ∷ o ∷ os) c)
    → Leads s (at d l ∷ ps) d (with_parts o (parts_of l parts) ∷ os) c
line-leads d s o os c l ps parts h m w like below =
    let t : State = with_opens s (opened l ∷ o ∷ os) c in
    let n = below t (λ e k. refl) in
    (n.0, read-cons s t (at d l) ps (opens d s o os c l h m like) ∙ n.1, closed d n.0 (with_parts (opened l) parts) o os c h w n.2, n.3)

-- nothing stands below it
pub last-leads : (d : ℕ) (t : State) (x : Open) (os : List Open) (c : Certificate) → Like (d + 1) t (x ∷ os) c → Leads t [] (d + 1) (with_parts x [] ∷ os) c
last-leads d t x os c like = (t, refl, (λ e k. like e k ∙ ap (λ ps. closed_to e (record x { parts = ps } ∷ os) c) (sym (append-nil x.parts))), refl)
