-- The end of a case, by whether a remainder waits.
use Rattle.std.specs.Prelude.{◌≡◌, ◌<◌, ◌-◌, ℕ, suc, Option, None, Some, List, [], ◌∷◌, ◌++◌, length, map, reverse, take, refl}
use Rattle.std.proofs.Common.{arith, ap, sym, subst, length-append, ◌∙◌}
use Rattle.std.proofs.lemmas.List.{reverse-append, reverse-reverse, take-append-le, take_all}
use Rattle.scasp_forall.specs.Covers.{first_of, next_in, on_last, resumed, resumed_by, universals_in}
use Rattle.scasp_readings.specs.Readings.{reading}
use Rattle.scasp_search_rules.specs.declared.states.covers.Cover.{Cover}
use Rattle.scasp_search_rules.specs.declared.states.covers.Remainder.{Remainder}
use Rattle.scasp_search_rules.specs.declared.states.lines.Line.{Line}
use Rattle.scasp_search_rules.specs.declared.states.lines.Line.TheVariants as line
use Rattle.scasp_search_rules.specs.declared.states.state.State.{State}
use Rattle.scasp_search_rules.specs.Successors.Cases.{ended_case, kept_literal, line_under, remaining, replaced_now, unbound}
use Rattle.scasp_search_state.specs.Words.{closed, next_case}
use Rattle.scasp_search_trail.proofs.LineLemmas.{one_more, turned, turned_none}
use Rattle.scasp_search_trail.specs.States.{Lists, first, lined, others, stands_for}
use Rattle.scasp_unify.specs.declared.bindings.Binding.{Binding}

-- ---- things as bindings alone read them

line_read : (s : State) (l : Line) → line_under (reading s.bound) l ≡ line_under s l
line_read s (line.Pos a k ts n) = refl
line_read s (line.Neg a n) = refl
line_read s (line.Loop l at) = refl
line_read s (line.Seen l at) = refl
line_read s (line.Test c) = refl
line_read s (line.Rule a k f) = refl
line_read s (line.Check k f) = refl
line_read s (line.Split c parts) = refl
line_read s line.Void = refl
line_read s (line.Leaf k) = refl
line_read s (line.Head n) = refl

lines_read : (s : State) (ls : List Line) → map (line_under (reading s.bound)) ls ≡ map (line_under s) ls
lines_read s [] = refl
lines_read s (l ∷ ls) = λ i. line_read s l i ∷ lines_read s ls i

replaced_read : (s : State) (o : Option Binding) → replaced_now (reading s.bound) o ≡ replaced_now s o
replaced_read s None = refl
replaced_read s (Some b) = refl

-- ---- the innermost cover

taken_last : (cs : List Cover) (c : Cover) (rs : List Cover) → reverse cs ≡ c ∷ rs → reverse (take (length cs - 1) cs) ≡ rs
taken_last cs c rs e =
    let d : cs ≡ reverse rs ++ c ∷ [] = turned cs c rs e in
    let n : length cs - 1 ≡ length (reverse rs) = omega (arith, ap length d, length-append (reverse rs) (c ∷ [])) in
    (λ i. reverse (take (n i) (d i))) ∙ ap reverse (take-append-le (length (reverse rs)) (reverse rs) (c ∷ []) (omega arith))
    ∙ ap reverse (take_all (length (reverse rs)) (reverse rs) (omega arith)) ∙ reverse-reverse rs

last_append : (f : Cover → Cover) (cs : List Cover) (c : Cover) → on_last f (cs ++ c ∷ []) ≡ cs ++ f c ∷ []
last_append f [] c = refl
last_append f (x ∷ []) c = refl
last_append f (x ∷ y ∷ cs) c = ap (λ (ds : List Cover). x ∷ ds) (last_append f (y ∷ cs) c)

changed_last : (f : Cover → Cover) (cs : List Cover) (c : Cover) (rs : List Cover) → reverse cs ≡ c ∷ rs → reverse (on_last f cs) ≡ f c ∷ rs
changed_last f cs c rs e =
    ap (λ (ds : List Cover). reverse (on_last f ds)) (turned cs c rs e) ∙ ap reverse (last_append f (reverse rs) c) ∙ reverse-append (reverse rs) (f c ∷ [])
    ∙ ap (λ (ds : List Cover). f c ∷ ds) (reverse-reverse rs)

-- ---- the end of a case

-- what the end of a case with these universal variables makes of the lists, where some stay bound and the covers are as they were
pub record Ended (l m : Lists) (us but : List ℕ) : Type 0 where
  pub made : m.made ≡ l.made
  pub bound : m.bound ≡ unbound us but l.bound
  pub given : m.given ≡ l.given
  pub literals : m.literals ≡ map (kept_literal (reading l.bound) us) l.literals
  pub lines : first (reverse m.pieces) ≡ first (others (reverse l.pieces)) ++ map (line_under (reading l.bound)) (first (reverse l.pieces))
  pub others : others (reverse m.pieces) ≡ others (others (reverse l.pieces))
  pub work : m.work ≡ l.work

first_none : (rs : List Remainder) → None ≡ first_of rs → rs ≡ []
first_none [] e = refl
first_none (r ∷ rs) e = absurd (cc e)

abbrev later : List Remainder → List Remainder
later [] = []
later (r ∷ rs) = rs

first_some : (rs : List Remainder) (r : Remainder) → Some r ≡ first_of rs → rs ≡ r ∷ later rs
first_some [] r e = absurd (cc e)
first_some (q ∷ rs) r e = let p : q ≡ r = cc e in ap (λ (x : Remainder). x ∷ rs) p

-- ---- the end of a cover

gone : (k : ℕ) (l m : Lists) (c : Cover) (cs : List Cover) → reverse l.covers ≡ c ∷ cs → c.waiting ≡ [] → Ended l m c.universals [] → m.covers ≡ take (length l.covers - 1) l.covers
    → stands_for k m ≡ closed (stands_for k l) (stands_for k l).covers
gone k l m c cs e w h t =
    let s : State = stands_for k l in
    let ps : List (List Line) = others (reverse l.pieces) in
    let a : Cover = record c { before = first ps } in
    let left : reverse m.covers ≡ cs = ap reverse t ∙ taken_last l.covers c cs e in
    let told = h.lines ∙ ap (λ (ls : List Line). first ps ++ ls) (lines_read s (first (reverse l.pieces))) in
    let o = h.others in
    (λ i. record {
      made = h.made i;
      bound = h.bound i;
      given = h.given i;
      covers = lined (left i) (o i);
      cases = k;
      literals = h.literals i;
      lines = told i;
      work = h.work i;
    })
    ∙ sym (ap (λ (xs : List Cover). closed s (lined xs ps)) e ∙ ap (λ (rs : List Remainder). next_case s a (lined cs (others ps)) rs) w)

pub cover_gone : (k : ℕ) (l m : Lists) (us : List ℕ) → 0 < length l.covers → us ≡ universals_in (reverse l.covers) → None ≡ next_in (reverse l.covers) → Ended l m us []
    → m.covers ≡ take (length l.covers - 1) l.covers → stands_for k m ≡ closed (stands_for k l) (stands_for k l).covers
cover_gone k l m us z u n h t = by (reverse l.covers) refl u n
  where
    by : (cs : List Cover) → reverse l.covers ≡ cs → us ≡ universals_in cs → None ≡ next_in cs → stands_for k m ≡ closed (stands_for k l) (stands_for k l).covers
    by [] e v w = absurd (omega (arith, z, ap length (turned_none l.covers e)))
    by (c ∷ cs) e v w = gone k l m c cs e (first_none c.waiting w) (subst (λ (xs : List ℕ). Ended l m xs []) v h) t

-- ---- the last remainder

-- what comes behind the end of the case where the remainder is taken up
pub record Resumed (k : ℕ) (l m n : Lists) (equation : Option Binding) : Type 0 where
  pub made : n.made ≡ m.made
  pub bound : n.bound ≡ m.bound ++ replaced_now (reading m.bound) equation
  pub given : n.given ≡ m.given
  pub covers : n.covers ≡ on_last (resumed k) l.covers
  pub literals : n.literals ≡ m.literals
  pub pieces : n.pieces ≡ m.pieces ++ [] ∷ []
  pub work : n.work ≡ m.work

taken : (k : ℕ) (l m n : Lists) (c : Cover) (cs : List Cover) (r : Remainder) (rs : List Remainder) → reverse l.covers ≡ c ∷ cs → c.waiting ≡ r ∷ rs → Ended l m c.universals r.replaced
    → Resumed k l m n r.equation → stands_for (suc k) n ≡ closed (stands_for k l) (stands_for k l).covers
taken k l m n c cs r rs e w h g =
    let s : State = stands_for k l in
    let ps : List (List Line) = others (reverse l.pieces) in
    let a : Cover = record c { before = first ps } in
    let t : State = ended_case s a r.replaced in
    let covers : reverse n.covers ≡ remaining c r rs k c.before ∷ cs =
    ap reverse g.covers ∙ changed_last (resumed k) l.covers c cs e ∙ ap (λ (qs : List Remainder). resumed_by k c qs ∷ cs) w in
    let told = h.lines ∙ ap (λ (ls : List Line). first ps ++ ls) (lines_read s (first (reverse l.pieces))) in
    let pieces : reverse n.pieces ≡ [] ∷ reverse m.pieces = ap reverse g.pieces ∙ one_more m.pieces [] in
    let o = h.others in
    let bound : n.bound ≡ t.bound ++ replaced_now t r.equation =
    g.bound ∙ ap (λ (bs : List Binding). bs ++ replaced_now (reading bs) r.equation) h.bound ∙ ap (λ (bs : List Binding). t.bound ++ bs) (replaced_read t r.equation) in
    (λ i. record {
      made = (g.made ∙ h.made) i;
      bound = bound i;
      given = (g.given ∙ h.given) i;
      covers = lined (covers i) (others (pieces i));
      cases = suc k;
      literals = (g.literals ∙ h.literals) i;
      lines = first (pieces i);
      work = (g.work ∙ h.work) i;
    })
    ∙ (λ i. record t {
      covers = record (remaining c r rs k c.before) { before = told i } ∷ lined cs (o i);
      cases = suc k;
      lines = [];
      bound = t.bound ++ replaced_now t r.equation;
    })
    ∙ sym (ap (λ (xs : List Cover). closed s (lined xs ps)) e ∙ ap (λ (qs : List Remainder). next_case s a (lined cs (others ps)) qs) w)

pub remainder_taken : (k : ℕ) (l m n : Lists) (us : List ℕ) (r : Remainder) → us ≡ universals_in (reverse l.covers) → Some r ≡ next_in (reverse l.covers) → Ended l m us r.replaced
    → Resumed k l m n r.equation → stands_for (suc k) n ≡ closed (stands_for k l) (stands_for k l).covers
remainder_taken k l m n us r u x h g = by (reverse l.covers) refl u x
  where
    by : (cs : List Cover) → reverse l.covers ≡ cs → us ≡ universals_in cs → Some r ≡ next_in cs → stands_for (suc k) n ≡ closed (stands_for k l) (stands_for k l).covers
    by [] e v w = absurd (cc w)
    by (c ∷ cs) e v w = taken k l m n c cs r (later c.waiting) e (first_some c.waiting r w) (subst (λ (xs : List ℕ). Ended l m xs r.replaced) v h) g

-- ---- no cover

pub none_closed : (s : State) (cs : List Cover) (ps : List (List Line)) → length cs ≡ 0 → s ≡ closed s (lined (reverse cs) ps)
none_closed s [] ps h = refl
none_closed s (c ∷ cs) ps h = absurd (omega (arith, h))
