-- What was read at an earlier state reads in the certificate as it did not.
use Rattle.std.specs.Prelude.{◌≡◌, ⊤, ℕ, suc, Bool, if◌then◌else◌, Some, List, [], ◌∷◌, map}
use Rattle.std.proofs.Common.{◌∙◌, refl, ap, sym}
use Rattle.scasp_lines.specs.Determined.{determined}
use Rattle.scasp_lines.specs.Openings.{equal}
use Rattle.scasp_list.specs.Each.{Each}
use Rattle.scasp_search_rules.specs.Successors.Cases.{line_under}
use Rattle.scasp_search_rules.specs.Successors.Numbering.{con_or, con_renamed, line_renamed, lit_renamed}
use Rattle.scasp_search_rules.specs.Successors.Reading.{con_under, term_under}
use Rattle.scasp_search_rules.specs.Successors.Trees.{Built, built, is_literal, literal_lines, put}
use Rattle.scasp_search_rules.specs.Successors.Variables.{meaning}
use Rattle.scasp_search_rules.specs.declared.states.lines.Line.{Line}
use Rattle.scasp_search_rules.specs.declared.states.lines.Line.TheVariants as line
use Rattle.scasp_search_rules.specs.declared.states.state.State.{State}
use Rattle.scasp_syntax.proofs.ValueLemmas.{under-under}
use Rattle.scasp_syntax.specs.Instances.{atom_under}
use Rattle.scasp_syntax.specs.Tm.{Tm, Tms, app, nil, num, var}
use Rattle.scasp_syntax.specs.Values.{Sub, all_under, under}
use Rattle.scasp_syntax.specs.View.{tm_of}
use Rattle.scasp_syntax.specs.declared.atom.Atom.{Atom}
use Rattle.scasp_syntax.specs.declared.atom.Lit.{Lit}
use Rattle.scasp_syntax.specs.declared.clause.FlatItem.{FlatItem}
use Rattle.scasp_syntax.specs.declared.clause.FlatItem.TheVariants as flat
use Rattle.scasp_syntax.specs.declared.con.Con.{Con}
use Rattle.scasp_syntax.specs.declared.con.Con.TheVariants as con
use Rattle.scasp_syntax.specs.declared.term.Term.{Term}
use Rattle.scasp_unify.proofs.SimpleLemmas.{viewed}
use Rattle.scasp_unify.specs.SimpleForm.{differ, simple}
use Rattle.scasp_law_headed_steps.specs.Calm.{IsLater}
use Rattle.scasp_law_headed.specs.Reading.{line_read, reading}

-- ---- what is told

-- an equation or a disequation
abbrev pub PlainTest : Con → Type 0
PlainTest (con.Eq t u) = ⊤
PlainTest (con.Neq t u) = ⊤
PlainTest (con.NotShape x f n) = ⊥
PlainTest (con.Num t) = ⊥
PlainTest (con.NotNum t) = ⊥
PlainTest (con.Row r) = ⊥

abbrev pub PlainItem : FlatItem → Type 0
PlainItem (flat.Call l) = ⊤
PlainItem (flat.Test c) = PlainTest c

abbrev pub PlainLine : Line → Type 0
PlainLine (line.Test c) = PlainTest c
PlainLine (line.Split c parts) = ⊥
PlainLine (line.Pos a k ts n) = ⊤
PlainLine (line.Neg a n) = ⊤
PlainLine (line.Loop l at) = ⊤
PlainLine (line.Seen l at) = ⊤
PlainLine (line.Rule a k first) = ⊤
PlainLine (line.Check k first) = ⊤
PlainLine line.Void = ⊤
PlainLine (line.Leaf k) = ⊤
PlainLine (line.Head n) = ⊤

abbrev args_of : Tm → Tms
args_of (var x) = nil
args_of (num q) = nil
args_of (app f ts) = ts

-- ---- of a substitution that has read what the earlier one reads

abbrev pub Absorbing : Sub → Sub → Type 0
Absorbing r w = (t : Tm) → under r (under w t) ≡ under r t

module _ (r w : Sub) (a : Absorbing r w) where
  pub args-absorbed : (ts : Tms) → all_under r (all_under w ts) ≡ all_under r ts
  args-absorbed ts = ap args_of (a (app 0 ts))

  pub atom-absorbed : (b : Atom) → atom_under r (atom_under w b) ≡ atom_under r b
  atom-absorbed b = ap (λ (ts : Tms). record { minus = b.minus; name = b.name; args = ts }) (args-absorbed b.args)

  pub lit-absorbed : (l : Lit) → lit_renamed r (lit_renamed w l) ≡ lit_renamed r l
  lit-absorbed l = ap (λ (b : Atom). record { positive = l.positive; atom = b }) (atom-absorbed l.atom)

  term-absorbed : (t : Term) → under r (tm_of (term_under w t)) ≡ under r (tm_of t)
  term-absorbed t = ap (under r) (viewed (under w (tm_of t))) ∙ a (tm_of t)

  pub test-absorbed : (c : Con) → PlainTest c → determined r (con_under w c) ≡ determined r c
  test-absorbed (con.Eq t u) h = λ i. Some (equal (term-absorbed t i) (term-absorbed u i))
  test-absorbed (con.Neq t u) h = λ i. Some (simple (differ (term-absorbed t i) (term-absorbed u i)))
  test-absorbed (con.NotShape x f n) h = absurd h
  test-absorbed (con.Num t) h = absurd h
  test-absorbed (con.NotNum t) h = absurd h
  test-absorbed (con.Row q) h = absurd h

  or-absorbed : (c : Con) → PlainTest c → con_renamed r (con_under w c) ≡ con_renamed r c
  or-absorbed (con.Eq t u) h = ap (con_or (con.Eq t u)) (test-absorbed (con.Eq t u) h)
  or-absorbed (con.Neq t u) h = ap (con_or (con.Neq t u)) (test-absorbed (con.Neq t u) h)
  or-absorbed (con.NotShape x f n) h = absurd h
  or-absorbed (con.Num t) h = absurd h
  or-absorbed (con.NotNum t) h = absurd h
  or-absorbed (con.Row q) h = absurd h

-- an earlier state, and any places
pub reading-absorbs : (s f : State) → IsLater s f → (v : Sub) → Absorbing (reading f v) (meaning s)
reading-absorbs s f h v t =
    sym (under-under v (meaning f) (under (meaning s) t)) ∙ ap (under v) (h.reads t) ∙ under-under v (meaning f) t

pub line-absorbed : (r : Sub) (s : State) → Absorbing r (meaning s) → (l : Line) → PlainLine l → line_read r (line_under s l) ≡ line_read r l
line-absorbed r s a (line.Pos b k ts n) h = λ i. line.Pos (atom-absorbed r (meaning s) a b i) k (args-absorbed r (meaning s) a ts i) n
line-absorbed r s a (line.Neg b n) h = ap (λ (z : Atom). line.Neg z n) (atom-absorbed r (meaning s) a b)
line-absorbed r s a (line.Loop l at) h = ap (λ (z : Lit). line.Loop z at) (lit-absorbed r (meaning s) a l)
line-absorbed r s a (line.Seen l at) h = ap (λ (z : Lit). line.Seen z at) (lit-absorbed r (meaning s) a l)
line-absorbed r s a (line.Test c) h = ap line.Test (or-absorbed r (meaning s) a c h)
line-absorbed r s a (line.Rule b k first) h = ap (λ (z : Atom). line.Rule z k first) (atom-absorbed r (meaning s) a b)
line-absorbed r s a (line.Check k first) h = refl
line-absorbed r s a (line.Split c parts) h = absurd h
line-absorbed r s a line.Void h = refl
line-absorbed r s a (line.Leaf k) h = refl
line-absorbed r s a (line.Head n) h = refl

pub lines-absorbed : (r : Sub) (s : State) → Absorbing r (meaning s) → (ls : List Line) → Each PlainLine ls → map (line_read r) (map (line_under s) ls) ≡ map (line_read r) ls
lines-absorbed r s a [] h = refl
lines-absorbed r s a (l ∷ ls) h = λ i. line-absorbed r s a l h.0 i ∷ lines-absorbed r s a ls h.1 i

pub plain-under : (s : State) (l : Line) → PlainLine l → PlainLine (line_under s l)
plain-under s (line.Test (con.Eq t u)) h = tt
plain-under s (line.Test (con.Neq t u)) h = tt
plain-under s (line.Test (con.NotShape x f n)) h = absurd h
plain-under s (line.Test (con.Num t)) h = absurd h
plain-under s (line.Test (con.NotNum t)) h = absurd h
plain-under s (line.Test (con.Row q)) h = absurd h
plain-under s (line.Split c parts) h = absurd h
plain-under s (line.Pos b k ts n) h = tt
plain-under s (line.Neg b n) h = tt
plain-under s (line.Loop l at) h = tt
plain-under s (line.Seen l at) h = tt
plain-under s (line.Rule b k first) h = tt
plain-under s (line.Check k first) h = tt
plain-under s line.Void h = tt
plain-under s (line.Leaf k) h = tt
plain-under s (line.Head n) h = tt

-- ---- what is made of lines as they are written in the certificate

-- the atom of a rule's line is no part of what is made of it
put-renamed : (ats : List ℕ) (f : State) (v : Sub) (l : Line) (b : Built) → PlainLine l → put ats (line_renamed v (line_under f l)) b ≡ put ats (line_read (reading f v) l) b
put-renamed ats f v (line.Pos a k ts n) b h =
    λ i. put ats (line.Pos (record { minus = a.minus; name = a.name; args = all-twice a.args i }) k (all-twice ts i) n) b
  where
    all-twice : (us : Tms) → all_under v (all_under (meaning f) us) ≡ all_under (reading f v) us
    all-twice us = ap args_of (under-under v (meaning f) (app 0 us))
put-renamed ats f v (line.Neg a n) b h =
    ap (λ (us : Tms). put ats (line.Neg (record { minus = a.minus; name = a.name; args = us }) n) b) (ap args_of (under-under v (meaning f) (app 0 a.args)))
put-renamed ats f v (line.Loop l at) b h =
    ap (λ (us : Tms). put ats (line.Loop (record { positive = l.positive; atom = record { minus = l.atom.minus; name = l.atom.name; args = us } }) at) b) (ap args_of (under-under v (meaning f) (app 0 l.atom.args)))
put-renamed ats f v (line.Seen l at) b h =
    ap (λ (us : Tms). put ats (line.Seen (record { positive = l.positive; atom = record { minus = l.atom.minus; name = l.atom.name; args = us } }) at) b) (ap args_of (under-under v (meaning f) (app 0 l.atom.args)))
put-renamed ats f v (line.Test (con.Eq t u)) b h = λ i. put ats (line.Test (equal (twice t i) (twice u i))) b
  where
    twice : (t : Term) → under v (tm_of (term_under (meaning f) t)) ≡ under (reading f v) (tm_of t)
    twice t = ap (under v) (viewed (under (meaning f) (tm_of t))) ∙ under-under v (meaning f) (tm_of t)
put-renamed ats f v (line.Test (con.Neq t u)) b h = λ i. put ats (line.Test (simple (differ (twice t i) (twice u i)))) b
  where
    twice : (t : Term) → under v (tm_of (term_under (meaning f) t)) ≡ under (reading f v) (tm_of t)
    twice t = ap (under v) (viewed (under (meaning f) (tm_of t))) ∙ under-under v (meaning f) (tm_of t)
put-renamed ats f v (line.Test (con.NotShape x g n)) b h = absurd h
put-renamed ats f v (line.Test (con.Num t)) b h = absurd h
put-renamed ats f v (line.Test (con.NotNum t)) b h = absurd h
put-renamed ats f v (line.Test (con.Row q)) b h = absurd h
put-renamed ats f v (line.Rule a k first) b h = refl
put-renamed ats f v (line.Check k first) b h = refl
put-renamed ats f v (line.Split c parts) b h = absurd h
put-renamed ats f v line.Void b h = refl
put-renamed ats f v (line.Leaf k) b h = refl
put-renamed ats f v (line.Head n) b h = refl

pub built-renamed : (ats : List ℕ) (f : State) (v : Sub) (ls : List Line) → Each PlainLine ls → built ats (map (line_renamed v) (map (line_under f) ls)) ≡ built ats (map (line_read (reading f v)) ls)
built-renamed ats f v [] h = refl
built-renamed ats f v (l ∷ ls) h =
    ap (put ats (line_renamed v (line_under f l))) (built-renamed ats f v ls h.1) ∙ put-renamed ats f v l (built ats (map (line_read (reading f v)) ls)) h.0

-- the same lines are of literals
same-literal : (f : State) (r : Sub) (l : Line) → is_literal (line_under f l) ≡ is_literal (line_read r l)
same-literal f r (line.Pos a k ts n) = refl
same-literal f r (line.Neg a n) = refl
same-literal f r (line.Loop l at) = refl
same-literal f r (line.Seen l at) = refl
same-literal f r (line.Test c) = refl
same-literal f r (line.Rule a k first) = refl
same-literal f r (line.Check k first) = refl
same-literal f r (line.Split c parts) = refl
same-literal f r line.Void = refl
same-literal f r (line.Leaf k) = refl
same-literal f r (line.Head n) = refl

pub lines-same : (f : State) (r : Sub) (n : ℕ) (ls : List Line) → literal_lines n (map (line_under f) ls) ≡ literal_lines n (map (line_read r) ls)
lines-same f r n [] = refl
lines-same f r n (l ∷ ls) =
    ap (λ (b : Bool). if b then n ∷ literal_lines (suc n) (map (line_under f) ls) else literal_lines (suc n) (map (line_under f) ls)) (same-literal f r l)
    ∙ ap (λ (z : List ℕ). if is_literal (line_read r l) then n ∷ z else z) (lines-same f r (suc n) ls)
