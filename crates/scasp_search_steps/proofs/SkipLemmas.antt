-- States in front that are left out.
use Rattle.std.specs.Prelude.{◌≡◌, ℕ, Bool, true, false, None, Some, List, [], ◌∷◌, ◌++◌, map, slice_get, refl}
use Rattle.std.proofs.Common.{inl, inr, ap, subst, sym, ◌∙◌}
use Rattle.std.proofs.lemmas.Bool.{true≢false}
use Rattle.scasp_search_rules.specs.declared.states.state.State.{State}
use Rattle.scasp_search_rules.specs.Successors.Calls.{by_rule}
use Rattle.scasp_search_state.specs.Choices.{Forked, Point, Taken, left, rules_behind, states, waiting}
use Rattle.scasp_search_state.specs.declared.choice.Choice.{Choice}
use Rattle.scasp_search_state.specs.declared.choice.Choice.TheVariants as choice
use Rattle.scasp_search_steps.proofs.ClashLemmas.{comes-to-nothing, open-fits}
use Rattle.scasp_search_steps.proofs.StepLemmas.{none_left, none_taken, point_taken}
use Rattle.scasp_search_steps.specs.Foresight.{Expects, ExpectsFirst, Skips, SkipsIf, first_clashes, head_clashes}
use Rattle.scasp_search_steps.specs.declared.expected.Expected.{Expected}
use Rattle.scasp_search_steps.specs.declared.expected.Expected.TheVariants as expected
use Rattle.scasp_syntax.specs.Tm.{Tm, Tms, nil, cons, items}
use Rattle.scasp_syntax.specs.declared.atom.Lit.{Lit}
use Rattle.scasp_syntax.specs.declared.program.Program.{Program}

-- ---- lists of states

pub none_skipped : (p : Program) (ss : List State) → Skips p ss ss
none_skipped p [] = refl
none_skipped p (s ∷ ss) = inl refl

both-skipped : (p : Program) (ss ts us : List State) → Skips p ss ts → Skips p ts us → Skips p ss us
both-skipped p [] ts us h k = subst (λ (xs : List State). Skips p xs us) h k
both-skipped p (s ∷ ss) ts us (inl e) k = subst (λ (xs : List State). Skips p xs us) e k
both-skipped p (s ∷ ss) ts us (inr h) k = inr (h.0, both-skipped p ss ts us h.1 k)

pub same_skipped : (may : Bool) (p : Program) (ss ts : List State) → ts ≡ ss → SkipsIf may p ss ts
same_skipped true p ss ts e = subst (Skips p ss) (sym e) (none_skipped p ss)
same_skipped false p ss ts e = e

pub both_skipped : (may : Bool) (p : Program) (ss ts us : List State) → SkipsIf may p ss ts → SkipsIf may p ts us → SkipsIf may p ss us
both_skipped true p ss ts us h k = both-skipped p ss ts us h k
both_skipped false p ss ts us h k = k ∙ h

-- ---- the first argument

pub first_expected : (s : State) (ts : Tms) (t : Tm) (e : Expected) → Some t ≡ slice_get (items ts) 0 → Expects s t e → ExpectsFirst s ts e
first_expected s nil t e g h = absurd (cc g)
first_expected s (cons u us) t e g h = let same : t ≡ u = cc g in subst (λ (a : Tm). Expects s a e) same h

pub none_expected : (s : State) (ts : Tms) → ExpectsFirst s ts expected.Open
none_expected s nil = refl
none_expected s (cons u us) = tt

-- where nothing is known no head clashes
first-fits : (us : Tms) → first_clashes expected.Open us ≡ false
first-fits nil = refl
first-fits (cons u us) = open-fits u

pub open_head : (us : Tms) (e : Expected) (last rule : ℕ) → first_clashes e us ≡ true → e ≡ expected.Open → last ≡ rule
open_head us e last rule c o = absurd (true≢false (sym c ∙ ap (λ (d : Expected). first_clashes d us) o ∙ first-fits us))

-- ---- rules

-- a rule whose head clashes is left out
pub clash_skipped : (p : Program) (l : Lit) (e : Expected) (first last rule : ℕ) → rules_behind p l last ≡ rule ∷ rules_behind p l rule → head_clashes p e rule ≡ true
    → ((s : State) (rest : List State) → ExpectsFirst s l.atom.args e → Skips p (left p (choice.ByRules l first) s ++ rest) (left p (choice.ByRules l last) s ++ rest))
    → (s : State) (rest : List State) → ExpectsFirst s l.atom.args e → Skips p (left p (choice.ByRules l first) s ++ rest) (left p (choice.ByRules l rule) s ++ rest)
clash_skipped p l e first last rule r c before s rest h =
    both-skipped p (left p (choice.ByRules l first) s ++ rest) (left p (choice.ByRules l last) s ++ rest) (left p (choice.ByRules l rule) s ++ rest) (before s rest h)
    (rw r (inr (comes-to-nothing p s l rule e h c, none_skipped p (left p (choice.ByRules l rule) s ++ rest))))

pub near_skipped : (p : Program) (l : Lit) (e : Expected) (first last near : ℕ) → rules_behind p l near ≡ rules_behind p l last
    → ((s : State) (rest : List State) → ExpectsFirst s l.atom.args e → Skips p (left p (choice.ByRules l first) s ++ rest) (left p (choice.ByRules l last) s ++ rest))
    → (s : State) (rest : List State) → ExpectsFirst s l.atom.args e → Skips p (left p (choice.ByRules l first) s ++ rest) (left p (choice.ByRules l near) s ++ rest)
near_skipped p l e first last near q before s rest h =
    subst (λ (ks : List ℕ). Skips p (left p (choice.ByRules l first) s ++ rest) (map (by_rule p s l) ks ++ rest)) (sym q) (before s rest h)

pub near_open : (p : Program) (l : Lit) (e : Expected) (behind last near : ℕ) → rules_behind p l near ≡ rules_behind p l last → (e ≡ expected.Open → last ≡ behind) → e ≡ expected.Open
    → rules_behind p l near ≡ rules_behind p l behind
near_open p l e behind last near q n o = q ∙ ap (rules_behind p l) (n o)

pub last_open : (p : Program) (l : Lit) (e : Expected) (behind last : ℕ) → (e ≡ expected.Open → last ≡ behind) → e ≡ expected.Open → rules_behind p l last ≡ rules_behind p l behind
last_open p l e behind last n o = ap (rules_behind p l) (n o)

pub gone_behind : (may : Bool) (p : Program) (l : Lit) (behind last : ℕ) (s : State) (e : Expected) → ExpectsFirst s l.atom.args e → (may ≡ false → e ≡ expected.Open) → (e ≡ expected.Open → rules_behind p l last ≡ rules_behind p l behind)
    → ((t : State) (rest : List State) → ExpectsFirst t l.atom.args e → Skips p (left p (choice.ByRules l behind) t ++ rest) (left p (choice.ByRules l last) t ++ rest))
    → (rest : List State) → SkipsIf may p (left p (choice.ByRules l behind) s ++ rest) (left p (choice.ByRules l last) s ++ rest)
gone_behind true p l behind last s e h o n k rest = k s rest h
gone_behind false p l behind last s e h o n k rest = ap (λ (ks : List ℕ). map (by_rule p s l) ks ++ rest) (n (o refl))

-- ---- choices

-- what a choice leaves behind what was left out of it
pub choice_skipped : (may : Bool) (p : Program) (all : List State) (old mid new : List Point) (s now : State) (c d : Choice) (went : Bool)
    → SkipsIf may p all (waiting p old) → Taken old s mid (Some c) → ((rest : List State) → SkipsIf may p (left p c s ++ rest) (left p d s ++ rest))
    → Forked p (left p d s) now new mid went → SkipsIf may p all (states p went now new)
choice_skipped may p all old mid new s now c d went a t k f =
    let first : SkipsIf may p (waiting p old) (left p d s ++ waiting p mid) =
    subst (λ (xs : List State). SkipsIf may p xs (left p d s ++ waiting p mid)) (sym (point_taken p s c mid old t)) (k (waiting p mid)) in
    subst (SkipsIf may p all) (by went f) (both_skipped may p all (waiting p old) (left p d s ++ waiting p mid) a first)
  where
    by : (b : Bool) → Forked p (left p d s) now new mid b → left p d s ++ waiting p mid ≡ states p b now new
    by true e = sym e
    by false e = λ i. e.0 i ++ waiting p (sym e.1 i)

pub all_skipped : (may : Bool) (p : Program) (all : List State) (old new : List Point) (now : State) → SkipsIf may p all (waiting p old) → Taken old now new None
    → SkipsIf may p all (waiting p new)
all_skipped may p all old new now a t = subst (λ (qs : List Point). SkipsIf may p all (waiting p qs)) (none_taken now new old t ∙ sym (none_left now new old t)) a
