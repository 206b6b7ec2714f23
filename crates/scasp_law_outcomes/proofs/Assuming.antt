-- Where a constraint is assumed, or a case is parted, what is told and owed stays the same.
use Rattle.std.specs.Prelude.{◌≡◌, ℕ, suc, Bool, true, false, nat_eq, if◌then◌else◌, List, [], ◌∷◌, ◌++◌, map, length}
use Rattle.std.specs.List.{fold}
use Rattle.std.proofs.Common.{◌∙◌, refl, ap, sym}
use Rattle.std.proofs.lemmas.Grind.{flat_map-append}
use Rattle.std.proofs.lemmas.List.{append-nil}
use Rattle.scasp_list.specs.Each.{Each}
use Rattle.scasp_search_rules.specs.declared.states.covers.Cover.{Cover}
use Rattle.scasp_search_rules.specs.declared.states.lines.Line.TheVariants as line
use Rattle.scasp_search_rules.specs.declared.states.outcomes.Parting.{Parting}
use Rattle.scasp_search_rules.specs.declared.states.outcomes.Status.{Status}
use Rattle.scasp_search_rules.specs.declared.states.outcomes.Status.TheVariants.{Entailed, Impossible, Added, Parts}
use Rattle.scasp_search_rules.specs.declared.states.state.State.{State}
use Rattle.scasp_syntax.specs.declared.con.Con.{Con}
use Rattle.scasp_syntax.specs.declared.con.Con.TheVariants as con
use Rattle.scasp_syntax.specs.declared.term.Term.TheVariants.{Var}
use Rattle.scasp_unify.specs.declared.bindings.Binding.{Binding}
use Rattle.scasp_search_rules.specs.Successors.Assumptions.{performed, as_read, status, assume, assume_all}
use Rattle.scasp_search_rules.specs.Successors.Regions.{with_given}
use Rattle.scasp_search_rules.specs.Successors.Splits.{at_depth, cover_parted, parted, split_at, split_by, owner, numbered_to, is_number_by}
use Rattle.scasp_search_rules.specs.Successors.Variables.{next_variable, is_universal, depth_of}
use Rattle.scasp_law_outcomes.proofs.Standing.{check_in, checks_in, checks_before, owed, Keeps, each-followed}

-- a split stands before the case that it parts, and checks nothing
before-split : (p : Parting) (bound : List Binding) (c : Cover) (b : Bool)
    → checks_in (if b then cover_parted p bound c else c).before ≡ checks_in c.before
before-split p bound c true = flat_map-append check_in c.before (line.Split p.line (p.parts_here ++ p.parts_there) ∷ []) ∙ append-nil (checks_in c.before)
before-split p bound c false = refl

before-parted : (d : ℕ) (p : Parting) (bound : List Binding) (cs : List Cover)
    → checks_before (at_depth d (cover_parted p bound) cs) ≡ checks_before cs
before-parted d p bound [] = refl
before-parted d p bound (c ∷ cs) =
    ap (λ (z : List ℕ). z ++ checks_in (if nat_eq c.depth d then cover_parted p bound c else c).before) (before-parted d p bound cs)
    ∙ ap (λ (z : List ℕ). checks_before cs ++ z) (before-split p bound c (nat_eq c.depth d))

length-parted : (d : ℕ) (f : Cover → Cover) (cs : List Cover) → length (at_depth d f cs) ≡ length cs
length-parted d f [] = refl
length-parted d f (c ∷ cs) = ap suc (length-parted d f cs)

pub split_at-keeps : (all : List ℕ) (s : State) (d : ℕ) (c : Con) → Keeps all s → Keeps all (split_at s d c)
split_at-keeps all s d c h =
    let p : Parting = parted (next_variable s) c in
    record {
      checks = ap (λ (z : List ℕ). (z ++ checks_in s.lines) ++ (owed s.work).checks) (before-parted d p s.bound s.covers) ∙ h.checks;
      closes = h.closes ∙ sym (length-parted d (cover_parted p s.bound) s.covers);
    }

numbered-keeps : (all : List ℕ) (d : ℕ) (s : State) (x : ℕ) → Keeps all s → Keeps all (numbered_to d s x)
numbered-keeps all d s x h = by (is_number_by s d x) (is_universal s x)
  where
    by : (known owned : Bool)
        → Keeps all (if known then s else (if owned then split_at s (depth_of s x) (con.Num (Var x)) else with_given s (con.Num (Var x))))
    by true owned = h
    by false true = split_at-keeps all s (depth_of s x) (con.Num (Var x)) h
    by false false = h

all-numbered-keep : (all : List ℕ) (d : ℕ) (s : State) (xs : List ℕ) → Keeps all s → Keeps all (fold (numbered_to d) s xs)
all-numbered-keep all d s [] h = h
all-numbered-keep all d s (x ∷ xs) h = all-numbered-keep all d (numbered_to d s x) xs (numbered-keeps all d s x h)

split_by-keeps : (all : List ℕ) (s : State) (d : ℕ) (c : Con) → Keeps all s → Keeps all (split_by s d c)
split_by-keeps all s d (con.Row r) h =
    let xs : List ℕ = map (λ k. k.x) r.coeffs in
    split_at-keeps all (fold (numbered_to d) s xs) d (con.Row r) (all-numbered-keep all d s xs h)
split_by-keeps all s d c h = split_at-keeps all s d c h

performed-keep : (all : List ℕ) (s : State) (c : Con) (a : Status) → Keeps all s → Each (Keeps all) (performed s c a)
performed-keep all s c Entailed h = (h, tt)
performed-keep all s c Impossible h = tt
performed-keep all s c Added h = (h, tt)
performed-keep all s c Parts h = (split_by-keeps all s (owner s c) c h, tt)

pub assume-keep : (all : List ℕ) (sat : List Con → Bool) (s : State) (c : Con) → Keeps all s → Each (Keeps all) (assume sat s c).states
assume-keep all sat s c h = performed-keep all s (as_read s c) (status sat s c) h

pub assume_all-keep : (all : List ℕ) (sat : List Con → Bool) (cs : List Con) (s : State) → Keeps all s → Each (Keeps all) (assume_all sat cs s).states
assume_all-keep all sat [] s h = (h, tt)
assume_all-keep all sat (c ∷ cs) s h =
    each-followed (Keeps all) (assume_all sat cs) (assume_all-keep all sat cs) (assume sat s c).states (assume-keep all sat s c h)
