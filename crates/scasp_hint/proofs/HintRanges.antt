-- The multipliers of a hint that is found lie from -M to M.
use Rattle.std.proofs.Common.{◌≡◌, ℕ, suc, List, [], ◌∷◌, ◌++◌, Result, Ok, Err, refl, subst}
use Rattle.std.specs.Prelude.{⊤}
use Rattle.scasp_num.specs.declared.hints.Step.{Step}
use Rattle.scasp_num.specs.Linear.{Linear, IsNormal}
use Rattle.scasp_list.specs.Each.{Each}
use Rattle.scasp_rows.specs.declared.state.Halt.{Halt}
use Rattle.scasp_rows.specs.declared.state.Halt.TheVariants as halt
use Rattle.scasp_rows.specs.declared.state.State.{State}
use Rattle.scasp_rows.specs.Elimination.{elimination}
use Rattle.scasp_list.proofs.EachLemmas.{Each-append}
use Rattle.scasp_syntax.specs.declared.con.Con.{Con}
use Rattle.scasp_hint.specs.Sides.{differs}
use Rattle.scasp_hint.specs.AskedRows.{RowsNormal, asked}
use Rattle.scasp_hint.specs.Showing.{HintInRange}
use Rattle.scasp_rows.specs.Steps.{StepInRange}
use Rattle.scasp_hint.specs.Finding.{Forced, possible, unknown, forced, with_list, side_asked, sides_asked, Found, nothing, unknown_list, hint, found_by, found_at, first_forced, found_rows, found_asked, found}
use Rattle.scasp_rows.proofs.StepRanges.{steps-ranged}
use Rattle.scasp_hint.proofs.AskedLemmas.{Says, asked-says, absorbs}
use Rattle.scasp_hint.proofs.ForcedLemmas.{Strict, SidesFine, all-fine}
use Rattle.scasp_hint.proofs.FoundLemmas.{asked-plain}
use Rattle.scasp_hint.specs.declared.sides.Sides.{Sides}
use Rattle.scasp_hint.specs.declared.sides.Sides.TheVariants.{Mixed, Large, Listed}
use Rattle.scasp_hint.specs.declared.asked.Asked.{Asked}
use Rattle.scasp_hint.specs.declared.asked.Asked.TheVariants.{ByTerms, Overflows, Asks}
use Rattle.scasp_syntax.specs.declared.hint.Hint.{Hint}

abbrev ForcedRange : Forced → Type 0
ForcedRange possible = ⊤
ForcedRange unknown = ⊤
ForcedRange (forced lists) = Each (Each StepInRange) lists

abbrev FoundRange : Found → Type 0
FoundRange nothing = ⊤
FoundRange unknown_list = ⊤
FoundRange (hint h) = HintInRange h

listed-range : (steps : List Step) (f : Forced) → Each StepInRange steps → ForcedRange f → ForcedRange (with_list steps f)
listed-range steps possible h k = tt
listed-range steps unknown h k = tt
listed-range steps (forced lists) h k = (h, k)

sides-range : (all ss : List Linear) → Each IsNormal all → Each Strict ss → ForcedRange (sides_asked all ss)
sides-range all [] n s = tt
sides-range all (a ∷ bs) n s = by (elimination (all ++ a ∷ [])) refl (sides-range all bs n s.1)
  where
    by : (o : Result State Halt) → elimination (all ++ a ∷ []) ≡ o → ForcedRange (sides_asked all bs) → ForcedRange (side_asked o (sides_asked all bs))
    by (Ok t) e k = tt
    by (Err (halt.Unsat steps)) e k = listed-range steps (sides_asked all bs) (steps-ranged (all ++ a ∷ []) steps (Each-append IsNormal all (a ∷ []) n (s.0.0, tt)) e) k
    by (Err halt.Overflow) e k = tt
    by (Err halt.Memory) e k = tt

walk-range : (all : List Linear) (i : ℕ) (ss : List Sides) → Each IsNormal all → Each SidesFine ss → FoundRange (first_forced all i ss)
walk-range all i [] n f = tt
walk-range all i (s ∷ ss) n f = by s f.0 (walk-range all (suc i) ss n f.1)
  where
    last : (o : Forced) → ForcedRange o → (w : Found) → FoundRange w → FoundRange (found_by i o w)
    last possible h w k = k
    last unknown h w k = tt
    last (forced lists) h w k = h

    by : (t : Sides) → SidesFine t → FoundRange (first_forced all (suc i) ss) → FoundRange (found_at all i t (first_forced all (suc i) ss))
    by Mixed g k = k
    by Large g k = tt
    by (Listed bs) g k = last (sides_asked all bs) (sides-range all bs n g.strict) (first_forced all (suc i) ss) k

found-range : (cs : List Con) → RowsNormal cs → FoundRange (found cs)
found-range cs n = by (asked cs) (asked-says cs n)
  where
    rows : (all : List Linear) → Says cs (Asks all) → (o : Result State Halt) → elimination all ≡ o → FoundRange (found_rows cs all o)
    rows all h (Ok s) e = walk-range all 1 (differs cs) (asked-plain cs all n h).normal (all-fine cs cs (absorbs cs h.0) n h.1)
    rows all h (Err (halt.Unsat steps)) e = steps-ranged all steps (asked-plain cs all n h).normal e
    rows all h (Err halt.Overflow) e = tt
    rows all h (Err halt.Memory) e = tt

    by : (a : Asked) → Says cs a → FoundRange (found_asked cs a)
    by ByTerms h = tt
    by Overflows h = tt
    by (Asks all) h = rows all h (elimination all) refl

pub hint-range : (cs : List Con) (h : Hint) → RowsNormal cs → found cs ≡ hint h → HintInRange h
hint-range cs h n e = subst FoundRange e (found-range cs n)
