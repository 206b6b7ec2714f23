-- Parts of a disequation, by what is known of the terms.
use Rattle.std.specs.Prelude.{◌≡◌, ℕ, Bool, true, false, if◌then◌else◌, List, [], ◌∷◌, Result}
use Rattle.std.proofs.Common.{ap, subst, sym}
use Rattle.scasp_search_constraints.specs.declared.assuming.step.SearchErr.{SearchErr}
use Rattle.scasp_search_rules.specs.declared.states.state.State.{State}
use Rattle.scasp_search_rules.specs.declared.states.tasks.Aim.{Aim}
use Rattle.scasp_search_rules.specs.declared.states.tasks.Pair.{Pair}
use Rattle.scasp_search_rules.specs.declared.states.tasks.Task.TheVariants as task
use Rattle.scasp_search_rules.specs.Successors.Differences.{differ_first, differ_pair, differ_variables, is_matched, part_of_variables, stands_first, take_up}
use Rattle.scasp_search_rules.specs.Successors.Regions.{before}
use Rattle.scasp_search_rules.specs.Successors.Steps.{Step, goes}
use Rattle.scasp_search_state.specs.Choices.{Forks, Point}
use Rattle.scasp_syntax.specs.Tm.{Tm}
use Rattle.scasp_syntax.specs.View.{tm_of}
use Rattle.scasp_syntax.specs.declared.con.Con.{Con}
use Rattle.scasp_syntax.specs.declared.program.Program.{Program}
use Rattle.scasp_syntax.specs.declared.term.Term.{Term}

-- two variables, the first of which stands first, or the second
pub in_order : (sat : List Con → Bool) (s : State) (x y : ℕ) (rest : List Pair) (aim : Aim) → stands_first s x y ≡ true
    → part_of_variables sat s x y rest aim ≡ differ_variables sat s x y rest aim
in_order sat s x y rest aim e = sym (ap (λ (b : Bool). if b then part_of_variables sat s x y rest aim else part_of_variables sat s y x rest aim) e)

pub other_order : (sat : List Con → Bool) (s : State) (x y : ℕ) (rest : List Pair) (aim : Aim) → stands_first s x y ≡ false
    → part_of_variables sat s y x rest aim ≡ differ_variables sat s x y rest aim
other_order sat s x y rest aim e = sym (ap (λ (b : Bool). if b then part_of_variables sat s x y rest aim else part_of_variables sat s y x rest aim) e)

-- a pair whose second side is no variable of a head
pub unmatched : (sat : List Con → Bool) (s : State) (t u : Tm) (rest : List Pair) (aim : Aim) → is_matched s u ≡ false
    → differ_pair sat s t u rest aim ≡ differ_first sat s t u rest aim
unmatched sat s t u rest aim e =
    sym (ap (λ (b : Bool). if b then goes (before (task.Differ rest aim ∷ []) (take_up s t u)) else differ_pair sat s t u rest aim) e)

-- what is put in front at two terms, by what the terms are
pub forks_of_terms : (f : Tm → Tm → Step) (l r left right : Term) (now : State) (new old : List Point) (went : Result Bool SearchErr) → l ≡ left → r ≡ right
    → ((p : Program) → Forks p (f (tm_of left) (tm_of right)) now new old went) → (p : Program) → Forks p (f (tm_of l) (tm_of r)) now new old went
forks_of_terms f l r left right now new old went e g h p =
    subst (λ (x : Term). Forks p (f (tm_of x) (tm_of r)) now new old went) (sym e)
    (subst (λ (x : Term). Forks p (f (tm_of left) (tm_of x)) now new old went) (sym g) (h p))
