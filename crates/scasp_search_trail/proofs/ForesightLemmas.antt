-- What is known of terms by how they read.
use Rattle.std.specs.Prelude.{◌≡◌, ℕ, nat_eq, true, length, refl}
use Rattle.std.proofs.Common.{ap, sym, ◌∙◌}
use Rattle.std.proofs.lemmas.Bool.{and_from}
use Rattle.std.proofs.lemmas.Bool.Decides.{Decides-eqb}
use Rattle.scasp_lines.proofs.PartLemmas.{length-under}
use Rattle.scasp_search_rules.specs.declared.states.state.State.{State}
use Rattle.scasp_search_rules.specs.Successors.Variables.{meaning}
use Rattle.scasp_search_steps.specs.Foresight.{Expects}
use Rattle.scasp_search_steps.specs.declared.expected.Expected.{Expected}
use Rattle.scasp_search_steps.specs.declared.expected.Expected.TheVariants as expected
use Rattle.scasp_syntax.specs.Constraints.{has_shape}
use Rattle.scasp_syntax.specs.Tm.{Tm, Tms, app, items}
use Rattle.scasp_syntax.specs.Values.{all_under, under}

pub name_expected : (s : State) (f : ℕ) (ts : Tms) (n : ℕ) → n ≡ length (items ts) → Expects s (app f ts) (expected.Name f n)
name_expected s f ts n e =
    and_from (nat_eq f f) (nat_eq (length (items (all_under (meaning s) ts))) n) ((Decides-eqb f f).1 refl)
    ((Decides-eqb (length (items (all_under (meaning s) ts))) n).1 (length-under (meaning s) ts ∙ sym e))

-- what is known of a term is known of one that reads alike
pub same_expected : (s : State) (t u : Tm) (e : Expected) → under (meaning s) u ≡ under (meaning s) t → Expects s u e → Expects s t e
same_expected s t u expected.Open h k = tt
same_expected s t u (expected.Number q) h k = sym h ∙ k
same_expected s t u (expected.Name f n) h k = ap (has_shape f n) (sym h) ∙ k
same_expected s t u (expected.Left q) h k = (k.0, sym h ∙ k.1, k.2)
