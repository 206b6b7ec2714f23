-- The shape of a rule's case whose head is being matched; literals and cases as the lines above a tree.
use Rattle.std.specs.Prelude.{◌≡◌, ℕ, suc, ◌<◌, List, [], ◌∷◌, length, map}
use Rattle.scasp_cert.specs.Trees.{Branch, split, void, leaf, head}
use Rattle.scasp_lines.specs.Places.{Above, Around}
use Rattle.scasp_search_rules.specs.Successors.Cases.{failing_at}
use Rattle.scasp_search_rules.specs.Successors.Items.{body_of}
use Rattle.scasp_search_rules.specs.Successors.Trees.{line_of}
use Rattle.scasp_search_rules.specs.declared.states.lines.Line.{Line}
use Rattle.scasp_search_rules.specs.declared.states.state.Literal.{Literal}
use Rattle.scasp_search_rules.specs.declared.states.state.State.{State}
use Rattle.scasp_search_rules.specs.declared.states.tasks.Pair.{Pair}
use Rattle.scasp_syntax.specs.Values.{Sub}
use Rattle.scasp_syntax.specs.declared.hint.Hint.TheVariants as hint
use Rattle.scasp_syntax.specs.declared.program.Program.{Program}
use Rattle.scasp_unify.specs.declared.bindings.Binding.{Binding}
use Rattle.scasp_law_headed.proofs.Views.{Case, Miss, Same}
use Rattle.scasp_law_headed.specs.Reading.{dues_read, is_plain_rule, reading}
use Rattle.scasp_law_headed.specs.Good.{GoodTrees, IsNoLiteral, above, around}

abbrev pub first_entry : List (ℕ × Branch) → ℕ × Branch
first_entry [] = (0, void hint.Terms)
first_entry (c ∷ cs) = c

abbrev pub entry : List ℕ → Literal → Above
entry ats a = above (line_of ats a.number) a.lit.positive a.lit.atom

abbrev pub round : List ℕ → Case → Around
round cats c = around (line_of cats c.number) c.plain

abbrev pub rounds : List ℕ → List Case → List Around
rounds cats cs = map (round cats) cs

module _ (p : Program) (f : State) (v : Sub) (ls : List Line) where
  -- the case of a rule whose head is being matched
  abbrev pub GoodMatch : ℕ → List Above → List Around → List Binding → List Pair → ℕ → ℕ → Branch → Type 0
  GoodMatch at abv rs bs ps k first (split c one two) = ⊥
  GoodMatch at abv rs bs ps k first (void h) = IsNoLiteral p f v ls at × Miss p f v bs k first ps
  GoodMatch at abv rs bs ps k first (leaf n children) =
      IsNoLiteral p f v ls at × Same p f v ps × (j : ℕ) × (n ≡ suc j) × (j < length (body_of p k first))
      × GoodTrees p f v ls (suc at) abv (around at (is_plain_rule p f v k) ∷ rs) (dues_read (reading f v) (failing_at j (body_of p k first))) children
  GoodMatch at abv rs bs ps k first (head children) = ⊥
