-- Parts solved one by one: bindings as a substitution, and when what is left of some parts stands for them.
use Rattle.std.specs.Prelude.{◌≡◌, ℕ, ◌+◌, Bool, true, false, List, [], ◌∷◌, ◌++◌, map, Option, None, Some}
use Rattle.scasp_num.specs.Arithmetic.{◌>>=◌}
use Rattle.scasp_syntax.specs.Tm.{var}
use Rattle.scasp_syntax.specs.Values.{Sub, under}
use Rattle.scasp_syntax.specs.View.{tm_of}
use Rattle.scasp_unify.specs.Parts.{Part, parts, left_side, right_side}
use Rattle.scasp_unify.specs.Unification.{single, then_by, parts_under, solved}
use Rattle.scasp_unify.specs.declared.bindings.Binding.{Binding}
use Rattle.scasp_unify.specs.declared.parts.Part.{Part as FoundPart}

-- the bindings one behind the other, in the order in which they were made
abbrev pub sub_of : List Binding → Sub
sub_of [] = var
sub_of (b ∷ bs) = then_by (single b.x (tm_of b.term)) (sub_of bs)

abbrev pub part_of : FoundPart → Part
part_of p = record { at = p.at; term = tm_of p.term; turned = p.turned }

-- the parts behind those that were found before
abbrev pub behind : List FoundPart → Option (List Part) → Option (List Part)
behind before o = o >>= (λ ps. Some (map part_of before ++ ps))

-- parts are added to those that were found before, where there are any
abbrev pub AddsParts : List FoundPart → List FoundPart → Bool → Option (List Part) → Type 0
AddsParts before after true o = behind before o ≡ Some (map part_of after)
AddsParts before after false o = o ≡ None

-- parts of an equation were found, and these are the others; or the equation clashes
abbrev pub TakesApart : List FoundPart → List FoundPart → Bool → Option (List Part) → Option (List Part) → Type 0
TakesApart before after true all others = behind before all ≡ behind after others
TakesApart before after false all others = all ≡ None

-- the parts of a part, as the substitution resolves it
abbrev pub resolved_parts : Sub → Part → Option (List Part)
resolved_parts s p = parts (under s (left_side p)) (under s (right_side p))

-- what the parts make of s, where at most n variables are bound
abbrev pub made_by : ℕ → Sub → List Part → Option Sub
made_by n s ps = parts_under s ps >>= (λ qs. solved n qs >>= (λ r. Some (then_by s r)))

-- the parts ps make of s what qs make of r, whatever stands behind both
pub record LeadsTo (s : Sub) (ps : List Part) (r : Sub) (qs : List Part) : Type 0 where
  pub bound : ℕ
  pub same : (n : ℕ) (more : List Part) → made_by (bound + n) s (ps ++ more) ≡ made_by n r (qs ++ more)

-- the parts make nothing of s, whatever stands behind them
abbrev pub Clashes : Sub → List Part → Type 0
Clashes s ps = (n : ℕ) (more : List Part) → made_by n s (ps ++ more) ≡ None

-- the parts are solved from s to r, or clash
abbrev pub Solves : Bool → Sub → List Part → Sub → Type 0
Solves true s ps r = LeadsTo s ps r []
Solves false s ps r = Clashes s ps
