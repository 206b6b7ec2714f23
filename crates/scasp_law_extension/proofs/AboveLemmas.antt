-- The levelled model of what an accepted certificate leaves, above what it says.
use Rattle.std.proofs.Common.{◌≡◌, ◌∙◌, ℕ, Bool, true, false, ◌||◌, not, List, ◌++◌, Some, ap, sym}
use Rattle.std.proofs.lemmas.Bool.{true≢false, eqb-true, false_from_ne_true, not_from_false, or_from, or_left, or_parts}
use Rattle.std.proofs.lemmas.Map.Views.{Contains-from_any}
use Rattle.scasp_cert.specs.Certificate.{Certificate}
use Rattle.scasp_checker_rules.specs.Accepted.{AcceptsWhere}
use Rattle.scasp_graph.specs.Map.{MapHolds}
use Rattle.scasp_law_promise.specs.Good.{Over, residual_over}
use Rattle.scasp_law_promise.specs.OwnRows.{has_normal_rows}
use Rattle.scasp_law_promise.specs.Premises.{Premises}
use Rattle.scasp_law_promise.proofs.CheckLemmas.{covered-gone}
use Rattle.scasp_law_promise.proofs.GoodLemmas.{supported}
use Rattle.scasp_law_promise.proofs.OwnRowLemmas.{rows-normal}
use Rattle.scasp_lines.specs.Said.{false_atoms, is_closed_over, true_atoms}
use Rattle.scasp_model.specs.Atoms.{among, SameAtoms}
use Rattle.scasp_model.specs.Grounding.{ground_program}
use Rattle.scasp_model.specs.Levelled.{levelled_model}
use Rattle.scasp_model.specs.Residual.{is_known, residual}
use Rattle.scasp_model.specs.declared.program.GroundClause.{GroundClause}
use Rattle.scasp_model.proofs.AtomLemmas.{among-append, among-within, has_all_from}
use Rattle.scasp_sound.specs.MapLevels.{covered, level_of, NoneLeft, plus_of}
use Rattle.scasp_sound.specs.Support.{Supports}
use Rattle.scasp_sound.proofs.LevelInduction.{levelled-extends}
use Rattle.scasp_sound.proofs.MapKeeping.{left-keeps}
use Rattle.scasp_sound.proofs.ResidualLemmas.{residual-from}
use Rattle.scasp_syntax.specs.Tm.{Tm}
use Rattle.scasp_syntax.specs.Values.{Sub}
use Rattle.scasp_syntax.specs.declared.atom.Atom.{Atom}
use Rattle.scasp_syntax.specs.declared.program.Program.{Program}
use Rattle.scasp_law_extension.specs.Above.{IsModelAbove, model_above}
use Rattle.scasp_law_extension.proofs.LevelledHeads.{levelled-head}
use Rattle.scasp_law_extension.proofs.SameStable.{stable-same}

-- no atom of the levelled model of what is left is known
unknown : (level : Atom → ℕ) (plus : Atom → Bool) (g : List GroundClause) (t f : List Atom) (a : Atom) → among f a ≡ true
    → among (levelled_model level plus (residual t f g)) a ≡ false
unknown level plus g t f a h =
    false_from_ne_true (among (levelled_model level plus (residual t f g)) a)
    (λ e.
    (let r = levelled-head level plus (residual t f g) a e in
    let p = residual-from g t f r.rule r.listed in
    let head : (p.0).head ≡ Some a = ap (λ (c : GroundClause). c.head) p.4 ∙ r.head in
    let none : (among t a || among f a) ≡ false = sym (ap (is_known t f) head) ∙ p.2 in
    true≢false (sym h ∙ (or_parts (among t a) (among f a) none).1)))

module _ (b : Bool) (p : Program) (c : Certificate) (m : Premises b p c) (closed : is_closed_over p c m.free.of m.domain ≡ true)
    (kept : MapHolds p (covered c) c.map) where
  abbrev t : List Atom
  t = true_atoms p c m.free.of m.domain

  abbrev f : List Atom
  f = false_atoms p c m.free.of m.domain

  abbrev rest : List Atom
  rest = levelled_model (level_of c.map) (plus_of c.map) (residual_over p c m.free.of m.domain)

  -- nothing is left of the clauses that are checked
  none-left : NoneLeft p (covered c) m.domain t f
  none-left =
      λ number clause is named. covered-gone b p c m number (Contains-from_any (λ x y e. eqb-true x y e) number (covered c) is) clause named

  supports : Supports (ground_program m.domain p) t f
  supports = supported b p c m closed

  none-false : (a : Atom) → among f a ≡ true → not (among (t ++ rest) a) ≡ true
  none-false a h =
      let not_true : among t a ≡ false = false_from_ne_true (among t a) (λ e. true≢false (sym (supports.apart a e) ∙ ap not h)) in
      not_from_false (among (t ++ rest) a)
      (among-append t rest a ∙ or_from (among t a) (among rest a) not_true (unknown (level_of c.map) (plus_of c.map) (ground_program m.domain p) t f a h))

  pub above : IsModelAbove p c m.free.of m.domain (model_above p c m.free.of m.domain)
  above =
      record {
        stable = levelled-extends (level_of c.map) (plus_of c.map) (ground_program m.domain p) t f (left-keeps p (covered c) c.map m.domain t f kept none-left) supports;
        all_true = has_all_from (t ++ rest) t (λ a e. among-append t rest a ∙ or_left (among t a) (among rest a) e);
        none_false = none-false;
      }

pub levelled-above : (b : Bool) (p : Program) (c : Certificate) → has_normal_rows c ≡ true → AcceptsWhere b p c → MapHolds p (covered c) c.map
    → Over (λ v d. IsModelAbove p c v d (model_above p c v d)) p c
levelled-above b p c n h k =
    λ v meets d is closed. above b p c (record { accepted = h; normal = rows-normal p c n; free = v; meets = meets; domain = d; distinct = is }) closed k

pub same-above : (p : Program) (c : Certificate) (v : Sub) (d : List Tm) (atoms others : List Atom) → SameAtoms atoms others → IsModelAbove p c v d others
    → IsModelAbove p c v d atoms
same-above p c v d atoms others e h =
    record {
      stable = stable-same atoms others e (ground_program d p) h.stable;
      all_true = has_all_from atoms (true_atoms p c v d) (λ a i. e a ∙ among-within others (true_atoms p c v d) a h.all_true i);
      none_false = λ a i. ap not (e a) ∙ h.none_false a i;
    }
