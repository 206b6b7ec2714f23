-- The two directions of the law.
use Rattle.std.proofs.Common.{◌≡◌, ℕ, Bool, true, false, not, List, refl, ap, sym, subst, ◌∙◌}
use Rattle.std.specs.List.{Contains, filter, flat_map}
use Rattle.std.proofs.lemmas.Bool.{not-true, not_from_false}
use Rattle.scasp_list.proofs.MemberLemmas.{Contains-map, Contains-from_map, Contains-filter, Contains-from_filter, Contains-flat_map, Contains-from_flat_map}
use Rattle.scasp_syntax.specs.Tm.{Tm, listed}
use Rattle.scasp_syntax.specs.declared.atom.Atom.{Atom}
use Rattle.scasp_syntax.specs.declared.atom.Pred.{Pred}
use Rattle.scasp_syntax.specs.declared.program.Program.{Program}
use Rattle.scasp_model.specs.Atoms.{among, has_all}
use Rattle.scasp_model.specs.Grounding.{choices, ground_program}
use Rattle.scasp_model.proofs.AtomLemmas.{among-within}
use Rattle.scasp_abduce.specs.Occurrences.{names_of}
use Rattle.scasp_abduce.specs.Translation.{Choice, atom_of}
use Rattle.scasp_abduce.proofs.OpposedLemmas.{opposed-has}
use Rattle.scasp_law_abduction.specs.Choices.{Less, More, choices_of, denied_of, ground_translation, those_in}
use Rattle.scasp_law_abduction.proofs.ChoiceLemmas.{among-filter, among-from, among-from_filter, among-has}
use Rattle.scasp_law_abduction.proofs.LessLemmas.{less}
use Rattle.scasp_law_abduction.proofs.MoreLemmas.{IsChosen, IsDenied, more}
use Rattle.scasp_law_abduction.proofs.PairLemmas.{IsPair, adds, choice_atom-from, choice_atom-old, cs, is_new, pair-choice_atom}

pub abduction-less : Less
abduction-less names p d n N =
    less (ground_program d p) (ground_translation d names p) (is_new names p d) (IsPair names p d) (adds names p d) n N
    (those_in n (choices_of d p))
    (λ a i.
    (let q = among-from_filter (among n) (choices_of d p) a i in
    (q.1, choice_atom-old names p d a (among-from (choices_of d p) a q.0))))
    (λ a b q i. among-filter (among n) (choices_of d p) a (among-has (choices_of d p) a (pair-choice_atom names p d a b q)) i)

module _ (names : List (List ℕ)) (p : Program) (d : List Tm) (atoms m : List Atom) (within : has_all (choices_of d p) atoms ≡ true) where
  -- an assumed atom is one of a choice
  chosen : (a : Atom) → among atoms a ≡ true → IsChosen (IsPair names p d) a
  chosen a i =
      let r = choice_atom-from names p d a (among-from (choices_of d p) a (among-within (choices_of d p) atoms a within i)) in
      let h = opposed-has (names_of p.clauses p.queries p.abducibles) names p.abducibles r.pred r.abducible in
      let c : Choice = h.choice in
      record {
        b = atom_of c.opposite (listed r.terms);
        pair =
            record {
              choice = c;
              listed_choice = h.listed;
              terms = r.terms;
              given = subst (λ (q : Pred). Contains (choices d q.arity) r.terms) (sym h.is) r.given;
              is_a = ap (λ (q : Pred). atom_of q (listed r.terms)) h.is ∙ r.is;
              is_b = refl;
            };
      }

  abbrev others : List Atom
  others = flat_map (denied_of d m) (cs names p d)

  abbrev is_out : Choice → List Tm → Bool
  is_out c ts = not (among m (atom_of c.pred (listed ts)))

  out : (b : Atom) → among others b ≡ true → IsDenied (IsPair names p d) m b
  out b i =
      let r = Contains-from_flat_map (denied_of d m) (cs names p d) b (among-from others b i) in
      let c : Choice = r.0 in
      let s = Contains-from_map (λ ts. atom_of c.opposite (listed ts)) (filter (is_out c) (choices d c.pred.arity)) b r.2 in
      let t = Contains-from_filter (is_out c) (choices d c.pred.arity) s.0 s.1 in
      record {
        a = atom_of c.pred (listed s.0);
        pair = record { choice = c; listed_choice = r.1; terms = s.0; given = t.0; is_a = refl; is_b = s.2 };
        out = not-true (among m (atom_of c.pred (listed s.0))) t.1;
      }

  all : (a b : Atom) → IsPair names p d a b → among m a ≡ false → among others b ≡ true
  all a b q n =
      let c : Choice = q.choice in
      let test : is_out c q.terms ≡ true = not_from_false (among m (atom_of c.pred (listed q.terms))) (ap (among m) q.is_a ∙ n) in
      among-has others b
      (Contains-flat_map (denied_of d m) (cs names p d) c b q.listed_choice
      (subst (λ (x : Atom). Contains (denied_of d m c) x) q.is_b
      (Contains-map (λ ts. atom_of c.opposite (listed ts)) (filter (is_out c) (choices d c.pred.arity)) q.terms
      (Contains-filter (is_out c) (choices d c.pred.arity) q.terms q.given test))))

pub abduction-more : More
abduction-more names p d atoms m within M =
    more (ground_program d p) (ground_translation d names p) (is_new names p d) (IsPair names p d) (adds names p d)
    atoms (chosen names p d atoms m within) m M (others names p d atoms m within) (out names p d atoms m within) (all names p d atoms m within)
