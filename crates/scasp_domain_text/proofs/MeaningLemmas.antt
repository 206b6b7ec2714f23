-- The members that are read are the terms of the lines.
use Rattle.std.proofs.Common.{◌≡◌, ◌∙◌, ℕ, ◌+◌, Bool, true, false, ◌&&◌, not, List, [], ◌∷◌, ◌++◌, length, map, nat_lt, Option, None, Some, Result, Ok, Err, refl, sym, ap, append_assoc, append-nil}
use Rattle.std.proofs.lemmas.Bool.{cond-true, cond-false}
use Rattle.scasp_syntax.specs.Tm.{Tm}
use Rattle.scasp_syntax.specs.Values.{is_ground}
use Rattle.scasp_tables.specs.Tables.{is_member}
use Rattle.scasp_reader_terms.specs.Names.{place_in}
use Rattle.scasp_answers.specs.Blocks.Files.{split_lines}
use Rattle.scasp_domain_text.specs.Domains.{byte_limit, domain_in, fault, joined, members_from, proceeds, term_in}
use Rattle.scasp_domain_text.specs.Meaning.{AreLines}
use Rattle.scasp_domain_text.specs.declared.fault.DomainKind.TheVariants as kind

-- the terms of the lines stand behind the members before
record Reads (place : List ℕ → ℕ) (before : List Tm) (lines : List (List ℕ)) (rest : List ℕ) (members : List Tm) : Type 0 where
  more : List Tm
  behind : members ≡ before ++ more
  ended : rest ≡ []
  spelled : map (term_in place) lines ≡ map Some more

record Joined (before all : List Tm) (o : Option Tm) : Type 0 where
  term : Tm
  is : o ≡ Some term
  last : all ≡ before ++ term ∷ []

joined-is : (before all : List Tm) (o : Option Tm) → joined before o ≡ Some all → Joined before all o
joined-is before all None h = cc
joined-is before all (Some t) h = by (is_ground t && not (is_member before t)) refl
  where
    by : (b : Bool) → (is_ground t && not (is_member before t)) ≡ b → Joined before all (Some t)
    by true e = record {
      term = t;
      is = refl;
      last = let same : Some all ≡ Some (before ++ t ∷ []) = sym h ∙ cond-true (is_ground t && not (is_member before t)) (Some (before ++ t ∷ [])) None e in cc same;
    }
    by false e =
        let none : Some all ≡ None = sym h ∙ cond-false (is_ground t && not (is_member before t)) (Some (before ++ t ∷ [])) None e in
        cc none

reads : (place : List ℕ → ℕ) (before : List Tm) (at : ℕ) (lines : List (List ℕ)) (rest : List ℕ) (members : List Tm)
    → members_from place before at lines rest ≡ Ok members → Reads place before lines rest members
reads place before at [] [] members h = record {
  more = [];
  behind = let same : before ≡ members = cc h in sym same ∙ sym (append-nil before);
  ended = refl;
  spelled = refl;
}
reads place before at [] (b ∷ bs) members h = cc h
reads place before at (line ∷ lines) rest members h =
    by (λ all. reads place all (at + length line + 1) lines rest members) (joined before (term_in place line)) refl
  where
    by : ((all : List Tm) → members_from place all (at + length line + 1) lines rest ≡ Ok members → Reads place all lines rest members)
        → (o : Option (List Tm)) → joined before (term_in place line) ≡ o → Reads place before (line ∷ lines) rest members
    by later None e =
        let none : fault at kind.Line ≡ Ok members = sym (ap (λ p. proceeds at p (λ more. members_from place more (at + length line + 1) lines rest)) e) ∙ h in
        cc none
    by later (Some all) e =
        let on : members_from place all (at + length line + 1) lines rest ≡ Ok members =
        sym (ap (λ p. proceeds at p (λ more. members_from place more (at + length line + 1) lines rest)) e) ∙ h in
        let r = later all on in
        let j = joined-is before all (term_in place line) e in
        record {
          more = j.term ∷ r.more;
          behind = r.behind ∙ ap (λ xs. xs ++ r.more) j.last ∙ append_assoc before (j.term ∷ []) r.more;
          ended = r.ended;
          spelled = ap (λ o. o ∷ map (term_in place) lines) j.is ∙ ap (λ os. Some j.term ∷ os) r.spelled;
        }

pub are-lines : (names : List (List ℕ)) (bytes : List ℕ) (members : List Tm) → domain_in names bytes ≡ Ok members → AreLines names bytes members
unfolding domain_in
are-lines names bytes members h = by (nat_lt byte_limit (length bytes)) refl
  where
    by : (b : Bool) → nat_lt byte_limit (length bytes) ≡ b → AreLines names bytes members
    by true e =
        let none : fault byte_limit kind.Limit ≡ Ok members =
        sym (cond-true (nat_lt byte_limit (length bytes)) (fault byte_limit kind.Limit) (members_from (place_in names) [] 0 (split_lines bytes).lines (split_lines bytes).rest) e) ∙ h in
        cc none
    by false e =
        let r = reads (place_in names) [] 0 (split_lines bytes).lines (split_lines bytes).rest members
        (sym (cond-false (nat_lt byte_limit (length bytes)) (fault byte_limit kind.Limit) (members_from (place_in names) [] 0 (split_lines bytes).lines (split_lines bytes).rest) e) ∙ h) in
        record { ended = r.ended; spelled = r.spelled ∙ ap (map Some) (sym r.behind) }
