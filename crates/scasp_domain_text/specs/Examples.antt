-- Small domain files, read from their bytes, and files with a fault, computed.
use Rattle.std.specs.Prelude.{◌≡◌, ℕ, List, [], ◌∷◌, ◌++◌, codes, Ok}
use Rattle.std.proofs.Common.{refl}
use Rattle.std.specs.Char.{encode_utf8}
use Rattle.std.specs.Str.{is_utf8, chars}
use Rattle.scasp_num.specs.Gcd.{gcd, gcd_within}
use Rattle.scasp_syntax.specs.Tm.{Tm, app, nil, cons}
use Rattle.scasp_answers_terms.specs.Tokens.Tokens.{tokens_in}
use Rattle.scasp_answers_terms.specs.Tokens.Terms.{terms_at}
use Rattle.scasp_domain_text.specs.Domains.{domain_in, fault, term_in}
use Rattle.scasp_domain_text.specs.Names.{domain_names}
use Rattle.scasp_domain_text.specs.declared.fault.DomainKind.TheVariants as kind

abbrev lists : List (List ℕ)
lists = codes "[]" ∷ codes "[|]" ∷ []

abbrev names : List (List ℕ)
names = lists ++ codes "a" ∷ codes "f" ∷ []

-- the bytes are a domain file with these members
abbrev Reads : List ℕ → List Tm → Type 0
Reads bytes members = domain_in names bytes ≡ Ok members

-- the bytes are none, since the line at this byte is at fault
abbrev Faults : List ℕ → ℕ → Type 0
Faults bytes at = domain_in names bytes ≡ fault at kind.Line

abbrev a : Tm
a = app 2 nil

their_names : domain_names lists (codes "a\nf(a)\n") ≡ names
unfolding tokens_in
their_names = refl

no_member : Reads [] []
unfolding domain_in
no_member = refl

two_members : Reads (codes "f(a)\na\n") (app 3 (cons a nil) ∷ a ∷ [])
unfolding domain_in term_in tokens_in terms_at
two_members = refl

variable : Faults (codes "a\nV0\n") 2
unfolding domain_in term_in tokens_in terms_at
variable = refl

variable_inside : Faults (codes "a\nf(V0)\n") 2
unfolding domain_in term_in tokens_in terms_at
variable_inside = refl

not_reduced : Faults (codes "2/4\n") 0
unfolding domain_in term_in tokens_in terms_at gcd gcd_within
not_reduced = refl

too_large : Faults (codes "170141183460469231731687303715884105728\n") 0
unfolding domain_in term_in tokens_in terms_at
too_large = refl

blank_behind : Faults (codes "a \n") 0
unfolding domain_in term_in tokens_in terms_at
blank_behind = refl

two_terms : Faults (codes "a,f(a)\n") 0
unfolding domain_in term_in tokens_in terms_at
two_terms = refl

empty_line : Faults (codes "a\n\nf(a)\n") 2
unfolding domain_in term_in tokens_in terms_at
empty_line = refl

remark : Faults (codes "a\n% f\n") 2
unfolding domain_in term_in tokens_in terms_at
remark = refl

repeated : Faults (codes "a\nf(a)\na\n") 7
unfolding domain_in term_in tokens_in terms_at
repeated = refl

no_line_end : Faults (codes "a\nf(a)") 2
unfolding domain_in term_in tokens_in terms_at
no_line_end = refl
