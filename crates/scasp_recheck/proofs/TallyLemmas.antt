-- One certificate after another.
use Rattle.std.proofs.Common.{◌≡◌, ◌∙◌, ℕ, suc, ◌+◌, ◌<◌, Bool, true, false, arith, List, [], ◌∷◌, ◌++◌, length, map, take, get_or, Option, None, Some, refl, sym, ap, add-one, length-append}
use Rattle.std.specs.Prelude.{filter, if◌then◌else◌}
use Rattle.std.proofs.lemmas.Bool.{cond-true, cond-false}
use Rattle.std.proofs.lemmas.List.{get_or-map, length-map, map-append, map_more}
use Rattle.std.proofs.lemmas.List.Elements.{filter-append}
use Rattle.scasp_syntax.specs.declared.program.Program.{Program}
use Rattle.scasp_cert.specs.Certificate.{Certificate}
use Rattle.scasp_checker.specs.declared.verdict.verdict.Verdict.{Verdict}
use Rattle.scasp_checker_rules.specs.Faults.{faults}
use Rattle.scasp_checker_rules.specs.Refusals.{first}
use Rattle.scasp_checker_rules.specs.declared.refusal.Refusal.{Refusal}
use Rattle.scasp_law_untouched.proofs.UntouchedLemmas.{untouched}
use Rattle.scasp_touched.specs.Touched.{touched, touched_count}
use Rattle.scasp_recheck.specs.Checks.{checked_by, checked_of, verdict_on}
use Rattle.scasp_recheck.specs.Tallies.{kept_by, with_filed}
use Rattle.scasp_recheck.specs.Views.{filed_cert}
use Rattle.scasp_recheck.specs.declared.certs.Filed.{Filed}
use Rattle.scasp_recheck.specs.declared.checked.Checked.{Checked}
use Rattle.scasp_recheck.specs.declared.tally.Tally.{Tally}

count-more : (p q : Program) (cs : List Certificate) (c : Certificate)
    → touched_count p q (cs ++ c ∷ []) ≡ (if touched p q c then touched_count p q cs + 1 else touched_count p q cs)
count-more p q cs c =
    ap length (filter-append (touched p q) cs (c ∷ [])) ∙ length-append (filter (touched p q) cs) (filter (touched p q) (c ∷ []))
    ∙ by (touched p q c) refl
  where
    by : (b : Bool) → touched p q c ≡ b
        → touched_count p q cs + length (filter (touched p q) (c ∷ [])) ≡ (if touched p q c then touched_count p q cs + 1 else touched_count p q cs)
    by true e =
        ap (λ zs. touched_count p q cs + length zs) (cond-true (touched p q c) (c ∷ []) [] e)
        ∙ sym (cond-true (touched p q c) (touched_count p q cs + 1) (touched_count p q cs) e)
    by false e =
        ap (λ zs. touched_count p q cs + length zs) (cond-false (touched p q c) (c ∷ []) [] e) ∙ omega arith
        ∙ sym (cond-false (touched p q c) (touched_count p q cs + 1) (touched_count p q cs) e)

-- what the first certificates come to, and one more
certs-more : (fs : List Filed) (i : ℕ) (f : Filed) → i < length fs → f ≡ get_or fs i f
    → map filed_cert (take (i + 1) fs) ≡ map filed_cert (take i fs) ++ filed_cert f ∷ []
certs-more fs i f below is = map_more filed_cert fs i f below ∙ ap (λ z. map filed_cert (take i fs) ++ filed_cert z ∷ []) (sym is)

pub results-more : (q : Program) (rs more : List Checked) (fs : List Filed) (i : ℕ) (f : Filed) (r : Checked) → i < length fs → f ≡ get_or fs i f
    → rs ≡ map (checked_of q) (map filed_cert (take i fs)) → r ≡ checked_of q (filed_cert f) → more ≡ rs ++ r ∷ []
    → more ≡ map (checked_of q) (map filed_cert (take (i + 1) fs))
results-more q rs more fs i f r below is h e g =
    g ∙ (λ j. h j ++ e j ∷ []) ∙ sym (map-append (checked_of q) (map filed_cert (take i fs)) (filed_cert f ∷ []))
    ∙ ap (map (checked_of q)) (sym (certs-more fs i f below is))

-- what one of the certificates comes to
pub result-at : (q : Program) (fs : List Filed) (i : ℕ) (f : Filed) (d : Checked) → i < length fs → f ≡ get_or fs i f
    → get_or (map (checked_of q) (map filed_cert fs)) i d ≡ checked_of q (filed_cert f)
result-at q fs i f d below is =
    let under : i < length (map filed_cert fs) = omega (arith, below, length-map fs filed_cert) in
    get_or-map (checked_of q) (map filed_cert fs) i (filed_cert f) d under ∙ ap (checked_of q) (get_or-map filed_cert fs i f (filed_cert f) below)
    ∙ ap (λ z. checked_of q (filed_cert z)) (sym is)

-- what is found of the first certificates
pub record IsTally (p q : Program) (t : Tally) (fs : List Filed) : Type 0 where
  pub results : t.results ≡ map (checked_of q) (map filed_cert fs)
  pub touched : t.touched ≡ touched_count p q (map filed_cert fs)

pub tally-more : (p q : Program) (t u : Tally) (fs : List Filed) (i : ℕ) (f : Filed) → i < length fs → f ≡ get_or fs i f
    → IsTally p q t (take i fs) → u ≡ with_filed p q t f → IsTally p q u (take (i + 1) fs)
tally-more p q t u fs i f below is h e = record {
  results = results-more q t.results u.results fs i f (checked_of q (filed_cert f)) below is h.results refl (ap (λ z. z.results) e);
  touched =
      ap (λ z. z.touched) e ∙ ap (λ n. if touched p q (filed_cert f) then n + 1 else n) h.touched
      ∙ sym (count-more p q (map filed_cert (take i fs)) (filed_cert f)) ∙ ap (touched_count p q) (sym (certs-more fs i f below is));
}

-- ---- what an untouched certificate comes to

kept-by : (o : Option Refusal) (v w : Verdict) → kept_by (checked_by o v) w ≡ checked_by o w
kept-by None v w = refl
kept-by (Some r) v w = refl

pub kept-is : (p q : Program) (c : Certificate) → touched p q c ≡ false → kept_by (checked_of p c) (verdict_on q c) ≡ checked_of q c
kept-is p q c e =
    kept-by (first (faults p c)) (verdict_on p c) (verdict_on q c) ∙ ap (λ fs. checked_by (first fs) (verdict_on q c)) (untouched p q c e)
