-- What the small programs support.
use Rattle.std.proofs.Common.{◌≡◌, ◌∷◌, ◌<◌, ◌-◌, ℕ, true, false, List, [], Some, refl, sym, subst, inl, inr, arith}
use Rattle.std.proofs.lemmas.Bool.{true≢false, false≢true, or_cases}
use Rattle.scasp_syntax.specs.Same.{same_atom}
use Rattle.scasp_syntax.specs.declared.atom.Atom.{Atom}
use Rattle.scasp_syntax.proofs.SameLemmas.{atom_decided}
use Rattle.scasp_model.specs.Atoms.{among}
use Rattle.scasp_model.specs.Examples.{lit, rule, p, q, r}
use Rattle.scasp_model.specs.Residual.{residual}
use Rattle.scasp_model.specs.Stable.{Stable}
use Rattle.scasp_sound.specs.Examples.{circle, entered, choice}
use Rattle.scasp_sound.specs.Support.{Founded, by_rule, RestsBelow, Lower, Supports}
use Rattle.scasp_sound.proofs.FoundedLemmas.{founded-by_rank}
use Rattle.scasp_sound.proofs.JoinLemmas.{joined}
use Rattle.scasp_sound.proofs.SupportLemmas.{Supports-tested}

among-cases : (P : Atom → Type 0) (x : Atom) (xs : List Atom) → P x → ((a : Atom) → among xs a ≡ true → P a) → (a : Atom) → among (x ∷ xs) a ≡ true → P a
among-cases P x xs here rest a h =
    elim (or_cases (same_atom a x) (among xs a) h) [
      | inl e ↦ subst P (sym ((atom_decided a x).0 e)) here
      | inr k ↦ rest a k
    ]

among-none : (P : Atom → Type 0) (a : Atom) → among [] a ≡ true → P a
among-none P a h = absurd (false≢true h)

nothing : Stable (residual (p ∷ []) [] circle) []
nothing = record { least_of_reduct = λ a. refl; no_violation = refl }

-- p alone would join with the empty model of what is left, and is no stable model
pub circle-not : Supports circle (p ∷ []) [] → ⊥
circle-not supported = true≢false ((joined circle (p ∷ []) [] supported [] nothing).least_of_reduct p)

-- p rests on q, and q on nothing
entered-rank : Atom → ℕ
entered-rank a = 5 - a.name

rests_p : RestsBelow entered (p ∷ q ∷ []) (r ∷ []) (Lower entered-rank) p
unfolding entered-rank
rests_p =
    record {
      clause = rule (Some p) (lit true q ∷ []);
      rule = record { listed = (0, omega arith, refl); head = refl; negated = refl };
      known = refl;
      smaller = among-cases (λ b. entered-rank b < entered-rank p) q [] (omega arith) (among-none (λ b. entered-rank b < entered-rank p));
    }

rests_q : RestsBelow entered (p ∷ q ∷ []) (r ∷ []) (Lower entered-rank) q
rests_q =
    record {
      clause = rule (Some q) (lit false r ∷ []);
      rule = record { listed = (2, omega arith, refl); head = refl; negated = refl };
      known = refl;
      smaller = among-none (λ b. entered-rank b < entered-rank q);
    }

pub entered-supports : Supports entered (p ∷ q ∷ []) (r ∷ [])
entered-supports =
    Supports-tested entered (p ∷ q ∷ []) (r ∷ []) refl
    (founded-by_rank entered (p ∷ q ∷ []) (r ∷ []) entered-rank
    (among-cases (RestsBelow entered (p ∷ q ∷ []) (r ∷ []) (Lower entered-rank)) p (q ∷ []) rests_p
    (among-cases (RestsBelow entered (p ∷ q ∷ []) (r ∷ []) (Lower entered-rank)) q [] rests_q
    (among-none (RestsBelow entered (p ∷ q ∷ []) (r ∷ []) (Lower entered-rank))))))
    refl

choice-founded : Founded choice (q ∷ []) p
choice-founded =
    by_rule p (rule (Some p) (lit false q ∷ []))
    (record { listed = (0, omega arith, refl); head = refl; negated = refl })
    (among-none (Founded choice (q ∷ [])))

pub choice-supports : Supports choice (p ∷ []) (q ∷ [])
choice-supports =
    Supports-tested choice (p ∷ []) (q ∷ []) refl
    (among-cases (Founded choice (q ∷ [])) p [] choice-founded (among-none (Founded choice (q ∷ []))))
    refl

left-model : Stable (residual (p ∷ []) (q ∷ []) choice) (r ∷ [])
left-model = record { least_of_reduct = λ a. refl; no_violation = refl }

pub choice-model : Stable choice (p ∷ r ∷ [])
choice-model = joined choice (p ∷ []) (q ∷ []) choice-supports (r ∷ []) left-model
