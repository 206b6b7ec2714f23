-- The table of names, to which names of samples are added.
use Rattle.std.proofs.Common.{◌≡◌, ◌∙◌, ℕ, suc, ◌+◌, List, ◌++◌, codes, decimal, length, ◌≤◌, ap, sym, arith}
use Rattle.scasp_cert.specs.Certificate.{Certificate}
use Rattle.scasp_name.specs.Texts.{with_text}
use Rattle.scasp_print_samples.specs.Tables.{HasNames, IsTable}
use Rattle.scasp_print_samples.specs.Samples.{with_samples}
use Rattle.scasp_print_samples.specs.declared.tables.Table.{Table}
use Rattle.scasp_syntax.specs.Tm.{items}

-- one more text was tried
pub table-tried : (names : List (List ℕ)) (old new : Table) (text : List ℕ) → IsTable names old → text ≡ codes "w" ++ decimal old.tried
    → new.names ≡ with_text old.names text → new.tried ≡ old.tried + 1 → new.program ≡ old.program → IsTable names new
table-tried names old new text is text_is names_are tried program =
    let n : new.tried ≡ suc old.tried = omega arith in
    record {
      names_are = names_are ∙ ap (λ (t : List ℕ). with_text old.names t) text_is
          ∙ ap (λ (ts : List (List ℕ)). with_text ts (codes "w" ++ decimal old.tried)) is.names_are
          ∙ sym (ap (with_samples names) n);
      program_is = program ∙ is.program_is;
    }

-- where the table has as many texts as the sample may need, it has its names
pub has-names : (names : List (List ℕ)) (t : Table) (c : Certificate) (wanted : ℕ) → IsTable names t → wanted ≡ t.program + length (items c.sample)
    → wanted ≤ length t.names → HasNames names t c
has-names names t c wanted is e enough =
    let program = is.program_is in
    record { is = is; has = record { tried = t.tried; table_is = is.names_are; enough = omega (arith, program, e, enough) } }
