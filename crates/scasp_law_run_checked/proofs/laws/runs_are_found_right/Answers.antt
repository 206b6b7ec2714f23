use Rattle.scasp_law_run_checked.proofs.Finding.{runs-found}
use Rattle.scasp_law_run_checked.proofs.laws.runs_are_found_right.Goals as goal

pub returns : goal.returns
returns c =
    runs-found (λ names x n. c.blocks_are_lines.ensures names x n) c.searches_are_named.ensures c.answers_are_printable.ensures c.answers_are_sampled.ensures c.searched_answers_are_right.ensures
    c.grown_tables_read.ensures
