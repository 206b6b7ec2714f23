use Rattle.scasp_law_program_text.proofs.ReadbackLemmas.VariableReading.{variable-read, rule-variable}
use Rattle.scasp_law_program_text.proofs.readback.laws.variables_are_read_back.Goals as goal

pub returns : goal.returns
returns c =
    record {
      any = variable-read;
      of_rules = rule-variable;
    }
