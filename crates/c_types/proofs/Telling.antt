-- An entry's struct tells what the rule says: from the conversion's contract and the entry's. Assumes nothing.
use mathlib.Core.Path.{◌≡◌, ap, ◌∙◌}
use Rattle.rules.specs.RefusalNumbers.{Answer}
use Rattle.rules.specs.RefusalNumbers.Entries.{Outcome}
use Rattle.c_types.specs.Answers.{Told}

pub told : {A L C : Type 0} (asStruct : Answer A → C) (code rule : Outcome A L) (struct : C) → struct ≡ asStruct code.answer → code ≡ rule → Told asStruct rule struct code.lent
told asStruct code rule struct converted entry =
    record {
      answer = converted ∙ ap (λ o. asStruct o.answer) entry;
      lent = ap (λ o. o.lent) entry;
    }
