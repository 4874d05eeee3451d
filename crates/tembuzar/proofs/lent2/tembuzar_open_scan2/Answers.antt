-- The head takes over the frame alone, and so is the one that was left by the entry.
use Rattle.std.proofs.Common.{sym, ap, ◌∙◌}
use Rattle.rules.specs.TheGridAndItsBounds.{Head}
use Rattle.c_types.specs.Answers.{c_set}
use Rattle.c_types.specs.Heads.{head2}
use Rattle.lent.specs.LentHead.{Opened}
use Rattle.lent.proofs.Opening.{taken_over}
use Rattle.tembuzar.proofs.lent2.tembuzar_open_scan2.Goals as goal

pub returns : goal.returns
returns c =
    let left = rw c.from-head.ensures at c.begin_scan-answer.ensures in
    let alone = taken_over (head2 c.args.map.now) c.args.stamps.now _ left in
    record {
      answer = c.from-2.ensures ∙ ap (λ (o : Opened). c_set o.answer) left;
      lent = ap (λ (h : Head). (h, c.begin_scan-answer.new.stamps)) (sym alone) ∙ ap (λ (o : Opened). (o.head, o.stamps)) left;
    }
