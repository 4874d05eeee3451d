-- What is left to write completes the rows.
use Prim.Native.Nat.{◌+◌, ◌-◌}
use mathlib.Core.Path.{◌≡◌, sym, ap, ◌∙◌}
use native.Mathlib.Omega.{arith}
use lib.ListN.{drop}
use lib.Seq.{sets}
use Rattle.rules.specs.Fields.{field_size, rows_of}
use Rattle.rules.specs.MapRecord.{row_length, rows_bytes}
use Rattle.fields.proofs.Stores.{run_on}
use Rattle.fields.proofs.Floats.{one_left}
use Rattle.rows.proofs.Written.{row, length_row, rows_bytes_step}
use Rattle.rows.proofs.writing.write_rows.Goals as goal

pub loop-preserved : goal.loop-preserved
loop-preserved c = let a = c.args in
    let l = c.loop in
    let more = c.loop-test.true in
    let size = field_size (row_length a.width) in
    let one = one_left a.count l.counter size more in
    let two = one_left a.count l.counter a.width more in
    record {
      room = omega arith;
      all_there = omega arith;
      kept = c.write_row.auto.out ∙ l.invariant.kept;
      left = l.invariant.left ∙ ap (sets l.out l.here) (rows_bytes_step a.width a.count l.counter l.place a.odds.now more)
          ∙ run_on (row a.width l.place a.odds.now) (rows_bytes a.width (a.count - (l.counter + 1)) (drop (l.place + a.width) a.odds.now)) l.out _ l.here size
          (length_row a.width l.place a.odds.now (omega arith)) c.write_row.ensures;
    }

pub returns : goal.returns
unfolding rows_bytes rows_of
returns c = let a = c.args in
    let l = c.loop in
    let none : a.count - l.counter ≡ 0 = omega arith in
    sym (l.invariant.left ∙ ap (λ n. sets l.out l.here (rows_bytes a.width n (drop l.place a.odds.now))) none)
