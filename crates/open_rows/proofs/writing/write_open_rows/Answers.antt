-- What is left to write completes the rows.
use Prim.Native.Nat.{◌+◌, ◌-◌}
use mathlib.Core.Bool.{true}
use mathlib.Core.Path.{◌≡◌, sym, ap, ◌∙◌}
use native.Mathlib.Omega.{arith}
use lib.ListN.{take, drop}
use lib.Seq.{sets}
use Rattle.rules.specs.Fields.{field, field_size, rows_of}
use Rattle.rules.specs.MapRecord.{row_length}
use Rattle.rules.specs.EditionTwo.{stamps_tag, stamp_bytes, row_size, grid_bytes}
use Rattle.marks.specs.Marking.{grid_of}
use Rattle.fields.proofs.Stores.{run_to, two_runs}
use Rattle.fields.proofs.Floats.{one_left}
use Rattle.rows.proofs.Written.{row, length_row}
use Rattle.open_rows.proofs.Rows.{from, open_row, length_open_row, bytes_left}
use Rattle.open_rows.proofs.writing.write_open_rows.Goals as goal

pub loop-preserved : goal.loop-preserved
loop-preserved c = let a = c.args in
    let l = c.loop in
    let more = c.loop-test.true in
    let one = one_left a.count l.counter (row_size true a.width) more in
    let two = one_left a.count l.counter a.width more in
    let marks = field stamps_tag (stamp_bytes (take (l.place + a.width - l.place) (drop l.place a.stamps.now))) in
    let size = length_row a.width l.place a.odds.now (omega arith) in
    let both = two_runs (row a.width l.place a.odds.now) marks l.out _ _ l.here (field_size (row_length a.width)) size c.write_row.ensures c.write_stamps.ensures in
    let long = length_open_row a.width l.place a.odds.now a.stamps.now (omega arith) (omega arith) in
    let rest = grid_bytes true a.width (a.count - (l.counter + 1)) (from a.width (l.place + a.width) a.odds.now a.stamps.now) in
    record {
      room = omega arith;
      all_odds = omega arith;
      all_stamps = omega arith;
      kept = c.write_stamps.auto.out ∙ c.write_row.auto.out ∙ l.invariant.kept;
      left = l.invariant.left ∙ ap (sets l.out l.here) (bytes_left a.width a.count l.counter l.place a.odds.now a.stamps.now more)
          ∙ run_to (open_row a.width l.place a.odds.now a.stamps.now) rest l.out _ l.here _ (omega arith) both;
    }

pub returns : goal.returns
unfolding grid_bytes rows_of
returns c = let a = c.args in
    let l = c.loop in
    let none : a.count - l.counter ≡ 0 = omega arith in
    sym (l.invariant.left ∙ ap (λ n. sets l.out l.here (grid_bytes true a.width n (grid_of (drop l.place a.odds.now) (drop l.place a.stamps.now)))) none)
