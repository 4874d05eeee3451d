-- What is left to read completes the odds.
use Prim.Native.Nat.{◌+◌, ◌-◌}
use mathlib.Core.Path.{◌≡◌, sym, ap, ◌∙◌}
use native.Mathlib.Omega.{arith}
use lib.ListN.{length, drop}
use lib.Seq.{sets, length-sets}
use Rattle.rules.specs.Fields.{field_size, floats_in}
use Rattle.rules.specs.MapRecord.{row_length}
use Rattle.fields.proofs.Stores.{run_on, put_part}
use Rattle.fields.proofs.Floats.{one_left, length_cut}
use Rattle.rows.specs.Rows.{odds_at}
use Rattle.rows.proofs.Odds.{rows_step, length_floats}
use Rattle.rows.proofs.reading.read_rows.Goals as goal

pub loop-preserved : goal.loop-preserved
loop-preserved c = let a = c.args in
    let l = c.loop in
    let more = c.loop-test.true in
    let one = one_left a.count l.counter (field_size (row_length a.width)) more in
    let two = one_left a.count l.counter a.width more in
    let row = floats_in a.width (drop (l.here + 3) a.bytes.now) in
    let cut = length_cut a.width l.place l.odds (omega arith) in
    let stored = c.read_row.ensures ∙ ap (λ n. floats_in n (drop (l.here + 3) a.bytes.now)) cut in
    let size = length_floats a.width (drop (l.here + 3) a.bytes.now) in
    let put = put_part _ l.odds l.place a.width (ap length stored ∙ size) (omega arith) ∙ ap (sets l.odds l.place) stored in
    record {
      whole = omega arith;
      room = omega arith;
      kept = ap length put ∙ length-sets l.odds l.place row ∙ l.invariant.kept;
      left = l.invariant.left ∙ ap (sets l.odds l.place) (rows_step a.width a.count l.counter l.here a.bytes.now more) ∙ run_on row _ l.odds _ l.place a.width size put;
    }

pub returns : goal.returns
unfolding odds_at
returns c = let a = c.args in
    let l = c.loop in
    let none : a.count - l.counter ≡ 0 = omega arith in
    sym (l.invariant.left ∙ ap (λ n. sets l.odds l.place (odds_at a.width n (drop l.here a.bytes.now))) none)
