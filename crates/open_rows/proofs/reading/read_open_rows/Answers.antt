-- What is left to read completes the lists.
use Prim.Native.Nat.{◌+◌, ◌-◌}
use mathlib.Core.Bool.{true}
use mathlib.Core.Path.{◌≡◌, sym, ap, ◌∙◌}
use native.Mathlib.Omega.{arith}
use lib.ListN.{length, drop}
use lib.Seq.{sets, length-sets}
use Rattle.rules.specs.Fields.{field_size, floats_in}
use Rattle.rules.specs.MapRecord.{row_length}
use Rattle.rules.specs.EditionTwo.{stamps_in, row_size}
use Rattle.fields.proofs.Stores.{run_on, put_part}
use Rattle.fields.proofs.Floats.{one_left, length_cut}
use Rattle.rows.proofs.Odds.{length_floats}
use Rattle.open_rows.specs.OpenRows.{open_odds, open_stamps}
use Rattle.open_rows.proofs.Steps.{length-stamps}
use Rattle.open_rows.proofs.Rows.{odds-left, stamps-left}
use Rattle.open_rows.proofs.reading.read_open_rows.Goals as goal

pub loop-preserved : goal.loop-preserved
loop-preserved c = let a = c.args in
    let l = c.loop in
    let more = c.loop-test.true in
    let one = one_left a.count l.counter (row_size true a.width) more in
    let two = one_left a.count l.counter a.width more in
    let odds_bytes = drop (l.here + 3) a.bytes.now in
    let odds = floats_in a.width odds_bytes in
    let odds_size = length_floats a.width odds_bytes in
    let odds_read = c.read_row.ensures ∙ ap (λ n. floats_in n odds_bytes) (length_cut a.width l.place l.odds (omega arith)) in
    let odds_put = put_part _ l.odds l.place a.width (ap length odds_read ∙ odds_size) (omega arith) ∙ ap (sets l.odds l.place) odds_read in
    let stamps_bytes = drop (l.here + field_size (row_length a.width) + 3) a.bytes.now in
    let stamps = stamps_in a.width stamps_bytes in
    let stamps_size = length-stamps a.width stamps_bytes in
    let stamps_read = c.read_stamps.ensures ∙ ap (λ n. stamps_in n stamps_bytes) (length_cut a.width l.place l.stamps (omega arith)) in
    let stamps_put = put_part _ l.stamps l.place a.width (ap length stamps_read ∙ stamps_size) (omega arith) ∙ ap (sets l.stamps l.place) stamps_read in
    record {
      whole = omega arith;
      odds_room = omega arith;
      stamps_room = omega arith;
      odds_kept = ap length odds_put ∙ length-sets l.odds l.place odds ∙ l.invariant.odds_kept;
      stamps_kept = ap length stamps_put ∙ length-sets l.stamps l.place stamps ∙ l.invariant.stamps_kept;
      odds_left = l.invariant.odds_left ∙ ap (sets l.odds l.place) (odds-left a.width a.count l.counter l.here a.bytes.now more)
          ∙ run_on odds _ l.odds _ l.place a.width odds_size odds_put;
      stamps_left = l.invariant.stamps_left ∙ ap (sets l.stamps l.place) (stamps-left a.width a.count l.counter l.here a.bytes.now more)
          ∙ run_on stamps _ l.stamps _ l.place a.width stamps_size stamps_put;
    }

pub returns-clause-odds : goal.returns-clause-odds
unfolding open_odds
returns-clause-odds c = let a = c.args in
    let l = c.loop in
    let none : a.count - l.counter ≡ 0 = omega arith in
    sym (l.invariant.odds_left ∙ ap (λ n. sets l.odds l.place (open_odds a.width n (drop l.here a.bytes.now))) none)

pub returns-clause-stamps : goal.returns-clause-stamps
unfolding open_stamps
returns-clause-stamps c = let a = c.args in
    let l = c.loop in
    let none : a.count - l.counter ≡ 0 = omega arith in
    sym (l.invariant.stamps_left ∙ ap (λ n. sets l.stamps l.place (open_stamps a.width n (drop l.here a.bytes.now))) none)
