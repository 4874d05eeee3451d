-- Requirements, "Refusal numbers", the paragraph under the table: what each entry uses, which refusal comes first, and
-- so what each entry answers and leaves in the lists lent to it. The contract of an entry is an equation with its
-- definition here. Definitions only.
use Rattle.std.specs.Prelude.{ℕ, suc, ◌+◌, Bool, true, false, cond, not, ◌&&◌, List, [], ◌∷◌, ◌++◌, ℤ, ltb, length, get_or, drop, replicate, Float}
use Rattle.std.proofs.Math.Option.{Option, some, none}
use Rattle.std.specs.Float.{nan, Format}
use Rattle.std.specs.Float.Ieee.{is_nan}
use Rattle.rules.specs.RefusalNumbers.{Refusal, Answer, given, refused, and_then}
use Rattle.rules.specs.RefusalNumbers.{dimension_too_small, capacity_overflow, bad_model, bad_cuts, bad_buffer, bad_beams, bad_frame, odds_not_a_number}
use Rattle.rules.specs.TheGridAndItsBounds.{Model, Head, Grid, least_extent, fits_capacity, bounded, cuts_in_bounds, one_per_cell, fresh_grid, fresh_frame}
use Rattle.rules.specs.Coordinates.{Sample, flat_index, cell_containing, sample}
use Rattle.rules.specs.MarksAndFrames.{Mark, mark_at, with_cell, set_odds, opened_frame, opened_stamps, open_frame}
use Rattle.rules.specs.OneBeam.{Beam, Integrated, integrated_beam, integrated, flat_shape, beams_of}
use Rattle.rules.specs.MapRecord.{Stored, record_bytes, record_of, with_cuts, writable}

-- "1 DimensionTooSmall | an extent < 2 | first axis, extent"
unfoldable pub first_too_small : ℕ → List ℕ → Option Refusal
first_too_small k [] = none
first_too_small k (e ∷ es) = cond (ltb e least_extent) (some (dimension_too_small k e)) (first_too_small (suc k) es)

-- the first of several
abbrev pub or_else : Option Refusal → Option Refusal → Option Refusal
or_else (some r) next = some r
or_else none next = next

-- what is used and does not hold is refused
abbrev pub unless_holds : Bool → Bool → Refusal → Option Refusal
unless_holds used holds r = cond (used && not holds) (some r) none

-- "Number 1 is tried on all axes before 2."
unfoldable pub extents_refusal : List ℕ → Option Refusal
extents_refusal es = or_else (first_too_small 0 es) (unless_holds true (fits_capacity es) capacity_overflow)

-- what an entry uses beside the extents
pub record Uses : Type 0 where
  pub model : Bool
  pub odds : Bool
  pub stamps : Bool
  pub frame : Bool

-- "Each entry that takes a head checks 1, 2, 3, 4 as far as it uses them, then 9, then 8, then points." By change
-- request 6 "15, bad cuts, comes after 3"; the cuts are used where the model is.
unfoldable pub head_refusal : Uses → Head → ℕ → ℕ → Option Refusal
head_refusal u h odds stamps =
    or_else (extents_refusal h.extents)
    (or_else (unless_holds u.model (bounded h.model) bad_model)
    (or_else (unless_holds u.model (cuts_in_bounds h.extents h.model) bad_cuts)
    (or_else (unless_holds u.odds (one_per_cell h.extents odds) bad_buffer)
    (or_else (unless_holds u.stamps (one_per_cell h.extents stamps) bad_buffer)
    (unless_holds u.frame (open_frame h.frame) bad_frame)))))

-- "Extents are used by all; the model by `new`, marks, beams, `set_log_odds` and writing; odds by `new`, `reset`,
-- marks, beams, `set_log_odds`, samples, cell reads and writing; stamps by `new`, `reset`, `begin_scan` (at any frame),
-- marks and beams." The frame (9) by "marking, integrating or writing a record".
pub data Entry : Type 0 where
  new reset begin_scan marks beams set_log_odds samples cell_reads cell-containing writing : Entry

abbrev pub uses_of : Entry → Uses
uses_of new = record { model = true; odds = true; stamps = true; frame = false }
uses_of reset = record { model = false; odds = true; stamps = true; frame = false }
uses_of begin_scan = record { model = false; odds = false; stamps = true; frame = false }
uses_of marks = record { model = true; odds = true; stamps = true; frame = true }
uses_of beams = record { model = true; odds = true; stamps = true; frame = true }
uses_of set_log_odds = record { model = true; odds = true; stamps = false; frame = false }
uses_of samples = record { model = false; odds = true; stamps = false; frame = false }
uses_of cell_reads = record { model = false; odds = true; stamps = false; frame = false }
uses_of cell-containing = record { model = false; odds = false; stamps = false; frame = false }
uses_of writing = record { model = true; odds = true; stamps = false; frame = true }

-- "Refused calls write nothing, except 7 in a list." What an entry answers, and the lists lent to it afterwards.
pub record Outcome (A L : Type 0) : Type 0 where
  pub answer : Answer A
  pub lent : L

abbrev pub unless_refused : {A L : Type 0} → Option Refusal → L → Outcome A L → Outcome A L
unless_refused (some r) lent out = record { answer = refused r; lent = lent }
unless_refused none lent out = out

abbrev pub answered : {A : Type 0} → Option Refusal → Answer A → Answer A
answered (some r) a = refused r
answered none a = a

-- `new`: a fresh map of these extents and this model
unfoldable pub new_entry : List ℕ → Model → Grid → Outcome Head Grid
new_entry es m g =
    let h : Head = record { extents = es; model = m; frame = fresh_frame } in
    unless_refused (head_refusal (uses_of new) h (length g.odds) (length g.stamps)) g (record { answer = given h; lent = fresh_grid es })

-- `reset`: "A fresh map has odds +0.0, stamps 0, frame 1, as `reset` gives."
unfoldable pub reset_entry : Head → Grid → Outcome Head Grid
reset_entry h g =
    unless_refused (head_refusal (uses_of reset) h (length g.odds) (length g.stamps)) g
    (record { answer = given (record { extents = h.extents; model = h.model; frame = fresh_frame }); lent = fresh_grid h.extents })

-- `begin_scan`, at any frame
unfoldable pub begin_scan_entry : Head → List ℕ → Outcome Head (List ℕ)
begin_scan_entry h stamps =
    unless_refused (head_refusal (uses_of begin_scan) h 0 (length stamps)) stamps
    (record {
      answer = given (record { extents = h.extents; model = h.model; frame = opened_frame h.frame });
      lent = opened_stamps h.frame stamps;
    })

-- `mark_free` and `mark_occupied`: whether the mark changed the cell
abbrev pub mark_answer : Format → Head → Bool → Grid → Answer ℕ → Outcome Bool Grid
mark_answer f h occupied g (refused r) = record { answer = refused r; lent = g }
mark_answer f h occupied g (given i) =
    let x : Mark = record { place = i; occupied = occupied } in
    let r = mark_at f h.model h.frame x g in
    record { answer = given r.changed; lent = with_cell g i r.cell }

unfoldable pub mark_entry : Format → Bool → Head → List ℤ → Grid → Outcome Bool Grid
mark_entry f occupied h cell g =
    unless_refused (head_refusal (uses_of marks) h (length g.odds) (length g.stamps)) g
    (mark_answer f h occupied g (flat_index h.extents cell))

-- `update_ray` and `update_scan`: the count
abbrev pub of_integrated : Integrated → Outcome ℕ Grid
of_integrated r = record { answer = r.answer; lent = r.grid }

unfoldable pub update_ray_entry : Format → Head → Beam → Grid → Outcome ℕ Grid
update_ray_entry f h b g =
    unless_refused (head_refusal (uses_of beams) h (length g.odds) (length g.stamps)) g
    (of_integrated (integrated_beam f h.extents h.model h.frame b g))

unfoldable pub update_scan_entry : Format → Head → List Float → List ℕ → Grid → Outcome ℕ Grid
update_scan_entry f h numbers hits g =
    let n : ℕ = length h.extents in
    unless_refused
    (or_else (head_refusal (uses_of beams) h (length g.odds) (length g.stamps)) (unless_holds true (flat_shape n numbers hits) bad_beams)) g
    (of_integrated (integrated f h.extents h.model h.frame (beams_of n numbers hits) g))

-- the same for "a lent slice of beam structs": it has no shape to try, so refusal 8 does not occur
unfoldable pub update_beams_entry : Format → Head → List Beam → Grid → Outcome ℕ Grid
update_beams_entry f h bs g =
    unless_refused (head_refusal (uses_of beams) h (length g.odds) (length g.stamps)) g
    (of_integrated (integrated f h.extents h.model h.frame bs g))

-- `set_log_odds`
abbrev pub set_answer : Head → Float → List Float → Answer ℕ → Outcome (Unit {0}) (List Float)
set_answer h x odds (refused r) = record { answer = refused r; lent = odds }
set_answer h x odds (given i) = record { answer = given tt; lent = set_odds h.model i x odds }

unfoldable pub set_log_odds_entry : Head → List ℤ → Float → List Float → Outcome (Unit {0}) (List Float)
set_log_odds_entry h cell x odds =
    unless_refused (head_refusal (uses_of set_log_odds) h (length odds) 0) odds (set_answer h x odds (flat_index h.extents cell))

-- `set_log_odds_checked`, change request 3: "refuses NaN and otherwise does the same", with 13 "after 5"
abbrev pub checked_answer : Model → Float → List Float → Answer ℕ → Outcome (Unit {0}) (List Float)
checked_answer m x odds (refused r) = record { answer = refused r; lent = odds }
checked_answer m x odds (given i) =
    cond (is_nan x) (record { answer = refused odds_not_a_number; lent = odds }) (record { answer = given tt; lent = set_odds m i x odds })

unfoldable pub set_log_odds_checked_entry : Head → List ℤ → Float → List Float → Outcome (Unit {0}) (List Float)
set_log_odds_checked_entry h cell x odds =
    unless_refused (head_refusal (uses_of set_log_odds) h (length odds) 0) odds (checked_answer h.model x odds (flat_index h.extents cell))

-- "A sample or cell read off the grid answers "nothing", not a number from this table."
abbrev pub read_at : List Float → Answer ℕ → Option Float
read_at odds (given i) = some (get_or odds i nan)
read_at odds (refused r) = none

unfoldable pub log_odds_at_entry : Head → List ℤ → List Float → Answer (Option Float)
log_odds_at_entry h cell odds =
    answered (head_refusal (uses_of cell_reads) h (length odds) 0) (given (read_at odds (flat_index h.extents cell)))

unfoldable pub sample_log_odds_entry : Format → Head → List Float → List Float → Answer (Option Sample)
sample_log_odds_entry f h point odds =
    answered (head_refusal (uses_of samples) h (length odds) 0) (given (sample f h.extents odds point))

-- `cell_containing`
unfoldable pub cell_containing_entry : Format → Head → List Float → Answer (List ℤ)
cell_containing_entry f h point = answered (head_refusal (uses_of cell-containing) h 0 0) (cell_containing f h.extents point)

-- reading a map record of so many axes: "Reading tries the whole record (10) before the lent buffers (4) and gives
-- stamps 0." By change request 6 "whoever reads an edition 1 record of three axes supplies the cuts", and 15 comes "in
-- reading after 10 and before 4"; for two axes there are none.
abbrev pub read_answer : List ℕ → Grid → Answer Stored → Outcome Head Grid
read_answer cuts g (refused r) = record { answer = refused r; lent = g }
read_answer cuts g (given s) =
    let h : Head = with_cuts cuts s.head in
    cond (cuts_in_bounds h.extents h.model)
    (cond (one_per_cell h.extents (length g.odds) && one_per_cell h.extents (length g.stamps))
    (record { answer = given h; lent = record { odds = s.odds; stamps = replicate (length g.stamps) 0 } })
    (record { answer = refused bad_buffer; lent = g }))
    (record { answer = refused bad_cuts; lent = g })

unfoldable pub read_record_entry : ℕ → List ℕ → List ℕ → Grid → Outcome Head Grid
read_record_entry axes cuts bytes g = read_answer cuts g (record_of axes bytes)

-- writing one: the bytes written stand first in what was lent, the rest of it stays
abbrev pub write_answer : Head → List Float → List ℕ → Answer ℕ → Outcome ℕ (List ℕ)
write_answer h odds out (refused r) = record { answer = refused r; lent = out }
write_answer h odds out (given n) = record { answer = given n; lent = record_bytes h odds ++ drop n out }

unfoldable pub write_record_entry : Head → List Float → List ℕ → Outcome ℕ (List ℕ)
write_record_entry h odds out =
    unless_refused (head_refusal (uses_of writing) h (length odds) 0) out (write_answer h odds out (writable h odds (length out)))
