-- A record's refusal without its contents, which a first pass over the bytes finds, and its contents without the
-- refusals, which a second pass takes: edition 2. Definitions only.
use Rattle.std.specs.Prelude.{ℕ, zero, suc, ◌+◌, ◌*◌, Bool, true, cond, List, drop, replicate}
use Rattle.std.proofs.Math.Option.{Option}
use Rattle.rules.specs.RefusalNumbers.{Refusal}
use Rattle.rules.specs.RefusalNumbers.Entries.{or_else}
use Rattle.rules.specs.TheGridAndItsBounds.{Model, Head, Grid}
use Rattle.rules.specs.Fields.{field_size, contents, sound_here}
use Rattle.rules.specs.MapRecord.{extents_length, extents_field, model_length, model_field, frame_length, frame_field, row_width, row_count}
use Rattle.rules.specs.EditionTwo.{Kept, byte_length, pair_field, cuts_for, cuts_field, open_field, marks_running, row_size, bands_size}
use Rattle.marks.specs.Marking.{grid_of}
use Rattle.rows.specs.Rows.{unless_sound, field_broken, rows_broken, rows_have, odds_at}
use Rattle.open_rows.specs.OpenRows.{open_refusal, open_odds, open_stamps}
use Rattle.record_reader.specs.Reading.{end_refusal, rows_and_end}

-- ---- from the frame on
unfoldable pub open_and_end : Model → ℕ → ℕ → ℕ → ℕ → List ℕ → Option Refusal
open_and_end m frame width count offset rest =
    let size : ℕ = count * row_size true width in
    or_else (open_refusal m frame width count offset rest) (end_refusal (offset + size) (drop size rest))

unfoldable pub after_frame : Model → ℕ → ℕ → ℕ → ℕ → List ℕ → Option Refusal
after_frame m frame width count offset rest =
    let size : ℕ = field_size byte_length in
    unless_sound offset (sound_here open_field rest)
    (cond (marks_running (contents open_field rest))
    (open_and_end m frame width count (offset + size) (drop size rest))
    (rows_and_end m width count (offset + size) (drop size rest)))

unfoldable pub after_bands : Model → ℕ → ℕ → ℕ → List ℕ → Option Refusal
after_bands m width count offset rest =
    let size : ℕ = field_size frame_length in
    unless_sound offset (sound_here frame_field rest)
    (after_frame m (contents frame_field rest) width count (offset + size) (drop size rest))

-- ---- the pairs and the cuts
-- the pairs after the first, and where the cuts' field stands
abbrev pub pairs_broken : ℕ → ℕ → List ℕ → Option Refusal
pairs_broken n offset rest =
    let size : ℕ = field_size model_length in
    rows_broken (field_broken (pair_field (contents model_field rest).ceiling)) size n (offset + size) (drop size rest)

abbrev pub pairs_here : ℕ → List ℕ → List Model
pairs_here n rest = rows_have (contents model_field) (field_size model_length) n (drop (field_size model_length) rest)

abbrev pub cuts_at : ℕ → ℕ
cuts_at n = field_size model_length + n * field_size model_length

abbrev pub cuts_broken : ℕ → List ℕ → ℕ → List ℕ → Option Refusal
cuts_broken n es offset rest = field_broken (cuts_field n es (contents model_field rest) (pairs_here n rest)) (offset + cuts_at n) (drop (cuts_at n) rest)

-- what breaks them, and the model that they give
unfoldable pub bands_broken : ℕ → List ℕ → ℕ → List ℕ → Option Refusal
bands_broken zero es offset rest = field_broken model_field offset rest
bands_broken (suc n) es offset rest =
    or_else (field_broken model_field offset rest) (or_else (pairs_broken (suc n) offset rest) (cuts_broken (suc n) es offset rest))

unfoldable pub bands_here : ℕ → List ℕ → List ℕ → Model
bands_here zero es rest = contents model_field rest
bands_here (suc n) es rest = contents (cuts_field (suc n) es (contents model_field rest) (pairs_here (suc n) rest)) (drop (cuts_at (suc n)) rest)

unfoldable pub after_extents : ℕ → List ℕ → ℕ → List ℕ → Option Refusal
after_extents n es offset rest =
    or_else (bands_broken n es offset rest)
    (after_bands (bands_here n es rest) (row_width es) (row_count es) (offset + bands_size n) (drop (bands_size n) rest))

-- ---- what a record of so many axes holds, where it is none that is refused
-- the lists, from the mark on
unfoldable pub grid_here : ℕ → ℕ → List ℕ → Grid
grid_here width count rest =
    let rows : List ℕ = drop (field_size byte_length) rest in
    cond (marks_running (contents open_field rest))
    (grid_of (open_odds width count rows) (open_stamps width count rows))
    (grid_of (odds_at width count rows) (replicate (width * count) 0))

-- where the bands, the frame and the mark stand
abbrev pub bands_at : ℕ → ℕ
bands_at axes = field_size byte_length + field_size (extents_length axes)

abbrev pub frame_at : ℕ → ℕ
frame_at axes = bands_at axes + bands_size (cuts_for axes)

abbrev pub mark_at : ℕ → ℕ
mark_at axes = frame_at axes + field_size frame_length

abbrev pub extents_here : ℕ → List ℕ → List ℕ
extents_here axes bytes = contents (extents_field axes) (drop (field_size byte_length) bytes)

abbrev pub head_here : ℕ → List ℕ → Head
head_here axes bytes =
    record {
      extents = extents_here axes bytes;
      model = bands_here (cuts_for axes) (extents_here axes bytes) (drop (bands_at axes) bytes);
      frame = contents frame_field (drop (frame_at axes) bytes);
    }

abbrev pub running_here : ℕ → List ℕ → Bool
running_here axes bytes = marks_running (contents open_field (drop (mark_at axes) bytes))

unfoldable pub kept_in : ℕ → List ℕ → Kept
kept_in axes bytes =
    record {
      head = head_here axes bytes;
      running = running_here axes bytes;
      grid = grid_here (row_width (extents_here axes bytes)) (row_count (extents_here axes bytes)) (drop (mark_at axes) bytes);
    }
