-- Change request 7, "Edition 2 of the map record": its fields, the bytes of a map, and what a list of bytes means. It
-- is another arrangement of the fields of `MapRecord`, with four of its own. What reading, writing and the moves
-- between the editions answer is in `RefusalNumbers.Editions`. Definitions only.
use Rattle.std.specs.Prelude.{ℕ, zero, suc, ◌+◌, ◌*◌, Bool, true, false, cond, ◌&&◌, List, [], ◌∷◌, ◌++◌, eqb, leb, length, take, drop, replicate, Float}
use Rattle.rules.specs.RefusalNumbers.{Answer, given, refused, and_then, no_room}
use Rattle.rules.specs.TheGridAndItsBounds.{Band, Model, Head, Grid, cells, bounded, layer_of, cuts_in_bounds}
use Rattle.rules.specs.MarksAndFrames.{frame_of}
use Rattle.rules.specs.Fields.{little_endian, from_little_endian, short_size, word_size, float_bytes, field_size, field}
use Rattle.rules.specs.Fields.{Field, Reading, sound_or, field_then, rows_then, rows_of, rows_tried}
use Rattle.rules.specs.MapRecord.{extents_tag, extents_length, extent_bytes, extents_in, extents_field, model_tag, model_length, model_bytes, model_field}
use Rattle.rules.specs.MapRecord.{frame_tag, frame_length, frame_field, row_tag, row_length, row_width, row_count, row_field, odds_in_bounds}
use Rattle.rules.specs.MapRecord.{end_tag, end_length, end_then, same_bits}

-- ---- the fields
-- a field of one byte
abbrev pub byte_length : ℕ
byte_length = 1

-- "tag 6 (one byte, 2)"; 10 "for a tag 6 not 2"
abbrev pub edition_tag : ℕ
edition_tag = 6

abbrev pub edition_two : ℕ
edition_two = 2

abbrev pub edition_field : Field ℕ
edition_field = record { tag = edition_tag; size = byte_length; means = from_little_endian byte_length; sound = λ n. eqb n edition_two }

-- "tag 2 once for each pair with the same ceiling": the first is edition 1's field, and 10 stands at a later one "for a
-- ceiling unlike the first"
abbrev pub pair_field : Float → Field Model
pair_field ceiling =
    record { tag = model_tag; size = model_length; means = model_field.means; sound = λ m. bounded m && same_bits m.ceiling ceiling }

-- "tag 7 (two u16 cuts, three axes only)": with the pairs before it, it gives the model, and 10 stands at it "for cuts
-- outside their bounds"
abbrev pub cuts_tag : ℕ
cuts_tag = 7

abbrev pub cuts_length : ℕ → ℕ
cuts_length n = short_size * n

-- how many cuts a map of so many axes has
unfoldable pub cuts_for : ℕ → ℕ
cuts_for axes = cond (eqb axes 3) 2 0

unfoldable pub bands_over : List ℕ → List Model → List Band
bands_over [] ms = []
bands_over (c ∷ cs) [] = []
bands_over (c ∷ cs) (m ∷ ms) = record { cut = c; pair = m.lowest } ∷ bands_over cs ms

abbrev pub laid : List ℕ → Model → List Model → List ℕ → Model
laid es m ms cuts = record { lowest = m.lowest; above = bands_over cuts ms; ceiling = m.ceiling; layer = layer_of es }

abbrev pub cuts_field : ℕ → List ℕ → Model → List Model → Field Model
cuts_field n es m ms = record { tag = cuts_tag; size = cuts_length n; means = λ bs. laid es m ms (extents_in n bs); sound = cuts_in_bounds es }

-- "tag 8 (0 closed, 1 open, as the writer's caller says)"; 10 for "a tag 8 not 0 or 1"
abbrev pub open_tag : ℕ
open_tag = 8

abbrev pub open_byte : Bool → ℕ
open_byte running = cond running 1 0

abbrev pub open_field : Field ℕ
open_field = record { tag = open_tag; size = byte_length; means = from_little_endian byte_length; sound = λ n. leb n 1 }

abbrev pub marks_running : ℕ → Bool
marks_running n = eqb n 1

-- "After an open mark, and only then, a row of stamps (tag 9) follows each odds row. Stamps there carry a frame no
-- higher than the stored one; a higher one breaks its row, read or written."
abbrev pub stamps_tag : ℕ
stamps_tag = 9

abbrev pub stamps_length : ℕ → ℕ
stamps_length width = word_size * width

unfoldable pub stamp_bytes : List ℕ → List ℕ
stamp_bytes [] = []
stamp_bytes (s ∷ ss) = little_endian word_size s ++ stamp_bytes ss

unfoldable pub stamps_in : ℕ → List ℕ → List ℕ
stamps_in zero bs = []
stamps_in (suc n) bs = from_little_endian word_size bs ∷ stamps_in n (drop word_size bs)

unfoldable pub none_above : ℕ → List ℕ → Bool
none_above frame [] = true
none_above frame (s ∷ ss) = leb (frame_of s) frame && none_above frame ss

abbrev pub stamps_field : ℕ → ℕ → Field (List ℕ)
stamps_field frame width = record { tag = stamps_tag; size = stamps_length width; means = stamps_in width; sound = none_above frame }

-- ---- the bytes of a map
unfoldable pub pairs_bytes : Float → List Band → List ℕ
pairs_bytes ceiling [] = []
pairs_bytes ceiling (b ∷ bs) = field model_tag (float_bytes (b.pair.occupied ∷ b.pair.free ∷ ceiling ∷ [])) ++ pairs_bytes ceiling bs

unfoldable pub cuts_of : List Band → List ℕ
cuts_of [] = []
cuts_of (b ∷ bs) = b.cut ∷ cuts_of bs

abbrev pub cuts_bytes : List Band → List ℕ
cuts_bytes [] = []
cuts_bytes (b ∷ bs) = field cuts_tag (extent_bytes (cuts_of (b ∷ bs)))

unfoldable pub bands_bytes : Model → List ℕ
bands_bytes m = field model_tag (model_bytes m) ++ pairs_bytes m.ceiling m.above ++ cuts_bytes m.above

-- a row of odds, and of an open record its row of stamps behind it; what is left to write after it
abbrev pub row_bytes : Bool → ℕ → Grid → List ℕ
row_bytes running width g = field row_tag (float_bytes (take width g.odds)) ++ cond running (field stamps_tag (stamp_bytes (take width g.stamps))) []

abbrev pub behind_row : ℕ → Grid → Grid
behind_row width g = record { odds = drop width g.odds; stamps = drop width g.stamps }

unfoldable pub grid_bytes : Bool → ℕ → ℕ → Grid → List ℕ
grid_bytes running width n g = rows_of (row_bytes running width) (behind_row width) n g

-- "Edition 2 has, in this order, tag 6 .., tag 1, tag 2 once for each pair .., tag 7 .., tag 3, tag 8 .., the rows and
-- tag 5."
unfoldable pub edition_bytes : Head → Bool → Grid → List ℕ
edition_bytes h running g =
    field edition_tag (edition_two ∷ [])
    ++ field extents_tag (extent_bytes h.extents)
    ++ bands_bytes h.model
    ++ field frame_tag (little_endian word_size h.frame)
    ++ field open_tag (open_byte running ∷ [])
    ++ grid_bytes running (row_width h.extents) (row_count h.extents) g
    ++ field end_tag []

-- ---- what a list of bytes means
-- what a record holds: the head, whether the sweep is open, and the lists. A closed one has stamps 0.
pub record Kept : Type 0 where
  pub head : Head
  pub running : Bool
  pub grid : Grid

-- one pair and no cuts, or several pairs and a cut between each two; then what follows them
abbrev pub bands_then : {B : Type 0} → ℕ → List ℕ → (Model → Reading B) → Reading B
bands_then zero es next = field_then model_field next
bands_then (suc n) es next =
    field_then model_field (λ m. rows_then (field_then (pair_field m.ceiling)) (suc n) (λ ms. field_then (cuts_field (suc n) es m ms) next))

-- a row of odds and of stamps; a closed record has none of these
abbrev pub row_then : {B : Type 0} → Bool → Model → ℕ → ℕ → (Grid → Reading B) → Reading B
row_then false m frame width next = field_then (row_field m width) (λ odds. next (record { odds = odds; stamps = [] }))
row_then true m frame width next =
    field_then (row_field m width) (λ odds. field_then (stamps_field frame width) (λ stamps. next (record { odds = odds; stamps = stamps })))

unfoldable pub grid_of_rows : List Grid → Grid
grid_of_rows [] = record { odds = []; stamps = [] }
grid_of_rows (g ∷ gs) = let rest : Grid = grid_of_rows gs in record { odds = g.odds ++ rest.odds; stamps = g.stamps ++ rest.stamps }

abbrev pub stamps_kept : Bool → List ℕ → List ℕ → List ℕ
stamps_kept running es stamps = cond running stamps (replicate (cells es) 0)

abbrev pub kept : Head → Bool → Grid → Kept
kept h running g = record { head = h; running = running; grid = record { odds = g.odds; stamps = stamps_kept running h.extents g.stamps } }

-- the rows and the end
unfoldable pub rows_and_end : Head → Bool → Reading Kept
rows_and_end h running = rows_then (row_then running h.model h.frame (row_width h.extents)) (row_count h.extents) (λ gs. end_then (kept h running (grid_of_rows gs)))

-- the record of so many axes that a list of bytes is, or 10 with the offset of its first broken field
unfoldable pub edition_of : ℕ → List ℕ → Answer Kept
edition_of axes bytes =
    field_then edition_field
    (λ edition. field_then (extents_field axes)
    (λ es. bands_then (cuts_for axes) es
    (λ m. field_then frame_field
    (λ frame. field_then open_field
    (λ mark. rows_and_end (record { extents = es; model = m; frame = frame }) (marks_running mark))))))
    0
    bytes

-- ---- sizes and rows, for the writer
-- where the rows begin: after the edition's field, the extents', the pairs', the cuts', the frame's and the mark's
unfoldable pub bands_size : ℕ → ℕ
bands_size zero = field_size model_length
bands_size (suc n) = field_size model_length + suc n * field_size model_length + field_size (cuts_length (suc n))

unfoldable pub grid_offset : ℕ → ℕ
grid_offset axes =
    field_size byte_length + field_size (extents_length axes) + bands_size (cuts_for axes) + field_size frame_length + field_size byte_length

abbrev pub row_size : Bool → ℕ → ℕ
row_size running width = field_size (row_length width) + cond running (field_size (stamps_length width)) 0

unfoldable pub edition_size : List ℕ → Bool → ℕ
edition_size es running = grid_offset (length es) + row_count es * row_size running (row_width es) + field_size end_length

-- "a higher one breaks its row, read or written": the row of odds, then that of stamps, each at its own offset
abbrev pub row_tried : Bool → Model → ℕ → ℕ → ℕ → Grid → Answer (Unit {0})
row_tried running m frame width offset g =
    and_then (sound_or offset (odds_in_bounds m (take width g.odds)) tt)
    (λ (t : Unit {0}). cond running (sound_or (offset + field_size (row_length width)) (none_above frame (take width g.stamps)) tt) (given tt))

unfoldable pub grid_tried : Bool → Model → ℕ → ℕ → ℕ → ℕ → Grid → Answer (Unit {0})
grid_tried running m frame width n offset g = rows_tried (row_tried running m frame width) (behind_row width) (row_size running width) n offset g

unfoldable pub edition_room : List ℕ → Bool → ℕ → Answer ℕ
edition_room es running room =
    let size : ℕ = edition_size es running in
    cond (leb size room) (given size) (refused (no_room size))

unfoldable pub edition_writable : Head → Bool → Grid → ℕ → Answer ℕ
edition_writable h running g room =
    let es : List ℕ = h.extents in
    and_then (grid_tried running h.model h.frame (row_width es) (row_count es) (grid_offset (length es)) g)
    (λ (t : Unit {0}). edition_room es running room)
