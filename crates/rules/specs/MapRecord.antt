-- Requirements, "Map record (added)": the bytes of a map, and what a list of bytes means. It is made of the house's
-- fields (`Fields`): each has a name, a tag, a length and what it means, and edition 1 is one arrangement of them.
-- Definitions only.
use Rattle.std.specs.Prelude.{ℕ, zero, suc, ◌+◌, ◌*◌, Bool, true, cond, ◌&&◌, List, [], ◌∷◌, ◌++◌, eqb, leb, length, get_or, take, drop, Float}
use Rattle.std.specs.Float.{nan, binary64}
use Rattle.std.specs.Float.Ieee.{le, to_bits}
use Rattle.rules.specs.RefusalNumbers.{Answer, given, refused, and_then, broken_record, no_room}
use Rattle.rules.specs.TheGridAndItsBounds.{Pair, Band, Model, Head, plain_model, cells, floor, bounded, layer_of, extents_in_bounds}
use Rattle.rules.specs.MarksAndFrames.{open_frame}
use Rattle.rules.specs.Fields.{little_endian, from_little_endian, short_size, word_size, float_size, float_bytes, floats_in, tag_size, field_size, field}
use Rattle.rules.specs.Fields.{Field, Reading, sound_or, field_then, rows_then, nothing_follows, rows_of, rows_tried}

-- ---- the fields
-- "1 extents (u16 each; its length, 4 or 6, gives the axes)"
abbrev pub extents_tag : ℕ
extents_tag = 1

abbrev pub extents_length : ℕ → ℕ
extents_length axes = short_size * axes

unfoldable pub extent_bytes : List ℕ → List ℕ
extent_bytes [] = []
extent_bytes (e ∷ es) = little_endian short_size e ++ extent_bytes es

unfoldable pub extents_in : ℕ → List ℕ → List ℕ
extents_in zero bs = []
extents_in (suc n) bs = from_little_endian short_size bs ∷ extents_in n (drop short_size bs)

abbrev pub extents_field : ℕ → Field (List ℕ)
extents_field axes = record { tag = extents_tag; size = extents_length axes; means = extents_in axes; sound = extents_in_bounds }

-- "2 occupied, free, ceiling": one pair of steps and no cuts. On three axes, too: there whoever reads the record gives
-- the cuts.
abbrev pub model_tag : ℕ
model_tag = 2

abbrev pub model_length : ℕ
model_length = float_size * 3

abbrev pub model_bytes : Model → List ℕ
model_bytes m = float_bytes (m.lowest.occupied ∷ m.lowest.free ∷ m.ceiling ∷ [])

abbrev pub model_in : List Float → Model
model_in xs = plain_model (record { occupied = get_or xs 0 nan; free = get_or xs 1 nan }) (get_or xs 2 nan)

abbrev pub model_field : Field Model
model_field = record { tag = model_tag; size = model_length; means = λ bs. model_in (floats_in 3 bs); sound = bounded }

-- "3 frame, 1 to 2,147,483,647"
abbrev pub frame_tag : ℕ
frame_tag = 3

abbrev pub frame_length : ℕ
frame_length = word_size

abbrev pub frame_field : Field ℕ
frame_field = record { tag = frame_tag; size = frame_length; means = from_little_endian word_size; sound = open_frame }

-- "4 one row of odds along axis 0, for every row in index order"
abbrev pub row_tag : ℕ
row_tag = 4

abbrev pub row_length : ℕ → ℕ
row_length width = float_size * width

abbrev pub row_width : List ℕ → ℕ
row_width es = get_or es 0 0

unfoldable pub row_count : List ℕ → ℕ
row_count es = cells (drop 1 es)

-- Change request 3: "A record's odds must lie from the floor to the ceiling, both included and NaN excluded, when read
-- and when written."
abbrev pub from_floor_to_ceiling : Model → Float → Bool
from_floor_to_ceiling m x = le (floor m) x && le x m.ceiling

unfoldable pub odds_in_bounds : Model → List Float → Bool
odds_in_bounds m [] = true
odds_in_bounds m (x ∷ xs) = from_floor_to_ceiling m x && odds_in_bounds m xs

abbrev pub row_field : Model → ℕ → Field (List Float)
row_field m width = record { tag = row_tag; size = row_length width; means = floats_in width; sound = odds_in_bounds m }

-- "5 empty, the end"
abbrev pub end_tag : ℕ
end_tag = 5

abbrev pub end_length : ℕ
end_length = 0

abbrev pub end_field : Field (Unit {0})
end_field = record { tag = end_tag; size = end_length; means = λ bs. tt; sound = λ t. true }

-- ---- the bytes of a map
unfoldable pub rows_bytes : ℕ → ℕ → List Float → List ℕ
rows_bytes width n odds = rows_of (λ left. field row_tag (float_bytes (take width left))) (drop width) n odds

-- "In this order: 1 extents ..; 2 occupied, free, ceiling; 3 frame ..; 4 one row of odds along axis 0, for every row in
-- index order; 5 empty, the end. Nothing follows."
unfoldable pub record_bytes : Head → List Float → List ℕ
record_bytes h odds =
    field extents_tag (extent_bytes h.extents)
    ++ field model_tag (model_bytes h.model)
    ++ field frame_tag (little_endian word_size h.frame)
    ++ rows_bytes (row_width h.extents) (row_count h.extents) odds
    ++ field end_tag []

-- where the rows begin: after the extents' field, the model's and the frame's
unfoldable pub rows_offset : ℕ → ℕ
rows_offset axes = field_size (extents_length axes) + field_size model_length + field_size frame_length

-- ---- what a list of bytes means
-- what a record holds: the head, and the odds in index order
pub record Stored : Type 0 where
  pub head : Head
  pub odds : List Float

-- rows of numbers, one after another
unfoldable pub joined : {A : Type 0} → List (List A) → List A
joined [] = []
joined (xs ∷ rows) = xs ++ joined rows

-- so many rows of odds, then what follows them
unfoldable pub odds_then : {B : Type 0} → Model → ℕ → ℕ → (List Float → Reading B) → Reading B
odds_then m width n next = rows_then (field_then (row_field m width)) n (λ rows. next (joined rows))

-- the end's field, and nothing after it
abbrev pub end_then : {B : Type 0} → B → Reading B
end_then b = field_then end_field (λ (t : Unit {0}). nothing_follows b)

-- the record of so many axes that a list of bytes is, or 10 with the offset of its first broken field
unfoldable pub record_of : ℕ → List ℕ → Answer Stored
record_of axes bytes =
    field_then (extents_field axes)
    (λ es. field_then model_field
    (λ m. field_then frame_field
    (λ frame. odds_then m (row_width es) (row_count es)
    (λ odds. end_then (record { head = record { extents = es; model = m; frame = frame }; odds = odds })))))
    0
    bytes

-- "its length, 4 or 6, gives the axes"
unfoldable pub any_record_of : List ℕ → Answer Stored
any_record_of bytes =
    let n : ℕ = from_little_endian short_size (drop tag_size bytes) in
    cond (eqb n (extents_length 2)) (record_of 2 bytes) (cond (eqb n (extents_length 3)) (record_of 3 bytes) (refused (broken_record 0)))

-- Change request 6: "Whoever reads an edition 1 record of three axes supplies the cuts." Every band has the record's
-- pair.
unfoldable pub bands_from : Pair → List ℕ → List Band
bands_from p [] = []
bands_from p (c ∷ cs) = record { cut = c; pair = p } ∷ bands_from p cs

abbrev pub model_with_cuts : List ℕ → List ℕ → Model → Model
model_with_cuts es [] m = m
model_with_cuts es (c ∷ cs) m =
    record { lowest = m.lowest; above = bands_from m.lowest (c ∷ cs); ceiling = m.ceiling; layer = layer_of es }

abbrev pub with_cuts : List ℕ → Head → Head
with_cuts cuts h = record { extents = h.extents; model = model_with_cuts h.extents cuts h.model; frame = h.frame }

-- "Edition 1 records can be written only with equal pairs": "10 at offset 9 (the model field of three axes) when
-- unequal pairs are asked of edition 1"
unfoldable pub same_bits : Float → Float → Bool
same_bits x y = eqb (to_bits binary64 x) (to_bits binary64 y)

unfoldable pub same_pair : Pair → Pair → Bool
same_pair p q = same_bits p.occupied q.occupied && same_bits p.free q.free

unfoldable pub equal_pairs : Pair → List Band → Bool
equal_pairs p [] = true
equal_pairs p (b ∷ bs) = same_pair p b.pair && equal_pairs p bs

unfoldable pub pairs_checked : Head → Answer (Unit {0})
pairs_checked h = sound_or (field_size (extents_length (length h.extents))) (equal_pairs h.model.lowest h.model.above) tt

-- "Writing applies the same bounds .. to odds (10, offset of that row), before 11."
unfoldable pub rows_checked : Model → ℕ → ℕ → ℕ → List Float → Answer (Unit {0})
rows_checked m width n offset odds =
    rows_tried (λ at left. sound_or at (odds_in_bounds m (take width left)) tt) (drop width) (field_size (row_length width)) n offset odds

unfoldable pub record_size : List ℕ → ℕ
record_size es = rows_offset (length es) + row_count es * field_size (row_length (row_width es)) + field_size end_length

unfoldable pub room_for : List ℕ → ℕ → Answer ℕ
room_for es room = cond (leb (record_size es) room) (given (record_size es)) (refused (no_room (record_size es)))

unfoldable pub writable : Head → List Float → ℕ → Answer ℕ
writable h odds room =
    let es : List ℕ = h.extents in
    and_then (pairs_checked h)
    (λ (s : Unit {0}). and_then (rows_checked h.model (row_width es) (row_count es) (rows_offset (length es)) odds) (λ (t : Unit {0}). room_for es room))
