-- Promise 3, what it says: in which order the beams of a sweep come, and how often each, does not matter. The premises
-- are one record and the conclusions another; above them stand the few words they are said in, beside the rules'.
-- `PromiseThree.Proof` has the theorem. Definitions only.
pub mod Dyadic
pub mod Multiple
pub mod TakeBack
pub mod OneCell
pub mod Orders
pub mod Beams
pub mod Proof
pub mod Entries
pub mod AsTests
pub mod Examples
pub mod Needs
use Rattle.std.specs.Prelude.{◌≡◌, ◌⊎◌, Bool, true, false, ◌&&◌, ◌||◌, ℕ, ◌*◌, ◌%◌, ◌^◌, ◌<◌, pos, T, eqb, length, get_or, Float}
use mathlib.Core.List.{List, ◌∷◌, Memᴰ, Permᴰ}
use Rattle.std.specs.Float.{nan, inf, fin, Format, binary32, binary64}
use Rattle.std.specs.Float.Ieee.{up, down, sub, neg, lt, le, fits}
use Rattle.rules.specs.RefusalNumbers.{Answer, given}
use Rattle.rules.specs.TheGridAndItsBounds.{Pair, Model, Head, Grid, cells, extents_in_bounds, all_pairs, bounded, floor, one_per_cell}
use Rattle.rules.specs.MarksAndFrames.{Steps, Mark, steps_at, stamp_of, frame_of, freed, occupied_step, occupy, cell_at, opened_frame, opened_stamps}
use Rattle.rules.specs.OneBeam.{Beam, Integrated, beam_marks, integrated}

-- ---- a sweep
-- the frame that `begin_scan` opens, the head as it answers it, and the grid as it leaves it
abbrev pub frame_opened : Head → ℕ
frame_opened h = opened_frame h.frame

abbrev pub head_opened : Head → Head
head_opened h = record { extents = h.extents; model = h.model; frame = frame_opened h }

abbrev pub grid_opened : Head → Grid → Grid
grid_opened h g = record { odds = g.odds; stamps = opened_stamps h.frame g.stamps }

-- the beams of the sweep, first to last, on that grid: the answer, and the grid after them
abbrev pub sweep : Format → Head → Grid → List Beam → Integrated
sweep f h g bs = integrated f h.extents h.model (frame_opened h) bs (grid_opened h g)

-- ---- cells, and what is handed to a sweep
-- something of the list makes this mark; a beam makes the marks that `beam_marks` gives, and what else a sweep may be
-- handed has its own
pub record Makes {A : Type 0} (marks_of : A → Answer (List Mark)) (bs : List A) (x : Mark) : Type 0 where
  pub giver : A
  pub among : Memᴰ giver bs
  pub marks : List Mark
  pub its_marks : marks_of giver ≡ given marks
  pub one_of_them : Memᴰ x marks

-- something of the list hit the cell at this place in the lists, or touched it at all
abbrev pub Hit : {A : Type 0} → (A → Answer (List Mark)) → List A → ℕ → Type 0
Hit marks_of bs i = Makes marks_of bs (record { place = i; occupied = true })

abbrev pub Touched : {A : Type 0} → (A → Answer (List Mark)) → List A → ℕ → Type 0
Touched marks_of bs i = (occupied : Bool) × Makes marks_of bs (record { place = i; occupied = occupied })

-- two lists with the same beams, or of the same of whatever was handed over, in any order and with any repeats
pub record Same {A : Type 0} (bs cs : List A) : Type 0 where
  pub there : (b : A) → Memᴰ b bs → Memᴰ b cs
  pub back : (b : A) → Memᴰ b cs → Memᴰ b bs

-- ---- the premises
unfoldable pub odds_within : Model → Float → Bool
odds_within m o = le (floor m) o && le o m.ceiling

pub record Opened (h : Head) (g : Grid) : Type 0 where
  -- The head is valid: its extents and its model are within their bounds. Its frame may be any: `begin_scan` opens
  -- frame 1 after 0 and after the highest or above.
  pub extents : T (extents_in_bounds h.extents)
  pub model : T (bounded h.model)
  -- There is one odds number and one stamp for each cell.
  pub odds_per_cell : T (one_per_cell h.extents (length g.odds))
  pub stamps_per_cell : T (one_per_cell h.extents (length g.stamps))
  -- The odds of every cell lie between the floor and the ceiling; a NaN does not.
  pub within : (i : ℕ) → i < cells h.extents → T (odds_within h.model (get_or g.odds i nan))
  -- As the sweep opens, no stamp bears its frame.
  pub unstamped : (i : ℕ) → i < cells h.extents → ¬ (frame_of (get_or (grid_opened h g).stamps i 0) ≡ frame_opened h)

pub record Sweep (f : Format) (h : Head) (g : Grid) (bs : List Beam) : Type 0 where
  -- The sweep is properly opened.
  pub opened : Opened h g
  -- No beam is refused.
  pub taken : (b : Beam) → Memᴰ b bs → (xs : List Mark) × (beam_marks f h.extents b ≡ given xs)

-- ---- the premises of the last sentence
-- the unit is 2 ^ -20 in binary64 and 2 ^ -8 in binary32
abbrev pub places : Format → ℕ
places binary32 = 8
places binary64 = 20

-- a whole multiple of the unit: m * 2 ^ e is m * up e / down e
unfoldable pub multiple : Format → Float → Bool
multiple f nan = false
multiple f (inf s) = false
multiple f (fin s m e) = eqb (m * up e * 2 ^ places f % down e) 0

-- a float of the format that is one
unfoldable pub of_units : Format → Float → Bool
of_units f x = fits f x && multiple f x

-- the largest size of steps and bounds: 1,048,576 in binary64, 2,048 in binary32
abbrev pub largest_size : Format → Float
largest_size binary32 = fin false 1 (pos 11)
largest_size binary64 = fin false 1 (pos 20)

unfoldable pub pair_of_units : Format → Float → Pair → Bool
pair_of_units f ceiling p =
    (of_units f p.occupied && of_units f p.free && of_units f ceiling)
    && (le p.occupied (largest_size f) && le (neg (largest_size f)) p.free && le ceiling (largest_size f))

-- the pairs of all bands
unfoldable pub model_of_units : Format → Model → Bool
model_of_units f m = all_pairs (pair_of_units f m.ceiling) m.lowest m.above

-- on the floor, below which no odds lie, or above it by more than the clear step's size
unfoldable pub clear_of_floor : Format → Steps → Float → Bool
clear_of_floor f s o = le o s.floor || lt (sub f s.floor s.free) o

pub record Multiples (f : Format) (h : Head) (g : Grid) : Type 0 where
  -- The steps and the bounds are multiples of the unit, none above the largest size.
  pub model : T (model_of_units f h.model)
  -- The odds of every cell are a multiple of the unit.
  pub odds : (i : ℕ) → i < cells h.extents → T (of_units f (get_or g.odds i nan))
  -- Every cell is on the floor, or above it by more than the clear step's size.
  pub clear_of_floor_lem : (i : ℕ) → i < cells h.extents → T (clear_of_floor f (steps_at h.model i) (get_or g.odds i nan))

-- ---- the conclusions
-- what a cloud mark leaves of odds o on which nothing was done in this frame, and of those after one clear step: it
-- takes the step back
abbrev pub cloud_alone : Format → Steps → Float → Float
cloud_alone f s o = occupy f s o s.occupied

abbrev pub cloud_after_clear : Format → Steps → ℕ → Float → Float
cloud_after_clear f s k o = occupy f s (freed f s o) (occupied_step f s k (record { odds = freed f s o; stamp = stamp_of k false }))

-- how each cell stands on the grid that is left after these beams, or whatever was handed over
pub record Ends {A : Type 0} (f : Format) (h : Head) (g : Grid) (marks_of : A → Answer (List Mark)) (bs : List A) (after : Grid) : Type 0 where
  -- A cell that a beam hit ends stamped cloud.
  pub hit_stamp : (i : ℕ) → i < cells h.extents → Hit marks_of bs i → (cell_at after i).stamp ≡ stamp_of (frame_opened h) true
  -- A cell that was touched, and that no beam hit, ends stamped clear.
  pub clear_stamp : (i : ℕ) → i < cells h.extents → Touched marks_of bs i → ¬ Hit marks_of bs i
      → (cell_at after i).stamp ≡ stamp_of (frame_opened h) false
  -- Any other cell keeps its odds, and its stamp as the sweep opened.
  pub untouched : (i : ℕ) → i < cells h.extents → ¬ Touched marks_of bs i → cell_at after i ≡ cell_at (grid_opened h g) i
  -- A clear cell took one clear step.
  pub clear-odds : (i : ℕ) → i < cells h.extents → Touched marks_of bs i → ¬ Hit marks_of bs i
      → (cell_at after i).odds ≡ freed f (steps_at h.model i) (get_or g.odds i nan)
  -- A cloud cell took the cloud step, with at most one clear step before it, taken back by the stated rule.
  pub cloud-odds : (i : ℕ) → i < cells h.extents → Hit marks_of bs i
      → ((cell_at after i).odds ≡ cloud_alone f (steps_at h.model i) (get_or g.odds i nan))
      ⊎ ((cell_at after i).odds ≡ cloud_after_clear f (steps_at h.model i) (frame_opened h) (get_or g.odds i nan))

pub record Settled (f : Format) (h : Head) (g : Grid) (bs : List Beam) : Type 0 where
  -- The list is not refused.
  pub given_a_count : (n : ℕ) × ((sweep f h g bs).answer ≡ given n)
  -- Each cell ends as it should.
  pub ends : Ends f h g (beam_marks f h.extents) bs (sweep f h g bs).grid
  -- The same beams in any order and with any repeats leave the same stamps; so do the beams in another order, and with
  -- one repeated.
  pub stamps-same : (cs : List Beam) → Same bs cs → (sweep f h g bs).grid.stamps ≡ (sweep f h g cs).grid.stamps
  pub stamps_permuted : (cs : List Beam) → Permᴰ bs cs → (sweep f h g bs).grid.stamps ≡ (sweep f h g cs).grid.stamps
  pub stamps_repeated : (b : Beam) → Memᴰ b bs → (sweep f h g bs).grid.stamps ≡ (sweep f h g (b ∷ bs)).grid.stamps
  -- If all odds, steps and bounds are multiples of the unit, and each cell is on the floor or above it by more than the
  -- clear step's size, the odds too are the same, as data: bit for bit, with the sign of zero.
  pub odds-same : Multiples f h g → (cs : List Beam) → Same bs cs → (sweep f h g bs).grid.odds ≡ (sweep f h g cs).grid.odds
  pub odds_permuted : Multiples f h g → (cs : List Beam) → Permᴰ bs cs → (sweep f h g bs).grid.odds ≡ (sweep f h g cs).grid.odds
  pub odds_repeated : Multiples f h g → (b : Beam) → Memᴰ b bs → (sweep f h g bs).grid.odds ≡ (sweep f h g (b ∷ bs)).grid.odds
