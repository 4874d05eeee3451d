-- The words that the laws of the map record are said in, beside the rules' own: bytes and floats as a lent list is
-- known to hold them, where a field begins, and what is known of a record that was read. Definitions only.
use Rattle.std.specs.Prelude.{ℕ, ◌+◌, ◌≤◌, ◌<◌, true, List, [], ◌∷◌, ◌≡◌, length, get_or, drop, Float}
use Rattle.std.proofs.Math.Option.{none}
use Rattle.std.specs.Float.{nan, binary64}
use Rattle.std.specs.Float.Ieee.{fits}
use Rattle.rules.specs.RefusalNumbers.{given}
use Rattle.rules.specs.RefusalNumbers.Entries.{head_refusal, uses_of, writing}
use Rattle.rules.specs.TheGridAndItsBounds.{Band, Head, plain_model, layer_of}
use Rattle.rules.specs.Fields.{from_little_endian, field_size}
use Rattle.rules.specs.MapRecord.{Stored, record_size, writable}

-- a fact of each element of a list, by its place
abbrev pub Each : {A : Type 0} → (A → Type 0) → A → List A → Type 0
Each P d xs = (i : ℕ) → i < length xs → P (get_or xs i d)

-- a byte; what every lent list of bytes is known to hold
abbrev pub IsByte : ℕ → Type 0
IsByte b = b < 256

abbrev pub AreBytes : List ℕ → Type 0
AreBytes bs = Each IsByte 0 bs

-- a value that binary64 holds: what every f64 is known to be, the NaN and the infinities among them
abbrev pub Is64 : Float → Type 0
Is64 x = fits binary64 x ≡ true

abbrev pub Are64 : List Float → Type 0
Are64 xs = Each Is64 nan xs

abbrev pub NotNan : Float → Type 0
NotNan x = ¬ (x ≡ nan)

abbrev pub NoNan : List Float → Type 0
NoNan xs = Each NotNan nan xs

-- the bands above the lowest
abbrev pub HeldBands : List Band → Type 0
HeldBands [] = Unit {0}
HeldBands (b ∷ bs) = Is64 b.pair.occupied × Is64 b.pair.free × HeldBands bs

-- the layer is that of the extents; where there are no cuts, the one that stands for none
abbrev pub LaidOn : List ℕ → List Band → ℕ → Type 0
LaidOn es [] layer = layer ≡ 1
LaidOn es (b ∷ bs) layer = layer ≡ layer_of es

-- the floats of a map are values of binary64, as those lent to an entry are, and its heights are those of its extents
pub record Held (h : Head) (odds : List Float) : Type 0 where
  pub occupied : Is64 h.model.lowest.occupied
  pub free : Is64 h.model.lowest.free
  pub ceiling : Is64 h.model.ceiling
  pub above : HeldBands h.model.above
  pub layer : LaidOn h.extents h.model.above h.model.layer
  pub each_odds : Are64 odds

-- the cuts of a model, and the head that edition 1 keeps: one pair and no cuts
abbrev pub cuts_of : List Band → List ℕ
cuts_of [] = []
cuts_of (b ∷ bs) = b.cut ∷ cuts_of bs

abbrev pub plain_head : Head → Head
plain_head h = record { extents = h.extents; model = plain_model h.model.lowest h.model.ceiling; frame = h.frame }

-- A field begins at the first byte; and behind each field that stands whole, by the length that it bears, the next one
-- begins.
pub data FieldBegins (bytes : List ℕ) : ℕ → Type 0 where
  first : FieldBegins bytes 0
  behind : (o n : ℕ) → FieldBegins bytes o → o + field_size n ≤ length bytes → from_little_endian 2 (drop 1 (drop o bytes)) ≡ n
      → FieldBegins bytes (o + field_size n)

-- what is known of a record of so many axes: it is as long as its extents say, and its map may be written again
pub record Sound (axes : ℕ) (bytes : List ℕ) (s : Stored) : Type 0 where
  -- It has that many extents, and the bytes that they call for.
  pub axes_are : length s.head.extents ≡ axes
  pub size_is : length bytes ≡ record_size s.head.extents
  -- Its head passes every check of writing, its odds too, so that it is written where there is room for as many bytes.
  pub passes : head_refusal (uses_of writing) s.head (length s.odds) 0 ≡ none
  pub written : (room : ℕ) → length bytes ≤ room → writable s.head s.odds room ≡ given (length bytes)
  -- Its floats are values of binary64, and none of its odds is a NaN.
  pub held : Held s.head s.odds
  pub numbers : NoNan s.odds
