-- The house's fields, of which the requirements' map record and change request 2's sweep file are made: numbers and
-- floats as bytes, a field as bytes, and how a format is put together: it reads one field, and hands what it means to
-- what follows. Floats are binary64's. Definitions only.
use Rattle.std.specs.Prelude.{ℕ, zero, suc, ◌+◌, ◌*◌, ◌/◌, ◌%◌, Bool, cond, ◌&&◌, List, [], ◌∷◌, ◌++◌, eqb, leb, length, get_or, drop, Float}
use Rattle.std.specs.Float.{binary64}
use Rattle.std.specs.Float.Ieee.{to_bits, of_bits}
use Rattle.rules.specs.RefusalNumbers.{Answer, given, refused, and_then, broken_record}

-- ---- numbers
-- "little-endian"
unfoldable pub little_endian : ℕ → ℕ → List ℕ
little_endian zero n = []
little_endian (suc k) n = n % 256 ∷ little_endian k (n / 256)

unfoldable pub from_little_endian : ℕ → List ℕ → ℕ
from_little_endian zero bs = 0
from_little_endian (suc k) [] = 0
from_little_endian (suc k) (b ∷ bs) = b + 256 * from_little_endian k bs

-- how many bytes a u16, a u32 and a float have
abbrev pub short_size : ℕ
short_size = 2

abbrev pub word_size : ℕ
word_size = 4

abbrev pub float_size : ℕ
float_size = 8

-- floats, one after another
unfoldable pub float_bytes : List Float → List ℕ
float_bytes [] = []
float_bytes (x ∷ xs) = little_endian float_size (to_bits binary64 x) ++ float_bytes xs

unfoldable pub floats_in : ℕ → List ℕ → List Float
floats_in zero bs = []
floats_in (suc n) bs = of_bits binary64 (from_little_endian float_size bs) ∷ floats_in n (drop float_size bs)

-- ---- a field as bytes
-- "Fields: one-byte tag, two-byte length, data"
abbrev pub tag_size : ℕ
tag_size = 1

abbrev pub head_size : ℕ
head_size = tag_size + short_size

abbrev pub field_size : ℕ → ℕ
field_size n = head_size + n

unfoldable pub field : ℕ → List ℕ → List ℕ
field tag bytes = tag ∷ little_endian short_size (length bytes) ++ bytes

-- a field of this tag and this many bytes stands here whole
unfoldable pub field_here : ℕ → ℕ → List ℕ → Bool
field_here tag n rest = leb (field_size n) (length rest) && eqb (get_or rest 0 0) tag && eqb (from_little_endian short_size (drop tag_size rest)) n

-- ---- a format, put together
-- a field that is read: its tag, how many bytes of data it has, what they mean, and which contents are within their
-- bounds
pub record Field (A : Type 0) : Type 0 where
  pub tag : ℕ
  pub size : ℕ
  pub means : List ℕ → A
  pub sound : A → Bool

-- what its data means where it stands, and whether it stands whole and within its bounds
abbrev pub contents : {A : Type 0} → Field A → List ℕ → A
contents f rest = f.means (drop head_size rest)

abbrev pub sound_here : {A : Type 0} → Field A → List ℕ → Bool
sound_here f rest = field_here f.tag f.size rest && f.sound (contents f rest)

-- what is read from an offset on, of the bytes that stand there, up to the end
abbrev pub Reading : Type 0 → Type 0
Reading B = ℕ → List ℕ → Answer B

-- a field's contents where it is sound; else the record is broken at its offset
abbrev pub sound_or : {A : Type 0} → ℕ → Bool → A → Answer A
sound_or offset sound a = cond sound (given a) (refused (broken_record offset))

-- a field, then what follows it
unfoldable pub field_then : {A B : Type 0} → Field A → (A → Reading B) → Reading B
field_then f next offset rest =
    and_then (sound_or offset (sound_here f rest) (contents f rest)) (λ a. next a (offset + field_size f.size) (drop (field_size f.size) rest))

-- so many rows, then what follows them. A row is one field, or several: it is handed what follows it, as a field is.
unfoldable pub rows_then : {A B : Type 0} → ((A → Reading B) → Reading B) → ℕ → (List A → Reading B) → Reading B
rows_then row zero next = next []
rows_then row (suc n) next = row (λ a. rows_then row n (λ rows. next (a ∷ rows)))

-- "Nothing follows." "for bytes after the end, theirs"
unfoldable pub nothing_follows : {B : Type 0} → B → Reading B
nothing_follows b offset rest = sound_or offset (eqb (length rest) 0) b

-- rows that are written: the bytes of a row by what is left to write, and what is left after it
unfoldable pub rows_of : {S : Type 0} → (S → List ℕ) → (S → S) → ℕ → S → List ℕ
rows_of row after zero left = []
rows_of row after (suc n) left = row left ++ rows_of row after n (after left)

-- rows that are tried before they are written, each at its offset; a row has so many bytes
unfoldable pub rows_tried : {S : Type 0} → (ℕ → S → Answer (Unit {0})) → (S → S) → ℕ → ℕ → ℕ → S → Answer (Unit {0})
rows_tried try after size zero offset left = given tt
rows_tried try after size (suc n) offset left =
    and_then (try offset left) (λ (t : Unit {0}). rows_tried try after size n (offset + size) (after left))
