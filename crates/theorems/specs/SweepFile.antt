-- Change request 2, "A sweep file": beams that are written and read are the same beams, a file that is read and written
-- has the same bytes, there is one encoding for each list of beams, bytes are a file or broken at one offset, and
-- integrating a file that was written is integrating its list. Of any number of axes that a byte holds.
-- `SweepFile.Words` has the words used here beside the rules'; the files beside it have the steps of the proofs.
-- Assumes nothing.
pub mod Words
pub mod Written
pub mod Again
pub mod Broken
pub mod Entries
pub mod Needs
use Rattle.std.specs.Prelude.{ℕ, ◌<◌, List, [], ◌∷◌, ◌⊎◌, ◌≡◌, refl, pos, Float, length, take, drop}
use Rattle.std.proofs.Common.{inl, inr, sym, ap, ◌∙◌, arith, take_at}
use Rattle.std.specs.Float.{Format}
use Rattle.rules.specs.RefusalNumbers.{Refusal, Answer, given, refused, broken_sweep}
use Rattle.rules.specs.RefusalNumbers.Entries.{update_scan_entry}
use Rattle.rules.specs.TheGridAndItsBounds.{Head, Grid}
use Rattle.rules.specs.OneBeam.{Beam, beams_of}
use Rattle.rules.specs.SweepFile.{Sweep, sweep_bytes, sweep_size, sweep_of, update_sweep_entry, write_sweep_entry}
use Rattle.record_laws.specs.Words.{AreBytes, Are64}
use Rattle.record_laws.specs.Fields.{begins_within}
use Rattle.theorems.specs.SweepFile.Words.{Every, NoNanIn, Writable, IsSweep, IsBroken, mailed_by}
use Rattle.theorems.specs.SweepFile.Written.{sweep_back}
use Rattle.theorems.specs.SweepFile.Again.{sweep_again}
use Rattle.theorems.specs.SweepFile.Broken.{sweep-broken}
use Rattle.theorems.specs.SweepFile.Entries.{list_of_beams, sweep_bytes_length, wrote, integrates}
use Rattle.sweep_writer.proofs.Written.{beams_count}

-- ---- written, then read
-- Beams that can be written are read again as they were, with their station: the same coordinates as data, with the
-- sign of a zero and the infinities. A coordinate that is a NaN reads as the NaN.
pub written_then_read : (axes station : ℕ) (bs : List Beam) → Writable axes station bs
    → sweep_of axes (sweep_bytes axes station bs) ≡ given (record { station = station; beams = bs })
written_then_read = sweep_back

-- ---- read, then written
-- What was read, with no NaN among its coordinates, is written as the same bytes. (A NaN's bytes are not kept: every
-- NaN is written alike.)
pub read_then_written : (axes : ℕ) (bytes : List ℕ) (s : Sweep) → sweep_of axes bytes ≡ given s → AreBytes bytes → Every NoNanIn s.beams
    → sweep_bytes axes s.station s.beams ≡ bytes
read_then_written = sweep_again

-- ---- "one encoding for each list of beams"
-- Two files of the same station and beams, without a NaN, are the same bytes.
pub one_encoding : (axes : ℕ) (bytes bytes' : List ℕ) (s : Sweep) → sweep_of axes bytes ≡ given s → sweep_of axes bytes' ≡ given s
    → AreBytes bytes → AreBytes bytes' → Every NoNanIn s.beams → bytes ≡ bytes'
one_encoding axes bytes bytes' s e e' b b' n = sym (sweep_again axes bytes s e b n) ∙ sweep_again axes bytes' s e' b' n

-- Two stations' beams that are written as the same bytes are the same beams of the same station, NaNs among them or
-- not.
pub one_meaning : (axes station station' : ℕ) (bs bs' : List Beam) → Writable axes station bs → Writable axes station' bs'
    → sweep_bytes axes station bs ≡ sweep_bytes axes station' bs' → (station ≡ station') × (bs ≡ bs')
one_meaning axes station station' bs bs' w w' e =
    let x = sweep_back axes station bs w in
    let y = sweep_back axes station' bs' w' in
    let z : ◌≡◌ {A = Answer Sweep} (given (record { station = station; beams = bs })) (given (record { station = station'; beams = bs' })) = sym x ∙ ap (sweep_of axes) e ∙ y in
    let s : ◌≡◌ {A = Sweep} (record { station = station; beams = bs }) (record { station = station'; beams = bs' }) = cc in
    (ap (λ (t : Sweep). t.station) s, ap (λ (t : Sweep). t.beams) s)

-- ---- all bytes
one_offset : (o p : ℕ) → broken_sweep o ≡ broken_sweep p → o ≡ p
one_offset o p e = let v : pos o ∷ [] ≡ pos p ∷ [] = ap (λ (r : Refusal). r.values) e in cc

-- Every list of numbers is a sweep file of so many axes, or it is refused at one offset, where a field begins, at most
-- its end.
pub sweep_or_broken : (axes : ℕ) (bytes : List ℕ) → IsSweep axes bytes ⊎ IsBroken axes bytes
sweep_or_broken axes bytes = go (sweep_of axes bytes) refl
  where
    go : (a : Answer Sweep) → sweep_of axes bytes ≡ a → IsSweep axes bytes ⊎ IsBroken axes bytes
    go (given s) e = inl (record { sweep = s; is = e })
    go (refused r) e =
        let b = sweep-broken axes bytes r e in
        inr (record {
          offset = b.offset;
          is = e ∙ ap refused (sym b.is);
          only = λ o q. let z : broken_sweep o ≡ broken_sweep b.offset = cc b.is in one_offset o b.offset z;
          begins = b.begins;
          within = begins_within bytes b.offset b.begins;
        })

-- ---- the entries
-- "a reader that delivers the beams to integration in their order": the first n bytes of what writing left, n its
-- answer, are integrated as the flat list is that was written; the same answer, with the station's number, and the same
-- lists, whatever the map, refusals and a beam that meets 7 included.
pub written_then_integrated : (f : Format) (h : Head) (g : Grid) (station : ℕ) (numbers : List Float) (hits out : List ℕ) (n : ℕ)
    → length h.extents < 256 → station < 65_536 → Are64 numbers → (write_sweep_entry (length h.extents) station numbers hits out).answer ≡ given n
    → update_sweep_entry f h (take n (write_sweep_entry (length h.extents) station numbers hits out).lent) g ≡ mailed_by station (update_scan_entry f h numbers hits g)
written_then_integrated f h g station numbers hits out n a s floats answer =
    let axes : ℕ = length h.extents in
    let bs : List Beam = beams_of axes numbers hits in
    let w = wrote axes station numbers hits out n answer in
    let are = list_of_beams axes numbers hits w.shape floats in
    let count = beams_count axes numbers hits in
    let few = w.few in
    let size : length (sweep_bytes axes station bs) ≡ n = sweep_bytes_length axes station bs are ∙ ap (sweep_size axes) count ∙ w.size in
    let bytes : take n (write_sweep_entry axes station numbers hits out).lent ≡ sweep_bytes axes station bs =
    ap (take n) w.lent_is ∙ take_at (sweep_bytes axes station bs) (drop n out) n size in
    let back = sweep_back axes station bs (record { axes_fit = a; station_fits = s; count_fits = omega arith; beams_are = are }) in
    rw bytes (integrates f h (sweep_bytes axes station bs) station numbers hits g w.shape back)
