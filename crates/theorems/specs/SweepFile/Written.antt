-- A sweep file written and read: each field is found again, beam after beam, and the end with the count. Assumes
-- nothing.
use Prim.Native.Nat.{ℕ, zero, suc, ◌+◌, ◌*◌, ◌%◌, ◌≤◌, ◌<◌}
use Rattle.std.specs.Prelude.{Bool, true, false, ◌&&◌, ◌≡◌, eqb, ltb, leb, get_or}
use Rattle.std.proofs.Math.Bool.{cond}
use mathlib.Core.List.{List, [], ◌∷◌, ◌++◌, append_assoc, append-nil}
use Rattle.std.proofs.Math.Path.{refl, sym, ap}
use Rattle.std.proofs.Common.{◌∙◌, drop-drop, get_or-drop}
use native.Mathlib.Omega.{arith}
use Rattle.std.proofs.Math.ListN.{length, length-append, drop}
use Rattle.std.proofs.Math.Seq.{drop_at}
use Rattle.std.proofs.lemmas.List.{get_or_at}
use borrow.Author.Tests.{eq-eqb}
use Rattle.rules.specs.RefusalNumbers.{given}
use Rattle.rules.specs.OneBeam.{Beam}
use Rattle.rules.specs.Fields.{little_endian, from_little_endian, float_size, float_bytes, head_size, field_size, field, field_here}
use Rattle.rules.specs.SweepFile.{axes_tag, axes_length, station_tag, station_length, beam_tag, points_length, beam_length, count_tag, count_length, beams_offset}
use Rattle.rules.specs.SweepFile.{beam_bytes, beams_bytes, sweep_bytes, beam_here, beam_in, sweep_end_in, beams_in, station_in, sweep_of, most_beams}
use Rattle.record_laws.specs.Bytes.{little_endian_length, little_endian_back}
use Rattle.record_laws.specs.Numbers.{float_bytes_length, floats_back}
use Rattle.record_laws.specs.Fields.{field-length, field-contents, field-after, field_found}
use Rattle.theorems.specs.SweepFile.Words.{Every, IsBeam, Writable}

-- ---- one beam
byte_back : (hit : Bool) → eqb (cond hit 1 0) 1 ≡ hit
byte_back true = refl
byte_back false = refl

byte_small : (hit : Bool) → ltb (cond hit 1 0) 2 ≡ true
byte_small true = refl
byte_small false = refl

module _ (axes : ℕ) (b : Beam) (is : IsBeam axes b) where
  origin-length : length (float_bytes b.origin) ≡ 8 * axes
  origin-length = float_bytes_length b.origin ∙ ap (λ (n : ℕ). 8 * n) is.origin_axes

  endpoint-length : length (float_bytes b.endpoint) ≡ 8 * axes
  endpoint-length = float_bytes_length b.endpoint ∙ ap (λ (n : ℕ). 8 * n) is.endpoint_axes

  pub beam-length : length (beam_bytes b) ≡ beam_length axes
  unfolding beam_bytes
  beam-length =
      let x = origin-length in
      let y = endpoint-length in
      let s = length-append (float_bytes b.origin) (float_bytes b.endpoint) in
      let t = length-append (float_bytes b.origin ++ float_bytes b.endpoint) (cond b.hit 1 0 ∷ []) in
      omega arith

  -- behind the tag and the length: the origin, the endpoint, the byte, and what follows
  contents : (rest : List ℕ) → drop head_size (field beam_tag (beam_bytes b) ++ rest) ≡ float_bytes b.origin ++ (float_bytes b.endpoint ++ cond b.hit 1 0 ∷ rest)
  unfolding beam_bytes
  contents rest = field-contents beam_tag (beam_bytes b) rest ∙ simp append_assoc

  the_byte : (rest : List ℕ) → get_or (field beam_tag (beam_bytes b) ++ rest) (head_size + points_length axes) 0 ≡ cond b.hit 1 0
  the_byte rest =
      let s = length-append (float_bytes b.origin) (float_bytes b.endpoint) in
      let x = origin-length in
      let y = endpoint-length in
      sym (get_or-drop head_size (field beam_tag (beam_bytes b) ++ rest) (16 * axes) 0)
      ∙ ap (λ (l : List ℕ). get_or l (16 * axes) 0) (contents rest ∙ sym (append_assoc (float_bytes b.origin) (float_bytes b.endpoint) (cond b.hit 1 0 ∷ rest)))
      ∙ get_or_at (float_bytes b.origin ++ float_bytes b.endpoint) (cond b.hit 1 0) rest 0 (16 * axes) (omega arith)

  pub beam_found : axes < 256 → (rest : List ℕ) → beam_here axes (field beam_tag (beam_bytes b) ++ rest) ≡ true
  unfolding beam_here
  beam_found small rest =
      rw (field_found beam_tag (beam_bytes b) rest (beam_length axes) beam-length (omega arith), the_byte rest, byte_small b.hit) refl

  pub beam_back : (rest : List ℕ) → beam_in axes (field beam_tag (beam_bytes b) ++ rest) ≡ b
  unfolding beam_in
  beam_back rest =
      let after : List ℕ = float_bytes b.endpoint ++ cond b.hit 1 0 ∷ rest in
      let behind : drop (head_size + float_size * axes) (field beam_tag (beam_bytes b) ++ rest) ≡ after =
      sym (drop-drop (8 * axes) 3 (field beam_tag (beam_bytes b) ++ rest)) ∙ ap (drop (8 * axes)) (contents rest)
      ∙ drop_at (float_bytes b.origin) after (8 * axes) origin-length in
      rw (
        the_byte rest,
        byte_back b.hit,
        contents rest,
        behind,
        floats_back b.origin after axes is.origin_axes is.origin_64,
        floats_back b.endpoint (cond b.hit 1 0 ∷ rest) axes is.endpoint_axes is.endpoint_64,
      ) refl

-- ---- the end
no_beam : (a c : Bool) → a && false && c ≡ false
no_beam true c = refl
no_beam false c = refl

end_is_no_beam : (axes n : ℕ) → beam_here axes (field count_tag (little_endian count_length n)) ≡ false
unfolding beam_here field_here field
end_is_no_beam axes n =
    rw (no_beam (leb (3 + beam_length axes) (length (field count_tag (little_endian count_length n)))) (eqb (from_little_endian 2 (little_endian 2 (length (little_endian 4 n)) ++ little_endian 4 n)) (beam_length axes))) refl

end_back : (n offset : ℕ) → n ≤ most_beams → sweep_end_in n offset (field count_tag (little_endian count_length n)) ≡ given []
unfolding sweep_end_in
end_back n offset small =
    let four = little_endian_length 4 n in
    let e : field count_tag (little_endian count_length n) ++ [] ≡ field count_tag (little_endian count_length n) = append-nil (field count_tag (little_endian count_length n)) in
    let here : field_here count_tag count_length (field count_tag (little_endian count_length n)) ≡ true = rw e at (field_found count_tag (little_endian count_length n) [] 4 four (omega arith)) in
    let inside : drop head_size (field count_tag (little_endian count_length n)) ≡ little_endian 4 n ++ [] = rw e at (field-contents count_tag (little_endian count_length n) []) in
    let number : from_little_endian count_length (little_endian 4 n ++ []) ≡ n = little_endian_back 4 n [] (omega arith) in
    let size : length (field count_tag (little_endian count_length n)) ≡ 7 = field-length count_tag (little_endian count_length n) ∙ ap field_size four in
    rw (here, inside, number, eq-eqb n n refl, size) refl

-- ---- the beams, and the end
module _ (axes : ℕ) (small : axes < 256) where
  abbrev rest_of : ℕ → List Beam → List ℕ
  rest_of found bs = beams_bytes bs ++ field count_tag (little_endian count_length (found + length bs))

  nothing_left : (most found offset : ℕ) → found ≤ most_beams → beams_in axes most found offset (field count_tag (little_endian count_length found)) ≡ given []
  unfolding beams_in
  nothing_left zero found offset l = end_back found offset l
  nothing_left (suc most) found offset l = rw (end_is_no_beam axes found) (end_back found offset l)

  pub beams_back : (bs : List Beam) (most found offset : ℕ) → length bs ≤ most → found + length bs ≤ most_beams → Every (IsBeam axes) bs
      → beams_in axes most found offset (rest_of found bs) ≡ given bs
  unfolding beams_in beams_bytes
  beams_back [] most found offset m l h = let e : found + 0 ≡ found = omega arith in rw e (nothing_left most found offset (omega arith))
  beams_back (b ∷ bs) zero found offset m l h = absurd (omega arith)
  beams_back (b ∷ bs) (suc most) found offset m l h =
      let size : ℕ = field_size (beam_length axes) in
      let e : found + suc (length bs) ≡ suc found + length bs = omega arith in
      let one : List ℕ = field beam_tag (beam_bytes b) in
      let rest : List ℕ = rest_of (suc found) bs in
      let next = beams_back bs most (suc found) (offset + size) (omega arith) (omega arith) h.1 in
      rw (
        e,
        append_assoc one (beams_bytes bs) (field count_tag (little_endian count_length (suc found + length bs))),
        beam_found axes b h.0 small rest,
        field-after beam_tag (beam_bytes b) rest (beam_length axes) (beam-length axes b h.0),
        next,
        beam_back axes b h.0 rest,
      ) refl

-- ---- the whole file
beams_long : (axes : ℕ) (bs : List Beam) → Every (IsBeam axes) bs → length bs ≤ length (beams_bytes bs)
unfolding beams_bytes
beams_long axes [] h = omega arith
beams_long axes (b ∷ bs) h =
    let x = length-append (field beam_tag (beam_bytes b)) (beams_bytes bs) in
    let y = field-length beam_tag (beam_bytes b) in
    let z = beams_long axes bs h.1 in
    omega arith

module _ (axes station : ℕ) (bs : List Beam) (w : Writable axes station bs) where
  abbrev last : List ℕ
  last = field count_tag (little_endian count_length (length bs))

  station_back : station_in axes (field_size axes_length) (field station_tag (little_endian station_length station) ++ (beams_bytes bs ++ last)) ≡ given (record { station = station; beams = bs })
  unfolding station_in
  station_back =
      let two = little_endian_length 2 station in
      let rest : List ℕ = beams_bytes bs ++ last in
      let long = beams_long axes bs w.beams_are in
      let joined = length-append (beams_bytes bs) last in
      let e : 0 + length bs ≡ length bs = omega arith in
      let few = w.count_fits in
      let back : beams_in axes (length rest) 0 9 rest ≡ given bs =
      rw e at (beams_back axes w.axes_fit bs (length rest) 0 beams_offset (omega arith) (omega arith) w.beams_are) in
      let number : from_little_endian 2 (little_endian 2 station ++ rest) ≡ station = little_endian_back 2 station rest w.station_fits in
      rw (
        field_found station_tag (little_endian station_length station) rest 2 two (omega arith),
        field-contents station_tag (little_endian station_length station) rest,
        number,
        field-after station_tag (little_endian station_length station) rest 2 two,
        back,
      ) refl

  axes_byte : (rest : List ℕ) → get_or (field axes_tag (little_endian axes_length axes) ++ rest) head_size 0 ≡ axes
  unfolding field little_endian
  axes_byte rest = let small = w.axes_fit in let e : axes % 256 ≡ axes = omega arith in e

  pub sweep_back : sweep_of axes (sweep_bytes axes station bs) ≡ given (record { station = station; beams = bs })
  unfolding sweep_of sweep_bytes
  sweep_back =
      let one = little_endian_length 1 axes in
      let after : List ℕ = field station_tag (little_endian station_length station) ++ (beams_bytes bs ++ last) in
      let whole : field axes_tag (little_endian axes_length axes) ++ field station_tag (little_endian station_length station) ++ beams_bytes bs ++ last ≡ field axes_tag (little_endian axes_length axes) ++ after = simp append_assoc in
      rw (
        whole,
        field_found axes_tag (little_endian axes_length axes) after 1 one (omega arith),
        axes_byte after,
        eq-eqb axes axes refl,
        field-after axes_tag (little_endian axes_length axes) after 1 one,
        station_back,
      ) refl
