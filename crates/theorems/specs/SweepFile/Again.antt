-- A sweep file read and written: each field is what writing its contents gives. Assumes nothing.
use Prim.Native.Nat.{ℕ, zero, suc, ◌+◌, ◌*◌, ◌≤◌, ◌<◌}
use Rattle.std.specs.Prelude.{Bool, true, false, cond, ◌&&◌, ◌≡◌, ltb}
use mathlib.Core.List.{List, [], ◌∷◌, ◌++◌, append_assoc, append-nil}
use Rattle.std.proofs.Math.Path.{refl, sym, ap, ap₂, subst}
use Rattle.std.proofs.Common.{◌∙◌, drop_of_length-le, drop-drop, drop-cons, eqb-true, ltb-true}
use native.Mathlib.Omega.{arith}
use Rattle.std.proofs.Math.Dec.{eqb}
use Rattle.std.proofs.Math.ListN.{length, length-drop, get_or, take, drop}
use Rattle.std.proofs.Math.Seq.{get_or-drop, take-add}
use Rattle.rules.specs.RefusalNumbers.{Answer, given, and_then}
use Rattle.rules.specs.OneBeam.{Beam}
use Rattle.rules.specs.Fields.{little_endian, from_little_endian, float_size, head_size, field_size, field, field_here}
use Rattle.rules.specs.SweepFile.{axes_tag, axes_length, station_tag, station_length, beam_tag, points_length, beam_length, count_tag, count_length, beams_offset}
use Rattle.rules.specs.SweepFile.{Sweep, sweep_or, beam_bytes, beams_bytes, sweep_bytes, beam_here, beam_in, sweep_end_in, beams_in, station_in, sweep_of}
use Rattle.record_laws.specs.Words.{IsByte, AreBytes}
use Rattle.record_laws.specs.Each.{each_drop, both}
use Rattle.record_laws.specs.Bytes.{little_endian_again}
use Rattle.record_laws.specs.Numbers.{floats_again}
use Rattle.record_laws.specs.Fields.{Found, found, field_again}
use Rattle.rows.proofs.Answers.{then_given}
use Rattle.sweep_reader.proofs.Sound.{sweep_given}
use Rattle.sweep_writer.proofs.Written.{byte_again}
use Rattle.theorems.specs.SweepFile.Words.{Every, NoNanIn}

-- ---- one beam
-- one element, and those before it
take-one : (k : ℕ) (ys : List ℕ) → k < length ys → take 1 (drop k ys) ≡ get_or ys k 0 ∷ []
take-one k ys h = ap (take 1) (drop-cons ys k 0 h)

module _ (axes : ℕ) (rest : List ℕ) (bytes : AreBytes rest) where
  abbrev inside : List ℕ
  inside = drop head_size rest

  beam_bytes_again : NoNanIn (beam_in axes rest) → field_size (beam_length axes) ≤ length rest → get_or rest (head_size + points_length axes) 0 < 2
      → beam_bytes (beam_in axes rest) ≡ take (beam_length axes) (drop head_size rest)
  unfolding beam_bytes beam_in
  beam_bytes_again n l byte =
      let d = length-drop head_size rest in
      let d' = length-drop (head_size + float_size * axes) rest in
      let in_order : 8 * axes + 8 * axes + 1 ≡ beam_length axes = omega arith in
      let at : 8 * axes + 8 * axes ≡ 16 * axes = omega arith in
      let origin = floats_again axes inside (each_drop IsByte 0 head_size rest bytes) (omega arith) n.origin in
      let endpoint = floats_again axes (drop (head_size + float_size * axes) rest) (each_drop IsByte 0 (head_size + float_size * axes) rest bytes) (omega arith) n.endpoint in
      let last : take 1 (drop (8 * axes + 8 * axes) inside) ≡ get_or rest (head_size + points_length axes) 0 ∷ [] =
      take-one (8 * axes + 8 * axes) inside (omega arith) ∙ ap (λ (x : ℕ). x ∷ []) (ap (λ (k : ℕ). get_or inside k 0) at ∙ get_or-drop head_size rest (16 * axes) 0) in
      let parts : take (8 * axes) inside ++ take (8 * axes) (drop (8 * axes) inside) ++ take 1 (drop (8 * axes + 8 * axes) inside) ≡ take (beam_length axes) inside =
      sym (ap (λ (k : ℕ). take k inside) (sym in_order) ∙ take-add (8 * axes + 8 * axes) 1 inside
      ∙ ap (λ (l : List ℕ). l ++ take 1 (drop (8 * axes + 8 * axes) inside)) (take-add (8 * axes) (8 * axes) inside)) in
      let second : take (8 * axes) (drop (head_size + float_size * axes) rest) ≡ take (8 * axes) (drop (8 * axes) inside) = ap (take (8 * axes)) (sym (drop-drop (8 * axes) 3 rest)) in
      ap₂ (λ (x y : List ℕ). x ++ y) (ap₂ (λ (x y : List ℕ). x ++ y) origin (endpoint ∙ second)) (ap (λ (x : ℕ). x ∷ []) (byte_again (get_or rest (head_size + points_length axes) 0) byte) ∙ sym last)
      ∙ parts

  pub beam_again : NoNanIn (beam_in axes rest) → beam_here axes rest ≡ true → field beam_tag (beam_bytes (beam_in axes rest)) ++ drop (field_size (beam_length axes)) rest ≡ rest
  unfolding beam_here
  beam_again n e =
      let t = both (field_here beam_tag (beam_length axes) rest) (ltb (get_or rest (head_size + points_length axes) 0) 2) e in
      let f = found beam_tag (beam_length axes) rest t.0 in
      ap (λ (x : List ℕ). field beam_tag x ++ drop (field_size (beam_length axes)) rest) (beam_bytes_again n f.whole (ltb-true _ _ t.1))
      ∙ field_again beam_tag (beam_length axes) rest bytes f

byte_is : (xs : List ℕ) → get_or xs 0 0 ≡ from_little_endian 1 xs
unfolding from_little_endian
byte_is [] = refl
byte_is (x ∷ xs) = omega arith

one_byte : (bytes : List ℕ) → get_or bytes head_size 0 ≡ from_little_endian 1 (drop head_size bytes)
one_byte bytes = sym (get_or-drop head_size bytes 0 0) ∙ byte_is (drop head_size bytes)

-- ---- the end
end_again : (n offset : ℕ) (rest : List ℕ) (bs : List Beam) → AreBytes rest → sweep_end_in n offset rest ≡ given bs
    → ([] ≡ bs) × (field count_tag (little_endian count_length n) ≡ rest)
unfolding sweep_end_in
end_again n offset rest bs bytes e =
    let t = sweep_given offset (field_here count_tag count_length rest && eqb (from_little_endian count_length (drop head_size rest)) n) tt (λ (t : Unit {0}). sweep_or (offset + field_size count_length) (eqb (length rest) (field_size count_length)) []) bs e in
    let u = both (field_here count_tag count_length rest) (eqb (from_little_endian count_length (drop head_size rest)) n) t.0 in
    let f = found count_tag count_length rest u.0 in
    let ends = last (eqb (length rest) (field_size count_length)) t.1 in
    let w = f.whole in
    let number : little_endian 4 n ≡ take 4 (drop head_size rest) =
    ap (little_endian 4) (sym (eqb-true _ _ u.1)) ∙ little_endian_again 4 (drop head_size rest) (each_drop IsByte 0 head_size rest bytes) (omega (arith, length-drop head_size rest)) in
    let size = eqb-true (length rest) 7 ends.1 in
    let nothing : drop 7 rest ≡ [] = drop_of_length-le rest {i = 7} (omega arith) in
    (ends.0, sym (append-nil (field count_tag (little_endian count_length n))) ∙ ap₂ (λ (x y : List ℕ). field count_tag x ++ y) number (sym nothing) ∙ field_again count_tag count_length rest bytes f)
  where
    last : (b : Bool) → sweep_or {A = List Beam} (offset + field_size count_length) b [] ≡ given bs → ([] ≡ bs) × (b ≡ true)
    last true h = (cc, refl)
    last false h = let z : ◌≡◌ {A = ℕ} 0 1 = cc in absurd (omega arith)

-- ---- the beams, and the end
module _ (axes : ℕ) where
  abbrev size : ℕ
  size = field_size (beam_length axes)

  abbrev Again : ℕ → List ℕ → List Beam → Type 0
  Again found rest bs = AreBytes rest → Every NoNanIn bs → beams_bytes bs ++ field count_tag (little_endian count_length (found + length bs)) ≡ rest

  last_again : (found offset : ℕ) (rest : List ℕ) (bs : List Beam) → sweep_end_in found offset rest ≡ given bs → Again found rest bs
  unfolding beams_bytes
  last_again found offset rest bs e bytes n =
      let t = end_again found offset rest bs bytes e in
      let z : found + 0 ≡ found = omega arith in
      subst (λ (cs : List Beam). beams_bytes cs ++ field count_tag (little_endian count_length (found + length cs)) ≡ rest) t.0 (rw z t.1)

  more_again : (found : ℕ) (rest : List ℕ) (cs : List Beam) → beam_here axes rest ≡ true → Again (suc found) (drop size rest) cs → Again found rest (beam_in axes rest ∷ cs)
  unfolding beams_bytes
  more_again found rest cs here next bytes n =
      let e : found + suc (length cs) ≡ suc found + length cs = omega arith in
      let b : List ℕ = field beam_tag (beam_bytes (beam_in axes rest)) in
      rw e
      (append_assoc b (beams_bytes cs) (field count_tag (little_endian count_length (suc found + length cs)))
      ∙ ap (λ (l : List ℕ). b ++ l) (next (each_drop IsByte 0 size rest bytes) n.1) ∙ beam_again axes rest bytes n.0 here)

  on_again : (found : ℕ) (rest : List ℕ) (bs : List Beam) (next end : Answer (List Beam)) → ((cs : List Beam) → next ≡ given cs → Again (suc found) (drop size rest) cs)
      → (end ≡ given bs → Again found rest bs) → (x : Bool) → beam_here axes rest ≡ x → cond x (and_then next (λ cs. given (beam_in axes rest ∷ cs))) end ≡ given bs
      → Again found rest bs
  on_again found rest bs next end later last true here e =
      let t = then_given next (λ cs. given (beam_in axes rest ∷ cs)) bs e in
      let same : beam_in axes rest ∷ t.0 ≡ bs = (let q = t.2 in cc) in
      subst (λ (cs : List Beam). Again found rest cs) same (more_again found rest t.0 here (later t.0 t.1))
  on_again found rest bs next end later last false here e = last e

  pub beams_again : (most found offset : ℕ) (rest : List ℕ) (bs : List Beam) → beams_in axes most found offset rest ≡ given bs → Again found rest bs
  unfolding beams_in
  beams_again zero found offset rest bs e = last_again found offset rest bs e
  beams_again (suc most) found offset rest bs e =
      on_again found rest bs (beams_in axes most (suc found) (offset + size) (drop size rest)) (sweep_end_in found offset rest)
      (λ cs q. beams_again most (suc found) (offset + size) (drop size rest) cs q) (λ q. last_again found offset rest bs q) (beam_here axes rest) refl e

  -- ---- the whole file
  file_again : (bytes : List ℕ) (n : ℕ) (bs : List Beam) → AreBytes bytes → Every NoNanIn bs → Found axes_tag axes_length bytes → get_or bytes head_size 0 ≡ axes
      → Found station_tag station_length (drop (field_size axes_length) bytes) → from_little_endian station_length (drop head_size (drop (field_size axes_length) bytes)) ≡ n → Again 0 (drop (field_size station_length) (drop (field_size axes_length) bytes)) bs → sweep_bytes axes n bs ≡ bytes
  unfolding sweep_bytes
  file_again bytes n bs b h f₁ a f₂ s later =
      let rest : List ℕ = drop (field_size axes_length) bytes in
      let b₁ = each_drop IsByte 0 4 bytes b in
      let b₂ = each_drop IsByte 0 5 rest b₁ in
      let i = f₁.whole in
      let j = f₂.whole in
      let z : 0 + length bs ≡ length bs = omega arith in
      let beams : beams_bytes bs ++ field count_tag (little_endian count_length (length bs)) ≡ drop (field_size station_length) rest = rw z at (later b₂ h) in
      let station : little_endian 2 n ≡ take 2 (drop head_size rest) =
      ap (little_endian 2) (sym s) ∙ little_endian_again 2 (drop head_size rest) (each_drop IsByte 0 head_size rest b₁) (omega (arith, length-drop head_size rest)) in
      let first : little_endian 1 axes ≡ take 1 (drop head_size bytes) =
      ap (little_endian 1) (sym a ∙ one_byte bytes) ∙ little_endian_again 1 (drop head_size bytes) (each_drop IsByte 0 head_size bytes b) (omega (arith, length-drop head_size bytes)) in
      simp append_assoc
      (ap₂ (λ (x y : List ℕ). field axes_tag x ++ y) first
      (ap₂ (λ (x y : List ℕ). field station_tag x ++ y) station beams ∙ field_again station_tag station_length rest b₁ f₂)
      ∙ field_again axes_tag axes_length bytes b f₁)

  pub sweep_again : (bytes : List ℕ) (s : Sweep) → sweep_of axes bytes ≡ given s → AreBytes bytes → Every NoNanIn s.beams → sweep_bytes axes s.station s.beams ≡ bytes
  unfolding sweep_of station_in
  sweep_again bytes s e b h =
      let rest : List ℕ = drop (field_size axes_length) bytes in
      let x = sweep_given 0 (field_here axes_tag axes_length bytes && eqb (get_or bytes head_size 0) axes) tt (λ (t : Unit {0}). station_in axes (field_size axes_length) rest) s e in
      let u = both (field_here axes_tag axes_length bytes) (eqb (get_or bytes head_size 0) axes) x.0 in
      let go : ℕ → Answer Sweep = λ n. and_then (beams_in axes (length (drop (field_size station_length) rest)) 0 beams_offset (drop (field_size station_length) rest)) (λ bs. given (record { station = n; beams = bs })) in
      let y = sweep_given (field_size axes_length) (field_here station_tag station_length rest) (from_little_endian station_length (drop head_size rest)) go s x.1 in
      let c = then_given (beams_in axes (length (drop (field_size station_length) rest)) 0 beams_offset (drop (field_size station_length) rest)) (λ bs. given (record { station = from_little_endian station_length (drop head_size rest); beams = bs })) s y.1 in
      let same : record { station = from_little_endian station_length (drop head_size rest); beams = c.0 } ≡ s = (let q = c.2 in cc) in
      let later = beams_again (length (drop (field_size station_length) rest)) 0 beams_offset (drop (field_size station_length) rest) c.0 c.1 in
      subst (λ (t : Sweep). Every NoNanIn t.beams → sweep_bytes axes t.station t.beams ≡ bytes) same
      (λ n. file_again bytes (from_little_endian station_length (drop head_size rest)) c.0 b n (found axes_tag axes_length bytes u.0) (eqb-true _ _ u.1) (found station_tag station_length rest y.0) refl later) h
