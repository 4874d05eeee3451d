-- A sweep file that is refused: with number 12, at a place where a field begins. Assumes nothing.
use Prim.Native.Nat.{ℕ, zero, suc, ◌+◌}
use Rattle.std.specs.Prelude.{Bool, true, false, cond, ◌&&◌, ◌⊎◌, ◌≡◌, ltb, length, get_or}
use mathlib.Core.List.{List, [], ◌∷◌}
use Rattle.std.proofs.Common.{inl, inr, arith}
use Rattle.std.proofs.Math.Path.{refl}
use Rattle.std.proofs.Math.Dec.{eqb}
use Rattle.std.proofs.Math.ListN.{drop}
use Rattle.rules.specs.RefusalNumbers.{Refusal, Answer, given, refused, and_then, broken_sweep}
use Rattle.rules.specs.OneBeam.{Beam}
use Rattle.rules.specs.Fields.{from_little_endian, head_size, field_size, field_here}
use Rattle.rules.specs.SweepFile.{axes_tag, axes_length, station_tag, station_length, beam_tag, points_length, beam_length, count_tag, count_length, beams_offset}
use Rattle.rules.specs.SweepFile.{sweep_or, beam_here, beam_in, sweep_end_in, beams_in, station_in, sweep_of}
use Rattle.record_laws.specs.Words.{FieldBegins, first}
use Rattle.record_laws.specs.Each.{both}
use Rattle.record_laws.specs.Fields.{Reached, reached_next, then_refused}

-- a refusal of number 12 that names a place where a field begins
pub record BrokenAt (bytes : List ℕ) (r : Refusal) : Type 0 where
  pub offset : ℕ
  pub is : broken_sweep offset ≡ r
  pub begins : FieldBegins bytes offset

sweep_refused : {A B : Type 0} (o : ℕ) (sound : Bool) (a : A) (go : A → Answer B) (r : Refusal) → and_then (sweep_or o sound a) go ≡ refused r
    → (broken_sweep o ≡ r) ⊎ ((sound ≡ true) × (go a ≡ refused r))
sweep_refused o true a go r e = inr (refl, e)
sweep_refused o false a go r e = inl cc

-- a field that is read refuses here, or leaves it to what follows
step_broken : {A B : Type 0} (bytes : List ℕ) (o : ℕ) (rest : List ℕ) (sound : Bool) (a : A) (go : A → Answer B) (r : Refusal)
    → Reached bytes o rest → and_then (sweep_or o sound a) go ≡ refused r → (sound ≡ true → go a ≡ refused r → BrokenAt bytes r) → BrokenAt bytes r
step_broken bytes o rest sound a go r p e later = by (sweep_refused o sound a go r e)
  where
    by : (broken_sweep o ≡ r) ⊎ ((sound ≡ true) × (go a ≡ refused r)) → BrokenAt bytes r
    by (inl q) = record { offset = o; is = q; begins = p.begins }
    by (inr q) = later q.0 q.1

end-broken : (bytes : List ℕ) (n offset : ℕ) (rest : List ℕ) (r : Refusal) → Reached bytes offset rest → sweep_end_in n offset rest ≡ refused r → BrokenAt bytes r
unfolding sweep_end_in
end-broken bytes n offset rest r p e =
    step_broken bytes offset rest (field_here count_tag count_length rest && eqb (from_little_endian count_length (drop head_size rest)) n) tt
    (λ (t : Unit {0}). sweep_or {A = List Beam} (offset + field_size count_length) (eqb (length rest) (field_size count_length)) []) r p e
    (λ s q. last (eqb (length rest) (field_size count_length)) (reached_next bytes offset rest count_tag count_length p (both (field_here count_tag count_length rest) (eqb (from_little_endian count_length (drop head_size rest)) n) s).0) q)
  where
    last : (b : Bool) → Reached bytes (offset + field_size count_length) (drop 7 rest) → sweep_or {A = List Beam} (offset + field_size count_length) b [] ≡ refused r → BrokenAt bytes r
    last true q h = let z : ◌≡◌ {A = ℕ} 0 1 = cc in absurd (omega arith)
    last false q h = record { offset = offset + field_size count_length; is = cc; begins = q.begins }

module _ (axes : ℕ) (bytes : List ℕ) (r : Refusal) where
  abbrev size : ℕ
  size = field_size (beam_length axes)

  behind-beam : (offset : ℕ) (rest : List ℕ) → Reached bytes offset rest → beam_here axes rest ≡ true → Reached bytes (offset + size) (drop size rest)
  unfolding beam_here
  behind-beam offset rest p e =
      reached_next bytes offset rest beam_tag (beam_length axes) p (both (field_here beam_tag (beam_length axes) rest) (ltb (get_or rest (head_size + points_length axes) 0) 2) e).0

  on-broken : (offset : ℕ) (rest : List ℕ) (next end : Answer (List Beam)) → Reached bytes offset rest
      → (Reached bytes (offset + size) (drop size rest) → next ≡ refused r → BrokenAt bytes r) → (end ≡ refused r → BrokenAt bytes r)
      → (x : Bool) → beam_here axes rest ≡ x → cond x (and_then next (λ cs. given (beam_in axes rest ∷ cs))) end ≡ refused r → BrokenAt bytes r
  on-broken offset rest next end p later last true here e = later (behind-beam offset rest p here) (then_refused next (λ cs. beam_in axes rest ∷ cs) r e)
  on-broken offset rest next end p later last false here e = last e

  beams_broken : (most found offset : ℕ) (rest : List ℕ) → Reached bytes offset rest → beams_in axes most found offset rest ≡ refused r → BrokenAt bytes r
  unfolding beams_in
  beams_broken zero found offset rest p e = end-broken bytes found offset rest r p e
  beams_broken (suc most) found offset rest p e =
      on-broken offset rest (beams_in axes most (suc found) (offset + size) (drop size rest)) (sweep_end_in found offset rest) p
      (λ q h. beams_broken most (suc found) (offset + size) (drop size rest) q h) (λ h. end-broken bytes found offset rest r p h) (beam_here axes rest) refl e

  station_broken : (rest : List ℕ) → Reached bytes 4 rest → station_in axes (field_size axes_length) rest ≡ refused r → BrokenAt bytes r
  unfolding station_in
  station_broken rest p e =
      let after : List ℕ = drop (field_size station_length) rest in
      let station : ℕ = from_little_endian station_length (drop head_size rest) in
      step_broken bytes (field_size axes_length) rest (field_here station_tag station_length rest) station (λ n. and_then (beams_in axes (length after) 0 beams_offset after) (λ bs. given (record { station = n; beams = bs }))) r p e
      (λ s q. beams_broken (length after) 0 beams_offset after (reached_next bytes 4 rest 2 2 p s)
      (then_refused (beams_in axes (length after) 0 beams_offset after) (λ bs. record { station = station; beams = bs }) r q))

  pub sweep-broken : sweep_of axes bytes ≡ refused r → BrokenAt bytes r
  unfolding sweep_of
  sweep-broken e =
      step_broken bytes 0 bytes (field_here axes_tag axes_length bytes && eqb (get_or bytes head_size 0) axes) tt (λ (t : Unit {0}). station_in axes (field_size axes_length) (drop (field_size axes_length) bytes)) r
      (record { begins = first; is = refl }) e
      (λ s q. station_broken (drop (field_size axes_length) bytes)
      (reached_next bytes 0 bytes axes_tag axes_length (record { begins = first; is = refl }) (both (field_here axes_tag axes_length bytes) (eqb (get_or bytes head_size 0) axes) s).0) q)
