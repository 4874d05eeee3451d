-- The same of flat lists in the right shape, which are their beams: none, and two one after another. Assumes nothing.
use Rattle.std.specs.Prelude.{ℕ, suc, ◌+◌, ◌-◌, ◌*◌, ◌≤◌, ◌≡◌, refl, true, List, [], ◌∷◌, ◌++◌, T, ltb, eqb, length, take, drop, Float}
use Rattle.std.proofs.Common.{sym, ap, ap₂, ◌∙◌, subst, mul-zero, mul-add, mul-suc, arith, eqb→eq, length-append, length-drop}
use Rattle.std.proofs.Math.Option.{Option, some, none}
use Rattle.std.proofs.lemmas.List.{take-append-le, drop-append-le}
use Rattle.std.specs.Float.{Format}
use Rattle.std.specs.Float.Ieee.Fits.{and_i, and_l, and_r, eq→eqb}
use Rattle.rules.specs.RefusalNumbers.{Refusal, given}
use Rattle.rules.specs.RefusalNumbers.Entries.{Outcome, unless_refused, answered, head_refusal, uses_of, beams, update_scan_entry, update_beams_entry}
use Rattle.rules.specs.TheGridAndItsBounds.{Head, Grid}
use Rattle.rules.specs.OneBeam.{Beam, integrated_from, integrated, all_bits, flat_shape, beams_of}
use Rattle.theorems.specs.FlatList.{flat_as_structs}
use Rattle.theorems.specs.HandCorrections.{Joined, nothing_done}
use Rattle.theorems.specs.HandCorrections.Sweeps.{lists}

-- ---- no beams
-- the head may refuse; otherwise the count is 0, and either way nothing changes
pub no_structs : (f : Format) (h : Head) (g : Grid) → update_beams_entry f h [] g ≡ nothing_done h g
unfolding update_beams_entry integrated integrated_from
no_structs f h g = go (head_refusal (uses_of beams) h (length g.odds) (length g.stamps))
  where
    go : (r : Option Refusal) → unless_refused {A = ℕ} r g (record { answer = given 0; lent = g }) ≡ record { answer = answered r (given 0); lent = g }
    go (some r) = refl
    go none = refl

empty_shape : (n : ℕ) → T (flat_shape n [] [])
unfolding flat_shape all_bits
empty_shape n = and_i (eqb 0 (2 * n * 0)) true (eq→eqb (sym (mul-zero (2 * n)))) tt

pub no_numbers : (f : Format) (h : Head) (g : Grid) → update_scan_entry f h [] [] g ≡ nothing_done h g
unfolding beams_of
no_numbers f h g = flat_as_structs f h [] [] g (empty_shape (length h.extents)) ∙ no_structs f h g

-- ---- two lists
bits_joined : (hs ks : List ℕ) → T (all_bits hs) → T (all_bits ks) → T (all_bits (hs ++ ks))
unfolding all_bits
bits_joined [] ks p q = q
bits_joined (h ∷ hs) ks p q = and_i (ltb h 2) (all_bits (hs ++ ks)) (and_l (ltb h 2) (all_bits hs) p) (bits_joined hs ks (and_r (ltb h 2) (all_bits hs) p) q)

shape_count : (n : ℕ) (xs : List Float) (hs : List ℕ) → T (flat_shape n xs hs) → length xs ≡ 2 * n * length hs
unfolding flat_shape
shape_count n xs hs t = eqb→eq (length xs) (2 * n * length hs) (and_l (eqb (length xs) (2 * n * length hs)) (all_bits hs) t)

pub shape_joined : (n : ℕ) (xs ys : List Float) (hs ks : List ℕ) → T (flat_shape n xs hs) → T (flat_shape n ys ks) → T (flat_shape n (xs ++ ys) (hs ++ ks))
unfolding flat_shape
shape_joined n xs ys hs ks p q =
    let together : length (xs ++ ys) ≡ 2 * n * length (hs ++ ks) =
    length-append xs ys ∙ ap₂ (λ (i j : ℕ). i + j) (shape_count n xs hs p) (shape_count n ys ks q) ∙ sym (mul-add (2 * n) (length hs) (length ks))
    ∙ ap (λ (i : ℕ). 2 * n * i) (sym (length-append hs ks)) in
    and_i (eqb (length (xs ++ ys)) (2 * n * length (hs ++ ks))) (all_bits (hs ++ ks)) (eq→eqb together)
    (bits_joined hs ks (and_r (eqb (length xs) (2 * n * length hs)) (all_bits hs) p) (and_r (eqb (length ys) (2 * n * length ks)) (all_bits ks) q))

none_left : (xs : List Float) (n : ℕ) → length xs ≡ 2 * n * 0 → xs ≡ []
none_left [] n e = refl
none_left (x ∷ xs) n e = absurd (omega (arith, mul-zero (2 * n)))

pub beams_joined : (n : ℕ) (xs ys : List Float) (hs ks : List ℕ) → length xs ≡ 2 * n * length hs → beams_of n (xs ++ ys) (hs ++ ks) ≡ beams_of n xs hs ++ beams_of n ys ks
unfolding beams_of
beams_joined n xs ys [] ks e = ap (λ (zs : List Float). beams_of n (zs ++ ys) ks) (none_left xs n e)
beams_joined n xs ys (h ∷ hs) ks e =
    let more : length xs ≡ 2 * n + 2 * n * length hs = e ∙ mul-suc (2 * n) (length hs) ∙ comm (2 * n * length hs) (2 * n) in
    let half : n ≤ length (drop n xs) = omega (arith, length-drop n xs) in
    let front : take n (xs ++ ys) ≡ take n xs = take-append-le n xs ys (omega arith) in
    let back : take n (drop n (xs ++ ys)) ≡ take n (drop n xs) = ap (λ (zs : List Float). take n zs) (drop-append-le n xs ys (omega arith)) ∙ take-append-le n (drop n xs) ys half in
    let rest : beams_of n (drop (2 * n) (xs ++ ys)) (hs ++ ks) ≡ beams_of n (drop (2 * n) xs) hs ++ beams_of n ys ks =
    ap (λ (zs : List Float). beams_of n zs (hs ++ ks)) (drop-append-le (2 * n) xs ys (omega arith))
    ∙ beams_joined n (drop (2 * n) xs) ys hs ks (length-drop (2 * n) xs ∙ less (length xs) (2 * n) (2 * n * length hs) more) in
    ap₂ (λ (b : Beam) (bs : List Beam). b ∷ bs) (ap₂ (λ (o p : List Float). record { origin = o; endpoint = p; hit = eqb h 1 }) front back) rest
  where
    comm : (a b : ℕ) → a + b ≡ b + a
    comm a b = omega arith

    less : (a b c : ℕ) → a ≡ b + c → a - b ≡ c
    less a b c q = omega arith

pub beams_count : (n : ℕ) (xs : List Float) (hs : List ℕ) → length (beams_of n xs hs) ≡ length hs
unfolding beams_of
beams_count n xs [] = refl
beams_count n xs (h ∷ hs) = ap suc (beams_count n (drop (2 * n) xs) hs)

pub flat_lists : (f : Format) (h : Head) (xs ys : List Float) (hs ks : List ℕ) (g : Grid) → T (flat_shape (length h.extents) xs hs) → T (flat_shape (length h.extents) ys ks)
    → Joined (length hs) (update_scan_entry f h xs hs g) (update_scan_entry f h ys ks (update_scan_entry f h xs hs g).lent) (update_scan_entry f h (xs ++ ys) (hs ++ ks) g)
flat_lists f h xs ys hs ks g p q =
    let n = length h.extents in
    let first = flat_as_structs f h xs hs g p in
    let second : update_scan_entry f h ys ks (update_scan_entry f h xs hs g).lent ≡ update_beams_entry f h (beams_of n ys ks) (update_beams_entry f h (beams_of n xs hs) g).lent =
    flat_as_structs f h ys ks (update_scan_entry f h xs hs g).lent q ∙ ap (λ (o : Outcome ℕ Grid). update_beams_entry f h (beams_of n ys ks) o.lent) first in
    let both : update_scan_entry f h (xs ++ ys) (hs ++ ks) g ≡ update_beams_entry f h (beams_of n xs hs ++ beams_of n ys ks) g =
    flat_as_structs f h (xs ++ ys) (hs ++ ks) g (shape_joined n xs ys hs ks p q)
    ∙ ap (λ (bs : List Beam). update_beams_entry f h bs g) (beams_joined n xs ys hs ks (shape_count n xs hs p)) in
    subst (λ (c : ℕ). Joined c (update_scan_entry f h xs hs g) (update_scan_entry f h ys ks (update_scan_entry f h xs hs g).lent) (update_scan_entry f h (xs ++ ys) (hs ++ ks) g)) (beams_count n xs hs)
    (rw (second, both, first) (lists f h (beams_of n xs hs) (beams_of n ys ks) g))
