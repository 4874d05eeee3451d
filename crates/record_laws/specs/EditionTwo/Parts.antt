-- So many parts of a record, one after another; a part is one field or several, and is handed what follows it, as a
-- field is. What is known of parts that were read, and where parts that are refused are broken. Assumes nothing.
use Prim.Native.Nat.{ℕ, zero, suc, ◌+◌, ◌*◌, ◌≤◌}
use mathlib.Core.List.{List, [], ◌∷◌}
use Rattle.std.specs.Prelude.{◌≡◌, refl, length}
use Rattle.std.proofs.Math.Path.{sym, ap}
use Rattle.std.proofs.Common.{ap₂, ◌∙◌, length-drop, drop-drop}
use Rattle.std.proofs.Math.Nat.{zero-mul, suc-mul}
use native.Mathlib.Omega.{arith}
use Rattle.std.proofs.Math.ListN.{drop}
use Rattle.rules.specs.RefusalNumbers.{Refusal, given, refused}
use Rattle.rules.specs.Fields.{Field, Reading, field_then, rows_then}
use Rattle.record_laws.specs.Fields.{Reached, BrokenAt, field-broken}

-- ---- read
-- parts of so many bytes each, of which a fact is known where each stands
module _ {A : Type 0} (size : ℕ) (Has : List ℕ → A → Type 0) where
  abbrev pub AllHave : List ℕ → List A → Type 0
  AllHave rest [] = Unit {0}
  AllHave rest (x ∷ xs) = (size ≤ length rest) × Has rest x × AllHave (drop size rest) xs

  pub all_whole : (rest : List ℕ) (xs : List A) → AllHave rest xs → length xs * size ≤ length rest
  all_whole rest [] h = omega (arith, zero-mul size)
  all_whole rest (x ∷ xs) h =
      let l = all_whole (drop size rest) xs h.2 in
      let k = h.0 in
      omega (arith, length-drop size rest, suc-mul (length xs) size)

module _ {A B : Type 0} (size : ℕ) (Has : List ℕ → A → Type 0) (part : (A → Reading B) → Reading B) where
  -- one part that was read, and what was given behind it
  pub record PartPassed (next : A → Reading B) (o : ℕ) (rest : List ℕ) (b : B) : Type 0 where
    pub it : A
    pub whole : size ≤ length rest
    pub has : Has rest it
    pub after : next it (o + size) (drop size rest) ≡ given b

  -- so many
  pub record PartsPassed (n : ℕ) (next : List A → Reading B) (o : ℕ) (rest : List ℕ) (b : B) : Type 0 where
    pub them : List A
    pub many : length them ≡ n
    pub all : AllHave size Has rest them
    pub after : next them (o + n * size) (drop (n * size) rest) ≡ given b

  pub parts_given : ((next : A → Reading B) (o : ℕ) (rest : List ℕ) (b : B) → part next o rest ≡ given b → PartPassed next o rest b)
      → (n : ℕ) (next : List A → Reading B) (o : ℕ) (rest : List ℕ) (b : B) → rows_then part n next o rest ≡ given b → PartsPassed n next o rest b
  unfolding rows_then
  parts_given one zero next o rest b e =
      let none = zero-mul size in
      let k : o + 0 * size ≡ o = omega arith in
      record { them = []; many = refl; all = tt; after = rw (k, none) e }
  parts_given one (suc n) next o rest b e =
      let p = one (λ x. rows_then part n (λ xs. next (x ∷ xs))) o rest b e in
      let q = parts_given one n (λ xs. next (p.it ∷ xs)) (o + size) (drop size rest) b p.after in
      let k : o + size + n * size ≡ o + suc n * size = omega (arith, suc-mul n size) in
      let j : size + n * size ≡ suc n * size = omega (arith, suc-mul n size) in
      record {
        them = p.it ∷ q.them;
        many = ap suc q.many;
        all = (p.whole, p.has, q.all);
        after = sym (ap₂ (next (p.it ∷ q.them)) k (drop-drop (n * size) size rest ∙ ap (λ (at : ℕ). drop at rest) j)) ∙ q.after;
      }

-- ---- refused
module _ {B : Type 0} (bytes : List ℕ) (r : Refusal) where
  -- refused here, or by what follows
  abbrev pub Breaks : {A : Type 0} → ((A → Reading B) → Reading B) → Type 0
  Breaks {A} part =
      (next : A → Reading B) (o : ℕ) (rest : List ℕ) → Reached bytes o rest → part next o rest ≡ refused r
      → ((a : A) (at : ℕ) (left : List ℕ) → Reached bytes at left → next a at left ≡ refused r → BrokenAt bytes r) → BrokenAt bytes r

  pub field_breaks : {A : Type 0} (f : Field A) → Breaks (field_then f)
  field_breaks f next o rest p e later = field-broken f next bytes o rest r p e (λ q g. later _ _ _ q g)

  pub parts-broken : {A : Type 0} (part : (A → Reading B) → Reading B) → Breaks part → (n : ℕ) → Breaks (rows_then part n)
  unfolding rows_then
  parts-broken part one zero next o rest p e later = later [] o rest p e
  parts-broken part one (suc n) next o rest p e later =
      one (λ x. rows_then part n (λ xs. next (x ∷ xs))) o rest p e
      (λ x at left q f. parts-broken part one n (λ xs. next (x ∷ xs)) at left q f (λ xs. later (x ∷ xs)))
