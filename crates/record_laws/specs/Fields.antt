-- One field of a record: written it is found again, with what follows it; and found, it is what writing its contents
-- gives. And the steps of reading: a sound field goes on, a broken one refuses at its offset. Assumes nothing.
use Rattle.std.specs.Prelude.{ℕ, suc, ◌+◌, ◌≤◌, ◌<◌, Bool, true, false, List, [], ◌∷◌, ◌++◌, ◌⊎◌, ◌≡◌, leb, eqb, length, get_or, take, drop}
use Rattle.std.proofs.Common.{append_assoc, inl, inr, sym, ap₂, ◌∙◌, arith, length-append, length-drop, take-append-drop, drop_at, drop-drop, length-take-le, leb-true, eqb-true, le-leb, eq-eqb}
use Rattle.std.proofs.Math.Path.{refl, ap}
use Rattle.rules.specs.RefusalNumbers.{Refusal, Answer, given, refused, and_then, broken_record}
use Rattle.rules.specs.Fields.{little_endian, from_little_endian, field, field_here, field_size, Field, contents, sound_here, Reading, sound_or, field_then}
use Rattle.record_laws.specs.Words.{IsByte, AreBytes, FieldBegins, first, behind}
use Rattle.record_laws.specs.Each.{each_drop, both, all_three}
use Rattle.record_laws.specs.Bytes.{little_endian_length, little_endian_back, little_endian_again}

-- ---- a field
pub field-length : (tag : ℕ) (bs : List ℕ) → length (field tag bs) ≡ field_size (length bs)
unfolding field
field-length tag bs =
    ap suc (length-append (little_endian 2 (length bs)) bs ∙ ap (λ (n : ℕ). n + length bs) (little_endian_length 2 (length bs)))
    ∙ omega arith

-- behind the tag and the length stand the contents
pub field-contents : (tag : ℕ) (bs rest : List ℕ) → drop 3 (field tag bs ++ rest) ≡ bs ++ rest
unfolding field little_endian
field-contents tag bs rest = refl

pub field-after : (tag : ℕ) (bs rest : List ℕ) (n : ℕ) → length bs ≡ n → drop (field_size n) (field tag bs ++ rest) ≡ rest
field-after tag bs rest n e = drop_at (field tag bs) rest (field_size n) (field-length tag bs ∙ ap field_size e)

-- a field that was written stands there whole
pub field_found : (tag : ℕ) (bs rest : List ℕ) (n : ℕ) → length bs ≡ n → n < 65_536 → field_here tag n (field tag bs ++ rest) ≡ true
unfolding field_here field
field_found tag bs rest n e l =
    let size : field_size n ≤ length (field tag bs ++ rest) =
    omega (arith, length-append (field tag bs) rest, field-length tag bs) in
    let number : from_little_endian 2 ((little_endian 2 (length bs) ++ bs) ++ rest) ≡ n =
    rw append_assoc (little_endian_back 2 (length bs) (bs ++ rest) (omega arith) ∙ e) in
    rw (le-leb (3 + n) (length (field tag bs ++ rest)) size, eq-eqb tag tag refl, eq-eqb _ n number) refl

-- what is known where a field stands whole
pub record Found (tag n : ℕ) (rest : List ℕ) : Type 0 where
  pub whole : field_size n ≤ length rest
  pub its_tag : get_or rest 0 0 ≡ tag
  pub its_length : from_little_endian 2 (drop 1 rest) ≡ n

pub found : (tag n : ℕ) (rest : List ℕ) → field_here tag n rest ≡ true → Found tag n rest
unfolding field_here
found tag n rest e =
    let t = all_three (leb (3 + n) (length rest)) (eqb (get_or rest 0 0) tag) (eqb (from_little_endian 2 (drop 1 rest)) n) e in
    record { whole = leb-true _ _ t.0; its_tag = eqb-true _ _ t.1; its_length = eqb-true _ _ t.2 }

-- a field that was found is what writing its contents gives
pub field_again : (tag n : ℕ) (rest : List ℕ) → AreBytes rest → Found tag n rest → field tag (take n (drop 3 rest)) ++ drop (field_size n) rest ≡ rest
unfolding field
field_again tag n [] bs f = absurd (omega arith)
field_again tag n (t ∷ []) bs f = absurd (omega arith)
field_again tag n (t ∷ a ∷ []) bs f = absurd (omega arith)
field_again tag n (t ∷ a ∷ b ∷ cs) bs f =
    let number : little_endian 2 n ≡ a ∷ b ∷ [] =
    ap (little_endian 2) (sym f.its_length) ∙ little_endian_again 2 (a ∷ b ∷ cs) (each_drop IsByte 0 1 (t ∷ a ∷ b ∷ cs) bs) (omega arith) in
    let many : length (take n cs) ≡ n = length-take-le n cs (omega arith) in
    ap₂ (λ (x y : List ℕ). x ++ y)
    (ap₂ (λ (x : ℕ) (m : List ℕ). x ∷ m ++ take n cs) (sym f.its_tag) (ap (little_endian 2) many ∙ number))
    (sym (drop-drop n 3 (t ∷ a ∷ b ∷ cs)))
    ∙ ap (λ (l : List ℕ). t ∷ a ∷ b ∷ l) (take-append-drop n cs)

-- ---- the steps of reading
module _ {A B : Type 0} where
  -- what is given at the end was given at each step
  pub sound_given : (o : ℕ) (sound : Bool) (a : A) (go : A → Answer B) (b : B) → and_then (sound_or o sound a) go ≡ given b
      → (sound ≡ true) × (go a ≡ given b)
  sound_given o true a go b e = (refl, e)
  sound_given o false a go b e = let z : ◌≡◌ {A = ℕ} 0 1 = cc in absurd (omega arith)

  -- what is refused is refused here, or the field is sound and it is refused after it
  pub sound_refused : (o : ℕ) (sound : Bool) (a : A) (go : A → Answer B) (r : Refusal) → and_then (sound_or o sound a) go ≡ refused r
      → (broken_record o ≡ r) ⊎ ((sound ≡ true) × (go a ≡ refused r))
  sound_refused o true a go r e = inr (refl, e)
  sound_refused o false a go r e = inl cc

  pub then_refused : (x : Answer A) (go : A → B) (r : Refusal) → and_then x (λ a. given (go a)) ≡ refused r → x ≡ refused r
  then_refused (given a) go r e = let z : ◌≡◌ {A = ℕ} 0 1 = cc in absurd (omega arith)
  then_refused (refused s) go r e = cc

-- ---- where fields begin
pub begins_within : (bytes : List ℕ) (o : ℕ) → FieldBegins bytes o → o ≤ length bytes
begins_within bytes o first = omega arith
begins_within bytes o (behind q n f l e) = l

-- a place where reading has come to
pub record Reached (bytes : List ℕ) (o : ℕ) (rest : List ℕ) : Type 0 where
  pub begins : FieldBegins bytes o
  pub is : drop o bytes ≡ rest

pub reached_next : (bytes : List ℕ) (o : ℕ) (rest : List ℕ) (tag n : ℕ) → Reached bytes o rest → field_here tag n rest ≡ true
    → Reached bytes (o + field_size n) (drop (field_size n) rest)
reached_next bytes o rest tag n r e =
    let f = found tag n rest e in
    let l : field_size n ≤ length (drop o bytes) = rw r.is f.whole in
    record {
      begins = behind o n r.begins (omega (arith, length-drop o bytes))
          (ap (λ (l : List ℕ). from_little_endian 2 (drop 1 l)) r.is ∙ f.its_length);
      is = sym (drop-drop (field_size n) o bytes) ∙ ap (drop (field_size n)) r.is;
    }

-- a refusal of number 10 that names a place where a field begins
pub record BrokenAt (bytes : List ℕ) (r : Refusal) : Type 0 where
  pub offset : ℕ
  pub is : broken_record offset ≡ r
  pub begins : FieldBegins bytes offset

pub broken_here : (bytes : List ℕ) (o : ℕ) (rest : List ℕ) (r : Refusal) → Reached bytes o rest → broken_record o ≡ r → BrokenAt bytes r
broken_here bytes o rest r p e = record { offset = o; is = e; begins = p.begins }

-- ---- a field, then what follows it
module _ {A B : Type 0} (f : Field A) (next : A → Reading B) where
  -- written, with sound contents: reading goes on behind it
  pub field_back : (bs rest : List ℕ) (a : A) (o : ℕ) → length bs ≡ f.size → f.size < 65_536 → f.means (bs ++ rest) ≡ a → f.sound a ≡ true
      → field_then f next o (field f.tag bs ++ rest) ≡ next a (o + field_size f.size) rest
  unfolding field_then
  field_back bs rest a o many small is sound =
      let here = field_found f.tag bs rest f.size many small in
      let held : contents f (field f.tag bs ++ rest) ≡ a = ap f.means (field-contents f.tag bs rest) ∙ is in
      rw (here, held, sound, field-after f.tag bs rest f.size many) refl

  -- given at the end: it was found, its contents are sound, and what follows was given
  pub record Passed (o : ℕ) (rest : List ℕ) (b : B) : Type 0 where
    pub is_found : Found f.tag f.size rest
    pub is_sound : f.sound (contents f rest) ≡ true
    pub after : next (contents f rest) (o + field_size f.size) (drop (field_size f.size) rest) ≡ given b

  pub field_given : (o : ℕ) (rest : List ℕ) (b : B) → field_then f next o rest ≡ given b → Passed o rest b
  unfolding field_then
  field_given o rest b e =
      let s = sound_given o (sound_here f rest) (contents f rest) (λ a. next a (o + field_size f.size) (drop (field_size f.size) rest)) b e in
      let t = both (field_here f.tag f.size rest) (f.sound (contents f rest)) s.0 in
      record { is_found = found f.tag f.size rest t.0; is_sound = t.1; after = s.1 }

  -- refused: here, or by what follows
  pub field-broken : (bytes : List ℕ) (o : ℕ) (rest : List ℕ) (r : Refusal) → Reached bytes o rest → field_then f next o rest ≡ refused r
      → (Reached bytes (o + field_size f.size) (drop (field_size f.size) rest)
      → next (contents f rest) (o + field_size f.size) (drop (field_size f.size) rest) ≡ refused r → BrokenAt bytes r)
      → BrokenAt bytes r
  unfolding field_then
  field-broken bytes o rest r p e later =
      by (sound_refused o (sound_here f rest) (contents f rest) (λ a. next a (o + field_size f.size) (drop (field_size f.size) rest)) r e)
    where
      by : (broken_record o ≡ r)
          ⊎ ((sound_here f rest ≡ true) × (next (contents f rest) (o + field_size f.size) (drop (field_size f.size) rest) ≡ refused r)) → BrokenAt bytes r
      by (inl q) = broken_here bytes o rest r p q
      by (inr q) =
          later (reached_next bytes o rest f.tag f.size p (both (field_here f.tag f.size rest) (f.sound (contents f rest)) q.0).0) q.1
