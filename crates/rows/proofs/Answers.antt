-- Answers and their refusals: the first stands, and where there is none every field is sound. Assumes nothing.
use Prim.Native.Nat.{ℕ, ◌+◌}
use mathlib.Core.Bool.{Bool, true, false}
use mathlib.Core.List.{List}
use mathlib.Core.Option.{Option, some, none}
use mathlib.Core.Path.{◌≡◌, refl}
use native.Mathlib.Omega.{arith}
use lib.ListN.{drop}
use Rattle.rules.specs.RefusalNumbers.{Refusal, Answer, given, refused, and_then}
use Rattle.rules.specs.RefusalNumbers.Entries.{or_else}
use Rattle.rules.specs.Fields.{field_size, Field, contents, sound_here, Reading, sound_or, field_then}
use Rattle.rows.specs.Rows.{refusal_in, unless_sound}

pub sound_then : {A B : Type 0} (offset : ℕ) (sound : Bool) (a : A) (go : A → Answer B)
    → refusal_in (and_then (sound_or offset sound a) go) ≡ unless_sound offset sound (refusal_in (go a))
sound_then offset true a go = refl
sound_then offset false a go = refl

-- what is given at the end was given at each step
pub then_given : {A B : Type 0} (x : Answer A) (go : A → Answer B) (b : B) → and_then x go ≡ given b → (a : A) × (x ≡ given a) × (go a ≡ given b)
then_given (given a) go b e = (a, refl, e)
then_given (refused r) go b e = let z : ◌≡◌ {A = ℕ} 0 1 = cc in absurd (omega arith)

pub refused_as : {A : Type 0} (x : Answer A) (r : Refusal) → refusal_in x ≡ some r → x ≡ refused r
refused_as (given a) r e = let z : ◌≡◌ {A = ℕ} 0 1 = cc in absurd (omega arith)
refused_as (refused q) r e = cc

pub given_as : (x : Answer (Unit {0})) → refusal_in x ≡ none → x ≡ given tt
given_as (given tt) e = refl
given_as (refused r) e = let z : ◌≡◌ {A = ℕ} 0 1 = cc in absurd (omega arith)

-- nothing refused: the field is sound, and nothing after it is refused
pub sound_first : (offset : ℕ) (sound : Bool) (next : Option Refusal) → unless_sound offset sound next ≡ none → sound ≡ true
sound_first offset true next e = refl
sound_first offset false next e = let z : ◌≡◌ {A = ℕ} 0 1 = cc in absurd (omega arith)

pub sound_next : (offset : ℕ) (sound : Bool) (next : Option Refusal) → unless_sound offset sound next ≡ none → next ≡ none
sound_next offset true next e = e
sound_next offset false next e = let z : ◌≡◌ {A = ℕ} 0 1 = cc in absurd (omega arith)

-- the first of two refusals, and both
pub sound_else : (offset : ℕ) (sound : Bool) (x y : Option Refusal) → unless_sound offset sound (or_else x y) ≡ or_else (unless_sound offset sound x) y
sound_else offset true x y = refl
sound_else offset false x y = refl

pub none_first : (x y : Option Refusal) → or_else x y ≡ none → x ≡ none
none_first none y e = refl
none_first (some r) y e = e

pub none_next : (x y : Option Refusal) → or_else x y ≡ none → y ≡ none
none_next none y e = e
none_next (some r) y e = let z : ◌≡◌ {A = ℕ} 0 1 = cc in absurd (omega arith)

-- a field, then what follows it
module _ {A B : Type 0} (f : Field A) (next : A → Reading B) (offset : ℕ) (rest : List ℕ) where
  abbrev pub onwards : Answer B
  onwards = next (contents f rest) (offset + field_size f.size) (drop (field_size f.size) rest)

  pub field_refusal : refusal_in (field_then f next offset rest) ≡ unless_sound offset (sound_here f rest) (refusal_in onwards)
  unfolding field_then
  field_refusal =
      sound_then offset (sound_here f rest) (contents f rest) (λ a. next a (offset + field_size f.size) (drop (field_size f.size) rest))

  pub field-on : sound_here f rest ≡ true → field_then f next offset rest ≡ onwards
  unfolding field_then
  field-on e = rw e refl
