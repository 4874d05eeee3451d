-- The law that fixes an answer: a contract says that what is answered and left, seen by a map with a way back, is one
-- value of the rules; then two that it allows for one input are equal. Alone, beside lent lists, and beside a lent
-- head. Assumes nothing.
use Rattle.std.specs.Prelude.{◌≡◌, refl}
use Rattle.std.proofs.Common.{sym, ap, ◌∙◌}
use Rattle.rules.specs.RefusalNumbers.{Answer}
use Rattle.rules.specs.RefusalNumbers.Entries.{Outcome}
use Rattle.types.proofs.Injective.{Injective}

-- what a contract allows is one: `Allowed` is its `ensures`, of all that is answered and left
abbrev pub OneAnswer : {A : Type 0} → (A → Type 0) → Type 0
OneAnswer {A} Allowed = (a b : A) → Allowed a → Allowed b → a ≡ b

-- a contract of the form `f a ≡ v`, where `v` is what the rules say of the input
abbrev pub Fixed : {A B : Type 0} → (A → B) → Type 0
Fixed {A} {B} f = (v : B) → OneAnswer (λ (a : A). f a ≡ v)

-- the law
pub one_answer : {A B : Type 0} {f : A → B} → Injective f → Fixed f
one_answer one v a b p q = one a b (p ∙ sym q)

-- the contract `r ≡ v`
pub plain : {A : Type 0} → Injective (λ (a : A). a)
plain a b h = h

pub pair : {A B : Type 0} {a c : A} {b d : B} → a ≡ c → b ≡ d → ◌≡◌ {A = A × B} (a, b) (c, d)
pair p q = rw (p, q) refl

-- an answer beside what is lent
pub beside : {A B L M : Type 0} {answer : A → Answer B} {lent : L → M} → Injective answer → Injective lent
    → Injective {B = Outcome B M} (λ (x : A × L). record { answer = answer x.0; lent = lent x.1 })
beside {A} {B} {L} {M} one other x y h = pair (one x.0 y.0 (ap (λ (o : Outcome B M). o.answer) h)) (other x.1 y.1 (ap (λ (o : Outcome B M). o.lent) h))

-- two things side by side
pub both : {A B C D : Type 0} {f : A → C} {g : B → D} → Injective f → Injective g → Injective {B = C × D} (λ (x : A × B). (f x.0, g x.1))
both {A} {B} {C} {D} one other x y h = pair (one x.0 y.0 (ap (λ (p : C × D). p.0) h)) (other x.1 y.1 (ap (λ (p : C × D). p.1) h))
