-- `set_log_odds` again on one cell, and on two cells. Assumes nothing.
use Rattle.std.specs.Prelude.{ℕ, ◌≡◌, refl, List, ℤ, length, Float}
use Rattle.std.proofs.Common.{sym, ap, ◌∙◌, length-set, set-set}
use Rattle.std.proofs.Math.Option.{Option, some, none}
use Rattle.std.proofs.lemmas.List.{set_comm}
use Rattle.rules.specs.RefusalNumbers.{Refusal, Answer, given, refused}
use Rattle.rules.specs.RefusalNumbers.Entries.{Outcome, unless_refused, head_refusal, uses_of, set_log_odds, set_answer, set_log_odds_entry}
use Rattle.rules.specs.TheGridAndItsBounds.{Head}
use Rattle.rules.specs.Coordinates.{flat_index}
use Rattle.rules.specs.MarksAndFrames.{set_odds}
use Rattle.theorems.specs.HandCorrections.Places.{place_tells}

-- what the head refuses, of lists of so many odds
abbrev tried : Head → ℕ → Option Refusal
tried h n = head_refusal (uses_of set_log_odds) h n 0

-- the entry, with what the head refuses and the place as they may be
abbrev outcome : Head → Float → List Float → Option Refusal → Answer ℕ → Outcome (Unit {0}) (List Float)
outcome h x odds r a = unless_refused r odds (set_answer h x odds a)

kept-length : (h : Head) (x : Float) (odds : List Float) (r : Option Refusal) (a : Answer ℕ) → length (outcome h x odds r a).lent ≡ length odds
unfolding set_odds
kept-length h x odds (some r) a = refl
kept-length h x odds none (refused r) = refl
kept-length h x odds none (given i) = length-set odds i _

pub set-length : (h : Head) (cell : List ℤ) (x : Float) (odds : List Float) → length (set_log_odds_entry h cell x odds).lent ≡ length odds
unfolding set_log_odds_entry
set-length h cell x odds = kept-length h x odds (tried h (length odds)) (flat_index h.extents cell)

-- ---- one cell
again : (h : Head) (x y : Float) (odds : List Float) (r : Option Refusal) (a : Answer ℕ) → outcome h y (outcome h x odds r a).lent r a ≡ outcome h y odds r a
unfolding set_odds
again h x y odds (some r) a = refl
again h x y odds none (refused r) = refl
again h x y odds none (given i) = ap (λ (l : List Float). record { answer = given tt; lent = l }) (set-set odds i _ _)

-- a second set on the same cell makes the first irrelevant
pub second_set : (h : Head) (cell : List ℤ) (x y : Float) (odds : List Float)
    → set_log_odds_entry h cell y (set_log_odds_entry h cell x odds).lent ≡ set_log_odds_entry h cell y odds
unfolding set_log_odds_entry
second_set h cell x y odds =
    let r = tried h (length odds) in
    let a = flat_index h.extents cell in
    let l = (outcome h x odds r a).lent in
    ap (λ (n : ℕ). outcome h y l (tried h n) a) (kept-length h x odds r a) ∙ again h x y odds r a

-- ---- two cells
-- what is answered turns on the length of the odds alone
pub set_answer_lem : (h : Head) (cell : List ℤ) (x : Float) (odds other : List Float) → length odds ≡ length other
    → (set_log_odds_entry h cell x odds).answer ≡ (set_log_odds_entry h cell x other).answer
unfolding set_log_odds_entry
set_answer_lem h cell x odds other e = ap (λ (n : ℕ). (outcome h x odds (tried h n) (flat_index h.extents cell)).answer) e ∙ go (tried h (length other)) (flat_index h.extents cell)
  where
    go : (r : Option Refusal) (a : Answer ℕ) → (outcome h x odds r a).answer ≡ (outcome h x other r a).answer
    go (some r) a = refl
    go none (refused r) = refl
    go none (given i) = refl

exchanged : (h : Head) (x y : Float) (odds : List Float) (r : Option Refusal) (a b : Answer ℕ) → ((i : ℕ) → a ≡ given i → b ≡ given i → ⊥)
    → (outcome h y (outcome h x odds r a).lent r b).lent ≡ (outcome h x (outcome h y odds r b).lent r a).lent
unfolding set_odds
exchanged h x y odds (some r) a b n = refl
exchanged h x y odds none (refused r) (refused t) n = refl
exchanged h x y odds none (refused r) (given j) n = refl
exchanged h x y odds none (given i) (refused t) n = refl
exchanged h x y odds none (given i) (given j) n = set_comm odds i j _ _ (λ e. n i refl (ap given (sym e)))

-- sets on different cells may be exchanged
pub sets_exchanged : (h : Head) (c d : List ℤ) (x y : Float) (odds : List Float) → length c ≡ length h.extents → length d ≡ length h.extents → (c ≡ d → ⊥)
    → (set_log_odds_entry h d y (set_log_odds_entry h c x odds).lent).lent ≡ (set_log_odds_entry h c x (set_log_odds_entry h d y odds).lent).lent
unfolding set_log_odds_entry
sets_exchanged h c d x y odds l k n =
    let r = tried h (length odds) in
    let a = flat_index h.extents c in
    let b = flat_index h.extents d in
    ap (λ (m : ℕ). (outcome h y (outcome h x odds r a).lent (tried h m) b).lent) (kept-length h x odds r a)
    ∙ exchanged h x y odds r a b (λ i p q. n (place_tells h.extents c d i l k p q))
    ∙ sym (ap (λ (m : ℕ). (outcome h x (outcome h y odds r b).lent (tried h m) a).lent) (kept-length h y odds r b))
