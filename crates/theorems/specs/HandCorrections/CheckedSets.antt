-- `set_log_odds_checked` again on one cell, and on two cells: a number is set as `set_log_odds` sets it, and NaN
-- changes nothing. Assumes nothing.
use Rattle.std.specs.Prelude.{◌≡◌, refl, Bool, true, false, List, ℤ, length, Float}
use Rattle.std.proofs.Common.{sym, ap, ◌∙◌}
use Rattle.std.specs.Float.Ieee.{is_nan}
use Rattle.rules.specs.RefusalNumbers.{Answer}
use Rattle.rules.specs.RefusalNumbers.Entries.{Outcome, set_log_odds_entry, set_log_odds_checked_entry}
use Rattle.rules.specs.TheGridAndItsBounds.{Head}
use Rattle.theorems.specs.CheckedSet.{number_set, nan_refused, not_a_number}
use Rattle.theorems.specs.HandCorrections.Sets.{set-length, second_set, set_answer_lem, sets_exchanged}

abbrev left : Outcome (Unit {0}) (List Float) → List Float
left o = o.lent

module _ (h : Head) (cell : List ℤ) (x : Float) where
  number_left : (odds : List Float) → is_nan x ≡ false → (set_log_odds_checked_entry h cell x odds).lent ≡ (set_log_odds_entry h cell x odds).lent
  number_left odds e = ap left (number_set h cell x odds e)

  nan_left : (odds : List Float) → is_nan x ≡ true → (set_log_odds_checked_entry h cell x odds).lent ≡ odds
  nan_left odds e = ap left (nan_refused h cell x odds e)

  checked-length : (odds : List Float) → length (set_log_odds_checked_entry h cell x odds).lent ≡ length odds
  checked-length odds = go (is_nan x) refl
    where
      go : (b : Bool) → is_nan x ≡ b → length (set_log_odds_checked_entry h cell x odds).lent ≡ length odds
      go true e = ap length (nan_left odds e)
      go false e = ap length (number_left odds e) ∙ set-length h cell x odds

  checked_answer_lem : (odds other : List Float) → length odds ≡ length other
      → (set_log_odds_checked_entry h cell x odds).answer ≡ (set_log_odds_checked_entry h cell x other).answer
  checked_answer_lem odds other l = go (is_nan x) refl
    where
      same : (set_log_odds_entry h cell x odds).answer ≡ (set_log_odds_entry h cell x other).answer
      same = set_answer_lem h cell x odds other l

      go : (b : Bool) → is_nan x ≡ b → (set_log_odds_checked_entry h cell x odds).answer ≡ (set_log_odds_checked_entry h cell x other).answer
      go true e =
          ap (λ (o : Outcome (Unit {0}) (List Float)). o.answer) (nan_refused h cell x odds e)
          ∙ ap not_a_number same
          ∙ sym (ap (λ (o : Outcome (Unit {0}) (List Float)). o.answer) (nan_refused h cell x other e))
      go false e =
          ap (λ (o : Outcome (Unit {0}) (List Float)). o.answer) (number_set h cell x odds e)
          ∙ same
          ∙ sym (ap (λ (o : Outcome (Unit {0}) (List Float)). o.answer) (number_set h cell x other e))

-- a second set of a number on the same cell makes the first irrelevant, whatever it was
pub second_checked : (h : Head) (cell : List ℤ) (x y : Float) (odds : List Float) → is_nan y ≡ false
    → set_log_odds_checked_entry h cell y (set_log_odds_checked_entry h cell x odds).lent ≡ set_log_odds_checked_entry h cell y odds
second_checked h cell x y odds n = go (is_nan x) refl
  where
    go : (b : Bool) → is_nan x ≡ b → set_log_odds_checked_entry h cell y (set_log_odds_checked_entry h cell x odds).lent ≡ set_log_odds_checked_entry h cell y odds
    go true e = ap (set_log_odds_checked_entry h cell y) (nan_left h cell x odds e)
    go false e =
        ap (set_log_odds_checked_entry h cell y) (number_left h cell x odds e)
        ∙ number_set h cell y (set_log_odds_entry h cell x odds).lent n
        ∙ second_set h cell x y odds
        ∙ sym (number_set h cell y odds n)

-- sets on different cells may be exchanged
pub checked_exchanged : (h : Head) (c d : List ℤ) (x y : Float) (odds : List Float) → length c ≡ length h.extents → length d ≡ length h.extents → (c ≡ d → ⊥)
    → (set_log_odds_checked_entry h d y (set_log_odds_checked_entry h c x odds).lent).lent ≡ (set_log_odds_checked_entry h c x (set_log_odds_checked_entry h d y odds).lent).lent
checked_exchanged h c d x y odds l k n = go (is_nan x) (is_nan y) refl refl
  where
    go : (a b : Bool) → is_nan x ≡ a → is_nan y ≡ b
        → (set_log_odds_checked_entry h d y (set_log_odds_checked_entry h c x odds).lent).lent ≡ (set_log_odds_checked_entry h c x (set_log_odds_checked_entry h d y odds).lent).lent
    go true b p q =
        ap (λ (o : List Float). (set_log_odds_checked_entry h d y o).lent) (nan_left h c x odds p) ∙ sym (nan_left h c x (set_log_odds_checked_entry h d y odds).lent p)
    go false true p q =
        nan_left h d y (set_log_odds_checked_entry h c x odds).lent q ∙ sym (ap (λ (o : List Float). (set_log_odds_checked_entry h c x o).lent) (nan_left h d y odds q))
    go false false p q =
        number_left h d y (set_log_odds_checked_entry h c x odds).lent q
        ∙ ap (λ (o : List Float). (set_log_odds_entry h d y o).lent) (number_left h c x odds p)
        ∙ sets_exchanged h c d x y odds l k n
        ∙ sym (ap (λ (o : List Float). (set_log_odds_entry h c x o).lent) (number_left h d y odds q))
        ∙ sym (number_left h c x (set_log_odds_checked_entry h d y odds).lent p)

pub checked-answers-alone : (h : Head) (c d : List ℤ) (x y : Float) (odds : List Float)
    → (set_log_odds_checked_entry h d y (set_log_odds_checked_entry h c x odds).lent).answer ≡ (set_log_odds_checked_entry h d y odds).answer
checked-answers-alone h c d x y odds = checked_answer_lem h d y (set_log_odds_checked_entry h c x odds).lent odds (checked-length h c x odds)
