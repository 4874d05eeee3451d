-- A list filled from its start: what a loop that writes one value at each index keeps true. Assumes nothing.
use Rattle.std.specs.Prelude.{ℕ, suc, ◌+◌, ◌≤◌, ◌<◌, List, [], ◌∷◌, ◌++◌, ◌≡◌, refl, length, replicate, drop, set}
use Rattle.std.proofs.Common.{append-nil, append_assoc, sym, ap, ◌∙◌, arith, add-one, length-set, drop-cons}
use Rattle.std.proofs.lemmas.List.{length-replicate, replicate-append-replicate, set_at}
use Rattle.std.proofs.Math.Seq.{drop-length}

pub record Filled {A : Type 0} (v : A) (before now : List A) (i : ℕ) : Type 0 where
  pub is : now ≡ replicate i v ++ drop i before
  pub index : i ≤ length before
  pub size : length now ≡ length before

module _ {A : Type 0} (v : A) (before : List A) where
  -- the value goes to the first of the elements that are left
  next : (i : ℕ) → i < length before → set (replicate i v ++ drop i before) i v ≡ replicate (i + 1) v ++ drop (i + 1) before
  next i h =
      ap (λ (d : List A). set (replicate i v ++ d) i v) (drop-cons before i v h)
      ∙ set_at (replicate i v) _ (drop (suc i) before) v i (length-replicate i v)
      ∙ sym (append_assoc (replicate i v) (v ∷ []) (drop (suc i) before))
      ∙ ap (λ (r : List A). r ++ drop (suc i) before) (replicate-append-replicate i 1 v)
      ∙ ap (λ (n : ℕ). replicate (i + 1) v ++ drop n before) (sym (add-one i))

  pub none_filled : Filled v before before 0
  none_filled = record { is = refl; index = omega arith; size = refl }

  pub one_more : (now : List A) (i : ℕ) → Filled v before now i → i < length before → Filled v before (set now i v) (i + 1)
  one_more now i f h =
      record {
        is = ap (λ (d : List A). set d i v) f.is ∙ next i h;
        index = omega arith;
        size = simp length-set f.size;
      }

  pub all_filled : (now : List A) (i : ℕ) → Filled v before now i → i ≡ length before → now ≡ replicate (length before) v
  all_filled now i f e =
      f.is ∙ ap (λ (n : ℕ). replicate n v ++ drop n before) e ∙ ap (λ (d : List A). replicate (length before) v ++ d) (drop-length before)
      ∙ append-nil (replicate (length before) v)
