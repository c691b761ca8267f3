-- Eight numbers, one for each disk: filled disk by disk, read, and compared.
use mathlib.Core.Path.{◌≡◌, refl, sym, ◌∙◌}
use mathlib.Core.Bool.{Bool, true, false, cond}
use Prim.Native.Nat.{ℕ, ◌+◌, ◌≤◌, ◌<◌}
use native.Mathlib.Omega.{arith}
use native.Mathlib.Decide.{ℕ_discrete}
use lib.Dec.{ltb}
use lib.ListN.{length, get_or, set, replicate, length-set, get_or-replicate}
use lib.Seq.{ext_get_or, get_or-set_same, get_or-set_other}
use borrow.Author.Tests.{lt-ltb, le-ltb, ltb-true, ltb-false}
use Rattle.model.specs.declared.Sizes.{Sizes}
use Rattle.model.specs.Checkpoint.{eight_below, per_disk}
use Rattle.model.proofs.Below.{length_list, get_or_list, list_cong}
use Rattle.model.proofs.Booleans.{cond_cong}

-- whether a number is below n or n + 1 differs at n alone
below_one_more : (n i : ℕ) → (i ≡ n → ⊥) → ltb i n ≡ ltb i (n + 1)
below_one_more n i ne = go (ltb i n) refl
  where
    go : (b : Bool) → ltb i n ≡ b → b ≡ ltb i (n + 1)
    go true e = sym (lt-ltb i (n + 1) (omega (arith, ltb-true i n e)))
    go false e = sym (le-ltb i (n + 1) (omega (arith, ltb-false i n e, ne)))

module _ (f : ℕ → ℕ) where
  pub length_eight : (n : ℕ) → length (eight_below n f) ≡ 8
  unfolding eight_below
  length_eight n = length_list (λ d. cond (ltb d n) (f d) 0) 8

  -- a disk below n has f's number, and every other 0
  pub get_or_eight : (n i : ℕ) → i < 8 → get_or (eight_below n f) i 0 ≡ cond (ltb i n) (f i) 0
  unfolding eight_below
  get_or_eight n i h = get_or_list (λ d. cond (ltb d n) (f d) 0) 8 i 0 h

  -- Filled disk by disk: none yet, one more.
  pub eight_none : replicate 8 0 ≡ eight_below 0 f
  eight_none =
      ext_get_or 0 (replicate 8 0) (eight_below 0 f) (sym (length_eight 0))
      (λ i h. get_or-replicate 8 i 0 0 h ∙ sym (get_or_eight 0 i h ∙ rw (le-ltb i 0 (omega arith))))

  pub eight_more : (n v : ℕ) → n < 8 → v ≡ f n → set (eight_below n f) n v ≡ eight_below (n + 1) f
  eight_more n v h e =
      ext_get_or 0 (set (eight_below n f) n v) (eight_below (n + 1) f)
      (simp (length-set, length_eight))
      (λ i l. go i (omega (arith, simp (length-set, length_eight) at l)) (ℕ_discrete i n))
    where
      go : (i : ℕ) → i < 8 → Dec (i ≡ n) → get_or (set (eight_below n f) n v) i 0 ≡ get_or (eight_below (n + 1) f) i 0
      go i l (yes same) =
          rw (same, get_or-set_same (eight_below n f) n v 0 (omega (arith, length_eight n)), get_or_eight (n + 1) n h, lt-ltb n (n + 1) (omega arith)) e
      go i l (no ne) =
          rw (get_or-set_other (eight_below n f) n i v 0 ne, get_or_eight n i l, get_or_eight (n + 1) i l, below_one_more n i ne)

-- Of sizes: the disks in use are the first.
module _ (s : Sizes) where
  pub length_per_disk : (f : ℕ → ℕ) → length (per_disk s f) ≡ 8
  unfolding per_disk
  length_per_disk f = length_eight f s.disks

  pub get_or_per_disk : (f : ℕ → ℕ) (d : ℕ) → s.disks ≤ 8 → d < s.disks → get_or (per_disk s f) d 0 ≡ f d
  unfolding per_disk
  get_or_per_disk f d h l = get_or_eight f s.disks d (omega arith) ∙ rw (lt-ltb d s.disks l)

  -- numbers that agree on the disks agree
  pub per_disk_cong : (f g : ℕ → ℕ) → ((d : ℕ) → d < s.disks → f d ≡ g d) → per_disk s f ≡ per_disk s g
  unfolding per_disk eight_below
  per_disk_cong f g same = list_cong _ _ 8 (λ d l. cond_cong (ltb d s.disks) (λ e. same d (ltb-true _ _ e)) (λ e. refl))

  -- an array that is filled for all disks
  pub eight_per_disk : (f : ℕ → ℕ) (n : ℕ) → n ≡ s.disks → eight_below n f ≡ per_disk s f
  unfolding per_disk
  eight_per_disk f n e = rw e
