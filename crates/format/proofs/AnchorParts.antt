-- The anchor's part of a format, as a list of stores.
use mathlib.Core.Path.{◌≡◌, refl}
use mathlib.Core.List.{List, [], ◌∷◌, ◌++◌}
use mathlib.Core.Bool.{Bool, true, false}
use Prim.Native.Nat.{ℕ}
use native.Mathlib.Omega.{arith}
use lib.ListN.{length, replicate}
use lib.Seq.{take_all}
use Rattle.model.specs.Word.{part}
use Rattle.model.specs.World.{World, world_of, store, anchor, each}
use Rattle.device.specs.Ran.{Ran, Stored}
use Rattle.device.proofs.Ran.{ran_then, ran_cut}
use Rattle.device.proofs.Runs.{anchor_ran}
use Rattle.format.specs.Parts.{front_stores, array_stores}

whole_part : (n : ℕ) (l : List ℕ) → length l ≡ n → part 0 n l ≡ l
unfolding part
whole_part n l e = take_all n l (omega arith)

module _ (memory backups logs work : List ℕ) where
  abbrev with : List ℕ → World
  with words = world_of words memory backups logs work

  module _ (p d w : ℕ) {budget rest : ℕ} {before after : List ℕ} {whole : Bool} (zero : Stored budget rest 3 (0 ∷ []) before after whole) where
    pub front_cut : whole ≡ false → Ran budget rest (front_stores p d w) (with before) (with after) false
    unfolding front_stores each
    front_cut e = ran_cut (anchor_ran (with before) zero) (each (store anchor) 0 (p ∷ d ∷ w ∷ [])) e

    pub front_whole : whole ≡ true → {last : ℕ} {final : List ℕ} {all : Bool} → Stored rest last 0 (part 0 3 (p ∷ d ∷ w ∷ [])) after final all
        → Ran budget last (front_stores p d w) (with before) (with final) all
    unfolding front_stores each part
    front_whole e words = ran_then (anchor_ran (with before) zero) (each (store anchor) 0 (p ∷ d ∷ w ∷ [])) e (anchor_ran (with after) words)

  module _ (slots widths : List ℕ) (many : length slots ≡ 64) (more : length widths ≡ 64) {budget rest : ℕ} {before after : List ℕ}
      {whole : Bool} (one : Stored budget rest 4 (part 0 64 slots) before after whole) where
    first : Ran budget rest (each (store anchor) 4 slots) (with before) (with after) whole
    first = rw (whole_part 64 slots many) at (anchor_ran (with before) one)

    pub slots_cut : whole ≡ false → Ran budget rest (array_stores slots widths) (with before) (with after) false
    unfolding array_stores
    slots_cut e = ran_cut (ran_cut first (each (store anchor) 68 widths) e) (each (store anchor) 132 (replicate 16 0)) refl

    module _ (e : whole ≡ true) {last : ℕ} {final : List ℕ} {all : Bool} (two : Stored rest last 68 (part 0 64 widths) after final all) where
      both : Ran budget last (each (store anchor) 4 slots ++ each (store anchor) 68 widths) (with before) (with final) all
      both =
          ran_then first (each (store anchor) 68 widths) e (rw (whole_part 64 widths more) at (anchor_ran (with after) two))

      pub widths_cut : all ≡ false → Ran budget last (array_stores slots widths) (with before) (with final) false
      unfolding array_stores
      widths_cut f = ran_cut both (each (store anchor) 132 (replicate 16 0)) f

      pub arrays_whole : all ≡ true → {end : ℕ} {filled : List ℕ} {every : Bool} → Stored last end 132 (replicate 16 0) final filled every
          → Ran budget end (array_stores slots widths) (with before) (with filled) every
      unfolding array_stores
      arrays_whole f three = ran_then both (each (store anchor) 132 (replicate 16 0)) f (anchor_ran (with final) three)
