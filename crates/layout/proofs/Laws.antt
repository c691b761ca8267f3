-- Laws that the proofs of this crate share: products, the bounds on the sizes, an array that is filled word by word, fresh memory.
use mathlib.Core.Path.{◌≡◌, refl, sym, ap, ◌∙◌}
use mathlib.Core.Bool.{Bool, true, false, and-false, ◌&&◌}
use mathlib.Core.List.{List}
use Prim.Native.Nat.{ℕ, ◌+◌, ◌*◌, ◌≤◌, ◌<◌}
use native.Mathlib.Omega.{arith}
use native.Mathlib.Numerals.{add-one}
use native.Mathlib.Nat.{le_trans, mul-le-mul_left, mul-le-mul_right}
use lib.Dec.{ltb, eqb}
use lib.ListN.{length, get_or, set, take, replicate}
use lib.Seq.{sets, take-suc, take-suc-set, take_all}
use borrow.Author.Tests.{eq-eqb, ltb-true, ltb-false}
use Rattle.model.specs.declared.Sizes.{Sizes}
use Rattle.model.specs.declared.Bases.{Bases}
use Rattle.model.specs.Below.{all_below}
use Rattle.model.specs.Sizes.{slots_in, width_in, page_words, used_entry, unused_entry, entry_in_bounds, counts_in_bounds, sizes_in_bounds, total, log_words, disk_at}
use Rattle.model.specs.State.{bases_of}
use Rattle.model.specs.World.{World}
use Rattle.model.specs.Memory.{copy_at, owner_at, work_words, lengths_right}
use Rattle.model.specs.Format.{fresh_work}
use Rattle.model.proofs.Store.Puts.{fresh_is}
use Rattle.model.proofs.Below.{all_stop}
use Rattle.model.proofs.Bounds.{bounded}
use Rattle.layout.specs.Raw.{counts_of, lengths_are}

pub product_max : (a b m n : ℕ) → a ≤ m → b ≤ n → a * b ≤ m * n
product_max a b m n h k = le_trans (mul-le-mul_left a k) (mul-le-mul_right n h)

-- An array that is filled from another list: the first i words are done, then one more.
pub fill_more : (out source : List ℕ) (i v : ℕ) → i < length out → i < length source → v ≡ get_or source i 0
    → take i out ≡ take i source → take (i + 1) (set out i v) ≡ take (i + 1) source
fill_more out source i v h k e done =
    rw (add-one, take-suc-set out i v h, take-suc source i 0 k, done, e)

pub fill_end : (out source : List ℕ) (n i : ℕ) → i ≡ n → length out ≡ n → length source ≡ n → take i out ≡ take i source → out ≡ source
fill_end out source n i last h k done = sym (take_all i out (omega arith)) ∙ done ∙ take_all i source (omega arith)

-- The bounds on the entries speak of the pages and the two arrays alone.
abbrev pub entries_of : ℕ → List ℕ → List ℕ → Sizes
entries_of pages slots widths = record { pages = pages; disks = 0; ring = 0; slots = slots; widths = widths }

module _ (s : Sizes) where
  pub counts_out : counts_in_bounds (counts_of s.pages s.disks s.ring) ≡ false → false ≡ sizes_in_bounds s
  unfolding sizes_in_bounds counts_in_bounds
  counts_out e = rw e

  pub entry_out : (i : ℕ) → i < 64 → entry_in_bounds (entries_of s.pages s.slots s.widths) i ≡ false → false ≡ sizes_in_bounds s
  unfolding sizes_in_bounds counts_in_bounds entry_in_bounds used_entry unused_entry page_words slots_in width_in
  entry_out i h e =
      let front : Bool =
      counts_in_bounds (counts_of s.pages s.disks s.ring) && eqb (length s.slots) 64 && eqb (length s.widths) 64 in
      rw (← all_stop (entry_in_bounds s) 64 i h e) (sym (and-false front))

  pub all_in : counts_in_bounds (counts_of s.pages s.disks s.ring) ≡ true → length s.slots ≡ 64 → length s.widths ≡ 64
      → all_below (entry_in_bounds (entries_of s.pages s.slots s.widths)) 64 ≡ true → true ≡ sizes_in_bounds s
  unfolding sizes_in_bounds counts_in_bounds entry_in_bounds used_entry unused_entry page_words slots_in width_in
  all_in counts slots widths e = sym (rw (counts, eq-eqb _ _ slots, eq-eqb _ _ widths) e)

  -- the rest is the entries
  pub all_entries : counts_in_bounds (counts_of s.pages s.disks s.ring) ≡ true → length s.slots ≡ 64 → length s.widths ≡ 64
      → all_below (entry_in_bounds (entries_of s.pages s.slots s.widths)) 64 ≡ sizes_in_bounds s
  unfolding sizes_in_bounds counts_in_bounds entry_in_bounds used_entry unused_entry page_words slots_in width_in
  all_entries counts slots widths = rw (counts, eq-eqb _ _ slots, eq-eqb _ _ widths)

-- an entry in bounds is a byte, used or not
pub entry_bytes : (s : Sizes) → sizes_in_bounds s ≡ true → (i : ℕ) → i < 64 → (get_or s.slots i 0 < 256) × (get_or s.widths i 0 < 256)
unfolding slots_in width_in
entry_bytes s e i h = go (ltb i s.pages) refl
  where
    go : (used : Bool) → ltb i s.pages ≡ used → (get_or s.slots i 0 < 256) × (get_or s.widths i 0 < 256)
    go true p =
        let b = (bounded s e).used i (ltb-true i s.pages p) in
        (omega (arith, b.slots_max), omega (arith, b.width_max))
    go false p =
        let b = (bounded s e).unused i (ltb-false i s.pages p) h in
        (omega (arith, b.0), omega (arith, b.1))

-- the words set in work memory
pub fresh_set : (s : Sizes) (copy : ℕ) (work : List ℕ) {words from at : ℕ} {middle after : List ℕ} → total s ≡ words → from ≡ owner_at s 0
    → at ≡ copy_at s 0 → middle ≡ sets work from (replicate words 0) → after ≡ sets middle at (replicate 64 copy) → after ≡ fresh_work s copy work
fresh_set s copy work {words} {from} {at} {middle} {after} count first place owners copies =
    rw (fresh_is s copy work, ← first, ← place, count) (rw (copies, owners) refl)

-- the test of the lengths, of any sizes with these counts
pub lengths_are_lem : (s : Sizes) (t : ℕ) (w : World)
    → lengths_are s.disks s.ring t (length w.pages) (length w.backups) (length w.logs) (length w.work) ≡ lengths_right s t w
unfolding lengths_are lengths_right log_words disk_at work_words owner_at copy_at
lengths_are_lem s t w = refl

-- T as it is made, and the test of the lengths by it
module _ (s : Sizes) {b : Bases} (made : b ≡ bases_of s) where
  pub total_made : b.total ≡ total s
  unfolding bases_of
  total_made = ap (λ (x : Bases). x.total) made

  pub lengths_made : (w : World) {r : Bool}
      → r ≡ lengths_are s.disks s.ring b.total (length w.pages) (length w.backups) (length w.logs) (length w.work)
      → r ≡ lengths_right s (total s) w
  lengths_made w e = e ∙ rw total_made (lengths_are_lem s (total s) w)
