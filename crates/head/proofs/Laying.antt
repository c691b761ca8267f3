-- Lists laid into the head one behind the other are one run of words; the whole run is the head of a state.
use mathlib.Core.Path.{◌≡◌, refl, sym, ap, ◌∙◌}
use mathlib.Core.List.{List, [], ◌∷◌, ◌++◌, flatten, append_assoc, append-nil}
use Prim.Native.Nat.{ℕ, ◌+◌, ◌≤◌}
use native.Mathlib.Omega.{arith}
use lib.ListN.{length, get_or, drop, length-append, get_or-map}
use lib.Seq.{sets, sets-eq}
use Rattle.model.specs.declared.Core.{Core}
use Rattle.model.specs.View.{head_fills, head_numbers, head_words, head_lists, head_of}
use Rattle.model.proofs.View.Head.{head_lengths, HeadSized, length_head}
use Rattle.words.proofs.Laws.{sets_append}

-- one run more
pub two_runs : (l : List ℕ) {first after : List ℕ} (at n : ℕ) (a b : List ℕ) → length a ≡ n → first ≡ sets l at a → after ≡ sets first (at + n) b
    → after ≡ sets l at (a ++ b)
two_runs l at n a b long e f = f ∙ rw (e, ← long) (sym (sets_append l at a b))

-- The lists of a state by value have the lengths of its arrays.
pub arrays_sized : (c : Core) → length c.sizes.slots ≡ 64 → length c.sizes.widths ≡ 64 → length c.bases.pages ≡ 64
    → length c.logs.fills ≡ 8 → length c.table.sums ≡ 8 → length c.replay.positions ≡ 8
    → length c.table.numbers ≡ 16 → length c.table.disks ≡ 16 → length c.table.firsts ≡ 16 → length c.table.reserved ≡ 16
    → HeadSized c
unfolding HeadSized
arrays_sized c slots widths bases fills sums positions numbers disks firsts reserved =
    rw (slots, widths, bases, fills, sums, positions, numbers, disks, firsts, reserved) refl

module _ (c : Core) (sized : HeadSized c) where
  pub length_here : (k : ℕ) → length (get_or (head_lists c) k []) ≡ get_or head_lengths k 0
  unfolding HeadSized
  length_here k = sym (get_or-map length (head_lists c) k []) ∙ ap (λ (ns : List ℕ). get_or ns k 0) sized

  abbrev by_page : List ℕ
  by_page = c.sizes.slots ++ (c.sizes.widths ++ c.bases.pages)

  abbrev by_disk : List ℕ
  by_disk = c.logs.fills ++ (c.table.sums ++ (c.replay.positions ++ (c.replay.page ∷ [])))

  abbrev by_place : List ℕ
  by_place = c.table.numbers ++ (c.table.disks ++ (c.table.firsts ++ c.table.reserved))

  one_run : by_page ++ (by_disk ++ by_place) ≡ head_of c
  unfolding head_of flatten
  one_run = simp (append_assoc, append-nil) refl

  length_pages : length by_page ≡ 192
  length_pages =
      omega (arith, length-append c.sizes.slots (c.sizes.widths ++ c.bases.pages), length-append c.sizes.widths c.bases.pages, length_here 0, length_here 1, length_here 2)

  length_disks : length by_disk ≡ 25
  length_disks =
      omega (
        arith,
        length-append c.logs.fills (c.table.sums ++ (c.replay.positions ++ (c.replay.page ∷ []))),
        length-append c.table.sums (c.replay.positions ++ (c.replay.page ∷ [])),
        length-append c.replay.positions (c.replay.page ∷ []),
        length_here 3,
        length_here 4,
        length_here 5,
      )

  pub head_laid : (l : List ℕ) {first second after : List ℕ} → head_words ≤ length l → first ≡ sets l 0 by_page → second ≡ sets first head_fills by_disk
      → after ≡ sets second head_numbers by_place → after ≡ head_of c ++ drop head_words l
  head_laid l {first} long e f g =
      two_runs l 0 192 by_page (by_disk ++ by_place) length_pages e (two_runs first 192 25 by_disk by_place length_disks f g)
      ∙ ap (sets l 0) one_run ∙ sets-eq (head_of c) l 0 (omega (arith, length_head c sized)) ∙ rw (length_head c sized) refl
