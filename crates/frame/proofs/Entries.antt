-- An open transaction by the words of the head: the tests of the code are those of the rows.
use mathlib.Core.Path.{subst, ◌≡◌, refl, sym, ap, ◌∙◌}
use mathlib.Core.List.{List}
use mathlib.Core.Bool.{Bool, true, false, cond}
use Prim.Native.Nat.{ℕ, ◌+◌, ◌≤◌, ◌<◌}
use native.Mathlib.Omega.{arith}
use lib.ListN.{get_or}
use borrow.Author.Tests.{lt-ltb, le-ltb, eq-eqb, ne_eqb}
use Rattle.model.specs.declared.Core.{Core}
use Rattle.model.specs.declared.Carried.{Carried}
use Rattle.model.specs.State.{tail_of, fill_of, place_of, in_table, is_open, disk_at_place, reserved_at, reserved_on}
use Rattle.model.specs.Reads.{place_fits}
use Rattle.model.specs.View.{head_fills, head_sums, head_disks, head_reserved, own_work, core_of}
use Rattle.model.specs.Fields.{fills, sums, disks, reserved}
use Rattle.model.proofs.View.Head.{carried_back}
use Rattle.model.proofs.View.Fields.{field_read}
use Rattle.frame.specs.Fits.{place_within}
use Rattle.frame.specs.declared.entry.Entry.{Entry}
use Rattle.frame.specs.Entry.{EntryOf, Entered}
use Rattle.frame.specs.declared.refusal.Refusal.{Refusal}
use Rattle.frame.specs.declared.refusal.Refusal.TheVariants.{Stage, NotOpen}
use Rattle.frame.specs.Refusal.{number_of}
use Rattle.frame.proofs.Refusals.{ok_same}
use Rattle.std.specs.Prelude.{Ok, Err}
use Rattle.frame.proofs.Fitting.{place_here}

refused_entry : {c : Core} {number : ℕ} (r : Refusal)
    → number_of r ≡ cond (is_open c.table number) (cond (place_fits (place_of c.table number) c) 0 1) 9 → Entered c number (Err r)
refused_entry r e = record { refusal = e; ready = λ entry is. cc }

pub entry_zero : (c : Core) (number : ℕ) → number ≡ 0 → Entered c number (Err NotOpen)
unfolding is_open in_table
entry_zero c number zero = refused_entry NotOpen (rw (eq-eqb number 0 zero) refl)

-- The state that a work memory is the own one of.
module _ (h : Carried) (work : List ℕ) (own : own_work h work ≡ true) (number : ℕ) (some : number ≡ 0 → ⊥) {place : ℕ}
    (there : place ≡ place_of (core_of h work).table number) where
  abbrev c : Core
  c = core_of h work

  pub entry_none : 16 ≤ place → Entered c number (Err NotOpen)
  unfolding is_open in_table
  entry_none high = refused_entry NotOpen (rw (ne_eqb number 0 some, ← there, le-ltb place 16 high) refl)

  module _ (low : place < 16) {count : ℕ} {tails : List ℕ} (same_disks : h.disks ≡ count) (same_tails : h.tails ≡ tails) where
    abbrev disk_word : ℕ
    disk_word = get_or work (head_disks + place) 0

    abbrev reserved_word : ℕ
    reserved_word = get_or work (head_reserved + place) 0

    opened : is_open c.table number ≡ true
    unfolding is_open in_table
    opened = rw (ne_eqb number 0 some, ← there, lt-ltb place 16 low) refl

    count_here : c.sizes.disks ≡ count
    count_here = ap (λ (x : Carried). x.disks) (carried_back h work) ∙ same_disks

    disk_here : disk_at_place c.table place ≡ disk_word
    unfolding disk_at_place
    disk_here = field_read h work own disks place low

    reserved_here : reserved_at c.table place ≡ reserved_word
    unfolding reserved_at
    reserved_here = field_read h work own reserved place low

    pub entry_outside : count ≤ disk_word → Entered c number (Err Stage)
    unfolding place_within
    entry_outside high =
        refused_entry Stage
        (rw (opened, ← there, ← place_here c place, disk_here, count_here, le-ltb disk_word count high) refl)

    module _ (below : disk_word < count) (few : count ≤ 8) where
      abbrev tail_word_lem : ℕ
      tail_word_lem = get_or tails disk_word 0

      abbrev fill_word : ℕ
      fill_word = get_or work (head_fills + disk_word) 0

      abbrev sum_word : ℕ
      sum_word = get_or work (head_sums + disk_word) 0

      tail_here : tail_of c.logs disk_word ≡ tail_word_lem
      unfolding tail_of
      tail_here = ap (λ (x : Carried). get_or x.tails disk_word 0) (carried_back h work) ∙ rw same_tails refl

      fill_here : fill_of c.logs disk_word ≡ fill_word
      unfolding fill_of
      fill_here = field_read h work own fills disk_word (omega (arith, below, few))

      sum_here : reserved_on c.table disk_word ≡ sum_word
      unfolding reserved_on
      sum_here = field_read h work own sums disk_word (omega (arith, below, few))

      fits_here : place_fits (place_of c.table number) c ≡ place_within count disk_word tail_word_lem fill_word reserved_word sum_word
      fits_here =
          rw (← there, ← place_here c place, disk_here, count_here, tail_here, fill_here, reserved_here, sum_here) refl

      pub entry_unfit : {b : Bool} → b ≡ place_within count disk_word tail_word_lem fill_word reserved_word sum_word → b ≡ false
          → Entered c number (Err Stage)
      entry_unfit test fails = refused_entry Stage (rw (opened, fits_here, ← test, fails) refl)

      pub entry_found : {b : Bool} → b ≡ place_within count disk_word tail_word_lem fill_word reserved_word sum_word → b ≡ true
          → Entered c number
          (Ok (record { place = place; reserved = reserved_word; disk = disk_word; tail = tail_word_lem; fill = fill_word; sum = sum_word }))
      entry_found test passes =
          record {
            refusal = rw (opened, fits_here, ← test, passes) refl;
            ready =
                λ entry is.
                subst (λ (e : Entry). EntryOf c number e) (ok_same is)
                (record {
                  place = there;
                  low = low;
                  reserved = sym reserved_here;
                  disk = sym disk_here;
                  tail = sym tail_here;
                  fill = sym fill_here;
                  sum = sym sum_here;
                  fits = rw (count_here, ← test) passes;
                });
          }
