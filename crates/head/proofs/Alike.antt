-- A state whose words do not fit is as unsound as the one with the largest numbers that fit: calls that test the whole state refuse both
-- alike.
use mathlib.Core.Path.{◌≡◌, refl, sym, ap, ◌∙◌}
use mathlib.Core.List.{List, [], ◌∷◌}
use mathlib.Core.Bool.{Bool, true, false}
use Prim.Native.Nat.{ℕ, zero, suc, ◌*◌, ◌≤◌, ◌<◌, min}
use native.Mathlib.Omega.{arith}
use lib.Dec.{ltb}
use lib.ListN.{length, get_or, replicate}
use borrow.Author.Tests.{ltb-true, ltb-false}
use Rattle.model.specs.declared.Stage.{Stage}
use Rattle.model.specs.declared.Stage.TheVariants.{Shut, Replaying, Open, Copying}
use Rattle.model.specs.declared.Sizes.{Sizes}
use Rattle.model.specs.declared.Core.{Core}
use Rattle.model.specs.declared.Carried.{Carried}
use Rattle.model.specs.Below.{sum_below}
use Rattle.model.specs.Word.{part}
use Rattle.model.specs.Sizes.{slots_in, width_in, page_words, page_base, sizes_in_bounds}
use Rattle.model.specs.State.{base_of, bases_right, serving_sound, checkpoint_sound, sound_in, sound}
use Rattle.model.specs.Causes.{when_shut}
use Rattle.model.specs.View.{head_words, core_in, core_of}
use Rattle.model.proofs.Booleans.{true_false, both}
use Rattle.model.proofs.Bounds.{Bounded, bounded}
use Rattle.model.proofs.KeptBases.{base_kept}
use Rattle.model.proofs.Store.Rows.{sizes_sound, bases_sound}
use Rattle.model.proofs.Sound.Test.{replay_bounds}
use Rattle.model.proofs.View.Head.{HeadSized, view_sized, other_view}
use Rattle.head.specs.Narrow.{capped, byte_most, base_most, narrowed}
use Rattle.head.proofs.ByLength.{shut_owns_none}
use Rattle.head.proofs.Capped.{length_capped}
use Rattle.head.proofs.Laying.{length_here}

-- A list whose words fit is left as it is.
get_or_capped : (most : ℕ) (l : List ℕ) (i : ℕ) → i < length l → get_or (capped most l) i 0 ≡ min most (get_or l i 0)
unfolding capped
get_or_capped most [] i h = absurd (omega arith)
get_or_capped most (x ∷ l) zero h = refl
get_or_capped most (x ∷ l) (suc i) h = get_or_capped most l i (omega arith)

capped_same : (most : ℕ) (l : List ℕ) → ((i : ℕ) → i < length l → get_or l i 0 ≤ most) → capped most l ≡ l
unfolding capped
capped_same most [] h = refl
capped_same most (x ∷ l) h =
    let one : min most x ≡ x = omega (arith, h 0 (omega arith)) in
    rw (one, capped_same most l (λ i k. h (suc i) (omega arith))) refl

-- What bounds say of any page of the 64.
module _ (s : Sizes) (b : Bounded s) where
  entry_small : (page : ℕ) → page < 64 → (slots_in s page ≤ 128) × (width_in s page ≤ 128) × (page_words s page ≤ 128)
  unfolding page_words
  entry_small page h = go (ltb page s.pages) refl
    where
      go : (used : Bool) → ltb page s.pages ≡ used → (slots_in s page ≤ 128) × (width_in s page ≤ 128) × (slots_in s page * width_in s page ≤ 128)
      go true e =
          let u = b.used page (ltb-true page s.pages e) in
          (u.slots_max, omega (arith, u.width_max), u.words_max)
      go false e =
          let z = b.unused page (ltb-false page s.pages e) h in
          (omega (arith, z.0), omega (arith, z.1), rw (z.0, z.1) (omega arith))

  base_small : (page : ℕ) → page ≤ 64 → page_base s page ≤ 128 * page
  unfolding page_base sum_below
  base_small zero h = omega arith
  base_small (suc n) h = omega (arith, base_small n (omega arith), (entry_small n (omega arith)).2)

-- The words of a state that fit.
record Small (c : Core) : Type 0 where
  slots : (i : ℕ) → i < 64 → get_or c.sizes.slots i 0 ≤ 128
  widths : (i : ℕ) → i < 64 → get_or c.sizes.widths i 0 ≤ 128
  bases : (i : ℕ) → i < 64 → get_or c.bases.pages i 0 ≤ 8192

sound_parts : (c : Core) → when_shut c.stage ≡ false → sound c ≡ true → (sizes_in_bounds c.sizes ≡ true) × (bases_right c ≡ true)
unfolding sound
sound_parts c = go c.stage
  where
    serving : serving_sound c ≡ true → (sizes_in_bounds c.sizes ≡ true) × (bases_right c ≡ true)
    serving e = (sizes_sound c e, bases_sound c e)

    go : (s : Stage) → when_shut s ≡ false → sound_in s c ≡ true → (sizes_in_bounds c.sizes ≡ true) × (bases_right c ≡ true)
    go Shut stage e = true_false refl stage
    go Replaying stage e = ((replay_bounds c e).bounds, (replay_bounds c e).bases)
    go Open stage e = serving e
    go Copying stage e = serving (both (serving_sound c) (checkpoint_sound c) e).0

sound_small : (c : Core) → when_shut c.stage ≡ false → sound c ≡ true → Small c
unfolding slots_in width_in base_of
sound_small c stage e =
    let parts = sound_parts c stage e in
    let b = bounded c.sizes parts.0 in
    record {
      slots = λ i h. (entry_small c.sizes b i h).0;
      widths = λ i h. (entry_small c.sizes b i h).1;
      bases = λ i h. omega (arith, base_kept c parts.1 i h, base_small c.sizes b i (omega arith));
    }

module _ (c : Core) (sized : HeadSized c) where
  slots_long : length c.sizes.slots ≡ 64
  slots_long = length_here c sized 0

  widths_long : length c.sizes.widths ≡ 64
  widths_long = length_here c sized 1

  bases_long : length c.bases.pages ≡ 64
  bases_long = length_here c sized 2

  small_same : Small c → narrowed c ≡ c
  unfolding narrowed
  small_same s =
      rw (
        capped_same byte_most c.sizes.slots (λ i h. omega (arith, s.slots i (omega (arith, h, slots_long)))),
        capped_same byte_most c.sizes.widths (λ i h. omega (arith, s.widths i (omega (arith, h, widths_long)))),
        capped_same base_most c.bases.pages (λ i h. omega (arith, s.bases i (omega (arith, h, bases_long)))),
      ) refl

  -- what is small after it was narrowed was small
  small_before : Small (narrowed c) → Small c
  unfolding narrowed
  small_before s =
      record {
        slots = λ i h. omega (arith, s.slots i h, get_or_capped byte_most c.sizes.slots i (omega (arith, h, slots_long)));
        widths = λ i h. omega (arith, s.widths i h, get_or_capped byte_most c.sizes.widths i (omega (arith, h, widths_long)));
        bases = λ i h. omega (arith, s.bases i h, get_or_capped base_most c.bases.pages i (omega (arith, h, bases_long)));
      }

  pub narrowed_sized : HeadSized (narrowed c)
  unfolding HeadSized narrowed
  narrowed_sized = simp length_capped sized

  sound_same : when_shut c.stage ≡ false → sound c ≡ true → narrowed c ≡ c
  sound_same stage e = small_same (sound_small c stage e)

  unsound_alike : when_shut c.stage ≡ false → sound c ≡ false → sound (narrowed c) ≡ false
  unfolding narrowed
  unsound_alike stage e = go (sound (narrowed c)) refl
    where
      go : (b : Bool) → sound (narrowed c) ≡ b → b ≡ false
      go true f = true_false (ap sound (sym (small_same (small_before (sound_small (narrowed c) stage f)))) ∙ f) e
      go false f = refl

-- A shut state has a head of zeros.
shut_same : (h : Carried) (work : List ℕ) → when_shut h.stage ≡ true → narrowed (core_of h work) ≡ core_of h work
unfolding narrowed capped part
shut_same h work e =
    let zeros : core_of h work ≡ core_in h (replicate head_words 0) = other_view h work (sym (shut_owns_none h work e)) in
    rw zeros refl

-- The view, narrowed: it is the view, or both are unsound and not shut.
pub data Alike (c : Core) : Type 0 where
  same : narrowed c ≡ c → Alike c
  unsound : when_shut c.stage ≡ false → sound c ≡ false → sound (narrowed c) ≡ false → Alike c

pub view_alike : (h : Carried) (work : List ℕ) → Alike (core_of h work)
unfolding core_of
view_alike h work = go (when_shut h.stage) refl (sound (core_of h work)) refl
  where
    sized : HeadSized (core_of h work)
    sized = view_sized h work

    go : (b : Bool) → when_shut h.stage ≡ b → (t : Bool) → sound (core_of h work) ≡ t → Alike (core_of h work)
    go true e t f = same (shut_same h work e)
    go false e true f = same (sound_same (core_of h work) sized e f)
    go false e false f = unsound e f (unsound_alike (core_of h work) sized e f)
