-- What is found of the transaction in the head: the tests of the code are those of the row.
use Rattle.std.specs.Prelude.{Option, Some, None, Ok, Err}
use mathlib.Core.Path.{◌≡◌, refl, sym, ap, ◌∙◌}
use mathlib.Core.List.{List}
use mathlib.Core.Bool.{Bool, true, false, cond, not, ◌&&◌, ◌||◌}
use Prim.Native.Nat.{ℕ, ◌+◌, ◌-◌, ◌<◌}
use native.Mathlib.Omega.{arith}
use lib.Dec.{leb, ltb}
use lib.ListN.{get_or}
use Rattle.model.specs.declared.Core.{Core}
use Rattle.model.specs.declared.Sizes.{Sizes}
use Rattle.model.specs.declared.Carried.{Carried}
use Rattle.model.specs.Sizes.{ring_of}
use Rattle.model.specs.State.{end_of, place_of, is_open, first_at, has_update}
use Rattle.model.specs.Reads.{place_fits, scope_fits, sizes_fit}
use Rattle.model.specs.Transaction.{disk_of}
use Rattle.model.specs.View.{head_firsts, own_work, core_of}
use Rattle.model.specs.Fields.{firsts}
use Rattle.model.proofs.View.Head.{carried_back}
use Rattle.model.proofs.View.Fields.{field_read}
use Rattle.frame.specs.declared.entry.Entry.{Entry}
use Rattle.frame.specs.declared.refusal.Refusal.{Refusal}
use Rattle.frame.specs.declared.refusal.Refusal.TheVariants.{Stage}
use Rattle.frame.specs.Refusal.{number_of}
use Rattle.frame.proofs.Refusals.{numbered, ok_same}
use Rattle.frame.specs.Entry.{EntryOf, Entered}
use Rattle.frame.specs.Sizes.{sizes_at, tested}
use Rattle.frame.proofs.Fitting.{Placed, placed}
use Rattle.frame.proofs.KnownSizes.{sizes_here, total_here}
use Rattle.abort.specs.declared.scope.Scope.{Scope}
use Rattle.abort.specs.Scope.{scope_of, scope_in, Read}

module _ (h : Carried) (work : List ℕ) (own : own_work h work ≡ true) (number : ℕ) where
  abbrev c : Core
  c = core_of h work

  abbrev place : ℕ
  place = place_of c.table number

  refused_read : (x : Refusal)
      → number_of x ≡ cond (is_open c.table number) (cond (place_fits place c && scope_fits place c && sizes_fit c) 0 1) 9 → Read c number (Err x)
  refused_read x e = record { refusal = e; ready = λ t is. cc }

  pub read_refused : {x : Refusal} → Entered c number (Err x) → Read c number (Err x)
  read_refused {x} entered = refused_read x (go (is_open c.table number) (place_fits place c) entered.refusal)
    where
      go : (o p : Bool) → number_of x ≡ cond o (cond p 0 1) 9 → number_of x ≡ cond o (cond (p && scope_fits place c && sizes_fit c) 0 1) 9
      go true true e = absurd (numbered x e)
      go true false e = e
      go false p e = e

  module _ {e : Entry} (entered : Entered c number (Ok e)) where
    abbrev first : ℕ
    first = get_or work (head_firsts + e.place) 0

    found : EntryOf c number e
    found = entered.ready e refl

    pub entry_placed : (e.place < 16) × Placed h.disks e.disk e.tail e.fill e.reserved e.sum
    unfolding core_of
    entry_placed = (found.low, placed found.fits)

    standing : (is_open c.table number ≡ true) × (place_fits place c ≡ true)
    standing = go (is_open c.table number) (place_fits place c) (sym entered.refusal)
      where
        go : (o p : Bool) → ◌≡◌ {A = ℕ} (cond o (cond p 0 1) 9) 0 → (o ≡ true) × (p ≡ true)
        go true true z = (refl, refl)
        go true false z = absurd (omega (arith, z))
        go false p z = absurd (omega (arith, z))

    first_here : first_at c.table e.place ≡ first
    unfolding first_at
    first_here = field_read h work own firsts e.place found.low

    scope_there : scope_fits place c ≡ (not (ltb 2 e.reserved) || leb (e.tail + e.fill - first + e.reserved) c.sizes.ring)
    unfolding scope_fits has_update end_of ring_of
    scope_there = rw (found.tail, found.fill, found.reserved, ← first_here, found.disk, found.place) refl

    scope_test : scope_fits place c ≡ (not (ltb 2 e.reserved) || leb (e.tail + e.fill - first + e.reserved) h.ring)
    scope_test =
        scope_there
        ∙ ap (λ (x : Carried). not (ltb 2 e.reserved) || leb (e.tail + e.fill - first + e.reserved) x.ring) (carried_back h work)

    scope_here : scope_in e first ≡ scope_of c number
    unfolding scope_in scope_of has_update end_of disk_of
    scope_here = rw (found.tail, found.fill, found.reserved, ← first_here, found.disk, found.place) refl

    -- the log and the words reserved are longer than the ring
    pub read_far : {b : Bool} → b ≡ (not (ltb 2 e.reserved) || leb (e.tail + e.fill - first + e.reserved) h.ring) → b ≡ false
        → Read c number (Err Stage)
    read_far test far = refused_read Stage (rw (standing.0, standing.1, scope_test ∙ sym test ∙ far) refl)

    module _ {b : Bool} (test : b ≡ (not (ltb 2 e.reserved) || leb (e.tail + e.fill - first + e.reserved) h.ring)) (near : b ≡ true)
        {k : Option Sizes} (known : k ≡ tested (sizes_at h.pages h.disks h.ring work) h.total) where
      known_here : k ≡ cond (sizes_fit c) (Some c.sizes) None
      unfolding sizes_fit
      known_here = known ∙ rw (sizes_here h work own, total_here h work own) refl

      scope_near : scope_fits place c ≡ true
      scope_near = scope_test ∙ sym test ∙ near

      -- the sizes are not within their bounds
      pub read_unsized : k ≡ None → Read c number (Err Stage)
      read_unsized unfit = refused_read Stage (rw (standing.0, standing.1, scope_near) (go (sizes_fit c) (sym known_here ∙ unfit)))
        where
          go : (f : Bool) → ◌≡◌ {A = Option Sizes} (cond f (Some c.sizes) None) None → ◌≡◌ {A = ℕ} 1 (cond f 0 1)
          go true z = cc
          go false z = refl

      pub read_found : {s : Sizes} → k ≡ Some s → {at : Scope} → at ≡ scope_in e first
          → Read c number (Ok (record { entry = e; scope = at; sizes = s }))
      read_found {s} fit {at} is = go (sizes_fit c) refl (sym known_here ∙ fit)
        where
          go : (f : Bool) → sizes_fit c ≡ f → cond f (Some c.sizes) None ≡ Some s → Read c number (Ok (record { entry = e; scope = at; sizes = s }))
          go true fits z =
              record {
                refusal = rw (standing.0, standing.1, scope_near, fits) refl;
                ready = λ t same.
                    rw (← ok_same same)
                    (record { entry = found; scope = is ∙ scope_here; sizes = cc; near = scope_near; fits = fits });
              }
          go false fits z = cc
