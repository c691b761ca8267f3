-- `table::sound::places_sound` meets its contract: the places passed are sound, and the sums are over them. Assumes nothing.
use Prim.Native.Nat.{min}
use mathlib.Core.Bool.{true≢false}
use lib.ListN.{length}
use mathlib.Core.Path.{◌≡◌, refl, sym, ap, ◌∙◌}
use native.Mathlib.Omega.{arith}
use borrow.Author.Rules.{rules}
use lib.ListN.{get_or-replicate}
use Rattle.model.specs.Below.{sum_below, all_below}
use Rattle.model.proofs.Below.{all_more, all_stop, all_done}
use Rattle.table.specs.Parts.{cap}
use Rattle.table.proofs.Places.{reserved_more, reserved_all}
use Rattle.table.proofs.Tests.{place_computed}
use Rattle.table.proofs.sound.places_sound.Goals as goal

pub loop-i-init : goal.loop-i-init
unfolding all_below sum_below
loop-i-init c = (refl, λ d h. rw c.requires.1 (get_or-replicate 8 d 0 0 h))

pub returns-then-not-entry_sound : goal.returns-then-not-entry_sound
returns-then-not-entry_sound c =
    record {
      d_after = λ e d h. absurd (true≢false (sym e));
      value = all_stop _ _ c.loop-i.i (omega arith) (place_computed _ _ _ _ _ ∙ sym c.entry_sound.ensures ∙ c.if-not-entry_sound.true);
    }

pub add_place-requires : goal.add_place-requires
add_place-requires c = (c.loop-i.auto.sums ∙ ap length c.requires.1, λ d h. omega (arith, c.loop-i.invariant.1 d h))

pub loop-i-preserved : goal.loop-i-preserved
loop-i-preserved c = (
  all_more _ _ c.loop-i.invariant.0 (place_computed _ _ _ _ _ ∙ sym c.entry_sound.ensures ∙ c.if-not-entry_sound.false),
  λ d h. reserved_more _ _ _ d _ _ _ _ _ (c.loop-i.invariant.1 d h) refl (c.add_place.ensures d h),
)

pub returns : goal.returns
returns c =
    let a = c.args in
    let last : c.loop-i.i ≡ 16 = omega arith in
    record {
      d_after = λ e d h. rw last at (c.loop-i.invariant.1 d h) ∙ ap (min cap) (reserved_all a.numbers.now a.homes.now a.reserved.now d);
      value = all_done _ _ _ (search rules) (omega arith) c.loop-i.invariant.0;
    }
