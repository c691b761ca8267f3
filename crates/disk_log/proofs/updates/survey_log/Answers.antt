-- `disk_log::updates::survey_log` meets its contract. The loop's invariant: what is counted and noted and what is found from p on is what is
-- found from the start on; an update has four words or more. Assumes nothing.
use Prim.Native.Nat.{◌/◌, ◌%◌}
use mathlib.Core.Path.{refl, sym, ◌∙◌}
use native.Mathlib.Omega.{arith}
use lib.Dec.{eqb}
use borrow.Author.Rules.{rules}
use Rattle.model.proofs.RingThenBuffer.{parts_end}
use Rattle.disk_log.specs.Ring.{EntriesOf}
use Rattle.disk_log.proofs.Fronts.{turn_none, turn_later}
use Rattle.disk_log.proofs.FrontSteps.{part_none, part_past, part_step}
use Rattle.disk_log.proofs.Surveying.{surveying_start, surveying_pass, surveying_update, noted_length, surveyed_end, surveyed_bad}
use Rattle.disk_log.proofs.updates.survey_log.Goals as goal

pub loop-p-init : goal.loop-p-init
loop-p-init c = (turn_none _ _ _, omega arith, omega arith, c.requires.ring_bound.3, λ s lies e. surveying_start _ _ _ _, search rules, search rules)

pub turn_at-turn-requires : goal.turn_at-turn-requires
turn_at-turn-requires c =
    let pre = c.requires in
    (pre.readable.0.ring_pos, pre.ring_bound.0, omega (arith, pre.readable.0.end_low, c.loop-p-test.true), c.loop-p.invariant.0)

pub front_at-front-requires : goal.front_at-front-requires
front_at-front-requires c = (c.requires.readable.0, c.loop-p-test.true, c.turn_at-turn.ensures)

pub overflow_add-next : goal.overflow_add-next
overflow_add-next c = let low = c.requires.readable.0.end_low in omega (arith, low, c.loop-p-test.true, c.in-Some.ensures.size.1)

pub shape_of-notes-in_default : goal.shape_of-notes-in_default
shape_of-notes-in_default c = c.loop-p.invariant.3 ∙ sym c.requires.ring_bound.3

pub returns-in_default : goal.returns-in_default
returns-in_default c =
    let s = c.args.sizes in
    let lies = c.requires.readable.1 in
    let e : EntriesOf s s.slots s.widths = record { bounds = c.requires.readable.2; same_slots = refl; same_widths = refl } in
    surveyed_bad _ _ _ (c.loop-p.invariant.4 s lies e) _ (part_none s _ _ _ c.args.number c.requires.ring_bound.1 c.loop-p-test.true c.part_end-stop.ensures (c.front_at-front.ensures s _ lies) (λ copy. c.in_default.ensures.words s e _ _ copy) refl)

pub shape_of-notes-then-stop-next : goal.shape_of-notes-then-stop-next
shape_of-notes-then-stop-next c = c.loop-p.invariant.3 ∙ sym c.requires.ring_bound.3

pub returns-then-stop-next : goal.returns-then-stop-next
returns-then-stop-next c =
    let s = c.args.sizes in
    let lies = c.requires.readable.1 in
    let e : EntriesOf s s.slots s.widths = record { bounds = c.requires.readable.2; same_slots = refl; same_widths = refl } in
    surveyed_bad _ _ _ (c.loop-p.invariant.4 s lies e) _ (part_past s _ _ _ c.args.number c.requires.ring_bound.1 c.loop-p-test.true c.part_end-stop.ensures (c.front_at-front.ensures s _ lies) (λ copy. c.in-Some.ensures.words s e _ _ copy) c.if-stop-next.true)

pub note-requires : goal.note-requires
note-requires c =
    let turn = c.loop-p in
    omega (arith, turn.invariant.1, turn.invariant.3, c.loop-p-test.true, c.requires.ring_bound.2)

pub overflow_add-count : goal.overflow_add-count
overflow_add-count c = omega (arith, c.loop-p.invariant.1, c.loop-p-test.true, c.requires.ring_bound.2)

pub overflow_add-words : goal.overflow_add-words
overflow_add-words c =
    omega (arith, c.loop-p.invariant.2, c.loop-p-test.true, c.requires.readable.0.end_low, c.in-Some.ensures.size.1)

pub loop-p-smaller-then-is_update_of : goal.loop-p-smaller-then-is_update_of
loop-p-smaller-then-is_update_of c = omega (arith, c.in-Some.ensures.size.0, c.loop-p-test.true)

pub loop-p-preserved-then-is_update_of : goal.loop-p-preserved-then-is_update_of
loop-p-preserved-then-is_update_of c =
    let turn = c.loop-p in
    let s = c.args.sizes in
    let lies = c.requires.readable.1 in
    let e : EntriesOf s s.slots s.widths = record { bounds = c.requires.readable.2; same_slots = refl; same_widths = refl } in
    let mine = sym c.is_update_of.ensures ∙ c.if-is_update_of.true in
    let here = part_step s _ _ _ c.args.number c.requires.ring_bound.1 c.loop-p-test.true c.part_end-stop.ensures (c.front_at-front.ensures s _ lies) (λ copy. c.in-Some.ensures.words s e _ _ copy) (λ z. omega (arith, c.in-Some.ensures.size.0, z)) c.if-stop-next.false in
    let four = here.four c.requires.readable.2 mine in (
      turn_later c.turn_at-turn.ensures _ (omega arith),
      omega (arith, turn.invariant.1, four),
      omega (arith, turn.invariant.2),
      noted_length turn.notes (turn.count / 128) turn.p (eqb (turn.count % 128) 0) c.note.ensures ∙ turn.invariant.3,
      λ s lies e. surveying_update _ _ _ (turn.invariant.4 s lies e) (omega arith) (part_step s _ _ _ c.args.number c.requires.ring_bound.1 c.loop-p-test.true c.part_end-stop.ensures (c.front_at-front.ensures s _ lies) (λ copy. c.in-Some.ensures.words s e _ _ copy) (λ z. omega (arith, c.in-Some.ensures.size.0, z)) c.if-stop-next.false) mine
          (omega (arith, turn.invariant.1, turn.invariant.3, c.loop-p-test.true, c.requires.ring_bound.2)) c.note.ensures,
      turn.invariant.5,
      turn.invariant.6,
    )

pub loop-p-smaller : goal.loop-p-smaller
loop-p-smaller c = omega (arith, c.in-Some.ensures.size.0, c.loop-p-test.true)

pub loop-p-preserved : goal.loop-p-preserved
loop-p-preserved c =
    let turn = c.loop-p in
    let other = sym c.is_update_of.ensures ∙ c.if-is_update_of.false in (
      turn_later c.turn_at-turn.ensures _ (omega arith),
      omega (arith, turn.invariant.1),
      omega (arith, turn.invariant.2),
      turn.invariant.3,
      λ s lies e. surveying_pass _ _ _ (turn.invariant.4 s lies e) (omega arith) (part_step s _ _ _ c.args.number c.requires.ring_bound.1 c.loop-p-test.true c.part_end-stop.ensures (c.front_at-front.ensures s _ lies) (λ copy. c.in-Some.ensures.words s e _ _ copy) (λ z. omega (arith, c.in-Some.ensures.size.0, z)) c.if-stop-next.false) other,
      turn.invariant.5,
      turn.invariant.6,
    )

pub shape_of-notes : goal.shape_of-notes
shape_of-notes c = c.loop-p.invariant.3 ∙ sym c.requires.ring_bound.3

pub returns : goal.returns
returns c =
    let s = c.args.sizes in
    let lies = c.requires.readable.1 in
    let e : EntriesOf s s.slots s.widths = record { bounds = c.requires.readable.2; same_slots = refl; same_widths = refl } in
    surveyed_end _ _ _ (c.loop-p.invariant.4 s lies e) _ (parts_end _ _ _ _ c.requires.ring_bound.1 _ c.loop-p-test.false)
