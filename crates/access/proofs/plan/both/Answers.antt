-- `access::plan::both` meets its contract: one row after the other. Assumes nothing.
use mathlib.Core.Path.{◌≡◌, refl, sym, ap, ◌∙◌}
use Prim.Native.Nat.{ℕ}
use lib.Dec.{eqb}
use borrow.Author.Tests.{eq-eqb, ne_eqb}
use Rattle.std.specs.Prelude.{Result, Ok, Err}
use Rattle.std.proofs.lemmas.Result.{err_from_is_err_and}
use Rattle.model.specs.Anchor.{anchor_words}
use Rattle.frame.specs.declared.entry.Entry.{Entry}
use Rattle.frame.specs.declared.refusal.Refusal.{Refusal}
use Rattle.frame.specs.declared.refusal.Refusal.TheVariants.{Stage, AnchorLength, ValueLength}
use Rattle.frame.specs.Refusal.{number_of, row_in}
use Rattle.frame.proofs.Refusals.{numbered, ok_same}
use Rattle.access.specs.declared.slots.Slot.{Slot}
use Rattle.access.specs.Plans.{early_of, Both}
use Rattle.access.proofs.plan.both.Goals.{then-fails_state-via-then-fails_state, then-fails_state-via-else-fails_state+then-fails_state-2}
use Rattle.access.proofs.plan.both.Goals as goal

refused : {f : Result Slot Refusal} {e : Result Entry Refusal} {anchor value : ℕ} (x : Refusal)
    → ((width : ℕ) → ((s : Slot) → f ≡ Ok s → s.width ≡ width) → number_of x ≡ early_of (row_in f) (row_in e) (eqb anchor anchor_words) (eqb value width))
    → Both f e anchor value (Err x)
refused x row = record { refusal = row; ready = λ s t is. cc }

pub returns-then-fails_state : goal.returns-then-fails_state
unfolding early_of
returns-then-fails_state c =
    elim c.then-fails_state.branch [
      | then-fails_state-via-then-fails_state w ↦ refused Stage (λ width same. rw (← w.if-fails_state.ensures) refl)
      | then-fails_state-via-else-fails_state+then-fails_state-2 w ↦
          refused Stage (λ width same. rw (← w.if-fails_state.ensures, ← w.if-fails_state-2.ensures) refl)
    ]

pub returns-then-anchor-ne-ANCHOR_WORDS : goal.returns-then-anchor-ne-ANCHOR_WORDS
unfolding early_of
returns-then-anchor-ne-ANCHOR_WORDS c =
    refused AnchorLength
    (λ width same. rw (← c.if-fails_state.ensures, ← c.if-fails_state-2.ensures, ne_eqb _ _ c.if-anchor-ne-ANCHOR_WORDS.true) refl)

pub returns-in_err-found : goal.returns-in_err-found
unfolding early_of
returns-in_err-found c =
    let p = err_from_is_err_and c.from_residual.result c.from_residual.ensures.1 in
    let x = c.in_err-found.field-0.0 in
    rw (p.1, p.2)
    (refused x
    (λ width same.
    rw (← c.if-fails_state.ensures, ← c.if-fails_state-2.ensures, eq-eqb _ _ c.if-anchor-ne-ANCHOR_WORDS.false, c.in_err-found.was, ne_eqb _ 0 (numbered x)) refl))

pub returns-in_err-entry : goal.returns-in_err-entry
unfolding early_of
returns-in_err-entry c =
    let p = err_from_is_err_and c.from_residual-in_err-entry.result c.from_residual-in_err-entry.ensures.1 in
    let x = c.in_err-entry.field-0.0 in
    rw (p.1, p.2)
    (refused x
    (λ width same.
    rw (← c.if-fails_state.ensures, ← c.if-fails_state-2.ensures, eq-eqb _ _ c.if-anchor-ne-ANCHOR_WORDS.false, c.in_ok-found.was, c.in_err-entry.was, ne_eqb _ 0 (numbered x)) refl))

pub returns-then-value-found : goal.returns-then-value-found
unfolding early_of
returns-then-value-found c =
    record {
      refusal =
          λ width same.
          rw (c.in_ok-found.was, c.in_ok-entry.was, eq-eqb _ _ c.if-anchor-ne-ANCHOR_WORDS.false, eq-eqb _ _ (c.if-value-found.true ∙ same c.in_ok-found.found c.in_ok-found.was)) refl;
      ready =
          λ s t is.
          let pair = ok_same is in (
            c.in_ok-found.was ∙ ap (λ p. Ok p.0) pair,
            c.in_ok-entry.was ∙ ap (λ p. Ok p.1) pair,
            c.if-value-found.true ∙ ap (λ p. p.0.width) pair,
          );
    }

pub returns-else-value-found : goal.returns-else-value-found
unfolding early_of
returns-else-value-found c =
    refused ValueLength
    (λ width same.
    rw (c.in_ok-found.was, c.in_ok-entry.was, eq-eqb _ _ c.if-anchor-ne-ANCHOR_WORDS.false, ne_eqb _ _ (λ e. c.if-value-found.false (e ∙ sym (same c.in_ok-found.found c.in_ok-found.was)))) refl)
