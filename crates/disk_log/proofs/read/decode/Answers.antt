-- `disk_log::read::decode` meets its contract: each answer is the definition's, by the tests that led to it.
use mathlib.Core.Path.{sym, ◌∙◌}
use native.Mathlib.Omega.{arith}
use Rattle.model.specs.Decode.{decode_at}
use Rattle.model.proofs.RecordSizes.{has_size}
use Rattle.disk_log.proofs.Decoding.{decode_none, decode_past, decode_zero, decode_misplaced, decode_placed, decode_is_close}
use Rattle.disk_log.proofs.read.decode.Goals as goal

pub word-w-requires : goal.word-w-requires
word-w-requires g c = c.requires.reads _ (omega arith) (omega arith) c.requires.inside.0

pub returns-in_default : goal.returns-in_default
unfolding decode_at
returns-in_default g c =
    λ s read reads tells.
    rw (← reads _ _ (omega arith) (omega arith) c.requires.inside.0 c.word-w.ensures)
    (decode_none s _ _ _ _ _ (sym c.record_size.ensures ∙ c.in_default.is))

pub overflow_add-next : goal.overflow_add-next
overflow_add-next g c =
    omega (arith, c.requires.inside, (has_size _ _ _ (sym c.record_size.ensures ∙ c.in-Some.is)).most)

pub returns-then-end-next : goal.returns-then-end-next
unfolding decode_at
returns-then-end-next g c =
    λ s read reads tells.
    rw (← reads _ _ (omega arith) (omega arith) c.requires.inside.0 c.word-w.ensures)
    (decode_past s _ _ _ _ _ _ (sym c.record_size.ensures ∙ c.in-Some.is) c.if-end-next.true)

pub word-number-requires : goal.word-number-requires
word-number-requires g c =
    let size = has_size _ _ _ (sym c.record_size.ensures ∙ c.in-Some.is) in
    c.requires.reads _ (omega arith) (omega arith) (omega (arith, size.least))

pub returns-then-number-eq0 : goal.returns-then-number-eq0
unfolding decode_at
returns-then-number-eq0 g c =
    let size = has_size _ _ _ (sym c.record_size.ensures ∙ c.in-Some.is) in
    λ s read reads tells.
    rw (
      ← reads _ _ (omega arith) (omega arith) c.requires.inside.0 c.word-w.ensures,
      ← reads _ _ (omega arith) (omega arith) (omega (arith, size.least)) c.word-number.ensures,
    )
    (decode_zero s _ _ _ _ _ _ (sym c.record_size.ensures ∙ c.in-Some.is) c.if-end-next.false c.if-number-eq0.true)

pub returns-then-kind-ge2 : goal.returns-then-kind-ge2
unfolding decode_at
returns-then-kind-ge2 g c =
    let size = has_size _ _ _ (sym c.record_size.ensures ∙ c.in-Some.is) in
    λ s read reads tells.
    rw (
      ← reads _ _ (omega arith) (omega arith) c.requires.inside.0 c.word-w.ensures,
      ← reads _ _ (omega arith) (omega arith) (omega (arith, size.least)) c.word-number.ensures,
    )
    (c.decode_close.ensures
    ∙ decode_is_close s _ _ _ _ _ _ (sym c.record_size.ensures ∙ c.in-Some.is) c.if-end-next.false c.if-number-eq0.false c.if-kind-ge2.true)

pub word-copy-requires : goal.word-copy-requires
word-copy-requires g c =
    let size = has_size _ _ _ (sym c.record_size.ensures ∙ c.in-Some.is) in
    c.requires.reads _ (omega arith) (omega arith) (omega (arith, size.if_change c.if-kind-ge2.false))

pub returns-then-is_outside : goal.returns-then-is_outside
unfolding decode_at
returns-then-is_outside g c =
    let size = has_size _ _ _ (sym c.record_size.ensures ∙ c.in-Some.is) in
    λ s read reads tells.
    rw (
      ← reads _ _ (omega arith) (omega arith) c.requires.inside.0 c.word-w.ensures,
      ← reads _ _ (omega arith) (omega arith) (omega (arith, size.least)) c.word-number.ensures,
      ← reads _ _ (omega arith) (omega arith) (omega (arith, size.if_change c.if-kind-ge2.false)) c.word-copy.ensures,
    )
    (decode_misplaced s _ _ _ _ _ _ (sym c.record_size.ensures ∙ c.in-Some.is) c.if-end-next.false c.if-number-eq0.false
    c.if-kind-ge2.false (sym (tells _ _ c.word-w.type_inv c.is_outside.ensures) ∙ c.if-is_outside.true))

pub returns : goal.returns
unfolding decode_at
returns g c =
    let size = has_size _ _ _ (sym c.record_size.ensures ∙ c.in-Some.is) in
    λ s read reads tells.
    rw (
      ← reads _ _ (omega arith) (omega arith) c.requires.inside.0 c.word-w.ensures,
      ← reads _ _ (omega arith) (omega arith) (omega (arith, size.least)) c.word-number.ensures,
      ← reads _ _ (omega arith) (omega arith) (omega (arith, size.if_change c.if-kind-ge2.false)) c.word-copy.ensures,
    )
    (c.change_of.ensures
    ∙ decode_placed s _ _ _ _ _ _ (sym c.record_size.ensures ∙ c.in-Some.is) c.if-end-next.false c.if-number-eq0.false
    c.if-kind-ge2.false (sym (tells _ _ c.word-w.type_inv c.is_outside.ensures) ∙ c.if-is_outside.false))
