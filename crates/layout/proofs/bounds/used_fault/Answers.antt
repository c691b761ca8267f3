use native.Mathlib.Omega.{arith}
use Rattle.layout.proofs.Faults.{no_words, too_many, too_wide, all_right}
use Rattle.layout.proofs.bounds.used_fault.Goals as goal

pub returns-then-words-eq0 : goal.returns-then-words-eq0
returns-then-words-eq0 c = (omega arith, rw (no_words _ _ (rw c.words_in_slots-words.ensures at c.if-words-eq0.true)))

pub returns-then-words-gt128 : goal.returns-then-words-gt128
returns-then-words-gt128 c = (omega arith, rw (too_many _ _ (rw c.words_in_slots-words.ensures at c.if-words-gt128.true)))

pub returns-then-width-gt32 : goal.returns-then-width-gt32
returns-then-width-gt32 c = (omega arith, rw (too_wide _ _ c.if-width-gt32.true))

pub returns-else-width-gt32 : goal.returns-else-width-gt32
returns-else-width-gt32 c =
    let words = c.words_in_slots-words.ensures in
    (omega arith, rw (all_right _ _ (rw words at c.if-words-eq0.false) (rw words at c.if-words-gt128.false) c.if-width-gt32.false))
