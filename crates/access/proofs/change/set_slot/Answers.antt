-- `access::change::set_slot` meets its contract: the words, then the owner. Assumes nothing.
use mathlib.Core.Path.{refl, ◌∙◌}
use Rattle.access.proofs.Differences.{part_all}
use Rattle.access.proofs.change.set_slot.Goals as goal

pub returns : goal.returns
returns c = (c.copy_words.ensures ∙ rw (part_all c.args.value.now) refl, refl)
