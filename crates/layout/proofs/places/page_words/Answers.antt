use native.Mathlib.Omega.{arith}
use Rattle.model.specs.Sizes.{slots_in, width_in, page_words}
use Rattle.layout.proofs.places.page_words.Goals as goal

pub returns : goal.returns
unfolding page_words slots_in width_in
returns c = (c.words_in_slots-words.ensures, omega arith)
